-- What a view of two sectors says, and what it answers, by computing.
--
-- The station has a wall before it from (8, 0) to (0, 8), seen until the place 5; from there on nothing is first. At
-- the
-- place 2 stands a corner at a distance of 4 that is led into on the way out.
use Rattle.std.proofs.Common.{◌≡◌, [], ◌∷◌, pos, neg_ℤ, refl}
use Rattle.std.specs.Prelude.{true, false, Some, None}
use Rattle.plane_spec.specs.Vectors.{point}
use Rattle.view_laws.specs.declared.view.Front.{Front}
use Rattle.view_laws.specs.declared.view.Sector.{Sector}
use Rattle.view_laws.specs.Views.{radial_by, radial_between, radial_on, is_seen_by, stop_by, number_by}

abbrev wall : Front
wall = record { edge = point (neg_ℤ (pos 8)) (pos 8); spread = pos 64; number = 7; hides = false }

abbrev corner : Sector
corner = record {
  place = 2;
  way = point (pos 2) (pos 2);
  on = Some wall;
  ahead = Some 4;
  behind = None;
  after = Some wall;
}

abbrev end : Sector
end = record {
  place = 5;
  way = point (pos 0) (pos 8);
  on = None;
  ahead = None;
  behind = None;
  after = None;
}

-- before the first sector, at it, between the two, and after both
first : radial_by (Some wall) (corner ∷ end ∷ []) 1 ≡ radial_between (Some wall)
unfolding radial_by
first = refl

at_corner : radial_by (Some wall) (corner ∷ end ∷ []) 2 ≡ radial_on corner
unfolding radial_by
at_corner = refl

between : radial_by (Some wall) (corner ∷ end ∷ []) 4 ≡ radial_between (Some wall)
unfolding radial_by
between = refl

after : radial_by (Some wall) (corner ∷ end ∷ []) 9 ≡ radial_between None
unfolding radial_by
after = refl

-- a point on the wall is seen, one behind it isn't
on_wall : is_seen_by false (radial_between (Some wall)) (point (pos 6) (pos 2)) ≡ true
unfolding is_seen_by
on_wall = refl

behind_wall : is_seen_by false (radial_between (Some wall)) (point (pos 7) (pos 2)) ≡ false
unfolding is_seen_by
behind_wall = refl

-- a point past the corner isn't seen, one up to it is
past_corner : is_seen_by false (radial_on corner) (point (pos 3) (pos 3)) ≡ false
unfolding is_seen_by
past_corner = refl

up_to_corner : is_seen_by false (radial_on corner) (point (pos 2) (pos 2)) ≡ true
unfolding is_seen_by
up_to_corner = refl

-- where the station stands on what is blocked, nothing is seen
blocked : is_seen_by true (radial_between None) (point (pos 1) (pos 0)) ≡ false
unfolding is_seen_by
blocked = refl

-- the ray along (2, 6) meets the wall after one step, the one along (1, 1) the corner after two
to_wall : stop_by false (radial_between (Some wall)) (point (pos 2) (pos 6))
    ≡ Some (record { num = pos 64; den = pos 64 })
unfolding stop_by
to_wall = refl

to_corner : stop_by false (radial_on corner) (point (pos 1) (pos 1)) ≡ Some (record { num = pos 4; den = pos 2 })
unfolding stop_by
to_corner = refl

named : number_by (Some wall) ≡ Some 7
named = refl
