-- What a view tells is small.
use Rattle.std.proofs.Common.{◌≡◌, ◌≢◌, ℕ, ◌+◌, ◌<◌, ◌≤◌, ℤ, pos, ◌+ℤ◌, ◌-ℤ◌, ◌<ℤ◌, ◌-◌, arith, ap, refl}
use Rattle.std.proofs.Common.{sym, ◌∙◌, subst, List, length, get_or}
use Rattle.std.specs.Prelude.{Bool, true, int_lt, unsigned_abs, Option, Some, None, IfSome, All}
use Rattle.std.specs.Option.{option_map}
use Rattle.std.specs.List.Sorted.{IsNonDecreasingBy}
use Rattle.std.proofs.lemmas.Int.{ints}
use Rattle.std.proofs.lemmas.List.Elements.{All-append}
use Rattle.plane_spec.specs.declared.Point.{Point}
use Rattle.plane_spec.specs.declared.Segment.{Segment}
use Rattle.plane_spec.specs.declared.Corner.{Corner}
use Rattle.plane_spec.specs.Vectors.{point, vector, cross_of, InRange, IsWithin, IsDirection}
use Rattle.plane_spec.specs.Cones.{IsCornerInRange}
use Rattle.plane_spec.specs.Segments.{IsSegmentInRange}
use Rattle.exact_geom.proofs.Bounds.{product_within}
use Rattle.int_laws.proofs.Ring.{times_minus}
use Rattle.sight_spec.specs.Scene.{Scene, blockers_of_scene}
use Rattle.sight_core.specs.Scenes.{IsOfSoundPlan}
use Rattle.sight_core.proofs.Seen.{corners-in_range, walls-in_range, screens-in_range}
use Rattle.front_laws.specs.Seen.{Seen, seen_of}
use Rattle.sight_spec.specs.Isovist.{no_segment}
use Rattle.front_laws.proofs.Tests.{by_lt, by_cases, both_of, mapped_at, some_same, none_some}
use Rattle.sweep_laws.specs.First.{IsFirst}
use Rattle.sweep_laws.specs.Groups.{no_corner, is_ahead}
use Rattle.view_laws.specs.declared.view.Front.{Front}
use Rattle.view_laws.specs.declared.view.Ground.{Ground}
use Rattle.view_laws.specs.declared.view.Sector.{Sector}
use Rattle.view_laws.specs.Views.{front_of, length_of, radial_by, radial_at, radial_between, IsRadial}
use Rattle.view_laws.specs.Views.{IsSoFarOrNone, AreInOrder}
use Rattle.view_laws.proofs.Cursor.{radial_before, radial_from}
use Rattle.station_laws.specs.Grounds.{IsGroundOf, at_corner, on_wall, on_nothing}
use Rattle.sight_sweep.specs.declared.told.Told.{Told}
use Rattle.sight_sweep.specs.Told.{radial, IsFrontTo, IsFar, IsTold}
use Rattle.sight_sweep.specs.Grounds.{IsGroundInRange}
use Rattle.sight_sweep.proofs.Seeing.{seen_left, seen_right, unseen}

-- ---- what is first

-- a wall or screen is seen between its own ends
record IsSeenIn (s : Seen) : Type 0 where
  from_in : IsDirection s.from
  to_in : IsDirection s.to
  edge_in : IsDirection (vector s.from s.to)

within_some : (p a : ℤ) → IsWithin (pos 100000) p → IsWithin (pos 100000) a → IsWithin (pos 400000) (a -ℤ p)
within_some p a h k = record { low = omega (arith, ints, h, k); high = omega (arith, ints, h, k) }

within_both : (p a b : ℤ) → IsWithin (pos 100000) a → IsWithin (pos 100000) b
    → IsWithin (pos 400000) ((b -ℤ p) -ℤ (a -ℤ p))
within_both p a b h k = record { low = omega (arith, ints, h, k); high = omega (arith, ints, h, k) }

vector_in : (p x : Point) → InRange p → InRange x → IsDirection (vector p x)
vector_in p x p_in x_in = record { x = within_some p.x x.x p_in.x x_in.x; y = within_some p.y x.y p_in.y x_in.y }

between_in : (p a b : Point) → InRange p → InRange a → InRange b
    → IsSeenIn (record { from = vector p a; to = vector p b })
between_in p a b p_in a_in b_in = record {
  from_in = vector_in p a p_in a_in;
  to_in = vector_in p b p_in b_in;
  edge_in = record { x = within_both p.x a.x b.x a_in.x b_in.x; y = within_both p.y a.y b.y a_in.y b_in.y };
}

seen_in : (p : Point) (w : Segment) (s : Seen) → InRange p → IsSegmentInRange w → seen_of p w ≡ Some s → IsSeenIn s
seen_in p w s p_in w_in e = by_cases (int_lt (pos 0) (cross_of (vector p w.a) (vector p w.b)))
    (λ left. subst IsSeenIn (some_same (record { from = vector p w.a; to = vector p w.b }) s (seen_left p w left ∙ e))
    (between_in p w.a w.b p_in w_in.a w_in.b))
    (λ other. by_cases (int_lt (cross_of (vector p w.a) (vector p w.b)) (pos 0))
    (λ right. subst IsSeenIn (some_same (record { from = vector p w.b; to = vector p w.a }) s
    (seen_right p w other right ∙ e)) (between_in p w.b w.a p_in w_in.b w_in.a))
    (λ none. none_some s (unseen p w other none ∙ e)))

cross_within : (d e : Point) → IsDirection d → IsDirection e → IsWithin (pos 320000000000) (cross_of d e)
cross_within d e d_in e_in =
    let one = product_within 400000 400000 d.x e.y d_in.x e_in.y in
    let two = product_within 400000 400000 d.y e.x d_in.y e_in.x in
    record { low = omega (arith, ints, one.low, two.high); high = omega (arith, ints, one.high, two.low) }

width_is : (s : Seen) (d : Point) → cross_of d (vector s.from s.to) ≡ cross_of d s.to +ℤ cross_of s.from d
width_is s d =
    let a = times_minus d.x s.to.y s.from.y in
    let b = times_minus d.y s.to.x s.from.x in
    omega (arith, ints, a, b)

above : (z u v : ℤ) → z ≡ u +ℤ v → int_lt (pos 0) v ≡ true → int_lt (pos 0) u ≡ true → pos 0 <ℤ z
above z u v e h k = grind (arith, ints)

pub lines_in : (scene : Scene) → IsOfSoundPlan scene → All IsSegmentInRange (blockers_of_scene scene)
lines_in scene of = All-append IsSegmentInRange scene.walls scene.screens (walls-in_range scene of)
    (screens-in_range scene of)

first_to : (scene : Scene) (p d : Point) → IsOfSoundPlan scene → InRange p → (first : Option (ℕ × Seen))
    → IsFirst scene p d first
    → IfSome (option_map (front_of scene p) first) (IsFrontTo d)
first_to scene p d of p_in None h = tt
first_to scene p d of p_in (Some f) h =
    let s = seen_in p (get_or (blockers_of_scene scene) f.0 no_segment) f.1 p_in (lines_in scene of f.0 no_segment h.within)
    (sym (mapped_at (seen_of p) (blockers_of_scene scene) f.0 no_segment None h.within) ∙ h.seen) in
    let two = both_of (int_lt (pos 0) (cross_of f.1.from d)) (int_lt (pos 0) (cross_of d f.1.to)) h.spanned in
    record {
      edge = s.edge_in;
      spread = cross_within f.1.from f.1.to s.from_in s.to_in;
      across = above (cross_of d (vector f.1.from f.1.to)) (cross_of d f.1.to) (cross_of f.1.from d)
          (width_is f.1 d) two.0 two.1;
    }

-- ---- how far

length_small : (d : Point) → IsDirection d → length_of d ≤ 800000
length_small d d_in = sum_small (unsigned_abs d.x) (unsigned_abs d.y) (part_small d.x d_in.x) (part_small d.y d_in.y)
  where
    part_small : (z : ℤ) → IsWithin (pos 400000) z → unsigned_abs z ≤ 400000
    part_small z h = omega (arith, ints, h)

    sum_small : (a b : ℕ) → a ≤ 400000 → b ≤ 400000 → a + b ≤ 800000
    sum_small a b h k = omega (arith, h, k)

so_far : (scene : Scene) (p : Point) (test : Corner → Bool) → IsOfSoundPlan scene → InRange p → (far : Option ℕ)
    → IsSoFarOrNone p test scene.corners far → IfSome far IsFar
so_far scene p test of p_in None h = tt
so_far scene p test of p_in (Some far) h =
    subst (λ n. n ≤ 800000) h.far_is
    (length_small (vector p (get_or scene.corners h.at no_corner).here)
    (vector_in p (get_or scene.corners h.at no_corner).here p_in
    ((corners-in_range scene of) h.at no_corner h.within).here))

-- what is told of a direction
pub told_is : (scene : Scene) (p d : Point) (told : Told) → IsOfSoundPlan scene → InRange p
    → IsRadial scene p d (radial told) → IsTold d told
told_is scene p d told of p_in r = record {
  front = subst (λ f. IfSome f (IsFrontTo d)) (sym r.front) (first_to scene p d of p_in r.first r.is_first);
  ahead = so_far scene p (is_ahead p d) of p_in told.ahead r.ahead.some;
}

-- ---- what the station stands on

pub ground_in : (scene : Scene) (p : Point) (under : Ground) → IsOfSoundPlan scene → IsGroundOf scene p under
    → IsGroundInRange under
ground_in scene p under of (at_corner c f) = subst IsCornerInRange f.corner
    ((corners-in_range scene of) f.number no_corner f.within)
ground_in scene p under of (on_wall w none o) = subst IsSegmentInRange o.wall
    ((walls-in_range scene of) o.number no_segment o.within)
ground_in scene p under of (on_nothing none bare) = refl

-- ---- sectors

pub by_place : (sectors : List Sector) → AreInOrder sectors → IsNonDecreasingBy (λ s. s.place) sectors
by_place sectors order i j d le lt = by_lt i j
    (λ early. at_most (get_or sectors i d).place (get_or sectors j d).place (order i j d early lt))
    (λ late. same i j late le)
  where
    at_most : (m n : ℕ) → m < n → m ≤ n
    at_most m n h = omega (arith, h)

    same : (i j : ℕ) → j ≤ i → i ≤ j → (get_or sectors i d).place ≤ (get_or sectors j d).place
    same i j h k = let e : i ≡ j = omega (arith, h, k) in subst
        (λ m. (get_or sectors i d).place ≤ (get_or sectors m d).place) e (own (get_or sectors i d).place)
      where
        own : (n : ℕ) → n ≤ n
        own n = omega arith

-- no sector
no_sector : Sector
no_sector = record { place = 0; way = point (pos 0) (pos 0); on = None; ahead = None; behind = None; after = None }

-- what is told before the first sector
pub told_first : (before : Option Front) (sectors : List Sector) (place count : ℕ) → count ≡ 0
    → ((k : ℕ) (s : Sector) → count ≤ k → k < length sectors → place < (get_or sectors k s).place)
    → radial_by before sectors place ≡ radial_between before
told_first before sectors place count none beyond =
    radial_before before sectors place no_sector (λ lt. beyond 0 no_sector (start count none) lt)
  where
    start : (n : ℕ) → n ≡ 0 → n ≤ 0
    start n h = omega (arith, h)

-- what is told from a sector on
pub told_from : (before : Option Front) (sectors : List Sector) (place count : ℕ) (s : Sector) → AreInOrder sectors
    → count ≢ 0 → count ≤ length sectors
    → ((k : ℕ) (s : Sector) → k < count → (get_or sectors k s).place ≤ place)
    → ((k : ℕ) (s : Sector) → count ≤ k → k < length sectors → place < (get_or sectors k s).place)
    → s ≡ get_or sectors (count - 1) s → radial_by before sectors place ≡ radial_at s place
told_from before sectors place count s order some inside reached beyond read =
    radial_from before sectors (count - 1) place s order (within count (length sectors) some inside)
    (reached (count - 1) s (below count some)) (λ lt. beyond (count - 1 + 1) s (from count some) lt)
    ∙ ap (λ t. radial_at t place) (sym read)
  where
    within : (n m : ℕ) → n ≢ 0 → n ≤ m → n - 1 < m
    within n m h k = omega (arith, h, k)

    below : (n : ℕ) → n ≢ 0 → n - 1 < n
    below n h = omega (arith, h)

    from : (n : ℕ) → n ≢ 0 → n ≤ n - 1 + 1
    from n h = omega (arith, h)
