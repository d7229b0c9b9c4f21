-- The wall or screen of a run spans all of the run.
--
-- The wall of a sector is across the ray in the direction of the sum, and met ahead; so one of its ends lies to the right
-- of the ray and the other to the left, less than a half turn apart. Both ends are corners, so that directions of corners
-- point to them, and none lies strictly within the sector. So the wall spans the sector (`Wedge`). A run is made of
-- sectors that follow each other, and the same wall spans each: so it spans the run.
use Rattle.std.proofs.Common.{◌≡◌, ◌∙◌, ℕ, ◌<◌, ℤ, pos, neg_ℤ, ◌-ℤ◌, ◌<ℤ◌, arith, Bool, true, false, not, ◌&&◌, eqb, List, [], ◌∷◌, map, length, get_or, Option, Some, None, refl, sym, ap, subst}
use Rattle.std.specs.Prelude.{int_lt, int_le}
use Rattle.std.specs.List.{All}
use Rattle.std.specs.List.Sorted.{ties}
use Rattle.std.proofs.lemmas.Int.{ints}
use Rattle.std.proofs.lemmas.Bool.{and_parts, or_cases, not-true, both_ways, eqb-true, false_from_ne_true}
use Rattle.std.proofs.lemmas.List.Elements.{All-nil, All-cons, All-head, All-tail, All-map, All-weaker}
use Rattle.std.proofs.lemmas.List.Quantifiers.{position-Some}
use Rattle.std.proofs.Common.{◌⊎◌, inl, inr}
use Rattle.int_laws.proofs.Tests.{tested_less}
use Rattle.int_laws.proofs.Signs.{positive_tested, not_positive_tested}
use Rattle.plane_spec.specs.declared.Point.{Point}
use Rattle.plane_spec.specs.declared.Segment.{Segment}
use Rattle.plane_spec.specs.Vectors.{vector, cross_of, turns_before}
use Rattle.plane_spec.specs.Fractions.{fraction}
use Rattle.plan_spec.specs.Plan.{Plan}
use Rattle.sight_spec.specs.Scene.{Scene, scene_of, blockers_of_scene}
use Rattle.sight_spec.specs.Stops.{is_across, wall_parameter, blocker_hit, is_nearest, near_wall_of, ray_hit}
use Rattle.sight_spec.specs.Isovist.{corner_directions, gaps_to, gaps_of, sum_of, stops_at_once, wall_between, Sector, sector_in, sectors_of, Run, run, goes_on, run_before, run_of_sector, has_wall, runs_of, blocker_at, no_segment}
use Rattle.exact_geom.proofs.Turns.{cross_of_exchanged}
use Rattle.isovist_laws.specs.Spans.{Wedge, Spans, forth, back, IsSpanned}
use Rattle.isovist_laws.proofs.Wedge.{wedge_of_gap, wedges_join}
use Rattle.isovist_laws.proofs.Between.{IsBetween, between_alike}
use Rattle.isovist_laws.proofs.Gaps.{HasNoneBetween, gaps_empty}
use Rattle.isovist_laws.proofs.Places.{HasCorner, ends_cornered}
use Rattle.isovist_laws.proofs.Directions.{directed_by_cross, directions_directed, directions_rise, points_to_corner}

clash : {A : Type 0} → (t : Bool) → t ≡ false → t ≡ true → A
clash t h k = absurd (both_ways t h k)

-- ---- no corner lies strictly in a gap

-- where a corner stands at q, the vector to it isn't strictly between the directions of a gap
no_corner_between : (scene : Scene) (p q e f : Point) → HasCorner scene.corners q
    → All (λ x. IsBetween e f x → ⊥) (corner_directions scene p) → IsBetween e f (vector p q) → ⊥
no_corner_between scene p q e f stands none b =
    let v = vector p q in
    let some = directed_by_cross e v b.after in
    points_to_corner scene p q stands some
    (λ k d l.
    let x = get_or (corner_directions scene p) k d in
    false_from_ne_true (ties turns_before v x)
    (λ h. let parts = and_parts (not (turns_before v x)) (not (turns_before x v)) h in
    none k d l
    (between_alike e f v x some (directions_directed scene p k d l) (not-true (turns_before v x) parts.0)
    (not-true (turns_before x v) parts.1) b)))

-- ---- what a ray meets nearest

-- it is across the ray, and ahead
hit_by : (p d : Point) (lines : List Segment) (w : Segment) → is_nearest p d lines w ≡ true
    → (is_across p d w && int_lt (pos 0) (wall_parameter p d w).num) ≡ true
unfolding blocker_hit
hit_by p d lines w h = by (is_across p d w && int_lt (pos 0) (wall_parameter p d w).num) refl
  where
    by : (t : Bool) → (is_across p d w && int_lt (pos 0) (wall_parameter p d w).num) ≡ t → t ≡ true
    by true e = refl
    by false e = rw e at h

-- one end is to the right and the other to the left, and which of them by the way that the wall runs
record Across (p d : Point) (a b : Point) : Type 0 where
  right : cross_of d a <ℤ pos 0
  left : pos 0 <ℤ cross_of d b
  wide : pos 0 <ℤ cross_of a b

positive_den : (num den : ℤ) → pos 0 <ℤ den → (fraction num den).num ≡ num
positive_den num den up = rw (positive_tested den up) refl

negative_den : (num den : ℤ) → den <ℤ pos 0 → (fraction num den).num ≡ neg_ℤ num
negative_den num den low = rw (not_positive_tested den (omega (arith, ints))) refl

across_by : (p d : Point) (w : Segment) → (is_across p d w && int_lt (pos 0) (wall_parameter p d w).num) ≡ true
    → Across p d (vector p w.a) (vector p w.b) ⊎ Across p d (vector p w.b) (vector p w.a)
across_by p d w h =
    let a = vector p w.a in
    let b = vector p w.b in
    let parts = and_parts (is_across p d w) (int_lt (pos 0) (wall_parameter p d w).num) h in
    let ahead = tested_less (pos 0) (wall_parameter p d w).num parts.1 in
    elim (or_cases (int_lt (cross_of d a) (pos 0) && int_lt (pos 0) (cross_of d b))
    (int_lt (pos 0) (cross_of d a) && int_lt (cross_of d b) (pos 0)) parts.0) [
      | inl sides ↦
          let both = and_parts (int_lt (cross_of d a) (pos 0)) (int_lt (pos 0) (cross_of d b)) sides in
          let right = tested_less (cross_of d a) (pos 0) both.0 in
          let left = tested_less (pos 0) (cross_of d b) both.1 in
          let is = positive_den (cross_of a b) (cross_of d b -ℤ cross_of d a) (omega (arith, ints, right, left)) in
          inl (record { right = right; left = left; wide = subst (λ t. pos 0 <ℤ t) is ahead })
      | inr sides ↦
          let both = and_parts (int_lt (pos 0) (cross_of d a)) (int_lt (cross_of d b) (pos 0)) sides in
          let left = tested_less (pos 0) (cross_of d a) both.0 in
          let right = tested_less (cross_of d b) (pos 0) both.1 in
          let is = negative_den (cross_of a b) (cross_of d b -ℤ cross_of d a) (omega (arith, ints, right, left)) in
          let turned : pos 0 <ℤ neg_ℤ (cross_of a b) = subst (λ t. pos 0 <ℤ t) is ahead in
          inr (record {
            right = right;
            left = left;
            wide = subst (λ t. pos 0 <ℤ t) (sym (cross_of_exchanged a b)) turned;
          })
    ]

-- ---- what a gap shows

record Seen (scene : Scene) (p e f : Point) (k : ℕ) : Type 0 where
  turned : pos 0 <ℤ cross_of e f
  nearest : near_wall_of scene p (sum_of e f) ≡ Some k

some_wall : (scene : Scene) (p e f : Point) (k : ℕ) → wall_between scene p e f ≡ Some k → Seen scene p e f k
unfolding wall_between
some_wall scene p e f k h =
    by (int_le (cross_of e f) (pos 0)) (stops_at_once (ray_hit scene p (sum_of e f)).stop) refl refl
  where
    above : int_le (cross_of e f) (pos 0) ≡ false → pos 0 <ℤ cross_of e f
    above n = omega (arith, ints, n)

    by : (t u : Bool) → int_le (cross_of e f) (pos 0) ≡ t → stops_at_once (ray_hit scene p (sum_of e f)).stop ≡ u
        → Seen scene p e f k
    by true u e_is f_is = let g : None ≡ Some k = rw e_is at h in cc
    by false true e_is f_is = let g : None ≡ Some k = rw (e_is, f_is) at h in cc
    by false false e_is f_is = record { turned = above e_is; nearest = rw (e_is, f_is) at h }

nearest_is : (scene : Scene) (p d : Point) (k : ℕ) → near_wall_of scene p d ≡ Some k
    → (k < length (blockers_of_scene scene))
    × (is_nearest p d (blockers_of_scene scene) (blocker_at (blockers_of_scene scene) k) ≡ true)
unfolding near_wall_of
nearest_is scene p d k h =
    let lines = blockers_of_scene scene in
    let at = position-Some (is_nearest p d lines) lines k no_segment h in
    (at.0, at.1)

-- ---- sectors

module _ (plan : Plan) (p : Point) where
  abbrev scene : Scene
  scene = scene_of plan

  abbrev lines : List Segment
  lines = blockers_of_scene scene

  abbrev SpansFrom : Point → Point → ℕ → Type 0
  SpansFrom e f k = IsSpanned scene p (run e f k)

  -- the wall that is seen in a gap spans it
  gap_spanned : (e f : Point) → HasNoneBetween (corner_directions scene p) (e, f) → (k : ℕ)
      → wall_between scene p e f ≡ Some k → SpansFrom e f k
  gap_spanned e f none k h =
      let seen = some_wall scene p e f k h in
      let d = sum_of e f in
      let at = nearest_is scene p d k seen.nearest in
      let w = blocker_at lines k in
      let ends = ends_cornered plan k no_segment at.0 in
      let a_out : pos 0 <ℤ cross_of e (vector p w.a) → pos 0 <ℤ cross_of (vector p w.a) f → ⊥ =
      λ after before. no_corner_between scene p w.a e f ends.a none
      (record { turned = seen.turned; after = after; before = before }) in
      let b_out : pos 0 <ℤ cross_of e (vector p w.b) → pos 0 <ℤ cross_of (vector p w.b) f → ⊥ =
      λ after before. no_corner_between scene p w.b e f ends.b none
      (record { turned = seen.turned; after = after; before = before }) in
      record {
        numbered = at.0;
        spans =
            elim (across_by p d w (hit_by p d lines w at.1)) [
              | inl across ↦
                  forth (wedge_of_gap (vector p w.a) (vector p w.b) e f seen.turned across.wide across.right across.left a_out
                  b_out)
              | inr across ↦
                  back (wedge_of_gap (vector p w.b) (vector p w.a) e f seen.turned across.wide across.right across.left b_out
                  a_out)
            ];
      }

  -- the wall of a sector, if it has one, spans it
  abbrev SectorSpanned : Sector → Type 0
  SectorSpanned s = (k : ℕ) → s.wall ≡ Some k → SpansFrom s.from s.to k

  sectors_spanned : All SectorSpanned (sectors_of scene p)
  sectors_spanned =
      All-map SectorSpanned (sector_in scene p) (gaps_of (corner_directions scene p))
      (All-weaker (HasNoneBetween (corner_directions scene p)) (λ gap. SectorSpanned (sector_in scene p gap))
      (λ gap none. gap_spanned gap.0 gap.1 none) (gaps_of (corner_directions scene p))
      (gaps_empty (corner_directions scene p) (directions_directed scene p) (directions_rise scene p)))

  -- ---- sectors that follow each other

  abbrev AreChained : List Sector → Type 0
  AreChained [] = Unit {0}
  AreChained (s ∷ sectors) = Follows s.to sectors × AreChained sectors
    where
      Follows : Point → List Sector → Type 0
      Follows to [] = Unit {0}
      Follows to (s ∷ sectors) = s.from ≡ to

  gaps_chained : (first : Point) (directions : List Point)
      → AreChained (map (sector_in scene p) (gaps_to first directions))
  gaps_chained first [] = tt
  gaps_chained first (e ∷ []) = (tt, tt)
  gaps_chained first (e ∷ f ∷ []) = (refl, gaps_chained first (f ∷ []))
  gaps_chained first (e ∷ f ∷ g ∷ directions) = (refl, gaps_chained first (f ∷ g ∷ directions))

  sectors_chained : AreChained (sectors_of scene p)
  sectors_chained = by (corner_directions scene p)
    where
      by : (directions : List Point) → AreChained (map (sector_in scene p) (gaps_of directions))
      by [] = tt
      by (e ∷ directions) = gaps_chained e (e ∷ directions)

  -- ---- runs

  spans_join : (a b e f g : Point) → Spans a b e f → Spans a b f g → Spans a b e g
  spans_join a b e f g (forth w) (forth v) = forth (wedges_join a b e f g w v)
  spans_join a b e f g (back w) (back v) = back (wedges_join b a e f g w v)
  spans_join a b e f g (forth w) (back v) = absurd (opposed w v)
    where
      opposed : Wedge a b e f → Wedge b a f g → ⊥
      opposed w v = let x = cross_of_exchanged a b in omega (arith, ints, x, w.wide, v.wide)
  spans_join a b e f g (back w) (forth v) = absurd (opposed w v)
    where
      opposed : Wedge b a e f → Wedge a b f g → ⊥
      opposed w v = let x = cross_of_exchanged a b in omega (arith, ints, x, w.wide, v.wide)

  joined : (e f g : Point) (k : ℕ) → SpansFrom e f k → SpansFrom f g k → SpansFrom e g k
  joined e f g k s t = record {
    numbered = s.numbered;
    spans = spans_join (vector p (blocker_at lines k).a) (vector p (blocker_at lines k).b) e f g s.spans t.spans;
  }

  -- the first of the runs begins in this direction, with this wall
  abbrev BeginsAt : Point → ℕ → List Run → Type 0
  BeginsAt d k [] = ⊥
  BeginsAt d k (r ∷ runs) = (r.from ≡ d) × (r.wall ≡ k)

  begins : (s : Sector) (sectors : List Sector) (k : ℕ) → s.wall ≡ Some k
      → BeginsAt s.from k (runs_of (s ∷ sectors))
  unfolding runs_of
  begins s sectors k is = rw is (by (goes_on k sectors) (runs_of sectors))
    where
      by : (goes : Bool) (runs : List Run) → BeginsAt s.from k (run_before goes (run s.from s.to k) runs)
      by true [] = (refl, refl)
      by false [] = (refl, refl)
      by true (r ∷ runs) = (refl, refl)
      by false (r ∷ runs) = (refl, refl)

  next_begins : (k : ℕ) (to : Point) (s : Sector) (sectors : List Sector) → AreChained (s ∷ sectors) → s.to ≡ to
      → goes_on k sectors ≡ true → BeginsAt to k (runs_of sectors)
  next_begins k to s [] chained at goes = absurd (clash false refl goes)
  next_begins k to s (t ∷ sectors) chained at goes = by t.wall refl
    where
      by : (w : Option ℕ) → t.wall ≡ w → BeginsAt to k (runs_of (t ∷ sectors))
      by None is = let h : false ≡ true = rw is at goes in cc
      by (Some v) is =
          let h : eqb v k ≡ true = rw is at goes in
          let same = eqb-true v k h in
          subst (λ d. BeginsAt d k (runs_of (t ∷ sectors))) (chained.0 ∙ at)
          (begins t sectors k (is ∙ ap (λ n. Some n) same))

  each_run : (sectors : List Sector) → AreChained sectors → All SectorSpanned sectors
      → All (IsSpanned scene p) (runs_of sectors)
  unfolding runs_of
  each_run [] chained all = All-nil (IsSpanned scene p)
  each_run (s ∷ sectors) chained all =
      by s.wall refl (each_run sectors chained.1 (All-tail SectorSpanned s sectors all))
    where
      here : SectorSpanned s
      here = All-head SectorSpanned s sectors all

      put : (k : ℕ) → SpansFrom s.from s.to k → (goes : Bool) (runs : List Run)
          → (goes ≡ true → BeginsAt s.to k runs) → All (IsSpanned scene p) runs
          → All (IsSpanned scene p) (run_before goes (run s.from s.to k) runs)
      put k spans goes [] at rest = All-cons (IsSpanned scene p) (run s.from s.to k) [] spans rest
      put k spans true (r ∷ runs) at rest =
          let start = at refl in
          let next : SpansFrom s.to r.to k =
          subst (λ d. SpansFrom d r.to k) start.0
          (subst (λ n. SpansFrom r.from r.to n) start.1 (All-head (IsSpanned scene p) r runs rest)) in
          All-cons (IsSpanned scene p) (run s.from r.to k) runs (joined s.from s.to r.to k spans next)
          (All-tail (IsSpanned scene p) r runs rest)
      put k spans false (r ∷ runs) at rest = All-cons (IsSpanned scene p) (run s.from s.to k) (r ∷ runs) spans rest

      by : (w : Option ℕ) → s.wall ≡ w → All (IsSpanned scene p) (runs_of sectors)
          → All (IsSpanned scene p) (run_of_sector s s.wall (has_wall s.wall sectors) (runs_of sectors))
      by None is rest = rw is rest
      by (Some k) is rest =
          rw is
          (put k (here k is) (goes_on k sectors) (runs_of sectors) (next_begins k s.to s sectors chained refl) rest)

  -- the wall or screen of each run spans it
  pub runs_spanned : All (IsSpanned scene p) (runs_of (sectors_of scene p))
  runs_spanned = each_run (sectors_of scene p) sectors_chained sectors_spanned
