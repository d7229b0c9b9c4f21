-- The runs round a point go round once.
--
-- The directions of corners are in order, so a run goes from one of them to a later one; the last run alone may go
-- on past the end, to the first of them. Each run begins where the run before it ends, or later. So a direction
-- strictly between those of a run that doesn't go on past the end comes after the one and before the other. A later
-- run begins no earlier than that other one; so it could hold the direction only past the end, before the first of
-- all directions. But the former run begins no earlier than there.
use Rattle.std.proofs.Common.{◌≡◌, ◌⊎◌, inl, inr, ℕ, suc, ◌<◌, arith, pos, ◌<ℤ◌, Bool, true, false, ◌&&◌, Option, Some, None, List, [], ◌∷◌, map, length, refl, subst}
use Rattle.std.specs.List.{All, AllPairs}
use Rattle.std.proofs.lemmas.Bool.{and_parts, both_ways, true_from_ne_false, false_from_ne_true}
use Rattle.std.proofs.lemmas.List.Elements.{All-nil, All-cons, All-head, All-tail, All-weaker}
use Rattle.std.proofs.lemmas.List.Kept.{AllPairs-cons}
use Rattle.list_laws.specs.Orders.{IsBefore, IsRising}
use Rattle.int_laws.proofs.Tests.{tested_less}
use Rattle.plane_spec.specs.declared.Point.{Point}
use Rattle.plane_spec.specs.Vectors.{cross_of, turns_left, turns_before, IsDirected}
use Rattle.plan_spec.specs.Plan.{Plan}
use Rattle.sight_spec.specs.Scene.{Scene, scene_of}
use Rattle.sight_spec.specs.Isovist.{corner_directions, gaps_to, gaps_of, wall_between, sector_in, sectors_of, Run, run, has_wall, run_before, run_of_sector, runs_of}
use Rattle.exact_geom.proofs.Circle.{turns_one_way}
use Rattle.isovist_laws.specs.Spans.{lies_between, IsMet}
use Rattle.isovist_laws.specs.Overlaps.{AreRunsApart}
use Rattle.isovist_laws.proofs.Between.{IsBetween, not_after, not_before, not_neither}
use Rattle.isovist_laws.proofs.Gaps.{itself}
use Rattle.isovist_laws.proofs.Directions.{directions_order, directed_by_cross, directions_rise, directions_directed}
use Rattle.isovist_laws.proofs.Meetings.{runs_met}

-- ---- pairs of a list

module _ {X : Type 0} (R : X → X → Type 0) where
  pub pairs_nil : AllPairs R []
  pairs_nil i j d lt within = absurd (omega arith)

  pub pairs_head : (x : X) (xs : List X) → AllPairs R (x ∷ xs) → All (R x) xs
  pairs_head x xs h k d within = h 0 (suc k) d (omega arith) (omega arith)

  pub pairs_tail : (x : X) (xs : List X) → AllPairs R (x ∷ xs) → AllPairs R xs
  pairs_tail x xs h i j d lt within = h (suc i) (suc j) d (omega arith) (omega arith)

-- ---- runs in order

-- s begins where r ends, or later, and r doesn't go on past the end of the directions
record IsThen (r s : Run) : Type 0 where
  rises : turns_before r.from r.to ≡ true
  later : turns_before s.from r.to ≡ false

module _ (first : Point) where
  -- a run that begins at e or later, and ends after its beginning, or past the end at the first of the directions
  record IsFrom (e : Point) (r : Run) : Type 0 where
    from_some : IsDirected r.from
    to_some : IsDirected r.to
    begins : turns_before r.from e ≡ false
    ends : (turns_before r.from r.to ≡ true) ⊎ (r.to ≡ first)

  -- runs that begin at e or later, each where the one before it ends, or later
  record AreOnce (e : Point) (runs : List Run) : Type 0 where
    each : All (IsFrom e) runs
    in_turn : AllPairs IsThen runs

  -- the run of the last gap, if a wall is seen in it
  last_run : (e : Point) → IsDirected e → IsDirected first → (v w : Option ℕ) (goes : Bool)
      → AreOnce e (run_of_sector (record { from = e; to = first; wall = v }) w goes [])
  last_run e e_some first_some v None goes = record { each = All-nil (IsFrom e); in_turn = pairs_nil IsThen }
  last_run e e_some first_some v (Some k) goes = record {
    each =
        All-cons (IsFrom e) (run e first k) []
        (record { from_some = e_some; to_some = first_some; begins = itself e; ends = inr refl }) (All-nil (IsFrom e));
    in_turn =
        AllPairs-cons IsThen (run e first k) [] (All-nil (IsThen (run e first k))) (pairs_nil IsThen);
  }

-- a gap from e to the next direction, f, before runs that begin at f or later
module _ (first e f : Point) (e_some : IsDirected e) (f_some : IsDirected f) (before : turns_before e f ≡ true) where
  begins_later : (r : Run) → IsFrom first f r → turns_before e r.from ≡ true
  begins_later r h = directions_order.through e f r.from e_some f_some h.from_some before h.begins

  from_earlier : (r : Run) → IsFrom first f r → IsFrom first e r
  from_earlier r h = record {
    from_some = h.from_some;
    to_some = h.to_some;
    begins = turns_one_way e r.from (begins_later r h);
    ends = h.ends;
  }

  ends_later : (r : Run) → IsFrom first f r → turns_before r.from r.to ≡ true → turns_before e r.to ≡ true
  ends_later r h up =
      directions_order.through e r.from r.to e_some h.from_some h.to_some (begins_later r h)
      (turns_one_way r.from r.to up)

  -- the gap alone
  alone : (k : ℕ) → IsFrom first e (run e f k)
  alone k = record { from_some = e_some; to_some = f_some; begins = itself e; ends = inl before }

  -- the gap joined to the run after it
  joined : (k : ℕ) (r : Run) → IsFrom first f r → IsFrom first e (run e r.to k)
  joined k r h = record { from_some = e_some; to_some = h.to_some; begins = itself e; ends = by h.ends }
    where
      by : (turns_before r.from r.to ≡ true) ⊎ (r.to ≡ first) → (turns_before e r.to ≡ true) ⊎ (r.to ≡ first)
      by (inl up) = inl (ends_later r h up)
      by (inr is) = inr is

  all_from_earlier : (runs : List Run) → All (IsFrom first f) runs → All (IsFrom first e) runs
  all_from_earlier runs all = All-weaker (IsFrom first f) (IsFrom first e) from_earlier runs all

  put : (k : ℕ) (goes : Bool) (runs : List Run) → AreOnce first f runs
      → AreOnce first e (run_before goes (run e f k) runs)
  put k goes [] h = record {
    each = All-cons (IsFrom first e) (run e f k) [] (alone k) (All-nil (IsFrom first e));
    in_turn = AllPairs-cons IsThen (run e f k) [] (All-nil (IsThen (run e f k))) (pairs_nil IsThen);
  }
  put k true (r ∷ runs) h =
      let here = All-head (IsFrom first f) r runs h.each in
      record {
        each =
            All-cons (IsFrom first e) (run e r.to k) runs (joined k r here)
            (all_from_earlier runs (All-tail (IsFrom first f) r runs h.each));
        in_turn =
            AllPairs-cons IsThen (run e r.to k) runs
            (All-weaker (IsThen r) (IsThen (run e r.to k))
            (λ s t. record { rises = ends_later r here t.rises; later = t.later }) runs
            (pairs_head IsThen r runs h.in_turn))
            (pairs_tail IsThen r runs h.in_turn);
      }
  put k false (r ∷ runs) h = record {
    each = All-cons (IsFrom first e) (run e f k) (r ∷ runs) (alone k) (all_from_earlier (r ∷ runs) h.each);
    in_turn =
        AllPairs-cons IsThen (run e f k) (r ∷ runs)
        (All-weaker (IsFrom first f) (IsThen (run e f k)) (λ s t. record { rises = before; later = t.begins }) (r ∷ runs)
        h.each)
        h.in_turn;
  }

  -- with the wall that is seen in the gap, or none
  put_gap : (v w : Option ℕ) (goes : Bool) (runs : List Run) → AreOnce first f runs
      → AreOnce first e (run_of_sector (record { from = e; to = f; wall = v }) w goes runs)
  put_gap v None goes runs h = record { each = all_from_earlier runs h.each; in_turn = h.in_turn }
  put_gap v (Some k) goes runs h = put k goes runs h

-- the runs of the gaps between directions in order
runs_once : (scene : Scene) (p first : Point) → IsDirected first → (e : Point) (directions : List Point)
    → All IsDirected (e ∷ directions) → IsRising turns_before (e ∷ directions)
    → AreOnce first e (runs_of (map (sector_in scene p) (gaps_to first (e ∷ directions))))
unfolding runs_of
runs_once scene p first first_some e [] all up =
    last_run first e (All-head IsDirected e [] all) first_some (wall_between scene p e first)
    (wall_between scene p e first) (has_wall (wall_between scene p e first) [])
runs_once scene p first first_some e (f ∷ directions) all up =
    let later = All-tail IsDirected e (f ∷ directions) all in
    let sectors = map (sector_in scene p) (gaps_to first (f ∷ directions)) in
    put_gap first e f (All-head IsDirected e (f ∷ directions) all) (All-head IsDirected f directions later)
    (All-head (IsBefore turns_before e) f directions up.0).forth (wall_between scene p e f) (wall_between scene p e f)
    (has_wall (wall_between scene p e f) sectors) (runs_of sectors)
    (runs_once scene p first first_some f directions later up.1)

-- ---- no direction is in two runs

module _ (first : Point) (r s : Run) (one : IsFrom first first r) (other : IsFrom first first s) (h : IsThen r s) where
  not_both : (d : Point) → IsBetween r.from r.to d → IsBetween s.from s.to d → ⊥
  not_both d b c = by (turns_before s.from s.to) refl
    where
      d_some : IsDirected d
      d_some = directed_by_cross r.from d b.after

      after : turns_before r.from d ≡ true
      after =
          true_from_ne_false (turns_before r.from d)
          (not_before r.from r.to d b one.from_some one.to_some d_some h.rises)

      before : turns_before d r.to ≡ true
      before =
          true_from_ne_false (turns_before d r.to)
          (not_after r.from r.to d b one.from_some one.to_some d_some h.rises)

      -- d comes before the end of r, so it doesn't come after the beginning of s
      not_later : turns_before s.from d ≡ true → ⊥
      not_later k =
          both_ways (turns_before s.from r.to) h.later
          (directions_order.through s.from d r.to other.from_some d_some one.to_some k (turns_one_way d r.to before))

      -- it comes after the beginning of r, so it doesn't come before the first direction
      not_past : s.to ≡ first → turns_before d s.to ≡ true → ⊥
      not_past is k =
          both_ways (turns_before r.from first) one.begins
          (subst (λ x. turns_before r.from x ≡ true) is
          (directions_order.through r.from d s.to one.from_some d_some other.to_some after (turns_one_way d s.to k)))

      past : turns_before s.from s.to ≡ false → (turns_before s.from s.to ≡ true) ⊎ (s.to ≡ first) → s.to ≡ first
      past n (inl up) = absurd (both_ways (turns_before s.from s.to) n up)
      past n (inr is) = is

      by : (t : Bool) → turns_before s.from s.to ≡ t → ⊥
      by true up =
          not_later (true_from_ne_false (turns_before s.from d)
          (not_before s.from s.to d c other.from_some other.to_some d_some up))
      by false n =
          not_later (true_from_ne_false (turns_before s.from d)
          (λ k. not_past (past n other.ends) (true_from_ne_false (turns_before d s.to)
          (not_neither s.from s.to d c other.from_some other.to_some d_some n k))))

  between : (e f d : Point) → pos 0 <ℤ cross_of e f → lies_between e f d ≡ true → IsBetween e f d
  between e f d up l =
      let parts = and_parts (turns_left e d) (turns_left d f) l in
      record {
        turned = up;
        after = tested_less (pos 0) (cross_of e d) parts.0;
        before = tested_less (pos 0) (cross_of d f) parts.1;
      }

  are_apart : pos 0 <ℤ cross_of r.from r.to → pos 0 <ℤ cross_of s.from s.to → AreRunsApart r s
  are_apart r_up s_up d =
      false_from_ne_true (lies_between r.from r.to d && lies_between s.from s.to d)
      (λ k. let both = and_parts (lies_between r.from r.to d) (lies_between s.from s.to d) k in
      not_both d (between r.from r.to d r_up both.0) (between s.from s.to d s_up both.1))

-- less than a half turn
abbrev IsNarrow : Run → Type 0
IsNarrow r = pos 0 <ℤ cross_of r.from r.to

apart_by : (scene : Scene) (p : Point) (directions : List Point) → All IsDirected directions
    → IsRising turns_before directions → All IsNarrow (runs_of (map (sector_in scene p) (gaps_of directions)))
    → AllPairs AreRunsApart (runs_of (map (sector_in scene p) (gaps_of directions)))
unfolding runs_of
apart_by scene p [] all up narrow = pairs_nil AreRunsApart
apart_by scene p (e ∷ directions) all up narrow =
    let once = runs_once scene p e (All-head IsDirected e directions all) e directions all up in
    λ i j d lt within.
    let near : i < length (runs_of (map (sector_in scene p) (gaps_of (e ∷ directions)))) = omega arith in
    are_apart e _ _ (once.each i d near) (once.each j d within) (once.in_turn i j d lt within) (narrow i d near)
    (narrow j d within)

-- no direction lies strictly between the directions of two runs
pub runs_apart : (plan : Plan) (p : Point) → AllPairs AreRunsApart (runs_of (sectors_of (scene_of plan) p))
runs_apart plan p =
    apart_by (scene_of plan) p (corner_directions (scene_of plan) p) (directions_directed (scene_of plan) p)
    (directions_rise (scene_of plan) p)
    (All-weaker (IsMet (scene_of plan) p) IsNarrow (λ r m. m.less_than_half) (runs_of (sectors_of (scene_of plan) p))
    (runs_met plan p))
