-- A scene without some walls, screens and corners of a box: which sight, stops and lines it keeps.
--
-- What is gone lies in the box. So a segment that misses the box isn't blocked by any of it, and keeps its sight. A
-- ray
-- that something gone stops is stopped in the box, and so the extent that ends there meets the box. An old extent
-- that
-- misses the box therefore keeps its stops: the least hit is none of what is gone, and stays the least without it. A
-- new
-- extent that misses the box and has a stop at an end had the same stop before: anything gone that would have stopped
-- it
-- no further on lies in the box, and between its ends, so the extent would meet the box. Without a stop this fails,
-- since
-- an extent without a stop ends at its corner, however far the old one went on.
use Rattle.std.proofs.Common.{◌≡◌, ◌∙◌, Bool, true, false, not, ◌&&◌, ◌||◌, ℤ, pos, ◌≤ℤ◌, ◌<ℤ◌, List, ◌++◌}
use Rattle.std.proofs.Common.{Option, Some, None, arith, refl, sym, ap, subst}
use Rattle.std.specs.Prelude.{int_lt, is_some}
use Rattle.std.specs.List.{filter_map}
use Rattle.std.specs.Option.{option_map, IfSome}
use Rattle.std.proofs.lemmas.Int.{ints}
use Rattle.plane_spec.specs.declared.Point.{Point}
use Rattle.plane_spec.specs.declared.PlanBox.{PlanBox}
use Rattle.plane_spec.specs.Lists.{min_by}
use Rattle.plane_spec.specs.Vectors.{vector, dot_of, same_point}
use Rattle.plane_spec.specs.Fractions.{Fraction, is_before, reduced}
use Rattle.plane_spec.specs.Boxes.{does_meet_box}
use Rattle.sight_spec.specs.Scene.{Scene, blockers_of_scene}
use Rattle.sight_spec.specs.Sight.{crosses, starts_or_ends_in_wall, corner_blocks, is_blocked, are_in_sight}
use Rattle.sight_spec.specs.Stops.{blocker_hit, corner_hit, start_hit, hits_of, stop_of}
use Rattle.exact_geom.proofs.Orders.{reduced_keeps_before}
use Rattle.box_laws.specs.Boxes.{IsIn, OfEnds, OfCorner}
use Rattle.box_laws.proofs.Touching.{not_true}
use Rattle.box_laws.proofs.Blocking.{crossed_meets, entered_meets, corner_meets}
use Rattle.dirty_laws.proofs.Sight.{fails_where_missed}
use Rattle.list_laws.specs.Dropped.{Dropped}
use Rattle.list_laws.proofs.Dropped.{both_dropped, mapped_dropped, found_alike, known_dropped}
use Rattle.list_laws.proofs.Least.{least_without, least_with, none_without, least_has}
use Rattle.extent_laws.proofs.Hits.{IsHit, Touch, line_touches, corner_touches, start_touches, all_hits}
use Rattle.spot_laws.proofs.Spots.{Spot, spot_at, spots_meet_box}
use Rattle.spot_laws.proofs.Spans.{within_extent, extent_of_meeting}
use Rattle.spot_laws.proofs.SameSpots.{extent_back}
use Rattle.extent_laws.proofs.Reaches.{hits_ordered, reduced_is_hit, reduced_in, touch_meets, reach, reach_is_hit}
use Rattle.extent_laws.proofs.Reaches.{spot_beyond, line_meets, leads, same_back}
use Rattle.dirty_laws.specs.Scenes.{IsWithout, removal_of}
use Rattle.extent_laws.specs.Corners.{Pair, IsPairOfCorners}
use Rattle.sight_spec.specs.Axial.{line_through}
use Rattle.sight_spec.specs.Dirty.{is_dirty_line}
use Rattle.line_laws.specs.Lines.{is_stopped, IsSameLine}
use Rattle.extent_laws.proofs.SameLines.{dirty_as_meets, line_of_corners}

-- a test doesn't both fail and pass
pub clash : (t : Bool) → t ≡ false → t ≡ true → ⊥
clash true h k = cc
clash false h k = cc

module _ (box : PlanBox) (old new : Scene) (less : IsWithout box old new) where
  -- walls and screens without those in the box
  lines_less : Dropped (OfEnds (IsIn box)) (blockers_of_scene old) (blockers_of_scene new)
  lines_less = both_dropped (OfEnds (IsIn box)) old.walls new.walls old.screens new.screens less.walls less.screens

  -- ---- sight

  -- what is gone doesn't block a segment that misses the box
  blocked_stays : (p q : Point) → does_meet_box p q box ≡ false → is_blocked new p q ≡ is_blocked old p q
  unfolding is_blocked
  blocked_stays p q h =
      either_alike _ _ _ _ _ _
      (found_alike (OfEnds (IsIn box)) (crosses p q)
      (λ w held. fails_where_missed (crosses p q w) (does_meet_box p q box) (crossed_meets p q w (Some box) held)
      h) (blockers_of_scene old) (blockers_of_scene new) lines_less)
      (found_alike (OfEnds (IsIn box)) (starts_or_ends_in_wall p q)
      (λ w held. fails_where_missed (starts_or_ends_in_wall p q w) (does_meet_box p q box)
      (entered_meets p q w (Some box) held) h) old.walls new.walls less.walls)
      (found_alike (OfCorner (IsIn box)) (corner_blocks p q)
      (λ c held. fails_where_missed (corner_blocks p q c) (does_meet_box p q box)
      (corner_meets p q c (Some box) held) h) old.corners new.corners less.corners)
    where
      either_alike : (a b c d e f : Bool) → a ≡ d → b ≡ e → c ≡ f → (a || (b || c)) ≡ (d || (e || f))
      either_alike a b c d e f h k l = rw (h, k, l) refl

  -- so it keeps its sight
  pub sight_stays : (p q : Point) → does_meet_box p q box ≡ false → are_in_sight new p q ≡ are_in_sight old p q
  unfolding are_in_sight
  sight_stays p q h = ap (λ t. not (same_point p q) && not t) (blocked_stays p q h)

  -- ---- stops

  -- what stops a ray without what is gone
  hits_less : (i j : Point) → pos 0 <ℤ dot_of (vector i j) (vector i j)
      → Dropped (Touch i j box) (hits_of old j (vector i j)) (hits_of new j (vector i j))
  hits_less i j dd =
      let d = vector i j in
      both_dropped (Touch i j box) (filter_map (blocker_hit j d) (blockers_of_scene old))
      (filter_map (blocker_hit j d) (blockers_of_scene new))
      (filter_map (corner_hit j d) old.corners ++ filter_map (start_hit j d) old.walls)
      (filter_map (corner_hit j d) new.corners ++ filter_map (start_hit j d) new.walls)
      (mapped_dropped (OfEnds (IsIn box)) (Touch i j box) (blocker_hit j d) (line_touches i j box) (blockers_of_scene old)
      (blockers_of_scene new) lines_less)
      (both_dropped (Touch i j box) (filter_map (corner_hit j d) old.corners)
      (filter_map (corner_hit j d) new.corners) (filter_map (start_hit j d) old.walls)
      (filter_map (start_hit j d) new.walls)
      (mapped_dropped (OfCorner (IsIn box)) (Touch i j box) (corner_hit j d) (corner_touches i j box dd) old.corners
      new.corners less.corners)
      (mapped_dropped (OfEnds (IsIn box)) (Touch i j box) (start_hit j d) (start_touches i j box) old.walls new.walls
      less.walls))

  -- what stops the ray from j away from i
  abbrev hits : Scene → Point → Point → List Fraction
  hits scene i j = hits_of scene j (vector i j)

  -- a hit, and one that is in the box
  record IsTouchingHit (i j : Point) (t : Fraction) : Type 0 where
    hit : IsHit t
    touch : Touch i j box t

  -- what is gone of it lies ahead, in the box
  touching_less : (i j : Point) → pos 0 <ℤ dot_of (vector i j) (vector i j)
      → Dropped (IsTouchingHit i j) (hits old i j) (hits new i j)
  touching_less i j dd =
      known_dropped (Touch i j box) IsHit (IsTouchingHit i j) (λ t k h. record { hit = h; touch = k }) (hits old i j)
      (hits new i j) (hits_less i j dd) (all_hits old j (vector i j) dd)

  -- an old extent that misses the box keeps its stop
  pub stop_stays : (i j : Point) (from : Spot) → pos 0 <ℤ dot_of (vector i j) (vector i j)
      → spots_meet_box i j from (spot_beyond old i j) box ≡ false
      → stop_of new j (vector i j) ≡ stop_of old j (vector i j)
  unfolding stop_of
  stop_stays i j from dd = by (min_by is_before (hits old i j)) refl
    where
      by : (o : Option Fraction) → min_by is_before (hits old i j) ≡ o
          → spots_meet_box i j from (spot_at j (vector i j) (reach (option_map reduced o))) box ≡ false
          → option_map reduced (min_by is_before (hits new i j)) ≡ option_map reduced o
      by None e misses =
          ap (option_map reduced) (none_without (IsTouchingHit i j) is_before (hits old i j) (hits new i j)
          (touching_less i j dd) e)
      by (Some m) e misses =
          ap (option_map reduced)
          (least_without IsHit is_before hits_ordered (IsTouchingHit i j)
          (λ t. spots_meet_box i j from (spot_at j (vector i j) (reduced t)) box ≡ false)
          (λ y k off. clash _ off (touch_meets i j from box y k.hit k.touch)) m (hits old i j) (hits new i j)
          (touching_less i j dd) (all_hits old j (vector i j) dd) misses e)

  -- a new extent that misses the box, and is stopped at that end, had that stop before
  pub stop_came : (i j : Point) (s t : Fraction) → pos 0 <ℤ dot_of (vector i j) (vector i j) → IsHit s
      → stop_of new j (vector i j) ≡ Some t
      → spots_meet_box i j (spot_at i (vector j i) s) (spot_at j (vector i j) t) box ≡ false
      → stop_of old j (vector i j) ≡ Some t
  unfolding stop_of
  stop_came i j s t dd sh =
      by (min_by is_before (hits new i j)) refl
      (least_has IsHit is_before (hits new i j) (all_hits new j (vector i j) dd))
    where
      some_is : (a b : Fraction) → Some a ≡ Some b → a ≡ b
      some_is a b e = cc

      not_less : (a b : ℤ) → int_lt a b ≡ false → b ≤ℤ a
      not_less a b h = grind (arith, ints)

      to_one : (z : ℤ) → pos 0 <ℤ z → pos 1 ≤ℤ z
      to_one z h = omega (arith, ints)

      by : (o : Option Fraction) → min_by is_before (hits new i j) ≡ o → IfSome o IsHit → option_map reduced o ≡ Some t
          → spots_meet_box i j (spot_at i (vector j i) s) (spot_at j (vector i j) t) box ≡ false
          → option_map reduced (min_by is_before (hits old i j)) ≡ Some t
      by None e h k misses = cc
      by (Some m) e h k misses =
          ap (option_map reduced)
          (least_with IsHit is_before hits_ordered (IsTouchingHit i j) m
          (λ y yk yh. beyond y yk (is_before m y) refl) (hits old i j) (hits new i j) (touching_less i j dd)
          (all_hits old j (vector i j) dd) e)
          ∙ k
        where
          off : spots_meet_box i j (spot_at i (vector j i) s) (spot_at j (vector i j) (reduced m)) box ≡ false
          off =
              ap (λ r. spots_meet_box i j (spot_at i (vector j i) s) (spot_at j (vector i j) r) box)
              (some_is (reduced m) t k)
              ∙ misses

          beyond : (y : Fraction) → IsTouchingHit i j y → (u : Bool) → is_before m y ≡ u → is_before m y ≡ true
          beyond y yk true g = g
          beyond y yk false g =
              let mr = reduced_is_hit m h in
              let yr = reduced_is_hit y yk.hit in
              let order = not_less _ _ (reduced_keeps_before m y (to_one m.den h.over.den)
              (to_one y.den yk.hit.over.den) ∙ g) in
              absurd (clash _ off (within_extent i j s (reduced m) (reduced y) box sh.over mr.over yr.over sh.ahead
              yr.ahead order (reduced_in j (vector i j) y box yk.hit yk.touch.place) yk.touch.cut))

  -- ---- lines

  -- a line whose extent misses the box is of a pair that does
  pub pair_misses : (scene : Scene) (p q : Point) → same_point p q ≡ false → line_meets scene box p q ≡ false
      → does_meet_box p q box ≡ false
  pair_misses scene p q differ misses =
      let here = reach_is_hit scene p (vector q p) (leads q p (same_back p q ∙ differ)) in
      let there = reach_is_hit scene q (vector p q) (leads p q differ) in
      not_true _ (λ h. clash _ misses
      (extent_of_meeting p q (reach (stop_of scene p (vector q p))) (reach (stop_of scene q (vector p q))) box
      here.over there.over here.ahead there.ahead h))

  -- an old line that misses the box is a new one
  pub line_kept : (p q : Point) → same_point p q ≡ false → line_meets old box p q ≡ false → IsSameLine old new p q
  line_kept p q differ misses = record {
    sight = sight_stays p q (pair_misses old p q differ misses);
    from =
        stop_stays q p (spot_beyond old p q) (leads q p (same_back p q ∙ differ))
        (sym (extent_back p q (spot_beyond old q p) (spot_beyond old p q) box) ∙ misses);
    to = stop_stays p q (spot_beyond old q p) (leads p q differ) misses;
  }

  -- a new line that misses the box, and is stopped at both ends, was an old one
  pub line_came : (p q : Point) (s t : Fraction) → same_point p q ≡ false → stop_of new p (vector q p) ≡ Some s
      → stop_of new q (vector p q) ≡ Some t
      → line_meets new box p q ≡ false → IsSameLine old new p q
  line_came p q s t differ es et misses =
      let here : IsHit s = subst (λ o. IsHit (reach o)) es
      (reach_is_hit new p (vector q p) (leads q p (same_back p q ∙ differ))) in
      let there : IsHit t = subst (λ o. IsHit (reach o)) et (reach_is_hit new q (vector p q) (leads p q differ)) in
      let off : spots_meet_box p q (spot_at p (vector q p) s) (spot_at q (vector p q) t) box ≡ false =
      ap (λ o. spots_meet_box p q (spot_at p (vector q p) (reach o)) (spot_at q (vector p q) t) box) (sym es)
      ∙ ap (λ o. spots_meet_box p q (spot_at p (vector q p) (reach (stop_of new p (vector q p))))
      (spot_at q (vector p q) (reach o)) box) (sym et)
      ∙ misses in
      record {
        sight = sight_stays p q (pair_misses new p q differ misses);
        from =
            es
            ∙ sym (stop_came q p t s (leads q p (same_back p q ∙ differ)) there es
            (sym (extent_back p q (spot_at p (vector q p) s) (spot_at q (vector p q) t) box) ∙ off));
        to = et ∙ sym (stop_came p q s t (leads p q differ) here et off);
      }

  -- ---- the laws

  -- the line of a pair that isn't dirty before is the same after
  pub clean_line_kept : (e : Pair) → IsPairOfCorners old e
      → is_dirty_line (removal_of box) old (line_through old e) ≡ false → IsSameLine old new e.0.1 e.1.1
  clean_line_kept e c h =
      line_kept e.0.1 e.1.1 c.differ
      (sym (dirty_as_meets old box (line_through old e) e (line_of_corners old e c) c.differ) ∙ h)

  -- and one that isn't dirty after, and is stopped at both ends, was the same before
  pub clean_line_came : (e : Pair) → IsPairOfCorners new e → is_stopped new e ≡ true
      → is_dirty_line (removal_of box) new (line_through new e) ≡ false → IsSameLine old new e.0.1 e.1.1
  clean_line_came e c stopped h =
      by (stop_of new e.0.1 (vector e.1.1 e.0.1)) (stop_of new e.1.1 (vector e.0.1 e.1.1)) refl refl stopped
    where
      misses : line_meets new box e.0.1 e.1.1 ≡ false
      misses = sym (dirty_as_meets new box (line_through new e) e (line_of_corners new e c) c.differ) ∙ h

      by : (s t : Option Fraction) → stop_of new e.0.1 (vector e.1.1 e.0.1) ≡ s
          → stop_of new e.1.1 (vector e.0.1 e.1.1) ≡ t → (is_some s && is_some t) ≡ true
          → IsSameLine old new e.0.1 e.1.1
      by (Some s) (Some t) f g k = line_came e.0.1 e.1.1 s t c.differ f g misses
      by None t f g k = cc
      by (Some s) None f g k = cc
