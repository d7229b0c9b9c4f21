-- Axial lines with the same ends are dirty alike and have the same points on them.
--
-- The line of a pair of corners reaches from each corner on, away from the other, as far as its stop, or 0 where
-- there is
-- none: its ends are spots of which the places are the values (`Places`). Two lines whose places are the same, in
-- either
-- order, have the same spots as ends. So they meet the same boxes (`SameSpots`) and the same points lie on them
-- (`Places`): from the same ends directly, and from exchanged ones by turning the second line round.
use Rattle.std.proofs.Common.{◌≡◌, ◌∙◌, Bool, true, false, ◌&&◌, ◌||◌, Option, Some, None, refl, sym}
use Rattle.std.proofs.lemmas.Bool.{and_parts}
use Rattle.plane_spec.specs.declared.Point.{Point}
use Rattle.plane_spec.specs.declared.PlanBox.{PlanBox}
use Rattle.plane_spec.specs.Vectors.{vector, same_point}
use Rattle.plane_spec.specs.Fractions.{Fraction, same_rpoint}
use Rattle.plan_spec.specs.declared.edit.Changed.{Changed}
use Rattle.sight_spec.specs.Scene.{Scene}
use Rattle.sight_spec.specs.Stops.{stop_of}
use Rattle.plan_spec.specs.Edits.{changed}
use Rattle.sight_spec.specs.Axial.{AxialLine, end_beyond, line_through, same_ends}
use Rattle.sight_spec.specs.Dirty.{corner_point, meets_if_there, extent_meets_if_there, is_dirty_pair, is_dirty_line}
use Rattle.sight_spec.specs.Dirty.{is_on_axial_line}
use Rattle.box_laws.proofs.Blocking.{or_cases}
use Rattle.extent_laws.specs.Corners.{Pair, IsPairOfCorners}
use Rattle.spot_laws.proofs.Spans.{extent_of_meeting}
use Rattle.spot_laws.proofs.SameSpots.{SameSpot, IsExtent, extent_same, extent_same_back, turned}
use Rattle.extent_laws.proofs.Hits.{IsHit}
use Rattle.extent_laws.proofs.Reaches.{reach, reach_is_hit, spot_beyond, line_meets, leads, same_back}
use Rattle.extent_laws.proofs.Places.{IsSpot, end_is_spot, meets_as_spots, same_spots, is_on_spots, on_as_spots}
use Rattle.extent_laws.proofs.Places.{on_same, on_back, first_on, second_on}

module _ (scene : Scene) where
  -- ---- the ends of a line

  -- how far the line from q through p reaches beyond p
  abbrev reach_beyond : Point → Point → Fraction
  reach_beyond q p = reach (stop_of scene p (vector q p))

  -- beyond the second point of a pair
  there : (p q : Point) → same_point p q ≡ false → IsHit (reach_beyond p q)
  there p q differ = reach_is_hit scene q (vector p q) (leads p q differ)

  -- beyond the first
  here : (p q : Point) → same_point p q ≡ false → IsHit (reach_beyond q p)
  here p q differ = reach_is_hit scene p (vector q p) (leads q p (same_back p q ∙ differ))

  -- the line of a pair goes on beyond both points, or stops at them
  extent : (p q : Point) → same_point p q ≡ false → IsExtent (reach_beyond q p) (reach_beyond p q)
  extent p q differ =
      let h = here p q differ in
      let t = there p q differ in
      record { before = h.over; after = t.over; back = h.ahead; on = t.ahead }

  -- its first end as a spot
  from_spot : (p q : Point) → same_point p q ≡ false → IsSpot (end_beyond scene q p) (spot_beyond scene q p)
  from_spot p q differ = end_is_spot p (vector q p) (stop_of scene p (vector q p)) (here p q differ)

  -- and its second
  to_spot : (p q : Point) → same_point p q ≡ false → IsSpot (end_beyond scene p q) (spot_beyond scene p q)
  to_spot p q differ = end_is_spot q (vector p q) (stop_of scene q (vector p q)) (there p q differ)

  -- ---- lines with the same ends

  -- x lies on the line through p and q
  pub on_line : Point → Point → Point → Bool
  on_line p q x = is_on_spots p q (spot_beyond scene q p) (spot_beyond scene p q) x

  module _ (e f : Pair) (e_differ : same_point e.0.1 e.1.1 ≡ false) (f_differ : same_point f.0.1 f.1.1 ≡ false) where
    -- the ends as spots are the same, in one order or the other
    by_ends : {P : Type 0} → same_ends (line_through scene e) (line_through scene f) ≡ true
        → (SameSpot (spot_beyond scene e.1.1 e.0.1) (spot_beyond scene f.1.1 f.0.1)
        → SameSpot (spot_beyond scene e.0.1 e.1.1) (spot_beyond scene f.0.1 f.1.1) → P)
        → (SameSpot (spot_beyond scene e.1.1 e.0.1) (spot_beyond scene f.0.1 f.1.1)
        → SameSpot (spot_beyond scene e.0.1 e.1.1) (spot_beyond scene f.1.1 f.0.1) → P) → P
    by_ends h g k =
        let l = line_through scene e in
        let m = line_through scene f in
        let e_from = from_spot e.0.1 e.1.1 e_differ in
        let e_to = to_spot e.0.1 e.1.1 e_differ in
        let f_from = from_spot f.0.1 f.1.1 f_differ in
        let f_to = to_spot f.0.1 f.1.1 f_differ in
        or_cases (same_rpoint l.from m.from && same_rpoint l.to m.to)
        (same_rpoint l.from m.to && same_rpoint l.to m.from) h
        (λ t. let both = and_parts (same_rpoint l.from m.from) (same_rpoint l.to m.to) t in
        g (same_spots l.from m.from _ _ e_from f_from both.0) (same_spots l.to m.to _ _ e_to f_to both.1))
        (λ t. let both = and_parts (same_rpoint l.from m.to) (same_rpoint l.to m.from) t in
        k (same_spots l.from m.to _ _ e_from f_to both.0) (same_spots l.to m.from _ _ e_to f_from both.1))

    -- the extent of the first line
    a : IsExtent (reach_beyond e.1.1 e.0.1) (reach_beyond e.0.1 e.1.1)
    a = extent e.0.1 e.1.1 e_differ

    -- and of the second
    b : IsExtent (reach_beyond f.1.1 f.0.1) (reach_beyond f.0.1 f.1.1)
    b = extent f.0.1 f.1.1 f_differ

    -- they meet the same boxes
    pub meet_alike : (box : PlanBox) → same_ends (line_through scene e) (line_through scene f) ≡ true
        → line_meets scene box f.0.1 f.1.1 ≡ line_meets scene box e.0.1 e.1.1
    meet_alike box h =
        by_ends h (λ x y. sym (extent_same e.0.1 e.1.1 f.0.1 f.1.1 _ _ _ _ box a b x y))
        (λ x y. sym (extent_same_back e.0.1 e.1.1 f.0.1 f.1.1 _ _ _ _ box a b x y))

    -- and the same points lie on them
    pub on_alike : (x : Point) → same_ends (line_through scene e) (line_through scene f) ≡ true
        → on_line f.0.1 f.1.1 x ≡ on_line e.0.1 e.1.1 x
    unfolding on_line
    on_alike x h =
        by_ends h (λ s t. sym (on_same e.0.1 e.1.1 f.0.1 f.1.1 _ _ _ _ x a b s t))
        (λ s t. on_back f.0.1 f.1.1 (spot_beyond scene f.1.1 f.0.1) (spot_beyond scene f.0.1 f.1.1) x
        ∙ sym (on_same e.0.1 e.1.1 f.1.1 f.0.1 _ _ _ _ x a (turned b) s t))

  -- the first point of a pair lies on its line
  pub first_on_line : (p q : Point) → same_point p q ≡ false → on_line p q p ≡ true
  unfolding on_line
  first_on_line p q differ = first_on p q (reach_beyond q p) (reach_beyond p q) (extent p q differ)

  -- and the second
  pub second_on_line : (p q : Point) → same_point p q ≡ false → on_line p q q ≡ true
  unfolding on_line
  second_on_line p q differ = second_on p q (reach_beyond q p) (reach_beyond p q) (extent p q differ)

  -- ---- lines by the numbers of their corners

  -- a line of the scene, through the points of a pair
  pub record IsLineOf (l : AxialLine) (e : Pair) : Type 0 where
    pub first : corner_point scene l.first ≡ e.0.1
    pub second : corner_point scene l.second ≡ e.1.1
    pub from : l.from ≡ end_beyond scene e.1.1 e.0.1
    pub to : l.to ≡ end_beyond scene e.0.1 e.1.1

  -- the line of a pair of corners
  pub line_of_corners : (e : Pair) → IsPairOfCorners scene e → IsLineOf (line_through scene e) e
  line_of_corners e c = record { first = c.first; second = c.second; from = refl; to = refl }

  -- the line of a pair meets the box, where there is one
  abbrev meets_if : Pair → Option PlanBox → Bool
  meets_if e None = false
  meets_if e (Some box) = line_meets scene box e.0.1 e.1.1

  -- its extent between places meets a box as the one between spots does
  extent_as_meets : (area : Option PlanBox) (l : AxialLine) (e : Pair) → IsLineOf l e → same_point e.0.1 e.1.1 ≡ false
      → extent_meets_if_there scene l area ≡ meets_if e area
  extent_as_meets None l e i differ = refl
  extent_as_meets (Some box) l e i differ =
      rw (i.first, i.second, i.from, i.to)
      (meets_as_spots e.0.1 e.1.1 (end_beyond scene e.1.1 e.0.1) (end_beyond scene e.0.1 e.1.1)
      (spot_beyond scene e.1.1 e.0.1) (spot_beyond scene e.0.1 e.1.1) box (from_spot e.0.1 e.1.1 differ)
      (to_spot e.0.1 e.1.1 differ))

  -- by two boxes
  dirty_as_meets_either : (boxes : Changed) (l : AxialLine) (e : Pair) → IsLineOf l e → same_point e.0.1 e.1.1 ≡ false
      → is_dirty_line boxes scene l ≡ (meets_if e boxes.first || meets_if e boxes.second)
  unfolding is_dirty_line
  dirty_as_meets_either boxes l e i differ =
      rw (extent_as_meets boxes.first l e i differ, extent_as_meets boxes.second l e i differ) refl

  -- by one box before an edit
  pub dirty_as_meets : (box : PlanBox) (l : AxialLine) (e : Pair) → IsLineOf l e → same_point e.0.1 e.1.1 ≡ false
      → is_dirty_line (changed (Some box) None) scene l ≡ line_meets scene box e.0.1 e.1.1
  dirty_as_meets box l e i differ =
      dirty_as_meets_either (changed (Some box) None) l e i differ ∙ or_nothing (line_meets scene box e.0.1 e.1.1)
    where
      or_nothing : (t : Bool) → (t || false) ≡ t
      or_nothing true = refl
      or_nothing false = refl

  -- a point lies on its extent between places as on the one between spots
  pub extent_as_on : (x : Point) (l : AxialLine) (e : Pair) → IsLineOf l e → same_point e.0.1 e.1.1 ≡ false
      → is_on_axial_line scene x l ≡ on_line e.0.1 e.1.1 x
  unfolding on_line
  extent_as_on x l e i differ =
      rw (i.first, i.second, i.from, i.to)
      (on_as_spots e.0.1 e.1.1 (end_beyond scene e.1.1 e.0.1) (end_beyond scene e.0.1 e.1.1)
      (spot_beyond scene e.1.1 e.0.1) (spot_beyond scene e.0.1 e.1.1) x (from_spot e.0.1 e.1.1 differ)
      (to_spot e.0.1 e.1.1 differ))

  -- ---- the laws

  -- the segment of a pair lies on its line
  pub dirty_with_pair : (boxes : Changed) (e : Pair) → IsPairOfCorners scene e
      → is_dirty_pair boxes e.0.1 e.1.1 ≡ true → is_dirty_line boxes scene (line_through scene e) ≡ true
  unfolding is_dirty_pair
  dirty_with_pair boxes e c h =
      dirty_as_meets_either boxes (line_through scene e) e (line_of_corners e c) c.differ
      ∙ either (meets_if_there e.0.1 e.1.1 boxes.first) (meets_if_there e.0.1 e.1.1 boxes.second)
      (meets_if e boxes.first) (meets_if e boxes.second) (with_pair boxes.first) (with_pair boxes.second) h
    where
      with_pair : (area : Option PlanBox) → meets_if_there e.0.1 e.1.1 area ≡ true → meets_if e area ≡ true
      with_pair None h = h
      with_pair (Some box) h =
          let before = here e.0.1 e.1.1 c.differ in
          let after = there e.0.1 e.1.1 c.differ in
          extent_of_meeting e.0.1 e.1.1 (reach_beyond e.1.1 e.0.1) (reach_beyond e.0.1 e.1.1) box before.over
          after.over
          before.ahead after.ahead h

      either : (s t u v : Bool) → (s ≡ true → u ≡ true) → (t ≡ true → v ≡ true) → (s || t) ≡ true → (u || v) ≡ true
      either true t u v f g h = rw (f refl) refl
      either false t u v f g h = rw (g h) (second u)
        where
          second : (u : Bool) → (u || true) ≡ true
          second true = refl
          second false = refl

  -- lines with the same ends meet the same boxes
  pub dirty_alike : (boxes : Changed) (e f : Pair) → IsPairOfCorners scene e → IsPairOfCorners scene f
      → same_ends (line_through scene e) (line_through scene f) ≡ true
      → is_dirty_line boxes scene (line_through scene f) ≡ is_dirty_line boxes scene (line_through scene e)
  dirty_alike boxes e f c d h =
      dirty_as_meets_either boxes (line_through scene f) f (line_of_corners f d) d.differ
      ∙ both (if_alike boxes.first) (if_alike boxes.second)
      ∙ sym (dirty_as_meets_either boxes (line_through scene e) e (line_of_corners e c) c.differ)
    where
      if_alike : (area : Option PlanBox) → meets_if f area ≡ meets_if e area
      if_alike None = refl
      if_alike (Some box) = meet_alike e f c.differ d.differ box h

      both : {s t u v : Bool} → s ≡ u → t ≡ v → (s || t) ≡ (u || v)
      both h k = rw (h, k) refl

  -- and the same points lie on them
  pub on_extents_alike : (x : Point) (e f : Pair) → IsPairOfCorners scene e → IsPairOfCorners scene f
      → same_ends (line_through scene e) (line_through scene f) ≡ true
      → is_on_axial_line scene x (line_through scene f) ≡ is_on_axial_line scene x (line_through scene e)
  on_extents_alike x e f c d h =
      extent_as_on x (line_through scene f) f (line_of_corners f d) d.differ
      ∙ on_alike e f c.differ d.differ x h
      ∙ sym (extent_as_on x (line_through scene e) e (line_of_corners e c) c.differ)

  -- the first corner lies on its line
  pub first_on_extent : (e : Pair) → IsPairOfCorners scene e → is_on_axial_line scene e.0.1 (line_through scene e) ≡ true
  first_on_extent e c =
      extent_as_on e.0.1 (line_through scene e) e (line_of_corners e c) c.differ ∙ first_on_line e.0.1 e.1.1 c.differ

  -- and the second
  pub second_on_extent : (e : Pair) → IsPairOfCorners scene e → is_on_axial_line scene e.1.1 (line_through scene e) ≡ true
  second_on_extent e c =
      extent_as_on e.1.1 (line_through scene e) e (line_of_corners e c) c.differ ∙ second_on_line e.0.1 e.1.1 c.differ
