-- What is found by adding lines one after the other is the list of those that are like none before them.
use Rattle.std.proofs.Common.{◌≡◌, ◌∙◌, Bool, true, false, ◌&&◌, ◌||◌, List, [], ◌∷◌, ◌++◌, map, filter, arith, refl, sym, ap, append_assoc}
use Rattle.std.specs.Prelude.{Option, Some, None}
use Rattle.std.specs.List.{All, list_any}
use Rattle.std.proofs.lemmas.List.Elements.{All-nil, All-map, All-filter, filter_passes}
use Rattle.std.proofs.lemmas.List.Folds.{list_any-append}
use Rattle.plane_spec.specs.declared.Point.{Point}
use Rattle.plane_spec.specs.declared.PlanBox.{PlanBox}
use Rattle.plane_spec.specs.Lists.{distinct_by, distinct_after, numbered_pairs}
use Rattle.plane_spec.specs.Vectors.{vector}
use Rattle.plane_spec.specs.Fractions.{Fraction, RPoint, IsReduced, same_rpoint, same_value, along}
use Rattle.exact_geom.specs.Parts.{same_parts}
use Rattle.exact_geom.proofs.Lowest.{reduced_is_reduced, whole_is_reduced}
use Rattle.exact_geom.proofs.Values.{parts_tell_values}
use Rattle.list_laws.proofs.Tests.{list_any_agree}
use Rattle.list_laws.proofs.Firsts.{firsts_agree_on}
use Rattle.sight_spec.specs.Scene.{Scene}
use Rattle.sight_spec.specs.Stops.{stop_of}
use Rattle.sight_spec.specs.Axial.{AxialLine, here_of, end_by, line_through, is_seen_pair, same_ends, axial_lines}
use Rattle.spot_laws.proofs.Factors.{to_one}
use Rattle.extent_laws.specs.Corners.{Pair}
use Rattle.extent_laws.proofs.Hits.{IsHit}
use Rattle.extent_laws.proofs.Reaches.{reach, reach_is_hit, leads, same_back}
use Rattle.line_laws.proofs.Updated.{seen_differ}
use Rattle.axial_lines.specs.Found.{added, same_end, has_ends_of, is_wanted, lines_with}
use Rattle.axial_lines.specs.SameEnds.{ends_equiv}

-- ---- lists

-- `same` is an equivalence: elements that are like one another are like the same ones
module _ {X : Type 0} (same : X → X → Bool)
    (alike : (x y z : X) → same x y ≡ true → same x z ≡ same y z) where
  -- an element is like one that is kept where it is like one that was seen
  abbrev Covers : List X → List X → Type 0
  Covers kept seen = (y : X) → list_any (same y) kept ≡ list_any (same y) seen

  -- one that is like one kept needs no place
  covers_known : (x : X) (kept seen : List X) → Covers kept seen → list_any (same x) kept ≡ true
      → Covers kept (x ∷ seen)
  covers_known x kept seen covers known y = by (same y x) refl
    where
      by : (t : Bool) → same y x ≡ t → list_any (same y) kept ≡ (t || list_any (same y) seen)
      by true e = list_any_agree (same y) (same x) (λ z. alike y x z e) kept ∙ known
      by false e = covers y

  -- one that isn't goes last
  covers_added : (x : X) (kept seen : List X) → Covers kept seen → Covers (kept ++ x ∷ []) (x ∷ seen)
  covers_added x kept seen covers y =
      list_any-append (same y) kept (x ∷ [])
      ∙ ap (λ t. t || (same y x || false)) (covers y)
      ∙ turned (list_any (same y) seen) (same y x)
    where
      turned : (a b : Bool) → (a || (b || false)) ≡ (b || a)
      turned a b = grind arith

  added_after : (kept seen xs : List X) → Covers kept seen → added same kept xs ≡ kept ++ distinct_after same seen xs
  added_after kept seen [] covers = end_left kept
    where
      end_left : {Y : Type 0} (ys : List Y) → ys ≡ ys ++ []
      end_left [] = refl
      end_left (y ∷ ys) = ap (λ r. y ∷ r) (end_left ys)
  added_after kept seen (x ∷ xs) covers =
      by (list_any (same x) kept) refl (covers x)
      (λ e. added_after kept (x ∷ seen) xs (covers_known x kept seen covers e))
      (added_after (kept ++ x ∷ []) (x ∷ seen) xs (covers_added x kept seen covers))
    where
      by : (t : Bool) → list_any (same x) kept ≡ t → list_any (same x) kept ≡ list_any (same x) seen
          → (list_any (same x) kept ≡ true → added same kept xs ≡ kept ++ distinct_after same (x ∷ seen) xs)
          → added same (kept ++ x ∷ []) xs ≡ (kept ++ x ∷ []) ++ distinct_after same (x ∷ seen) xs
          → added same kept (x ∷ xs) ≡ kept ++ distinct_after same seen (x ∷ xs)
      by true e s f g = rw (e, sym s ∙ e) (f e)
      by false e s f g = rw (e, sym s ∙ e) (g ∙ append_assoc kept (x ∷ []) (distinct_after same (x ∷ seen) xs))

-- ---- ends in lowest terms

-- both coordinates are in lowest terms
record IsLow (p : RPoint) : Type 0 where
  x : IsReduced p.x
  y : IsReduced p.y

-- so are those of both ends
record HasLowEnds (l : AxialLine) : Type 0 where
  from : IsLow l.from
  to : IsLow l.to

-- then parts tell points apart
end_by_parts : (p q : RPoint) → IsLow p → IsLow q → same_end p q ≡ same_rpoint p q
end_by_parts p q i j =
    ap (λ t. t && same_parts p.y q.y) (parts_tell_values p.x q.x i.x j.x)
    ∙ ap (λ t. same_value p.x q.x && t) (parts_tell_values p.y q.y i.y j.y)

-- and lines
ends_by_parts : (l m : AxialLine) → HasLowEnds l → HasLowEnds m → has_ends_of l m ≡ same_ends l m
ends_by_parts l m i j =
    rw (
      end_by_parts l.from m.from i.from j.from,
      end_by_parts l.to m.to i.to j.to,
      end_by_parts l.from m.to i.from j.to,
      end_by_parts l.to m.from i.to j.from,
    ) refl

end_low : (p d : Point) (o : Option Fraction) → IsHit (reach o) → IsLow (end_by p d o)
unfolding along
end_low p d None h = record { x = whole_is_reduced p.x; y = whole_is_reduced p.y }
end_low p d (Some t) h =
    record { x = reduced_is_reduced _ (to_one t.den h.over.den); y = reduced_is_reduced _ (to_one t.den h.over.den) }

line_low : (scene : Scene) (e : Pair) → is_seen_pair scene e ≡ true → HasLowEnds (line_through scene e)
line_low scene e sees =
    let p = e.0.1 in
    let q = e.1.1 in
    let differ = seen_differ scene e sees in
    record {
      from = end_low p (vector q p) (stop_of scene p (vector q p))
          (reach_is_hit scene p (vector q p) (leads q p (same_back p q ∙ differ)));
      to = end_low q (vector p q) (stop_of scene q (vector p q)) (reach_is_hit scene q (vector p q) (leads p q differ));
    }

lines_low : (scene : Scene) (area : Option PlanBox) (es : List Pair) → All HasLowEnds (lines_with scene area es)
lines_low scene area es =
    let seen = filter (is_seen_pair scene) es in
    All-map HasLowEnds (line_through scene) (filter (is_wanted scene area) seen)
    (All-filter (is_wanted scene area) (λ e. HasLowEnds (line_through scene e)) seen
    (λ k d h. line_low scene _ (filter_passes (is_seen_pair scene) es k d h)))

-- ---- the lines of pairs

-- what is added to nothing are the lines that are like none before them
pub added_are_distinct : (scene : Scene) (area : Option PlanBox) (es : List Pair)
    → added has_ends_of [] (lines_with scene area es) ≡ distinct_by same_ends (lines_with scene area es)
added_are_distinct scene area es =
    let lines = lines_with scene area es in
    added_after has_ends_of ends_equiv.congr [] [] lines (λ y. refl)
    ∙ firsts_agree_on HasLowEnds has_ends_of same_ends ends_by_parts [] lines (All-nil HasLowEnds)
    (lines_low scene area es)

-- where no box is given all lines are wanted
pub all_wanted : (scene : Scene)
    → distinct_by same_ends (lines_with scene None (numbered_pairs (map here_of scene.corners))) ≡ axial_lines scene
unfolding axial_lines
all_wanted scene =
    ap (λ es. distinct_by same_ends (map (line_through scene) es))
    (every (filter (is_seen_pair scene) (numbered_pairs (map here_of scene.corners))))
  where
    every : {X : Type 0} (xs : List X) → filter (λ x. true) xs ≡ xs
    every [] = refl
    every (x ∷ xs) = ap (λ r. x ∷ r) (every xs)
