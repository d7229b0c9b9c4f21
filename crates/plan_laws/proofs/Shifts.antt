-- What stays the same where all points are shifted alike.
use Rattle.std.specs.Prelude.{◌≡◌, ℕ, ◌%◌, ◌==◌, count_by, ℤ, ◌+ℤ◌, ◌-ℤ◌, int_le, int_lt, not, ◌&&◌, List, [], ◌∷◌, length, map}
use Rattle.std.specs.List.{list_all, list_any}
use Rattle.std.specs.Ordering.{int_eq}
use Rattle.std.proofs.Common.{refl, ap, ◌∙◌, arith}
use Rattle.std.proofs.lemmas.Int.{ints}
use Rattle.std.proofs.lemmas.List.{length-map}
use Rattle.std.proofs.lemmas.List.Folds.{list_all-map}
use Rattle.plane_spec.specs.declared.Point.{Point}
use Rattle.plane_spec.specs.declared.Segment.{Segment}
use Rattle.plane_spec.specs.Lists.{numbered_pairs}
use Rattle.plane_spec.specs.Vectors.{orient_of, same_point}
use Rattle.plane_spec.specs.Segments.{is_on_segment, cross_properly, do_touch}
use Rattle.plane_spec.specs.Polygons.{edges_to, edges_of, is_on_edge, is_on_border, passes_right, is_inside, borders_touch, is_nothing, has_repeat, may_be_edges, crosses_nowhere}
use Rattle.plan_spec.specs.Edits.{shifted_point}
use Rattle.list_laws.proofs.Tests.{list_all_agree, list_any_map, list_any_agree, count_map}
use Rattle.plan_laws.proofs.Pairs.{each_of_pair, beside_number, numbered_pairs_map}

-- ---- coordinates

pub difference_shifted : (a b d : ℤ) → (b +ℤ d) -ℤ (a +ℤ d) ≡ b -ℤ a
difference_shifted a b d = omega (arith, ints)

pub le_shifted : (a b d : ℤ) → int_le (a +ℤ d) (b +ℤ d) ≡ int_le a b
le_shifted a b d = grind (arith, ints)

pub lt_shifted : (a b d : ℤ) → int_lt (a +ℤ d) (b +ℤ d) ≡ int_lt a b
lt_shifted a b d = grind (arith, ints)

pub eq_shifted : (a b d : ℤ) → int_eq (a +ℤ d) (b +ℤ d) ≡ int_eq a b
eq_shifted a b d = simp lt_shifted

-- ---- points

module _ (dx dy : ℤ) where
  pub orient_shifted : (a b c : Point) → orient_of (shifted_point dx dy a) (shifted_point dx dy b) (shifted_point dx dy c) ≡ orient_of a b c
  orient_shifted a b c = simp difference_shifted

  pub same_point_shifted : (p q : Point) → same_point (shifted_point dx dy p) (shifted_point dx dy q) ≡ same_point p q
  same_point_shifted p q = simp eq_shifted

  pub on_segment_shifted : (x a b : Point) → is_on_segment (shifted_point dx dy x) (shifted_point dx dy a) (shifted_point dx dy b) ≡ is_on_segment x a b
  unfolding is_on_segment
  on_segment_shifted x a b = simp (difference_shifted, le_shifted)

  cross_properly_shifted : (a b c d : Point)
      → cross_properly (shifted_point dx dy a) (shifted_point dx dy b) (shifted_point dx dy c) (shifted_point dx dy d) ≡ cross_properly a b c d
  unfolding cross_properly
  cross_properly_shifted a b c d = simp difference_shifted

  pub touch_shifted : (a b c d : Point) → do_touch (shifted_point dx dy a) (shifted_point dx dy b) (shifted_point dx dy c) (shifted_point dx dy d) ≡ do_touch a b c d
  unfolding do_touch
  touch_shifted a b c d = simp (cross_properly_shifted, on_segment_shifted)

  -- ---- edges

  pub shifted_edge : Segment → Segment
  shifted_edge e = record { a = shifted_point dx dy e.a; b = shifted_point dx dy e.b }

  edges_to_shifted : (first : Point) (points : List Point)
      → edges_to (shifted_point dx dy first) (map (shifted_point dx dy) points) ≡ map shifted_edge (edges_to first points)
  unfolding edges_to shifted_edge
  edges_to_shifted first [] = refl
  edges_to_shifted first (p ∷ []) = refl
  edges_to_shifted first (p ∷ q ∷ points) = ap (λ t. shifted_edge (record { a = p; b = q }) ∷ t) (edges_to_shifted first (q ∷ points))

  pub edges_shifted : (points : List Point) → edges_of (map (shifted_point dx dy) points) ≡ map shifted_edge (edges_of points)
  edges_shifted [] = refl
  edges_shifted (p ∷ points) = edges_to_shifted p (p ∷ points)

  -- ---- polygons

  pub repeat_shifted : (points : List Point) → has_repeat (map (shifted_point dx dy) points) ≡ has_repeat points
  unfolding shifted_edge
  repeat_shifted points =
      ap (list_any is_nothing) (edges_shifted points)
      ∙ list_any_map is_nothing shifted_edge (edges_of points)
      ∙ list_any_agree (λ e. is_nothing (shifted_edge e)) is_nothing (λ e. same_point_shifted e.a e.b) (edges_of points)

  may_stand_shifted : (count : ℕ) (e : (ℕ × Segment) × (ℕ × Segment)) → may_be_edges count (each_of_pair (beside_number shifted_edge) e) ≡ may_be_edges count e
  unfolding may_be_edges shifted_edge each_of_pair beside_number
  may_stand_shifted count e = simp (on_segment_shifted, touch_shifted)

  pub crosses_shifted : (points : List Point) → crosses_nowhere (map (shifted_point dx dy) points) ≡ crosses_nowhere points
  unfolding crosses_nowhere
  crosses_shifted points =
      ap (λ n. list_all (may_be_edges n) (numbered_pairs (edges_of (map (shifted_point dx dy) points)))) (length-map points (shifted_point dx dy))
      ∙ ap (λ edges. list_all (may_be_edges (length points)) (numbered_pairs edges)) (edges_shifted points)
      ∙ ap (list_all (may_be_edges (length points))) (numbered_pairs_map shifted_edge (edges_of points))
      ∙ list_all-map (may_be_edges (length points)) (each_of_pair (beside_number shifted_edge)) (numbered_pairs (edges_of points))
      ∙ list_all_agree (λ e. may_be_edges (length points) (each_of_pair (beside_number shifted_edge) e)) (may_be_edges (length points)) (may_stand_shifted (length points)) (numbered_pairs (edges_of points))

  -- ---- inside

  pub on_border_shifted : (x : Point) (points : List Point) → is_on_border (shifted_point dx dy x) (map (shifted_point dx dy) points) ≡ is_on_border x points
  unfolding shifted_edge
  on_border_shifted x points =
      ap (list_any (is_on_edge (shifted_point dx dy x))) (edges_shifted points)
      ∙ list_any_map (is_on_edge (shifted_point dx dy x)) shifted_edge (edges_of points)
      ∙ list_any_agree (λ e. is_on_edge (shifted_point dx dy x) (shifted_edge e)) (is_on_edge x) (λ e. on_segment_shifted x e.a e.b) (edges_of points)

  pub passes_right_shifted : (x : Point) (e : Segment) → passes_right (shifted_point dx dy x) (shifted_edge e) ≡ passes_right x e
  unfolding passes_right shifted_edge
  passes_right_shifted x e = simp (le_shifted, lt_shifted, difference_shifted)

  passing_shifted : (x : Point) (points : List Point)
      → count_by (passes_right (shifted_point dx dy x)) (edges_of (map (shifted_point dx dy) points)) ≡ count_by (passes_right x) (edges_of points)
  passing_shifted x points =
      ap (count_by (passes_right (shifted_point dx dy x))) (edges_shifted points)
      ∙ count_map (passes_right (shifted_point dx dy x)) shifted_edge (edges_of points)
      ∙ simp passes_right_shifted

  pub inside_shifted : (x : Point) (points : List Point) → is_inside (shifted_point dx dy x) (map (shifted_point dx dy) points) ≡ is_inside x points
  unfolding is_inside
  inside_shifted x points =
      ap (λ t. not t && (count_by (passes_right (shifted_point dx dy x)) (edges_of (map (shifted_point dx dy) points)) % 2 == 1)) (on_border_shifted x points)
      ∙ ap (λ n. not (is_on_border x points) && (n % 2 == 1)) (passing_shifted x points)

  pub borders_touch_shifted : (points others : List Point)
      → borders_touch (map (shifted_point dx dy) points) (map (shifted_point dx dy) others) ≡ borders_touch points others
  unfolding shifted_edge
  borders_touch_shifted points others = simp (edges_shifted, list_any_map, touch_shifted)
