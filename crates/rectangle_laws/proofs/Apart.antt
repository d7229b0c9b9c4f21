-- What lies in boxes that are apart doesn't touch: segments, borders, polygons.
--
-- Where two segments cross properly, or an end of one lies on the other, each meets every box that holds the other, so
-- its extents overlap those of the box. And what is inside a polygon is in each box that holds the polygon's points.
use Rattle.std.proofs.Common.{◌≡◌, refl, ap, ◌∙◌, arith, ℤ, ◌<ℤ◌, Bool, true, false, List, [], ◌∷◌}
use Rattle.std.specs.Prelude.{All, ◌&&◌, ◌||◌, int_lt, Some}
use Rattle.std.specs.List.{list_any}
use Rattle.std.proofs.lemmas.Int.{ints}
use Rattle.std.proofs.lemmas.Bool.{and_parts}
use Rattle.std.proofs.lemmas.List.Elements.{All-head, All-tail}
use Rattle.int_laws.proofs.Tests.{tested_less}
use Rattle.plane_spec.specs.declared.Point.{Point}
use Rattle.plane_spec.specs.declared.PlanBox.{PlanBox}
use Rattle.plane_spec.specs.declared.Segment.{Segment}
use Rattle.plane_spec.specs.Segments.{cross_properly, is_on_segment, do_touch}
use Rattle.plane_spec.specs.Boxes.{box_of_points, do_intervals_overlap, reaches_line, does_meet_box}
use Rattle.plane_spec.specs.Polygons.{edges_of, edges_touch, borders_touch, is_inside}
use Rattle.plan_spec.specs.Accepted.{polygons_meet}
use Rattle.box_laws.specs.Boxes.{IsIn, OfEnds}
use Rattle.box_laws.proofs.Held.{held_in}
use Rattle.box_laws.proofs.Parts.{edges_held}
use Rattle.box_laws.proofs.Touching.{not_true, touching_meets}
use Rattle.box_laws.proofs.Crossing.{crossing_meets}
use Rattle.box_laws.proofs.Blocking.{on_edge_in, or_cases}
use Rattle.box_laws.proofs.Within.{inside_in}
use Rattle.rectangle_laws.specs.Rectangles.{are_boxes_apart}

-- ---- segments

-- by which way the boxes are apart
apart_cases : {P : Type 0} (area other : PlanBox) → are_boxes_apart area other ≡ true
    → (area.high.x <ℤ other.low.x → P) → (other.high.x <ℤ area.low.x → P)
    → (area.high.y <ℤ other.low.y → P) → (other.high.y <ℤ area.low.y → P) → P
apart_cases area other h left right below above =
    or_cases (int_lt area.high.x other.low.x || int_lt other.high.x area.low.x)
    (int_lt area.high.y other.low.y || int_lt other.high.y area.low.y) h
    (λ k. or_cases (int_lt area.high.x other.low.x) (int_lt other.high.x area.low.x) k
    (λ t. left (tested_less _ _ t)) (λ t. right (tested_less _ _ t)))
    (λ k. or_cases (int_lt area.high.y other.low.y) (int_lt other.high.y area.low.y) k
    (λ t. below (tested_less _ _ t)) (λ t. above (tested_less _ _ t)))

-- no point is in both
pub not_in_both : (x : Point) (area other : PlanBox) → are_boxes_apart area other ≡ true → IsIn area x → IsIn other x
    → ⊥
not_in_both x area other apart i k =
    apart_cases area other apart
    (λ h. let a = i.right in let b = k.left in omega (arith, ints))
    (λ h. let a = i.left in let b = k.right in omega (arith, ints))
    (λ h. let a = i.above in let b = k.below in omega (arith, ints))
    (λ h. let a = i.below in let b = k.above in omega (arith, ints))

overlap_after : (m n low high : ℤ) → do_intervals_overlap m n low high ≡ true → high <ℤ m → high <ℤ n → ⊥
overlap_after m n low high h i k = grind (arith, ints)

overlap_before : (m n low high : ℤ) → do_intervals_overlap m n low high ≡ true → m <ℤ low → n <ℤ low → ⊥
overlap_before m n low high h i k = grind (arith, ints)

-- a segment between points of the one box doesn't meet the other
not_met : (c d : Point) (area other : PlanBox) → are_boxes_apart area other ≡ true → IsIn other c → IsIn other d
    → does_meet_box c d area ≡ true → ⊥
unfolding does_meet_box
not_met c d area other apart c_in d_in h =
    let across = do_intervals_overlap c.x d.x area.low.x area.high.x in
    let up = do_intervals_overlap c.y d.y area.low.y area.high.y in
    let both = and_parts across up (and_parts (across && up) (reaches_line c d area) h).0 in
    apart_cases area other apart
    (λ t. overlap_after c.x d.x _ _ both.0 (let a = c_in.left in omega (arith, ints))
    (let a = d_in.left in omega (arith, ints)))
    (λ t. overlap_before c.x d.x _ _ both.0 (let a = c_in.right in omega (arith, ints))
    (let a = d_in.right in omega (arith, ints)))
    (λ t. overlap_after c.y d.y _ _ both.1 (let a = c_in.below in omega (arith, ints))
    (let a = d_in.below in omega (arith, ints)))
    (λ t. overlap_before c.y d.y _ _ both.1 (let a = c_in.above in omega (arith, ints))
    (let a = d_in.above in omega (arith, ints)))

-- segments between points of boxes that are apart don't touch
pub no_touch : (a b c d : Point) (area other : PlanBox) → IsIn area a → IsIn area b → IsIn other c → IsIn other d
    → are_boxes_apart area other ≡ true → do_touch a b c d ≡ false
unfolding do_touch
no_touch a b c d area other a_in b_in c_in d_in apart =
    not_true _
    (λ h. or_cases (cross_properly a b c d)
    ((is_on_segment a c d || is_on_segment b c d) || (is_on_segment c a b || is_on_segment d a b)) h
    (λ t. missed (crossing_meets c d a b area a_in b_in t))
    (λ k. or_cases (is_on_segment a c d || is_on_segment b c d) (is_on_segment c a b || is_on_segment d a b) k
    (λ l. or_cases (is_on_segment a c d) (is_on_segment b c d) l
    (λ t. missed (touching_meets c d a area a_in t)) (λ t. missed (touching_meets c d b area b_in t)))
    (λ l. or_cases (is_on_segment c a b) (is_on_segment d a b) l
    (λ t. not_in_both c area other apart (on_edge_in c (record { a = a; b = b }) area a_in b_in t) c_in)
    (λ t. not_in_both d area other apart (on_edge_in d (record { a = a; b = b }) area a_in b_in t) d_in))))
  where
    missed : does_meet_box c d area ≡ true → ⊥
    missed t = not_met c d area other apart c_in d_in t

-- ---- borders

-- no element passes a test that none passes where a property holds
pub none_of : {X : Type 0} (P : X → Type 0) (test : X → Bool) → ((x : X) → P x → test x ≡ false)
    → (xs : List X) → All P xs → list_any test xs ≡ false
none_of P test fails [] all = refl
none_of P test fails (x ∷ xs) all =
    ap (λ t. t || list_any test xs) (fails x (All-head P x xs all)) ∙ none_of P test fails xs (All-tail P x xs all)

-- edges in boxes that are apart don't touch
edges_apart : (area other : PlanBox) → are_boxes_apart area other ≡ true → (e f : Segment) → OfEnds (IsIn area) e
    → OfEnds (IsIn other) f → edges_touch e f ≡ false
edges_apart area other apart e f h k = no_touch e.a e.b f.a f.b area other h.a h.b k.a k.b apart

pub borders_apart : (points others : List Point) (area other : PlanBox) → are_boxes_apart area other ≡ true
    → All (IsIn area) points → All (IsIn other) others → borders_touch points others ≡ false
borders_apart points others area other apart all every =
    none_of (OfEnds (IsIn area)) (λ e. list_any (edges_touch e) (edges_of others))
    (λ e h. none_of (OfEnds (IsIn other)) (edges_touch e) (λ f k. edges_apart area other apart e f h k)
    (edges_of others)
    (edges_held (IsIn other) others every))
    (edges_of points) (edges_held (IsIn area) points all)

-- ---- polygons

-- the boxes are apart the other way round too
pub apart_turned : (area other : PlanBox) → are_boxes_apart area other ≡ are_boxes_apart other area
apart_turned area other =
    turned (int_lt area.high.x other.low.x) (int_lt other.high.x area.low.x) (int_lt area.high.y other.low.y)
    (int_lt other.high.y area.low.y)
  where
    turned : (a b c d : Bool) → ((a || b) || (c || d)) ≡ ((b || a) || (d || c))
    turned a b c d = grind arith

none_inside : (points others : List Point) (area other : PlanBox) → are_boxes_apart area other ≡ true
    → All (IsIn area) points → All (IsIn other) others → list_any (λ p. is_inside p others) points ≡ false
none_inside points others area other apart all every =
    none_of (IsIn area) (λ p. is_inside p others)
    (λ p h. not_true _ (λ t. not_in_both p area other apart h (inside_in p others other every t))) points all

-- polygons whose points are in boxes that are apart don't meet
pub polygons_apart : (points others : List Point) (area other : PlanBox) → are_boxes_apart area other ≡ true
    → All (IsIn area) points → All (IsIn other) others → polygons_meet points others ≡ false
unfolding polygons_meet
polygons_apart points others area other apart all every =
    rw (
      borders_apart points others area other apart all every,
      none_inside points others area other apart all every,
      none_inside others points other area (apart_turned other area ∙ apart) every all,
    ) refl

-- and so those whose least boxes are apart
pub polygons_of_boxes_apart : (points others : List Point) (area other : PlanBox)
    → box_of_points points ≡ Some area → box_of_points others ≡ Some other → are_boxes_apart area other ≡ true
    → polygons_meet points others ≡ false
polygons_of_boxes_apart points others area other box box' apart =
    polygons_apart points others area other apart (held_in points area box) (held_in others other box')
