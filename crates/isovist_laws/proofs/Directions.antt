-- The directions in which corners lie: they are in order, none is (0,0), and where a corner lies one of them points.
use Rattle.std.proofs.Common.{◌≡◌, ◌∙◌, ℤ, pos, ◌-ℤ◌, ◌<ℤ◌, arith, Bool, true, false, not, ◌&&◌, List, [], ◌∷◌, filter, refl, sym, ap, subst}
use Rattle.std.specs.Ordering.{int_eq}
use Rattle.std.specs.List.{All, list_any}
use Rattle.std.specs.List.Sorted.{ties}
use Rattle.std.proofs.lemmas.Int.{ints}
use Rattle.std.proofs.lemmas.Bool.{and_parts, and_from, both_ways, not-true, not_from_false, or_left, or_right, true_from_ne_false, false_from_ne_true}
use Rattle.std.proofs.lemmas.List.Elements.{All-head, All-tail, All-map, All-weaker, filter_passes}
use Rattle.list_laws.specs.Orders.{IsRising, IsWeakOrder}
use Rattle.list_laws.proofs.Firsts.{firsts_hold}
use Rattle.list_laws.proofs.Tests.{list_any_map}
use Rattle.list_laws.proofs.Elements.{found_among_passing}
use Rattle.int_laws.proofs.Ring.{times_zero}
use Rattle.int_laws.proofs.Tests.{tested_equal, equal_tested}
use Rattle.plane_spec.specs.declared.Point.{Point}
use Rattle.plane_spec.specs.declared.Corner.{Corner}
use Rattle.plane_spec.specs.Lists.{distinct_by, in_order}
use Rattle.plane_spec.specs.Vectors.{vector, point, same_point, cross_of, turns_before, IsDirected}
use Rattle.exact_geom.proofs.Circle.{turns_one_way, turns_chain}
use Rattle.sight_spec.specs.Scene.{Scene}
use Rattle.sight_spec.specs.Isovist.{vector_to_corner, corner_directions}
use Rattle.isovist_laws.specs.Vectors.{is_elsewhere, vectors_to_corners}
use Rattle.isovist_laws.proofs.Firsts.{front, firsts_rise, holds_in_order, ties_in_firsts}
use Rattle.isovist_laws.proofs.Places.{stands_at, HasCorner}

-- ---- directions that lead somewhere

-- the order of directions is one
pub directions_order : IsWeakOrder IsDirected turns_before
directions_order = record {
  one_way = turns_one_way;
  through = λ a b c a_some b_some c_some h k.
      true_from_ne_false (turns_before a c)
      (λ n. both_ways (turns_before a b) (turns_chain a c b a_some c_some b_some n k) h);
}

same_parts : (p q : Point) → same_point p q ≡ true → p ≡ q
same_parts p q h =
    let parts = and_parts (int_eq p.x q.x) (int_eq p.y q.y) h in
    ap (λ x. point x p.y) (tested_equal p.x q.x parts.0) ∙ ap (λ y. point q.x y) (tested_equal p.y q.y parts.1)

same_tested : (p q : Point) → p ≡ q → same_point p q ≡ true
same_tested p q e =
    and_from (int_eq p.x q.x) (int_eq p.y q.y) (equal_tested p.x q.x (ap (λ r. r.x) e))
    (equal_tested p.y q.y (ap (λ r. r.y) e))

-- what is left of a direction, or right of it, leads somewhere
pub directed_by_cross : (e d : Point) → pos 0 <ℤ cross_of e d → IsDirected d
directed_by_cross e d up = record {
  somewhere =
      false_from_ne_true (same_point d (point (pos 0) (pos 0)))
      (λ h. let is = same_parts d (point (pos 0) (pos 0)) h in
      let none : cross_of e d ≡ pos 0 = ap (cross_of e) is ∙ nothing e in
      absurd (omega (arith, ints, none, up)));
}
  where
    nothing : (e : Point) → cross_of e (point (pos 0) (pos 0)) ≡ pos 0
    nothing e = let x = times_zero e.x in let y = times_zero e.y in omega (arith, ints, x, y)

-- the vector between different points leads somewhere
pub directed_vector : (p q : Point) → same_point q p ≡ false → IsDirected (vector p q)
directed_vector p q apart = record {
  somewhere =
      false_from_ne_true (same_point (vector p q) (point (pos 0) (pos 0)))
      (λ h. let is = same_parts (vector p q) (point (pos 0) (pos 0)) h in
      both_ways (same_point q p) apart (same_tested q p (meets is)));
}
  where
    meets : vector p q ≡ point (pos 0) (pos 0) → q ≡ p
    meets is =
        let x : q.x -ℤ p.x ≡ pos 0 = ap (λ r. r.x) is in
        let y : q.y -ℤ p.y ≡ pos 0 = ap (λ r. r.y) is in
        ap (λ x. point x q.y) (omega (arith, ints, x)) ∙ ap (λ y. point p.x y) (omega (arith, ints, y))

-- points between which a vector leads somewhere differ
pub apart_by_vector : (p q : Point) → IsDirected (vector p q) → same_point q p ≡ false
apart_by_vector p q some =
    false_from_ne_true (same_point q p)
    (λ h. let is = same_parts q p h in
    both_ways (same_point (vector p q) (point (pos 0) (pos 0))) some.somewhere
    (same_tested (vector p q) (point (pos 0) (pos 0)) (ap (vector p) is ∙ nowhere p)))
  where
    nowhere : (p : Point) → vector p p ≡ point (pos 0) (pos 0)
    nowhere p = ap (λ x. point x (p.y -ℤ p.y)) (none p.x) ∙ ap (λ y. point (pos 0) y) (none p.y)
      where
        none : (z : ℤ) → z -ℤ z ≡ pos 0
        none z = omega (arith, ints)

-- ---- the vectors to corners

pub vectors_directed : (scene : Scene) (p : Point) → All IsDirected (vectors_to_corners scene p)
vectors_directed scene p =
    All-map IsDirected (vector_to_corner p) (filter (is_elsewhere p) scene.corners)
    (All-weaker (λ c. is_elsewhere p c ≡ true) (λ c. IsDirected (vector_to_corner p c))
    (λ c h. directed_vector p c.here (not-true (same_point c.here p) h)) (filter (is_elsewhere p) scene.corners)
    (filter_passes (is_elsewhere p) scene.corners))

pub corner_directions_are : (scene : Scene) (p : Point)
    → corner_directions scene p ≡ in_order turns_before (distinct_by (ties turns_before) (vectors_to_corners scene p))
unfolding corner_directions
corner_directions_are scene p = refl

-- the directions of corners are in order
pub directions_rise : (scene : Scene) (p : Point) → IsRising turns_before (corner_directions scene p)
directions_rise scene p =
    subst (IsRising turns_before) (sym (corner_directions_are scene p))
    (firsts_rise IsDirected turns_before directions_order (vectors_to_corners scene p) (vectors_directed scene p))

-- what holds of the vectors to corners holds of their directions
pub directions_hold : (P : Point → Type 0) (scene : Scene) (p : Point) → All P (vectors_to_corners scene p)
    → All P (corner_directions scene p)
directions_hold P scene p all =
    subst (All P) (sym (corner_directions_are scene p))
    (holds_in_order IsDirected turns_before directions_order P
    (distinct_by (ties turns_before) (vectors_to_corners scene p))
    (firsts_hold P (ties turns_before) [] (vectors_to_corners scene p) all))

pub directions_directed : (scene : Scene) (p : Point) → All IsDirected (corner_directions scene p)
directions_directed scene p = directions_hold IsDirected scene p (vectors_directed scene p)

-- ---- where a corner lies

any_weaker : {X : Type 0} (test other : X → Bool) → ((x : X) → test x ≡ true → other x ≡ true) → (xs : List X)
    → list_any test xs ≡ true → list_any other xs ≡ true
any_weaker test other h [] e = e
any_weaker test other h (x ∷ xs) e = by (test x) refl e (any_weaker test other h xs)
  where
    by : (t : Bool) → test x ≡ t → list_any test (x ∷ xs) ≡ true
        → (list_any test xs ≡ true → list_any other xs ≡ true) → list_any other (x ∷ xs) ≡ true
    by true f e ih = or_left (other x) (list_any other xs) (h x f)
    by false f e ih = or_right (other x) (list_any other xs) (ih (rw f at e))

itself : (v : Point) → ties turns_before v v ≡ true
itself v = by (turns_before v v) refl
  where
    by : (t : Bool) → turns_before v v ≡ t → ties turns_before v v ≡ true
    by false e = rw e refl
    by true e = absurd (both_ways (turns_before v v) (turns_one_way v v e) e)

-- the vector to a corner ties with one of the vectors to corners
among_vectors : (scene : Scene) (p q : Point) → HasCorner scene.corners q → IsDirected (vector p q)
    → list_any (ties turns_before (vector p q)) (vectors_to_corners scene p) ≡ true
among_vectors scene p q stands some =
    list_any_map (ties turns_before (vector p q)) (vector_to_corner p) (filter (is_elsewhere p) scene.corners)
    ∙ found_among_passing (λ c. ties turns_before (vector p q) (vector_to_corner p c)) (is_elsewhere p) scene.corners
    ∙ any_weaker (stands_at q)
    (λ c. is_elsewhere p c && ties turns_before (vector p q) (vector_to_corner p c)) here scene.corners stands
  where
    here : (c : Corner) → stands_at q c ≡ true
        → (is_elsewhere p c && ties turns_before (vector p q) (vector_to_corner p c)) ≡ true
    here c h =
        let is : q ≡ c.here = sym (same_parts c.here q h) in
        subst (λ r. (not (same_point r p) && ties turns_before (vector p q) (vector p r)) ≡ true) is
        (and_from (not (same_point q p)) (ties turns_before (vector p q) (vector p q))
        (not_from_false (same_point q p) (apart_by_vector p q some)) (itself (vector p q)))

front_some : {X : Type 0} (xs : List X) → front xs ≡ [] → xs ≡ []
front_some [] h = refl
front_some (x ∷ xs) h = cc

none_passes : {X : Type 0} (test : X → Bool) (xs : List X) → filter test xs ≡ [] → list_any test xs ≡ false
none_passes test [] h = refl
none_passes {X = X} test (x ∷ xs) h = by (test x) refl h (none_passes test xs)
  where
    by : (t : Bool) → test x ≡ t → filter test (x ∷ xs) ≡ [] → (filter test xs ≡ [] → list_any test xs ≡ false)
        → list_any test (x ∷ xs) ≡ false
    by true e h ih = let f : x ∷ filter test xs ≡ [] = rw e at h in cc
    by false e h ih = rw e (ih (rw e at h))

none_left : {X : Type 0} (test : X → Bool) (xs : List X) → All (λ x. test x ≡ false) xs → filter test xs ≡ []
none_left test [] all = refl
none_left test (x ∷ xs) all =
    rw (All-head (λ x. test x ≡ false) x xs all) (none_left test xs (All-tail (λ x. test x ≡ false) x xs all))

-- so one of the directions points there
pub points_to_corner : (scene : Scene) (p q : Point) → HasCorner scene.corners q → IsDirected (vector p q)
    → All (λ x. ties turns_before (vector p q) x ≡ false) (corner_directions scene p) → ⊥
points_to_corner scene p q stands some none =
    let v = vector p q in
    let vectors = vectors_to_corners scene p in
    let all = subst (All (λ x. ties turns_before v x ≡ false)) (corner_directions_are scene p) none in
    let left : front (filter (ties turns_before v) vectors) ≡ [] =
    sym (ties_in_firsts IsDirected turns_before directions_order v some vectors (vectors_directed scene p))
    ∙ none_left (ties turns_before v) (in_order turns_before (distinct_by (ties turns_before) vectors)) all in
    both_ways (list_any (ties turns_before v) vectors)
    (none_passes (ties turns_before v) vectors (front_some (filter (ties turns_before v) vectors) left))
    (among_vectors scene p q stands some)
