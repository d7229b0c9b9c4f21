-- Segments with a common point touch: they cross properly, or an end of one lies on the other.
--
-- Where no end of the second lies on the first, and the segments don't touch, the common point is on neither side of
-- the first's line that the ends allow: `Shared` goes through the signs.
use Rattle.std.specs.Prelude.{Bool, true, false, ◌||◌}
use Rattle.std.proofs.Common.{◌≡◌, ℕ, ◌<◌, ℤ, pos, ◌<ℤ◌, ◌∙◌, sym, subst, refl, arith}
use Rattle.std.proofs.lemmas.Int.{ints}
use Rattle.plane_spec.specs.declared.Point.{Point}
use Rattle.plane_spec.specs.Vectors.{same_point}
use Rattle.plane_spec.specs.Segments.{is_between, is_on_segment, cross_properly, do_touch}
use Rattle.plane_spec.proofs.Laws.{touching_is_symmetric}
use Rattle.plane_laws.proofs.Points.Between.{between, same_from_test, same_coordinates}
use Rattle.plane_laws.specs.Enlarged.{enlarged}
use Rattle.plane_laws.proofs.Points.Scaled.{touch_scaled}
use Rattle.plane_laws.proofs.Segments.Shared.{none_shared}

-- an end of one that is on the other is a touch
touch_of_third : (c s t u v : Bool) → u ≡ true → (c || ((s || t) || (u || v))) ≡ true
touch_of_third true s t u v h = refl
touch_of_third false true t u v h = refl
touch_of_third false false true u v h = refl
touch_of_third false false false true v h = refl
touch_of_third false false false false v h = cc

touch_of_fourth : (c s t u v : Bool) → v ≡ true → (c || ((s || t) || (u || v))) ≡ true
touch_of_fourth true s t u v h = refl
touch_of_fourth false true t u v h = refl
touch_of_fourth false false true u v h = refl
touch_of_fourth false false false true v h = refl
touch_of_fourth false false false false v h = h

third : (a b c d : Point) → is_on_segment c a b ≡ true → do_touch a b c d ≡ true
unfolding do_touch
third a b c d h =
    touch_of_third (cross_properly a b c d) (is_on_segment a c d) (is_on_segment b c d) (is_on_segment c a b)
    (is_on_segment d a b) h

fourth : (a b c d : Point) → is_on_segment d a b ≡ true → do_touch a b c d ≡ true
unfolding do_touch
fourth a b c d h =
    touch_of_fourth (cross_properly a b c d) (is_on_segment a c d) (is_on_segment b c d) (is_on_segment c a b)
    (is_on_segment d a b) h

-- what is on a segment that is a point is that point
only : (x a : Point) → is_on_segment x a a ≡ true → x ≡ a
only x a on = let b = between x a a on in same_coordinates x.x x.y a.x a.y (at x.x a.x b.x) (at x.y a.y b.y)
  where
    at : (x a : ℤ) → is_between x a a ≡ true → x ≡ a
    at x a h = grind (arith, ints)

pub common_point_touches : (a b c d x : Point) → is_on_segment x a b ≡ true → is_on_segment x c d ≡ true
    → do_touch a b c d ≡ true
common_point_touches a b c d x first second =
    by_tests (is_on_segment c a b) (is_on_segment d a b) (same_point a b) (same_point c d) refl refl refl refl
  where
    by_tests : (s t u v : Bool) → is_on_segment c a b ≡ s → is_on_segment d a b ≡ t → same_point a b ≡ u
        → same_point c d ≡ v → do_touch a b c d ≡ true
    by_tests true t u v e f g h = third a b c d e
    by_tests false true u v e f g h = fourth a b c d f
    by_tests false false true v e f g h =
        let same = same_from_test a b g in
        let at = only x a (subst (λ t. is_on_segment x a t ≡ true) same first) in
        sym (touching_is_symmetric c d a b) ∙ third c d a b (subst (λ t. is_on_segment t c d ≡ true) at second)
    by_tests false false false true e f g h =
        let same = same_from_test c d h in
        let at = only x c (subst (λ t. is_on_segment x c t ≡ true) same second) in
        third a b c d (subst (λ t. is_on_segment t a b ≡ true) at first)
    by_tests false false false false e f g h =
        by_touch (do_touch a b c d) refl
      where
        by_touch : (t : Bool) → do_touch a b c d ≡ t → do_touch a b c d ≡ true
        by_touch true i = i
        by_touch false i = absurd (none_shared a b c d x g h i first second e f)

-- in a plane that is n times as large the same segments touch
pub touch_enlarged : (n : ℕ) (a b c d : Point) → 0 < n
    → do_touch (enlarged n a) (enlarged n b) (enlarged n c) (enlarged n d) ≡ do_touch a b c d
touch_enlarged n a b c d some =
    let up : pos 0 <ℤ pos n = omega (arith, ints, some) in
    touch_scaled (pos n) (pos n) a b c d up up
