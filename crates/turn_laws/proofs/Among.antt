-- A direction spans a blocker exactly where it comes between the blocker's ends.
--
-- `turns_before` compares first the half of the circle in which two directions lie, and within one half their cross
-- product. So eight cases of halves are taken one by one. Where all three lie in one half, both sides say the same.
-- Else one of the two crosses decides, and the other follows: turned by half a circle, the three lie in one half,
-- where crosses pass on (`left_of_left`); or all three would turn more than a half, against the positive spread.
use Rattle.std.proofs.Common.{◌≡◌, ℤ, pos, ◌*ℤ◌, neg_ℤ, ◌<ℤ◌, ap, ◌∙◌, refl, arith, sym}
use Rattle.std.proofs.lemmas.Int.{ints}
use Rattle.std.specs.Prelude.{◌&&◌, ◌||◌, Bool, true, false, int_lt}
use Rattle.plane_spec.specs.Vectors.{cross_of, turns_by, IsDirected, is_upper, turns_before}
use Rattle.plane_spec.specs.declared.Point.{Point}
use Rattle.int_laws.proofs.Ring.{times_zero, neg_twice}
use Rattle.int_laws.proofs.Signs.{positive_tested, tested_positive}
use Rattle.exact_geom.proofs.Circle.{IsUpper, left_of_left, back, back_right, back_left, lower_is, upper_is}
use Rattle.exact_geom.proofs.Turns.{cross_of_exchanged}
use Rattle.front_laws.proofs.Tests.{positive_as, by_cases}
use Rattle.front_laws.specs.Seen.{Seen, spans}
use Rattle.turn_laws.specs.Turns.{among_by, is_among}

pub zero_times : (x y : ℤ) → y ≡ pos 0 → x *ℤ y ≡ pos 0
zero_times x y h = ap (λ t. x *ℤ t) h ∙ times_zero x

chain : (a b c : Point) → IsUpper a.x a.y → IsUpper b.x b.y → IsUpper c.x c.y → pos 0 <ℤ cross_of a b
    → pos 0 <ℤ cross_of b c → pos 0 <ℤ cross_of a c
chain a b c = left_of_left a.x a.y b.x b.y c.x c.y

-- what holds of cross_of_three directions by their halves: s and e, and d between them or not
pub record Halves (s d e sd de : Bool) : Type 0 where
  pub up_up_down : s ≡ true → d ≡ true → e ≡ false → sd ≡ true → de ≡ true
  pub up_down_down : s ≡ true → d ≡ false → e ≡ false → de ≡ true → sd ≡ true
  pub down_up_up : s ≡ false → d ≡ true → e ≡ true → de ≡ true → sd ≡ true
  pub down_down_up : s ≡ false → d ≡ false → e ≡ true → sd ≡ true → de ≡ true
  pub up_down_up : s ≡ true → d ≡ false → e ≡ true → sd ≡ true → de ≡ false
  pub down_up_down : s ≡ false → d ≡ true → e ≡ false → sd ≡ true → de ≡ false

second_decides : (a b : Bool) → (a ≡ true → b ≡ true) → (a && b) ≡ a
second_decides true b h = h refl
second_decides false b h = refl

first_decides : (a b : Bool) → (b ≡ true → a ≡ true) → (a && b) ≡ b
first_decides true b h = refl
first_decides false true h = h refl
first_decides false false h = refl

never_both : (a b : Bool) → (a ≡ true → b ≡ false) → (a && b) ≡ false
never_both true b h = h refl
never_both false b h = refl

or_false : (a : Bool) → a ≡ (a || false)
or_false true = refl
or_false false = refl

among_halves : (s d e sd de : Bool) → Halves s d e sd de → (sd && de)
    ≡ among_by (turns_by s e true) (turns_by s d sd) (turns_by d e de)
among_halves true true true sd de h = refl
among_halves true true false sd de h = second_decides sd de (h.up_up_down refl refl refl) ∙ and_true sd
  where
    and_true : (a : Bool) → a ≡ (a && true)
    and_true true = refl
    and_true false = refl
among_halves true false false sd de h = first_decides sd de (h.up_down_down refl refl refl)
among_halves true false true sd de h = never_both sd de (h.up_down_up refl refl refl)
among_halves false true true sd de h = first_decides sd de (h.down_up_up refl refl refl)
among_halves false false true sd de h = second_decides sd de (h.down_down_up refl refl refl) ∙ or_false sd
among_halves false true false sd de h = never_both sd de (h.down_up_down refl refl refl)
among_halves false false false sd de h = refl

none_less : (y z : ℤ) → y ≡ neg_ℤ z → pos 0 <ℤ z → int_lt (pos 0) y ≡ false
none_less y z e h = grind (arith, ints)

-- left of the other way round
turn_left : (a b : Point) → pos 0 <ℤ cross_of a b → pos 0 <ℤ cross_of b (back a)
turn_left a b h = positive_as _ _ (back_right b a ∙ ap neg_ℤ (cross_of_exchanged a b) ∙ neg_twice _) h

turn_right : (a b : Point) → pos 0 <ℤ cross_of a b → pos 0 <ℤ cross_of (back b) a
turn_right a b h = positive_as _ _ (back_left b a ∙ ap neg_ℤ (cross_of_exchanged a b) ∙ neg_twice _) h

turn_both : (a b : Point) → pos 0 <ℤ cross_of a b → pos 0 <ℤ cross_of (back a) (back b)
turn_both a b h = positive_as _ _ (back_left a (back b) ∙ ap neg_ℤ (back_right a b) ∙ neg_twice _) h

unturn_left : (a b : Point) → pos 0 <ℤ cross_of b (back a) → pos 0 <ℤ cross_of a b
unturn_left a b h = positive_as _ _ (sym (back_right b a ∙ ap neg_ℤ (cross_of_exchanged a b) ∙ neg_twice _)) h

unturn_right : (a b : Point) → pos 0 <ℤ cross_of (back b) a → pos 0 <ℤ cross_of a b
unturn_right a b h = positive_as _ _ (sym (back_left b a ∙ ap neg_ℤ (cross_of_exchanged a b) ∙ neg_twice _)) h

against : (a b : Point) → pos 0 <ℤ cross_of a b → int_lt (pos 0) (cross_of b a) ≡ false
against a b h = none_less (cross_of b a) (cross_of a b) (cross_of_exchanged a b) h

clash : {P : Type 0} (a b : Point) → pos 0 <ℤ cross_of a b → pos 0 <ℤ cross_of b a → P
clash a b h k = absurd (no _ _ (cross_of_exchanged a b) h k)
  where
    no : (x y : ℤ) → y ≡ neg_ℤ x → pos 0 <ℤ x → pos 0 <ℤ y → ⊥
    no x y e h k = omega (arith, ints)

halves_of : (s d e : Point) → IsDirected s → IsDirected d → IsDirected e → pos 0 <ℤ cross_of s e
    → Halves (is_upper s) (is_upper d) (is_upper e) (int_lt (pos 0) (cross_of s d)) (int_lt (pos 0) (cross_of d e))
halves_of s d e s_some d_some e_some se = record {
  up_up_down = λ hs hd he sd. positive_tested _
      (unturn_right d e (chain (back e) s d (lower_is e e_some he) (upper_is s hs) (upper_is d hd) (turn_right s e se)
      (tested_positive _ sd)));
  up_down_down = λ hs hd he de. positive_tested _
      (unturn_right s d (chain (back d) (back e) s (lower_is d d_some hd) (lower_is e e_some he) (upper_is s hs)
      (turn_both d e (tested_positive _ de)) (turn_right s e se)));
  down_up_up = λ hs hd he de. positive_tested _
      (unturn_left s d (chain d e (back s) (upper_is d hd) (upper_is e he) (lower_is s s_some hs)
      (tested_positive _ de) (turn_left s e se)));
  down_down_up = λ hs hd he sd. positive_tested _
      (unturn_left d e (chain e (back s) (back d) (upper_is e he) (lower_is s s_some hs) (lower_is d d_some hd)
      (turn_left s e se) (turn_both s d (tested_positive _ sd))));
  up_down_up = λ hs hd he sd. by_cases (int_lt (pos 0) (cross_of d e))
      (λ de. clash s e se (chain e (back d) s (upper_is e he) (lower_is d d_some hd) (upper_is s hs)
      (turn_left d e (tested_positive _ de)) (turn_right s d (tested_positive _ sd))))
      (λ de. de);
  down_up_down = λ hs hd he sd. by_cases (int_lt (pos 0) (cross_of d e))
      (λ de. clash (back s) (back e) (turn_both s e se)
      (chain (back e) d (back s) (lower_is e e_some he) (upper_is d hd) (lower_is s s_some hs)
      (turn_right d e (tested_positive _ de)) (turn_left s d (tested_positive _ sd))))
      (λ de. de);
}

-- a blocker is spanned strictly exactly in the directions from its first end to its second, in the order round the
-- circle
pub spans_is_among : (d : Point) (w : Seen) → IsDirected w.from → IsDirected d → IsDirected w.to
    → pos 0 <ℤ cross_of w.from w.to
    → spans d w ≡ is_among w.from d w.to
unfolding turns_before
spans_is_among d w from d_some to h =
    among_halves (is_upper w.from) (is_upper d) (is_upper w.to) (int_lt (pos 0) (cross_of w.from d))
    (int_lt (pos 0) (cross_of d w.to)) (halves_of w.from d w.to from d_some to h)
    ∙ ap (λ t. among_by (turns_by (is_upper w.from) (is_upper w.to) t)
    (turns_by (is_upper w.from) (is_upper d) (int_lt (pos 0) (cross_of w.from d)))
    (turns_by (is_upper d) (is_upper w.to) (int_lt (pos 0) (cross_of d w.to))))
    (sym (positive_tested (cross_of w.from w.to) h))

-- ---- the order round the circle

turns_one_way_by : (a b ab ba : Bool) → (ab ≡ true → ba ≡ false) → turns_by a b ab ≡ true → turns_by b a ba ≡ false
turns_one_way_by true true ab ba f h = f h
turns_one_way_by true false ab ba f h = refl
turns_one_way_by false true ab ba f h = absurd (grind arith)
turns_one_way_by false false ab ba f h = f h
