-- Sums of weighted numbers that aren't on different sides of 0.
use Rattle.std.proofs.Common.{ℤ, pos, ◌+ℤ◌, ◌*ℤ◌, neg_ℤ, ◌<ℤ◌, ◌≤ℤ◌, arith}
use Rattle.std.proofs.lemmas.Int.{ints}
use Rattle.int_laws.proofs.Ring.{times_neg}
use Rattle.int_laws.proofs.Signs.{not_negative_product, positive_product}

pub weighted_up : (a b x y : ℤ) → pos 0 <ℤ a → pos 0 <ℤ b → pos 0 ≤ℤ x → pos 0 <ℤ y → pos 0 <ℤ (a *ℤ x +ℤ b *ℤ y)
weighted_up a b x y h k u v =
    let g = not_negative_product a x (omega (arith, ints)) u in
    let f = positive_product b y k v in
    omega (arith, ints, g, f)

pub weighted_up_first : (a b x y : ℤ) → pos 0 <ℤ a → pos 0 <ℤ b → pos 0 <ℤ x → pos 0 ≤ℤ y → pos 0 <ℤ (a *ℤ x +ℤ b *ℤ y)
weighted_up_first a b x y h k u v =
    let g = not_negative_product b y (omega (arith, ints)) v in
    let f = positive_product a x h u in
    omega (arith, ints, g, f)

pub weighted_down : (a b x y : ℤ) → pos 0 <ℤ a → pos 0 <ℤ b → x ≤ℤ pos 0 → y <ℤ pos 0 → (a *ℤ x +ℤ b *ℤ y) <ℤ pos 0
weighted_down a b x y h k u v =
    let g = weighted_up a b (neg_ℤ x) (neg_ℤ y) h k (omega (arith, ints)) (omega (arith, ints)) in
    let e = times_neg a x in
    let f = times_neg b y in
    omega (arith, ints, g, e, f)

pub weighted_down_first : (a b x y : ℤ) → pos 0 <ℤ a → pos 0 <ℤ b → x <ℤ pos 0 → y ≤ℤ pos 0
    → (a *ℤ x +ℤ b *ℤ y) <ℤ pos 0
weighted_down_first a b x y h k u v =
    let g = weighted_up_first a b (neg_ℤ x) (neg_ℤ y) h k (omega (arith, ints)) (omega (arith, ints)) in
    let e = times_neg a x in
    let f = times_neg b y in
    omega (arith, ints, g, e, f)
