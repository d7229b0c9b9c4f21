-- Fractions over denominators of at least 1.
use Rattle.std.proofs.Common.{◌≡◌, ℤ, pos, ◌≤ℤ◌, true, ap, arith}
use Rattle.std.specs.Prelude.{int_lt, neg_ℤ, if◌then◌else◌}
use Rattle.std.proofs.lemmas.Int.{ints}
use Rattle.plane_spec.specs.Fractions.{Fraction, fraction}

is_up : (d : ℤ) → pos 1 ≤ℤ d → int_lt (pos 0) d ≡ true
is_up d up = grind (arith, ints)

pub fraction_up : (n d : ℤ) → pos 1 ≤ℤ d → fraction n d ≡ record { num = n; den = d }
fraction_up n d up =
    let kept : Fraction = record { num = n; den = d } in
    let turned : Fraction = record { num = neg_ℤ n; den = neg_ℤ d } in
    ap (λ b. if b then kept else turned) (is_up d up)
