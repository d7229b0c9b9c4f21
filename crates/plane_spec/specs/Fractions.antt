-- Fractions, and points whose coordinates are fractions.
use Rattle.std.specs.Prelude.{ℤ, pos, neg_ℤ, ◌+ℤ◌, ◌*ℤ◌, ◌≤ℤ◌, ℕ, zero, suc, ◌+◌, ◌/◌, ◌%◌, unsigned_abs, Bool, ◌&&◌, int_lt, int_le, if◌then◌else◌}
use Rattle.std.specs.Ordering.{int_eq}
use Rattle.std.specs.Int.{int_div_euclid, IsGcd}
use Rattle.std.specs.declared.cmp.Ordering.{Ordering}
use Rattle.std.specs.declared.cmp.Ordering.TheVariants.{Less, Equal, Greater}
use Rattle.plane_spec.specs.declared.Point.{Point}

-- num / den, where den is at least 1
pub record Fraction : Type 0 where
  pub num : ℤ
  pub den : ℤ

-- num / den for any den but 0: the sign goes to the numerator
abbrev pub fraction : ℤ → ℤ → Fraction
fraction num den = if int_lt (pos 0) den then record { num = num; den = den } else record { num = neg_ℤ num; den = neg_ℤ den }

-- the whole number z
abbrev pub whole : ℤ → Fraction
whole z = record { num = z; den = pos 1 }

-- ---- order

-- f is less than g
abbrev pub is_before : Fraction → Fraction → Bool
is_before f g = int_lt (f.num *ℤ g.den) (g.num *ℤ f.den)

-- f and g have one value
abbrev pub same_value : Fraction → Fraction → Bool
same_value f g = int_eq (f.num *ℤ g.den) (g.num *ℤ f.den)

-- the order of the values
unfoldable pub value_order_of : Fraction → Fraction → Ordering
value_order_of f g = if is_before f g then Less else (if is_before g f then Greater else Equal)

-- the whole number is at most f
abbrev pub is_at_least : Fraction → ℤ → Bool
is_at_least f z = int_le (z *ℤ f.den) f.num

-- f is at most the whole number
abbrev pub is_at_most : Fraction → ℤ → Bool
is_at_most f z = int_le f.num (z *ℤ f.den)

-- the greatest whole number that isn't above f
abbrev pub floor_of : Fraction → ℤ
floor_of f = int_div_euclid f.num f.den

-- the least whole number that isn't below f
abbrev pub ceil_of : Fraction → ℤ
ceil_of f = neg_ℤ (int_div_euclid (neg_ℤ f.num) f.den)

-- ---- lowest terms

-- the greatest common divisor by remainders, in at most so many steps; each step makes the second number smaller
abbrev pub divisor_within : ℕ → ℕ → ℕ → ℕ
divisor_within zero a b = a
divisor_within (suc steps) a zero = a
divisor_within (suc steps) a (suc b) = divisor_within steps (suc b) (a % suc b)

-- the greatest common divisor
unfoldable pub common_divisor : ℕ → ℕ → ℕ
common_divisor a b = divisor_within (b + 1) a b

-- z divided by a divisor of its size
abbrev pub divided : ℤ → ℕ → ℤ
divided z g = if int_lt z (pos 0) then neg_ℤ (pos (unsigned_abs z / g)) else pos (unsigned_abs z / g)

-- the same value in lowest terms
unfoldable pub reduced : Fraction → Fraction
reduced f =
    let g = common_divisor (unsigned_abs f.num) (unsigned_abs f.den) in
    record { num = divided f.num g; den = divided f.den g }

-- in lowest terms, over a denominator of at least 1
pub record IsReduced (f : Fraction) : Type 0 where
  pub lowest : IsGcd (unsigned_abs f.num) (unsigned_abs f.den) 1
  pub positive : pos 1 ≤ℤ f.den

-- ---- points

-- a point whose coordinates are fractions
pub record RPoint : Type 0 where
  pub x : Fraction
  pub y : Fraction

-- the whole point as such a point
abbrev pub whole_point : Point → RPoint
whole_point p = record { x = whole p.x; y = whole p.y }

-- the coordinate z + t d
abbrev pub shifted : ℤ → ℤ → Fraction → Fraction
shifted z d t = reduced (record { num = z *ℤ t.den +ℤ t.num *ℤ d; den = t.den })

-- the point p + t d
unfoldable pub along : Point → Point → Fraction → RPoint
along p d t = record { x = shifted p.x d.x t; y = shifted p.y d.y t }

-- the same point
abbrev pub same_rpoint : RPoint → RPoint → Bool
same_rpoint p q = same_value p.x q.x && same_value p.y q.y
