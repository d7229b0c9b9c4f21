-- Products of bounded numbers.
use Rattle.std.proofs.Common.{ℕ, ◌*◌, ◌≤◌, ℤ, pos, ◌-ℤ◌, ◌*ℤ◌, arith, mul-le-mul}
use Rattle.std.specs.Prelude.{unsigned_abs}
use Rattle.std.proofs.lemmas.Int.{ints, unsigned_abs-mul}
use Rattle.plane_spec.specs.declared.Point.{Point}
use Rattle.plane_spec.specs.Vectors.{InRange, IsWithin, orient_of}
use lib.IntN.{negsuc}

-- the size of a number that is within a bound
pub size_within : (n : ℕ) (z : ℤ) → IsWithin (pos n) z → unsigned_abs z ≤ n
size_within n (pos z) h = omega (arith, ints)
size_within n (negsuc z) h = omega (arith, ints)

-- a number of such a size is within the bound
pub within_size : (n : ℕ) (z : ℤ) → unsigned_abs z ≤ n → IsWithin (pos n) z
within_size n (pos z) h = record { low = omega (arith, ints); high = omega (arith, ints) }
within_size n (negsuc z) h = record { low = omega (arith, ints); high = omega (arith, ints) }

-- a product is within the product of the bounds
pub product_within : (m n : ℕ) (a b : ℤ) → IsWithin (pos m) a → IsWithin (pos n) b → IsWithin (pos (m * n)) (a *ℤ b)
product_within m n a b h k =
    within_size (m * n) (a *ℤ b) (rw (unsigned_abs-mul a b) (mul-le-mul (size_within m a h) (size_within n b k)))

difference_within : (a b : ℤ) → IsWithin (pos 100000) a → IsWithin (pos 100000) b → IsWithin (pos 200000) (b -ℤ a)
difference_within a b h k = record { low = omega (arith, ints); high = omega (arith, ints) }

products_apart_within : (s t : ℤ) → IsWithin (pos 40000000000) s → IsWithin (pos 40000000000) t → IsWithin (pos 80000000000) (s -ℤ t)
products_apart_within s t h k = record { low = omega (arith, ints); high = omega (arith, ints) }

-- the orientation of points in range is at most 80000000000 in size
pub orient_within : (a b c : Point) → InRange a → InRange b → InRange c → IsWithin (pos 80000000000) (orient_of a b c)
orient_within a b c a_in b_in c_in =
    let bx = difference_within a.x b.x a_in.x b_in.x in
    let by = difference_within a.y b.y a_in.y b_in.y in
    let cx = difference_within a.x c.x a_in.x c_in.x in
    let cy = difference_within a.y c.y a_in.y c_in.y in
    products_apart_within _ _
    (product_within 200000 200000 (b.x -ℤ a.x) (c.y -ℤ a.y) bx cy)
    (product_within 200000 200000 (b.y -ℤ a.y) (c.x -ℤ a.x) by cx)
