-- Sums and counts over numbers in a row.
use Rattle.std.proofs.Common.{◌≡◌, ℕ, ◌+◌, ◌≤◌, Bool, arith}
use Rattle.std.proofs.lemmas.List.Sums.{count_by-le-length}
use Rattle.std.proofs.lemmas.List.FromFn.{length-range_with_len}
use Rattle.std.specs.List.{sum_by, count_by, range_with_len}
use Rattle.vga_grid.proofs.Counting.{sum_split}

-- one number more
pub sum_more : (f : ℕ → ℕ) (a n : ℕ) → sum_by f (range_with_len a (n + 1)) ≡ sum_by f (range_with_len a n) + f (a + n)
sum_more f a n = omega (arith, sum_split f a n 1)

pub sum_first : (f : ℕ → ℕ) (n : ℕ) → sum_by f (range_with_len 0 (n + 1)) ≡ sum_by f (range_with_len 0 n) + f n
sum_first f n =
    let z : 0 + n ≡ n = omega arith in
    let m = sum_more f 0 n in
    rw z at m

pub count_at_most : (p : ℕ → Bool) (a n : ℕ) → count_by p (range_with_len a n) ≤ n
count_at_most p a n = omega (arith, count_by-le-length p (range_with_len a n), length-range_with_len a n)
