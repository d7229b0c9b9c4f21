-- Numbers of elements, when some that stand together are gone.
use Rattle.std.specs.Prelude.{ℕ, ◌+◌, ◌-◌, nat_lt, Bool, ◌||◌, not, if◌then◌else◌}

-- the number isn't one of the `count` from `start` on
abbrev pub stays : ℕ → ℕ → ℕ → Bool
stays start count n = nat_lt n start || not (nat_lt n (start + count))

-- the number that element n has when the `count` from `start` on are gone
abbrev pub closed_up : ℕ → ℕ → ℕ → ℕ
closed_up start count n = if nat_lt n start then n else (n - count)
