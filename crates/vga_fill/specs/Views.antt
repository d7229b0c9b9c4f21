-- What a seat knows, and what each event makes of it.
use Rattle.std.specs.Prelude.{◌≡◌, ℕ, ◌+◌, ◌-◌, ◌/◌, ◌^◌, ◌&&◌, ◌||◌, ◌==◌, List}
use Rattle.std.specs.Prelude.{[], ◌∷◌, ◌++◌, Bool, true, false, cond, nat_lt, Some, None}
use Rattle.std.specs.Int.{bit_at}
use Rattle.vga_fill.specs.declared.events.View.{View}
use Rattle.vga_fill.specs.declared.events.Task.{Task}

-- how often a row is among those that a seat claimed
abbrev pub times : ℕ → List ℕ → ℕ
times row [] = 0
times row (r ∷ rows) = cond (r == row) 1 0 + times row rows

-- one of these events wrote bit b of word w: each has its word and a mask, in which a bit that it wrote is t
abbrev pub has : ℕ → ℕ → ℕ → List (ℕ × ℕ) → Bool
has t w b [] = false
has t w b (x ∷ xs) = ((x.0 == w) && (bit_at x.1 b == t)) || has t w b xs

-- the seat wrote bit b of word w
abbrev pub wrote : View → ℕ → ℕ → Bool
wrote v w b = has 1 w b v.ones || has 0 w b v.zeros

-- what the first seat knows
abbrev pub first_view : Task → View
first_view k =
    record {
      task = Some k;
      count = k.count;
      rows = [];
      ones = [];
      zeros = [];
      told = false;
      tellings = 0;
      passes = 2 ^ 63;
    }

-- what a seat knows once it claimed row c, or was told that no row is left
abbrev pub claimed_by : Bool → View → ℕ → View
claimed_by true v c =
    record {
      task = v.task;
      count = v.count;
      rows = c ∷ v.rows;
      ones = v.ones;
      zeros = v.zeros;
      told = v.told;
      tellings = v.tellings;
      passes = v.passes;
    }
claimed_by false v c =
    record {
      task = v.task;
      count = v.count;
      rows = v.rows;
      ones = v.ones;
      zeros = v.zeros;
      told = true;
      tellings = v.tellings + 1;
      passes = v.passes - 1;
    }

-- what it knows once its claim found c claims
abbrev pub claimed : View → ℕ → View
claimed v c = claimed_by (nat_lt c v.count) v c

-- the places of a mask were set
abbrev pub with_ones : View → ℕ → ℕ → View
with_ones v w m =
    record {
      task = v.task;
      count = v.count;
      rows = v.rows;
      ones = (w, m) ∷ v.ones;
      zeros = v.zeros;
      told = v.told;
      tellings = v.tellings;
      passes = v.passes;
    }

-- the places that a mask lacks were cleared
abbrev pub with_zeros : View → ℕ → ℕ → View
with_zeros v w m =
    record {
      task = v.task;
      count = v.count;
      rows = v.rows;
      ones = v.ones;
      zeros = (w, m) ∷ v.zeros;
      told = v.told;
      tellings = v.tellings;
      passes = v.passes;
    }

-- a split: one seat keeps all but half of the passes, which the other has; the odd one stays
abbrev pub left_of : View → View
left_of v =
    record {
      task = v.task;
      count = v.count;
      rows = v.rows;
      ones = v.ones;
      zeros = v.zeros;
      told = v.told;
      tellings = v.tellings;
      passes = v.passes - v.passes / 2;
    }

abbrev pub right_of : View → View
right_of v =
    record {
      task = v.task;
      count = v.count;
      rows = [];
      ones = [];
      zeros = [];
      told = v.told;
      tellings = 0;
      passes = v.passes / 2;
    }

-- a join: one seat has what both had, and the other is spent
abbrev pub both_of : View → View → View
both_of v w =
    record {
      task = v.task;
      count = v.count;
      rows = v.rows ++ w.rows;
      ones = v.ones ++ w.ones;
      zeros = v.zeros ++ w.zeros;
      told = v.told || w.told;
      tellings = v.tellings + w.tellings;
      passes = v.passes + w.passes;
    }

abbrev pub spent : View
spent = record { task = None; count = 0; rows = []; ones = []; zeros = []; told = false; tellings = 0; passes = 0 }

-- nothing but more written places: rows, numbers and all else are the same
pub record GoesOn (v w : View) : Type 0 where
  pub task : w.task ≡ v.task
  pub count : w.count ≡ v.count
  pub rows : w.rows ≡ v.rows
  pub told : w.told ≡ v.told
  pub tellings : w.tellings ≡ v.tellings
  pub passes : w.passes ≡ v.passes
  pub writes : (u b : ℕ) → wrote v u b ≡ true → wrote w u b ≡ true
