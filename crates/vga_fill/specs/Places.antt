-- Where the bits of a graph stand in a table of words: the first word counts claims, the rows of the graph follow.
use Rattle.std.specs.Prelude.{ℕ, ◌+◌, ◌-◌, ◌*◌, ◌/◌, ◌%◌, ◌&&◌, Bool, true, false, nat_lt}
use Rattle.vga_grid.specs.Rows.{width}

-- how many words there are
abbrev pub size : ℕ → ℕ
size n = 1 + n * width n

-- which word has the place (i, j) of a graph of n nodes; its bit there is j % 64
abbrev pub word_of : ℕ → ℕ → ℕ → ℕ
word_of n i j = 1 + i * width n + j / 64

-- whose row has word w, and which node bit b of it stands for
abbrev pub row_at : ℕ → ℕ → ℕ
row_at n w = (w - 1) / width n

abbrev pub node_at : ℕ → ℕ → ℕ → ℕ
node_at n w b = (w - 1) % width n * 64 + b

-- a bit is 1 where something is so
abbrev pub digit : Bool → ℕ
digit true = 1
digit false = 0

-- what stands at bit b of word w in the rows of a graph of n nodes that joins where the test says so; bits past the
-- last node are 0
unfoldable pub bit_of : (ℕ → ℕ → Bool) → ℕ → ℕ → ℕ → ℕ
bit_of joins n w b =
    digit ((nat_lt (row_at n w) n && nat_lt (node_at n w b) n) && joins (row_at n w) (node_at n w b))
