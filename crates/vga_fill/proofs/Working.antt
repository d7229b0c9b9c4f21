-- Rows are claimed from below, so a worker ends.
use Rattle.std.specs.Prelude.{◌≡◌, ℕ, ◌+◌, ◌-◌, ◌/◌, ◌<◌, ◌≤◌, ◌==◌, ◌||◌, List, [], ◌∷◌, None, true}
use Rattle.std.proofs.Common.{ap, ◌∙◌, arith}
use Rattle.vga_fill.specs.declared.events.View.{View}
use Rattle.vga_fill.specs.declared.fill.Fill.{Fill}
use Rattle.vga_fill.specs.declared.seat.FillSeat.{FillSeat}
use Rattle.vga_fill.specs.Views.{times, left_of, right_of, both_of}
use Rattle.vga_fill.specs.Seats.{IsSeatOf, held_by, view_of}
use Rattle.vga_fill.specs.Workers.{HasFilled}

-- the row after the one that was claimed last
abbrev pub next_row : List ℕ → ℕ
next_row [] = 0
next_row (r ∷ rows) = r + 1

same : (r : ℕ) → (r == r) ≡ true
same r = grind arith

-- it is at most a row that is above all that were claimed
pub next_row_below : (rows : List ℕ) (r : ℕ) → ((row : ℕ) → 0 < times row rows → row < r) → next_row rows ≤ r
next_row_below [] r above = omega arith
next_row_below (last ∷ rows) r above =
    let first : 0 < times last (last ∷ rows) = rw (same last) (omega arith) in
    omega (arith, above last first)

-- ---- two workers together

halves : (p : ℕ) → p - p / 2 + p / 2 ≡ p
halves p = grind arith

both_sum : (v a b w : View) → a.tellings + a.passes ≡ (left_of v).tellings + (left_of v).passes
    → b.tellings + b.passes ≡ (right_of v).tellings + (right_of v).passes → w ≡ both_of a b → w.tellings + w.passes ≡ v.tellings + v.passes
both_sum v a b w first second made =
    omega (arith, first, second, ap (λ z. z.tellings) made, ap (λ z. z.passes) made, halves v.passes)

-- the halves of a seat that are joined again have claimed and finished rows until none was left
pub both_filled : (fill : Fill) (seat left right a b all : FillSeat) → view_of left ≡ left_of (view_of seat) → view_of right ≡ right_of (view_of seat)
    → HasFilled fill left a → HasFilled fill right b → IsSeatOf fill all → held_by all ≡ None → view_of all ≡ both_of (view_of a) (view_of b)
    → HasFilled fill seat all
both_filled fill seat left right a b all cut_left cut_right first second of free made = record {
  of = of;
  free = free;
  told = ap (λ z. z.told) made ∙ ap (λ t. t || (view_of b).told) first.told;
  sum = both_sum (view_of seat) (view_of a) (view_of b) (view_of all)
      (first.sum ∙ ap (λ z. z.tellings + z.passes) cut_left) (second.sum ∙ ap (λ z. z.tellings + z.passes) cut_right) made;
}

pub nearer : (n next before row : ℕ) → next ≡ row + 1 → before ≤ row → row < n → n - next < n - before
nearer n next before row e h k = omega (arith, e, h, k)
