-- Two seats of one that were told that no row is left make the last seat.
use Rattle.std.specs.Prelude.{◌≡◌, ℕ, ◌+◌, ◌-◌, ◌/◌, ◌^◌, ◌||◌, true}
use Rattle.std.proofs.Common.{ap, ◌∙◌, arith}
use Rattle.vga_fill.specs.declared.events.View.{View}
use Rattle.vga_fill.specs.Views.{left_of, right_of, both_of}
use Rattle.vga_fill.specs.Seats.{IsLast}

halves : (p : ℕ) → p - p / 2 + p / 2 ≡ p
halves p = grind arith

pub last_of_two : (v a b w : View) → v.tellings + v.passes ≡ 2 ^ 63
    → a.tellings + a.passes ≡ (left_of v).tellings + (left_of v).passes
    → b.tellings + b.passes ≡ (right_of v).tellings + (right_of v).passes
    → a.told ≡ true → w ≡ both_of a b → IsLast w
last_of_two v a b w all first second told made = record {
  told = ap (λ z. z.told) made ∙ ap (λ t. t || b.told) told;
  all = omega (arith, all, first, second, ap (λ z. z.tellings) made, ap (λ z. z.passes) made, halves v.passes);
}
