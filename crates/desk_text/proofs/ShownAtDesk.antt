-- A line of a script at a desk, read without its carriage return.
use Rattle.std.proofs.Common.{◌≡◌, ℕ, ◌≤◌, true, false, List, length, nat_lt, Err, refl, ap, arith}
use Rattle.text_spec.specs.Lines.{is_long}
use Rattle.text_spec.proofs.Returns.{shown_within}
use Rattle.grammar_spec.specs.declared.text_why.TextWhy.TheVariants.{Long}
use Rattle.desk_spec.specs.DeskText.{read_line_of_desk}
use Rattle.plan_text.specs.Readings.{IsShown}
use Rattle.desk_text.specs.DeskReadings.{desk_reading_of_shown}

not_long : (shown line : ℕ) → shown ≤ line → nat_lt 20000 line ≡ false → nat_lt 20000 shown ≡ false
not_long shown line h e = grind arith

pub shown_is_read : (line shown : List ℕ) → IsShown line shown → desk_reading_of_shown shown ≡ read_line_of_desk line
unfolding read_line_of_desk
shown_is_read line shown h =
    let within : length shown ≤ length line = omega (arith, ap length h.bytes, shown_within line) in
    let short : is_long shown ≡ false = not_long (length shown) (length line) within h.short in
    rw (short, h.short, h.bytes) refl

pub long_is_refused : (line : List ℕ) → is_long line ≡ true → read_line_of_desk line ≡ Err Long
unfolding read_line_of_desk
long_is_refused line long = rw long refl
