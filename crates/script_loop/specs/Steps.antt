-- What the lines of a script do one after the other, whatever it is that answers them.
use Rattle.std.specs.Prelude.{◌≡◌, ℕ, ◌+◌, Bool, true, false, ◌||◌, List, [], ◌∷◌, ◌++◌, Option, Some, None}
use Rattle.text_spec.specs.Lines.{is_long, without_return}

-- what a line does: the state that it leaves, the bytes of its reply, and whether it is refused
pub record LineStep (S : Type 0) : Type 0 where
  pub state : S
  pub reply : List ℕ
  pub refused : Bool

-- the replies to the lines, numbered from `number` on, from a state on
unfoldable pub replies_by : {S : Type 0} → (S → ℕ → List ℕ → LineStep S) → S → ℕ → List (List ℕ) → List ℕ
replies_by step state number [] = []
replies_by step state number (line ∷ lines) =
    (step state number line).reply ++ replies_by step (step state number line).state (number + 1) lines

-- the state that the lines leave
unfoldable pub state_after : {S : Type 0} → (S → ℕ → List ℕ → LineStep S) → S → ℕ → List (List ℕ) → S
state_after step state number [] = state
state_after step state number (line ∷ lines) = state_after step (step state number line).state (number + 1) lines

-- one of the lines is refused
unfoldable pub has_refusal_by : {S : Type 0} → (S → ℕ → List ℕ → LineStep S) → S → ℕ → List (List ℕ) → Bool
has_refusal_by step state number [] = false
has_refusal_by step state number (line ∷ lines) =
    (step state number line).refused || has_refusal_by step (step state number line).state (number + 1) lines

-- what is shown of a line: all but a carriage return that stands last in it; of one that is too long, nothing
abbrev pub Shows : List ℕ → Option (List ℕ) → Type 0
Shows line (Some shown) = (is_long line ≡ false) × (shown ≡ without_return line)
Shows line None = is_long line ≡ true
