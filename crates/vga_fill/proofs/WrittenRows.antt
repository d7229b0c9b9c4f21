-- A row is done pair by pair: each is written, or is alike in both graphs.
use Rattle.std.specs.Prelude.{◌≡◌, ◌≢◌, ℕ, ◌+◌, ◌%◌, ◌<◌, Bool, List, get_or, length}
use Rattle.std.proofs.Common.{sym, subst, ◌∙◌, inl, inr, arith}
use Rattle.std.proofs.lemmas.Bool.{cases_eq, cases_Bool}
use Rattle.std.proofs.lemmas.List.{get_or_default}
use Rattle.plan_spec.specs.declared.edit.Changed.{Changed}
use Rattle.vga_fill.specs.declared.events.Task.{Task}
use Rattle.vga_fill.specs.declared.events.View.{View}
use Rattle.vga_fill.specs.Graphs.{is_to_join, was_joined}
use Rattle.vga_fill.specs.Places.{word_of}
use Rattle.vga_fill.specs.DirtyNumbers.{AreDirtyBelow}
use Rattle.vga_fill.specs.Sights.{AreBoxesOf, is_dirty}
use Rattle.vga_fill.specs.Views.{GoesOn}
use Rattle.vga_fill.specs.DoneRows.{IsDone, WroteBoth}

-- the first pairs of the row are done
abbrev pub AreWritten : (ℕ → ℕ → Bool) → (ℕ → ℕ → Bool) → ℕ → View → ℕ → ℕ → Type 0
AreWritten old new n v row j = (k : ℕ) → row < k → k < j → old row k ≢ new row k → WroteBoth n v row k

module _ (old new : ℕ → ℕ → Bool) (n : ℕ) (v w : View) (row j : ℕ) where
  pub written_more : GoesOn v w → AreWritten old new n v row j → WroteBoth n w row j → AreWritten old new n w row (j + 1)
  written_more on before here k above below differ = elim (cases_eq k j) [
    | inl e ↦ subst (WroteBoth n w row) (sym e) here
    | inr ne ↦
        let d = before k above (omega (arith, below, ne)) differ in
        (on.writes (word_of n row k) (k % 64) d.0, on.writes (word_of n k row) (row % 64) d.1)
  ]

  pub alike_more : old row j ≡ new row j → AreWritten old new n v row j → AreWritten old new n v row (j + 1)
  alike_more alike before k above below differ = elim (cases_eq k j) [
    | inl e ↦ absurd (differ (subst (λ (z : ℕ). old row z ≡ new row z) (sym e) alike))
    | inr ne ↦ before k above (omega (arith, below, ne)) differ
  ]

-- ---- the pairs of a row whose numbers are listed

-- the first of them are written
abbrev pub AreListedWritten : ℕ → View → ℕ → List ℕ → ℕ → Type 0
AreListedWritten n v row numbers k = (m : ℕ) → m < k → WroteBoth n v row (get_or numbers m 0)

pub listed_more : (n : ℕ) (v w : View) (row : ℕ) (numbers : List ℕ) (k : ℕ) → GoesOn v w → AreListedWritten n v row numbers k
    → WroteBoth n w row (get_or numbers k 0) → AreListedWritten n w row numbers (k + 1)
listed_more n v w row numbers k on before here m below = elim (cases_eq m k) [
  | inl e ↦ subst (λ (z : ℕ). WroteBoth n w row (get_or numbers z 0)) (sym e) here
  | inr ne ↦
      let d = before m (omega (arith, below, ne)) in
      let j = get_or numbers m 0 in
      (on.writes (word_of n row j) (j % 64) d.0, on.writes (word_of n j row) (row % 64) d.1)
]

-- a row is done once all of its dirty pairs are written
pub listed_done : (k : Task) (boxes : Changed) (n : ℕ) (v : View) (row : ℕ) (numbers : List ℕ) → n ≡ k.count → AreBoxesOf k boxes
    → AreDirtyBelow k.after.value boxes row n numbers → AreListedWritten n v row numbers (length numbers)
    → IsDone (was_joined k) (is_to_join k) n v row
listed_done k boxes n v row numbers count of are written j above below differ =
    elim (cases_Bool (is_dirty k.after.value boxes row j)) [
      | inr clean ↦ absurd (differ (of.kept row j above (omega (arith, below, count)) clean))
      | inl dirty ↦
          let here = are.all j above below dirty in
          subst (WroteBoth n v row) (sym (get_or_default numbers here.0 j 0 here.1) ∙ here.2) (written here.0 here.1)
    ]
