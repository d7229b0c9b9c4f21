-- What came of a line, and that it is what the definition says of it.
use Rattle.std.proofs.Common.{◌≡◌, ◌∙◌, ◌+◌, ℕ, suc, zero, List, [], ◌∷◌, ◌++◌, map, take, drop, Option, Some, None, refl, sym, subst, ap, ap₂}
use Rattle.std.proofs.lemmas.List.{drop-map, map-append}
use Rattle.plan_spec.specs.declared.edit.Edit.{Edit}
use Rattle.plan_spec.specs.declared.why.Why.{Why}
use Rattle.plan_check.specs.declared.editing.EditFault.{EditFault}
use Rattle.plan_check.specs.declared.editing.EditFault.TheVariants.{Refused as EditRefused}
use Rattle.plan_check.specs.Faults.{IfRefused}
use Rattle.plan_undo.specs.History.{History, edited}
use Rattle.plan_watch.specs.declared.note.Note.{Note}
use Rattle.plan_watch.specs.declared.note.NoteKind.{NoteKind}
use Rattle.plan_watch.specs.Notes.{keep_each, note_of}
use Rattle.desk_spec.specs.declared.reason.DeskReason.TheVariants.{Edit as EditReason, Nothing as NothingReason, NoWatch}
use Rattle.desk_spec.specs.Desks.{desk, edit_line, history_line, shown_watch, without, without_watcher}
use Rattle.desk_core.specs.declared.outcome.Outcome.TheVariants.{Done, Watch, Refused}
use Rattle.desk_core.specs.Outcomes.{step_to}

module _ (h : History) (rooms : List (Option ℕ)) (lists : List (List Note)) (number : ℕ) where
  -- ---- edits

  -- the watchers are made ready before it, and told after it
  pub edit_made : (h' : History) (rooms' ready_rooms : List (Option ℕ)) (lists' ready_lists : List (List Note)) (edit : Edit)
      (why : Option Why) (note : Note)
      → why ≡ None → h' ≡ edited h edit → ready_rooms ≡ rooms → ready_lists ≡ lists → rooms' ≡ ready_rooms
      → lists' ≡ keep_each ready_rooms ready_lists note → note ≡ note_of number edit
      → edit_line (desk h rooms lists) number edit why ≡ step_to (desk h' rooms' lists') number Done
  edit_made h' rooms' ready_rooms lists' ready_lists edit why note valid history same_rooms same_lists same told noted =
      rw (valid, history, told, same, same_rooms, same_lists, noted) refl

  pub edit_refused : (h' : History) (rooms' : List (Option ℕ)) (lists' : List (List Note)) (edit : Edit) (why : Option Why) (w : Why)
      → why ≡ Some w → h' ≡ h → rooms' ≡ rooms → lists' ≡ lists
      → edit_line (desk h rooms lists) number edit why ≡ step_to (desk h' rooms' lists') number (Refused (EditReason w))
  edit_refused h' rooms' lists' edit why w cause history same untold = rw (cause, history, same, untold) refl

  -- ---- steps through the history

  -- the watchers are made ready before it, and told after it
  pub step_made : (h' : History) (rooms' ready_rooms : List (Option ℕ)) (lists' ready_lists : List (List Note)) (kind : NoteKind)
      (name : List ℕ) (found : Option (List ℕ × History))
      → found ≡ Some (name, h') → ready_rooms ≡ rooms → ready_lists ≡ lists → rooms' ≡ ready_rooms
      → lists' ≡ keep_each ready_rooms ready_lists (record { line = number; kind = kind; name = name })
      → history_line (desk h rooms lists) number kind found ≡ step_to (desk h' rooms' lists') number Done
  step_made h' rooms' ready_rooms lists' ready_lists kind name found there same_rooms same_lists same told =
      rw (there, told, same, same_rooms, same_lists) refl

  pub no_step : (h' : History) (rooms' : List (Option ℕ)) (lists' : List (List Note)) (kind : NoteKind) (found : Option (List ℕ × History))
      → found ≡ None → h' ≡ h → rooms' ≡ rooms → lists' ≡ lists
      → history_line (desk h rooms lists) number kind found ≡ step_to (desk h' rooms' lists') number (Refused NothingReason)
  no_step h' rooms' lists' kind found none history same untold = rw (none, history, same, untold) refl

  -- ---- watchers

  pub is_shown : (found : Option ℕ) (k : ℕ) → found ≡ Some k
      → shown_watch (desk h rooms lists) number found ≡ step_to (desk h rooms lists) number (Watch k)
  is_shown found k there = rw there refl

  pub not_shown : (found : Option ℕ) → found ≡ None
      → shown_watch (desk h rooms lists) number found ≡ step_to (desk h rooms lists) number (Refused NoWatch)
  not_shown found none = rw none refl

  pub has_gone : (rooms' : List (Option ℕ)) (lists' : List (List Note)) (found : Option ℕ) (k : ℕ) → found ≡ Some k
      → rooms' ≡ without k rooms → lists' ≡ without k lists
      → without_watcher (desk h rooms lists) number found ≡ step_to (desk h rooms' lists') number Done
  has_gone rooms' lists' found k there rooms_left lists_left = rw (there, rooms_left, lists_left) refl

  pub not_gone : (found : Option ℕ) → found ≡ None
      → without_watcher (desk h rooms lists) number found ≡ step_to (desk h rooms lists) number (Refused NoWatch)
  not_gone found none = rw none refl

-- why an edit is refused
pub cause_is : (fault : EditFault) (why : Why) (P : Why → Type 0) → fault ≡ EditRefused why → IfRefused fault P → P why
cause_is fault why P e h = subst (λ f. IfRefused f P) e h

-- the first of the values are those of the first
take-map : {X Y : Type 0} (f : X → Y) (n : ℕ) (xs : List X) → take n (map f xs) ≡ map f (take n xs)
take-map f zero xs = refl
take-map f (suc n) [] = refl
take-map f (suc n) (x ∷ xs) = ap (λ ys. f x ∷ ys) (take-map f n xs)

-- what is left of the values are those of what is left
pub map_without : {X Y : Type 0} (f : X → Y) (k : ℕ) (xs ys : List X) → ys ≡ take k xs ++ drop (k + 1) xs
    → map f ys ≡ without k (map f xs)
map_without f k xs ys e =
    ap (map f) e ∙ map-append f (take k xs) (drop (k + 1) xs)
    ∙ ap₂ (λ a b. a ++ b) (sym (take-map f k xs)) (sym (drop-map f (k + 1) xs))
