-- How the answering of a script ends: what was taken of it, and what was written.
use Rattle.std.specs.Prelude.{◌≡◌, ◌⊎◌, ◌≤◌, ◌+◌, ℕ, Bool, List, [], length, take, Option}
use Rattle.text_spec.specs.Lines.{lines_of, whole_lines_of}
use Rattle.dm_io.specs.Streams.{IsIfKnown, IsPrefix, Rose, WritesPrefix, appended_to}
use Rattle.script_loop.specs.Steps.{LineStep, has_refusal_by, replies_by, state_after}
use Rattle.script_loop.specs.declared.script.ScriptEnd.{ScriptEnd}
use Rattle.script_loop.specs.declared.script.ScriptEnd.TheVariants.{All, Failed, Unwritten, NoMemory, Over}

-- the script was taken to its end, which keeps the limit, and the replies to all its lines were written; the state that
-- they leave, and whether one of them is refused
pub record AllAnswered {S : Type 0} (step : S → ℕ → List ℕ → LineStep S) (limit : ℕ) (first last : S)
    (script left before after : Option (List ℕ)) (refused : Bool) : Type 0 where
  pub text : List ℕ
  pub taken : IsPrefix script text left
  pub ended : IsIfKnown [] left
  pub within : length text ≤ limit
  pub written : after ≡ appended_to before (replies_by step first 1 (lines_of text))
  pub leaves : last ≡ state_after step first 1 (lines_of text)
  pub refusal : refused ≡ has_refusal_by step first 1 (lines_of text)

-- exactly the replies to the whole lines of the bytes that were taken were written; the state that these lines leave
pub record WholeAnswered {S : Type 0} (step : S → ℕ → List ℕ → LineStep S) (limit : ℕ) (first last : S)
    (script left before after : Option (List ℕ)) : Type 0 where
  pub bytes : List ℕ
  pub taken : IsPrefix script bytes left
  pub within : length bytes ≤ limit
  pub written : after ≡ appended_to before (replies_by step first 1 (whole_lines_of bytes))
  pub leaves : last ≡ state_after step first 1 (whole_lines_of bytes)

-- one byte more than the limit was taken, and exactly the replies to the lines whose newline is within the limit were
-- written; the state that these lines leave
pub record WithinAnswered {S : Type 0} (step : S → ℕ → List ℕ → LineStep S) (limit : ℕ) (first last : S)
    (script left before after : Option (List ℕ)) : Type 0 where
  pub bytes : List ℕ
  pub taken : IsPrefix script bytes left
  pub beyond : length bytes ≡ limit + 1
  pub written : after ≡ appended_to before (replies_by step first 1 (whole_lines_of (take limit bytes)))
  pub leaves : last ≡ state_after step first 1 (whole_lines_of (take limit bytes))

-- a prefix of the replies to the whole lines of the bytes that were taken was written; or nothing is left of the
-- script, and a prefix of the replies to all its lines was
pub record PartAnswered {S : Type 0} (step : S → ℕ → List ℕ → LineStep S) (limit : ℕ) (first : S)
    (script left before after : Option (List ℕ)) : Type 0 where
  pub bytes : List ℕ
  pub taken : IsPrefix script bytes left
  pub within : length bytes ≤ limit
  pub written :
      WritesPrefix before after (replies_by step first 1 (whole_lines_of bytes))
      ⊎ (IsIfKnown [] left × WritesPrefix before after (replies_by step first 1 (lines_of bytes)))

-- what each end says
abbrev pub Leaves : {S : Type 0} → (S → ℕ → List ℕ → LineStep S) → ℕ → S → S → Option (List ℕ) → Option (List ℕ)
    → Option (List ℕ) → Option (List ℕ) → ScriptEnd → Type 0
Leaves step limit first last script left before after (All refused) =
    AllAnswered step limit first last script left before after refused
Leaves step limit first last script left before after Failed = WholeAnswered step limit first last script left before after
Leaves step limit first last script left before after Unwritten = PartAnswered step limit first script left before after
Leaves step limit first last script left before after NoMemory = PartAnswered step limit first script left before after
Leaves step limit first last script left before after Over = WithinAnswered step limit first last script left before after

-- which count of faults rose, if any: the script's, and the output's, each before and after
abbrev pub Counts : ℕ → ℕ → ℕ → ℕ → ScriptEnd → Type 0
Counts script script_after out out_after (All refused) = (script_after ≡ script) × (out_after ≡ out)
Counts script script_after out out_after Failed = Rose script script_after × (out_after ≡ out)
Counts script script_after out out_after Unwritten = (script_after ≡ script) × Rose out out_after
Counts script script_after out out_after NoMemory = (script_after ≡ script) × (out_after ≡ out)
Counts script script_after out out_after Over = (script_after ≡ script) × (out_after ≡ out)
