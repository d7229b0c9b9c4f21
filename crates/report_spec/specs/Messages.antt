-- The lines on standard error, each with its newline, by what has happened.
use Rattle.std.specs.Prelude.{ℕ, List, [], ◌∷◌, ◌++◌, codes}
use Rattle.std.specs.Fmt.{decimal}
use Rattle.std.specs.List.{join_with_byte}
use Rattle.report_spec.specs.declared.reason.Reason.{Reason}
use Rattle.report_spec.specs.Replies.{reason_words}

-- a text and a newline
abbrev pub ended_message : List ℕ → List ℕ
ended_message text = text ++ 10 ∷ []

-- a line that begins with a program's name
abbrev pub message_by : List ℕ → List ℕ → List ℕ
message_by program text = ended_message (program ++ (codes ": " ++ text))

-- a program's line of a file that holds no plan: plan line L: WHY
abbrev pub plan_message_by : List ℕ → ℕ → Reason → List ℕ
plan_message_by program line reason =
    message_by program (codes "plan line " ++ (decimal line ++ (codes ": " ++ join_with_byte 32 (reason_words reason))))

-- ---- the lines of depthmap

-- the words don't stand for options
abbrev pub usage_message : List ℕ
usage_message = ended_message (codes "depthmap: usage: depthmap -m VGA|ISOVIST|AXIAL|SEGMENT|CHECK -f FILE [--workers N] [--format text|csv] or depthmap -m TRIAL --number N [--workers N] [--format text|csv]")

-- the file holds no plan: plan line L: WHY
abbrev pub plan_message : ℕ → Reason → List ℕ
plan_message line reason =
    ended_message
    (codes "depthmap: plan line " ++ (decimal line ++ (codes ": " ++ join_with_byte 32 (reason_words reason))))

-- a call that reads failed
abbrev pub read_message : List ℕ
read_message = ended_message (codes "depthmap: cannot read")

-- a call that writes failed
abbrev pub write_message : List ℕ
write_message = ended_message (codes "depthmap: cannot write")

-- there is no memory
abbrev pub memory_message : List ℕ
memory_message = ended_message (codes "depthmap: out of memory")

-- the plan's file or the script has more bytes than it may
abbrev pub length_message : List ℕ
length_message = ended_message (codes "depthmap: input too long")
