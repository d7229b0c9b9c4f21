-- What the words of the command for walkers ask for: -f FILE WALKERS STEPS SEED WORKERS.
use Rattle.std.specs.Prelude.{ℕ, nat_le, ◌&&◌, ◌==◌, List, [], length, slice_index_or, codes, bytes_eq, Option, Some, None, if◌then◌else◌}
use Rattle.text_spec.specs.Numbers.{natural_of}
use Rattle.options_spec.specs.declared.options.TheConstants.{MAX_WORKERS}
use Rattle.walk_spec.specs.declared.TheConstants.{MAX_WALKERS, MAX_WALK_STEPS}
use Rattle.walk_words.specs.declared.reading.WalkOptions.{WalkOptions}

-- the number that a word stood for, where it stood for one and that is from `least` to `most`
abbrev pub number_between : ℕ → ℕ → Option ℕ → Option ℕ
number_between least most None = None
number_between least most (Some n) = if nat_le least n && nat_le n most then Some n else None

-- all that was asked for, where each part of it stands for something
abbrev pub options_by : List ℕ → Option ℕ → Option ℕ → Option ℕ → Option ℕ → Option WalkOptions
options_by file (Some walkers) (Some steps) (Some seed) (Some workers) =
    Some (record { file = file; spec = record { seed = seed; walkers = walkers; steps = steps }; workers = workers })
options_by file (Some walkers) (Some steps) (Some seed) None = None
options_by file (Some walkers) (Some steps) None workers = None
options_by file (Some walkers) None seed workers = None
options_by file None steps seed workers = None

-- what the five words after the first ask for: at least one walker and one worker, and none of the numbers too large
abbrev pub options_of : List ℕ → List ℕ → List ℕ → List ℕ → List ℕ → Option WalkOptions
options_of file walkers steps seed workers =
    options_by file
    (number_between 1 MAX_WALKERS (natural_of walkers))
    (number_between 0 MAX_WALK_STEPS (natural_of steps))
    (natural_of seed)
    (number_between 1 MAX_WORKERS (natural_of workers))

-- the word of a place, counted from 0
abbrev pub word_at : List (List ℕ) → ℕ → List ℕ
word_at words k = slice_index_or words k []

-- what the words ask for, or none: there are six of them, and the first is `-f`
unfoldable pub walk_options_of : List (List ℕ) → Option WalkOptions
walk_options_of words =
    if (length words == 6) && bytes_eq (word_at words 0) (codes "-f")
    then options_of (word_at words 1) (word_at words 2) (word_at words 3) (word_at words 4) (word_at words 5)
    else None
