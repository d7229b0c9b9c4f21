-- The options of the command, from the texts that are given for them.
use Rattle.std.specs.Prelude.{ℕ, nat_le, ◌&&◌, List, codes, bytes_eq, Option, Some, None, if◌then◌else◌}
use Rattle.text_spec.specs.Numbers.{natural_of}
use Rattle.options_spec.specs.declared.options.TheConstants.{MAX_TRIAL_BOXES, MAX_WORKERS}
use Rattle.options_spec.specs.declared.options.Form.{Form}
use Rattle.options_spec.specs.declared.options.Form.TheVariants.{Text, Csv}
use Rattle.options_spec.specs.declared.options.Mode.{Mode}
use Rattle.options_spec.specs.declared.options.Mode.TheVariants.{Vga, Isovists, AxialMap, Segments, Check}
use Rattle.options_spec.specs.declared.options.Given.{Given}
use Rattle.options_spec.specs.declared.options.Job.{Job}
use Rattle.options_spec.specs.declared.options.Job.TheVariants.{Analyse, Trial}
use Rattle.options_spec.specs.declared.options.Options.{Options}

-- the mode that a word names; `TRIAL` stands apart, since it asks for no tables of a plan that is read
abbrev pub mode_of : List ℕ → Option Mode
mode_of word =
    if bytes_eq word (codes "VGA") then Some Vga else
    if bytes_eq word (codes "ISOVIST") then Some Isovists else
    if bytes_eq word (codes "AXIAL") then Some AxialMap else
    if bytes_eq word (codes "SEGMENT") then Some Segments else
    if bytes_eq word (codes "CHECK") then Some Check else None

-- the number that a word stood for, where it stood for one and that is from 1 to `most`
abbrev pub number_up_to : ℕ → Option ℕ → Option ℕ
number_up_to most None = None
number_up_to most (Some n) = if nat_le 1 n && nat_le n most then Some n else None

-- a mode asks for a file and takes no number
abbrev pub analyse : Option Mode → Option (List ℕ) → Option (List ℕ) → Option Job
analyse (Some mode) (Some file) None = Some (Analyse mode file)
analyse (Some mode) (Some file) (Some number) = None
analyse (Some mode) None number = None
analyse None file number = None

-- the trial of a number, where there is one
abbrev pub trial_of_number : Option ℕ → Option Job
trial_of_number None = None
trial_of_number (Some n) = Some (Trial n)

-- a trial asks for a number from 1 to `MAX_TRIAL_BOXES` and takes no file
abbrev pub trial_job : Option (List ℕ) → Option (List ℕ) → Option Job
trial_job None (Some number) = trial_of_number (number_up_to MAX_TRIAL_BOXES (natural_of number))
trial_job None None = None
trial_job (Some file) number = None

-- what is to be done, by the texts for the mode, the file and the number
abbrev pub job_of : Option (List ℕ) → Option (List ℕ) → Option (List ℕ) → Option Job
job_of None file number = None
job_of (Some mode) file number =
    if bytes_eq mode (codes "TRIAL") then trial_job file number else analyse (mode_of mode) file number

-- 1 to `MAX_WORKERS` workers, and 1 where nothing is said
abbrev pub workers_of : Option (List ℕ) → Option ℕ
workers_of None = Some 1
workers_of (Some word) = number_up_to MAX_WORKERS (natural_of word)

-- text or csv, and text where nothing is said
abbrev pub form_of_word : Option (List ℕ) → Option Form
form_of_word None = Some Text
form_of_word (Some word) =
    if bytes_eq word (codes "text") then Some Text else
    if bytes_eq word (codes "csv") then Some Csv else None

-- all that was asked for, where each part of it stands for something
abbrev pub options_by : Option Job → Option ℕ → Option Form → Option Options
options_by (Some job) (Some workers) (Some form) = Some (record { job = job; workers = workers; form = form })
options_by (Some job) (Some workers) None = None
options_by (Some job) None form = None
options_by None workers form = None

-- the options that the texts stand for, or none
unfoldable pub options_of : Given → Option Options
options_of given =
    options_by (job_of given.mode given.file given.number) (workers_of given.workers) (form_of_word given.format)
