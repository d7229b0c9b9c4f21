-- The number of boxes of a trial that words ask for.
use Rattle.std.proofs.Common.{◌≡◌, inl, inr, ◌≤◌, ◌&&◌, ℕ, nat_le, Bool, true, false, List, codes, bytes_eq, Option, Some, None, option_and_then, option_map, refl, ap, sym, subst, ◌∙◌, arith}
use Rattle.std.proofs.lemmas.Bool.{cases_Bool, cond-true, cond-false, leb-true}
use Rattle.text_spec.specs.Numbers.{natural_of}
use Rattle.options_spec.specs.declared.options.TheConstants.{MAX_TRIAL_BOXES}
use Rattle.options_spec.specs.declared.options.Form.{Form}
use Rattle.options_spec.specs.declared.options.Given.{Given}
use Rattle.options_spec.specs.declared.options.Job.{Job}
use Rattle.options_spec.specs.declared.options.Job.TheVariants.{Analyse, Trial}
use Rattle.options_spec.specs.declared.options.Mode.{Mode}
use Rattle.options_spec.specs.declared.options.Options.{Options}
use Rattle.options_spec.specs.Options.{analyse, form_of_word, job_of, mode_of, number_up_to, options_by, options_of, trial_job, trial_of_number, workers_of}
use Rattle.words_spec.specs.CommandWords.{given_in, options_in}

-- from 1 to the most boxes that a trial may have
pub record IsTrialNumber (n : ℕ) : Type 0 where
  pub some : 1 ≤ n
  pub few : n ≤ MAX_TRIAL_BOXES

no_job : (n : ℕ) → None ≡ Some (Trial n) → ⊥
no_job n e = cc

-- what a job is a trial of
trial_number : Job → Option ℕ
trial_number (Analyse mode file) = None
trial_number (Trial n) = Some n

same_number : (m n : ℕ) → Some m ≡ Some n → m ≡ n
same_number m n e = cc

same_trial : (m n : ℕ) → Some (Trial m) ≡ Some (Trial n) → m ≡ n
unfolding trial_number
same_trial m n e = same_number m n (ap (option_and_then trial_number) e)

no_trial : (mode : Mode) (file : List ℕ) (n : ℕ) → Some (Analyse mode file) ≡ Some (Trial n) → ⊥
unfolding trial_number
no_trial mode file n e = none (ap (option_and_then trial_number) e)
  where
    none : None ≡ Some n → ⊥
    none e = cc

both : (a b : Bool) → (a && b) ≡ true → (a ≡ true) × (b ≡ true)
both true b e = (refl, e)
both false b e = absurd cc

up_to : (found : Option ℕ) (n : ℕ) → trial_of_number (number_up_to MAX_TRIAL_BOXES found) ≡ Some (Trial n) → IsTrialNumber n
up_to None n e = absurd (no_job n e)
up_to (Some k) n e =
    elim (cases_Bool (nat_le 1 k && nat_le k MAX_TRIAL_BOXES)) [
      | inl yes' ↦
          let low = both (nat_le 1 k) (nat_le k MAX_TRIAL_BOXES) yes' in
          let same = same_trial k n (sym (ap trial_of_number (cond-true (nat_le 1 k && nat_le k MAX_TRIAL_BOXES) (Some k) None yes')) ∙ e) in
          subst IsTrialNumber same (record { some = leb-true 1 k low.0; few = leb-true k MAX_TRIAL_BOXES low.1 })
      | inr no' ↦
          absurd (no_job n (sym (ap trial_of_number (cond-false (nat_le 1 k && nat_le k MAX_TRIAL_BOXES) (Some k) None no')) ∙ e))
    ]

of_trial : (file number : Option (List ℕ)) (n : ℕ) → trial_job file number ≡ Some (Trial n) → IsTrialNumber n
of_trial None (Some number) n e = up_to (natural_of number) n e
of_trial None None n e = absurd (no_job n e)
of_trial (Some file) number n e = absurd (no_job n e)

not_analysed : (mode : Option Mode) (file number : Option (List ℕ)) (n : ℕ) → analyse mode file number ≡ Some (Trial n) → ⊥
not_analysed (Some mode) (Some file) None n e = no_trial mode file n e
not_analysed (Some mode) (Some file) (Some number) n e = no_job n e
not_analysed (Some mode) None number n e = no_job n e
not_analysed None file number n e = no_job n e

of_job : (mode file number : Option (List ℕ)) (n : ℕ) → job_of mode file number ≡ Some (Trial n) → IsTrialNumber n
of_job None file number n e = absurd (no_job n e)
of_job (Some mode) file number n e =
    let is_trial = bytes_eq mode (codes "TRIAL") in
    elim (cases_Bool is_trial) [
      | inl yes' ↦ of_trial file number n (sym (cond-true is_trial (trial_job file number) (analyse (mode_of mode) file number) yes') ∙ e)
      | inr no' ↦ absurd (not_analysed (mode_of mode) file number n
          (sym (cond-false is_trial (trial_job file number) (analyse (mode_of mode) file number) no') ∙ e))
    ]

no_options : (options : Options) → None ≡ Some options → ⊥
no_options options e = cc

job_is : (job : Option Job) (workers : Option ℕ) (form : Option Form) (options : Options) → options_by job workers form ≡ Some options
    → job ≡ Some options.job
job_is (Some job) (Some workers) (Some form) options e = ap (option_map (λ o. o.job)) e
job_is (Some job) (Some workers) None options e = absurd (no_options options e)
job_is (Some job) None form options e = absurd (no_options options e)
job_is None workers form options e = absurd (no_options options e)

of_options : (given : Given) (options : Options) (n : ℕ) → options_of given ≡ Some options → options.job ≡ Trial n → IsTrialNumber n
unfolding options_of
of_options given options n e t =
    let job = job_is (job_of given.mode given.file given.number) (workers_of given.workers) (form_of_word given.format) options e in
    of_job given.mode given.file given.number n (job ∙ ap (λ j. Some j) t)

of_given : (given : Option Given) (options : Options) (n : ℕ) → option_and_then options_of given ≡ Some options → options.job ≡ Trial n
    → IsTrialNumber n
of_given None options n e t = absurd (no_options options e)
of_given (Some given) options n e t = of_options given options n e t

pub trial-number : (words : List (List ℕ)) (options : Options) (n : ℕ) → options_in words ≡ Some options → options.job ≡ Trial n
    → IsTrialNumber n
unfolding options_in
trial-number words options n e t = of_given (given_in words) options n e t
