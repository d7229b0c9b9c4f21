-- The number of workers that words ask for.
use Rattle.std.proofs.Common.{◌≡◌, inl, inr, ◌≤◌, ◌&&◌, ℕ, nat_le, Bool, true, false, List, Option, Some, None, option_and_then, option_map, refl, ap, sym, subst, ◌∙◌, arith}
use Rattle.std.proofs.lemmas.Bool.{cases_Bool, cond-true, cond-false, leb-true}
use Rattle.text_spec.specs.Numbers.{natural_of}
use Rattle.options_spec.specs.declared.options.TheConstants.{MAX_WORKERS}
use Rattle.options_spec.specs.declared.options.Form.{Form}
use Rattle.options_spec.specs.declared.options.Given.{Given}
use Rattle.options_spec.specs.declared.options.Job.{Job}
use Rattle.options_spec.specs.declared.options.Options.{Options}
use Rattle.options_spec.specs.Options.{form_of_word, job_of, number_up_to, options_by, options_of, workers_of}
use Rattle.words_spec.specs.CommandWords.{given_in, options_in}

-- from 1 to the most workers that may be asked for
pub record IsWorkerNumber (n : ℕ) : Type 0 where
  pub some : 1 ≤ n
  pub few : n ≤ MAX_WORKERS

no_number : (n : ℕ) → None ≡ Some n → ⊥
no_number n e = cc

same_number : (m n : ℕ) → Some m ≡ Some n → m ≡ n
same_number m n e = cc

both : (a b : Bool) → (a && b) ≡ true → (a ≡ true) × (b ≡ true)
both true b e = (refl, e)
both false b e = absurd cc

up_to : (found : Option ℕ) (n : ℕ) → number_up_to MAX_WORKERS found ≡ Some n → IsWorkerNumber n
up_to None n e = absurd (no_number n e)
up_to (Some k) n e =
    elim (cases_Bool (nat_le 1 k && nat_le k MAX_WORKERS)) [
      | inl yes' ↦
          let within = both (nat_le 1 k) (nat_le k MAX_WORKERS) yes' in
          let same = same_number k n (sym (cond-true (nat_le 1 k && nat_le k MAX_WORKERS) (Some k) None yes') ∙ e) in
          subst IsWorkerNumber same (record { some = leb-true 1 k within.0; few = leb-true k MAX_WORKERS within.1 })
      | inr no' ↦
          absurd (no_number n (sym (cond-false (nat_le 1 k && nat_le k MAX_WORKERS) (Some k) None no') ∙ e))
    ]

of_word : (word : Option (List ℕ)) (n : ℕ) → workers_of word ≡ Some n → IsWorkerNumber n
of_word None n e = subst IsWorkerNumber (same_number 1 n e) (record { some = omega arith; few = omega arith })
of_word (Some word) n e = up_to (natural_of word) n e

no_options : (options : Options) → None ≡ Some options → ⊥
no_options options e = cc

workers_are : (job : Option Job) (workers : Option ℕ) (form : Option Form) (options : Options)
    → options_by job workers form ≡ Some options → workers ≡ Some options.workers
workers_are (Some job) (Some workers) (Some form) options e = ap (option_map (λ o. o.workers)) e
workers_are (Some job) (Some workers) None options e = absurd (no_options options e)
workers_are (Some job) None form options e = absurd (no_options options e)
workers_are None workers form options e = absurd (no_options options e)

of_given : (given : Option Given) (options : Options) → option_and_then options_of given ≡ Some options
    → IsWorkerNumber options.workers
unfolding options_of
of_given None options e = absurd (no_options options e)
of_given (Some given) options e =
    of_word given.workers options.workers
    (workers_are (job_of given.mode given.file given.number) (workers_of given.workers) (form_of_word given.format) options e)

pub worker-number : (words : List (List ℕ)) (options : Options) → options_in words ≡ Some options
    → IsWorkerNumber options.workers
unfolding options_in
worker-number words options e = of_given (given_in words) options e
