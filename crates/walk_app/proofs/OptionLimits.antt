-- What the words ask for keeps the limits of walkers, steps and workers.
use Rattle.std.proofs.Common.{◌≡◌, inl, inr, ◌≤◌, ◌&&◌, ◌==◌, ℕ, nat_le, Bool, true, false, List, length, Option, Some, None, bytes_eq, codes, option_map, refl, ap, sym, subst, ◌∙◌}
use Rattle.std.proofs.lemmas.Bool.{cases_Bool, cond-true, cond-false, leb-true}
use Rattle.text_spec.specs.Numbers.{natural_of}
use Rattle.options_spec.specs.declared.options.TheConstants.{MAX_WORKERS}
use Rattle.walk_spec.specs.declared.TheConstants.{MAX_WALKERS, MAX_WALK_STEPS}
use Rattle.walk_words.specs.WalkWords.{number_between, options_by, options_of, walk_options_of, word_at}
use Rattle.walk_words.specs.declared.reading.WalkOptions.{WalkOptions}

-- the walkers, their steps and the workers are as many as there may be
pub record AreWithin (options : WalkOptions) : Type 0 where
  pub walkers : options.spec.walkers ≤ MAX_WALKERS
  pub steps : options.spec.steps ≤ MAX_WALK_STEPS
  pub some : 1 ≤ options.workers
  pub few : options.workers ≤ MAX_WORKERS

no_number : (n : ℕ) → None ≡ Some n → ⊥
no_number n e = cc

same_number : (m n : ℕ) → Some m ≡ Some n → m ≡ n
same_number m n e = cc

both : (a b : Bool) → (a && b) ≡ true → (a ≡ true) × (b ≡ true)
both true b e = (refl, e)
both false b e = absurd cc

between : (least most : ℕ) (found : Option ℕ) (n : ℕ) → number_between least most found ≡ Some n → (least ≤ n) × (n ≤ most)
between least most None n e = absurd (no_number n e)
between least most (Some k) n e =
    elim (cases_Bool (nat_le least k && nat_le k most)) [
      | inl yes' ↦
          let within = both (nat_le least k) (nat_le k most) yes' in
          let same = same_number k n (sym (cond-true (nat_le least k && nat_le k most) (Some k) None yes') ∙ e) in
          subst (λ m. (least ≤ m) × (m ≤ most)) same (leb-true least k within.0, leb-true k most within.1)
      | inr no' ↦
          absurd (no_number n (sym (cond-false (nat_le least k && nat_le k most) (Some k) None no') ∙ e))
    ]

no_options : (options : WalkOptions) → None ≡ Some options → ⊥
no_options options e = cc

-- the parts of what was asked for are those that it was made of
pub record AreParts (w s k : Option ℕ) (options : WalkOptions) : Type 0 where
  pub walkers : w ≡ Some options.spec.walkers
  pub steps : s ≡ Some options.spec.steps
  pub workers : k ≡ Some options.workers

parts : (file : List ℕ) (walkers steps seed workers : Option ℕ) (options : WalkOptions)
    → options_by file walkers steps seed workers ≡ Some options → AreParts walkers steps workers options
parts file (Some walkers) (Some steps) (Some seed) (Some workers) options e = record {
  walkers = ap (option_map (λ (o : WalkOptions). o.spec.walkers)) e;
  steps = ap (option_map (λ (o : WalkOptions). o.spec.steps)) e;
  workers = ap (option_map (λ (o : WalkOptions). o.workers)) e;
}
parts file (Some walkers) (Some steps) (Some seed) None options e = absurd (no_options options e)
parts file (Some walkers) (Some steps) None workers options e = absurd (no_options options e)
parts file (Some walkers) None seed workers options e = absurd (no_options options e)
parts file None steps seed workers options e = absurd (no_options options e)

of_texts : (file walkers steps seed workers : List ℕ) (options : WalkOptions)
    → options_of file walkers steps seed workers ≡ Some options → AreWithin options
of_texts file walkers steps seed workers options e =
    let found =
    parts file (number_between 1 MAX_WALKERS (natural_of walkers)) (number_between 0 MAX_WALK_STEPS (natural_of steps)) (natural_of seed)
    (number_between 1 MAX_WORKERS (natural_of workers)) options e in
    record {
      walkers = (between 1 MAX_WALKERS (natural_of walkers) options.spec.walkers found.walkers).1;
      steps = (between 0 MAX_WALK_STEPS (natural_of steps) options.spec.steps found.steps).1;
      some = (between 1 MAX_WORKERS (natural_of workers) options.workers found.workers).0;
      few = (between 1 MAX_WORKERS (natural_of workers) options.workers found.workers).1;
    }

pub options-within : (words : List (List ℕ)) (options : WalkOptions) → walk_options_of words ≡ Some options → AreWithin options
unfolding walk_options_of
options-within words options e =
    let six = (length words == 6) && bytes_eq (word_at words 0) (codes "-f") in
    let asked = options_of (word_at words 1) (word_at words 2) (word_at words 3) (word_at words 4) (word_at words 5) in
    elim (cases_Bool six) [
      | inl yes' ↦ of_texts (word_at words 1) (word_at words 2) (word_at words 3) (word_at words 4) (word_at words 5) options
          (sym (cond-true six asked None yes') ∙ e)
      | inr no' ↦ absurd (no_options options (sym (cond-false six asked None no') ∙ e))
    ]
