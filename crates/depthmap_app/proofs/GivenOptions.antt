-- The options that the words give, by what was read of the words.
use Rattle.std.proofs.Common.{◌≡◌, ◌∙◌, ℕ, Bor, List, map, Option, Some, String, string_bytes, ap, sym, subst}
use Rattle.std.specs.Global.{Global}
use Rattle.options_spec.specs.declared.options.Job.TheVariants.{Trial}
use Rattle.options_spec.specs.declared.options.Options.{Options}
use Rattle.words_spec.specs.CommandWords.{options_in}
use Rattle.depthmap_app.specs.Ends.{Ends, EndsJob, EndsTrial}
use Rattle.plan_file.specs.Streams.{Streams}
use Rattle.depthmap_app.specs.Words.{options_given}
use Rattle.depthmap_app.specs.declared.status.Status.{Status}

-- the texts are the words, and these options were found in them
pub options-are : (words : List (String Global)) (items texts : List (Bor (List ℕ))) (found : Option Options) (options : Options)
    → texts ≡ items → map (λ text. text.now) items ≡ map string_bytes words → found ≡ options_in (map (λ text. text.now) texts)
    → found ≡ Some options → options_given words ≡ Some options
options-are words items texts found options same are_words is some =
    sym (ap options_in (ap (map (λ text. text.now)) same ∙ are_words)) ∙ sym is ∙ some

-- how a trial ends is how a run ends that was asked for one
pub trial-ends : (given : Option Options) (options : Options) (boxes : ℕ) (holds : List ℕ → Option (List ℕ)) (old new : Streams)
    (status : Status) → given ≡ Some options → options.job ≡ Trial boxes → EndsTrial options.form boxes old new status
    → Ends given holds old new status
trial-ends given options boxes holds old new status is trial ends =
    subst (λ o. Ends o holds old new status) (sym is)
    (subst (λ job. EndsJob job options.form holds old new status) (sym trial) ends)
