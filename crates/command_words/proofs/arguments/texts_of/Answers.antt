use Rattle.std.proofs.Common.{◌≡◌, ◌∙◌, ap, sym, map, true, false, true≢false, Some}
use Rattle.clap.specs.Words.{app_of, found_of, rows_of}
use Rattle.command_words.proofs.Parses.{is_free_command, is_simple_command, matches_are_given, refused_give_none}
use Rattle.command_words.proofs.arguments.texts_of.Goals as goal

-- clap answers matches where no step has a fault
pub returns-in-Ok-clause-texts : goal.returns-in-Ok-clause-texts
returns-in-Ok-clause-texts c =
    let is = c.in_ok-five_options.ensures.app in
    let app = app_of c.in_ok-five_options.field-0 in
    let words = map (λ word. word.now) c.args.words.now in
    ap Some c.texts_in.ensures.texts
    ∙ matches_are_given app words (rows_of (found_of c.in-Ok.matches)) is (c.in-Ok.ensures.kinds (is_free_command app is)) (c.in-Ok.ensures.matches (is_simple_command app is)).0

-- an error that isn't out of memory is one of words that aren't taken
pub returns-in-Err-2-clause-texts : goal.returns-in-Err-2-clause-texts
returns-in-Err-2-clause-texts c =
    let is = c.in_ok-five_options.ensures.app in
    let app = app_of c.in_ok-five_options.field-0 in
    let words = map (λ word. word.now) c.args.words.now in
    refused_give_none app words is (λ taken.
    let no_memory = c.kind.ensures ∙ c.in-Err.ensures.passes taken in
    let same : false ≡ true = rw (no_memory, c.if-eq.false) at c.eq.ensures in
    true≢false (sym same))
