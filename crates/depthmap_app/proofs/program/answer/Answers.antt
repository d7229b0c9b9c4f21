use Rattle.std.proofs.Common.{◌≡◌, arith, map, string_bytes, subst}
use Rattle.depthmap_app.specs.Ends.{EndsTrial}
use Rattle.depthmap_app.specs.Words.{options_given}
use Rattle.depthmap_app.proofs.GivenOptions.{options-are, trial-ends}
use Rattle.depthmap_app.proofs.TrialNumbers.{trial-number}
use Rattle.depthmap_app.proofs.WorkerNumbers.{worker-number}
use Rattle.depthmap_app.proofs.program.answer.Goals as goal

pub trial-requires-clause-some : goal.trial-requires-clause-some
trial-requires-clause-some g c κs within =
    let o = c.in-Ok-Some in
    let given = options-are c.args.words.now _ _ _ o.options c.deref.ensures.value c.in-Ok.ensures o.ensures o.field-0-is in
    (trial-number (map string_bytes c.args.words.now) o.options c.in-Trial.boxes given c.in-Trial.is).some

pub trial-requires-clause-few : goal.trial-requires-clause-few
trial-requires-clause-few g c κs within =
    let o = c.in-Ok-Some in
    let given = options-are c.args.words.now _ _ _ o.options c.deref.ensures.value c.in-Ok.ensures o.ensures o.field-0-is in
    (trial-number (map string_bytes c.args.words.now) o.options c.in-Trial.boxes given c.in-Trial.is).few

pub returns-clause-ends : goal.returns-clause-ends
returns-clause-ends g c =
    let o = c.in-Ok-Some in
    let given = options-are c.args.words.now _ _ _ o.options c.deref.ensures.value c.in-Ok.ensures o.ensures o.field-0-is in
    trial-ends (options_given c.args.words.now) o.options c.in-Trial.boxes (g.F.Files.holds c.args.files.now) _ _ c.trial.result given
    c.in-Trial.is
    (c.trial.ensures (g.F.Source.left c.args.files.now) (g.S.Source.left c.args.script.now) (g.F.Source.faults c.args.files.now)
    (g.S.Source.faults c.args.script.now))

pub returns-clause-why : goal.returns-clause-why
returns-clause-why g c = λ bad.
    absurd (subst (EndsTrial c.in-Ok-Some.options.form c.in-Trial.boxes _ _) bad
    (c.trial.ensures (g.F.Source.left c.args.files.now) (g.S.Source.left c.args.script.now) 0 0))

pub overflow_cast-workers : goal.overflow_cast-workers
overflow_cast-workers g c =
    let o = c.in-Ok-Some in
    let given = options-are c.args.words.now _ _ _ o.options c.deref.ensures.value c.in-Ok.ensures o.ensures o.field-0-is in
    omega (arith, (worker-number (map string_bytes c.args.words.now) o.options given).few)

pub analyse-requires-clause-some_workers : goal.analyse-requires-clause-some_workers
analyse-requires-clause-some_workers g c κs within =
    let o = c.in-Ok-Some in
    let given = options-are c.args.words.now _ _ _ o.options c.deref.ensures.value c.in-Ok.ensures o.ensures o.field-0-is in
    (worker-number (map string_bytes c.args.words.now) o.options given).some

pub analyse-requires-clause-few_workers : goal.analyse-requires-clause-few_workers
analyse-requires-clause-few_workers g c κs within =
    let o = c.in-Ok-Some in
    let given = options-are c.args.words.now _ _ _ o.options c.deref.ensures.value c.in-Ok.ensures o.ensures o.field-0-is in
    (worker-number (map string_bytes c.args.words.now) o.options given).few

pub trial-requires-clause-some_workers : goal.trial-requires-clause-some_workers
trial-requires-clause-some_workers g c κs within =
    let o = c.in-Ok-Some in
    let given = options-are c.args.words.now _ _ _ o.options c.deref.ensures.value c.in-Ok.ensures o.ensures o.field-0-is in
    (worker-number (map string_bytes c.args.words.now) o.options given).some

pub trial-requires-clause-few_workers : goal.trial-requires-clause-few_workers
trial-requires-clause-few_workers g c κs within =
    let o = c.in-Ok-Some in
    let given = options-are c.args.words.now _ _ _ o.options c.deref.ensures.value c.in-Ok.ensures o.ensures o.field-0-is in
    (worker-number (map string_bytes c.args.words.now) o.options given).few
