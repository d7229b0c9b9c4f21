use Rattle.std.proofs.Common.{arith, map, string_bytes, sym}
use Rattle.walk_app.proofs.OptionLimits.{options-within}
use Rattle.walk_app.proofs.program.answer.Goals as goal

pub walk_over_file-requires-clause-walkers : goal.walk_over_file-requires-clause-walkers
walk_over_file-requires-clause-walkers g c κs within =
    (options-within (map string_bytes c.args.words.now) c.in-Some.options (sym c.in-Some.ensures)).walkers

pub walk_over_file-requires-clause-steps : goal.walk_over_file-requires-clause-steps
walk_over_file-requires-clause-steps g c κs within =
    (options-within (map string_bytes c.args.words.now) c.in-Some.options (sym c.in-Some.ensures)).steps

pub walk_over_file-requires-clause-some_workers : goal.walk_over_file-requires-clause-some_workers
walk_over_file-requires-clause-some_workers g c κs within =
    omega (arith, (options-within (map string_bytes c.args.words.now) c.in-Some.options (sym c.in-Some.ensures)).some)

pub walk_over_file-requires-clause-few_workers : goal.walk_over_file-requires-clause-few_workers
walk_over_file-requires-clause-few_workers g c κs within =
    omega (arith, (options-within (map string_bytes c.args.words.now) c.in-Some.options (sym c.in-Some.ensures)).few)
