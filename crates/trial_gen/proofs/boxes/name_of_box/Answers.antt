use Rattle.std.proofs.Common.{◌≡◌, ◌++◌, ◌∙◌, ap, decimal, rules, refl}
use Rattle.std.specs.Prelude.{codes}
use Rattle.text_spec.specs.Names.{is_name}
use Rattle.trial_gen.proofs.BoxNames.{box_named}
use Rattle.trial_gen.proofs.boxes.name_of_box.Goals as goal

pub unwrap-requires-2 : goal.unwrap-requires-2
unwrap-requires-2 c =
    let same : c.deref.result.now ≡ codes "b" ++ decimal c.args.i = search rules in
    let named = ap is_name same ∙ box_named c.args.i c.requires in
    rw (c.of.ensures, named) refl
