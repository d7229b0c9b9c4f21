use Rattle.std.proofs.Common.{◌≡◌, ◌∙◌, ap, refl}
use Rattle.std.proofs.lemmas.Bool.Decides.{Decides-eqb}
use Rattle.std.proofs.lemmas.Slice.Eq.{strip_suffix_is}
use Rattle.text_spec.specs.Lines.{without_return}
use Rattle.text_spec.proofs.Returns.{shown_front, stripped}
use Rattle.text_spec.proofs.lines.without_return.Goals as goal

pub returns-clause-bytes : goal.returns-clause-bytes
returns-clause-bytes c =
    let found = strip_suffix_is Decides-eqb c.args.line.now _ c.strip_suffix.result c.strip_suffix.ensures.cases in
    ap (λ r. r.now) c.unwrap_or.ensures ∙ stripped c.args.line.now c.strip_suffix.result c.args.line found refl

pub returns-clause-prefix : goal.returns-clause-prefix
returns-clause-prefix c =
    let shown : c.unwrap_or.result.now ≡ without_return c.args.line.now = returns-clause-bytes c in
    rw shown (shown_front c.args.line.now)
