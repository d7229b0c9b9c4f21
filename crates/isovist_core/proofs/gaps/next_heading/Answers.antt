use Rattle.std.proofs.Common.{ap, ◌∙◌}
use Rattle.isovist_core.specs.Headings.{step_of}
use Rattle.isovist_core.proofs.Lists.{next_inside, next_last}
use Rattle.isovist_core.proofs.gaps.next_heading.Goals as goal

pub returns-then-k-headings : goal.returns-then-k-headings
returns-then-k-headings c =
    ap step_of c.index-headings-k.is
    ∙ next_inside c.args.headings.now c.args.k c.index-headings-k.result c.if-k-headings.true

pub returns-else-k-headings : goal.returns-else-k-headings
returns-else-k-headings c =
    ap step_of c.index-headings-0.is
    ∙ next_last c.args.headings.now c.args.k c.index-headings-0.result c.requires c.if-k-headings.false
