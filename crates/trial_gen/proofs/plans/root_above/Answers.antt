use Rattle.std.proofs.Common.{◌∙◌, ◌-◌, sym}
use Rattle.trial_gen.proofs.Roots.{next, found, strictly, at_most_15}
use Rattle.trial_gen.proofs.plans.root_above.Goals as goal

pub loop-root-preserved : goal.loop-root-preserved
loop-root-preserved c =
    let n = c.args.n in
    let root = c.loop-root.root in
    let h = c.loop-root.invariant in
    record {
      sought = sym (next n root c.loop-root-test.true) ∙ h.sought;
      few = at_most_15 root n c.requires h.few c.loop-root-test.true;
      below = strictly root n c.loop-root-test.true;
    }

pub returns-clause-value : goal.returns-clause-value
returns-clause-value c =
    sym (found c.args.n c.loop-root.root (c.args.n - c.loop-root.root) c.loop-root-test.false)
    ∙ c.loop-root.invariant.sought
