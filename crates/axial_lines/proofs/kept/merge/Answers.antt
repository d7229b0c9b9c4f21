use Rattle.std.proofs.Common.{◌≡◌, ◌∙◌, ◌++◌, drop, ap}
use Rattle.list_laws.specs.Merged.{merged}
use Rattle.line_laws.specs.Lines.{comes_before}
use Rattle.axial_lines.proofs.Merging.{ended_left, ended_right}
use Rattle.axial_lines.proofs.kept.merge.Goals as goal
use Rattle.axial_lines.proofs.kept.merge.Goals.{then-loop-i-test+else-j-fresh, else-loop-i-test}

pub returns : goal.returns
returns c =
    record {
      merged = c.in_ok-append_from-2.ensures.added
          ∙ ap (λ ls. ls ++ drop c.loop-i.j c.args.fresh.now) c.in_ok-append_from.ensures.added ∙ rest
          ∙ c.loop-i.invariant.0;
    }
  where
    rest : (c.loop-i.all.items ++ drop c.loop-i.i c.args.kept.now) ++ drop c.loop-i.j c.args.fresh.now
        ≡ c.loop-i.all.items ++ merged comes_before (drop c.loop-i.i c.args.kept.now) (drop c.loop-i.j c.args.fresh.now)
    rest = elim c.loop-i-test.branch [
      | then-loop-i-test+else-j-fresh w ↦
          ended_right comes_before c.loop-i.all.items c.args.kept.now c.args.fresh.now c.loop-i.i c.loop-i.j
          w.if-j-fresh.false
      | else-loop-i-test w ↦
          ended_left comes_before c.loop-i.all.items c.args.kept.now c.args.fresh.now c.loop-i.i c.loop-i.j
          w.loop-i-test.false
    ]
