use Rattle.std.proofs.Common.{◌∙◌, ◌+◌, ◌-◌, ◌<◌, ℕ, sym, ap, arith, length, set, take}
use Rattle.std.specs.Prelude.{filter}
use Rattle.std.specs.List.{range_with_len}
use Rattle.std.proofs.lemmas.List.{take-set, take_more_set}
use Rattle.line_graph.proofs.Joins.{filter_begun, filter_more, front_more}
use Rattle.line_graph.proofs.near.pick.Goals as goal

pub loop-j-init : goal.loop-j-init
loop-j-init c = record { few = omega arith; near = λ test known. sym (filter_begun test c.args.i) }

pub loop-j-preserved : goal.loop-j-preserved
loop-j-preserved c =
    let i = c.args.i in
    let j = c.loop-j.j in
    let n = c.loop-j.count in
    let before = c.loop-j.invariant in
    let room : n < length c.loop-j.near =
    omega (arith, before.few, c.loop-j-test.true, c.loop-j.auto.near, c.requires.sized) in
    let rises : i < j = omega (arith, c.loop-j.auto.j) in
    let bit = c.requires.bits j rises c.loop-j-test.true in
    let after = set c.loop-j.near n j in
    record {
      few = omega (arith, before.few, bit);
      near = λ test known.
          ap (λ (k : ℕ). take (n + k) after) (known j rises c.loop-j-test.true)
          ∙ front_more c.loop-j.near after n j (test j) (filter test (range_with_len (i + 1) (j - (i + 1))))
          (before.near test known) (take-set c.loop-j.near n j) (take_more_set c.loop-j.near n j room)
          ∙ sym (filter_more test i j rises);
    }
