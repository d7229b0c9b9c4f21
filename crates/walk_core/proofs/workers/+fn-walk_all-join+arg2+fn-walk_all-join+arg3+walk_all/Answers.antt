use Rattle.std.specs.Prelude.{IfOk}
use Rattle.std.proofs.Common.{◌≡◌, ℕ, ◌+◌, ◌-◌, ◌∙◌, length, ap, subst, arith}
use Rattle.std.proofs.lemmas.List.{take_at}
use Rattle.walk_core.specs.Lists.{part_visits}
use Rattle.walk_core.proofs.Parts.{room_for_both, both_parts}
use Rattle.walk_core.proofs.workers.+fn-walk_all-join+arg2+fn-walk_all-join+arg3+walk_all.Goals as goal

pub add_each-requires-clause-room : goal.add_each-requires-clause-room
add_each-requires-clause-room g t c =
    let here = c.share-here.result in
    let there : ℕ = c.args.walkers - c.share-here.result in
    let left = subst (λ r. IfOk r (λ visits. visits.items ≡ part_visits c.args.lists.now c.args.starts.now c.args.spec.now c.args.first here)) c.in_ok-visits.was c.join-left.ensures.first in
    let right = subst (λ r. IfOk r (λ visits. visits.items ≡ part_visits c.args.lists.now c.args.starts.now c.args.spec.now (c.args.first + here) there)) c.in_ok-others.was c.join-left.ensures.second in
    rw (c.deref_mut.ensures.value, c.deref.ensures.value)
    (room_for_both c.args.lists.now c.args.starts.now c.args.spec.now c.args.first here there c.in_ok-visits.visits.items c.in_ok-others.others.items left right
    (omega (arith, c.share-here.ensures, c.requires.walkers)) c.requires.may.steps)

pub returns : goal.returns
returns g t c =
    let here = c.share-here.result in
    let there : ℕ = c.args.walkers - c.share-here.result in
    let left = subst (λ r. IfOk r (λ visits. visits.items ≡ part_visits c.args.lists.now c.args.starts.now c.args.spec.now c.args.first here)) c.in_ok-visits.was c.join-left.ensures.first in
    let right = subst (λ r. IfOk r (λ visits. visits.items ≡ part_visits c.args.lists.now c.args.starts.now c.args.spec.now (c.args.first + here) there)) c.in_ok-others.was c.join-left.ensures.second in
    let len : length c.add_each.new.visits ≡ c.in_ok-visits.visits.len = c.add_each.ensures.len ∙ c.deref_mut.ensures.len in
    rw (take_at c.add_each.new.visits _ c.in_ok-visits.visits.len len)
    (both_parts c.args.lists.now c.args.starts.now c.args.spec.now c.args.first here there c.args.walkers c.in_ok-visits.visits.items c.in_ok-others.others.items c.add_each.new.visits
    (omega (arith, c.share-here.ensures)) left right (c.add_each.ensures.len ∙ ap length c.deref_mut.ensures.value)
    (rw (c.deref_mut.ensures.value, c.deref.ensures.value) at c.add_each.ensures.sums))
