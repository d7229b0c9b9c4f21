use Rattle.std.proofs.Common.{refl}
use Rattle.walk_core.proofs.Bits.{pushing_goes, pushing_ends}
use Rattle.walk_core.proofs.neighbours.push_word.Goals as goal

pub bits-init : goal.bits-init
bits-init c = record { all = refl }

pub bits-preserved : goal.bits-preserved
bits-preserved c =
    pushing_goes c.args.first c.args.word c.bits.left c.lowest-bit.result c.cleared-left.result c.args.near.now.items c.bits.near.items c.push.new.self.items
    c.bits.invariant c.lowest-bit.ensures.small c.lowest-bit.ensures.here c.lowest-bit.ensures.least c.cleared-left.ensures.bits c.in_ok-push.ensures.items

pub returns : goal.returns
returns c = pushing_ends c.args.first c.args.word c.bits.left c.args.near.now.items c.bits.near.items c.bits.invariant c.bits-test.false
