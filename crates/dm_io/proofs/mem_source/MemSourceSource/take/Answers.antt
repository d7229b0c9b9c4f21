use Rattle.std.proofs.Common.{◌≡◌, ap, Some, drop, take, ℕ, List, arith}
use Rattle.std.proofs.lemmas.Grind.{common_steps}
use Rattle.dm_io.proofs.Known.{moved}
use Rattle.dm_io.proofs.mem_source.MemSourceSource.take.Goals as goal

pub returns-clause-bytes : goal.returns-clause-bytes
returns-clause-bytes c =
    let bytes : List ℕ = c.args.self.now.bytes.items in
    let at : ℕ = c.args.self.now.at in
    let n : ℕ = c.copy_prefix-count.result in
    let same : take n c.copy_prefix-count.new.into ≡ take n (drop at bytes) = grind (arith, common_steps) in
    (grind (arith, common_steps), grind (arith, common_steps), ap (λ b. Some b) (moved bytes c.copy_prefix-count.new.into at n same))
