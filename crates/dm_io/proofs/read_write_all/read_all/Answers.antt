use Rattle.std.proofs.Common.{◌++◌, take, arith}
use Rattle.std.proofs.lemmas.Grind.{common_steps}
use Rattle.dm_io.proofs.Known.{prepended_to-more}
use Rattle.dm_io.proofs.read_write_all.read_all.Goals as goal

pub returns-then-is_err-clause-no_memory : goal.returns-then-is_err-clause-no_memory
returns-then-is_err-clause-no_memory g c = (
  c.chunks.all.items ++ take c.in-Got.count c.take.new.into,
  grind (arith, common_steps, c.in-Got.ensures.bytes),
  grind (arith, common_steps, prepended_to-more, c.in-Got.ensures.bytes),
)
