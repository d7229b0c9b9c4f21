use Rattle.std.proofs.Common.{arith}
use Rattle.std.proofs.lemmas.Grind.{common_steps}
use Rattle.dm_io.proofs.Known.{appended_to-more}
use Rattle.dm_io.proofs.read_write_all.put_all.Goals as goal

pub loop-done-preserved : goal.loop-done-preserved
loop-done-preserved g c = record {
  within = grind (arith, common_steps, c.in-Took.ensures.bytes);
  put = grind (arith, common_steps, appended_to-more, c.in-Took.ensures.bytes);
  faults_stay = grind (arith, common_steps, c.in-Took.ensures.count);
}
