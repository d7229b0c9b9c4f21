use Rattle.std.proofs.lemmas.Result.{on_err_weaker, on_ok_weaker}
use Rattle.dm_io.proofs.Pieces.{puts-then, writes_prefix-then}
use Rattle.dm_io.proofs.output_buffer.OutputBuffer.add.Goals as goal

pub returns-clause-all : goal.returns-clause-all
returns-clause-all g c =
    on_ok_weaker c.put_all.result (λ all. puts-then _ _ _ _ _ _ c.in_ok-flush.ensures.all all c.flush.ensures.empty) c.put_all.ensures.all

pub returns-clause-prefix : goal.returns-clause-prefix
returns-clause-prefix g c =
    on_err_weaker c.put_all.result (λ prefix. writes_prefix-then _ _ _ _ _ c.in_ok-flush.ensures.all prefix) c.put_all.ensures.prefix
