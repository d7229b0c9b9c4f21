use Rattle.plan_text.proofs.PrintedText.{reads_again}
use Rattle.plan_text.proofs.printing.prints_and_reads.Goals as goal

pub returns : goal.returns
returns c = reads_again
