use Rattle.std.proofs.Common.{◌≡◌, drop}
use Rattle.std.specs.List.{flat_map}
use Rattle.dm_io.specs.OutputBuffer.{WritesAndBuffers}
use Rattle.plan_file.proofs.messages.put_pieces.Given as goal

abbrev pub invariant-loop-piece : goal.invariant-loop-piece
invariant-loop-piece g l = record {
  bytes : WritesAndBuffers (g.E.Sink.written l.initial.err) (g.E.Sink.written l.err)
      (flat_map (λ piece. piece.now) l.pieces) (flat_map (λ piece. piece.now) (drop l.piece-index l.pieces));
  faults_stay : g.E.Sink.faults l.err ≡ g.E.Sink.faults l.initial.err;
}
