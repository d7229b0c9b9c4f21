use Rattle.std.proofs.Common.{◌+◌, ◌∙◌, Bor, List, [], ℕ, drop, get_or, refl}
use Rattle.dm_io.proofs.Pieces.{keeps-all, keeps-prefix, keeps-put, keeps-start}
use Rattle.dm_io.proofs.Known.{appended_to-nothing}
use Rattle.plan_file.proofs.PiecesLeft.{all_of, pieces_left-first, pieces_left-none}
use Rattle.plan_file.proofs.Results.{on_err-always}
use Rattle.plan_file.proofs.messages.put_pieces.Goals as goal

abbrev no_piece : Bor (List ℕ)
no_piece = record { ref_ptr = (0, 0); now = [] }

pub loop-piece-init : goal.loop-piece-init
loop-piece-init g c = record { bytes = keeps-start (g.E.Sink.written c.args.err.now) (all_of c.args.pieces.now); faults_stay = refl }

pub loop-piece-preserved : goal.loop-piece-preserved
loop-piece-preserved g c =
    let more = pieces_left-first c.args.pieces.now c.loop-piece.piece-index no_piece c.loop-piece-test.true in
    record {
      bytes = keeps-put _ _ _ _ (get_or c.args.pieces.now c.loop-piece.piece-index no_piece).now (all_of (drop (c.loop-piece.piece-index + 1) c.args.pieces.now)) (rw more at c.loop-piece.invariant.bytes) c.in_ok-put_all.ensures.all;
      faults_stay = c.in_ok-put_all.ensures.faults_stay ∙ c.loop-piece.invariant.faults_stay;
    }

pub returns-in_err-put_all-clause-prefix : goal.returns-in_err-put_all-clause-prefix
returns-in_err-put_all-clause-prefix g c =
    let more = pieces_left-first c.args.pieces.now c.loop-piece.piece-index no_piece c.loop-piece-test.true in
    on_err-always c.from_residual.result
    (keeps-prefix _ _ _ _ [] (get_or c.args.pieces.now c.loop-piece.piece-index no_piece).now (all_of (drop (c.loop-piece.piece-index + 1) c.args.pieces.now)) (rw more at c.loop-piece.invariant.bytes) c.in_err-put_all.ensures.prefix)

pub returns-clause-all : goal.returns-clause-all
returns-clause-all g c =
    let none = pieces_left-none c.args.pieces.now c.loop-piece.piece-index c.loop-piece-test.false in
    keeps-all (g.E.Sink.written c.args.err.now) (g.E.Sink.written c.loop-piece.err) (g.E.Sink.written c.loop-piece.err) (all_of c.args.pieces.now) []
    (rw none at c.loop-piece.invariant.bytes) (appended_to-nothing (g.E.Sink.written c.loop-piece.err))
