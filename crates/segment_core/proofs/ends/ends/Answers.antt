use Rattle.std.proofs.Common.{◌≡◌, ◌<◌, ◌∙◌, ℕ, List, length, get_or, sym, subst}
use Rattle.std.proofs.lemmas.List.{get_or_default}
use Rattle.route_spec.specs.Routes.{Piece}
use Rattle.route_laws.specs.Bounds.{IsPieceInRange}
use Rattle.segment_core.specs.Steps.{AreInRange, no_piece}
use Rattle.segment_core.proofs.ends.ends.Goals as goal

piece_in_range : (pieces : List Piece) (k : ℕ) (piece : Piece) → AreInRange pieces → k < length pieces
    → piece ≡ get_or pieces k piece
    → IsPieceInRange piece
piece_in_range pieces k piece h below is = subst IsPieceInRange (get_or_default pieces k no_piece piece below
    ∙ sym is) (h.each k below)

pub end_of-requires : goal.end_of-requires
end_of-requires c =
    let h = piece_in_range c.args.pieces.now c.loop-k.k c.index-pieces-k.result c.requires c.loop-k-test.true
    c.index-pieces-k.is in
    (subst IsPieceInRange (sym c.piece.view_is) h).to.parts

pub end_of-requires-in-loop-k : goal.end_of-requires-in-loop-k
end_of-requires-in-loop-k c =
    let h = piece_in_range c.args.pieces.now c.loop-k.k c.index-pieces-k.result c.requires c.loop-k-test.true
    c.index-pieces-k.is in
    (subst IsPieceInRange (sym c.piece.view_is) h).from.parts
