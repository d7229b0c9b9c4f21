-- The pieces of a sound plan are few, and have small parts.
use Rattle.std.proofs.Common.{List, length, sym, ap, subst, arith}
use Rattle.std.specs.Prelude.{All}
use Rattle.route_spec.specs.Routes.{ArePiecesOfPlan, Piece}
use Rattle.route_laws.specs.Bounds.{IsPieceInRange}
use Rattle.route_laws.proofs.Pieces.{each_in_range, few_pieces}
use Rattle.segment_core.specs.Steps.{AreInRange, no_piece}

pub pieces_in_range : (pieces : List Piece) → ArePiecesOfPlan pieces → AreInRange pieces
pieces_in_range pieces h =
    let all = subst (λ (ps : List Piece). All IsPieceInRange ps) (sym h.all) (each_in_range h.plan h.sound) in
    record {
      at_most = omega (arith, ap (λ (ps : List Piece). length ps) h.all, few_pieces h.plan h.sound);
      each = λ k below. all k no_piece below;
    }
