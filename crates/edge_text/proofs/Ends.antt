-- Both ends of an edge are nodes.
use Rattle.std.proofs.Common.{◌≡◌, ℕ, ◌<◌, true}
use Rattle.std.specs.List.{All}
use Rattle.std.proofs.lemmas.List.Elements.{All-weaker, filter_passes}
use Rattle.plane_spec.specs.Lists.{pairs}
use Rattle.graph_spec.specs.Graphs.{Graph, IsSimpleGraph, edges_of, is_edge, nodes}

-- both are below a number
abbrev pub AreBelow : ℕ → ℕ × ℕ → Type 0
AreBelow count e = (e.0 < count) × (e.1 < count)

pub ends_below : (g : Graph) → IsSimpleGraph g → All (AreBelow g.count) (edges_of g)
unfolding edges_of
ends_below g simple =
    All-weaker (λ e. is_edge g e ≡ true) (AreBelow g.count) (λ e joined. simple.on_nodes e.0 e.1 joined) (edges_of g)
    (filter_passes (is_edge g) (pairs (nodes g)))
