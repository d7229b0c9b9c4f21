use Rattle.std.proofs.Common.{drop}
use Rattle.std.specs.List.{filter_map}
use Rattle.route_spec.specs.Routes.{cut_of}
use Rattle.segment_core.proofs.Cutting.{Cutting}
use Rattle.segment_core.proofs.cuts.cuts.Given as goal

abbrev pub invariant-loop-q : goal.invariant-loop-q
invariant-loop-q l = Cutting l.cuts.items (filter_map (cut_of l.r) (drop l.q-index l.routes)) (filter_map
    (cut_of l.r) l.routes)
