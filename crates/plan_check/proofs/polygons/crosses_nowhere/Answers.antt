use Rattle.std.specs.Prelude.{◌+◌, ◌&&◌, drop, length}
use Rattle.std.specs.List.{enumerate_from, list_all}
use Rattle.std.proofs.Common.{◌∙◌, sym, ap, refl}
use Rattle.plane_spec.specs.Lists.{pairs}
use Rattle.plane_spec.specs.Polygons.{edges_of, may_be_edges, crosses_nowhere}
use Rattle.plan_check.proofs.Edges.{pairs_left, stand_next}
use Rattle.plan_check.proofs.polygons.crosses_nowhere.Goals as goal

pub loop-i-init : goal.loop-i-init
unfolding crosses_nowhere
loop-i-init c = refl

pub returns-then-not-fits_later_edges : goal.returns-then-not-fits_later_edges
returns-then-not-fits_later_edges c =
    let n = length c.args.points.now in
    let i = c.loop-i.i in
    let rest = drop (i + 1) (edges_of c.args.points.now) in
    sym (c.loop-i.invariant
    ∙ ap (λ es. list_all (may_be_edges n) (pairs (enumerate_from i es))) c.edge_in_range.ensures.next
    ∙ stand_next n i c.edge_in_range.result rest
    ∙ ap (λ t. t && list_all (may_be_edges n) (pairs (enumerate_from (i + 1) rest))) (sym c.fits_later_edges.ensures ∙ c.if-not-fits_later_edges.true))

pub loop-i-preserved : goal.loop-i-preserved
loop-i-preserved c =
    let n = length c.args.points.now in
    let i = c.loop-i.i in
    let rest = drop (i + 1) (edges_of c.args.points.now) in
    c.loop-i.invariant
    ∙ ap (λ es. list_all (may_be_edges n) (pairs (enumerate_from i es))) c.edge_in_range.ensures.next
    ∙ stand_next n i c.edge_in_range.result rest
    ∙ ap (λ t. t && list_all (may_be_edges n) (pairs (enumerate_from (i + 1) rest))) (sym c.fits_later_edges.ensures ∙ c.if-not-fits_later_edges.false)

pub returns : goal.returns
returns c =
    sym (c.loop-i.invariant ∙ pairs_left (may_be_edges (length c.args.points.now)) c.args.points.now c.loop-i.i c.loop-i.i c.loop-i-test.false)
