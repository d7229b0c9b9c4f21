use Rattle.std.proofs.Common.{◌∙◌, ◌++◌, [], ap, map, refl, subst, sym}
use Rattle.std.specs.List.{All}
use Rattle.std.proofs.lemmas.List.Elements.{All-tail}
use Rattle.dm_io.proofs.Known.{appended_to-nothing}
use Rattle.dm_io.proofs.Pieces.{keeps-more, keeps-prefix, keeps_all-prefix}
use Rattle.options_spec.specs.declared.options.Form.TheVariants.{Text}
use Rattle.report_spec.specs.Records.{record_bytes, records_bytes}
use Rattle.report_spec.specs.Tables.{edge_row}
use Rattle.vga_grid.specs.Edges.{edges_left}
use Rattle.vga_grid.specs.Rows.{graph_of}
use Rattle.edge_text.proofs.Ends.{AreBelow, ends_below}
use Rattle.edge_text.proofs.Gathering.{on_err-always, prefix-of_longer}
use Rattle.edge_text.proofs.edge_text.put_edges.Goals as goal

pub edges-init : goal.edges-init
edges-init g c =
    let graph = graph_of c.args.graph.now in
    let left = edges_left (graph_of c.edges-edges.result.graph.now) c.edges-edges.result.row c.edges-edges.result.column in
    record {
      bytes = (
        [],
        ap (λ waiting. waiting ++ records_bytes Text (map edge_row left)) c.requires.empty
            ∙ ap (λ edges. records_bytes Text (map edge_row edges)) c.edges-edges.ensures,
        appended_to-nothing _,
      );
      faults_stay = refl;
      below = subst (All (AreBelow graph.count)) (sym c.edges-edges.ensures) (ends_below graph c.len-nodes.ensures.simple);
    }

pub returns-in_err-flush-clause-prefix : goal.returns-in_err-flush-clause-prefix
returns-in_err-flush-clause-prefix g c =
    on_err-always c.from_residual.result
    (keeps_all-prefix _ _ _ _ _ c.edges.invariant.bytes
    (prefix-of_longer _ _ c.edges.lines _ c.in_err-flush.ensures.prefix))

pub returns-in_err-add_row-clause-prefix : goal.returns-in_err-add_row-clause-prefix
returns-in_err-add_row-clause-prefix g c =
    let row = record_bytes Text (edge_row (c.in-Some.i, c.in-Some.j)) in
    on_err-always c.from_residual-in_err-add_row.result
    (keeps-prefix _ _ _ _ c.edges.lines row _ (rw c.in-Some.ensures.steps at c.edges.invariant.bytes)
    c.in_err-add_row.ensures.prefix)

pub edges-preserved : goal.edges-preserved
edges-preserved g c =
    let row = record_bytes Text (edge_row (c.in-Some.i, c.in-Some.j)) in
    record {
      bytes =
          keeps-more _ _ _ _ c.edges.lines row _ c.add_row.new.lines (rw c.in-Some.ensures.steps at c.edges.invariant.bytes)
          c.in_ok-add_row.ensures.all;
      faults_stay = c.in_ok-add_row.ensures.faults_stay ∙ c.edges.invariant.faults_stay;
      below = All-tail (AreBelow c.args.graph.now.count) (c.in-Some.i, c.in-Some.j) _ (rw c.in-Some.ensures.steps at c.edges.invariant.below);
    }
