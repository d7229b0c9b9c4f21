-- The tables over what was computed are those of the plan.
use Rattle.std.proofs.Common.{◌≡◌, ◌∙◌, ◌∷◌, ◌++◌, ◌<◌, ◌^◌, arith, length, ℕ, Bool, true, false, List, Option, Some, Result, refl, sym, ap, subst}
use Rattle.plane_spec.specs.declared.Point.{Point}
use Rattle.plan_spec.specs.Plan.{Plan}
use Rattle.graph_spec.specs.Graphs.{Graph, Measures, depths_of, edges_of, measures_of_nodes}
use Rattle.sight_spec.specs.Visibility.{open_points, visibility_edges, visibility_graph}
use Rattle.plan_spec.specs.declared.item.Route.{Route}
use Rattle.route_spec.specs.Routes.{ArePiecesOfPlan, Piece, neighbour_counts, pieces_of, turn_depths_of}
use Rattle.options_spec.specs.declared.options.Form.{Form}
use Rattle.report_spec.specs.Replies.{ok_record}
use Rattle.report_spec.specs.Tables.{depth_table, depth_table_of, edges_table, edges_table_of, points_table, points_table_of}
use Rattle.report_spec.specs.Tables.{segments_table, segments_table_of, turns_table, turns_table_of}
use Rattle.reports.specs.declared.fault.ReportFault.{ReportFault}
use Rattle.graph_laws.proofs.Turns.{one_turn_depth_each}
use Rattle.map_laws.proofs.Visibility.{edges_are}
use Rattle.route_laws.proofs.Pieces.{few_pieces}
use Rattle.plan_answers.specs.Answered.{Answers}

-- the same rows in place of others
pub same_rows : (form : Form) (before after : Option (List ℕ)) (rows others : List (List (List ℕ))) (refused : Bool)
    (result : Result Bool ReportFault) → rows ≡ others → Answers form before after rows refused result
    → Answers form before after others refused result
same_rows form before after rows others refused result e h = subst (λ r. Answers form before after r refused result) e h

pub same_reply : (form : Form) (before after : Option (List ℕ)) (number : ℕ) (rows others : List (List (List ℕ)))
    (refused : Bool) (result : Result Bool ReportFault) → rows ≡ others
    → Answers form before after (ok_record number ∷ rows) refused result
    → Answers form before after (ok_record number ∷ others) refused result
same_reply form before after number rows others refused result e h =
    subst (λ r. Answers form before after (ok_record number ∷ r) refused result) e h

-- ---- of the visibility graph

pub edges_of_plan : (plan : Plan) (graph : Graph) → graph ≡ visibility_graph plan
    → edges_table (edges_of graph) ≡ edges_table_of plan
edges_of_plan plan graph e = ap (λ g. edges_table (edges_of g)) e ∙ ap edges_table (edges_are plan)

pub points_of_plan : (plan : Plan) (graph : Graph) (points : List (ℕ × Point)) (measures : List Measures)
    → graph ≡ visibility_graph plan → points ≡ open_points plan → measures ≡ measures_of_nodes graph
    → points_table points measures ≡ points_table_of plan
points_of_plan plan graph points measures e p m =
    ap (λ ps. points_table ps measures) p
    ∙ ap (λ ms. points_table (open_points plan) ms) (m ∙ ap measures_of_nodes e)

pub depths_of_plan : (plan : Plan) (graph : Graph) (points : List (ℕ × Point)) (depths : List (Option ℕ)) (source : ℕ)
    → graph ≡ visibility_graph plan → points ≡ open_points plan → depths ≡ depths_of graph source
    → depth_table points depths ≡ depth_table_of plan source
depths_of_plan plan graph points depths source e p d =
    ap (λ ps. depth_table ps depths) p
    ∙ ap (λ ds. depth_table (open_points plan) ds) (d ∙ ap (λ g. depths_of g source) e)

-- ---- of routes

pub pieces_of_routes : (plan : Plan) (routes : List Route) (pieces : List Piece) (neighbours : List ℕ)
    → routes ≡ plan.routes → pieces ≡ pieces_of plan → neighbours ≡ neighbour_counts pieces
    → segments_table routes pieces neighbours ≡ segments_table_of plan
pieces_of_routes plan routes pieces neighbours r p n =
    ap (λ rs. segments_table rs pieces neighbours) r
    ∙ ap (λ ps. segments_table plan.routes ps neighbours) p
    ∙ ap (λ ns. segments_table plan.routes (pieces_of plan) ns) (n ∙ ap neighbour_counts p)

pub turns_of_pieces : (plan : Plan) (pieces : List Piece) (depths : List (Option ℕ)) (source : ℕ)
    → pieces ≡ pieces_of plan → depths ≡ turn_depths_of pieces source → turns_table depths ≡ turns_table_of plan source
turns_of_pieces plan pieces depths source p d =
    ap turns_table (d ∙ ap (λ ps. turn_depths_of ps source) p)

-- there are few enough to add up
pub few_turns : (pieces : List Piece) (depths : List (Option ℕ)) (source : ℕ) → ArePiecesOfPlan pieces
    → depths ≡ turn_depths_of pieces source → length depths < 2 ^ 32
few_turns pieces depths source of d =
    omega (arith, ap length d, one_turn_depth_each pieces source, ap length of.all, few_pieces of.plan of.sound)

-- ---- a table after another

pub two_tables : (first one second two : List (List (List ℕ))) → first ≡ one → second ≡ two
    → first ++ second ≡ one ++ two
two_tables first one second two e f = ap (λ rows. rows ++ second) e ∙ ap (λ rows. one ++ rows) f
