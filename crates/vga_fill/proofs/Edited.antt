-- What an edit's boxes miss is as it was.
use Rattle.std.specs.Prelude.{◌≡◌, ℕ, ◌<◌, ◌&&◌, ◌==◌, not, nat_lt, Bool, false, length, Option}
use Rattle.std.proofs.Common.{refl, sym, ap, subst, ◌∙◌, arith}
use Rattle.plane_spec.specs.declared.Point.{Point}
use Rattle.plan_spec.specs.declared.edit.Changed.{Changed}
use Rattle.plan_spec.specs.declared.edit.Edit.{Edit}
use Rattle.plan_spec.specs.declared.item.GridSpec.{GridSpec}
use Rattle.plan_spec.specs.Plan.{Plan}
use Rattle.plan_spec.specs.Grid.{grid_points, point_of_number}
use Rattle.plan_spec.specs.Ranges.{AreBoxesInRange}
use Rattle.plan_spec.specs.Edits.{IsEditBetween, changed_boxes, plan_after_edit}
use Rattle.plan_laws.proofs.Boxes.{edit_boxes_in_range}
use Rattle.sight_spec.specs.Dirty.{is_dirty_pair, is_dirty_row}
use Rattle.sight_spec.specs.Scene.{scene_of}
use Rattle.sight_spec.specs.Sight.{are_in_sight, is_open}
use Rattle.sight_spec.specs.Visibility.{visibility_graph}
use Rattle.dirty_laws.proofs.Sight.{sight_kept}
use Rattle.dirty_laws.proofs.Openness.{first_openness_kept, second_openness_kept}
use Rattle.dirty_laws.proofs.Rows.{grid_kept}
use Rattle.vga_grid.specs.Rows.{graph_of, Matrix}
use Rattle.vga_fill.specs.declared.events.Task.{Task}
use Rattle.vga_fill.specs.declared.events.View.{View}
use Rattle.vga_fill.specs.Graphs.{is_edge_of, is_to_join, was_joined}
use Rattle.vga_fill.specs.DoneRows.{IsDone}
use Rattle.vga_fill.specs.Sights.{AreBoxesOf}
use Rattle.vga_fill.proofs.DirtyRows.{none_dirty}

pub boxes_in_range : (before after : Plan) (boxes : Changed) → IsEditBetween before after boxes → AreBoxesInRange boxes
boxes_in_range before after boxes between =
    subst AreBoxesInRange (sym between.has) (edit_boxes_in_range before between.edit between.sound between.valid)

-- the points of a pair on a grid
abbrev clean_on : Option GridSpec → Changed → ℕ → ℕ → Type 0
clean_on grid boxes i j = is_dirty_pair boxes (point_of_number grid i) (point_of_number grid j) ≡ false

-- a pair that isn't dirty is an edge after the edit where it was one before
edge_kept : (plan : Plan) (edit : Edit) (i j : ℕ) → clean_on plan.grid (changed_boxes plan edit) i j
    → (visibility_graph plan).joins i j ≡ (visibility_graph (plan_after_edit plan edit)).joins i j
edge_kept plan edit i j clean =
    let after : Plan = plan_after_edit plan edit in
    let p : Point = point_of_number plan.grid i in
    let q : Point = point_of_number plan.grid j in
    let grid : after.grid ≡ plan.grid = grid_kept plan edit in
    let first : is_open after p ≡ is_open plan p = first_openness_kept plan edit p q clean in
    let second : is_open after q ≡ is_open plan q = second_openness_kept plan edit p q clean in
    let seen : are_in_sight (scene_of after) p q ≡ are_in_sight (scene_of plan) p q = sight_kept plan edit p q clean in
    let tests : Option GridSpec → Bool = λ g. ((nat_lt i (length (grid_points g)) && nat_lt j (length (grid_points g))) && not (i == j))
    && ((is_open after (point_of_number g i) && is_open after (point_of_number g j))
    && are_in_sight (scene_of after) (point_of_number g i) (point_of_number g j)) in
    let same : tests plan.grid ≡ (visibility_graph plan).joins i j = rw (first, second, seen) refl in
    sym same ∙ sym (ap tests grid)

module _ (k : Task) (before after : Plan) (boxes : Changed) where
  -- the boxes of an edit are those of the fill that works it
  pub boxes_of_edit : graph_of k.old.value ≡ visibility_graph before → k.after.value ≡ after → IsEditBetween before after boxes → AreBoxesOf k boxes
  unfolding is_edge_of
  boxes_of_edit old new between = record {
    in_range = boxes_in_range before after boxes between;
    kept = λ i j above below clean.
        let after_is : k.after.value ≡ plan_after_edit before between.edit = new ∙ between.makes in
        let grid : k.after.value.grid ≡ before.grid = ap (λ p. p.grid) after_is ∙ grid_kept before between.edit in
        let here : clean_on before.grid (changed_boxes before between.edit) i j
        = subst (λ b. clean_on before.grid b i j) between.has (subst (λ g. clean_on g boxes i j) grid clean) in
        ap (λ g. g.joins i j) old ∙ (edge_kept before between.edit i j here ∙ ap (λ p. (visibility_graph p).joins i j) (sym after_is));
  }

-- a row that isn't dirty is done before it is begun
pub clean_row : (k : Task) (boxes : Changed) (n : ℕ) (v : View) (row : ℕ) → AreBoxesOf k boxes → n ≡ k.count → length (grid_points k.after.value.grid) ≡ n
    → row < n → is_dirty_row boxes (grid_points k.after.value.grid) row ≡ false → IsDone (was_joined k) (is_to_join k) n v row
clean_row k boxes n v row of count points within clean j above below differ =
    let here = none_dirty boxes (grid_points k.after.value.grid) row (omega (arith, within, points)) clean j above (omega (arith, below, points)) in
    absurd (differ (of.kept row j above (omega (arith, below, count)) here))

-- the graph before an edit has as many nodes as the grid after it has points
pub same_count : (before after : Plan) (boxes : Changed) (m : Matrix) → IsEditBetween before after boxes → graph_of m ≡ visibility_graph before
    → m.count ≡ length (grid_points after.grid)
same_count before after boxes m between graph =
    ap (λ g. g.count) graph
    ∙ ap (λ g. length (grid_points g)) (sym (ap (λ p. p.grid) between.makes ∙ grid_kept before between.edit))
