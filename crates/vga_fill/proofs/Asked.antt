-- What a look tells of a pair is whether it is an edge.
use Rattle.std.specs.Prelude.{◌≡◌, ℕ, ◌<◌, ◌&&◌, All, Bool, false, List, [], get_or, length, map, slice_index_or}
use Rattle.std.proofs.Common.{refl, sym, ap, ◌∙◌, arith}
use Rattle.std.proofs.lemmas.Bool.{lt-ltb}
use Rattle.std.proofs.lemmas.List.{get_or-map}
use Rattle.std.proofs.lemmas.List.FromFn.{get_or-map-range_with_len}
use Rattle.plan_spec.specs.Plan.{Plan}
use Rattle.plan_spec.specs.Grid.{grid_points}
use Rattle.vga_grid.specs.Openness.{is_number_open, openness_of}
use Rattle.vga_grid.proofs.Covered.{are_joined, visible_is}
use Rattle.vga_looks.specs.Tables.{IsLaterIn, OpenPoints, grid_table_of, is_seen_later, seen_later}
use Rattle.vga_fill.specs.Graphs.{is_edge_of}
use Rattle.vga_fill.specs.DirtyNumbers.{AreSeen}
use Rattle.vga_fill.specs.Sights.{IsLook}

-- the points that were made ready are those of the plan
pub open_flags : (plan : Plan) (points : OpenPoints) (other : Plan) → plan ≡ other → points ≡ grid_table_of other
    → points.are_open ≡ openness_of plan (length (grid_points plan.grid))
open_flags plan points other same is = ap (λ g. g.are_open) (is ∙ ap grid_table_of (sym same))

module _ (plan : Plan) (flags : List Bool) (tested : flags ≡ openness_of plan (length (grid_points plan.grid))) where
  -- a flag tells whether its point is open
  pub flag_is : (k : ℕ) → k < length (grid_points plan.grid) → slice_index_or flags k false ≡ is_number_open plan k
  flag_is k below =
      rw tested (get_or-map-range_with_len (is_number_open plan) 0 (length (grid_points plan.grid)) k k false below (omega arith))

  -- a closed point sees none: no answers are those of a look from it
  pub closed_look : (row : ℕ) → slice_index_or flags row false ≡ false → IsLook plan row []
  unfolding is_edge_of
  closed_look row shut j rises below = visible_is plan flags row j false tested rises below (rw shut refl)

-- the later points that a point sees are told by its row
pub seen_look : (plan : Plan) (row : ℕ) (seen : List Bool) → seen ≡ seen_later plan row (length (grid_points plan.grid)) → IsLook plan row seen
unfolding is_edge_of
seen_look plan row seen is j rises below =
    rw is (get_or-map-range_with_len (is_seen_later plan row) 0 (length (grid_points plan.grid)) j j false below (omega arith)
    ∙ ap (λ t. t && are_joined plan row j) (lt-ltb row j rises))

-- and those of some later points by a look at these alone
pub seen_some : (plan : Plan) (row : ℕ) (numbers : List ℕ) (seen : List Bool) → All (IsLaterIn plan row) numbers
    → seen ≡ map (is_seen_later plan row) numbers → AreSeen plan row numbers seen
unfolding is_edge_of
seen_some plan row numbers seen later is k below =
    rw is (get_or-map (is_seen_later plan row) numbers k 0 false below
    ∙ ap (λ t. t && are_joined plan row (get_or numbers k 0)) (lt-ltb row (get_or numbers k 0) (later k 0 below).0))

-- a closed point sees none of them
pub closed_some : (plan : Plan) (flags : List Bool) → flags ≡ openness_of plan (length (grid_points plan.grid)) → (row : ℕ) (numbers : List ℕ)
    → All (IsLaterIn plan row) numbers → slice_index_or flags row false ≡ false → AreSeen plan row numbers []
closed_some plan flags tested row numbers later shut k below =
    let here = later k 0 below in closed_look plan flags tested row shut (get_or numbers k 0) here.0 here.1
