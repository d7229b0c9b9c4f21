-- The ends of pieces by the parts of their coordinates.
use Rattle.std.specs.Prelude.{◌≡◌, ◌≢◌, ◌<◌, ◌≤◌, true, false, pos, length, get_or, ℕ, ◌+◌, ◌*◌, Bool, ◌&&◌, List, [], ◌∷◌}
use Rattle.std.specs.Ordering.{int_eq}
use Rattle.std.specs.List.{flat_map, enumerate_from}
use Rattle.plane_spec.specs.Fractions.{RPoint}
use Rattle.route_spec.specs.Routes.{Piece}
use Rattle.segment_core.specs.declared.ends.End.{End}
use Rattle.segment_core.specs.declared.limits.TheConstants.{MAX_STEPS}

-- the end at a point, with the number of the step that leads from it
abbrev pub end_of : RPoint → ℕ → End
end_of p step = record { x_num = p.x.num; x_den = p.x.den; y_num = p.y.num; y_den = p.y.den; step = step }

-- the same parts: in lowest terms, the same point
abbrev pub is_one_point : End → End → Bool
is_one_point a b =
    (int_eq a.x_num b.x_num && int_eq a.x_den b.x_den) && (int_eq a.y_num b.y_num && int_eq a.y_den b.y_den)

-- the two ends of a numbered piece
abbrev pub both_ends : ℕ × Piece → List End
both_ends e = end_of e.1.to (2 * e.0) ∷ end_of e.1.from (2 * e.0 + 1) ∷ []

-- the ends in the order of the steps that lead from them
abbrev pub ends_of : List Piece → List End
ends_of pieces = flat_map both_ends (enumerate_from 0 pieces)

-- stands for ends that aren't there
abbrev pub no_end : End
no_end = record { x_num = pos 0; x_den = pos 0; y_num = pos 0; y_den = pos 0; step = 0 }

-- the end at a position
abbrev pub end_at : List End → ℕ → End
end_at ends j = get_or ends j no_end

-- the node that was given to the step of the end at a position
abbrev pub node_of_end : List End → List ℕ → ℕ → ℕ
node_of_end ends tails j = get_or tails (end_at ends j).step 0

-- ends in order by their parts: their steps differ, and ends of one point have only ends of that point between them
pub record AreSortedEnds (ends : List End) (count : ℕ) : Type 0 where
  pub at_most : length ends ≤ MAX_STEPS
  pub inside : (j : ℕ) → j < length ends → (end_at ends j).step < count
  pub apart : (i j : ℕ) → i < j → j < length ends → (end_at ends i).step ≢ (end_at ends j).step
  pub between : (i j : ℕ) → i ≤ j → j + 1 < length ends → is_one_point (end_at ends i) (end_at ends (j + 1)) ≡ true
      → is_one_point (end_at ends j) (end_at ends (j + 1)) ≡ true

-- one node for one point, for the ends before a number
pub record AreNumbered (ends : List End) (tails : List ℕ) (node at : ℕ) : Type 0 where
  pub low : node ≤ at
  pub assigned : (j : ℕ) → j < at → node_of_end ends tails j ≤ node
  pub last : (j : ℕ) → j + 1 ≡ at → node_of_end ends tails j ≡ node
  pub alike : (i j : ℕ) → i < j → j < at → is_one_point (end_at ends i) (end_at ends j) ≡ true
      → node_of_end ends tails i ≡ node_of_end ends tails j
  pub unlike : (i j : ℕ) → i < j → j < at → is_one_point (end_at ends i) (end_at ends j) ≡ false
      → node_of_end ends tails i < node_of_end ends tails j
