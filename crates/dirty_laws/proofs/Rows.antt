-- A row that isn't dirty keeps its edges.
--
-- The edges are the pairs of grid points that are open and see each other, in the order of their numbers. An edit
-- leaves
-- the grid as it is. A pair that isn't dirty is open and in sight after the edit exactly where it was before. In a
-- row
-- that isn't dirty no pair of its point with a later one is dirty; the pairs that begin at its number are those,
-- since in
-- the list of pairs each has the number of its first point. So the two tests, before and after, agree on all pairs
-- that
-- begin at this number, and let the same of them through.
use Rattle.std.specs.Prelude.{◌≡◌, ◌==◌, ◌+◌, ◌≤◌, ℕ, zero, suc, Bool, true, false, ◌||◌, List, [], ◌∷◌}
use Rattle.std.specs.Prelude.{map, filter, drop}
use Rattle.std.specs.List.{All, list_any, enumerate_from}
use Rattle.std.proofs.Common.{refl, sym, ap, subst, ◌∙◌, arith}
use Rattle.std.proofs.lemmas.Bool.{or_parts}
use Rattle.std.proofs.lemmas.List.Elements.{All-nil, All-cons, All-head, All-tail, All-append, All-weaker}
use Rattle.plane_spec.specs.declared.Point.{Point}
use Rattle.plane_spec.specs.Lists.{pairs, with_each, numbered_pairs}
use Rattle.plan_spec.specs.declared.edit.Changed.{Changed}
use Rattle.plan_spec.specs.declared.edit.Edit.{Edit}
use Rattle.plan_spec.specs.declared.edit.Edit.TheVariants.{Add, Remove, Move, AddScreen, RemoveScreen, AddRoute}
use Rattle.plan_spec.specs.declared.edit.Edit.TheVariants.{RemoveRoute}
use Rattle.plan_spec.specs.Plan.{Plan, with_item}
use Rattle.plan_spec.specs.Edits.{changed_boxes, plan_after_edit}
use Rattle.sight_spec.specs.Dirty.{is_dirty_pair, is_dirty_with, is_dirty_row}
use Rattle.sight_spec.specs.Scene.{scene_of}
use Rattle.plan_spec.specs.Grid.{grid_points}
use Rattle.sight_spec.specs.Visibility.{is_visible_pair, numbers_of_pair, visibility_edges}
use Rattle.dirty_laws.specs.Rows.{begins_at, is_edge}
use Rattle.dirty_laws.proofs.Sight.{sight_kept}
use Rattle.dirty_laws.proofs.Openness.{first_openness_kept, second_openness_kept}

-- two numbered points
abbrev pub Pair : Type 0
Pair = (ℕ × Point) × (ℕ × Point)

-- ---- pairs of a list, by their first numbers

-- the first number of the pair is at least k
abbrev IsFrom : ℕ → Pair → Type 0
IsFrom k e = k ≤ e.0.0

-- it holds of the pair where the pair's first number is i
abbrev OfRow : ℕ → (Pair → Type 0) → Pair → Type 0
OfRow i P e = e.0.0 ≡ i → P e

-- a number above i isn't i
not_this : (P : Type 0) (n i : ℕ) → i + 1 ≤ n → n ≡ i → P
not_this P n i h e = absurd (omega arith)

-- what holds of a point with each of the others holds of its row of pairs
paired_with : (P : Pair → Type 0) (k n : ℕ) (p : Point) (points : List Point)
    → All (λ q. (j : ℕ) → P ((k, p), (j, q))) points → All P (map (with_each (k, p)) (enumerate_from n points))
paired_with P k n p [] all = All-nil P
paired_with P k n p (q ∷ points) all =
    All-cons P ((k, p), (n, q)) (map (with_each (k, p)) (enumerate_from (n + 1) points))
    (All-head (λ q. (j : ℕ) → P ((k, p), (j, q))) q points all n)
    (paired_with P k (n + 1) p points (All-tail (λ q. (j : ℕ) → P ((k, p), (j, q))) q points all))

-- what holds of everything holds of all elements
all_of : {X : Type 0} (P : X → Type 0) → ((x : X) → P x) → (xs : List X) → All P xs
all_of P f [] = All-nil P
all_of P f (x ∷ xs) = All-cons P x xs (f x) (all_of P f xs)

-- pairs of points that are numbered from n on
pairs_from : (k n : ℕ) (points : List Point) → k ≤ n → All (IsFrom k) (pairs (enumerate_from n points))
pairs_from k n [] h = All-nil (IsFrom k)
pairs_from k n (p ∷ points) h =
    All-append (IsFrom k) (map (with_each (n, p)) (enumerate_from (n + 1) points))
    (pairs (enumerate_from (n + 1) points))
    (paired_with (IsFrom k) n (n + 1) p points (all_of (λ q. (j : ℕ) → k ≤ n) (λ q j. h) points))
    (pairs_from k (n + 1) points (omega arith))

-- none of the pairs of a point is dirty
none_met : (boxes : Changed) (p : Point) (points : List Point) → list_any (is_dirty_pair boxes p) points ≡ false
    → All (λ q. is_dirty_pair boxes p q ≡ false) points
none_met boxes p [] h = All-nil _
none_met boxes p (q ∷ points) h =
    let parts = or_parts (is_dirty_pair boxes p q) (list_any (is_dirty_pair boxes p) points) h in
    All-cons (λ q. is_dirty_pair boxes p q ≡ false) q points parts.0 (none_met boxes p points parts.1)

-- what holds of all pairs that aren't dirty holds of the pairs of a row that isn't: the row m of points from k on
row_holds : (boxes : Changed) (P : Pair → Type 0) → ((e : Pair) → is_dirty_pair boxes e.0.1 e.1.1 ≡ false → P e)
    → (k m : ℕ) (points : List Point)
    → is_dirty_with boxes (drop m points) ≡ false → All (OfRow (k + m) P) (pairs (enumerate_from k points))
row_holds boxes P holds k m [] h = All-nil (OfRow (k + m) P)
row_holds boxes P holds k zero (p ∷ points) h =
    All-append (OfRow (k + 0) P) (map (with_each (k, p)) (enumerate_from (k + 1) points))
    (pairs (enumerate_from (k + 1) points))
    (paired_with (OfRow (k + 0) P) k (k + 1) p points
    (All-weaker (λ q. is_dirty_pair boxes p q ≡ false) (λ q. (j : ℕ) → OfRow (k + 0) P ((k, p), (j, q)))
    (λ q clean j e. holds ((k, p), (j, q)) clean) points (none_met boxes p points h)))
    (All-weaker (IsFrom (k + 1)) (OfRow (k + 0) P) (λ e from here. not_this (P e) e.0.0 k from (here ∙ plain k))
    (pairs (enumerate_from (k + 1) points)) (pairs_from (k + 1) (k + 1) points (omega arith)))
  where
    plain : (k : ℕ) → k + 0 ≡ k
    plain k = omega arith
row_holds boxes P holds k (suc m) (p ∷ points) h =
    All-append (OfRow (k + suc m) P) (map (with_each (k, p)) (enumerate_from (k + 1) points))
    (pairs (enumerate_from (k + 1) points))
    (paired_with (OfRow (k + suc m) P) k (k + 1) p points
    (all_of (λ q. (j : ℕ) → OfRow (k + suc m) P ((k, p), (j, q)))
    (λ q j here. other k m (P ((k, p), (j, q))) here) points))
    (All-weaker (OfRow (k + 1 + m) P) (OfRow (k + suc m) P) (λ e f here. f (here ∙ step k m))
    (pairs (enumerate_from (k + 1) points)) (row_holds boxes P holds (k + 1) m points h))
  where
    step : (k m : ℕ) → k + suc m ≡ k + 1 + m
    step k m = omega arith

    other : (k m : ℕ) (Q : Type 0) → k ≡ k + suc m → Q
    other k m Q e = absurd (omega arith)

-- the same of points that are numbered from 0 on
row_holds_from_first : (boxes : Changed) (P : Pair → Type 0)
    → ((e : Pair) → is_dirty_pair boxes e.0.1 e.1.1 ≡ false → P e) → (i : ℕ) (points : List Point)
    → is_dirty_row boxes points i ≡ false → All (OfRow i P) (numbered_pairs points)
row_holds_from_first boxes P holds i points h =
    subst (λ n. All (OfRow n P) (numbered_pairs points)) (plain i) (row_holds boxes P holds 0 i points h)
  where
    plain : (i : ℕ) → 0 + i ≡ i
    plain i = omega arith

-- ---- edges

-- two tests that agree on a row's pairs let the same of them through
row_agrees : (i : ℕ) (new old : Pair → Bool) (es : List Pair) → All (OfRow i (λ e. new e ≡ old e)) es
    → filter (begins_at i) (map numbers_of_pair (filter new es)) ≡ filter (begins_at i)
    (map numbers_of_pair (filter old es))
row_agrees i new old [] all = refl
row_agrees i new old (e ∷ es) all =
    by (new e) (old e) (e.0.0 == i) refl refl refl (λ h. All-head (OfRow i (λ e. new e ≡ old e)) e es all (same h))
    (row_agrees i new old es (All-tail (OfRow i (λ e. new e ≡ old e)) e es all))
  where
    same : (e.0.0 == i) ≡ true → e.0.0 ≡ i
    same h = grind arith

    clash : true ≡ false → ⊥
    clash h = cc

    by : (s t u : Bool) → new e ≡ s → old e ≡ t → (e.0.0 == i) ≡ u → ((e.0.0 == i) ≡ true → new e ≡ old e)
        → filter (begins_at i) (map numbers_of_pair (filter new es)) ≡ filter (begins_at i)
        (map numbers_of_pair (filter old es))
        → filter (begins_at i) (map numbers_of_pair (filter new (e ∷ es))) ≡ filter (begins_at i)
        (map numbers_of_pair (filter old (e ∷ es)))
    by true true true f g h k ih = rw (f, g, h) (ap (λ r. numbers_of_pair e ∷ r) ih)
    by true true false f g h k ih = rw (f, g, h) ih
    by true false true f g h k ih = absurd (clash (sym f ∙ k h ∙ g))
    by true false false f g h k ih = rw (f, g, h) ih
    by false true true f g h k ih = absurd (clash (sym g ∙ sym (k h) ∙ f))
    by false true false f g h k ih = rw (f, g, h) ih
    by false false u f g h k ih = rw (f, g) ih

-- an edit leaves the grid as it is
pub grid_kept : (plan : Plan) (edit : Edit) → (plan_after_edit plan edit).grid ≡ plan.grid
unfolding plan_after_edit with_item
grid_kept plan (Add name points) = refl
grid_kept plan (Remove name) = refl
grid_kept plan (Move name dx dy) = refl
grid_kept plan (AddScreen name from to) = refl
grid_kept plan (RemoveScreen name) = refl
grid_kept plan (AddRoute name from to) = refl
grid_kept plan (RemoveRoute name) = refl

-- a pair that isn't dirty is visible after the edit exactly where it was before
visible_kept : (plan : Plan) (edit : Edit) (e : Pair) → is_dirty_pair (changed_boxes plan edit) e.0.1 e.1.1 ≡ false
    → is_visible_pair (plan_after_edit plan edit) (scene_of (plan_after_edit plan edit)) e ≡ is_visible_pair plan (scene_of plan) e
visible_kept plan edit e h =
    rw (
      first_openness_kept plan edit e.0.1 e.1.1 h,
      second_openness_kept plan edit e.0.1 e.1.1 h,
      sight_kept plan edit e.0.1 e.1.1 h,
    ) refl

-- the edges that begin at a row's number are one list before and after
pub row_kept : (plan : Plan) (edit : Edit) (i : ℕ)
    → is_dirty_row (changed_boxes plan edit) (grid_points plan.grid) i ≡ false
    → filter (begins_at i) (visibility_edges (plan_after_edit plan edit)) ≡ filter (begins_at i) (visibility_edges plan)
unfolding visibility_edges
row_kept plan edit i h =
    ap (λ grid. filter (begins_at i)
    (map numbers_of_pair (filter (is_visible_pair (plan_after_edit plan edit) (scene_of (plan_after_edit plan edit)))
    (numbered_pairs (grid_points grid))))) (grid_kept plan edit)
    ∙ row_agrees i (is_visible_pair (plan_after_edit plan edit) (scene_of (plan_after_edit plan edit)))
    (is_visible_pair plan (scene_of plan)) (numbered_pairs (grid_points plan.grid))
    (row_holds_from_first (changed_boxes plan edit)
    (λ e. is_visible_pair (plan_after_edit plan edit) (scene_of (plan_after_edit plan edit)) e ≡ is_visible_pair plan
    (scene_of plan) e) (visible_kept plan edit) i (grid_points plan.grid) h)

-- one pair of the row: it is an edge after the edit exactly where it was before
pub edge_kept : (plan : Plan) (edit : Edit) (i j : ℕ)
    → is_dirty_row (changed_boxes plan edit) (grid_points plan.grid) i ≡ false
    → is_edge (visibility_edges (plan_after_edit plan edit)) i j ≡ is_edge (visibility_edges plan) i j
edge_kept plan edit i j h =
    found (visibility_edges (plan_after_edit plan edit))
    ∙ ap (list_any (λ e. e.1 == j)) (row_kept plan edit i h)
    ∙ sym (found (visibility_edges plan))
  where
    found : (es : List (ℕ × ℕ)) → is_edge es i j ≡ list_any (λ e. e.1 == j) (filter (begins_at i) es)
    found [] = refl
    found (e ∷ es) = by (e.0 == i) refl (found es)
      where
        by : (t : Bool) → (e.0 == i) ≡ t → is_edge es i j ≡ list_any (λ e. e.1 == j) (filter (begins_at i) es)
            → is_edge (e ∷ es) i j ≡ list_any (λ e. e.1 == j) (filter (begins_at i) (e ∷ es))
        by true f ih = rw f (ap (λ t. (e.1 == j) || t) ih)
        by false f ih = rw f ih
