-- What a trial counts: sums over the open points of a plan.
use Rattle.std.proofs.Common.{◌≡◌, ◌∙◌, ◌+◌, ◌-◌, ◌*◌, ◌<◌, ◌≤◌, ℕ, Bool, true, false, List, [], ◌∷◌, arith, ap, cond, filter, get_or, length, map, refl, sym, take, Result, Ok, Err, IfOk, Some, None}
use Rattle.std.specs.List.{All, enumerate_from, sum_by}
use Rattle.std.proofs.lemmas.List.Elements.{All-map}
use Rattle.std.proofs.lemmas.List.FromFn.{length-enumerate_from}
use Rattle.std.proofs.lemmas.List.Sums.{count_by-le-length, length-filter, sum_by-cons, sum_by_more}
use Rattle.std.proofs.Math.Nat.{mul-le-mul}
use Rattle.plane_spec.specs.declared.Point.{Point}
use Rattle.plan_spec.specs.Plan.{Plan}
use Rattle.plan_spec.specs.Grid.{grid_points}
use Rattle.graph_spec.specs.Graphs.{Graph, Measures, depths_of, measures_of, measures_of_nodes, no_measures, nodes, total_depth}
use Rattle.sight_spec.specs.Sight.{is_open}
use Rattle.sight_spec.specs.Visibility.{open_points, visibility_graph}
use Rattle.report_spec.specs.Trial.{total_from, total_of_depths, trial_record, trial_record_of}
use Rattle.plan_answers.specs.declared.trials.TrialCounts.{TrialCounts}
use Rattle.graph_laws.proofs.Bounds.{measures_are_listed, total_at_most}

-- no more points are open than there are
pub open_at_most : (plan : Plan) → length (open_points plan) ≤ length (grid_points plan.grid)
open_at_most plan =
    let points : List (ℕ × Point) = enumerate_from 0 (grid_points plan.grid) in
    let keep : ℕ × Point → Bool = λ e. is_open plan e.1 in
    omega (arith, length-filter keep points, count_by-le-length keep points, length-enumerate_from 0 (grid_points plan.grid))

-- totals in a graph of few nodes
pub totals_small : (graph : Graph) → graph.count ≤ 4096 → All (λ m. m.total ≤ 16777216) (measures_of_nodes graph)
totals_small graph few =
    All-map (λ m. m.total ≤ 16777216) (measures_of graph) (nodes graph) (λ k d below. small (get_or (nodes graph) k d))
  where
    small : (i : ℕ) → (measures_of graph i).total ≤ 16777216
    small i =
        let less : graph.count - 1 ≤ 4096 = omega arith in
        omega (arith, total_at_most graph i, mul-le-mul less less)

-- sums of equal numbers over some of the points
same_sum : (f h : ℕ × Point → ℕ) (keep : ℕ × Point → Bool) (n k : ℕ) (xs : List Point) → k + length xs ≤ n
    → ((i : ℕ) (p : Point) → i < n → f (i, p) ≡ h (i, p))
    → sum_by f (filter keep (enumerate_from k xs)) ≡ sum_by h (filter keep (enumerate_from k xs))
same_sum f h keep n k [] few same = refl
same_sum f h keep n k (x ∷ xs) few same =
    by (keep (k, x)) (same k x (omega (arith, few))) (same_sum f h keep n (k + 1) xs (omega (arith, few)) same)
  where
    rest : List (ℕ × Point)
    rest = filter keep (enumerate_from (k + 1) xs)

    by : (t : Bool) → f (k, x) ≡ h (k, x) → sum_by f rest ≡ sum_by h rest
        → sum_by f (cond t ((k, x) ∷ rest) rest) ≡ sum_by h (cond t ((k, x) ∷ rest) rest)
    by true e ih =
        sum_by-cons f (k, x) rest ∙ ap (λ m. m + sum_by f rest) e ∙ ap (λ m. h (k, x) + m) ih
        ∙ sym (sum_by-cons h (k, x) rest)
    by false e ih = ih

total_is : (graph : Graph) (i : ℕ) → (measures_of graph i).total ≡ total_depth (depths_of graph i)
unfolding measures_of
total_is graph i = refl

-- the totals that stand at the numbers of the open points are sums of depths
pub totals_are_depths : (plan : Plan)
    → sum_by (λ e. (get_or (measures_of_nodes (visibility_graph plan)) e.0 no_measures).total) (open_points plan)
    ≡ total_of_depths plan
totals_are_depths plan =
    let graph : Graph = visibility_graph plan in
    same_sum (λ e. (get_or (measures_of_nodes (visibility_graph plan)) e.0 no_measures).total)
    (total_from (visibility_graph plan)) (λ e. is_open plan e.1) (length (grid_points plan.grid)) 0
    (grid_points plan.grid) (omega arith)
    (λ i p below. ap (λ (m : Measures). m.total) (measures_are_listed (visibility_graph plan) i below)
    ∙ total_is (visibility_graph plan) i)

-- the same numbers make the same record
pub same_record : (boxes a b c d e f g h : ℕ) → a ≡ b → c ≡ d → e ≡ f → g ≡ h
    → trial_record boxes a c e g ≡ trial_record boxes b d f h
same_record boxes a b c d e f g h one two three four =
    ap (λ n. trial_record boxes n c e g) one ∙ ap (λ n. trial_record boxes b n e g) two
    ∙ ap (λ n. trial_record boxes b d n g) three ∙ ap (λ n. trial_record boxes b d f n) four

pub depth_sum : (plan : Plan) (graph : Graph) (points : List (ℕ × Point)) (measures : List Measures)
    → graph ≡ visibility_graph plan → points ≡ open_points plan → measures ≡ measures_of_nodes graph
    → sum_by (λ e. (get_or measures e.0 no_measures).total) points ≡ total_of_depths plan
depth_sum plan graph points measures e p m =
    ap (λ ms. sum_by (λ (e : ℕ × Point). (get_or ms e.0 no_measures).total) points) (m ∙ ap measures_of_nodes e)
    ∙ ap (λ ps. sum_by (λ (e : ℕ × Point). (get_or (measures_of_nodes (visibility_graph plan)) e.0 no_measures).total) ps) p
    ∙ totals_are_depths plan

-- one more total
pub one_more : (measures : List Measures) (points : List (ℕ × Point)) (i sum total : ℕ) (d : ℕ × Point)
    → i < length points → sum ≡ sum_by (λ e. (get_or measures e.0 no_measures).total) (take i points)
    → total ≡ (get_or measures (get_or points i d).0 no_measures).total
    → sum + total ≡ sum_by (λ e. (get_or measures e.0 no_measures).total) (take (i + 1) points)
one_more measures points i sum total d below s t =
    ap (λ n. n + total) s
    ∙ ap (λ n. sum_by (λ (e : ℕ × Point). (get_or measures e.0 no_measures).total) (take i points) + n) t
    ∙ sym (sum_by_more (λ (e : ℕ × Point). (get_or measures e.0 no_measures).total) points i d below)

-- what is counted of a plan makes the record of the trial of each number
pub counted : {E : Type 0} (result : Result TrialCounts E) (boxes : ℕ) (plan other : Plan) → plan ≡ other
    → IfOk result (λ found. (n : ℕ) → trial_record n found.points found.open_points found.edges found.depth ≡ trial_record_of n plan)
    → IfOk result (λ found. trial_record boxes found.points found.open_points found.edges found.depth ≡ trial_record_of boxes other)
counted (Ok found) boxes plan other e h = h boxes ∙ ap (trial_record_of boxes) e
counted (Err fault) boxes plan other e h = tt
