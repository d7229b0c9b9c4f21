-- The starting points are nodes, and the visits have room.
use Rattle.std.proofs.Common.{◌≡◌, ℕ, zero, suc, ◌+◌, ◌*◌, ◌^◌, ◌<◌, ◌≤◌, List, [], ◌∷◌, All, length, map, take, refl, sym, ap, ◌∙◌, arith, subst}
use Rattle.std.specs.List.{filter, enumerate_from, sum}
use Rattle.std.proofs.lemmas.List.Elements.{All-nil, All-cons, All-filter, All-map}
use Rattle.plane_spec.specs.declared.Point.{Point}
use Rattle.plan_spec.specs.Plan.{Plan}
use Rattle.plan_spec.specs.Grid.{grid_points}
use Rattle.sight_spec.specs.Sight.{is_open}
use Rattle.sight_spec.specs.Visibility.{open_points}

-- numbers of elements are below how many there are
numbers_below : {X : Type 0} (k n : ℕ) (xs : List X) → k + length xs ≤ n → All (λ (e : ℕ × X). e.0 < n) (enumerate_from k xs)
numbers_below k n [] h = All-nil (λ e. e.0 < n)
numbers_below k n (x ∷ xs) h =
    All-cons (λ e. e.0 < n) (k, x) (enumerate_from (k + 1) xs) (omega (arith, h)) (numbers_below (k + 1) n xs (omega (arith, h)))

pub starts_below : (plan : Plan) → All (λ start. start < length (grid_points plan.grid)) (map (λ (e : ℕ × Point). e.0) (open_points plan))
starts_below plan =
    All-map (λ start. start < length (grid_points plan.grid)) (λ (e : ℕ × Point). e.0) (open_points plan)
    (All-filter (λ e. is_open plan e.1) (λ e. e.0 < length (grid_points plan.grid)) (enumerate_from 0 (grid_points plan.grid))
    (numbers_below 0 (length (grid_points plan.grid)) (grid_points plan.grid) (omega arith)))

-- a product of two numbers with bounds
product_at_most : (a b m : ℕ) → b ≤ m → a * b ≤ a * m
product_at_most zero b m h = omega arith
product_at_most (suc a) b m h =
    let p : suc a * b ≡ b + a * b = omega arith in
    let q : suc a * m ≡ m + a * m = omega arith in
    omega (arith, p, q, product_at_most a b m h, h)

pub sum_has_room : (total walkers steps : ℕ) → total ≡ walkers * (steps + 1) → walkers ≤ 1000 → steps ≤ 10000 → total < 2 ^ 64
sum_has_room total walkers steps e w s =
    omega (arith, e, product_at_most walkers (steps + 1) 10001 (omega (arith, s)), w)
