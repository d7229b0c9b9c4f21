-- The parity of the winding is what inside is counted by.
--
-- An edge that passes to the right counts 1 upwards and -1 downwards, so the sum and the count differ by twice the
-- number of those that pass downwards. So a winding of 0 is an even count, and one of 1 or -1 an odd one.
use Rattle.std.specs.Prelude.{Bool, false, true, int_le, int_lt, ◌&&◌, if◌then◌else◌, List, count_by, [], ◌∷◌, not}
use Rattle.std.proofs.Common.{pos, ℕ, ℤ, ◌≡◌, ◌+◌, ◌+ℤ◌, neg_ℤ, refl, arith, ◌%◌, ◌==◌, inl, inr, ◌⊎◌, ◌-ℤ◌}
use Rattle.std.proofs.lemmas.Grind.{common_steps}
use Rattle.std.proofs.lemmas.Int.{ints}
use Rattle.std.proofs.lemmas.List.Sums.{sum_by-cons}
use Rattle.plane_spec.specs.declared.Point.{Point}
use Rattle.plane_spec.specs.declared.Segment.{Segment}
use Rattle.plane_spec.specs.Vectors.{orient_of}
use Rattle.plane_spec.specs.Polygons.{passes_right, edges_of, is_inside, is_on_border}
use Rattle.winding_laws.specs.Windings.{wind, winding}

-- ---- parity

-- what the winding leaves out of the number of edges that pass to the right is even
record HasParity (count : ℕ) (w : ℤ) : Type 0 where
  half : ℤ
  is : pos count ≡ w +ℤ (half +ℤ half)

-- an edge that passes adds 1 or -1, and another adds nothing
pub data Adds (passes : Bool) (w : ℤ) : Type 0 where
  up : passes ≡ true → w ≡ pos 1 → Adds passes w
  down : passes ≡ true → w ≡ neg_ℤ (pos 1) → Adds passes w
  none : passes ≡ false → w ≡ pos 0 → Adds passes w

adds : (x : Point) (e : Segment) → Adds (passes_right x e) (wind x e)
unfolding passes_right wind
adds x e =
    by_cases (int_le e.a.y x.y) (int_lt x.y e.b.y && int_lt (pos 0) (orient_of e.a e.b x))
    (int_le e.b.y x.y && int_lt (orient_of e.a e.b x) (pos 0))
  where
    by_cases : (s t u : Bool)
        → Adds (if s then t else u) (if s then (if t then pos 1 else pos 0) else (if u then neg_ℤ (pos 1) else pos 0))
    by_cases true true u = up refl refl
    by_cases true false u = none refl refl
    by_cases false t true = down refl refl
    by_cases false t false = none refl refl

parity : (x : Point) (edges : List Segment) → HasParity (count_by (passes_right x) edges) (winding x edges)
parity x [] = record { half = pos 0; is = refl }
parity x (e ∷ edges) = step (adds x e) (parity x edges)
  where
    counted : (t : Bool) → passes_right x e ≡ t
        → count_by (passes_right x) (e ∷ edges) ≡ (if t then 1 + count_by (passes_right x) edges
        else count_by (passes_right x) edges)
    counted true h = grind (arith, common_steps, sum_by-cons)
    counted false h = grind (arith, common_steps, sum_by-cons)

    step : Adds (passes_right x e) (wind x e) → HasParity (count_by (passes_right x) edges) (winding x edges)
        → HasParity (count_by (passes_right x) (e ∷ edges)) (wind x e +ℤ winding x edges)
    step (up h k) p =
        let c = counted true h in let i = p.is in record { half = p.half; is = omega (arith, ints, c, i, k) }
    step (down h k) p =
        let c = counted true h in let i = p.is in record { half = p.half +ℤ pos 1; is = omega (arith, ints, c, i, k) }
    step (none h k) p =
        let c = counted false h in let i = p.is in record { half = p.half; is = omega (arith, ints, c, i, k) }

even_by : (n : ℕ) (h : ℤ) → pos n ≡ h +ℤ h → (n % 2 == 1) ≡ false
even_by n h e = grind (arith, ints)

odd_by : (n : ℕ) (h : ℤ) → pos n ≡ pos 1 +ℤ (h +ℤ h) → (n % 2 == 1) ≡ true
odd_by n h e = grind (arith, ints)

pub even_where_none : (x : Point) (edges : List Segment) → winding x edges ≡ pos 0
    → (count_by (passes_right x) edges % 2 == 1) ≡ false
even_where_none x edges h =
    let p = parity x edges in let i = p.is in even_by (count_by (passes_right x) edges) p.half
    (omega (arith, ints, i, h))

pub odd_where_once : (x : Point) (edges : List Segment)
    → (winding x edges ≡ pos 1) ⊎ (winding x edges ≡ neg_ℤ (pos 1))
    → (count_by (passes_right x) edges % 2 == 1) ≡ true
odd_where_once x edges (inl h) =
    let p = parity x edges in let i = p.is in odd_by (count_by (passes_right x) edges) p.half
    (omega (arith, ints, i, h))
odd_where_once x edges (inr h) =
    let p = parity x edges in let i = p.is in odd_by (count_by (passes_right x) edges) (p.half -ℤ pos 1)
    (omega (arith, ints, i, h))

-- the edges that pass to the right are odd in number
abbrev pub is_odd : Point → List Segment → Bool
is_odd x edges = count_by (passes_right x) edges % 2 == 1

odd_alike : (n m : ℕ) (g h w : ℤ) → pos n ≡ w +ℤ (g +ℤ g) → pos m ≡ w +ℤ (h +ℤ h) → (n % 2 == 1) ≡ (m % 2 == 1)
odd_alike n m g h w e f =
    let k : pos n ≡ pos m +ℤ ((g -ℤ h) +ℤ (g -ℤ h)) = omega (arith, ints, e, f) in by_half n m (g -ℤ h) k
  where
    by_half : (n m : ℕ) (h : ℤ) → pos n ≡ pos m +ℤ (h +ℤ h) → (n % 2 == 1) ≡ (m % 2 == 1)
    by_half n m h e = grind (arith, ints)

-- equal windings, and opposite ones, have one parity
pub same_parity : (x y : Point) (edges others : List Segment) → winding x edges ≡ winding y others
    → is_odd x edges ≡ is_odd y others
same_parity x y edges others e =
    let p = parity x edges in let q = parity y others in let i = p.is in let j = q.is in
    odd_alike (count_by (passes_right x) edges) (count_by (passes_right y) others) p.half q.half (winding x edges) i
    (omega (arith, ints, j, e))

pub opposite_parity : (x y : Point) (edges others : List Segment) → winding x edges ≡ neg_ℤ (winding y others)
    → is_odd x edges ≡ is_odd y others
opposite_parity x y edges others e =
    let p = parity x edges in let q = parity y others in let i = p.is in let j = q.is in
    odd_alike (count_by (passes_right x) edges) (count_by (passes_right y) others) p.half (q.half +ℤ winding y others)
    (winding x edges) i (omega (arith, ints, j, e))

-- ---- the law

pub outside_where_none : (points : List Point) (x : Point) → winding x (edges_of points) ≡ pos 0
    → is_inside x points ≡ false
unfolding is_inside
outside_where_none points x h =
    by_tests (is_on_border x points) (is_odd x (edges_of points)) (even_where_none x (edges_of points) h)
  where
    by_tests : (s t : Bool) → t ≡ false → (not s && t) ≡ false
    by_tests true t e = refl
    by_tests false t e = e

pub inside_where_once : (points : List Point) (x : Point) → is_on_border x points ≡ false
    → (winding x (edges_of points) ≡ pos 1) ⊎ (winding x (edges_of points) ≡ neg_ℤ (pos 1)) → is_inside x points ≡ true
unfolding is_inside
inside_where_once points x off h =
    by_tests (is_on_border x points) (is_odd x (edges_of points)) off (odd_where_once x (edges_of points) h)
  where
    by_tests : (s t : Bool) → s ≡ false → t ≡ true → (not s && t) ≡ true
    by_tests s t e f = rw (e, f) refl
