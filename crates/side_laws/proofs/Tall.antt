-- A simple polygon has an edge that isn't level.
use Rattle.std.specs.Prelude.{List, length, ◌∷◌, [], Bool, not, false, true}
use Rattle.std.specs.Ordering.{int_eq}
use Rattle.std.specs.List.{list_any}
use Rattle.std.proofs.Common.{pos, ℤ, ◌-ℤ◌, ◌*ℤ◌, ◌<ℤ◌, ap, arith, ◌≡◌, ◌∙◌, inl, inr, subst, suc, zero, ℕ, ◌⊎◌}
use Rattle.std.proofs.Common.{◌+◌, refl}
use Rattle.std.proofs.lemmas.Int.{ints}
use Rattle.int_laws.proofs.Ring.{zero_times, crossed, minus_times}
use Rattle.int_laws.proofs.Signs.{positive_factor, positive_product}
use Rattle.int_laws.proofs.Tests.{equal_tested, tested_equal}
use Rattle.plane_spec.specs.declared.Segment.{Segment}
use Rattle.plane_spec.specs.declared.Point.{Point}
use Rattle.plane_spec.specs.Vectors.{cross_of, vector}
use Rattle.plane_spec.specs.Polygons.{edges_of, edges_to}
use Rattle.plane_laws.proofs.Lists.Members.{IsIn, each_fails, found}
use Rattle.plane_laws.proofs.Lists.Numbers.{without_number, number_of, one_edge}
use Rattle.plane_laws.proofs.Tests.{clash}
use Rattle.plane_laws.proofs.Points.Directions.{some_square}
use Rattle.winding_laws.proofs.Closed.{rises_along, polygon_closes}
use Rattle.side_laws.proofs.Neighbours.{IsNumbered, before_edge, starts}
use Rattle.side_laws.proofs.Simple.{IsSimple, corner_of, real, true_if_not}
use Rattle.side_laws.proofs.Sides.{wall}

-- ---- an edge that isn't level

-- edges that lead the same way along the level as c
abbrev LeadsWith : ℤ → Segment → Type 0
LeadsWith c e = pos 0 <ℤ ((e.b.x -ℤ e.a.x) *ℤ c)

flat_cross : (a b d : Point) → a.y ≡ b.y → cross_of (vector a b) d ≡ (b.x -ℤ a.x) *ℤ d.y
flat_cross a b d level =
    let z : b.y -ℤ a.y ≡ pos 0 = omega (arith, ints, level) in
    let e = ap (λ t. t *ℤ d.x) z ∙ zero_times d.x in
    omega (arith, ints, e)

leads_on : (c x y h : ℤ) → pos 0 <ℤ (x *ℤ h) → pos 0 <ℤ (y *ℤ h) → pos 0 <ℤ (x *ℤ c) → pos 0 <ℤ (y *ℤ c)
leads_on c x y h xh yh xc =
    let p = positive_product (y *ℤ h) (x *ℤ c) yh xc in
    let e : (y *ℤ h) *ℤ (x *ℤ c) ≡ (y *ℤ c) *ℤ (x *ℤ h) = crossed y h x c in
    positive_factor (y *ℤ c) (x *ℤ h) (omega (arith, ints, p, e)) xh

leads_from : (start : Point) (points : List Point) → IsSimple start points
    → ((f : Segment) → IsIn (edges_of (start ∷ points)) f → f.a.y ≡ f.b.y) → (c : ℤ)
    → ((e : Segment) → IsNumbered start points 0 e → LeadsWith c e) → (i : ℕ) (e : Segment)
    → IsNumbered start points i e → LeadsWith c e
leads_from start points simple level c base zero e h = base e h
leads_from start points simple level c base (suc i) e h =
    by_before (before_edge start points (suc i) e h) (λ e0 h0. leads_from start points simple level c base i e0 h0)
  where
    by_before : (b : (u : Point) × (j : ℕ) × IsNumbered start points j (wall u e.a)
        × ((suc i ≡ j + 1) ⊎ ((j + 1 ≡ length (start ∷ points)) × (suc i ≡ 0))))
        → ((e0 : Segment) → IsNumbered start points i e0 → LeadsWith c e0) → LeadsWith c e
    by_before b again =
        let corner = corner_of start points simple b.1 (suc i) b.0 e b.2 h b.3 in
        let there : b.1 ≡ i = at b.3 in
        let before = again (wall b.0 e.a) (subst (λ t. IsNumbered start points t (wall b.0 e.a)) there b.2) in
        let edges = edges_of (start ∷ points) in
        let way = corner.inner.way in
        let first = subst (λ t. pos 0 <ℤ t) (flat_cross b.0 e.a way
        (level (wall b.0 e.a) (without_number 0 edges (b.1, wall b.0 e.a) b.2))) corner.inner.before_left in
        let second = subst (λ t. pos 0 <ℤ t) (flat_cross e.a e.b way
        (level e (without_number 0 edges (suc i, e) h))) corner.inner.after_left in
        leads_on c (e.a.x -ℤ b.0.x) (e.b.x -ℤ e.a.x) way.y first second before
      where
        at : {j : ℕ} → (suc i ≡ j + 1) ⊎ ((j + 1 ≡ length (start ∷ points)) × (suc i ≡ 0)) → j ≡ i
        at (inl m) = omega (arith, m)
        at (inr m) = let z = m.1 in absurd (omega (arith, z))

-- edges that all lead one way don't close
all_one_way : (c : ℤ) (e : Segment) (edges : List Segment) → ((f : Segment) → IsIn (e ∷ edges) f → LeadsWith c f)
    → pos 0 <ℤ rises_along (λ v. v.x *ℤ c) (e ∷ edges)
all_one_way c e [] leads = let h = leads e (inl refl) in let m = minus_times e.b.x e.a.x c in omega (arith, ints, h, m)
all_one_way c e (f ∷ edges) leads =
    let h = leads e (inl refl) in
    let m = minus_times e.b.x e.a.x c in
    let rest = all_one_way c f edges (λ g k. leads g (inr k)) in
    omega (arith, ints, h, m, rest)

-- a test for edges that aren't level
is_tall : Segment → Bool
is_tall e = not (int_eq e.a.y e.b.y)

pub some_tall : (start : Point) (points : List Point) → IsSimple start points
    → (f : Segment) × IsIn (edges_of (start ∷ points)) f × (f.a.y ≡ f.b.y → ⊥)
unfolding is_tall edges_to
some_tall start points simple = by_any (list_any is_tall (edges_of (start ∷ points))) refl
  where
    tall : (e : Segment) → not (int_eq e.a.y e.b.y) ≡ true → e.a.y ≡ e.b.y → ⊥
    tall e h same = clash (ap not (equal_tested e.a.y e.b.y same)) h

    level_by : (e : Segment) → not (int_eq e.a.y e.b.y) ≡ false → e.a.y ≡ e.b.y
    level_by e h = tested_equal e.a.y e.b.y (true_if_not (int_eq e.a.y e.b.y) (λ k. clash h (ap not k)))

    never : list_any is_tall (edges_of (start ∷ points)) ≡ false → ⊥
    never h =
        let level : (f : Segment) → IsIn (edges_of (start ∷ points)) f → f.a.y ≡ f.b.y = λ f there. level_by f
        (each_fails is_tall (edges_of (start ∷ points)) f h there) in
        let first = starts 0 start start points in
        let e = wall start first.0 in
        let there = without_number 0 (edges_of (start ∷ points)) (0, e) first.1 in
        let s = some_square start first.0 (real start points simple e there) in
        let flat = level e there in
        let c = first.0.x -ℤ start.x in
        let z : first.0.y -ℤ start.y ≡ pos 0 = omega (arith, ints, flat) in
        let zz = ap (λ t. t *ℤ (first.0.y -ℤ start.y)) z ∙ zero_times (first.0.y -ℤ start.y) in
        let own : LeadsWith c e = omega (arith, ints, s, zz) in
        let all = leads_from start points simple level c
        (λ g k. subst (λ t. LeadsWith c t) (one_edge 0 (edges_of (start ∷ points)) 0 e g first.1 k) own) in
        let sum = closes points (λ f k. let n = number_of 0 (edges_of (start ∷ points)) f k in all n.0 f n.1) in
        let none = polygon_closes (start ∷ points) (λ v. v.x *ℤ c) in
        absurd (omega (arith, ints, sum, none))
      where
        closes : {c : ℤ} → (points : List Point) → ((f : Segment) → IsIn (edges_of (start ∷ points)) f
            → LeadsWith c f) → pos 0 <ℤ rises_along (λ v. v.x *ℤ c) (edges_of (start ∷ points))
        closes {c = c} [] leads = all_one_way c (wall start start) [] leads
        closes {c = c} (q ∷ points) leads = all_one_way c (wall start q) (edges_to start (q ∷ points)) leads

    by_any : (t : Bool) → list_any is_tall (edges_of (start ∷ points)) ≡ t
        → (f : Segment) × IsIn (edges_of (start ∷ points)) f × (f.a.y ≡ f.b.y → ⊥)
    by_any true h = let f = found is_tall (edges_of (start ∷ points)) h in (f.it, f.is_in, tall f.it f.passes)
    by_any false h = absurd (never h)
