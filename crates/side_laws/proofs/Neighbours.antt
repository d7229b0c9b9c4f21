-- The edges of a polygon by their numbers: which one begins where another ends.
use Rattle.std.specs.Prelude.{List, ◌∷◌, [], length}
use Rattle.std.specs.List.{enumerate_from}
use Rattle.std.proofs.Common.{ℕ, inl, refl, ap, arith, inr, subst, ◌≡◌, ◌+◌, sym, ◌⊎◌}
use Rattle.plane_spec.specs.declared.Point.{Point}
use Rattle.plane_spec.specs.declared.Segment.{Segment}
use Rattle.plane_spec.specs.Polygons.{edges_to, edges_of}
use Rattle.plane_laws.proofs.Lists.Numbers.{number_of, without_number}
use Rattle.plane_laws.proofs.Lists.Members.{IsIn}
use Rattle.side_laws.proofs.Sides.{wall}

-- ---- the edges before and after

abbrev pub numbered : ℕ → Point → Point → List Point → List (ℕ × Segment)
numbered n first p points = enumerate_from n (edges_to first (p ∷ points))

pub starts : (n : ℕ) (first p : Point) (points : List Point)
    → (w : Point) × IsIn (numbered n first p points) (n, wall p w)
unfolding edges_to
starts n first p [] = (first, inl refl)
starts n first p (q ∷ points) = (q, inl refl)

pub ends : (n : ℕ) (first p : Point) (points : List Point)
    → (u : Point) × IsIn (numbered n first p points) (n + length points, wall u first)
unfolding edges_to
ends n first p [] = let e : n ≡ n + 0 = omega arith in (p, inl (ap (λ t. (t, wall p first)) e))
ends n first p (q ∷ points) =
    let rest = ends (n + 1) first q points in
    let e : n + 1 + length points ≡ n + length (q ∷ points) = omega arith in
    (rest.0, inr (subst (λ t. IsIn (numbered (n + 1) first q points) (t, wall rest.0 first)) e rest.1))

-- after the edge of number i comes one that begins where it ends, or it is the last
goes_on : (n : ℕ) (first p : Point) (points : List Point) (i : ℕ) (e : Segment)
    → IsIn (numbered n first p points) (i, e)
    → ((w : Point) × IsIn (numbered n first p points) (i + 1, wall e.b w))
    ⊎ ((e.b ≡ first) × (i + 1 ≡ n + length (p ∷ points)))
unfolding edges_to
goes_on n first p [] i e (inl h) =
    let same : n ≡ i = ap (λ t. t.0) h in
    let edge : wall p first ≡ e = ap (λ t. t.1) h in
    inr (sym (ap (λ t. t.b) edge), omega (arith, same))
goes_on n first p [] i e (inr h) = absurd h
goes_on n first p (q ∷ points) i e (inl h) =
    let same : n ≡ i = ap (λ t. t.0) h in
    let edge : wall p q ≡ e = ap (λ t. t.1) h in
    let next = starts (n + 1) first q points in
    let k : n + 1 ≡ i + 1 = omega (arith, same) in
    inl (
      next.0,
      inr (subst (λ t. IsIn (numbered (n + 1) first q points) (i + 1, wall t next.0)) (ap (λ t. t.b) edge)
          (subst (λ t. IsIn (numbered (n + 1) first q points) (t, wall q next.0)) k next.1)),
    )
goes_on n first p (q ∷ points) i e (inr h) = later (goes_on (n + 1) first q points i e h)
  where
    later : ((w : Point) × IsIn (numbered (n + 1) first q points) (i + 1, wall e.b w))
        ⊎ ((e.b ≡ first) × (i + 1 ≡ n + 1 + length (q ∷ points)))
        → ((w : Point) × IsIn (enumerate_from n (wall p q ∷ edges_to first (q ∷ points))) (i + 1, wall e.b w))
        ⊎ ((e.b ≡ first) × (i + 1 ≡ n + length (p ∷ q ∷ points)))
    later (inl k) = inl (k.0, inr k.1)
    later (inr k) = let l = k.1 in inr (k.0, omega (arith, l))

-- before the edge of number i stands one that ends where it begins, or it is the first
comes_from : (n : ℕ) (first p : Point) (points : List Point) (i : ℕ) (e : Segment)
    → IsIn (numbered n first p points) (i, e)
    → ((u : Point) × (j : ℕ) × IsIn (numbered n first p points) (j, wall u e.a) × (i ≡ j + 1)) ⊎ ((e.a ≡ p) × (i ≡ n))
unfolding edges_to
comes_from n first p [] i e (inl h) = inr (sym (ap (λ t. t.1.a) h), sym (ap (λ t. t.0) h))
comes_from n first p [] i e (inr h) = absurd h
comes_from n first p (q ∷ points) i e (inl h) = inr (sym (ap (λ t. t.1.a) h), sym (ap (λ t. t.0) h))
comes_from n first p (q ∷ points) i e (inr h) = later (comes_from (n + 1) first q points i e h)
  where
    later : ((u : Point) × (j : ℕ) × IsIn (numbered (n + 1) first q points) (j, wall u e.a) × (i ≡ j + 1))
        ⊎ ((e.a ≡ q) × (i ≡ n + 1))
        → ((u : Point) × (j : ℕ) × IsIn (enumerate_from n (wall p q ∷ edges_to first (q ∷ points))) (j, wall u e.a)
        × (i ≡ j + 1)) ⊎ ((e.a ≡ p) × (i ≡ n))
    later (inl k) = inl (k.0, k.1, inr k.2, k.3)
    later (inr k) = inl (p, n, inl (ap (λ t. (n, wall p t)) (sym k.0)), k.1)

-- ---- the edges of a polygon

abbrev pub IsNumbered : Point → List Point → ℕ → Segment → Type 0
IsNumbered start points i e = IsIn (numbered 0 start start points) (i, e)

pub after_edge : (start : Point) (points : List Point) (i : ℕ) (e : Segment) → IsNumbered start points i e
    → (w : Point) × (j : ℕ) × IsNumbered start points j (wall e.b w)
    × ((j ≡ i + 1) ⊎ ((i + 1 ≡ length (start ∷ points)) × (j ≡ 0)))
after_edge start points i e h = by_case (goes_on 0 start start points i e h)
  where
    by_case : ((w : Point) × IsIn (numbered 0 start start points) (i + 1, wall e.b w))
        ⊎ ((e.b ≡ start) × (i + 1 ≡ 0 + length (start ∷ points)))
        → (w : Point) × (j : ℕ) × IsNumbered start points j (wall e.b w)
        × ((j ≡ i + 1) ⊎ ((i + 1 ≡ length (start ∷ points)) × (j ≡ 0)))
    by_case (inl k) = (k.0, i + 1, k.1, inl refl)
    by_case (inr k) =
        let first = starts 0 start start points in
        let l = k.1 in (
          first.0,
          0,
          subst (λ t. IsNumbered start points 0 (wall t first.0)) (sym k.0) first.1,
          inr
              (omega (arith, l), refl),
        )

pub before_edge : (start : Point) (points : List Point) (i : ℕ) (e : Segment) → IsNumbered start points i e
    → (u : Point) × (j : ℕ) × IsNumbered start points j (wall u e.a)
    × ((i ≡ j + 1) ⊎ ((j + 1 ≡ length (start ∷ points)) × (i ≡ 0)))
before_edge start points i e h = by_case (comes_from 0 start start points i e h)
  where
    by_case : ((u : Point) × (j : ℕ) × IsIn (numbered 0 start start points) (j, wall u e.a) × (i ≡ j + 1))
        ⊎ ((e.a ≡ start) × (i ≡ 0))
        → (u : Point) × (j : ℕ) × IsNumbered start points j (wall u e.a)
        × ((i ≡ j + 1) ⊎ ((j + 1 ≡ length (start ∷ points)) × (i ≡ 0)))
    by_case (inl k) = (k.0, k.1, k.2, inl k.3)
    by_case (inr k) =
        let last = ends 0 start start points in (
          last.0,
          0 + length points,
          subst (λ t. IsNumbered start points (0 + length points) (wall last.0 t))
              (sym k.0) last.1,
          inr (omega arith, k.1),
        )

-- an edge begins where each one ends
pub next_edge : (points : List Point) (e : Segment) → IsIn (edges_of points) e
    → (w : Point) × IsIn (edges_of points) (wall e.b w)
next_edge [] e h = absurd h
next_edge (start ∷ points) e h =
    let edges = edges_of (start ∷ points) in
    let i = number_of 0 edges e h in
    let after = after_edge start points i.0 e i.1 in
    (after.0, without_number 0 edges (after.1, wall e.b after.0) after.2)

-- an edge ends where each one begins
pub edge_before : (points : List Point) (e : Segment) → IsIn (edges_of points) e
    → (u : Point) × IsIn (edges_of points) (wall u e.a)
edge_before [] e h = absurd h
edge_before (start ∷ points) e h =
    let edges = edges_of (start ∷ points) in
    let i = number_of 0 edges e h in
    let before = before_edge start points i.0 e i.1 in
    (before.0, without_number 0 edges (before.1, wall before.0 e.a) before.2)
