-- A simple polygon's edges are sound: each has its neighbours, they keep apart, and all have one winding on their
-- left.
use Rattle.std.specs.Prelude.{false, ◌||◌, List, length, [], ◌∷◌, true, map, Bool, not, ◌&&◌, if◌then◌else◌}
use Rattle.std.specs.List.{enumerate_from}
use Rattle.std.proofs.lemmas.Bool.{or_parts, not-true}
use Rattle.std.proofs.Common.{◌≡◌, ap, arith, inl, inr, ℕ, ◌+◌, ◌≤◌, ◌<◌, ◌⊎◌, pos, subst, sym, ◌∙◌, refl, ◌==◌, suc}
use Rattle.std.proofs.Common.{zero, ℤ}
use Rattle.std.proofs.lemmas.Int.{by_lt_z, ints}
use Rattle.plane_spec.specs.declared.Segment.{Segment}
use Rattle.plane_spec.specs.declared.Point.{Point}
use Rattle.plane_spec.specs.Segments.{cross_properly, do_touch, is_on_segment}
use Rattle.plane_spec.specs.Polygons.{edges_touch, edges_to, crosses_nowhere, has_repeat, edges_of, may_be_edges}
use Rattle.plane_spec.specs.Polygons.{folds_back, is_nothing}
use Rattle.plane_spec.specs.Lists.{numbered_pairs, pairs, with_each}
use Rattle.plane_spec.specs.Vectors.{same_point}
use Rattle.plane_laws.proofs.Lists.Members.{IsIn, each_passes, each_fails, in_left, in_right, mapped}
use Rattle.plane_laws.proofs.Lists.Numbers.{two_edges, one_edge, number_of, without_number}
use Rattle.plane_laws.proofs.Tests.{clash}
use Rattle.plane_laws.proofs.Points.Between.{on_end, on_start}
use Rattle.plane_spec.proofs.Laws.{touching_is_symmetric}
use Rattle.winding_laws.proofs.Closed.{polygon_closes}
use Rattle.winding_laws.proofs.Settles.{some_winding}
use Rattle.side_laws.proofs.Neighbours.{numbered, IsNumbered, ends, after_edge, before_edge, starts}
use Rattle.side_laws.proofs.Stands.{stand_next, stand_wrap, stand_apart}
use Rattle.side_laws.proofs.Sides.{wall, IsCornerOf, inward, KeepsApart, SideAt, side_step, side_at}
use Rattle.side_laws.proofs.Sound.{Distinct, IsSound}

-- what segments that don't touch have apart
apart_parts : (e f : Segment) → edges_touch e f ≡ false
    → (is_on_segment e.a f.a f.b ≡ false) × (is_on_segment f.a e.a e.b ≡ false)
unfolding do_touch
apart_parts e f h =
    let first = or_parts (cross_properly e.a e.b f.a f.b)
    ((is_on_segment e.a f.a f.b || is_on_segment e.b f.a f.b) ||
    (is_on_segment f.a e.a e.b || is_on_segment f.b e.a e.b)) h in
    let second = or_parts (is_on_segment e.a f.a f.b || is_on_segment e.b f.a f.b)
    (is_on_segment f.a e.a e.b || is_on_segment f.b e.a e.b) first.1 in (
      (or_parts (is_on_segment e.a f.a f.b) (is_on_segment e.b f.a f.b) second.0).0,
      (or_parts (is_on_segment f.a e.a e.b) (is_on_segment f.b e.a e.b) second.1).0,
    )

few_from : (n : ℕ) (first p : Point) (points : List Point) (i : ℕ) (e : Segment)
    → IsIn (numbered n first p points) (i, e) → i + 1 ≤ n + length (p ∷ points)
unfolding edges_to
few_from n first p [] i e (inl h) = let same : n ≡ i = ap (λ t. t.0) h in omega (arith, same)
few_from n first p [] i e (inr h) = absurd h
few_from n first p (q ∷ points) i e (inl h) = let same : n ≡ i = ap (λ t. t.0) h in omega (arith, same)
few_from n first p (q ∷ points) i e (inr h) = let rest = few_from (n + 1) first q points i e h in omega (arith, rest)

-- the number of an edge is less than the number of points
few : (start : Point) (points : List Point) (i : ℕ) (e : Segment) → IsNumbered start points i e
    → i + 1 ≤ length (start ∷ points)
few start points i e h = let f = few_from 0 start start points i e h in omega (arith, f)

-- ---- corners and walls of a simple polygon

-- a simple polygon that begins at a point
pub record IsSimple (start : Point) (points : List Point) : Type 0 where
  pub many : 3 ≤ length (start ∷ points)
  pub some : has_repeat (start ∷ points) ≡ false
  pub stand : crosses_nowhere (start ∷ points) ≡ true

stands : (start : Point) (points : List Point) → IsSimple start points → (i j : ℕ) (e f : Segment)
    → IsNumbered start points i e → IsNumbered start points j f → i < j
    → may_be_edges (length (start ∷ points)) ((i, e), (j, f)) ≡ true
unfolding crosses_nowhere
stands start points simple i j e f h k less =
    each_passes (may_be_edges (length (start ∷ points))) (numbered_pairs (edges_of (start ∷ points)))
    ((i, e), (j, f)) simple.stand (two_edges 0 (edges_of (start ∷ points)) i j e f h k less)

-- the edge of number j stands before that of number i
abbrev IsBefore : Point → List Point → ℕ → ℕ → Type 0
IsBefore start points j i = (i ≡ j + 1) ⊎ ((j + 1 ≡ length (start ∷ points)) × (i ≡ 0))

unfolded : (start : Point) (points : List Point) → IsSimple start points → (j i : ℕ) (e f : Segment)
    → IsNumbered start points j e → IsNumbered start points i f → IsBefore start points j i → folds_back e f ≡ false
unfolded start points simple j i e f h k (inl next) =
    stand_next (length (start ∷ points)) j i e f (stands start points simple j i e f h k (omega (arith, next))) next
unfolded start points simple j i e f h k (inr ends) =
    let many = simple.many in
    let last = ends.0 in
    let first = ends.1 in
    let less : i < j = omega (arith, many, last, first) in
    stand_wrap (length (start ∷ points)) i j f e (stands start points simple i j f e k h less)
    (λ n. absurd (omega (arith, n, first, last, many))) first last

-- of an edge and another that isn't before it, the start of the first isn't on the second
start_off : (start : Point) (points : List Point) → IsSimple start points → (i0 i j : ℕ) (e0 e g : Segment)
    → IsNumbered start points i0 e0 → IsNumbered start points i e → IsNumbered start points j g
    → IsBefore start points i0 i → (g ≡ e0) ⊎ ((g ≡ e) ⊎ (is_on_segment e.a g.a g.b ≡ false))
start_off start points simple i0 i j e0 e g h0 h k before =
    let count = length (start ∷ points) in
    by_lt_z (pos j) (pos i)
    (λ j_less. by_lt_z (pos (j + 1)) (pos i)
    (λ apart. by_wrap_back (omega (arith, ints, j_less)) (λ n. absurd (omega (arith, ints, apart, n))))
    (λ next. inl (is_before j (omega (arith, ints, next, j_less)) k)))
    (λ not_less. by_lt_z (pos i) (pos j)
    (λ i_less. by_lt_z (pos (i + 1)) (pos j)
    (λ apart. by_wrap (omega (arith, ints, i_less)) (λ n. absurd (omega (arith, ints, apart, n))))
    (λ next. let n : j ≡ i + 1 = omega (arith, ints, next, i_less) in
    let fold = stand_next count i j e g (stands start points simple i j e g h k (omega (arith, ints, i_less))) n in
    inr (inr (or_parts (is_on_segment e.a g.a g.b) (is_on_segment g.b e.a e.b) fold).0)))
    (λ same. let n : j ≡ i = omega (arith, ints, same, not_less) in
    inr (inl (one_edge 0 (edges_of (start ∷ points)) i g e (subst (λ t. IsNumbered start points t g) n k) h))))
  where
    is_before : (j : ℕ) → i ≡ j + 1 → IsNumbered start points j g → g ≡ e0
    is_before j n k' = same_as before
      where
        same_as : IsBefore start points i0 i → g ≡ e0
        same_as (inl m) =
            let same : j ≡ i0 = omega (arith, n, m) in
            one_edge 0 (edges_of (start ∷ points)) i0 g e0 (subst (λ t. IsNumbered start points t g) same k') h0
        same_as (inr m) = let none = m.1 in absurd (omega (arith, n, none))

    by_wrap_back : j < i → (i ≡ j + 1 → ⊥) → (g ≡ e0) ⊎ ((g ≡ e) ⊎ (is_on_segment e.a g.a g.b ≡ false))
    by_wrap_back less far =
        let st = stands start points simple j i g e k h less in
        by_lt_z (pos 0) (pos j)
        (λ inner. inr (inr (apart_parts g e (stand_apart (length (start ∷ points)) j i g e st far
        (λ z l. absurd (omega (arith, ints, inner, z))))).1))
        (λ first. by_lt_z (pos (i + 1)) (pos (length (start ∷ points)))
        (λ short. inr (inr (apart_parts g e (stand_apart (length (start ∷ points)) j i g e st far
        (λ z l. absurd (omega (arith, ints, short, l))))).1))
        (λ long. by_lt_z (pos (length (start ∷ points))) (pos (i + 1))
        (λ over. inr (inr (apart_parts g e (stand_apart (length (start ∷ points)) j i g e st far
        (λ z l. absurd (omega (arith, ints, over, l))))).1))
        (λ exact. let fold = stand_wrap (length (start ∷ points)) j i g e st far (omega (arith, ints, first))
        (omega (arith, ints, long, exact)) in
        inr (inr (or_parts (is_on_segment e.a g.a g.b) (is_on_segment g.b e.a e.b) fold).0))))

    by_wrap : i < j → (j ≡ i + 1 → ⊥) → (g ≡ e0) ⊎ ((g ≡ e) ⊎ (is_on_segment e.a g.a g.b ≡ false))
    by_wrap less far =
        let st = stands start points simple i j e g h k less in
        by_lt_z (pos 0) (pos i)
        (λ inner. inr (inr (apart_parts e g (stand_apart (length (start ∷ points)) i j e g st far
        (λ z l. absurd (omega (arith, ints, inner, z))))).0))
        (λ first. by_lt_z (pos (j + 1)) (pos (length (start ∷ points)))
        (λ short. inr (inr (apart_parts e g (stand_apart (length (start ∷ points)) i j e g st far
        (λ z l. absurd (omega (arith, ints, short, l))))).0))
        (λ long. by_lt_z (pos (length (start ∷ points))) (pos (j + 1))
        (λ over. inr (inr (apart_parts e g (stand_apart (length (start ∷ points)) i j e g st far
        (λ z l. absurd (omega (arith, ints, over, l))))).0))
        (λ exact. inl (last_before (omega (arith, ints, first)) (omega (arith, ints, long, exact)) before))))
      where
        last_before : i ≡ 0 → j + 1 ≡ length (start ∷ points) → IsBefore start points i0 i → g ≡ e0
        last_before z l (inl m) = absurd (omega (arith, z, m))
        last_before z l (inr m) =
            let last = m.0 in let same : j ≡ i0 = omega (arith, l, last) in
            one_edge 0 (edges_of (start ∷ points)) i0 g e0 (subst (λ t. IsNumbered start points t g) same k) h0

-- an edge that isn't before, and isn't after, doesn't touch
apart_from : (start : Point) (points : List Point) → IsSimple start points → (i j : ℕ) (e g : Segment)
    → IsNumbered start points i e → IsNumbered start points j g
    → is_on_segment e.a g.a g.b ≡ false → is_on_segment e.b g.a g.b ≡ false → do_touch g.a g.b e.a e.b ≡ false
apart_from start points simple i j e g h k a_off b_off =
    let count = length (start ∷ points) in
    let before = before_edge start points i e h in
    let after = after_edge start points i e h in
    by_lt_z (pos j) (pos i)
    (λ less. stand_apart count j i g e (stands start points simple j i g e k h (omega (arith, ints, less)))
    (λ next. is_before next (before.3))
    (λ first last. is_after_wrap first last after.3))
    (λ not_less. by_lt_z (pos i) (pos j)
    (λ less. touch_exchanged' e g (stand_apart count i j e g
    (stands start points simple i j e g h k (omega (arith, ints, less)))
    (λ next. is_after next after.3)
    (λ first last. is_before_wrap first last before.3)))
    (λ same. let n : j ≡ i = omega (arith, ints, same, not_less) in
    let one = one_edge 0 (edges_of (start ∷ points)) i g e (subst (λ t. IsNumbered start points t g) n k) h in
    absurd (clash a_off (subst (λ t. is_on_segment e.a t.a t.b ≡ true) (sym one) (on_start e.a e.b)))))
  where
    touch_exchanged' : (e g : Segment) → edges_touch e g ≡ false → do_touch g.a g.b e.a e.b ≡ false
    touch_exchanged' e g t = sym (touching_is_symmetric e.a e.b g.a g.b) ∙ t

    ends_there : (u : Point) (l : ℕ) → IsNumbered start points l (wall u e.a) → j ≡ l → ⊥
    ends_there u l there same =
        let one = one_edge 0 (edges_of (start ∷ points)) l g (wall u e.a)
        (subst (λ t. IsNumbered start points t g) same k) there in
        clash a_off (subst (λ t. is_on_segment e.a t.a t.b ≡ true) (sym one) (on_end u e.a))

    begins_there : (w : Point) (l : ℕ) → IsNumbered start points l (wall e.b w) → j ≡ l → ⊥
    begins_there w l there same =
        let one = one_edge 0 (edges_of (start ∷ points)) l g (wall e.b w)
        (subst (λ t. IsNumbered start points t g) same k) there in
        clash b_off (subst (λ t. is_on_segment e.b t.a t.b ≡ true) (sym one) (on_start e.b w))

    is_before : i ≡ j + 1 → (i ≡ (before_edge start points i e h).1 + 1)
        ⊎ (((before_edge start points i e h).1 + 1 ≡ length (start ∷ points)) × (i ≡ 0)) → ⊥
    is_before next (inl m) = let b = before_edge start points i e h in ends_there b.0 b.1 b.2 (omega (arith, next, m))
    is_before next (inr m) = let z = m.1 in absurd (omega (arith, next, z))

    is_before_wrap : i ≡ 0 → j + 1 ≡ length (start ∷ points)
        → (i ≡ (before_edge start points i e h).1 + 1)
        ⊎ (((before_edge start points i e h).1 + 1 ≡ length (start ∷ points)) × (i ≡ 0)) → ⊥
    is_before_wrap first last (inl m) = absurd (omega (arith, first, m))
    is_before_wrap first last (inr m) =
        let b = before_edge start points i e h in let l = m.0 in ends_there b.0 b.1 b.2 (omega (arith, last, l))

    is_after : j ≡ i + 1 → ((after_edge start points i e h).1 ≡ i + 1)
        ⊎ ((i + 1 ≡ length (start ∷ points)) × ((after_edge start points i e h).1 ≡ 0)) → ⊥
    is_after next (inl m) = let a = after_edge start points i e h in begins_there a.0 a.1 a.2 (omega (arith, next, m))
    is_after next (inr m) = let l = m.0 in let f = few start points j g k in absurd (omega (arith, next, l, f))

    is_after_wrap : j ≡ 0 → i + 1 ≡ length (start ∷ points)
        → ((after_edge start points i e h).1 ≡ i + 1) ⊎ ((i + 1 ≡ length (start ∷ points))
        × ((after_edge start points i e h).1 ≡ 0)) → ⊥
    is_after_wrap first last (inl m) =
        let a = after_edge start points i e h in let f = few start points a.1 (wall e.b a.0) a.2 in
        absurd (omega (arith, last, m, f))
    is_after_wrap first last (inr m) =
        let a = after_edge start points i e h in let z = m.1 in begins_there a.0 a.1 a.2 (omega (arith, first, z))

-- ---- the polygon

pub real : (start : Point) (points : List Point) → IsSimple start points → (f : Segment)
    → IsIn (edges_of (start ∷ points)) f → same_point f.a f.b ≡ false
real start points simple f there = each_fails is_nothing (edges_of (start ∷ points)) f simple.some there

-- the corner at the start of an edge
pub corner_of : (start : Point) (points : List Point) → IsSimple start points → (i0 i : ℕ) (u : Point) (e : Segment)
    → IsNumbered start points i0 (wall u e.a) → IsNumbered start points i e → IsBefore start points i0 i
    → IsCornerOf (edges_of (start ∷ points)) u e.a e.b
corner_of start points simple i0 i u e h0 h before =
    let fold = or_parts (is_on_segment u e.a e.b) (is_on_segment e.b u e.a)
    (unfolded start points simple i0 i (wall u e.a) e h0 h before) in
    record {
      inner = inward u e.a e.b (real start points simple (wall u e.a)
          (without_number 0 (edges_of (start ∷ points)) (i0, wall u e.a) h0)) fold.0 fold.1;
      others = λ g there. let k = number_of 0 (edges_of (start ∷ points)) g there in
          start_off start points simple i0 i k.0 (wall u e.a) e g h0 h k.1 before;
    }

alone : (start : Point) (points : List Point) → IsSimple start points → (i : ℕ) (e : Segment)
    → IsNumbered start points i e → KeepsApart (edges_of (start ∷ points)) e
alone start points simple i e h g there =
    let k = number_of 0 (edges_of (start ∷ points)) g there in apart_from start points simple i k.0 e g h k.1

distinct_from : (n : ℕ) (edges : List Segment) → ((e : (ℕ × Segment) × (ℕ × Segment))
    → IsIn (pairs (enumerate_from n edges)) e → e.0.1 ≡ e.1.1 → ⊥) → Distinct edges
distinct_from n [] never = tt
distinct_from n (f ∷ edges) never = (
  λ there. let k = number_of (n + 1) edges f there in
      never ((n, f), (k.0, f)) (in_left (map (with_each (n, f)) (enumerate_from (n + 1) edges))
      (pairs (enumerate_from (n + 1) edges)) ((n, f), (k.0, f))
      (mapped (with_each (n, f)) (enumerate_from (n + 1) edges) (k.0, f) k.1)) refl,
  distinct_from (n + 1) edges (λ e there same. never e
      (in_right (map (with_each (n, f)) (enumerate_from (n + 1) edges))
      (pairs (enumerate_from (n + 1) edges)) e there) same),
)

pub true_if_not : (t : Bool) → (t ≡ false → ⊥) → t ≡ true
true_if_not true never = refl
true_if_not false never = absurd (never refl)

not_itself : (count : ℕ) (i j : ℕ) (e f : Segment) → may_be_edges count ((i, e), (j, f)) ≡ true → e ≡ f → ⊥
unfolding may_be_edges
not_itself count i j e f h same =
    by_tests (j == i + 1) ((i == 0) && (j + 1 == count)) (folds_back e f) (folds_back f e) (edges_touch e f) h
    (folded e f same) (folded f e (sym same)) (touched e f same)
  where
    by_tests : (s t a b c : Bool) → (if s then not a else (if t then not b else not c)) ≡ true → a ≡ true → b ≡ true
        → c ≡ true → ⊥
    by_tests true t a b c h e f g = clash (not-true a h) e
    by_tests false true a b c h e f g = clash (not-true b h) f
    by_tests false false a b c h e f g = clash (not-true c h) g

    folded : (e f : Segment) → e ≡ f → folds_back e f ≡ true
    folded e f same =
        subst (λ t. folds_back e t ≡ true) same (or_first (is_on_segment e.a e.a e.b) (is_on_segment e.b e.a e.b)
        (on_start e.a e.b))
      where
        or_first : (s t : Bool) → s ≡ true → (s || t) ≡ true
        or_first true t h = refl
        or_first false t h = absurd (clash refl h)

    touched : (e f : Segment) → e ≡ f → edges_touch e f ≡ true
    touched e f same = subst (λ t. edges_touch e t ≡ true) same (touches_itself e)
      where
        touches_itself : (e : Segment) → do_touch e.a e.b e.a e.b ≡ true
        touches_itself e = true_if_not (do_touch e.a e.b e.a e.b) (λ h. clash (apart_parts e e h).0 (on_start e.a e.b))

distinct : (start : Point) (points : List Point) → IsSimple start points → Distinct (edges_of (start ∷ points))
unfolding crosses_nowhere
distinct start points simple =
    distinct_from 0 (edges_of (start ∷ points))
    (λ e there same. not_itself (length (start ∷ points)) e.0.0 e.1.0 e.0.1 e.1.1
    (each_passes (may_be_edges (length (start ∷ points)))
    (numbered_pairs (edges_of (start ∷ points))) e simple.stand there) same)

-- from the first edge on, each has the same winding on its left
sides_from : (start : Point) (points : List Point) → IsSimple start points → (k : ℤ)
    → ((u : Point) (e : Segment) (i0 : ℕ) → IsNumbered start points 0 e → IsNumbered start points i0 (wall u e.a)
    → IsBefore start points i0 0 → SideAt (edges_of (start ∷ points)) u e.a e.b k)
    → (i : ℕ) (u : Point) (e : Segment) (i0 : ℕ) → IsNumbered start points i e
    → IsNumbered start points i0 (wall u e.a) → IsBefore start points i0 i
    → SideAt (edges_of (start ∷ points)) u e.a e.b k
sides_from start points simple k base zero u e i0 h h0 before = base u e i0 h h0 before
sides_from start points simple k base (suc i) u e i0 h h0 before =
    let there : i0 ≡ i = at before in
    let h0' = subst (λ t. IsNumbered start points t (wall u e.a)) there h0 in
    let b = before_edge start points i (wall u e.a) h0' in
    let edges = edges_of (start ∷ points) in
    side_step edges b.0 u e.a e.b k (polygon_closes (start ∷ points)) (real start points simple)
    (real start points simple (wall u e.a) (without_number 0 edges (i, wall u e.a) h0'))
    (corner_of start points simple b.1 i b.0 (wall u e.a) b.2 h0' b.3)
    (corner_of start points simple i0 (suc i) u e h0 h before) (alone start points simple i (wall u e.a) h0')
    (sides_from start points simple k base i b.0 (wall u e.a) b.1 h0' b.2 b.3)
  where
    at : IsBefore start points i0 (suc i) → i0 ≡ i
    at (inl m) = omega (arith, m)
    at (inr m) = let z = m.1 in absurd (omega (arith, z))

base_side : (start : Point) (points : List Point) → IsSimple start points → (e : Segment)
    → IsNumbered start points 0 e → (u0 : Point) (j0 : ℕ) → IsNumbered start points j0 (wall u0 e.a)
    → IsBefore start points j0 0
    → (k : ℤ) → SideAt (edges_of (start ∷ points)) u0 e.a e.b k
    → (u : Point) (g : Segment) (i0 : ℕ) → IsNumbered start points 0 g → IsNumbered start points i0 (wall u g.a)
    → IsBefore start points i0 0 → SideAt (edges_of (start ∷ points)) u g.a g.b k
base_side start points simple e first u0 j0 there before k side u g i0 h h0 bef =
    let same = one_edge 0 (edges_of (start ∷ points)) 0 e g first h in
    subst (λ t. IsNumbered start points i0 (wall u t.a) → SideAt (edges_of (start ∷ points)) u t.a t.b k) same
    (λ at. moved at) h0
  where
    last : (i : ℕ) → IsBefore start points i 0 → i + 1 ≡ length (start ∷ points)
    last i (inl m) = absurd (omega (arith, m))
    last i (inr m) = m.0

    moved : IsNumbered start points i0 (wall u e.a) → SideAt (edges_of (start ∷ points)) u e.a e.b k
    moved at =
        let l = last i0 bef in
        let l0 = last j0 before in
        let same : i0 ≡ j0 = omega (arith, l, l0) in
        let one = one_edge 0 (edges_of (start ∷ points)) j0 (wall u0 e.a) (wall u e.a) there
        (subst (λ t. IsNumbered start points t (wall u e.a)) same at) in
        subst (λ t. SideAt (edges_of (start ∷ points)) t e.a e.b k) (ap (λ t. t.a) one) side

-- the edges of a simple polygon have one winding on their left
pub sound : (start : Point) (points : List Point) → IsSimple start points
    → (k : ℤ) × IsSound (edges_of (start ∷ points)) k
sound start points simple =
    let edges = edges_of (start ∷ points) in
    let first = starts 0 start start points in
    let e = wall start first.0 in
    let b = before_edge start points 0 e first.1 in
    let c = corner_of start points simple b.1 0 b.0 e b.2 first.1 b.3 in
    let w = some_winding edges start c.inner.way in
    let side = side_at edges b.0 start first.0 c.inner.way w.0
    (polygon_closes (start ∷ points)) c c.inner.before_left c.inner.after_left w.1 in (
      w.0,
      record {
        closed = polygon_closes (start ∷ points);
        some = real start points simple;
        distinct = distinct start points simple;
        sides = λ f there.
            let n = number_of 0 edges f there in
            let before = before_edge start points n.0 f n.1 in
            let after = after_edge start points n.0 f n.1 in
            record {
              before = before.0;
              after = after.0;
              before_there = without_number 0 edges (before.1, wall before.0 f.a) before.2;
              after_there = without_number 0 edges (after.1, wall f.b after.0) after.2;
              first = corner_of start points simple before.1 n.0 before.0 f before.2 n.1 before.3;
              second = corner_of start points simple n.0 after.1 f.a (wall f.b after.0) n.1 after.2
                  (flipped n.0 after.1 after.3);
              alone = alone start points simple n.0 f n.1;
              side = sides_from start points simple w.0
                  (base_side start points simple e first.1 b.0 b.1 b.2 b.3 w.0 side) n.0 before.0 f before.1 n.1
                  before.2 before.3;
            };
      },
    )
  where
    flipped : (i j : ℕ) → (j ≡ i + 1) ⊎ ((i + 1 ≡ length (start ∷ points)) × (j ≡ 0)) → IsBefore start points i j
    flipped i j m = m
