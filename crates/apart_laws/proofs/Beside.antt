-- Lists of edges that may stand beside each other.
use Rattle.std.proofs.Common.{◌≡◌, ℕ, ◌+◌, ◌<◌, ◌∙◌, [], ◌∷◌, ◌++◌, List, refl, sym, ap, arith, length}
use Rattle.std.proofs.lemmas.Bool.{and_from, and_parts}
use Rattle.std.proofs.lemmas.List.Folds.{list_all-append}
use Rattle.std.specs.List.{list_all, flat_map, list_any, enumerate_from}
use Rattle.std.specs.Ordering.{int_eq}
use Rattle.std.specs.Prelude.{◌&&◌, ◌||◌, ◌==◌, Bool, true, false, not, cond, map}
use Rattle.plan_spec.specs.Accepted.{each_two}
use Rattle.plane_spec.proofs.Laws.{touching_is_symmetric}
use Rattle.plane_spec.specs.Lists.{with_each, pairs, numbered_pairs}
use Rattle.plane_spec.specs.Polygons.{edges_touch, folds_back, may_be_edges, edges_to, edges_of}
use Rattle.plane_spec.specs.Vectors.{same_point}
use Rattle.plane_spec.specs.declared.Point.{Point}
use Rattle.plane_spec.specs.declared.Segment.{Segment}
use Rattle.plan_laws.proofs.Pairs.{each_two_cons}
use Rattle.apart_laws.specs.Standing.{stands, stand_beside, follows}
use Rattle.front_laws.proofs.Tests.{neither_of, tested_not, same_tested}

-- ---- lists in two parts

all_join : {X : Type 0} (p : X → Bool) (xs ys : List X) → list_all p xs ≡ true → list_all p ys ≡ true
    → list_all p (xs ++ ys) ≡ true
all_join p xs ys h k = list_all-append p xs ys ∙ and_from (list_all p xs) (list_all p ys) h k

pub beside_join : (xs ys zs : List Segment) → stand_beside xs ys ≡ true → stand_beside xs zs ≡ true
    → stand_beside xs (ys ++ zs) ≡ true
beside_join [] ys zs h k = refl
beside_join (e ∷ xs) ys zs h k =
    let first = and_parts (list_all (stands e) ys) (stand_beside xs ys) h in
    let second = and_parts (list_all (stands e) zs) (stand_beside xs zs) k in
    and_from (list_all (stands e) (ys ++ zs)) (stand_beside xs (ys ++ zs)) (all_join (stands e) ys zs first.0 second.0)
    (beside_join xs ys zs first.1 second.1)

pub beside_join_first : (xs ys zs : List Segment) → stand_beside xs zs ≡ true → stand_beside ys zs ≡ true
    → stand_beside (xs ++ ys) zs ≡ true
beside_join_first xs ys zs h k = all_join (λ e. list_all (stands e) zs) xs ys h k

none_beside : (xs : List Segment) → stand_beside xs [] ≡ true
none_beside [] = refl
none_beside (e ∷ xs) = none_beside xs

pub beside_each : {X : Type 0} (f : X → List Segment) (xs : List Segment) (os : List X)
    → list_all (λ o. stand_beside xs (f o)) os ≡ true → stand_beside xs (flat_map f os) ≡ true
beside_each f xs [] h = none_beside xs
beside_each f xs (o ∷ os) h =
    let parts = and_parts (stand_beside xs (f o)) (list_all (λ q. stand_beside xs (f q)) os) h in
    beside_join xs (f o) (flat_map f os) parts.0 (beside_each f xs os parts.1)

pub each_two_join : (xs ys : List Segment) → each_two stands xs ≡ true → each_two stands ys ≡ true → stand_beside xs ys
    ≡ true → each_two stands (xs ++ ys) ≡ true
each_two_join [] ys h k b = k
each_two_join (e ∷ xs) ys h k b =
    let first = and_parts (list_all (stands e) xs) (each_two stands xs) (sym (each_two_cons stands e xs) ∙ h) in
    let second = and_parts (list_all (stands e) ys) (stand_beside xs ys) b in
    each_two_cons stands e (xs ++ ys)
    ∙ and_from (list_all (stands e) (xs ++ ys)) (each_two stands (xs ++ ys))
    (all_join (stands e) xs ys first.0 second.0) (each_two_join xs ys first.1 k second.1)

pub each_two_each : {X : Type 0} (f : X → List Segment) (os : List X) → list_all (λ o. each_two stands (f o)) os ≡ true
    → each_two (λ o q. stand_beside (f o) (f q)) os ≡ true
    → each_two stands (flat_map f os) ≡ true
each_two_each f [] h k = refl
each_two_each f (o ∷ os) h k =
    let own = and_parts (each_two stands (f o)) (list_all (λ q. each_two stands (f q)) os) h in
    let rest = and_parts (list_all (λ q. stand_beside (f o) (f q)) os) (each_two (λ q r. stand_beside (f q) (f r)) os)
    (sym (each_two_cons (λ q r. stand_beside (f q) (f r)) o os) ∙ k) in
    each_two_join (f o) (flat_map f os) own.0 (each_two_each f os own.1 rest.1) (beside_each f (f o) os rest.0)

pub beside_by_columns : (xs ys : List Segment) → list_all (λ f. list_all (λ e. stands e f) xs) ys ≡ true
    → stand_beside xs ys ≡ true
beside_by_columns [] ys h = refl
beside_by_columns (e ∷ xs) ys h =
    and_from (list_all (stands e) ys) (stand_beside xs ys) (heads ys h) (beside_by_columns xs ys (tails ys h))
  where
    heads : (ys : List Segment) → list_all (λ f. list_all (λ e. stands e f) (e ∷ xs)) ys ≡ true
        → list_all (stands e) ys ≡ true
    heads [] h = refl
    heads (f ∷ ys) h =
        let parts = and_parts (stands e f && list_all (λ e. stands e f) xs)
        (list_all (λ f. list_all (λ e. stands e f) (e ∷ xs)) ys) h in
        and_from (stands e f) (list_all (stands e) ys)
        (and_parts (stands e f) (list_all (λ e. stands e f) xs) parts.0).0 (heads ys parts.1)

    tails : (ys : List Segment) → list_all (λ f. list_all (λ e. stands e f) (e ∷ xs)) ys ≡ true
        → list_all (λ f. list_all (λ e. stands e f) xs) ys ≡ true
    tails [] h = refl
    tails (f ∷ ys) h =
        let parts = and_parts (stands e f && list_all (λ e. stands e f) xs)
        (list_all (λ f. list_all (λ e. stands e f) (e ∷ xs)) ys) h in
        and_from (list_all (λ e. stands e f) xs) (list_all (λ f. list_all (λ e. stands e f) xs) ys)
        (and_parts (stands e f) (list_all (λ e. stands e f) xs) parts.0).1 (tails ys parts.1)

-- ---- edges that don't touch

pub clear_stands : (e f : Segment) → edges_touch e f ≡ false → stands e f ≡ true
clear_stands e f h = ap (λ t. not t || (follows e f || follows f e)) h

none_touches : (e : Segment) (ys : List Segment) → list_any (edges_touch e) ys ≡ false → list_all (stands e) ys ≡ true
none_touches e [] h = refl
none_touches e (f ∷ ys) h =
    let parts = neither_of (edges_touch e f) (list_any (edges_touch e) ys) h in
    and_from (stands e f) (list_all (stands e) ys) (clear_stands e f parts.0) (none_touches e ys parts.1)

pub clear_beside : (xs ys : List Segment) → list_any (λ e. list_any (edges_touch e) ys) xs ≡ false → stand_beside xs ys
    ≡ true
clear_beside [] ys h = refl
clear_beside (e ∷ xs) ys h =
    let parts = neither_of (list_any (edges_touch e) ys) (list_any (λ e. list_any (edges_touch e) ys) xs) h in
    and_from (list_all (stands e) ys) (stand_beside xs ys) (none_touches e ys parts.0) (clear_beside xs ys parts.1)

-- a segment that touches none of the edges: they stand beside it
pub clear_of : (s : Segment) (xs : List Segment) → list_any (edges_touch s) xs ≡ false → list_all (λ e. stands e s) xs
    ≡ true
clear_of s [] h = refl
clear_of s (e ∷ xs) h =
    let parts = neither_of (edges_touch s e) (list_any (edges_touch s) xs) h in
    and_from (stands e s) (list_all (λ e. stands e s) xs)
    (clear_stands e s (touching_is_symmetric e.a e.b s.a s.b ∙ parts.0)) (clear_of s xs parts.1)

-- ---- the edges of one polygon

by_number : (next last : Bool) (x y z : Bool) → cond next x (cond last y z) ≡ true → next ≡ false → last ≡ false → z
    ≡ true
by_number true last x y z h a b = absurd (grind arith)
by_number false true x y z h a b = absurd (grind arith)
by_number false false x y z h a b = h

may_far : (count k m : ℕ) (e f : Segment) → may_be_edges count ((k, e), (m, f)) ≡ true → k + 1 < m
    → ((k == 0) && (m + 1 == count)) ≡ false → stands e f ≡ true
unfolding may_be_edges
may_far count k m e f h far last =
    clear_stands e f (tested_not (edges_touch e f) (by_number (m == k + 1) ((k == 0) && (m + 1 == count))
    (not (folds_back e f)) (not (folds_back f e)) (not (edges_touch e f)) h (grind arith) last))

-- an edge that isn't the first, and those that don't follow it
far_stand : (count k m : ℕ) (e : Segment) (fs : List Segment) → 0 < k → k + 1 < m
    → list_all (λ t. may_be_edges count t) (map (with_each (k, e)) (enumerate_from m fs)) ≡ true
    → list_all (stands e) fs ≡ true
far_stand count k m e [] some far h = refl
far_stand count k m e (f ∷ fs) some far h =
    let parts = and_parts (may_be_edges count ((k, e), (m, f)))
    (list_all (λ t. may_be_edges count t) (map (with_each (k, e)) (enumerate_from (m + 1) fs))) h in
    and_from (stands e f) (list_all (stands e) fs) (may_far count k m e f parts.0 far (grind arith))
    (far_stand count k (m + 1) e fs some (omega arith) parts.1)

follow_stands : (e f : Segment) → same_point e.b f.a ≡ true → not (folds_back e f) ≡ true → stands e f ≡ true
follow_stands e f h k = either (not (edges_touch e f)) (follows e f) (follows f e)
    (and_from (same_point e.b f.a) (not (folds_back e f)) h k)
  where
    either : (x y z : Bool) → y ≡ true → (x || (y || z)) ≡ true
    either x y z h = grind arith

preceding_stands : (e f : Segment) → same_point f.b e.a ≡ true → not (folds_back f e) ≡ true → stands e f ≡ true
preceding_stands e f h k = either (not (edges_touch e f)) (follows e f) (follows f e)
    (and_from (same_point f.b e.a) (not (folds_back f e)) h k)
  where
    either : (x y z : Bool) → z ≡ true → (x || (y || z)) ≡ true
    either x y z h = grind arith

pub same_itself : (p : Point) → same_point p p ≡ true
same_itself p = and_from (int_eq p.x p.x) (int_eq p.y p.y) (same_tested p.x) (same_tested p.y)

may_next : (count k : ℕ) (e f : Segment) → may_be_edges count ((k, e), (k + 1, f)) ≡ true → same_point e.b f.a ≡ true
    → stands e f ≡ true
unfolding may_be_edges
may_next count k e f h same = follow_stands e f same (at_next (k + 1 == k + 1) _ _ h (grind arith))
  where
    at_next : (next x y : Bool) → cond next x y ≡ true → next ≡ true → x ≡ true
    at_next true x y h k = h
    at_next false x y h k = absurd (grind arith)

-- the edges from the second on
next_stand : (count k : ℕ) (e f : Segment) (fs : List Segment) → 0 < k → same_point e.b f.a ≡ true
    → list_all (λ t. may_be_edges count t) (map (with_each (k, e)) (enumerate_from (k + 1) (f ∷ fs))) ≡ true
    → list_all (stands e) (f ∷ fs) ≡ true
next_stand count k e f fs some same h =
    let parts = and_parts (may_be_edges count ((k, e), (k + 1, f)))
    (list_all (λ t. may_be_edges count t) (map (with_each (k, e)) (enumerate_from (k + 1 + 1) fs))) h in
    and_from (stands e f) (list_all (stands e) fs) (may_next count k e f parts.0 same)
    (far_stand count k (k + 1 + 1) e fs some (omega arith) parts.1)

two_parts : (count k : ℕ) (e : Segment) (es : List Segment)
    → list_all (λ t. may_be_edges count t) (pairs (enumerate_from k (e ∷ es))) ≡ true
    → (list_all (λ t. may_be_edges count t) (map (with_each (k, e)) (enumerate_from (k + 1) es)) ≡ true)
    × (list_all (λ t. may_be_edges count t) (pairs (enumerate_from (k + 1) es)) ≡ true)
two_parts count k e es h =
    and_parts (list_all (λ t. may_be_edges count t) (map (with_each (k, e)) (enumerate_from (k + 1) es)))
    (list_all (λ t. may_be_edges count t) (pairs (enumerate_from (k + 1) es)))
    (sym (list_all-append (λ t. may_be_edges count t) (map (with_each (k, e)) (enumerate_from (k + 1) es))
    (pairs (enumerate_from (k + 1) es))) ∙ h)

two_stand : (e : Segment) (es : List Segment) → list_all (stands e) es ≡ true → each_two stands es ≡ true
    → each_two stands (e ∷ es) ≡ true
two_stand e es h k = each_two_cons stands e es ∙ and_from (list_all (stands e) es) (each_two stands es) h k

abbrev edge : Point → Point → Segment
edge p q = record { a = p; b = q }

chain_stands : (count k : ℕ) (first p : Point) (points : List Point) → 0 < k
    → list_all (λ t. may_be_edges count t) (pairs (enumerate_from k (edges_to first (p ∷ points)))) ≡ true
    → each_two stands (edges_to first (p ∷ points)) ≡ true
unfolding edges_to
chain_stands count k first p [] some h = refl
chain_stands count k first p (q ∷ []) some h =
    let parts = two_parts count k (edge p q) (edge q first ∷ []) h in
    two_stand (edge p q) (edge q first ∷ []) (next_stand count k (edge p q) (edge q first) [] some (same_itself q)
    parts.0) (chain_stands count (k + 1) first q [] (omega arith) parts.1)
chain_stands count k first p (q ∷ r ∷ points) some h =
    let parts = two_parts count k (edge p q) (edges_to first (q ∷ r ∷ points)) h in
    two_stand (edge p q) (edges_to first (q ∷ r ∷ points))
    (next_stand count k (edge p q) (edge q r) (edges_to first (r ∷ points)) some (same_itself q) parts.0)
    (chain_stands count (k + 1) first q (r ∷ points) (omega arith) parts.1)

may_last : (count m : ℕ) (e f : Segment) → may_be_edges count ((0, e), (m, f)) ≡ true → 1 < m → m + 1 ≡ count
    → same_point f.b e.a ≡ true → stands e f ≡ true
unfolding may_be_edges
may_last count m e f h far whole same =
    preceding_stands e f same (at_last (m == 0 + 1) ((0 == 0) && (m + 1 == count)) (not (folds_back e f))
    (not (folds_back f e)) (not (edges_touch e f)) h (grind arith) (grind arith))
  where
    at_last : (next last x y z : Bool) → cond next x (cond last y z) ≡ true → next ≡ false → last ≡ true → y ≡ true
    at_last true last x y z h a b = absurd (grind arith)
    at_last false true x y z h a b = h
    at_last false false x y z h a b = absurd (grind arith)

-- the first edge and those that don't follow it
first_stands : (count m : ℕ) (first : Point) (e : Segment) (points : List Point) → same_point first e.a ≡ true → 1 < m
    → m + length points ≡ count
    → list_all (λ t. may_be_edges count t) (map (with_each (0, e)) (enumerate_from m (edges_to first points))) ≡ true
    → list_all (stands e) (edges_to first points) ≡ true
unfolding edges_to
first_stands count m first e [] same far whole h = refl
first_stands count m first e (p ∷ []) same far whole h =
    let parts = and_parts (may_be_edges count ((0, e), (m, edge p first))) true h in
    and_from (stands e (edge p first)) true (may_last count m e (edge p first) parts.0 far whole same) refl
first_stands count m first e (p ∷ q ∷ points) same far whole h =
    let parts = and_parts (may_be_edges count ((0, e), (m, edge p q)))
    (list_all (λ t. may_be_edges count t) (map (with_each (0, e))
    (enumerate_from (m + 1) (edges_to first (q ∷ points))))) h in
    and_from (stands e (edge p q)) (list_all (stands e) (edges_to first (q ∷ points)))
    (may_far count 0 m e (edge p q) parts.0 (omega arith) (not_last m count (length points) (omega (arith, whole))))
    (first_stands count (m + 1) first e (q ∷ points) same (omega arith) (omega (arith, whole)) parts.1)
  where
    not_last : (m count n : ℕ) → m + (n + 2) ≡ count → ((0 == 0) && (m + 1 == count)) ≡ false
    not_last m count n h = grind arith

-- the edges of a simple polygon stand beside each other
pub polygon_stands : (count : ℕ) (points : List Point) → length points ≡ count
    → list_all (λ t. may_be_edges count t) (numbered_pairs (edges_of points)) ≡ true
    → each_two stands (edges_of points) ≡ true
unfolding edges_to
polygon_stands count [] whole h = refl
polygon_stands count (p ∷ []) whole h = refl
polygon_stands count (p ∷ q ∷ []) whole h =
    let parts = two_parts count 0 (edge p q) (edge q p ∷ []) h in
    let one = and_parts (may_be_edges count ((0, edge p q), (1, edge q p))) true parts.0 in
    two_stand (edge p q) (edge q p ∷ []) (and_from (stands (edge p q) (edge q p)) true
    (may_next count 0 (edge p q) (edge q p) one.0 (same_itself q)) refl) refl
polygon_stands count (p ∷ q ∷ r ∷ points) whole h =
    let parts = two_parts count 0 (edge p q) (edges_to p (q ∷ r ∷ points)) h in
    let one = and_parts (may_be_edges count ((0, edge p q), (1, edge q r)))
    (list_all (λ t. may_be_edges count t) (map (with_each (0, edge p q))
    (enumerate_from 2 (edges_to p (r ∷ points))))) parts.0 in
    two_stand (edge p q) (edges_to p (q ∷ r ∷ points))
    (and_from (stands (edge p q) (edge q r)) (list_all (stands (edge p q)) (edges_to p (r ∷ points)))
    (may_next count 0 (edge p q) (edge q r) one.0 (same_itself q))
    (first_stands count 2 p (edge p q) (r ∷ points) (same_itself p) (omega arith) (omega (arith, whole)) one.1))
    (chain_stands count 1 p q (r ∷ points) (omega arith) parts.1)
