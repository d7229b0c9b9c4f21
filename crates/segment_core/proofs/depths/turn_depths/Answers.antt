use Rattle.std.proofs.Common.{◌≡◌, ◌≢◌, ◌<◌, ◌+◌, ◌*◌, ◌==◌, ◌∙◌, ◌++◌, ℕ, zero, suc, Bool, true, false, List, [], ◌∷◌, Option, None, length, length-append, get_or, refl, sym, ap, arith, subst}
use Rattle.std.proofs.lemmas.Bool.{eqb-true, eqb-false}
use Rattle.std.proofs.lemmas.List.{get_or_read_under}
use Rattle.segment_core.specs.Steps.{cost_at, lesser_below}
use Rattle.segment_core.proofs.depths.turn_depths.Invariants.{Listed}
use Rattle.segment_core.proofs.InRange.{pieces_in_range}
use Rattle.segment_core.proofs.Least.{depths_are}
use Rattle.segment_core.proofs.depths.turn_depths.Goals as goal

read_before : (xs : List (Option ℕ)) (y : Option ℕ) (j : ℕ) → j < length xs
    → get_or (xs ++ y ∷ []) j None ≡ get_or xs j None
read_before [] y j below = absurd (omega (arith, below))
read_before (x ∷ xs) y zero below = refl
read_before (x ∷ xs) y (suc j) below = read_before xs y j (omega (arith, below))

read_last : (xs : List (Option ℕ)) (y : Option ℕ) → get_or (xs ++ y ∷ []) (length xs) None ≡ y
read_last [] y = refl
read_last (x ∷ xs) y = read_last xs y

listed_more : (depths : List (Option ℕ)) (costs : List ℕ) (far k : ℕ) (depth : Option ℕ)
    → depth ≡ lesser_below far (cost_at costs (2 * k + 1)) (cost_at costs (2 * k)) → Listed depths costs far k
    → Listed (depths ++ depth ∷ []) costs far (k + 1)
listed_more depths costs far k depth is h = record {
  one_each = omega (arith, length-append depths (depth ∷ []), h.one_each);
  each = λ j below. by j below (j == k) (eqb-true j k) (eqb-false j k);
}
  where
    by : (j : ℕ) → j < k + 1 → (b : Bool) → (b ≡ true → j ≡ k) → (b ≡ false → j ≢ k)
        → get_or (depths ++ depth ∷ []) j None ≡ lesser_below far (cost_at costs (2 * j + 1)) (cost_at costs (2 * j))
    by j below true same other =
        subst (λ (i : ℕ). get_or (depths ++ depth ∷ []) i None
        ≡ lesser_below far (cost_at costs (2 * i + 1)) (cost_at costs (2 * i))) (sym (same refl))
        (ap (λ (i : ℕ). get_or (depths ++ depth ∷ []) i None) (sym h.one_each) ∙ read_last depths depth ∙ is)
    by j below false same other =
        let earlier : j < k = omega (arith, below, other refl) in
        read_before depths depth j (omega (arith, earlier, h.one_each)) ∙ h.each j earlier

pub returns : goal.returns
returns c =
    let l = c.loop-k.invariant in
    depths_are c.args.pieces.now c.args.source c.in_ok-costs.costs.items c.in_ok-costs.ensures c.loop-k.depths.items
    (omega (arith, l.one_each, c.loop-k-test.false, c.loop-k.auto.k-end))
    (λ k below. l.each k (omega (arith, below, c.loop-k-test.false)))

pub costs-requires-clause-in_range : goal.costs-requires-clause-in_range
costs-requires-clause-in_range c = pieces_in_range c.args.pieces.now c.requires.pieces

pub overflow_cast-far : goal.overflow_cast-far
overflow_cast-far c = omega (arith, (pieces_in_range c.args.pieces.now c.requires.pieces).at_most)

pub overflow_mul-far : goal.overflow_mul-far
overflow_mul-far c = omega (arith, (pieces_in_range c.args.pieces.now c.requires.pieces).at_most)

pub overflow_add-far : goal.overflow_add-far
overflow_add-far c = omega (arith, (pieces_in_range c.args.pieces.now c.requires.pieces).at_most)

pub loop-k-preserved : goal.loop-k-preserved
loop-k-preserved c =
    let costs = c.in_ok-costs.costs.items in
    let k = c.loop-k.k in
    let far = 32 * length c.args.pieces.now + 1 in
    let all = c.in_ok-costs.ensures.one_each in
    let there : 2 * k + 1 < length costs = omega (arith, all, c.loop-k-test.true) in
    let forward = get_or_read_under costs (2 * k + 1) (length costs) c.index.result.now 0 c.index.ensures there refl in
    let back = get_or_read_under costs (2 * k)
    (length costs) c.index-in-loop-k.result.now 0 c.index-in-loop-k.ensures (omega (arith, there)) refl in
    let is : c.lesser_below.result ≡ lesser_below far (cost_at costs (2 * k + 1)) (cost_at costs (2 * k)) =
    c.lesser_below.ensures ∙ ap (λ (a : ℕ). lesser_below far a c.index-in-loop-k.result.now) forward
    ∙ ap (λ (b : ℕ). lesser_below far (cost_at costs (2 * k + 1)) b) back in
    rw c.in_ok-push.ensures.items (listed_more c.loop-k.depths.items costs far k c.lesser_below.result is
    c.loop-k.invariant)
