use Rattle.std.proofs.Common.{◌≡◌, ◌∙◌, ◌<◌, ◌≤◌, ℕ, Bool, true, false, List, ap, arith, length, get_or}
use Rattle.std.specs.Prelude.{if◌then◌else◌}
use Rattle.line_graph.specs.declared.extents.Extent.{Extent}
use Rattle.line_graph.specs.Extents.{are_near}
use Rattle.line_graph.specs.Rows.{AreColumns, are_near_at, near_below, no_extent}
use Rattle.line_graph.proofs.Joins.{extent_by_sides}
use Rattle.line_graph.proofs.near.gather.Goals as goal

one_at_most : (b : Bool) → (if b then 1 else 0) ≤ 1
one_at_most true = omega arith
one_at_most false = omega arith

at_most_by : (flag bit : ℕ) → flag ≡ bit → bit ≤ 1 → flag ≤ 1
at_most_by flag bit e h = omega arith

-- the mark of a number, by its extent
mark_is : (l r b a lefts rights belows aboves : List ℕ) (extents : List Extent) (i j flag : ℕ) → l ≡ lefts → r ≡ rights
    → b ≡ belows → a ≡ aboves → AreColumns lefts rights belows aboves extents → j < length extents
    → flag ≡ (if are_near (get_or extents i no_extent) (record {
      left = get_or l j 0;
      right = get_or r j 0;
      below = get_or b j 0;
      above = get_or a j 0;
    }) then 1 else 0)
    → flag ≡ (if are_near_at extents i j then 1 else 0)
mark_is l r b a lefts rights belows aboves extents i j flag l_is r_is b_is a_is columns below e =
    (rw (l_is, r_is, b_is, a_is) at e)
    ∙ ap (λ x. if are_near (get_or extents i no_extent) x then 1 else 0)
    (extent_by_sides lefts rights belows aboves extents columns j below)

pub pick-requires-clause-bits : goal.pick-requires-clause-bits
pick-requires-clause-bits c = λ j above below. at_most_by _ _ (c.mark.ensures j above below) (one_at_most _)

pub returns-clause-near : goal.returns-clause-near
returns-clause-near c =
    let extents = c.args.extents.now in
    let i = c.args.i in
    let sized : length c.mark.new.flags ≡ length extents = c.mark.auto.flags ∙ c.requires.flags in
    c.pick.ensures.near (are_near_at extents i)
    (λ j above below. mark_is c.deref.result.now c.deref-2.result.now c.deref-3.result.now c.deref-4.result.now
    c.args.columns.now.left.items c.args.columns.now.right.items c.args.columns.now.below.items
    c.args.columns.now.above.items extents i j _ c.deref.ensures.value c.deref-2.ensures.value c.deref-3.ensures.value
    c.deref-4.ensures.value c.requires.columns (omega (arith, below, sized)) (c.mark.ensures j above below))
    ∙ ap (λ (n : ℕ). near_below extents i n) sized
