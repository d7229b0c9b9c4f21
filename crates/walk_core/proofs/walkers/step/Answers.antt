use Rattle.std.proofs.Common.{◌≡◌, ◌∙◌, ◌<◌, List, ℕ, All, length, ap, sym, arith, subst}
use Rattle.walk_spec.specs.Walks.{drawn_from}
use Rattle.walk_core.specs.Lists.{listed}
use Rattle.walk_core.proofs.Walking.{stays, goes, step_below}
use Rattle.walk_core.proofs.walkers.step.Goals as goal

pub returns-then-is_empty : goal.returns-then-is_empty
returns-then-is_empty c =
    let none : length (listed c.args.lists.now c.args.at) ≡ 0 = let l : length c.of-near.result.now ≡ 0 = grind (arith, c.if-is_empty.true, c.is_empty.ensures) in rw c.of-near.ensures.near at l in
    record {
      walker = sym (stays (listed c.args.lists.now) (record { at = c.args.at; generator = c.args.generator.now }) none);
      below = c.requires;
    }

pub returns : goal.returns
returns c =
    let some : 0 < length (listed c.args.lists.now c.args.at) = let l : 0 < length c.of-near.result.now = grind (arith, c.if-is_empty.false, c.is_empty.ensures) in rw c.of-near.ensures.near at l in
    let e = goes (listed c.args.lists.now) (record { at = c.args.at; generator = c.args.generator.now }) some in
    let w = c.pick.ensures ∙ ap (λ (xs : List ℕ). drawn_from xs c.args.generator.now) c.of-near.ensures.near ∙ sym e in
    record {
      walker = w;
      below = step_below c.args.lists.now.count c.args.at c.pick.result (listed c.args.lists.now) c.args.generator.now c.pick.new.generator c.requires
          (subst (λ (xs : List ℕ). All (λ v. v < c.args.lists.now.count) xs) c.of-near.ensures.near c.of-near.ensures.nodes) w;
    }
