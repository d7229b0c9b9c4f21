use Rattle.std.specs.Prelude.{◌≡◌, ℕ, ◌<◌, true}
use Rattle.std.proofs.Common.{arith, sym, subst, inl, inr, get_or}
use Rattle.std.proofs.lemmas.Bool.{cases_eq}
use Rattle.std.proofs.lemmas.List.{get_or_default}
use Rattle.view_laws.specs.Views.{is_in_arc}
use Rattle.view_laws.specs.declared.view.Arc.TheVariants as arcs
use Rattle.vga_looks.specs.Tables.{way_between}
use Rattle.vga_looks.proofs.Later.{later_is_upper}
use Rattle.vga_looks.proofs.Turning.{IsBetween, in_part, no_left, through, wider}
use Rattle.vga_looks.proofs.arcs.arc_to.Goals as goal

pub loop-k-preserved : goal.loop-k-preserved
loop-k-preserved c =
    let before = c.loop-k.invariant in
    let first = c.first_of-first in
    let last = c.last_of-last in
    let way = c.way_to-way.result in
    let plan = c.args.plan.now in
    let i = c.args.i in
    let k = c.loop-k.k in
    let numbers = c.args.numbers.now in (
      first.ensures.later,
      last.ensures.later,
      through first.result way last.result first.ensures.one last.ensures.one,
      λ m lt. elim (cases_eq m k) [
        | inl e ↦
            subst (λ (n : ℕ). IsBetween first.result last.result (way_between plan i (get_or numbers n 0))) (sym e)
            (subst (IsBetween first.result last.result) c.way_to-way.ensures.way
            (record { later = c.way_to-way.ensures.later; low = first.ensures.one; high = last.ensures.one }))
        | inr ne ↦
            wider c.loop-k.first c.loop-k.last first.result last.result (way_between plan i (get_or numbers m 0))
            first.ensures.other last.ensures.other (before.3 m (omega (arith, lt, ne)))
      ],
    )

pub returns-then-is_empty-clause-all : goal.returns-then-is_empty-clause-all
unfolding is_in_arc
returns-then-is_empty-clause-all c k d lt =
    let later = c.requires.later k d lt in
    later_is_upper c.args.plan.now c.args.i (get_or c.args.numbers.now k d) c.requires.sound later.0 later.1

pub returns-clause-arc : goal.returns-clause-arc
returns-clause-arc c =
    let all = c.loop-k.invariant in
    record { first_later = all.0; last_later = all.1; in_order = no_left c.loop-k.last c.loop-k.first all.1 all.0 all.2 }

pub returns-clause-all : goal.returns-clause-all
returns-clause-all c k d lt =
    let all = c.loop-k.invariant in
    let numbers = c.args.numbers.now in
    let b = all.3 k (omega (arith, lt, c.loop-k-test.false)) in
    subst (λ (n : ℕ). is_in_arc (arcs.Between c.loop-k.first c.loop-k.last) (way_between c.args.plan.now c.args.i n) ≡ true)
    (sym (get_or_default numbers k d 0 lt))
    (in_part c.loop-k.first c.loop-k.last (way_between c.args.plan.now c.args.i (get_or numbers k 0)) all.0 all.1 b.later b.low b.high)
