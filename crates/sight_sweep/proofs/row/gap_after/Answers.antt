use Rattle.std.specs.Prelude.{◌≡◌, ◌+◌, ◌<◌, ◌≤◌, ◌≢◌, ℕ, min}
use Rattle.std.proofs.Common.{◌-◌, ◌∙◌, refl, sym, ap, subst, arith, get_or, length}
use Rattle.std.proofs.lemmas.List.{get_or_default}
use Rattle.view_laws.specs.declared.view.Sector.{Sector}
use Rattle.sight_sweep.proofs.Counting.{count_none, count_some, radial_away}
use Rattle.sight_sweep.proofs.Telling.{told_first, told_from}
use Rattle.sight_sweep.proofs.row.gap_after.Goals as goal

pub returns-then-count-eq0 : goal.returns-then-count-eq0
returns-then-count-eq0 c place inside =
    let sectors = c.args.view.now.sectors.items in
    let next = subst (λ xs. c.args.count < length xs → (s : Sector)
    → c.place_of_sector-upto.result ≡ (get_or xs c.args.count s).place) c.deref.ensures.value
    c.place_of_sector-upto.ensures in
    let count = count_none sectors place c.args.count c.requires.order c.if-count-eq0.true
    (λ lt s. subst (λ n. place < n) (next lt s) inside.upto) in
    told_first c.args.view.now.before sectors place c.args.count c.if-count-eq0.true count.beyond

-- what isn't before the next number, and isn't the last of all, is past this one
past : (n from upto place : ℕ) → from ≡ min (n + 1) 18446744073709551615 → upto < 18446744073709551616 → from ≤ place
    → place < upto → n < place
past n from upto place is small low high = omega (arith, is, small, low, high)

at_most : (m n : ℕ) → m < n → m ≤ n
at_most m n h = omega (arith, h)

other : (m n : ℕ) → m < n → n ≢ m
other m n h e = omega (arith, h, e)

pub returns : goal.returns
returns c place inside =
    let sectors = c.args.view.now.sectors.items in
    let s = c.index-sector.result.now in
    let some = c.if-count-eq0.false in
    let next = subst (λ xs. c.args.count < length xs → (s : Sector)
    → c.place_of_sector-upto.result ≡ (get_or xs c.args.count s).place) c.deref.ensures.value
    c.place_of_sector-upto.ensures in
    let after : s.place < place = past s.place c.saturating_add.result c.place_of_sector-upto.result place
    c.saturating_add.ensures c.place_of_sector-upto.type_inv inside.from inside.upto in
    let read : s ≡ get_or sectors (c.args.count - 1) s = c.index-sector.ensures in
    let count = count_some sectors place c.args.count (c.args.count - 1) c.requires.order (omega (arith, some))
    c.requires.within (λ lt e. subst (λ n. place < n) (next lt e) inside.upto)
    (λ lt e. at_most (get_or sectors (c.args.count - 1) e).place place
    (subst (λ t. t.place < place) (read ∙ get_or_default sectors (c.args.count - 1) s e lt) after)) in
    told_from c.args.view.now.before sectors place c.args.count s c.requires.order some count.within count.reached
    count.beyond read
    ∙ radial_away s place (other s.place place after)
