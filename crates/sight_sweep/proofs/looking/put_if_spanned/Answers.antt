use Rattle.std.proofs.Common.{◌≡◌, ◌∙◌, ap, sym, subst, get_or}
use Rattle.std.specs.Option.{option_map}
use Rattle.std.proofs.lemmas.Result.{on_ok_weaker}
use Rattle.std.specs.Prelude.{false, true}
use Rattle.front_laws.specs.Seen.{spans}
use Rattle.sight_spec.specs.Isovist.{no_segment}
use Rattle.front_laws.proofs.Tests.{some_same, none_some}
use Rattle.sight_sweep.specs.Actives.{seen, IsActive, beside}
use Rattle.sight_sweep.specs.LeftOut.{is_set}
use Rattle.sight_sweep.specs.Rounds.{are_beside, spanned_so_far}
use Rattle.plane_spec.specs.Vectors.{vector}
use Rattle.sight_spec.specs.Scene.{blockers_of_scene}
use Rattle.round_laws.proofs.Bodies.{seen_of_number}
use Rattle.sight_sweep.proofs.Beginnings.{beside_unspanned, left_out_one, spanned_all_so_far, spanned_next_one}
use Rattle.sight_sweep.proofs.Beginnings.{spanned_other}
use Rattle.sight_sweep.proofs.looking.put_if_spanned.Goals as goal

pub returns-then-not-is_set : goal.returns-then-not-is_set
returns-then-not-is_set c a =
    left_out_one c.args.table.now c.args.p c.args.d (is_set c.args.kept.now) c.args.number c.args.active.now.items
    (sym c.is_set.ensures ∙ c.if-not-is_set.true) a

pub returns-then-are_beside : goal.returns-then-are_beside
returns-then-are_beside c a =
    let scene = c.args.table.now in let p = c.args.p in let d = c.args.d in let number = c.args.number in
    let line = get_or (blockers_of_scene scene) number no_segment in
    spanned_other scene p d (is_set c.args.kept.now) number c.args.active.now.items
    (λ s own. beside_unspanned p d line s (seen_of_number p (blockers_of_scene scene) number s c.requires.within own)
    (subst (λ w. are_beside d (vector p w.a) (vector p w.b) ≡ true) c.line-line.ensures.line
    (subst (λ v. are_beside d v (vector p c.line-line.result.b) ≡ true) c.vector.ensures.value
    (subst (λ v. are_beside d c.vector.result v ≡ true) c.vector-2.ensures.value
    (sym c.are_beside.ensures ∙ c.if-are_beside.true))))) a

pub returns-in_default : goal.returns-in_default
returns-in_default c a =
    spanned_other c.args.table.now c.args.p c.args.d (is_set c.args.kept.now) c.args.number c.args.active.now.items
    (λ s own. none_some s (sym (ap (option_map seen) c.in_default.is) ∙ c.seen.ensures.seen ∙ own)) a

pub returns-then-not-is_spanned : goal.returns-then-not-is_spanned
returns-then-not-is_spanned c a =
    let known = sym c.seen.ensures.seen ∙ ap (option_map seen) c.in-Some.is in
    spanned_other c.args.table.now c.args.p c.args.d (is_set c.args.kept.now) c.args.number c.args.active.now.items
    (λ s own. subst (λ t. spans c.args.d t ≡ false) (some_same (seen c.in-Some.blocker) s (sym known ∙ own))
    (sym c.is_spanned.ensures ∙ c.if-not-is_spanned.true)) a

pub returns : goal.returns
returns c a =
    let known = sym c.seen.ensures.seen ∙ ap (option_map seen) c.in-Some.is in
    let spanned = sym c.is_spanned.ensures ∙ c.if-not-is_spanned.false in
    let number = c.in-Some.ensures.number in
    on_ok_weaker c.put_in.result
    (λ active. spanned_next_one c.args.table.now c.args.p c.args.d (is_set c.args.kept.now) c.args.number
    c.put_in.new.active.items
    (seen c.in-Some.blocker) known spanned
    (subst (λ n. IsActive c.args.table.now c.args.p (is_set c.args.kept.now)
    (beside n (spanned_so_far c.args.d c.args.number)) c.put_in.new.active.items) number active))
    (c.put_in.ensures.put c.args.table.now c.args.p (is_set c.args.kept.now)
    (spanned_so_far c.args.d c.args.number) c.args.d c.requires.station.walls a c.in-Some.ensures.known
    (subst (λ n. is_set c.args.kept.now n ≡ true) (sym number) (sym c.is_set.ensures ∙ c.if-not-is_set.false))
    (spanned_all_so_far c.args.table.now c.args.p c.args.d (is_set c.args.kept.now) c.args.number) spanned)
