use Rattle.std.proofs.Common.{◌≡◌, ◌∙◌, ◌+◌, ap, sym, subst}
use Rattle.std.specs.Prelude.{true, All}
use Rattle.std.specs.Option.{option_map}
use Rattle.sight_sweep.specs.Actives.{first_of, front}
use Rattle.sight_sweep.specs.Events.{way_at, corner_of}
use Rattle.sight_sweep.specs.LeftOut.{is_set}
use Rattle.sight_sweep.specs.Rounds.{is_past, IsUnderway}
use Rattle.view_laws.specs.Views.{number_by}
use Rattle.sight_sweep.proofs.Passing.{pass_silently, pass_telling}
use Rattle.std.proofs.lemmas.Result.{on_ok_weaker}
use Rattle.sight_sweep.proofs.round.pass.Goals as goal

pub returns-then-is_silent : goal.returns-then-is_silent
returns-then-is_silent c = record {
  passed = λ arc shown start before place left g u.
      let was = c.first_of-before.ensures ∙ ap (λ xs. option_map front (first_of xs)) c.deref.ensures.value in
      let on = c.first_of-on.ensures ∙ ap (λ xs. option_map front (first_of xs)) c.deref-2.ensures.value in
      let next = c.first_of-after.ensures ∙ ap (λ xs. option_map front (first_of xs)) c.deref-4.ensures.value in
      pass_silently c.args.table.now c.args.p arc (is_set c.args.kept.now) shown start place before
      c.args.sectors.now.items c.args.group.now
      c.args.active.now.items c.take_all_ended.new.active.items c.put_all_begun.new.active.items
      c.requires.station left g u c.take_all_ended.ensures.taken
      (λ test way a old new. c.in_ok-put_all_begun.ensures.put test way a old new)
      (sym (ap number_by was) ∙ c.is_silent.ensures.on c.if-is_silent.true ∙ ap number_by on)
      (sym (ap number_by on) ∙ c.is_silent.ensures.after c.if-is_silent.true ∙ ap number_by next)
      (subst (λ xs. All (λ e. is_past (first_of xs) (way_at c.args.p c.args.table.now.corners (corner_of e)) ≡ true)
      c.args.group.now) c.deref-3.ensures.value
      (c.are_past-hidden.ensures (c.is_silent.ensures.hidden c.if-is_silent.true)));
}

pub returns : goal.returns
returns c = record {
  passed = λ arc shown start before place left g u.
      let on = c.first_of-on.ensures ∙ ap (λ xs. option_map front (first_of xs)) c.deref-2.ensures.value in
      let next = c.first_of-after.ensures ∙ ap (λ xs. option_map front (first_of xs)) c.deref-4.ensures.value in
      on_ok_weaker c.push.result
      (λ items. subst (λ xs. IsUnderway c.args.table.now c.args.p arc (is_set c.args.kept.now) start before xs
      (place + 1) c.put_all_begun.new.active.items) (sym items)
      (pass_telling c.args.table.now c.args.p arc (is_set c.args.kept.now) shown start place before
      c.args.sectors.now.items c.sector_of.result
      c.args.group.now c.args.active.now.items c.take_all_ended.new.active.items c.put_all_begun.new.active.items
      c.requires.station left g u c.take_all_ended.ensures.taken
      (λ test way a old new. c.in_ok-put_all_begun.ensures.put test way a old new)
      (record {
        place = c.sector_of.ensures.place;
        way = c.sector_of.ensures.way;
        on = c.sector_of.ensures.on ∙ on;
        next = c.sector_of.ensures.after ∙ next;
        ahead = c.sector_of.ensures.ahead;
        behind = c.sector_of.ensures.behind;
      }))) c.push.ensures.pushed;
}
