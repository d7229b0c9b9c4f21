use Rattle.std.proofs.Common.{◌≡◌, ◌≢◌, ◌<◌, ◌≤◌, sym, subst, rules, length, get_or}
use Rattle.std.specs.Prelude.{insert, false, true}
use Rattle.std.specs.List.Sorted.{IsPartitionedBy, IsPartitionPoint}
use Rattle.std.proofs.lemmas.List.Sorted.{IsPartitionPoint-from_clause}
use Rattle.front_laws.specs.Seen.{is_in_front}
use Rattle.sight_sweep.specs.Actives.{seen, IsActive, beside}
use Rattle.sight_sweep.proofs.Actives.{can_search, placed, already}
use Rattle.sight_sweep.proofs.active.put_in.Goals as goal

pub returns-then-has_at : goal.returns-then-has_at
returns-then-has_at c = record {
  put = λ scene p kept test way walls a of own all spanned.
      let xs = c.args.active.now.items in
      let there = c.has_at.ensures.there c.if-has_at.true in
      already scene p kept test xs c.partition_point-place.result c.args.new.number c.args.new a
      (subst (λ ys. c.partition_point-place.result < length ys) c.deref-2.ensures.value there.0)
      (subst (λ ys. (get_or ys c.partition_point-place.result c.args.new).number ≡ c.args.new.number)
      c.deref-2.ensures.value (there.1 c.args.new));
}

pub returns-in-Ok : goal.returns-in-Ok
returns-in-Ok c = record {
  put = λ scene p kept test way walls a of own all spanned.
      let xs = c.args.active.now.items in
      let w = c.args.new in
      let i = c.partition_point-place.result in
      let items : c.insert.new.self.items ≡ insert xs i w = search rules in
      let bound : i ≤ length xs = search rules in
      let parted = subst (IsPartitionedBy (λ v. is_in_front (seen v) (seen w))) (sym c.deref.ensures.value)
      (can_search scene p kept test way xs w walls a of all spanned) in
      let point = IsPartitionPoint-from_clause
      (λ v. is_in_front (seen v) (seen w)) _ _ c.partition_point-place.ensures.partitioned parted
      (λ a r q k. search rules) in
      subst (IsActive scene p kept (beside w.number test)) (sym items)
      (placed scene p kept test way xs w i walls a of own all spanned bound
      (λ lt d. subst (λ ys. i < length ys → (get_or ys i d).number ≢ w.number) c.deref-2.ensures.value
      (λ within. c.has_at.ensures.not_there c.if-has_at.false within d) lt)
      (subst (λ ys. IsPartitionPoint (λ v. is_in_front (seen v) (seen w) ≡ true)
      (λ v. is_in_front (seen v) (seen w) ≡ false) ys i) c.deref.ensures.value point));
}
