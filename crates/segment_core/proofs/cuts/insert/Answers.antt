use Rattle.std.proofs.Common.{◌≡◌, ◌≤◌, ◌&&◌, List, length, get_or, sym, ap, ◌∙◌, subst}
use Rattle.std.specs.Prelude.{nat_lt}
use Rattle.std.specs.List.Sorted.{IsPartitionPoint}
use Rattle.std.specs.Prelude.{true, false}
use Rattle.plane_spec.specs.Fractions.{Fraction, is_before, same_value}
use Rattle.segment_core.proofs.Cutting.{put_in}
use Rattle.segment_core.proofs.cuts.insert.Goals as goal

pub returns : goal.returns
returns c =
    let x = c.args.cut in
    let ts = c.args.cuts.now.items in
    let i = c.place_of-place.result in
    let e = c.as_slice.ensures.value in
    let r = c.requires in
    let below : i ≤ length ts = subst (λ (us : List Fraction). i ≤ length us) e c.place_of-place.ensures.bound in
    let place : IsPartitionPoint (λ t. is_before t x ≡ true) (λ t. is_before t x ≡ false) ts i =
    subst (λ (us : List Fraction). IsPartitionPoint (λ t. is_before t x ≡ true) (λ t. is_before t x
    ≡ false) us i) e c.place_of-place.ensures.point in
    let other : (nat_lt i (length ts) && same_value x (get_or ts i x)) ≡ false =
    ap (λ (us : List Fraction). nat_lt i (length us)
    && same_value x (get_or us i x)) (sym c.as_slice-2.ensures.value) ∙ sym c.stands_at.ensures
    ∙ c.if-stands_at.false in
    c.in_ok-insert.ensures.items ∙ put_in x ts i r.cut r.cuts r.rising below place other
