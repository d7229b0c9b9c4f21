use Rattle.std.proofs.Common.{◌∙◌, ◌++◌, ◌∷◌, [], ap, sym, arith}
use Rattle.std.proofs.lemmas.List.FromFn.{map-range_with_len_more}
use Rattle.std.specs.Fmt.{decimal}
use Rattle.edge_text.proofs.digits.digits_below.Goals as goal

pub loop-number-preserved : goal.loop-number-preserved
loop-number-preserved c =
    let number = c.loop-number.number in
    c.in_ok-push.ensures.items
    ∙ ap (λ digits. c.loop-number.all.items ++ digits ∷ []) c.of.ensures
    ∙ ap (λ all. all ++ decimal number ∷ []) c.loop-number.invariant
    ∙ sym (map-range_with_len_more decimal 0 number number (omega arith))
