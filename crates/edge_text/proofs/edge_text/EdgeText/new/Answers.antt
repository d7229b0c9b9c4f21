use Rattle.std.proofs.Common.{◌≡◌, ◌∙◌, ap, length, map, sym}
use Rattle.std.proofs.lemmas.List.FromFn.{length-map-range_with_len}
use Rattle.std.specs.Fmt.{decimal}
use Rattle.std.specs.List.{range_with_len}
use Rattle.edge_text.proofs.edge_text.EdgeText.new.Goals.{In_ok-lines}
use Rattle.edge_text.proofs.edge_text.EdgeText.new.Goals as goal

as_many : (c : In_ok-lines) → length c.in_ok-digits.digits.items ≡ c.args.nodes
as_many c = ap length c.in_ok-digits.ensures ∙ length-map-range_with_len decimal 0 c.args.nodes

pub invariant_of-result : goal.invariant_of-result
invariant_of-result c = (
  c.in_ok-digits.ensures ∙ ap (λ n. map decimal (range_with_len 0 n)) (sym (as_many c)),
  c.in_ok-lines.ensures,
)

pub returns : goal.returns
returns c = as_many c
