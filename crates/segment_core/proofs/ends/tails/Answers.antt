use Rattle.std.proofs.Common.{◌≡◌, ◌<◌, ◌+◌, ◌*◌, ℕ, List, length, get_or, drop, sym, ap, subst, arith}
use Rattle.std.specs.List.Sorted.{IsPermutation}
use Rattle.std.proofs.lemmas.List.{length-replicate}
use Rattle.segment_core.specs.declared.ends.End.{End}
use Rattle.segment_core.specs.Nodes.{AreTailsOf}
use Rattle.segment_core.specs.Ends.{AreSortedEnds}
use Rattle.segment_core.proofs.Places.{written_back}
use Rattle.segment_core.proofs.SortedEnds.{sorted_ends}
use Rattle.segment_core.proofs.Tails.{tails_are, tails_below, ends_length}
use Rattle.segment_core.proofs.ends.tails.Goals as goal

pub number_nodes-last-requires : goal.number_nodes-last-requires
number_nodes-last-requires c =
    let pieces = c.args.pieces.now in
    let ends = c.sort_unstable.new.self.items in
    let moved = subst (λ (es : List End). IsPermutation es ends) c.in_ok-ends.ensures
    c.sort_unstable.ensures.permutation in
    let all : length c.deref_mut.result.now ≡ 2 * length pieces = omega (
      arith,
      ap (λ
          (ts : List ℕ). length ts) c.deref_mut.ensures.value,
      ap (λ
          (ts : List ℕ). length ts) c.in_ok-tails.ensures,
      length-replicate {A = ℕ} (2 * length pieces) 0,
    ) in
    record {
      sorted = subst (λ (es : List End). AreSortedEnds es (length c.deref_mut.result.now)) (sym c.deref.ensures.value)
          (sorted_ends pieces ends (length c.deref_mut.result.now) c.requires.at_most moved
          c.sort_unstable.ensures.sorted all);
    }

pub overflow_add-result : goal.overflow_add-result
overflow_add-result c =
    let many : length c.deref.result.now ≡ 2 * length c.args.pieces.now = omega (
      arith,
      c.deref.ensures.len,
      c.sort_unstable.ensures.len,
      c.in_ok-ends.ends.ok.0,
      ap (λ
          (es : List End). length es) c.in_ok-ends.ensures,
      ends_length c.args.pieces.now,
    ) in
    omega (arith, many, c.number_nodes-last.ensures.numbered.low, c.requires.at_most)

pub returns-clause-tails : goal.returns-clause-tails
returns-clause-tails c =
    let back = written_back c.number_nodes-last.new.tails (drop
    (length c.number_nodes-last.new.tails) c.in_ok-tails.tails.items) c.in_ok-tails.tails.len (omega
    (arith, c.number_nodes-last.auto.tails, ap length c.deref_mut.ensures.value, c.in_ok-tails.tails.ok.0)) in
    let same = subst (λ (es : List End). IsPermutation es c.deref.result.now) c.in_ok-ends.ensures (subst (λ
    (es : List End). IsPermutation c.in_ok-ends.ends.items es)
    (sym c.deref.ensures.value) c.sort_unstable.ensures.permutation) in
    subst (λ (ts : List ℕ). AreTailsOf c.args.pieces.now ts) (sym back)
    (tails_are c.args.pieces.now c.deref.result.now c.number_nodes-last.new.tails c.number_nodes-last.result
    c.requires same (omega (
      arith,
      c.number_nodes-last.auto.tails,
      ap length c.deref_mut.ensures.value,
      ap length
          c.in_ok-tails.ensures,
      length-replicate {A = ℕ}
          (2 * length c.args.pieces.now) 0,
    )) c.number_nodes-last.ensures.numbered)

pub returns-clause-below : goal.returns-clause-below
returns-clause-below c =
    let back = written_back c.number_nodes-last.new.tails (drop
    (length c.number_nodes-last.new.tails) c.in_ok-tails.tails.items) c.in_ok-tails.tails.len (omega
    (arith, c.number_nodes-last.auto.tails, ap length c.deref_mut.ensures.value, c.in_ok-tails.tails.ok.0)) in
    let same = subst (λ (es : List End). IsPermutation es c.deref.result.now) c.in_ok-ends.ensures (subst (λ
    (es : List End). IsPermutation c.in_ok-ends.ends.items es)
    (sym c.deref.ensures.value) c.sort_unstable.ensures.permutation) in
    subst (λ (ts : List ℕ). (s : ℕ) → s < 2 * length c.args.pieces.now
    → get_or ts s 0 < c.number_nodes-last.result + 1) (sym back)
    (tails_below c.args.pieces.now c.deref.result.now c.number_nodes-last.new.tails c.number_nodes-last.result
    c.requires same (omega (
      arith,
      c.number_nodes-last.auto.tails,
      ap length c.deref_mut.ensures.value,
      ap length
          c.in_ok-tails.ensures,
      length-replicate {A = ℕ}
          (2 * length c.args.pieces.now) 0,
    )) c.number_nodes-last.ensures.numbered)
