-- The items of a trial plan, box by box.
use Rattle.std.proofs.Common.{◌≡◌, ◌≤◌, ◌<◌, ◌+◌, ◌*◌, ◌-◌, ℕ, suc, pos, List, [], ◌∷◌, ◌++◌, map, sym, ap, ◌∙◌, arith, append_assoc, append-nil}
use Rattle.std.specs.Prelude.{IsTrue}
use Rattle.std.specs.List.{range_with_len}
use Rattle.plan_spec.specs.declared.item.Item.{Item}
use Rattle.plan_spec.specs.declared.item.Item.TheVariants.{Grid, Outer}
use Rattle.plan_spec.specs.Accepted.{is_accepted}
use Rattle.report_spec.specs.Trial.{root_above, square_at, trial_box, trial_items}
use Rattle.trial_laws.proofs.Accepted.{trial_is_accepted}

-- the boxes from number i on
abbrev pub boxes_from : ℕ → ℕ → ℕ → List Item
boxes_from n c i = map (trial_box c) (range_with_len i (n - i))

-- the items before the boxes
abbrev pub room : ℕ → List Item
room c =
    Outer (square_at 0 0 (100 * c))
    ∷ Grid (record { step = pos 50; x0 = pos 25; y0 = pos 25; cols = pos (2 * c); rows = pos (2 * c) }) ∷ []

pub items_begun : (n c : ℕ) → c ≡ root_above n → room c ++ boxes_from n c 0 ≡ trial_items n
unfolding trial_items
items_begun n c found =
    let all : n - 0 ≡ n = omega arith in
    ap (λ k. room c ++ map (trial_box c) (range_with_len 0 k)) all
    ∙ ap (λ d. room d ++ map (trial_box d) (range_with_len 0 n)) found

boxes_first : (n c i : ℕ) → i < n → boxes_from n c i ≡ trial_box c i ∷ boxes_from n c (i + 1)
boxes_first n c i below =
    let one_more : n - i ≡ suc (n - (i + 1)) = omega arith in
    ap (λ k. map (trial_box c) (range_with_len i k)) one_more

pub items_next : (n c i : ℕ) (items : List Item) → i < n → items ++ boxes_from n c i ≡ trial_items n
    → (items ++ trial_box c i ∷ []) ++ boxes_from n c (i + 1) ≡ trial_items n
items_next n c i items below so_far =
    append_assoc items (trial_box c i ∷ []) (boxes_from n c (i + 1))
    ∙ ap (λ rest. items ++ rest) (sym (boxes_first n c i below)) ∙ so_far

pub items_ended : (n c i : ℕ) (items : List Item) → n ≤ i → items ++ boxes_from n c i ≡ trial_items n
    → items ≡ trial_items n
items_ended n c i items all so_far =
    let none : n - i ≡ 0 = omega arith in
    sym (append-nil items) ∙ ap (λ k. items ++ map (trial_box c) (range_with_len i k)) (sym none) ∙ so_far

pub accepted : (n : ℕ) (items : List Item) → 1 ≤ n → n ≤ 250 → items ≡ trial_items n → IsTrue (is_accepted items)
accepted n items some few same = ap is_accepted same ∙ trial_is_accepted n some few
