-- A plan, read line by line.
use Rattle.std.proofs.Common.{◌≡◌, ℕ, ◌+◌, ◌<◌, ◌≤◌, List, [], ◌∷◌, ◌++◌, length, map, false, Option, Some, None}
use Rattle.std.proofs.Common.{is_none, Ok, Err, refl, sym, ap, ◌∙◌, append_assoc, arith}
use Rattle.std.proofs.lemmas.List.{append-nil, map-append}
use Rattle.text_spec.specs.Lines.{lines_of}
use Rattle.plan_spec.specs.declared.item.Item.{Item}
use Rattle.grammar_spec.specs.declared.text_why.TextWhy.TheVariants.{Kind}
use Rattle.grammar_spec.specs.PlanText.{PlanReading, item_before, read_next, read_plan_line, read_plan_lines}
use Rattle.grammar_spec.specs.PlanText.{read_plan_text, items_read, numbers_read}
use Rattle.grammar_spec.specs.declared.plan_line.Version.{Version}
use Rattle.grammar_spec.specs.declared.plan_line.PlanLine.{PlanLine}
use Rattle.grammar_spec.specs.declared.plan_line.PlanLine.TheVariants.{Blank, Header, Item as OfItem}
use Rattle.plan_text.specs.declared.plans.PartialPlan.{PartialPlan}
use Rattle.plan_text.specs.declared.faults.ReadLineFault.{ReadLineFault}
use Rattle.plan_text.specs.declared.faults.ReadLineFault.TheVariants.{Bad, NoMemory}
use Rattle.plan_text.specs.Answers.{Answers, fault_at}
use Rattle.plan_text.specs.Readings.{ReadsPlan}
use Rattle.plan_text.specs.PartialPlans.{with_line}

-- what was read so far, before what is left
abbrev pub items_after : List (ℕ × Item) → PlanReading → PlanReading
items_after front (Ok items) = Ok (front ++ items)
items_after front (Err fault) = Err fault

-- the draft holds the items so far, and with the reading of what is left they are the reading of all
pub record IsRead (bytes : List ℕ) (draft : PartialPlan) (number : ℕ) (rest : List ℕ) : Type 0 where
  pub front : List (ℕ × Item)
  pub items : draft.items ≡ items_read front
  pub lines : draft.lines ≡ map (λ item. item.0) front
  pub left : items_after front (read_plan_lines draft.header number (lines_of rest)) ≡ read_plan_text bytes
  pub counted : number + length (lines_of rest) ≡ length (lines_of bytes) + 1
  pub within : number + length rest ≤ length bytes + 1

after_none : (reading : PlanReading) → items_after [] reading ≡ reading
after_none (Ok items) = refl
after_none (Err fault) = refl

pub nothing_read : (bytes : List ℕ) → IsRead bytes (record { header = None; items = []; lines = [] }) 1 bytes
unfolding read_plan_text
nothing_read bytes = record {
  front = [];
  items = refl;
  lines = refl;
  left = after_none (read_plan_lines None 1 (lines_of bytes));
  counted = omega arith;
  within = omega arith;
}

-- the first of the lines that are left
lines_step : (header : Option Version) (number : ℕ) (rest line more : List ℕ) → lines_of rest ≡ line ∷ lines_of more →
    read_plan_lines header number (lines_of rest) ≡ read_next number header (read_plan_line header line) (λ next. read_plan_lines next (number + 1) (lines_of more))
unfolding read_plan_lines
lines_step header number rest line more e = rw e refl

one_after : (front : List (ℕ × Item)) (item : ℕ × Item) (reading : PlanReading) → items_after front (item_before item reading) ≡ items_after (front ++ item ∷ []) reading
one_after front item (Ok items) = ap Ok (sym (append_assoc front (item ∷ []) items))
one_after front item (Err fault) = refl

counted_on : (number : ℕ) (bytes rest line more : List ℕ) → lines_of rest ≡ line ∷ lines_of more → number + length (lines_of rest) ≡ length (lines_of bytes) + 1 →
    number + 1 + length (lines_of more) ≡ length (lines_of bytes) + 1
counted_on number bytes rest line more e h = omega (arith, ap length e)

-- one line more
pub line_read : (bytes : List ℕ) (draft : PartialPlan) (number : ℕ) (rest line more : List ℕ) (found : PlanLine) → IsRead bytes draft number rest →
    lines_of rest ≡ line ∷ lines_of more → length more < length rest → read_plan_line draft.header line ≡ Ok found →
    IsRead bytes (with_line number found draft) (number + 1) more
line_read bytes draft number rest line more Blank h e shorter is = record {
  front = h.front;
  items = h.items;
  lines = h.lines;
  left = rw (lines_step draft.header number rest line more e, is) at h.left;
  counted = counted_on number bytes rest line more e h.counted;
  within = omega (arith, h.within);
}
line_read bytes draft number rest line more (Header version) h e shorter is = record {
  front = h.front;
  items = h.items;
  lines = h.lines;
  left = rw (lines_step draft.header number rest line more e, is) at h.left;
  counted = counted_on number bytes rest line more e h.counted;
  within = omega (arith, h.within);
}
line_read bytes draft number rest line more (OfItem item) h e shorter is = record {
  front = h.front ++ (number, item) ∷ [];
  items = ap (λ items. items ++ item ∷ []) h.items ∙ sym (map-append (λ item. item.1) h.front ((number, item) ∷ []));
  lines = ap (λ lines. lines ++ number ∷ []) h.lines ∙ sym (map-append (λ item. item.0) h.front ((number, item) ∷ []));
  left = sym (one_after h.front (number, item) (read_plan_lines draft.header (number + 1) (lines_of more))) ∙ (rw (lines_step draft.header number rest line more e, is) at h.left);
  counted = counted_on number bytes rest line more e h.counted;
  within = omega (arith, h.within);
}

-- a line that isn't read
pub line_refused : (bytes : List ℕ) (draft : PartialPlan) (number : ℕ) (rest line more : List ℕ) (fault : ReadLineFault) → IsRead bytes draft number rest →
    lines_of rest ≡ line ∷ lines_of more → Answers (read_plan_line draft.header line) (Err fault) → ReadsPlan bytes (Err (fault_at number fault))
line_refused bytes draft number rest line more (Bad why) h e is = sym (rw (lines_step draft.header number rest line more e, is) at h.left)
line_refused bytes draft number rest line more NoMemory h e is = tt

-- the end, without a header and with one
pub no_header : (bytes : List ℕ) (draft : PartialPlan) (number : ℕ) (rest : List ℕ) → IsRead bytes draft number rest → lines_of rest ≡ [] → draft.header ≡ None →
    read_plan_text bytes ≡ Err (number, Kind)
unfolding read_plan_lines
no_header bytes draft number rest h e none = sym (rw (e, none) at h.left)

ended_by : (bytes : List ℕ) (draft : PartialPlan) (number : ℕ) (rest lines : List ℕ) (header : Option Version) → IsRead bytes draft number rest → lines_of rest ≡ [] →
    draft.header ≡ header → is_none header ≡ false → lines ≡ draft.lines ++ number ∷ [] →
    (items : List (ℕ × Item)) × (read_plan_text bytes ≡ Ok items) × (draft.items ≡ items_read items) × (lines ≡ numbers_read bytes items)
unfolding read_plan_lines
ended_by bytes draft number rest lines None h e is some pushed = absurd cc
ended_by bytes draft number rest lines (Some version) h e is some pushed =
    let last : number ≡ length (lines_of bytes) + 1 = omega (arith, h.counted, ap length e) in
    (h.front, sym (rw (e, is) at h.left) ∙ ap Ok (append-nil h.front), h.items, pushed ∙ rw (h.lines, last) refl)

pub ended : (bytes : List ℕ) (draft : PartialPlan) (number : ℕ) (rest lines : List ℕ) → IsRead bytes draft number rest → lines_of rest ≡ [] →
    is_none draft.header ≡ false → lines ≡ draft.lines ++ number ∷ [] →
    (items : List (ℕ × Item)) × (read_plan_text bytes ≡ Ok items) × (draft.items ≡ items_read items) × (lines ≡ numbers_read bytes items)
ended bytes draft number rest lines h e some pushed = ended_by bytes draft number rest lines draft.header h e refl some pushed
