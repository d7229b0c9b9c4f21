-- Marks of nodes with their depths.
use Rattle.graph_laws.proofs.SameGraphs.{joins_no_other}
use Rattle.std.proofs.Common.{◌≡◌, ◌≢◌, ℕ, ◌+◌, ◌*◌, ◌/◌, ◌%◌, ◌<◌, ◌≤◌, Bool, true, false, List, length, get_or, set, Option, None, Some, refl, sym, ap, ◌∙◌, inl, inr, arith}
use Rattle.std.proofs.lemmas.Bool.{cases_eq, cases_lt}
use Rattle.std.proofs.lemmas.List.{get_or-set_same, get_or-set_other, length-set}
use Rattle.std.proofs.lemmas.Nat.Bits.{bit_at-zero}
use Rattle.std.proofs.Common.{cond, ltb}
use Rattle.std.proofs.lemmas.Bool.{eq-eqb, ne_eqb, lt-ltb, le-ltb}
use Rattle.std.proofs.lemmas.List.FromFn.{fill_by_all}
use Rattle.graph_spec.specs.Graphs.{IsSimpleGraph, Graph, depth_of, depths_of}
use Rattle.vga_grid.specs.Rows.{bit_of}
use Rattle.step_depth.specs.Levels.{IsMarked, IsClosed, is_at, is_beyond}
use Rattle.step_depth.proofs.Layers.{none_or_some, source_depth, at_source}
use Rattle.step_depth.proofs.Spreading.{Spreading, reached_within, total_within}

-- the nodes of word k below `at` are marked
pub record MarkingWord (depth k at : ℕ) (front : ℕ → Bool) (before now : List (Option ℕ)) : Type 0 where
  pub low : 64 * k ≤ at
  pub sized : length now ≡ length before
  pub marked : (v : ℕ) → 64 * k ≤ v → v < at → front v ≡ true → get_or now v None ≡ Some depth
  pub others : (v : ℕ) → v < 64 * k → get_or now v None ≡ get_or before v None
  pub later : (v : ℕ) → at ≤ v → get_or now v None ≡ get_or before v None
  pub kept : (v : ℕ) → front v ≡ false → get_or now v None ≡ get_or before v None

module _ (depth k at : ℕ) (front : ℕ → Bool) (before now : List (Option ℕ)) (h : MarkingWord depth k at front before now) where
  pub word_skips : front at ≡ false → MarkingWord depth k (at + 1) front before now
  word_skips no_bit = record {
    low = omega (arith, h.low);
    sized = h.sized;
    marked = λ v lo hi f. elim (cases_eq v at) [
      | inl e ↦ let g = ap front e in absurd (grind (arith, g, f, no_bit))
      | inr ne ↦ h.marked v lo (omega arith) f
    ];
    others = h.others;
    later = λ v le. h.later v (omega arith);
    kept = h.kept;
  }

  pub word_marks : front at ≡ true → at < length now → MarkingWord depth k (at + 1) front before (set now at (Some depth))
  word_marks here lt = record {
    low = omega (arith, h.low);
    sized = length-set now at (Some depth) ∙ h.sized;
    marked = λ v lo hi f. elim (cases_eq v at) [
      | inl e ↦ rw e (get_or-set_same now at (Some depth) None lt)
      | inr ne ↦ get_or-set_other now at v (Some depth) None ne ∙ h.marked v lo (omega arith) f
    ];
    others = λ v lo. get_or-set_other now at v (Some depth) None (λ e. omega (arith, h.low)) ∙ h.others v lo;
    later = λ v le. get_or-set_other now at v (Some depth) None (λ e. omega arith) ∙ h.later v (omega arith);
    kept = λ v f. elim (cases_eq v at) [
      | inl e ↦ let g = ap front e in absurd (grind (arith, g, f, here))
      | inr ne ↦ get_or-set_other now at v (Some depth) None ne ∙ h.kept v f
    ];
  }

-- the nodes of the first k words are marked
pub record MarkingSet (depth k : ℕ) (front : ℕ → Bool) (before now : List (Option ℕ)) : Type 0 where
  pub sized : length now ≡ length before
  pub marked : (v : ℕ) → v / 64 < k → front v ≡ true → get_or now v None ≡ Some depth
  pub kept : (v : ℕ) → front v ≡ false → get_or now v None ≡ get_or before v None

pub set_skips : (depth k : ℕ) (ws : List ℕ) (before now : List (Option ℕ)) → MarkingSet depth k (bit_of ws) before now → get_or ws k 0 ≡ 0 → MarkingSet depth (k + 1) (bit_of ws) before now
set_skips depth k ws before now h z = record {
  sized = h.sized;
  marked = λ v lt f. elim (cases_eq (v / 64) k) [
    | inl e ↦ let g : bit_of ws v ≡ false = rw (e, z, bit_at-zero (v % 64)) refl in absurd (grind (arith, f, g))
    | inr ne ↦ h.marked v (omega arith) f
  ];
  kept = h.kept;
}

pub set_marks : (depth k : ℕ) (front : ℕ → Bool) (before now after : List (Option ℕ)) → MarkingSet depth k front before now → length after ≡ length now
    → ((v : ℕ) → v / 64 ≡ k → front v ≡ true → get_or after v None ≡ Some depth)
    → ((v : ℕ) → v / 64 ≢ k → get_or after v None ≡ get_or now v None)
    → ((v : ℕ) → front v ≡ false → get_or after v None ≡ get_or now v None)
    → MarkingSet depth (k + 1) front before after
set_marks depth k front before now after h len marked others kept = record {
  sized = len ∙ h.sized;
  marked = λ v lt f. elim (cases_eq (v / 64) k) [
    | inl e ↦ marked v e f
    | inr ne ↦ others v ne ∙ h.marked v (omega arith) f
  ];
  kept = λ v f. kept v f ∙ h.kept v f;
}

-- the depth, where it is at most so much
abbrev pub within : ℕ → Option ℕ → Option ℕ
within d o = cond (is_beyond d o) None o

-- nodes within a depth have their marks
pub record Marking (g : Graph) (i : ℕ) (known : ℕ → Bool) (d : ℕ) (front left : List ℕ) (todo : ℕ) (marks : List (Option ℕ)) : Type 0 where
  pub spreading : Spreading g i known d front left (reached_within g i d) (total_within g i d) todo
  pub one_each : length marks ≡ g.count
  pub marked : (v : ℕ) → get_or marks v None ≡ within d (depth_of g i v)
  pub short : d + todo ≤ 16385

within_more : (d : ℕ) (o m after : Option ℕ) (front : Bool) → front ≡ is_at (d + 1) o → m ≡ within d o → (front ≡ true → after ≡ Some (d + 1)) → (front ≡ false → after ≡ m) → after ≡ within (d + 1) o
within_more d None m after front f e marked kept = kept f ∙ e
within_more d (Some k) m after front f e marked kept = elim (cases_eq k (d + 1)) [
  | inl q ↦
      let t : front ≡ true = f ∙ eq-eqb k (d + 1) q in
      rw (le-ltb (d + 1) k (omega arith)) (marked t ∙ ap Some (sym q))
  | inr ne ↦
      let t : front ≡ false = f ∙ ne_eqb k (d + 1) ne in
      elim (cases_lt d k) [
        | inl lt ↦ rw (lt-ltb (d + 1) k (omega arith)) (kept t ∙ (rw (lt-ltb d k lt) at e))
        | inr ge ↦ rw (le-ltb (d + 1) k (omega arith)) (kept t ∙ (rw (le-ltb d k ge) at e))
      ]
]

module _ (g : Graph) (i : ℕ) where
  pub marks_more : (d : ℕ) (front : ℕ → Bool) (before after : List (Option ℕ)) → ((v : ℕ) → front v ≡ is_at (d + 1) (depth_of g i v)) → IsMarked (d + 1) front before after
      → ((v : ℕ) → get_or before v None ≡ within d (depth_of g i v)) → (v : ℕ) → get_or after v None ≡ within (d + 1) (depth_of g i v)
  marks_more d front before after ahead m h v = within_more d (depth_of g i v) (get_or before v None) (get_or after v None) (front v) (ahead v) (h v) (m.marked v) (m.kept v)

  pub marks_first : (marks : List (Option ℕ)) → IsSimpleGraph g → i < g.count → get_or marks i None ≡ Some 0 → ((v : ℕ) → v ≢ i → get_or marks v None ≡ None) → (v : ℕ) → get_or marks v None ≡ within 0 (depth_of g i v)
  marks_first marks simple node here none v = elim (cases_eq v i) [
    | inl e ↦ let s : depth_of g i v ≡ Some 0 = ap (depth_of g i) e ∙ source_depth g i simple node in rw (s, e) here
    | inr ne ↦ none v ne ∙ elim (none_or_some (depth_of g i v)) [
      | inl n ↦ rw n refl
      | inr s ↦ let z : s.0 ≢ 0 = λ q. ne (at_source g i simple node v (s.1 ∙ ap Some q)) in rw (s.1, lt-ltb 0 s.0 (omega arith)) refl
    ]
  ]

  pub all_marked : (d : ℕ) (marks : List (Option ℕ)) → length marks ≡ g.count → ((v : ℕ) → get_or marks v None ≡ within d (depth_of g i v)) → ((v k : ℕ) → depth_of g i v ≡ Some k → k ≤ d) → marks ≡ depths_of g i
  all_marked d marks len h all = fill_by_all (depth_of g i) marks g.count None len (λ v lt. h v ∙ elim (none_or_some (depth_of g i v)) [
    | inl n ↦ rw n refl
    | inr s ↦ rw (s.1, le-ltb d s.0 (all v s.0 s.1)) refl
  ])

-- the next state, its sums written out anew
pub spreading_again : (g : Graph) (i : ℕ) (known : ℕ → Bool) (d : ℕ) (front left : List ℕ) (reached total todo : ℕ) → Spreading g i known d front left reached total todo → Spreading g i known d front left (reached_within g i d) (total_within g i d) todo
spreading_again g i known d front left reached total todo s = record { level = s.level; reached_is = refl; total_is = refl; todo_is = s.todo_is }

-- the set of all nodes
pub all_closed : (g : Graph) (known : ℕ → Bool) → IsSimpleGraph g → ((v : ℕ) → known v ≡ ltb v g.count) → IsClosed g known
all_closed g known simple all = record {
  nodes = λ v e. elim (cases_lt v g.count) [ inl lt ↦ lt | inr ge ↦ let a = all v in let f = le-ltb v g.count ge in absurd (grind (arith, a, f, e)) ];
  kept = λ u v e j. elim (cases_lt v g.count) [
    | inl lt ↦ all v ∙ lt-ltb v g.count lt
    | inr ge ↦ let f = joins_no_other g simple u v ge in absurd (grind (arith, f, j))
  ];
}
