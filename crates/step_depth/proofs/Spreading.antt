-- Numbers of nodes and sums of depths, level after level.
use Rattle.graph_laws.proofs.SameGraphs.{joins_no_other}
use Rattle.std.specs.Prelude.{not}
use Rattle.std.proofs.Common.{◌≡◌, ◌≢◌, ℕ, zero, suc, ◌+◌, ◌-◌, ◌*◌, ◌<◌, ◌≤◌, Bool, true, false, ◌&&◌, cond, eqb, ltb, List, length, Option, None, Some, is_some, unwrap_or, refl, sym, ap, ◌∙◌, inl, inr, arith, subst}
use Rattle.std.proofs.lemmas.Bool.{cases_eq, cases_lt, cases_Bool, eq-eqb, ne_eqb, eqb-true, lt-ltb, le-ltb}
use Rattle.std.specs.List.{sum_by, count_by}
use Rattle.graph_spec.specs.Graphs.{IsSimpleGraph, Graph, nodes, depth_of, depths_of, total_depth}
use Rattle.vga_grid.specs.declared.limits.TheConstants.{MAX_NODES}
use Rattle.vga_grid.specs.Rows.{width, bit_of}
use Rattle.vga_grid.specs.Sets.{size}
use Rattle.step_depth.specs.Levels.{IsLooked, IsClosed, is_at, is_beyond, Level}
use Rattle.step_depth.proofs.Layers.{none_or_some, some_at, source_depth, at_source, depth_known, next_level, none_found, none_left, reached_closed, first_level, none_beyond, nearer}
use Rattle.vga_grid.proofs.Counting.{sum_same, sum_plus, sum_times, sum_map, count_one, size_is, sum_most, sum_zero, none_of_size, none_of_count}
use Rattle.std.proofs.Math.Nat.{mul-le-mul_left}

-- the depth, where it is at most so much
abbrev part : ℕ → Option ℕ → ℕ
part d o = cond (is_beyond d o) 0 (unwrap_or o 0)

abbrev one : Bool → ℕ
one b = cond b 1 0

module _ (g : Graph) (i : ℕ) where
  -- how many nodes have a depth of at most so much
  abbrev pub reached_within : ℕ → ℕ
  reached_within d = count_by (λ v. not (is_beyond d (depth_of g i v))) (nodes g)

  -- and the sum of these depths
  abbrev pub total_within : ℕ → ℕ
  total_within d = sum_by (λ v. part d (depth_of g i v)) (nodes g)

  -- how many nodes have a depth
  abbrev pub at_depth : ℕ → ℕ
  at_depth d = count_by (λ v. is_at d (depth_of g i v)) (nodes g)

one_more : (d : ℕ) (o : Option ℕ) → one (not (is_beyond (suc d) o)) ≡ one (not (is_beyond d o)) + one (is_at (suc d) o)
one_more d None = refl
one_more d (Some k) = elim (cases_eq k (suc d)) [
  | inl e ↦ rw (le-ltb (suc d) k (omega arith), lt-ltb d k (omega arith), eq-eqb k (suc d) e) refl
  | inr ne ↦ elim (cases_lt d k) [
    | inl lt ↦ rw (lt-ltb (suc d) k (omega arith), lt-ltb d k lt, ne_eqb k (suc d) ne) refl
    | inr ge ↦ rw (le-ltb (suc d) k (omega arith), le-ltb d k ge, ne_eqb k (suc d) ne) refl
  ]
]

part_more : (d : ℕ) (o : Option ℕ) → part (suc d) o ≡ part d o + one (is_at (suc d) o) * suc d
part_more d None = omega arith
part_more d (Some k) = elim (cases_eq k (suc d)) [
  | inl e ↦ rw (le-ltb (suc d) k (omega arith), lt-ltb d k (omega arith), eq-eqb k (suc d) e) (omega arith)
  | inr ne ↦ elim (cases_lt d k) [
    | inl lt ↦ rw (lt-ltb (suc d) k (omega arith), lt-ltb d k lt, ne_eqb k (suc d) ne) (omega arith)
    | inr ge ↦ rw (le-ltb (suc d) k (omega arith), le-ltb d k ge, ne_eqb k (suc d) ne) (omega arith)
  ]
]

part_first : (o : Option ℕ) → part 0 o ≡ 0
part_first None = refl
part_first (Some zero) = refl
part_first (Some (suc k)) = rw (lt-ltb 0 (suc k) (omega arith)) refl

part_most : (d : ℕ) (o : Option ℕ) → part d o ≤ d
part_most d None = omega arith
part_most d (Some k) = elim (cases_lt d k) [
  | inl lt ↦ rw (lt-ltb d k lt) (omega arith)
  | inr ge ↦ rw (le-ltb d k ge) (omega arith)
]

module _ (g : Graph) (i : ℕ) where
  reached_next : (d : ℕ) → reached_within g i (suc d) ≡ reached_within g i d + at_depth g i (suc d)
  reached_next d =
      sum_same (λ v. one (not (is_beyond (suc d) (depth_of g i v)))) (λ v. one (not (is_beyond d (depth_of g i v))) + one (is_at (suc d) (depth_of g i v))) (nodes g) (λ v. one_more d (depth_of g i v))
      ∙ sum_plus (λ v. one (not (is_beyond d (depth_of g i v)))) (λ v. one (is_at (suc d) (depth_of g i v))) (nodes g)

  total_next : (d : ℕ) → total_within g i (suc d) ≡ total_within g i d + at_depth g i (suc d) * suc d
  total_next d =
      sum_same (λ v. part (suc d) (depth_of g i v)) (λ v. part d (depth_of g i v) + one (is_at (suc d) (depth_of g i v)) * suc d) (nodes g) (λ v. part_more d (depth_of g i v))
      ∙ sum_plus (λ v. part d (depth_of g i v)) (λ v. one (is_at (suc d) (depth_of g i v)) * suc d) (nodes g)
      ∙ ap (λ (z : ℕ). total_within g i d + z) (sum_times (λ v. one (is_at (suc d) (depth_of g i v))) (suc d) (nodes g))

  total_first : total_within g i 0 ≡ 0
  total_first = sum_zero (λ v. part 0 (depth_of g i v)) (nodes g) (λ v. part_first (depth_of g i v))

  pub total_most : (d : ℕ) → total_within g i d ≤ g.count * d
  total_most d = sum_most (λ v. part d (depth_of g i v)) d 0 g.count (λ v. part_most d (depth_of g i v))

  pub reached_most : (d : ℕ) → reached_within g i d ≤ g.count
  reached_most d =
      let s = sum_most (λ v. one (not (is_beyond d (depth_of g i v)))) 1 0 g.count (λ v. elim (cases_Bool (is_beyond d (depth_of g i v))) [ inl t ↦ rw t (omega arith) | inr f ↦ rw f (omega arith) ]) in
      omega (arith, s)

  -- where no node is beyond
  module _ (d : ℕ) (all : (v k : ℕ) → depth_of g i v ≡ Some k → k ≤ d) where
    pub reached_all : reached_within g i d ≡ count_by is_some (depths_of g i)
    reached_all =
        sum_same (λ v. one (not (is_beyond d (depth_of g i v)))) (λ v. one (is_some (depth_of g i v))) (nodes g) (λ v. elim (none_or_some (depth_of g i v)) [
          | inl n ↦ rw n refl
          | inr s ↦ rw (s.1, le-ltb d s.0 (all v s.0 s.1)) refl
        ])
        ∙ sym (sum_map (λ o. one (is_some o)) (depth_of g i) (nodes g))

    pub total_all : total_within g i d ≡ total_depth (depths_of g i)
    total_all =
        sum_same (λ v. part d (depth_of g i v)) (λ v. unwrap_or (depth_of g i v) 0) (nodes g) (λ v. elim (none_or_some (depth_of g i v)) [
          | inl n ↦ rw n refl
          | inr s ↦ rw (s.1, le-ltb d s.0 (all v s.0 s.1)) refl
        ])
        ∙ sym (sum_map (λ o. unwrap_or o 0) (depth_of g i) (nodes g))

  module _ (simple : IsSimpleGraph g) (node : i < g.count) where
    reached_first : reached_within g i 0 ≡ 1
    reached_first =
        sum_same (λ v. one (not (is_beyond 0 (depth_of g i v)))) (λ v. one (eqb v i)) (nodes g) (λ v. elim (cases_eq v i) [
          | inl e ↦ let s : depth_of g i v ≡ Some 0 = ap (depth_of g i) e ∙ source_depth g i simple node in rw (s, eq-eqb v i e) refl
          | inr ne ↦ elim (none_or_some (depth_of g i v)) [
            | inl n ↦ rw (n, ne_eqb v i ne) refl
            | inr s ↦
                let z : s.0 ≢ 0 = λ q. ne (at_source g i simple node v (s.1 ∙ ap Some q)) in
                rw (s.1, ne_eqb v i ne, lt-ltb 0 s.0 (omega arith)) refl
          ]
        ])
        ∙ count_one i 0 g.count (omega arith) (omega arith)

    -- so much is reached, and so many nodes are left
    pub at_one : (front : ℕ → Bool) → ((v : ℕ) → front v ≡ is_at 1 (depth_of g i v)) → (reached_within g i 1 ≡ 1 + count_by front (nodes g)) × (total_within g i 1 ≡ count_by front (nodes g))
    at_one front ahead =
        let s = sum_same (λ v. one (front v)) (λ v. one (is_at 1 (depth_of g i v))) (nodes g) (λ v. ap one (ahead v)) in
        (omega (arith, reached_next 0, reached_first, s), omega (arith, total_next 0, total_first, s))

    -- no neighbour
    pub alone : ((v k : ℕ) → depth_of g i v ≡ Some k → k ≤ 0) → (1 ≡ count_by is_some (depths_of g i)) × (0 ≡ total_depth (depths_of g i))
    alone all = (sym reached_first ∙ reached_all 0 all, sym total_first ∙ total_all 0 all)

  -- a level more
  pub numbers_next : (d : ℕ) (found : ℕ → Bool) → ((v : ℕ) → found v ≡ is_at (suc d) (depth_of g i v))
      → (reached_within g i (suc d) ≡ reached_within g i d + count_by found (nodes g)) × (total_within g i (suc d) ≡ total_within g i d + suc d * count_by found (nodes g))
  numbers_next d found ahead =
      let s = sum_same (λ v. one (found v)) (λ v. one (is_at (suc d) (depth_of g i v))) (nodes g) (λ v. ap one (ahead v)) in
      (omega (arith, reached_next d, s), total_next d ∙ ap (λ (z : ℕ). total_within g i d + z) (ap (λ (z : ℕ). z * suc d) (sym s) ∙ omega arith))

-- what is left splits into what is missing and what is found
pub split : (left missing found : ℕ → Bool) (xs : List ℕ) → ((v : ℕ) → missing v ≡ true → left v ≡ true) → ((v : ℕ) → found v ≡ (left v && not (missing v)))
    → count_by left xs ≡ count_by missing xs + count_by found xs
split left missing found xs fewer are =
    sum_same (λ v. one (left v)) (λ v. one (missing v) + one (found v)) xs (λ v. elim (cases_Bool (missing v)) [
      | inl t ↦ let l = fewer v t in rw (are v, t, l) refl
      | inr f ↦ rw (are v, f) (by_left (left v))
    ])
    ∙ sum_plus (λ v. one (missing v)) (λ v. one (found v)) xs
  where
    by_left : (b : Bool) → one b ≡ one false + one (b && not false)
    by_left true = refl
    by_left false = refl

pub record Spreading (g : Graph) (i : ℕ) (known : ℕ → Bool) (d : ℕ) (front left : List ℕ) (reached total todo : ℕ) : Type 0 where
  pub level : Level g i known d (bit_of front) (bit_of left)
  pub reached_is : reached ≡ reached_within g i d
  pub total_is : total ≡ total_within g i d
  pub todo_is : todo ≡ size left

module _ (g : Graph) (i : ℕ) (simple : IsSimpleGraph g) (node : i < g.count) (known : ℕ → Bool) (closed : IsClosed g known) (here : known i ≡ true) where
  left_past : (d : ℕ) (front left : ℕ → Bool) → Level g i known d front left → (v : ℕ) → g.count ≤ v → left v ≡ false
  left_past d front left now v h = elim (cases_Bool (known v)) [
    | inl t ↦ let lt = closed.nodes v t in absurd (omega arith)
    | inr f ↦ let l = now.beyond v in grind (arith, l, f)
  ]

  pub front_nodes : (d : ℕ) (front left : ℕ → Bool) → Level g i known d front left → (v : ℕ) → front v ≡ true → v < g.count
  front_nodes d front left now v e = closed.nodes v (depth_known g i simple node known closed here v d (some_at d (depth_of g i v) (sym (now.ahead v) ∙ e)))

  pub left_nodes : (d : ℕ) (front left : ℕ → Bool) → Level g i known d front left → (v : ℕ) → left v ≡ true → v < g.count
  left_nodes d front left now v e = elim (cases_lt v g.count) [
    | inl lt ↦ lt
    | inr ge ↦ let f = left_past d front left now v ge in absurd (grind (arith, e, f))
  ]

  module _ (d : ℕ) (front left : List ℕ) (reached total todo : ℕ) (now : Spreading g i known d front left reached total todo) where
    pub finished : ((v k : ℕ) → depth_of g i v ≡ Some k → k ≤ d) → (reached ≡ count_by is_some (depths_of g i)) × (total ≡ total_depth (depths_of g i))
    finished all = (now.reached_is ∙ reached_all g i d all, now.total_is ∙ total_all g i d all)

    pub closed_after : ((v k : ℕ) → depth_of g i v ≡ Some k → k ≤ d) → (kept : ℕ → Bool) → ((v : ℕ) → kept v ≡ (known v && not (bit_of left v))) → IsClosed g kept
    closed_after all kept are = reached_closed g i simple node known closed here d (bit_of front) (bit_of left) kept now.level all are

    pub left_empty : todo ≡ 0 → (v k : ℕ) → depth_of g i v ≡ Some k → k ≤ d
    left_empty e = none_left g i simple node known closed here d (bit_of front) (bit_of left) now.level (none_of_size left (sym now.todo_is ∙ e))

    pub reached_small : reached ≤ g.count
    reached_small = omega (arith, now.reached_is, reached_most g i d)

    module _ (missing : List ℕ) (left_len : length left ≡ width g.count) (missing_len : length missing ≡ width g.count) (looked : IsLooked g.joins (bit_of front) (bit_of left) (bit_of missing)) where
      abbrev found : ℕ → Bool
      found v = bit_of left v && not (bit_of missing v)

      missing_past : (v : ℕ) → g.count ≤ v → bit_of missing v ≡ false
      missing_past v h = elim (cases_Bool (bit_of missing v)) [
        | inl t ↦ let l = looked.fewer v t in let f = left_past d (bit_of front) (bit_of left) now.level v h in absurd (grind (arith, l, f))
        | inr f ↦ f
      ]

      pub found_count : todo ≡ size missing + count_by found (nodes g)
      found_count =
          now.todo_is
          ∙ size_is left g.count left_len (left_past d (bit_of front) (bit_of left) now.level)
          ∙ split (bit_of left) (bit_of missing) found (nodes g) looked.fewer (λ v. refl)
          ∙ ap (λ (z : ℕ). z + count_by found (nodes g)) (sym (size_is missing g.count missing_len missing_past))

      pub nothing : todo - size missing ≡ 0 → (v k : ℕ) → depth_of g i v ≡ Some k → k ≤ d
      nothing e =
          let z : count_by found (nodes g) ≡ 0 = omega (arith, found_count) in
          none_found g i simple node known closed here d (bit_of front) (bit_of left) (bit_of missing) found now.level looked (λ v. refl) (λ v. elim (cases_lt v g.count) [
            | inl lt ↦ none_of_count found 0 g.count v (omega arith) (omega arith) z
            | inr ge ↦ let f = left_past d (bit_of front) (bit_of left) now.level v ge in gone (bit_of left v) (bit_of missing v) f
          ])
        where
          gone : (x y : Bool) → x ≡ false → (x && not y) ≡ false
          gone x y e = rw e refl

      after : Level g i known (suc d) found (bit_of missing)
      after = next_level g i simple node known closed here d (bit_of front) (bit_of left) (bit_of missing) found now.level looked (λ v. refl)

      numbers : (reached + (todo - size missing) ≡ reached_within g i (suc d)) × (total + suc d * (todo - size missing) ≡ total_within g i (suc d))
      numbers =
          let n = numbers_next g i d found after.ahead in
          let f : todo - size missing ≡ count_by found (nodes g) = omega (arith, found_count) in (
            omega (arith, n.0, now.reached_is, f),
            ap (λ (z : ℕ). total + suc d * z) f ∙ ap (λ (z : ℕ). z + suc d * count_by found (nodes g)) now.total_is ∙ sym n.1,
          )

      pub next_reached_small : reached + (todo - size missing) ≤ g.count
      next_reached_small = omega (arith, numbers.0, reached_most g i (suc d))

      pub next_total_small : g.count ≤ MAX_NODES → suc d ≤ MAX_NODES → total + suc d * (todo - size missing) ≤ 268435456
      next_total_small small h =
          let a = mul-le-mul_left g.count h in
          omega (arith, numbers.1, total_most g i (suc d), a, small)

      pub spreading_next : (front' : List ℕ) → ((v : ℕ) → bit_of front' v ≡ found v)
          → Spreading g i known (d + 1) front' missing (reached + (todo - size missing)) (total + (d + 1) * (todo - size missing)) (size missing)
      spreading_next front' are =
          let e : suc d ≡ d + 1 = omega arith in
          let all : Spreading g i known (suc d) front' missing (reached + (todo - size missing)) (total + suc d * (todo - size missing)) (size missing) = record {
            level = record { ahead = λ v. are v ∙ after.ahead v; beyond = after.beyond };
            reached_is = numbers.0;
            total_is = numbers.1;
            todo_is = refl;
          } in
          subst (λ (x : ℕ). Spreading g i known x front' missing (reached + (todo - size missing)) (total + x * (todo - size missing)) (size missing)) e all

  -- the first level
  pub spreading_first : (front left : List ℕ) (degree : ℕ) → length front ≡ width g.count → Level g i known 1 (bit_of front) (bit_of left) → degree ≡ size front → 0 < degree
      → Spreading g i known 1 front left (1 + degree) degree (size left)
  spreading_first front left degree len level is some =
      let s = size_is front g.count len (λ v h. elim (cases_Bool (bit_of front v)) [
        | inl t ↦ let lt = front_nodes 1 (bit_of front) (bit_of left) level v t in absurd (omega arith)
        | inr f ↦ f
      ]) in
      let a = at_one g i simple node (bit_of front) level.ahead in
      record {
        level = level;
        reached_is = omega (arith, a.0, s, is);
        total_is = omega (arith, a.1, s, is);
        todo_is = refl;
      }

-- the nodes outside a closed set are closed
pub closed_others : (g : Graph) (n : ℕ) (known others : ℕ → Bool) → n ≡ g.count → IsSimpleGraph g → IsClosed g known → ((v : ℕ) → others v ≡ (ltb v n && not (known v))) → IsClosed g others
closed_others g n known others e simple closed are = record {
  nodes = λ v t. elim (cases_lt v n) [
    | inl lt ↦ omega arith
    | inr ge ↦ let a = are v in let f = le-ltb v n ge in absurd (grind (arith, a, f, t))
  ];
  kept = λ u v t j. elim (cases_Bool (known v)) [
    | inl k ↦
        let b = closed.kept v u k (sym (simple.symmetric u v) ∙ j) in
        let a = are u in
        absurd (grind (arith, a, b, t))
    | inr f ↦ elim (cases_lt v g.count) [
      | inl lt ↦ let a = are v in let l = lt-ltb v n (omega arith) in grind (arith, a, l, f)
      | inr ge ↦ let z = joins_no_other g simple u v ge in absurd (grind (arith, z, j))
    ]
  ];
}

-- the neighbours of the source are the first level
module _ (g : Graph) (i : ℕ) (simple : IsSimpleGraph g) (node : i < g.count) where
  start_looked : (known row missing : ℕ → Bool) → ((v : ℕ) → row v ≡ g.joins i v) → ((v : ℕ) → missing v ≡ ((known v && not (row v)) && not (eqb v i)))
      → IsLooked g.joins (λ v. eqb v i) (λ v. known v && not (eqb v i)) missing
  start_looked known row missing rows are = record {
    fewer = λ v e. by_parts (known v) (row v) (eqb v i) (sym (are v) ∙ e);
    found = λ v b e. (i, eq-eqb i i refl, sym (rows v) ∙ by_row (known v) (row v) (eqb v i) b (sym (are v) ∙ e));
    none = λ u v f j.
        let s : u ≡ i = eqb-true u i f in
        let r : row v ≡ true = rows v ∙ (ap (λ (x : ℕ). g.joins x v) (sym s) ∙ j) in
        are v ∙ by_none (known v) (row v) (eqb v i) r;
  }
    where
      by_parts : (k r e : Bool) → ((k && not r) && not e) ≡ true → (k && not e) ≡ true
      by_parts true true e h = absurd (grind (arith, h))
      by_parts true false e h = h
      by_parts false r e h = absurd (grind (arith, h))

      by_row : (k r e : Bool) → (k && not e) ≡ true → ((k && not r) && not e) ≡ false → r ≡ true
      by_row true true e h f = refl
      by_row true false e h f = absurd (grind (arith, h, f))
      by_row false r e h f = absurd (grind (arith, h))

      by_none : (k r e : Bool) → r ≡ true → ((k && not r) && not e) ≡ false
      by_none true r e h = rw h refl
      by_none false r e h = refl

  pub level_one : (known row missing : ℕ → Bool) → IsClosed g known → known i ≡ true → ((v : ℕ) → row v ≡ g.joins i v) → ((v : ℕ) → missing v ≡ ((known v && not (row v)) && not (eqb v i)))
      → Level g i known 1 row missing
  level_one known row missing closed here rows are =
      next_level g i simple node known closed here 0 (λ v. eqb v i) (λ v. known v && not (eqb v i)) missing row (first_level g i simple node known closed here) (start_looked known row missing rows are) (λ v.
      elim (cases_Bool (row v)) [
        | inl t ↦
            let k = closed.kept i v here (sym (rows v) ∙ t) in
            let ne : v ≢ i = λ e. let l = simple.loopless i in let j : g.joins i i ≡ true = ap (λ (x : ℕ). g.joins i x) (sym e) ∙ (sym (rows v) ∙ t) in grind (arith, l, j) in
            let n = ne_eqb v i ne in
            let a = are v in
            grind (arith, t, k, n, a)
        | inr f ↦ let a = are v in by_left (known v) (eqb v i) (row v) (missing v) f a
      ])
    where
      by_left : (k e r m : Bool) → r ≡ false → m ≡ ((k && not r) && not e) → r ≡ ((k && not e) && not m)
      by_left true true r m f a = rw f refl
      by_left true false r m f a = rw (a, f) refl
      by_left false e r m f a = rw f refl

  pub no_neighbours : (row : ℕ → Bool) → ((v : ℕ) → row v ≡ g.joins i v) → ((v : ℕ) → row v ≡ false) → (1 ≡ count_by is_some (depths_of g i)) × (0 ≡ total_depth (depths_of g i))
  no_neighbours row rows none = alone g i simple node (none_beyond g i simple node 0 (λ v e.
      let n = nearer g i simple node v 0 e in
      let s = at_source g i simple node n.0 n.1 in
      let r : row v ≡ true = rows v ∙ (ap (λ (x : ℕ). g.joins x v) (sym s) ∙ n.2) in
      let f = none v in
      grind (arith, r, f)))

  pub degree_is : (row : List ℕ) → length row ≡ width g.count → ((v : ℕ) → bit_of row v ≡ g.joins i v) → size row ≡ count_by (g.joins i) (nodes g)
  degree_is row len rows =
      size_is row g.count len (λ v h. rows v ∙ joins_no_other g simple i v h)
      ∙ sum_same (λ v. one (bit_of row v)) (λ v. one (g.joins i v)) (nodes g) (λ v. ap one (rows v))
