-- The nodes at each depth, level after level.
use Rattle.std.specs.Prelude.{not}
use Rattle.std.proofs.Common.{◌≡◌, ◌≢◌, ℕ, zero, suc, ◌+◌, ◌-◌, ◌<◌, ◌≤◌, Bool, true, false, ◌&&◌, eqb, ltb, Option, None, Some, refl, sym, ap, ◌∙◌, inl, inr, arith, subst, ◌⊎◌}
use Rattle.std.proofs.lemmas.Bool.{cases_eq, cases_lt, cases_Bool, eq-eqb, ne_eqb, eqb-true, lt-ltb, le-ltb}
use Rattle.std.proofs.lemmas.Option.{same_Some, none-some}
use Rattle.graph_spec.specs.Graphs.{IsSimpleGraph, Graph, Walk, IsDepth, depth_of}
use Rattle.graph_laws.proofs.Depths.{least_depth}
use Rattle.step_depth.specs.Levels.{IsLooked, IsClosed, is_at, is_beyond, Level}

pub none_or_some : (o : Option ℕ) → (o ≡ None) ⊎ ((k : ℕ) × (o ≡ Some k))
none_or_some None = inl refl
none_or_some (Some k) = inr (k, refl)

pub at_none : (d : ℕ) (o : Option ℕ) → o ≡ None → is_at d o ≡ false
at_none d o e = rw e refl

pub at_some : (d : ℕ) (o : Option ℕ) (k : ℕ) → o ≡ Some k → is_at d o ≡ eqb k d
at_some d o k e = rw e refl

pub beyond_none : (d : ℕ) (o : Option ℕ) → o ≡ None → is_beyond d o ≡ true
beyond_none d o e = rw e refl

pub beyond_some : (d : ℕ) (o : Option ℕ) (k : ℕ) → o ≡ Some k → is_beyond d o ≡ ltb d k
beyond_some d o k e = rw e refl

pub some_at : (d : ℕ) (o : Option ℕ) → is_at d o ≡ true → o ≡ Some d
some_at d None e = absurd (grind (arith, e))
some_at d (Some k) e = ap Some (eqb-true k d e)

module _ (g : Graph) (i : ℕ) (simple : IsSimpleGraph g) (node : i < g.count) where
  abbrev D : ℕ → Option ℕ
  D v = depth_of g i v

  pub is_depth : (v : ℕ) → IsDepth g i v (D v)
  is_depth v = least_depth g i v

  has_depth : (v d : ℕ) → D v ≡ Some d → IsDepth g i v (Some d)
  has_depth v d e = subst (IsDepth g i v) e (is_depth v)

  -- a walk bounds the depth
  within_walk : (v steps : ℕ) → Walk g i v steps → (k : ℕ) × (D v ≡ Some k) × (k ≤ steps)
  within_walk v steps w = elim (none_or_some (D v)) [
    | inl n ↦ let none : IsDepth g i v None = subst (IsDepth g i v) n (is_depth v) in absurd (none steps w)
    | inr s ↦ (s.0, s.1, (has_depth v s.0 s.1).1 steps w)
  ]

  pub source_depth : D i ≡ Some 0
  source_depth =
      let w : Walk g i i 0 = (refl, node) in
      let f = within_walk i 0 w in
      let z : f.0 ≡ 0 = omega (arith, f.2) in
      f.1 ∙ ap Some z

  pub at_source : (v : ℕ) → D v ≡ Some 0 → v ≡ i
  at_source v e = sym (has_depth v 0 e).0.0

  -- a neighbour is one step further at most
  pub next_depth : (u v d : ℕ) → D u ≡ Some d → g.joins u v ≡ true → (k : ℕ) × (D v ≡ Some k) × (k ≤ suc d)
  next_depth u v d e j =
      let w : Walk g i v (suc d) = (u, (has_depth u d e).0, j, (simple.on_nodes u v j).1) in
      within_walk v (suc d) w

  -- each node past the source has a neighbour that is one step nearer
  pub nearer : (v d : ℕ) → D v ≡ Some (suc d) → (u : ℕ) × (D u ≡ Some d) × (g.joins u v ≡ true)
  nearer v d e =
      let w = (has_depth v (suc d) e).0 in
      let f = within_walk w.0 d w.1 in
      let b = next_depth w.0 v f.0 f.1 w.2 in
      let s : suc d ≡ b.0 = same_Some (suc d) b.0 (sym e ∙ b.1) in
      let same : f.0 ≡ d = omega (arith, f.2, b.2) in
      (w.0, f.1 ∙ ap Some same, w.2)

  -- where a level is empty, so are all beyond it
  reaches_back : (m d v : ℕ) → D v ≡ Some (suc d + m) → (w : ℕ) × (D w ≡ Some (suc d))
  reaches_back zero d v e = let q : suc d + 0 ≡ suc d = omega arith in (v, e ∙ ap Some q)
  reaches_back (suc m) d v e =
      let q : suc d + suc m ≡ suc (suc d + m) = omega arith in
      let f = nearer v (suc d + m) (e ∙ ap Some q) in
      reaches_back m d f.0 f.1

  pub none_beyond : (d : ℕ) → ((v : ℕ) → D v ≢ Some (suc d)) → (v k : ℕ) → D v ≡ Some k → k ≤ d
  none_beyond d empty v k e = elim (cases_lt d k) [
    | inl lt ↦
        let q : k ≡ suc d + (k - suc d) = omega arith in
        let f = reaches_back (k - suc d) d v (e ∙ ap Some q) in
        absurd (empty f.0 f.1)
    | inr ge ↦ ge
  ]

  module _ (known : ℕ → Bool) (closed : IsClosed g known) (here : known i ≡ true) where
    walk_known : (v steps : ℕ) → Walk g i v steps → known v ≡ true
    walk_known v zero w = subst (λ (x : ℕ). known x ≡ true) w.0 here
    walk_known v (suc steps) w = closed.kept w.0 v (walk_known w.0 steps w.1) w.2

    pub depth_known : (v k : ℕ) → D v ≡ Some k → known v ≡ true
    depth_known v k e = walk_known v k (has_depth v k e).0

    pub first_level : Level g i known 0 (λ v. eqb v i) (λ v. known v && not (eqb v i))
    first_level = record {
      ahead = λ v. elim (cases_eq v i) [
        | inl e ↦ let s : D v ≡ Some 0 = ap D e ∙ source_depth in rw (eq-eqb v i e, at_some 0 (D v) 0 s) refl
        | inr ne ↦ rw (ne_eqb v i ne) (elim (none_or_some (D v)) [
          | inl n ↦ sym (at_none 0 (D v) n)
          | inr s ↦ let z : s.0 ≢ 0 = λ q. ne (at_source v (s.1 ∙ ap Some q)) in sym (at_some 0 (D v) s.0 s.1 ∙ ne_eqb s.0 0 z)
        ])
      ];
      beyond = λ v. elim (cases_eq v i) [
        | inl e ↦ let s : D v ≡ Some 0 = ap D e ∙ source_depth in rw (eq-eqb v i e, beyond_some 0 (D v) 0 s) refl
        | inr ne ↦ rw (ne_eqb v i ne) (elim (none_or_some (D v)) [
          | inl n ↦ ap (λ x. known v && x) (sym (beyond_none 0 (D v) n))
          | inr s ↦ let z : s.0 ≢ 0 = λ q. ne (at_source v (s.1 ∙ ap Some q)) in ap (λ x. known v && x) (sym (beyond_some 0 (D v) s.0 s.1 ∙ lt-ltb 0 s.0 (omega arith)))
        ])
      ];
    }

    module _ (d : ℕ) (front left missing found : ℕ → Bool) (now : Level g i known d front left) (looked : IsLooked g.joins front left missing)
        (are : (v : ℕ) → found v ≡ (left v && not (missing v))) where
      not_left : (v : ℕ) → left v ≡ false → missing v ≡ false
      not_left v e = elim (cases_Bool (missing v)) [
        | inl t ↦ let f = looked.fewer v t in absurd (grind (arith, e, f))
        | inr f ↦ f
      ]

      -- a node that is found stands at the next depth at most
      found_depth : (v : ℕ) → left v ≡ true → missing v ≡ false → (k : ℕ) × (D v ≡ Some k) × (k ≤ suc d)
      found_depth v l m =
          let f = looked.found v l m in
          next_depth f.0 v d (some_at d (D f.0) (sym (now.ahead f.0) ∙ f.1)) f.2

      none_case : (v : ℕ) → D v ≡ None → (left v ≡ known v) × (missing v ≡ known v)
      none_case v n =
          let l : left v ≡ (known v && true) = now.beyond v ∙ ap (λ x. known v && x) (beyond_none d (D v) n) in
          elim (cases_Bool (known v)) [
            | inl t ↦
                let lt : left v ≡ true = l ∙ ap (λ x. x && true) t in
                elim (cases_Bool (missing v)) [
                  | inl m ↦ (lt ∙ sym t, m ∙ sym t)
                  | inr m ↦ let f = found_depth v lt m in absurd (none-some f.0 (sym n ∙ f.1))
                ]
            | inr f ↦
                let lf : left v ≡ false = l ∙ ap (λ x. x && true) f in
                (lf ∙ sym f, not_left v lf ∙ sym f)
          ]

      left_is : (v k : ℕ) → D v ≡ Some k → left v ≡ ltb d k
      left_is v k e = now.beyond v ∙ ap (λ x. x && is_beyond d (D v)) (depth_known v k e) ∙ beyond_some d (D v) k e

      missing_is : (v k : ℕ) → D v ≡ Some k → missing v ≡ ltb (suc d) k
      missing_is v k e = elim (cases_lt d k) [
        | inr ge ↦ not_left v (left_is v k e ∙ le-ltb d k ge) ∙ sym (le-ltb (suc d) k (omega arith))
        | inl lt ↦
            let l : left v ≡ true = left_is v k e ∙ lt-ltb d k lt in
            elim (cases_lt (suc d) k) [
              | inl more ↦ elim (cases_Bool (missing v)) [
                | inl t ↦ t ∙ sym (lt-ltb (suc d) k more)
                | inr f ↦
                    let b = found_depth v l f in
                    let s : k ≡ b.0 = same_Some k b.0 (sym e ∙ b.1) in
                    absurd (omega (arith, b.2))
              ]
              | inr most ↦
                  let q : k ≡ suc d = omega arith in
                  let u = nearer v d (e ∙ ap Some q) in
                  looked.none u.0 v (now.ahead u.0 ∙ at_some d (D u.0) d u.1 ∙ eq-eqb d d refl) u.2 ∙ sym (le-ltb (suc d) k most)
            ]
      ]

      found_is : (v k : ℕ) → D v ≡ Some k → found v ≡ eqb k (suc d)
      found_is v k e =
          let f : found v ≡ (ltb d k && not (ltb (suc d) k)) = are v ∙ ap (λ x. x && not (missing v)) (left_is v k e) ∙ ap (λ x. ltb d k && not x) (missing_is v k e) in
          elim (cases_eq k (suc d)) [
            | inl q ↦
                let a = lt-ltb d k (omega arith) in
                let b = le-ltb (suc d) k (omega arith) in
                let c = eq-eqb k (suc d) q in
                grind (arith, f, a, b, c)
            | inr ne ↦ elim (cases_lt d k) [
              | inl lt ↦
                  let b = lt-ltb (suc d) k (omega arith) in
                  let a = lt-ltb d k lt in
                  let c = ne_eqb k (suc d) ne in
                  grind (arith, f, a, b, c)
              | inr ge ↦
                  let a = le-ltb d k ge in
                  let c = ne_eqb k (suc d) ne in
                  grind (arith, f, a, c)
            ]
          ]

      pub next_level : Level g i known (suc d) found missing
      next_level = record {
        ahead = λ v. elim (none_or_some (D v)) [
          | inl n ↦
              let c = none_case v n in
              let a = are v in
              let l = c.0 in
              let m = c.1 in
              let z = at_none (suc d) (D v) n in
              elim (cases_Bool (known v)) [ inl t ↦ grind (arith, a, l, m, z, t) | inr f ↦ grind (arith, a, l, m, z, f) ]
          | inr s ↦ found_is v s.0 s.1 ∙ sym (at_some (suc d) (D v) s.0 s.1)
        ];
        beyond = λ v. elim (none_or_some (D v)) [
          | inl n ↦
              let m = (none_case v n).1 in
              let z = beyond_none (suc d) (D v) n in
              elim (cases_Bool (known v)) [ inl t ↦ grind (arith, m, z, t) | inr f ↦ grind (arith, m, z, f) ]
          | inr s ↦ missing_is v s.0 s.1 ∙ sym (beyond_some (suc d) (D v) s.0 s.1) ∙ sym (ap (λ x. x && is_beyond (suc d) (D v)) (depth_known v s.0 s.1))
        ];
      }

      -- nothing was found
      pub none_found : ((v : ℕ) → found v ≡ false) → (v k : ℕ) → D v ≡ Some k → k ≤ d
      none_found empty = none_beyond d (λ v e. let f = found_is v (suc d) e in let z = empty v in let s = eq-eqb (suc d) (suc d) refl in absurd (grind (arith, f, z, s)))

    -- nothing is left
    pub none_left : (d : ℕ) (front left : ℕ → Bool) → Level g i known d front left → ((v : ℕ) → left v ≡ false) → (v k : ℕ) → D v ≡ Some k → k ≤ d
    none_left d front left now empty v k e = elim (cases_lt d k) [
      | inl lt ↦
          let l = now.beyond v in
          let z = empty v in
          let t = depth_known v k e in
          let b = beyond_some d (D v) k e ∙ lt-ltb d k lt in
          absurd (grind (arith, l, z, t, b))
      | inr ge ↦ ge
    ]

    -- what was reached is closed
    pub reached_closed : (d : ℕ) (front left reached : ℕ → Bool) → Level g i known d front left → ((v k : ℕ) → D v ≡ Some k → k ≤ d) → ((v : ℕ) → reached v ≡ (known v && not (left v))) → IsClosed g reached
    reached_closed d front left reached now all are = record {
      nodes = λ v e. closed.nodes v (was_known v e);
      kept = λ u v e j. elim (none_or_some (D u)) [
        | inl n ↦
            let l = now.beyond u in
            let b = beyond_none d (D u) n in
            let a = are u in
            let t = was_known u e in
            absurd (grind (arith, l, b, a, t, e))
        | inr s ↦
            let f = next_depth u v s.0 s.1 j in
            let b = beyond_some d (D v) f.0 f.1 ∙ le-ltb d f.0 (all v f.0 f.1) in
            let t = depth_known v f.0 f.1 in
            let l = now.beyond v in
            let a = are v in
            grind (arith, l, b, a, t)
      ];
    }
      where
        was_known : (v : ℕ) → reached v ≡ true → known v ≡ true
        was_known v e = elim (cases_Bool (known v)) [ inl t ↦ t | inr f ↦ let a = are v in absurd (grind (arith, a, f, e)) ]
