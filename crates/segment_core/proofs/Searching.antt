-- What the search keeps, and that it ends with the least costs.
use Rattle.std.proofs.Common.{◌≡◌, ◌≢◌, ◌<◌, ◌≤◌, ◌+◌, ◌-◌, ◌*◌, ◌%◌, ◌==◌, ℕ, zero, suc, Bool, true, false, List, [], ◌∷◌, ◌++◌, length, get_or, set, replicate, refl, sym, ap, ◌∙◌, ◌⊎◌, inl, inr, arith, subst, length-append}
use Rattle.std.specs.List.{Contains, sum_by}
use Rattle.std.proofs.lemmas.List.{length-set, get_or-set_same, get_or-set_other, get_or-replicate, length-replicate}
use Rattle.std.proofs.lemmas.Bool.{eqb-true, eqb-false}
use Rattle.std.proofs.lemmas.List.Sums.{sum_by-set}
use Rattle.std.proofs.lemmas.List.Elements.{Contains-append_left, Contains-append_right, Contains-append_cases}
use Rattle.route_spec.specs.Routes.{Piece, TurnWalk}
use Rattle.graph_laws.proofs.Members.{contains_first, contains_later, first_or_later, contains_none}
use Rattle.segment_core.specs.Steps.{step_at, cost_at, far_of, AreLeast, AreWalked, IsEased, Eases, Waits, AreInside, bucket_at, left_of}
use Rattle.segment_core.proofs.Numbers.{step_is_step}
use Rattle.segment_core.proofs.Places.{at_set}

-- the bucket is among the last ones that were found empty
abbrev pub IsIdle : ℕ → ℕ → ℕ → Type 0
IsIdle bucket idle b = ((b < bucket) × (bucket ≤ b + idle)) ⊎ ((bucket ≤ b) × (bucket + 17 ≤ b + idle))

pub record Underway (pieces : List Piece) (source : ℕ) (costs : List ℕ) (queue : List (List ℕ))
    (bucket idle : ℕ) : Type 0 where
  pub one_each : length costs ≡ 2 * length pieces
  pub ring : length queue ≡ 17
  pub back : cost_at costs (2 * source) ≡ 0
  pub forward : cost_at costs (2 * source + 1) ≡ 0
  pub walked : AreWalked pieces source costs
  pub settled : (s : ℕ) → s < 2 * length pieces → cost_at costs s < far_of pieces
      → Waits queue s (cost_at costs s) ⊎ IsEased pieces costs s
  pub inside : AreInside pieces queue
  pub in_ring : bucket < 17
  pub at_most : idle ≤ 17
  pub empty : (b : ℕ) → b < 17 → IsIdle bucket idle b → bucket_at queue b ≡ []

-- ---- the end

pub search_ends : (pieces : List Piece) (source : ℕ) (costs : List ℕ) (queue : List (List ℕ)) (bucket idle : ℕ)
    → Underway pieces source costs queue bucket idle → 17 ≤ idle → AreLeast pieces source costs
search_ends pieces source costs queue bucket idle u done = record {
  one_each = u.one_each;
  back = u.back;
  forward = u.forward;
  walked = u.walked;
  eased = λ s s_in near. elim (u.settled s s_in near) [
    | inl waits ↦
        let b = cost_at costs s % 17 in
        let below : b < 17 = omega arith in
        let none = u.empty b below (all_idle b below) in
        absurd (contains_none s (subst (λ (xs : List ℕ). Contains xs s) none waits))
    | inr eased ↦ eased
  ];
}
  where
    by_side : (b : ℕ) → b < 17 → (b < bucket) ⊎ (bucket ≤ b) → IsIdle bucket idle b
    by_side b below (inl less) = inl (less, omega (arith, done, u.in_ring))
    by_side b below (inr more) = inr (more, omega (arith, done, more))

    all_idle : (b : ℕ) → b < 17 → IsIdle bucket idle b
    all_idle b below = by_side b below (grind arith)

-- ---- an empty bucket

idle_next : (bucket idle next b : ℕ) → bucket < 17
    → ((bucket ≡ 16) × (next ≡ 0)) ⊎ ((bucket ≢ 16) × (next ≡ bucket + 1)) → b < 17 → IsIdle next (idle + 1) b
    → (b ≡ bucket) ⊎ IsIdle bucket idle b
idle_next bucket idle next b in_ring (inl turned) below (inl low) = absurd (omega (arith, low.0, turned.1))
idle_next bucket idle next b in_ring (inl turned) below (inr high) = by_place (b == bucket) (eqb-true b bucket)
    (eqb-false b bucket)
  where
    by_place : (t : Bool) → (t ≡ true → b ≡ bucket) → (t ≡ false → b ≢ bucket) → (b ≡ bucket) ⊎ IsIdle bucket idle b
    by_place true same other = inl (same refl)
    by_place false same other = inr (inl (
      omega (arith, other refl, turned.0, below),
      omega
          (arith, high.1, turned.0, turned.1),
    ))
idle_next bucket idle next b in_ring (inr more) below (inl low) = by_place (b == bucket) (eqb-true b bucket)
    (eqb-false b bucket)
  where
    by_place : (t : Bool) → (t ≡ true → b ≡ bucket) → (t ≡ false → b ≢ bucket) → (b ≡ bucket) ⊎ IsIdle bucket idle b
    by_place true same other = inl (same refl)
    by_place false same other = inr (inl (omega (arith, other refl, low.0, more.1), omega (arith, low.1, more.1)))
idle_next bucket idle next b in_ring (inr more) below (inr high) = inr (inr (
  omega (arith, high.0, more.1),
  omega
      (arith, high.1, more.1),
))

pub nothing_waits : (pieces : List Piece) (source : ℕ) (costs : List ℕ) (queue : List (List ℕ))
    (bucket idle next : ℕ) → Underway pieces source costs queue bucket idle → idle < 17
    → bucket_at queue bucket ≡ [] → ((bucket ≡ 16) × (next ≡ 0)) ⊎ ((bucket ≢ 16) × (next ≡ bucket + 1))
    → Underway pieces source costs queue next (idle + 1)
nothing_waits pieces source costs queue bucket idle next u less none turned = record {
  one_each = u.one_each;
  ring = u.ring;
  back = u.back;
  forward = u.forward;
  walked = u.walked;
  settled = u.settled;
  inside = u.inside;
  in_ring = next_in turned;
  at_most = omega (arith, less);
  empty = λ b below idle_now. elim (idle_next bucket idle next b u.in_ring turned below idle_now) [
    | inl here ↦ subst (λ (n : ℕ). bucket_at queue n ≡ []) (sym here) none
    | inr before ↦ u.empty b below before
  ];
}
  where
    next_in : ((bucket ≡ 16) × (next ≡ 0)) ⊎ ((bucket ≢ 16) × (next ≡ bucket + 1)) → next < 17
    next_in (inl t) = omega (arith, t.1)
    next_in (inr t) = omega (arith, t.0, t.1, u.in_ring)

-- ---- a step that waited

-- what is left in the queue after a step was taken, and whether the step was eased
module _ (pieces : List Piece) (source : ℕ) (costs : List ℕ) (queue rest : List (List ℕ)) (bucket idle step : ℕ)
    (u : Underway pieces source costs queue bucket idle)
    (last : bucket_at queue bucket ≡ bucket_at rest bucket ++ step ∷ []) (others : rest
    ≡ set queue bucket (bucket_at rest bucket)) where
  bucket_below : bucket < length queue
  bucket_below = omega (arith, u.ring, u.in_ring)

  pub step_inside : step < 2 * length pieces
  step_inside = u.inside bucket step (subst (λ (xs : List ℕ). Contains xs step) (sym last) (Contains-append_right
      (bucket_at rest bucket) (step ∷ []) step (contains_first step [])))

  rest_ring : length rest ≡ 17
  rest_ring = ap length others ∙ length-set queue bucket (bucket_at rest bucket) ∙ u.ring

  -- what waits still did before
  waited : (b s : ℕ) → Contains (bucket_at rest b) s → Contains (bucket_at queue b) s
  waited b s h = by_set (subst (λ (q : List (List ℕ)). Contains (bucket_at q b) s) others h)
    where
      by_set : Contains (bucket_at (set queue bucket (bucket_at rest bucket)) b) s → Contains (bucket_at queue b) s
      by_set = at_set (λ xs. Contains xs s → Contains (bucket_at queue b) s) queue bucket b
          (bucket_at rest bucket) [] bucket_below
          (λ same w. subst (λ (n : ℕ). Contains (bucket_at queue n) s) (sym same) (subst (λ
          (xs : List ℕ). Contains xs s) (sym last) (Contains-append_left (bucket_at rest bucket) (step ∷ []) s w)))
          (λ away w. w)

  -- what waited still does, unless it is the step in its bucket
  still_waits : (b s : ℕ) → (s ≡ step → b ≢ bucket) → Contains (bucket_at queue b) s → Contains (bucket_at rest b) s
  still_waits b s unless h = subst (λ (q : List (List ℕ)). Contains (bucket_at q b) s) (sym others)
      (at_set (λ xs. Contains xs s) queue bucket b (bucket_at rest bucket) [] bucket_below
      (λ same. elim (Contains-append_cases (bucket_at rest bucket) (step ∷ []) s (subst (λ
      (xs : List ℕ). Contains xs s) last (subst (λ (n : ℕ). Contains (bucket_at queue n) s) same h))) [
        | inl w ↦ w
        | inr it ↦ elim (first_or_later step [] s it) [
          | inl e ↦ absurd (unless (sym e) same)
          | inr none ↦ absurd (contains_none s none)
        ]
      ])
      (λ away. h))

  left_less : left_of costs rest + 1 ≤ left_of costs queue
  left_less = omega (
    arith,
    ap (sum_by length) others,
    sum_by-set length queue bucket (bucket_at rest bucket) [] bucket_below,
    ap length last,
    length-append (bucket_at rest bucket) (step ∷ []),
  )

  no_idle : (b : ℕ) → b < 17 → IsIdle bucket 0 b → ⊥
  no_idle b below (inl low) = omega (arith, low.0, low.1)
  no_idle b below (inr high) = omega (arith, high.1, below, u.in_ring)

  -- the step isn't eased: it waits in another bucket, or is far
  pub step_passed : (cost_at costs step % 17 ≢ bucket) ⊎ (far_of pieces ≤ cost_at costs step)
      → Underway pieces source costs rest bucket 0
  step_passed unless = record {
    one_each = u.one_each;
    ring = rest_ring;
    back = u.back;
    forward = u.forward;
    walked = u.walked;
    settled = λ s s_in near. elim (u.settled s s_in near) [
      | inl waits ↦ inl (still_waits (cost_at costs s % 17) s (not_here s near) waits)
      | inr eased ↦ inr eased
    ];
    inside = λ b s h. u.inside b s (waited b s h);
    in_ring = u.in_ring;
    at_most = omega arith;
    empty = λ b below idle_now. absurd (no_idle b below idle_now);
  }
    where
      by_case : (s : ℕ) → cost_at costs s < far_of pieces → s ≡ step
          → (cost_at costs step % 17 ≢ bucket) ⊎ (far_of pieces ≤ cost_at costs step) → cost_at costs s % 17 ≢ bucket
      by_case s near same (inl apart) = subst (λ (t : ℕ). cost_at costs t % 17 ≢ bucket) (sym same) apart
      by_case s near same (inr away) = absurd (omega (
        arith,
        away,
        subst (λ
            (t : ℕ). cost_at costs t < far_of pieces) same near,
      ))

      not_here : (s : ℕ) → cost_at costs s < far_of pieces → s ≡ step → cost_at costs s % 17 ≢ bucket
      not_here s near same = by_case s near same unless

  -- the step is eased
  pub step_eased : (new : List ℕ) (after : List (List ℕ)) → Eases pieces step costs new rest after
      → IsEased pieces new step → Underway pieces source new after bucket 0
  step_eased new after e eased = record {
    one_each = e.one_each ∙ u.one_each;
    ring = e.ring ∙ rest_ring;
    back = omega (arith, e.lower (2 * source), u.back);
    forward = omega (arith, e.lower (2 * source + 1), u.forward);
    walked = e.walked source u.walked;
    settled = λ s s_in near. by_place s s_in near (s == step) (eqb-true s step) (eqb-false s step);
    inside = e.inside (λ b s h. u.inside b s (waited b s h));
    in_ring = u.in_ring;
    at_most = omega arith;
    empty = λ b below idle_now. absurd (no_idle b below idle_now);
  }
    where
      still_eased : (s : ℕ) → cost_at new s ≡ cost_at costs s → IsEased pieces costs s → IsEased pieces new s
      still_eased s same h t t_in follows = omega (arith, h t t_in follows, e.lower t, same)

      by_place : (s : ℕ) → s < 2 * length pieces → cost_at new s < far_of pieces → (b : Bool) → (b ≡ true
          → s ≡ step) → (b ≡ false → s ≢ step)
          → Waits after s (cost_at new s) ⊎ IsEased pieces new s
      by_place s s_in near true same other = inr (subst (λ (t : ℕ). IsEased pieces new t) (sym (same refl)) eased)
      by_place s s_in near false same other = elim (e.waiting s) [
        | inr waits ↦ inl waits
        | inl stays ↦ elim (u.settled s s_in (omega (arith, stays, near))) [
          | inl waits ↦ inl (subst (λ (n : ℕ). Waits after s n) (sym stays) (e.keeps (cost_at costs s % 17) s
              (still_waits (cost_at costs s % 17) s (λ is. absurd (other refl is)) waits)))
          | inr before ↦ inr (still_eased s stays before)
        ]
      ]

  pub less_left : (new : List ℕ) (after : List (List ℕ)) → Eases pieces step costs new rest after
      → 18 * left_of new after + (17 - 0) < 18 * left_of costs queue + (17 - idle)
  less_left new after e = omega (arith, e.fewer, left_less, u.at_most)

  pub less_left_passed : 18 * left_of costs rest + (17 - 0) < 18 * left_of costs queue + (17 - idle)
  less_left_passed = omega (arith, left_less, u.at_most)

-- ---- the beginning

nothing_in : (n b s : ℕ) → Contains (get_or (replicate n []) b []) s → ⊥
nothing_in zero b s h = contains_none s h
nothing_in (suc n) zero s h = contains_none s h
nothing_in (suc n) (suc b) s h = nothing_in n b s h

module _ (pieces : List Piece) (source : ℕ) (source_in : source < length pieces) where
  abbrev far_costs : List ℕ
  far_costs = replicate (2 * length pieces) (far_of pieces)

  abbrev first_costs : List ℕ
  first_costs = set (set far_costs (2 * source) 0) (2 * source + 1) 0

  abbrev first_queue : List (List ℕ)
  first_queue = set (set (replicate 17 []) 0 ([] ++ 2 * source ∷ [])) 0 (bucket_at (set (replicate 17 []) 0
      ([] ++ 2 * source ∷ [])) 0 ++ (2 * source + 1) ∷ [])

  source_below : 2 * source < length far_costs
  source_below = omega (arith, length-replicate (2 * length pieces) (far_of pieces), source_in)

  forward_below : 2 * source + 1 < length (set far_costs (2 * source) 0)
  forward_below = omega (
    arith,
    length-set far_costs (2 * source) 0,
    length-replicate (2 * length pieces)
        (far_of pieces),
    source_in,
  )

  -- what holds of the source's two steps at no cost, and elsewhere far away, holds of each
  of_first : (P : ℕ → ℕ → Type 0) (s : ℕ) → s < 2 * length pieces → P (2 * source) 0 → P (2 * source + 1) 0
      → P s (far_of pieces) → P s (cost_at first_costs s)
  of_first P s s_in back forward away =
      at_set (P s) (set far_costs (2 * source) 0) (2 * source + 1) s 0 0 forward_below
      (λ same. subst (λ (t : ℕ). P t 0) (sym same) forward)
      (λ other. at_set (P s) far_costs (2 * source) s 0 0 source_below
      (λ same. subst (λ (t : ℕ). P t 0) (sym same) back)
      (λ other. subst (P s) (sym (get_or-replicate (2 * length pieces) s (far_of pieces) 0 s_in)) away))

  abbrev first_steps : List ℕ
  first_steps = 2 * source ∷ (2 * source + 1) ∷ []

  begun_walked : AreWalked pieces source first_costs
  begun_walked s s_in =
      of_first (λ t c. c < far_of pieces → (more : ℕ) × TurnWalk pieces source more (step_at pieces t) c) s s_in
      (λ near. (0, (step_is_step pieces (2 * source) (omega (arith, source_in)), omega arith, refl)))
      (λ near. (0, (step_is_step pieces (2 * source + 1) (omega (arith, source_in)), omega arith, refl)))
      (λ near. absurd (omega (arith, near)))

  begun_settled : (s : ℕ) → s < 2 * length pieces → cost_at first_costs s < far_of pieces
      → Waits first_queue s (cost_at first_costs s) ⊎ IsEased pieces first_costs s
  begun_settled s s_in near = inl (
      of_first (λ t c. c < far_of pieces → Waits first_queue t c) s s_in
      (λ close. contains_first (2 * source) ((2 * source + 1) ∷ []))
      (λ close. contains_later (2 * source) ((2 * source + 1) ∷ []) (2 * source + 1) (contains_first
      (2 * source + 1) []))
      (λ close. absurd (omega (arith, close))) near)

  begun_inside : AreInside pieces first_queue
  begun_inside zero s h = elim (first_or_later (2 * source) ((2 * source + 1) ∷ []) s h) [
    | inl e ↦ omega (arith, e, source_in)
    | inr rest ↦ elim (first_or_later (2 * source + 1) [] s rest) [
      | inl e ↦ omega (arith, e, source_in)
      | inr none ↦ absurd (contains_none s none)
    ]
  ]
  begun_inside (suc b) s h = absurd (nothing_in 16 b s h)

  pub search_begins : Underway pieces source first_costs first_queue 0 0
  search_begins = record {
    one_each = length-set (set far_costs (2 * source) 0) (2 * source + 1) 0 ∙ length-set far_costs (2 * source) 0
        ∙ length-replicate (2 * length pieces) (far_of pieces);
    ring = refl;
    back = get_or-set_other (set far_costs (2 * source) 0) (2 * source + 1) (2 * source) 0 0 (λ e. omega
        (arith, e)) ∙ get_or-set_same far_costs (2 * source) 0 0 source_below;
    forward = get_or-set_same (set far_costs (2 * source) 0) (2 * source + 1) 0 0 forward_below;
    walked = begun_walked;
    settled = begun_settled;
    inside = begun_inside;
    in_ring = omega arith;
    at_most = omega arith;
    empty = λ b below idle. absurd (none_idle b below idle);
  }
    where
      none_idle : (b : ℕ) → b < 17 → IsIdle 0 0 b → ⊥
      none_idle b below (inl low) = omega (arith, low.0)
      none_idle b below (inr high) = omega (arith, high.1, below)

pub search_begins_at : (pieces : List Piece) (source far : ℕ) (costs : List ℕ) (q0 q1 q2 : List (List ℕ))
    → source < length pieces → far ≡ far_of pieces → costs ≡ replicate (2 * length pieces) far
    → q0 ≡ replicate 17 [] → q1 ≡ set q0 0 (bucket_at q0 0 ++ 2 * source ∷ [])
    → q2 ≡ set q1 0 (bucket_at q1 0 ++ (2 * source + 1) ∷ [])
    → Underway pieces source (set (set costs (2 * source) 0) (2 * source + 1) 0) q2 0 0
search_begins_at pieces source far costs q0 q1 q2 source_in far_is costs_is is0 is1 is2 =
    let all : costs ≡ replicate (2 * length pieces) (far_of pieces) = costs_is
    ∙ ap (λ (n : ℕ). replicate (2 * length pieces) n) far_is in
    let first : q1 ≡ set (replicate 17 []) 0 ([] ++ 2 * source ∷ []) = is1
    ∙ ap (λ (q : List (List ℕ)). set q 0 (bucket_at q 0 ++ 2 * source ∷ [])) is0 in
    let second : q2 ≡ first_queue pieces source source_in = is2
    ∙ ap (λ (q : List (List ℕ)). set q 0 (bucket_at q 0 ++ (2 * source + 1) ∷ [])) first in
    subst (λ (q : List (List ℕ)). Underway pieces source (set (set costs (2 * source) 0) (2 * source + 1) 0) q 0 0)
    (sym second)
    (subst (λ (cs : List ℕ). Underway pieces source (set (set cs (2 * source) 0) (2 * source + 1) 0)
    (first_queue pieces source source_in) 0 0) (sym all)
    (search_begins pieces source source_in))
