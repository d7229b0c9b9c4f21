-- What the easing of steps keeps.
use Rattle.std.proofs.Common.{◌≡◌, ◌≢◌, ◌<◌, ◌≤◌, ◌+◌, ◌*◌, ◌/◌, ◌%◌, ◌==◌, ℕ, suc, Bool, true, false, not, ◌&&◌, List, [], ◌∷◌, ◌++◌, length, get_or, set, refl, sym, ap, ◌∙◌, ◌⊎◌, inl, inr, arith, subst, length-append}
use Rattle.std.specs.List.{Contains, range_with_len}
use Rattle.std.proofs.lemmas.Bool.{eqb-true, eqb-false, eq-eqb}
use Rattle.std.proofs.lemmas.List.{length-set, get_or_default}
use Rattle.std.proofs.lemmas.List.Sums.{sum_by-set}
use Rattle.std.proofs.lemmas.List.Elements.{Contains-get_or, Contains-append_left, Contains-append_right, Contains-append_cases}
use Rattle.route_spec.specs.Routes.{Piece, TurnWalk, can_follow, turn_between}
use Rattle.graph_laws.proofs.Members.{contains_first, first_or_later, contains_none}
use Rattle.segment_core.specs.Steps.{step_at, cost_at, far_of, AreWalked, IsEased, Eases, Waits, bucket_at, leads_to, row_of}
use Rattle.segment_core.proofs.Numbers.{step_is_step}
use Rattle.segment_core.proofs.Places.{at_set, filter_contains, filter_from, in_range_of, range_below}

pub eases_nothing : (pieces : List Piece) (step : ℕ) (costs : List ℕ) (queue : List (List ℕ))
    → Eases pieces step costs costs queue queue
eases_nothing pieces step costs queue = record {
  one_each = refl;
  ring = refl;
  lower = λ s. omega arith;
  stays = refl;
  walked = λ source h. h;
  waiting = λ s. inl refl;
  keeps = λ b s h. h;
  inside = λ h. h;
  fewer = omega arith;
}

pub eases_more : (pieces : List Piece) (step : ℕ) (a b c : List ℕ) (p q r : List (List ℕ))
    → Eases pieces step a b p q → Eases pieces step b c q r → Eases pieces step a c p r
eases_more pieces step a b c p q r g h = record {
  one_each = h.one_each ∙ g.one_each;
  ring = h.ring ∙ g.ring;
  lower = λ s. omega (arith, g.lower s, h.lower s);
  stays = h.stays ∙ g.stays;
  walked = λ source w. h.walked source (g.walked source w);
  waiting = λ s. elim (h.waiting s) [
    | inl same ↦ elim (g.waiting s) [
      | inl again ↦ inl (same ∙ again)
      | inr waits ↦ inr (subst (λ (n : ℕ). Waits r s n) (sym same) (h.keeps (cost_at b s % 17) s waits))
    ]
    | inr waits ↦ inr waits
  ];
  keeps = λ n s w. h.keeps n s (g.keeps n s w);
  inside = λ i. h.inside (g.inside i);
  fewer = omega (arith, g.fewer, h.fewer);
}

first_of_both : (a b : Bool) → a && b ≡ true → a ≡ true
first_of_both true b h = refl
first_of_both false b h = h

no_longer : (b : Bool) → not b ≡ true → b ≡ true → ⊥
no_longer true h g = cc
no_longer false h g = cc

-- a step that follows is another
pub is_other : (pieces : List Piece) (s t : ℕ) → can_follow (step_at pieces s) (step_at pieces t) ≡ true → s ≢ t
is_other pieces s t follows same =
    let halves : s / 2 ≡ t / 2 = ap (λ (n : ℕ). n / 2) same in
    no_longer (s / 2 == t / 2) (first_of_both (not (s / 2 == t / 2)) _ follows) (eq-eqb (s / 2) (t / 2) halves)

module _ (pieces : List Piece) (step other raised : ℕ) (old : List ℕ) (before : List (List ℕ))
    (step_in : step < 2 * length pieces) (other_in : other < 2 * length pieces)
    (each : length old ≡ 2 * length pieces) (near : cost_at old step < far_of pieces) (follows : can_follow
    (step_at pieces step) (step_at pieces other) ≡ true)
    (is : raised ≡ cost_at old step + turn_between (step_at pieces step) (step_at pieces other))
    (less : raised < cost_at old other) (ring : length before ≡ 17) where
  abbrev new : List ℕ
  new = set old other raised

  abbrev bucket : ℕ
  bucket = raised % 17

  abbrev after : List (List ℕ)
  after = set before bucket (bucket_at before bucket ++ other ∷ [])

  below : other < length old
  below = omega (arith, each, other_in)

  bucket_below : bucket < length before
  bucket_below = omega (arith, ring)

  eased_walked : (source : ℕ) → AreWalked pieces source old → AreWalked pieces source new
  eased_walked source walked s s_in = at_set (λ c. c < far_of pieces
      → (more : ℕ) × TurnWalk pieces source more (step_at pieces s) c) old other s raised 0 below
      (λ same close.
      let walk = walked step step_in near in
      let here : TurnWalk pieces source (suc walk.0) (step_at pieces other) raised =
      (step_is_step pieces other other_in, (step_at pieces step, cost_at old step, walk.1, follows, is)) in
      (suc walk.0, subst (λ (t : ℕ). TurnWalk pieces source (suc walk.0) (step_at pieces t) raised) (sym same) here))
      (λ away close. walked s s_in close)

  pub ease_one : Eases pieces step old new before after
  ease_one = record {
    one_each = length-set old other raised;
    ring = length-set before bucket (bucket_at before bucket ++ other ∷ []);
    lower = λ s. at_set (λ c. c ≤ cost_at old s) old other s raised 0 below
        (λ same. subst (λ (t : ℕ). raised ≤ cost_at old t) (sym same) (omega (arith, less))) (λ away. omega arith);
    stays = at_set (λ c. c ≡ cost_at old step) old other step raised 0 below
        (λ same. absurd (is_other pieces step other follows same)) (λ away. refl);
    walked = eased_walked;
    waiting = λ s. at_set (λ c. (c ≡ cost_at old s) ⊎ Waits after s c) old other s raised 0 below
        (λ same. inr (at_set (λ bs. Contains bs s) before bucket bucket
        (bucket_at before bucket ++ other ∷ []) [] bucket_below
        (λ e. Contains-append_right (bucket_at before bucket) (other ∷ []) s (subst (λ (t : ℕ). Contains
        (other ∷ []) t) (sym same) (contains_first other [])))
        (λ e. absurd (e refl))))
        (λ away. inl refl);
    keeps = λ b s h. at_set (λ bs. Contains bs s) before bucket b
        (bucket_at before bucket ++ other ∷ []) [] bucket_below
        (λ same. Contains-append_left (bucket_at before bucket) (other ∷ []) s (subst (λ (n : ℕ). Contains
        (bucket_at before n) s) same h))
        (λ away. h);
    inside = λ i b s. at_set (λ bs. Contains bs s
        → s < 2 * length pieces) before bucket b (bucket_at before bucket ++ other ∷ []) [] bucket_below
        (λ same h. elim (Contains-append_cases (bucket_at before bucket) (other ∷ []) s h) [
          | inl first ↦ i bucket s first
          | inr last ↦ elim (first_or_later other [] s last) [
            | inl e ↦ subst (λ (t : ℕ). t < 2 * length pieces) e other_in
            | inr none ↦ absurd (contains_none s none)
          ]
        ])
        (λ away h. i b s h);
    fewer = omega (
      arith,
      sum_by-set (λ c. c) old other raised 0 below,
      sum_by-set length before bucket (bucket_at before bucket ++ other ∷ []) [] bucket_below,
      length-append (bucket_at before bucket) (other ∷ []),
      less,
    );
  }

-- ---- all the steps that may follow one

-- what was done after so many of them
pub record Relaxing (pieces : List Piece) (step done : ℕ) (row : List ℕ) (old new : List ℕ) (before after : List
    (List ℕ)) : Type 0 where
  pub eases : Eases pieces step old new before after
  pub eased : (k : ℕ) → k < done → get_or row k 0 / 2 ≢ step / 2
      → cost_at new (get_or row k 0) ≤ cost_at new step + turn_between (step_at pieces step) (step_at pieces
      (get_or row k 0))

pub relaxing_none : (pieces : List Piece) (step : ℕ) (row costs : List ℕ) (queue : List (List ℕ))
    → Relaxing pieces step 0 row costs costs queue queue
relaxing_none pieces step row costs queue = record {
  eases = eases_nothing pieces step costs queue;
  eased = λ k
      below. absurd (omega (arith, below));
}

module _ (pieces : List Piece) (step done : ℕ) (row old new : List ℕ) (before after : List (List ℕ))
    (r : Relaxing pieces step done row old new before after) where
  pub relaxing_same : get_or row done 0 / 2 ≡ step / 2 → Relaxing pieces step (done + 1) row old new before after
  relaxing_same same = record {
    eases = r.eases;
    eased = λ k below apart. by_place k below apart (k == done) (eqb-true k done) (eqb-false k done);
  }
    where
      by_place : (k : ℕ) → k < done + 1 → get_or row k 0 / 2 ≢ step / 2 → (b : Bool) → (b ≡ true → k ≡ done)
          → (b ≡ false → k ≢ done)
          → cost_at new (get_or row k 0) ≤ cost_at new step + turn_between (step_at pieces step) (step_at pieces
          (get_or row k 0))
      by_place k below apart true is other = absurd (apart (ap (λ (i : ℕ). get_or row i 0 / 2) (is refl) ∙ same))
      by_place k below apart false is other = r.eased k (omega (arith, below, other refl)) apart

  pub relaxing_more : (newer : List ℕ) (later : List (List ℕ)) → Eases pieces step new newer after later
      → cost_at newer (get_or row done 0) ≤ cost_at newer step + turn_between (step_at pieces step) (step_at pieces
      (get_or row done 0))
      → Relaxing pieces step (done + 1) row old newer before later
  relaxing_more newer later e here = record {
    eases = eases_more pieces step old new newer before after later r.eases e;
    eased = λ k below apart. by_place k below apart (k == done) (eqb-true k done) (eqb-false k done);
  }
    where
      by_place : (k : ℕ) → k < done + 1 → get_or row k 0 / 2 ≢ step / 2 → (b : Bool) → (b ≡ true → k ≡ done)
          → (b ≡ false → k ≢ done)
          → cost_at newer (get_or row k 0) ≤ cost_at newer step + turn_between (step_at pieces step) (step_at pieces
          (get_or row k 0))
      by_place k below apart true is other =
          subst (λ (i : ℕ). cost_at newer (get_or row i 0) ≤ cost_at newer step + turn_between (step_at pieces step)
          (step_at pieces (get_or row i 0))) (sym (is refl)) here
      by_place k below apart false is other = omega (
        arith,
        r.eased k (omega
            (arith, below, other refl)) apart,
        e.lower (get_or row k 0),
        e.stays,
      )

pub row_inside : (pieces : List Piece) (step k : ℕ) → k < length (row_of pieces step)
    → get_or (row_of pieces step) k 0 < 2 * length pieces
row_inside pieces step k below =
    range_below (2 * length pieces) (get_or (row_of pieces step) k 0)
    (filter_from (leads_to pieces step) (range_with_len 0 (2 * length pieces)) (get_or (row_of pieces step) k 0)
    (Contains-get_or (row_of pieces step) k 0 below)).0

both_true : (a b : Bool) → a ≡ true → b ≡ true → a && b ≡ true
both_true true b h g = g
both_true false b h g = cc

not_equal : (a b : ℕ) → a ≢ b → not (a == b) ≡ true
not_equal a b apart = by_test (a == b) (eqb-true a b)
  where
    by_test : (t : Bool) → (t ≡ true → a ≡ b) → not t ≡ true
    by_test true same = absurd (apart (same refl))
    by_test false same = refl

pub row_follows : (pieces : List Piece) (step k : ℕ) → k < length (row_of pieces step)
    → get_or (row_of pieces step) k 0 / 2 ≢ step / 2
    → can_follow (step_at pieces step) (step_at pieces (get_or (row_of pieces step) k 0)) ≡ true
row_follows pieces step k below apart =
    let t = get_or (row_of pieces step) k 0 in
    let leads = (filter_from (leads_to pieces step) (range_with_len 0 (2 * length pieces)) t (Contains-get_or
    (row_of pieces step) k 0 below)).1 in
    both_true (not (step / 2 == t / 2)) (leads_to pieces step t) (not_equal (step / 2) (t / 2) (λ e. apart
    (sym e))) leads

last_of_both : (a b : Bool) → a && b ≡ true → b ≡ true
last_of_both true b h = h
last_of_both false b h = cc

pub relaxed : (pieces : List Piece) (step : ℕ) (old new : List ℕ) (before after : List (List ℕ)) (done : ℕ)
    → length (row_of pieces step) ≤ done
    → Relaxing pieces step done (row_of pieces step) old new before after → IsEased pieces new step
relaxed pieces step old new before after done all r t t_in follows =
    let leads : leads_to pieces step t ≡ true = last_of_both (not (step / 2 == t / 2))
    (leads_to pieces step t) follows in
    let found = filter_contains (leads_to pieces step) (range_with_len 0 (2 * length pieces)) t (in_range_of
    (2 * length pieces) t t_in) leads in
    let k = found.0 in
    let is : get_or (row_of pieces step) k 0 ≡ t = get_or_default (row_of pieces step) k 0 t found.1 ∙ found.2 in
    let apart : get_or (row_of pieces step) k 0 / 2 ≢ step / 2 = λ same. is_apart (ap (λ (i : ℕ). i / 2) (sym is)
    ∙ same) in
    subst (λ (i : ℕ). cost_at new i ≤ cost_at new step + turn_between (step_at pieces step) (step_at pieces i)) is
    (r.eased k (omega (arith, found.1, all)) apart)
  where
    is_apart : t / 2 ≡ step / 2 → ⊥
    is_apart same = no_longer (step / 2 == t / 2) (first_of_both (not (step / 2 == t / 2))
        (leads_to pieces step t) follows) (eq-eqb (step / 2) (t / 2) (sym same))
