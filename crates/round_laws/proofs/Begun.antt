-- A wall that begins at a corner is put in where the walls that the corner is behind end.
use Rattle.std.proofs.Common.{◌≡◌, ℕ, ◌<◌, ◌≤◌, ◌==◌, ℤ, ◌<ℤ◌, ◌≤ℤ◌, sym, ◌∙◌, List, length, get_or, pos, arith}
use Rattle.std.proofs.lemmas.Int.{ints, by_lt_z}
use Rattle.std.specs.Ordering.{int_eq}
use Rattle.std.specs.Prelude.{Bool, true, ◌||◌, false, int_lt, Some, insert}
use Rattle.plane_spec.specs.declared.Point.{Point}
use Rattle.plane_spec.specs.declared.Segment.{Segment}
use Rattle.front_laws.proofs.Lists.{any_at}
use Rattle.front_laws.proofs.Tests.{own_number}
use Rattle.front_laws.specs.Seen.{Seen, spans, side_of, seen_at}
use Rattle.round_laws.proofs.Edits.{put_in}
use Rattle.round_laws.proofs.Placing.{front_of_new, new_in_front}
use Rattle.round_laws.specs.Rounds.{Numbered, is_number, Holds, AreBlockers, AreApartAhead}

-- each of the list passes the test
pub passes_at : (p : Point) (blockers : List Segment) (kept : ℕ → Bool) (test : ℕ → Seen → Bool)
    (active : List Numbered) (k : ℕ) (b : Numbered) → Holds p blockers kept test active → k < length active
    → test (get_or active k b).0 (get_or active k b).1 ≡ true
passes_at p blockers kept test active k b h lt =
    let c = get_or active k b in
    sym (h.exactly c.0 c.1 (h.numbers k b lt) (h.are_kept k b lt) (h.known k b lt))
    ∙ any_at (is_number c.0) active b (record { place = k; within = lt; holds = own_number c.0 })

not_less : (z : ℤ) → int_lt z (pos 0) ≡ false → (int_eq z (pos 0) ≡ true → ⊥) → pos 0 <ℤ z
not_less z h f = by_lt_z (pos 0) z (λ lt. lt) (λ le. absurd (f (zero z (none z h) le)))
  where
    none : (z : ℤ) → int_lt z (pos 0) ≡ false → pos 0 ≤ℤ z
    none z h = omega (arith, ints, h)

    zero : (z : ℤ) → pos 0 ≤ℤ z → z ≤ℤ pos 0 → int_eq z (pos 0) ≡ true
    zero z h k = grind (arith, ints)

-- the list with the wall that begins at the corner, at the place up to which the corner is behind all walls
pub put_new : (p : Point) (blockers : List Segment) (kept : ℕ → Bool) (test : ℕ → Seen → Bool) (active : List Numbered)
    (i n : ℕ) (t : Seen) → Holds p blockers kept test active → AreBlockers p blockers → i ≤ length active
    → n < length blockers → kept n ≡ true → seen_at p blockers n ≡ Some t
    → ((m : ℕ) (s : Seen) → m < length blockers → seen_at p blockers m ≡ Some s → test m s ≡ true → spans t.from s
    ≡ true)
    → ((m : ℕ) (s : Seen) → m < length blockers → seen_at p blockers m ≡ Some s → test m s ≡ true → AreApartAhead s t)
    → ((m : ℕ) (s : Seen) → m < length blockers → seen_at p blockers m ≡ Some s → test m s ≡ true
    → int_eq (side_of s t.from) (pos 0) ≡ true → ⊥)
    → ((k : ℕ) (b : Numbered) → k < i → int_lt (side_of (get_or active k b).1 t.from) (pos 0) ≡ true)
    → ((k : ℕ) (b : Numbered) → i ≤ k → k < length active → int_lt (side_of (get_or active k b).1 t.from) (pos 0)
    ≡ false)
    → Holds p blockers kept (λ m s. test m s || (n == m)) (insert active i (n, t))
put_new p blockers kept test active i n t h are inside within k seen spanned apart through before after =
    put_in p blockers kept test active i n t h inside within k seen
    (λ j b lt. let c = get_or active j b in
    let j_in = chain j i (length active) lt inside in
    let own = passes_at p blockers kept test active j b h j_in in
    let c_in = h.numbers j b j_in in let c_seen = h.known j b j_in in
    front_of_new c.1 t (are c.0 c.1 c_in c_seen) (are n t within seen) (spanned c.0 c.1 c_in c_seen own)
    (apart c.0 c.1 c_in c_seen own) (before j b lt))
    (λ j b le lt. let c = get_or active j b in
    let own = passes_at p blockers kept test active j b h lt in
    let c_in = h.numbers j b lt in let c_seen = h.known j b lt in
    new_in_front c.1 t (are c.0 c.1 c_in c_seen) (are n t within seen) (spanned c.0 c.1 c_in c_seen own)
    (apart c.0 c.1 c_in c_seen own)
    (not_less (side_of c.1 t.from) (after j b le lt) (through c.0 c.1 c_in c_seen own)))
  where
    chain : (a b c : ℕ) → a < b → b ≤ c → a < c
    chain a b c h k = omega (arith, h, k)
