-- What the round needs at its corners, and the view at its end.
use Rattle.std.proofs.Common.{◌≡◌, ◌≢◌, ℕ, ◌<◌, ◌≤◌, ℤ, ◌+ℤ◌, ◌-ℤ◌, ◌*ℤ◌, ◌<ℤ◌, ◌∙◌, [], ◌∷◌, pos, arith, ap, sym}
use Rattle.std.proofs.Common.{subst, length, get_or, zero, suc, refl, List}
use Rattle.std.proofs.lemmas.Int.{ints}
use Rattle.std.specs.Ordering.{int_eq}
use Rattle.std.specs.Prelude.{true, cond, int_lt, Some, None, Bool, Option, insert, remove, All}
use Rattle.plane_spec.specs.Vectors.{vector, InRange, IsWithin, IsDirection, point, same_point, cross_of, IsDirected}
use Rattle.plane_spec.specs.Vectors.{dot_of}
use Rattle.plane_spec.specs.declared.Point.{Point}
use Rattle.plane_spec.specs.declared.Segment.{Segment}
use Rattle.sight_spec.specs.Scene.{Scene}
use Rattle.int_laws.proofs.Signs.{tested_positive, positive_tested}
use Rattle.front_laws.proofs.Tests.{both_of, tested_zero, by_cases, none_some, some_same, both_true, zero_tested}
use Rattle.front_laws.proofs.Tests.{tested_same_number}
use Rattle.front_laws.specs.Seen.{Seen, seen_of}
use Rattle.round_laws.specs.Rounds.{AreHidden}
use Rattle.round_laws.proofs.Without.{behind_first}
use Rattle.round_laws.specs.Kept.{ArePast}
use Rattle.round_laws.specs.Rounds.{IsBlocker, Numbered, first_held, IsRound}
use Rattle.sweep_laws.proofs.Grouped.{stands_where}
use Rattle.sweep_laws.specs.First.{IsFirst}
use Rattle.sweep_laws.specs.Groups.{stands_in, no_corner}
use Rattle.sweep_laws.specs.Parts.{begins_blocked}
use Rattle.turn_laws.specs.Places.{place_of}
use Rattle.view_laws.proofs.Answers.{ahead_along, behind_along}
use Rattle.view_laws.specs.Views.{IsAlong, is_past_first, is_in_arc, is_led_into, IsViewOf}
use Rattle.view_laws.specs.declared.view.Arc.{Arc}
use Rattle.view_laws.specs.declared.view.View.{View}

-- ---- walls

difference_in : (p q : Point) → InRange p → InRange q → IsDirection (vector p q)
difference_in p q p_in q_in = record { x = by_ends p.x q.x p_in.x q_in.x; y = by_ends p.y q.y p_in.y q_in.y }
  where
    by_ends : (x y : ℤ) → IsWithin (pos 100000) x → IsWithin (pos 100000) y → IsWithin (pos 400000) (y -ℤ x)
    by_ends x y h k = record { low = omega (arith, ints, h, k); high = omega (arith, ints, h, k) }

points_zero : (d : Point) → same_point d (point (pos 0) (pos 0)) ≡ true → (d.x ≡ pos 0) × (d.y ≡ pos 0)
points_zero d h = let two = both_of (int_eq d.x (pos 0)) (int_eq d.y (pos 0)) h in
    (tested_zero d.x two.0, tested_zero d.y two.1)

first_some : (d e : Point) → pos 0 <ℤ cross_of d e → IsDirected d
first_some d e up = record {
  somewhere = by_cases (same_point d (point (pos 0) (pos 0)))
      (λ h. absurd (let z = points_zero d h in none d.x d.y e.x e.y z.0 z.1 up))
      (λ h. h);
}
  where
    none : (x y u v : ℤ) → x ≡ pos 0 → y ≡ pos 0 → pos 0 <ℤ (x *ℤ v -ℤ y *ℤ u) → ⊥
    none x y u v a b h =
        let e : x *ℤ v ≡ pos 0 *ℤ v = ap (λ t. t *ℤ v) a in
        let f : y *ℤ u ≡ pos 0 *ℤ u = ap (λ t. t *ℤ u) b in
        omega (arith, ints, e, f, h)

second_some : (d e : Point) → pos 0 <ℤ cross_of d e → IsDirected e
second_some d e up = record {
  somewhere = by_cases (same_point e (point (pos 0) (pos 0)))
      (λ h. absurd (let z = points_zero e h in none d.x d.y e.x e.y z.0 z.1 up))
      (λ h. h);
}
  where
    none : (x y u v : ℤ) → u ≡ pos 0 → v ≡ pos 0 → pos 0 <ℤ (x *ℤ v -ℤ y *ℤ u) → ⊥
    none x y u v a b h =
        let e : x *ℤ v ≡ x *ℤ pos 0 = ap (λ t. x *ℤ t) b in
        let f : y *ℤ u ≡ y *ℤ pos 0 = ap (λ t. y *ℤ t) a in
        omega (arith, ints, e, f, h)

blocker_by : (d e : Point) → IsDirection d → IsDirection e → pos 0 <ℤ cross_of d e
    → IsBlocker (record { from = d; to = e })
blocker_by d e d_in e_in up = record {
  from_in = d_in;
  to_in = e_in;
  from_some = first_some d e up;
  to_some = second_some d e up;
  up = up;
}

-- a wall between points in range, as it is seen from one
pub blocker_of : (p : Point) (w : Segment) (s : Seen) → InRange p → InRange w.a → InRange w.b → seen_of p w ≡ Some s
    → IsBlocker s
unfolding seen_of
blocker_of p w s p_in a_in b_in h =
    let a = vector p w.a in let b = vector p w.b in
    by_cases (int_lt (pos 0) (cross_of a b))
    (λ k. subst IsBlocker (some_same (record { from = a; to = b }) s
    (sym (ap (λ t. cond t (Some (record { from = a; to = b }))
    (cond (int_lt (cross_of a b) (pos 0)) (Some (record { from = b; to = a })) None)) k) ∙ h))
    (blocker_by a b (difference_in p w.a p_in a_in) (difference_in p w.b p_in b_in) (tested_positive (cross_of a b) k)))
    (λ k. by_cases (int_lt (cross_of a b) (pos 0))
    (λ l. subst IsBlocker (some_same (record { from = b; to = a }) s
    (sym (ap (λ t. cond t (Some (record { from = a; to = b }))
    (cond (int_lt (cross_of a b) (pos 0)) (Some (record { from = b; to = a })) None)) k
    ∙ ap (λ t. cond t (Some (record { from = b; to = a })) None) l) ∙ h))
    (blocker_by b a (difference_in p w.b p_in b_in) (difference_in p w.a p_in a_in) (turned a b l)))
    (λ l. none_some s (sym (ap (λ t. cond t (Some (record { from = a; to = b }))
    (cond (int_lt (cross_of a b) (pos 0)) (Some (record { from = b; to = a })) None)) k
    ∙ ap (λ t. cond t (Some (record { from = b; to = a })) None) l) ∙ h)))
  where
    turned : (a b : Point) → int_lt (cross_of a b) (pos 0) ≡ true → pos 0 <ℤ cross_of b a
    turned a b h = omega (arith, ints, h)

-- ---- corners

along_stands : (p d x : Point) → IsAlong d (vector p x) → stands_in p d x ≡ true
along_stands p d x a = both_true (int_eq (cross_of d (vector p x)) (pos 0)) (int_lt (pos 0) (dot_of d (vector p x)))
    (zero_tested (cross_of d (vector p x)) a.line) (positive_tested (dot_of d (vector p x)) a.ahead)

pub along_some : (d v : Point) → IsAlong d v → IsDirected v
along_some d v a = record {
  somewhere = by_cases (same_point v (point (pos 0) (pos 0)))
      (λ h. absurd (let z = points_zero v h in none d.x d.y v.x v.y z.0 z.1 a.ahead))
      (λ h. h);
}
  where
    none : (x y u v : ℤ) → u ≡ pos 0 → v ≡ pos 0 → pos 0 <ℤ (x *ℤ u +ℤ y *ℤ v) → ⊥
    none x y u v a b h =
        let e : x *ℤ u ≡ x *ℤ pos 0 = ap (λ t. x *ℤ t) a in
        let f : y *ℤ v ≡ y *ℤ pos 0 = ap (λ t. y *ℤ t) b in
        omega (arith, ints, e, f, h)

-- where no kept corner is of the direction's place, all corners in the direction are behind the first
pub all_hidden : (scene : Scene) (p d : Point) (kept : ℕ → Bool) (first : Option (ℕ × Seen)) → IsFirst scene p d first
    → IsDirection d → IsDirected d
    → ((j : ℕ) → j < length scene.corners → IsDirection (vector p (get_or scene.corners j no_corner).here))
    → ((j : ℕ) → j < length scene.corners → kept j ≡ true
    → place_of d ≢ place_of (vector p (get_or scene.corners j no_corner).here))
    → ArePast scene p d kept → AreHidden scene p d first
all_hidden scene p d kept first is d_in d_some corners_in none past = record {
  ahead = λ j lt h. at j lt (ahead_along p d (get_or scene.corners j no_corner) h);
  behind = λ j lt h. at j lt (behind_along p d (get_or scene.corners j no_corner) h);
}
  where
    at : (j : ℕ) → j < length scene.corners → IsAlong d (vector p (get_or scene.corners j no_corner).here)
        → is_past_first first (vector p (get_or scene.corners j no_corner).here) ≡ true
    at j lt along =
        let x = (get_or scene.corners j no_corner).here in
        let stands = along_stands p d x along in
        by_cases (kept j)
        (λ k. absurd (none j lt k (tested_same_number (place_of d) (place_of (vector p x))
        (sym (stands_where p d x d_in d_some (corners_in j lt) (along_some d (vector p x) along)) ∙ stands))))
        (λ k. let c = past j lt k stands in
        behind_first scene p d (vector p x) first c.number c.cover is d_some along c.within c.seen c.spanned c.past)

-- ---- the front of the list

-- what is done behind the first leaves it
pub first_stays_in : (active : List Numbered) (i : ℕ) (b : Numbered) → 0 < i → i ≤ length active
    → first_held (insert active i b) ≡ first_held active
first_stays_in [] i b up inside = absurd (omega arith)
first_stays_in (a ∷ rest) zero b up inside = absurd (omega arith)
first_stays_in (a ∷ rest) (suc i) b up inside = refl

pub first_stays_out : (active : List Numbered) (i : ℕ) → 0 < i → i < length active → first_held (remove active i)
    ≡ first_held active
first_stays_out [] i up inside = absurd (omega arith)
first_stays_out (a ∷ rest) zero up inside = absurd (omega arith)
first_stays_out (a ∷ rest) (suc i) up inside = refl

-- ---- the end

-- once all places of the arc are below, it is a view
pub round_ends : (scene : Scene) (p : Point) (arc : Arc) (kept : ℕ → Bool) (view : View) (place : ℕ)
    (active : List Numbered) → IsRound scene p arc kept view.before view.sectors.items place active
    → ((d : Point) → IsDirection d → IsDirected d → is_in_arc arc d ≡ true → place_of d < place)
    → ((d : Point) → IsDirection d → IsDirected d → begins_blocked scene p d ≡ is_led_into view.ground d)
    → All (λ s. place_of s.way ≡ s.place) view.sectors.items → IsViewOf scene p arc view
round_ends scene p arc kept view place active r all ground ways = record {
  ground = ground;
  tells = λ d d_in d_some within. r.radials.tells d d_in d_some within (all d d_in d_some within);
  order = r.radials.order;
  ways = ways;
}
