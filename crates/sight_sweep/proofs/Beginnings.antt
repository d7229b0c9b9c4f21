-- How a round begins, and the view at its end.
use Rattle.std.proofs.lemmas.Int.{ints}
use Rattle.std.proofs.Common.{◌≡◌, ℕ, ◌+◌, ◌<◌, ◌≤◌, ◌==◌, arith, ap, sym, ◌∙◌, subst, List, [], length}
use Rattle.std.specs.Prelude.{Bool, true, false, ◌&&◌, ◌||◌, not, nat_lt, Option, Some}
use Rattle.std.specs.Option.{option_map}
use Rattle.plane_spec.specs.declared.Point.{Point}
use Rattle.plane_spec.specs.declared.Segment.{Segment}
use Rattle.plane_spec.specs.Vectors.{vector, turns_left, IsDirection, IsDirected}
use Rattle.sight_spec.specs.Scene.{Scene, blockers_of_scene}
use Rattle.front_laws.specs.Seen.{Seen, seen_of, seen_at, spans}
use Rattle.apart_laws.proofs.Through.{by_ends}
use Rattle.front_laws.proofs.Tests.{by_cases, both_of, clash, tested_same_number, own_number, some_same}
use Rattle.turn_laws.specs.Places.{place_of}
use Rattle.sweep_laws.specs.Parts.{begins_blocked}
use Rattle.view_laws.specs.declared.view.Arc.{Arc}
use Rattle.view_laws.specs.declared.view.Front.{Front}
use Rattle.view_laws.specs.declared.view.View.{View}
use Rattle.view_laws.specs.Views.{is_led_into, IsViewOf}
use Rattle.round_laws.specs.Rounds.{is_open_at, from_place, to_place, AreWalls, front_after}
use Rattle.round_laws.proofs.Steps.{spans_at, spanned_of_open, differ}
use Rattle.sight_sweep.specs.declared.blocker.Blocker.{Blocker}
use Rattle.sight_sweep.specs.Actives.{front, first_of, IsActive, SpansAll, beside}
use Rattle.sight_sweep.specs.Arcs.{IsArc, start_of, start_place, end_place}
use Rattle.sight_sweep.specs.Rounds.{are_beside, is_held_at, IsUnderway, spanned_so_far}
use Rattle.sight_sweep.proofs.Actives.{active_so}
use Rattle.sight_sweep.proofs.Passing.{first_front}
use Rattle.sight_sweep.proofs.Going.{in_arc_from, in_arc_below}

-- ---- the list at the start

pub spanned_all_so_far : (scene : Scene) (p d : Point) (kept : ℕ → Bool) (count : ℕ)
    → SpansAll scene p kept (spanned_so_far d count) d
spanned_all_so_far scene p d kept count n s within own is h = first (spans d s) (nat_lt n count) h
  where
    first : (a b : Bool) → (a && b) ≡ true → a ≡ true
    first a b h = grind arith

-- a direction spans nothing that lies beside it
pub beside_unspanned : (p d : Point) (w : Segment) (s : Seen) → seen_of p w ≡ Some s
    → are_beside d (vector p w.a) (vector p w.b) ≡ true → spans d s ≡ false
beside_unspanned p d w s seen h = by_cases (turns_left d (vector p w.a) && turns_left d (vector p w.b))
    (λ left.
    let two = both_of (turns_left d (vector p w.a)) (turns_left d (vector p w.b)) left in
    let e = by_ends (λ v. turns_left d v ≡ true) p w s two.0 two.1 seen in
    first_fails (turns_left s.from d) (turns_left d s.to) (turned d s.from e.0))
    (λ other.
    let two = both_of (turns_left (vector p w.a) d) (turns_left (vector p w.b) d)
    (rest (turns_left d (vector p w.a) && turns_left d (vector p w.b)) _ other h) in
    let e = by_ends (λ v. turns_left v d ≡ true) p w s two.0 two.1 seen in
    second_fails (turns_left s.from d) (turns_left d s.to) (turned s.to d e.1))
  where
    first_fails : (a b : Bool) → a ≡ false → (a && b) ≡ false
    first_fails a b h = grind arith

    second_fails : (a b : Bool) → b ≡ false → (a && b) ≡ false
    second_fails a b h = grind arith

    rest : (a b : Bool) → a ≡ false → (a || b) ≡ true → b ≡ true
    rest a b h k = grind arith

    turned : (a b : Point) → turns_left a b ≡ true → turns_left b a ≡ false
    turned a b h = by_cases (turns_left b a) (λ k. absurd (never a b h k)) (λ k. k)
      where
        never : (a b : Point) → turns_left a b ≡ true → turns_left b a ≡ true → ⊥
        never a b h k = omega (arith, ints, h, k)

-- the next one isn't spanned, or isn't seen
pub spanned_other : (scene : Scene) (p d : Point) (kept : ℕ → Bool) (count : ℕ) (active : List Blocker)
    → ((s : Seen) → seen_at p (blockers_of_scene scene) count ≡ Some s → spans d s ≡ false)
    → IsActive scene p kept (spanned_so_far d count) active
    → IsActive scene p kept (spanned_so_far d (count + 1)) active
spanned_other scene p d kept count active other a = active_so scene p kept (spanned_so_far d count)
    (spanned_so_far d (count + 1)) active a
    (λ n s within own is. by_cases (count == n)
    (λ e. let none = other s (subst (λ m. seen_at p (blockers_of_scene scene) m ≡ Some s)
    (sym (tested_same_number count n e)) is) in
    fails (spans d s) (nat_lt n count) (nat_lt n (count + 1)) none)
    (λ e. ap (λ t. spans d s && t) (stays n count e)))
  where
    fails : (a b c : Bool) → a ≡ false → (a && b) ≡ (a && c)
    fails a b c h = grind arith

    stays : (n count : ℕ) → (count == n) ≡ false → nat_lt n count ≡ nat_lt n (count + 1)
    stays n count h = grind arith

-- the next one is left out
pub left_out_one : (scene : Scene) (p d : Point) (kept : ℕ → Bool) (count : ℕ) (active : List Blocker)
    → kept count ≡ false → IsActive scene p kept (spanned_so_far d count) active
    → IsActive scene p kept (spanned_so_far d (count + 1)) active
left_out_one scene p d kept count active out a = active_so scene p kept (spanned_so_far d count)
    (spanned_so_far d (count + 1)) active a
    (λ n s within own is. by_cases (count == n)
    (λ e. absurd (clash (kept n) own (subst (λ m. kept m ≡ false) (tested_same_number count n e) out)))
    (λ e. ap (λ t. spans d s && t) (stays n count e)))
  where
    stays : (n count : ℕ) → (count == n) ≡ false → nat_lt n count ≡ nat_lt n (count + 1)
    stays n count h = grind arith

-- the next one is spanned, and is in
pub spanned_next_one : (scene : Scene) (p d : Point) (kept : ℕ → Bool) (count : ℕ) (active : List Blocker) (t : Seen)
    → seen_at p (blockers_of_scene scene) count ≡ Some t → spans d t ≡ true
    → IsActive scene p kept (beside count (spanned_so_far d count)) active
    → IsActive scene p kept (spanned_so_far d (count + 1)) active
spanned_next_one scene p d kept count active t known spanned a = active_so scene p kept
    (beside count (spanned_so_far d count)) (spanned_so_far d (count + 1)) active a
    (λ n s within own is. by_cases (count == n)
    (λ e. let same : t ≡ s = some_same t s
    (sym known ∙ subst (λ m. seen_at p (blockers_of_scene scene) m ≡ Some s) (sym (tested_same_number count n e)) is) in
    comes (spans d s) (nat_lt n count) (count == n) (nat_lt n (count + 1))
    (subst (λ u. spans d u ≡ true) same spanned) e (within_next n count e))
    (λ e. ap (λ u. (spans d s && nat_lt n count) || u) e ∙ only (spans d s && nat_lt n count)
    ∙ ap (λ u. spans d s && u) (stays n count e)))
  where
    comes : (a b c e : Bool) → a ≡ true → c ≡ true → e ≡ true → ((a && b) || c) ≡ (a && e)
    comes a b c e h k j = grind arith

    only : (a : Bool) → (a || false) ≡ a
    only a = grind arith

    within_next : (n count : ℕ) → (count == n) ≡ true → nat_lt n (count + 1) ≡ true
    within_next n count h = grind arith

    stays : (n count : ℕ) → (count == n) ≡ false → nat_lt n count ≡ nat_lt n (count + 1)
    stays n count h = grind arith

pub spanned_none : (scene : Scene) (p d : Point) (kept : ℕ → Bool) → IsActive scene p kept (spanned_so_far d 0) []
spanned_none scene p d kept = record {
  held = record {
    order = λ i j e lt within. absurd (omega arith);
    known = λ k e lt. absurd (omega arith);
    numbers = λ k e lt. absurd (omega arith);
    are_kept = λ k e lt. absurd (omega arith);
    exactly = λ n s within own is. none (spans d s) n;
  };
  known = λ k e lt. absurd (omega arith);
}
  where
    none : (a : Bool) (n : ℕ) → false ≡ (a && nat_lt n 0)
    none a n = grind arith

pub spanned_whole : (scene : Scene) (p d : Point) (kept : ℕ → Bool) (count : ℕ) (active : List Blocker)
    → length (blockers_of_scene scene) ≤ count
    → IsActive scene p kept (spanned_so_far d count) active → IsActive scene p kept (λ n s. spans d s) active
spanned_whole scene p d kept count active end a = active_so scene p kept (spanned_so_far d count)
    (λ n s. spans d s) active a
    (λ n s within own is. whole (spans d s) n (length (blockers_of_scene scene)) count within end)
  where
    whole : (a : Bool) (n m count : ℕ) → n < m → m ≤ count → (a && nat_lt n count) ≡ a
    whole a n m count h k = grind arith

-- ---- how the round begins

pub underway_at_start : (scene : Scene) (p : Point) (arc : Arc) (kept : ℕ → Bool) (before : Option Front)
    (active : List Blocker)
    → AreWalls scene p → IsArc arc → IsDirection (start_of arc) → IsDirected (start_of arc)
    → IsActive scene p kept (λ n s. spans (start_of arc) s) active → before ≡ option_map front (first_of active)
    → IsUnderway scene p arc kept (start_place arc) before [] (start_place arc) active
unfolding front_after
underway_at_start scene p arc kept before active walls is_arc d_in d_some a before_is = record {
  radials = record {
    tells = λ d d_in d_some within lt. absurd
        (never (place_of d) (start_place arc) lt (in_arc_from arc d is_arc d_in d_some within));
    order = λ i j d lt within. absurd (omega arith);
    below = λ k d lt. absurd (omega arith);
    front = before_is ∙ first_front scene p active a.known;
  };
  holds = active_so scene p kept (λ n s. spans (start_of arc) s)
      (λ n s. is_held_at (start_place arc) (from_place s) (to_place s) (start_place arc)) active a
      (λ n s within own is. let b = walls.blockers n s within is in
      spans_at (start_of arc) s d_in d_some b
      ∙ spanned_of_open (from_place s) (to_place s) (start_place arc) (differ s b)
      ∙ ap (λ t. is_open_at (from_place s) (to_place s) (start_place arc) && not t)
      (alone (to_place s == start_place arc) (start_place arc == start_place arc) (own_number (start_place arc))));
  ways = λ k d lt. absurd (omega arith);
  to_corners = λ k d lt. absurd (omega arith);
  since = own (start_place arc);
}
  where
    never : (m n : ℕ) → m < n → n ≤ m → ⊥
    never m n h k = omega (arith, h, k)

    alone : (a b : Bool) → b ≡ true → a ≡ (a && b)
    alone a b h = grind arith

    own : (n : ℕ) → n ≤ n
    own n = omega arith

-- ---- the view at its end

pub view_at_end : (scene : Scene) (p : Point) (arc : Arc) (kept : ℕ → Bool) (view : View) (active : List Blocker)
    → IsArc arc
    → IsUnderway scene p arc kept (start_place arc) view.before view.sectors.items (end_place arc) active
    → ((d : Point) → IsDirection d → IsDirected d → begins_blocked scene p d ≡ is_led_into view.ground d)
    → IsViewOf scene p arc view
view_at_end scene p arc kept view active is_arc u ground = record {
  ground = ground;
  tells = λ d d_in d_some within. u.radials.tells d d_in d_some within (in_arc_below arc d is_arc d_in d_some within);
  order = u.radials.order;
  ways = u.ways;
}
