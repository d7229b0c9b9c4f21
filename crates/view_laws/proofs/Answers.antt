-- Sight and the nearest wall by what a view says of one direction.
--
-- A view says of a direction what is first, as edge and spread, and how far off the nearest corners are. The side of
-- the first comes from edge and spread (`side_is`), so it hides what the first hides, and its number is that of the
-- nearest wall. A distance is that of a corner which is led into, and each such corner is no nearer or behind the
-- first. So the nearest such corner is at that distance; or it is behind the first, and then a point behind that
-- corner is hidden anyhow (`past_hides`), and one before it isn't reached by the corner. Along one direction distances
-- order as dot products do (`Lengths`). So the four parts of the law of sight are answered as the view answers them,
-- but for corners that matter only where the first hides the point already.
use Rattle.std.proofs.Common.{◌≡◌, ℕ, ◌<◌, ◌≤◌, ℤ, ◌+ℤ◌, ◌-ℤ◌, ◌*ℤ◌, ◌<ℤ◌, ◌≤ℤ◌, ◌∙◌, [], ◌∷◌, arith, zero, suc, refl}
use Rattle.std.proofs.Common.{List, length, get_or, nat_lt, pos, ap, sym, subst}
use Rattle.std.proofs.lemmas.Int.{ints, by_lt_z}
use Rattle.std.specs.Option.{option_map}
use Rattle.std.specs.Ordering.{int_eq}
use Rattle.std.specs.Prelude.{◌&&◌, ◌||◌, int_lt, Option, Some, None, true, Bool, false, not, int_le}
use Rattle.plane_spec.specs.Cones.{is_in_cone}
use Rattle.plane_spec.specs.Vectors.{vector, cross_of, point, dot_of, IsDirected, same_point, reversed_direction}
use Rattle.plane_spec.specs.declared.Corner.{Corner}
use Rattle.plane_spec.specs.declared.Point.{Point}
use Rattle.plane_spec.specs.declared.Segment.{Segment}
use Rattle.sight_spec.specs.Scene.{Scene, blockers_of_scene}
use Rattle.sight_spec.specs.Sight.{are_in_sight}
use Rattle.sight_spec.specs.Stops.{near_wall_of}
use Rattle.int_laws.proofs.Ring.{minus_times, times_minus}
use Rattle.int_laws.proofs.Signs.{tested_positive, not_negative_product}
use Rattle.int_laws.proofs.Tests.{tested_less, tested_at_most}
use Rattle.exact_geom.proofs.Circle.{dot_itself}
use Rattle.sight_spec.specs.Isovist.{no_segment}
use Rattle.front_laws.proofs.Tests.{guarded, tested_number_less, both_of, tested_zero, negative_tested, either_first}
use Rattle.front_laws.proofs.Tests.{never}
use Rattle.front_laws.specs.Seen.{Seen, side_of, spans}
use Rattle.sweep_laws.specs.Parts.{hides_itself}
use Rattle.sweep_laws.proofs.NearWall.{near_wall_is}
use Rattle.sweep_laws.proofs.Sight.{sight_is}
use Rattle.sweep_laws.specs.First.{seen_first}
use Rattle.sweep_laws.specs.Parts.{first_hides}
use Rattle.sweep_laws.specs.First.{IsFirst, IsFront}
use Rattle.sweep_laws.specs.Groups.{stands_in, is_ahead, is_behind}
use Rattle.sweep_laws.specs.Parts.{is_hidden, IsNearestOrNone, is_nearer, is_up_to, begins_blocked}
use Rattle.view_laws.proofs.Lengths.{hit_before}
use Rattle.view_laws.proofs.Nearest.{Really, unmet, there, beyond, lengths_tell, lengths_tell_up_to, really}
use Rattle.view_laws.specs.Views.{front_of, is_hidden_by, number_by, IsAlong, length_of, is_before_end_of}
use Rattle.view_laws.specs.Views.{is_up_to_end_of, Radial, IsRadial, is_seen_by}

-- ---- the first, by edge and spread

pub side_is : (s : Seen) (d : Point) → cross_of s.from s.to +ℤ cross_of (vector s.from s.to) d ≡ side_of s d
side_is s d =
    let a = minus_times s.to.x s.from.x d.y in
    let b = minus_times s.to.y s.from.y d.x in
    omega (arith, ints, a, b)

no_default : {X : Type 0} (xs : List X) (k : ℕ) (d e : X) → k < length xs → get_or xs k d ≡ get_or xs k e
no_default [] k d e lt = absurd (omega arith)
no_default (x ∷ xs) zero d e lt = refl
no_default (x ∷ xs) (suc k) d e lt = no_default xs k d e (omega arith)

hides_same : (p : Point) (walls : List Segment) (k : ℕ) → hides_itself p walls k ≡ hides_itself p walls k
hides_same p walls k =
    guarded (nat_lt k (length walls)) _ _
    (λ h. ap (λ w. int_lt (pos 0) (cross_of (vector p w.a) (vector p w.b)))
    (no_default walls k (record { a = point (pos 0) (pos 0); b = point (pos 0) (pos 0) }) no_segment
    (tested_number_less k (length walls) h)))

pub hidden_same : (scene : Scene) (p d : Point) (first : Option (ℕ × Seen))
    → is_hidden_by (option_map (front_of scene p) first) d ≡ is_hidden (first_hides scene p first) d (seen_first first)
hidden_same scene p d None = refl
hidden_same scene p d (Some f) =
    ap (λ t. int_lt t (pos 0) || (int_eq t (pos 0) && hides_itself p scene.walls f.0)) (side_is f.1 d)
    ∙ ap (λ t. int_lt (side_of f.1 d) (pos 0) || (int_eq (side_of f.1 d) (pos 0) && t)) (hides_same p scene.walls f.0)

near_wall_by : (scene : Scene) (p d : Point) (first : Option (ℕ × Seen)) → IsFirst scene p d first
    → near_wall_of scene p d ≡ number_by (option_map (front_of scene p) first)
near_wall_by scene p d None h = near_wall_is scene p d None h
near_wall_by scene p d (Some f) h = near_wall_is scene p d (Some f) h

-- ---- corners

pub ahead_along : (p d : Point) (c : Corner) → is_ahead p d c ≡ true → IsAlong d (vector p c.here)
ahead_along p d c h =
    let one = both_of (stands_in p d c.here) (is_in_cone c d) h in
    let two = both_of (int_eq (cross_of d (vector p c.here)) (pos 0)) (int_lt (pos 0) (dot_of d (vector p c.here)))
    one.0 in
    record {
      line = tested_zero (cross_of d (vector p c.here)) two.0;
      ahead = tested_positive
          (dot_of d (vector p c.here)) two.1;
    }

pub behind_along : (p d : Point) (c : Corner) → is_behind p d c ≡ true → IsAlong d (vector p c.here)
behind_along p d c h =
    let one = both_of (stands_in p d c.here) (is_in_cone c (reversed_direction d)) h in
    let two = both_of (int_eq (cross_of d (vector p c.here)) (pos 0)) (int_lt (pos 0) (dot_of d (vector p c.here)))
    one.0 in
    record {
      line = tested_zero (cross_of d (vector p c.here)) two.0;
      ahead = tested_positive
          (dot_of d (vector p c.here)) two.1;
    }

-- a point beyond what is behind the first is hidden by the first
end_past : (d v : Point) (s : Seen) → IsDirected d → IsAlong d v → spans d s ≡ true → int_lt (side_of s v) (pos 0)
    ≡ true → dot_of d v ≤ℤ dot_of d d → int_lt (side_of s d) (pos 0) ≡ true
end_past d v s some along spanned past near =
    behind (cross_of s.from s.to) (dot_of d d) (dot_of d v) (cross_of d s.to +ℤ cross_of s.from d) (side_of s d)
    (hit_before d v s some along spanned past) near (dot_itself d some) (den_up d s spanned) (side_by s d)
  where
    side_by : (s : Seen) (d : Point) → side_of s d ≡ cross_of s.from s.to -ℤ (cross_of d s.to +ℤ cross_of s.from d)
    side_by s d = omega (arith, ints)

    den_up : (d : Point) (s : Seen) → spans d s ≡ true → pos 0 <ℤ (cross_of d s.to +ℤ cross_of s.from d)
    den_up d s h = let two = both_of (int_lt (pos 0) (cross_of s.from d)) (int_lt (pos 0) (cross_of d s.to)) h in
        sum (cross_of d s.to) (cross_of s.from d) two.1 two.0
      where
        sum : (a b : ℤ) → int_lt (pos 0) a ≡ true → int_lt (pos 0) b ≡ true → pos 0 <ℤ (a +ℤ b)
        sum a b h k = omega (arith, ints, h, k)

    behind : (o s v w z : ℤ) → int_lt (o *ℤ s) (v *ℤ w) ≡ true → v ≤ℤ s → pos 0 <ℤ s → pos 0 <ℤ w → z ≡ o -ℤ w
        → int_lt z (pos 0) ≡ true
    behind o s v w z h near s_up w_up e = by_lt_z o w
        (λ lt. negative_tested z (omega (arith, ints, e, lt)))
        (λ le. absurd (
        let a = not_negative_product w (s -ℤ v) (omega (arith, ints, w_up)) (omega (arith, ints, near)) in
        let b = times_minus w s v in
        let c = not_negative_product s (o -ℤ w) (omega (arith, ints, s_up)) (omega (arith, ints, le)) in
        let f = times_minus s o w in
        let g = tested_less (o *ℤ s) (v *ℤ w) h in
        omega (arith, ints, a, b, c, f, g)))

-- so what is behind the first doesn't count before the end, since then the end is hidden
past_hides : (scene : Scene) (p d v : Point) (first : Option (ℕ × Seen)) (f : ℕ × Seen) → IsFirst scene p d first
    → first ≡ Some f → IsDirected d → IsAlong d v → int_lt (side_of f.1 v) (pos 0) ≡ true → dot_of d v ≤ℤ dot_of d d
    → is_hidden (first_hides scene p first) d (seen_first first) ≡ true
past_hides scene p d v first f is e some along past near =
    subst (λ t. is_hidden (first_hides scene p t) d (seen_first t) ≡ true) (sym e)
    (either_first (int_lt (side_of f.1 d) (pos 0)) (int_eq (side_of f.1 d) (pos 0) && hides_itself p scene.walls f.0)
    (end_past d v f.1 some along (spanned_of (subst (λ t. IsFirst scene p d t) e is)) past near))
  where
    spanned_of : IsFront p d (blockers_of_scene scene) f.0 f.1 → spans d f.1 ≡ true
    spanned_of front = front.spanned

-- the nearest corner, and that the distance answers as it does
record Candidate (p d : Point) (test : Corner → Bool) (corners : List Corner) (hidden : Bool)
    (by : Option Point → Bool) (radial : Bool) : Type 0 where
  corner : Option Point
  is : IsNearestOrNone p d test corners corner
  agrees : (hidden || by corner) ≡ (hidden || radial)

either : (h a b : Bool) → (a ≡ true → h ≡ true) → (b ≡ true → h ≡ true) → (h || a) ≡ (h || b)
either true a b f g = refl
either false true b f g = absurd (never (f refl))
either false false true f g = absurd (never (g refl))
either false false false f g = refl

abbrev Hides : Point → Option (ℕ × Seen) → Bool → Type 0
Hides d first hidden = (v : Point) (f : ℕ × Seen) → first ≡ Some f → IsAlong d v → int_lt (side_of f.1 v) (pos 0)
    ≡ true → dot_of d v ≤ℤ dot_of d d → hidden ≡ true

before_candidate : (p d : Point) (test : Corner → Bool) (corners : List Corner) (first : Option (ℕ × Seen))
    (reach : Option ℕ) (hidden : Bool) → IsDirected d → Hides d first hidden
    → Really p d test corners first reach → Candidate p d test corners hidden (is_nearer d) (is_before_end_of reach d)
before_candidate p d test corners first reach hidden some hides (unmet h e) = record
    { corner = None; is = h; agrees = ap (λ t. hidden || is_before_end_of t d) (sym e) }
before_candidate p d test corners first reach hidden some hides (there v n along e) =
    record {
      corner = Some v;
      is = n;
      agrees = ap (λ t. hidden || t) (lengths_tell d v some along)
          ∙ ap (λ t. hidden || is_before_end_of t d) (sym e);
    }
before_candidate p d test corners first reach hidden some hides (beyond v f n along e h far) =
    record {
      corner = Some v;
      is = n;
      agrees = either hidden (int_lt (dot_of d v) (dot_of d d))
          (is_before_end_of reach d) by_near (λ k. by_near (lengths_tell d v some along ∙ by_distance reach far k));
    }
  where
    weaker : (x y : ℤ) → int_lt x y ≡ true → x ≤ℤ y
    weaker x y h = omega (arith, ints, h)

    by_near : int_lt (dot_of d v) (dot_of d d) ≡ true → hidden ≡ true
    by_near k = hides v f e along h (weaker (dot_of d v) (dot_of d d) k)

    by_distance : (o : Option ℕ) → ((n : ℕ) → o ≡ Some n → length_of v ≤ n) → is_before_end_of o d ≡ true
        → nat_lt (length_of v) (length_of d) ≡ true
    by_distance None g k = absurd (never k)
    by_distance (Some n) g k = chain (length_of v) n (length_of d) (g n refl) k
      where
        chain : (a b c : ℕ) → a ≤ b → nat_lt b c ≡ true → nat_lt a c ≡ true
        chain a b c h k = grind arith

up_to_candidate : (p d : Point) (test : Corner → Bool) (corners : List Corner) (first : Option (ℕ × Seen))
    (reach : Option ℕ) (hidden : Bool) → IsDirected d → Hides d first hidden
    → Really p d test corners first reach → Candidate p d test corners hidden (is_up_to d) (is_up_to_end_of reach d)
up_to_candidate p d test corners first reach hidden some hides (unmet h e) = record
    { corner = None; is = h; agrees = ap (λ t. hidden || is_up_to_end_of t d) (sym e) }
up_to_candidate p d test corners first reach hidden some hides (there v n along e) =
    record {
      corner = Some v;
      is = n;
      agrees = ap (λ t. hidden || t) (lengths_tell_up_to d v some along)
          ∙ ap (λ t. hidden || is_up_to_end_of t d) (sym e);
    }
up_to_candidate p d test corners first reach hidden some hides (beyond v f n along e h far) =
    record {
      corner = Some v;
      is = n;
      agrees = either hidden (int_le (dot_of d v) (dot_of d d))
          (is_up_to_end_of reach d) by_near
          (λ k. by_near (lengths_tell_up_to d v some along ∙ by_distance reach far k));
    }
  where
    by_near : int_le (dot_of d v) (dot_of d d) ≡ true → hidden ≡ true
    by_near k = hides v f e along h (tested_at_most (dot_of d v) (dot_of d d) k)

    by_distance : (o : Option ℕ) → ((n : ℕ) → o ≡ Some n → length_of v ≤ n) → is_up_to_end_of o d ≡ true
        → not (nat_lt (length_of d) (length_of v)) ≡ true
    by_distance None g k = absurd (never k)
    by_distance (Some n) g k = chain (length_of v) n (length_of d) (g n refl) k
      where
        chain : (a b c : ℕ) → a ≤ b → not (nat_lt c b) ≡ true → not (nat_lt c a) ≡ true
        chain a b c h k = grind arith

-- ---- the answers

-- a point is seen from p as the view says of its direction
pub sight_of_radial : (scene : Scene) (p q : Point) (radial : Radial) (begins : Bool) → same_point p q ≡ false
    → IsDirected (vector p q) → begins_blocked scene p (vector p q) ≡ begins → IsRadial scene p (vector p q) radial
    → are_in_sight scene p q ≡ is_seen_by begins radial (vector p q)
unfolding is_seen_by
sight_of_radial scene p q radial begins differ some starts t =
    let d = vector p q in
    let hidden = is_hidden (first_hides scene p t.first) d (seen_first t.first) in
    let hides : Hides d t.first hidden = (λ v f e along past near. past_hides scene p d v t.first f t.is_first e some
    along past near) in
    let a = before_candidate p d (is_ahead p d) scene.corners t.first radial.ahead hidden some hides
    (really p d (is_ahead p d) scene.corners t.first radial.ahead some (λ c h. ahead_along p d c h) t.ahead) in
    let b = up_to_candidate p d (is_behind p d) scene.corners t.first radial.behind hidden some hides
    (really p d (is_behind p d) scene.corners t.first radial.behind some (λ c h. behind_along p d c h) t.behind) in
    let same : hidden ≡ is_hidden_by radial.front d = sym (hidden_same scene p d t.first)
    ∙ ap (λ f. is_hidden_by f d) (sym t.front) in
    sight_is scene p q t.first a.corner b.corner differ t.is_first a.is b.is
    ∙ ap (λ s. not (s || (hidden || (is_nearer d a.corner || is_up_to d b.corner)))) starts
    ∙ ap (λ s. not (begins || s)) (three hidden (is_nearer d a.corner) (is_up_to d b.corner)
    (is_before_end_of radial.ahead d) (is_up_to_end_of radial.behind d) a.agrees b.agrees)
    ∙ ap (λ s. not (begins || (s || (is_before_end_of radial.ahead d || is_up_to_end_of radial.behind d)))) same
  where
    three : (h n u m w : Bool) → (h || n) ≡ (h || m) → (h || u) ≡ (h || w) → (h || (n || u)) ≡ (h || (m || w))
    three true n u m w e f = refl
    three false n u m w e f = ap (λ t. t || u) e ∙ ap (λ t. m || t) f

-- the wall that a ray meets first is the one of the view
pub near_wall_of_radial : (scene : Scene) (p d : Point) (radial : Radial) → IsRadial scene p d radial
    → near_wall_of scene p d ≡ number_by radial.front
near_wall_of_radial scene p d radial t = near_wall_by scene p d t.first t.is_first ∙ ap number_by (sym t.front)
