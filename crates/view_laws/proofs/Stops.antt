-- How far a ray reaches by what a view says of its direction.
--
-- The ray is stopped by the first, by the nearest corner ahead, or at its start. The first's hit is that of edge and
-- spread. The distance of the nearest corner, over that of d, is the corner's parameter in other terms
-- (`corner_same`). Where the nearest corner is behind the first, it is hit after the first, and so is what the view
-- says instead, so that neither changes which of the candidates comes first (`stays_by`). In lowest terms all that has
-- one value is one.
use Rattle.std.proofs.Common.{◌≡◌, ℕ, ◌≤◌, ℤ, ◌+ℤ◌, ◌-ℤ◌, ◌*ℤ◌, ◌<ℤ◌, ◌≤ℤ◌, ◌∙◌, arith, ap, refl, pos, sym, List, subst}
use Rattle.std.proofs.Common.{zero, suc}
use Rattle.std.proofs.lemmas.Int.{ints, by_lt_z}
use Rattle.std.specs.List.{list_any}
use Rattle.std.specs.Option.{option_map}
use Rattle.std.specs.Prelude.{◌||◌, Option, Some, None, true, cond, Bool, false, int_lt}
use Rattle.plane_spec.specs.Fractions.{Fraction, whole, is_before, reduced}
use Rattle.plane_spec.specs.Vectors.{vector, cross_of, dot_of, IsDirected}
use Rattle.plane_spec.specs.declared.Corner.{Corner}
use Rattle.plane_spec.specs.declared.Point.{Point}
use Rattle.sight_spec.specs.Scene.{Scene, blockers_of_scene}
use Rattle.sight_spec.specs.Stops.{stop_of, nearer}
use Rattle.int_laws.proofs.Ring.{times_minus, product_turned}
use Rattle.int_laws.proofs.Signs.{positive_product}
use Rattle.int_laws.proofs.Tests.{equal_tested, same_test, less_tested}
use Rattle.exact_geom.proofs.Circle.{dot_itself}
use Rattle.exact_geom.proofs.Values.{same_reduced}
use Rattle.front_laws.proofs.Tests.{one_at_least, both_of}
use Rattle.front_laws.specs.Seen.{Seen, spans, hit_of}
use Rattle.sweep_laws.proofs.Least.{one_way}
use Rattle.sweep_laws.specs.First.{seen_first}
use Rattle.sweep_laws.proofs.Stops.{stop_is}
use Rattle.sweep_laws.specs.First.{IsFront, IsFirst}
use Rattle.sweep_laws.specs.Groups.{is_ahead, is_own}
use Rattle.sweep_laws.specs.Parts.{blocker_stop, start_stop, IsNearestOrNone, corner_stop, leaves_left}
use Rattle.sweep_laws.specs.Parts.{begins_blocked}
use Rattle.view_laws.proofs.Answers.{ahead_along}
use Rattle.view_laws.proofs.Lengths.{in_proportion, hit_before}
use Rattle.view_laws.proofs.Nearest.{some_length, Really, unmet, there, beyond, really}
use Rattle.view_laws.specs.Views.{front_of, hit_by, length_of, IsAlong, corner_by, Radial, IsRadial, stop_by}

-- ---- the hit, by edge and spread

width_is : (s : Seen) (d : Point) → cross_of d (vector s.from s.to) ≡ cross_of d s.to +ℤ cross_of s.from d
width_is s d =
    let a = times_minus d.x s.to.y s.from.y in
    let b = times_minus d.y s.to.x s.from.x in
    omega (arith, ints, a, b)

hit_same : (scene : Scene) (p d : Point) (first : Option (ℕ × Seen)) → hit_by d (option_map (front_of scene p) first)
    ≡ blocker_stop d (seen_first first)
hit_same scene p d None = refl
hit_same scene p d (Some f) = ap (λ t. Some (record { num = cross_of f.1.from f.1.to; den = t })) (width_is f.1 d)

-- ---- what begins blocked stops at once

abbrev IsLater : Option Fraction → Type 0
IsLater None = true ≡ true
IsLater (Some h) = is_before (whole (pos 0)) h ≡ true

at_once : (o : Option Fraction) → IsLater o → nearer o (Some (whole (pos 0))) ≡ Some (whole (pos 0))
at_once None h = refl
at_once (Some h) later = ap (λ t. cond t (Some (whole (pos 0))) (Some h)) later

none_after : (o : Option Fraction) → nearer o None ≡ o
none_after None = refl
none_after (Some h) = refl

zero_twice : nearer (Some (whole (pos 0))) (Some (whole (pos 0))) ≡ Some (whole (pos 0))
zero_twice = refl

-- both starts count as one
starts_together : (o : Option Fraction) (corner wall : Bool) → IsLater o
    → nearer (nearer o (start_stop corner)) (start_stop wall) ≡ nearer o (start_stop (wall || corner))
starts_together o true true h = ap (λ t. nearer t (Some (whole (pos 0)))) (at_once o h) ∙ zero_twice
    ∙ sym (at_once o h)
starts_together o true false h = none_after (nearer o (Some (whole (pos 0))))
starts_together o false true h = ap (λ t. nearer t (Some (whole (pos 0)))) (none_after o)
starts_together o false false h = none_after (nearer o None)

-- ---- fractions of one value

pub record IsSame (f g : Fraction) : Type 0 where
  pub up : pos 0 <ℤ f.den
  pub up_too : pos 0 <ℤ g.den
  pub value : f.num *ℤ g.den ≡ g.num *ℤ f.den

same_in_terms : (f g : Fraction) → IsSame f g → reduced f ≡ reduced g
same_in_terms f g s = same_reduced f g (one_at_least f.den s.up) (one_at_least g.den s.up_too)
    (equal_tested (f.num *ℤ g.den) (g.num *ℤ f.den) s.value)

-- f n < l d as g n' < l d'
same_before : (f g h : Fraction) → IsSame f g → is_before f h ≡ is_before g h
same_before f g h s =
    sym (same_test (f.num *ℤ h.den) (h.num *ℤ f.den) g.den (one_at_least g.den s.up_too))
    ∙ ap (λ t. int_lt t ((h.num *ℤ f.den) *ℤ g.den))
    (product_turned f.num h.den g.den ∙ ap (λ t. t *ℤ h.den) s.value ∙ product_turned g.num f.den h.den)
    ∙ ap (λ t. int_lt ((g.num *ℤ h.den) *ℤ f.den) t) (product_turned h.num f.den g.den)
    ∙ same_test (g.num *ℤ h.den) (h.num *ℤ g.den) f.den (one_at_least f.den s.up)

-- ---- the corner, by its distance

zero_later : (n m : ℤ) → pos 0 <ℤ n → is_before (whole (pos 0)) (record { num = n; den = m }) ≡ true
zero_later n m h = less_tested (pos 0 *ℤ m) (n *ℤ pos 1) (omega (arith, ints, h))

corner_same : (d v : Point) → IsDirected d → IsAlong d v
    → IsSame (record { num = dot_of d v; den = dot_of d d })
    (record { num = pos (length_of v); den = pos (length_of d) })
corner_same d v some along = record {
  up = dot_itself d some;
  up_too = above (pos (length_of d)) (some_length d some);
  value = in_proportion d v some along;
}
  where
    above : (z : ℤ) → pos 1 ≤ℤ z → pos 0 <ℤ z
    above z h = omega (arith, ints, h)

-- the corner that stops a ray, and that the distance stops it where the corner does, unless the first stops it before
record Stopper (p d : Point) (corners : List Corner) (line : Option Fraction) (far : Option ℕ) : Type 0 where
  corner : Option Point
  is : IsNearestOrNone p d (is_ahead p d) corners corner
  later : IsLater (corner_stop d corner)
  radial_later : IsLater (corner_by d far)
  agrees : option_map reduced (nearer line (corner_stop d corner))
      ≡ option_map reduced (nearer line (corner_by d far))

by_line : (line : Option Fraction) (f g : Fraction) → IsSame f g → option_map reduced (nearer line (Some f))
    ≡ option_map reduced (nearer line (Some g))
by_line None f g s = ap Some (same_in_terms f g s)
by_line (Some l) f g s = ap (λ t. option_map reduced (cond t (Some f) (Some l))) (same_before f g l s)
    ∙ pick (is_before g l)
  where
    pick : (b : Bool) → option_map reduced (cond b (Some f) (Some l)) ≡ option_map reduced (cond b (Some g) (Some l))
    pick true = ap Some (same_in_terms f g s)
    pick false = refl

stays : (l f : Fraction) → is_before l f ≡ true → nearer (Some l) (Some f) ≡ Some l
stays l f h = ap (λ t. cond t (Some f) (Some l)) (one_way l f h)

-- a value that isn't less than one that is later is later
later_on : (l f g : Fraction) → pos 0 <ℤ l.den → pos 0 <ℤ f.den → g.den ≡ f.den → f.num ≤ℤ g.num → is_before l f ≡ true
    → is_before l g ≡ true
later_on l f g l_up f_up e le h = subst (λ t. int_lt (l.num *ℤ t) (g.num *ℤ l.den) ≡ true) (sym e)
    (less_tested (l.num *ℤ f.den) (g.num *ℤ l.den)
    (chain (l.num *ℤ f.den) (f.num *ℤ l.den) (g.num *ℤ l.den) h (grows f.num g.num l.den l_up le)))
  where
    chain : (x y z : ℤ) → int_lt x y ≡ true → y ≤ℤ z → x <ℤ z
    chain x y z h k = omega (arith, ints, h, k)

    grows : (x y z : ℤ) → pos 0 <ℤ z → x ≤ℤ y → (x *ℤ z) ≤ℤ (y *ℤ z)
    grows x y z h k = by_lt_z x y
        (λ lt. let r = positive_product z (y -ℤ x) h (omega (arith, ints, lt)) in let e = times_minus z y x in
        omega (arith, ints, r, e))
        (λ ge. let e : x ≡ y = omega (arith, ints, k, ge) in let f : x *ℤ z ≡ y *ℤ z = ap (λ t. t *ℤ z) e in
        omega (arith, ints, f))

same_after : (l f g : Fraction) → IsSame f g → is_before l f ≡ true → is_before l g ≡ true
same_after l f g s h =
    sym (sym (same_test (l.num *ℤ f.den) (f.num *ℤ l.den) g.den (one_at_least g.den s.up_too))
    ∙ ap (λ t. int_lt t ((f.num *ℤ l.den) *ℤ g.den)) (product_turned l.num f.den g.den)
    ∙ ap (λ t. int_lt ((l.num *ℤ g.den) *ℤ f.den) t)
    (product_turned f.num l.den g.den ∙ ap (λ t. t *ℤ l.den) s.value ∙ product_turned g.num f.den l.den)
    ∙ same_test (l.num *ℤ g.den) (g.num *ℤ l.den) f.den (one_at_least f.den s.up)) ∙ h

hit_up : (d : Point) (s : Seen) → spans d s ≡ true → pos 0 <ℤ (cross_of d s.to +ℤ cross_of s.from d)
hit_up d s h = let two = both_of (int_lt (pos 0) (cross_of s.from d)) (int_lt (pos 0) (cross_of d s.to)) h in
    sum (cross_of d s.to) (cross_of s.from d) two.1 two.0
  where
    sum : (a b : ℤ) → int_lt (pos 0) a ≡ true → int_lt (pos 0) b ≡ true → pos 0 <ℤ (a +ℤ b)
    sum a b h k = omega (arith, ints, h, k)

above : (n : ℕ) (x s l : ℤ) → pos 0 <ℤ x → pos 1 ≤ℤ l → x *ℤ l ≡ pos n *ℤ s → pos 0 <ℤ pos n
above zero x s l h k e = absurd (let r = positive_product x l h (omega (arith, ints, k)) in omega (arith, ints, r, e))
above (suc n) x s l h k e = omega (arith, ints)

stopper_of : (p d : Point) (corners : List Corner) (first : Option (ℕ × Seen)) (reach : Option ℕ) → IsDirected d
    → ((f : ℕ × Seen) → first ≡ Some f → spans d f.1 ≡ true) → Really p d (is_ahead p d) corners first reach
    → Stopper p d corners (blocker_stop d (seen_first first)) reach
stopper_of p d corners first reach some spanned (unmet h e) = record {
  corner = None;
  is = h;
  later = refl;
  radial_later = subst (λ t. IsLater (corner_by d t)) (sym e) refl;
  agrees = ap (λ t. option_map reduced (nearer (blocker_stop d (seen_first first)) (corner_by d t))) (sym e);
}
stopper_of p d corners first reach some spanned (there v n along e) = record {
  corner = Some v;
  is = n;
  later = zero_later (dot_of d v) (dot_of d d) along.ahead;
  radial_later = subst (λ t. IsLater (corner_by d t)) (sym e)
      (zero_later (pos (length_of v)) (pos (length_of d))
      (above (length_of v) (dot_of d v) (dot_of d d) (pos (length_of d)) along.ahead (some_length d some)
      (in_proportion d v some along)));
  agrees = by_line (blocker_stop d (seen_first first)) (record { num = dot_of d v; den = dot_of d d })
      (record { num = pos (length_of v); den = pos (length_of d) }) (corner_same d v some along)
      ∙ ap (λ t. option_map reduced (nearer (blocker_stop d (seen_first first)) (corner_by d t))) (sym e);
}
stopper_of p d corners first reach some spanned (beyond v f n along e h far) =
    let l = hit_of d f.1 in
    let c : Fraction = record { num = dot_of d v; den = dot_of d d } in
    let g : Fraction = record { num = pos (length_of v); den = pos (length_of d) } in
    let up = above (length_of v) (dot_of d v) (dot_of d d) (pos (length_of d)) along.ahead (some_length d some)
    (in_proportion d v some along) in
    let before = hit_before d v f.1 some along (spanned f e) h in
    let same = corner_same d v some along in
    let line : blocker_stop d (seen_first first) ≡ Some l = ap (λ t. blocker_stop d (seen_first t)) e in
    record {
      corner = Some v;
      is = n;
      later = zero_later (dot_of d v) (dot_of d d) along.ahead;
      radial_later = later_by (length_of v) reach up far;
      agrees = ap (λ t. option_map reduced (nearer t (Some c))) line ∙ ap (option_map reduced) (stays l c before)
          ∙ ap (option_map reduced) (sym (stays_by l g reach (hit_up d f.1 (spanned f e)) same.up_too refl refl far
          (same_after l c g same before)))
          ∙ ap (λ t. option_map reduced (nearer t (corner_by d reach))) (sym line);
    }
  where
    later_by : (n : ℕ) (o : Option ℕ) → pos 0 <ℤ pos n → ((k : ℕ) → o ≡ Some k → n ≤ k) → IsLater (corner_by d o)
    later_by n None up f = refl
    later_by n (Some k) up f = zero_later (pos k) (pos (length_of d)) (more n k up (f k refl))
      where
        more : (m n : ℕ) → pos 0 <ℤ pos m → m ≤ n → pos 0 <ℤ pos n
        more m n h k = omega (arith, ints, h, k)

    stays_by : (l g : Fraction) (o : Option ℕ) → pos 0 <ℤ l.den → pos 0 <ℤ g.den → pos (length_of d) ≡ g.den → g.num
        ≡ pos (length_of v) → ((k : ℕ) → o ≡ Some k → length_of v ≤ k) → is_before l g ≡ true
        → nearer (Some l) (corner_by d o) ≡ Some l
    stays_by l g None l_up g_up e i f h = refl
    stays_by l g (Some k) l_up g_up e i f h = stays l (record { num = pos k; den = pos (length_of d) })
        (later_on l g (record { num = pos k; den = pos (length_of d) }) l_up g_up e
        (most g.num (length_of v) k i (f k refl)) h)
      where
        most : (z : ℤ) (m n : ℕ) → z ≡ pos m → m ≤ n → z ≤ℤ pos n
        most z m n e h = omega (arith, ints, e, h)

spanned_by : (scene : Scene) (p d : Point) (first : Option (ℕ × Seen)) (f : ℕ × Seen) → IsFirst scene p d first → first
    ≡ Some f → spans d f.1 ≡ true
spanned_by scene p d first f is e = at (subst (λ t. IsFirst scene p d t) e is)
  where
    at : IsFront p d (blockers_of_scene scene) f.0 f.1 → spans d f.1 ≡ true
    at front = front.spanned

-- a ray is stopped where what the view says of its direction stops it
pub stop_of_radial : (scene : Scene) (p d : Point) (radial : Radial) (begins : Bool) → IsDirected d
    → begins_blocked scene p d ≡ begins → IsRadial scene p d radial
    → stop_of scene p d ≡ option_map reduced (stop_by begins radial d)
unfolding stop_by
stop_of_radial scene p d radial begins some starts t =
    let s = stopper_of p d scene.corners t.first radial.ahead some (λ f e. spanned_by scene p d t.first f t.is_first e)
    (really p d (is_ahead p d) scene.corners t.first radial.ahead some (λ c h. ahead_along p d c h) t.ahead) in
    let line = blocker_stop d (seen_first t.first) in
    let corner = list_any (is_own p d) scene.corners in
    let wall = list_any (leaves_left p d) scene.walls in
    let same : line ≡ hit_by d radial.front = sym (hit_same scene p d t.first) ∙ ap (hit_by d) (sym t.front) in
    stop_is scene p d t.first s.corner (dot_itself d some) t.is_first s.is
    ∙ ap (λ o. option_map reduced (nearer line o))
    (starts_together (corner_stop d s.corner) corner wall s.later
    ∙ ap (λ b. nearer (corner_stop d s.corner) (start_stop b)) starts)
    ∙ by_start line (corner_stop d s.corner) (corner_by d radial.ahead) begins s.later s.radial_later s.agrees
    ∙ ap (λ l. option_map reduced (nearer l (nearer (corner_by d radial.ahead) (start_stop begins)))) same
  where
    by_start : (l c o : Option Fraction) (b : Bool) → IsLater c → IsLater o → option_map reduced (nearer l c)
        ≡ option_map reduced (nearer l o)
        → option_map reduced (nearer l (nearer c (start_stop b)))
        ≡ option_map reduced (nearer l (nearer o (start_stop b)))
    by_start l c o true h k e = ap (λ t. option_map reduced (nearer l t)) (at_once c h)
        ∙ ap (λ t. option_map reduced (nearer l t)) (sym (at_once o k))
    by_start l c o false h k e = ap (λ t. option_map reduced (nearer l t)) (none_after c) ∙ e
        ∙ ap (λ t. option_map reduced (nearer l t)) (sym (none_after o))
