-- What stops a ray is a fraction of small parts, and never behind.
use Rattle.std.proofs.Common.{◌≡◌, ◌^◌, ℕ, Bool, true, false, ◌&&◌, List, [], ◌∷◌, ◌++◌, ℤ, pos, neg_ℤ, ◌-ℤ◌, ◌≤ℤ◌, refl, sym, arith, lit≤}
use Rattle.std.specs.Prelude.{All, IfSome, Option, Some, None, int_lt, int_le, if◌then◌else◌}
use Rattle.std.specs.Option.{option_map}
use Rattle.std.specs.Ordering.{int_eq}
use Rattle.std.specs.List.{best_of, filter_map, cons_option}
use Rattle.std.proofs.lemmas.Int.{ints}
use Rattle.std.proofs.lemmas.Bool.{and_parts, cond_both}
use Rattle.std.proofs.lemmas.List.Elements.{All-nil, All-cons, All-head, All-tail, All-append}
use lib.IntN.{negsuc}
use Rattle.plane_spec.specs.declared.Point.{Point}
use Rattle.plane_spec.specs.declared.Segment.{Segment}
use Rattle.plane_spec.specs.declared.Corner.{Corner}
use Rattle.plane_spec.specs.Lists.{min_by}
use Rattle.plane_spec.specs.Vectors.{IsWithin, InRange, IsDirection, vector, cross_of, dot_of, turns_left}
use Rattle.plane_spec.specs.Segments.{IsSegmentInRange}
use Rattle.plane_spec.specs.Cones.{IsCornerInRange, is_in_cone}
use Rattle.plane_spec.specs.Fractions.{Fraction, fraction, whole, divided, is_before, reduced}
use Rattle.exact_geom.specs.Parts.{HasPartsWithin}
use Rattle.exact_geom.proofs.Bounds.{product_within}
use Rattle.exact_geom.proofs.Lowest.{divided_natural, divisor_of, neg_within, reduced_no_larger, within_more}
use Rattle.sight_spec.specs.Scene.{Scene, blockers_of_scene}
use Rattle.sight_spec.specs.Sight.{is_in_interior}
use Rattle.sight_spec.specs.Stops.{is_across, wall_parameter, blocker_hit, corner_hit, start_hit, hits_of, stop_of}
use Rattle.sight_core.specs.Scenes.{IsOfSoundPlan}
use Rattle.sight_core.proofs.Seen.{walls-in_range, screens-in_range, corners-in_range}

-- what stops a ray: parts of at most 10^12 in size, and not below 0
record IsStop (f : Fraction) : Type 0 where
  parts_bounded : HasPartsWithin (pos (10 ^ 12)) f
  ahead : pos 0 ≤ℤ f.num

-- ---- products of directions

vector_within : (p x : Point) → InRange p → InRange x → IsDirection (vector p x)
vector_within p x p_in x_in = record {
  x = record { low = omega (arith, ints); high = omega (arith, ints) };
  y = record { low = omega (arith, ints); high = omega (arith, ints) };
}

cross_within : (d e : Point) → IsDirection d → IsDirection e → IsWithin (pos 320000000000) (cross_of d e)
cross_within d e d_in e_in =
    let one = product_within 400000 400000 d.x e.y d_in.x e_in.y in
    let two = product_within 400000 400000 d.y e.x d_in.y e_in.x in
    record { low = omega (arith, ints, one.low, two.high); high = omega (arith, ints, one.high, two.low) }

dot_within : (d e : Point) → IsDirection d → IsDirection e → IsWithin (pos 320000000000) (dot_of d e)
dot_within d e d_in e_in =
    let one = product_within 400000 400000 d.x e.x d_in.x e_in.x in
    let two = product_within 400000 400000 d.y e.y d_in.y e_in.y in
    record { low = omega (arith, ints, one.low, two.low); high = omega (arith, ints, one.high, two.high) }

is_small : (z : ℤ) → IsWithin (pos 320000000000) z → IsWithin (pos (10 ^ 12)) z
is_small z h = within_more 320000000000 (10 ^ 12) z (lit≤ tt) h

difference_is_small : (s t : ℤ) → IsWithin (pos 320000000000) s → IsWithin (pos 320000000000) t → IsWithin (pos (10 ^ 12)) (t -ℤ s)
difference_is_small s t h k = record { low = omega (arith, ints); high = omega (arith, ints) }

-- ---- one hit

-- what a test lets through has passed it
pub passed : (test : Bool) (f t : Fraction) → (if test then Some f else None) ≡ Some t → (test ≡ true) × (f ≡ t)
passed true f t e = (refl, cc)
passed false f t e = cc

fraction_small : (num den : ℤ) → IsWithin (pos (10 ^ 12)) num → IsWithin (pos (10 ^ 12)) den → HasPartsWithin (pos (10 ^ 12)) (fraction num den)
fraction_small num den h k =
    cond_both (int_lt (pos 0) den) (record { num = num; den = den }) (record { num = neg_ℤ num; den = neg_ℤ den }) (λ f. HasPartsWithin (pos (10 ^ 12)) f)
    (λ _. record { num = h; den = k })
    (λ _. record { num = neg_within (10 ^ 12) num h; den = neg_within (10 ^ 12) den k })

line_is_stop : (p d : Point) → InRange p → IsDirection d → (w : Segment) → IsSegmentInRange w → (t : Fraction) → blocker_hit p d w ≡ Some t → IsStop t
unfolding blocker_hit
line_is_stop p d p_in d_in w w_in t e =
    let hit = passed (is_across p d w && int_lt (pos 0) (wall_parameter p d w).num) (wall_parameter p d w) t e in
    let before = (and_parts (is_across p d w) (int_lt (pos 0) (wall_parameter p d w).num) hit.0).1 in
    let a = vector_within p w.a p_in w_in.a in
    let b = vector_within p w.b p_in w_in.b in
    rw (sym hit.1)
    (record {
      parts_bounded = fraction_small _ _ (is_small _ (cross_within _ _ a b)) (difference_is_small _ _ (cross_within _ _ d_in a) (cross_within _ _ d_in b));
      ahead = omega (arith, ints, before);
    })

corner_is_stop : (p d : Point) → InRange p → IsDirection d → (c : Corner) → IsCornerInRange c → (t : Fraction) → corner_hit p d c ≡ Some t → IsStop t
unfolding corner_hit
corner_is_stop p d p_in d_in c c_in t e =
    let v = vector p c.here in
    let hit = passed (int_eq (cross_of d v) (pos 0) && (int_le (pos 0) (dot_of d v) && is_in_cone c d)) (record { num = dot_of d v; den = dot_of d d }) t e in
    let rest = (and_parts (int_eq (cross_of d v) (pos 0)) (int_le (pos 0) (dot_of d v) && is_in_cone c d) hit.0).1 in
    let before = (and_parts (int_le (pos 0) (dot_of d v)) (is_in_cone c d) rest).0 in
    let here = vector_within p c.here p_in c_in.here in
    rw (sym hit.1)
    (record {
      parts_bounded = record { num = is_small _ (dot_within d v d_in here); den = is_small _ (dot_within d d d_in d_in) };
      ahead = omega (arith, ints, before);
    })

start_is_stop : (p d : Point) (w : Segment) → IsSegmentInRange w → (t : Fraction) → start_hit p d w ≡ Some t → IsStop t
unfolding start_hit
start_is_stop p d w w_in t e =
    let hit = passed (is_in_interior p w && turns_left (vector w.a w.b) d) (whole (pos 0)) t e in
    rw (sym hit.1)
    (record {
      parts_bounded = record { num = record { low = omega (arith, ints); high = omega (arith, ints) }; den = record { low = omega (arith, ints); high = omega (arith, ints) } };
      ahead = omega (arith, ints);
    })

-- ---- the least of all hits

pub All-filter_map : {X Y : Type 0} (Q : X → Type 0) (P : Y → Type 0) (f : X → Option Y) → ((x : X) → Q x → (y : Y) → f x ≡ Some y → P y)
    → (xs : List X) → All Q xs → All P (filter_map f xs)
All-filter_map Q P f gives [] h = All-nil P
All-filter_map {Y = Y} Q P f gives (x ∷ xs) h = by_hit (f x) (gives x (All-head Q x xs h)) (All-filter_map Q P f gives xs (All-tail Q x xs h))
  where
    by_hit : (hit : Option Y) → ((y : Y) → hit ≡ Some y → P y) → All P (filter_map f xs) → All P (cons_option hit (filter_map f xs))
    by_hit None here rest = rest
    by_hit (Some y) here rest = All-cons P y (filter_map f xs) (here y refl) rest

hits_are_stops : (scene : Scene) (p d : Point) → IsOfSoundPlan scene → InRange p → IsDirection d → All IsStop (hits_of scene p d)
hits_are_stops scene p d sound p_in d_in =
    let lines =
    All-filter_map IsSegmentInRange IsStop (blocker_hit p d) (line_is_stop p d p_in d_in) (blockers_of_scene scene)
    (All-append IsSegmentInRange scene.walls scene.screens (walls-in_range scene sound) (screens-in_range scene sound)) in
    let corners = All-filter_map IsCornerInRange IsStop (corner_hit p d) (corner_is_stop p d p_in d_in) scene.corners (corners-in_range scene sound) in
    let starts = All-filter_map IsSegmentInRange IsStop (start_hit p d) (start_is_stop p d) scene.walls (walls-in_range scene sound) in
    All-append IsStop (filter_map (blocker_hit p d) (blockers_of_scene scene)) (filter_map (corner_hit p d) scene.corners ++ filter_map (start_hit p d) scene.walls) lines
    (All-append IsStop (filter_map (corner_hit p d) scene.corners) (filter_map (start_hit p d) scene.walls) corners starts)

pub best_is : {X : Type 0} (P : X → Type 0) (beats : X → X → Bool) (x : X) (xs : List X) → P x → All P xs → P (best_of beats x xs)
best_is P beats x [] here rest = here
best_is P beats x (y ∷ xs) here rest =
    best_is P beats _ xs (cond_both (beats y x) y x P (λ _. All-head P y xs rest) (λ _. here)) (All-tail P y xs rest)

divided_ahead : (z : ℤ) (g : ℕ) → pos 0 ≤ℤ z → pos 0 ≤ℤ divided z g
divided_ahead (pos n) g h = rw (divided_natural n g) (omega (arith, ints))
divided_ahead (negsuc n) g h = absurd (omega (arith, ints))

reduced_is_stop : (f : Fraction) → IsStop f → IsStop (reduced f)
unfolding reduced
reduced_is_stop f h = record { parts_bounded = reduced_no_larger (10 ^ 12) f h.parts_bounded; ahead = divided_ahead f.num (divisor_of f) h.ahead }

least_is_stop : (hits : List Fraction) (t : Fraction) → All IsStop hits → option_map reduced (min_by is_before hits) ≡ Some t → IsStop t
least_is_stop [] t h e = cc
least_is_stop (f ∷ hits) t h e =
    let same : reduced (best_of is_before f hits) ≡ t = cc in
    rw (sym same) (reduced_is_stop _ (best_is IsStop is_before f hits (All-head IsStop f hits h) (All-tail IsStop f hits h)))

stop_is_both : (scene : Scene) (p d : Point) (t : Fraction) → IsOfSoundPlan scene → InRange p → IsDirection d → stop_of scene p d ≡ Some t → IsStop t
unfolding stop_of
stop_is_both scene p d t sound p_in d_in e = least_is_stop (hits_of scene p d) t (hits_are_stops scene p d sound p_in d_in) e

-- so the parts of a stop are at most 10^12 in size
pub stop_is_small : (scene : Scene) (p d : Point) (t : Fraction) → IsOfSoundPlan scene → InRange p → IsDirection d → stop_of scene p d ≡ Some t → HasPartsWithin (pos (10 ^ 12)) t
stop_is_small scene p d t sound p_in d_in e = (stop_is_both scene p d t sound p_in d_in e).parts_bounded

-- and a stop is never behind
pub stop_is_ahead : (scene : Scene) (p d : Point) (t : Fraction) → IsOfSoundPlan scene → InRange p → IsDirection d → stop_of scene p d ≡ Some t → pos 0 ≤ℤ t.num
stop_is_ahead scene p d t sound p_in d_in e = (stop_is_both scene p d t sound p_in d_in e).ahead

-- what is found, if it is the stop, is none or ahead
pub found_is_ahead : (scene : Scene) (p d : Point) (found : Option Fraction) → IsOfSoundPlan scene → InRange p → IsDirection d → found ≡ stop_of scene p d → IfSome found (λ t. pos 0 ≤ℤ t.num)
found_is_ahead scene p d None sound p_in d_in e = tt
found_is_ahead scene p d (Some t) sound p_in d_in e = stop_is_ahead scene p d t sound p_in d_in (sym e)
