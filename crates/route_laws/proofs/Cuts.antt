-- Where a route is cut: strictly between its ends, with parts that are quotients of cross products of its vectors.
--
-- A route is in line with itself, so it doesn't cut itself, and has fewer cuts than there are routes.
use Rattle.std.proofs.Common.{◌≡◌, ◌<◌, ◌^◌, ℤ, pos, neg_ℤ, ◌-ℤ◌, ◌*ℤ◌, Bool, true, false, ◌&&◌, not, List, [], length, refl, ap, arith, lit≤, subst}
use Rattle.std.specs.Prelude.{All, Contains, Some, None, int_lt, if◌then◌else◌}
use Rattle.std.specs.Ordering.{int_eq}
use Rattle.std.specs.List.{filter_map}
use Rattle.std.proofs.lemmas.Int.{ints}
use Rattle.std.proofs.lemmas.Bool.{and_parts, cond_both}
use Rattle.std.proofs.lemmas.List.Elements.{All-contains, All-weaker}
use Rattle.int_laws.proofs.Ring.{product_swapped}
use Rattle.int_laws.proofs.Tests.{tested_less, equal_tested}
use Rattle.plane_spec.specs.declared.Point.{Point}
use Rattle.plane_spec.specs.Lists.{distinct_after}
use Rattle.plane_spec.specs.Vectors.{InRange, IsDirection, IsWithin, vector, cross_of}
use Rattle.plane_spec.specs.Segments.{do_touch}
use Rattle.plane_spec.specs.Fractions.{Fraction, fraction, is_before, same_value}
use Rattle.plan_spec.specs.declared.item.Route.{Route}
use Rattle.plan_spec.specs.Plan.{Plan}
use Rattle.plan_spec.specs.Accepted.{is_sound}
use Rattle.plan_spec.specs.Ranges.{IsProperSegmentInRange}
use Rattle.plan_laws.proofs.Ranges.{sound_routes}
use Rattle.route_spec.specs.Routes.{vector_of_route, crossing_at, is_between_ends, cut_of, cuts_of}
use Rattle.list_laws.proofs.Firsts.{firsts_hold}
use Rattle.exact_geom.specs.Parts.{HasPartsWithin}
use Rattle.exact_geom.proofs.Bounds.{product_within}
use Rattle.exact_geom.proofs.Lowest.{neg_within, within_more}
use Rattle.route_laws.specs.Bounds.{IsCut}
use Rattle.route_laws.proofs.Lists.{found_hold, ordered_hold, fewer_found, no_more_distinct, ordered_length}

-- ---- cross products

pub vector_within : (p q : Point) → InRange p → InRange q → IsDirection (vector p q)
vector_within p q p_in q_in = record {
  x = record { low = omega (arith, ints); high = omega (arith, ints) };
  y = record { low = omega (arith, ints); high = omega (arith, ints) };
}

cross_within : (d e : Point) → IsDirection d → IsDirection e → IsWithin (pos (10 ^ 12)) (cross_of d e)
cross_within d e d_in e_in =
    let one = product_within 400000 400000 d.x e.y d_in.x e_in.y in
    let two = product_within 400000 400000 d.y e.x d_in.y e_in.x in
    within_more 320000000000 (10 ^ 12) (cross_of d e) (lit≤ tt)
    (record { low = omega (arith, ints, one.low, two.high); high = omega (arith, ints, one.high, two.low) })

fraction_within : (num den : ℤ) → IsWithin (pos (10 ^ 12)) num → IsWithin (pos (10 ^ 12)) den
    → HasPartsWithin (pos (10 ^ 12)) (fraction num den)
fraction_within num den h k =
    cond_both (int_lt (pos 0) den) (record { num = num; den = den }) (record { num = neg_ℤ num; den = neg_ℤ den })
    (λ f. HasPartsWithin (pos (10 ^ 12)) f)
    (λ _. record { num = h; den = k })
    (λ _. record { num = neg_within (10 ^ 12) num h; den = neg_within (10 ^ 12) den k })

-- ---- one cut

abbrev pub IsRouteInRange : Route → Type 0
IsRouteInRange r = IsProperSegmentInRange r.from r.to

pub direction_within : (r : Route) → IsRouteInRange r → IsDirection (vector_of_route r)
direction_within r h = vector_within r.from r.to h.from_in h.to_in

-- what a test lets through has passed it
passed : (test : Bool) (f t : Fraction) → (if test then Some f else None) ≡ Some t → (test ≡ true) × (f ≡ t)
passed true f t e = (refl, cc)
passed false f t e = cc

between_ends : (t : Fraction) → is_between_ends t ≡ true → HasPartsWithin (pos (10 ^ 12)) t → IsCut t
between_ends t h parts =
    let both = and_parts (int_lt (pos 0) t.num) (int_lt t.num t.den) h in
    record { ahead = tested_less _ _ both.0; before = tested_less _ _ both.1; parts = parts }

-- wherever the line of one route crosses that of another
pub crossing_within : (r q : Route) → IsRouteInRange r → IsRouteInRange q
    → HasPartsWithin (pos (10 ^ 12)) (crossing_at r q)
crossing_within r q r_in q_in =
    fraction_within _ _
    (cross_within (vector r.from q.from) (vector_of_route q) (vector_within r.from q.from r_in.from_in q_in.from_in)
    (direction_within q q_in))
    (cross_within (vector_of_route r) (vector_of_route q) (direction_within r r_in) (direction_within q q_in))

pub cut_is : (r q : Route) → IsRouteInRange r → IsRouteInRange q → (t : Fraction) → cut_of r q ≡ Some t → IsCut t
cut_is r q r_in q_in t e =
    let aside = not (int_eq (cross_of (vector_of_route r) (vector_of_route q)) (pos 0)) in
    let touch = do_touch r.from r.to q.from q.to in
    let hit = passed (aside && (touch && is_between_ends (crossing_at r q))) (crossing_at r q) t e in
    let rest = and_parts touch (is_between_ends (crossing_at r q))
    (and_parts aside (touch && is_between_ends (crossing_at r q)) hit.0).1 in
    subst IsCut hit.1 (between_ends (crossing_at r q) rest.1 (crossing_within r q r_in q_in))

-- a route is in line with itself
pub no_cut_by_itself : (r : Route) → cut_of r r ≡ None
no_cut_by_itself r =
    let d = vector_of_route r in
    let touch = do_touch r.from r.to r.from r.to && is_between_ends (crossing_at r r) in
    ap (λ t. if not t && touch then Some (crossing_at r r) else None)
    (equal_tested (cross_of d d) (pos 0) (in_line d.x d.y))
  where
    in_line : (x y : ℤ) → x *ℤ y -ℤ y *ℤ x ≡ pos 0
    in_line x y = let e = product_swapped x y in omega (arith, ints, e)

-- ---- all cuts of a route

pub cuts_are : (routes : List Route) (r : Route) → IsRouteInRange r → All IsRouteInRange routes
    → All IsCut (cuts_of routes r)
unfolding cuts_of
cuts_are routes r r_in all =
    ordered_hold IsCut is_before (distinct_after same_value [] (filter_map (cut_of r) routes))
    (firsts_hold IsCut same_value [] (filter_map (cut_of r) routes)
    (found_hold IsRouteInRange IsCut (cut_of r) (λ q q_in. cut_is r q r_in q_in) routes all))

pub few_cuts : (routes : List Route) (r : Route) → Contains routes r → length (cuts_of routes r) < length routes
unfolding cuts_of
few_cuts routes r among =
    omega (
      arith,
      ordered_length is_before (distinct_after same_value [] (filter_map (cut_of r) routes)),
      no_more_distinct same_value [] (filter_map (cut_of r) routes),
      fewer_found (cut_of r) routes r among (no_cut_by_itself r),
    )

pub all_cuts : (plan : Plan) → is_sound plan ≡ true → All (λ r. All IsCut (cuts_of plan.routes r)) plan.routes
all_cuts plan sound =
    let all = sound_routes plan sound in
    All-weaker IsRouteInRange (λ r. All IsCut (cuts_of plan.routes r)) (λ r r_in. cuts_are plan.routes r r_in all)
    plan.routes
    all

pub all_crossings : (plan : Plan) → is_sound plan ≡ true → (r q : Route) → Contains plan.routes r
    → Contains plan.routes q → HasPartsWithin (pos (10 ^ 12)) (crossing_at r q)
all_crossings plan sound r q r_there q_there =
    let all = sound_routes plan sound in
    crossing_within r q (All-contains IsRouteInRange plan.routes r all r_there)
    (All-contains IsRouteInRange plan.routes q all q_there)
