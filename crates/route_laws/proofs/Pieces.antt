-- The pieces of a sound plan: ends in lowest terms and small enough to be compared, and no more than 256 times 256.
use Rattle.std.proofs.Common.{◌≡◌, ◌≤◌, ◌*◌, ◌^◌, ℕ, ℤ, pos, ◌-ℤ◌, ◌+ℤ◌, ◌*ℤ◌, ◌≤ℤ◌, true, false, List, [], ◌∷◌, ◌++◌, map, length, refl, arith, lit≤, subst}
use Rattle.std.specs.Prelude.{All, Contains}
use Rattle.std.specs.Ordering.{int_eq}
use Rattle.std.specs.List.{enumerate_from}
use Rattle.std.proofs.lemmas.Int.{ints}
use Rattle.std.proofs.lemmas.Nat.{mul-le}
use Rattle.std.proofs.lemmas.List.{length-append, length-map}
use Rattle.std.proofs.lemmas.List.FromFn.{length-enumerate_from}
use Rattle.std.proofs.lemmas.List.Elements.{All-nil, All-cons, All-head, All-tail, All-append, All-map, All-weaker, All-contains_itself}
use Rattle.plane_spec.specs.declared.Point.{Point}
use Rattle.plane_spec.specs.Vectors.{InRange, IsDirection, IsDirected, IsWithin, same_point, vector}
use Rattle.plane_spec.specs.Fractions.{Fraction, RPoint, along, whole, whole_point}
use Rattle.plan_spec.specs.declared.item.Route.{Route}
use Rattle.plan_spec.specs.Plan.{Plan}
use Rattle.plan_spec.specs.Accepted.{is_sound}
use Rattle.plan_laws.proofs.Ranges.{sound_limits, sound_routes}
use Rattle.list_laws.proofs.Numbers.{numbered_hold}
use Rattle.route_spec.specs.Routes.{vector_of_route, cuts_of, pieces_between, pieces_of_route, pieces_of}
use Rattle.exact_geom.specs.Parts.{HasPartsWithin}
use Rattle.exact_geom.proofs.Along.{along_within}
use Rattle.exact_geom.proofs.Lowest.{reduced_is_reduced, whole_is_reduced, within_more}
use Rattle.route_laws.specs.Bounds.{IsCut, IsEnd, IsPieceInRange}
use Rattle.route_laws.proofs.Lists.{joined_hold, joined_length}
use Rattle.route_laws.proofs.Cuts.{IsRouteInRange, direction_within, cuts_are, few_cuts}

-- ---- ends

pub cut_is_end : (p d : Point) → InRange p → IsDirection d → (t : Fraction) → IsCut t → IsEnd (along p d t)
unfolding along
cut_is_end p d p_in d_in t h =
    let up : pos 1 ≤ℤ t.den = let a = h.ahead in let b = h.before in omega (arith, ints) in
    record {
      x = reduced_is_reduced (record { num = p.x *ℤ t.den +ℤ t.num *ℤ d.x; den = t.den }) up;
      y = reduced_is_reduced (record { num = p.y *ℤ t.den +ℤ t.num *ℤ d.y; den = t.den }) up;
      parts = along_within p d t p_in d_in h.parts;
    }

whole_within : (z : ℤ) → IsWithin (pos 100000) z → HasPartsWithin (pos (10 ^ 18)) (whole z)
whole_within z h = record {
  num = within_more 100000 (10 ^ 18) z (lit≤ tt) h;
  den = record { low = omega (arith, ints); high = omega (arith, ints) };
}

pub whole_is_end : (p : Point) → InRange p → IsEnd (whole_point p)
whole_is_end p p_in = record {
  x = whole_is_reduced p.x;
  y = whole_is_reduced p.y;
  parts = record { x = whole_within p.x p_in.x; y = whole_within p.y p_in.y };
}

-- ---- pieces

tested_apart : (a b : ℤ) → int_eq (b -ℤ a) (pos 0) ≡ int_eq a b
tested_apart a b = grind (arith, ints)

directed : (p q : Point) → same_point p q ≡ false → IsDirected (vector p q)
directed p q h = record { somewhere = rw (tested_apart p.x q.x, tested_apart p.y q.y) h }

between_hold : (number : ℕ) (d : Point) (from : RPoint) (places : List RPoint) → IsDirection d → IsDirected d
    → IsEnd from
    → All IsEnd places → All IsPieceInRange (pieces_between number d from places)
between_hold number d from [] d_in d_some from_end all = All-nil IsPieceInRange
between_hold number d from (to ∷ places) d_in d_some from_end all =
    let to_end = All-head IsEnd to places all in
    All-cons IsPieceInRange (record { route = number; from = from; to = to; direction = d })
    (pieces_between number d to places)
    (record { from = from_end; to = to_end; direction = d_in; directed = d_some })
    (between_hold number d to places d_in d_some to_end (All-tail IsEnd to places all))

between_length : (number : ℕ) (d : Point) (from : RPoint) (places : List RPoint)
    → length (pieces_between number d from places) ≡ length places
between_length number d from [] = refl
between_length number d from (to ∷ places) = omega (arith, between_length number d to places)

-- the points at which the pieces of a route end
ends_of : List Route → Route → List RPoint
ends_of routes r = map (along r.from (vector_of_route r)) (cuts_of routes r) ++ whole_point r.to ∷ []

ends_hold : (routes : List Route) (r : Route) → All IsRouteInRange routes → IsRouteInRange r
    → All IsEnd (ends_of routes r)
unfolding ends_of
ends_hold routes r all r_in =
    All-append IsEnd (map (along r.from (vector_of_route r)) (cuts_of routes r)) (whole_point r.to ∷ [])
    (All-map IsEnd (along r.from (vector_of_route r)) (cuts_of routes r)
    (All-weaker IsCut (λ t. IsEnd (along r.from (vector_of_route r) t))
    (cut_is_end r.from (vector_of_route r) r_in.from_in (direction_within r r_in)) (cuts_of routes r)
    (cuts_are routes r r_in all)))
    (All-cons IsEnd (whole_point r.to) [] (whole_is_end r.to r_in.to_in) (All-nil IsEnd))

ends_length : (routes : List Route) (r : Route) → Contains routes r → length (ends_of routes r) ≤ length routes
unfolding ends_of
ends_length routes r among =
    omega (
      arith,
      length-append (map (along r.from (vector_of_route r)) (cuts_of routes r)) (whole_point r.to ∷ []),
      length-map (cuts_of routes r) (along r.from (vector_of_route r)),
      few_cuts routes r among,
    )

route_pieces_hold : (routes : List Route) → All IsRouteInRange routes → (e : ℕ × Route) → IsRouteInRange e.1
    → All IsPieceInRange (pieces_of_route routes e)
unfolding ends_of
route_pieces_hold routes all e r_in =
    between_hold e.0 (vector_of_route e.1) (whole_point e.1.from) (ends_of routes e.1) (direction_within e.1 r_in)
    (directed e.1.from e.1.to r_in.apart) (whole_is_end e.1.from r_in.from_in) (ends_hold routes e.1 all r_in)

route_pieces_length : (routes : List Route) (e : ℕ × Route) → Contains routes e.1
    → length (pieces_of_route routes e) ≤ length routes
unfolding ends_of
route_pieces_length routes e among =
    omega (
      arith,
      between_length e.0 (vector_of_route e.1) (whole_point e.1.from) (ends_of routes e.1),
      ends_length routes e.1 among,
    )

pub each_in_range : (plan : Plan) → is_sound plan ≡ true → All IsPieceInRange (pieces_of plan)
unfolding pieces_of
each_in_range plan sound =
    let all = sound_routes plan sound in
    joined_hold (λ (e : ℕ × Route). IsRouteInRange e.1) IsPieceInRange (pieces_of_route plan.routes)
    (route_pieces_hold plan.routes all) (enumerate_from 0 plan.routes)
    (numbered_hold IsRouteInRange 0 plan.routes all)

pub pieces_by_routes : (plan : Plan) → length (pieces_of plan) ≤ length plan.routes * length plan.routes
unfolding pieces_of
pieces_by_routes plan =
    subst (λ n. length (pieces_of plan) ≤ n * length plan.routes) (length-enumerate_from 0 plan.routes)
    (joined_length (λ (e : ℕ × Route). Contains plan.routes e.1) (pieces_of_route plan.routes) (length plan.routes)
    (route_pieces_length plan.routes) (enumerate_from 0 plan.routes)
    (numbered_hold (Contains plan.routes) 0 plan.routes (All-contains_itself plan.routes)))

pub few_pieces : (plan : Plan) → is_sound plan ≡ true → length (pieces_of plan) ≤ 65536
few_pieces plan sound =
    let few = (sound_limits plan sound).routes in
    squared (length (pieces_of plan)) (length plan.routes) (pieces_by_routes plan) few
  where
    squared : (n r : ℕ) → n ≤ r * r → r ≤ 256 → n ≤ 65536
    squared n r h few = omega (arith, h, mul-le r r 256 256 few few)
