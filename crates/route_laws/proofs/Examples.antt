-- Worked examples: two routes that cross, and how large their numbers are.
use Rattle.std.proofs.Common.{◌≡◌, refl, pos, neg_ℤ, [], ◌∷◌, length}
use Rattle.plane_spec.specs.Vectors.{point}
use Rattle.plane_spec.specs.Segments.{cross_properly, is_on_segment, do_touch}
use Rattle.plan_spec.specs.declared.item.Route.{Route}
use Rattle.plan_spec.specs.Plan.{empty_plan, route, with_routes}
use Rattle.route_spec.specs.Routes.{cuts_of, pieces_of, turn_of}

abbrev rising : Route
rising = route (97 ∷ []) (point (pos 0) (pos 0)) (point (pos 4) (pos 4))

abbrev falling : Route
falling = route (98 ∷ []) (point (pos 0) (pos 4)) (point (pos 4) (pos 0))

-- they cut each other half way, at quotients of cross products
one_cut : cuts_of (rising ∷ falling ∷ []) rising ≡ record { num = pos 16; den = pos 32 } ∷ []
unfolding cuts_of do_touch cross_properly is_on_segment
one_cut = refl

-- so there are two pieces of each, as many as two times two
four_pieces : length (pieces_of (with_routes empty_plan (rising ∷ falling ∷ []))) ≡ 4
unfolding pieces_of cuts_of do_touch cross_properly is_on_segment
four_pieces = refl

-- straight back is the greatest turn
straight_back : turn_of (point (pos 3) (pos 1)) (point (neg_ℤ (pos 6)) (neg_ℤ (pos 2))) ≡ 16
unfolding turn_of
straight_back = refl
