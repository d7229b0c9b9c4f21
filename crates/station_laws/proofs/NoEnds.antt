-- Between two places without a corner no wall or screen begins or ends.
use Rattle.std.proofs.Common.{◌≡◌, ℕ, ◌<◌, ◌≤◌, arith, sym, ◌∙◌, subst, nat_lt}
use Rattle.std.specs.Prelude.{Bool, true}
use Rattle.plane_spec.specs.declared.Point.{Point}
use Rattle.plane_spec.specs.Vectors.{InRange, IsDirected}
use Rattle.plan_spec.specs.Plan.{Plan}
use Rattle.plan_spec.specs.Accepted.{is_sound}
use Rattle.sight_spec.specs.Scene.{scene_of, blockers_of_scene}
use Rattle.front_laws.proofs.Tests.{by_lt, number_less_tested, number_not_less}
use Rattle.turn_laws.specs.Places.{place_of}
use Rattle.round_laws.specs.Rounds.{EndNowhere}
use Rattle.station_laws.specs.Grounds.{HasCornerAt, IsFreeOfCorners}
use Rattle.station_laws.proofs.Ends.{corners_at_ends}
use Rattle.station_laws.proofs.Ranges.{walls_of_sound}

none_at : (plan : Plan) (p v : Point) (low high : ℕ) → low ≤ high
    → IsFreeOfCorners p (scene_of plan).corners low high → HasCornerAt p (scene_of plan).corners v → IsDirected v
    → nat_lt (place_of v) low ≡ nat_lt (place_of v) high
none_at plan p v low high le free c some =
    by_lt (place_of v) low
    (λ lt. number_less_tested (place_of v) low lt
    ∙ sym (number_less_tested (place_of v) high (chain (place_of v) low high lt le)))
    (λ ge. by_lt (place_of v) high
    (λ lt. absurd (free c.number c.within (subst IsDirected (sym c.there) some)
    (subst (λ t. low ≤ place_of t) (sym c.there) ge) (subst (λ t. place_of t < high) (sym c.there) lt)))
    (λ more. number_not_less (place_of v) low ge ∙ sym (number_not_less (place_of v) high more)))
  where
    chain : (a b c : ℕ) → a < b → b ≤ c → a < c
    chain a b c h k = omega (arith, h, k)

-- where no corner has a place from low up to high, no wall or screen has an end there
pub no_ends_between : (plan : Plan) (p : Point) (kept : ℕ → Bool) (low high : ℕ) → is_sound plan ≡ true → InRange p
    → low ≤ high → IsFreeOfCorners p (scene_of plan).corners low high
    → EndNowhere p (blockers_of_scene (scene_of plan)) kept low high
no_ends_between plan p kept low high sound p_in le free n s within k seen =
    let c = corners_at_ends plan p n s within seen in
    let b = (walls_of_sound plan p sound p_in).blockers n s within seen in
    record {
      no_from = none_at plan p s.from low high le free c.0 b.from_some;
      no_to = none_at plan p s.to low high le free c.1 b.to_some;
    }
