-- What is so of a station in a sound plan.
use Rattle.std.proofs.Common.{◌≡◌, ℕ, ◌<◌, ℤ, pos, ◌-ℤ◌, arith, sym, subst, get_or, length}
use Rattle.std.specs.Prelude.{Some}
use Rattle.std.proofs.lemmas.Int.{ints}
use Rattle.plane_spec.specs.declared.Point.{Point}
use Rattle.plane_spec.specs.Vectors.{vector, InRange, IsWithin, IsDirection}
use Rattle.sight_spec.specs.Scene.{Scene, blockers_of_scene}
use Rattle.sight_core.specs.Scenes.{IsOfSoundPlan}
use Rattle.sight_core.proofs.Seen.{corners-in_range}
use Rattle.sight_core.proofs.Counts.{few_corners}
use Rattle.front_laws.specs.Seen.{Seen, seen_at}
use Rattle.sweep_laws.specs.Groups.{no_corner}
use Rattle.station_laws.specs.Grounds.{HasCornerAt, IsGroundOf}
use Rattle.station_laws.proofs.Ranges.{walls_of_sound}
use Rattle.station_laws.proofs.Ends.{corners_at_ends}
use Rattle.round_laws.specs.Rounds.{AreWalls}
use Rattle.sweep_laws.specs.Parts.{begins_blocked}
use Rattle.view_laws.specs.declared.view.Ground.{Ground}
use Rattle.view_laws.specs.Views.{is_led_into}
use Rattle.station_laws.proofs.Law.{ground_decides}
use Rattle.sight_sweep.specs.Stations.{IsStation}

vector_in : (p x : Point) → InRange p → InRange x → IsDirection (vector p x)
vector_in p x p_in x_in = record { x = between p.x x.x p_in.x x_in.x; y = between p.y x.y p_in.y x_in.y }
  where
    between : (a b : ℤ) → IsWithin (pos 100000) a → IsWithin (pos 100000) b → IsWithin (pos 400000) (b -ℤ a)
    between a b h k = record { low = omega (arith, ints, h, k); high = omega (arith, ints, h, k) }

pub station_of : (scene : Scene) (p : Point) → IsOfSoundPlan scene → InRange p → IsStation scene p
station_of scene p of p_in = record {
  walls = subst (λ t. AreWalls t p) (sym of.seen) (walls_of_sound of.plan p of.sound p_in);
  corners = subst (λ t. (n : ℕ) (s : Seen) → n < length (blockers_of_scene t) → seen_at p (blockers_of_scene t) n
      ≡ Some s → HasCornerAt p t.corners s.from × HasCornerAt p t.corners s.to) (sym of.seen)
      (corners_at_ends of.plan p);
  few = few_corners scene of;
  ways = λ k lt. vector_in p (get_or scene.corners k no_corner).here p_in
      ((corners-in_range scene of) k no_corner lt).here;
}

-- what the station stands on decides which directions begin blocked
pub ground_tells : (scene : Scene) (p d : Point) (under : Ground) → IsOfSoundPlan scene
    → IsGroundOf scene p under
    → begins_blocked scene p d ≡ is_led_into under d
ground_tells scene p d under of g = subst (λ t. begins_blocked t p d ≡ is_led_into under d) (sym of.seen)
    (ground_decides of.plan p d under of.sound (subst (λ t. IsGroundOf t p under) of.seen g))
