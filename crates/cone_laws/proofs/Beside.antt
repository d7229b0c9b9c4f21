-- What a point of the border has near it: in each direction the winding of the left side, or that of the right side,
-- as the rule at walls and corners says.
use Rattle.std.specs.Prelude.{List, map, [], ◌∷◌, false, true}
use Rattle.std.proofs.Common.{ap, refl, ◌≡◌, arith, neg_ℤ, pos, subst, ℤ, ◌-ℤ◌, ◌<ℤ◌}
use Rattle.std.proofs.lemmas.Int.{ints}
use Rattle.plane_spec.specs.declared.Segment.{Segment}
use Rattle.plane_spec.specs.declared.Point.{Point}
use Rattle.plane_spec.specs.Vectors.{cross_of, same_point, vector}
use Rattle.plane_spec.specs.Cones.{corner, is_in_cone}
use Rattle.plane_laws.proofs.Points.Between.{IsAlong}
use Rattle.plane_laws.proofs.Lists.Members.{IsIn, mapped}
use Rattle.plane_laws.proofs.Points.Directions.{cross_back}
use Rattle.winding_laws.proofs.Strips.{HasWinding, GoesRoundOff}
use Rattle.winding_laws.proofs.Turned.{has_turned}
use Rattle.side_laws.proofs.Sound.{IsSound, SidesOf}
use Rattle.side_laws.proofs.Sides.{side_middle, side_cone, side_step}
use Rattle.side_laws.proofs.Turned.{turned_along, corner_turned}
use Rattle.side_laws.proofs.Rights.{turned_sound}
use Rattle.cone_laws.proofs.Cones.{in_turned_cone}
use Rattle.cone_laws.specs.Off.{LeadsOff}
use Rattle.sight_spec.specs.Scene.{turned_edge}

turned_twice : (edges : List Segment) → map turned_edge (map turned_edge edges) ≡ edges
turned_twice [] = refl
turned_twice (f ∷ edges) = ap (λ t. f ∷ t) (turned_twice edges)

from_turned : (edges : List Segment) (x d : Point) (k : ℤ) → HasWinding (map turned_edge edges) x d (pos 1 -ℤ k)
    → HasWinding edges x d (k -ℤ pos 1)
from_turned edges x d k h =
    let e : neg_ℤ (pos 1 -ℤ k) ≡ k -ℤ pos 1 = omega (arith, ints) in
    subst (λ t. HasWinding edges x d t) e (subst (λ t. HasWinding t x d (neg_ℤ (pos 1 -ℤ k))) (turned_twice edges)
    (has_turned (map turned_edge edges) x d (pos 1 -ℤ k) h))

-- from the middle of a wall, to its left and to its right
pub left_of_wall : (edges : List Segment) (k : ℤ) → IsSound edges k → (f : Segment) → IsIn edges f → (x d : Point)
    → IsAlong f.a f.b x → same_point x f.b ≡ false → pos 0 <ℤ cross_of (vector f.a f.b) d → GoesRoundOff edges x d k
left_of_wall edges k sound f there x d here short left =
    let s = sound.sides f there in
    side_middle edges s.before f.a f.b s.after x d k sound.closed sound.some s.first s.second s.alone s.side here
    short left

pub right_of_wall : (edges : List Segment) (k : ℤ) → IsSound edges k → (f : Segment) → IsIn edges f → (x d : Point)
    → IsAlong f.a f.b x → same_point x f.b ≡ false → cross_of (vector f.a f.b) d <ℤ pos 0
    → HasWinding edges x d (k -ℤ pos 1)
right_of_wall edges k sound f there x d here short right =
    let e = cross_back d f.a f.b in
    from_turned edges x d k
    (left_of_wall (map turned_edge edges) (pos 1 -ℤ k) (turned_sound edges k sound) (turned_edge f)
    (mapped turned_edge edges f there) x d (turned_along f.a f.b x here short) here.apart
    (omega (arith, ints, e, right))).has

-- from a corner into its cone, and out of it
pub into_cone : (edges : List Segment) (k : ℤ) → IsSound edges k → (f : Segment) → (s : SidesOf edges f k)
    → (d : Point) → is_in_cone (corner s.before f.a f.b) d ≡ true → GoesRoundOff edges f.a d k
into_cone edges k sound f s d h = side_cone edges s.before f.a f.b d k sound.closed s.first s.side h

pub out_of_cone : (edges : List Segment) (k : ℤ) → (sound : IsSound edges k) → (f : Segment) → (there : IsIn edges f)
    → (d : Point)
    → LeadsOff (vector (sound.sides f there).before f.a) (vector f.a f.b) d
    → is_in_cone (corner (sound.sides f there).before f.a f.b) d ≡ false → HasWinding edges f.a d (k -ℤ pos 1)
out_of_cone edges k sound f there d off h =
    let s = sound.sides f there in
    let other = turned_sound edges k sound in
    let t = other.sides (turned_edge f) (mapped turned_edge edges f there) in
    let at_start = corner_turned edges s.before f.a f.b s.first in
    let side = side_step (map turned_edge edges) t.before f.b f.a s.before (pos 1 -ℤ k) other.closed other.some
    (other.some (turned_edge f) (mapped turned_edge edges f there)) t.first at_start t.alone t.side in
    from_turned edges f.a d k
    (side_cone (map turned_edge edges) f.b f.a s.before d (pos 1 -ℤ k) other.closed at_start side
    (in_turned_cone s.before f.a f.b d s.first.inner.way s.first.inner.before_left s.first.inner.after_left off h)).has
