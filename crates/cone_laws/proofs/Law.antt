-- The law of cones, as the contract states it: of the walls and corners of a simple polygon.
use Rattle.std.specs.Prelude.{true, false, List, Contains}
use Rattle.std.proofs.Common.{◌≡◌, ℤ, pos, ◌-ℤ◌, sym, subst}
use Rattle.plane_spec.specs.declared.Point.{Point}
use Rattle.plane_spec.specs.declared.Segment.{Segment}
use Rattle.plane_spec.specs.declared.Corner.{Corner}
use Rattle.plane_spec.specs.declared.Orientation.TheVariants.{Counterclockwise, Clockwise}
use Rattle.plane_spec.specs.Vectors.{vector}
use Rattle.plane_spec.specs.Polygons.{is_simple}
use Rattle.plane_spec.specs.Cones.{corner, is_in_cone}
use Rattle.sight_spec.specs.Scene.{oriented_walls, oriented_corners}
use Rattle.plane_laws.proofs.Lists.Members.{from_contains}
use Rattle.winding_laws.specs.Windings.{GoesRoundNear}
use Rattle.winding_laws.proofs.Strips.{HasWinding}
use Rattle.side_laws.proofs.Sound.{SidesOf}
use Rattle.cone_laws.specs.Off.{LeadsOff}
use Rattle.cone_laws.proofs.Rounds.{IsRound, CornerOf, before_is, obstacle_round, outer_round}
use Rattle.cone_laws.proofs.Beside.{into_cone, out_of_cone}

stated : (edges : List Segment) (x d : Point) (k : ℤ) → HasWinding edges x d k → GoesRoundNear edges x d k
stated edges x d k h = (h.after, λ n l. h.from_there n l)

into : (points : List Point) (walls : List Segment) (corners : List Corner) (k : ℤ) → IsRound points walls corners k
    → (c : Corner) (d : Point) → Contains corners c → is_in_cone c d ≡ true → GoesRoundNear walls c.here d k
into points walls corners k round c d there h =
    stated walls c.here d k (subst (λ t. HasWinding walls t.here d k) o.is
    (into_cone walls k round.sound o.edge s d cone).has)
  where
    o : CornerOf walls c
    o = round.corners_are.from c (from_contains corners c there)

    s : SidesOf walls o.edge k
    s = round.sound.sides o.edge o.edge_there

    cone : is_in_cone (corner s.before o.edge.a o.edge.b) d ≡ true
    cone =
        subst (λ t. is_in_cone (corner t o.edge.a o.edge.b) d ≡ true)
        (sym (before_is walls k round.sound o.edge o.edge_there o.before o.before_there o.meets))
        (subst (λ t. is_in_cone t d ≡ true) (sym o.is) h)

out_of : (points : List Point) (walls : List Segment) (corners : List Corner) (k : ℤ) → IsRound points walls corners k
    → (c : Corner) (d : Point) → Contains corners c → LeadsOff (vector c.prev c.here) (vector c.here c.next) d
    → is_in_cone c d ≡ false
    → GoesRoundNear walls c.here d (k -ℤ pos 1)
out_of points walls corners k round c d there off h =
    stated walls c.here d (k -ℤ pos 1)
    (subst (λ t. HasWinding walls t.here d (k -ℤ pos 1)) o.is
    (out_of_cone walls k round.sound o.edge o.edge_there d apart cone))
  where
    o : CornerOf walls c
    o = round.corners_are.from c (from_contains corners c there)

    same : (round.sound.sides o.edge o.edge_there).before ≡ o.before.a
    same = before_is walls k round.sound o.edge o.edge_there o.before o.before_there o.meets

    apart : LeadsOff (vector (round.sound.sides o.edge o.edge_there).before o.edge.a) (vector o.edge.a o.edge.b) d
    apart =
        subst (λ t. LeadsOff (vector t o.edge.a) (vector o.edge.a o.edge.b) d) (sym same)
        (subst (λ t. LeadsOff (vector t.prev t.here) (vector t.here t.next) d) (sym o.is) off)

    cone : is_in_cone (corner (round.sound.sides o.edge o.edge_there).before o.edge.a o.edge.b) d ≡ false
    cone =
        subst (λ t. is_in_cone (corner t o.edge.a o.edge.b) d ≡ false) (sym same)
        (subst (λ t. is_in_cone t d ≡ false) (sym o.is) h)

pub obstacle_into : (points : List Point) (c : Corner) (d : Point) → is_simple points ≡ true
    → Contains (oriented_corners Counterclockwise points) c
    → is_in_cone c d ≡ true → GoesRoundNear (oriented_walls Counterclockwise points) c.here d (pos 1)
obstacle_into points c d simple there h =
    into points (oriented_walls Counterclockwise points) (oriented_corners Counterclockwise points) (pos 1)
    (obstacle_round points simple) c d there h

pub obstacle_out : (points : List Point) (c : Corner) (d : Point) → is_simple points ≡ true
    → Contains (oriented_corners Counterclockwise points) c
    → LeadsOff (vector c.prev c.here) (vector c.here c.next) d → is_in_cone c d ≡ false
    → GoesRoundNear (oriented_walls Counterclockwise points) c.here d (pos 0)
obstacle_out points c d simple there off h =
    out_of points (oriented_walls Counterclockwise points) (oriented_corners Counterclockwise points) (pos 1)
    (obstacle_round points simple) c d there off h

pub outer_into : (points : List Point) (c : Corner) (d : Point) → is_simple points ≡ true
    → Contains (oriented_corners Clockwise points) c
    → is_in_cone c d ≡ true → GoesRoundNear (oriented_walls Clockwise points) c.here d (pos 0)
outer_into points c d simple there h =
    into points (oriented_walls Clockwise points) (oriented_corners Clockwise points) (pos 0)
    (outer_round points simple) c d there h
