-- The walls and corners of a simple polygon: sound edges, and each corner lies between an edge and the next.
use Rattle.std.specs.Prelude.{List, false, true, [], ◌∷◌, map, Bool, if◌then◌else◌, not}
use Rattle.std.proofs.Common.{ap, inl, inr, subst, sym, ℤ, ◌≡◌, ◌⊎◌, ◌∙◌, refl, pos}
use Rattle.plane_spec.specs.declared.Segment.{Segment}
use Rattle.plane_spec.specs.declared.Corner.{Corner}
use Rattle.plane_spec.specs.declared.Point.{Point}
use Rattle.plane_spec.specs.declared.Orientation.TheVariants.{Counterclockwise, Clockwise}
use Rattle.plane_spec.specs.Segments.{is_on_segment}
use Rattle.plane_spec.specs.Cones.{corner}
use Rattle.plane_spec.specs.Polygons.{edges_to, edges_of, is_counterclockwise, is_simple}
use Rattle.sight_spec.specs.Scene.{corners_after, last_edge, corners_along}
use Rattle.sight_spec.specs.Scene.{turned_corner, turned_edge, oriented_corners}
use Rattle.sight_spec.specs.Scene.{oriented_walls}
use Rattle.plane_laws.proofs.Lists.Members.{IsIn, mapped, source}
use Rattle.plane_laws.proofs.Tests.{clash}
use Rattle.plane_laws.proofs.Points.Between.{on_end, same_ends, on_start}
use Rattle.side_laws.proofs.Sound.{IsSound, SidesOf}
use Rattle.side_laws.proofs.Sides.{wall}
use Rattle.side_laws.proofs.Rights.{turned_sound}
use Rattle.area_laws.proofs.Laws.{left_of_clockwise, left_of_counterclockwise}

-- an edge that ends where another begins is the one before it
pub before_is : (edges : List Segment) (k : ℤ) (sound : IsSound edges k) (f : Segment) (there : IsIn edges f)
    (g : Segment) → IsIn edges g → g.b ≡ f.a → (sound.sides f there).before ≡ g.a
before_is edges k sound f there g g_there meets = by_case (s.first.others g g_there)
  where
    s : SidesOf edges f k
    s = sound.sides f there

    by_case : (g ≡ wall s.before f.a) ⊎ ((g ≡ wall f.a f.b) ⊎ (is_on_segment f.a g.a g.b ≡ false)) → s.before ≡ g.a
    by_case (inl e) = sym (ap (λ t. t.a) e)
    by_case (inr (inl e)) = absurd (clash (sound.some f there) (same_ends f.a f.b (sym meets ∙ ap (λ t. t.b) e)))
    by_case (inr (inr off)) = absurd (clash off (subst (λ t. is_on_segment t g.a g.b ≡ true) meets (on_end g.a g.b)))

-- edges that begin at one point are one
one_start : (edges : List Segment) (k : ℤ) → IsSound edges k → (f g : Segment) → IsIn edges f → IsIn edges g
    → g.a ≡ f.a → g ≡ f
one_start edges k sound f g there g_there same = by_case (s.first.others g g_there)
  where
    s : SidesOf edges f k
    s = sound.sides f there

    by_case : (g ≡ wall s.before f.a) ⊎ ((g ≡ wall f.a f.b) ⊎ (is_on_segment f.a g.a g.b ≡ false)) → g ≡ f
    by_case (inl e) = absurd (clash (sound.some g g_there) (same_ends g.a g.b (same ∙ sym (ap (λ t. t.b) e))))
    by_case (inr (inl e)) = e
    by_case (inr (inr off)) = absurd (clash off (subst (λ t. is_on_segment t g.a g.b ≡ true) same (on_start g.a g.b)))

-- ---- corners

-- the corner between an edge and the next
pub record CornerOf (edges : List Segment) (c : Corner) : Type 0 where
  pub before : Segment
  pub edge : Segment
  pub before_there : IsIn edges before
  pub edge_there : IsIn edges edge
  pub meets : before.b ≡ edge.a
  pub is : corner before.a edge.a edge.b ≡ c

-- an edge has a corner at its start
pub record AtStart (edges : List Segment) (corners : List Corner) (f : Segment) : Type 0 where
  pub before : Segment
  pub before_there : IsIn edges before
  pub meets : before.b ≡ f.a
  pub corner_there : IsIn corners (corner before.a f.a f.b)

pub record AreCorners (edges : List Segment) (corners : List Corner) : Type 0 where
  pub from : (c : Corner) → IsIn corners c → CornerOf edges c
  pub to : (f : Segment) → IsIn edges f → AtStart edges corners f

corner_from : (all : List Segment) (before : Segment) (first p : Point) (points : List Point) → IsIn all before
    → before.b ≡ p
    → ((e : Segment) → IsIn (edges_to first (p ∷ points)) e → IsIn all e) → (c : Corner)
    → IsIn (corners_after before (edges_to first (p ∷ points))) c → CornerOf all c
unfolding edges_to
corner_from all before first p [] there meets within c (inl e) =
    record {
      before = before;
      edge = wall p first;
      before_there = there;
      edge_there = within (wall p first) (inl refl);
      meets = meets;
      is = e;
    }
corner_from all before first p [] there meets within c (inr k) = absurd k
corner_from all before first p (q ∷ points) there meets within c (inl e) =
    record {
      before = before;
      edge = wall p q;
      before_there = there;
      edge_there = within (wall p q) (inl refl);
      meets = meets;
      is = e;
    }
corner_from all before first p (q ∷ points) there meets within c (inr k) =
    corner_from all (wall p q) first q points (within (wall p q) (inl refl)) refl (λ e h. within e (inr h)) c k

corner_to : (all : List Segment) (before : Segment) (first p : Point) (points : List Point) → IsIn all before
    → before.b ≡ p
    → ((e : Segment) → IsIn (edges_to first (p ∷ points)) e → IsIn all e) → (f : Segment)
    → IsIn (edges_to first (p ∷ points)) f → AtStart all (corners_after before (edges_to first (p ∷ points))) f
unfolding edges_to
corner_to all before first p [] there meets within f (inl e) =
    record {
      before = before;
      before_there = there;
      meets = meets ∙ ap (λ t. t.a) e;
      corner_there = inl (ap (λ t. corner before.a t.a t.b) e);
    }
corner_to all before first p [] there meets within f (inr k) = absurd k
corner_to all before first p (q ∷ points) there meets within f (inl e) =
    record {
      before = before;
      before_there = there;
      meets = meets ∙ ap (λ t. t.a) e;
      corner_there = inl (ap (λ t. corner before.a t.a t.b) e);
    }
corner_to all before first p (q ∷ points) there meets within f (inr k) =
    later (corner_to all (wall p q) first q points (within (wall p q) (inl refl)) refl (λ e h. within e (inr h)) f k)
  where
    later : {cs : List Corner} → {c : Corner} → AtStart all cs f → AtStart all (c ∷ cs) f
    later s =
        record {
          before = s.before;
          before_there = s.before_there;
          meets = s.meets;
          corner_there = inr s.corner_there;
        }

-- the last edge ends at the first point
last_to : (first p : Point) (points : List Point) (e : Segment)
    → ((last_edge e (edges_to first (p ∷ points))).b ≡ first)
    × IsIn (edges_to first (p ∷ points)) (last_edge e (edges_to first (p ∷ points)))
unfolding edges_to
last_to first p [] e = (refl, inl refl)
last_to first p (q ∷ points) e = let l = last_to first q points (wall p q) in (l.0, inr l.1)

pub all_corners : (points : List Point) → AreCorners (edges_of points) (corners_along (edges_of points))
unfolding edges_to
all_corners [] = record { from = λ c k. absurd k; to = λ f k. absurd k }
all_corners (p ∷ []) =
    record {
      from = λ c k. corner_from (edges_to p (p ∷ [])) (wall p p) p p [] (inl refl) refl (λ e h. h) c k;
      to = λ f k. corner_to (edges_to p (p ∷ [])) (wall p p) p p [] (inl refl) refl (λ e h. h) f k;
    }
all_corners (p ∷ q ∷ points) =
    let l = last_to p q points (wall p q) in
    record {
      from = λ c k. corner_from (edges_to p (p ∷ q ∷ points)) (last_edge (wall p q) (edges_to p (q ∷ points))) p p
          (q ∷ points) (inr l.1) l.0 (λ e h. h) c k;
      to = λ f k. corner_to (edges_to p (p ∷ q ∷ points)) (last_edge (wall p q) (edges_to p (q ∷ points))) p p
          (q ∷ points) (inr l.1) l.0 (λ e h. h) f k;
    }

-- turned round, a corner between two edges is one between the turned edges
pub turned_from : (edges : List Segment) (c d : Corner) → turned_corner d ≡ c → CornerOf edges d
    → CornerOf (map turned_edge edges) c
turned_from edges c d e o =
    record {
      before = turned_edge o.edge;
      edge = turned_edge o.before;
      before_there = mapped turned_edge edges o.edge o.edge_there;
      edge_there = mapped turned_edge edges o.before o.before_there;
      meets = sym o.meets;
      is = ap (λ t. corner o.edge.b t o.before.a) o.meets ∙ (ap turned_corner o.is ∙ e);
    }

-- turned round, they are the corners of the turned edges
turned_corners : (edges : List Segment) (corners : List Corner) (k : ℤ) → IsSound (map turned_edge edges) k
    → AreCorners edges corners → AreCorners (map turned_edge edges) (map turned_corner corners)
turned_corners edges corners k sound all =
    record {
      from = λ c there. let o = source turned_corner corners c there in
          turned_from edges c o.it o.is (all.from o.it o.is_in);
      to = λ f there. let o = source turned_edge edges f there in
          subst (λ t. AtStart (map turned_edge edges) (map turned_corner corners) t) o.is (start_of o.it o.is_in);
    }
  where
    start_of : (g : Segment) → IsIn edges g
        → AtStart (map turned_edge edges) (map turned_corner corners) (turned_edge g)
    start_of g there =
        let s = sound.sides (turned_edge g) (mapped turned_edge edges g there) in
        let o = source turned_edge edges (wall s.before g.b) s.before_there in
        let f = o.it in
        let at = all.to f o.is_in in
        let starts : f.a ≡ g.b = ap (λ t. t.b) o.is in
        let same = one_start (map turned_edge edges) k sound (turned_edge g) (turned_edge at.before)
        (mapped turned_edge edges g there) (mapped turned_edge edges at.before at.before_there) (at.meets ∙ starts) in
        record {
          before = turned_edge f;
          before_there = mapped turned_edge edges f o.is_in;
          meets = starts;
          corner_there =
              subst (λ t. IsIn (map turned_corner corners) (corner f.b t g.a)) starts
              (subst (λ t. IsIn (map turned_corner corners) (corner f.b f.a t.b)) same
              (mapped turned_corner corners (corner at.before.a f.a f.b) at.corner_there));
        }

-- ---- a polygon's walls and corners

-- sound walls with their corners, which are a polygon's edges or those turned round
pub record IsRound (points : List Point) (walls : List Segment) (corners : List Corner) (k : ℤ) : Type 0 where
  pub sound : IsSound walls k
  pub corners_are : AreCorners walls corners
  pub same : (walls ≡ edges_of points) ⊎ (walls ≡ map turned_edge (edges_of points))

as_they_are : (points : List Point) (k : ℤ) → IsSound (edges_of points) k
    → IsRound points (edges_of points) (corners_along (edges_of points)) k
as_they_are points k s = record { sound = s; corners_are = all_corners points; same = inl refl }

turned_about : (points : List Point) (k : ℤ) → IsSound (map turned_edge (edges_of points)) k
    → IsRound points (map turned_edge (edges_of points)) (map turned_corner (corners_along (edges_of points))) k
turned_about points k s =
    record {
      sound = s;
      corners_are = turned_corners (edges_of points) (corners_along (edges_of points)) k s
          (all_corners points);
      same = inr refl;
    }

-- of an obstacle
pub obstacle_round : (points : List Point) → is_simple points ≡ true
    → IsRound points (oriented_walls Counterclockwise points) (oriented_corners Counterclockwise points) (pos 1)
unfolding oriented_walls oriented_corners
obstacle_round points h =
    by_turn (is_counterclockwise points) (left_of_counterclockwise points h)
    (λ e. turned_sound (edges_of points) (pos 0) (left_of_clockwise points h e)) refl
  where
    by_turn : (t : Bool) → (is_counterclockwise points ≡ true → IsSound (edges_of points) (pos 1))
        → (is_counterclockwise points ≡ false → IsSound (map turned_edge (edges_of points)) (pos 1))
        → is_counterclockwise points ≡ t
        → IsRound points (if t then edges_of points else map turned_edge (edges_of points)) (if t
        then corners_along (edges_of points) else map turned_corner (corners_along (edges_of points))) (pos 1)
    by_turn true up down e = as_they_are points (pos 1) (up e)
    by_turn false up down e = turned_about points (pos 1) (down e)

-- of the outer polygon
pub outer_round : (points : List Point) → is_simple points ≡ true
    → IsRound points (oriented_walls Clockwise points) (oriented_corners Clockwise points) (pos 0)
unfolding oriented_walls oriented_corners
outer_round points h =
    by_turn (is_counterclockwise points) (λ e. turned_sound (edges_of points) (pos 1)
    (left_of_counterclockwise points h e)) (left_of_clockwise points h) refl
  where
    by_turn : (t : Bool) → (is_counterclockwise points ≡ true → IsSound (map turned_edge (edges_of points)) (pos 0))
        → (is_counterclockwise points ≡ false → IsSound (edges_of points) (pos 0)) → is_counterclockwise points ≡ t
        → IsRound points (if not t then edges_of points else map turned_edge (edges_of points)) (if not t
        then corners_along (edges_of points) else map turned_corner (corners_along (edges_of points))) (pos 0)
    by_turn true up down e = turned_about points (pos 0) (up e)
    by_turn false up down e = as_they_are points (pos 0) (down e)
