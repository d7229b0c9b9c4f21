-- Where a wall or a screen ends, a corner stands.
use Rattle.std.proofs.Common.{◌≡◌, ◌∙◌, Bool, true, false, cond, ◌||◌, List, [], ◌∷◌, ◌++◌, map, get_or, refl, ap}
use Rattle.std.specs.List.{All, list_any, flat_map}
use Rattle.std.proofs.lemmas.Bool.{or_left, or_right, and_from}
use Rattle.std.proofs.lemmas.List.Elements.{All-nil, All-head, All-tail, All-append, All-map, All-weaker}
use Rattle.std.proofs.lemmas.List.Folds.{list_any-append, list_any_at}
use Rattle.list_laws.proofs.Tests.{list_any_map}
use Rattle.list_laws.proofs.Elements.{found_in_part}
use Rattle.std.specs.Ordering.{int_eq}
use Rattle.int_laws.proofs.Tests.{equal_tested}
use Rattle.plane_spec.specs.declared.Point.{Point}
use Rattle.plane_spec.specs.declared.Segment.{Segment}
use Rattle.plane_spec.specs.declared.Corner.{Corner}
use Rattle.plane_spec.specs.declared.Orientation.{Orientation}
use Rattle.plane_spec.specs.declared.Orientation.TheVariants.{Counterclockwise, Clockwise}
use Rattle.plane_spec.specs.Vectors.{same_point}
use Rattle.plane_spec.specs.Polygons.{edges_to, edges_of}
use Rattle.plan_spec.specs.declared.item.Screen.{Screen}
use Rattle.plan_spec.specs.Plan.{Plan, Obstacle}
use Rattle.sight_spec.specs.Scene.{scene_of, blockers_of_scene, has_orientation, oriented_corners, corners_after}
use Rattle.sight_spec.specs.Scene.{last_edge, corners_along, turned_corner, corners_of, corners_of_obstacle}
use Rattle.sight_spec.specs.Scene.{ends_of_screen, walls_of_obstacle, segment_of_screen, oriented_walls}
use Rattle.box_laws.specs.Boxes.{OfEnds}
use Rattle.box_laws.proofs.Parts.{walls_held, obstacle_walls_held}

-- the corner stands at q
abbrev pub stands_at : Point → Corner → Bool
stands_at q c = same_point c.here q

-- one of the corners stands at q
abbrev pub HasCorner : List Corner → Point → Type 0
HasCorner corners q = list_any (stands_at q) corners ≡ true

-- ---- corners stand at the points of a polygon

abbrev is_point : Point → Point → Bool
is_point q r = same_point r q

stand_at_starts : (q : Point) (before : Segment) (edges : List Segment)
    → list_any (stands_at q) (corners_after before edges) ≡ list_any (λ e. same_point e.a q) edges
stand_at_starts q before [] = refl
stand_at_starts q before (e ∷ edges) = ap (λ t. same_point e.a q || t) (stand_at_starts q e edges)

starts_are : (q first : Point) (points : List Point)
    → list_any (λ e. same_point e.a q) (edges_to first points) ≡ list_any (is_point q) points
unfolding edges_to
starts_are q first [] = refl
starts_are q first (p ∷ []) = refl
starts_are q first (p ∷ r ∷ points) = ap (λ t. same_point p q || t) (starts_are q first (r ∷ points))

along_edges : (q : Point) (edges : List Segment)
    → list_any (stands_at q) (corners_along edges) ≡ list_any (λ e. same_point e.a q) edges
along_edges q [] = refl
along_edges q (e ∷ edges) = stand_at_starts q (last_edge e edges) (e ∷ edges)

along_points : (q : Point) (points : List Point)
    → list_any (stands_at q) (corners_along (edges_of points)) ≡ list_any (is_point q) points
along_points q [] = refl
along_points q (p ∷ points) = along_edges q (edges_of (p ∷ points)) ∙ starts_are q p (p ∷ points)

-- whichever way round the points go
of_polygon : (q : Point) (way : Orientation) (points : List Point)
    → list_any (stands_at q) (oriented_corners way points) ≡ list_any (is_point q) points
unfolding oriented_corners
of_polygon q way points = by (has_orientation way points)
  where
    by : (t : Bool)
        → list_any (stands_at q)
        (cond t (corners_along (edges_of points)) (map turned_corner (corners_along (edges_of points))))
        ≡ list_any (is_point q) points
    by true = along_points q points
    by false =
        list_any_map (stands_at q) turned_corner (corners_along (edges_of points)) ∙ along_points q points

itself : (q : Point) → same_point q q ≡ true
itself q = and_from (int_eq q.x q.x) (int_eq q.y q.y) (equal_tested q.x q.x refl) (equal_tested q.y q.y refl)

-- each point of a list is one of them
all_points : (points : List Point) → All (λ q. list_any (is_point q) points ≡ true) points
all_points points k d l =
    let q = get_or points k d in
    list_any_at (is_point q) points k d l (itself q)

each_corner : (way : Orientation) (points : List Point) → All (HasCorner (oriented_corners way points)) points
each_corner way points k d l = of_polygon (get_or points k d) way points ∙ all_points points k d l

-- ---- corners of a plan

any_left : {X : Type 0} (test : X → Bool) (xs ys : List X) → list_any test xs ≡ true → list_any test (xs ++ ys) ≡ true
any_left test xs ys h = list_any-append test xs ys ∙ or_left (list_any test xs) (list_any test ys) h

any_right : {X : Type 0} (test : X → Bool) (xs ys : List X) → list_any test ys ≡ true → list_any test (xs ++ ys) ≡ true
any_right test xs ys h = list_any-append test xs ys ∙ or_right (list_any test xs) (list_any test ys) h

held_in_parts : {X Y : Type 0} (P : Y → Type 0) (f : X → List Y) (xs : List X) → All (λ x. All P (f x)) xs
    → All P (flat_map f xs)
held_in_parts P f [] all = All-nil P
held_in_parts P f (x ∷ xs) all =
    All-append P (f x) (flat_map f xs) (All-head (λ x. All P (f x)) x xs all)
    (held_in_parts P f xs (All-tail (λ x. All P (f x)) x xs all))

module _ (plan : Plan) where
  abbrev Cornered : Point → Type 0
  Cornered = HasCorner (corners_of plan)

  outer_cornered : All Cornered plan.outer
  outer_cornered k d l =
      any_left (stands_at (get_or plan.outer k d)) (oriented_corners Clockwise plan.outer)
      (flat_map corners_of_obstacle plan.obstacles ++ flat_map ends_of_screen plan.screens)
      (each_corner Clockwise plan.outer k d l)

  -- corners of obstacles and the ends of screens stand after those of the outer polygon
  later_corner : (q : Point)
      → list_any (stands_at q) (flat_map corners_of_obstacle plan.obstacles ++ flat_map ends_of_screen plan.screens) ≡ true
      → Cornered q
  later_corner q h =
      any_right (stands_at q) (oriented_corners Clockwise plan.outer)
      (flat_map corners_of_obstacle plan.obstacles ++ flat_map ends_of_screen plan.screens) h

  obstacle_cornered : All (λ (o : Obstacle). All Cornered o.points) plan.obstacles
  obstacle_cornered n o m k d l =
      let points = (get_or plan.obstacles n o).points in
      let q = get_or points k d in
      later_corner q
      (any_left (stands_at q) (flat_map corners_of_obstacle plan.obstacles) (flat_map ends_of_screen plan.screens)
      (found_in_part (stands_at q) corners_of_obstacle plan.obstacles
      ∙ list_any_at (λ o. list_any (stands_at q) (corners_of_obstacle o)) plan.obstacles n o m
      (each_corner Counterclockwise points k d l)))

  screen_cornered : All (λ (s : Screen). OfEnds Cornered (segment_of_screen s)) plan.screens
  screen_cornered n s m =
      let screen = get_or plan.screens n s in
      record {
        a = among screen.from
            (or_left (same_point screen.from screen.from) (same_point screen.to screen.from || false)
            (itself screen.from));
        b = among screen.to
            (or_right (same_point screen.from screen.to) (same_point screen.to screen.to || false)
            (or_left (same_point screen.to screen.to) false (itself screen.to)));
      }
    where
      among : (q : Point) → list_any (stands_at q) (ends_of_screen (get_or plan.screens n s)) ≡ true → Cornered q
      among q h =
          later_corner q
          (any_right (stands_at q) (flat_map corners_of_obstacle plan.obstacles)
          (flat_map ends_of_screen plan.screens)
          (found_in_part (stands_at q) ends_of_screen plan.screens
          ∙ list_any_at (λ s. list_any (stands_at q) (ends_of_screen s)) plan.screens n s m h))

  -- a corner stands at both ends of each wall and screen
  pub ends_cornered : All (OfEnds Cornered) (blockers_of_scene (scene_of plan))
  ends_cornered =
      All-append (OfEnds Cornered) (scene_of plan).walls (scene_of plan).screens
      (All-append (OfEnds Cornered) (oriented_walls Clockwise plan.outer) (flat_map walls_of_obstacle plan.obstacles)
      (walls_held Cornered Clockwise plan.outer outer_cornered)
      (held_in_parts (OfEnds Cornered) walls_of_obstacle plan.obstacles
      (All-weaker (λ (o : Obstacle). All Cornered o.points) (λ o. All (OfEnds Cornered) (walls_of_obstacle o))
      (λ o h. obstacle_walls_held Cornered o h) plan.obstacles obstacle_cornered)))
      (All-map (OfEnds Cornered) segment_of_screen plan.screens screen_cornered)
