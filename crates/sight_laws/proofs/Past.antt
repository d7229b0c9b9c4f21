-- Plans of convex polygons: what is seen, by what a segment passes through.
--
-- The outer polygon is in nobody's way, and each obstacle is in the way exactly of what passes through it. So in a
-- sound plan a segment passes through no obstacle exactly where all its points are open, which is what sight means
-- there.
use Rattle.std.specs.Prelude.{true, false, not, ◌&&◌, ◌||◌, List, Contains}
use Rattle.std.specs.List.{list_any, list_all}
use Rattle.std.proofs.Common.{◌≡◌, ◌⊎◌, inl, inr, ◌↔◌, sym, ap, ◌∙◌, subst}
use Rattle.std.proofs.lemmas.Bool.{and_parts, and_from, or_cases, false_from_ne_true, not-true}
use Rattle.plane_spec.specs.declared.Point.{Point}
use Rattle.plane_spec.specs.declared.Orientation.TheVariants.{Counterclockwise}
use Rattle.plane_spec.specs.Vectors.{same_point}
use Rattle.plane_spec.specs.Polygons.{is_simple, is_inside}
use Rattle.plan_spec.specs.Accepted.{is_sound}
use Rattle.plan_spec.specs.Plan.{Obstacle, Plan}
use Rattle.sight_spec.specs.Scene.{scene_of, oriented_walls, oriented_corners, walls_of, corners_of, screens_of}
use Rattle.sight_spec.specs.Sight.{crosses, is_blocked, are_in_sight, is_open}
use Rattle.plane_laws.specs.Enlarged.{part_way}
use Rattle.plane_laws.proofs.Tests.{clash}
use Rattle.plane_laws.proofs.Lists.Members.{IsIn, each_passes, each_fails, mapped, source, from_contains, to_contains}
use Rattle.polygon_laws.specs.Alone.{obstacle_alone, outer_alone}
use Rattle.polygon_laws.specs.Through.{PassesOutside, SeesOver, enlarged_obstacle, enlarged_plan}
use Rattle.polygon_laws.proofs.Blocked.{InTheWay}
use Rattle.polygon_laws.proofs.Plans.{blocked_by, ways_of, no_screens, outer_law, which, obstacle_blocks, open_parts}
use Rattle.polygon_laws.proofs.Plans.{seen_parts}
use Rattle.polygon_laws.proofs.Plans.{open_from, simple_outer, simple_obstacle, screen_blocks, seen_in_a_sound_plan}
use Rattle.sight_laws.specs.Convex.{is_convex, is_on_or_inside, is_strictly_inside, PassesThrough, is_convex_obstacle}
use Rattle.sight_laws.specs.Convex.{has_convex_polygons, has_both_inside, SeesPast}
use Rattle.sight_laws.proofs.Polygons.{inside_where_left, over_where_within}
use Rattle.sight_laws.proofs.Outer.{outer_unblocked}
use Rattle.sight_laws.proofs.Passing.{no_repeat, through_inside, inside_through, through_back, blocked_back}
use Rattle.sight_laws.proofs.Passing.{through_blocked, blocked_through}

-- ---- any plan

no_screen : (points : List Point) (p q : Point) → is_blocked (obstacle_alone points) p q ≡ true
    → InTheWay (oriented_walls Counterclockwise points) (oriented_corners Counterclockwise points) p q
    ⊎ InTheWay (oriented_walls Counterclockwise points) (oriented_corners Counterclockwise points) q p
no_screen points p q h =
    no_screens (oriented_walls Counterclockwise points) (oriented_corners Counterclockwise points) p q h

-- what blocks by itself blocks in the plan
obstacle_in_plan : (plan : Plan) (o : Obstacle) (p q : Point) → IsIn plan.obstacles o
    → is_blocked (obstacle_alone o.points) p q ≡ true → is_blocked (scene_of plan) p q ≡ true
obstacle_in_plan plan o p q there h = elim (no_screen o.points p q h) [
  | inl way ↦ obstacle_blocks plan p q o there way
  | inr way ↦ sym (blocked_back (scene_of plan) p q) ∙ obstacle_blocks plan q p o there way
]

unseen : (plan : Plan) (p q : Point) → is_blocked (scene_of plan) p q ≡ true → are_in_sight (scene_of plan) p q ≡ false
unfolding are_in_sight
unseen plan p q h =
    false_from_ne_true _ (λ seen. clash (not-true (is_blocked (scene_of plan) p q)
    (and_parts (not (same_point p q)) (not (is_blocked (scene_of plan) p q)) seen).1) h)

-- **an obstacle that is passed through hides**
pub through_unseen : (plan : Plan) (o : Obstacle) (p q : Point) → Contains plan.obstacles o
    → is_simple o.points ≡ true → is_convex o.points ≡ true
    → (is_strictly_inside p o.points && is_strictly_inside q o.points) ≡ false → PassesThrough o.points p q
    → are_in_sight (scene_of plan) p q ≡ false
through_unseen plan o p q there simple convex apart w =
    unseen plan p q (obstacle_in_plan plan o p q (from_contains plan.obstacles o there)
    (through_blocked o.points p q simple convex apart w))

-- what passes through an obstacle leaves the open points
not_all_open : (plan : Plan) (o : Obstacle) (p q : Point) → is_simple o.points ≡ true → is_convex o.points ≡ true
    → IsIn plan.obstacles o → SeesOver plan p q → PassesThrough o.points p q → ⊥
not_all_open plan o p q simple convex there sees w =
    let through = through_inside o.points p q simple convex w in
    let opened = open_parts (enlarged_plan through.1 plan) (part_way through.0 through.1 p q)
    (sees.all_open through.0 through.1 through.2 through.3) in
    clash (opened.1 (enlarged_obstacle through.1 o) (mapped
    (enlarged_obstacle through.1) plan.obstacles o there)) through.4

convex_parts : (plan : Plan) → has_convex_polygons plan ≡ true
    → (is_convex plan.outer ≡ true) × ((o : Obstacle) → IsIn plan.obstacles o → is_convex o.points ≡ true)
convex_parts plan h =
    let parts = and_parts (is_convex plan.outer) (list_all (λ o. is_convex o.points) plan.obstacles) h in
    (parts.0, λ o there. each_passes (λ o. is_convex o.points) plan.obstacles o parts.1 there)

-- no point of a segment between open points is outside
never_outside : (plan : Plan) (p q : Point) → is_sound plan ≡ true → is_convex plan.outer ≡ true
    → is_open plan p ≡ true → is_open plan q ≡ true → same_point p q ≡ false → PassesOutside plan.outer p q → ⊥
never_outside plan p q sound convex p_open q_open differ w =
    let simple = simple_outer plan sound in
    let p_within = (open_parts plan p p_open).0 in
    let q_within = (open_parts plan q q_open).0 in
    let some = no_repeat plan.outer simple in
    clash (outer_unblocked plan.outer p q (over_where_within plan.outer p some convex p_within)
    (over_where_within plan.outer q some convex q_within))
    ((outer_law plan.outer p q simple p_within differ).1 w)

-- **to see past all obstacles is to see over open points alone**
pub past_is_over : (plan : Plan) (p q : Point) → is_sound plan ≡ true → has_convex_polygons plan ≡ true
    → is_open plan p ≡ true → is_open plan q ≡ true → SeesPast plan p q ↔ SeesOver plan p q
past_is_over plan p q sound convex p_open q_open = (
  λ past. record {
    differ = past.differ;
    no_screen = past.no_screen;
    all_open = λ a n later before. open_from (enlarged_plan n plan) (part_way a n p q)
        (λ outside. never_outside plan p q sound parts.0 p_open q_open past.differ (a, n, later, before, outside))
        (λ o there inside. let s = source (enlarged_obstacle n) plan.obstacles o there in
        past.no_obstacle s.it (to_contains plan.obstacles s.it s.is_in)
        (inside_through s.it.points p q (simple_obstacle plan sound s.it s.is_in) (parts.1 s.it s.is_in)
        (a, n, later, before, subst (λ t. is_inside (part_way a n p q) t.points ≡ true) (sym s.is) inside)));
  },
  λ over. record {
    differ = over.differ;
    no_screen = over.no_screen;
    no_obstacle = λ o there w. let o_there = from_contains plan.obstacles o there in
        not_all_open plan o p q (simple_obstacle plan sound o o_there) (parts.1 o o_there) o_there over w;
  },
)
  where
    parts : (is_convex plan.outer ≡ true) × ((o : Obstacle) → IsIn plan.obstacles o → is_convex o.points ≡ true)
    parts = convex_parts plan convex

pub seen_among_convex : (plan : Plan) (p q : Point) → is_sound plan ≡ true → has_convex_polygons plan ≡ true
    → is_open plan p ≡ true → is_open plan q ≡ true
    → (are_in_sight (scene_of plan) p q ≡ true) ↔ SeesPast plan p q
seen_among_convex plan p q sound convex p_open q_open =
    let over = seen_in_a_sound_plan plan p q sound p_open in
    let past = past_is_over plan p q sound convex p_open q_open in
    (λ seen. past.1 (over.0 seen), λ h. over.1 (past.0 h))

-- an open point isn't strictly inside an obstacle
not_both : (plan : Plan) (o : Obstacle) (p q : Point) → is_simple o.points ≡ true → is_convex o.points ≡ true
    → IsIn plan.obstacles o → (is_open plan p || is_open plan q) ≡ true
    → (is_strictly_inside p o.points && is_strictly_inside q o.points) ≡ false
not_both plan o p q simple convex there one =
    false_from_ne_true _ (λ h. by_end (and_parts (is_strictly_inside p o.points) (is_strictly_inside q o.points) h)
    (or_cases (is_open plan p) (is_open plan q) one))
  where
    never : (x : Point) → is_strictly_inside x o.points ≡ true → is_open plan x ≡ true → ⊥
    never x x_in x_open = clash ((open_parts plan x x_open).1 o there) (inside_where_left o.points x simple convex x_in)

    by_end : (is_strictly_inside p o.points ≡ true) × (is_strictly_inside q o.points ≡ true)
        → (is_open plan p ≡ true) ⊎ (is_open plan q ≡ true) → ⊥
    by_end h (inl p_open) = never p h.0 p_open
    by_end h (inr q_open) = never q h.1 q_open

pub unseen_between_open : (plan : Plan) (o : Obstacle) (p q : Point) → is_sound plan ≡ true
    → Contains plan.obstacles o → is_convex o.points ≡ true → (is_open plan p || is_open plan q) ≡ true
    → PassesThrough o.points p q → are_in_sight (scene_of plan) p q ≡ false
unseen_between_open plan o p q sound there convex one w =
    let o_there = from_contains plan.obstacles o there in
    let simple = simple_obstacle plan sound o o_there in
    through_unseen plan o p q there simple convex (not_both plan o p q simple convex o_there one) w

-- ---- plans that needn't be sound

pub seen_past_convex : (plan : Plan) (p q : Point) → list_all is_convex_obstacle plan.obstacles ≡ true
    → is_on_or_inside p plan.outer ≡ true → is_on_or_inside q plan.outer ≡ true
    → list_any (has_both_inside p q) plan.obstacles ≡ false
    → (are_in_sight (scene_of plan) p q ≡ true) ↔ SeesPast plan p q
unfolding are_in_sight
seen_past_convex plan p q obstacles p_over q_over apart = (
  λ seen. let s = seen_parts plan p q seen in record {
    differ = s.0;
    no_screen = false_from_ne_true (list_any (crosses p q) (screens_of plan))
        (λ h. clash s.1 (screen_blocks plan p q h));
    no_obstacle = λ o there w. let o_there = from_contains plan.obstacles o there in let c = convex o o_there in
        clash s.1 (obstacle_in_plan plan o p q o_there
        (through_blocked o.points p q c.0 c.1 (each_fails
        (has_both_inside p q) plan.obstacles o apart o_there) w));
  },
  λ past. and_from _ _ (ap not past.differ) (ap not (false_from_ne_true (is_blocked (scene_of plan) p q)
      (λ h. never past (ways_of (scene_of plan) p q h)))),
)
  where
    convex : (o : Obstacle) → IsIn plan.obstacles o → (is_simple o.points ≡ true) × (is_convex o.points ≡ true)
    convex o there =
        and_parts (is_simple o.points) (is_convex o.points)
        (each_passes is_convex_obstacle plan.obstacles o obstacles there)

    -- a wall or corner in the way is the outer polygon's, which never is, or an obstacle's, which is passed through
    -- then
    from_end : SeesPast plan p q → (x y : Point) → is_on_or_inside x plan.outer ≡ true
        → is_on_or_inside y plan.outer ≡ true
        → ((o : Obstacle) → IsIn plan.obstacles o → PassesThrough o.points x y → PassesThrough o.points p q)
        → InTheWay (walls_of plan) (corners_of plan) x y → ⊥
    from_end past x y x_over y_over same way = elim (which plan x y way) [
      | inl outer ↦ clash (outer_unblocked plan.outer x y x_over y_over) (blocked_by (outer_alone plan.outer) x y outer)
      | inr o ↦ let c = convex o.it o.is_in in
          past.no_obstacle o.it (to_contains plan.obstacles o.it o.is_in)
          (same o.it o.is_in (blocked_through o.it.points x y c.0 c.1
          (blocked_by (obstacle_alone o.it.points) x y o.way)))
    ]

    never : SeesPast plan p q → (InTheWay (walls_of plan) (corners_of plan) p q
        ⊎ InTheWay (walls_of plan) (corners_of plan) q p) ⊎ (list_any (crosses p q) (screens_of plan) ≡ true) → ⊥
    never past (inl (inl way)) = from_end past p q p_over q_over (λ o there w. w) way
    never past (inl (inr way)) = from_end past q p q_over p_over (λ o there w. through_back o.points q p w) way
    never past (inr h) = clash past.no_screen h
