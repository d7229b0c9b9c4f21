-- What a station stands on decides which directions begin blocked, as the contract states it.
use Rattle.std.proofs.Common.{◌≡◌, ℕ, ◌+◌, ◌-◌, ◌<◌, ◌≤◌, arith, ap, refl, sym, ◌∙◌, subst, List, ◌++◌, length}
use Rattle.std.proofs.Common.{get_or}
use Rattle.std.specs.Prelude.{Bool, true, false, ◌||◌}
use Rattle.std.specs.List.{list_any, flat_map}
use Rattle.std.proofs.lemmas.Bool.{and_from, and_parts}
use Rattle.std.proofs.lemmas.List.{append_assoc, get_or_append_left, get_or-append_right, length-append}
use Rattle.plane_spec.specs.declared.Point.{Point}
use Rattle.plane_spec.specs.declared.Segment.{Segment}
use Rattle.plane_spec.specs.declared.Corner.{Corner}
use Rattle.plane_spec.specs.Vectors.{vector, turns_left}
use Rattle.plane_spec.specs.Segments.{is_on_segment}
use Rattle.plane_spec.specs.Cones.{is_in_cone}
use Rattle.plan_spec.specs.Plan.{Plan}
use Rattle.plan_spec.specs.Accepted.{is_sound}
use Rattle.plane_spec.specs.declared.Orientation.TheVariants.{Clockwise}
use Rattle.sight_spec.specs.Scene.{oriented_corners, corners_of_obstacle, scene_of, walls_of, corners_of}
use Rattle.sight_spec.specs.Scene.{ends_of_screen}
use Rattle.sight_spec.specs.Sight.{is_in_interior}
use Rattle.sight_spec.specs.Isovist.{no_segment}
use Rattle.front_laws.proofs.Tests.{by_cases, by_lt, clash, clash_to, mapped_at}
use Rattle.front_laws.proofs.Lists.{HasPassing, any_at, any_is, some_of}
use Rattle.apart_laws.proofs.Plans.{points_same, same_length}
use Rattle.apart_laws.proofs.Through.{IsWithinOne, ends_off, at_first}
use Rattle.sweep_laws.specs.Groups.{no_corner, is_own}
use Rattle.sweep_laws.specs.Parts.{leaves_left, begins_blocked}
use Rattle.view_laws.specs.declared.view.Ground.{Ground}
use Rattle.view_laws.specs.Views.{is_led_into}
use Rattle.station_laws.specs.Grounds.{is_at, IsFirstCorner, IsOnWall, IsAtNoCorner, IsGroundOf, at_corner, on_wall}
use Rattle.station_laws.specs.Grounds.{on_nothing}
use Rattle.station_laws.proofs.Ends.{here_of, start_of}
use Rattle.station_laws.proofs.Walls.{polygon_edges, polygon_corners, may_stand_at, walls_many, wall_within, one_wall}
use Rattle.station_laws.proofs.Walls.{never_one_start, polygons_starts}
use Rattle.station_laws.proofs.Screens.{IsScreenCorner, screens_clear, of_screens}

-- ---- corners by number

abbrev edge_at : Plan → ℕ → Segment
edge_at plan k = get_or (polygon_edges plan) k no_segment

polygon_many : (plan : Plan) → length (polygon_corners plan) ≡ length (polygon_edges plan)
polygon_many plan =
    sym (same_length here_of (polygon_corners plan)) ∙ ap length (polygons_starts plan)
    ∙ same_length start_of (polygon_edges plan)

-- a corner of a polygon stands where its edge begins
polygon_at : (plan : Plan) (k : ℕ) → k < length (polygon_corners plan)
    → (get_or (polygon_corners plan) k no_corner).here ≡ (edge_at plan k).a
polygon_at plan k within =
    sym (mapped_at here_of (polygon_corners plan) k no_corner (no_segment.a) within)
    ∙ ap (λ t. get_or t k (no_segment.a)) (polygons_starts plan)
    ∙ mapped_at start_of (polygon_edges plan) k no_segment (no_segment.a) (subst (λ n. k < n) (polygon_many plan) within)

corner_list : (plan : Plan) → corners_of plan ≡ polygon_corners plan ++ flat_map ends_of_screen plan.screens
corner_list plan = sym (append_assoc (oriented_corners Clockwise plan.outer)
    (flat_map corners_of_obstacle plan.obstacles) (flat_map ends_of_screen plan.screens))

-- the corner of the number is a polygon's, or an end of a screen
data KindOf (plan : Plan) (k : ℕ) : Type 0 where
  of_polygon : k < length (polygon_edges plan) → (get_or (corners_of plan) k no_corner).here ≡ (edge_at plan k).a
      → KindOf plan k
  of_a_screen : length (polygon_edges plan) ≤ k → IsScreenCorner plan (get_or (corners_of plan) k no_corner)
      → KindOf plan k

kind_at : (plan : Plan) (k : ℕ) → is_sound plan ≡ true → k < length (corners_of plan) → KindOf plan k
kind_at plan k sound within =
    by_lt k (length polygons)
    (λ lt. of_polygon (subst (λ n. k < n) (polygon_many plan) lt)
    (ap (λ t. (get_or t k no_corner).here) (corner_list plan)
    ∙ ap (λ c. c.here) (get_or_append_left polygons screens no_corner k lt) ∙ polygon_at plan k lt))
    (λ le. of_a_screen (subst (λ n. n ≤ k) (polygon_many plan) le)
    (subst (IsScreenCorner plan) (sym (ap (λ t. get_or t k no_corner) (corner_list plan)
    ∙ get_or-append_right polygons screens (length polygons) k no_corner refl le))
    (of_screens plan plan.screens (screens_clear plan sound) (k - length polygons) no_corner
    (rest (length (corners_of plan)) (length polygons) (length screens)
    (ap length (corner_list plan) ∙ length-append polygons screens) within le))))
  where
    polygons : List Corner
    polygons = polygon_corners plan

    screens : List Corner
    screens = flat_map ends_of_screen plan.screens

    rest : (n m l : ℕ) → n ≡ m + l → k < n → m ≤ k → k - m < l
    rest n m l e lt le = omega (arith, e, lt, le)

-- ---- a station at a corner

-- no wall has the corner in its interior
no_wall_through : (plan : Plan) (p : Point) (k j : ℕ) → is_sound plan ≡ true → KindOf plan k
    → (get_or (corners_of plan) k no_corner).here ≡ p → j < length (polygon_edges plan)
    → IsWithinOne p (edge_at plan j).a (edge_at plan j).b → ⊥
no_wall_through plan p k j sound (of_a_screen low s) here within w =
    clash (is_on_segment p (edge_at plan j).a (edge_at plan j).b) w.on
    (subst (λ t. is_on_segment t (edge_at plan j).a (edge_at plan j).b ≡ false) here (s.free j within))
no_wall_through plan p k j sound (of_polygon k_in starts) here within w =
    by_lt j k
    (λ lt. (ends_off (edge_at plan j).a (edge_at plan j).b (edge_at plan k).a (edge_at plan k).b
    (may_stand_at plan j k sound lt k_in)).1.0 moved)
    (λ le. by_lt k j
    (λ lt. (ends_off (edge_at plan k).a (edge_at plan k).b (edge_at plan j).a (edge_at plan j).b
    (may_stand_at plan k j sound lt within)).0.0 moved)
    (λ ge. at_first (edge_at plan k).a (edge_at plan j).a (edge_at plan j).b
    (ap (λ t. (edge_at plan t).a) (equal k j le ge)) moved))
  where
    moved : IsWithinOne (edge_at plan k).a (edge_at plan j).a (edge_at plan j).b
    moved = subst (λ t. IsWithinOne t (edge_at plan j).a (edge_at plan j).b) (sym here ∙ starts) w

    equal : (k j : ℕ) → k ≤ j → j ≤ k → k ≡ j
    equal k j h g = omega (arith, h, g)

none_leaves : (plan : Plan) (p d : Point) (k : ℕ) → is_sound plan ≡ true → k < length (corners_of plan)
    → is_at p (get_or (corners_of plan) k no_corner) ≡ true → list_any (leaves_left p d) (walls_of plan) ≡ false
none_leaves plan p d k sound within here =
    by_cases (list_any (leaves_left p d) (walls_of plan))
    (λ h. absurd (through (some_of (leaves_left p d) (walls_of plan) no_segment h)))
    (λ h. h)
  where
    through : HasPassing (leaves_left p d) (walls_of plan) no_segment → ⊥
    through s =
        let w = get_or (walls_of plan) s.place no_segment in
        let two = and_parts (is_in_interior p w) (turns_left (vector w.a w.b) d) s.holds in
        no_wall_through plan p k s.place sound (kind_at plan k sound within)
        (points_same (get_or (corners_of plan) k no_corner).here p here)
        (subst (λ n. s.place < n) (walls_many p plan) s.within) (wall_within p plan s.place s.within two.0)

-- only the first corner at the station leads into anything
own_is : (plan : Plan) (p d : Point) (c : Corner) → is_sound plan ≡ true → IsFirstCorner p (corners_of plan) c
    → list_any (is_own p d) (corners_of plan) ≡ is_in_cone c d
own_is plan p d c sound f =
    any_is (is_own p d) (corners_of plan) no_corner (is_in_cone c d) there
    (λ h. record {
      place = f.number;
      within = f.within;
      holds = and_from (is_at p (corner f.number)) (is_in_cone (corner f.number) d)
          (ap (is_at p) f.corner ∙ f.here) (ap (λ t. is_in_cone t d) f.corner ∙ h);
    })
  where
    corner : ℕ → Corner
    corner k = get_or (corners_of plan) k no_corner

    apart : (i j : ℕ) → i < j → j < length (corners_of plan) → (corner i).here ≡ p → (corner j).here ≡ p
        → KindOf plan i → KindOf plan j → is_in_cone (corner j) d ≡ true → ⊥
    apart i j lt j_in i_here j_here a (of_a_screen low s) h = clash (is_in_cone (corner j) d) h (s.empty d)
    apart i j lt j_in i_here j_here (of_a_screen low s) (of_polygon j_low e) h = omega (arith, lt, low, j_low)
    apart i j lt j_in i_here j_here (of_polygon i_low e) (of_polygon j_low g) h =
        never_one_start (edge_at plan i).a (edge_at plan i).b (edge_at plan j).a (edge_at plan j).b
        (may_stand_at plan i j sound lt j_low) (sym e ∙ i_here ∙ sym j_here ∙ g)

    there : HasPassing (is_own p d) (corners_of plan) no_corner → is_in_cone c d ≡ true
    there s =
        let two = and_parts (is_at p (corner s.place)) (is_in_cone (corner s.place) d) s.holds in
        by_lt s.place f.number
        (λ lt. clash_to (is_at p (corner s.place)) two.0 (f.first s.place lt))
        (λ le. by_lt f.number s.place
        (λ lt. absurd (apart f.number s.place lt s.within
        (points_same (corner f.number).here p (ap (is_at p) f.corner ∙ f.here))
        (points_same (corner s.place).here p two.0)
        (kind_at plan f.number sound f.within) (kind_at plan s.place sound s.within) two.1))
        (λ ge. subst (λ t. is_in_cone t d ≡ true)
        (ap corner (equal s.place f.number le ge) ∙ f.corner) two.1))
      where
        equal : (m n : ℕ) → n ≤ m → m ≤ n → m ≡ n
        equal m n h g = omega (arith, h, g)

-- ---- a station on a wall, or on nothing

none_weaker : {X : Type 0} (f g : X → Bool) (d : X) (xs : List X) → ((x : X) → g x ≡ true → f x ≡ true)
    → list_any f xs ≡ false → list_any g xs ≡ false
none_weaker f g d xs weaker h =
    by_cases (list_any g xs)
    (λ k. let s = some_of g xs d k in
    clash_to (list_any f xs) (any_at f xs d (record {
      place = s.place;
      within = s.within;
      holds = weaker (get_or xs s.place d) s.holds;
    })) h)
    (λ k. k)

none_own : (p d : Point) (corners : List Corner) → IsAtNoCorner p corners → list_any (is_own p d) corners ≡ false
none_own p d corners h =
    none_weaker (is_at p) (is_own p d) no_corner corners (λ c k. (and_parts (is_at p c) (is_in_cone c d) k).0) h

leaves_is : (plan : Plan) (p d : Point) (w : Segment) → is_sound plan ≡ true → IsOnWall p (walls_of plan) w
    → list_any (leaves_left p d) (walls_of plan) ≡ turns_left (vector w.a w.b) d
leaves_is plan p d w sound f =
    any_is (leaves_left p d) (walls_of plan) no_segment (turns_left (vector w.a w.b) d) there
    (λ h. record {
      place = f.number;
      within = f.within;
      holds = ap (leaves_left p d) f.wall ∙ and_from (is_in_interior p w) (turns_left (vector w.a w.b) d) f.on h;
    })
  where
    there : HasPassing (leaves_left p d) (walls_of plan) no_segment → turns_left (vector w.a w.b) d ≡ true
    there s =
        let v = get_or (walls_of plan) s.place no_segment in
        let two = and_parts (is_in_interior p v) (turns_left (vector v.a v.b) d) s.holds in
        let same = one_wall plan p s.place f.number sound s.within f.within two.0
        (ap (is_in_interior p) f.wall ∙ f.on) in
        subst (λ t. turns_left (vector t.a t.b) d ≡ true)
        (ap (λ n. get_or (walls_of plan) n no_segment) same ∙ f.wall) two.1

or_false : (b : Bool) → (b || false) ≡ b
or_false true = refl
or_false false = refl

-- the ground decides which directions begin blocked
pub ground_decides : (plan : Plan) (p d : Point) (ground : Ground) → is_sound plan ≡ true
    → IsGroundOf (scene_of plan) p ground → begins_blocked (scene_of plan) p d ≡ is_led_into ground d
unfolding is_led_into
ground_decides plan p d ground sound (at_corner c f) =
    ap (λ t. t || list_any (is_own p d) (corners_of plan))
    (none_leaves plan p d f.number sound f.within (ap (is_at p) f.corner ∙ f.here))
    ∙ own_is plan p d c sound f
ground_decides plan p d ground sound (on_wall w none f) =
    ap (λ t. list_any (leaves_left p d) (walls_of plan) || t) (none_own p d (corners_of plan) none)
    ∙ or_false (list_any (leaves_left p d) (walls_of plan)) ∙ leaves_is plan p d w sound f
ground_decides plan p d ground sound (on_nothing none free) =
    ap (λ t. list_any (leaves_left p d) (walls_of plan) || t) (none_own p d (corners_of plan) none)
    ∙ or_false (list_any (leaves_left p d) (walls_of plan))
    ∙ none_weaker (is_in_interior p) (leaves_left p d) no_segment (walls_of plan)
    (λ w k. (and_parts (is_in_interior p w) (turns_left (vector w.a w.b) d) k).0) free
