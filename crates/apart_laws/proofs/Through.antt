-- In a sound plan no wall or screen passes through an end of another whose direction spans it.
--
-- Where the direction from the station to a corner spans a wall s, and the corner is on the line of s, the corner lies
-- on s, and at neither of its ends (`passes_at`). But an edge that stands beside s has no end in the interior of s:
-- they don't touch, or they share an end and the other end of neither is on the other. So a corner has no wall through
-- it but its own two, and these are not spanned by its direction.
use Rattle.std.proofs.Common.{◌≡◌, ◌≢◌, ℕ, ◌<◌, ◌≤◌, ◌∙◌, arith, pos, ap, sym, subst, length, get_or}
use Rattle.std.proofs.lemmas.Int.{ints}
use Rattle.std.specs.Ordering.{int_eq}
use Rattle.std.specs.Prelude.{true, false, ◌&&◌, ◌||◌, Bool, not, int_lt, cond, Some, None}
use Rattle.plan_spec.specs.Accepted.{is_sound}
use Rattle.plan_spec.specs.Plan.{Plan}
use Rattle.plane_spec.specs.Polygons.{is_on_edge}
use Rattle.plane_spec.specs.Segments.{is_on_segment, do_touch, cross_properly}
use Rattle.plane_spec.specs.Vectors.{same_point, is_left_of_line, vector, cross_of}
use Rattle.plane_spec.specs.declared.Point.{Point}
use Rattle.plane_spec.specs.declared.Segment.{Segment}
use Rattle.sight_spec.specs.Scene.{scene_of, blockers_of_scene}
use Rattle.sight_spec.specs.Sight.{starts_into_wall}
use Rattle.int_laws.proofs.Signs.{positive_tested}
use Rattle.apart_laws.proofs.Between.{faces_where, leaves_where}
use Rattle.apart_laws.proofs.Plans.{edges_of_plan, two_at, may_of, same_length, plan_seen, plan_stands}
use Rattle.apart_laws.proofs.Standing.{segment_turned, MayStand, clear, next, prev}
use Rattle.apart_laws.specs.Standing.{stands}
use Rattle.sight_spec.specs.Isovist.{no_segment}
use Rattle.front_laws.proofs.Tests.{both_true, none_some, by_cases, some_same, same_tested, clash_to, by_lt, mapped_at}
use Rattle.front_laws.specs.Seen.{spans, side_of, Seen, seen_of, seen_at}
use Rattle.apart_laws.specs.Standing.{PassesThrough}

-- the point is on the segment, at none of its ends
pub record IsWithinOne (c x y : Point) : Type 0 where
  pub on : is_on_segment c x y ≡ true
  pub not_first : same_point c x ≡ false
  pub not_last : same_point c y ≡ false

off_ends : (o a b l : Bool) → ((o && (not a && not b)) && l) ≡ true → (o ≡ true) × ((a ≡ false) × (b ≡ false))
off_ends o a b l h = (first o a b l h, (second o a b l h, third o a b l h))
  where
    first : (o a b l : Bool) → ((o && (not a && not b)) && l) ≡ true → o ≡ true
    first o a b l h = grind arith

    second : (o a b l : Bool) → ((o && (not a && not b)) && l) ≡ true → a ≡ false
    second o a b l h = grind arith

    third : (o a b l : Bool) → ((o && (not a && not b)) && l) ≡ true → b ≡ false
    third o a b l h = grind arith

-- what leaves a wall stands on it, at none of its ends
of_leaves : (c p : Point) (w : Segment) → starts_into_wall c p w ≡ true → IsWithinOne c w.a w.b
unfolding starts_into_wall
of_leaves c p w h =
    let r = off_ends (is_on_edge c w) (same_point c w.a) (same_point c w.b) (is_left_of_line w.a w.b p) h in
    record { on = r.0; not_first = r.1.0; not_last = r.1.1 }

faces_by : (p c : Point) (w : Segment) → int_lt (pos 0) (cross_of (vector p w.a) (vector p w.b)) ≡ true
    → spans (vector p c) (record { from = vector p w.a; to = vector p w.b }) ≡ true
    → int_eq (side_of (record { from = vector p w.a; to = vector p w.b }) (vector p c)) (pos 0) ≡ true
    → faces_where p c w ≡ true
unfolding faces_where
faces_by p c w up spanned on = both_true _ _ up (both_true _ _ spanned on)

turned_on : (c x y : Point) → IsWithinOne c x y → IsWithinOne c y x
turned_on c x y w = record { on = segment_turned c x y ∙ w.on; not_first = w.not_last; not_last = w.not_first }

-- a wall that the direction to c spans and that has c on its line has c on it, at none of its ends
passes_at : (p c : Point) (f : Segment) (s : Seen) → seen_of p f ≡ Some s → spans (vector p c) s ≡ true
    → int_eq (side_of s (vector p c)) (pos 0) ≡ true → IsWithinOne c f.a f.b
unfolding seen_of
passes_at p c f s h spanned on =
    let a = vector p f.a in let b = vector p f.b in
    by_cases (int_lt (pos 0) (cross_of a b))
    (λ k. let e = some_same (record { from = a; to = b }) s
    (sym (ap (λ t. cond t (Some (record { from = a; to = b }))
    (cond (int_lt (cross_of a b) (pos 0)) (Some (record { from = b; to = a })) None)) k) ∙ h) in
    of_leaves c p f (leaves_where p c f ∙ faces_by p c f k (subst (λ t. spans (vector p c) t ≡ true) (sym e) spanned)
    (subst (λ t. int_eq (side_of t (vector p c)) (pos 0) ≡ true) (sym e) on)))
    (λ k. by_cases (int_lt (cross_of a b) (pos 0))
    (λ l. let e = some_same (record { from = b; to = a }) s
    (sym (ap (λ t. cond t (Some (record { from = a; to = b }))
    (cond (int_lt (cross_of a b) (pos 0)) (Some (record { from = b; to = a })) None)) k
    ∙ ap (λ t. cond t (Some (record { from = b; to = a })) None) l) ∙ h) in
    let w : Segment = record { a = f.b; b = f.a } in
    turned_on c f.b f.a (of_leaves c p w (leaves_where p c w
    ∙ faces_by p c w (turned a b l) (subst (λ t. spans (vector p c) t ≡ true) (sym e) spanned)
    (subst (λ t. int_eq (side_of t (vector p c)) (pos 0) ≡ true) (sym e) on))))
    (λ l. none_some s (sym (ap (λ t. cond t (Some (record { from = a; to = b }))
    (cond (int_lt (cross_of a b) (pos 0)) (Some (record { from = b; to = a })) None)) k
    ∙ ap (λ t. cond t (Some (record { from = b; to = a })) None) l) ∙ h)))
  where
    turned : (a b : Point) → int_lt (cross_of a b) (pos 0) ≡ true → int_lt (pos 0) (cross_of b a) ≡ true
    turned a b h = positive_tested (cross_of b a) (omega (arith, ints, h))

-- ---- edges

pub same_self : (c : Point) → same_point c c ≡ true
same_self c = both_true (int_eq c.x c.x) (int_eq c.y c.y) (same_tested c.x) (same_tested c.y)

pub at_first : {P : Type 0} (c x y : Point) → c ≡ x → IsWithinOne c x y → P
at_first c x y e w = clash_to (same_point c x) (subst (λ t. same_point c t ≡ true) e (same_self c)) w.not_first

pub at_last : {P : Type 0} (c x y : Point) → c ≡ y → IsWithinOne c x y → P
at_last c x y e w = clash_to (same_point c y) (subst (λ t. same_point c t ≡ true) e (same_self c)) w.not_last

none_of : (x a b c d : Bool) → (x || ((a || b) || (c || d))) ≡ false → (a ≡ false)
    × ((b ≡ false) × ((c ≡ false) × (d ≡ false)))
none_of x a b c d h = (one x a b c d h, (two x a b c d h, (three x a b c d h, four x a b c d h)))
  where
    one : (x a b c d : Bool) → (x || ((a || b) || (c || d))) ≡ false → a ≡ false
    one x a b c d h = grind arith

    two : (x a b c d : Bool) → (x || ((a || b) || (c || d))) ≡ false → b ≡ false
    two x a b c d h = grind arith

    three : (x a b c d : Bool) → (x || ((a || b) || (c || d))) ≡ false → c ≡ false
    three x a b c d h = grind arith

    four : (x a b c d : Bool) → (x || ((a || b) || (c || d))) ≡ false → d ≡ false
    four x a b c d h = grind arith

-- no end of the first edge lies within the second, nor the other way round
pub ends_off : (u v x y : Point) → MayStand u v x y → ((IsWithinOne u x y → ⊥) × (IsWithinOne v x y → ⊥))
    × ((IsWithinOne x u v → ⊥) × (IsWithinOne y u v → ⊥))
unfolding do_touch
ends_off u v x y (clear h) =
    let n = none_of (cross_properly u v x y) (is_on_segment u x y) (is_on_segment v x y) (is_on_segment x u v)
    (is_on_segment y u v) h in (
      ((λ w. clash_to (is_on_segment u x y) w.on n.0), (λ w. clash_to (is_on_segment v x y) w.on n.1.0)),
      ((λ w. clash_to (is_on_segment x u v) w.on n.1.1.0), (λ w. clash_to (is_on_segment y u v) w.on n.1.1.1)),
    )
ends_off u v x y (next e off off_too) = (
  ((λ w. clash_to (is_on_segment u x y) w.on off), (λ w. at_first v x y e w)),
  ((λ w. at_last x u v (sym e) w), (λ w. clash_to (is_on_segment y u v) w.on off_too)),
)
ends_off u v x y (prev e off off_too) = (
  ((λ w. at_last u x y (sym e) w), (λ w. clash_to (is_on_segment v x y) w.on off_too)),
  ((λ w. clash_to (is_on_segment x u v) w.on off), (λ w. at_first y u v e w)),
)

-- the ends are the vectors to the wall's ends, in one order or the other
pub by_ends : (P : Point → Type 0) (p : Point) (w : Segment) (t : Seen) → P (vector p w.a) → P (vector p w.b)
    → seen_of p w ≡ Some t → (P t.from) × (P t.to)
unfolding seen_of
by_ends P p w t first last h =
    let a = vector p w.a in let b = vector p w.b in
    by_cases (int_lt (pos 0) (cross_of a b))
    (λ k. subst (λ s. (P s.from) × (P s.to)) (some_same (record { from = a; to = b }) t
    (sym (ap (λ t. cond t (Some (record { from = a; to = b }))
    (cond (int_lt (cross_of a b) (pos 0)) (Some (record { from = b; to = a })) None)) k) ∙ h)) (first, last))
    (λ k. by_cases (int_lt (cross_of a b) (pos 0))
    (λ l. subst (λ s. (P s.from) × (P s.to)) (some_same (record { from = b; to = a }) t
    (sym (ap (λ t. cond t (Some (record { from = a; to = b }))
    (cond (int_lt (cross_of a b) (pos 0)) (Some (record { from = b; to = a })) None)) k
    ∙ ap (λ t. cond t (Some (record { from = b; to = a })) None) l) ∙ h)) (last, first))
    (λ l. none_some t (sym (ap (λ t. cond t (Some (record { from = a; to = b }))
    (cond (int_lt (cross_of a b) (pos 0)) (Some (record { from = b; to = a })) None)) k
    ∙ ap (λ t. cond t (Some (record { from = b; to = a })) None) l) ∙ h)))

-- ---- of a plan

-- a line that the direction to an end of another spans doesn't pass through that end
pub none_through : (plan : Plan) (p : Point) (i j : ℕ) (s t : Seen) → is_sound plan ≡ true → i ≢ j
    → i < length (blockers_of_scene (scene_of plan)) → j < length (blockers_of_scene (scene_of plan))
    → seen_at p (blockers_of_scene (scene_of plan)) i ≡ Some s → seen_at p (blockers_of_scene (scene_of plan)) j
    ≡ Some t
    → (spans t.from s ≡ true → int_eq (side_of s t.from) (pos 0) ≡ true → ⊥)
    × (spans t.to s ≡ true → int_eq (side_of s t.to) (pos 0) ≡ true → ⊥)
none_through plan p i j s t sound other i_lt j_lt s_is t_is =
    by_ends (λ v. spans v s ≡ true → int_eq (side_of s v) (pos 0) ≡ true → ⊥) p f t
    (λ spanned on. off.0 (passes_at p f.a e s e_is spanned on))
    (λ spanned on. off.1 (passes_at p f.b e s e_is spanned on)) f_is
  where
    many : length (blockers_of_scene (scene_of plan)) ≡ length (edges_of_plan plan)
    many = sym (same_length (seen_of p) (blockers_of_scene (scene_of plan))) ∙ ap length (plan_seen p plan)
        ∙ same_length (seen_of p) (edges_of_plan plan)

    i_in : i < length (edges_of_plan plan)
    i_in = subst (λ n. i < n) many i_lt

    j_in : j < length (edges_of_plan plan)
    j_in = subst (λ n. j < n) many j_lt

    e : Segment
    e = get_or (edges_of_plan plan) i no_segment

    f : Segment
    f = get_or (edges_of_plan plan) j no_segment

    e_is : seen_of p e ≡ Some s
    e_is = sym (mapped_at (seen_of p) (edges_of_plan plan) i no_segment None i_in)
        ∙ ap (λ xs. get_or xs i None) (sym (plan_seen p plan)) ∙ s_is

    f_is : seen_of p f ≡ Some t
    f_is = sym (mapped_at (seen_of p) (edges_of_plan plan) j no_segment None j_in)
        ∙ ap (λ xs. get_or xs j None) (sym (plan_seen p plan)) ∙ t_is

    off : (IsWithinOne f.a e.a e.b → ⊥) × (IsWithinOne f.b e.a e.b → ⊥)
    off = by_lt i j
        (λ lt. (ends_off e.a e.b f.a f.b (may_of e f (two_at stands (edges_of_plan plan) i j no_segment
        (plan_stands plan sound) lt j_in))).1)
        (λ ge. (ends_off f.a f.b e.a e.b (may_of f e (two_at stands (edges_of_plan plan) j i no_segment
        (plan_stands plan sound) (below ge) i_in))).0)
      where
        below : j ≤ i → j < i
        below ge = by_lt j i (λ lt. lt) (λ le. absurd (other (omega (arith, ge, le))))

-- ---- as the contracts state it

pub not_at_first : (plan : Plan) (p : Point) (i j : ℕ) (s t : Seen) → is_sound plan ≡ true → i ≢ j
    → i < length (blockers_of_scene (scene_of plan)) → j < length (blockers_of_scene (scene_of plan))
    → seen_at p (blockers_of_scene (scene_of plan)) i ≡ Some s
    → seen_at p (blockers_of_scene (scene_of plan)) j ≡ Some t → PassesThrough s t.from → false ≡ true
not_at_first plan p i j s t sound other i_in j_in s_is t_is h =
    absurd ((none_through plan p i j s t sound other i_in j_in s_is t_is).0 h.spanned h.on_line)

pub not_at_last : (plan : Plan) (p : Point) (i j : ℕ) (s t : Seen) → is_sound plan ≡ true → i ≢ j
    → i < length (blockers_of_scene (scene_of plan)) → j < length (blockers_of_scene (scene_of plan))
    → seen_at p (blockers_of_scene (scene_of plan)) i ≡ Some s
    → seen_at p (blockers_of_scene (scene_of plan)) j ≡ Some t → PassesThrough s t.to → false ≡ true
not_at_last plan p i j s t sound other i_in j_in s_is t_is h =
    absurd ((none_through plan p i j s t sound other i_in j_in s_is t_is).1 h.spanned h.on_line)
