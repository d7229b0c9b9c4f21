-- What is in the way of a segment, looked for in the order of the code.
use Rattle.std.proofs.Common.{◌≡◌, Bool, true, false, not, ◌&&◌, ◌||◌, List, [], ◌∷◌, ◌++◌, ℤ, pos, neg_ℤ, refl, sym, ap, ◌∙◌, arith}
use Rattle.std.specs.Prelude.{int_le}
use Rattle.std.specs.Ordering.{int_eq}
use Rattle.std.specs.List.{list_any}
use Rattle.std.proofs.lemmas.Int.{ints}
use Rattle.std.proofs.lemmas.Bool.Decides.{Decides-int_eq, same_from_decides, Decides-like}
use Rattle.plane_spec.specs.declared.Point.{Point}
use Rattle.plane_spec.specs.declared.Corner.{Corner}
use Rattle.plane_spec.specs.Vectors.{vector, orient_of, same_point}
use Rattle.plane_spec.specs.Segments.{is_between, is_on_segment}
use Rattle.plane_spec.specs.Cones.{is_in_cone}
use Rattle.sight_spec.specs.Scene.{Scene}
use Rattle.sight_spec.specs.Sight.{crosses, starts_or_ends_in_wall, corner_stops, corner_blocks, is_blocked}
use Rattle.sight_core.specs.Blocks.{wall_blocks, blocks_towards}
use Rattle.exact_geom.proofs.Orientation.{orient_of_first_exchanged}

pub or_turned : (x y : Bool) → (x || y) ≡ (y || x)
or_turned true true = refl
or_turned true false = refl
or_turned false true = refl
or_turned false false = refl

between-turned : (m a b : ℤ) → is_between m b a ≡ is_between m a b
between-turned m a b = or_turned (int_le b m && int_le m a) (int_le a m && int_le m b)

zero-turned : (z : ℤ) → int_eq (neg_ℤ z) (pos 0) ≡ int_eq z (pos 0)
zero-turned z =
    same_from_decides (int_eq (neg_ℤ z) (pos 0)) (int_eq z (pos 0)) (Decides-int_eq (neg_ℤ z) (pos 0))
    (Decides-like (int_eq z (pos 0)) (λ e. omega (arith, ints)) (λ e. omega (arith, ints)) (Decides-int_eq z (pos 0)))

-- a segment has the same points from either end
pub on-turned : (x p q : Point) → is_on_segment x q p ≡ is_on_segment x p q
unfolding is_on_segment
on-turned x p q =
    rw (orient_of_first_exchanged p q x, zero-turned (orient_of p q x))
    (ap (λ t. int_eq (orient_of p q x) (pos 0) && (t && is_between x.y q.y p.y)) (between-turned x.x p.x q.x)
    ∙ ap (λ t. int_eq (orient_of p q x) (pos 0) && (is_between x.x p.x q.x && t)) (between-turned x.y p.y q.y))

stops_by : (there on cone : Bool) → (there && (on && cone)) ≡ (on && (there && cone))
stops_by true on cone = refl
stops_by false true cone = refl
stops_by false false cone = refl

and_or : (x y z : Bool) → ((x && y) || (x && z)) ≡ (x && (y || z))
and_or true y z = refl
and_or false y z = refl

stops_is : (p q : Point) (c : Corner) → corner_stops p q c ≡ (is_on_segment c.here p q && blocks_towards q c)
unfolding corner_stops blocks_towards
stops_is p q c = stops_by (not (same_point c.here q)) (is_on_segment c.here p q) (is_in_cone c (vector c.here q))

-- a corner is in the way where it is on the segment, and has the direction to one of the ends in its cone
pub corner_blocks_is : (p q : Point) (c : Corner) → corner_blocks p q c ≡ (is_on_segment c.here p q && (blocks_towards q c || blocks_towards p c))
corner_blocks_is p q c =
    rw (stops_is p q c, stops_is q p c, on-turned c.here p q) (and_or (is_on_segment c.here p q) (blocks_towards q c) (blocks_towards p c))

-- ---- one pass for two tests

both_by : (x y s t : Bool) → ((x || s) || (y || t)) ≡ ((x || y) || (s || t))
both_by true y s t = refl
both_by false true true t = refl
both_by false true false t = refl
both_by false false s t = refl

pub any-or : {X : Type 0} (f g : X → Bool) (xs : List X) → (list_any f xs || list_any g xs) ≡ list_any (λ x. f x || g x) xs
any-or f g [] = refl
any-or f g (x ∷ xs) = both_by (f x) (g x) (list_any f xs) (list_any g xs) ∙ ap (λ t. (f x || g x) || t) (any-or f g xs)

or_grouped : (x y z : Bool) → ((x || y) || z) ≡ (x || (y || z))
or_grouped true y z = refl
or_grouped false y z = refl

pub any-append : {X : Type 0} (f : X → Bool) (xs ys : List X) → list_any f (xs ++ ys) ≡ (list_any f xs || list_any f ys)
any-append f [] ys = refl
any-append f (x ∷ xs) ys = ap (λ t. f x || t) (any-append f xs ys) ∙ sym (or_grouped (f x) (list_any f xs) (list_any f ys))

ordered_by : (w s e c : Bool) → ((w || s) || (e || c)) ≡ (((w || e) || s) || c)
ordered_by true s e c = refl
ordered_by false true true c = refl
ordered_by false true false c = refl
ordered_by false false true c = refl
ordered_by false false false c = refl

-- the walls, then the screens, then the corners
pub is_blocked_is : (scene : Scene) (p q : Point) → is_blocked scene p q
    ≡ ((list_any (wall_blocks p q) scene.walls || list_any (crosses p q) scene.screens) || list_any (corner_blocks p q) scene.corners)
unfolding is_blocked
is_blocked_is scene p q =
    let walls = any-or (crosses p q) (starts_or_ends_in_wall p q) scene.walls in
    let corners = list_any (corner_blocks p q) scene.corners in
    ap (λ t. t || (list_any (starts_or_ends_in_wall p q) scene.walls || corners)) (any-append (crosses p q) scene.walls scene.screens)
    ∙ ordered_by (list_any (crosses p q) scene.walls) (list_any (crosses p q) scene.screens) (list_any (starts_or_ends_in_wall p q) scene.walls) corners
    ∙ ap (λ t. (t || list_any (crosses p q) scene.screens) || corners) walls
