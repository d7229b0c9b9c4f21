-- A point is inside no obstacle whose box it isn't in.
use Rattle.std.proofs.Common.{◌≡◌, ◌∙◌, Bool, true, false, ℕ, ◌<◌, List, length, get_or, Some, arith, refl, sym, ap}
use Rattle.std.proofs.lemmas.Int.{ints}
use Rattle.std.proofs.lemmas.List.{get_or-map, length-map}
use Rattle.plane_spec.specs.declared.Point.{Point}
use Rattle.plane_spec.specs.declared.PlanBox.{PlanBox}
use Rattle.plane_spec.specs.Boxes.{box_of_points}
use Rattle.plane_spec.specs.Polygons.{is_inside}
use Rattle.plan_spec.specs.Plan.{Obstacle}
use Rattle.box_laws.specs.Boxes.{IsIn}
use Rattle.box_laws.proofs.Held.{held_in}
use Rattle.box_laws.proofs.Within.{inside_in}
use Rattle.vga_grid.specs.Openness.{AreBoxesOf, box_of_obstacle, is_in_box}

-- ---- the boxes of obstacles

-- as many boxes as obstacles
pub as_many : (obstacles : List Obstacle) (boxes : List PlanBox) → AreBoxesOf obstacles boxes
    → length boxes ≡ length obstacles
as_many obstacles boxes e = sym (length-map boxes Some) ∙ ap length e ∙ length-map obstacles box_of_obstacle

-- each is the one of its obstacle
pub box_at : (obstacles : List Obstacle) (boxes : List PlanBox) (k : ℕ) (o : Obstacle) (area : PlanBox)
    → AreBoxesOf obstacles boxes → k < length obstacles
    → box_of_points (get_or obstacles k o).points ≡ Some (get_or boxes k area)
box_at obstacles boxes k o area e within =
    let here : k < length boxes = rw (as_many obstacles boxes e) within in
    sym (get_or-map box_of_obstacle obstacles k o (Some area) within)
    ∙ sym (ap (λ found. get_or found k (Some area)) e)
    ∙ get_or-map Some boxes k area (Some area) here

-- ---- inside

-- the test of a box passes what is in it
passes : (x : Point) (area : PlanBox) → IsIn area x → is_in_box x area ≡ true
passes x area i =
    let left = i.left in
    let right = i.right in
    let below = i.below in
    let above = i.above in
    grind (arith, ints)

-- what the test of a polygon's box fails of isn't inside the polygon
pub outside : (x : Point) (points : List Point) (area : PlanBox) → box_of_points points ≡ Some area
    → is_in_box x area ≡ false → is_inside x points ≡ false
outside x points area e h = by (is_inside x points) (λ i. passes x area (inside_in x points area (held_in points area e) i))
  where
    clash : is_in_box x area ≡ true → ⊥
    clash t = cc

    by : (t : Bool) → (t ≡ true → is_in_box x area ≡ true) → t ≡ false
    by false f = refl
    by true f = absurd (clash (f refl))
