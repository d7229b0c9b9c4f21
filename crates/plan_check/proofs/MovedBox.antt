-- The least box of points that are moved is the box moved.
use Rattle.std.specs.Prelude.{◌≡◌, ℤ, ◌+ℤ◌, Bool, true, false, cond, int_lt, List, [], ◌∷◌, map, Some}
use Rattle.std.specs.Option.{option_map}
use Rattle.std.specs.Int.{int_min, int_max}
use Rattle.std.proofs.Common.{refl, ap, ◌∙◌}
use Rattle.plane_spec.specs.declared.Point.{Point}
use Rattle.plane_spec.specs.declared.PlanBox.{PlanBox}
use Rattle.plane_spec.specs.Boxes.{with_point, with_points, box_of_points}
use Rattle.plan_spec.specs.Edits.{shifted_point}
use Rattle.plan_laws.proofs.Shifts.{lt_shifted}
use Rattle.plan_spec.specs.Edits.{shifted_box}

either_shifted : (t : Bool) (a b d : ℤ) → cond t (a +ℤ d) (b +ℤ d) ≡ cond t a b +ℤ d
either_shifted true a b d = refl
either_shifted false a b d = refl

min_shifted : (a b d : ℤ) → int_min (a +ℤ d) (b +ℤ d) ≡ int_min a b +ℤ d
min_shifted a b d = ap (λ t. cond t (b +ℤ d) (a +ℤ d)) (lt_shifted b a d) ∙ either_shifted (int_lt b a) b a d

max_shifted : (a b d : ℤ) → int_max (a +ℤ d) (b +ℤ d) ≡ int_max a b +ℤ d
max_shifted a b d = ap (λ t. cond t (a +ℤ d) (b +ℤ d)) (lt_shifted b a d) ∙ either_shifted (int_lt b a) a b d

with_point_shifted : (dx dy : ℤ) (area : PlanBox) (p : Point) → with_point (shifted_box dx dy area) (shifted_point dx dy p) ≡ shifted_box dx dy (with_point area p)
with_point_shifted dx dy area p =
    rw (min_shifted area.low.x p.x dx, min_shifted area.low.y p.y dy, max_shifted area.high.x p.x dx, max_shifted area.high.y p.y dy) refl

with_points_shifted : (dx dy : ℤ) (area : PlanBox) (points : List Point)
    → with_points (shifted_box dx dy area) (map (shifted_point dx dy) points) ≡ shifted_box dx dy (with_points area points)
unfolding with_points
with_points_shifted dx dy area [] = refl
with_points_shifted dx dy area (p ∷ points) =
    ap (λ a. with_points a (map (shifted_point dx dy) points)) (with_point_shifted dx dy area p) ∙ with_points_shifted dx dy (with_point area p) points

pub box_shifted : (dx dy : ℤ) (points : List Point) → box_of_points (map (shifted_point dx dy) points) ≡ option_map (shifted_box dx dy) (box_of_points points)
box_shifted dx dy [] = refl
box_shifted dx dy (p ∷ points) = ap Some (with_points_shifted dx dy (record { low = p; high = p }) points)
