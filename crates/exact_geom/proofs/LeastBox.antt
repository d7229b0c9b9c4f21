-- The least box, point by point.
use Rattle.std.proofs.Common.{◌≡◌, ◌≤◌, ◌<◌, ◌+◌, ℕ, List, length, drop, get_or, refl, add-one, drop-cons}
use Rattle.std.proofs.lemmas.List.{drop_all}
use Rattle.plane_spec.specs.declared.Point.{Point}
use Rattle.plane_spec.specs.declared.PlanBox.{PlanBox}
use Rattle.plane_spec.specs.Boxes.{with_point, with_points}

-- one point more
pub next_point : (area : PlanBox) (points : List Point) (k : ℕ) (d : Point) → k < length points
    → with_points (with_point area (get_or points k d)) (drop (k + 1) points) ≡ with_points area (drop k points)
unfolding with_points
next_point area points k d h = rw (drop-cons points k d, add-one) refl

-- no point is left past the last
pub none_left : (area : PlanBox) (points : List Point) (k : ℕ) → length points ≤ k → with_points area (drop k points) ≡ area
unfolding with_points
none_left area points k h = rw (drop_all k points h) refl
