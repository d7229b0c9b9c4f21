-- What code must know of the axial lines of a sound plan: their numbers are corners', and their ends have small parts.
use Rattle.std.proofs.Common.{◌≡◌, ℕ, ◌+◌, ◌<◌, ◌≤◌, ℤ, lit≤, List, [], ◌∷◌, filter, map, length, All, Option, Some, None, arith, refl, sym, subst}
use Rattle.std.specs.List.{enumerate_from}
use Rattle.std.proofs.lemmas.Int.{ints}
use Rattle.std.proofs.lemmas.List.{length-map}
use Rattle.std.proofs.lemmas.List.Elements.{All-nil, All-cons, All-map, All-filter}
use Rattle.plane_spec.specs.declared.Point.{Point}
use Rattle.plane_spec.specs.declared.TheConstants.{MAX_COORDINATE}
use Rattle.plane_spec.specs.Lists.{pairs, distinct_by}
use Rattle.plane_spec.specs.Vectors.{InRange, IsWithin, IsDirection, vector}
use Rattle.plane_spec.specs.Fractions.{Fraction, whole}
use Rattle.exact_geom.specs.Parts.{HasCoordinateParts, HasRPointParts}
use Rattle.exact_geom.proofs.Along.{along_within}
use Rattle.exact_geom.proofs.Lowest.{within_more}
use Rattle.sight_spec.specs.Scene.{Scene}
use Rattle.sight_spec.specs.Stops.{stop_of}
use Rattle.sight_spec.specs.Axial.{here_of, end_by, line_through, is_seen_pair, axial_lines}
use Rattle.sight_core.specs.Scenes.{IsOfSoundPlan}
use Rattle.sight_core.proofs.Seen.{corners-in_range}
use Rattle.sight_core.proofs.StopBounds.{stop_is_small}
use Rattle.list_laws.proofs.Firsts.{firsts_hold}
use Rattle.list_laws.proofs.Numbers.{OfBoth, each_pair}
use Rattle.extent_laws.specs.Corners.{Pair}
use Rattle.line_laws.proofs.Updated.{lines_are, same_line}
use Rattle.axial_lines.specs.Found.{IsEndInRange}
use Rattle.axial_lines.specs.Removal.{IsKnownLine}
use Rattle.axial_lines.proofs.CornerPoints.{ends_in_range}

-- the direction between two points in range
direction : (p q : Point) → InRange p → InRange q → IsDirection (vector p q)
direction p q i j =
    record {
      x = record {
        low = omega (arith, ints, i.x.low, i.x.high, j.x.low, j.x.high);
        high = omega (arith, ints, i.x.low, i.x.high, j.x.low, j.x.high);
      };
      y = record {
        low = omega (arith, ints, i.y.low, i.y.high, j.y.low, j.y.high);
        high = omega (arith, ints, i.y.low, i.y.high, j.y.low, j.y.high);
      };
    }

-- a whole coordinate
whole_small : (z : ℤ) → IsWithin MAX_COORDINATE z → HasCoordinateParts (whole z)
whole_small z h =
    record {
      num = within_more _ _ z (lit≤ tt) h;
      den = record { low = omega (arith, ints); high = omega (arith, ints) };
    }

-- the end of a line
end_small : (scene : Scene) (p d : Point) → IsOfSoundPlan scene → InRange p → IsDirection d → (o : Option Fraction)
    → stop_of scene p d ≡ o → HasRPointParts (end_by p d o)
end_small scene p d sound i j None e = record { x = whole_small p.x i.x; y = whole_small p.y i.y }
end_small scene p d sound i j (Some t) e = along_within p d t i j (stop_is_small scene p d t sound i j e)

-- numbers counted from k on stay below k and how many they are
numbers_below : (n k : ℕ) (points : List Point) → k + length points ≤ n → All (λ m. m.0 < n) (enumerate_from k points)
numbers_below n k [] h = All-nil (λ m. m.0 < n)
numbers_below n k (p ∷ points) h =
    All-cons (λ m. m.0 < n) (k, p) (enumerate_from (k + 1) points) (omega arith)
    (numbers_below n (k + 1) points (omega arith))

-- the axial lines of a sound plan are known
pub lines_known : (scene : Scene) → IsOfSoundPlan scene → All (IsKnownLine scene) (axial_lines scene)
lines_known scene sound =
    let points = map here_of scene.corners in
    let es = pairs (enumerate_from 0 points) in
    let numbers = each_pair (λ m. m.0 < length scene.corners) (enumerate_from 0 points)
    (numbers_below (length scene.corners) 0 points (as_many (length-map scene.corners here_of))) in
    let places = each_pair IsEndInRange (enumerate_from 0 points)
    (ends_in_range 0 scene.corners (corners-in_range scene sound)) in
    subst (All (IsKnownLine scene)) (sym (lines_are scene points refl))
    (All-map (IsKnownLine scene) (line_through scene) (distinct_by (same_line scene) (filter (is_seen_pair scene) es))
    (firsts_hold (λ e. IsKnownLine scene (line_through scene e)) (same_line scene) [] (filter (is_seen_pair scene) es)
    (All-filter (is_seen_pair scene) (λ e. IsKnownLine scene (line_through scene e)) es
    (λ k d h. known _ (numbers k d h) (places k d h)))))
  where
    as_many : {m n : ℕ} → m ≡ n → 0 + m ≤ n
    as_many e = omega arith

    known : (e : Pair) → OfBoth (λ m. m.0 < length scene.corners) e → OfBoth IsEndInRange e
        → IsKnownLine scene (line_through scene e)
    known e n r =
        record {
          first = n.first;
          second = n.second;
          from = end_small scene e.0.1 (vector e.1.1 e.0.1) sound r.first (direction e.1.1 e.0.1 r.second r.first)
              (stop_of scene e.0.1 (vector e.1.1 e.0.1)) refl;
          to = end_small scene e.1.1 (vector e.0.1 e.1.1) sound r.second (direction e.0.1 e.1.1 r.first r.second)
              (stop_of scene e.1.1 (vector e.0.1 e.1.1)) refl;
        }
