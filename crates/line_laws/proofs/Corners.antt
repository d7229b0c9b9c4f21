-- The corner of a number.
use Rattle.std.proofs.Common.{◌≡◌, ◌∙◌, ℕ, zero, suc, ◌+◌, List, [], ◌∷◌, map, refl, ap, subst, arith}
use Rattle.std.specs.Prelude.{drop}
use Rattle.std.specs.List.{All, enumerate_from}
use Rattle.std.proofs.lemmas.List.Elements.{All-nil, All-cons}
use Rattle.plane_spec.specs.declared.Point.{Point}
use Rattle.plane_spec.specs.declared.Corner.{Corner}
use Rattle.sight_spec.specs.Scene.{Scene}
use Rattle.sight_spec.specs.Axial.{here_of}
use Rattle.sight_spec.specs.Dirty.{corner_point}

-- the corner of a number, by what is left of the corners there
at_number : (scene : Scene) (k : ℕ) (c : Corner) (corners : List Corner) → drop k scene.corners ≡ c ∷ corners
    → corner_point scene k ≡ c.here
at_number scene k c corners e =
    ap (λ left. corner_point (record { walls = scene.walls; screens = scene.screens; corners = left }) 0) e

-- what is left one further on
drop_more : {X : Type 0} (k : ℕ) (x : X) (xs ys : List X) → drop k xs ≡ x ∷ ys → drop (k + 1) xs ≡ ys
drop_more k x xs ys e = ap (λ n. drop n xs) (plain k) ∙ one_more k xs ∙ ap (drop 1) e
  where
    plain : (k : ℕ) → k + 1 ≡ suc k
    plain k = omega arith

    one_more : {X : Type 0} (k : ℕ) (xs : List X) → drop (suc k) xs ≡ drop 1 (drop k xs)
    one_more zero xs = refl
    one_more (suc k) [] = refl
    one_more (suc k) (x ∷ xs) = one_more k xs

-- corners numbered from k on
corners_from : (scene : Scene) (k : ℕ) (corners : List Corner) → drop k scene.corners ≡ corners
    → All (λ n. corner_point scene n.0 ≡ n.1) (enumerate_from k (map here_of corners))
corners_from scene k [] e = All-nil (λ n. corner_point scene n.0 ≡ n.1)
corners_from scene k (c ∷ corners) e =
    All-cons (λ n. corner_point scene n.0 ≡ n.1) (k, c.here) (enumerate_from (k + 1) (map here_of corners))
    (at_number scene k c corners e)
    (corners_from scene (k + 1) corners (drop_more k c scene.corners corners e))

-- each corner has its number
pub corners_known : (scene : Scene) (points : List Point) → map here_of scene.corners ≡ points
    → All (λ n. corner_point scene n.0 ≡ n.1) (enumerate_from 0 points)
corners_known scene points e =
    subst (λ ps. All (λ n. corner_point scene n.0 ≡ n.1) (enumerate_from 0 ps)) e
    (corners_from scene 0 scene.corners refl)
