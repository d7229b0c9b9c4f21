-- The corners of a scene, by their numbers.
use Rattle.std.proofs.Common.{◌≡◌, ◌∙◌, ℕ, suc, ◌+◌, ◌<◌, ◌≤◌, List, [], ◌∷◌, ◌++◌, map, length, drop, get_or, All, arith, sym, ap, append_assoc}
use Rattle.std.specs.List.{enumerate_from}
use Rattle.std.proofs.lemmas.List.{drop_all, append-nil, length-map}
use Rattle.std.proofs.lemmas.List.Elements.{All-map, All-weaker}
use Rattle.std.proofs.lemmas.List.FromFn.{length-enumerate_from}
use Rattle.std.proofs.Math.Seq.{drop-cons}
use Rattle.plane_spec.specs.declared.Point.{Point}
use Rattle.plane_spec.specs.declared.Corner.{Corner}
use Rattle.plane_spec.specs.Vectors.{InRange}
use Rattle.plane_spec.specs.Cones.{IsCornerInRange}
use Rattle.sight_spec.specs.Scene.{Scene}
use Rattle.sight_spec.specs.Axial.{here_of}
use Rattle.sight_spec.specs.Dirty.{corner_point}
use Rattle.list_laws.proofs.Numbers.{numbered_hold}
use Rattle.axial_lines.specs.Found.{IsEndInRange}

-- the corner at a place of the list
pub corner_at : (scene : Scene) (k : ℕ) (d : Corner) → k < length scene.corners
    → (get_or scene.corners k d).here ≡ corner_point scene k
corner_at scene k d h =
    sym (ap (λ left. corner_point (record { walls = scene.walls; screens = scene.screens; corners = left }) 0)
    (drop-cons scene.corners k d h))

-- corners in range stand at points in range
pub ends_in_range : (n : ℕ) (corners : List Corner) → All IsCornerInRange corners
    → All IsEndInRange (enumerate_from n (map here_of corners))
ends_in_range n corners all =
    numbered_hold InRange n (map here_of corners)
    (All-map InRange here_of corners
    (All-weaker IsCornerInRange (λ c. InRange (here_of c)) (λ c h. h.here) corners all))

-- as many as there are corners
pub as_many : (corners : List Corner) (ends : List (ℕ × Point)) → ends ≡ enumerate_from 0 (map here_of corners)
    → length ends ≡ length corners
as_many corners ends e =
    ap length e ∙ length-enumerate_from 0 (map here_of corners) ∙ length-map corners here_of

-- one after the other
pub next_numbered : (corners : List Corner) (ends : List (ℕ × Point)) (k : ℕ) (d : Corner) → k < length corners
    → (ends ++ (k, (get_or corners k d).here) ∷ []) ++ enumerate_from (k + 1) (map here_of (drop (k + 1) corners))
    ≡ ends ++ enumerate_from k (map here_of (drop k corners))
next_numbered corners ends k d h =
    append_assoc ends ((k, (get_or corners k d).here) ∷ [])
    (enumerate_from (k + 1) (map here_of (drop (k + 1) corners)))
    ∙ ap (λ n. ends ++ (k, (get_or corners k d).here) ∷ enumerate_from (k + 1) (map here_of (drop n corners))) (plain k)
    ∙ ap (λ cs. ends ++ enumerate_from k (map here_of cs)) (sym (drop-cons corners k d h))
  where
    plain : (k : ℕ) → k + 1 ≡ suc k
    plain k = omega arith

-- none is left
pub all_numbered : (corners : List Corner) (ends : List (ℕ × Point)) (k : ℕ) → length corners ≤ k
    → ends ++ enumerate_from k (map here_of (drop k corners)) ≡ ends
all_numbered corners ends k h =
    ap (λ cs. ends ++ enumerate_from k (map here_of cs)) (drop_all k corners h) ∙ append-nil ends
