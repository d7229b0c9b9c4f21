-- The first of the least, sought one after another and part by part.
use Rattle.std.proofs.Common.{◌≡◌, ℕ, suc, add-one, ◌<◌, ◌≤◌, ◌+◌, List, [], ◌∷◌, ◌++◌, length, drop, get_or, refl, sym, ap, ◌∙◌}
use Rattle.std.specs.Prelude.{Bool, true, false, Option, Some, None, if◌then◌else◌}
use Rattle.std.specs.List.{best_of, filter_map, cons_option}
use Rattle.std.proofs.lemmas.List.{drop_all}
use Rattle.std.proofs.Math.Seq.{drop-cons}
use Rattle.std.proofs.lemmas.List.Elements.{filter_map-append}
use Rattle.plane_spec.specs.declared.Point.{Point}
use Rattle.plane_spec.specs.Lists.{min_by}
use Rattle.plane_spec.specs.Fractions.{Fraction, is_before}
use Rattle.sight_spec.specs.Scene.{Scene, blockers_of_scene}
use Rattle.sight_spec.specs.Stops.{blocker_hit, corner_hit, start_hit, hits_of, nearer}
use Rattle.sight_core.specs.Hits.{min_from, nearest_line_of, nearest_of}

-- with none before
from_none : (hits : List Fraction) → min_from None hits ≡ min_by is_before hits
unfolding min_from
from_none hits = refl

-- none is left
pub min_from-nil : (best : Option Fraction) → min_from best [] ≡ best
unfolding min_from
min_from-nil None = refl
min_from-nil (Some best) = refl

-- the better of two, and then the hits after it
best_from : (better : Bool) (hit best : Fraction) (hits : List Fraction)
    → Some (best_of is_before (if better then hit else best) hits) ≡ min_from (if better then Some hit else Some best) hits
unfolding min_from
best_from true hit best hits = refl
best_from false hit best hits = refl

-- the next hit
min_from-cons : (best : Option Fraction) (hit : Fraction) (hits : List Fraction) → min_from best (hit ∷ hits) ≡ min_from (nearer best (Some hit)) hits
unfolding min_from
min_from-cons None hit hits = refl
min_from-cons (Some best) hit hits = best_from (is_before hit best) hit best hits

nearer-none : (best : Option Fraction) → nearer best None ≡ best
nearer-none None = refl
nearer-none (Some best) = refl

min_from-option : {X : Type 0} (f : X → Option Fraction) (best : Option Fraction) (x : X) (xs : List X)
    → min_from best (filter_map f (x ∷ xs)) ≡ min_from (nearer best (f x)) (filter_map f xs)
min_from-option f best x xs = by_hit (f x)
  where
    by_hit : (hit : Option Fraction) → min_from best (cons_option hit (filter_map f xs)) ≡ min_from (nearer best hit) (filter_map f xs)
    by_hit None = ap (λ t. min_from t (filter_map f xs)) (sym (nearer-none best))
    by_hit (Some hit) = min_from-cons best hit (filter_map f xs)

-- the next element of a list
pub least_from_more : {X : Type 0} (f : X → Option Fraction) (best : Option Fraction) (xs : List X) (k : ℕ) (d : X) → k < length xs
    → min_from best (filter_map f (drop k xs)) ≡ min_from (nearer best (f (get_or xs k d))) (filter_map f (drop (k + 1) xs))
least_from_more f best xs k d h =
    rw (drop-cons xs k d) (rw (add-one) (min_from-option f best (get_or xs k d) (drop (suc k) xs)))

-- no element is left
pub least_from_all : {X : Type 0} (f : X → Option Fraction) (best : Option Fraction) (xs : List X) (k : ℕ) → length xs ≤ k
    → min_from best (filter_map f (drop k xs)) ≡ best
least_from_all f best xs k h = rw (drop_all k xs h) (min_from-nil best)

-- two lists, one after the other
pub min_from-append : (best : Option Fraction) (xs ys : List Fraction) → min_from best (xs ++ ys) ≡ min_from (min_from best xs) ys
min_from-append best [] ys = ap (λ t. min_from t ys) (sym (min_from-nil best))
min_from-append best (x ∷ xs) ys =
    min_from-cons best x (xs ++ ys) ∙ min_from-append (nearer best (Some x)) xs ys ∙ ap (λ t. min_from t ys) (sym (min_from-cons best x xs))

-- the walls and then the screens
pub nearest_line_of_parts : (scene : Scene) (p d : Point) → nearest_line_of scene p d
    ≡ min_from (min_from None (filter_map (blocker_hit p d) scene.walls)) (filter_map (blocker_hit p d) scene.screens)
nearest_line_of_parts scene p d =
    sym (from_none (filter_map (blocker_hit p d) (blockers_of_scene scene)))
    ∙ ap (λ t. min_from None t) (filter_map-append (blocker_hit p d) scene.walls scene.screens)
    ∙ min_from-append None (filter_map (blocker_hit p d) scene.walls) (filter_map (blocker_hit p d) scene.screens)

-- the walls, the screens, the corners, and the walls again
pub nearest_of_parts : (scene : Scene) (p d : Point) → nearest_of scene p d
    ≡ min_from (min_from (min_from (min_from None (filter_map (blocker_hit p d) scene.walls)) (filter_map (blocker_hit p d) scene.screens))
    (filter_map (corner_hit p d) scene.corners)) (filter_map (start_hit p d) scene.walls)
nearest_of_parts scene p d =
    let lines = filter_map-append (blocker_hit p d) scene.walls scene.screens in
    let corners = filter_map (corner_hit p d) scene.corners in
    let starts = filter_map (start_hit p d) scene.walls in
    sym (from_none (hits_of scene p d))
    ∙ min_from-append None (filter_map (blocker_hit p d) (scene.walls ++ scene.screens)) (corners ++ starts)
    ∙ min_from-append (min_from None (filter_map (blocker_hit p d) (scene.walls ++ scene.screens))) corners starts
    ∙ ap (λ t. min_from (min_from (min_from None t) corners) starts) lines
    ∙ ap (λ t. min_from (min_from t corners) starts) (min_from-append None (filter_map (blocker_hit p d) scene.walls) (filter_map (blocker_hit p d) scene.screens))
