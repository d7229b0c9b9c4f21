-- An obstacle that is moved in the table is moved in the plan.
use Rattle.std.specs.Prelude.{◌≡◌, ℕ, ℤ, Bool, true, false, cond, IsSome, List, [], ◌∷◌, map, Some, if◌then◌else◌}
use Rattle.std.specs.List.{All, IsDistinct}
use Rattle.std.specs.Map.{lookup, keys_of}
use Rattle.std.specs.Str.{bytes_eq}
use Rattle.std.proofs.Common.{refl, sym, ap, ◌∙◌, subst}
use Rattle.std.proofs.lemmas.Option.{same_Some}
use Rattle.std.proofs.lemmas.List.Elements.{All-head, All-tail}
use Rattle.indexmap.specs.IndexMap.{IndexMap, insert_entry, ContainsKey}
use Rattle.indexmap.proofs.CallerLemmas.{keys-insert_entry-present}
use Rattle.plane_spec.specs.declared.Point.{Point}
use Rattle.plan_spec.specs.Plan.{Obstacle, is_obstacle_named}
use Rattle.plan_spec.specs.Edits.{shifted_point, shifted_obstacle}
use Rattle.plan_check.specs.Kept.{obstacle_of_entry}
use Rattle.plan_check.proofs.Tables.{one_changed}

-- what holds of the points of all obstacles holds of those that are found
pub found_in_all : (P : List Point → Type 0) (name : List ℕ) (es : List (List ℕ × List Point)) (v : List Point)
    → All (λ (o : Obstacle). P o.points) (map obstacle_of_entry es) → lookup (bytes_eq name) es ≡ Some v → P v
found_in_all P name [] v all h = cc
found_in_all P name (e ∷ es) v all h =
    by (bytes_eq name e.0) (All-head (λ (o : Obstacle). P o.points) (obstacle_of_entry e) (map obstacle_of_entry es) all)
    (found_in_all P name es v (All-tail (λ (o : Obstacle). P o.points) (obstacle_of_entry e) (map obstacle_of_entry es) all)) h
  where
    by : (t : Bool) → P e.1 → (lookup (bytes_eq name) es ≡ Some v → P v) → cond t (Some e.1) (lookup (bytes_eq name) es) ≡ Some v → P v
    by true here rest h = subst P (same_Some e.1 v h) here
    by false here rest h = rest h

pub moved_is : {S : Type 0} (m : IndexMap (List ℕ) (List Point) S) (name key : List ℕ) (v w : List Point) (new : List (List ℕ × List Point)) (dx dy : ℤ)
    → lookup (bytes_eq name) m.entries ≡ Some v → key ≡ name → w ≡ map (shifted_point dx dy) v → new ≡ insert_entry bytes_eq m.entries key w → IsDistinct bytes_eq (keys_of new)
    → map obstacle_of_entry new ≡ map (λ o. if is_obstacle_named name o then shifted_obstacle dx dy o else o) (map obstacle_of_entry m.entries)
moved_is m name key v w new dx dy found same is_moved is distinct =
    let is_new : new ≡ insert_entry bytes_eq m.entries name (map (shifted_point dx dy) v) =
    is ∙ ap (λ k. insert_entry bytes_eq m.entries k w) same ∙ ap (λ u. insert_entry bytes_eq m.entries name u) is_moved in
    let there : ContainsKey bytes_eq m name = subst IsSome (sym found) refl in
    let keys = ap keys_of is_new ∙ keys-insert_entry-present bytes_eq m name (map (shifted_point dx dy) v) there in
    let before : IsDistinct bytes_eq (keys_of m.entries) = subst (IsDistinct bytes_eq) keys distinct in
    ap (map obstacle_of_entry) is_new
    ∙ sym (one_changed obstacle_of_entry (is_obstacle_named name) name (λ e. refl) (shifted_obstacle dx dy) m.entries v (map (shifted_point dx dy) v) (λ k. refl) before found)
