-- Pairs that are stopped, one after the other.
use Rattle.std.proofs.Common.{◌≡◌, ◌∙◌, ℕ, suc, ◌+◌, ◌<◌, ◌≤◌, Bool, true, false, ◌&&◌, List, [], ◌∷◌, ◌++◌, filter, map, length, drop, get_or, pos, arith, refl, sym, ap}
use Rattle.std.specs.List.{list_all}
use Rattle.std.proofs.lemmas.List.{drop_all}
use Rattle.std.proofs.Math.Seq.{drop-cons}
use Rattle.plane_spec.specs.declared.Point.{Point}
use Rattle.plane_spec.specs.Lists.{pairs, with_each}
use Rattle.plane_spec.specs.Vectors.{point}
use Rattle.sight_spec.specs.Scene.{Scene}
use Rattle.sight_spec.specs.Axial.{is_seen_pair}
use Rattle.line_laws.specs.Lines.{is_stopped}
use Rattle.axial_lines.specs.Looks.{end_at}
use Rattle.axial_lines.specs.Removal.{is_stopped_if_seen}

plain : (k : ℕ) → suc k ≡ k + 1
plain k = omega arith

-- those that see each other are stopped exactly where all are that do so if they see each other
pub stopped_if_seen : (scene : Scene) (es : List ((ℕ × Point) × (ℕ × Point)))
    → list_all (is_stopped_if_seen scene) es ≡ list_all (is_stopped scene) (filter (is_seen_pair scene) es)
stopped_if_seen scene [] = refl
stopped_if_seen scene (e ∷ es) = by (is_seen_pair scene e) refl (stopped_if_seen scene es)
  where
    by : (t : Bool) → is_seen_pair scene e ≡ t
        → list_all (is_stopped_if_seen scene) es ≡ list_all (is_stopped scene) (filter (is_seen_pair scene) es)
        → list_all (is_stopped_if_seen scene) (e ∷ es)
        ≡ list_all (is_stopped scene) (filter (is_seen_pair scene) (e ∷ es))
    by true h ih = rw h (ap (λ t. is_stopped scene e && t) ih)
    by false h ih = rw h ih

-- all of two lists
pub all_of_both : {X : Type 0} (test : X → Bool) (xs ys : List X)
    → list_all test (xs ++ ys) ≡ (list_all test xs && list_all test ys)
all_of_both test [] ys = refl
all_of_both test (x ∷ xs) ys =
    ap (λ t. test x && t) (all_of_both test xs ys) ∙ grouped (test x) (list_all test xs) (list_all test ys)
  where
    grouped : (a b c : Bool) → (a && (b && c)) ≡ ((a && b) && c)
    grouped a b c = grind arith

-- one row more
pub next_stopped : (test : (ℕ × Point) × (ℕ × Point) → Bool) (ends : List (ℕ × Point)) (k : ℕ) (d : ℕ × Point)
    → k < length ends
    → list_all test (pairs (drop k ends))
    ≡ (list_all test (map (with_each (get_or ends k d)) (drop (k + 1) ends))
    && list_all test (pairs (drop (k + 1) ends)))
next_stopped test ends k d h =
    ap (λ xs. list_all test (pairs xs)) (drop-cons ends k d h)
    ∙ all_of_both test (map (with_each (get_or ends k d)) (drop (suc k) ends)) (pairs (drop (suc k) ends))
    ∙ ap (λ n. list_all test (map (with_each (get_or ends k d)) (drop n ends)) && list_all test (pairs (drop n ends)))
    (plain k)

-- a row that isn't stopped
pub fails_at : (scene : Scene) (ends : List (ℕ × Point)) (k : ℕ) (row : Bool) → k < length ends
    → row ≡ list_all (is_stopped_if_seen scene) (map (with_each (end_at ends k)) (drop (k + 1) ends)) → row ≡ false
    → list_all (is_stopped_if_seen scene) (pairs (drop k ends)) ≡ list_all (is_stopped_if_seen scene) (pairs ends)
    → false ≡ list_all (is_stopped scene) (filter (is_seen_pair scene) (pairs ends))
fails_at scene ends k row h r none e =
    sym (sym (stopped_if_seen scene (pairs ends)) ∙ sym e
    ∙ next_stopped (is_stopped_if_seen scene) ends k (0, point (pos 0) (pos 0)) h
    ∙ ap (λ t. t && list_all (is_stopped_if_seen scene) (pairs (drop (k + 1) ends))) (sym r ∙ none))

-- all rows are
pub holds_for_all : (scene : Scene) (ends : List (ℕ × Point)) (k : ℕ) → length ends ≤ k
    → list_all (is_stopped_if_seen scene) (pairs (drop k ends)) ≡ list_all (is_stopped_if_seen scene) (pairs ends)
    → true ≡ list_all (is_stopped scene) (filter (is_seen_pair scene) (pairs ends))
holds_for_all scene ends k h e =
    sym (sym (stopped_if_seen scene (pairs ends)) ∙ sym e
    ∙ ap (λ xs. list_all (is_stopped_if_seen scene) (pairs xs)) (drop_all k ends h))
