-- What a table holds.
use Rattle.std.proofs.Common.{◌≡◌, ℕ, zero, suc, ◌<◌, ◌≤◌, pos, arith, ap, refl, sym, ◌∙◌, subst, List, [], ◌∷◌}
use Rattle.std.proofs.Common.{◌++◌, length, get_or}
use Rattle.std.specs.Prelude.{Bool, false, ◌&&◌, nat_lt, int_lt, Option, Some, None, All}
use Rattle.std.specs.Option.{option_map, IfSome}
use Rattle.std.specs.List.{list_any}
use Rattle.std.proofs.lemmas.List.Folds.{list_any_none}
use Rattle.std.proofs.lemmas.List.Elements.{All-append}
use Rattle.plane_spec.specs.declared.Point.{Point}
use Rattle.plane_spec.specs.declared.Segment.{Segment}
use Rattle.plane_spec.specs.Segments.{IsSegmentInRange}
use Rattle.plane_spec.specs.Vectors.{vector, cross_of}
use Rattle.sight_spec.specs.Scene.{Scene, blockers_of_scene}
use Rattle.sight_core.proofs.Seen.{walls-in_range, screens-in_range}
use Rattle.front_laws.specs.Seen.{seen_at, seen_of}
use Rattle.sight_spec.specs.Isovist.{no_segment}
use Rattle.front_laws.proofs.Tests.{by_lt, mapped_at, number_not_less}
use Rattle.sweep_laws.specs.Parts.{hides_itself}
use Rattle.sight_sweep.specs.declared.blocker.Blocker.{Blocker}
use Rattle.sight_sweep.specs.declared.range.Range.{Range}
use Rattle.sight_sweep.specs.Actives.{seen, IsOf}
use Rattle.sight_sweep.specs.Tables.{IsTable}

pub lines_in_range : (scene : Scene) (lines : List Segment) (ranges : List Range) (numbers : List ℕ)
    → IsTable scene lines ranges numbers → All IsSegmentInRange lines
lines_in_range scene lines ranges numbers t =
    subst (All IsSegmentInRange) (sym t.lines_are)
    (All-append IsSegmentInRange scene.walls scene.screens (walls-in_range scene t.of_plan)
    (screens-in_range scene t.of_plan))

pub default : {X : Type 0} (xs : List X) (i : ℕ) (d e : X) → i < length xs → get_or xs i d ≡ get_or xs i e
default [] i d e lt = absurd (omega arith)
default (x ∷ xs) zero d e lt = refl
default (x ∷ xs) (suc i) d e lt = default xs i d e (omega arith)

at_first : {X : Type 0} (xs ys : List X) (i : ℕ) (d : X) → i < length xs → get_or (xs ++ ys) i d ≡ get_or xs i d
at_first [] ys i d lt = absurd (omega arith)
at_first (x ∷ xs) ys zero d lt = refl
at_first (x ∷ xs) ys (suc i) d lt = at_first xs ys i d (omega arith)

-- what is read of the lines
pub line_read : (scene : Scene) (lines : List Segment) (number : ℕ) (line : Segment) → lines ≡ blockers_of_scene scene
    → number < length (blockers_of_scene scene) → line ≡ get_or lines number line
    → line ≡ get_or (blockers_of_scene scene) number no_segment
line_read scene lines number line e lt read = read ∙ ap (λ xs. get_or xs number line) e
    ∙ default (blockers_of_scene scene) number line no_segment lt

hides_where : (scene : Scene) (p : Point) (number : ℕ)
    → (nat_lt number (length scene.walls)
    && int_lt (pos 0) (cross_of (vector p (get_or (blockers_of_scene scene) number no_segment).a)
    (vector p (get_or (blockers_of_scene scene) number no_segment).b)))
    ≡ hides_itself p scene.walls number
hides_where scene p number = by_lt number (length scene.walls)
    (λ lt. ap (λ w. nat_lt number (length scene.walls) && int_lt (pos 0) (cross_of (vector p w.a) (vector p w.b)))
    (at_first scene.walls scene.screens number no_segment lt))
    (λ ge. none _ _ _ (number_not_less number (length scene.walls) ge))
  where
    none : (a b c : Bool) → a ≡ false → (a && b) ≡ (a && c)
    none a b c h = grind arith

-- what is seen of the line is the scene's wall or screen of the number
pub known_of : (scene : Scene) (p : Point) (number : ℕ) (line : Segment) (o : Option Blocker)
    → number < length (blockers_of_scene scene) → line ≡ get_or (blockers_of_scene scene) number no_segment
    → option_map seen o ≡ seen_of p line → IfSome o (λ b. b.number ≡ number)
    → IfSome o (λ b. b.hides ≡ (nat_lt number (length scene.walls)
    && int_lt (pos 0) (cross_of (vector p line.a) (vector p line.b)))) → IfSome o (IsOf scene p)
known_of scene p number line None lt e is number_is hides_is = number_is
known_of scene p number line (Some b) lt e is number_is hides_is = record {
  within = subst (λ n. n < length (blockers_of_scene scene)) (sym number_is) lt;
  known = subst (λ n. seen_at p (blockers_of_scene scene) n ≡ Some (seen b)) (sym number_is)
      (seen_where p (blockers_of_scene scene) number lt ∙ ap (seen_of p) (sym e) ∙ sym is);
  hides = hides_is ∙ ap (λ w. nat_lt number (length scene.walls)
      && int_lt (pos 0) (cross_of (vector p w.a) (vector p w.b))) e ∙ hides_where scene p number
      ∙ ap (hides_itself p scene.walls) (sym number_is);
}
  where
    seen_where : (p : Point) (lines : List Segment) (n : ℕ) → n < length lines → seen_at p lines n
        ≡ seen_of p (get_or lines n no_segment)
    seen_where p lines n lt = mapped_at (seen_of p) lines n no_segment None lt

pub line_in_range : (scene : Scene) (lines : List Segment) (ranges : List Range) (numbers : List ℕ) (number : ℕ)
    (line : Segment) → IsTable scene lines ranges numbers
    → number < length (blockers_of_scene scene) → line ≡ get_or lines number line → IsSegmentInRange line
line_in_range scene lines ranges numbers number line t lt read =
    subst IsSegmentInRange (sym read)
    (lines_in_range scene lines ranges numbers t number line (subst (λ xs. number < length xs) (sym t.lines_are) lt))

-- none of the list passes a test that none of so many does
pub none_of : {X : Type 0} (test : X → Bool) (xs : List X) (d : X) (count : ℕ) → length xs ≤ count
    → ((k : ℕ) → k < count → test (get_or xs k d) ≡ false)
    → list_any test xs ≡ false
none_of test xs d count end none = list_any_none test xs
    (λ k e lt. subst (λ x. test x ≡ false) (default xs k d e lt) (none k (up k (length xs) count lt end)))
  where
    up : (k n m : ℕ) → k < n → n ≤ m → k < m
    up k n m h j = omega (arith, h, j)
