-- Flags, and what those say that are false.
use Rattle.std.proofs.Common.{◌≡◌, ◌≢◌, ℕ, zero, suc, ◌+◌, ◌<◌, arith, ap, refl, sym, ◌∙◌, subst, List, [], ◌∷◌, ◌++◌}
use Rattle.std.proofs.Common.{length, get_or}
use Rattle.std.specs.Prelude.{Bool, true, false, All, replicate}
use Rattle.plane_spec.specs.declared.Point.{Point}
use Rattle.sight_spec.specs.Scene.{Scene, blockers_of_scene}
use Rattle.sight_spec.specs.Isovist.{no_segment}
use Rattle.front_laws.proofs.Tests.{by_cases, clash_to}
use Rattle.front_laws.proofs.Lists.{by_same}
use Rattle.sight_sweep.specs.declared.blocker.Blocker.{Blocker}
use Rattle.sweep_laws.specs.Groups.{no_corner}
use Rattle.sight_sweep.specs.Actives.{seen, IsOf}
use Rattle.sight_sweep.specs.Events.{way_at}
use Rattle.sight_sweep.specs.LeftOut.{is_set, IsLineHidden, IsCornerHidden, AreCornerFlags, IsHiddenAt}
use Rattle.sight_sweep.specs.LeftOut.{AreCoversKept, AreLinesHidden, AreCornersHidden, AreCoveredWhole, AreUntold}
use Rattle.sight_sweep.specs.Tables.{AreAround}

-- a flag that is false with one more is one of those before, or the new one
pub set_pushed : {P : Type 0} (flags : List Bool) (b : Bool) (n : ℕ) → is_set (flags ++ b ∷ []) n ≡ false
    → (is_set flags n ≡ false → P) → (n ≡ length flags → b ≡ false → P) → P
set_pushed [] b zero h f g = g refl h
set_pushed [] b (suc n) h f g = clash_to true refl h
set_pushed (x ∷ xs) b zero h f g = f h
set_pushed (x ∷ xs) b (suc n) h f g = set_pushed xs b n h f (λ e k. g (one n (length xs) e) k)
  where
    one : (n m : ℕ) → n ≡ m → suc n ≡ suc m
    one n m e = ap suc e

-- ---- lines

-- while all flags are set none is false
pub all_lines_kept : (scene : Scene) (p : Point) (covers : List Blocker) (count : ℕ)
    → AreLinesHidden scene p covers (replicate count true)
all_lines_kept scene p covers count j within out = clash_to (is_set (replicate count true) j) (stands count j) out
  where
    stands : (count j : ℕ) → is_set (replicate count true) j ≡ true
    stands zero j = refl
    stands (suc count) zero = refl
    stands (suc count) (suc j) = stands count j

-- the flag of a hidden one may be cleared
pub one_left_out : (scene : Scene) (p : Point) (covers : List Blocker) (old new : List Bool) (number : ℕ)
    → ((n : ℕ) → n ≢ number → is_set new n ≡ is_set old n)
    → IsLineHidden p covers (get_or (blockers_of_scene scene) number no_segment)
    → AreLinesHidden scene p covers old → AreLinesHidden scene p covers new
one_left_out scene p covers old new number others own hidden j within out = by_same j number
    (λ e. subst (λ n. IsLineHidden p covers (get_or (blockers_of_scene scene) n no_segment)) (sym e) own)
    (λ other. hidden j within (sym (others j other) ∙ out))

-- ---- corners

pub no_corner_flags : (scene : Scene) (p : Point) (covers : List Blocker) (kept : List Bool)
    → AreCornerFlags scene p covers kept 0 []
no_corner_flags scene p covers kept = record {
  count_is = refl;
  hidden = λ k within out. clash_to true refl out;
}

pub one_corner_flag : (scene : Scene) (p : Point) (covers : List Blocker) (kept : List Bool) (count : ℕ)
    (shown : List Bool) (b : Bool) → AreCornerFlags scene p covers kept count shown
    → (b ≡ false → IsCornerHidden scene p covers kept count)
    → AreCornerFlags scene p covers kept (count + 1) (shown ++ b ∷ [])
one_corner_flag scene p covers kept count shown b f own = record {
  count_is = one_more shown b ∙ ap (λ n. n + 1) f.count_is;
  hidden = λ k within out. set_pushed shown b k out
      (λ before. f.hidden k within before)
      (λ e h. subst (λ n. IsCornerHidden scene p covers kept n) (sym (e ∙ f.count_is)) (own h));
}
  where
    one_more : (xs : List Bool) (b : Bool) → length (xs ++ b ∷ []) ≡ length xs + 1
    one_more [] b = refl
    one_more (x ∷ xs) b = let e = one_more xs b in omega (arith, e)

-- ---- what the flags say

-- what isn't kept is covered whole
pub whole_of : (scene : Scene) (p : Point) (covers : List Blocker) (kept : List Bool) → All (IsOf scene p) covers
    → AreCoversKept covers kept → AreLinesHidden scene p covers kept → AreCoveredWhole scene p (is_set kept)
whole_of scene p [] kept known own hidden j within out = absurd (none (hidden j within out).hidden.first.within)
  where
    none : {n : ℕ} → n < 0 → ⊥
    none h = omega (arith, h)
whole_of scene p (b ∷ rest) kept known own hidden j within out =
    let h = hidden j within out in
    let c = get_or (b ∷ rest) h.at b in
    let of = known h.at b h.hidden.first.within in
    record {
      number = c.number;
      cover = seen c;
      within = of.within;
      is_kept = own h.at b h.hidden.first.within;
      seen = of.known;
      first = h.hidden.first.hides b;
      last = h.hidden.last.hides b;
    }

-- what isn't shown is untold
pub untold_of : (scene : Scene) (p : Point) (covers : List Blocker) (kept shown : List Bool)
    → All (IsOf scene p) covers → AreCoversKept covers kept → AreCornersHidden scene p covers kept shown
    → AreUntold scene p (is_set kept) (is_set shown)
untold_of scene p [] kept shown known own hidden k within out = absurd (none (hidden k within out).hidden.within)
  where
    none : {n : ℕ} → n < 0 → ⊥
    none h = omega (arith, h)
untold_of scene p (b ∷ rest) kept shown known own hidden k within out =
    let h = hidden k within out in
    let c = get_or (b ∷ rest) h.at b in
    let of = known h.at b h.hidden.within in
    record {
      behind = record {
        number = c.number;
        cover = seen c;
        within = of.within;
        is_kept = own h.at b h.hidden.within;
        seen = of.known;
        hides = h.hidden.hides b;
      };
      none = h.none;
    }

-- a flag stays set, so one that is false was false
pub was_false : (old new : List Bool) (n : ℕ) → (is_set old n ≡ true → is_set new n ≡ true) → is_set new n ≡ false
    → is_set old n ≡ false
was_false old new n stays h = by_cases (is_set old n)
    (λ t. clash_to (is_set new n) (stays t) h)
    (λ f. f)

-- a cover that hides the corner, where all flags of what ends there are false
pub corner_hidden : (scene : Scene) (p v : Point) (covers : List Blocker) (kept : List Bool) (numbers : List ℕ)
    (k at : ℕ)
    → v ≡ way_at p scene.corners k → AreAround scene (get_or scene.corners k no_corner).here numbers
    → All (λ n. is_set kept n ≡ false) numbers → IsHiddenAt covers at v → IsCornerHidden scene p covers kept k
corner_hidden scene p v covers kept numbers k at way around none h = record {
  at = at;
  hidden = subst (IsHiddenAt covers at) way h;
  none = λ n within ends.
      let c = around.all n within ends in
      subst (λ m. is_set kept m ≡ false) c.2 (none c.0 n c.1);
}
