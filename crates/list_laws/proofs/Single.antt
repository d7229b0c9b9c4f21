-- A list of which one element passes a test: what stands before it and after it.
use Rattle.std.proofs.Common.{◌≡◌, ◌∙◌, Bool, true, false, cond, not, ◌&&◌, ◌||◌, List, [], ◌∷◌, ◌++◌, map, filter}
use Rattle.std.proofs.Common.{refl, sym, ap}
use Rattle.std.specs.List.{list_any, list_all}
use Rattle.std.proofs.lemmas.Bool.{and_parts, or_from, not-true, not_from_false, false≢true}
use Rattle.std.proofs.lemmas.List.{map-append}
use Rattle.std.proofs.lemmas.List.Elements.{filter-append}
use Rattle.std.proofs.lemmas.List.Folds.{list_all-append, list_all-map}
use Rattle.plane_spec.specs.Lists.{pairs, with_each}
use Rattle.list_laws.proofs.Tests.{filter_not_none, list_all_not, list_all_weaker, map_none}

-- the one element that passes, between those before it and those after it
pub record Single {X : Type 0} (test : X → Bool) (xs : List X) : Type 0 where
  pub before : List X
  pub it : X
  pub after : List X
  pub is : xs ≡ before ++ it ∷ after
  pub passes : test it ≡ true
  pub none_before : list_any test before ≡ false
  pub none_after : list_any test after ≡ false

-- where of two elements that are apart not both pass, and each two are apart, one that passes is the only one
pub single : {X : Type 0} (test : X → Bool) (apart : X → X → Bool)
    → ((x y : X) → apart x y ≡ true → test x ≡ true → test y ≡ false) → (xs : List X)
    → list_all (λ e. apart e.0 e.1) (pairs xs) ≡ true → list_any test xs ≡ true → Single test xs
single test apart only [] all some = absurd (false≢true some)
single {X = X} test apart only (x ∷ xs) all some =
    by (test x) refl (single test apart only xs (and_parts (list_all (apart x) xs) rest parts).1)
  where
    rest : Bool
    rest = list_all (λ e. apart e.0 e.1) (pairs xs)

    parts : (list_all (apart x) xs && rest) ≡ true
    parts =
        ap (λ t. t && rest) (sym (list_all-map (λ e. apart e.0 e.1) (with_each x) xs))
        ∙ sym (list_all-append (λ e. apart e.0 e.1) (map (with_each x) xs) (pairs xs))
        ∙ all

    none_later : test x ≡ true → list_any test xs ≡ false
    none_later here =
        not-true (list_any test xs)
        (sym (list_all_not test xs)
        ∙ list_all_weaker (apart x) (λ y. not (test y)) (λ y e. not_from_false (test y) (only x y e here)) xs
        (and_parts (list_all (apart x) xs) rest parts).0)

    by : (t : Bool) → test x ≡ t → (list_any test xs ≡ true → Single test xs) → Single test (x ∷ xs)
    by true e later = record {
      before = [];
      it = x;
      after = xs;
      is = refl;
      passes = e;
      none_before = refl;
      none_after = none_later e;
    }
    by false e later =
        let s = later (ap (λ t. t || list_any test xs) (sym e) ∙ some) in
        record {
          before = x ∷ s.before;
          it = s.it;
          after = s.after;
          is = ap (λ r. x ∷ r) s.is;
          passes = s.passes;
          none_before = or_from (test x) (list_any test s.before) e s.none_before;
          none_after = s.none_after;
        }

-- the others
pub all_but_single : {X : Type 0} (test : X → Bool) (xs : List X) → (s : Single test xs)
    → filter (λ x. not (test x)) xs ≡ s.before ++ s.after
all_but_single test xs s =
    ap (filter (λ x. not (test x))) s.is
    ∙ filter-append (λ x. not (test x)) s.before (s.it ∷ s.after)
    ∙ rw (filter_not_none test s.before s.none_before, s.passes, filter_not_none test s.after s.none_after) refl

-- the one alone changed
pub with_single_changed : {X : Type 0} (test : X → Bool) (f : X → X) (xs : List X) → (s : Single test xs)
    → map (λ x. cond (test x) (f x) x) xs ≡ s.before ++ f s.it ∷ s.after
with_single_changed test f xs s =
    ap (map (λ x. cond (test x) (f x) x)) s.is
    ∙ map-append (λ x. cond (test x) (f x) x) s.before (s.it ∷ s.after)
    ∙ rw (map_none test f s.before s.none_before, s.passes, map_none test f s.after s.none_after) refl
