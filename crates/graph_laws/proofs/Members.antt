-- Elements of lists that are made of others.
use Rattle.std.specs.Prelude.{◌≡◌, ℕ, zero, suc, ◌<◌, List, [], ◌∷◌, map, length, get_or}
use Rattle.std.specs.List.{Contains, enumerate_from, flat_map}
use Rattle.std.proofs.Common.{refl, sym, ap, ◌∙◌, ◌⊎◌, inl, inr, arith, subst}
use Rattle.std.proofs.lemmas.List.{get_or_default}
use Rattle.std.proofs.lemmas.List.Elements.{Contains-append_right, Contains-append_cases}
use Rattle.std.proofs.lemmas.List.FromFn.{length-enumerate_from, get_or-enumerate_from}

pub contains_first : {X : Type 0} (x : X) (xs : List X) → Contains (x ∷ xs) x
contains_first x xs = (0, omega arith, refl)

pub contains_later : {X : Type 0} (x : X) (xs : List X) (y : X) → Contains xs y → Contains (x ∷ xs) y
contains_later x xs y h = Contains-append_right (x ∷ []) xs y h

pub contains_none : {X : Type 0} (y : X) → Contains [] y → ⊥
contains_none y h = omega (arith, h.1)

pub first_or_later : {X : Type 0} (x : X) (xs : List X) (y : X) → Contains (x ∷ xs) y → (x ≡ y) ⊎ Contains xs y
first_or_later x xs y (zero, below, is) = inl is
first_or_later x xs y (suc k, below, is) = inr (k, omega arith, is)

pub contains_mapped : {X Y : Type 0} (f : X → Y) (xs : List X) (x : X) → Contains xs x → Contains (map f xs) (f x)
contains_mapped f [] x h = absurd (contains_none x h)
contains_mapped f (w ∷ xs) x h = elim (first_or_later w xs x h) [
  | inl first ↦ subst (λ y. Contains (f w ∷ map f xs) y) (ap f first) (contains_first (f w) (map f xs))
  | inr later ↦ contains_later (f w) (map f xs) (f x) (contains_mapped f xs x later)
]

pub mapped_from : {X Y : Type 0} (f : X → Y) (xs : List X) (y : Y) → Contains (map f xs) y → (x : X) × Contains xs x × (f x ≡ y)
mapped_from f [] y h = absurd (contains_none y h)
mapped_from f (w ∷ xs) y h = elim (first_or_later (f w) (map f xs) y h) [
  | inl first ↦ (w, contains_first w xs, first)
  | inr later ↦ let found = mapped_from f xs y later in (found.0, contains_later w xs found.0 found.1, found.2)
]

pub among_from : {X Y : Type 0} (f : X → List Y) (xs : List X) (y : Y) → Contains (flat_map f xs) y → (x : X) × Contains xs x × Contains (f x) y
among_from f [] y h = absurd (contains_none y h)
among_from f (w ∷ xs) y h = elim (Contains-append_cases (f w) (flat_map f xs) y h) [
  | inl first ↦ (w, contains_first w xs, first)
  | inr later ↦ let found = among_from f xs y later in (found.0, contains_later w xs found.0 found.1, found.2)
]

-- ---- numbered elements

-- a numbered element stands at its number
pub number_is_place : {X : Type 0} (xs : List X) (e : ℕ × X) → Contains (enumerate_from 0 xs) e → (e.0 < length xs) × (get_or (enumerate_from 0 xs) e.0 e ≡ e)
number_is_place xs e h =
    let below : h.0 < length xs = omega (arith, h.1, length-enumerate_from 0 xs) in
    let number : h.0 ≡ e.0 = omega (arith, ap (λ z. z.0) (sym (get_or-enumerate_from 0 xs h.0 e below) ∙ h.2)) in
    (omega arith, subst (λ (k : ℕ). get_or (enumerate_from 0 xs) k e ≡ e) number h.2)

-- elements with one number are one
pub same_numbered : {X : Type 0} (xs : List X) (a b : ℕ × X) → Contains (enumerate_from 0 xs) a → Contains (enumerate_from 0 xs) b → a.0 ≡ b.0 → a ≡ b
same_numbered xs a b g h same =
    let first = number_is_place xs a g in
    let second = number_is_place xs b h in
    let below : a.0 < length (enumerate_from 0 xs) = omega (arith, first.0, length-enumerate_from 0 xs) in
    sym first.1 ∙ get_or_default (enumerate_from 0 xs) a.0 a b below ∙ ap (λ k. get_or (enumerate_from 0 xs) k b) same ∙ second.1
