-- Runs built from the left: one sector more goes on with the last run, or is a run of its own.
use Rattle.std.specs.Prelude.{◌≡◌, ℕ, ◌<◌, ◌==◌, length, Bool, true, false, List, [], ◌∷◌, ◌++◌, Option, Some, None}
use Rattle.std.proofs.Common.{refl, sym, ap, ◌∙◌, inl, inr, arith}
use Rattle.std.proofs.lemmas.Bool.{cases_eq, eq-eqb, ne_eqb, both_ways}
use Rattle.plane_spec.specs.declared.Point.{Point}
use Rattle.sight_spec.specs.Isovist.{Sector, Run, run, goes_on, run_before, run_of_sector, has_wall, runs_of}

-- ---- one sector more

-- the last of the sectors has this wall
abbrev pub ends_with : ℕ → List Sector → Bool
ends_with wall [] = false
ends_with wall (s ∷ []) = goes_on wall (s ∷ [])
ends_with wall (s ∷ t ∷ sectors) = ends_with wall (t ∷ sectors)

-- the last run reaches on to a direction
abbrev pub reaching_to : Point → List Run → List Run
reaching_to to [] = []
reaching_to to (r ∷ []) = run r.from to r.wall ∷ []
reaching_to to (r ∷ q ∷ runs) = r ∷ reaching_to to (q ∷ runs)

-- the runs with a sector more that has a wall: it goes on with the last one, or is one of its own
abbrev pub with_run : Bool → Run → List Run → List Run
with_run true r runs = reaching_to r.to runs
with_run false r runs = runs ++ r ∷ []

-- the runs of sectors with one more, by the wall of that one
abbrev pub with_sector : Sector → Option ℕ → List Sector → List Run → List Run
with_sector s None sectors runs = runs
with_sector s (Some wall) sectors runs = with_run (ends_with wall sectors) (run s.from s.to wall) runs

-- ---- where there are runs

before_some : (goes : Bool) (first : Run) (runs : List Run) → 0 < length (run_before goes first runs)
before_some goes first [] = omega arith
before_some true first (r ∷ runs) = omega arith
before_some false first (r ∷ runs) = omega arith

-- where the first sector has a wall
first_has_run : (wall : ℕ) (s : Sector) (w : Option ℕ) (sectors : List Sector) → s.wall ≡ w
    → goes_on wall (s ∷ sectors) ≡ true → 0 < length (runs_of (s ∷ sectors))
unfolding runs_of
first_has_run wall s None sectors is goes =
    let no : goes_on wall (s ∷ sectors) ≡ false = rw is refl in
    absurd (both_ways (goes_on wall (s ∷ sectors)) no goes)
first_has_run wall s (Some v) sectors is goes =
    rw is (before_some (goes_on v sectors) (run s.from s.to v) (runs_of sectors))

-- where the last sector has one
last_has_run : (wall : ℕ) (sectors : List Sector) → ends_with wall sectors ≡ true → 0 < length (runs_of sectors)
unfolding runs_of
last_has_run wall [] ends = absurd (both_ways false refl ends)
last_has_run wall (s ∷ []) ends = first_has_run wall s s.wall [] refl ends
last_has_run wall (s ∷ t ∷ sectors) ends = by_wall s.wall refl (last_has_run wall (t ∷ sectors) ends)
  where
    by_wall : (w : Option ℕ) → s.wall ≡ w → 0 < length (runs_of (t ∷ sectors))
        → 0 < length (run_of_sector s s.wall (has_wall s.wall (t ∷ sectors)) (runs_of (t ∷ sectors)))
    by_wall None is some = rw is some
    by_wall (Some v) is some = rw is (before_some (goes_on v (t ∷ sectors)) (run s.from s.to v) (runs_of (t ∷ sectors)))

-- ---- a run before the others, and a sector more after them

before_and_after : (goes ends : Bool) (first last : Run) (runs : List Run)
    → (goes ≡ true → 0 < length runs) → (ends ≡ true → 0 < length runs)
    → run_before goes first (with_run ends last runs) ≡ with_run ends last (run_before goes first runs)
before_and_after true ends first last [] some _ = absurd (omega (arith, some refl))
before_and_after false true first last [] _ some = absurd (omega (arith, some refl))
before_and_after false false first last [] _ _ = refl
before_and_after true true first last (r ∷ []) _ _ = refl
before_and_after false true first last (r ∷ []) _ _ = refl
before_and_after true true first last (r ∷ q ∷ runs) _ _ = refl
before_and_after false true first last (r ∷ q ∷ runs) _ _ = refl
before_and_after true false first last (r ∷ runs) _ _ = refl
before_and_after false false first last (r ∷ runs) _ _ = refl

-- what follows the next sector doesn't matter
next_alone : (w : Option ℕ) (t : Sector) (sectors more : List Sector) → has_wall w (t ∷ sectors) ≡ has_wall w (t ∷ more)
next_alone None t sectors more = refl
next_alone (Some wall) t sectors more = refl

-- two sectors make one run where they have one wall
two_runs : (v wall : ℕ) (a s : Run)
    → run_before (wall == v) a (s ∷ []) ≡ with_run (v == wall) s (a ∷ [])
two_runs v wall a s = elim (cases_eq v wall) [
  | inl same ↦ rw (eq-eqb v wall same, eq-eqb wall v (sym same)) refl
  | inr other ↦ rw (ne_eqb v wall other, ne_eqb wall v (λ e. other (sym e))) refl
]

-- ---- the runs with a sector more

module _ (s : Sector) where
  without_wall : s.wall ≡ None → (sectors : List Sector) → runs_of (sectors ++ s ∷ []) ≡ runs_of sectors
  unfolding runs_of
  without_wall none [] = rw none refl
  without_wall none (a ∷ []) = by_wall a.wall
    where
      by_wall : (w : Option ℕ)
          → run_of_sector a w (has_wall w (s ∷ [])) (runs_of (s ∷ [])) ≡ run_of_sector a w (has_wall w []) []
      by_wall None = rw none refl
      by_wall (Some wall) = rw none refl
  without_wall none (a ∷ b ∷ sectors) =
      ap (λ goes. run_of_sector a a.wall goes (runs_of (b ∷ (sectors ++ s ∷ []))))
      (next_alone a.wall b (sectors ++ s ∷ []) sectors)
      ∙ ap (run_of_sector a a.wall (has_wall a.wall (b ∷ sectors))) (without_wall none (b ∷ sectors))

  with_wall : (wall : ℕ) → s.wall ≡ Some wall → (sectors : List Sector)
      → runs_of (sectors ++ s ∷ []) ≡ with_run (ends_with wall sectors) (run s.from s.to wall) (runs_of sectors)
  unfolding runs_of
  with_wall wall is [] = rw is refl
  with_wall wall is (a ∷ []) = by_wall a.wall refl
    where
      by_wall : (w : Option ℕ) → a.wall ≡ w
          → run_of_sector a a.wall (has_wall a.wall (s ∷ [])) (runs_of (s ∷ []))
          ≡ with_run (ends_with wall (a ∷ [])) (run s.from s.to wall) (run_of_sector a a.wall (has_wall a.wall []) [])
      by_wall None none = rw (none, is) refl
      by_wall (Some v) some = rw (some, is) (two_runs v wall (run a.from a.to v) (run s.from s.to wall))
  with_wall wall is (a ∷ b ∷ sectors) =
      ap (λ goes. run_of_sector a a.wall goes (runs_of (b ∷ (sectors ++ s ∷ []))))
      (next_alone a.wall b (sectors ++ s ∷ []) sectors)
      ∙ ap (run_of_sector a a.wall (has_wall a.wall (b ∷ sectors))) (with_wall wall is (b ∷ sectors))
      ∙ by_wall a.wall refl
    where
      by_wall : (w : Option ℕ) → a.wall ≡ w
          → run_of_sector a a.wall (has_wall a.wall (b ∷ sectors))
          (with_run (ends_with wall (b ∷ sectors)) (run s.from s.to wall) (runs_of (b ∷ sectors)))
          ≡ with_run (ends_with wall (b ∷ sectors)) (run s.from s.to wall)
          (run_of_sector a a.wall (has_wall a.wall (b ∷ sectors)) (runs_of (b ∷ sectors)))
      by_wall None none = rw none refl
      by_wall (Some v) some =
          rw some
          (before_and_after (goes_on v (b ∷ sectors)) (ends_with wall (b ∷ sectors)) (run a.from a.to v)
          (run s.from s.to wall) (runs_of (b ∷ sectors)) (first_has_run v b b.wall sectors refl)
          (last_has_run wall (b ∷ sectors)))

-- the runs of sectors and one more are those of the sectors, with that one
pub runs_push : (sectors : List Sector) (s : Sector)
    → runs_of (sectors ++ s ∷ []) ≡ with_sector s s.wall sectors (runs_of sectors)
runs_push sectors s = by_wall s.wall refl
  where
    by_wall : (w : Option ℕ) → s.wall ≡ w
        → runs_of (sectors ++ s ∷ []) ≡ with_sector s s.wall sectors (runs_of sectors)
    by_wall None none = without_wall s none sectors ∙ ap (λ w. with_sector s w sectors (runs_of sectors)) (sym none)
    by_wall (Some wall) some =
        with_wall s wall some sectors
        ∙ ap (λ w. with_sector s w sectors (runs_of sectors)) (sym some)
