-- Runs sector by sector.
use Rattle.std.proofs.Common.{◌≡◌, ◌∙◌, ℕ, ◌+◌, ◌-◌, ◌<◌, ◌≤◌, List, [], ◌∷◌, ◌++◌, map, take, length, get_or, set}
use Rattle.std.proofs.Common.{Option, Some, None, refl, sym, ap, subst, arith}
use Rattle.std.proofs.lemmas.List.{take_more, take_all, get_or-map, length-map}
use Rattle.plane_spec.specs.declared.Point.{Point}
use Rattle.sight_spec.specs.Scene.{Scene}
use Rattle.sight_spec.specs.Isovist.{Sector, Run, run, sector_in, sectors_of, gaps_of, corner_directions, runs_of}
use Rattle.sight_spec.proofs.Runs.{ends_with, reaching_to, with_run, with_sector, runs_push}
use Rattle.view_laws.specs.declared.view.View.{View}
use Rattle.isovist_core.specs.declared.heading.Heading.{Heading}
use Rattle.isovist_core.specs.declared.gap.Gap.{Gap}
use Rattle.isovist_core.specs.declared.sighted_run.SightedRun.{SightedRun}
use Rattle.isovist_core.specs.Gaps.{pair_of}
use Rattle.isovist_core.specs.Shown.{sector_shown, wall_shown}
use Rattle.isovist_core.specs.Sightings.{run_of, is_wall, put_sector}

-- the wall of the last sector, if there is one and it has one
abbrev pub last_wall : List Sector → Option ℕ
last_wall [] = None
last_wall (s ∷ []) = s.wall
last_wall (s ∷ t ∷ sectors) = last_wall (t ∷ sectors)

pub last_of_more : (sectors : List Sector) (s : Sector) → last_wall (sectors ++ s ∷ []) ≡ s.wall
last_of_more [] s = refl
last_of_more (t ∷ []) s = refl
last_of_more (t ∷ u ∷ sectors) s = last_of_more (u ∷ sectors) s

ends_is : (wall : ℕ) (sectors : List Sector) → ends_with wall sectors ≡ is_wall (last_wall sectors) wall
ends_is wall [] = refl
ends_is wall (s ∷ []) = by s.wall refl
  where
    by : (w : Option ℕ) → s.wall ≡ w → ends_with wall (s ∷ []) ≡ is_wall s.wall wall
    by None e = rw e refl
    by (Some v) e = rw e refl
ends_is wall (s ∷ t ∷ sectors) = ends_is wall (t ∷ sectors)

put_is : (sectors : List Sector) (s : Sector) (runs : List Run)
    → with_sector s s.wall sectors runs ≡ put_sector (last_wall sectors) (s.from, s.to) s.wall runs
put_is sectors s runs = by s.wall
  where
    by : (w : Option ℕ) → with_sector s w sectors runs ≡ put_sector (last_wall sectors) (s.from, s.to) w runs
    by None = refl
    by (Some wall) = ap (λ t. with_run t (run s.from s.to wall) runs) (ends_is wall sectors)

-- one sector more
pub runs_more : (sectors : List Sector) (k : ℕ) (d : Sector) → k < length sectors
    → runs_of (take (k + 1) sectors)
    ≡ put_sector (last_wall (take k sectors)) ((get_or sectors k d).from, (get_or sectors k d).to)
    (get_or sectors k d).wall (runs_of (take k sectors))
runs_more sectors k d h =
    ap runs_of (take_more sectors k d h) ∙ runs_push (take k sectors) (get_or sectors k d)
    ∙ put_is (take k sectors) (get_or sectors k d) (runs_of (take k sectors))

pub last_more : (sectors : List Sector) (k : ℕ) (d : Sector) → k < length sectors
    → last_wall (take (k + 1) sectors) ≡ (get_or sectors k d).wall
last_more sectors k d h = ap last_wall (take_more sectors k d h) ∙ last_of_more (take k sectors) (get_or sectors k d)

-- ---- the sectors that a view shows

abbrev pub sectors_in : View → List Gap → List Sector
sectors_in view gaps = map (sector_shown view) gaps

-- ---- the last run reaches on

reach_at : (x : SightedRun) (rest : List SightedRun) (r : SightedRun) (to : Heading) → r ≡ get_or (x ∷ rest) (length rest) r
    → map run_of (set (x ∷ rest) (length rest) (record { from = r.from; to = to; wall = r.wall }))
    ≡ reaching_to to.step (map run_of (x ∷ rest))
reach_at x [] r to is = ap (λ (q : SightedRun). run q.from.step to.step q.wall ∷ []) is
reach_at x (y ∷ rest) r to is = ap (λ t. run_of x ∷ t) (reach_at y rest r to is)

pub reach_last : (runs : List SightedRun) (n : ℕ) (r : SightedRun) (to : Heading) → 0 < n → length runs ≡ n
    → r ≡ get_or runs (n - 1) r
    → map run_of (set runs (n - 1) (record { from = r.from; to = to; wall = r.wall }))
    ≡ reaching_to to.step (map run_of runs)
reach_last [] n r to some is at = absurd (omega arith)
reach_last (x ∷ rest) n r to some is at =
    let e : n - 1 ≡ length rest = omega arith in
    rw e (reach_at x rest r to (subst (λ m. r ≡ get_or (x ∷ rest) m r) e at))

pub reach_none : (runs : List SightedRun) (n : ℕ) (to : Heading) → n ≤ 0 → length runs ≡ n
    → map run_of runs ≡ reaching_to to.step (map run_of runs)
reach_none [] n to none is = refl
reach_none (x ∷ rest) n to none is = absurd (omega arith)

-- ---- the loop

pub no_runs : runs_of [] ≡ []
unfolding runs_of
no_runs = refl

module _ (view : View) (gaps : List Gap) (k : ℕ) (below : k < length gaps) (g : Gap) (g_is : g ≡ get_or gaps k g) where
  abbrev here : Sector
  here = sector_shown view g

  sector_is : get_or (sectors_in view gaps) k here ≡ here
  sector_is = get_or-map (sector_shown view) gaps k g here below ∙ ap (sector_shown view) (sym g_is)

  in_sectors : k < length (sectors_in view gaps)
  in_sectors = rw (length-map gaps (sector_shown view)) below

  pub runs_step : runs_of (take (k + 1) (sectors_in view gaps))
      ≡ put_sector (last_wall (take k (sectors_in view gaps))) (pair_of g) (wall_shown view (pair_of g))
      (runs_of (take k (sectors_in view gaps)))
  runs_step =
      runs_more (sectors_in view gaps) k here in_sectors
      ∙ ap (λ (s : Sector). put_sector (last_wall (take k (sectors_in view gaps))) (s.from, s.to) s.wall
      (runs_of (take k (sectors_in view gaps)))) sector_is

  pub last_step : last_wall (take (k + 1) (sectors_in view gaps)) ≡ wall_shown view (pair_of g)
  last_step = last_more (sectors_in view gaps) k here in_sectors ∙ ap (λ (s : Sector). s.wall) sector_is

pub all_sectors : (view : View) (gaps : List Gap) (k : ℕ) → length gaps ≤ k
    → take k (sectors_in view gaps) ≡ sectors_in view gaps
all_sectors view gaps k last = take_all k (sectors_in view gaps) (rw (length-map gaps (sector_shown view)) last)

-- ---- all together

pub runs_are : (scene : Scene) (p : Point) (view : View) (directions : List Point) (gaps : List Gap)
    → directions ≡ corner_directions scene p → map pair_of gaps ≡ gaps_of directions
    → sectors_in view gaps ≡ map (sector_in scene p) (map pair_of gaps)
    → runs_of (sectors_in view gaps) ≡ runs_of (sectors_of scene p)
runs_are scene p view directions gaps ds gs shown =
    ap runs_of shown ∙ ap (λ t. runs_of (map (sector_in scene p) t)) (gs ∙ ap gaps_of ds)
