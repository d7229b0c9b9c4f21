-- The least length of a group, read one after another.
use Rattle.std.proofs.Common.{◌≡◌, ℕ, zero, suc, ◌+◌, ◌<◌, ◌≤◌, arith, ap, refl, sym, ◌∙◌, List, [], ◌∷◌}
use Rattle.std.proofs.Common.{length, get_or, drop}
use Rattle.std.specs.Prelude.{Bool, if◌then◌else◌, Option}
use Rattle.std.proofs.lemmas.List.{drop_more}
use Rattle.plane_spec.specs.declared.Point.{Point}
use Rattle.plane_spec.specs.declared.Corner.{Corner}
use Rattle.plane_spec.specs.Cones.{is_in_cone}
use Rattle.sweep_laws.specs.Groups.{no_corner}
use Rattle.plane_spec.specs.Vectors.{reversed_direction}
use Rattle.view_laws.specs.Views.{length_of}
use Rattle.sight_sweep.specs.Events.{way_at, corner_of}
use Rattle.sight_sweep.specs.Rounds.{least_from, lesser_of, leads_ahead, leads_behind, far_of}

least_cons : (test : ℕ → Bool) (far : ℕ → ℕ) (least : Option ℕ) (e : ℕ) (rest : List ℕ)
    → least_from test far least (e ∷ rest)
    ≡ least_from test far (if test e then lesser_of least (far e) else least) rest
unfolding least_from
least_cons test far least e rest = refl

least_none : (test : ℕ → Bool) (far : ℕ → ℕ) (least : Option ℕ) → least_from test far least [] ≡ least
unfolding least_from
least_none test far least = refl

dropped_all : (k : ℕ) (xs : List ℕ) → length xs ≤ k → drop k xs ≡ []
dropped_all zero [] h = refl
dropped_all (suc k) [] h = refl
dropped_all zero (x ∷ xs) h = absurd (omega arith)
dropped_all (suc k) (x ∷ xs) h = dropped_all k xs (omega arith)

pub least_whole : (test : ℕ → Bool) (far : ℕ → ℕ) (least : Option ℕ) (xs : List ℕ) (k : ℕ) → length xs ≤ k
    → least_from test far least (drop k xs) ≡ least
least_whole test far least xs k h = ap (least_from test far least) (dropped_all k xs h) ∙ least_none test far least

step : (test : ℕ → Bool) (far : ℕ → ℕ) (least next : Option ℕ) (xs : List ℕ) (k : ℕ) → k < length xs → next
    ≡ (if test (get_or xs k 0) then lesser_of least (far (get_or xs k 0)) else least)
    → least_from test far next (drop (k + 1) xs) ≡ least_from test far least (drop k xs)
step test far least next xs k lt e =
    ap (λ t. least_from test far t (drop (k + 1) xs)) e
    ∙ sym (least_cons test far least (get_or xs k 0) (drop (k + 1) xs))
    ∙ ap (least_from test far least) (sym (drop_more xs k 0 lt))

pub ahead_step : (p : Point) (corners : List Corner) (group : List ℕ) (k index : ℕ) (corner : Corner) (way : Point)
    (least next : Option ℕ) → k < length group → index ≡ corner_of (get_or group k 0)
    → corner ≡ get_or corners index no_corner → way ≡ way_at p corners index → next
    ≡ (if is_in_cone corner way then lesser_of least (length_of way) else least)
    → least_from (leads_ahead p corners) (far_of p corners) next (drop (k + 1) group)
    ≡ least_from (leads_ahead p corners) (far_of p corners) least (drop k group)
ahead_step p corners group k index corner way least next lt index_is corner_is way_is next_is =
    step (leads_ahead p corners) (far_of p corners) least next group k lt
    (next_is ∙ ap (λ c. if is_in_cone c way then lesser_of least (length_of way) else least) corner_is
    ∙ ap (λ v. if is_in_cone (get_or corners index no_corner) v then lesser_of least (length_of v) else least) way_is
    ∙ ap (λ i. if is_in_cone (get_or corners i no_corner) (way_at p corners i) then lesser_of least
    (length_of (way_at p corners i)) else least) index_is)

pub behind_step : (p : Point) (corners : List Corner) (group : List ℕ) (k index : ℕ) (corner : Corner) (way : Point)
    (least next : Option ℕ) → k < length group → index ≡ corner_of (get_or group k 0)
    → corner ≡ get_or corners index no_corner → way ≡ way_at p corners index → next
    ≡ (if is_in_cone corner (reversed_direction way) then lesser_of least (length_of way) else least)
    → least_from (leads_behind p corners) (far_of p corners) next (drop (k + 1) group)
    ≡ least_from (leads_behind p corners) (far_of p corners) least (drop k group)
behind_step p corners group k index corner way least next lt index_is corner_is way_is next_is =
    step (leads_behind p corners) (far_of p corners) least next group k lt
    (next_is ∙ ap (λ c. if is_in_cone c (reversed_direction way) then lesser_of least (length_of way) else least) corner_is
    ∙ ap (λ v. if is_in_cone (get_or corners index no_corner) (reversed_direction v) then lesser_of least
    (length_of v) else least) way_is
    ∙ ap (λ i. if is_in_cone (get_or corners i no_corner) (reversed_direction (way_at p corners i)) then lesser_of least
    (length_of (way_at p corners i)) else least) index_is)

-- the place that was just read
pub read_at : (xs : List ℕ) (i k d : ℕ) → k < length xs → i ≡ k → get_or xs i d ≡ get_or xs k 0
read_at xs i k d lt e = ap (λ n. get_or xs n d) e ∙ default xs k d 0 lt
  where
    default : (xs : List ℕ) (i d e : ℕ) → i < length xs → get_or xs i d ≡ get_or xs i e
    default [] i d e lt = absurd (omega arith)
    default (x ∷ xs) zero d e lt = refl
    default (x ∷ xs) (suc i) d e lt = default xs i d e (omega arith)
