-- What ends at corners goes, what begins there comes.
use Rattle.std.proofs.Common.{◌≡◌, ℕ, zero, suc, ◌+◌, ◌<◌, ◌≤◌, ◌==◌, arith, ap, refl, sym, ◌∙◌, subst, List, []}
use Rattle.std.proofs.Common.{◌∷◌, length, get_or, take}
use Rattle.std.specs.Prelude.{Bool, true, false, ◌&&◌, ◌||◌, not, Some, None}
use Rattle.std.specs.List.{list_any, Contains}
use Rattle.std.proofs.lemmas.Int.{ints}
use Rattle.plane_spec.specs.declared.Point.{Point}
use Rattle.plane_spec.specs.declared.Segment.{Segment}
use Rattle.plane_spec.specs.Vectors.{same_point, vector}
use Rattle.sight_spec.specs.Scene.{Scene, blockers_of_scene}
use Rattle.front_laws.specs.Seen.{Seen, seen_of}
use Rattle.front_laws.specs.Seen.{seen_at}
use Rattle.front_laws.proofs.Tests.{by_cases, clash, tested_same_number, own_number, some_same, mapped_at, either_first}
use Rattle.front_laws.proofs.Tests.{either_second, guarded}
use Rattle.front_laws.proofs.Lists.{any_at}
use Rattle.apart_laws.proofs.Through.{by_ends}
use Rattle.sight_sweep.specs.declared.blocker.Blocker.{Blocker}
use Rattle.sight_sweep.specs.Actives.{IsActive, SpansAll, without, beside, unless_ended, or_begun}
use Rattle.sight_sweep.specs.Tables.{AreAround, ends_at}
use Rattle.sight_spec.specs.Isovist.{no_segment}
use Rattle.sight_sweep.specs.Events.{way_at, corner_of}
use Rattle.sight_sweep.specs.Rounds.{ends_among, begins_among}
use Rattle.sight_sweep.proofs.Actives.{active_so}

-- one more of a list
any_suc : {X : Type 0} (test : X → Bool) (k : ℕ) (xs : List X) (d : X) → k < length xs
    → list_any test (take (suc k) xs) ≡ (list_any test (take k xs) || test (get_or xs k d))
any_suc test k [] d lt = absurd (omega arith)
any_suc test zero (x ∷ xs) d lt = swap (test x)
  where
    swap : (b : Bool) → (b || false) ≡ (false || b)
    swap b = grind arith
any_suc {X} test (suc k) (x ∷ xs) d lt = ap (λ t. test x || t) (any_suc test k xs d (omega arith))
    ∙ join (test x) (list_any test (take k xs)) (test (get_or xs k d))
  where
    join : (a b c : Bool) → (a || (b || c)) ≡ ((a || b) || c)
    join a b c = grind arith

pub any_more : {X : Type 0} (test : X → Bool) (k : ℕ) (xs : List X) (d : X) → k < length xs
    → list_any test (take (k + 1) xs) ≡ (list_any test (take k xs) || test (get_or xs k d))
any_more test k xs d lt = ap (λ n. list_any test (take n xs)) (one k) ∙ any_suc test k xs d lt
  where
    one : (k : ℕ) → k + 1 ≡ suc k
    one k = omega arith

-- the number is among the first
abbrev pub is_among_first : ℕ → ℕ → List ℕ → Bool
is_among_first n k numbers = list_any (λ m. m == n) (take k numbers)

-- ---- what ends at v goes

-- what passes the test, but for those of the first numbers that end at v
abbrev pub ended_so_far : Point → ℕ → List ℕ → (ℕ → Seen → Bool) → ℕ → Seen → Bool
ended_so_far v k numbers test n s = test n s && not (same_point s.to v && is_among_first n k numbers)

pub ended_none : (scene : Scene) (p v : Point) (kept : ℕ → Bool) (test : ℕ → Seen → Bool) (numbers : List ℕ)
    (active : List Blocker) → IsActive scene p kept test active
    → IsActive scene p kept (ended_so_far v 0 numbers test) active
ended_none scene p v kept test numbers active a = active_so scene p kept test (ended_so_far v 0 numbers test) active a
    (λ n s within k seen. none (test n s) (same_point s.to v))
  where
    none : (a b : Bool) → a ≡ (a && not (b && false))
    none a b = grind arith

-- the next one doesn't end there
pub ended_other : (scene : Scene) (p v : Point) (kept : ℕ → Bool) (test : ℕ → Seen → Bool) (numbers : List ℕ)
    (active : List Blocker) (k : ℕ) → k < length numbers
    → ((s : Seen) → seen_at p (blockers_of_scene scene) (get_or numbers k 0) ≡ Some s → same_point s.to v ≡ false)
    → IsActive scene p kept (ended_so_far v k numbers test) active
    → IsActive scene p kept (ended_so_far v (k + 1) numbers test) active
ended_other scene p v kept test numbers active k lt other a = active_so scene p kept (ended_so_far v k numbers test)
    (ended_so_far v (k + 1) numbers test) active a
    (λ n s within own is. by_cases (same_point s.to v)
    (λ here. by_cases (get_or numbers k 0 == n)
    (λ e. absurd (never (same_point s.to v) here
    (other s (subst (λ m. seen_at p (blockers_of_scene scene) m ≡ Some s)
    (sym (tested_same_number (get_or numbers k 0) n e)) is))))
    (λ e. ap (λ t. test n s && not (same_point s.to v && t))
    (sym (any_more (λ m. m == n) k numbers 0 lt
    ∙ without_last (is_among_first n k numbers) (get_or numbers k 0 == n) e))))
    (λ away. elsewhere (test n s) (same_point s.to v) (is_among_first n k numbers)
    (is_among_first n (k + 1) numbers) away))
  where
    never : (b : Bool) → b ≡ true → b ≡ false → ⊥
    never b h k = grind arith

    without_last : (a b : Bool) → b ≡ false → (a || b) ≡ a
    without_last a b h = grind arith

    elsewhere : (t b x y : Bool) → b ≡ false → (t && not (b && x)) ≡ (t && not (b && y))
    elsewhere t b x y h = grind arith

-- the next one ends there, and is out
pub ended_next : (scene : Scene) (p v : Point) (kept : ℕ → Bool) (test : ℕ → Seen → Bool) (numbers : List ℕ)
    (active : List Blocker) (k : ℕ) (t : Seen) → k < length numbers
    → seen_at p (blockers_of_scene scene) (get_or numbers k 0) ≡ Some t → same_point t.to v ≡ true
    → IsActive scene p kept (without (get_or numbers k 0) (ended_so_far v k numbers test)) active
    → IsActive scene p kept (ended_so_far v (k + 1) numbers test) active
ended_next scene p v kept test numbers active k t lt known here a = active_so scene p kept
    (without (get_or numbers k 0) (ended_so_far v k numbers test)) (ended_so_far v (k + 1) numbers test) active a
    (λ n s within own is. by_cases (get_or numbers k 0 == n)
    (λ e. let same : t ≡ s = some_same t s
    (sym known ∙ subst (λ m. seen_at p (blockers_of_scene scene) m ≡ Some s)
    (sym (tested_same_number (get_or numbers k 0) n e)) is) in
    gone (test n s) (same_point s.to v) (is_among_first n k numbers) (get_or numbers k 0 == n)
    (subst (λ u. same_point u.to v ≡ true) same here) e
    ∙ ap (λ u. test n s && not (same_point s.to v && u)) (sym (any_more (λ m. m == n) k numbers 0 lt)))
    (λ e. stays (test n s) (same_point s.to v) (is_among_first n k numbers) (get_or numbers k 0 == n) e
    ∙ ap (λ u. test n s && not (same_point s.to v && u)) (sym (any_more (λ m. m == n) k numbers 0 lt))))
  where
    gone : (t b x y : Bool) → b ≡ true → y ≡ true → ((t && not (b && x)) && not y) ≡ (t && not (b && (x || y)))
    gone t b x y h j = grind arith

    stays : (t b x y : Bool) → y ≡ false → ((t && not (b && x)) && not y) ≡ (t && not (b && (x || y)))
    stays t b x y h = grind arith

-- ---- which walls end at a point

same_of_vectors : (p a x : Point) → same_point (vector p a) (vector p x) ≡ true → same_point a x ≡ true
same_of_vectors p a x h = grind (arith, ints)

-- what is seen to end where a corner is does so
pub ends_there : (p x : Point) (w : Segment) (s : Seen) → seen_of p w ≡ Some s → same_point s.to (vector p x) ≡ true
    → ends_at w x ≡ true
ends_there p x w s is h =
    (by_ends (λ v. same_point v (vector p x) ≡ true → ends_at w x ≡ true) p w s
    (λ e. either_first (same_point w.a x) (same_point w.b x) (same_of_vectors p w.a x e))
    (λ e. either_second (same_point w.a x) (same_point w.b x) (same_of_vectors p w.b x e)) is).1 h

pub begins_there : (p x : Point) (w : Segment) (s : Seen) → seen_of p w ≡ Some s → same_point s.from (vector p x)
    ≡ true → ends_at w x ≡ true
begins_there p x w s is h =
    (by_ends (λ v. same_point v (vector p x) ≡ true → ends_at w x ≡ true) p w s
    (λ e. either_first (same_point w.a x) (same_point w.b x) (same_of_vectors p w.a x e))
    (λ e. either_second (same_point w.a x) (same_point w.b x) (same_of_vectors p w.b x e)) is).0 h

among_all : (numbers : List ℕ) (n : ℕ) → Contains numbers n → list_any (λ m. m == n) numbers ≡ true
among_all numbers n c = any_at (λ m. m == n) numbers n
    (record { place = c.0; within = c.1; holds = subst (λ m. (m == n) ≡ true) (sym c.2) (own_number n) })

seen_of_number : (p : Point) (lines : List Segment) (j : ℕ) (t : Seen) → j < length lines → seen_at p lines j ≡ Some t
    → seen_of p (get_or lines j no_segment) ≡ Some t
seen_of_number p lines j t within h = sym (mapped_at (seen_of p) lines j no_segment None within) ∙ h

pub take_whole : {X : Type 0} (k : ℕ) (xs : List X) → length xs ≤ k → take k xs ≡ xs
take_whole zero [] h = refl
take_whole (suc k) [] h = refl
take_whole zero (x ∷ xs) h = absurd (omega arith)
take_whole (suc k) (x ∷ xs) h = ap (λ t. x ∷ t) (take_whole k xs (omega (arith, h)))

-- all that end there are out
pub ended_all : (scene : Scene) (p x : Point) (kept : ℕ → Bool) (test : ℕ → Seen → Bool) (numbers : List ℕ)
    (active : List Blocker) (k : ℕ) → length numbers ≤ k → AreAround scene x numbers
    → IsActive scene p kept (ended_so_far (vector p x) k numbers test) active
    → IsActive scene p kept (unless_ended (vector p x) test) active
ended_all scene p x kept test numbers active k end around a = active_so scene p kept
    (ended_so_far (vector p x) k numbers test) (unless_ended (vector p x) test) active a
    (λ n s within own is. ap (λ t. test n s && not t)
    (guarded (same_point s.to (vector p x)) (is_among_first n k numbers) true
    (λ here. ap (list_any (λ m. m == n)) (take_whole k numbers end)
    ∙ among_all numbers n (around.all n within
    (ends_there p x (get_or (blockers_of_scene scene) n no_segment) s
    (seen_of_number p (blockers_of_scene scene) n s within is) here)))
    ∙ only (same_point s.to (vector p x))))
  where
    only : (b : Bool) → (b && true) ≡ b
    only b = grind arith

-- ---- what begins at v comes

abbrev pub begun_so_far : Point → ℕ → List ℕ → (ℕ → Seen → Bool) → ℕ → Seen → Bool
begun_so_far v k numbers test n s = test n s || (same_point s.from v && is_among_first n k numbers)

pub begun_none : (scene : Scene) (p v : Point) (kept : ℕ → Bool) (test : ℕ → Seen → Bool) (numbers : List ℕ)
    (active : List Blocker) → IsActive scene p kept test active
    → IsActive scene p kept (begun_so_far v 0 numbers test) active
begun_none scene p v kept test numbers active a = active_so scene p kept test (begun_so_far v 0 numbers test) active a
    (λ n s within k seen. none (test n s) (same_point s.from v))
  where
    none : (a b : Bool) → a ≡ (a || (b && false))
    none a b = grind arith

pub begun_other : (scene : Scene) (p v : Point) (kept : ℕ → Bool) (test : ℕ → Seen → Bool) (numbers : List ℕ)
    (active : List Blocker) (k : ℕ) → k < length numbers
    → ((s : Seen) → seen_at p (blockers_of_scene scene) (get_or numbers k 0) ≡ Some s → same_point s.from v ≡ false)
    → IsActive scene p kept (begun_so_far v k numbers test) active
    → IsActive scene p kept (begun_so_far v (k + 1) numbers test) active
begun_other scene p v kept test numbers active k lt other a = active_so scene p kept (begun_so_far v k numbers test)
    (begun_so_far v (k + 1) numbers test) active a
    (λ n s within own is. by_cases (same_point s.from v)
    (λ here. by_cases (get_or numbers k 0 == n)
    (λ e. absurd (never (same_point s.from v) here
    (other s (subst (λ m. seen_at p (blockers_of_scene scene) m ≡ Some s)
    (sym (tested_same_number (get_or numbers k 0) n e)) is))))
    (λ e. ap (λ t. test n s || (same_point s.from v && t))
    (sym (any_more (λ m. m == n) k numbers 0 lt
    ∙ without_last (is_among_first n k numbers) (get_or numbers k 0 == n) e))))
    (λ away. elsewhere (test n s) (same_point s.from v) (is_among_first n k numbers)
    (is_among_first n (k + 1) numbers) away))
  where
    never : (b : Bool) → b ≡ true → b ≡ false → ⊥
    never b h k = grind arith

    without_last : (a b : Bool) → b ≡ false → (a || b) ≡ a
    without_last a b h = grind arith

    elsewhere : (t b x y : Bool) → b ≡ false → (t || (b && x)) ≡ (t || (b && y))
    elsewhere t b x y h = grind arith

pub begun_next : (scene : Scene) (p v : Point) (kept : ℕ → Bool) (test : ℕ → Seen → Bool) (numbers : List ℕ)
    (active : List Blocker) (k : ℕ) (t : Seen) → k < length numbers
    → seen_at p (blockers_of_scene scene) (get_or numbers k 0) ≡ Some t → same_point t.from v ≡ true
    → IsActive scene p kept (beside (get_or numbers k 0) (begun_so_far v k numbers test)) active
    → IsActive scene p kept (begun_so_far v (k + 1) numbers test) active
begun_next scene p v kept test numbers active k t lt known here a = active_so scene p kept
    (beside (get_or numbers k 0) (begun_so_far v k numbers test)) (begun_so_far v (k + 1) numbers test) active a
    (λ n s within own is. by_cases (get_or numbers k 0 == n)
    (λ e. let same : t ≡ s = some_same t s
    (sym known ∙ subst (λ m. seen_at p (blockers_of_scene scene) m ≡ Some s)
    (sym (tested_same_number (get_or numbers k 0) n e)) is) in
    come (test n s) (same_point s.from v) (is_among_first n k numbers) (get_or numbers k 0 == n)
    (subst (λ u. same_point u.from v ≡ true) same here) e
    ∙ ap (λ u. test n s || (same_point s.from v && u)) (sym (any_more (λ m. m == n) k numbers 0 lt)))
    (λ e. stays (test n s) (same_point s.from v) (is_among_first n k numbers) (get_or numbers k 0 == n) e
    ∙ ap (λ u. test n s || (same_point s.from v && u)) (sym (any_more (λ m. m == n) k numbers 0 lt))))
  where
    come : (t b x y : Bool) → b ≡ true → y ≡ true → ((t || (b && x)) || y) ≡ (t || (b && (x || y)))
    come t b x y h j = grind arith

    stays : (t b x y : Bool) → y ≡ false → ((t || (b && x)) || y) ≡ (t || (b && (x || y)))
    stays t b x y h = grind arith

pub begun_all : (scene : Scene) (p x : Point) (kept : ℕ → Bool) (test : ℕ → Seen → Bool) (numbers : List ℕ)
    (active : List Blocker) (k : ℕ) → length numbers ≤ k → AreAround scene x numbers
    → IsActive scene p kept (begun_so_far (vector p x) k numbers test) active
    → IsActive scene p kept (or_begun (vector p x) test) active
begun_all scene p x kept test numbers active k end around a = active_so scene p kept
    (begun_so_far (vector p x) k numbers test) (or_begun (vector p x) test) active a
    (λ n s within own is. ap (λ t. test n s || t)
    (guarded (same_point s.from (vector p x)) (is_among_first n k numbers) true
    (λ here. ap (list_any (λ m. m == n)) (take_whole k numbers end)
    ∙ among_all numbers n (around.all n within
    (begins_there p x (get_or (blockers_of_scene scene) n no_segment) s
    (seen_of_number p (blockers_of_scene scene) n s within is) here)))
    ∙ only (same_point s.from (vector p x))))
  where
    only : (b : Bool) → (b && true) ≡ b
    only b = grind arith

-- what the direction spans so far, it spans with those that begin
pub spans_begun : (scene : Scene) (p v way : Point) (kept : ℕ → Bool) (test : ℕ → Seen → Bool) (numbers : List ℕ)
    (k : ℕ) → SpansAll scene p kept test way → SpansAll scene p kept (λ n s. same_point s.from v) way
    → SpansAll scene p kept (begun_so_far v k numbers test) way
spans_begun scene p v way kept test numbers k old new n s within own is h = by_cases (test n s)
    (λ e. old n s within own is e)
    (λ e. new n s within own is (here (test n s) (same_point s.from v) (is_among_first n k numbers) e h))
  where
    here : (t b x : Bool) → t ≡ false → (t || (b && x)) ≡ true → b ≡ true
    here t b x h k = grind arith

-- ---- a group of corners

pub ended_group_none : (scene : Scene) (p : Point) (kept : ℕ → Bool) (test : ℕ → Seen → Bool) (group : List ℕ)
    (active : List Blocker) → IsActive scene p kept test active
    → IsActive scene p kept (λ n s. test n s && not (ends_among p scene.corners (take 0 group) s)) active
ended_group_none scene p kept test group active a = active_so scene p kept test
    (λ n s. test n s && not (ends_among p scene.corners (take 0 group) s)) active a
    (λ n s within own is. none (test n s))
  where
    none : (a : Bool) → a ≡ (a && not false)
    none a = grind arith

pub ended_group_step : (scene : Scene) (p : Point) (kept : ℕ → Bool) (test : ℕ → Seen → Bool) (group : List ℕ)
    (k corner : ℕ) (active : List Blocker) → k < length group → corner ≡ corner_of (get_or group k 0)
    → IsActive scene p kept (unless_ended (way_at p scene.corners corner)
    (λ n s. test n s && not (ends_among p scene.corners (take k group) s))) active
    → IsActive scene p kept (λ n s. test n s && not (ends_among p scene.corners (take (k + 1) group) s)) active
ended_group_step scene p kept test group k corner active lt e a =
    active_so scene p kept (unless_ended (way_at p scene.corners corner)
    (λ n s. test n s && not (ends_among p scene.corners (take k group) s)))
    (λ n s. test n s && not (ends_among p scene.corners (take (k + 1) group) s)) active a
    (λ n s within own is.
    ap (λ c. (test n s && not (ends_among p scene.corners (take k group) s))
    && not (same_point s.to (way_at p scene.corners c))) e
    ∙ join (test n s) (ends_among p scene.corners (take k group) s)
    (same_point s.to (way_at p scene.corners (corner_of (get_or group k 0))))
    ∙ ap (λ t. test n s && not t) (sym
    (any_more (λ e. same_point s.to (way_at p scene.corners (corner_of e))) k group 0 lt)))
  where
    join : (a b c : Bool) → ((a && not b) && not c) ≡ (a && not (b || c))
    join a b c = grind arith

pub ended_group_all : (scene : Scene) (p : Point) (kept : ℕ → Bool) (test : ℕ → Seen → Bool) (group : List ℕ) (k : ℕ)
    (active : List Blocker) → length group ≤ k
    → IsActive scene p kept (λ n s. test n s && not (ends_among p scene.corners (take k group) s)) active
    → IsActive scene p kept (λ n s. test n s && not (ends_among p scene.corners group s)) active
ended_group_all scene p kept test group k active end a = subst
    (λ g. IsActive scene p kept (λ n s. test n s && not (ends_among p scene.corners g s)) active)
    (take_whole k group end) a

pub begun_group_none : (scene : Scene) (p : Point) (kept : ℕ → Bool) (test : ℕ → Seen → Bool) (group : List ℕ)
    (active : List Blocker) → IsActive scene p kept test active
    → IsActive scene p kept (λ n s. test n s || begins_among p scene.corners (take 0 group) s) active
begun_group_none scene p kept test group active a = active_so scene p kept test
    (λ n s. test n s || begins_among p scene.corners (take 0 group) s) active a
    (λ n s within own is. none (test n s))
  where
    none : (a : Bool) → a ≡ (a || false)
    none a = grind arith

pub begun_group_step : (scene : Scene) (p : Point) (kept : ℕ → Bool) (test : ℕ → Seen → Bool) (group : List ℕ)
    (k corner : ℕ) (active : List Blocker) → k < length group → corner ≡ corner_of (get_or group k 0)
    → IsActive scene p kept (or_begun (way_at p scene.corners corner)
    (λ n s. test n s || begins_among p scene.corners (take k group) s)) active
    → IsActive scene p kept (λ n s. test n s || begins_among p scene.corners (take (k + 1) group) s) active
begun_group_step scene p kept test group k corner active lt e a =
    active_so scene p kept (or_begun (way_at p scene.corners corner)
    (λ n s. test n s || begins_among p scene.corners (take k group) s))
    (λ n s. test n s || begins_among p scene.corners (take (k + 1) group) s) active a
    (λ n s within own is.
    ap (λ c. (test n s || begins_among p scene.corners (take k group) s)
    || same_point s.from (way_at p scene.corners c)) e
    ∙ join (test n s) (begins_among p scene.corners (take k group) s)
    (same_point s.from (way_at p scene.corners (corner_of (get_or group k 0))))
    ∙ ap (λ t. test n s || t) (sym
    (any_more (λ e. same_point s.from (way_at p scene.corners (corner_of e))) k group 0 lt)))
  where
    join : (a b c : Bool) → ((a || b) || c) ≡ (a || (b || c))
    join a b c = grind arith

pub begun_group_all : (scene : Scene) (p : Point) (kept : ℕ → Bool) (test : ℕ → Seen → Bool) (group : List ℕ) (k : ℕ)
    (active : List Blocker) → length group ≤ k
    → IsActive scene p kept (λ n s. test n s || begins_among p scene.corners (take k group) s) active
    → IsActive scene p kept (λ n s. test n s || begins_among p scene.corners group s) active
begun_group_all scene p kept test group k active end a = subst
    (λ g. IsActive scene p kept (λ n s. test n s || begins_among p scene.corners g s) active) (take_whole k group end) a

-- the direction spans what begins at one of the group
pub spans_one : (scene : Scene) (p way : Point) (kept : ℕ → Bool) (group : List ℕ) (k corner : ℕ) → k < length group
    → corner ≡ corner_of (get_or group k 0)
    → SpansAll scene p kept (λ n s. begins_among p scene.corners group s) way
    → SpansAll scene p kept (λ n s. same_point s.from (way_at p scene.corners corner)) way
spans_one scene p way kept group k corner lt e all n s within own is h = all n s within own is
    (any_at (λ t. same_point s.from (way_at p scene.corners (corner_of t))) group 0
    (record { place = k; within = lt; holds = subst (λ c. same_point s.from (way_at p scene.corners c) ≡ true) e h }))

any_of_first : {X : Type 0} (test : X → Bool) (k : ℕ) (xs : List X) → list_any test (take k xs) ≡ true
    → list_any test xs ≡ true
any_of_first test zero xs h = absurd (grind arith)
any_of_first test (suc k) [] h = h
any_of_first test (suc k) (x ∷ xs) h = by_cases (test x)
    (λ t. either_first (test x) (list_any test xs) t)
    (λ f. either_second (test x) (list_any test xs)
    (any_of_first test k xs (rest (test x) (list_any test (take k xs)) f h)))
  where
    rest : (a b : Bool) → a ≡ false → (a || b) ≡ true → b ≡ true
    rest a b f h = grind arith

pub spans_group : (scene : Scene) (p way : Point) (kept : ℕ → Bool) (test : ℕ → Seen → Bool) (group : List ℕ) (k : ℕ)
    → SpansAll scene p kept test way
    → SpansAll scene p kept (λ n s. begins_among p scene.corners group s) way
    → SpansAll scene p kept (λ n s. test n s || begins_among p scene.corners (take k group) s) way
spans_group scene p way kept test group k old new n s within own is h = by_cases (test n s)
    (λ t. old n s within own is t)
    (λ f. new n s within own is (any_of_first (λ e. same_point s.from (way_at p scene.corners (corner_of e))) k group
    (rest (test n s) (begins_among p scene.corners (take k group) s) f h)))
  where
    rest : (a b : Bool) → a ≡ false → (a || b) ≡ true → b ≡ true
    rest a b f h = grind arith

-- one more number, as the code does it
pub ended_more : (scene : Scene) (p v : Point) (kept : ℕ → Bool) (test : ℕ → Seen → Bool) (numbers : List ℕ)
    (active : List Blocker) (k number : ℕ) → k < length numbers → number ≡ get_or numbers k 0
    → IsActive scene p kept (λ n s. ended_so_far v k numbers test n s && not ((number == n) && same_point s.to v))
    active → IsActive scene p kept (ended_so_far v (k + 1) numbers test) active
ended_more scene p v kept test numbers active k number lt e a =
    active_so scene p kept (λ n s. ended_so_far v k numbers test n s && not ((number == n) && same_point s.to v))
    (ended_so_far v (k + 1) numbers test) active a
    (λ n s within own is. join (test n s) (same_point s.to v) (is_among_first n k numbers) (number == n)
    ∙ ap (λ m. test n s && not (same_point s.to v && (is_among_first n k numbers || (m == n)))) e
    ∙ ap (λ t. test n s && not (same_point s.to v && t)) (sym (any_more (λ m. m == n) k numbers 0 lt)))
  where
    join : (t b x y : Bool) → ((t && not (b && x)) && not (y && b)) ≡ (t && not (b && (x || y)))
    join t b x y = grind arith

pub begun_more : (scene : Scene) (p v : Point) (kept : ℕ → Bool) (test : ℕ → Seen → Bool) (numbers : List ℕ)
    (active : List Blocker) (k number : ℕ) → k < length numbers → number ≡ get_or numbers k 0
    → IsActive scene p kept (λ n s. begun_so_far v k numbers test n s || ((number == n) && same_point s.from v))
    active → IsActive scene p kept (begun_so_far v (k + 1) numbers test) active
begun_more scene p v kept test numbers active k number lt e a =
    active_so scene p kept (λ n s. begun_so_far v k numbers test n s || ((number == n) && same_point s.from v))
    (begun_so_far v (k + 1) numbers test) active a
    (λ n s within own is. join (test n s) (same_point s.from v) (is_among_first n k numbers) (number == n)
    ∙ ap (λ m. test n s || (same_point s.from v && (is_among_first n k numbers || (m == n)))) e
    ∙ ap (λ t. test n s || (same_point s.from v && t)) (sym (any_more (λ m. m == n) k numbers 0 lt)))
  where
    join : (t b x y : Bool) → ((t || (b && x)) || (y && b)) ≡ (t || (b && (x || y)))
    join t b x y = grind arith

-- the one of the number isn't seen, or doesn't end there
pub ended_never : (scene : Scene) (p v : Point) (kept : ℕ → Bool) (test : ℕ → Seen → Bool) (active : List Blocker)
    (number : ℕ)
    → ((s : Seen) → seen_at p (blockers_of_scene scene) number ≡ Some s → same_point s.to v ≡ false)
    → IsActive scene p kept test active
    → IsActive scene p kept (λ n s. test n s && not ((number == n) && same_point s.to v)) active
ended_never scene p v kept test active number other a = active_so scene p kept test
    (λ n s. test n s && not ((number == n) && same_point s.to v)) active a
    (λ n s within own is. by_cases (number == n)
    (λ e. all_of (test n s) (number == n) (same_point s.to v)
    (other s (subst (λ m. seen_at p (blockers_of_scene scene) m ≡ Some s) (sym (tested_same_number number n e)) is)))
    (λ e. none_of (test n s) (number == n) (same_point s.to v) e))
  where
    all_of : (t y b : Bool) → b ≡ false → t ≡ (t && not (y && b))
    all_of t y b h = grind arith

    none_of : (t y b : Bool) → y ≡ false → t ≡ (t && not (y && b))
    none_of t y b h = grind arith

-- it ends there, and is out
pub ended_now : (scene : Scene) (p v : Point) (kept : ℕ → Bool) (test : ℕ → Seen → Bool) (active : List Blocker)
    (number : ℕ) (t : Seen) → seen_at p (blockers_of_scene scene) number ≡ Some t → same_point t.to v ≡ true
    → IsActive scene p kept (without number test) active
    → IsActive scene p kept (λ n s. test n s && not ((number == n) && same_point s.to v)) active
ended_now scene p v kept test active number t known here a = active_so scene p kept (without number test)
    (λ n s. test n s && not ((number == n) && same_point s.to v)) active a
    (λ n s within own is. by_cases (number == n)
    (λ e. let same : t ≡ s = some_same t s
    (sym known ∙ subst (λ m. seen_at p (blockers_of_scene scene) m ≡ Some s) (sym (tested_same_number number n e)) is)
    in
    both_of_them (test n s) (number == n) (same_point s.to v) (subst (λ u. same_point u.to v ≡ true) same here))
    (λ e. none_of (test n s) (number == n) (same_point s.to v) e))
  where
    both_of_them : (t y b : Bool) → b ≡ true → (t && not y) ≡ (t && not (y && b))
    both_of_them t y b h = grind arith

    none_of : (t y b : Bool) → y ≡ false → (t && not y) ≡ (t && not (y && b))
    none_of t y b h = grind arith

pub begun_never : (scene : Scene) (p v : Point) (kept : ℕ → Bool) (test : ℕ → Seen → Bool) (active : List Blocker)
    (number : ℕ)
    → ((s : Seen) → seen_at p (blockers_of_scene scene) number ≡ Some s → same_point s.from v ≡ false)
    → IsActive scene p kept test active
    → IsActive scene p kept (λ n s. test n s || ((number == n) && same_point s.from v)) active
begun_never scene p v kept test active number other a = active_so scene p kept test
    (λ n s. test n s || ((number == n) && same_point s.from v)) active a
    (λ n s within own is. by_cases (number == n)
    (λ e. all_of (test n s) (number == n) (same_point s.from v)
    (other s (subst (λ m. seen_at p (blockers_of_scene scene) m ≡ Some s) (sym (tested_same_number number n e)) is)))
    (λ e. none_of (test n s) (number == n) (same_point s.from v) e))
  where
    all_of : (t y b : Bool) → b ≡ false → t ≡ (t || (y && b))
    all_of t y b h = grind arith

    none_of : (t y b : Bool) → y ≡ false → t ≡ (t || (y && b))
    none_of t y b h = grind arith

pub begun_now : (scene : Scene) (p v : Point) (kept : ℕ → Bool) (test : ℕ → Seen → Bool) (active : List Blocker)
    (number : ℕ) (t : Seen) → seen_at p (blockers_of_scene scene) number ≡ Some t → same_point t.from v ≡ true
    → IsActive scene p kept (beside number test) active
    → IsActive scene p kept (λ n s. test n s || ((number == n) && same_point s.from v)) active
begun_now scene p v kept test active number t known here a = active_so scene p kept (beside number test)
    (λ n s. test n s || ((number == n) && same_point s.from v)) active a
    (λ n s within own is. by_cases (number == n)
    (λ e. let same : t ≡ s = some_same t s
    (sym known ∙ subst (λ m. seen_at p (blockers_of_scene scene) m ≡ Some s) (sym (tested_same_number number n e)) is)
    in
    both_of_them (test n s) (number == n) (same_point s.from v) (subst (λ u. same_point u.from v ≡ true) same here))
    (λ e. none_of (test n s) (number == n) (same_point s.from v) e))
  where
    both_of_them : (t y b : Bool) → b ≡ true → (t || y) ≡ (t || (y && b))
    both_of_them t y b h = grind arith

    none_of : (t y b : Bool) → y ≡ false → (t || y) ≡ (t || (y && b))
    none_of t y b h = grind arith

-- it is left out
pub begun_left_out : (scene : Scene) (p v : Point) (kept : ℕ → Bool) (test : ℕ → Seen → Bool) (active : List Blocker)
    (number : ℕ) → kept number ≡ false → IsActive scene p kept test active
    → IsActive scene p kept (λ n s. test n s || ((number == n) && same_point s.from v)) active
begun_left_out scene p v kept test active number out a = active_so scene p kept test
    (λ n s. test n s || ((number == n) && same_point s.from v)) active a
    (λ n s within own is. by_cases (number == n)
    (λ e. absurd (clash (kept n) own (subst (λ m. kept m ≡ false) (tested_same_number number n e) out)))
    (λ e. none_of (test n s) (number == n) (same_point s.from v) e))
  where
    none_of : (t y b : Bool) → y ≡ false → t ≡ (t || (y && b))
    none_of t y b h = grind arith
