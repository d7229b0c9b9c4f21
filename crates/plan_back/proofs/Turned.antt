-- Whether two parts of a plan stand apart doesn't depend on which is named first.
use Rattle.std.specs.Prelude.{◌≡◌, ℕ, ℤ, Bool, true, false, cond, not, ◌&&◌, List, [], ◌∷◌, ◌++◌, filter}
use Rattle.std.specs.List.{list_any}
use Rattle.std.specs.Ordering.{int_eq}
use Rattle.std.specs.Str.{bytes_eq}
use Rattle.std.proofs.Common.{refl, sym, ap, ap₂, ◌∙◌}
use Rattle.std.proofs.Math.Bool.{and_comm, not-not}
use Rattle.std.proofs.lemmas.Bool.Decides.{Decides-int_eq}
use Rattle.std.proofs.lemmas.List.{append-nil}
use Rattle.std.proofs.lemmas.List.Elements.{filter-append}
use Rattle.std.proofs.lemmas.Slice.Eq.{bytes_eq-Decides}
use Rattle.plane_spec.specs.declared.Point.{Point}
use Rattle.plane_spec.specs.Lists.{pairs}
use Rattle.plane_spec.specs.Vectors.{same_point}
use Rattle.plane_spec.specs.Segments.{is_on_segment}
use Rattle.plane_spec.proofs.Laws.{touching_is_symmetric}
use Rattle.plan_spec.specs.declared.item.Screen.{Screen}
use Rattle.plan_spec.specs.declared.item.Route.{Route}
use Rattle.plan_spec.specs.Plan.{Obstacle}
use Rattle.plan_spec.specs.Accepted.{each_two, do_segments_overlap, shared_ends, obstacles_apart, screens_apart, routes_apart}
use Rattle.plan_laws.proofs.Meeting.{meeting_turned}
use Rattle.list_laws.proofs.Tests.{list_all_not}
use Rattle.plan_back.proofs.Places.{each_two_moved}

-- ---- names

by_truth : (a b : Bool) → (a ≡ true → b ≡ true) → (b ≡ true → a ≡ true) → a ≡ b
by_truth true true there back = refl
by_truth true false there back = sym (there refl)
by_truth false true there back = back refl
by_truth false false there back = refl

pub names_turned : (a b : List ℕ) → bytes_eq a b ≡ bytes_eq b a
names_turned a b =
    by_truth (bytes_eq a b) (bytes_eq b a)
    (λ e. (bytes_eq-Decides b a).1 (sym ((bytes_eq-Decides a b).0 e)))
    (λ e. (bytes_eq-Decides a b).1 (sym ((bytes_eq-Decides b a).0 e)))

-- a name is itself
pub name_itself : (a : List ℕ) → bytes_eq a a ≡ true
name_itself a = (bytes_eq-Decides a a).1 refl

-- ---- what two segments share

equal_turned : (x y : ℤ) → int_eq x y ≡ int_eq y x
equal_turned x y =
    by_truth (int_eq x y) (int_eq y x)
    (λ e. (Decides-int_eq y x).1 (sym ((Decides-int_eq x y).0 e)))
    (λ e. (Decides-int_eq x y).1 (sym ((Decides-int_eq y x).0 e)))

-- the first of a list, moved to its end
rotated : {X : Type 0} (r : X → X → Bool) → ((a b : X) → r a b ≡ r b a) → (test : X → Bool) (x : X) (xs : List X)
    → each_two r (filter test (x ∷ xs)) ≡ each_two r (filter test (xs ++ x ∷ []))
rotated r turned test x xs =
    by (test x)
    ∙ ap (each_two r) (sym (filter-append test xs (x ∷ [])))
  where
    by : (t : Bool) → each_two r (cond t (x ∷ filter test xs) (filter test xs)) ≡ each_two r (filter test xs ++ cond t (x ∷ []) [])
    by true = each_two_moved [] x (filter test xs) r turned
    by false = ap (each_two r) (sym (append-nil (filter test xs)))

same_turned : (p q : Point) → same_point p q ≡ same_point q p
same_turned p q = ap₂ (λ s t. s && t) (equal_turned p.x q.x) (equal_turned p.y q.y)

-- two segments share no two different ends where each two of the shared ones are one point
abbrev one_point : Point → Point → Bool
one_point p q = not (not (same_point p q))

agreeing : {X : Type 0} (p q : X → Bool) → ((x : X) → p x ≡ q x) → (xs : List X) → filter p xs ≡ filter q xs
agreeing p q h [] = refl
agreeing p q h (x ∷ xs) = ap₂ (λ t r. cond t (x ∷ r) r) (h x) (agreeing p q h xs)

pub overlap_turned : (a b c d : Point) → do_segments_overlap a b c d ≡ do_segments_overlap c d a b
unfolding do_segments_overlap
overlap_turned a b c d =
    let differ : Point × Point → Bool = λ e. not (same_point e.0 e.1) in
    let shared : Point → Bool = λ x. is_on_segment x a b && is_on_segment x c d in
    let shared_too : Point → Bool = λ x. is_on_segment x c d && is_on_segment x a b in
    let turned : (p q : Point) → one_point p q ≡ one_point q p = λ p q. ap (λ t. not (not t)) (same_turned p q) in
    let alike : each_two one_point (shared_ends a b c d) ≡ each_two one_point (shared_ends c d a b) =
    rotated one_point turned shared a (b ∷ c ∷ d ∷ [])
    ∙ rotated one_point turned shared b (c ∷ d ∷ a ∷ [])
    ∙ ap (each_two one_point) (agreeing shared shared_too (λ x. and_comm (is_on_segment x a b) (is_on_segment x c d)) (c ∷ d ∷ a ∷ b ∷ [])) in
    sym (not-not (list_any differ (pairs (shared_ends a b c d))))
    ∙ ap not (sym (list_all_not differ (pairs (shared_ends a b c d))) ∙ alike ∙ list_all_not differ (pairs (shared_ends c d a b)))
    ∙ not-not (list_any differ (pairs (shared_ends c d a b)))

-- ---- parts of a plan

pub obstacles_turned : (o q : Obstacle) → obstacles_apart o q ≡ obstacles_apart q o
obstacles_turned o q = ap₂ (λ m n. not m && not n) (meeting_turned o.points q.points) (names_turned o.name q.name)

pub screens_turned : (s t : Screen) → screens_apart s t ≡ screens_apart t s
screens_turned s t = ap₂ (λ m n. not m && not n) (touching_is_symmetric s.from s.to t.from t.to) (names_turned s.name t.name)

pub routes_turned : (r q : Route) → routes_apart r q ≡ routes_apart q r
routes_turned r q = ap₂ (λ m n. not m && not n) (overlap_turned r.from r.to q.from q.to) (names_turned r.name q.name)
