-- The wall or screen that a ray meets first is the number of the first.
--
-- What a ray hits, it spans (`hit_at`). The first is hit, and each other that is spanned is hit after it. So the first
-- is nearest by the definition, that is, none is hit before it; and no other is nearest, since the first is hit before
-- it. A list that has one element that passes a test finds its number. Where none is spanned, none is hit.
use Rattle.std.proofs.Common.{◌≡◌, ◌≢◌, ℕ, ◌+◌, ◌<◌, ◌∙◌, [], ◌∷◌, ap, List, suc, arith, zero, length, get_or, nat_lt}
use Rattle.std.proofs.Common.{refl, sym, subst}
use Rattle.std.specs.List.{position_or_len, position, list_any, filter_map, cons_option}
use Rattle.std.specs.Prelude.{◌||◌, Bool, true, cond, not, false, Some, None, Option}
use Rattle.plane_spec.specs.Fractions.{Fraction, is_before}
use Rattle.plane_spec.specs.declared.Point.{Point}
use Rattle.plane_spec.specs.declared.Segment.{Segment}
use Rattle.sight_spec.specs.Scene.{Scene, blockers_of_scene}
use Rattle.sight_spec.specs.Stops.{blocker_hit, is_nearest, near_wall_of}
use Rattle.front_laws.proofs.Hits.{hit_is_where}
use Rattle.sight_spec.specs.Isovist.{no_segment}
use Rattle.front_laws.proofs.Lists.{any_is, by_same, any_at}
use Rattle.front_laws.proofs.Tests.{number_less_tested, mapped_at, by_cases, never_equal}
use Rattle.front_laws.specs.Seen.{seen_of, hit_where, seen_at, Seen, hit_of, spans}
use Rattle.sweep_laws.proofs.Least.{one_way, never_self}
use Rattle.sweep_laws.specs.First.{IsFront, IsBare, IsFirst}
use Rattle.sweep_laws.specs.First.{number_of}

-- ---- the first place

step_first : {X : Type 0} (test : X → Bool) (x : X) (xs : List X) → test x ≡ true → position_or_len test (x ∷ xs) ≡ 0
step_first test x xs h = ap (λ t. cond (not t) (1 + position_or_len test xs) 0) h

one_more : (n : ℕ) → 1 + n ≡ suc n
one_more n = omega arith

step_next : {X : Type 0} (test : X → Bool) (x : X) (xs : List X) → test x ≡ false → position_or_len test (x ∷ xs)
    ≡ suc (position_or_len test xs)
step_next test x xs h = ap (λ t. cond (not t) (1 + position_or_len test xs) 0) h ∙ one_more (position_or_len test xs)

place_is : {X : Type 0} (test : X → Bool) (xs : List X) (k : ℕ) (d : X) → k < length xs → test (get_or xs k d) ≡ true
    → ((j : ℕ) → j < k → test (get_or xs j d) ≡ false) → position_or_len test xs ≡ k
place_is test [] k d lt h f = absurd (omega arith)
place_is test (x ∷ xs) zero d lt h f = step_first test x xs h
place_is test (x ∷ xs) (suc k) d lt h f =
    step_next test x xs (f 0 (omega arith))
    ∙ ap suc (place_is test xs k d (omega arith) h (λ j l. f (suc j) (omega arith)))

position_is : {X : Type 0} (test : X → Bool) (xs : List X) (k : ℕ) (d : X) → k < length xs → test (get_or xs k d)
    ≡ true → ((j : ℕ) → j < k → test (get_or xs j d) ≡ false) → position test xs ≡ Some k
position_is test xs k d lt h f =
    let e = place_is test xs k d lt h f in
    ap (λ t. cond (nat_lt t (length xs)) (Some t) None) e
    ∙ ap (λ t. cond t (Some k) None) (number_less_tested k (length xs) lt)

no_place : {X : Type 0} (test : X → Bool) (xs : List X) (d : X)
    → ((j : ℕ) → j < length xs → test (get_or xs j d) ≡ false) → position_or_len test xs ≡ length xs
no_place test [] d f = refl
no_place test (x ∷ xs) d f = step_next test x xs (f 0 (omega arith))
    ∙ ap suc (no_place test xs d (λ j l. f (suc j) (omega arith)))

no_position : {X : Type 0} (test : X → Bool) (xs : List X) (d : X)
    → ((j : ℕ) → j < length xs → test (get_or xs j d) ≡ false) → position test xs ≡ None
no_position test xs d f = ap (λ t. cond (nat_lt t (length xs)) (Some t) None) (no_place test xs d f)
    ∙ ap (λ t. cond t (Some (length xs)) None) (never (length xs))
  where
    never : (n : ℕ) → nat_lt n n ≡ false
    never n = grind arith

-- ---- hits

abbrev pub passes_hit : (Fraction → Bool) → Option Fraction → Bool
passes_hit test None = false
passes_hit test (Some h) = test h

pub any_found : {X : Type 0} (test : Fraction → Bool) (f : X → Option Fraction) (xs : List X)
    → list_any test (filter_map f xs) ≡ list_any (λ x. passes_hit test (f x)) xs
any_found test f [] = refl
any_found test f (x ∷ xs) = found_cons (f x) (filter_map f xs)
    ∙ ap (λ t. passes_hit test (f x) || t) (any_found test f xs)
  where
    found_cons : (o : Option Fraction) (hs : List Fraction) → list_any test (cons_option o hs)
        ≡ (passes_hit test o || list_any test hs)
    found_cons None hs = refl
    found_cons (Some h) hs = refl

none_nearest : (p d : Point) (blockers : List Segment) (w : Segment) → blocker_hit p d w ≡ None
    → is_nearest p d blockers w ≡ false
none_nearest p d blockers w h = rw h refl

hit_nearest : (p d : Point) (blockers : List Segment) (w : Segment) (h : Fraction) → blocker_hit p d w ≡ Some h
    → is_nearest p d blockers w ≡ not (list_any (λ o. is_before o h) (filter_map (blocker_hit p d) blockers))
hit_nearest p d blockers w h e = rw e refl

-- the hit of the wall or screen of the number
pub hit_at : (p d : Point) (blockers : List Segment) (k : ℕ) → k < length blockers
    → blocker_hit p d (get_or blockers k no_segment) ≡ hit_where d (seen_at p blockers k)
hit_at p d blockers k within = hit_is_where p d (get_or blockers k no_segment)
    ∙ ap (hit_where d) (sym (mapped_at (seen_of p) blockers k no_segment None within))

pub front_hit : (p d : Point) (blockers : List Segment) (k : ℕ) (s : Seen) → IsFront p d blockers k s
    → blocker_hit p d (get_or blockers k no_segment) ≡ Some (hit_of d s)
front_hit p d blockers k s front = hit_at p d blockers k front.within ∙ ap (hit_where d) front.seen
    ∙ ap (λ t. cond t (Some (hit_of d s)) None) front.spanned

-- no other is hit, or it is hit later
pub data Later (d : Point) (s : Seen) (o : Option Fraction) : Type 0 where
  missed : o ≡ None → Later d s o
  later : (h : Fraction) → o ≡ Some h → is_before (hit_of d s) h ≡ true → Later d s o

later_seen : (d : Point) (s : Seen) (o : Option Seen)
    → ((t : Seen) → o ≡ Some t → spans d t ≡ true → is_before (hit_of d s) (hit_of d t) ≡ true)
    → Later d s (hit_where d o)
later_seen d s None f = missed refl
later_seen d s (Some t) f = by_cases (spans d t)
    (λ h. later (hit_of d t) (ap (λ b. cond b (Some (hit_of d t)) None) h) (f t refl h))
    (λ h. missed (ap (λ b. cond b (Some (hit_of d t)) None) h))

pub others_later : (p d : Point) (blockers : List Segment) (k j : ℕ) (s : Seen) → IsFront p d blockers k s
    → j < length blockers → j ≢ k → Later d s (blocker_hit p d (get_or blockers j no_segment))
others_later p d blockers k j s front within other =
    subst (Later d s) (sym (hit_at p d blockers j within))
    (later_seen d s (seen_at p blockers j) (λ t e h. front.nearest j t within other e h))

-- nothing is hit before the first
not_before : (d : Point) (s : Seen) (o : Option Fraction) → Later d s o → passes_hit (λ h. is_before h (hit_of d s)) o
    ≡ false
not_before d s o (missed e) = ap (passes_hit (λ h. is_before h (hit_of d s))) e
not_before d s o (later h e before) = ap (passes_hit (λ h. is_before h (hit_of d s))) e ∙ one_way (hit_of d s) h before

pub none_before_front : (p d : Point) (blockers : List Segment) (k : ℕ) (s : Seen) → IsFront p d blockers k s
    → list_any (λ o. is_before o (hit_of d s)) (filter_map (blocker_hit p d) blockers) ≡ false
none_before_front p d blockers k s front =
    any_found (λ o. is_before o (hit_of d s)) (blocker_hit p d) blockers
    ∙ any_is (λ w. passes_hit (λ o. is_before o (hit_of d s)) (blocker_hit p d w)) blockers no_segment false
    (λ some. sym (by_same some.place k
    (λ e. ap (λ t. passes_hit (λ o. is_before o (hit_of d s)) (blocker_hit p d (get_or blockers t no_segment))) e
    ∙ ap (passes_hit (λ o. is_before o (hit_of d s))) (front_hit p d blockers k s front)
    ∙ never_self (hit_of d s))
    (λ n. not_before d s _ (others_later p d blockers k some.place s front some.within n))) ∙ some.holds)
    (λ h. absurd (grind arith))

front_nearest : (p d : Point) (blockers : List Segment) (k : ℕ) (s : Seen) → IsFront p d blockers k s
    → is_nearest p d blockers (get_or blockers k no_segment) ≡ true
front_nearest p d blockers k s front = hit_nearest p d blockers (get_or blockers k no_segment) (hit_of d s)
    (front_hit p d blockers k s front) ∙ ap not (none_before_front p d blockers k s front)

other_not : (p d : Point) (blockers : List Segment) (k j : ℕ) (s : Seen) → IsFront p d blockers k s
    → Later d s (blocker_hit p d (get_or blockers j no_segment)) → is_nearest p d blockers (get_or blockers j no_segment)
    ≡ false
other_not p d blockers k j s front (missed e) = none_nearest p d blockers (get_or blockers j no_segment) e
other_not p d blockers k j s front (later h e before) =
    hit_nearest p d blockers (get_or blockers j no_segment) h e
    ∙ ap not (any_found (λ o. is_before o h) (blocker_hit p d) blockers
    ∙ any_at (λ w. passes_hit (λ o. is_before o h) (blocker_hit p d w)) blockers no_segment
    (record {
      place = k;
      within = front.within;
      holds = ap (passes_hit (λ o. is_before o h))
          (front_hit p d blockers k s front) ∙ before;
    }))

pub bare_hit : (p d : Point) (blockers : List Segment) (j : ℕ) → IsBare p d blockers → j < length blockers
    → blocker_hit p d (get_or blockers j no_segment) ≡ None
bare_hit p d blockers j bare within = hit_at p d blockers j within
    ∙ unseen d (seen_at p blockers j) (λ t e. bare.none j t within e)
  where
    unseen : (d : Point) (o : Option Seen) → ((t : Seen) → o ≡ Some t → spans d t ≡ false) → hit_where d o ≡ None
    unseen d None f = refl
    unseen d (Some t) f = ap (λ b. cond b (Some (hit_of d t)) None) (f t refl)

-- the number that is answered to a ray
pub near_wall_is : (scene : Scene) (p d : Point) (first : Option (ℕ × Seen)) → IsFirst scene p d first
    → near_wall_of scene p d ≡ number_of first
unfolding near_wall_of
near_wall_is scene p d None bare =
    let blockers = blockers_of_scene scene in
    no_position (is_nearest p d blockers) blockers no_segment
    (λ j within. none_nearest p d blockers (get_or blockers j no_segment) (bare_hit p d blockers j bare within))
near_wall_is scene p d (Some first) front =
    let blockers = blockers_of_scene scene in
    position_is (is_nearest p d blockers) blockers first.0 no_segment front.within
    (front_nearest p d blockers first.0 first.1 front)
    (λ j lt. other_not p d blockers first.0 j first.1 front
    (others_later p d blockers first.0 j first.1 front (below j first.0 (length blockers) lt front.within)
    (λ e. never_equal j first.0 lt e)))
  where
    below : (j k n : ℕ) → j < k → k < n → j < n
    below j k n h l = omega (arith, h, l)
