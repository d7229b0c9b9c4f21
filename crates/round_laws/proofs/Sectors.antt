-- The steps of the round: up to the next group of corners, a group with a sector, and a group without one.
--
-- Between two groups no kept blocker begins or ends, so the list, which holds what is open, is what each direction
-- between spans (`first_between`), and its first is the first of all, since what is left out has a kept blocker before
-- it (`first_without`). That first is what the last sector says of what comes after it; and all corners there are
-- behind it, so nothing else need be said. At a group the list without what ends there is what the group's direction
-- spans (`first_at`): a sector says its first, and the nearest corners. Where the first is the same before, at and
-- after the group, and has all of the group's corners behind it, the sectors so far say what is so, without one more.
-- At the end of the arc the sectors are a view.
use Rattle.std.proofs.Common.{◌≡◌, ℕ, ◌+◌, ◌<◌, ◌≤◌, ◌==◌, ◌∙◌, [], ◌∷◌, ◌++◌, arith, suc, List, ap, refl, nat_lt, zero}
use Rattle.std.proofs.Common.{length, get_or, sym, subst}
use Rattle.std.specs.Option.{option_map}
use Rattle.std.specs.Prelude.{false, All, cond, Option, Bool, true, None}
use Rattle.plane_spec.specs.Vectors.{vector, IsDirection, IsDirected}
use Rattle.plane_spec.specs.declared.Corner.{Corner}
use Rattle.plane_spec.specs.declared.Point.{Point}
use Rattle.sight_spec.specs.Scene.{Scene, blockers_of_scene}
use Rattle.front_laws.proofs.Tests.{number_not_less, number_less_tested, own_number, by_lt, tested_number_not_less}
use Rattle.front_laws.specs.Seen.{Seen}
use Rattle.round_laws.proofs.Steps.{held_on, first_between, first_at}
use Rattle.round_laws.proofs.Without.{first_without}
use Rattle.round_laws.specs.Rounds.{front_after, from_place, to_place, EndNowhere, Numbered, HoldsBefore}
use Rattle.round_laws.specs.Rounds.{AreRadialsBelow}
use Rattle.round_laws.specs.Rounds.{first_held, IsRound, HoldsAt, AreWalls, AreCoveredIn, AreHidden}
use Rattle.sweep_laws.specs.First.{IsFirst}
use Rattle.sweep_laws.specs.Groups.{no_corner, is_ahead, is_behind}
use Rattle.turn_laws.specs.Places.{place_of}
use Rattle.view_laws.specs.Views.{radial_between, radial_on, radial_by, AreInOrder, is_past_first, IsReached, front_of}
use Rattle.view_laws.specs.Views.{IsRadial, is_in_arc}
use Rattle.view_laws.specs.declared.view.Arc.{Arc}
use Rattle.view_laws.specs.declared.view.Front.{Front}
use Rattle.view_laws.specs.declared.view.Sector.{Sector}

-- ---- sectors

unlike : (m n : ℕ) → n < m → (m == n) ≡ false
unlike m n h = grind arith

rest_below : (s : Sector) (rest : List Sector) (place : ℕ) → All (λ s. s.place < place) (s ∷ rest)
    → All (λ s. s.place < place) rest
rest_below s rest place all = λ k d lt. all (suc k) d (omega arith)

-- after all sectors it is what is first after them
radial_after : (before : Option Front) (sectors : List Sector) (place : ℕ) → All (λ s. s.place < place) sectors
    → radial_by before sectors place ≡ radial_between (front_after before sectors)
unfolding radial_by front_after
radial_after before [] place all = refl
radial_after before (s ∷ rest) place all =
    let lt = all 0 s (omega arith) in
    ap (λ t. cond t (radial_between before) (cond (place == s.place) (radial_on s) (radial_by s.after rest place)))
    (number_not_less place s.place (weaker s.place place lt))
    ∙ ap (λ t. cond t (radial_on s) (radial_by s.after rest place)) (unlike place s.place lt)
    ∙ radial_after s.after rest place (rest_below s rest place all)
  where
    weaker : (m n : ℕ) → m < n → m ≤ n
    weaker m n h = omega (arith, h)

-- a further sector leaves all below it
radial_below_last : (before : Option Front) (sectors : List Sector) (s : Sector) (place : ℕ) → place < s.place
    → radial_by before (sectors ++ s ∷ []) place ≡ radial_by before sectors place
unfolding radial_by
radial_below_last before [] s place lt = ap
    (λ t. cond t (radial_between before) (cond (place == s.place) (radial_on s) (radial_by s.after [] place)))
    (number_less_tested place s.place lt)
radial_below_last before (r ∷ rest) s place lt = ap
    (λ t. cond (nat_lt place r.place) (radial_between before) (cond (place == r.place) (radial_on r) t))
    (radial_below_last r.after rest s place lt)

-- and tells of its own place
radial_last : (before : Option Front) (sectors : List Sector) (s : Sector) → All (λ r. r.place < s.place) sectors
    → radial_by before (sectors ++ s ∷ []) s.place ≡ radial_on s
unfolding radial_by
radial_last before [] s all =
    ap (λ t. cond t (radial_between before) (cond (s.place == s.place) (radial_on s) (radial_by s.after [] s.place)))
    (number_not_less s.place s.place (own s.place))
    ∙ ap (λ t. cond t (radial_on s) (radial_by s.after [] s.place)) (own_number s.place)
  where
    own : (n : ℕ) → n ≤ n
    own n = omega arith
radial_last before (r ∷ rest) s all =
    let lt = all 0 r (omega arith) in
    ap (λ t. cond t (radial_between before) (cond (s.place == r.place) (radial_on r)
    (radial_by r.after (rest ++ s ∷ []) s.place))) (number_not_less s.place r.place (weaker r.place s.place lt))
    ∙ ap (λ t. cond t (radial_on r) (radial_by r.after (rest ++ s ∷ []) s.place)) (unlike s.place r.place lt)
    ∙ radial_last r.after rest s (rest_below r rest s.place all)
  where
    weaker : (m n : ℕ) → m < n → m ≤ n
    weaker m n h = omega (arith, h)

front_last : (before : Option Front) (sectors : List Sector) (s : Sector) → front_after before (sectors ++ s ∷ [])
    ≡ s.after
unfolding front_after
front_last before [] s = refl
front_last before (r ∷ rest) s = front_last r.after rest s

all_last : (P : Sector → Type 0) (sectors : List Sector) (s : Sector) → All P sectors → P s → All P (sectors ++ s ∷ [])
all_last P [] s all own zero d lt = own
all_last P [] s all own (suc k) d lt = absurd (omega arith)
all_last P (r ∷ rest) s all own zero d lt = all 0 d (omega arith)
all_last P (r ∷ rest) s all own (suc k) d lt = all_last P rest s (λ k d lt. all (suc k) d (omega arith)) own k d
    (omega arith)

order_last : (sectors : List Sector) (s : Sector) → AreInOrder sectors → All (λ r. r.place < s.place) sectors
    → AreInOrder (sectors ++ s ∷ [])
order_last [] s order all i j d lt within = absurd (omega arith)
order_last (r ∷ rest) s order all zero zero d lt within = absurd (omega arith)
order_last (r ∷ rest) s order all zero (suc j) d lt within =
    all_last (λ t. r.place < t.place) rest s (λ k e l. order 0 (suc k) e (omega arith) (omega arith))
    (all 0 r (omega arith)) j d (omega arith)
order_last (r ∷ rest) s order all (suc i) zero d lt within = absurd (omega arith)
order_last (r ∷ rest) s order all (suc i) (suc j) d lt within =
    order_last rest s (λ a b e l w. order (suc a) (suc b) e (omega arith) (omega arith))
    (λ k e l. all (suc k) e (omega arith)) i j d (omega arith) (omega arith)

-- ---- what is said of a direction

reached_none : (p : Point) (test : Corner → Bool) (cs : List Corner) (first : Option (ℕ × Seen))
    → ((j : ℕ) → j < length cs → test (get_or cs j no_corner) ≡ true
    → is_past_first first (vector p (get_or cs j no_corner).here) ≡ true) → IsReached p test cs first None
reached_none p test cs first f = record { some = refl; all = λ j lt h. f j lt h }

first_reached : (scene : Scene) (p d : Point) (front : Option Front) (first : Option (ℕ × Seen))
    → IsFirst scene p d first → front ≡ option_map (front_of scene p) first → AreHidden scene p d first
    → IsRadial scene p d (radial_between front)
first_reached scene p d front first is e hidden = record {
  first = first;
  is_first = is;
  front = e;
  ahead = reached_none p (is_ahead p d) scene.corners first hidden.ahead;
  behind = reached_none p (is_behind p d) scene.corners first hidden.behind;
}

-- ---- the round

narrower : (p : Point) (scene : Scene) (kept : ℕ → Bool) (low at high : ℕ)
    → EndNowhere p (blockers_of_scene scene) kept low high → low ≤ at → at ≤ high
    → EndNowhere p (blockers_of_scene scene) kept low at
narrower p scene kept low at high none le more n s within k seen =
    let e = none n s within k seen in
    record { no_from = between (from_place s) e.no_from; no_to = between (to_place s) e.no_to }
  where
    between : (x : ℕ) → nat_lt x low ≡ nat_lt x high → nat_lt x low ≡ nat_lt x at
    between x h = by_lt x low (λ lt. number_less_tested x low lt
        ∙ sym (number_less_tested x at (chain x low at lt le)))
        (λ ge. number_not_less x low ge
        ∙ sym (number_not_less x at (under x at high more (tested_number_not_less x high
        (sym h ∙ number_not_less x low ge)))))
      where
        chain : (a b c : ℕ) → a < b → b ≤ c → a < c
        chain a b c h k = omega (arith, h, k)

        under : (x at high : ℕ) → at ≤ high → high ≤ x → at ≤ x
        under x at high h k = omega (arith, h, k)

-- it begins: nothing of the arc is below, and the list holds what is open there
pub round_begins : (scene : Scene) (p : Point) (arc : Arc) (kept : ℕ → Bool) (before : Option Front) (place : ℕ)
    (active : List Numbered) → HoldsBefore p (blockers_of_scene scene) kept place active
    → before ≡ option_map (front_of scene p) (first_held active)
    → ((d : Point) → is_in_arc arc d ≡ true → place ≤ place_of d) → IsRound scene p arc kept before [] place active
unfolding front_after
round_begins scene p arc kept before place active held front none = record {
  radials = record {
    tells = λ d d_in d_some within lt. absurd (never (place_of d) place lt (none d within));
    order = λ i j d lt within. absurd (omega arith);
    below = λ k d lt. absurd (omega arith);
    front = front;
  };
  held = held;
}
  where
    never : (m n : ℕ) → m < n → n ≤ m → ⊥
    never m n h k = omega (arith, h, k)

-- up to the next corner nothing changes
pub round_goes_on : (scene : Scene) (p : Point) (arc : Arc) (kept : ℕ → Bool) (before : Option Front)
    (sectors : List Sector) (low high : ℕ) (active : List Numbered) → AreWalls scene p → AreCoveredIn scene p arc kept
    → IsRound scene p arc kept before sectors low active → low ≤ high
    → EndNowhere p (blockers_of_scene scene) kept low high
    → ((d : Point) → IsDirection d → IsDirected d → is_in_arc arc d ≡ true → low ≤ place_of d → place_of d < high
    → AreHidden scene p d (first_held active))
    → IsRound scene p arc kept before sectors high active
round_goes_on scene p arc kept before sectors low high active walls covered r le none hidden = record {
  radials = record {
    tells = λ d d_in d_some within lt. by_lt (place_of d) low
        (λ below. r.radials.tells d d_in d_some within below)
        (λ above. subst (IsRadial scene p d) (sym (radial_after before sectors (place_of d)
        (all_below sectors low (place_of d) r.radials.below above)))
        (first_reached scene p d (front_after before sectors) (first_held active)
        (first_without scene p d kept (first_held active)
        (first_between p d (blockers_of_scene scene) kept low active d_in d_some walls.blockers (walls.apart d) r.held
        (narrower p scene kept low (place_of d + 1) high none (one_up low (place_of d) above)
        (one_more (place_of d) high lt)) above)
        (covered d d_in d_some within))
        r.radials.front (hidden d d_in d_some within above lt)));
    order = r.radials.order;
    below = all_below sectors low high r.radials.below le;
    front = r.radials.front;
  };
  held = held_on p (blockers_of_scene scene) kept low high active r.held none;
}
  where
    one_up : (m n : ℕ) → m ≤ n → m ≤ n + 1
    one_up m n h = omega (arith, h)

    one_more : (m n : ℕ) → m < n → m + 1 ≤ n
    one_more m n h = omega (arith, h)

    all_below : (sectors : List Sector) (m n : ℕ) → All (λ s. s.place < m) sectors → m ≤ n
        → All (λ s. s.place < n) sectors
    all_below sectors m n all le k d lt = chain (get_or sectors k d).place m n (all k d lt) le
      where
        chain : (a b c : ℕ) → a < b → b ≤ c → a < c
        chain a b c h k = omega (arith, h, k)

weaker_below : (sectors : List Sector) (n : ℕ) → All (λ s. s.place < n) sectors → All (λ s. s.place < n + 1) sectors
weaker_below sectors n all k d lt = more (get_or sectors k d).place n (all k d lt)
  where
    more : (a b : ℕ) → a < b → a < b + 1
    more a b h = omega (arith, h)

at_place : {P : Type 0} (m n : ℕ) → m < n + 1 → (m < n → P) → (m ≡ n → P) → P
at_place m n h f g = by_lt m n f (λ le. g (omega (arith, h, le)))

-- a group of corners with a sector that tells of it
pub sector_added : (scene : Scene) (p : Point) (arc : Arc) (kept : ℕ → Bool) (before : Option Front)
    (sectors : List Sector) (s : Sector) (active at after : List Numbered) → AreWalls scene p
    → AreCoveredIn scene p arc kept
    → AreRadialsBelow scene p arc before sectors s.place active
    → HoldsAt p (blockers_of_scene scene) kept s.place at
    → HoldsBefore p (blockers_of_scene scene) kept (s.place + 1) after
    → s.on ≡ option_map (front_of scene p) (first_held at) → s.after ≡ option_map (front_of scene p) (first_held after)
    → ((d : Point) → IsDirection d → IsDirected d → is_in_arc arc d ≡ true → place_of d ≡ s.place
    → IsReached p (is_ahead p d) scene.corners (first_held at) s.ahead)
    → ((d : Point) → IsDirection d → IsDirected d → is_in_arc arc d ≡ true → place_of d ≡ s.place
    → IsReached p (is_behind p d) scene.corners (first_held at) s.behind)
    → IsRound scene p arc kept before (sectors ++ s ∷ []) (s.place + 1) after
sector_added scene p arc kept before sectors s active at after walls covered r held_at held_after on_is after_is
    ahead behind = record {
      radials = record {
        tells = λ d d_in d_some within lt. at_place (place_of d) s.place lt
            (λ below. subst (IsRadial scene p d) (sym (radial_below_last before sectors s (place_of d) below))
            (r.tells d d_in d_some within below))
            (λ e. subst (IsRadial scene p d) (sym (radial_last before sectors s r.below)
            ∙ ap (radial_by before (sectors ++ s ∷ [])) (sym e))
            (record {
              first = first_held at;
              is_first = first_without scene p d kept (first_held at)
                  (first_at p d (blockers_of_scene scene) kept at d_in d_some walls.blockers (walls.apart d)
                  (subst (λ n. HoldsAt p (blockers_of_scene scene) kept n at) (sym e) held_at))
                  (covered d d_in d_some within);
              front = on_is;
              ahead = ahead d d_in d_some within e;
              behind = behind d d_in d_some within e;
            }));
        order = order_last sectors s r.order r.below;
        below = all_last (λ t. t.place < s.place + 1) sectors s (weaker_below sectors s.place r.below)
            (own s.place);
        front = front_last before sectors s ∙ after_is;
      };
      held = held_after;
    }
  where
    own : (n : ℕ) → n < n + 1
    own n = omega arith

-- the same, from a round
pub round_with_sector : (scene : Scene) (p : Point) (arc : Arc) (kept : ℕ → Bool) (before : Option Front)
    (sectors : List Sector) (s : Sector) (active at after : List Numbered) → AreWalls scene p
    → AreCoveredIn scene p arc kept
    → IsRound scene p arc kept before sectors s.place active
    → HoldsAt p (blockers_of_scene scene) kept s.place at
    → HoldsBefore p (blockers_of_scene scene) kept (s.place + 1) after
    → s.on ≡ option_map (front_of scene p) (first_held at) → s.after ≡ option_map (front_of scene p) (first_held after)
    → ((d : Point) → IsDirection d → IsDirected d → is_in_arc arc d ≡ true → place_of d ≡ s.place
    → IsReached p (is_ahead p d) scene.corners (first_held at) s.ahead)
    → ((d : Point) → IsDirection d → IsDirected d → is_in_arc arc d ≡ true → place_of d ≡ s.place
    → IsReached p (is_behind p d) scene.corners (first_held at) s.behind)
    → IsRound scene p arc kept before (sectors ++ s ∷ []) (s.place + 1) after
round_with_sector scene p arc kept before sectors s active at after walls covered r held_at held_after on_is after_is
    ahead behind =
    sector_added scene p arc kept before sectors s active at after walls covered r.radials held_at held_after on_is
    after_is ahead behind

-- a group behind the first changes nothing
pub no_sector_added : (scene : Scene) (p : Point) (arc : Arc) (kept : ℕ → Bool) (before : Option Front)
    (sectors : List Sector) (place : ℕ) (active at after : List Numbered) → AreWalls scene p
    → AreCoveredIn scene p arc kept
    → AreRadialsBelow scene p arc before sectors place active
    → HoldsAt p (blockers_of_scene scene) kept place at → HoldsBefore p (blockers_of_scene scene) kept (place + 1) after
    → first_held at ≡ first_held active → first_held after ≡ first_held active
    → ((d : Point) → IsDirection d → IsDirected d → is_in_arc arc d ≡ true → place_of d ≡ place
    → AreHidden scene p d (first_held at))
    → IsRound scene p arc kept before sectors (place + 1) after
no_sector_added scene p arc kept before sectors place active at after walls covered r held_at held_after at_is
    after_is hidden = record {
      radials = record {
        tells = λ d d_in d_some within lt. at_place (place_of d) place lt
            (λ below. r.tells d d_in d_some within below)
            (λ e. subst (IsRadial scene p d) (sym (radial_after before sectors place r.below)
            ∙ ap (radial_by before sectors) (sym e))
            (first_reached scene p d (front_after before sectors) (first_held at)
            (first_without scene p d kept (first_held at)
            (first_at p d (blockers_of_scene scene) kept at d_in d_some walls.blockers (walls.apart d)
            (subst (λ n. HoldsAt p (blockers_of_scene scene) kept n at) (sym e) held_at))
            (covered d d_in d_some within))
            (r.front ∙ ap (option_map (front_of scene p)) (sym at_is)) (hidden d d_in d_some within e)));
        order = r.order;
        below = weaker_below sectors place r.below;
        front = r.front ∙ ap (option_map (front_of scene p)) (sym after_is);
      };
      held = held_after;
    }

-- the same, from a round
pub round_without_sector : (scene : Scene) (p : Point) (arc : Arc) (kept : ℕ → Bool) (before : Option Front)
    (sectors : List Sector) (place : ℕ) (active at after : List Numbered) → AreWalls scene p
    → AreCoveredIn scene p arc kept
    → IsRound scene p arc kept before sectors place active
    → HoldsAt p (blockers_of_scene scene) kept place at → HoldsBefore p (blockers_of_scene scene) kept (place + 1) after
    → first_held at ≡ first_held active → first_held after ≡ first_held active
    → ((d : Point) → IsDirection d → IsDirected d → is_in_arc arc d ≡ true → place_of d ≡ place
    → AreHidden scene p d (first_held at))
    → IsRound scene p arc kept before sectors (place + 1) after
round_without_sector scene p arc kept before sectors place active at after walls covered r held_at held_after at_is
    after_is hidden =
    no_sector_added scene p arc kept before sectors place active at after walls covered r.radials held_at held_after
    at_is after_is hidden
