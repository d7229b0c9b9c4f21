-- The axial lines after a removal are the old ones whose extent misses the box, renumbered, and fresh ones between
-- dirty
-- corners.
--
-- The new corners are the old ones without a part that lies in the box, so the new numbered pairs are the old ones of
-- which
-- both stay, renumbered; the points of a pair stay the same, and with them its line. Of each old pair this is known:
-- if it
-- goes, its segment meets the box; if it stays, its renumbered pair is one of the new scene.
--
-- Both corners of a new pair in sight are dirty if its segment, its old line or its new line meets the box: the
-- segment by
-- the corners themselves; the old line because both lie on it, or on the first line like it, which then is dirty; the
-- new
-- line because otherwise the old one would miss the box and be the same. So a new line that misses the box was an old
-- one:
-- stopped at both ends it came from one (`Without`); if not, its corners can't both be dirty, since those were found
-- to be
-- stopped, so the old line misses the box and stays. Therefore the same pairs have clean lines before and after, like
-- ones
-- are alike in both, and the first of them are the kept lines (`clean_ones_stay`). The first of the others are those
-- of
-- dirty pairs alone. The new lines are in the order of their numbers, so both parts merged are all of them.
use Rattle.std.proofs.Common.{◌≡◌, ◌∙◌, Bool, true, false, not, ◌&&◌, ◌||◌, ℕ, List, [], ◌++◌, map}
use Rattle.std.proofs.Common.{filter, length, All, Option, Some, None, refl, sym, ap, subst, arith}
use Rattle.std.specs.List.{list_any, list_all, enumerate_from, Contains}
use Rattle.std.proofs.lemmas.Bool.{and_parts, and_from}
use Rattle.std.proofs.lemmas.List.Elements.{All-filter, filter_passes}
use Rattle.std.proofs.lemmas.List.Elements.{filter_agree}
use Rattle.std.proofs.lemmas.List.Elements.{All-contains_itself, All-map}
use Rattle.plane_spec.specs.declared.Point.{Point}
use Rattle.plane_spec.specs.declared.PlanBox.{PlanBox}
use Rattle.plane_spec.specs.Lists.{pairs, distinct_by, numbered_pairs}
use Rattle.plane_spec.specs.Vectors.{vector, same_point}
use Rattle.plane_spec.specs.Fractions.{Fraction}
use Rattle.plane_spec.specs.Boxes.{does_meet_box}
use Rattle.plan_spec.specs.declared.edit.Changed.{Changed}
use Rattle.sight_spec.specs.Scene.{Scene}
use Rattle.sight_spec.specs.Sight.{is_blocked, are_in_sight}
use Rattle.sight_spec.specs.Stops.{stop_of}
use Rattle.sight_spec.specs.Axial.{AxialLine, here_of, line_through, is_seen_pair, same_ends}
use Rattle.sight_spec.specs.Axial.{axial_lines}
use Rattle.sight_spec.specs.Dirty.{corner_point, is_dirty_pair, is_dirty_line, is_on_axial_line, was_corner}
use Rattle.sight_spec.specs.Dirty.{is_dirty_to_another, is_dirty_corner}
use Rattle.list_laws.proofs.Tests.{list_any_map}
use Rattle.list_laws.specs.Merged.{merged}
use Rattle.line_laws.specs.Lines.{comes_before, renumbered, kept_lines, fresh_pairs, fresh_lines, IsSameLine}
use Rattle.line_laws.specs.Lines.{is_stopped, are_fresh_stopped}
use Rattle.box_laws.specs.Boxes.{IsIn}
use Rattle.box_laws.proofs.Held.{meeting_turned}
use Rattle.list_laws.proofs.Elements.{before_map, filter_map_first, filter_same_on, found_among_passing}
use Rattle.list_laws.proofs.Elements.{filter_exchanged}
use Rattle.list_laws.proofs.Elements.{where_passed, each_passes, implied_first, map_same_on, map_twice, passed_by_one}
use Rattle.box_laws.proofs.Blocking.{first_meets, second_meets}
use Rattle.dirty_laws.specs.Scenes.{IsWithout, removal_of}
use Rattle.line_laws.proofs.Without.{clash, sight_stays, pair_misses, line_kept, line_came}
use Rattle.extent_laws.proofs.Reaches.{same_back, line_meets}
use Rattle.extent_laws.specs.Corners.{Pair}
use Rattle.extent_laws.proofs.SameLines.{IsLineOf, meet_alike, on_alike, on_line, first_on_line, second_on_line}
use Rattle.extent_laws.proofs.SameLines.{dirty_as_meets, extent_as_on}
use Rattle.list_laws.proofs.Gaps.{on_both, hold_both, stays_at, renumbered_at, pairs_filter, pairs_close_up}
use Rattle.list_laws.proofs.Firsts.{firsts_map, split, firsts_hold, first_passes, clean_ones_stay}
use Rattle.list_laws.specs.Orders.{IsRising}
use Rattle.list_laws.proofs.Merged.{rejoined, rising_filter, rising_firsts, rising_map}
use Rattle.list_laws.proofs.Numbers.{OfBoth, each_pair, numbered_hold, gone_known, pairs_rising, pair_before}
use Rattle.line_laws.proofs.Corners.{corners_known}

-- ---- pairs that see each other

-- points that see each other differ
pub seen_differ : (scene : Scene) (e : Pair) → is_seen_pair scene e ≡ true → same_point e.0.1 e.1.1 ≡ false
unfolding are_in_sight
seen_differ scene e h =
    not_true (same_point e.0.1 e.1.1)
    (and_parts (not (same_point e.0.1 e.1.1)) (not (is_blocked scene e.0.1 e.1.1)) h).0
  where
    not_true : (t : Bool) → not t ≡ true → t ≡ false
    not_true t h = grind arith

-- a point doesn't see itself
same_not_seen : (scene : Scene) (e : Pair) → same_point e.0.1 e.1.1 ≡ true → is_seen_pair scene e ≡ false
unfolding are_in_sight
same_not_seen scene e h = rw h refl

-- the lines of two pairs have the same ends
abbrev pub same_line : Scene → Pair → Pair → Bool
same_line scene e f = same_ends (line_through scene e) (line_through scene f)

-- the axial lines of a scene are those of the first pairs in sight
pub lines_are : (scene : Scene) (points : List Point) → map here_of scene.corners ≡ points
    → axial_lines scene ≡ map (line_through scene)
    (distinct_by (same_line scene) (filter (is_seen_pair scene) (pairs (enumerate_from 0 points))))
unfolding axial_lines
lines_are scene points e =
    ap (λ ps. distinct_by same_ends (map (line_through scene) (filter (is_seen_pair scene) (numbered_pairs ps)))) e
    ∙ firsts_map same_ends (line_through scene) [] (filter (is_seen_pair scene) (pairs (enumerate_from 0 points)))

-- the second of three
either_second : (a b c : Bool) → b ≡ true → (a || (b || c)) ≡ true
either_second a b c h = grind arith

-- the third of three
either_third : (a b c : Bool) → c ≡ true → (a || (b || c)) ≡ true
either_third a b c h = grind arith

-- not not
not_not : (t : Bool) → not (not t) ≡ t
not_not true = refl
not_not false = refl

-- a scene without what lies in the box, whose corners close up, and where what is asked afresh is stopped
module _ (box : PlanBox) (old new : Scene) (less : IsWithout box old new) (front gone back : List Point)
    (old_is : map here_of old.corners ≡ front ++ (gone ++ back)) (new_is : map here_of new.corners ≡ front ++ back)
    (gone_in : All (IsIn box) gone)
    (fresh_stopped : are_fresh_stopped (removal_of box) old (axial_lines old) new ≡ true) where
  -- the boxes of the removal
  abbrev boxes : Changed
  boxes = removal_of box

  -- the numbered pairs of the old scene
  abbrev olds : List Pair
  olds = pairs (enumerate_from 0 (front ++ (gone ++ back)))

  -- those of the new one
  abbrev news : List Pair
  news = pairs (enumerate_from 0 (front ++ back))

  -- both numbers of a pair stay
  abbrev keeps : Pair → Bool
  keeps = hold_both (stays_at (length front) (length gone))

  -- the pair with its new numbers
  abbrev renew : Pair → Pair
  renew = on_both (renumbered_at (length front) (length gone))

  -- the new pairs are the old ones that stay, renumbered
  news_are : news ≡ map renew (filter keeps olds)
  news_are = pairs_close_up front gone back

  -- a corner at the point is dirty
  abbrev is_dirty : Point → Bool
  is_dirty p = is_dirty_corner boxes old (axial_lines old) new p

  -- the line of the pair in the old scene meets the box
  abbrev meets_old : Pair → Bool
  meets_old e = line_meets old box e.0.1 e.1.1

  -- the line of the pair in the new scene meets the box
  abbrev meets_new : Pair → Bool
  meets_new e = line_meets new box e.0.1 e.1.1

  -- ---- what is known of pairs

  -- of a pair of the new scene
  record Renewed (x : Pair) : Type 0 where
    first : corner_point new x.0.0 ≡ x.0.1
    second : corner_point new x.1.0 ≡ x.1.1
    first_among : Contains (front ++ back) x.0.1
    second_among : Contains (front ++ back) x.1.1
    stopped : is_seen_pair new x ≡ true → is_dirty x.0.1 ≡ true → is_dirty x.1.1 ≡ true → is_stopped new x ≡ true

  -- of a pair of the old scene
  record Known (e : Pair) : Type 0 where
    first : corner_point old e.0.0 ≡ e.0.1
    second : corner_point old e.1.0 ≡ e.1.1
    among : Contains olds e
    goes : keeps e ≡ false → does_meet_box e.0.1 e.1.1 box ≡ true
    renewed : keeps e ≡ true → Renewed (renew e)

  -- a numbered point is a dirty corner
  abbrev is_dirty_at : ℕ × Point → Bool
  is_dirty_at c = is_dirty c.1

  -- pairs of dirty corners in sight are stopped
  all_stopped : All (λ x. hold_both is_dirty_at x ≡ true → is_seen_pair new x ≡ true → is_stopped new x ≡ true) news
  all_stopped =
      where_passed (λ x. is_seen_pair new x ≡ true → is_stopped new x ≡ true) (hold_both is_dirty_at) news
      (where_passed (λ x. is_stopped new x ≡ true) (is_seen_pair new) (filter (hold_both is_dirty_at) news)
      (each_passes (is_stopped new) (filter (is_seen_pair new) (filter (hold_both is_dirty_at) news))
      (ap (λ xs. list_all (is_stopped new) (filter (is_seen_pair new) xs))
      (sym (ap (λ ps. pairs (filter is_dirty_at (enumerate_from 0 ps))) new_is
      ∙ pairs_filter is_dirty_at (enumerate_from 0 (front ++ back))))
      ∙ fresh_stopped)))

  -- what is known of new pairs
  all_renewed : All Renewed news
  all_renewed =
      let numbers = each_pair (λ n. corner_point new n.0 ≡ n.1) (enumerate_from 0 (front ++ back))
      (corners_known new (front ++ back) new_is) in
      let places = each_pair (λ n. Contains (front ++ back) n.1) (enumerate_from 0 (front ++ back))
      (numbered_hold (Contains (front ++ back)) 0 (front ++ back) (All-contains_itself (front ++ back))) in
      λ k d h. record {
        first = (numbers k d h).first;
        second = (numbers k d h).second;
        first_among = (places k d h).first;
        second_among = (places k d h).second;
        stopped = λ sees a b. all_stopped k d h (and_from _ _ a b) sees;
      }

  -- known of the old ones that stay
  renewed_where_kept : All (λ e. keeps e ≡ true → Renewed (renew e)) olds
  renewed_where_kept =
      where_passed (λ e. Renewed (renew e)) keeps olds
      (before_map Renewed renew (filter keeps olds) (subst (All Renewed) news_are all_renewed))

  -- the segment of a pair that goes meets the box
  gone_meets : (e : Pair) → OfBoth (λ n. stays_at (length front) (length gone) n ≡ false → IsIn box n.1) e
      → keeps e ≡ false → does_meet_box e.0.1 e.1.1 box ≡ true
  gone_meets e h =
      by (stays_at (length front) (length gone) e.0) (stays_at (length front) (length gone) e.1) h.first h.second
    where
      by : (s t : Bool) → (s ≡ false → IsIn box e.0.1) → (t ≡ false → IsIn box e.1.1) → (s && t) ≡ false
          → does_meet_box e.0.1 e.1.1 box ≡ true
      by false t f g k = first_meets e.0.1 e.1.1 box (f refl)
      by true false f g k = second_meets e.0.1 e.1.1 box (g refl)
      by true true f g k = cc

  -- what is known of old pairs
  all_known : All Known olds
  all_known =
      let points = front ++ (gone ++ back) in
      let numbers = each_pair (λ n. corner_point old n.0 ≡ n.1) (enumerate_from 0 points)
      (corners_known old points old_is) in
      let gones = each_pair (λ n. stays_at (length front) (length gone) n ≡ false → IsIn box n.1)
      (enumerate_from 0 points) (gone_known (IsIn box) front gone back gone_in) in
      λ k d h. record {
        first = (numbers k d h).first;
        second = (numbers k d h).second;
        among = All-contains_itself olds k d h;
        goes = gone_meets _ (gones k d h);
        renewed = renewed_where_kept k d h;
      }

  -- ---- dirty corners

  -- a corner whose segment to another meets the box is dirty
  another_dirty : (p q : Point) → Contains (front ++ back) q → same_point q p ≡ false → does_meet_box p q box ≡ true
      → is_dirty p ≡ true
  unfolding is_dirty_corner is_dirty_pair
  another_dirty p q i differ meets =
      either_second (not (was_corner old p)) _ _
      (sym (list_any_map (λ x. not (same_point x p) && is_dirty_pair boxes p x) here_of new.corners)
      ∙ ap (list_any (λ x. not (same_point x p) && is_dirty_pair boxes p x)) new_is
      ∙ passed_by_one (λ x. not (same_point x p) && is_dirty_pair boxes p x) (front ++ back) q i
      (rw (differ, meets) refl))

  -- the corners of a pair that meets the box
  dirty_by_pair : (e : Pair) → Known e → keeps e ≡ true → is_seen_pair new e ≡ true
      → does_meet_box e.0.1 e.1.1 box ≡ true → (is_dirty e.0.1 ≡ true) × (is_dirty e.1.1 ≡ true)
  dirty_by_pair e k kept sees meets =
      let differ = seen_differ new e sees in (
        another_dirty e.0.1 e.1.1 (k.renewed kept).second_among (same_back e.0.1 e.1.1 ∙ differ) meets,
        another_dirty e.1.1 e.0.1 (k.renewed kept).first_among differ (meeting_turned e.0.1 e.1.1 box ∙ meets),
      )

  -- a pair whose line is one of the old scene
  record SeenOld (e : Pair) : Type 0 where
    known : Known e
    sees : is_seen_pair old e ≡ true

  -- the line of an old pair
  old_line : (e : Pair) → Known e → IsLineOf old (line_through old e) e
  old_line e k = record { first = k.first; second = k.second; from = refl; to = refl }

  -- a point x
  module _ (x : Point) where
    -- the line is dirty, and x lies on it
    abbrev is_dirty_through : AxialLine → Bool
    is_dirty_through l = is_dirty_line boxes old l && is_on_axial_line old x l

    -- by the spots of its ends
    through_is : (e : Pair) → SeenOld e
        → is_dirty_through (line_through old e) ≡ (meets_old e && on_line old e.0.1 e.1.1 x)
    through_is e s =
        let differ = seen_differ old e s.sees in
        rw (
          dirty_as_meets old box (line_through old e) e (old_line e s.known) differ,
          extent_as_on old x (line_through old e) e (old_line e s.known) differ,
        ) refl

    -- lines with the same ends do so alike
    through_alike : (e f : Pair) → SeenOld e → SeenOld f → same_line old e f ≡ true
        → is_dirty_through (line_through old f) ≡ is_dirty_through (line_through old e)
    through_alike e f s t h =
        through_is f t
        ∙ both (meet_alike old e f (seen_differ old e s.sees) (seen_differ old f t.sees) box h)
        (on_alike old e f (seen_differ old e s.sees) (seen_differ old f t.sees) x h)
        ∙ sym (through_is e s)
      where
        both : {a b c d : Bool} → a ≡ c → b ≡ d → (a && b) ≡ (c && d)
        both h k = rw (h, k) refl

    -- what lies on the line of a pair that meets the box lies on one of the old scene's
    on_dirty : (e : Pair) → Known e → is_seen_pair old e ≡ true → meets_old e ≡ true
        → on_line old e.0.1 e.1.1 x ≡ true → is_dirty x ≡ true
    unfolding is_dirty_corner
    on_dirty e k sees meets on =
        let test : Pair → Bool = λ g. is_dirty_through (line_through old g) in
        let seen = filter (is_seen_pair old) olds in
        let found : list_any test seen ≡ true =
        found_among_passing test (is_seen_pair old) olds
        ∙ passed_by_one (λ g. is_seen_pair old g && test g) olds e k.among
        (and_from (is_seen_pair old e) (test e) sees
        (through_is e (record { known = k; sees = sees })
        ∙ and_from (meets_old e) (on_line old e.0.1 e.1.1 x) meets on)) in
        either_third (not (was_corner old x)) (is_dirty_to_another boxes new x) _
        (ap (list_any is_dirty_through) (lines_are old (front ++ (gone ++ back)) old_is)
        ∙ list_any_map is_dirty_through (line_through old) (distinct_by (same_line old) seen)
        ∙ first_passes SeenOld (same_line old) test through_alike seen
        (λ i d h. record {
          known = All-filter (is_seen_pair old) Known olds all_known i d h;
          sees = filter_passes (is_seen_pair old) olds i d h;
        }) found)

  -- the corners of a pair whose old line meets the box
  dirty_by_old : (e : Pair) → Known e → keeps e ≡ true → is_seen_pair new e ≡ true → meets_old e ≡ true
      → (is_dirty e.0.1 ≡ true) × (is_dirty e.1.1 ≡ true)
  dirty_by_old e k kept sees meets = by (does_meet_box e.0.1 e.1.1 box) refl
    where
      by : (t : Bool) → does_meet_box e.0.1 e.1.1 box ≡ t → (is_dirty e.0.1 ≡ true) × (is_dirty e.1.1 ≡ true)
      by true h = dirty_by_pair e k kept sees h
      by false h =
          let sees_old : is_seen_pair old e ≡ true = sym (sight_stays box old new less e.0.1 e.1.1 h) ∙ sees in
          let differ = seen_differ new e sees in (
            on_dirty e.0.1 e k sees_old meets (first_on_line old e.0.1 e.1.1 differ),
            on_dirty e.1.1 e k sees_old meets (second_on_line old e.0.1 e.1.1 differ),
          )

  -- a line that stays meets the box as it did
  same_meets : (e : Pair) → IsSameLine old new e.0.1 e.1.1 → meets_new e ≡ meets_old e
  same_meets e s = rw (s.from, s.to) refl

  -- the corners of a pair whose new line meets the box
  dirty_by_new : (e : Pair) → Known e → keeps e ≡ true → is_seen_pair new e ≡ true → meets_new e ≡ true
      → (is_dirty e.0.1 ≡ true) × (is_dirty e.1.1 ≡ true)
  dirty_by_new e k kept sees meets = by (meets_old e) refl
    where
      by : (t : Bool) → meets_old e ≡ t → (is_dirty e.0.1 ≡ true) × (is_dirty e.1.1 ≡ true)
      by true h = dirty_by_old e k kept sees h
      by false h =
          absurd (clash (meets_old e) h (sym
          (same_meets e (line_kept box old new less e.0.1 e.1.1 (seen_differ new e sees) h)) ∙ meets))

  -- a new line that misses the box is an old one
  came : (e : Pair) → Known e → keeps e ≡ true → is_seen_pair new e ≡ true → meets_new e ≡ false
      → IsSameLine old new e.0.1 e.1.1
  came e k kept sees misses =
      by (stop_of new e.0.1 (vector e.1.1 e.0.1)) (stop_of new e.1.1 (vector e.0.1 e.1.1)) refl refl
    where
      differ : same_point e.0.1 e.1.1 ≡ false
      differ = seen_differ new e sees

      unstopped : is_stopped new e ≡ false → IsSameLine old new e.0.1 e.1.1
      unstopped h = old_meets (meets_old e) refl
        where
          old_meets : (t : Bool) → meets_old e ≡ t → IsSameLine old new e.0.1 e.1.1
          old_meets false m = line_kept box old new less e.0.1 e.1.1 differ m
          old_meets true m =
              let dirty = dirty_by_old e k kept sees m in
              absurd (clash (is_stopped new e) h ((k.renewed kept).stopped sees dirty.0 dirty.1))

      by : (s t : Option Fraction) → stop_of new e.0.1 (vector e.1.1 e.0.1) ≡ s
          → stop_of new e.1.1 (vector e.0.1 e.1.1) ≡ t → IsSameLine old new e.0.1 e.1.1
      by (Some s) (Some t) f g = line_came box old new less e.0.1 e.1.1 s t differ f g misses
      by None t f g = unstopped (rw f refl)
      by (Some s) None f g = unstopped (rw (f, g) refl)

  -- ---- kept lines

  -- a pair whose old line misses the box stays
  keeps_clean : (e : Pair) → Known e → same_point e.0.1 e.1.1 ≡ false → meets_old e ≡ false → keeps e ≡ true
  keeps_clean e k differ misses = by (keeps e) refl
    where
      by : (t : Bool) → keeps e ≡ t → t ≡ true
      by true h = refl
      by false h =
          absurd (clash (does_meet_box e.0.1 e.1.1 box) (pair_misses box old new less old e.0.1 e.1.1 differ misses)
          (k.goes h))

  -- a pair stays and has a clean line in sight after exactly where it had one before
  clean_alike : (e : Pair) → Known e
      → (keeps e && (is_seen_pair new e && not (meets_new e))) ≡ (is_seen_pair old e && not (meets_old e))
  clean_alike e k = by_points (same_point e.0.1 e.1.1) refl
    where
      neither : (a b c d e : Bool) → b ≡ false → d ≡ false → (a && (b && c)) ≡ (d && e)
      neither a b c d e h k = grind arith

      both_none : (a b c : Bool) → (a && (b && false)) ≡ (c && false)
      both_none a b c = grind arith

      both_one : (a b c : Bool) → a ≡ true → b ≡ c → (a && (b && true)) ≡ (c && true)
      both_one a b c h k = grind arith

      no_one : (a b c : Bool) → (a ≡ true → b ≡ true → ⊥) → (a && (b && true)) ≡ (c && false)
      no_one true true c f = absurd (f refl refl)
      no_one true false c f = both_none true false c
      no_one false b c f = both_none false b c

      differing : same_point e.0.1 e.1.1 ≡ false → (m n : Bool) → meets_old e ≡ m → meets_new e ≡ n
          → (keeps e && (is_seen_pair new e && not n)) ≡ (is_seen_pair old e && not m)
      differing differ true true g h = both_none (keeps e) (is_seen_pair new e) (is_seen_pair old e)
      differing differ true false g h =
          no_one (keeps e) (is_seen_pair new e) (is_seen_pair old e)
          (λ kept sees. clash (meets_new e) h (same_meets e (came e k kept sees h) ∙ g))
      differing differ false true g h =
          absurd (clash (meets_old e) g (sym (same_meets e (line_kept box old new less e.0.1 e.1.1 differ g)) ∙ h))
      differing differ false false g h =
          both_one (keeps e) (is_seen_pair new e) (is_seen_pair old e) (keeps_clean e k differ g)
          (line_kept box old new less e.0.1 e.1.1 differ g).sight

      by_points : (t : Bool) → same_point e.0.1 e.1.1 ≡ t
          → (keeps e && (is_seen_pair new e && not (meets_new e))) ≡ (is_seen_pair old e && not (meets_old e))
      by_points true h =
          neither (keeps e) (is_seen_pair new e) (not (meets_new e)) (is_seen_pair old e) (not (meets_old e))
          (same_not_seen new e h) (same_not_seen old e h)
      by_points false h = differing h (meets_old e) (meets_new e) refl refl

  -- such a line is the same
  line_same : (e : Pair) → Known e → (is_seen_pair old e && not (meets_old e)) ≡ true
      → line_through new e ≡ line_through old e
  line_same e k h =
      let both = and_parts (is_seen_pair old e) (not (meets_old e)) h in
      let s = line_kept box old new less e.0.1 e.1.1 (seen_differ old e both.0) (not_true (meets_old e) both.1) in
      rw (s.from, s.to) refl
    where
      not_true : (t : Bool) → not t ≡ true → t ≡ false
      not_true t h = grind arith

  -- the first pairs with clean lines are the same before and after
  clean_lines : filter (λ e. not (meets_new e))
      (distinct_by (same_line new) (filter (is_seen_pair new) (filter keeps olds)))
      ≡ filter (λ e. not (meets_old e)) (distinct_by (same_line old) (filter (is_seen_pair old) olds))
  clean_lines =
      clean_ones_stay Known keeps (is_seen_pair old) (λ e. not (meets_old e)) (is_seen_pair new)
      (λ e. not (meets_new e)) (same_line old) (same_line new)
      clean_alike
      (λ e f v w s t h. ap not (meet_alike old e f (seen_differ old e s) (seen_differ old f t) box h))
      (λ e f v w s t h. ap not (meet_alike new e f (seen_differ new e s) (seen_differ new f t) box h))
      (λ e f v w s t. ap (λ l. same_ends l (line_through new f)) (line_same e v s)
      ∙ ap (λ l. same_ends (line_through old e) l) (line_same f w t))
      olds all_known

  -- ---- the new lines that miss the box

  -- a pair of the old scene that stands, and whose points see each other in the new one
  record SeenNew (e : Pair) : Type 0 where
    known : Known e
    kept : keeps e ≡ true
    sees : is_seen_pair new e ≡ true

  -- the old pairs that stay and see each other in the new scene
  abbrev standing : List Pair
  standing = filter (is_seen_pair new) (filter keeps olds)

  -- what is known of them
  all_standing : All SeenNew standing
  all_standing = λ k d h. record {
    known = All-filter (is_seen_pair new) Known (filter keeps olds) (All-filter keeps Known olds all_known) k d h;
    kept = All-filter (is_seen_pair new) (λ e. keeps e ≡ true) (filter keeps olds) (filter_passes keeps olds) k d h;
    sees = filter_passes (is_seen_pair new) (filter keeps olds) k d h;
  }

  -- the line of an old pair in the new scene
  abbrev new_line : Pair → AxialLine
  new_line e = line_through new (renew e)

  -- the new lines are those of the first such pairs
  new_lines_are : axial_lines new ≡ map new_line (distinct_by (same_line new) standing)
  unfolding axial_lines
  new_lines_are =
      ap (λ ps. distinct_by same_ends (map (line_through new) (filter (is_seen_pair new) (numbered_pairs ps)))) new_is
      ∙ ap (λ xs. distinct_by same_ends (map (line_through new) (filter (is_seen_pair new) xs))) news_are
      ∙ ap (λ xs. distinct_by same_ends (map (line_through new) xs))
      (filter_map_first (is_seen_pair new) renew (filter keeps olds))
      ∙ ap (distinct_by same_ends) (map_twice (line_through new) renew standing)
      ∙ firsts_map same_ends new_line [] standing

  -- a new line is dirty where it meets the box
  dirty_new : (e : Pair) → SeenNew e → is_dirty_line boxes new (new_line e) ≡ meets_new e
  dirty_new e s =
      let r = s.known.renewed s.kept in
      dirty_as_meets new box (new_line e) (renew e)
      (record { first = r.first; second = r.second; from = refl; to = refl }) (seen_differ new e s.sees)

  -- the line isn't dirty
  abbrev is_clean : Scene → AxialLine → Bool
  is_clean scene l = not (is_dirty_line boxes scene l)

  -- an old line isn't dirty where it misses the box
  clean_old : (e : Pair) → SeenOld e → is_clean old (line_through old e) ≡ not (meets_old e)
  clean_old e s =
      ap not (dirty_as_meets old box (line_through old e) e (old_line e s.known) (seen_differ old e s.sees))

  -- what is known of old pairs in sight
  all_old : All SeenOld (filter (is_seen_pair old) olds)
  all_old =
      λ k d h. record {
        known = All-filter (is_seen_pair old) Known olds all_known k d h;
        sees = filter_passes (is_seen_pair old) olds k d h;
      }

  -- a pair of the old scene whose line misses the box
  record Clean (e : Pair) : Type 0 where
    known : Known e
    sees : is_seen_pair old e ≡ true
    misses : not (meets_old e) ≡ true

  -- the first ones like which none stands before, in the old scene
  abbrev firsts_old : List Pair
  firsts_old = distinct_by (same_line old) (filter (is_seen_pair old) olds)

  -- and in the new one
  abbrev firsts_new : List Pair
  firsts_new = distinct_by (same_line new) standing

  -- the clean old lines, by their pairs
  clean_old_lines : filter (is_clean old) (axial_lines old)
      ≡ map (line_through old) (filter (λ e. not (meets_old e)) firsts_old)
  clean_old_lines =
      ap (filter (is_clean old)) (lines_are old (front ++ (gone ++ back)) old_is)
      ∙ filter_map_first (is_clean old) (line_through old) firsts_old
      ∙ ap (map (line_through old))
      (filter_same_on SeenOld (λ e. is_clean old (line_through old e)) (λ e. not (meets_old e)) clean_old firsts_old
      (firsts_hold SeenOld (same_line old) [] (filter (is_seen_pair old) olds) all_old))

  -- the clean new lines, by their pairs
  clean_new_lines : filter (is_clean new)
      (axial_lines new) ≡ map new_line (filter (λ e. not (meets_new e)) firsts_new)
  clean_new_lines =
      ap (filter (is_clean new)) new_lines_are
      ∙ filter_map_first (is_clean new) new_line firsts_new
      ∙ ap (map new_line)
      (filter_same_on SeenNew (λ e. is_clean new (new_line e)) (λ e. not (meets_new e))
      (λ e s. ap not (dirty_new e s))
      firsts_new (firsts_hold SeenNew (same_line new) [] standing all_standing))

  -- the clean ones of the first pairs
  all_clean : All Clean (filter (λ e. not (meets_old e)) firsts_old)
  all_clean = λ k d h.
      let s = All-filter (λ e. not (meets_old e)) SeenOld firsts_old
      (firsts_hold SeenOld (same_line old) [] (filter (is_seen_pair old) olds) all_old) k d h in
      record { known = s.known; sees = s.sees; misses = filter_passes (λ e. not (meets_old e)) firsts_old k d h }

  -- the new lines that miss the box are the old ones that do, renumbered
  kept_part : filter (is_clean new) (axial_lines new)
      ≡ kept_lines boxes old (axial_lines old) (length front) (length gone)
  kept_part =
      let renumber : AxialLine → AxialLine = renumbered (length front) (length gone) in
      let clean = filter (λ e. not (meets_old e)) firsts_old in
      let alike = λ (e : Pair) (c : Clean e). ap renumber
      (line_same e c.known (and_from (is_seen_pair old e) (not (meets_old e)) c.sees c.misses)) in
      clean_new_lines
      ∙ ap (map new_line) clean_lines
      ∙ map_same_on Clean new_line (λ e. renumber (line_through old e)) alike clean all_clean
      ∙ sym (map_twice renumber (line_through old) clean)
      ∙ ap (map renumber) (sym clean_old_lines)

  -- ---- the new lines that meet the box

  -- of a pair of the new scene, what is known of it as one of the old
  record IsNew (x : Pair) : Type 0 where
    renewed : Renewed x
    dirty : is_seen_pair new x ≡ true → meets_new x ≡ true → (is_dirty x.0.1 ≡ true) × (is_dirty x.1.1 ≡ true)

  -- what is known of new pairs
  all_new : All IsNew news
  all_new =
      subst (All IsNew) (sym news_are)
      (All-map IsNew renew (filter keeps olds)
      (λ k d h. let e = All-filter keeps Known olds all_known k d h in
      let kept = filter_passes keeps olds k d h in
      record { renewed = e.renewed kept; dirty = dirty_by_new _ e kept }))

  -- the line of a new pair
  line_of_new : (x : Pair) → Renewed x → IsLineOf new (line_through new x) x
  line_of_new x r = record { first = r.first; second = r.second; from = refl; to = refl }

  -- one whose points see each other
  record SeesNew (x : Pair) : Type 0 where
    is_new : IsNew x
    sees : is_seen_pair new x ≡ true

  -- the line of a new pair is dirty
  abbrev is_dirty_of : Pair → Bool
  is_dirty_of x = is_dirty_line boxes new (line_through new x)

  -- where it meets the box
  dirty_of_is : (x : Pair) → SeesNew x → is_dirty_of x ≡ meets_new x
  dirty_of_is x s =
      dirty_as_meets new box (line_through new x) x (line_of_new x s.is_new.renewed) (seen_differ new x s.sees)

  -- lines with the same ends are dirty alike
  dirty_of_alike : (x y : Pair) → SeesNew x → SeesNew y → same_line new x y ≡ true → is_dirty_of y ≡ is_dirty_of x
  dirty_of_alike x y s t h =
      dirty_of_is y t
      ∙ meet_alike new x y (seen_differ new x s.sees) (seen_differ new y t.sees) box h
      ∙ sym (dirty_of_is x s)

  -- the new pairs in sight
  abbrev seen_news : List Pair
  seen_news = filter (is_seen_pair new) news

  -- what is known of them
  all_seen_news : All SeesNew seen_news
  all_seen_news =
      λ k d h. record {
        is_new = All-filter (is_seen_pair new) IsNew news all_new k d h;
        sees = filter_passes (is_seen_pair new) news k d h;
      }

  -- among pairs of dirty corners alone are those with dirty lines
  dirty_pairs_alone : filter is_dirty_of seen_news ≡ filter is_dirty_of (fresh_pairs boxes old (axial_lines old) new)
  dirty_pairs_alone =
      implied_first is_dirty_of (hold_both is_dirty_at) seen_news
      (λ k d h. let s = all_seen_news k d h in
      λ dirty. let corners =
      s.is_new.dirty s.sees (sym (dirty_of_is _ s) ∙ dirty) in and_from _ _ corners.0 corners.1)
      ∙ ap (filter is_dirty_of) (filter_exchanged (hold_both is_dirty_at) (is_seen_pair new) news
      ∙ ap (filter (is_seen_pair new))
      (sym (ap (λ ps. pairs (filter is_dirty_at (enumerate_from 0 ps))) new_is
      ∙ pairs_filter is_dirty_at (enumerate_from 0 (front ++ back)))))

  -- the new lines that meet the box are the fresh ones
  fresh_part : filter (is_dirty_line boxes new) (axial_lines new) ≡ fresh_lines boxes old (axial_lines old) new
  fresh_part =
      ap (filter (is_dirty_line boxes new)) (lines_are new (front ++ back) new_is)
      ∙ filter_map_first (is_dirty_line boxes new) (line_through new) (distinct_by (same_line new) seen_news)
      ∙ ap (map (line_through new)) (split SeesNew (same_line new) is_dirty_of dirty_of_alike seen_news
      all_seen_news ∙ ap (distinct_by (same_line new)) dirty_pairs_alone)
      ∙ sym (firsts_map same_ends (line_through new) []
      (filter is_dirty_of (fresh_pairs boxes old (axial_lines old) new)))
      ∙ ap (distinct_by same_ends) (sym (filter_map_first (is_dirty_line boxes new) (line_through new)
      (fresh_pairs boxes old (axial_lines old) new)))

  -- ---- both

  -- the new lines are in order
  lines_rise : IsRising comes_before (axial_lines new)
  lines_rise =
      subst (IsRising comes_before) (sym (lines_are new (front ++ back) new_is))
      (rising_map comes_before (line_through new) (distinct_by (same_line new) seen_news)
      (rising_firsts pair_before (same_line new) [] seen_news
      (rising_filter pair_before (is_seen_pair new) news (pairs_rising 0 (front ++ back)))))

  -- both parts merged are all lines
  pub lines_updated : axial_lines new
      ≡ merged comes_before (kept_lines boxes old (axial_lines old) (length front) (length gone))
      (fresh_lines boxes old (axial_lines old) new)
  lines_updated =
      sym (rejoined comes_before (is_clean new) (axial_lines new) lines_rise)
      ∙ ap (λ ls. merged comes_before ls (filter (λ l. not (is_clean new l)) (axial_lines new))) kept_part
      ∙ ap (merged comes_before (kept_lines boxes old (axial_lines old) (length front) (length gone)))
      (filter_agree (λ l. not (is_clean new l)) (is_dirty_line boxes new) (λ l. not_not (is_dirty_line boxes new l))
      (axial_lines new)
      ∙ fresh_part)
