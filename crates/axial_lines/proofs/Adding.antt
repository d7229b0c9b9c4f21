-- Lines that are added pair by pair and row by row.
use Rattle.std.proofs.Common.{◌≡◌, ◌∙◌, ℕ, suc, ◌+◌, ◌<◌, ◌≤◌, Bool, true, false, cond, List, [], ◌∷◌, ◌++◌, map, filter, length, drop, get_or, arith, refl, sym, ap, subst}
use Rattle.std.specs.Prelude.{Option, Some, None}
use Rattle.std.specs.List.{list_any}
use Rattle.std.proofs.lemmas.List.{map-append, drop_all, length-append}
use Rattle.std.proofs.lemmas.List.Elements.{filter-append}
use Rattle.std.proofs.Math.Seq.{drop-cons}
use Rattle.plane_spec.specs.declared.Point.{Point}
use Rattle.plane_spec.specs.declared.PlanBox.{PlanBox}
use Rattle.plane_spec.specs.Lists.{pairs, with_each}
use Rattle.sight_spec.specs.Scene.{Scene}
use Rattle.sight_spec.specs.Axial.{AxialLine, line_through, is_seen_pair}
use Rattle.extent_laws.specs.Corners.{Pair}
use Rattle.axial_lines.specs.Found.{added, has_ends_of, is_wanted, is_wanted_extent, seen_line, lines_with, lines_added}

plain : (k : ℕ) → suc k ≡ k + 1
plain k = omega arith

-- ---- any elements

-- those of two lists, one list after the other
pub added_more : {X : Type 0} (alike : X → X → Bool) (kept xs ys : List X)
    → added alike kept (xs ++ ys) ≡ added alike (added alike kept xs) ys
added_more alike kept [] ys = refl
added_more alike kept (x ∷ xs) ys =
    added_more alike (cond (list_any (alike x) kept) kept (kept ++ x ∷ [])) xs ys

-- nothing is taken away
pub none_fewer : {X : Type 0} (alike : X → X → Bool) (kept xs : List X) → length kept ≤ length (added alike kept xs)
none_fewer alike kept [] = omega arith
none_fewer {X = X} alike kept (x ∷ xs) = by (list_any (alike x) kept) (λ ks. none_fewer alike ks xs)
  where
    by : (t : Bool) → ((ks : List X) → length ks ≤ length (added alike ks xs))
        → length kept ≤ length (added alike (cond t kept (kept ++ x ∷ [])) xs)
    by true ih = ih kept
    by false ih = let more = ih (kept ++ x ∷ []) in omega (arith, more, length-append kept (x ∷ []))

-- ---- ends that are known

-- the extent of a line between the same points is wanted or not
pub wanted_of_ends : (area : Option PlanBox) (m n first second : ℕ × Point) (line : AxialLine) → m ≡ first → n ≡ second
    → {w : Bool} → is_wanted_extent area m.1 n.1 line.from line.to ≡ w
    → is_wanted_extent area first.1 second.1 line.from line.to ≡ w
wanted_of_ends area m n first second line e f h =
    sym (ap (λ k. is_wanted_extent area k.1 n.1 line.from line.to) e
    ∙ ap (λ k. is_wanted_extent area first.1 k.1 line.from line.to) f) ∙ h

-- ---- lines of a scene

module _ (scene : Scene) (area : Option PlanBox) where
  lines_of_both : (es fs : List Pair) → lines_with scene area (es ++ fs)
      ≡ lines_with scene area es ++ lines_with scene area fs
  lines_of_both es fs =
      ap (λ t. map (line_through scene) (filter (is_wanted scene area) t)) (filter-append (is_seen_pair scene) es fs)
      ∙ ap (map (line_through scene))
      (filter-append (is_wanted scene area) (filter (is_seen_pair scene) es) (filter (is_seen_pair scene) fs))
      ∙ map-append (line_through scene) (filter (is_wanted scene area) (filter (is_seen_pair scene) es))
      (filter (is_wanted scene area) (filter (is_seen_pair scene) fs))

  -- those of two lists of pairs, one list after the other
  with_both : (kept : List AxialLine) (es fs : List Pair)
      → lines_added scene area kept (es ++ fs) ≡ lines_added scene area (lines_added scene area kept es) fs
  with_both kept es fs =
      ap (added has_ends_of kept) (lines_of_both es fs)
      ∙ added_more has_ends_of kept (lines_with scene area es) (lines_with scene area fs)

  -- more than `most` stay more
  many_stay : (most : ℕ) (kept total : List AxialLine) (es : List Pair) → lines_added scene area kept es ≡ total
      → most < length kept → most < length total
  many_stay most kept total es e many =
      subst (λ ls. most < length ls) e (grown (none_fewer has_ends_of kept (lines_with scene area es)) many)
    where
      grown : {m n : ℕ} → m ≤ n → most < m → most < n
      grown h k = omega arith

  -- ---- one pair

  module _ (kept : List AxialLine) (e : Pair) (line : AxialLine) (seen : seen_line scene e ≡ Some line) where
    -- the pair sees each other, and this is its line
    sees : {P : Type 0} → (is_seen_pair scene e ≡ true → line_through scene e ≡ line → P) → P
    sees {P = P} f = by (is_seen_pair scene e) refl seen
      where
        value_or : Option AxialLine → AxialLine
        value_or None = line
        value_or (Some l) = l

        by : (t : Bool) → is_seen_pair scene e ≡ t → cond t (Some (line_through scene e)) None ≡ Some line → P
        by true s h = f s (ap value_or h)
        by false s h = cc

    wanted_by : (w : Bool) → is_wanted_extent area e.0.1 e.1.1 line.from line.to ≡ w → line_through scene e ≡ line
        → is_wanted scene area e ≡ w
    wanted_by w h same = ap (λ l. is_wanted_extent area e.0.1 e.1.1 l.from l.to) same ∙ h

    -- a line that isn't wanted adds nothing
    pub one_unwanted : is_wanted_extent area e.0.1 e.1.1 line.from line.to ≡ false
        → kept ≡ lines_added scene area kept (e ∷ [])
    one_unwanted w = sees (λ s same. ap (added has_ends_of kept) (sym (none s (wanted_by false w same))))
      where
        none : is_seen_pair scene e ≡ true → is_wanted scene area e ≡ false → lines_with scene area (e ∷ []) ≡ []
        none s t = rw (s, t) refl

    -- one that is wanted is added
    pub one_wanted : is_wanted_extent area e.0.1 e.1.1 line.from line.to ≡ true
        → added has_ends_of kept (line ∷ []) ≡ lines_added scene area kept (e ∷ [])
    one_wanted w =
        sees (λ s same. ap (added has_ends_of kept) (sym (one s (wanted_by true w same) ∙ ap (λ l. l ∷ []) same)))
      where
        one : is_seen_pair scene e ≡ true → is_wanted scene area e ≡ true
            → lines_with scene area (e ∷ []) ≡ line_through scene e ∷ []
        one s t = rw (s, t) refl

  -- ---- a row, one pair after the other

  module _ (first : ℕ × Point) (later : List (ℕ × Point)) (kept : List AxialLine) (k : ℕ) where
    pub next_pair : (d : ℕ × Point) → k < length later
        → lines_added scene area kept (map (with_each first) (drop k later))
        ≡ lines_added scene area (lines_added scene area kept ((first, get_or later k d) ∷ []))
        (map (with_each first) (drop (k + 1) later))
    next_pair d h =
        ap (λ xs. lines_added scene area kept (map (with_each first) xs)) (drop-cons later k d h)
        ∙ with_both kept ((first, get_or later k d) ∷ []) (map (with_each first) (drop (suc k) later))
        ∙ ap (λ n. lines_added scene area (lines_added scene area kept ((first, get_or later k d) ∷ []))
        (map (with_each first) (drop n later))) (plain k)

    pub no_pair : length later ≤ k → lines_added scene area kept (map (with_each first) (drop k later)) ≡ kept
    no_pair h = ap (λ xs. lines_added scene area kept (map (with_each first) xs)) (drop_all k later h)

    pub too_many_with_pair : (most : ℕ) (total : List AxialLine) (d : ℕ × Point) → k < length later
        → lines_added scene area kept (map (with_each first) (drop k later)) ≡ total
        → most < length (lines_added scene area kept ((first, get_or later k d) ∷ [])) → most < length total
    too_many_with_pair most total d h e many =
        many_stay most (lines_added scene area kept ((first, get_or later k d) ∷ [])) total
        (map (with_each first) (drop (k + 1) later)) (sym (next_pair d h) ∙ e) many

  -- ---- all rows

  module _ (ends : List (ℕ × Point)) (kept : List AxialLine) (k : ℕ) where
    -- the row of a point and those after it
    abbrev pub row_at : ℕ × Point → List Pair
    row_at d = map (with_each (get_or ends k d)) (drop (k + 1) ends)

    pub next_row : (d : ℕ × Point) → k < length ends
        → lines_added scene area kept (pairs (drop k ends))
        ≡ lines_added scene area (lines_added scene area kept (row_at d)) (pairs (drop (k + 1) ends))
    next_row d h =
        ap (λ xs. lines_added scene area kept (pairs xs)) (drop-cons ends k d h)
        ∙ with_both kept (map (with_each (get_or ends k d)) (drop (suc k) ends)) (pairs (drop (suc k) ends))
        ∙ ap (λ n. lines_added scene area
        (lines_added scene area kept (map (with_each (get_or ends k d)) (drop n ends))) (pairs (drop n ends))) (plain k)

    pub no_row : length ends ≤ k → lines_added scene area kept (pairs (drop k ends)) ≡ kept
    no_row h = ap (λ xs. lines_added scene area kept (pairs xs)) (drop_all k ends h)

    pub too_many_with_row : (most : ℕ) (total : List AxialLine) (d : ℕ × Point) → k < length ends
        → lines_added scene area kept (pairs (drop k ends)) ≡ total
        → most < length (lines_added scene area kept (row_at d)) → most < length total
    too_many_with_row most total d h e many =
        many_stay most (lines_added scene area kept (row_at d)) total (pairs (drop (k + 1) ends))
        (sym (next_row d h) ∙ e) many
