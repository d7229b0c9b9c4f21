-- Two lists in order as one, one element after the other.
use Rattle.std.proofs.Common.{◌≡◌, ◌∙◌, ℕ, suc, ◌+◌, ◌<◌, ◌≤◌, Bool, true, false, cond, List, [], ◌∷◌, ◌++◌, length, drop, get_or, arith, refl, sym, ap, append_assoc}
use Rattle.std.proofs.lemmas.List.{drop_all, append-nil}
use Rattle.std.proofs.Math.Seq.{drop-cons}
use Rattle.plane_spec.specs.declared.PlanBox.{PlanBox}
use Rattle.sight_spec.specs.Scene.{Scene}
use Rattle.sight_spec.specs.Axial.{AxialLine}
use Rattle.sight_spec.specs.Dirty.{is_dirty_line}
use Rattle.dirty_laws.specs.Scenes.{removal_of}
use Rattle.list_laws.specs.Merged.{merged, merged_into}
use Rattle.line_laws.specs.Lines.{renumbered, kept_lines}

plain : (k : ℕ) → suc k ≡ k + 1
plain k = omega arith

-- ---- two lists in order

module _ {X : Type 0} (lt : X → X → Bool) where
  -- nothing merged in
  pub with_none : (xs : List X) → merged lt xs [] ≡ xs
  with_none [] = refl
  with_none (x ∷ xs) = ap (λ r. x ∷ r) (with_none xs)

  -- next the first of the first list
  pub next_left : (out xs ys : List X) (i j : ℕ) (d e : X) → i < length xs → j < length ys
      → lt (get_or xs i d) (get_or ys j e) ≡ true
      → (out ++ get_or xs i d ∷ []) ++ merged lt (drop (i + 1) xs) (drop j ys)
      ≡ out ++ merged lt (drop i xs) (drop j ys)
  next_left out xs ys i j d e h k t =
      append_assoc out (get_or xs i d ∷ []) (merged lt (drop (i + 1) xs) (drop j ys))
      ∙ ap (λ n. out ++ get_or xs i d ∷ merged lt (drop n xs) (drop j ys)) (sym (plain i))
      ∙ ap (λ zs. out ++ get_or xs i d ∷ merged lt (drop (suc i) xs) zs) (drop-cons ys j e k)
      ∙ ap (λ zs. out ++ zs) (sym (taken (get_or xs i d) (drop (suc i) xs) (get_or ys j e) (drop (suc j) ys) t))
      ∙ ap (λ zs. out ++ merged lt zs (get_or ys j e ∷ drop (suc j) ys)) (sym (drop-cons xs i d h))
      ∙ ap (λ zs. out ++ merged lt (drop i xs) zs) (sym (drop-cons ys j e k))
    where
      taken : (x : X) (us : List X) (y : X) (vs : List X) → lt x y ≡ true
          → merged lt (x ∷ us) (y ∷ vs) ≡ x ∷ merged lt us (y ∷ vs)
      taken x us y vs t = rw t refl

  -- next the first of the second list
  pub next_right : (out xs ys : List X) (i j : ℕ) (d e : X) → i < length xs → j < length ys
      → lt (get_or xs i d) (get_or ys j e) ≡ false
      → (out ++ get_or ys j e ∷ []) ++ merged lt (drop i xs) (drop (j + 1) ys)
      ≡ out ++ merged lt (drop i xs) (drop j ys)
  next_right out xs ys i j d e h k t =
      append_assoc out (get_or ys j e ∷ []) (merged lt (drop i xs) (drop (j + 1) ys))
      ∙ ap (λ n. out ++ get_or ys j e ∷ merged lt (drop i xs) (drop n ys)) (sym (plain j))
      ∙ ap (λ zs. out ++ get_or ys j e ∷ merged lt zs (drop (suc j) ys)) (drop-cons xs i d h)
      ∙ ap (λ zs. out ++ zs) (sym (taken (get_or xs i d) (drop (suc i) xs) (get_or ys j e) (drop (suc j) ys) t))
      ∙ ap (λ zs. out ++ merged lt zs (get_or ys j e ∷ drop (suc j) ys)) (sym (drop-cons xs i d h))
      ∙ ap (λ zs. out ++ merged lt (drop i xs) zs) (sym (drop-cons ys j e k))
    where
      taken : (x : X) (us : List X) (y : X) (vs : List X) → lt x y ≡ false
          → merged lt (x ∷ us) (y ∷ vs) ≡ y ∷ merged lt (x ∷ us) vs
      taken x us y vs t = rw t refl

  -- where one of the two is used up
  pub ended_left : (out xs ys : List X) (i j : ℕ) → length xs ≤ i
      → (out ++ drop i xs) ++ drop j ys ≡ out ++ merged lt (drop i xs) (drop j ys)
  ended_left out xs ys i j h =
      ap (λ zs. (out ++ zs) ++ drop j ys) (drop_all i xs h) ∙ ap (λ zs. zs ++ drop j ys) (append-nil out)
      ∙ ap (λ zs. out ++ merged lt zs (drop j ys)) (sym (drop_all i xs h))

  pub ended_right : (out xs ys : List X) (i j : ℕ) → length ys ≤ j
      → (out ++ drop i xs) ++ drop j ys ≡ out ++ merged lt (drop i xs) (drop j ys)
  ended_right out xs ys i j h =
      ap (λ zs. (out ++ drop i xs) ++ zs) (drop_all j ys h) ∙ append-nil (out ++ drop i xs)
      ∙ ap (λ zs. out ++ zs) (sym (with_none (drop i xs)))
      ∙ ap (λ zs. out ++ merged lt (drop i xs) zs) (sym (drop_all j ys h))

-- ---- kept lines

module _ (area : PlanBox) (scene : Scene) (lines : List AxialLine) (start count : ℕ) (kept : List AxialLine)
    (k : ℕ) where
  -- those of some lines that are kept
  abbrev kept_of : List AxialLine → List AxialLine
  kept_of ls = kept_lines (removal_of area) scene ls start count

  -- a line that misses the box is kept
  pub next_kept : (d : AxialLine) → k < length lines → is_dirty_line (removal_of area) scene (get_or lines k d) ≡ false
      → (kept ++ renumbered start count (get_or lines k d) ∷ []) ++ kept_of (drop (k + 1) lines)
      ≡ kept ++ kept_of (drop k lines)
  next_kept d h e =
      append_assoc kept (renumbered start count (get_or lines k d) ∷ []) (kept_of (drop (k + 1) lines))
      ∙ ap (λ n. kept ++ renumbered start count (get_or lines k d) ∷ kept_of (drop n lines)) (sym (plain k))
      ∙ ap (λ ls. kept ++ ls) (sym (taken (get_or lines k d) (drop (suc k) lines) e))
      ∙ ap (λ ls. kept ++ kept_of ls) (sym (drop-cons lines k d h))
    where
      taken : (l : AxialLine) (ls : List AxialLine) → is_dirty_line (removal_of area) scene l ≡ false
          → kept_of (l ∷ ls) ≡ renumbered start count l ∷ kept_of ls
      taken l ls e = rw e refl

  -- one that meets it is not
  pub next_dropped : (d : AxialLine) → k < length lines
      → is_dirty_line (removal_of area) scene (get_or lines k d) ≡ true
      → kept ++ kept_of (drop (k + 1) lines) ≡ kept ++ kept_of (drop k lines)
  next_dropped d h e =
      ap (λ n. kept ++ kept_of (drop n lines)) (sym (plain k))
      ∙ ap (λ ls. kept ++ ls) (sym (left (get_or lines k d) (drop (suc k) lines) e))
      ∙ ap (λ ls. kept ++ kept_of ls) (sym (drop-cons lines k d h))
    where
      left : (l : AxialLine) (ls : List AxialLine) → is_dirty_line (removal_of area) scene l ≡ true
          → kept_of (l ∷ ls) ≡ kept_of ls
      left l ls e = rw e refl

-- ---- lengths

into_longer : {X : Type 0} (lt : X → X → Bool) (x : X) (rest : List X → List X)
    → ((ys : List X) → length ys ≤ length (rest ys)) → (ys : List X) → length ys ≤ length (merged_into lt x rest ys)
into_longer lt x rest h [] = omega arith
into_longer {X = X} lt x rest h (y ∷ ys) = by (lt x y) (h (y ∷ ys)) (into_longer lt x rest h ys)
  where
    by : (t : Bool) → length (y ∷ ys) ≤ length (rest (y ∷ ys)) → length ys ≤ length (merged_into lt x rest ys)
        → length (y ∷ ys) ≤ length (cond t (x ∷ rest (y ∷ ys)) (y ∷ merged_into lt x rest ys))
    by true f g = omega (arith, f)
    by false f g = omega (arith, g)

-- merged lists are no shorter than the second
pub none_fewer_merged : {X : Type 0} (lt : X → X → Bool) (xs ys : List X) → length ys ≤ length (merged lt xs ys)
none_fewer_merged lt [] ys = omega arith
none_fewer_merged lt (x ∷ xs) ys = into_longer lt x (merged lt xs) (none_fewer_merged lt xs) ys

-- more than n stay more
pub more_merged : {X : Type 0} (lt : X → X → Bool) (n : ℕ) (xs ys : List X) → n < length ys
    → n < length (merged lt xs ys)
more_merged lt n xs ys h = omega (arith, h, none_fewer_merged lt xs ys)
