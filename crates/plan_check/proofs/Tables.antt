-- Tables by name, of which no two entries have one name: copied, and changed at one name.
use Rattle.std.specs.Prelude.{◌≡◌, ℕ, Bool, true, false, not, cond, List, [], ◌∷◌, ◌++◌, map, filter, Some, None, if◌then◌else◌}
use Rattle.std.specs.List.{IsDistinct, AllByRecursion, slice_get}
use Rattle.std.specs.Option.{option_map}
use Rattle.std.specs.Map.{lookup, keys_of, values_of}
use Rattle.std.specs.Str.{bytes_eq}
use Rattle.std.proofs.Common.{refl, sym, ap, ◌∙◌, subst}
use Rattle.std.proofs.lemmas.List.{append_assoc}
use Rattle.std.proofs.lemmas.Option.{slice_get-map, same_Some}
use Rattle.std.proofs.lemmas.Slice.Eq.{bytes_eq-Decides}
use Rattle.std.proofs.lemmas.Cmp.{nat_list_eq_equiv}
use Rattle.std.proofs.lemmas.Map.Keys.{IsDistinct-head, IsDistinct-tail}
use Rattle.indexmap.specs.IndexMap.{IndexMap, insert_entry}
use Rattle.indexmap.proofs.CallerLemmas.{insert_entry-new}

module _ {V : Type 0} where
  -- the key of an entry isn't among those before it
  later_is_new : (es : List (List ℕ × V)) (e : List ℕ × V) (rest : List (List ℕ × V)) → IsDistinct bytes_eq (keys_of (es ++ e ∷ rest)) → lookup (bytes_eq e.0) es ≡ None
  later_is_new [] e rest h = refl
  later_is_new (x ∷ es) e rest h =
      let apart = at_place es (IsDistinct-head bytes_eq x.0 (keys_of (es ++ e ∷ rest)) h) in
      let tail = later_is_new es e rest (IsDistinct-tail bytes_eq x.0 (keys_of (es ++ e ∷ rest)) h) in
      ap (λ t. cond t (Some x.1) (lookup (bytes_eq e.0) es)) (nat_list_eq_equiv.symm e.0 x.0 ∙ apart) ∙ tail
    where
      at_place : (es : List (List ℕ × V)) → AllByRecursion (λ y. bytes_eq x.0 y ≡ false) (keys_of (es ++ e ∷ rest)) → bytes_eq x.0 e.0 ≡ false
      at_place [] h = h.0
      at_place (y ∷ es) h = at_place es h.1

  -- one more entry is copied: its name and its value are those of the next entry
  pub copied_on : {S : Type 0} (copy : IndexMap (List ℕ) V S) (all left rest new : List (List ℕ × V)) (name key : List ℕ) (v value : V)
      → IsDistinct bytes_eq (keys_of all) → copy.entries ++ left ≡ all → left ≡ (name, v) ∷ rest → key ≡ name → value ≡ v
      → new ≡ insert_entry bytes_eq copy.entries key value → new ++ rest ≡ all
  copied_on copy all left rest new name key v value distinct before next same_name same_value is =
      let h : copy.entries ++ (name, v) ∷ rest ≡ all = ap (λ es. copy.entries ++ es) (sym next) ∙ before in
      let fresh = later_is_new copy.entries (name, v) rest (subst (λ es. IsDistinct bytes_eq (keys_of es)) (sym h) distinct) in
      let pushed : new ≡ copy.entries ++ (name, v) ∷ [] =
      is ∙ ap (λ k. insert_entry bytes_eq copy.entries k value) same_name ∙ ap (λ w. insert_entry bytes_eq copy.entries name w) same_value ∙ insert_entry-new bytes_eq copy name v fresh in
      ap (λ es. es ++ rest) pushed ∙ append_assoc copy.entries ((name, v) ∷ []) rest ∙ h

  -- ---- the entry of a name

  none_passes : (name : List ℕ) (es : List (List ℕ × V)) → AllByRecursion (λ y. bytes_eq name y ≡ false) (keys_of es) → lookup (bytes_eq name) es ≡ None
  none_passes name [] h = refl
  none_passes name (e ∷ es) h = ap (λ t. cond t (Some e.1) (lookup (bytes_eq name) es)) h.0 ∙ none_passes name es h.1

  -- what is found by index is what is found by name
  pub found_at : (name key : List ℕ) (v : V) (es : List (List ℕ × V)) (k : ℕ) → slice_get (values_of es) k ≡ lookup (bytes_eq name) es → slice_get es k ≡ Some (key, v)
      → lookup (bytes_eq name) es ≡ Some v
  found_at name key v es k by_name at = sym by_name ∙ slice_get-map (λ (e : List ℕ × V). e.1) es k ∙ ap (option_map (λ (e : List ℕ × V). e.1)) at

module _ {V Y : Type 0} (f : List ℕ × V → Y) (test : Y → Bool) (name : List ℕ) (same : (e : List ℕ × V) → test (f e) ≡ bytes_eq e.0 name) where
  test_is : (e : List ℕ × V) (t : Bool) → bytes_eq name e.0 ≡ t → test (f e) ≡ t
  test_is e t is = same e ∙ nat_list_eq_equiv.symm e.0 name ∙ is

  -- no part has a name that isn't found
  pub none_named : (es : List (List ℕ × V)) → lookup (bytes_eq name) es ≡ None → filter test (map f es) ≡ []
  none_named [] h = refl
  none_named (e ∷ es) h = by (bytes_eq name e.0) refl (none_named es) h
    where
      by : (t : Bool) → bytes_eq name e.0 ≡ t → (lookup (bytes_eq name) es ≡ None → filter test (map f es) ≡ []) → cond t (Some e.1) (lookup (bytes_eq name) es) ≡ None
          → filter test (map f (e ∷ es)) ≡ []
      by true is rest h = cc
      by false is rest h = ap (λ b. cond b (f e ∷ filter test (map f es)) (filter test (map f es))) (test_is e false is) ∙ rest h

  -- one part has a name that is found
  pub one_named : (es : List (List ℕ × V)) (v : V) → IsDistinct bytes_eq (keys_of es) → lookup (bytes_eq name) es ≡ Some v → filter test (map f es) ≡ f (name, v) ∷ []
  one_named [] v distinct h = cc
  one_named (e ∷ es) v distinct h = by (bytes_eq name e.0) refl (one_named es v (IsDistinct-tail bytes_eq e.0 (keys_of es) distinct)) h
    where
      by : (t : Bool) → bytes_eq name e.0 ≡ t → (lookup (bytes_eq name) es ≡ Some v → filter test (map f es) ≡ f (name, v) ∷ [])
          → cond t (Some e.1) (lookup (bytes_eq name) es) ≡ Some v → filter test (map f (e ∷ es)) ≡ f (name, v) ∷ []
      by true is rest h =
          let named = (bytes_eq-Decides name e.0).0 is in
          let others = none_named es (none_passes name es (subst (λ n. AllByRecursion (λ y. bytes_eq n y ≡ false) (keys_of es)) (sym named) (IsDistinct-head bytes_eq e.0 (keys_of es) distinct))) in
          ap (λ b. cond b (f e ∷ filter test (map f es)) (filter test (map f es))) (test_is e true is)
          ∙ ap (λ ys. f e ∷ ys) others
          ∙ ap (λ k. f (k, e.1) ∷ []) (sym named)
          ∙ ap (λ w. f (name, w) ∷ []) (same_Some e.1 v h)
      by false is rest h = ap (λ b. cond b (f e ∷ filter test (map f es)) (filter test (map f es))) (test_is e false is) ∙ rest h

  -- what is kept of the table is what is kept of the parts
  pub others_kept : (es : List (List ℕ × V)) → map f (filter (λ e. not (bytes_eq e.0 name)) es) ≡ filter (λ y. not (test y)) (map f es)
  others_kept [] = refl
  others_kept (e ∷ es) = by (bytes_eq e.0 name) (same e) (others_kept es)
    where
      by : (t : Bool) → test (f e) ≡ t → map f (filter (λ e. not (bytes_eq e.0 name)) es) ≡ filter (λ y. not (test y)) (map f es)
          → map f (cond (not t) (e ∷ filter (λ e. not (bytes_eq e.0 name)) es) (filter (λ e. not (bytes_eq e.0 name)) es)) ≡ filter (λ y. not (test y)) (map f (e ∷ es))
      by true is rest = rest ∙ sym (ap (λ b. cond (not b) (f e ∷ filter (λ y. not (test y)) (map f es)) (filter (λ y. not (test y)) (map f es))) is)
      by false is rest = ap (λ ys. f e ∷ ys) rest ∙ sym (ap (λ b. cond (not b) (f e ∷ filter (λ y. not (test y)) (map f es)) (filter (λ y. not (test y)) (map f es))) is)

  module _ (change : Y → Y) where
    -- where no part has the name, none is changed
    pub none_changed : (es : List (List ℕ × V)) → lookup (bytes_eq name) es ≡ None → map (λ y. if test y then change y else y) (map f es) ≡ map f es
    none_changed [] h = refl
    none_changed (e ∷ es) h = by (bytes_eq name e.0) refl (none_changed es) h
      where
        by : (t : Bool) → bytes_eq name e.0 ≡ t → (lookup (bytes_eq name) es ≡ None → map (λ y. if test y then change y else y) (map f es) ≡ map f es)
            → cond t (Some e.1) (lookup (bytes_eq name) es) ≡ None → map (λ y. if test y then change y else y) (map f (e ∷ es)) ≡ map f (e ∷ es)
        by true is rest h = cc
        by false is rest h =
            ap (λ b. (if b then change (f e) else f e) ∷ map (λ y. if test y then change y else y) (map f es)) (test_is e false is) ∙ ap (λ ys. f e ∷ ys) (rest h)

    -- the part of a name is changed where the entry takes the changed value
    pub one_changed : (es : List (List ℕ × V)) (v w : V) → ((key : List ℕ) → change (f (key, v)) ≡ f (key, w)) → IsDistinct bytes_eq (keys_of es) → lookup (bytes_eq name) es ≡ Some v
        → map (λ y. if test y then change y else y) (map f es) ≡ map f (insert_entry bytes_eq es name w)
    one_changed [] v w is_change distinct h = cc
    one_changed (e ∷ es) v w is_change distinct h = by (bytes_eq name e.0) refl (one_changed es v w is_change (IsDistinct-tail bytes_eq e.0 (keys_of es) distinct)) h
      where
        by : (t : Bool) → bytes_eq name e.0 ≡ t
            → (lookup (bytes_eq name) es ≡ Some v → map (λ y. if test y then change y else y) (map f es) ≡ map f (insert_entry bytes_eq es name w))
            → cond t (Some e.1) (lookup (bytes_eq name) es) ≡ Some v
            → map (λ y. if test y then change y else y) (map f (e ∷ es)) ≡ map f (if t then (e.0, w) ∷ es else e ∷ insert_entry bytes_eq es name w)
        by true is rest h =
            let named = (bytes_eq-Decides name e.0).0 is in
            let others = none_changed es (none_passes name es (subst (λ n. AllByRecursion (λ y. bytes_eq n y ≡ false) (keys_of es)) (sym named) (IsDistinct-head bytes_eq e.0 (keys_of es) distinct))) in
            ap (λ b. (if b then change (f e) else f e) ∷ map (λ y. if test y then change y else y) (map f es)) (test_is e true is)
            ∙ ap (λ ys. change (f e) ∷ ys) others
            ∙ ap (λ u. change (f (e.0, u)) ∷ map f es) (same_Some e.1 v h)
            ∙ ap (λ y. y ∷ map f es) (is_change e.0)
        by false is rest h =
            ap (λ b. (if b then change (f e) else f e) ∷ map (λ y. if test y then change y else y) (map f es)) (test_is e false is) ∙ ap (λ ys. f e ∷ ys) (rest h)
