-- A list made of the entries of a table: at one of them, and searched.
use Rattle.std.specs.Prelude.{Option, cond, None, ◌||◌, true, false, is_some, ◌≡◌, ℕ, ◌+◌, zero, suc, Bool, not, List, [], ◌∷◌, map, drop, position, Some}
use Rattle.std.specs.List.{slice_get, prefix_len, list_any}
use Rattle.std.specs.Map.{lookup}
use Rattle.std.specs.Str.{bytes_eq}
use Rattle.std.proofs.Common.{refl, sym, ap, ◌∙◌, add-one}
use Rattle.std.proofs.lemmas.Option.{same_Some}
use Rattle.std.proofs.lemmas.List.{length-map}
use Rattle.std.proofs.lemmas.Cmp.{nat_list_eq_equiv}
use Rattle.plane_spec.specs.declared.Segment.{Segment}
use Rattle.plan_spec.specs.Plan.{is_route_named}
use Rattle.plan_check.specs.Kept.{route_of_entry}

-- what is left of the list after the entry before
pub kept_next : {X Y : Type 0} (f : X → Y) (es : List X) (k : ℕ) (e : X) → slice_get es k ≡ Some e
    → drop k (map f es) ≡ f e ∷ drop (k + 1) (map f es)
kept_next f [] k e h = cc
kept_next f (x ∷ es) zero e h = ap (λ y. f y ∷ map f es) (same_Some x e h)
kept_next f (x ∷ es) (suc k) e h = rw add-one (rw add-one at (kept_next f es k e h))

module _ {X Y Z : Type 0} (p : Y → Bool) (q : Z → Bool) (f : X → Y) (g : X → Z) (same : (x : X) → p (f x) ≡ q (g x)) where
  prefix_agrees : (xs : List X) → prefix_len (λ y. not (p y)) (map f xs) ≡ prefix_len (λ z. not (q z)) (map g xs)
  prefix_agrees [] = refl
  prefix_agrees (x ∷ xs) = rw (same x, prefix_agrees xs)

  -- two lists made of one list are searched alike
  pub position_agrees : (xs : List X) → position p (map f xs) ≡ position q (map g xs)
  position_agrees xs = rw (prefix_agrees xs, length-map xs f, length-map xs g)

-- a name is found among the entries where it is found among the routes
pub route_position : (name : List ℕ) (es : List (List ℕ × Segment)) → position (bytes_eq name) (map (λ e. e.0) es) ≡ position (is_route_named name) (map route_of_entry es)
route_position name es =
    position_agrees (bytes_eq name) (is_route_named name) (λ (e : List ℕ × Segment). e.0) route_of_entry (λ e. nat_list_eq_equiv.symm name e.0) es

-- ---- names

module _ {V Y : Type 0} (f : List ℕ × V → Y) (test : Y → Bool) (name : List ℕ) (same : (e : List ℕ × V) → test (f e) ≡ bytes_eq e.0 name) where
  -- a part of the name is in the list where the name is in the table
  pub named_is : (es : List (List ℕ × V)) → list_any test (map f es) ≡ is_some (lookup (bytes_eq name) es)
  named_is [] = refl
  named_is (e ∷ es) = by (bytes_eq name e.0) (same e ∙ nat_list_eq_equiv.symm e.0 name) (named_is es)
    where
      by : (t : Bool) → test (f e) ≡ t → list_any test (map f es) ≡ is_some (lookup (bytes_eq name) es)
          → (test (f e) || list_any test (map f es)) ≡ is_some (cond t (Some e.1) (lookup (bytes_eq name) es))
      by true h rest = ap (λ b. b || list_any test (map f es)) h
      by false h rest = ap (λ b. b || list_any test (map f es)) h ∙ rest

  -- no part has a name that isn't in the table
  pub not_named : (es : List (List ℕ × V)) → list_any test (map f es) ≡ false → lookup (bytes_eq name) es ≡ None
  not_named es h = by (lookup (bytes_eq name) es) (sym (named_is es) ∙ h)
    where
      by : (o : Option V) → is_some o ≡ false → o ≡ None
      by None h = refl
      by (Some v) h = cc
