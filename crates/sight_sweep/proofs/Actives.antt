-- The list of the round: one is taken out, one is put in.
use Rattle.std.proofs.Common.{◌≡◌, ◌≢◌, ℕ, zero, suc, ◌+◌, ◌<◌, ◌≤◌, ◌==◌, arith, ap, refl, sym, ◌∙◌, subst, List, []}
use Rattle.std.proofs.Common.{◌∷◌, ◌++◌, length, get_or, take, drop, map}
use Rattle.std.proofs.Common.{ℤ, ◌*ℤ◌}
use Rattle.std.specs.Prelude.{int_lt}
use Rattle.std.proofs.lemmas.Int.{ints}
use Rattle.std.specs.Prelude.{Bool, true, false, ◌&&◌, ◌||◌, not, Some, All, insert, remove}
use Rattle.std.specs.List.{list_any}
use Rattle.std.specs.List.Sorted.{IsPartitionedBy, IsPartitionPoint}
use Rattle.std.proofs.lemmas.List.{length-map}
use Rattle.plane_spec.specs.declared.Point.{Point}
use Rattle.sight_spec.specs.Scene.{Scene, blockers_of_scene}
use Rattle.front_laws.specs.Seen.{Seen, spans, is_in_front, hit_of}
use Rattle.front_laws.specs.Seen.{seen_at}
use Rattle.front_laws.proofs.Tests.{by_lt, by_cases, clash, clash_back, tested_same_number, own_number}
use Rattle.front_laws.proofs.Tests.{some_same, mapped_at, either_second}
use Rattle.front_laws.proofs.Lists.{any_at, by_same}
use Rattle.front_laws.specs.Seen.{AreTogether}
use Rattle.front_laws.proofs.InOrder.{behind, front_chain, den_up, before_chain}
use Rattle.front_laws.proofs.InFront.{front_is_before}
use Rattle.round_laws.specs.Rounds.{Numbered, is_number, Holds}
use Rattle.round_laws.proofs.Edits.{All-insert, All-remove, never_itself, held_so, taken_out, put_in}
use Rattle.round_laws.specs.Rounds.{AreWalls}
use Rattle.sight_sweep.specs.declared.blocker.Blocker.{Blocker}
use Rattle.sight_sweep.specs.Actives.{seen, numbered, IsOf, IsActive, SpansAll, without, beside}

-- ---- lists

map_take : {X Y : Type 0} (f : X → Y) (i : ℕ) (xs : List X) → map f (take i xs) ≡ take i (map f xs)
map_take f zero xs = refl
map_take f (suc i) [] = refl
map_take f (suc i) (x ∷ xs) = ap (λ t. f x ∷ t) (map_take f i xs)

map_drop : {X Y : Type 0} (f : X → Y) (i : ℕ) (xs : List X) → map f (drop i xs) ≡ drop i (map f xs)
map_drop f zero xs = refl
map_drop f (suc i) [] = refl
map_drop f (suc i) (x ∷ xs) = map_drop f i xs

map_joined : {X Y : Type 0} (f : X → Y) (xs ys : List X) → map f (xs ++ ys) ≡ map f xs ++ map f ys
map_joined f [] ys = refl
map_joined f (x ∷ xs) ys = ap (λ t. f x ∷ t) (map_joined f xs ys)

pub map_remove : {X Y : Type 0} (f : X → Y) (xs : List X) (i : ℕ) → map f (remove xs i) ≡ remove (map f xs) i
map_remove f xs i = map_joined f (take i xs) (drop (suc i) xs)
    ∙ ap (λ t. t ++ map f (drop (suc i) xs)) (map_take f i xs)
    ∙ ap (λ t. take i (map f xs) ++ t) (map_drop f (suc i) xs)

pub map_insert : {X Y : Type 0} (f : X → Y) (xs : List X) (i : ℕ) (x : X) → map f (insert xs i x)
    ≡ insert (map f xs) i (f x)
map_insert f xs i x = map_joined f (take i xs) (x ∷ drop i xs)
    ∙ ap (λ t. t ++ f x ∷ map f (drop i xs)) (map_take f i xs)
    ∙ ap (λ t. take i (map f xs) ++ f x ∷ t) (map_drop f i xs)

inside_map : {X Y : Type 0} (f : X → Y) (xs : List X) (i : ℕ) → i < length xs → i < length (map f xs)
inside_map f xs i h = subst (λ n. i < n) (sym (length-map xs f)) h

up_to_map : {X Y : Type 0} (f : X → Y) (xs : List X) (i : ℕ) → i ≤ length xs → i ≤ length (map f xs)
up_to_map f xs i h = subst (λ n. i ≤ n) (sym (length-map xs f)) h

-- ---- tests that agree

pub active_so : (scene : Scene) (p : Point) (kept : ℕ → Bool) (test other : ℕ → Seen → Bool) (active : List Blocker)
    → IsActive scene p kept test active
    → ((n : ℕ) (s : Seen) → n < length (blockers_of_scene scene) → kept n ≡ true
    → seen_at p (blockers_of_scene scene) n ≡ Some s → test n s ≡ other n s) → IsActive scene p kept other active
active_so scene p kept test other active a same = record {
  held = held_so p (blockers_of_scene scene) kept test other (map numbered active) a.held same;
  known = a.known;
}

-- ---- one is taken out

pub taken : (scene : Scene) (p : Point) (kept : ℕ → Bool) (test : ℕ → Seen → Bool) (active : List Blocker)
    (i number : ℕ) (b : Blocker) → IsActive scene p kept test active → i < length active
    → (get_or active i b).number ≡ number → IsActive scene p kept (without number test) (remove active i)
taken scene p kept test active i number b a inside e = record {
  held = subst (Holds p (blockers_of_scene scene) kept (without number test)) (sym (map_remove numbered active i))
      (subst (λ m. Holds p (blockers_of_scene scene) kept (without m test) (remove (map numbered active) i))
      (ap (λ c. c.0) (mapped_at numbered active i b (numbered b) inside) ∙ e)
      (taken_out p (blockers_of_scene scene) kept test (map numbered active) i (numbered b) a.held
      (inside_map numbered active i inside)));
  known = All-remove (IsOf scene p) active i a.known inside;
}

-- none of the number is there
pub not_there : (scene : Scene) (p : Point) (kept : ℕ → Bool) (test : ℕ → Seen → Bool) (active : List Blocker)
    (number : ℕ) → IsActive scene p kept test active
    → ((k : ℕ) (d : Blocker) → k < length active → (get_or active k d).number ≢ number)
    → IsActive scene p kept (without number test) active
not_there scene p kept test active number a none = active_so scene p kept test (without number test) active a
    (λ n s within k seen. by_cases (number == n)
    (λ same. by_cases (test n s)
    (λ passes. absurd (found active number (λ i d lt. none i d lt)
    (subst (λ m. list_any (is_number m) (map numbered active) ≡ true) (sym (tested_same_number number n same))
    (a.held.exactly n s within k seen ∙ passes))))
    (λ fails. fails ∙ sym (no_first (test n s) (number == n) fails)))
    (λ other. sym (no_second (test n s) (number == n) other)))
  where
    no_first : (a b : Bool) → a ≡ false → (a && not b) ≡ false
    no_first a b h = grind arith

    no_second : (a b : Bool) → b ≡ false → (a && not b) ≡ a
    no_second a b h = grind arith

    found : (xs : List Blocker) (number : ℕ)
        → ((k : ℕ) (d : Blocker) → k < length xs → (get_or xs k d).number ≡ number → ⊥)
        → list_any (is_number number) (map numbered xs) ≡ true → ⊥
    found [] number none h = grind arith
    found (x ∷ xs) number none h = by_cases (x.number == number)
        (λ e. none 0 x (omega arith) (tested_same_number x.number number e))
        (λ e. found xs number (λ k d lt. none (suc k) d (omega (arith, lt)))
        (rest (x.number == number) (list_any (is_number number) (map numbered xs)) e h))
      where
        rest : (a b : Bool) → a ≡ false → (a || b) ≡ true → b ≡ true
        rest a b e h = grind arith

-- ---- one is put in

-- two of the scene that one direction spans, of different numbers
pub together_of : (scene : Scene) (p way : Point) (u v : Blocker) → AreWalls scene p → IsOf scene p u → IsOf scene p v
    → u.number ≢ v.number
    → spans way (seen u) ≡ true → spans way (seen v) ≡ true → AreTogether way (seen u) (seen v)
together_of scene p way u v walls u_of v_of other u_spans v_spans = record {
  first = u_spans;
  second = v_spans;
  apart = walls.apart way u.number v.number (seen u)
      (seen v) other u_of.within v_of.within u_of.known v_of.known u_spans v_spans;
  back = walls.apart way v.number u.number (seen v) (seen u)
      (λ e. other (sym e)) v_of.within u_of.within v_of.known u_of.known v_spans u_spans;
}

-- of one number they are seen the same
pub same_seen : (scene : Scene) (p : Point) (u v : Blocker) → IsOf scene p u → IsOf scene p v → u.number ≡ v.number
    → seen u ≡ seen v
same_seen scene p u v u_of v_of e = some_same (seen u) (seen v)
    (sym u_of.known ∙ ap (seen_at p (blockers_of_scene scene)) e ∙ v_of.known)

-- nothing is in front of what is in front of it
one_way : (d : Point) (u v : Seen) → AreTogether d u v → is_in_front u v ≡ true → is_in_front v u ≡ true → ⊥
one_way d u v t h k =
    itself (hit_of d u).num (hit_of d u).den
    (before_chain (hit_of d u) (hit_of d v) (hit_of d u) (den_up d u t.first) (den_up d v t.second) (den_up d u t.first)
    (sym (front_is_before d u v t.first t.second t.apart) ∙ h)
    (sym (front_is_before d v u t.second t.first t.back) ∙ k))
  where
    itself : (a b : ℤ) → int_lt (a *ℤ b) (a *ℤ b) ≡ true → ⊥
    itself a b h = omega (arith, ints, h)

-- one of the list, with what is known of it
pub record IsListed (scene : Scene) (p : Point) (test : ℕ → Seen → Bool) (way : Point) (b : Blocker) : Type 0 where
  pub of : IsOf scene p b
  pub spanned : spans way (seen b) ≡ true

pub listed : (scene : Scene) (p : Point) (kept : ℕ → Bool) (test : ℕ → Seen → Bool) (way : Point)
    (active : List Blocker) → IsActive scene p kept test active → SpansAll scene p kept test way
    → All (IsListed scene p test way) active
listed scene p kept test way active a all k d lt =
    let b = get_or active k d in
    let of = a.known k d lt in
    let is : get_or (map numbered active) k (numbered d) ≡ numbered b = mapped_at numbered active k d (numbered d) lt in
    let own : kept b.number ≡ true = subst (λ c. kept c.0 ≡ true) is
    (a.held.are_kept k (numbered d) (inside_map numbered active k lt)) in
    let there : list_any (is_number b.number) (map numbered active)
    ≡ true = any_at (is_number b.number) (map numbered active) (numbered d)
    (record {
      place = k;
      within = inside_map numbered active k lt;
      holds = subst
          (λ c. is_number b.number c ≡ true) (sym is) (own_number b.number);
    }) in
    record {
      of = of;
      spanned = all b.number (seen b) of.within own of.known
          (sym (a.held.exactly b.number (seen b) of.within own of.known) ∙ there);
    }

ordered : (scene : Scene) (p : Point) (kept : ℕ → Bool) (test : ℕ → Seen → Bool) (active : List Blocker) (i j : ℕ)
    (d : Blocker) → IsActive scene p kept test active → i < j → j < length active
    → is_in_front (seen (get_or active i d)) (seen (get_or active j d)) ≡ true
ordered scene p kept test active i j d a lt within =
    subst (λ c. is_in_front c.1 (seen (get_or active j d)) ≡ true)
    (mapped_at numbered active i d (numbered d) (omega (arith, lt, within)))
    (subst (λ c. is_in_front (get_or (map numbered active) i (numbered d)).1 c.1 ≡ true)
    (mapped_at numbered active j d (numbered d) within)
    (a.held.order i j (numbered d) lt (inside_map numbered active j within)))

-- the list is parted by what is in front of the new one
pub can_search : (scene : Scene) (p : Point) (kept : ℕ → Bool) (test : ℕ → Seen → Bool) (way : Point)
    (active : List Blocker) (new : Blocker) → AreWalls scene p → IsActive scene p kept test active
    → IsOf scene p new → SpansAll scene p kept test way → spans way (seen new) ≡ true
    → IsPartitionedBy (λ v. is_in_front (seen v) (seen new)) active
can_search scene p kept test way active new walls a of all spanned i j x le within h =
    by_lt i j (λ lt. at lt) (λ ge. let e : i
    ≡ j = omega (arith, le, ge) in subst (λ t. is_in_front (seen (get_or active t x)) (seen new) ≡ true) (sym e) h)
  where
    at : i < j → is_in_front (seen (get_or active i x)) (seen new) ≡ true
    at lt =
        let i_in : i < length active = omega (arith, lt, within) in
        let u = get_or active i x in let v = get_or active j x in
        let u_is = listed scene p kept test way active a all i x i_in in
        let v_is = listed scene p kept test way active a all j x within in
        let uv = ordered scene p kept test active i j x a lt within in
        by_same v.number new.number
        (λ e. absurd (clash (is_in_front (seen new) (seen new))
        (subst (λ s. is_in_front s (seen new) ≡ true) (same_seen scene p v new v_is.of of e) h)
        (never_itself (seen new))))
        (λ v_other. by_same u.number new.number
        (λ e. absurd (one_way way (seen new) (seen v)
        (together_of scene p way new v walls of v_is.of (λ f. v_other (sym f)) spanned v_is.spanned)
        (subst (λ s. is_in_front s (seen v) ≡ true) (same_seen scene p u new u_is.of of e) uv) h))
        (λ u_other. by_same u.number v.number
        (λ e. absurd (clash (is_in_front (seen v) (seen v))
        (subst (λ s. is_in_front s (seen v) ≡ true) (same_seen scene p u v u_is.of v_is.of e) uv)
        (never_itself (seen v))))
        (λ uv_other. front_chain way (seen u) (seen v) (seen new)
        (together_of scene p way u v walls u_is.of v_is.of uv_other u_is.spanned v_is.spanned)
        (together_of scene p way v new walls v_is.of of v_other v_is.spanned spanned)
        (together_of scene p way u new walls u_is.of of u_other u_is.spanned spanned) uv h)))

-- what is there already
pub already : (scene : Scene) (p : Point) (kept : ℕ → Bool) (test : ℕ → Seen → Bool) (active : List Blocker)
    (i number : ℕ) (d : Blocker) → IsActive scene p kept test active → i < length active
    → (get_or active i d).number ≡ number → IsActive scene p kept (beside number test) active
already scene p kept test active i number d a inside e = active_so scene p kept test (beside number test) active a
    (λ n s within k seen. by_cases (number == n)
    (λ same. passes n s within k seen same ∙ sym (either_second (test n s) (number == n) same))
    (λ other. sym (no_second (test n s) (number == n) other)))
  where
    no_second : (a b : Bool) → b ≡ false → (a || b) ≡ a
    no_second a b h = grind arith

    passes : (n : ℕ) (s : Seen) → n < length (blockers_of_scene scene) → kept n ≡ true
        → seen_at p (blockers_of_scene scene) n ≡ Some s → (number == n) ≡ true → test n s ≡ true
    passes n s within k seen same =
        let is = mapped_at numbered active i d (numbered d) inside in
        let own : is_number n (get_or (map numbered active) i (numbered d)) ≡ true = ap (is_number n) is
        ∙ ap (λ m. m == n) e ∙ same in
        sym (a.held.exactly n s within k seen)
        ∙ any_at (is_number n) (map numbered active) (numbered d)
        (record { place = i; within = inside_map numbered active i inside; holds = own })

-- one is put in where it belongs
pub placed : (scene : Scene) (p : Point) (kept : ℕ → Bool) (test : ℕ → Seen → Bool) (way : Point)
    (active : List Blocker) (new : Blocker) (i : ℕ) → AreWalls scene p → IsActive scene p kept test active
    → IsOf scene p new → kept new.number ≡ true → SpansAll scene p kept test way → spans way (seen new) ≡ true
    → i ≤ length active
    → (i < length active → (d : Blocker) → (get_or active i d).number ≢ new.number)
    → IsPartitionPoint (λ v. is_in_front (seen v) (seen new) ≡ true)
    (λ v. is_in_front (seen v) (seen new) ≡ false) active i
    → IsActive scene p kept (beside new.number test) (insert active i new)
placed scene p kept test way active new i walls a of own all spanned inside other point = record {
  held = subst (Holds p (blockers_of_scene scene) kept (beside new.number test))
      (sym (map_insert numbered active i new))
      (put_in p (blockers_of_scene scene) kept test (map numbered active) i new.number (seen new) a.held
      (up_to_map numbered active i inside) of.within own of.known
      (λ k b lt. before k b lt)
      (λ k b le lt. after k b le lt));
  known = All-insert (IsOf scene p) active i new a.known inside of;
}
  where
    before : (k : ℕ) (b : Numbered) → k < i → is_in_front (get_or (map numbered active) k b).1 (seen new) ≡ true
    before k b lt =
        let k_in : k < length active = omega (arith, lt, inside) in
        subst (λ c. is_in_front c.1 (seen new) ≡ true) (sym (mapped_at numbered active k new b k_in))
        (point.0 k new (omega arith) lt)

    differs : (k : ℕ) → i ≤ k → k < length active → (get_or active k new).number ≢ new.number
    differs k le lt e = by_lt i k
        (λ above. let i_in : i < length active = omega (arith, above, lt) in
        clash_back (is_in_front (seen (get_or active i new)) (seen new)) (point.1 i new (omega arith) i_in)
        (subst (λ s. is_in_front (seen (get_or active i new)) s ≡ true)
        (same_seen scene p (get_or active k new) new (a.known k new lt) of e)
        (ordered scene p kept test active i k new a above lt)))
        (λ low. let same : k ≡ i = omega (arith, le, low) in
        other (subst (λ t. t < length active) same lt) new
        (subst (λ t. (get_or active t new).number ≡ new.number) same e))

    after : (k : ℕ) (b : Numbered) → i ≤ k → k < length (map numbered active)
        → is_in_front (seen new) (get_or (map numbered active) k b).1 ≡ true
    after k b le in_map =
        let lt : k < length active = subst (λ n. k < n) (length-map active numbered) in_map in
        let v = get_or active k new in
        let v_is = listed scene p kept test way active a all k new lt in
        subst (λ c. is_in_front (seen new) c.1 ≡ true) (sym (mapped_at numbered active k new b lt))
        (behind way (seen v) (seen new)
        (together_of scene p way v new walls v_is.of of (differs k le lt) v_is.spanned spanned) (point.1 k new le lt))

-- the place that was just read
pub read_other : (xs : List Blocker) (i k : ℕ) (x d : Blocker) → i < length xs → i ≤ k → k < i + 1 → get_or xs i x
    ≡ get_or xs k d
read_other xs i k x d inside high lt = let same : k
    ≡ i = omega (arith, high, lt) in subst (λ t. get_or xs i x ≡ get_or xs t d) (sym same) (default xs i x d inside)
  where
    default : (xs : List Blocker) (i : ℕ) (x d : Blocker) → i < length xs → get_or xs i x ≡ get_or xs i d
    default [] i x d lt = absurd (omega arith)
    default (y ∷ ys) zero x d lt = refl
    default (y ∷ ys) (suc i) x d lt = default ys i x d (omega (arith, lt))
