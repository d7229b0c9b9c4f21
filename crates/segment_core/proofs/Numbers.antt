-- Steps and their numbers.
use Rattle.std.proofs.Common.{◌≡◌, ◌<◌, ◌+◌, ◌*◌, ◌/◌, ◌%◌, ◌==◌, ℕ, Bool, true, false, cond, List, [], ◌∷◌, inl, inr, length, get_or, sym, ap, ◌∙◌, arith, subst}
use Rattle.std.specs.List.{Contains, enumerate_from, flat_map}
use Rattle.std.proofs.lemmas.List.{get_or_default}
use Rattle.std.proofs.lemmas.List.FromFn.{length-enumerate_from, get_or-enumerate_from}
use Rattle.std.proofs.lemmas.List.Elements.{Contains-append_left, Contains-append_right}
use Rattle.route_spec.specs.Routes.{Piece, DirectedPiece, both_ways, directed_pieces}
use Rattle.graph_laws.proofs.Members.{contains_first, contains_later, first_or_later, contains_none, number_is_place}
use Rattle.graph_laws.proofs.Steps.{piece_of_step}
use Rattle.segment_core.specs.Steps.{no_piece, piece_at, step_at}

-- a piece with its number is among the numbered ones
pub numbered : (pieces : List Piece) (k : ℕ) → k < length pieces
    → Contains (enumerate_from 0 pieces) (k, piece_at pieces k)
numbered pieces k below =
    let e : ℕ × Piece = (k, piece_at pieces k) in
    let there : k < length (enumerate_from 0 pieces) = omega (arith, below, length-enumerate_from 0 pieces) in
    let number : ◌≡◌ {A = ℕ × Piece} (0 + k, get_or pieces k (piece_at pieces k)) (
      k,
      get_or pieces k
          (piece_at pieces k),
    ) = ap (λ (n : ℕ). (n, get_or pieces k (piece_at pieces k))) (omega arith) in
    let piece : ◌≡◌ {A = ℕ × Piece} (k, get_or pieces k (piece_at pieces k)) (k, piece_at pieces k) = ap (λ
    (p : Piece). (k, p)) (get_or_default pieces k (piece_at pieces k) no_piece below) in
    (k, there, get_or-enumerate_from 0 pieces k e below ∙ number ∙ piece)

-- what is made of an element is among what is made of all
pub among : {X Y : Type 0} (f : X → List Y) (xs : List X) (x : X) (y : Y) → Contains xs x → Contains (f x) y
    → Contains (flat_map f xs) y
among f [] x y h g = absurd (contains_none x h)
among f (w ∷ xs) x y h g = elim (first_or_later w xs x h) [
  | inl first ↦ Contains-append_left (f w) (flat_map f xs) y (subst (λ z. Contains (f z) y) (sym first) g)
  | inr later ↦ Contains-append_right (f w) (flat_map f xs) y (among f xs x y later g)
]

either_way : (e : ℕ × Piece) (forward : Bool) → Contains (both_ways e) (e, forward)
either_way e true = contains_first (e, true) ((e, false) ∷ [])
either_way e false = contains_later (e, true) ((e, false) ∷ []) (e, false) (contains_first (e, false) [])

-- each number below twice the number of pieces is a step's
pub step_is_step : (pieces : List Piece) (s : ℕ) → s < 2 * length pieces
    → Contains (directed_pieces pieces) (step_at pieces s)
step_is_step pieces s below =
    let k : s / 2 < length pieces = omega arith in
    among both_ways (enumerate_from 0 pieces) (s / 2, piece_at pieces (s / 2)) (step_at pieces s) (numbered pieces
    (s / 2) k) (either_way (s / 2, piece_at pieces (s / 2)) (s % 2 == 1))

-- the number of a piece in a heading
abbrev pub number_in : ℕ → Bool → ℕ
number_in k forward = cond forward (2 * k + 1) (2 * k)

half_in : (k : ℕ) (forward : Bool) → number_in k forward / 2 ≡ k
half_in k true = omega arith
half_in k false = omega arith

heading_in : (k : ℕ) (forward : Bool) → (number_in k forward % 2 == 1) ≡ forward
heading_in k true = let e : (2 * k + 1) % 2 ≡ 1 = omega arith in ap (λ n. n == 1) e
heading_in k false = let e : 2 * k % 2 ≡ 0 = omega arith in ap (λ n. n == 1) e

number_in_below : (k n : ℕ) (forward : Bool) → k < n → number_in k forward < 2 * n
number_in_below k n true h = omega arith
number_in_below k n false h = omega arith

pub step_at_in : (pieces : List Piece) (k : ℕ) (forward : Bool)
    → step_at pieces (number_in k forward) ≡ ((k, piece_at pieces k), forward)
step_at_in pieces k forward =
    ap (λ (i : ℕ). ((i, piece_at pieces i), number_in k forward % 2 == 1)) (half_in k forward)
    ∙ ap (λ (f : Bool). ((k, piece_at pieces k), f)) (heading_in k forward)

-- each step has a number
pub number_of_step : (pieces : List Piece) (t : DirectedPiece) → Contains (directed_pieces pieces) t
    → (s : ℕ) × (s < 2 * length pieces) × (step_at pieces s ≡ t)
number_of_step pieces t h =
    let piece = piece_of_step pieces t h in
    let place = number_is_place pieces t.0 piece in
    let k = t.0.0 in
    let found : get_or (enumerate_from 0 pieces) k t.0
    ≡ (0 + k, get_or pieces k t.0.1) = get_or-enumerate_from 0 pieces k t.0 place.0 in
    let same : get_or pieces k t.0.1 ≡ t.0.1 = ap (λ e. e.1) (sym found ∙ place.1) in
    let here : piece_at pieces k ≡ t.0.1 = get_or_default pieces k no_piece t.0.1 place.0 ∙ same in (
      number_in k t.1,
      number_in_below k (length pieces) t.1 place.0,
      step_at_in pieces k t.1
          ∙ ap (λ (p : Piece). ((k, p), t.1)) here,
    )
