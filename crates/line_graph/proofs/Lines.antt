-- Each line of a sound plan's scene leads through the corners of its two numbers.
use Rattle.std.proofs.Common.{◌≡◌, ◌<◌, ◌+◌, ℕ, Bool, true, false, not, List, [], ◌∷◌, length, map, refl, sym, ap, subst, arith, ◌∙◌}
use Rattle.std.specs.Prelude.{All, drop, filter, if◌then◌else◌}
use Rattle.std.specs.List.{enumerate_from}
use Rattle.std.proofs.lemmas.Bool.{and_parts}
use Rattle.std.proofs.lemmas.List.{length-drop, drop_more}
use Rattle.std.proofs.lemmas.List.Elements.{All-nil, All-cons, All-head, All-tail, All-contains}
use Rattle.list_laws.proofs.Firsts.{firsts_hold}
use Rattle.list_laws.proofs.Numbers.{OfBoth, each_pair}
use Rattle.plane_spec.specs.declared.Point.{Point}
use Rattle.plane_spec.specs.declared.Corner.{Corner}
use Rattle.plane_spec.specs.Lists.{pairs, numbered_pairs}
use Rattle.plane_spec.specs.Vectors.{InRange, same_point}
use Rattle.plane_spec.specs.Cones.{IsCornerInRange}
use Rattle.sight_spec.specs.Scene.{Scene}
use Rattle.sight_spec.specs.Sight.{are_in_sight, is_blocked}
use Rattle.sight_spec.specs.Axial.{AxialLine, IsLineOf, axial_lines, here_of, is_seen_pair, line_through, same_ends, end_beyond}
use Rattle.sight_spec.specs.Dirty.{corner_point}
use Rattle.sight_core.specs.Scenes.{IsOfSoundPlan}
use Rattle.sight_core.proofs.Seen.{corners-in_range}
use Rattle.line_graph.specs.Lines.{IsCornerNumber, IsThroughCorners}

-- ---- corners by number

-- the number is that of a corner, which stands at the point
record IsCornerOf (scene : Scene) (n : ℕ × Point) : Type 0 where
  below : n.0 < length scene.corners
  here : corner_point scene n.0 ≡ n.1
  in_range : InRange n.1

-- the corner of a number, by what is left of the corners there
pub at_number : (scene : Scene) (k : ℕ) (c : Corner) (corners : List Corner) → drop k scene.corners ≡ c ∷ corners
    → corner_point scene k ≡ c.here
at_number scene k c corners e =
    ap (λ left. corner_point (record { walls = scene.walls; screens = scene.screens; corners = left }) 0) e

some_left : {X : Type 0} (k : ℕ) (x : X) (xs ys : List X) → drop k xs ≡ x ∷ ys → k < length xs
some_left k x xs ys e =
    let long : length (drop k xs) ≡ length (x ∷ ys) = ap length e in
    let left = length-drop k xs in
    omega (arith, long, left)

one_less : {X : Type 0} (k : ℕ) (x : X) (xs ys : List X) → drop k xs ≡ x ∷ ys → drop (k + 1) xs ≡ ys
one_less k x xs ys e = ap (drop 1) (sym (drop_more xs k x (some_left k x xs ys e)) ∙ e)

numbered : (scene : Scene) (k : ℕ) (corners : List Corner) → drop k scene.corners ≡ corners
    → All IsCornerInRange corners
    → All (IsCornerOf scene) (enumerate_from k (map here_of corners))
numbered scene k [] e in_range = All-nil (IsCornerOf scene)
numbered scene k (c ∷ corners) e in_range =
    All-cons (IsCornerOf scene) (k, c.here) (enumerate_from (k + 1) (map here_of corners))
    (record {
      below = some_left k c scene.corners corners e;
      here = at_number scene k c corners e;
      in_range = (All-head IsCornerInRange c corners in_range).here;
    })
    (numbered scene (k + 1) corners (one_less k c scene.corners corners e)
    (All-tail IsCornerInRange c corners in_range))

-- ---- lines

seen_differ : (scene : Scene) (p q : Point) → are_in_sight scene p q ≡ true → same_point p q ≡ false
unfolding are_in_sight
seen_differ scene p q h = by (same_point p q) (and_parts (not (same_point p q)) (not (is_blocked scene p q)) h).0
  where
    by : (b : Bool) → not b ≡ true → b ≡ false
    by false h = refl
    by true h = cc

number_is : (scene : Scene) (n : ℕ × Point) → IsCornerOf scene n → IsCornerNumber scene n.0
number_is scene n h = record { below = h.below; in_range = subst InRange (sym h.here) h.in_range }

through_is : (scene : Scene) (e : (ℕ × Point) × (ℕ × Point)) → OfBoth (IsCornerOf scene) e → is_seen_pair scene e ≡ true
    → IsThroughCorners scene (line_through scene e)
through_is scene e both seen = record {
  first = number_is scene e.0 both.first;
  second = number_is scene e.1 both.second;
  differ = ap (λ p. same_point p (corner_point scene e.1.0)) both.first.here
      ∙ ap (same_point e.0.1) both.second.here
      ∙ seen_differ scene e.0.1 e.1.1 seen;
  from = sym (ap (λ q. end_beyond scene q (corner_point scene e.0.0)) both.second.here
      ∙ ap (end_beyond scene e.1.1) both.first.here);
  to = sym (ap (λ p. end_beyond scene p (corner_point scene e.1.0)) both.first.here
      ∙ ap (end_beyond scene e.0.1) both.second.here);
}

all_made : {X Y : Type 0} (Q : X → Type 0) (P : Y → Type 0) (test : X → Bool) (f : X → Y)
    → ((x : X) → Q x → test x ≡ true → P (f x)) → (xs : List X) → All Q xs → All P (map f (filter test xs))
all_made Q P test f gives [] h = All-nil P
all_made {X} {Y} Q P test f gives (x ∷ xs) h =
    by (test x) (gives x (All-head Q x xs h)) (all_made Q P test f gives xs (All-tail Q x xs h))
  where
    by : (b : Bool) → (b ≡ true → P (f x)) → All P (map f (filter test xs))
        → All P (map f (if b then (x ∷ filter test xs) else filter test xs))
    by true here rest = All-cons P (f x) (map f (filter test xs)) (here refl) rest
    by false here rest = rest

all_through : (scene : Scene) → IsOfSoundPlan scene → All (IsThroughCorners scene) (axial_lines scene)
unfolding axial_lines
all_through scene sound =
    let corners = enumerate_from 0 (map here_of scene.corners) in
    let known = numbered scene 0 scene.corners refl (corners-in_range scene sound) in
    firsts_hold (IsThroughCorners scene) same_ends []
    (map (line_through scene) (filter (is_seen_pair scene) (numbered_pairs (map here_of scene.corners))))
    (all_made (OfBoth (IsCornerOf scene)) (IsThroughCorners scene) (is_seen_pair scene) (line_through scene)
    (through_is scene) (pairs corners) (each_pair (IsCornerOf scene) corners known))

-- a line of the scene leads through the corners of its numbers
pub line_is_through : (scene : Scene) → IsOfSoundPlan scene → (l : AxialLine) → IsLineOf scene l
    → IsThroughCorners scene l
line_is_through scene sound l h =
    All-contains (IsThroughCorners scene) (axial_lines scene) l (all_through scene sound) h
