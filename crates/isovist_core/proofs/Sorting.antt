-- The directions of corners are what a stable sort of the vectors to corners leaves, without repeats.
use Rattle.std.proofs.Common.{◌≡◌, ◌∙◌, ℕ, arith, List, map, filter, get_or, refl, sym, ap}
use Rattle.std.specs.List.{All, dedup}
use Rattle.std.specs.List.Sorted.{ties, IsSortedBy, IsStableBy}
use Rattle.std.specs.Cmp.{IsStrictWeakOrder}
use Rattle.std.specs.Ordering.{is_lt, is_eq, nat_cmp}
use Rattle.std.specs.Prelude.{Bool, true, false, not, ◌&&◌, ◌==◌, nat_lt, if◌then◌else◌}
use Rattle.std.specs.declared.cmp.Ordering.{Ordering}
use Rattle.std.specs.declared.cmp.Ordering.TheVariants.{Less, Equal, Greater}
use Rattle.std.proofs.lemmas.List.Elements.{All-map}
use Rattle.list_laws.specs.Orders.{IsWeakOrder}
use Rattle.list_laws.proofs.Elements.{filter_map_first}
use Rattle.plane_spec.specs.declared.Point.{Point}
use Rattle.plane_spec.specs.Lists.{distinct_by, in_order}
use Rattle.plane_spec.specs.Vectors.{turns_before, turn_order_of, IsDirected}
use Rattle.exact_geom.proofs.TurnLaws.{directions_ranked, is_less}
use Rattle.sight_spec.specs.Scene.{Scene}
use Rattle.front_laws.proofs.Tests.{by_cases, own_number, tested_number_less, tested_number_not_less, tested_same_number}
use Rattle.turn_laws.specs.Places.{place_of}
use Rattle.turn_laws.proofs.Places.{place_tells}
use Rattle.sight_spec.specs.Isovist.{corner_directions, same_way}
use Rattle.isovist_laws.specs.Vectors.{vectors_to_corners}
use Rattle.isovist_laws.proofs.Firsts.{level_from_sorted, level_map, dedup_map, sorted_firsts}
use Rattle.isovist_laws.proofs.Directions.{directions_order, corner_directions_are}
use Rattle.isovist_core.specs.declared.heading.Heading.{Heading}
use Rattle.isovist_core.specs.Steps.{IsStep}
use Rattle.isovist_core.proofs.Steps.{step_is_direction}
use Rattle.isovist_core.specs.Headings.{step_of, comes_before, tied}

-- the order of directions as a sort asks for it
pub headings_order : IsStrictWeakOrder comes_before
headings_order = directions_ranked step_of (λ h. h.directed)

-- an answer says whether the first comes before the second
pub answers : (a b : Heading) (r : Ordering) → r ≡ turn_order_of a.step b.step → is_lt r ≡ comes_before a b
answers a b r h = ap is_lt h ∙ is_less a.step b.step

-- places are in the order of directions
pub place_order : (a b : Heading) → nat_cmp a.place b.place ≡ turn_order_of a.step b.step
unfolding turn_order_of
place_order a b =
    let a_in = step_is_direction a.step a.small in
    let b_in = step_is_direction b.step b.small in
    rw (
      a.placed,
      b.placed,
      place_tells a.step b.step a_in a.directed b_in b.directed,
      place_tells b.step a.step b_in b.directed a_in a.directed,
    )
    (same_order (place_of a.step) (place_of b.step) (nat_lt (place_of a.step) (place_of b.step))
    (nat_lt (place_of b.step) (place_of a.step)) refl refl)
  where
    apart : (m n : ℕ) → nat_lt n m ≡ true → (m == n) ≡ false
    apart m n h =
        by_cases (m == n)
        (λ yes. let same = tested_same_number m n yes in let less = tested_number_less n m h in
        absurd (omega (arith, same, less)))
        (λ no. no)

    one : (m n : ℕ) → nat_lt m n ≡ false → nat_lt n m ≡ false → (m == n) ≡ true
    one m n h k =
        let up = tested_number_not_less m n h in
        let down = tested_number_not_less n m k in
        let same : m ≡ n = omega (arith, up, down) in
        rw same (own_number n)

    same_order : (m n : ℕ) (t u : Bool) → nat_lt m n ≡ t → nat_lt n m ≡ u
        → nat_cmp m n ≡ (if nat_lt m n then Less else (if nat_lt n m then Greater else Equal))
    same_order m n true u h k = rw h refl
    same_order m n false true h k = rw (h, k, apart m n k) refl
    same_order m n false false h k = rw (h, k, one m n h k) refl

-- equal are those that point the same way
pub equal_alike : (d e : Point) → is_eq (turn_order_of d e) ≡ same_way d e
unfolding turn_order_of
equal_alike d e = by (turns_before d e) (turns_before e d)
  where
    by : (t u : Bool) → is_eq (if t then Less else (if u then Greater else Equal)) ≡ (not t && not u)
    by true u = refl
    by false true = refl
    by false false = refl

-- a vector that some heading has
record IsHeading (x : Point) : Type 0 where
  small : IsStep x
  directed : IsDirected x

heading_order : IsWeakOrder IsHeading turns_before
heading_order = record {
  one_way = directions_order.one_way;
  through = λ a b c ha hb hc. directions_order.through a b c ha.directed hb.directed hc.directed;
}

all_headings : (hs : List Heading) → All IsHeading (map step_of hs)
all_headings hs =
    All-map IsHeading step_of hs (λ k d l. record { small = (get_or hs k d).small; directed = (get_or hs k d).directed })

stable_steps : (hs ss : List Heading) → IsStableBy comes_before hs ss → (x : Point) → IsHeading x
    → filter (ties turns_before x) (map step_of ss) ≡ filter (ties turns_before x) (map step_of hs)
stable_steps hs ss stable x h =
    filter_map_first (ties turns_before x) step_of ss
    ∙ ap (map step_of)
    (stable (record { step = x; place = place_of x; small = h.small; directed = h.directed; placed = refl }))
    ∙ sym (filter_map_first (ties turns_before x) step_of hs)

-- the directions in which corners lie
pub sorted_directions : (scene : Scene) (p : Point) (hs ss : List Heading) → map step_of hs ≡ vectors_to_corners scene p
    → IsSortedBy comes_before ss → IsStableBy comes_before hs ss
    → map step_of (dedup tied ss) ≡ corner_directions scene p
sorted_directions scene p hs ss vectors sorted stable =
    dedup_map same_way step_of ss
    ∙ sorted_firsts IsHeading turns_before heading_order (map step_of hs) (map step_of ss) (all_headings hs)
    (all_headings ss) (level_map turns_before step_of ss (level_from_sorted comes_before headings_order ss sorted))
    (stable_steps hs ss stable)
    ∙ ap (λ xs. in_order turns_before (distinct_by (ties turns_before) xs)) vectors
    ∙ sym (corner_directions_are scene p)
