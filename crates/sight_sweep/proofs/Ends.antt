-- Which walls and screens end at a corner, by their ends as sorted numbers.
use Rattle.std.proofs.Common.{◌≡◌, ℕ, zero, suc, ◌+◌, ◌-◌, ◌*◌, ◌/◌, ◌%◌, ◌<◌, ◌≤◌, arith, ap, refl, sym, ◌∙◌, subst}
use Rattle.std.proofs.Common.{List, [], ◌∷◌, ◌++◌, length, get_or, map}
use Rattle.std.specs.List.{Contains, slice_range}
use Rattle.std.specs.List.Sorted.{IsNonDecreasing, IsPermutation}
use Rattle.std.proofs.lemmas.List.{length-map, length-append}
use Rattle.std.proofs.lemmas.List.Elements.{All-push, Contains-append_left, Contains-append_right}
use Rattle.std.proofs.lemmas.List.Edits.{get_or-between, length-between}
use Rattle.std.proofs.lemmas.List.Sorted.{All-permutation, Contains-permutation}
use Rattle.plane_spec.specs.declared.Point.{Point}
use Rattle.plane_spec.specs.declared.Segment.{Segment}
use Rattle.plane_spec.specs.declared.Corner.{Corner}
use Rattle.plane_spec.specs.Vectors.{same_point}
use Rattle.sight_spec.specs.Scene.{Scene, blockers_of_scene}
use Rattle.sight_core.specs.Scenes.{IsOfSoundPlan}
use Rattle.sight_core.proofs.Counts.{few_walls, few_screens}
use Rattle.apart_laws.proofs.Plans.{points_same}
use Rattle.sight_spec.specs.Isovist.{no_segment}
use Rattle.front_laws.proofs.Tests.{by_lt, by_cases, mapped_at, other_of_either}
use Rattle.sweep_laws.specs.Groups.{no_corner}
use Rattle.sight_sweep.specs.declared.range.Range.{Range}
use Rattle.sight_sweep.specs.Tables.{key_of, end_of, no_range, AreAround, HasEnds, AreEnds, IsRangeOf}
use Rattle.sight_sweep.specs.Tables.{IsRangeAt, AreRanges, IsTable}
use Rattle.sight_sweep.proofs.Tables.{default}

-- ---- ends

end_key : (key number : ℕ) → number < 2048 → (key * 2048 + number) / 2048 ≡ key
end_key key number h = omega (arith, h)

end_number : (key number : ℕ) → number < 2048 → (key * 2048 + number) % 2048 ≡ number
end_number key number h = omega (arith, h)

pub no_ends : (lines : List Segment) → HasEnds lines 0 []
no_ends lines = record {
  within = λ k d lt. absurd (omega (arith, lt));
  firsts = λ k lt. absurd (omega (arith, lt));
  seconds = λ k lt. absurd (omega (arith, lt));
}

last : (xs : List ℕ) (y : ℕ) → Contains (xs ++ y ∷ []) y
last xs y = Contains-append_right xs (y ∷ []) y (0, omega arith, refl)

more : (xs : List ℕ) (x y : ℕ) → Contains xs x → Contains (xs ++ y ∷ []) x
more xs x y c = Contains-append_left xs (y ∷ []) x c

same_number : (k n : ℕ) → k < n + 1 → n ≤ k → n ≡ k
same_number k n h j = omega (arith, h, j)

-- both ends of one more
pub both_ends : (lines : List Segment) (k : ℕ) (line : Segment) (ends : List ℕ) → k < 2048 → k < length lines
    → line ≡ get_or lines k no_segment → HasEnds lines k ends
    → HasEnds lines (k + 1) ((ends ++ end_of line.a k ∷ []) ++ end_of line.b k ∷ [])
both_ends lines k line ends small inside read h = record {
  within = All-push (λ e. e % 2048 < length lines) (ends ++ end_of line.a k ∷ []) (end_of line.b k)
      (All-push (λ e. e % 2048 < length lines) ends (end_of line.a k) h.within (numbered (key_of line.a)))
      (numbered (key_of line.b));
  firsts = λ j lt. by_lt j k
      (λ low. more (ends ++ end_of line.a k ∷ []) (end_of (get_or lines j no_segment).a j) (end_of line.b k)
      (more ends (end_of (get_or lines j no_segment).a j) (end_of line.a k) (h.firsts j low)))
      (λ high. subst (λ n. Contains ((ends ++ end_of line.a k ∷ []) ++ end_of line.b k ∷ [])
      (end_of (get_or lines n no_segment).a n)) (same_number j k lt high)
      (subst (λ w. Contains ((ends ++ end_of line.a k ∷ []) ++ end_of line.b k ∷ []) (end_of w.a k)) read
      (more (ends ++ end_of line.a k ∷ []) (end_of line.a k) (end_of line.b k) (last ends (end_of line.a k)))));
  seconds = λ j lt. by_lt j k
      (λ low. more (ends ++ end_of line.a k ∷ []) (end_of (get_or lines j no_segment).b j) (end_of line.b k)
      (more ends (end_of (get_or lines j no_segment).b j) (end_of line.a k) (h.seconds j low)))
      (λ high. subst (λ n. Contains ((ends ++ end_of line.a k ∷ []) ++ end_of line.b k ∷ [])
      (end_of (get_or lines n no_segment).b n)) (same_number j k lt high)
      (subst (λ w. Contains ((ends ++ end_of line.a k ∷ []) ++ end_of line.b k ∷ []) (end_of w.b k)) read
      (last (ends ++ end_of line.a k ∷ []) (end_of line.b k))));
}
  where
    numbered : (key : ℕ) → (key * 2048 + k) % 2048 < length lines
    numbered key = subst (λ n. n < length lines) (sym (end_number key k small)) inside

pub sorted_ends : (lines : List Segment) (ends sorted : List ℕ) → IsPermutation ends sorted → IsNonDecreasing sorted
    → HasEnds lines (length lines) ends → AreEnds lines sorted
sorted_ends lines ends sorted same order h = record {
  sorted = order;
  has = record {
    within = All-permutation (λ e. e % 2048 < length lines) ends sorted same h.within;
    firsts = λ k lt. Contains-permutation ends sorted (end_of (get_or lines k no_segment).a k) same (h.firsts k lt);
    seconds = λ k lt. Contains-permutation ends sorted (end_of (get_or lines k no_segment).b k) same (h.seconds k lt);
  };
}

-- ---- ranges

too_low : (e key : ℕ) → e / 2048 ≡ key → e < key * 2048 → ⊥
too_low e key h k = omega (arith, h, k)

too_high : (e key : ℕ) → e / 2048 ≡ key → (key + 1) * 2048 ≤ e → ⊥
too_high e key h k = omega (arith, h, k)

-- by how many ends are below the point's and up to them
pub range_is : (ends : List ℕ) (key from upto : ℕ) → from ≤ length ends → upto ≤ length ends
    → ((k : ℕ) → k < from → get_or ends k 0 < key * 2048)
    → ((k : ℕ) → k < upto → get_or ends k 0 < (key + 1) * 2048)
    → ((k : ℕ) → upto ≤ k → k < length ends → (key + 1) * 2048 ≤ get_or ends k 0)
    → IsRangeAt ends key (record { from = from; upto = upto })
range_is ends key from upto from_in upto_in low high beyond = record {
  order = by_lt upto from
      (λ lt. absurd (crossed (get_or ends upto 0) key (low upto lt)
      (beyond upto (omega arith) (short upto from (length ends) lt from_in))))
      (λ le. le);
  within = upto_in;
  all = λ i lt e. (
    by_lt i from (λ below. absurd (too_low (get_or ends i 0) key e (low i below))) (λ le. le),
    by_lt i upto (λ below. below) (λ le. absurd (too_high (get_or ends i 0) key e (beyond i le lt))),
  );
}
  where
    crossed : (e key : ℕ) → e < key * 2048 → (key + 1) * 2048 ≤ e → ⊥
    crossed e key h k = omega (arith, h, k)

    short : (u f n : ℕ) → u < f → f ≤ n → u < n
    short u f n h k = omega (arith, h, k)

pub no_ranges : (ends : List ℕ) (corners : List Corner) → AreRanges ends corners 0 []
no_ranges ends corners = record { count_is = refl; each = λ k lt. absurd (omega (arith, lt)) }

at_last : (xs : List Range) (y d : Range) → get_or (xs ++ y ∷ []) (length xs) d ≡ y
at_last [] y d = refl
at_last (x ∷ xs) y d = at_last xs y d

at_before : (xs : List Range) (y d : Range) (k : ℕ) → k < length xs → get_or (xs ++ y ∷ []) k d ≡ get_or xs k d
at_before [] y d k lt = absurd (omega (arith, lt))
at_before (x ∷ xs) y d zero lt = refl
at_before (x ∷ xs) y d (suc k) lt = at_before xs y d k (omega (arith, lt))

-- the range of one more
pub one_range : (ends : List ℕ) (corners : List Corner) (k : ℕ) (corner : Corner) (range : Range) (ranges : List Range)
    → corner ≡ get_or corners k no_corner → IsRangeAt ends (key_of corner.here) range → AreRanges ends corners k ranges
    → AreRanges ends corners (k + 1) (ranges ++ range ∷ [])
one_range ends corners k corner range ranges read is r = record {
  count_is = length-append ranges (range ∷ []) ∙ ap (λ n. n + 1) r.count_is;
  each = λ j lt. by_lt j k
      (λ low. subst (IsRangeAt ends (key_of (get_or corners j no_corner).here))
      (sym (at_before ranges range no_range j (subst (λ n. j < n) (sym r.count_is) low))) (r.each j low))
      (λ high. subst (λ n. IsRangeAt ends (key_of (get_or corners n no_corner).here)
      (get_or (ranges ++ range ∷ []) n no_range)) (same_number j k lt high)
      (subst (λ c. IsRangeAt ends (key_of c.here) (get_or (ranges ++ range ∷ []) k no_range)) read
      (subst (λ n. IsRangeAt ends (key_of corner.here) (get_or (ranges ++ range ∷ []) n no_range)) r.count_is
      (subst (IsRangeAt ends (key_of corner.here)) (sym (at_last ranges range no_range)) is))));
}

-- ---- what is around a corner

abbrev numbers_at : List ℕ → List ℕ
numbers_at ends = map (λ e. e % 2048) ends

inner : (i from upto : ℕ) → i < upto - from → from + i < upto
inner i from upto h = omega (arith, h)

read_at : (ends : List ℕ) (i d : ℕ) → i < length ends → get_or (numbers_at ends) i d ≡ get_or ends i 0 % 2048
read_at ends i d lt = mapped_at (λ e. e % 2048) ends i 0 d lt

short_of : (i upto n : ℕ) → i < upto → upto ≤ n → i < n
short_of i upto n h k = omega (arith, h, k)

-- an end that is there is in the range
found : (ends : List ℕ) (x : Point) (range : Range) (n : ℕ) → n < 2048 → IsRangeAt ends (key_of x) range
    → Contains ends (end_of x n) → Contains (slice_range (numbers_at ends) range.from range.upto) n
found ends x range n small r c =
    let i = c.0 in
    let is : get_or ends i 0 ≡ end_of x n = default ends i 0 (end_of x n) c.1 ∙ c.2 in
    let two = r.all i c.1 (ap (λ e. e / 2048) is ∙ end_key (key_of x) n small) in
    let back : range.from + (i - range.from) ≡ i = onward range.from i two.0 in (
      i - range.from,
      subst (λ m. i - range.from < m)
          (sym (length-between (numbers_at ends) range.from range.upto
          (subst (λ m. range.upto ≤ m) (sym (length-map ends (λ e. e % 2048))) r.within)))
          (within range.from i range.upto two.0 two.1),
      get_or-between (numbers_at ends) range.from range.upto (i - range.from) n
          (subst (λ m. m < range.upto) (sym back) two.1)
          ∙ ap (λ m. get_or (numbers_at ends) m n) back ∙ read_at ends i n c.1 ∙ ap (λ e. e % 2048) is
          ∙ end_number (key_of x) n small,
    )
  where
    onward : (f i : ℕ) → f ≤ i → f + (i - f) ≡ i
    onward f i h = omega (arith, h)

    within : (f i u : ℕ) → f ≤ i → i < u → i - f < u - f
    within f i u h k = omega (arith, h, k)

pub around_of : (scene : Scene) (ends : List ℕ) (x : Point) (range : Range) → length (blockers_of_scene scene) ≤ 2048
    → HasEnds (blockers_of_scene scene) (length (blockers_of_scene scene)) ends → IsRangeAt ends (key_of x) range
    → AreAround scene x (slice_range (numbers_at ends) range.from range.upto)
around_of scene ends x range few h r = record {
  within = λ i d lt.
      let j = inner i range.from range.upto
      (subst (λ m. i < m) (length-between (numbers_at ends) range.from range.upto upto_in) lt) in
      let k = short_of (range.from + i) range.upto (length ends) j r.within in
      subst (λ n. n < length (blockers_of_scene scene))
      (sym (get_or-between (numbers_at ends) range.from range.upto i d j ∙ read_at ends (range.from + i) d k))
      (h.within (range.from + i) 0 k);
  all = λ n lt at. by_cases (same_point (get_or (blockers_of_scene scene) n no_segment).a x)
      (λ first. found ends x range n (short_of n (length (blockers_of_scene scene)) 2048 lt few) r
      (subst (λ y. Contains ends (end_of y n)) (points_same (get_or (blockers_of_scene scene) n no_segment).a x first)
      (h.firsts n lt)))
      (λ other. found ends x range n (short_of n (length (blockers_of_scene scene)) 2048 lt few) r
      (subst (λ y. Contains ends (end_of y n)) (points_same (get_or (blockers_of_scene scene) n no_segment).b x
      (other_of_either (same_point (get_or (blockers_of_scene scene) n no_segment).a x)
      (same_point (get_or (blockers_of_scene scene) n no_segment).b x) other at)) (h.seconds n lt)));
}
  where
    upto_in : range.upto ≤ length (numbers_at ends)
    upto_in = subst (λ m. range.upto ≤ m) (sym (length-map ends (λ e. e % 2048))) r.within

-- ---- the table

-- the scene whose lists are these
pub same_scene : (scene : Scene) (walls screens : List Segment) (corners : List Corner) → walls ≡ scene.walls
    → screens ≡ scene.screens → corners ≡ scene.corners
    → scene ≡ record { walls = walls; screens = screens; corners = corners }
same_scene scene walls screens corners e f g =
    sym (ap (λ t. record { walls = t; screens = screens; corners = corners }) e
    ∙ ap (λ t. record { walls = scene.walls; screens = t; corners = corners }) f
    ∙ ap (λ t. record { walls = scene.walls; screens = scene.screens; corners = t }) g)

pub few_lines : (scene : Scene) → IsOfSoundPlan scene → length (blockers_of_scene scene) ≤ 2048
few_lines scene of = bound _ _ _ (length-append scene.walls scene.screens) (few_walls scene of) (few_screens scene of)
  where
    bound : (n a b : ℕ) → n ≡ a + b → a ≤ 1024 → b ≤ 256 → n ≤ 2048
    bound n a b e h k = omega (arith, e, h, k)

pub table_is : (scene : Scene) (lines : List Segment) (ends : List ℕ) (ranges : List Range) (numbers : List ℕ)
    → IsOfSoundPlan scene → lines ≡ blockers_of_scene scene → AreEnds lines ends
    → AreRanges ends scene.corners (length scene.corners) ranges → numbers ≡ map (λ e. e % 2048) ends
    → IsTable scene lines ranges numbers
table_is scene lines ends ranges numbers of lines_are e r numbers_are = record {
  of_plan = of;
  lines_are = lines_are;
  count = r.count_is;
  in_order = λ k d lt.
      let at = r.each k (subst (λ n. k < n) r.count_is lt) in
      subst (IsRangeOf numbers) (default ranges k no_range d lt)
      (record {
        order = at.order;
        within = subst (λ n. (get_or ranges k no_range).upto ≤ n)
            (sym (ap length numbers_are ∙ length-map ends (λ e. e % 2048))) at.within;
      });
  around = λ k lt. subst (λ xs. AreAround scene (get_or scene.corners k no_corner).here
      (slice_range xs (get_or ranges k no_range).from (get_or ranges k no_range).upto)) (sym numbers_are)
      (around_of scene ends (get_or scene.corners k no_corner).here (get_or ranges k no_range) (few_lines scene of)
      (subst (λ xs. HasEnds xs (length xs) ends) lines_are e.has) (r.each k lt));
}

pub all_ends : (lines : List Segment) (count : ℕ) (ends : List ℕ) → length lines ≤ count → HasEnds lines count ends
    → HasEnds lines (length lines) ends
all_ends lines count ends end h = record {
  within = h.within;
  firsts = λ k lt. h.firsts k (up k (length lines) count lt end);
  seconds = λ k lt. h.seconds k (up k (length lines) count lt end);
}
  where
    up : (k n m : ℕ) → k < n → n ≤ m → k < m
    up k n m h j = omega (arith, h, j)

pub all_ranges : (ends : List ℕ) (corners : List Corner) (count : ℕ) (ranges : List Range) → count ≡ length corners
    → AreRanges ends corners count ranges → AreRanges ends corners (length corners) ranges
all_ranges ends corners count ranges e r = subst (λ n. AreRanges ends corners n ranges) e r
