-- Where the corners are that a removal takes out.
--
-- They stand together between those that stay: the old points are front, gone, back, and the new ones front, back. Both
-- begin with the front, so where the points first differ, all of the front is passed. If more points than the front are
-- the same, the first of back is the first that is gone; it lies in the box too, and front, gone and back may as well
-- begin one place later. So on, up to the place where the points differ.
use Rattle.std.proofs.Common.{◌≡◌, ◌∙◌, ℕ, zero, suc, ◌+◌, ◌-◌, ◌<◌, ◌≤◌, Bool, true, List, [], ◌∷◌, ◌++◌, ◌⊎◌, inl, inr, map, length, get_or, arith, refl, sym, ap, subst, append_assoc}
use Rattle.std.specs.List.{list_all}
use Rattle.std.proofs.lemmas.Bool.{and_parts, and_from, cases_lt}
use Rattle.std.proofs.lemmas.List.{length-append, length-map}
use Rattle.int_laws.proofs.Tests.{tested_equal}
use Rattle.list_laws.proofs.Tests.{list_all_push}
use Rattle.plane_spec.specs.declared.Point.{Point}
use Rattle.plane_spec.specs.declared.PlanBox.{PlanBox}
use Rattle.plane_spec.specs.declared.Corner.{Corner}
use Rattle.plane_spec.specs.Vectors.{same_point, point}
use Rattle.plane_spec.specs.Boxes.{does_meet_box}
use Rattle.std.specs.Ordering.{int_eq}
use Rattle.sight_spec.specs.Scene.{Scene}
use Rattle.sight_spec.specs.Axial.{here_of}
use Rattle.dirty_laws.specs.Scenes.{ClosesUp}
use Rattle.axial_lines.specs.Removal.{point_at, AreAlikeBefore, DifferAt, IsGap}

-- ---- points of places

one_point : (p q : Point) → same_point p q ≡ true → p ≡ q
one_point p q h =
    let both = and_parts (int_eq p.x q.x) (int_eq p.y q.y) h in
    ap (λ x. point x p.y) (tested_equal p.x q.x both.0) ∙ ap (λ y. point q.x y) (tested_equal p.y q.y both.1)

itself : (p : Point) → same_point p p ≡ true
itself p = grind arith

-- the point of a corner's place
pub here_at : (corners : List Corner) (k : ℕ) (d : Corner) → k < length corners
    → point_at (map here_of corners) k ≡ (get_or corners k d).here
here_at [] k d h = absurd (omega arith)
here_at (c ∷ corners) zero d h = refl
here_at (c ∷ corners) (suc k) d h = here_at corners k d (omega arith)

-- a place in the first of two lists
in_first : (xs ys : List Point) (k : ℕ) → k < length xs → point_at (xs ++ ys) k ≡ point_at xs k
in_first [] ys k h = absurd (omega arith)
in_first (x ∷ xs) ys zero h = refl
in_first (x ∷ xs) ys (suc k) h = in_first xs ys k (omega arith)

-- the first place of the second of two lists
at_second : (xs ys : List Point) → point_at (xs ++ ys) (length xs) ≡ point_at ys 0
at_second [] ys = refl
at_second (x ∷ xs) ys = at_second xs ys

-- ---- one place after the other

-- one place more is alike
pub alike_next : (some others : List Corner) (k : ℕ) (d e : Corner) → k < length some → k < length others
    → same_point (get_or some k d).here (get_or others k e).here ≡ true
    → AreAlikeBefore k (map here_of some) (map here_of others)
    → AreAlikeBefore (k + 1) (map here_of some) (map here_of others)
alike_next some others k d e h g same alike i below = by (cases_lt i k)
  where
    by : (i < k) ⊎ (k ≤ i) → point_at (map here_of some) i ≡ point_at (map here_of others) i
    by (inl less) = alike i less
    by (inr more) =
        let last : i ≡ k = omega arith in
        ap (point_at (map here_of some)) last
        ∙ here_at some k d h ∙ one_point (get_or some k d).here (get_or others k e).here same
        ∙ sym (here_at others k e g)
        ∙ ap (point_at (map here_of others)) (sym last)

-- where one of the corners ends, or the points differ
pub differ_where : (some others : List Corner) (k : ℕ) (d e : Corner)
    → (k < length some → k < length others → same_point (get_or some k d).here (get_or others k e).here ≡ true → ⊥)
    → DifferAt k (map here_of some) (map here_of others)
differ_where some others k d e apart h g same =
    let h' : k < length some = omega (arith, h, length-map some here_of) in
    let g' : k < length others = omega (arith, g, length-map others here_of) in
    apart h' g' (ap (λ p. same_point p (get_or others k e).here) (sym (here_at some k d h'))
    ∙ ap (λ q. same_point (point_at (map here_of some) k) q) (sym (here_at others k e g')) ∙ same)

-- ---- the part that is gone, later

-- the old points are front, gone, back, and the new ones front, back; front has k points, and gone so many, which pass
record Closes (test : Point → Bool) (old new : List Point) (k count : ℕ) : Type 0 where
  front : List Point
  gone : List Point
  back : List Point
  old_is : old ≡ front ++ (gone ++ back)
  new_is : new ≡ front ++ back
  passes : list_all test gone ≡ true
  front_is : length front ≡ k
  gone_is : length gone ≡ count

-- the part that is gone, one place later
module _ (test : Point → Bool) (old new : List Point) (k : ℕ) where
  -- what the recursion gives for the rest of back
  abbrev Later : List Point → Type 0
  Later back = (front gone : List Point) → length front ≤ k → old ≡ front ++ (gone ++ back) → new ≡ front ++ back
      → list_all test gone ≡ true → Closes test old new k (length gone)

  shift : (front gone : List Point) (b : Point) (back : List Point) → length front < k → AreAlikeBefore k old new
      → old ≡ front ++ (gone ++ b ∷ back) → new ≡ front ++ b ∷ back → list_all test gone ≡ true → Later back
      → Closes test old new k (length gone)
  shift front [] b back h alike o n p later =
      let longer : length (front ++ b ∷ []) ≤ k = omega (arith, h, length-append front (b ∷ [])) in
      let front_and_back = sym (append_assoc front (b ∷ []) back) in
      later (front ++ b ∷ []) [] longer (o ∙ front_and_back) (n ∙ front_and_back) p
  shift front (g ∷ gone) b back h alike o n p later =
      let longer : length (front ++ b ∷ []) ≤ k = omega (arith, h, length-append front (b ∷ [])) in
      let both = and_parts (test g) (list_all test gone) p in
      let same : g ≡ b =
      sym (at_second front (g ∷ gone ++ b ∷ back)) ∙ ap (λ ps. point_at ps (length front)) (sym o)
      ∙ alike (length front) h ∙ ap (λ ps. point_at ps (length front)) n ∙ at_second front (b ∷ back) in
      let as_many : length (gone ++ b ∷ []) ≡ length (g ∷ gone) = omega (arith, length-append gone (b ∷ [])) in
      subst (Closes test old new k) as_many
      (later (front ++ b ∷ []) (gone ++ b ∷ []) longer
      (o ∙ ap (λ x. front ++ x ∷ (gone ++ b ∷ back)) same
      ∙ sym (append_assoc front (b ∷ []) ((gone ++ b ∷ []) ++ back)
      ∙ ap (λ ps. front ++ b ∷ ps) (append_assoc gone (b ∷ []) back)))
      (n ∙ sym (append_assoc front (b ∷ []) back))
      (list_all_push test gone b
      ∙ and_from (list_all test gone) (test b) both.1 (subst (λ x. test x ≡ true) same both.0)))

  -- up to place k
  moved : (back front gone : List Point) → length front ≤ k → k ≤ length new → AreAlikeBefore k old new
      → old ≡ front ++ (gone ++ back) → new ≡ front ++ back → list_all test gone ≡ true
      → Closes test old new k (length gone)
  moved [] front gone h l alike o n p =
      record {
        front = front;
        gone = gone;
        back = [];
        old_is = o;
        new_is = n;
        passes = p;
        front_is = omega (arith, h, l, length-append front [], ap length n);
        gone_is = refl;
      }
  moved (b ∷ back) front gone h l alike o n p =
      by (cases_lt (length front) k) (λ f g m o n p. moved back f g m l alike o n p)
    where
      by : (length front < k) ⊎ (k ≤ length front) → Later back → Closes test old new k (length gone)
      by (inl less) later = shift front gone b back less alike o n p later
      by (inr more) later =
          record {
            front = front;
            gone = gone;
            back = b ∷ back;
            old_is = o;
            new_is = n;
            passes = p;
            front_is = omega (arith, h, more);
            gone_is = refl;
          }

-- ---- the gap

-- the front is passed where the points first differ
front_passed : (front xs ys : List Point) (k : ℕ) → DifferAt k (front ++ xs) (front ++ ys) → length front ≤ k
front_passed front xs ys k differ = by (cases_lt k (length front))
  where
    by : (k < length front) ⊎ (length front ≤ k) → length front ≤ k
    by (inl less) =
        absurd (differ (omega (arith, less, length-append front xs)) (omega (arith, less, length-append front ys))
        (ap (λ p. same_point p (point_at (front ++ ys) k)) (in_first front xs k less)
        ∙ ap (λ q. same_point (point_at front k) q) (in_first front ys k less) ∙ itself (point_at front k)))
    by (inr more) = more

-- the corners that are gone begin where the points first differ
pub gap_is : (area : PlanBox) (before after : Scene) (start : ℕ) → ClosesUp area before after
    → AreAlikeBefore start (map here_of before.corners) (map here_of after.corners) → start ≤ length after.corners
    → DifferAt start (map here_of before.corners) (map here_of after.corners)
    → IsGap area before after start (length before.corners - length after.corners)
gap_is area before after start c alike fits differ =
    let old = map here_of before.corners in
    let new = map here_of after.corners in
    let passed = front_passed c.front (c.gone ++ c.back) c.back start
    (subst (λ ps. DifferAt start (c.front ++ (c.gone ++ c.back)) ps) c.new_is
    (subst (λ ps. DifferAt start ps new) c.old_is differ)) in
    let m = moved (λ p. does_meet_box p p area) old new start c.back c.front c.gone passed
    (omega (arith, fits, length-map after.corners here_of)) alike c.old_is c.new_is c.gone_in in
    record {
      closes = record {
        front = m.front;
        gone = m.gone;
        back = m.back;
        old_is = m.old_is;
        new_is = m.new_is;
        gone_in = m.passes;
      };
      start_is = m.front_is;
      count_is = m.gone_is ∙ counted c.front c.gone c.back (ap length c.old_is) (ap length c.new_is);
    }
  where
    counted : (front gone back : List Point) → length (map here_of before.corners) ≡ length (front ++ (gone ++ back))
        → length (map here_of after.corners) ≡ length (front ++ back)
        → length gone ≡ length before.corners - length after.corners
    counted front gone back o n =
        omega (
          arith,
          o,
          n,
          length-append front (gone ++ back),
          length-append gone back,
          length-append front back,
          length-map before.corners here_of,
          length-map after.corners here_of,
        )
