-- Lines that meet have extents that share a point: whole numbers tell that one lies before the other, and then they
-- don't meet.
use Rattle.std.proofs.Common.{◌≡◌, refl, ap, ◌∙◌, arith, ℕ, ◌<◌, ◌≤◌, ℤ, pos, neg_ℤ, ◌+ℤ◌, ◌<ℤ◌, ◌≤ℤ◌, Bool, true, false, min, max}
use Rattle.std.specs.Prelude.{◌&&◌, ◌||◌, nat_le, int_lt, unsigned_abs, if◌then◌else◌}
use Rattle.std.proofs.lemmas.Bool.{leb-false}
use Rattle.std.proofs.lemmas.Int.{ints, by_lt_z}
use Rattle.std.proofs.Common.{◌⊎◌, inl, inr}
use lib.IntN.{negsuc}
use Rattle.plane_spec.specs.Fractions.{Fraction, RPoint, floor_of, ceil_of, is_before}
use Rattle.plane_spec.specs.RPoints.{do_rsegments_touch, do_rpoints_cross, is_rpoint_on_segment, orient_of_rpoints}
use Rattle.plane_spec.specs.Segments.{are_opposite}
use Rattle.sight_spec.specs.Axial.{AxialLine, do_meet}
use Rattle.exact_geom.proofs.Rounding.{floor_not_above, ceil_not_below}
use Rattle.meet_laws.specs.Stretches.{Stretch, AreAllBefore}
use Rattle.meet_laws.proofs.Extents.{before_by_whole}
use Rattle.meet_laws.proofs.Stretches.{no_meeting_in_x, no_meeting_in_y}
use Rattle.line_graph.specs.Extents.{rank_of, low_of, high_of, extent_of, are_near}
use Rattle.line_graph.specs.Measured.{IsMeasured}

-- ---- ranks are in order

size_of : (z : ℤ) → pos 0 ≤ℤ z → pos (unsigned_abs z) ≡ z
size_of (pos n) h = refl
size_of (negsuc n) h = absurd (omega (arith, ints))

rank_by : Bool → Bool → ℤ → ℕ
rank_by a b z = if a then 0 else (if b then 2000000000 else unsigned_abs (z +ℤ pos 1000000000))

rank_is : (z : ℤ) → rank_of z ≡ rank_by (int_lt z (neg_ℤ (pos 1000000000))) (int_lt (pos 1000000000) z) z
unfolding rank_of rank_by
rank_is z = refl

in_order : (a b c d : Bool) (z w : ℤ) → w ≤ℤ z → int_lt w (neg_ℤ (pos 1000000000)) ≡ a → int_lt (pos 1000000000) w ≡ b
    → int_lt z (neg_ℤ (pos 1000000000)) ≡ c → int_lt (pos 1000000000) z ≡ d → rank_by a b w ≤ rank_by c d z
unfolding rank_by
in_order true b c d z w le e f g h = omega arith
in_order false true true d z w le e f g h = absurd (omega (arith, ints, le, f, g))
in_order false true false true z w le e f g h = omega arith
in_order false true false false z w le e f g h = absurd (omega (arith, ints, le, f, h))
in_order false false true d z w le e f g h = absurd (omega (arith, ints, le, e, g))
in_order false false false true z w le e f g h =
    let size = size_of (w +ℤ pos 1000000000) (omega (arith, ints, e)) in
    omega (arith, ints, size, e, f)
in_order false false false false z w le e f g h =
    let size = size_of (w +ℤ pos 1000000000) (omega (arith, ints, e)) in
    let size_too = size_of (z +ℤ pos 1000000000) (omega (arith, ints, g)) in
    omega (arith, ints, size, size_too, le)

rank_more : (z w : ℤ) → w ≤ℤ z → rank_of w ≤ rank_of z
rank_more z w le = rw (rank_is z, rank_is w) (in_order _ _ _ _ z w le refl refl refl refl)

-- a number of a smaller rank is smaller
rank_less : (z w : ℤ) → rank_of z < rank_of w → z <ℤ w
rank_less z w less = by_lt_z z w (λ h. h) (λ h. let more = rank_more z w h in absurd (omega (arith, less, more)))

-- ---- one extent before the other

first_less : (x y z w : ℕ) → max x y < min z w → x < z
first_less x y z w h = omega arith

all_before : (a b c f : Fraction) → pos 1 ≤ℤ a.den → pos 1 ≤ℤ b.den → pos 1 ≤ℤ c.den → pos 1 ≤ℤ f.den
    → high_of a b < low_of c f → AreAllBefore a b c f
all_before a b c f a_up b_up c_up f_up less =
    let ra = rank_of (ceil_of a) in
    let rb = rank_of (ceil_of b) in
    let rc = rank_of (floor_of c) in
    let rf = rank_of (floor_of f) in
    record {
      first_third = before a c a_up c_up (omega (arith, less));
      first_fourth = before a f a_up f_up (omega (arith, less));
      second_third = before b c b_up c_up (omega (arith, less));
      second_fourth = before b f b_up f_up (omega (arith, less));
    }
  where
    before : (g h : Fraction) → pos 1 ≤ℤ g.den → pos 1 ≤ℤ h.den → rank_of (ceil_of g) < rank_of (floor_of h)
        → is_before g h ≡ true
    before g h g_up h_up below =
        before_by_whole g h (ceil_of g) (floor_of h) g_up h_up (ceil_not_below g g_up) (floor_not_above h h_up)
        (rank_less (ceil_of g) (floor_of h) below)

-- ---- meeting is mutual

or_turned : (a b : Bool) → a || b ≡ b || a
or_turned true true = refl
or_turned true false = refl
or_turned false true = refl
or_turned false false = refl

and_turned : (a b : Bool) → a && b ≡ b && a
and_turned true true = refl
and_turned true false = refl
and_turned false true = refl
and_turned false false = refl

touch_turned : (a b c d : RPoint) → do_rsegments_touch a b c d ≡ do_rsegments_touch c d a b
unfolding do_rsegments_touch
touch_turned a b c d =
    let first = is_rpoint_on_segment a c d || is_rpoint_on_segment b c d in
    let second = is_rpoint_on_segment c a b || is_rpoint_on_segment d a b in
    ap (λ t. t || (first || second))
    (and_turned (are_opposite (orient_of_rpoints a b c) (orient_of_rpoints a b d))
    (are_opposite (orient_of_rpoints c d a) (orient_of_rpoints c d b)))
    ∙ ap (λ t. do_rpoints_cross c d a b || t)
    (or_turned first second)

-- ---- lines

left_of : (s r : Stretch) (l m : AxialLine) → IsMeasured s l → IsMeasured r m
    → high_of l.from.x l.to.x < low_of m.from.x m.to.x → do_meet l m ≡ false
left_of s r l m h i less =
    no_meeting_in_x s r l.from l.to m.from m.to h.stretch i.stretch
    (all_before l.from.x l.to.x m.from.x m.to.x h.stretch.from.x.part h.stretch.to.x.part i.stretch.from.x.part
    i.stretch.to.x.part less)

below_of : (s r : Stretch) (l m : AxialLine) → IsMeasured s l → IsMeasured r m
    → high_of l.from.y l.to.y < low_of m.from.y m.to.y → do_meet l m ≡ false
below_of s r l m h i less =
    no_meeting_in_y s r l.from l.to m.from m.to h.stretch i.stretch
    (all_before l.from.y l.to.y m.from.y m.to.y h.stretch.from.y.part h.stretch.to.y.part i.stretch.from.y.part
    i.stretch.to.y.part less)

one_fails : (a b c d : Bool) → ((a && b) && c) && d ≡ false
    → (a ≡ false) ⊎ ((b ≡ false) ⊎ ((c ≡ false) ⊎ (d ≡ false)))
one_fails false b c d h = inl refl
one_fails true false c d h = inr (inl refl)
one_fails true true false d h = inr (inr (inl refl))
one_fails true true true d h = inr (inr (inr h))

-- lines that meet have extents that share a point
pub apart_dont_meet : (s r : Stretch) (l m : AxialLine) → IsMeasured s l → IsMeasured r m
    → are_near (extent_of l) (extent_of m) ≡ false → do_meet l m ≡ false
unfolding are_near extent_of
apart_dont_meet s r l m h i apart = by (one_fails _ _ _ _ apart)
  where
    back : do_meet m l ≡ false → do_meet l m ≡ false
    back e = touch_turned l.from l.to m.from m.to ∙ e

    by : (nat_le (low_of l.from.x l.to.x) (high_of m.from.x m.to.x) ≡ false)
        ⊎ ((nat_le (low_of m.from.x m.to.x) (high_of l.from.x l.to.x) ≡ false)
        ⊎ ((nat_le (low_of l.from.y l.to.y) (high_of m.from.y m.to.y) ≡ false)
        ⊎ (nat_le (low_of m.from.y m.to.y) (high_of l.from.y l.to.y) ≡ false)))
        → do_meet l m ≡ false
    by (inl e) = back (left_of r s m l i h (leb-false _ _ e))
    by (inr (inl e)) = left_of s r l m h i (leb-false _ _ e)
    by (inr (inr (inl e))) = back (below_of r s m l i h (leb-false _ _ e))
    by (inr (inr (inr e))) = below_of s r l m h i (leb-false _ _ e)
