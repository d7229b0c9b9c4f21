-- Walls on one line that one direction spans: the earlier last end lies on the other wall.
use Rattle.std.proofs.Common.{◌≡◌, ℤ, neg_ℤ, ◌<ℤ◌, ◌≤ℤ◌, arith, pos, sym, subst}
use Rattle.std.proofs.lemmas.Int.{ints, by_lt_z}
use Rattle.std.specs.Prelude.{true}
use Rattle.plane_spec.specs.Segments.{is_on_segment}
use Rattle.plane_spec.specs.Vectors.{cross_of, vector, orient_of}
use Rattle.plane_spec.specs.declared.Point.{Point}
use Rattle.int_laws.proofs.Ring.{neg_times, times_neg}
use Rattle.exact_geom.proofs.Turns.{cross_of_exchanged}
use Rattle.apart_laws.proofs.Between.{before_end, on_wall, turn_ends}
use Rattle.front_laws.proofs.Tests.{positive_as, not_below, turned_up}

-- seen in a mirror
abbrev mirror : Point → Point
mirror d = record { x = d.x; y = neg_ℤ d.y }

mirrored : (a b : Point) → cross_of (mirror a) (mirror b) ≡ cross_of b a
mirrored a b = let e = times_neg a.x b.y in let f = neg_times a.y b.x in omega (arith, ints, e, f)

least_as : (x y : ℤ) → x ≡ y → pos 0 ≤ℤ y → pos 0 ≤ℤ x
least_as x y e h = subst (λ t. pos 0 ≤ℤ t) (sym e) h

-- a, b, e as vectors from the station, e at or before b, and d between a and b and before e: then e is past a
after_start : (a b e d : Point) → pos 0 <ℤ cross_of a b → pos 0 <ℤ cross_of a d → pos 0 <ℤ cross_of d b
    → pos 0 <ℤ cross_of d e → pos 0 ≤ℤ cross_of e b → pos 0 <ℤ cross_of a e
after_start a b e d ab ad db de eb =
    positive_as _ _ (sym (mirrored e a))
    (before_end (mirror b) (mirror a) (mirror e) (mirror d)
    (positive_as _ _ (mirrored b a) ab) (positive_as _ _ (mirrored b d) db) (positive_as _ _ (mirrored d a) ad)
    (positive_as _ _ (mirrored e d) de) (least_as _ _ (mirrored b e) eb))

pub data EndOnOther (a b c e : Point) : Type 0 where
  last : is_on_segment e a b ≡ true → EndOnOther a b c e
  own : is_on_segment b c e ≡ true → EndOnOther a b c e

-- of walls ab and ce on one line, both spanned by one direction, the earlier last end lies on the other wall
pub overlap_ends : (p d a b c e : Point) → pos 0 <ℤ cross_of (vector p a) (vector p b)
    → pos 0 <ℤ cross_of (vector p c) (vector p e)
    → pos 0 <ℤ cross_of (vector p a) d → pos 0 <ℤ cross_of d (vector p b) → pos 0 <ℤ cross_of (vector p c) d
    → pos 0 <ℤ cross_of d (vector p e)
    → orient_of a b e ≡ pos 0 → orient_of c e b ≡ pos 0 → EndOnOther a b c e
overlap_ends p d a b c e ab_up ce_up ad db cd de line other_line =
    by_lt_z (cross_of (vector p e) (vector p b)) (pos 0)
    (λ low. let be : pos 0 ≤ℤ cross_of (vector p b) (vector p e) = turned_up _ _
    (cross_of_exchanged (vector p e) (vector p b)) low in
    own (on_wall c e b p (turn_ends c e b p ce_up other_line) other_line
    (not_below _ (after_start (vector p c) (vector p e) (vector p b) d ce_up cd de db be)) be))
    (λ high. last (on_wall a b e p (turn_ends a b e p ab_up line) line
    (not_below _ (after_start (vector p a) (vector p b) (vector p e) d ab_up ad db de high)) high))
