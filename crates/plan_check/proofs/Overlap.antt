-- Two segments overlap where two of their four ends lie on both and differ.
use Rattle.std.specs.Prelude.{◌≡◌, Bool, true, false, ◌&&◌, ◌||◌, not, cond, List, [], ◌∷◌}
use Rattle.std.specs.List.{list_any}
use Rattle.std.proofs.Common.{refl, arith}
use Rattle.plane_spec.specs.declared.Point.{Point}
use Rattle.plane_spec.specs.Lists.{pairs}
use Rattle.plane_spec.specs.Vectors.{same_point}
use Rattle.plane_spec.specs.Segments.{is_on_segment}
use Rattle.plan_spec.specs.Accepted.{do_segments_overlap}
use Rattle.plan_check.specs.Ends.{are_two_shared}

abbrev kept_if : Bool → Point → List Point → List Point
kept_if test x xs = cond test (x ∷ xs) xs

-- two points of the list differ
abbrev are_two : List Point → Bool
are_two xs = list_any (λ e. not (same_point e.0 e.1)) (pairs xs)

abbrev two_of : Point → Bool → Point → Bool → Point → Bool → Point → Bool → Bool
two_of a s b t c u d v =
    are_two_shared a s b t || (are_two_shared a s c u || (are_two_shared a s d v || (are_two_shared b t c u || (are_two_shared b t d v || are_two_shared c u d v))))

two_by : (a b c d : Point) (s t u v : Bool) → are_two (kept_if s a (kept_if t b (kept_if u c (kept_if v d [])))) ≡ two_of a s b t c u d v
unfolding are_two_shared
two_by a b c d true true true true = grind arith
two_by a b c d true true true false = grind arith
two_by a b c d true true false true = grind arith
two_by a b c d true true false false = grind arith
two_by a b c d true false true true = grind arith
two_by a b c d true false true false = grind arith
two_by a b c d true false false true = grind arith
two_by a b c d true false false false = refl
two_by a b c d false true true true = grind arith
two_by a b c d false true true false = grind arith
two_by a b c d false true false true = grind arith
two_by a b c d false true false false = refl
two_by a b c d false false true true = grind arith
two_by a b c d false false true false = refl
two_by a b c d false false false true = refl
two_by a b c d false false false false = refl

abbrev is_shared : Point → Point → Point → Point → Point → Bool
is_shared a b c d x = is_on_segment x a b && is_on_segment x c d

pub overlap_is : (a b c d : Point) → do_segments_overlap a b c d
    ≡ two_of a (is_shared a b c d a) b (is_shared a b c d b) c (is_shared a b c d c) d (is_shared a b c d d)
unfolding do_segments_overlap
overlap_is a b c d = two_by a b c d (is_shared a b c d a) (is_shared a b c d b) (is_shared a b c d c) (is_shared a b c d d)
