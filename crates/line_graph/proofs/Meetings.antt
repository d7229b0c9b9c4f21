-- When two lines meet, by the cross products as the code has them.
use Rattle.std.proofs.Common.{◌≡◌, refl, sym, ◌∙◌, subst, arith, ℤ, pos, ◌<ℤ◌, true, false}
use Rattle.std.specs.Prelude.{◌&&◌, int_lt}
use Rattle.std.specs.Ordering.{int_eq}
use Rattle.std.proofs.lemmas.Int.{ints}
use Rattle.int_laws.proofs.Tests.{tested_equal, tested_less}
use Rattle.plane_spec.specs.Vectors.{vector, cross_of}
use Rattle.sight_spec.specs.Axial.{AxialLine, do_meet}
use Rattle.meet_laws.specs.Stretches.{Stretch, is_between_parameters, is_between_parameters_turned, do_reach_crossing, do_reach_crossing_turned, do_extents_meet}
use Rattle.meet_laws.proofs.Signs.{IsNonzero}
use Rattle.meet_laws.proofs.Stretches.{meet_left, meet_right, meet_aside, meet_in_line}
use Rattle.line_graph.specs.Measured.{IsMeasured}
use Rattle.line_graph.proofs.Stretches.{not_zero}

flat : (z : ℤ) → int_lt (pos 0) z ≡ false → int_lt z (pos 0) ≡ false → z ≡ pos 0
flat z h i = omega (arith, ints, h, i)

reach_is : (s r : Stretch) (t u k : ℤ) → t ≡ cross_of (vector s.p r.p) r.d → u ≡ cross_of (vector s.p r.p) s.d
    → k ≡ cross_of s.d r.d
    → (is_between_parameters t k s.from.num s.from.den s.to.num s.to.den
    && is_between_parameters u k r.from.num r.from.den r.to.num r.to.den) ≡ do_reach_crossing s r
unfolding do_reach_crossing
reach_is s r t u k t_is u_is k_is = rw (t_is, u_is, k_is) refl

reach_turned_is : (s r : Stretch) (t u k : ℤ) → t ≡ cross_of (vector s.p r.p) r.d → u ≡ cross_of (vector s.p r.p) s.d
    → k ≡ cross_of s.d r.d
    → (is_between_parameters_turned t k s.from.num s.from.den s.to.num s.to.den
    && is_between_parameters_turned u k r.from.num r.from.den r.to.num r.to.den) ≡ do_reach_crossing_turned s r
unfolding do_reach_crossing_turned
reach_turned_is s r t u k t_is u_is k_is = rw (t_is, u_is, k_is) refl

pub meets_left : (s r : Stretch) (l m : AxialLine) (t u k : ℤ) → IsMeasured s l → IsMeasured r m
    → t ≡ cross_of (vector s.p r.p) r.d → u ≡ cross_of (vector s.p r.p) s.d → k ≡ cross_of s.d r.d
    → int_lt (pos 0) k ≡ true
    → (is_between_parameters t k s.from.num s.from.den s.to.num s.to.den
    && is_between_parameters u k r.from.num r.from.den r.to.num r.to.den) ≡ do_meet l m
meets_left s r l m t u k h i t_is u_is k_is up =
    let more = subst (λ z. pos 0 <ℤ z) k_is (tested_less (pos 0) k up) in
    reach_is s r t u k t_is u_is k_is ∙ sym (meet_left s r l.from l.to m.from m.to h.stretch i.stretch more)

pub meets_right : (s r : Stretch) (l m : AxialLine) (t u k : ℤ) → IsMeasured s l → IsMeasured r m
    → t ≡ cross_of (vector s.p r.p) r.d → u ≡ cross_of (vector s.p r.p) s.d → k ≡ cross_of s.d r.d
    → int_lt k (pos 0) ≡ true
    → (is_between_parameters_turned t k s.from.num s.from.den s.to.num s.to.den
    && is_between_parameters_turned u k r.from.num r.from.den r.to.num r.to.den) ≡ do_meet l m
meets_right s r l m t u k h i t_is u_is k_is down =
    let less = subst (λ z. z <ℤ pos 0) k_is (tested_less k (pos 0) down) in
    reach_turned_is s r t u k t_is u_is k_is ∙ sym (meet_right s r l.from l.to m.from m.to h.stretch i.stretch less)

pub meets_in_line : (s r : Stretch) (l m : AxialLine) (u k : ℤ) → IsMeasured s l → IsMeasured r m
    → u ≡ cross_of (vector s.p r.p) s.d → k ≡ cross_of s.d r.d
    → int_lt (pos 0) k ≡ false → int_lt k (pos 0) ≡ false → int_eq u (pos 0) ≡ true
    → do_extents_meet l.from l.to m.from m.to ≡ do_meet l m
meets_in_line s r l m u k h i u_is k_is up down line =
    sym (meet_in_line s r l.from l.to m.from m.to h.stretch i.stretch (sym k_is ∙ flat k up down)
    (sym u_is ∙ tested_equal u (pos 0) line))

pub meets_aside : (s r : Stretch) (l m : AxialLine) (u k : ℤ) → IsMeasured s l → IsMeasured r m
    → u ≡ cross_of (vector s.p r.p) s.d → k ≡ cross_of s.d r.d
    → int_lt (pos 0) k ≡ false → int_lt k (pos 0) ≡ false → int_eq u (pos 0) ≡ false → false ≡ do_meet l m
meets_aside s r l m u k h i u_is k_is up down line =
    sym (meet_aside s r l.from l.to m.from m.to h.stretch i.stretch (sym k_is ∙ flat k up down)
    (subst IsNonzero u_is (not_zero u line)))
