-- Lines that have the same ends, part for part: it is an equivalence, and such lines have one hash.
use Rattle.std.proofs.Common.{◌≡◌, ◌∙◌, ◌+◌, ◌%◌, ◌^◌, ℕ, Bool, true, false, ◌&&◌, ◌||◌, arith, refl, ap}
use Rattle.std.specs.Ordering.{int_eq}
use Rattle.std.specs.Cmp.{IsEquivalence, int_eq_equiv, on_equiv, and_equiv}
use Rattle.std.specs.Hash as fed
use Rattle.std.proofs.lemmas.Bool.{and_parts}
use Rattle.plane_spec.specs.Fractions.{Fraction, RPoint}
use Rattle.int_laws.proofs.Tests.{tested_equal}
use Rattle.exact_geom.specs.Parts.{same_parts}
use Rattle.sight_spec.specs.Axial.{AxialLine}
use Rattle.axial_lines.specs.Found.{same_end, has_ends_of, bits_of_end, bits_of_ends, squared}

-- ---- an equivalence

-- fractions by their parts
parts_equiv : IsEquivalence same_parts
parts_equiv = and_equiv (on_equiv (λ f. f.num) int_eq_equiv) (on_equiv (λ f. f.den) int_eq_equiv)

-- ends by their coordinates
end_equiv : IsEquivalence same_end
end_equiv = and_equiv (on_equiv (λ p. p.x) parts_equiv) (on_equiv (λ p. p.y) parts_equiv)

either : (t : Bool) → t ≡ true → (u : Bool) → (t || u) ≡ true
either t e u = rw e refl

turned_back : (a b c d : Bool) → ((a && b) || (c && d)) ≡ ((a && b) || (d && c))
turned_back a b c d = grind arith

exchanged : (a b c d : Bool) → ((a && b) || (c && d)) ≡ ((d && c) || (b && a))
exchanged a b c d = grind arith

-- each line has its own ends
own_ends : (l : AxialLine) → has_ends_of l l ≡ true
own_ends l = rw (end_equiv.refl l.from, end_equiv.refl l.to) refl

-- two lines have the same ends, whichever is asked for those of the other
ends_back : (l m : AxialLine) → has_ends_of l m ≡ has_ends_of m l
ends_back l m =
    rw (end_equiv.symm l.from m.from, end_equiv.symm l.to m.to, end_equiv.symm l.from m.to, end_equiv.symm l.to m.from)
    (turned_back (same_end m.from l.from) (same_end m.to l.to) (same_end m.to l.from) (same_end m.from l.to))

-- two lines with the same ends have those of the same lines
ends_alike : (l m n : AxialLine) → has_ends_of l m ≡ true → has_ends_of l n ≡ has_ends_of m n
ends_alike l m n h =
    by (same_end l.from m.from && same_end l.to m.to) (same_end l.from m.to && same_end l.to m.from) refl refl h
  where
    by : (s t : Bool) → (same_end l.from m.from && same_end l.to m.to) ≡ s
        → (same_end l.from m.to && same_end l.to m.from) ≡ t → (s || t) ≡ true → has_ends_of l n ≡ has_ends_of m n
    by true t e f o =
        let both = and_parts (same_end l.from m.from) (same_end l.to m.to) e in
        rw (
          end_equiv.congr l.from m.from n.from both.0,
          end_equiv.congr l.to m.to n.to both.1,
          end_equiv.congr l.from m.from n.to both.0,
          end_equiv.congr l.to m.to n.from both.1,
        ) refl
    by false true e f o =
        let both = and_parts (same_end l.from m.to) (same_end l.to m.from) f in
        rw (
          end_equiv.congr l.from m.to n.from both.0,
          end_equiv.congr l.to m.from n.to both.1,
          end_equiv.congr l.from m.to n.to both.0,
          end_equiv.congr l.to m.from n.from both.1,
        )
        (exchanged (same_end m.to n.from) (same_end m.from n.to) (same_end m.to n.to) (same_end m.from n.from))
    by false false e f o = cc

-- having the same ends is an equivalence
pub ends_equiv : IsEquivalence has_ends_of
ends_equiv = record { refl = own_ends; symm = ends_back; congr = ends_alike }

-- ---- one hash

one_fraction : (f g : Fraction) → same_parts f g ≡ true → f ≡ g
one_fraction f g h =
    let both = and_parts (int_eq f.num g.num) (int_eq f.den g.den) h in
    ap (λ z. record { num = z; den = f.den }) (tested_equal f.num g.num both.0)
    ∙ ap (λ z. record { num = g.num; den = z }) (tested_equal f.den g.den both.1)

one_end : (p q : RPoint) → same_end p q ≡ true → p ≡ q
one_end p q h =
    let both = and_parts (same_parts p.x q.x) (same_parts p.y q.y) h in
    ap (λ f. record { x = f; y = p.y }) (one_fraction p.x q.x both.0)
    ∙ ap (λ f. record { x = q.x; y = f }) (one_fraction p.y q.y both.1)

one_sum : (m n : ℕ) → (m + n) % 2 ^ 64 ≡ (n + m) % 2 ^ 64
one_sum m n = ap (λ s. s % 2 ^ 64) (other_way m n)
  where
    other_way : (m n : ℕ) → m + n ≡ n + m
    other_way m n = omega arith

-- lines with the same ends are hashed alike
pub same_bits : (l m : AxialLine) → has_ends_of l m ≡ true → fed.u64 (bits_of_ends l) ≡ fed.u64 (bits_of_ends m)
unfolding bits_of_ends
same_bits l m h =
    ap fed.u64
    (by (same_end l.from m.from && same_end l.to m.to) (same_end l.from m.to && same_end l.to m.from) refl refl h)
  where
    sum : RPoint → RPoint → ℕ
    sum p q = (squared (bits_of_end p) + squared (bits_of_end q)) % 2 ^ 64

    by : (s t : Bool) → (same_end l.from m.from && same_end l.to m.to) ≡ s
        → (same_end l.from m.to && same_end l.to m.from) ≡ t → (s || t) ≡ true → bits_of_ends l ≡ bits_of_ends m
    by true t e f o =
        let both = and_parts (same_end l.from m.from) (same_end l.to m.to) e in
        ap (λ p. sum p l.to) (one_end l.from m.from both.0) ∙ ap (λ q. sum m.from q) (one_end l.to m.to both.1)
    by false true e f o =
        let both = and_parts (same_end l.from m.to) (same_end l.to m.from) f in
        ap (λ p. sum p l.to) (one_end l.from m.to both.0) ∙ ap (λ q. sum m.to q) (one_end l.to m.from both.1)
        ∙ one_sum (squared (bits_of_end m.to)) (squared (bits_of_end m.from))
    by false false e f o = cc
