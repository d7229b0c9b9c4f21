-- Where a point of the segment hasn't the winding of the walls' right side, nor that of the segment's start, a wall
-- or a corner is hit on the way back.
use Rattle.std.specs.Prelude.{List, Bool, false, true}
use Rattle.std.specs.List.{list_any}
use Rattle.std.proofs.Common.{ℕ, ℤ, ◌+◌, ◌<◌, ap, arith, pos, ◌≡◌, ◌+ℤ◌, ◌-ℤ◌, ◌*ℤ◌, ◌∙◌, refl, sym, subst, ◌⊎◌}
use Rattle.std.proofs.lemmas.Int.{ints}
use Rattle.int_laws.proofs.Ring.{one_times, sum_times}
use Rattle.plane_spec.specs.declared.Point.{Point}
use Rattle.plane_spec.specs.declared.Segment.{Segment}
use Rattle.plane_spec.specs.Vectors.{vector, point}
use Rattle.plane_spec.specs.Polygons.{is_on_edge}
use Rattle.plane_spec.specs.Segments.{is_on_segment}
use Rattle.plane_laws.specs.Enlarged.{part_way, enlarged}
use Rattle.plane_laws.proofs.Points.Scaled.{large, scaled_wall}
use Rattle.plane_laws.proofs.Lists.Members.{IsIn, each_fails, found, mapped, source}
use Rattle.winding_laws.specs.Windings.{winding}
use Rattle.winding_laws.proofs.Strips.{HasWinding}
use Rattle.side_laws.proofs.Sound.{IsSound}
use Rattle.walk_laws.proofs.Hits.{Hit, IsStepOff, first_hit}
use Rattle.walk_laws.proofs.Walk.{IsFine, Walked, corner_at_step, to_edge, to_start, walk}
use Rattle.walk_laws.proofs.FirstStep.{kept, towards_next}

-- a step before number i at which a wall or a corner is hit
pub record HitBefore (edges : List Segment) (k : ℤ) (n : ℕ) (sound : IsSound (large n edges) k) (p q : Point) (i : ℕ) :
    Type 0 where
  pub j : ℕ
  pub before : j < i
  pub hit : Hit (large n edges) k sound (part_way j n p q) (vector (part_way j n p q) (part_way (j + 1) n p q))

one_step : (j : ℕ) (z d : ℤ) → (z +ℤ pos (j + 1) *ℤ d) -ℤ (z +ℤ pos j *ℤ d) ≡ d
one_step j z d =
    let e : pos (j + 1) ≡ pos j +ℤ pos 1 = omega (arith, ints) in
    let f = ap (λ t. t *ℤ d) e ∙ sum_times (pos j) (pos 1) d in let o = one_times d in omega (arith, ints, f, o)

pub step_way : (n j : ℕ) (p q : Point) → vector p q ≡ vector (part_way j n p q) (part_way (j + 1) n p q)
step_way n j p q =
    both _ _ _ _ (sym (one_step j (pos n *ℤ p.x) (q.x -ℤ p.x))) (sym (one_step j (pos n *ℤ p.y) (q.y -ℤ p.y)))
  where
    both : (a b c d : ℤ) → a ≡ c → b ≡ d → point a b ≡ point c d
    both a b c d e f = rw (e, f) refl

pub hit_before : (edges : List Segment) (k : ℤ) → IsSound edges k → (n : ℕ) → (sound : IsSound (large n edges) k)
    → (p q : Point) → (q.x -ℤ p.x ≡ pos 0 → q.y -ℤ p.y ≡ pos 0 → ⊥)
    → ((f : Segment) → IsIn edges f → IsFine n p q f)
    → (i : ℕ) → list_any (is_on_edge (part_way i n p q)) (large n edges) ≡ false
    → (winding (part_way i n p q) (large n edges) ≡ k -ℤ pos 1 → ⊥)
    → (list_any (is_on_edge (part_way 0 n p q)) (large n edges) ≡ false
    → winding (part_way 0 n p q) (large n edges) ≡ winding (part_way i n p q) (large n edges) → ⊥)
    → HitBefore edges k n sound p q i
hit_before edges k small n sound p q some fine i off not_right start =
    by_walk (walk on value keeps i off)
  where
    on : ℕ → Bool
    on j = list_any (is_on_edge (part_way j n p q)) (large n edges)

    value : ℕ → ℤ
    value j = winding (part_way j n p q) (large n edges)

    each_off : (j : ℕ) → list_any (is_on_edge (part_way j n p q)) (large n edges) ≡ false → (f : Segment)
        → IsIn edges f → is_on_segment (part_way j n p q) (enlarged n f.a) (enlarged n f.b) ≡ false
    each_off j h f there =
        each_fails (is_on_edge (part_way j n p q)) (large n edges) (scaled_wall (pos n) (pos n) f) h
        (mapped (scaled_wall (pos n) (pos n)) edges f there)

    keeps : (j : ℕ) → on j ≡ false → on (j + 1) ≡ false → value j ≡ value (j + 1)
    keeps j h l = kept edges small.closed n j p q fine (each_off j h) (each_off (j + 1) l)

    step_off : (j : ℕ) → list_any (is_on_edge (part_way (j + 1) n p q)) (large n edges) ≡ false
        → IsStepOff (large n edges) (part_way j n p q) (part_way (j + 1) n p q)
    step_off j h =
        record {
          off = λ g there. each_fails (is_on_edge (part_way (j + 1) n p q)) (large n edges) g h there;
          a_at = λ g there. let o = source (scaled_wall (pos n) (pos n)) edges g there in
              subst (λ t. is_on_segment t.a (part_way j n p q) (part_way (j + 1) n p q) ≡ true →
              (t.a ≡ part_way j n p q) ⊎ (t.a ≡ part_way (j + 1) n p q)) o.is
              (corner_at_step n j p q o.it.a o.it (fine o.it o.is_in));
          b_at = λ g there. let o = source (scaled_wall (pos n) (pos n)) edges g there in
              subst (λ t. is_on_segment t.b (part_way j n p q) (part_way (j + 1) n p q) ≡ true →
              (t.b ≡ part_way j n p q) ⊎ (t.b ≡ part_way (j + 1) n p q)) o.is
              (corner_at_step n j p q o.it.b o.it (fine o.it o.is_in));
        }

    by_walk : Walked on value i → HitBefore edges k n sound p q i
    by_walk (to_start h e) = absurd (start h e)
    by_walk (to_edge j less h l e) =
        let f = found (is_on_edge (part_way j n p q)) (large n edges) h in
        let w = towards_next edges small.closed small.some n j p q some fine (each_off (j + 1) l) in
        let here : HasWinding (large n edges) (part_way j n p q) (vector (part_way j n p q) (part_way (j + 1) n p q))
        (value i) =
        subst (λ t. HasWinding (large n edges) (part_way j n p q) t (value i)) (step_way n j p q)
        (subst (λ t. HasWinding (large n edges) (part_way j n p q) (vector p q) t) e w) in
        record {
          j = j;
          before = less;
          hit = first_hit (large n edges) k (value i) sound (part_way j n p q)
              (part_way (j + 1) n p q) (step_off j l) here not_right f.it f.is_in f.passes;
        }
