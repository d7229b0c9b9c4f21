-- Steps as fine as is wanted.
use Rattle.std.specs.Prelude.{unsigned_abs, List, [], ◌∷◌}
use Rattle.std.proofs.Common.{pos, ℕ, ℤ, ◌≡◌, ◌<◌, ◌*◌, ◌*ℤ◌, arith, neg_ℤ, ap, ◌∙◌, inl, inr, sym, ◌⊎◌, subst, ◌-ℤ◌}
use Rattle.std.proofs.lemmas.Int.{by_lt_z, ints}
use Rattle.int_laws.proofs.Ring.{times_neg, times_one, product_grouped, product_swapped}
use Rattle.int_laws.proofs.Signs.{positive_product}
use Rattle.plane_spec.specs.declared.Point.{Point}
use Rattle.plane_spec.specs.declared.Segment.{Segment}
use Rattle.plane_spec.specs.Vectors.{cross_of, vector}
use Rattle.plane_laws.proofs.Lists.Members.{IsIn}
use Rattle.walk_laws.proofs.Walk.{Divides, IsFine}

-- a positive multiple
pub record Multiple (base n : ℕ) : Type 0 where
  pub times : ℕ
  pub some : 0 < times
  pub is : pos n ≡ pos times *ℤ pos base

-- |c|, and what c has to be multiplied by for it
size_is : (c : ℤ) → (c ≡ pos 0 → ⊥) → (0 < unsigned_abs c) × ((s : ℤ) × (pos (unsigned_abs c) ≡ c *ℤ s))
size_is c some =
    by_lt_z (pos 0) c
    (λ up. let o = times_one c in (omega (arith, ints, up), (pos 1, omega (arith, ints, up, o))))
    (λ not_up. by_lt_z c (pos 0)
    (λ down. let o = times_one c in let m = times_neg c (pos 1) in
    (omega (arith, ints, down), (neg_ℤ (pos 1), omega (arith, ints, down, o, m))))
    (λ not_down. absurd (some (omega (arith, ints, not_up, not_down)))))

-- a number times |c|
record Grown (n : ℕ) (c : ℤ) : Type 0 where
  number : ℕ
  size : ℕ
  some : 0 < size
  is : pos number ≡ pos size *ℤ pos n
  own : (m : ℤ) × (pos number ≡ c *ℤ m)

grown : (n : ℕ) (c : ℤ) → (c ≡ pos 0 → ⊥) → Grown n c
grown n c not_none =
    let s = size_is c not_none in
    let k = unsigned_abs c in
    let e : pos (k * n) ≡ pos k *ℤ pos n = omega (arith, ints) in
    record {
      number = k * n;
      size = k;
      some = s.0;
      is = e;
      own = (s.1.0 *ℤ pos n, e ∙ ap (λ t. t *ℤ pos n) s.1.1 ∙ product_grouped c s.1.0 (pos n));
    }

divides_more : (c : ℤ) (n k m : ℤ) → m ≡ k *ℤ n → Divides c n → Divides c m
divides_more c n k m e (inl z) = inl z
divides_more c n k m e (inr d) =
    inr (
      k *ℤ d.0,
      e ∙ ap (λ t. k *ℤ t) d.1 ∙ sym (product_grouped k c d.0) ∙ ap (λ t. t *ℤ d.0) (product_swapped k c)
          ∙ product_grouped c k d.0,
    )

positive_number : (n k m : ℕ) → 0 < k → 0 < n → pos m ≡ pos k *ℤ pos n → 0 < m
positive_number n k m h i e =
    let p = positive_product (pos k) (pos n) (omega (arith, ints, h)) (omega (arith, ints, i)) in
    omega (arith, ints, e, p)

multiple_again : (base n k m : ℕ) → Multiple base n → 0 < k → pos m ≡ pos k *ℤ pos n → Multiple base m
multiple_again base n k m t some e =
    let p : pos (k * t.times) ≡ pos k *ℤ pos t.times = omega (arith, ints) in
    record {
      times = k * t.times;
      some = positive_number t.times k (k * t.times) some t.some p;
      is = e ∙ ap (λ z. pos k *ℤ z) t.is ∙ sym (product_grouped (pos k) (pos t.times) (pos base))
          ∙ ap (λ z. z *ℤ pos base) (sym p);
    }

-- a multiple of a number that each edge's rise divides
record Common (edges : List Segment) (p q : Point) (base : ℕ) : Type 0 where
  number : ℕ
  some : 0 < number
  multiple : Multiple base number
  divided : (f : Segment) → IsIn edges f → Divides (cross_of (vector f.a f.b) (vector p q)) (pos number)

is_none : (c : ℤ) → (c ≡ pos 0) ⊎ (c ≡ pos 0 → ⊥)
is_none c =
    by_lt_z (pos 0) c (λ up. inr (λ e. absurd (omega (arith, ints, up, e))))
    (λ not_up. by_lt_z c (pos 0) (λ down. inr (λ e. absurd (omega (arith, ints, down, e))))
    (λ not_down. inl (omega (arith, ints, not_up, not_down))))

common : (edges : List Segment) (p q : Point) (base : ℕ) → 0 < base → Common edges p q base
common [] p q base some =
    record {
      number = base;
      some = some;
      multiple = record {
        times = 1;
        some = omega arith;
        is = omega (arith, ints);
      };
      divided = λ f there. absurd there;
    }
common (f ∷ edges) p q base some =
    by_rise (common edges p q base some) (is_none (cross_of (vector f.a f.b) (vector p q)))
  where
    by_rise : Common edges p q base → (cross_of (vector f.a f.b) (vector p q) ≡ pos 0)
        ⊎ (cross_of (vector f.a f.b) (vector p q) ≡ pos 0 → ⊥) → Common (f ∷ edges) p q base
    by_rise rest (inl level) =
        record { number = rest.number; some = rest.some; multiple = rest.multiple; divided = λ g there. pick g there }
      where
        pick : (g : Segment) → IsIn (f ∷ edges) g → Divides (cross_of (vector g.a g.b) (vector p q)) (pos rest.number)
        pick g (inl e) = subst (λ t. Divides (cross_of (vector t.a t.b) (vector p q)) (pos rest.number)) e (inl level)
        pick g (inr k) = rest.divided g k
    by_rise rest (inr sloped) =
        let w = grown rest.number (cross_of (vector f.a f.b) (vector p q)) sloped in
        record {
          number = w.number;
          some = positive_number rest.number w.size w.number w.some rest.some w.is;
          multiple = multiple_again base rest.number w.size w.number rest.multiple w.some w.is;
          divided = λ g there. pick w.number w.size w.is w.own g there;
        }
      where
        pick : (number size : ℕ) → pos number ≡ pos size *ℤ pos rest.number
            → (m : ℤ) × (pos number ≡ cross_of (vector f.a f.b) (vector p q) *ℤ m) → (g : Segment)
            → IsIn (f ∷ edges) g → Divides (cross_of (vector g.a g.b) (vector p q)) (pos number)
        pick number size is own g (inl e) =
            subst (λ t. Divides (cross_of (vector t.a t.b) (vector p q)) (pos number)) e (inr own)
        pick number size is own g (inr k) =
            divides_more (cross_of (vector g.a g.b) (vector p q)) (pos rest.number) (pos size) (pos number) is
            (rest.divided g k)

-- steps that are fine for all edges
pub record FineSteps (edges : List Segment) (p q : Point) (base : ℕ) : Type 0 where
  pub number : ℕ
  pub multiple : Multiple base number
  pub fine : (f : Segment) → IsIn edges f → IsFine number p q f

apart_by : (p q : Point) → (q.x -ℤ p.x ≡ pos 0 → q.y -ℤ p.y ≡ pos 0 → ⊥)
    → (q.x -ℤ p.x ≡ pos 0 → ⊥) ⊎ (q.y -ℤ p.y ≡ pos 0 → ⊥)
apart_by p q apart = by_x (is_none (q.x -ℤ p.x))
  where
    by_x : (q.x -ℤ p.x ≡ pos 0) ⊎ (q.x -ℤ p.x ≡ pos 0 → ⊥) → (q.x -ℤ p.x ≡ pos 0 → ⊥) ⊎ (q.y -ℤ p.y ≡ pos 0 → ⊥)
    by_x (inl e) = inr (apart e)
    by_x (inr n) = inl n

with_run : (c n k m : ℤ) → m ≡ k *ℤ n → (t : ℤ) × (n ≡ c *ℤ t) → (t : ℤ) × (m ≡ c *ℤ t)
with_run c n k m e d = (
  k *ℤ d.0,
  e ∙ ap (λ t. k *ℤ t) d.1 ∙ sym (product_grouped k c d.0) ∙ ap (λ t. t *ℤ d.0) (product_swapped k c)
      ∙ product_grouped c k d.0,
)

multiple_of_more : (base n m : ℕ) → Multiple n m → (size : ℕ) → 0 < size → pos n ≡ pos size *ℤ pos base
    → Multiple base m
multiple_of_more base n m t size some e =
    multiple_again base n t.times m (record { times = size; some = some; is = e }) t.some t.is

pub fine_steps : (edges : List Segment) (p q : Point) (base : ℕ) → 0 < base
    → (q.x -ℤ p.x ≡ pos 0 → q.y -ℤ p.y ≡ pos 0 → ⊥) → FineSteps edges p q base
fine_steps edges p q base some apart = elim (apart_by p q apart) [ inl wide ↦ by_x wide | inr tall ↦ by_y tall ]
  where
    by_x : (q.x -ℤ p.x ≡ pos 0 → ⊥) → FineSteps edges p q base
    by_x wide =
        let w = grown base (q.x -ℤ p.x) wide in
        let c = common edges p q w.number (positive_number base w.size w.number w.some some w.is) in
        record {
          number = c.number;
          multiple = multiple_of_more base w.number c.number c.multiple w.size w.some w.is;
          fine = λ f there. record {
            some = c.some;
            rise = c.divided f there;
            run = inl (
              with_run (q.x -ℤ p.x) (pos w.number) (pos c.multiple.times)
                  (pos c.number) c.multiple.is w.own,
              wide,
            );
          };
        }

    by_y : (q.y -ℤ p.y ≡ pos 0 → ⊥) → FineSteps edges p q base
    by_y tall =
        let w = grown base (q.y -ℤ p.y) tall in
        let c = common edges p q w.number (positive_number base w.size w.number w.some some w.is) in
        record {
          number = c.number;
          multiple = multiple_of_more base w.number c.number c.multiple w.size w.some w.is;
          fine = λ f there. record {
            some = c.some;
            rise = c.divided f there;
            run = inr (
              with_run (q.y -ℤ p.y) (pos w.number) (pos c.multiple.times)
                  (pos c.number) c.multiple.is w.own,
              tall,
            );
          };
        }
