-- The neighbours of a front are taken out of what is missing, node by node.
use Rattle.std.specs.Prelude.{not}
use Rattle.std.proofs.Common.{◌≡◌, ℕ, ◌+◌, ◌*◌, ◌/◌, ◌%◌, ◌<◌, ◌≤◌, Bool, true, false, ◌&&◌, eqb, List, length, get_or, refl, sym, ap, ◌∙◌, inl, inr, arith}
use Rattle.std.proofs.lemmas.Bool.{cases_eq, cases_lt, cases_Bool, ne_eqb}
use Rattle.std.proofs.lemmas.Nat.Bits.{bit_at-zero}
use Rattle.vga_grid.specs.Rows.{bit_of}
use Rattle.vga_grid.specs.Sets.{is_set}
use Rattle.step_depth.specs.Levels.{IsWordPushed, IsLooked}
use Rattle.vga_grid.proofs.Changes.{at_word, past}

both : (x y : Bool) → (x && y) ≡ true → (x ≡ true) × (y ≡ true)
both true true e = (refl, refl)
both true false e = absurd (grind (arith, e))
both false y e = absurd (grind (arith, e))

kept : (x y : Bool) → (x && not y) ≡ true → x ≡ true
kept true y e = refl
kept false y e = absurd (grind (arith, e))

gone_by : (x y : Bool) → (x && not y) ≡ false → x ≡ true → y ≡ true
gone_by true true e h = refl
gone_by true false e h = absurd (grind (arith, e))
gone_by false y e h = absurd (grind (arith, h))

gone_first : (x y : Bool) → x ≡ false → (x && not y) ≡ false
gone_first x y e = rw e refl

gone_second : (x y : Bool) → y ≡ true → (x && not y) ≡ false
gone_second true y e = rw e refl
gone_second false y e = refl

-- the neighbours of those nodes of word k are taken out that aren't in the rest
pub record PushingWord (joins : ℕ → ℕ → Bool) (k word rest : ℕ) (before now : ℕ → Bool) : Type 0 where
  pub fewer : (v : ℕ) → now v ≡ true → before v ≡ true
  pub found : (v : ℕ) → before v ≡ true → now v ≡ false → (b : ℕ) × (b < 64) × (is_set word b ≡ true) × (joins (64 * k + b) v ≡ true)
  pub pushed : (b v : ℕ) → b < 64 → is_set word b ≡ true → is_set rest b ≡ false → joins (64 * k + b) v ≡ true → now v ≡ false
  pub left : (b : ℕ) → b < 64 → is_set rest b ≡ true → is_set word b ≡ true

module _ (joins : ℕ → ℕ → Bool) (k word : ℕ) (before : ℕ → Bool) where
  pub word_first : PushingWord joins k word word before before
  word_first = record {
    fewer = λ v e. e;
    found = λ v e f. absurd (grind (arith, e, f));
    pushed = λ b v h w r j. absurd (grind (arith, w, r));
    left = λ b h e. e;
  }

  pub word_more : (now now' : ℕ → Bool) (rest b rest' : ℕ) → b < 64 → is_set rest b ≡ true → ((i : ℕ) → i < 64 → is_set rest' i ≡ (is_set rest i && not (eqb i b)))
      → ((v : ℕ) → now' v ≡ (now v && not (joins (64 * k + b) v))) → PushingWord joins k word rest before now → PushingWord joins k word rest' before now'
  word_more now now' rest b rest' hb here less is h = record {
    fewer = λ v e. h.fewer v (kept (now v) (joins (64 * k + b) v) (sym (is v) ∙ e));
    found = λ v was e. elim (cases_Bool (now v)) [
      | inl t ↦ (b, hb, h.left b hb here, gone_by (now v) (joins (64 * k + b) v) (sym (is v) ∙ e) t)
      | inr f ↦ h.found v was f
    ];
    pushed = λ i v hi w r j. elim (cases_eq i b) [
      | inl same ↦ is v ∙ gone_second (now v) (joins (64 * k + b) v) (ap (λ (x : ℕ). joins (64 * k + x) v) (sym same) ∙ j)
      | inr ne ↦ is v ∙ gone_first (now v) (joins (64 * k + b) v) (h.pushed i v hi w (let t = less i hi in let n = ne_eqb i b ne in grind (arith, t, r, n)) j)
    ];
    left = λ i hi e. h.left i hi (both (is_set rest i) (not (eqb i b)) (sym (less i hi) ∙ e)).0;
  }

  pub word_last : (now : ℕ → Bool) → PushingWord joins k word 0 before now → IsWordPushed joins k word before now
  word_last now h = record {
    fewer = h.fewer;
    found = h.found;
    pushed = λ b v hb w j. h.pushed b v hb w (rw (bit_at-zero b) refl) j;
  }

-- the neighbours of those nodes of the front are taken out that lie in its first k words
pub record PushingFront (joins : ℕ → ℕ → Bool) (front : List ℕ) (k : ℕ) (before now : ℕ → Bool) : Type 0 where
  pub fewer : (v : ℕ) → now v ≡ true → before v ≡ true
  pub found : (v : ℕ) → before v ≡ true → now v ≡ false → (u : ℕ) × (bit_of front u ≡ true) × (joins u v ≡ true)
  pub pushed : (u v : ℕ) → u / 64 < k → bit_of front u ≡ true → joins u v ≡ true → now v ≡ false

module _ (joins : ℕ → ℕ → Bool) (front : List ℕ) (before : ℕ → Bool) where
  pub front_first : PushingFront joins front 0 before before
  front_first = record {
    fewer = λ v e. e;
    found = λ v e f. absurd (grind (arith, e, f));
    pushed = λ u v lt f j. absurd (omega arith);
  }

  place : (k v : ℕ) → v / 64 ≡ k → 64 * k + v % 64 ≡ v
  place k v e = omega arith

  in_word : (k b : ℕ) → b < 64 → is_set (get_or front k 0) b ≡ true → bit_of front (64 * k + b) ≡ true
  in_word k b hb e =
      let q : (64 * k + b) / 64 ≡ k = omega arith in
      let r : (64 * k + b) % 64 ≡ b = omega arith in
      rw (q, r) e

  pub front_skips : (k next : ℕ) (now : ℕ → Bool) → k ≤ next → ((j : ℕ) → k ≤ j → j < next → get_or front j 0 ≡ 0) → PushingFront joins front k before now → PushingFront joins front next before now
  front_skips k next now le zero h = record {
    fewer = h.fewer;
    found = h.found;
    pushed = λ u v lt f j. elim (cases_lt (u / 64) k) [
      | inl below ↦ h.pushed u v below f j
      | inr above ↦
          let g : bit_of front u ≡ false = rw (zero (u / 64) above lt, bit_at-zero (u % 64)) refl in
          absurd (grind (arith, f, g))
    ];
  }

  pub front_more : (k : ℕ) (now now' : ℕ → Bool) → IsWordPushed joins k (get_or front k 0) now now' → PushingFront joins front k before now → PushingFront joins front (k + 1) before now'
  front_more k now now' w h = record {
    fewer = λ v e. h.fewer v (w.fewer v e);
    found = λ v was e. elim (cases_Bool (now v)) [
      | inl t ↦ let f = w.found v t e in (64 * k + f.0, in_word k f.0 f.1 f.2, f.3)
      | inr f ↦ h.found v was f
    ];
    pushed = λ u v lt f j. elim (cases_eq (u / 64) k) [
      | inl e ↦ w.pushed (u % 64) v (omega arith) (at_word front k u e ∙ f) (ap (λ (x : ℕ). joins x v) (place k u e) ∙ j)
      | inr ne ↦ elim (cases_Bool (now' v)) [
        | inl t ↦ let g = h.pushed u v (omega arith) f j in let s = w.fewer v t in absurd (grind (arith, g, s))
        | inr s ↦ s
      ]
    ];
  }

  pub front_last : (k : ℕ) (now : ℕ → Bool) → length front ≤ k → PushingFront joins front k before now → IsLooked joins (bit_of front) before now
  front_last k now all h = record {
    fewer = h.fewer;
    found = h.found;
    none = λ u v f j. elim (cases_lt (u / 64) k) [
      | inl lt ↦ h.pushed u v lt f j
      | inr ge ↦ let g = past front u (omega (arith, ge, all)) in absurd (grind (arith, f, g))
    ];
  }
