-- The field at a place of a record.
use Rattle.std.proofs.Common.{◌≡◌, ◌<◌, ℕ, zero, suc, Bor, List, [], ◌∷◌, length, get_or, Option, Some, None, option_map, IsSome, refl, sym, ap, ◌∙◌, arith, rules}
use Rattle.std.specs.Prelude.{unwrap_or}
use Rattle.csv.specs.Records.{field_at}

found : (fields : List (List ℕ)) (k : ℕ) → k < length fields → field_at fields k ≡ Some (get_or fields k [])
unfolding field_at
found [] k below = absurd (omega arith)
found (field ∷ fields) zero below = refl
found (field ∷ fields) (suc k) below = found fields k (omega arith)

some : (r : Option (Bor (List ℕ))) (x : List ℕ) → option_map (λ s. s.now) r ≡ Some x → IsSome r
some None x e = absurd (cc)
some (Some u) x e = search rules

pub there : (r : Option (Bor (List ℕ))) (fields : List (List ℕ)) (k : ℕ) → k < length fields
    → option_map (λ s. s.now) r ≡ field_at fields k → IsSome r
there r fields k below e = some r (get_or fields k []) (e ∙ found fields k below)

pub value_there : (r : Option (Bor (List ℕ))) (u : Bor (List ℕ)) (fields : List (List ℕ)) (k : ℕ) → k < length fields
    → option_map (λ s. s.now) r ≡ field_at fields k → r ≡ Some u → u.now ≡ get_or fields k []
value_there r u fields k below e is =
    ap (λ o. unwrap_or o []) (sym (ap (option_map (λ s. s.now)) is) ∙ e ∙ found fields k below)
