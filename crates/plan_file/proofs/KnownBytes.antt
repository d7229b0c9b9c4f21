-- Bytes that are known.
use Rattle.std.proofs.Common.{◌≡◌, ◌≤◌, ℕ, List, [], ◌++◌, length, length-append, append-nil, Option, Some, None, IfSome, refl, ap, sym, ◌∙◌, arith}
use Rattle.dm_io.specs.Streams.{IsIfKnown, IsPrefix}

same_bytes : (a b : List ℕ) → Some a ≡ Some b → a ≡ b
same_bytes a b e = cc

no_bytes : (a : List ℕ) → Some a ≡ None → ⊥
no_bytes a e = cc

-- what was taken of known bytes isn't longer than they are
pub prefix-at_most : (known bytes : List ℕ) (left : Option (List ℕ)) → IsPrefix (Some known) bytes left → length bytes ≤ length known
prefix-at_most known bytes None taken = absurd (no_bytes known taken)
prefix-at_most known bytes (Some rest) taken =
    omega (arith, ap length (same_bytes known (bytes ++ rest) taken), length-append bytes rest)

-- what was taken to the end is all
pub whole-known : (known bytes : List ℕ) (left : Option (List ℕ)) → IsPrefix (Some known) bytes left → IsIfKnown [] left → bytes ≡ known
whole-known known bytes None taken ended = absurd (no_bytes known taken)
whole-known known bytes (Some rest) taken ended =
    sym (same_bytes known (bytes ++ rest) taken ∙ ap (λ r. bytes ++ r) ended ∙ append-nil bytes)

-- where bytes are known, what holds of those that they are
pub if_known : (known : Option (List ℕ)) (P : List ℕ → Type 0) → ((bytes : List ℕ) → known ≡ Some bytes → P bytes) → IfSome known P
if_known None P f = tt
if_known (Some bytes) P f = f bytes refl
