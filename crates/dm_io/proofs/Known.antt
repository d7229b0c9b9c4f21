-- Beginnings and ends of bytes that are known.
use Rattle.std.proofs.Common.{◌≡◌, ◌+◌, ℕ, List, [], ◌++◌, take, drop, Option, Some, None, refl, sym, ap, ◌∙◌, append_assoc, append-nil}
use Rattle.std.proofs.Math.Seq.{take-add}
use Rattle.std.proofs.lemmas.List.{take-append-drop, drop-drop}
use Rattle.dm_io.specs.Streams.{appended_to, prepended_to}

pub appended_to-nothing : (old : Option (List ℕ)) → old ≡ appended_to old []
appended_to-nothing None = refl
appended_to-nothing (Some bytes) = ap (λ b. Some b) (sym (append-nil bytes))

-- some bytes of a list were put, and then some more
pub appended_to-more : (old : Option (List ℕ)) (bytes : List ℕ) (done n : ℕ) →
    appended_to (appended_to old (take done bytes)) (take n (drop done bytes)) ≡ appended_to old (take (done + n) bytes)
appended_to-more None bytes done n = refl
appended_to-more (Some known) bytes done n = ap (λ b. Some b) (append_assoc known (take done bytes) (take n (drop done bytes)) ∙ ap (λ b. known ++ b) (sym (take-add done n bytes)))

pub prepended_to-more : (prefix more : List ℕ) (new : Option (List ℕ)) → prepended_to prefix (prepended_to more new) ≡ prepended_to (prefix ++ more) new
prepended_to-more prefix more None = refl
prepended_to-more prefix more (Some rest) = ap (λ b. Some b) (sym (append_assoc prefix more rest))

pub prepended_to-nothing : (new : Option (List ℕ)) → new ≡ prepended_to [] new
prepended_to-nothing None = refl
prepended_to-nothing (Some rest) = refl

-- what was copied to the beginning of a buffer is no longer left
pub moved : (bytes into : List ℕ) (at n : ℕ) → take n into ≡ take n (drop at bytes) → drop at bytes ≡ take n into ++ drop (at + n) bytes
moved bytes into at n same = rw (same, ← drop-drop n at bytes) (sym (take-append-drop n (drop at bytes)))
