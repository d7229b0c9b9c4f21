-- Lists without some of their elements.
use Rattle.std.specs.Prelude.{List, [], ◌∷◌}

-- the second list is the first one without some elements, of each of which P holds
pub data Dropped {X : Type 0} (P : X → Type 0) : List X → List X → Type 0 where
  done : Dropped P [] []
  keep : (x : X) (xs ys : List X) → Dropped P xs ys → Dropped P (x ∷ xs) (x ∷ ys)
  drop : (x : X) (xs ys : List X) → P x → Dropped P xs ys → Dropped P (x ∷ xs) ys
