-- Orders of elements, given by tests, and lists in order.
use Rattle.std.specs.Prelude.{◌≡◌, Bool, true, false, ⊤, List, [], ◌∷◌}
use Rattle.std.specs.List.{All}

-- x comes before y, and y not before x
pub record IsBefore {X : Type 0} (before : X → X → Bool) (x y : X) : Type 0 where
  pub forth : before x y ≡ true
  pub not_back : before y x ≡ false

-- each element comes before all those after it
abbrev pub IsRising : {X : Type 0} → (X → X → Bool) → List X → Type 0
IsRising before [] = ⊤
IsRising before (x ∷ xs) = All (IsBefore before x) xs × IsRising before xs

-- among the elements with Q the test orders by a value, which several may share: what comes before one that isn't above
-- a third comes before the third
pub record IsWeakOrder {X : Type 0} (Q : X → Type 0) (before : X → X → Bool) : Type 0 where
  pub one_way : (x y : X) → before x y ≡ true → before y x ≡ false
  pub through : (x y z : X) → Q x → Q y → Q z → before x y ≡ true → before z y ≡ false → before x z ≡ true
