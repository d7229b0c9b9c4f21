-- A test cannot both fail and pass.
use Rattle.std.specs.Prelude.{Bool, false, true}
use Rattle.std.proofs.Common.{◌≡◌, sym, ◌∙◌}

pub clash : {t : Bool} → t ≡ false → t ≡ true → ⊥
clash h i = let absurdity : true ≡ false = sym i ∙ h in cc
