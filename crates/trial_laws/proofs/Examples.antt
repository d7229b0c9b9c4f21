-- Worked examples: cells and boxes by hand.
use Rattle.std.proofs.Common.{◌≡◌, refl, pos, [], ◌∷◌}
use Rattle.std.specs.Prelude.{codes}
use Rattle.std.specs.Fmt.{digits}
use Rattle.plane_spec.specs.Vectors.{point}
use Rattle.plan_spec.specs.declared.item.Item.TheVariants.{Obstacle}
use Rattle.report_spec.specs.Trial.{trial_box, root_above}
use Rattle.trial_laws.specs.Cells.{cell_low, cell_high}

-- 250 boxes have 16 by 16 cells, 225 boxes 15 by 15
most : root_above 250 ≡ 16
most = refl

just_enough : root_above 225 ≡ 15
just_enough = refl

-- of 2 by 2 cells, number 3 is the one to the upper right
low : cell_low 2 3 ≡ point (pos 100) (pos 100)
low = refl

high : cell_high 2 3 ≡ point (pos 200) (pos 200)
high = refl

-- and its box is in it
box : trial_box 2 3
    ≡ Obstacle (codes "b3")
    (point (pos 120) (pos 115) ∷ point (pos 160) (pos 115) ∷ point (pos 160) (pos 155) ∷ point (pos 120) (pos 155) ∷
    [])
unfolding digits
box = refl
