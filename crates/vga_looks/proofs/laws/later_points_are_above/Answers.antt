use Rattle.vga_looks.proofs.Later.{later_is_upper}
use Rattle.vga_looks.proofs.laws.later_points_are_above.Goals as goal

pub returns : goal.returns
returns c = later_is_upper
