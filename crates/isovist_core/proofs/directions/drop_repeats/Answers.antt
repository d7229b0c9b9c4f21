use Rattle.std.proofs.Common.{rules}
use Rattle.std.proofs.lemmas.Fn.{dedup_same}
use Rattle.isovist_core.specs.Headings.{tied}
use Rattle.isovist_core.proofs.directions.drop_repeats.Goals as goal

pub returns : goal.returns
returns c = dedup_same _ tied _ (λ x y b f' x' y' k. search rules) _ _ c.dedup_by.ensures.filtered
