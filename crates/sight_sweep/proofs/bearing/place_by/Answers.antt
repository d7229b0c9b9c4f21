use Rattle.std.proofs.Common.{◌∙◌, sym, ap}
use Rattle.turn_laws.specs.Places.{place_of}
use Rattle.apart_laws.proofs.Plans.{points_same}
use Rattle.sight_sweep.proofs.bearing.place_by.Goals as goal

pub returns-then-same_point : goal.returns-then-same_point
returns-then-same_point c = c.place.ensures
    ∙ ap place_of (sym c.way.ensures
    ∙ points_same c.way.result c.args.d (sym c.same_point.ensures ∙ c.if-same_point.true))
