use Rattle.std.proofs.Common.{◌≡◌, length, ◌+◌, Some, sym, ap, ◌∙◌}
use Rattle.std.specs.List.{position}
use Rattle.sight_core.specs.Hits.{is_hit_by}
use Rattle.sight_core.proofs.NearWall.{number_of_none, number_in_walls, number_in_screens, number_in_neither}
use Rattle.sight_core.proofs.stops.near_wall.Goals as goal

pub returns-in-None-clause-nearest : goal.returns-in-None-clause-nearest
returns-in-None-clause-nearest c = sym (number_of_none c.args.scene.now c.args.p c.args.d (cc))

pub returns-in-Some-first_hit_by-clause-nearest : goal.returns-in-Some-first_hit_by-clause-nearest
returns-in-Some-first_hit_by-clause-nearest c =
    let walls = ap (λ t. position (is_hit_by c.args.p c.args.d c.in-Some.nearest) t) c.walls-walls.ensures.walls in
    sym (number_in_walls c.args.scene.now c.args.p c.args.d c.in-Some.nearest c.in-Some-first_hit_by.k (cc) (cc))

pub returns-in-Some-first_hit_by-2-clause-nearest : goal.returns-in-Some-first_hit_by-2-clause-nearest
returns-in-Some-first_hit_by-2-clause-nearest c =
    let walls = ap (λ t. position (is_hit_by c.args.p c.args.d c.in-Some.nearest) t) c.walls-walls.ensures.walls in
    let screens = ap (λ t. position (is_hit_by c.args.p c.args.d c.in-Some.nearest) t) c.screens-screens.ensures.screens in
    let k = c.in-Some-first_hit_by-2.k in
    ap (λ t. Some (length t + k)) c.walls-walls.ensures.walls
    ∙ sym (number_in_screens c.args.scene.now c.args.p c.args.d c.in-Some.nearest k (cc) (cc) (cc))

pub returns-in-None-first_hit_by-2-clause-nearest : goal.returns-in-None-first_hit_by-2-clause-nearest
returns-in-None-first_hit_by-2-clause-nearest c =
    let walls = ap (λ t. position (is_hit_by c.args.p c.args.d c.in-Some.nearest) t) c.walls-walls.ensures.walls in
    let screens = ap (λ t. position (is_hit_by c.args.p c.args.d c.in-Some.nearest) t) c.screens-screens.ensures.screens in
    sym (number_in_neither c.args.scene.now c.args.p c.args.d c.in-Some.nearest (cc) (cc) (cc))
