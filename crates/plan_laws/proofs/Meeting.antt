-- Whether two polygons meet doesn't depend on which is named first.
use Rattle.std.specs.Prelude.{◌≡◌, ◌||◌, List}
use Rattle.std.specs.List.{list_any}
use Rattle.std.proofs.Common.{ap, ◌∙◌}
use Rattle.std.proofs.Math.Bool.{or_comm}
use Rattle.plane_spec.specs.declared.Point.{Point}
use Rattle.plane_spec.specs.Polygons.{edges_of, edges_touch, borders_touch, is_inside}
use Rattle.plane_spec.proofs.Laws.{touching_is_symmetric}
use Rattle.plan_spec.specs.Accepted.{polygons_meet}
use Rattle.list_laws.proofs.Tests.{list_any_agree, list_any_turned}

pub borders_turned : (points others : List Point) → borders_touch points others ≡ borders_touch others points
borders_turned points others =
    list_any_turned edges_touch (edges_of points) (edges_of others)
    ∙ list_any_agree (λ f. list_any (λ e. edges_touch e f) (edges_of points)) (λ f. list_any (edges_touch f) (edges_of points))
    (λ f. list_any_agree (λ e. edges_touch e f) (edges_touch f) (λ e. touching_is_symmetric e.a e.b f.a f.b) (edges_of points))
    (edges_of others)

pub meeting_turned : (points others : List Point) → polygons_meet points others ≡ polygons_meet others points
unfolding polygons_meet
meeting_turned points others =
    ap (λ t. t || (list_any (λ p. is_inside p others) points || list_any (λ p. is_inside p points) others)) (borders_turned points others)
    ∙ ap (λ t. borders_touch others points || t) (or_comm (list_any (λ p. is_inside p others) points) (list_any (λ p. is_inside p points) others))
