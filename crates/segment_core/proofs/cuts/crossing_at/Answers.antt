use Rattle.std.proofs.Common.{◌≡◌, ap, ◌∙◌, rules, w64}
use Rattle.std.specs.Prelude.{FitsSigned}
use Rattle.std.proofs.lemmas.Int.{to_z-of_z}
use Rattle.plane_spec.specs.Fractions.{fraction}
use Rattle.plane_spec.specs.Vectors.{vector, cross_of}
use Rattle.segment_core.proofs.cuts.crossing_at.Goals as goal

pub returns : goal.returns
returns c =
    let r = c.args.r.now in
    let q = c.args.q.now in
    let first_fits : FitsSigned w64 c.cross_product.result = search rules in
    let second_fits : FitsSigned w64 c.cross_product-2.result = search rules in
    let made : c.ratio.result ≡ fraction c.cross_product.result c.cross_product-2.result = simp to_z-of_z at
    c.ratio.ensures in
    let first : c.cross_product.result ≡ cross_of (vector r.from q.from) (vector q.from q.to) =
    c.cross_product.ensures.value ∙ ap (λ d. cross_of d c.vector-e.result) c.vector.ensures.value
    ∙ ap (λ e. cross_of (vector r.from q.from) e) c.vector-e.ensures.value in
    let second : c.cross_product-2.result ≡ cross_of (vector r.from r.to) (vector q.from q.to) =
    c.cross_product-2.ensures.value ∙ ap (λ d. cross_of d c.vector-e.result) c.vector-2.ensures.value
    ∙ ap (λ e. cross_of (vector r.from r.to) e) c.vector-e.ensures.value in
    made ∙ ap (λ n. fraction n c.cross_product-2.result) first
    ∙ ap (λ n. fraction (cross_of (vector r.from q.from) (vector q.from q.to)) n) second
