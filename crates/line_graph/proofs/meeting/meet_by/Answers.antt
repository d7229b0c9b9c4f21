use Rattle.std.proofs.Common.{◌∙◌, sym, FitsSigned, w64}
use Rattle.std.proofs.lemmas.Int.{to_z-of_z}
use Rattle.line_graph.proofs.Meetings.{meets_left, meets_right, meets_in_line, meets_aside}
use Rattle.line_graph.proofs.meeting.meet_by.Goals as goal

pub returns-then-is_positive : goal.returns-then-is_positive
returns-then-is_positive c =
    let fits_t : FitsSigned w64 c.args.t = c.ranges.t in
    let fits_u : FitsSigned w64 c.args.u = c.ranges.u in
    let fits_k : FitsSigned w64 c.args.k = c.ranges.k in
    let r = simp to_z-of_z at c.do_reach.ensures in
    let e = simp to_z-of_z at c.is_positive.ensures in
    r ∙ meets_left c.args.a.now c.args.b.now c.args.l.now c.args.m.now c.args.t c.args.u c.args.k c.requires.a_of
    c.requires.b_of c.requires.t_is c.requires.u_is c.requires.k_is (sym e ∙ c.if-is_positive.true)

pub returns-then-is_negative : goal.returns-then-is_negative
returns-then-is_negative c =
    let fits_t : FitsSigned w64 c.args.t = c.ranges.t in
    let fits_u : FitsSigned w64 c.args.u = c.ranges.u in
    let fits_k : FitsSigned w64 c.args.k = c.ranges.k in
    let r = simp to_z-of_z at c.do_reach_turned.ensures in
    let e = simp to_z-of_z at c.is_negative.ensures in
    r ∙ meets_right c.args.a.now c.args.b.now c.args.l.now c.args.m.now c.args.t c.args.u c.args.k c.requires.a_of
    c.requires.b_of c.requires.t_is c.requires.u_is c.requires.k_is (sym e ∙ c.if-is_negative.true)

pub returns-then-is_zero : goal.returns-then-is_zero
returns-then-is_zero c =
    let fits_u : FitsSigned w64 c.args.u = c.ranges.u in
    let fits_k : FitsSigned w64 c.args.k = c.ranges.k in
    let e = simp to_z-of_z at c.is_positive.ensures in
    let f = simp to_z-of_z at c.is_negative.ensures in
    let g = simp to_z-of_z at c.is_zero.ensures in
    c.do_overlap.ensures
    ∙ meets_in_line c.args.a.now c.args.b.now c.args.l.now c.args.m.now c.args.u c.args.k c.requires.a_of
    c.requires.b_of
    c.requires.u_is c.requires.k_is (sym e ∙ c.if-is_positive.false) (sym f ∙ c.if-is_negative.false)
    (sym g ∙ c.if-is_zero.true)

pub returns-else-is_zero : goal.returns-else-is_zero
returns-else-is_zero c =
    let fits_u : FitsSigned w64 c.args.u = c.ranges.u in
    let fits_k : FitsSigned w64 c.args.k = c.ranges.k in
    let e = simp to_z-of_z at c.is_positive.ensures in
    let f = simp to_z-of_z at c.is_negative.ensures in
    let g = simp to_z-of_z at c.is_zero.ensures in
    meets_aside c.args.a.now c.args.b.now c.args.l.now c.args.m.now c.args.u c.args.k c.requires.a_of c.requires.b_of
    c.requires.u_is c.requires.k_is (sym e ∙ c.if-is_positive.false) (sym f ∙ c.if-is_negative.false)
    (sym g ∙ c.if-is_zero.false)
