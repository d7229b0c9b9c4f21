use Rattle.line_graph.proofs.rows.do_meet_at.Goals as goal

pub do_meet-requires-clause-a_of : goal.do_meet-requires-clause-a_of
do_meet-requires-clause-a_of c =
    c.requires.measured.each c.args.i c.index-stretches-i.result c.index-lines-i.result c.requires.i_in
    c.index-stretches-i.is c.index-lines-i.is

pub do_meet-requires-clause-b_of : goal.do_meet-requires-clause-b_of
do_meet-requires-clause-b_of c =
    c.requires.measured.each c.args.j c.index-stretches-j.result c.index-lines-j.result c.requires.j_in
    c.index-stretches-j.is c.index-lines-j.is
