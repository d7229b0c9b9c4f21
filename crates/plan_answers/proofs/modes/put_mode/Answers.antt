use Rattle.plan_answers.proofs.Shown.{prefix_by, refused_by, written_by}
use Rattle.plan_answers.proofs.modes.put_mode.Goals as goal

pub returns-in-Vga-clause-written : goal.returns-in-Vga-clause-written
returns-in-Vga-clause-written g c =
    rw c.in-Vga.is (written_by _ _ _ _ _ c.put_vga.result c.put_vga.ensures.answers)

pub returns-in-Vga-clause-refused : goal.returns-in-Vga-clause-refused
returns-in-Vga-clause-refused g c =
    rw c.in-Vga.is (refused_by _ _ _ _ _ c.put_vga.result c.put_vga.ensures.answers)

pub returns-in-Vga-clause-prefix : goal.returns-in-Vga-clause-prefix
returns-in-Vga-clause-prefix g c =
    rw c.in-Vga.is (prefix_by _ _ _ _ _ c.put_vga.result c.put_vga.ensures.answers)

pub returns-in-Isovists-clause-written : goal.returns-in-Isovists-clause-written
returns-in-Isovists-clause-written g c =
    rw c.in-Isovists.is (written_by _ _ _ _ _ c.put_all_isovists.result c.put_all_isovists.ensures.answers)

pub returns-in-Isovists-clause-refused : goal.returns-in-Isovists-clause-refused
returns-in-Isovists-clause-refused g c =
    rw c.in-Isovists.is (refused_by _ _ _ _ _ c.put_all_isovists.result c.put_all_isovists.ensures.answers)

pub returns-in-Isovists-clause-prefix : goal.returns-in-Isovists-clause-prefix
returns-in-Isovists-clause-prefix g c =
    rw c.in-Isovists.is (prefix_by _ _ _ _ _ c.put_all_isovists.result c.put_all_isovists.ensures.answers)

pub returns-in-AxialMap-clause-written : goal.returns-in-AxialMap-clause-written
returns-in-AxialMap-clause-written g c =
    rw c.in-AxialMap.is (written_by _ _ _ _ _ c.put_axial_map.result c.put_axial_map.ensures.answers)

pub returns-in-AxialMap-clause-refused : goal.returns-in-AxialMap-clause-refused
returns-in-AxialMap-clause-refused g c =
    rw c.in-AxialMap.is (refused_by _ _ _ _ _ c.put_axial_map.result c.put_axial_map.ensures.answers)

pub returns-in-AxialMap-clause-prefix : goal.returns-in-AxialMap-clause-prefix
returns-in-AxialMap-clause-prefix g c =
    rw c.in-AxialMap.is (prefix_by _ _ _ _ _ c.put_axial_map.result c.put_axial_map.ensures.answers)

pub returns-in-Segments-clause-written : goal.returns-in-Segments-clause-written
returns-in-Segments-clause-written g c =
    rw c.in-Segments.is (written_by _ _ _ _ _ c.put_pieces.result c.put_pieces.ensures.answers)

pub returns-in-Segments-clause-refused : goal.returns-in-Segments-clause-refused
returns-in-Segments-clause-refused g c =
    rw c.in-Segments.is (refused_by _ _ _ _ _ c.put_pieces.result c.put_pieces.ensures.answers)

pub returns-in-Segments-clause-prefix : goal.returns-in-Segments-clause-prefix
returns-in-Segments-clause-prefix g c =
    rw c.in-Segments.is (prefix_by _ _ _ _ _ c.put_pieces.result c.put_pieces.ensures.answers)

pub returns-in-Check-clause-written : goal.returns-in-Check-clause-written
returns-in-Check-clause-written g c =
    rw c.in-Check.is (written_by _ _ _ _ _ c.put_text_of.result c.put_text_of.ensures.answers)

pub returns-in-Check-clause-refused : goal.returns-in-Check-clause-refused
returns-in-Check-clause-refused g c =
    rw c.in-Check.is (refused_by _ _ _ _ _ c.put_text_of.result c.put_text_of.ensures.answers)

pub returns-in-Check-clause-prefix : goal.returns-in-Check-clause-prefix
returns-in-Check-clause-prefix g c =
    rw c.in-Check.is (prefix_by _ _ _ _ _ c.put_text_of.result c.put_text_of.ensures.answers)
