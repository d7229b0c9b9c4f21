-- What it is for the runs round a point, and for the triangles of its isovist, to overlap nowhere.
use Rattle.std.specs.Prelude.{◌≡◌, pos, int_lt, Bool, false, ◌&&◌}
use Rattle.plane_spec.specs.declared.Point.{Point}
use Rattle.plane_spec.specs.Fractions.{RPoint, whole_point}
use Rattle.plane_spec.specs.RPoints.{orient_of_rpoints}
use Rattle.sight_spec.specs.Isovist.{Run, Triangle}
use Rattle.isovist_laws.specs.Spans.{lies_between}

-- no direction lies strictly between the two of r and strictly between the two of s
abbrev pub AreRunsApart : Run → Run → Type 0
AreRunsApart r s = (d : Point) → (lies_between r.from r.to d && lies_between s.from s.to d) ≡ false

-- q lies strictly inside the triangle t of p: left of the line from p to t's corner `from`, right of the one from p
-- to its corner `to`, and left of the one from `from` to `to`
abbrev pub lies_inside : Point → Triangle → RPoint → Bool
lies_inside p t q =
    int_lt (pos 0) (orient_of_rpoints (whole_point p) t.from q)
    && (int_lt (orient_of_rpoints (whole_point p) t.to q) (pos 0) && int_lt (pos 0) (orient_of_rpoints t.from t.to q))

-- no place lies strictly inside both triangles of p
abbrev pub AreTrianglesApart : Point → Triangle → Triangle → Type 0
AreTrianglesApart p s t = (q : RPoint) → (lies_inside p s q && lies_inside p t q) ≡ false
