-- Steps along a segment, and the edges that they meet.
use Rattle.std.specs.Prelude.{ℕ, ◌+◌, ◌≡◌, ◌⊎◌, true}
use Rattle.plane_spec.specs.declared.Point.{Point}
use Rattle.plane_spec.specs.declared.Segment.{Segment}
use Rattle.plane_spec.specs.Segments.{is_on_segment, do_touch}
use Rattle.plane_laws.specs.Enlarged.{enlarged, part_way}

-- in the plane n times as large: where the edge touches the step of number i of n from p to q, an end of the step is
-- on it
abbrev pub MeetsAtEnds : ℕ → ℕ → Point → Point → Segment → Type 0
MeetsAtEnds n i p q e =
    do_touch (enlarged n e.a) (enlarged n e.b) (part_way i n p q) (part_way (i + 1) n p q) ≡ true
    → (is_on_segment (part_way i n p q) (enlarged n e.a) (enlarged n e.b) ≡ true)
    ⊎ (is_on_segment (part_way (i + 1) n p q) (enlarged n e.a) (enlarged n e.b) ≡ true)
