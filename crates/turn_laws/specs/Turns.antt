-- Directions in their order round the circle, and the direction just after one.
use Rattle.std.specs.Prelude.{ℤ, pos, ◌+ℤ◌, ◌-ℤ◌, ◌*ℤ◌, ◌<ℤ◌, ◌≡◌, Bool, ◌&&◌, ◌||◌, if◌then◌else◌}
use Rattle.plane_spec.specs.Vectors.{cross_of, dot_of, turns_before}
use Rattle.plane_spec.specs.declared.Point.{Point}
use Rattle.front_laws.specs.Seen.{Seen}

-- ---- between two directions

-- by three tests of order, of which the first says whether the way from s to e passes (1,0)
abbrev pub among_by : Bool → Bool → Bool → Bool
among_by se sd de = if se then (sd && de) else (sd || de)

-- d comes strictly between s and e, counterclockwise and round the circle
abbrev pub is_among : Point → Point → Point → Bool
is_among s d e = among_by (turns_before s e) (turns_before s d) (turns_before d e)

-- ---- one direction

-- both vectors lead in one direction
pub record AreOneWay (a b : Point) : Type 0 where
  pub line : cross_of a b ≡ pos 0
  pub forward : pos 0 <ℤ dot_of a b

-- ---- just after a direction

-- n times s, and a little to its left
abbrev pub after : ℤ → Point → Point
after n s = record { x = n *ℤ s.x -ℤ s.y; y = n *ℤ s.y +ℤ s.x }

-- the direction just after s: so little to its left that no direction of a plan is between them
abbrev pub just_after : Point → Point
just_after s = after (pos 1000000000000) s

-- s is left of a, or leads in its direction
pub data ReachesFrom (a s : Point) : Type 0 where
  right : pos 0 <ℤ cross_of a s → ReachesFrom a s
  same : cross_of a s ≡ pos 0 → pos 0 <ℤ dot_of a s → ReachesFrom a s

-- the blocker begins in direction s or before it, and ends after it
pub record GoesOnFrom (s : Point) (w : Seen) : Type 0 where
  pub begins : ReachesFrom w.from s
  pub ends : pos 0 <ℤ cross_of s w.to
