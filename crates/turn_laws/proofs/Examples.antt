-- Places of some directions, and what is between two, by computing.
use Rattle.std.proofs.Common.{◌≡◌, pos, neg_ℤ, refl}
use Rattle.std.specs.Prelude.{true, false}
use Rattle.plane_spec.specs.Vectors.{point}
use Rattle.turn_laws.specs.Places.{place_of}
use Rattle.turn_laws.specs.Turns.{among_by}

-- quarter turns, half a quarter turn, and a direction just after (1,0)
east : place_of (point (pos 1) (pos 0)) ≡ 0
unfolding place_of
east = refl

north_east : place_of (point (pos 3) (pos 3)) ≡ 549755813888
unfolding place_of
north_east = refl

north : place_of (point (pos 0) (pos 2)) ≡ 1099511627776
unfolding place_of
north = refl

west : place_of (point (neg_ℤ (pos 5)) (pos 0)) ≡ 2199023255552
unfolding place_of
west = refl

south : place_of (point (pos 0) (neg_ℤ (pos 1))) ≡ 3298534883328
unfolding place_of
south = refl

just_left : place_of (point (pos 400000) (pos 1)) ≡ 2748772
unfolding place_of
just_left = refl

-- between two directions of which the first turns before the second, both tests must pass; else one is enough
in_turn : among_by true true false ≡ false
in_turn = refl

wrapped : among_by false true false ≡ true
wrapped = refl
