use Rattle.std.proofs.Common.{◌≡◌, ◌++◌, ◌%◌, length, option_map}
use Rattle.text_spec.specs.Words.{words_of}
use Rattle.grammar_spec.specs.Arguments.{numbers_of, points_of}
use Rattle.plan_text.proofs.polygons.points.Given as goal

-- the points so far, and then those that are left, are all of them
abbrev pub invariant-pairs : goal.invariant-pairs
invariant-pairs l = record {
  read : option_map (λ numbers. l.points ++ points_of numbers) (numbers_of (words_of l.rest)) ≡ option_map points_of (numbers_of (words_of l.words));
  even : length (words_of l.rest) % 2 ≡ 0;
}

abbrev pub decreases-pairs : goal.decreases-pairs
decreases-pairs l = length (words_of l.rest)
