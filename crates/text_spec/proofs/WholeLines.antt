-- All lines, and those that a newline ends.
use Rattle.std.proofs.Common.{◌≡◌, ℕ, List, [], ◌∷◌, ◌++◌, refl, ap}
use Rattle.std.specs.List.{slice_split}
use Rattle.text_spec.specs.Lines.{without_empty_last, without_last, last_unless_empty, is_newline, lines_of, whole_lines_of, unended_line_of}

parted : (parts : List (List ℕ)) → without_empty_last parts ≡ without_last parts ++ last_unless_empty parts
unfolding without_empty_last without_last last_unless_empty
parted [] = refl
parted (part ∷ []) = refl
parted (part ∷ next ∷ parts) = ap (λ lines. part ∷ lines) (parted (next ∷ parts))

pub whole_and_unended : (bytes : List ℕ) → lines_of bytes ≡ whole_lines_of bytes ++ unended_line_of bytes
whole_and_unended bytes = parted (slice_split is_newline bytes)
