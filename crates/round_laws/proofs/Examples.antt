-- What is open and spanned round the circle, by computing.
use Rattle.std.proofs.Common.{◌≡◌, refl}
use Rattle.std.specs.Prelude.{true, false}
use Rattle.round_laws.specs.Rounds.{is_open_at, is_spanned_at}

-- a blocker that begins at 3 and ends at 7 is open just before 4 and just before 7, not before 3 or 8
opened : is_open_at 3 7 4 ≡ true
opened = refl

open_to_its_end : is_open_at 3 7 7 ≡ true
open_to_its_end = refl

not_open_yet : is_open_at 3 7 3 ≡ false
not_open_yet = refl

open_no_more : is_open_at 3 7 8 ≡ false
open_no_more = refl

-- one that passes 0, from 7 to 3, is open before 0 and before 8, not before 4
open_before_all : is_open_at 7 3 0 ≡ true
open_before_all = refl

open_again : is_open_at 7 3 8 ≡ true
open_again = refl

closed_between : is_open_at 7 3 4 ≡ false
closed_between = refl

-- at its own ends a blocker is open just before, but not spanned
not_at_its_first : is_spanned_at 3 7 3 ≡ false
not_at_its_first = refl

not_at_its_last : is_spanned_at 3 7 7 ≡ false
not_at_its_last = refl

between_them : is_spanned_at 3 7 5 ≡ true
between_them = refl
