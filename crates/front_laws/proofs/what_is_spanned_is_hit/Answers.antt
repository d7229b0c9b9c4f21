use Rattle.front_laws.proofs.Hits.{hit_is_where, crosses_where}
use Rattle.front_laws.proofs.what_is_spanned_is_hit.Goals as goal

pub returns-clause-hit : goal.returns-clause-hit
returns-clause-hit c = hit_is_where

pub returns-clause-crossed : goal.returns-clause-crossed
returns-clause-crossed c = crosses_where
