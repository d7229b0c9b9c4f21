use Rattle.std.specs.Prelude.{ℕ, List, not}
use Rattle.std.specs.Str.{bytes_eq}
use Rattle.std.proofs.Common.{refl, rules}
use Rattle.indexmap.proofs.CallerLemmas.{filter-RetainsPairs}
use Rattle.plane_spec.specs.declared.Segment.{Segment}
use Rattle.plan_spec.specs.Plan.{is_screen_named}
use Rattle.plan_check.specs.Kept.{screen_of_entry}
use Rattle.plan_check.proofs.Tables.{others_kept}
use Rattle.plan_check.proofs.draft.Draft.remove_screen.Goals as goal

pub returns : goal.returns
returns c =
    let kept = filter-RetainsPairs _ (λ (e : List ℕ × Segment). not (bytes_eq e.0 c.args.name.now)) _ (λ k v b w g call. search rules) _ _ c.retain.ensures.filtered in
    rw (kept, others_kept screen_of_entry (is_screen_named c.args.name.now) c.args.name.now (λ e. refl) c.self.inside.screens.entries, ← c.self.view_is) refl
