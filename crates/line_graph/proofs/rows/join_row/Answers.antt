use Rattle.std.proofs.Common.{◌≡◌, ◌∙◌, ◌||◌, ◌&&◌, ◌==◌, ◌<◌, ◌+◌, ℕ, List, Bool, false, true, refl, sym, ap, get_or, length, take}
use Rattle.vga_grid.specs.Rows.{is_joined}
use Rattle.line_graph.specs.Rows.{do_meet_at, has_number}
use Rattle.line_graph.proofs.Joins.{has_more, joined_more, passed_more}
use Rattle.line_graph.proofs.rows.join_row.Goals.{then-do_meet_at, else-do_meet_at}
use Rattle.line_graph.proofs.rows.join_row.Goals as goal

-- the answer with what is listed before and the next number
one_listed : (before here meets : Bool) (near : List ℕ) (m k b : ℕ) (now : Bool) → m < length near → k ≡ get_or near m 0
    → now ≡ (before || (here && ((has_number (take m near) b || (k == b)) && meets)))
    → now ≡ (before || (here && (has_number (take (m + 1) near) b && meets)))
one_listed before here meets near m k b now below is e =
    e ∙ ap (λ t. before || (here && (t && meets))) (sym (has_more near m k b below is))

pub loop-k-preserved : goal.loop-k-preserved
loop-k-preserved c =
    let lines = c.args.lines.now in
    let near = c.args.near.now in
    let i = c.args.i in
    let m = c.loop-k.k-index in
    let k = get_or near m 0 in
    let old = c.args.graph.now in
    let before = c.loop-k.invariant in
    let rises = (c.requires.near_in m c.loop-k-test.true).0 in
    elim c.if-do_meet_at.branch [
      | then-do_meet_at w ↦
          let hit = sym c.do_meet_at.ensures ∙ w.if-do_meet_at.true in
          let after = w.join_pair.ensures in
          rw w.graph-is (record {
            nodes = after.count ∙ before.nodes;
            simple = after.simple;
            joined = λ a b up.
                one_listed (is_joined old a b) (a == i) (do_meet_at lines i b) near m k b _ c.loop-k-test.true refl
                (joined_more (do_meet_at lines i) i k a b rises up (is_joined old a b) _ (has_number (take m near) b)
                (is_joined c.loop-k.graph a b) hit (before.joined a b up) (after.joined a b));
          })
      | else-do_meet_at w ↦
          let miss = sym c.do_meet_at.ensures ∙ w.if-do_meet_at.false in
          rw w.graph-is (record {
            nodes = before.nodes;
            simple = before.simple;
            joined = λ a b up.
                one_listed (is_joined old a b) (a == i) (do_meet_at lines i b) near m k b _ c.loop-k-test.true refl
                (passed_more (do_meet_at lines i) i k a b rises up (is_joined old a b) (has_number (take m near) b)
                (is_joined c.loop-k.graph a b) miss (before.joined a b up));
          })
    ]

pub loop-k-init : goal.loop-k-init
loop-k-init c = record {
  nodes = c.requires.nodes;
  simple = c.requires.simple;
  joined = λ a b up. nothing (is_joined c.args.graph.now a b) (a == c.args.i);
}
  where
    nothing : (t u : Bool) → t ≡ (t || (u && false))
    nothing true u = refl
    nothing false true = refl
    nothing false false = refl
