use Rattle.std.proofs.Common.{◌≡◌, ◌<◌, ◌/◌, length, ◌∙◌, List, ℕ, ◌||◌, ap}
use Rattle.std.proofs.lemmas.List.{take_at}
use Rattle.vga_grid.specs.Rows.{width, bit_in, is_pair}
use Rattle.vga_grid.proofs.Rows.{joined_pair, still_rows}
use Rattle.vga_grid.proofs.bit_graph.BitGraph.join_pair.Goals.{After-self-1}
use Rattle.vga_grid.proofs.bit_graph.BitGraph.join_pair.Goals as goal

bits : (c : After-self-1) → (a b : ℕ) → b / 64 < width c.self.inside.count
    → bit_in c.set_pair.new.words c.self.inside.count a b ≡ (bit_in c.self.inside.words.items c.self.inside.count a b || is_pair c.args.i c.args.j a b)
bits c a b hb = c.set_pair.ensures.bits a b hb ∙ ap (λ (ws : List ℕ). bit_in ws c.self.inside.count a b || is_pair c.args.i c.args.j a b) c.deref_mut.ensures.value

kept : (c : After-self-1) → length c.set_pair.new.words ≡ length c.self.inside.words.items
kept c = c.set_pair.auto.words ∙ ap length c.deref_mut.ensures.value

i_in : (c : After-self-1) → c.args.i < c.self.inside.count
i_in c = rw (← c.self.view_is) at c.requires.i_in

j_in : (c : After-self-1) → c.args.j < c.self.inside.count
j_in c = rw (← c.self.view_is) at c.requires.j_in

pub invariant_of-self : goal.invariant_of-self
invariant_of-self c =
    let l : length c.set_pair.new.words ≡ c.self.inside.words.len = c.set_pair.auto.words ∙ c.deref_mut.ensures.len in
    rw (take_at c.set_pair.new.words _ c.self.inside.words.len l)
    (still_rows c.self.inside.count c.args.i c.args.j c.self.inside.words.items c.set_pair.new.words (i_in c) (j_in c) (bits c) c.requires.apart (kept c) c.self.invariant)

pub returns-clause-joined : goal.returns-clause-joined
returns-clause-joined c =
    let l : length c.set_pair.new.words ≡ c.self.inside.words.len = c.set_pair.auto.words ∙ c.deref_mut.ensures.len in
    rw (take_at c.set_pair.new.words _ c.self.inside.words.len l, ← c.self.view_is)
    (joined_pair c.self.inside.count c.args.i c.args.j c.self.inside.words.items c.set_pair.new.words (i_in c) (j_in c) (bits c))

pub returns-clause-simple : goal.returns-clause-simple
returns-clause-simple c =
    let l : length c.set_pair.new.words ≡ c.self.inside.words.len = c.set_pair.auto.words ∙ c.deref_mut.ensures.len in
    rw (take_at c.set_pair.new.words _ c.self.inside.words.len l)
    (still_rows c.self.inside.count c.args.i c.args.j c.self.inside.words.items c.set_pair.new.words (i_in c) (j_in c)
    (bits c) c.requires.apart (kept c) c.self.invariant).simple
