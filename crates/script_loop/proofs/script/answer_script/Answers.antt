use Rattle.std.proofs.Common.{[], ◌∷◌, ◌++◌, false, true, ◌≡◌, ◌||◌, ◌+◌, ◌^◌, ◌-◌, ◌≤◌, ℕ, List, min, ◌∙◌, ◌⊎◌, inl, inr, Bool, arith, ap, refl, sym, subst, option_map}
use Rattle.std.proofs.lemmas.Grind.{common_steps}
use Rattle.dm_io.specs.Reader.{LineRead, lines_read}
use Rattle.dm_io.specs.Streams.{WritesPrefix, appended_to}
use Rattle.script_loop.specs.Steps.{Shows}
use Rattle.script_loop.proofs.Reached.{reached-cut, reached-end, reached-failed, reached-next, reached-over, reached-start, reading_grows}
use Rattle.script_loop.proofs.script.answer_script.Goals.{in-Line, in-Long}
use Rattle.script_loop.proofs.script.answer_script.Goals as goal

or-true : (a b : Bool) → a ≡ true → a ≡ (a || b)
or-true a b e = rw e refl

or-false : (a b : Bool) → a ≡ false → b ≡ (a || b)
or-false a b e = rw e refl

pub lines-init : goal.lines-init
lines-init g c =
    let new = c.new-reader.ensures in
    record {
      reached = (
        [],
        [],
        reached-start g.A.Answerer.step (g.A.Answerer.state c.args.answerer.now) c.new-reader.result
            (g.S.Source.left c.args.script.now) (g.O.Sink.written c.args.out.now) new.waiting new.number new.bytes_read new.goes_on,
      );
      limit = new.limit;
      within = rw (new.bytes_read, new.waiting) (omega arith);
      script_faults = refl;
      out_faults = refl;
    }

pub returns-in-End-clause-leaves : goal.returns-in-End-clause-leaves
returns-in-End-clause-leaves g c =
    let left = g.S.Source.left in
    let written = g.O.Sink.written in
    let state = g.A.Answerer.state in
    let old = c.lines.invariant in
    reached-end g.A.Answerer.step (state c.args.answerer.now) (state c.lines.answerer) c.lines.reader c.next.new.self
    (left c.args.script.now) (left c.lines.script) (left c.next.new.source) (written c.args.out.now) (written c.lines.out)
    c.lines.refused old.reached.0 old.reached.1 c.args.limit old.reached.2 c.in-End.ensures.reads (omega (arith, old.within))

pub returns-in-Failed-clause-leaves : goal.returns-in-Failed-clause-leaves
returns-in-Failed-clause-leaves g c =
    let left = g.S.Source.left in
    let written = g.O.Sink.written in
    let state = g.A.Answerer.state in
    let old = c.lines.invariant in
    let reads = c.in-Failed.ensures.reads in
    reached-failed g.A.Answerer.step (state c.args.answerer.now) (state c.lines.answerer) c.lines.reader c.next.new.self
    (left c.args.script.now) (left c.lines.script) (left c.next.new.source) (written c.args.out.now) (written c.lines.out)
    c.lines.refused old.reached.0 reads.0 old.reached.1 c.args.limit old.reached.2 reads.1 (omega (arith, reads.2, old.limit))

pub returns-in-Over-clause-leaves : goal.returns-in-Over-clause-leaves
returns-in-Over-clause-leaves g c =
    let left = g.S.Source.left in
    let written = g.O.Sink.written in
    let state = g.A.Answerer.state in
    let old = c.lines.invariant in
    let reads = c.in-Over.ensures.reads in
    reached-over g.A.Answerer.step (state c.args.answerer.now) (state c.lines.answerer) c.lines.reader c.next.new.self
    (left c.args.script.now) (left c.lines.script) reads.2 (left c.next.new.source) (written c.args.out.now) (written c.lines.out)
    c.lines.refused old.reached.0 reads.0 reads.1 old.reached.1 c.args.limit old.reached.2 reads.3 (reads.4 ∙ old.limit) reads.5 reads.6

pub lines-preserved-then-refused : goal.lines-preserved-then-refused
lines-preserved-then-refused g c =
    let left = g.S.Source.left in
    let written = g.O.Sink.written in
    let state = g.A.Answerer.state in
    let old = c.lines.invariant in
    let read : (line : List ℕ) × LineRead c.lines.reader c.next.new.self (left c.lines.script) (left c.next.new.source) line
    × Shows line (option_map (λ bytes. bytes.now) c.match-next.line)
    × (lines_read c.next.new.self ≡ min (lines_read c.lines.reader + 1) (2 ^ 64 - 1)) =
    elim c.match-next.branch [
      | in-Line w ↦ let r = w.in-Line.ensures.reads in
          (r.0, r.1, subst (λ l. Shows r.0 (option_map (λ bytes. bytes.now) l)) (sym w.line-is) (r.2, w.bytes.ensures ∙ r.3), w.in-Line.ensures.number)
      | in-Long w ↦ let r = w.in-Long.ensures.reads in
          (r.0, r.1, subst (λ l. Shows r.0 (option_map (λ bytes. bytes.now) l)) (sym w.line-is) r.2, w.in-Long.ensures.number)
    ] in
    let ensures = c.in-Ok.ensures in
    let step = g.A.Answerer.step (state c.lines.answerer) in
    let next = reached-next g.A.Answerer.step (state c.args.answerer.now) (state c.lines.answerer) (state c.answer.new.self) c.lines.reader c.next.new.self
    (left c.args.script.now) (left c.lines.script) (left c.next.new.source) (written c.args.out.now) (written c.lines.out) (written c.answer.new.out)
    c.lines.refused c.lines.refused old.reached.0 old.reached.1 read.0 c.args.limit old.reached.2 read.1 read.3
    (omega (arith, old.within)) c.requires.limit
    (ensures.written read.0 read.2 ∙ ap (λ n. appended_to (written c.lines.out) (step n read.0).reply) c.number.ensures)
    (ensures.leaves read.0 read.2 ∙ ap (λ n. (step n read.0).state) c.number.ensures)
    (or-true c.lines.refused (step c.next.new.self.number read.0).refused c.if-refused.true) in
    record {
      reached = (next.0, old.reached.1 ++ read.0 ∷ [], next.1);
      limit = c.next.ensures.limit ∙ old.limit;
      within = omega (arith, c.next.ensures.within, c.next.ensures.limit, old.limit);
      script_faults =
          elim c.match-next.branch [
            | in-Line w ↦ elim w.in-Line.ensures.faults_stay [ inl e ↦ grind (arith, common_steps) | inr same ↦ same ∙ old.script_faults ]
            | in-Long w ↦ elim w.in-Long.ensures.faults_stay [ inl e ↦ grind (arith, common_steps) | inr same ↦ same ∙ old.script_faults ]
          ];
      out_faults = grind (arith, common_steps);
    }

pub lines-preserved : goal.lines-preserved
lines-preserved g c =
    let left = g.S.Source.left in
    let written = g.O.Sink.written in
    let state = g.A.Answerer.state in
    let old = c.lines.invariant in
    let read : (line : List ℕ) × LineRead c.lines.reader c.next.new.self (left c.lines.script) (left c.next.new.source) line
    × Shows line (option_map (λ bytes. bytes.now) c.match-next.line)
    × (lines_read c.next.new.self ≡ min (lines_read c.lines.reader + 1) (2 ^ 64 - 1)) =
    elim c.match-next.branch [
      | in-Line w ↦ let r = w.in-Line.ensures.reads in
          (r.0, r.1, subst (λ l. Shows r.0 (option_map (λ bytes. bytes.now) l)) (sym w.line-is) (r.2, w.bytes.ensures ∙ r.3), w.in-Line.ensures.number)
      | in-Long w ↦ let r = w.in-Long.ensures.reads in
          (r.0, r.1, subst (λ l. Shows r.0 (option_map (λ bytes. bytes.now) l)) (sym w.line-is) r.2, w.in-Long.ensures.number)
    ] in
    let ensures = c.in-Ok.ensures in
    let step = g.A.Answerer.step (state c.lines.answerer) in
    let next = reached-next g.A.Answerer.step (state c.args.answerer.now) (state c.lines.answerer) (state c.answer.new.self) c.lines.reader c.next.new.self
    (left c.args.script.now) (left c.lines.script) (left c.next.new.source) (written c.args.out.now) (written c.lines.out) (written c.answer.new.out)
    c.lines.refused c.in-Ok.line_refused old.reached.0 old.reached.1 read.0 c.args.limit old.reached.2 read.1 read.3
    (omega (arith, old.within)) c.requires.limit
    (ensures.written read.0 read.2 ∙ ap (λ n. appended_to (written c.lines.out) (step n read.0).reply) c.number.ensures)
    (ensures.leaves read.0 read.2 ∙ ap (λ n. (step n read.0).state) c.number.ensures)
    (ensures.refused read.0 read.2 ∙ ap (λ n. (step n read.0).refused) c.number.ensures ∙ or-false c.lines.refused (step c.next.new.self.number read.0).refused c.if-refused.false) in
    record {
      reached = (next.0, old.reached.1 ++ read.0 ∷ [], next.1);
      limit = c.next.ensures.limit ∙ old.limit;
      within = omega (arith, c.next.ensures.within, c.next.ensures.limit, old.limit);
      script_faults =
          elim c.match-next.branch [
            | in-Line w ↦ elim w.in-Line.ensures.faults_stay [ inl e ↦ grind (arith, common_steps) | inr same ↦ same ∙ old.script_faults ]
            | in-Long w ↦ elim w.in-Long.ensures.faults_stay [ inl e ↦ grind (arith, common_steps) | inr same ↦ same ∙ old.script_faults ]
          ];
      out_faults = grind (arith, common_steps);
    }

pub returns-in-Err-Write-clause-leaves : goal.returns-in-Err-Write-clause-leaves
returns-in-Err-Write-clause-leaves g c =
    let left = g.S.Source.left in
    let written = g.O.Sink.written in
    let state = g.A.Answerer.state in
    let old = c.lines.invariant in
    let read : (line : List ℕ) × LineRead c.lines.reader c.next.new.self (left c.lines.script) (left c.next.new.source) line
    × Shows line (option_map (λ bytes. bytes.now) c.match-next.line)
    × (lines_read c.next.new.self ≡ min (lines_read c.lines.reader + 1) (2 ^ 64 - 1)) =
    elim c.match-next.branch [
      | in-Line w ↦ let r = w.in-Line.ensures.reads in
          (r.0, r.1, subst (λ l. Shows r.0 (option_map (λ bytes. bytes.now) l)) (sym w.line-is) (r.2, w.bytes.ensures ∙ r.3), w.in-Line.ensures.number)
      | in-Long w ↦ let r = w.in-Long.ensures.reads in
          (r.0, r.1, subst (λ l. Shows r.0 (option_map (λ bytes. bytes.now) l)) (sym w.line-is) r.2, w.in-Long.ensures.number)
    ] in
    let step = g.A.Answerer.step (state c.lines.answerer) in
    reached-cut g.A.Answerer.step (state c.args.answerer.now) (state c.lines.answerer) c.lines.reader c.next.new.self
    (left c.args.script.now) (left c.lines.script) (left c.next.new.source) (written c.args.out.now) (written c.lines.out) (written c.answer.new.out)
    c.lines.refused old.reached.0 old.reached.1 read.0 c.args.limit old.reached.2 read.1 read.3 (omega (arith, old.within)) c.requires.limit
    (omega (arith, c.next.ensures.within, c.next.ensures.limit, old.limit))
    (subst (λ n. WritesPrefix (written c.lines.out) (written c.answer.new.out) (step n read.0).reply) c.number.ensures
    (c.in-Err-Write.ensures.prefix read.0 read.2))

pub returns-in-Err-NoMemory-clause-leaves : goal.returns-in-Err-NoMemory-clause-leaves
returns-in-Err-NoMemory-clause-leaves g c =
    let left = g.S.Source.left in
    let written = g.O.Sink.written in
    let state = g.A.Answerer.state in
    let old = c.lines.invariant in
    let read : (line : List ℕ) × LineRead c.lines.reader c.next.new.self (left c.lines.script) (left c.next.new.source) line
    × Shows line (option_map (λ bytes. bytes.now) c.match-next.line)
    × (lines_read c.next.new.self ≡ min (lines_read c.lines.reader + 1) (2 ^ 64 - 1)) =
    elim c.match-next.branch [
      | in-Line w ↦ let r = w.in-Line.ensures.reads in
          (r.0, r.1, subst (λ l. Shows r.0 (option_map (λ bytes. bytes.now) l)) (sym w.line-is) (r.2, w.bytes.ensures ∙ r.3), w.in-Line.ensures.number)
      | in-Long w ↦ let r = w.in-Long.ensures.reads in
          (r.0, r.1, subst (λ l. Shows r.0 (option_map (λ bytes. bytes.now) l)) (sym w.line-is) r.2, w.in-Long.ensures.number)
    ] in
    let step = g.A.Answerer.step (state c.lines.answerer) in
    reached-cut g.A.Answerer.step (state c.args.answerer.now) (state c.lines.answerer) c.lines.reader c.next.new.self
    (left c.args.script.now) (left c.lines.script) (left c.next.new.source) (written c.args.out.now) (written c.lines.out) (written c.answer.new.out)
    c.lines.refused old.reached.0 old.reached.1 read.0 c.args.limit old.reached.2 read.1 read.3 (omega (arith, old.within)) c.requires.limit
    (omega (arith, c.next.ensures.within, c.next.ensures.limit, old.limit))
    (subst (λ n. WritesPrefix (written c.lines.out) (written c.answer.new.out) (step n read.0).reply) c.number.ensures
    (c.in-Err-NoMemory.ensures.prefix read.0 read.2))
