use Rattle.std.proofs.Common.{◌≡◌, ◌-◌, ◌||◌, ◌++◌, ℕ, List, false, length, take, ap, refl, sym, ◌∙◌, length-append, length-drop, arith}
use Rattle.std.proofs.lemmas.Grind.{common_steps}
use Rattle.std.proofs.lemmas.List.{take_at}
use Rattle.dm_io.specs.Lines.{has_newline}
use Rattle.dm_io.specs.Reader.{waiting}
use Rattle.dm_io.proofs.Skipped.{reads-end, reads-line, reads-part, skipped-came, skipped-more, skipped-same, skips-plain}
use Rattle.dm_io.proofs.line_reader.LineReader.next.Goals as goal
use Rattle.dm_io.proofs.line_reader.LineReader.next.Goals.{then-long, else-long}

pub returns-in-Some-clause-reads : goal.returns-in-Some-clause-reads
returns-in-Some-clause-reads g c =
    reads-line c.show.new.self c.in-Some.count c.next_of.result
    c.pieces.invariant.skipped.1 c.pieces.invariant.was_open (grind (arith, common_steps)) c.in-Some.ensures.some
    c.show.ensures.rest c.show.ensures.counted c.show.ensures.line c.next_of.ensures

pub pieces-preserved : goal.pieces-preserved
pieces-preserved g c =
    let none : has_newline (waiting c.pieces.self) ≡ false = c.in_default.ensures.none in
    let skips = c.skip_full-full.ensures.skips in
    let long : c.if-long.long ≡ (c.pieces.long || c.skip_full-full.result) =
    elim c.if-long.branch [ then-long w ↦ grind (arith, common_steps) | else-long w ↦ grind (arith, common_steps) ] in
    let skipped = skipped-more c.if-long.long c.pieces.invariant.skipped.1 none skips.1 long in
    let gets = c.in-Came.ensures.gets in
    let plain = skips-plain skips.1 none in
    let mid = c.skip_full-full.new.self in
    let seen : c.len.result - mid.start ≡ length (waiting mid) = ap (λ n. n - mid.start) c.len.ensures.value ∙ sym (length-drop mid.start mid.held.items) in
    let new = c.more.new.self in
    record {
      skipped = (c.pieces.invariant.skipped.0 ++ skips.0, skipped-came gets.0 skipped plain gets.2 gets.3 c.more.ensures.bytes_read);
      within = omega (arith, seen, ap length gets.2, length-append (waiting mid) gets.0);
      plain = ap (λ w. has_newline (take (c.len.result - mid.start) w)) gets.2 ∙ ap has_newline (take_at (waiting mid) gets.0 (c.len.result - mid.start) (sym seen)) ∙ plain;
      goes_on = c.more.ensures.goes_on;
      was_open = c.pieces.invariant.was_open;
      limit = grind (arith, common_steps);
      number = grind (arith, common_steps);
      faults_stay = grind (arith, common_steps);
    }

pub returns-in-Nothing-clause-reads : goal.returns-in-Nothing-clause-reads
returns-in-Nothing-clause-reads g c =
    let none : has_newline (waiting c.pieces.self) ≡ false = c.in_default.ensures.none in
    let skips = c.skip_full-full.ensures.skips in
    let long : c.if-long.long ≡ (c.pieces.long || c.skip_full-full.result) =
    elim c.if-long.branch [ then-long w ↦ grind (arith, common_steps) | else-long w ↦ grind (arith, common_steps) ] in
    let skipped = skipped-more c.if-long.long c.pieces.invariant.skipped.1 none skips.1 long in
    let plain = skips-plain skips.1 none in
    let gets = c.in-Nothing.ensures.gets in
    let same = skipped-same c.more.new.self skipped plain gets.0 gets.1 c.more.ensures.bytes_read in
    reads-end c.next_at_end.new.self c.next_at_end.result same c.pieces.invariant.was_open c.next_at_end.ensures.ended
    (ap has_newline gets.0 ∙ plain) (omega (arith, ap length gets.0, skips.1.room)) gets.2
    c.next_at_end.ensures.rest c.next_at_end.ensures.counted c.next_at_end.ensures.line c.next_at_end.ensures.next

pub returns-in-Broken-clause-reads : goal.returns-in-Broken-clause-reads
returns-in-Broken-clause-reads g c =
    let none : has_newline (waiting c.pieces.self) ≡ false = c.in_default.ensures.none in
    let skips = c.skip_full-full.ensures.skips in
    let long : c.if-long.long ≡ (c.pieces.long || c.skip_full-full.result) =
    elim c.if-long.branch [ then-long w ↦ grind (arith, common_steps) | else-long w ↦ grind (arith, common_steps) ] in
    let skipped = skipped-more c.if-long.long c.pieces.invariant.skipped.1 none skips.1 long in
    let plain = skips-plain skips.1 none in
    let gets = c.in-Broken.ensures.gets in
    let new = c.more.new.self in
    let same = skipped-same new skipped plain gets.0 gets.1 c.more.ensures.bytes_read in
    let gone : List ℕ = c.pieces.invariant.skipped.0 ++ skips.0 in (
      gone ++ waiting new,
      reads-part new same c.pieces.invariant.was_open c.more.ensures.goes_on (ap has_newline gets.0 ∙ plain) refl refl,
      omega (arith, same.counted, length-append gone (waiting new), new.kept, length-drop new.start new.held.items, c.more.ensures.limit, c.skip_full-full.ensures.limit, c.pieces.invariant.limit),
    )

pub returns-in-Beyond-clause-reads : goal.returns-in-Beyond-clause-reads
returns-in-Beyond-clause-reads g c =
    let none : has_newline (waiting c.pieces.self) ≡ false = c.in_default.ensures.none in
    let skips = c.skip_full-full.ensures.skips in
    let long : c.if-long.long ≡ (c.pieces.long || c.skip_full-full.result) =
    elim c.if-long.branch [ then-long w ↦ grind (arith, common_steps) | else-long w ↦ grind (arith, common_steps) ] in
    let skipped = skipped-more c.if-long.long c.pieces.invariant.skipped.1 none skips.1 long in
    let plain = skips-plain skips.1 none in
    let gets = c.in-Beyond.ensures.gets in
    let gone : List ℕ = c.pieces.invariant.skipped.0 ++ skips.0 in
    let mid = c.skip_full-full.new.self in (
      gone ++ waiting mid,
      gets.1,
      g.S.Source.left c.pieces.source,
      reads-part c.more.new.self skipped c.pieces.invariant.was_open c.more.ensures.goes_on plain gets.0 c.more.ensures.bytes_read,
      omega (arith, skipped.counted, length-append gone (waiting mid), gets.4, c.skip_full-full.ensures.limit, c.pieces.invariant.limit),
      gets.2,
      gets.3,
    )
