-- Where the loop of a reader of lines stands.
use Rattle.std.proofs.Common.{◌≡◌, ◌⊎◌, inl, inr, ◌<◌, ◌≤◌, ◌+◌, ◌||◌, ◌==◌, if◌then◌else◌, eqb-true, ℕ, List, [], ◌∷◌, ◌++◌, Bool, true, false, true≢false, length, length-append, take, drop, Option, Some, None, option_map, refl, ap, sym, ◌∙◌, append_assoc, append-nil, arith}
use Rattle.std.specs.List.{list_any}
use Rattle.std.proofs.lemmas.Grind.{common_steps}
use Rattle.std.proofs.lemmas.List.{drop_more, length-take-le, nil_from_length, take-append-drop}
use Rattle.std.proofs.lemmas.List.Folds.{list_any-append}
use Rattle.text_spec.specs.Lines.{is_newline, lines_of, without_return}
use Rattle.dm_io.specs.Lines.{next_of, next_at_end, has_newline, BeginsLine}
use Rattle.dm_io.specs.Reader.{ahead, bytes_read, line_in, saw_end, waiting, LineRead, NothingAhead, Reads, Skips, Stopped}
use Rattle.dm_io.specs.Streams.{IsPrefix, IsIfKnown, prepended_to}
use Rattle.dm_io.specs.declared.line_reader.LineReader.{LineReader}
use Rattle.dm_io.specs.declared.lines.Next.{Next}
use Rattle.dm_io.specs.declared.lines.Next.TheVariants.{Line, End}
use Rattle.dm_io.proofs.LinesOf.{lines_of-cut, lines_of-last, lines_of-nil, or-left, or-right}
use Rattle.dm_io.proofs.Known.{prepended_to-more, prepended_to-nothing}

-- so many bytes were taken, the beginning of a line was dropped where it is too long, and nothing was taken while a
-- whole line waited
pub record Skipped (old new : LineReader) (before after : Option (List ℕ)) (long : Bool) (gone : List ℕ) : Type 0 where
  pub taken : List ℕ
  pub held : waiting old ++ taken ≡ gone ++ waiting new
  pub left : IsPrefix before taken after
  pub plain : has_newline gone ≡ false
  pub counted : bytes_read new ≡ bytes_read old + length gone
  pub when_long : long ≡ true → 20000 < length gone
  pub when_short : long ≡ false → gone ≡ []
  pub waits : (taken ≡ []) ⊎ (has_newline (waiting old) ≡ false)

-- at the call
pub skipped-start : (old : LineReader) (before : Option (List ℕ)) → Skipped old old before before false []
skipped-start old before = record {
  taken = [];
  held = append-nil (waiting old);
  left = prepended_to-nothing before;
  plain = refl;
  counted = omega arith;
  when_long = λ e. absurd (true≢false (sym e));
  when_short = λ e. refl;
  waits = inl refl;
}

plain-both : (xs ys : List ℕ) → has_newline xs ≡ false → has_newline ys ≡ false → has_newline (xs ++ ys) ≡ false
plain-both xs ys e f = list_any-append is_newline xs ys ∙ ap (λ t. t || list_any is_newline ys) e ∙ f

plain-left : (xs ys : List ℕ) → has_newline (xs ++ ys) ≡ false → has_newline xs ≡ false
plain-left xs ys e = or-left (list_any is_newline xs) (list_any is_newline ys) (sym (list_any-append is_newline xs ys) ∙ e)

plain-right : (xs ys : List ℕ) → has_newline (xs ++ ys) ≡ false → has_newline ys ≡ false
plain-right xs ys e = or-right (list_any is_newline xs) (list_any is_newline ys) (sym (list_any-append is_newline xs ys) ∙ e)

-- what was ahead, by what was dropped and is ahead now
pub ahead-skipped : {old new : LineReader} {before after : Option (List ℕ)} {long : Bool} {gone : List ℕ} → Skipped old new before after long gone
    → ahead old before ≡ prepended_to (gone ++ waiting new) after
ahead-skipped {old} {new} {before} {after} {long} {gone} s =
    ap (λ o. prepended_to (waiting old) o) s.left ∙ prepended_to-more (waiting old) s.taken after ∙ ap (λ w. prepended_to w after) s.held

when_both : (long full : Bool) (gone more : List ℕ) → (long ≡ true → 20000 < length gone) → (full ≡ true → 20000 < length more) → (long || full) ≡ true → 20000 < length (gone ++ more)
when_both true full gone more h k e = omega (arith, h refl, length-append gone more)
when_both false full gone more h k e = omega (arith, k e, length-append gone more)

when_neither : (long full : Bool) (gone more : List ℕ) → (long ≡ false → gone ≡ []) → (full ≡ false → more ≡ []) → (long || full) ≡ false → gone ++ more ≡ []
when_neither true full gone more h k e = absurd (true≢false e)
when_neither false full gone more h k e = rw (h refl, k e) refl

nothing-waited : (old taken gone new : List ℕ) → old ++ taken ≡ gone ++ new → (taken ≡ []) ⊎ (has_newline old ≡ false) → has_newline gone ≡ false → has_newline new ≡ false → has_newline old ≡ false
nothing-waited old taken gone new held (inl none) plain more = plain-left old taken (ap has_newline held ∙ plain-both gone new plain more)
nothing-waited old taken gone new held (inr none) plain more = none

-- no whole line waits, and what waits may be dropped
pub skipped-more : {old cur new : LineReader} {before after : Option (List ℕ)} {long full : Bool} {gone more : List ℕ} (now_long : Bool)
    → Skipped old cur before after long gone → has_newline (waiting cur) ≡ false → Skips cur new full more → now_long ≡ (long || full)
    → Skipped old new before after now_long (gone ++ more)
skipped-more {old} {cur} {new} {before} {after} {long} {full} {gone} {more} now_long s none k e = record {
  taken = s.taken;
  held = s.held ∙ ap (λ w. gone ++ w) k.bytes ∙ sym (append_assoc gone more (waiting new));
  left = s.left;
  plain = plain-both gone more s.plain (plain-left more (waiting new) (ap has_newline (sym k.bytes) ∙ none));
  counted = omega (arith, s.counted, k.counted, length-append gone more);
  when_long = λ f. when_both long full gone more s.when_long k.when_full (sym e ∙ f);
  when_short = λ f. when_neither long full gone more s.when_short k.when_not (sym e ∙ f);
  waits = inr (nothing-waited (waiting old) s.taken gone (waiting cur) s.held s.waits s.plain none);
}

-- what waits has no newline after it was dropped either
pub skips-plain : {cur new : LineReader} {full : Bool} {more : List ℕ} → Skips cur new full more → has_newline (waiting cur) ≡ false → has_newline (waiting new) ≡ false
skips-plain {cur} {new} {full} {more} k none = plain-right more (waiting new) (ap has_newline (sym k.bytes) ∙ none)

-- no whole line waited, and a piece came
pub skipped-came : {old cur new : LineReader} {before middle after : Option (List ℕ)} {long : Bool} {gone : List ℕ} (piece : List ℕ)
    → Skipped old cur before middle long gone → has_newline (waiting cur) ≡ false → waiting new ≡ waiting cur ++ piece → IsPrefix middle piece after → bytes_read new ≡ bytes_read cur
    → Skipped old new before after long gone
skipped-came {old} {cur} {new} {before} {middle} {after} {long} {gone} piece s none grown came counted = record {
  taken = s.taken ++ piece;
  held = sym (append_assoc (waiting old) s.taken piece) ∙ ap (λ w. w ++ piece) s.held ∙ append_assoc gone (waiting cur) piece ∙ ap (λ w. gone ++ w) (sym grown);
  left = s.left ∙ ap (λ o. prepended_to s.taken o) came ∙ prepended_to-more s.taken piece after;
  plain = s.plain;
  counted = counted ∙ s.counted;
  when_long = s.when_long;
  when_short = s.when_short;
  waits = inr (nothing-waited (waiting old) s.taken gone (waiting cur) s.held s.waits s.plain none);
}

-- no whole line waited, and nothing came
pub skipped-same : {old cur : LineReader} {before middle after : Option (List ℕ)} {long : Bool} {gone : List ℕ} (new : LineReader)
    → Skipped old cur before middle long gone → has_newline (waiting cur) ≡ false → waiting new ≡ waiting cur → after ≡ middle → bytes_read new ≡ bytes_read cur
    → Skipped old new before after long gone
skipped-same {old} {cur} {before} {middle} {after} {long} {gone} new s none same left counted =
    skipped-came [] s none (same ∙ sym (append-nil (waiting cur))) (sym left ∙ prepended_to-nothing after) counted

-- a line without a newline is the first, where it comes before a newline
first-cut : (line : List ℕ) (rest : Option (List ℕ)) → has_newline line ≡ false → option_map lines_of (prepended_to (line ++ 10 ∷ []) rest) ≡ option_map (λ r. line ∷ lines_of r) rest
first-cut line None plain = refl
first-cut line (Some rest) plain = ap (λ ls. Some ls) (ap lines_of (append_assoc line (10 ∷ []) rest) ∙ lines_of-cut line rest plain)

-- the same, where it comes last
first-last : (line nothing : List ℕ) (after : Option (List ℕ)) → 0 < length line → has_newline line ≡ false → IsIfKnown [] after → nothing ≡ []
    → option_map lines_of (prepended_to line after) ≡ option_map (λ r. line ∷ lines_of r) (prepended_to nothing after)
first-last line nothing None some plain known none = refl
first-last line nothing (Some rest) some plain known none =
    rw (known, none) (ap (λ ls. Some ls) (ap lines_of (append-nil line) ∙ lines_of-last line some plain ∙ ap (λ ls. line ∷ ls) (sym lines_of-nil)))

line-split : (bytes : List ℕ) (count : ℕ) → BeginsLine bytes count → bytes ≡ take count bytes ++ 10 ∷ drop (count + 1) bytes
line-split bytes count b = sym (take-append-drop count bytes) ∙ ap (λ r. take count bytes ++ r) (drop_more bytes count 0 b.within ∙ ap (λ x. x ∷ drop (count + 1) bytes) b.ends)

bytes_read-as : {old new : LineReader} {before after : Option (List ℕ)} (long : Bool) (gone line : List ℕ) → LineRead old new before after (gone ++ line)
    → (long ≡ true → 20000 < length gone) → (long ≡ false → gone ≡ []) → length line ≤ 20000 → (long ≡ false → line_in new ≡ without_return line)
    → Reads old new before after (next_of long)
bytes_read-as true gone line a too_long short len shown = (gone ++ line, a, grind (arith, common_steps, too_long refl))
bytes_read-as false gone line a too_long short len shown =
    let same : length (gone ++ line) ≡ length line = ap (λ g. length (g ++ line)) (short refl) in
    (gone ++ line, a, grind (arith, common_steps), shown refl ∙ ap (λ g. without_return (g ++ line)) (sym (short refl)))

regroup : (gone line rest : List ℕ) → gone ++ (line ++ 10 ∷ rest) ≡ ((gone ++ line) ++ 10 ∷ []) ++ rest
regroup gone line rest = sym (append_assoc (gone ++ line) (10 ∷ []) rest ∙ append_assoc gone line (10 ∷ rest))

-- a whole line is read
pub reads-line : {old cur : LineReader} {before after : Option (List ℕ)} {long : Bool} {gone : List ℕ} (new : LineReader) (count : ℕ) (next : Next)
    → Skipped old cur before after long gone → saw_end old ≡ false → saw_end new ≡ false → BeginsLine (waiting cur) count
    → waiting new ≡ drop (count + 1) (waiting cur) → bytes_read new ≡ bytes_read cur + count + 1 → line_in new ≡ without_return (take count (waiting cur)) → next ≡ next_of long
    → Reads old new before after next
reads-line {old} {cur} {before} {after} {long} {gone} new count next s was_open goes_on b rest counted shown e =
    let line : List ℕ = take count (waiting cur) in
    let len : length line ≡ count = length-take-le count (waiting cur) (omega (arith, b.within)) in
    let split : waiting cur ≡ line ++ 10 ∷ waiting new = line-split (waiting cur) count b ∙ ap (λ r. line ++ 10 ∷ r) (sym rest) in
    let plain : has_newline (gone ++ line) ≡ false = plain-both gone line s.plain b.plain in
    let bytes : ahead old before ≡ prepended_to ((gone ++ line) ++ 10 ∷ []) (ahead new after) =
    ahead-skipped s
    ∙ ap (λ w. prepended_to (gone ++ w) after) split
    ∙ ap (λ w. prepended_to w after) (regroup gone line (waiting new))
    ∙ sym (prepended_to-more ((gone ++ line) ++ 10 ∷ []) (waiting new) after) in
    let cut : LineRead old new before after (gone ++ line) = record {
      was_open = was_open;
      first = ap (option_map lines_of) bytes ∙ first-cut (gone ++ line) (ahead new after) plain;
      plain = plain;
      ends = inl (record { goes_on = goes_on; bytes = bytes; counted = omega (arith, s.counted, counted, length-append gone line, len) });
    } in
    rw e (bytes_read-as long gone line cut s.when_long s.when_short (omega (arith, len, b.short)) (λ f. shown))

-- what waits at the end is the last line
last-line : {old mid : LineReader} {before after : Option (List ℕ)} {long : Bool} {gone : List ℕ} (new : LineReader)
    → Skipped old mid before after long gone → saw_end old ≡ false → saw_end new ≡ true → has_newline (waiting mid) ≡ false → IsIfKnown [] after
    → waiting new ≡ [] → bytes_read new ≡ bytes_read mid + length (waiting mid) → 0 < length (gone ++ waiting mid) → LineRead old new before after (gone ++ waiting mid)
last-line {old} {mid} {before} {after} {long} {gone} new s was_open ended none known nothing counted some =
    let line : List ℕ = gone ++ waiting mid in
    let plain : has_newline line ≡ false = plain-both gone (waiting mid) s.plain none in
    record {
      was_open = was_open;
      first = ap (option_map lines_of) (ahead-skipped s) ∙ first-last line (waiting new) after some plain known nothing;
      plain = plain;
      ends = inr (record {
        ended = ended;
        some = some;
        bytes = ahead-skipped s;
        nothing_left = known;
        nothing_waits = nothing;
        counted = omega (arith, s.counted, counted, length-append gone (waiting mid));
      });
    }

-- nothing waits at the end, and nothing was taken
nothing-ahead : {old mid : LineReader} {before after : Option (List ℕ)} {gone : List ℕ} (new : LineReader)
    → Skipped old mid before after false gone → saw_end new ≡ true → IsIfKnown [] after → waiting new ≡ [] → length (waiting mid) ≡ 0 → NothingAhead old new before after
nothing-ahead {old} {mid} {before} {after} {gone} new s ended known nothing none =
    let no_bytes : length (waiting old) + length s.taken ≡ 0 =
    sym (length-append (waiting old) s.taken) ∙ ap length s.held ∙ length-append gone (waiting mid) ∙ omega (arith, none, ap length (s.when_short refl)) in
    let not_taken : s.taken ≡ [] = nil_from_length s.taken (omega (arith, no_bytes)) in
    record {
      nothing_waited = nil_from_length (waiting old) (omega (arith, no_bytes));
      nothing_waits = nothing;
      ended = ended;
      nothing_taken = prepended_to-nothing after ∙ ap (λ t. prepended_to t after) (sym not_taken) ∙ sym s.left;
      nothing_left = λ e. known;
    }

ends-as : {old mid : LineReader} {before after : Option (List ℕ)} {gone : List ℕ} (new : LineReader) (long : Bool)
    → Skipped old mid before after long gone → saw_end old ≡ false → saw_end new ≡ true → has_newline (waiting mid) ≡ false → length (waiting mid) ≤ 20000 → IsIfKnown [] after
    → waiting new ≡ [] → bytes_read new ≡ bytes_read mid + length (waiting mid) → (long ≡ false → (length (waiting mid) == 0) ≡ false → line_in new ≡ without_return (waiting mid))
    → Reads old new before after (next_at_end long (length (waiting mid)))
ends-as {old} {mid} {before} {after} {gone} new true s was_open ended none short known nothing counted shown =
    let many = s.when_long refl in
    let some : 0 < length (gone ++ waiting mid) = omega (arith, many, length-append gone (waiting mid)) in
    bytes_read-as true gone (waiting mid) (last-line new s was_open ended none known nothing counted some) s.when_long s.when_short short (λ f. absurd (true≢false f))
ends-as {old} {mid} {before} {after} {gone} new false s was_open ended none short known nothing counted shown = by (length (waiting mid) == 0) refl
  where
    by : (t : Bool) → (length (waiting mid) == 0) ≡ t → Reads old new before after (if t then End else Line)
    by true e = nothing-ahead new s ended known nothing (eqb-true (length (waiting mid)) 0 e)
    by false e =
        let some : 0 < length (gone ++ waiting mid) = grind (arith, common_steps) in
        bytes_read-as false gone (waiting mid) (last-line new s was_open ended none known nothing counted some) s.when_long s.when_short short (λ f. shown f e)

-- what waits is read at the end
pub reads-end : {old mid : LineReader} {before after : Option (List ℕ)} {long : Bool} {gone : List ℕ} (new : LineReader) (next : Next)
    → Skipped old mid before after long gone → saw_end old ≡ false → saw_end new ≡ true → has_newline (waiting mid) ≡ false → length (waiting mid) ≤ 20000 → IsIfKnown [] after
    → waiting new ≡ [] → bytes_read new ≡ bytes_read mid + length (waiting mid) → (next ≡ Line → line_in new ≡ without_return (waiting mid)) → next ≡ next_at_end long (length (waiting mid))
    → Reads old new before after next
reads-end {old} {mid} {before} {after} {long} {gone} new next s was_open ended none short known nothing counted shown e =
    let as_line : long ≡ false → (length (waiting mid) == 0) ≡ false → next ≡ Line =
    λ f g. e ∙ ap (λ l. next_at_end l (length (waiting mid))) f ∙ ap (λ t. if t then End else Line) g in
    rw e (ends-as new long s was_open ended none short known nothing counted (λ f g. shown (as_line f g)))

none-or-many : (long : Bool) (gone : List ℕ) → (long ≡ true → 20000 < length gone) → (long ≡ false → gone ≡ []) → (gone ≡ []) ⊎ (20000 < length gone)
none-or-many true gone many none = inr (many refl)
none-or-many false gone many none = inl (none refl)

-- no whole line came: what was dropped and what waits is a part of one
pub reads-part : {old mid : LineReader} {before after : Option (List ℕ)} {long : Bool} {gone : List ℕ} (new : LineReader)
    → Skipped old mid before after long gone → saw_end old ≡ false → saw_end new ≡ false → has_newline (waiting mid) ≡ false → waiting new ≡ waiting mid → bytes_read new ≡ bytes_read mid
    → Stopped old new before after (gone ++ waiting mid)
reads-part {old} {mid} {before} {after} {long} {gone} new s was_open goes_on none same counted = record {
  was_open = was_open;
  goes_on = goes_on;
  plain = plain-both gone (waiting mid) s.plain none;
  taken = ahead-skipped s;
  gone = gone;
  waits = ap (λ w. gone ++ w) (sym same);
  counted = counted ∙ s.counted;
  dropped = none-or-many long gone s.when_long s.when_short;
}
