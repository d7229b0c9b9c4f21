-- Where no step of a parse has a fault, the command takes the words: the tests of `Takes` beside the faults of
-- `Faults`, step by step.
use Rattle.std.proofs.Common.{◌≡◌, ◌≤◌, ◌&&◌, ◌||◌, ◌==◌, ℕ, Bool, cond, codes, true, false, not, zero, suc, refl, sym, ap, arith, List, [], ◌∷◌, length, drop, Option, Some, None, is_some, true≢false, nat_le, nat_lt}
use Rattle.std.proofs.lemmas.Bool.{eqb-true, le-leb, ltb-false}
use Rattle.std.specs.Prelude.{encode_utf8, slice_get}
use Rattle.std.specs.Str.{bytes_eq, chars}
use Rattle.std.specs.Option.{option_map_or}
use Rattle.std.specs.List.{list_all}
use Rattle.clap.specs.Facts.{parser_of_value, unwrap_or_range}
use Rattle.clap.specs.Kinds.{Kinds, or_else, range_kinds, value_kinds}
use Rattle.clap.specs.Lexer.{long_of, short_of}
use Rattle.clap.specs.Walk.{Held, Names, Row, Rule, Step, Text, Waiting, Walk, action_of, arg_by_id, arg_by_index, arg_by_long, arg_by_short, attached_value, has_row, finished, nothing_held, is_pending, most_values, reacted, settled, subcommand_met, takes_several, takes_values, values_or_missing, walk, walk_from, walked, word_met}
use Rattle.clap.specs.Walk.{next, trailing, subcommand, value}
use Rattle.clap.specs.Simple.{Shape, built, entered}
use Rattle.clap.specs.Takes.{takes, default_passes, entered_passes, is_valid, action_passes, count_passes, set_passes, bundle_passes, bundle_step_passes, flag_word_passes, flags_pass, level_passes, long_passes, option_passes, other_passes, positional_passes, react_passes, settle_passes, short_passes, step_passes, turn_passes, use_passes, values_pass, value_passes, walk_passes, word_passes}
use Rattle.clap.specs.Faults.{fault_of, level_fault, entered_fault, action_fault, count_fault, bundle_fault, bundle_step_fault, flag_word_fault, flags_fault, long_fault, option_fault, other_fault, positional_fault, react_fault, repeat_fault, settle_fault, set_fault, short_fault, step_fault, stray_fault, turn_fault, use_fault, values_fault, walk_fault, word_fault}
use Rattle.words_spec.specs.CommandWords.{command}
use Rattle.clap.specs.declared.builder.action.ArgAction.{ArgAction}
use Rattle.clap.specs.declared.builder.action.ArgAction.TheVariants as action
use Rattle.clap.specs.declared.error.kind.ErrorKind.{ErrorKind}
use Rattle.clap.specs.declared.error.kind.ErrorKind.TheVariants as kind

-- ---- lists of kinds

abbrev has_kinds : Kinds → Bool
has_kinds [] = false
has_kinds (k ∷ ks) = true

some_kinds : {k : ErrorKind} {ks : Kinds} → k ∷ ks ≡ [] → ⊥
some_kinds e = true≢false (ap has_kinds e)

-- neither of two steps has a fault
neither : (a b : Kinds) → or_else a b ≡ [] → (a ≡ []) × (b ≡ [])
neither [] b e = (refl, e)
neither (k ∷ ks) b e = absurd (some_kinds e)

-- a test that has a fault where it fails passes
test_ok : (b : Bool) (k : ErrorKind) (ks : Kinds) → cond b [] (k ∷ ks) ≡ [] → b ≡ true
test_ok true k ks e = refl
test_ok false k ks e = absurd (some_kinds e)

each : (a b : Bool) → a ≡ true → b ≡ true → (a && b) ≡ true
each true b e f = f
each false b e f = absurd (true≢false (sym e))

-- ---- one use of an argument

values_ok : (a : Rule) (vs : List Text) → values_fault a vs ≡ [] → values_pass a vs ≡ true
values_ok a [] e = refl
values_ok a (v ∷ vs) e =
    let both = neither (value_kinds a.ignore_case (parser_of_value a.parser) v) (values_fault a vs) e in
    each (value_passes a v) (values_pass a vs) (test_ok (value_passes a v) _ [] both.0) (values_ok a vs both.1)

set_ok : (again : Bool) (a : Rule) (vs : List Text) (rows : List Row) → set_fault again a vs rows ≡ [] → set_passes again a vs rows ≡ true
set_ok again a vs rows e =
    let both = neither (repeat_fault again a.id rows) (values_fault a vs) e in
    each (not (has_row a.id rows) || again) (values_pass a vs) (go (has_row a.id rows) again both.0) (values_ok a vs both.1)
  where
    go : (seen again : Bool) → cond (seen && not again) (kind.ArgumentConflict ∷ []) [] ≡ [] → (not seen || again) ≡ true
    go false again e = refl
    go true true e = refl
    go true false e = absurd (some_kinds e)

count_ok : (a : Rule) (vs : List Text) (rows : List Row) → count_fault a vs rows ≡ [] → count_passes a vs rows ≡ true
count_ok a [] rows e = test_ok (count_passes a [] rows) _ [] e
count_ok a (v ∷ vs) rows e = values_ok a (v ∷ vs) e

action_ok : (x : ArgAction) (again : Bool) (a : Rule) (vs : List Text) (rows : List Row) → action_fault x again a vs rows ≡ [] → action_passes x again a vs rows ≡ true
action_ok action.Set again a vs rows e = set_ok again a vs rows e
action_ok action.SetTrue again a vs rows e = set_ok again a vs rows e
action_ok action.SetFalse again a vs rows e = set_ok again a vs rows e
action_ok action.Append again a vs rows e = values_ok a vs e
action_ok action.Count again a vs rows e = count_ok a vs rows e
action_ok action.Help again a vs rows e = absurd (some_kinds e)
action_ok action.HelpShort again a vs rows e = absurd (some_kinds e)
action_ok action.HelpLong again a vs rows e = absurd (some_kinds e)
action_ok action.Version again a vs rows e = absurd (some_kinds e)

range_ok : (least most n : ℕ) → range_kinds least most n ≡ [] → (nat_le least n ≡ true) × (nat_le n most ≡ true)
range_ok least most n = go (nat_lt 0 least && n == 0) (least == most) (least == n) (nat_lt n least) (nat_lt most n)
    (λ e. eqb-true least most e) (λ e. eqb-true least n e) (λ e. ltb-false n least e) (λ e. ltb-false most n e)
  where
    go : (none one right few many : Bool) → (one ≡ true → least ≡ most) → (right ≡ true → least ≡ n) → (few ≡ false → least ≤ n) → (many ≡ false → n ≤ most)
        → cond none (kind.InvalidValue ∷ []) (cond one (cond right [] (kind.WrongNumberOfValues ∷ [])) (cond few (kind.TooFewValues ∷ []) (cond many (kind.TooManyValues ∷ []) []))) ≡ []
        → (nat_le least n ≡ true) × (nat_le n most ≡ true)
    go true one right few many same is above below e = absurd (some_kinds e)
    go false true true few many same is above below e =
        let at = same refl in
        let here = is refl in
        (le-leb least n (omega arith), le-leb n most (omega arith))
    go false true false few many same is above below e = absurd (some_kinds e)
    go false false right true many same is above below e = absurd (some_kinds e)
    go false false right false true same is above below e = absurd (some_kinds e)
    go false false right false false same is above below e = (le-leb least n (above refl), le-leb n most (below refl))

use_ok : (again : Bool) (a : Rule) (vs : List Text) (rows : List Row) → use_fault again a vs rows ≡ [] → use_passes again a vs rows ≡ true
use_ok again a vs rows e =
    let least = (unwrap_or_range a.range).start_inclusive in
    let both = neither (range_kinds least (most_values a) (length vs)) _ e in
    let within = range_ok least (most_values a) (length vs) both.0 in
    each (nat_le least (length vs)) _ within.0 (each (nat_le (length vs) (most_values a)) _ within.1 (action_ok (action_of a) again a (values_or_missing a vs) rows both.1))

-- ---- the walk

settle_ok : (c : List Rule) (again : Bool) (h : Held) → settle_fault c again h ≡ [] → settle_passes c again h ≡ true
settle_ok c again h = go h.pending
  where
    used_ok : (found : Option Rule) (vs : List Text) → option_map_or (λ a. use_fault again a vs h.rows) found [] ≡ [] → option_map_or (λ a. use_passes again a vs h.rows) found true ≡ true
    used_ok None vs e = refl
    used_ok (Some a) vs e = use_ok again a vs h.rows e

    go : (p : Option (Text × List Text)) → option_map_or (λ p. option_map_or (λ a. use_fault again a p.1 h.rows) (arg_by_id c p.0) []) p [] ≡ []
        → option_map_or (λ p. option_map_or (λ a. use_passes again a p.1 h.rows) (arg_by_id c p.0) true) p true ≡ true
    go None e = refl
    go (Some p) e = used_ok (arg_by_id c p.0) p.1 e

react_ok : (c : List Rule) (again : Bool) (a : Rule) (vs : List Text) (h : Held) → react_fault c again a vs h ≡ [] → react_passes c again a vs h ≡ true
react_ok c again a vs h e =
    let both = neither (settle_fault c again h) _ e in
    each (settle_passes c again h) _ (settle_ok c again h both.0) (use_ok again a vs (settled c h).rows both.1)

option_ok : (c : List Rule) (again : Bool) (a : Rule) (v : Option Text) (h : Held) → option_fault c again a v h ≡ [] → option_passes c again a v h ≡ true
option_ok c again a (Some v) h e = react_ok c again a (v ∷ []) h e
option_ok c again a None h e = settle_ok c again h e

long_ok : (c : List Rule) (again : Bool) (found : Option Rule) (v : Option Text) (h : Held) → long_fault c again found v h ≡ [] → long_passes c again found v h ≡ true
long_ok c again None v h e = absurd (some_kinds e)
long_ok c again (Some a) v h e = go (takes_values a) v e
  where
    go : (takes : Bool) (v : Option Text) → cond takes (option_fault c again a v h) (cond (is_some v) (kind.TooManyValues ∷ []) (react_fault c again a [] h)) ≡ []
        → cond takes (option_passes c again a v h) (not (is_some v) && react_passes c again a [] h) ≡ true
    go true v e = option_ok c again a v h e
    go false (Some v) e = absurd (some_kinds e)
    go false None e = react_ok c again a [] h e

short_ok : (c : List Rule) (again : Bool) (found : Option Rule) (rest : Text) (h : Held) (faults : Held → Kinds) (passes : Held → Bool)
    → ((g : Held) → faults g ≡ [] → passes g ≡ true) → short_fault c again found rest h faults ≡ [] → short_passes c again found rest h passes ≡ true
short_ok c again None rest h faults passes next_ok e = absurd (some_kinds e)
short_ok c again (Some a) rest h faults passes next_ok e = go (takes_values a) e
  where
    go : (takes : Bool) → cond takes (option_fault c again a (attached_value rest) h) (or_else (react_fault c again a [] h) (faults (reacted c a [] h))) ≡ []
        → cond takes (option_passes c again a (attached_value rest) h) (react_passes c again a [] h && passes (reacted c a [] h)) ≡ true
    go true e = option_ok c again a (attached_value rest) h e
    go false e =
        let both = neither (react_fault c again a [] h) _ e in
        each (react_passes c again a [] h) _ (react_ok c again a [] h both.0) (next_ok (reacted c a [] h) both.1)

bundle_step_ok : (c : List Rule) (again : Bool) (first : Option ℕ) (flags : Text) (skip : ℕ) (h : Held) (faults : Text → ℕ → Held → Kinds) (passes : Text → ℕ → Held → Bool)
    → ((rest : Text) (less : ℕ) (g : Held) → faults rest less g ≡ [] → passes rest less g ≡ true)
    → bundle_step_fault c again first flags skip h faults ≡ [] → bundle_step_passes c again first flags skip h passes ≡ true
bundle_step_ok c again None flags skip h faults passes next_ok e = refl
bundle_step_ok c again (Some x) flags zero h faults passes next_ok e =
    let rest = drop (length (encode_utf8 x)) flags in
    short_ok c again (arg_by_short c x) rest h (faults rest 0) (passes rest 0) (next_ok rest 0) e
bundle_step_ok c again (Some x) flags (suc skip) h faults passes next_ok e = next_ok (drop (length (encode_utf8 x)) flags) skip h e

flags_ok : (c : List Rule) (again : Bool) (k : ℕ) (flags : Text) (skip : ℕ) (h : Held) → flags_fault c again k flags skip h ≡ [] → flags_pass c again k flags skip h ≡ true
unfolding flags_fault flags_pass
flags_ok c again zero flags skip h e = refl
flags_ok c again (suc k) flags skip h e = bundle_step_ok c again (slice_get (chars flags) 0) flags skip h (flags_fault c again k) (flags_pass c again k) (λ rest less g. flags_ok c again k rest less g) e

flag_word_ok : (c : List Rule) (again : Bool) (found : Option (Text × Option Text)) (word : Text) (h : Held) → flag_word_fault c again found word h ≡ [] → flag_word_passes c again found word h ≡ true
flag_word_ok c again (Some p) word h e = long_ok c again (arg_by_long c p.0) p.1 h e
flag_word_ok c again None word h e = go (short_of word) e
  where
    go : (flags : Option Text) → option_map_or (λ flags. bundle_fault c again flags h) flags [] ≡ [] → option_map_or (λ flags. bundle_passes c again flags h) flags true ≡ true
    go None e = refl
    go (Some flags) e = flags_ok c again (length flags) flags h.skip (record h { skip = 0 }) e

other_ok : (s : Shape) (met : Option Text) (word : Text) (h : Held) → other_fault s met word h ≡ [] → other_passes s met word h ≡ true
other_ok s (Some name) word h = go (bytes_eq name (codes "help")) s.disable_help_subcommand
  where
    go : (help disabled : Bool) → cond (help && not disabled) (kind.DisplayHelp ∷ kind.InvalidSubcommand ∷ []) [] ≡ [] → (not help || disabled) ≡ true
    go false disabled e = refl
    go true true e = refl
    go true false e = absurd (some_kinds e)
other_ok s None word h = go (bytes_eq word (45 ∷ 45 ∷ []))
  where
    go : (ends : Bool) → cond ends [] (flag_word_fault s.rules s.args_override_self (long_of word) word h) ≡ [] → (ends || flag_word_passes s.rules s.args_override_self (long_of word) word h) ≡ true
    go true e = refl
    go false e = flag_word_ok s.rules s.args_override_self (long_of word) word h e

word_ok : (s : Shape) (names : Names) (trails : Bool) (waiting : Waiting) (word : Text) (h : Held) → word_fault s names trails waiting word h ≡ [] → word_passes s names trails waiting word h ≡ true
word_ok s names true waiting word h e = refl
word_ok s names false waiting word h e = other_ok s (subcommand_met names waiting word) word h e

positional_ok : (c : List Rule) (again : Bool) (a : Rule) (h : Held) → positional_fault c again a h ≡ [] → positional_passes c again a h ≡ true
positional_ok c again a h = go (is_pending a h.pending && takes_several a)
  where
    go : (more : Bool) → cond more [] (settle_fault c again h) ≡ [] → (more || settle_passes c again h) ≡ true
    go true e = refl
    go false e = settle_ok c again h e

stray_is_refused : (s : Shape) → stray_fault s ≡ [] → ⊥
stray_is_refused s = go s.is_leaf
  where
    go : (leaf : Bool) → cond leaf (kind.UnknownArgument ∷ []) (kind.UnknownArgument ∷ kind.InvalidSubcommand ∷ []) ≡ [] → ⊥
    go true e = some_kinds e
    go false e = some_kinds e

step_ok : (s : Shape) (position : ℕ) (h : Held) (x : Step) → step_fault s position h x ≡ [] → step_passes s position h x ≡ true
step_ok s position h (next w) e = refl
step_ok s position h (trailing p) e = refl
step_ok s position h (subcommand name) e = refl
step_ok s position h value e = go (arg_by_index s.rules position) e
  where
    go : (found : Option Rule) → option_map_or (λ a. positional_fault s.rules s.args_override_self a h) found (stray_fault s) ≡ []
        → option_map_or (λ a. positional_passes s.rules s.args_override_self a h) found false ≡ true
    go None e = absurd (stray_is_refused s e)
    go (Some a) e = positional_ok s.rules s.args_override_self a h e

turn_ok : (s : Shape) (names : Names) (w : Walk) (word : Text) → turn_fault s names w word ≡ [] → turn_passes s names w word ≡ true
turn_ok s names w word = go (is_some w.stopped)
  where
    met : Held × Step
    met = word_met s.rules names w.is_trailing w.waiting w.position word w.held

    go : (stopped : Bool) → cond stopped [] (or_else (word_fault s names w.is_trailing w.waiting word w.held) (step_fault s w.position met.0 met.1)) ≡ []
        → (stopped || (word_passes s names w.is_trailing w.waiting word w.held && step_passes s w.position met.0 met.1)) ≡ true
    go true e = refl
    go false e =
        let both = neither (word_fault s names w.is_trailing w.waiting word w.held) _ e in
        each (word_passes s names w.is_trailing w.waiting word w.held) _ (word_ok s names w.is_trailing w.waiting word w.held both.0) (step_ok s w.position met.0 met.1 both.1)

walk_ok : (s : Shape) (names : Names) (w : Walk) (words : List Text) → walk_fault s names w words ≡ [] → walk_passes s names w words ≡ true
unfolding walk_fault walk_passes
walk_ok s names w [] e = refl
walk_ok s names w (word ∷ rest) e =
    let both = neither (turn_fault s names w word) _ e in
    each (turn_passes s names w word) _ (turn_ok s names w word both.0) (walk_ok s names (walked s.rules names w word) rest both.1)

-- ---- the command

abbrev top : Shape
top = (built command).top

no_defaults : list_all default_passes top.rules ≡ true
no_defaults = refl

nothing_is_required : (rows : List Row) (below : Bool) → is_valid top rows below ≡ true
nothing_is_required rows true = refl
nothing_is_required rows false = refl

level_ok : (words : List Text) (below : Bool) (kinds : Kinds) → level_fault top [] nothing_held words below kinds ≡ [] → level_passes top [] nothing_held words below ≡ true
level_ok words below kinds e =
    let end = (walk top.rules [] nothing_held words).held in
    let walked = neither (walk_fault top [] (walk_from nothing_held) words) _ e in
    let after = neither kinds _ walked.1 in
    let last = neither (settle_fault top.rules top.args_override_self end) _ after.1 in
    each (walk_passes top [] (walk_from nothing_held) words) _ (walk_ok top [] (walk_from nothing_held) words walked.0)
    (each (settle_passes top.rules top.args_override_self end) _ (settle_ok top.rules top.args_override_self end last.0)
    (nothing_is_required (finished top.rules end) below))

nothing_is_entered : (stop : Option (Text × List Text)) → entered_passes (built command) stop ≡ true
nothing_is_entered None = refl
nothing_is_entered (Some p) = refl

-- a parse of the command that has no fault is one of words that it takes
pub no_fault_takes : (words : List Text) → fault_of command words ≡ [] → takes command words ≡ true
no_fault_takes words e =
    let stop = (walk top.rules [] nothing_held words).stopped in
    each (entered_passes (built command) stop) _ (nothing_is_entered stop) (level_ok words (is_some (entered (built command) stop)) (entered_fault (built command) stop) e)
