use Rattle.std.proofs.Common.{◌≡◌, ◌∙◌, rules, ap, ap₂, ℕ, Some, codes, true}
use Rattle.std.proofs.lemmas.Result.{IfOk-weaker}
use Rattle.clap.specs.Words.{App, Rule, app_of, new_app, rule_of, with_rule}
use Rattle.clap.specs.Simple.{app_of_fields}
use Rattle.words_spec.specs.CommandWords.{option_rule, plain_app}
use Rattle.command_words.proofs.arguments.five_options.Goals as goal

abbrev with_no_binary_name : App → App
with_no_binary_name a = record a { top = record a.top { no_binary_name = true } }

abbrev with_no_help_flag : App → App
with_no_help_flag a = record a { top = record a.top { disable_help_flag = true } }

abbrev with_no_version_flag : App → App
with_no_version_flag a = record a { top = record a.top { disable_version_flag = true } }

abbrev with_letter : ℕ → Rule → Rule
with_letter letter rule = record rule { short = Some letter }

pub returns : goal.returns
returns c =
    let plain_is : app_of c.disable_version_flag.result ≡ plain_app (new_app (codes "depthmap")) =
    ap app_of_fields c.disable_version_flag.ensures ∙ ap with_no_version_flag
    (ap app_of_fields c.disable_help_flag.ensures ∙ ap with_no_help_flag
    (ap app_of_fields c.no_binary_name.ensures ∙ ap with_no_binary_name c.new.ensures.app)) in
    let mode_is : rule_of c.short.result ≡ option_rule (codes "mode") (Some 109) = ap rule_of c.short.ensures ∙ ap (with_letter 109) c.text_option.ensures.rule in
    let file_is : rule_of c.short-2.result ≡ option_rule (codes "file") (Some 102) = ap rule_of c.short-2.ensures ∙ ap (with_letter 102) c.text_option-2.ensures.rule in
    let one = c.in_ok-arg.ensures.shape (search rules) ∙ ap₂ with_rule plain_is mode_is in
    let two = c.in_ok-arg-2.ensures.shape (search rules) ∙ ap₂ with_rule one file_is in
    let three = c.in_ok-arg-3.ensures.shape c.text_option-3.ensures.local ∙ ap₂ with_rule two c.text_option-3.ensures.rule in
    let four = c.in_ok-arg-4.ensures.shape c.text_option-4.ensures.local ∙ ap₂ with_rule three c.text_option-4.ensures.rule in
    record {
      app = IfOk-weaker c.arg-5.result _ _ (λ r adds. adds.shape c.text_option-5.ensures.local ∙ ap₂ with_rule four c.text_option-5.ensures.rule) c.arg-5.ensures;
    }
