use Rattle.std.proofs.Common.{◌≡◌, ◌∙◌, ap, ap₂, codes, Some, true, ℕ, List}
use Rattle.std.proofs.lemmas.Result.{IfOk-weaker}
use Rattle.clap.specs.Words.{App, Rule, app_of, rule_of, with_rule}
use Rattle.clap.specs.Simple.{app_of_fields}
use Rattle.clap.specs.declared.builder.value_parser.ValueParser.{ValueParser}
use Rattle.tp_words.specs.CommandLine.{bare, option_rule, number_rule}
use Rattle.tp_words.proofs.command_line.command_line.Goals as goal

pub returns : goal.returns
returns c =
    let parsed : List ℕ → ValueParser → Rule = λ name p. record (option_rule name) { parser = Some p } in
    let number_is : rule_of c.number_option.result ≡ number_rule (codes "number") 0 18446744073709551615 =
    c.number_option.ensures.rule ∙ ap (parsed (codes "number")) c.value_parser-numbers.ensures in
    let nodes_is : rule_of c.number_option-2.result ≡ number_rule (codes "nodes") 2 256 =
    c.number_option-2.ensures.rule ∙ ap (parsed (codes "nodes")) c.node_counts.ensures in
    let rounds_is : rule_of c.number_option-3.result ≡ number_rule (codes "rounds") 1 30 =
    c.number_option-3.ensures.rule ∙ ap (parsed (codes "rounds")) c.round_counts.ensures in
    let bare_is : app_of c.no_binary_name.result ≡ bare =
    ap app_of_fields c.no_binary_name.ensures ∙ ap (λ (a : App). record a { top = record (a.top) { no_binary_name = true } }) c.new.ensures.app in
    let first = c.in_ok-arg.ensures.shape c.command_word.ensures.local ∙ ap₂ with_rule bare_is c.command_word.ensures.rule in
    let second = c.in_ok-arg-2.ensures.shape c.option.ensures.local ∙ ap₂ with_rule first c.option.ensures.rule in
    let third = c.in_ok-arg-3.ensures.shape c.number_option.ensures.local ∙ ap₂ with_rule second number_is in
    let fourth = c.in_ok-arg-4.ensures.shape c.number_option-2.ensures.local ∙ ap₂ with_rule third nodes_is in
    IfOk-weaker c.arg-5.result _ _ (λ r added. added.shape c.number_option-3.ensures.local ∙ ap₂ with_rule fourth rounds_is) c.arg-5.ensures
