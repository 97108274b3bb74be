use Rattle.std.proofs.Common.{◌≡◌, ◌∙◌, ap, ap₂, codes, Some, true, ℕ, List}
use Rattle.std.proofs.lemmas.Result.{IfOk-weaker}
use Rattle.clap.specs.Words.{App, Rule, app_of, rule_of, with_rule}
use Rattle.clap.specs.Simple.{app_of_fields}
use Rattle.clap.specs.declared.builder.value_parser.ValueParser.{ValueParser}
use Rattle.tp_words.specs.CommandLine.{option_rule, number_rule}
use Rattle.tp_words.specs.DriveLine.{bare_drive}
use Rattle.tp_words.proofs.drive_line.drive_line.Goals as goal

pub returns : goal.returns
returns c =
    let parsed : List ℕ → ValueParser → Rule = λ name p. record (option_rule name) { parser = Some p } in
    let workers_is : rule_of c.number_option.result ≡ number_rule (codes "workers") 1 16 =
    c.number_option.ensures.rule ∙ ap (parsed (codes "workers")) c.worker_counts.ensures in
    let bare_is : app_of c.no_binary_name.result ≡ bare_drive =
    ap app_of_fields c.no_binary_name.ensures ∙ ap (λ (a : App). record a { top = record (a.top) { no_binary_name = true } }) c.new.ensures.app in
    let first = c.in_ok-arg.ensures.shape c.option.ensures.local ∙ ap₂ with_rule bare_is c.option.ensures.rule in
    IfOk-weaker c.arg-2.result _ _ (λ r added. added.shape c.number_option.ensures.local ∙ ap₂ with_rule first workers_is) c.arg-2.ensures
