use Rattle.std.proofs.Common.{◌∙◌, ap, codes}
use Rattle.std.specs.Option.{option_map_or}
use Rattle.clap.specs.Words.{found_of}
use Rattle.clap.proofs.WalkLemmas.{first_value-rows, one_text-rows}
use Rattle.tp_words.specs.CommandLine.{number_of}
use Rattle.tp_words.proofs.Numbers.{text_or}
use Rattle.tp_words.proofs.command_line.found.Goals as goal

pub returns : goal.returns
returns c =
    let f = found_of c.args.matches.now in (
      text_or _ _ _ _ (c.get_str.ensures ∙ first_value-rows f (codes "command")) c.unwrap_or.ensures,
      text_or _ _ _ _ (c.get_str-2.ensures ∙ first_value-rows f (codes "name")) c.unwrap_or-2.ensures,
      (
        c.number.ensures ∙ ap (λ t. option_map_or number_of t 1) (one_text-rows f (codes "number")),
        c.number-nodes.ensures ∙ ap (λ t. option_map_or number_of t 2) (one_text-rows f (codes "nodes")),
        c.number-rounds.ensures ∙ ap (λ t. option_map_or number_of t 1) (one_text-rows f (codes "rounds")),
      ),
    )
