use Rattle.std.proofs.Common.{ap, List, ℕ, map, refl}
use Rattle.clap.specs.Words.{App, fault_of, is_simple_and_free}
use Rattle.clap.proofs.FaultLemmas.{fails_as}
use Rattle.tp_words.proofs.Numbers.{values_found, rows_found, program_is_plain, holds_numbers, memory_fails, no_ok}
use Rattle.tp_words.specs.Given.{HoldsNumbers}
use Rattle.tp_words.proofs.command_line.matched.Goals as goal

pub returns-in_err-line : goal.returns-in_err-line
returns-in_err-line c =
    let memory = c.from_residual.ensures.1 in
    record { kinds = memory_fails c.from_residual.result _ memory; rows = no_ok c.from_residual.result _ memory; numbers = no_ok c.from_residual.result _ memory }

pub returns : goal.returns
returns c =
    let texts : List (List ℕ) = map (λ w. w.now) c.args.words.now in
    let parse = c.try_get_matches_from_mut in
    let is = c.in_ok-line.ensures in
    record {
      kinds = fails_as parse.result _ _ (ap (λ (a : App). fault_of a texts) is) (parse.ensures.kinds (ap is_simple_and_free is));
      rows = rows_found _ refl _ _ texts parse.result is parse.ensures.ok;
      numbers = values_found _ HoldsNumbers program_is_plain holds_numbers _ _ texts parse.result is parse.ensures.ok parse.ensures.after parse.ensures.fails;
    }
