-- At first there is no letter.
use Rattle.std.proofs.Common.{List, subst}
use Rattle.tp_model.specs.Parts.{Out}
use Rattle.tp_weaving.specs.declared.letter.Letter.{Letter}
use Rattle.tp_unite.specs.Said.{AddsLetters}
use Rattle.tp_unite.proofs.letters.letters_in.Goals as goal

pub returns : goal.returns
returns c =
    subst (λ (ls : List Letter). AddsLetters c.args.from.now c.args.outs.now ls c.add_letters.new.letters.items) c.new-letters.ensures.items
    (subst (λ (os : List Out). AddsLetters c.args.from.now os c.new-letters.result.items c.add_letters.new.letters.items) c.as_slice.ensures c.in_ok-add_letters.ensures)
