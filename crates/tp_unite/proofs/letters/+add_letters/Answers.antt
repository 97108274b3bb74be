-- The first output, and then the others.
use Rattle.std.proofs.Common.{◌-◌, length, List, map, take, drop, subst, sym}
use Rattle.tp_node_state.specs.Outs.{out_of}
use Rattle.tp_node_state.specs.declared.outs.Out.{Out}
use Rattle.tp_weaving.proofs.Lanes.{parted}
use Rattle.tp_unite.specs.Said.{AddsLetters}
use Rattle.tp_unite.proofs.Sent.{adds_more}
use Rattle.tp_unite.proofs.letters.+add_letters.Goals as goal

pub returns-in_ok-add_letters-in-len1-up : goal.returns-in_ok-add_letters-in-len1-up
returns-in_ok-add_letters-in-len1-up t c =
    let outs = c.args.outs.now in
    let first = c.first-item.result in
    let rest = take (length outs - 1) (drop 1 outs) in
    subst (λ (os : List Out). AddsLetters c.args.from.now (map out_of os) c.args.letters.now.items c.add_letters.new.letters.items) (sym (parted outs first first c.in-len1-up.len_at_least c.first-item.is))
    (adds_more c.args.from.now (out_of first) (map out_of rest) c.args.letters.now.items c.add_letter.new.letters.items c.add_letters.new.letters.items c.in_ok-add_letter-in-len1-up.ensures c.in_ok-add_letters-in-len1-up.ensures)
