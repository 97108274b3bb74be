use Rattle.std.proofs.Common.{◌≡◌, List, [], ◌∷◌, ◌++◌, map, drop, length, ap, sym, subst, ◌∙◌, arith}
use Rattle.tp_model.specs.Lanes.{IsInterleaving}
use Rattle.tp_journal.specs.declared.receipts.Receipt.{Receipt}
use Rattle.tp_turns.specs.Turns.{Covers, lists_of}
use Rattle.tp_shared_log.specs.Locks.{told_by}
use Rattle.tp_shared_log.specs.Shares.{Noted}
use Rattle.tp_shared_log.proofs.Added.{length-behind, counted_noted, without_none}
use Rattle.tp_shared_log.proofs.shared_log.SharedLog.close_with.Goals as goal

pub returns-clause-woven : goal.returns-clause-woven
returns-clause-woven g c = λ all.
    let stood = g.L.Stood.stood in
    let told : List Receipt = told_by c.into_claimed.result in
    let slips : List Noted = c.args.slips.items in
    let noted : List (List Receipt) = map (λ s. s.receipts) slips in
    let same = c.close.ensures.same in
    let count : length (drop (length stood) told) ≡ c.args.all.amount = length-behind (length stood) c.args.all.amount told (ap length (sym same) ∙ c.close.ensures.list.counted) in
    let lists = c.join_slips.ensures.lists ∙ ap (λ m. lists_of m.0.claims ++ noted) c.enter-root.ensures.1.1 in
    let covers : Covers (drop (length stood) told) ([] ∷ noted) = subst (λ ls. Covers (drop (length stood) told) ls) lists c.into_claimed.ensures in
    subst (λ l. IsInterleaving (drop (length stood) l) noted) (sym same) (without_none (drop (length stood) told) noted (covers (omega (arith, counted_noted slips, all, count))))
