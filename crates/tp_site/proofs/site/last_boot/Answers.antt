use Rattle.std.proofs.Common.{◌≡◌, ◌+◌, ℕ, List, ◌∷◌, map, drop, arith, ap, sym, ◌∙◌}
use Rattle.std.proofs.Math.ListN.{drop_of_length-le}
use Rattle.tp_logrec.specs.declared.record.LogRec.{LogRec}
use Rattle.tp_logrec.specs.Order.{boots}
use Rattle.tp_journal.specs.declared.receipts.Receipt.{Receipt}
use Rattle.tp_site.proofs.Starting.{last_after, last_is, told_next, no_boot}
use Rattle.tp_site.proofs.site.last_boot.Goals.{in-Boot, in_default}
use Rattle.tp_site.proofs.site.last_boot.Goals as goal

pub loop-i-preserved : goal.loop-i-preserved
loop-i-preserved g c =
    let told = (g.K.Keeper.standing c.args.keeper.now).told in
    let r = c.rec.result.now in
    let rest : List LogRec = map (λ q. q.rec) (drop (c.loop-i.i + 1) told) in
    let more : last_after c.loop-i.last (boots (r ∷ rest)) ≡ last_after c.match-rec.last (boots rest) = elim c.match-rec.branch [
      | in-Boot w ↦ ap (λ (q : LogRec). last_after c.loop-i.last (boots (q ∷ rest))) w.in-Boot.is ∙ ap (λ (n : ℕ). last_after n (boots rest)) (sym w.last-is)
      | in_default w ↦ ap (last_after c.loop-i.last) (no_boot r rest w.in_default.not-Boot) ∙ ap (λ (n : ℕ). last_after n (boots rest)) (sym w.last-is)
    ] in
    c.loop-i.invariant ∙ ap (λ (rs : List LogRec). last_after c.loop-i.last (boots rs)) (told_next told c.loop-i.i r (omega arith) c.rec.ensures) ∙ more

pub returns : goal.returns
returns g c =
    let told = (g.K.Keeper.standing c.args.keeper.now).told in
    sym (last_is (boots (map (λ q. q.rec) told)) ∙ c.loop-i.invariant
    ∙ ap (λ (rs : List Receipt). last_after c.loop-i.last (boots (map (λ q. q.rec) rs))) (drop_of_length-le told (omega arith)))
