use Rattle.std.proofs.Common.{ap, ◌∙◌}
use Rattle.tp_shared_log.specs.Shares.{Shared}
use Rattle.tp_shared_log.proofs.share.LogShare.leave.Goals as goal

pub returns-clause-slip : goal.returns-clause-slip
returns-clause-slip g c =
    let pass = c.self.invariant.4 in
    let of = c.new.ensures.of ∙ ap (λ (s : Shared). s.of) c.self.view_is in
    let receipts = c.new.ensures.receipts pass.0 c.self.inside.receipts.items pass.1 ∙ ap (λ (s : Shared). s.receipts) c.self.view_is in
    λ i. record { of = of i; receipts = receipts i }
