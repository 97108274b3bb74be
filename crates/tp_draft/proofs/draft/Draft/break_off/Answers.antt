use Rattle.std.proofs.Common.{◌∙◌, sym}
use Rattle.tp_model.specs.Arrivals.{break_off}
use Rattle.tp_draft.specs.Calls.{breaking}
use Rattle.tp_draft.proofs.Drafts.{plays_same_at}
use Rattle.tp_draft.proofs.Calls.{stays}
use Rattle.tp_draft.proofs.Losses.{breaks_none, breaks_pair}
use Rattle.tp_draft.proofs.draft.Draft.break_off.Goals as goal

pub returns-in-None : goal.returns-in-None
returns-in-None c =
    let a = c.args.self.now in
    sym (stays a (λ who. break_off who c.args.from c.args.rec.now) (breaks_none a.who c.args.from c.args.rec.now a.move.next (sym c.broken_pair.ensures ∙ c.in-None.is)))

pub returns-in-Some : goal.returns-in-Some
returns-in-Some c =
    let a = c.args.self.now in
    plays_same_at c.break_pair.result a c.break_pair.new.self (λ who. break_off who c.args.from c.args.rec.now) (breaking c.args.from c.in-Some.x c.in-Some.y)
    (breaks_pair a.who c.args.from c.args.rec.now a.move.next c.in-Some.x c.in-Some.y (sym c.broken_pair.ensures ∙ c.in-Some.is)) c.break_pair.ensures
