use Rattle.std.proofs.Common.{◌≡◌, ℕ, suc, ◌+◌, Option, Ok, List, refl, ap, subst, arith}
use Rattle.tp_streams.specs.Taken.{Place}
use Rattle.tp_streams.specs.Feeds.{Finds}
use Rattle.tp_streams.proofs.Handed.{handed_out}
use Rattle.tp_streams.proofs.intake.Intake.next.Goals as goal

pub returns-in-Ok-Some-clause-leaves : goal.returns-in-Ok-Some-clause-leaves
returns-in-Ok-Some-clause-leaves g c =
    let f = c.self.inside.feed in
    let left = g.S.Source.left c.args.source.now in
    let rest = g.S.Source.left c.seek.new.source in
    let at : c.self.inside.at + 1 ≡ suc c.args.self.now.at = omega (arith, ap (λ (p : Place). p.at) c.self.view_is) in
    let new : Place = record { held = c.seek.new.feed.pending; at = c.self.inside.at + 1; stop = c.self.inside.stop } in
    handed_out c.args.self.now new f c.seek.new.feed left rest c.in-Ok-Some.body (ap (λ (p : Place). p.held) c.self.view_is) refl at c.in_default.is
    (subst (λ (o : Option (List ℕ)). Finds f left (Ok o) c.seek.new.feed rest) c.in-Ok-Some.field-0-is c.in-Ok-Some.ensures.leaves)
