use Rattle.tp_bound.proofs.TakenBodies.{one_more}
use Rattle.tp_bound.proofs.current.Current.push.Goals as goal

pub invariant_of-self-in-Ok : goal.invariant_of-self-in-Ok
invariant_of-self-in-Ok c =
    one_more c.self.inside.writes c.push.new.self c.args.write c.self.inside.texts c.extend_from_slice.new.self c.args.text.now c.self.invariant.0 c.self.invariant.1 c.requires.has_text
    c.requires.is_text (rw (← c.self.view_is) at c.requires.room) c.in-Ok.ensures.ok c.in_ok-extend_from_slice.ensures.ok
