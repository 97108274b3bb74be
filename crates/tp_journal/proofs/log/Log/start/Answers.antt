use Rattle.tp_journal.proofs.Kept.{kept}
use Rattle.tp_journal.proofs.log.Log.start.Goals as goal

pub invariant_of-result : goal.invariant_of-result
invariant_of-result g c =
    let starts = (c.in-Ok.ensures {u = tt}).started in
    record { small = starts.0; kept = kept _ _ _ _ starts; place = starts.3 }
