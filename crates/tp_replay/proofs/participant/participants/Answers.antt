use Rattle.std.proofs.Common.{◌≡◌, sym, subst, rules}
use Rattle.tp_replay.specs.Certain.{AreCertain}
use Rattle.tp_replay.specs.Participants.{may_answer, numbered}
use Rattle.tp_replay.specs.Transcribing.{may_of}
use Rattle.tp_replay.proofs.CertainStores.{numbered_certain}
use Rattle.tp_replay.proofs.participant.participants.Goals as goal

pub returns-clause-certain : goal.returns-clause-certain
returns-clause-certain g c = λ never well.
    let same : c.match-store-7.members.items ≡ numbered c.args.store = search rules in
    subst (λ ms. AreCertain (may_of (may_answer g.D.Disk.fault_count) ms)) (sym same) (numbered_certain g.D.Disk.fault_count never c.args.store well)
