use Rattle.std.proofs.Common.{◌≡◌, drop}
use Rattle.tp_bound.specs.Content.{made}
use Rattle.tp_bound.proofs.content.Content.with.Given as goal

abbrev pub invariant-loop-write : goal.invariant-loop-write
invariant-loop-write l = made l.next (drop l.write-index l.writes) ≡ made l.self l.writes
