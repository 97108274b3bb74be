use Rattle.std.proofs.Common.{◌≡◌}
use Rattle.tp_bound.specs.Content.{made}
use Rattle.tp_bound.proofs.content.Content.make.Given as goal

abbrev pub invariant-loop-write : goal.invariant-loop-write
invariant-loop-write l = made l.self l.write-iterator.rest.items ≡ made l.fn.self l.fn.writes
