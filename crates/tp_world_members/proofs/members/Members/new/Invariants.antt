use Rattle.std.proofs.Common.{◌≡◌, ◌++◌, map, Some}
use Rattle.tp_world_members.proofs.members.Members.new.Given as goal

abbrev pub invariant-loop-member : goal.invariant-loop-member
invariant-loop-member g l = map (λ x. Some x) l.fn.members.items ≡ l.slots.items ++ map (λ x. Some x) l.member-iterator.rest.items
