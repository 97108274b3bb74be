use Rattle.std.proofs.Common.{◌≡◌, ◌-◌, ◌++◌, ℕ, List, set, arith, ap, ◌∙◌}
use Rattle.tp_journal.proofs.Gathered.{opens_gate}
use Rattle.tp_journal.proofs.gathering.put_behind.Goals as goal

pub returns-clause-waits : goal.returns-clause-waits
returns-clause-waits c front is =
    let last = c.len-last.result - 1 in
    let longer : c.extend_from_slice.new.self.items ≡ c.args.waits.now.items ++ c.args.piece.now = (c.in_ok-extend_from_slice.ensures {u = tt}).items in
    ap (λ (l : List ℕ). set l last 1) longer ∙ opens_gate front c.args.piece.now c.args.waits.now.items last is (omega (arith, c.len-last.ensures, c.args.waits.now.ok.0))
