use Rattle.std.proofs.Common.{◌+◌, ◌-◌, ◌≤◌, List, ℕ, length, take, drop, ap, ◌∙◌, arith}
use Rattle.tp_schedule.proofs.Buffers.{passed_over, at_most}
use Rattle.tp_schedule.proofs.window.Window.pass.Goals as goal

pub returns : goal.returns
returns c =
    let s = c.self.inside in
    let size : length (take (s.end - s.start) (drop s.start s.buffer)) ≤ s.end - s.start = at_most (s.end - s.start) (drop s.start s.buffer) in
    let within : s.start + c.args.count ≤ s.end = omega (arith, c.requires, ap length c.self.view_is, size, c.self.invariant.0) in
    passed_over s.buffer s.start s.end c.args.count within ∙ ap (λ (t : List ℕ). drop c.args.count t) c.self.view_is
