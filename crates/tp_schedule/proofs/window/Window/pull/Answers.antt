use Rattle.std.proofs.Common.{◌≡◌, ◌+◌, ◌-◌, ◌++◌, take, drop, arith, rules}
use Rattle.tp_schedule.proofs.Buffers.{gained, behind_those}
use Rattle.tp_schedule.proofs.window.Window.pull.Goals as goal

pub returns-clause-gains : goal.returns-clause-gains
returns-clause-gains g c =
    let s = c.self.inside in
    let n = c.in_ok-count.count in
    let w = s.end - s.start in
    let b = c.to_front.new.buffer in
    let more = c.read.new.buf in
    let post = drop (12288 - w) (drop w b) in
    let is : take (w + n - 0) (drop 0 (take w b ++ (more ++ post))) ≡ c.args.self.now ++ take n more =
    behind_those c.args.self.now s.buffer b more post s.start w n (w + n - 0) c.to_front.ensures c.self.view_is (search rules) (search rules) (omega arith) in
    gained c.args.self.now _ _ _ more n _ is (search rules) (search rules) c.in_ok-count.ensures.bytes
