use Rattle.std.proofs.Common.{refl}
use Rattle.tp_framing.proofs.Handing.{handing_at, hands_kept}
use Rattle.tp_framing.proofs.frames.Frames.next.Goals as goal

pub returns-in-Ok-Some : goal.returns-in-Ok-Some
returns-in-Ok-Some c =
    let whole = rw c.in-Ok-Some.field-0-is at c.in-Ok-Some.ensures in
    let f = c.self.inside in
    let h = handing_at f.bytes.items c.deref-in-Ok-Some.result.now c.deref.result.now f.start f.handed c.in-Ok-Some.length c.args.self.now c.self.view_is c.deref-in-Ok-Some.ensures.value c.deref.ensures.value whole in
    ((refl, λ _. tt, h.after), record { rests = tt; answer = h.answer; body = h.hands; bad = tt; kept = hands_kept _ _ _ h.hands })
