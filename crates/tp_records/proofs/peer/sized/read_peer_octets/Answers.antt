use Rattle.std.proofs.Common.{◌≡◌, ◌∙◌, sym, ap, Result, Err, List, ℕ}
use Rattle.tp_records.specs.BodyReading.{is_peer_text}
use Rattle.tp_records.proofs.Sent.{sent_taken, sent_other, sent_none_at}
use Rattle.tp_records.proofs.peer.sized.read_peer_octets.Goals as goal

pub returns-then-branch : goal.returns-then-branch
returns-then-branch c =
    let same : c.in_ok-is_peer_text-in-Ok.field-0 ≡ is_peer_text c.as_slice.result.now = c.in_ok-is_peer_text-in-Ok.ensures in
    sent_taken c.args.from.now c.in-Ok.octets c.octets.new.self c.in-Ok.ensures (sym (ap is_peer_text c.as_slice.ensures) ∙ sym same ∙ c.if-branch.true)

pub returns-else-branch : goal.returns-else-branch
returns-else-branch c =
    let same : c.in_ok-is_peer_text-in-Ok.field-0 ≡ is_peer_text c.as_slice.result.now = c.in_ok-is_peer_text-in-Ok.ensures in
    sent_other c.args.from.now c.in-Ok.octets c.octets.new.self c.in-Ok.ensures (sym (ap is_peer_text c.as_slice.ensures) ∙ sym same ∙ c.if-branch.false)
    ∙ ap (λ (n : ℕ). let r : Result (List ℕ × List ℕ) ℕ = Err n in r) (sym c.place-left.ensures)

pub returns-in-Err-Bad : goal.returns-in-Err-Bad
returns-in-Err-Bad c = sent_none_at c.args.from.now c.in-Err-Bad.field-0 c.octets.new.self _ c.in-Err-Bad.ensures c.in-Err-Bad.field-0-is ∙ ap (λ (n : ℕ). let r : Result (List ℕ × List ℕ) ℕ = Err n in r) (sym c.place-left.ensures)
