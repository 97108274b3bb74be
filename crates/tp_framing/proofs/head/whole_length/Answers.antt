use Rattle.std.proofs.Common.{arith, length-take, length-drop, ◌∙◌, ◌≤◌, ◌<◌, ◌-◌, length, drop}
use Rattle.tp_framing.proofs.Fronts.{bytes_bad, bytes_part, bytes_whole, length_is_bad, length_is_good}
use Rattle.tp_framing.proofs.head.whole_length.Goals as goal

pub returns-then-length-eq0 : goal.returns-then-length-eq0
returns-then-length-eq0 c =
    bytes_bad c.args.bytes.now c.from-length.result (λ i. omega (arith, c.type_inv.bytes i)) c.in-len2-up.len_at_least (c.from-length.ensures ∙ c.from_be_bytes.ensures)
    (length_is_bad c.from-length.result c.then-length-eq0.either)

pub returns-then-length-body : goal.returns-then-length-body
returns-then-length-body c =
    let bytes = c.args.bytes.now in
    let fits : c.from-length.result ≤ length (drop 2 bytes) = omega (arith, length-take (length bytes - 2) (drop 2 bytes)) in
    bytes_whole bytes c.from-length.result (λ i. omega (arith, c.type_inv.bytes i)) c.in-len2-up.len_at_least (c.from-length.ensures ∙ c.from_be_bytes.ensures)
    (length_is_good c.from-length.result c.if-length-eq0.false c.if-length-gt-LONGEST.false) fits

pub returns-else-length-body : goal.returns-else-length-body
returns-else-length-body c =
    let bytes = c.args.bytes.now in
    let few : length (drop 2 bytes) < c.from-length.result = omega (arith, length-take (length bytes - 2) (drop 2 bytes), length-drop 2 bytes) in
    bytes_part bytes c.from-length.result c.in-len2-up.len_at_least (c.from-length.ensures ∙ c.from_be_bytes.ensures)
    (length_is_good c.from-length.result c.if-length-eq0.false c.if-length-gt-LONGEST.false) few
