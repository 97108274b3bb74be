use Rattle.std.proofs.Common.{◌≡◌, None, subst, arith}
use Rattle.tp_names.specs.Grammar.{Begins, IsBadAt}
use Rattle.tp_names.proofs.Numbers.{bytes_from}
use Rattle.tp_logrec.specs.Decoding.{IfBad}
use Rattle.tp_logrec.specs.RecordReading.{record_grammar, record_in}
use Rattle.tp_journal.proofs.Decoded.{front_text, no_text}
use Rattle.tp_journal.proofs.records.read_text.Goals as goal

pub returns-in-Ok-2 : goal.returns-in-Ok-2
returns-in-Ok-2 c =
    let body = c.args.body.now in
    let begins : Begins (record_grammar c.version.result) c.in-Ok.rec c.in-Ok.len body = (c.in-Ok.ensures {u = tt}).found in
    subst (λ v. record_in v body ≡ None) c.version.ensures (front_text c.version.result body c.in-Ok.rec c.in-Ok.len begins c.if-len-body.false)

pub returns-in-BadRecord : goal.returns-in-BadRecord
returns-in-BadRecord c =
    let body = c.args.body.now in
    let bad : IsBadAt (record_grammar c.version.result) body c.in-BadRecord.at = subst (IfBad (record_grammar c.version.result) body) c.in-BadRecord.is ((c.in-Err.ensures {u = tt}).bad) in
    subst (λ v. record_in v body ≡ None) c.version.ensures (no_text c.version.result body c.in-BadRecord.at (bytes_from body (λ i. omega (arith, c.type_inv.body i))) bad)
