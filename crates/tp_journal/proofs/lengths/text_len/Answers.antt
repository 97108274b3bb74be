use Rattle.std.proofs.Common.{◌++◌, ap}
use Rattle.tp_names.specs.Bytes.{addr_bytes, outcome_bytes, report_bytes}
use Rattle.tp_logrec.specs.RecordText.{head_bytes, superior_bytes}
use Rattle.tp_journal.specs.Records.{text}
use Rattle.tp_journal.proofs.Shorter.{children_fit}
use Rattle.tp_journal.proofs.lengths.text_len.Goals as goal

pub children_len-requires : goal.children_len-requires
children_len-requires c =
    let r = c.in-Ready in
    children_fit c.args.wide c.args.rec.now c.requires (head_bytes 2 r.node r.key ++ addr_bytes r.superior) r.children (ap (λ q. text c.args.wide q) r.is)

pub children_len-requires-in-Commit : goal.children_len-requires-in-Commit
children_len-requires-in-Commit c =
    let r = c.in-Commit in
    children_fit c.args.wide c.args.rec.now c.requires (head_bytes 4 r.node r.key ++ superior_bytes r.superior) r.children (ap (λ q. text c.args.wide q) r.is)

pub children_len-requires-in-Damage : goal.children_len-requires-in-Damage
children_len-requires-in-Damage c =
    let r = c.in-Damage in
    children_fit c.args.wide c.args.rec.now c.requires (head_bytes 5 r.node r.key ++ superior_bytes r.superior ++ (outcome_bytes r.side ++ report_bytes r.report)) r.owed (ap (λ q. text c.args.wide q) r.is)
