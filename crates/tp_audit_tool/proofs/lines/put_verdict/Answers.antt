use Rattle.tp_text_builder.proofs.Added.{adds_then}
use Rattle.tp_audit_tool.proofs.lines.put_verdict.Goals as goal

pub returns-in-Differ : goal.returns-in-Differ
returns-in-Differ c =
    rw c.in-Differ.is
    (adds_then c.word-in-Differ.ensures
    (adds_then c.aaid.ensures
    (adds_then c.space.ensures
    (adds_then c.site.ensures
    (adds_then c.next_short.ensures
    (adds_then c.space-in-Differ.ensures
    (adds_then c.site-in-Differ.ensures c.next_short-in-Differ.ensures)))))))
