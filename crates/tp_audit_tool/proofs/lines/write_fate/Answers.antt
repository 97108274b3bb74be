use Rattle.tp_text_builder.proofs.Added.{adds_then, done_ok}
use Rattle.tp_audit_tool.proofs.lines.write_fate.Goals as goal

pub returns : goal.returns
returns c =
    let node = adds_then c.word.ensures (adds_then c.site.ensures c.next_short.ensures) in
    let key = adds_then c.space.ensures c.put_key.ensures in
    let state = adds_then c.space-2.ensures (rw c.word_of.ensures at c.word-2.ensures) in
    let line = adds_then (adds_then (adds_then node key) state) c.byte.ensures in
    done_ok c.done.result c.args.out.now c.done.new.out _ _ _ c.after-text.ensures line c.done.ensures.ok
