use Rattle.std.proofs.Common.{◌++◌, ◌+◌, List, ℕ, drop, arith, ap, sym, subst, ◌∙◌}
use Rattle.tp_names.specs.Bytes.{child_bytes, each_child_bytes}
use Rattle.tp_names.specs.Writing.{Keeps}
use Rattle.tp_logrec.proofs.Writes.{keeps_more, keeps_through, child_next, on_err}
use Rattle.tp_logrec.proofs.encode.write_each_child.Goals as goal

pub returns-in_err-write_child-clause-err : goal.returns-in_err-write_child-clause-err
returns-in_err-write_child-clause-err c = on_err _ _ (keeps_through c.args.out.now c.loop-child.out c.write_child.new.out c.loop-child.invariant.kept c.in_err-write_child.ensures.err)

pub loop-child-preserved : goal.loop-child-preserved
loop-child-preserved c =
    let l = c.loop-child in
    let e = c.in_ok-write_child.ensures.ok in
    record {
      kept = subst (λ (w : List ℕ). Keeps c.args.out.now w) (sym e) (keeps_more c.args.out.now l.out (child_bytes c.child-item.result) l.invariant.kept);
      text = ap (λ (w : List ℕ). w ++ each_child_bytes (drop (l.child-index + 1) c.args.children.now)) e
          ∙ child_next c.args.children.now l.child-index c.child-item.result l.out (omega arith) c.child-item.is ∙ l.invariant.text;
    }
