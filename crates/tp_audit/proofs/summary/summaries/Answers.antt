use Rattle.std.proofs.Common.{◌≡◌, Some, None, List, [], take, sym, ap, ◌∙◌}
use Rattle.std.specs.Map.{lookup, set_value}
use Rattle.indexmap.specs.IndexMap.{insert_entry}
use Rattle.tp_logrec.specs.declared.owner.Owner.{Owner}
use Rattle.tp_logrec.specs.Order.{is_owner}
use Rattle.tp_audit.specs.declared.summary.Summary.{Summary}
use Rattle.tp_audit.specs.Entries.{keys_from}
use Rattle.tp_audit.specs.Summaries.{summary_by, summaries}
use Rattle.tp_audit.proofs.Summed.{keys_next, none_next, some_next, summaries_set, summaries_put}
use Rattle.tp_audit.proofs.summary.summaries.Goals as goal

pub loop-rec-preserved-in_default : goal.loop-rec-preserved-in_default
loop-rec-preserved-in_default c =
    let ls = keys_from [] (take c.loop-rec.rec-index c.args.list.now) in
    let next = keys_next c.args.list.now c.loop-rec.rec-index c.rec-item.result c.loop-rec-test.true c.rec-item.is in
    c.loop-rec.invariant ∙ ap summaries (sym (next ∙ none_next ls c.rec-item.result (sym c.owner.ensures ∙ c.in_default.is)))

pub loop-rec-preserved-in-Some-get_mut : goal.loop-rec-preserved-in-Some-get_mut
loop-rec-preserved-in-Some-get_mut c =
    let ls = keys_from [] (take c.loop-rec.rec-index c.args.list.now) in
    let r = c.rec-item.result in
    let o = c.in-Some.owner in
    let s = c.in-Some-get_mut.summary.now in
    let next = keys_next c.args.list.now c.loop-rec.rec-index r c.loop-rec-test.true c.rec-item.is ∙ some_next ls r o (sym c.owner.ensures ∙ c.in-Some.is) in
    let found : lookup (is_owner o) (summaries ls) ≡ Some s = ap (lookup (is_owner o)) (sym c.loop-rec.invariant) ∙ sym c.in-Some-get_mut.ensures.value in
    (c.get_mut.follows.holds c.with.result).0 ∙ ap (λ (es : List (Owner × Summary)). set_value (is_owner o) es c.with.result) c.loop-rec.invariant
    ∙ ap (set_value (is_owner o) (summaries ls)) c.with.ensures ∙ summaries_set ls o r s found ∙ ap summaries (sym next)

pub loop-rec-preserved : goal.loop-rec-preserved
loop-rec-preserved c =
    let ls = keys_from [] (take c.loop-rec.rec-index c.args.list.now) in
    let r = c.rec-item.result in
    let o = c.in-Some.owner in
    let next = keys_next c.args.list.now c.loop-rec.rec-index r c.loop-rec-test.true c.rec-item.is ∙ some_next ls r o (sym c.owner.ensures ∙ c.in-Some.is) in
    let missing : lookup (is_owner o) (summaries ls) ≡ None = ap (lookup (is_owner o)) (sym c.loop-rec.invariant) ∙ sym c.in_default-get_mut.ensures.value in
    let put = c.in_ok-insert.ensures in
    let same = ap (λ m. m.entries) c.get_mut.follows.holds-at-none ∙ c.loop-rec.invariant in
    put.entries ∙ ap (λ (es : List (Owner × Summary)). insert_entry is_owner es o c.with-in-loop-rec.result) same
    ∙ ap (insert_entry is_owner (summaries ls) o) (c.with-in-loop-rec.ensures ∙ ap (λ (t : Summary). summary_by t r) c.new.ensures)
    ∙ summaries_put ls o r missing ∙ ap summaries (sym next)
