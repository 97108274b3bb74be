use Rattle.std.proofs.Common.{◌≡◌, sym, ap, ◌∙◌, subst}
use Rattle.tp_journal.specs.Log.{IsBody}
use Rattle.tp_journal.specs.Records.{HasText, text, wide_of}
use Rattle.tp_journal.proofs.RecordBodies.{wide_is}
use Rattle.tp_journal.proofs.Sizes.{text_is_body}
use Rattle.tp_journal.proofs.Generated.{all_at, shelf_more, text_more}
use Rattle.tp_journal.proofs.records.generation.Goals as goal

pub put-requires-clause-says : goal.put-requires-clause-says
put-requires-clause-says c =
    let wide = c.args.wide in
    let rec = c.rec-item.result in
    let has : HasText wide rec = subst (HasText wide) (sym c.rec-item.is) (all_at (HasText wide) c.args.list.now c.loop-rec.rec-index rec c.loop-rec-test.true c.requires) in
    let version : wide_of c.loop-rec.records ≡ wide = ap wide_of c.loop-rec.invariant.shelf ∙ wide_is wide _ in
    let body : c.as_slice.result.now ≡ text wide rec = c.as_slice.ensures ∙ (c.in_ok-body.ensures {u = tt}) in
    (subst (λ w. HasText w rec) (sym version) has, ap (λ w. text w rec) version ∙ sym body)

pub put_body-requires : goal.put_body-requires
put_body-requires c =
    let wide = c.args.wide in
    let rec = c.rec-item.result in
    let has : HasText wide rec = subst (HasText wide) (sym c.rec-item.is) (all_at (HasText wide) c.args.list.now c.loop-rec.rec-index rec c.loop-rec-test.true c.requires) in
    let body : c.as_slice-in-loop-rec.result.now ≡ text wide rec = c.as_slice-in-loop-rec.ensures ∙ (c.in_ok-body.ensures {u = tt}) in
    subst IsBody (sym body) (text_is_body wide rec has)

pub loop-rec-preserved : goal.loop-rec-preserved
loop-rec-preserved c =
    let wide = c.args.wide in
    let list = c.args.list.now in
    let i = c.loop-rec.rec-index in
    let rec = c.rec-item.result in
    let body : c.as_slice.result.now ≡ text wide rec = c.as_slice.ensures ∙ (c.in_ok-body.ensures {u = tt}) in
    let again : c.as_slice-in-loop-rec.result.now ≡ text wide rec = c.as_slice-in-loop-rec.ensures ∙ (c.in_ok-body.ensures {u = tt}) in
    record {
      shelf = shelf_more wide list i rec c.loop-rec-test.true c.rec-item.is c.loop-rec.records c.put.new.self c.as_slice.result.now c.loop-rec.invariant.shelf body c.in_ok-put.ensures.ok;
      written = text_more wide list i rec c.loop-rec-test.true c.rec-item.is c.loop-rec.text.items c.put_body.new.text.items c.as_slice-in-loop-rec.result.now c.loop-rec.invariant.written again (c.in_ok-put_body.ensures {u = tt});
    }
