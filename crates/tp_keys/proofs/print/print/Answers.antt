use Rattle.std.proofs.Common.{rules, ◌≡◌, ◌++◌, ℕ, List, [], ◌∷◌, Some, ap, subst, ◌∙◌, arith}
use Rattle.tp_streams.specs.Written.{WritesPrefix}
use Rattle.tp_keys.specs.Lines.{key_line, key_lines}
use Rattle.tp_keys.specs.Printing.{WritesPart}
use Rattle.tp_keys.proofs.Writing.{Bytes, shown, where_ok, where_err, anyway, part_more, stops_in, stops_last, whole}
use Rattle.tp_keys.proofs.print.print.Goals as goal

pub loop-key-preserved : goal.loop-key-preserved
loop-key-preserved g c = record {
  kept = omega (arith, c.loop-key.invariant.kept, c.in_ok-write_long.ensures.kept);
  so_far = λ before h.
      let all = key_lines c.args.bound.now.store.content in
      let written = g.K.Sink.written in
      let key = c.in-Some.key.now.items in
      let value = c.in-Some.value.now.items in
      let first : c.loop-key.key-iterator ≡ (c.in-Some.key.now, c.in-Some.value.now) ∷ c.next.new.self = search rules in
      let so_far = subst (λ (es : List (Bytes × Bytes)). WritesPart before all (c.loop-key.text ++ key_lines (shown es)) (written c.loop-key.sink)) first (c.loop-key.invariant.so_far before h) in
      let spelled = ap (λ (k : List ℕ). key_line k c.as_slice-in-loop-key.result.now) c.as_slice.ensures.value ∙ ap (λ (v : List ℕ). key_line key v) c.as_slice-in-loop-key.ensures.value in
      let longer = c.in_ok-write_line.ensures.ok ∙ ap (λ (t : List ℕ). c.loop-key.text ++ t) spelled in
      part_more before all c.loop-key.text c.write_line.new.text c.write_long.new.text (key_line key value) (key_lines (shown c.next.new.self)) (written c.loop-key.sink) (written c.write_long.new.sink)
      so_far longer c.in_ok-write_long.ensures.part;
}

pub returns-in_err-write_long-clause-prefix : goal.returns-in_err-write_long-clause-prefix
returns-in_err-write_long-clause-prefix g c = anyway c.from_residual-in_err-write_long.result (λ before h.
    let all = key_lines c.args.bound.now.store.content in
    let written = g.K.Sink.written in
    let key = c.in-Some.key.now.items in
    let value = c.in-Some.value.now.items in
    let first : c.loop-key.key-iterator ≡ (c.in-Some.key.now, c.in-Some.value.now) ∷ c.next.new.self = search rules in
    let so_far = subst (λ (es : List (Bytes × Bytes)). WritesPart before all (c.loop-key.text ++ key_lines (shown es)) (written c.loop-key.sink)) first (c.loop-key.invariant.so_far before h) in
    let spelled = ap (λ (k : List ℕ). key_line k c.as_slice-in-loop-key.result.now) c.as_slice.ensures.value ∙ ap (λ (v : List ℕ). key_line key v) c.as_slice-in-loop-key.ensures.value in
    let longer = c.in_ok-write_line.ensures.ok ∙ ap (λ (t : List ℕ). c.loop-key.text ++ t) spelled in
    stops_in before all c.loop-key.text c.write_line.new.text (key_line key value) (key_lines (shown c.next.new.self)) (written c.loop-key.sink) (written c.write_long.new.sink) so_far longer
    c.in_err-write_long.ensures.prefix)

pub returns-clause-whole : goal.returns-clause-whole
returns-clause-whole g c = where_ok c.write_all.result (λ wrote before h.
    let all = key_lines c.args.bound.now.store.content in
    let written = g.K.Sink.written in
    let none : c.loop-key.key-iterator ≡ [] = search rules in
    let so_far = subst (λ (es : List (Bytes × Bytes)). WritesPart before all (c.loop-key.text ++ key_lines (shown es)) (written c.loop-key.sink)) none (c.loop-key.invariant.so_far before h) in
    whole before all c.loop-key.text (written c.loop-key.sink) (written c.write_all.new.sink) so_far (λ b e. wrote b e ∙ ap (λ (t : List ℕ). Some (b ++ t)) c.as_slice-2.ensures)) c.write_all.ensures.whole

pub returns-clause-prefix : goal.returns-clause-prefix
returns-clause-prefix g c = where_err c.write_all.result (λ wrote before h.
    let all = key_lines c.args.bound.now.store.content in
    let written = g.K.Sink.written in
    let none : c.loop-key.key-iterator ≡ [] = search rules in
    let so_far = subst (λ (es : List (Bytes × Bytes)). WritesPart before all (c.loop-key.text ++ key_lines (shown es)) (written c.loop-key.sink)) none (c.loop-key.invariant.so_far before h) in
    stops_last before all c.loop-key.text (written c.loop-key.sink) (written c.write_all.new.sink) so_far
    (λ b e. subst (λ (t : List ℕ). WritesPrefix b t (written c.write_all.new.sink)) c.as_slice-2.ensures (wrote b e))) c.write_all.ensures.prefix
