use Rattle.std.proofs.Common.{◌≡◌, Err, rules}
use Rattle.tp_transcript.specs.OutWords.{parts, node_numbers}
use Rattle.tp_transcript.proofs.OutNumbers.{cut_shorter, one_further, last_one, first_refused, last_refused}
use Rattle.tp_transcript.proofs.out_values.read_numbers.Goals as goal

pub returns-in_err-push_number : goal.returns-in_err-push_number
returns-in_err-push_number c =
    let is : c.from_residual.result ≡ Err c.in_err-push_number.field-0.0 = search rules in
    rw is (first_refused c.loop-first.by c.loop-first.by c.push_number.new.by c.loop-first.rest.now c.in-Some.first.now c.in-Some.more.now (node_numbers (parts 44 c.args.word.now)) _ c.in-Some.ensures c.loop-first.invariant c.in_err-push_number.ensures)

pub loop-first-smaller : goal.loop-first-smaller
loop-first-smaller c = cut_shorter 44 c.loop-first.rest.now c.in-Some.first.now c.in-Some.more.now c.in-Some.ensures

pub loop-first-preserved : goal.loop-first-preserved
loop-first-preserved c =
    let pushed = c.in_ok-push_number.ensures in
    one_further c.loop-first.by c.push_number.new.by c.loop-first.rest.now c.in-Some.first.now c.in-Some.more.now pushed.0 (node_numbers (parts 44 c.args.word.now)) c.in-Some.ensures c.loop-first.invariant pushed.1 pushed.2

pub returns-in_err-push_number-2 : goal.returns-in_err-push_number-2
returns-in_err-push_number-2 c =
    let is : c.from_residual-in_err-push_number-2.result ≡ Err c.in_err-push_number-2.field-0.0 = search rules in
    rw is (last_refused c.loop-first.by c.loop-first.by c.push_number-2.new.by c.loop-first.rest.now (node_numbers (parts 44 c.args.word.now)) _ c.in_default.ensures c.loop-first.invariant c.in_err-push_number-2.ensures)

pub returns : goal.returns
returns c =
    let pushed = c.in_ok-push_number-2.ensures in
    last_one c.loop-first.by c.push_number-2.new.by c.loop-first.rest.now pushed.0 (node_numbers (parts 44 c.args.word.now)) c.in_default.ensures c.loop-first.invariant pushed.1 pushed.2
