use Rattle.std.proofs.Common.{arith}
use Rattle.tp_text_builder.proofs.Added.{adds_then, adds_same, adds_nothing}
use Rattle.tp_draw.proofs.label.put_label.Goals as goal

pub returns-in-Take : goal.returns-in-Take
returns-in-Take c = rw c.in-Take.is (adds_then (rw c.from.ensures at c.number.ensures) c.word.ensures)

pub returns-in-Send : goal.returns-in-Send
returns-in-Send c =
    rw c.in-Send.is
    (adds_then (rw c.from-in-Send.ensures at c.number-in-Send.ensures) (adds_then c.space.ensures (rw c.sent_words.ensures at c.word-in-Send.ensures)))

pub returns-in-Tell : goal.returns-in-Tell
returns-in-Tell c = rw c.in-Tell.is (rw c.told_word.ensures at c.word-in-Tell.ensures)

pub returns-in-Refused : goal.returns-in-Refused
returns-in-Refused c = rw c.in-Refused.is (adds_then c.word-in-Refused.ensures (rw c.reason.ensures at c.word-in-Refused-2.ensures))

pub returns-in-Dropped : goal.returns-in-Dropped
returns-in-Dropped c = rw c.in-Dropped.is (adds_then c.word-in-Dropped.ensures (rw c.reason-in-Dropped.ensures at c.word-in-Dropped-2.ensures))

pub returns-in-Lost : goal.returns-in-Lost
returns-in-Lost c = rw c.in-Lost.is (adds_then (rw c.from-in-Lost.ensures at c.number-in-Lost.ensures) c.word-in-Lost.ensures)

pub returns-in-Stopped : goal.returns-in-Stopped
returns-in-Stopped c = rw c.in-Stopped.is (adds_then c.word-in-Stopped.ensures c.fate.ensures)

pub returns-in-State : goal.returns-in-State
returns-in-State c = rw c.in-State.is (adds_then c.phase.ensures (adds_then c.word-in-State.ensures c.next_number.ensures))

pub returns-in_default : goal.returns-in_default
returns-in_default c = adds_same (adds_nothing c.args.text.now) (grind arith)
