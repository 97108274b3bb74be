use Rattle.std.proofs.Common.{rules, arith}
use Rattle.tp_model.specs.LineReading.{hex_octets}
use Rattle.tp_schedule.proofs.Values.{few_ok, few_long, few_refused}
use Rattle.tp_schedule.proofs.value.read_few.Goals as goal

pub returns-in_err-octets : goal.returns-in_err-octets
returns-in_err-octets c = few_refused (hex_octets c.args.word.now) c.in_err-octets.field-0.0 _ c.in_err-octets.ensures (search rules)

pub returns-then-len-gt-MAX_OCTETS : goal.returns-then-len-gt-MAX_OCTETS
returns-then-len-gt-MAX_OCTETS c = few_long (hex_octets c.args.word.now) c.in_ok-octets.octets c.in_ok-octets.ensures (omega arith)

pub returns : goal.returns
returns c = few_ok (hex_octets c.args.word.now) c.in_ok-octets.octets c.in_ok-octets.ensures (omega arith)
