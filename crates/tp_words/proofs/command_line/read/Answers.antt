use Rattle.std.proofs.Common.{map}
use Rattle.tp_words.proofs.Reading.{refused_by, taken, unknown}
use Rattle.tp_words.proofs.command_line.read.Goals as goal

pub returns-in_err-given : goal.returns-in_err-given
returns-in_err-given c =
    let r = refused_by (map (λ w. w.now) c.args.words.now) c.in_err-given.field-0.0 c.from_residual.result c.in_err-given.ensures.kinds c.from_residual.ensures.1 in
    record { ok = r.ok; usage = r.usage; plain = r.plain }

pub returns-in-Some : goal.returns-in-Some
returns-in-Some c =
    let r = taken (map (λ w. w.now) c.args.words.now) c.in_ok-given.given c.in-Some.command c.in_ok-given.ensures.kinds c.in_ok-given.ensures.given
    (λ s is. c.in-Some.ensures s is) in
    record { ok = r.ok; usage = r.usage; plain = r.plain }

pub returns-in-None : goal.returns-in-None
returns-in-None c =
    let r = unknown (map (λ w. w.now) c.args.words.now) c.in_ok-given.given c.in_ok-given.ensures.kinds c.in_ok-given.ensures.given
    (λ s is. c.in-None.ensures s is) in
    record { ok = r.ok; usage = r.usage; plain = r.plain }
