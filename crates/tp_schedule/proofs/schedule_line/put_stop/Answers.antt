use Rattle.std.proofs.Common.{ℕ, ◌∷◌, ap}
use Rattle.tp_model.specs.Words.{decimal}
use Rattle.tp_text_builder.proofs.Added.{adds_then, adds_same}
use Rattle.tp_schedule.proofs.schedule_line.put_stop.Goals as goal

pub returns : goal.returns
returns c =
    let at = adds_same c.next_short.ensures (ap (λ (n : ℕ). 32 ∷ decimal n) c.from.ensures) in
    adds_then c.word.ensures (adds_then c.site.ensures (adds_then c.word-2.ensures (adds_then at (adds_then c.word-3.ensures (adds_then c.octet.ensures c.word-4.ensures)))))
