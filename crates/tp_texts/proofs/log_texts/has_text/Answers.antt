-- The record is written, and that is its text.
use Rattle.tp_texts.proofs.log_texts.has_text.Goals as goal

pub returns : goal.returns
returns c = (λ yes. (c.record_has_text.ensures.0 yes).text, λ text. c.record_has_text.ensures.1 (record { text = text }))
