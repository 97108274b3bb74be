use Rattle.std.proofs.Common.{◌∷◌, [], codes}
use Rattle.tp_model.specs.Words.{decimal}
use Rattle.tp_model.specs.OutText.{sent_words}
use Rattle.tp_text_builder.proofs.Added.{adds_then}
use Rattle.tp_text_builder.proofs.Joined.{joined}
use Rattle.tp_transcript.proofs.HasWord.{sent_has}
use Rattle.tp_transcript.proofs.out_line.put_send.Goals as goal

pub returns : goal.returns
returns c =
    joined (codes "send") (decimal c.args.frame ∷ decimal c.args.from ∷ decimal c.args.to ∷ []) (sent_words c.args.rec.now) (sent_has c.args.rec.now)
    (adds_then c.word.ensures (adds_then c.next_short.ensures (adds_then c.next_short-2.ensures c.next_short-3.ensures)))
    c.space.ensures c.put_sent.ensures
