-- What is told last since the face was made is what its code says.
use Rattle.std.proofs.Common.{sym, ap, ◌∙◌}
use Rattle.tx_face.specs.Face.{Face}
use Rattle.tx_face.proofs.Meaning.{means_all}
use Rattle.tx_face.proofs.face.Face.code.Goals as goal

pub returns-clause-committed : goal.returns-clause-committed
returns-clause-committed g c = λ o gs past at es x older here history is. means_all es x at.since older here history (sym at.code ∙ ap (λ (f : Face g.row.K.Denot). f.code) (sym c.self.view_is) ∙ is)
