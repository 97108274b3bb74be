use Rattle.std.proofs.Common.{refl}
use Rattle.tp_commit.proofs.Texts.{commit_tells}
use Rattle.tp_commit.proofs.laws.a_text_tells_a_transaction.Goals as goal

pub returns : goal.returns
returns c = record { ready = λ n k s cs h. refl; commit = commit_tells }
