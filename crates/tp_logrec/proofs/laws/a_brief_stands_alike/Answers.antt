use Rattle.tp_logrec.proofs.Briefs.{brief_stands_alike, brief_of_brief}
use Rattle.tp_logrec.proofs.laws.a_brief_stands_alike.Goals as goal

pub returns : goal.returns
returns c = record { standing = brief_stands_alike; again = brief_of_brief }
