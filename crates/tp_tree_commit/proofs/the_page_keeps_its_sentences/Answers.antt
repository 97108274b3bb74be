use Rattle.tp_tree_commit.proofs.Sentences.{keeps_sentences}
use Rattle.tp_tree_commit.proofs.the_page_keeps_its_sentences.Goals as goal

pub returns : goal.returns
returns c = keeps_sentences
