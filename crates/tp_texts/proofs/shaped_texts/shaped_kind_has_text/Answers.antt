-- What is shown of a record of each kind.
use Rattle.tp_texts.proofs.shaped_texts.shaped_kind_has_text.Goals as goal

pub returns-in-Ready : goal.returns-in-Ready
returns-in-Ready c = rw c.in-Ready.is c.ready_has_text.ensures

pub returns-in-Heuristic : goal.returns-in-Heuristic
returns-in-Heuristic c = rw c.in-Heuristic.is c.heuristic_has_text.ensures

pub returns-in-Commit : goal.returns-in-Commit
returns-in-Commit c = rw c.in-Commit.is c.commit_has_text.ensures

pub returns-in-Damage : goal.returns-in-Damage
returns-in-Damage c = rw c.in-Damage.is c.damage_has_text.ensures

pub returns-in-End : goal.returns-in-End
returns-in-End c = rw c.in-End.is c.end_has_text.ensures
