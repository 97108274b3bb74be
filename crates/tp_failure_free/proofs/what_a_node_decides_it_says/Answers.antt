use Rattle.tp_failure_free.proofs.Said.{says_ready, says_commit, says_done, says_leaving}
use Rattle.tp_failure_free.proofs.what_a_node_decides_it_says.Goals as goal

pub returns-clause-ready : goal.returns-clause-ready
returns-clause-ready c = says_ready

pub returns-clause-commit : goal.returns-clause-commit
returns-clause-commit c = says_commit

pub returns-clause-done : goal.returns-clause-done
returns-clause-done c = says_done

pub returns-clause-leaving : goal.returns-clause-leaving
returns-clause-leaving c = says_leaving
