use Rattle.tp_bound.proofs.Committing.{content_is_of_branches}
use Rattle.tp_stores.proofs.Served.{served_is_heard, of_branches}
use Rattle.tp_stores.proofs.Counted.{counts_commits}
use Rattle.tp_stores.proofs.a_store_holds_its_branches.Goals as goal

pub returns-clause-of_branches : goal.returns-clause-of_branches
returns-clause-of_branches c = of_branches

pub returns-clause-holds : goal.returns-clause-holds
returns-clause-holds c = λ es x first last hs here alone served none no_current hears. content_is_of_branches first last hs none no_current hears (of_branches es x hs here alone served)

pub returns-clause-counts : goal.returns-clause-counts
returns-clause-counts c = counts_commits

pub returns-clause-agree : goal.returns-clause-agree
returns-clause-agree c = served_is_heard
