-- The start of a node whose current transaction stands in order among its arcs.
use Rattle.std.specs.Prelude.{not, Bool, true, Option, Some, None, List, []}
use Rattle.tp_model.specs.Parts.{Origin, Key, Root, Under, Branch, Current}
use Rattle.tp_model.specs.Requests.{has_branch_at}
use Rattle.tp_model.specs.History.{digest}

-- the superior is no branch
abbrev pub is_no_branch : Key → List Branch → Bool
is_no_branch (Root t) bs = true
is_no_branch (Under t b a) bs = not (has_branch_at bs a.node)

abbrev pub is_headed_apart : Option Current → Bool
is_headed_apart None = true
is_headed_apart (Some c) = is_no_branch c.key c.branches

-- nor is it in the transaction that the start finds in the log, if it finds one
abbrev pub finds_apart : Origin → Bool
finds_apart o = is_headed_apart (digest o []).current
