-- The logs of several sites together: the keys of their nodes, each with all the records that the logs have of it.
-- What the records say is no matter of this file.
use Rattle.std.specs.Prelude.{ℕ, Some, None, List, [], ◌∷◌, ◌++◌}
use Rattle.tp_names.specs.declared.identifiers.Aaid.{Aaid}
use Rattle.tp_names.specs.declared.identifiers.Addr.{Addr}
use Rattle.tp_logrec.specs.declared.record.LogRec.{LogRec}
use Rattle.tp_logrec.specs.declared.owner.Owner.{Owner}
use Rattle.tp_logrec.specs.Order.{Life, owner_of, with_record}

-- a site by its name, and the records of its log, oldest first
pub record SiteLog : Type 0 where
  pub site : List ℕ
  pub records : List LogRec

-- a key of a node of a site, and all records of the key in the site's log, those before an End too
pub record Entry : Type 0 where
  pub site : List ℕ
  pub owner : Owner
  pub records : List LogRec

abbrev pub addr_of : Entry → Addr
addr_of e = record { site = e.site; node = e.owner.node }

-- the tree of the key
abbrev pub tree_of : Entry → Aaid
tree_of e = e.owner.key.aaid

-- ---- the keys of one log, in the order of their first records

abbrev pub keys_after : List Life → LogRec → List Life
keys_after ls r = elim (owner_of r) [ None ↦ ls | Some o ↦ with_record ls o r ]

abbrev pub keys_from : List Life → List LogRec → List Life
keys_from ls [] = ls
keys_from ls (r ∷ rs) = keys_from (keys_after ls r) rs

abbrev pub keys_of : List LogRec → List Life
keys_of rs = keys_from [] rs

-- ---- the entries of all logs, in the order of the logs

abbrev pub entries_at : List ℕ → List Life → List Entry
entries_at s [] = []
entries_at s (l ∷ ls) = record { site = s; owner = l.owner; records = l.records } ∷ entries_at s ls

abbrev pub entries : List SiteLog → List Entry
entries [] = []
entries (l ∷ ls) = entries_at l.site (keys_of l.records) ++ entries ls
