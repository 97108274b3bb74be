-- What a store keeps of what it was told: the writes of each transaction that was told commit after its vote for it. It
-- looks at indications and answers alone, and knows no log and no disk.
use Rattle.std.specs.Prelude.{◌≡◌, Option, Some, None, List, [], ◌∷◌}
use Rattle.tp_records.specs.declared.indication.Indication.{Indication}
use Rattle.tp_records.specs.declared.request.Request.{Request}
use Rattle.tp_bound.specs.declared.write.Write.{Write}
use Rattle.tp_bound.specs.Content.{Content, made}
use Rattle.tp_bound.specs.Gathered.{Gathered, none_yet}
use Rattle.tp_bound.specs.Says.{Speaker, Speaks}
use Rattle.tp_bound.specs.Told.{gathering, wish}

pub data Heard : Type 0 where
  -- what the store's node was told, and what the store answered
  Told : Indication → Option Request → Heard
  -- the store was opened again
  Reopened : Heard

-- what the indications have come to
pub record Tally : Type 0 where
  pub content : Content
  -- the writes of a transaction that has voted for commit, and of which it is not known how it ends
  pub voted : Option (List Write)
  -- the transaction that goes on
  pub current : Option Gathered

abbrev pub nothing_heard : Tally
nothing_heard = record { content = []; voted = None; current = None }

abbrev pub kept_writes : Content → Option (List Write) → Content
kept_writes content None = content
kept_writes content (Some writes) = made content writes

abbrev pub voted_for : Tally → Option Gathered → Tally
voted_for t None = t
voted_for t (Some g) = record { content = t.content; voted = Some g.writes; current = None }

-- a vote for commit binds what was written, and any other leaves it
abbrev pub vote_heard : Tally → Option Request → Tally
vote_heard t (Some Request.Commit) = voted_for t t.current
vote_heard t _ = t

abbrev pub indication_heard : Tally → Indication → Option Request → Tally
indication_heard t (Indication.BeginDialogue p u) answer = t
indication_heard t (Indication.BegunDialogue p u) answer = t
indication_heard t (Indication.Rejected p) answer = t
indication_heard t (Indication.EndDialogue p) answer = t
indication_heard t (Indication.UserData p xs) answer = record { content = t.content; voted = t.voted; current = gathering t.current xs }
indication_heard t (Indication.UError p) answer = t
indication_heard t (Indication.UAbort p) answer = t
indication_heard t (Indication.PAbort p) answer = t
indication_heard t (Indication.Grant p) answer = t
indication_heard t (Indication.AskControl p) answer = t
indication_heard t (Indication.Handshake p) answer = t
indication_heard t (Indication.HandshakeConfirm p) answer = t
indication_heard t (Indication.HandshakeGrant p) answer = t
indication_heard t (Indication.BeginTransaction p aaid) answer = record { content = t.content; voted = None; current = Some (none_yet aaid) }
indication_heard t (Indication.DeferEnd p) answer = t
indication_heard t (Indication.DeferGrant p) answer = t
indication_heard t Indication.Prepare answer = vote_heard t answer
indication_heard t (Indication.Ready p) answer = t
indication_heard t Indication.Commit answer = record { content = kept_writes t.content t.voted; voted = None; current = t.current }
indication_heard t (Indication.CommitComplete r) answer = t
indication_heard t Indication.Rollback answer = record { content = t.content; voted = None; current = None }
indication_heard t (Indication.RollbackComplete r) answer = t
indication_heard t (Indication.HeuristicReport p r) answer = t
indication_heard t (Indication.Left p) answer = t

abbrev pub heard : Tally → Heard → Tally
heard t (Told ind answer) = indication_heard t ind answer
heard t Reopened = record { content = t.content; voted = t.voted; current = None }

abbrev pub tally_from : Tally → List Heard → Tally
tally_from t [] = t
tally_from t (h ∷ hs) = tally_from (heard t h) hs

-- the content after all of these, the first one first
abbrev pub kept : List Heard → Content
kept hs = (tally_from nothing_heard hs).content

-- ---- a store that hears them, and whose disk never fails

-- a store that is opened again holds what its log stands for, and of the transaction that went on it knows nothing
pub record OpensAgain (old new : Speaker) : Type 0 where
  pub store : new.store ≡ old.store
  pub none_current : new.current ≡ None
  pub open_after : new.shut ≡ None

abbrev pub Hears : Speaker → Heard → Speaker → Type 0
Hears old (Told ind answer) new = Speaks (wish old.store old.current old.gate ind) old answer new × (new.shut ≡ None)
Hears old Reopened new = OpensAgain old new

abbrev pub HearsAll : Speaker → List Heard → Speaker → Type 0
HearsAll old [] new = new ≡ old
HearsAll old (h ∷ hs) new = (between : Speaker) × Hears old h between × HearsAll between hs new
