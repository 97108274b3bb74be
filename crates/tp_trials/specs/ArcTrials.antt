-- Worked examples of the laws about a transaction among its arcs: runs of two nodes in which an end is deferred, what events
-- put to a transaction, and a start that finds in its log one with its superior as a branch.
use Rattle.std.specs.Prelude.{ℕ, suc, ◌==◌, ◌&&◌, not, Bool, true, false, Option, Some, None, List, [], ◌∷◌, ◌++◌, codes}
use Rattle.tp_names.specs.declared.identifiers.Addr.{Addr}
use Rattle.tp_records.specs.declared.request.Request.{Request}
use Rattle.tp_records.specs.declared.dialogue.DialogueRecord.{DialogueRecord}
use Rattle.tp_records.specs.declared.peer.PeerRecord.{PeerRecord}
use Rattle.tp_logrec.specs.declared.record.LogRec.{LogRec}
use Rattle.tp_logrec.specs.declared.record.LogVersion.{LogVersion}
use Rattle.tp_model.specs.declared.line.Action.{Action}
use Rattle.tp_model.specs.declared.line.LineRequest.{LineRequest}
use Rattle.tp_model.specs.declared.transaction.TxEvent.{TxEvent}
use Rattle.tp_model.specs.declared.refusal.Refusal.{Refusal}
use Rattle.tp_model.specs.Parts.{Origin, Event, Idle, Opening, Offered, Live, Arc, Current}
use Rattle.tp_model.specs.Dialogues.{is_active, is_committing, is_rolling}
use Rattle.tp_model.specs.Arcs.{link_with, is_live_with_peer}
use Rattle.tp_model.specs.Node.{is_end_deferred_at}
use Rattle.tp_model.specs.AmongArcs.{is_peer}
use Rattle.tp_model.specs.Events.{action}
use Rattle.tp_model.specs.History.{digest, refuse}
use Rattle.tp_model.specs.World.{Node}
use Rattle.tp_model.specs.Happenings.{Happening, Does}
use Rattle.tp_steps.specs.Puts.{Put, put_by}
use Rattle.tp_trials.specs.Trials.{begun, tree, branch}

-- ---- the runs, oldest first

-- the root defers the end of its dialogue with the branch, which takes it
abbrev pub ending : List Happening
ending = begun ++ (Does (Action.Do 1 (LineRequest.DeferEnd 2)) ∷ Does (Action.Again 4) ∷ [])

-- and then rolls back; the branch has not heard of it
abbrev pub forgetting : List Happening
forgetting = ending ++ (Does (Action.Do 1 LineRequest.Rollback) ∷ [])

-- or commits; the branch is done, and the root's user is not
abbrev pub owing : List Happening
owing =
    ending
    ++ (Does (Action.Do 1 LineRequest.Commit)
    ∷ Does (Action.Again 5)
    ∷ Does (Action.Do 2 LineRequest.Commit)
    ∷ Does (Action.Again 6)
    ∷ Does (Action.Again 7)
    ∷ Does (Action.Do 2 LineRequest.Done)
    ∷ Does (Action.Again 8)
    ∷ [])

-- ---- what is asked of them

-- of the current transaction of a node and its arc with the peer
abbrev pub stands_so : (Current → List Arc → ℕ → Bool) → ℕ → Node → Bool
stands_so f p x = elim (digest x.origin x.history).current [ None ↦ false | Some c ↦ f c (digest x.origin x.history).arcs p ]

abbrev pub is_ending_at : ℕ → Node → Bool
is_ending_at p x = stands_so (λ c arcs q. is_active c.phase && is_peer c q && is_live_with_peer arcs q && is_end_deferred_at arcs q) p x

abbrev pub is_forgotten_at : ℕ → Node → Bool
is_forgotten_at p x = stands_so (λ c arcs q. is_rolling c.phase && is_peer c q && is_live_with_peer arcs q && not (is_end_deferred_at arcs q)) p x

-- the two nodes
abbrev pub above : Addr
above = record { site = codes "a"; node = 1 }

abbrev pub below : Addr
below = record { site = codes "b"; node = 2 }

-- what an event puts to the transaction, and the arcs before it
abbrev pub puts : (Put → List Arc → Bool) → Event → Node → Bool
puts f e x = elim (put_by x.origin.who (digest x.origin x.history) e) [ None ↦ false | Some y ↦ f y (digest x.origin x.history).arcs ]

abbrev pub puts_nothing : Event → Node → Bool
puts_nothing e x = elim (put_by x.origin.who (digest x.origin x.history) e) [ None ↦ true | Some y ↦ false ]

abbrev pub defers_on : ℕ → Node → Bool
defers_on p = puts (λ y arcs. is_end_deferred_at y.arcs p && not (is_end_deferred_at arcs p)) (Event.Do (Request.DeferEnd p))

abbrev pub loses_on : ℕ → Node → Bool
loses_on p = puts (λ y arcs. is_live_with_peer arcs p && not (is_live_with_peer y.arcs p)) (Event.Lose p)

abbrev pub talks_on : ℕ → Node → Bool
talks_on p = puts_nothing (Event.Do (Request.UserData p []))

-- how many records were taken there
abbrev pub taken : List Arc → ℕ → ℕ
taken arcs p = elim (link_with arcs p) [ Idle ↦ 0 | Opening x ↦ 0 | Offered x ↦ 0 | Live x y s t ↦ t ]

abbrev pub is_prepare : TxEvent → Bool
is_prepare (TxEvent.Took p DialogueRecord.Prepare) = true
is_prepare _ = false

-- the next record over the arc between the two, as the node takes it
abbrev pub comes : Addr → DialogueRecord → Node → Event
comes from r x = Event.Arrive from
    (PeerRecord.OnAssoc (record { boot = 1; node = 1; count = 1 }) (record { boot = 1; node = 2; count = 1 })
    (taken (digest x.origin x.history).arcs from.node) r)

abbrev pub prepares : Node → Bool
prepares x = puts (λ y arcs. is_prepare y.event && (taken y.arcs 1 == suc (taken arcs 1))) (comes above DialogueRecord.Prepare x) x

-- no number stands against the event
abbrev pub is_accepted : Option Refusal → Bool
is_accepted None = true
is_accepted (Some n) = false

-- the peer ends its dialogue: nothing is put to the transaction, whose branch it is, and what was deferred there is gone
abbrev pub ends_aside : Node → Bool
ends_aside x =
    let e : Event = comes below DialogueRecord.EndDialogue x in
    is_accepted (refuse x.origin x.history e) && puts_nothing e x
    && stands_so (λ c arcs p. is_committing c.phase && is_peer c p && is_end_deferred_at arcs p
    && not (is_end_deferred_at (action x.origin.who (digest x.origin x.history) e).next.arcs p)) 2 x

-- ---- a start

-- a Ready whose one child stands where its superior does
abbrev pub entangled : Origin
entangled = record {
  who = record { site = codes "b"; node = 2 };
  start = record {
    boot = 2;
    version = LogVersion.Two;
    records = LogRec.Ready 2 (record { aaid = tree; branch = Some branch }) above
        (record { addr = above; branch = record branch { superior = codes "b" } } ∷ []) ∷ [];
  };
}
