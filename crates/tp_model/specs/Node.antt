-- A node as a whole: questions to what is known of it, its current transaction among its arcs, and
-- where transactions begin. Control follows the passages of a transaction here.
use Rattle.std.specs.Prelude.{ℕ, suc, ◌==◌, ◌&&◌, ◌||◌, not, Bool, true, false, if◌then◌else◌, Option, Some, None, List, [], ◌∷◌, ◌++◌}
use Rattle.tp_names.specs.declared.identifiers.Mark.{Mark}
use Rattle.tp_names.specs.declared.identifiers.Aaid.{Aaid}
use Rattle.tp_names.specs.declared.identifiers.BranchId.{BranchId}
use Rattle.tp_names.specs.declared.children.Child.{Child}
use Rattle.tp_names.specs.declared.outcome.Outcome.{Outcome}
use Rattle.tp_names.specs.declared.outcome.Report.{Report}
use Rattle.tp_records.specs.declared.request.Request.{Request}
use Rattle.tp_records.specs.declared.dialogue.DialogueRecord.{DialogueRecord}
use Rattle.tp_records.specs.declared.dialogue.Holder.{Holder}
use Rattle.tp_logrec.specs.declared.record.LogRec.{LogRec}
use Rattle.tp_model.specs.declared.arc.Phase.{Phase}
use Rattle.tp_model.specs.declared.arc.Side.{Side}
use Rattle.tp_model.specs.declared.arc.Situation.{Situation}
use Rattle.tp_model.specs.declared.arc.Deferral.{Deferral}
use Rattle.tp_model.specs.declared.transaction.TxEvent.{TxEvent}
use Rattle.tp_model.specs.declared.transaction.TxOut.{TxOut}
use Rattle.tp_model.specs.declared.transaction.Step.{Step}
use Rattle.tp_model.specs.Parts.{Who, Out, Arc, Dialogue, Key, Root, Under, Branch, Current, Digest}
use Rattle.tp_model.specs.Links.{is_live}
use Rattle.tp_model.specs.Dialogues.{is_nil, is_active, is_end_deferred, is_grant_deferred, is_chained, is_unchained, has_commit, Ask_grant, said, cleared, begun_by, named_holder, completed, rested}
use Rattle.tp_model.specs.Arcs.{find_arc, is_live_with_peer, with_dialogue, with_dialogues, performed}
use Rattle.tp_model.specs.Transactions.{Row, Transaction, Turn, aaid_of, is_under_at, row_holds, situation_of, transacted}
use Rattle.tp_model.specs.Recovery.{kept_after}

-- ---- what an event of a node gives

pub record Move : Type 0 where
  pub rec : Option LogRec
  pub outs : List Out
  pub next : Digest

abbrev pub move : List Out → Digest → Move
move outs d = record { rec = None; outs = outs; next = d }

-- a rule, and then another one at what it leaves; at most one of the two logs
abbrev pub followed : Move → (Digest → Move) → Move
followed a f =
    let b : Move = f a.next in
    record { rec = elim b.rec [ None ↦ a.rec | Some r ↦ Some r ]; outs = a.outs ++ b.outs; next = b.next }

-- outputs that change nothing but the arcs
abbrev pub perform : List TxOut → Digest → Move
perform outs d = let p = performed d.arcs outs in move p.1 (record d { arcs = p.0 })

-- ---- questions

-- the node's marks are drawn from one counter of each boot
abbrev pub next_mark : Who → Digest → Mark
next_mark who d = record { boot = d.boot; node = who.node; count = suc d.drawn }

abbrev pub with_mark_drawn : Digest → Digest
with_mark_drawn d = record d { drawn = suc d.drawn }

-- the peer is the superior
abbrev pub is_superior : Digest → ℕ → Bool
is_superior d p = elim d.superior [ None ↦ false | Some a ↦ a.node == p ]

abbrev pub side_at : Digest → ℕ → Side
side_at d p = if is_superior d p then Side.Subordinate else Side.Superior

abbrev pub superior_arc : Digest → Option Arc
superior_arc d = elim d.superior [ None ↦ None | Some a ↦ find_arc d.arcs a.node ]

-- no live dialogue with Commit to a superior
abbrev pub may_root : Digest → Bool
may_root d = elim (superior_arc d) [ None ↦ true | Some a ↦ not (is_live a.link && has_commit a.dialogue) ]

abbrev pub phase_of : Digest → Phase
phase_of d = elim d.current [ None ↦ Phase.Nil | Some c ↦ c.phase ]

abbrev pub has_asked : Digest → Bool
has_asked d = elim d.current [ None ↦ false | Some c ↦ c.asked ]

-- ---- the current transaction among the arcs

abbrev pub is_end_deferred_at : List Arc → ℕ → Bool
is_end_deferred_at arcs p = elim (find_arc arcs p) [ None ↦ false | Some a ↦ is_end_deferred a.dialogue.deferral ]

-- whether its arc is live matters as long as a branch is open
abbrev pub seen_row : List Arc → Branch → Row
seen_row arcs b = record {
  branch = b;
  live = is_live_with_peer arcs b.peer.node && not (b.ended || b.left);
  ends = is_end_deferred_at arcs b.peer.node;
}

abbrev pub seen_rows : List Arc → List Branch → List Row
seen_rows arcs [] = []
seen_rows arcs (b ∷ bs) = seen_row arcs b ∷ seen_rows arcs bs

abbrev pub is_up_live : List Arc → Key → Bool
is_up_live arcs (Root t) = false
is_up_live arcs (Under t b a) = is_live_with_peer arcs a.node

abbrev pub is_up_ending : List Arc → Key → Bool
is_up_ending arcs (Root t) = false
is_up_ending arcs (Under t b a) = is_end_deferred_at arcs a.node

abbrev pub seen : Who → List Arc → Current → Transaction
seen who arcs c = record {
  node = who.node;
  key = c.key;
  phase = c.phase;
  up = is_up_live arcs c.key;
  up_ends = is_up_ending arcs c.key;
  rows = seen_rows arcs c.branches;
  told_prepare = c.told_prepare;
  asked = c.asked;
  owes = c.owes;
  superior_rolled = c.superior_rolled;
  decision = c.decision;
  own = c.own;
}

abbrev pub branches_of : List Row → List Branch
branches_of [] = []
branches_of (r ∷ rs) = r.branch ∷ branches_of rs

-- what stays of a transaction, while it is current
abbrev pub remaining : Transaction → Option Current
remaining t =
    if is_nil t.phase then None
    else Some (record {
      key = t.key;
      phase = t.phase;
      branches = branches_of t.rows;
      told_prepare = t.told_prepare;
      asked = t.asked;
      owes = t.owes;
      superior_rolled = t.superior_rolled;
      decision = t.decision;
      own = t.own;
    })

-- where there is no current transaction no arc is a branch
abbrev pub idle_situation : Situation
idle_situation = record { branch = false; phase = Phase.Nil; asked = false; prepared = false; done = false; left = false }

abbrev pub situation_at : Who → Digest → ℕ → Situation
situation_at who d p = elim d.current [ None ↦ idle_situation | Some c ↦ situation_of (seen who d.arcs c) p ]

-- ---- passages of a transaction, and control

pub data Passage : Type 0 where
  Stays : Passage
  -- enters ready or committing
  Enters : Passage
  -- rolling begins; it begins and is complete at once
  Falls : Passage
  Falls_at_once : Passage
  -- is complete
  Commits : Passage
  Rolls_back : Passage
  Leaves : Passage

abbrev pub is_leaving : TxEvent → Bool
is_leaving (TxEvent.User Request.Unchanged) = true
is_leaving _ = false

abbrev pub passage : Bool → Phase → Phase → Passage
passage leaving Phase.Active Phase.Nil = if leaving then Leaves else Falls_at_once
passage leaving Phase.Active Phase.Ready = Enters
passage leaving Phase.Active Phase.Committing = Enters
passage leaving Phase.Active Phase.Rolling = Falls
passage leaving Phase.Ready Phase.Nil = Falls_at_once
passage leaving Phase.Ready Phase.Committing = Enters
passage leaving Phase.Ready Phase.Rolling = Falls
passage leaving Phase.Committing Phase.Nil = Commits
passage leaving Phase.Rolling Phase.Nil = Rolls_back
passage leaving _ _ = Stays

abbrev pub is_over : Passage → Bool
is_over Falls_at_once = true
is_over Commits = true
is_over Rolls_back = true
is_over Leaves = true
is_over _ = false

-- the arc is a branch of the transaction
abbrev pub is_arc_of : Transaction → Arc → Bool
is_arc_of t a = is_under_at t.key a.peer.node || row_holds t.rows a.peer.node (λ b. true)

-- a subordinate arc of it
abbrev pub is_arc_below : Transaction → Arc → Bool
is_arc_below t a = not (is_under_at t.key a.peer.node) && row_holds t.rows a.peer.node (λ b. true)

abbrev pub without_deferral : Dialogue → Dialogue
without_deferral d = record d { deferral = Deferral.None }

-- ready, committing or rolling is entered: control and handshakes are cleared on every branch, and
-- a rollback forgets what was deferred
unfoldable pub entered : Transaction → Passage → List Arc → List Arc
entered t Enters arcs = with_dialogues arcs (is_arc_of t) (λ a. cleared a.dialogue)
entered t Falls arcs = with_dialogues arcs (is_arc_of t) (λ a. without_deferral (cleared a.dialogue))
entered t Falls_at_once arcs = with_dialogues arcs (is_arc_of t) (λ a. without_deferral (cleared a.dialogue))
entered t _ arcs = arcs

-- at its completion the superior side holds control again
abbrev pub completed_arcs : Digest → Transaction → Outcome → List Arc → List Arc
completed_arcs d t o arcs = with_dialogues arcs (is_arc_of t) (λ a. completed o (side_at d a.peer.node) a.dialogue)

-- the leaver's dialogues below are as after a completion, and the superior's rests
abbrev pub left_arcs : Transaction → List Arc → List Arc
left_arcs t arcs =
    with_dialogues (with_dialogues arcs (is_arc_below t) (λ a. completed Outcome.Rollback Side.Superior a.dialogue))
    (λ a. is_under_at t.key a.peer.node) (λ a. rested a.dialogue)

-- a deferred grant is given at a commitment, on a live unchained arc to a subordinate
abbrev pub is_granting : Transaction → Arc → Bool
is_granting t a = is_arc_below t a && is_live a.link && is_unchained a.dialogue && is_grant_deferred a.dialogue.deferral

abbrev pub grants : Transaction → List Arc → List TxOut
grants t [] = []
grants t (a ∷ arcs) = if is_granting t a then TxOut.Carry a.peer.node DialogueRecord.Grant ∷ grants t arcs else grants t arcs

-- the arcs at a completed commitment: one that is granted holds no control after it
abbrev pub committed_dialogue : Digest → Transaction → Arc → Dialogue
committed_dialogue d t a =
    let over : Dialogue = completed Outcome.Commit (side_at d a.peer.node) a.dialogue in
    if is_granting t a then said Ask_grant over else over

abbrev pub committed_arcs : Digest → Transaction → List Arc → List Arc
committed_arcs d t arcs = with_dialogues arcs (is_arc_of t) (committed_dialogue d t)

-- what is asked for before the Grants of a completed commitment, and after them
abbrev pub around_grants : Turn → List TxOut × List TxOut
around_grants a = let c = a.completion in (c.before ++ c.forgets ++ c.done, c.told ++ c.ends_down ++ c.end_up)

-- at a completed commitment the Grants stand between the two
abbrev pub perform_commit : Digest → Transaction → List TxOut × List TxOut → List Arc → List Arc × List Out
perform_commit d t parts arcs =
    let first = performed arcs parts.0 in
    let given = performed (committed_arcs d t first.0) (grants t first.0) in
    let last = performed given.0 parts.1 in
    (last.0, first.1 ++ given.1 ++ last.1)

-- the outputs of a turn of the transaction at the arcs, with what its passage does to control
unfoldable pub played : Digest → Transaction → Passage → Turn → List Arc → List Arc × List Out
played d t Falls_at_once a arcs = let p = performed arcs a.outs in (completed_arcs d t Outcome.Rollback p.0, p.1)
played d t Commits a arcs = perform_commit d t (around_grants a) arcs
played d t Rolls_back a arcs = let p = performed arcs a.outs in (completed_arcs d t Outcome.Rollback p.0, p.1)
played d t Leaves a arcs = let p = performed arcs a.outs in (left_arcs t p.0, p.1)
played d t _ a arcs = performed arcs a.outs

-- ---- transactions begin

abbrev pub fresh_current : Key → Current
fresh_current k = record {
  key = k;
  phase = Phase.Active;
  branches = [];
  told_prepare = false;
  asked = false;
  owes = false;
  superior_rolled = false;
  decision = None;
  own = Report.None;
}

abbrev pub with_begun : Who → Digest → Current → Child → Digest
with_begun who d c child = record d { current = remaining (transacted (TxEvent.Begun (child ∷ [])) (seen who d.arcs c)).next }

-- Begin may be sent on the arc: it is live, leads to a subordinate, and is no branch yet of the
-- transaction, which is active
abbrev pub may_begin_on : Who → Digest → Arc → Bool
may_begin_on who d a =
    is_live a.link && not (is_superior d a.peer.node) && is_active (phase_of d) && not (situation_at who d a.peer.node).branch

-- Begin is sent on the arc, with an identifier for the new branch
unfoldable pub begin_on : Who → ℕ → Digest → Move
begin_on who p d = elim d.current [
  | None ↦ move [] d
  | Some c ↦ elim (find_arc d.arcs p) [
    | None ↦ move [] d
    | Some a ↦
        if not (may_begin_on who d a) then move [] d
        else (let id : BranchId = record { superior = who.site; mark = next_mark who d } in
        let h : Holder = named_holder a.dialogue in
        let arcs : List Arc = with_dialogue d.arcs p (begun_by h Side.Superior) in
        perform
        (TxOut.Carry p (DialogueRecord.Begin (aaid_of c.key) id h) ∷ [])
        (record (with_begun who (with_mark_drawn d) c (record { addr = a.peer; branch = id })) { arcs = arcs }))
  ]
]

abbrev pub begin_each : Who → List ℕ → Digest → Move
begin_each who [] d = move [] d
begin_each who (p ∷ ps) d = followed (begin_on who p d) (begin_each who ps)

-- live chained arcs to subordinates that are no branches yet, in order
abbrev pub is_chained_below : Who → Digest → Arc → Bool
is_chained_below who d a =
    is_live a.link && is_chained a.dialogue && not (is_superior d a.peer.node) && not (situation_at who d a.peer.node).branch

abbrev pub chained_from : Who → Digest → List Arc → List ℕ
chained_from who d [] = []
chained_from who d (a ∷ arcs) = if is_chained_below who d a then a.peer.node ∷ chained_from who d arcs else chained_from who d arcs

abbrev pub chained_peers : Who → Digest → List ℕ
chained_peers who d = chained_from who d d.arcs

abbrev pub begin_chained : Who → Digest → Move
begin_chained who d = begin_each who (chained_peers who d) d

-- a root's transaction: Begin on the arcs that are named first, then on the chained ones
unfoldable pub start_root : Who → List ℕ → Digest → Move
start_root who named d =
    let aaid : Aaid = record { owner = who.site; mark = next_mark who d } in
    followed (begin_each who named (record (with_mark_drawn d) { current = Some (fresh_current (Root aaid)) })) (begin_chained who)

abbrev pub has_none : List ℕ → Bool
has_none [] = true
has_none (p ∷ ps) = false

-- a node without a transaction starts one where it has a live chained arc to a subordinate
unfoldable pub try_start : Who → Digest → Move
try_start who d =
    if is_nil (phase_of d) && may_root d && not (has_none (chained_peers who d)) then start_root who [] d else move [] d

-- ---- an event of the current transaction, at the node

abbrev pub started_next : Who → Passage → Move → Move
started_next who w m = if is_over w then followed m (try_start who) else m

-- what the event makes of the current transaction, before the next one starts
abbrev pub turned : Who → TxEvent → Digest → Current → Move
turned who e d c =
    let t : Transaction = seen who d.arcs c in
    let a : Turn = transacted e t in
    let w : Passage = passage (is_leaving e) t.phase a.next.phase in
    let p = played d t w a (entered t w d.arcs) in
    record {
      rec = a.rec;
      outs = p.1;
      next = record d { arcs = p.0; current = remaining a.next; kept = kept_after a.rec d.kept };
    }

-- the passage that the transaction makes in it
abbrev pub passed : Who → TxEvent → Digest → Current → Passage
passed who e d c =
    let t : Transaction = seen who d.arcs c in
    passage (is_leaving e) t.phase (transacted e t).next.phase

unfoldable pub transact : Who → TxEvent → Digest → Move
transact who e d = elim d.current [ None ↦ move [] d | Some c ↦ started_next who (passed who e d c) (turned who e d c) ]

-- a step of a kept transaction, at the node
abbrev pub keep : Step → Digest → Move
keep s d =
    let p = performed d.arcs s.outs in
    record { rec = s.rec; outs = p.1; next = record d { arcs = p.0; kept = kept_after s.rec d.kept } }
