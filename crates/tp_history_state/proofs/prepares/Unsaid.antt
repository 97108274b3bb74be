-- Prepare is said where the user asks to prepare a branch, or to commit, and nowhere else: by the events of a transaction, and
-- an instance of the steps of a node.
use Rattle.tp_history_state.proofs.Vocabulary.{if◌then◌else◌, ◌≡◌, ℕ, Bool, true, false, refl, ◌∙◌, arith, Option, Some, None, [], ◌∷◌, ◌||◌, BranchId, Report, DialogueRecord, RecState, Request, Phase, TxEvent, TxOut, Kept, KeptEvent, Who, Event, Current, Digest, is_active, is_ready, is_rolling, Sight, Acts, Nothing_happens, Out_of_phase, Row, Transaction, Turn, turn, and_then, is_under_at, find_row, find_row_by_id, row_holds, with_row, with_arc_lost, is_open_in_commit, roll, superior_rolls, takes_left, takes, end_up, transacted, settle, order, leave, count_branch, end_branch, branch_left, begin_rolling, complete_commit, complete_rollback, sight_of_tx, settled, Move, seen, turned, begin_on, entered, passage, is_leaving, Passage, said_to, has_said, Steps, IsAsked, carries_none, none_more, said_both, said_none, is_said, is_word, ◌&&◌, whole_turn}
use Rattle.tp_model.specs.Keys.{is_prepare_record}
use Rattle.tp_model.specs.Transactions.{lost_arc, by_user, replied, give_up, is_waited_for}
use Rattle.tp_history_state.proofs.lemmas.Rare.{more, up, ordering, rolling, committing, unrolling, retrying}
use Rattle.tp_history_state.proofs.lemmas.Begins.{begin_word, begin_arcs, begins_so}
use Rattle.tp_history_state.proofs.lemmas.Spoken.{said_not}
use Rattle.tp_history_state.proofs.rests.Foreign.{said_none_to, said_played}

-- the user asks to prepare a branch, or to commit
abbrev pub asks_prepare : TxEvent → Bool
asks_prepare (TxEvent.User (Request.Prepare q)) = true
asks_prepare (TxEvent.User Request.Commit) = true
asks_prepare _ = false

-- ---- a turn

abbrev pub IsUnsaid : Turn → Type 0
IsUnsaid a = carries_none is_prepare_record a.outs ≡ true

unsaid_order : (t : Transaction) → IsUnsaid (order t)
unsaid_order t = ordering is_prepare_record refl t

unsaid_settle : (t : Transaction) → IsUnsaid (settle t)
unfolding settle
unsaid_settle t = let one = unsaid_order t in let two = up is_prepare_record t DialogueRecord.Ready refl in grind (arith, one, two)

pub unsaid_settled : (t : Transaction) → IsUnsaid (settle t)
unsaid_settled t = unsaid_settle t

unsaid_commits : (t : Transaction) → IsUnsaid (complete_commit t)
unsaid_commits t = committing is_prepare_record (λ r. refl) t

unsaid_unrolls : (t : Transaction) → IsUnsaid (complete_rollback t)
unsaid_unrolls t = unrolling is_prepare_record (λ r. refl) t

unsaid_roll : (asked : Bool) (t : Transaction) → IsUnsaid (roll asked t)
unsaid_roll asked t = more is_prepare_record (begin_rolling asked t).outs (complete_rollback (begin_rolling asked t).next).outs (rolling is_prepare_record refl asked t) (unsaid_unrolls (begin_rolling asked t).next)

unsaid_lost : (p : ℕ) (t : Transaction) → IsUnsaid (lost_arc p t)
unfolding lost_arc
unsaid_lost p t = go (is_active t.phase && (is_under_at t.key p || row_holds t.rows p is_waited_for)) (is_rolling t.phase)
  where
    gone : Transaction
    gone = with_arc_lost t p

    go : (a b : Bool) → IsUnsaid (if a then roll false gone else if b then complete_rollback gone else turn [] gone)
    go true b = unsaid_roll false gone
    go false true = unsaid_unrolls gone
    go false false = refl

unsaid_complete : (t : Transaction) (p : Phase) → IsUnsaid (elim p as (λ _. Turn) [ Phase.Nil ↦ turn [] t | Phase.Active ↦ turn [] t | Phase.Ready ↦ turn [] t | Phase.Committing ↦ complete_commit t | Phase.Rolling ↦ complete_rollback t ])
unsaid_complete t Phase.Committing = unsaid_commits t
unsaid_complete t Phase.Rolling = unsaid_unrolls t
unsaid_complete t _ = refl

unsaid_leave : (t : Transaction) → IsUnsaid (leave t)
unfolding leave
unsaid_leave t =
    let one = up is_prepare_record t DialogueRecord.LeftEnd refl in
    let two = up is_prepare_record t DialogueRecord.Left refl in
    let three : carries_none is_prepare_record (end_up t) ≡ true = grind arith in
    grind (arith, none_more, one, two, three)

unsaid_user : (r : Request) (t : Transaction) → asks_prepare (TxEvent.User r) ≡ false → IsUnsaid (by_user r t)
unsaid_user (Request.UAbort p) t off = unsaid_roll true (with_arc_lost t p)
unsaid_user (Request.Prepare p) t off = absurd (cc (off))
unsaid_user Request.Commit t off = absurd (cc (off))
unsaid_user Request.Done t off = unsaid_complete (record t { owes = false }) t.phase
unsaid_user Request.Rollback t off = unsaid_roll true t
unsaid_user Request.Unchanged t off = unsaid_leave t
unsaid_user _ t off = refl

-- a rule that says nothing of it, and then another one
unsaid_then : (a : Turn) (f : Transaction → Turn) → IsUnsaid a → IsUnsaid (f a.next) → IsUnsaid (and_then a f)
unsaid_then a f one two = more is_prepare_record a.outs (f a.next).outs one two

unsaid_end : (p : ℕ) (r : Report) (t : Transaction) → IsUnsaid (end_branch p r t)
unfolding end_branch
unsaid_end p r t = grind arith

unsaid_count : (p : ℕ) (t : Transaction) → IsUnsaid (count_branch p t)
unfolding count_branch
unsaid_count p t = refl

unsaid_left : (p : ℕ) (t : Transaction) → IsUnsaid (branch_left p t)
unfolding branch_left
unsaid_left p t = refl

unsaid_superior : (t : Transaction) → IsUnsaid (superior_rolls t)
unsaid_superior t = go (is_rolling t.phase)
  where
    u : Transaction
    u = record t { superior_rolled = true }

    go : (b : Bool) → IsUnsaid (if b then complete_rollback u else roll false u)
    go true = unsaid_unrolls u
    go false = unsaid_roll false u

unsaid_leaving : (p : ℕ) (t : Transaction) → IsUnsaid (takes_left p t)
unsaid_leaving p t = go (is_active t.phase)
  where
    go : (b : Bool) → IsUnsaid (if b then and_then (branch_left p t) settle else and_then (end_branch p Report.None t) complete_rollback)
    go true = unsaid_then (branch_left p t) settle (unsaid_left p t) (unsaid_settle (branch_left p t).next)
    go false = unsaid_then (end_branch p Report.None t) complete_rollback (unsaid_end p Report.None t) (unsaid_unrolls (end_branch p Report.None t).next)

unsaid_takes : (p : ℕ) (r : DialogueRecord) (t : Transaction) → IsUnsaid (takes p r t)
unsaid_takes p DialogueRecord.UAbort t = unsaid_lost p t
unsaid_takes p DialogueRecord.Ready t = unsaid_then (count_branch p t) settle (unsaid_count p t) (unsaid_settle (count_branch p t).next)
unsaid_takes p DialogueRecord.Commit t = unsaid_order t
unsaid_takes p (DialogueRecord.Done r) t = unsaid_then (end_branch p r t) complete_commit (unsaid_end p r t) (unsaid_commits (end_branch p r t).next)
unsaid_takes p DialogueRecord.Rollback t = go (is_under_at t.key p)
  where
    go : (b : Bool) → IsUnsaid (if b then superior_rolls t else roll false t)
    go true = unsaid_superior t
    go false = unsaid_roll false t
unsaid_takes p (DialogueRecord.RolledBack r) t = unsaid_then (end_branch p r t) complete_rollback (unsaid_end p r t) (unsaid_unrolls (end_branch p r t).next)
unsaid_takes p DialogueRecord.Left t = unsaid_leaving p t
unsaid_takes p DialogueRecord.LeftEnd t = unsaid_leaving p (with_row t p (λ r. record r { live = false; ends = false }))
unsaid_takes p _ t = refl

unsaid_replied : (b : BranchId) (s : RecState) (t : Transaction) → IsUnsaid (replied t b s)
unsaid_replied b RecState.Commit t = go (is_ready t.phase)
  where
    go : (v : Bool) → IsUnsaid (if v then order t else turn [] t)
    go true = unsaid_order t
    go false = refl
unsaid_replied b (RecState.Done r) t = go (find_row_by_id t.rows b)
  where
    on : (w : Row) (v : Bool) → IsUnsaid (if v then and_then (end_branch w.branch.peer.node r t) complete_commit else turn [] t)
    on w true = unsaid_then (end_branch w.branch.peer.node r t) complete_commit (unsaid_end w.branch.peer.node r t) (unsaid_commits (end_branch w.branch.peer.node r t).next)
    on w false = refl

    go : (o : Option Row) → IsUnsaid (elim o as (λ _. Turn) [ None ↦ turn [] t | Some w ↦ if is_open_in_commit t w.branch then and_then (end_branch w.branch.peer.node r t) complete_commit else turn [] t ])
    go None = refl
    go (Some w) = on w (is_open_in_commit t w.branch)
unsaid_replied b RecState.Unknown t = go (is_ready t.phase)
  where
    go : (v : Bool) → IsUnsaid (if v then superior_rolls t else turn [] t)
    go true = unsaid_superior t
    go false = refl
unsaid_replied b RecState.RetryLater t = refl

unsaid_given_up : (p : ℕ) (t : Transaction) → IsUnsaid (give_up p t)
unsaid_given_up p t = go (find_row t.rows p)
  where
    f : Row → Row
    f q = record q { branch = record q.branch { given_up = true }; live = false; ends = false }

    shut : (b : Bool) → carries_none is_prepare_record (if b then TxOut.Shut p ∷ [] else []) ≡ true
    shut true = refl
    shut false = refl

    go : (o : Option Row) → IsUnsaid (elim o as (λ _. Turn) [ None ↦ turn [] t | Some r ↦ and_then (turn (if r.live then TxOut.Shut p ∷ [] else []) (with_row t p f)) complete_commit ])
    go None = refl
    go (Some r) = unsaid_then (turn (if r.live then TxOut.Shut p ∷ [] else []) (with_row t p f)) complete_commit (shut r.live) (unsaid_commits (with_row t p f))

pub unsaid_turn : (e : TxEvent) (t : Transaction) → asks_prepare e ≡ false → IsUnsaid (transacted e t)
unsaid_turn (TxEvent.User r) t off = unsaid_user r t off
unsaid_turn (TxEvent.Took p r) t off = go (sight_of_tx t p r)
  where
    go : (v : Sight) → IsUnsaid (elim v as (λ _. Turn) [ Acts ↦ takes p r t | Nothing_happens ↦ turn [] t | Out_of_phase ↦ turn [] t ])
    go Acts = unsaid_takes p r t
    go Nothing_happens = refl
    go Out_of_phase = refl
unsaid_turn (TxEvent.Lost p) t off = unsaid_lost p t
unsaid_turn (TxEvent.GiveUp p) t off = unsaid_given_up p t
unsaid_turn TxEvent.Ordered t off = unsaid_order t
unsaid_turn (TxEvent.Reply b s) t off = unsaid_replied b s t
unsaid_turn TxEvent.Retry t off = retrying is_prepare_record t
unsaid_turn _ t off = refl

-- ---- an event of a node

-- it says no Prepare to the peer
abbrev pub IsMute : ℕ → Digest → Move → Type 0
IsMute p d m = has_said is_prepare_record (said_to p m.outs) ≡ false

mute_turned : (who : Who) (f : TxEvent) (d : Digest) (c : Current) (p : ℕ) → asks_prepare f ≡ false → IsMute p d (turned who f d c)
mute_turned who f d c p off =
    let t : Transaction = seen who d.arcs c in
    let a : Turn = transacted f t in
    let w : Passage = passage (is_leaving f) t.phase a.next.phase in
    said_played is_prepare_record refl d t w a (whole_turn f t) (entered t w d.arcs) p (unsaid_turn f t off)

mute_settled : (k : Kept) (f : KeptEvent) → carries_none is_prepare_record (settled k f).outs ≡ true
unfolding settled
mute_settled k (KeptEvent.Done a b r) = grind arith
mute_settled k _ = refl

mute_begins : (who : Who) (p q : ℕ) (d : Digest) → IsMute p d (begin_on who q d)
mute_begins who p q d = begins_so (IsMute p d) who q d refl (λ c i a found may. said_none is_prepare_record p (begin_arcs q d a) (TxOut.Carry q (begin_word who d c a) ∷ []) refl)

pub mute_steps : (who : Who) (e : Event) (s : Digest) (p : ℕ) → ((c : Current) (f : TxEvent) → IsAsked e c f → asks_prepare f ≡ false) → Steps who e s (IsMute p)
mute_steps who e s p off = record {
  still = λ d. refl;
  chain = λ d a f one two none. said_both is_prepare_record p a.outs (f a.next).outs ∙ rw (one, two) refl;
  speaks = λ d outs h own said last. said_none_to is_prepare_record p d.arcs outs (said_not e is_prepare_record p unworded outs h said);
  changes_dialogue = λ d q f m by one. one;
  drops_arc = λ d q m at one. one;
  notes_kept = λ d ks m held by one. one;
  keeps = λ d k f held. said_none is_prepare_record p d.arcs (settled k f).outs (mute_settled k f);
  turns = λ d c f now at asked put gone drawn alike. mute_turned who f d c p (off c f asked);
  begins = λ d q may. mute_begins who p q d;
  roots = λ d m nil may says one. one;
}
  where
    unworded : (r : DialogueRecord) → is_word r ≡ false → is_said e (TxOut.Carry p r) ≡ true → is_prepare_record r ≡ false
    unworded DialogueRecord.Prepare w h = absurd (cc (h))
    unworded r w h = refl
