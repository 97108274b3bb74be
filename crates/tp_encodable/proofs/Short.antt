-- No event puts more of a user's octets into an output than fit in a record, and none but a Begin that is taken tells of one.
use Rattle.std.proofs.Common.{if◌then◌else◌, ◌≡◌, ◌≤◌, ◌==◌, ◌&&◌, ◌||◌, not, nat_lt, ℕ, suc, Bool, true, false, refl, ◌∙◌, arith, Option, Some, None, List, [], ◌∷◌, ◌++◌, length, subst, sym}
use Rattle.std.proofs.lemmas.Bool.Decides.{nat_tests}
use Rattle.tp_names.specs.declared.identifiers.Aaid.{Aaid}
use Rattle.tp_names.specs.declared.identifiers.BranchId.{BranchId}
use Rattle.tp_names.specs.declared.identifiers.NodeKey.{NodeKey}
use Rattle.tp_names.specs.declared.identifiers.Mark.{Mark}
use Rattle.tp_names.specs.declared.identifiers.Addr.{Addr}
use Rattle.tp_names.specs.declared.children.Child.{Child}
use Rattle.tp_names.specs.declared.outcome.Report.{Report}
use Rattle.tp_names.specs.Reports.{is_report_none}
use Rattle.tp_records.specs.declared.request.Request.{Request}
use Rattle.tp_records.specs.declared.indication.Indication.{Indication}
use Rattle.tp_records.specs.declared.dialogue.DialogueRecord.{DialogueRecord}
use Rattle.tp_records.specs.declared.dialogue.Holder.{Holder}
use Rattle.tp_records.specs.declared.peer.PeerRecord.{PeerRecord}
use Rattle.tp_records.specs.declared.peer.RecState.{RecState}
use Rattle.tp_model.specs.declared.arc.Phase.{Phase}
use Rattle.tp_model.specs.declared.arc.Side.{Side}
use Rattle.tp_model.specs.declared.transaction.TxEvent.{TxEvent}
use Rattle.tp_model.specs.declared.transaction.TxOut.{TxOut}
use Rattle.tp_model.specs.declared.recovery.Kept.{Kept}
use Rattle.tp_model.specs.declared.recovery.KeptEvent.{KeptEvent}
use Rattle.tp_model.specs.Parts.{Who, Event, Out, Tell, Send, Link, Idle, Opening, Offered, Live, Arc, Under, Current, Digest}
use Rattle.tp_model.specs.Links.{with_one_taken}
use Rattle.tp_model.specs.Dialogues.{Sight, Acts, Nothing_happens, Out_of_phase, is_nil, is_active, is_rolling, is_ready, is_committing, is_chained, fresh_dialogue, refused_on_arc, begun_by, named_holder, cleared, Asked, Ask_data, Ask_error, Ask_grant, Ask_control, Ask_handshake, Ask_respond, Ask_handshake_grant, Ask_defer_end, Ask_defer_grant, Hear_defer_end, Hear_defer_grant, said, heard}
use Rattle.tp_model.specs.Arcs.{find_arc, put_arc, without_arc, with_link, with_dialogue, carried_on, carried, shut_says, shut_with, performed_one, performed}
use Rattle.tp_model.specs.Transactions.{Row, Transaction, Turn, turn, and_then, is_under, is_under_at, find_row, find_row_by_id, row_holds, with_row, with_arc_lost, is_waited_for, all_settled, done_up, complete_commit, complete_rollback, begin_rolling, roll, order, settle, ask_commit, leave, count_branch, end_branch, branch_left, lost_arc, complete, by_user, superior_rolls, takes_left, takes, sight_of_tx, is_open_in_commit, replied, give_up, aaid_of, transacted}
use Rattle.tp_model.specs.Recovery.{forget_to, is_commit, settled, noted, ask_owed, tell_superior, owed, find_kept, with_forget}
use Rattle.tp_model.specs.Node.{may_root, phase_of, has_asked, seen, situation_at, Move, move, followed, perform, Passage, Commits, grants, is_granting, perform_commit, committed_arcs, played, fresh_current, may_begin_on, begin_on, begin_each, begin_chained, chained_peers, start_root, has_none, try_start, is_over, passed, turned, transact, keep, around_grants, started_next}
use Rattle.tp_model.specs.Requests.{refused_request, speak, call, accept, reject, abort, begin_transaction, do_request}
use Rattle.tp_model.specs.Arrivals.{Named, branch_key, named_by_key, named_by_branch, is_current_ready, lose, take_abort, take_begin, take_record, woken_by, sight_at, take_on, take_accept, reply_to, take_order, take_forget, take_done_reply, take_ready_reply, do_arrival, broken_pair, break_off}
use Rattle.tp_model.specs.Events.{retry_each, retry, purge, refusal, action}
use Rattle.tp_steps.proofs.every.EveryEvent.{plain_request}
use Rattle.tp_steps.proofs.lemmas.Joined.{IsJoined, joined_up, joined_prepare, joined_ask, joined_done, joined_report, joined_retried, joined_completes, joined_unrolls, joined_rolls, joined_order, joined_leaves}
use Rattle.tp_steps.specs.Turns.{vote}
use Rattle.tp_steps.proofs.every.BeginCases.{next_child, begun_over, begin_cases}
use Rattle.tp_steps.specs.Histories.{brought}
use Rattle.tp_steps.specs.Trees.{out_tells}
use Rattle.tp_encodable.specs.Sizes.{IsShort, AreShort, IsShortRecord, BringsFew}
use Rattle.tp_encodable.specs.Begins.{is_begin_told, takes_begin}
use Rattle.tp_steps.proofs.links.Whole.{IsWhole, whole_turn}
use Rattle.tp_steps.proofs.every.AcceptCases.{accept_cases, reject_cases}

-- ---- what is said of it

-- by two switches: how much of a user's octets is carried, and whether a Begin is taken
module _ (sized may : Bool) where
  abbrev pub HasFew : DialogueRecord → Type 0
  HasFew (DialogueRecord.UserData xs) = sized ≡ true → length xs ≤ 1024
  HasFew _ = Unit {0}

  abbrev pub Carries : PeerRecord → Type 0
  Carries (PeerRecord.OnAssoc x y q r) = HasFew r
  Carries _ = Unit {0}

  abbrev pub IsSaid : Out → Type 0
  IsSaid (Tell (Indication.UserData p xs)) = sized ≡ true → length xs ≤ 1024
  IsSaid (Tell (Indication.BeginTransaction p t)) = may ≡ true
  IsSaid (Tell _) = Unit {0}
  IsSaid (Send a r) = Carries r

  abbrev pub AreSaid : List Out → Type 0
  AreSaid [] = Unit {0}
  AreSaid (o ∷ outs) = IsSaid o × AreSaid outs

  abbrev pub Brings : Option (Addr × PeerRecord) → Type 0
  Brings None = Unit {0}
  Brings (Some (a, r)) = Carries r

  abbrev pub MayTake : DialogueRecord → Type 0
  MayTake (DialogueRecord.Begin t b h) = may ≡ true
  MayTake _ = Unit {0}

  abbrev pub MayArrive : PeerRecord → Type 0
  MayArrive (PeerRecord.OnAssoc x y q r) = MayTake r
  MayArrive _ = Unit {0}

  abbrev pub MayHappen : Event → Type 0
  MayHappen (Event.Arrive from r) = MayArrive r
  MayHappen _ = Unit {0}

  -- ---- what a transaction asks for

  abbrev pub IsShortOut : TxOut → Type 0
  IsShortOut (TxOut.Tell i) = IsSaid (Tell i)
  IsShortOut (TxOut.Carry p r) = HasFew r
  IsShortOut (TxOut.Shut p) = Unit {0}
  IsShortOut (TxOut.Recovery a r) = IsSaid (Send a r)
  IsShortOut (TxOut.Close p) = Unit {0}

  abbrev pub AreShortOuts : List TxOut → Type 0
  AreShortOuts [] = Unit {0}
  AreShortOuts (o ∷ outs) = IsShortOut o × AreShortOuts outs

  outs_append : (xs ys : List TxOut) → AreShortOuts xs → AreShortOuts ys → AreShortOuts (xs ++ ys)
  outs_append [] ys h i = i
  outs_append (x ∷ xs) ys h i = (h.0, outs_append xs ys h.1 i)

  joined : IsJoined AreShortOuts
  joined = record { none = tt; more = outs_append }

  either : (P : Turn → Type 0) (b : Bool) (x y : Turn) → P x → P y → P (if b then x else y)
  either P true x y h i = h
  either P false x y h i = i

  abbrev Says : Turn → Type 0
  Says a = AreShortOuts a.outs

  joins : (a : Turn) (f : Transaction → Turn) → Says a → ((t : Transaction) → Says (f t)) → Says (and_then a f)
  joins a f h i = outs_append a.outs (f a.next).outs h (i a.next)

  says_rollback : (t : Transaction) → Says (complete_rollback t)
  says_rollback t = joined_unrolls AreShortOuts joined t (λ p r. (tt, tt)) (λ r. (tt, tt))

  says_done : (t : Transaction) (r : Report) → AreShortOuts (done_up t r)
  says_done t r = joined_done AreShortOuts joined t r (λ p. (tt, tt)) (λ a b s i. (tt, tt))

  says_commit : (t : Transaction) → Says (complete_commit t)
  says_commit t = joined_completes AreShortOuts joined t (λ z b. (tt, tt)) (says_done t) (λ r. (tt, tt)) (λ p. (tt, tt))

  says_roll : (asked : Bool) (t : Transaction) → Says (roll asked t)
  says_roll asked t = joins (begin_rolling asked t) complete_rollback (joined_rolls AreShortOuts joined asked t (tt, tt) (λ p. (tt, tt))) says_rollback

  says_order : (t : Transaction) → Says (order t)
  says_order t = joined_order AreShortOuts joined t (tt, tt) (λ p. (tt, tt))

  says_settle : (t : Transaction) → Says (settle t)
  unfolding settle
  says_settle t =
      either Says (is_active t.phase && t.asked && all_settled t.rows) _ (turn [] t) (either Says (is_under t.key) (vote t) (order t) (joined_up AreShortOuts joined t DialogueRecord.Ready (λ p. (tt, tt))) (says_order t)) tt

  says_ask : (t : Transaction) → Says (ask_commit t)
  unfolding ask_commit
  says_ask t = joined_prepare AreShortOuts joined t.rows (λ p. (tt, tt))

  says_leave : (t : Transaction) → Says (leave t)
  says_leave t = joined_leaves AreShortOuts joined t (λ p. (tt, tt)) (λ p. (tt, tt)) (λ p. (tt, tt))

  says_count : (p : ℕ) (t : Transaction) → Says (count_branch p t)
  unfolding count_branch
  says_count p t = (tt, tt)

  says_end : (p : ℕ) (r : Report) (t : Transaction) → Says (end_branch p r t)
  unfolding end_branch
  says_end p r t = joined_report AreShortOuts joined p r (tt, tt)

  says_left : (p : ℕ) (t : Transaction) → Says (branch_left p t)
  unfolding branch_left
  says_left p t = (tt, tt)

  says_lost : (p : ℕ) (t : Transaction) → Says (lost_arc p t)
  unfolding lost_arc
  says_lost p t =
      let gone : Transaction = with_arc_lost t p in
      either Says (is_active t.phase && (is_under_at t.key p || row_holds t.rows p is_waited_for)) (roll false gone) _ (says_roll false gone)
      (either Says (is_rolling t.phase) (complete_rollback gone) (turn [] gone) (says_rollback gone) tt)

  says_complete : (t : Transaction) → Says (complete t)
  says_complete t = go t.phase
    where
      go : (p : Phase) → Says (elim p as (λ _. Turn) [ Phase.Nil ↦ turn [] t | Phase.Active ↦ turn [] t | Phase.Ready ↦ turn [] t | Phase.Committing ↦ complete_commit t | Phase.Rolling ↦ complete_rollback t ])
      go Phase.Committing = says_commit t
      go Phase.Rolling = says_rollback t
      go _ = tt

  says_user : (r : Request) (t : Transaction) → Says (by_user r t)
  says_user (Request.UAbort p) t = (tt, (tt, says_roll true (with_arc_lost t p)))
  says_user (Request.DeferEnd p) t = (tt, tt)
  says_user (Request.DeferGrant p) t = (tt, tt)
  says_user (Request.Prepare p) t = (tt, tt)
  says_user Request.Commit t = joins (ask_commit t) settle (says_ask t) says_settle
  says_user Request.Done t = says_complete (record t { owes = false })
  says_user Request.Rollback t = says_roll true t
  says_user Request.Unchanged t = says_leave t
  says_user _ t = tt

  says_superior : (t : Transaction) → Says (superior_rolls t)
  says_superior t = let noted : Transaction = record t { superior_rolled = true } in either Says (is_rolling t.phase) (complete_rollback noted) (roll false noted) (says_rollback noted) (says_roll false noted)

  says_taken_left : (p : ℕ) (t : Transaction) → Says (takes_left p t)
  says_taken_left p t =
      either Says (is_active t.phase) _ _ (joins (branch_left p t) settle (says_left p t) says_settle) (joins (end_branch p Report.None t) complete_rollback (says_end p Report.None t) says_rollback)

  says_takes : (p : ℕ) (r : DialogueRecord) (t : Transaction) → Says (takes p r t)
  says_takes p DialogueRecord.UAbort t = (tt, says_lost p t)
  says_takes p DialogueRecord.DeferEnd t = (tt, tt)
  says_takes p DialogueRecord.DeferGrant t = (tt, tt)
  says_takes p DialogueRecord.Prepare t = (tt, tt)
  says_takes p DialogueRecord.Ready t = joins (count_branch p t) settle (says_count p t) says_settle
  says_takes p DialogueRecord.Commit t = says_order t
  says_takes p (DialogueRecord.Done r) t = joins (end_branch p r t) complete_commit (says_end p r t) says_commit
  says_takes p DialogueRecord.Rollback t = either Says (is_under_at t.key p) (superior_rolls t) (roll false t) (says_superior t) (says_roll false t)
  says_takes p (DialogueRecord.RolledBack r) t = joins (end_branch p r t) complete_rollback (says_end p r t) says_rollback
  says_takes p DialogueRecord.Left t = says_taken_left p t
  says_takes p DialogueRecord.LeftEnd t = (tt, says_taken_left p (with_row t p (λ r. record r { live = false; ends = false })))
  says_takes p _ t = tt

  says_reply : (t : Transaction) (b : BranchId) (s : RecState) → Says (replied t b s)
  says_reply t b RecState.Commit = either Says (is_ready t.phase) (order t) (turn [] t) (says_order t) tt
  says_reply t b (RecState.Done r) = go (find_row_by_id t.rows b)
    where
      go : (o : Option Row) → Says (elim o as (λ _. Turn) [ None ↦ turn [] t | Some row ↦ if is_open_in_commit t row.branch then and_then (end_branch row.branch.peer.node r t) complete_commit else turn [] t ])
      go None = tt
      go (Some row) = either Says (is_open_in_commit t row.branch) _ (turn [] t) (joins (end_branch row.branch.peer.node r t) complete_commit (says_end row.branch.peer.node r t) says_commit) tt
  says_reply t b RecState.Unknown = either Says (is_ready t.phase) (superior_rolls t) (turn [] t) (says_superior t) tt
  says_reply t b RecState.RetryLater = tt

  says_give_up : (p : ℕ) (t : Transaction) → Says (give_up p t)
  says_give_up p t = go (find_row t.rows p)
    where
      shut : (b : Bool) → AreShortOuts (if b then TxOut.Shut p ∷ [] else [])
      shut true = (tt, tt)
      shut false = tt

      go : (o : Option Row) → Says (elim o as (λ _. Turn) [
        | None ↦ turn [] t
        | Some r ↦ and_then (turn (if r.live then TxOut.Shut p ∷ [] else []) (with_row t p (λ q. record q { branch = record q.branch { given_up = true }; live = false; ends = false }))) complete_commit
      ])
      go None = tt
      go (Some r) =
          joins (turn (if r.live then TxOut.Shut p ∷ [] else []) (with_row t p (λ q. record q { branch = record q.branch { given_up = true }; live = false; ends = false }))) complete_commit (shut r.live) says_commit

  pub says_turn : (e : TxEvent) (t : Transaction) → Says (transacted e t)
  says_turn (TxEvent.Begun arcs) t = tt
  says_turn (TxEvent.User r) t = says_user r t
  says_turn (TxEvent.Took p r) t = go (sight_of_tx t p r)
    where
      go : (g : Sight) → Says (elim g as (λ _. Turn) [ Acts ↦ takes p r t | Nothing_happens ↦ turn [] t | Out_of_phase ↦ turn [] t ])
      go Acts = says_takes p r t
      go Nothing_happens = tt
      go Out_of_phase = tt
  says_turn (TxEvent.Lost p) t = (tt, says_lost p t)
  says_turn (TxEvent.Heur o) t = tt
  says_turn (TxEvent.GiveUp p) t = says_give_up p t
  says_turn TxEvent.Ordered t = says_order t
  says_turn (TxEvent.Reply b s) t = says_reply t b s
  says_turn TxEvent.Retry t = joined_retried AreShortOuts joined t (tt, tt) (λ a b s i. (tt, tt)) (λ i. joined_ask AreShortOuts joined (aaid_of t.key) t.rows (λ z b. (tt, tt)))

  -- ---- what goes out over the arcs

  pub short_append : (xs ys : List Out) → AreSaid xs → AreSaid ys → AreSaid (xs ++ ys)
  short_append [] ys h i = i
  short_append (x ∷ xs) ys h i = (h.0, short_append xs ys h.1 i)

  short_carried : (arcs : List Arc) (p : ℕ) (r : DialogueRecord) → HasFew r → AreSaid (carried arcs p r).1
  short_carried [] p r h = tt
  short_carried (a ∷ arcs) p r h = go (a.peer.node == p) (short_carried arcs p r h)
    where
      on : (l : Link) → AreSaid (elim l as (λ _. Arc × List Out) [
        | Idle ↦ (a, [])
        | Opening x ↦ (a, [])
        | Offered x ↦ (a, [])
        | Live x y sent taken ↦ (record a { link = Live x y (suc sent) taken }, Send a.peer (PeerRecord.OnAssoc x y sent r) ∷ [])
      ]).1
      on Idle = tt
      on (Opening x) = tt
      on (Offered x) = tt
      on (Live x y sent taken) = (h, tt)

      go : (b : Bool) → AreSaid (carried arcs p r).1 → AreSaid (if◌then◌else◌ {A = List Arc × List Out} b (let s = carried_on a r in (s.0 ∷ arcs, s.1)) (let s = carried arcs p r in (a ∷ s.0, s.1))).1
      go true rest = on a.link
      go false rest = rest

  short_shut : (arcs : List Arc) (p : ℕ) → AreSaid (shut_with arcs p).1
  short_shut arcs p = go (find_arc arcs p)
    where
      says : (to : Addr) (l : Link) → AreSaid (shut_says to l)
      says to Idle = tt
      says to (Opening x) = tt
      says to (Offered x) = tt
      says to (Live x y sent taken) = (tt, tt)

      go : (o : Option Arc) → AreSaid (elim o as (λ _. List Arc × List Out) [ None ↦ (arcs, []) | Some a ↦ (without_arc arcs p, shut_says a.peer a.link) ]).1
      go None = tt
      go (Some a) = says a.peer a.link

  short_one : (arcs : List Arc) (o : TxOut) → IsShortOut o → AreSaid (performed_one arcs o).1
  short_one arcs (TxOut.Tell i) h = (h, tt)
  short_one arcs (TxOut.Carry p r) h = short_carried arcs p r h
  short_one arcs (TxOut.Shut p) h = short_shut arcs p
  short_one arcs (TxOut.Recovery to r) h = (h, tt)
  short_one arcs (TxOut.Close p) h = tt

  pub short_performed : (arcs : List Arc) (outs : List TxOut) → AreShortOuts outs → AreSaid (performed arcs outs).1
  short_performed arcs [] h = tt
  short_performed arcs (o ∷ outs) h = short_append (performed_one arcs o).1 _ (short_one arcs o h.0) (short_performed (performed_one arcs o).0 outs h.1)

  short_grants : (t : Transaction) (arcs : List Arc) → AreShortOuts (grants t arcs)
  short_grants t [] = tt
  short_grants t (a ∷ arcs) = go (is_granting t a) (short_grants t arcs)
    where
      go : (b : Bool) → AreShortOuts (grants t arcs) → AreShortOuts (if b then TxOut.Carry a.peer.node DialogueRecord.Grant ∷ grants t arcs else grants t arcs)
      go true rest = (tt, rest)
      go false rest = rest

  record AreParts (s : List TxOut × List TxOut) : Type 0 where
    before : AreShortOuts s.0
    behind : AreShortOuts s.1

  short_split : (xs ys : List TxOut) → AreShortOuts (xs ++ ys) → AreParts (xs, ys)
  short_split [] ys h = record { before = tt; behind = h }
  short_split (x ∷ xs) ys h = let rest : AreParts (xs, ys) = short_split xs ys h.1 in record { before = (h.0, rest.before); behind = rest.behind }

  short_commit : (d : Digest) (t : Transaction) (s : List TxOut × List TxOut) (arcs : List Arc) → AreShortOuts (s.0 ++ s.1) → AreSaid (perform_commit d t s arcs).1
  short_commit d t s arcs h =
      let p : AreParts s = short_split s.0 s.1 h in
      let one : List Arc = (performed arcs s.0).0 in
      let mid : List Arc = committed_arcs d t one in
      short_append ((performed arcs s.0).1 ++ (performed mid (grants t one)).1) _
      (short_append (performed arcs s.0).1 (performed mid (grants t one)).1 (short_performed arcs s.0 p.before) (short_performed mid (grants t one) (short_grants t one)))
      (short_performed (performed mid (grants t one)).0 s.1 p.behind)

  short_played : (d : Digest) (t : Transaction) (w : Passage) (asks : Turn) → IsWhole asks → (arcs : List Arc) → AreShortOuts asks.outs → AreSaid (played d t w asks arcs).1
  unfolding played
  short_played d t Commits asks whole arcs h = short_commit d t (around_grants asks) arcs (subst AreShortOuts (sym whole) h)
  short_played d t _ asks whole arcs h = short_performed arcs asks.outs h

  -- ---- events of a node

  abbrev Gives : Move → Type 0
  Gives m = AreSaid m.outs

  either_move : (b : Bool) (x y : Move) → Gives x → Gives y → Gives (if b then x else y)
  either_move true x y h i = h
  either_move false x y h i = i

  follows : (a : Move) (f : Digest → Move) → Gives a → ((d : Digest) → Gives (f d)) → Gives (followed a f)
  follows a f h i = short_append a.outs (f a.next).outs h (i a.next)

  performs : (outs : List TxOut) (d : Digest) → AreShortOuts outs → Gives (perform outs d)
  performs outs d h = short_performed d.arcs outs h

  gives_begin : (who : Who) (p : ℕ) (d : Digest) → Gives (begin_on who p d)
  gives_begin who p d = begin_cases Gives who p d tt on
    where
      on : (c : Current) (a : Arc) → d.current ≡ Some c → find_arc d.arcs p ≡ Some a → may_begin_on who d a ≡ true → Gives (begun_over who p d c a)
      on c a now found may =
          let outs : List TxOut = TxOut.Carry p (DialogueRecord.Begin (aaid_of c.key) (next_child who d a).branch (named_holder a.dialogue)) ∷ [] in
          let h : AreShortOuts outs = (tt, tt) in
          short_performed (with_dialogue d.arcs p (begun_by (named_holder a.dialogue) Side.Superior)) outs h

  gives_each : (who : Who) (ps : List ℕ) (d : Digest) → Gives (begin_each who ps d)
  gives_each who [] d = tt
  gives_each who (p ∷ ps) d = short_append (begin_on who p d).outs (begin_each who ps (begin_on who p d).next).outs (gives_begin who p d) (gives_each who ps (begin_on who p d).next)

  gives_chained : (who : Who) (d : Digest) → Gives (begin_chained who d)
  gives_chained who d = gives_each who (chained_peers who d) d

  gives_root : (who : Who) (named : List ℕ) (d : Digest) → Gives (start_root who named d)
  unfolding start_root
  gives_root who named d = follows (begin_each who named _) (begin_chained who) (gives_each who named _) (gives_chained who)

  gives_start : (who : Who) (d : Digest) → Gives (try_start who d)
  unfolding try_start
  gives_start who d = either_move (is_nil (phase_of d) && may_root d && not (has_none (chained_peers who d))) (start_root who [] d) (move [] d) (gives_root who [] d) tt

  gives_transact : (who : Who) (f : TxEvent) (d : Digest) → Gives (transact who f d)
  unfolding transact
  gives_transact who f d = go d.current
    where
      turn_gives : (c : Current) → Gives (turned who f d c)
      turn_gives c = short_played d _ _ (transacted f (seen who d.arcs c)) (whole_turn f (seen who d.arcs c)) _ (says_turn f (seen who d.arcs c))

      go : (o : Option Current) → Gives (elim o as (λ _. Move) [ None ↦ move [] d | Some c ↦ started_next who (passed who f d c) (turned who f d c) ])
      go None = tt
      go (Some c) = either_move (is_over (passed who f d c)) (followed (turned who f d c) (try_start who)) (turned who f d c) (follows (turned who f d c) (try_start who) (turn_gives c) (gives_start who)) (turn_gives c)

  forgets_short : (to : Addr) (k : NodeKey) (b : BranchId) (r : Report) → AreShortOuts (forget_to to k b r)
  forgets_short to k b r = go (is_report_none r)
    where
      go : (x : Bool) → AreShortOuts (if x then [] else TxOut.Recovery to (PeerRecord.Forget k.aaid b) ∷ [])
      go true = tt
      go false = (tt, tt)

  gives_kept : (k : Kept) (f : KeptEvent) (d : Digest) → Gives (keep (settled k f) d)
  unfolding settled
  gives_kept k (KeptEvent.Done from b r) d = short_performed d.arcs (forget_to from k.key b r) (forgets_short from k.key b r)
  gives_kept k KeptEvent.Forget d = tt
  gives_kept k KeptEvent.Purge d = tt

  -- ---- requests

  gives_accept : (who : Who) (u : ℕ) (d : Digest) → Gives (accept who u d)
  gives_accept who u d = accept_cases Gives who u d tt (λ a x i j. (tt, tt))

  gives_reject : (d : Digest) → Gives (reject d)
  gives_reject d = reject_cases Gives d tt (λ a x i j. (tt, tt))

  gives_call : (who : Who) (a : Addr) (u : ℕ) (d : Digest) → Gives (call who a u d)
  unfolding call
  gives_call who a u d = (tt, tt)

  gives_abort : (who : Who) (p : ℕ) (d : Digest) → Gives (abort who p d)
  unfolding abort
  gives_abort who p d = either_move (situation_at who d p).branch _ _ (gives_transact who (TxEvent.User (Request.UAbort p)) d) (performs (TxOut.Carry p DialogueRecord.UAbort ∷ TxOut.Close p ∷ []) d (tt, (tt, tt)))

  gives_transaction : (who : Who) (p : ℕ) (d : Digest) → Gives (begin_transaction who p d)
  unfolding begin_transaction
  gives_transaction who p d = go d.current
    where
      go : (o : Option Current) → Gives (elim o as (λ _. Move) [ None ↦ start_root who (p ∷ []) d | Some c ↦ begin_on who p d ])
      go None = gives_root who (p ∷ []) d
      go (Some c) = gives_begin who p d

  -- a user's data is refused where it is too long
  data_fits : (who : Who) (d : Digest) (p : ℕ) (xs : List ℕ) → refused_request who d (Request.UserData p xs) ≡ None → length xs ≤ 1024
  unfolding refused_request refused_on_arc
  data_fits who d p xs ok = go (find_arc d.arcs p) refl
    where
      long : (b : Bool) → nat_lt 1024 (length xs) ≡ b → b ≡ false → length xs ≤ 1024
      long b i j = let off : nat_lt 1024 (length xs) ≡ false = i ∙ j in grind (arith, nat_tests, off)

      go : (o : Option Arc) → find_arc d.arcs p ≡ o → length xs ≤ 1024
      go None i = absurd (grind (arith, ok, i))
      go (Some a) i = long (nat_lt 1024 (length xs)) refl (grind (arith, ok, i))

  speaks : (p : ℕ) (a : Asked) (r : DialogueRecord) (d : Digest) → HasFew r → Gives (speak p a r d)
  speaks p a r d h = performs (TxOut.Carry p r ∷ []) (record d { arcs = with_dialogue d.arcs p (said a) }) (h, tt)

  gives_request : (who : Who) (d : Digest) (r : Request) → refused_request who d r ≡ None → Gives (do_request who r d)
  gives_request who d (Request.BeginDialogue a u) ok = gives_call who a u d
  gives_request who d (Request.Accept u) ok = gives_accept who u d
  gives_request who d Request.Reject ok = gives_reject d
  gives_request who d (Request.EndDialogue p) ok = performs (TxOut.Carry p DialogueRecord.EndDialogue ∷ TxOut.Close p ∷ []) d (tt, (tt, tt))
  gives_request who d (Request.UserData p xs) ok = speaks p Ask_data (DialogueRecord.UserData xs) d (λ s. data_fits who d p xs ok)
  gives_request who d (Request.UError p) ok = speaks p Ask_error DialogueRecord.UError d tt
  gives_request who d (Request.UAbort p) ok = gives_abort who p d
  gives_request who d (Request.Grant p) ok = speaks p Ask_grant DialogueRecord.Grant d tt
  gives_request who d (Request.AskControl p) ok = speaks p Ask_control DialogueRecord.AskControl d tt
  gives_request who d (Request.Handshake p) ok = speaks p Ask_handshake DialogueRecord.Handshake d tt
  gives_request who d (Request.Respond p) ok = speaks p Ask_respond DialogueRecord.Response d tt
  gives_request who d (Request.HandshakeGrant p) ok = speaks p Ask_handshake_grant DialogueRecord.HandshakeGrant d tt
  gives_request who d (Request.BeginTransaction p) ok = gives_transaction who p d
  gives_request who d (Request.DeferEnd p) ok = gives_transact who (TxEvent.User (Request.DeferEnd p)) (record d { arcs = with_dialogue d.arcs p (said Ask_defer_end) })
  gives_request who d (Request.DeferGrant p) ok = gives_transact who (TxEvent.User (Request.DeferGrant p)) (record d { arcs = with_dialogue d.arcs p (said Ask_defer_grant) })
  gives_request who d (Request.Prepare p) ok = gives_transact who (TxEvent.User (Request.Prepare p)) d
  gives_request who d Request.Commit ok = gives_transact who (TxEvent.User Request.Commit) d
  gives_request who d Request.Done ok = gives_transact who (TxEvent.User Request.Done) d
  gives_request who d Request.Rollback ok = gives_transact who (TxEvent.User Request.Rollback) d
  gives_request who d Request.Unchanged ok = gives_transact who (TxEvent.User Request.Unchanged) d

  -- ---- arrivals

  gives_lose : (who : Who) (p : ℕ) (d : Digest) → Gives (lose who p d)
  unfolding lose
  gives_lose who p d = go d.current
    where
      gone : Digest
      gone = record d { arcs = without_arc d.arcs p }

      go : (o : Option Current) → Gives (elim o as (λ _. Move) [ None ↦ perform (TxOut.Tell (Indication.PAbort p) ∷ []) gone | Some c ↦ transact who (TxEvent.Lost p) gone ])
      go None = (tt, tt)
      go (Some c) = gives_transact who (TxEvent.Lost p) gone

  gives_take_abort : (who : Who) (p : ℕ) (d : Digest) → Gives (take_abort who p d)
  unfolding take_abort
  gives_take_abort who p d = go d.current
    where
      gone : Digest
      gone = record d { arcs = without_arc d.arcs p }

      go : (o : Option Current) → Gives (elim o as (λ _. Move) [ None ↦ perform (TxOut.Tell (Indication.UAbort p) ∷ []) gone | Some c ↦ transact who (TxEvent.Took p DialogueRecord.UAbort) gone ])
      go None = (tt, tt)
      go (Some c) = gives_transact who (TxEvent.Took p DialogueRecord.UAbort) gone

  gives_take_begin : (who : Who) (a : Arc) (t : Aaid) (b : BranchId) (h : Holder) (d : Digest) → may ≡ true → Gives (take_begin who a t b h d)
  unfolding take_begin
  gives_take_begin who a t b h d u =
      let outs : List TxOut = TxOut.Tell (Indication.BeginTransaction a.peer.node t) ∷ [] in
      let begun : Digest = record d { arcs = with_dialogue d.arcs a.peer.node (begun_by h Side.Subordinate); current = Some (fresh_current (Under t b a.peer)) } in
      follows (perform outs begun) (begin_chained who) (performs outs begun (u, tt)) (gives_chained who)

  gives_record : (who : Who) (a : Arc) (r : DialogueRecord) (d : Digest) → HasFew r → MayTake r → Gives (take_record who a r d)
  gives_record who a DialogueRecord.EndDialogue d h u = performs (TxOut.Tell (Indication.EndDialogue a.peer.node) ∷ TxOut.Close a.peer.node ∷ []) d (tt, (tt, tt))
  gives_record who a (DialogueRecord.UserData xs) d h u = (h, tt)
  gives_record who a DialogueRecord.UError d h u = (tt, tt)
  gives_record who a DialogueRecord.UAbort d h u = gives_take_abort who a.peer.node d
  gives_record who a DialogueRecord.Grant d h u = (tt, tt)
  gives_record who a DialogueRecord.AskControl d h u = (tt, tt)
  gives_record who a DialogueRecord.Handshake d h u = (tt, tt)
  gives_record who a DialogueRecord.HandshakeGrant d h u = (tt, tt)
  gives_record who a DialogueRecord.Response d h u = (tt, tt)
  gives_record who a DialogueRecord.DeferEnd d h u = gives_transact who (TxEvent.Took a.peer.node DialogueRecord.DeferEnd) (record d { arcs = with_dialogue d.arcs a.peer.node (heard Hear_defer_end) })
  gives_record who a DialogueRecord.DeferGrant d h u = gives_transact who (TxEvent.Took a.peer.node DialogueRecord.DeferGrant) (record d { arcs = with_dialogue d.arcs a.peer.node (heard Hear_defer_grant) })
  gives_record who a (DialogueRecord.Begin t b k) d h u = gives_take_begin who a t b k d u
  gives_record who a DialogueRecord.Prepare d h u = gives_transact who (TxEvent.Took a.peer.node DialogueRecord.Prepare) d
  gives_record who a DialogueRecord.Ready d h u = gives_transact who (TxEvent.Took a.peer.node DialogueRecord.Ready) d
  gives_record who a DialogueRecord.Commit d h u = gives_transact who (TxEvent.Took a.peer.node DialogueRecord.Commit) d
  gives_record who a (DialogueRecord.Done r) d h u = gives_transact who (TxEvent.Took a.peer.node (DialogueRecord.Done r)) d
  gives_record who a DialogueRecord.Rollback d h u = gives_transact who (TxEvent.Took a.peer.node DialogueRecord.Rollback) d
  gives_record who a (DialogueRecord.RolledBack r) d h u = gives_transact who (TxEvent.Took a.peer.node (DialogueRecord.RolledBack r)) d
  gives_record who a DialogueRecord.Left d h u = gives_transact who (TxEvent.Took a.peer.node DialogueRecord.Left) (record d { arcs = with_dialogue d.arcs a.peer.node (cleared) })
  gives_record who a DialogueRecord.LeftEnd d h u = gives_transact who (TxEvent.Took a.peer.node DialogueRecord.LeftEnd) (record d { arcs = with_dialogue d.arcs a.peer.node (cleared) })

  gives_on : (who : Who) (a : Arc) (r : DialogueRecord) (d : Digest) → HasFew r → MayTake r → Gives (take_on who a r d)
  gives_on who a r d h u = go (sight_at who d a r)
    where
      counted : Digest
      counted = woken_by r a.peer.node (record d { arcs = with_link d.arcs a.peer.node with_one_taken })

      go : (g : Sight) → Gives (elim g as (λ _. Move) [ Acts ↦ take_record who a r counted | Nothing_happens ↦ move [] counted | Out_of_phase ↦ move [] counted ])
      go Acts = gives_record who a r counted h u
      go Nothing_happens = tt
      go Out_of_phase = tt

  gives_take_accept : (who : Who) (a : Arc) (x y : Mark) (u : ℕ) (d : Digest) → Gives (take_accept who a x y u d)
  unfolding take_accept
  gives_take_accept who a x y u d = follows (perform outs live) rest (performs outs live (tt, tt)) after
    where
      outs : List TxOut
      outs = TxOut.Tell (Indication.BegunDialogue a.peer.node u) ∷ []

      live : Digest
      live = record d { arcs = put_arc d.arcs (record a { link = Live x y 0 0; dialogue = fresh_dialogue u Side.Superior }) }

      rest : Digest → Move
      rest e = if not (is_chained (fresh_dialogue u Side.Superior)) then move [] e else if is_nil (phase_of e) then try_start who e else if is_active (phase_of e) && not (has_asked e) then begin_on who a.peer.node e else move [] e

      after : (e : Digest) → Gives (rest e)
      after e =
          either_move (not (is_chained (fresh_dialogue u Side.Superior))) (move [] e) _ tt
          (either_move (is_nil (phase_of e)) (try_start who e) _ (gives_start who e) (either_move (is_active (phase_of e) && not (has_asked e)) (begin_on who a.peer.node e) (move [] e) (gives_begin who a.peer.node e) tt))

  gives_reply : (from : Addr) (t : Aaid) (b : BranchId) (o : Option RecState) (d : Digest) → Gives (reply_to from t b o d)
  gives_reply from t b None d = tt
  gives_reply from t b (Some s) d = (tt, tt)

  gives_order : (who : Who) (from : Addr) (t : Aaid) (b : BranchId) (d : Digest) → Gives (take_order who from t b d)
  gives_order who from t b d = either_move (is_current_ready (named_by_key d (branch_key t b))) (transact who TxEvent.Ordered d) _ (gives_transact who TxEvent.Ordered d) (gives_reply from t b _ d)

  gives_forget : (k : NodeKey) (d : Digest) → Gives (take_forget k d)
  gives_forget k d = go (find_kept d.kept k)
    where
      go : (o : Option Kept) → Gives (elim o as (λ _. Move) [ None ↦ move [] d | Some x ↦ keep (settled x KeptEvent.Forget) (record d { kept = with_forget d.kept k (λ y. noted y KeptEvent.Forget) }) ])
      go None = tt
      go (Some x) = gives_kept x KeptEvent.Forget (record d { kept = with_forget d.kept k (λ y. noted y KeptEvent.Forget) })

  gives_done_reply : (who : Who) (from : Addr) (t : Aaid) (b : BranchId) (r : Report) (d : Digest) → Gives (take_done_reply who from t b r d)
  gives_done_reply who from t b r d =
      either_move (elim n.current [ None ↦ false | Some c ↦ is_committing c.phase ]) (transact who (TxEvent.Reply b (RecState.Done r)) d) _ (gives_transact who (TxEvent.Reply b (RecState.Done r)) d) (kept n.kept)
    where
      n : Named
      n = named_by_branch d t b

      none : (o : Option Current) → Gives (elim o as (λ _. Move) [ Some c ↦ move [] d | None ↦ perform (forget_to from (branch_key t b) b r) d ])
      none None = performs (forget_to from (branch_key t b) b r) d (forgets_short from (branch_key t b) b r)
      none (Some c) = tt

      kept : (o : Option Kept) → Gives (elim o as (λ _. Move) [
        | Some k ↦ keep (settled k (KeptEvent.Done from b r)) d
        | None ↦ elim n.current as (λ _. Move) [ Some c ↦ move [] d | None ↦ perform (forget_to from (branch_key t b) b r) d ]
      ])
      kept None = none n.current
      kept (Some k) = gives_kept k (KeptEvent.Done from b r) d

  gives_ready_reply : (who : Who) (t : Aaid) (b : BranchId) (s : RecState) (d : Digest) → Gives (take_ready_reply who t b s d)
  gives_ready_reply who t b s d = either_move (is_current_ready (named_by_key d (branch_key t b))) (transact who (TxEvent.Reply b s) d) (move [] d) (gives_transact who (TxEvent.Reply b s) d) tt

  gives_arrival : (who : Who) (from : Addr) (r : PeerRecord) (d : Digest) → Carries r → MayArrive r → Gives (do_arrival who from r d)
  gives_arrival who from (PeerRecord.OpenAssoc x u) d h w = (tt, tt)
  gives_arrival who from (PeerRecord.AcceptAssoc x y u) d h w = go (find_arc d.arcs from.node)
    where
      go : (o : Option Arc) → Gives (elim o as (λ _. Move) [ None ↦ move [] d | Some a ↦ take_accept who a x y u d ])
      go None = tt
      go (Some a) = gives_take_accept who a x y u d
  gives_arrival who from (PeerRecord.ShutAssoc x None) d h w = performs (TxOut.Close from.node ∷ TxOut.Tell (Indication.Rejected from.node) ∷ []) d (tt, (tt, tt))
  gives_arrival who from (PeerRecord.ShutAssoc x (Some y)) d h w = gives_lose who from.node d
  gives_arrival who from (PeerRecord.OnAssoc x y q r) d h w = go (find_arc d.arcs from.node)
    where
      go : (o : Option Arc) → Gives (elim o as (λ _. Move) [ None ↦ move [] d | Some a ↦ take_on who a r d ])
      go None = tt
      go (Some a) = gives_on who a r d h w
  gives_arrival who from (PeerRecord.RecReady t b) d h w = gives_reply from t b _ d
  gives_arrival who from (PeerRecord.RecCommit t b) d h w = gives_order who from t b d
  gives_arrival who from (PeerRecord.RecReply t b RecState.Commit) d h w = gives_ready_reply who t b RecState.Commit d
  gives_arrival who from (PeerRecord.RecReply t b (RecState.Done r)) d h w = gives_done_reply who from t b r d
  gives_arrival who from (PeerRecord.RecReply t b RecState.Unknown) d h w = gives_ready_reply who t b RecState.Unknown d
  gives_arrival who from (PeerRecord.RecReply t b RecState.RetryLater) d h w = gives_ready_reply who t b RecState.RetryLater d
  gives_arrival who from (PeerRecord.Forget t b) d h w = gives_forget (branch_key t b) d

  gives_break : (who : Who) (from : Addr) (r : PeerRecord) (d : Digest) → Gives (break_off who from r d)
  unfolding break_off
  gives_break who from r d = go (broken_pair r)
    where
      go : (o : Option (Mark × Mark)) → Gives (elim o as (λ _. Move) [ None ↦ move [] d | Some xy ↦ followed (perform (TxOut.Recovery from (PeerRecord.ShutAssoc xy.0 (Some xy.1)) ∷ []) d) (lose who from.node) ])
      go None = tt
      go (Some xy) =
          let outs : List TxOut = TxOut.Recovery from (PeerRecord.ShutAssoc xy.0 (Some xy.1)) ∷ [] in
          follows (perform outs d) (lose who from.node) (performs outs d (tt, tt)) (gives_lose who from.node)

  -- ---- local events

  asks_short : (t : Aaid) (cs : List Child) → AreShortOuts (ask_owed t cs)
  asks_short t [] = tt
  asks_short t (c ∷ cs) = (tt, asks_short t cs)

  tells_short : (k : Kept) → AreShortOuts (tell_superior k)
  tells_short k = over k.forgot
    where
      up : (b : BranchId) (o : Option Addr) → AreShortOuts (elim o as (λ _. List TxOut) [ None ↦ [] | Some a ↦ TxOut.Recovery a (PeerRecord.RecReply k.key.aaid b (RecState.Done k.report)) ∷ [] ])
      up b None = tt
      up b (Some a) = (tt, tt)

      branch : (o : Option BranchId) → AreShortOuts (elim o as (λ _. List TxOut) [
        | None ↦ []
        | Some b ↦ elim k.superior as (λ _. List TxOut) [ None ↦ [] | Some a ↦ TxOut.Recovery a (PeerRecord.RecReply k.key.aaid b (RecState.Done k.report)) ∷ [] ]
      ])
      branch None = tt
      branch (Some b) = up b k.superior

      over : (x : Bool) → AreShortOuts (if x then [] else elim k.key.branch as (λ _. List TxOut) [
        | None ↦ []
        | Some b ↦ elim k.superior as (λ _. List TxOut) [ None ↦ [] | Some a ↦ TxOut.Recovery a (PeerRecord.RecReply k.key.aaid b (RecState.Done k.report)) ∷ [] ]
      ])
      over true = tt
      over false = branch k.key.branch

  owed_short : (k : Kept) → AreShortOuts (owed k)
  unfolding owed
  owed_short k = go (is_commit k.side)
    where
      go : (b : Bool) → AreShortOuts (if b then ask_owed k.key.aaid k.owed ++ tell_superior k else [])
      go true = outs_append (ask_owed k.key.aaid k.owed) (tell_superior k) (asks_short k.key.aaid k.owed) (tells_short k)
      go false = tt

  gives_retries : (ks : List Kept) (d : Digest) → Gives (retry_each ks d)
  gives_retries [] d = tt
  gives_retries (k ∷ ks) d = short_append (perform (owed k) d).outs _ (performs (owed k) d (owed_short k)) (gives_retries ks (perform (owed k) d).next)

  gives_retry : (who : Who) (d : Digest) → Gives (retry who d)
  unfolding retry
  gives_retry who d = follows (transact who TxEvent.Retry d) (λ e. retry_each e.kept e) (gives_transact who TxEvent.Retry d) (λ e. gives_retries e.kept e)

  gives_purge : (d : Digest) → Gives (purge d)
  unfolding purge
  gives_purge d = go d.kept
    where
      go : (ks : List Kept) → Gives (elim ks as (λ _. Move) [ [] ↦ move [] d | k ∷ rest ↦ keep (settled k KeptEvent.Purge) d ])
      go [] = tt
      go (k ∷ rest) = gives_kept k KeptEvent.Purge d

  -- ---- every event

  pub outputs_said : (who : Who) (d : Digest) (e : Event) → refusal who d e ≡ None → Brings (brought e) → MayHappen e → AreSaid (action who d e).outs
  outputs_said who d (Event.Declare s) ok few u = tt
  outputs_said who d (Event.Do r) ok few u = gives_request who d r (plain_request who d r ok)
  outputs_said who d (Event.Arrive from r) ok few u = gives_arrival who from r d few u
  outputs_said who d (Event.Break from r) ok few u = gives_break who from r d
  outputs_said who d (Event.Lose p) ok few u = gives_lose who p d
  outputs_said who d (Event.Heur o) ok few u = gives_transact who (TxEvent.Heur o) d
  outputs_said who d (Event.GiveUp p) ok few u = gives_transact who (TxEvent.GiveUp p) d
  outputs_said who d Event.Retry ok few u = gives_retry who d
  outputs_said who d Event.Purge ok few u = gives_purge d
  outputs_said who d Event.Crash ok few u = tt

-- ---- how much is carried, whether a Begin is taken or not

brings_so : (o : Option (Addr × PeerRecord)) → IsShortRecord o → Brings true true o
brings_so None h = tt
brings_so (Some (a, PeerRecord.OnAssoc x y q (DialogueRecord.UserData xs))) h = λ s. h
brings_so (Some (a, PeerRecord.OnAssoc x y q r)) h = tt
brings_so (Some (a, r)) h = tt

may_always : (e : Event) → MayHappen true true e
may_always (Event.Arrive from (PeerRecord.OnAssoc x y q (DialogueRecord.Begin t b h))) = refl
may_always (Event.Arrive from (PeerRecord.OnAssoc x y q r)) = tt
may_always (Event.Arrive from r) = tt
may_always e = tt

short_so : (o : Out) → IsSaid true true o → IsShort o
short_so (Tell (Indication.UserData p xs)) h = h refl
short_so (Tell i) h = tt
short_so (Send a (PeerRecord.OnAssoc x y q (DialogueRecord.UserData xs))) h = h refl
short_so (Send a (PeerRecord.OnAssoc x y q r)) h = tt
short_so (Send a r) h = tt

all_short : (outs : List Out) → AreSaid true true outs → AreShort outs
all_short [] h = tt
all_short (o ∷ outs) h = (short_so o h.0, all_short outs h.1)

pub outputs_short : (who : Who) (d : Digest) (e : Event) → refusal who d e ≡ None → BringsFew e → AreShort (action who d e).outs
outputs_short who d e ok few = all_short (action who d e).outs (outputs_said true true who d e ok (brings_so (brought e) few) (may_always e))

-- ---- whether a Begin is told, however much is carried

brings_any : (o : Option (Addr × PeerRecord)) → Brings false false o
brings_any None = tt
brings_any (Some (a, PeerRecord.OnAssoc x y q (DialogueRecord.UserData xs))) = λ s. absurd (cc (s))
brings_any (Some (a, PeerRecord.OnAssoc x y q r)) = tt
brings_any (Some (a, r)) = tt

may_not : (e : Event) → takes_begin e ≡ false → MayHappen false false e
may_not (Event.Arrive from (PeerRecord.OnAssoc x y q (DialogueRecord.Begin t b h))) i = absurd (cc (i))
may_not (Event.Arrive from (PeerRecord.OnAssoc x y q r)) i = tt
may_not (Event.Arrive from r) i = tt
may_not e i = tt

none_begun : (outs : List Out) → AreSaid false false outs → out_tells is_begin_told outs ≡ false
none_begun [] h = refl
none_begun (Tell (Indication.BeginTransaction p t) ∷ outs) h = absurd (let no = h.0 in cc (no))
none_begun (Tell i ∷ outs) h = none_begun outs h.1
none_begun (Send a r ∷ outs) h = none_begun outs h.1

pub begins_untold : (who : Who) (d : Digest) (e : Event) → refusal who d e ≡ None → takes_begin e ≡ false → out_tells is_begin_told (action who d e).outs ≡ false
begins_untold who d e ok off = none_begun (action who d e).outs (outputs_said false false who d e ok (brings_any (brought e)) (may_not e off))

pub chained_untold : (who : Who) (d : Digest) → out_tells is_begin_told (begin_chained who d).outs ≡ false
chained_untold who d = none_begun (begin_chained who d).outs (gives_chained false false who d)

pub begins_taken : (who : Who) (d : Digest) (e : Event) → refusal who d e ≡ None → out_tells is_begin_told (action who d e).outs ≡ true → takes_begin e ≡ true
begins_taken who d e ok told = go (takes_begin e) refl
  where
    go : (b : Bool) → takes_begin e ≡ b → takes_begin e ≡ true
    go true i = i
    go false i = absurd (let off = begins_untold who d e ok i in cc (off, told))
