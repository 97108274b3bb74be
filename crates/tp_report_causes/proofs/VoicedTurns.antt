-- What every event of a transaction logs as the damage of a commitment, and says to its superior beside their association, carries the
-- report that the user is told.
use Rattle.std.proofs.Common.{◌≡◌, inl, inr, ℕ, Bool, true, false, refl, ap, sym, ◌∙◌, arith, Some, None, List, [], ◌∷◌, ◌&&◌, ◌||◌, ◌++◌, if◌then◌else◌, Option, not}
use Rattle.tp_names.specs.declared.identifiers.Addr.{Addr}
use Rattle.tp_names.specs.declared.identifiers.Aaid.{Aaid}
use Rattle.tp_names.specs.declared.identifiers.BranchId.{BranchId}
use Rattle.tp_names.specs.declared.outcome.Outcome.{Outcome}
use Rattle.tp_names.specs.declared.outcome.Report.{Report}
use Rattle.tp_names.specs.Same.{is_aaid}
use Rattle.tp_names.specs.Reports.{join, is_report_none}
use Rattle.tp_names.specs.declared.identifiers.NodeKey.{NodeKey}
use Rattle.tp_records.specs.declared.indication.Indication.{Indication}
use Rattle.tp_records.specs.declared.dialogue.DialogueRecord.{DialogueRecord}
use Rattle.tp_records.specs.declared.peer.PeerRecord.{PeerRecord}
use Rattle.tp_records.specs.declared.peer.RecState.{RecState}
use Rattle.tp_logrec.specs.declared.record.LogRec.{LogRec}
use Rattle.tp_model.specs.Transactions.{aaid_of, Transaction, node_key, Turn, turn, all_done, all_rolled_back, reports_of, own_damage, carry_up, forgets, done_up, ends_down, end_up, is_own_commit, complete_commit, complete_rollback, begin_rolling, ask_commit, order, leave, count_branch, end_branch, branch_left, transacted, superior_of, owed_of, log_ready, log_end, log_damage, completion_of}
use Rattle.tp_model.specs.declared.arc.Phase.{Phase}
use Rattle.tp_model.specs.declared.transaction.TxEvent.{TxEvent}
use Rattle.tp_model.specs.Parts.{Under, Root, Key}
use Rattle.tp_model.specs.Dialogues.{is_ready}
use Rattle.tp_model.specs.declared.transaction.TxOut.{TxOut}
use Rattle.tp_model.specs.Recovery.{is_commit}
use Rattle.tp_steps.specs.Clearing.{is_complete}
use Rattle.tp_steps.specs.Turns.{Turns, vote}
use Rattle.tp_steps.specs.Moves.{IsPut, IsRecoveryIn}
use Rattle.tp_steps.specs.Passages.{asks_tell, IsPassed}
use Rattle.tp_steps.proofs.lemmas.Equality.{and_left, and_right, both_true}
use Rattle.tp_steps.proofs.log.Owned.{key_aaid}
use Rattle.tp_steps.proofs.every.EveryTurn.{every_turn}
use Rattle.tp_steps.proofs.lemmas.Joined.{joined_up, joined_prepare, joined_forgets, joined_done, joined_report, joined_retried, joined_ask, joined_commit, joined_rolls, joined_order, joined_leaves, IsJoined}
use Rattle.tp_steps.proofs.log.Passed.{passed_turns}
use Rattle.tp_steps.proofs.lemmas.Phases.{tell_append}
use Rattle.tp_steps.proofs.upward.Rising.{told_in, report_self}

-- for which reports a Done of the tree may be said, and to whom
pub record Voices : Type 0 where
  pub vouched : Report → Bool
  pub above : Addr → Bool

abbrev pub fits_reply : Voices → Aaid → Addr → Aaid → Report → Bool
fits_reply v t a u r = is_report_none r || not (is_aaid t u) || (v.vouched r && v.above a)

abbrev pub fits_out : Voices → Aaid → TxOut → Bool
fits_out v t (TxOut.Recovery a (PeerRecord.RecReply u b (RecState.Done r))) = fits_reply v t a u r
fits_out v t o = true

abbrev pub are_fit : Voices → Aaid → List TxOut → Bool
are_fit v t [] = true
are_fit v t (o ∷ outs) = fits_out v t o && are_fit v t outs

-- a damage is kept below the superior
abbrev pub fits_superior : Voices → NodeKey → Option Addr → Bool
fits_superior v k s = elim s [ None ↦ elim k.branch [ None ↦ true | Some b ↦ false ] | Some a ↦ v.above a ]

abbrev pub fits_kept : Voices → Aaid → NodeKey → Option Addr → Outcome → Report → Bool
fits_kept v t k s o r = fits_superior v k s && (not (is_commit o) || not (is_aaid t k.aaid) || is_report_none r || v.vouched r)

abbrev pub fits_rec : Voices → Aaid → Option LogRec → Bool
fits_rec v t (Some (LogRec.Damage n k s o r cs)) = fits_kept v t k s o r
fits_rec v t _ = true

abbrev pub is_key_fit : Voices → Key → Bool
is_key_fit v (Root a) = true
is_key_fit v (Under a b s) = v.above s

-- what is told of the tree is vouched for
abbrev pub IsVouched : Voices → Aaid → Transaction → List TxOut → Type 0
IsVouched v t q outs = (r : Report) → is_aaid t (aaid_of q.key) ≡ true → asks_tell (is_complete Outcome.Commit r) outs ≡ true → v.vouched r ≡ true

pub record Voiced (v : Voices) (t : Aaid) (a : Turn) : Type 0 where
  pub rec : fits_rec v t a.rec ≡ true
  pub outs : are_fit v t a.outs ≡ true

pub record IsVoicedTurn (v : Voices) (t : Aaid) (e : TxEvent) (s q : Transaction) (a : Turn) : Type 0 where
  pub passed : IsPassed e s q a
  pub voiced : is_key_fit v q.key ≡ true → IsVouched v t q a.outs → Voiced v t a

-- ---- lists of outputs

fit_append : (v : Voices) (t : Aaid) (xs ys : List TxOut) → are_fit v t xs ≡ true → are_fit v t ys ≡ true → are_fit v t (xs ++ ys) ≡ true
fit_append v t [] ys h i = i
fit_append v t (x ∷ xs) ys h i = both_true (fits_out v t x) (are_fit v t (xs ++ ys)) (and_left (fits_out v t x) (are_fit v t xs) h) (fit_append v t xs ys (and_right (fits_out v t x) (are_fit v t xs) h) i)

fits : (v : Voices) (t : Aaid) → IsJoined (λ outs. are_fit v t outs ≡ true)
fits v t = record { none = refl; more = λ xs ys h i. fit_append v t xs ys h i }

pub fit_in : (v : Voices) (t : Aaid) (outs : List TxOut) (z : Addr) (u : Aaid) (b : BranchId) (r : Report) → are_fit v t outs ≡ true → IsRecoveryIn outs z (PeerRecord.RecReply u b (RecState.Done r)) → fits_reply v t z u r ≡ true
fit_in v t [] z u b r h i = absurd i
fit_in v t (TxOut.Tell x ∷ outs) z u b r h i = fit_in v t outs z u b r h i
fit_in v t (TxOut.Carry p w ∷ outs) z u b r h i = fit_in v t outs z u b r h i
fit_in v t (TxOut.Shut p ∷ outs) z u b r h i = fit_in v t outs z u b r h i
fit_in v t (TxOut.Close p ∷ outs) z u b r h i = fit_in v t outs z u b r h i
fit_in v t (TxOut.Recovery a q ∷ outs) z u b r h (inr i) = fit_in v t outs z u b r (and_right (fits_out v t (TxOut.Recovery a q)) (are_fit v t outs) h) i
fit_in v t (TxOut.Recovery a q ∷ outs) z u b r h (inl i) =
    ap (fits_out v t) (sym (ap (λ (x : Addr). TxOut.Recovery x q) i.0 ∙ ap (λ (x : PeerRecord). TxOut.Recovery z x) i.1)) ∙ and_left (fits_out v t (TxOut.Recovery a q)) (are_fit v t outs) h

-- ---- a rule that logs no damage, and says no Done beside the association

plain : (v : Voices) (t : Aaid) (e : TxEvent) (s q : Transaction) (a : Turn) → IsPassed e s q a → fits_rec v t a.rec ≡ true → are_fit v t a.outs ≡ true → IsVoicedTurn v t e s q a
plain v t e s q a passed rec outs = record { passed = passed; voiced = λ key told. record { rec = rec; outs = outs } }

-- ---- completion of a commitment

key_fits : (v : Voices) (k : Key) → is_key_fit v k ≡ true → fits_superior v (node_key k) (superior_of k) ≡ true
key_fits v (Root a) h = refl
key_fits v (Under a b s) h = h

any_of : (x y : Bool) → (x ≡ true → y ≡ true) → (not x || y) ≡ true
any_of true y f = f refl
any_of false y f = refl

reply_fits : (n x w u : Bool) → (x ≡ true → w ≡ true) → u ≡ true → (n || not x || (w && u)) ≡ true
reply_fits n true w u f h = let k = f refl in rw (k, h) (grind arith)
reply_fits n false w u f h = grind arith

damage_fits : (m x n w : Bool) → m ≡ true → (x ≡ true → w ≡ true) → (m && (not true || not x || n || w)) ≡ true
damage_fits m true n w h f = let k = f refl in rw (h, k) (grind arith)
damage_fits m false n w h f = rw h (grind arith)

voiced_commit : (v : Voices) (t : Aaid) (q : Transaction) → is_key_fit v q.key ≡ true → IsVouched v t q (complete_commit q).outs → Voiced v t (complete_commit q)
unfolding complete_commit
voiced_commit v t q key told = go (not q.owes && all_done q.rows) told
  where
    r : Report
    r = join (own_damage q.decision) (reports_of q.rows)

    over : Turn
    over = record {
      rec = Some (if is_report_none r then log_end q Outcome.Commit else log_damage q Outcome.Commit r (owed_of q.rows));
      outs = forgets (aaid_of q.key) q.rows ++ done_up q r ++ (TxOut.Tell (Indication.CommitComplete r) ∷ []) ++ ends_down q.rows ++ end_up q;
      completion = completion_of q r;
      next = record q { phase = Phase.Nil };
    }

    shown : asks_tell (is_complete Outcome.Commit r) over.outs ≡ true
    shown = told_in (is_complete Outcome.Commit r) (Indication.CommitComplete r) (forgets (aaid_of q.key) q.rows) (done_up q r) (ends_down q.rows) (end_up q) (report_self r)

    logged : IsVouched v t q over.outs → (b : Bool) → is_report_none r ≡ b → fits_rec v t (Some (if b then log_end q Outcome.Commit else log_damage q Outcome.Commit r (owed_of q.rows))) ≡ true
    logged vouch true i = refl
    logged vouch false i =
        damage_fits (fits_superior v (node_key q.key) (superior_of q.key)) (is_aaid t (node_key q.key).aaid) (is_report_none r) (v.vouched r) (key_fits v q.key key)
        (λ own. vouch r (ap (is_aaid t) (sym (key_aaid q.key)) ∙ own) shown)

    reply : IsVouched v t q over.outs → (a : Aaid) (b : BranchId) (s : Addr) → q.key ≡ Under a b s → are_fit v t (TxOut.Recovery s (PeerRecord.RecReply a b (RecState.Done r)) ∷ []) ≡ true
    reply vouch a b s is =
        both_true (fits_reply v t s a r) true
        (reply_fits (is_report_none r) (is_aaid t a) (v.vouched r) (v.above s) (λ own. vouch r (ap (λ (k : Key). is_aaid t (aaid_of k)) is ∙ own) shown) (sym (ap (is_key_fit v) is) ∙ key))
        refl

    go : (b : Bool) → IsVouched v t q (if b then over else turn [] q).outs → Voiced v t (if b then over else turn [] q)
    go false vouch = record { rec = refl; outs = refl }
    go true vouch = record {
      rec = logged vouch (is_report_none r) refl;
      outs = joined_commit (λ outs. are_fit v t outs ≡ true) (fits v t) q r (joined_forgets (λ outs. are_fit v t outs ≡ true) (fits v t) (aaid_of q.key) q.rows (λ z b. refl))
          (joined_done (λ outs. are_fit v t outs ≡ true) (fits v t) q r (λ p. refl) (reply vouch)) refl (λ p. refl);
    }

-- ---- rolling begins

voiced_rolls : (v : Voices) (t : Aaid) (asked : Bool) (q : Transaction) → is_key_fit v q.key ≡ true → Voiced v t (begin_rolling asked q)
unfolding begin_rolling
voiced_rolls v t asked q key = record { rec = go (is_ready q.phase) (is_own_commit q); outs = outs }
  where
    go : (b c : Bool) → fits_rec v t (if not b then None else if c then Some (log_damage q Outcome.Rollback Report.Mix []) else Some (log_end q Outcome.Rollback)) ≡ true
    go false c = refl
    go true false = refl
    go true true = both_true (fits_superior v (node_key q.key) (superior_of q.key)) true (key_fits v q.key key) refl

    outs : are_fit v t (begin_rolling asked q).outs ≡ true
    outs = joined_rolls (λ l. are_fit v t l ≡ true) (fits v t) asked q refl (λ p. refl)

-- ---- the other rules

order_fits : (v : Voices) (t : Aaid) (q : Transaction) → (fits_rec v t (order q).rec ≡ true) × (are_fit v t (order q).outs ≡ true)
unfolding order
order_fits v t q = (refl, joined_order (λ outs. are_fit v t outs ≡ true) (fits v t) q refl (λ p. refl))

back_fits : (v : Voices) (t : Aaid) (q : Transaction) → (fits_rec v t (complete_rollback q).rec ≡ true) × (are_fit v t (complete_rollback q).outs ≡ true)
unfolding complete_rollback
back_fits v t q = go (not q.owes && all_rolled_back q.rows && (q.superior_rolled || not q.up)) refl
  where
    P : List TxOut → Type 0
    P = λ outs. are_fit v t outs ≡ true

    go : (b : Bool) → (not q.owes && all_rolled_back q.rows && (q.superior_rolled || not q.up)) ≡ b → (fits_rec v t (complete_rollback q).rec ≡ true) × (are_fit v t (complete_rollback q).outs ≡ true)
    go false i = rw (i, complete_rollback) (refl, refl)
    go true i = rw (i, complete_rollback) (refl, (fits v t).more (carry_up q (DialogueRecord.RolledBack (join q.own (reports_of q.rows)))) (TxOut.Tell (Indication.RollbackComplete (join q.own (reports_of q.rows))) ∷ []) (joined_up P (fits v t) q (DialogueRecord.RolledBack (join q.own (reports_of q.rows))) (λ p. refl)) refl)

leave_fits : (v : Voices) (t : Aaid) (q : Transaction) → (fits_rec v t (leave q).rec ≡ true) × (are_fit v t (leave q).outs ≡ true)
unfolding leave
leave_fits v t q = (refl, joined_leaves (λ outs. are_fit v t outs ≡ true) (fits v t) q (λ p. refl) (λ p. refl) (λ p. refl))

ask_fits : (v : Voices) (t : Aaid) (q : Transaction) → (fits_rec v t (ask_commit q).rec ≡ true) × (are_fit v t (ask_commit q).outs ≡ true)
unfolding ask_commit
ask_fits v t q = (refl, joined_prepare (λ outs. are_fit v t outs ≡ true) (fits v t) q.rows (λ p. refl))

count_fits : (v : Voices) (t : Aaid) (p : ℕ) (q : Transaction) → (fits_rec v t (count_branch p q).rec ≡ true) × (are_fit v t (count_branch p q).outs ≡ true)
unfolding count_branch
count_fits v t p q = (refl, refl)

end_fits : (v : Voices) (t : Aaid) (p : ℕ) (r : Report) (q : Transaction) → (fits_rec v t (end_branch p r q).rec ≡ true) × (are_fit v t (end_branch p r q).outs ≡ true)
unfolding end_branch
end_fits v t p r q = (refl, joined_report (λ outs. are_fit v t outs ≡ true) (fits v t) p r refl)

left_fits : (v : Voices) (t : Aaid) (p : ℕ) (q : Transaction) → (fits_rec v t (branch_left p q).rec ≡ true) × (are_fit v t (branch_left p q).outs ≡ true)
unfolding branch_left
left_fits v t p q = (refl, refl)

vote_fits : (v : Voices) (t : Aaid) (q : Transaction) → (k : Key) → fits_rec v t (log_ready (record q { key = k })) ≡ true
vote_fits v t q (Root a) = refl
vote_fits v t q (Under a b s) = refl

shut_fits : (v : Voices) (t : Aaid) (b : Bool) (p : ℕ) → are_fit v t (if b then TxOut.Shut p ∷ [] else []) ≡ true
shut_fits v t true p = refl
shut_fits v t false p = refl

-- ---- chains

either_rec : (v : Voices) (t : Aaid) (a b : Option LogRec) → fits_rec v t a ≡ true → fits_rec v t b ≡ true → fits_rec v t (elim b as (λ _. Option LogRec) [ None ↦ a | Some r ↦ Some r ]) ≡ true
either_rec v t a None h i = h
either_rec v t a (Some r) h i = i

voiced_then : (v : Voices) (t : Aaid) (e : TxEvent) (s q : Transaction) (a b : Turn) → IsVoicedTurn v t e s q a → IsVoicedTurn v t e s a.next b → is_key_fit v q.key ≡ true → IsVouched v t q (a.outs ++ b.outs) → Voiced v t a × Voiced v t b
voiced_then v t e s q a b one two key told = (
  one.voiced key (λ r own h. told r own (tell_append (is_complete Outcome.Commit r) a.outs b.outs ∙ rw h refl)),
  two.voiced (ap (is_key_fit v) one.passed.key ∙ key) (λ r own h. told r (ap (λ (k : Key). is_aaid t (aaid_of k)) (sym one.passed.key) ∙ own) (tell_append (is_complete Outcome.Commit r) a.outs b.outs ∙ rw h (grind arith))),
)

voiced_turns : (v : Voices) (t : Aaid) (e : TxEvent) (s : Transaction) → Turns e s (IsPassed e s) → Turns e s (IsVoicedTurn v t e s)
voiced_turns v t e s p = record {
  still = λ q. plain v t e s q (turn [] q) (p.still q) refl refl;
  first = λ q u outs a one two. record {
    passed = p.first q u outs a one.passed two.passed;
    voiced = λ key told. let k = voiced_then v t e s q (turn outs u) a one two key told in record { rec = k.1.rec; outs = fit_append v t outs a.outs k.0.outs k.1.outs };
  };
  chain = λ q a f one two none. record {
    passed = p.chain q a f one.passed two.passed none;
    voiced = λ key told. let k = voiced_then v t e s q a (f a.next) one two key told in record { rec = either_rec v t a.rec (f a.next).rec k.0.rec k.1.rec; outs = fit_append v t a.outs (f a.next).outs k.0.outs k.1.outs };
  };
  tells = λ q i n. plain v t e s q _ (p.tells q i n) refl refl;
  notes_prepare = λ pr cl. plain v t e s s _ (p.notes_prepare pr cl) refl refl;
  notes_done = λ is. plain v t e s s _ (p.notes_done is) refl refl;
  notes_end = λ k is. plain v t e s s _ (p.notes_end k is) refl refl;
  notes_rollback = λ ro cl. plain v t e s s _ (p.notes_rollback ro cl) refl refl;
  defers_end = λ k is. plain v t e s s _ (p.defers_end k is) refl refl;
  defers_grant = λ k is. plain v t e s s _ (p.defers_grant k is) refl refl;
  prepares = λ k. plain v t e s s _ (p.prepares k) refl refl;
  asks = λ is act asked told. plain v t e s s (ask_commit s) (p.asks is act asked told) (ask_fits v t s).0 (ask_fits v t s).1;
  asks_again = plain v t e s s _ p.asks_again refl (joined_retried (λ outs. are_fit v t outs ≡ true) (fits v t) s refl (λ a b z i. refl) (λ i. joined_ask (λ outs. are_fit v t outs ≡ true) (fits v t) (aaid_of s.key) s.rows (λ z b. refl)));
  decides = λ o is ready. plain v t e s s _ (p.decides o is ready) refl refl;
  aborts = λ k is. plain v t e s s _ (p.aborts k is) refl refl;
  loses_arc = λ k gone. plain v t e s s _ (p.loses_arc k gone) refl refl;
  closes_left = λ k is. plain v t e s s _ (p.closes_left k is) refl refl;
  gives_up = λ k r is c found. plain v t e s s _ (p.gives_up k r is c found) refl (shut_fits v t r.live k);
  counts = λ k is act row. plain v t e s s (count_branch k s) (p.counts k is act row) (count_fits v t k s).0 (count_fits v t k s).1;
  ends_done = λ k r is c row. plain v t e s s (end_branch k r s) (p.ends_done k r is c row) (end_fits v t k r s).0 (end_fits v t k r s).1;
  ends_replied = λ b w r is found o. plain v t e s s (end_branch w.branch.peer.node r s) (p.ends_replied b w r is found o) (end_fits v t w.branch.peer.node r s).0 (end_fits v t w.branch.peer.node r s).1;
  ends_rolled = λ k r is c row. plain v t e s s (end_branch k r s) (p.ends_rolled k r is c row) (end_fits v t k r s).0 (end_fits v t k r s).1;
  leaves_below = λ k w q is left at act. plain v t e s q (branch_left k q) (p.leaves_below k w q is left at act) (left_fits v t k q).0 (left_fits v t k q).1;
  leaves_rolling = λ k w q is left at c. plain v t e s q (end_branch k Report.None q) (p.leaves_rolling k w q is left at c) (end_fits v t k Report.None q).0 (end_fits v t k Report.None q).1;
  votes = λ q act asked all under. plain v t e s q (vote q) (p.votes q act asked all under) (vote_fits v t q q.key) (joined_up (λ outs. are_fit v t outs ≡ true) (fits v t) q DialogueRecord.Ready (λ k. refl));
  orders_root = λ q act asked all root. plain v t e s q (order q) (p.orders_root q act asked all root) (order_fits v t q).0 (order_fits v t q).1;
  orders_ready = λ ready is. plain v t e s s (order s) (p.orders_ready ready is) (order_fits v t s).0 (order_fits v t s).1;
  rolls = λ q asked f ok. record { passed = p.rolls q asked f ok; voiced = λ key told. voiced_rolls v t asked q key };
  completes_commit = λ q c. record { passed = p.completes_commit q c; voiced = voiced_commit v t q };
  completes_rollback = λ q c. plain v t e s q (complete_rollback q) (p.completes_rollback q c) (back_fits v t q).0 (back_fits v t q).1;
  leaves = λ is act under asked all. plain v t e s s (leave s) (p.leaves is act under asked all) (leave_fits v t s).0 (leave_fits v t s).1;
}

pub voiced_turn : (v : Voices) (t : Aaid) (e : TxEvent) (s : Transaction) → IsPut e s → IsVoicedTurn v t e s s (transacted e s)
voiced_turn v t e s put = every_turn e s (IsVoicedTurn v t e s) (voiced_turns v t e s (passed_turns e s)) put
