-- What a node owes its branches, and what it says beside its associations: an instance of the steps of a node.
use Rattle.std.proofs.Common.{if◌then◌else◌, ◌≡◌, ◌⊎◌, inl, inr, ℕ, suc, Bool, true, false, refl, ap, sym, subst, ◌∙◌, arith, Option, Some, None, List, [], ◌∷◌, ◌++◌, ◌&&◌, ◌||◌, ◌==◌, not}
use Rattle.std.proofs.lemmas.Bool.Decides.{nat_tests}
use Rattle.tp_names.specs.declared.identifiers.Aaid.{Aaid}
use Rattle.tp_names.specs.declared.identifiers.Mark.{Mark}
use Rattle.tp_names.specs.declared.identifiers.BranchId.{BranchId}
use Rattle.tp_names.specs.declared.identifiers.NodeKey.{NodeKey}
use Rattle.tp_names.specs.declared.identifiers.Addr.{Addr}
use Rattle.tp_names.specs.declared.children.Child.{Child}
use Rattle.tp_names.specs.declared.outcome.Outcome.{Outcome}
use Rattle.tp_names.specs.declared.outcome.Report.{Report}
use Rattle.tp_names.specs.Same.{is_aaid, is_branch, is_key}
use Rattle.tp_names.specs.Reports.{join}
use Rattle.tp_records.specs.declared.dialogue.DialogueRecord.{DialogueRecord}
use Rattle.tp_records.specs.declared.dialogue.Holder.{Holder}
use Rattle.tp_records.specs.declared.peer.PeerRecord.{PeerRecord}
use Rattle.tp_records.specs.declared.peer.RecState.{RecState}
use Rattle.tp_logrec.specs.declared.record.LogRec.{LogRec}
use Rattle.tp_model.specs.declared.arc.Phase.{Phase}
use Rattle.tp_model.specs.declared.transaction.TxEvent.{TxEvent}
use Rattle.tp_model.specs.declared.transaction.TxOut.{TxOut}
use Rattle.tp_model.specs.declared.recovery.Kept.{Kept}
use Rattle.tp_model.specs.declared.recovery.KeptEvent.{KeptEvent}
use Rattle.tp_model.specs.Parts.{Who, Event, Out, Arc, Link, Idle, Opening, Offered, Live, Key, Root, Branch, Current, Digest}
use Rattle.tp_model.specs.Dialogues.{is_nil, is_active, is_committing, is_rolling, named_holder}
use Rattle.tp_model.specs.Arcs.{find_arc, link_with, carried_on, carried, shut_says, shut_with, performed_one, performed}
use Rattle.tp_model.specs.Transactions.{Row, Transaction, Turn, aaid_of, node_key, find_row, row_holds, is_under_at, fresh_branch, situation_of, transacted}
use Rattle.tp_model.specs.Recovery.{is_commit, find_owed, without_owed, is_nothing_owed, rec_of_done, settled, find_kept, put_kept, without_kept, kept_by, kept_after, not_forgotten}
use Rattle.tp_model.specs.Node.{Move, move, followed, perform, next_mark, with_mark_drawn, phase_of, seen, seen_row, seen_rows, situation_at, fresh_current, remaining, branches_of, Passage, Commits, passage, is_leaving, entered, played, perform_commit, committed_arcs, grants, may_begin_on, begin_on, keep, turned, around_grants}
use Rattle.tp_model.specs.Events.{refusal, action}
use Rattle.tp_model.specs.Links.{is_live}
use Rattle.tp_model.specs.Outcomes.{is_now, is_unchanged, rolls}
use Rattle.tp_histories.specs.Histories.{IsSentIn}
use Rattle.tp_steps.specs.Turns.{falls}
use Rattle.tp_steps.specs.Moves.{is_committed_in, keeps_commit, IsRecoveryIn, IsSaid, AreSaid, IsFound, IsUnderWay, IsSettling, IsAsked, IsPut, IsLate, are_spoken, prelude, Moves}
use Rattle.tp_steps.specs.Passages.{is_commit_rec, IsLogged}
use Rattle.tp_steps.specs.Trees.{begins_of, commits_tree}
use Rattle.tp_steps.specs.Facts.{BranchKey, find_branch, words_to}
use Rattle.tp_steps.specs.Branches.{may_leave, may_end}
use Rattle.tp_steps.specs.Orders.{IsOwnMove}
use Rattle.tp_steps.specs.Standing.{AreApart}
use Rattle.tp_agreement.specs.Owing.{is_standing, IsOwedIn, rolls_back, backs_tree, KeepsOwed, Quits, Is_done, Has_left, Rolls, Departs, IsOwnWord, IsOwingTurn, RowOwes, KeptOwes, Owes, keeps_rollback, BeginsTo, IsNodeWord, UnmarkedAt, UnmarkedRow, KeptWith, OwesIn, is_done_branch}
use Rattle.tp_steps.proofs.lemmas.Equality.{aaids_equal, branches_equal, addrs_equal, or_case, and_left, and_right}
use Rattle.tp_steps.proofs.log.ApartLog.{keys_equal}
use Rattle.tp_steps.proofs.log.TurnLog.{key_self}
use Rattle.tp_steps.proofs.words.Leaves.{aaid_same}
use Rattle.tp_steps.proofs.log.Owned.{key_aaid}
use Rattle.tp_steps.proofs.every.EveryEvent.{every_move}
use Rattle.tp_steps.proofs.every.EveryRecord.{find_arc_is}
use Rattle.tp_steps.proofs.links.Apart.{apart_spoken}
use Rattle.tp_steps.proofs.words.Hushed.{spoken_none, settled_spoken}
use Rattle.tp_steps.proofs.branches.Rolls.{rolls_so}
use Rattle.tp_steps.proofs.links.Wrapped.{agrees_performed}
use Rattle.tp_agreement.proofs.Closing.{turned_none}
use Rattle.tp_histories.proofs.worlds.TreeMembers.{sent_counts}
use Rattle.tp_agreement.proofs.Marked.{MayMark}
use Rattle.tp_steps.proofs.words.Heard.{find_last}
use Rattle.tp_steps.proofs.words.HeardTurned.{seen_find, left_find}
use Rattle.tp_steps.proofs.log.Sound.{left_is, left_branches}
use Rattle.tp_steps.proofs.log.SoundMoves.{IsSound, IsSoundMove, sound_root, sound_noted, sound_moves}
use Rattle.tp_steps.proofs.log.Orders.{own_moves}
use Rattle.tp_histories.proofs.upward.Risen.{unchanged_asked}
use Rattle.tp_agreement.proofs.LeftDown.{no_begins}
use Rattle.tp_agreement.proofs.OwingTurns.{owing_turn}
use Rattle.tp_steps.proofs.every.BeginCases.{begun_over, begin_cases, next_child, begin_word, begin_arcs}
use Rattle.tp_steps.proofs.lemmas.EachKept.{IsOne, HoldsBy, one_after, one_noted}
use Rattle.tp_steps.proofs.lemmas.Options.{some_same}
use Rattle.std.proofs.lemmas.Bool.{not-true}
use Rattle.tp_steps.proofs.log.StandLog.{key_other}
use Rattle.tp_steps.proofs.branches.Outspoken.{recovery_first, recovery_later}
use Rattle.tp_steps.proofs.links.Whole.{IsWhole, whole_turn}

-- ---- what goes out at the arcs

abbrev is_recovery : PeerRecord → Bool
is_recovery (PeerRecord.OpenAssoc x u) = false
is_recovery (PeerRecord.AcceptAssoc x y u) = false
is_recovery (PeerRecord.ShutAssoc x y) = false
is_recovery (PeerRecord.OnAssoc x y q r) = false
is_recovery (PeerRecord.RecReady t b) = true
is_recovery (PeerRecord.RecCommit t b) = true
is_recovery (PeerRecord.RecReply t b s) = true
is_recovery (PeerRecord.Forget t b) = true

pub sent_split : (xs ys : List Out) (a : Addr) (r : PeerRecord) → IsSentIn (xs ++ ys) a r → IsSentIn xs a r ⊎ IsSentIn ys a r
sent_split [] ys a r h = inr h
sent_split (Out.Tell i ∷ xs) ys a r h = sent_split xs ys a r h
sent_split (Out.Send b q ∷ xs) ys a r (inl h) = inl (inl h)
sent_split (Out.Send b q ∷ xs) ys a r (inr h) = elim (sent_split xs ys a r h) [ inl i ↦ inl (inr i) | inr i ↦ inr i ]

sent_on_arc : (a : Arc) (w : DialogueRecord) (z : Addr) (r : PeerRecord) → is_recovery r ≡ true → IsSentIn (carried_on a w).1 z r → ⊥
sent_on_arc a w z r k h = on a.link h
  where
    on : (l : Link) → IsSentIn (elim l as (λ _. Arc × List Out) [
      | Idle ↦ (a, [])
      | Opening x ↦ (a, [])
      | Offered x ↦ (a, [])
      | Live x y sent taken ↦ (record a { link = Live x y (suc sent) taken }, Out.Send a.peer (PeerRecord.OnAssoc x y sent w) ∷ [])
    ]).1 z r → ⊥
    on Idle i = i
    on (Opening x) i = i
    on (Offered x) i = i
    on (Live x y v u) (inl i) = cc (ap is_recovery i.1, k)
    on (Live x y v u) (inr i) = i

sent_carried : (arcs : List Arc) (q : ℕ) (w : DialogueRecord) (z : Addr) (r : PeerRecord) → is_recovery r ≡ true → IsSentIn (carried arcs q w).1 z r → ⊥
sent_carried [] q w z r k h = h
sent_carried (a ∷ arcs) q w z r k h = go (a.peer.node == q) h (sent_carried arcs q w z r k)
  where
    both : Bool → List Arc × List Out
    both v = if v then (let s = carried_on a w in (s.0 ∷ arcs, s.1)) else (let s = carried arcs q w in (a ∷ s.0, s.1))

    go : (v : Bool) → IsSentIn (both v).1 z r → (IsSentIn (carried arcs q w).1 z r → ⊥) → ⊥
    go true i rest = sent_on_arc a w z r k i
    go false i rest = rest i

-- a record that is carried goes to that peer, with the link's pair
pub carried_is : (arcs : List Arc) (q : ℕ) (w : DialogueRecord) (z : Addr) (r : PeerRecord) → IsSentIn (carried arcs q w).1 z r → (z.node ≡ q) × (f : Mark) × (g : Mark) × (n : ℕ) × (r ≡ PeerRecord.OnAssoc f g n w)
carried_is [] q w z r h = absurd h
carried_is (a ∷ arcs) q w z r h = go (a.peer.node == q) refl h (carried_is arcs q w z r)
  where
    Is : Type 0
    Is = (z.node ≡ q) × (f : Mark) × (g : Mark) × (n : ℕ) × (r ≡ PeerRecord.OnAssoc f g n w)

    both : Bool → List Arc × List Out
    both v = if v then (let s = carried_on a w in (s.0 ∷ arcs, s.1)) else (let s = carried arcs q w in (a ∷ s.0, s.1))

    on : a.peer.node ≡ q → (l : Link) → IsSentIn (elim l as (λ _. Arc × List Out) [
      | Idle ↦ (a, [])
      | Opening x ↦ (a, [])
      | Offered x ↦ (a, [])
      | Live x y sent taken ↦ (record a { link = Live x y (suc sent) taken }, Out.Send a.peer (PeerRecord.OnAssoc x y sent w) ∷ [])
    ]).1 z r → (z.node ≡ q) × (f : Mark) × (g : Mark) × (n : ℕ) × (r ≡ PeerRecord.OnAssoc f g n w)
    on at Idle i = absurd i
    on at (Opening x) i = absurd i
    on at (Offered x) i = absurd i
    on at (Live x y v u) (inl i) = (ap (λ (c : Addr). c.node) (sym i.0) ∙ at, x, y, v, sym i.1)
    on at (Live x y v u) (inr i) = absurd i

    go : (v : Bool) → (a.peer.node == q) ≡ v → IsSentIn (both v).1 z r → (IsSentIn (carried arcs q w).1 z r → (z.node ≡ q) × (f : Mark) × (g : Mark) × (n : ℕ) × (r ≡ PeerRecord.OnAssoc f g n w)) → (z.node ≡ q) × (f : Mark) × (g : Mark) × (n : ℕ) × (r ≡ PeerRecord.OnAssoc f g n w)
    go true m i rest = on (grind (arith, nat_tests, m)) a.link i
    go false m i rest = rest i

pub one_sent : (arcs : List Arc) (q : ℕ) (w : DialogueRecord) (z : Addr) (r : PeerRecord) → IsSentIn (performed arcs (TxOut.Carry q w ∷ [])).1 z r → IsSentIn (carried arcs q w).1 z r
one_sent arcs q w z r h = elim (sent_split (carried arcs q w).1 [] z r h) [ inl i ↦ i | inr i ↦ absurd i ]

pub begin_tree : (x f y g : Mark) (q n : ℕ) (t u : Aaid) (b c : BranchId) (i j : Holder) → PeerRecord.OnAssoc x y q (DialogueRecord.Begin t b i) ≡ PeerRecord.OnAssoc f g n (DialogueRecord.Begin u c j) → t ≡ u
begin_tree x f y g q n t u b c i j h = cc (h)

pub begin_id : (x f y g : Mark) (q n : ℕ) (t u : Aaid) (b c : BranchId) (i j : Holder) → PeerRecord.OnAssoc x y q (DialogueRecord.Begin t b i) ≡ PeerRecord.OnAssoc f g n (DialogueRecord.Begin u c j) → c ≡ b
begin_id x f y g q n t u b c i j h = cc (h)

-- of two that log at most one, what either commits the whole does
first_commits : (p q : Option LogRec) (g : Aaid → Bool) → ((v : Aaid) → commits_tree v (elim q as (λ _. Option LogRec) [ None ↦ p | Some r ↦ Some r ]) ≡ true → g v ≡ true) → (p ≡ None) ⊎ (q ≡ None) → (v : Aaid) → commits_tree v p ≡ true → g v ≡ true
first_commits p q g new (inl n) v h = absurd (cc (ap (commits_tree v) n, h))
first_commits p q g new (inr n) v h = new v (ap (λ (z : Option LogRec). commits_tree v (elim z as (λ _. Option LogRec) [ None ↦ p | Some r ↦ Some r ])) n ∙ h)

second_commits : (p q : Option LogRec) (g : Aaid → Bool) → ((v : Aaid) → commits_tree v (elim q as (λ _. Option LogRec) [ None ↦ p | Some r ↦ Some r ]) ≡ true → g v ≡ true) → (v : Aaid) → commits_tree v q ≡ true → g v ≡ true
second_commits p None g new v h = absurd (cc (h))
second_commits p (Some r) g new v h = new v h

sent_one : (arcs : List Arc) (o : TxOut) (outs : List TxOut) (z : Addr) (r : PeerRecord) → is_recovery r ≡ true → IsSentIn (performed_one arcs o).1 z r → IsRecoveryIn (o ∷ outs) z r
sent_one arcs (TxOut.Tell i) outs z r k h = absurd h
sent_one arcs (TxOut.Carry q w) outs z r k h = absurd (sent_carried arcs q w z r k h)
sent_one arcs (TxOut.Shut q) outs z r k h = absurd (go (find_arc arcs q) refl h)
  where
    says : (a : Arc) (l : Link) → IsSentIn (shut_says a.peer l) z r → ⊥
    says a Idle i = i
    says a (Opening x) i = i
    says a (Offered x) i = i
    says a (Live x y v u) (inl i) = cc (ap is_recovery i.1, k)
    says a (Live x y v u) (inr i) = i

    go : (o : Option Arc) → find_arc arcs q ≡ o → IsSentIn (shut_with arcs q).1 z r → ⊥
    go None i h = let is : (shut_with arcs q).1 ≡ [] = rw (i, shut_with) refl in subst (λ (s : List Out). IsSentIn s z r) is h
    go (Some a) i h =
        let is : (shut_with arcs q).1 ≡ shut_says a.peer a.link = rw (i, shut_with) refl in
        says a a.link (subst (λ (s : List Out). IsSentIn s z r) is h)
sent_one arcs (TxOut.Recovery a w) outs z r k (inl h) = inl h
sent_one arcs (TxOut.Recovery a w) outs z r k (inr h) = absurd h
sent_one arcs (TxOut.Close q) outs z r k h = absurd h

rest_in : (o : TxOut) (outs : List TxOut) (z : Addr) (r : PeerRecord) → IsRecoveryIn outs z r → IsRecoveryIn (o ∷ outs) z r
rest_in (TxOut.Recovery a w) outs z r h = inr h
rest_in _ outs z r h = h

pub sent_performed : (arcs : List Arc) (outs : List TxOut) (z : Addr) (r : PeerRecord) → is_recovery r ≡ true → IsSentIn (performed arcs outs).1 z r → IsRecoveryIn outs z r
sent_performed arcs [] z r k h = absurd h
sent_performed arcs (o ∷ outs) z r k h =
    let next : List Arc = (performed_one arcs o).0 in
    elim (sent_split (performed_one arcs o).1 (performed next outs).1 z r h) [ inl i ↦ sent_one arcs o outs z r k i | inr i ↦ rest_in o outs z r (sent_performed next outs z r k i) ]

none_granted : (t : Transaction) (arcs : List Arc) (z : Addr) (r : PeerRecord) → IsRecoveryIn (grants t arcs) z r → ⊥
none_granted t [] z r h = h
none_granted t (a ∷ arcs) z r h = go _ h (none_granted t arcs z r)
  where
    go : (v : Bool) → IsRecoveryIn (if v then TxOut.Carry a.peer.node DialogueRecord.Grant ∷ grants t arcs else grants t arcs) z r → (IsRecoveryIn (grants t arcs) z r → ⊥) → ⊥
    go true i rest = rest i
    go false i rest = rest i

sent_commit : (d : Digest) (t : Transaction) (s : List TxOut × List TxOut) (arcs : List Arc) (z : Addr) (r : PeerRecord) → is_recovery r ≡ true → IsSentIn (perform_commit d t s arcs).1 z r → IsRecoveryIn (s.0 ++ s.1) z r
sent_commit d t s arcs z r k h =
    let one = performed arcs s.0 in
    let two = performed (committed_arcs d t one.0) (grants t one.0) in
    let three = performed two.0 s.1 in
    elim (sent_split (one.1 ++ two.1) three.1 z r h) [
      | inr i ↦ recovery_later s.0 s.1 z r (sent_performed two.0 s.1 z r k i)
      | inl i ↦ elim (sent_split one.1 two.1 z r i) [
        | inl j ↦ recovery_first s.0 s.1 z r (sent_performed arcs s.0 z r k j)
        | inr j ↦ absurd (none_granted t one.0 z r (sent_performed (committed_arcs d t one.0) (grants t one.0) z r k j))
      ]
    ]

pub sent_played : (d : Digest) (t : Transaction) (w : Passage) (asks : Turn) → IsWhole asks → (arcs : List Arc) (z : Addr) (r : PeerRecord) → is_recovery r ≡ true → IsSentIn (played d t w asks arcs).1 z r → IsRecoveryIn asks.outs z r
unfolding played
sent_played d t Commits asks whole arcs z r k h = subst (λ (l : List TxOut). IsRecoveryIn l z r) whole (sent_commit d t (around_grants asks) arcs z r k h)
sent_played d t _ asks whole arcs z r k h = sent_performed arcs asks.outs z r k h

-- ---- kept transactions

pub record PutThere (ks : List Kept) (x : Kept) : Type 0 where
  pub kept : Kept
  pub found : find_kept (put_kept ks x) x.key ≡ Some kept
  pub side : kept.side ≡ x.side
  pub key : kept.key ≡ x.key
  pub owed : kept.owed ≡ x.owed

pub put_there : (ks : List Kept) (x : Kept) → PutThere ks x
put_there [] x = record { kept = x; found = rw (key_self x.key) refl; side = refl; key = refl; owed = refl }
put_there (h ∷ ks) x = go (is_key h.key x.key) refl (put_there ks x)
  where
    go : (v : Bool) → is_key h.key x.key ≡ v → PutThere ks x → PutThere (h ∷ ks) x
    go true i rest = record { kept = record x { forgot = h.forgot }; found = rw (i, put_kept) (rw (key_self x.key) refl); side = refl; key = refl; owed = refl }
    go false i rest = record { kept = rest.kept; found = rw (i, put_kept) (rw i (rest.found)); side = rest.side; key = rest.key; owed = rest.owed }

pub put_other : (ks : List Kept) (x : Kept) (j : NodeKey) → (x.key ≡ j → ⊥) → find_kept (put_kept ks x) j ≡ find_kept ks j
put_other [] x j h = let off = key_other x.key j h in rw off refl
put_other (y ∷ ks) x j h = go (is_key y.key x.key) refl (put_other ks x j h)
  where
    off : is_key x.key j ≡ false
    off = key_other x.key j h

    go : (v : Bool) → is_key y.key x.key ≡ v → find_kept (put_kept ks x) j ≡ find_kept ks j → find_kept (put_kept (y ∷ ks) x) j ≡ find_kept (y ∷ ks) j
    go true i rest =
        let own : is_key y.key j ≡ false = ap (λ (k : NodeKey). is_key k j) (keys_equal y.key x.key i) ∙ off in
        rw (i, put_kept) (rw (off, own) refl)
    go false i rest = rw (i, put_kept) (on (is_key y.key j) refl)
      where
        on : (w : Bool) → is_key y.key j ≡ w → find_kept (y ∷ put_kept ks x) j ≡ find_kept (y ∷ ks) j
        on true m = rw m refl
        on false m = rw m rest

pub without_other : (ks : List Kept) (k j : NodeKey) → (k ≡ j → ⊥) → find_kept (without_kept ks k) j ≡ find_kept ks j
without_other [] k j h = refl
without_other (y ∷ ks) k j h = go (is_key y.key k) refl (without_other ks k j h)
  where
    go : (v : Bool) → is_key y.key k ≡ v → find_kept (without_kept ks k) j ≡ find_kept ks j → find_kept (without_kept (y ∷ ks) k) j ≡ find_kept (y ∷ ks) j
    go true i rest =
        let own : is_key y.key j ≡ false = ap (λ (w : NodeKey). is_key w j) (keys_equal y.key k i) ∙ key_other k j h in
        rw (i, without_kept) (rw own refl)
    go false i rest = rw (i, without_kept) (on (is_key y.key j) refl)
      where
        on : (w : Bool) → is_key y.key j ≡ w → find_kept (y ∷ without_kept ks k) j ≡ find_kept (y ∷ ks) j
        on true m = rw m refl
        on false m = rw m rest

-- the record is of another key
abbrev pub IsOfOther : NodeKey → Option LogRec → Type 0
IsOfOther j (Some (LogRec.Damage n k s o r cs)) = k ≡ j → ⊥
IsOfOther j (Some (LogRec.End n k o)) = k ≡ j → ⊥
IsOfOther j r = Unit {0}

kept_found : (P : Kept → Type 0) (t : Aaid) (ks ls : List Kept) (k : KeptWith P t ks) → find_kept ls k.key ≡ find_kept ks k.key → KeptWith P t ls
kept_found P t ks ls k same = record { key = k.key; kept = k.kept; found = same ∙ k.found; commits = k.commits; tree = k.tree; holds = k.holds }

pub kept_other : (P : Kept → Type 0) (t : Aaid) (ks : List Kept) (k : KeptWith P t ks) (r : Option LogRec) → IsOfOther k.key r → KeptWith P t (kept_after r ks)
unfolding kept_by
kept_other P t ks k (Some (LogRec.Damage n j s o r cs)) h = kept_found P t ks _ k (put_other ks (record { node = n; key = j; superior = s; side = o; report = r; owed = cs; forgot = false }) k.key h)
kept_other P t ks k (Some (LogRec.End n j o)) h = kept_found P t ks _ k (without_other ks j k.key h)
kept_other P t ks k _ h = k

pub found_key : (ks : List Kept) (j : NodeKey) (x : Kept) → find_kept ks j ≡ Some x → x.key ≡ j
found_key [] j x h = absurd (cc (h))
found_key (k ∷ ks) j x h = go (is_key k.key j) refl (found_key ks j x)
  where
    go : (v : Bool) → is_key k.key j ≡ v → (find_kept ks j ≡ Some x → x.key ≡ j) → x.key ≡ j
    go true m rest =
        let one : Some k ≡ Some x = rw (m, find_kept) at h in
        let same : k ≡ x = cc (one) in
        ap (λ (y : Kept). y.key) (sym same) ∙ keys_equal k.key j m
    go false m rest = rest (rw (m, find_kept) at h)

pub found_apart : (ks : List Kept) (k j : NodeKey) (x : Kept) → AreApart k ks → find_kept ks j ≡ Some x → k ≡ j → ⊥
found_apart [] k j x apart h same = cc (h)
found_apart (y ∷ ks) k j x apart h same = go (is_key y.key j) refl (found_apart ks k j x apart.1)
  where
    go : (v : Bool) → is_key y.key j ≡ v → (find_kept ks j ≡ Some x → k ≡ j → ⊥) → ⊥
    go true m rest = apart.0 (keys_equal y.key j m ∙ sym same)
    go false m rest = rest (rw (m, find_kept) at h) same

owed_without : (p : ℕ) (b : BranchId) (cs : List Child) (c : BranchId) (x : Child) → IsOwedIn p b cs → find_owed cs c ≡ Some x → IsOwedIn p b (without_owed cs c) ⊎ (c ≡ b) × (x.addr.node ≡ p)
owed_without p b [] c x h f = absurd h
owed_without p b (d ∷ cs) c x h f = go (is_branch d.branch c) refl h (owed_without p b cs c x)
  where
    go : (v : Bool) → is_branch d.branch c ≡ v → (d.addr.node ≡ p) × (d.branch ≡ b) ⊎ IsOwedIn p b cs → (IsOwedIn p b cs → find_owed cs c ≡ Some x → IsOwedIn p b (without_owed cs c) ⊎ (c ≡ b) × (x.addr.node ≡ p))
        → IsOwedIn p b (without_owed (d ∷ cs) c) ⊎ (c ≡ b) × (x.addr.node ≡ p)
    go true m (inl i) rest =
        let one : Some d ≡ Some x = rw (m, find_owed) at f in
        let same : d ≡ x = cc (one) in
        inr (sym (branches_equal d.branch c m) ∙ i.1, ap (λ (y : Child). y.addr.node) (sym same) ∙ i.0)
    go true m (inr i) rest = inl (rw (m, without_owed) i)
    go false m (inl i) rest = inl (rw (m, without_owed) (inl i))
    go false m (inr i) rest = elim (rest i (rw (m, find_owed) at f)) [
      | inl j ↦ inl (rw (m, without_owed) (inr j))
      | inr j ↦ inr j
    ]

nothing_owed : (p : ℕ) (b : BranchId) (cs : List Child) → is_nothing_owed cs ≡ true → IsOwedIn p b cs → ⊥
nothing_owed p b [] h i = i
nothing_owed p b (c ∷ cs) h i = cc (h)

-- what is noted of them is no matter
pub noted_find : (ks : List Kept) (j : NodeKey) → find_kept (not_forgotten ks) j ≡ elim (find_kept ks j) as (λ _. Option Kept) [ None ↦ None | Some x ↦ Some (record x { forgot = false }) ]
noted_find [] j = refl
noted_find (k ∷ ks) j = go (is_key k.key j) refl (noted_find ks j)
  where
    go : (v : Bool) → is_key k.key j ≡ v → find_kept (not_forgotten ks) j ≡ elim (find_kept ks j) as (λ _. Option Kept) [ None ↦ None | Some x ↦ Some (record x { forgot = false }) ]
        → find_kept (not_forgotten (k ∷ ks)) j ≡ elim (find_kept (k ∷ ks) j) as (λ _. Option Kept) [ None ↦ None | Some x ↦ Some (record x { forgot = false }) ]
    go true m rest = rw m refl
    go false m rest = rw m rest

pub kept_noted : (P : Kept → Type 0) → ((x : Kept) → P x → P (record x { forgot = false })) → (t : Aaid) (ks : List Kept) → KeptWith P t ks → KeptWith P t (not_forgotten ks)
kept_noted P on t ks k = let found = k.found in record { key = k.key; kept = record k.kept { forgot = false }; found = noted_find ks k.key ∙ rw found refl; commits = k.commits; tree = k.tree; holds = on k.kept k.holds }

pub kept_unnoted : (P : Kept → Type 0) → ((x : Kept) → P (record x { forgot = false }) → P x) → (t : Aaid) (ks : List Kept) → KeptWith P t (not_forgotten ks) → KeptWith P t ks
kept_unnoted P back t ks k = go (find_kept ks k.key) refl
  where
    as_noted : elim (find_kept ks k.key) as (λ _. Option Kept) [ None ↦ None | Some x ↦ Some (record x { forgot = false }) ] ≡ Some k.kept
    as_noted = sym (noted_find ks k.key) ∙ k.found

    go : (o : Option Kept) → find_kept ks k.key ≡ o → KeptWith P t ks
    go None i = let none : None ≡ Some k.kept = rw i at as_noted in absurd (cc (none))
    go (Some x) i =
        let one : ◌≡◌ {A = Option Kept} (Some (record x { forgot = false })) (Some k.kept) = rw i at as_noted in
        let same : ◌≡◌ {A = Kept} (record x { forgot = false }) k.kept = cc (one) in
        record {
          key = k.key;
          kept = x;
          found = i;
          commits = ap (λ (y : Kept). is_commit y.side) same ∙ k.commits;
          tree = ap (λ (y : Kept). is_aaid t y.key.aaid) same ∙ k.tree;
          holds = back x (subst (λ (y : Kept). P y) (sym same) k.holds);
        }

abbrev backs_of : Aaid → Kept → Bool
backs_of u k = not (is_commit k.side) && is_aaid u k.key.aaid

back_one : (u : Aaid) → IsOne (backs_of u) (keeps_rollback u)
back_one u = record { none = refl; more = λ k ks. refl }

pub rollback_noted : (u : Aaid) (ks : List Kept) → keeps_rollback u (not_forgotten ks) ≡ keeps_rollback u ks
rollback_noted u ks = one_noted (backs_of u) (keeps_rollback u) (back_one u) (λ k b. refl) ks

-- a rollback that is kept was kept, or is what the record keeps
abbrev KeepsBack : Aaid → Option LogRec → Type 0
KeepsBack u r = HoldsBy (backs_of u) r

rollback_rec : (u : Aaid) (r : Option LogRec) (ks : List Kept) → keeps_rollback u (kept_after r ks) ≡ true → (keeps_rollback u ks ≡ true) ⊎ KeepsBack u r
rollback_rec u r ks h = one_after (backs_of u) (keeps_rollback u) (back_one u) (λ k b. refl) r ks h

-- ---- a transaction at its node

pub late_standing : (v : Phase) → is_standing v ≡ true → is_nil v ≡ false
late_standing v h = grind (arith, h)

pub row_seen : (m : Branch → Bool) (who : Who) (arcs : List Arc) (t : Aaid) (p : ℕ) (b : BranchId) (c : Current) → UnmarkedRow m t p b (Some c) → UnmarkedAt m p b (seen who arcs c)
row_seen m who arcs t p b c k =
    let one : Some c ≡ Some k.current = k.at in
    let same : k.current ≡ c = cc (one) in
    let found : find_branch c.branches p ≡ Some k.branch = ap (λ (x : Current). find_branch x.branches p) (sym same) ∙ k.found in
    record {
      row = seen_row arcs k.branch;
      found = seen_find arcs c.branches p ∙ rw found refl;
      id = k.id;
      left = k.left;
      off = k.off;
      phase = ap (λ (x : Current). is_standing x.phase) (sym same) ∙ k.phase;
    }

pub row_remains : (m : Branch → Bool) (t : Aaid) (p : ℕ) (b : BranchId) (u : Transaction) → is_aaid t (aaid_of u.key) ≡ true → UnmarkedAt m p b u → UnmarkedRow m t p b (remaining u)
row_remains m t p b u tree st = go (remaining u) refl
  where
    off : is_nil u.phase ≡ false
    off = late_standing u.phase st.phase

    go : (o : Option Current) → remaining u ≡ o → UnmarkedRow m t p b o
    go None i = absurd (grind (arith, i, off))
    go (Some c) i =
        let l = left_is u c i in
        let found = st.found in
        let row : find_branch (branches_of u.rows) p ≡ Some st.row.branch = left_find u.rows p ∙ rw found refl in
        record {
          current = c;
          at = refl;
          tree = ap (λ (k : Key). is_aaid t (aaid_of k)) l.0 ∙ tree;
          phase = ap is_standing l.1 ∙ st.phase;
          branch = st.row.branch;
          found = ap (λ (bs : List Branch). find_branch bs p) (left_branches u c i) ∙ row;
          id = st.id;
          left = st.left;
          off = st.off;
        }

-- what an event may set in a row, it may set at the node
pub row_marked : (m : Branch → Bool) (who : Who) (e : Event) (s d : Digest) (c : Current) (f : TxEvent) (t : Aaid) (p : ℕ) (b : BranchId) → d.current ≡ Some c → s.current ≡ Some c → IsAsked e c f → UnmarkedRow m t p b d.current
    → (may : TxEvent → Transaction → ℕ → Bool) → may f (seen who d.arcs c) p ≡ true → MayMark who e s may p (t, b)
row_marked m who e s d c f t p b now at asked k may h = record {
  current = c;
  branch = k.branch;
  at = at;
  found = ap (λ (x : Current). find_branch x.branches p) (sym same) ∙ k.found;
  key = pair t (aaid_of c.key) b k.branch.id (aaids_equal t (aaid_of c.key) (ap (λ (x : Current). is_aaid t (aaid_of x.key)) (sym same) ∙ k.tree)) (sym k.id);
  event = f;
  arcs = d.arcs;
  asked = asked;
  sets = h;
}
  where
    same : k.current ≡ c
    same = some_same k.current c (sym k.at ∙ now)

    pair : (t u : Aaid) (b c : BranchId) → t ≡ u → b ≡ c → ◌≡◌ {A = BranchKey} (t, b) (u, c)
    pair t u b c i j = rw (i, j) refl

-- ---- a step of a node

-- what ends it: the branch is done or leaves, its Done comes as a reply, or the tree rolls, or leaves, or was rolling
pub data QuitsAt (who : Who) (e : Event) (fall : Bool) (s : Digest) (t : Aaid) (p : ℕ) (b : BranchId) : Type 0 where
  Done_here : MayMark who e s may_end p (t, b) → QuitsAt who e fall s t p b
  Left_here : MayMark who e s may_leave p (t, b) → QuitsAt who e fall s t p b
  Done_told : (a : Addr) (r : Report) → e ≡ Event.Arrive a (PeerRecord.RecReply t b (RecState.Done r)) → a.node ≡ p → QuitsAt who e fall s t p b
  Rolls_here : is_now t s.current ≡ true → fall ≡ true → QuitsAt who e fall s t p b
  Leaves_here : is_now t s.current ≡ true → is_unchanged e ≡ true → QuitsAt who e fall s t p b
  Rolling_here : is_now t s.current ≡ true → is_rolling (phase_of s) ≡ true → QuitsAt who e fall s t p b

abbrev pub OwesOr : Who → Event → Bool → Digest → Aaid → ℕ → BranchId → Digest → Type 0
OwesOr who e fall s t p b d = Owes t p b d ⊎ QuitsAt who e fall s t p b

pub record IsOwingMove (who : Who) (e : Event) (fall : Bool) (s d : Digest) (m : Move) : Type 0 where
  pub says : (z : Addr) (r : PeerRecord) → IsSentIn m.outs z r → IsNodeWord e s d m z r
  pub rolls : (u : Aaid) → keeps_rollback u m.next.kept ≡ true → (keeps_rollback u d.kept ≡ true) ⊎ (is_now u s.current ≡ true) × (fall ≡ true)
  pub backs : (u : Aaid) → backs_tree u m.rec ≡ true → (keeps_rollback u d.kept ≡ true) ⊎ (is_now u s.current ≡ true) × (fall ≡ true)
  pub stays : (t : Aaid) (p : ℕ) (b : BranchId) → IsSound who d → Owes t p b d → OwesOr who e fall s t p b m.next
  pub begins : (t : Aaid) (p : ℕ) (b : BranchId) → IsSound who d → BeginsTo t p b m.outs → OwesOr who e fall s t p b m.next

-- records on associations are no matter here
word_of : (e : Event) (s d : Digest) (m : Move) (z : Addr) (r : PeerRecord) → (is_recovery r ≡ true → IsNodeWord e s d m z r) → IsNodeWord e s d m z r
word_of e s d m z (PeerRecord.RecReady t b) h = h refl
word_of e s d m z (PeerRecord.RecReply t b v) h = h refl
word_of e s d m z _ h = tt

-- nothing goes out beside the associations, or as it is said
said_word : (e : Event) (s d : Digest) (m : Move) (z : Addr) (r : PeerRecord) → IsSaid e s d z r → IsNodeWord e s d m z r
said_word e s d m z (PeerRecord.RecReady t b) h = absurd h
said_word e s d m z (PeerRecord.RecReply t b (RecState.Done r)) h = λ g old new. elim h [ inl i ↦ inl (old t i.0) | inr i ↦ inr i ]
said_word e s d m z (PeerRecord.RecReply t b RecState.Unknown) h = h
said_word e s d m z _ h = tt

pub spoken_words : (arcs : List Arc) (outs : List TxOut) (p : ℕ) → are_spoken outs ≡ true → words_to p (performed arcs outs).1 ≡ []
spoken_words arcs outs p h = (agrees_performed arcs outs p (apart_spoken outs h)).words ∙ spoken_none (is_live (link_with arcs p)) p outs h

pub no_begin : (arcs : List Arc) (outs : List TxOut) (t : Aaid) (p : ℕ) (b : BranchId) → begins_of t (words_to p (performed arcs outs).1) ≡ 0 → BeginsTo t p b (performed arcs outs).1 → ⊥
no_begin arcs outs t p b none h = absurd (omega (arith, none, sent_counts t p (performed arcs outs).1 h.0 h.1 h.2 h.3 b h.4 h.5 h.6))

-- ---- a turn

commits_of : (u : Aaid) (q : Transaction) (r : Option LogRec) (n : Transaction) → IsLogged q r n → is_aaid u (aaid_of q.key) ≡ true → is_commit_rec r ≡ true → commits_tree u r ≡ true
commits_of u q (Some (LogRec.Commit m k s cs)) n l same h = ap (is_aaid u) (ap (λ (x : NodeKey). x.aaid) l.0 ∙ key_aaid q.key) ∙ same
commits_of u q _ n l same h = absurd (cc (h))

pub other_logged : (q : Transaction) (r : Option LogRec) (n : Transaction) (j : NodeKey) → IsLogged q r n → (node_key q.key ≡ j → ⊥) → IsOfOther j r
other_logged q (Some (LogRec.Damage m k s o p cs)) n j l h = λ same. h (sym l.0 ∙ same)
other_logged q (Some (LogRec.End m k o)) n j l h = λ same. h (sym l ∙ same)
other_logged q _ n j l h = tt

back_key : (q : Transaction) (r : Option LogRec) (n : Transaction) (u : Aaid) → IsLogged q r n → KeepsBack u r → is_aaid u (aaid_of q.key) ≡ true
back_key q r n u l k =
    let logged : IsLogged q (Some (LogRec.Damage k.node k.key k.superior k.side k.report k.owed)) n = subst (λ (x : Option LogRec). IsLogged q x n) k.is l in
    ap (is_aaid u) (sym (key_aaid q.key) ∙ ap (λ (x : NodeKey). x.aaid) (sym logged.0)) ∙ and_right (not (is_commit k.side)) (is_aaid u k.key.aaid) k.holds

not_and : (v w : Bool) → (not v && w) ≡ true → (v ≡ false) × (w ≡ true)
not_and v w h = (not-true v (and_left (not v) w h), and_right (not v) w h)

backs_key : (q : Transaction) (r : Option LogRec) (n : Transaction) (u : Aaid) → IsLogged q r n → backs_tree u r ≡ true → is_aaid u (aaid_of q.key) ≡ true
backs_key q (Some (LogRec.Damage m k s o p cs)) n u l h = ap (is_aaid u) (sym (key_aaid q.key) ∙ ap (λ (x : NodeKey). x.aaid) (sym l.0)) ∙ (not_and (is_commit o) (is_aaid u k.aaid) h).1
backs_key q (Some (LogRec.End m k o)) n u l h = ap (is_aaid u) (sym (key_aaid q.key) ∙ ap (λ (x : NodeKey). x.aaid) (sym l)) ∙ (not_and (is_commit o) (is_aaid u k.aaid) h).1
backs_key q _ n u l h = absurd (cc (h))

backs_roll : (u : Aaid) (r : Option LogRec) → backs_tree u r ≡ true → rolls_back r ≡ true
backs_roll u (Some (LogRec.Damage m k s o p cs)) h = ap not (not_and (is_commit o) (is_aaid u k.aaid) h).0
backs_roll u (Some (LogRec.End m k o)) h = ap not (not_and (is_commit o) (is_aaid u k.aaid) h).0
backs_roll u _ h = absurd (cc (h))

back_rolls : (u : Aaid) (r : Option LogRec) → KeepsBack u r → rolls_back r ≡ true
back_rolls u r k = ap rolls_back k.is ∙ and_left (not (is_commit k.side)) (is_aaid u k.key.aaid) k.holds

pub no_rolling : (v : Phase) → is_standing v ≡ true → is_rolling v ≡ false
no_rolling v h = grind (arith, h)

pub kept_new : (P : Kept → Type 0) (t : Aaid) (ks : List Kept) (n : ℕ) (k : NodeKey) (up : Option Addr) (o : Outcome) (x : Report) (cs : List Child) → is_commit o ≡ true → is_aaid t k.aaid ≡ true → ((y : Kept) → y.owed ≡ cs → P y)
    → KeptWith P t (kept_after (Some (LogRec.Damage n k up o x cs)) ks)
unfolding kept_by
kept_new P t ks n k up o x cs commits tree holds =
    let l = put_there ks (record { node = n; key = k; superior = up; side = o; report = x; owed = cs; forgot = false }) in
    record { key = k; kept = l.kept; found = l.found; commits = ap is_commit l.side ∙ commits; tree = ap (λ (y : NodeKey). is_aaid t y.aaid) l.key ∙ tree; holds = holds l.kept l.owed }

kept_damage : (t : Aaid) (p : ℕ) (b : BranchId) (ks : List Kept) (n : ℕ) (k : NodeKey) (up : Option Addr) (x : Report) (cs : List Child) → is_aaid t k.aaid ≡ true → IsOwedIn p b cs
    → KeptOwes t p b (kept_after (Some (LogRec.Damage n k up Outcome.Commit x cs)) ks)
kept_damage t p b ks n k up x cs tree owes = kept_new (OwesIn p b) t ks n k up Outcome.Commit x cs refl tree (λ y same. subst (λ (ds : List Child). IsOwedIn p b ds) (sym same) owes)

owing_turned : (who : Who) (e : Event) (fall : Bool) (s : Digest) (f : TxEvent) (d : Digest) (c : Current) → (falls f (seen who d.arcs c) ≡ true → fall ≡ true) → d.current ≡ Some c → s.current ≡ Some c → IsAsked e c f → IsPut f (seen who d.arcs c) → IsOwingMove who e fall s d (turned who f d c)
owing_turned who e fall s f d c so now at asked put = record {
  says = λ z r h. word_of e s d m z r (λ k. word z r (own.says z r (sent_played d q w a (whole_turn f q) (entered q w d.arcs) z r k h)));
  rolls = λ u h. elim (rollback_rec u a.rec d.kept h) [
    | inl i ↦ inl i
    | inr k ↦ inr (ap (is_now u) at ∙ back_key q a.rec a.next u own.passed.logs k, so (own.rolls (back_rolls u a.rec k)))
  ];
  backs = λ u h. inr (ap (is_now u) at ∙ backs_key q a.rec a.next u own.passed.logs h, so (own.rolls (backs_roll u a.rec h)));
  stays = λ t p b sound k. elim k [ inl i ↦ row t p b i | inr i ↦ inl (inr (kept t p b sound i)) ];
  begins = λ t p b sound h. absurd (none t p b h);
}
  where
    q : Transaction
    q = seen who d.arcs c

    a : Turn
    a = transacted f q

    w : Passage
    w = passage (is_leaving f) q.phase a.next.phase

    m : Move
    m = turned who f d c

    own : IsOwingTurn f q q a
    own = owing_turn f q put

    done : (u : Aaid) (v : BranchId) (z : Addr) (x : Report) → u ≡ aaid_of c.key → (is_committing c.phase || is_commit_rec a.rec) ≡ true → IsNodeWord e s d m z (PeerRecord.RecReply u v (RecState.Done x))
    done u v z x tree h g old new = elim (or_case (is_committing c.phase) (is_commit_rec a.rec) h) [
      | inl i ↦
          (let n : is_now u d.current ≡ true = ap (is_now u) now ∙ same in
          let ph : is_committing (phase_of d) ≡ true = rw (now, phase_of) i in
          inl (old u (rw (n, ph) refl)))
      | inr i ↦ inl (new u (commits_of u q a.rec a.next own.passed.logs same i))
    ]
      where
        same : is_aaid u (aaid_of c.key) ≡ true
        same = ap (λ (y : Aaid). is_aaid y (aaid_of c.key)) tree ∙ aaid_same (aaid_of c.key)

    word : (z : Addr) (r : PeerRecord) → IsOwnWord q a z r → IsNodeWord e s d m z r
    word z (PeerRecord.RecReady u v) h = (c, at, h)
    word z (PeerRecord.RecReply u v (RecState.Done x)) h = done u v z x h.0 h.1
    word z (PeerRecord.RecReply u v RecState.Unknown) h = absurd h
    word z (PeerRecord.RecReply u v RecState.Commit) h = tt
    word z (PeerRecord.RecReply u v RecState.RetryLater) h = tt
    word z (PeerRecord.RecCommit u v) h = tt
    word z (PeerRecord.Forget u v) h = tt
    word z (PeerRecord.OpenAssoc u v) h = tt
    word z (PeerRecord.AcceptAssoc u v x) h = tt
    word z (PeerRecord.ShutAssoc u v) h = tt
    word z (PeerRecord.OnAssoc u v x y) h = tt

    none : (t : Aaid) (p : ℕ) (b : BranchId) → BeginsTo t p b m.outs → ⊥
    none t p b h = absurd (omega (arith, no_begins t (words_to p m.outs) (turned_none who f d c p put), sent_counts t p m.outs h.0 h.1 h.2 h.3 b h.4 h.5 h.6))

    kept : (t : Aaid) (p : ℕ) (b : BranchId) → IsSound who d → (k : KeptOwes t p b d.kept) → KeptOwes t p b m.next.kept
    kept t p b sound k = elim own.logs [
      | inl i ↦ subst (λ (r : Option LogRec). KeptOwes t p b (kept_after r d.kept)) (sym i) k
      | inr i ↦ kept_other (OwesIn p b) t d.kept k a.rec (other_logged q a.rec a.next k.key own.passed.logs (λ same. found_apart d.kept (node_key c.key) k.key k.kept (sound.0 c now (no_rolling c.phase i)) k.found same))
    ]

    row : (t : Aaid) (p : ℕ) (b : BranchId) → RowOwes t p b d.current → OwesOr who e fall s t p b m.next
    row t p b k = elim (own.stays p b (row_seen is_done_branch who d.arcs t p b c (subst (λ (o : Option Current). RowOwes t p b o) now k))) [
      | inl i ↦ inl (inl (row_remains is_done_branch t p b a.next (ap (λ (j : Key). is_aaid t (aaid_of j)) own.passed.key ∙ tree) i))
      | inr i ↦ elim i [ inl j ↦ inr (quits j) | inr j ↦ inl (inr (keeps j)) ]
    ]
      where
        same : k.current ≡ c
        same = some_same k.current c (sym k.at ∙ now)

        tree : is_aaid t (aaid_of c.key) ≡ true
        tree = ap (λ (x : Current). is_aaid t (aaid_of x.key)) (sym same) ∙ k.tree

        here : is_now t s.current ≡ true
        here = ap (is_now t) at ∙ tree

        quits : Quits f q p → QuitsAt who e fall s t p b
        quits (Is_done h) = Done_here (row_marked is_done_branch who e s d c f t p b now at asked k may_end h)
        quits (Has_left h) = Left_here (row_marked is_done_branch who e s d c f t p b now at asked k may_leave h)
        quits (Rolls h) = Rolls_here here (so h)
        quits (Departs h) = Leaves_here here (unchanged_asked e c (subst (λ (g : TxEvent). IsAsked e c g) h asked))

        keeps : KeepsOwed (node_key c.key) p b a.rec → KeptOwes t p b m.next.kept
        keeps j = subst (λ (r : Option LogRec). KeptOwes t p b (kept_after r d.kept)) (sym j.is) (kept_damage t p b d.kept j.node (node_key c.key) j.superior j.report j.owed (ap (is_aaid t) (key_aaid c.key) ∙ tree) j.owes)

-- ---- a step of a kept transaction

pub settled_silent : (k : Kept) (f : KeptEvent) (z : Addr) (r : PeerRecord) → IsRecoveryIn (settled k f).outs z r → (u : Aaid) × (v : BranchId) × (r ≡ PeerRecord.Forget u v)
unfolding settled
settled_silent k (KeptEvent.Done a b x) z r h = go x h
  where
    go : (y : Report) → IsRecoveryIn (settled k (KeptEvent.Done a b y)).outs z r → (u : Aaid) × (v : BranchId) × (r ≡ PeerRecord.Forget u v)
    go Report.None i = absurd i
    go Report.Hazard (inl i) = (k.key.aaid, b, sym i.1)
    go Report.Hazard (inr i) = absurd i
    go Report.Mix (inl i) = (k.key.aaid, b, sym i.1)
    go Report.Mix (inr i) = absurd i
settled_silent k KeptEvent.Forget z r h = absurd h
settled_silent k KeptEvent.Purge z r h = absurd h

-- the record is of its key, and keeps its side
pub settled_key : (k : Kept) (f : KeptEvent) (j : NodeKey) → (k.key ≡ j → ⊥) → IsOfOther j (settled k f).rec
unfolding settled
settled_key k (KeptEvent.Done a b x) j h = go (find_owed k.owed b)
  where
    go : (o : Option Child) → IsOfOther j (elim o as (λ _. Option LogRec) [ None ↦ None | Some c ↦ Some (rec_of_done k b x) ])
    go None = tt
    go (Some c) = on (is_nothing_owed (without_owed k.owed b) && k.forgot)
      where
        on : (v : Bool) → IsOfOther j (Some (if v then LogRec.End k.node k.key k.side else LogRec.Damage k.node k.key k.superior k.side (join k.report x) (without_owed k.owed b)))
        on true = h
        on false = h
settled_key k KeptEvent.Forget j h = go (is_commit k.side && is_nothing_owed k.owed)
  where
    go : (v : Bool) → IsOfOther j (if v then Some (LogRec.End k.node k.key k.side) else None)
    go true = h
    go false = tt
settled_key k KeptEvent.Purge j h = h

settled_back : (u : Aaid) (k : Kept) (f : KeptEvent) → KeepsBack u (settled k f).rec → (is_commit k.side ≡ false) × (is_aaid u k.key.aaid ≡ true)
unfolding settled
settled_back u k (KeptEvent.Done a b x) h = (grind (arith, h.is, h.holds), grind (arith, h.is, h.holds))
settled_back u k KeptEvent.Forget h = absurd (grind (arith, h.is))
settled_back u k KeptEvent.Purge h = absurd (cc (h.is))

settled_backs : (u : Aaid) (k : Kept) (f : KeptEvent) → backs_tree u (settled k f).rec ≡ true → (is_commit k.side ≡ false) × (is_aaid u k.key.aaid ≡ true)
unfolding settled
settled_backs u k (KeptEvent.Done a b x) h = go (find_owed k.owed b) h
  where
    go : (o : Option Child) → backs_tree u (elim o as (λ _. Option LogRec) [ None ↦ None | Some c ↦ Some (rec_of_done k b x) ]) ≡ true → (is_commit k.side ≡ false) × (is_aaid u k.key.aaid ≡ true)
    go None i = absurd (cc (i))
    go (Some c) i = on (is_nothing_owed (without_owed k.owed b) && k.forgot) i
      where
        on : (v : Bool) → backs_tree u (Some (if v then LogRec.End k.node k.key k.side else LogRec.Damage k.node k.key k.superior k.side (join k.report x) (without_owed k.owed b))) ≡ true → (is_commit k.side ≡ false) × (is_aaid u k.key.aaid ≡ true)
        on true j = not_and (is_commit k.side) (is_aaid u k.key.aaid) j
        on false j = not_and (is_commit k.side) (is_aaid u k.key.aaid) j
settled_backs u k KeptEvent.Forget h = go (is_commit k.side && is_nothing_owed k.owed) h
  where
    go : (v : Bool) → backs_tree u (if v then Some (LogRec.End k.node k.key k.side) else None) ≡ true → (is_commit k.side ≡ false) × (is_aaid u k.key.aaid ≡ true)
    go true i = not_and (is_commit k.side) (is_aaid u k.key.aaid) i
    go false i = absurd (cc (i))
settled_backs u k KeptEvent.Purge h = not_and (is_commit k.side) (is_aaid u k.key.aaid) h

pub stands_back : (u : Aaid) (ks : List Kept) (j : NodeKey) (x : Kept) → find_kept ks j ≡ Some x → is_commit x.side ≡ false → is_aaid u x.key.aaid ≡ true → keeps_rollback u ks ≡ true
stands_back u [] j x h c t = absurd (cc (h))
stands_back u (k ∷ ks) j x h c t = go (is_key k.key j) refl (stands_back u ks j x)
  where
    go : (v : Bool) → is_key k.key j ≡ v → (find_kept ks j ≡ Some x → is_commit x.side ≡ false → is_aaid u x.key.aaid ≡ true → keeps_rollback u ks ≡ true) → keeps_rollback u (k ∷ ks) ≡ true
    go true m rest =
        let one : Some k ≡ Some x = rw (m, find_kept) at h in
        let same : k ≡ x = cc (one) in
        let side : is_commit k.side ≡ false = ap (λ (y : Kept). is_commit y.side) same ∙ c in
        let tree : is_aaid u k.key.aaid ≡ true = ap (λ (y : Kept). is_aaid u y.key.aaid) same ∙ t in
        rw (side, tree) refl
    go false m rest = let r = rest (rw (m, find_kept) at h) c t in rw r (grind arith)

-- what is found is the same but for what is noted
pub record Same (x k : Kept) : Type 0 where
  pub side : x.side ≡ k.side
  pub key : x.key ≡ k.key
  pub owed : x.owed ≡ k.owed

pub same_of : (x k : Kept) → ◌≡◌ {A = Kept} (record x { forgot = false }) (record k { forgot = false }) → Same x k
same_of x k h = record { side = ap (λ (y : Kept). y.side) h; key = ap (λ (y : Kept). y.key) h; owed = ap (λ (y : Kept). y.owed) h }

-- a kept commitment that is owed goes on, or the branch's Done comes
done_settled : (t : Aaid) (p : ℕ) (b : BranchId) (ks : List Kept) (k : Kept) (a : Addr) (c : BranchId) (x : Report) → is_commit k.side ≡ true → is_aaid t k.key.aaid ≡ true → KeptOwes t p b ks → IsOwedIn p b k.owed
    → KeptOwes t p b (kept_after (settled k (KeptEvent.Done a c x)).rec ks) ⊎ (c ≡ b) × (y : Child) × (find_owed k.owed c ≡ Some y) × (y.addr.node ≡ p)
unfolding settled
done_settled t p b ks k a c x commits tree old owes = go (find_owed k.owed c) refl
  where
    commit_is : (o : Outcome) → is_commit o ≡ true → o ≡ Outcome.Commit
    commit_is Outcome.Commit h = refl
    commit_is Outcome.Rollback h = absurd (cc (h))

    go : (o : Option Child) → find_owed k.owed c ≡ o
        → KeptOwes t p b (kept_after (elim o as (λ _. Option LogRec) [ None ↦ None | Some y ↦ Some (rec_of_done k c x) ]) ks) ⊎ (c ≡ b) × (y : Child) × (find_owed k.owed c ≡ Some y) × (y.addr.node ≡ p)
    go None i = inl old
    go (Some y) i = elim (owed_without p b k.owed c y owes i) [
      | inr j ↦ inr (j.0, y, i, j.1)
      | inl j ↦ inl (on (is_nothing_owed (without_owed k.owed c)) refl k.forgot j)
    ]
      where
        damage : IsOwedIn p b (without_owed k.owed c) → KeptOwes t p b (kept_after (Some (LogRec.Damage k.node k.key k.superior k.side (join k.report x) (without_owed k.owed c))) ks)
        damage j = subst (λ (o : Outcome). KeptOwes t p b (kept_after (Some (LogRec.Damage k.node k.key k.superior o (join k.report x) (without_owed k.owed c))) ks)) (sym (commit_is k.side commits)) (kept_damage t p b ks k.node k.key k.superior (join k.report x) (without_owed k.owed c) tree j)

        on : (v : Bool) → is_nothing_owed (without_owed k.owed c) ≡ v → (w : Bool) → IsOwedIn p b (without_owed k.owed c) → KeptOwes t p b (kept_after (Some (if v && w then LogRec.End k.node k.key k.side else LogRec.Damage k.node k.key k.superior k.side (join k.report x) (without_owed k.owed c))) ks)
        on true m w j = absurd (nothing_owed p b (without_owed k.owed c) m j)
        on false m w j = damage j

forgotten : (t : Aaid) (p : ℕ) (b : BranchId) (ks : List Kept) (k : Kept) → KeptOwes t p b ks → IsOwedIn p b k.owed → KeptOwes t p b (kept_after (settled k KeptEvent.Forget).rec ks)
unfolding settled
forgotten t p b ks k old owes = go (is_commit k.side) (is_nothing_owed k.owed) refl
  where
    go : (v w : Bool) → is_nothing_owed k.owed ≡ w → KeptOwes t p b (kept_after (if v && w then Some (LogRec.End k.node k.key k.side) else None) ks)
    go false w i = old
    go true true i = absurd (nothing_owed p b k.owed i owes)
    go true false i = old

owing_keep : (who : Who) (e : Event) (fall : Bool) (s d : Digest) (k : Kept) (f : KeptEvent) → IsFound d.kept k → IsSettling e s d k f → IsOwingMove who e fall s d (keep (settled k f) d)
owing_keep who e fall s d k f found settling = record {
  says = λ z r h. word_of e s d m z r (λ i. silent z r (settled_silent k f z r (sent_performed d.arcs (settled k f).outs z r i h)));
  rolls = λ u h. elim (rollback_rec u (settled k f).rec d.kept h) [ inl i ↦ inl i | inr i ↦ inl (back u (settled_back u k f i)) ];
  backs = λ u h. inl (back u (settled_backs u k f h));
  stays = λ t p b sound o. elim o [ inl i ↦ inl (inl i) | inr i ↦ stays t p b sound i (is_key i.key k.key) refl ];
  begins = λ t p b sound h. absurd (no_begin d.arcs (settled k f).outs t p b (quiet t p) h);
}
  where
    m : Move
    m = keep (settled k f) d

    same : Same found.0 k
    same = same_of found.0 k found.2

    silent : (z : Addr) (r : PeerRecord) → (u : Aaid) × (v : BranchId) × (r ≡ PeerRecord.Forget u v) → IsNodeWord e s d m z r
    silent z r w = subst (λ (y : PeerRecord). IsNodeWord e s d m z y) (sym w.2) tt

    back : (u : Aaid) → (is_commit k.side ≡ false) × (is_aaid u k.key.aaid ≡ true) → keeps_rollback u d.kept ≡ true
    back u h = stands_back u d.kept k.key found.0 found.1 (ap is_commit same.side ∙ h.0) (ap (λ (y : NodeKey). is_aaid u y.aaid) same.key ∙ h.1)

    quiet : (t : Aaid) (p : ℕ) → begins_of t (words_to p m.outs) ≡ 0
    quiet t p = ap (begins_of t) (spoken_words d.arcs (settled k f).outs p (settled_spoken k f))

    stays : (t : Aaid) (p : ℕ) (b : BranchId) → IsSound who d → (o : KeptOwes t p b d.kept) → (v : Bool) → is_key o.key k.key ≡ v → OwesOr who e fall s t p b m.next
    stays t p b sound o false i = inl (inr (kept_other (OwesIn p b) t d.kept o (settled k f).rec (settled_key k f o.key (λ eq. cc (i, ap (λ (j : NodeKey). is_key j k.key) (sym eq) ∙ key_self k.key)))))
    stays t p b sound o true i = by f settling
      where
        one : Some o.kept ≡ Some found.0
        one = sym o.found ∙ ap (find_kept d.kept) (keys_equal o.key k.key i) ∙ found.1

        eq : o.kept ≡ found.0
        eq = let h = one in cc (h)

        owes : IsOwedIn p b k.owed
        owes = subst (λ (cs : List Child). IsOwedIn p b cs) (ap (λ (y : Kept). y.owed) eq ∙ same.owed) o.holds

        commits : is_commit k.side ≡ true
        commits = ap is_commit (sym same.side) ∙ ap (λ (y : Kept). is_commit y.side) (sym eq) ∙ o.commits

        tree : is_aaid t k.key.aaid ≡ true
        tree = ap (λ (y : NodeKey). is_aaid t y.aaid) (sym same.key) ∙ ap (λ (y : Kept). is_aaid t y.key.aaid) (sym eq) ∙ o.tree

        under : IsUnderWay s k.key → d.current ≡ s.current → QuitsAt who e fall s t p b
        under u cur = on (is_rolling u.0.phase) refl
          where
            key : node_key u.0.key ≡ k.key
            key = keys_equal (node_key u.0.key) k.key u.2

            on : (v : Bool) → is_rolling u.0.phase ≡ v → QuitsAt who e fall s t p b
            on true j = (Rolling_here (ap (is_now t) u.1 ∙ ap (is_aaid t) (sym (key_aaid u.0.key) ∙ ap (λ (y : NodeKey). y.aaid) key) ∙ tree) (rw (u.1, phase_of) j))
            on false j = absurd (found_apart d.kept (node_key u.0.key) k.key found.0 (sound.0 u.0 (cur ∙ u.1) j) found.1 key)

        told : (a : Addr) (c : BranchId) (x : Report) → IsSettling e s d k (KeptEvent.Done a c x) → (c ≡ b) × (y : Child) × (find_owed k.owed c ≡ Some y) × (y.addr.node ≡ p) → QuitsAt who e fall s t p b
        told a c x w j = elim w.4 [
          | inr u ↦ under u w.3
          | inl at ↦
              (let from : j.1.addr ≡ a = addrs_equal j.1.addr a (at j.1 j.2) in
              Done_told a x (w.1 ∙ word w.0 (aaids_equal t w.0 (same_tree t k.key.aaid w.0 tree w.2)) j.0) (ap (λ (y : Addr). y.node) (sym from) ∙ j.3))
        ]
          where
            same_tree : (t u v : Aaid) → is_aaid t u ≡ true → is_aaid u v ≡ true → is_aaid t v ≡ true
            same_tree t u v h i = ap (is_aaid t) (sym (aaids_equal u v i)) ∙ h

            word : (u : Aaid) → t ≡ u → c ≡ b → Event.Arrive a (PeerRecord.RecReply u c (RecState.Done x)) ≡ Event.Arrive a (PeerRecord.RecReply t b (RecState.Done x))
            word u h i = rw (← h, i) refl

        by : (g : KeptEvent) → IsSettling e s d k g → OwesOr who e fall s t p b (keep (settled k g) d).next
        by (KeptEvent.Done a c x) w = elim (done_settled t p b d.kept k a c x commits tree o owes) [ inl j ↦ inl (inr j) | inr j ↦ inr (told a c x w j) ]
        by KeptEvent.Forget w = inl (inr (forgotten t p b d.kept k o owes))
        by KeptEvent.Purge w = absurd (nothing_owed p b k.owed w.0 owes)

-- ---- outputs alone

owing_perform : (who : Who) (e : Event) (fall : Bool) (s d : Digest) (outs : List TxOut) → are_spoken outs ≡ true → AreSaid e s d outs → IsOwingMove who e fall s d (perform outs d)
owing_perform who e fall s d outs spoken said = record {
  says = λ z r h. word_of e s d (perform outs d) z r (λ k. said_word e s d (perform outs d) z r (said z r (sent_performed d.arcs outs z r k h)));
  rolls = λ u h. inl h;
  backs = λ u h. absurd (cc (h));
  stays = λ t p b sound o. inl o;
  begins = λ t p b sound h. absurd (no_begin d.arcs outs t p b (ap (begins_of t) (spoken_words d.arcs outs p spoken)) h);
}

owing_still : (who : Who) (e : Event) (fall : Bool) (s d : Digest) → IsOwingMove who e fall s d (move [] d)
owing_still who e fall s d = record { says = λ z r h. absurd h; rolls = λ u h. inl h; backs = λ u h. absurd (cc (h)); stays = λ t p b sound o. inl o; begins = λ t p b sound h. absurd h.6 }

-- ---- Begin

row_more : (m : Branch → Bool) (p : ℕ) (b : BranchId) (t : Transaction) (x : Row) → UnmarkedAt m p b t → UnmarkedAt m p b (record t { rows = t.rows ++ x ∷ [] })
row_more m p b t x st = let found = st.found in record { row = st.row; found = find_last t.rows x p ∙ rw found refl; id = st.id; left = st.left; off = st.off; phase = st.phase }

row_new : (m : Branch → Bool) (t : Transaction) (x : Row) (p : ℕ) → find_row t.rows p ≡ None → x.branch.peer.node ≡ p → x.branch.left ≡ false → m x.branch ≡ false → is_standing t.phase ≡ true
    → UnmarkedAt m p x.branch.id (record t { rows = t.rows ++ x ∷ [] })
row_new m t x p none at left off phase =
    let eq : (x.branch.peer.node == p) ≡ true = grind (arith, nat_tests, at) in
    record { row = x; found = find_last t.rows x p ∙ rw none (rw eq refl); id = refl; left = left; off = off; phase = phase }

pub no_row : (who : Who) (d : Digest) (a : Arc) (c : Current) → d.current ≡ Some c → may_begin_on who d a ≡ true → (is_active c.phase ≡ true) × (find_row (seen_rows d.arcs c.branches) a.peer.node ≡ None)
unfolding situation_of
no_row who d a c now may = (grind (arith, may, now), go (find_row (seen_rows d.arcs c.branches) a.peer.node) refl)
  where
    off : (situation_at who d a.peer.node).branch ≡ false
    off = grind (arith, may)

    seen_off : (is_under_at c.key a.peer.node || row_holds (seen_rows d.arcs c.branches) a.peer.node (λ b. true)) ≡ false
    seen_off = rw (now, situation_at) at off

    go : (o : Option Row) → find_row (seen_rows d.arcs c.branches) a.peer.node ≡ o → o ≡ None
    go None i = refl
    go (Some r) i = absurd (grind (arith, seen_off, i))

pub active_standing : (v : Phase) → is_active v ≡ true → is_standing v ≡ true
active_standing v h = rw h refl

-- the branch that a Begin adds, and those that were there

abbrev begun_row : Who → Digest → Arc → Row
begun_row who d a = record { branch = fresh_branch (next_child who d a); live = true; ends = false }

abbrev begun_rows : Who → Digest → Current → Arc → Transaction
begun_rows who d c a = let t : Transaction = seen who d.arcs c in record t { rows = t.rows ++ begun_row who d a ∷ [] }

pub row_begun : (m : Branch → Bool) (who : Who) (q : ℕ) (d : Digest) (c : Current) (a : Arc) → d.current ≡ Some c → may_begin_on who d a ≡ true → (t : Aaid) (p : ℕ) (b : BranchId) → UnmarkedRow m t p b d.current
    → UnmarkedRow m t p b (begun_over who q d c a).next.current
row_begun m who q d c a now may t p b k =
    let same : k.current ≡ c = some_same k.current c (sym k.at ∙ now) in
    row_remains m t p b (begun_rows who d c a) (ap (λ (y : Current). is_aaid t (aaid_of y.key)) (sym same) ∙ k.tree)
    (row_more m p b (seen who d.arcs c) (begun_row who d a) (row_seen m who d.arcs t p b c (subst (λ (o : Option Current). UnmarkedRow m t p b o) now k)))

-- the word that goes out is this Begin
pub row_begins : (m : Branch → Bool) → ((x : Child) → m (fresh_branch x) ≡ false) → (who : Who) (q : ℕ) (d : Digest) (c : Current) (a : Arc) → d.current ≡ Some c → find_arc d.arcs q ≡ Some a → may_begin_on who d a ≡ true
    → (t : Aaid) (p : ℕ) (b : BranchId) → BeginsTo t p b (begun_over who q d c a).outs → UnmarkedRow m t p b (begun_over who q d c a).next.current
row_begins m fresh who q d c a now found may t p b h =
    let w = carried_is (begin_arcs q d a) q word h.0 (PeerRecord.OnAssoc h.1 h.2 h.3 (DialogueRecord.Begin t b h.4)) (one_sent (begin_arcs q d a) q word h.0 (PeerRecord.OnAssoc h.1 h.2 h.3 (DialogueRecord.Begin t b h.4)) h.6) in
    let tree : t ≡ aaid_of c.key = begin_tree h.1 w.1 h.2 w.2 h.3 w.3 t (aaid_of c.key) b id h.4 (named_holder a.dialogue) w.4 in
    let same : id ≡ b = begin_id h.1 w.1 h.2 w.2 h.3 w.3 t (aaid_of c.key) b id h.4 (named_holder a.dialogue) w.4 in
    let here : q ≡ p = sym w.0 ∙ h.5 in
    let free = no_row who d a c now may in
    let st : UnmarkedAt m a.peer.node id u = row_new m (seen who d.arcs c) (begun_row who d a) a.peer.node free.1 refl refl (fresh (next_child who d a)) (active_standing c.phase free.0) in
    row_remains m t p b u (ap (λ (y : Aaid). is_aaid y (aaid_of c.key)) tree ∙ aaid_same (aaid_of c.key))
    (subst (λ (n : ℕ). UnmarkedAt m n b u) (find_arc_is d.arcs q a found ∙ here) (subst (λ (v : BranchId). UnmarkedAt m a.peer.node v u) same st))
  where
    id : BranchId
    id = (next_child who d a).branch

    word : DialogueRecord
    word = begin_word who d c a

    u : Transaction
    u = begun_rows who d c a

owing_begins : (who : Who) (e : Event) (fall : Bool) (s d : Digest) (q : ℕ) → IsOwingMove who e fall s d (begin_on who q d)
owing_begins who e fall s d q = begin_cases (IsOwingMove who e fall s d) who q d still on
  where
    still : IsOwingMove who e fall s d (move [] d)
    still = owing_still who e fall s d

    on : (c : Current) (a : Arc) → d.current ≡ Some c → find_arc d.arcs q ≡ Some a → may_begin_on who d a ≡ true → IsOwingMove who e fall s d (begun_over who q d c a)
    on c a now found may = record {
      says = λ z r h. word_of e s d (begun_over who q d c a) z r (λ k. absurd (sent_performed (begin_arcs q d a) (TxOut.Carry q (begin_word who d c a) ∷ []) z r k h));
      rolls = λ u h. inl h;
      backs = λ u h. absurd (cc (h));
      stays = λ t p b sound o. elim o [ inr j ↦ inl (inr j) | inl j ↦ inl (inl (row_begun is_done_branch who q d c a now may t p b j)) ];
      begins = λ t p b sound h. inl (inl (row_begins is_done_branch (λ x. refl) who q d c a now found may t p b h));
    }

-- ---- chains

word_after : (e : Event) (s d : Digest) (a : Move) (f : Digest → Move) (z : Addr) (r : PeerRecord) → (a.rec ≡ None) ⊎ ((f a.next).rec ≡ None) → IsNodeWord e s d a z r → IsNodeWord e s d (followed a f) z r
word_after e s d a f z (PeerRecord.RecReady u c) quiet h = h
word_after e s d a f z (PeerRecord.RecReply u c RecState.Unknown) quiet h = h
word_after e s d a f z (PeerRecord.RecReply u c (RecState.Done x)) quiet h = λ g old new. h g old (λ v i. first_commits a.rec (f a.next).rec g new quiet v i)
word_after e s d a f z _ quiet h = tt

word_second : (e : Event) (s d : Digest) (a : Move) (f : Digest → Move) (z : Addr) (r : PeerRecord) → IsOwnMove d a → (a.rec ≡ None) ⊎ ((f a.next).rec ≡ None) → IsNodeWord e s a.next (f a.next) z r → IsNodeWord e s d (followed a f) z r
word_second e s d a f z (PeerRecord.RecReady u c) own quiet h = h
word_second e s d a f z (PeerRecord.RecReply u c RecState.Unknown) own quiet h = h
word_second e s d a f z (PeerRecord.RecReply u c (RecState.Done x)) own quiet h = λ g old new.
    h g (own g old (λ v i. first_commits a.rec (f a.next).rec g new quiet v i)).1 (λ v i. second_commits a.rec (f a.next).rec g new v i)
word_second e s d a f z _ own quiet h = tt

pub begins_split : (t : Aaid) (p : ℕ) (b : BranchId) (xs ys : List Out) → BeginsTo t p b (xs ++ ys) → BeginsTo t p b xs ⊎ BeginsTo t p b ys
begins_split t p b xs ys h = elim (sent_split xs ys h.0 (PeerRecord.OnAssoc h.1 h.2 h.3 (DialogueRecord.Begin t b h.4)) h.6) [
  | inl i ↦ inl (h.0, h.1, h.2, h.3, h.4, h.5, i)
  | inr i ↦ inr (h.0, h.1, h.2, h.3, h.4, h.5, i)
]

backs_after : (u : Aaid) (p q : Option LogRec) → backs_tree u (elim q as (λ _. Option LogRec) [ None ↦ p | Some r ↦ Some r ]) ≡ true → (backs_tree u p ≡ true) ⊎ (backs_tree u q ≡ true)
backs_after u p None h = inl h
backs_after u p (Some r) h = inr h

owing_then : (who : Who) (e : Event) (fall : Bool) (s d : Digest) (a : Move) (f : Digest → Move) → IsSoundMove who d a → IsOwnMove d a → (a.rec ≡ None) ⊎ ((f a.next).rec ≡ None) → IsOwingMove who e fall s d a → IsOwingMove who e fall s a.next (f a.next)
    → IsOwingMove who e fall s d (followed a f)
owing_then who e fall s d a f sound own quiet one two = record {
  says = λ z r h. elim (sent_split a.outs (f a.next).outs z r h) [
    | inl i ↦ word_after e s d a f z r quiet (one.says z r i)
    | inr i ↦ word_second e s d a f z r own quiet (two.says z r i)
  ];
  rolls = λ u h. elim (two.rolls u h) [ inl i ↦ one.rolls u i | inr i ↦ inr i ];
  backs = λ u h. elim (backs_after u a.rec (f a.next).rec h) [
    | inl i ↦ one.backs u i
    | inr i ↦ elim (two.backs u i) [ inl k ↦ one.rolls u k | inr k ↦ inr k ]
  ];
  stays = λ t p b is o. on t p b is (one.stays t p b is o);
  begins = λ t p b is h. elim (begins_split t p b a.outs (f a.next).outs h) [
    | inl i ↦ on t p b is (one.begins t p b is i)
    | inr i ↦ two.begins t p b (sound is).0 i
  ];
}
  where
    on : (t : Aaid) (p : ℕ) (b : BranchId) → IsSound who d → OwesOr who e fall s t p b a.next → OwesOr who e fall s t p b (f a.next).next
    on t p b is (inl o) = two.stays t p b (sound is).0 o
    on t p b is (inr q) = inr q

-- ---- the steps

abbrev IsOwing : Who → Event → Bool → Digest → Digest → Move → Type 0
IsOwing who e fall s d m = IsSoundMove who d m × IsOwnMove d m × IsOwingMove who e fall s d m

rooted_word : (who : Who) (e : Event) (s d g : Digest) (m : Move) (z : Addr) (r : PeerRecord) → ((v : Aaid) → is_committed_in v g ≡ true → is_committed_in v d ≡ true) → IsNodeWord e s g m z r → IsNodeWord e s d m z r
rooted_word who e s d g m z (PeerRecord.RecReady u c) less h = h
rooted_word who e s d g m z (PeerRecord.RecReply u c RecState.Unknown) less h = h
rooted_word who e s d g m z (PeerRecord.RecReply u c (RecState.Done x)) less h = λ k old new. h k (λ v i. old v (less v i)) new
rooted_word who e s d g m z _ less h = tt

rooted : (who : Who) (d : Digest) (u : Aaid) → is_committed_in u (record (with_mark_drawn d) { current = Some (fresh_current (Root (record { owner = who.site; mark = next_mark who d }))) }) ≡ true → is_committed_in u d ≡ true
rooted who d u h = kept_only (grind (arith, h))
  where
    kept_only : keeps_commit u d.kept ≡ true → is_committed_in u d ≡ true
    kept_only i = rw i (grind arith)

nil_row : (t : Aaid) (p : ℕ) (b : BranchId) (d : Digest) → is_nil (phase_of d) ≡ true → RowOwes t p b d.current → ⊥
nil_row t p b d nil k =
    let on : is_nil k.current.phase ≡ true = rw (k.at, phase_of) at nil in
    cc (late_standing k.current.phase k.phase, on)

owing_moves : (who : Who) (e : Event) (fall : Bool) (s : Digest) → ((c : Current) (f : TxEvent) (arcs : List Arc) → s.current ≡ Some c → IsAsked e c f → falls f (seen who arcs c) ≡ true → fall ≡ true) → Moves who e s (IsOwing who e fall s)
owing_moves who e fall s so = record {
  still = λ d. (sound.still d, own.still d, owing_still who e fall s d);
  chain = λ d a f one two quiet. (sound.chain d a f one.0 two.0 quiet, own.chain d a f one.1 two.1 quiet, owing_then who e fall s d a f one.0 one.1 quiet one.2 two.2);
  speaks = λ d outs h said told. (sound.speaks d outs h said told, own.speaks d outs h said told, owing_perform who e fall s d outs h said.1);
  changes_dialogue = λ d q f m by one. (one.0, one.1, record { says = one.2.says; rolls = one.2.rolls; backs = one.2.backs; stays = one.2.stays; begins = one.2.begins });
  drops_arc = λ d q m at one. (one.0, one.1, record { says = one.2.says; rolls = one.2.rolls; backs = one.2.backs; stays = one.2.stays; begins = one.2.begins });
  notes_kept = λ d ks m held one. (sound.notes_kept d ks m held one.0, own.notes_kept d ks m held one.1, noted d ks m held one.2);
  keeps = λ d k f held. (sound.keeps d k f held, own.keeps d k f held, owing_keep who e fall s d k f held.3 held.4);
  turns = λ d c f now at asked put gone. (sound.turns d c f now at asked put gone, own.turns d c f now at asked put gone, owing_turned who e fall s f d c (so c f d.arcs at asked) now at asked put);
  begins = λ d q may. (sound.begins d q may, own.begins d q may, owing_begins who e fall s d q);
  roots = λ d m nil may one. (sound.roots d m nil may one.0, own.roots d m nil may one.1, root d m nil one.2);
}
  where
    sound : Moves who e s (IsSoundMove who)
    sound = sound_moves who e s

    own : Moves who e s IsOwnMove
    own = own_moves who e s

    noted : (d : Digest) (ks : List Kept) (m : Move) → ((u : Aaid) → keeps_commit u ks ≡ true → keeps_commit u d.kept ≡ true) × (not_forgotten ks ≡ not_forgotten d.kept) → IsOwingMove who e fall s (record d { kept = ks }) m → IsOwingMove who e fall s d m
    noted d ks m held one = record {
      says = λ z r h. rooted_word who e s d (record d { kept = ks }) m z r (λ v i. less v (or_case (is_now v d.current && is_committing (phase_of d)) (keeps_commit v ks) i)) (one.says z r h);
      rolls = λ u h. elim (one.rolls u h) [ inl i ↦ inl (sym (rollback_noted u d.kept) ∙ ap (keeps_rollback u) (sym held.1) ∙ rollback_noted u ks ∙ i) | inr i ↦ inr i ];
      backs = λ u h. elim (one.backs u h) [ inl i ↦ inl (sym (rollback_noted u d.kept) ∙ ap (keeps_rollback u) (sym held.1) ∙ rollback_noted u ks ∙ i) | inr i ↦ inr i ];
      stays = λ t p b is o. one.stays t p b (sound_noted who d ks held.1 is) (elim o [ inl i ↦ inl i | inr i ↦ inr (kept_unnoted (OwesIn p b) (λ x h. h) t ks (subst (λ (l : List Kept). KeptOwes t p b l) (sym held.1) (kept_noted (OwesIn p b) (λ x h. h) t d.kept i))) ]);
      begins = λ t p b is h. one.begins t p b (sound_noted who d ks held.1 is) h;
    }
      where
        less : (v : Aaid) → ((is_now v d.current && is_committing (phase_of d)) ≡ true) ⊎ (keeps_commit v ks ≡ true) → is_committed_in v d ≡ true
        less v (inl i) = rw i refl
        less v (inr i) = let k = held.0 v i in rw k (grind arith)

    root : (d : Digest) (m : Move) → is_nil (phase_of d) ≡ true → IsOwingMove who e fall s (record (with_mark_drawn d) { current = Some (fresh_current (Root (record { owner = who.site; mark = next_mark who d }))) }) m → IsOwingMove who e fall s d m
    root d m nil one = record {
      says = λ z r h. rooted_word who e s d (record (with_mark_drawn d) { current = Some (fresh_current (Root (record { owner = who.site; mark = next_mark who d }))) }) m z r (rooted who d) (one.says z r h);
      rolls = one.rolls;
      backs = one.backs;
      stays = λ t p b is o. elim o [ inl i ↦ absurd (nil_row t p b d nil i) | inr i ↦ one.stays t p b (sound_root who d is) (inr i) ];
      begins = λ t p b is h. one.begins t p b (sound_root who d is) h;
    }

-- an event of a node
pub owing_event : (who : Who) (d : Digest) (e : Event) → IsLate d → refusal who d e ≡ None → IsOwingMove who e (rolls who d e) (prelude who d e) (prelude who d e) (action who d e)
owing_event who d e late ok =
    (every_move who d e (IsOwing who e (rolls who d e) (prelude who d e)) (owing_moves who e (rolls who d e) (prelude who d e) (λ c f arcs at asked h. rolls_so who d e ok c f arcs at asked h)) late ok).2
