-- In every legal history a kept transaction of which a Forget is noted still owes a branch.
use Rattle.std.proofs.Common.{if◌then◌else◌, ◌≡◌, ◌⊎◌, inl, inr, Bool, true, false, refl, ap, sym, subst, ◌∙◌, arith, Option, Some, None, List, [], ◌∷◌, ◌&&◌, not}
use Rattle.tp_names.specs.declared.identifiers.Addr.{Addr}
use Rattle.tp_names.specs.declared.identifiers.BranchId.{BranchId}
use Rattle.tp_names.specs.declared.identifiers.NodeKey.{NodeKey}
use Rattle.tp_names.specs.declared.children.Child.{Child}
use Rattle.tp_names.specs.Same.{is_key}
use Rattle.tp_names.specs.Reports.{join}
use Rattle.tp_names.proofs.Sames.{key_same}
use Rattle.tp_records.specs.declared.dialogue.DialogueRecord.{DialogueRecord}
use Rattle.tp_records.specs.declared.peer.PeerRecord.{PeerRecord}
use Rattle.tp_logrec.specs.declared.record.LogRec.{LogRec}
use Rattle.tp_model.specs.declared.transaction.TxEvent.{TxEvent}
use Rattle.tp_model.specs.declared.recovery.Kept.{Kept}
use Rattle.tp_model.specs.declared.recovery.KeptEvent.{KeptEvent}
use Rattle.tp_model.specs.Parts.{Who, Origin, Event, Entry, Arc, Current, Digest}
use Rattle.tp_model.specs.Arcs.{find_arc}
use Rattle.tp_model.specs.Transactions.{Transaction, node_key, transacted}
use Rattle.tp_model.specs.Recovery.{is_commit, find_owed, without_owed, is_nothing_owed, find_kept, put_kept, without_kept, with_forget, noted, settled, kept_by, kept_after, not_forgotten}
use Rattle.tp_model.specs.Node.{Move, move, keep, seen, turned}
use Rattle.tp_model.specs.Arrivals.{branch_key, take_forget}
use Rattle.tp_model.specs.Events.{refusal, action, after_crash}
use Rattle.tp_model.specs.History.{digest}
use Rattle.tp_model.specs.Legal.{IsGrown}
use Rattle.tp_steps.specs.Moves.{IsLate, IsPut, IsSettling, Moves, prelude, begun_in, counted_in}
use Rattle.tp_steps.specs.Passages.{IsLogged}
use Rattle.tp_steps.specs.Standing.{AreApart}
use Rattle.tp_steps.specs.Steps.{Steps, IsNotedBy}
use Rattle.tp_steps.proofs.every.EveryEvent.{step_move}
use Rattle.tp_steps.proofs.log.Passed.{passed_turn}
use Rattle.tp_steps.proofs.lemmas.Options.{some_same}
use Rattle.tp_histories.proofs.trees.Late.{late_law}
use Rattle.tp_model.specs.declared.arc.Phase.{Phase}
use Rattle.tp_model.specs.Dialogues.{is_rolling}
use Rattle.tp_names.specs.declared.outcome.Report.{Report}
use Rattle.tp_steps.proofs.log.SoundMoves.{IsSound, IsSoundMove, sound_moves, sound_root}
use Rattle.tp_histories.proofs.log.SoundLog.{sound_first}
use Rattle.tp_agreement.specs.Owing.{is_standing}
use Rattle.tp_agreement.proofs.OwingTurns.{owing_turn}
use Rattle.tp_agreement.proofs.OwingLaw.{kept_none, sound_at}
use Rattle.tp_finishing.proofs.Keeping.{found_key}
use Rattle.tp_runs.proofs.KnownForgot.{begun_kept}

-- of one that is kept: a Forget is noted only where a branch is owed
abbrev pub is_noted_so : Kept → Bool
is_noted_so k = not (k.forgot && is_nothing_owed k.owed)

abbrev pub AreNotedSo : List Kept → Type 0
AreNotedSo [] = Unit {0}
AreNotedSo (k ∷ ks) = (is_noted_so k ≡ true) × AreNotedSo ks

so_without : (ks : List Kept) (j : NodeKey) → AreNotedSo ks → AreNotedSo (without_kept ks j)
so_without [] j h = tt
so_without (x ∷ ks) j h = go (is_key x.key j) (so_without ks j h.1)
  where
    go : (b : Bool) → AreNotedSo (without_kept ks j) → AreNotedSo (if b then ks else x ∷ without_kept ks j)
    go true rest = h.1
    go false rest = (h.0, rest)

-- where the transaction that it replaces was noted, it owes a branch
so_put : (ks : List Kept) (k : Kept) → ((x : Kept) → find_kept ks k.key ≡ Some x → (x.forgot && is_nothing_owed k.owed) ≡ false) → k.forgot ≡ false → AreNotedSo ks → AreNotedSo (put_kept ks k)
so_put [] k replaces new h = (rw (new) refl, tt)
so_put (x ∷ ks) k replaces new h = go (is_key x.key k.key) refl (λ f. so_put ks k f new h.1)
  where
    go : (b : Bool) → is_key x.key k.key ≡ b → (((y : Kept) → find_kept ks k.key ≡ Some y → (y.forgot && is_nothing_owed k.owed) ≡ false) → AreNotedSo (put_kept ks k)) → AreNotedSo (if b then record k { forgot = x.forgot } ∷ ks else x ∷ put_kept ks k)
    go true i rest = (ap not (replaces x (rw (i, find_kept) refl)), h.1)
    go false i rest = (h.0, rest (λ y f. replaces y (rw (i, find_kept) f)))

so_noted : (ks : List Kept) → AreNotedSo (not_forgotten ks)
so_noted [] = tt
so_noted (k ∷ ks) = (refl, so_noted ks)

-- ---- what an event makes of what is kept

apart_found : (j : NodeKey) (ks : List Kept) (x : Kept) → AreApart j ks → find_kept ks j ≡ Some x → ⊥
apart_found j [] x h i = cc (i)
apart_found j (y ∷ ks) x h i = go (is_key y.key j) refl i (apart_found j ks x h.1)
  where
    go : (b : Bool) → is_key y.key j ≡ b → (if b then Some y else find_kept ks j) ≡ Some x → (find_kept ks j ≡ Some x → ⊥) → ⊥
    go true k m rest = h.0 (key_same y.key j k)
    go false k m rest = rest m

so_done : (k : Kept) (ks : List Kept) (a : Addr) (b : BranchId) (r : Report) → find_kept ks k.key ≡ Some k → AreNotedSo ks → AreNotedSo (kept_after (settled k (KeptEvent.Done a b r)).rec ks)
unfolding settled kept_by
so_done k ks a b r there h = go (find_owed k.owed b) (is_nothing_owed (without_owed k.owed b) && k.forgot) refl
  where
    swap : (m n : Bool) → (m && n) ≡ false → (n && m) ≡ false
    swap m n i = grind (arith, i)

    go : (o : Option Child) (v : Bool) → (is_nothing_owed (without_owed k.owed b) && k.forgot) ≡ v
        → AreNotedSo (kept_after (elim o as (λ _. Option LogRec) [ None ↦ None | Some c ↦ Some (if v then LogRec.End k.node k.key k.side else LogRec.Damage k.node k.key k.superior k.side (join k.report r) (without_owed k.owed b)) ]) ks)
    go None v i = h
    go (Some c) true i = so_without ks k.key h
    go (Some c) false i =
        so_put ks (record { node = k.node; key = k.key; superior = k.superior; side = k.side; report = join k.report r; owed = without_owed k.owed b; forgot = false })
        (λ x f. ap (λ (y : Kept). y.forgot && is_nothing_owed (without_owed k.owed b)) (sym (some_same k x (sym there ∙ f))) ∙ swap (is_nothing_owed (without_owed k.owed b)) k.forgot i) refl h

so_settled : (e : Event) (s d : Digest) (k : Kept) (f : KeptEvent) → IsSettling e s d k f → AreNotedSo d.kept → AreNotedSo (kept_after (settled k f).rec d.kept)
unfolding settled kept_by
so_settled e s d k (KeptEvent.Done a b r) is h = so_done k d.kept a b r is.5 h
so_settled e s d k KeptEvent.Forget is h = go (is_commit k.side && is_nothing_owed k.owed)
  where
    go : (v : Bool) → AreNotedSo (kept_after (if v then Some (LogRec.End k.node k.key k.side) else None) d.kept)
    go true = so_without d.kept k.key h
    go false = h
so_settled e s d k KeptEvent.Purge is h = so_without d.kept k.key h

so_logged : (t u : Transaction) (r : Option LogRec) (ks : List Kept) → IsLogged t r u → AreApart (node_key t.key) ks → AreNotedSo ks → AreNotedSo (kept_after r ks)
unfolding kept_by
so_logged t u (Some (LogRec.Damage n k s o p cs)) ks logs apart h =
    so_put ks (record { node = n; key = k; superior = s; side = o; report = p; owed = cs; forgot = false }) (λ x f. absurd (apart_found (node_key t.key) ks x apart (ap (find_kept ks) (sym logs.0) ∙ f))) refl h
so_logged t u (Some (LogRec.End n k o)) ks logs apart h = so_without ks k h
so_logged t u (Some (LogRec.Boot n)) ks logs apart h = h
so_logged t u (Some (LogRec.Ready n k s cs)) ks logs apart h = h
so_logged t u (Some (LogRec.Heuristic n k o)) ks logs apart h = h
so_logged t u (Some (LogRec.Commit n k s cs)) ks logs apart h = h
so_logged t u None ks logs apart h = h

so_turned : (who : Who) (f : TxEvent) (d : Digest) (c : Current) → d.current ≡ Some c → IsPut f (seen who d.arcs c) → IsSound who d → AreNotedSo d.kept → AreNotedSo (turned who f d c).next.kept
so_turned who f d c now put sound h = go (owing_turn f t put).logs
  where
    t : Transaction
    t = seen who d.arcs c

    calm : (p : Phase) → is_standing p ≡ true → is_rolling p ≡ false
    calm p i = grind (arith, i)

    go : ((transacted f t).rec ≡ None) ⊎ (is_standing t.phase ≡ true) → AreNotedSo (kept_after (transacted f t).rec d.kept)
    go (inl none) = subst (λ (r : Option LogRec). AreNotedSo (kept_after r d.kept)) (sym none) h
    go (inr standing) = so_logged t (transacted f t).next (transacted f t).rec d.kept (passed_turn f t put).logs (sound.0 c now (calm c.phase standing)) h

abbrev IsNotedMove : Who → Digest → Move → Type 0
IsNotedMove who d m = IsSoundMove who d m × (IsSound who d → AreNotedSo d.kept → AreNotedSo m.next.kept)

-- where the event notes nothing
noted_steps : (who : Who) (e : Event) (s : Digest) → ((d : Digest) (ks : List Kept) → IsNotedBy e d ks → ⊥) → Steps who e s (IsNotedMove who)
noted_steps who e s off = record {
  still = λ d. (sm.still d, λ sound h. h);
  chain = λ d a f one two quiet. (sm.chain d a f one.0 two.0 quiet, λ sound h. two.1 (one.0 sound).0 (one.1 sound h));
  speaks = λ d outs h own said last. (sm.speaks d outs h own said, λ sound k. k);
  changes_dialogue = λ d p f m by one. (sm.changes_dialogue d p f m by one.0, λ sound h. one.1 sound h);
  drops_arc = λ d p m at one. (sm.drops_arc d p m at one.0, λ sound h. one.1 sound h);
  notes_kept = λ d ks m held noted one. absurd (off d ks noted);
  keeps = λ d k f held. (sm.keeps d k f held, λ sound h. so_settled e s d k f held.4 h);
  turns = λ d c f now at asked put gone like alike. (sm.turns d c f now at asked put gone, λ sound h. so_turned who f d c now put sound h);
  begins = λ d p may. (sm.begins d p may, λ sound h. subst AreNotedSo (sym (begun_kept who p d)) h);
  roots = λ d m nil may says one. (sm.roots d m nil may one.0, λ sound h. one.1 (sound_root who d sound) h);
}
  where
    sm : Moves who e s (IsSoundMove who)
    sm = sound_moves who e s

-- ---- a Forget

gone_noted : (ks : List Kept) (j : NodeKey) → AreNotedSo ks → AreNotedSo (without_kept (with_forget ks j (λ y. noted y KeptEvent.Forget)) j)
gone_noted [] j h = tt
gone_noted (x ∷ ks) j h = go (is_key x.key j) refl (gone_noted ks j h.1)
  where
    key : (b : Bool) → (if b then record x { forgot = true } else x).key ≡ x.key
    key true = refl
    key false = refl

    go : (b : Bool) → is_key x.key j ≡ b → AreNotedSo (without_kept (with_forget ks j (λ y. noted y KeptEvent.Forget)) j)
        → AreNotedSo (without_kept (if b then noted x KeptEvent.Forget ∷ ks else x ∷ with_forget ks j (λ y. noted y KeptEvent.Forget)) j)
    go true i rest = let same : is_key (noted x KeptEvent.Forget).key j ≡ true = ap (λ (k : NodeKey). is_key k j) (key (is_commit x.side)) ∙ i in rw (same, without_kept) h.1
    go false i rest = rw (i, without_kept) (h.0, rest)

stays_noted : (ks : List Kept) (j : NodeKey) → ((x : Kept) → find_kept ks j ≡ Some x → (is_commit x.side && is_nothing_owed x.owed) ≡ false) → AreNotedSo ks → AreNotedSo (with_forget ks j (λ y. noted y KeptEvent.Forget))
stays_noted [] j free h = tt
stays_noted (x ∷ ks) j free h = go (is_key x.key j) refl (λ f. stays_noted ks j f h.1)
  where
    here : (b : Bool) → is_commit x.side ≡ b → (b && is_nothing_owed x.owed) ≡ false → is_noted_so (if b then record x { forgot = true } else x) ≡ true
    here true i k = ap not k
    here false i k = h.0

    go : (b : Bool) → is_key x.key j ≡ b → (((y : Kept) → find_kept ks j ≡ Some y → (is_commit y.side && is_nothing_owed y.owed) ≡ false) → AreNotedSo (with_forget ks j (λ y. noted y KeptEvent.Forget)))
        → AreNotedSo (if b then noted x KeptEvent.Forget ∷ ks else x ∷ with_forget ks j (λ y. noted y KeptEvent.Forget))
    go true i rest = (here (is_commit x.side) refl (free x (rw (i, find_kept) refl)), h.1)
    go false i rest = (h.0, rest (λ y f. free y (rw (i, find_kept) f)))

so_forgets : (d : Digest) (j : NodeKey) → AreNotedSo d.kept → AreNotedSo (take_forget j d).next.kept
unfolding settled kept_by
so_forgets d j h = go (find_kept d.kept j) refl
  where
    go : (o : Option Kept) → find_kept d.kept j ≡ o → AreNotedSo (elim o as (λ _. Move) [ None ↦ move [] d | Some x ↦ keep (settled x KeptEvent.Forget) (record d { kept = with_forget d.kept j (λ y. noted y KeptEvent.Forget) }) ]).next.kept
    go None i = h
    go (Some x) i = by (is_commit x.side && is_nothing_owed x.owed) refl
      where
        by : (v : Bool) → (is_commit x.side && is_nothing_owed x.owed) ≡ v → AreNotedSo (kept_after (if v then Some (LogRec.End x.node x.key x.side) else None) (with_forget d.kept j (λ y. noted y KeptEvent.Forget)))
        by true k = subst (λ (n : NodeKey). AreNotedSo (without_kept (with_forget d.kept j (λ y. noted y KeptEvent.Forget)) n)) (sym (found_key d.kept j x i)) (gone_noted d.kept j h)
        by false k = stays_noted d.kept j (λ y f. ap (λ (z : Kept). is_commit z.side && is_nothing_owed z.owed) (some_same y x (sym f ∙ i)) ∙ k) h

-- ---- every legal history

-- an event by which nothing is noted, and before which what is kept is as it was
abbrev IsCalm : Event → Type 0
IsCalm e = ((d : Digest) (ks : List Kept) → IsNotedBy e d ks → ⊥) × ((who : Who) (d : Digest) → (prelude who d e).kept ≡ d.kept)

calm_law : (who : Who) (d : Digest) (e : Event) → IsCalm e → IsLate d → IsSound who d → refusal who d e ≡ None → AreNotedSo d.kept → AreNotedSo (action who d e).next.kept
calm_law who d e calm late sound ok h = (step_move who d e (IsNotedMove who) (noted_steps who e (prelude who d e) calm.0) late ok).1 (sound_first who d e ok sound).0 (subst AreNotedSo (sym (calm.1 who d)) h)

noted_event : (who : Who) (d : Digest) (e : Event) → IsLate d → IsSound who d → refusal who d e ≡ None → AreNotedSo d.kept → AreNotedSo (action who d e).next.kept
unfolding after_crash
noted_event who d (Event.Do r) late sound ok h = calm_law who d (Event.Do r) ((λ d ks n. n), λ who d. grind arith) late sound ok h
noted_event who d (Event.Arrive from (PeerRecord.Forget t b)) late sound ok h = so_forgets d (branch_key t b) h
noted_event who d (Event.Arrive from (PeerRecord.OnAssoc x y q (DialogueRecord.Begin t b k))) late sound ok h = calm_law who d (Event.Arrive from (PeerRecord.OnAssoc x y q (DialogueRecord.Begin t b k))) ((λ d ks n. n), λ who d. go d (find_arc d.arcs from.node)) late sound ok h
  where
    go : (d : Digest) (o : Option Arc) → (begun_in o t b (counted_in d from)).kept ≡ d.kept
    go d None = refl
    go d (Some a) = refl
noted_event who d (Event.Arrive from r) late sound ok h = calm_law who d (Event.Arrive from r) ((λ d ks n. n), λ who d. grind arith) late sound ok h
noted_event who d Event.Crash late sound ok h = so_noted d.kept
noted_event who d e late sound ok h = calm_law who d e ((λ d ks n. n), λ who d. refl) late sound ok h

pub noted_law : (o : Origin) (up : Option Addr) (h : List Entry) → o.start.records ≡ [] → IsGrown o up h → AreNotedSo (digest o h).kept
noted_law o up [] empty legal = subst AreNotedSo (sym (kept_none o empty)) tt
noted_law o up (e ∷ h) empty legal = noted_event o.who (digest o h) e.event (late_law o up h legal.3) (sound_at o up h empty legal.3) legal.0 (noted_law o up h empty legal.3)
