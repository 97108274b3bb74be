-- The current transaction by the records of the history: an instance of the steps of a node.
use Rattle.std.proofs.Common.{◌≡◌, ◌⊎◌, inl, inr, ℕ, true, false, refl, ap, sym, subst, ◌∙◌, arith, Option, Some, None, List, [], ◌∷◌}
use Rattle.tp_names.specs.declared.identifiers.NodeKey.{NodeKey}
use Rattle.tp_records.specs.declared.dialogue.DialogueRecord.{DialogueRecord}
use Rattle.tp_logrec.specs.declared.record.LogRec.{LogRec}
use Rattle.tp_model.specs.declared.arc.Phase.{Phase}
use Rattle.tp_model.specs.declared.arc.Side.{Side}
use Rattle.tp_model.specs.declared.transaction.TxEvent.{TxEvent}
use Rattle.tp_model.specs.declared.transaction.TxOut.{TxOut}
use Rattle.tp_model.specs.declared.recovery.Kept.{Kept}
use Rattle.tp_model.specs.declared.recovery.KeptEvent.{KeptEvent}
use Rattle.tp_model.specs.Parts.{Who, Event, Arc, Key, Root, Current, Digest}
use Rattle.tp_model.specs.Dialogues.{is_nil, is_active, is_rolling, begun_by, named_holder}
use Rattle.tp_model.specs.Arcs.{find_arc, with_dialogue}
use Rattle.tp_model.specs.Transactions.{Transaction, Turn, aaid_of, node_key, transacted}
use Rattle.tp_model.specs.Recovery.{settled, kept_after, not_forgotten}
use Rattle.tp_model.specs.Node.{Move, followed, perform, next_mark, with_mark_drawn, phase_of, seen, remaining, with_begun, may_begin_on, begin_on, fresh_current, turned, keep}
use Rattle.tp_model.specs.Events.{recovered_current}
use Rattle.tp_steps.specs.Moves.{Moves, IsPut, IsAmong}
use Rattle.tp_steps.specs.Passages.{IsLogged, IsPassed}
use Rattle.tp_steps.specs.Traces.{is_old}
use Rattle.tp_steps.specs.Standing.{current_after, AreApart, IsApart, IsTold}
use Rattle.tp_steps.proofs.links.Marks.{new_mark, Drawn, Same_boot, old_stays, drawn_old}
use Rattle.tp_steps.proofs.log.TurnLog.{told_turn}
use Rattle.tp_steps.proofs.log.Passed.{passed_turn}
use Rattle.tp_steps.proofs.log.CurrentLog.{turned_in_log}
use Rattle.tp_steps.proofs.log.ApartLog.{IsOfKept, settled_of, apart_among, kept_stays}
use Rattle.tp_steps.proofs.log.Sound.{apart_each, IsKeptBy, apart_after, apart_turned, left_is}
use Rattle.tp_steps.proofs.every.BeginCases.{begun_over, begin_cases}
use Rattle.tp_steps.proofs.lemmas.EachKept.{IsEach, each_after, each_noted, each_unnoted}

-- a root's key has a mark that is drawn
abbrev pub IsOldKey : Who → Digest → NodeKey → Type 0
IsOldKey who d k = k.branch ≡ None → is_old who d k.aaid.mark ≡ true

abbrev pub AllKeys : (NodeKey → Type 0) → List Kept → Type 0
AllKeys P [] = Unit {0}
AllKeys P (k ∷ ks) = P k.key × AllKeys P ks

abbrev pub AreOld : Who → Digest → List Kept → Type 0
AreOld who d ks = AllKeys (IsOldKey who d) ks

-- the current transaction is apart from those that are kept; roots are of marks that are drawn; nothing is decided before ready
abbrev pub IsSound : Who → Digest → Type 0
IsSound who d =
    IsApart d × AreOld who d d.kept × ((c : Current) → d.current ≡ Some c → IsOldKey who d (node_key c.key)) × ((c : Current) → d.current ≡ Some c → is_active c.phase ≡ true → c.decision ≡ None)

abbrev pub IsSoundAfter : Who → Digest → Move → Type 0
IsSoundAfter who d m = IsSound who m.next × (current_after m.rec (recovered_current d.current) ≡ recovered_current m.next.current)

abbrev pub IsSoundMove : Who → Digest → Move → Type 0
IsSoundMove who d m = IsSound who d → IsSoundAfter who d m

-- ---- marks

pub old_list : (who : Who) (d e : Digest) (ks : List Kept) → Drawn d e → AreOld who d ks → AreOld who e ks
old_list who d e [] drawn h = tt
old_list who d e (k ∷ ks) drawn h = (λ i. old_stays who d e k.key.aaid.mark drawn (h.0 i), old_list who d e ks drawn h.1)

pub sound_same : (who : Who) (d e : Digest) → Drawn d e → e.current ≡ d.current → e.kept ≡ d.kept → IsSound who d → IsSound who e
sound_same who d e drawn now kept s = (
  λ c is rolls. subst (λ (ks : List Kept). AreApart (node_key c.key) ks) (sym kept) (s.0 c (sym now ∙ is) rolls),
  subst (λ (ks : List Kept). AreOld who e ks) (sym kept) (old_list who d e d.kept drawn s.1),
  λ c is i. old_stays who d e (node_key c.key).aaid.mark drawn (s.2 c (sym now ∙ is) i),
  λ c is act. s.3 c (sym now ∙ is) act,
)

-- a root that starts has a key that is apart from all kept ones
root_apart : (who : Who) (d : Digest) (ks : List Kept) → AreOld who d ks → AreApart (node_key (Root (record { owner = who.site; mark = next_mark who d }))) ks
root_apart who d [] h = tt
root_apart who d (k ∷ ks) h = (differs, root_apart who d ks h.1)
  where
    differs : k.key ≡ node_key (Root (record { owner = who.site; mark = next_mark who d })) → ⊥
    differs e =
        let old : is_old who d k.key.aaid.mark ≡ true = h.0 (ap (λ (j : NodeKey). j.branch) e) in
        let same : k.key.aaid.mark ≡ next_mark who d = ap (λ (j : NodeKey). j.aaid.mark) e in
        let young : is_old who d k.key.aaid.mark ≡ false = ap (is_old who d) same ∙ new_mark who d in
        cc (old, young)

pub sound_root : (who : Who) (d : Digest) → IsSound who d → IsSound who (record (with_mark_drawn d) { current = Some (fresh_current (Root (record { owner = who.site; mark = next_mark who d }))) })
sound_root who d s =
    let k : Key = Root (record { owner = who.site; mark = next_mark who d }) in
    let e : Digest = record (with_mark_drawn d) { current = Some (fresh_current k) } in
    let own : (c : Current) → Some (fresh_current k) ≡ Some c → fresh_current k ≡ c = λ c is. cc (is) in (
      λ c is rolls. subst (λ (x : Current). AreApart (node_key x.key) d.kept) (own c is) (root_apart who d d.kept s.1),
      old_list who d e d.kept (Same_boot refl (omega arith)) s.1,
      λ c is. subst (λ (x : Current). IsOldKey who e (node_key x.key)) (own c is) (λ i. drawn_old who d e refl (omega arith)),
      λ c is act. ap (λ (x : Current). x.decision) (sym (own c is)),
    )

-- ---- what is noted of kept transactions changes no key

pub apart_noted : (k : NodeKey) (ks : List Kept) → AreApart k ks → AreApart k (not_forgotten ks)
apart_noted k ks h = each_noted (λ x. x.key ≡ k → ⊥) (AreApart k) (apart_each k) (λ x i. i) ks h

pub apart_unnoted : (k : NodeKey) (ks : List Kept) → AreApart k (not_forgotten ks) → AreApart k ks
apart_unnoted k ks h = each_unnoted (λ x. x.key ≡ k → ⊥) (AreApart k) (apart_each k) (λ x i. i) ks h

keys_each : (P : NodeKey → Type 0) → IsEach (λ k. P k.key) (AllKeys P)
keys_each P = record { none = tt; both = λ k ks h i. (h, i); first = λ k ks h. h.0; rest = λ k ks h. h.1 }

pub keys_noted : (P : NodeKey → Type 0) (ks : List Kept) → AllKeys P ks → AllKeys P (not_forgotten ks)
keys_noted P ks h = each_noted (λ k. P k.key) (AllKeys P) (keys_each P) (λ k i. i) ks h

pub keys_unnoted : (P : NodeKey → Type 0) (ks : List Kept) → AllKeys P (not_forgotten ks) → AllKeys P ks
keys_unnoted P ks h = each_unnoted (λ k. P k.key) (AllKeys P) (keys_each P) (λ k i. i) ks h

pub sound_noted : (who : Who) (d : Digest) (ks : List Kept) → not_forgotten ks ≡ not_forgotten d.kept → IsSound who d → IsSound who (record d { kept = ks })
sound_noted who d ks held is = (
  λ c now rolls. apart_unnoted (node_key c.key) ks (subst (λ (xs : List Kept). AreApart (node_key c.key) xs) (sym held) (apart_noted (node_key c.key) d.kept (is.0 c now rolls))),
  keys_unnoted (IsOldKey who d) ks (subst (λ (xs : List Kept). AreOld who d xs) (sym held) (keys_noted (IsOldKey who d) d.kept is.1)),
  is.2,
  is.3,
)

-- ---- records

-- a record that keeps a transaction keeps one of such a key
abbrev pub KeepsKeys : (NodeKey → Type 0) → Option LogRec → Type 0
KeepsKeys P (Some (LogRec.Damage n j s o r cs)) = P j
KeepsKeys P _ = Unit {0}

pub keys_after : (P : NodeKey → Type 0) (r : Option LogRec) (ks : List Kept) → AllKeys P ks → KeepsKeys P r → AllKeys P (kept_after r ks)
keys_after P r ks h i = each_after (λ k. P k.key) (AllKeys P) (keys_each P) r ks h (λ n k s o p cs b is. subst (KeepsKeys P) is i)

pub logged_keys : (P : NodeKey → Type 0) (t u : Transaction) (r : Option LogRec) → IsLogged t r u → P (node_key t.key) → KeepsKeys P r
logged_keys P t u (Some (LogRec.Damage n j s o r cs)) h i = subst (λ (k : NodeKey). P k) (sym h.0) i
logged_keys P t u _ h i = tt

pub kept_keys : (P : NodeKey → Type 0) (k : NodeKey) (r : Option LogRec) → IsOfKept k r → P k → KeepsKeys P r
kept_keys P k (Some (LogRec.Damage n j s o r cs)) h i = subst (λ (x : NodeKey). P x) (sym h) i
kept_keys P k _ h i = tt

pub keys_among : (P : NodeKey → Type 0) (ks : List Kept) (k : Kept) → AllKeys P ks → IsAmong ks k → P k.key
keys_among P [] k h i = absurd i
keys_among P (x ∷ xs) k h (inl i) = subst (λ (j : NodeKey). P j) i.1 h.0
keys_among P (x ∷ xs) k h (inr i) = keys_among P xs k h.1 i

same_kept : (a b : NodeKey) (r : Option LogRec) → IsOfKept a r → IsKeptBy b r → a ≡ b
same_kept a b (Some (LogRec.Damage n j s o r cs)) h i = sym h ∙ i
same_kept a b _ h i = absurd i

-- ---- the steps

sound_keeps : (who : Who) (d : Digest) (k : Kept) (f : KeptEvent) → IsAmong d.kept k → IsSoundMove who d (keep (settled k f) d)
sound_keeps who d k f among s =
    let own : IsOfKept k.key (settled k f).rec = settled_of k f in (
      (
        λ c is rolls. apart_after (node_key c.key) (settled k f).rec d.kept (s.0 c is rolls) (λ kept. apart_among (node_key c.key) d.kept k (s.0 c is rolls) among (same_kept k.key (node_key c.key) (settled k f).rec own kept)),
        keys_after (IsOldKey who d) (settled k f).rec d.kept s.1 (kept_keys (IsOldKey who d) k.key (settled k f).rec own (keys_among (IsOldKey who d) d.kept k s.1 among)),
        s.2,
        s.3,
      ),
      kept_stays d k f s.0 among,
    )

sound_turned : (who : Who) (f : TxEvent) (d : Digest) (c : Current) → d.current ≡ Some c → IsPut f (seen who d.arcs c) → IsSoundMove who d (turned who f d c)
sound_turned who f d c now put s =
    let t : Transaction = seen who d.arcs c in
    let a : Turn = transacted f t in
    let passed : IsPassed f t t a = passed_turn f t put in
    let told : IsTold t a = told_turn f t put (s.3 c now) in (
      (
        apart_turned who f d c now put (s.3 c now) s.0,
        keys_after (IsOldKey who d) a.rec d.kept s.1 (logged_keys (IsOldKey who d) t a.next a.rec passed.logs (s.2 c now)),
        λ u is. subst (λ (k : Key). IsOldKey who d (node_key k)) (sym ((left_is a.next u is).0 ∙ passed.key)) (s.2 c now),
        λ u is act. let left = left_is a.next u is in left.2 ∙ told.undecided (ap is_active (sym left.1) ∙ act),
      ),
      turned_in_log who f d c now put (s.3 c now),
    )

-- what is active stands in no log
active_off : (c : Current) → is_active c.phase ≡ true → recovered_current (Some c) ≡ None
active_off c h = go c.phase h
  where
    go : (p : Phase) → is_active p ≡ true → recovered_current (Some (record c { phase = p })) ≡ None
    go Phase.Nil h = refl
    go Phase.Active h = refl
    go Phase.Ready h = absurd (cc (h))
    go Phase.Committing h = absurd (cc (h))
    go Phase.Rolling h = refl

pub nil_off : (d : Digest) → is_nil (phase_of d) ≡ true → recovered_current d.current ≡ None
nil_off d h = go d.current h
  where
    on : (c : Current) (p : Phase) → is_nil p ≡ true → recovered_current (Some (record c { phase = p })) ≡ None
    on c Phase.Nil h = refl
    on c Phase.Active h = absurd (cc (h))
    on c Phase.Ready h = absurd (cc (h))
    on c Phase.Committing h = absurd (cc (h))
    on c Phase.Rolling h = absurd (cc (h))

    go : (o : Option Current) → is_nil (elim o as (λ _. Phase) [ None ↦ Phase.Nil | Some c ↦ c.phase ]) ≡ true → recovered_current o ≡ None
    go None h = refl
    go (Some c) h = on c c.phase h

-- a branch more
sound_more : (who : Who) (d e : Digest) (c : Current) (u : Transaction) → d.current ≡ Some c → is_active c.phase ≡ true → Drawn d e → e.kept ≡ d.kept → e.current ≡ remaining u
    → u.key ≡ c.key → u.phase ≡ c.phase → u.decision ≡ c.decision → IsSound who d → IsSound who e × (recovered_current d.current ≡ recovered_current e.current)
sound_more who d e c u now act drawn kept left key phase decision s = (
  (
    λ v is rolls. let l = left_is u v (sym left ∙ is) in
        subst (λ (ks : List Kept). AreApart (node_key v.key) ks) (sym kept)
        (subst (λ (k : Key). AreApart (node_key k) d.kept) (sym (l.0 ∙ key)) (s.0 c now (ap is_rolling (sym (l.1 ∙ phase)) ∙ rolls))),
    subst (λ (ks : List Kept). AreOld who e ks) (sym kept) (old_list who d e d.kept drawn s.1),
    λ v is i. let l = left_is u v (sym left ∙ is) in
        old_stays who d e (node_key v.key).aaid.mark drawn (subst (λ (k : Key). IsOldKey who d (node_key k)) (sym (l.0 ∙ key)) (s.2 c now) i),
    λ v is on. let l = left_is u v (sym left ∙ is) in l.2 ∙ decision ∙ s.3 c now act,
  ),
  ap recovered_current now ∙ active_off c act ∙ sym (off (remaining u) refl) ∙ ap recovered_current (sym left),
)
  where
    off : (o : Option Current) → remaining u ≡ o → recovered_current o ≡ None
    off None i = refl
    off (Some v) i = active_off v (ap is_active ((left_is u v i).1 ∙ phase) ∙ act)

sound_begins : (who : Who) (q : ℕ) (d : Digest) → IsSoundMove who d (begin_on who q d)
sound_begins who q d s = begin_cases (IsSoundAfter who d) who q d (s, refl) on
  where
    on : (c : Current) (a : Arc) → d.current ≡ Some c → find_arc d.arcs q ≡ Some a → may_begin_on who d a ≡ true → IsSoundAfter who d (begun_over who q d c a)
    on c a i found j =
        let e : Digest = (perform (TxOut.Carry q (DialogueRecord.Begin (aaid_of c.key) (record { superior = who.site; mark = next_mark who d }) (named_holder a.dialogue)) ∷ []) (record (with_begun who (with_mark_drawn d) c (record { addr = a.peer; branch = record { superior = who.site; mark = next_mark who d } })) { arcs = with_dialogue d.arcs q (begun_by (named_holder a.dialogue) Side.Superior) })).next in
        let on : is_active (phase_of d) ≡ true = grind (arith, j) in
        let act : is_active c.phase ≡ true = ap (λ (o : Option Current). is_active (elim o as (λ _. Phase) [ None ↦ Phase.Nil | Some x ↦ x.phase ])) (sym i) ∙ on in
        sound_more who d e c (transacted (TxEvent.Begun (record { addr = a.peer; branch = record { superior = who.site; mark = next_mark who d } } ∷ [])) (seen who d.arcs c)).next
        i act (Same_boot refl (omega arith)) refl refl refl refl refl s

sound_then : (who : Who) (d : Digest) (a : Move) (f : Digest → Move) → IsSoundMove who d a → IsSoundMove who a.next (f a.next) → (a.rec ≡ None) ⊎ ((f a.next).rec ≡ None) → IsSoundMove who d (followed a f)
sound_then who d a f one two quiet s =
    let x = one s in
    let y = two x.0 in
    (y.0, which a.rec (f a.next).rec quiet ∙ ap (current_after (f a.next).rec) x.1 ∙ y.1)
  where
    which : (x y : Option LogRec) → (x ≡ None) ⊎ (y ≡ None)
        → current_after (elim y as (λ _. Option LogRec) [ None ↦ x | Some r ↦ Some r ]) (recovered_current d.current) ≡ current_after y (current_after x (recovered_current d.current))
    which x None q = refl
    which None (Some r) q = refl
    which (Some s) (Some r) (inl i) = absurd (cc (i))
    which (Some s) (Some r) (inr i) = absurd (cc (i))

pub sound_moves : (who : Who) (e : Event) (s : Digest) → Moves who e s (IsSoundMove who)
sound_moves who e s = record {
  still = λ d is. (is, refl);
  chain = λ d a f one two quiet. sound_then who d a f one two quiet;
  speaks = λ d outs h own said is. (is, refl);
  changes_dialogue = λ d p f m by one. one;
  drops_arc = λ d p m at one. one;
  notes_kept = λ d ks m held one is. one (sound_noted who d ks held.1 is);
  keeps = λ d k f held. sound_keeps who d k f held.1;
  turns = λ d c f now at asked put gone. sound_turned who f d c now put;
  begins = λ d p free. sound_begins who p d;
  roots = λ d m nil may one is. let r = one (sound_root who d is) in (r.0, ap (current_after m.rec) (nil_off d nil) ∙ r.1);
}
