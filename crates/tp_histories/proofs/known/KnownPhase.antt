-- In every legal history the phase of a key is what the questions answer: that of the current transaction, where it is its
-- key, and none of every other key.
use Rattle.std.proofs.Common.{if◌then◌else◌, ◌≡◌, ◌⊎◌, inl, inr, ℕ, Bool, true, false, refl, ap, sym, subst, ◌∙◌, arith, Option, Some, None, List, [], ◌∷◌, ◌||◌, reverse}
use Rattle.tp_names.specs.declared.identifiers.Mark.{Mark}
use Rattle.tp_names.specs.declared.identifiers.Aaid.{Aaid}
use Rattle.tp_names.specs.declared.identifiers.NodeKey.{NodeKey}
use Rattle.tp_names.specs.declared.identifiers.Addr.{Addr}
use Rattle.tp_names.specs.declared.children.Child.{Child}
use Rattle.tp_names.specs.declared.outcome.Outcome.{Outcome}
use Rattle.tp_names.specs.Same.{is_key}
use Rattle.tp_records.specs.declared.indication.Indication.{Indication}
use Rattle.tp_records.specs.declared.dialogue.DialogueRecord.{DialogueRecord}
use Rattle.tp_records.specs.declared.peer.PeerRecord.{PeerRecord}
use Rattle.tp_logrec.specs.declared.record.LogRec.{LogRec}
use Rattle.tp_logrec.specs.Order.{is_damage, holds}
use Rattle.tp_model.specs.declared.arc.Phase.{Phase}
use Rattle.tp_model.specs.declared.recovery.Kept.{Kept}
use Rattle.tp_model.specs.Parts.{Origin, Entry, Out, Current}
use Rattle.tp_model.specs.Dialogues.{is_nil, is_active, is_rolling}
use Rattle.tp_model.specs.Transactions.{node_key}
use Rattle.tp_model.specs.Recovery.{not_forgotten}
use Rattle.tp_model.specs.Events.{recovered, recovered_current, fresh_branches}
use Rattle.tp_model.specs.History.{digest, records}
use Rattle.tp_model.specs.Questions.{tells_rollback_complete}
use Rattle.tp_model.specs.Keys.{last_of, Begun, first_begun, phase_by_rec}
use Rattle.tp_steps.specs.Steps.{first_begin}
use Rattle.tp_steps.specs.Trees.{out_tells}
use Rattle.tp_steps.proofs.log.TurnLog.{key_self}
use Rattle.tp_steps.proofs.log.ApartLog.{keys_equal}
use Rattle.tp_steps.proofs.branches.Staged.{is_rolled_told}
use Rattle.tp_steps.proofs.log.StandLog.{last_at, told_last, Stands, Nothing, Voted, Ordered}
use Rattle.tp_histories.proofs.log.StandingKeys.{Place, New, Here, There, place, kept_damage}
use Rattle.tp_histories.proofs.known.KnownKept.{alive, IsLogTold}
use Rattle.tp_steps.proofs.every.Course.{PhaseStep, some_same, active_nil}
use Rattle.tp_steps.proofs.order.InOrder.{not_both}

-- ---- the phase of a key

abbrev pub phase_at : Option Current → NodeKey → Phase
phase_at None k = Phase.Nil
phase_at (Some c) k = if is_key k (node_key c.key) then c.phase else Phase.Nil

abbrev pub log_phase : Phase → Phase
log_phase Phase.Nil = Phase.Nil
log_phase Phase.Active = Phase.Nil
log_phase Phase.Ready = Phase.Ready
log_phase Phase.Committing = Phase.Committing
log_phase Phase.Rolling = Phase.Nil

pub phase_made : (p : Phase) → (if is_active p then Phase.Active else if is_rolling p then Phase.Rolling else log_phase p) ≡ p
phase_made Phase.Nil = refl
phase_made Phase.Active = refl
phase_made Phase.Ready = refl
phase_made Phase.Committing = refl
phase_made Phase.Rolling = refl

-- ---- by the last record

phase_alive : (v : Option LogRec) → phase_by_rec v ≡ phase_by_rec (alive v)
phase_alive None = refl
phase_alive (Some (LogRec.Boot n)) = refl
phase_alive (Some (LogRec.Ready n k s cs)) = refl
phase_alive (Some (LogRec.Heuristic n k u)) = refl
phase_alive (Some (LogRec.Commit n k s cs)) = refl
phase_alive (Some (LogRec.Damage n k s u r cs)) = refl
phase_alive (Some (LogRec.End n k u)) = refl

damage_nil : (v : Option LogRec) → holds v is_damage ≡ true → phase_by_rec v ≡ Phase.Nil
damage_nil None h = refl
damage_nil (Some (LogRec.Boot n)) h = refl
damage_nil (Some (LogRec.Ready n k s cs)) h = absurd (cc (h))
damage_nil (Some (LogRec.Heuristic n k u)) h = absurd (cc (h))
damage_nil (Some (LogRec.Commit n k s cs)) h = absurd (cc (h))
damage_nil (Some (LogRec.Damage n k s u r cs)) h = refl
damage_nil (Some (LogRec.End n k u)) h = refl

told_phase : (n : ℕ) (k : NodeKey) (s : Addr) (ds : List Child) (u : Option Outcome) → phase_by_rec (Some (told_last n k s ds u)) ≡ Phase.Ready
told_phase n k s ds None = refl
told_phase n k s ds (Some o) = refl

-- what the records tell of the key that is current by them
stands_phase : (n : ℕ) (ps : List LogRec) (o : Option Current) (c : Current) → Stands n ps o → o ≡ Some c → phase_by_rec (last_at n (node_key c.key) ps) ≡ c.phase
stands_phase n ps o c (Nothing i) is = absurd (cc (i, is))
stands_phase n ps o c (Voted k ds u i s) is =
    let same : recovered k Phase.Ready (fresh_branches ds) u ≡ c = some_same (recovered k Phase.Ready (fresh_branches ds) u) c (sym i ∙ is) in
    subst (λ (x : Current). phase_by_rec (last_at n (node_key x.key) ps) ≡ x.phase) same (ap phase_by_rec s.last ∙ told_phase n (node_key k) s.superior ds u)
stands_phase n ps o c (Ordered k ds u i s) is =
    let same : recovered k Phase.Committing (fresh_branches ds) u ≡ c = some_same (recovered k Phase.Committing (fresh_branches ds) u) c (sym i ∙ is) in
    subst (λ (x : Current). phase_by_rec (last_at n (node_key x.key) ps) ≡ x.phase) same (ap phase_by_rec s.last)

recovered_phase : (c : Current) (k : NodeKey) → log_phase (phase_at (Some c) k) ≡ phase_at (recovered_current (Some c)) k
recovered_phase c k = go c.phase
  where
    on : (b : Bool) (p : Phase) → log_phase (if b then p else Phase.Nil) ≡ (if b then log_phase p else Phase.Nil)
    on true p = refl
    on false p = refl

    flat : (b : Bool) → (if b then Phase.Nil else Phase.Nil) ≡ Phase.Nil
    flat true = refl
    flat false = refl

    go : (p : Phase) → log_phase (if is_key k (node_key c.key) then p else Phase.Nil) ≡ phase_at (recovered_current (Some (record c { phase = p }))) k
    go Phase.Nil = on (is_key k (node_key c.key)) Phase.Nil ∙ flat (is_key k (node_key c.key))
    go Phase.Active = on (is_key k (node_key c.key)) Phase.Active ∙ flat (is_key k (node_key c.key))
    go Phase.Ready = on (is_key k (node_key c.key)) Phase.Ready
    go Phase.Committing = on (is_key k (node_key c.key)) Phase.Committing
    go Phase.Rolling = on (is_key k (node_key c.key)) Phase.Rolling ∙ flat (is_key k (node_key c.key))

pub last_phase : (o : Origin) (h : List Entry) (k : NodeKey) → IsLogTold o h → phase_by_rec (last_of k (records o h)) ≡ log_phase (phase_at (digest o h).current k)
last_phase o h k told = phase_alive (last_of k (records o h)) ∙ ap phase_by_rec (told.last k) ∙ by_log (place n ps l ks k told.fit) ∙ sym (back (digest o h).current)
  where
    n : ℕ
    n = o.who.node

    ps : List LogRec
    ps = reverse (records o h)

    l : Option Current
    l = recovered_current (digest o h).current

    ks : List Kept
    ks = not_forgotten (digest o h).kept

    none : (v : Option Current) → ((c : Current) → v ≡ Some c → node_key c.key ≡ k → ⊥) → phase_at v k ≡ Phase.Nil
    none None off = refl
    none (Some c) off = go (is_key k (node_key c.key)) refl
      where
        go : (b : Bool) → is_key k (node_key c.key) ≡ b → phase_at (Some c) k ≡ Phase.Nil
        go true i = absurd (off c refl (sym (keys_equal k (node_key c.key) i)))
        go false i = rw i refl

    by_log : Place k l ks → phase_by_rec (last_at n k ps) ≡ phase_at l k
    by_log (New a off) = ap phase_by_rec (told.fit.none k a off) ∙ sym (none l off)
    by_log (There h off) = damage_nil (last_at n k ps) (kept_damage n ps ks k told.fit.kept h) ∙ sym (none l off)
    by_log (Here c i same a) =
        let self : is_key k (node_key c.key) ≡ true = ap (is_key k) same ∙ key_self k in
        ap (λ (j : NodeKey). phase_by_rec (last_at n j ps)) (sym same) ∙ stands_phase n ps l c told.fit.now i
        ∙ sym (ap (λ (v : Option Current). phase_at v k) i ∙ rw self refl)

    back : (v : Option Current) → log_phase (phase_at v k) ≡ phase_at (recovered_current v) k
    back None = refl
    back (Some c) = recovered_phase c k

-- ---- one key in one entry: whether the entry begins it, forces a record of it, rolls for it, leaves it, and tells of its
-- completed rollback

pub record KeyStep (begun logs rolled left told : Bool) (p q : Phase) : Type 0 where
  pub begins : begun ≡ true → is_active q ≡ true
  pub active : begun ≡ false → is_active q ≡ true → (is_active p ≡ true) × ((logs || rolled || left) ≡ false)
  pub stays : begun ≡ false → is_active p ≡ true → (is_active q || (logs || rolled || left)) ≡ true
  pub rolling : begun ≡ false → is_rolling q ≡ true → (told ≡ false) × ((rolled || is_rolling p) ≡ true)
  pub rolls : begun ≡ false → (rolled || is_rolling p) ≡ true → (is_rolling q || told) ≡ true

pub step_begun : (logs rolled left told : Bool) (p q : Phase) → is_active q ≡ true → KeyStep true logs rolled left told p q
step_begun l r f t p q act = record { begins = λ h. act; active = λ h. absurd (cc (h)); stays = λ h. absurd (cc (h)); rolling = λ h. absurd (cc (h)); rolls = λ h. absurd (cc (h)) }

pub step_absent : (logs : Bool) → KeyStep false logs false false false Phase.Nil Phase.Nil
step_absent l = record { begins = λ h. absurd (cc (h)); active = λ h i. absurd (cc (i)); stays = λ h i. absurd (cc (i)); rolling = λ h i. absurd (cc (i)); rolls = λ h i. absurd (cc (i)) }

rolling_nil : (p : Phase) → is_rolling p ≡ true → is_nil p ≡ true → ⊥
rolling_nil p h i = grind (arith, h, i)

-- the current key goes through the phases
pub step_of : (logs rolled left told : Bool) (p q : Phase) → PhaseStep rolled left p q logs told → (rolled ≡ true → (told ≡ true) ⊎ (is_rolling q ≡ true)) → (left ≡ true → is_active q ≡ true → ⊥) → KeyStep false logs rolled left told p q
step_of l r f t p q s down gone = record {
  begins = λ h. absurd (cc (h));
  active = λ h act. let k = s.kept act in (k.0, none l r f k.1 (off r act refl) (stays_here f act refl));
  stays = λ h act. swap (is_active q) l r f (s.active act);
  rolling = λ h roll. (untold t roll refl, turn (is_rolling p) r (s.rolled roll));
  rolls = λ h any. falls r (is_rolling p) any refl refl;
}
  where
    none : (a b c : Bool) → a ≡ false → b ≡ false → c ≡ false → (a || b || c) ≡ false
    none a b c h i j = rw (h, i, j) refl

    off : (b : Bool) → is_active q ≡ true → r ≡ b → r ≡ false
    off false act i = i
    off true act i = elim (down i) [ inl x ↦ absurd (active_nil q act (s.ended x)) | inr x ↦ absurd (not_both q act x) ]

    stays_here : (b : Bool) → is_active q ≡ true → f ≡ b → f ≡ false
    stays_here false act i = i
    stays_here true act i = absurd (gone i act)

    untold : (b : Bool) → is_rolling q ≡ true → t ≡ b → t ≡ false
    untold false roll i = i
    untold true roll i = absurd (rolling_nil q roll (s.ended i))

    swap : (x a b c : Bool) → (x || b || c || a) ≡ true → (x || (a || b || c)) ≡ true
    swap x a b c h = grind (arith, h)

    turn : (x y : Bool) → (x || y) ≡ true → (y || x) ≡ true
    turn x y h = grind (arith, h)

    falls : (x y : Bool) → (x || y) ≡ true → r ≡ x → is_rolling p ≡ y → (is_rolling q || t) ≡ true
    falls true y h i j = elim (down i) [ inl x ↦ rw x (grind arith) | inr x ↦ rw x refl ]
    falls false true h i j = s.rolling j
    falls false false h i j = absurd (cc (h))

-- ---- what outputs begin and tell

pub begun_first : (outs : List Out) → first_begun outs ≡ elim (first_begin outs) as (λ _. Option Begun) [ None ↦ None | Some k ↦ Some (record { tree = k.0; branch = k.1 }) ]
begun_first (Out.Tell i ∷ outs) = begun_first outs
begun_first (Out.Send a _ ∷ outs) = let rest = begun_first outs in grind (arith, rest)
begun_first _ = refl

pub rolled_tells : (outs : List Out) → tells_rollback_complete outs ≡ out_tells is_rolled_told outs
rolled_tells (o ∷ outs) = let rest = rolled_tells outs in grind (arith, rest)
rolled_tells _ = refl
