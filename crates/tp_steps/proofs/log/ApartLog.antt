-- A crash leaves of the current transaction what the records of the history give: an instance of the steps of a node.
use Rattle.std.proofs.Common.{◌≡◌, inl, inr, Bool, true, false, refl, ap, sym, ◌∙◌, arith, Option, Some, None, List, [], ◌∷◌}
use Rattle.tp_names.specs.declared.identifiers.BranchId.{BranchId}
use Rattle.tp_names.specs.declared.identifiers.Aaid.{Aaid}
use Rattle.tp_names.specs.declared.identifiers.NodeKey.{NodeKey}
use Rattle.tp_names.specs.Same.{is_branch_option, is_key}
use Rattle.tp_logrec.specs.declared.record.LogRec.{LogRec}
use Rattle.tp_model.specs.declared.arc.Phase.{Phase}
use Rattle.tp_model.specs.declared.recovery.Kept.{Kept}
use Rattle.tp_model.specs.declared.recovery.KeptEvent.{KeptEvent}
use Rattle.tp_model.specs.Parts.{Current, Digest}
use Rattle.tp_model.specs.Dialogues.{is_rolling}
use Rattle.tp_model.specs.Transactions.{node_key}
use Rattle.tp_model.specs.Recovery.{settled}
use Rattle.tp_model.specs.Node.{keep}
use Rattle.tp_model.specs.Events.{recovered_current, without_current}
use Rattle.tp_steps.specs.Moves.{IsAmong}
use Rattle.tp_steps.specs.Standing.{current_after, AreApart, IsApart}
use Rattle.tp_steps.proofs.lemmas.Equality.{aaids_equal, branches_equal, and_left, and_right}

-- ---- keys apart from those that are kept

key_made : (a b : Aaid) (x y : Option BranchId) → a ≡ b → x ≡ y → ◌≡◌ {A = NodeKey} (record { aaid = a; branch = x }) (record { aaid = b; branch = y })
key_made a b x y h i = rw (h, i) refl

options_equal : (x y : Option BranchId) → is_branch_option x y ≡ true → x ≡ y
options_equal None None h = refl
options_equal (Some a) (Some b) h = ap (λ (c : BranchId). Some c) (branches_equal a b h)
options_equal _ _ h = absurd cc

pub keys_equal : (a b : NodeKey) → is_key a b ≡ true → a ≡ b
keys_equal a b h = key_made a.aaid b.aaid a.branch b.branch (aaids_equal a.aaid b.aaid (and_left _ _ h)) (options_equal a.branch b.branch (and_right _ _ h))

pub apart_among : (k : NodeKey) (ks : List Kept) (x : Kept) → AreApart k ks → IsAmong ks x → x.key ≡ k → ⊥
apart_among k [] x h i = absurd i
apart_among k (y ∷ ys) x h (inl i) = λ j. h.0 (i.1 ∙ j)
apart_among k (y ∷ ys) x h (inr i) = apart_among k ys x h.1 i

-- a record of a kept transaction, or none
abbrev pub IsOfKept : NodeKey → Option LogRec → Type 0
IsOfKept k None = Unit {0}
IsOfKept k (Some (LogRec.Boot n)) = ⊥
IsOfKept k (Some (LogRec.Ready n j s cs)) = ⊥
IsOfKept k (Some (LogRec.Heuristic n j o)) = ⊥
IsOfKept k (Some (LogRec.Commit n j s cs)) = ⊥
IsOfKept k (Some (LogRec.Damage n j s o r cs)) = j ≡ k
IsOfKept k (Some (LogRec.End n j o)) = j ≡ k

pub settled_of : (k : Kept) (f : KeptEvent) → IsOfKept k.key (settled k f).rec
unfolding settled
settled_of k KeptEvent.Purge = refl
settled_of k _ = grind arith

pub not_let_go : (j : NodeKey) (o : Option Current) → ((c : Current) → o ≡ Some c → j ≡ node_key c.key → ⊥) → without_current j o ≡ o
not_let_go j None i = refl
not_let_go j (Some c) i = go (is_key (node_key c.key) j) refl
  where
    go : (b : Bool) → is_key (node_key c.key) j ≡ b → without_current j (Some c) ≡ Some c
    go true e = absurd (i c refl (sym (keys_equal (node_key c.key) j e)))
    go false e = rw (e, without_current) refl

-- a key that is apart from that of the record is not let go by it
stays : (k : NodeKey) (r : Option LogRec) (o : Option Current) → IsOfKept k r → ((c : Current) → o ≡ Some c → k ≡ node_key c.key → ⊥) → current_after r o ≡ o
stays k None o h i = refl
stays k (Some (LogRec.Damage n j s u r cs)) o h i = not_let_go j o (λ c e f. i c e (sym h ∙ f))
stays k (Some (LogRec.End n j u)) o h i = not_let_go j o (λ c e f. i c e (sym h ∙ f))
stays k _ o h i = absurd h

-- what stands in the log has the key of what is current, which does not roll
pub logged_key : (o : Option Current) (c : Current) → recovered_current o ≡ Some c → (u : Current) × (o ≡ Some u) × (c.key ≡ u.key) × (is_rolling u.phase ≡ false)
logged_key None c h = absurd (cc (h))
logged_key (Some u) c h = (u, refl, key u.phase h, phase u.phase h)
  where
    key : (p : Phase) → recovered_current (Some (record u { phase = p })) ≡ Some c → c.key ≡ u.key
    key Phase.Nil h = absurd (cc (h))
    key Phase.Active h = absurd (cc (h))
    key Phase.Ready h = grind (arith, h)
    key Phase.Committing h = grind (arith, h)
    key Phase.Rolling h = absurd (cc (h))

    phase : (p : Phase) → recovered_current (Some (record u { phase = p })) ≡ Some c → is_rolling p ≡ false
    phase Phase.Nil h = refl
    phase Phase.Active h = refl
    phase Phase.Ready h = refl
    phase Phase.Committing h = refl
    phase Phase.Rolling h = absurd (cc (h))

-- a step of a kept transaction leaves what of the current one stands in the log
pub kept_stays : (d : Digest) (k : Kept) (f : KeptEvent) → IsApart d → IsAmong d.kept k → current_after (keep (settled k f) d).rec (recovered_current d.current) ≡ recovered_current (keep (settled k f) d).next.current
kept_stays d k f apart among = stays k.key (settled k f).rec (recovered_current d.current) (settled_of k f) (λ c e same. away c (logged_key d.current c e) same)
  where
    away : (c : Current) → (u : Current) × (d.current ≡ Some u) × (c.key ≡ u.key) × (is_rolling u.phase ≡ false) → k.key ≡ node_key c.key → ⊥
    away c v same = apart_among (node_key v.0.key) d.kept k (apart v.0 v.1 v.3) among (same ∙ ap node_key v.2)
