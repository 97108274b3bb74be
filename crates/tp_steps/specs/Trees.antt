-- What every event of a node keeps of one tree: whether the node is in it, the phase and the branches of its transaction,
-- what is logged and told, and how often Begin goes to one peer.
use Rattle.std.specs.Prelude.{ℕ, suc, ◌+◌, ◌≤◌, ◌≡◌, ◌⊎◌, ◌&&◌, ◌||◌, Bool, true, false, if◌then◌else◌, Option, Some, None, List, [], ◌∷◌}
use Rattle.tp_names.specs.declared.identifiers.Aaid.{Aaid}
use Rattle.tp_names.specs.declared.identifiers.BranchId.{BranchId}
use Rattle.tp_names.specs.declared.children.Child.{Child}
use Rattle.tp_names.specs.Same.{is_aaid}
use Rattle.tp_records.specs.declared.indication.Indication.{Indication}
use Rattle.tp_records.specs.declared.dialogue.DialogueRecord.{DialogueRecord}
use Rattle.tp_logrec.specs.declared.record.LogRec.{LogRec}
use Rattle.tp_model.specs.declared.arc.Phase.{Phase}
use Rattle.tp_model.specs.Parts.{Who, Out, Branch, Current, Digest}
use Rattle.tp_model.specs.Dialogues.{is_active, is_ready, is_committing, is_rolling}
use Rattle.tp_model.specs.Transactions.{node_key, superior_of, child_of}
use Rattle.tp_model.specs.Node.{Move, phase_of}
use Rattle.tp_model.specs.Outcomes.{is_now}
use Rattle.tp_steps.specs.Moves.{IsLate}
use Rattle.tp_steps.specs.Traces.{is_old}
use Rattle.tp_steps.specs.Facts.{BranchKey, key_at, words_to}
use Rattle.tp_steps.specs.Passages.{is_commit_told, is_rollback_told, may_move, is_commit_rec}

-- ---- Begins

-- how many of the records begin the tree
abbrev pub begins_of : Aaid → List DialogueRecord → ℕ
begins_of t [] = 0
begins_of t (DialogueRecord.Begin u b h ∷ rs) = if is_aaid t u then suc (begins_of t rs) else begins_of t rs
begins_of t (_ ∷ rs) = begins_of t rs

-- that branch of the tree is begun in them
abbrev pub IsBegunIn : Aaid → BranchId → List DialogueRecord → Type 0
IsBegunIn t b [] = ⊥
IsBegunIn t b (DialogueRecord.Begin u c h ∷ rs) = (u ≡ t) × (c ≡ b) ⊎ IsBegunIn t b rs
IsBegunIn t b (_ ∷ rs) = IsBegunIn t b rs

-- one, where the peer is a branch of the tree
abbrev pub branch_of_tree : Aaid → Option BranchKey → ℕ
branch_of_tree t None = 0
branch_of_tree t (Some v) = if is_aaid t v.0 then 1 else 0

-- the tree's identifier was drawn between
pub record IsDrawn (who : Who) (d e : Digest) (t : Aaid) : Type 0 where
  pub count : ℕ
  pub is : t ≡ record { owner = who.site; mark = record { boot = d.boot; node = who.node; count = count } }
  pub later : suc d.drawn ≤ count
  pub known : count ≤ e.drawn

-- a current tree is none that the node draws later
abbrev pub IsOld : Who → Aaid → Digest → Type 0
IsOld who t d = is_now t d.current ≡ true → is_old who d t.mark ≡ true

-- ---- branches and records

-- the branches that did not leave
abbrev pub children_in : List Branch → List Child
children_in [] = []
children_in (b ∷ bs) = if b.left then children_in bs else child_of b ∷ children_in bs

abbrev pub branches_now : Option Current → List Branch
branches_now None = []
branches_now (Some c) = c.branches

-- of the tree, if it is current: its branches, and its phase at least
abbrev pub IsBoundAs : Aaid → Phase → List Child → Option Current → Type 0
IsBoundAs t q cs o = is_now t o ≡ true → (u : Current) → o ≡ Some u → (cs ≡ children_in u.branches) × (may_move q u.phase ≡ true)

-- a record of the tree is of the transaction that is current after the prelude, and is logged in its phase
abbrev pub IsLoggedIn : Aaid → Digest → Option LogRec → Type 0
IsLoggedIn t s None = Unit {0}
IsLoggedIn t s (Some (LogRec.Boot n)) = ⊥
IsLoggedIn t s (Some (LogRec.Ready n k a cs)) = is_aaid t k.aaid ≡ true
    → (c : Current) × (s.current ≡ Some c) × (k ≡ node_key c.key) × (superior_of c.key ≡ Some a) × (is_active c.phase ≡ true)
IsLoggedIn t s (Some (LogRec.Heuristic n k u)) = is_aaid t k.aaid ≡ true
    → (c : Current) × (s.current ≡ Some c) × (k ≡ node_key c.key) × ((is_active c.phase || is_ready c.phase) ≡ true)
IsLoggedIn t s (Some (LogRec.Commit n k a cs)) = is_aaid t k.aaid ≡ true
    → (c : Current) × (s.current ≡ Some c) × (k ≡ node_key c.key) × ((is_active c.phase || is_ready c.phase) ≡ true)
IsLoggedIn t s (Some (LogRec.Damage n k a u r cs)) = Unit {0}
IsLoggedIn t s (Some (LogRec.End n k u)) = Unit {0}

-- Ready and Commit of the tree name its branches, and its phase is that at least
abbrev pub IsBoundIn : Aaid → Option LogRec → Option Current → Type 0
IsBoundIn t (Some (LogRec.Ready n k a cs)) o = is_aaid t k.aaid ≡ true → IsBoundAs t Phase.Ready cs o
IsBoundIn t (Some (LogRec.Commit n k a cs)) o = is_aaid t k.aaid ≡ true → IsBoundAs t Phase.Committing cs o
IsBoundIn t _ o = Unit {0}

-- Commit of the tree is logged
abbrev pub commits_tree : Aaid → Option LogRec → Bool
commits_tree t None = false
commits_tree t (Some (LogRec.Commit n k a cs)) = is_aaid t k.aaid
commits_tree t (Some _) = false

abbrev pub out_tells : (Indication → Bool) → List Out → Bool
out_tells f [] = false
out_tells f (Out.Tell i ∷ outs) = f i || out_tells f outs
out_tells f (Out.Send a r ∷ outs) = out_tells f outs

-- ---- an event whose prelude left s, from d on, for a tree t and a peer p; `fall`: it rolls what was current at s

pub record IsTreed (who : Who) (s : Digest) (fall : Bool) (t : Aaid) (p : ℕ) (d : Digest) (m : Move) : Type 0 where
  pub boot : m.next.boot ≡ d.boot
  pub drawn : d.drawn ≤ m.next.drawn
  pub late : IsLate d → IsLate m.next
  pub enters : IsLate d → is_now t m.next.current ≡ true → (is_now t d.current ≡ true) ⊎ IsDrawn who d m.next t
  pub born : IsLate d → suc 0 ≤ begins_of t (words_to p m.outs) → (is_now t d.current ≡ true) ⊎ IsDrawn who d m.next t
  pub more : IsLate d → IsOld who t d → is_now t m.next.current ≡ true
      → begins_of t (words_to p m.outs) + branch_of_tree t (key_at d.current p) ≤ branch_of_tree t (key_at m.next.current p)
  pub once : IsLate d → IsOld who t d → begins_of t (words_to p m.outs) + branch_of_tree t (key_at d.current p) ≤ 1
  -- the branch that is begun, or was with the peer, is with it as long as the tree is current
  pub ids : (b : BranchId) → IsLate d → IsOld who t d → is_now t m.next.current ≡ true
      → IsBegunIn t b (words_to p m.outs) ⊎ (key_at d.current p ≡ Some (t, b)) → key_at m.next.current p ≡ Some (t, b)
  pub active : IsLate d → IsOld who t d → suc 0 ≤ begins_of t (words_to p m.outs) → is_now t d.current ≡ true → is_active (phase_of d) ≡ true
  -- the transaction of the tree
  pub key : IsLate d → IsOld who t d → (c u : Current) → d.current ≡ Some c → m.next.current ≡ Some u → is_now t d.current ≡ true
      → is_now t m.next.current ≡ true → u.key ≡ c.key
  pub moves : IsLate d → IsOld who t d → is_now t d.current ≡ true → is_now t m.next.current ≡ true → may_move (phase_of d) (phase_of m.next) ≡ true
  pub children : IsLate d → IsOld who t d → is_now t d.current ≡ true → is_now t m.next.current ≡ true → is_active (phase_of d) ≡ false
      → children_in (branches_now m.next.current) ≡ children_in (branches_now d.current)
  pub logs : IsLoggedIn t s m.rec
  pub binds : IsLate d → is_old who d t.mark ≡ true → IsBoundIn t m.rec m.next.current
  pub commits : IsLate d → is_now t m.next.current ≡ true → is_committing (phase_of m.next) ≡ true
      → ((is_now t d.current && is_committing (phase_of d)) || commits_tree t m.rec) ≡ true
  pub rolling : IsLate d → is_now t m.next.current ≡ true → is_rolling (phase_of m.next) ≡ true
      → ((is_now t d.current && is_rolling (phase_of d)) || (is_now t s.current && fall)) ≡ true
  -- what the user is told
  pub tells_commit : out_tells is_commit_told m.outs ≡ true → (c : Current) × (s.current ≡ Some c) × ((is_committing c.phase || is_commit_rec m.rec) ≡ true)
  pub tells_rollback : out_tells is_rollback_told m.outs ≡ true → (c : Current) × (s.current ≡ Some c) × ((is_rolling c.phase || fall) ≡ true)
