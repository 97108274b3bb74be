-- What a drained tree without failure says of the nodes that stand beside each other in it: nobody rolls, what one end said
-- in the tree the other took, and a branch's answer, a superior's order and a branch's end are taken while they still count.
-- Failures are asked of the time in which the tree is current at its nodes, and frames of the tree's own words.
use Rattle.std.specs.Prelude.{ℕ, suc, ◌≤◌, ◌≡◌, ◌&&◌, ◌⊎◌, Bool, true, false, Some, List, [], ◌∷◌, length}
use Rattle.tp_names.specs.declared.identifiers.Aaid.{Aaid}
use Rattle.tp_names.specs.declared.identifiers.BranchId.{BranchId}
use Rattle.tp_names.specs.declared.identifiers.Mark.{Mark}
use Rattle.tp_names.specs.declared.identifiers.Addr.{Addr}
use Rattle.tp_names.specs.declared.outcome.Report.{Report}
use Rattle.tp_names.specs.Same.{is_aaid}
use Rattle.tp_records.specs.declared.dialogue.DialogueRecord.{DialogueRecord}
use Rattle.tp_records.specs.declared.dialogue.Holder.{Holder}
use Rattle.tp_records.specs.declared.peer.PeerRecord.{PeerRecord}
use Rattle.tp_model.specs.Parts.{Origin, Event, Out, Entry}
use Rattle.tp_model.specs.Dialogues.{is_committing}
use Rattle.tp_model.specs.Transactions.{aaid_of, is_under_at}
use Rattle.tp_model.specs.Requests.{has_branch_at}
use Rattle.tp_model.specs.History.{digest}
use Rattle.tp_model.specs.Outcomes.{is_now, decided, rolled, is_owed}
use Rattle.tp_model.specs.Questions.{is_at, said_to, has_said}
use Rattle.tp_model.specs.World.{World, Node, number_of, addr_of, find_node}
use Rattle.tp_model.specs.Promises.{IsIn, IsOf, IsBranchOf, IsDrained, IsFailureFree, has_told_in}
use Rattle.tp_histories.specs.Histories.{IsSentIn, HasSent}
use Rattle.tp_histories.specs.Traces.{sent_on, accepted_on}
use Rattle.tp_steps.specs.Facts.{is_order, ends_in, begun_keys}
use Rattle.tp_steps.specs.Moves.{is_word}
use Rattle.tp_steps.specs.Upward.{holds_at}
use Rattle.tp_steps.specs.Heeding.{is_answer}
use Rattle.tp_failure_free.specs.Drained.{has_failed_in, took_in, is_done}

-- ---- no failure in the tree

-- at no node of the tree a failure came while the tree was current there
abbrev pub IsUnfailedTree : World → Aaid → Type 0
IsUnfailedTree w t = (x : Node) → IsOf w t x → has_failed_in x.origin t x.history ≡ false

-- no node of a tree in which nothing failed rolled in it
abbrev pub NobodyRolls : World → Type 0
NobodyRolls w = (t : Aaid) → IsUnfailedTree w t → (x : Node) → IsOf w t x → rolled x.origin t x.history ≡ false

-- ---- what is said is taken

-- the record came from that address
abbrev pub HasCome : List Entry → Addr → PeerRecord → Type 0
HasCome [] a r = ⊥
HasCome (e ∷ h) a r = (e.event ≡ Event.Arrive a r) ⊎ HasCome h a r

-- whatever a node of the tree sent to a node that is there came to it
abbrev pub AllCame : World → Type 0
AllCame w =
    (t : Aaid) → IsDrained w t → IsFailureFree w t
    → (x z : Node) (a : Addr) (r : PeerRecord) → IsOf w t x → HasSent x.history a r → find_node w.nodes a.node ≡ Some z → HasCome z.history (addr_of x) r

-- what a node of the tree sent with a pair of marks is what the other end took with it, record by record
abbrev pub AllTaken : World → Type 0
AllTaken w =
    (t : Aaid) → IsDrained w t → IsFailureFree w t
    → (x z : Node) (m k : Mark) → IsOf w t x → IsIn w z → sent_on m k (number_of z) x.history ≡ accepted_on m k (number_of x) z.history

-- the record is a word of the tree: a Begin of it, or one that counts for its outcome, from an entry that came while the tree was
-- current
abbrev pub is_word_of : Aaid → Bool → PeerRecord → Bool
is_word_of t now (PeerRecord.OpenAssoc x u) = false
is_word_of t now (PeerRecord.AcceptAssoc x y u) = false
is_word_of t now (PeerRecord.ShutAssoc x y) = false
is_word_of t now (PeerRecord.OnAssoc x y q (DialogueRecord.Begin u b i)) = is_aaid t u
is_word_of t now (PeerRecord.OnAssoc x y q r) = now && is_word r
is_word_of t now (PeerRecord.RecReady u b) = false
is_word_of t now (PeerRecord.RecCommit u b) = false
is_word_of t now (PeerRecord.RecReply u b s) = false
is_word_of t now (PeerRecord.Forget u b) = false

-- such a word was sent
abbrev pub HasSaidIn : Origin → Aaid → List Entry → Addr → PeerRecord → Type 0
HasSaidIn o t [] a r = ⊥
HasSaidIn o t (e ∷ h) a r = (is_word_of t (is_now t (digest o h).current) r ≡ true) × IsSentIn e.outs a r ⊎ HasSaidIn o t h a r

-- each word of the tree that a node of it sent to a node that is there came to it, and no node of the tree owes its done
pub record IsDrainedTree (w : World) (t : Aaid) : Type 0 where
  pub taken : (x z : Node) (a : Addr) (r : PeerRecord) → IsOf w t x → HasSaidIn x.origin t x.history a r → find_node w.nodes a.node ≡ Some z
      → HasCome z.history (addr_of x) r
  pub settled : (x : Node) → IsOf w t x → is_owed x.origin t x.history ≡ false

-- where no node of a tree ever failed, what they sent went out: once every frame of them is taken, the tree is drained
abbrev pub FramesDrain : World → Type 0
FramesDrain w = (t : Aaid) → IsDrained w t → IsFailureFree w t → IsDrainedTree w t

-- so it is with failures
abbrev pub NoFailureInTree : World → Type 0
NoFailureInTree w = (t : Aaid) → IsFailureFree w t → IsUnfailedTree w t

-- a word of the tree that a node of it sent with a pair of marks was taken with it: the other end took as many records at least
abbrev pub WordsAreTaken : World → Type 0
WordsAreTaken w =
    (t : Aaid) → IsDrainedTree w t
    → (x z : Node) (a : Addr) (m k : Mark) (q : ℕ) (r : DialogueRecord) → IsOf w t x → IsIn w z → a.node ≡ number_of z
    → HasSaidIn x.origin t x.history a (PeerRecord.OnAssoc m k q r)
    → suc q ≤ length (accepted_on m k (number_of x) z.history)

-- ---- branches

-- the peer was sent the Begin of the branch
abbrev pub HasBegun : List Entry → ℕ → Aaid → BranchId → Type 0
HasBegun h p t b = (a : Addr) × (m : Mark) × (k : Mark) × (q : ℕ) × (i : Holder) × (a.node ≡ p)
    × HasSent h a (PeerRecord.OnAssoc m k q (DialogueRecord.Begin t b i))

-- each branch that a node of the tree began is a node of the tree
abbrev pub BranchesAreThere : World → Type 0
BranchesAreThere w =
    (t : Aaid) → IsDrainedTree w t
    → (x : Node) (p : ℕ) (b : BranchId) → IsOf w t x → HasBegun x.history p t b → (z : Node) × (number_of z ≡ p) × IsBranchOf w t b x z

-- ---- words, while the tree is current

-- outputs say such a word to the peer
abbrev pub says : ℕ → (DialogueRecord → Bool) → List Out → Bool
says p f outs = has_said f (said_to p outs)

-- a branch that answered in the tree, by Ready or by leaving: its superior took the answer while the tree was current, if it is
-- current still
abbrev pub AnswersAreTaken : World → Type 0
AnswersAreTaken w =
    (t : Aaid) → IsDrainedTree w t → (b : BranchId) (x z : Node) → IsBranchOf w t b x z
    → has_told_in (says (number_of x) is_answer) z.origin t z.history ≡ true → is_now t (digest x.origin x.history).current ≡ true
    → took_in (λ d. is_aaid t (aaid_of d.key)) is_answer x.origin (number_of z) x.history ≡ true

-- a branch that was ordered to commit in the tree: it took the order while the tree was current, if it is current still
abbrev pub OrdersAreTaken : World → Type 0
OrdersAreTaken w =
    (t : Aaid) → IsDrainedTree w t → (b : BranchId) (x z : Node) → IsBranchOf w t b x z
    → has_told_in (says (number_of z) is_order) x.origin t x.history ≡ true → is_now t (digest z.origin z.history).current ≡ true
    → took_in (λ d. is_aaid t (aaid_of d.key) && is_under_at d.key (number_of x)) is_order z.origin (number_of x) z.history ≡ true

-- an event after the history h that takes a Done from the peer: the tree of the Begin that it answers is committed by then
abbrev pub TakesDecided : Origin → ℕ → List Entry → Event → Type 0
TakesDecided o p h e =
    (a : Addr) (m k : Mark) (q : ℕ) (r : Report) → e ≡ Event.Arrive a (PeerRecord.OnAssoc m k q (DialogueRecord.Done r)) → a.node ≡ p
    → holds_at (begun_keys (sent_on m k p h)) (ends_in (accepted_on m k p h)) (λ t. decided o t h) ≡ true

abbrev pub DoneDecided : Origin → ℕ → List Entry → Type 0
DoneDecided o p [] = Unit {0}
DoneDecided o p (e ∷ h) = TakesDecided o p h e.event × DoneDecided o p h

-- of each node and each one that stands below it
abbrev pub DonesDecided : List Node → Type 0
DonesDecided ns =
    (x z : Node) → find_node ns (number_of x) ≡ Some x → find_node ns (number_of z) ≡ Some z → is_at z.superior (number_of x) ≡ true
    → DoneDecided x.origin (number_of z) x.history

-- a branch that said in the tree that it is done: its superior took that in committing, with the branch, if the tree is
-- current still
abbrev pub DonesAreTaken : World → Type 0
DonesAreTaken w =
    (t : Aaid) → IsDrainedTree w t → IsUnfailedTree w t → (b : BranchId) (x z : Node) → IsBranchOf w t b x z
    → has_told_in (says (number_of x) is_done) z.origin t z.history ≡ true → is_now t (digest x.origin x.history).current ≡ true
    → took_in (λ d. is_aaid t (aaid_of d.key) && is_committing d.phase && has_branch_at d.branches (number_of z)) is_done x.origin
    (number_of z) x.history ≡ true
