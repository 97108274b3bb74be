-- What a subordinate says to its superior, in order: between two ends at most one Ready, and after it no Left; and what
-- each end tells of the transaction that it ends. A word stands after so many ends: the key of the Begin at that place is
-- that of its transaction.
use Rattle.std.specs.Prelude.{ℕ, ◌≡◌, Bool, true, false, Option, Some, None, List}
use Rattle.tp_names.specs.declared.identifiers.Mark.{Mark}
use Rattle.tp_names.specs.declared.identifiers.Addr.{Addr}
use Rattle.tp_names.specs.declared.outcome.Outcome.{Outcome}
use Rattle.tp_names.specs.declared.outcome.Report.{Report}
use Rattle.tp_model.specs.Parts.{Live, Origin, Entry, Event, Current, Digest}
use Rattle.tp_model.specs.Links.{is_live}
use Rattle.tp_model.specs.Arcs.{link_with}
use Rattle.tp_model.specs.Dialogues.{is_nil, is_active, is_committing, is_rolling}
use Rattle.tp_model.specs.Transactions.{aaid_of, is_under_at}
use Rattle.tp_model.specs.Node.{Move}
use Rattle.tp_model.specs.History.{digest, records}
use Rattle.tp_model.specs.Outcomes.{decided, rolled, has_left, completed_none, is_unchanged}
use Rattle.tp_model.specs.Promises.{has_told_in}
use Rattle.tp_model.specs.Questions.{is_begin, is_at}
use Rattle.tp_steps.specs.Turns.{falls}
use Rattle.tp_histories.specs.Traces.{sent_on, accepted_on}
use Rattle.tp_steps.specs.Trees.{commits_tree, out_tells}
use Rattle.tp_steps.specs.Clearing.{is_complete_none, is_complete, damages_tree, has_damage}
use Rattle.tp_steps.specs.Facts.{none_of, BranchKey, begun_keys, key_at, HasPlaceAt, words_to}
use Rattle.tp_steps.specs.Upward.{Deeds, voting_from, each_up, may_say}

-- ---- the same of a node: an event e whose prelude left s, from d on

abbrev pub VotesAt : Bool → Option Current → ℕ → Type 0
VotesAt v o p = v ≡ true → (c : Current) × (o ≡ Some c) × (is_nil c.phase ≡ false) × (is_under_at c.key p ≡ true) × (is_active c.phase ≡ false)

pub record TellsAt (g : Deeds) (e : Event) (fall : Bool) (s : Digest) (m : Move) : Type 0 where
  pub committing : (c : Current) → s.current ≡ Some c → is_committing c.phase ≡ true → g.committed (aaid_of c.key) ≡ true
  pub commits : (c : Current) → s.current ≡ Some c → commits_tree (aaid_of c.key) m.rec ≡ true → g.committed (aaid_of c.key) ≡ true
  pub rolling : (c : Current) → s.current ≡ Some c → is_rolling c.phase ≡ true → g.rolled (aaid_of c.key) ≡ true
  pub falls : (c : Current) → s.current ≡ Some c → fall ≡ true → g.rolled (aaid_of c.key) ≡ true
  pub leaves : (c : Current) → s.current ≡ Some c → is_unchanged e ≡ true → g.left (aaid_of c.key) ≡ true
  pub completes : (c : Current) → s.current ≡ Some c → out_tells is_complete_none m.outs ≡ true → g.completed (aaid_of c.key) ≡ true
  pub damages : (c : Current) → s.current ≡ Some c → damages_tree (aaid_of c.key) m.rec ≡ true → g.damaged (aaid_of c.key) ≡ true
  pub tells : (c : Current) → s.current ≡ Some c → (u : Outcome) (r : Report) → out_tells (is_complete u r) m.outs ≡ true → g.told u r (aaid_of c.key) ≡ true

pub record IsRisen (e : Event) (p : ℕ) (fall : Bool) (s d : Digest) (m : Move) : Type 0 where
  pub words : (ks : List BranchKey) (g : Deeds) (n : ℕ) (v : Bool) → key_at d.current p ≡ None → none_of is_begin (words_to p m.outs) ≡ true
      → HasPlaceAt ks n d.current p → VotesAt v d.current p → TellsAt g e fall s m → each_up (may_say ks g) n v (words_to p m.outs) ≡ true
  pub votes : (v : Bool) → is_live (link_with m.next.arcs p) ≡ true → VotesAt v d.current p → VotesAt (voting_from v (words_to p m.outs)) m.next.current p

-- ---- of a history

abbrev pub deeds_of : Origin → List Entry → Deeds
deeds_of o h = record {
  committed = λ t. decided o t h;
  rolled = λ t. rolled o t h;
  left = λ t. has_left o t h;
  completed = λ t. completed_none o t h;
  damaged = λ t. has_damage t (records o h);
  told = λ u r t. has_told_in (out_tells (is_complete u r)) o t h;
}

-- to the superior, on each pair
pub record SpeaksUp (o : Origin) (up : Option Addr) (h : List Entry) : Type 0 where
  pub words : (p : ℕ) (x y : Mark) → is_at up p ≡ true → each_up (may_say (begun_keys (accepted_on x y p h)) (deeds_of o h)) 0 false (sent_on x y p h) ≡ true
  pub votes : (p : ℕ) (x y : Mark) (s k : ℕ) → is_at up p ≡ true → link_with (digest o h).arcs p ≡ Live x y s k
      → VotesAt (voting_from false (sent_on x y p h)) (digest o h).current p
