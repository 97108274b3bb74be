-- What one history decides in one tree.
use Rattle.std.specs.Prelude.{◌≡◌, Bool, true, false, List, [], ◌∷◌, ◌||◌}
use Rattle.tp_names.specs.declared.identifiers.Aaid.{Aaid}
use Rattle.tp_names.specs.Same.{is_aaid}
use Rattle.tp_logrec.specs.declared.record.LogRec.{LogRec}
use Rattle.tp_model.specs.Parts.{Origin, Entry}
use Rattle.tp_model.specs.Dialogues.{is_active, is_committing, is_rolling}
use Rattle.tp_model.specs.Node.{phase_of}
use Rattle.tp_model.specs.History.{digest, records}
use Rattle.tp_model.specs.Outcomes.{is_now, decided, rolled}
use Rattle.tp_histories.specs.Members.{is_known}

-- the record is Ready of the tree
abbrev pub readies_tree : Aaid → LogRec → Bool
readies_tree t (LogRec.Ready n k a cs) = is_aaid t k.aaid
readies_tree t _ = false

abbrev pub has_ready_in : Aaid → List LogRec → Bool
has_ready_in t [] = false
has_ready_in t (r ∷ rs) = readies_tree t r || has_ready_in t rs

pub record IsFated (o : Origin) (h : List Entry) (t : Aaid) : Type 0 where
  -- the phase of a current tree is what was logged and what rolled
  pub commit_now : decided o t h ≡ true → is_now t (digest o h).current ≡ true → is_committing (phase_of (digest o h)) ≡ true
  pub rolled_now : rolled o t h ≡ true → is_now t (digest o h).current ≡ true → is_rolling (phase_of (digest o h)) ≡ true
  pub ready_now : has_ready_in t (records o h) ≡ true → is_now t (digest o h).current ≡ true → is_active (phase_of (digest o h)) ≡ false
  pub committing : is_now t (digest o h).current ≡ true → is_committing (phase_of (digest o h)) ≡ true → decided o t h ≡ true
  pub rolling : is_now t (digest o h).current ≡ true → is_rolling (phase_of (digest o h)) ≡ true → rolled o t h ≡ true
  -- a tree of which anything is logged, or that rolled, is known
  pub commit_known : decided o t h ≡ true → is_known o t h ≡ true
  pub rolled_known : rolled o t h ≡ true → is_known o t h ≡ true
  pub ready_known : has_ready_in t (records o h) ≡ true → is_known o t h ≡ true
  -- nothing is both committed and rolled back
  pub never_both : decided o t h ≡ true → rolled o t h ≡ true → ⊥
