-- Of which trees a node logs: of the one that is current, and of those that are kept.
use Rattle.std.specs.Prelude.{◌≡◌, ◌⊎◌, ◌||◌, Bool, true, false, Option, Some, None, List, [], ◌∷◌}
use Rattle.tp_names.specs.declared.identifiers.Aaid.{Aaid}
use Rattle.tp_names.specs.Same.{is_aaid}
use Rattle.tp_logrec.specs.declared.record.LogRec.{LogRec}
use Rattle.tp_model.specs.declared.recovery.Kept.{Kept}
use Rattle.tp_model.specs.Parts.{Who, Origin, Entry, Digest}
use Rattle.tp_model.specs.Dialogues.{is_active}
use Rattle.tp_model.specs.Node.{Move, phase_of}
use Rattle.tp_model.specs.History.{digest, records}
use Rattle.tp_model.specs.Outcomes.{is_now}
use Rattle.tp_model.specs.Promises.{is_of_tree, has_record}
use Rattle.tp_steps.specs.Moves.{IsLate}
use Rattle.tp_steps.specs.Traces.{is_old}
use Rattle.tp_histories.specs.Members.{is_known}

-- a transaction of the tree is kept
abbrev pub keeps_tree : Aaid → List Kept → Bool
keeps_tree t [] = false
keeps_tree t (k ∷ ks) = is_aaid t k.key.aaid || keeps_tree t ks

abbrev pub rec_of_tree : Aaid → Option LogRec → Bool
rec_of_tree t None = false
rec_of_tree t (Some r) = is_of_tree t r

-- an event whose prelude left s, from d on
pub record IsLoggedMove (who : Who) (t : Aaid) (s d : Digest) (m : Move) : Type 0 where
  -- it logs of what is current, or kept
  pub logs : rec_of_tree t m.rec ≡ true → (is_now t s.current ≡ true) ⊎ (keeps_tree t d.kept ≡ true)
  -- what is kept was kept, or is logged
  pub keeps : keeps_tree t m.next.kept ≡ true → (keeps_tree t d.kept ≡ true) ⊎ (rec_of_tree t m.rec ≡ true)
  -- after a record of what is current that is no longer active
  pub past : IsLate d → is_old who d t.mark ≡ true → rec_of_tree t m.rec ≡ true → keeps_tree t d.kept ≡ false
      → is_now t m.next.current ≡ true → is_active (phase_of m.next) ≡ false

-- of a history and a tree
pub record IsBare (o : Origin) (h : List Entry) (t : Aaid) : Type 0 where
  pub known : has_record (is_of_tree t) (records o h) ≡ true → is_known o t h ≡ true
  pub kept : keeps_tree t (digest o h).kept ≡ true → has_record (is_of_tree t) (records o h) ≡ true
  -- while it is active nothing is logged of it
  pub active : has_record (is_of_tree t) (records o h) ≡ true → is_now t (digest o h).current ≡ true → is_active (phase_of (digest o h)) ≡ false
