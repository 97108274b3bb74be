-- What a start finds in its log, beside what makes histories legal: that the roots in it are of earlier boots.
use Rattle.std.specs.Prelude.{ℕ, ◌≡◌, ◌&&◌, Bool, true, Option, None, Some, List, [], ◌∷◌}
use Rattle.tp_names.specs.declared.identifiers.NodeKey.{NodeKey}
use Rattle.tp_names.specs.declared.identifiers.Addr.{Addr}
use Rattle.tp_logrec.specs.declared.record.LogRec.{LogRec}
use Rattle.tp_model.specs.Parts.{Origin, Entry}
use Rattle.tp_model.specs.Keys.{key_of}
use Rattle.tp_model.specs.Legal.{IsLegal, is_older}

abbrev pub are_earlier : ℕ → List LogRec → Bool
are_earlier boot [] = true
are_earlier boot (r ∷ rs) = elim (key_of r) [ None ↦ true | Some k ↦ is_older boot k ] && are_earlier boot rs

-- a legal history after such a start
pub record IsFounded (o : Origin) (up : Option Addr) (h : List Entry) : Type 0 where
  pub legal : IsLegal o up h
  pub earlier : are_earlier o.start.boot o.start.records ≡ true
