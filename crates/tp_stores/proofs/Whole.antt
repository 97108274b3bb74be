-- All that is told may be heard.
use Rattle.std.proofs.Common.{◌≡◌, Bool, true, false, refl, sym, append-nil, List, [], ◌∷◌}
use Rattle.tp_records.specs.declared.indication.Indication.{Indication}
use Rattle.tp_model.specs.Parts.{Entry}
use Rattle.tp_model.specs.Questions.{is_crash}
use Rattle.tp_model.specs.World.{Node}
use Rattle.tp_bound.specs.Kept.{Heard}
use Rattle.tp_stores.specs.Stores.{told_in, all_told, IsHeardOf, IsHeardIn, heard_of, IsHeardAt}

whole : (stops : Bool) (told : List Indication) → IsHeardOf stops told told
whole false told = refl
whole true told = ([], sym (append-nil told))

pub all_heard : (stops : Bool) (h : List Entry) (is : List Indication) → is ≡ all_told h → IsHeardIn stops h is
all_heard stops [] is same = same
all_heard stops (e ∷ h) is same = (all_told h, told_in e.outs, same, whole stops (told_in e.outs), all_heard (is_crash e.event) h (all_told h) refl)

pub all_is_heard : (x : Node) (hs : List Heard) → heard_of hs ≡ all_told x.history → IsHeardAt x hs
all_is_heard x hs same = all_heard false x.history (heard_of hs) same
