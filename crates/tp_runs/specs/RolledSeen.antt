-- That a node rolled in a tree, as it is seen from what is current before and after each entry, and from who left. No event is
-- looked at but for leaving.
use Rattle.std.specs.Prelude.{◌≡◌, ◌&&◌, ◌||◌, not, Bool, true, false, Option, Some, None, List, [], ◌∷◌}
use Rattle.tp_names.specs.declared.identifiers.Aaid.{Aaid}
use Rattle.tp_names.specs.declared.identifiers.Addr.{Addr}
use Rattle.tp_names.specs.Same.{is_aaid}
use Rattle.tp_model.specs.Parts.{Origin, Entry, Key, Root, Under, Current}
use Rattle.tp_model.specs.Dialogues.{is_active, is_ready, is_rolling}
use Rattle.tp_model.specs.Transactions.{aaid_of}
use Rattle.tp_model.specs.History.{digest}
use Rattle.tp_model.specs.Legal.{IsLegal}
use Rattle.tp_model.specs.Outcomes.{is_unchanged, rolled}

-- the tree is current, and rolls
abbrev pub is_rolling_at : Aaid → Option Current → Bool
is_rolling_at t None = false
is_rolling_at t (Some c) = is_aaid t (aaid_of c.key) && is_rolling c.phase

-- it is current, and active or ready
abbrev pub is_open_at : Aaid → Option Current → Bool
is_open_at t None = false
is_open_at t (Some c) = is_aaid t (aaid_of c.key) && (is_active c.phase || is_ready c.phase)

-- both are of a root, or both of a branch
abbrev pub is_same_end : Key → Key → Bool
is_same_end (Root t) (Root u) = true
is_same_end (Root t) (Under u b a) = false
is_same_end (Under t b a) (Root u) = false
is_same_end (Under t b a) (Under u c d) = true

-- it is current after the entry too, as it was before. A superior may begin a tree with an identifier that the node draws later:
-- the node may then be in the tree as a branch before an entry, and as a root after it
abbrev pub goes_on : Aaid → Option Current → Option Current → Bool
goes_on t None behind = false
goes_on t (Some c) None = false
goes_on t (Some c) (Some u) = is_aaid t (aaid_of u.key) && is_same_end c.key u.key

-- it rolls after the entry; or it was active or ready, and is over without having left
abbrev pub rolls_seen : Aaid → Option Current → Bool → Option Current → Bool
rolls_seen t before leaves behind = is_rolling_at t behind || (is_open_at t before && not (goes_on t before behind) && not leaves)

abbrev pub rolled_seen : Origin → Aaid → List Entry → Bool
rolled_seen o t [] = false
rolled_seen o t (e ∷ h) = rolls_seen t (digest o h).current (is_unchanged e.event) (digest o (e ∷ h)).current || rolled_seen o t h

-- it tells what the events tell
abbrev pub RolledIsSeen : Type 0
RolledIsSeen = (o : Origin) (up : Option Addr) (t : Aaid) (h : List Entry) → IsLegal o up h → o.start.records ≡ [] → rolled_seen o t h ≡ rolled o t h
