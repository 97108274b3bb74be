-- Kept transactions with a change of one of them that waits.
use Rattle.std.specs.Prelude.{Box, ℕ, ◌≡◌, if◌then◌else◌, Option, Some, None, List, [], ◌∷◌, ◌++◌}
use Rattle.std.specs.Option.{option_to_list}
use Rattle.std.specs.declared.alloc.Global.{Global}
use Rattle.tp_names.specs.declared.identifiers.BranchId.{BranchId}
use Rattle.tp_names.specs.declared.identifiers.NodeKey.{NodeKey}
use Rattle.tp_names.specs.Same.{is_key}
use Rattle.tp_model.specs.declared.recovery.Kept.{Kept}
use Rattle.tp_model.specs.Recovery.{find_kept, without_kept}
use Rattle.tp_node_state.specs.Kept.{with_kept, owes, at_age}
use Rattle.tp_node_state.specs.declared.change.Change.{Change}

-- what is there in the place of one
abbrev pub changed_one : Option Change → Kept → Option Kept
changed_one None x = Some x
changed_one (Some (Change.Put b)) x = if is_key x.key b.value.key then Some b.value else Some x
changed_one (Some (Change.Remove q)) x = if is_key x.key q then None else Some x

-- each with the change; one that is new is not among them
abbrev pub changed_all : Option Change → List Kept → List Kept
changed_all c [] = []
changed_all c (x ∷ xs) = option_to_list (changed_one c x) ++ changed_all c xs

-- the one that is new
abbrev pub newcomer : Option Change → List Kept → Option Kept
newcomer None ks = None
newcomer (Some (Change.Remove q)) ks = None
newcomer (Some (Change.Put b)) ks = elim (find_kept ks b.value.key) [ None ↦ Some b.value | Some x ↦ None ]

-- the list with the change
abbrev pub changed : Option Change → List Kept → List Kept
changed None ks = ks
changed (Some (Change.Put b)) ks = with_kept ks b.value
changed (Some (Change.Remove q)) ks = without_kept ks q

-- the oldest with one that is put, or without the one with a key
abbrev pub first_put : Option Kept → Kept → Option Kept
first_put None k = Some k
first_put (Some x) k = if is_key x.key k.key then Some k else Some x

abbrev pub first_removed : Option Kept → Option Kept → NodeKey → Option Kept
first_removed None o q = None
first_removed (Some x) o q = if is_key x.key q then o else Some x

-- two changes by equal ones, wherever these stand
abbrev pub AreSame : Change → Change → Type 0
AreSame (Change.Put b) (Change.Put d) = b.value ≡ d.value
AreSame (Change.Put b) (Change.Remove q) = ⊥
AreSame (Change.Remove q) (Change.Put b) = ⊥
AreSame (Change.Remove q) (Change.Remove r) = q ≡ r

-- the key of the one of an age with the change, where it owes the branch
abbrev pub owing_at : List (ℕ × Box Kept Global) → Option Change → Option BranchId → ℕ → Option NodeKey
owing_at es c b a =
    elim (at_age es a) [ None ↦ None | Some k ↦ elim (changed_one c k.value) [ None ↦ None | Some x ↦ if owes x b then Some x.key else None ] ]

-- of the first of these ages that owes it
abbrev pub first_among : List (ℕ × Box Kept Global) → Option Change → Option BranchId → List ℕ → Option NodeKey
first_among es c b [] = None
first_among es c b (a ∷ ns) = elim (owing_at es c b a) [ None ↦ first_among es c b ns | Some k ↦ Some k ]
