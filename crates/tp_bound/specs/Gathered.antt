-- The writes of the transaction that goes on at a node, and what the data of its user adds to them.
use Rattle.std.specs.Prelude.{ℕ, ◌≡◌, ◌+◌, nat_le, Bool, true, false, Option, Some, None, List, [], ◌∷◌, ◌++◌, length}
use Rattle.std.specs.List.{AllByRecursion}
use Rattle.tp_names.specs.declared.identifiers.Aaid.{Aaid}
use Rattle.tp_names.specs.Grammar.{Grammar, HasText}
use Rattle.tp_names.specs.Reading.{Reader}
use Rattle.tp_bound.specs.declared.write.Write.{Write}
use Rattle.tp_bound.specs.Bodies.{whole, read_write, write_bytes, each_write_bytes}

-- the text is read as the value, whatever stands after it
pub record Takes {A : Type 0} (r : Reader A) (text : List ℕ) (v : A) : Type 0 where
  pub reads : (rest : List ℕ) → r (text ++ rest) ≡ Some (v, rest)

-- the texts of writes
abbrev pub write_grammar : Grammar Write
write_grammar = record { bytes = write_bytes; reader = read_write }

-- each write has a text
abbrev pub HaveTexts : List Write → Type 0
HaveTexts ws = AllByRecursion (HasText write_grammar) ws

pub record Gathered : Type 0 where
  pub aaid : Aaid
  pub writes : List Write
  pub spoilt : Bool

abbrev pub none_yet : Aaid → Gathered
none_yet aaid = record { aaid = aaid; writes = []; spoilt = false }

-- the write of which these bytes are the whole text
abbrev pub write_in : List ℕ → Option Write
write_in bytes = whole (read_write bytes)

abbrev pub fits_beside : List Write → ℕ → Bool
fits_beside writes bytes = nat_le (length (each_write_bytes writes) + bytes) 60000

abbrev pub spoilt : Gathered → Gathered
spoilt g = record { aaid = g.aaid; writes = g.writes; spoilt = true }

abbrev pub with_write : Gathered → Write → Bool → Gathered
with_write g w true = record { aaid = g.aaid; writes = g.writes ++ w ∷ []; spoilt = g.spoilt }
with_write g w false = spoilt g

-- data that is exactly one write is added, unless it is one too many
abbrev pub with_data : Gathered → List ℕ → Gathered
with_data g bytes = elim (write_in bytes) [ None ↦ spoilt g | Some w ↦ with_write g w (fits_beside g.writes (length bytes)) ]
