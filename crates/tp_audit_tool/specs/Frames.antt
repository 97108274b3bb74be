-- What the frames of an audit ask for: a site's log is opened, or its bytes go on.
use Rattle.std.specs.Prelude.{ℕ, ◌+◌, ◌*◌, ◌==◌, ◌&&◌, nat_le, Bool, true, false, Option, Some, None, option_map, List, [], ◌∷◌, length}
use Rattle.tp_names.specs.Bytes.{is_site_name}
use Rattle.tp_audit_tool.specs.declared.frame.Frame.{Frame}

pub data Asked : Type 0 where
  Opens : List ℕ → Asked
  Goes_on : List ℕ → Asked

-- the name of a site after its length
abbrev pub site_in : ℕ → List ℕ → Option (List ℕ)
site_in n name = elim ((length name == n) && is_site_name name) [ true ↦ Some name | false ↦ None ]

abbrev pub opening_in : List ℕ → Option Asked
opening_in [] = None
opening_in (n ∷ name) = option_map (λ s. Opens s) (site_in n name)

-- so many bytes, one at least and 2,000 at most
abbrev pub is_piece : ℕ → List ℕ → Bool
is_piece n bytes = (length bytes == n) && nat_le 1 n && nat_le n 2000

-- a piece after its length, of which the high byte stands first
abbrev pub going_on_in : List ℕ → Option Asked
going_on_in [] = None
going_on_in (high ∷ []) = None
going_on_in (high ∷ low ∷ bytes) = elim (is_piece (high * 256 + low) bytes) [ true ↦ Some (Goes_on bytes) | false ↦ None ]

-- what a body asks for, where it is a frame of an audit
abbrev pub asked_in : List ℕ → Option Asked
asked_in [] = None
asked_in (code ∷ rest) = elim (code == 64) [ true ↦ opening_in rest | false ↦ elim (code == 65) [ true ↦ going_on_in rest | false ↦ None ] ]

-- as the code has it
abbrev pub asked_by : Frame → Asked
asked_by (Frame.Opens name) = Opens name
asked_by (Frame.GoesOn bytes) = Goes_on bytes.now
