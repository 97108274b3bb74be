-- The bodies of a bound store, as bytes both ways: what is bound to a transaction, and that it is kept or dropped.
-- Which body may follow which, and what the store then holds, is no matter of this file.
use Rattle.std.specs.Prelude.{ℕ, ◌&&◌, nat_le, Bool, Option, Some, None, List, [], ◌∷◌, ◌++◌, length}
use Rattle.tp_names.specs.declared.identifiers.Aaid.{Aaid}
use Rattle.tp_names.specs.Bytes.{byte_bytes, short_bytes, aaid_bytes, octets_bytes}
use Rattle.tp_names.specs.Reading.{Reader, make, ◌and◌, that, chosen_by, read_byte, read_short, read_many, read_bytes, read_by_code, read_aaid, read_octets}
use Rattle.tp_names.specs.Grammar.{Grammar}
use Rattle.tp_bound.specs.declared.write.Write.{Write}
use Rattle.tp_bound.specs.declared.body.Body.{Body}

-- ---- writes

-- a key has 1 to 64 bytes
abbrev pub is_key_length : ℕ → Bool
is_key_length n = nat_le 1 n && nat_le n 64

-- a key, after its length
abbrev pub key_bytes : List ℕ → List ℕ
key_bytes key = byte_bytes (length key) ++ key

abbrev pub read_key : Reader (List ℕ)
read_key = chosen_by (that is_key_length read_byte) read_bytes

-- 01, a key and its value; or 02 and a key, which is taken out
abbrev pub write_bytes : Write → List ℕ
write_bytes (Write.Put key value) = 1 ∷ key_bytes key ++ octets_bytes value
write_bytes (Write.Remove key) = 2 ∷ key_bytes key

abbrev pub put_of : List ℕ → List ℕ → Write
put_of key value = Write.Put key value

abbrev pub remove_of : List ℕ → Write
remove_of key = Write.Remove key

abbrev pub write_kinds : List (ℕ × Reader Write)
write_kinds = (1, make put_of and read_key and read_octets 900) ∷ (2, make remove_of and read_key) ∷ []

abbrev pub read_write : Reader Write
read_write = read_by_code write_kinds

abbrev pub each_write_bytes : List Write → List ℕ
each_write_bytes [] = []
each_write_bytes (w ∷ ws) = write_bytes w ++ each_write_bytes ws

-- writes, after their count
abbrev pub writes_bytes : List Write → List ℕ
writes_bytes ws = short_bytes (length ws) ++ each_write_bytes ws

abbrev pub read_writes : Reader (List Write)
read_writes = chosen_by read_short (read_many read_write)

-- ---- bodies

abbrev pub body_bytes : Body → List ℕ
body_bytes (Body.Bind aaid writes) = 1 ∷ aaid_bytes aaid ++ writes_bytes writes
body_bytes (Body.Keep aaid) = 2 ∷ aaid_bytes aaid
body_bytes (Body.Drop aaid) = 3 ∷ aaid_bytes aaid

abbrev pub bind_of : Aaid → List Write → Body
bind_of aaid writes = Body.Bind aaid writes

abbrev pub keep_of : Aaid → Body
keep_of aaid = Body.Keep aaid

abbrev pub drop_of : Aaid → Body
drop_of aaid = Body.Drop aaid

abbrev pub body_kinds : List (ℕ × Reader Body)
body_kinds = (1, make bind_of and read_aaid and read_writes) ∷ (2, make keep_of and read_aaid) ∷ (3, make drop_of and read_aaid) ∷ []

abbrev pub read_body : Reader Body
read_body = read_by_code body_kinds

-- the texts of bodies
abbrev pub body_grammar : Grammar Body
body_grammar = record { bytes = body_bytes; reader = read_body }

abbrev pub whole : {A : Type 0} → Option (A × List ℕ) → Option A
whole None = None
whole (Some p) = elim p.1 [ [] ↦ Some p.0 | b ∷ bytes ↦ None ]

-- the body of which these bytes are the whole text
abbrev pub body_in : List ℕ → Option Body
body_in bytes = whole (read_body bytes)
