-- What a store holds: keys with their values, each key once, in ascending order of the keys' bytes.
-- It knows no transaction: which writes are made is no matter of this file.
use Rattle.std.specs.Prelude.{ℕ, Option, List, [], ◌∷◌}
use Rattle.std.specs.Ordering.{nat_cmp}
use Rattle.std.specs.declared.cmp.Ordering.{Ordering}
use Rattle.std.specs.Cmp.Lexicographic.{slice_cmp}
use Rattle.std.specs.Map.{keys_of, lookup, remove_entry}
use Rattle.std.specs.BTreeMap.{insert_entry, is_at}
use Rattle.std.specs.List.Sorted.{IsStrictlySortedBy}
use Rattle.tp_bound.specs.declared.write.Write.{Write}

-- keys with their values
abbrev pub Content : Type 0
Content = List (List ℕ × List ℕ)

-- the order of bytes: the first byte that differs decides, and a prefix comes before what goes on
abbrev pub compare : List ℕ → List ℕ → Ordering
compare = slice_cmp nat_cmp

-- the keys ascend
abbrev pub Ascends : Content → Type 0
Ascends content = IsStrictlySortedBy compare (keys_of content)

-- the value of a key
abbrev pub value_of : Content → List ℕ → Option (List ℕ)
value_of content key = lookup (is_at (compare key)) content

-- the key gets the value: in its place in the order where it is new
abbrev pub put : Content → List ℕ → List ℕ → Content
put content key value = insert_entry compare content key value

-- the key is taken out, where it is there
abbrev pub without : Content → List ℕ → Content
without content key = remove_entry (is_at (compare key)) content

abbrev pub write_made : Content → Write → Content
write_made content (Write.Put key value) = put content key value
write_made content (Write.Remove key) = without content key

-- the writes are made, one after the other
abbrev pub made : Content → List Write → Content
made content [] = content
made content (w ∷ ws) = made (write_made content w) ws
