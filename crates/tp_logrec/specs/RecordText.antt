-- The bytes of one log record, in each version of the log. The two differ in the count of children alone.
use Rattle.std.specs.Prelude.{ℕ, Option, Some, None, List, [], ◌∷◌, ◌++◌, length}
use Rattle.tp_names.specs.declared.identifiers.Addr.{Addr}
use Rattle.tp_names.specs.declared.identifiers.NodeKey.{NodeKey}
use Rattle.tp_names.specs.declared.children.Child.{Child}
use Rattle.tp_names.specs.Bytes.{byte_bytes, short_bytes, long_bytes, addr_bytes, key_bytes, outcome_bytes, report_bytes, each_child_bytes}
use Rattle.tp_logrec.specs.declared.record.LogRec.{LogRec}
use Rattle.tp_logrec.specs.declared.record.LogVersion.{LogVersion}

abbrev pub count_bytes : LogVersion → ℕ → List ℕ
count_bytes LogVersion.One n = byte_bytes n
count_bytes LogVersion.Two n = short_bytes n

abbrev pub children_bytes : LogVersion → List Child → List ℕ
children_bytes ver cs = count_bytes ver (length cs) ++ each_child_bytes cs

-- the superior's address, where the key has a branch
abbrev pub superior_bytes : Option Addr → List ℕ
superior_bytes None = []
superior_bytes (Some a) = addr_bytes a

-- a key, and the superior's address after it
abbrev pub key_and_superior_bytes : NodeKey × Option Addr → List ℕ
key_and_superior_bytes p = key_bytes p.0 ++ superior_bytes p.1

-- what a record of a key begins with: its code, its node, and the key
abbrev pub head_bytes : ℕ → ℕ → NodeKey → List ℕ
head_bytes code n k = (code ∷ short_bytes n) ++ key_bytes k

abbrev pub record_bytes : LogVersion → LogRec → List ℕ
record_bytes ver (LogRec.Boot n) = 1 ∷ long_bytes n
record_bytes ver (LogRec.Ready n k a cs) = head_bytes 2 n k ++ addr_bytes a ++ children_bytes ver cs
record_bytes ver (LogRec.Heuristic n k o) = head_bytes 3 n k ++ outcome_bytes o
record_bytes ver (LogRec.Commit n k a cs) = head_bytes 4 n k ++ superior_bytes a ++ children_bytes ver cs
record_bytes ver (LogRec.Damage n k a o r cs) = head_bytes 5 n k ++ superior_bytes a ++ (outcome_bytes o ++ report_bytes r) ++ children_bytes ver cs
record_bytes ver (LogRec.End n k o) = head_bytes 6 n k ++ outcome_bytes o
