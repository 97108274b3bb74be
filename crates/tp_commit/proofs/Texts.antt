-- A record that is read from bytes names the superior exactly where its key has a branch.
use Rattle.std.proofs.Common.{◌≡◌, ◌==◌, ℕ, Bool, true, false, refl, ap, sym, ◌∙◌, Option, Some, None, List, [], ◌∷◌, ◌++◌}
use Rattle.tp_names.specs.declared.identifiers.Aaid.{Aaid}
use Rattle.tp_names.specs.declared.identifiers.Addr.{Addr}
use Rattle.tp_names.specs.declared.identifiers.BranchId.{BranchId}
use Rattle.tp_names.specs.declared.identifiers.NodeKey.{NodeKey}
use Rattle.tp_names.specs.declared.children.Child.{Child}
use Rattle.tp_names.specs.Reading.{Reader, make, ◌and◌, applied, then_read, read_kind, read_byte, read_short, read_aaid, read_branch, read_addr}
use Rattle.tp_names.specs.Bytes.{short_bytes, key_bytes}
use Rattle.tp_names.specs.Grammar.{HasText}
use Rattle.tp_logrec.specs.declared.record.LogRec.{LogRec}
use Rattle.tp_logrec.specs.declared.record.LogVersion.{LogVersion}
use Rattle.tp_logrec.specs.RecordText.{superior_bytes, children_bytes}
use Rattle.tp_logrec.specs.RecordReading.{read_children, read_branch_and_superior, key_and_superior_of, read_key_and_superior, commit_of, record_grammar}
use Rattle.tp_commit.specs.Branch.{has_superior}

abbrev Pair : Type 0
Pair = Option BranchId × Option Addr

-- both, or neither
abbrev is_whole : Option (Pair × List ℕ) → Bool
is_whole None = true
is_whole (Some p) = elim p.0.0 [ None ↦ true | Some b ↦ elim p.0.1 [ None ↦ false | Some a ↦ true ] ]

both_read : (bytes : List ℕ) → is_whole ((make {A = BranchId → Addr → Pair} (λ b a. (Some b, Some a)) and read_branch and read_addr) bytes) ≡ true
both_read bytes = first (read_branch bytes)
  where
    second : (b : BranchId) (o : Option (Addr × List ℕ)) → is_whole (elim o as (λ _. Option (Pair × List ℕ)) [ None ↦ None | Some q ↦ Some ((Some b, Some q.0), q.1) ]) ≡ true
    second b None = refl
    second b (Some q) = refl

    first : (o : Option (BranchId × List ℕ))
        → is_whole (applied {A = Addr} {B = Pair} (elim o as (λ _. Option ((Addr → Pair) × List ℕ)) [ None ↦ None | Some q ↦ Some ((λ a. (Some q.0, Some a)), q.1) ]) read_addr) ≡ true
    first None = refl
    first (Some q) = second q.0 (read_addr q.1)

pair_read : (bytes : List ℕ) → is_whole (read_branch_and_superior bytes) ≡ true
pair_read bytes = kind (read_byte bytes)
  where
    by : (x y : Bool) (more : List ℕ)
        → is_whole (elim x as (λ _. Option (Pair × List ℕ)) [
          | true ↦ Some ((None, None), more)
          | false ↦ elim y as (λ _. Option (Pair × List ℕ)) [ true ↦ (make {A = BranchId → Addr → Pair} (λ b a. (Some b, Some a)) and read_branch and read_addr) more | false ↦ None ]
        ]) ≡ true
    by true y more = refl
    by false true more = both_read more
    by false false more = refl

    kinds : List (ℕ × Reader Pair)
    kinds = (0, make (None, None)) ∷ (1, make {A = BranchId → Addr → Pair} (λ b a. (Some b, Some a)) and read_branch and read_addr) ∷ []

    kind : (o : Option (ℕ × List ℕ)) → is_whole (then_read o (read_kind kinds)) ≡ true
    kind None = refl
    kind (Some p) = by (0 == p.0) (1 == p.0) p.1

-- ---- a key, with its superior

abbrev is_keyed : Option ((NodeKey × Option Addr) × List ℕ) → Bool
is_keyed None = true
is_keyed (Some p) = has_superior p.0.0 p.0.1

key_read : (bytes : List ℕ) → is_keyed (read_key_and_superior bytes) ≡ true
key_read bytes = first (read_aaid bytes)
  where
    second : (t : Aaid) (o : Option (Pair × List ℕ)) → is_whole o ≡ true → is_keyed (elim o as (λ _. Option ((NodeKey × Option Addr) × List ℕ)) [ None ↦ None | Some q ↦ Some (key_and_superior_of t q.0, q.1) ]) ≡ true
    second t None h = refl
    second t (Some q) h = h

    first : (o : Option (Aaid × List ℕ))
        → is_keyed (applied {A = Pair} {B = NodeKey × Option Addr} (elim o as (λ _. Option ((Pair → NodeKey × Option Addr) × List ℕ)) [ None ↦ None | Some q ↦ Some (key_and_superior_of q.0, q.1) ]) read_branch_and_superior) ≡ true
    first None = refl
    first (Some q) = second q.0 (read_branch_and_superior q.1) (pair_read q.1)

-- ---- a commitment

abbrev is_told : Option (LogRec × List ℕ) → Bool
is_told None = true
is_told (Some p) = elim p.0 [
  | LogRec.Boot n ↦ true
  | LogRec.Ready n k s cs ↦ true
  | LogRec.Heuristic n k u ↦ true
  | LogRec.Commit n k s cs ↦ has_superior k s
  | LogRec.Damage n k s u r cs ↦ true
  | LogRec.End n k u ↦ true
]

commit_read : (bytes : List ℕ) → is_told ((make commit_of and read_short and read_key_and_superior and read_children LogVersion.Two) bytes) ≡ true
commit_read bytes = first (read_short bytes)
  where
    third : (n : ℕ) (p : NodeKey × Option Addr) → has_superior p.0 p.1 ≡ true → (o : Option (List Child × List ℕ)) → is_told (elim o as (λ _. Option (LogRec × List ℕ)) [ None ↦ None | Some q ↦ Some (commit_of n p q.0, q.1) ]) ≡ true
    third n p h None = refl
    third n p h (Some q) = h

    second : (n : ℕ) (o : Option ((NodeKey × Option Addr) × List ℕ)) → is_keyed o ≡ true
        → is_told (applied {A = List Child} {B = LogRec} (elim o as (λ _. Option ((List Child → LogRec) × List ℕ)) [ None ↦ None | Some q ↦ Some (commit_of n q.0, q.1) ]) (read_children LogVersion.Two)) ≡ true
    second n None h = refl
    second n (Some q) h = third n q.0 h (read_children LogVersion.Two q.1)

    first : (o : Option (ℕ × List ℕ))
        → is_told (applied {A = List Child} {B = LogRec} (applied {A = NodeKey × Option Addr} {B = List Child → LogRec} (elim o as (λ _. Option ((NodeKey × Option Addr → List Child → LogRec) × List ℕ)) [ None ↦ None | Some q ↦ Some (commit_of q.0, q.1) ]) read_key_and_superior) (read_children LogVersion.Two)) ≡ true
    first None = refl
    first (Some q) = second q.0 (read_key_and_superior q.1) (key_read q.1)

pub commit_tells : (n : ℕ) (k : NodeKey) (s : Option Addr) (cs : List Child) → HasText (record_grammar LogVersion.Two) (LogRec.Commit n k s cs) → has_superior k s ≡ true
commit_tells n k s cs h = sym (ap is_told h) ∙ commit_read ((short_bytes n ++ key_bytes k) ++ superior_bytes s ++ children_bytes LogVersion.Two cs)
