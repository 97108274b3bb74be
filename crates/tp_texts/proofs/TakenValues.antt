-- Names, marks, keys, children and what is made of them are read back from their bytes.
use Rattle.std.proofs.Common.{◌≡◌, ℕ, ◌<◌, ◌≤◌, ◌^◌, ◌+◌, ◌*◌, ◌%◌, Option, Some, None, List, [], ◌∷◌, ◌++◌, length, drop, get_or, subst, Bool, true, refl, sym, ap, ◌∙◌, append_assoc, arith, IsTrue}
use Rattle.std.proofs.lemmas.List.{drop_more, drop_all}
use Rattle.std.proofs.lemmas.Nat.{from_be_bytes-to_be_bytes_8}
use Rattle.std.specs.Int.{w64, from_be_bytes}
use Rattle.tp_names.specs.declared.identifiers.Mark.{Mark}
use Rattle.tp_names.specs.declared.identifiers.Aaid.{Aaid}
use Rattle.tp_names.specs.declared.identifiers.Addr.{Addr}
use Rattle.tp_names.specs.declared.identifiers.BranchId.{BranchId}
use Rattle.tp_names.specs.declared.identifiers.NodeKey.{NodeKey}
use Rattle.tp_names.specs.declared.children.Child.{Child}
use Rattle.tp_names.specs.declared.outcome.Outcome.{Outcome}
use Rattle.tp_names.specs.Bytes.{byte_bytes, short_bytes, long_bytes, site_bytes, mark_bytes, aaid_bytes, branch_bytes, maybe_bytes, key_bytes, addr_bytes, outcome_bytes, child_bytes, each_child_bytes, is_site_name}
use Rattle.tp_names.specs.Reading.{Reader, make, ◌and◌, that, then_read, chosen_by, mark_of, aaid_of, branch_of, key_of, addr_of, child_of, read_byte, read_short, read_long, read_many, read_site, read_mark, read_aaid, read_branch, read_maybe, read_key, read_addr, read_outcome, read_child}
use Rattle.tp_names.proofs.Sequences.{both_read}
use Rattle.tp_names.proofs.Passing.{that_read}
use Rattle.tp_names.proofs.Numbers.{short_back}
use Rattle.tp_names.proofs.Sites.{site_taken}
use Rattle.tp_texts.specs.Texts.{Takes}

-- ---- parts, one after the other

pub made : {A : Type 0} (a : A) → Takes (make a) [] a
made a = record { reads = λ rest. refl }

pub both : {A B : Type 0} {f : Reader (A → B)} {r : Reader A} {s t : List ℕ} {g : A → B} {a : A} → Takes f s g → Takes r t a → Takes (f and r) (s ++ t) (g a)
both {f} {r} {s} {t} {g} {a} x y = record {
  reads = λ rest. ap (f and r) (append_assoc s t rest) ∙ both_read f r (s ++ (t ++ rest)) (t ++ rest) rest g a (x.reads (t ++ rest)) (y.reads rest);
}

-- a value that passes a test, and what it chooses
pub counted : {A B : Type 0} (test : A → Bool) (r : Reader A) (f : A → Reader B) (s t : List ℕ) (n : A) (v : B) → test n ≡ true → Takes r s n → Takes (f n) t v → Takes (chosen_by (that test r) f) (s ++ t) v
counted {A} {B} test r f s t n v passes x y = record {
  reads = λ rest.
      ap (chosen_by (that test r) f) (append_assoc s t rest)
      ∙ ap (λ (o : Option (A × List ℕ)). then_read o f) (that_read test r (s ++ (t ++ rest)) n (t ++ rest) (x.reads (t ++ rest)) passes)
      ∙ y.reads rest;
}

-- ---- numbers and names

pub byte_taken : (n : ℕ) → n < 2 ^ 8 → Takes read_byte (byte_bytes n) n
byte_taken n h = record { reads = λ rest. let e : 0 * 256 + n % 256 ≡ n = omega arith in ap (λ (m : ℕ). Some (m, rest)) e }

pub short_taken : (n : ℕ) → n < 2 ^ 16 → Takes read_short (short_bytes n) n
short_taken n h = record { reads = λ rest. short_back n rest h }

-- eight bytes, as they are read and as they stand for a number
eight : (a b c d e f g i : ℕ) → (((((((0 * 256 + a) * 256 + b) * 256 + c) * 256 + d) * 256 + e) * 256 + f) * 256 + g) * 256 + i ≡ from_be_bytes w64 (a ∷ b ∷ c ∷ d ∷ e ∷ f ∷ g ∷ i ∷ [])
eight a b c d e f g i = omega arith

pub long_taken : (n : ℕ) → n < 2 ^ 64 → Takes read_long (long_bytes n) n
long_taken n h = record { reads = λ rest. ap (λ (m : ℕ). Some (m, rest)) (eight _ _ _ _ _ _ _ _ ∙ from_be_bytes-to_be_bytes_8 n h) }

pub name_taken : (s : List ℕ) → IsTrue (is_site_name s) → Takes read_site (site_bytes s) s
name_taken s h = record { reads = λ rest. site_taken s rest h }

pub mark_taken : (m : Mark) → m.boot < 2 ^ 64 → m.node < 2 ^ 16 → m.count < 2 ^ 64 → Takes read_mark (mark_bytes m) m
mark_taken m hb hn hc = both (both (both (made mark_of) (long_taken m.boot hb)) (short_taken m.node hn)) (long_taken m.count hc)

pub aaid_taken : (a : Aaid) → Takes read_site (site_bytes a.owner) a.owner → Takes read_mark (mark_bytes a.mark) a.mark → Takes read_aaid (aaid_bytes a) a
aaid_taken a x y = both (both (made aaid_of) x) y

pub branch_taken : (b : BranchId) → Takes read_site (site_bytes b.superior) b.superior → Takes read_mark (mark_bytes b.mark) b.mark → Takes read_branch (branch_bytes b) b
branch_taken b x y = both (both (made branch_of) x) y

pub addr_taken : (a : Addr) → Takes read_site (site_bytes a.site) a.site → a.node < 2 ^ 16 → Takes read_addr (addr_bytes a) a
addr_taken a x h = both (both (made addr_of) x) (short_taken a.node h)

pub child_taken : (c : Child) → Takes read_addr (addr_bytes c.addr) c.addr → Takes read_branch (branch_bytes c.branch) c.branch → Takes read_child (child_bytes c) c
child_taken c x y = both (both (made child_of) x) y

-- ---- keys, outcomes, lists of children

pub key_taken : (k : NodeKey) → Takes read_aaid (aaid_bytes k.aaid) k.aaid → Takes (read_maybe read_branch) (maybe_bytes branch_bytes k.branch) k.branch → Takes read_key (key_bytes k) k
key_taken k x y = both (both (made key_of) x) y

pub no_branch_taken : Takes (read_maybe read_branch) (maybe_bytes branch_bytes None) None
no_branch_taken = record { reads = λ rest. refl }

pub some_branch_taken : (b : BranchId) → Takes read_branch (branch_bytes b) b → Takes (read_maybe read_branch) (maybe_bytes branch_bytes (Some b)) (Some b)
some_branch_taken b x = record { reads = λ rest. (both (made (λ (a : BranchId). Some a)) x).reads rest }

pub outcome_taken : (o : Outcome) → Takes read_outcome (outcome_bytes o) o
outcome_taken Outcome.Commit = record { reads = λ rest. refl }
outcome_taken Outcome.Rollback = record { reads = λ rest. refl }

-- so many children, one after the other
abbrev pub AreTaken : List Child → Type 0
AreTaken cs = Takes (read_many read_child (length cs)) (each_child_bytes cs) cs

pub no_child_taken : AreTaken []
no_child_taken = record { reads = λ rest. refl }

pub one_more_taken : (c : Child) (cs : List Child) → Takes read_child (child_bytes c) c → AreTaken cs → AreTaken (c ∷ cs)
one_more_taken c cs x y = both (both (made (λ (a : Child) (more : List Child). a ∷ more)) x) y

-- at a place of a list: the child there, and those after it
pub child_at_taken : (cs : List Child) (i : ℕ) (c : Child) → i < length cs → c ≡ get_or cs i c → Takes read_child (child_bytes c) c → AreTaken (drop (i + 1) cs) → AreTaken (drop i cs)
child_at_taken cs i c within is x y =
    let more : drop i cs ≡ c ∷ drop (i + 1) cs = drop_more cs i c within ∙ ap (λ (d : Child). d ∷ drop (i + 1) cs) (sym is) in
    subst AreTaken (sym more) (one_more_taken c (drop (i + 1) cs) x y)

pub none_left_taken : (cs : List Child) (i : ℕ) → length cs ≤ i → AreTaken (drop i cs)
none_left_taken cs i past = subst AreTaken (sym (drop_all i cs past)) no_child_taken
