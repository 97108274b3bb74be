-- A record's text is a body: it has bytes, and fewer than a length in two bytes counts.
-- Each reader takes at most so many bytes.
use Rattle.std.proofs.Common.{◌≡◌, ◌≤◌, ◌<◌, ℕ, zero, suc, ◌+◌, ◌*◌, ◌==◌, nat_le, Bool, true, false, Option, Some, None, List, [], ◌∷◌, length, refl, sym, ap, ◌∙◌, arith}
use Rattle.std.proofs.lemmas.Bool.Decides.{nat_tests}
use Rattle.tp_names.specs.Bytes.{is_site_name}
use Rattle.tp_names.specs.Reading.{Reader, make, ◌and◌, applied, that, if_passes, chosen_by, then_read, number_from, read_byte, read_short, read_long, read_many, read_bytes, read_kind, read_by_code, read_site, read_mark, read_aaid, read_branch, read_addr, read_child, read_outcome, read_key, read_maybe, mark_of, aaid_of, branch_of, addr_of, child_of, key_of}
use Rattle.tp_names.specs.declared.identifiers.Addr.{Addr}
use Rattle.tp_names.specs.declared.identifiers.BranchId.{BranchId}
use Rattle.tp_names.specs.declared.outcome.Outcome.{Outcome}
use Rattle.tp_names.specs.declared.outcome.Report.{Report}
use Rattle.tp_logrec.specs.declared.record.LogRec.{LogRec}
use Rattle.tp_logrec.specs.declared.record.LogVersion.{LogVersion}
use Rattle.tp_logrec.specs.RecordReading.{read_children, read_some_branch, read_branch_key, read_branch_and_superior, read_key_and_superior, key_and_superior_of, read_harm, read_judgement, judgement_of, boot_of, ready_of, heuristic_of, commit_of, damage_of, end_of, record_kinds, read_record}
use Rattle.tp_journal.specs.Log.{IsBody}
use Rattle.std.specs.List.{AllByRecursion}
use Rattle.tp_journal.specs.Records.{HasText, text, texts, bodies_of, version_of}

abbrev AtMost : {A : Type 0} → ℕ → Reader A → Type 0
AtMost {A} n r = (bytes : List ℕ) (v : A) (rest : List ℕ) → r bytes ≡ Some (v, rest) → length bytes ≤ n + length rest

abbrev rest_of : {A : Type 0} → Option (A × List ℕ) → List ℕ
rest_of None = []
rest_of (Some p) = p.1

abbrev value_or : {A : Type 0} → A → Option (A × List ℕ) → A
value_or a None = a
value_or a (Some p) = p.0

at_most_more : {A : Type 0} (m n : ℕ) (r : Reader A) → m ≤ n → AtMost m r → AtMost n r
at_most_more m n r le small bytes v rest e = omega (arith, small bytes v rest e)

-- ---- parts put together

make_small : {A : Type 0} (a : A) → AtMost 0 (make a)
make_small a bytes v rest e = omega (arith, ap length (ap rest_of e))

second_small : {A B : Type 0} (n : ℕ) (r : Reader A) → AtMost n r → (g : A → B) (mid : List ℕ) (v : B) (rest : List ℕ) (o : Option (A × List ℕ)) → r mid ≡ o → (elim o as (λ _. Option (B × List ℕ)) [ None ↦ None | Some q ↦ Some (g q.0, q.1) ]) ≡ Some (v, rest) → length mid ≤ n + length rest
second_small n r small g mid v rest None is e = absurd cc
second_small n r small g mid v rest (Some q) is e = omega (arith, small mid q.0 q.1 is, ap length (ap rest_of e))

and_small : {A B : Type 0} (m n : ℕ) (f : Reader (A → B)) (r : Reader A) → AtMost m f → AtMost n r → AtMost (m + n) (f and r)
and_small {A} {B} m n f r first second bytes v rest e = go (f bytes) refl e
  where
    go : (o : Option ((A → B) × List ℕ)) → f bytes ≡ o → applied o r ≡ Some (v, rest) → length bytes ≤ m + n + length rest
    go None is e = absurd cc
    go (Some p) is e = omega (arith, first bytes p.0 p.1 is, second_small n r second p.0 p.1 v rest (r p.1) refl e)

chosen_small : {A B : Type 0} (m n : ℕ) (r : Reader A) (f : A → Reader B) → AtMost m r → ((bytes : List ℕ) (a : A) (mid : List ℕ) → r bytes ≡ Some (a, mid) → AtMost n (f a)) → AtMost (m + n) (chosen_by r f)
chosen_small {A} {B} m n r f first second bytes v rest e = go (r bytes) refl e
  where
    go : (o : Option (A × List ℕ)) → r bytes ≡ o → then_read o f ≡ Some (v, rest) → length bytes ≤ m + n + length rest
    go None is e = absurd cc
    go (Some p) is e = omega (arith, first bytes p.0 p.1 is, second bytes p.0 p.1 is p.1 v rest e)

passed : {A : Type 0} (test : A → Bool) (o : Option (A × List ℕ)) (v : A) (rest : List ℕ) → if_passes test o ≡ Some (v, rest) → (o ≡ Some (v, rest)) × (test v ≡ true)
passed test None v rest e = absurd cc
passed {A} test (Some p) v rest e = go (test p.0) refl e
  where
    go : (b : Bool) → test p.0 ≡ b → (elim b as (λ _. Option (A × List ℕ)) [ true ↦ Some p | false ↦ None ]) ≡ Some (v, rest) → (Some p ≡ Some (v, rest)) × (test v ≡ true)
    go true is e = (e, ap test (ap (value_or v) (sym e)) ∙ is)
    go false is e = absurd cc

that_small : {A : Type 0} (n : ℕ) (test : A → Bool) (r : Reader A) → AtMost n r → AtMost n (that test r)
that_small n test r small bytes v rest e = small bytes v rest (passed test (r bytes) v rest e).0

-- ---- numbers and lists

number_small : (k n : ℕ) → AtMost k (number_from k n)
number_small zero n bytes v rest e = omega (arith, ap length (ap rest_of e))
number_small (suc k) n [] v rest e = absurd cc
number_small (suc k) n (b ∷ bytes) v rest e = omega (arith, number_small k (n * 256 + b) bytes v rest e)

many_small : {A : Type 0} (c : ℕ) (r : Reader A) → AtMost c r → (k : ℕ) → AtMost (k * c) (read_many r k)
many_small c r small zero bytes v rest e = omega (arith, ap length (ap rest_of e))
many_small c r small (suc k) bytes v rest e =
    let whole = and_small (0 + c) (k * c) (make (λ a rest. a ∷ rest) and r) (read_many r k) (and_small 0 c (make (λ a rest. a ∷ rest)) r (make_small (λ a rest. a ∷ rest)) small) (many_small c r small k) bytes v rest e in
    let times : suc k * c ≡ c + k * c = grind arith in
    omega (arith, whole, times)

abbrev AreSmall : {A : Type 0} → ℕ → List (ℕ × Reader A) → Type 0
AreSmall n [] = Unit {0}
AreSmall n (k ∷ ks) = AtMost n k.1 × AreSmall n ks

kind_small : {A : Type 0} (n : ℕ) (ks : List (ℕ × Reader A)) → AreSmall n ks → (code : ℕ) → AtMost n (read_kind ks code)
kind_small n [] small code bytes v rest e = absurd cc
kind_small {A} n (k ∷ ks) small code bytes v rest e = go (kind_small n ks small.1 code) (k.0 == code) refl e
  where
    go : AtMost n (read_kind ks code) → (b : Bool) → (k.0 == code) ≡ b → (elim b as (λ _. Option (A × List ℕ)) [ true ↦ k.1 bytes | false ↦ read_kind ks code bytes ]) ≡ Some (v, rest) → length bytes ≤ n + length rest
    go others true is e = small.0 bytes v rest e
    go others false is e = others bytes v rest e

code_small : {A : Type 0} (n : ℕ) (ks : List (ℕ × Reader A)) → AreSmall n ks → AtMost (1 + n) (read_by_code ks)
code_small n ks small = chosen_small 1 n read_byte (read_kind ks) (number_small 1 0) (λ bytes code mid is. kind_small n ks small code)

-- ---- names

pub many_long : {A : Type 0} (r : Reader A) (k : ℕ) (bytes : List ℕ) (v : List A) (rest : List ℕ) → read_many r k bytes ≡ Some (v, rest) → length v ≡ k
many_long r zero bytes v rest e = ap length (ap (value_or []) (sym e))
many_long {A} r (suc k) bytes v rest e = go (many_long r k) (r bytes) refl e
  where
    last : ((mid : List ℕ) (w : List A) (left : List ℕ) → read_many r k mid ≡ Some (w, left) → length w ≡ k) → (a : A) (mid : List ℕ) (o : Option (List A × List ℕ)) → read_many r k mid ≡ o → (elim o as (λ _. Option (List A × List ℕ)) [ None ↦ None | Some q ↦ Some (a ∷ q.0, q.1) ]) ≡ Some (v, rest) → length v ≡ suc k
    last shorter a mid None is e = absurd cc
    last shorter a mid (Some q) is e = ap length (ap (value_or []) (sym e)) ∙ ap suc (shorter mid q.0 q.1 is)

    go : ((mid : List ℕ) (w : List A) (left : List ℕ) → read_many r k mid ≡ Some (w, left) → length w ≡ k) → (o : Option (A × List ℕ)) → r bytes ≡ o → applied (elim o as (λ _. Option ((List A → List A) × List ℕ)) [ None ↦ None | Some q ↦ Some ((λ rest. q.0 ∷ rest), q.1) ]) (read_many r k) ≡ Some (v, rest) → length v ≡ suc k
    go shorter None is e = absurd cc
    go shorter (Some p) is e = last shorter p.0 p.1 (read_many r k p.1) refl e

name_small : (v : List ℕ) → is_site_name v ≡ true → length v ≤ 16
name_small v is = grind (arith, nat_tests)

site_small : AtMost 17 read_site
site_small bytes v rest e = go (read_byte bytes) refl is.0
  where
    is : (chosen_by read_byte read_bytes bytes ≡ Some (v, rest)) × (is_site_name v ≡ true)
    is = passed is_site_name (chosen_by read_byte read_bytes bytes) v rest e

    go : (o : Option (ℕ × List ℕ)) → read_byte bytes ≡ o → then_read o read_bytes ≡ Some (v, rest) → length bytes ≤ 17 + length rest
    go None at e = absurd cc
    go (Some p) at e = omega (arith, number_small 1 0 bytes p.0 p.1 at, many_small 1 read_byte (number_small 1 0) p.0 p.1 v rest e, many_long read_byte p.0 p.1 v rest e, name_small v is.1)

mark_small : AtMost 18 read_mark
mark_small = and_small 10 8 _ read_long (and_small 8 2 _ read_short (and_small 0 8 (make mark_of) read_long (make_small mark_of) (number_small 8 0)) (number_small 2 0)) (number_small 8 0)

aaid_small : AtMost 35 read_aaid
aaid_small = and_small 17 18 _ read_mark (and_small 0 17 (make aaid_of) read_site (make_small aaid_of) site_small) mark_small

branch_small : AtMost 35 read_branch
branch_small = and_small 17 18 _ read_mark (and_small 0 17 (make branch_of) read_site (make_small branch_of) site_small) mark_small

addr_small : AtMost 19 read_addr
addr_small = and_small 17 2 _ read_short (and_small 0 17 (make addr_of) read_site (make_small addr_of) site_small) (number_small 2 0)

child_small : AtMost 54 read_child
child_small = and_small 19 35 _ read_branch (and_small 0 19 (make child_of) read_addr (make_small child_of) addr_small) branch_small

outcome_small : AtMost 1 read_outcome
outcome_small = code_small 0 ((1, make Outcome.Commit) ∷ (2, make Outcome.Rollback) ∷ []) (make_small Outcome.Commit, (make_small Outcome.Rollback, tt))

-- ---- parts of records

maybe_small : AtMost 36 (read_maybe read_branch)
maybe_small = code_small 35 ((0, make None) ∷ (1, make (λ b. Some b) and read_branch) ∷ []) (
  at_most_more 0 35 (make None) (omega arith) (make_small None),
  (and_small 0 35 (make (λ b. Some b)) read_branch (make_small (λ b. Some b)) branch_small, tt),
)

some_branch_small : AtMost 36 read_some_branch
some_branch_small = code_small 35 ((1, make (λ b. Some b) and read_branch) ∷ []) (and_small 0 35 (make (λ b. Some b)) read_branch (make_small (λ b. Some b)) branch_small, tt)

key_small : AtMost 71 read_key
key_small = and_small 35 36 _ (read_maybe read_branch) (and_small 0 35 (make key_of) read_aaid (make_small key_of) aaid_small) maybe_small

branch_key_small : AtMost 71 read_branch_key
branch_key_small = and_small 35 36 _ read_some_branch (and_small 0 35 (make key_of) read_aaid (make_small key_of) aaid_small) some_branch_small

no_branch : Option BranchId × Option Addr
no_branch = (None, None)

some_branch : BranchId → Addr → Option BranchId × Option Addr
some_branch b a = (Some b, Some a)

branch_and_superior_small : AtMost 55 read_branch_and_superior
unfolding no_branch some_branch
branch_and_superior_small = code_small 54 ((0, make no_branch) ∷ (1, make some_branch and read_branch and read_addr) ∷ []) (
  at_most_more 0 54 (make no_branch) (omega arith) (make_small no_branch),
  (and_small 35 19 _ read_addr (and_small 0 35 (make some_branch) read_branch (make_small some_branch) branch_small) addr_small, tt),
)

key_and_superior_small : AtMost 90 read_key_and_superior
key_and_superior_small = and_small 35 55 _ read_branch_and_superior (and_small 0 35 (make key_and_superior_of) read_aaid (make_small key_and_superior_of) aaid_small) branch_and_superior_small

harm_small : AtMost 1 read_harm
harm_small = code_small 0 ((1, make Report.Hazard) ∷ (2, make Report.Mix) ∷ []) (make_small Report.Hazard, (make_small Report.Mix, tt))

judgement_small : AtMost 2 read_judgement
judgement_small = and_small 1 1 _ read_harm (and_small 0 1 (make judgement_of) read_outcome (make_small judgement_of) outcome_small) harm_small

few : (n most : ℕ) → nat_le n most ≡ true → n ≤ most
few n most is = grind (arith, nat_tests)

some_children : (n most : ℕ) → most ≤ 256 → nat_le n most ≡ true → AtMost 13824 (read_many read_child n)
some_children n most le is =
    let at : n ≤ most = few n most is in
    let all : n * 54 ≤ 13824 = omega arith in
    at_most_more (n * 54) 13824 (read_many read_child n) all (many_small 54 read_child child_small n)

children_small : (ver : LogVersion) → AtMost 13826 (read_children ver)
children_small LogVersion.One =
    at_most_more 13825 13826 (read_children LogVersion.One) (omega arith)
    (chosen_small 1 13824 (that (λ n. nat_le n 32) read_byte) (read_many read_child) (that_small 1 (λ n. nat_le n 32) read_byte (number_small 1 0)) (λ bytes n mid is. some_children n 32 (omega arith) (passed (λ n. nat_le n 32) (read_byte bytes) n mid is).1))
children_small LogVersion.Two =
    chosen_small 2 13824 (that (λ n. nat_le n 256) read_short) (read_many read_child) (that_small 2 (λ n. nat_le n 256) read_short (number_small 2 0)) (λ bytes n mid is. some_children n 256 (omega arith) (passed (λ n. nat_le n 256) (read_short bytes) n mid is).1)

-- ---- records

module _ (ver : LogVersion) where
  boot_small : AtMost 14000 (make boot_of and read_long)
  boot_small = at_most_more 8 14000 _ (omega arith) (and_small 0 8 (make boot_of) read_long (make_small boot_of) (number_small 8 0))

  ready_small : AtMost 14000 (make ready_of and read_short and read_branch_key and read_addr and read_children ver)
  ready_small = at_most_more 13918 14000 _ (omega arith) (and_small 92 13826 _ (read_children ver) (and_small 73 19 _ read_addr (and_small 2 71 _ read_branch_key (and_small 0 2 (make ready_of) read_short (make_small ready_of) (number_small 2 0)) branch_key_small) addr_small) (children_small ver))

  heuristic_small : AtMost 14000 (make heuristic_of and read_short and read_branch_key and read_outcome)
  heuristic_small = at_most_more 74 14000 _ (omega arith) (and_small 73 1 _ read_outcome (and_small 2 71 _ read_branch_key (and_small 0 2 (make heuristic_of) read_short (make_small heuristic_of) (number_small 2 0)) branch_key_small) outcome_small)

  commit_small : AtMost 14000 (make commit_of and read_short and read_key_and_superior and read_children ver)
  commit_small = at_most_more 13918 14000 _ (omega arith) (and_small 92 13826 _ (read_children ver) (and_small 2 90 _ read_key_and_superior (and_small 0 2 (make commit_of) read_short (make_small commit_of) (number_small 2 0)) key_and_superior_small) (children_small ver))

  damage_small : AtMost 14000 (make damage_of and read_short and read_key_and_superior and read_judgement and read_children ver)
  damage_small = at_most_more 13920 14000 _ (omega arith) (and_small 94 13826 _ (read_children ver) (and_small 92 2 _ read_judgement (and_small 2 90 _ read_key_and_superior (and_small 0 2 (make damage_of) read_short (make_small damage_of) (number_small 2 0)) key_and_superior_small) judgement_small) (children_small ver))

  end_small : AtMost 14000 (make end_of and read_short and read_key and read_outcome)
  end_small = at_most_more 74 14000 _ (omega arith) (and_small 73 1 _ read_outcome (and_small 2 71 _ read_key (and_small 0 2 (make end_of) read_short (make_small end_of) (number_small 2 0)) key_small) outcome_small)

  record_small : AtMost 14001 (read_record ver)
  record_small = code_small 14000 (record_kinds ver) (boot_small, (ready_small, (heuristic_small, (commit_small, (damage_small, (end_small, tt))))))

some_bytes : (wide : Bool) (rec : LogRec) → 0 < length (text wide rec)
some_bytes wide (LogRec.Boot n) = omega arith
some_bytes wide (LogRec.Ready n k a cs) = omega arith
some_bytes wide (LogRec.Heuristic n k o) = omega arith
some_bytes wide (LogRec.Commit n k a cs) = omega arith
some_bytes wide (LogRec.Damage n k a o r cs) = omega arith
some_bytes wide (LogRec.End n k o) = omega arith

pub text_is_body : (wide : Bool) (rec : LogRec) → HasText wide rec → IsBody (text wide rec)
text_is_body wide rec has = (some_bytes wide rec, omega (arith, record_small (version_of wide) (text wide rec) rec [] has))

pub texts_are : (wide : Bool) (rs : List LogRec) → AllByRecursion (HasText wide) rs → AllByRecursion IsBody (texts wide rs)
texts_are wide [] all = tt
texts_are wide (r ∷ rs) all = (text_is_body wide r all.0, texts_are wide rs all.1)

pub bodies_are : (wide : Bool) (rs : List LogRec) → AllByRecursion (HasText wide) rs → AllByRecursion IsBody (bodies_of wide rs)
bodies_are true rs all = ((omega arith, omega arith), texts_are true rs all)
bodies_are false rs all = texts_are false rs all
