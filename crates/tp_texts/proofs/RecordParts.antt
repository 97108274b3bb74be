-- The parts of a log record: which are read back from their bytes, and that no others are ever read.
use Rattle.std.proofs.Common.{◌≡◌, ℕ, zero, suc, ◌≤◌, ◌==◌, Option, Some, None, List, [], ◌∷◌, ◌++◌, length, Bool, true, false, refl, sym, ap, subst, ◌∙◌, append_assoc, arith}
use Rattle.std.specs.Prelude.{nat_le}
use Rattle.std.proofs.lemmas.Bool.Decides.{nat_tests}
use Rattle.tp_names.specs.declared.identifiers.Addr.{Addr}
use Rattle.tp_names.specs.declared.identifiers.BranchId.{BranchId}
use Rattle.tp_names.specs.declared.identifiers.NodeKey.{NodeKey}
use Rattle.tp_names.specs.declared.children.Child.{Child}
use Rattle.tp_names.specs.declared.outcome.Outcome.{Outcome}
use Rattle.tp_names.specs.declared.outcome.Report.{Report}
use Rattle.tp_names.specs.Bytes.{byte_bytes, short_bytes, aaid_bytes, branch_bytes, maybe_bytes, key_bytes, addr_bytes, outcome_bytes, report_bytes, each_child_bytes}
use Rattle.tp_names.specs.Reading.{Reader, make, ◌and◌, that, chosen_by, key_of, read_byte, read_short, read_many, read_kind, read_by_code, read_aaid, read_branch, read_addr, read_outcome, read_child}
use Rattle.tp_names.proofs.Sequences.{some_pair, Both, both_parts}
use Rattle.tp_names.proofs.Choices.{Chosen, chosen_parts}
use Rattle.tp_names.proofs.Passing.{Passed, that_parts}
use Rattle.tp_logrec.specs.declared.record.LogVersion.{LogVersion}
use Rattle.tp_logrec.specs.RecordText.{children_bytes, superior_bytes, key_and_superior_bytes}
use Rattle.tp_logrec.specs.RecordReading.{read_children, read_some_branch, read_branch_key, read_branch_and_superior, key_and_superior_of, read_key_and_superior, read_harm, judgement_of, read_judgement}
use Rattle.tp_texts.specs.Texts.{Takes, IsGiven, most_children}
use Rattle.tp_texts.proofs.TakenValues.{made, both, counted, byte_taken, short_taken, outcome_taken, AreTaken}

-- ---- what is read

-- each value that the reader gives is of that sort
pub record Gives {A : Type 0} (r : Reader A) (P : A → Type 0) : Type 0 where
  pub each : (v : A) → IsGiven r v → P v

pub gives_made : {A : Type 0} (a : A) (P : A → Type 0) → P a → Gives (make a) P
gives_made {A} a P h = record { each = λ v x. let e = some_pair a v x.bytes x.rest x.gives in subst P e.0 h }

pub gives_and : {A B : Type 0} (f : Reader (A → B)) (r : Reader A) (P : B → Type 0) → Gives f (λ g. (a : A) → IsGiven r a → P (g a)) → Gives (f and r) P
gives_and {A} {B} f r P y = record {
  each = λ v x.
      let b : Both (f x.bytes) r v x.rest = both_parts (f x.bytes) r v x.rest x.gives in
      subst P (sym b.value) (y.each b.made (record { bytes = x.bytes; rest = b.middle; gives = b.first }) b.part (record { bytes = b.middle; rest = x.rest; gives = b.second }));
}

-- each row of a table
abbrev pub EachGives : {A : Type 0} → List (ℕ × Reader A) → (A → Type 0) → Type 0
EachGives [] P = Unit {0}
EachGives (k ∷ ks) P = Gives k.1 P × EachGives ks P

kind_gives : {A : Type 0} (ks : List (ℕ × Reader A)) (P : A → Type 0) → EachGives ks P → (code : ℕ) (bytes : List ℕ) (v : A) (rest : List ℕ) → read_kind ks code bytes ≡ Some (v, rest) → P v
kind_gives [] P rows code bytes v rest h = absurd cc
kind_gives {A} (k ∷ ks) P rows code bytes v rest h = go (k.0 == code) h (kind_gives ks P rows.1 code bytes v rest)
  where
    go : (t : Bool) → elim t as (λ _. Option (A × List ℕ)) [ true ↦ k.1 bytes | false ↦ read_kind ks code bytes ] ≡ Some (v, rest) → (read_kind ks code bytes ≡ Some (v, rest) → P v) → P v
    go true e later = rows.0.each v (record { bytes = bytes; rest = rest; gives = e })
    go false e later = later e

pub code_gives : {A : Type 0} (ks : List (ℕ × Reader A)) (P : A → Type 0) → EachGives ks P → Gives (read_by_code ks) P
code_gives ks P rows = record {
  each = λ v x.
      let c : Chosen (read_byte x.bytes) (read_kind ks) v x.rest = chosen_parts (read_byte x.bytes) (read_kind ks) v x.rest x.gives in
      kind_gives ks P rows c.choice c.middle v x.rest c.second;
}

-- ---- keys

pub branch_key_taken : (k : NodeKey) → Takes read_aaid (aaid_bytes k.aaid) k.aaid → Takes read_some_branch (maybe_bytes branch_bytes k.branch) k.branch → Takes read_branch_key (key_bytes k) k
branch_key_taken k x y = both (both (made key_of) x) y

branch_key_gives : Gives read_branch_key (λ k. IsGiven read_some_branch k.branch)
branch_key_gives =
    gives_and (make key_of and read_aaid) read_some_branch (λ k. IsGiven read_some_branch k.branch)
    (gives_and (make key_of) read_aaid _ (gives_made key_of _ (λ a x o y. y)))

pub branch_key_given : (k : NodeKey) → IsGiven read_branch_key k → IsGiven read_some_branch k.branch
branch_key_given k x = branch_key_gives.each k x

pub branch_there_taken : (b : BranchId) → Takes read_branch (branch_bytes b) b → Takes read_some_branch (maybe_bytes branch_bytes (Some b)) (Some b)
branch_there_taken b x = record { reads = λ rest. (both (made (λ (a : BranchId). Some a)) x).reads rest }

-- a branch, and no other value
abbrev IsSome : Option BranchId → Type 0
IsSome None = ⊥
IsSome (Some b) = Unit {0}

some_branch_gives : Gives read_some_branch IsSome
some_branch_gives = code_gives ((1, make (λ b. Some b) and read_branch) ∷ []) IsSome (gives_and (make (λ b. Some b)) read_branch IsSome (gives_made (λ b. Some b) (λ g. (b : BranchId) → IsGiven read_branch b → IsSome (g b)) (λ b x. tt)), tt)

pub no_branch_given : IsGiven read_some_branch None → ⊥
no_branch_given x = some_branch_gives.each None x

taken_as : {A : Type 0} (r : Reader A) (v : A) (s t : List ℕ) → s ≡ t → Takes r s v → Takes r t v
taken_as r v s t same x = record { reads = λ rest. ap (λ (w : List ℕ). r (w ++ rest)) (sym same) ∙ x.reads rest }

abbrev branch_and_superior_bytes : Option BranchId → Option Addr → List ℕ
branch_and_superior_bytes o s = maybe_bytes branch_bytes o ++ superior_bytes s

pub key_and_superior_taken : (k : NodeKey) (s : Option Addr) → Takes read_aaid (aaid_bytes k.aaid) k.aaid → Takes read_branch_and_superior (maybe_bytes branch_bytes k.branch ++ superior_bytes s) (k.branch, s)
    → Takes read_key_and_superior (key_and_superior_bytes (k, s)) (k, s)
key_and_superior_taken k s x y =
    taken_as read_key_and_superior (k, s) (aaid_bytes k.aaid ++ branch_and_superior_bytes k.branch s) (key_and_superior_bytes (k, s)) (sym (append_assoc (aaid_bytes k.aaid) (maybe_bytes branch_bytes k.branch) (superior_bytes s)))
    (both (both (made key_and_superior_of) x) y)

key_and_superior_gives : Gives read_key_and_superior (λ p. IsGiven read_branch_and_superior (p.0.branch, p.1))
key_and_superior_gives =
    gives_and (make key_and_superior_of and read_aaid) read_branch_and_superior (λ p. IsGiven read_branch_and_superior (p.0.branch, p.1))
    (gives_and (make key_and_superior_of) read_aaid _ (gives_made key_and_superior_of _ (λ a x p y. y)))

pub key_and_superior_given : (k : NodeKey) (s : Option Addr) → IsGiven read_key_and_superior (k, s) → IsGiven read_branch_and_superior (k.branch, s)
key_and_superior_given k s x = key_and_superior_gives.each (k, s) x

pub neither_taken : Takes read_branch_and_superior (maybe_bytes branch_bytes None ++ superior_bytes None) (None, None)
neither_taken = record { reads = λ rest. refl }

pub pair_taken : (b : BranchId) (s : Addr) → Takes read_branch (branch_bytes b) b → Takes read_addr (addr_bytes s) s → Takes read_branch_and_superior (maybe_bytes branch_bytes (Some b) ++ superior_bytes (Some s)) (Some b, Some s)
pair_taken b s x y = record { reads = λ rest. (both (both (made (λ (c : BranchId) (a : Addr). (Some c, Some a))) x) y).reads rest }

-- both, or neither
abbrev AreAlike : Option BranchId × Option Addr → Type 0
AreAlike (None, None) = Unit {0}
AreAlike (None, Some s) = ⊥
AreAlike (Some b, None) = ⊥
AreAlike (Some b, Some s) = Unit {0}

branch_and_superior_gives : Gives read_branch_and_superior AreAlike
branch_and_superior_gives =
    code_gives ((0, make (None, None)) ∷ (1, make (λ b a. (Some b, Some a)) and read_branch and read_addr) ∷ []) AreAlike (
      gives_made (None, None) AreAlike tt,
      (
        gives_and (make (λ b a. (Some b, Some a)) and read_branch) read_addr AreAlike
            (gives_and (make (λ b a. (Some b, Some a))) read_branch (λ g. (a : Addr) → IsGiven read_addr a → AreAlike (g a))
            (gives_made (λ b a. (Some b, Some a)) (λ g. (b : BranchId) → IsGiven read_branch b → (a : Addr) → IsGiven read_addr a → AreAlike (g b a)) (λ b x a y. tt))),
        tt,
      ),
    )

pub branch_alone_given : (b : BranchId) → IsGiven read_branch_and_superior (Some b, None) → ⊥
branch_alone_given b x = branch_and_superior_gives.each (Some b, None) x

pub superior_alone_given : (s : Addr) → IsGiven read_branch_and_superior (None, Some s) → ⊥
superior_alone_given s x = branch_and_superior_gives.each (None, Some s) x

-- ---- judgements

pub hazard_taken : (o : Outcome) → Takes read_judgement (outcome_bytes o ++ report_bytes Report.Hazard) (o, Report.Hazard)
hazard_taken o = let x : Takes read_harm (report_bytes Report.Hazard) Report.Hazard = record { reads = λ rest. refl } in both (both (made judgement_of) (outcome_taken o)) x

pub mix_taken : (o : Outcome) → Takes read_judgement (outcome_bytes o ++ report_bytes Report.Mix) (o, Report.Mix)
mix_taken o = let x : Takes read_harm (report_bytes Report.Mix) Report.Mix = record { reads = λ rest. refl } in both (both (made judgement_of) (outcome_taken o)) x

-- a report of damage
abbrev IsHarm : Report → Type 0
IsHarm Report.None = ⊥
IsHarm Report.Hazard = Unit {0}
IsHarm Report.Mix = Unit {0}

harm_gives : Gives read_harm IsHarm
harm_gives = code_gives ((1, make Report.Hazard) ∷ (2, make Report.Mix) ∷ []) IsHarm (gives_made Report.Hazard IsHarm tt, (gives_made Report.Mix IsHarm tt, tt))

judgement_gives : Gives read_judgement (λ j. IsHarm j.1)
judgement_gives =
    gives_and (make judgement_of and read_outcome) read_harm (λ j. IsHarm j.1)
    (gives_and (make judgement_of) read_outcome _ (gives_made judgement_of _ (λ o x r y. harm_gives.each r y)))

pub no_harm_given : (o : Outcome) → IsGiven read_judgement (o, Report.None) → ⊥
no_harm_given o x = judgement_gives.each (o, Report.None) x

-- ---- children

pub le_true : (n m : ℕ) → n ≤ m → nat_le n m ≡ true
le_true n m h = grind (arith, nat_tests)

true_le : (n m : ℕ) → nat_le n m ≡ true → n ≤ m
true_le n m h = grind (arith, nat_tests)

pub children_taken : (ver : LogVersion) (cs : List Child) → length cs ≤ most_children ver → AreTaken cs → Takes (read_children ver) (children_bytes ver cs) cs
children_taken LogVersion.One cs few x =
    counted (λ n. nat_le n 32) read_byte (read_many read_child) (byte_bytes (length cs)) (each_child_bytes cs) (length cs) cs (le_true _ _ few) (byte_taken (length cs) (omega (arith, few))) x
children_taken LogVersion.Two cs few x =
    counted (λ n. nat_le n 256) read_short (read_many read_child) (short_bytes (length cs)) (each_child_bytes cs) (length cs) cs (le_true _ _ few) (short_taken (length cs) (omega (arith, few))) x

many_length : {A : Type 0} (r : Reader A) (k : ℕ) → Gives (read_many r k) (λ v. length v ≡ k)
many_length {A} r zero = gives_made _ _ refl
many_length {A} r (suc k) =
    let cons : A → List A → List A = λ a more. a ∷ more in
    let later : (g : List A → List A) → Type 0 = λ g. (more : List A) → IsGiven (read_many r k) more → length (g more) ≡ suc k in
    gives_and (make cons and r) (read_many r k) (λ v. length v ≡ suc k)
    (gives_and (make cons) r later (gives_made cons (λ g. (a : A) → IsGiven r a → later (g a)) (λ a x more y. ap suc ((many_length r k).each more y))))

counted_length : (most : ℕ) (r : Reader ℕ) (bytes : List ℕ) (cs : List Child) (rest : List ℕ) → chosen_by (that (λ n. nat_le n most) r) (read_many read_child) bytes ≡ Some (cs, rest) → length cs ≤ most
counted_length most r bytes cs rest h =
    let test : ℕ → Bool = λ n. nat_le n most in
    let c : Chosen (that test r bytes) (read_many read_child) cs rest = chosen_parts (that test r bytes) (read_many read_child) cs rest h in
    let p : Passed test r bytes c.choice c.middle = that_parts test r bytes c.choice c.middle c.first in
    let few : c.choice ≤ most = true_le c.choice most p.passes in
    let len : length cs ≡ c.choice = (many_length read_child c.choice).each cs (record { bytes = c.middle; rest = rest; gives = c.second }) in
    omega (arith, few, len)

pub children_length : (ver : LogVersion) (cs : List Child) → IsGiven (read_children ver) cs → length cs ≤ most_children ver
children_length LogVersion.One cs x = counted_length 32 read_byte x.bytes cs x.rest x.gives
children_length LogVersion.Two cs x = counted_length 256 read_short x.bytes cs x.rest x.gives
