-- Two names of so many letters together: an aaid and a branch of a given length.
use Rattle.std.proofs.Common.{◌≡◌, ℕ, suc, ◌≤◌, ◌+◌, ◌-◌, ◌&&◌, Bool, true, Some, List, length, refl, ap, ◌∙◌, length-append, arith}
use Rattle.std.specs.Prelude.{nat_le}
use Rattle.std.proofs.lemmas.Bool.Decides.{nat_tests}
use Rattle.tp_names.specs.declared.identifiers.Mark.{Mark}
use Rattle.tp_names.specs.declared.identifiers.Aaid.{Aaid}
use Rattle.tp_names.specs.declared.identifiers.BranchId.{BranchId}
use Rattle.tp_names.specs.Bytes.{is_site_byte, all_bytes}
use Rattle.tp_names.specs.Reading.{Reader, make, ◌and◌, chosen_by, then_read, read_mark, read_site, read_aaid, read_branch, aaid_of, branch_of}
use Rattle.tp_names.specs.Scanning.{scan_make, ◌with◌, scan_mark, scan_site_within}
use Rattle.tp_names.specs.Places.{AreBytes, IsSteady, IsScan}
use Rattle.std.specs.Prelude.{Option}
use Rattle.tp_names.proofs.Sequences.{steady_make, steady_and, some_pair, Both, both_parts, both_read, scan_made, scan_both}
use Rattle.tp_names.proofs.Choices.{Chosen, chosen_parts}
use Rattle.tp_names.proofs.Values.{mark_scan, aaid_scan, branch_scan}
use Rattle.tp_names.proofs.Sites.{read_site_within, WithinParts, within_parts, within_read, site_within_scan, site_parts}
use Rattle.tp_records.specs.SentScanning.{scan_names_of}
use Rattle.tp_records.proofs.Agreeing.{Sized}
use Rattle.tp_records.proofs.Parts.{mark_fixed}
use Rattle.tp_records.proofs.Choosing.{chosen_within}

-- a name that was read
pub record Named (bytes a rest : List ℕ) : Type 0 where
  pub least : 1 ≤ length a
  pub most : length a ≤ 16
  pub len : length bytes ≡ 1 + length a + length rest

pub named : (bytes a rest : List ℕ) → read_site bytes ≡ Some (a, rest) → Named bytes a rest
named bytes a rest h =
    let e = site_parts bytes a rest h in
    let b = go (length a) (all_bytes is_site_byte a) e.1 in
    record { least = b.0; most = b.1; len = omega (arith, ap length e.0, length-append a rest) }
  where
    go : (n : ℕ) (t : Bool) → ((nat_le 1 n && nat_le n 16) && t) ≡ true → (1 ≤ n) × (n ≤ 16)
    go n t h = (grind (arith, nat_tests), grind (arith, nat_tests))

-- and whose length is within bounds
pub record NamedWithin (low high : ℕ) (bytes a rest : List ℕ) : Type 0 where
  pub read : read_site bytes ≡ Some (a, rest)
  pub name : Named bytes a rest
  pub from : low ≤ length a
  pub to : length a ≤ high

pub named_within : (low high : ℕ) (bytes a rest : List ℕ) → read_site_within low high bytes ≡ Some (a, rest) → NamedWithin low high bytes a rest
named_within low high bytes a rest h =
    let w : WithinParts low high bytes a rest = within_parts low high bytes a rest h in
    let b = go (length a) w.fits in
    record { read = w.read; name = named bytes a rest w.read; from = b.0; to = b.1 }
  where
    go : (n : ℕ) → (nat_le low n && nat_le n high) ≡ true → (low ≤ n) × (n ≤ high)
    go n h = (grind (arith, nat_tests), grind (arith, nat_tests))

pub within_from : (low high : ℕ) (bytes a rest : List ℕ) → read_site bytes ≡ Some (a, rest) → low ≤ length a → length a ≤ high → read_site_within low high bytes ≡ Some (a, rest)
within_from low high bytes a rest h from to = within_read low high bytes a rest h (go (length a) from to)
  where
    go : (n : ℕ) → low ≤ n → n ≤ high → (nat_le low n && nat_le n high) ≡ true
    go n a b = grind (arith, nat_tests)

-- the parts of an aaid and a branch
pub record Names (bytes rest : List ℕ) : Type 0 where
  pub owner : List ℕ
  pub behind_owner : List ℕ
  pub mark : Mark
  pub behind_mark : List ℕ
  pub superior : List ℕ
  pub behind_superior : List ℕ
  pub last : Mark
  pub owner_read : read_site bytes ≡ Some (owner, behind_owner)
  pub mark_read : read_mark behind_owner ≡ Some (mark, behind_mark)
  pub superior_read : read_site behind_mark ≡ Some (superior, behind_superior)
  pub last_read : read_mark behind_superior ≡ Some (last, rest)

pub names_len : (bytes rest : List ℕ) (x : Names bytes rest) → length bytes ≡ 38 + length x.owner + length x.superior + length rest
names_len bytes rest x =
    let a : Named bytes x.owner x.behind_owner = named bytes x.owner x.behind_owner x.owner_read in
    let b : Named x.behind_mark x.superior x.behind_superior = named x.behind_mark x.superior x.behind_superior x.superior_read in
    let m = mark_fixed.len x.behind_owner x.mark x.behind_mark x.mark_read in
    let n = mark_fixed.len x.behind_superior x.last rest x.last_read in
    omega (arith, a.len, b.len, m, n)

pub names_read : {V : Type 0} (g : Aaid → BranchId → V) (bytes rest : List ℕ) (x : Names bytes rest) → (make g and read_aaid and read_branch) bytes ≡ Some (g (aaid_of x.owner x.mark) (branch_of x.superior x.last), rest)
names_read g bytes rest x =
    let a : read_aaid bytes ≡ Some (aaid_of x.owner x.mark, x.behind_mark) =
    both_read (make aaid_of and read_site) read_mark bytes x.behind_owner x.behind_mark (aaid_of x.owner) x.mark
    (both_read (make aaid_of) read_site bytes bytes x.behind_owner aaid_of x.owner refl x.owner_read) x.mark_read in
    let b : read_branch x.behind_mark ≡ Some (branch_of x.superior x.last, rest) =
    both_read (make branch_of and read_site) read_mark x.behind_mark x.behind_superior rest (branch_of x.superior) x.last
    (both_read (make branch_of) read_site x.behind_mark x.behind_mark x.behind_superior branch_of x.superior refl x.superior_read) x.last_read in
    both_read (make g and read_aaid) read_branch bytes x.behind_mark rest (g (aaid_of x.owner x.mark)) (branch_of x.superior x.last)
    (both_read (make g) read_aaid bytes bytes x.behind_mark g (aaid_of x.owner x.mark) refl a) b

pub names_steady : {V : Type 0} (g : Aaid → BranchId → V) → IsSteady (make g and read_aaid and read_branch)
names_steady g = steady_and (make g and read_aaid) read_branch (steady_and (make g) read_aaid (steady_make g) aaid_scan.steady) branch_scan.steady

-- a name and a mark
pub record NameMark (bytes rest : List ℕ) : Type 0 where
  pub name : List ℕ
  pub middle : List ℕ
  pub mark : Mark
  pub name_read : read_site bytes ≡ Some (name, middle)
  pub mark_read : read_mark middle ≡ Some (mark, rest)

name_mark : {V : Type 0} (g : List ℕ → Mark → V) (bytes : List ℕ) (v : V) (rest : List ℕ) → (make g and read_site and read_mark) bytes ≡ Some (v, rest) → NameMark bytes rest
name_mark g bytes v rest h =
    let b : Both ((make g and read_site) bytes) read_mark v rest = both_parts ((make g and read_site) bytes) read_mark v rest h in
    let c : Both (make g bytes) read_site b.made b.middle = both_parts (make g bytes) read_site b.made b.middle b.first in
    let e = some_pair g c.made bytes c.middle c.first in
    record { name = c.part; middle = b.middle; mark = b.part; name_read = ap read_site e.1 ∙ c.second; mark_read = b.second }

pub names_from : {V : Type 0} (g : Aaid → BranchId → V) (bytes : List ℕ) (v : V) (rest : List ℕ) → (make g and read_aaid and read_branch) bytes ≡ Some (v, rest) → Names bytes rest
names_from g bytes v rest h =
    let b : Both ((make g and read_aaid) bytes) read_branch v rest = both_parts ((make g and read_aaid) bytes) read_branch v rest h in
    let c : Both (make g bytes) read_aaid b.made b.middle = both_parts (make g bytes) read_aaid b.made b.middle b.first in
    let e = some_pair g c.made bytes c.middle c.first in
    let x : NameMark bytes b.middle = name_mark aaid_of bytes c.part b.middle (ap read_aaid e.1 ∙ c.second) in
    let y : NameMark b.middle rest = name_mark branch_of b.middle b.part rest b.second in
    record {
      owner = x.name;
      behind_owner = x.middle;
      mark = x.mark;
      behind_mark = b.middle;
      superior = y.name;
      behind_superior = y.middle;
      last = y.mark;
      owner_read = x.name_read;
      mark_read = x.mark_read;
      superior_read = y.name_read;
      last_read = y.mark_read;
    }

-- two to thirty-two letters
pub record NamesLength (bytes rest : List ℕ) : Type 0 where
  pub least : 40 + length rest ≤ length bytes
  pub most : length bytes ≤ 70 + length rest

pub names_length : {V : Type 0} (g : Aaid → BranchId → V) (bytes : List ℕ) (v : V) (rest : List ℕ) → (make g and read_aaid and read_branch) bytes ≡ Some (v, rest) → NamesLength bytes rest
names_length g bytes v rest h =
    let x : Names bytes rest = names_from g bytes v rest h in
    let a : Named bytes x.owner x.behind_owner = named bytes x.owner x.behind_owner x.owner_read in
    let b : Named x.behind_mark x.superior x.behind_superior = named x.behind_mark x.superior x.behind_superior x.superior_read in
    let l = names_len bytes rest x in
    record { least = omega (arith, l, a.least, b.least); most = omega (arith, l, a.most, b.most) }

-- ---- the reader of so many letters

abbrev three : Mark → List ℕ → Mark → Unit {0}
three m b n = tt

abbrev pub behind_name : ℕ → List ℕ → Reader (Unit {0})
behind_name k a = make (λ m b n. tt) and read_mark and read_site_within (k - length a) (k - length a) and read_mark

abbrev pub read_names_of : ℕ → Reader (Unit {0})
read_names_of k = chosen_by (read_site_within (k - 16) (k - 1)) (behind_name k)

pub names_scan : (k : ℕ) → 2 ≤ k → k ≤ 32 → IsScan (read_names_of k) (scan_names_of k)
unfolding scan_names_of
names_scan k low high =
    chosen_within (read_site_within (k - 16) (k - 1)) (behind_name k) (scan_site_within (k - 16) (k - 1))
    (λ a rest. (scan_make (λ m b n. tt) with scan_mark with scan_site_within (k - length a) (k - length a) with scan_mark) rest)
    (site_within_scan (k - 16) (k - 1) (record { len = suc (k - 17); least = omega arith; most = omega (arith, high); from = omega arith; to = omega (arith, low) }))
    (record {
      next = λ bytes a rest h.
          let x : NamedWithin (k - 16) (k - 1) bytes a rest = named_within (k - 16) (k - 1) bytes a rest h in
          let j : ℕ = k - length a in
          scan_both (make (λ m b n. tt) and read_mark and read_site_within j j) read_mark (scan_make (λ m b n. tt) with scan_mark with scan_site_within j j) scan_mark
          (scan_both (make (λ m b n. tt) and read_mark) (read_site_within j j) (scan_make (λ m b n. tt) with scan_mark) (scan_site_within j j)
          (scan_both (make (λ m b n. tt)) read_mark (scan_make (λ m b n. tt)) scan_mark (scan_made (λ m b n. tt)) mark_scan)
          (site_within_scan j j (record { len = j; least = omega (arith, x.to, x.name.least, low); most = omega (arith, x.from); from = omega arith; to = omega arith }))) mark_scan;
    })

pub names_sized : {V : Type 0} (g : Aaid → BranchId → V) (k : ℕ) → Sized (38 + k) (make g and read_aaid and read_branch) (read_names_of k)
names_sized {V} g k = record { there = there; back = back }
  where
    there : (bytes : List ℕ) (w : Unit {0}) (rest : List ℕ) → read_names_of k bytes ≡ Some (w, rest) → (v : V) × (((make g and read_aaid and read_branch) bytes ≡ Some (v, rest)) × (length bytes ≡ 38 + k + length rest))
    there bytes w rest h =
        let c : Chosen (read_site_within (k - 16) (k - 1) bytes) (behind_name k) w rest = chosen_parts (read_site_within (k - 16) (k - 1) bytes) (behind_name k) w rest h in
        let x : NamedWithin (k - 16) (k - 1) bytes c.choice c.middle = named_within (k - 16) (k - 1) bytes c.choice c.middle c.first in
        let j : ℕ = k - length c.choice in
        let b3 : Both ((make (λ m b n. tt) and read_mark and read_site_within j j) c.middle) read_mark w rest = both_parts ((make (λ m b n. tt) and read_mark and read_site_within j j) c.middle) read_mark w rest c.second in
        let b2 : Both ((make (λ m b n. tt) and read_mark) c.middle) (read_site_within j j) b3.made b3.middle = both_parts ((make (λ m b n. tt) and read_mark) c.middle) (read_site_within j j) b3.made b3.middle b3.first in
        let b1 : Both (make three c.middle) read_mark b2.made b2.middle = both_parts (make three c.middle) read_mark b2.made b2.middle b2.first in
        let e = some_pair three b1.made c.middle b1.middle b1.first in
        let y : NamedWithin j j b2.middle b2.part b3.middle = named_within j j b2.middle b2.part b3.middle b2.second in
        let n : Names bytes rest = record {
          owner = c.choice;
          behind_owner = c.middle;
          mark = b1.part;
          behind_mark = b2.middle;
          superior = b2.part;
          behind_superior = b3.middle;
          last = b3.part;
          owner_read = x.read;
          mark_read = ap read_mark e.1 ∙ b1.second;
          superior_read = y.read;
          last_read = b3.second;
        } in
        (g (aaid_of c.choice b1.part) (branch_of b2.part b3.part), (names_read g bytes rest n, omega (arith, names_len bytes rest n, x.to, x.name.least, y.from, y.to)))

    back : (bytes : List ℕ) (v : V) (rest : List ℕ) → AreBytes bytes → (make g and read_aaid and read_branch) bytes ≡ Some (v, rest) → length bytes ≡ 38 + k + length rest → (w : Unit {0}) × (read_names_of k bytes ≡ Some (w, rest))
    back bytes v rest fits h len =
        let x : Names bytes rest = names_from g bytes v rest h in
        let a : Named bytes x.owner x.behind_owner = named bytes x.owner x.behind_owner x.owner_read in
        let b : Named x.behind_mark x.superior x.behind_superior = named x.behind_mark x.superior x.behind_superior x.superior_read in
        let l = names_len bytes rest x in
        let j : ℕ = k - length x.owner in
        let first : read_site_within (k - 16) (k - 1) bytes ≡ Some (x.owner, x.behind_owner) =
        within_from (k - 16) (k - 1) bytes x.owner x.behind_owner x.owner_read (omega (arith, l, len, b.most)) (omega (arith, l, len, b.least)) in
        let second : read_site_within j j x.behind_mark ≡ Some (x.superior, x.behind_superior) =
        within_from j j x.behind_mark x.superior x.behind_superior x.superior_read (omega (arith, l, len)) (omega (arith, l, len)) in
        let later : behind_name k x.owner x.behind_owner ≡ Some (tt, rest) =
        both_read (make three and read_mark and read_site_within j j) read_mark x.behind_owner x.behind_superior rest (λ n. tt) x.last
        (both_read (make three and read_mark) (read_site_within j j) x.behind_owner x.behind_mark x.behind_superior (λ b n. tt) x.superior
        (both_read (make three) read_mark x.behind_owner x.behind_owner x.behind_mark three x.mark refl x.mark_read) second) x.last_read in
        (tt, ap (λ (o : Option (List ℕ × List ℕ)). then_read o (behind_name k)) first ∙ later)
