-- How the code reads names and small values: what a reader of Reading gives, and where it gives nothing, how many bytes
-- are left from the first one on with which nothing is ever given. That a scan is right about its reader is said in Places.
use Rattle.std.specs.Prelude.{ℕ, zero, suc, ◌≡◌, ◌*◌, ◌+◌, ◌==◌, ◌&&◌, nat_le, Bool, true, false, if◌then◌else◌, Option, Some, None, Result, Ok, Err, List, [], ◌∷◌, length, take, drop}
use Rattle.tp_names.specs.declared.identifiers.Mark.{Mark}
use Rattle.tp_names.specs.declared.identifiers.Aaid.{Aaid}
use Rattle.tp_names.specs.declared.identifiers.BranchId.{BranchId}
use Rattle.tp_names.specs.declared.identifiers.NodeKey.{NodeKey}
use Rattle.tp_names.specs.declared.identifiers.Addr.{Addr}
use Rattle.tp_names.specs.declared.children.Child.{Child}
use Rattle.tp_names.specs.declared.outcome.Outcome.{Outcome}
use Rattle.tp_names.specs.declared.outcome.Report.{Report}
use Rattle.tp_names.specs.declared.bad_bytes.BadBytes.{BadBytes}
use Rattle.tp_names.specs.declared.bad_bytes.ReadFault.{ReadFault}
use Rattle.tp_names.specs.Bytes.{is_site_byte, is_site_name}
use Rattle.tp_names.specs.Reading.{read_byte, read_short, read_long, mark_of, aaid_of, branch_of, key_of, addr_of, child_of}

-- ---- scans

-- a value and what stands after it, or how many bytes are left
abbrev pub Scan : Type 0 → Type 0
Scan A = List ℕ → Result (A × List ℕ) ℕ

abbrev pub scan_make : {A : Type 0} → A → Scan A
scan_make a bytes = Ok (a, bytes)

abbrev pub with_value : {A B : Type 0} → (A → B) → Result (A × List ℕ) ℕ → Result (B × List ℕ) ℕ
with_value f (Err left) = Err left
with_value f (Ok p) = Ok (f p.0, p.1)

abbrev pub then_scan : {A B : Type 0} → Result (A × List ℕ) ℕ → (A → Scan B) → Result (B × List ℕ) ℕ
then_scan (Err left) f = Err left
then_scan (Ok p) f = f p.0 p.1

-- what the first gives, applied to what the second gives on the rest
infixl 40 ◌with◌
abbrev pub ◌with◌ : {A B : Type 0} → Scan (A → B) → Scan A → Scan B
◌with◌ f s bytes = then_scan (f bytes) (λ g rest. with_value g (s rest))

-- what is refused only where the bytes end
abbrev pub or_end : {A : Type 0} → Option (A × List ℕ) → Result (A × List ℕ) ℕ
or_end None = Err 0
or_end (Some p) = Ok p

-- ---- numbers and codes

unfoldable pub scan_byte : Scan ℕ
scan_byte bytes = or_end (read_byte bytes)

unfoldable pub scan_short : Scan ℕ
scan_short bytes = or_end (read_short bytes)

unfoldable pub scan_long : Scan ℕ
scan_long bytes = or_end (read_long bytes)

-- a byte that passes a test
abbrev pub scan_byte_that : (ℕ → Bool) → Scan ℕ
scan_byte_that test [] = Err 0
scan_byte_that test (b ∷ bytes) = if test b then Ok (b, bytes) else Err (suc (length bytes))

-- a code, and how what stands after it is read; a code that is not in the table is left
abbrev pub scan_kind : {A : Type 0} → List (ℕ × Scan A) → ℕ → Scan A
scan_kind [] code bytes = Err (suc (length bytes))
scan_kind (k ∷ ks) code bytes = elim (k.0 == code) [ true ↦ k.1 bytes | false ↦ scan_kind ks code bytes ]

abbrev pub scan_by_code : {A : Type 0} → List (ℕ × Scan A) → Scan A
scan_by_code ks [] = Err 0
scan_by_code ks (code ∷ bytes) = scan_kind ks code bytes

-- ---- names

-- what is left after the longest run of so many letters and digits
abbrev pub left_after_letters : ℕ → List ℕ → ℕ
left_after_letters zero bytes = length bytes
left_after_letters (suc k) [] = 0
left_after_letters (suc k) (b ∷ bytes) = elim (is_site_byte b) [ true ↦ left_after_letters k bytes | false ↦ suc (length bytes) ]

-- a name of so many bytes
abbrev pub scan_letters : ℕ → Scan (List ℕ)
scan_letters k bytes =
    if nat_le k (length bytes) && is_site_name (take k bytes) then Ok (take k bytes, drop k bytes) else Err (left_after_letters k bytes)

unfoldable pub scan_site : Scan (List ℕ)
scan_site [] = Err 0
scan_site (n ∷ bytes) = if nat_le 1 n && nat_le n 16 then scan_letters n bytes else Err (suc (length bytes))

-- a name whose length is within bounds
unfoldable pub scan_site_within : ℕ → ℕ → Scan (List ℕ)
scan_site_within low high [] = Err 0
scan_site_within low high (n ∷ bytes) =
    if (nat_le 1 n && nat_le n 16) && (nat_le low n && nat_le n high) then scan_letters n bytes else Err (suc (length bytes))

unfoldable pub scan_mark : Scan Mark
scan_mark = scan_make mark_of with scan_long with scan_short with scan_long

unfoldable pub scan_aaid : Scan Aaid
scan_aaid = scan_make aaid_of with scan_site with scan_mark

unfoldable pub scan_branch : Scan BranchId
scan_branch = scan_make branch_of with scan_site with scan_mark

unfoldable pub scan_flag : Scan Bool
scan_flag = scan_by_code ((0, scan_make false) ∷ (1, scan_make true) ∷ [])

abbrev pub scan_maybe : {A : Type 0} → Scan A → Scan (Option A)
scan_maybe s = scan_by_code ((0, scan_make None) ∷ (1, scan_make (λ a. Some a) with s) ∷ [])

unfoldable pub scan_key : Scan NodeKey
scan_key = scan_make key_of with scan_aaid with scan_maybe scan_branch

unfoldable pub scan_addr : Scan Addr
scan_addr = scan_make addr_of with scan_site with scan_short

-- ---- outcomes, reports, octets, children

unfoldable pub scan_outcome : Scan Outcome
scan_outcome = scan_by_code ((1, scan_make Outcome.Commit) ∷ (2, scan_make Outcome.Rollback) ∷ [])

unfoldable pub scan_report : Scan Report
scan_report = scan_by_code ((0, scan_make Report.None) ∷ (1, scan_make Report.Hazard) ∷ (2, scan_make Report.Mix) ∷ [])

-- a count of two bytes that is at most so much; where it is more, the first byte that no such count has is left
abbrev pub scan_count : ℕ → Scan ℕ
scan_count most [] = Err 0
scan_count most (high ∷ []) = if nat_le (high * 256) most then Err 0 else Err 1
scan_count most (high ∷ low ∷ bytes) =
    if nat_le (high * 256 + low) most then Ok (high * 256 + low, bytes)
    else if nat_le (high * 256) most then Err (suc (length bytes))
    else Err (suc (suc (length bytes)))

-- so many bytes as they stand
abbrev pub scan_bytes : ℕ → Scan (List ℕ)
scan_bytes k bytes = if nat_le k (length bytes) then Ok (take k bytes, drop k bytes) else Err 0

-- past so many bytes
abbrev pub scan_skip : ℕ → Scan (Unit {0})
scan_skip k bytes = if nat_le k (length bytes) then Ok (tt, drop k bytes) else Err 0

-- past a byte that is this one
abbrev pub scan_this : ℕ → Scan (Unit {0})
scan_this byte [] = Err 0
scan_this byte (b ∷ bytes) = if b == byte then Ok (tt, bytes) else Err (suc (length bytes))

unfoldable pub scan_octets : ℕ → Scan (List ℕ)
scan_octets most bytes = then_scan (scan_count most bytes) scan_bytes

unfoldable pub scan_child : Scan Child
scan_child = scan_make child_of with scan_addr with scan_branch

-- so many, one after the other
abbrev pub scan_many : {A : Type 0} → Scan A → ℕ → Scan (List A)
scan_many s zero = scan_make []
scan_many s (suc k) = scan_make (λ a rest. a ∷ rest) with s with scan_many s k

-- ---- what a call of a cursor returns

-- the value, with the cursor after it, or the count of bytes left
abbrev pub Gives : {A : Type 0} → Result A BadBytes → List ℕ → Result (A × List ℕ) ℕ → Type 0
Gives (Ok v) rest scanned = scanned ≡ Ok (v, rest)
Gives (Err bad) rest scanned = scanned ≡ Err bad.left

-- unless memory runs out
abbrev pub GivesUnlessFull : {A : Type 0} → Result A ReadFault → List ℕ → Result (A × List ℕ) ℕ → Type 0
GivesUnlessFull (Ok v) rest scanned = scanned ≡ Ok (v, rest)
GivesUnlessFull (Err (ReadFault.Bad bad)) rest scanned = scanned ≡ Err bad.left
GivesUnlessFull (Err ReadFault.NoMemory) rest scanned = Unit {0}

-- a code in front, or nothing at all
abbrev pub GivesCode : Result ℕ BadBytes → List ℕ → List ℕ → Type 0
GivesCode (Ok code) bytes rest = bytes ≡ code ∷ rest
GivesCode (Err bad) bytes rest = (bytes ≡ []) × (bad.left ≡ 0)
