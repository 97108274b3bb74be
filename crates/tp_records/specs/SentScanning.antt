-- How the code reads the octets of what is sent: a count, and the text of one peer record of exactly so many bytes.
-- A byte is refused where no record of that length goes on with it; so here stands how long the text of each kind can be.
use Rattle.std.specs.Prelude.{ℕ, suc, ◌-◌, ◌/◌, ◌%◌, ◌*◌, ◌+◌, ◌==◌, ◌&&◌, ◌||◌, nat_le, Bool, if◌then◌else◌, Some, None, Result, Ok, Err, min, List, [], ◌∷◌, length}
use Rattle.tp_names.specs.Scanning.{Scan, scan_make, ◌with◌, with_value, then_scan, scan_byte_that, scan_this, scan_skip, scan_long, scan_mark, scan_site_within, scan_report}
use Rattle.tp_names.specs.Reading.{that, read_octets}
use Rattle.tp_records.specs.BodyReading.{is_peer_text}
use Rattle.tp_records.specs.BodyScanning.{scan_units, scan_holder}

-- ---- the parts of a record, by their length

-- an aaid and a branch whose two names have so many letters, of 1 to 16 each
unfoldable pub scan_names_of : ℕ → Scan (Unit {0})
scan_names_of k bytes =
    then_scan (scan_site_within (k - 16) (k - 1) bytes) (λ a rest.
    (scan_make (λ m b n. tt) with scan_mark with scan_site_within (k - length a) (k - length a) with scan_mark) rest)

-- a recovery state of so many bytes: done and its report have two, the others one
unfoldable pub scan_state_of : ℕ → Scan (Unit {0})
scan_state_of s [] = Err 0
scan_state_of s (code ∷ bytes) =
    if (s == 1) && ((code == 1) || (code == 3) || (code == 4)) then Ok (tt, bytes)
    else if (s == 2) && (code == 2) then with_value (λ r. tt) (scan_report bytes)
    else Err (suc (length bytes))

-- an aaid, a branch and a recovery state: so many letters and bytes of state
unfoldable pub scan_reply_of : ℕ → Scan (Unit {0})
scan_reply_of k bytes =
    then_scan (scan_site_within (k - 18) (k - 2) bytes) (λ a rest.
    then_scan (scan_mark rest) (λ m rest.
    then_scan (scan_site_within (k - length a - 2) (k - length a - 1) rest) (λ b rest.
    (scan_make (λ n s. tt) with scan_mark with scan_state_of (k - length a - length b)) rest)))

-- octets of exactly this count
unfoldable pub scan_octets_of : ℕ → Scan (Unit {0})
scan_octets_of k = scan_make (λ high low xs. tt) with scan_this (k / 256) with scan_this (k % 256) with scan_skip k

-- the codes of dialogue records without a field, of one byte
unfoldable pub is_bare : ℕ → Bool
is_bare code = (code == 1) || (nat_le 3 code && nat_le code 11) || (nat_le 13 code && nat_le code 15) || (code == 17) || (code == 19) || (code == 20)

-- a dialogue record of so many bytes: 1; 2 with a report; 3 to 1027 with octets; 42 to 72 for a begin
unfoldable pub scan_dialogue_of : ℕ → Scan (Unit {0})
scan_dialogue_of d [] = Err 0
scan_dialogue_of d (code ∷ bytes) =
    if (d == 1) && is_bare code then Ok (tt, bytes)
    else if (d == 2) && ((code == 16) || (code == 18)) then with_value (λ r. tt) (scan_report bytes)
    else if (nat_le 3 d && nat_le d 1027) && (code == 2) then scan_octets_of (d - 3) bytes
    else if (nat_le 42 d && nat_le d 72) && (code == 12) then (scan_make (λ n h. tt) with scan_names_of (d - 40) with scan_holder) bytes
    else Err (suc (length bytes))

-- ---- a record

-- the lengths that the text of a record can have
abbrev pub is_peer_length : ℕ → Bool
is_peer_length n = (n == 20) || (n == 38) || (nat_le 41 n && nat_le n 1072)

-- open has 20 bytes, accept 38, shut 20 or 38, on an association 46 to 1072, a reply 42 to 73, the other questions 41 to 71
unfoldable pub scan_peer_of : ℕ → Scan (Unit {0})
scan_peer_of n [] = Err 0
scan_peer_of n (code ∷ bytes) =
    if (n == 20) && (code == 1) then (scan_make (λ x u. tt) with scan_mark with scan_units) bytes
    else if (n == 38) && (code == 2) then (scan_make (λ x y u. tt) with scan_mark with scan_mark with scan_units) bytes
    else if (n == 20) && (code == 3) then (scan_make (λ x f. tt) with scan_mark with scan_this 0) bytes
    else if (n == 38) && (code == 3) then (scan_make (λ x f y. tt) with scan_mark with scan_this 1 with scan_mark) bytes
    else if (nat_le 46 n && nat_le n 1072)
    && (code == 4) then (scan_make (λ x y s r. tt) with scan_mark with scan_mark with scan_long with scan_dialogue_of (n - 45)) bytes
    else if (nat_le 41 n && nat_le n 71) && ((code == 5) || (code == 6) || (code == 8)) then scan_names_of (n - 39) bytes
    else if (nat_le 42 n && nat_le n 73) && (code == 7) then scan_reply_of (n - 39) bytes
    else Err (suc (length bytes))

-- ---- the octets

-- how many bytes are left where nothing is read
abbrev pub left_of : {A : Type 0} → Result (A × List ℕ) ℕ → ℕ
left_of (Ok p) = 0
left_of (Err left) = left

-- a count that a record can have: its first byte is 0 to 4
unfoldable pub scan_peer_count : Scan ℕ
scan_peer_count bytes =
    then_scan (scan_byte_that (λ high. nat_le high 4) bytes) (λ high rest.
    with_value (λ low. high * 256 + low) (scan_byte_that (λ low. is_peer_length (high * 256 + low)) rest))

-- the place that looking through a record of the count's length tells
unfoldable pub sent_place : List ℕ → ℕ
sent_place bytes = min (length bytes) (left_of (then_scan (scan_peer_count bytes) scan_peer_of))

-- the octets, where they are the text of one record; else that place
unfoldable pub scan_sent : Scan (List ℕ)
scan_sent bytes = elim (that is_peer_text (read_octets 2000) bytes) [ Some p ↦ Ok p | None ↦ Err (sent_place bytes) ]
