-- What stands in a file, to the byte, after writes that are done.
use Rattle.std.proofs.Common.{◌≡◌, inl, inr, ◌≤◌, ◌<◌, ℕ, ◌+◌, min, Option, Some, None, List, [], ◌∷◌, ◌++◌, length, take, drop, sym, ap, ◌∙◌, subst, arith, length-append, length-take, take-append-drop}
use Rattle.std.proofs.lemmas.List.{take-take, drop_at, drop-drop, take-append-le}
use Rattle.tp_outside.specs.Story.{Story}
use Rattle.tp_outside.specs.Disk.{IsWritten}
use Rattle.tp_journal.specs.Log.{counted, blocks, head, forced_bytes}
use Rattle.tp_journal.specs.Started.{IsKept}
use Rattle.tp_journal.specs.Told.{IsOn}

-- the piece, between what stood before it and after it
pub written_is : (at : ℕ) (piece file now : List ℕ) → at ≤ length file → IsWritten at piece file now → now ≡ take at file ++ (piece ++ drop (at + length piece) file)
written_is at piece file now within written =
    let n = length piece in
    let low : min at (length file) ≡ at = omega (arith, within) in
    let before : take at now ≡ take at file = subst (λ (k : ℕ). take k now ≡ take k file) low written.torn.before in
    let after : drop n (drop at now) ≡ drop (at + n) file = drop-drop n at now ∙ written.torn.after in
    sym (take-append-drop at now) ∙ ap (λ (l : List ℕ). l ++ drop at now) before
    ∙ ap (λ (l : List ℕ). take at file ++ l) (sym (take-append-drop n (drop at now)) ∙ ap (λ (l : List ℕ). l ++ drop n (drop at now)) written.stands ∙ ap (λ (l : List ℕ). piece ++ l) after)

-- a piece after a gate, and then the gate
pub gate_opened : (gate : ℕ) (piece file mid now : List ℕ) → gate < length file → IsWritten (gate + 1) piece file mid → IsWritten gate (1 ∷ []) mid now
    → now ≡ take gate file ++ (1 ∷ (piece ++ drop (gate + 1 + length piece) file))
gate_opened gate piece file mid now within first second =
    let front = take (gate + 1) file in
    let rest = piece ++ drop (gate + 1 + length piece) file in
    let mid_is : mid ≡ front ++ rest = written_is (gate + 1) piece file mid (omega (arith, within)) first in
    let long : length front ≡ gate + 1 = omega (arith, length-take (gate + 1) file, within) in
    let before : take gate mid ≡ take gate file =
    ap (λ (l : List ℕ). take gate l) mid_is ∙ take-append-le gate front rest (omega (arith, long)) ∙ take-take gate (gate + 1) file (omega arith) in
    let after : drop (gate + 1) mid ≡ rest = ap (λ (l : List ℕ). drop (gate + 1) l) mid_is ∙ drop_at front rest (gate + 1) long in
    written_is gate (1 ∷ []) mid now (omega (arith, first.torn.no_shorter, within)) second
    ∙ ap (λ (l : List ℕ). l ++ (1 ∷ drop (gate + 1) mid)) before ∙ ap (λ (l : List ℕ). take gate file ++ (1 ∷ l)) after

-- a disk holds one file
pub one_file : (told : Option Story) (file other : List ℕ) → IsOn told file → IsOn told other → file ≡ other
one_file None file other on also = absurd on
one_file (Some s) file other on also = sym on.1 ∙ also.1

-- a log at rest ends no sooner than its closing gate
pub has_gate : (told : Option Story) (gate : ℕ) (bodies : List (List ℕ)) (shut : Option ℕ) → shut ≡ None → IsKept told gate bodies shut → (file : List ℕ) → IsOn told file → gate < length file
has_gate told gate bodies (Some faults) open_now kept file on = absurd (cc open_now)
has_gate told gate bodies None open_now (inl none) file on = absurd (subst (λ o. IsOn o file) none on)
has_gate told gate bodies None open_now (inr rests) file on =
    let stands = rests.stands in
    let long : length rests.file ≡ length (head stands.selector ++ blocks bodies) + length (stands.gate ∷ stands.rest) =
    ap length stands.whole ∙ length-append (head stands.selector ++ blocks bodies) (stands.gate ∷ stands.rest) in
    omega (arith, ap length (one_file told file rests.file on rests.on), long, length-append (head stands.selector) (blocks bodies), rests.place)

-- a body is forced
pub body_forced : (gate : ℕ) (body piece file : List ℕ) (told : Option Story) → piece ≡ counted body ++ 0 ∷ [] → IsOn told (take gate file ++ (1 ∷ (piece ++ drop (gate + 1 + length piece) file))) → IsOn told (forced_bytes gate body file)
body_forced gate body piece file told is on =
    let long : gate + 1 + length piece ≡ gate + 4 + length body = omega (arith, ap length is, length-append (counted body) (0 ∷ [])) in
    subst (IsOn told) (ap (λ (n : ℕ). take gate file ++ (1 ∷ (piece ++ drop n file))) long ∙ ap (λ (p : List ℕ). take gate file ++ (1 ∷ (p ++ drop (gate + 4 + length body) file))) is) on
