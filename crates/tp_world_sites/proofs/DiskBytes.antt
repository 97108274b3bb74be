-- The bytes of a site's disk: those of the definitions, once one record more is forced.
use Rattle.std.proofs.Common.{◌≡◌, ◌<◌, ◌+◌, ◌/◌, ◌%◌, ◌^◌, ◌++◌, inl, inr, ℕ, suc, Bool, refl, ap, sym, ◌∙◌, subst, arith, Some, List, [], ◌∷◌, length, take, drop, append_assoc, length-append}
use Rattle.std.specs.List.{AllByRecursion}
use Rattle.std.proofs.lemmas.List.{append-nil}
use Rattle.tp_logrec.specs.declared.record.LogRec.{LogRec}
use Rattle.tp_logrec.specs.declared.record.LogVersion.{LogVersion}
use Rattle.tp_logrec.specs.RecordText.{record_bytes}
use Rattle.tp_outside.specs.Story.{Story, seen}
use Rattle.tp_outside.proofs.Stories.{seen_is_image}
use Rattle.tp_journal.specs.Log.{IsBody, StandsFor, counted, forced_bytes}
use Rattle.tp_journal.specs.Records.{text, bodies_of}
use Rattle.tp_journal.specs.Told.{LeavesNow}
use Rattle.tp_journal.proofs.RecordBodies.{bodies-push}
use Rattle.tp_model.specs.Disk.{Disk, framed_record, log_head, records_before, disk_bytes, forced, piece}
use Rattle.tp_framing.specs.Frames.{frame_bytes}
use Rattle.tp_model.specs.Lines.{log_size}

-- ---- before the gate, and from it on

records_front : (rs : List LogRec) (t : List ℕ) → records_before rs t ≡ records_before rs [] ++ t
records_front [] t = refl
records_front (r ∷ rs) t =
    records_front rs (1 ∷ framed_record r ++ t)
    ∙ ap (λ (l : List ℕ). records_before rs [] ++ (1 ∷ l ++ t)) (sym (append-nil (framed_record r)))
    ∙ sym (append_assoc (records_before rs []) (1 ∷ framed_record r ++ []) t)
    ∙ ap (λ (l : List ℕ). l ++ t) (sym (records_front rs (1 ∷ framed_record r ++ [])))

abbrev pub front : List LogRec → List ℕ
front rs = log_head ++ records_before rs []

pub at_front : (d : Disk) → disk_bytes d ≡ front d.records ++ d.gate ∷ d.behind
at_front d = ap (λ (l : List ℕ). log_head ++ l) (records_front d.records (d.gate ∷ d.behind)) ∙ sym (append_assoc log_head (records_before d.records []) (d.gate ∷ d.behind))

pub front_more : (r : LogRec) (rs : List LogRec) → front (r ∷ rs) ≡ front rs ++ 1 ∷ framed_record r
front_more r rs =
    ap (λ (l : List ℕ). log_head ++ l) (records_front rs (1 ∷ framed_record r ++ []) ∙ ap (λ (l : List ℕ). records_before rs [] ++ 1 ∷ l) (append-nil (framed_record r)))
    ∙ sym (append_assoc log_head (records_before rs []) (1 ∷ framed_record r))

pub front_length : (rs : List LogRec) → length (front rs) + 1 ≡ log_size rs
front_length [] = refl
front_length (r ∷ rs) =
    let rest : length (front rs) + 1 ≡ log_size rs = front_length rs in
    let more : length (front (r ∷ rs)) ≡ length (front rs) + suc (length (framed_record r)) = ap length (front_more r rs) ∙ length-append (front rs) (1 ∷ framed_record r) in
    omega (arith, rest, more)

-- ---- lists

pub take_front : (p xs : List ℕ) → take (length p) (p ++ xs) ≡ p
take_front [] xs = refl
take_front (x ∷ p) xs = ap (λ (l : List ℕ). x ∷ l) (take_front p xs)

pub drop_front : (p xs : List ℕ) (n : ℕ) → drop (length p + n) (p ++ xs) ≡ drop n xs
drop_front [] xs n = let e : length {A = ℕ} [] + n ≡ n = omega arith in ap (λ (m : ℕ). drop m xs) e
drop_front (x ∷ p) xs n = let e : length (x ∷ p) + n ≡ suc (length p + n) = omega arith in ap (λ (m : ℕ). drop m ((x ∷ p) ++ xs)) e ∙ drop_front p xs n

-- ---- one record more

pub counted_is : (body more : List ℕ) → length body < 2 ^ 16 → counted body ++ more ≡ frame_bytes body ++ more
counted_is body more short =
    let high : length body / 256 ≡ length body / 256 % 256 = omega arith in
    ap (λ (n : ℕ). n ∷ length body % 256 ∷ (body ++ more)) high

pub piece_length : (r : LogRec) → length (piece r) ≡ 3 + length (record_bytes LogVersion.Two r)
piece_length r = let more : length (record_bytes LogVersion.Two r ++ 0 ∷ []) ≡ length (record_bytes LogVersion.Two r) + 1 = length-append (record_bytes LogVersion.Two r) (0 ∷ []) in omega (arith, more)

pub forced_is : (r : LogRec) (d : Disk) (gate : ℕ) → gate + 1 ≡ log_size d.records → length (record_bytes LogVersion.Two r) < 2 ^ 16 → forced_bytes gate (record_bytes LogVersion.Two r) (disk_bytes d) ≡ disk_bytes (forced r d)
forced_is r d gate place short =
    let body : List ℕ = record_bytes LogVersion.Two r in
    let p : List ℕ = front d.records in
    let size : length p + 1 ≡ log_size d.records = front_length d.records in
    let at : gate ≡ length p = omega (arith, place, size) in
    let past : gate + 4 + length body ≡ length p + suc (3 + length body) = omega (arith, at) in
    let rest : drop (gate + 4 + length body) (disk_bytes d) ≡ drop (length (piece r)) d.behind =
    ap (λ (n : ℕ). drop n (disk_bytes d)) past ∙ ap (drop (length p + suc (3 + length body))) (at_front d) ∙ drop_front p (d.gate ∷ d.behind) (suc (3 + length body)) ∙ ap (λ (n : ℕ). drop n d.behind) (sym (piece_length r)) in
    let before : take gate (disk_bytes d) ≡ p = ap (λ (n : ℕ). take n (disk_bytes d)) at ∙ ap (take (length p)) (at_front d) ∙ take_front p (d.gate ∷ d.behind) in
    let last : List ℕ = drop (length (piece r)) d.behind in
    ap (λ (l : List ℕ). l ++ (1 ∷ ((counted body ++ 0 ∷ []) ++ drop (gate + 4 + length body) (disk_bytes d)))) before
    ∙ ap (λ (l : List ℕ). p ++ (1 ∷ ((counted body ++ 0 ∷ []) ++ l))) rest
    ∙ ap (λ (l : List ℕ). p ++ 1 ∷ l) (append_assoc (counted body) (0 ∷ []) last ∙ counted_is body (0 ∷ last) short)
    ∙ append_assoc log_head (records_before d.records []) (1 ∷ framed_record r ++ 0 ∷ last)
    ∙ ap (λ (l : List ℕ). log_head ++ l) (sym (records_front d.records (1 ∷ framed_record r ++ 0 ∷ last)))

-- ---- a record that is stored is a body

all_end : (P : List ℕ → Type 0) (xs : List (List ℕ)) (x : List ℕ) → AllByRecursion P (xs ++ x ∷ []) → P x
all_end P [] x h = h.0
all_end P (y ∷ xs) x h = all_end P xs x h.1

each_body : (file : List ℕ) (bodies : List (List ℕ)) → StandsFor file bodies → AllByRecursion IsBody bodies
each_body file bodies (inl front) = front.each
each_body file bodies (inr behind) = behind.each

pub stored_short : (wide : Bool) (rs : List LogRec) (r : LogRec) (s : Story) → LeavesNow (λ file. StandsFor file (bodies_of wide (rs ++ r ∷ []))) (Some s) → length (text wide r) < 2 ^ 16
stored_short wide rs r s leaves =
    let all : AllByRecursion IsBody (bodies_of wide (rs ++ r ∷ [])) = each_body (seen s) (bodies_of wide (rs ++ r ∷ [])) (leaves (seen s) (seen_is_image s)) in
    (all_end IsBody (bodies_of wide rs) (text wide r) (subst (AllByRecursion IsBody) (bodies-push wide rs r) all)).1
