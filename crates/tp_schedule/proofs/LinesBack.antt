-- The text of each line that has one reads back to it.
use Rattle.std.proofs.Common.{◌≡◌, ℕ, ◌+◌, ◌<◌, ◌≤◌, Bool, true, false, Option, Some, None, List, [], ◌∷◌, length, refl, ap, ◌∙◌, arith, codes, length-append}
use Rattle.std.specs.Prelude.{◌&&◌, nat_le, nat_lt}
use Rattle.std.proofs.lemmas.Bool.Decides.{nat_tests}
use Rattle.tp_names.specs.Bytes.{all_bytes, is_site_name}
use Rattle.tp_names.specs.declared.outcome.Outcome.{Outcome}
use Rattle.tp_model.specs.declared.line.LineRequest.{LineRequest}
use Rattle.tp_model.specs.declared.line.Action.{Action}
use Rattle.tp_model.specs.declared.line.Line.{Line}
use Rattle.tp_model.specs.declared.verdict.Why.{Why}
use Rattle.tp_model.specs.Words.{decimal, hex, octets_word, units_word, outcome_word, words}
use Rattle.tp_model.specs.LineText.{request_words, action_words, line_words, line_text}
use Rattle.tp_model.specs.LineReading.{Form, Well, Reading, Blank, Faulty, Says, says, with, both, number, number_in, units, octets, outcome, site, fill, read_by, request_readers, action_readers, line_readers, read_words, read_line, is_comment, words_in}
use Rattle.tp_schedule.specs.HasText.{is_number, is_byte, are_units, are_octets, request_has_text, action_has_text, under_has_text, line_has_text}
use Rattle.tp_schedule.proofs.lemmas.Back.{is_plain, all_plain, words_back, number_in_back, decimal_plain, decimal_short, octets_plain, octets_short, octets_back, fill_back, fill_plain, units_back, units_plain, units_short, site_plain, site_short, site_back}

-- ---- tests in parts

two_parts : (a b : Bool) → (a && b) ≡ true → (a ≡ true) × (b ≡ true)
two_parts true true all = (refl, refl)
two_parts true false all = absurd cc
two_parts false b all = absurd cc

-- ---- words that read back

-- a word that is read as a value, with no space in it, and of so many bytes at most
record Says_back {A : Type 0} (read : Form A) (a : A) (most : ℕ) (w : List ℕ) : Type 0 where
  reads : read ≡ Well a
  plain : is_plain w ≡ true
  short : length w ≤ most

number_says : (n : ℕ) → is_number n ≡ true → Says_back (number (decimal n)) n 5 (decimal n)
number_says n good =
    let low : 1 ≤ n = grind (arith, nat_tests) in
    let high : n ≤ 65535 = grind (arith, nat_tests) in
    record {
      reads = number_in_back 1 65535 n (omega arith) low high (omega arith);
      plain = decimal_plain n (omega arith);
      short = decimal_short n (omega arith);
    }

call_says : (n : ℕ) → nat_le 1 n ≡ true → nat_le n 99 ≡ true → Says_back (number_in 1 99 (decimal n)) n 5 (decimal n)
call_says n first last =
    let low : 1 ≤ n = grind (arith, nat_tests) in
    let high : n ≤ 99 = grind (arith, nat_tests) in
    record {
      reads = number_in_back 1 99 n (omega arith) low high (omega arith);
      plain = decimal_plain n (omega arith);
      short = decimal_short n (omega arith);
    }

units_say : (u : ℕ) → are_units u ≡ true → Says_back (units (units_word u)) u 6 (units_word u)
units_say u good =
    let p = bounds u good in
    record { reads = units_back u p.0 p.1; plain = units_plain u p.0 p.1; short = units_short u p.0 p.1 }
  where
    low : (v : ℕ) → are_units v ≡ true → 1 ≤ v
    low v good = grind (arith, nat_tests)

    high : (v : ℕ) → are_units v ≡ true → v < 64
    high v good = grind (arith, nat_tests)

    bounds : (v : ℕ) → are_units v ≡ true → (1 ≤ v) × (v < 64)
    bounds v good = (low v good, high v good)

octets_say : (xs : List ℕ) → are_octets xs ≡ true → Says_back (octets (octets_word xs)) xs 4000 (octets_word xs)
octets_say xs good =
    let p = two_parts (nat_le (length xs) 2000) (all_bytes is_byte xs) good in
    let few : length xs ≤ 2000 = short (length xs) p.0 in
    record { reads = octets_back xs few p.1; plain = octets_plain xs p.1; short = octets_short xs few }
  where
    short : (n : ℕ) → nat_le n 2000 ≡ true → n ≤ 2000
    short n test = grind (arith, nat_tests)

site_says : (s : List ℕ) → is_site_name s ≡ true → Says_back (site s) s 16 s
site_says s name = record { reads = site_back s name; plain = site_plain s name; short = site_short s name }

outcome_says : (o : Outcome) → Says_back (outcome (outcome_word o)) o 8 (outcome_word o)
outcome_says Outcome.Commit = record { reads = refl; plain = refl; short = omega arith }
outcome_says Outcome.Rollback = record { reads = refl; plain = refl; short = omega arith }

fill_says : (x : ℕ) → is_byte x ≡ true → Says_back (fill (hex (x ∷ []))) x 2 (hex (x ∷ []))
fill_says x small = record { reads = fill_back x small; plain = fill_plain x small; short = omega arith }

-- ---- lists of words that read back

-- the bytes of words, and one after each
abbrev total : List (List ℕ) → ℕ
total [] = 0
total (w ∷ ws) = length w + 1 + total ws

record Say_back {A : Type 0} (read : Form A) (a : A) (most : ℕ) (ws : List (List ℕ)) : Type 0 where
  reads : read ≡ Well a
  plain : all_plain ws ≡ true
  short : total ws ≤ most

none_back : {A : Type 0} → (a : A) (v : List ℕ) → is_plain v ≡ true → length v ≤ 30 → Say_back (Well a) a 4060 (v ∷ [])
none_back a v plain short = record { reads = refl; plain = rw plain refl; short = omega arith }

one_back : {A B : Type 0} → (f : B → A) (read : Form B) (b : B) (most : ℕ) (v w : List ℕ) → is_plain v ≡ true → length v ≤ 30 → most ≤ 4000
    → Says_back read b most w → Say_back (with f read) (f b) 4060 (v ∷ w ∷ [])
one_back f read b most v w plain short few back =
    record { reads = ap (with f) back.reads; plain = rw (plain, back.plain) refl; short = omega (arith, back.short) }

two_back : {A B C : Type 0} → (f : B → C → A) (x : Form B) (y : Form C) (b : B) (c : C) (m : ℕ) (v s w : List ℕ) → is_plain v ≡ true → length v ≤ 30 → m ≤ 4000
    → Says_back x b 5 s → Says_back y c m w → Say_back (both f x y) (f b c) 4060 (v ∷ s ∷ w ∷ [])
two_back f x y b c m v s w plain short few first second =
    record {
      reads = rw (first.reads, second.reads) refl;
      plain = rw (plain, first.plain, second.plain) refl;
      short = omega (arith, first.short, second.short);
    }

-- ---- requests

request_back : (r : LineRequest) → request_has_text r ≡ true → Say_back (read_by request_readers (request_words r)) r 4060 (request_words r)
request_back (LineRequest.BeginDialogue p u) good =
    let both_good = two_parts (is_number p) (are_units u) good in
    two_back LineRequest.BeginDialogue _ _ p u 6 (codes "begin-dialogue") _ _ refl (omega arith) (omega arith) (number_says p both_good.0) (units_say u both_good.1)
request_back (LineRequest.Accept u) good = one_back LineRequest.Accept _ u 6 (codes "accept") _ refl (omega arith) (omega arith) (units_say u good)
request_back LineRequest.Reject good = none_back LineRequest.Reject (codes "reject") refl (omega arith)
request_back (LineRequest.EndDialogue p) good = one_back LineRequest.EndDialogue _ p 5 (codes "end-dialogue") _ refl (omega arith) (omega arith) (number_says p good)
request_back (LineRequest.UserData p xs) good =
    let both_good = two_parts (is_number p) (are_octets xs) good in
    two_back LineRequest.UserData _ _ p xs 4000 (codes "data") _ _ refl (omega arith) (omega arith) (number_says p both_good.0) (octets_say xs both_good.1)
request_back (LineRequest.UError p) good = one_back LineRequest.UError _ p 5 (codes "u-error") _ refl (omega arith) (omega arith) (number_says p good)
request_back (LineRequest.UAbort p) good = one_back LineRequest.UAbort _ p 5 (codes "u-abort") _ refl (omega arith) (omega arith) (number_says p good)
request_back (LineRequest.Grant p) good = one_back LineRequest.Grant _ p 5 (codes "grant-control") _ refl (omega arith) (omega arith) (number_says p good)
request_back (LineRequest.AskControl p) good = one_back LineRequest.AskControl _ p 5 (codes "request-control") _ refl (omega arith) (omega arith) (number_says p good)
request_back (LineRequest.Handshake p) good = one_back LineRequest.Handshake _ p 5 (codes "handshake") _ refl (omega arith) (omega arith) (number_says p good)
request_back (LineRequest.Respond p) good = one_back LineRequest.Respond _ p 5 (codes "respond") _ refl (omega arith) (omega arith) (number_says p good)
request_back (LineRequest.HandshakeGrant p) good = one_back LineRequest.HandshakeGrant _ p 5 (codes "handshake-and-grant") _ refl (omega arith) (omega arith) (number_says p good)
request_back (LineRequest.BeginTransaction p) good = one_back LineRequest.BeginTransaction _ p 5 (codes "begin-transaction") _ refl (omega arith) (omega arith) (number_says p good)
request_back (LineRequest.DeferEnd p) good = one_back LineRequest.DeferEnd _ p 5 (codes "deferred-end") _ refl (omega arith) (omega arith) (number_says p good)
request_back (LineRequest.DeferGrant p) good = one_back LineRequest.DeferGrant _ p 5 (codes "deferred-grant") _ refl (omega arith) (omega arith) (number_says p good)
request_back (LineRequest.Prepare p) good = one_back LineRequest.Prepare _ p 5 (codes "prepare") _ refl (omega arith) (omega arith) (number_says p good)
request_back LineRequest.Commit good = none_back LineRequest.Commit (codes "commit") refl (omega arith)
request_back LineRequest.Done good = none_back LineRequest.Done (codes "done") refl (omega arith)
request_back LineRequest.Rollback good = none_back LineRequest.Rollback (codes "rollback") refl (omega arith)
request_back LineRequest.Unchanged good = none_back LineRequest.Unchanged (codes "unchanged") refl (omega arith)

-- ---- lines with one event

do_back : {A : Type 0} → (f : ℕ → LineRequest → A) (n : ℕ) (r : LineRequest) → is_number n ≡ true → request_has_text r ≡ true
    → Say_back (both f (number (decimal n)) (read_by request_readers (request_words r))) (f n r) 4080 (codes "do" ∷ decimal n ∷ request_words r)
do_back f n r number_good request_good =
    let first = number_says n number_good in
    let rest = request_back r request_good in
    record {
      reads = rw (first.reads, rest.reads) refl;
      plain = rw (first.plain, rest.plain) refl;
      short = omega (arith, first.short, rest.short);
    }

wider : {A : Type 0} → (read : Form A) (a : A) (ws : List (List ℕ)) → Say_back read a 4060 ws → Say_back read a 4080 ws
wider read a ws back = record { reads = back.reads; plain = back.plain; short = omega (arith, back.short) }

action_back : (l : Action) → action_has_text l ≡ true → Say_back (read_by action_readers (action_words l)) l 4080 (action_words l)
action_back (Action.Do n r) good = let p = two_parts (is_number n) (request_has_text r) good in do_back Action.Do n r p.0 p.1
action_back (Action.Pass a b) good =
    let p = two_parts (is_number a) (is_number b) good in
    wider _ _ _ (two_back Action.Pass _ _ a b 5 (codes "pass") _ _ refl (omega arith) (omega arith) (number_says a p.0) (number_says b p.1))
action_back (Action.Again k) good = wider _ _ _ (one_back Action.Again _ k 5 (codes "again") _ refl (omega arith) (omega arith) (number_says k good))
action_back (Action.Lose n q) good =
    let p = two_parts (is_number n) (is_number q) good in
    wider _ _ _ (two_back Action.Lose _ _ n q 5 (codes "lose") _ _ refl (omega arith) (omega arith) (number_says n p.0) (number_says q p.1))
action_back (Action.Heur n o) good = wider _ _ _ (two_back Action.Heur _ _ n o 8 (codes "heur") _ _ refl (omega arith) (omega arith) (number_says n good) (outcome_says o))
action_back (Action.GiveUp n q) good =
    let p = two_parts (is_number n) (is_number q) good in
    wider _ _ _ (two_back Action.GiveUp _ _ n q 5 (codes "giveup") _ _ refl (omega arith) (omega arith) (number_says n p.0) (number_says q p.1))
action_back (Action.Retry n) good = wider _ _ _ (one_back Action.Retry _ n 5 (codes "retry") _ refl (omega arith) (omega arith) (number_says n good))
action_back (Action.Purge n) good = wider _ _ _ (one_back Action.Purge _ n 5 (codes "purge") _ refl (omega arith) (omega arith) (number_says n good))

-- ---- lines

longer : {A : Type 0} → (read : Form A) (a : A) (ws : List (List ℕ)) → Say_back read a 4080 ws → Say_back read a 4200 ws
longer read a ws back = record { reads = back.reads; plain = back.plain; short = omega (arith, back.short) }

node_back : (n : ℕ) (s : List ℕ) (p : Option ℕ) → is_number n ≡ true → is_site_name s ≡ true → under_has_text p ≡ true
    → Say_back (read_by line_readers (line_words (Line.Node n s p))) (Line.Node n s p) 4200 (line_words (Line.Node n s p))
node_back n s None number_good name good =
    let first = number_says n number_good in
    let second = site_says s name in
    record {
      reads = rw (first.reads, second.reads) refl;
      plain = rw (first.plain, second.plain) refl;
      short = omega (arith, first.short, second.short);
    }
node_back n s (Some p) number_good name good =
    let first = number_says n number_good in
    let second = site_says s name in
    let third = number_says p good in
    record {
      reads = rw (first.reads, second.reads, third.reads) refl;
      plain = rw (first.plain, second.plain, third.plain) refl;
      short = omega (arith, first.short, second.short, third.short);
    }

crash_in_back : (s : List ℕ) (k x : ℕ) (l : Action) → is_site_name s ≡ true → nat_le 1 k ≡ true → nat_le k 99 ≡ true → is_byte x ≡ true → action_has_text l ≡ true
    → Say_back (read_by line_readers (line_words (Line.CrashIn s k x l))) (Line.CrashIn s k x l) 4200 (line_words (Line.CrashIn s k x l))
crash_in_back s k x l name low high small good =
    let first = site_says s name in
    let second = call_says k low high in
    let third = fill_says x small in
    let rest = action_back l good in
    record {
      reads = rw (first.reads, second.reads, third.reads, rest.reads) refl;
      plain = rw (first.plain, second.plain, third.plain, rest.plain) refl;
      short = omega (arith, first.short, second.short, third.short, rest.short);
    }

line_back : (l : Line) → line_has_text l ≡ true → Say_back (read_by line_readers (line_words l)) l 4200 (line_words l)
line_back (Line.Node n s p) good =
    let a = two_parts (is_number n && is_site_name s) (under_has_text p) good in
    let b = two_parts (is_number n) (is_site_name s) a.0 in
    node_back n s p b.0 b.1 a.1
line_back (Line.Do n r) good = let p = two_parts (is_number n) (request_has_text r) good in longer _ _ _ (do_back Line.Do n r p.0 p.1)
line_back (Line.Pass a b) good =
    let p = two_parts (is_number a) (is_number b) good in
    longer _ _ _ (wider _ _ _ (two_back Line.Pass _ _ a b 5 (codes "pass") _ _ refl (omega arith) (omega arith) (number_says a p.0) (number_says b p.1)))
line_back (Line.Skip a b) good =
    let p = two_parts (is_number a) (is_number b) good in
    longer _ _ _ (wider _ _ _ (two_back Line.Skip _ _ a b 5 (codes "skip") _ _ refl (omega arith) (omega arith) (number_says a p.0) (number_says b p.1)))
line_back (Line.Lose n q) good =
    let p = two_parts (is_number n) (is_number q) good in
    longer _ _ _ (wider _ _ _ (two_back Line.Lose _ _ n q 5 (codes "lose") _ _ refl (omega arith) (omega arith) (number_says n p.0) (number_says q p.1)))
line_back (Line.GiveUp n q) good =
    let p = two_parts (is_number n) (is_number q) good in
    longer _ _ _ (wider _ _ _ (two_back Line.GiveUp _ _ n q 5 (codes "giveup") _ _ refl (omega arith) (omega arith) (number_says n p.0) (number_says q p.1)))
line_back (Line.Auto n k) good =
    let p = two_parts (is_number n) (is_number k) good in
    longer _ _ _ (wider _ _ _ (two_back Line.Auto _ _ n k 5 (codes "auto") _ _ refl (omega arith) (omega arith) (number_says n p.0) (number_says k p.1)))
line_back (Line.Again k) good = longer _ _ _ (wider _ _ _ (one_back Line.Again _ k 5 (codes "again") _ refl (omega arith) (omega arith) (number_says k good)))
line_back (Line.Retry n) good = longer _ _ _ (wider _ _ _ (one_back Line.Retry _ n 5 (codes "retry") _ refl (omega arith) (omega arith) (number_says n good)))
line_back (Line.Purge n) good = longer _ _ _ (wider _ _ _ (one_back Line.Purge _ n 5 (codes "purge") _ refl (omega arith) (omega arith) (number_says n good)))
line_back (Line.Show n) good = longer _ _ _ (wider _ _ _ (one_back Line.Show _ n 5 (codes "show") _ refl (omega arith) (omega arith) (number_says n good)))
line_back (Line.Leave k) good = longer _ _ _ (wider _ _ _ (one_back Line.Leave _ k 5 (codes "leave") _ refl (omega arith) (omega arith) (number_says k good)))
line_back Line.Drain good = longer _ _ _ (wider _ _ _ (none_back Line.Drain (codes "drain") refl (omega arith)))
line_back (Line.Heur n o) good = longer _ _ _ (wider _ _ _ (two_back Line.Heur _ _ n o 8 (codes "heur") _ _ refl (omega arith) (omega arith) (number_says n good) (outcome_says o)))
line_back (Line.Crash s) good = longer _ _ _ (wider _ _ _ (one_back Line.Crash _ s 16 (codes "crash") _ refl (omega arith) (omega arith) (site_says s good)))
line_back (Line.Image s) good = longer _ _ _ (wider _ _ _ (one_back Line.Image _ s 16 (codes "image") _ refl (omega arith) (omega arith) (site_says s good)))
line_back (Line.CrashIn s k x l) good =
    let a = two_parts (is_site_name s && nat_le 1 k && nat_le k 99 && is_byte x) (action_has_text l) good in
    let b = two_parts (is_site_name s && nat_le 1 k && nat_le k 99) (is_byte x) a.0 in
    let c = two_parts (is_site_name s && nat_le 1 k) (nat_le k 99) b.0 in
    let d = two_parts (is_site_name s) (nat_le 1 k) c.0 in
    crash_in_back s k x l d.0 d.1 c.1 b.1 a.1

-- ---- the text of a line

length_words : (ws : List (List ℕ)) → length (words ws) ≤ total ws
length_words [] = omega arith
length_words (w ∷ []) = omega arith
length_words (w ∷ v ∷ vs) = omega (arith, length-append w (32 ∷ words (v ∷ vs)), length_words (v ∷ vs))

no_comment : (l : Line) → is_comment (line_text l) ≡ false
no_comment (Line.Node n s None) = refl
no_comment (Line.Node n s (Some p)) = refl
no_comment (Line.Do n r) = refl
no_comment (Line.Pass a b) = refl
no_comment (Line.Skip a b) = refl
no_comment (Line.Again k) = refl
no_comment Line.Drain = refl
no_comment (Line.Lose n p) = refl
no_comment (Line.Heur n o) = refl
no_comment (Line.GiveUp n p) = refl
no_comment (Line.Retry n) = refl
no_comment (Line.Purge n) = refl
no_comment (Line.Crash s) = refl
no_comment (Line.CrashIn s k x l) = refl
no_comment (Line.Show n) = refl
no_comment (Line.Image s) = refl
no_comment (Line.Auto n k) = refl
no_comment (Line.Leave k) = refl

has_words : (l : Line) → read_words (line_words l) ≡ says (read_by line_readers (line_words l))
has_words (Line.Node n s p) = refl
has_words (Line.Do n r) = refl
has_words (Line.Pass a b) = refl
has_words (Line.Skip a b) = refl
has_words (Line.Again k) = refl
has_words Line.Drain = refl
has_words (Line.Lose n p) = refl
has_words (Line.Heur n o) = refl
has_words (Line.GiveUp n p) = refl
has_words (Line.Retry n) = refl
has_words (Line.Purge n) = refl
has_words (Line.Crash s) = refl
has_words (Line.CrashIn s k x l) = refl
has_words (Line.Show n) = refl
has_words (Line.Image s) = refl
has_words (Line.Auto n k) = refl
has_words (Line.Leave k) = refl

short_enough : (n : ℕ) → n ≤ 4200 → nat_lt 8192 n ≡ false
short_enough n small = grind (arith, nat_tests)

pub line_reads_back : (l : Line) → line_has_text l ≡ true → read_line (line_text l) ≡ Says l
line_reads_back l good =
    let back = line_back l good in
    let text = line_text l in
    let size : length text ≤ 4200 = omega (arith, length_words (line_words l), back.short) in
    ap (λ (b : Bool). elim b as (λ _. Reading) [ true ↦ Faulty Why.Long | false ↦ elim (is_comment text) as (λ _. Reading) [ true ↦ Blank | false ↦ read_words (words_in text) ] ]) (short_enough (length text) size)
    ∙ ap (λ (b : Bool). elim b as (λ _. Reading) [ true ↦ Blank | false ↦ read_words (words_in text) ]) (no_comment l)
    ∙ ap read_words (words_back (line_words l) back.plain)
    ∙ has_words l
    ∙ ap says back.reads
