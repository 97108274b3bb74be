-- What is read of a transcript's line is in the ranges of its types.
use Rattle.std.proofs.Common.{◌≡◌, ℕ, ◌+◌, ◌*◌, ◌<◌, ◌==◌, Bool, true, false, Option, Some, None, List, [], ◌∷◌, refl, ap, sym, ◌∙◌, arith, codes}
use Rattle.std.specs.Prelude.{◌&&◌, nat_le}
use Rattle.std.proofs.lemmas.Bool.Decides.{nat_tests}
use Rattle.tp_names.specs.declared.identifiers.Aaid.{Aaid}
use Rattle.tp_names.specs.declared.identifiers.BranchId.{BranchId}
use Rattle.tp_names.specs.declared.outcome.Outcome.{Outcome}
use Rattle.tp_names.specs.declared.outcome.Report.{Report}
use Rattle.tp_names.specs.Bytes.{is_site_name}
use Rattle.tp_names.specs.Same.{is_name}
use Rattle.tp_units.specs.Units.{is_permitted}
use Rattle.tp_records.specs.declared.dialogue.DialogueRecord.{DialogueRecord}
use Rattle.tp_records.specs.declared.indication.Indication.{Indication}
use Rattle.tp_records.specs.declared.peer.RecState.{RecState}
use Rattle.tp_model.specs.declared.out_line.LogWords.{LogWords}
use Rattle.tp_model.specs.declared.out_line.SentWords.{SentWords}
use Rattle.tp_model.specs.declared.out_line.PhaseWord.{PhaseWord}
use Rattle.tp_model.specs.declared.out_line.OutLine.{OutLine}
use Rattle.tp_model.specs.LineReading.{Form, Wrong, Outside, Well, form_of, with, both, three, no_words, one_word, two_words, number, outcome, site, hex_octets, words_in, onto_first}
use Rattle.tp_transcript.specs.declared.out_kinds.LogKind.{LogKind}
use Rattle.tp_transcript.specs.declared.out_kinds.DialogueKind.{DialogueKind}
use Rattle.tp_transcript.specs.declared.out_kinds.SentKind.{SentKind}
use Rattle.tp_transcript.specs.declared.out_kinds.PeerTold.{PeerTold}
use Rattle.tp_transcript.specs.declared.out_kinds.ToldKind.{ToldKind}
use Rattle.tp_transcript.specs.declared.out_kinds.TreeKind.{TreeKind}
use Rattle.tp_transcript.specs.declared.out_kinds.OutKind.{OutKind}
use Rattle.tp_model.specs.LineReading.{within, numeral, hex_value, pair_value, octet_before, units}
use Rattle.tp_schedule.specs.Answers.{pair, same}
use Rattle.tp_schedule.specs.Keywords.{named, behind}
use Rattle.tp_schedule.specs.HasText.{is_number, is_byte}
use Rattle.tp_transcript.specs.OutHasText.{is_short, is_long, are_bytes, mark_has_text, aaid_has_text, branch_has_text, if_there, key_has_text, are_numbers, some_numbers, log_has_text, dialogue_has_text, sent_has_text, told_has_text, out_has_text}
use Rattle.tp_transcript.specs.OutWords.{any_short, small, long, if_long, cut, at_dot, made_mark, made_aaid, made_branch, mark, aaid, branch, maybe, key, made_key, if_permitted, permitted, all_octets, report, holder, phase, fate, node_number, node_numbers, in_front, parts, numbers, by_kind, three_words, word_and}
use Rattle.tp_transcript.specs.OutKinds.{log_kind_text, log_kind_list, dialogue_kind_text, dialogue_kind_list, sent_kind_text, sent_kind_list, told_kind_text, told_kind_list, tree_kind_text, tree_kind_list, out_kind_text, out_kind_list}
use Rattle.tp_transcript.specs.OutReading.{keyed, log_reader, read_log, dialogue_reader, read_dialogue, read_state, sent_reader, read_sent, told_reader, read_told, by_numbers, tree_reader, tree_of, read_tree, read_image, read_send, read_state_line, hex_word, out_reader, candidate_in, echo_of, candidate}

-- all that r gives is good
abbrev pub Gives : {A : Type 0} → Form A → (A → Bool) → Type 0
Gives {A} x good = (a : A) → x ≡ Well a → good a ≡ true

pub and_true : (a b : Bool) → a ≡ true → b ≡ true → (a && b) ≡ true
and_true true true p q = refl
and_true true false p q = absurd cc
and_true false b p q = absurd cc

-- ---- put together

form_gives : {A : Type 0} → (o : Option A) (good : A → Bool) → ((a : A) → o ≡ Some a → good a ≡ true) → Gives (form_of o) good
form_gives None good all a is = absurd cc
form_gives (Some b) good all a is = all a (let e : b ≡ a = cc in ap Some e)

with_gives : {A B : Type 0} → (f : B → A) (x : Form B) (good : A → Bool) → ((b : B) → x ≡ Well b → good (f b) ≡ true) → Gives (with f x) good
with_gives f Wrong good all a is = absurd cc
with_gives f Outside good all a is = absurd cc
with_gives f (Well b) good all a is = let e : f b ≡ a = cc in ap good (sym e) ∙ all b refl

both_gives : {A B C : Type 0} → (f : B → C → A) (x : Form B) (y : Form C) (good : A → Bool) → ((b : B) (c : C) → x ≡ Well b → y ≡ Well c → good (f b c) ≡ true) → Gives (both f x y) good
both_gives f Wrong y good all a is = absurd cc
both_gives f Outside Wrong good all a is = absurd cc
both_gives f Outside Outside good all a is = absurd cc
both_gives f Outside (Well c) good all a is = absurd cc
both_gives f (Well b) Wrong good all a is = absurd cc
both_gives f (Well b) Outside good all a is = absurd cc
both_gives f (Well b) (Well c) good all a is = let e : f b c ≡ a = cc in ap good (sym e) ∙ all b c refl refl

three_gives : {A B C D : Type 0} → (f : B → C → D → A) (x : Form B) (y : Form C) (z : Form D) (good : A → Bool)
    → ((b : B) (c : C) (d : D) → x ≡ Well b → y ≡ Well c → z ≡ Well d → good (f b c d) ≡ true) → Gives (three f x y z) good
three_gives f Wrong y z good all a is = absurd cc
three_gives f Outside Wrong z good all a is = absurd cc
three_gives f Outside Outside Wrong good all a is = absurd cc
three_gives f Outside Outside Outside good all a is = absurd cc
three_gives f Outside Outside (Well d) good all a is = absurd cc
three_gives f Outside (Well c) Wrong good all a is = absurd cc
three_gives f Outside (Well c) Outside good all a is = absurd cc
three_gives f Outside (Well c) (Well d) good all a is = absurd cc
three_gives f (Well b) Wrong z good all a is = absurd cc
three_gives f (Well b) Outside Wrong good all a is = absurd cc
three_gives f (Well b) Outside Outside good all a is = absurd cc
three_gives f (Well b) Outside (Well d) good all a is = absurd cc
three_gives f (Well b) (Well c) Wrong good all a is = absurd cc
three_gives f (Well b) (Well c) Outside good all a is = absurd cc
three_gives f (Well b) (Well c) (Well d) good all a is = let e : f b c d ≡ a = cc in ap good (sym e) ∙ all b c d refl refl refl

none_gives : {A : Type 0} → (b : A) (ws : List (List ℕ)) (good : A → Bool) → good b ≡ true → Gives (no_words b ws) good
none_gives b [] good is a e = let f : b ≡ a = cc in ap good (sym f) ∙ is
none_gives b (w ∷ ws) good is a e = absurd cc

one_gives : {A B : Type 0} → (f : B → A) (r : List ℕ → Form B) (ws : List (List ℕ)) (good : A → Bool) → ((w : List ℕ) (b : B) → r w ≡ Well b → good (f b) ≡ true) → Gives (one_word f r ws) good
one_gives f r [] good all a is = absurd cc
one_gives f r (w ∷ []) good all a is = with_gives f (r w) good (all w) a is
one_gives f r (v ∷ w ∷ ws) good all a is = absurd cc

two_gives : {A B C : Type 0} → (f : B → C → A) (r : List ℕ → Form B) (s : List ℕ → Form C) (ws : List (List ℕ)) (good : A → Bool)
    → ((v w : List ℕ) (b : B) (c : C) → r v ≡ Well b → s w ≡ Well c → good (f b c) ≡ true) → Gives (two_words f r s ws) good
two_gives f r s [] good all a is = absurd cc
two_gives f r s (v ∷ []) good all a is = absurd cc
two_gives f r s (v ∷ w ∷ []) good all a is = both_gives f (r v) (s w) good (all v w) a is
two_gives f r s (v ∷ w ∷ x ∷ ws) good all a is = absurd cc

threes_give : {A B C D : Type 0} → (f : B → C → D → A) (r : List ℕ → Form B) (s : List ℕ → Form C) (t : List ℕ → Form D) (ws : List (List ℕ)) (good : A → Bool)
    → ((u v w : List ℕ) (b : B) (c : C) (d : D) → r u ≡ Well b → s v ≡ Well c → t w ≡ Well d → good (f b c d) ≡ true) → Gives (three_words f r s t ws) good
threes_give f r s t [] good all a is = absurd cc
threes_give f r s t (u ∷ []) good all a is = absurd cc
threes_give f r s t (u ∷ v ∷ []) good all a is = absurd cc
threes_give f r s t (u ∷ v ∷ w ∷ []) good all a is = three_gives f (r u) (s v) (t w) good (all u v w) a is
threes_give f r s t (u ∷ v ∷ w ∷ x ∷ ws) good all a is = absurd cc

and_gives : {A B C : Type 0} → (f : B → C → A) (r : List ℕ → Form B) (more : List (List ℕ) → Form C) (ws : List (List ℕ)) (good : A → Bool)
    → ((w : List ℕ) (us : List (List ℕ)) (b : B) (c : C) → r w ≡ Well b → more us ≡ Well c → good (f b c) ≡ true) → Gives (word_and f r more ws) good
and_gives f r more [] good all a is = absurd cc
and_gives f r more (w ∷ ws) good all a is = both_gives f (r w) (more ws) good (all w ws) a is

kind_gives : {K A : Type 0} → (text : K → List ℕ) (kinds : List K) (reader : K → List (List ℕ) → Form A) (ws : List (List ℕ)) (good : A → Bool)
    → ((k : K) (us : List (List ℕ)) → Gives (reader k us) good) → Gives (by_kind text kinds reader ws) good
kind_gives text kinds reader [] good all a is = absurd cc
kind_gives {K} text kinds reader (w ∷ ws) good all a is = go (named text kinds w) is
  where
    go : (o : Option K) → behind reader o ws ≡ Well a → good a ≡ true
    go None e = absurd cc
    go (Some k) e = all k ws a e

-- ---- words

range_gives : (least most : ℕ) (o : Option ℕ) (good : ℕ → Bool) → ((n : ℕ) → (nat_le least n && nat_le n most) ≡ true → good n ≡ true)
    → Gives (elim o as (λ _. Form ℕ) [ None ↦ Wrong | Some n ↦ within least most n ]) good
range_gives least most None good all a is = absurd cc
range_gives least most (Some n) good all a is = go (nat_le least n && nat_le n most) (all n) is
  where
    go : (t : Bool) → (t ≡ true → good n ≡ true) → elim t as (λ _. Form ℕ) [ true ↦ Well n | false ↦ Outside ] ≡ Well a → good a ≡ true
    go true holds e = let f : n ≡ a = cc in ap good (sym f) ∙ holds refl
    go false holds e = absurd cc

number_good : (w : List ℕ) → Gives (number w) is_number
number_good w = range_gives 1 65535 (numeral w) is_number (λ n in_range. in_range)

short_good : (w : List ℕ) → Gives (any_short w) is_short
short_good w = range_gives 0 65535 (numeral w) is_short (λ n in_range. part n in_range)
  where
    part : (n : ℕ) → (nat_le 0 n && nat_le n 65535) ≡ true → is_short n ≡ true
    part n both = grind (arith, nat_tests)

small_good : (w : List ℕ) → Gives (small w) is_byte
small_good w = range_gives 0 255 (numeral w) is_byte (λ n in_range. part n in_range)
  where
    part : (n : ℕ) → (nat_le 0 n && nat_le n 255) ≡ true → is_byte n ≡ true
    part n both = grind (arith, nat_tests)

long_good : (w : List ℕ) → Gives (long w) is_long
long_good w = form_gives (if_long (numeral w)) is_long (go (numeral w))
  where
    fits : (n a : ℕ) (t : Bool) → nat_le n 18446744073709551615 ≡ t → elim t as (λ _. Option ℕ) [ true ↦ Some n | false ↦ None ] ≡ Some a → is_long a ≡ true
    fits n a true is e = let f : n ≡ a = cc in ap is_long (sym f) ∙ is
    fits n a false is e = absurd cc

    go : (o : Option ℕ) (a : ℕ) → if_long o ≡ Some a → is_long a ≡ true
    go None a e = absurd cc
    go (Some n) a e = fits n a (nat_le n 18446744073709551615) refl e

site_good : (w : List ℕ) → Gives (site w) is_site_name
site_good w a is = go (is_site_name w) refl is
  where
    go : (t : Bool) → is_site_name w ≡ t → elim t as (λ _. Form (List ℕ)) [ true ↦ Well w | false ↦ Wrong ] ≡ Well a → is_site_name a ≡ true
    go true name e = let f : w ≡ a = cc in ap is_site_name (sym f) ∙ name
    go false name e = absurd cc

dot_gives : {A B : Type 0} → (r : List ℕ → Form A) (s : List ℕ → Form B) (w : List ℕ) (good : A × B → Bool)
    → ((v u : List ℕ) (a : A) (b : B) → r v ≡ Well a → s u ≡ Well b → good (a, b) ≡ true) → Gives (at_dot r s w) good
dot_gives {A} {B} r s w good all a is = go (cut 46 w) is
  where
    go : (o : Option (List ℕ × List ℕ)) → elim o as (λ _. Form (A × B)) [ None ↦ Wrong | Some p ↦ both pair (r p.0) (s p.1) ] ≡ Well a → good a ≡ true
    go None e = absurd cc
    go (Some p) e = both_gives pair (r p.0) (s p.1) good (all p.0 p.1) a e

mark_good : (w : List ℕ) → Gives (mark w) mark_has_text
mark_good w = with_gives made_mark (at_dot long (at_dot any_short long) w) mark_has_text (λ p is. dot_gives long (at_dot any_short long) w (λ q. mark_has_text (made_mark q)) (λ v u n q first second.
    middle u n q (long_good v n first) second) p is)
  where
    joined : (a b c : Bool) → a ≡ true → (b && c) ≡ true → (a && b && c) ≡ true
    joined true true true p q = refl
    joined true true false p q = absurd cc
    joined true false c p q = absurd cc
    joined false b c p q = absurd cc

    middle : (u : List ℕ) (n : ℕ) (q : ℕ × ℕ) → is_long n ≡ true → at_dot any_short long u ≡ Well q → mark_has_text (made_mark (n, q)) ≡ true
    middle u n q first second =
        joined (is_long n) (is_short q.0) (is_long q.1) first
        (dot_gives any_short long u (λ (p : ℕ × ℕ). is_short p.0 && is_long p.1) (λ v w m k a b. and_true (is_short m) (is_long k) (short_good v m a) (long_good w k b)) q second)

aaid_good : (w : List ℕ) → Gives (aaid w) aaid_has_text
aaid_good w = with_gives made_aaid (at_dot site mark w) aaid_has_text (λ p is. dot_gives site mark w (λ q. aaid_has_text (made_aaid q)) (λ v u s m a b.
    and_true (is_site_name s) (mark_has_text m) (site_good v s a) (mark_good u m b)) p is)

branch_good : (w : List ℕ) → Gives (branch w) branch_has_text
branch_good w = with_gives made_branch (at_dot site mark w) branch_has_text (λ p is. dot_gives site mark w (λ q. branch_has_text (made_branch q)) (λ v u s m a b.
    and_true (is_site_name s) (mark_has_text m) (site_good v s a) (mark_good u m b)) p is)

maybe_gives : {A : Type 0} → (r : List ℕ → Form A) (w : List ℕ) (good : A → Bool) → Gives (r w) good → Gives (maybe r w) (if_there good)
maybe_gives {A} r w good all a is = go (is_name (codes "-") w) is
  where
    go : (t : Bool) → elim t as (λ _. Form (Option A)) [ true ↦ Well None | false ↦ with Some (r w) ] ≡ Well a → if_there good a ≡ true
    go true e = let f : None ≡ a = cc in ap (if_there good) (sym f)
    go false e = with_gives (λ (b : A). Some b) (r w) (if_there good) all a e

permitted_good : (w : List ℕ) → Gives (permitted w) is_permitted
permitted_good w a is = go (units w) is
  where
    fits : (u : ℕ) (t : Bool) → is_permitted u ≡ t → elim t as (λ _. Form ℕ) [ true ↦ Well u | false ↦ Wrong ] ≡ Well a → is_permitted a ≡ true
    fits u true good e = let f : u ≡ a = cc in ap is_permitted (sym f) ∙ good
    fits u false good e = absurd cc

    go : (x : Form ℕ) → if_permitted x ≡ Well a → is_permitted a ≡ true
    go Wrong e = absurd cc
    go Outside e = absurd cc
    go (Well u) e = fits u (is_permitted u) refl e

digit_small : (b v : ℕ) → hex_value b ≡ Some v → v < 16
digit_small b v is = grind (arith, nat_tests)

octet_small : (h l : Option ℕ) (x : ℕ) → ((v : ℕ) → h ≡ Some v → v < 16) → ((v : ℕ) → l ≡ Some v → v < 16) → pair_value h l ≡ Some x → is_byte x ≡ true
octet_small None l x a b is = absurd cc
octet_small (Some h) None x a b is = absurd cc
octet_small (Some h) (Some l) x a b is =
    let e : h * 16 + l ≡ x = cc in
    let high : h < 16 = a h refl in
    let low : l < 16 = b l refl in
    ap is_byte (sym e) ∙ under (h * 16 + l) (omega arith)
  where
    under : (n : ℕ) → n < 256 → is_byte n ≡ true
    under n few = grind (arith, nat_tests)

octets_bytes : (o : Option ℕ) (xs : Option (List ℕ)) (all : List ℕ) → ((x : ℕ) → o ≡ Some x → is_byte x ≡ true) → ((ys : List ℕ) → xs ≡ Some ys → are_bytes ys ≡ true)
    → octet_before o xs ≡ Some all → are_bytes all ≡ true
octets_bytes None xs all a b is = absurd cc
octets_bytes (Some x) None all a b is = absurd cc
octets_bytes (Some x) (Some ys) all a b is = let e : x ∷ ys ≡ all = cc in ap are_bytes (sym e) ∙ and_true (is_byte x) (are_bytes ys) (a x refl) (b ys refl)

hex_bytes : (w xs : List ℕ) → hex_octets w ≡ Some xs → are_bytes xs ≡ true
hex_bytes [] xs is = let e : [] ≡ xs = cc in ap are_bytes (sym e)
hex_bytes (h ∷ []) xs is = absurd cc
hex_bytes (h ∷ l ∷ w) xs is =
    octets_bytes (pair_value (hex_value h) (hex_value l)) (hex_octets w) xs (λ x e. octet_small (hex_value h) (hex_value l) x (digit_small h) (digit_small l) e) (hex_bytes w) is

hex_good : (w : List ℕ) → Gives (hex_word w) are_bytes
hex_good w = form_gives (hex_octets w) are_bytes (hex_bytes w)

octets_good : (w : List ℕ) → Gives (all_octets w) are_bytes
octets_good w a is = go (is_name (codes "-") w) is
  where
    go : (t : Bool) → elim t as (λ _. Form (List ℕ)) [ true ↦ Well [] | false ↦ form_of (hex_octets w) ] ≡ Well a → are_bytes a ≡ true
    go true e = let f : [] ≡ a = cc in ap are_bytes (sym f)
    go false e = hex_good w a e

node_good : (w : List ℕ) (n : ℕ) → node_number w ≡ Some n → is_number n ≡ true
node_good w n is = go (number w) (number_good w) is
  where
    go : (x : Form ℕ) → Gives x is_number → elim x as (λ _. Option ℕ) [ Wrong ↦ None | Outside ↦ None | Well m ↦ Some m ] ≡ Some n → is_number n ≡ true
    go Wrong all e = absurd cc
    go Outside all e = absurd cc
    go (Well m) all e = let f : m ≡ n = cc in all n (ap Well f)

front_good : (o : Option ℕ) (os : Option (List ℕ)) (ns : List ℕ) → ((n : ℕ) → o ≡ Some n → is_number n ≡ true) → ((ms : List ℕ) → os ≡ Some ms → are_numbers ms ≡ true)
    → in_front o os ≡ Some ns → some_numbers ns ≡ true
front_good None os ns a b is = absurd cc
front_good (Some n) None ns a b is = absurd cc
front_good (Some n) (Some ms) ns a b is = let e : n ∷ ms ≡ ns = cc in ap some_numbers (sym e) ∙ and_true (is_number n) (are_numbers ms) (a n refl) (b ms refl)

some_are : (ns : List ℕ) → some_numbers ns ≡ true → are_numbers ns ≡ true
some_are [] good = absurd cc
some_are (n ∷ ns) good = good

nodes_good : (ws : List (List ℕ)) (ns : List ℕ) → node_numbers ws ≡ Some ns → are_numbers ns ≡ true
nodes_good [] ns is = let e : [] ≡ ns = cc in ap are_numbers (sym e)
nodes_good (w ∷ ws) ns is = some_are ns (front_good (node_number w) (node_numbers ws) ns (node_good w) (nodes_good ws) is)

abbrev has_part : List (List ℕ) → Bool
has_part [] = false
has_part (p ∷ ps) = true

numbers_good : (w : List ℕ) → Gives (numbers w) some_numbers
numbers_good w = form_gives (node_numbers (parts 44 w)) some_numbers (go (parts 44 w) (some_parts w))
  where
    go : (ws : List (List ℕ)) → has_part ws ≡ true → (ns : List ℕ) → node_numbers ws ≡ Some ns → some_numbers ns ≡ true
    go [] some ns is = absurd cc
    go (v ∷ ws) some ns is = front_good (node_number v) (node_numbers ws) ns (node_good v) (nodes_good ws) is

    some_parts : (u : List ℕ) → has_part (parts 44 u) ≡ true
    some_parts [] = refl
    some_parts (b ∷ u) = pick (b == 44) (parts 44 u)
      where
        pick : (t : Bool) (ps : List (List ℕ)) → has_part (elim t as (λ _. List (List ℕ)) [ true ↦ [] ∷ ps | false ↦ onto_first b ps ]) ≡ true
        pick true ps = refl
        pick false [] = refl
        pick false (p ∷ ps) = refl

-- ---- records and indications

keyed_good : {B : Type 0} → (more : List (List ℕ) → Form B) (ws : List (List ℕ)) → Gives (keyed more ws) (λ (p : (ℕ × (Aaid × Option BranchId)) × B). is_short p.0.0 && key_has_text (made_key p.0.1))
keyed_good more [] a is = absurd cc
keyed_good more (n ∷ []) a is = absurd cc
keyed_good more (n ∷ t ∷ []) a is = absurd cc
keyed_good {B} more (n ∷ t ∷ b ∷ ws) a is =
    both_gives pair (both pair (any_short n) (key t b)) (more ws) (λ (p : (ℕ × (Aaid × Option BranchId)) × B). is_short p.0.0 && key_has_text (made_key p.0.1))
    (λ q x first second. both_gives pair (any_short n) (key t b) (λ (p : ℕ × (Aaid × Option BranchId)). is_short p.0 && key_has_text (made_key p.1))
    (λ m k i j. and_true (is_short m) (key_has_text (made_key k)) (short_good n m i) (both_gives pair (aaid t) (maybe branch b) (λ (p : Aaid × Option BranchId). key_has_text (made_key p))
    (λ c d u v. and_true (aaid_has_text c) (if_there branch_has_text d) (aaid_good t c u) (maybe_gives branch b branch_has_text (branch_good b) d v)) k j)) q first)
    a is

log_kind_good : (k : LogKind) (ws : List (List ℕ)) → Gives (log_reader k ws) log_has_text
log_kind_good LogKind.Boot ws = one_gives LogWords.Boot long ws log_has_text long_good
log_kind_good LogKind.Ready ws = with_gives (λ (p : (ℕ × (Aaid × Option BranchId)) × Unit {0}). LogWords.Ready p.0.0 (made_key p.0.1)) (keyed (no_words tt) ws) log_has_text (keyed_good (no_words tt) ws)
log_kind_good LogKind.Heuristic ws = with_gives (λ (p : (ℕ × (Aaid × Option BranchId)) × Outcome). LogWords.Heuristic p.0.0 (made_key p.0.1) p.1) (keyed (one_word same outcome) ws) log_has_text (keyed_good (one_word same outcome) ws)
log_kind_good LogKind.Commit ws = with_gives (λ (p : (ℕ × (Aaid × Option BranchId)) × Unit {0}). LogWords.Commit p.0.0 (made_key p.0.1)) (keyed (no_words tt) ws) log_has_text (keyed_good (no_words tt) ws)
log_kind_good LogKind.Damage ws = with_gives (λ (p : (ℕ × (Aaid × Option BranchId)) × (Outcome × Report)). LogWords.Damage p.0.0 (made_key p.0.1) p.1.0 p.1.1) (keyed (two_words pair outcome report) ws) log_has_text (keyed_good (two_words pair outcome report) ws)
log_kind_good LogKind.End ws = with_gives (λ (p : (ℕ × (Aaid × Option BranchId)) × Outcome). LogWords.End p.0.0 (made_key p.0.1) p.1) (keyed (one_word same outcome) ws) log_has_text (keyed_good (one_word same outcome) ws)

log_good : (ws : List (List ℕ)) → Gives (read_log ws) log_has_text
log_good ws = kind_gives log_kind_text log_kind_list log_reader ws log_has_text log_kind_good

dialogue_kind_good : (k : DialogueKind) (ws : List (List ℕ)) → Gives (dialogue_reader k ws) dialogue_has_text
dialogue_kind_good DialogueKind.EndDialogue ws = none_gives DialogueRecord.EndDialogue ws dialogue_has_text refl
dialogue_kind_good DialogueKind.UserData ws = one_gives DialogueRecord.UserData all_octets ws dialogue_has_text octets_good
dialogue_kind_good DialogueKind.UError ws = none_gives DialogueRecord.UError ws dialogue_has_text refl
dialogue_kind_good DialogueKind.UAbort ws = none_gives DialogueRecord.UAbort ws dialogue_has_text refl
dialogue_kind_good DialogueKind.Grant ws = none_gives DialogueRecord.Grant ws dialogue_has_text refl
dialogue_kind_good DialogueKind.AskControl ws = none_gives DialogueRecord.AskControl ws dialogue_has_text refl
dialogue_kind_good DialogueKind.Handshake ws = none_gives DialogueRecord.Handshake ws dialogue_has_text refl
dialogue_kind_good DialogueKind.HandshakeGrant ws = none_gives DialogueRecord.HandshakeGrant ws dialogue_has_text refl
dialogue_kind_good DialogueKind.Response ws = none_gives DialogueRecord.Response ws dialogue_has_text refl
dialogue_kind_good DialogueKind.DeferEnd ws = none_gives DialogueRecord.DeferEnd ws dialogue_has_text refl
dialogue_kind_good DialogueKind.DeferGrant ws = none_gives DialogueRecord.DeferGrant ws dialogue_has_text refl
dialogue_kind_good DialogueKind.Begin ws = threes_give DialogueRecord.Begin aaid branch holder ws dialogue_has_text (λ u v w a b d i j k. and_true (aaid_has_text a) (branch_has_text b) (aaid_good u a i) (branch_good v b j))
dialogue_kind_good DialogueKind.Prepare ws = none_gives DialogueRecord.Prepare ws dialogue_has_text refl
dialogue_kind_good DialogueKind.Ready ws = none_gives DialogueRecord.Ready ws dialogue_has_text refl
dialogue_kind_good DialogueKind.Commit ws = none_gives DialogueRecord.Commit ws dialogue_has_text refl
dialogue_kind_good DialogueKind.Done ws = one_gives DialogueRecord.Done report ws dialogue_has_text (λ w r is. refl)
dialogue_kind_good DialogueKind.Rollback ws = none_gives DialogueRecord.Rollback ws dialogue_has_text refl
dialogue_kind_good DialogueKind.RolledBack ws = one_gives DialogueRecord.RolledBack report ws dialogue_has_text (λ w r is. refl)
dialogue_kind_good DialogueKind.Left ws = none_gives DialogueRecord.Left ws dialogue_has_text refl
dialogue_kind_good DialogueKind.LeftEnd ws = none_gives DialogueRecord.LeftEnd ws dialogue_has_text refl

dialogue_good : (ws : List (List ℕ)) → Gives (read_dialogue ws) dialogue_has_text
dialogue_good ws = kind_gives dialogue_kind_text dialogue_kind_list dialogue_reader ws dialogue_has_text dialogue_kind_good

sent_kind_good : (k : SentKind) (ws : List (List ℕ)) → Gives (sent_reader k ws) sent_has_text
sent_kind_good SentKind.OpenAssoc ws = two_gives SentWords.OpenAssoc mark permitted ws sent_has_text (λ v w m u i j. and_true (mark_has_text m) (is_permitted u) (mark_good v m i) (permitted_good w u j))
sent_kind_good SentKind.AcceptAssoc ws = threes_give SentWords.AcceptAssoc mark mark permitted ws sent_has_text (λ u v w x y p i j k. and_true (mark_has_text x && mark_has_text y) (is_permitted p) (and_true (mark_has_text x) (mark_has_text y) (mark_good u x i) (mark_good v y j)) (permitted_good w p k))
sent_kind_good SentKind.ShutAssoc ws = two_gives SentWords.ShutAssoc mark (maybe mark) ws sent_has_text (λ v w x y i j. and_true (mark_has_text x) (if_there mark_has_text y) (mark_good v x i) (maybe_gives mark w mark_has_text (mark_good w) y j))
sent_kind_good SentKind.OnAssoc ws = and_gives SentWords.OnAssoc long read_dialogue ws sent_has_text (λ w us s r i j. and_true (is_long s) (dialogue_has_text r) (long_good w s i) (dialogue_good us r j))
sent_kind_good SentKind.RecReady ws = two_gives SentWords.RecReady aaid branch ws sent_has_text (λ v w a b i j. and_true (aaid_has_text a) (branch_has_text b) (aaid_good v a i) (branch_good w b j))
sent_kind_good SentKind.RecCommit ws = two_gives SentWords.RecCommit aaid branch ws sent_has_text (λ v w a b i j. and_true (aaid_has_text a) (branch_has_text b) (aaid_good v a i) (branch_good w b j))
sent_kind_good SentKind.RecReply ws = and_gives (λ (a : Aaid) (p : BranchId × RecState). SentWords.RecReply a p.0 p.1) aaid (word_and pair branch read_state) ws sent_has_text (λ w us a p i j. and_true (aaid_has_text a) (branch_has_text p.0) (aaid_good w a i) (and_gives pair branch read_state us (λ (q : BranchId × RecState). branch_has_text q.0) (λ v vs b s k l. branch_good v b k) p j))
sent_kind_good SentKind.Forget ws = two_gives SentWords.Forget aaid branch ws sent_has_text (λ v w a b i j. and_true (aaid_has_text a) (branch_has_text b) (aaid_good v a i) (branch_good w b j))

sent_good : (ws : List (List ℕ)) → Gives (read_sent ws) sent_has_text
sent_good ws = kind_gives sent_kind_text sent_kind_list sent_reader ws sent_has_text sent_kind_good

told_kind_good : (k : ToldKind) (ws : List (List ℕ)) → Gives (told_reader k ws) told_has_text
told_kind_good ToldKind.BeginDialogue ws = two_gives Indication.BeginDialogue number permitted ws told_has_text (λ v w n u i j. and_true (is_number n) (is_permitted u) (number_good v n i) (permitted_good w u j))
told_kind_good ToldKind.BegunDialogue ws = two_gives Indication.BegunDialogue number permitted ws told_has_text (λ v w n u i j. and_true (is_number n) (is_permitted u) (number_good v n i) (permitted_good w u j))
told_kind_good (ToldKind.OfPeer PeerTold.Rejected) ws = one_gives Indication.Rejected number ws told_has_text number_good
told_kind_good (ToldKind.OfPeer PeerTold.EndDialogue) ws = one_gives Indication.EndDialogue number ws told_has_text number_good
told_kind_good ToldKind.UserData ws = two_gives Indication.UserData number all_octets ws told_has_text (λ v w n u i j. and_true (is_number n) (are_bytes u) (number_good v n i) (octets_good w u j))
told_kind_good (ToldKind.OfPeer PeerTold.UError) ws = one_gives Indication.UError number ws told_has_text number_good
told_kind_good (ToldKind.OfPeer PeerTold.UAbort) ws = one_gives Indication.UAbort number ws told_has_text number_good
told_kind_good (ToldKind.OfPeer PeerTold.PAbort) ws = one_gives Indication.PAbort number ws told_has_text number_good
told_kind_good (ToldKind.OfPeer PeerTold.Grant) ws = one_gives Indication.Grant number ws told_has_text number_good
told_kind_good (ToldKind.OfPeer PeerTold.AskControl) ws = one_gives Indication.AskControl number ws told_has_text number_good
told_kind_good (ToldKind.OfPeer PeerTold.Handshake) ws = one_gives Indication.Handshake number ws told_has_text number_good
told_kind_good (ToldKind.OfPeer PeerTold.HandshakeConfirm) ws = one_gives Indication.HandshakeConfirm number ws told_has_text number_good
told_kind_good (ToldKind.OfPeer PeerTold.HandshakeGrant) ws = one_gives Indication.HandshakeGrant number ws told_has_text number_good
told_kind_good ToldKind.BeginTransaction ws = two_gives Indication.BeginTransaction number aaid ws told_has_text (λ v w n u i j. and_true (is_number n) (aaid_has_text u) (number_good v n i) (aaid_good w u j))
told_kind_good (ToldKind.OfPeer PeerTold.DeferEnd) ws = one_gives Indication.DeferEnd number ws told_has_text number_good
told_kind_good (ToldKind.OfPeer PeerTold.DeferGrant) ws = one_gives Indication.DeferGrant number ws told_has_text number_good
told_kind_good ToldKind.Prepare ws = none_gives Indication.Prepare ws told_has_text refl
told_kind_good (ToldKind.OfPeer PeerTold.Ready) ws = one_gives Indication.Ready number ws told_has_text number_good
told_kind_good ToldKind.Commit ws = none_gives Indication.Commit ws told_has_text refl
told_kind_good ToldKind.CommitComplete ws = one_gives Indication.CommitComplete report ws told_has_text (λ w r is. refl)
told_kind_good ToldKind.Rollback ws = none_gives Indication.Rollback ws told_has_text refl
told_kind_good ToldKind.RollbackComplete ws = one_gives Indication.RollbackComplete report ws told_has_text (λ w r is. refl)
told_kind_good ToldKind.HeuristicReport ws = two_gives Indication.HeuristicReport number report ws told_has_text (λ v w n u i j. number_good v n i)
told_kind_good (ToldKind.OfPeer PeerTold.Left) ws = one_gives Indication.Left number ws told_has_text number_good

told_good : (ws : List (List ℕ)) → Gives (read_told ws) told_has_text
told_good ws = kind_gives told_kind_text told_kind_list told_reader ws told_has_text told_kind_good

-- ---- lines

tree_kind_good : (a : Aaid) → aaid_has_text a ≡ true → (k : TreeKind) (ws : List (List ℕ)) → Gives (tree_reader k a ws) out_has_text
tree_kind_good a good TreeKind.Agreed ws = one_gives (λ o. OutLine.Agreed a o) outcome ws out_has_text (λ w o is. good)
tree_kind_good a good TreeKind.Mixed ws = with_gives (λ ns. OutLine.Mixed a ns) (by_numbers ws) out_has_text (λ ns is. and_true (aaid_has_text a) (some_numbers ns) good (by_good ws ns is))
  where
    by_good : (us : List (List ℕ)) → Gives (by_numbers us) some_numbers
    by_good [] ns is = absurd cc
    by_good (b ∷ []) ns is = absurd cc
    by_good (b ∷ w ∷ []) ns is = pick (is_name (codes "by") b) is
      where
        pick : (t : Bool) → elim t as (λ _. Form (List ℕ)) [ true ↦ numbers w | false ↦ Wrong ] ≡ Well ns → some_numbers ns ≡ true
        pick true e = numbers_good w ns e
        pick false e = absurd cc
    by_good (b ∷ w ∷ x ∷ ws) ns is = absurd cc
tree_kind_good a good TreeKind.Open ws = none_gives (OutLine.Open a) ws out_has_text good

tree_good : (ws : List (List ℕ)) → Gives (read_tree ws) out_has_text
tree_good [] o is = absurd cc
tree_good (w ∷ ws) o is = go (aaid w) (aaid_good w) is
  where
    go : (x : Form Aaid) → Gives x aaid_has_text → tree_of x ws ≡ Well o → out_has_text o ≡ true
    go Wrong all e = absurd cc
    go Outside all e = absurd cc
    go (Well a) all e = kind_gives tree_kind_text tree_kind_list (λ k. tree_reader k a) ws out_has_text (tree_kind_good a (all a refl)) o e

image_good : (ws : List (List ℕ)) → Gives (read_image ws) out_has_text
image_good [] o is = absurd cc
image_good (s ∷ []) o is = with_gives (λ (t : List ℕ). OutLine.Image t []) (site s) out_has_text (λ t i. and_true (is_site_name t) true (site_good s t i) refl) o is
image_good (s ∷ x ∷ ws) o is =
    both_gives OutLine.Image (site s) (one_word same hex_word (x ∷ ws)) out_has_text
    (λ t xs i j. and_true (is_site_name t) (are_bytes xs) (site_good s t i) (one_gives same hex_word (x ∷ ws) are_bytes hex_good xs j)) o is

state_line_good : (ws : List (List ℕ)) → Gives (read_state_line ws) out_has_text
state_line_good [] o is = absurd cc
state_line_good (n ∷ []) o is = absurd cc
state_line_good (n ∷ p ∷ []) o is = absurd cc
state_line_good (n ∷ p ∷ k ∷ []) o is = absurd cc
state_line_good (n ∷ p ∷ k ∷ c ∷ []) o is = pick (is_name (codes "kept") k) is
  where
    pick : (t : Bool) → elim t as (λ _. Form OutLine) [ true ↦ both (λ (q : ℕ × PhaseWord) m. OutLine.State q.0 q.1 m) (both pair (number n) (phase p)) (long c) | false ↦ Wrong ] ≡ Well o
        → out_has_text o ≡ true
    pick true e =
        both_gives (λ (q : ℕ × PhaseWord) m. OutLine.State q.0 q.1 m) (both pair (number n) (phase p)) (long c) out_has_text
        (λ q m i j. and_true (is_number q.0) (is_long m) (both_gives pair (number n) (phase p) (λ (r : ℕ × PhaseWord). is_number r.0) (λ a b u v. number_good n a u) q i) (long_good c m j)) o e
    pick false e = absurd cc
state_line_good (n ∷ p ∷ k ∷ c ∷ d ∷ ws) o is = absurd cc

send_good : (ws : List (List ℕ)) → Gives (read_send ws) out_has_text
send_good [] o is = absurd cc
send_good (k ∷ []) o is = absurd cc
send_good (k ∷ a ∷ []) o is = absurd cc
send_good (k ∷ a ∷ b ∷ ws) o is =
    both_gives (λ (q : (ℕ × ℕ) × ℕ) r. OutLine.Send q.0.0 q.0.1 q.1 r) (both pair (both pair (number k) (number a)) (number b)) (read_sent ws) out_has_text
    (λ q r i j. and_true (is_number q.0.0 && is_number q.0.1 && is_number q.1) (sent_has_text r)
    (both_gives pair (both pair (number k) (number a)) (number b) (λ (p : (ℕ × ℕ) × ℕ). is_number p.0.0 && is_number p.0.1 && is_number p.1)
    (λ p n u v. and_true (is_number p.0 && is_number p.1) (is_number n)
    (both_gives pair (number k) (number a) (λ (m : ℕ × ℕ). is_number m.0 && is_number m.1) (λ x y c d. and_true (is_number x) (is_number y) (number_good k x c) (number_good a y d)) p u)
    (number_good b n v))
    q i)
    (sent_good ws r j))
    o is

out_kind_good : (k : OutKind) (ws : List (List ℕ)) → Gives (out_reader k ws) out_has_text
out_kind_good OutKind.Log ws = and_gives OutLine.Log site read_log ws out_has_text (λ w us s r i j. and_true (is_site_name s) (log_has_text r) (site_good w s i) (log_good us r j))
out_kind_good OutKind.Take ws = one_gives OutLine.Take number ws out_has_text number_good
out_kind_good OutKind.Send ws = send_good ws
out_kind_good OutKind.Tell ws = and_gives OutLine.Tell number read_told ws out_has_text (λ w us n i a b. and_true (is_number n) (told_has_text i) (number_good w n a) (told_good us i b))
out_kind_good OutKind.Refused ws = one_gives OutLine.Refused small ws out_has_text small_good
out_kind_good OutKind.Dropped ws = one_gives OutLine.Dropped small ws out_has_text small_good
out_kind_good OutKind.Nothing ws = none_gives OutLine.Nothing ws out_has_text refl
out_kind_good OutKind.Lost ws = one_gives OutLine.Lost number ws out_has_text number_good
out_kind_good OutKind.Stopped ws = two_gives OutLine.Stopped site fate ws out_has_text (λ v w s f i j. site_good v s i)
out_kind_good OutKind.State ws = state_line_good ws
out_kind_good OutKind.Image ws = image_good ws
out_kind_good OutKind.Tree ws = tree_good ws

words_good : (ws : List (List ℕ)) → Gives (candidate_in ws) out_has_text
words_good ws = kind_gives out_kind_text out_kind_list out_reader ws out_has_text out_kind_good

pub candidate_good : (bs : List ℕ) → Gives (candidate bs) out_has_text
candidate_good [] o is = words_good [] o is
candidate_good (b ∷ []) o is = words_good (words_in (b ∷ [])) o is
candidate_good (b ∷ c ∷ text) o is = go ((b == 62) && (c == 32)) is
  where
    go : (t : Bool) → elim t as (λ _. Form OutLine) [ true ↦ echo_of text | false ↦ candidate_in (words_in (b ∷ c ∷ text)) ] ≡ Well o → out_has_text o ≡ true
    go true e = let f : OutLine.Echo text ≡ o = cc in ap out_has_text (sym f)
    go false e = words_good (words_in (b ∷ c ∷ text)) o e
