-- The words of a transcript's line as they are read: a candidate for each text. Which text a line has is said by tp_model.
use Rattle.std.specs.Prelude.{ℕ, ◌==◌, nat_le, true, false, Option, Some, None, option_map, Result, Ok, Err, List, [], ◌∷◌, ◌++◌, ◌≡◌, codes}
use Rattle.tp_names.specs.declared.identifiers.Mark.{Mark}
use Rattle.tp_names.specs.declared.identifiers.Aaid.{Aaid}
use Rattle.tp_names.specs.declared.identifiers.BranchId.{BranchId}
use Rattle.tp_names.specs.declared.identifiers.NodeKey.{NodeKey}
use Rattle.tp_names.specs.declared.outcome.Report.{Report}
use Rattle.tp_names.specs.Same.{is_name}
use Rattle.tp_units.specs.Units.{is_permitted}
use Rattle.tp_records.specs.declared.dialogue.Holder.{Holder}
use Rattle.tp_model.specs.declared.out_line.PhaseWord.{PhaseWord}
use Rattle.tp_model.specs.declared.out_line.RecordFate.{RecordFate}
use Rattle.tp_model.specs.Words.{report_word, holder_word}
use Rattle.tp_model.specs.OutText.{phase_word, fate_word}
use Rattle.tp_model.specs.LineReading.{Form, Wrong, Outside, Well, form_of, with, both, three, number, number_in, numeral, hex_octets, units, site, onto_first}
use Rattle.tp_schedule.specs.declared.line_fault.LineFault.{LineFault}
use Rattle.tp_schedule.specs.Answers.{pair}
use Rattle.tp_schedule.specs.Keywords.{named, behind}

-- ---- numbers

abbrev pub any_short : List ℕ → Form ℕ
any_short w = number_in 0 65535 w

abbrev pub small : List ℕ → Form ℕ
small w = number_in 0 255 w

-- what a u64 can hold
abbrev pub if_long : Option ℕ → Option ℕ
if_long None = None
if_long (Some n) = elim (nat_le n 18446744073709551615) [ true ↦ Some n | false ↦ None ]

abbrev pub long : List ℕ → Form ℕ
long w = form_of (if_long (numeral w))

-- ---- parts of a word

-- what stands before the first of these bytes, and after it
abbrev pub cut : ℕ → List ℕ → Option (List ℕ × List ℕ)
cut d [] = None
cut d (b ∷ bs) = elim (b == d) [ true ↦ Some ([], bs) | false ↦ option_map (λ (p : List ℕ × List ℕ). (b ∷ p.0, p.1)) (cut d bs) ]

-- both parts at the first dot
abbrev pub at_dot : {A B : Type 0} → (List ℕ → Form A) → (List ℕ → Form B) → List ℕ → Form (A × B)
at_dot r s w = elim (cut 46 w) [ None ↦ Wrong | Some p ↦ both pair (r p.0) (s p.1) ]

abbrev pub made_mark : ℕ × (ℕ × ℕ) → Mark
made_mark p = record { boot = p.0; node = p.1.0; count = p.1.1 }

abbrev pub mark : List ℕ → Form Mark
mark w = with made_mark (at_dot long (at_dot any_short long) w)

abbrev pub made_aaid : List ℕ × Mark → Aaid
made_aaid p = record { owner = p.0; mark = p.1 }

abbrev pub made_branch : List ℕ × Mark → BranchId
made_branch p = record { superior = p.0; mark = p.1 }

abbrev pub aaid : List ℕ → Form Aaid
aaid w = with made_aaid (at_dot site mark w)

abbrev pub branch : List ℕ → Form BranchId
branch w = with made_branch (at_dot site mark w)

-- `-` for none
abbrev pub maybe : {A : Type 0} → (List ℕ → Form A) → List ℕ → Form (Option A)
maybe r w = elim (is_name (codes "-") w) [ true ↦ Well None | false ↦ with Some (r w) ]

-- the words of a key
abbrev pub key : List ℕ → List ℕ → Form (Aaid × Option BranchId)
key a b = both pair (aaid a) (maybe branch b)

abbrev pub made_key : Aaid × Option BranchId → NodeKey
made_key p = record { aaid = p.0; branch = p.1 }

-- ---- units, octets, numbers of nodes

abbrev pub if_permitted : Form ℕ → Form ℕ
if_permitted Wrong = Wrong
if_permitted Outside = Outside
if_permitted (Well u) = elim (is_permitted u) [ true ↦ Well u | false ↦ Wrong ]

abbrev pub permitted : List ℕ → Form ℕ
permitted w = if_permitted (units w)

-- digits in full, and `-` for none
abbrev pub all_octets : List ℕ → Form (List ℕ)
all_octets w = elim (is_name (codes "-") w) [ true ↦ Well [] | false ↦ form_of (hex_octets w) ]

-- what stands between these bytes
abbrev pub parts : ℕ → List ℕ → List (List ℕ)
parts d [] = [] ∷ []
parts d (b ∷ bs) = elim (b == d) [ true ↦ [] ∷ parts d bs | false ↦ onto_first b (parts d bs) ]

-- a numeral outside its range is no number of a node
abbrev pub node_number : List ℕ → Option ℕ
node_number w = elim (number w) [ Wrong ↦ None | Outside ↦ None | Well n ↦ Some n ]

abbrev pub in_front : Option ℕ → Option (List ℕ) → Option (List ℕ)
in_front None ns = None
in_front (Some n) None = None
in_front (Some n) (Some ns) = Some (n ∷ ns)

abbrev pub node_numbers : List (List ℕ) → Option (List ℕ)
node_numbers [] = Some []
node_numbers (w ∷ ws) = in_front (node_number w) (node_numbers ws)

-- parted by commas
abbrev pub numbers : List ℕ → Form (List ℕ)
numbers w = form_of (node_numbers (parts 44 w))

-- a number that was read stands at the end; an answer that memory ran out says nothing
abbrev pub Pushes : List ℕ → List ℕ → Option ℕ → Result (Unit {0}) LineFault → Type 0
Pushes old new n (Ok u) = (k : ℕ) × (n ≡ Some k) × (new ≡ old ++ k ∷ [])
Pushes old new n (Err LineFault.Word) = n ≡ None
Pushes old new n (Err LineFault.NoMemory) = Unit {0}
Pushes old new n (Err LineFault.Long) = ⊥
Pushes old new n (Err LineFault.Number) = ⊥

-- ---- words with a value

abbrev pub report_list : List Report
report_list = Report.None ∷ Report.Hazard ∷ Report.Mix ∷ []

abbrev pub holder_list : List Holder
holder_list = Holder.None ∷ Holder.Superior ∷ Holder.Subordinate ∷ []

abbrev pub phase_list : List PhaseWord
phase_list = PhaseWord.Nil ∷ PhaseWord.Active ∷ PhaseWord.Asked ∷ PhaseWord.Ready ∷ PhaseWord.Committing ∷ PhaseWord.Rolling ∷ []

abbrev pub fate_list : List RecordFate
fate_list = RecordFate.Kept ∷ RecordFate.Lost ∷ RecordFate.None ∷ []

abbrev pub report : List ℕ → Form Report
report w = form_of (named report_word report_list w)

abbrev pub holder : List ℕ → Form Holder
holder w = form_of (named holder_word holder_list w)

abbrev pub phase : List ℕ → Form PhaseWord
phase w = form_of (named phase_word phase_list w)

abbrev pub fate : List ℕ → Form RecordFate
fate w = form_of (named fate_word fate_list w)

-- ---- three words

abbrev pub three_alone : List (List ℕ) → Option (List ℕ × List ℕ × List ℕ)
three_alone [] = None
three_alone (u ∷ []) = None
three_alone (u ∷ v ∷ []) = None
three_alone (u ∷ v ∷ w ∷ []) = Some (u, v, w)
three_alone (u ∷ v ∷ w ∷ x ∷ ws) = None

-- the first three
abbrev pub three_front : List (List ℕ) → Option (List ℕ × List ℕ × List ℕ)
three_front [] = None
three_front (u ∷ []) = None
three_front (u ∷ v ∷ []) = None
three_front (u ∷ v ∷ w ∷ ws) = Some (u, v, w)

-- ---- words after words

abbrev pub by_kind : {K A : Type 0} → (K → List ℕ) → List K → (K → List (List ℕ) → Form A) → List (List ℕ) → Form A
by_kind text kinds reader [] = Wrong
by_kind text kinds reader (w ∷ ws) = behind reader (named text kinds w) ws

abbrev pub three_words : {A B C D : Type 0} → (A → B → C → D) → (List ℕ → Form A) → (List ℕ → Form B) → (List ℕ → Form C) → List (List ℕ) → Form D
three_words f r s t [] = Wrong
three_words f r s t (u ∷ []) = Wrong
three_words f r s t (u ∷ v ∷ []) = Wrong
three_words f r s t (u ∷ v ∷ w ∷ []) = three f (r u) (s v) (t w)
three_words f r s t (u ∷ v ∷ w ∷ x ∷ ws) = Wrong

-- a word, and what the others say
abbrev pub word_and : {A B C : Type 0} → (A → B → C) → (List ℕ → Form A) → (List (List ℕ) → Form B) → List (List ℕ) → Form C
word_and f r more [] = Wrong
word_and f r more (w ∷ ws) = both f (r w) (more ws)
