-- What a reader answers for what the definitions of reading give: a value, or the fault of the line.
use Rattle.std.specs.Prelude.{◌≡◌, ◌≤◌, ℕ, if◌then◌else◌, nat_le, ◌&&◌, ◌||◌, Bool, true, false, Option, Some, None, Result, Ok, Err, List, [], ◌∷◌, ◌+◌}
use Rattle.hex.specs.declared.error.FromHexError.{FromHexError}
use Rattle.tp_model.specs.declared.line.Line.{Line}
use Rattle.tp_model.specs.declared.verdict.Why.{Why}
use Rattle.tp_model.specs.LineReading.{Form, Wrong, Outside, Well, Reading, Blank, Faulty, Says, few, number, words_in}
use Rattle.tp_schedule.specs.declared.line_fault.LineFault.{LineFault}

abbrev pub read_as : {A : Type 0} → Form A → Result A LineFault
read_as Wrong = Err LineFault.Word
read_as Outside = Err LineFault.Number
read_as (Well a) = Ok a

-- the second answer, unless the first is out of memory
abbrev pub unless_memory : {A : Type 0} → Result A LineFault → Result A LineFault → Result A LineFault
unless_memory (Ok a) s = s
unless_memory (Err LineFault.Long) s = s
unless_memory (Err LineFault.Word) s = s
unless_memory (Err LineFault.Number) s = s
unless_memory (Err LineFault.NoMemory) s = Err LineFault.NoMemory

-- r is what reading gives, unless out of memory
abbrev pub Reads : {A : Type 0} → Form A → Result A LineFault → Type 0
Reads f r = r ≡ unless_memory r (read_as f)

-- what was put into a place, where the answer is that it was
abbrev pub filled : {A : Type 0} → Result (Unit {0}) LineFault → A → Result A LineFault
filled (Ok u) a = Ok a
filled (Err f) a = Err f

-- the line that was put into a place, where the answer is that there is one
abbrev pub put_into : Result Bool LineFault → Line → Result (Option Line) LineFault
put_into (Ok true) l = Ok (Some l)
put_into (Ok false) l = Ok None
put_into (Err f) l = Err f

-- what an answer says of a line; out of memory says nothing
abbrev pub answered : Result (Option Line) LineFault → Option Reading
answered (Ok None) = Some Blank
answered (Ok (Some l)) = Some (Says l)
answered (Err LineFault.Long) = Some (Faulty Why.Long)
answered (Err LineFault.Word) = Some (Faulty Why.Word)
answered (Err LineFault.Number) = Some (Faulty Why.Number)
answered (Err LineFault.NoMemory) = None

-- ---- two readings side by side

-- a wrong form goes before a number outside its range
abbrev pub graver : LineFault → LineFault → LineFault
graver LineFault.Long g = LineFault.Long
graver LineFault.Word g = LineFault.Word
graver LineFault.Number g = g
graver LineFault.NoMemory g = LineFault.NoMemory

abbrev pub both_answers : {A B : Type 0} → Result A LineFault → Result B LineFault → Result (A × B) LineFault
both_answers (Ok a) (Ok b) = Ok (a, b)
both_answers (Ok a) (Err g) = Err g
both_answers (Err f) (Ok b) = Err f
both_answers (Err f) (Err g) = Err (graver f g)

-- what is read as it is
abbrev pub same : {A : Type 0} → A → A
same a = a

abbrev pub pair : {A B : Type 0} → A → B → A × B
pair a b = (a, b)

-- ---- words alone

abbrev pub word_alone : List (List ℕ) → Option (List ℕ)
word_alone [] = None
word_alone (w ∷ []) = Some w
word_alone (v ∷ w ∷ ws) = None

abbrev pub pair_alone : List (List ℕ) → Option (List ℕ × List ℕ)
pair_alone [] = None
pair_alone (v ∷ []) = None
pair_alone (v ∷ w ∷ []) = Some (v, w)
pair_alone (v ∷ w ∷ x ∷ ws) = None

-- ---- numerals

abbrev pub is_number_digit : ℕ → Bool
is_number_digit b = nat_le 49 b && nat_le b 57

-- the first word is one digit, which is the number n, and what comes behind it is the rest
abbrev pub DigitBefore : List ℕ → ℕ → List ℕ → Type 0
DigitBefore bs n rest = (n ≤ 9) × ((number ((48 + n) ∷ []) ≡ Well n) × (words_in bs ≡ ((48 + n) ∷ []) ∷ words_in rest))

-- more than any number of a line is all the same
abbrev pub capped : Option ℕ → Option ℕ
capped None = None
capped (Some n) = Some (if nat_le n 65536 then n else 65536)

-- what octets that were read as digits are, 2,000 at most
abbrev pub few_of : Option (List ℕ) → Form (List ℕ)
few_of None = Wrong
few_of (Some xs) = few xs

abbrev pub hex_fault : FromHexError → LineFault
hex_fault FromHexError.OutOfMemory = LineFault.NoMemory
hex_fault FromHexError.OddLength = LineFault.Word
hex_fault FromHexError.InvalidStringLength = LineFault.Word
hex_fault (FromHexError.InvalidHexCharacter c i) = LineFault.Word

-- a byte from A to F, which is no digit here
abbrev pub has_capital : List ℕ → Bool
has_capital [] = false
has_capital (b ∷ bs) = (nat_le 65 b && nat_le b 70) || has_capital bs

-- the sum of the bits of a table of letters
abbrev pub bits_of : List (ℕ × ℕ) → ℕ
bits_of [] = 0
bits_of (u ∷ us) = u.0 + bits_of us
