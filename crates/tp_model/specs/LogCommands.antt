-- What the commands over one log write, and the bytes that they leave on its disk: format, show, check, compact, migrate.
use Rattle.std.specs.Prelude.{ℕ, suc, ◌-◌, ◌==◌, ◌&&◌, ◌||◌, not, Bool, true, false, Option, Some, None, List, [], ◌∷◌, ◌++◌, drop, take, slice_index}
use Rattle.tp_logrec.specs.declared.record.LogRec.{LogRec}
use Rattle.tp_logrec.specs.declared.record.LogVersion.{LogVersion}
use Rattle.tp_logrec.specs.LogText.{Foreign, Reads, Placed, recs, read_log, log_text, log_name, last_place}
use Rattle.tp_logrec.specs.declared.owner.Owner.{Owner}
use Rattle.tp_logrec.specs.Order.{owner_of, is_of, is_damage, follows, brief}
use Rattle.tp_model.specs.Words.{decimal, words}
use Rattle.tp_model.specs.OutText.{log_words}
use Rattle.tp_model.specs.Happenings.{log_shown}

-- ---- what a start leaves

abbrev pub is_back : List ℕ → Bool
is_back bytes = slice_index bytes 4 == 2

-- how far the text is moved to the front
abbrev pub moved_by : List ℕ → ℕ
moved_by bytes = elim (is_back bytes) [ true ↦ last_place bytes - 5 | false ↦ 0 ]

-- a text that stands at the back comes to the front, with its closing gate and nothing after it
abbrev pub start_leaves : List ℕ → List ℕ
start_leaves bytes = elim (is_back bytes) [
  | false ↦ bytes
  | true ↦ elim (read_log bytes) [
    | Foreign at ↦ bytes
    | Reads ver ps gate ↦ log_name ++ 1 ∷ take (suc gate - last_place bytes) (drop (last_place bytes) bytes)
  ]
]

-- the records of a log in order, at the places that they have after a start; or the place of what is foreign
pub data Opened : Type 0 where
  Is_foreign : ℕ → Opened
  Has : LogVersion → List Placed → Opened

abbrev pub moved : ℕ → List Placed → List Placed
moved n [] = []
moved n (p ∷ ps) = record { place = p.place - n; rec = p.rec } ∷ moved n ps

-- the first that does not follow those before it
abbrev pub disordered : List LogRec → List Placed → Option ℕ
disordered before [] = None
disordered before (p ∷ ps) = elim (follows before p.rec) [ true ↦ disordered (before ++ p.rec ∷ []) ps | false ↦ Some p.place ]

abbrev pub in_order : LogVersion → List Placed → Opened
in_order ver ps = elim (disordered [] ps) [ None ↦ Has ver ps | Some at ↦ Is_foreign at ]

abbrev pub opened : List ℕ → Opened
opened bytes = elim (read_log bytes) [ Foreign at ↦ Is_foreign at | Reads ver ps gate ↦ in_order ver (moved (moved_by bytes) ps) ]

-- ---- show and check

abbrev pub placed_text : Placed → List ℕ
placed_text p = decimal p.place ++ (32 ∷ words (log_words (log_shown p.rec))) ++ 10 ∷ []

abbrev pub placed_texts : List Placed → List ℕ
placed_texts [] = []
placed_texts (p ∷ ps) = placed_text p ++ placed_texts ps

abbrev pub has_later : Owner → List Placed → Bool
has_later o [] = false
has_later o (p ∷ ps) = is_of o p.rec || has_later o ps

-- a damage, and its key's last record
abbrev pub is_finding : LogRec → List Placed → Bool
is_finding r ps = is_damage r && elim (owner_of r) [ None ↦ false | Some o ↦ not (has_later o ps) ]

abbrev pub findings : List Placed → List Placed
findings [] = []
findings (p ∷ ps) = elim (is_finding p.rec ps) [ true ↦ p ∷ findings ps | false ↦ findings ps ]

-- ---- what is left

abbrev pub log_bytes : LogVersion → List LogRec → List ℕ
log_bytes ver rs = log_name ++ 1 ∷ log_text ver rs ++ 0 ∷ []

abbrev pub formatted : List ℕ
formatted = log_bytes LogVersion.Two []

abbrev pub compacted : LogVersion → List Placed → List ℕ
compacted ver ps = log_bytes ver (brief (recs ps))

abbrev pub migrated : List Placed → List ℕ
migrated ps = log_bytes LogVersion.Two (brief (recs ps))
