-- What a run does, by how it ends: it writes the picture of its input, or a prefix of it where the sink fails, or nothing.
use Rattle.std.specs.Prelude.{ℕ, ◌≡◌, ◌<◌, Option, Some, List, [], ◌++◌, take, drop}
use Rattle.tp_model.specs.declared.out_line.OutLine.{OutLine}
use Rattle.tp_model.specs.declared.verdict.Why.{Why}
use Rattle.tp_streams.specs.Stops.{IsFaultOf}
use Rattle.tp_streams.specs.Written.{WritesPrefix}
use Rattle.tp_draw.specs.declared.drawing.Form.{Form}
use Rattle.tp_draw.specs.Pictures.{picture}
use Rattle.tpdraw.specs.declared.status.Status.{Status}
use Rattle.tpdraw.specs.Transcripts.{IsTranscript, IsBadAt}

-- ---- the input

-- so many bytes of those that are left came; none where none is left
pub record Gains (count : ℕ) (old new all : List ℕ) (rest : Option (List ℕ)) : Type 0 where
  pub bytes : new ≡ old ++ take count all
  pub left : rest ≡ Some (drop count all)
  pub at_end : count ≡ 0 → all ≡ []

-- by the source's counts before and after
abbrev pub IsReadStop : ℕ → ℕ → Status → Type 0
IsReadStop old new Status.Ok = ⊥
IsReadStop old new Status.Usage = ⊥
IsReadStop old new (Status.BadInput at why) = ⊥
IsReadStop old new (Status.ReadFault faults) = IsFaultOf faults old new
IsReadStop old new (Status.WriteFault faults) = ⊥
IsReadStop old new Status.NoMemory = Unit {0}

-- the picture of the transcript that the bytes are
pub record IsPicture (form : Form) (bytes text : List ℕ) : Type 0 where
  pub lines : List OutLine
  pub are : IsTranscript bytes lines
  pub is : text ≡ picture form lines

-- why there is none of what the source has left
abbrev pub IsInputStop : Option (List ℕ) → ℕ → ℕ → Status → Type 0
IsInputStop left old new Status.Ok = ⊥
IsInputStop left old new Status.Usage = ⊥
IsInputStop left old new (Status.BadInput at why) = (0 < at) × (why ≡ Why.Word) × ((bytes : List ℕ) → left ≡ Some bytes → IsBadAt bytes at)
IsInputStop left old new (Status.ReadFault faults) = IsFaultOf faults old new
IsInputStop left old new (Status.WriteFault faults) = ⊥
IsInputStop left old new Status.NoMemory = Unit {0}

-- ---- the output

-- all of the text was written, or a prefix of it where the sink failed, by its counts before and after
abbrev pub WritesText : List ℕ → ℕ → ℕ → Option (List ℕ) → Option (List ℕ) → Status → Type 0
WritesText text before after old new Status.Ok = (was : List ℕ) → old ≡ Some was → new ≡ Some (was ++ text)
WritesText text before after old new Status.Usage = ⊥
WritesText text before after old new (Status.BadInput at why) = ⊥
WritesText text before after old new (Status.ReadFault faults) = ⊥
WritesText text before after old new (Status.WriteFault faults) = IsFaultOf faults before after × ((was : List ℕ) → old ≡ Some was → WritesPrefix was text new)
WritesText text before after old new Status.NoMemory = ⊥

-- ---- a whole run

-- what ends it, by the counts of the source and of the sink before and after it
abbrev pub IsEnding : ℕ → ℕ → ℕ → ℕ → Status → Type 0
IsEnding read_old read_new write_old write_new Status.Ok = Unit {0}
IsEnding read_old read_new write_old write_new Status.Usage = Unit {0}
IsEnding read_old read_new write_old write_new (Status.BadInput at why) = (0 < at) × (why ≡ Why.Word)
IsEnding read_old read_new write_old write_new (Status.ReadFault faults) = IsFaultOf faults read_old read_new
IsEnding read_old read_new write_old write_new (Status.WriteFault faults) = IsFaultOf faults write_old write_new
IsEnding read_old read_new write_old write_new Status.NoMemory = Unit {0}

-- where the source tells what it has left: that is a transcript, whose picture was written
pub record Pictures (form : Form) (bytes : List ℕ) (old new : Option (List ℕ)) : Type 0 where
  pub lines : List OutLine
  pub are : IsTranscript bytes lines
  pub written : (was : List ℕ) → old ≡ Some was → new ≡ Some (was ++ picture form lines)

-- or a prefix of it
pub record PicturesPart (form : Form) (bytes : List ℕ) (old new : Option (List ℕ)) : Type 0 where
  pub lines : List OutLine
  pub are : IsTranscript bytes lines
  pub written : (was : List ℕ) → old ≡ Some was → WritesPrefix was (picture form lines) new

-- what is written, by what was asked for and how the run ends
abbrev pub Draws : Option Form → Option (List ℕ) → Status → Option (List ℕ) → Option (List ℕ) → Type 0
Draws asked left Status.Ok old new = (form : Form) × (asked ≡ Some form) × ((bytes : List ℕ) → left ≡ Some bytes → Pictures form bytes old new)
Draws asked left Status.Usage old new = new ≡ old
Draws asked left (Status.BadInput at why) old new = (new ≡ old) × ((bytes : List ℕ) → left ≡ Some bytes → IsBadAt bytes at)
Draws asked left (Status.ReadFault faults) old new = new ≡ old
Draws asked left (Status.WriteFault faults) old new = (form : Form) × (asked ≡ Some form)
    × ((bytes : List ℕ) → left ≡ Some bytes → PicturesPart form bytes old new)
Draws asked left Status.NoMemory old new = new ≡ old
