-- A transcript that comes to its end has what the lines of its schedule show, and the closing lines.
use Rattle.std.proofs.Common.{◌≡◌, ℕ, suc, ◌+◌, nat_lt, Bool, true, false, refl, ap, sym, ◌∙◌, Option, Some, None, List, [], ◌∷◌, ◌++◌}
use Rattle.std.proofs.lemmas.List.{append_assoc}
use Rattle.tp_records.specs.declared.request.Request.{Request}
use Rattle.tp_model.specs.declared.line.Line.{Line}
use Rattle.tp_model.specs.declared.out_line.OutLine.{OutLine}
use Rattle.tp_model.specs.declared.verdict.What.{What}
use Rattle.tp_model.specs.OutText.{out_text, out_texts}
use Rattle.tp_model.specs.LineReading.{Reading, Blank, Faulty, Says, read_line}
use Rattle.tp_model.specs.World.{World, empty_world}
use Rattle.tp_model.specs.Lines.{Fault, Name, Over}
use Rattle.tp_model.specs.Trees.{closing}
use Rattle.tp_model.specs.Transcript.{Play, RawLine, Transcript, Done, At_limit, Bad_input, raw_lines, content, ends, behind, breaks, transcript_from, transcript_with, octets_taken, line_played}
use Rattle.tp_model.specs.Expand.{behind_play, played_all}
use Rattle.tp_members.specs.Expansion.{lines_said, lines_in, written_by}

-- the play goes through, and the transcript is what it writes
pub record IsPlayed (p : Play) (t : Transcript) : Type 0 where
  pub fault : p.fault ≡ None
  pub written : t.written ≡ written_by p

texts_append : (xs ys : List OutLine) → out_texts (xs ++ ys) ≡ out_texts xs ++ out_texts ys
texts_append [] ys = refl
texts_append (x ∷ xs) ys = ap (λ (bs : List ℕ). out_text x ++ (10 ∷ bs)) (texts_append xs ys) ∙ sym (append_assoc (out_text x) (10 ∷ out_texts xs) (out_texts ys))

behind_played : (p q : Play) (t : Transcript) → IsPlayed q t → IsPlayed (behind_play p q) (behind p t)
behind_played p q t h = record {
  fault = h.fault;
  written =
      ap (λ (bs : List ℕ). out_texts p.lines ++ bs) h.written
      ∙ sym (append_assoc (out_texts p.lines) (out_texts q.lines) (out_texts (closing q.world)))
      ∙ ap (λ (bs : List ℕ). bs ++ out_texts (closing q.world)) (sym (texts_append p.lines q.lines));
}

transcript_played : (members at before : ℕ) (answers : List (Option Request)) (w : World) (ls : List RawLine) → (transcript_from members at before answers w ls).ending ≡ Done
    → IsPlayed (played_all members answers w (lines_said ls)) (transcript_from members at before answers w ls)
transcript_played members at before answers w [] h = record { fault = refl; written = refl }
transcript_played members at before answers w (l ∷ ls) h = go (nat_lt 1048576 (before + octets_taken l)) (read_line (content l)) (λ bs v. transcript_played members (suc at) (before + octets_taken l) bs v ls) h
  where
    rest : List (Option Request) → World → Transcript
    rest bs v = transcript_from members (suc at) (before + octets_taken l) bs v ls

    after : Line → Option Fault → Transcript
    after x f = elim f [ Some f ↦ breaks at f (line_played members answers w x) | None ↦ behind (line_played members answers w x) (rest (line_played members answers w x).left (line_played members answers w x).world) ]

    play : Line → Option Fault → Play
    play x f = elim f [
      | Some f ↦ line_played members answers w x
      | None ↦ behind_play (line_played members answers w x) (played_all members (line_played members answers w x).left (line_played members answers w x).world (lines_said ls))
    ]

    after_played : (x : Line) (f : Option Fault) → ((bs : List (Option Request)) (v : World) → (rest bs v).ending ≡ Done → IsPlayed (played_all members bs v (lines_said ls)) (rest bs v))
        → (after x f).ending ≡ Done → IsPlayed (play x f) (after x f)
    after_played x (Some Name) more h = absurd (cc (h))
    after_played x (Some (Over what)) more h = absurd (cc (h))
    after_played x None more h =
        let p : Play = line_played members answers w x in
        behind_played p (played_all members p.left p.world (lines_said ls)) (rest p.left p.world) (more p.left p.world h)

    whole : Bool → Reading → Transcript
    whole b y = elim b [
      | true ↦ ends w (At_limit What.Schedule at)
      | false ↦ elim y [ Blank ↦ rest answers w | Faulty why ↦ ends w (Bad_input at why) | Says x ↦ after x (line_played members answers w x).fault ]
    ]

    go : (b : Bool) (y : Reading) → ((bs : List (Option Request)) (v : World) → (rest bs v).ending ≡ Done → IsPlayed (played_all members bs v (lines_said ls)) (rest bs v))
        → (whole b y).ending ≡ Done → IsPlayed (played_all members answers w (elim y as (λ _. List Line) [ Blank ↦ lines_said ls | Faulty why ↦ [] | Says x ↦ x ∷ lines_said ls ])) (whole b y)
    go true y more h = absurd (cc (h))
    go false Blank more h = more answers w h
    go false (Faulty why) more h = absurd (cc (h))
    go false (Says x) more h = after_played x (line_played members answers w x).fault more h

pub transcript_is_played : (members : ℕ) (schedule : List ℕ) (answers : List (Option Request)) → (transcript_with members schedule answers).ending ≡ Done
    → IsPlayed (played_all members answers empty_world (lines_in schedule)) (transcript_with members schedule answers)
transcript_is_played members schedule answers h = transcript_played members 1 0 answers empty_world (raw_lines schedule) h
