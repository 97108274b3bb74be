-- Where no member is there, none answers; and a schedule that comes to its end without members does so with any number of them.
use Rattle.std.proofs.Common.{◌≡◌, ◌∙◌, ◌==◌, ◌+◌, ◌++◌, ℕ, zero, suc, nat_lt, eq-eqb, Bool, true, false, refl, sym, ap, subst, Option, Some, None, List, [], ◌∷◌, length, map, Result, Ok, Err, arith}
use Rattle.tp_records.specs.declared.request.Request.{Request}
use Rattle.tp_records.specs.Answers.{Answer}
use Rattle.tp_model.specs.declared.line.Line.{Line}
use Rattle.tp_model.specs.declared.verdict.What.{What}
use Rattle.tp_model.specs.LineReading.{Reading, Blank, Faulty, Says, read_line}
use Rattle.tp_model.specs.World.{World, empty_world}
use Rattle.tp_model.specs.Happenings.{WorldTurn}
use Rattle.tp_model.specs.Lines.{Fault, Name, Over, line}
use Rattle.tp_model.specs.Transcript.{Put, Play, RawLine, Transcript, Done, Bad_input, At_limit, raw_lines, content, echo, is_silent, puts_of, answers_of, answered, stopped, with_lines, breaks, ends, behind, fault_ending, transcript_from, transcript_with, octets_taken}
use Rattle.tp_world.proofs.Lines.{members_same, unnamed}
use Rattle.tp_world_members.specs.Members.{slot_at, may, Gave}
use Rattle.tp_replay.proofs.SoFar.{may_nothing}

-- ---- nobody answers

no_slot : {M : Type 0} (k : ℕ) → slot_at (map (λ (m : M). Some m) []) k ≡ None
no_slot zero = refl
no_slot (suc k) = refl

-- nothing was put
pub unanswered : {M : Type 0} (allowed : M → List Answer → Type 0) (now : List (Option M)) (puts : List Put) (answers : List (Option Request)) → length answers ≡ length puts → Gave allowed (map (λ (m : M). Some m) []) now puts answers → answers ≡ []
unanswered allowed now puts [] each gave = refl
unanswered allowed now [] (a ∷ answers) each gave = absurd cc
unanswered allowed now (q ∷ puts) (a ∷ answers) each gave = absurd (go (q.member == q.member) (eq-eqb q.member q.member refl) (subst (λ x. may allowed x (answers_of q.member (q ∷ puts) (a ∷ answers) ++ [])) (no_slot q.member) (gave q.member [] (may_nothing allowed (slot_at now q.member)))))
  where
    one : Answer
    one = record { node = q.node; indication = q.indication; request = a }

    go : (b : Bool) → b ≡ true → (elim b as (λ _. List Answer) [ true ↦ one ∷ answers_of q.member puts answers | false ↦ answers_of q.member puts answers ]) ++ [] ≡ [] → ⊥
    go true e h = grind (arith, h)
    go false e h = absurd cc

-- ---- any number of members

not_done : (at : ℕ) (f : Fault) → fault_ending at f ≡ Done → ⊥
not_done at Name e = grind (arith, e)
not_done at (Over what) e = grind (arith, e)

abbrev goes_as : ℕ → Play → (Play → Transcript) → Transcript
goes_as at p rest = elim p.fault [ Some f ↦ breaks at f p | None ↦ behind p (rest p) ]

abbrev play_of : List (Option Request) → World → Line → Result WorldTurn Fault → Play
play_of answers w x r = elim r [
  | Err f ↦ stopped w answers f
  | Ok t ↦ with_lines (echo x ++ t.lines) (answered answers 0 t.world (puts_of t.world t.told))
]

same_from : (k at before : ℕ) (answers : List (Option Request)) (w : World) (ls : List RawLine) → (transcript_from 0 at before answers w ls).ending ≡ Done → transcript_from k at before answers w ls ≡ transcript_from 0 at before answers w ls
same_from k at before answers w [] done = refl
same_from k at before answers w (l ∷ ls) done = by_limit (nat_lt 1048576 (before + octets_taken l)) (λ a v h. same_from k (suc at) (before + octets_taken l) a v ls h) done
  where
    rest : ℕ → Play → Transcript
    rest n p = transcript_from n (suc at) (before + octets_taken l) p.left p.world ls

    More : Type 0
    More = (a : List (Option Request)) (v : World) → (transcript_from 0 (suc at) (before + octets_taken l) a v ls).ending ≡ Done → transcript_from k (suc at) (before + octets_taken l) a v ls ≡ transcript_from 0 (suc at) (before + octets_taken l) a v ls

    by_fault : (p : Play) (o : Option Fault) → More → (elim o as (λ _. Transcript) [ Some f ↦ breaks at f p | None ↦ behind p (rest 0 p) ]).ending ≡ Done
        → (elim o as (λ _. Transcript) [ Some f ↦ breaks at f p | None ↦ behind p (rest k p) ]) ≡ (elim o as (λ _. Transcript) [ Some f ↦ breaks at f p | None ↦ behind p (rest 0 p) ])
    by_fault p (Some f) more done = refl
    by_fault p None more done = ap (behind p) (more p.left p.world done)

    says : (x : Line) (b : Bool) → is_silent x ≡ b → More → (goes_as at (play_of answers w x (line 0 w x)) (rest 0)).ending ≡ Done
        → goes_as at (play_of answers w x (line k w x)) (rest k) ≡ goes_as at (play_of answers w x (line 0 w x)) (rest 0)
    says x true e more done = absurd (not_done at Name (sym (ap (λ (r : Result WorldTurn Fault). (goes_as at (play_of answers w x r) (rest 0)).ending) (unnamed w x e)) ∙ done))
    says x false e more done =
        ap (λ (r : Result WorldTurn Fault). goes_as at (play_of answers w x r) (rest k)) (members_same k w x e)
        ∙ by_fault (play_of answers w x (line 0 w x)) (play_of answers w x (line 0 w x)).fault more done

    by_reading : (r : Reading) → More
        → (elim r as (λ _. Transcript) [ Blank ↦ transcript_from 0 (suc at) (before + octets_taken l) answers w ls | Faulty why ↦ ends w (Bad_input at why) | Says x ↦ goes_as at (play_of answers w x (line 0 w x)) (rest 0) ]).ending ≡ Done
        → (elim r as (λ _. Transcript) [ Blank ↦ transcript_from k (suc at) (before + octets_taken l) answers w ls | Faulty why ↦ ends w (Bad_input at why) | Says x ↦ goes_as at (play_of answers w x (line k w x)) (rest k) ])
        ≡ (elim r as (λ _. Transcript) [ Blank ↦ transcript_from 0 (suc at) (before + octets_taken l) answers w ls | Faulty why ↦ ends w (Bad_input at why) | Says x ↦ goes_as at (play_of answers w x (line 0 w x)) (rest 0) ])
    by_reading Blank more done = more answers w done
    by_reading (Faulty why) more done = refl
    by_reading (Says x) more done = says x (is_silent x) refl more done

    all : ℕ → Bool → Transcript
    all n b = elim b [
      | true ↦ ends w (At_limit What.Schedule at)
      | false ↦ elim (read_line (content l)) [ Blank ↦ transcript_from n (suc at) (before + octets_taken l) answers w ls | Faulty why ↦ ends w (Bad_input at why) | Says x ↦ goes_as at (play_of answers w x (line n w x)) (rest n) ]
    ]

    by_limit : (b : Bool) → More → (all 0 b).ending ≡ Done → all k b ≡ all 0 b
    by_limit true more done = refl
    by_limit false more done = by_reading (read_line (content l)) more done

pub same_with : (k : ℕ) (bytes : List ℕ) → (transcript_with 0 bytes []).ending ≡ Done → transcript_with k bytes [] ≡ transcript_with 0 bytes []
same_with k bytes done = same_from k 1 0 [] empty_world (raw_lines bytes) done
