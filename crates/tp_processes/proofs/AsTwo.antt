-- A site on a log of version 1 does what one on the same records in version 2 does for the events that the first has room for.
use Rattle.std.proofs.Common.{◌≡◌, ◌==◌, ◌⊎◌, inl, inr, ℕ, Bool, true, false, refl, ap, sym, subst, ◌∙◌, Option, Some, None, List, [], ◌∷◌, ◌++◌}
use Rattle.tp_records.specs.declared.body.Event.{Event as Given}
use Rattle.tp_records.specs.declared.body.Output.{Output}
use Rattle.tp_logrec.specs.declared.record.LogRec.{LogRec}
use Rattle.tp_logrec.specs.declared.record.LogVersion.{LogVersion}
use Rattle.tp_model.specs.declared.refusal.Refusal.{Refusal}
use Rattle.tp_model.specs.Parts.{Who, Event, Out, Entry, Digest, Verdict, Accepted, Refused, Breaks, Answer}
use Rattle.tp_model.specs.Refusal.{number_of}
use Rattle.tp_model.specs.Node.{Move}
use Rattle.tp_model.specs.Events.{verdict, effects_of, action, started}
use Rattle.tp_model.specs.History.{digest, answer}
use Rattle.tp_model.specs.NodeRun.{Opening, boot_of, origin_at, Past, history_of, AskedEvent, Refuses, Is, asked, refusal_of, entry_outputs, NodeRun, entry_record, with_entry, before_run, run_from}
use Rattle.tp_briefs.specs.Starts.{on}
use Rattle.tp_processes.specs.Versions.{is_too_many, with_room, answers_with_room, VersionsActAlike}
use Rattle.tp_processes.proofs.AnyVersion.{at, acts}
use Rattle.tp_processes.proofs.Room.{verdicts}

-- ---- what is known

known : (s : List ℕ) (rs : List LogRec) (n : ℕ) (v : LogVersion) (h : List Entry) → digest (origin_at (on s v rs) n) h ≡ at v (digest (origin_at (on s LogVersion.Two rs) n) h)
unfolding started
known s rs n v [] = refl
known s rs n v (e ∷ h) =
    let who : Who = record { site = s; node = n } in
    ap (λ (d : Digest). (action who d e.event).next) (known s rs n v h) ∙ ap (λ (m : Move). m.next) (acts who e.event v (digest (origin_at (on s LogVersion.Two rs) n) h))

-- ---- what is answered

abbrev entered : Who → Digest → Event → Option Entry
entered who d e = Some (record { event = e; rec = (effects_of who d e).rec; outs = (effects_of who d e).outs })

abbrev answer_by : Who → Digest → Event → Verdict → Answer
answer_by who d e w = elim w as (λ _. Answer) [
  | Accepted ↦ record { number = None; entry = entered who d e }
  | Refused x ↦ record { number = Some (number_of x); entry = None }
  | Breaks from r ↦ record { number = Some 24; entry = entered who d (Event.Break from r) }
]

enters : (who : Who) (v : LogVersion) (d : Digest) (e : Event) → entered who (at v d) e ≡ entered who d e
enters who v d e = ap (λ (m : Move). let y : Entry = record { event = e; rec = m.rec; outs = m.outs } in Some y) (acts who e v d)

answers_by : (who : Who) (v : LogVersion) (d : Digest) (e : Event) (w : Verdict) → answer_by who (at v d) e w ≡ answer_by who d e w
answers_by who v d e Accepted = ap (λ (y : Option Entry). let a : Answer = record { number = None; entry = y } in a) (enters who v d e)
answers_by who v d e (Refused x) = refl
answers_by who v d e (Breaks from r) = ap (λ (y : Option Entry). let a : Answer = record { number = Some 24; entry = y } in a) (enters who v d (Event.Break from r))

abbrev no_room : Answer
no_room = record { number = Some (number_of Refusal.TooMany); entry = None }

abbrev answer_in : LogVersion → List ℕ → List LogRec → ℕ → List Entry → Event → Answer
answer_in v s rs n h e = answer (origin_at (on s v rs) n) h e

answered : (s : List ℕ) (rs : List LogRec) (n : ℕ) (h : List Entry) (e : Event)
    → (answer_in LogVersion.One s rs n h e ≡ answer_in LogVersion.Two s rs n h e) ⊎ (answer_in LogVersion.One s rs n h e ≡ no_room)
answered s rs n h e = elim (verdicts who d e) [
  | inl same ↦ inl (one ∙ answers_by who LogVersion.One d e _ ∙ ap (answer_by who d e) same ∙ sym (two ∙ answers_by who LogVersion.Two d e _))
  | inr full ↦ inr (one ∙ ap (answer_by who (at LogVersion.One d) e) full)
]
  where
    who : Who
    who = record { site = s; node = n }

    d : Digest
    d = digest (origin_at (on s LogVersion.Two rs) n) h

    one : answer_in LogVersion.One s rs n h e ≡ answer_by who (at LogVersion.One d) e (verdict who (at LogVersion.One d) e)
    one = ap (λ (x : Digest). answer_by who x e (verdict who x e)) (known s rs n LogVersion.One h)

    two : answer_in LogVersion.Two s rs n h e ≡ answer_by who (at LogVersion.Two d) e (verdict who (at LogVersion.Two d) e)
    two = ap (λ (x : Digest). answer_by who x e (verdict who x e)) (known s rs n LogVersion.Two h)

-- what is refused for want of room leaves no entry
abbrev shown : Opening → ℕ → Answer → List Output
shown o n a = refusal_of a.number ++ entry_outputs o n a.entry

unentered : (o : Opening) (who : Who) (d : Digest) (e : Event) (w : Verdict) → is_too_many (shown o who.node (answer_by who d e w)) ≡ true → (answer_by who d e w).entry ≡ None
unentered o who d e Accepted h = plain (effects_of who d e).outs h
  where
    plain : (outs : List Out) → is_too_many (entry_outputs o who.node (Some (record { event = e; rec = (effects_of who d e).rec; outs = outs }))) ≡ true → entered who d e ≡ None
    plain [] h = absurd (cc (h))
    plain (Out.Tell i ∷ outs) h = absurd (cc (h))
    plain (Out.Send to r ∷ outs) h = absurd (cc (h))
unentered o who d e (Refused x) h = refl
unentered o who d e (Breaks from r) h = absurd (cc (h))

-- ---- the run

module _ (s : List ℕ) (rs : List LogRec) where
  abbrev one : Opening
  one = on s LogVersion.One rs

  abbrev two : Opening
  two = on s LogVersion.Two rs

  asked_alike : (g : Given) → asked one g ≡ asked two g
  asked_alike (Given.Declare n u) = refl
  asked_alike (Given.Do n r) = refl
  asked_alike (Given.Arrive from to octets) = refl
  asked_alike (Given.Lose n p) = refl
  asked_alike (Given.Heur n u) = refl
  asked_alike (Given.GiveUp n p) = refl
  asked_alike (Given.Retry n) = refl
  asked_alike (Given.Purge n) = refl

  -- what a run on the one is on the other
  abbrev as_two : NodeRun → NodeRun
  as_two r = record { pasts = r.pasts; log = r.log; outputs = answers_with_room r.outputs }

  abbrev IsAsTwo : List Past → List Given → Type 0
  IsAsTwo ps gs = run_from two ps (with_room gs (run_from one ps gs).outputs) ≡ as_two (run_from one ps gs)

  abbrev by_answer : Opening → List Past → List Given → ℕ → Answer → NodeRun
  by_answer x ps gs n a = before_run (entry_record a.entry) (shown one n a) (run_from x (with_entry ps n a.entry) gs)

  abbrev turn : Opening → List Past → List Given → AskedEvent → NodeRun
  turn x ps gs a = elim a as (λ _. NodeRun) [
    | Refuses n ↦ before_run [] (Output.Refused n ∷ []) (run_from x ps gs)
    | Is n e ↦ by_answer x ps gs n (answer (origin_at x n) (history_of ps n) e)
  ]

  -- the first event, by its answer
  abbrev IsStep : List Past → Given → List Given → NodeRun → Type 0
  IsStep ps g gs r = run_from two ps (with_room (g ∷ gs) r.outputs) ≡ as_two r

  refused : (ps : List Past) (g : Given) (gs : List Given) (n : ℕ) → asked two g ≡ Refuses n → IsAsTwo ps gs → IsStep ps g gs (before_run [] (Output.Refused n ∷ []) (run_from one ps gs))
  refused ps g gs n is rest = by (n == number_of Refusal.TooMany)
    where
      r : NodeRun
      r = run_from one ps gs

      by : (b : Bool) → run_from two ps (elim b as (λ _. List Given) [ true ↦ with_room gs r.outputs | false ↦ g ∷ with_room gs r.outputs ])
          ≡ record { pasts = r.pasts; log = r.log; outputs = elim b as (λ _. List (List Output)) [ true ↦ answers_with_room r.outputs | false ↦ (Output.Refused n ∷ []) ∷ answers_with_room r.outputs ] }
      by true = rest
      by false = ap (turn two ps (with_room gs r.outputs)) is ∙ ap (before_run [] (Output.Refused n ∷ [])) rest

  taken : (ps : List Past) (g : Given) (gs : List Given) (n : ℕ) (e : Event) (a : Answer) → asked two g ≡ Is n e → answer (origin_at two n) (history_of ps n) e ≡ a
      → (is_too_many (shown one n a) ≡ true → a.entry ≡ None) → ((xs : List Past) → IsAsTwo xs gs) → IsStep ps g gs (by_answer one ps gs n a)
  taken ps g gs n e a is same none rest = by (is_too_many (shown one n a)) refl
    where
      r : NodeRun
      r = run_from one (with_entry ps n a.entry) gs

      still : (y : Option Entry) → y ≡ None → run_from two ps (with_room gs (run_from one (with_entry ps n y) gs).outputs)
          ≡ record { pasts = (run_from one (with_entry ps n y) gs).pasts; log = entry_record y ++ (run_from one (with_entry ps n y) gs).log; outputs = answers_with_room (run_from one (with_entry ps n y) gs).outputs }
      still None i = rest ps
      still (Some y) i = absurd (cc (i))

      by : (b : Bool) → is_too_many (shown one n a) ≡ b → run_from two ps (elim b as (λ _. List Given) [ true ↦ with_room gs r.outputs | false ↦ g ∷ with_room gs r.outputs ])
          ≡ record { pasts = r.pasts; log = entry_record a.entry ++ r.log; outputs = elim b as (λ _. List (List Output)) [ true ↦ answers_with_room r.outputs | false ↦ shown one n a ∷ answers_with_room r.outputs ] }
      by true i = still a.entry (none i)
      by false i =
          ap (turn two ps (with_room gs r.outputs)) is ∙ ap (by_answer two ps (with_room gs r.outputs) n) same
          ∙ ap (before_run (entry_record a.entry) (shown one n a)) (rest (with_entry ps n a.entry))

  full : (ps : List Past) (g : Given) (gs : List Given) (n : ℕ) → IsAsTwo ps gs → IsStep ps g gs (by_answer one ps gs n no_room)
  full ps g gs n rest = rest

  stepped : (ps : List Past) (g : Given) (gs : List Given) (a : AskedEvent) → asked two g ≡ a → ((xs : List Past) → IsAsTwo xs gs) → IsStep ps g gs (turn one ps gs a)
  stepped ps g gs (Refuses n) is rest = refused ps g gs n is (rest ps)
  stepped ps g gs (Is n e) is rest = elim (answered s rs n (history_of ps n) e) [
    | inl same ↦ subst_answer same
    | inr none ↦ subst (λ (a : Answer). IsStep ps g gs (by_answer one ps gs n a)) (sym none) (full ps g gs n (rest ps))
  ]
    where
      who : Who
      who = record { site = s; node = n }

      d : Digest
      d = digest (origin_at two n) (history_of ps n)

      subst_answer : answer_in LogVersion.One s rs n (history_of ps n) e ≡ answer_in LogVersion.Two s rs n (history_of ps n) e → IsStep ps g gs (by_answer one ps gs n (answer_in LogVersion.One s rs n (history_of ps n) e))
      subst_answer same =
          subst (λ (a : Answer). IsStep ps g gs (by_answer one ps gs n a)) (sym same)
          (taken ps g gs n e (answer_in LogVersion.Two s rs n (history_of ps n) e) is refl (unentered one who d e (verdict who d e)) rest)

  runs : (ps : List Past) (gs : List Given) → IsAsTwo ps gs
  runs ps [] = refl
  runs ps (g ∷ gs) = subst (λ (a : AskedEvent). IsStep ps g gs (turn one ps gs a)) (sym (asked_alike g)) (stepped ps g gs (asked two g) refl (λ xs. runs xs gs))

pub acts_as_two : VersionsActAlike
acts_as_two s LogVersion.Two rs gs = record { outputs = refl; histories = λ n. refl; log = refl }
acts_as_two s LogVersion.One rs gs =
    let same = runs s rs [] gs in
    record {
      outputs = sym (ap (λ (r : NodeRun). r.outputs) same);
      histories = λ n. sym (ap (λ (r : NodeRun). history_of r.pasts n) same);
      log = sym (ap (λ (r : NodeRun). rs ++ LogRec.Boot (boot_of (on s LogVersion.Two rs)) ∷ r.log) same);
    }
