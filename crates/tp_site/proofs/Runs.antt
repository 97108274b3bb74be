-- A run of events at a site, one event after the other.
use Rattle.std.proofs.Common.{◌≡◌, ◌==◌, ℕ, Bool, true, false, refl, ap, sym, ◌∙◌, cond, arith, Option, Some, None, List, [], ◌∷◌, ◌++◌}
use Rattle.std.proofs.lemmas.Bool.Decides.{nat_tests}
use Rattle.std.proofs.lemmas.List.{append_assoc}
use Rattle.tp_names.specs.Same.{is_name}
use Rattle.tp_logrec.specs.declared.record.LogRec.{LogRec}
use Rattle.tp_records.specs.declared.body.Event.{Event as Given}
use Rattle.tp_records.specs.declared.body.Output.{Output}
use Rattle.tp_records.specs.declared.peer.PeerRecord.{PeerRecord}
use Rattle.tp_records.specs.Bodies.{peer_bytes}
use Rattle.tp_records.specs.BodyReading.{peer_in}
use Rattle.tp_model.specs.Parts.{Event, Entry, Answer, Out, Tell, Send}
use Rattle.tp_model.specs.History.{answer}
use Rattle.tp_model.specs.NodeRun.{Opening, Past, NodeRun, Refuses, Is, asked, node_of, origin_at, history_of, with_history, with_entry, entry_record, entry_outputs, outputs_of, refusal_of, before_run, run_from, AskedEvent}
use Rattle.tp_site.specs.Events.{opening_at}

-- ---- histories by their nodes

history_with : (ps : List Past) (n : ℕ) (h : List Entry) (k : ℕ) → history_of (with_history ps n h) k ≡ cond (n == k) h (history_of ps k)
history_with [] n h k = go (n == k)
  where
    go : (b : Bool) → (elim b as (λ _. List Entry) [ true ↦ h | false ↦ [] ]) ≡ cond b h []
    go true = refl
    go false = refl
history_with (p ∷ ps) n h k = go (p.node == n) refl (history_with ps n h k)
  where
    go : (b : Bool) → (p.node == n) ≡ b → history_of (with_history ps n h) k ≡ cond (n == k) h (history_of ps k) → history_of (with_history (p ∷ ps) n h) k ≡ cond (n == k) h (history_of (p ∷ ps) k)
    go true i rest = grind (arith, nat_tests, i)
    go false i rest = grind (arith, nat_tests, i, rest)

pub history_grown : (ps : List Past) (n : ℕ) (e : Entry) (k : ℕ) → history_of (with_entry ps n (Some e)) k ≡ cond (n == k) (e ∷ history_of ps n) (history_of ps k)
history_grown ps n e k = history_with ps n (e ∷ history_of ps n) k

-- ---- one event

-- the node to which an event is given is the one that is asked
pub asked_at : (o : Opening) (g : Given) (n : ℕ) (e : Event) → asked o g ≡ Is n e → node_of g ≡ n
asked_at o (Given.Arrive from to octets) n e h = arrived (peer_in octets) (is_name to.site o.site) h
  where
    arrived : (r : Option PeerRecord) (b : Bool) → (elim r as (λ _. AskedEvent) [ None ↦ Refuses 25 | Some x ↦ elim b as (λ _. AskedEvent) [ true ↦ Is to.node (Event.Arrive from x) | false ↦ Refuses 23 ] ]) ≡ Is n e → to.node ≡ n
    arrived None b k = absurd (cc (k))
    arrived (Some x) true k = cc (k)
    arrived (Some x) false k = absurd (cc (k))
asked_at o _ n e h = cc (h)

-- only the name of an opening is read
pub asked_by_name : (o : Opening) (g : Given) → asked (opening_at o.site) g ≡ asked o g
asked_by_name o (Given.Arrive from to octets) = refl
asked_by_name o (Given.Declare n s) = refl
asked_by_name o (Given.Do n r) = refl
asked_by_name o (Given.Lose n p) = refl
asked_by_name o (Given.Heur n u) = refl
asked_by_name o (Given.GiveUp n p) = refl
asked_by_name o (Given.Retry n) = refl
asked_by_name o (Given.Purge n) = refl

pub outputs_by_name : (o : Opening) (n : ℕ) (outs : List Out) → outputs_of (opening_at o.site) n outs ≡ outputs_of o n outs
outputs_by_name o n [] = refl
outputs_by_name o n (Tell i ∷ outs) = ap (λ (l : List Output). Output.Tell n i ∷ l) (outputs_by_name o n outs)
outputs_by_name o n (Send to r ∷ outs) = ap (λ (l : List Output). Output.Send (record { site = o.site; node = n }) to (peer_bytes r) ∷ l) (outputs_by_name o n outs)

-- ---- a run, and the events after it

abbrev given : Opening → List Past → ℕ → Event → Answer
given o ps n e = answer (origin_at o n) (history_of ps n) e

abbrev pub run_asked : Opening → List Past → AskedEvent → List Given → NodeRun
run_asked o ps (Refuses n) gs = before_run [] (Output.Refused n ∷ []) (run_from o ps gs)
run_asked o ps (Is n e) gs = before_run (entry_record (given o ps n e).entry) (refusal_of (given o ps n e).number ++ entry_outputs o n (given o ps n e).entry) (run_from o (with_entry ps n (given o ps n e).entry) gs)

run_step : (o : Opening) (ps : List Past) (g : Given) (gs : List Given) (a : AskedEvent) → asked o g ≡ a → run_from o ps (g ∷ gs) ≡ run_asked o ps a gs
run_step o ps g gs a h = rw (h, run_from) (same a)
  where
    same : (a : AskedEvent) → (elim a as (λ _. NodeRun) [
      | Refuses n ↦ before_run [] (Output.Refused n ∷ []) (run_from o ps gs)
      | Is n e ↦ before_run (entry_record (given o ps n e).entry) (refusal_of (given o ps n e).number ++ entry_outputs o n (given o ps n e).entry) (run_from o (with_entry ps n (given o ps n e).entry) gs)
    ]) ≡ run_asked o ps a gs
    same (Refuses n) = refl
    same (Is n e) = refl

abbrev pub joined : NodeRun → NodeRun → NodeRun
joined r s = record { pasts = s.pasts; log = r.log ++ s.log; outputs = r.outputs ++ s.outputs }

before_joined : (rs : List LogRec) (outs : List Output) (r s : NodeRun) → before_run rs outs (joined r s) ≡ joined (before_run rs outs r) s
before_joined rs outs r s = put (rs ++ (r.log ++ s.log)) ((rs ++ r.log) ++ s.log) (sym (append_assoc rs r.log s.log))
  where
    put : (x y : List LogRec) → x ≡ y → ◌≡◌ {A = NodeRun} (record { pasts = s.pasts; log = x; outputs = outs ∷ (r.outputs ++ s.outputs) }) (record { pasts = s.pasts; log = y; outputs = outs ∷ (r.outputs ++ s.outputs) })
    put x y same = rw same refl

pub run_more : (o : Opening) (gs hs : List Given) (ps : List Past) → run_from o ps (gs ++ hs) ≡ joined (run_from o ps gs) (run_from o (run_from o ps gs).pasts hs)
run_more o [] hs ps = refl
run_more o (g ∷ gs) hs ps = go (asked o g) refl (λ qs. run_more o gs hs qs)
  where
    more : (a : AskedEvent) → ((qs : List Past) → run_from o qs (gs ++ hs) ≡ joined (run_from o qs gs) (run_from o (run_from o qs gs).pasts hs))
        → run_asked o ps a (gs ++ hs) ≡ joined (run_asked o ps a gs) (run_from o (run_asked o ps a gs).pasts hs)
    more (Refuses n) rest =
        ap (before_run [] (Output.Refused n ∷ [])) (rest ps)
        ∙ before_joined [] (Output.Refused n ∷ []) (run_from o ps gs) (run_from o (run_from o ps gs).pasts hs)
    more (Is n e) rest =
        let qs : List Past = with_entry ps n (given o ps n e).entry in
        let rs : List LogRec = entry_record (given o ps n e).entry in
        let outs : List Output = refusal_of (given o ps n e).number ++ entry_outputs o n (given o ps n e).entry in
        ap (before_run rs outs) (rest qs) ∙ before_joined rs outs (run_from o qs gs) (run_from o (run_from o qs gs).pasts hs)

    go : (a : AskedEvent) → asked o g ≡ a → ((qs : List Past) → run_from o qs (gs ++ hs) ≡ joined (run_from o qs gs) (run_from o (run_from o qs gs).pasts hs))
        → run_from o ps (g ∷ (gs ++ hs)) ≡ joined (run_from o ps (g ∷ gs)) (run_from o (run_from o ps (g ∷ gs)).pasts hs)
    go a i rest = run_step o ps g (gs ++ hs) a i ∙ more a rest ∙ ap (λ (r : NodeRun). joined r (run_from o r.pasts hs)) (sym (run_step o ps g gs a i))

-- one event more
pub run_next : (o : Opening) (gs : List Given) (g : Given) (a : AskedEvent) → asked o g ≡ a → run_from o [] (gs ++ g ∷ []) ≡ joined (run_from o [] gs) (run_asked o (run_from o [] gs).pasts a [])
run_next o gs g a i = run_more o gs (g ∷ []) [] ∙ ap (joined (run_from o [] gs)) (run_step o (run_from o [] gs).pasts g [] a i)
