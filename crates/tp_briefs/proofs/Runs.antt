-- Where two starts know the same, all that comes after them is the same.
use Rattle.std.proofs.Common.{◌≡◌, ℕ, suc, Bool, true, false, refl, ap, sym, subst, ◌∙◌, Option, Some, None, List, [], ◌∷◌, ◌++◌}
use Rattle.tp_records.specs.declared.body.Event.{Event as Given}
use Rattle.tp_records.specs.declared.body.Output.{Output}
use Rattle.tp_logrec.specs.declared.record.LogRec.{LogRec}
use Rattle.tp_logrec.specs.declared.record.LogVersion.{LogVersion}
use Rattle.tp_logrec.specs.Order.{boots, boot_by, last_boot_from, last_number}
use Rattle.tp_model.specs.declared.recovery.Kept.{Kept}
use Rattle.tp_model.specs.Parts.{Who, Origin, Event, Entry, Current, Digest, Verdict, Answer}
use Rattle.tp_model.specs.Refusal.{number_of as refusal_number}
use Rattle.tp_model.specs.Events.{verdict, effects_of, current_by, current_from, kept_from, started}
use Rattle.tp_model.specs.Recovery.{kept_by}
use Rattle.tp_model.specs.History.{digest, answer}
use Rattle.tp_model.specs.NodeRun.{Opening, boot_of, is_record_at, records_at, origin_at, Past, history_of, AskedEvent, Refuses, Is, asked, refusal_of, entry_outputs, NodeRun, entry_record, with_entry, before_run, run_from, node_run}
use Rattle.tp_briefs.specs.Starts.{on, StartAlike, AlikeRunAlike}
use Rattle.tp_briefs.proofs.Alike.{last_boot, started_as}

-- ---- a node

abbrev answer_at : Who → Event → Digest → Answer
answer_at who e d = elim (verdict who d e) as (λ _. Answer) [
  | Verdict.Accepted ↦ record { number = None; entry = Some (record { event = e; rec = (effects_of who d e).rec; outs = (effects_of who d e).outs }) }
  | Verdict.Refused n ↦ record { number = Some (refusal_number n); entry = None }
  | Verdict.Breaks from r ↦ record { number = Some 24; entry = Some (record { event = Event.Break from r; rec = (effects_of who d (Event.Break from r)).rec; outs = (effects_of who d (Event.Break from r)).outs }) }
]

digests : (o p : Origin) (h : List Entry) → o.who ≡ p.who → digest o [] ≡ digest p [] → digest o h ≡ digest p h
digests o p [] who same = same
digests o p (e ∷ h) who same = rw (digests o p h who same, who) refl

module _ (s : List ℕ) (v : LogVersion) (rs qs : List LogRec) (k : StartAlike (on s v rs) (on s v qs)) where
  abbrev o : Opening
  o = on s v rs

  abbrev p : Opening
  p = on s v qs

  answers : (n : ℕ) (h : List Entry) (e : Event) → answer (origin_at o n) h e ≡ answer (origin_at p n) h e
  answers n h e = ap (answer_at (record { site = s; node = n }) e) (digests (origin_at o n) (origin_at p n) h refl (k.knows n))

  -- ---- the whole site

  abbrev by_answer : Opening → List Past → List Given → ℕ → Answer → NodeRun
  by_answer x ps gs n a = before_run (entry_record a.entry) (refusal_of a.number ++ entry_outputs o n a.entry) (run_from x (with_entry ps n a.entry) gs)

  abbrev turn : Opening → List Past → List Given → AskedEvent → NodeRun
  turn x ps gs a = elim a as (λ _. NodeRun) [
    | Refuses n ↦ before_run [] (Output.Refused n ∷ []) (run_from x ps gs)
    | Is n e ↦ by_answer x ps gs n (answer (origin_at x n) (history_of ps n) e)
  ]

  turns : (ps : List Past) (gs : List Given) (a : AskedEvent) → ((xs : List Past) → run_from o xs gs ≡ run_from p xs gs) → turn o ps gs a ≡ turn p ps gs a
  turns ps gs (Refuses n) rest = ap (before_run [] (Output.Refused n ∷ [])) (rest ps)
  turns ps gs (Is n e) rest =
      let a : Answer = answer (origin_at p n) (history_of ps n) e in
      ap (by_answer o ps gs n) (answers n (history_of ps n) e) ∙ ap (before_run (entry_record a.entry) (refusal_of a.number ++ entry_outputs o n a.entry)) (rest (with_entry ps n a.entry))

  runs : (ps : List Past) (gs : List Given) → run_from o ps gs ≡ run_from p ps gs
  runs ps [] = refl
  runs ps (g ∷ gs) = turns ps gs (asked o g) (λ xs. runs xs gs)

-- ---- the next start

at_append : (n : ℕ) (rs more : List LogRec) → records_at n (rs ++ more) ≡ records_at n rs ++ records_at n more
at_append n [] more = refl
at_append n (r ∷ rs) more = go (is_record_at n r) (at_append n rs more)
  where
    go : (b : Bool) → records_at n (rs ++ more) ≡ records_at n rs ++ records_at n more
        → elim b as (λ _. List LogRec) [ true ↦ r ∷ records_at n (rs ++ more) | false ↦ records_at n (rs ++ more) ] ≡ elim b as (λ _. List LogRec) [ true ↦ r ∷ records_at n rs | false ↦ records_at n rs ] ++ records_at n more
    go true rest = ap (λ (l : List LogRec). r ∷ l) rest
    go false rest = rest

current_append : (c : Option Current) (rs more : List LogRec) → current_from c (rs ++ more) ≡ current_from (current_from c rs) more
current_append c [] more = refl
current_append c (r ∷ rs) more = current_append (current_by r c) rs more

kept_append : (ks : List Kept) (rs more : List LogRec) → kept_from ks (rs ++ more) ≡ kept_from (kept_from ks rs) more
kept_append ks [] more = refl
kept_append ks (r ∷ rs) more = kept_append (kept_by r ks) rs more

boot_append : (n : ℕ) (rs more : List LogRec) → last_boot_from n (rs ++ more) ≡ last_boot_from (last_boot_from n rs) more
boot_append n [] more = refl
boot_append n (r ∷ rs) more = boot_append (boot_by n r) rs more

same_number : (a b : ℕ) → suc a ≡ suc b → a ≡ b
same_number a b h = cc (h)

more_alike : (s : List ℕ) (v : LogVersion) (rs qs more : List LogRec) → StartAlike (on s v rs) (on s v qs) → StartAlike (on s v (rs ++ more)) (on s v (qs ++ more))
unfolding started
more_alike s v rs qs more k =
    let first : last_boot_from 0 rs ≡ last_boot_from 0 qs = sym (last_boot rs) ∙ same_number (last_number (boots rs)) (last_number (boots qs)) k.boot ∙ last_boot qs in
    let boot : boot_of (on s v (rs ++ more)) ≡ boot_of (on s v (qs ++ more)) =
    ap suc (last_boot (rs ++ more) ∙ boot_append 0 rs more ∙ ap (λ (b : ℕ). last_boot_from b more) first ∙ sym (boot_append 0 qs more) ∙ sym (last_boot (qs ++ more))) in
    record {
      boot = boot;
      knows = λ n.
          let current : current_from None (records_at n (rs ++ more)) ≡ current_from None (records_at n (qs ++ more)) =
          ap (current_from None) (at_append n rs more) ∙ current_append None (records_at n rs) (records_at n more) ∙ ap (λ (c : Option Current). current_from c (records_at n more)) (ap (λ (d : Digest). d.current) (k.knows n))
          ∙ sym (current_append None (records_at n qs) (records_at n more)) ∙ sym (ap (current_from None) (at_append n qs more)) in
          let kept : kept_from [] (records_at n (rs ++ more)) ≡ kept_from [] (records_at n (qs ++ more)) =
          ap (kept_from []) (at_append n rs more) ∙ kept_append [] (records_at n rs) (records_at n more) ∙ ap (λ (ks : List Kept). kept_from ks (records_at n more)) (ap (λ (d : Digest). d.kept) (k.knows n))
          ∙ sym (kept_append [] (records_at n qs) (records_at n more)) ∙ sym (ap (kept_from []) (at_append n qs more)) in
          started_as (boot_of (on s v (rs ++ more))) (boot_of (on s v (qs ++ more))) v _ _ _ _ boot current kept;
    }

pub run_alike : AlikeRunAlike
run_alike s v rs qs k gs =
    let same : run_from (on s v rs) [] gs ≡ run_from (on s v qs) [] gs = runs s v rs qs k [] gs in
    let forced : (node_run (on s v rs) gs).log ≡ (node_run (on s v qs) gs).log = ap (λ (b : ℕ). LogRec.Boot b ∷ (run_from (on s v rs) [] gs).log) k.boot ∙ ap (λ (r : NodeRun). LogRec.Boot (boot_of (on s v qs)) ∷ r.log) same in
    record {
      outputs = ap (λ (r : NodeRun). r.outputs) same;
      histories = λ n. ap (λ (r : NodeRun). history_of r.pasts n) same;
      forced = forced;
      next = subst (λ (l : List LogRec). StartAlike (on s v (rs ++ (node_run (on s v rs) gs).log)) (on s v (qs ++ l))) forced (more_alike s v rs qs (node_run (on s v rs) gs).log k);
    }
