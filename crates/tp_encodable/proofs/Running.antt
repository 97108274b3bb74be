-- Every record of a site's log is shaped as a text asks, whatever events it is given, where those that it starts on are.
use Rattle.std.proofs.Common.{if◌then◌else◌, ◌≡◌, ◌≤◌, ◌==◌, ◌++◌, ℕ, suc, Bool, true, false, refl, ap, sym, ◌∙◌, subst, arith, Option, Some, None, List, [], ◌∷◌, length}
use Rattle.std.proofs.lemmas.Bool.Decides.{nat_tests}
use Rattle.tp_names.specs.declared.identifiers.NodeKey.{NodeKey}
use Rattle.tp_names.specs.declared.identifiers.BranchId.{BranchId}
use Rattle.tp_names.specs.declared.identifiers.Addr.{Addr}
use Rattle.tp_names.specs.declared.children.Child.{Child}
use Rattle.tp_names.specs.declared.outcome.Outcome.{Outcome}
use Rattle.tp_records.specs.declared.body.Event.{Event as Given}
use Rattle.tp_logrec.specs.declared.record.LogRec.{LogRec}
use Rattle.tp_logrec.specs.declared.record.LogVersion.{LogVersion}
use Rattle.tp_model.specs.declared.arc.Phase.{Phase}
use Rattle.tp_model.specs.declared.recovery.Kept.{Kept}
use Rattle.tp_model.specs.Parts.{Start, Event, Entry, Key, Root, Under, Current}
use Rattle.tp_model.specs.Dialogues.{is_active}
use Rattle.tp_model.specs.Transactions.{node_key}
use Rattle.tp_model.specs.Recovery.{kept_by}
use Rattle.tp_model.specs.Events.{fresh_branches, key_in_log, current_in_log, decision_of, without_current, current_by, current_from, kept_from, started}
use Rattle.tp_model.specs.History.{digest, answer, entry_of}
use Rattle.tp_model.specs.NodeRun.{Opening, boot_of, is_record_at, records_at, origin_at, Past, history_of, Refuses, Is, asked, entry_record, with_entry, run_from, NodeRun, log_after, AskedEvent}
use Rattle.tp_names.specs.Same.{is_key}
use Rattle.tp_steps.proofs.every.Answers.{Accepted, accepted}
use Rattle.tp_steps.proofs.log.KinTurns.{kin}
use Rattle.tp_steps.proofs.lemmas.EachKept.{each_after}
use Rattle.tp_histories.proofs.trees.Late.{late_started}
use Rattle.tp_runs.proofs.Lanes.{chosen, past_with, given, run_step}
use Rattle.tp_texts.specs.Texts.{most_children}
use Rattle.tp_texts.specs.Shapes.{has_branch, IsShaped, AreShaped}
use Rattle.tp_encodable.proofs.Turning.{IsShapedOption}
use Rattle.tp_encodable.proofs.Standing.{AreShapedKept, each_kept, IsFitCurrent, Stands}
use Rattle.tp_encodable.proofs.Moving.{next_move}
use Rattle.tp_encodable.specs.Standing.{IsShapedKept}

-- ---- the start

fresh_length : (cs : List Child) → length (kin (fresh_branches cs)) ≡ length cs
fresh_length [] = refl
fresh_length (c ∷ cs) = ap (λ (n : ℕ). suc n) (fresh_length cs)

-- what is current by a log is fit, and is not active
record IsPassive (ver : LogVersion) (c : Current) : Type 0 where
  fit : IsFitCurrent ver c
  passive : is_active c.phase ≡ false

abbrev ArePassive : LogVersion → Option Current → Type 0
ArePassive ver None = Unit {0}
ArePassive ver (Some c) = IsPassive ver c

few_same : (a b n : ℕ) → a ≡ b → b ≤ n → a ≤ n
few_same a b n h i = omega (arith, h, i)

passive_ready : (ver : LogVersion) (k : NodeKey) (a : Addr) (cs : List Child) (o : Option Outcome) → has_branch k ≡ true → length cs ≤ most_children ver → ArePassive ver (current_in_log (key_in_log k (Some a)) Phase.Ready cs o)
passive_ready ver k a cs o h i = go k.branch h
  where
    go : (b : Option BranchId) → elim b as (λ _. Bool) [ None ↦ false | Some x ↦ true ] ≡ true
        → ArePassive ver (current_in_log (elim b as (λ _. Option Key) [ None ↦ Some (Root k.aaid) | Some x ↦ Some (Under k.aaid x a) ]) Phase.Ready cs o)
    go None j = absurd (cc (j))
    go (Some x) j = record { fit = record { under = λ r. refl; few = few_same _ _ _ (fresh_length cs) i }; passive = refl }

passive_commit : (ver : LogVersion) (k : Option Key) (cs : List Child) (o : Option Outcome) → length cs ≤ most_children ver → ArePassive ver (current_in_log k Phase.Committing cs o)
passive_commit ver None cs o i = tt
passive_commit ver (Some k) cs o i = record { fit = record { under = λ r. absurd (cc (r)); few = few_same _ _ _ (fresh_length cs) i }; passive = refl }

passive_without : (ver : LogVersion) (k : NodeKey) (o : Option Current) → ArePassive ver o → ArePassive ver (without_current k o)
passive_without ver k None h = tt
passive_without ver k (Some c) h = go (is_key (node_key c.key) k)
  where
    go : (b : Bool) → ArePassive ver (if b then None else Some c)
    go true = tt
    go false = h

passive_by : (ver : LogVersion) (r : LogRec) (o : Option Current) → IsShaped ver r → ArePassive ver o → ArePassive ver (current_by r o)
passive_by ver (LogRec.Boot n) o h i = i
passive_by ver (LogRec.Ready n k s cs) o h i = passive_ready ver k s cs None h.0 h.1
passive_by ver (LogRec.Heuristic n k u) None h i = tt
passive_by ver (LogRec.Heuristic n k u) (Some c) h i = record { fit = record { under = i.fit.under; few = i.fit.few }; passive = i.passive }
passive_by ver (LogRec.Commit n k s cs) o h i = passive_commit ver (key_in_log k s) cs (decision_of o) h.1
passive_by ver (LogRec.Damage n k s u r cs) o h i = passive_without ver k o i
passive_by ver (LogRec.End n k u) o h i = passive_without ver k o i

passive_from : (ver : LogVersion) (o : Option Current) (rs : List LogRec) → AreShaped ver rs → ArePassive ver o → ArePassive ver (current_from o rs)
passive_from ver o [] h i = i
passive_from ver o (r ∷ rs) h i = passive_from ver (current_by r o) rs h.1 (passive_by ver r o h.0 i)

kept_shaped : (ver : LogVersion) (ks : List Kept) (rs : List LogRec) → AreShaped ver rs → AreShapedKept ver ks → AreShapedKept ver (kept_from ks rs)
kept_shaped ver ks [] h i = i
kept_shaped ver ks (r ∷ rs) h i =
    kept_shaped ver (kept_by r ks) rs h.1
    (each_after (IsShapedKept ver) (AreShapedKept ver) (each_kept ver) (Some r) ks i (λ n k s o p cs b is. subst (IsShapedOption ver) is h.0))

nothing_more : (n : ℕ) → 0 ≤ n
nothing_more n = omega arith

pub stands_started : (s : Start) → AreShaped s.version s.records → Stands (started s)
unfolding started
stands_started s h = record {
  late = late_started s;
  kept = kept_shaped s.version [] s.records h tt;
  current = λ c now. (one c now).fit;
  room = nothing_more _;
  active = λ c now act. absurd (let off = (one c now).passive in cc (off, act));
  bare = λ off. record { arcs = refl; branches = λ c now act. absurd (let i = (one c now).passive in cc (i, act)) };
}
  where
    one : (c : Current) → current_from None s.records ≡ Some c → IsPassive s.version c
    one c now = subst (ArePassive s.version) now (passive_from s.version None s.records h tt)

-- ---- the records of one node

pub shaped_at : (ver : LogVersion) (n : ℕ) (rs : List LogRec) → AreShaped ver rs → AreShaped ver (records_at n rs)
shaped_at ver n [] h = tt
shaped_at ver n (r ∷ rs) h = go (is_record_at n r) (shaped_at ver n rs h.1)
  where
    go : (b : Bool) → AreShaped ver (records_at n rs) → AreShaped ver (elim b as (λ _. List LogRec) [ true ↦ r ∷ records_at n rs | false ↦ records_at n rs ])
    go true rest = (h.0, rest)
    go false rest = rest

-- ---- a run

record IsKnown (o : Opening) (h : List Entry) (n : ℕ) : Type 0 where
  version : (digest (origin_at o n) h).version ≡ o.version
  stands : Stands (digest (origin_at o n) h)

known_first : (o : Opening) (n : ℕ) → AreShaped o.version o.records → IsKnown o [] n
unfolding started
known_first o n h = record { version = refl; stands = stands_started (origin_at o n).start (shaped_at o.version n o.records h) }

record IsKnownNext (o : Opening) (h : List Entry) (n : ℕ) (y : Entry) : Type 0 where
  known : IsKnown o (y ∷ h) n
  rec : IsShapedOption o.version y.rec

known_next : (o : Opening) (h : List Entry) (n : ℕ) (e : Event) (y : Entry) → (answer (origin_at o n) h e).entry ≡ Some y → IsKnown o h n → IsKnownNext o h n y
known_next o h n e y is k =
    let a : Accepted (origin_at o n) h e y = accepted (origin_at o n) h e y is in
    let m = next_move (origin_at o n).who (digest (origin_at o n) h) a.event a.ok k.stands in
    subst (IsKnownNext o h n) (sym a.is) (record {
      known = record { version = m.version ∙ k.version; stands = m.stands };
      rec = subst (λ (v : LogVersion). IsShapedOption v (entry_of (origin_at o n) h a.event).rec) k.version m.rec;
    })

shaped_append : (ver : LogVersion) (xs ys : List LogRec) → AreShaped ver xs → AreShaped ver ys → AreShaped ver (xs ++ ys)
shaped_append ver [] ys h i = i
shaped_append ver (x ∷ xs) ys h i = (h.0, shaped_append ver xs ys h.1 i)

shaped_entry : (ver : LogVersion) (y : Entry) → IsShapedOption ver y.rec → AreShaped ver (entry_record (Some y))
shaped_entry ver y h = go y.rec h
  where
    go : (q : Option LogRec) → IsShapedOption ver q → AreShaped ver (elim q as (λ _. List LogRec) [ None ↦ [] | Some r ↦ r ∷ [] ])
    go None i = tt
    go (Some r) i = (i, tt)

all_known : (o : Opening) (ps : List Past) (n : ℕ) (y : Entry) → ((k : ℕ) → IsKnown o (history_of ps k) k) → IsKnown o (y ∷ history_of ps n) n → (k : ℕ) → IsKnown o (history_of (with_entry ps n (Some y)) k) k
all_known o ps n y before here k = subst (λ (h : List Entry). IsKnown o h k) (sym (past_with ps n (y ∷ history_of ps n) k)) (go (n == k) refl)
  where
    go : (b : Bool) → (n == k) ≡ b → IsKnown o (chosen b (y ∷ history_of ps n) (history_of ps k)) k
    go true i = let same : n ≡ k = grind (arith, nat_tests, i) in subst (λ (m : ℕ). IsKnown o (y ∷ history_of ps n) m) same here
    go false i = before k

run_shaped : (o : Opening) (gs : List Given) (ps : List Past) → ((k : ℕ) → IsKnown o (history_of ps k) k) → AreShaped o.version (run_from o ps gs).log
run_shaped o [] ps known = tt
run_shaped o (g ∷ gs) ps known = go (asked o g) refl (run_shaped o gs)
  where
    go : (a : AskedEvent) → asked o g ≡ a → ((qs : List Past) → ((k : ℕ) → IsKnown o (history_of qs k) k) → AreShaped o.version (run_from o qs gs).log) → AreShaped o.version (run_from o ps (g ∷ gs)).log
    go (Refuses n) i rest = subst (λ (r : NodeRun). AreShaped o.version r.log) (sym (run_step o ps g gs (Refuses n) i)) (rest ps known)
    go (Is n e) i rest = subst (λ (r : NodeRun). AreShaped o.version r.log) (sym (run_step o ps g gs (Is n e) i)) (entered (given o ps n e).entry refl)
      where
        entered : (y : Option Entry) → (given o ps n e).entry ≡ y → AreShaped o.version (entry_record y ++ (run_from o (with_entry ps n y) gs).log)
        entered None is = rest ps known
        entered (Some y) is =
            let next : IsKnownNext o (history_of ps n) n y = known_next o (history_of ps n) n e y is (known n) in
            shaped_append o.version (entry_record (Some y)) (run_from o (with_entry ps n (Some y)) gs).log (shaped_entry o.version y next.rec) (rest (with_entry ps n (Some y)) (all_known o ps n y known next.known))

pub records_shaped : (o : Opening) (gs : List Given) → AreShaped o.version o.records → AreShaped o.version (log_after o gs)
records_shaped o gs h =
    shaped_append o.version o.records (LogRec.Boot (boot_of o) ∷ (run_from o [] gs).log) h
    (tt, run_shaped o gs [] (λ k. known_first o k h))
