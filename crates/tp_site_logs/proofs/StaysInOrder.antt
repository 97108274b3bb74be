-- A site that starts on a log in order keeps it in order, whatever events it is given.
use Rattle.tp_site_logs.proofs.Vocabulary.{◌≡◌, ◌≤◌, ◌==◌, ◌++◌, ℕ, Bool, true, false, cond, refl, ap, sym, ◌∙◌, subst, arith, Option, Some, None, List, [], ◌∷◌, reverse, nat_tests, append-nil, append_assoc, reverse-append, both, Addr, LogRec, all_follow, Origin, Event, Entry, Digest, refusal, verdict, started, digest, refuse, entry_of, answer, records, with_rec, IsGrown, records_at, IsSoundStart}
use Rattle.std.proofs.lemmas.List.{reverse-reverse}
use Rattle.tp_names.specs.Same.{is_name}
use Rattle.tp_records.specs.declared.body.Event.{Event as Given}
use Rattle.tp_records.specs.declared.peer.PeerRecord.{PeerRecord}
use Rattle.tp_records.specs.BodyReading.{peer_in}
use Rattle.tp_model.specs.Parts.{Who}
use Rattle.tp_model.specs.Questions.{is_crash}
use Rattle.tp_model.specs.NodeRun.{Opening, boot_of, origin_at, Past, history_of, Refuses, Is, asked, entry_record, with_entry, run_from, NodeRun, log_after, AskedEvent}
use Rattle.tp_steps.proofs.every.Answers.{Accepted, accepted}
use Rattle.tp_histories.proofs.known.KnownPlain.{plain_law}
use Rattle.tp_runs.proofs.Lanes.{chosen, past_with, given, run_step}
use Rattle.tp_site_logs.specs.SiteLogs.{only_branches_vote, is_in_order, HistoriesAreLegal}
use Rattle.tp_site_logs.proofs.Logged.{IsLog, log_more, log_kept, log_booted, votes_append}
use Rattle.tp_site_logs.proofs.NextRecord.{IsNext, next_record}
use Rattle.tp_site_logs.proofs.Openings.{next_above, sound_opening}
use Rattle.tp_site_logs.proofs.Tells.{same_boot}
use Rattle.tp_site_logs.proofs.EveryLog.{calm_answer}
use Rattle.tp_site_logs.proofs.Votes.{IsVote, vote_entry}

-- ---- a history that is given events

-- it grew under a superior; while the node is not declared, under any
pub record Grows (o : Origin) (h : List Entry) : Type 0 where
  pub superior : Option Addr
  pub grown : IsGrown o superior h
  pub free : (digest o h).declared ≡ false → (up : Option Addr) → IsGrown o up h
  pub boot : (digest o h).boot ≡ o.start.boot

undeclared : (who : Who) (d : Digest) (s : Option Addr) → refusal who d (Event.Declare s) ≡ None → d.declared ≡ false
unfolding refusal verdict
undeclared who d s ok = grind (arith, ok)

pub grows_none : (o : Origin) → Grows o []
unfolding started
grows_none o = record { superior = None; grown = tt; free = λ off up. tt; boot = refl }

grows_one : (o : Origin) (h : List Entry) (e : Event) → Grows o h → refuse o h e ≡ None → is_crash e ≡ false → Grows o (entry_of o h e ∷ h)
grows_one o h (Event.Declare s) g ok calm =
    let grown : IsGrown o s (entry_of o h (Event.Declare s) ∷ h) = (ok, refl, refl, g.free (undeclared o.who (digest o h) s ok) s) in
    record {
      superior = s;
      grown = grown;
      free = λ off up. absurd (let on : (digest o (entry_of o h (Event.Declare s) ∷ h)).declared ≡ true = (plain_law o s (entry_of o h (Event.Declare s) ∷ h) grown).declared in cc (on, off));
      boot = same_boot o s h (entry_of o h (Event.Declare s)) grown calm ∙ g.boot;
    }
grows_one o h Event.Crash g ok calm = absurd (cc (calm))
grows_one o h e g ok calm =
    let grown : IsGrown o g.superior (entry_of o h e ∷ h) = (ok, refl, tt, g.grown) in
    record {
      superior = g.superior;
      grown = grown;
      free = λ off up. (ok, refl, tt, g.free ((plain_law o g.superior h g.grown).declared ∙ sym (plain_law o g.superior (entry_of o h e ∷ h) grown).declared ∙ off) up);
      boot = same_boot o g.superior h (entry_of o h e) grown calm ∙ g.boot;
    }

grows_entry : (o : Origin) (h : List Entry) (e : Event) (y : Entry) → Grows o h → is_crash e ≡ false → (answer o h e).entry ≡ Some y → Grows o (y ∷ h)
grows_entry o h e y g calm is =
    let a : Accepted o h e y = accepted o h e y is in
    let quiet : is_crash a.event ≡ false = ap (λ (z : Entry). is_crash z.event) (sym a.is) ∙ calm_answer o h e y calm is in
    subst (λ (z : Entry). Grows o (z ∷ h)) (sym a.is) (grows_one o h a.event g a.ok quiet)

-- ---- all histories of a site, and its log

abbrev pub forced_of : Opening → List Past → ℕ → List LogRec
forced_of o ps n = reverse (records (origin_at o n) (history_of ps n))

pub record IsRun (o : Opening) (ps : List Past) (list : List LogRec) : Type 0 where
  pub log : IsLog (forced_of o ps) (boot_of o) list
  pub votes : only_branches_vote list ≡ true
  pub grows : (n : ℕ) → Grows (origin_at o n) (history_of ps n)

-- an event of one node
pub run_one : (o : Opening) (ps : List Past) (list : List LogRec) (n : ℕ) (e : Event) (y : Entry) → ((k : ℕ) → IsSoundStart (origin_at o k)) → is_crash e ≡ false → (given o ps n e).entry ≡ Some y → IsRun o ps list
    → IsRun o (with_entry ps n (Some y)) (list ++ entry_record (Some y))
run_one o ps list n e y sound calm is run = go y.rec refl
  where
    h : List Entry
    h = history_of ps n

    now : List Past
    now = with_entry ps n (Some y)

    mine : Grows (origin_at o n) (y ∷ h)
    mine = grows_entry (origin_at o n) h e y (run.grows n) calm is

    grows : (k : ℕ) (b : Bool) → (n == k) ≡ b → Grows (origin_at o k) (chosen b (y ∷ h) (history_of ps k))
    grows k true b = let same : n ≡ k = grind (arith, nat_tests, b) in subst (λ (m : ℕ). Grows (origin_at o m) (y ∷ h)) same mine
    grows k false b = run.grows k

    all_grow : (k : ℕ) → Grows (origin_at o k) (history_of now k)
    all_grow k = subst (Grows (origin_at o k)) (sym (past_with ps n (y ∷ h) k)) (grows k (n == k) refl)

    looks : (k : ℕ) (b : Bool) → (n == k) ≡ b → forced_of o now k ≡ cond b (reverse (with_rec y.rec (records (origin_at o n) h))) (forced_of o ps k)
    looks k b i = ap (λ (l : List Entry). reverse (records (origin_at o k) l)) (past_with ps n (y ∷ h) k) ∙ at b i
      where
        at : (b : Bool) → (n == k) ≡ b → reverse (records (origin_at o k) (chosen (n == k) (y ∷ h) (history_of ps k))) ≡ cond b (reverse (with_rec y.rec (records (origin_at o n) h))) (forced_of o ps k)
        at true i =
            let same : n ≡ k = grind (arith, nat_tests, i) in
            ap (λ (c : Bool). reverse (records (origin_at o k) (chosen c (y ∷ h) (history_of ps k)))) i ∙ ap (λ (m : ℕ). reverse (records (origin_at o m) (y ∷ h))) (sym same)
        at false i = ap (λ (c : Bool). reverse (records (origin_at o k) (chosen c (y ∷ h) (history_of ps k)))) i

    kept : y.rec ≡ None → (k : ℕ) (b : Bool) → (n == k) ≡ b → forced_of o now k ≡ forced_of o ps k
    kept none k true i =
        let same : n ≡ k = grind (arith, nat_tests, i) in
        looks k true i ∙ ap (λ (r : Option LogRec). reverse (with_rec r (records (origin_at o n) h))) none ∙ ap (forced_of o ps) same
    kept none k false i = looks k false i

    more : (r : LogRec) → y.rec ≡ Some r → (k : ℕ) → forced_of o now k ≡ cond (n == k) (forced_of o ps n ++ r ∷ []) (forced_of o ps k)
    more r made k =
        looks k (n == k) refl
        ∙ ap (λ (l : List LogRec). cond (n == k) l (forced_of o ps k)) (ap (λ (q : Option LogRec). reverse (with_rec q (records (origin_at o n) h))) made ∙ reverse-append (r ∷ []) (records (origin_at o n) h))

    go : (q : Option LogRec) → y.rec ≡ q → IsRun o now (list ++ elim q as (λ _. List LogRec) [ None ↦ [] | Some r ↦ r ∷ [] ])
    go None none = record {
      log = subst (IsLog (forced_of o now) (boot_of o)) (sym (append-nil list)) (log_kept (forced_of o ps) (forced_of o now) (boot_of o) list run.log (λ k. kept none k (n == k) refl));
      votes = ap only_branches_vote (append-nil list) ∙ run.votes;
      grows = all_grow;
    }
    go (Some r) made =
        let next : IsNext n (boot_of o) (forced_of o ps n) r = next_record (origin_at o n) mine.superior h y r (boot_of o) (sound n) mine.grown made (at_most (digest (origin_at o n) (y ∷ h)).boot (boot_of o) mine.boot) in
        record {
          log = log_more (forced_of o ps) (forced_of o now) (boot_of o) n list r run.log next.own next.fits (more r made);
          votes = votes_append list r run.votes (subst IsVote made (vote_entry (origin_at o n) mine.superior h y mine.grown));
          grows = all_grow;
        }
      where
        at_most : (a b : ℕ) → a ≡ b → a ≤ b
        at_most a b h = omega (arith, h)

-- ---- what a site is given

pub calm_given : (o : Opening) (g : Given) (n : ℕ) (e : Event) → asked o g ≡ Is n e → is_crash e ≡ false
calm_given o (Given.Arrive from to octets) n e h = arrived (peer_in octets) (is_name to.site o.site) h
  where
    arrived : (r : Option PeerRecord) (b : Bool) → (elim r as (λ _. AskedEvent) [ None ↦ Refuses 25 | Some x ↦ elim b as (λ _. AskedEvent) [ true ↦ Is to.node (Event.Arrive from x) | false ↦ Refuses 23 ] ]) ≡ Is n e → is_crash e ≡ false
    arrived None b k = absurd (cc (k))
    arrived (Some x) true k = let same : Event.Arrive from x ≡ e = cc (k) in ap is_crash (sym same)
    arrived (Some x) false k = absurd (cc (k))
calm_given o (Given.Declare m s) n e h = let same : Event.Declare s ≡ e = cc (h) in ap is_crash (sym same)
calm_given o (Given.Do m r) n e h = let same : Event.Do r ≡ e = cc (h) in ap is_crash (sym same)
calm_given o (Given.Lose m p) n e h = let same : Event.Lose p ≡ e = cc (h) in ap is_crash (sym same)
calm_given o (Given.Heur m u) n e h = let same : Event.Heur u ≡ e = cc (h) in ap is_crash (sym same)
calm_given o (Given.GiveUp m p) n e h = let same : Event.GiveUp p ≡ e = cc (h) in ap is_crash (sym same)
calm_given o (Given.Retry m) n e h = let same : Event.Retry ≡ e = cc (h) in ap is_crash (sym same)
calm_given o (Given.Purge m) n e h = let same : Event.Purge ≡ e = cc (h) in ap is_crash (sym same)

all_in_order : (o : Opening) (gs : List Given) (ps : List Past) (list : List LogRec) → ((k : ℕ) → IsSoundStart (origin_at o k)) → IsRun o ps list → is_in_order (list ++ (run_from o ps gs).log) ≡ true
all_in_order o [] ps list sound run = ap is_in_order (append-nil list) ∙ rw (run.log.order, run.votes) refl
all_in_order o (g ∷ gs) ps list sound run = go (asked o g) refl (λ qs l. all_in_order o gs qs l sound)
  where
    go : (a : AskedEvent) → asked o g ≡ a → ((qs : List Past) (l : List LogRec) → IsRun o qs l → is_in_order (l ++ (run_from o qs gs).log) ≡ true) → is_in_order (list ++ (run_from o ps (g ∷ gs)).log) ≡ true
    go (Refuses n) i rest = ap (λ (r : NodeRun). is_in_order (list ++ r.log)) (run_step o ps g gs (Refuses n) i) ∙ rest ps list run
    go (Is n e) i rest = ap (λ (r : NodeRun). is_in_order (list ++ r.log)) (run_step o ps g gs (Is n e) i) ∙ entered (given o ps n e).entry refl
      where
        entered : (y : Option Entry) → (given o ps n e).entry ≡ y → is_in_order (list ++ (entry_record y ++ (run_from o (with_entry ps n y) gs).log)) ≡ true
        entered None is = rest ps list run
        entered (Some y) is =
            ap is_in_order (sym (append_assoc list (entry_record (Some y)) (run_from o (with_entry ps n (Some y)) gs).log))
            ∙ rest (with_entry ps n (Some y)) (list ++ entry_record (Some y)) (run_one o ps list n e y sound (calm_given o g n e i) is run)

pub stays_in_order : (o : Opening) (gs : List Given) → is_in_order o.records ≡ true → is_in_order (log_after o gs) ≡ true
stays_in_order o gs h =
    let p = both (all_follow o.records) (only_branches_vote o.records) h in
    let b : ℕ = boot_of o in
    ap is_in_order (sym (append_assoc o.records (LogRec.Boot b ∷ []) (run_from o [] gs).log))
    ∙ all_in_order o gs [] (o.records ++ LogRec.Boot b ∷ []) (λ n. sound_opening o n p.0 p.1) (record {
      log = log_booted (λ n. records_at n o.records) (forced_of o []) b o.records (next_above o.records p.0) p.0 (λ k. refl) (λ k. reverse-reverse (records_at k o.records));
      votes = votes_append o.records (LogRec.Boot b) p.1 refl;
      grows = λ n. grows_none (origin_at o n);
    })

-- ---- and each history is one that a node can have

all_grown : (o : Opening) (gs : List Given) (ps : List Past) → ((n : ℕ) → Grows (origin_at o n) (history_of ps n)) → (n : ℕ) → Grows (origin_at o n) (history_of (run_from o ps gs).pasts n)
all_grown o [] ps grow n = grow n
all_grown o (g ∷ gs) ps grow n = go (asked o g) refl (λ qs h. all_grown o gs qs h n)
  where
    go : (a : AskedEvent) → asked o g ≡ a → ((qs : List Past) → ((m : ℕ) → Grows (origin_at o m) (history_of qs m)) → Grows (origin_at o n) (history_of (run_from o qs gs).pasts n)) → Grows (origin_at o n) (history_of (run_from o ps (g ∷ gs)).pasts n)
    go (Refuses k) i rest = subst (λ (r : NodeRun). Grows (origin_at o n) (history_of r.pasts n)) (sym (run_step o ps g gs (Refuses k) i)) (rest ps grow)
    go (Is m e) i rest = subst (λ (r : NodeRun). Grows (origin_at o n) (history_of r.pasts n)) (sym (run_step o ps g gs (Is m e) i)) (entered (given o ps m e).entry refl)
      where
        entered : (y : Option Entry) → (given o ps m e).entry ≡ y → Grows (origin_at o n) (history_of (run_from o (with_entry ps m y) gs).pasts n)
        entered None is = rest ps grow
        entered (Some y) is = rest (with_entry ps m (Some y)) (λ k. subst (Grows (origin_at o k)) (sym (past_with ps m (y ∷ history_of ps m) k)) (more k (m == k) refl))
          where
            mine : Grows (origin_at o m) (y ∷ history_of ps m)
            mine = grows_entry (origin_at o m) (history_of ps m) e y (grow m) (calm_given o g m e i) is

            more : (k : ℕ) (b : Bool) → (m == k) ≡ b → Grows (origin_at o k) (chosen b (y ∷ history_of ps m) (history_of ps k))
            more k true b = let same : m ≡ k = grind (arith, nat_tests, b) in subst (λ (j : ℕ). Grows (origin_at o j) (y ∷ history_of ps m)) same mine
            more k false b = grow k

pub are_legal : (o : Opening) (gs : List Given) → HistoriesAreLegal o gs
are_legal o gs n =
    let g : Grows (origin_at o n) (history_of (run_from o [] gs).pasts n) = all_grown o gs [] (λ m. grows_none (origin_at o m)) n in
    (g.superior, g.grown, λ start. record { start = start; grown = g.grown })
