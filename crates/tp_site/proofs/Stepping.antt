-- What a site has come to after one event more.
use Rattle.std.proofs.Common.{◌≡◌, ◌==◌, ℕ, Bool, true, false, refl, ap, sym, ◌∙◌, subst, cond, arith, Option, Some, None, List, [], ◌∷◌, ◌++◌, Result, Ok, Err, inl, inr, map}
use Rattle.std.proofs.lemmas.Bool.Decides.{nat_tests}
use Rattle.std.proofs.lemmas.List.{append_assoc, append-nil, map-append}
use Rattle.tp_logrec.specs.declared.record.LogRec.{LogRec}
use Rattle.tp_records.specs.declared.body.Event.{Event as Given}
use Rattle.tp_records.specs.declared.body.Output.{Output}
use Rattle.tp_model.specs.Parts.{Who, Origin, Event, Entry, Digest, Verdict, Answer as Told}
use Rattle.tp_model.specs.Events.{action, verdict}
use Rattle.tp_model.specs.History.{digest, answer, entry_of}
use Rattle.tp_model.specs.Node.{Move}
use Rattle.tp_model.specs.Refusal.{number_in, number_of}
use Rattle.tp_model.specs.NodeRun.{Opening, Refuses as Not_asked, Is, asked, node_of, origin_at, boot_of, history_of, with_entry, entry_record, entry_outputs, outputs_of, refusal_of, NodeRun, run_from, log_after, AskedEvent}
use Rattle.tp_journal.specs.declared.receipts.Receipt.{Receipt}
use Rattle.tp_journal.specs.declared.faults.ForceFault.{ForceFault}
use Rattle.tp_journal.specs.declared.faults.ForceFault.TheVariants as force
use Rattle.tp_journal.specs.Keeping.{Standing}
use Rattle.tp_journal.specs.Records.{version_of}
use Rattle.tp_site.specs.declared.faults.SiteFault.{SiteFault}
use Rattle.tp_site.specs.declared.site.Played.{Played}
use Rattle.tp_site.specs.Nodes.{who_at}
use Rattle.tp_node.specs.NodeEvent.{Answer, Refuses, Happens, answer_at}
use Rattle.tp_site.specs.Site.{Site, IsSame, IsForced, IsUnforced, IsPlayed, IsHalted, rec_of, known_at}
use Rattle.tp_site.specs.Events.{opening_at, rec_asked, given_out, Gives, Declines, PlaysAsked, kept_records, history_at, IsAt, answer_asked, answer_after, outputs_after, record_of, record_after, IsStepped, IsStopped, StepsTo}
use Rattle.tp_site.proofs.Entries.{IsGained, has_gained, IsTurnedDown, turned_down}
use Rattle.tp_site.proofs.Runs.{history_grown, asked_at, asked_by_name, outputs_by_name, run_asked, joined, run_next}

-- ---- the record of an event

abbrev told_by : Origin → List Entry → Event → Verdict → Told
told_by o h e v = elim v as (λ _. Told) [
  | Verdict.Accepted ↦ record { number = None; entry = Some (entry_of o h e) }
  | Verdict.Refused n ↦ record { number = Some (number_of n); entry = None }
  | Verdict.Breaks from r ↦ record { number = Some 24; entry = Some (entry_of o h (Event.Break from r)) }
]

abbrev answer_by : Who → Digest → Event → Verdict → Answer
answer_by who d e v = elim v as (λ _. Answer) [
  | Verdict.Accepted ↦ Happens None (action who d e)
  | Verdict.Refused n ↦ Refuses (number_of n)
  | Verdict.Breaks from r ↦ Happens (Some 24) (action who d (Event.Break from r))
]

rec_told : (o : Origin) (h : List Entry) (e : Event) → rec_of (answer_at o.who (digest o h) e) ≡ record_of (answer o h e).entry
rec_told o h e = go (verdict o.who (digest o h) e)
  where
    go : (v : Verdict) → rec_of (answer_by o.who (digest o h) e v) ≡ record_of (told_by o h e v).entry
    go Verdict.Accepted = refl
    go (Verdict.Refused n) = refl
    go (Verdict.Breaks from r) = refl

parted : (a : Told) (number : Option ℕ) (entry : Option Entry) → a.number ≡ number → a.entry ≡ entry → ◌≡◌ {A = Told} a (record { number = number; entry = entry })
parted a number entry i j = rw (← i, ← j) refl

-- ---- the keeper

pub wide_forced : {K : Type 0} (standing : K → Standing) (old new : K) (rec : Option LogRec) → IsForced standing old rec new → (standing new).wide ≡ (standing old).wide
wide_forced standing old new None f = ap (λ k. (standing k).wide) f
wide_forced standing old new (Some r) f = f.1.wide

pub kept_forced : {K : Type 0} (standing : K → Standing) (old new : K) (rec : Option LogRec) → IsForced standing old rec new
    → kept_records (standing new) ≡ kept_records (standing old) ++ elim rec as (λ _. List LogRec) [ None ↦ [] | Some r ↦ r ∷ [] ]
kept_forced standing old new None f = ap (λ k. kept_records (standing k)) f ∙ sym (append-nil (kept_records (standing old)))
kept_forced standing old new (Some r) f =
    ap (λ (l : List Receipt). map (λ (x : Receipt). x.rec) l) f.1.kept
    ∙ map-append (λ (x : Receipt). x.rec) (standing old).kept (f.0 ∷ [])
    ∙ ap (λ (x : LogRec). kept_records (standing old) ++ x ∷ []) f.1.same

-- nothing was forced
abbrev IsKeptSo : Standing → Standing → Type 0
IsKeptSo old new = (new.kept ≡ old.kept) × (new.wide ≡ old.wide)

kept_unforced : {K : Type 0} (standing : K → Standing) (old new : K) (rec : Option LogRec) (fault : ForceFault) → IsUnforced standing old rec fault new → IsKeptSo (standing old) (standing new)
kept_unforced standing old new None fault u = absurd u
kept_unforced standing old new (Some r) (force.Full size) u = (u.0.kept, u.0.wide)
kept_unforced standing old new (Some r) (force.DiskFault n) u = (u.0.kept, u.0.wide)
kept_unforced standing old new (Some r) (force.Shut n) u = (u.0.kept, u.0.wide)
kept_unforced standing old new (Some r) force.NoMemory u = (ap (λ (s : Standing). s.kept) u, ap (λ (s : Standing). s.wide) u)

-- ---- the site, where nothing of the event is so

stays : {K : Type 0} (standing : K → Standing) (mine : ℕ → Bool) (o : Opening) (gs : List Given) (old new : Site K) → IsAt standing mine o gs old → IsSame old new → IsKeptSo (standing old.keeper) (standing new.keeper)
    → IsAt standing mine o gs new
stays standing mine o gs old new at same kept = record {
  site = same.site.site ∙ at.site;
  boot = same.site.boot ∙ at.boot;
  version = same.site.version ∙ at.version;
  wide = ap version_of kept.1 ∙ at.wide;
  known = λ n own. same.known n ∙ at.known n own;
  kept = ap (λ (l : List Receipt). map (λ (x : Receipt). x.rec) l) kept.0 ∙ at.kept;
}

-- one event more, of which nothing is so
passes : {K : Type 0} (standing : K → Standing) (mine : ℕ → Bool) (o : Opening) (gs hs : List Given) (s : Site K) → (run_from o [] hs).pasts ≡ (run_from o [] gs).pasts → (run_from o [] hs).log ≡ (run_from o [] gs).log → IsAt standing mine o gs s
    → IsAt standing mine o hs s
passes standing mine o gs hs s pasts log at = record {
  site = at.site;
  boot = at.boot;
  version = at.version;
  wide = at.wide;
  known = λ n own. at.known n own ∙ ap (λ ps. digest (origin_at o n) (history_of ps n)) (sym pasts);
  kept = at.kept ∙ ap (λ (l : List LogRec). o.records ++ LogRec.Boot (boot_of o) ∷ l) (sym log);
}

-- ---- the site, where the event has happened

record Next {K : Type 0} (standing : K → Standing) (mine : ℕ → Bool) (o : Opening) (gs : List Given) (old : Site K) (g : Given) (n : ℕ) (e : Event) : Type 0 where
  at : IsAt standing mine o gs old
  own : mine n ≡ true
  is : asked o g ≡ Is n e
  node : node_of g ≡ n

module _ {K : Type 0} (standing : K → Standing) (mine : ℕ → Bool) (o : Opening) (gs : List Given) (old : Site K) (g : Given) (n : ℕ) (e : Event) (next : Next standing mine o gs old g n e) where
  h : List Entry
  h = history_at o gs n

  answered : answer_at (who_at old.nodes n) (known_at old n) e ≡ answer_at (origin_at o n).who (digest (origin_at o n) h) e
  unfolding h
  answered =
      ap (λ (s : List ℕ). answer_at (record { site = s; node = n }) (known_at old n) e) next.at.site
      ∙ ap (λ (d : Digest). answer_at (origin_at o n).who d e) (next.at.known n next.own)

  told : answer_after o gs g ≡ answer (origin_at o n) h e
  unfolding h
  told = ap (answer_asked o gs) next.is

  recorded : rec_of (answer_at (who_at old.nodes n) (known_at old n) e) ≡ record_after o gs g
  unfolding h
  recorded = ap rec_of answered ∙ rec_told (origin_at o n) h e ∙ ap (λ (a : Told). record_of a.entry) (sym told)

  halted : (fault : ForceFault) (new : Site K) → IsHalted standing old n e fault new → IsStopped standing mine o gs old g fault new
  halted fault new x = record {
    at = stays standing mine o gs old new next.at x.same (kept_unforced standing old.keeper new.keeper (rec_of (answer_at (who_at old.nodes n) (known_at old n) e)) fault x.unforced);
    unforced = subst (λ (r : Option LogRec). IsUnforced standing old.keeper r fault new.keeper) recorded x.unforced;
    open_before = x.open_before;
  }

  -- the run, with one entry more
  ran : run_from o [] (gs ++ g ∷ []) ≡ joined (run_from o [] gs) (run_asked o (run_from o [] gs).pasts (Is n e) [])
  ran = run_next o gs g (Is n e) next.is

  module _ (p : Played) (m : Move) (new : Site K) (x : IsPlayed standing old n e p new m) where
    gained : IsGained (origin_at o n) h e (number_in p.refusal) m
    gained = has_gained (origin_at o n) h e (number_in p.refusal) m (sym answered ∙ x.answer)

    histories : (k : ℕ) → history_at o (gs ++ g ∷ []) k ≡ cond (n == k) (gained.entry ∷ history_at o gs n) (history_at o gs k)
    unfolding h
    histories k =
        ap (λ (r : NodeRun). history_of r.pasts k) ran
        ∙ ap (λ (y : Option Entry). history_of (with_entry (run_from o [] gs).pasts n y) k) gained.entry_is
        ∙ history_grown (run_from o [] gs).pasts n gained.entry k

    known : (k : ℕ) → mine k ≡ true → known_at new k ≡ digest (origin_at o k) (history_at o (gs ++ g ∷ []) k)
    unfolding h
    known k own = x.known k ∙ by (n == k) refl ∙ ap (digest (origin_at o k)) (sym (histories k))
      where
        by : (b : Bool) → (n == k) ≡ b → cond b m.next (known_at old k) ≡ digest (origin_at o k) (cond b (gained.entry ∷ history_at o gs n) (history_at o gs k))
        by true i = let same : n ≡ k = grind (arith, nat_tests, i) in sym gained.next ∙ ap (λ (j : ℕ). digest (origin_at o j) (gained.entry ∷ history_at o gs n)) same
        by false i = next.at.known k own

    log : (run_from o [] (gs ++ g ∷ [])).log ≡ (run_from o [] gs).log ++ entry_record (Some gained.entry)
    unfolding h
    log =
        ap (λ (r : NodeRun). r.log) ran
        ∙ ap (λ (y : Option Entry). (run_from o [] gs).log ++ (entry_record y ++ [])) gained.entry_is
        ∙ ap (λ (l : List LogRec). (run_from o [] gs).log ++ l) (append-nil (entry_record (Some gained.entry)))

    kept : kept_records (standing new.keeper) ≡ log_after o (gs ++ g ∷ [])
    kept =
        kept_forced standing old.keeper new.keeper m.rec x.forced
        ∙ ap (λ (l : List LogRec). l ++ elim m.rec as (λ _. List LogRec) [ None ↦ [] | Some r ↦ r ∷ [] ]) next.at.kept
        ∙ append_assoc o.records (LogRec.Boot (boot_of o) ∷ (run_from o [] gs).log) (elim m.rec as (λ _. List LogRec) [ None ↦ [] | Some r ↦ r ∷ [] ])
        ∙ ap (λ (q : Option LogRec). o.records ++ LogRec.Boot (boot_of o) ∷ ((run_from o [] gs).log ++ elim q as (λ _. List LogRec) [ None ↦ [] | Some r ↦ r ∷ [] ])) (sym gained.rec)
        ∙ ap (λ (l : List LogRec). o.records ++ LogRec.Boot (boot_of o) ∷ l) (sym log)

    outputs : (outs : List Output) → outs ≡ given_out old.nodes.site n (number_in p.refusal) p.outs → outs ≡ outputs_after o gs g
    outputs outs same =
        same
        ∙ ap (λ (s : List ℕ). given_out s n (number_in p.refusal) p.outs) next.at.site
        ∙ ap (λ (l : List Output). refusal_of (number_in p.refusal) ++ l) (outputs_by_name o n p.outs ∙ ap (outputs_of o n) (x.outs ∙ sym gained.outs) ∙ ap (λ (j : ℕ). outputs_of o j gained.entry.outs) (sym next.node))
        ∙ ap (λ (a : Told). refusal_of a.number ++ entry_outputs o (node_of g) a.entry) (sym answer_is)
      where
        answer_is : ◌≡◌ {A = Told} (answer_after o gs g) (record { number = (number_in p.refusal); entry = Some gained.entry })
        answer_is = told ∙ parted (answer (origin_at o n) h e) (number_in p.refusal) (Some gained.entry) gained.number_is gained.entry_is

    record_is : m.rec ≡ record_after o gs g
    record_is = sym gained.rec ∙ ap record_of (sym gained.entry_is) ∙ ap (λ (a : Told). record_of a.entry) (sym told)

    stepped : (outs : List Output) → outs ≡ given_out old.nodes.site n (number_in p.refusal) p.outs → IsStepped standing mine o gs old g outs new
    stepped outs same = record {
      at = record {
        site = x.site.site ∙ next.at.site;
        boot = x.site.boot ∙ next.at.boot;
        version = x.site.version ∙ next.at.version;
        wide = ap version_of (wide_forced standing old.keeper new.keeper m.rec x.forced) ∙ next.at.wide;
        known = known;
        kept = kept;
      };
      entry = gained.entry;
      happens = ap (λ (a : Told). a.entry) told ∙ gained.entry_is;
      given = outputs outs same;
      forced = subst (λ (r : Option LogRec). IsForced standing old.keeper r new.keeper) record_is x.forced;
      open_before = x.open_before;
      open_after = x.open_after;
    }

  -- it is refused, and the histories stay
  refused : (k : ℕ) (new : Site K) → answer_at (who_at old.nodes n) (known_at old n) e ≡ Refuses k → old.shut ≡ None → new ≡ old
      → StepsTo standing mine o gs old g (Err (SiteFault.Refused k)) new
  unfolding h
  refused k new is unshut same = (
    subst (IsAt standing mine o (gs ++ g ∷ [])) (sym same) (passes standing mine o gs (gs ++ g ∷ []) old pasts log_same next.at),
    told ∙ parted (answer (origin_at o n) h e) (Some k) None turned.number_is turned.entry_is,
    unshut,
    same,
  )
    where
      turned : IsTurnedDown (origin_at o n) h e k
      turned = turned_down (origin_at o n) h e k (sym answered ∙ is)

      pasts : (run_from o [] (gs ++ g ∷ [])).pasts ≡ (run_from o [] gs).pasts
      pasts = ap (λ (r : NodeRun). r.pasts) ran ∙ ap (with_entry (run_from o [] gs).pasts n) turned.entry_is

      log_same : (run_from o [] (gs ++ g ∷ [])).log ≡ (run_from o [] gs).log
      log_same =
          ap (λ (r : NodeRun). r.log) ran
          ∙ ap (λ (y : Option Entry). (run_from o [] gs).log ++ (entry_record y ++ [])) turned.entry_is
          ∙ append-nil (run_from o [] gs).log

  gave : (result : Result (List Output) SiteFault) (new : Site K) → Gives standing old n e result new → StepsTo standing mine o gs old g result new
  gave (Ok outs) new x = stepped x.0 x.1.0 new x.1.1 outs x.2
  gave (Err (SiteFault.Refused k)) new x = refused k new x.0 x.1 x.2
  gave (Err (SiteFault.Full size)) new x = (halted (force.Full size) new x.0, x.1)
  gave (Err (SiteFault.DiskFault faults)) new x = (halted (force.DiskFault faults) new x.0, x.1)
  gave (Err (SiteFault.Shut faults)) new x = elim x [ inl y ↦ inl (subst (IsAt standing mine o gs) (sym y.1) next.at, y.0, y.1) | inr y ↦ inr (halted (force.Shut faults) new y.0, y.1) ]
  gave (Err SiteFault.NoMemory) new x = (stays standing mine o gs old new next.at x.0 (ap (λ (s : Standing). s.kept) x.1, ap (λ (s : Standing). s.wide) x.1), x.1, x.2, x.3)

-- ---- what is refused before any node is asked

refused_by : (k n : ℕ) → k ≡ n → ◌≡◌ {A = Told} (record { number = Some k; entry = None }) (record { number = Some n; entry = None })
refused_by k n same = rw same refl

declined : {K : Type 0} (standing : K → Standing) (mine : ℕ → Bool) (o : Opening) (gs : List Given) (old : Site K) (g : Given) (k : ℕ) (result : Result (List Output) SiteFault) (new : Site K) → IsAt standing mine o gs old → asked o g ≡ Not_asked k
    → Declines old k result new → StepsTo standing mine o gs old g result new
declined standing mine o gs old g k (Ok outs) new at i x = absurd x
declined standing mine o gs old g k (Err (SiteFault.Refused n)) new at i x = (
  subst (IsAt standing mine o (gs ++ g ∷ [])) (sym x.2) (passes standing mine o gs (gs ++ g ∷ []) old pasts log at),
  ap (answer_asked o gs) i ∙ refused_by k n (sym x.0),
  x.1,
  x.2,
)
  where
    ran : run_from o [] (gs ++ g ∷ []) ≡ joined (run_from o [] gs) (run_asked o (run_from o [] gs).pasts (Not_asked k) [])
    ran = run_next o gs g (Not_asked k) i

    pasts : (run_from o [] (gs ++ g ∷ [])).pasts ≡ (run_from o [] gs).pasts
    pasts = ap (λ (r : NodeRun). r.pasts) ran

    log : (run_from o [] (gs ++ g ∷ [])).log ≡ (run_from o [] gs).log
    log = ap (λ (r : NodeRun). r.log) ran ∙ append-nil (run_from o [] gs).log
declined standing mine o gs old g k (Err (SiteFault.Full size)) new at i x = absurd x
declined standing mine o gs old g k (Err (SiteFault.DiskFault faults)) new at i x = absurd x
declined standing mine o gs old g k (Err (SiteFault.Shut faults)) new at i x = inl (subst (IsAt standing mine o gs) (sym x.1) at, x.0, x.1)
declined {K} standing mine o gs old g k (Err SiteFault.NoMemory) new at i x = (
  subst (IsAt standing mine o gs) (sym x.1) at,
  ap (λ (s : Site K). standing s.keeper) x.1,
  x.0,
  ap (λ (s : Site K). s.shut) x.1 ∙ x.0,
)

-- the site has come to where the run has
pub stepping : {K : Type 0} (standing : K → Standing) (mine : ℕ → Bool) (o : Opening) (gs : List Given) (old : Site K) (g : Given) (result : Result (List Output) SiteFault) (new : Site K) → IsAt standing mine o gs old → mine (node_of g) ≡ true
    → PlaysAsked standing old (asked (opening_at old.nodes.site) g) result new → StepsTo standing mine o gs old g result new
stepping {K} standing mine o gs old g result new at own plays = go (asked o g) refl (subst (λ (a : AskedEvent). PlaysAsked standing old a result new) (ap (λ (s : List ℕ). asked (opening_at s) g) at.site ∙ asked_by_name o g) plays)
  where
    go : (a : AskedEvent) → asked o g ≡ a → PlaysAsked standing old a result new → StepsTo standing mine o gs old g result new
    go (Not_asked k) i x = declined standing mine o gs old g k result new at i x
    go (Is n e) i x =
        let node : node_of g ≡ n = asked_at o g n e i in
        gave standing mine o gs old g n e (record { at = at; own = subst (λ (j : ℕ). mine j ≡ true) node own; is = i; node = node }) result new x

-- the record that an event asks for is that of the run
pub record_is_asked : {K : Type 0} (standing : K → Standing) (mine : ℕ → Bool) (o : Opening) (gs : List Given) (old : Site K) (g : Given) → IsAt standing mine o gs old → mine (node_of g) ≡ true
    → rec_asked old (asked (opening_at old.nodes.site) g) ≡ record_after o gs g
record_is_asked standing mine o gs old g at own =
    ap (λ (s : List ℕ). rec_asked old (asked (opening_at s) g)) at.site ∙ ap (rec_asked old) (asked_by_name o g) ∙ go (asked o g) refl
  where
    go : (a : AskedEvent) → asked o g ≡ a → rec_asked old a ≡ record_after o gs g
    go (Not_asked k) i = ap (λ (b : AskedEvent). record_of (answer_asked o gs b).entry) (sym i)
    go (Is n e) i =
        let node : node_of g ≡ n = asked_at o g n e i in
        recorded standing mine o gs old g n e (record { at = at; own = subst (λ (j : ℕ). mine j ≡ true) node own; is = i; node = node })

-- ---- a site that is shut

pub shut_asked : {K : Type 0} (standing : K → Standing) (s : Site K) (a : AskedEvent) (n : ℕ) → s.shut ≡ Some n → PlaysAsked standing s a (Err (SiteFault.Shut n)) s
shut_asked standing s (Not_asked k) n is = (is, refl)
shut_asked standing s (Is j e) n is = inl (is, refl)

-- ---- what no call changes of a keeper

abbrev Lasts : Standing → Standing → Type 0
Lasts old new = new.lasting ≡ old.lasting

lasts_forced : {K : Type 0} (standing : K → Standing) (old new : K) (rec : Option LogRec) → IsForced standing old rec new → Lasts (standing old) (standing new)
lasts_forced standing old new None f = ap (λ k. (standing k).lasting) f
lasts_forced standing old new (Some r) f = f.1.lasting

lasts_unforced : {K : Type 0} (standing : K → Standing) (old new : K) (rec : Option LogRec) (fault : ForceFault) → IsUnforced standing old rec fault new → Lasts (standing old) (standing new)
lasts_unforced standing old new None fault u = absurd u
lasts_unforced standing old new (Some r) (force.Full size) u = u.0.lasting
lasts_unforced standing old new (Some r) (force.DiskFault n) u = u.0.lasting
lasts_unforced standing old new (Some r) (force.Shut n) u = u.0.lasting
lasts_unforced standing old new (Some r) force.NoMemory u = ap (λ (s : Standing). s.lasting) u

lasts_same : {K : Type 0} (standing : K → Standing) (old new : Site K) → new ≡ old → Lasts (standing old.keeper) (standing new.keeper)
lasts_same {K} standing old new same = ap (λ (s : Site K). (standing s.keeper).lasting) same

lasts_given : {K : Type 0} (standing : K → Standing) (old : Site K) (n : ℕ) (e : Event) (result : Result (List Output) SiteFault) (new : Site K) → Gives standing old n e result new → Lasts (standing old.keeper) (standing new.keeper)
lasts_given standing old n e (Ok outs) new x = lasts_forced standing old.keeper new.keeper x.1.0.rec x.1.1.forced
lasts_given standing old n e (Err (SiteFault.Refused k)) new x = lasts_same standing old new x.2
lasts_given standing old n e (Err (SiteFault.Full size)) new x = lasts_unforced standing old.keeper new.keeper _ (force.Full size) x.0.unforced
lasts_given standing old n e (Err (SiteFault.DiskFault faults)) new x = lasts_unforced standing old.keeper new.keeper _ (force.DiskFault faults) x.0.unforced
lasts_given standing old n e (Err (SiteFault.Shut faults)) new x = elim x [ inl y ↦ lasts_same standing old new y.1 | inr y ↦ lasts_unforced standing old.keeper new.keeper _ (force.Shut faults) y.0.unforced ]
lasts_given standing old n e (Err SiteFault.NoMemory) new x = ap (λ (s : Standing). s.lasting) x.1

lasts_declined : {K : Type 0} (standing : K → Standing) (old : Site K) (k : ℕ) (result : Result (List Output) SiteFault) (new : Site K) → Declines old k result new → Lasts (standing old.keeper) (standing new.keeper)
lasts_declined standing old k (Ok outs) new x = absurd x
lasts_declined standing old k (Err (SiteFault.Refused n)) new x = lasts_same standing old new x.2
lasts_declined standing old k (Err (SiteFault.Full size)) new x = absurd x
lasts_declined standing old k (Err (SiteFault.DiskFault faults)) new x = absurd x
lasts_declined standing old k (Err (SiteFault.Shut faults)) new x = lasts_same standing old new x.1
lasts_declined standing old k (Err SiteFault.NoMemory) new x = lasts_same standing old new x.1

pub lasts_asked : {K : Type 0} (standing : K → Standing) (old : Site K) (a : AskedEvent) (result : Result (List Output) SiteFault) (new : Site K) → PlaysAsked standing old a result new → Lasts (standing old.keeper) (standing new.keeper)
lasts_asked standing old (Not_asked k) result new x = lasts_declined standing old k result new x
lasts_asked standing old (Is n e) result new x = lasts_given standing old n e result new x
