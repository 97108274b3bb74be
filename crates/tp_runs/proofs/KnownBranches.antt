-- In every legal history the current transaction has the branches on which its Begin was sent, or that its last Ready or
-- Commit names after a crash; and the superior that sent its Begin, or that such a record names.
use Rattle.std.proofs.Common.{◌≡◌, inl, inr, ℕ, suc, Bool, true, false, refl, ap, sym, subst, ◌∙◌, arith, append-nil, Option, Some, None, List, [], ◌∷◌, ◌++◌, ◌||◌, reverse}
use Rattle.std.proofs.lemmas.List.{reverse-reverse}
use Rattle.tp_names.specs.declared.identifiers.Aaid.{Aaid}
use Rattle.tp_names.specs.declared.identifiers.BranchId.{BranchId}
use Rattle.tp_names.specs.declared.identifiers.NodeKey.{NodeKey}
use Rattle.tp_names.specs.declared.identifiers.Addr.{Addr}
use Rattle.tp_names.specs.declared.children.Child.{Child}
use Rattle.tp_names.specs.declared.outcome.Outcome.{Outcome}
use Rattle.tp_names.specs.Same.{is_key, is_addr, is_addr_option}
use Rattle.tp_logrec.specs.declared.record.LogRec.{LogRec}
use Rattle.tp_model.specs.declared.arc.Phase.{Phase}
use Rattle.tp_model.specs.Parts.{Origin, Event, Entry, Key, Root, Under, Branch, Current, Digest}
use Rattle.tp_model.specs.Dialogues.{is_active}
use Rattle.tp_model.specs.Transactions.{aaid_of, node_key, superior_of}
use Rattle.tp_model.specs.Node.{Move, fresh_current}
use Rattle.tp_model.specs.Events.{fresh_branches, recovered_current, recovered, key_in_log, current_in_log, decision_of, without_current, current_by, current_from, action}
use Rattle.tp_model.specs.History.{digest, with_rec, records, again, crashed}
use Rattle.tp_model.specs.Questions.{is_crash, boot_in, drawn_in}
use Rattle.tp_model.specs.Outcomes.{rolls, is_unchanged}
use Rattle.tp_model.specs.Keys.{logs_of, takes_begin, begins, begun_children, named_children, branches_in, sender_of, named_superior, superior_since, superior_for}
use Rattle.tp_model.specs.Consistency.{all_children}
use Rattle.tp_histories.specs.KnownTests.{same_list}
use Rattle.tp_logrec.specs.Order.{is_child}
use Rattle.tp_model.specs.Legal.{IsLegal}
use Rattle.tp_steps.specs.Moves.{prelude}
use Rattle.tp_steps.specs.Steps.{first_begin}
use Rattle.tp_runs.specs.Known.{above_agrees, branches_agree}
use Rattle.tp_steps.proofs.log.TurnLog.{key_self}
use Rattle.tp_histories.proofs.log.SoundLog.{from_newest}
use Rattle.tp_histories.proofs.log.RestartLog.{restart}
use Rattle.tp_histories.proofs.log.WellLog.{founded_by, kin_fresh}
use Rattle.tp_steps.proofs.log.KinTurns.{kin}
use Rattle.tp_steps.proofs.every.Course.{PhaseStep, tree_at, branch_at, Course, Free, Held, Closed, Grew, Rooted, tells_rolled, children_none, some_same}
use Rattle.tp_histories.proofs.known.KnownPlain.{plain_law, superior_self}
use Rattle.tp_runs.proofs.KnownForgot.{before_it, children_self, crash_rec}
use Rattle.tp_runs.proofs.KnownDrawn.{First_draws, No_mark, One_mark, first_draws, same_boot, drawn_law, crash_is}
use Rattle.tp_runs.proofs.KnownKeys.{course_entry, crash_next, started_current}
use Rattle.tp_histories.proofs.trees.Entered.{Entered, Crashed, Begun, Plain, entered, begins_peer, begins_none_at, begins_grown, begins_rooted}

-- ---- what the records name

-- of what is current by a log, its branches, and its superior where it has one
abbrev IsNamedBy : List LogRec → Option Current → Type 0
IsNamedBy rs o = (c : Current) → o ≡ Some c → (kin c.branches ≡ named_children (node_key c.key) rs) × (elim (node_key c.key).branch as (λ _. Option Addr) [ None ↦ None | Some b ↦ named_superior (node_key c.key) rs ] ≡ superior_of c.key)

named_logged : (k : NodeKey) (s : Option Addr) (p : Phase) (cs : List Child) (u : Option Outcome) (r : LogRec) (rs : List LogRec) → named_children k (r ∷ rs) ≡ cs → named_superior k (r ∷ rs) ≡ s → IsNamedBy (r ∷ rs) (current_in_log (key_in_log k s) p cs u)
named_logged k s p cs u r rs kids up = go k.branch s refl refl kids up
  where
    go : (b : Option BranchId) (s : Option Addr) → k.branch ≡ b → s ≡ s → named_children (record k { branch = b }) (r ∷ rs) ≡ cs → named_superior (record k { branch = b }) (r ∷ rs) ≡ s → IsNamedBy (r ∷ rs) (current_in_log (key_in_log (record k { branch = b }) s) p cs u)
    go None s i j kids up = λ c is.
        let same : recovered (Root k.aaid) p (fresh_branches cs) u ≡ c = some_same (recovered (Root k.aaid) p (fresh_branches cs) u) c is in
        subst (λ (x : Current). (kin x.branches ≡ named_children (node_key x.key) (r ∷ rs)) × (elim (node_key x.key).branch as (λ _. Option Addr) [ None ↦ None | Some b ↦ named_superior (node_key x.key) (r ∷ rs) ] ≡ superior_of x.key)) same (kin_fresh cs ∙ sym kids, refl)
    go (Some b) None i j kids up = λ c is. absurd (cc (is))
    go (Some b) (Some a) i j kids up = λ c is.
        let same : recovered (Under k.aaid b a) p (fresh_branches cs) u ≡ c = some_same (recovered (Under k.aaid b a) p (fresh_branches cs) u) c is in
        subst (λ (x : Current). (kin x.branches ≡ named_children (node_key x.key) (r ∷ rs)) × (elim (node_key x.key).branch as (λ _. Option Addr) [ None ↦ None | Some b ↦ named_superior (node_key x.key) (r ∷ rs) ] ≡ superior_of x.key)) same (kin_fresh cs ∙ sym kids, up)

named_without : (k : NodeKey) (rs : List LogRec) (o : Option Current) → IsNamedBy rs o → IsNamedBy rs (without_current k o)
named_without k rs None h c is = absurd (cc (is))
named_without k rs (Some x) h c is = h c (grind (arith, is))

named_step : (r : LogRec) (rs : List LogRec) (o : Option Current) → IsNamedBy rs o → IsNamedBy (r ∷ rs) (current_by r o)
named_step (LogRec.Boot n) rs o h = h
named_step (LogRec.Ready n k s cs) rs o h = let self = key_self k in named_logged k (Some s) Phase.Ready cs None (LogRec.Ready n k s cs) rs (rw (self, named_children) refl) (rw (self, named_superior) refl)
named_step (LogRec.Heuristic n k u) rs None h = λ c is. absurd (cc (is))
named_step (LogRec.Heuristic n k u) rs (Some x) h = λ c is.
    let same : ◌≡◌ {A = Current} (record x { decision = Some u }) c = cc (is) in
    subst (λ (y : Current). (kin y.branches ≡ named_children (node_key y.key) rs) × (elim (node_key y.key).branch as (λ _. Option Addr) [ None ↦ None | Some b ↦ named_superior (node_key y.key) rs ] ≡ superior_of y.key)) same (h x refl)
named_step (LogRec.Commit n k s cs) rs o h = let self = key_self k in named_logged k s Phase.Committing cs (decision_of o) (LogRec.Commit n k s cs) rs (rw (self, named_children) refl) (rw (self, named_superior) refl)
named_step (LogRec.Damage n k s u w cs) rs o h = named_without k rs o h
named_step (LogRec.End n k u) rs o h = named_without k rs o h

-- of records, the newest first
named_log : (rs : List LogRec) → IsNamedBy rs (current_from None (reverse rs))
named_log [] = λ c is. absurd (cc (is))
named_log (r ∷ rs) = subst (λ (o : Option Current). IsNamedBy (r ∷ rs) o) (sym (from_newest (Some r) rs)) (named_step r rs (current_from None (reverse rs)) (named_log rs))

-- ---- one history

abbrev pub IsRowed : Origin → List Entry → Current → Type 0
IsRowed o h c = (kin c.branches ≡ branches_in o (node_key c.key) h) × (is_addr_option (superior_of c.key) (superior_for o (node_key c.key) h) ≡ true)

abbrev pub IsFamily : Origin → List Entry → Type 0
IsFamily o h = (c : Current) → (digest o h).current ≡ Some c → IsRowed o h c

family_start : (o : Origin) → IsFamily o []
family_start o c is =
    let back : current_from None (reverse (reverse o.start.records)) ≡ Some c = ap (current_from None) (reverse-reverse o.start.records) ∙ sym (started_current o) ∙ is in
    let n = named_log (reverse o.start.records) c back in
    (n.0, superior_self (superior_of c.key) (superior_for o (node_key c.key) []) (sym n.1))

pub log_current : (o : Origin) (up : Option Addr) (h : List Entry) → IsLegal o up h → current_from None (reverse (records o h)) ≡ recovered_current (digest o h).current
log_current o up h legal = sym (started_current (again o h)) ∙ ap (λ (d : Digest). d.current) (restart o up h (founded_by o up h legal)) ∙ crashed_now o h
  where
    crashed_now : (o : Origin) (h : List Entry) → (digest o (crashed h)).current ≡ recovered_current (digest o h).current
    crashed_now o h = crash_next o (record { event = Event.Crash; rec = None; outs = [] }) h refl

family_crash : (o : Origin) (up : Option Addr) (e : Entry) (h : List Entry) → IsLegal o up (e ∷ h) → is_crash e.event ≡ true → IsFamily o (e ∷ h)
family_crash o up e h legal crash c is =
    let now : recovered_current (digest o h).current ≡ Some c = sym (crash_next o e h crash) ∙ is in
    let none : e.rec ≡ None = crash_rec o h e legal.grown.1 (crash_is e.event crash) in
    let same : records o (e ∷ h) ≡ records o h = ap (λ (r : Option LogRec). with_rec r (records o h)) none in
    let n = named_log (records o h) c (log_current o up h (before_it o up e h legal) ∙ now) in (
      n.0 ∙ ap (named_children (node_key c.key)) (sym same) ∙ rw (crash, branches_in) refl,
      superior_self (superior_of c.key) (superior_for o (node_key c.key) (e ∷ h)) (sym n.1 ∙ over (node_key c.key).branch (ap (named_superior (node_key c.key)) (sym same) ∙ rw (crash, superior_since) refl)),
    )
  where
    over : (b : Option BranchId) → named_superior (node_key c.key) (records o h) ≡ superior_since o (node_key c.key) (e ∷ h)
        → elim b as (λ _. Option Addr) [ None ↦ None | Some x ↦ named_superior (node_key c.key) (records o h) ] ≡ elim b as (λ _. Option Addr) [ None ↦ None | Some x ↦ superior_since o (node_key c.key) (e ∷ h) ]
    over None i = refl
    over (Some x) i = i

-- the transaction is begun in the entry
family_begun : (o : Origin) (e : Entry) (h : List Entry) (u : Current) (kids : List Child) → is_crash e.event ≡ false → begins o (node_key u.key) e h ≡ true → kin u.branches ≡ begun_children (aaid_of u.key) e.outs
    → is_addr_option (superior_of u.key) (elim (node_key u.key).branch as (λ _. Option Addr) [ None ↦ None | Some b ↦ sender_of e.event ]) ≡ true → IsRowed o (e ∷ h) u
family_begun o e h u kids calm begun same up = (
  same ∙ tree u.key ∙ rw (calm, begun, branches_in) refl,
  ap (is_addr_option (superior_of u.key)) (over (node_key u.key).branch (sym (rw (calm, begun, superior_since) refl))) ∙ up,
)
  where
    tree : (k : Key) → begun_children (aaid_of k) e.outs ≡ begun_children (node_key k).aaid e.outs
    tree (Root t) = refl
    tree (Under t b a) = refl

    over : (b : Option BranchId) → sender_of e.event ≡ superior_since o (node_key u.key) (e ∷ h)
        → elim b as (λ _. Option Addr) [ None ↦ None | Some x ↦ superior_since o (node_key u.key) (e ∷ h) ] ≡ elim b as (λ _. Option Addr) [ None ↦ None | Some x ↦ sender_of e.event ]
    over None i = refl
    over (Some x) i = sym i

-- it goes on
family_goes : (o : Origin) (e : Entry) (h : List Entry) (c u : Current) → is_crash e.event ≡ false → begins o (node_key u.key) e h ≡ false → u.key ≡ c.key → IsRowed o h c → kin u.branches ≡ kin c.branches ++ begun_children (aaid_of c.key) e.outs → IsRowed o (e ∷ h) u
family_goes o e h c u calm off key was same = (
  same ∙ ap (λ (cs : List Child). cs ++ begun_children (aaid_of c.key) e.outs) was.0
      ∙ ap (λ (k : Key). branches_in o (node_key k) h ++ begun_children (aaid_of k) e.outs) (sym key) ∙ tree u.key ∙ rw (calm, off, branches_in) refl,
  ap (is_addr_option (superior_of u.key)) (over (node_key u.key).branch (sym (rw (calm, off, superior_since) refl)))
      ∙ ap (λ (k : Key). is_addr_option (superior_of k) (superior_for o (node_key k) h)) key ∙ was.1,
)
  where
    tree : (k : Key) → branches_in o (node_key u.key) h ++ begun_children (aaid_of k) e.outs ≡ branches_in o (node_key u.key) h ++ begun_children (node_key k).aaid e.outs
    tree (Root t) = refl
    tree (Under t b a) = refl

    over : (b : Option BranchId) → superior_since o (node_key u.key) h ≡ superior_since o (node_key u.key) (e ∷ h)
        → elim b as (λ _. Option Addr) [ None ↦ None | Some x ↦ superior_since o (node_key u.key) (e ∷ h) ] ≡ elim b as (λ _. Option Addr) [ None ↦ None | Some x ↦ superior_since o (node_key u.key) h ]
    over None i = refl
    over (Some x) i = sym i

pub key_under : (t : Aaid) (b : BranchId) (a : Addr) (k : Key) → k ≡ Under t b a → is_key (node_key k) (record { aaid = t; branch = Some b }) ≡ true
key_under t b a k h = ap (λ (x : Key). is_key (node_key x) (record { aaid = t; branch = Some b })) h ∙ key_self (record { aaid = t; branch = Some b })

pub no_both : (x : Option Current) (c : Current) → x ≡ None → x ≡ Some c → ⊥
no_both x c h i = cc (h, i)

family_taken : (o : Origin) (up : Option Addr) (e : Entry) (h : List Entry) → IsLegal o up (e ∷ h) → (from : Addr) (t : Aaid) (b : BranchId) (a : Addr) → is_crash e.event ≡ false → takes_begin o e h ≡ Some (record { aaid = t; branch = Some b })
    → (prelude o.who (digest o h) e.event).current ≡ Some (fresh_current (Under t b a)) → (rolls o.who (digest o h) e.event ≡ false) × (is_unchanged e.event ≡ false) × ((action o.who (digest o h) e.event).rec ≡ None)
    → (sender_of e.event ≡ Some from) × (is_addr a from ≡ true) → IsFamily o (e ∷ h)
family_taken o up e h legal from t b a calm begun cur quiet sent u is = go (course_entry o up e h legal)
  where
    d : Digest
    d = digest o h

    s : Digest
    s = prelude o.who d e.event

    m : Move
    m = action o.who d e.event

    c : Current
    c = fresh_current (Under t b a)

    outs : m.outs ≡ e.outs
    outs = ap (λ (x : Entry). x.outs) legal.grown.1

    there : u.key ≡ Under t b a → kin u.branches ≡ begun_children t e.outs → IsRowed o (e ∷ h) u
    there key kids =
        family_begun o e h u [] calm (begins_peer o (node_key u.key) (record { aaid = t; branch = Some b }) e h begun ∙ key_under t b a u.key key) (kids ∙ ap (λ (k : Key). begun_children (aaid_of k) e.outs) (sym key))
        (ap (λ (k : Key). is_addr_option (superior_of k) (elim (node_key k).branch as (λ _. Option Addr) [ None ↦ None | Some x ↦ sender_of e.event ])) key ∙ ap (is_addr_option (Some a)) sent.0 ∙ sent.1)

    go : Course o.who (rolls o.who d e.event) (is_unchanged e.event) s.drawn s.current s.boot s.drawn m → IsRowed o (e ∷ h) u
    go (Free i j f dr tl) = absurd (no_both s.current c i cur)
    go (Held x y i j key st hm f dr kn) =
        let one : y ≡ u = some_same y u (sym j ∙ is) in
        let same : c ≡ x = some_same c x (sym cur ∙ i) in
        there (ap (λ (z : Current). z.key) (sym one) ∙ key ∙ ap (λ (z : Current). z.key) (sym same))
        (ap (λ (z : Current). kin z.branches) (sym one) ∙ kn ∙ ap (λ (z : Current). kin z.branches) (sym same) ∙ sym (children_none t e.outs (ap first_begin (sym outs) ∙ f)))
    go (Closed x i j st at f dr) = absurd (no_both m.next.current u j is)
    go (Grew x y z i j key act q f cn dr kn) =
        let one : y ≡ u = some_same y u (sym j ∙ is) in
        let same : c ≡ x = some_same c x (sym cur ∙ i) in
        there (ap (λ (z : Current). z.key) (sym one) ∙ key ∙ ap (λ (z : Current). z.key) (sym same))
        (ap (λ (z : Current). kin z.branches) (sym one) ∙ kn ∙ ap (λ (z : Current). kin z.branches ++ begun_children (aaid_of z.key) m.outs) (sym same) ∙ ap (begun_children t) outs)
    go (Rooted y j key act f dr kn (inl w)) = absurd (no_both s.current c w.0 cur)
    go (Rooted y j key act f dr kn (inr w)) = absurd (ended w.0 w.1 w.2)
      where
        ended : (x : Current) → s.current ≡ Some x → PhaseStep (rolls o.who d e.event) (is_unchanged e.event) x.phase Phase.Nil (logs_of (node_key x.key) m.rec) (tells_rolled m) → ⊥
        ended x i st =
            let same : c ≡ x = some_same c x (sym cur ∙ i) in
            none (rolls o.who d e.event) (is_unchanged e.event) (logs_of (node_key x.key) m.rec) (st.active (ap (λ (z : Current). is_active z.phase) (sym same))) quiet.0 quiet.1 (ap (logs_of (node_key x.key)) quiet.2)
          where
            none : (f l v : Bool) → (false || f || l || v) ≡ true → f ≡ false → l ≡ false → v ≡ false → ⊥
            none f l v h i j k = grind (arith, h, i, j, k)

family_plain : (o : Origin) (up : Option Addr) (e : Entry) (h : List Entry) → IsLegal o up (e ∷ h) → is_crash e.event ≡ false → takes_begin o e h ≡ None → (prelude o.who (digest o h) e.event).current ≡ (digest o h).current → IsFamily o h → IsFamily o (e ∷ h)
family_plain o up e h legal calm begun same was u is = go (subst (λ (v : Option Current). Course o.who (rolls o.who d e.event) (is_unchanged e.event) s.drawn v s.boot s.drawn m) same (course_entry o up e h legal))
  where
    d : Digest
    d = digest o h

    s : Digest
    s = prelude o.who d e.event

    m : Move
    m = action o.who d e.event

    outs : m.outs ≡ e.outs
    outs = ap (λ (x : Entry). x.outs) legal.grown.1

    first_outs : first_begin m.outs ≡ first_begin e.outs
    first_outs = ap first_begin outs

    start : (x : Aaid × BranchId) → first_begin m.outs ≡ Some x → s.drawn ≡ drawn_in o h
    start x f = on (first_draws o.who d e.event calm) ∙ drawn_law o up h legal.grown.3
      where
        on : First_draws o.who d e.event → s.drawn ≡ d.drawn
        on (No_mark j) = j
        on (One_mark j l none) = absurd (let off : None ≡ Some x = sym none ∙ f in cc (off))

    go : Course o.who (rolls o.who d e.event) (is_unchanged e.event) s.drawn d.current s.boot s.drawn m → IsRowed o (e ∷ h) u
    go (Free i j f dr tl) = absurd (no_both m.next.current u j is)
    go (Closed x i j st at f dr) = absurd (no_both m.next.current u j is)
    go (Held c y i j key st hm f dr kn) =
        let one : y ≡ u = some_same y u (sym j ∙ is) in
        family_goes o e h c u calm (begins_none_at o (node_key u.key) e h begun (sym first_outs ∙ f)) (ap (λ (z : Current). z.key) (sym one) ∙ key) (was c i)
        (ap (λ (z : Current). kin z.branches) (sym one) ∙ kn ∙ sym (ap (λ (cs : List Child). kin c.branches ++ cs) (children_none (aaid_of c.key) e.outs (sym first_outs ∙ f)) ∙ append-nil (kin c.branches)))
    go (Grew c y x i j key act q f cn dr kn) =
        let one : y ≡ u = some_same y u (sym j ∙ is) in
        family_goes o e h c u calm (begins_grown o (node_key u.key) e h (aaid_of c.key) x begun (sym first_outs ∙ f) (cn ∙ ap suc (start (aaid_of c.key, x) f))) (ap (λ (z : Current). z.key) (sym one) ∙ key) (was c i)
        (ap (λ (z : Current). kin z.branches) (sym one) ∙ kn ∙ ap (λ (os : _). kin c.branches ++ begun_children (aaid_of c.key) os) outs)
    go (Rooted y j key act f dr kn w) =
        let one : y ≡ u = some_same y u (sym j ∙ is) in
        let drawn : s.drawn ≡ drawn_in o h = start (tree_at o.who s.boot s.drawn, branch_at o.who s.boot s.drawn) f in
        let boot : s.boot ≡ boot_in o h = same_boot o.who d e.event calm ∙ (plain_law o up h legal.grown.3).boot in
        let tree : tree_at o.who s.boot s.drawn ≡ tree_at o.who (boot_in o h) (drawn_in o h) = ap (λ (n : ℕ). tree_at o.who s.boot n) drawn ∙ ap (λ (n : ℕ). tree_at o.who n (drawn_in o h)) boot in
        let branch : branch_at o.who s.boot s.drawn ≡ branch_at o.who (boot_in o h) (drawn_in o h) = ap (λ (n : ℕ). branch_at o.who s.boot n) drawn ∙ ap (λ (n : ℕ). branch_at o.who n (drawn_in o h)) boot in
        let mine : u.key ≡ Root (tree_at o.who s.boot s.drawn) = ap (λ (z : Current). z.key) (sym one) ∙ key in
        let said : first_begin e.outs ≡ Some (tree_at o.who (boot_in o h) (drawn_in o h), branch_at o.who (boot_in o h) (drawn_in o h)) = sym first_outs ∙ f ∙ ap (λ (t : Aaid). Some (t, branch_at o.who s.boot s.drawn)) tree ∙ ap (λ (b : BranchId). Some (tree_at o.who (boot_in o h) (drawn_in o h), b)) branch in
        let begin : begins o (node_key u.key) e h ≡ true =
        begins_rooted o (node_key u.key) e h begun said ∙ ap (λ (k : Key). is_key (node_key k) (record { aaid = tree_at o.who (boot_in o h) (drawn_in o h); branch = None })) (mine ∙ ap (λ (t : Aaid). Root t) tree) ∙ key_self (record { aaid = tree_at o.who (boot_in o h) (drawn_in o h); branch = None }) in
        family_begun o e h u [] calm begin (ap (λ (z : Current). kin z.branches) (sym one) ∙ kn ∙ ap (begun_children (tree_at o.who s.boot s.drawn)) outs ∙ ap (λ (k : Key). begun_children (aaid_of k) e.outs) (sym mine))
        (ap (λ (k : Key). is_addr_option (superior_of k) (elim (node_key k).branch as (λ _. Option Addr) [ None ↦ None | Some x ↦ sender_of e.event ])) mine)

-- ---- every legal history

pub family_law : (o : Origin) (up : Option Addr) (h : List Entry) → IsLegal o up h → IsFamily o h
family_law o up [] legal = family_start o
family_law o up (e ∷ h) legal = go (entered o e h legal.grown.0) (family_law o up h (before_it o up e h legal))
  where
    go : Entered o e h → IsFamily o h → IsFamily o (e ∷ h)
    go (Crashed i) was = family_crash o up e h legal (ap is_crash i)
    go (Begun from t b a begun c cur nil quiet sent) was = family_taken o up e h legal from t b a.peer c begun cur quiet sent
    go (Plain c begun same) was = family_plain o up e h legal c begun same was

kin_children : (bs : List Branch) → all_children bs ≡ kin bs
kin_children [] = refl
kin_children (b ∷ bs) = ap (λ (cs : List Child). record { addr = b.peer; branch = b.id } ∷ cs) (kin_children bs)

pub above_law : (o : Origin) (up : Option Addr) (h : List Entry) → IsLegal o up h → above_agrees o h ≡ true
above_law o up h legal = go (digest o h).current refl
  where
    go : (v : Option Current) → (digest o h).current ≡ v → elim v as (λ _. Bool) [ None ↦ true | Some c ↦ is_addr_option (superior_of c.key) (superior_for o (node_key c.key) h) ] ≡ true
    go None i = refl
    go (Some c) i = (family_law o up h legal c i).1

pub branches_law : (o : Origin) (up : Option Addr) (h : List Entry) → IsLegal o up h → branches_agree o h ≡ true
branches_law o up h legal = go (digest o h).current refl
  where
    go : (v : Option Current) → (digest o h).current ≡ v → elim v as (λ _. Bool) [ None ↦ true | Some c ↦ same_list is_child (all_children c.branches) (branches_in o (node_key c.key) h) ] ≡ true
    go None i = refl
    go (Some c) i =
        ap (λ (cs : List Child). same_list is_child cs (branches_in o (node_key c.key) h)) (kin_children c.branches)
        ∙ ap (λ (cs : List Child). same_list is_child (kin c.branches) cs) (sym (family_law o up h legal c i).0) ∙ children_self (kin c.branches)
