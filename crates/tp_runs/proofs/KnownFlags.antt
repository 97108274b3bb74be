-- What is noted of the current transaction, from entry to entry: it is as new where its key begins, and what the log gives
-- with a crash.
use Rattle.std.proofs.Common.{◌≡◌, ◌⊎◌, inl, inr, ℕ, suc, Bool, true, false, refl, ap, sym, ◌∙◌, arith, Option, Some, None, List, [], ◌∷◌, ◌||◌}
use Rattle.tp_names.specs.declared.identifiers.Aaid.{Aaid}
use Rattle.tp_names.specs.declared.identifiers.BranchId.{BranchId}
use Rattle.tp_names.specs.declared.identifiers.Addr.{Addr}
use Rattle.tp_names.specs.declared.identifiers.NodeKey.{NodeKey}
use Rattle.tp_names.specs.declared.outcome.Outcome.{Outcome}
use Rattle.tp_names.specs.Same.{is_key}
use Rattle.tp_model.specs.declared.arc.Phase.{Phase}
use Rattle.tp_model.specs.Parts.{Who, Origin, Entry, Branch, Key, Root, Under, Current, Digest}
use Rattle.tp_model.specs.Dialogues.{is_active}
use Rattle.tp_model.specs.Transactions.{aaid_of, node_key}
use Rattle.tp_model.specs.Node.{Move, fresh_current}
use Rattle.tp_model.specs.Questions.{is_crash, boot_in, drawn_in}
use Rattle.tp_model.specs.Outcomes.{rolls, is_unchanged}
use Rattle.tp_model.specs.Keys.{logs_of, takes_begin, begins, some_since}
use Rattle.tp_model.specs.History.{digest}
use Rattle.tp_model.specs.Events.{action, named_again, recovered, recovered_current}
use Rattle.tp_model.specs.Legal.{IsLegal}
use Rattle.tp_steps.specs.Moves.{prelude}
use Rattle.tp_steps.specs.Steps.{first_begin}
use Rattle.tp_steps.specs.Traces.{is_old}
use Rattle.tp_histories.specs.Restart.{IsFounded}
use Rattle.tp_steps.proofs.links.Marks.{new_mark}
use Rattle.tp_steps.proofs.log.SoundMoves.{IsSound}
use Rattle.tp_histories.proofs.log.SoundLog.{sound_first}
use Rattle.tp_histories.proofs.log.StartLog.{sound_start}
use Rattle.tp_histories.proofs.log.WellLog.{founded_by}
use Rattle.tp_steps.proofs.log.TurnLog.{key_self}
use Rattle.tp_steps.proofs.every.Course.{PhaseStep, tree_at, branch_at, Course, Free, Held, Closed, Grew, Rooted, tells_rolled, some_same}
use Rattle.tp_histories.proofs.known.KnownPlain.{plain_law}
use Rattle.tp_runs.proofs.KnownForgot.{before_it}
use Rattle.tp_runs.proofs.KnownDrawn.{First_draws, No_mark, One_mark, first_draws, same_boot, drawn_law}
use Rattle.tp_runs.proofs.KnownKeys.{sound_at, course_entry, crash_next, started_current}
use Rattle.tp_runs.proofs.KnownBranches.{key_under, no_both}
use Rattle.tp_histories.proofs.trees.Entered.{Entered, Crashed, Begun, Plain, entered, begins_peer, begins_none_at, begins_grown, begins_rooted}

-- a tree of the node's own with a mark that was not drawn before
abbrev pub IsNew : Who → Digest → Current → Type 0
IsNew who s u = (t : Aaid) × (u.key ≡ Root t) × (is_old who s t.mark ≡ false)

-- what is current after an event: as before, with what f makes of it; or new
abbrev pub IsStepTo : (V : Type 0) → V → (Current → V) → Who → Digest → (V → V) → Current → Type 0
IsStepTo V zero g who s f u = ((c : Current) × (s.current ≡ Some c) × (u.key ≡ c.key) × (g u ≡ f (g c))) ⊎ (IsNew who s u × (g u ≡ zero))

-- ---- every legal history

-- the question q answers what g is of the current transaction: zero where its key begins, and from entry to entry what f
-- makes of it
pub record IsMark (V : Type 0) (zero : V) (g : Current → V) (q : Origin → NodeKey → List Entry → V) (f : Origin → NodeKey → Entry → List Entry → V → V) : Type 0 where
  pub fresh : (k : Key) → g (fresh_current k) ≡ zero
  pub first : (o : Origin) (up : Option Addr) → IsLegal o up [] → (c : Current) → (digest o []).current ≡ Some c → g c ≡ q o (node_key c.key) []
  pub crash : (o : Origin) (up : Option Addr) (e : Entry) (h : List Entry) → IsLegal o up (e ∷ h) → is_crash e.event ≡ true → (c : Current) → (digest o (e ∷ h)).current ≡ Some c → g c ≡ q o (node_key c.key) (e ∷ h)
  pub begun : (o : Origin) (k : NodeKey) (e : Entry) (h : List Entry) → is_crash e.event ≡ false → begins o k e h ≡ true → q o k (e ∷ h) ≡ zero
  pub goes : (o : Origin) (k : NodeKey) (e : Entry) (h : List Entry) → is_crash e.event ≡ false → begins o k e h ≡ false → q o k (e ∷ h) ≡ f o k e h (q o k h)
  pub step : (o : Origin) (up : Option Addr) (e : Entry) (h : List Entry) → IsLegal o up (e ∷ h) → is_crash e.event ≡ false → (u : Current) → (action o.who (digest o h) e.event).next.current ≡ Some u
      → IsStepTo V zero g o.who (prelude o.who (digest o h) e.event) (f o (node_key u.key) e h) u
  pub taken : (o : Origin) (up : Option Addr) (e : Entry) (h : List Entry) → IsLegal o up (e ∷ h) → (k j : NodeKey) → takes_begin o e h ≡ Some j → f o k e h zero ≡ zero

abbrev IsMarkIn : (V : Type 0) → (Current → V) → (Origin → NodeKey → List Entry → V) → Origin → List Entry → Type 0
IsMarkIn V g q o h = (c : Current) → (digest o h).current ≡ Some c → g c ≡ q o (node_key c.key) h

not_new : (who : Who) (s : Digest) (c u : Current) → IsSound who s → s.current ≡ Some c → u.key ≡ c.key → IsNew who s u → ⊥
not_new who s c u sound is key n =
    let k : c.key ≡ Root n.0 = sym key ∙ n.1 in
    let old : is_old who s (node_key c.key).aaid.mark ≡ true = sound.2 c is (ap (λ (x : Key). (node_key x).branch) k) in
    let same : is_old who s n.0.mark ≡ true = ap (λ (x : Key). is_old who s (node_key x).aaid.mark) (sym k) ∙ old in
    let new = n.2 in
    cc (same, new)

mark_taken : (V : Type 0) (zero : V) (g : Current → V) (q : Origin → NodeKey → List Entry → V) (f : Origin → NodeKey → Entry → List Entry → V → V) → IsMark V zero g q f → (o : Origin) (up : Option Addr) (e : Entry) (h : List Entry) → IsLegal o up (e ∷ h) → (t : Aaid) (b : BranchId) (a : Addr) → is_crash e.event ≡ false
    → takes_begin o e h ≡ Some (record { aaid = t; branch = Some b }) → (prelude o.who (digest o h) e.event).current ≡ Some (fresh_current (Under t b a)) → (rolls o.who (digest o h) e.event ≡ false) × (is_unchanged e.event ≡ false) × ((action o.who (digest o h) e.event).rec ≡ None) → IsMarkIn V g q o (e ∷ h)
mark_taken V zero g q f mark o up e h legal t b a calm begun cur quiet u is = go (mark.step o up e h legal calm u is)
  where
    d : Digest
    d = digest o h

    s : Digest
    s = prelude o.who d e.event

    c : Current
    c = fresh_current (Under t b a)

    m : Move
    m = action o.who d e.event

    sound : IsSound o.who s
    sound = (sound_first o.who d e.event legal.grown.0 (sound_at o up h (before_it o up e h legal))).0

    off : f o (node_key u.key) e h zero ≡ zero
    off = mark.taken o up e h legal (node_key u.key) (record { aaid = t; branch = Some b }) begun

    go : IsStepTo V zero g o.who s (f o (node_key u.key) e h) u → g u ≡ q o (node_key u.key) (e ∷ h)
    go (inl w) =
        let same : c ≡ w.0 = some_same c w.0 (sym cur ∙ w.1) in
        let key : u.key ≡ Under t b a = w.2 ∙ ap (λ (x : Current). x.key) (sym same) in
        w.3 ∙ ap (f o (node_key u.key) e h) (ap g (sym same) ∙ mark.fresh (Under t b a)) ∙ off ∙ sym (mark.begun o (node_key u.key) e h calm (begins_peer o (node_key u.key) (record { aaid = t; branch = Some b }) e h begun ∙ key_under t b a u.key key))
    go (inr n) = absurd (no (course_entry o up e h legal))
      where
        no : Course o.who (rolls o.who d e.event) (is_unchanged e.event) s.drawn s.current s.boot s.drawn m → ⊥
        no (Free i j f dr tl) = no_both s.current c i cur
        no (Closed x i j st at f dr) = no_both m.next.current u j is
        no (Held x y i j key st hm f dr kn) = not_new o.who s x u sound i (ap (λ (z : Current). z.key) (some_same u y (sym is ∙ j)) ∙ key) n.0
        no (Grew x y z i j key act qt f cn dr kn) = not_new o.who s x u sound i (ap (λ (z : Current). z.key) (some_same u y (sym is ∙ j)) ∙ key) n.0
        no (Rooted y j key act f dr kn (inl w)) = no_both s.current c w.0 cur
        no (Rooted y j key act f dr kn (inr w)) = ended w.0 w.1 w.2
          where
            none : (f l v : Bool) → (false || f || l || v) ≡ true → f ≡ false → l ≡ false → v ≡ false → ⊥
            none f l v h i j k = grind (arith, h, i, j, k)

            ended : (x : Current) → s.current ≡ Some x → PhaseStep (rolls o.who d e.event) (is_unchanged e.event) x.phase Phase.Nil (logs_of (node_key x.key) m.rec) (tells_rolled m) → ⊥
            ended x i st =
                let same : c ≡ x = some_same c x (sym cur ∙ i) in
                none (rolls o.who d e.event) (is_unchanged e.event) (logs_of (node_key x.key) m.rec) (st.active (ap (λ (z : Current). is_active z.phase) (sym same))) quiet.0 quiet.1 (ap (logs_of (node_key x.key)) quiet.2)

pub mark_law : (V : Type 0) (zero : V) (g : Current → V) (q : Origin → NodeKey → List Entry → V) (f : Origin → NodeKey → Entry → List Entry → V → V) → IsMark V zero g q f → (o : Origin) (up : Option Addr) (h : List Entry) → IsLegal o up h → IsMarkIn V g q o h
mark_law V zero g q f mark o up [] legal = mark.first o up legal
mark_law V zero g q f mark o up (e ∷ h) legal = go (entered o e h legal.grown.0) (mark_law V zero g q f mark o up h (before_it o up e h legal))
  where
    d : Digest
    d = digest o h

    s : Digest
    s = prelude o.who d e.event

    m : Move
    m = action o.who d e.event

    sound : IsSound o.who s
    sound = (sound_first o.who d e.event legal.grown.0 (sound_at o up h (before_it o up e h legal))).0

    outs : m.outs ≡ e.outs
    outs = ap (λ (x : Entry). x.outs) legal.grown.1

    first_outs : first_begin m.outs ≡ first_begin e.outs
    first_outs = ap first_begin outs

    plain : is_crash e.event ≡ false → takes_begin o e h ≡ None → s.current ≡ d.current → IsMarkIn V g q o h → IsMarkIn V g q o (e ∷ h)
    plain calm begun same was u is = on (course_entry o up e h legal) (mark.step o up e h legal calm u is)
      where
        start : (x : Aaid × BranchId) → first_begin m.outs ≡ Some x → s.drawn ≡ drawn_in o h
        start x i = go (first_draws o.who d e.event calm) ∙ drawn_law o up h legal.grown.3
          where
            go : First_draws o.who d e.event → s.drawn ≡ d.drawn
            go (No_mark j) = j
            go (One_mark j l none) = absurd (let off : None ≡ Some x = sym none ∙ i in cc (off))

        more : (c : Current) → s.current ≡ Some c → u.key ≡ c.key → begins o (node_key u.key) e h ≡ false → IsStepTo V zero g o.who s (f o (node_key u.key) e h) u → g u ≡ q o (node_key u.key) (e ∷ h)
        more c i key off (inl w) =
            let one : w.0 ≡ c = some_same w.0 c (sym w.1 ∙ i) in
            w.3 ∙ ap (f o (node_key u.key) e h) (ap g one ∙ was c (sym same ∙ i) ∙ ap (λ (x : Key). q o (node_key x) h) (sym key)) ∙ sym (mark.goes o (node_key u.key) e h calm off)
        more c i key off (inr n) = absurd (not_new o.who s c u sound i key n.0)

        on : Course o.who (rolls o.who d e.event) (is_unchanged e.event) s.drawn s.current s.boot s.drawn m → IsStepTo V zero g o.who s (f o (node_key u.key) e h) u → g u ≡ q o (node_key u.key) (e ∷ h)
        on (Free i j fi dr tl) step = absurd (no_both m.next.current u j is)
        on (Closed x i j st at fi dr) step = absurd (no_both m.next.current u j is)
        on (Held c y i j key st hm fi dr kn) step =
            let one : y ≡ u = some_same y u (sym j ∙ is) in
            more c i (ap (λ (z : Current). z.key) (sym one) ∙ key) (begins_none_at o (node_key u.key) e h begun (sym first_outs ∙ fi)) step
        on (Grew c y x i j key act qt fi cn dr kn) step =
            let one : y ≡ u = some_same y u (sym j ∙ is) in
            more c i (ap (λ (z : Current). z.key) (sym one) ∙ key) (begins_grown o (node_key u.key) e h (aaid_of c.key) x begun (sym first_outs ∙ fi) (cn ∙ ap suc (start (aaid_of c.key, x) fi))) step
        on (Rooted y j key act fi dr kn w) step = new step
          where
            one : y ≡ u
            one = some_same y u (sym j ∙ is)

            mine : u.key ≡ Root (tree_at o.who s.boot s.drawn)
            mine = ap (λ (z : Current). z.key) (sym one) ∙ key

            begin : begins o (node_key u.key) e h ≡ true
            begin =
                let drawn : s.drawn ≡ drawn_in o h = start (tree_at o.who s.boot s.drawn, branch_at o.who s.boot s.drawn) fi in
                let boot : s.boot ≡ boot_in o h = same_boot o.who d e.event calm ∙ (plain_law o up h legal.grown.3).boot in
                let tree : tree_at o.who s.boot s.drawn ≡ tree_at o.who (boot_in o h) (drawn_in o h) = ap (λ (n : ℕ). tree_at o.who s.boot n) drawn ∙ ap (λ (n : ℕ). tree_at o.who n (drawn_in o h)) boot in
                let branch : branch_at o.who s.boot s.drawn ≡ branch_at o.who (boot_in o h) (drawn_in o h) = ap (λ (n : ℕ). branch_at o.who s.boot n) drawn ∙ ap (λ (n : ℕ). branch_at o.who n (drawn_in o h)) boot in
                let said : first_begin e.outs ≡ Some (tree_at o.who (boot_in o h) (drawn_in o h), branch_at o.who (boot_in o h) (drawn_in o h)) = sym first_outs ∙ fi ∙ ap (λ (t : Aaid). Some (t, branch_at o.who s.boot s.drawn)) tree ∙ ap (λ (b : BranchId). Some (tree_at o.who (boot_in o h) (drawn_in o h), b)) branch in
                begins_rooted o (node_key u.key) e h begun said ∙ ap (λ (k : Key). is_key (node_key k) (record { aaid = tree_at o.who (boot_in o h) (drawn_in o h); branch = None })) (mine ∙ ap (λ (t : Aaid). Root t) tree) ∙ key_self (record { aaid = tree_at o.who (boot_in o h) (drawn_in o h); branch = None })

            new : IsStepTo V zero g o.who s (f o (node_key u.key) e h) u → g u ≡ q o (node_key u.key) (e ∷ h)
            new (inl v) = absurd (not_new o.who s v.0 u sound v.1 v.2 (tree_at o.who s.boot s.drawn, mine, new_mark o.who s))
            new (inr n) = n.1 ∙ sym (mark.begun o (node_key u.key) e h calm begin)

    go : Entered o e h → IsMarkIn V g q o h → IsMarkIn V g q o (e ∷ h)
    go (Crashed i) was = mark.crash o up e h legal (ap is_crash i)
    go (Begun from t b a begun c cur nil quiet sent) was = mark_taken V zero g q f mark o up e h legal t b a.peer c begun cur quiet
    go (Plain c begun same) was = plain c begun same was

-- ---- flags that one kind of entry raises, and that fall where a key begins and with a crash

abbrev pub IsStep : (Current → Bool) → Who → Digest → Bool → Current → Type 0
IsStep g who s raised u = IsStepTo Bool false g who s (λ b. raised || b) u

-- the flag g is raised by what q tells of an entry
pub record IsFlag (g : Current → Bool) (q : Origin → NodeKey → Entry → List Entry → Bool) : Type 0 where
  pub fresh : (k : Key) → g (fresh_current k) ≡ false
  pub again : (k : Key) (p : Phase) (bs : List Branch) (u : Option Outcome) → g (recovered k p bs u) ≡ false
  pub step : (o : Origin) (up : Option Addr) (e : Entry) (h : List Entry) → IsLegal o up (e ∷ h) → is_crash e.event ≡ false → (u : Current) → (action o.who (digest o h) e.event).next.current ≡ Some u
      → IsStep g o.who (prelude o.who (digest o h) e.event) (q o (node_key u.key) e h) u
  pub taken : (o : Origin) (up : Option Addr) (e : Entry) (h : List Entry) → IsLegal o up (e ∷ h) → (k j : NodeKey) → takes_begin o e h ≡ Some j → q o k e h ≡ false

-- what a start gives back
pub recovered_is : (V : Type 0) (v : Current → V) (g : Current → V) → ((k : Key) (p : Phase) (bs : List Branch) (u : Option Outcome) → g (recovered k p bs u) ≡ v (recovered k p bs u)) → (o : Option Current) (c : Current) → recovered_current o ≡ Some c → g c ≡ v c
recovered_is V v g again None c is = absurd (cc (is))
recovered_is V v g again (Some x) c is = go x.phase is
  where
    flat : (k : Key) (p : Phase) (bs : List Branch) (u : Option Outcome) → Some (recovered k p bs u) ≡ Some c → g c ≡ v c
    flat k p bs u i = let same : recovered k p bs u ≡ c = some_same (recovered k p bs u) c i in ap g (sym same) ∙ again k p bs u ∙ ap v same

    go : (p : Phase) → recovered_current (Some (record x { phase = p })) ≡ Some c → g c ≡ v c
    go Phase.Nil i = absurd (cc (i))
    go Phase.Active i = absurd (cc (i))
    go Phase.Ready i = flat x.key Phase.Ready (named_again x.branches) x.decision i
    go Phase.Committing i = flat x.key Phase.Committing (named_again x.branches) x.decision i
    go Phase.Rolling i = absurd (cc (i))

-- at the beginning of a history
pub started_again : (o : Origin) (up : Option Addr) (c : Current) → IsLegal o up [] → (digest o []).current ≡ Some c → recovered_current (digest o []).current ≡ Some c
started_again o up c legal is =
    let founded : IsFounded o up [] = founded_by o up [] legal in
    let start = sound_start o legal.start founded.earlier in
    sym (started_current o ∙ sym start.again) ∙ is

mark_of_flag : (g : Current → Bool) (q : Origin → NodeKey → Entry → List Entry → Bool) → IsFlag g q → IsMark Bool false g (λ o k h. some_since o k (q o k) h) (λ o k e h b. q o k e h || b)
mark_of_flag g q flag = record {
  fresh = flag.fresh;
  first = λ o up legal c is. recovered_is Bool (λ x. false) g flag.again (digest o []).current c (started_again o up c legal is);
  crash = λ o up e h legal crash c is. recovered_is Bool (λ x. false) g flag.again (digest o h).current c (sym (crash_next o e h crash) ∙ is) ∙ sym (rw (crash, some_since) refl);
  begun = λ o k e h calm begun. rw (calm, begun, some_since) refl;
  goes = λ o k e h calm off. rw (calm, off, some_since) refl;
  step = flag.step;
  taken = λ o up e h legal k j begun. rw (flag.taken o up e h legal k j begun) refl;
}

pub flag_law : (g : Current → Bool) (q : Origin → NodeKey → Entry → List Entry → Bool) → IsFlag g q → (o : Origin) (up : Option Addr) (h : List Entry) → IsLegal o up h → (c : Current) → (digest o h).current ≡ Some c → g c ≡ some_since o (node_key c.key) (q o (node_key c.key)) h
flag_law g q flag = mark_law Bool false g (λ o k h. some_since o k (q o k) h) (λ o k e h b. q o k e h || b) (mark_of_flag g q flag)
