-- In every legal history the current transaction has the decision that its records tell, until it rolls.
use Rattle.tp_history_state.proofs.Vocabulary.{◌≡◌, ℕ, suc, Bool, true, false, refl, ap, sym, subst, ◌∙◌, arith, append_assoc, append-nil, Option, Some, None, List, [], ◌∷◌, ◌++◌, reverse, NodeKey, BranchId, Addr, Child, Outcome, is_key, LogRec, Report, is_outcome, Phase, TxEvent, Kept, Who, Origin, Event, Entry, Key, Root, Under, Current, Digest, is_nil, is_active, is_ready, is_rolling, Row, Transaction, Turn, node_key, with_row, with_arc_lost, all_done, complete_commit, complete_rollback, begin_rolling, order, ask_commit, leave, count_branch, end_branch, branch_left, transacted, Move, next_mark, seen, begin_on, fresh_current, turned, kept_by, is_crash, is_rolling_in, decision_since, decision_for, digest, records, again, named_again, recovered, recovered_current, key_in_log, current_in_log, decision_of, without_current, current_by, current_from, same_option, is_start, is_own_record, are_own_records, IsLegal, Turns, row_dead, Moves, IsPut, prelude, decision_agrees, and_left, and_right, every_turn, every_move, key_self, left_is, late_law, some_same, before_it, outcome_self, sound_at, nothing_late, crash_next, started_current, key_law, log_current, Entered, Crashed, Begun, Plain}
use Rattle.std.specs.Prelude.{nat_le}
use Rattle.std.proofs.lemmas.List.{reverse-append, reverse-reverse}
use Rattle.tp_logrec.specs.Order.{owner, owner_of, is_bound, is_end, holds, bound, is_free, last_boot_from, follows, follow_from, all_follow}
use Rattle.tp_steps.specs.Standing.{AreApart}
use Rattle.tp_histories.specs.Restart.{IsFounded}
use Rattle.tp_steps.proofs.log.ApartLog.{keys_equal}
use Rattle.tp_steps.proofs.log.SoundMoves.{apart_noted}
use Rattle.tp_steps.proofs.log.StandLog.{last_at, key_swap, last_other, last_mine, IsFit, no_both, new_parts, Nothing}
use Rattle.tp_steps.proofs.log.StepLog.{vote_bound, either_bound, as_some, fit_step}
use Rattle.tp_histories.proofs.log.StartLog.{own_key, sound_start}
use Rattle.tp_histories.proofs.log.WellLog.{founded_by, start_again}
use Rattle.tp_histories.proofs.log.StandingKeys.{Place, New, There, Here, place, kept_damage, nothing_now, last_none}
use Rattle.tp_histories.proofs.known.KnownKept.{IsLogTold, log_told}
use Rattle.tp_histories.proofs.known.KnownPhase.{phase_at as phase_of_key}
use Rattle.tp_histories.proofs.trees.Entered.{entered}
use Rattle.tp_history_state.proofs.lemmas.Begins.{next_child, begins_so}

-- ---- what is decided by the records of a log

-- no decision stands of a key that has ended or is new; and that of what is current is its own
pub record IsDecided (n : ℕ) (ps rs : List LogRec) (o : Option Current) : Type 0 where
  pub none : (k : NodeKey) → last_at n k ps ≡ None → decision_since k rs ≡ None
  pub now : (c : Current) → o ≡ Some c → c.decision ≡ decision_since (node_key c.key) rs

-- a record of another key
since_other : (n : ℕ) (k j : NodeKey) (r : LogRec) (rs : List LogRec) → owner_of r ≡ Some (owner n j) → is_key k j ≡ false → decision_since k (r ∷ rs) ≡ decision_since k rs
since_other n k j (LogRec.Heuristic m i u) rs own off = let same : i ≡ j = grind (arith, own) in let at : is_key k i ≡ false = ap (is_key k) same ∙ off in rw (at, decision_since) refl
since_other n k j (LogRec.End m i u) rs own off = let same : i ≡ j = grind (arith, own) in let at : is_key k i ≡ false = ap (is_key k) same ∙ off in rw (at, decision_since) refl
since_other n k j _ rs own off = refl

-- an end
since_ended : (n : ℕ) (k j : NodeKey) (r : LogRec) (rs : List LogRec) → owner_of r ≡ Some (owner n j) → is_key k j ≡ true → is_end r ≡ true → decision_since k (r ∷ rs) ≡ None
since_ended n k j (LogRec.End m i u) rs own on ends = let same : i ≡ j = grind (arith, own) in let at : is_key k i ≡ true = ap (is_key k) same ∙ on in rw (at, decision_since) refl
since_ended n k j _ rs own on ends = absurd (cc (ends))

none_step : (n : ℕ) (ps rs : List LogRec) (r : LogRec) (j : NodeKey) → owner_of r ≡ Some (owner n j) → ((k : NodeKey) → last_at n k ps ≡ None → decision_since k rs ≡ None) → (k : NodeKey) → last_at n k (ps ++ r ∷ []) ≡ None → decision_since k (r ∷ rs) ≡ None
none_step n ps rs r j own h k last = go (is_key k j) refl
  where
    mine : (b : Bool) → is_end r ≡ b → k ≡ j → is_key k j ≡ true → decision_since k (r ∷ rs) ≡ None
    mine true ends same on = since_ended n k j r rs own on ends
    mine false ends same on = absurd (let no : Some r ≡ None = sym (last_mine n j ps r own ends) ∙ ap (λ (x : NodeKey). last_at n x (ps ++ r ∷ [])) (sym same) ∙ last in cc (no))

    go : (b : Bool) → is_key k j ≡ b → decision_since k (r ∷ rs) ≡ None
    go true on = mine (is_end r) refl (keys_equal k j on) on
    go false off = since_other n k j r rs own off ∙ h k (sym (last_other n j k ps r own (key_swap k j off)) ∙ last)

-- what a record makes current
logged_is : (k : NodeKey) (s : Option Addr) (p : Phase) (cs : List Child) (u : Option Outcome) (c : Current) → current_in_log (key_in_log k s) p cs u ≡ Some c → (c.decision ≡ u) × (node_key c.key ≡ k)
logged_is k s p cs u c is = grind (arith, some_same)

stays_now : (k : NodeKey) (o : Option Current) (c : Current) → without_current k o ≡ Some c → (o ≡ Some c) × (is_key (node_key c.key) k ≡ false)
stays_now k o c h1 = grind (arith, some_same)

-- a vote, or a root's order: nothing was decided of the key
now_new : (n : ℕ) (ps rs : List LogRec) (o : Option Current) (k : NodeKey) (c : Current) → IsDecided n ps rs o → last_at n k ps ≡ None → node_key c.key ≡ k → decision_since (node_key c.key) rs ≡ None
now_new n ps rs o k c h last same = ap (λ (j : NodeKey). decision_since j rs) same ∙ h.none k last

now_ready : (n b : ℕ) (ps rs : List LogRec) (k : NodeKey) (s : Addr) (cs : List Child) (o : Option Current) → follows (LogRec.Boot b ∷ ps) (LogRec.Ready n k s cs) ≡ true → IsDecided n ps rs o
    → (c : Current) → current_by (LogRec.Ready n k s cs) o ≡ Some c → c.decision ≡ decision_since (node_key c.key) rs
now_ready n b ps rs k s cs o f h c is =
    let p = new_parts (is_free n (bound (LogRec.Boot b ∷ ps))) (last_at n k ps) f in
    let l = logged_is k (Some s) Phase.Ready cs None c is in
    l.0 ∙ sym (now_new n ps rs o k c h p.1 l.1)

now_heuristic : (n b : ℕ) (ps rs : List LogRec) (k : NodeKey) (u : Outcome) (o : Option Current) (ks : List Kept) → follows (LogRec.Boot b ∷ ps) (LogRec.Heuristic n k u) ≡ true → IsFit n ps o ks → IsDecided n ps rs o
    → (c : Current) → current_by (LogRec.Heuristic n k u) o ≡ Some c → c.decision ≡ decision_since (node_key c.key) (LogRec.Heuristic n k u ∷ rs)
now_heuristic n b ps rs k u o ks f fit h c is = go (place n ps o ks k fit)
  where
    go : Place k o ks → c.decision ≡ decision_since (node_key c.key) (LogRec.Heuristic n k u ∷ rs)
    go (New a off) = absurd (last_none n ps o ks k is_bound fit a off (vote_bound (last_at n k ps) f))
    go (There at off) = absurd (no_both (last_at n k ps) (kept_damage n ps ks k fit.kept at) (vote_bound (last_at n k ps) f))
    go (Here x i same a) =
        let is2 : Some (record x { decision = Some u }) ≡ Some c = sym (ap (current_by (LogRec.Heuristic n k u)) i) ∙ is in
        let one : ◌≡◌ {A = Current} (record x { decision = Some u }) c = some_same (record x { decision = Some u }) c is2 in
        let on : is_key (node_key c.key) k ≡ true = ap (λ (y : Current). is_key (node_key y.key) k) (sym one) ∙ ap (λ (j : NodeKey). is_key j k) same ∙ key_self k in
        ap (λ (y : Current). y.decision) (sym one) ∙ rw (on, decision_since) refl

now_commit : (n b : ℕ) (ps rs : List LogRec) (k : NodeKey) (a : Option Addr) (cs : List Child) (o : Option Current) (ks : List Kept) → follows (LogRec.Boot b ∷ ps) (LogRec.Commit n k a cs) ≡ true → IsFit n ps o ks → IsDecided n ps rs o
    → (c : Current) → current_by (LogRec.Commit n k a cs) o ≡ Some c → c.decision ≡ decision_since (node_key c.key) rs
now_commit n b ps rs k a cs o ks f fit h c is = let l = logged_is k a Phase.Committing cs (decision_of o) c is in l.0 ∙ go k.branch a f ∙ ap (λ (j : NodeKey). decision_since j rs) (sym l.1)
  where
    go : (d : Option BranchId) (a : Option Addr) → follows (LogRec.Boot b ∷ ps) (LogRec.Commit n (record k { branch = d }) a cs) ≡ true → decision_of o ≡ decision_since (record k { branch = d }) rs
    go None a f =
        let j : NodeKey = record k { branch = None } in
        let p = new_parts (is_free n (bound (LogRec.Boot b ∷ ps))) (last_at n j ps) (and_left _ (nat_le k.aaid.mark.boot (last_boot_from b ps)) f) in
        ap decision_of (nothing_now n b ps o ks p.0 fit o refl) ∙ sym (h.none j p.1)
    go (Some d) None f = absurd (as_some cs _ (and_right _ _ f))
    go (Some d) (Some s) f =
        let j : NodeKey = record k { branch = Some d } in
        on j (either_bound (last_at n j ps) (and_left _ _ f)) (place n ps o ks j fit)
      where
        on : (j : NodeKey) → holds (last_at n j ps) is_bound ≡ true → Place j o ks → decision_of o ≡ decision_since j rs
        on j binds (New ap off) = absurd (last_none n ps o ks j is_bound fit ap off binds)
        on j binds (There at off) = absurd (no_both (last_at n j ps) (kept_damage n ps ks j fit.kept at) binds)
        on j binds (Here x i same apart) = ap decision_of i ∙ h.now x i ∙ ap (λ (y : NodeKey). decision_since y rs) same

now_off : (n : ℕ) (ps rs : List LogRec) (r : LogRec) (k : NodeKey) (o : Option Current) → owner_of r ≡ Some (owner n k) → IsDecided n ps rs o → (c : Current) → without_current k o ≡ Some c → c.decision ≡ decision_since (node_key c.key) (r ∷ rs)
now_off n ps rs r k o own h c is = let w = stays_now k o c is in h.now c w.0 ∙ sym (since_other n (node_key c.key) k r rs own w.1)

now_step : (n b : ℕ) (ps rs : List LogRec) (r : LogRec) (o : Option Current) (ks : List Kept) (k : NodeKey) → owner_of r ≡ Some (owner n k) → follows (LogRec.Boot b ∷ ps) r ≡ true → IsFit n ps o ks → IsDecided n ps rs o
    → (c : Current) → current_by r o ≡ Some c → c.decision ≡ decision_since (node_key c.key) (r ∷ rs)
now_step n b ps rs (LogRec.Boot m) o ks k own f fit h = absurd (cc (own))
now_step n b ps rs (LogRec.Ready m j s cs) o ks k own f fit h =
    let same : m ≡ n = grind (arith, own) in
    now_ready n b ps rs j s cs o (subst (λ (x : ℕ). follows (LogRec.Boot b ∷ ps) (LogRec.Ready x j s cs) ≡ true) same f) h
now_step n b ps rs (LogRec.Heuristic m j u) o ks k own f fit h =
    let same : m ≡ n = grind (arith, own) in
    now_heuristic n b ps rs j u o ks (subst (λ (x : ℕ). follows (LogRec.Boot b ∷ ps) (LogRec.Heuristic x j u) ≡ true) same f) fit h
now_step n b ps rs (LogRec.Commit m j a cs) o ks k own f fit h =
    let same : m ≡ n = grind (arith, own) in
    now_commit n b ps rs j a cs o ks (subst (λ (x : ℕ). follows (LogRec.Boot b ∷ ps) (LogRec.Commit x j a cs) ≡ true) same f) fit h
now_step n b ps rs (LogRec.Damage m j a u w cs) o ks k own f fit h = now_off m ps rs (LogRec.Damage m j a u w cs) j o refl (moved n m (grind (arith, own)) h)
  where
    moved : (n m : ℕ) → n ≡ m → IsDecided n ps rs o → IsDecided m ps rs o
    moved n m same = subst (λ (x : ℕ). IsDecided x ps rs o) same
now_step n b ps rs (LogRec.End m j u) o ks k own f fit h = now_off m ps rs (LogRec.End m j u) j o refl (moved n m (grind (arith, own)) h)
  where
    moved : (n m : ℕ) → n ≡ m → IsDecided n ps rs o → IsDecided m ps rs o
    moved n m same = subst (λ (x : ℕ). IsDecided x ps rs o) same

decided_from : (n boot b : ℕ) (ps rs : List LogRec) (o : Option Current) (ks : List Kept) → follow_from (LogRec.Boot b ∷ ps) rs ≡ true → are_own_records n boot rs ≡ true → IsFit n ps o ks → IsDecided n ps (reverse ps) o
    → IsDecided n (ps ++ rs) (reverse (ps ++ rs)) (current_from o rs)
decided_from n boot b ps [] o ks f own fit h = subst (λ (l : List LogRec). IsDecided n l (reverse l) o) (sym (append-nil ps)) h
decided_from n boot b ps (r ∷ rs) o ks f own fit h =
    let k = own_key n boot r (and_left (is_own_record n boot r) (are_own_records n boot rs) own) in
    let one = and_left (follows (LogRec.Boot b ∷ ps) r) (follow_from (LogRec.Boot b ∷ ps ++ r ∷ []) rs) f in
    let step : IsDecided n (ps ++ r ∷ []) (r ∷ reverse ps) (current_by r o) = record { none = none_step n ps (reverse ps) r k.0 k.1 h.none; now = now_step n b ps (reverse ps) r o ks k.0 k.1 one fit h } in
    let more : IsDecided n (ps ++ r ∷ []) (reverse (ps ++ r ∷ [])) (current_by r o) = subst (λ (l : List LogRec). IsDecided n (ps ++ r ∷ []) l (current_by r o)) (sym (reverse-append ps (r ∷ []))) step in
    subst (λ (l : List LogRec). IsDecided n l (reverse l) (current_from o (r ∷ rs))) (append_assoc ps (r ∷ []) rs)
    (decided_from n boot b (ps ++ r ∷ []) rs (current_by r o) (kept_by r ks) (and_right (follows (LogRec.Boot b ∷ ps) r) (follow_from (LogRec.Boot b ∷ ps ++ r ∷ []) rs) f) (and_right (is_own_record n boot r) (are_own_records n boot rs) own)
    (fit_step n b ps r o ks k.0 k.1 one fit) more)

pub decided_log : (n boot b : ℕ) (rs : List LogRec) → follow_from (LogRec.Boot b ∷ []) rs ≡ true → are_own_records n boot rs ≡ true → IsDecided n rs (reverse rs) (current_from None rs)
decided_log n boot b rs f own =
    decided_from n boot b [] rs None [] f own (record { now = Nothing refl; kept = tt; none = λ k a off. refl; boots = λ x. refl }) (record { none = λ k last. refl; now = λ c is. absurd (cc (is)) })

-- ---- what rolls has no decision: an instance of the steps of a turn, and of those of a node

abbrev pub IsFirm : Transaction → Type 0
IsFirm t = is_rolling t.phase ≡ true → t.decision ≡ None

abbrev IsFirmTurn : Transaction → Turn → Type 0
IsFirmTurn t a = IsFirm t → IsFirm a.next

firm_row : (t : Transaction) (q : ℕ) (f : Row → Row) → IsFirm t → IsFirm (with_row t q f)
firm_row t q f = grind arith

firm_lost : (t : Transaction) (q : ℕ) → IsFirm t → IsFirm (with_arc_lost t q)
firm_lost t q firm = grind arith

firm_order : (t : Transaction) → IsFirmTurn t (order t)
unfolding order
firm_order t firm h = absurd (cc (h))

firm_rolls : (asked : Bool) (t : Transaction) → IsFirmTurn t (begin_rolling asked t)
unfolding begin_rolling
firm_rolls asked t firm h = refl

firm_completes : (t : Transaction) → IsFirmTurn t (complete_commit t)
unfolding complete_commit
firm_completes t firm = grind (arith, all_done)

firm_unrolls : (t : Transaction) → IsFirmTurn t (complete_rollback t)
unfolding complete_rollback
firm_unrolls t firm = grind arith

ready_flat : (p : Phase) → is_ready p ≡ true → is_rolling p ≡ true → ⊥
ready_flat p h i = grind (arith, h, i)

firm_turns : (e : TxEvent) (s : Transaction) → Turns e s IsFirmTurn
unfolding ask_commit leave count_branch end_branch branch_left
firm_turns e s = record {
  still = λ t firm. firm;
  first = λ t u outs a one two firm. two (one firm);
  chain = λ t a f one two none firm. two (one firm);
  tells = λ t i n firm. firm;
  notes_prepare = λ pr h firm. firm;
  notes_done = λ is firm. firm;
  notes_end = λ q is firm. firm;
  notes_rollback = λ ro h firm. firm;
  defers_end = λ q is. firm_row s q (λ r. record r { ends = true });
  defers_grant = λ q is firm. firm;
  prepares = λ q. firm_row s q (λ r. record r { branch = record r.branch { prepared = true } });
  asks = λ is act asked told firm. firm;
  asks_again = λ firm. firm;
  decides = λ o is ready firm h. absurd (ready_flat s.phase ready h);
  aborts = λ q is. firm_lost s q;
  loses_arc = λ q gone. firm_lost s q;
  closes_left = λ q is. firm_row s q row_dead;
  gives_up = λ q r is c found. firm_row s q (λ w. record w { branch = record w.branch { given_up = true }; live = false; ends = false });
  counts = λ q is act row. firm_row s q (λ r. record r { branch = record r.branch { counted = true } });
  ends_done = λ q r is c row. firm_row s q (λ w. record w { branch = record w.branch { ended = true; report = r } });
  ends_replied = λ b w r is found o. firm_row s w.branch.peer.node (λ v. record v { branch = record v.branch { ended = true; report = r } });
  ends_rolled = λ q r is c row. firm_row s q (λ w. record w { branch = record w.branch { ended = true; report = r } });
  leaves_below = λ q w t is left at act. firm_row t q (λ v. record v { branch = record v.branch { left = true } });
  leaves_rolling = λ q w t is left at c. firm_row t q (λ v. record v { branch = record v.branch { ended = true; report = Report.None } });
  votes = λ t act asked all under firm h. absurd (cc (h));
  orders_root = λ t act asked all root. firm_order t;
  orders_ready = λ ready is. firm_order s;
  rolls = λ t asked f ok. firm_rolls asked t;
  completes_commit = λ t c. firm_completes t;
  completes_rollback = λ t c. firm_unrolls t;
  leaves = λ is act under asked all firm h. absurd (cc (h));
}

-- of what is known of a node
abbrev pub IsFirmNow : Option Current → Type 0
IsFirmNow o = (c : Current) → o ≡ Some c → is_rolling c.phase ≡ true → c.decision ≡ None

abbrev IsFirmMove : Digest → Move → Type 0
IsFirmMove d m = IsFirmNow d.current → IsFirmNow m.next.current

firm_fresh : (k : Key) → IsFirmNow (Some (fresh_current k))
firm_fresh k c is h = let same : fresh_current k ≡ c = some_same (fresh_current k) c is in ap (λ (x : Current). x.decision) (sym same)

firm_turned : (who : Who) (f : TxEvent) (d : Digest) (c : Current) → d.current ≡ Some c → IsPut f (seen who d.arcs c) → IsFirmMove d (turned who f d c)
firm_turned who f d c now put firm u is h =
    let t : Transaction = seen who d.arcs c in
    let left = left_is (transacted f t).next u is in
    left.2 ∙ every_turn f t IsFirmTurn (firm_turns f t) put (firm c now) (ap is_rolling (sym left.1) ∙ h)

firm_begins : (who : Who) (q : ℕ) (d : Digest) → IsFirmMove d (begin_on who q d)
firm_begins who q d firm =
    begins_so (λ m. IsFirmNow m.next.current) who q d firm
    (λ c i a found may u is h.
    let v : Transaction = (transacted (TxEvent.Begun (next_child who d a ∷ [])) (seen who d.arcs c)).next in
    let l = left_is v u is in
    l.2 ∙ firm c i (ap is_rolling (sym l.1) ∙ h))

firm_moves : (who : Who) (e : Event) (s : Digest) → Moves who e s IsFirmMove
firm_moves who e s = record {
  still = λ d firm. firm;
  chain = λ d a f one two quiet firm. two (one firm);
  speaks = λ d outs h own said firm. firm;
  changes_dialogue = λ d p f m by one. one;
  drops_arc = λ d p m at one. one;
  notes_kept = λ d ks m held one. one;
  keeps = λ d k f held firm. firm;
  turns = λ d c f now at asked put gone. firm_turned who f d c now put;
  begins = λ d p may. firm_begins who p d;
  roots = λ d m nil may one firm. one (firm_fresh (Root (record { owner = who.site; mark = next_mark who d })));
}

firm_recovered : (o : Option Current) → IsFirmNow (recovered_current o)
firm_recovered o = grind (arith, some_same)

-- ---- every legal history

firm_law : (o : Origin) (up : Option Addr) (h : List Entry) → IsLegal o up h → IsFirmNow (digest o h).current
firm_law o up [] legal =
    let founded : IsFounded o up [] = founded_by o up [] legal in
    let start = sound_start o legal.start founded.earlier in
    subst IsFirmNow (sym (started_current o ∙ sym start.again)) (firm_recovered (digest o []).current)
firm_law o up (e ∷ h) legal = go (entered o e h legal.grown.0) (firm_law o up h (before_it o up e h legal))
  where
    d : Digest
    d = digest o h

    s : Digest
    s = prelude o.who d e.event

    on : IsFirmNow s.current → IsFirmNow (digest o (e ∷ h)).current
    on = every_move o.who d e.event IsFirmMove (firm_moves o.who e.event s) (late_law o up h legal.grown.3) legal.grown.0

    go : Entered o e h → IsFirmNow d.current → IsFirmNow (digest o (e ∷ h)).current
    go (Crashed i) was = subst IsFirmNow (sym (crash_next o e h (ap is_crash i))) (firm_recovered d.current)
    go (Begun from t b a begun c cur nil quiet sent) was = on (subst IsFirmNow (sym cur) (firm_fresh (Under t b a.peer)))
    go (Plain c begun same) was = on (subst IsFirmNow (sym same) was)

decided_now : (o : Origin) (up : Option Addr) (h : List Entry) → IsLegal o up h → IsDecided o.who.node (reverse (records o h)) (records o h) (recovered_current (digest o h).current)
decided_now o up h legal =
    let start : is_start (again o h) ≡ true = start_again o up h legal in
    let rs : List LogRec = reverse (records o h) in
    let b : ℕ = suc (digest o h).boot in
    let follow : all_follow (LogRec.Boot b ∷ rs) ≡ true = and_left (all_follow (LogRec.Boot b ∷ rs)) (are_own_records o.who.node b rs) start in
    let own : are_own_records o.who.node b rs ≡ true = and_right (all_follow (LogRec.Boot b ∷ rs)) (are_own_records o.who.node b rs) start in
    subst (λ (c : Option Current). IsDecided o.who.node rs (records o h) c) (log_current o up h legal)
    (subst (λ (l : List LogRec). IsDecided o.who.node rs l (current_from None rs)) (reverse-reverse (records o h)) (decided_log o.who.node b b rs (follow_on b rs follow) own))
  where
    follow_on : (b : ℕ) (rs : List LogRec) → all_follow (LogRec.Boot b ∷ rs) ≡ true → follow_from (LogRec.Boot b ∷ []) rs ≡ true
    follow_on b rs h = and_right (follows [] (LogRec.Boot b)) (follow_from (LogRec.Boot b ∷ []) rs) h

pub decision_law : (o : Origin) (up : Option Addr) (h : List Entry) (c : Current) → IsLegal o up h → (digest o h).current ≡ Some c → c.decision ≡ decision_for o (node_key c.key) h
decision_law o up h c legal is = go (is_rolling c.phase) refl
  where
    k : NodeKey
    k = node_key c.key

    told : IsLogTold o h
    told = log_told o up h legal

    by : IsDecided o.who.node (reverse (records o h)) (records o h) (recovered_current (digest o h).current)
    by = decided_now o up h legal

    rolling : is_rolling_in o k h ≡ is_rolling c.phase
    rolling = (key_law o up h k legal).rolling ∙ ap (λ (v : Option Current). is_rolling (phase_of_key v k)) is ∙ mine
      where
        mine : is_rolling (phase_of_key (Some c) k) ≡ is_rolling c.phase
        mine = let self : is_key k k ≡ true = key_self k in rw self refl

    left : (p : Phase) → c.phase ≡ p → is_rolling p ≡ false → c.decision ≡ decision_since k (records o h)
    left Phase.Nil i off = absurd (let no : None ≡ Some c = sym (nothing_late (digest o h) (late_law o up h legal.grown) (ap (λ (v : Option Current). is_nil (elim v as (λ _. Phase) [ None ↦ Phase.Nil | Some x ↦ x.phase ])) is ∙ ap is_nil i)) ∙ is in cc (no))
    left Phase.Active i off =
        let sound = sound_at o up h legal in
        let none : c.decision ≡ None = sound.3 c is (ap is_active i) in
        let apart : AreApart k (digest o h).kept = sound.0 c is (ap is_rolling i) in
        let gone : recovered_current (digest o h).current ≡ None = ap recovered_current is ∙ ap (λ (p : Phase). recovered_current (Some (record c { phase = p }))) i in
        none ∙ sym (by.none k (told.fit.none k (apart_noted k (digest o h).kept apart) (λ x at. absurd (let no : None ≡ Some x = sym gone ∙ at in cc (no)))))
    left Phase.Ready i off = let again : recovered_current (digest o h).current ≡ Some (recovered c.key Phase.Ready (named_again c.branches) c.decision) = ap recovered_current is ∙ ap (λ (p : Phase). recovered_current (Some (record c { phase = p }))) i in by.now (recovered c.key Phase.Ready (named_again c.branches) c.decision) again
    left Phase.Committing i off =
        let again : recovered_current (digest o h).current ≡ Some (recovered c.key Phase.Committing (named_again c.branches) c.decision) = ap recovered_current is ∙ ap (λ (p : Phase). recovered_current (Some (record c { phase = p }))) i in
        by.now (recovered c.key Phase.Committing (named_again c.branches) c.decision) again
    left Phase.Rolling i off = absurd (cc (off))

    go : (b : Bool) → is_rolling c.phase ≡ b → c.decision ≡ decision_for o k h
    go true i = let on : is_rolling_in o k h ≡ true = rolling ∙ i in firm_law o up h legal c is i ∙ rw (on, decision_for) refl
    go false i = let off : is_rolling_in o k h ≡ false = rolling ∙ i in left c.phase refl i ∙ rw (off, decision_for) refl

outcome_same : (x y : Option Outcome) → x ≡ y → same_option is_outcome x y ≡ true
outcome_same x y h1 = grind (arith, outcome_self)

pub decision_agrees_law : (o : Origin) (up : Option Addr) (h : List Entry) → IsLegal o up h → decision_agrees o h ≡ true
decision_agrees_law o up h legal = grind (arith, decision_law, outcome_same)
