-- The records of a legal history are such as the next start may find.
use Rattle.std.proofs.Common.{◌≡◌, ◌≤◌, ℕ, suc, Bool, true, refl, ap, sym, subst, ◌∙◌, arith, Option, Some, None, List, [], ◌∷◌, ◌++◌, ◌&&◌, reverse}
use Rattle.std.specs.Prelude.{nat_le, nat_lt}
use Rattle.std.proofs.lemmas.Bool.Decides.{nat_tests}
use Rattle.std.proofs.lemmas.List.{reverse-append, reverse-reverse}
use Rattle.tp_names.specs.declared.identifiers.Aaid.{Aaid}
use Rattle.tp_names.specs.declared.identifiers.BranchId.{BranchId}
use Rattle.tp_names.specs.declared.identifiers.NodeKey.{NodeKey}
use Rattle.tp_names.specs.declared.identifiers.Addr.{Addr}
use Rattle.tp_names.specs.declared.children.Child.{Child}
use Rattle.tp_names.specs.declared.outcome.Outcome.{Outcome}
use Rattle.tp_records.specs.declared.dialogue.DialogueRecord.{DialogueRecord}
use Rattle.tp_records.specs.declared.peer.PeerRecord.{PeerRecord}
use Rattle.tp_logrec.specs.declared.record.LogRec.{LogRec}
use Rattle.tp_logrec.specs.Order.{all_follow}
use Rattle.tp_model.specs.declared.arc.Phase.{Phase}
use Rattle.tp_model.specs.declared.recovery.Kept.{Kept}
use Rattle.tp_model.specs.Parts.{Who, Origin, Event, Entry, Arc, Key, Under, Branch, Current, Digest}
use Rattle.tp_model.specs.Dialogues.{is_active}
use Rattle.tp_model.specs.Arcs.{find_arc}
use Rattle.tp_model.specs.Transactions.{children_of}
use Rattle.tp_model.specs.Recovery.{kept_by}
use Rattle.tp_model.specs.Keys.{key_of}
use Rattle.tp_model.specs.Node.{Move, seen_rows, fresh_current}
use Rattle.tp_model.specs.Events.{fresh_branches, named_again, recovered_current, after_crash, key_in_log, current_in_log, without_current, current_by, current_from, kept_from, started, action}
use Rattle.tp_model.specs.History.{digest, with_rec, records, again}
use Rattle.tp_model.specs.World.{Node}
use Rattle.tp_model.specs.Happenings.{Happening, run}
use Rattle.tp_model.specs.Promises.{IsIn}
use Rattle.tp_model.specs.Legal.{is_older, is_own_record, are_own_records, are_apart, is_start, IsGrown, IsLegal, RestartIsCrash, RecordsFollow, StartsAgain}
use Rattle.tp_steps.specs.Moves.{prelude, begun_in, counted_in}
use Rattle.tp_histories.specs.Restart.{are_earlier, IsFounded}
use Rattle.tp_steps.proofs.lemmas.Equality.{and_left, and_right, both_true}
use Rattle.tp_steps.proofs.every.EveryEvent.{every_move}
use Rattle.tp_histories.proofs.trees.Late.{late_law}
use Rattle.tp_steps.proofs.links.Marks.{Drawn}
use Rattle.tp_steps.proofs.log.OwnRecords.{AreAt, IsOwnRec, at_after, at_noted}
use Rattle.tp_steps.proofs.log.CurrentLog.{named_seen}
use Rattle.tp_steps.proofs.log.SoundMoves.{AllKeys, KeepsKeys, keys_noted, keys_after}
use Rattle.tp_histories.proofs.log.SoundLog.{drawn_by, not_active}
use Rattle.tp_histories.proofs.log.OrderMoves.{IsReached, at_most_le}
use Rattle.tp_histories.proofs.log.StartLog.{IsSoundStart, sound_start}
use Rattle.tp_histories.proofs.log.RestartLog.{founded, restart}
use Rattle.tp_histories.proofs.log.OrderLog.{rises, reached_first, order_law, records_follow}
use Rattle.tp_steps.proofs.log.KinTurns.{kin, kids_seen}
use Rattle.tp_histories.proofs.log.WellMoves.{is_reached, IsReachedKey, is_well, AreDrawn, IsWellIn, IsWellMove, drawn_list, apart_children, well_moves}

-- ---- records of boots that were reached

abbrev pub all_well : ℕ → ℕ → List LogRec → Bool
all_well n b [] = true
all_well n b (r ∷ rs) = is_well n b r && all_well n b rs

reach_later : (b c : ℕ) (k : NodeKey) → b ≤ c → is_reached b k ≡ true → is_reached c k ≡ true
reach_later b c k le h = go k.branch h
  where
    go : (x : Option BranchId) → is_reached b (record k { branch = x }) ≡ true → is_reached c (record k { branch = x }) ≡ true
    go None h = at_most_le k.aaid.mark.boot b c h le
    go (Some i) h = refl

well_later : (n b c : ℕ) (r : LogRec) → b ≤ c → is_well n b r ≡ true → is_well n c r ≡ true
well_later n b c (LogRec.Boot m) le h = h
well_later n b c (LogRec.Ready m k s cs) le h = let x = reach_later b c k le (grind (arith, h)) in grind (arith, h, x)
well_later n b c (LogRec.Heuristic m k o) le h = let x = reach_later b c k le (grind (arith, h)) in grind (arith, h, x)
well_later n b c (LogRec.Commit m k s cs) le h = let x = reach_later b c k le (grind (arith, h)) in grind (arith, h, x)
well_later n b c (LogRec.Damage m k s o r cs) le h = let x = reach_later b c k le (grind (arith, h)) in grind (arith, h, x)
well_later n b c (LogRec.End m k o) le h = let x = reach_later b c k le (grind (arith, h)) in grind (arith, h, x)

all_later : (n b c : ℕ) (rs : List LogRec) → b ≤ c → all_well n b rs ≡ true → all_well n c rs ≡ true
all_later n b c [] le h = refl
all_later n b c (r ∷ rs) le h =
    both_true (is_well n c r) (all_well n c rs) (well_later n b c r le (and_left (is_well n b r) (all_well n b rs) h)) (all_later n b c rs le (and_right (is_well n b r) (all_well n b rs) h))

all_end : (n b : ℕ) (rs : List LogRec) (r : LogRec) → all_well n b rs ≡ true → is_well n b r ≡ true → all_well n b (rs ++ r ∷ []) ≡ true
all_end n b [] r h i = both_true (is_well n b r) true i refl
all_end n b (x ∷ xs) r h i =
    both_true (is_well n b x) (all_well n b (xs ++ r ∷ [])) (and_left (is_well n b x) (all_well n b xs) h) (all_end n b xs r (and_right (is_well n b x) (all_well n b xs) h) i)

keys_later : (b c : ℕ) (ks : List Kept) → b ≤ c → AllKeys (IsReachedKey b) ks → AllKeys (IsReachedKey c) ks
keys_later b c [] le h = tt
keys_later b c (k ∷ ks) le h = (reach_later b c k.key le h.0, keys_later b c ks le h.1)

-- after the next boot they are older
older : (b : ℕ) (k : NodeKey) → is_reached b k ≡ true → is_older (suc b) k ≡ true
older b k h = go k.branch h
  where
    below : (i : ℕ) → nat_le i b ≡ true → nat_lt i (suc b) ≡ true
    below i h = grind (arith, nat_tests, h)

    go : (x : Option BranchId) → is_reached b (record k { branch = x }) ≡ true → is_older (suc b) (record k { branch = x }) ≡ true
    go None h = below k.aaid.mark.boot h
    go (Some i) h = refl

abbrev is_older_rec : ℕ → LogRec → Bool
is_older_rec boot r = elim (key_of r) [ None ↦ true | Some k ↦ is_older boot k ]

own_next : (n b : ℕ) (r : LogRec) → is_well n b r ≡ true → (is_own_record n (suc b) r ≡ true) × (is_older_rec (suc b) r ≡ true)
own_next n b (LogRec.Boot m) h = absurd (cc (h))
own_next n b (LogRec.Ready m k s cs) h = let one = older b k (grind (arith, h)) in (grind (arith, h, one), one)
own_next n b (LogRec.Heuristic m k o) h = let one = older b k (grind (arith, h)) in (grind (arith, h, one), one)
own_next n b (LogRec.Commit m k s cs) h = let one = older b k (grind (arith, h)) in (grind (arith, h, one), one)
own_next n b (LogRec.Damage m k s o r cs) h = let one = older b k (grind (arith, h)) in (grind (arith, h, one), one)
own_next n b (LogRec.End m k o) h = let one = older b k (grind (arith, h)) in (grind (arith, h, one), one)

all_next : (n b : ℕ) (rs : List LogRec) → all_well n b rs ≡ true → (are_own_records n (suc b) rs ≡ true) × (are_earlier (suc b) rs ≡ true)
all_next n b [] h = (refl, refl)
all_next n b (r ∷ rs) h =
    let one = own_next n b r (and_left (is_well n b r) (all_well n b rs) h) in
    let rest = all_next n b rs (and_right (is_well n b r) (all_well n b rs) h) in
    (both_true (is_own_record n (suc b) r) (are_own_records n (suc b) rs) one.0 rest.0, both_true (is_older_rec (suc b) r) (are_earlier (suc b) rs) one.1 rest.1)

-- ---- what comes first in an event

well_same : (who : Who) (d e : Digest) → Drawn d e → d.boot ≤ e.boot → e.current ≡ d.current → e.kept ≡ d.kept → IsReached e → IsWellIn who d → IsWellIn who e
well_same who d e drawn le now kept reached h = (
  reached,
  subst (λ (ks : List Kept). AllKeys (IsReachedKey e.boot) ks) (sym kept) (keys_later d.boot e.boot d.kept le h.1),
  (λ c is. let s = h.2 c (sym now ∙ is) in (s.0, λ act. drawn_list who d e (kin c.branches) drawn (s.1 act))),
  subst (λ (ks : List Kept). AreAt who.node ks) (sym kept) h.3,
)

pub kin_fresh : (cs : List Child) → kin (fresh_branches cs) ≡ cs
kin_fresh [] = refl
kin_fresh (c ∷ cs) = ap (λ (ds : List Child). c ∷ ds) (kin_fresh cs)

apart_named : (bs : List Branch) → are_apart (kin bs) ≡ true → are_apart (kin (named_again bs)) ≡ true
apart_named bs h = ap (λ (xs : List Branch). are_apart (kin xs)) (named_seen [] bs) ∙ ap are_apart (kin_fresh (children_of (seen_rows [] bs))) ∙ apart_children (seen_rows [] bs) (ap are_apart (kids_seen [] bs) ∙ h)

logged_branches : (o : Option Current) (c : Current) → recovered_current o ≡ Some c → (u : Current) × (o ≡ Some u) × (c.branches ≡ named_again u.branches)
logged_branches None c h = absurd (cc (h))
logged_branches (Some u) c h = (u, refl, go u.phase h)
  where
    go : (p : Phase) → recovered_current (Some (record u { phase = p })) ≡ Some c → c.branches ≡ named_again u.branches
    go Phase.Nil h = absurd (cc (h))
    go Phase.Active h = absurd (cc (h))
    go Phase.Ready h = grind (arith, h)
    go Phase.Committing h = grind (arith, h)
    go Phase.Rolling h = absurd (cc (h))

well_crash : (who : Who) (d : Digest) → IsReached (after_crash d) → IsWellIn who d → IsWellIn who (after_crash d)
unfolding after_crash
well_crash who d reached h = (
  reached,
  keys_noted (IsReachedKey (suc d.boot)) d.kept (keys_later d.boot (suc d.boot) d.kept (omega arith) h.1),
  (λ c is. let v = logged_branches d.current c is in
      (ap (λ (bs : List Branch). are_apart (kin bs)) v.2 ∙ apart_named v.0.branches (h.2 v.0 v.1).0, λ act. absurd (let off = not_active d.current c is in cc (off, act)))),
  at_noted who.node d.kept h.3,
)

well_begun : (who : Who) (d g : Digest) (t : Aaid) (b : BranchId) (a : Arc) → g.boot ≡ d.boot → g.kept ≡ d.kept → IsReached (record g { current = Some (fresh_current (Under t b a.peer)) }) → IsWellIn who d
    → IsWellIn who (record g { current = Some (fresh_current (Under t b a.peer)) })
well_begun who d g t b a boot kept reached h =
    let e : Digest = record g { current = Some (fresh_current (Under t b a.peer)) } in (
      reached,
      subst (λ (n : ℕ). AllKeys (IsReachedKey n) g.kept) (sym boot) (subst (λ (ks : List Kept). AllKeys (IsReachedKey d.boot) ks) (sym kept) h.1),
      (λ c is. let same : fresh_current (Under t b a.peer) ≡ c = cc (is) in
          subst (λ (x : Current). (are_apart (kin x.branches) ≡ true) × (is_active x.phase ≡ true → AreDrawn who e (kin x.branches))) same (refl, λ act. tt)),
      subst (λ (ks : List Kept). AreAt who.node ks) (sym kept) h.3,
    )

well_plain : (who : Who) (d : Digest) (e : Event) → (prelude who d e).current ≡ d.current → (prelude who d e).kept ≡ d.kept → IsWellIn who d → IsWellIn who (prelude who d e)
well_plain who d e now kept h = well_same who d (prelude who d e) (drawn_by who d e) (rises who d e) now kept (reached_first who d e h.0) h

well_first : (who : Who) (d : Digest) (e : Event) → IsWellIn who d → IsWellIn who (prelude who d e)
well_first who d (Event.Declare u) h = well_plain who d (Event.Declare u) refl refl h
well_first who d (Event.Do r) h = well_plain who d (Event.Do r) (grind arith) (grind arith) h
well_first who d (Event.Arrive from (PeerRecord.OnAssoc x y q (DialogueRecord.Begin t b k))) h = go (find_arc d.arcs from.node) (reached_first who d (Event.Arrive from (PeerRecord.OnAssoc x y q (DialogueRecord.Begin t b k))) h.0)
  where
    go : (o : Option Arc) → IsReached (begun_in o t b (counted_in d from)) → IsWellIn who (begun_in o t b (counted_in d from))
    go None reached = h
    go (Some a) reached = well_begun who d (counted_in d from) t b a refl refl reached h
well_first who d (Event.Arrive from r) h = well_plain who d (Event.Arrive from r) (grind arith) (grind arith) h
well_first who d Event.Crash h = well_crash who d (reached_first who d Event.Crash h.0) h
well_first who d _ h = h

-- ---- the start

earlier_reached : (b : ℕ) (k : NodeKey) → is_older b k ≡ true → is_reached b k ≡ true
earlier_reached b k h = go k.branch h
  where
    go : (x : Option BranchId) → is_older b (record k { branch = x }) ≡ true → is_reached b (record k { branch = x }) ≡ true
    go None h = grind (arith, nat_tests, h)
    go (Some i) h = refl

own_well : (n b : ℕ) (r : LogRec) → is_own_record n b r ≡ true → is_older_rec b r ≡ true → is_well n b r ≡ true
own_well n b (LogRec.Boot m) h i = h
own_well n b (LogRec.Ready m k s cs) h i = let x = earlier_reached b k i in grind (arith, h, x)
own_well n b (LogRec.Heuristic m k o) h i = let x = earlier_reached b k i in grind (arith, h, x)
own_well n b (LogRec.Commit m k s cs) h i = let x = earlier_reached b k i in grind (arith, h, x)
own_well n b (LogRec.Damage m k s o r cs) h i = let x = earlier_reached b k i in grind (arith, h, x)
own_well n b (LogRec.End m k o) h i = let x = earlier_reached b k i in grind (arith, h, x)

all_own_well : (n b : ℕ) (rs : List LogRec) → are_own_records n b rs ≡ true → are_earlier b rs ≡ true → all_well n b rs ≡ true
all_own_well n b [] h i = refl
all_own_well n b (r ∷ rs) h i =
    both_true (is_well n b r) (all_well n b rs)
    (own_well n b r (and_left (is_own_record n b r) (are_own_records n b rs) h) (and_left (is_older_rec b r) (are_earlier b rs) i))
    (all_own_well n b rs (and_right (is_own_record n b r) (are_own_records n b rs) h) (and_right (is_older_rec b r) (are_earlier b rs) i))

-- what such records leave
abbrev IsApartNow : Option Current → Type 0
IsApartNow o = (c : Current) → o ≡ Some c → are_apart (kin c.branches) ≡ true

apart_logged : (k : Option Key) (p : Phase) (cs : List Child) (u : Option Outcome) → are_apart cs ≡ true → IsApartNow (current_in_log k p cs u)
apart_logged None p cs u h c is = absurd (cc (is))
apart_logged (Some k) p cs u h c is =
    let same : fresh_branches cs ≡ c.branches = grind (arith, is) in
    ap (λ (bs : List Branch). are_apart (kin bs)) (sym same) ∙ ap are_apart (kin_fresh cs) ∙ h

apart_let_go : (k : NodeKey) (o : Option Current) → IsApartNow o → IsApartNow (without_current k o)
apart_let_go k None h c is = absurd (cc (is))
apart_let_go k (Some x) h c is = h c (grind (arith, is))

apart_by : (n b : ℕ) (r : LogRec) (o : Option Current) → is_well n b r ≡ true → IsApartNow o → IsApartNow (current_by r o)
apart_by n b (LogRec.Boot m) o w h = h
apart_by n b (LogRec.Ready m k s cs) o w h = apart_logged (key_in_log k (Some s)) Phase.Ready cs None (grind (arith, w))
apart_by n b (LogRec.Heuristic m k u) None w h = λ c is. absurd (cc (is))
apart_by n b (LogRec.Heuristic m k u) (Some x) w h = λ c is. let same : ◌≡◌ {A = Current} (record x { decision = Some u }) c = cc (is) in subst (λ (y : Current). are_apart (kin y.branches) ≡ true) same (h x refl)
apart_by n b (LogRec.Commit m k s cs) o w h = apart_logged (key_in_log k s) Phase.Committing cs _ (grind (arith, w))
apart_by n b (LogRec.Damage m k s u v cs) o w h = apart_let_go k o h
apart_by n b (LogRec.End m k u) o w h = apart_let_go k o h

keeps_by : (n b : ℕ) (r : LogRec) → is_well n b r ≡ true → KeepsKeys (IsReachedKey b) (Some r) × IsOwnRec n (Some r)
keeps_by n b (LogRec.Boot m) w = absurd (cc (w))
keeps_by n b (LogRec.Damage m k s u v cs) w = (grind (arith, w), grind (arith, nat_tests, w))
keeps_by n b _ w = (tt, grind (arith, nat_tests, w))

well_from : (n b : ℕ) (rs : List LogRec) (o : Option Current) (ks : List Kept) → all_well n b rs ≡ true → IsApartNow o → AllKeys (IsReachedKey b) ks → AreAt n ks
    → IsApartNow (current_from o rs) × AllKeys (IsReachedKey b) (kept_from ks rs) × AreAt n (kept_from ks rs)
well_from n b [] o ks w h i j = (h, i, j)
well_from n b (r ∷ rs) o ks w h i j =
    let one : is_well n b r ≡ true = and_left (is_well n b r) (all_well n b rs) w in
    let keeps = keeps_by n b r one in
    well_from n b rs (current_by r o) (kept_by r ks) (and_right (is_well n b r) (all_well n b rs) w) (apart_by n b r o one h) (keys_after (IsReachedKey b) (Some r) ks i keeps.0) (at_after n (Some r) ks j keeps.1)

-- ---- every legal history

pub record IsWellLog (o : Origin) (rs : List LogRec) (d : Digest) : Type 0 where
  pub all : all_well o.who.node d.boot rs ≡ true
  pub inside : IsWellIn o.who d

pub well_start : (o : Origin) → IsSoundStart o → is_start o ≡ true → are_earlier o.start.boot o.start.records ≡ true → IsWellLog o o.start.records (digest o [])
unfolding started
well_start o sound start earlier =
    let rs : List LogRec = o.start.records in
    let n : ℕ = o.who.node in
    let b : ℕ = o.start.boot in
    let well : all_well n b rs ≡ true = all_own_well n b rs (and_right (all_follow (LogRec.Boot b ∷ rs)) (are_own_records n b rs) start) earlier in
    let left = well_from n b rs None [] well (λ c is. absurd (cc (is))) tt tt in
    record {
      all = well;
      inside = (sound.reached, left.1, (λ c is. (left.0 c is, λ act. absurd (let off = not_active (current_from None rs) c (sound.again ∙ is) in cc (off, act)))), left.2);
    }

well_event : (o : Origin) (rs : List LogRec) (d : Digest) (m : Move) (x : Option LogRec) → m.rec ≡ x → IsWellMove o.who d m → IsWellLog o (reverse rs) d → IsWellLog o (reverse (with_rec x rs)) m.next
well_event o rs d m None made moved h =
    record { all = subst (λ (b : ℕ). all_well o.who.node b (reverse rs) ≡ true) (sym moved.0.0) h.all; inside = (moved.1 h.inside).0 }
well_event o rs d m (Some r) made moved h =
    let n : ℕ = o.who.node in
    record {
      all =
          subst (λ (b : ℕ). all_well n b (reverse (r ∷ rs)) ≡ true) (sym moved.0.0)
          (ap (all_well n d.boot) (reverse-append (r ∷ []) rs) ∙ all_end n d.boot (reverse rs) r h.all ((moved.1 h.inside).1 r made));
      inside = (moved.1 h.inside).0;
    }

pub well_law : (o : Origin) (up : Option Addr) (h : List Entry) → IsWellLog o o.start.records (digest o []) → IsGrown o up h → IsWellLog o (reverse (records o h)) (digest o h)
well_law o up [] start legal = subst (λ (rs : List LogRec). IsWellLog o rs (digest o [])) (sym (reverse-reverse o.start.records)) start
well_law o up (e ∷ h) start legal =
    let d : Digest = digest o h in
    let p : Digest = prelude o.who d e.event in
    let before : IsWellLog o (reverse (records o h)) d = well_law o up h start legal.3 in
    let moved : IsWellMove o.who p (action o.who d e.event) = every_move o.who d e.event (IsWellMove o.who) (well_moves o.who e.event p) (late_law o up h legal.3) legal.0 in
    well_event o (records o h) p (action o.who d e.event) e.rec (ap (λ (x : Entry). x.rec) legal.1) moved
    (record { all = all_later o.who.node d.boot p.boot (reverse (records o h)) (rises o.who d e.event) before.all; inside = well_first o.who d e.event before.inside })

-- the records are such as the next start may find, and it is founded as this one was
pub starts_again : (o : Origin) (up : Option Addr) (h : List Entry) → IsFounded o up h → (is_start (again o h) ≡ true) × (are_earlier (again o h).start.boot (again o h).start.records ≡ true)
starts_again o up h is =
    let d : Digest = digest o h in
    let sound : IsSoundStart o = sound_start o is.legal.start is.earlier in
    let well : IsWellLog o (reverse (records o h)) d = well_law o up h (well_start o sound is.legal.start is.earlier) is.legal.grown in
    let next = all_next o.who.node d.boot (reverse (records o h)) well.all in (
      both_true (all_follow (LogRec.Boot (suc d.boot) ∷ reverse (records o h))) (are_own_records o.who.node (suc d.boot) (reverse (records o h)))
          ((order_law o up h sound is.legal.grown).follow (suc d.boot) (omega arith)) next.0,
      next.1,
    )

pub run_starts : (es : List Happening) (x : Node) → IsIn (run es) x → is_start (again x.origin x.history) ≡ true
run_starts es x here = (starts_again x.origin x.superior x.history (founded es x here)).0

-- ---- as the promises of one node state it

own_earlier : (n b : ℕ) (r : LogRec) → is_own_record n b r ≡ true → is_older_rec b r ≡ true
own_earlier n b (LogRec.Boot m) h = refl
own_earlier n b _ h = grind (arith, h)

all_own_earlier : (n b : ℕ) (rs : List LogRec) → are_own_records n b rs ≡ true → are_earlier b rs ≡ true
all_own_earlier n b [] h = refl
all_own_earlier n b (r ∷ rs) h =
    both_true (is_older_rec b r) (are_earlier b rs) (own_earlier n b r (and_left (is_own_record n b r) (are_own_records n b rs) h)) (all_own_earlier n b rs (and_right (is_own_record n b r) (are_own_records n b rs) h))

pub founded_by : (o : Origin) (up : Option Addr) (h : List Entry) → IsLegal o up h → IsFounded o up h
founded_by o up h legal = record { legal = legal; earlier = all_own_earlier o.who.node o.start.boot o.start.records (and_right (all_follow (LogRec.Boot o.start.boot ∷ o.start.records)) (are_own_records o.who.node o.start.boot o.start.records) legal.start) }

pub restart_is_crash : RestartIsCrash
restart_is_crash o up h legal = restart o up h (founded_by o up h legal)

pub follow : RecordsFollow
follow o up h legal = records_follow o up h (founded_by o up h legal)

pub start_again : StartsAgain
start_again o up h legal = (starts_again o up h (founded_by o up h legal)).0
