-- Each record that an event forces is of the node, of a boot that was reached, and of branches apart: an instance of the
-- steps of a node.
use Rattle.std.proofs.Common.{if◌then◌else◌, ◌≡◌, ℕ, Bool, true, false, refl, ap, sym, subst, ◌∙◌, arith, Option, Some, None, List, [], ◌∷◌, ◌++◌, ◌&&◌, ◌==◌}
use Rattle.std.specs.Prelude.{nat_le}
use Rattle.tp_names.specs.declared.identifiers.Mark.{Mark}
use Rattle.tp_names.specs.declared.identifiers.BranchId.{BranchId}
use Rattle.tp_names.specs.declared.identifiers.NodeKey.{NodeKey}
use Rattle.tp_names.specs.declared.children.Child.{Child}
use Rattle.tp_names.specs.Same.{is_branch}
use Rattle.tp_logrec.specs.declared.record.LogRec.{LogRec}
use Rattle.tp_model.specs.declared.arc.Phase.{Phase}
use Rattle.tp_model.specs.declared.transaction.TxEvent.{TxEvent}
use Rattle.tp_model.specs.declared.recovery.Kept.{Kept}
use Rattle.tp_model.specs.declared.recovery.KeptEvent.{KeptEvent}
use Rattle.tp_model.specs.Parts.{Who, Event, Arc, Key, Root, Under, Current, Digest}
use Rattle.tp_model.specs.Dialogues.{is_active}
use Rattle.tp_model.specs.Arcs.{find_arc}
use Rattle.tp_model.specs.Transactions.{Row, Transaction, Turn, node_key, is_under, row_holds, find_row, child_of, children_of, situation_of, transacted}
use Rattle.tp_model.specs.Recovery.{settled}
use Rattle.tp_model.specs.Node.{Move, followed, next_mark, with_mark_drawn, phase_of, seen, seen_rows, may_begin_on, begin_on, fresh_current, turned, keep}
use Rattle.tp_model.specs.Legal.{is_apart, are_apart}
use Rattle.tp_steps.specs.Moves.{Moves, IsPut, IsAmong}
use Rattle.tp_steps.specs.Passages.{IsLogged, IsPassed}
use Rattle.tp_steps.specs.Traces.{is_old}
use Rattle.tp_steps.proofs.lemmas.Equality.{and_left, and_right, both_true, branches_equal}
use Rattle.tp_steps.proofs.every.EveryMove.{quiet_begin}
use Rattle.tp_steps.proofs.links.Marks.{new_mark, Drawn, Same_boot, old_stays, drawn_old}
use Rattle.tp_steps.proofs.log.Passed.{passed_turn}
use Rattle.tp_steps.proofs.lemmas.Phases.{was_active}
use Rattle.tp_steps.proofs.log.OwnRecords.{IsOwnRec, own_turn, AreAt, at_after, at_noted, at_unnoted, at_among, settled_own}
use Rattle.tp_steps.proofs.log.ApartLog.{IsOfKept, settled_of}
use Rattle.tp_steps.proofs.log.Sound.{left_is, left_branches}
use Rattle.tp_steps.proofs.log.SoundMoves.{AllKeys, keys_noted, keys_unnoted, keys_after, logged_keys, kept_keys, keys_among}
use Rattle.tp_histories.proofs.log.OrderMoves.{IsReached, IsReachedMove, reached_root, reached_moves}
use Rattle.tp_steps.proofs.log.KinTurns.{kin, kids, kids_seen, kids_left, kids_more, kin_turn}
use Rattle.tp_steps.proofs.every.BeginCases.{begun_over, begin_cases}
use Rattle.tp_histories.proofs.known.KnownPlain.{number_self}

-- ---- records as a later start may find them

abbrev pub is_reached : ℕ → NodeKey → Bool
is_reached b k = elim k.branch [ None ↦ nat_le k.aaid.mark.boot b | Some c ↦ true ]

abbrev pub IsReachedKey : ℕ → NodeKey → Type 0
IsReachedKey b k = is_reached b k ≡ true

abbrev pub is_well : ℕ → ℕ → LogRec → Bool
is_well n b (LogRec.Boot m) = false
is_well n b (LogRec.Ready m k s cs) = (m == n) && is_reached b k && are_apart cs
is_well n b (LogRec.Heuristic m k u) = (m == n) && is_reached b k
is_well n b (LogRec.Commit m k s cs) = (m == n) && is_reached b k && are_apart cs
is_well n b (LogRec.Damage m k s u r cs) = (m == n) && is_reached b k
is_well n b (LogRec.End m k u) = (m == n) && is_reached b k

-- the identifiers are of marks that are drawn
abbrev pub AreDrawn : Who → Digest → List Child → Type 0
AreDrawn who d [] = Unit {0}
AreDrawn who d (c ∷ cs) = (is_old who d c.branch.mark ≡ true) × AreDrawn who d cs

-- the branches are apart, and those of an active transaction have identifiers of marks that are drawn
abbrev pub IsSpread : Who → Digest → Type 0
IsSpread who d = (c : Current) → d.current ≡ Some c → (are_apart (kin c.branches) ≡ true) × (is_active c.phase ≡ true → AreDrawn who d (kin c.branches))

abbrev pub IsWellIn : Who → Digest → Type 0
IsWellIn who d = IsReached d × AllKeys (IsReachedKey d.boot) d.kept × IsSpread who d × AreAt who.node d.kept

abbrev pub IsWellMove : Who → Digest → Move → Type 0
IsWellMove who d m = IsReachedMove d m × (IsWellIn who d → IsWellIn who m.next × ((r : LogRec) → m.rec ≡ Some r → is_well who.node d.boot r ≡ true))

-- ---- branches

pub drawn_list : (who : Who) (d e : Digest) (cs : List Child) → Drawn d e → AreDrawn who d cs → AreDrawn who e cs
drawn_list who d e [] drawn h = tt
drawn_list who d e (c ∷ cs) drawn h = (old_stays who d e c.branch.mark drawn h.0, drawn_list who d e cs drawn h.1)

apart_below : (c : Child) (rows : List Row) → is_apart c (kids rows) ≡ true → is_apart c (children_of rows) ≡ true
apart_below c [] h = refl
apart_below c (r ∷ rs) h = go r.branch.left h (apart_below c rs)
  where
    go : (l : Bool) → is_apart c (kids (r ∷ rs)) ≡ true → (is_apart c (kids rs) ≡ true → is_apart c (children_of rs) ≡ true)
        → is_apart c (if l then children_of rs else child_of r.branch ∷ children_of rs) ≡ true
    go true h rest = rest (grind (arith, h))
    go false h rest = let one = rest (grind (arith, h)) in grind (arith, h, one)

-- those that did not leave are apart too
pub apart_children : (rows : List Row) → are_apart (kids rows) ≡ true → are_apart (children_of rows) ≡ true
apart_children [] h = refl
apart_children (r ∷ rs) h = go r.branch.left (apart_children rs (and_right (is_apart (child_of r.branch) (kids rs)) (are_apart (kids rs)) h))
  where
    go : (l : Bool) → are_apart (children_of rs) ≡ true → are_apart (if l then children_of rs else child_of r.branch ∷ children_of rs) ≡ true
    go true rest = rest
    go false rest = both_true (is_apart (child_of r.branch) (children_of rs)) (are_apart (children_of rs)) (apart_below (child_of r.branch) rs (and_left (is_apart (child_of r.branch) (kids rs)) (are_apart (kids rs)) h)) rest

-- a branch that begins

abbrev IsFar : Child → List Child → Type 0
IsFar c [] = Unit {0}
IsFar c (d ∷ ds) = ((d.addr.node == c.addr.node) ≡ false) × (is_branch d.branch c.branch ≡ false) × IsFar c ds

far_end : (d : Child) (ds : List Child) (c : Child) → is_apart d ds ≡ true → (d.addr.node == c.addr.node) ≡ false → is_branch d.branch c.branch ≡ false → is_apart d (ds ++ c ∷ []) ≡ true
far_end d [] c h i j = grind (arith, i, j)
far_end d (x ∷ xs) c h i j = let rest = far_end d xs c (grind (arith, h)) i j in grind (arith, h, rest)

far_more : (cs : List Child) (c : Child) → are_apart cs ≡ true → IsFar c cs → are_apart (cs ++ c ∷ []) ≡ true
far_more [] c h far = refl
far_more (d ∷ ds) c h far =
    both_true (is_apart d (ds ++ c ∷ [])) (are_apart (ds ++ c ∷ [])) (far_end d ds c (and_left (is_apart d ds) (are_apart ds) h) far.0 far.1) (far_more ds c (and_right (is_apart d ds) (are_apart ds) h) far.2)

far_rows : (who : Who) (d : Digest) (rows : List Row) (c : Child) → row_holds rows c.addr.node (λ b. true) ≡ false → AreDrawn who d (kids rows) → c.branch.mark ≡ next_mark who d → IsFar c (kids rows)
far_rows who d [] c h drawn next = tt
far_rows who d (r ∷ rs) c h drawn next = go (r.branch.peer.node == c.addr.node) refl (far_rows who d rs c)
  where
    differs : (v : Bool) → is_branch r.branch.id c.branch ≡ v → v ≡ false
    differs false e = refl
    differs true e =
        let same : r.branch.id ≡ c.branch = branches_equal r.branch.id c.branch e in
        let old : is_old who d (next_mark who d) ≡ true = subst (λ (m : Mark). is_old who d m ≡ true) (ap (λ (b : BranchId). b.mark) same ∙ next) drawn.0 in
        let young : is_old who d (next_mark who d) ≡ false = new_mark who d in
        absurd (cc (old, young))

    go : (b : Bool) → (r.branch.peer.node == c.addr.node) ≡ b → (row_holds rs c.addr.node (λ b. true) ≡ false → AreDrawn who d (kids rs) → c.branch.mark ≡ next_mark who d → IsFar c (kids rs)) → IsFar c (kids (r ∷ rs))
    go true e rest = let off : true ≡ false = rw (e, row_holds, find_row) at h in absurd (cc (off))
    go false e rest = (e, differs (is_branch r.branch.id c.branch) refl, rest (rw (e, row_holds, find_row) at h) drawn.1 next)

drawn_more : (who : Who) (d : Digest) (cs : List Child) (c : Child) → AreDrawn who d cs → is_old who d c.branch.mark ≡ true → AreDrawn who d (cs ++ c ∷ [])
drawn_more who d [] c h i = (i, tt)
drawn_more who d (x ∷ xs) c h i = (h.0, drawn_more who d xs c h.1 i)

-- ---- the record of a turn, and of a kept transaction

reached_key : (b : ℕ) (k : Key) → (is_under k ≡ false → nat_le (node_key k).aaid.mark.boot b ≡ true) → is_reached b (node_key k) ≡ true
reached_key b (Root t) h = h refl
reached_key b (Under t c a) h = refl

well_logged : (n b : ℕ) (t u : Transaction) (r : LogRec) → IsLogged t (Some r) u → IsOwnRec n (Some r) → is_reached b (node_key t.key) ≡ true → are_apart (children_of u.rows) ≡ true → is_well n b r ≡ true
well_logged n b t u (LogRec.Boot m) h own reach apart = absurd h
well_logged n b t u (LogRec.Ready m k s cs) h own reach apart =
    let one : is_reached b k ≡ true = ap (is_reached b) h.0 ∙ reach in let two : are_apart cs ≡ true = ap are_apart h.2 ∙ apart in let at = number_self m n own in grind (arith, one, two, at)
well_logged n b t u (LogRec.Heuristic m k o) h own reach apart = both_true (m == n) (is_reached b k) (number_self m n own) (ap (is_reached b) h.0 ∙ reach)
well_logged n b t u (LogRec.Commit m k s cs) h own reach apart =
    let one : is_reached b k ≡ true = ap (is_reached b) h.0 ∙ reach in let two : are_apart cs ≡ true = ap are_apart h.1 ∙ apart in let at = number_self m n own in grind (arith, one, two, at)
well_logged n b t u (LogRec.Damage m k s o r cs) h own reach apart = both_true (m == n) (is_reached b k) (number_self m n own) (ap (is_reached b) h.0 ∙ reach)
well_logged n b t u (LogRec.End m k o) h own reach apart = both_true (m == n) (is_reached b k) (number_self m n own) (ap (is_reached b) h ∙ reach)

well_kept : (n b : ℕ) (k : NodeKey) (r : LogRec) → IsOfKept k (Some r) → IsOwnRec n (Some r) → is_reached b k ≡ true → is_well n b r ≡ true
well_kept n b k (LogRec.Damage m j s o r cs) h own reach = both_true (m == n) (is_reached b j) (number_self m n own) (ap (is_reached b) h ∙ reach)
well_kept n b k (LogRec.End m j o) h own reach = both_true (m == n) (is_reached b j) (number_self m n own) (ap (is_reached b) h ∙ reach)
well_kept n b k _ h own reach = absurd h

-- ---- the steps

well_turned : (who : Who) (f : TxEvent) (d : Digest) (c : Current) → d.current ≡ Some c → IsPut f (seen who d.arcs c) → (IsReached d → IsReached (turned who f d c).next) → IsWellIn who d
    → IsWellIn who (turned who f d c).next × ((r : LogRec) → (turned who f d c).rec ≡ Some r → is_well who.node d.boot r ≡ true)
well_turned who f d c now put reached h =
    let t : Transaction = seen who d.arcs c in
    let a : Turn = transacted f t in
    let passed : IsPassed f t t a = passed_turn f t put in
    let own : IsOwnRec who.node a.rec = (own_turn f t put).1 in
    let reach : is_reached d.boot (node_key c.key) ≡ true = reached_key d.boot c.key (h.0 c now) in
    let same : kids a.next.rows ≡ kin c.branches = kin_turn f t put ∙ kids_seen d.arcs c.branches in
    let spread = h.2 c now in (
      (
        reached h.0,
        keys_after (IsReachedKey d.boot) a.rec d.kept h.1 (logged_keys (IsReachedKey d.boot) t a.next a.rec passed.logs reach),
        (λ u is.
            let left : kin u.branches ≡ kin c.branches = ap kin (left_branches a.next u is) ∙ kids_left a.next.rows ∙ same in (
              ap are_apart left ∙ spread.0,
              λ act. subst (λ (cs : List Child). AreDrawn who d cs) (sym left) (spread.1 (was_active c.phase a.next.phase passed.moves (ap is_active (sym (left_is a.next u is).1) ∙ act))),
            )),
        at_after who.node a.rec d.kept h.3 own,
      ),
      λ r is.
          well_logged who.node d.boot t a.next r (subst (λ (x : Option LogRec). IsLogged t x a.next) is passed.logs) (subst (λ (x : Option LogRec). IsOwnRec who.node x) is own) reach
          (apart_children a.next.rows (ap are_apart same ∙ spread.0)),
    )

well_keeps : (who : Who) (d : Digest) (k : Kept) (f : KeptEvent) → IsAmong d.kept k → IsWellIn who d → IsWellIn who (keep (settled k f) d).next × ((r : LogRec) → (settled k f).rec ≡ Some r → is_well who.node d.boot r ≡ true)
well_keeps who d k f among h =
    let of : IsOfKept k.key (settled k f).rec = settled_of k f in
    let own : IsOwnRec who.node (settled k f).rec = settled_own who.node k f (at_among who.node d.kept k h.3 among) in
    let reach : IsReachedKey d.boot k.key = keys_among (IsReachedKey d.boot) d.kept k h.1 among in (
      (h.0, keys_after (IsReachedKey d.boot) (settled k f).rec d.kept h.1 (kept_keys (IsReachedKey d.boot) k.key (settled k f).rec of reach), h.2, at_after who.node (settled k f).rec d.kept h.3 own),
      λ r is. well_kept who.node d.boot k.key r (subst (λ (x : Option LogRec). IsOfKept k.key x) is of) (subst (λ (x : Option LogRec). IsOwnRec who.node x) is own) reach,
    )

no_row : (who : Who) (d : Digest) (c : Current) (a : Arc) → d.current ≡ Some c → may_begin_on who d a ≡ true → row_holds (seen_rows d.arcs c.branches) a.peer.node (λ b. true) ≡ false
unfolding situation_of
no_row who d c a i j = go (row_holds (seen_rows d.arcs c.branches) a.peer.node (λ b. true)) refl
  where
    go : (v : Bool) → row_holds (seen_rows d.arcs c.branches) a.peer.node (λ b. true) ≡ v → v ≡ false
    go false e = refl
    go true e = absurd (grind (arith, i, j, e))

well_begins : (who : Who) (q : ℕ) (d : Digest) → (IsReached d → IsReached (begin_on who q d).next) → IsWellIn who d → IsWellIn who (begin_on who q d).next
well_begins who q d reached h = begin_cases (λ (m : Move). (IsReached d → IsReached m.next) → IsWellIn who m.next) who q d (λ r. h) on reached
  where
    on : (c : Current) (a : Arc) → d.current ≡ Some c → find_arc d.arcs q ≡ Some a → may_begin_on who d a ≡ true → (IsReached d → IsReached (begun_over who q d c a).next) → IsWellIn who (begun_over who q d c a).next
    on c a i found j reached =
        let child : Child = record { addr = a.peer; branch = record { superior = who.site; mark = next_mark who d } } in
        let e : Digest = with_mark_drawn d in
        let active : is_active (phase_of d) ≡ true = grind (arith, j) in
        let act : is_active c.phase ≡ true = ap (λ (o : Option Current). is_active (elim o as (λ _. Phase) [ None ↦ Phase.Nil | Some x ↦ x.phase ])) (sym i) ∙ active in
        let rows : List Row = seen_rows d.arcs c.branches in
        let same : kids rows ≡ kin c.branches = kids_seen d.arcs c.branches in
        let spread = h.2 c i in
        let drawn : AreDrawn who d (kids rows) = subst (λ (cs : List Child). AreDrawn who d cs) (sym same) (spread.1 act) in
        let next : Transaction = (transacted (TxEvent.Begun (child ∷ [])) (seen who d.arcs c)).next in (
          reached h.0,
          h.1,
          (λ u is.
              let left : kin u.branches ≡ kids rows ++ child ∷ [] = ap kin (left_branches next u is) ∙ kids_left next.rows ∙ kids_more rows child in (
                ap are_apart left ∙ far_more (kids rows) child (ap are_apart same ∙ spread.0) (far_rows who d rows child (no_row who d c a i j) drawn refl),
                λ on. subst (λ (cs : List Child). AreDrawn who e cs) (sym left)
                    (drawn_more who e (kids rows) child (drawn_list who d e (kids rows) (Same_boot refl (omega arith)) drawn) (drawn_old who d e refl (omega arith))),
              )),
          h.3,
        )

well_then : (who : Who) (d : Digest) (a : Move) (f : Digest → Move) → IsWellMove who d a → IsWellMove who a.next (f a.next) → IsWellIn who d
    → IsWellIn who (followed a f).next × ((r : LogRec) → (followed a f).rec ≡ Some r → is_well who.node d.boot r ≡ true)
well_then who d a f one two h =
    let x = one.1 h in
    let y = two.1 x.0 in
    (y.0, λ r is. go a.rec (f a.next).rec refl refl r is (x.1 r) (y.1 r))
  where
    go : (p q : Option LogRec) → a.rec ≡ p → (f a.next).rec ≡ q → (r : LogRec) → elim q as (λ _. Option LogRec) [ None ↦ p | Some w ↦ Some w ] ≡ Some r
        → (a.rec ≡ Some r → is_well who.node d.boot r ≡ true) → ((f a.next).rec ≡ Some r → is_well who.node a.next.boot r ≡ true) → is_well who.node d.boot r ≡ true
    go p None i j r is s t = s (i ∙ is)
    go p (Some w) i j r is s t = ap (λ (b : ℕ). is_well who.node b r) (sym one.0.0) ∙ t (j ∙ is)

well_quiet : (n b : ℕ) (o : Option LogRec) → o ≡ None → (r : LogRec) → o ≡ Some r → is_well n b r ≡ true
well_quiet n b o none r is = let off : None ≡ Some r = sym none ∙ is in absurd (cc (off))

well_root : (who : Who) (d : Digest) → IsReached (record (with_mark_drawn d) { current = Some (fresh_current (Root (record { owner = who.site; mark = next_mark who d }))) }) → IsWellIn who d
    → IsWellIn who (record (with_mark_drawn d) { current = Some (fresh_current (Root (record { owner = who.site; mark = next_mark who d }))) })
well_root who d reached h =
    let e : Digest = record (with_mark_drawn d) { current = Some (fresh_current (Root (record { owner = who.site; mark = next_mark who d }))) } in (
      reached,
      h.1,
      (λ c is. let same : fresh_current (Root (record { owner = who.site; mark = next_mark who d })) ≡ c = cc (is) in
          subst (λ (x : Current). (are_apart (kin x.branches) ≡ true) × (is_active x.phase ≡ true → AreDrawn who e (kin x.branches))) same (refl, λ act. tt)),
      h.3,
    )

pub well_moves : (who : Who) (e : Event) (s : Digest) → Moves who e s (IsWellMove who)
well_moves who e s = record {
  still = λ d. (reached.still d, λ h. (h, well_quiet who.node d.boot None refl));
  chain = λ d a f one two quiet. (reached.chain d a f one.0 two.0 quiet, λ h. well_then who d a f one two h);
  speaks = λ d outs spoken own said. (reached.speaks d outs spoken own said, λ h. (h, well_quiet who.node d.boot None refl));
  changes_dialogue = λ d p f m by one. one;
  drops_arc = λ d p m at one. one;
  notes_kept = λ d ks m held one. (
    one.0,
    λ h. one.1 (
      h.0,
      keys_unnoted (IsReachedKey d.boot) ks (subst (λ (xs : List Kept). AllKeys (IsReachedKey d.boot) xs) (sym held.1) (keys_noted (IsReachedKey d.boot) d.kept h.1)),
      h.2,
      at_unnoted who.node ks (subst (AreAt who.node) (sym held.1) (at_noted who.node d.kept h.3)),
    ),
  );
  keeps = λ d k f held. (reached.keeps d k f held, λ h. well_keeps who d k f held.1 h);
  turns = λ d c f now at asked put gone. (reached.turns d c f now at asked put gone, λ h. well_turned who f d c now put (reached.turns d c f now at asked put gone).1 h);
  begins = λ d p free. (reached.begins d p free, λ h. (well_begins who p d (reached.begins d p free).1 h, well_quiet who.node d.boot (begin_on who p d).rec (quiet_begin who p d)));
  roots = λ d m nil may one. (reached.roots d m nil may one.0, λ h. one.1 (well_root who d (reached_root who d) h));
}
  where
    reached : Moves who e s IsReachedMove
    reached = reached_moves who e s
