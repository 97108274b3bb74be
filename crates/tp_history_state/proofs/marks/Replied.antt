-- A reply that ends a branch raises that it has ended: what the transaction makes of it.

use Rattle.tp_history_state.proofs.Vocabulary.{Bool, List, None, Option, Some, [], ap, arith, false, if◌then◌else◌, not, refl, subst, sym, true, ℕ, ◌&&◌, ◌==◌, ◌||◌, ◌∙◌, ◌∷◌, ◌≡◌, and_parts, nat_tests, Aaid, Addr, BranchId, Child, NodeKey, Report, is_aaid, is_branch, rank, PeerRecord, RecState, Arc, Branch, Current, Digest, Event, Who, is_apart, Named, current_with, find_branch_by_id, key_of_branch, named_by_branch, named_by_key, Phase, Row, Transaction, Turn, aaid_of, and_then, child_of, complete_commit, end_branch, find_row, find_row_by_id, is_open_in_commit, node_key, put_row, row_holds, turn, transacted, with_row, TxEvent, is_committing, seen, seen_row, seen_rows, find_branch, branch_self, branches_equal, key_self, kin, named_current, tree_of_key, some_same}
use Rattle.tp_model.specs.Legal.{are_apart}
use Rattle.tp_steps.proofs.log.Owned.{branch_tree, key_aaid}
use Rattle.tp_history_state.proofs.marks.Ends.{end_put, ending, has_rank, is_ended_at, is_open, report_of}
use Rattle.tp_agreement.proofs.OwingLaw.{id_found, rows_by_id, same_peer}
use Rattle.tp_history_state.specs.Reaching.{marked}
use Rattle.tp_history_state.proofs.marks.BranchMark.{row_same, rows_completed, seen_marked}
use Rattle.tp_steps.proofs.words.HeardTurned.{branch_is, seen_find}

pub three : (a b c : Bool) → (a && b && c) ≡ true → (a ≡ true) × ((b && c) ≡ true)
three true b c h = (refl, h)
three false b c h = absurd (cc (h))

-- ---- the branch with an identifier

apart_id : (c : Child) (bs : List Branch) (p : ℕ) (b : Branch) → is_apart c (kin bs) ≡ true → find_branch bs p ≡ Some b → is_branch c.branch b.id ≡ false
apart_id c [] p b h found = absurd (cc (found))
apart_id c (x ∷ bs) p b h found = go (x.peer.node == p) refl (λ k. apart_id c bs p b (grind (arith, h)) k)
  where
    go : (v : Bool) → (x.peer.node == p) ≡ v → (find_branch bs p ≡ Some b → is_branch c.branch b.id ≡ false) → is_branch c.branch b.id ≡ false
    go true i rest =
        let one : Some x ≡ Some b = sym (ap (λ (v : Bool). if v then Some x else find_branch bs p) i) ∙ found in
        let same : x ≡ b = cc (one) in
        let off : is_branch c.branch x.id ≡ false = grind (arith, h) in
        ap (λ (y : Branch). is_branch c.branch y.id) (sym same) ∙ off
    go false i rest = rest (sym (ap (λ (v : Bool). if v then Some x else find_branch bs p) i) ∙ found)

by_id : (bs : List Branch) (p : ℕ) (b : Branch) → are_apart (kin bs) ≡ true → find_branch bs p ≡ Some b → find_branch_by_id bs b.id ≡ Some b
by_id [] p b h found = absurd (cc (found))
by_id (x ∷ bs) p b h found = go (x.peer.node == p) refl (λ k. by_id bs p b (grind (arith, h)) k)
  where
    go : (v : Bool) → (x.peer.node == p) ≡ v → (find_branch bs p ≡ Some b → find_branch_by_id bs b.id ≡ Some b) → (if is_branch x.id b.id then Some x else find_branch_by_id bs b.id) ≡ Some b
    go true i rest =
        let one : Some x ≡ Some b = sym (ap (λ (v : Bool). if v then Some x else find_branch bs p) i) ∙ found in
        let same : x ≡ b = cc (one) in
        let self : is_branch x.id b.id ≡ true = ap (λ (y : Branch). is_branch x.id y.id) (sym same) ∙ branch_self x.id in
        ap (λ (v : Bool). if v then Some x else find_branch_by_id bs b.id) self ∙ one
    go false i rest =
        let later : find_branch bs p ≡ Some b = sym (ap (λ (v : Bool). if v then Some x else find_branch bs p) i) ∙ found in
        ap (λ (v : Bool). if v then Some x else find_branch_by_id bs b.id) (apart_id (child_of x) bs p b (grind (arith, h)) later) ∙ rest later

none_by_id : (arcs : List Arc) (bs : List Branch) (i : BranchId) → find_row_by_id (seen_rows arcs bs) i ≡ None → find_branch_by_id bs i ≡ None
none_by_id arcs [] i h = refl
none_by_id arcs (b ∷ bs) i h = go (is_branch b.id i) refl (none_by_id arcs bs i)
  where
    go : (v : Bool) → is_branch b.id i ≡ v → (find_row_by_id (seen_rows arcs bs) i ≡ None → find_branch_by_id bs i ≡ None) → (if is_branch b.id i then Some b else find_branch_by_id bs i) ≡ None
    go true j rest = absurd (let no : Some (seen_row arcs b) ≡ None = sym (ap (λ (v : Bool). if v then Some (seen_row arcs b) else find_row_by_id (seen_rows arcs bs) i) j) ∙ h in cc (no))
    go false j rest = ap (λ (v : Bool). if v then Some b else find_branch_by_id bs i) j ∙ rest (sym (ap (λ (v : Bool). if v then Some (seen_row arcs b) else find_row_by_id (seen_rows arcs bs) i) j) ∙ h)

-- ---- a reply that ends it

abbrev pub reply : Addr → Aaid → BranchId → Report → Event
reply from t i r = Event.Arrive from (PeerRecord.RecReply t i (RecState.Done r))

-- what it raises
abbrev pub raises : Child → ℕ → Aaid → BranchId → Report → Current → Bool
raises x n t i r c = marked (is_open x) x.addr.node c && has_rank n (report_of c.phase None (if is_aaid (node_key c.key).aaid t && is_branch x.branch i then Some r else None))

pub record Raised (x : Child) (n : ℕ) (t : Aaid) (i : BranchId) (r : Report) (c : Current) : Type 0 where
  pub branch : Branch
  pub found : find_branch c.branches x.addr.node ≡ Some branch
  pub id : branch.id ≡ i
  pub free : (not branch.ended && not branch.left) ≡ true
  pub phase : c.phase ≡ Phase.Committing
  pub tree : is_aaid (node_key c.key).aaid t ≡ true

pub raised_so : (x : Child) (n : ℕ) (t : Aaid) (i : BranchId) (r : Report) (c : Current) → raises x n t i r c ≡ true → Raised x n t i r c
raised_so x n t i r c h = go (find_branch c.branches x.addr.node) refl
  where
    two : (marked (is_open x) x.addr.node c ≡ true) × (has_rank n (report_of c.phase None (if is_aaid (node_key c.key).aaid t && is_branch x.branch i then Some r else None)) ≡ true)
    two = and_parts _ _ h

    phases : (p : Phase) (y : Option Report) → has_rank n (report_of p None y) ≡ true → (p ≡ Phase.Committing) × (has_rank n y ≡ true)
    phases Phase.Committing y k = (refl, k)
    phases _ y k = absurd (cc (k))

    named : (v : Bool) → has_rank n (if v then Some r else None) ≡ true → v ≡ true
    named true k = refl
    named false k = absurd (cc (k))

    when : (c.phase ≡ Phase.Committing) × (has_rank n (if is_aaid (node_key c.key).aaid t && is_branch x.branch i then Some r else None) ≡ true)
    when = phases c.phase _ two.1

    who : (is_aaid (node_key c.key).aaid t ≡ true) × (is_branch x.branch i ≡ true)
    who = and_parts _ _ (named (is_aaid (node_key c.key).aaid t && is_branch x.branch i) when.1)

    go : (v : Option Branch) → find_branch c.branches x.addr.node ≡ v → Raised x n t i r c
    go None j = absurd (let no : marked (is_open x) x.addr.node c ≡ false = ap (λ (v : Option Branch). elim v as (λ _. Bool) [ None ↦ false | Some b ↦ is_open x b ]) j in let yes = two.0 in cc (no, yes))
    go (Some b) j =
        let stands : is_open x b ≡ true = sym (ap (λ (v : Option Branch). elim v as (λ _. Bool) [ None ↦ false | Some b ↦ is_open x b ]) j) ∙ two.0 in
        let parts = three (is_branch b.id x.branch) (not b.ended) (not b.left) stands in
        record { branch = b; found = j; id = branches_equal b.id x.branch parts.0 ∙ branches_equal x.branch i who.1; free = parts.1; phase = when.0; tree = who.0 }

pub raised_id : (x : Child) (n : ℕ) (t : Aaid) (i : BranchId) (r : Report) (c : Current) (k : Raised x n t i r c) → are_apart (kin c.branches) ≡ true → find_branch_by_id c.branches i ≡ Some k.branch
raised_id x n t i r c k spread = ap (find_branch_by_id c.branches) (sym k.id) ∙ by_id c.branches x.addr.node k.branch spread k.found

-- where it is raised, the reply is named to the current transaction
pub named_so : (d : Digest) (t : Aaid) (i : BranchId) (c : Current) (b : Branch) → d.current ≡ Some c → is_aaid (node_key c.key).aaid t ≡ true → find_branch_by_id c.branches i ≡ Some b → (named_by_branch d t i).current ≡ Some c
named_so d t i c b now tree found = grind (arith, key_aaid, key_self)

abbrev pub is_committing_named : Option Current → Bool
is_committing_named v = elim v [ None ↦ false | Some c ↦ is_committing c.phase ]

pub tree_so : (d : Digest) (t : Aaid) (i : BranchId) (c : Current) → d.current ≡ Some c → is_committing_named (named_by_branch d t i).current ≡ true → is_aaid (node_key c.key).aaid t ≡ true
tree_so d t i c now on = go (key_of_branch d t i) refl
  where
    current : Option NodeKey → Option Current
    current v = (elim v as (λ _. Named) [ None ↦ record { current = None; kept = None } | Some z ↦ named_by_key d z ]).current

    go : (v : Option NodeKey) → key_of_branch d t i ≡ v → is_aaid (node_key c.key).aaid t ≡ true
    go None j = absurd (let no : is_committing_named (current (key_of_branch d t i)) ≡ false = ap (λ (v : Option NodeKey). is_committing_named (current v)) j in cc (no, on))
    go (Some z) j = at (current_with d z) refl
      where
        at : (v : Option Current) → current_with d z ≡ v → is_aaid (node_key c.key).aaid t ≡ true
        at None l = absurd (let no : is_committing_named (current (key_of_branch d t i)) ≡ false = ap (λ (v : Option NodeKey). is_committing_named (current v)) j ∙ ap is_committing_named l in cc (no, on))
        at (Some u) l =
            let w = named_current d z u l in
            let same : u ≡ c = some_same u c (sym w.0 ∙ now) in
            ap (λ (a : Aaid). is_aaid a t) (key_aaid c.key) ∙ subst (λ (v : Current). is_aaid (aaid_of v.key) t ≡ true) same (tree_of_key u z t w.1 (branch_tree d t i z j))

-- ---- the turn

pub not_both : (v : Bool) → (v ≡ true → ⊥) → v ≡ false
not_both true k = absurd (k refl)
not_both false k = refl

pub reply_turn : (who : Who) (arcs : List Arc) (x : Child) (n : ℕ) (t : Aaid) (i : BranchId) (r : Report) (c : Current) → are_apart (kin c.branches) ≡ true → is_aaid (node_key c.key).aaid t ≡ true
    → row_holds (transacted (TxEvent.Reply i (RecState.Done r)) (seen who arcs c)).next.rows x.addr.node (is_ended_at x n) ≡ (raises x n t i r c || marked (is_ended_at x n) x.addr.node c)
unfolding end_branch
reply_turn who arcs x n t i r c spread tree = go (find_row_by_id s.rows i) refl
  where
    s : Transaction
    s = seen who arcs c

    p : ℕ
    p = x.addr.node

    w : Branch → Bool
    w = is_ended_at x n

    same : row_holds s.rows p w ≡ marked w p c
    same = seen_marked w p who arcs c

    quiet : raises x n t i r c ≡ false → row_holds s.rows p w ≡ (raises x n t i r c || marked w p c)
    quiet off = same ∙ sym (ap (λ (v : Bool). v || marked w p c) off)

    ended : (row : Row) → find_row_by_id s.rows i ≡ Some row → find_branch_by_id c.branches i ≡ Some row.branch → is_open_in_commit s row.branch ≡ true → row_holds (with_row s row.branch.peer.node (ending r)).rows p w ≡ (raises x n t i r c || marked w p c)
    ended row found at free = on (row.branch.peer.node == p) refl
      where
        q : ℕ
        q = row.branch.peer.node

        is_it : Raised x n t i r c → q ≡ p
        is_it k =
            let one : Some row.branch ≡ Some k.branch = sym at ∙ raised_id x n t i r c k spread in
            ap (λ (v : Option Branch). elim v as (λ _. ℕ) [ None ↦ 0 | Some b ↦ b.peer.node ]) one ∙ branch_is c.branches p k.branch k.found

        here : q ≡ p → (v : Option Branch) → find_branch c.branches p ≡ v → row_holds (with_row s q (ending r)).rows p w ≡ (raises x n t i r c || marked w p c)
        here z None j =
            let none : find_row s.rows p ≡ None = seen_find arcs c.branches p ∙ ap (λ (v : Option Branch). elim v as (λ _. Option Row) [ None ↦ None | Some b ↦ Some (seen_row arcs b) ]) j in
            let off : raises x n t i r c ≡ false = ap (λ (v : Option Branch). elim v as (λ _. Bool) [ None ↦ false | Some b ↦ is_open x b ] && has_rank n (report_of c.phase None (if is_aaid (node_key c.key).aaid t && is_branch x.branch i then Some r else None))) j in
            ap (λ (m : ℕ). row_holds (with_row s m (ending r)).rows p w) z ∙ ap (λ (v : Option Row). row_holds (elim v as (λ _. Transaction) [ None ↦ s | Some y ↦ record s { rows = put_row s.rows (ending r y) } ]).rows p w) none ∙ quiet off
        here z (Some b) j =
            ap (λ (m : ℕ). row_holds (with_row s m (ending r)).rows p w) z ∙ end_put x n s r (seen_row arcs b) there (stands free)
            ∙ ap (λ (v : Bool). v && (rank r == n) || row_holds s.rows p w) (seen_marked (is_open x) p who arcs c) ∙ ap (λ (v : Bool). marked (is_open x) p c && (rank r == n) || v) same
            ∙ ap (λ (v : Bool). v || marked w p c) (raise (marked (is_open x) p c) refl)
          where
            it : b ≡ row.branch
            it = same_peer c.branches p i b row.branch spread j at z

            there : find_row s.rows p ≡ Some (seen_row arcs b)
            there = seen_find arcs c.branches p ∙ ap (λ (v : Option Branch). elim v as (λ _. Option Row) [ None ↦ None | Some b ↦ Some (seen_row arcs b) ]) j

            stands : is_open_in_commit s row.branch ≡ true → (not b.ended && not b.left) ≡ true
            stands h = ap (λ (y : Branch). not y.ended && not y.left) it ∙ (three (is_committing c.phase) (not row.branch.ended) (not row.branch.left) h).1

            phase : c.phase ≡ Phase.Committing
            phase = by c.phase (three (is_committing c.phase) (not row.branch.ended) (not row.branch.left) free).0
              where
                by : (y : Phase) → is_committing y ≡ true → y ≡ Phase.Committing
                by Phase.Committing h = refl
                by _ h = absurd (cc (h))

            raise : (v : Bool) → marked (is_open x) p c ≡ v → (v && (rank r == n)) ≡ (v && has_rank n (report_of c.phase None (if is_aaid (node_key c.key).aaid t && is_branch x.branch i then Some r else None)))
            raise false l = refl
            raise true l =
                let mine : is_branch b.id x.branch ≡ true = (three (is_branch b.id x.branch) (not b.ended) (not b.left) (sym (ap (λ (v : Option Branch). elim v as (λ _. Bool) [ None ↦ false | Some b ↦ is_open x b ]) j) ∙ l)).0 in
                let id : b.id ≡ i = ap (λ (y : Branch). y.id) it ∙ id_found c.branches i row.branch at in
                let named : is_branch x.branch i ≡ true = ap (λ (y : BranchId). is_branch y i) (sym (branches_equal b.id x.branch mine) ∙ id) ∙ branch_self i in
                sym (ap (λ (y : Phase). has_rank n (report_of y None (if is_aaid (node_key c.key).aaid t && is_branch x.branch i then Some r else None))) phase
                ∙ ap (λ (v : Bool). has_rank n (if v && is_branch x.branch i then Some r else None)) tree ∙ ap (λ (v : Bool). has_rank n (if v then Some r else None)) named)

        on : (v : Bool) → (q == p) ≡ v → row_holds (with_row s q (ending r)).rows p w ≡ (raises x n t i r c || marked w p c)
        on false j =
            row_same w p s q (ending r) (λ y. refl) (λ y l. absurd (cc (j, l)))
            ∙ quiet (not_both (raises x n t i r c) (λ k. let z : q ≡ p = is_it (raised_so x n t i r c k) in let l : (q == p) ≡ true = grind (arith, nat_tests, z) in cc (j, l)))
        on true j = here (grind (arith, nat_tests, j)) (find_branch c.branches p) refl

    go : (v : Option Row) → find_row_by_id s.rows i ≡ v
        → row_holds (elim v as (λ _. Turn) [ None ↦ turn [] s | Some row ↦ if is_open_in_commit s row.branch then and_then (end_branch row.branch.peer.node r s) complete_commit else turn [] s ]).next.rows p w ≡ (raises x n t i r c || marked w p c)
    go None j =
        quiet (not_both (raises x n t i r c) (λ k. let z = raised_so x n t i r c k in let no : None ≡ Some z.branch = sym (none_by_id arcs c.branches i j) ∙ raised_id x n t i r c z spread in cc (no)))
    go (Some row) j = on (is_open_in_commit s row.branch) refl
      where
        at : find_branch_by_id c.branches i ≡ Some row.branch
        at = rows_by_id arcs c.branches i row j

        on : (v : Bool) → is_open_in_commit s row.branch ≡ v → row_holds (if v then and_then (end_branch row.branch.peer.node r s) complete_commit else turn [] s).next.rows p w ≡ (raises x n t i r c || marked w p c)
        on true l = ap (λ (rows : List Row). row_holds rows p w) (rows_completed (with_row s row.branch.peer.node (ending r))) ∙ ended row j at l
        on false l = quiet (not_both (raises x n t i r c) (λ k. contrary (raised_so x n t i r c k)))
          where
            contrary : Raised x n t i r c → ⊥
            contrary z =
                let one : Some row.branch ≡ Some z.branch = sym at ∙ raised_id x n t i r c z spread in
                let free : (not row.branch.ended && not row.branch.left) ≡ true = ap (λ (v : Option Branch). elim v as (λ _. Bool) [ None ↦ false | Some b ↦ not b.ended && not b.left ]) one ∙ z.free in
                let yes : is_open_in_commit s row.branch ≡ true = ap (λ (y : Phase). is_committing y && not row.branch.ended && not row.branch.left) z.phase ∙ free in
                cc (l, yes)
