-- Every event of a node keeps what is said of one tree: an instance of the steps of a node.
use Rattle.std.proofs.Common.{if◌then◌else◌, ◌≡◌, ◌≤◌, ◌+◌, ◌⊎◌, inl, inr, ℕ, suc, Bool, true, false, refl, ap, sym, ◌∙◌, arith, Option, Some, None, List, [], ◌∷◌, ◌++◌, ◌&&◌, ◌==◌, not}
use Rattle.std.proofs.lemmas.Bool.Decides.{nat_tests}
use Rattle.tp_names.specs.declared.identifiers.Aaid.{Aaid}
use Rattle.tp_names.specs.declared.identifiers.BranchId.{BranchId}
use Rattle.tp_names.specs.declared.identifiers.Mark.{Mark}
use Rattle.tp_names.specs.Same.{is_aaid}
use Rattle.tp_records.specs.declared.indication.Indication.{Indication}
use Rattle.tp_records.specs.declared.dialogue.DialogueRecord.{DialogueRecord}
use Rattle.tp_logrec.specs.declared.record.LogRec.{LogRec}
use Rattle.tp_model.specs.declared.arc.Phase.{Phase}
use Rattle.tp_model.specs.declared.transaction.TxOut.{TxOut}
use Rattle.tp_model.specs.declared.recovery.Kept.{Kept}
use Rattle.tp_model.specs.declared.recovery.KeptEvent.{KeptEvent}
use Rattle.tp_model.specs.Parts.{Who, Arc, Branch, Current, Digest}
use Rattle.tp_model.specs.Links.{is_live}
use Rattle.tp_model.specs.Dialogues.{is_nil, is_committing, is_rolling}
use Rattle.tp_model.specs.Arcs.{link_with, performed}
use Rattle.tp_model.specs.Transactions.{Row, Transaction, aaid_of, children_of}
use Rattle.tp_model.specs.Recovery.{settled}
use Rattle.tp_model.specs.Node.{Move, phase_of, seen_rows, branches_of, remaining}
use Rattle.tp_model.specs.Outcomes.{is_now}
use Rattle.tp_steps.specs.Turns.{is_outcome_told}
use Rattle.tp_steps.specs.Moves.{are_spoken}
use Rattle.tp_steps.specs.Traces.{is_old}
use Rattle.tp_steps.specs.Facts.{spoken, BranchKey, find_branch, key_at, words_to}
use Rattle.tp_steps.specs.Passages.{begins_none, is_commit_told, is_rollback_told, asks_tell}
use Rattle.tp_steps.specs.Trees.{begins_of, IsBegunIn, branch_of_tree, IsDrawn, children_in, branches_now, IsLoggedIn, IsBoundIn, out_tells, IsTreed}
use Rattle.tp_steps.proofs.links.Apart.{apart_spoken}
use Rattle.tp_steps.proofs.words.Leaves.{aaid_same}
use Rattle.tp_steps.proofs.links.Marks.{Same_boot, old_stays}
use Rattle.tp_steps.proofs.links.Wrapped.{agrees_performed}
use Rattle.tp_steps.proofs.words.Hushed.{spoken_none}
use Rattle.tp_steps.proofs.lemmas.Phases.{move_same}
use Rattle.tp_steps.proofs.links.Told.{told_performed}
use Rattle.std.proofs.Math.Nat.{le_refl}
use Rattle.tp_steps.proofs.lemmas.Options.{some_same}
use Rattle.tp_steps.proofs.words.Fair.{at_most_then}

-- ---- numbers

pub up_one : (a : ℕ) → a ≤ suc a
up_one a = omega arith

below_then : (a b c : ℕ) → a ≤ b → suc b ≤ c → suc a ≤ c
below_then a b c h i = omega (arith, h, i)

pub none_and : (a b c : ℕ) → a ≡ 0 → b ≤ c → a + b ≤ c
none_and a b c h i = omega (arith, h, i)

pub only_second : (x y k l m : ℕ) → x ≡ 0 → k ≡ 0 → y + l ≤ m → x + y + k ≤ m
only_second x y k l m h i j = omega (arith, h, i, j)

pub only_first : (x y k m : ℕ) → y ≡ 0 → x + k ≤ m → x + y + k ≤ m
only_first x y k m h i = omega (arith, h, i)

pub no_one : (a : ℕ) → a ≡ 0 → suc 0 ≤ a → ⊥
no_one a h i = absurd (omega (arith, h, i))

pub some_of : (a b : ℕ) → a ≡ 0 → suc 0 ≤ a + b → suc 0 ≤ b
some_of a b h i = omega (arith, h, i)

-- ---- what is current

pub now_some : (t : Aaid) (o : Option Current) → is_now t o ≡ true → (c : Current) × (o ≡ Some c) × (is_aaid t (aaid_of c.key) ≡ true)
now_some t None h = absurd cc
now_some t (Some c) h = (c, refl, h)

pub now_left : (t : Aaid) (u : Transaction) → is_now t (remaining u) ≡ true → (is_aaid t (aaid_of u.key) ≡ true) × (is_nil u.phase ≡ false)
now_left t u h = go (is_nil u.phase) refl
  where
    go : (b : Bool) → is_nil u.phase ≡ b → (is_aaid t (aaid_of u.key) ≡ true) × (is_nil u.phase ≡ false)
    go true i = let none : false ≡ true = rw (i, remaining) at h in absurd (cc (none))
    go false i = (grind (arith, h, i), i)

pub phase_left : (u : Transaction) (d : Digest) → d.current ≡ remaining u → is_nil u.phase ≡ false → phase_of d ≡ u.phase
phase_left u d h i = grind (arith, h, i)

pub children_seen : (arcs : List Arc) (bs : List Branch) → children_of (seen_rows arcs bs) ≡ children_in bs
children_seen arcs [] = refl
children_seen arcs (b ∷ bs) = grind (arith, children_seen arcs bs)

pub children_left : (rows : List Row) → children_in (branches_of rows) ≡ children_of rows
children_left [] = refl
children_left (r ∷ rows) = grind (arith, children_left rows)

pub not_branch : (t : Aaid) (o : Option Current) (p : ℕ) → is_now t o ≡ false → branch_of_tree t (key_at o p) ≡ 0
not_branch t None p h = refl
not_branch t (Some c) p h = grind (arith, h)

pub one_branch : (t : Aaid) (v : Option BranchKey) → branch_of_tree t v ≤ 1
one_branch t None = omega arith
one_branch t (Some v) = grind arith

-- ---- Begins among words

pub begins_append : (t : Aaid) (xs ys : List DialogueRecord) → begins_of t (xs ++ ys) ≡ begins_of t xs + begins_of t ys
begins_append t [] ys = let z : 0 + begins_of t ys ≡ begins_of t ys = omega arith in sym z
begins_append t (DialogueRecord.Begin u b h ∷ xs) ys = grind (arith, begins_append t xs ys)
begins_append t (_ ∷ xs) ys = begins_append t xs ys

-- a Begin of a branch is one of its tree
pub begun_some : (t : Aaid) (b : BranchId) (ws : List DialogueRecord) → IsBegunIn t b ws → suc 0 ≤ begins_of t ws
begun_some t b [] h = absurd h
begun_some t b (DialogueRecord.Begin u c i ∷ ws) (inl h) =
    let same : is_aaid t u ≡ true = ap (is_aaid t) h.0 ∙ aaid_same t in
    let one : begins_of t (DialogueRecord.Begin u c i ∷ ws) ≡ suc (begins_of t ws) = rw same refl in
    rw one (omega arith)
begun_some t b (DialogueRecord.Begin u c i ∷ ws) (inr h) = go (is_aaid t u) (begun_some t b ws h)
  where
    go : (v : Bool) → suc 0 ≤ begins_of t ws → suc 0 ≤ (if v then suc (begins_of t ws) else begins_of t ws)
    go true k = omega arith
    go false k = k
begun_some t b (r ∷ ws) h = begun_some t b ws h

pub begun_split : (t : Aaid) (b : BranchId) (xs ys : List DialogueRecord) → IsBegunIn t b (xs ++ ys) → IsBegunIn t b xs ⊎ IsBegunIn t b ys
begun_split t b [] ys h = inr h
begun_split t b (DialogueRecord.Begin u c i ∷ xs) ys (inl h) = inl (inl h)
begun_split t b (DialogueRecord.Begin u c i ∷ xs) ys (inr h) = elim (begun_split t b xs ys h) [ inl k ↦ inl (inr k) | inr k ↦ inr k ]
begun_split t b (r ∷ xs) ys h = begun_split t b xs ys h

-- a tree with a branch is current
pub key_now : (t : Aaid) (b : BranchId) (o : Option Current) (p : ℕ) → key_at o p ≡ Some (t, b) → is_now t o ≡ true
key_now t b None p h = absurd (cc (h))
key_now t b (Some c) p h = go (is_nil c.phase) refl (find_branch c.branches p) refl
  where
    go : (v : Bool) → is_nil c.phase ≡ v → (o : Option Branch) → find_branch c.branches p ≡ o → is_aaid t (aaid_of c.key) ≡ true
    go true i o j = let none : ◌≡◌ {A = Option BranchKey} None (Some (t, b)) = rw (i, key_at) at h in absurd (cc (none))
    go false i None j = let none : ◌≡◌ {A = Option BranchKey} None (Some (t, b)) = rw (i, j, key_at) at h in absurd (cc (none))
    go false i (Some x) j =
        let one : ◌≡◌ {A = Option BranchKey} (Some (aaid_of c.key, x.id)) (Some (t, b)) = rw (i, j, key_at) at h in
        let two : ◌≡◌ {A = BranchKey} (aaid_of c.key, x.id) (t, b) = cc (one) in
        ap (is_aaid t) (ap (λ (k : BranchKey). k.0) two) ∙ aaid_same t

pub begins_spoken : (t : Aaid) (b : Bool) (p : ℕ) (outs : List TxOut) → begins_none outs ≡ true → begins_of t (spoken b p outs) ≡ 0
begins_spoken t b p [] h = refl
begins_spoken t b p (TxOut.Tell i ∷ outs) h = begins_spoken t b p outs h
begins_spoken t b p (TxOut.Carry q r ∷ outs) h = let rest = begins_spoken t b p outs (grind (arith, h)) in grind (arith, h, rest)
begins_spoken t b p (TxOut.Shut q ∷ outs) h = begins_spoken t (b && not (q == p)) p outs h
begins_spoken t b p (TxOut.Recovery a r ∷ outs) h = begins_spoken t b p outs h
begins_spoken t b p (TxOut.Close q ∷ outs) h = begins_spoken t (b && not (q == p)) p outs h

-- ---- identifiers that are drawn

pub old_kept : (who : Who) (d e : Digest) (m : Mark) → e.boot ≡ d.boot → d.drawn ≤ e.drawn → is_old who d m ≡ true → is_old who e m ≡ true
old_kept who d e m b n h = old_stays who d e m (Same_boot b n) h

pub drawn_new : (who : Who) (d e : Digest) (t : Aaid) → IsDrawn who d e t → is_old who d t.mark ≡ true → ⊥
drawn_new who d e t n h =
    let young : is_old who d t.mark ≡ false = ap (λ (u : Aaid). is_old who d u.mark) n.is ∙ later n.count n.later in
    cc (h, young)
  where
    later : (k : ℕ) → suc d.drawn ≤ k → is_old who d (record { boot = d.boot; node = who.node; count = k }) ≡ false
    later k i = grind (arith, nat_tests, i)

pub drawn_old : (who : Who) (d e : Digest) (t : Aaid) → e.boot ≡ d.boot → IsDrawn who d e t → is_old who e t.mark ≡ true
drawn_old who d e t b n = ap (λ (u : Aaid). is_old who e u.mark) n.is ∙ known n.count n.known
  where
    known : (k : ℕ) → k ≤ e.drawn → is_old who e (record { boot = d.boot; node = who.node; count = k }) ≡ true
    known k i = grind (arith, nat_tests, i, b)

pub drawn_wider : (who : Who) (d a e f : Digest) (t : Aaid) → a.boot ≡ d.boot → d.drawn ≤ a.drawn → e.drawn ≤ f.drawn → IsDrawn who a e t → IsDrawn who d f t
drawn_wider who d a e f t b n m x = record {
  count = x.count;
  is = x.is ∙ ap (λ (k : ℕ). record { owner = who.site; mark = record { boot = k; node = who.node; count = x.count } }) b;
  later = below_then d.drawn a.drawn x.count n x.later;
  known = at_most_then x.count e.drawn f.drawn x.known m;
}

-- ---- moves that leave the transaction as it is

pub hush : (who : Who) (s : Digest) (fall : Bool) (t : Aaid) (p : ℕ) (d : Digest) (m : Move) → m.next.boot ≡ d.boot → m.next.drawn ≡ d.drawn → m.next.current ≡ d.current
    → begins_of t (words_to p m.outs) ≡ 0 → IsLoggedIn t s m.rec → IsBoundIn t m.rec m.next.current → out_tells is_commit_told m.outs ≡ false → out_tells is_rollback_told m.outs ≡ false → IsTreed who s fall t p d m
hush who s fall t p d m boot drawn same none logged binds c r = record {
  boot = boot;
  drawn = rw drawn (le_refl d.drawn);
  late = λ l c h. l c (sym same ∙ h);
  enters = λ l n. inl (ap (is_now t) (sym same) ∙ n);
  born = λ l n. absurd (no_one (begins_of t (words_to p m.outs)) none n);
  more = λ l o n. rw same (none_and (begins_of t (words_to p m.outs)) (branch_of_tree t (key_at d.current p)) (branch_of_tree t (key_at d.current p)) none (le_refl (branch_of_tree t (key_at d.current p))));
  once = λ l o. none_and (begins_of t (words_to p m.outs)) (branch_of_tree t (key_at d.current p)) 1 none (one_branch t (key_at d.current p));
  ids = λ b l o n h. elim h [ inl k ↦ absurd (no_one (begins_of t (words_to p m.outs)) none (begun_some t b (words_to p m.outs) k)) | inr k ↦ ap (λ (x : Option Current). key_at x p) same ∙ k ];
  active = λ l o n k. absurd (no_one (begins_of t (words_to p m.outs)) none n);
  key = λ l o c u h i n k. let e : Some c ≡ Some u = sym h ∙ sym same ∙ i in ap (λ (x : Current). x.key) (some_same u c (sym e));
  moves = λ l o n k. rw phases (move_same (phase_of d));
  children = λ l o n k a. ap (λ (x : Option Current). children_in (branches_now x)) same;
  logs = logged;
  binds = λ l o. binds;
  commits = λ l n k. let x : is_now t d.current ≡ true = ap (is_now t) (sym same) ∙ n in let y : is_committing (phase_of d) ≡ true = ap is_committing (sym phases) ∙ k in rw (x, y) refl;
  rolling = λ l n k. let x : is_now t d.current ≡ true = ap (is_now t) (sym same) ∙ n in let y : is_rolling (phase_of d) ≡ true = ap is_rolling (sym phases) ∙ k in rw (x, y) refl;
  tells_commit = λ h. absurd (cc (c, h));
  tells_rollback = λ h. absurd (cc (r, h));
}
  where
    phases : phase_of m.next ≡ phase_of d
    phases = go d.current m.next.current same
      where
        go : (o u : Option Current) → u ≡ o → elim u as (λ _. Phase) [ None ↦ Phase.Nil | Some c ↦ c.phase ] ≡ elim o as (λ _. Phase) [ None ↦ Phase.Nil | Some c ↦ c.phase ]
        go o u h = rw h refl

pub tells_none : (f : Indication → Bool) (outs : List TxOut) → ((i : Indication) → f i ≡ true → is_outcome_told i ≡ true) → are_spoken outs ≡ true → asks_tell f outs ≡ false
tells_none f [] w h = refl
tells_none f (TxOut.Tell i ∷ outs) w h = go (f i) refl (tells_none f outs w (grind (arith, h)))
  where
    go : (b : Bool) → f i ≡ b → asks_tell f outs ≡ false → asks_tell f (TxOut.Tell i ∷ outs) ≡ false
    go true j rest = let k = w i j in absurd (grind (arith, h, k))
    go false j rest = grind (arith, j, rest)
tells_none f (TxOut.Carry q r ∷ outs) w h = tells_none f outs w (grind (arith, h))
tells_none f (TxOut.Shut q ∷ outs) w h = tells_none f outs w (grind (arith, h))
tells_none f (TxOut.Recovery a r ∷ outs) w h = tells_none f outs w (grind (arith, h))
tells_none f (TxOut.Close q ∷ outs) w h = tells_none f outs w (grind (arith, h))

commit_outcome : (i : Indication) → is_commit_told i ≡ true → is_outcome_told i ≡ true
commit_outcome Indication.Commit h = refl
commit_outcome (Indication.CommitComplete r) h = refl
commit_outcome i h = absurd (grind (arith, h))

rollback_outcome : (i : Indication) → is_rollback_told i ≡ true → is_outcome_told i ≡ true
rollback_outcome Indication.Rollback h = refl
rollback_outcome (Indication.RollbackComplete r) h = refl
rollback_outcome i h = absurd (grind (arith, h))

pub hush_spoken : (who : Who) (s : Digest) (fall : Bool) (t : Aaid) (p : ℕ) (d : Digest) (outs : List TxOut) (o : Option LogRec) (ks : List Kept) → are_spoken outs ≡ true → IsLoggedIn t s o → IsBoundIn t o d.current
    → IsTreed who s fall t p d (record { rec = o; outs = (performed d.arcs outs).1; next = record d { arcs = (performed d.arcs outs).0; kept = ks } })
hush_spoken who s fall t p d outs o ks h logged binds =
    let a = agrees_performed d.arcs outs p (apart_spoken outs h) in
    let m : Move = record { rec = o; outs = (performed d.arcs outs).1; next = record d { arcs = (performed d.arcs outs).0; kept = ks } } in
    hush who s fall t p d m refl refl refl
    (ap (begins_of t) (a.words ∙ spoken_none (is_live (link_with d.arcs p)) p outs h)) logged binds
    (told_performed is_commit_told d.arcs outs ∙ tells_none is_commit_told outs commit_outcome h) (told_performed is_rollback_told d.arcs outs ∙ tells_none is_rollback_told outs rollback_outcome h)

-- a kept transaction logs damage or an end
pub settled_logs : (t : Aaid) (s : Digest) (k : Kept) (f : KeptEvent) (o : Option Current) → IsLoggedIn t s (settled k f).rec × IsBoundIn t (settled k f).rec o
unfolding settled
settled_logs t s k KeptEvent.Purge o = (tt, tt)
settled_logs t s k _ o = (grind arith, grind arith)
