-- What becomes of the current transaction in an event: it stays with its key, begins on further arcs, is over, or is
-- followed by one of the node's own. An instance of the steps of a node.
use Rattle.std.proofs.Common.{if◌then◌else◌, ◌≡◌, ◌≤◌, ◌⊎◌, inl, inr, ℕ, suc, Bool, true, false, refl, ap, sym, subst, ◌∙◌, arith, append_assoc, append-nil, Option, Some, None, List, [], ◌∷◌, ◌++◌, ◌&&◌, ◌||◌, ◌==◌}
use Rattle.tp_names.specs.declared.identifiers.Aaid.{Aaid}
use Rattle.tp_names.specs.declared.identifiers.BranchId.{BranchId}
use Rattle.tp_names.specs.declared.identifiers.NodeKey.{NodeKey}
use Rattle.tp_names.specs.declared.children.Child.{Child}
use Rattle.tp_names.specs.Same.{is_key, is_aaid}
use Rattle.tp_records.specs.declared.dialogue.DialogueRecord.{DialogueRecord}
use Rattle.tp_records.specs.declared.dialogue.Holder.{Holder}
use Rattle.tp_records.specs.declared.peer.PeerRecord.{PeerRecord}
use Rattle.tp_logrec.specs.declared.record.LogRec.{LogRec}
use Rattle.tp_model.specs.declared.arc.Phase.{Phase}
use Rattle.tp_model.specs.declared.arc.Side.{Side}
use Rattle.tp_model.specs.declared.transaction.TxEvent.{TxEvent}
use Rattle.tp_model.specs.declared.transaction.TxOut.{TxOut}
use Rattle.tp_model.specs.declared.recovery.Kept.{Kept}
use Rattle.tp_model.specs.declared.recovery.KeptEvent.{KeptEvent}
use Rattle.tp_model.specs.Parts.{Who, Event, Out, Arc, Link, Idle, Opening, Offered, Live, Key, Root, Current, Digest}
use Rattle.tp_model.specs.Links.{is_live}
use Rattle.tp_model.specs.Dialogues.{is_nil, is_active, is_rolling, begun_by, named_holder}
use Rattle.tp_model.specs.Arcs.{find_arc, link_of, link_with, with_dialogue, carried, carried_on, performed_one, performed}
use Rattle.tp_model.specs.Transactions.{Transaction, Turn, aaid_of, node_key, transacted}
use Rattle.tp_model.specs.Recovery.{settled}
use Rattle.tp_model.specs.Node.{Move, move, perform, next_mark, with_mark_drawn, phase_of, seen, remaining, Passage, Commits, is_leaving, played, perform_commit, committed_arcs, grants, with_begun, may_begin_on, begin_on, turned, keep, around_grants}
use Rattle.tp_model.specs.Keys.{logs_of, begun_children}
use Rattle.tp_steps.specs.Turns.{falls}
use Rattle.tp_steps.specs.Moves.{IsAsked, IsPut, IsLate, IsAmong, is_apart, are_apart, is_spoken, are_spoken}
use Rattle.tp_steps.specs.Steps.{first_begin}
use Rattle.tp_steps.specs.Passages.{begins_none, asks_tell, IsLogged, IsPassed}
use Rattle.tp_steps.specs.Trees.{out_tells}
use Rattle.tp_steps.specs.Standing.{IsTold}
use Rattle.tp_steps.specs.Ends.{are_separate}
use Rattle.tp_steps.proofs.lemmas.Equality.{and_left, and_right}
use Rattle.tp_steps.proofs.log.TurnLog.{key_self, told_turn}
use Rattle.tp_steps.proofs.words.Leaves.{aaid_same}
use Rattle.tp_steps.proofs.log.Passed.{passed_turn}
use Rattle.tp_steps.proofs.branches.Staged.{is_rolled_told, is_some_rec, IsStaged, staged_turn}
use Rattle.tp_steps.proofs.every.Ending.{may_pass, pass_same, pass_then, pass_more, ending_turn}
use Rattle.tp_steps.proofs.links.Told.{told_append, told_performed, told_played}
use Rattle.tp_steps.proofs.lemmas.Phases.{none_append}
use Rattle.tp_steps.proofs.links.Apart.{apart_spoken, apart_grants, apart_turn}
use Rattle.tp_steps.proofs.words.Hushed.{settled_spoken}
use Rattle.tp_steps.proofs.links.Linked.{one_more, parts_apart}
use Rattle.tp_steps.proofs.links.Links.{link_dialogue}
use Rattle.tp_steps.proofs.log.Sound.{left_is, left_branches}
use Rattle.tp_steps.proofs.log.SoundMoves.{IsSound}
use Rattle.tp_steps.proofs.log.ApartLog.{keys_equal, IsOfKept, settled_of, apart_among}
use Rattle.tp_steps.proofs.log.KinTurns.{kin, kids_seen, kids_left, kids_more, kin_turn}
use Rattle.tp_steps.proofs.every.RootBegins.{begin_carried, first_append}
use Rattle.tp_steps.proofs.every.BeginCases.{begun_over, begin_cases}
use Rattle.tp_steps.proofs.links.Whole.{IsWhole, whole_turn}

-- ---- the phase of one key in an event: whether the event rolls or leaves, whether a record of the key is forced, and
-- whether the user is told that a rollback is complete

pub record PhaseStep (fall leave : Bool) (p q : Phase) (logs tells : Bool) : Type 0 where
  pub active : is_active p ≡ true → (is_active q || fall || leave || logs) ≡ true
  pub kept : is_active q ≡ true → (is_active p ≡ true) × (logs ≡ false)
  pub rolling : is_rolling p ≡ true → (is_rolling q || tells) ≡ true
  pub rolled : is_rolling q ≡ true → (is_rolling p || fall) ≡ true
  pub ended : tells ≡ true → is_nil q ≡ true
  pub over : is_nil p ≡ true → is_nil q ≡ true
  pub passes : may_pass fall leave p q logs ≡ true

phase_stays : (f l : Bool) (p : Phase) (logs : Bool) → (is_active p ≡ true → logs ≡ false) → PhaseStep f l p p logs false
phase_stays f l p logs off = record {
  active = λ h. rw h refl;
  kept = λ h. (h, off h);
  rolling = λ h. rw h refl;
  rolled = λ h. rw h refl;
  ended = λ h. absurd (cc (h));
  over = λ h. h;
  passes = pass_same f l p logs;
}

phase_then : (f l : Bool) (p m q : Phase) (u v x y : Bool) → (u && v) ≡ false → PhaseStep f l p m u x → PhaseStep f l m q v y → PhaseStep f l p q (u || v) (x || y)
phase_then f l p m q u v x y apart one two = record {
  active = λ h. through (is_active m) (is_active q) f l u v (one.active h) two.active;
  kept = λ h. let b = two.kept h in let a = one.kept b.0 in (a.0, rw (a.1, b.1) refl);
  rolling = λ h. over (is_rolling m) (is_rolling q) x y (one.rolling h) two.rolling;
  rolled = λ h. back (is_rolling p) (is_rolling m) f (two.rolled h) one.rolled;
  ended = λ h. last x y refl refl h;
  over = λ h. two.over (one.over h);
  passes = pass_then f l p m q u v apart one.passes two.passes;
}
  where
    through : (a b f l u v : Bool) → (a || f || l || u) ≡ true → (a ≡ true → (b || f || l || v) ≡ true) → (b || f || l || (u || v)) ≡ true
    through true b f l u v h k = let one = k refl in grind (arith, one)
    through false b f l u v h k = grind (arith, h)

    over : (a b x y : Bool) → (a || x) ≡ true → (a ≡ true → (b || y) ≡ true) → (b || (x || y)) ≡ true
    over true b x y h k = let one = k refl in grind (arith, one)
    over false b x y h k = grind (arith, h)

    back : (p m f : Bool) → (m || f) ≡ true → (m ≡ true → (p || f) ≡ true) → (p || f) ≡ true
    back p true f h k = k refl
    back p false f h k = rw h (grind arith)

    last : (a b : Bool) → x ≡ a → y ≡ b → (a || b) ≡ true → is_nil q ≡ true
    last true b i j h = two.over (one.ended i)
    last false b i j h = two.ended (j ∙ h)

-- ---- the course of an event: `first`, the number of marks drawn at its start; `cur`, `boot` and `n` of what is known before

abbrev pub tree_at : Who → ℕ → ℕ → Aaid
tree_at who boot n = record { owner = who.site; mark = record { boot = boot; node = who.node; count = suc n } }

abbrev pub branch_at : Who → ℕ → ℕ → BranchId
branch_at who boot n = record { superior = who.site; mark = record { boot = boot; node = who.node; count = suc (suc n) } }

abbrev pub logs_now : Current → Move → Bool
logs_now c m = logs_of (node_key c.key) m.rec

abbrev pub tells_rolled : Move → Bool
tells_rolled m = out_tells is_rolled_told m.outs

-- what was current before a root is begun: nothing, or what is over in this event
abbrev pub WasOver : Bool → Bool → ℕ → Option Current → ℕ → Move → Type 0
WasOver fall leave first cur n m =
    ((cur ≡ None) × (tells_rolled m ≡ false)) ⊎ ((c : Current) × (cur ≡ Some c) × PhaseStep fall leave c.phase Phase.Nil (logs_now c m) (tells_rolled m) × (n ≡ first))

pub data Course (who : Who) (fall leave : Bool) (first : ℕ) (cur : Option Current) (boot n : ℕ) (m : Move) : Type 0 where
  -- nothing is current
  Free : cur ≡ None → m.next.current ≡ None → first_begin m.outs ≡ None → m.next.drawn ≡ n → tells_rolled m ≡ false → Course who fall leave first cur boot n m
  -- it stays, and changes its phase only before a mark is drawn
  Held : (c u : Current) → cur ≡ Some c → m.next.current ≡ Some u → u.key ≡ c.key → PhaseStep fall leave c.phase u.phase (logs_now c m) (tells_rolled m) → (u.phase ≡ c.phase) ⊎ (n ≡ first)
      → first_begin m.outs ≡ None → m.next.drawn ≡ n → kin u.branches ≡ kin c.branches → Course who fall leave first cur boot n m
  -- it is over
  Closed : (c : Current) → cur ≡ Some c → m.next.current ≡ None → PhaseStep fall leave c.phase Phase.Nil (logs_now c m) (tells_rolled m) → n ≡ first
      → first_begin m.outs ≡ None → m.next.drawn ≡ n → Course who fall leave first cur boot n m
  -- it begins on further arcs
  Grew : (c u : Current) (b : BranchId) → cur ≡ Some c → m.next.current ≡ Some u → u.key ≡ c.key → (is_active c.phase ≡ true) × (is_active u.phase ≡ true) → (logs_now c m ≡ false) × (tells_rolled m ≡ false)
      → first_begin m.outs ≡ Some (aaid_of c.key, b) → b.mark.count ≡ suc n → suc n ≤ m.next.drawn
      → kin u.branches ≡ kin c.branches ++ begun_children (aaid_of c.key) m.outs → Course who fall leave first cur boot n m
  -- a tree of the node's own is begun
  Rooted : (u : Current) → m.next.current ≡ Some u → u.key ≡ Root (tree_at who boot n) → is_active u.phase ≡ true
      → first_begin m.outs ≡ Some (tree_at who boot n, branch_at who boot n) → suc n ≤ m.next.drawn
      → kin u.branches ≡ begun_children (tree_at who boot n) m.outs → WasOver fall leave first cur n m → Course who fall leave first cur boot n m

-- ---- outputs

pub first_none_append : (xs ys : List Out) → first_begin xs ≡ None → first_begin (xs ++ ys) ≡ first_begin ys
first_none_append [] ys h = refl
first_none_append (Out.Tell i ∷ xs) ys h = first_none_append xs ys h
first_none_append (Out.Send a (PeerRecord.OnAssoc x y q (DialogueRecord.Begin t b v)) ∷ xs) ys h = absurd (cc (h))
first_none_append (Out.Send a _ ∷ xs) ys h = let rest = first_none_append xs ys in grind (arith, h, rest)

pub children_append : (t : Aaid) (xs ys : List Out) → begun_children t (xs ++ ys) ≡ begun_children t xs ++ begun_children t ys
children_append t [] ys = refl
children_append t (Out.Tell i ∷ xs) ys = children_append t xs ys
children_append t (Out.Send a (PeerRecord.OnAssoc x y q (DialogueRecord.Begin u b v)) ∷ xs) ys = go (is_aaid t u) refl (children_append t xs ys)
  where
    out : Out
    out = Out.Send a (PeerRecord.OnAssoc x y q (DialogueRecord.Begin u b v))

    go : (c : Bool) → is_aaid t u ≡ c → begun_children t (xs ++ ys) ≡ begun_children t xs ++ begun_children t ys → begun_children t (out ∷ xs ++ ys) ≡ begun_children t (out ∷ xs) ++ begun_children t ys
    go true i rest = rw (i, begun_children) (ap (λ (l : List Child). record { addr = a; branch = b } ∷ l) rest)
    go false i rest = rw (i, begun_children) rest
children_append t (Out.Send a _ ∷ xs) ys = let rest = children_append t xs ys in grind (arith, rest)

pub children_none : (t : Aaid) (xs : List Out) → first_begin xs ≡ None → begun_children t xs ≡ []
children_none t [] h = refl
children_none t (Out.Tell i ∷ xs) h = children_none t xs h
children_none t (Out.Send a (PeerRecord.OnAssoc x y q (DialogueRecord.Begin u b v)) ∷ xs) h = absurd (cc (h))
children_none t (Out.Send a _ ∷ xs) h = let rest = children_none t xs in grind (arith, h, rest)

-- outputs that begin nothing
first_carried : (arcs : List Arc) (p : ℕ) (r : DialogueRecord) → begins_none (TxOut.Carry p r ∷ []) ≡ true → first_begin (carried arcs p r).1 ≡ None
first_carried [] p r h = refl
first_carried (a ∷ arcs) p r h = go (a.peer.node == p) (first_carried arcs p r h)
  where
    on : (l : Link) (r : DialogueRecord) → begins_none (TxOut.Carry p r ∷ []) ≡ true → first_begin (carried_on (record a { link = l }) r).1 ≡ None
    on Idle r h = refl
    on (Opening x) r h = refl
    on (Offered x) r h = refl
    on (Live x y s t) (DialogueRecord.Begin u b v) h = absurd (cc (h))
    on (Live x y s t) r h = grind (arith, h)

    go : (b : Bool) → first_begin (carried arcs p r).1 ≡ None → first_begin (if◌then◌else◌ {A = List Arc × List Out} b (let s = carried_on a r in (s.0 ∷ arcs, s.1)) (let s = carried arcs p r in (a ∷ s.0, s.1))).1 ≡ None
    go true rest = on a.link r h
    go false rest = rest

first_one : (arcs : List Arc) (o : TxOut) → begins_none (o ∷ []) ≡ true → is_apart o ≡ true → first_begin (performed_one arcs o).1 ≡ None
first_one arcs (TxOut.Carry p r) h k = first_carried arcs p r h
first_one arcs (TxOut.Shut p) h k = grind arith
first_one arcs (TxOut.Recovery a (PeerRecord.OnAssoc x y q r)) h k = absurd (cc (k))
first_one arcs (TxOut.Recovery a r) h k = grind arith
first_one arcs _ h k = refl

pub first_performed : (arcs : List Arc) (outs : List TxOut) → begins_none outs ≡ true → are_apart outs ≡ true → first_begin (performed arcs outs).1 ≡ None
first_performed arcs [] h k = refl
first_performed arcs (o ∷ outs) h k =
    let both : (begins_none (o ∷ []) && begins_none outs) ≡ true = sym (none_append (o ∷ []) outs) ∙ h in
    first_none_append (performed_one arcs o).1 (performed (performed_one arcs o).0 outs).1 (first_one arcs o (and_left (begins_none (o ∷ [])) (begins_none outs) both) (and_left (is_apart o) (are_apart outs) k))
    ∙ first_performed (performed_one arcs o).0 outs (and_right (begins_none (o ∷ [])) (begins_none outs) both) (and_right (is_apart o) (are_apart outs) k)

grants_none : (t : Transaction) (arcs : List Arc) → begins_none (grants t arcs) ≡ true
grants_none t [] = refl
grants_none t (a ∷ arcs) = grind (arith, grants_none t arcs)

first_commit : (d : Digest) (t : Transaction) (s : List TxOut × List TxOut) (arcs : List Arc) → begins_none (s.0 ++ s.1) ≡ true → are_apart (s.0 ++ s.1) ≡ true → first_begin (perform_commit d t s arcs).1 ≡ None
first_commit d t s arcs h k =
    let parts = parts_apart s k in
    let one = performed arcs s.0 in
    let two = performed (committed_arcs d t one.0) (grants t one.0) in
    let three = performed two.0 s.1 in
    let both : (begins_none s.0 && begins_none s.1) ≡ true = sym (none_append s.0 s.1) ∙ h in
    let a : first_begin one.1 ≡ None = first_performed arcs s.0 (and_left (begins_none s.0) (begins_none s.1) both) (and_left (are_apart s.0) (are_apart s.1) parts) in
    let b : first_begin two.1 ≡ None = first_performed (committed_arcs d t one.0) (grants t one.0) (grants_none t one.0) (apart_grants t one.0) in
    let c : first_begin three.1 ≡ None = first_performed two.0 s.1 (and_right (begins_none s.0) (begins_none s.1) both) (and_right (are_apart s.0) (are_apart s.1) parts) in
    first_none_append (one.1 ++ two.1) three.1 (first_none_append one.1 two.1 a ∙ b) ∙ c

pub first_played : (d : Digest) (t : Transaction) (w : Passage) (a : Turn) → IsWhole a → (arcs : List Arc) → begins_none a.outs ≡ true → are_apart a.outs ≡ true → first_begin (played d t w a arcs).1 ≡ None
unfolding played
first_played d t Commits a whole arcs h k = first_commit d t (around_grants a) arcs (ap begins_none whole ∙ h) (ap are_apart whole ∙ k)
first_played d t _ a whole arcs h k = first_performed arcs a.outs h k

-- what is said outside transactions begins nothing, and tells of no rollback
pub spoken_none : (outs : List TxOut) → are_spoken outs ≡ true → begins_none outs ≡ true
spoken_none [] h = refl
spoken_none (TxOut.Tell i ∷ outs) h = spoken_none outs (and_right (is_spoken (TxOut.Tell i)) (are_spoken outs) h)
spoken_none (TxOut.Carry p (DialogueRecord.Begin t b v) ∷ outs) h = absurd (cc (h))
spoken_none (TxOut.Carry p r ∷ outs) h = let rest = spoken_none outs (and_right (is_spoken (TxOut.Carry p r)) (are_spoken outs) h) in grind (arith, rest)
spoken_none (TxOut.Shut p ∷ outs) h = spoken_none outs h
spoken_none (TxOut.Recovery a r ∷ outs) h = spoken_none outs (and_right (is_spoken (TxOut.Recovery a r)) (are_spoken outs) h)
spoken_none (TxOut.Close p ∷ outs) h = spoken_none outs h

spoken_untold : (outs : List TxOut) → are_spoken outs ≡ true → asks_tell is_rolled_told outs ≡ false
spoken_untold [] h = refl
spoken_untold (TxOut.Tell i ∷ outs) h = let rest = spoken_untold outs (and_right (is_spoken (TxOut.Tell i)) (are_spoken outs) h) in let one : is_rolled_told i ≡ false = grind (arith, h) in rw (one, rest) refl
spoken_untold (TxOut.Carry p r ∷ outs) h = spoken_untold outs (and_right (is_spoken (TxOut.Carry p r)) (are_spoken outs) h)
spoken_untold (TxOut.Shut p ∷ outs) h = spoken_untold outs h
spoken_untold (TxOut.Recovery a r ∷ outs) h = spoken_untold outs (and_right (is_spoken (TxOut.Recovery a r)) (are_spoken outs) h)
spoken_untold (TxOut.Close p ∷ outs) h = spoken_untold outs h

-- ---- what is right of a node all along

abbrev pub IsRight : Who → ℕ → Digest → Type 0
IsRight who first d = IsSound who d × IsLate d × (are_separate d.arcs ≡ true) × (first ≤ d.drawn)

abbrev pub IsCourse : Who → Bool → Bool → ℕ → Digest → Move → Type 0
IsCourse who fall leave first d m = IsRight who first d → Course who fall leave first d.current d.boot d.drawn m

-- nothing happens to what is current
pub course_same : (who : Who) (fall leave : Bool) (first : ℕ) (d : Digest) (m : Move) → m.next.current ≡ d.current → first_begin m.outs ≡ None → m.next.drawn ≡ d.drawn → tells_rolled m ≡ false
    → ((c : Current) → d.current ≡ Some c → is_active c.phase ≡ true → logs_now c m ≡ false) → Course who fall leave first d.current d.boot d.drawn m
course_same who fall leave first d m same none drawn untold quiet = go d.current refl
  where
    go : (o : Option Current) → d.current ≡ o → Course who fall leave first d.current d.boot d.drawn m
    go None i = Free i (same ∙ i) none drawn untold
    go (Some c) i = Held c c i (same ∙ i) refl (subst (λ (b : Bool). PhaseStep fall leave c.phase c.phase (logs_now c m) b) (sym untold) (phase_stays fall leave c.phase (logs_now c m) (quiet c i))) (inl refl) none drawn refl

pub course_perform : (who : Who) (fall leave : Bool) (first : ℕ) (d : Digest) (outs : List TxOut) → are_spoken outs ≡ true → Course who fall leave first d.current d.boot d.drawn (perform outs d)
course_perform who fall leave first d outs h =
    course_same who fall leave first d (perform outs d) refl (first_performed d.arcs outs (spoken_none outs h) (apart_spoken outs h)) refl (told_performed is_rolled_told d.arcs outs ∙ spoken_untold outs h) (λ c i act. refl)

kept_logs : (k j : NodeKey) (r : Option LogRec) → IsOfKept j r → (j ≡ k → ⊥) → logs_of k r ≡ false
kept_logs k j None h off = refl
kept_logs k j (Some (LogRec.Damage n i s o r cs)) h off = other (is_key k i) refl
  where
    other : (b : Bool) → is_key k i ≡ b → is_key k i ≡ false
    other false e = e
    other true e = absurd (off (sym h ∙ sym (keys_equal k i e)))
kept_logs k j (Some (LogRec.End n i o)) h off = other (is_key k i) refl
  where
    other : (b : Bool) → is_key k i ≡ b → is_key k i ≡ false
    other false e = e
    other true e = absurd (off (sym h ∙ sym (keys_equal k i e)))
kept_logs k j _ h off = absurd h

pub active_flat : (p : Phase) → is_active p ≡ true → is_rolling p ≡ false
active_flat p h = grind (arith, h)

pub course_keep : (who : Who) (fall leave : Bool) (first : ℕ) (d : Digest) (k : Kept) (f : KeptEvent) → IsAmong d.kept k → IsRight who first d → Course who fall leave first d.current d.boot d.drawn (keep (settled k f) d)
course_keep who fall leave first d k f among right =
    let h : are_spoken (settled k f).outs ≡ true = settled_spoken k f in
    course_same who fall leave first d (keep (settled k f) d) refl (first_performed d.arcs (settled k f).outs (spoken_none (settled k f).outs h) (apart_spoken (settled k f).outs h)) refl
    (told_performed is_rolled_told d.arcs (settled k f).outs ∙ spoken_untold (settled k f).outs h)
    (λ c i act. kept_logs (node_key c.key) k.key (settled k f).rec (settled_of k f) (apart_among (node_key c.key) d.kept k (right.0.0 c i (active_flat c.phase act)) among))

-- ---- a turn

logged_key : (k : NodeKey) (t u : Transaction) (r : Option LogRec) → IsLogged t r u → node_key t.key ≡ k → is_some_rec r ≡ logs_of k r
logged_key k t u None h same = refl
logged_key k t u (Some (LogRec.Boot n)) h same = absurd h
logged_key k t u (Some (LogRec.End n j o)) h same = sym (ap (is_key k) (h ∙ same) ∙ key_self k)
logged_key k t u _ h same = sym (ap (is_key k) (h.0 ∙ same) ∙ key_self k)

-- what the event of the node says of that of its transaction
pub record Means (who : Who) (e : Event) (fall leave : Bool) (s : Digest) : Type 0 where
  pub falls_so : (c : Current) (f : TxEvent) (arcs : List Arc) → s.current ≡ Some c → IsAsked e c f → falls f (seen who arcs c) ≡ true → fall ≡ true
  pub leaves_so : (c : Current) (f : TxEvent) → IsAsked e c f → is_leaving f ≡ true → leave ≡ true

turn_phase : (who : Who) (e : Event) (fall leave : Bool) (s d : Digest) (c : Current) (f : TxEvent) → Means who e fall leave s → s.current ≡ Some c → IsAsked e c f → IsPut f (seen who d.arcs c)
    → (is_active c.phase ≡ true → c.decision ≡ None) → PhaseStep fall leave c.phase (transacted f (seen who d.arcs c)).next.phase (logs_now c (turned who f d c)) (tells_rolled (turned who f d c))
turn_phase who e fall leave s d c f means at asked put un = record {
  active = λ h. four (is_active a.next.phase) fall leave (logs_of (node_key c.key) a.rec) (falls f t) (is_leaving f) (is_some_rec a.rec) (staged.active h) fell left logs;
  kept = λ h. let k = told.active h in (k.0, ap (logs_of (node_key c.key)) k.1);
  rolling = λ h. ap (λ (b : Bool). is_rolling a.next.phase || b) tells ∙ staged.rolling h;
  rolled = λ h. rolled (is_rolling c.phase) (falls f t) (passed.rolling h) fell;
  ended = λ h. staged.ended (sym tells ∙ h);
  over = λ h. staged.over h;
  passes = pass_more (falls f t) (is_leaving f) fall leave c.phase a.next.phase (is_some_rec a.rec) (logs_of (node_key c.key) a.rec) fell left logs (ending_turn f t put);
}
  where
    t : Transaction
    t = seen who d.arcs c

    a : Turn
    a = transacted f t

    staged : IsStaged f t t a
    staged = staged_turn f t put

    passed : IsPassed f t t a
    passed = passed_turn f t put

    told : IsTold t a
    told = told_turn f t put un

    tells : tells_rolled (turned who f d c) ≡ asks_tell is_rolled_told a.outs
    tells = told_played is_rolled_told d t _ a (whole_turn f t) _

    fell : falls f t ≡ true → fall ≡ true
    fell h = means.falls_so c f d.arcs at asked h

    left : is_leaving f ≡ true → leave ≡ true
    left h = means.leaves_so c f asked h

    logs : is_some_rec a.rec ≡ logs_of (node_key c.key) a.rec
    logs = logged_key (node_key c.key) t a.next a.rec passed.logs refl

    rolled : (x y : Bool) → (x || y) ≡ true → (y ≡ true → fall ≡ true) → (x || fall) ≡ true
    rolled true y h k = refl
    rolled false y h k = k h

    four : (x f l v y z w : Bool) → (x || y || z || w) ≡ true → (y ≡ true → f ≡ true) → (z ≡ true → l ≡ true) → w ≡ v → (x || f || l || v) ≡ true
    four true f l v y z w h i j k = refl
    four false f l v true z w h i j k = rw (i refl) refl
    four false f l v false true w h i j k = rw (j refl) (either f)
      where
        either : (f : Bool) → (f || true || v) ≡ true
        either f = grind arith
    four false f l v false false w h i j k = let one : v ≡ true = sym k ∙ h in rw one (last f l)
      where
        last : (f l : Bool) → (f || l || true) ≡ true
        last f l = grind arith

pub course_turned : (who : Who) (e : Event) (fall leave : Bool) (first : ℕ) (s d : Digest) (c : Current) (f : TxEvent) → Means who e fall leave s → d.current ≡ Some c → s.current ≡ Some c → IsAsked e c f → IsPut f (seen who d.arcs c)
    → d.drawn ≡ first → IsRight who first d → Course who fall leave first d.current d.boot d.drawn (turned who f d c)
course_turned who e fall leave first s d c f means now at asked put like right = go (remaining a.next) refl
  where
    t : Transaction
    t = seen who d.arcs c

    a : Turn
    a = transacted f t

    m : Move
    m = turned who f d c

    step : PhaseStep fall leave c.phase a.next.phase (logs_now c m) (tells_rolled m)
    step = turn_phase who e fall leave s d c f means at asked put (right.0.3 c now)

    none : first_begin m.outs ≡ None
    none = first_played d t _ a (whole_turn f t) _ (passed_turn f t put).begins (apart_turn f t put)

    nil : (p : Phase) → is_nil p ≡ true → p ≡ Phase.Nil
    nil Phase.Nil h = refl
    nil Phase.Active h = absurd (cc (h))
    nil Phase.Ready h = absurd (cc (h))
    nil Phase.Committing h = absurd (cc (h))
    nil Phase.Rolling h = absurd (cc (h))

    gone : remaining a.next ≡ None → a.next.phase ≡ Phase.Nil
    gone i = on (is_nil a.next.phase) refl
      where
        on : (b : Bool) → is_nil a.next.phase ≡ b → a.next.phase ≡ Phase.Nil
        on true j = nil a.next.phase j
        on false j = absurd (grind (arith, i, j))

    go : (o : Option Current) → remaining a.next ≡ o → Course who fall leave first d.current d.boot d.drawn m
    go None i = Closed c now i (subst (λ (p : Phase). PhaseStep fall leave c.phase p (logs_now c m) (tells_rolled m)) (gone i) step) like none refl
    go (Some u) i =
        let l = left_is a.next u i in
        Held c u now i (l.0 ∙ (passed_turn f t put).key) (subst (λ (p : Phase). PhaseStep fall leave c.phase p (logs_now c m) (tells_rolled m)) (sym l.1) step) (inr like) none refl
        (ap kin (left_branches a.next u i) ∙ kids_left a.next.rows ∙ kin_turn f t put ∙ kids_seen d.arcs c.branches)

-- ---- a Begin

child_carried : (arcs : List Arc) (p : ℕ) (t : Aaid) (b : BranchId) (h : Holder) (a : Arc) → find_arc arcs p ≡ Some a → is_live a.link ≡ true
    → begun_children t (carried arcs p (DialogueRecord.Begin t b h)).1 ≡ record { addr = a.peer; branch = b } ∷ []
child_carried [] p t b h a i live = absurd (cc (i))
child_carried (x ∷ arcs) p t b h a i live = go (x.peer.node == p) refl (child_carried arcs p t b h a)
  where
    self : is_aaid t t ≡ true
    self = aaid_same t

    on : (y : Arc) (l : Link) → y.link ≡ l → is_live l ≡ true → begun_children t (carried_on y (DialogueRecord.Begin t b h)).1 ≡ record { addr = y.peer; branch = b } ∷ []
    on y Idle j k = absurd (cc (k))
    on y (Opening m) j k = absurd (cc (k))
    on y (Offered m) j k = absurd (cc (k))
    on y (Live m n s q) j k = rw (j, carried_on) (rw (self, begun_children) refl)

    go : (v : Bool) → (x.peer.node == p) ≡ v → (find_arc arcs p ≡ Some a → is_live a.link ≡ true → begun_children t (carried arcs p (DialogueRecord.Begin t b h)).1 ≡ record { addr = a.peer; branch = b } ∷ [])
        → begun_children t (carried (x ∷ arcs) p (DialogueRecord.Begin t b h)).1 ≡ record { addr = a.peer; branch = b } ∷ []
    go true j rest =
        let one : Some x ≡ Some a = rw (j, find_arc) at i in
        let same : x ≡ a = cc (one) in
        rw (j, carried) (on x x.link refl (ap (λ (y : Arc). is_live y.link) same ∙ live) ∙ ap (λ (y : Arc). record { addr = y.peer; branch = b } ∷ []) same)
    go false j rest = rw (j, carried) (rest (rw (j, find_arc) at i) live)

dialogue_found : (arcs : List Arc) (p : ℕ) (f : _) (a : Arc) → find_arc arcs p ≡ Some a → find_arc (with_dialogue arcs p f) p ≡ Some (record a { dialogue = f a.dialogue })
dialogue_found [] p f a h = absurd (cc (h))
dialogue_found (x ∷ arcs) p f a h = go (x.peer.node == p) refl (dialogue_found arcs p f a)
  where
    go : (b : Bool) → (x.peer.node == p) ≡ b → (find_arc arcs p ≡ Some a → find_arc (with_dialogue arcs p f) p ≡ Some (record a { dialogue = f a.dialogue }))
        → find_arc (with_dialogue (x ∷ arcs) p f) p ≡ Some (record a { dialogue = f a.dialogue })
    go true j rest =
        let one : Some x ≡ Some a = rw (j, find_arc) at h in
        let same : x ≡ a = cc (one) in
        rw (j, with_dialogue) (rw (j, find_arc) (ap (λ (y : Arc). Some (record y { dialogue = f y.dialogue })) same))
    go false j rest = rw (j, with_dialogue) (rw (j, find_arc) (rest (rw (j, find_arc) at h)))

stays_some : (t : Transaction) → is_nil t.phase ≡ false → (u : Current) × (remaining t ≡ Some u)
stays_some t h = go (remaining t) refl
  where
    go : (o : Option Current) → remaining t ≡ o → (u : Current) × (remaining t ≡ Some u)
    go None i = absurd (grind (arith, h, i))
    go (Some u) i = (u, i)

active_alive : (p : Phase) → is_active p ≡ true → is_nil p ≡ false
active_alive p h = grind (arith, h)

at_least : (n : ℕ) → suc n ≤ suc n
at_least n = omega arith

pub course_begins : (who : Who) (fall leave : Bool) (first q : ℕ) (d : Digest) → Course who fall leave first d.current d.boot d.drawn (begin_on who q d)
course_begins who fall leave first q d = begin_cases (Course who fall leave first d.current d.boot d.drawn) who q d still on
  where
    id : BranchId
    id = record { superior = who.site; mark = next_mark who d }

    sent : Current → Arc → Move
    sent x y = perform (TxOut.Carry q (DialogueRecord.Begin (aaid_of x.key) id (named_holder y.dialogue)) ∷ []) (record (with_begun who (with_mark_drawn d) x (record { addr = y.peer; branch = id })) { arcs = with_dialogue d.arcs q (begun_by (named_holder y.dialogue) Side.Superior) })

    still : Course who fall leave first d.current d.boot d.drawn (move [] d)
    still = course_same who fall leave first d (move [] d) refl refl refl refl (λ c i act. refl)

    on : (c : Current) (a : Arc) → d.current ≡ Some c → find_arc d.arcs q ≡ Some a → may_begin_on who d a ≡ true → Course who fall leave first d.current d.boot d.drawn (begun_over who q d c a)
    on c a now found may =
        let live : is_live a.link ≡ true = grind (arith, may) in
        let phase : is_active (phase_of d) ≡ true = grind (arith, may) in
        let act : is_active c.phase ≡ true = rw (now, phase_of) at phase in
        let h : Holder = named_holder a.dialogue in
        let arcs : List Arc = with_dialogue d.arcs q (begun_by h Side.Superior) in
        let child : Child = record { addr = a.peer; branch = id } in
        let t : Transaction = seen who d.arcs c in
        let v : Transaction = (transacted (TxEvent.Begun (child ∷ [])) t).next in
        let u = stays_some v (active_alive c.phase act) in
        let l = left_is v u.0 u.1 in
        let linked : is_live (link_with arcs q) ≡ true = ap is_live (link_dialogue d.arcs q (begun_by h Side.Superior) q) ∙ ap (λ (o : Option Arc). is_live (link_of o)) found ∙ live in
        let says : first_begin (carried arcs q (DialogueRecord.Begin (aaid_of c.key) id h)).1 ≡ Some (aaid_of c.key, id) = begin_carried arcs q (aaid_of c.key) id h linked in
        let one : begun_children (aaid_of c.key) (carried arcs q (DialogueRecord.Begin (aaid_of c.key) id h)).1 ≡ child ∷ [] = child_carried arcs q (aaid_of c.key) id h _ (dialogue_found d.arcs q (begun_by h Side.Superior) a found) live in
        let kids_now : kin u.0.branches ≡ kin c.branches ++ (child ∷ []) =
        ap kin (left_branches v u.0 u.1) ∙ kids_left v.rows ∙ kids_more t.rows child ∙ ap (λ (cs : List Child). cs ++ (child ∷ [])) (kids_seen d.arcs c.branches) in
        Grew c u.0 id now u.1 l.0 (act, ap is_active l.1 ∙ act) (refl, told_performed is_rolled_told arcs (TxOut.Carry q (DialogueRecord.Begin (aaid_of c.key) id h) ∷ []))
        (first_append (carried arcs q (DialogueRecord.Begin (aaid_of c.key) id h)).1 [] (aaid_of c.key, id) says) refl (at_least d.drawn)
        (kids_now ∙ ap (λ (cs : List Child). kin c.branches ++ cs) (sym (children_append (aaid_of c.key) (carried arcs q (DialogueRecord.Begin (aaid_of c.key) id h)).1 [] ∙ append-nil _ ∙ one)))

-- ---- chains

pub logs_then : (k : NodeKey) (x y : Option LogRec) → (x ≡ None) ⊎ (y ≡ None) → logs_of k (elim y as (λ _. Option LogRec) [ None ↦ x | Some r ↦ Some r ]) ≡ (logs_of k x || logs_of k y)
logs_then k x None q = back (logs_of k x)
  where
    back : (b : Bool) → b ≡ (b || false)
    back true = refl
    back false = refl
logs_then k None (Some r) q = refl
logs_then k (Some s) (Some r) (inl i) = absurd (cc (i))
logs_then k (Some s) (Some r) (inr i) = absurd (cc (i))

-- one of two forces no record
pub logs_apart : (k : NodeKey) (x y : Option LogRec) → (x ≡ None) ⊎ (y ≡ None) → (logs_of k x && logs_of k y) ≡ false
logs_apart k None y q = refl
logs_apart k (Some s) None q = off (logs_of k (Some s))
  where
    off : (b : Bool) → (b && false) ≡ false
    off true = refl
    off false = refl
logs_apart k (Some s) (Some r) (inl i) = absurd (cc (i))
logs_apart k (Some s) (Some r) (inr i) = absurd (cc (i))

pub some_same : (x y : Current) → Some x ≡ Some y → x ≡ y
some_same x y h = cc (h)

pub no_some : (x : Option Current) (c : Current) → x ≡ None → x ≡ Some c → ⊥
no_some x c h i = cc (h, i)

pub active_nil : (p : Phase) → is_active p ≡ true → is_nil p ≡ true → ⊥
active_nil p h k = grind (arith, h, k)

pub past_first : (first n k : ℕ) → first ≤ n → suc n ≤ k → k ≡ first → ⊥
past_first first n k h i j = omega (arith, h, i, j)

more_drawn : (n k l : ℕ) → suc n ≤ k → k ≤ l → suc n ≤ l
more_drawn n k l h i = omega (arith, h, i)

same_most : (k l : ℕ) → l ≡ k → k ≤ l
same_most k l h = omega (arith, h)

untold : (f l : Bool) (p q : Phase) (x y : Bool) → PhaseStep f l p q x y → is_active q ≡ true → y ≡ false
untold f l p q x true step act = absurd (active_nil q act (step.ended refl))
untold f l p q x false step act = refl

nil_step : (f l logs : Bool) → PhaseStep f l Phase.Nil Phase.Nil logs false
nil_step f l logs = phase_stays f l Phase.Nil logs (λ h. absurd (cc (h)))

pub course_then : (who : Who) (fall leave : Bool) (first : ℕ) (cur : Option Current) (boot n : ℕ) (a b : Move) (r : Option LogRec) → ((k : NodeKey) → logs_of k r ≡ (logs_of k a.rec || logs_of k b.rec)) → ((k : NodeKey) → (logs_of k a.rec && logs_of k b.rec) ≡ false) → a.next.boot ≡ boot → first ≤ n
    → Course who fall leave first cur boot n a → Course who fall leave first a.next.current a.next.boot a.next.drawn b → Course who fall leave first cur boot n (record { rec = r; outs = a.outs ++ b.outs; next = b.next })
course_then who fall leave first cur boot n a b r logs apart booted low one two = pick one
  where
    m : Move
    m = record { rec = r; outs = a.outs ++ b.outs; next = b.next }

    tells : tells_rolled m ≡ (tells_rolled a || tells_rolled b)
    tells = told_append is_rolled_told a.outs b.outs

    joined : (c : Current) (p q s : Phase) → PhaseStep fall leave p q (logs_now c a) (tells_rolled a) → PhaseStep fall leave q s (logs_of (node_key c.key) b.rec) (tells_rolled b) → PhaseStep fall leave p s (logs_now c m) (tells_rolled m)
    joined c p q s x y =
        subst (λ (v : Bool). PhaseStep fall leave p s (logs_now c m) v) (sym tells)
        (subst (λ (v : Bool). PhaseStep fall leave p s v (tells_rolled a || tells_rolled b)) (sym (logs (node_key c.key)))
        (phase_then fall leave p q s (logs_now c a) (logs_of (node_key c.key) b.rec) (tells_rolled a) (tells_rolled b) (apart (node_key c.key)) x y))

    -- the second step at the key that the first one left
    at_key : (c u v : Current) → u.key ≡ c.key → v ≡ u → (p q : Phase) → PhaseStep fall leave p q (logs_now v b) (tells_rolled b) → PhaseStep fall leave p q (logs_of (node_key c.key) b.rec) (tells_rolled b)
    at_key c u v key same p q x = subst (λ (k : Key). PhaseStep fall leave p q (logs_of (node_key k) b.rec) (tells_rolled b)) (ap (λ (z : Current). z.key) same ∙ key) x

    untold_both : tells_rolled a ≡ false → tells_rolled b ≡ false → tells_rolled m ≡ false
    untold_both x y = tells ∙ rw (x, y) refl

    unlogged : (c : Current) → logs_now c a ≡ false → logs_of (node_key c.key) b.rec ≡ false → logs_now c m ≡ false
    unlogged c x y = logs (node_key c.key) ∙ rw (x, y) refl

    -- nothing was begun before
    fresh : a.next.drawn ≡ n → Course who fall leave first a.next.current boot n b
    fresh dr = subst (λ (k : ℕ). Course who fall leave first a.next.current boot k b) dr (subst (λ (k : ℕ). Course who fall leave first a.next.current k a.next.drawn b) booted two)

    kids_of : (t : Aaid) → first_begin a.outs ≡ None → begun_children t m.outs ≡ begun_children t b.outs
    kids_of t none = children_append t a.outs b.outs ∙ ap (λ (cs : List Child). cs ++ begun_children t b.outs) (children_none t a.outs none)

    free : cur ≡ None → a.next.current ≡ None → first_begin a.outs ≡ None → tells_rolled a ≡ false → Course who fall leave first a.next.current boot n b → Course who fall leave first cur boot n m
    free i j none quiet (Free i2 j2 f2 d2 t2) = Free i j2 (first_none_append a.outs b.outs none ∙ f2) d2 (untold_both quiet t2)
    free i j none quiet (Held c u i2 j2 k2 s2 h2 f2 d2 n2) = absurd (no_some a.next.current c j i2)
    free i j none quiet (Closed c i2 j2 s2 h2 f2 d2) = absurd (no_some a.next.current c j i2)
    free i j none quiet (Grew c u x i2 j2 k2 a2 l2 f2 c2 d2 n2) = absurd (no_some a.next.current c j i2)
    free i j none quiet (Rooted u j2 k2 a2 f2 d2 n2 (inl w)) = Rooted u j2 k2 a2 (first_none_append a.outs b.outs none ∙ f2) d2 (n2 ∙ sym (kids_of (tree_at who boot n) none)) (inl (i, untold_both quiet w.1))
    free i j none quiet (Rooted u j2 k2 a2 f2 d2 n2 (inr w)) = absurd (no_some a.next.current w.0 j w.1)

    held : (c u : Current) → cur ≡ Some c → a.next.current ≡ Some u → u.key ≡ c.key → PhaseStep fall leave c.phase u.phase (logs_now c a) (tells_rolled a) → (u.phase ≡ c.phase) ⊎ (n ≡ first) → first_begin a.outs ≡ None → kin u.branches ≡ kin c.branches
        → Course who fall leave first a.next.current boot n b → Course who fall leave first cur boot n m
    held c u i j key step moved none same (Free i2 j2 f2 d2 t2) = absurd (no_some a.next.current u i2 j)
    held c u i j key step moved none same (Held x y i2 j2 k2 s2 h2 f2 d2 n2) =
        let eq : x ≡ u = some_same x u (sym i2 ∙ j) in
        let s3 : PhaseStep fall leave u.phase y.phase (logs_of (node_key c.key) b.rec) (tells_rolled b) = subst (λ (p : Phase). PhaseStep fall leave p y.phase (logs_of (node_key c.key) b.rec) (tells_rolled b)) (ap (λ (z : Current). z.phase) eq) (at_key c u x key eq x.phase y.phase s2) in
        Held c y i j2 (k2 ∙ ap (λ (z : Current). z.key) eq ∙ key) (joined c c.phase u.phase y.phase step s3)
        (both moved (elim h2 [ inl z ↦ inl (z ∙ ap (λ (w : Current). w.phase) eq) | inr z ↦ inr z ]))
        (first_none_append a.outs b.outs none ∙ f2) d2 (n2 ∙ ap (λ (z : Current). kin z.branches) eq ∙ same)
      where
        both : (u.phase ≡ c.phase) ⊎ (n ≡ first) → (y.phase ≡ u.phase) ⊎ (n ≡ first) → (y.phase ≡ c.phase) ⊎ (n ≡ first)
        both (inl p) (inl q) = inl (q ∙ p)
        both (inl p) (inr q) = inr q
        both (inr p) q = inr p
    held c u i j key step moved none same (Closed x i2 j2 s2 h2 f2 d2) =
        let eq : x ≡ u = some_same x u (sym i2 ∙ j) in
        let s3 : PhaseStep fall leave u.phase Phase.Nil (logs_of (node_key c.key) b.rec) (tells_rolled b) = subst (λ (p : Phase). PhaseStep fall leave p Phase.Nil (logs_of (node_key c.key) b.rec) (tells_rolled b)) (ap (λ (z : Current). z.phase) eq) (at_key c u x key eq x.phase Phase.Nil s2) in
        Closed c i j2 (joined c c.phase u.phase Phase.Nil step s3) h2 (first_none_append a.outs b.outs none ∙ f2) d2
    held c u i j key step moved none same (Grew x y w i2 j2 k2 a2 l2 f2 c2 d2 n2) =
        let eq : x ≡ u = some_same x u (sym i2 ∙ j) in
        let act : is_active u.phase ≡ true = ap (λ (z : Current). is_active z.phase) (sym eq) ∙ a2.0 in
        let was = step.kept act in
        let keys : x.key ≡ c.key = ap (λ (z : Current). z.key) eq ∙ key in
        let tree : aaid_of x.key ≡ aaid_of c.key = ap aaid_of keys in
        Grew c y w i j2 (k2 ∙ keys) (was.0, a2.1)
        (unlogged c was.1 (ap (λ (k : Key). logs_of (node_key k) b.rec) (sym keys) ∙ l2.0), untold_both (untold fall leave c.phase u.phase (logs_now c a) (tells_rolled a) step act) l2.1)
        (first_none_append a.outs b.outs none ∙ f2 ∙ ap (λ (t : Aaid). Some (t, w)) tree) c2 d2
        (n2 ∙ ap (λ (z : Current). kin z.branches ++ begun_children (aaid_of x.key) b.outs) eq ∙ ap (λ (cs : List Child). cs ++ begun_children (aaid_of x.key) b.outs) same
        ∙ ap (λ (t : Aaid). kin c.branches ++ begun_children t b.outs) tree ∙ ap (λ (cs : List Child). kin c.branches ++ cs) (sym (kids_of (aaid_of c.key) none)))
    held c u i j key step moved none same (Rooted y j2 k2 a2 f2 d2 n2 (inl w)) = absurd (no_some a.next.current u w.0 j)
    held c u i j key step moved none same (Rooted y j2 k2 a2 f2 d2 n2 (inr w)) =
        let eq : w.0 ≡ u = some_same w.0 u (sym w.1 ∙ j) in
        let s3 : PhaseStep fall leave u.phase Phase.Nil (logs_of (node_key c.key) b.rec) (tells_rolled b) = subst (λ (p : Phase). PhaseStep fall leave p Phase.Nil (logs_of (node_key c.key) b.rec) (tells_rolled b)) (ap (λ (z : Current). z.phase) eq) (at_key c u w.0 key eq w.0.phase Phase.Nil w.2) in
        Rooted y j2 k2 a2 (first_none_append a.outs b.outs none ∙ f2) d2 (n2 ∙ sym (kids_of (tree_at who boot n) none)) (inr (c, i, joined c c.phase u.phase Phase.Nil step s3, w.3))

    closed : (c : Current) → cur ≡ Some c → a.next.current ≡ None → PhaseStep fall leave c.phase Phase.Nil (logs_now c a) (tells_rolled a) → n ≡ first → first_begin a.outs ≡ None
        → Course who fall leave first a.next.current boot n b → Course who fall leave first cur boot n m
    closed c i j step at none (Free i2 j2 f2 d2 t2) = Closed c i j2 (joined c c.phase Phase.Nil Phase.Nil step (subst (λ (v : Bool). PhaseStep fall leave Phase.Nil Phase.Nil (logs_of (node_key c.key) b.rec) v) (sym t2) (nil_step fall leave (logs_of (node_key c.key) b.rec)))) at (first_none_append a.outs b.outs none ∙ f2) d2
    closed c i j step at none (Held x u i2 j2 k2 s2 h2 f2 d2 n2) = absurd (no_some a.next.current x j i2)
    closed c i j step at none (Closed x i2 j2 s2 h2 f2 d2) = absurd (no_some a.next.current x j i2)
    closed c i j step at none (Grew x u y i2 j2 k2 a2 l2 f2 c2 d2 n2) = absurd (no_some a.next.current x j i2)
    closed c i j step at none (Rooted u j2 k2 a2 f2 d2 n2 (inl w)) =
        Rooted u j2 k2 a2 (first_none_append a.outs b.outs none ∙ f2) d2 (n2 ∙ sym (kids_of (tree_at who boot n) none))
        (inr (c, i, joined c c.phase Phase.Nil Phase.Nil step (subst (λ (v : Bool). PhaseStep fall leave Phase.Nil Phase.Nil (logs_of (node_key c.key) b.rec) v) (sym w.1) (nil_step fall leave (logs_of (node_key c.key) b.rec))), at))
    closed c i j step at none (Rooted u j2 k2 a2 f2 d2 n2 (inr w)) = absurd (no_some a.next.current w.0 j w.1)

    -- after a Begin no turn is taken
    grew : (c u : Current) (x : BranchId) → cur ≡ Some c → a.next.current ≡ Some u → u.key ≡ c.key → (is_active c.phase ≡ true) × (is_active u.phase ≡ true) → (logs_now c a ≡ false) × (tells_rolled a ≡ false) → first_begin a.outs ≡ Some (aaid_of c.key, x)
        → x.mark.count ≡ suc n → suc n ≤ a.next.drawn → kin u.branches ≡ kin c.branches ++ begun_children (aaid_of c.key) a.outs
        → Course who fall leave first a.next.current a.next.boot a.next.drawn b → Course who fall leave first cur boot n m
    grew c u x i j key act quiet says count le same (Free i2 j2 f2 d2 t2) = absurd (no_some a.next.current u i2 j)
    grew c u x i j key act quiet says count le same (Closed y i2 j2 s2 h2 f2 d2) = absurd (past_first first n a.next.drawn low le h2)
    grew c u x i j key act quiet says count le same (Rooted y j2 k2 a2 f2 d2 n2 (inl w)) = absurd (no_some a.next.current u w.0 j)
    grew c u x i j key act quiet says count le same (Rooted y j2 k2 a2 f2 d2 n2 (inr w)) = absurd (past_first first n a.next.drawn low le w.3)
    grew c u x i j key act quiet says count le same (Held y z i2 j2 k2 s2 (inr h2) f2 d2 n2) = absurd (past_first first n a.next.drawn low le h2)
    grew c u x i j key act quiet says count le same (Held y z i2 j2 k2 s2 (inl h2) f2 d2 n2) =
        let eq : y ≡ u = some_same y u (sym i2 ∙ j) in
        let keys : y.key ≡ c.key = ap (λ (w : Current). w.key) eq ∙ key in
        let on : is_active z.phase ≡ true = ap is_active h2 ∙ ap (λ (w : Current). is_active w.phase) eq ∙ act.1 in
        Grew c z x i j2 (k2 ∙ keys) (act.0, on)
        (unlogged c quiet.0 (ap (λ (k : Key). logs_of (node_key k) b.rec) (sym keys) ∙ (s2.kept on).1), untold_both quiet.1 (untold fall leave y.phase z.phase (logs_now y b) (tells_rolled b) s2 on))
        (first_append a.outs b.outs (aaid_of c.key, x) says) count (more_drawn n a.next.drawn b.next.drawn le (same_most a.next.drawn b.next.drawn d2))
        (n2 ∙ ap (λ (w : Current). kin w.branches) eq ∙ same
        ∙ ap (λ (cs : List Child). kin c.branches ++ cs) (sym (children_append (aaid_of c.key) a.outs b.outs ∙ ap (λ (cs : List Child). begun_children (aaid_of c.key) a.outs ++ cs) (children_none (aaid_of c.key) b.outs f2) ∙ append-nil (begun_children (aaid_of c.key) a.outs))))
    grew c u x i j key act quiet says count le same (Grew y z w i2 j2 k2 a2 l2 f2 c2 d2 n2) =
        let eq : y ≡ u = some_same y u (sym i2 ∙ j) in
        let keys : y.key ≡ c.key = ap (λ (v : Current). v.key) eq ∙ key in
        let tree : aaid_of y.key ≡ aaid_of c.key = ap aaid_of keys in
        Grew c z x i j2 (k2 ∙ keys) (act.0, a2.1)
        (unlogged c quiet.0 (ap (λ (k : Key). logs_of (node_key k) b.rec) (sym keys) ∙ l2.0), untold_both quiet.1 l2.1)
        (first_append a.outs b.outs (aaid_of c.key, x) says) count (more_drawn n a.next.drawn b.next.drawn le (one_more a.next.drawn b.next.drawn d2))
        (n2 ∙ ap (λ (v : Current). kin v.branches ++ begun_children (aaid_of y.key) b.outs) eq ∙ ap (λ (cs : List Child). cs ++ begun_children (aaid_of y.key) b.outs) same
        ∙ ap (λ (t : Aaid). (kin c.branches ++ begun_children (aaid_of c.key) a.outs) ++ begun_children t b.outs) tree
        ∙ append_assoc (kin c.branches) (begun_children (aaid_of c.key) a.outs) (begun_children (aaid_of c.key) b.outs)
        ∙ ap (λ (cs : List Child). kin c.branches ++ cs) (sym (children_append (aaid_of c.key) a.outs b.outs)))

    -- what was over before a root stays so
    was_more : (q : Bool) → tells_rolled b ≡ false → WasOver fall leave first cur n a → WasOver fall leave first cur n m
    was_more q t2 (inl w) = inl (w.0, untold_both w.1 t2)
    was_more q t2 (inr w) =
        inr (w.0, w.1, joined w.0 w.0.phase Phase.Nil Phase.Nil w.2 (subst (λ (v : Bool). PhaseStep fall leave Phase.Nil Phase.Nil (logs_of (node_key w.0.key) b.rec) v) (sym t2) (nil_step fall leave (logs_of (node_key w.0.key) b.rec))), w.3)

    root : (u : Current) → a.next.current ≡ Some u → u.key ≡ Root (tree_at who boot n) → is_active u.phase ≡ true → first_begin a.outs ≡ Some (tree_at who boot n, branch_at who boot n) → suc n ≤ a.next.drawn
        → kin u.branches ≡ begun_children (tree_at who boot n) a.outs → WasOver fall leave first cur n a → Course who fall leave first a.next.current a.next.boot a.next.drawn b → Course who fall leave first cur boot n m
    root u j key act says le same was (Free i2 j2 f2 d2 t2) = absurd (no_some a.next.current u i2 j)
    root u j key act says le same was (Closed y i2 j2 s2 h2 f2 d2) = absurd (past_first first n a.next.drawn low le h2)
    root u j key act says le same was (Rooted y j2 k2 a2 f2 d2 n2 (inl w)) = absurd (no_some a.next.current u w.0 j)
    root u j key act says le same was (Rooted y j2 k2 a2 f2 d2 n2 (inr w)) = absurd (past_first first n a.next.drawn low le w.3)
    root u j key act says le same was (Held y z i2 j2 k2 s2 (inr h2) f2 d2 n2) = absurd (past_first first n a.next.drawn low le h2)
    root u j key act says le same was (Held y z i2 j2 k2 s2 (inl h2) f2 d2 n2) =
        let eq : y ≡ u = some_same y u (sym i2 ∙ j) in
        let on : is_active z.phase ≡ true = ap is_active h2 ∙ ap (λ (w : Current). is_active w.phase) eq ∙ act in
        Rooted z j2 (k2 ∙ ap (λ (w : Current). w.key) eq ∙ key) on (first_append a.outs b.outs (tree_at who boot n, branch_at who boot n) says) (more_drawn n a.next.drawn b.next.drawn le (same_most a.next.drawn b.next.drawn d2))
        (n2 ∙ ap (λ (w : Current). kin w.branches) eq ∙ same
        ∙ sym (children_append (tree_at who boot n) a.outs b.outs ∙ ap (λ (cs : List Child). begun_children (tree_at who boot n) a.outs ++ cs) (children_none (tree_at who boot n) b.outs f2) ∙ append-nil (begun_children (tree_at who boot n) a.outs)))
        (was_more true (untold fall leave y.phase z.phase (logs_now y b) (tells_rolled b) s2 on) was)
    root u j key act says le same was (Grew y z w i2 j2 k2 a2 l2 f2 c2 d2 n2) =
        let eq : y ≡ u = some_same y u (sym i2 ∙ j) in
        let keys : y.key ≡ Root (tree_at who boot n) = ap (λ (v : Current). v.key) eq ∙ key in
        let tree : aaid_of y.key ≡ tree_at who boot n = ap aaid_of keys in
        Rooted z j2 (k2 ∙ keys) a2.1 (first_append a.outs b.outs (tree_at who boot n, branch_at who boot n) says) (more_drawn n a.next.drawn b.next.drawn le (one_more a.next.drawn b.next.drawn d2))
        (n2 ∙ ap (λ (v : Current). kin v.branches ++ begun_children (aaid_of y.key) b.outs) eq ∙ ap (λ (cs : List Child). cs ++ begun_children (aaid_of y.key) b.outs) same
        ∙ ap (λ (t : Aaid). begun_children (tree_at who boot n) a.outs ++ begun_children t b.outs) tree ∙ sym (children_append (tree_at who boot n) a.outs b.outs))
        (was_more true l2.1 was)

    pick : Course who fall leave first cur boot n a → Course who fall leave first cur boot n m
    pick (Free i j f dr t) = free i j f t (fresh dr)
    pick (Held c u i j k st h f dr kn) = held c u i j k st h f kn (fresh dr)
    pick (Closed c i j st h f dr) = closed c i j st h f (fresh dr)
    pick (Grew c u x i j k act l f cn dr kn) = grew c u x i j k act l f cn dr kn two
    pick (Rooted u j k act f dr kn w) = root u j k act f dr kn w two
