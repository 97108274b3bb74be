-- Every event of a node: where the reports that its transaction of a tree holds have causes, those after it have, and no other
-- report is told.
use Rattle.std.proofs.Common.{◌≡◌, ℕ, Bool, true, false, refl, ap, sym, subst, ◌∙◌, arith, Option, Some, None, List, [], ◌∷◌, ◌++◌, ◌&&◌, ◌||◌}
use Rattle.tp_names.specs.declared.identifiers.Aaid.{Aaid}
use Rattle.tp_names.specs.declared.identifiers.BranchId.{BranchId}
use Rattle.tp_names.specs.Same.{is_aaid}
use Rattle.tp_records.specs.declared.indication.Indication.{Indication}
use Rattle.tp_records.specs.declared.dialogue.DialogueRecord.{DialogueRecord}
use Rattle.tp_model.specs.declared.arc.Side.{Side}
use Rattle.tp_model.specs.declared.transaction.TxEvent.{TxEvent}
use Rattle.tp_model.specs.declared.transaction.TxOut.{TxOut}
use Rattle.tp_model.specs.Parts.{Who, Event, Arc, Root, Branch, Current, Digest}
use Rattle.tp_model.specs.Dialogues.{is_nil, begun_by, named_holder}
use Rattle.tp_model.specs.Arcs.{find_arc, with_dialogue}
use Rattle.tp_model.specs.Transactions.{Row, Transaction, Turn, aaid_of, fresh_branch, transacted}
use Rattle.tp_model.specs.Recovery.{settled}
use Rattle.tp_model.specs.Node.{Move, followed, next_mark, seen, seen_rows, branches_of, remaining, fresh_current, passage, is_leaving, entered, may_begin_on, begin_on, turned}
use Rattle.tp_model.specs.Outcomes.{is_now}
use Rattle.tp_steps.specs.Turns.{is_outcome_told}
use Rattle.tp_steps.specs.Moves.{Moves, IsAsked, IsPut}
use Rattle.tp_steps.specs.Trees.{out_tells}
use Rattle.tp_steps.proofs.links.Told.{told_append, told_performed, told_played}
use Rattle.tp_steps.proofs.words.Treed.{tells_none}
use Rattle.tp_steps.proofs.words.Hushed.{settled_spoken}
use Rattle.tp_steps.proofs.log.Passed.{passed_turn}
use Rattle.tp_steps.proofs.log.Sound.{left_is, left_branches}
use Rattle.tp_steps.proofs.lemmas.Equality.{and_left, and_right, both_true}
use Rattle.tp_steps.proofs.lemmas.Options.{some_same}
use Rattle.tp_steps.proofs.every.BeginCases.{begun_over, begin_cases}
use Rattle.tp_report_causes.proofs.CausedTurns.{Known, branch_ok, rows_ok, decision_ok, own_ok, IsOk, is_bad, Adds, Caused, caused_turn}
use Rattle.tp_steps.proofs.links.Whole.{whole_turn}

-- ---- what is current

abbrev pub branches_ok : Known → List Branch → Bool
branches_ok k [] = true
branches_ok k (b ∷ bs) = branch_ok k b && branches_ok k bs

pub record IsOkNow (k : Known) (c : Current) : Type 0 where
  pub branches : branches_ok k c.branches ≡ true
  pub decision : decision_ok k c.decision ≡ true
  pub own : own_ok k c.own ≡ true

-- of the tree, if it is current
abbrev pub IsOkAt : Known → Aaid → Option Current → Type 0
IsOkAt k t o = (c : Current) → o ≡ Some c → is_aaid t (aaid_of c.key) ≡ true → IsOkNow k c

rows_seen : (k : Known) (arcs : List Arc) (bs : List Branch) → branches_ok k bs ≡ true → rows_ok k (seen_rows arcs bs) ≡ true
rows_seen k arcs [] h = refl
rows_seen k arcs (b ∷ bs) h = both_true (branch_ok k b) (rows_ok k (seen_rows arcs bs)) (and_left (branch_ok k b) (branches_ok k bs) h) (rows_seen k arcs bs (and_right (branch_ok k b) (branches_ok k bs) h))

rows_left : (k : Known) (rows : List Row) → rows_ok k rows ≡ true → branches_ok k (branches_of rows) ≡ true
rows_left k [] h = refl
rows_left k (r ∷ rs) h = both_true (branch_ok k r.branch) (branches_ok k (branches_of rs)) (and_left (branch_ok k r.branch) (rows_ok k rs) h) (rows_left k rs (and_right (branch_ok k r.branch) (rows_ok k rs) h))

-- ---- an event whose prelude left s, from d on

pub record CausedMove (k : Known) (t : Aaid) (s : Digest) (m : Move) : Type 0 where
  pub ok : IsOkAt k t m.next.current
  pub tells : is_now t s.current ≡ true → out_tells (is_bad k) m.outs ≡ false

abbrev pub IsCausedMove : Known → Aaid → Digest → Digest → Move → Type 0
IsCausedMove k t s d m = IsOkAt k t d.current → CausedMove k t s m

bad_outcome : (k : Known) (i : Indication) → is_bad k i ≡ true → is_outcome_told i ≡ true
bad_outcome k (Indication.CommitComplete r) h = refl
bad_outcome k (Indication.RollbackComplete r) h = refl
bad_outcome k i h = absurd (cc (h))

-- what stays of a transaction has its own report
left_own : (t : Transaction) (u : Current) → remaining t ≡ Some u → u.own ≡ t.own
left_own t u i = go (is_nil t.phase) refl
  where
    go : (b : Bool) → is_nil t.phase ≡ b → u.own ≡ t.own
    go true j = let off : None ≡ Some u = rw (j, remaining) at i in absurd (cc (off))
    go false j = grind (arith, i, j)

ok_left : (k : Known) (u : Transaction) → IsOk k u → (c : Current) → remaining u ≡ Some c → IsOkNow k c
ok_left k u h c i =
    let l = left_is u c i in
    record {
      branches = ap (branches_ok k) (left_branches u c i) ∙ rows_left k u.rows h.rows;
      decision = ap (decision_ok k) l.2 ∙ h.decision;
      own = ap (own_ok k) (left_own u c i) ∙ h.own;
    }

turns : (who : Who) (k : Known) (t : Aaid) (f : TxEvent) (s d : Digest) (c : Current) → d.current ≡ Some c → s.current ≡ Some c → (is_aaid t (aaid_of c.key) ≡ true → Adds k f (seen who d.arcs c)) → IsPut f (seen who d.arcs c) → IsCausedMove k t s d (turned who f d c)
turns who k t f s d c now at adds put ok = go (is_aaid t (aaid_of c.key)) refl
  where
    q : Transaction
    q = seen who d.arcs c

    a : Turn
    a = transacted f q

    m : Move
    m = turned who f d c

    key : (v : Current) → remaining a.next ≡ Some v → is_aaid t (aaid_of v.key) ≡ is_aaid t (aaid_of c.key)
    key v is = ap (λ (u : _). is_aaid t (aaid_of u)) ((left_is a.next v is).0 ∙ (passed_turn f q put).key)

    go : (b : Bool) → is_aaid t (aaid_of c.key) ≡ b → CausedMove k t s m
    go false i = record {
      ok = λ v is own. absurd (cc (key v is ∙ i, own));
      tells = λ n. absurd (cc (ap (is_now t) at ∙ i, n));
    }
    go true i =
        let o : IsOkNow k c = ok c now i in
        let caused : Caused k a = caused_turn k f q (adds i) put (record { rows = rows_seen k d.arcs c.branches o.branches; decision = o.decision; own = o.own }) in
        let w = passage (is_leaving f) q.phase a.next.phase in
        record {
          ok = λ v is own. ok_left k a.next caused.ok v is;
          tells = λ n. told_played (is_bad k) d q w a (whole_turn f q) (entered q w d.arcs) ∙ caused.tells;
        }

chained : (who : Who) (k : Known) (t : Aaid) (s d : Digest) (a : Move) (f : Digest → Move) → IsCausedMove k t s d a → IsCausedMove k t s a.next (f a.next) → IsCausedMove k t s d (followed a f)
chained who k t s d a f one two ok =
    let x : CausedMove k t s a = one ok in
    let y : CausedMove k t s (f a.next) = two x.ok in
    record {
      ok = y.ok;
      tells = λ n. told_append (is_bad k) a.outs (f a.next).outs ∙ none (out_tells (is_bad k) a.outs) (out_tells (is_bad k) (f a.next).outs) (x.tells n) (y.tells n);
    }
  where
    none : (b c : Bool) → b ≡ false → c ≡ false → (b || c) ≡ false
    none false c h i = i
    none true c h i = absurd (cc (h))

begins : (who : Who) (k : Known) (t : Aaid) (s d : Digest) (q : ℕ) → IsCausedMove k t s d (begin_on who q d)
begins who k t s d q ok = begin_cases (CausedMove k t s) who q d (record { ok = ok; tells = λ n. refl }) on
  where
    on : (c : Current) (a : Arc) → d.current ≡ Some c → find_arc d.arcs q ≡ Some a → may_begin_on who d a ≡ true → CausedMove k t s (begun_over who q d c a)
    on c a now found may = record {
      ok = λ v is own. grown v is (ok c now (ap (λ (x : _). is_aaid t (aaid_of x)) (sym (left_is u v is).0) ∙ own));
      tells = λ n. told_performed (is_bad k) (with_dialogue d.arcs q (begun_by (named_holder a.dialogue) Side.Superior)) (TxOut.Carry q (DialogueRecord.Begin (aaid_of c.key) id (named_holder a.dialogue)) ∷ []);
    }
      where
        id : BranchId
        id = record { superior = who.site; mark = next_mark who d }

        u : Transaction
        u = (transacted (TxEvent.Begun (record { addr = a.peer; branch = id } ∷ [])) (seen who d.arcs c)).next

        more : (rows : List Row) (r : Row) → rows_ok k rows ≡ true → branch_ok k r.branch ≡ true → rows_ok k (rows ++ r ∷ []) ≡ true
        more [] r h i = both_true (branch_ok k r.branch) true i refl
        more (w ∷ ws) r h i = both_true (branch_ok k w.branch) (rows_ok k (ws ++ r ∷ [])) (and_left (branch_ok k w.branch) (rows_ok k ws) h) (more ws r (and_right (branch_ok k w.branch) (rows_ok k ws) h) i)

        grown : (v : Current) → remaining u ≡ Some v → IsOkNow k c → IsOkNow k v
        grown v is o = ok_left k u (record { rows = more (seen_rows d.arcs c.branches) (record { branch = fresh_branch (record { addr = a.peer; branch = id }); live = true; ends = false }) (rows_seen k d.arcs c.branches o.branches) refl; decision = o.decision; own = o.own }) v is

fresh_ok : (k : Known) (u : Aaid) → IsOkNow k (fresh_current (Root u))
fresh_ok k u = record { branches = refl; decision = refl; own = refl }

pub caused_moves : (who : Who) (e : Event) (s : Digest) (k : Known) (t : Aaid) → ((c : Current) (f : TxEvent) (arcs : List Arc) → s.current ≡ Some c → IsAsked e c f → is_aaid t (aaid_of c.key) ≡ true → Adds k f (seen who arcs c)) → Moves who e s (IsCausedMove k t s)
caused_moves who e s k t adds = record {
  still = λ d ok. record { ok = ok; tells = λ n. refl };
  chain = λ d a f one two still. chained who k t s d a f one two;
  speaks = λ d outs h own said ok. record { ok = ok; tells = λ n. told_performed (is_bad k) d.arcs outs ∙ tells_none (is_bad k) outs (bad_outcome k) h };
  changes_dialogue = λ d p f m by one ok. one ok;
  drops_arc = λ d p m at one ok. one ok;
  notes_kept = λ d ks m held one ok. one ok;
  keeps = λ d x f held ok. record { ok = ok; tells = λ n. told_performed (is_bad k) d.arcs (settled x f).outs ∙ tells_none (is_bad k) (settled x f).outs (bad_outcome k) (settled_spoken x f) };
  turns = λ d c f now at asked put gone. turns who k t f s d c now at (λ own. adds c f d.arcs at asked own) put;
  begins = λ d q free. begins who k t s d q;
  roots = λ d m nil may one ok. one (λ c is own. subst (λ (v : Current). IsOkNow k v) (some_same (fresh_current (Root (record { owner = who.site; mark = next_mark who d }))) c is) (fresh_ok k (record { owner = who.site; mark = next_mark who d })));
}
