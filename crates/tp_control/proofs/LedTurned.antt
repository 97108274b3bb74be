-- What an event of the transaction makes of what was said to a branch, and of control towards it.
use Rattle.std.proofs.Common.{if◌then◌else◌, ◌≡◌, ◌≤◌, ◌+◌, ℕ, suc, Bool, true, false, refl, ap, sym, subst, ◌∙◌, arith, Option, Some, None, List, [], ◌∷◌, ◌++◌, ◌&&◌, ◌||◌, ◌==◌, not}
use Rattle.std.proofs.lemmas.Bool.Decides.{nat_tests}
use Rattle.std.proofs.lemmas.List.{append-nil, append_assoc}
use Rattle.tp_names.specs.declared.outcome.Outcome.{Outcome}
use Rattle.tp_records.specs.declared.dialogue.DialogueRecord.{DialogueRecord}
use Rattle.tp_model.specs.declared.arc.Phase.{Phase}
use Rattle.tp_model.specs.declared.arc.Side.{Side}
use Rattle.tp_model.specs.declared.transaction.TxEvent.{TxEvent}
use Rattle.tp_model.specs.declared.transaction.TxOut.{TxOut}
use Rattle.tp_model.specs.Parts.{Who, Dialogue, Arc, Branch, Current, Digest, Idle}
use Rattle.tp_model.specs.Links.{is_live}
use Rattle.tp_model.specs.Dialogues.{is_nil, is_polarized, is_chained, is_unchained, Ask_grant, said, cleared, completed, rested}
use Rattle.tp_model.specs.Arcs.{find_arc, link_with, without_arc, with_dialogues, carried_on, carried, shut_with, performed_one, performed}
use Rattle.tp_model.specs.Transactions.{Row, Transaction, Turn, is_under_at, find_row, row_holds, transacted}
use Rattle.tp_model.specs.Node.{Move, is_superior, side_at, seen_row, seen_rows, seen, branches_of, remaining, Passage, Stays, Enters, Falls, Falls_at_once, Commits, Rolls_back, Leaves, passage, is_leaving, is_over, is_arc_of, is_arc_below, without_deferral, entered, played, completed_arcs, left_arcs, is_granting, grants, committed_dialogue, committed_arcs, perform_commit, turned, around_grants}
use Rattle.tp_model.specs.Questions.{said_to}
use Rattle.tp_steps.specs.Turns.{loses}
use Rattle.tp_steps.specs.Moves.{are_apart, IsPut}
use Rattle.tp_units.specs.Units.{has_bit}
use Rattle.tp_steps.specs.Facts.{none_of, stays, find_branch, id_at}
use Rattle.tp_steps.specs.Ends.{is_there, are_separate}
use Rattle.tp_histories.specs.Control.{closed}
use Rattle.tp_control.specs.Control.{given}
use Rattle.tp_control.specs.Holding.{is_holding}
use Rattle.tp_control.specs.Leading.{carried_to, some_closing, opens, lags, is_sound, of_row, answers, Leads, IsLeading, of_branch, has_branch, dialogue_at, begun, IsKept, IsLed}
use Rattle.tp_steps.proofs.every.EveryRecord.{find_arc_is}
use Rattle.tp_steps.proofs.links.Links.{said_append}
use Rattle.tp_steps.proofs.lemmas.Words.{dead_stays}
use Rattle.tp_steps.proofs.links.Linked.{link_entered, link_committed, parts_apart}
use Rattle.tp_histories.proofs.marks.Separate.{thins_performed}
use Rattle.tp_steps.proofs.links.Wrapped.{Agrees, agrees_performed, agrees_played}
use Rattle.tp_steps.proofs.links.Apart.{apart_grants, apart_turn}
use Rattle.tp_steps.proofs.words.HeardTurned.{seen_sees, seen_find, left_find}
use Rattle.tp_control.proofs.Returns.{returns_turn}
use Rattle.tp_control.proofs.LedWords.{is_opening, begun_plain, closed_plain, given_plain, quiet_plain, given_later, insert_flag, insert_rounds, insert_given, said_performed, plain_carried}
use Rattle.tp_control.proofs.Leading.{carried_append, leading_turn}
use Rattle.tp_steps.proofs.links.Whole.{IsWhole, whole_turn}

-- ---- branches and rows

pub of_seen : (who : Who) (arcs : List Arc) (c : Current) (p : ℕ) (v : Bool) (f : Phase → Branch → Bool) → is_nil c.phase ≡ false → of_branch v f (Some c) p ≡ of_row v f (seen who arcs c) p
of_seen who arcs c p v f late = go (find_branch c.branches p) refl
  where
    go : (o : Option Branch) → find_branch c.branches p ≡ o → of_branch v f (Some c) p ≡ of_row v f (seen who arcs c) p
    go None i = let row : find_row (seen_rows arcs c.branches) p ≡ None = seen_find arcs c.branches p ∙ rw i refl in grind (arith, late, i, row)
    go (Some b) i = let row : find_row (seen_rows arcs c.branches) p ≡ Some (seen_row arcs b) = seen_find arcs c.branches p ∙ rw i refl in grind (arith, late, i, row)

pub of_left : (t : Transaction) (p : ℕ) (v : Bool) (f : Phase → Branch → Bool) → ((b : Branch) → f Phase.Nil b ≡ v) → of_branch v f (remaining t) p ≡ of_row v f t p
of_left t p v f nil = go t.phase refl (find_row t.rows p) refl
  where
    go : (h : Phase) → t.phase ≡ h → (o : Option Row) → find_row t.rows p ≡ o → of_branch v f (remaining t) p ≡ of_row v f t p
    go Phase.Nil i None j = grind (arith, i, j)
    go Phase.Nil i (Some r) j = let z = nil r.branch in grind (arith, i, j, z)
    go h i None j = let k : find_branch (branches_of t.rows) p ≡ None = left_find t.rows p ∙ rw j refl in grind (arith, i, j, k)
    go h i (Some r) j = let k : find_branch (branches_of t.rows) p ≡ Some r.branch = left_find t.rows p ∙ rw j refl in grind (arith, i, j, k)

pub gone_left : (t : Transaction) (p : ℕ) → is_nil t.phase ≡ true → has_branch (remaining t) p ≡ false
gone_left t p nil = grind (arith, nil)

stays_left : (t : Transaction) (p : ℕ) → is_nil t.phase ≡ false → has_branch (remaining t) p ≡ of_row false (λ h b. true) t p
stays_left t p late = go (find_row t.rows p) refl
  where
    go : (o : Option Row) → find_row t.rows p ≡ o → has_branch (remaining t) p ≡ of_row false (λ h b. true) t p
    go None j = let k : find_branch (branches_of t.rows) p ≡ None = left_find t.rows p ∙ rw j refl in grind (arith, late, j, k)
    go (Some r) j = let k : find_branch (branches_of t.rows) p ≡ Some r.branch = left_find t.rows p ∙ rw j refl in grind (arith, late, j, k)

-- ---- the arc with the peer

found_dialogues : (arcs : List Arc) (t : Arc → Bool) (f : Arc → Dialogue) (p : ℕ) → find_arc (with_dialogues arcs t f) p ≡ elim (find_arc arcs p) as (λ _. Option Arc) [ None ↦ None | Some a ↦ Some (if t a then record a { dialogue = f a } else a) ]
found_dialogues [] t f p = refl
found_dialogues (a ∷ arcs) t f p = go (t a) refl (a.peer.node == p) refl (found_dialogues arcs t f p)
  where
    go : (b : Bool) → t a ≡ b → (c : Bool) → (a.peer.node == p) ≡ c → find_arc (with_dialogues arcs t f) p ≡ elim (find_arc arcs p) as (λ _. Option Arc) [ None ↦ None | Some a ↦ Some (if t a then record a { dialogue = f a } else a) ]
        → find_arc (with_dialogues (a ∷ arcs) t f) p ≡ elim (find_arc (a ∷ arcs) p) as (λ _. Option Arc) [ None ↦ None | Some a ↦ Some (if t a then record a { dialogue = f a } else a) ]
    go true i true j rest = rw (i, j, with_dialogues, find_arc) (grind (arith, i, j))
    go false i true j rest = rw (i, j, with_dialogues, find_arc) (grind (arith, i, j))
    go true i false j rest = rw (i, j, with_dialogues, find_arc) (grind (arith, i, j, rest))
    go false i false j rest = rw (i, j, with_dialogues, find_arc) (grind (arith, i, j, rest))

-- it was there before, with this dialogue
pub record Was (arcs : List Arc) (p : ℕ) (b : Arc) : Type 0 where
  pub arc : Arc
  pub found : find_arc arcs p ≡ Some arc
  pub peer : b.peer ≡ arc.peer
  pub dialogue : b.dialogue ≡ arc.dialogue

was_carried : (arcs : List Arc) (q : ℕ) (r : DialogueRecord) (p : ℕ) (b : Arc) → find_arc (carried arcs q r).0 p ≡ Some b → Was arcs p b
was_carried [] q r p b h = absurd (cc (h))
was_carried (a ∷ arcs) q r p b h = go (a.peer.node == q) refl (a.peer.node == p) refl (was_carried arcs q r p b)
  where
    same : (a : Arc) → ((carried_on a r).0.peer ≡ a.peer) × ((carried_on a r).0.dialogue ≡ a.dialogue)
    same a = (grind arith, grind arith)

    go : (x : Bool) → (a.peer.node == q) ≡ x → (y : Bool) → (a.peer.node == p) ≡ y → (find_arc (carried arcs q r).0 p ≡ Some b → Was arcs p b) → Was (a ∷ arcs) p b
    go true i true j rest =
        let is : Some (carried_on a r).0 ≡ Some b = grind (arith, h, i, j, same a) in
        let eq : (carried_on a r).0 ≡ b = cc (is) in
        let k = same a in
        record { arc = a; found = grind (arith, j); peer = ap (λ (x : Arc). x.peer) (sym eq) ∙ k.0; dialogue = ap (λ (x : Arc). x.dialogue) (sym eq) ∙ k.1 }
    go true i false j rest = record { arc = b; found = grind (arith, h, i, j, same a); peer = refl; dialogue = refl }
    go false i true j rest = record { arc = b; found = grind (arith, h, i, j); peer = refl; dialogue = refl }
    go false i false j rest = let k = rest (grind (arith, h, i, j)) in record { arc = k.arc; found = grind (arith, j, k.found); peer = k.peer; dialogue = k.dialogue }

pub found_without : (arcs : List Arc) (q p : ℕ) (b : Arc) → find_arc (without_arc arcs q) p ≡ Some b → find_arc arcs p ≡ Some b
found_without [] q p b h = absurd (cc (h))
found_without (a ∷ arcs) q p b h = go (a.peer.node == q) refl (a.peer.node == p) refl (found_without arcs q p b)
  where
    none : (xs : List Arc) → (q == p) ≡ true → find_arc (without_arc xs q) p ≡ None
    none [] i = refl
    none (x ∷ xs) i = grind (arith, nat_tests, i, none xs i)

    go : (x : Bool) → (a.peer.node == q) ≡ x → (y : Bool) → (a.peer.node == p) ≡ y → (find_arc (without_arc arcs q) p ≡ Some b → find_arc arcs p ≡ Some b) → find_arc (a ∷ arcs) p ≡ Some b
    go true i true j rest =
        let same : (q == p) ≡ true = grind (arith, nat_tests, i, j) in
        let no : find_arc (without_arc arcs q) p ≡ None = none arcs same in
        absurd (grind (arith, h, i, no))
    go true i false j rest = let k = rest (grind (arith, h, i)) in grind (arith, j, k)
    go false i true j rest = grind (arith, h, i, j)
    go false i false j rest = let k = rest (grind (arith, h, i, j)) in grind (arith, j, k)

was_self : (arcs : List Arc) (p : ℕ) (b : Arc) → find_arc arcs p ≡ Some b → Was arcs p b
was_self arcs p b h = record { arc = b; found = h; peer = refl; dialogue = refl }

was_one : (arcs : List Arc) (o : TxOut) (p : ℕ) (b : Arc) → find_arc (performed_one arcs o).0 p ≡ Some b → Was arcs p b
was_one arcs (TxOut.Tell i) p b h = was_self arcs p b h
was_one arcs (TxOut.Carry q r) p b h = was_carried arcs q r p b h
was_one arcs (TxOut.Recovery a r) p b h = was_self arcs p b h
was_one arcs (TxOut.Close q) p b h = was_self arcs p b (found_without arcs q p b h)
was_one arcs (TxOut.Shut q) p b h = go (find_arc arcs q) refl h
  where
    go : (o : Option Arc) → find_arc arcs q ≡ o → find_arc (shut_with arcs q).0 p ≡ Some b → Was arcs p b
    go None i k = was_self arcs p b (rw (i, shut_with) at k)
    go (Some a) i k = was_self arcs p b (found_without arcs q p b (rw (i, shut_with) at k))

was_then : (xs ys : List Arc) (p : ℕ) (b : Arc) (one : Was ys p b) → Was xs p one.arc → Was xs p b
was_then xs ys p b one two = record { arc = two.arc; found = two.found; peer = one.peer ∙ two.peer; dialogue = one.dialogue ∙ two.dialogue }

pub was_performed : (arcs : List Arc) (outs : List TxOut) (p : ℕ) (b : Arc) → find_arc (performed arcs outs).0 p ≡ Some b → Was arcs p b
was_performed arcs [] p b h = was_self arcs p b h
was_performed arcs (o ∷ outs) p b h =
    let next : List Arc = (performed_one arcs o).0 in
    let one = was_performed next outs p b h in
    was_then arcs next p b one (was_one arcs o p one.arc one.found)

-- a change of chosen arcs
record Changed (arcs : List Arc) (t : Arc → Bool) (f : Arc → Dialogue) (p : ℕ) (b : Arc) : Type 0 where
  arc : Arc
  found : find_arc arcs p ≡ Some arc
  peer : b.peer ≡ arc.peer
  dialogue : b.dialogue ≡ (if t arc then f arc else arc.dialogue)

changed_at : (arcs : List Arc) (t : Arc → Bool) (f : Arc → Dialogue) (p : ℕ) (b : Arc) → find_arc (with_dialogues arcs t f) p ≡ Some b → Changed arcs t f p b
changed_at arcs t f p b h = go (find_arc arcs p) refl
  where
    go : (o : Option Arc) → find_arc arcs p ≡ o → Changed arcs t f p b
    go None i = let no : find_arc (with_dialogues arcs t f) p ≡ None = found_dialogues arcs t f p ∙ rw i refl in absurd (cc (no, h))
    go (Some a) i =
        let some : find_arc (with_dialogues arcs t f) p ≡ Some (if t a then record a { dialogue = f a } else a) = found_dialogues arcs t f p ∙ rw i refl in
        on a i (t a) refl (sym h ∙ some)
      where
        on : (a : Arc) → find_arc arcs p ≡ Some a → (c : Bool) → t a ≡ c → Some b ≡ Some (if t a then record a { dialogue = f a } else a) → Changed arcs t f p b
        on a i true j k =
            let is : Some b ≡ Some (record a { dialogue = f a }) = k ∙ rw j refl in
            let eq : b ≡ record a { dialogue = f a } = cc (is) in
            record { arc = a; found = i; peer = ap (λ (x : Arc). x.peer) eq; dialogue = ap (λ (x : Arc). x.dialogue) eq ∙ rw j refl }
        on a i false j k =
            let is : Some b ≡ Some a = k ∙ rw j refl in
            let eq : b ≡ a = cc (is) in
            record { arc = a; found = i; peer = ap (λ (x : Arc). x.peer) eq; dialogue = ap (λ (x : Arc). x.dialogue) eq ∙ rw j refl }

-- ---- the dialogue with the peer, after a passage

-- the transaction goes on
record Passes (row : Bool) (g g' : Dialogue) : Type 0 where
  units : g'.units ≡ g.units
  falls : is_holding g' ≡ true → is_holding g ≡ true
  holds : row ≡ false → g'.holds ≡ g.holds

-- it is over; w: a Grant went out to the peer
record Overs (row w : Bool) (g g' : Dialogue) : Type 0 where
  units : g'.units ≡ g.units
  holds : w ≡ false → row ≡ true → is_polarized g' ≡ true → g'.holds ≡ true
  same : row ≡ false → g' ≡ g
  grants : w ≡ true → (is_unchained g ≡ true) × (is_holding g' ≡ false) × (row ≡ true)

passes_self : (row : Bool) (g g' : Dialogue) → g' ≡ g → Passes row g g'
passes_self row g g' same = record { units = ap (λ (x : Dialogue). x.units) same; falls = λ h. ap is_holding (sym same) ∙ h; holds = λ n. ap (λ (x : Dialogue). x.holds) same }

passes_cleared : (row : Bool) (g : Dialogue) → row ≡ true → Passes row g (cleared g)
unfolding cleared
passes_cleared row g r = record { units = refl; falls = λ h. absurd (cc (h)); holds = λ n. absurd (cc (n, r)) }

passes_forgot : (row : Bool) (g : Dialogue) → row ≡ true → Passes row g (without_deferral (cleared g))
unfolding cleared
passes_forgot row g r = record { units = refl; falls = λ h. absurd (cc (h)); holds = λ n. absurd (cc (n, r)) }

-- the arc of a peer that is no superior is one of the transaction where it has a row
chosen : (t : Transaction) (a : Arc) (p : ℕ) → a.peer.node ≡ p → is_under_at t.key p ≡ false → (is_arc_of t a ≡ row_holds t.rows p (λ b. true)) × (is_arc_below t a ≡ row_holds t.rows p (λ b. true)) × (is_under_at t.key a.peer.node ≡ false)
chosen t a p at down =
    let under : is_under_at t.key a.peer.node ≡ false = ap (is_under_at t.key) at ∙ down in
    let rows : row_holds t.rows a.peer.node (λ b. true) ≡ row_holds t.rows p (λ b. true) = ap (λ (n : ℕ). row_holds t.rows n (λ b. true)) at in
    (grind (arith, under, rows), grind (arith, under, rows), under)

record PassedAt (arcs : List Arc) (p : ℕ) (row : Bool) (b : Arc) : Type 0 where
  arc : Arc
  found : find_arc arcs p ≡ Some arc
  passes : Passes row arc.dialogue b.dialogue

record OverAt (arcs : List Arc) (p : ℕ) (row w : Bool) (b : Arc) : Type 0 where
  arc : Arc
  found : find_arc arcs p ≡ Some arc
  overs : Overs row w arc.dialogue b.dialogue

abbrev has_row : Transaction → ℕ → Bool
has_row t p = row_holds t.rows p (λ b. true)

entered_plain : (t : Transaction) (arcs : List Arc) (p : ℕ) (b : Arc) → find_arc arcs p ≡ Some b → PassedAt arcs p (has_row t p) b
entered_plain t arcs p b h = record { arc = b; found = h; passes = passes_self (has_row t p) b.dialogue b.dialogue refl }

entered_change : (t : Transaction) (arcs : List Arc) (p : ℕ) (b : Arc) (f : Dialogue → Dialogue) → is_under_at t.key p ≡ false → ((row : Bool) (g : Dialogue) → row ≡ true → Passes row g (f g))
    → find_arc (with_dialogues arcs (is_arc_of t) (λ a. f a.dialogue)) p ≡ Some b → PassedAt arcs p (has_row t p) b
entered_change t arcs p b f down passes h =
    let c = changed_at arcs (is_arc_of t) (λ a. f a.dialogue) p b h in
    go c.arc c.found c.dialogue (is_arc_of t c.arc) refl (chosen t c.arc p (find_arc_is arcs p c.arc c.found) down).0
  where
    go : (a : Arc) → find_arc arcs p ≡ Some a → b.dialogue ≡ (if is_arc_of t a then f a.dialogue else a.dialogue) → (x : Bool) → is_arc_of t a ≡ x → is_arc_of t a ≡ has_row t p → PassedAt arcs p (has_row t p) b
    go a found same true i row =
        let eq : b.dialogue ≡ f a.dialogue = same ∙ rw i refl in
        record { arc = a; found = found; passes = subst (λ (g : Dialogue). Passes (has_row t p) a.dialogue g) (sym eq) (passes (has_row t p) a.dialogue (sym row ∙ i)) }
    go a found same false i row = let eq : b.dialogue ≡ a.dialogue = same ∙ rw i refl in record { arc = a; found = found; passes = passes_self (has_row t p) a.dialogue b.dialogue eq }

entered_at : (t : Transaction) (w : Passage) (arcs : List Arc) (p : ℕ) (b : Arc) → is_under_at t.key p ≡ false → find_arc (entered t w arcs) p ≡ Some b → PassedAt arcs p (has_row t p) b
unfolding entered
entered_at t Enters arcs p b down h = entered_change t arcs p b cleared down passes_cleared h
entered_at t Falls arcs p b down h = entered_change t arcs p b (λ g. without_deferral (cleared g)) down passes_forgot h
entered_at t Falls_at_once arcs p b down h = entered_change t arcs p b (λ g. without_deferral (cleared g)) down passes_forgot h
entered_at t _ arcs p b down h = entered_plain t arcs p b h

-- a passage in which the transaction goes on
quiet_at : (t : Transaction) (w : Passage) (outs : List TxOut) (arcs : List Arc) (p : ℕ) (b : Arc) → is_under_at t.key p ≡ false → find_arc (performed (entered t w arcs) outs).0 p ≡ Some b → PassedAt arcs p (has_row t p) b
quiet_at t w outs arcs p b down h =
    let was = was_performed (entered t w arcs) outs p b h in
    let k = entered_at t w arcs p was.arc down was.found in
    record { arc = k.arc; found = k.found; passes = subst (λ (g : Dialogue). Passes (has_row t p) k.arc.dialogue g) (sym was.dialogue) k.passes }

-- ---- completions

below_side : (d : Digest) (p : ℕ) (a : Arc) → is_superior d p ≡ false → a.peer.node ≡ p → side_at d a.peer.node ≡ Side.Superior
below_side d p a below at = ap (side_at d) at ∙ rw (below, side_at) refl

overs_completed : (o : Outcome) (row : Bool) (g h g' : Dialogue) → row ≡ true → Passes row g h → g' ≡ completed o Side.Superior h → Overs row false g g'
unfolding completed
overs_completed o row g h g' r p is = record {
  units = ap (λ (x : Dialogue). x.units) is ∙ p.units;
  holds = λ w x pol. ap (λ (x : Dialogue). x.holds) is ∙ held (ap is_polarized (sym is) ∙ pol);
  same = λ n. absurd (cc (n, r));
  grants = λ w. absurd (cc (w));
}
  where
    held : is_polarized h ≡ true → (is_polarized h && true) ≡ true
    held pol = rw pol refl

overs_same : (g h g' : Dialogue) (row : Bool) → row ≡ false → h ≡ g → g' ≡ h → Overs row false g g'
overs_same g h g' row r i j = record {
  units = ap (λ (x : Dialogue). x.units) (j ∙ i);
  holds = λ w x pol. absurd (cc (x, r));
  same = λ n. j ∙ i;
  grants = λ w. absurd (cc (w));
}

passes_none : (t : Transaction) (w : Passage) (arcs : List Arc) (p : ℕ) (b : Arc) → is_under_at t.key p ≡ false → has_row t p ≡ false → find_arc (entered t w arcs) p ≡ Some b → (a : Arc) × (find_arc arcs p ≡ Some a) × (b.dialogue ≡ a.dialogue)
unfolding entered
passes_none t Enters arcs p b down none h =
    let c = changed_at arcs (is_arc_of t) (λ a. cleared a.dialogue) p b h in
    let no : is_arc_of t c.arc ≡ false = (chosen t c.arc p (find_arc_is arcs p c.arc c.found) down).0 ∙ none in
    (c.arc, c.found, c.dialogue ∙ rw no refl)
passes_none t Falls arcs p b down none h =
    let c = changed_at arcs (is_arc_of t) (λ a. without_deferral (cleared a.dialogue)) p b h in
    let no : is_arc_of t c.arc ≡ false = (chosen t c.arc p (find_arc_is arcs p c.arc c.found) down).0 ∙ none in
    (c.arc, c.found, c.dialogue ∙ rw no refl)
passes_none t Falls_at_once arcs p b down none h =
    let c = changed_at arcs (is_arc_of t) (λ a. without_deferral (cleared a.dialogue)) p b h in
    let no : is_arc_of t c.arc ≡ false = (chosen t c.arc p (find_arc_is arcs p c.arc c.found) down).0 ∙ none in
    (c.arc, c.found, c.dialogue ∙ rw no refl)
passes_none t _ arcs p b down none h = (b, h, refl)

-- the dialogue before a completion that changes chosen arcs by f
over_by : (t : Transaction) (w : Passage) (outs : List TxOut) (arcs : List Arc) (p : ℕ) (b : Arc) (u : Arc → Bool) (f : Arc → Dialogue) → is_under_at t.key p ≡ false → ((a : Arc) → a.peer.node ≡ p → u a ≡ has_row t p)
    → ((a : Arc) → a.peer.node ≡ p → (o : Outcome) × (f a ≡ completed o Side.Superior a.dialogue)) → find_arc (with_dialogues (performed (entered t w arcs) outs).0 u f) p ≡ Some b → OverAt arcs p (has_row t p) false b
over_by t w outs arcs p b u f down picks makes h = go (has_row t p) refl
  where
    ys : List Arc
    ys = (performed (entered t w arcs) outs).0

    c : Changed ys u f p b
    c = changed_at ys u f p b h

    at : c.arc.peer.node ≡ p
    at = find_arc_is ys p c.arc c.found

    was : Was (entered t w arcs) p c.arc
    was = was_performed (entered t w arcs) outs p c.arc c.found

    go : (row : Bool) → has_row t p ≡ row → OverAt arcs p row false b
    go true i =
        let k = entered_at t w arcs p was.arc down was.found in
        let yes : u c.arc ≡ true = picks c.arc at ∙ i in
        let m = makes c.arc at in
        let is : b.dialogue ≡ completed m.0 Side.Superior c.arc.dialogue = c.dialogue ∙ rw yes refl ∙ m.1 in
        record {
          arc = k.arc;
          found = k.found;
          overs = overs_completed m.0 true k.arc.dialogue c.arc.dialogue b.dialogue refl (subst (λ (r : Bool). Passes r k.arc.dialogue c.arc.dialogue) i (subst (λ (g : Dialogue). Passes (has_row t p) k.arc.dialogue g) (sym was.dialogue) k.passes)) is;
        }
    go false i =
        let k = passes_none t w arcs p was.arc down i was.found in
        let no : u c.arc ≡ false = picks c.arc at ∙ i in
        let is : b.dialogue ≡ c.arc.dialogue = c.dialogue ∙ rw no refl in
        record { arc = k.0; found = k.1; overs = overs_same k.0.dialogue c.arc.dialogue b.dialogue false refl (was.dialogue ∙ k.2) is }

completed_at : (d : Digest) (t : Transaction) (w : Passage) (o : Outcome) (outs : List TxOut) (arcs : List Arc) (p : ℕ) (b : Arc) → is_under_at t.key p ≡ false → is_superior d p ≡ false
    → find_arc (completed_arcs d t o (performed (entered t w arcs) outs).0) p ≡ Some b → OverAt arcs p (has_row t p) false b
completed_at d t w o outs arcs p b down below h =
    over_by t w outs arcs p b (is_arc_of t) (λ a. completed o (side_at d a.peer.node) a.dialogue) down (λ a at. (chosen t a p at down).0) (λ a at. (o, ap (λ (s : Side). completed o s a.dialogue) (below_side d p a below at))) h

left_at : (d : Digest) (t : Transaction) (w : Passage) (outs : List TxOut) (arcs : List Arc) (p : ℕ) (b : Arc) → is_under_at t.key p ≡ false → find_arc (left_arcs t (performed (entered t w arcs) outs).0) p ≡ Some b → OverAt arcs p (has_row t p) false b
left_at d t w outs arcs p b down h =
    let mid : List Arc = with_dialogues (performed (entered t w arcs) outs).0 (is_arc_below t) (λ a. completed Outcome.Rollback Side.Superior a.dialogue) in
    let c = changed_at mid (λ a. is_under_at t.key a.peer.node) (λ a. rested a.dialogue) p b h in
    let no : is_under_at t.key c.arc.peer.node ≡ false = (chosen t c.arc p (find_arc_is mid p c.arc c.found) down).2 in
    let same : b.dialogue ≡ c.arc.dialogue = c.dialogue ∙ rw no refl in
    let k = over_by t w outs arcs p c.arc (is_arc_below t) (λ a. completed Outcome.Rollback Side.Superior a.dialogue) down (λ a at. (chosen t a p at down).1) (λ a at. (Outcome.Rollback, refl)) c.found in
    record { arc = k.arc; found = k.found; overs = subst (λ (g : Dialogue). Overs (has_row t p) false k.arc.dialogue g) (sym same) k.overs }

-- ---- a completed commitment: a Grant may go out

-- no other arc leads to the peer
grants_absent : (t : Transaction) (arcs : List Arc) (p : ℕ) (b : Bool) → is_there p arcs ≡ false → carried_to b p (grants t arcs) ≡ []
grants_absent t [] p b h = refl
grants_absent t (a ∷ arcs) p b h = grind (arith, h, grants_absent t arcs p b)

grants_found : (t : Transaction) (arcs : List Arc) (p : ℕ) (a : Arc) → are_separate arcs ≡ true → find_arc arcs p ≡ Some a → carried_to true p (grants t arcs) ≡ (if is_granting t a then DialogueRecord.Grant ∷ [] else [])
grants_found t [] p a apart h = absurd cc
grants_found t (x ∷ arcs) p a apart h = go (x.peer.node == p) refl (is_granting t x) refl (grants_found t arcs p a)
  where
    go : (b : Bool) → (x.peer.node == p) ≡ b → (c : Bool) → is_granting t x ≡ c → (are_separate arcs ≡ true → find_arc arcs p ≡ Some a → carried_to true p (grants t arcs) ≡ (if is_granting t a then DialogueRecord.Grant ∷ [] else []))
        → carried_to true p (grants t (x ∷ arcs)) ≡ (if is_granting t a then DialogueRecord.Grant ∷ [] else [])
    go true i c j rest =
        let same : x.peer.node ≡ p = grind (arith, nat_tests, i) in
        let gone : is_there p arcs ≡ false = subst (λ (n : ℕ). is_there n arcs ≡ false) same (grind (arith, apart)) in
        let none : carried_to true p (grants t arcs) ≡ [] = grants_absent t arcs p true gone in
        let is : Some x ≡ Some a = grind (arith, h, i) in
        let eq : x ≡ a = cc (is) in
        subst (λ (y : Arc). carried_to true p (grants t (x ∷ arcs)) ≡ (if is_granting t y then DialogueRecord.Grant ∷ [] else [])) eq (here c j none)
      where
        here : (c : Bool) → is_granting t x ≡ c → carried_to true p (grants t arcs) ≡ [] → carried_to true p (grants t (x ∷ arcs)) ≡ (if is_granting t x then DialogueRecord.Grant ∷ [] else [])
        here true j none = grind (arith, i, j, none)
        here false j none = grind (arith, i, j, none)
    go false i true j rest = let k = rest (grind (arith, apart)) (grind (arith, h, i)) in grind (arith, i, j, k)
    go false i false j rest = let k = rest (grind (arith, apart)) (grind (arith, h, i)) in grind (arith, i, j, k)

-- what goes out to the peer, of what a transaction carries: w, with a Grant
data Goes (ws rs : List DialogueRecord) (w : Bool) : Type 0 where
  As_carried : rs ≡ ws → w ≡ false → Goes ws rs w
  With_grant : (us vs : List DialogueRecord) → ws ≡ us ++ vs → rs ≡ us ++ DialogueRecord.Grant ∷ vs → w ≡ true → Goes ws rs w

-- after the passage: what went out, and the dialogue with the peer
record OverGoes (arcs : List Arc) (p : ℕ) (row : Bool) (ws rs : List DialogueRecord) (b : Arc) : Type 0 where
  grants : Bool
  goes : Goes ws rs grants
  over : OverAt arcs p row grants b

commit_at : (d : Digest) (t : Transaction) (s : List TxOut × List TxOut) (arcs : List Arc) (p : ℕ) (b : Arc) → is_under_at t.key p ≡ false → is_superior d p ≡ false → are_apart (s.0 ++ s.1) ≡ true → are_separate arcs ≡ true → is_live (link_with arcs p) ≡ true
    → is_live (link_with (perform_commit d t s arcs).0 p) ≡ true → find_arc (perform_commit d t s arcs).0 p ≡ Some b → OverGoes arcs p (has_row t p) (carried_to true p (s.0 ++ s.1)) (said_to p (perform_commit d t s arcs).1) b
unfolding said completed
commit_at d t s arcs p b down below apart sep live after h = go (is_granting t mid_was.arc) refl
  where
    s0 : List TxOut
    s0 = s.0

    s1 : List TxOut
    s1 = s.1

    parts : (are_apart s0 && are_apart s1) ≡ true
    parts = parts_apart s apart

    one : List Arc
    one = (performed arcs s0).0

    mid : List Arc
    mid = committed_arcs d t one

    two : List Arc
    two = (performed mid (grants t one)).0

    last : Was two p b
    last = was_performed two s1 p b h

    granted : Was mid p last.arc
    granted = was_performed mid (grants t one) p last.arc last.found

    mid_was : Changed one (is_arc_of t) (committed_dialogue d t) p granted.arc
    mid_was = changed_at one (is_arc_of t) (committed_dialogue d t) p granted.arc granted.found

    first : Was arcs p mid_was.arc
    first = was_performed arcs s0 p mid_was.arc mid_was.found

    at : mid_was.arc.peer.node ≡ p
    at = find_arc_is one p mid_was.arc mid_was.found

    dialogue : b.dialogue ≡ (if is_arc_of t mid_was.arc then committed_dialogue d t mid_was.arc else mid_was.arc.dialogue)
    dialogue = last.dialogue ∙ granted.dialogue ∙ mid_was.dialogue

    -- the association is live all the way
    live_two : is_live (link_with two p) ≡ true
    live_two = back (is_live (link_with two p)) ((agrees_performed two s1 p (grind (arith, parts))).live)
      where
        back : (x : Bool) → is_live (link_with (performed two s1).0 p) ≡ stays x p s1 → x ≡ true
        back true i = refl
        back false i = absurd (cc (sym i ∙ after, dead_stays p s1))

    live_mid : is_live (link_with mid p) ≡ true
    live_mid = back (is_live (link_with mid p)) ((agrees_performed mid (grants t one) p (apart_grants t one)).live)
      where
        back : (x : Bool) → is_live (link_with two p) ≡ stays x p (grants t one) → x ≡ true
        back true i = refl
        back false i = absurd (cc (sym i ∙ live_two, dead_stays p (grants t one)))

    live_one : is_live (link_with one p) ≡ true
    live_one = sym (ap is_live (link_committed d t one p)) ∙ live_mid

    stays_one : stays true p s0 ≡ true
    stays_one = sym ((agrees_performed arcs s0 p (grind (arith, parts))).live ∙ ap (λ (x : Bool). stays x p s0) live) ∙ live_one

    us : List DialogueRecord
    us = carried_to true p s0

    vs : List DialogueRecord
    vs = carried_to true p s1

    ge : List DialogueRecord
    ge = carried_to true p (grants t one)

    words : carried_to true p (s.0 ++ s.1) ≡ us ++ vs
    words = carried_append true p s0 s1 ∙ rw stays_one refl

    out_one : said_to p (performed arcs s0).1 ≡ us
    out_one = said_performed arcs s0 p (grind (arith, parts)) ∙ ap (λ (x : Bool). carried_to x p s0) live

    out_two : said_to p (performed mid (grants t one)).1 ≡ ge
    out_two = said_performed mid (grants t one) p (apart_grants t one) ∙ ap (λ (x : Bool). carried_to x p (grants t one)) live_mid

    out_last : said_to p (performed two s1).1 ≡ vs
    out_last = said_performed two s1 p (grind (arith, parts)) ∙ ap (λ (x : Bool). carried_to x p s1) live_two

    all : said_to p (perform_commit d t s arcs).1 ≡ (us ++ ge) ++ vs
    all =
        said_append p ((performed arcs s0).1 ++ (performed mid (grants t one)).1) (performed two s1).1
        ∙ three (said_to p ((performed arcs s0).1 ++ (performed mid (grants t one)).1)) (us ++ ge) (said_to p (performed two s1).1) vs (said_append p (performed arcs s0).1 (performed mid (grants t one)).1 ∙ three (said_to p (performed arcs s0).1) us (said_to p (performed mid (grants t one)).1) ge out_one out_two) out_last
      where
        three : (u u' v v' : List DialogueRecord) → u ≡ u' → v ≡ v' → u ++ v ≡ u' ++ v'
        three u u' v v' e f = rw (e, f) refl

    sep_one : are_separate one ≡ true
    sep_one = (thins_performed arcs s0).apart sep

    ge_is : ge ≡ (if is_granting t mid_was.arc then DialogueRecord.Grant ∷ [] else [])
    ge_is = grants_found t one p mid_was.arc sep_one mid_was.found

    row : is_arc_of t mid_was.arc ≡ has_row t p
    row = (chosen t mid_was.arc p at down).0

    side : side_at d mid_was.arc.peer.node ≡ Side.Superior
    side = below_side d p mid_was.arc below at

    go : (x : Bool) → is_granting t mid_was.arc ≡ x → OverGoes arcs p (has_row t p) (carried_to true p (s.0 ++ s.1)) (said_to p (perform_commit d t s arcs).1) b
    go true i =
        let yes : has_row t p ≡ true = sym (chosen t mid_was.arc p at down).1 ∙ grind (arith, i) in
        let un : is_unchained mid_was.arc.dialogue ≡ true = grind (arith, i) in
        let gr : ge ≡ DialogueRecord.Grant ∷ [] = ge_is ∙ rw i refl in
        let is : b.dialogue ≡ said Ask_grant (completed Outcome.Commit Side.Superior mid_was.arc.dialogue) = dialogue ∙ rw (row ∙ yes) refl ∙ granted_is i in
        record {
          grants = true;
          goes = With_grant us vs words (all ∙ regroup us vs ge gr) refl;
          over = record {
            arc = first.arc;
            found = first.found;
            overs = record {
              units = ap (λ (g : Dialogue). g.units) is ∙ ap (λ (g : Dialogue). g.units) first.dialogue;
              holds = λ w r pol. absurd (cc (w));
              same = λ n. absurd (cc (n, yes));
              grants = λ w. (ap is_unchained (sym first.dialogue) ∙ un, ap is_holding is ∙ none mid_was.arc.dialogue, yes);
            };
          };
        }
      where
        granted_is : is_granting t mid_was.arc ≡ true → committed_dialogue d t mid_was.arc ≡ said Ask_grant (completed Outcome.Commit Side.Superior mid_was.arc.dialogue)
        granted_is i = rw (i, side, committed_dialogue) refl

        none : (g : Dialogue) → is_holding (said Ask_grant (completed Outcome.Commit Side.Superior g)) ≡ false
        none g = grind arith

        regroup : (us vs ge : List DialogueRecord) → ge ≡ DialogueRecord.Grant ∷ [] → (us ++ ge) ++ vs ≡ us ++ DialogueRecord.Grant ∷ vs
        regroup us vs ge g = rw g (append_assoc us (DialogueRecord.Grant ∷ []) vs)
    go false i =
        let gr : ge ≡ [] = ge_is ∙ rw i refl in
        record {
          grants = false;
          goes = As_carried (all ∙ regroup us vs ge gr ∙ sym words) refl;
          over = record { arc = first.arc; found = first.found; overs = over (has_row t p) refl };
        }
      where
        regroup : (us vs ge : List DialogueRecord) → ge ≡ [] → (us ++ ge) ++ vs ≡ us ++ vs
        regroup us vs ge g = rw (g, append-nil us) refl

        over : (x : Bool) → has_row t p ≡ x → Overs x false first.arc.dialogue b.dialogue
        over true j =
            let is : b.dialogue ≡ completed Outcome.Commit Side.Superior mid_was.arc.dialogue = dialogue ∙ rw (row ∙ j) refl ∙ plain_is i in
            overs_completed Outcome.Commit true first.arc.dialogue mid_was.arc.dialogue b.dialogue refl (passes_self true first.arc.dialogue mid_was.arc.dialogue first.dialogue) is
          where
            plain_is : is_granting t mid_was.arc ≡ false → committed_dialogue d t mid_was.arc ≡ completed Outcome.Commit Side.Superior mid_was.arc.dialogue
            plain_is i = rw (i, side, committed_dialogue) refl
        over false j = overs_same first.arc.dialogue mid_was.arc.dialogue b.dialogue false refl first.dialogue (dialogue ∙ rw (row ∙ j) refl)

-- ---- the passages by their phases

goes_quiet : (d : Digest) (t : Transaction) (w : Passage) (asks : Turn) (arcs : List Arc) (p : ℕ) (b : Arc) → is_over w ≡ false → is_under_at t.key p ≡ false → are_apart asks.outs ≡ true → is_live (link_with arcs p) ≡ true
    → find_arc (played d t w asks (entered t w arcs)).0 p ≡ Some b → PassedAt arcs p (has_row t p) b
unfolding played
goes_quiet d t Stays asks arcs p b w down apart live h = quiet_at t Stays asks.outs arcs p b down h
goes_quiet d t Enters asks arcs p b w down apart live h = quiet_at t Enters asks.outs arcs p b down h
goes_quiet d t Falls asks arcs p b w down apart live h = quiet_at t Falls asks.outs arcs p b down h
goes_quiet d t _ asks arcs p b w down apart live h = absurd (cc (w))

said_entered : (t : Transaction) (w : Passage) (outs : List TxOut) (arcs : List Arc) (p : ℕ) → are_apart outs ≡ true → is_live (link_with arcs p) ≡ true → said_to p (performed (entered t w arcs) outs).1 ≡ carried_to true p outs
said_entered t w outs arcs p apart live = said_performed (entered t w arcs) outs p apart ∙ ap (λ (x : Bool). carried_to x p outs) (ap is_live (link_entered t w arcs p) ∙ live)

said_quiet : (d : Digest) (t : Transaction) (w : Passage) (asks : Turn) (arcs : List Arc) (p : ℕ) → is_over w ≡ false → are_apart asks.outs ≡ true → is_live (link_with arcs p) ≡ true → said_to p (played d t w asks (entered t w arcs)).1 ≡ carried_to true p asks.outs
unfolding played
said_quiet d t Stays asks arcs p w apart live = said_entered t Stays asks.outs arcs p apart live
said_quiet d t Enters asks arcs p w apart live = said_entered t Enters asks.outs arcs p apart live
said_quiet d t Falls asks arcs p w apart live = said_entered t Falls asks.outs arcs p apart live
said_quiet d t _ asks arcs p w apart live = absurd (cc (w))

goes_over : (d : Digest) (t : Transaction) (w : Passage) (asks : Turn) → IsWhole asks → (arcs : List Arc) (p : ℕ) (b : Arc) → is_over w ≡ true → is_under_at t.key p ≡ false → is_superior d p ≡ false → are_apart asks.outs ≡ true → are_separate arcs ≡ true → is_live (link_with arcs p) ≡ true
    → is_live (link_with (played d t w asks (entered t w arcs)).0 p) ≡ true → find_arc (played d t w asks (entered t w arcs)).0 p ≡ Some b
    → OverGoes arcs p (has_row t p) (carried_to true p asks.outs) (said_to p (played d t w asks (entered t w arcs)).1) b
unfolding played entered
goes_over d t Falls_at_once asks whole arcs p b w down below apart sep live after h =
    record { grants = false; goes = As_carried (said_entered t Falls_at_once asks.outs arcs p apart live) refl; over = completed_at d t Falls_at_once Outcome.Rollback asks.outs arcs p b down below h }
goes_over d t Commits asks whole arcs p b w down below apart sep live after h =
    subst (λ (l : List TxOut). OverGoes arcs p (has_row t p) (carried_to true p l) (said_to p (perform_commit d t (around_grants asks) arcs).1) b) whole
    (commit_at d t (around_grants asks) arcs p b down below (ap are_apart whole ∙ apart) sep live after h)
goes_over d t Rolls_back asks whole arcs p b w down below apart sep live after h =
    record { grants = false; goes = As_carried (said_entered t Rolls_back asks.outs arcs p apart live) refl; over = completed_at d t Rolls_back Outcome.Rollback asks.outs arcs p b down below h }
goes_over d t Leaves asks whole arcs p b w down below apart sep live after h =
    record { grants = false; goes = As_carried (said_entered t Leaves asks.outs arcs p apart live) refl; over = left_at d t Leaves asks.outs arcs p b down h }
goes_over d t _ asks whole arcs p b w down below apart sep live after h = absurd (cc (w))

pub over_nil : (leaving : Bool) (h g : Phase) → is_nil h ≡ false → is_over (passage leaving h g) ≡ is_nil g
over_nil leaving Phase.Nil g late = absurd (cc (late))
over_nil true Phase.Active Phase.Nil late = refl
over_nil false Phase.Active Phase.Nil late = refl
over_nil leaving Phase.Active Phase.Active late = refl
over_nil leaving Phase.Active Phase.Ready late = refl
over_nil leaving Phase.Active Phase.Committing late = refl
over_nil leaving Phase.Active Phase.Rolling late = refl
over_nil leaving Phase.Ready Phase.Nil late = refl
over_nil leaving Phase.Ready Phase.Active late = refl
over_nil leaving Phase.Ready Phase.Ready late = refl
over_nil leaving Phase.Ready Phase.Committing late = refl
over_nil leaving Phase.Ready Phase.Rolling late = refl
over_nil leaving Phase.Committing Phase.Nil late = refl
over_nil leaving Phase.Committing Phase.Active late = refl
over_nil leaving Phase.Committing Phase.Ready late = refl
over_nil leaving Phase.Committing Phase.Committing late = refl
over_nil leaving Phase.Committing Phase.Rolling late = refl
over_nil leaving Phase.Rolling Phase.Nil late = refl
over_nil leaving Phase.Rolling Phase.Active late = refl
over_nil leaving Phase.Rolling Phase.Ready late = refl
over_nil leaving Phase.Rolling Phase.Committing late = refl
over_nil leaving Phase.Rolling Phase.Rolling late = refl

-- ---- numbers

led_rounds : (k o o' l l' w b b' : Bool) (n n' c : ℕ) → b ≡ o → n ≤ c + (if l then 1 else 0) → (o ≡ true → l ≡ false) → (k ≡ true → (n ≤ c) × (b ≡ false)) → (k ≡ false → o ≡ true → o' ≡ not w) → (o ≡ false → o' ≡ false) → (l ≡ true → (l' || k) ≡ true)
    → (k ≡ false → o ≡ true → w ≡ true → l' ≡ true) → b' ≡ (b && not w) → n' ≡ n + (if b && w then 1 else 0) → (b' ≡ o') × (n' ≤ c + (if l' then 1 else 0))
led_rounds k o o' l l' w false b' n n' c same le apart answered opened shut lags closes flag sum = (flag ∙ sym (shut (sym same)), go l refl)
  where
    no_more : n' ≡ n
    no_more = omega (arith, sum)

    wide : (x : Bool) → n ≤ c → n' ≤ c + (if x then 1 else 0)
    wide true h = omega (arith, h, no_more)
    wide false h = omega (arith, h, no_more)

    late : (x y : Bool) → l' ≡ x → k ≡ y → (x || y) ≡ true → n ≤ c + 1 → n' ≤ c + (if x then 1 else 0)
    late true y i j h m = omega (arith, m, no_more)
    late false true i j h m = wide false (answered j).0
    late false false i j h m = absurd (cc (h))

    go : (x : Bool) → l ≡ x → n' ≤ c + (if l' then 1 else 0)
    go true i = late l' k refl refl (lags i) (subst (λ (x : Bool). n ≤ c + (if x then 1 else 0)) i le)
    go false i = let less : n ≤ c + 0 = subst (λ (x : Bool). n ≤ c + (if x then 1 else 0)) i le in wide l' (omega (arith, less))
led_rounds true o o' l l' w true b' n n' c same le apart answered opened shut lags closes flag sum = absurd (let z = (answered refl).1 in cc (z))
led_rounds false o o' l l' true true b' n n' c same le apart answered opened shut lags closes flag sum =
    let less : n ≤ c + 0 = subst (λ (x : Bool). n ≤ c + (if x then 1 else 0)) (apart (sym same)) le in
    let ahead : l' ≡ true = closes refl (sym same) refl in
    (flag ∙ sym (opened refl (sym same)), subst (λ (x : Bool). n' ≤ c + (if x then 1 else 0)) (sym ahead) (omega (arith, less, sum)))
led_rounds false o o' l l' false true b' n n' c same le apart answered opened shut lags closes flag sum =
    let less : n ≤ c + 0 = subst (λ (x : Bool). n ≤ c + (if x then 1 else 0)) (apart (sym same)) le in
    (flag ∙ sym (opened refl (sym same)), wide l' (omega (arith, less)))
  where
    wide : (x : Bool) → n ≤ c → n' ≤ c + (if x then 1 else 0)
    wide true h = omega (arith, h, sum)
    wide false h = omega (arith, h, sum)

apart_row : (t : Transaction) (p : ℕ) → of_row false opens t p ≡ true → of_row false lags t p ≡ false
apart_row t p h = go (find_row t.rows p) refl
  where
    go : (o : Option Row) → find_row t.rows p ≡ o → of_row false lags t p ≡ false
    go None i = grind (arith, i)
    go (Some r) i = grind (arith, i, h)

-- ---- control

pub one_or_none : (n r : ℕ) (x y : Bool) → (x ≡ true → y ≡ true) → n + (if y then 1 else 0) ≤ suc r → n + (if x then 1 else 0) ≤ suc r
one_or_none n r true y h le = subst (λ (z : Bool). n + (if z then 1 else 0) ≤ suc r) (h refl) le
one_or_none n r false true h le = omega (arith, le)
one_or_none n r false false h le = le

kept_passes : (row : Bool) (g g' : Dialogue) (n r : ℕ) → Passes row g g' → IsKept g row n r → IsKept g' row n r
kept_passes row g g' n r p old = record {
  control = λ pol. one_or_none n r (is_holding g') (is_holding g) p.falls (old.control (bit pol));
  chained = λ none pol ch. p.holds none ∙ old.chained none (bit pol) (link ch);
  whole = λ ch. whole_same (old.whole (link ch));
}
  where
    bit : is_polarized g' ≡ true → is_polarized g ≡ true
    bit h = ap (λ (u : ℕ). has_bit u 2) (sym p.units) ∙ h

    link : is_chained g' ≡ true → is_chained g ≡ true
    link h = ap (λ (u : ℕ). has_bit u 16) (sym p.units) ∙ h

    whole_same : is_unchained g ≡ false → is_unchained g' ≡ false
    whole_same h = ap (λ (u : ℕ). has_bit u 32) p.units ∙ h

pub at_most_one : (x : Bool) (n r : ℕ) → n ≡ 0 → n + (if x then 1 else 0) ≤ suc r
at_most_one true n r h = omega (arith, h)
at_most_one false n r h = omega (arith, h)

-- after the end of a transaction: nothing was given but by a Grant that goes out
kept_over : (row w : Bool) (g g' : Dialogue) (n n' r : ℕ) → Overs row w g g' → IsKept g row n r → (row ≡ false → n' ≡ n) → (row ≡ true → w ≡ false → n' ≡ 0) → (w ≡ true → n' ≤ 1) → IsKept g' false n' r
kept_over row w g g' n n' r o old same none one = record { control = control row refl w refl; chained = λ x pol ch. chained row refl w refl pol ch; whole = λ ch. whole_same (old.whole (link ch)) }
  where
    bit : is_polarized g' ≡ true → is_polarized g ≡ true
    bit h = ap (λ (u : ℕ). has_bit u 2) (sym o.units) ∙ h

    link : is_chained g' ≡ true → is_chained g ≡ true
    link h = ap (λ (u : ℕ). has_bit u 16) (sym o.units) ∙ h

    whole_same : is_unchained g ≡ false → is_unchained g' ≡ false
    whole_same h = ap (λ (u : ℕ). has_bit u 32) o.units ∙ h

    control : (x : Bool) → row ≡ x → (y : Bool) → w ≡ y → is_polarized g' ≡ true → n' + (if is_holding g' then 1 else 0) ≤ suc r
    control false i y j pol =
        let eq : is_holding g' ≡ is_holding g = ap is_holding (o.same i) in
        one_or_none n' r (is_holding g') (is_holding g) (λ h. sym eq ∙ h) (subst (λ (k : ℕ). k + (if is_holding g then 1 else 0) ≤ suc r) (sym (same i)) (old.control (bit pol)))
    control true i true j pol =
        let free : is_holding g' ≡ false = (o.grants j).1 in
        let le = one j in
        subst (λ (z : Bool). n' + (if z then 1 else 0) ≤ suc r) (sym free) (omega (arith, le))
    control true i false j pol = at_most_one (is_holding g') n' r (none i j)

    chained : (x : Bool) → row ≡ x → (y : Bool) → w ≡ y → is_polarized g' ≡ true → is_chained g' ≡ true → g'.holds ≡ true
    chained false i y j pol ch = ap (λ (d : Dialogue). d.holds) (o.same i) ∙ old.chained i (bit pol) (link ch)
    chained true i false j pol ch = o.holds j i pol
    chained true i true j pol ch = absurd (cc ((o.grants j).0, old.whole (link ch)))

pub found_of : (arcs : List Arc) (p : ℕ) (g : Dialogue) → dialogue_at p arcs ≡ Some g → (b : Arc) × (find_arc arcs p ≡ Some b) × (b.dialogue ≡ g)
found_of arcs p g h = go (find_arc arcs p) refl
  where
    go : (o : Option Arc) → find_arc arcs p ≡ o → (b : Arc) × (find_arc arcs p ≡ Some b) × (b.dialogue ≡ g)
    go None i = absurd (cc (rw (i, dialogue_at) at h))
    go (Some b) i = let is : Some b.dialogue ≡ Some g = rw (i, dialogue_at) at h in (b, i, cc (is))

pub dialogue_is : (arcs : List Arc) (p : ℕ) (b : Arc) → find_arc arcs p ≡ Some b → dialogue_at p arcs ≡ Some b.dialogue
dialogue_is arcs p b h = rw (h, dialogue_at) refl

-- ---- an event of the transaction

same_ids : (p : ℕ) (t u : Transaction) → id_at u p ≡ id_at t p → of_row false (λ h b. true) u p ≡ of_row false (λ h b. true) t p
same_ids p t u h = go (find_row t.rows p) refl (find_row u.rows p) refl
  where
    go : (o : Option Row) → find_row t.rows p ≡ o → (v : Option Row) → find_row u.rows p ≡ v → of_row false (λ h b. true) u p ≡ of_row false (λ h b. true) t p
    go None i None j = rw (i, j, of_row) refl
    go (Some r) i (Some n) j = rw (i, j, of_row) refl
    go None i (Some n) j = let no : Some n.branch.id ≡ None = sym (rw (j, id_at) refl) ∙ h ∙ rw (i, id_at) refl in absurd (cc (no))
    go (Some r) i None j = let no : None ≡ Some r.branch.id = sym (rw (j, id_at) refl) ∙ h ∙ rw (i, id_at) refl in absurd (cc (no))

-- the words that went out, with the flag and the rounds of those that the transaction carries
said_same : (sent ws rs : List DialogueRecord) (w : Bool) → Goes ws rs w → (begun (sent ++ rs) ≡ begun (sent ++ ws)) × (closed (sent ++ rs) ≡ closed (sent ++ ws))
said_same sent ws rs w (As_carried i j) = (ap (λ (xs : List DialogueRecord). begun (sent ++ xs)) i, ap (λ (xs : List DialogueRecord). closed (sent ++ xs)) i)
said_same sent ws rs w (With_grant us vs i j k) =
    let left : sent ++ rs ≡ (sent ++ us) ++ DialogueRecord.Grant ∷ vs = ap (λ (xs : List DialogueRecord). sent ++ xs) j ∙ sym (append_assoc sent us (DialogueRecord.Grant ∷ vs)) in
    let right : (sent ++ us) ++ vs ≡ sent ++ ws = append_assoc sent us vs ∙ ap (λ (xs : List DialogueRecord). sent ++ xs) (sym i) in
    (ap begun left ∙ insert_flag false (sent ++ us) vs ∙ ap begun right, ap closed left ∙ insert_rounds false (sent ++ us) vs ∙ ap closed right)

said_given : (k : ℕ) (sent ws rs : List DialogueRecord) → Goes ws rs true → given k (sent ++ rs) ≤ suc (given k (sent ++ ws))
said_given k sent ws rs (As_carried i j) = absurd (cc (j))
said_given k sent ws rs (With_grant us vs i j e) =
    let left : sent ++ rs ≡ (sent ++ us) ++ DialogueRecord.Grant ∷ vs = ap (λ (xs : List DialogueRecord). sent ++ xs) j ∙ sym (append_assoc sent us (DialogueRecord.Grant ∷ vs)) in
    let right : (sent ++ us) ++ vs ≡ sent ++ ws = append_assoc sent us vs ∙ ap (λ (xs : List DialogueRecord). sent ++ xs) (sym i) in
    let more = insert_given false k (sent ++ us) vs in
    subst (λ (xs : List DialogueRecord). given k xs ≤ suc (given k (sent ++ ws))) (sym left) (subst (λ (xs : List DialogueRecord). given k ((sent ++ us) ++ DialogueRecord.Grant ∷ vs) ≤ suc (given k xs)) right more)

pub led_turned : (who : Who) (f : TxEvent) (d : Digest) (c : Current) (p : ℕ) (sent : List DialogueRecord) (k r : ℕ) → d.current ≡ Some c → IsPut f (seen who d.arcs c) → is_under_at c.key p ≡ false → is_superior d p ≡ false → are_separate d.arcs ≡ true
    → ((n : ℕ) → loses f n ≡ true → link_with d.arcs n ≡ Idle) → (answers f (seen who d.arcs c) p ≡ true → (closed sent ≤ k) × (begun sent ≡ false)) → IsLed p d sent k r → is_live (link_with (turned who f d c).next.arcs p) ≡ true
    → IsLed p (turned who f d c).next (sent ++ said_to p (turned who f d c).outs) k r
led_turned who f d c p sent k r now put down below sep gone answered old after = result (is_nil a.next.phase) refl
  where
    t : Transaction
    t = seen who d.arcs c

    a : Turn
    a = transacted f t

    m : Move
    m = turned who f d c

    w : Passage
    w = passage (is_leaving f) t.phase a.next.phase

    apart : are_apart a.outs ≡ true
    apart = apart_turn f t put

    agrees : Agrees p (is_live (link_with d.arcs p)) a.outs m.outs (is_live (link_with m.next.arcs p))
    agrees = agrees_played d t w a (whole_turn f t) d.arcs p apart

    live : is_live (link_with d.arcs p) ≡ true
    live = back (is_live (link_with d.arcs p)) agrees.live
      where
        back : (x : Bool) → is_live (link_with m.next.arcs p) ≡ stays x p a.outs → x ≡ true
        back true i = refl
        back false i = absurd (cc (sym i ∙ after, dead_stays p a.outs))

    st : stays true p a.outs ≡ true
    st = sym (agrees.live ∙ ap (λ (x : Bool). stays x p a.outs) live) ∙ after

    kept : loses f p ≡ false
    kept = alive (loses f p) refl
      where
        alive : (b : Bool) → loses f p ≡ b → loses f p ≡ false
        alive false i = i
        alive true i = absurd (cc (live, ap is_live (gone p i)))

    ws : List DialogueRecord
    ws = carried_to true p a.outs

    is : IsLeading f t p t a
    is = leading_turn f t p put

    before : (v : Bool) (g : Phase → Branch → Bool) → of_branch v g d.current p ≡ of_row v g t p
    before v g = ap (λ (o : Option Current). of_branch v g o p) now ∙ of_seen who d.arcs c p v g put.late

    facts : Leads f t p t a
    facts = is.leads (seen_sees who d.arcs c p live) kept down (sym (before true is_sound) ∙ old.sound) st

    plain : none_of is_opening ws ≡ true
    plain = plain_carried true p a.outs is.passed.begins (returns_turn f t p put)

    behind : (v : Bool) (g : Phase → Branch → Bool) → ((b : Branch) → g Phase.Nil b ≡ v) → of_branch v g m.next.current p ≡ of_row v g a.next p
    behind v g nil = of_left a.next p v g nil

    rounds_now : (begun (sent ++ ws) ≡ of_row false opens a.next p) × (closed (sent ++ ws) ≤ k + (if of_row false lags a.next p then 1 else 0))
    rounds_now =
        led_rounds (answers f t p) (of_row false opens t p) (of_row false opens a.next p) (of_row false lags t p) (of_row false lags a.next p) (some_closing ws) (begun sent) (begun (sent ++ ws)) (closed sent) (closed (sent ++ ws)) k
        (old.open_now ∙ before false opens) (subst (λ (x : Bool). closed sent ≤ k + (if x then 1 else 0)) (before false lags) old.ahead) (apart_row t p) answered facts.open_so facts.shut facts.lag_so facts.closes
        (begun_plain sent ws plain) (closed_plain sent ws plain)

    row_same : has_branch d.current p ≡ has_row t p
    row_same = before false (λ h b. true)

    went : (rs : List DialogueRecord) (x : Bool) → Goes ws rs x → (begun (sent ++ rs) ≡ of_branch false opens m.next.current p) × (closed (sent ++ rs) ≤ k + (if of_branch false lags m.next.current p then 1 else 0))
    went rs x g =
        let s = said_same sent ws rs x g in
        (s.0 ∙ rounds_now.0 ∙ sym (behind false opens (λ b. refl)), subst (λ (y : Bool). closed (sent ++ rs) ≤ k + (if y then 1 else 0)) (sym (behind false lags (λ b. refl))) (subst (λ (n : ℕ). n ≤ k + (if of_row false lags a.next p then 1 else 0)) (sym s.1) rounds_now.1))

    sound : of_branch true is_sound m.next.current p ≡ true
    sound = behind true is_sound (λ b. refl) ∙ facts.sound

    result : (b : Bool) → is_nil a.next.phase ≡ b → IsLed p m.next (sent ++ said_to p m.outs) k r
    result false i = record {
      sound = sound;
      open_now = (went rs false (As_carried said refl)).0;
      ahead = (went rs false (As_carried said refl)).1;
      quiet = λ has over. ap (λ (xs : List DialogueRecord). given (closed (sent ++ xs)) (sent ++ xs)) said ∙ quiet_plain sent ws plain (old.quiet (sym same_row ∙ has)) (sym (ap (λ (xs : List DialogueRecord). begun (sent ++ xs)) said) ∙ over);
      kept = λ g at. keep g at;
    }
      where
        rs : List DialogueRecord
        rs = said_to p m.outs

        on : is_over w ≡ false
        on = over_nil (is_leaving f) t.phase a.next.phase put.late ∙ i

        said : rs ≡ ws
        said = said_quiet d t w a d.arcs p on apart live

        same_row : has_branch m.next.current p ≡ has_branch d.current p
        same_row = stays_left a.next p i ∙ same_ids p t a.next is.fair.same.ids ∙ sym row_same

        keep : (g : Dialogue) → dialogue_at p m.next.arcs ≡ Some g → IsKept g (has_branch m.next.current p) (given k (sent ++ rs)) r
        keep g at =
            let b = found_of m.next.arcs p g at in
            let was = goes_quiet d t w a d.arcs p b.0 on down apart live b.1 in
            let first : IsKept was.arc.dialogue (has_branch d.current p) (given k sent) r = old.kept was.arc.dialogue (dialogue_is d.arcs p was.arc was.found) in
            let step : IsKept g (has_branch d.current p) (given k sent) r = kept_passes (has_branch d.current p) was.arc.dialogue g (given k sent) r (subst (λ (x : Bool). Passes x was.arc.dialogue g) (sym row_same) (subst (λ (h : Dialogue). Passes (has_row t p) was.arc.dialogue h) b.2 was.passes)) first in
            let count : given k (sent ++ rs) ≡ given k sent = ap (λ (xs : List DialogueRecord). given k (sent ++ xs)) said ∙ given_plain k sent ws plain in
            subst (λ (x : Bool). IsKept g x (given k (sent ++ rs)) r) (sym same_row) (subst (λ (n : ℕ). IsKept g (has_branch d.current p) n r) (sym count) step)
    result true i = go (find_arc m.next.arcs p) refl
      where
        rs : List DialogueRecord
        rs = said_to p m.outs

        on : is_over w ≡ true
        on = over_nil (is_leaving f) t.phase a.next.phase put.late ∙ i

        none : has_branch m.next.current p ≡ false
        none = gone_left a.next p i

        go : (o : Option Arc) → find_arc m.next.arcs p ≡ o → IsLed p m.next (sent ++ rs) k r
        go None j = absurd (grind (arith, after, j))
        go (Some b) j = record {
          sound = sound;
          open_now = (went rs g.grants g.goes).0;
          ahead = (went rs g.grants g.goes).1;
          quiet = λ has over. absurd (cc (has, none));
          kept = λ h at. keep h (same_found h at);
        }
          where
            g : OverGoes d.arcs p (has_row t p) ws rs b
            g = goes_over d t w a (whole_turn f t) d.arcs p b on down below apart sep live after j

            same_found : (h : Dialogue) → dialogue_at p m.next.arcs ≡ Some h → b.dialogue ≡ h
            same_found h at = let eq : Some b.dialogue ≡ Some h = sym (dialogue_is m.next.arcs p b j) ∙ at in cc (eq)

            -- nothing stands after the rounds that are closed
            shut : begun (sent ++ ws) ≡ false
            shut = rounds_now.0 ∙ nil_row a.next p i
              where
                nil_row : (u : Transaction) (p : ℕ) → is_nil u.phase ≡ true → of_row false opens u p ≡ false
                nil_row u p z = grind (arith, z)

            room : closed (sent ++ ws) ≤ k
            room = let le : closed (sent ++ ws) ≤ k + (if false then 1 else 0) = subst (λ (x : Bool). closed (sent ++ ws) ≤ k + (if x then 1 else 0)) (nil_lags a.next p i) rounds_now.1 in omega (arith, le)
              where
                nil_lags : (u : Transaction) (p : ℕ) → is_nil u.phase ≡ true → of_row false lags u p ≡ false
                nil_lags u p z = grind (arith, z)

            nothing : has_branch d.current p ≡ true → given k (sent ++ ws) ≡ 0
            nothing has = given_later (sent ++ ws) (closed (sent ++ ws)) k room (quiet_plain sent ws plain (old.quiet has) shut)

            unchanged : (x : Bool) → Goes ws rs x → x ≡ false → given k (sent ++ rs) ≡ given k (sent ++ ws)
            unchanged x (As_carried e n) not_so = ap (λ (xs : List DialogueRecord). given k (sent ++ xs)) e
            unchanged x (With_grant us vs e n y) not_so = absurd (cc (y, not_so))

            keep : (h : Dialogue) → b.dialogue ≡ h → IsKept h (has_branch m.next.current p) (given k (sent ++ rs)) r
            keep h eq =
                let first : IsKept g.over.arc.dialogue (has_branch d.current p) (given k sent) r = old.kept g.over.arc.dialogue (dialogue_is d.arcs p g.over.arc g.over.found) in
                let overs : Overs (has_branch d.current p) g.grants g.over.arc.dialogue h = subst (λ (x : Bool). Overs x g.grants g.over.arc.dialogue h) (sym row_same) (subst (λ (y : Dialogue). Overs (has_row t p) g.grants g.over.arc.dialogue y) eq g.over.overs) in
                subst (λ (x : Bool). IsKept h x (given k (sent ++ rs)) r) (sym none)
                (kept_over (has_branch d.current p) g.grants g.over.arc.dialogue h (given k sent) (given k (sent ++ rs)) r overs first
                (λ not_so. unchanged g.grants g.goes (ungranted g.grants refl not_so overs) ∙ given_plain k sent ws plain) (λ has not_so. unchanged g.grants g.goes not_so ∙ nothing has) (λ is_so. granted is_so overs))
              where
                ungranted : (x : Bool) → g.grants ≡ x → has_branch d.current p ≡ false → Overs (has_branch d.current p) g.grants g.over.arc.dialogue h → x ≡ false
                ungranted false e not_so o = refl
                ungranted true e not_so o = absurd (cc ((o.grants e).2, not_so))

                granted : g.grants ≡ true → Overs (has_branch d.current p) g.grants g.over.arc.dialogue h → given k (sent ++ rs) ≤ 1
                granted is_so o =
                    let more = said_given k sent ws rs (subst (λ (x : Bool). Goes ws rs x) is_so g.goes) in
                    let zero_given = nothing (o.grants is_so).2 in
                    omega (arith, more, zero_given)
