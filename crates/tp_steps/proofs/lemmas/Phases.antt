-- Phases that an event goes through, and lists of outputs that begin nothing and tell nothing.
use Rattle.std.proofs.Common.{◌≡◌, ℕ, Bool, true, false, refl, ap, sym, ◌∙◌, arith, Option, Some, None, List, [], ◌∷◌, ◌++◌, ◌&&◌, ◌||◌, ◌==◌}
use Rattle.tp_names.specs.declared.identifiers.Aaid.{Aaid}
use Rattle.tp_names.specs.declared.outcome.Report.{Report}
use Rattle.tp_records.specs.declared.indication.Indication.{Indication}
use Rattle.tp_records.specs.declared.dialogue.DialogueRecord.{DialogueRecord}
use Rattle.tp_model.specs.declared.arc.Phase.{Phase}
use Rattle.tp_model.specs.declared.transaction.TxOut.{TxOut}
use Rattle.tp_model.specs.Dialogues.{is_active, is_ready}
use Rattle.tp_model.specs.Transactions.{Row, Transaction, find_row, put_row, with_row, with_arc_lost, child_of, children_of, carry_up, carry_down, forgets, done_up, ends_down, end_up, prepare_each, ask_each}
use Rattle.tp_model.specs.Questions.{is_begin}
use Rattle.tp_steps.specs.Turns.{row_dead}
use Rattle.tp_steps.specs.Passages.{begins_none, asks_tell, may_move}
use Rattle.tp_steps.proofs.words.Fair.{row_is, row_key}
use Rattle.tp_steps.proofs.lemmas.Joined.{IsJoined, joined_up, joined_down, joined_prepare, joined_forgets, joined_ask, joined_ends, joined_end_up, joined_done}

-- ---- outputs

pub none_append : (xs ys : List TxOut) → begins_none (xs ++ ys) ≡ (begins_none xs && begins_none ys)
none_append [] ys = refl
none_append (x ∷ xs) ys = grind (arith, none_append xs ys)

pub tell_append : (f : Indication → Bool) (xs ys : List TxOut) → asks_tell f (xs ++ ys) ≡ (asks_tell f xs || asks_tell f ys)
tell_append f [] ys = refl
tell_append f (x ∷ xs) ys = grind (arith, tell_append f xs ys)

-- a list that begins nothing and tells nothing
abbrev pub IsStill : List TxOut → Type 0
IsStill outs = (begins_none outs ≡ true) × ((f : Indication → Bool) → asks_tell f outs ≡ false)

pub still_append : (xs ys : List TxOut) → IsStill xs → IsStill ys → IsStill (xs ++ ys)
still_append xs ys h i = (none_append xs ys ∙ rw (h.0, i.0) refl, λ f. tell_append f xs ys ∙ rw (h.1 f, i.1 f) refl)

pub still_joined : IsJoined IsStill
still_joined = record { none = (refl, λ f. refl); more = still_append }

pub still_up : (t : Transaction) (r : DialogueRecord) → is_begin r ≡ false → IsStill (carry_up t r)
still_up t r h = joined_up IsStill still_joined t r (λ p. (grind (arith, h), λ f. refl))

pub still_down : (rows : List Row) (r : DialogueRecord) → is_begin r ≡ false → IsStill (carry_down rows r)
still_down rows r h = joined_down IsStill still_joined rows r (λ p. (grind (arith, h), λ f. refl))

pub still_prepare : (rows : List Row) → IsStill (prepare_each rows)
still_prepare rows = joined_prepare IsStill still_joined rows (λ p. (refl, λ f. refl))

pub still_forgets : (a : Aaid) (rows : List Row) → IsStill (forgets a rows)
still_forgets a rows = joined_forgets IsStill still_joined a rows (λ z b. (refl, λ f. refl))

pub still_ends : (rows : List Row) → IsStill (ends_down rows)
still_ends rows = joined_ends IsStill still_joined rows (λ p. (refl, λ f. refl))

pub still_ask : (a : Aaid) (rows : List Row) → IsStill (ask_each a rows)
still_ask a rows = joined_ask IsStill still_joined a rows (λ z b. (refl, λ f. refl))

pub still_done : (t : Transaction) (r : Report) → IsStill (done_up t r)
still_done t r = joined_done IsStill still_joined t r (λ p. (refl, λ f. refl)) (λ a b z i. (refl, λ f. refl))

pub still_end_up : (t : Transaction) → IsStill (end_up t)
still_end_up t = joined_end_up IsStill still_joined t (λ p. (refl, λ f. refl))

-- a list that begins nothing, and one that does not tell such a thing
abbrev pub IsBeginless : List TxOut → Type 0
IsBeginless outs = begins_none outs ≡ true

pub beginless : IsJoined IsBeginless
beginless = record { none = refl; more = λ xs ys h i. none_append xs ys ∙ rw (h, i) refl }

abbrev pub IsUntold : (Indication → Bool) → List TxOut → Type 0
IsUntold f outs = asks_tell f outs ≡ false

pub untold : (f : Indication → Bool) → IsJoined (IsUntold f)
untold f = record { none = refl; more = λ xs ys h i. tell_append f xs ys ∙ rw (h, i) refl }

-- ---- phases

pub move_same : (p : Phase) → may_move p p ≡ true
move_same Phase.Nil = refl
move_same Phase.Active = refl
move_same Phase.Ready = refl
move_same Phase.Committing = refl
move_same Phase.Rolling = refl

pub move_then : (p q r : Phase) → may_move p q ≡ true → may_move q r ≡ true → may_move p r ≡ true
move_then Phase.Active q r h i = refl
move_then Phase.Nil Phase.Nil r h i = i
move_then Phase.Nil Phase.Active r h i = absurd cc
move_then Phase.Nil Phase.Ready r h i = absurd cc
move_then Phase.Nil Phase.Committing r h i = absurd cc
move_then Phase.Nil Phase.Rolling r h i = absurd cc
move_then Phase.Ready Phase.Nil Phase.Nil h i = refl
move_then Phase.Ready Phase.Nil r h i = absurd (grind (arith, i))
move_then Phase.Ready Phase.Active r h i = absurd cc
move_then Phase.Ready Phase.Ready r h i = i
move_then Phase.Ready Phase.Committing Phase.Nil h i = refl
move_then Phase.Ready Phase.Committing Phase.Active h i = absurd cc
move_then Phase.Ready Phase.Committing Phase.Ready h i = refl
move_then Phase.Ready Phase.Committing Phase.Committing h i = refl
move_then Phase.Ready Phase.Committing Phase.Rolling h i = refl
move_then Phase.Ready Phase.Rolling Phase.Nil h i = refl
move_then Phase.Ready Phase.Rolling Phase.Active h i = absurd cc
move_then Phase.Ready Phase.Rolling Phase.Ready h i = refl
move_then Phase.Ready Phase.Rolling Phase.Committing h i = refl
move_then Phase.Ready Phase.Rolling Phase.Rolling h i = refl
move_then Phase.Committing Phase.Nil Phase.Nil h i = refl
move_then Phase.Committing Phase.Nil r h i = absurd (grind (arith, i))
move_then Phase.Committing Phase.Active r h i = absurd cc
move_then Phase.Committing Phase.Ready r h i = absurd cc
move_then Phase.Committing Phase.Committing r h i = i
move_then Phase.Committing Phase.Rolling r h i = absurd cc
move_then Phase.Rolling Phase.Nil Phase.Nil h i = refl
move_then Phase.Rolling Phase.Nil r h i = absurd (grind (arith, i))
move_then Phase.Rolling Phase.Active r h i = absurd cc
move_then Phase.Rolling Phase.Ready r h i = absurd cc
move_then Phase.Rolling Phase.Committing r h i = absurd cc
move_then Phase.Rolling Phase.Rolling r h i = i

pub was_active : (p q : Phase) → may_move p q ≡ true → is_active q ≡ true → is_active p ≡ true
was_active Phase.Active q h i = refl
was_active _ q h i = absurd (grind (arith, h, i))

pub was_open : (p q : Phase) → may_move p q ≡ true → (is_active q || is_ready q) ≡ true → (is_active p || is_ready p) ≡ true
was_open Phase.Active q h i = refl
was_open Phase.Ready q h i = refl
was_open _ q h i = absurd (grind (arith, h, i))

pub past_active : (q : Phase) → (may_move Phase.Ready q || may_move Phase.Committing q) ≡ true → is_active q ≡ false
past_active Phase.Active h = absurd cc
past_active _ h = refl

-- ---- branches

children_put : (rows : List Row) (q : ℕ) (r n : Row) → find_row rows q ≡ Some r → n.branch.peer.node ≡ q → child_of n.branch ≡ child_of r.branch → n.branch.left ≡ r.branch.left
    → children_of (put_row rows n) ≡ children_of rows
children_put [] q r n h i c l = refl
children_put (w ∷ rows) q r n h i c l = go (w.branch.peer.node == q) refl (children_put rows q r n)
  where
    go : (b : Bool) → (w.branch.peer.node == q) ≡ b
        → (find_row rows q ≡ Some r → n.branch.peer.node ≡ q → child_of n.branch ≡ child_of r.branch → n.branch.left ≡ r.branch.left → children_of (put_row rows n) ≡ children_of rows)
        → children_of (put_row (w ∷ rows) n) ≡ children_of (w ∷ rows)
    go true j rest =
        let one : Some w ≡ Some r = rw (j, find_row) at h in
        let same : w ≡ r = cc (one) in
        let at : (w.branch.peer.node == n.branch.peer.node) ≡ true = rw i j in
        let cw : child_of n.branch ≡ child_of w.branch = c ∙ ap (λ (x : Row). child_of x.branch) (sym same) in
        let lw : n.branch.left ≡ w.branch.left = l ∙ ap (λ (x : Row). x.branch.left) (sym same) in
        rw (at, put_row) (rw (lw, cw) refl)
    go false j rest =
        let k : find_row rows q ≡ Some r = rw (j, find_row) at h in
        let at : (w.branch.peer.node == n.branch.peer.node) ≡ false = rw i j in
        rw (at, put_row) (rw (rest k i c l) refl)

pub children_row : (t : Transaction) (q : ℕ) (f : Row → Row) → ((r : Row) → child_of (f r).branch ≡ child_of r.branch) → ((r : Row) → (f r).branch.left ≡ r.branch.left) → children_of (with_row t q f).rows ≡ children_of t.rows
children_row t q f c l = go (find_row t.rows q) refl
  where
    go : (o : Option Row) → find_row t.rows q ≡ o → children_of (with_row t q f).rows ≡ children_of t.rows
    go None i = rw (i, with_row) refl
    go (Some r) i = rw (i, with_row) (children_put t.rows q r (f r) i (ap (λ (x : _). x.addr.node) (c r) ∙ row_is t.rows q r i) (c r) (l r))

pub lost_children : (t : Transaction) (q : ℕ) → children_of (with_arc_lost t q).rows ≡ children_of t.rows
lost_children t q = grind (arith, children_row t q row_dead (λ r. refl) (λ r. refl))

pub lost_key : (t : Transaction) (q : ℕ) → (with_arc_lost t q).key ≡ t.key
lost_key t q = grind (arith, row_key)
