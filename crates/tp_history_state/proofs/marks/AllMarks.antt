-- In every legal history all marks of the branches are what the questions answer.
use Rattle.tp_history_state.proofs.Vocabulary.{Bool, List, None, Option, Some, [], refl, true, ◌&&◌, ◌==◌, ◌∷◌, ◌≡◌, rank, NodeKey, Addr, Origin, Entry, Branch, Current, IsLegal, node_key, digest, prepared_in, left_in, given_up_in, ended_in, same_bool, is_some, report_of, agrees_branches, each_branch, marks_agree, and_left, and_right}
use Rattle.tp_model.specs.Keys.{counted_in}
use Rattle.tp_history_state.proofs.marks.Marked.{given_up_law}
use Rattle.tp_history_state.proofs.marks.Taken.{counted_law, left_law}
use Rattle.tp_history_state.proofs.marks.Ended.{ended_law}
use Rattle.tp_history_state.proofs.prepares.Told.{prepared_law}
use Rattle.tp_model.specs.Transactions.{child_of}

all_marks : (o : Origin) (k : NodeKey) (h : List Entry) (bs : List Branch) → each_branch (λ b. same_bool b.prepared (prepared_in o k b.peer.node h)) bs ≡ true → each_branch (λ b. same_bool b.counted (counted_in o k b.peer.node h)) bs ≡ true
    → each_branch (λ b. same_bool b.left (left_in o k b.peer.node h)) bs ≡ true → each_branch (λ b. same_bool b.given_up (given_up_in o k b.peer.node h)) bs ≡ true
    → each_branch (λ b. same_bool b.ended (is_some (ended_in o k (child_of b) h)) && (rank b.report == rank (report_of (ended_in o k (child_of b) h)))) bs ≡ true → agrees_branches o k h bs ≡ true
all_marks o k h [] p c l g e = refl
all_marks o k h (b ∷ bs) p c l g e =
    let rest : agrees_branches o k h bs ≡ true = all_marks o k h bs (and_right _ _ p) (and_right _ _ c) (and_right _ _ l) (and_right _ _ g) (and_right _ _ e) in
    let ended : (same_bool b.ended (is_some (ended_in o k (child_of b) h)) && (rank b.report == rank (report_of (ended_in o k (child_of b) h)))) ≡ true = and_left _ _ e in
    let one : same_bool b.prepared (prepared_in o k b.peer.node h) ≡ true = and_left _ _ p in
    let two : same_bool b.counted (counted_in o k b.peer.node h) ≡ true = and_left _ _ c in
    let three : same_bool b.left (left_in o k b.peer.node h) ≡ true = and_left _ _ l in
    let four : same_bool b.given_up (given_up_in o k b.peer.node h) ≡ true = and_left _ _ g in
    let five : same_bool b.ended (is_some (ended_in o k (child_of b) h)) ≡ true = and_left _ _ ended in
    let six : (rank b.report == rank (report_of (ended_in o k (child_of b) h))) ≡ true = and_right _ _ ended in
    together _ _ _ _ _ _ _ one two three four five six rest
  where
    together : (a b c d e f g : Bool) → a ≡ true → b ≡ true → c ≡ true → d ≡ true → e ≡ true → f ≡ true → g ≡ true → ((a && b && c && d && e && f) && g) ≡ true
    together a b c d e f g h1 h2 h3 h4 h5 h6 h7 = rw (h1, h2, h3, h4, h5, h6, h7) refl

pub all_marks_law : (o : Origin) (up : Option Addr) (h : List Entry) → IsLegal o up h → marks_agree o h ≡ true
all_marks_law o up h legal = go (digest o h).current (prepared_law o up h legal) (counted_law o up h legal) (left_law o up h legal) (given_up_law o up h legal) (ended_law o up h legal)
  where
    each : (NodeKey → Branch → Bool) → Option Current → Bool
    each f v = elim v [ None ↦ true | Some c ↦ each_branch (f (node_key c.key)) c.branches ]

    go : (v : Option Current) → each (λ k b. same_bool b.prepared (prepared_in o k b.peer.node h)) v ≡ true → each (λ k b. same_bool b.counted (counted_in o k b.peer.node h)) v ≡ true → each (λ k b. same_bool b.left (left_in o k b.peer.node h)) v ≡ true
        → each (λ k b. same_bool b.given_up (given_up_in o k b.peer.node h)) v ≡ true → each (λ k b. same_bool b.ended (is_some (ended_in o k (child_of b) h)) && (rank b.report == rank (report_of (ended_in o k (child_of b) h)))) v ≡ true
        → elim v as (λ _. Bool) [ None ↦ true | Some c ↦ agrees_branches o (node_key c.key) h c.branches ] ≡ true
    go None p c l g e = refl
    go (Some x) p c l g e = all_marks o (node_key x.key) h x.branches p c l g e
