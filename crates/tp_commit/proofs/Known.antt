-- A transaction by what is known of the node.
use Rattle.std.proofs.Common.{◌≡◌, ◌&&◌, ◌||◌, ℕ, not, Bool, true, false, Option, Some, List, [], ◌∷◌, arith, refl, ap, sym, ◌∙◌}
use Rattle.std.proofs.lemmas.Bool.Decides.{nat_tests}
use Rattle.tp_names.specs.declared.identifiers.NodeKey.{NodeKey}
use Rattle.tp_names.specs.declared.identifiers.Addr.{Addr}
use Rattle.tp_names.specs.declared.children.Child.{Child}
use Rattle.tp_names.specs.declared.outcome.Outcome.{Outcome}
use Rattle.tp_logrec.specs.declared.record.LogRec.{LogRec}
use Rattle.tp_model.specs.declared.arc.Phase.{Phase}
use Rattle.tp_model.specs.Parts.{Who, Arc, Key, Root, Under, Branch, Current}
use Rattle.tp_model.specs.Dialogues.{is_nil, is_rolling}
use Rattle.tp_model.specs.Transactions.{Row, Transaction, is_under, is_under_at, fresh_branch}
use Rattle.tp_model.specs.Node.{is_end_deferred_at, is_up_live, is_up_ending, seen_row, seen_rows, seen, fresh_current}
use Rattle.tp_model.specs.Requests.{has_branch_at}
use Rattle.tp_model.specs.Events.{fresh_branches, recovered}
use Rattle.tp_commit.specs.Branch.{key_from, begun, idle_rows, found, found_by, standing_row, standing_rows, standing}
use Rattle.tp_model.specs.AmongArcs.{are_distinct, IsAmongArcs}

pub begun_known : (who : Who) (arcs : List Arc) (k : Key) → is_up_live arcs k ≡ is_under k → is_up_ending arcs k ≡ false → begun who.node k ≡ seen who arcs (fresh_current k)
begun_known who arcs k live ends =
    let with_up : Bool → Bool → Transaction = λ u e. record (seen who arcs (fresh_current k)) { up = u; up_ends = e } in
    sym (ap (λ u. with_up u (is_up_ending arcs k)) live ∙ ap (with_up (is_under k)) ends)

-- ---- without arcs

no_up : (k : Key) → is_up_live [] k ≡ false
no_up (Root a) = refl
no_up (Under a b s) = refl

no_up_end : (k : Key) → is_up_ending [] k ≡ false
no_up_end (Root a) = refl
no_up_end (Under a b s) = refl

rows_idle : (cs : List Child) → idle_rows cs ≡ seen_rows [] (fresh_branches cs)
rows_idle [] = refl
rows_idle (c ∷ cs) = let row : Row = record { branch = fresh_branch c; live = false; ends = false } in ap (λ (rs : List Row). row ∷ rs) (rows_idle cs)

found_known : (who : Who) (k : Key) (p : Phase) (cs : List Child) (o : Option Outcome) → found who.node k p cs o ≡ seen who [] (recovered k p (fresh_branches cs) o)
found_known who k p cs o =
    let with_parts : Bool → Bool → List Row → Transaction = λ u e rs. record (found who.node k p cs o) { up = u; up_ends = e; rows = rs } in
    ap (λ u. with_parts u false (idle_rows cs)) (sym (no_up k))
    ∙ ap (λ e. with_parts (is_up_live [] k) e (idle_rows cs)) (sym (no_up_end k))
    ∙ ap (with_parts (is_up_live [] k) (is_up_ending [] k)) (rows_idle cs)

pub ready_known : (who : Who) (k : NodeKey) (s : Addr) (cs : List Child) (o : Option Outcome) → found_by (LogRec.Ready who.node k s cs) o ≡ Some (seen who [] (recovered (key_from k (Some s)) Phase.Ready (fresh_branches cs) o))
ready_known who k s cs o = ap (λ (t : Transaction). Some t) (found_known who (key_from k (Some s)) Phase.Ready cs o)

pub committing_known : (who : Who) (k : NodeKey) (s : Option Addr) (cs : List Child) (o : Option Outcome) → found_by (LogRec.Commit who.node k s cs) o ≡ Some (seen who [] (recovered (key_from k s) Phase.Committing (fresh_branches cs) o))
committing_known who k s cs o = ap (λ (t : Transaction). Some t) (found_known who (key_from k s) Phase.Committing cs o)

-- ---- what is known stands

and_twice : (b c : Bool) → ((b && c) && c) ≡ (b && c)
and_twice true true = refl
and_twice true false = refl
and_twice false c = refl

and_true : (b : Bool) → (b && true) ≡ b
and_true true = refl
and_true false = refl

row_stands : (arcs : List Arc) (b : Branch) → standing_row false (seen_row arcs b) ≡ seen_row arcs b
row_stands arcs b = grind (arith, and_twice, and_true)

rows_stand : (arcs : List Arc) (bs : List Branch) → standing_rows false (seen_rows arcs bs) ≡ seen_rows arcs bs
rows_stand arcs [] = refl
rows_stand arcs (b ∷ bs) = grind (arith, row_stands arcs b, rows_stand arcs bs)

pub known_stands : (who : Who) (arcs : List Arc) (c : Current) → is_rolling c.phase ≡ false → standing (seen who arcs c) ≡ seen who arcs c
known_stands who arcs c e =
    let with_parts : Bool → List Row → Transaction = λ u rs. record (seen who arcs c) { up_ends = u; rows = rs } in
    ap (λ r. with_parts (is_up_ending arcs c.key && not r) (standing_rows r (seen_rows arcs c.branches))) e
    ∙ ap (λ u. with_parts u (standing_rows false (seen_rows arcs c.branches))) (and_true (is_up_ending arcs c.key))
    ∙ ap (with_parts (is_up_ending arcs c.key)) (rows_stand arcs c.branches)

-- ---- in order among the arcs

ends_above : (arcs : List Arc) (k : Key) (p : ℕ) → is_up_ending arcs k ≡ false → is_under_at k p ≡ true → is_end_deferred_at arcs p ≡ false
ends_above arcs (Root t) p none here = absurd cc
ends_above arcs (Under t b a) p none here = let same : a.node ≡ p = grind (arith, nat_tests, here) in sym (ap (is_end_deferred_at arcs) same) ∙ none

or_none : (b : Bool) → (b || false) ≡ b
or_none true = refl
or_none false = refl

pub begun_in_order : (arcs : List Arc) (k : Key) → is_up_ending arcs k ≡ false → IsAmongArcs arcs (fresh_current k)
begun_in_order arcs k none = record {
  current = refl;
  distinct = refl;
  apart = λ p h. refl;
  put_off = λ p h off. absurd (cc (off, ends_above arcs k p none (sym (or_none (is_under_at k p)) ∙ h)));
  forgotten = λ rolls p h. absurd (cc (rolls));
}

pub found_in_order : (k : Key) (p : Phase) (cs : List Child) (o : Option Outcome) → is_nil p ≡ false → are_distinct (fresh_branches cs) ≡ true → ((q : ℕ) → is_under_at k q ≡ true → has_branch_at (fresh_branches cs) q ≡ false)
    → IsAmongArcs [] (recovered k p (fresh_branches cs) o)
found_in_order k p cs o late differ apart = record { current = late; distinct = differ; apart = apart; put_off = λ q h off. absurd (cc (off)); forgotten = λ rolls q h. refl }
