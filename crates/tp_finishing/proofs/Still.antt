-- A node without associations: what an event makes of its transaction, and that it needs no numbers.
use Rattle.std.proofs.Common.{if◌then◌else◌, ◌≡◌, ℕ, ◌≤◌, Bool, true, false, refl, ap, sym, subst, ◌∙◌, arith, Option, Some, List, [], ◌∷◌, ◌++◌, ◌&&◌, ◌||◌, not, nat_lt}
use Rattle.std.proofs.lemmas.Bool.Decides.{nat_tests}
use Rattle.tp_names.specs.declared.outcome.Outcome.{Outcome}
use Rattle.tp_records.specs.declared.peer.PeerRecord.{PeerRecord}
use Rattle.tp_model.specs.declared.transaction.TxEvent.{TxEvent}
use Rattle.tp_model.specs.declared.transaction.TxOut.{TxOut}
use Rattle.tp_model.specs.Parts.{Who, Out, Arc, Current, Digest}
use Rattle.tp_model.specs.Links.{greatest}
use Rattle.tp_model.specs.Dialogues.{is_nil}
use Rattle.tp_model.specs.Arcs.{performed}
use Rattle.tp_model.specs.Transactions.{Transaction, Turn, transacted}
use Rattle.tp_model.specs.Recovery.{kept_after}
use Rattle.tp_model.specs.Node.{Move, move, followed, Passage, Stays, Enters, Falls, Falls_at_once, Commits, Rolls_back, Leaves, is_over, is_leaving, passage, phase_of, may_root, has_none, chained_from, chained_peers, seen, remaining, entered, played, completed_arcs, committed_arcs, left_arcs, grants, around_grants, perform_commit, transact, turned, start_root, try_start}
use Rattle.tp_model.specs.Events.{needs_numbers, is_past_numbers, some_past_numbers}
use Rattle.tp_steps.specs.Moves.{IsPut, are_apart, is_apart_record}
use Rattle.tp_steps.proofs.links.Apart.{apart_turn}
use Rattle.tp_steps.proofs.links.Whole.{IsWhole, whole_turn}
use Rattle.tp_steps.proofs.links.Linked.{parts_apart}
use Rattle.tp_steps.proofs.lemmas.Equality.{and_left, and_right}

-- ---- outputs where there are no arcs

pub none_left : (outs : List TxOut) → (performed [] outs).0 ≡ []
none_left [] = refl
none_left (TxOut.Tell i ∷ outs) = none_left outs
none_left (TxOut.Carry p r ∷ outs) = none_left outs
none_left (TxOut.Shut p ∷ outs) = none_left outs
none_left (TxOut.Recovery a r ∷ outs) = none_left outs
none_left (TxOut.Close p ∷ outs) = none_left outs

past_record : (a : _) (r : PeerRecord) → is_apart_record r ≡ true → is_past_numbers (Out.Send a r) ≡ false
past_record a (PeerRecord.OnAssoc x y q r) h = absurd (cc (h))
past_record a _ h = refl

pub none_past : (outs : List TxOut) → are_apart outs ≡ true → some_past_numbers (performed [] outs).1 ≡ false
none_past [] h = refl
none_past (TxOut.Tell i ∷ outs) h = none_past outs h
none_past (TxOut.Carry p r ∷ outs) h = none_past outs h
none_past (TxOut.Shut p ∷ outs) h = none_past outs h
none_past (TxOut.Recovery a r ∷ outs) h = let one = past_record a r (and_left (is_apart_record r) (are_apart outs) h) in let rest = none_past outs (and_right (is_apart_record r) (are_apart outs) h) in grind (arith, one, rest)
none_past (TxOut.Close p ∷ outs) h = none_past outs h

pub past_more : (xs ys : List Out) → some_past_numbers (xs ++ ys) ≡ (some_past_numbers xs || some_past_numbers ys)
past_more [] ys = refl
past_more (x ∷ xs) ys = grind (arith, past_more xs ys)

-- ---- a turn

entered_none : (t : Transaction) (w : Passage) → entered t w [] ≡ []
unfolding entered
entered_none t Stays = refl
entered_none t Enters = refl
entered_none t Falls = refl
entered_none t Falls_at_once = refl
entered_none t Commits = refl
entered_none t Rolls_back = refl
entered_none t Leaves = refl

-- no arcs are left, and no record has a number
abbrev IsPlain : List Arc × List Out → Type 0
IsPlain p = (p.0 ≡ []) × (some_past_numbers p.1 ≡ false)

done_plain : (outs : List TxOut) (arcs : List Arc) → are_apart outs ≡ true → arcs ≡ [] → IsPlain (performed arcs outs)
done_plain outs arcs h i = rw i (none_left outs, none_past outs h)

committed_plain : (d : Digest) (t : Transaction) (a : Turn) → IsWhole a → are_apart a.outs ≡ true → IsPlain (perform_commit d t (around_grants a) [])
committed_plain d t a whole h = (
  last.0,
  past_more (first.1 ++ given.1) (performed given.0 parts.1).1
      ∙ both (some_past_numbers (first.1 ++ given.1)) (some_past_numbers (performed given.0 parts.1).1) (past_more first.1 given.1 ∙ both (some_past_numbers first.1) (some_past_numbers given.1) one two.1) last.1,
)
  where
    parts : List TxOut × List TxOut
    parts = around_grants a

    apart : (are_apart parts.0 && are_apart parts.1) ≡ true
    apart = parts_apart parts (ap are_apart whole ∙ h)

    first : List Arc × List Out
    first = performed [] parts.0

    given : List Arc × List Out
    given = performed (committed_arcs d t first.0) (grants t first.0)

    one : some_past_numbers first.1 ≡ false
    one = none_past parts.0 (and_left (are_apart parts.0) (are_apart parts.1) apart)

    two : IsPlain given
    two = subst (λ (arcs : List Arc). IsPlain (performed (committed_arcs d t arcs) (grants t arcs))) (sym (none_left parts.0)) (refl, refl)

    last : IsPlain (performed given.0 parts.1)
    last = done_plain parts.1 given.0 (and_right (are_apart parts.0) (are_apart parts.1) apart) two.0

    both : (x y : Bool) → x ≡ false → y ≡ false → (x || y) ≡ false
    both x y i j = rw (i, j) refl

played_plain : (d : Digest) (t : Transaction) (w : Passage) (a : Turn) → IsWhole a → are_apart a.outs ≡ true → IsPlain (played d t w a [])
unfolding played
played_plain d t Falls_at_once a whole h = (ap (completed_arcs d t Outcome.Rollback) (none_left a.outs), none_past a.outs h)
played_plain d t Commits a whole h = committed_plain d t a whole h
played_plain d t Rolls_back a whole h = (ap (completed_arcs d t Outcome.Rollback) (none_left a.outs), none_past a.outs h)
played_plain d t Leaves a whole h = (ap (left_arcs t) (none_left a.outs), none_past a.outs h)
played_plain d t Stays a whole h = (none_left a.outs, none_past a.outs h)
played_plain d t Enters a whole h = (none_left a.outs, none_past a.outs h)
played_plain d t Falls a whole h = (none_left a.outs, none_past a.outs h)

idle_start : (who : Who) (d : Digest) → d.arcs ≡ [] → try_start who d ≡ move [] d
unfolding try_start
idle_start who d none = go (is_nil (phase_of d)) (may_root d)
  where
    peers : has_none (chained_peers who d) ≡ true
    peers = ap (λ (arcs : List Arc). has_none (chained_from who d arcs)) none

    go : (a b : Bool) → (if a && b && not (has_none (chained_peers who d)) then start_root who [] d else move [] d) ≡ move [] d
    go a b = rw peers (off a b)
      where
        off : (a b : Bool) → (if a && b && false then start_root who [] d else move [] d) ≡ move [] d
        off true true = refl
        off true false = refl
        off false b = refl

-- what an event leaves of a transaction, with what it logs
abbrev pub left_by : Who → TxEvent → Digest → Current → Digest
left_by who f d c =
    let a : Turn = transacted f (seen who [] c) in
    record d { arcs = []; current = remaining a.next; kept = kept_after a.rec d.kept }

pub record Turned (who : Who) (f : TxEvent) (d : Digest) (c : Current) : Type 0 where
  pub next : (transact who f d).next ≡ left_by who f d c
  pub numbers : d.drawn ≤ greatest → needs_numbers (transact who f d) ≡ false

pub enough : (n : ℕ) (b : Bool) → n ≤ greatest → b ≡ false → (nat_lt greatest n || b) ≡ false
enough n b h i = grind (arith, nat_tests, h, i)

quiet_at : (who : Who) (f : TxEvent) (d : Digest) (c : Current) → IsPut f (seen who [] c) → Turned who f (record d { arcs = []; current = Some c }) c
unfolding transact
quiet_at who f d c put = go (is_over w) refl
  where
    z : Digest
    z = record d { arcs = []; current = Some c }

    t : Transaction
    t = seen who [] c

    a : Turn
    a = transacted f t

    w : Passage
    w = passage (is_leaving f) c.phase a.next.phase

    plain : IsPlain (played z t w a (entered t w []))
    plain = subst (λ (arcs : List Arc). IsPlain (played z t w a arcs)) (sym (entered_none t w)) (played_plain z t w a (whole_turn f t) (apart_turn f t put))

    m : Move
    m = turned who f z c

    left : m.next ≡ left_by who f z c
    left = ap (λ (arcs : List Arc). let x : Digest = record z { arcs = arcs; current = remaining a.next; kept = kept_after a.rec d.kept } in x) plain.0

    start : try_start who m.next ≡ move [] m.next
    start = idle_start who m.next plain.0

    go : (b : Bool) → is_over w ≡ b → Turned who f z c
    go false i = record {
      next = ap (λ (v : Bool). (if v then followed m (try_start who) else m).next) i ∙ left;
      numbers = λ h. ap (λ (v : Bool). needs_numbers (if v then followed m (try_start who) else m)) i ∙ enough d.drawn (some_past_numbers m.outs) h plain.1;
    }
    go true i = record {
      next = ap (λ (v : Bool). (if v then followed m (try_start who) else m).next) i ∙ ap (λ (x : Move). x.next) start ∙ left;
      numbers = λ h.
          ap (λ (v : Bool). needs_numbers (if v then followed m (try_start who) else m)) i ∙ ap (λ (x : Move). nat_lt greatest x.next.drawn || some_past_numbers (m.outs ++ x.outs)) start
          ∙ enough d.drawn (some_past_numbers (m.outs ++ [])) h (past_more m.outs [] ∙ rw plain.1 refl);
    }

pub quiet_turn : (who : Who) (f : TxEvent) (d : Digest) (c : Current) → d.arcs ≡ [] → d.current ≡ Some c → IsPut f (seen who [] c) → Turned who f d c
quiet_turn who f d c none at put = subst (λ (x : Digest). Turned who f x c) (sym same) (quiet_at who f d c put)
  where
    same : ◌≡◌ {A = Digest} d (record d { arcs = []; current = Some c })
    same =
        let one : ◌≡◌ {A = Digest} d (record d { arcs = [] }) = ap (λ (arcs : List Arc). let x : Digest = record d { arcs = arcs } in x) none in
        one ∙ ap (λ (o : Option Current). let x : Digest = record d { arcs = []; current = o } in x) at
