-- After every event of the transaction a Branch stands for what is known of the node.
use Rattle.std.proofs.Common.{◌≡◌, ℕ, Bool, true, false, refl, ap, sym, subst, ◌∙◌, arith, Some, None, List}
use Rattle.std.proofs.lemmas.Bool.Decides.{nat_tests}
use Rattle.tp_names.specs.declared.children.Child.{Child}
use Rattle.tp_names.specs.declared.outcome.Outcome.{Outcome}
use Rattle.tp_records.specs.declared.request.Request.{Request}
use Rattle.tp_records.specs.declared.dialogue.DialogueRecord.{DialogueRecord}
use Rattle.tp_model.specs.declared.arc.Phase.{Phase}
use Rattle.tp_model.specs.declared.transaction.TxEvent.{TxEvent}
use Rattle.tp_model.specs.Parts.{Who, Arc, Key, Root, Under, Current, Digest}
use Rattle.tp_model.specs.Dialogues.{is_nil, is_rolling}
use Rattle.tp_model.specs.Transactions.{step_of, Transaction, Turn, is_under_at, with_row, transacted, refused_user, refused_tx}
use Rattle.tp_model.specs.Node.{is_end_deferred_at, is_up_ending, seen, remaining, turned}
use Rattle.tp_commit.specs.declared.row.Note.{Note}
use Rattle.tp_commit.specs.Row.{noted}
use Rattle.tp_commit.specs.Branch.{standing}
use Rattle.tp_model.specs.AmongArcs.{IsAmongArcs, AreAlike, IsCut, IsPutOff, AreNew, Reaches, IsTakenUp}
use Rattle.tp_commit.proofs.Lasting.{lost_already, ending_already, user_goes, took_goes, lost_goes, heuristic_goes, ordered_goes, retried_goes, reply_goes}
use Rattle.tp_commit.proofs.Passages.{stays_put}
use Rattle.tp_commit.proofs.Among.{left_of, begun_among, among_alike, among_cut, among_off}
use Rattle.tp_commit.proofs.Shown.{begun_shown, arcs_are, Shows, goes_shows}
use Rattle.tp_commit.proofs.Shut.{abort_shows, left_shows, give_up_shows}
use Rattle.tp_commit.proofs.Reached.{seen_alike, reached}

-- ---- branches begin

begun_shows : (who : Who) (d : Digest) (c : Current) (cs : List Child) → IsAmongArcs d.arcs c → is_rolling c.phase ≡ false → AreNew cs d.arcs c → Shows who (TxEvent.Begun cs) d c
begun_shows who d c cs among calm new late =
    let u : Transaction = (transacted (TxEvent.Begun cs) (seen who d.arcs c)).next in
    let after : (turned who (TxEvent.Begun cs) d c).next.arcs ≡ d.arcs = arcs_are who (TxEvent.Begun cs) d c late ∙ stays_put (seen who d.arcs c) c.phase d.arcs in
    record {
      stands = subst (λ (later : List Arc). standing u ≡ seen who later (left_of u)) (sym after) (begun_shown who d.arcs c cs calm new);
      among = subst (λ (later : List Arc). IsAmongArcs later (left_of u)) (sym after) (begun_among who d.arcs c cs among calm new);
    }

-- ---- every event

user_ok : (t : Transaction) (r : Request) → refused_tx (TxEvent.User r) t ≡ None → refused_user t r ≡ None
unfolding refused_tx
user_ok t r ok = ok

user_shows : (who : Who) (d : Digest) (c : Current) (r : Request) (arcs : List Arc) → IsAmongArcs d.arcs c → Reaches (TxEvent.User r) c arcs d.arcs → IsTakenUp (TxEvent.User r) (seen who d.arcs c) → Shows who (TxEvent.User r) d c
user_shows who d c (Request.UAbort p) arcs among k ok = abort_shows who d c p among k.0
user_shows who d c (Request.DeferEnd p) arcs among k ok =
    let off : IsPutOff p arcs d.arcs = k.2 in
    goes_shows who (TxEvent.User (Request.DeferEnd p)) d c among
    (user_goes (seen who d.arcs c) (Request.DeferEnd p) refl (λ q e. absurd (cc (e)))
    (λ q e. let same : p ≡ q = cc (e) in subst (λ n. with_row (seen who d.arcs c) n (noted Note.Ending) ≡ seen who d.arcs c) same (ending_already who d.arcs c p off.ends)))
user_shows who d c r arcs among k ok =
    goes_shows who (TxEvent.User r) d c among (user_goes (seen who d.arcs c) r (user_ok (seen who d.arcs c) r ok) (λ q e. absurd (cc (e))) (λ q e. absurd (cc (e))))

above_ends : (arcs : List Arc) (k : Key) (p : ℕ) → is_under_at k p ≡ true → is_end_deferred_at arcs p ≡ true → is_up_ending arcs k ≡ true
above_ends arcs (Root t) p here off = absurd cc
above_ends arcs (Under t b a) p here off = let same : a.node ≡ p = grind (arith, nat_tests, here) in ap (is_end_deferred_at arcs) same ∙ off

took_shows : (who : Who) (d : Digest) (c : Current) (p : ℕ) (r : DialogueRecord) (arcs : List Arc) → IsAmongArcs d.arcs c → Reaches (TxEvent.Took p r) c arcs d.arcs → Shows who (TxEvent.Took p r) d c
took_shows who d c p DialogueRecord.LeftEnd arcs among k = left_shows who d c p among k.0
took_shows who d c p DialogueRecord.UAbort arcs among k =
    let cut : IsCut p arcs d.arcs = k in
    goes_shows who (TxEvent.Took p DialogueRecord.UAbort) d c among
    (took_goes (seen who d.arcs c) p DialogueRecord.UAbort (λ e. absurd (cc (e))) (λ e. lost_already who d.arcs c p cut.live cut.ends) (λ e. absurd (cc (e))))
took_shows who d c p DialogueRecord.DeferEnd arcs among k =
    let off : IsPutOff p arcs d.arcs = k.2 in
    goes_shows who (TxEvent.Took p DialogueRecord.DeferEnd) d c among
    (took_goes (seen who d.arcs c) p DialogueRecord.DeferEnd (λ e. absurd (cc (e))) (λ e. absurd (cc (e))) (λ e. above_ends d.arcs c.key p k.1 off.ends))
took_shows who d c p r arcs among k =
    goes_shows who (TxEvent.Took p r) d c among (took_goes (seen who d.arcs c) p r (λ e. absurd (cc (e))) (λ e. absurd (cc (e))) (λ e. absurd (cc (e))))

every_shows : (who : Who) (f : TxEvent) (d : Digest) (c : Current) (arcs : List Arc) → IsAmongArcs d.arcs c → Reaches f c arcs d.arcs → IsTakenUp f (seen who d.arcs c) → Shows who f d c
every_shows who (TxEvent.Begun cs) d c arcs among k ok = begun_shows who d c cs among k.0 k.1
every_shows who (TxEvent.User r) d c arcs among k ok = user_shows who d c r arcs among k ok
every_shows who (TxEvent.Took p r) d c arcs among k ok = took_shows who d c p r arcs among k
every_shows who (TxEvent.Lost p) d c arcs among k ok =
    let cut : IsCut p arcs d.arcs = k in
    goes_shows who (TxEvent.Lost p) d c among (lost_goes (seen who d.arcs c) p (lost_already who d.arcs c p cut.live cut.ends))
every_shows who (TxEvent.Heur o) d c arcs among k ok = goes_shows who (TxEvent.Heur o) d c among (heuristic_goes (seen who d.arcs c) o)
every_shows who (TxEvent.GiveUp p) d c arcs among k ok = give_up_shows who d c p among ok
every_shows who TxEvent.Ordered d c arcs among k ok = goes_shows who TxEvent.Ordered d c among (ordered_goes (seen who d.arcs c))
every_shows who (TxEvent.Reply b s) d c arcs among k ok = goes_shows who (TxEvent.Reply b s) d c among (reply_goes (seen who d.arcs c) b s)
every_shows who TxEvent.Retry d c arcs among k ok = goes_shows who TxEvent.Retry d c among (retried_goes (seen who d.arcs c))

-- ---- the conditions, at the arcs at which the event is put

all_alike : (arcs later : List Arc) (c : Current) → IsAmongArcs arcs c → AreAlike arcs later → IsAmongArcs later c
all_alike arcs later c among k = among_alike arcs later c among (λ q peer. k q)

among_now : (f : TxEvent) (arcs later : List Arc) (c : Current) → IsAmongArcs arcs c → Reaches f c arcs later → IsAmongArcs later c
among_now (TxEvent.Begun cs) arcs later c among k = all_alike arcs later c among k.2
among_now (TxEvent.User (Request.UAbort p)) arcs later c among k = all_alike arcs later c among k.1
among_now (TxEvent.User (Request.DeferEnd p)) arcs later c among k = among_off arcs later c p among k.0 k.2
among_now (TxEvent.User r) arcs later c among k = all_alike arcs later c among k
among_now (TxEvent.Took p DialogueRecord.UAbort) arcs later c among k = among_cut arcs later c p among k
among_now (TxEvent.Took p DialogueRecord.DeferEnd) arcs later c among k = among_off arcs later c p among k.0 k.2
among_now (TxEvent.Took p DialogueRecord.LeftEnd) arcs later c among k = all_alike arcs later c among k.1
among_now (TxEvent.Took p r) arcs later c among k = all_alike arcs later c among k
among_now (TxEvent.Lost p) arcs later c among k = among_cut arcs later c p among k
among_now (TxEvent.Heur o) arcs later c among k = all_alike arcs later c among k
among_now (TxEvent.GiveUp p) arcs later c among k = all_alike arcs later c among k
among_now TxEvent.Ordered arcs later c among k = all_alike arcs later c among k
among_now (TxEvent.Reply b s) arcs later c among k = all_alike arcs later c among k
among_now TxEvent.Retry arcs later c among k = all_alike arcs later c among k

-- what is refused does not hang on the arcs that an event has touched
user_taken : (who : Who) (r : Request) (arcs later : List Arc) (c : Current) → Reaches (TxEvent.User r) c arcs later → refused_tx (TxEvent.User r) (seen who arcs c) ≡ None → refused_tx (TxEvent.User r) (seen who later c) ≡ None
unfolding refused_tx
user_taken who (Request.UAbort p) arcs later c k ok = refl
user_taken who (Request.DeferEnd p) arcs later c k ok = refl
user_taken who r arcs later c k ok = subst (λ (t : Transaction). refused_user t r ≡ None) (seen_alike who arcs later c (λ q h. k q)) ok

given_up_taken : (who : Who) (p : ℕ) (arcs later : List Arc) (c : Current) → AreAlike arcs later → refused_tx (TxEvent.GiveUp p) (seen who arcs c) ≡ None → refused_tx (TxEvent.GiveUp p) (seen who later c) ≡ None
given_up_taken who p arcs later c k ok = subst (λ (t : Transaction). refused_tx (TxEvent.GiveUp p) t ≡ None) (seen_alike who arcs later c (λ q h. k q)) ok

heuristic_taken : (who : Who) (o : Outcome) (arcs later : List Arc) (c : Current) → AreAlike arcs later → refused_tx (TxEvent.Heur o) (seen who arcs c) ≡ None → refused_tx (TxEvent.Heur o) (seen who later c) ≡ None
heuristic_taken who o arcs later c k ok = subst (λ (t : Transaction). refused_tx (TxEvent.Heur o) t ≡ None) (seen_alike who arcs later c (λ q h. k q)) ok

taken_now : (who : Who) (f : TxEvent) (arcs later : List Arc) (c : Current) → Reaches f c arcs later → IsTakenUp f (seen who arcs c) → IsTakenUp f (seen who later c)
unfolding refused_tx
taken_now who (TxEvent.Begun cs) arcs later c k ok = ok
taken_now who (TxEvent.User r) arcs later c k ok = user_taken who r arcs later c k ok
taken_now who (TxEvent.Took p r) arcs later c k ok = tt
taken_now who (TxEvent.Lost p) arcs later c k ok = ok
taken_now who (TxEvent.Heur o) arcs later c k ok = heuristic_taken who o arcs later c k ok
taken_now who (TxEvent.GiveUp p) arcs later c k ok = given_up_taken who p arcs later c k ok
taken_now who TxEvent.Ordered arcs later c k ok = ok
taken_now who (TxEvent.Reply b s) arcs later c k ok = ok
taken_now who TxEvent.Retry arcs later c k ok = ok

-- ---- while a transaction is current

behind_is_over : (t : Transaction) → remaining t ≡ None → t.phase ≡ Phase.Nil
behind_is_over t h = go (is_nil t.phase) refl
  where
    nil : (p : Phase) → is_nil p ≡ true → p ≡ Phase.Nil
    nil Phase.Nil i = refl
    nil Phase.Active i = absurd cc
    nil Phase.Ready i = absurd cc
    nil Phase.Committing i = absurd cc
    nil Phase.Rolling i = absurd cc

    go : (b : Bool) → is_nil t.phase ≡ b → t.phase ≡ Phase.Nil
    go true i = nil t.phase i
    go false i = let some : Some (left_of t) ≡ None = rw (i, remaining) at h in absurd (cc (some))

pub behind_asks : (who : Who) (f : TxEvent) (d : Digest) (c : Current) (arcs : List Arc) → IsAmongArcs arcs c → Reaches f c arcs d.arcs → step_of (transacted f (seen who arcs c)) ≡ step_of (transacted f (seen who d.arcs c))
behind_asks who f d c arcs among k = ap step_of (reached who f arcs d.arcs c among k)

pub behind_stands : (who : Who) (f : TxEvent) (d : Digest) (c u : Current) (arcs : List Arc) → IsAmongArcs arcs c → Reaches f c arcs d.arcs → IsTakenUp f (seen who arcs c) → (turned who f d c).next.current ≡ Some u
    → (standing (transacted f (seen who arcs c)).next ≡ seen who (turned who f d c).next.arcs u) × IsAmongArcs (turned who f d c).next.arcs u
behind_stands who f d c u arcs among k ok h = go (is_nil next.phase) refl
  where
    next : Transaction
    next = (transacted f (seen who d.arcs c)).next

    go : (b : Bool) → is_nil next.phase ≡ b → (standing (transacted f (seen who arcs c)).next ≡ seen who (turned who f d c).next.arcs u) × IsAmongArcs (turned who f d c).next.arcs u
    go true i = let none : None ≡ Some u = rw (i, remaining) at h in absurd (cc (none))
    go false i =
        let some : Some (left_of next) ≡ Some u = rw (i, remaining) at h in
        let same : left_of next ≡ u = cc (some) in
        let shown = every_shows who f d c arcs (among_now f arcs d.arcs c among k) k (taken_now who f arcs d.arcs c k ok) i in (
          ap (λ (a : Turn). standing a.next) (reached who f arcs d.arcs c among k) ∙ shown.stands ∙ ap (seen who (turned who f d c).next.arcs) same,
          subst (IsAmongArcs (turned who f d c).next.arcs) same shown.among,
        )

pub behind_over : (who : Who) (f : TxEvent) (d : Digest) (c : Current) (arcs : List Arc) → IsAmongArcs arcs c → Reaches f c arcs d.arcs → (turned who f d c).next.current ≡ None → (transacted f (seen who arcs c)).next.phase ≡ Phase.Nil
behind_over who f d c arcs among k h = ap (λ (a : Turn). a.next.phase) (reached who f arcs d.arcs c among k) ∙ behind_is_over (transacted f (seen who d.arcs c)).next h
