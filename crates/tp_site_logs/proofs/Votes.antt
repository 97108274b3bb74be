-- No root votes: a node forces a Ready for a branch alone. An instance of the steps of a turn, and of those of a node.
use Rattle.tp_site_logs.proofs.Vocabulary.{◌≡◌, Bool, true, false, refl, ap, subst, arith, Option, Some, None, List, [], ◌∷◌, if◌then◌else◌, not, Addr, LogRec, Origin, Event, Entry, Digest, digest, IsGrown}
use Rattle.tp_names.specs.declared.outcome.Outcome.{Outcome}
use Rattle.tp_names.specs.declared.outcome.Report.{Report}
use Rattle.tp_model.specs.declared.transaction.TxEvent.{TxEvent}
use Rattle.tp_model.specs.declared.recovery.Kept.{Kept}
use Rattle.tp_model.specs.declared.recovery.KeptEvent.{KeptEvent}
use Rattle.tp_model.specs.Parts.{Who, Key, Root, Under}
use Rattle.tp_model.specs.Dialogues.{is_ready}
use Rattle.tp_model.specs.Transactions.{Transaction, log_ready, log_end, log_damage, is_own_commit, complete_commit, complete_rollback, begin_rolling, order, ask_commit, leave, count_branch, end_branch, branch_left}
use Rattle.tp_model.specs.Recovery.{settled}
use Rattle.tp_model.specs.Node.{Move, seen}
use Rattle.tp_steps.specs.Turns.{Turns, vote}
use Rattle.tp_steps.specs.Moves.{Moves, prelude}
use Rattle.tp_steps.proofs.every.EveryTurn.{every_turn}
use Rattle.tp_steps.proofs.every.EveryEvent.{every_move}
use Rattle.tp_steps.proofs.every.BeginCases.{begin_cases}
use Rattle.tp_histories.proofs.trees.Late.{late_law}
use Rattle.tp_site_logs.specs.SiteLogs.{is_vote_of_branch}

abbrev pub IsVote : Option LogRec → Type 0
IsVote None = Unit {0}
IsVote (Some r) = is_vote_of_branch r ≡ true

vote_then : (x y : Option LogRec) → IsVote x → IsVote y → IsVote (elim y as (λ _. Option LogRec) [ None ↦ x | Some r ↦ Some r ])
vote_then x None h i = h
vote_then x (Some r) h i = i

-- ---- turns

voted : (t : Transaction) → IsVote (vote t).rec
voted t = go t.key
  where
    go : (k : Key) → IsVote (log_ready (record t { key = k }))
    go (Root a) = tt
    go (Under a b s) = refl

vote_rolls : (asked : Bool) (t : Transaction) → IsVote (begin_rolling asked t).rec
unfolding begin_rolling
vote_rolls asked t = go (not (is_ready t.phase)) (is_own_commit t)
  where
    go : (b c : Bool) → IsVote (if b then None else if c then Some (log_damage t Outcome.Rollback Report.Mix []) else Some (log_end t Outcome.Rollback))
    go true c = tt
    go false true = refl
    go false false = refl

vote_completes : (t : Transaction) → IsVote (complete_commit t).rec
unfolding complete_commit
vote_completes t = go (complete_commit t).rec refl
  where
    go : (r : Option LogRec) → (complete_commit t).rec ≡ r → IsVote r
    go None h = tt
    go (Some (LogRec.Ready n k s cs)) h = absurd (grind (arith, h))
    go (Some (LogRec.Boot m)) h = refl
    go (Some (LogRec.Heuristic n k o)) h = refl
    go (Some (LogRec.Commit n k s cs)) h = refl
    go (Some (LogRec.Damage n k s o w cs)) h = refl
    go (Some (LogRec.End n k o)) h = refl

vote_unrolls : (t : Transaction) → IsVote (complete_rollback t).rec
unfolding complete_rollback
vote_unrolls t = rw (quiet t) tt
  where
    quiet : (t : Transaction) → (complete_rollback t).rec ≡ None
    quiet t = grind arith

vote_turns : (e : TxEvent) (s : Transaction) → Turns e s (λ t a. IsVote a.rec)
unfolding order ask_commit leave count_branch end_branch branch_left
vote_turns e s = record {
  still = λ t. tt;
  first = λ t u outs a one two. two;
  chain = λ t a f one two none. vote_then a.rec (f a.next).rec one two;
  tells = λ t i n. tt;
  notes_prepare = λ pr cl. tt;
  notes_done = λ is. tt;
  notes_end = λ q is. tt;
  notes_rollback = λ ro cl. tt;
  defers_end = λ q is. tt;
  defers_grant = λ q is. tt;
  prepares = λ q. tt;
  asks = λ is act asked told. tt;
  asks_again = tt;
  decides = λ o is ready. refl;
  aborts = λ q is. tt;
  loses_arc = λ q gone. tt;
  closes_left = λ q is. tt;
  gives_up = λ q r is c found. tt;
  counts = λ q is act row. tt;
  ends_done = λ q r is c row. tt;
  ends_replied = λ b w r is found o. tt;
  ends_rolled = λ q r is c row. tt;
  leaves_below = λ q w t is left at act. tt;
  leaves_rolling = λ q w t is left at c. tt;
  votes = λ t act asked all under. voted t;
  orders_root = λ t act asked all root. refl;
  orders_ready = λ ready is. refl;
  rolls = λ t asked f ok. vote_rolls asked t;
  completes_commit = λ t c. vote_completes t;
  completes_rollback = λ t c. vote_unrolls t;
  leaves = λ is act under asked all. tt;
}

-- ---- events of a node

vote_settled : (k : Kept) (f : KeptEvent) → IsVote (settled k f).rec
unfolding settled
vote_settled k f = go (settled k f).rec refl
  where
    go : (r : Option LogRec) → (settled k f).rec ≡ r → IsVote r
    go None h = tt
    go (Some (LogRec.Ready n j s cs)) h = absurd (grind (arith, h))
    go (Some (LogRec.Boot m)) h = refl
    go (Some (LogRec.Heuristic n j o)) h = refl
    go (Some (LogRec.Commit n j s cs)) h = refl
    go (Some (LogRec.Damage n j s o w cs)) h = refl
    go (Some (LogRec.End n j o)) h = refl

vote_moves : (who : Who) (e : Event) (s : Digest) → Moves who e s (λ d m. IsVote m.rec)
vote_moves who e s = record {
  still = λ d. tt;
  chain = λ d a f one two quiet. vote_then a.rec (f a.next).rec one two;
  speaks = λ d outs k own said. tt;
  changes_dialogue = λ d p f m by one. one;
  drops_arc = λ d p m at one. one;
  notes_kept = λ d ks m held one. one;
  keeps = λ d k f held. vote_settled k f;
  turns = λ d c f now at asked put gone. every_turn f (seen who d.arcs c) (λ t a. IsVote a.rec) (vote_turns f (seen who d.arcs c)) put;
  begins = λ d p free. begin_cases (λ (m : Move). IsVote m.rec) who p d tt (λ c a now found may. tt);
  roots = λ d m nil may one. one;
}

pub vote_entry : (o : Origin) (up : Option Addr) (h : List Entry) (e : Entry) → IsGrown o up (e ∷ h) → IsVote e.rec
vote_entry o up h e grown =
    let d : Digest = digest o h in
    subst IsVote (ap (λ (x : Entry). x.rec) grown.1) (every_move o.who d e.event (λ d m. IsVote m.rec) (vote_moves o.who e.event (prelude o.who d e.event)) (late_law o up h grown.3) grown.0)
