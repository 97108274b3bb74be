-- A turn changes whether commitment was asked for only by the user's request, and whether the superior rolled only where it is
-- heard so: an instance of the steps of a turn.
use Rattle.std.proofs.Common.{◌≡◌, ◌∙◌, ℕ, Bool, true, false, refl, arith}
use Rattle.tp_names.specs.declared.outcome.Report.{Report}
use Rattle.tp_records.specs.declared.request.Request.{Request}
use Rattle.tp_model.specs.declared.transaction.TxEvent.{TxEvent}
use Rattle.tp_model.specs.Transactions.{Row, Transaction, Turn, with_row, with_arc_lost, complete_commit, complete_rollback, begin_rolling, order, settle, ask_commit, leave, count_branch, end_branch, branch_left}
use Rattle.tp_steps.specs.Turns.{row_dead, hears_rollback, Turns}

abbrev pub KeepsFlags : Transaction → Transaction → Type 0
KeepsFlags t u = (u.asked ≡ t.asked) × (u.superior_rolled ≡ t.superior_rolled)

abbrev pub IsFlagTurn : TxEvent → Transaction → Transaction → Turn → Type 0
IsFlagTurn e s t a = ((e ≡ TxEvent.User Request.Commit → ⊥) → a.next.asked ≡ t.asked) × (hears_rollback e s ≡ false → a.next.superior_rolled ≡ t.superior_rolled)

kept_row : (t : Transaction) (q : ℕ) (f : Row → Row) → KeepsFlags t (with_row t q f)
kept_row t q f = (grind arith, grind arith)

kept_lost : (t : Transaction) (q : ℕ) → KeepsFlags t (with_arc_lost t q)
kept_lost t q = (grind (arith, kept_row), grind (arith, kept_row))

kept_order : (t : Transaction) → KeepsFlags t (order t).next
unfolding order
kept_order t = (refl, refl)

pub kept_rolls : (asked : Bool) (t : Transaction) → KeepsFlags t (begin_rolling asked t).next
unfolding begin_rolling
kept_rolls asked t = (refl, refl)

kept_completes : (t : Transaction) → KeepsFlags t (complete_commit t).next
unfolding complete_commit
kept_completes t = (grind arith, grind arith)

pub kept_unrolls : (t : Transaction) → KeepsFlags t (complete_rollback t).next
unfolding complete_rollback
kept_unrolls t = (grind arith, grind arith)

pub kept_settles : (t : Transaction) → KeepsFlags t (settle t).next
unfolding settle
kept_settles t = (grind (arith, kept_order), grind (arith, kept_order))

flags : (e : TxEvent) (s t u : Transaction) → KeepsFlags t u → ((e ≡ TxEvent.User Request.Commit → ⊥) → u.asked ≡ t.asked) × (hears_rollback e s ≡ false → u.superior_rolled ≡ t.superior_rolled)
flags e s t u k = (λ o. k.0, λ o. k.1)

flag_row : (e : TxEvent) (s t : Transaction) (q : ℕ) (f : Row → Row) → ((e ≡ TxEvent.User Request.Commit → ⊥) → (with_row t q f).asked ≡ t.asked) × (hears_rollback e s ≡ false → (with_row t q f).superior_rolled ≡ t.superior_rolled)
flag_row e s t q f = flags e s t (with_row t q f) (kept_row t q f)

pub flag_turns : (e : TxEvent) (s : Transaction) → Turns e s (IsFlagTurn e s)
unfolding ask_commit leave count_branch end_branch branch_left
flag_turns e s = record {
  still = λ t. (λ o. refl, λ o. refl);
  first = λ t u outs a one two. (λ o. two.0 o ∙ one.0 o, λ o. two.1 o ∙ one.1 o);
  chain = λ t a f one two none. (λ o. two.0 o ∙ one.0 o, λ o. two.1 o ∙ one.1 o);
  tells = λ t i n. (λ o. refl, λ o. refl);
  notes_prepare = λ pr h. (λ o. refl, λ o. refl);
  notes_done = λ is. (λ o. refl, λ o. refl);
  notes_end = λ q is. (λ o. refl, λ o. refl);
  notes_rollback = λ ro h. (λ o. refl, λ o. absurd (cc (ro, o)));
  defers_end = λ q is. flag_row e s s q (λ r. record r { ends = true });
  defers_grant = λ q is. (λ o. refl, λ o. refl);
  prepares = λ q. flag_row e s s q (λ r. record r { branch = record r.branch { prepared = true } });
  asks = λ is act asked told. (λ o. absurd (o is), λ o. refl);
  asks_again = (λ o. refl, λ o. refl);
  decides = λ d is ready. (λ o. refl, λ o. refl);
  aborts = λ q is. flags e s s (with_arc_lost s q) (kept_lost s q);
  loses_arc = λ q gone. flags e s s (with_arc_lost s q) (kept_lost s q);
  closes_left = λ q is. flag_row e s s q row_dead;
  gives_up = λ q r is c found. flag_row e s s q (λ w. record w { branch = record w.branch { given_up = true }; live = false; ends = false });
  counts = λ q is act row. flag_row e s s q (λ r. record r { branch = record r.branch { counted = true } });
  ends_done = λ q r is c row. flag_row e s s q (λ w. record w { branch = record w.branch { ended = true; report = r } });
  ends_replied = λ b w r is found o. flag_row e s s w.branch.peer.node (λ v. record v { branch = record v.branch { ended = true; report = r } });
  ends_rolled = λ q r is c row. flag_row e s s q (λ w. record w { branch = record w.branch { ended = true; report = r } });
  leaves_below = λ q w t is left at act. flag_row e s t q (λ v. record v { branch = record v.branch { left = true } });
  leaves_rolling = λ q w t is left at c. flag_row e s t q (λ v. record v { branch = record v.branch { ended = true; report = Report.None } });
  votes = λ t act asked all under. (λ o. refl, λ o. refl);
  orders_root = λ t act asked all root. flags e s t (order t).next (kept_order t);
  orders_ready = λ ready is. flags e s s (order s).next (kept_order s);
  rolls = λ t asked f ok. flags e s t (begin_rolling asked t).next (kept_rolls asked t);
  completes_commit = λ t c. flags e s t (complete_commit t).next (kept_completes t);
  completes_rollback = λ t c. flags e s t (complete_rollback t).next (kept_unrolls t);
  leaves = λ is act under asked all. (λ o. refl, λ o. refl);
}
