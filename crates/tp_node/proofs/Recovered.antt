-- What a record of the log makes of a node's current transaction, as the code recovers it.
use Rattle.std.proofs.Common.{◌≡◌, ℕ, true, Option, Some, None, List, [], ◌∷◌, refl, ap, ◌∙◌}
use Rattle.std.specs.Option.{option_map}
use Rattle.tp_names.specs.declared.identifiers.Addr.{Addr}
use Rattle.tp_names.specs.declared.identifiers.BranchId.{BranchId}
use Rattle.tp_names.specs.declared.identifiers.NodeKey.{NodeKey}
use Rattle.tp_names.specs.declared.children.Child.{Child}
use Rattle.tp_names.specs.declared.outcome.Outcome.{Outcome}
use Rattle.tp_logrec.specs.declared.record.LogRec.{LogRec}
use Rattle.tp_model.specs.declared.arc.Phase.{Phase}
use Rattle.tp_model.specs.Parts.{Current, Branch}
use Rattle.tp_logrec.specs.Order.{is_commit, is_ready}
use Rattle.tp_model.specs.Transactions.{Transaction, fresh_branch}
use Rattle.tp_model.specs.Node.{branches_of}
use Rattle.tp_model.specs.Events.{fresh_branches, recovered, current_by, decision_of}
use Rattle.tp_commit.specs.Branch.{idle_rows, key_from, has_superior, found, found_by, tells_transaction}
use Rattle.tp_node.specs.Node.{current_of}

rows_again : (cs : List Child) → branches_of (idle_rows cs) ≡ fresh_branches cs
rows_again [] = refl
rows_again (c ∷ cs) = ap (λ (bs : List Branch). fresh_branch c ∷ bs) (rows_again cs)

found_again : (n : ℕ) (k : NodeKey) (s : Option Addr) (p : Phase) (cs : List Child) (o : Option Outcome) → current_of (found n (key_from k s) p cs o) ≡ recovered (key_from k s) p (fresh_branches cs) o
found_again n k s p cs o = ap (λ (bs : List Branch). recovered (key_from k s) p bs o) (rows_again cs)

commit_again : (n : ℕ) (k : NodeKey) (s : Option Addr) (cs : List Child) (c : Option Current) → has_superior k s ≡ true → option_map current_of (found_by (LogRec.Commit n k s cs) (decision_of c)) ≡ current_by (LogRec.Commit n k s cs) c
commit_again n k s cs c h = go k.branch s refl refl
  where
    go : (b : Option BranchId) (a : Option Addr) → k.branch ≡ b → s ≡ a → option_map current_of (found_by (LogRec.Commit n k s cs) (decision_of c)) ≡ current_by (LogRec.Commit n k s cs) c
    go None a i j = ap (λ (x : Current). Some x) (found_again n k s Phase.Committing cs (decision_of c)) ∙ rw (i) refl
    go (Some b) None i j = absurd (cc (h, i, j))
    go (Some b) (Some a) i j = ap (λ (x : Current). Some x) (found_again n k s Phase.Committing cs (decision_of c)) ∙ rw (i, j) refl

ready_again : (n : ℕ) (k : NodeKey) (a : Addr) (cs : List Child) (c : Option Current) → option_map current_of (found_by (LogRec.Ready n k a cs) None) ≡ current_by (LogRec.Ready n k a cs) c
ready_again n k a cs c = go k.branch refl
  where
    go : (b : Option BranchId) → k.branch ≡ b → option_map current_of (found_by (LogRec.Ready n k a cs) None) ≡ current_by (LogRec.Ready n k a cs) c
    go None i = ap (λ (x : Current). Some x) (found_again n k (Some a) Phase.Ready cs None) ∙ rw (i) refl
    go (Some b) i = ap (λ (x : Current). Some x) (found_again n k (Some a) Phase.Ready cs None) ∙ rw (i) refl

pub told_by_commit : (r : LogRec) (c : Option Current) (b : Transaction) → is_commit r ≡ true → tells_transaction r ≡ true → Some b ≡ found_by r (decision_of c) → Some (current_of b) ≡ current_by r c
told_by_commit (LogRec.Commit n k s cs) c b h t is = ap (λ (x : Option Transaction). option_map current_of x) is ∙ commit_again n k s cs c t
told_by_commit (LogRec.Boot n) c b h t is = absurd (cc (h))
told_by_commit (LogRec.Ready n k s cs) c b h t is = absurd (cc (h))
told_by_commit (LogRec.Heuristic n k o) c b h t is = absurd (cc (h))
told_by_commit (LogRec.Damage n k s o r cs) c b h t is = absurd (cc (h))
told_by_commit (LogRec.End n k o) c b h t is = absurd (cc (h))

pub told_by_ready : (r : LogRec) (c : Option Current) (b : Transaction) → is_ready r ≡ true → Some b ≡ found_by r None → Some (current_of b) ≡ current_by r c
told_by_ready (LogRec.Ready n k a cs) c b h is = ap (λ (x : Option Transaction). option_map current_of x) is ∙ ready_again n k a cs c
told_by_ready (LogRec.Boot n) c b h is = absurd (cc (h))
told_by_ready (LogRec.Commit n k s cs) c b h is = absurd (cc (h))
told_by_ready (LogRec.Heuristic n k o) c b h is = absurd (cc (h))
told_by_ready (LogRec.Damage n k s o r cs) c b h is = absurd (cc (h))
told_by_ready (LogRec.End n k o) c b h is = absurd (cc (h))
