-- A course of fewer than three rules, and one whose first rule says nothing.
use Rattle.std.proofs.Common.{◌≡◌, ◌∙◌, Option, Some, None, List, [], ◌++◌, ap, refl, sym, arith, append-nil, append_assoc, ℕ, Bool, true, false, ◌∷◌, ◌&&◌, if◌then◌else◌}
use Rattle.tp_logrec.specs.declared.record.LogRec.{LogRec}
use Rattle.tp_model.specs.Transactions.{Transaction, Turn, turn, and_then, step_of, Completion, no_completion, part_by_part, before, with_arc_lost, roll, lost_arc, complete, complete_commit, complete_rollback}
use Rattle.tp_model.specs.declared.transaction.Step.{Step}
use Rattle.tp_commit.specs.declared.rule.Rule.{Rule}
use Rattle.tp_commit.specs.declared.rule.Course.{Course}
use Rattle.tp_model.specs.declared.transaction.TxOut.{TxOut}
use Rattle.tp_commit.specs.Rules.{turn_of, run, later, is_needed, completion, IsAlong}
use Rattle.tp_names.specs.declared.no_memory.NoMemory.{NoMemory}
use Rattle.std.specs.Prelude.{Result, Ok, Err, OnErr}
use Rattle.tp_model.specs.declared.arc.Phase.{Phase}
use Rattle.tp_model.specs.Dialogues.{is_active, is_rolling}

-- nothing after a rule
no_more : (c : Completion) → part_by_part c (no_completion []) ≡ c
no_more c = λ i. record {
  before = append-nil c.before i;
  forgets = append-nil c.forgets i;
  done = append-nil c.done i;
  told = append-nil c.told i;
  ends_down = append-nil c.ends_down i;
  end_up = append-nil c.end_up i;
}

then_nothing : (a : Turn) → and_then a (turn []) ≡ a
then_nothing a = λ i. record { rec = a.rec; outs = append-nil a.outs i; completion = no_more a.completion i; next = a.next }

pub two_rules : (r s : Rule) (t : Transaction) → run (record { first = r; second = s; third = Rule.Nothing }) t ≡ and_then (turn_of r t) (turn_of s)
two_rules r s t = ap (λ (b : Turn). and_then (turn_of r t) (λ u. b)) (then_nothing (turn_of s (turn_of r t).next))

pub one_rule : (r : Rule) (t : Transaction) → run (record { first = r; second = Rule.Nothing; third = Rule.Nothing }) t ≡ turn_of r t
one_rule r t = then_nothing (turn_of r t)

-- outputs, and then a rule
said_first : (xs : List TxOut) (t : Transaction) (f : Transaction → Turn) → and_then (turn xs t) f ≡ before xs (f t)
said_first xs t f = ap (λ r. let b : Turn = record (before xs (f t)) { rec = r } in b) (same (f t).rec)
  where
    same : (o : Option LogRec) → elim o as (λ _. Option LogRec) [ None ↦ None | Some r ↦ Some r ] ≡ o
    same None = refl
    same (Some r) = refl

pub after_nothing : (t : Transaction) (f : Transaction → Turn) → and_then (turn [] t) f ≡ f t
after_nothing t f = said_first [] t f

-- what is told of an arc that is lost, and what its loss sets off
pub lost_first : (o : TxOut) (p : ℕ) (t : Transaction)
    → (let a = turn (o ∷ []) (with_arc_lost t p) in if is_active t.phase && is_needed t p then and_then a (roll false) else if is_rolling t.phase then and_then a complete_rollback else a) ≡ before (o ∷ []) (lost_arc p t)
unfolding lost_arc
lost_first o p t = go (is_active t.phase && is_needed t p) (is_rolling t.phase)
  where
    gone : Transaction
    gone = with_arc_lost t p

    go : (b c : Bool) → (let a = turn (o ∷ []) gone in if b then and_then a (roll false) else if c then and_then a complete_rollback else a) ≡ before (o ∷ []) (if b then roll false gone else if c then complete_rollback gone else turn [] gone)
    go true c = said_first (o ∷ []) gone (roll false)
    go false true = said_first (o ∷ []) gone complete_rollback
    go false false = refl

-- the rule by which a transaction completes
pub completes : (t : Transaction) → turn_of (completion t.phase) t ≡ complete t
completes t = go t.phase
  where
    go : (p : Phase) → turn_of (completion p) t ≡ elim p as (λ _. Turn) [ Phase.Nil ↦ turn [] t | Phase.Active ↦ turn [] t | Phase.Ready ↦ turn [] t | Phase.Committing ↦ complete_commit t | Phase.Rolling ↦ complete_rollback t ]
    go Phase.Nil = refl
    go Phase.Active = refl
    go Phase.Ready = refl
    go Phase.Committing = refl
    go Phase.Rolling = refl

-- ---- three rules, one after the other

pub nothing_said : (outs : List TxOut) → outs ≡ outs ++ []
nothing_said outs = sym (append-nil outs)

logged_in_turn : (a b c : Option LogRec) → later (later (later None a) b) c ≡ later a (later b c)
logged_in_turn a b (Some r) = refl
logged_in_turn a (Some r) None = refl
logged_in_turn (Some r) None None = refl
logged_in_turn None None None = refl

in_turn : (a b c : Turn) (s : Step) → s.rec ≡ later (later (later None a.rec) b.rec) c.rec → s.outs ≡ a.outs ++ b.outs ++ c.outs → s ≡ record { rec = later a.rec (later b.rec c.rec); outs = a.outs ++ (b.outs ++ c.outs) }
in_turn a b c s rec outs = grind (arith, rec, outs, logged_in_turn a.rec b.rec c.rec, append_assoc a.outs b.outs c.outs)

-- the step of three rules, each at what the one before it leaves, put where nothing stands
pub followed : (c : Course) (t u v : Transaction) (s x y z : Step) → s.rec ≡ None → s.outs ≡ [] → u ≡ (turn_of c.first t).next → x.rec ≡ later s.rec (turn_of c.first t).rec → x.outs ≡ s.outs ++ (turn_of c.first t).outs → v ≡ (turn_of c.second u).next → y.rec ≡ later x.rec (turn_of c.second u).rec → y.outs ≡ x.outs ++ (turn_of c.second u).outs → z.rec ≡ later y.rec (turn_of c.third v).rec → z.outs ≡ y.outs ++ (turn_of c.third v).outs → z ≡ step_of (run c t)
followed c t u v s x y z unlogged unsaid next1 rec1 outs1 next2 rec2 outs2 rec3 outs3 =
    let a : Turn = turn_of c.first t in
    let b : Turn = turn_of c.second a.next in
    let d : Turn = turn_of c.third b.next in
    in_turn a b d z (grind (arith, unlogged, next1, rec1, next2, rec2, rec3)) (grind (arith, unsaid, next1, outs1, next2, outs2, outs3))

-- ---- where a course stops

pub stops_first : (r : Result (Unit {0}) NoMemory) (c : Course) (t u : Transaction) → u ≡ t → OnErr r (IsAlong c t u)
stops_first (Ok x) c t u is = tt
stops_first (Err e) c t u is = (0, is)

pub stops_second : (r : Result (Unit {0}) NoMemory) (c : Course) (t u v : Transaction) → u ≡ (turn_of c.first t).next → v ≡ u → OnErr r (IsAlong c t v)
stops_second (Ok x) c t u v one is = tt
stops_second (Err e) c t u v one is = (1, is ∙ one)

pub stops_third : (r : Result (Unit {0}) NoMemory) (c : Course) (t u v w : Transaction) → u ≡ (turn_of c.first t).next → v ≡ (turn_of c.second u).next → w ≡ v → OnErr r (IsAlong c t w)
stops_third (Ok x) c t u v w one two is = tt
stops_third (Err e) c t u v w one two is = (2, is ∙ two ∙ ap (λ (x : Transaction). (turn_of c.second x).next) one)
