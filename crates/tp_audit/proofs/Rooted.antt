-- The trees of whose roots a log has a Commit, with one record more.
use Rattle.std.proofs.Common.{◌≡◌, Some, None, Option, refl, ap, sym, ◌∙◌, Bool, true, false}
use Rattle.std.specs.Prelude.{◌||◌, cond}
use Rattle.tp_names.specs.declared.identifiers.Aaid.{Aaid}
use Rattle.tp_names.specs.Same.{is_aaid}
use Rattle.tp_logrec.specs.declared.record.LogRec.{LogRec}
use Rattle.tp_audit.specs.Roots.{tree_committed, is_root_commit}

pub or_false : (b : Bool) → b ≡ (b || false)
or_false true = refl
or_false false = refl

put_or : (b before : Bool) → cond b true before ≡ (before || b)
put_or true true = refl
put_or true false = refl
put_or false true = refl
put_or false false = refl

pub after_commit : (t u : Aaid) (before : Bool) (r : LogRec) → tree_committed r ≡ Some u → cond (is_aaid u t) true before ≡ (before || is_root_commit t r)
after_commit t u before r is = put_or (is_aaid u t) before ∙ ap (λ (o : Option Aaid). before || elim o as (λ _. Bool) [ None ↦ false | Some v ↦ is_aaid v t ]) (sym is)

pub after_other : (t : Aaid) (before : Bool) (r : LogRec) → tree_committed r ≡ None → before ≡ (before || is_root_commit t r)
after_other t before r is = or_false before ∙ ap (λ (o : Option Aaid). before || elim o as (λ _. Bool) [ None ↦ false | Some v ↦ is_aaid v t ]) (sym is)

pub or_assoc : (a b c : Bool) → ((a || b) || c) ≡ (a || (b || c))
or_assoc true b c = refl
or_assoc false b c = refl
