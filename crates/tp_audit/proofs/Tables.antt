-- A table by trees, after the first entries of one tree are written.
use Rattle.std.proofs.Common.{◌≡◌, Bool, true, false, refl, ap, ◌∙◌, Option, Some, None, List}
use Rattle.std.specs.Prelude.{cond}
use Rattle.std.specs.Map.{lookup}
use Rattle.tp_names.specs.declared.identifiers.Aaid.{Aaid}
use Rattle.tp_names.specs.Same.{is_aaid}
use Rattle.tp_audit.specs.declared.keys.TreeKey.{TreeKey}
use Rattle.tp_audit.specs.declared.firsts.Firsts.{Firsts}
use Rattle.tp_audit.specs.Keys.{is_tree, tree_key}
use Rattle.tp_audit.specs.Ledgers.{no_firsts, firsts_at}

abbrev pub or_no_firsts : Option Firsts → Firsts
or_no_firsts o = elim o [ None ↦ no_firsts | Some f ↦ f ]

pub put_at : (old new : List (TreeKey × Firsts)) (a : Aaid) (v : Firsts)
    → ((q : TreeKey) → lookup (is_tree q) new ≡ cond (is_tree (tree_key a) q) (Some v) (lookup (is_tree q) old))
    → (t : Aaid) → firsts_at new t ≡ cond (is_aaid a t) v (firsts_at old t)
put_at old new a v at t = ap or_no_firsts (at (tree_key t)) ∙ go (is_aaid a t)
  where
    go : (b : Bool) → or_no_firsts (cond b (Some v) (lookup (is_tree (tree_key t)) old)) ≡ cond b v (firsts_at old t)
    go true = refl
    go false = refl

pub found_at : (ts : List (TreeKey × Firsts)) (a : Aaid) (o : Option Firsts) → o ≡ lookup (is_tree (tree_key a)) ts → or_no_firsts o ≡ firsts_at ts a
found_at ts a o is = ap or_no_firsts is
