use Rattle.std.proofs.Common.{◌≡◌, ◌+◌, ◌∙◌, ap, sym, subst, Option, Some, None, ◌++◌}
use Rattle.std.specs.Prelude.{cond}
use Rattle.tp_names.specs.declared.identifiers.Aaid.{Aaid}
use Rattle.tp_names.specs.declared.identifiers.Addr.{Addr}
use Rattle.tp_names.specs.declared.identifiers.NodeKey.{NodeKey}
use Rattle.tp_names.specs.Same.{is_aaid}
use Rattle.tp_audit.specs.declared.firsts.Place.{Place}
use Rattle.tp_audit.specs.Entries.{addr_of, tree_of}
use Rattle.tp_audit.specs.Verdicts.{settled_of}
use Rattle.tp_audit.specs.Doubts.{superior_of}
use Rattle.tp_audit.specs.Summaries.{settled_by, doubted_by}
use Rattle.tp_audit.specs.Ledgers.{IsLedgerOf, doubts_by, firsts_with, firsts_at, clash_by, first_of, other}
use Rattle.tp_audit.proofs.Entering.{entered_end, entered_open}
use Rattle.tp_audit.proofs.ledger.Ledger.enter.Goals as goal
use Rattle.tp_audit.proofs.ledger.Ledger.enter.Goals.{in-Some, in_default}

pub returns-clause-entered : goal.returns-clause-entered
returns-clause-entered c = λ es e is at key summary.
    let inside = c.self.inside in
    let old = subst (IsLedgerOf es) (sym c.self.view_is) is in
    let doubted : c.doubted.result ≡ superior_of e.records = c.doubted.ensures ∙ ap doubted_by (sym summary) in
    let items : c.add_doubt.new.doubts.items ≡ inside.doubts.items ++ doubts_by (addr_of e) e.owner.key (superior_of e.records) =
    c.add_doubt.ensures.items ∙ ap (λ (a : Addr). inside.doubts.items ++ doubts_by a c.args.key.now c.doubted.result) (sym at)
    ∙ ap (λ (k : NodeKey). inside.doubts.items ++ doubts_by (addr_of e) k c.doubted.result) (sym key)
    ∙ ap (λ (s : Option Addr). inside.doubts.items ++ doubts_by (addr_of e) e.owner.key s) doubted in
    let tree : tree_of e ≡ c.args.key.now.aaid = ap (λ (k : NodeKey). k.aaid) key in
    elim c.match-settled.branch [
      | in-Some w ↦ (
          let o = w.in-Some.outcome in
          let p : Place = record { number = inside.count; node = c.args.node.now } in
          let new = w.note-before.new.trees.entries in
          let settled : settled_of e.records ≡ Some o = ap settled_by summary ∙ sym c.settled.ensures ∙ w.in-Some.is in
          entered_end es e o _ _ w.note-before.result p old settled
          (ap (λ l. l.count + 1) w.self-inside-is)
          (ap (λ (a : Addr). let q : Place = record { number = inside.count; node = a } in q) (sym at))
          (w.note-before.ensures.before ∙ ap (firsts_at inside.trees.entries) (sym tree))
          (λ t. ap (λ l. firsts_at l.trees.entries t) w.self-inside-is ∙ w.note-before.ensures.after t
          ∙ ap (λ (u : Aaid). cond (is_aaid u t) (firsts_with w.note-before.result o p) (firsts_at inside.trees.entries t)) (sym tree))
          (ap (λ l. l.clash) w.self-inside-is ∙ w.clash_after-self-inside.ensures
          ∙ ap (λ (u : Aaid). clash_by inside.clash (first_of o w.note-before.result) (first_of (other o) w.note-before.result) u c.args.node.now) (sym tree)
          ∙ ap (clash_by inside.clash (first_of o w.note-before.result) (first_of (other o) w.note-before.result) (tree_of e)) (sym at))
          (ap (λ l. l.doubts.items) w.self-inside-is ∙ items)
          )
      | in_default w ↦ (
          let settled : settled_of e.records ≡ None = ap settled_by summary ∙ sym c.settled.ensures ∙ w.in_default.is in
          entered_open es e _ _ old settled (ap (λ l. l.count + 1) w.self-inside-is) (ap (λ l. l.trees.entries) w.self-inside-is) (ap (λ l. l.clash) w.self-inside-is)
          (ap (λ l. l.doubts.items) w.self-inside-is ∙ items)
          )
    ]
