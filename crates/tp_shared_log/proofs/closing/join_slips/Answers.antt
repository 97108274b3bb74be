use Rattle.std.proofs.Common.{◌≡◌, ◌++◌, ◌∷◌, [], map, subst, sym, ap, ◌∙◌}
use Rattle.std.specs.List.{All}
use Rattle.std.proofs.lemmas.List.{append_assoc, map-append}
use Rattle.std.proofs.lemmas.List.Elements.{All-tail}
use Rattle.tp_turns.specs.Turns.{lists_of}
use Rattle.tp_shared_log.specs.Shares.{Noted}
use Rattle.tp_shared_log.proofs.Added.{lists_both}
use Rattle.tp_shared_log.proofs.closing.join_slips.Goals as goal

pub loop-slip-preserved : goal.loop-slip-preserved
loop-slip-preserved g c =
    let before = c.loop-slip.invariant in
    let slip = c.in-Some.slip in
    let IsOf : Noted → Type 0 = λ s. s.of ≡ c.args.turns.now.table.shared.table_id in
    let all = subst (All IsOf) c.in-Some.ensures.steps.0 before.of in
    let own = c.into_pass.ensures.1.1 in
    let first = lists_of c.args.root.now.me.0.claims in
    let joined = ap (λ m. lists_of m.0.claims) c.join.ensures.both ∙ lists_both c.loop-slip.root.me.0.claims c.into_pass.result.me.0.claims in
    record {
      of = All-tail IsOf slip c.next.new.self.rest.items all;
      id = c.join.ensures.id ∙ before.id;
      none = ap (λ m. m.1) c.join.ensures.both ∙ before.none;
      lists = joined ∙ ap (λ ls. ls ++ lists_of c.into_pass.result.me.0.claims) before.lists
          ∙ append_assoc first (map (λ (s : Noted). s.receipts) c.loop-slip.yielded) (lists_of c.into_pass.result.me.0.claims)
          ∙ ap (λ m. first ++ (map (λ (s : Noted). s.receipts) c.loop-slip.yielded ++ lists_of m.0.claims)) own
          ∙ ap (λ ls. first ++ ls) (sym (map-append (λ (s : Noted). s.receipts) c.loop-slip.yielded (slip ∷ [])));
    }
