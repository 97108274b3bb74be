use Rattle.std.proofs.Common.{◌≡◌, ◌++◌, ◌∷◌, [], ◌<◌, ℕ, ap, refl, sym, subst, ◌∙◌, List, Some, length}
use Rattle.std.specs.Prelude.{nat_eq}
use Rattle.std.specs.Map.{lookup}
use Rattle.tp_network.specs.Nodes.{IsNoted, IsRun, place_in, place_of_number}
use Rattle.tp_network.specs.declared.nodes.NodeSlot.{NodeSlot}
use Rattle.tp_network.proofs.Numbers.{places_more, within_more}
use Rattle.tp_network.proofs.nodes.Nodes.declare.Goals as goal

pub invariant_of-self-2 : goal.invariant_of-self-2
invariant_of-self-2 c =
    let v = c.self.inside in
    let xs = v.items.items in
    let es = v.places.entries in
    let new = c.note.new.places.entries in
    let x : NodeSlot = record { addr = c.args.addr; superior = c.args.superior; summaries = c.new.result } in
    let items : c.push.new.self.items ≡ xs ++ x ∷ [] = c.in_ok-push.ensures.items ∙ ap (λ (l : List NodeSlot). l ++ x ∷ []) c.in_ok-reserve.ensures.items in
    let noted : IsNoted es x.addr.node (length xs) new = subst (λ (p : ℕ). IsNoted es x.addr.node p new) (c.count-place.ensures ∙ ap (λ (l : List NodeSlot). length l) (sym c.self.view_is)) c.in_ok-note.ensures.ok in
    record {
      place = subst (λ (l : List NodeSlot). (n : ℕ) → place_of_number l n ≡ place_in new (length l) n) (sym items) (places_more xs es new x c.self.invariant.place c.self.invariant.within noted);
      within = subst (λ (l : List NodeSlot). (n k : ℕ) → lookup (nat_eq n) new ≡ Some k → k < length l) (sym items) (within_more xs es new x c.self.invariant.within noted);
      run = subst (λ (l : List NodeSlot). IsRun c.with-run.result.count c.with-run.result.first l) (sym items) (c.with-run.ensures xs x (sym (c.count-place.ensures ∙ ap (λ (l : List NodeSlot). length l) (sym c.self.view_is))) refl c.self.invariant.run);
    }
