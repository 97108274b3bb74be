-- A Begin that is planned: what it answers.
use Rattle.std.proofs.Common.{◌≡◌, ◌≤◌, ℕ, suc, true, Option, Some, None, List, [], ◌∷◌, ◌++◌, refl, ap, sym, subst, ◌∙◌, arith, Bor}
use Rattle.std.specs.Prelude.{nat_lt}
use Rattle.std.proofs.lemmas.Bool.Decides.{nat_tests}
use Rattle.tp_records.specs.declared.request.Request.{Request}
use Rattle.tp_records.specs.declared.dialogue.DialogueRecord.{DialogueRecord}
use Rattle.tp_model.specs.Parts.{Who, Current, Digest, Out}
use Rattle.tp_model.specs.Arcs.{carried}
use Rattle.tp_model.specs.Links.{greatest}
use Rattle.tp_model.specs.Requests.{begin_transaction, do_request}
use Rattle.tp_model.specs.Node.{Move, move, perform, begin_on, start_root}
use Rattle.tp_model.specs.Events.{some_past_numbers, refused_plainly}
use Rattle.tp_model.specs.Parts.{Do}
use Rattle.tp_node.specs.declared.event.NodeEvent.{NodeEvent}
use Rattle.tp_node.specs.Node.{Node}
use Rattle.tp_node.specs.Begins.{begun_on, begun_sent, can_begin}
use Rattle.tp_node.proofs.Begun.{known, begun_drawn, numbers_left}
use Rattle.tp_draft.specs.Begins.{carried_of}
use Rattle.tp_site.specs.InPlace.{IsPlanned, can_ask, asked_in_place}
use Rattle.tp_draft.proofs.Beginnings.{begin_split}

-- what goes out for it, with its record
nothing_more : (xs : List Out) → xs ++ [] ≡ xs
nothing_more [] = refl
nothing_more (x ∷ xs) = ap (λ (l : List Out). x ∷ l) (nothing_more xs)

sent_by : (p : ℕ) (b : Digest × Option DialogueRecord) → perform (carried_of p b.1) b.0 ≡ (let s : Digest × List Out = elim b.1 as (λ _. Digest × List Out) [ None ↦ (b.0, []) | Some r ↦ let t = carried b.0.arcs p r in (record b.0 { arcs = t.0 }, t.1) ] in move s.1 s.0)
sent_by p (d, None) = refl
sent_by p (d, Some r) = ap (λ (outs : List Out). move outs (record d { arcs = (carried d.arcs p r).0 })) (nothing_more (carried d.arcs p r).1)

begins : (who : Who) (p : ℕ) (d : Digest) → begin_on who p d ≡ move (begun_sent who p d).1 (begun_sent who p d).0
begins who p d = begin_split who p d ∙ sent_by p (begun_on who p d)

-- the node has a transaction
begin_is : (who : Who) (p : ℕ) (d : Digest) (c : Current) → d.current ≡ Some c → begin_transaction who p d ≡ begin_on who p d
unfolding begin_transaction
begin_is who p d c is = ap (λ (o : Option Current). elim o as (λ _. Move) [ None ↦ start_root who (p ∷ []) d | Some x ↦ begin_on who p d ]) is

drawn_now : (who : Who) (p : ℕ) (d : Digest) → (begun_sent who p d).0.drawn ≡ (begun_on who p d).0.drawn
drawn_now who p d = go (begun_on who p d)
  where
    go : (b : Digest × Option DialogueRecord) → (let s : Digest × List Out = elim b.1 as (λ _. Digest × List Out) [ None ↦ (b.0, []) | Some r ↦ let t = carried b.0.arcs p r in (record b.0 { arcs = t.0 }, t.1) ] in s.0.drawn) ≡ b.0.drawn
    go (k, None) = refl
    go (k, Some r) = refl

below : (n : ℕ) → nat_lt n greatest ≡ true → n ≤ greatest
below n h = grind (arith, nat_tests, h)

next_below : (n : ℕ) → nat_lt n greatest ≡ true → suc n ≤ greatest
next_below n h = grind (arith, nat_tests, h)

pub planned : (v : Node) (b : Bor Request) (p : ℕ) (outs : List Out) → b.now ≡ Request.BeginTransaction p → refused_plainly v.who v.digest (Do b.now) ≡ None → can_begin v.who p v.digest ≡ true → outs ≡ (begun_sent v.who p v.digest).1
    → IsPlanned v (NodeEvent.Do b) outs
planned v b p outs is ok can said =
    let who : Who = v.who in
    let d : Digest = v.digest in
    let k = known who p d can in
    record {
      refused = ok;
      sure = ap (λ (r : Request). can_ask who r d) is ∙ can;
      move =
          ap (λ (r : Request). do_request who r d) is
          ∙ begin_is who p d k.current k.there
          ∙ begins who p d
          ∙ ap (λ (l : List Out). move l (begun_sent who p d).0) (sym said)
          ∙ sym (ap (λ (r : Request). move outs (asked_in_place who r d)) is);
      drawn = below d.drawn k.mark;
      marks =
          subst (λ (n : ℕ). n ≤ greatest) (sym (ap (λ (r : Request). (asked_in_place who r d).drawn) is ∙ drawn_now who p d ∙ begun_drawn who p d can)) (next_below d.drawn k.mark);
      numbers = ap some_past_numbers said ∙ numbers_left who p d can;
      retry = refl;
    }
