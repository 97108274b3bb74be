-- What is seen of the arc with one peer, after outputs that shut and close none, and after those that do.
use Rattle.std.proofs.Common.{◌≡◌, ℕ, Bool, true, false, refl, ap, ◌∙◌, arith, Option, Some, None, List, [], ◌∷◌, ◌++◌, ◌&&◌, ◌==◌}
use Rattle.std.proofs.lemmas.Bool.Decides.{nat_tests}
use Rattle.tp_records.specs.declared.dialogue.DialogueRecord.{DialogueRecord}
use Rattle.tp_model.specs.declared.transaction.TxOut.{TxOut}
use Rattle.tp_model.specs.Parts.{Link, Idle, Opening, Offered, Live, Dialogue, Arc}
use Rattle.tp_model.specs.Links.{is_live}
use Rattle.tp_model.specs.Dialogues.{is_end_deferred, cleared}
use Rattle.tp_model.specs.Arcs.{find_arc, link_of, is_live_with_peer, without_arc, with_dialogues, carried_on, carried, performed}
use Rattle.tp_model.specs.Node.{is_end_deferred_at, without_deferral}
use Rattle.tp_model.specs.AmongArcs.{IsAlike}

pub alike : (p : ℕ) (arcs : List Arc) → IsAlike p arcs arcs
alike p arcs = record { live = refl; ends = refl }

pub alike_then : (p : ℕ) (a b c : List Arc) → IsAlike p a b → IsAlike p b c → IsAlike p a c
alike_then p a b c one two = record { live = two.live ∙ one.live; ends = two.ends ∙ one.ends }

-- ---- one arc

abbrev look_live : Option Arc → Bool
look_live o = is_live (link_of o)

abbrev look_ends : Option Arc → Bool
look_ends o = elim o [ None ↦ false | Some a ↦ is_end_deferred a.dialogue.deferral ]

carried_peer : (a : Arc) (r : DialogueRecord) → (carried_on a r).0.peer ≡ a.peer
carried_peer a r = go a.link
  where
    go : (l : Link) → (carried_on (record a { link = l }) r).0.peer ≡ a.peer
    go Idle = refl
    go (Opening x) = refl
    go (Offered x) = refl
    go (Live x y s t) = refl

carried_live : (a : Arc) (r : DialogueRecord) → is_live (carried_on a r).0.link ≡ is_live a.link
carried_live a r = go a.link
  where
    go : (l : Link) → is_live (carried_on (record a { link = l }) r).0.link ≡ is_live l
    go Idle = refl
    go (Opening x) = refl
    go (Offered x) = refl
    go (Live x y s t) = refl

carried_dialogue : (a : Arc) (r : DialogueRecord) → (carried_on a r).0.dialogue ≡ a.dialogue
carried_dialogue a r = go a.link
  where
    go : (l : Link) → (carried_on (record a { link = l }) r).0.dialogue ≡ a.dialogue
    go Idle = refl
    go (Opening x) = refl
    go (Offered x) = refl
    go (Live x y s t) = refl

pub alike_carried : (p q : ℕ) (arcs : List Arc) (r : DialogueRecord) → IsAlike p arcs (carried arcs q r).0
alike_carried p q [] r = alike p []
alike_carried p q (a ∷ arcs) r =
    let rest = alike_carried p q arcs r in
    record {
      live = grind (arith, nat_tests, carried_peer a r, carried_live a r, rest.live);
      ends = grind (arith, nat_tests, carried_peer a r, carried_dialogue a r, rest.ends);
    }

-- ---- outputs

abbrev pub shuts_none : List TxOut → Bool
shuts_none [] = true
shuts_none (TxOut.Tell i ∷ outs) = shuts_none outs
shuts_none (TxOut.Carry p r ∷ outs) = shuts_none outs
shuts_none (TxOut.Shut p ∷ outs) = false
shuts_none (TxOut.Recovery a r ∷ outs) = shuts_none outs
shuts_none (TxOut.Close p ∷ outs) = false

pub none_append : (xs ys : List TxOut) → shuts_none (xs ++ ys) ≡ (shuts_none xs && shuts_none ys)
none_append [] ys = refl
none_append (TxOut.Tell i ∷ xs) ys = none_append xs ys
none_append (TxOut.Carry p r ∷ xs) ys = none_append xs ys
none_append (TxOut.Shut p ∷ xs) ys = refl
none_append (TxOut.Recovery a r ∷ xs) ys = none_append xs ys
none_append (TxOut.Close p ∷ xs) ys = refl

pub alike_performed : (p : ℕ) (arcs : List Arc) (outs : List TxOut) → shuts_none outs ≡ true → IsAlike p arcs (performed arcs outs).0
alike_performed p arcs [] h = alike p arcs
alike_performed p arcs (TxOut.Tell i ∷ outs) h = alike_performed p arcs outs h
alike_performed p arcs (TxOut.Carry q r ∷ outs) h =
    alike_then p arcs (carried arcs q r).0 (performed (carried arcs q r).0 outs).0 (alike_carried p q arcs r) (alike_performed p (carried arcs q r).0 outs h)
alike_performed p arcs (TxOut.Shut q ∷ outs) h = absurd cc
alike_performed p arcs (TxOut.Recovery a r ∷ outs) h = alike_performed p arcs outs h
alike_performed p arcs (TxOut.Close q ∷ outs) h = absurd cc

-- ---- an arc that is gone

pub gone : (arcs : List Arc) (p : ℕ) → find_arc (without_arc arcs p) p ≡ None
gone [] p = refl
gone (a ∷ arcs) p = grind (arith, nat_tests, gone arcs p)

pub others_stay : (arcs : List Arc) (p q : ℕ) → (q == p) ≡ false → find_arc (without_arc arcs p) q ≡ find_arc arcs q
others_stay [] p q other = refl
others_stay (a ∷ arcs) p q other = grind (arith, nat_tests, other, others_stay arcs p q other)

pub live_gone : (arcs : List Arc) (p : ℕ) → is_live_with_peer (without_arc arcs p) p ≡ false
live_gone arcs p = ap look_live (gone arcs p)

pub ends_gone : (arcs : List Arc) (p : ℕ) → is_end_deferred_at (without_arc arcs p) p ≡ false
ends_gone arcs p = ap look_ends (gone arcs p)

pub alike_others : (arcs : List Arc) (p q : ℕ) → (q == p) ≡ false → IsAlike q arcs (without_arc arcs p)
alike_others arcs p q other = record { live = ap look_live (others_stay arcs p q other); ends = ap look_ends (others_stay arcs p q other) }

-- ---- control and what was deferred

cleared_ends : (a : Dialogue) → is_end_deferred (cleared a).deferral ≡ is_end_deferred a.deferral
unfolding cleared
cleared_ends a = refl

pub alike_cleared : (p : ℕ) (arcs : List Arc) (test : Arc → Bool) → IsAlike p arcs (with_dialogues arcs test (λ a. cleared a.dialogue))
alike_cleared p [] test = alike p []
alike_cleared p (a ∷ arcs) test =
    let rest = alike_cleared p arcs test in
    record {
      live = grind (arith, nat_tests, rest.live);
      ends = grind (arith, nat_tests, cleared_ends a.dialogue, rest.ends);
    }

pub live_forgotten : (p : ℕ) (arcs : List Arc) (test : Arc → Bool) → is_live_with_peer (with_dialogues arcs test (λ a. without_deferral (cleared a.dialogue))) p ≡ is_live_with_peer arcs p
live_forgotten p [] test = refl
live_forgotten p (a ∷ arcs) test = grind (arith, nat_tests, live_forgotten p arcs test)

-- of a test that looks at the peer's number alone
pub ends_forgotten : (p : ℕ) (arcs : List Arc) (test : ℕ → Bool) → test p ≡ true → is_end_deferred_at (with_dialogues arcs (λ a. test a.peer.node) (λ a. without_deferral (cleared a.dialogue))) p ≡ false
ends_forgotten p [] test h = refl
ends_forgotten p (a ∷ arcs) test h = go (a.peer.node == p) refl (ends_forgotten p arcs test h)
  where
    go : (b : Bool) → (a.peer.node == p) ≡ b → is_end_deferred_at (with_dialogues arcs (λ x. test x.peer.node) (λ x. without_deferral (cleared x.dialogue))) p ≡ false
        → is_end_deferred_at (with_dialogues (a ∷ arcs) (λ x. test x.peer.node) (λ x. without_deferral (cleared x.dialogue))) p ≡ false
    go true i rest =
        let here : a.peer.node ≡ p = grind (arith, nat_tests, i) in
        let chosen : test a.peer.node ≡ true = ap test here ∙ h in
        grind (arith, i, chosen)
    go false i rest = grind (arith, i, rest)
