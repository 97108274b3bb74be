-- What the outputs of a rule become at the arcs: the words that go out are those that it carries while the association is live.
use Rattle.std.proofs.Common.{if◌then◌else◌, ◌≡◌, ℕ, Bool, true, false, refl, ap, sym, subst, ◌∙◌, arith, Option, Some, None, List, [], ◌∷◌, ◌++◌, ◌&&◌, ◌==◌, not}
use Rattle.std.proofs.lemmas.Bool.Decides.{nat_tests}
use Rattle.std.proofs.lemmas.Grind.{common_steps}
use Rattle.std.proofs.lemmas.List.{append-nil}
use Rattle.tp_names.specs.declared.outcome.Outcome.{Outcome}
use Rattle.tp_records.specs.declared.dialogue.DialogueRecord.{DialogueRecord}
use Rattle.tp_model.specs.declared.transaction.TxOut.{TxOut}
use Rattle.tp_model.specs.Parts.{Out, Link, Idle, Arc, Digest}
use Rattle.tp_model.specs.Links.{is_live}
use Rattle.tp_model.specs.Arcs.{find_arc, link_of, link_with, without_arc, carried, shut_with, performed_one, performed}
use Rattle.tp_model.specs.Transactions.{Transaction, Turn}
use Rattle.tp_model.specs.Node.{Passage, Falls_at_once, Commits, Rolls_back, Leaves, entered, played, completed_arcs, committed_arcs, left_arcs, perform_commit, grants, around_grants}
use Rattle.tp_model.specs.Questions.{said_to}
use Rattle.tp_steps.specs.Moves.{is_apart, are_apart}
use Rattle.tp_steps.specs.Facts.{only_words, spoken, stays, words_to}
use Rattle.tp_steps.proofs.links.Links.{said_append, link_without, shut_silent, recovery_silent}
use Rattle.tp_steps.proofs.lemmas.Words.{spoken_append, stays_append}
use Rattle.tp_steps.proofs.links.Apart.{apart_grants}
use Rattle.tp_steps.proofs.links.Linked.{link_entered, link_completed, link_committed, link_left, parts_apart}
use Rattle.tp_steps.proofs.links.Whole.{IsWhole}

pub words_append : (xs ys : List DialogueRecord) → only_words (xs ++ ys) ≡ only_words xs ++ only_words ys
words_append [] ys = refl
words_append (x ∷ xs) ys = grind (arith, common_steps, words_append xs ys)

-- what goes out, and what is left, agree with a rule's outputs
pub record Agrees (p : ℕ) (before : Bool) (outs : List TxOut) (sent : List Out) (after : Bool) : Type 0 where
  pub words : words_to p sent ≡ spoken before p outs
  pub live : after ≡ stays before p outs

pub said_carried : (arcs : List Arc) (q : ℕ) (r : DialogueRecord) (p : ℕ) → said_to p (carried arcs q r).1 ≡ (if (q == p) && is_live (link_with arcs p) then r ∷ [] else [])
said_carried [] q r p = grind arith
said_carried (a ∷ arcs) q r p = grind (arith, nat_tests, said_carried arcs q r p)

live_carried : (arcs : List Arc) (q : ℕ) (r : DialogueRecord) (p : ℕ) → is_live (link_with (carried arcs q r).0 p) ≡ is_live (link_with arcs p)
live_carried [] q r p = refl
live_carried (a ∷ arcs) q r p = grind (arith, nat_tests, live_carried arcs q r p)

live_without : (arcs : List Arc) (q p : ℕ) → is_live (link_with (without_arc arcs q) p) ≡ (is_live (link_with arcs p) && not (q == p))
live_without arcs q p = ap is_live (link_without arcs q p) ∙ go (q == p)
  where
    go : (b : Bool) → is_live (if b then Idle else link_with arcs p) ≡ (is_live (link_with arcs p) && not b)
    go true = grind arith
    go false = grind arith

agrees_one : (arcs : List Arc) (o : TxOut) (p : ℕ) → is_apart o ≡ true → Agrees p (is_live (link_with arcs p)) (o ∷ []) (performed_one arcs o).1 (is_live (link_with (performed_one arcs o).0 p))
agrees_one arcs (TxOut.Tell i) p h = record { words = refl; live = refl }
agrees_one arcs (TxOut.Carry q r) p h = record { words = ap only_words (said_carried arcs q r p) ∙ grind arith; live = live_carried arcs q r p }
agrees_one arcs (TxOut.Recovery a r) p h = record { words = ap only_words (recovery_silent p a r h); live = refl }
agrees_one arcs (TxOut.Close q) p h = record { words = refl; live = live_without arcs q p }
agrees_one arcs (TxOut.Shut q) p h = go (find_arc arcs q) refl
  where
    idle : find_arc arcs q ≡ None → (b : Bool) → (q == p) ≡ b → is_live (link_with arcs p) ≡ (is_live (link_with arcs p) && not (q == p))
    idle i true j =
        let same : q ≡ p = grind (arith, nat_tests, j) in
        let none : link_with arcs p ≡ Idle = ap link_of (subst (λ (n : ℕ). find_arc arcs n ≡ None) same i) in
        rw none refl
    idle i false j = grind (arith, j)

    go : (o : Option Arc) → find_arc arcs q ≡ o → Agrees p (is_live (link_with arcs p)) (TxOut.Shut q ∷ []) (shut_with arcs q).1 (is_live (link_with (shut_with arcs q).0 p))
    go None i = rw (i, shut_with) (record { words = refl; live = idle i (q == p) refl })
    go (Some a) i = rw (i, shut_with) (record { words = ap only_words (shut_silent p a.peer a.link); live = live_without arcs q p })

pub agrees_then : (p : ℕ) (a b c : Bool) (xs ys : List TxOut) (us vs : List Out) → Agrees p a xs us b → Agrees p b ys vs c → Agrees p a (xs ++ ys) (us ++ vs) c
agrees_then p a b c xs ys us vs one two = record {
  words =
      ap only_words (said_append p us vs) ∙ words_append (said_to p us) (said_to p vs)
      ∙ both (words_to p us) (spoken a p xs) (words_to p vs) (spoken b p ys) one.words two.words
      ∙ ap (λ (v : Bool). spoken a p xs ++ spoken v p ys) one.live ∙ sym (spoken_append a p xs ys);
  live = two.live ∙ ap (λ (v : Bool). stays v p ys) one.live ∙ sym (stays_append a p xs ys);
}
  where
    both : (u u' v v' : List DialogueRecord) → u ≡ u' → v ≡ v' → u ++ v ≡ u' ++ v'
    both u u' v v' e f = rw (e, f) refl

pub agrees_performed : (arcs : List Arc) (outs : List TxOut) (p : ℕ) → are_apart outs ≡ true → Agrees p (is_live (link_with arcs p)) outs (performed arcs outs).1 (is_live (link_with (performed arcs outs).0 p))
agrees_performed arcs [] p h = record { words = refl; live = refl }
agrees_performed arcs (o ∷ outs) p h =
    let next : List Arc = (performed_one arcs o).0 in
    agrees_then p (is_live (link_with arcs p)) (is_live (link_with next p)) (is_live (link_with (performed next outs).0 p)) (o ∷ []) outs (performed_one arcs o).1 (performed next outs).1
    (agrees_one arcs o p (grind (arith, h))) (agrees_performed next outs p (grind (arith, h)))

-- ---- with the passages of a transaction

grants_spoken : (b : Bool) (p : ℕ) (t : Transaction) (arcs : List Arc) → spoken b p (grants t arcs) ≡ []
grants_spoken b p t [] = refl
grants_spoken b p t (a ∷ arcs) = grind (arith, grants_spoken b p t arcs)

grants_stay : (b : Bool) (p : ℕ) (t : Transaction) (arcs : List Arc) → stays b p (grants t arcs) ≡ b
grants_stay b p t [] = refl
grants_stay b p t (a ∷ arcs) = grind (arith, grants_stay b p t arcs)

-- an output that says nothing may stand between
agrees_between : (p : ℕ) (a b c : Bool) (xs gs ys : List TxOut) (us : List Out) → spoken (stays a p xs) p gs ≡ [] → stays (stays a p xs) p gs ≡ stays a p xs → Agrees p a (xs ++ gs ++ ys) us c → Agrees p a (xs ++ ys) us c
agrees_between p a b c xs gs ys us none live one = record {
  words = one.words ∙ spoken_append a p (xs ++ gs) ys ∙ rw (spoken_append a p xs gs, stays_append a p xs gs, none, live, append-nil (spoken a p xs)) (sym (spoken_append a p xs ys));
  live = one.live ∙ stays_append a p (xs ++ gs) ys ∙ rw (stays_append a p xs gs, live) (sym (stays_append a p xs ys));
}

agrees_commit : (d : Digest) (t : Transaction) (s : List TxOut × List TxOut) (arcs : List Arc) (p : ℕ) → are_apart (s.0 ++ s.1) ≡ true
    → Agrees p (is_live (link_with arcs p)) (s.0 ++ s.1) (perform_commit d t s arcs).1 (is_live (link_with (perform_commit d t s arcs).0 p))
agrees_commit d t s arcs p h =
    let parts = parts_apart s h in
    let one = performed arcs s.0 in
    let mid : List Arc = committed_arcs d t one.0 in
    let gs : List TxOut = grants t one.0 in
    let two = performed mid gs in
    let three = performed two.0 s.1 in
    let b : Bool = is_live (link_with arcs p) in
    let first : Agrees p b s.0 one.1 (is_live (link_with one.0 p)) = agrees_performed arcs s.0 p (grind (arith, parts)) in
    let second : Agrees p (is_live (link_with one.0 p)) gs two.1 (is_live (link_with two.0 p)) =
    subst (λ (v : Bool). Agrees p v gs two.1 (is_live (link_with two.0 p))) (ap is_live (link_committed d t one.0 p)) (agrees_performed mid gs p (apart_grants t one.0)) in
    let third : Agrees p (is_live (link_with two.0 p)) s.1 three.1 (is_live (link_with three.0 p)) = agrees_performed two.0 s.1 p (grind (arith, parts)) in
    let all : Agrees p b (s.0 ++ gs ++ s.1) (one.1 ++ two.1 ++ three.1) (is_live (link_with three.0 p)) =
    agrees_then p b (is_live (link_with two.0 p)) (is_live (link_with three.0 p)) (s.0 ++ gs) s.1 (one.1 ++ two.1) three.1
    (agrees_then p b (is_live (link_with one.0 p)) (is_live (link_with two.0 p)) s.0 gs one.1 two.1 first second) third in
    agrees_between p b b (is_live (link_with three.0 p)) s.0 gs s.1 (one.1 ++ two.1 ++ three.1) (grants_spoken (stays b p s.0) p t one.0) (grants_stay (stays b p s.0) p t one.0) all

after_is : (p : ℕ) (a : Bool) (outs : List TxOut) (sent : List Out) (l m : Link) → l ≡ m → Agrees p a outs sent (is_live m) → Agrees p a outs sent (is_live l)
after_is p a outs sent l m same one = rw same one

agrees_at : (d : Digest) (t : Transaction) (w : Passage) (b : Turn) → IsWhole b → (arcs : List Arc) (p : ℕ) → are_apart b.outs ≡ true
    → Agrees p (is_live (link_with arcs p)) b.outs (played d t w b arcs).1 (is_live (link_with (played d t w b arcs).0 p))
unfolding played
agrees_at d t Falls_at_once b whole arcs p h =
    let a = performed arcs b.outs in
    after_is p (is_live (link_with arcs p)) b.outs a.1 (link_with (completed_arcs d t Outcome.Rollback a.0) p) (link_with a.0 p) (link_completed d t Outcome.Rollback a.0 p) (agrees_performed arcs b.outs p h)
agrees_at d t Commits b whole arcs p h =
    let r = played d t Commits b arcs in
    subst (λ (os : List TxOut). Agrees p (is_live (link_with arcs p)) os r.1 (is_live (link_with r.0 p))) whole (agrees_commit d t (around_grants b) arcs p (ap are_apart whole ∙ h))
agrees_at d t Rolls_back b whole arcs p h =
    let a = performed arcs b.outs in
    after_is p (is_live (link_with arcs p)) b.outs a.1 (link_with (completed_arcs d t Outcome.Rollback a.0) p) (link_with a.0 p) (link_completed d t Outcome.Rollback a.0 p) (agrees_performed arcs b.outs p h)
agrees_at d t Leaves b whole arcs p h =
    let a = performed arcs b.outs in
    after_is p (is_live (link_with arcs p)) b.outs a.1 (link_with (left_arcs t a.0) p) (link_with a.0 p) (link_left t a.0 p) (agrees_performed arcs b.outs p h)
agrees_at d t _ b whole arcs p h = agrees_performed arcs b.outs p h

-- the outputs of a transaction, with all that its passage does at the arcs
pub agrees_played : (d : Digest) (t : Transaction) (w : Passage) (b : Turn) → IsWhole b → (arcs : List Arc) (p : ℕ) → are_apart b.outs ≡ true
    → Agrees p (is_live (link_with arcs p)) b.outs (played d t w b (entered t w arcs)).1 (is_live (link_with (played d t w b (entered t w arcs)).0 p))
agrees_played d t w b whole arcs p h =
    let r = played d t w b (entered t w arcs) in
    subst (λ (v : Bool). Agrees p v b.outs r.1 (is_live (link_with r.0 p))) (ap is_live (link_entered t w arcs p)) (agrees_at d t w b whole (entered t w arcs) p h)
