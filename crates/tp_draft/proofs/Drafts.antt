-- The single outputs of a draft, as the definitions carry them out.
use Rattle.std.proofs.Common.{◌≡◌, ◌≤◌, ℕ, true, ◌++◌, Option, Some, None, List, [], ◌∷◌, Result, Ok, Err, refl, ap, sym, ◌∙◌, arith}
use Rattle.std.specs.Prelude.{◌||◌}
use Rattle.std.proofs.lemmas.Bool.Decides.{nat_tests}
use Rattle.std.proofs.lemmas.Grind.{common_steps}
use Rattle.tp_names.specs.declared.identifiers.Addr.{Addr}
use Rattle.tp_logrec.specs.declared.record.LogRec.{LogRec}
use Rattle.tp_records.specs.declared.indication.Indication.{Indication}
use Rattle.tp_records.specs.declared.peer.PeerRecord.{PeerRecord}
use Rattle.tp_records.specs.declared.dialogue.DialogueRecord.{DialogueRecord}
use Rattle.tp_model.specs.declared.transaction.TxOut.{TxOut}
use Rattle.tp_model.specs.Parts.{Who, Arc, Out, Tell, Send, Digest}
use Rattle.tp_model.specs.Arcs.{performed_one, performed, carried}
use Rattle.tp_model.specs.Node.{Move, move, followed, perform}
use Rattle.tp_model.specs.Events.{needs_numbers, some_past_numbers}
use Rattle.tp_node.specs.declared.halt.Halt.{Halt}
use Rattle.tp_draft.specs.Draft.{Draft, goes_on, Plays, later}

-- what one output makes of a draft
pub one : (a : Draft) (o : TxOut) → goes_on a (λ who. perform (o ∷ [])) ≡ record a { move = record a.move { outs = a.move.outs ++ (performed_one a.move.next.arcs o).1; next = record a.move.next { arcs = (performed_one a.move.next.arcs o).0 } } }
one a o = ap (λ (l : List Out). record a { move = record a.move { outs = a.move.outs ++ l; next = record a.move.next { arcs = (performed_one a.move.next.arcs o).0 } } }) (none_more (performed_one a.move.next.arcs o).1)
  where
    none_more : (xs : List Out) → xs ++ [] ≡ xs
    none_more [] = refl
    none_more (x ∷ xs) = ap (λ (ys : List Out). x ∷ ys) (none_more xs)

pub told : (a : Draft) (i : Indication) → goes_on a (λ who. perform (TxOut.Tell i ∷ [])) ≡ record a { move = record a.move { outs = a.move.outs ++ Tell i ∷ [] } }
told a i = one a (TxOut.Tell i)

pub sent : (a : Draft) (to : Addr) (r : PeerRecord) → goes_on a (λ who. perform (TxOut.Recovery to r ∷ [])) ≡ record a { move = record a.move { outs = a.move.outs ++ Send to r ∷ [] } }
sent a to r = one a (TxOut.Recovery to r)

-- where numbers are wanting, they are wanting after it too
past_more : (xs ys : List Out) → some_past_numbers ys ≡ true → some_past_numbers (xs ++ ys) ≡ true
past_more [] ys h = h
past_more (x ∷ xs) ys h = grind (arith, common_steps, past_more xs ys h)

pub spent : (a : Draft) (p : ℕ) (r : DialogueRecord) → some_past_numbers (carried a.move.next.arcs p r).1 ≡ true → needs_numbers (followed a.move (perform (TxOut.Carry p r ∷ []))) ≡ true
spent a p r h = grind (arith, common_steps, past_more a.move.outs ((carried a.move.next.arcs p r).1 ++ []), past_more (carried a.move.next.arcs p r).1 [])

-- ---- several outputs

pub append_again : (xs ys zs : List Out) → (xs ++ ys) ++ zs ≡ xs ++ (ys ++ zs)
append_again [] ys zs = refl
append_again (x ∷ xs) ys zs = ap (λ (l : List Out). x ∷ l) (append_again xs ys zs)

pub perform_none : (a : Draft) → goes_on a (λ who. perform []) ≡ a
perform_none a = ap (λ (l : List Out). record a { move = record a.move { outs = l } }) (none_more a.move.outs)
  where
    none_more : (xs : List Out) → xs ++ [] ≡ xs
    none_more [] = refl
    none_more (x ∷ xs) = ap (λ (ys : List Out). x ∷ ys) (none_more xs)

pub perform_more : (a : Draft) (o : TxOut) (os : List TxOut) → goes_on (goes_on a (λ who. perform (o ∷ []))) (λ who. perform os) ≡ goes_on a (λ who. perform (o ∷ os))
perform_more a o os =
    let s : List Arc × List Out = performed_one a.move.next.arcs o in
    let t : List Arc × List Out = performed s.0 os in
    ap (λ (b : Draft). goes_on b (λ who. perform os)) (one a o)
    ∙ ap (λ (l : List Out). record a { move = record a.move { outs = l; next = record a.move.next { arcs = t.0 } } }) (append_again a.move.outs s.1 t.1)

pub spent_more : (a : Draft) (o : TxOut) (os : List TxOut) → needs_numbers (followed a.move (perform (o ∷ []))) ≡ true → needs_numbers (followed a.move (perform (o ∷ os))) ≡ true
spent_more a o os h = grind (arith, common_steps, more a.move.outs (performed_one a.move.next.arcs o).1 (performed (performed_one a.move.next.arcs o).0 os).1)
  where
    front : (xs ys : List Out) → some_past_numbers (xs ++ ys) ≡ (some_past_numbers xs || some_past_numbers ys)
    front [] ys = refl
    front (x ∷ xs) ys = grind (arith, common_steps, front xs ys)

    more : (xs ys zs : List Out) → some_past_numbers (xs ++ (ys ++ [])) ≡ true → some_past_numbers (xs ++ (ys ++ zs)) ≡ true
    more xs ys zs g = grind (arith, common_steps, front xs (ys ++ []), front ys [], front xs (ys ++ zs), front ys zs)

pub perform_halts : (e : Halt) (a b c d : Draft) (o : TxOut) (os xs ys : List TxOut) → xs ≡ o ∷ os → goes_on a (λ who. perform xs) ≡ goes_on b (λ who. perform ys) → Plays (Err e) a c (λ who. perform (o ∷ [])) → Plays (Err e) b d (λ who. perform ys)
perform_halts Halt.NoMemory a b c d o os xs ys is same h = tt
perform_halts Halt.NumbersSpent a b c d o os xs ys is same h =
    sym (ap (λ (x : Draft). needs_numbers x.move) same)
    ∙ ap (λ (l : List TxOut). needs_numbers (followed a.move (perform l))) is
    ∙ spent_more a o os h

-- ---- one rule after another

-- what a rule plays at one draft another plays at another, where they come to the same
pub plays_alike : (r : Result (Unit {0}) Halt) (a b d : Draft) (f g : Who → Digest → Move) → goes_on b g ≡ goes_on a f → Plays r b d g → Plays r a d f
plays_alike (Ok u) a b d f g same h = h ∙ same
plays_alike (Err Halt.NumbersSpent) a b d f g same h = sym (ap (λ (x : Draft). needs_numbers x.move) same) ∙ h
plays_alike (Err Halt.NoMemory) a b d f g same h = tt

later_again : (x y z : Option LogRec) → later (later x y) z ≡ later x (later y z)
later_again x y None = refl
later_again x y (Some r) = refl

-- two rules are one that follows the other
pub goes_on_twice : (a : Draft) (f g : Who → Digest → Move) → goes_on (goes_on a f) g ≡ goes_on a (λ who d. followed (f who d) (g who))
goes_on_twice a f g =
    let b : Move = f a.who a.move.next in
    let e : Move = g a.who b.next in
    let made : Option LogRec → List Out → Draft = λ r l. record { who = a.who; move = record { rec = r; outs = l; next = e.next } } in
    ap (λ r. made r ((a.move.outs ++ b.outs) ++ e.outs)) (later_again a.move.rec b.rec e.rec) ∙ ap (made (later a.move.rec (later b.rec e.rec))) (append_again a.move.outs b.outs e.outs)

past_before : (xs ys : List Out) → some_past_numbers xs ≡ true → some_past_numbers (xs ++ ys) ≡ true
past_before [] ys h = grind arith
past_before (x ∷ xs) ys h = grind (arith, common_steps, past_before xs ys)

-- where numbers are wanting they are wanting after every rule that takes no mark back
pub still_needs : (m : Move) (f : Digest → Move) → m.next.drawn ≤ (f m.next).next.drawn → needs_numbers m ≡ true → needs_numbers (followed m f) ≡ true
still_needs m f rises h = grind (arith, common_steps, nat_tests, past_before m.outs (f m.next).outs)

-- a rule that says nothing and logs nothing, before another
pub followed_silent : (d : Digest) (f : Digest → Move) → followed (move [] d) f ≡ f d
followed_silent d f = go (f d).rec
  where
    go : (r : Option LogRec) → record { rec = elim r as (λ _. Option LogRec) [ None ↦ None | Some x ↦ Some x ]; outs = (f d).outs; next = (f d).next } ≡ (let m : Move = record { rec = r; outs = (f d).outs; next = (f d).next } in m)
    go None = refl
    go (Some x) = refl

-- a rule, where one was played before it
pub plays_then : (r : Result (Unit {0}) Halt) (a b c : Draft) (f g h : Who → Digest → Move) → b ≡ goes_on a f → ((who : Who) (d : Digest) → h who d ≡ followed (f who d) (g who)) → Plays r b c g → Plays r a c h
plays_then r a b c f g h is two p =
    plays_alike r a b c h g (ap (λ (x : Draft). goes_on x g) is ∙ goes_on_twice a f g ∙ sym (ap (λ (m : Move). record a { move = followed a.move (λ _. m) }) (two a.who a.move.next))) p

pub plays_halted : (e : Halt) (a b c : Draft) (f g h : Who → Digest → Move) → ((who : Who) (d : Digest) → h who d ≡ followed (f who d) (g who)) → ((who : Who) (d : Digest) → d.drawn ≤ (g who d).next.drawn) → Plays (Err e) a b f → Plays (Err e) a c h
plays_halted Halt.NoMemory a b c f g h two rises p = tt
plays_halted Halt.NumbersSpent a b c f g h two rises p =
    ap (λ (m : Move). needs_numbers (followed a.move (λ _. m))) (two a.who a.move.next)
    ∙ sym (ap (λ (x : Draft). needs_numbers x.move) (goes_on_twice a f g))
    ∙ still_needs (followed a.move (f a.who)) (g a.who) (rises a.who (f a.who a.move.next).next) p

-- saying takes no mark back
pub perform_keeps : (outs : List TxOut) (who : Who) (d : Digest) → d.drawn ≤ (perform outs d).next.drawn
perform_keeps outs who d = omega arith

-- a rule that is the same
pub plays_same : (r : Result (Unit {0}) Halt) (a c : Draft) (f g : Who → Digest → Move) → ((who : Who) (d : Digest) → f who d ≡ g who d) → Plays r a c g → Plays r a c f
plays_same r a c f g same p = plays_alike r a a c f g (sym (ap (λ (m : Move). record a { move = followed a.move (λ _. m) }) (same a.who a.move.next))) p

-- the same of a rule that is made out for this draft
pub plays_then_at : (r : Result (Unit {0}) Halt) (a b c : Draft) (f g h : Who → Digest → Move) → b ≡ goes_on a f → h a.who a.move.next ≡ followed (f a.who a.move.next) (g a.who) → Plays r b c g → Plays r a c h
plays_then_at r a b c f g h is two p =
    plays_alike r a b c h g (ap (λ (x : Draft). goes_on x g) is ∙ goes_on_twice a f g ∙ sym (ap (λ (m : Move). record a { move = followed a.move (λ _. m) }) two)) p

pub plays_halted_at : (e : Halt) (a b c : Draft) (f g h : Who → Digest → Move) → h a.who a.move.next ≡ followed (f a.who a.move.next) (g a.who) → ((who : Who) (d : Digest) → d.drawn ≤ (g who d).next.drawn) → Plays (Err e) a b f → Plays (Err e) a c h
plays_halted_at Halt.NoMemory a b c f g h two rises p = tt
plays_halted_at Halt.NumbersSpent a b c f g h two rises p =
    ap (λ (m : Move). needs_numbers (followed a.move (λ _. m))) two
    ∙ sym (ap (λ (x : Draft). needs_numbers x.move) (goes_on_twice a f g))
    ∙ still_needs (followed a.move (f a.who)) (g a.who) (rises a.who (f a.who a.move.next).next) p

pub plays_same_at : (r : Result (Unit {0}) Halt) (a c : Draft) (f g : Who → Digest → Move) → f a.who a.move.next ≡ g a.who a.move.next → Plays r a c g → Plays r a c f
plays_same_at r a c f g same p = plays_alike r a a c f g (sym (ap (λ (m : Move). record a { move = followed a.move (λ _. m) }) same)) p

-- a rule, where the node was changed before it and nothing was said
pub plays_from : (r : Result (Unit {0}) Halt) (a b c : Draft) (d : Digest) (g h : Who → Digest → Move) → b ≡ record a { move = record a.move { next = d } } → h a.who a.move.next ≡ g a.who d → Plays r b c g → Plays r a c h
plays_from r a b c d g h is same p =
    plays_alike r a b c h g (ap (λ (x : Draft). goes_on x g) is ∙ sym (ap (λ (m : Move). record a { move = followed a.move (λ _. m) }) same)) p
