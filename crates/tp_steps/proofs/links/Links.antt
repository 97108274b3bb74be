-- What goes out to a peer is what the link with it sends, and the link counts it.
use Rattle.std.proofs.Common.{if◌then◌else◌, ◌≡◌, ◌+◌, ◌⊎◌, inl, inr, ℕ, suc, Bool, true, false, refl, ap, sym, subst, ◌∙◌, arith, Option, Some, None, List, [], ◌∷◌, ◌++◌, ◌&&◌, ◌==◌, length, length-append}
use Rattle.std.proofs.lemmas.Bool.Decides.{nat_tests}
use Rattle.std.proofs.lemmas.Grind.{common_steps}
use Rattle.tp_names.specs.declared.identifiers.Mark.{Mark}
use Rattle.tp_names.specs.declared.identifiers.Addr.{Addr}
use Rattle.tp_names.specs.Same.{is_mark}
use Rattle.tp_records.specs.declared.dialogue.DialogueRecord.{DialogueRecord}
use Rattle.tp_records.specs.declared.peer.PeerRecord.{PeerRecord}
use Rattle.tp_model.specs.declared.transaction.TxOut.{TxOut}
use Rattle.tp_model.specs.Parts.{Out, Link, Idle, Opening, Offered, Live, Dialogue, Arc}
use Rattle.tp_model.specs.Arcs.{find_arc, link_with, without_arc, with_dialogue, with_dialogues, carried, shut_says, shut_with, performed_one, performed}
use Rattle.tp_model.specs.Questions.{said_to, sent_more}
use Rattle.tp_steps.specs.Moves.{is_apart_record, is_apart, are_apart}
use Rattle.tp_steps.specs.Traces.{is_next, sent_one, fits, count_to, IsSaidOver}

pub mark_same : (m : Mark) → is_mark m m ≡ true
mark_same m = grind (arith, nat_tests)

-- ---- lists of outputs

pub said_append : (p : ℕ) (xs ys : List Out) → said_to p (xs ++ ys) ≡ said_to p xs ++ said_to p ys
said_append p [] ys = refl
said_append p (Out.Tell i ∷ xs) ys = said_append p xs ys
said_append p (Out.Send a (PeerRecord.OnAssoc x y q r) ∷ xs) ys = grind (arith, common_steps, said_append p xs ys)
said_append p (Out.Send a _ ∷ xs) ys = said_append p xs ys

pub count_append : (p : ℕ) (xs ys : List Out) → count_to p (xs ++ ys) ≡ count_to p xs + count_to p ys
count_append p xs ys = ap length (said_append p xs ys) ∙ length-append (said_to p xs) (said_to p ys)

pub more_none : (l : Link) → sent_more 0 l ≡ l
more_none (Live x y s t) = let e : s + 0 ≡ s = omega arith in rw e refl
more_none _ = refl

pub more_one : (n : ℕ) (l : Link) → sent_more (suc n) l ≡ sent_more n (sent_one l)
more_one n (Live x y s t) = let e : s + suc n ≡ suc s + n = omega arith in rw e refl
more_one n _ = refl

pub more_more : (m n : ℕ) (l : Link) → sent_more (m + n) l ≡ sent_more n (sent_more m l)
more_more m n (Live x y s t) = let e : s + (m + n) ≡ s + m + n = omega arith in rw e refl
more_more m n _ = refl

pub fits_append : (p : ℕ) (l : Link) (xs ys : List Out) → fits p l (xs ++ ys) ≡ (fits p l xs && fits p (sent_more (count_to p xs) l) ys)
fits_append p l [] ys = rw (more_none l) refl
fits_append p l (Out.Tell i ∷ xs) ys = fits_append p l xs ys
fits_append p l (Out.Send a (PeerRecord.OnAssoc x y q r) ∷ xs) ys = go (a.node == p) refl (fits_append p (sent_one l) xs ys) (fits_append p l xs ys)
  where
    out : List Out
    out = Out.Send a (PeerRecord.OnAssoc x y q r) ∷ xs

    to : (is_next l x y q && (fits p (sent_one l) xs && fits p (sent_more (count_to p xs) (sent_one l)) ys)) ≡ (is_next l x y q && fits p (sent_one l) xs && fits p (sent_more (suc (count_to p xs)) l) ys)
    to = rw (more_one (count_to p xs) l) (grind arith)

    go : (b : Bool) → (a.node == p) ≡ b → fits p (sent_one l) (xs ++ ys) ≡ (fits p (sent_one l) xs && fits p (sent_more (count_to p xs) (sent_one l)) ys)
        → fits p l (xs ++ ys) ≡ (fits p l xs && fits p (sent_more (count_to p xs) l) ys) → fits p l (out ++ ys) ≡ (fits p l out && fits p (sent_more (count_to p out) l) ys)
    go true i one two = grind (arith, i, one, to)
    go false i one two = grind (arith, i, two)
fits_append p l (Out.Send a _ ∷ xs) ys = fits_append p l xs ys

pub idle_says : (p : ℕ) (xs : List Out) → fits p Idle xs ≡ true → said_to p xs ≡ []
idle_says p [] h = refl
idle_says p (Out.Tell i ∷ xs) h = idle_says p xs h
idle_says p (Out.Send a (PeerRecord.OnAssoc x y q r) ∷ xs) h = grind (arith, idle_says p xs)
idle_says p (Out.Send a _ ∷ xs) h = idle_says p xs h

pub fits_none : (p : ℕ) (l : Link) (xs : List Out) → said_to p xs ≡ [] → fits p l xs ≡ true
fits_none p l [] h = refl
fits_none p l (Out.Tell i ∷ xs) h = fits_none p l xs h
fits_none p l (Out.Send a (PeerRecord.OnAssoc x y q r) ∷ xs) h = go (a.node == p) refl (fits_none p l xs)
  where
    go : (b : Bool) → (a.node == p) ≡ b → (said_to p xs ≡ [] → fits p l xs ≡ true) → fits p l (Out.Send a (PeerRecord.OnAssoc x y q r) ∷ xs) ≡ true
    go true i rest = let some : r ∷ said_to p xs ≡ [] = rw (i, said_to) at h in absurd (cc (some))
    go false i rest = grind (arith, i, h, rest)
fits_none p l (Out.Send a _ ∷ xs) h = fits_none p l xs h

-- ---- chains

pub over_none : (p : ℕ) (l : Link) (outs : List Out) → said_to p outs ≡ [] → IsSaidOver p l outs l
over_none p l outs none = record { numbered = fits_none p l outs none; link = inl (sym (ap (λ (xs : List DialogueRecord). sent_more (length xs) l) none ∙ more_none l)) }

pub over_closed : (p : ℕ) (l : Link) (outs : List Out) → said_to p outs ≡ [] → IsSaidOver p l outs Idle
over_closed p l outs none = record { numbered = fits_none p l outs none; link = inr refl }

idle_more : (n : ℕ) (l : Link) → l ≡ Idle → sent_more n l ≡ Idle
idle_more n l i = rw i refl

pub over_then : (p : ℕ) (l m n : Link) (xs ys : List Out) → IsSaidOver p l xs m → IsSaidOver p m ys n → IsSaidOver p l (xs ++ ys) n
over_then p l m n xs ys one two = go one.link
  where
    go : (m ≡ sent_more (count_to p xs) l) ⊎ (m ≡ Idle) → IsSaidOver p l (xs ++ ys) n
    go (inl i) =
        let second : fits p (sent_more (count_to p xs) l) ys ≡ true = subst (λ (k : Link). fits p k ys ≡ true) i two.numbered in
        record {
          numbered = fits_append p l xs ys ∙ rw (one.numbered, second) refl;
          link = elim two.link [
            | inl j ↦ inl (j ∙ ap (sent_more (count_to p ys)) i ∙ sym (ap (λ (k : ℕ). sent_more k l) (count_append p xs ys) ∙ more_more (count_to p xs) (count_to p ys) l))
            | inr j ↦ inr j
          ];
        }
    go (inr i) =
        let none : said_to p ys ≡ [] = idle_says p ys (subst (λ (k : Link). fits p k ys ≡ true) i two.numbered) in
        record {
          numbered = fits_append p l xs ys ∙ rw (one.numbered, fits_none p (sent_more (count_to p xs) l) ys none) refl;
          link = inr (elim two.link [ inl j ↦ j ∙ idle_more (count_to p ys) m i | inr j ↦ j ]);
        }

-- ---- arcs

pub link_dialogue : (arcs : List Arc) (q : ℕ) (f : Dialogue → Dialogue) (p : ℕ) → link_with (with_dialogue arcs q f) p ≡ link_with arcs p
link_dialogue [] q f p = refl
link_dialogue (a ∷ arcs) q f p = grind (arith, nat_tests, link_dialogue arcs q f p)

pub link_dialogues : (arcs : List Arc) (t : Arc → Bool) (f : Arc → Dialogue) (p : ℕ) → link_with (with_dialogues arcs t f) p ≡ link_with arcs p
link_dialogues [] t f p = refl
link_dialogues (a ∷ arcs) t f p = let rest = link_dialogues arcs t f p in grind (arith, rest)

pub link_without : (arcs : List Arc) (q p : ℕ) → link_with (without_arc arcs q) p ≡ (if q == p then Idle else link_with arcs p)
link_without [] q p = grind arith
link_without (a ∷ arcs) q p = grind (arith, nat_tests, link_without arcs q p)

pub over_without : (arcs : List Arc) (q p : ℕ) (outs : List Out) → said_to p outs ≡ [] → IsSaidOver p (link_with arcs p) outs (link_with (without_arc arcs q) p)
over_without arcs q p outs none = go (q == p) refl
  where
    go : (b : Bool) → (q == p) ≡ b → IsSaidOver p (link_with arcs p) outs (link_with (without_arc arcs q) p)
    go true i = let same : link_with (without_arc arcs q) p ≡ Idle = link_without arcs q p ∙ rw i refl in rw same (over_closed p (link_with arcs p) outs none)
    go false i = let same : link_with (without_arc arcs q) p ≡ link_with arcs p = link_without arcs q p ∙ rw i refl in rw same (over_none p (link_with arcs p) outs none)

-- ---- one output

pub carried_elsewhere : (arcs : List Arc) (q : ℕ) (r : DialogueRecord) (p : ℕ) → (q == p) ≡ false → said_to p (carried arcs q r).1 ≡ []
carried_elsewhere [] q r p ne = refl
carried_elsewhere (a ∷ arcs) q r p ne = grind (arith, nat_tests, carried_elsewhere arcs q r p ne)

pub link_elsewhere : (arcs : List Arc) (q : ℕ) (r : DialogueRecord) (p : ℕ) → (q == p) ≡ false → link_with (carried arcs q r).0 p ≡ link_with arcs p
link_elsewhere [] q r p ne = refl
link_elsewhere (a ∷ arcs) q r p ne = grind (arith, nat_tests, link_elsewhere arcs q r p ne)

fits_here : (arcs : List Arc) (p : ℕ) (r : DialogueRecord) → fits p (link_with arcs p) (carried arcs p r).1 ≡ true
fits_here [] p r = refl
fits_here (a ∷ arcs) p r = grind (arith, nat_tests, fits_here arcs p r, mark_same)

pub link_here : (arcs : List Arc) (p : ℕ) (r : DialogueRecord) → link_with (carried arcs p r).0 p ≡ sent_more (count_to p (carried arcs p r).1) (link_with arcs p)
link_here [] p r = refl
link_here (a ∷ arcs) p r = go (a.peer.node == p) a.link refl refl (link_here arcs p r)
  where
    go : (b : Bool) (l : Link) → (a.peer.node == p) ≡ b → a.link ≡ l → link_with (carried arcs p r).0 p ≡ sent_more (count_to p (carried arcs p r).1) (link_with arcs p) → link_with (carried (a ∷ arcs) p r).0 p ≡ sent_more (count_to p (carried (a ∷ arcs) p r).1) (link_with (a ∷ arcs) p)
    go false l i j rest = grind (arith, i, rest)
    go true Idle i j rest = grind (arith, i, j)
    go true (Opening x) i j rest = grind (arith, i, j)
    go true (Offered x) i j rest = grind (arith, i, j)
    go true (Live x y s t) i j rest = grind (arith, nat_tests, i, j)

over_carried : (arcs : List Arc) (q : ℕ) (r : DialogueRecord) (p : ℕ) → IsSaidOver p (link_with arcs p) (carried arcs q r).1 (link_with (carried arcs q r).0 p)
over_carried arcs q r p = go (q == p) refl
  where
    go : (b : Bool) → (q == p) ≡ b → IsSaidOver p (link_with arcs p) (carried arcs q r).1 (link_with (carried arcs q r).0 p)
    go false i = rw (link_elsewhere arcs q r p i) (over_none p (link_with arcs p) (carried arcs q r).1 (carried_elsewhere arcs q r p i))
    go true i =
        let same : q ≡ p = grind (arith, nat_tests) in
        subst (λ (k : ℕ). IsSaidOver p (link_with arcs p) (carried arcs k r).1 (link_with (carried arcs k r).0 p)) (sym same) (record { numbered = fits_here arcs p r; link = inl (link_here arcs p r) })

pub shut_silent : (p : ℕ) (a : Addr) (l : Link) → said_to p (shut_says a l) ≡ []
shut_silent p a Idle = refl
shut_silent p a (Opening x) = refl
shut_silent p a (Offered x) = refl
shut_silent p a (Live x y s t) = refl

over_shut : (arcs : List Arc) (q p : ℕ) → IsSaidOver p (link_with arcs p) (shut_with arcs q).1 (link_with (shut_with arcs q).0 p)
over_shut arcs q p = go (find_arc arcs q) refl
  where
    go : (o : Option Arc) → find_arc arcs q ≡ o → IsSaidOver p (link_with arcs p) (shut_with arcs q).1 (link_with (shut_with arcs q).0 p)
    go None i = rw (i, shut_with) (over_none p (link_with arcs p) [] refl)
    go (Some a) i = rw (i, shut_with) (over_without arcs q p (shut_says a.peer a.link) (shut_silent p a.peer a.link))

pub recovery_silent : (p : ℕ) (a : Addr) (r : PeerRecord) → is_apart_record r ≡ true → said_to p (Out.Send a r ∷ []) ≡ []
recovery_silent p a (PeerRecord.OnAssoc x y q r) h = absurd cc
recovery_silent p a _ h = refl

over_one : (arcs : List Arc) (o : TxOut) (p : ℕ) → is_apart o ≡ true → IsSaidOver p (link_with arcs p) (performed_one arcs o).1 (link_with (performed_one arcs o).0 p)
over_one arcs (TxOut.Tell i) p h = over_none p (link_with arcs p) (Out.Tell i ∷ []) refl
over_one arcs (TxOut.Carry q r) p h = over_carried arcs q r p
over_one arcs (TxOut.Shut q) p h = over_shut arcs q p
over_one arcs (TxOut.Recovery a r) p h = over_none p (link_with arcs p) (Out.Send a r ∷ []) (recovery_silent p a r h)
over_one arcs (TxOut.Close q) p h = over_without arcs q p [] refl

-- ---- all outputs of a rule

pub over_performed : (arcs : List Arc) (outs : List TxOut) (p : ℕ) → are_apart outs ≡ true → IsSaidOver p (link_with arcs p) (performed arcs outs).1 (link_with (performed arcs outs).0 p)
over_performed arcs [] p h = over_none p (link_with arcs p) [] refl
over_performed arcs (o ∷ outs) p h =
    let next : List Arc = (performed_one arcs o).0 in
    over_then p (link_with arcs p) (link_with next p) (link_with (performed next outs).0 p) (performed_one arcs o).1 (performed next outs).1
    (over_one arcs o p (grind arith)) (over_performed next outs p (grind arith))
