-- Moves that say no word to a peer keep the facts of words and branches, and so do chains.
use Rattle.std.proofs.Common.{◌≡◌, ◌≤◌, ◌+◌, ◌⊎◌, inl, inr, ℕ, Bool, true, false, refl, ap, sym, subst, ◌∙◌, arith, Option, Some, None, List, [], ◌∷◌, ◌++◌, ◌&&◌, ◌==◌, not, length, length-append}
use Rattle.std.proofs.lemmas.List.{append-nil}
use Rattle.tp_records.specs.declared.dialogue.DialogueRecord.{DialogueRecord}
use Rattle.tp_logrec.specs.declared.record.LogRec.{LogRec}
use Rattle.tp_model.specs.declared.transaction.TxOut.{TxOut}
use Rattle.tp_model.specs.declared.recovery.Kept.{Kept}
use Rattle.tp_model.specs.declared.recovery.KeptEvent.{KeptEvent}
use Rattle.tp_model.specs.Parts.{Current, Digest}
use Rattle.tp_model.specs.Links.{is_live}
use Rattle.tp_model.specs.Arcs.{link_with}
use Rattle.tp_model.specs.Recovery.{settled}
use Rattle.tp_model.specs.History.{with_rec}
use Rattle.tp_model.specs.Node.{Move, followed, perform, keep}
use Rattle.tp_model.specs.Questions.{is_begin, said_to}
use Rattle.tp_steps.specs.Moves.{are_spoken}
use Rattle.tp_steps.specs.Facts.{only_words, spoken, stays, is_order, is_rollback, ends_in, none_of, BranchKey, begun_keys, last_from, each_under, each_vote, is_voted, is_ordered, is_rolled, under_at, open_at, key_at, HasPlaceAt, KnowsAt, words_to, IsHeard}
use Rattle.tp_steps.proofs.links.Links.{said_append}
use Rattle.tp_steps.proofs.links.Apart.{apart_spoken}
use Rattle.tp_steps.proofs.lemmas.Words.{dead_stays, ends_append, none_append, last_append, keys_append, under_append, under_weaker, vote_append, vote_weaker, none_last, ordered_more, voted_more, both}
use Rattle.tp_steps.proofs.links.Wrapped.{words_append, agrees_performed}
use Rattle.tp_steps.proofs.words.Fair.{sums, at_most_same, none_left}

-- ---- numbers

pub none_least : (a b : ℕ) → a ≤ b → 0 + a ≤ b
none_least a b h = omega (arith, h)

pub least_then : (m n a b c : ℕ) → m + a ≤ b → n + b ≤ c → m + n + a ≤ c
least_then m n a b c h i = omega (arith, h, i)

pub zero_plus : (m n : ℕ) → m ≡ 0 → n ≡ m + n
zero_plus m n z = omega (arith, z)

-- ---- moves that say no word to the peer

pub hush : (p : ℕ) (sup fall : Bool) (shut : ℕ) (s d : Digest) (m : Move) → m.next.superior ≡ d.superior → words_to p m.outs ≡ [] → (is_live (link_with m.next.arcs p) ≡ true → is_live (link_with d.arcs p) ≡ true)
    → m.next.current ≡ d.current → IsHeard p sup fall shut s d m
hush p sup fall shut s d m up none back same = record {
  superior = up;
  dead = λ h. none;
  back = back;
  dead_rows = λ h k. ap (λ (o : Option Current). key_at o p) same ∙ k;
  upward = λ h. rw none refl;
  places = λ ks n h q. rw (none, same) (subst (λ (v : ℕ). HasPlaceAt ks v d.current p) (zero_plus 0 n refl) q);
  balance = λ h. rw (none, same) (none_left (under_at d.current p) (under_at d.current p) refl);
  opens = λ c h. rw (none, same) (none_least (open_at d.current p) (open_at d.current p) (at_most_same (open_at d.current p) (open_at d.current p) refl));
  votes = λ ks rs n h. rw none refl;
  orders = λ k rs h. rw none refl;
  knows = λ k h kn. rw (none, same) kn;
  rollbacks = λ k g kn u f. rw none refl;
}

-- what is known of the peer stays
pub hush_other : (p : ℕ) (sup fall : Bool) (shut : ℕ) (s d : Digest) (m : Move) → m.next.superior ≡ d.superior → words_to p m.outs ≡ [] → is_live (link_with m.next.arcs p) ≡ is_live (link_with d.arcs p)
    → under_at m.next.current p ≡ under_at d.current p → open_at d.current p ≤ open_at m.next.current p → ((ks : List BranchKey) (n : ℕ) → HasPlaceAt ks n d.current p → HasPlaceAt ks n m.next.current p)
    → ((v : BranchKey) → key_at m.next.current p ≡ Some v → key_at d.current p ≡ Some v) → IsHeard p sup fall shut s d m
hush_other p sup fall shut s d m up none after under least places back = record {
  superior = up;
  dead = λ h. none;
  back = λ h. sym after ∙ h;
  dead_rows = λ h k. side k (key_at m.next.current p) refl;
  upward = λ h. rw none refl;
  balance = λ h. rw none (none_left (under_at m.next.current p) (under_at d.current p) under);
  places = λ ks n h k. rw none (subst (λ (v : ℕ). HasPlaceAt ks v m.next.current p) (zero_plus 0 n refl) (places ks n k));
  opens = λ z h. rw none (none_least (open_at d.current p) (open_at m.next.current p) least);
  votes = λ ks rs n h. rw none refl;
  orders = λ k rs kn. rw none refl;
  knows = λ k h kn v r. rw none (kn v (back v r));
  rollbacks = λ k g kn w v. rw none refl;
}
  where
    side : key_at d.current p ≡ None → (o : Option BranchKey) → key_at m.next.current p ≡ o → key_at m.next.current p ≡ None
    side k None z = z
    side k (Some v) z = absurd (cc (k, back v z))

pub spoken_none : (b : Bool) (p : ℕ) (outs : List TxOut) → are_spoken outs ≡ true → spoken b p outs ≡ []
spoken_none b p [] h = refl
spoken_none b p (TxOut.Tell i ∷ outs) h = spoken_none b p outs (grind arith)
spoken_none b p (TxOut.Carry q r ∷ outs) h = grind (arith, h, spoken_none b p outs)
spoken_none b p (TxOut.Shut q ∷ outs) h = spoken_none (b && not (q == p)) p outs h
spoken_none b p (TxOut.Recovery a r ∷ outs) h = spoken_none b p outs (grind (arith, h))
spoken_none b p (TxOut.Close q ∷ outs) h = spoken_none (b && not (q == p)) p outs h

pub stays_back : (b : Bool) (p : ℕ) (outs : List TxOut) → stays b p outs ≡ true → b ≡ true
stays_back true p outs h = refl
stays_back false p outs h = absurd (cc (h, dead_stays p outs))

pub hush_perform : (p : ℕ) (sup fall : Bool) (shut : ℕ) (s d : Digest) (outs : List TxOut) → are_spoken outs ≡ true → IsHeard p sup fall shut s d (perform outs d)
hush_perform p sup fall shut s d outs h =
    let a = agrees_performed d.arcs outs p (apart_spoken outs h) in
    hush p sup fall shut s d (perform outs d) refl (a.words ∙ spoken_none (is_live (link_with d.arcs p)) p outs h) (λ l. stays_back (is_live (link_with d.arcs p)) p outs (sym a.live ∙ l)) refl

-- what a kept transaction asks for is spoken
pub settled_spoken : (k : Kept) (f : KeptEvent) → are_spoken (settled k f).outs ≡ true
unfolding settled
settled_spoken k (KeptEvent.Done a b r) = grind arith
settled_spoken k _ = refl

pub hush_keep : (p : ℕ) (sup fall : Bool) (shut : ℕ) (s d : Digest) (k : Kept) (f : KeptEvent) → IsHeard p sup fall shut s d (keep (settled k f) d)
hush_keep p sup fall shut s d k f =
    let outs : List TxOut = (settled k f).outs in
    let h = settled_spoken k f in
    let a = agrees_performed d.arcs outs p (apart_spoken outs h) in
    hush p sup fall shut s d (keep (settled k f) d) refl (a.words ∙ spoken_none (is_live (link_with d.arcs p)) p outs h) (λ l. stays_back (is_live (link_with d.arcs p)) p outs (sym a.live ∙ l)) refl

-- ---- chains

abbrev later : Option LogRec → Option LogRec → Option LogRec
later o n = elim n [ None ↦ o | Some r ↦ Some r ]

-- the record of a chain, as the parts see it
either_rec : (a b : Option LogRec) → (a ≡ None) ⊎ (b ≡ None) → (a ≡ None) × (later a b ≡ b) ⊎ (b ≡ None) × (later a b ≡ a)
either_rec a None (inl i) = inl (i, i)
either_rec a (Some r) (inl i) = inl (i, refl)
either_rec a None (inr i) = inr (refl, refl)
either_rec a (Some r) (inr i) = absurd (cc (i))

plus_more : (a b n : ℕ) → b + (a + n) ≡ a + b + n
plus_more a b n = omega arith

pub heard_then : (p : ℕ) (sup fall : Bool) (shut : ℕ) (s d : Digest) (a : Move) (f : Digest → Move) → IsHeard p sup fall shut s d a → IsHeard p sup fall shut s a.next (f a.next) → (a.rec ≡ None) ⊎ ((f a.next).rec ≡ None)
    → IsHeard p sup fall shut s d (followed a f)
heard_then p sup fall shut s d a f one two quiet = go (is_live (link_with a.next.arcs p)) refl
  where
    b : Move
    b = f a.next

    m : Move
    m = followed a f

    wa : List DialogueRecord
    wa = words_to p a.outs

    wb : List DialogueRecord
    wb = words_to p b.outs

    split : words_to p m.outs ≡ wa ++ wb
    split = ap only_words (said_append p a.outs b.outs) ∙ words_append (said_to p a.outs) (said_to p b.outs)

    which : (a.rec ≡ None) × (m.rec ≡ b.rec) ⊎ (b.rec ≡ None) × (m.rec ≡ a.rec)
    which = either_rec a.rec b.rec quiet

    first_order : (k : Option BranchKey) (rs : List LogRec) → KnowsAt k d.current p → each_under is_order (is_ordered (with_rec m.rec rs)) k wa ≡ true
    first_order k rs kn = elim which [
      | inl i ↦ under_weaker is_order (is_ordered rs) (is_ordered (with_rec m.rec rs)) (ordered_more m.rec rs) k wa (subst (λ (q : Option LogRec). each_under is_order (is_ordered (with_rec q rs)) k wa ≡ true) i.0 (one.orders k rs kn))
      | inr i ↦ subst (λ (q : Option LogRec). each_under is_order (is_ordered (with_rec q rs)) k wa ≡ true) (sym i.1) (one.orders k rs kn)
    ]

    first_vote : (ks : List BranchKey) (rs : List LogRec) (n : ℕ) → HasPlaceAt ks n d.current p → each_vote (is_voted ks (with_rec m.rec rs)) n wa ≡ true
    first_vote ks rs n h = elim which [
      | inl i ↦ vote_weaker (is_voted ks rs) (is_voted ks (with_rec m.rec rs)) (voted_more m.rec ks rs) n wa (subst (λ (q : Option LogRec). each_vote (is_voted ks (with_rec q rs)) n wa ≡ true) i.0 (one.votes ks rs n h))
      | inr i ↦ subst (λ (q : Option LogRec). each_vote (is_voted ks (with_rec q rs)) n wa ≡ true) (sym i.1) (one.votes ks rs n h)
    ]

    second_order : (k : Option BranchKey) (rs : List LogRec) → KnowsAt k a.next.current p → each_under is_order (is_ordered (with_rec m.rec rs)) k wb ≡ true
    second_order k rs kn = elim which [
      | inl i ↦ subst (λ (q : Option LogRec). each_under is_order (is_ordered (with_rec q rs)) k wb ≡ true) (sym i.1) (two.orders k rs kn)
      | inr i ↦ subst (λ (q : Option LogRec). each_under is_order (is_ordered (with_rec q rs)) k wb ≡ true) (sym i.1) (subst (λ (q : Option LogRec). each_under is_order (is_ordered (with_rec q (with_rec a.rec rs))) k wb ≡ true) i.0 (two.orders k (with_rec a.rec rs) kn))
    ]

    second_vote : (ks : List BranchKey) (rs : List LogRec) (n : ℕ) → HasPlaceAt ks n a.next.current p → each_vote (is_voted ks (with_rec m.rec rs)) n wb ≡ true
    second_vote ks rs n h = elim which [
      | inl i ↦ subst (λ (q : Option LogRec). each_vote (is_voted ks (with_rec q rs)) n wb ≡ true) (sym i.1) (two.votes ks rs n h)
      | inr i ↦ subst (λ (q : Option LogRec). each_vote (is_voted ks (with_rec q rs)) n wb ≡ true) (sym i.1) (subst (λ (q : Option LogRec). each_vote (is_voted ks (with_rec q (with_rec a.rec rs))) n wb ≡ true) i.0 (two.votes ks (with_rec a.rec rs) n h))
    ]

    last_up : (k : Option BranchKey) → (sup ≡ true → k ≡ None) → sup ≡ true → last_from k wa ≡ None
    last_up k u h = none_last k wa (one.upward h) ∙ u h

    up_all : sup ≡ true → none_of is_begin (words_to p m.outs) ≡ true
    up_all h = rw (split, none_append is_begin wa wb) (both (none_of is_begin wa) (none_of is_begin wb) (one.upward h) (two.upward h))

    go : (c : Bool) → is_live (link_with a.next.arcs p) ≡ c → IsHeard p sup fall shut s d m
    go false i =
        let none : wb ≡ [] = two.dead i in
        let only : words_to p m.outs ≡ wa = split ∙ rw none (append-nil wa) in
        let gone : is_live (link_with m.next.arcs p) ≡ true → ⊥ = λ h. absurd (cc (i, two.back h)) in
        record {
          superior = two.superior ∙ one.superior;
          dead = λ h. only ∙ one.dead h;
          back = λ h. absurd (gone h);
          dead_rows = λ h k. two.dead_rows i (one.dead_rows h k);
          upward = up_all;
          balance = λ h. absurd (gone h);
          places = λ ks n h. absurd (gone h);
          opens = λ c h. absurd (gone h);
          votes = λ ks rs n h. rw only (first_vote ks rs n h);
          orders = λ k rs kn. rw only (first_order k rs kn);
          knows = λ k h. absurd (gone h);
          rollbacks = λ k g kn u v. rw only (one.rollbacks k g kn u v);
        }
    go true i = record {
      superior = two.superior ∙ one.superior;
      dead = λ h. absurd (cc (h, one.back i));
      back = λ h. one.back i;
      dead_rows = λ h. absurd (cc (h, one.back i));
      upward = up_all;
      balance = λ h. rw (split, ends_append wa wb) (sums (ends_in wa) (ends_in wb) (under_at d.current p) (under_at a.next.current p) (under_at b.next.current p) (one.balance i) (two.balance h));
      places = λ ks n h q. subst (λ (v : ℕ). HasPlaceAt ks v b.next.current p) (plus_more (ends_in wa) (ends_in wb) n ∙ ap (λ (v : ℕ). v + n) (sym (ends_append wa wb)) ∙ ap (λ (w : List DialogueRecord). ends_in w + n) (sym split)) (two.places ks (ends_in wa + n) h (one.places ks n i q));
      opens = λ c h. rw (split, keys_append wa wb, length-append (begun_keys wa) (begun_keys wb)) (least_then (length (begun_keys wa)) (length (begun_keys wb)) (open_at d.current p) (open_at a.next.current p) (open_at b.next.current p) (one.opens c i) (two.opens c h));
      votes = λ ks rs n h. rw (split, vote_append (is_voted ks (with_rec m.rec rs)) n wa wb) (both (each_vote (is_voted ks (with_rec m.rec rs)) n wa) (each_vote (is_voted ks (with_rec m.rec rs)) (ends_in wa + n) wb) (first_vote ks rs n h) (second_vote ks rs (ends_in wa + n) (one.places ks n i h)));
      orders = λ k rs kn. rw (split, under_append is_order (is_ordered (with_rec m.rec rs)) k wa wb) (both (each_under is_order (is_ordered (with_rec m.rec rs)) k wa) (each_under is_order (is_ordered (with_rec m.rec rs)) (last_from k wa) wb) (first_order k rs kn) (second_order (last_from k wa) rs (one.knows k i kn)));
      knows = λ k h kn. subst (λ (q : Option BranchKey). KnowsAt q b.next.current p) (sym (last_append k wa wb) ∙ ap (last_from k) (sym split)) (two.knows (last_from k wa) h (one.knows k i kn));
      rollbacks = λ k g kn u v. rw (split, under_append is_rollback (is_rolled g) k wa wb) (both (each_under is_rollback (is_rolled g) k wa) (each_under is_rollback (is_rolled g) (last_from k wa) wb) (one.rollbacks k g kn u v) (two.rollbacks (last_from k wa) g (one.knows k i kn) (last_up k u) v));
    }
