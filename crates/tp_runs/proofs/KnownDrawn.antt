-- How many marks a node has drawn is the greatest count among those that it sent in this boot.
use Rattle.std.proofs.Common.{if◌then◌else◌, ◌≡◌, ℕ, suc, Bool, true, false, refl, ap, sym, ◌∙◌, arith, Option, Some, None, List, [], ◌∷◌, ◌++◌, ◌&&◌, ◌==◌, not, max}
use Rattle.std.specs.Prelude.{nat_le}
use Rattle.std.proofs.lemmas.Bool.Decides.{nat_tests}
use Rattle.tp_names.specs.declared.identifiers.Mark.{Mark}
use Rattle.tp_names.specs.declared.identifiers.Aaid.{Aaid}
use Rattle.tp_names.specs.declared.identifiers.BranchId.{BranchId}
use Rattle.tp_names.specs.declared.identifiers.Addr.{Addr}
use Rattle.tp_names.specs.Same.{is_mark}
use Rattle.tp_records.specs.declared.request.Request.{Request}
use Rattle.tp_records.specs.declared.dialogue.DialogueRecord.{DialogueRecord}
use Rattle.tp_records.specs.declared.dialogue.Holder.{Holder}
use Rattle.tp_records.specs.declared.peer.PeerRecord.{PeerRecord}
use Rattle.tp_model.specs.declared.arc.Side.{Side}
use Rattle.tp_model.specs.declared.transaction.TxEvent.{TxEvent}
use Rattle.tp_model.specs.declared.transaction.TxOut.{TxOut}
use Rattle.tp_model.specs.declared.recovery.Kept.{Kept}
use Rattle.tp_model.specs.declared.recovery.KeptEvent.{KeptEvent}
use Rattle.tp_model.specs.Parts.{Who, Origin, Event, Entry, Out, Link, Idle, Opening, Offered, Live, Arc, Current, Digest}
use Rattle.tp_model.specs.Links.{is_live}
use Rattle.tp_model.specs.Dialogues.{begun_by, named_holder}
use Rattle.tp_model.specs.Arcs.{find_arc, link_of, link_with, with_dialogue, carried, carried_on, performed_one, performed}
use Rattle.tp_model.specs.Transactions.{Transaction, before, aaid_of, forgets, transacted, Turn}
use Rattle.tp_model.specs.Recovery.{settled}
use Rattle.tp_model.specs.Node.{Move, move, perform, next_mark, with_mark_drawn, superior_arc, seen, Passage, Commits, played, perform_commit, committed_arcs, grants, with_begun, may_begin_on, begin_on, turned, around_grants}
use Rattle.tp_model.specs.Requests.{call, accept}
use Rattle.tp_model.specs.Events.{action, after_crash, started}
use Rattle.tp_model.specs.History.{digest}
use Rattle.tp_model.specs.Questions.{count_of, own_count, own_counts, is_crash, drawn_in, boot_in}
use Rattle.tp_model.specs.Legal.{IsGrown, IsLegal}
use Rattle.tp_steps.specs.Moves.{IsPut, prelude, begun_in, counted_in, accepted_by, accepted_on, is_apart, are_apart, are_spoken}
use Rattle.tp_steps.specs.Steps.{carries_last, carry_last, last_mark, first_begin, next_tree, next_branch, Steps}
use Rattle.tp_steps.specs.Passages.{begins_none}
use Rattle.tp_steps.specs.Traces.{IsLinked}
use Rattle.tp_steps.specs.Ends.{are_separate}
use Rattle.tp_runs.specs.Known.{drawn_agrees}
use Rattle.tp_steps.proofs.lemmas.Equality.{and_left, and_right, both_true}
use Rattle.tp_steps.proofs.every.EveryMove.{plain_steps}
use Rattle.tp_steps.proofs.every.EveryRecord.{last_forget}
use Rattle.tp_steps.proofs.every.EveryEvent.{step_move}
use Rattle.tp_steps.proofs.links.Apart.{apart_grants, apart_turn, apart_spoken}
use Rattle.tp_steps.proofs.log.Passed.{passed_turn}
use Rattle.tp_steps.proofs.lemmas.Phases.{none_append}
use Rattle.tp_steps.proofs.words.Hushed.{settled_spoken}
use Rattle.tp_steps.proofs.links.Linked.{linked_moves, parts_apart}
use Rattle.tp_steps.proofs.links.Links.{link_dialogue}
use Rattle.tp_steps.proofs.every.Preludes.{marks_same}
use Rattle.tp_histories.proofs.trees.Late.{late_law}
use Rattle.tp_histories.proofs.marks.Separate.{Thins, thins_moves, thins_dialogue, thins_without, separate_prelude, separate_law}
use Rattle.tp_steps.proofs.every.Course.{spoken_none}
use Rattle.tp_histories.proofs.known.KnownPlain.{number_self, plain_law}
use Rattle.tp_steps.proofs.every.BeginCases.{begun_over, begin_cases}
use Rattle.tp_steps.proofs.words.TurnWords.{AreTurnWords, turn_words}
use Rattle.tp_steps.proofs.links.Whole.{IsWhole, whole_turn}

-- ---- a transaction offers and answers no association

abbrev pub is_offer : PeerRecord → Bool
is_offer (PeerRecord.OpenAssoc x u) = true
is_offer (PeerRecord.AcceptAssoc x y u) = true
is_offer _ = false

abbrev pub offers_none : List TxOut → Bool
offers_none [] = true
offers_none (TxOut.Tell i ∷ outs) = offers_none outs
offers_none (TxOut.Carry p r ∷ outs) = offers_none outs
offers_none (TxOut.Shut p ∷ outs) = offers_none outs
offers_none (TxOut.Recovery a r ∷ outs) = not (is_offer r) && offers_none outs
offers_none (TxOut.Close p ∷ outs) = offers_none outs

offers_append : (xs ys : List TxOut) → offers_none (xs ++ ys) ≡ (offers_none xs && offers_none ys)
offers_append [] ys = refl
offers_append (TxOut.Tell i ∷ xs) ys = offers_append xs ys
offers_append (TxOut.Carry p r ∷ xs) ys = offers_append xs ys
offers_append (TxOut.Shut p ∷ xs) ys = offers_append xs ys
offers_append (TxOut.Recovery a r ∷ xs) ys = let rest = offers_append xs ys in grind (arith, rest)
offers_append (TxOut.Close p ∷ xs) ys = offers_append xs ys

offers_both : (xs ys : List TxOut) → offers_none xs ≡ true → offers_none ys ≡ true → offers_none (xs ++ ys) ≡ true
offers_both xs ys h i = offers_append xs ys ∙ rw (h, i) refl

offers_turn : (e : TxEvent) (s : Transaction) → IsPut e s → offers_none (transacted e s).outs ≡ true
offers_turn e s put = turn_words e s (λ outs. offers_none outs ≡ true) words put
  where
    words : AreTurnWords e s (λ outs. offers_none outs ≡ true)
    words = record {
      joined = record { none = refl; more = offers_both };
      tells = λ i. refl;
      carries = λ p r is. refl;
      leaves = λ is p r word. refl;
      shuts = λ p. refl;
      closes = λ p. refl;
      asks = λ is z b. refl;
      ready = λ z a b. refl;
      replies = λ z a b r. refl;
      forgets = λ z a b. refl;
    }

-- ---- counts of what goes out

max_none : (n : ℕ) → max 0 n ≡ n
max_none n = omega arith

max_within : (m n : ℕ) → nat_le m n ≡ true → max m n ≡ n
max_within m n h = grind (arith, nat_tests, h)

max_all : (a b c : ℕ) → max (max a b) c ≡ max a (max b c)
max_all a b c = omega arith

max_swap : (a b : ℕ) → max a b ≡ max b a
max_swap a b = omega arith

max_le : (a b n : ℕ) → nat_le a n ≡ true → nat_le b n ≡ true → nat_le (max a b) n ≡ true
max_le a b n h i = grind (arith, nat_tests, h, i)

counts_append : (who : Who) (boot : ℕ) (xs ys : List Out) → own_counts who boot (xs ++ ys) ≡ max (own_counts who boot xs) (own_counts who boot ys)
counts_append who boot [] ys = sym (max_none (own_counts who boot ys))
counts_append who boot (x ∷ xs) ys = ap (max (own_count who boot x)) (counts_append who boot xs ys) ∙ sym (max_all (own_count who boot x) (own_counts who boot xs) (own_counts who boot ys))

zero_le : (n : ℕ) → nat_le 0 n ≡ true
zero_le n = grind (arith, nat_tests)

-- what carries no Begin counts for nothing
carried_count : (who : Who) (boot : ℕ) (arcs : List Arc) (p : ℕ) (r : DialogueRecord) → begins_none (TxOut.Carry p r ∷ []) ≡ true → own_counts who boot (carried arcs p r).1 ≡ 0
carried_count who boot [] p r h = refl
carried_count who boot (a ∷ arcs) p r h = go (a.peer.node == p) (carried_count who boot arcs p r h)
  where
    on : (l : Link) (r : DialogueRecord) → begins_none (TxOut.Carry p r ∷ []) ≡ true → own_counts who boot (carried_on (record a { link = l }) r).1 ≡ 0
    on Idle r h = refl
    on (Opening x) r h = refl
    on (Offered x) r h = refl
    on (Live x y s t) (DialogueRecord.Begin u b v) h = absurd (cc (h))
    on (Live x y s t) r h = grind (arith, h)

    go : (b : Bool) → own_counts who boot (carried arcs p r).1 ≡ 0 → own_counts who boot (if◌then◌else◌ {A = List Arc × List Out} b (let s = carried_on a r in (s.0 ∷ arcs, s.1)) (let s = carried arcs p r in (a ∷ s.0, s.1))).1 ≡ 0
    go true rest = on a.link r h
    go false rest = rest

-- an offer or an answer counts for the mark that was drawn last
last_count : (who : Who) (d : Digest) (m : Mark) → is_mark m (last_mark who d) ≡ true → nat_le (count_of who d.boot m) d.drawn ≡ true
last_count who d m h = let same : m ≡ last_mark who d = marks_same m (last_mark who d) h in ap (λ (x : Mark). nat_le (count_of who d.boot x) d.drawn) same ∙ grind (arith, nat_tests)

one_count : (who : Who) (d : Digest) (arcs : List Arc) (o : TxOut) → begins_none (o ∷ []) ≡ true → is_apart o ≡ true → carry_last who d (o ∷ []) ≡ true → nat_le (own_counts who d.boot (performed_one arcs o).1) d.drawn ≡ true
one_count who d arcs (TxOut.Tell i) h k l = zero_le d.drawn
one_count who d arcs (TxOut.Carry p r) h k l = ap (λ (n : ℕ). nat_le n d.drawn) (carried_count who d.boot arcs p r h) ∙ zero_le d.drawn
one_count who d arcs (TxOut.Shut p) h k l = let z = zero_le d.drawn in grind (arith, z)
one_count who d arcs (TxOut.Recovery a (PeerRecord.OnAssoc x y q r)) h k l = absurd (cc (k))
one_count who d arcs (TxOut.Recovery a (PeerRecord.OpenAssoc x u)) h k l = max_le (count_of who d.boot x) 0 d.drawn (last_count who d x (and_left (is_mark x (last_mark who d)) true l)) (zero_le d.drawn)
one_count who d arcs (TxOut.Recovery a (PeerRecord.AcceptAssoc x y u)) h k l = max_le (count_of who d.boot y) 0 d.drawn (last_count who d y (and_left (is_mark y (last_mark who d)) true l)) (zero_le d.drawn)
one_count who d arcs (TxOut.Recovery a r) h k l = let z = zero_le d.drawn in grind (arith, z)
one_count who d arcs (TxOut.Close p) h k l = zero_le d.drawn

last_split : (who : Who) (d : Digest) (o : TxOut) (outs : List TxOut) → carry_last who d (o ∷ outs) ≡ true → (carry_last who d (o ∷ []) ≡ true) × (carry_last who d outs ≡ true)
last_split who d (TxOut.Recovery a r) outs h = (both_true (carries_last who d r) true (and_left (carries_last who d r) (carry_last who d outs) h) refl, and_right (carries_last who d r) (carry_last who d outs) h)
last_split who d _ outs h = (refl, h)

performed_count : (who : Who) (d : Digest) (arcs : List Arc) (outs : List TxOut) → begins_none outs ≡ true → are_apart outs ≡ true → carry_last who d outs ≡ true → nat_le (own_counts who d.boot (performed arcs outs).1) d.drawn ≡ true
performed_count who d arcs [] h k l = zero_le d.drawn
performed_count who d arcs (o ∷ outs) h k l =
    let both : (begins_none (o ∷ []) && begins_none outs) ≡ true = sym (none_append (o ∷ []) outs) ∙ h in
    let last = last_split who d o outs l in
    ap (λ (n : ℕ). nat_le n d.drawn) (counts_append who d.boot (performed_one arcs o).1 (performed (performed_one arcs o).0 outs).1)
    ∙ max_le (own_counts who d.boot (performed_one arcs o).1) (own_counts who d.boot (performed (performed_one arcs o).0 outs).1) d.drawn
    (one_count who d arcs o (and_left (begins_none (o ∷ [])) (begins_none outs) both) (and_left (is_apart o) (are_apart outs) k) last.0)
    (performed_count who d (performed_one arcs o).0 outs (and_right (begins_none (o ∷ [])) (begins_none outs) both) (and_right (is_apart o) (are_apart outs) k) last.1)

offers_last : (who : Who) (d : Digest) (outs : List TxOut) → offers_none outs ≡ true → carry_last who d outs ≡ true
offers_last who d [] h = refl
offers_last who d (TxOut.Tell i ∷ outs) h = offers_last who d outs h
offers_last who d (TxOut.Carry p r ∷ outs) h = offers_last who d outs h
offers_last who d (TxOut.Shut p ∷ outs) h = offers_last who d outs h
offers_last who d (TxOut.Recovery a (PeerRecord.OpenAssoc x u) ∷ outs) h = absurd (cc (h))
offers_last who d (TxOut.Recovery a (PeerRecord.AcceptAssoc x y u) ∷ outs) h = absurd (cc (h))
offers_last who d (TxOut.Recovery a r ∷ outs) h = let rest = offers_last who d outs in grind (arith, h, rest)
offers_last who d (TxOut.Close p ∷ outs) h = offers_last who d outs h

grants_plain : (t : Transaction) (arcs : List Arc) → (begins_none (grants t arcs) ≡ true) × (offers_none (grants t arcs) ≡ true)
grants_plain t [] = (refl, refl)
grants_plain t (a ∷ arcs) = let rest = grants_plain t arcs in (grind (arith, rest.0), grind (arith, rest.1))

commit_count : (who : Who) (d : Digest) (t : Transaction) (s : List TxOut × List TxOut) (arcs : List Arc) → begins_none (s.0 ++ s.1) ≡ true → are_apart (s.0 ++ s.1) ≡ true → offers_none (s.0 ++ s.1) ≡ true → nat_le (own_counts who d.boot (perform_commit d t s arcs).1) d.drawn ≡ true
commit_count who d t s arcs h k l =
    let parts = parts_apart s k in
    let one = performed arcs s.0 in
    let two = performed (committed_arcs d t one.0) (grants t one.0) in
    let three = performed two.0 s.1 in
    let both : (begins_none s.0 && begins_none s.1) ≡ true = sym (none_append s.0 s.1) ∙ h in
    let last : (offers_none s.0 && offers_none s.1) ≡ true = sym (offers_append s.0 s.1) ∙ l in
    let plain = grants_plain t one.0 in
    let a = performed_count who d arcs s.0 (and_left (begins_none s.0) (begins_none s.1) both) (and_left (are_apart s.0) (are_apart s.1) parts) (offers_last who d s.0 (and_left (offers_none s.0) (offers_none s.1) last)) in
    let b = performed_count who d (committed_arcs d t one.0) (grants t one.0) plain.0 (apart_grants t one.0) (offers_last who d (grants t one.0) plain.1) in
    let c = performed_count who d two.0 s.1 (and_right (begins_none s.0) (begins_none s.1) both) (and_right (are_apart s.0) (are_apart s.1) parts) (offers_last who d s.1 (and_right (offers_none s.0) (offers_none s.1) last)) in
    ap (λ (n : ℕ). nat_le n d.drawn) (counts_append who d.boot (one.1 ++ two.1) three.1 ∙ ap (λ (n : ℕ). max n (own_counts who d.boot three.1)) (counts_append who d.boot one.1 two.1))
    ∙ max_le (max (own_counts who d.boot one.1) (own_counts who d.boot two.1)) (own_counts who d.boot three.1) d.drawn (max_le (own_counts who d.boot one.1) (own_counts who d.boot two.1) d.drawn a b) c

played_count : (who : Who) (d : Digest) (t : Transaction) (w : Passage) (asks : Turn) → IsWhole asks → (arcs : List Arc) → begins_none asks.outs ≡ true → are_apart asks.outs ≡ true → offers_none asks.outs ≡ true → nat_le (own_counts who d.boot (played d t w asks arcs).1) d.drawn ≡ true
unfolding played
played_count who d t Commits asks whole arcs h k l = commit_count who d t (around_grants asks) arcs (ap begins_none whole ∙ h) (ap are_apart whole ∙ k) (ap offers_none whole ∙ l)
played_count who d t _ asks whole arcs h k l = performed_count who d arcs asks.outs h k (offers_last who d asks.outs l)

-- the first Begin counts for the mark of its branch
first_count : (who : Who) (boot : ℕ) (outs : List Out) (t : Aaid) (b : BranchId) → first_begin outs ≡ Some (t, b) → nat_le (count_of who boot b.mark) (own_counts who boot outs) ≡ true
first_count who boot [] t b h = absurd (cc (h))
first_count who boot (Out.Tell i ∷ outs) t b h = more 0 (own_counts who boot outs) (count_of who boot b.mark) (first_count who boot outs t b h)
  where
    more : (x y z : ℕ) → nat_le z y ≡ true → nat_le z (max x y) ≡ true
    more x y z k = grind (arith, nat_tests, k)
first_count who boot (Out.Send a (PeerRecord.OnAssoc x y q (DialogueRecord.Begin u c v)) ∷ outs) t b h =
    let same : c ≡ b = ap (λ (o : Option (Aaid × BranchId)). elim o as (λ _. BranchId) [ None ↦ b | Some p ↦ p.1 ]) h in
    ap (λ (z : BranchId). nat_le (count_of who boot z.mark) (max (count_of who boot c.mark) (own_counts who boot outs))) (sym same) ∙ here (count_of who boot c.mark) (own_counts who boot outs)
  where
    here : (x y : ℕ) → nat_le x (max x y) ≡ true
    here x y = grind (arith, nat_tests)
first_count who boot (Out.Send a (PeerRecord.OnAssoc x y q r) ∷ outs) t b h =
    let rest = first_count who boot outs t b in more (own_count who boot (Out.Send a (PeerRecord.OnAssoc x y q r))) (own_counts who boot outs) (count_of who boot b.mark) (rest (grind (arith, h)))
  where
    more : (x y z : ℕ) → nat_le z y ≡ true → nat_le z (max x y) ≡ true
    more x y z k = grind (arith, nat_tests, k)
first_count who boot (Out.Send a r ∷ outs) t b h =
    let rest = first_count who boot outs t b in more (own_count who boot (Out.Send a r)) (own_counts who boot outs) (count_of who boot b.mark) (rest (grind (arith, h)))
  where
    more : (x y z : ℕ) → nat_le z y ≡ true → nat_le z (max x y) ≡ true
    more x y z k = grind (arith, nat_tests, k)

begin_count : (who : Who) (boot : ℕ) (arcs : List Arc) (p : ℕ) (t : Aaid) (b : BranchId) (h : Holder) → is_live (link_with arcs p) ≡ true → own_counts who boot (carried arcs p (DialogueRecord.Begin t b h)).1 ≡ count_of who boot b.mark
begin_count who boot [] p t b h live = absurd (cc (live))
begin_count who boot (a ∷ arcs) p t b h live = go (a.peer.node == p) refl (begin_count who boot arcs p t b h)
  where
    last : (n : ℕ) → max n 0 ≡ n
    last n = grind (arith, nat_tests)

    on : (l : Link) → a.link ≡ l → is_live l ≡ true → own_counts who boot (carried_on a (DialogueRecord.Begin t b h)).1 ≡ count_of who boot b.mark
    on Idle j k = absurd (cc (k))
    on (Opening x) j k = absurd (cc (k))
    on (Offered x) j k = absurd (cc (k))
    on (Live x y s q) j k = rw (j, carried_on) (last (count_of who boot b.mark))

    go : (v : Bool) → (a.peer.node == p) ≡ v → (is_live (link_with arcs p) ≡ true → own_counts who boot (carried arcs p (DialogueRecord.Begin t b h)).1 ≡ count_of who boot b.mark) → own_counts who boot (carried (a ∷ arcs) p (DialogueRecord.Begin t b h)).1 ≡ count_of who boot b.mark
    go true i rest = rw (i, carried) (on a.link refl (grind (arith, live, i)))
    go false i rest = let one : is_live (link_with arcs p) ≡ true = grind (arith, live, i) in rw (i, carried) (rest one)

-- ---- the steps

abbrev IsDrawing : Who → Digest → Move → Type 0
IsDrawing who d m = Thins d.arcs m.next.arcs × IsLinked 0 d m × (are_separate d.arcs ≡ true → m.next.drawn ≡ max (own_counts who d.boot m.outs) d.drawn)

draws_perform : (who : Who) (d : Digest) (outs : List TxOut) → are_spoken outs ≡ true → carry_last who d outs ≡ true → d.drawn ≡ max (own_counts who d.boot (perform outs d).outs) d.drawn
draws_perform who d outs h l = sym (max_within (own_counts who d.boot (perform outs d).outs) d.drawn (performed_count who d d.arcs outs (spoken_none outs h) (apart_spoken outs h) l))

settled_last : (who : Who) (d : Digest) (k : Kept) (f : KeptEvent) → carry_last who d (settled k f).outs ≡ true
unfolding settled
settled_last who d k (KeptEvent.Done from b r) = last_forget who d from k.key b r
settled_last who d k KeptEvent.Forget = refl
settled_last who d k KeptEvent.Purge = refl

draws_turned : (who : Who) (d : Digest) (c : Current) (f : TxEvent) → IsPut f (seen who d.arcs c) → d.drawn ≡ max (own_counts who d.boot (turned who f d c).outs) d.drawn
draws_turned who d c f put =
    let t : Transaction = seen who d.arcs c in
    sym (max_within (own_counts who d.boot (turned who f d c).outs) d.drawn (played_count who d t _ (transacted f t) (whole_turn f t) _ (passed_turn f t put).begins (apart_turn f t put) (offers_turn f t put)))

own_next : (who : Who) (boot n : ℕ) → count_of who boot (record { boot = boot; node = who.node; count = n }) ≡ n
own_next who boot n = grind (arith, nat_tests)

max_next : (n : ℕ) → suc n ≡ max (max (suc n) 0) n
max_next n = grind (arith, nat_tests)

draws_begins : (who : Who) (q : ℕ) (d : Digest) → (begin_on who q d).next.drawn ≡ max (own_counts who d.boot (begin_on who q d).outs) d.drawn
draws_begins who q d = begin_cases (λ (m : Move). m.next.drawn ≡ max (own_counts who d.boot m.outs) d.drawn) who q d still on
  where
    id : BranchId
    id = record { superior = who.site; mark = next_mark who d }

    sent : Current → Arc → Move
    sent x y = perform (TxOut.Carry q (DialogueRecord.Begin (aaid_of x.key) id (named_holder y.dialogue)) ∷ []) (record (with_begun who (with_mark_drawn d) x (record { addr = y.peer; branch = id })) { arcs = with_dialogue d.arcs q (begun_by (named_holder y.dialogue) Side.Superior) })

    abbrev_goal : Move → Type 0
    abbrev_goal m = m.next.drawn ≡ max (own_counts who d.boot m.outs) d.drawn

    still : abbrev_goal (move [] d)
    still = sym (max_none d.drawn)

    on : (c : Current) (a : Arc) → d.current ≡ Some c → find_arc d.arcs q ≡ Some a → may_begin_on who d a ≡ true → (begun_over who q d c a).next.drawn ≡ max (own_counts who d.boot (begun_over who q d c a).outs) d.drawn
    on c a now found may =
        let live : is_live a.link ≡ true = grind (arith, may) in
        let h : Holder = named_holder a.dialogue in
        let arcs : List Arc = with_dialogue d.arcs q (begun_by h Side.Superior) in
        let linked : is_live (link_with arcs q) ≡ true = ap is_live (link_dialogue d.arcs q (begun_by h Side.Superior) q) ∙ ap (λ (o : Option Arc). is_live (link_of o)) found ∙ live in
        let one : own_counts who d.boot (carried arcs q (DialogueRecord.Begin (aaid_of c.key) id h)).1 ≡ suc d.drawn = begin_count who d.boot arcs q (aaid_of c.key) id h linked ∙ own_next who d.boot (suc d.drawn) in
        max_next d.drawn ∙ sym (ap (λ (n : ℕ). max n d.drawn) (counts_append who d.boot (carried arcs q (DialogueRecord.Begin (aaid_of c.key) id h)).1 [] ∙ ap (λ (n : ℕ). max n 0) one))

far_above : (x n k : ℕ) → nat_le k x ≡ true → nat_le (suc n) k ≡ true → max x (suc n) ≡ max x n
far_above x n k h i = grind (arith, nat_tests, h, i)

draws_root : (who : Who) (d : Digest) (m : Move) → first_begin m.outs ≡ Some (next_tree who d, next_branch who d) → m.next.drawn ≡ max (own_counts who d.boot m.outs) (suc d.drawn) → m.next.drawn ≡ max (own_counts who d.boot m.outs) d.drawn
draws_root who d m says one =
    let most : nat_le (suc (suc d.drawn)) (own_counts who d.boot m.outs) ≡ true = ap (λ (n : ℕ). nat_le n (own_counts who d.boot m.outs)) (sym (own_next who d.boot (suc (suc d.drawn)))) ∙ first_count who d.boot m.outs (next_tree who d) (next_branch who d) says in
    one ∙ far_above (own_counts who d.boot m.outs) d.drawn (suc (suc d.drawn)) most (up d.drawn)
  where
    up : (n : ℕ) → nat_le (suc n) (suc (suc n)) ≡ true
    up n = grind (arith, nat_tests)

draws_then : (who : Who) (d : Digest) (a : Move) (f : Digest → Move) → a.next.boot ≡ d.boot → a.next.drawn ≡ max (own_counts who d.boot a.outs) d.drawn → (f a.next).next.drawn ≡ max (own_counts who a.next.boot (f a.next).outs) a.next.drawn
    → (f a.next).next.drawn ≡ max (own_counts who d.boot (a.outs ++ (f a.next).outs)) d.drawn
draws_then who d a f booted one two =
    let x : ℕ = own_counts who d.boot a.outs in
    let y : ℕ = own_counts who d.boot (f a.next).outs in
    two ∙ ap (λ (k : ℕ). max (own_counts who k (f a.next).outs) a.next.drawn) booted ∙ ap (max y) one ∙ sym (max_all y x d.drawn) ∙ ap (λ (n : ℕ). max n d.drawn) (max_swap y x ∙ sym (counts_append who d.boot a.outs (f a.next).outs))

draws_steps : (who : Who) (e : Event) (s : Digest) → Steps who e s (IsDrawing who)
draws_steps who e s = record {
  still = λ d. (k1.still d, k2.still d, λ apart. sym (max_none d.drawn));
  chain = λ d a f one two quiet. (k1.chain d a f one.0 two.0 quiet, k2.chain d a f one.1 two.1 quiet, λ apart. draws_then who d a f one.1.boot (one.2 apart) (two.2 (one.0.apart apart)));
  speaks = λ d outs h own said last. (k1.speaks d outs h own said last, k2.speaks d outs h own said last, λ apart. draws_perform who d outs h last);
  changes_dialogue = λ d p f m by one. (k1.changes_dialogue d p f m by one.0, k2.changes_dialogue d p f m by one.1, λ apart. one.2 ((thins_dialogue d.arcs p f).apart apart));
  drops_arc = λ d p m at one. (k1.drops_arc d p m at one.0, k2.drops_arc d p m at one.1, λ apart. one.2 ((thins_without d.arcs p).apart apart));
  notes_kept = λ d ks m held noted one. (k1.notes_kept d ks m held noted one.0, k2.notes_kept d ks m held noted one.1, λ apart. one.2 apart);
  keeps = λ d k f held. (k1.keeps d k f held, k2.keeps d k f held, λ apart. draws_perform who d (settled k f).outs (settled_spoken k f) (settled_last who d k f));
  turns = λ d c f now at asked put gone like alike. (k1.turns d c f now at asked put gone like alike, k2.turns d c f now at asked put gone like alike, λ apart. draws_turned who d c f put);
  begins = λ d p may. (k1.begins d p may, k2.begins d p may, λ apart. draws_begins who p d);
  roots = λ d m nil may says one. (k1.roots d m nil may says one.0, k2.roots d m nil may says one.1, λ apart. draws_root who d m (says apart) (one.2 apart));
}
  where
    k1 : Steps who e s (λ d m. Thins d.arcs m.next.arcs)
    k1 = plain_steps who e s (λ d m. Thins d.arcs m.next.arcs) (thins_moves who e s)

    k2 : Steps who e s (IsLinked 0)
    k2 = plain_steps who e s (IsLinked 0) (linked_moves who e s 0)

-- ---- what comes first in an event

-- a mark that is drawn then goes out in the event
pub data First_draws (who : Who) (d : Digest) (e : Event) : Type 0 where
  No_mark : (prelude who d e).drawn ≡ d.drawn → First_draws who d e
  One_mark : (prelude who d e).drawn ≡ suc d.drawn → nat_le (suc d.drawn) (own_counts who d.boot (action who d e).outs) ≡ true → first_begin (action who d e).outs ≡ None → First_draws who d e

offers_one : (who : Who) (d : Digest) → nat_le (suc d.drawn) (max (count_of who d.boot (next_mark who d)) 0) ≡ true
offers_one who d = ap (λ (n : ℕ). nat_le (suc d.drawn) (max n 0)) (own_next who d.boot (suc d.drawn)) ∙ grind (arith, nat_tests)

call_draws : (who : Who) (d : Digest) (a : Addr) (u : ℕ) → First_draws who d (Event.Do (Request.BeginDialogue a u))
unfolding call
call_draws who d a u = One_mark refl (offers_one who d) refl

accept_draws : (who : Who) (d : Digest) (u : ℕ) → First_draws who d (Event.Do (Request.Accept u))
unfolding accept
accept_draws who d u = go (superior_arc d) refl
  where
    on : (a : Arc) (l : Link) → superior_arc d ≡ Some a → a.link ≡ l → First_draws who d (Event.Do (Request.Accept u))
    on a Idle i j = No_mark (rw (i, accepted_by) (rw (j, accepted_on) refl))
    on a (Opening x) i j = No_mark (rw (i, accepted_by) (rw (j, accepted_on) refl))
    on a (Live x y s t) i j = No_mark (rw (i, accepted_by) (rw (j, accepted_on) refl))
    on a (Offered x) i j = One_mark (rw (i, accepted_by) (rw (j, accepted_on) refl)) (rw (i, accept) (rw j (offers_one who d))) (rw (i, accept) (rw j refl))

    go : (o : Option Arc) → superior_arc d ≡ o → First_draws who d (Event.Do (Request.Accept u))
    go None i = No_mark (rw (i, accepted_by) refl)
    go (Some a) i = on a a.link i refl

pub first_draws : (who : Who) (d : Digest) (e : Event) → is_crash e ≡ false → First_draws who d e
first_draws who d (Event.Do (Request.BeginDialogue a u)) h = call_draws who d a u
first_draws who d (Event.Do (Request.Accept u)) h = accept_draws who d u
first_draws who d (Event.Do r) h = No_mark (grind arith)
first_draws who d (Event.Arrive from (PeerRecord.OnAssoc x y q (DialogueRecord.Begin t b k))) h = No_mark (go (find_arc d.arcs from.node))
  where
    go : (o : Option Arc) → (begun_in o t b (counted_in d from)).drawn ≡ d.drawn
    go None = refl
    go (Some a) = refl
first_draws who d (Event.Arrive from r) h = No_mark (grind arith)
first_draws who d Event.Crash h = absurd (cc (h))
first_draws who d _ h = No_mark refl

pub same_boot : (who : Who) (d : Digest) (e : Event) → is_crash e ≡ false → (prelude who d e).boot ≡ d.boot
same_boot who d (Event.Do r) h = grind arith
same_boot who d (Event.Arrive from (PeerRecord.OnAssoc x y q (DialogueRecord.Begin t b k))) h = go (find_arc d.arcs from.node)
  where
    go : (o : Option Arc) → (begun_in o t b (counted_in d from)).boot ≡ d.boot
    go None = refl
    go (Some a) = refl
same_boot who d (Event.Arrive from r) h = grind arith
same_boot who d Event.Crash h = absurd (cc (h))
same_boot who d _ h = refl

-- ---- every legal history

crash_drawn : (d : Digest) → (after_crash d).drawn ≡ 0
unfolding after_crash
crash_drawn d = refl

start_drawn : (o : Origin) → (digest o []).drawn ≡ 0
unfolding started
start_drawn o = refl

pub crash_is : (e : Event) → is_crash e ≡ true → e ≡ Event.Crash
crash_is Event.Crash h = refl
crash_is e h = absurd (cc (h))

drawn_step : (o : Origin) (up : Option Addr) (e : Entry) (h : List Entry) → IsGrown o up (e ∷ h) → (digest o h).drawn ≡ drawn_in o h → (digest o (e ∷ h)).drawn ≡ drawn_in o (e ∷ h)
drawn_step o up e h legal before = go (is_crash e.event) refl
  where
    d : Digest
    d = digest o h

    s : Digest
    s = prelude o.who d e.event

    m : Move
    m = action o.who d e.event

    outs : m.outs ≡ e.outs
    outs = ap (λ (x : Entry). x.outs) legal.1

    drawing : m.next.drawn ≡ max (own_counts o.who s.boot m.outs) s.drawn
    drawing = (step_move o.who d e.event (IsDrawing o.who) (draws_steps o.who e.event s) (late_law o up h legal.3) legal.0).2 (separate_prelude o.who d e.event legal.0 (separate_law o up h legal.3))

    counted : own_counts o.who d.boot m.outs ≡ own_counts o.who (boot_in o h) e.outs
    counted = ap (λ (n : ℕ). own_counts o.who n m.outs) (plain_law o up h legal.3).boot ∙ ap (own_counts o.who (boot_in o h)) outs

    calm : is_crash e.event ≡ false → m.next.drawn ≡ max (own_counts o.who d.boot m.outs) d.drawn
    calm i = on (first_draws o.who d e.event i)
      where
        at : m.next.drawn ≡ max (own_counts o.who d.boot m.outs) s.drawn
        at = drawing ∙ ap (λ (n : ℕ). max (own_counts o.who n m.outs) s.drawn) (same_boot o.who d e.event i)

        itself : (n : ℕ) → nat_le n n ≡ true
        itself n = grind (arith, nat_tests)

        on : First_draws o.who d e.event → m.next.drawn ≡ max (own_counts o.who d.boot m.outs) d.drawn
        on (No_mark j) = at ∙ ap (max (own_counts o.who d.boot m.outs)) j
        on (One_mark j k none) = at ∙ ap (max (own_counts o.who d.boot m.outs)) j ∙ far_above (own_counts o.who d.boot m.outs) d.drawn (suc d.drawn) k (itself (suc d.drawn))

    go : (b : Bool) → is_crash e.event ≡ b → (digest o (e ∷ h)).drawn ≡ drawn_in o (e ∷ h)
    go true i = ap (λ (f : Event). (action o.who d f).next.drawn) (crash_is e.event i) ∙ crash_drawn d ∙ rw (i, drawn_in) refl
    go false i = calm i ∙ ap (λ (n : ℕ). max n d.drawn) counted ∙ ap (max (own_counts o.who (boot_in o h) e.outs)) before ∙ rw (i, drawn_in) refl

pub drawn_law : (o : Origin) (up : Option Addr) (h : List Entry) → IsGrown o up h → (digest o h).drawn ≡ drawn_in o h
drawn_law o up [] legal = start_drawn o
drawn_law o up (e ∷ h) legal = drawn_step o up e h legal (drawn_law o up h legal.3)

pub drawn_agrees_law : (o : Origin) (up : Option Addr) (h : List Entry) → IsLegal o up h → drawn_agrees o h ≡ true
drawn_agrees_law o up h legal = number_self (digest o h).drawn (drawn_in o h) (drawn_law o up h legal.grown)
