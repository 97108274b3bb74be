-- What a node in doubt makes of its superior's answer: it commits, or rolls back, where its associations have numbers left.
use Rattle.std.proofs.Common.{if◌then◌else◌, ◌≡◌, ◌⊎◌, inl, inr, ℕ, suc, ◌+◌, ◌≤◌, Bool, true, false, refl, ap, ◌∙◌, arith, Option, Some, None, List, [], ◌∷◌, ◌++◌, ◌&&◌, ◌||◌, ◌==◌, not, nat_lt, nat_le, length}
use Rattle.std.proofs.lemmas.Bool.Decides.{nat_tests}
use Rattle.tp_names.specs.declared.identifiers.Aaid.{Aaid}
use Rattle.tp_names.specs.declared.identifiers.Addr.{Addr}
use Rattle.tp_names.specs.declared.identifiers.BranchId.{BranchId}
use Rattle.tp_records.specs.declared.dialogue.DialogueRecord.{DialogueRecord}
use Rattle.tp_records.specs.declared.indication.Indication.{Indication}
use Rattle.tp_records.specs.declared.peer.PeerRecord.{PeerRecord}
use Rattle.tp_records.specs.declared.peer.RecState.{RecState}
use Rattle.tp_model.specs.declared.arc.Phase.{Phase}
use Rattle.tp_model.specs.declared.transaction.TxEvent.{TxEvent}
use Rattle.tp_model.specs.declared.transaction.TxOut.{TxOut}
use Rattle.tp_model.specs.Parts.{Who, Event, Link, Idle, Opening, Offered, Live, Dialogue, Arc, Key, Root, Under, Branch, Current, Digest}
use Rattle.tp_model.specs.Links.{greatest}
use Rattle.tp_model.specs.Arcs.{carried, performed, with_dialogues}
use Rattle.tp_model.specs.Transactions.{Transaction, carry_up, carry_down, order, begin_rolling, complete_rollback}
use Rattle.tp_model.specs.Node.{Move, move, phase_of, passed, seen, seen_row, seen_rows, started_next, transact, turned, entered, played}
use Rattle.tp_model.specs.Arrivals.{branch_key, current_with, named_by_key, kept_superior, is_other, is_current_ready, refused_arrival, take_ready_reply}
use Rattle.tp_model.specs.Events.{refusal, refused_plainly, verdict_within, needs_numbers, some_past_numbers, action}
use Rattle.tp_model.proofs.Verdicts.{plainly_not, none_if_accepted}
use Rattle.tp_agreement.proofs.Unknown.{own_with}
use Rattle.tp_finishing.specs.Doubt.{sent_on_link, HaveNumbers}
use Rattle.tp_finishing.proofs.Answering.{addr_self}
use Rattle.tp_finishing.proofs.Still.{past_more}

-- ---- words on associations that have numbers left

pub count_carried : List TxOut → ℕ
count_carried [] = 0
count_carried (TxOut.Carry p r ∷ outs) = suc (count_carried outs)
count_carried (o ∷ outs) = count_carried outs

-- the user is told, or a word goes to a peer
abbrev is_word : TxOut → Bool
is_word (TxOut.Tell i) = true
is_word (TxOut.Carry p r) = true
is_word _ = false

abbrev pub are_words : List TxOut → Bool
are_words [] = true
are_words (o ∷ outs) = is_word o && are_words outs

pub fewer : (m n : ℕ) (arcs : List Arc) → m ≤ n → HaveNumbers n arcs → HaveNumbers m arcs
fewer m n [] h i = tt
fewer m n (a ∷ arcs) h i = (omega (arith, h, i.0), fewer m n arcs h i.1)

below_greatest : (s m : ℕ) → s + suc m ≤ greatest → nat_le greatest s ≡ false
below_greatest s m h = grind (arith, nat_tests, h)

one_less : (s m : ℕ) → s + suc m ≤ greatest → suc s + m ≤ greatest
one_less s m h = omega (arith, h)

carried_within : (m p : ℕ) (r : DialogueRecord) (arcs : List Arc) → HaveNumbers (suc m) arcs → (some_past_numbers (carried arcs p r).1 ≡ false) × HaveNumbers m (carried arcs p r).0
carried_within m p r [] h = (refl, tt)
carried_within m p r (a ∷ arcs) h = go (a.peer.node == p) refl (carried_within m p r arcs h.1)
  where
    on : (l : Link) → a.link ≡ l → sent_on_link l + suc m ≤ greatest → (a.peer.node == p) ≡ true → (some_past_numbers (carried (a ∷ arcs) p r).1 ≡ false) × HaveNumbers m (carried (a ∷ arcs) p r).0
    on Idle i k j = rw (j, carried) (rw i (refl, (omega (arith, k), fewer m (suc m) arcs (omega arith) h.1)))
    on (Opening x) i k j = rw (j, carried) (rw i (refl, (omega (arith, k), fewer m (suc m) arcs (omega arith) h.1)))
    on (Offered x) i k j = rw (j, carried) (rw i (refl, (omega (arith, k), fewer m (suc m) arcs (omega arith) h.1)))
    on (Live x y s t) i k j = rw (j, carried) (rw i (ap (λ (b : Bool). b || false) (below_greatest s m k), (one_less s m k, fewer m (suc m) arcs (omega arith) h.1)))

    go : (b : Bool) → (a.peer.node == p) ≡ b → (some_past_numbers (carried arcs p r).1 ≡ false) × HaveNumbers m (carried arcs p r).0 → (some_past_numbers (carried (a ∷ arcs) p r).1 ≡ false) × HaveNumbers m (carried (a ∷ arcs) p r).0
    go true j rest = on a.link refl h.0 j
    go false j rest = rw (j, carried) (rest.0, (omega (arith, h.0), rest.1))

words_within : (arcs : List Arc) (outs : List TxOut) → are_words outs ≡ true → HaveNumbers (count_carried outs) arcs → some_past_numbers (performed arcs outs).1 ≡ false
unfolding count_carried
words_within arcs [] h n = refl
words_within arcs (TxOut.Tell i ∷ outs) h n = words_within arcs outs h n
words_within arcs (TxOut.Carry p r ∷ outs) h n =
    let one = carried_within (count_carried outs) p r arcs n in
    let rest = words_within (carried arcs p r).0 outs (grind (arith, h)) one.1 in
    past_more (carried arcs p r).1 (performed (carried arcs p r).0 outs).1 ∙ rw (one.0, rest) refl
words_within arcs (o ∷ outs) h n = absurd (grind (arith, h))

chosen_within : (n : ℕ) (arcs : List Arc) (t : Arc → Bool) (f : Arc → Dialogue) → HaveNumbers n arcs → HaveNumbers n (with_dialogues arcs t f)
chosen_within n [] t f h = tt
chosen_within n (a ∷ arcs) t f h = go (t a) (chosen_within n arcs t f h.1)
  where
    go : (b : Bool) → HaveNumbers n (with_dialogues arcs t f) → HaveNumbers n ((if b then record a { dialogue = f a } else a) ∷ with_dialogues arcs t f)
    go true rest = (h.0, rest)
    go false rest = (h.0, rest)

-- ---- how many words

count_more : (xs ys : List TxOut) → count_carried (xs ++ ys) ≡ count_carried xs + count_carried ys
unfolding count_carried
count_more [] ys = omega arith
count_more (TxOut.Tell i ∷ xs) ys = count_more xs ys
count_more (TxOut.Carry p r ∷ xs) ys = let rest = count_more xs ys in omega (arith, rest)
count_more (TxOut.Shut p ∷ xs) ys = count_more xs ys
count_more (TxOut.Recovery a r ∷ xs) ys = count_more xs ys
count_more (TxOut.Close p ∷ xs) ys = count_more xs ys

pub words_more : (xs ys : List TxOut) → are_words xs ≡ true → are_words ys ≡ true → are_words (xs ++ ys) ≡ true
words_more [] ys h i = i
words_more (x ∷ xs) ys h i = let rest = words_more xs ys (grind (arith, h)) i in grind (arith, h, rest)

-- words alone, and so many at most go to peers
abbrev pub Words : ℕ → List TxOut → Type 0
Words n outs = (are_words outs ≡ true) × (count_carried outs ≤ n)

join_count : (a b c m n : ℕ) → a ≡ b + c → b ≤ m → c ≤ n → a ≤ m + n
join_count a b c m n h i j = omega (arith, h, i, j)

pub joined : (m n : ℕ) (xs ys : List TxOut) → Words m xs → Words n ys → Words (m + n) (xs ++ ys)
joined m n xs ys h i = (words_more xs ys h.0 i.0, join_count (count_carried (xs ++ ys)) (count_carried xs) (count_carried ys) m n (count_more xs ys) h.1 i.1)

pub nothing : Words 0 []
unfolding count_carried
nothing = (refl, omega arith)

pub told : (i : Indication) → Words 0 (TxOut.Tell i ∷ [])
unfolding count_carried
told i = (refl, omega arith)

pub down_words : (arcs : List Arc) (bs : List Branch) (r : DialogueRecord) → Words (length bs) (carry_down (seen_rows arcs bs) r)
unfolding count_carried
down_words arcs [] r = (refl, omega arith)
down_words arcs (b ∷ bs) r = go ((seen_row arcs b).live && not b.left) (down_words arcs bs r)
  where
    go : (v : Bool) → Words (length bs) (carry_down (seen_rows arcs bs) r)
        → Words (length (b ∷ bs)) (if v then TxOut.Carry b.peer.node r ∷ carry_down (seen_rows arcs bs) r else carry_down (seen_rows arcs bs) r)
    go true rest = (rest.0, omega (arith, rest.1))
    go false rest = (rest.0, omega (arith, rest.1))

pub up_words : (t : Transaction) (r : DialogueRecord) → Words 1 (carry_up t r)
unfolding count_carried
up_words t r = go t.key t.up
  where
    go : (k : Key) (u : Bool) → Words 1 (carry_up (record t { key = k; up = u }) r)
    go (Root a) u = (refl, omega arith)
    go (Under a b s) true = (refl, omega arith)
    go (Under a b s) false = (refl, omega arith)

pub within_turn : (drawn n : ℕ) (arcs : List Arc) (t : Arc → Bool) (f : Arc → Dialogue) (outs : List TxOut) → drawn ≤ greatest → Words n outs → HaveNumbers n arcs
    → (nat_lt greatest drawn || some_past_numbers (performed (with_dialogues arcs t f) outs).1) ≡ false
within_turn drawn n arcs t f outs h w k =
    let past = words_within (with_dialogues arcs t f) outs w.0 (fewer (count_carried outs) n (with_dialogues arcs t f) w.1 (chosen_within n arcs t f k)) in
    grind (arith, nat_tests, h, past)

-- ---- the answer of a superior

-- in doubt under that superior
abbrev pub doubting : Current → Aaid → BranchId → Addr → Current
doubting c t b a = record c { phase = Phase.Ready; key = Under t b a }

reply_turn : (who : Who) (d : Digest) (c : Current) (t : Aaid) (b : BranchId) (a : Addr) (s : RecState) → d.current ≡ Some (doubting c t b a) → take_ready_reply who t b s d ≡ started_next who (passed who (TxEvent.Reply b s) d (doubting c t b a)) (turned who (TxEvent.Reply b s) d (doubting c t b a))
unfolding transact
reply_turn who d c t b a s at =
    let named : current_with d (branch_key t b) ≡ Some (doubting c t b a) = own_with d (doubting c t b a) at in
    ap (λ (o : Option Current). if is_current_ready (record { current = o; kept = (named_by_key d (branch_key t b)).kept }) then transact who (TxEvent.Reply b s) d else move [] d) named
    ∙ ap (λ (o : Option Current). elim o as (λ _. Move) [ None ↦ move [] d | Some v ↦ started_next who (passed who (TxEvent.Reply b s) d v) (turned who (TxEvent.Reply b s) d v) ]) at

own_superior : (d : Digest) (c : Current) (t : Aaid) (b : BranchId) (a : Addr) → d.current ≡ Some (doubting c t b a) → is_other (kept_superior (named_by_key d (branch_key t b))) a ≡ false
own_superior d c t b a at =
    let named : current_with d (branch_key t b) ≡ Some (doubting c t b a) = own_with d (doubting c t b a) at in
    ap (λ (o : Option Current). is_other (kept_superior (record { current = o; kept = (named_by_key d (branch_key t b)).kept })) a) named ∙ rw (addr_self a) refl

commits_within : (who : Who) (d : Digest) (c : Current) (t : Aaid) (b : BranchId) (a : Addr) → d.drawn ≤ greatest → HaveNumbers (suc (length c.branches)) d.arcs → needs_numbers (turned who (TxEvent.Reply b RecState.Commit) d (doubting c t b a)) ≡ false
unfolding played entered order
commits_within who d c t b a h n =
    within_turn d.drawn (length c.branches + 0) d.arcs _ _ (carry_down (seen_rows d.arcs c.branches) DialogueRecord.Commit ++ (TxOut.Tell Indication.Commit ∷ [])) h
    (joined (length c.branches) 0 (carry_down (seen_rows d.arcs c.branches) DialogueRecord.Commit) (TxOut.Tell Indication.Commit ∷ []) (down_words d.arcs c.branches DialogueRecord.Commit) (told Indication.Commit))
    (fewer (length c.branches + 0) (suc (length c.branches)) d.arcs (omega arith) n)

rolls_within : (who : Who) (d : Digest) (c : Current) (t : Aaid) (b : BranchId) (a : Addr) → d.drawn ≤ greatest → HaveNumbers (suc (length c.branches)) d.arcs → needs_numbers (turned who (TxEvent.Reply b RecState.Unknown) d (doubting c t b a)) ≡ false
unfolding played entered begin_rolling complete_rollback
rolls_within who d c t b a h n =
    within_turn d.drawn (0 + (1 + length c.branches) + 0) d.arcs _ _ (((TxOut.Tell Indication.Rollback ∷ []) ++ (carry_up q DialogueRecord.Rollback ++ carry_down (seen_rows d.arcs c.branches) DialogueRecord.Rollback)) ++ []) h
    (joined (0 + (1 + length c.branches)) 0 ((TxOut.Tell Indication.Rollback ∷ []) ++ (carry_up q DialogueRecord.Rollback ++ carry_down (seen_rows d.arcs c.branches) DialogueRecord.Rollback)) []
    (joined 0 (1 + length c.branches) (TxOut.Tell Indication.Rollback ∷ []) (carry_up q DialogueRecord.Rollback ++ carry_down (seen_rows d.arcs c.branches) DialogueRecord.Rollback) (told Indication.Rollback)
    (joined 1 (length c.branches) (carry_up q DialogueRecord.Rollback) (carry_down (seen_rows d.arcs c.branches) DialogueRecord.Rollback) (up_words q DialogueRecord.Rollback) (down_words d.arcs c.branches DialogueRecord.Rollback)))
    nothing)
    (fewer (0 + (1 + length c.branches) + 0) (suc (length c.branches)) d.arcs (omega arith) n)
  where
    q : Transaction
    q = record (seen who d.arcs (doubting c t b a)) { superior_rolled = true }

-- ---- it is taken, and ends the doubt

-- it commits, or rolls back
abbrev pub IsResolved : Digest → Type 0
IsResolved d = (phase_of d ≡ Phase.Committing) ⊎ (phase_of d ≡ Phase.Rolling)

pub record Hears (who : Who) (d : Digest) (f : Event) : Type 0 where
  pub taken : refusal who d f ≡ None
  pub resolved : IsResolved (action who d f).next

over_commit : (who : Who) (d : Digest) (c : Current) (t : Aaid) (b : BranchId) (a : Addr) → d.current ≡ Some (doubting c t b a) → take_ready_reply who t b RecState.Commit d ≡ turned who (TxEvent.Reply b RecState.Commit) d (doubting c t b a)
unfolding order
over_commit who d c t b a at = reply_turn who d c t b a RecState.Commit at

over_unknown : (who : Who) (d : Digest) (c : Current) (t : Aaid) (b : BranchId) (a : Addr) → d.current ≡ Some (doubting c t b a) → take_ready_reply who t b RecState.Unknown d ≡ turned who (TxEvent.Reply b RecState.Unknown) d (doubting c t b a)
unfolding begin_rolling complete_rollback
over_unknown who d c t b a at = reply_turn who d c t b a RecState.Unknown at

commit_phase : (who : Who) (d : Digest) (c : Current) (t : Aaid) (b : BranchId) (a : Addr) → phase_of (turned who (TxEvent.Reply b RecState.Commit) d (doubting c t b a)).next ≡ Phase.Committing
unfolding order
commit_phase who d c t b a = refl

rolls_phase : (who : Who) (d : Digest) (c : Current) (t : Aaid) (b : BranchId) (a : Addr) → phase_of (turned who (TxEvent.Reply b RecState.Unknown) d (doubting c t b a)).next ≡ Phase.Rolling
unfolding begin_rolling complete_rollback
rolls_phase who d c t b a = refl

pub hears_commit : (who : Who) (d : Digest) (c : Current) (t : Aaid) (b : BranchId) (a : Addr) → d.current ≡ Some (doubting c t b a) → d.drawn ≤ greatest → HaveNumbers (suc (length c.branches)) d.arcs → Hears who d (Event.Arrive a (PeerRecord.RecReply t b RecState.Commit))
unfolding refused_arrival
hears_commit who d c t b a at h n = record { taken = taken; resolved = inl (ap (λ (m : Move). phase_of m.next) same ∙ commit_phase who d c t b a) }
  where
    f : Event
    f = Event.Arrive a (PeerRecord.RecReply t b RecState.Commit)

    same : action who d f ≡ turned who (TxEvent.Reply b RecState.Commit) d (doubting c t b a)
    same = over_commit who d c t b a at

    plain : refused_plainly who d f ≡ None
    plain = rw (own_superior d c t b a at) refl

    enough : needs_numbers (action who d f) ≡ false
    enough = ap needs_numbers same ∙ commits_within who d c t b a h n

    taken : refusal who d f ≡ None
    taken = none_if_accepted who d f (plainly_not who d f plain ∙ rw (enough, verdict_within) refl)

pub hears_unknown : (who : Who) (d : Digest) (c : Current) (t : Aaid) (b : BranchId) (a : Addr) → d.current ≡ Some (doubting c t b a) → d.drawn ≤ greatest → HaveNumbers (suc (length c.branches)) d.arcs → Hears who d (Event.Arrive a (PeerRecord.RecReply t b RecState.Unknown))
unfolding refused_arrival
hears_unknown who d c t b a at h n = record { taken = taken; resolved = inr (ap (λ (m : Move). phase_of m.next) same ∙ rolls_phase who d c t b a) }
  where
    f : Event
    f = Event.Arrive a (PeerRecord.RecReply t b RecState.Unknown)

    same : action who d f ≡ turned who (TxEvent.Reply b RecState.Unknown) d (doubting c t b a)
    same = over_unknown who d c t b a at

    plain : refused_plainly who d f ≡ None
    plain = rw (own_superior d c t b a at) refl

    enough : needs_numbers (action who d f) ≡ false
    enough = ap needs_numbers same ∙ rolls_within who d c t b a h n

    taken : refusal who d f ≡ None
    taken = none_if_accepted who d f (plainly_not who d f plain ∙ rw (enough, verdict_within) refl)
