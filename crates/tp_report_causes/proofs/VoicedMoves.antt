-- What every event of a node keeps of a commitment's damage, and says of it beside its associations, has a report that the user was told
-- or that came as a reply, and goes to the superior.
use Rattle.std.proofs.Common.{◌≡◌, inl, inr, ℕ, Bool, true, false, refl, ap, sym, ◌∙◌, arith, Some, None, List, [], ◌∷◌, ◌&&◌, ◌||◌, if◌then◌else◌, Option, not}
use Rattle.tp_names.specs.declared.identifiers.Addr.{Addr}
use Rattle.tp_names.specs.declared.identifiers.Aaid.{Aaid}
use Rattle.tp_names.specs.declared.identifiers.BranchId.{BranchId}
use Rattle.tp_names.specs.declared.outcome.Outcome.{Outcome}
use Rattle.tp_names.specs.declared.outcome.Report.{Report}
use Rattle.tp_names.specs.Same.{is_aaid, is_key}
use Rattle.tp_names.specs.Reports.{join, is_report_none}
use Rattle.tp_names.specs.declared.identifiers.NodeKey.{NodeKey}
use Rattle.tp_names.specs.declared.children.Child.{Child}
use Rattle.tp_records.specs.declared.dialogue.DialogueRecord.{DialogueRecord}
use Rattle.tp_records.specs.declared.peer.PeerRecord.{PeerRecord}
use Rattle.tp_records.specs.declared.peer.RecState.{RecState}
use Rattle.tp_logrec.specs.declared.record.LogRec.{LogRec}
use Rattle.tp_model.specs.Transactions.{aaid_of, Transaction, Turn, transacted}
use Rattle.tp_model.specs.declared.transaction.TxEvent.{TxEvent}
use Rattle.tp_model.specs.declared.transaction.TxOut.{TxOut}
use Rattle.tp_model.specs.Recovery.{is_commit, settled, find_owed, find_kept, without_owed, is_nothing_owed, rec_of_done, put_kept, without_kept, kept_by, kept_after, not_forgotten, recovery_answer}
use Rattle.tp_model.specs.Parts.{Who, Event, Current, Digest, Out, Arc}
use Rattle.tp_model.specs.Node.{Move, move, seen, passage, turned, followed, next_mark, is_leaving, entered, may_begin_on, begin_on, Passage, keep}
use Rattle.tp_model.specs.declared.arc.Side.{Side}
use Rattle.tp_model.specs.Dialogues.{begun_by, named_holder}
use Rattle.tp_model.specs.Arcs.{find_arc, with_dialogue}
use Rattle.tp_model.specs.declared.recovery.Kept.{Kept}
use Rattle.tp_model.specs.declared.recovery.KeptEvent.{KeptEvent}
use Rattle.tp_model.specs.declared.recovery.Question.{Question}
use Rattle.tp_model.specs.Arrivals.{branch_key, named_by_key, known_of}
use Rattle.tp_steps.specs.Clearing.{is_complete}
use Rattle.tp_steps.specs.Moves.{IsPut, Moves, IsSaid, IsFound, IsSettling, KeepsFor}
use Rattle.tp_steps.specs.Trees.{out_tells}
use Rattle.tp_histories.specs.Histories.{IsSentIn}
use Rattle.tp_steps.proofs.lemmas.Equality.{and_left, and_right, both_true, aaids_equal}
use Rattle.tp_steps.proofs.lemmas.Options.{some_same}
use Rattle.tp_steps.proofs.links.Told.{told_append, told_played}
use Rattle.tp_steps.proofs.every.BeginCases.{begun_over, begin_cases}
use Rattle.tp_agreement.proofs.OwingMoves.{sent_split, sent_performed, sent_played, settled_silent}
use Rattle.tp_report_causes.proofs.VoicedTurns.{Voices, fits_reply, fits_superior, fits_kept, fits_rec, is_key_fit, Voiced, voiced_turn, fit_in}
use Rattle.tp_steps.proofs.links.Whole.{whole_turn}

abbrev pub kept_fit : Voices → Aaid → List Kept → Bool
kept_fit v t [] = true
kept_fit v t (k ∷ ks) = fits_kept v t k.key k.superior k.side k.report && kept_fit v t ks

pub record VoicedMove (v : Voices) (t : Aaid) (m : Move) : Type 0 where
  pub kept : kept_fit v t m.next.kept ≡ true
  pub says : (z : Addr) (u : Aaid) (b : BranchId) (r : Report) → IsSentIn m.outs z (PeerRecord.RecReply u b (RecState.Done r)) → fits_reply v t z u r ≡ true

-- what is told of the tree that is current is vouched for
abbrev pub IsTold : Voices → Aaid → Digest → List Out → Type 0
IsTold v t s outs = (c : Current) (r : Report) → s.current ≡ Some c → is_aaid t (aaid_of c.key) ≡ true → out_tells (is_complete Outcome.Commit r) outs ≡ true → v.vouched r ≡ true

abbrev pub IsVoicedMove : Voices → Aaid → Digest → Digest → Move → Type 0
IsVoicedMove v t s d m = IsTold v t s m.outs → kept_fit v t d.kept ≡ true → VoicedMove v t m

-- what the event brings is vouched for
pub record Brings (v : Voices) (t : Aaid) (e : Event) (s : Digest) : Type 0 where
  pub keys : (c : Current) → s.current ≡ Some c → is_key_fit v c.key ≡ true
  pub takes : (a : Addr) (b : BranchId) (r : Report) → e ≡ Event.Arrive a (PeerRecord.RecReply t b (RecState.Done r)) → is_report_none r ≡ false → v.vouched r ≡ true
  pub answers : (a : Addr) (b : BranchId) (r : Report) → e ≡ Event.Arrive a (PeerRecord.RecCommit t b) → recovery_answer (known_of (named_by_key s (branch_key t b)) b) Question.RecCommit ≡ Some (RecState.Done r) → is_report_none r ≡ false → (v.vouched r && v.above a) ≡ true

-- ---- the list of kept transactions

pub unnoted_fit : (v : Voices) (t : Aaid) (ks : List Kept) → kept_fit v t (not_forgotten ks) ≡ kept_fit v t ks
unnoted_fit v t [] = refl
unnoted_fit v t (k ∷ ks) = ap (λ (b : Bool). fits_kept v t k.key k.superior k.side k.report && b) (unnoted_fit v t ks)

pub found_fit : (v : Voices) (t : Aaid) (ks : List Kept) (j : NodeKey) (x : Kept) → kept_fit v t ks ≡ true → find_kept ks j ≡ Some x → fits_kept v t x.key x.superior x.side x.report ≡ true
found_fit v t [] j x h i = absurd (cc (i))
found_fit v t (k ∷ ks) j x h i = go (is_key k.key j) refl (found_fit v t ks j x (and_right (fits_kept v t k.key k.superior k.side k.report) (kept_fit v t ks) h))
  where
    go : (b : Bool) → is_key k.key j ≡ b → (find_kept ks j ≡ Some x → fits_kept v t x.key x.superior x.side x.report ≡ true) → fits_kept v t x.key x.superior x.side x.report ≡ true
    go true m rest =
        let one : Some k ≡ Some x = rw (m, find_kept) at i in
        ap (λ (y : Kept). fits_kept v t y.key y.superior y.side y.report) (sym (some_same k x one)) ∙ and_left (fits_kept v t k.key k.superior k.side k.report) (kept_fit v t ks) h
    go false m rest = rest (rw (m, find_kept) at i)

put_fit : (v : Voices) (t : Aaid) (ks : List Kept) (k : Kept) → kept_fit v t ks ≡ true → fits_kept v t k.key k.superior k.side k.report ≡ true → kept_fit v t (put_kept ks k) ≡ true
put_fit v t [] k h i = both_true (fits_kept v t k.key k.superior k.side k.report) true i refl
put_fit v t (x ∷ xs) k h i = go (is_key x.key k.key) refl (put_fit v t xs k)
  where
    rest : kept_fit v t xs ≡ true
    rest = and_right (fits_kept v t x.key x.superior x.side x.report) (kept_fit v t xs) h

    go : (b : Bool) → is_key x.key k.key ≡ b → (kept_fit v t xs ≡ true → fits_kept v t k.key k.superior k.side k.report ≡ true → kept_fit v t (put_kept xs k) ≡ true) → kept_fit v t (if b then record k { forgot = x.forgot } ∷ xs else x ∷ put_kept xs k) ≡ true
    go true m more = both_true (fits_kept v t k.key k.superior k.side k.report) (kept_fit v t xs) i rest
    go false m more = both_true (fits_kept v t x.key x.superior x.side x.report) (kept_fit v t (put_kept xs k)) (and_left (fits_kept v t x.key x.superior x.side x.report) (kept_fit v t xs) h) (more rest i)

gone_fit : (v : Voices) (t : Aaid) (ks : List Kept) (j : NodeKey) → kept_fit v t ks ≡ true → kept_fit v t (without_kept ks j) ≡ true
gone_fit v t [] j h = refl
gone_fit v t (x ∷ xs) j h = go (is_key x.key j) (gone_fit v t xs j)
  where
    rest : kept_fit v t xs ≡ true
    rest = and_right (fits_kept v t x.key x.superior x.side x.report) (kept_fit v t xs) h

    go : (b : Bool) → (kept_fit v t xs ≡ true → kept_fit v t (without_kept xs j) ≡ true) → kept_fit v t (if b then xs else x ∷ without_kept xs j) ≡ true
    go true more = rest
    go false more = both_true (fits_kept v t x.key x.superior x.side x.report) (kept_fit v t (without_kept xs j)) (and_left (fits_kept v t x.key x.superior x.side x.report) (kept_fit v t xs) h) (more rest)

after_fit : (v : Voices) (t : Aaid) (r : Option LogRec) (ks : List Kept) → fits_rec v t r ≡ true → kept_fit v t ks ≡ true → kept_fit v t (kept_after r ks) ≡ true
unfolding kept_by
after_fit v t None ks h i = i
after_fit v t (Some (LogRec.Boot n)) ks h i = i
after_fit v t (Some (LogRec.Ready n k s cs)) ks h i = i
after_fit v t (Some (LogRec.Heuristic n k o)) ks h i = i
after_fit v t (Some (LogRec.Commit n k s cs)) ks h i = i
after_fit v t (Some (LogRec.Damage n k s o r cs)) ks h i = put_fit v t ks (record { node = n; key = k; superior = s; side = o; report = r; owed = cs; forgot = false }) i h
after_fit v t (Some (LogRec.End n k o)) ks h i = gone_fit v t ks k i

-- ---- a kept transaction that is settled

joined_fits : (v : Voices) (m x : Bool) (a b : Report) → (m || x || is_report_none a || v.vouched a) ≡ true → (x ≡ false → is_report_none b ≡ false → v.vouched b ≡ true) → (m || x || is_report_none (join a b) || v.vouched (join a b)) ≡ true
joined_fits v true x a b h f = refl
joined_fits v false true a b h f = refl
joined_fits v false false Report.None Report.None h f = refl
joined_fits v false false Report.None Report.Hazard h f = f refl refl
joined_fits v false false Report.None Report.Mix h f = f refl refl
joined_fits v false false Report.Hazard Report.None h f = h
joined_fits v false false Report.Hazard Report.Hazard h f = h
joined_fits v false false Report.Hazard Report.Mix h f = f refl refl
joined_fits v false false Report.Mix Report.None h f = h
joined_fits v false false Report.Mix Report.Hazard h f = h
joined_fits v false false Report.Mix Report.Mix h f = h

settled_fits : (v : Voices) (t : Aaid) (e : Event) (s d : Digest) (k : Kept) (f : KeptEvent) → Brings v t e s → fits_kept v t k.key k.superior k.side k.report ≡ true → IsSettling e s d k f → fits_rec v t (settled k f).rec ≡ true
unfolding settled
settled_fits v t e s d k (KeptEvent.Done a b r) bring fits w = owed (find_owed k.owed b)
  where
    m : Bool
    m = not (is_commit k.side)

    x : Bool
    x = not (is_aaid t k.key.aaid)

    brought : x ≡ false → is_report_none r ≡ false → v.vouched r ≡ true
    brought own some = bring.takes a b r (w.1 ∙ ap (λ (u : Aaid). Event.Arrive a (PeerRecord.RecReply u b (RecState.Done r))) (sym (aaids_equal t k.key.aaid (off (is_aaid t k.key.aaid) own) ∙ aaids_equal k.key.aaid w.0 w.2))) some
      where
        off : (c : Bool) → not c ≡ false → c ≡ true
        off true h = refl
        off false h = absurd (cc (h))

    joined : fits_kept v t k.key k.superior k.side (join k.report r) ≡ true
    joined =
        both_true (fits_superior v k.key k.superior) (m || x || is_report_none (join k.report r) || v.vouched (join k.report r)) (and_left (fits_superior v k.key k.superior) (m || x || is_report_none k.report || v.vouched k.report) fits)
        (joined_fits v m x k.report r (and_right (fits_superior v k.key k.superior) (m || x || is_report_none k.report || v.vouched k.report) fits) brought)

    damage : (c : Bool) → fits_rec v t (Some (if c then LogRec.End k.node k.key k.side else LogRec.Damage k.node k.key k.superior k.side (join k.report r) (without_owed k.owed b))) ≡ true
    damage true = refl
    damage false = joined

    owed : (c : Option Child) → fits_rec v t (elim c as (λ _. Option LogRec) [ None ↦ None | Some y ↦ Some (rec_of_done k b r) ]) ≡ true
    owed None = refl
    owed (Some y) = damage (is_nothing_owed (without_owed k.owed b) && k.forgot)
settled_fits v t e s d k KeptEvent.Forget bring fits w = go (is_commit k.side && is_nothing_owed k.owed)
  where
    go : (c : Bool) → fits_rec v t (if c then Some (LogRec.End k.node k.key k.side) else None) ≡ true
    go true = refl
    go false = refl
settled_fits v t e s d k KeptEvent.Purge bring fits w = refl

-- ---- the steps

same_move : (v : Voices) (t : Aaid) (s d : Digest) (m : Move) → m.next.kept ≡ d.kept → ((z : Addr) (u : Aaid) (b : BranchId) (r : Report) → IsSentIn m.outs z (PeerRecord.RecReply u b (RecState.Done r)) → fits_reply v t z u r ≡ true) → IsVoicedMove v t s d m
same_move v t s d m same says told old = record { kept = ap (kept_fit v t) same ∙ old; says = says }

or_last : (n x w : Bool) → w ≡ true → (n || x || w) ≡ true
or_last n x w h = rw h (grind arith)

keeps_fit : (v : Voices) (t : Aaid) (ks : List Kept) (a : Addr) (u : Aaid) (b : BranchId) (r : Report) → kept_fit v t ks ≡ true → KeepsFor ks a u r → (k : Kept) × (fits_kept v t k.key k.superior k.side k.report ≡ true) × (is_commit k.side ≡ true) × (k.key.aaid ≡ u) × (k.superior ≡ Some a) × (k.report ≡ r)
keeps_fit v t [] a u b r h i = absurd i
keeps_fit v t (k ∷ ks) a u b r h (inl i) = (k, and_left (fits_kept v t k.key k.superior k.side k.report) (kept_fit v t ks) h, i.0, i.1, i.2, i.3)
keeps_fit v t (k ∷ ks) a u b r h (inr i) = keeps_fit v t ks a u b r (and_right (fits_kept v t k.key k.superior k.side k.report) (kept_fit v t ks) h) i

reply_of_kept : (c x n w u : Bool) → (not c || x || n || w) ≡ true → c ≡ true → u ≡ true → (n || x || (w && u)) ≡ true
reply_of_kept true true n w u h i j = grind arith
reply_of_kept true false true w u h i j = refl
reply_of_kept true false false w u h i j = both_true w u h j
reply_of_kept false x n w u h i j = absurd (cc (i))

said_fits : (v : Voices) (t : Aaid) (e : Event) (s d : Digest) → Brings v t e s → kept_fit v t d.kept ≡ true → (z : Addr) (u : Aaid) (b : BranchId) (r : Report) → IsSaid e s d z (PeerRecord.RecReply u b (RecState.Done r)) → fits_reply v t z u r ≡ true
said_fits v t e s d bring old z u b r (inl i) =
    let k = keeps_fit v t d.kept z u b r old i.3 in
    let above : v.above z ≡ true = sym (ap (fits_superior v k.0.key) k.4) ∙ and_left (fits_superior v k.0.key k.0.superior) (not (is_commit k.0.side) || not (is_aaid t k.0.key.aaid) || is_report_none k.0.report || v.vouched k.0.report) k.1 in
    let told : (not (is_commit k.0.side) || not (is_aaid t u) || is_report_none r || v.vouched r) ≡ true =
    sym (ap (λ (y : Aaid). not (is_commit k.0.side) || not (is_aaid t y) || is_report_none k.0.report || v.vouched k.0.report) k.3 ∙ ap (λ (y : Report). not (is_commit k.0.side) || not (is_aaid t u) || is_report_none y || v.vouched y) k.5)
    ∙ and_right (fits_superior v k.0.key k.0.superior) (not (is_commit k.0.side) || not (is_aaid t k.0.key.aaid) || is_report_none k.0.report || v.vouched k.0.report) k.1 in
    reply_of_kept (is_commit k.0.side) (not (is_aaid t u)) (is_report_none r) (v.vouched r) (v.above z) told k.2 above
said_fits v t e s d bring old z u b r (inr i) = go (is_report_none r) refl (is_aaid t u) refl
  where
    go : (n : Bool) → is_report_none r ≡ n → (x : Bool) → is_aaid t u ≡ x → fits_reply v t z u r ≡ true
    go true m x k = rw m refl
    go false m false k = rw (m, k) refl
    go false m true k =
        let tree : u ≡ t = sym (aaids_equal t u k) in
        or_last (is_report_none r) (not (is_aaid t u)) (v.vouched r && v.above z)
        (bring.answers z b r (i.0 ∙ ap (λ (y : Aaid). Event.Arrive z (PeerRecord.RecCommit y b)) tree) (ap (λ (y : Aaid). recovery_answer (known_of (named_by_key s (branch_key y b)) b) Question.RecCommit) (sym tree) ∙ i.1) m)

turns : (who : Who) (v : Voices) (t : Aaid) (e : Event) (f : TxEvent) (s d : Digest) (c : Current) → Brings v t e s → s.current ≡ Some c → IsPut f (seen who d.arcs c) → IsVoicedMove v t s d (turned who f d c)
turns who v t e f s d c bring at put told old = record {
  kept = after_fit v t a.rec d.kept voiced.rec old;
  says = λ z u b r h. fit_in v t a.outs z u b r voiced.outs (sent_played d q w a (whole_turn f q) (entered q w d.arcs) z (PeerRecord.RecReply u b (RecState.Done r)) refl h);
}
  where
    q : Transaction
    q = seen who d.arcs c

    a : Turn
    a = transacted f q

    w : Passage
    w = passage (is_leaving f) q.phase a.next.phase

    voiced : Voiced v t a
    voiced = (voiced_turn v t f q put).voiced (bring.keys c at) (λ r own h. told c r at own (told_played (is_complete Outcome.Commit r) d q w a (whole_turn f q) (entered q w d.arcs) ∙ h))

chained : (v : Voices) (t : Aaid) (s d : Digest) (a : Move) (f : Digest → Move) → IsVoicedMove v t s d a → IsVoicedMove v t s a.next (f a.next) → IsVoicedMove v t s d (followed a f)
chained v t s d a f one two told old =
    let x : VoicedMove v t a = one (λ c r at own h. told c r at own (told_append (is_complete Outcome.Commit r) a.outs (f a.next).outs ∙ rw h refl)) old in
    let y : VoicedMove v t (f a.next) = two (λ c r at own h. told c r at own (told_append (is_complete Outcome.Commit r) a.outs (f a.next).outs ∙ rw h (grind arith))) x.kept in
    record {
      kept = y.kept;
      says = λ z u b r h. elim (sent_split a.outs (f a.next).outs z (PeerRecord.RecReply u b (RecState.Done r)) h) [ inl i ↦ x.says z u b r i | inr i ↦ y.says z u b r i ];
    }

keeps : (v : Voices) (t : Aaid) (e : Event) (s d : Digest) (k : Kept) (f : KeptEvent) → Brings v t e s → IsFound d.kept k → IsSettling e s d k f → IsVoicedMove v t s d (keep (settled k f) d)
keeps v t e s d k f bring found settling told old = record {
  kept = after_fit v t (settled k f).rec d.kept (settled_fits v t e s d k f bring fits settling) old;
  says = λ z u b r h. absurd (silent u b r (settled_silent k f z (PeerRecord.RecReply u b (RecState.Done r)) (sent_performed d.arcs (settled k f).outs z (PeerRecord.RecReply u b (RecState.Done r)) refl h)));
}
  where
    fits : fits_kept v t k.key k.superior k.side k.report ≡ true
    fits = sym (ap (λ (y : Kept). fits_kept v t y.key y.superior y.side y.report) found.2) ∙ found_fit v t d.kept k.key found.0 old found.1

    silent : (u : Aaid) (b : BranchId) (r : Report) → (x : Aaid) × (y : BranchId) × (PeerRecord.RecReply u b (RecState.Done r) ≡ PeerRecord.Forget x y) → ⊥
    silent u b r h = cc (h.2)

begins : (who : Who) (v : Voices) (t : Aaid) (s d : Digest) (q : ℕ) → IsVoicedMove v t s d (begin_on who q d)
begins who v t s d q = begin_cases (IsVoicedMove v t s d) who q d (same_move v t s d (move [] d) refl (λ z u b r h. absurd h)) on
  where
    on : (c : Current) (a : Arc) → d.current ≡ Some c → find_arc d.arcs q ≡ Some a → may_begin_on who d a ≡ true → IsVoicedMove v t s d (begun_over who q d c a)
    on c a now found may =
        same_move v t s d (begun_over who q d c a) refl
        (λ z u b r h.
        absurd (sent_performed (with_dialogue d.arcs q (begun_by (named_holder a.dialogue) Side.Superior)) (TxOut.Carry q (DialogueRecord.Begin (aaid_of c.key) (record { superior = who.site; mark = next_mark who d }) (named_holder a.dialogue)) ∷ []) z (PeerRecord.RecReply u b (RecState.Done r)) refl h))

pub voiced_moves : (who : Who) (e : Event) (s : Digest) (v : Voices) (t : Aaid) → Brings v t e s → Moves who e s (IsVoicedMove v t s)
voiced_moves who e s v t bring = record {
  still = λ d. same_move v t s d (move [] d) refl (λ z u b r h. absurd h);
  chain = λ d a f one two still. chained v t s d a f one two;
  speaks = λ d outs h own said told old.
      record { kept = old; says = λ z u b r i. said_fits v t e s d bring old z u b r (own.1 z (PeerRecord.RecReply u b (RecState.Done r)) (sent_performed d.arcs outs z (PeerRecord.RecReply u b (RecState.Done r)) refl i)) };
  changes_dialogue = λ d p f m by one told old. one told old;
  drops_arc = λ d p m at one told old. one told old;
  notes_kept = λ d ks m held one told old. one told (sym (unnoted_fit v t ks) ∙ ap (kept_fit v t) held.1 ∙ unnoted_fit v t d.kept ∙ old);
  keeps = λ d k f held. keeps v t e s d k f bring held.3 held.4;
  turns = λ d c f now at asked put gone. turns who v t e f s d c bring at put;
  begins = λ d q free. begins who v t s d q;
  roots = λ d m nil may one told old. one told old;
}
