-- In every legal history what is kept of a tree's commitment, and what is said of it to the superior beside their association, has a
-- report that the user was told, or that came as a reply.
use Rattle.std.proofs.Common.{◌≡◌, inl, inr, Bool, true, false, refl, ap, sym, ◌∙◌, arith, Some, None, List, [], ◌∷◌, ◌&&◌, ◌||◌, Option, not, subst}
use Rattle.tp_names.specs.declared.identifiers.Addr.{Addr}
use Rattle.tp_names.specs.declared.identifiers.Aaid.{Aaid}
use Rattle.tp_names.specs.declared.identifiers.BranchId.{BranchId}
use Rattle.tp_names.specs.declared.outcome.Outcome.{Outcome}
use Rattle.tp_names.specs.declared.outcome.Report.{Report}
use Rattle.tp_names.specs.Same.{is_aaid, is_key}
use Rattle.tp_names.specs.Reports.{is_report_none}
use Rattle.tp_names.specs.declared.identifiers.NodeKey.{NodeKey}
use Rattle.tp_records.specs.declared.peer.PeerRecord.{PeerRecord}
use Rattle.tp_records.specs.declared.peer.RecState.{RecState}
use Rattle.tp_model.specs.Transactions.{aaid_of, node_key, superior_of}
use Rattle.tp_model.specs.Parts.{Under, Root, Key, Who, Origin, Event, Entry, Current, Digest}
use Rattle.tp_model.specs.Recovery.{is_commit, find_kept, recovery_answer}
use Rattle.tp_model.specs.History.{digest}
use Rattle.tp_model.specs.Legal.{IsGrown}
use Rattle.tp_model.specs.Promises.{has_told_in}
use Rattle.tp_model.specs.Events.{refusal, action}
use Rattle.tp_model.specs.declared.recovery.Known.{Known}
use Rattle.tp_model.specs.Questions.{is_at}
use Rattle.tp_model.specs.declared.recovery.Kept.{Kept}
use Rattle.tp_model.specs.declared.recovery.Question.{Question}
use Rattle.tp_model.specs.Arrivals.{branch_key, named_by_key, known_of, current_with, refused_arrival, kept_superior, is_other}
use Rattle.tp_steps.specs.Clearing.{is_complete, same_report}
use Rattle.tp_steps.specs.Trees.{out_tells}
use Rattle.tp_steps.specs.Moves.{prelude, IsLate}
use Rattle.tp_histories.specs.Members.{IsOnce}
use Rattle.tp_histories.specs.Histories.{HasSent}
use Rattle.tp_steps.proofs.lemmas.Equality.{and_left, and_right, both_true, aaids_equal, or_case, addrs_equal}
use Rattle.tp_steps.proofs.upward.Rising.{report_self}
use Rattle.tp_steps.proofs.every.EveryEvent.{every_move, plain_arrival}
use Rattle.tp_steps.proofs.words.Leaves.{aaid_same}
use Rattle.tp_steps.proofs.lemmas.UpwardWords.{still_kept}
use Rattle.tp_steps.proofs.log.ApartLog.{keys_equal}
use Rattle.tp_histories.proofs.trees.Late.{late_law}
use Rattle.tp_histories.proofs.pairs.PairedSteps.{placed_event}
use Rattle.tp_histories.proofs.trees.Above.{IsKeyOf}
use Rattle.tp_histories.proofs.log.KeptLog.{kept_prelude}
use Rattle.tp_histories.proofs.upward.SpeaksUp.{tells_event}
use Rattle.tp_agreement.proofs.OwingLaw.{sent_now, kept_none}
use Rattle.tp_agreement.proofs.OwingMoves.{found_key}
use Rattle.tp_agreement.proofs.Unknown.{key_done}
use Rattle.tp_report_causes.proofs.VoicedTurns.{Voices, fits_reply, fits_superior, fits_kept, is_key_fit}
use Rattle.tp_report_causes.proofs.VoicedMoves.{Brings, IsTold, kept_fit, VoicedMove, IsVoicedMove, voiced_moves, unnoted_fit, found_fit}
use Rattle.tp_reports.proofs.ClearedReplies.{bare_none}

-- a reply brought that report of the tree
abbrev pub is_reply : Report → Aaid → Event → Bool
is_reply r t (Event.Arrive a (PeerRecord.RecReply u b (RecState.Done s))) = is_aaid t u && same_report r s
is_reply r t e = false

abbrev pub took_reply : Report → Aaid → List Entry → Bool
took_reply r t [] = false
took_reply r t (e ∷ h) = is_reply r t e.event || took_reply r t h

abbrev pub is_told_or_took : Report → Aaid → Origin → List Entry → Bool
is_told_or_took r t o h = has_told_in (out_tells (is_complete Outcome.Commit r)) o t h || took_reply r t h

abbrev pub voices_of : Origin → Option Addr → Aaid → List Entry → Voices
voices_of o up t h = record { vouched = λ r. is_told_or_took r t o h; above = λ a. is_at up a.node }

-- ---- more is told

vouched_more : (o : Origin) (t : Aaid) (e : Entry) (h : List Entry) (r : Report) → is_told_or_took r t o h ≡ true → is_told_or_took r t o (e ∷ h) ≡ true
vouched_more o t e h r i = elim (or_case (has_told_in (out_tells (is_complete Outcome.Commit r)) o t h) (took_reply r t h) i) [ inl j ↦ rw j (grind arith) | inr j ↦ rw j (grind arith) ]

kept_wider : (o : Origin) (up : Option Addr) (t : Aaid) (e : Entry) (h : List Entry) (ks : List Kept) → kept_fit (voices_of o up t h) t ks ≡ true → kept_fit (voices_of o up t (e ∷ h)) t ks ≡ true
kept_wider o up t e h [] i = refl
kept_wider o up t e h (k ∷ ks) i =
    both_true (fits_kept (voices_of o up t (e ∷ h)) t k.key k.superior k.side k.report) (kept_fit (voices_of o up t (e ∷ h)) t ks) (one (and_left (fits_kept (voices_of o up t h) t k.key k.superior k.side k.report) (kept_fit (voices_of o up t h) t ks) i))
    (kept_wider o up t e h ks (and_right (fits_kept (voices_of o up t h) t k.key k.superior k.side k.report) (kept_fit (voices_of o up t h) t ks) i))
  where
    front : Bool
    front = not (is_commit k.side) || not (is_aaid t k.key.aaid) || is_report_none k.report

    one : fits_kept (voices_of o up t h) t k.key k.superior k.side k.report ≡ true → fits_kept (voices_of o up t (e ∷ h)) t k.key k.superior k.side k.report ≡ true
    one j =
        both_true (fits_superior (voices_of o up t (e ∷ h)) k.key k.superior) (front || is_told_or_took k.report t o (e ∷ h)) (and_left (fits_superior (voices_of o up t h) k.key k.superior) (front || is_told_or_took k.report t o h) j)
        (still_kept front (is_told_or_took k.report t o h) (is_told_or_took k.report t o (e ∷ h)) (vouched_more o t e h k.report) (and_right (fits_superior (voices_of o up t h) k.key k.superior) (front || is_told_or_took k.report t o h) j))

-- ---- an answer to the superior's question

-- the question comes from the superior that is kept
asked_from : (who : Who) (d : Digest) (a : Addr) (t : Aaid) (b : BranchId) → refused_arrival who d a (PeerRecord.RecCommit t b) ≡ None → is_other (kept_superior (named_by_key d (branch_key t b))) a ≡ false
unfolding refused_arrival
asked_from who d a t b ok = go (is_other (kept_superior (named_by_key d (branch_key t b))) a) refl
  where
    go : (v : Bool) → is_other (kept_superior (named_by_key d (branch_key t b))) a ≡ v → v ≡ false
    go false i = refl
    go true i = absurd (grind (arith, ok, i))

side_kept : (k : Known) (s : Outcome) (q r : Report) → k.kept ≡ Some (s, q) → recovery_answer k Question.RecCommit ≡ Some (RecState.Done r) → is_commit s ≡ true
unfolding recovery_answer
side_kept k s q r i x = grind (arith, i, x)

report_kept : (k : Known) (s : Outcome) (q r : Report) → k.kept ≡ Some (s, q) → recovery_answer k Question.RecCommit ≡ Some (RecState.Done r) → q ≡ r
unfolding recovery_answer
report_kept k s q r i x = grind (arith, i, x)

same_addr : (a b : Addr) → is_other (Some a) b ≡ false → a ≡ b
same_addr a b h = addrs_equal a b (grind (arith, h))

none_with : (d : Digest) (t : Aaid) (b : BranchId) (r : Report) → IsLate d → recovery_answer (known_of (named_by_key d (branch_key t b)) b) Question.RecCommit ≡ Some (RecState.Done r) → current_with d (branch_key t b) ≡ None
none_with d t b r late x = go d.current refl
  where
    go : (v : Option Current) → d.current ≡ v → current_with d (branch_key t b) ≡ None
    go None i = rw (i, current_with) refl
    go (Some c) i = on (is_key (node_key c.key) (branch_key t b)) refl
      where
        on : (w : Bool) → is_key (node_key c.key) (branch_key t b) ≡ w → current_with d (branch_key t b) ≡ None
        on false m = rw (i, current_with) (rw m refl)
        on true m = absurd (key_done d t b r c late i (keys_equal (node_key c.key) (branch_key t b) m) x)

answered_fit : (v : Voices) (who : Who) (d : Digest) (t : Aaid) (a : Addr) (b : BranchId) (r : Report) → IsLate d → kept_fit v t d.kept ≡ true → refused_arrival who d a (PeerRecord.RecCommit t b) ≡ None
    → recovery_answer (known_of (named_by_key d (branch_key t b)) b) Question.RecCommit ≡ Some (RecState.Done r) → is_report_none r ≡ false → (v.vouched r && v.above a) ≡ true
answered_fit v who d t a b r late fit ok x some = go (find_kept d.kept (branch_key t b)) refl
  where
    n : Known
    n = known_of (named_by_key d (branch_key t b)) b

    go : (k : Option Kept) → find_kept d.kept (branch_key t b) ≡ k → (v.vouched r && v.above a) ≡ true
    go None i = absurd (bare_none n r (ap (λ (o : Option Kept). elim o as (λ _. Option (Outcome × Report)) [ None ↦ None | Some y ↦ Some (y.side, y.report) ]) i) some x)
    go (Some k) i = both_true (v.vouched r) (v.above a) vouched (above k.superior refl)
      where
        kept : n.kept ≡ Some (k.side, k.report)
        kept = ap (λ (o : Option Kept). elim o as (λ _. Option (Outcome × Report)) [ None ↦ None | Some y ↦ Some (y.side, y.report) ]) i

        key : k.key ≡ branch_key t b
        key = found_key d.kept (branch_key t b) k i

        fits : fits_kept v t (branch_key t b) k.superior k.side r ≡ true
        fits =
            sym (ap (λ (j : NodeKey). fits_kept v t j k.superior k.side k.report) key ∙ ap (λ (q : Report). fits_kept v t (branch_key t b) k.superior k.side q) (report_kept n k.side k.report r kept x)) ∙ found_fit v t d.kept (branch_key t b) k fit i

        told : (not (is_commit k.side) || not (is_aaid t t) || is_report_none r || v.vouched r) ≡ true
        told = and_right (fits_superior v (branch_key t b) k.superior) (not (is_commit k.side) || not (is_aaid t t) || is_report_none r || v.vouched r) fits

        vouched : v.vouched r ≡ true
        vouched = last (is_commit k.side) (is_aaid t t) (is_report_none r) (v.vouched r) told (side_kept n k.side k.report r kept x) (aaid_same t) some
          where
            last : (c y n w : Bool) → (not c || not y || n || w) ≡ true → c ≡ true → y ≡ true → n ≡ false → w ≡ true
            last true true false w h i j k = h
            last c true true w h i j k = absurd (cc (k))
            last c false n w h i j k = absurd (cc (j))
            last false true n w h i j k = absurd (cc (i))

        superior : fits_superior v (branch_key t b) k.superior ≡ true
        superior = and_left (fits_superior v (branch_key t b) k.superior) (not (is_commit k.side) || not (is_aaid t t) || is_report_none r || v.vouched r) fits

        other : is_other k.superior a ≡ false
        other =
            sym (ap (λ (o : Option Current). is_other (elim o as (λ _. Option Addr) [ Some c ↦ superior_of c.key | None ↦ elim (find_kept d.kept (branch_key t b)) as (λ _. Option Addr) [ None ↦ None | Some y ↦ y.superior ] ]) a) (none_with d t b r late x)
            ∙ ap (λ (o : Option Kept). is_other (elim o as (λ _. Option Addr) [ None ↦ None | Some y ↦ y.superior ]) a) i)
            ∙ asked_from who d a t b ok

        above : (s : Option Addr) → k.superior ≡ s → v.above a ≡ true
        above None j = absurd (cc (ap (fits_superior v (branch_key t b)) (sym j) ∙ superior))
        above (Some z) j = ap v.above (sym (same_addr z a (ap (λ (o : Option Addr). is_other o a) (sym j) ∙ other))) ∙ ap (fits_superior v (branch_key t b)) (sym j) ∙ superior

-- ---- an event

key_fit : (who : Who) (v : Voices) (up : Option Addr) → ((a : Addr) → is_at up a.node ≡ true → v.above a ≡ true) → (k : Key) → IsKeyOf who up k → is_key_fit v k ≡ true
key_fit who v up f (Root u) h = refl
key_fit who v up f (Under u b s) h = f s h

told_first : (x y : Bool) → x ≡ true → (x || y) ≡ true
told_first x y h = rw h refl

voiced_entry : (o : Origin) (up : Option Addr) (e : Entry) (h : List Entry) (t : Aaid) → o.start.records ≡ [] → IsGrown o up (e ∷ h) → IsOnce o (e ∷ h) → kept_fit (voices_of o up t h) t (digest o h).kept ≡ true → VoicedMove (voices_of o up t (e ∷ h)) t (action o.who (digest o h) e.event)
voiced_entry o up e h t empty legal once old = every_move o.who d e.event (IsVoicedMove v t s) (voiced_moves o.who e.event s v t bring) (late_law o up h legal.3) legal.0 told first
  where
    d : Digest
    d = digest o h

    s : Digest
    s = prelude o.who d e.event

    v : Voices
    v = voices_of o up t (e ∷ h)

    wide : kept_fit v t d.kept ≡ true
    wide = kept_wider o up t e h d.kept old

    first : kept_fit v t s.kept ≡ true
    first = sym (unnoted_fit v t s.kept) ∙ ap (kept_fit v t) (kept_prelude o.who d e.event).0 ∙ unnoted_fit v t d.kept ∙ wide

    told : IsTold v t s (action o.who d e.event).outs
    told c r at own i =
        let k : has_told_in (out_tells (is_complete Outcome.Commit r)) o (aaid_of c.key) (e ∷ h) ≡ true = (tells_event o up e h empty legal once.1).tells c at Outcome.Commit r i in
        told_first (has_told_in (out_tells (is_complete Outcome.Commit r)) o t (e ∷ h)) (took_reply r t (e ∷ h)) (subst (λ (u : Aaid). has_told_in (out_tells (is_complete Outcome.Commit r)) o u (e ∷ h) ≡ true) (sym (aaids_equal t (aaid_of c.key) own)) k)

    took : (a : Addr) (b : BranchId) (r : Report) → e.event ≡ Event.Arrive a (PeerRecord.RecReply t b (RecState.Done r)) → is_report_none r ≡ false → v.vouched r ≡ true
    took a b r is some = let k : is_reply r t e.event ≡ true = ap (is_reply r t) is ∙ both_true (is_aaid t t) (same_report r r) (aaid_same t) (report_self r) in rw k (grind arith)

    answers : (a : Addr) (b : BranchId) (r : Report) → e.event ≡ Event.Arrive a (PeerRecord.RecCommit t b) → recovery_answer (known_of (named_by_key s (branch_key t b)) b) Question.RecCommit ≡ Some (RecState.Done r) → is_report_none r ≡ false → (v.vouched r && v.above a) ≡ true
    answers a b r is x some =
        answered_fit v o.who d t a b r (late_law o up h legal.3) wide (plain_arrival o.who d a (PeerRecord.RecCommit t b) (subst (λ (f : Event). refusal o.who d f ≡ None) is legal.0))
        (sym (ap (λ (f : Event). recovery_answer (known_of (named_by_key (prelude o.who d f) (branch_key t b)) b) Question.RecCommit) is) ∙ x) some

    bring : Brings v t e.event s
    bring = record { keys = λ c at. key_fit o.who v up (λ a i. i) c.key ((placed_event o up e h 0 empty legal).keyed c at); takes = took; answers = answers }

-- ---- every legal history

pub voiced_law : (o : Origin) (up : Option Addr) (h : List Entry) (t : Aaid) → o.start.records ≡ [] → IsGrown o up h → IsOnce o h → kept_fit (voices_of o up t h) t (digest o h).kept ≡ true
voiced_law o up [] t empty legal once = ap (kept_fit (voices_of o up t []) t) (kept_none o empty)
voiced_law o up (e ∷ h) t empty legal once = (voiced_entry o up e h t empty legal once (voiced_law o up h t empty legal.3 once.1)).kept

-- who says Done with a report to a node beside the association stands below it, and its user was told so, or it took such a reply
pub replied : (o : Origin) (up : Option Addr) (h : List Entry) (z : Addr) (t : Aaid) (b : BranchId) (r : Report) → o.start.records ≡ [] → IsGrown o up h → IsOnce o h → is_report_none r ≡ false → HasSent h z (PeerRecord.RecReply t b (RecState.Done r)) → (is_told_or_took r t o h ≡ true) × (is_at up z.node ≡ true)
replied o up [] z t b r empty legal once some s = absurd s
replied o up (e ∷ h) z t b r empty legal once some (inr s) = let k = replied o up h z t b r empty legal.3 once.1 some s in (vouched_more o t e h r k.0, k.1)
replied o up (e ∷ h) z t b r empty legal once some (inl s) =
    let fits : fits_reply (voices_of o up t (e ∷ h)) t z t r ≡ true = (voiced_entry o up e h t empty legal once (voiced_law o up h t empty legal.3 once.1)).says z t b r (sent_now o up e h z (PeerRecord.RecReply t b (RecState.Done r)) legal s) in
    let both : (is_told_or_took r t o (e ∷ h) && is_at up z.node) ≡ true = rest (is_report_none r) (is_aaid t t) (is_told_or_took r t o (e ∷ h) && is_at up z.node) fits some (aaid_same t) in
    (and_left (is_told_or_took r t o (e ∷ h)) (is_at up z.node) both, and_right (is_told_or_took r t o (e ∷ h)) (is_at up z.node) both)
  where
    rest : (n x w : Bool) → (n || not x || w) ≡ true → n ≡ false → x ≡ true → w ≡ true
    rest false true w h i j = h
    rest true x w h i j = absurd (cc (i))
    rest false false w h i j = absurd (cc (j))
