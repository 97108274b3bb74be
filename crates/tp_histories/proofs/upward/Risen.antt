-- What every event of a node says to its superior stands in order: an instance of the steps of a node.
use Rattle.std.proofs.Common.{◌≡◌, ◌⊎◌, inl, inr, ℕ, Bool, true, false, refl, ap, sym, subst, ◌∙◌, arith, Option, Some, None, List, [], ◌∷◌, ◌++◌, ◌+◌, ◌&&◌}
use Rattle.std.proofs.lemmas.List.{append-nil}
use Rattle.tp_names.specs.declared.identifiers.Aaid.{Aaid}
use Rattle.tp_names.specs.declared.identifiers.BranchId.{BranchId}
use Rattle.tp_names.specs.declared.identifiers.NodeKey.{NodeKey}
use Rattle.tp_names.specs.declared.identifiers.Addr.{Addr}
use Rattle.tp_names.specs.Same.{is_aaid}
use Rattle.tp_records.specs.declared.request.Request.{Request}
use Rattle.tp_records.specs.declared.indication.Indication.{Indication}
use Rattle.tp_records.specs.declared.dialogue.DialogueRecord.{DialogueRecord}
use Rattle.tp_records.specs.declared.peer.PeerRecord.{PeerRecord}
use Rattle.tp_records.specs.declared.peer.RecState.{RecState}
use Rattle.tp_logrec.specs.declared.record.LogRec.{LogRec}
use Rattle.tp_model.specs.declared.arc.Side.{Side}
use Rattle.tp_model.specs.declared.transaction.TxEvent.{TxEvent}
use Rattle.tp_model.specs.declared.transaction.TxOut.{TxOut}
use Rattle.tp_model.specs.declared.recovery.Kept.{Kept}
use Rattle.tp_model.specs.declared.recovery.KeptEvent.{KeptEvent}
use Rattle.tp_model.specs.Parts.{Who, Event, Arc, Idle, Key, Root, Under, Branch, Current, Digest}
use Rattle.tp_model.specs.Links.{is_live}
use Rattle.tp_model.specs.Dialogues.{is_nil, is_active, begun_by, named_holder}
use Rattle.tp_model.specs.Arcs.{find_arc, link_with, with_dialogue}
use Rattle.tp_model.specs.Transactions.{Transaction, Turn, aaid_of, is_under_at, find_row, transacted}
use Rattle.tp_model.specs.Recovery.{settled}
use Rattle.tp_model.specs.Node.{Move, move, followed, perform, next_mark, with_mark_drawn, phase_of, seen, Passage, passage, is_leaving, turned, fresh_current, with_begun, may_begin_on, begin_on, keep, branches_of, remaining, entered}
use Rattle.tp_model.specs.Events.{refusal, action}
use Rattle.tp_model.specs.Outcomes.{is_unchanged}
use Rattle.tp_model.specs.Questions.{is_begin, said_to}
use Rattle.tp_steps.specs.Turns.{loses}
use Rattle.tp_steps.specs.Moves.{IsAskedByRecord, IsAskedByRequest, IsAsked, IsPut, IsLate, prelude, Moves, are_spoken}
use Rattle.tp_steps.specs.Passages.{is_commit_rec, IsLogged}
use Rattle.tp_steps.specs.Trees.{commits_tree, out_tells}
use Rattle.tp_steps.specs.Facts.{only_words, spoken, stays, ends_in, none_of, BranchKey, id_at, find_branch, key_at, HasPlace, HasPlaceAt, words_to, IsHeard, Reads}
use Rattle.tp_steps.specs.Clearing.{is_complete_none, is_complete, damages_tree}
use Rattle.tp_steps.specs.Owing.{is_damage_rec}
use Rattle.tp_steps.proofs.links.Told.{told_append, told_played}
use Rattle.tp_steps.specs.Upward.{voting_from, each_up, Deeds, may_say, Votes, Tells, Rises, IsRising}
use Rattle.tp_histories.specs.Upward.{VotesAt, TellsAt, IsRisen}
use Rattle.tp_steps.proofs.links.Links.{said_append, link_dialogue}
use Rattle.tp_steps.proofs.links.Apart.{apart_spoken, apart_turn}
use Rattle.tp_steps.proofs.every.EveryEvent.{every_move}
use Rattle.tp_steps.proofs.lemmas.Words.{dead_spoken, dead_stays, none_append, none_last}
use Rattle.tp_steps.proofs.links.Wrapped.{Agrees, agrees_performed, agrees_played, words_append}
use Rattle.tp_steps.proofs.words.Hushed.{spoken_none, settled_spoken}
use Rattle.tp_steps.proofs.words.HeardTurned.{seen_find, seen_sees}
use Rattle.tp_steps.proofs.words.Heard.{heard_moves, dropped_live}
use Rattle.tp_steps.proofs.words.Leaves.{aaid_same}
use Rattle.tp_steps.proofs.lemmas.Equality.{and_left, and_right, both_true}
use Rattle.tp_steps.proofs.lemmas.UpwardWords.{up_append, voting_append, is_telling, none_telling, none_up, none_voting}
use Rattle.tp_steps.proofs.upward.Rising.{rising_turn}
use Rattle.tp_steps.proofs.every.BeginCases.{begun_over, begin_cases, begin_word, begin_arcs}
use Rattle.tp_steps.proofs.lemmas.Options.{some_same}
use Rattle.tp_steps.proofs.log.Owned.{key_aaid}
use Rattle.tp_steps.proofs.links.Whole.{whole_turn}

-- ---- moves that say nothing upwards that matters

risen_none : (e : Event) (p : ℕ) (fall : Bool) (s d : Digest) (m : Move) → none_of is_telling (words_to p m.outs) ≡ true → ((v : Bool) → VotesAt v d.current p → VotesAt v m.next.current p) → IsRisen e p fall s d m
risen_none e p fall s d m none keeps = record {
  words = λ ks g n v free calm place w k. none_up ks g n v (words_to p m.outs) none;
  votes = λ v live w. subst (λ (u : Bool). VotesAt u m.next.current p) (sym (none_voting v (words_to p m.outs) (none_telling (words_to p m.outs) none))) (keeps v w);
}

silent : (p : ℕ) (ws : List DialogueRecord) → ws ≡ [] → none_of is_telling ws ≡ true
silent p ws h = rw h refl

risen_quiet : (e : Event) (p : ℕ) (fall : Bool) (s d : Digest) (m : Move) → words_to p m.outs ≡ [] → m.next.current ≡ d.current → IsRisen e p fall s d m
risen_quiet e p fall s d m none same = risen_none e p fall s d m (silent p (words_to p m.outs) none) (λ v w. subst (λ (o : Option Current). VotesAt v o p) (sym same) w)

risen_perform : (e : Event) (p : ℕ) (fall : Bool) (s d : Digest) (outs : List TxOut) → are_spoken outs ≡ true → IsRisen e p fall s d (perform outs d)
risen_perform e p fall s d outs h =
    let a = agrees_performed d.arcs outs p (apart_spoken outs h) in
    risen_quiet e p fall s d (perform outs d) (a.words ∙ spoken_none (is_live (link_with d.arcs p)) p outs h) refl

risen_keep : (e : Event) (p : ℕ) (fall : Bool) (s d : Digest) (k : Kept) (f : KeptEvent) → IsRisen e p fall s d (keep (settled k f) d)
risen_keep e p fall s d k f =
    let outs : List TxOut = (settled k f).outs in
    let h = settled_spoken k f in
    let a = agrees_performed d.arcs outs p (apart_spoken outs h) in
    risen_quiet e p fall s d (keep (settled k f) d) (a.words ∙ spoken_none (is_live (link_with d.arcs p)) p outs h) refl

-- ---- an event of the transaction

votes_left : (v : Bool) (u : Transaction) (p : ℕ) → Votes v u p → VotesAt v (remaining u) p
votes_left v u p w h = let x = w h in (
  record {
    key = u.key;
    phase = u.phase;
    branches = branches_of u.rows;
    told_prepare = u.told_prepare;
    asked = u.asked;
    owes = u.owes;
    superior_rolled = u.superior_rolled;
    decision = u.decision;
    own = u.own;
  },
  rw (x.0, remaining) refl,
  x.0,
  x.1,
  x.2,
)

asked_request : (r : Request) (c : Current) → IsAskedByRequest r c (TxEvent.User Request.Unchanged) → is_unchanged (Event.Do r) ≡ true
asked_request Request.Unchanged c h = refl
asked_request (Request.UAbort p) c h = absurd (cc (h.0))
asked_request (Request.DeferEnd p) c h = absurd (cc (h))
asked_request (Request.DeferGrant p) c h = absurd (cc (h))
asked_request (Request.Prepare p) c h = absurd (cc (h))
asked_request Request.Commit c h = absurd (cc (h))
asked_request Request.Done c h = absurd (cc (h))
asked_request Request.Rollback c h = absurd (cc (h))
asked_request r c h = absurd h

asked_record : (from : Addr) (r : PeerRecord) (c : Current) → IsAskedByRecord from r c (TxEvent.User Request.Unchanged) → ⊥
asked_record from (PeerRecord.ShutAssoc x None) c h = h
asked_record from (PeerRecord.ShutAssoc x (Some y)) c h = cc (h)
asked_record from (PeerRecord.OnAssoc x y q r) c h = cc (h)
asked_record from (PeerRecord.RecCommit t b) c h = cc (h.0)
asked_record from (PeerRecord.RecReply t b RecState.Commit) c h = cc (h.0)
asked_record from (PeerRecord.RecReply t b (RecState.Done r)) c h = cc (h.0)
asked_record from (PeerRecord.RecReply t b RecState.Unknown) c h = cc (h.0)
asked_record from (PeerRecord.RecReply t b RecState.RetryLater) c h = cc (h.0)
asked_record from r c h = h

pub unchanged_asked : (e : Event) (c : Current) → IsAsked e c (TxEvent.User Request.Unchanged) → is_unchanged e ≡ true
unchanged_asked (Event.Declare s) c h = absurd h
unchanged_asked (Event.Do r) c h = asked_request r c h
unchanged_asked (Event.Arrive from r) c h = absurd (asked_record from r c h)
unchanged_asked (Event.Break from r) c h = absurd (cc (h))
unchanged_asked (Event.Lose p) c h = absurd (cc (h))
unchanged_asked (Event.Heur o) c h = absurd (cc (h))
unchanged_asked (Event.GiveUp p) c h = absurd (cc (h))
unchanged_asked Event.Retry c h = absurd (cc (h))
unchanged_asked Event.Purge c h = absurd h
unchanged_asked Event.Crash c h = absurd h

-- a commitment that a turn logs is of its tree
commit_of : (q : Transaction) (r : Option LogRec) (u : Transaction) → IsLogged q r u → is_commit_rec r ≡ true → commits_tree (aaid_of q.key) r ≡ true
commit_of q (Some (LogRec.Commit n k s cs)) u l h = ap (is_aaid (aaid_of q.key)) (ap (λ (j : NodeKey). j.aaid) l.0 ∙ key_aaid q.key) ∙ aaid_same (aaid_of q.key)
commit_of q _ u l h = absurd cc

-- so is a damage
damage_of : (q : Transaction) (r : Option LogRec) (u : Transaction) → IsLogged q r u → is_damage_rec r ≡ true → damages_tree (aaid_of q.key) r ≡ true
damage_of q (Some (LogRec.Damage n k s o r cs)) u l h = ap (is_aaid (aaid_of q.key)) (ap (λ (j : NodeKey). j.aaid) l.0 ∙ key_aaid q.key) ∙ aaid_same (aaid_of q.key)
damage_of q _ u l h = absurd cc

risen_turned : (who : Who) (e : Event) (f : TxEvent) (d s : Digest) (c : Current) (p : ℕ) (sup fall : Bool) (shut : ℕ) → Reads who e p sup fall shut s → d.current ≡ Some c → s.current ≡ Some c → IsAsked e c f
    → IsPut f (seen who d.arcs c) → ((n : ℕ) → loses f n ≡ true → link_with d.arcs n ≡ Idle) → IsRisen e p fall s d (turned who f d c)
risen_turned who e f d s c p sup fall shut reads now at asked put gone = go (is_live (link_with d.arcs p)) refl
  where
    t : Transaction
    t = seen who d.arcs c

    a : Turn
    a = transacted f t

    w : Passage
    w = passage (is_leaving f) t.phase a.next.phase

    m : Move
    m = turned who f d c

    agrees : Agrees p (is_live (link_with d.arcs p)) a.outs m.outs (is_live (link_with m.next.arcs p))
    agrees = agrees_played d t w a (whole_turn f t) d.arcs p (apart_turn f t put)

    rising : IsRising f t p t a
    rising = rising_turn f t p put

    kept : (b : Bool) → loses f p ≡ b → is_live (link_with d.arcs p) ≡ true → loses f p ≡ false
    kept false i l = i
    kept true i l = absurd (cc (l, ap is_live (gone p i)))

    place_it : (ks : List BranchKey) (n : ℕ) → HasPlaceAt ks n d.current p → HasPlace ks n t p
    place_it ks n h x y z l key u = h c x y z now l key u

    votes_it : (v : Bool) → VotesAt v d.current p → Votes v t p
    votes_it v u h =
        let x = u h in
        let same : x.0 ≡ c = some_same x.0 c (sym x.1 ∙ now) in
        (ap (λ (b : Current). is_nil b.phase) (sym same) ∙ x.2, ap (λ (b : Current). is_under_at b.key p) (sym same) ∙ x.3, ap (λ (b : Current). is_active b.phase) (sym same) ∙ x.4)

    no_branch : key_at d.current p ≡ None → id_at t p ≡ None
    no_branch free = on (find_branch c.branches p) refl
      where
        some_key : {k : BranchKey} → None ≡ Some k → ⊥
        some_key h = cc (h)

        on : (o : Option Branch) → find_branch c.branches p ≡ o → id_at t p ≡ None
        on None i = let row : find_row t.rows p ≡ None = seen_find d.arcs c.branches p ∙ rw i refl in rw (row, id_at) refl
        on (Some b) i = absurd (some_key {k = (aaid_of c.key, b.id)} (sym free ∙ rw (now, put.late, i, key_at) refl))

    tells_it : (g : Deeds) → TellsAt g e fall s m → Tells g f t t a
    tells_it g k = record {
      committing = λ h. k.committing c at h;
      commits = λ h. k.commits c at (commit_of t a.rec a.next rising.passed.logs h);
      rolling = λ h. k.rolling c at h;
      falls = λ h. k.falls c at (reads.falls_so c f d.arcs at asked h);
      leaves = λ h. k.leaves c at (unchanged_asked e c (subst (λ (x : TxEvent). IsAsked e c x) h asked));
      completes = λ h. k.completes c at (told_played is_complete_none d t w a (whole_turn f t) (entered t w d.arcs) ∙ h);
      damages = λ h. k.damages c at (damage_of t a.rec a.next rising.passed.logs h);
      tells = λ u r h. k.tells c at u r (told_played (is_complete u r) d t w a (whole_turn f t) (entered t w d.arcs) ∙ h);
    }

    go : (b : Bool) → is_live (link_with d.arcs p) ≡ b → IsRisen e p fall s d m
    go false i =
        let none : words_to p m.outs ≡ [] = agrees.words ∙ ap (λ (v : Bool). spoken v p a.outs) i ∙ dead_spoken p a.outs in
        let off : is_live (link_with m.next.arcs p) ≡ false = agrees.live ∙ ap (λ (v : Bool). stays v p a.outs) i ∙ dead_stays p a.outs in
        record {
          words = λ ks g n v free calm place u k. rw none refl;
          votes = λ v live u. absurd (cc (live, off));
        }
    go true i =
        let x : Rises f t p t a = rising.rises (seen_sees who d.arcs c p i) (kept (loses f p) refl i) in
        let words : words_to p m.outs ≡ spoken true p a.outs = agrees.words ∙ ap (λ (v : Bool). spoken v p a.outs) i in
        let live_is : is_live (link_with m.next.arcs p) ≡ stays true p a.outs = agrees.live ∙ ap (λ (v : Bool). stays v p a.outs) i in
        record {
          words = λ ks g n v free calm place u k. rw words (x.words ks g n v (no_branch free) (place_it ks n place) (votes_it v u) (tells_it g k));
          votes = λ v live u. rw words (votes_left (voting_from v (spoken true p a.outs)) a.next p (x.votes v (votes_it v u) (sym live_is ∙ live)));
        }

-- ---- a transaction begins on an arc

pub begun_current : (who : Who) (d : Digest) (c : Current) (child : _) → is_nil c.phase ≡ false → (u : Current) × ((with_begun who d c child).current ≡ Some u) × (u.key ≡ c.key) × (u.phase ≡ c.phase)
begun_current who d c child late = (
  record {
    key = t.key;
    phase = t.phase;
    branches = branches_of t.rows;
    told_prepare = t.told_prepare;
    asked = t.asked;
    owes = t.owes;
    superior_rolled = t.superior_rolled;
    decision = t.decision;
    own = t.own;
  },
  rw (late, remaining) refl,
  refl,
  refl,
)
  where
    t : Transaction
    t = (transacted (TxEvent.Begun (child ∷ [])) (seen who d.arcs c)).next

risen_begins : (who : Who) (e : Event) (p q : ℕ) (fall : Bool) (s d : Digest) → IsRisen e p fall s d (begin_on who q d)
risen_begins who e p q fall s d = begin_cases (IsRisen e p fall s d) who q d still on
  where
    still : IsRisen e p fall s d (move [] d)
    still = risen_quiet e p fall s d (move [] d) refl refl

    on : (c : Current) (a : Arc) → d.current ≡ Some c → find_arc d.arcs q ≡ Some a → may_begin_on who d a ≡ true → IsRisen e p fall s d (begun_over who q d c a)
    on c a now found may = risen_none e p fall s d m quiet votes
      where
        m : Move
        m = begun_over who q d c a

        agrees : Agrees p (is_live (link_with (begin_arcs q d a) p)) (TxOut.Carry q (begin_word who d c a) ∷ []) m.outs (is_live (link_with m.next.arcs p))
        agrees = agrees_performed (begin_arcs q d a) (TxOut.Carry q (begin_word who d c a) ∷ []) p refl

        one : (b : Bool) → none_of is_telling (spoken b p (TxOut.Carry q (begin_word who d c a) ∷ [])) ≡ true
        one b = grind arith

        quiet : none_of is_telling (words_to p m.outs) ≡ true
        quiet = rw (agrees.words) (one (is_live (link_with (begin_arcs q d a) p)))

        votes : (v : Bool) → VotesAt v d.current p → VotesAt v m.next.current p
        votes v w h =
            let x = w h in
            let same : x.0 ≡ c = some_same x.0 c (sym x.1 ∙ now) in
            let late : is_nil c.phase ≡ false = ap (λ (b : Current). is_nil b.phase) (sym same) ∙ x.2 in
            let u = begun_current who (with_mark_drawn d) c (record { addr = a.peer; branch = record { superior = who.site; mark = next_mark who d } }) late in
            (u.0, u.1, ap is_nil u.3 ∙ late, ap (λ (k : Key). is_under_at k p) u.2 ∙ ap (λ (b : Current). is_under_at b.key p) (sym same) ∙ x.3, ap is_active u.3 ∙ ap (λ (b : Current). is_active b.phase) (sym same) ∙ x.4)

-- ---- chains

tells_part : (g : Deeds) (e : Event) (fall : Bool) (s : Digest) (m a : Move) → ((f : Option LogRec → Bool) → f None ≡ false → f a.rec ≡ true → f m.rec ≡ true) → ((q : Indication → Bool) → out_tells q a.outs ≡ true → out_tells q m.outs ≡ true) → TellsAt g e fall s m → TellsAt g e fall s a
tells_part g e fall s m a more told k = record {
  committing = k.committing;
  commits = λ c i h. k.commits c i (more (commits_tree (aaid_of c.key)) refl h);
  rolling = k.rolling;
  falls = k.falls;
  leaves = k.leaves;
  completes = λ c i h. k.completes c i (told is_complete_none h);
  damages = λ c i h. k.damages c i (more (damages_tree (aaid_of c.key)) refl h);
  tells = λ c i u r h. k.tells c i u r (told (is_complete u r) h);
}

first_rec : (a b : Option LogRec) → (a ≡ None) ⊎ (b ≡ None) → (f : Option LogRec → Bool) → f None ≡ false → f a ≡ true → f (elim b as (λ _. Option LogRec) [ None ↦ a | Some r ↦ Some r ]) ≡ true
first_rec a None q f none h = h
first_rec a (Some r) (inl i) f none h = absurd (cc (ap f i, h, none))
first_rec a (Some r) (inr i) f none h = absurd (cc (i))

second_rec : (a b : Option LogRec) (f : Option LogRec → Bool) → f None ≡ false → f b ≡ true → f (elim b as (λ _. Option LogRec) [ None ↦ a | Some r ↦ Some r ]) ≡ true
second_rec a None f none h = absurd (cc (h, none))
second_rec a (Some r) f none h = h

risen_then : (e : Event) (p : ℕ) (sup fall : Bool) (shut : ℕ) (s d : Digest) (a : Move) (f : Digest → Move) → IsHeard p sup fall shut s d a → IsHeard p sup fall shut s a.next (f a.next) → IsRisen e p fall s d a → IsRisen e p fall s a.next (f a.next)
    → (a.rec ≡ None) ⊎ ((f a.next).rec ≡ None) → IsRisen e p fall s d (followed a f)
risen_then e p sup fall shut s d a f heard_a heard_b one two quiet = go (is_live (link_with a.next.arcs p)) refl
  where
    b : Move
    b = f a.next

    m : Move
    m = followed a f

    wa : List DialogueRecord
    wa = words_to p a.outs

    wb : List DialogueRecord
    wb = words_to p b.outs

    split : words_to p m.outs ≡ wa ++ wb
    split = ap only_words (said_append p a.outs b.outs) ∙ words_append (said_to p a.outs) (said_to p b.outs)

    tells_a : (g : Deeds) → TellsAt g e fall s m → TellsAt g e fall s a
    tells_a g k = tells_part g e fall s m a (first_rec a.rec b.rec quiet) (λ q h. told_append q a.outs b.outs ∙ rw h refl) k

    tells_b : (g : Deeds) → TellsAt g e fall s m → TellsAt g e fall s b
    tells_b g k = tells_part g e fall s m b (second_rec a.rec b.rec) (λ q h. told_append q a.outs b.outs ∙ rw h (grind arith)) k

    -- the peer is no branch, as no Begin goes to it
    still_free : key_at d.current p ≡ None → none_of is_begin wa ≡ true → is_live (link_with a.next.arcs p) ≡ true → key_at a.next.current p ≡ None
    still_free free calm live = on (key_at a.next.current p) refl
      where
        never : {k : BranchKey} → None ≡ Some k → ⊥
        never h = cc (h)

        on : (o : Option BranchKey) → key_at a.next.current p ≡ o → key_at a.next.current p ≡ None
        on None j = j
        on (Some k) j = absurd (never (sym (none_last None wa calm) ∙ heard_a.knows None live (λ v h. absurd (never (sym free ∙ h))) k j))

    go : (c : Bool) → is_live (link_with a.next.arcs p) ≡ c → IsRisen e p fall s d m
    go false i =
        let only : words_to p m.outs ≡ wa = split ∙ rw (heard_b.dead i) (append-nil wa) in
        record {
          words = λ ks g n v free calm place w k. rw only (one.words ks g n v free (ap (none_of is_begin) (sym only) ∙ calm) place w (tells_a g k));
          votes = λ v live w. absurd (cc (i, heard_b.back live));
        }
    go true i = record {
      words = λ ks g n v free calm place w k.
          let parts : (none_of is_begin wa && none_of is_begin wb) ≡ true = sym (none_append is_begin wa wb) ∙ ap (none_of is_begin) (sym split) ∙ calm in
          let first : none_of is_begin wa ≡ true = and_left (none_of is_begin wa) (none_of is_begin wb) parts in
          rw (split, up_append (may_say ks g) n v wa wb)
          (both_true (each_up (may_say ks g) n v wa) (each_up (may_say ks g) (ends_in wa + n) (voting_from v wa) wb) (one.words ks g n v free first place w (tells_a g k))
          (two.words ks g (ends_in wa + n) (voting_from v wa) (still_free free first i) (and_right (none_of is_begin wa) (none_of is_begin wb) parts) (heard_a.places ks n i place) (one.votes v i w) (tells_b g k)));
      votes = λ v live w. rw (split, voting_append v wa wb) (two.votes (voting_from v wa) live (one.votes v i w));
    }

-- ---- the steps

abbrev IsRisenMove : Event → ℕ → Bool → Bool → ℕ → Digest → Digest → Move → Type 0
IsRisenMove e p sup fall shut s d m = IsHeard p sup fall shut s d m × IsRisen e p fall s d m

risen_root : (e : Event) (p : ℕ) (fall : Bool) (s d : Digest) (t : Aaid) (m : Move) → is_nil (phase_of d) ≡ true → IsRisen e p fall s (record (with_mark_drawn d) { current = Some (fresh_current (Root t)) }) m → IsRisen e p fall s d m
risen_root e p fall s d t m nil one = record {
  words = λ ks g n v free calm place w k. one.words ks g n v refl calm (λ c b y z is late key u. absurd (rooted c b y z is key)) (votes v w) k;
  votes = λ v live w. one.votes v live (votes v w);
}
  where
    rooted : (c : Current) (b : Aaid) (y : BranchId) (w : _) → Some (fresh_current (Root t)) ≡ Some c → c.key ≡ Under b y w → ⊥
    rooted c b y w is key =
        let same : fresh_current (Root t) ≡ c = cc (is) in
        let k : Root t ≡ Under b y w = ap (λ (x : Current). x.key) same ∙ key in
        absurd (cc (k))

    votes : (v : Bool) → VotesAt v d.current p → VotesAt v (Some (fresh_current (Root t))) p
    votes v w h = let x = w h in let old : is_nil x.0.phase ≡ true = sym (ap is_nil (phase_now x.0 x.1)) ∙ nil in absurd (cc (old, x.2))
      where
        phase_now : (c : Current) → d.current ≡ Some c → phase_of d ≡ c.phase
        phase_now c i = rw (i, phase_of) refl

risen_moves : (who : Who) (e : Event) (s : Digest) (p : ℕ) (sup fall : Bool) (shut : ℕ) → Reads who e p sup fall shut s
    → Moves who e s (λ d m. d.superior ≡ s.superior → (is_live (link_with d.arcs p) ≡ true → is_live (link_with s.arcs p) ≡ true) → IsHeard p sup fall shut s d m)
    → Moves who e s (λ d m. d.superior ≡ s.superior → (is_live (link_with d.arcs p) ≡ true → is_live (link_with s.arcs p) ≡ true) → IsRisenMove e p sup fall shut s d m)
risen_moves who e s p sup fall shut reads h = record {
  still = λ d up lives. (h.still d up lives, risen_quiet e p fall s d (move [] d) refl refl);
  chain = λ d a f one two quiet up lives.
      let x = one up lives in
      let y = two (x.0.superior ∙ up) (λ l. lives (x.0.back l)) in
      (h.chain d a f (λ u l. x.0) (λ u l. y.0) quiet up lives, risen_then e p sup fall shut s d a f x.0 y.0 x.1 y.1 quiet);
  speaks = λ d outs k own said up lives. (h.speaks d outs k own said up lives, risen_perform e p fall s d outs k);
  changes_dialogue = λ d q f m by one up lives.
      let same : link_with (with_dialogue d.arcs q f) p ≡ link_with d.arcs p = link_dialogue d.arcs q f p in
      let x = one up (λ l. lives (ap is_live (sym same) ∙ l)) in
      (h.changes_dialogue d q f m by (λ u l. x.0) up lives, record { words = x.1.words; votes = x.1.votes });
  drops_arc = λ d q m at one up lives.
      let x = one up (λ l. lives (dropped_live d.arcs q p l)) in
      (h.drops_arc d q m at (λ u l. x.0) up lives, record { words = x.1.words; votes = x.1.votes });
  notes_kept = λ d ks m held one up lives. let x = one up lives in (h.notes_kept d ks m held (λ u l. x.0) up lives, record { words = x.1.words; votes = x.1.votes });
  keeps = λ d k f held up lives. (h.keeps d k f held up lives, risen_keep e p fall s d k f);
  turns = λ d c f now at asked put gone up lives. (h.turns d c f now at asked put gone up lives, risen_turned who e f d s c p sup fall shut reads now at asked put gone);
  begins = λ d q free up lives. (h.begins d q free up lives, risen_begins who e p q fall s d);
  roots = λ d m nil may one up lives. let x = one up lives in (h.roots d m nil may (λ u l. x.0) up lives, risen_root e p fall s d _ m nil x.1);
}

-- every accepted event, from its prelude on
pub risen_event : (who : Who) (d : Digest) (e : Event) (p : ℕ) (sup fall : Bool) (shut : ℕ) → IsLate d → refusal who d e ≡ None → Reads who e p sup fall shut (prelude who d e)
    → IsRisen e p fall (prelude who d e) (prelude who d e) (action who d e)
risen_event who d e p sup fall shut late ok reads =
    (every_move who d e (λ g m. g.superior ≡ (prelude who d e).superior → (is_live (link_with g.arcs p) ≡ true → is_live (link_with (prelude who d e).arcs p) ≡ true) → IsRisenMove e p sup fall shut (prelude who d e) g m)
    (risen_moves who e (prelude who d e) p sup fall shut reads (heard_moves who e (prelude who d e) p sup fall shut reads)) late ok refl (λ h. h)).1
