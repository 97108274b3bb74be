-- What a store hears of a branch is told after its vote.
use Rattle.std.proofs.Common.{◌≡◌, ◌&&◌, ◌||◌, Bool, true, false, refl, ap, sym, subst, ◌∙◌, Option, Some, None, List, [], ◌∷◌, ◌++◌, inl, inr}
use Rattle.tp_names.specs.declared.identifiers.Aaid.{Aaid}
use Rattle.tp_names.specs.declared.identifiers.Addr.{Addr}
use Rattle.tp_names.proofs.Sames.{aaid_self}
use Rattle.tp_records.specs.declared.request.Request.{Request}
use Rattle.tp_model.specs.Parts.{Origin, Event, Entry, Arc, Key, Root, Under, Current, Digest}
use Rattle.tp_model.specs.Dialogues.{is_nil, is_ready, is_committing}
use Rattle.tp_model.specs.Arcs.{find_arc}
use Rattle.tp_model.specs.Transactions.{aaid_of, is_under}
use Rattle.tp_model.specs.Node.{Move, phase_of, fresh_current}
use Rattle.tp_model.specs.Events.{refusal, action, recovered_current}
use Rattle.tp_model.specs.History.{digest}
use Rattle.tp_model.specs.Questions.{is_crash}
use Rattle.tp_model.specs.Outcomes.{is_now, root_of, rolls, is_commit_request}
use Rattle.tp_model.specs.World.{Node, number_of}
use Rattle.tp_model.specs.Happenings.{Happening, run}
use Rattle.tp_model.specs.Promises.{tells_commit, tells_rollback, has_told_in}
use Rattle.tp_model.specs.Legal.{IsGrown}
use Rattle.tp_steps.specs.Moves.{prelude}
use Rattle.tp_steps.specs.Keyed.{HasKeyFrom, IsKeyedMove}
use Rattle.tp_steps.specs.Passages.{is_commit_told, is_rollback_told, is_commit_rec}
use Rattle.tp_steps.specs.Trees.{out_tells, IsTreed}
use Rattle.tp_steps.proofs.branches.Rolls.{phase_at}
use Rattle.tp_steps.proofs.every.EveryEvent.{every_move}
use Rattle.tp_steps.proofs.lemmas.Equality.{or_case, and_left, and_right}
use Rattle.tp_steps.proofs.lemmas.Options.{some_same}
use Rattle.tp_steps.proofs.log.ApartLog.{logged_key}
use Rattle.tp_steps.proofs.log.Keyed.{keyed_moves}
use Rattle.tp_histories.specs.Worlds.{IsGood}
use Rattle.tp_histories.proofs.trees.Late.{late_law}
use Rattle.tp_histories.proofs.trees.Knowing.{Came, As_it_was, By_begin, By_crash, came_by, begin_seen, begin_arc, current_none}
use Rattle.tp_histories.proofs.trees.Behind.{treed_rolls}
use Rattle.tp_histories.proofs.worlds.Good.{good_run}
use Rattle.tp_runs.proofs.Users.{users_see, commit_tells, rollback_tells}
use Rattle.tp_encodable.specs.Begins.{is_begin_told, takes_begin}
use Rattle.tp_encodable.proofs.Short.{begins_untold}
use Rattle.tp_bound.specs.Kept.{Heard}
use Rattle.tp_bound.specs.Branches.{FollowVotes}
use Rattle.tp_stores.specs.Stores.{told_in, IsHeardOf, IsHeardIn, IsHeardAt, heard_of, is_none, only_under}
use Rattle.tp_stores.specs.Served.{votes, IsServedIn, IsServedAt, AreOfBranches}
use Rattle.tp_stores.proofs.Hearing.{is_commit, is_rollback, or_first, or_over}
use Rattle.tp_stores.proofs.Telling.{some, some_told, heard_some, heard_none, some_weaker}
use Rattle.tp_stores.proofs.Begun.{IsBegin, is_begin}
use Rattle.tp_stores.proofs.Agree.{crash_tells, commit_weaker, rollback_weaker, none_is}
use Rattle.tp_stores.proofs.AskedTurns.{is_bound}
use Rattle.tp_stores.proofs.AskedMoves.{is_asked, IsAskedFrom, ready_commits, asked_before}
use Rattle.tp_stores.proofs.Votes.{heard_append, votes_append, follow_append, votes_on, follow_on, follow_none}

-- ---- what is served is heard

heard_in : (stops : Bool) (h : List Entry) (hs : List Heard) → IsServedIn stops h hs → IsHeardIn stops h (heard_of hs)
heard_in stops [] hs x = x
heard_in stops (e ∷ h) hs x = (heard_of x.0, heard_of x.1, ap heard_of x.2 ∙ heard_append x.0 x.1, x.3, heard_in (is_crash e.event) h x.0 x.5)

pub served_is_heard : (x : Node) (hs : List Heard) → IsServedAt x hs → IsHeardAt x hs
served_is_heard x hs served = heard_in false x.history hs served

-- ---- an event where something is current

or_left_off : (a b : Bool) → (a || b) ≡ false → a ≡ false
or_left_off true b h = absurd (cc (h))
or_left_off false b h = refl

or_right_off : (a b : Bool) → (a || b) ≡ false → b ≡ false
or_right_off true b h = absurd (cc (h))
or_right_off false b h = h

and_over_off : (a b : Bool) → (a && b) ≡ false → a ≡ true → b ≡ false
and_over_off true b h i = h
and_over_off false b h i = absurd (cc (i))

under_is : (c : Current) → root_of (Some c) ≡ None → is_under c.key ≡ true
under_is c h = go c.key h
  where
    go : (k : Key) → elim k as (λ _. Option Aaid) [ Root t ↦ Some t | Under t b a ↦ None ] ≡ None → is_under k ≡ true
    go (Root t) i = absurd (cc (i))
    go (Under t b a) i = refl

now_self : (c : Current) → is_now (aaid_of c.key) (Some c) ≡ true
now_self c = aaid_self (aaid_of c.key)

-- a Begin is taken where nothing is current, so none is told
pub none_begins : (o : Origin) (up : Option Addr) (e : Entry) (h : List Entry) (c : Current) → IsGrown o up (e ∷ h) → (digest o h).current ≡ Some c → out_tells is_begin_told e.outs ≡ false
none_begins o up e h c legal at = go (takes_begin e.event) refl
  where
    d : Digest
    d = digest o h

    on : (b : IsBegin e.event) (v : Option Arc) → find_arc d.arcs b.from.node ≡ v → out_tells is_begin_told e.outs ≡ false
    on b None i = absurd (begin_arc o.who d b.from b.x b.y b.q b.tree b.branch b.holder (ap (λ (v : Event). refusal o.who d v) (sym b.is) ∙ legal.0) i)
    on b (Some a) i =
        let nil : is_nil (phase_of d) ≡ true = (begin_seen o.who d b.from b.x b.y b.q b.tree b.branch b.holder a (ap (λ (v : Event). refusal o.who d v) (sym b.is) ∙ legal.0) i).0 in
        let off : is_nil (phase_of d) ≡ false = ap is_nil (phase_at d c at) ∙ late_law o up h legal.3 c at in
        absurd (cc (nil, off))

    go : (b : Bool) → takes_begin e.event ≡ b → out_tells is_begin_told e.outs ≡ false
    go true i = let b : IsBegin e.event = is_begin e.event i in on b (find_arc d.arcs b.from.node) refl
    go false i = ap (λ (v : Entry). out_tells is_begin_told v.outs) (sym legal.1) ∙ begins_untold o.who d e.event legal.0 i

-- what is current after a start has its key from what was current
recovered_bound : (v c : Current) → recovered_current (Some v) ≡ Some c → is_bound v.phase ≡ true
recovered_bound v c h = go (is_bound v.phase) refl
  where
    go : (b : Bool) → is_bound v.phase ≡ b → is_bound v.phase ≡ true
    go true i = i
    go false i = absurd (let none : recovered_current (Some v) ≡ None = rw (i, recovered_current) refl in cc (none, h))

-- of what is current after the prelude, and asked, before it
back : (o : Origin) (up : Option Addr) (e : Entry) (h : List Entry) (u : Current) → IsGrown o up (e ∷ h) → IsAskedFrom (prelude o.who (digest o h) e.event) u → IsAskedFrom (digest o h) u
back o up e h u legal w = go (came_by o.who (digest o h) e.event legal.0)
  where
    go : Came o.who (digest o h) e.event → IsAskedFrom (digest o h) u
    go (As_it_was same) = (w.0, sym same ∙ w.1, w.2, w.3)
    go (By_begin from x y q t b k a is found cur nil up) =
        let same : w.0 ≡ fresh_current (Under t b a.peer) = some_same w.0 (fresh_current (Under t b a.peer)) (sym w.1 ∙ cur) in
        let off : is_asked w.0 ≡ false = ap is_asked same in
        absurd (let on = w.3 in cc (on, off))
    go (By_crash is cur) =
        let left : recovered_current (digest o h).current ≡ Some w.0 = sym cur ∙ w.1 in
        let l = logged_key (digest o h).current w.0 left in
        (l.0, l.1, w.2 ∙ l.2, or_over l.0.asked (is_bound l.0.phase) (recovered_bound l.0 w.0 (ap recovered_current (sym l.1) ∙ left)))

-- where the user asks for commitment nothing begins
asks_now : (o : Origin) (up : Option Addr) (e : Entry) (h : List Entry) (u : Current) → IsGrown o up (e ∷ h) → is_commit_request e.event ≡ true → (digest o (e ∷ h)).current ≡ Some u → is_under u.key ≡ true
    → (c : Current) × ((digest o h).current ≡ Some c) × (u.key ≡ c.key)
asks_now o up e h u legal asks now under = from (keyed.keys u now)
  where
    d : Digest
    d = digest o h

    s : Digest
    s = prelude o.who d e.event

    keyed : IsKeyedMove o.who e.event s s (action o.who d e.event)
    keyed = every_move o.who d e.event (IsKeyedMove o.who e.event s) (keyed_moves o.who e.event s) (late_law o up h legal.3) legal.0

    same : (v : Event) → is_commit_request v ≡ true → (prelude o.who d v).current ≡ d.current
    same (Event.Do Request.Commit) i = refl
    same (Event.Do r) i = absurd (cc (i))
    same v i = absurd (cc (i))

    from : HasKeyFrom o.who s u → (c : Current) × (d.current ≡ Some c) × (u.key ≡ c.key)
    from (inl k) = (k.0, sym (same e.event asks) ∙ k.1, k.2)
    from (inr k) = absurd (let root : is_under u.key ≡ false = ap is_under k.1 in cc (under, root))

-- ---- an event that tells commit

-- what is current is asked
told_asked : (o : Origin) (up : Option Addr) (e : Entry) (h : List Entry) → IsGrown o up (e ∷ h) → out_tells is_commit_told e.outs ≡ true → (c : Current) × ((digest o h).current ≡ Some c) × (is_under c.key ≡ true → is_asked c ≡ true)
told_asked o up e h legal told = go (came_by o.who d e.event legal.0)
  where
    d : Digest
    d = digest o h

    s : Digest
    s = prelude o.who d e.event

    m : Move
    m = action o.who d e.event

    treed : (t : Aaid) → IsTreed o.who s (rolls o.who d e.event) t 0 s m
    treed t = treed_rolls o.who d e.event t 0 (late_law o up h legal.3) legal.0

    k : (c : Current) × (s.current ≡ Some c) × ((is_committing c.phase || is_commit_rec m.rec) ≡ true)
    k = (treed (record { owner = []; mark = record { boot = 0; node = 0; count = 0 } })).tells_commit (ap (λ (v : Entry). out_tells is_commit_told v.outs) legal.1 ∙ told)

    asked : is_under k.0.key ≡ true → is_asked k.0 ≡ true
    asked under =
        or_over k.0.asked (is_bound k.0.phase)
        (elim (or_case (is_committing k.0.phase) (is_commit_rec m.rec) k.2) [
          | inl i ↦ or_over (is_ready k.0.phase) (is_committing k.0.phase) i
          | inr i ↦ (let r = ready_commits o.who d e.event (late_law o up h legal.3) legal.0 i in
              let same : r.0 ≡ k.0 = some_same r.0 k.0 (sym r.1 ∙ k.1) in
              or_first (is_ready k.0.phase) (is_committing k.0.phase) (ap (λ (c : Current). is_ready c.phase) (sym same) ∙ r.2 (ap (λ (c : Current). is_under c.key) same ∙ under)))
        ])

    go : Came o.who d e.event → (c : Current) × (d.current ≡ Some c) × (is_under c.key ≡ true → is_asked c ≡ true)
    go (As_it_was same) = (k.0, sym same ∙ k.1, asked)
    go (By_begin from x y q t b j a is found cur nil up) =
        let one : k.0 ≡ fresh_current (Under t b a.peer) = some_same k.0 (fresh_current (Under t b a.peer)) (sym k.1 ∙ cur) in
        let on : is_asked k.0 ≡ true = asked (ap (λ (c : Current). is_under c.key) one) in
        let off : is_asked k.0 ≡ false = ap is_asked one in
        absurd (cc (on, off))
    go (By_crash is cur) = absurd (crash_tells is_commit_told o up e h legal is told)

-- ---- every legal history

-- no tree was told both
abbrev NeverBoth : Origin → List Entry → Type 0
NeverBoth o h = (t : Aaid) → has_told_in tells_commit o t h ≡ true → has_told_in tells_rollback o t h ≡ true → ⊥

pub record IsServedSo (o : Origin) (h : List Entry) (hs : List Heard) : Type 0 where
  follows : FollowVotes false hs
  voted : (c : Current) → (digest o h).current ≡ Some c → is_under c.key ≡ true → is_asked c ≡ true → has_told_in tells_rollback o (aaid_of c.key) h ≡ false → votes false hs ≡ true

either : {A : Type 0} (b : Bool) → (b ≡ true → A) → (b ≡ false → A) → A
either true on off = on refl
either false on off = off refl

-- no rollback is heard of an event where the tree is current and is told none in it
none_rolls : (o : Origin) (e : Entry) (h : List Entry) (c : Current) (t : Aaid) (stops : Bool) (own : List Heard) → (digest o h).current ≡ Some c → t ≡ aaid_of c.key → IsHeardOf stops (told_in e.outs) (heard_of own)
    → has_told_in tells_rollback o t (e ∷ h) ≡ false → some is_rollback (heard_of own) ≡ false
none_rolls o e h c t stops own at tree heard none = either (some is_rollback (heard_of own)) yes (λ i. i)
  where
    now : is_now t (digest o h).current ≡ true
    now = ap (is_now t) at ∙ ap (λ (u : Aaid). is_now u (Some c)) tree ∙ now_self c

    quiet : tells_rollback e.outs ≡ false
    quiet = and_over_off (is_now t (digest o h).current) (tells_rollback e.outs) (or_left_off (is_now t (digest o h).current && tells_rollback e.outs) (has_told_in tells_rollback o t h) none) now

    yes : some is_rollback (heard_of own) ≡ true → some is_rollback (heard_of own) ≡ false
    yes i = absurd (
        let told : some is_rollback_told (told_in e.outs) ≡ true = heard_some is_rollback_told stops (told_in e.outs) (heard_of own) heard (some_weaker is_rollback is_rollback_told rollback_weaker (heard_of own) i) in
        let on : tells_rollback e.outs ≡ true = rollback_tells e.outs ∙ sym (some_told is_rollback_told e.outs) ∙ told in
        cc (on, quiet))

-- nor a Begin, where something is current
none_begun : (o : Origin) (up : Option Addr) (e : Entry) (h : List Entry) (c : Current) (stops : Bool) (own : List Heard) → IsGrown o up (e ∷ h) → (digest o h).current ≡ Some c → IsHeardOf stops (told_in e.outs) (heard_of own)
    → some is_begin_told (heard_of own) ≡ false
none_begun o up e h c stops own legal at heard =
    heard_none is_begin_told stops (told_in e.outs) (heard_of own) heard (some_told is_begin_told e.outs ∙ none_begins o up e h c legal at)

-- one more event
served_more : (o : Origin) (up : Option Addr) (e : Entry) (h : List Entry) (stops : Bool) (hs : List Heard) → IsGrown o up (e ∷ h) → only_under o (e ∷ h) ≡ true → NeverBoth o (e ∷ h) → (served : IsServedIn stops (e ∷ h) hs) → IsServedSo o h served.0
    → IsServedSo o (e ∷ h) hs
served_more o up e h stops hs legal only never served was = record {
  follows = subst (FollowVotes false) (sym is) (follow_append false before own was.follows on);
  voted = λ u now under asked none. ap (votes false) is ∙ votes_append false before own ∙ voted u now under asked none;
}
  where
    d : Digest
    d = digest o h

    before : List Heard
    before = served.0

    own : List Heard
    own = served.1

    is : hs ≡ before ++ own
    is = served.2

    heard : IsHeardOf stops (told_in e.outs) (heard_of own)
    heard = served.3

    alone : (c : Current) → d.current ≡ Some c → is_under c.key ≡ true
    alone c at = under_is c (ap root_of (sym at) ∙ none_is (root_of d.current) (and_left (is_none (root_of d.current)) (only_under o h) only))

    -- a commit is told
    told : some is_commit (heard_of own) ≡ true → FollowVotes (votes false before) own
    told i = subst (λ (b : Bool). FollowVotes b own) (sym voted) (follow_on own (none_begun o up e h c stops own legal at heard) (none_rolls o e h c t stops own at refl heard none))
      where
        out : out_tells is_commit_told e.outs ≡ true
        out = sym (some_told is_commit_told e.outs) ∙ heard_some is_commit_told stops (told_in e.outs) (heard_of own) heard (some_weaker is_commit is_commit_told commit_weaker (heard_of own) i)

        k : (c : Current) × (d.current ≡ Some c) × (is_under c.key ≡ true → is_asked c ≡ true)
        k = told_asked o up e h legal out

        c : Current
        c = k.0

        at : d.current ≡ Some c
        at = k.1

        t : Aaid
        t = aaid_of c.key

        commits : has_told_in tells_commit o t (e ∷ h) ≡ true
        commits =
            let now : is_now t d.current ≡ true = ap (is_now t) at ∙ now_self c in
            let both : (is_now t d.current && tells_commit e.outs) ≡ true = rw (now, commit_tells e.outs ∙ out) refl in
            or_first (is_now t d.current && tells_commit e.outs) (has_told_in tells_commit o t h) both

        none : has_told_in tells_rollback o t (e ∷ h) ≡ false
        none = either (has_told_in tells_rollback o t (e ∷ h)) (λ r. absurd (never t commits r)) (λ r. r)

        voted : votes false before ≡ true
        voted = was.voted c at (alone c at) (k.2 (alone c at)) (or_right_off (is_now t d.current && tells_rollback e.outs) (has_told_in tells_rollback o t h) none)

    on : FollowVotes (votes false before) own
    on = either (some is_commit (heard_of own)) told (λ i. follow_none (votes false before) own i)

    -- a vote stands
    stands : (c : Current) (t : Aaid) → d.current ≡ Some c → t ≡ aaid_of c.key → has_told_in tells_rollback o t (e ∷ h) ≡ false → votes false before ≡ true → votes (votes false before) own ≡ true
    stands c t at tree none v = ap (λ (b : Bool). votes b own) v ∙ votes_on own (none_begun o up e h c stops own legal at heard) (none_rolls o e h c t stops own at tree heard none)

    voted : (u : Current) → (digest o (e ∷ h)).current ≡ Some u → is_under u.key ≡ true → is_asked u ≡ true → has_told_in tells_rollback o (aaid_of u.key) (e ∷ h) ≡ false → votes (votes false before) own ≡ true
    voted u now under asked none = either (is_commit_request e.event) asks plain
      where
        asks : is_commit_request e.event ≡ true → votes (votes false before) own ≡ true
        asks i = let k = asks_now o up e h u legal i now under in stands k.0 (aaid_of u.key) k.1 (ap aaid_of k.2) none (served.4 i)

        plain : is_commit_request e.event ≡ false → votes (votes false before) own ≡ true
        plain i =
            let k : IsAskedFrom d u = back o up e h u legal (asked_before o.who d e.event (late_law o up h legal.3) legal.0 i u now under asked) in
            let rest : has_told_in tells_rollback o (aaid_of u.key) h ≡ false = or_right_off (is_now (aaid_of u.key) d.current && tells_rollback e.outs) (has_told_in tells_rollback o (aaid_of u.key) h) none in
            let v : votes false before ≡ true = was.voted k.0 k.1 (ap is_under (sym k.2) ∙ under) k.3 (ap (λ (j : Key). has_told_in tells_rollback o (aaid_of j) h) (sym k.2) ∙ rest) in
            stands k.0 (aaid_of u.key) k.1 (ap aaid_of k.2) none v

served_law : (o : Origin) (up : Option Addr) (h : List Entry) (stops : Bool) (hs : List Heard) → o.start.records ≡ [] → IsGrown o up h → only_under o h ≡ true → NeverBoth o h → IsServedIn stops h hs → IsServedSo o h hs
served_law o up [] stops hs empty legal only never served = record {
  follows = follow_none false hs (ap (some is_commit) served);
  voted = λ c at under asked none. absurd (let no = current_none o empty in cc (no, at));
}
served_law o up (e ∷ h) stops hs empty legal only never served =
    served_more o up e h stops hs legal only never served
    (served_law o up h (is_crash e.event) served.0 empty legal.3 (and_right (is_none (root_of (digest o h).current)) (only_under o h) only)
    (λ t c r. never t (or_over (is_now t (digest o h).current && tells_commit e.outs) (has_told_in tells_commit o t h) c) (or_over (is_now t (digest o h).current && tells_rollback e.outs) (has_told_in tells_rollback o t h) r)) served.5)

-- ---- every run

pub of_branches : (es : List Happening) → AreOfBranches (run es)
of_branches es x hs here alone served =
    (served_law x.origin x.superior x.history false hs (good.fresh (number_of x) x here) (good.legal (number_of x) x here) alone never served).follows
  where
    good : IsGood (run es).nodes (run es).frames
    good = good_run es

    never : NeverBoth x.origin x.history
    never t c r = (users_see es).never_both t x here ((users_see es).sees_commit t x here c) ((users_see es).sees_rollback t x here r)
