-- How far a replay has come: what it has written, what is pending, which answers were given, and what is left of the schedule.
use Rattle.std.proofs.Common.{◌≡◌, ◌≤◌, ◌+◌, ◌++◌, ℕ, suc, List, [], ◌∷◌, Option, Some, None, inl, refl, ap, subst, sym, ◌∙◌, append_assoc, arith, length, length-append, map}
use Rattle.std.specs.Prelude.{option_map}
use Rattle.std.proofs.lemmas.List.{append-nil}
use Rattle.std.proofs.lemmas.Bool.Decides.{nat_tests}
use Rattle.tp_records.specs.declared.request.Request.{Request}
use Rattle.tp_records.specs.Answers.{Answer}
use Rattle.tp_model.specs.World.{World, empty_world}
use Rattle.tp_model.specs.Transcript.{Put, answers_of, AreAllowed, RawLine, raw_lines, Transcript, Ending, transcript_from, transcript_with, octets_taken}
use Rattle.tp_schedule.specs.AtHand.{together}
use Rattle.tp_schedule.specs.LinesLeft.{Place, lines_left}
use Rattle.tp_world_members.specs.Members.{slot_at, may, Gave}
use Rattle.tp_world_members.specs.DrivenWorld.{members_of, Stands}
use Rattle.tp_world_members.specs.declared.driven_world.DrivenWorld.{DrivenWorld}
use Rattle.tp_world_members.proofs.Gave.{gave_none, gave_more, answers_joined}
use Rattle.tp_streams.specs.Written.{IsPrefix}
use Rattle.tp_replay.specs.Written.{WroteBut}
use Rattle.tp_replay.specs.Transcribing.{may_of, AreGiven, TellsAll, TellsSome}
use Rattle.tp_replay.specs.Playing.{after_text, Leads, Stops, ShowsNext}
use Rattle.tp_replay.proofs.Cuts.{takes_some}
use Rattle.tp_replay.proofs.Prefixes.{prefix_trans}
use Rattle.tp_replay.proofs.Pending.{wrote_more, wrote_some}

-- ---- what members may answer

pub may_nothing : {M : Type 0} (allowed : M → List Answer → Type 0) (x : Option M) → may allowed x []
may_nothing allowed None = refl
may_nothing allowed (Some m) = inl refl

pub own_of : {M : Type 0} (allowed : M → List Answer → Type 0) (ms : List M) (now : List (Option M)) (puts : List Put) (answers : List (Option Request)) → Gave allowed (map (λ m. Some m) ms) now puts answers → AreGiven (may_of allowed ms) puts answers
own_of allowed ms now puts answers gave k = subst (may_of allowed ms k) (append-nil (answers_of k puts answers)) (gave k [] (may_nothing allowed (slot_at now k)))

unanswered : (k : ℕ) (puts : List Put) → answers_of k puts [] ≡ []
unanswered k [] = refl
unanswered k (q ∷ puts) = refl

-- what is put later, and not answered
more_put : (k : ℕ) (puts more : List Put) (answers : List (Option Request)) → length answers ≡ length puts → answers_of k (puts ++ more) answers ≡ answers_of k puts answers
more_put k puts more answers each =
    ap (answers_of k (puts ++ more)) (sym (append-nil answers)) ∙ answers_joined k puts more answers [] each
    ∙ ap (λ (l : List Answer). answers_of k puts answers ++ l) (unanswered k more) ∙ append-nil (answers_of k puts answers)

-- ---- one step after another

twice : (t u : List ℕ) (p q : List Put) (x : Transcript) → after_text t p (after_text u q x) ≡ after_text (t ++ u) (p ++ q) x
twice t u p q x = ap (λ (l : List ℕ). let y : Transcript = record { written = l; ending = x.ending; world = x.world; puts = p ++ (q ++ x.puts) } in y) (sym (append_assoc t u x.written))
    ∙ ap (λ (l : List Put). let y : Transcript = record { written = (t ++ u) ++ x.written; ending = x.ending; world = x.world; puts = l } in y) (sym (append_assoc p q x.puts))

each_more : (f g : List (Option Request)) (p q : List Put) → length f ≡ length p → length g ≡ length q → length (f ++ g) ≡ length (p ++ q)
each_more f g p q e h = length-append f g ∙ ap (λ (n : ℕ). n + length g) e ∙ ap (λ (n : ℕ). length p + n) h ∙ sym (length-append p q)

leads_more : {M R : Type 0} (allowed : M → List Answer → Type 0) (a b c : List (Option M)) (all mid rest : R → List (Option Request) → Transcript) (t u : List ℕ) → Leads allowed a b all t mid → Leads allowed b c mid u rest → Leads allowed a c all (t ++ u) rest
leads_more allowed a b c all mid rest t u h i = record {
  put = h.put ++ i.put;
  given = h.given ++ i.given;
  each = each_more h.given i.given h.put i.put h.each i.each;
  goes = λ r later. ap (all r) (append_assoc h.given i.given later) ∙ h.goes r (i.given ++ later) ∙ ap (after_text t h.put) (i.goes r later) ∙ twice t u h.put i.put (rest r later);
  gave = gave_more allowed a b c h.put i.put h.given i.given h.each h.gave i.gave;
  count = i.count ∙ h.count;
}

-- where what comes after them is chosen before each
chosen : {M Q R : Type 0} (allowed : M → List Answer → Type 0) (a b : List (Option M)) (all rest : R → List (Option Request) → Transcript) (text : List ℕ) (f : Q → R) → Leads allowed a b all text rest → Leads allowed a b (λ (q : Q). all (f q)) text (λ (q : Q). rest (f q))
chosen allowed a b all rest text f h = record { put = h.put; given = h.given; each = h.each; goes = λ q later. h.goes (f q) later; gave = h.gave; count = h.count }

-- a transcript for some answers
pub record Whole {M : Type 0} (allowed : M → List Answer → Type 0) (a c : List (Option M)) (all : List (Option Request) → Transcript) (text : List ℕ) (e : Ending) : Type 0 where
  pub answers : List (Option Request)
  pub puts : List Put
  pub world : World
  pub each : length answers ≡ length puts
  pub is : all answers ≡ record { written = text; ending = e; world = world; puts = puts }
  pub gave : Gave allowed a c puts answers

-- as it goes on after these bytes, where what comes after them is known
pub record Goes {M : Type 0} (allowed : M → List Answer → Type 0) (a b : List (Option M)) (all : List (Option Request) → Transcript) (text : List ℕ) (rest : List (Option Request) → Transcript) : Type 0 where
  pub put : List Put
  pub given : List (Option Request)
  pub each : length given ≡ length put
  pub goes : (later : List (Option Request)) → all (given ++ later) ≡ after_text text put (rest later)
  pub gave : Gave allowed a b put given

pub goes_to : {M R : Type 0} (allowed : M → List Answer → Type 0) (a b : List (Option M)) (all rest : R → List (Option Request) → Transcript) (text : List ℕ) (r : R) (whole : List (Option Request) → Transcript) → Leads allowed a b all text rest
    → ((answers : List (Option Request)) → whole answers ≡ all r answers) → Goes allowed a b whole text (rest r)
goes_to allowed a b all rest text r whole h same = record { put = h.put; given = h.given; each = h.each; goes = λ later. same (h.given ++ later) ∙ h.goes r later; gave = h.gave }

pub stops_whole : {M : Type 0} (allowed : M → List Answer → Type 0) (a b c : List (Option M)) (all rest : List (Option Request) → Transcript) (text : List ℕ) (e : Ending) → Goes allowed a b all text rest → Stops allowed b c rest e → Whole allowed a c all text e
stops_whole allowed a b c all rest text e h i = record {
  answers = h.given ++ i.given;
  puts = h.put ++ i.put;
  world = i.world;
  each = each_more h.given i.given h.put i.put h.each i.each;
  is = h.goes i.given ∙ ap (λ (g : List (Option Request)). after_text text h.put (rest g)) (sym (append-nil i.given)) ∙ ap (after_text text h.put) (i.stops [])
      ∙ ap (λ (l : List ℕ). let y : Transcript = record { written = l; ending = e; world = i.world; puts = h.put ++ i.put } in y) (append-nil text);
  gave = gave_more allowed a b c h.put i.put h.given i.given h.each h.gave i.gave;
}

module _ {M : Type 0} (allowed : M → List Answer → Type 0) (ms : List M) (bytes : List ℕ) where
  abbrev first : List (Option M)
  first = map (λ m. Some m) ms

  abbrev all_of : List (Option Request) → Transcript
  all_of answers = transcript_with (length ms) bytes answers

  pub are_allowed : (now : List (Option M)) (text : List ℕ) (e : Ending) (h : Whole allowed first now all_of text e) → AreAllowed (may_of allowed ms) (all_of h.answers).puts h.answers
  are_allowed now text e h = record {
    each = h.each ∙ ap (λ (t : Transcript). length t.puts) (sym h.is);
    own = λ k. subst (λ (t : Transcript). may_of allowed ms k (answers_of k t.puts h.answers)) (sym h.is) (own_of allowed ms now h.puts h.answers h.gave k);
  }

  pub tells_all : (now : List (Option M)) (text : List ℕ) (e : Ending) → Whole allowed first now all_of text e → TellsAll (may_of allowed ms) (length ms) bytes e text
  tells_all now text e h = record {
    answers = h.answers;
    allowed = are_allowed now text e h;
    ending = ap (λ (t : Transcript). t.ending) h.is;
    whole = ap (λ (t : Transcript). t.written) (sym h.is);
  }

  pub whole_some : (now : List (Option M)) (text : List ℕ) (e : Ending) → Whole allowed first now all_of text e → TellsSome (may_of allowed ms) (length ms) bytes text
  whole_some now text e h = record {
    answers = h.answers;
    given = (are_allowed now text e h).own;
    prefix = ([], ap (λ (t : Transcript). t.written) h.is ∙ sym (append-nil text));
  }

  pub tells_some : (now : List (Option M)) (rest : List (Option Request) → Transcript) (text : List ℕ) → Goes allowed first now all_of text rest → TellsSome (may_of allowed ms) (length ms) bytes text
  tells_some now rest text h = record {
    answers = h.given;
    given = λ k. subst (λ (t : Transcript). may_of allowed ms k (answers_of k t.puts h.given)) (sym is)
        (subst (may_of allowed ms k) (sym (more_put k h.put (rest []).puts h.given h.each)) (own_of allowed ms now h.put h.given h.gave k));
    prefix = ((rest []).written, ap (λ (t : Transcript). t.written) is);
  }
    where
      is : all_of h.given ≡ after_text text h.put (rest [])
      is = ap all_of (sym (append-nil h.given)) ∙ h.goes []

  pub tells_none : TellsSome (may_of allowed ms) (length ms) bytes []
  tells_none = record {
    answers = [];
    given = λ k. subst (may_of allowed ms k) (sym (unanswered k (all_of []).puts)) (may_nothing allowed (slot_at first k));
    prefix = ((all_of []).written, refl);
  }

-- of a text, a prefix
pub tells_prefix : (may : ℕ → List Answer → Type 0) (members : ℕ) (bytes text part : List ℕ) → TellsSome may members bytes text → IsPrefix part text → TellsSome may members bytes part
tells_prefix may members bytes text part h prefix = record { answers = h.answers; given = h.given; prefix = prefix_trans part text (transcript_with members bytes h.answers).written prefix h.prefix }

-- ---- how far it has come

pub record SoFar {M : Type 0} (allowed : M → List Answer → Type 0) (ms : List M) (at : ℕ) (bytes : List ℕ) (v : DrivenWorld M) (place : Place) (left start now : Option (List ℕ)) (pending : List ℕ) : Type 0 where
  pub world : World
  pub lines : List RawLine
  pub read : List RawLine
  pub text : List ℕ
  pub stands : Stands world v
  pub ahead : lines_left place left ≡ Some lines
  pub all : raw_lines bytes ≡ read ++ lines
  pub number : at ≡ suc (length read)
  pub numbered : at ≤ place.before + 1
  pub within : place.before ≤ 1048576
  pub wrote : (before : List ℕ) → start ≡ Some before → WroteBut before text pending now
  pub leads : Leads allowed (map (λ m. Some m) ms) (members_of v) (λ (more : List RawLine) answers. transcript_from (length ms) 1 0 answers empty_world (read ++ more)) text (λ more later. transcript_from (length ms) at place.before later world more)

as_many : {M : Type 0} (ms : List M) → length (map (λ m. Some m) ms) ≡ length ms
as_many [] = refl
as_many (m ∷ ms) = ap (λ (n : ℕ). suc n) (as_many ms)

-- the lines are those of some bytes
of_bytes : (place : Place) (left : Option (List ℕ)) (l : RawLine) (ls : List RawLine) → lines_left place left ≡ Some (l ∷ ls) → 1 ≤ octets_taken l
of_bytes place left l ls is = go (together place.held left) refl
  where
    go : (t : Option (List ℕ)) → together place.held left ≡ t → 1 ≤ octets_taken l
    go None e = absurd (let no : None ≡ Some (l ∷ ls) = sym (ap (option_map raw_lines) e) ∙ is in grind (arith, no))
    go (Some all) e = takes_some all l ls (let same : Some (raw_lines all) ≡ Some (l ∷ ls) = sym (ap (option_map raw_lines) e) ∙ is in grind (arith, same))

module _ {M : Type 0} (allowed : M → List Answer → Type 0) (ms : List M) where
  pub at_start : (bytes : List ℕ) (v : DrivenWorld M) (place : Place) (left start : Option (List ℕ)) (out : List ℕ) → Stands empty_world v → members_of v ≡ map (λ m. Some m) ms → place ≡ record { held = []; before = 0; fault = None } → out ≡ [] → left ≡ Some bytes
      → SoFar allowed ms 1 bytes v place left start start out
  at_start bytes v place left start out stands handed fresh none is = subst (λ (p : Place). SoFar allowed ms 1 bytes v p left start start out) (sym fresh) (subst (λ (o : List ℕ). SoFar allowed ms 1 bytes v (record { held = []; before = 0; fault = None }) left start start o) (sym none) (record {
    world = empty_world;
    lines = raw_lines bytes;
    read = [];
    text = [];
    stands = stands;
    ahead = rw is refl;
    all = refl;
    number = refl;
    numbered = omega arith;
    within = omega arith;
    wrote = λ before wrote. ([], refl, wrote ∙ ap Some (sym (append-nil before)));
    leads = subst (λ (xs : List (Option M)). Leads allowed (map (λ m. Some m) ms) xs (λ (more : List RawLine) answers. transcript_from (length ms) 1 0 answers empty_world more) [] (λ more later. transcript_from (length ms) 1 0 later empty_world more)) (sym handed)
        (record { put = []; given = []; each = refl; goes = λ more later. refl; gave = gave_none allowed (map (λ m. Some m) ms); count = refl });
  }))

  module _ (at : ℕ) (bytes : List ℕ) (v : DrivenWorld M) (place : Place) (left start now : Option (List ℕ)) (pending : List ℕ) (s : SoFar allowed ms at bytes v place left start now pending) where
    -- as many were handed in
    pub count : length (members_of v) ≡ length ms
    count = s.leads.count ∙ as_many ms

    -- of the whole schedule
    pub goes_on : Goes allowed (map (λ m. Some m) ms) (members_of v) (λ answers. transcript_with (length ms) bytes answers) s.text (λ later. transcript_from (length ms) at place.before later s.world s.lines)
    goes_on = goes_to allowed (map (λ m. Some m) ms) (members_of v) (λ (more : List RawLine) answers. transcript_from (length ms) 1 0 answers empty_world (s.read ++ more)) (λ more later. transcript_from (length ms) at place.before later s.world more)
        s.text s.lines (λ answers. transcript_with (length ms) bytes answers) s.leads (λ answers. ap (transcript_from (length ms) 1 0 answers empty_world) s.all)

    -- of some of its lines
    pub goes_out : (part : List ℕ) → raw_lines part ≡ s.read → Goes allowed (map (λ m. Some m) ms) (members_of v) (λ answers. transcript_with (length ms) part answers) s.text (λ later. transcript_from (length ms) at place.before later s.world [])
    goes_out part is = goes_to allowed (map (λ m. Some m) ms) (members_of v) (λ (more : List RawLine) answers. transcript_from (length ms) 1 0 answers empty_world (s.read ++ more)) (λ more later. transcript_from (length ms) at place.before later s.world more)
        s.text [] (λ answers. transcript_with (length ms) part answers) s.leads (λ answers. ap (transcript_from (length ms) 1 0 answers empty_world) (is ∙ sym (append-nil s.read)))

    module _ (shown : List ℕ) (new_place : Place) (unread : Option (List ℕ)) (new : DrivenWorld M) (n : ShowsNext allowed at place.before s.world s.lines pending shown new_place unread v new) where
      abbrev read_on : List RawLine
      read_on = s.read ++ n.first ∷ []

      leads_on : Leads allowed (map (λ m. Some m) ms) (members_of new) (λ (more : List RawLine) answers. transcript_from (length ms) 1 0 answers empty_world (read_on ++ more)) (s.text ++ n.text) (λ more later. transcript_from (length ms) (suc at) new_place.before later n.world more)
      leads_on =
          let l : Leads allowed (map (λ m. Some m) ms) (members_of new) (λ (more : List RawLine) answers. transcript_from (length ms) 1 0 answers empty_world (s.read ++ n.first ∷ more)) (s.text ++ n.text) (λ more later. transcript_from (length ms) (suc at) new_place.before later n.world more) =
          leads_more allowed (map (λ m. Some m) ms) (members_of v) (members_of new) (λ (more : List RawLine) answers. transcript_from (length ms) 1 0 answers empty_world (s.read ++ n.first ∷ more)) (λ more later. transcript_from (length ms) at place.before later s.world (n.first ∷ more))
          (λ more later. transcript_from (length ms) (suc at) new_place.before later n.world more) s.text n.text
          (chosen allowed (map (λ m. Some m) ms) (members_of v) (λ (more : List RawLine) answers. transcript_from (length ms) 1 0 answers empty_world (s.read ++ more)) (λ more later. transcript_from (length ms) at place.before later s.world more) s.text (λ (more : List RawLine). n.first ∷ more) s.leads)
          (subst (λ (k : ℕ). Leads allowed (members_of v) (members_of new) (λ (more : List RawLine) answers. transcript_from k at place.before answers s.world (n.first ∷ more)) n.text (λ more later. transcript_from k (suc at) new_place.before later n.world more)) count n.leads)
          in
          record {
            put = l.put;
            given = l.given;
            each = l.each;
            goes = λ more later. ap (transcript_from (length ms) 1 0 (l.given ++ later) empty_world) (append_assoc s.read (n.first ∷ []) more) ∙ l.goes more later;
            gave = l.gave;
            count = l.count;
          }

      all_on : raw_lines bytes ≡ read_on ++ n.rest
      all_on = s.all ∙ ap (λ (l : List RawLine). s.read ++ l) n.is ∙ sym (append_assoc s.read (n.first ∷ []) n.rest)

      pub goes_further : Goes allowed (map (λ m. Some m) ms) (members_of new) (λ answers. transcript_with (length ms) bytes answers) (s.text ++ n.text) (λ later. transcript_from (length ms) (suc at) new_place.before later n.world n.rest)
      goes_further = goes_to allowed (map (λ m. Some m) ms) (members_of new) (λ (more : List RawLine) answers. transcript_from (length ms) 1 0 answers empty_world (read_on ++ more)) (λ more later. transcript_from (length ms) (suc at) new_place.before later n.world more)
          (s.text ++ n.text) n.rest (λ answers. transcript_with (length ms) bytes answers) leads_on (λ answers. ap (transcript_from (length ms) 1 0 answers empty_world) all_on)

      pub further : (then : Option (List ℕ)) (rest : List ℕ) → ((all : List ℕ) → now ≡ Some all → WroteBut all shown rest then) → SoFar allowed ms (at + 1) bytes new new_place unread start then rest
      further then rest writes = record {
        world = n.world;
        lines = n.rest;
        read = read_on;
        text = s.text ++ n.text;
        stands = n.stands;
        ahead = n.left;
        all = all_on;
        number = let e = s.number in let l : length read_on ≡ length s.read + 1 = length-append s.read (n.first ∷ []) in omega (arith, e, l);
        numbered = let more = of_bytes place left n.first n.rest (s.ahead ∙ ap Some n.is) in let passed = n.passed in let was = s.numbered in omega (arith, more, passed, was);
        within = subst (λ (k : ℕ). k ≤ 1048576) (sym n.passed) (let h = n.within in grind (arith, nat_tests, h));
        wrote = λ before h. wrote_some before (s.text ++ n.text) (pending ++ n.text) rest now then (wrote_more before s.text pending n.text now (s.wrote before h)) (λ all e. subst (λ (t : List ℕ). WroteBut all t rest then) n.shows (writes all e));
        leads = subst (λ (k : ℕ). Leads allowed (map (λ m. Some m) ms) (members_of new) (λ (more : List RawLine) answers. transcript_from (length ms) 1 0 answers empty_world (read_on ++ more)) (s.text ++ n.text) (λ more later. transcript_from (length ms) k new_place.before later n.world more)) (let e : suc at ≡ at + 1 = omega arith in e) leads_on;
      }
