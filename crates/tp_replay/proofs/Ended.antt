-- From what a line was answered to the transcript of the definitions.
use Rattle.std.proofs.Common.{◌≡◌, ◌<◌, ◌+◌, ◌++◌, ◌≤◌, ℕ, suc, nat_lt, length, Bool, true, false, List, Option, Some, None, Result, Ok, Err, refl, ap, subst, sym, ◌∙◌, arith, [], ◌∷◌}
use Rattle.std.specs.Prelude.{IfSome}
use Rattle.std.proofs.lemmas.List.{append-nil}
use Rattle.tp_records.specs.declared.request.Request.{Request}
use Rattle.tp_records.specs.Answers.{Answer}
use Rattle.tp_model.specs.declared.line.Line.{Line}
use Rattle.tp_model.specs.declared.out_line.OutLine.{OutLine}
use Rattle.tp_model.specs.declared.verdict.What.{What}
use Rattle.tp_model.specs.declared.verdict.Why.{Why}
use Rattle.tp_model.specs.LineText.{line_text}
use Rattle.tp_model.specs.OutText.{out_texts}
use Rattle.tp_model.specs.LineReading.{Reading, Blank, Faulty, Says, read_line}
use Rattle.tp_model.specs.World.{World}
use Rattle.tp_model.specs.Lines.{Fault, Name, Over}
use Rattle.tp_model.specs.Transcript.{Play, RawLine, content, echo, is_silent, Ending, Bad_input, At_limit, Transcript, ends, breaks, behind, fault_ending, transcript_from, octets_taken, line_played}
use Rattle.tp_schedule.specs.Answers.{answered}
use Rattle.tp_schedule.specs.AtHand.{together}
use Rattle.tp_schedule.specs.LinesLeft.{Place, answer, first_of, judged, most_read, unless_read, IsFor, IsAhead, lines_left}
use Rattle.tp_schedule.specs.declared.line_fault.LineFault.{LineFault}
use Rattle.tp_schedule.specs.declared.lines_fault.LinesFault.{LinesFault}
use Rattle.tp_world_sites.specs.declared.fault.WorldFault.{WorldFault}
use Rattle.tp_world_members.specs.Answers.{IsEnded}
use Rattle.tp_world_members.specs.Members.{Gave}
use Rattle.tp_world_members.specs.DrivenWorld.{members_of, Stands, PlaysAfter}
use Rattle.tp_world_members.specs.declared.driven_world.DrivenWorld.{DrivenWorld}
use Rattle.tp_world_members.proofs.Gave.{gave_none}
use Rattle.tp_replay.specs.declared.stop.LineStop.{LineStop}
use Rattle.tp_replay.specs.declared.stop.InputStop.{InputStop}
use Rattle.tp_replay.specs.Stops.{IsNumbered}
use Rattle.tp_replay.specs.Transcribing.{ReadsTo, past_bad, past_limit}
use Rattle.tp_replay.specs.Playing.{unread_as, unplayed_as, unheard_as, Stops, from_reading, Shows, EndsIn, EndsReading, ShowsReading, PlaysUnwritten, ShowsNext, EndsAt, EndsNext}
use Rattle.tp_replay.proofs.Left.{Parted, answers_first, reads_to}

-- ---- the echo

pub echo_and : (l : Line) (ls : List OutLine) → is_silent l ≡ false → out_texts (OutLine.Echo (line_text l) ∷ ls) ≡ out_texts (echo l ++ ls)
echo_and l ls h = sym (ap (λ (b : Bool). out_texts ((elim b as (λ _. List OutLine) [ true ↦ [] | false ↦ OutLine.Echo (line_text l) ∷ [] ]) ++ ls)) h)

pub no_echo_and : (l : Line) (ls : List OutLine) → is_silent l ≡ true → out_texts ls ≡ out_texts (echo l ++ ls)
no_echo_and l ls h = sym (ap (λ (b : Bool). out_texts ((elim b as (λ _. List OutLine) [ true ↦ [] | false ↦ OutLine.Echo (line_text l) ∷ [] ]) ++ ls)) h)

-- ---- in a line with a number

pub unread_numbered : (at : ℕ) (f : LineFault) → 0 < at → IsNumbered (unread_as at f)
unread_numbered at LineFault.Long h = h
unread_numbered at LineFault.Word h = h
unread_numbered at LineFault.Number h = h
unread_numbered at LineFault.NoMemory h = tt

pub unplayed_numbered : (at : ℕ) (f : WorldFault) → 0 < at → IsNumbered (unplayed_as at f)
unplayed_numbered at WorldFault.Name h = h
unplayed_numbered at (WorldFault.Limit what) h = h
unplayed_numbered at WorldFault.NoMemory h = tt

-- ---- a line

abbrev goes_as : ℕ → (List (Option Request) → World → Transcript) → Play → Transcript
goes_as at rest p = elim p.fault [ Some f ↦ breaks at f p | None ↦ behind p (rest p.left p.world) ]

module _ {M : Type 0} (allowed : M → List Answer → Type 0) (at : ℕ) (w : World) (old new : DrivenWorld M) where
  abbrev k : ℕ
  k = length (members_of old)

  -- what it shows, where nothing came before
  pub shows_line : (x : Line) (before lines : List OutLine) → before ≡ [] → PlaysAfter allowed w x before (Ok tt) lines old new → Shows allowed at w (Says x) [] (out_texts (echo x ++ lines)) old new
  shows_line x before lines none h = record {
    text = out_texts (echo x ++ h.shown);
    world = h.world;
    is = ap (λ (ls : List OutLine). out_texts (echo x ++ ls)) (h.is ∙ ap (λ (ls : List OutLine). ls ++ h.shown) none);
    leads = record {
      put = h.played.put;
      given = h.played.given;
      each = h.played.each;
      goes = λ rest later. ap (goes_as at rest) (h.played.plays later);
      gave = h.played.gave;
      count = h.played.count;
    };
    stands = h.stands;
  }

  -- the same text at the end of an output
  pub shows_after : (r : Reading) (out text shown : List ℕ) → shown ≡ out ++ text → Shows allowed at w r [] text old new → Shows allowed at w r out shown old new
  shows_after r out text shown is h = record {
    text = h.text;
    world = h.world;
    is = is ∙ ap (λ (t : List ℕ). out ++ t) h.is;
    leads = h.leads;
    stands = h.stands;
  }

  stops_line : (x : Line) (f : Fault) → IsEnded allowed (members_of old) (members_of new) k w x f → EndsIn allowed at w (Says x) (fault_ending at f) old new
  stops_line x f h = λ rest. record {
    put = h.play.puts;
    given = h.given;
    world = h.play.world;
    each = h.each;
    stops = λ later. ap (goes_as at rest) (h.plays later) ∙ ended later rest h.play.fault h.fault;
    gave = h.gave;
  }
    where
      ended : (later : List (Option Request)) (rest : List (Option Request) → World → Transcript) (o : Option Fault) → o ≡ Some f
          → (elim o as (λ _. Transcript) [ Some g ↦ breaks at g (record h.play { left = later }) | None ↦ behind (record h.play { left = later }) (rest later h.play.world) ])
          ≡ record { written = []; ending = fault_ending at f; world = h.play.world; puts = h.play.puts }
      ended later rest o e = ap (λ (o : Option Fault). elim o as (λ _. Transcript) [ Some g ↦ breaks at g (record h.play { left = later }) | None ↦ behind (record h.play { left = later }) (rest later h.play.world) ]) e

  pub line_ends : (x : Line) (f : WorldFault) (before lines : List OutLine) (stop : LineStop) → stop ≡ unplayed_as at f → PlaysAfter allowed w x before (Err f) lines old new → EndsReading allowed at w (Says x) stop old new
  line_ends x f before lines stop is h = subst (λ (s : LineStop). EndsReading allowed at w (Says x) s old new) (sym is) (go f h)
    where
      go : (f : WorldFault) → PlaysAfter allowed w x before (Err f) lines old new → EndsReading allowed at w (Says x) (unplayed_as at f) old new
      go WorldFault.Name h = (refl, stops_line x Name h)
      go (WorldFault.Limit what) h = (refl, stops_line x (Over what) h)
      go WorldFault.NoMemory h = tt

  -- ---- what was read

  pub blank_shows : (r : Reading) (out shown : List ℕ) → Blank ≡ r → Stands w new → new ≡ old → shown ≡ out → Shows allowed at w r out shown old new
  blank_shows r out shown is stands same none = subst (λ (q : Reading). Shows allowed at w q out shown old new) is (subst (λ (v : DrivenWorld M). Shows allowed at w Blank out shown v new) same (record {
    text = [];
    world = w;
    is = none ∙ sym (append-nil out);
    leads = record { put = []; given = []; each = refl; goes = λ rest later. refl; gave = gave_none allowed (members_of new); count = refl };
    stands = stands;
  }))

  pub said_shows : (x : Line) (r : Reading) (a : Result (Unit {0}) LineStop) (out shown : List ℕ) → Says x ≡ r → ShowsReading old new allowed at w (Says x) a out shown → ShowsReading old new allowed at w r a out shown
  said_shows x r a out shown is h = subst (λ (q : Reading). ShowsReading old new allowed at w q a out shown) is h

  -- the same where it is written nowhere
  pub said_plays : (x : Line) (r : Reading) (a : Result (Unit {0}) LineStop) (text : List ℕ) → Says x ≡ r → ShowsReading old new allowed at w (Says x) a [] text → PlaysUnwritten old new allowed at w r a
  said_plays x r (Ok u) text is h = subst (λ (q : Reading). PlaysUnwritten old new allowed at w q (Ok u)) is (text, h)
  said_plays x r (Err stop) text is h = subst (λ (q : Reading). EndsReading allowed at w q stop old new) is h

  faulty_ends : (why : Why) (r : Reading) → Faulty why ≡ r → members_of new ≡ members_of old → EndsIn allowed at w r (Bad_input at why) old new
  faulty_ends why r is same = subst (λ (q : Reading). EndsIn allowed at w q (Bad_input at why) old new) is
      (λ rest. record { put = []; given = []; world = w; each = refl; stops = λ later. refl; gave = subst (λ (xs : List (Option M)). Gave allowed (members_of old) xs [] []) (sym same) (gave_none allowed (members_of old)) })

  pub unread_ends : (f : LineFault) (r : Reading) (stop : LineStop) → stop ≡ unread_as at f → IfSome (answered (Err f)) (λ reading. reading ≡ r) → members_of new ≡ members_of old → EndsReading allowed at w r stop old new
  unread_ends f r stop now is same = subst (λ (s : LineStop). EndsReading allowed at w r s old new) (sym now) (go f is)
    where
      go : (f : LineFault) → IfSome (answered (Err f)) (λ reading. reading ≡ r) → EndsReading allowed at w r (unread_as at f) old new
      go LineFault.Long is = (refl, faulty_ends Why.Long r is same)
      go LineFault.Word is = (refl, faulty_ends Why.Word r is same)
      go LineFault.Number is = (refl, faulty_ends Why.Number r is same)
      go LineFault.NoMemory is = tt

  -- ---- the first of some lines

  read_first : (before : ℕ) (l : RawLine) (ls : List RawLine) (answers : List (Option Request)) → nat_lt 1048576 (before + octets_taken l) ≡ false
      → transcript_from k at before answers w (l ∷ ls) ≡ from_reading k at w (read_line (content l)) (λ a v. transcript_from k (suc at) (before + octets_taken l) a v ls) answers
  read_first before l ls answers within = go (nat_lt 1048576 (before + octets_taken l)) within
    where
      on : List (Option Request) → World → Transcript
      on a v = transcript_from k (suc at) (before + octets_taken l) a v ls

      read : (r : Reading) → (elim r as (λ _. Transcript) [ Blank ↦ on answers w | Faulty why ↦ ends w (Bad_input at why) | Says x ↦ goes_as at on (line_played k answers w x) ]) ≡ from_reading k at w r on answers
      read Blank = refl
      read (Faulty why) = refl
      read (Says x) = refl

      go : (b : Bool) → b ≡ false
          → (elim b as (λ _. Transcript) [
            | true ↦ ends w (At_limit What.Schedule at)
            | false ↦ elim (read_line (content l)) as (λ _. Transcript) [ Blank ↦ on answers w | Faulty why ↦ ends w (Bad_input at why) | Says x ↦ goes_as at on (line_played k answers w x) ]
          ]) ≡ from_reading k at w (read_line (content l)) on answers
      go true e = absurd cc
      go false e = read (read_line (content l))

  module _ (p : Place) (left : Option (List ℕ)) (ls : List RawLine) (text : List ℕ) (place : Place) (unread : Option (List ℕ)) (parts : Parted p left ls text place unread) where
    abbrev on : List RawLine → List (Option Request) → World → Transcript
    on more a v = transcript_from k (suc at) place.before a v more

    from_first : (more : List RawLine) (answers : List (Option Request)) → transcript_from k at p.before answers w (parts.first ∷ more) ≡ from_reading k at w (read_line text) (on more) answers
    from_first more answers =
        read_first p.before parts.first more answers parts.within
        ∙ ap (λ (t : List ℕ). from_reading k at w (read_line t) (λ a v. transcript_from k (suc at) (p.before + octets_taken parts.first) a v more) answers) parts.is_text
        ∙ ap (λ (n : ℕ). from_reading k at w (read_line text) (λ a v. transcript_from k (suc at) n a v more) answers) (sym parts.passed)

    pub plays_first : (out shown : List ℕ) → ShowsReading old new allowed at w (read_line text) (Ok tt) out shown → ShowsNext allowed at p.before w ls out shown place unread old new
    plays_first out shown h = record {
      text = h.text;
      world = h.world;
      first = parts.first;
      rest = parts.rest;
      is = parts.is;
      shows = h.is;
      leads = record { put = h.leads.put; given = h.leads.given; each = h.leads.each; goes = λ more later. from_first more (h.leads.given ++ later) ∙ h.leads.goes (on more) later; gave = h.leads.gave; count = h.leads.count };
      stands = h.stands;
      within = parts.within;
      passed = parts.passed;
      fault = parts.fault;
      left = parts.others;
    }

    stops_first : (n most : ℕ) (e : Ending) → ReadsTo 12288 ls unread → 12288 ≤ most → (n ≡ at) × EndsIn allowed at w (read_line text) e old new → EndsAt allowed at p.before w ls n e most unread old new
    stops_first n most e reads few h =
        let s : Stops allowed (members_of old) (members_of new) (from_reading k at w (read_line text) (on parts.rest)) e = h.1 (on parts.rest) in
        record {
          number = h.0;
          stops = record {
            put = s.put;
            given = s.given;
            world = s.world;
            each = s.each;
            stops = λ later. ap (transcript_from k at p.before (s.given ++ later) w) parts.is ∙ from_first parts.rest (s.given ++ later) ∙ s.stops later;
            gave = s.gave;
          };
          reads = λ left is. let r = reads left is in omega (arith, r, few);
        }

    few_bad : (why : Why) → 12288 ≤ past_bad why ls
    few_bad Why.Long = omega arith
    few_bad Why.Word = omega arith
    few_bad Why.Number = omega arith
    few_bad Why.Name = omega arith
    few_bad Why.Short = omega arith
    few_bad Why.Length = omega arith
    few_bad Why.Body = omega arith

    few_limit : (what : What) → 12288 ≤ past_limit what ls
    few_limit What.Schedule = omega arith
    few_limit What.Sites = omega arith
    few_limit What.Nodes = omega arith
    few_limit What.Frames = omega arith
    few_limit What.Answers = omega arith
    few_limit What.Events = omega arith
    few_limit What.Log = omega arith
    few_limit What.Boots = omega arith

    pub ends_first : (stop : LineStop) → ReadsTo 12288 ls unread → EndsReading allowed at w (read_line text) stop old new → EndsNext allowed at p.before w ls (InputStop.Line stop) unread old new
    ends_first (LineStop.BadInput n why) reads h = stops_first n (past_bad why ls) (Bad_input n why) reads (few_bad why) h
    ends_first (LineStop.Limit what n) reads h = stops_first n (past_limit what ls) (At_limit what n) reads (few_limit what) h
    ends_first LineStop.NoMemory reads h = tt

  -- one that is not handed out
  first_stops : (before most : ℕ) (l : RawLine) (ls : List RawLine) (e : Ending) (unread : Option (List ℕ)) → ((answers : List (Option Request)) → transcript_from k at before answers w (l ∷ ls) ≡ ends w e) → members_of new ≡ members_of old → ReadsTo most (l ∷ ls) unread
      → EndsAt allowed at before w (l ∷ ls) at e most unread old new
  first_stops before most l ls e unread h same reads = record {
    number = refl;
    stops = record {
      put = [];
      given = [];
      world = w;
      each = refl;
      stops = λ later. h later;
      gave = subst (λ (xs : List (Option M)). Gave allowed (members_of old) xs [] []) (sym same) (gave_none allowed (members_of old));
    };
    reads = reads;
  }

  pub unheard_ends : (p : Place) (left : Option (List ℕ)) (ls : List RawLine) (f : LinesFault) (stop : InputStop) (unread : Option (List ℕ)) → stop ≡ unheard_as at f → p.fault ≡ None → lines_left p left ≡ Some ls
      → IsFor (answer p) (together p.held left) (Err f) → IsAhead (together p.held left) unread (Err f) → members_of new ≡ members_of old → EndsNext allowed at p.before w ls stop unread old new
  unheard_ends p left ls f stop unread now unfaulted is for_these ahead same = subst (λ (s : InputStop). EndsNext allowed at p.before w ls s unread old new) (sym now) (go f ls (answers_first p left ls (Err f) unfaulted is for_these) (reads_to p left ls unread (Err f) is ahead))
    where
      long : (l : RawLine) (ls : List RawLine) (answers : List (Option Request)) → Err LinesFault.Long ≡ judged p.before l → transcript_from k at p.before answers w (l ∷ ls) ≡ ends w (Bad_input at Why.Long)
      long l ls answers e = cases (nat_lt 1048576 (p.before + octets_taken l)) refl (nat_lt 8192 (length (content l))) refl
        where
          cases : (a : Bool) → nat_lt 1048576 (p.before + octets_taken l) ≡ a → (b : Bool) → nat_lt 8192 (length (content l)) ≡ b → transcript_from k at p.before answers w (l ∷ ls) ≡ ends w (Bad_input at Why.Long)
          cases true x b y = absurd (grind (arith, e, x))
          cases false x true y = read_first p.before l ls answers x ∙ ap (λ (r : Reading). from_reading k at w r (λ a v. transcript_from k (suc at) (p.before + octets_taken l) a v ls) answers) (let long_one : read_line (content l) ≡ Faulty Why.Long = rw (read_line, y) refl in long_one)
          cases false x false y = absurd (grind (arith, e, x, y))

      limit : (l : RawLine) (ls : List RawLine) (answers : List (Option Request)) → Err LinesFault.Limit ≡ judged p.before l → transcript_from k at p.before answers w (l ∷ ls) ≡ ends w (At_limit What.Schedule at)
      limit l ls answers e = cases (nat_lt 1048576 (p.before + octets_taken l)) refl (nat_lt 8192 (length (content l))) refl
        where
          cases : (a : Bool) → nat_lt 1048576 (p.before + octets_taken l) ≡ a → (b : Bool) → nat_lt 8192 (length (content l)) ≡ b → transcript_from k at p.before answers w (l ∷ ls) ≡ ends w (At_limit What.Schedule at)
          cases true x b y = rw (transcript_from, x) refl
          cases false x true y = absurd (grind (arith, e, x, y))
          cases false x false y = absurd (grind (arith, e, x, y))

      go : (f : LinesFault) (ls : List RawLine) → Err f ≡ unless_read (Err f) (first_of p.before ls) → ReadsTo (most_read ls (Err f)) ls unread → EndsNext allowed at p.before w ls (unheard_as at f) unread old new
      go (LinesFault.ReadFault n) ls e reads = reads
      go LinesFault.Long [] e reads = absurd (grind (arith, e))
      go LinesFault.Long (l ∷ ls) e reads = first_stops p.before (past_bad Why.Long (l ∷ ls)) l ls (Bad_input at Why.Long) unread (λ answers. long l ls answers e) same reads
      go LinesFault.Limit [] e reads = absurd (grind (arith, e))
      go LinesFault.Limit (l ∷ ls) e reads = first_stops p.before (past_limit What.Schedule (l ∷ ls)) l ls (At_limit What.Schedule at) unread (λ answers. limit l ls answers e) same reads
