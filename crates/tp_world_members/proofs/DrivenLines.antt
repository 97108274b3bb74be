-- The lines of a driven world.
use Rattle.std.proofs.Common.{◌≡◌, ◌++◌, ◌&&◌, ℕ, Bool, true, false, refl, ap, sym, ◌∙◌, subst, append_assoc, Option, List, [], ◌∷◌, Result, Ok, Err, length, drop, nat_eq}
use Rattle.std.specs.Map.{lookup}
use Rattle.std.proofs.lemmas.List.{append-nil}
use Rattle.std.specs.Prelude.{IfOk}
use Rattle.tp_names.specs.declared.no_memory.NoMemory.{NoMemory}
use Rattle.tp_records.specs.Answers.{Answer}
use Rattle.tp_records.specs.declared.request.Request.{Request}
use Rattle.tp_model.specs.declared.line.Line.{Line}
use Rattle.tp_model.specs.declared.out_line.OutLine.{OutLine}
use Rattle.tp_model.specs.LineText.{line_text}
use Rattle.tp_model.specs.World.{World, is_node, driver_of}
use Rattle.tp_model.specs.Happenings.{Drive as DriveNode, Drop, Told, happens, WorldTurn}
use Rattle.tp_model.specs.Lines.{Fault, Name, Over, if_named, is_member_there, line}
use Rattle.tp_model.specs.Trees.{closing}
use Rattle.tp_model.specs.Transcript.{Put, answered, echo, is_silent, puts_of}
use Rattle.tp_members.specs.Expansion.{memberless}
use Rattle.tp_members.proofs.Memberless.{line_without}
use Rattle.tp_world.specs.World.{Stands as WorldStands, PlaysAfter as WorldPlaysAfter}
use Rattle.tp_world_sites.specs.declared.fault.WorldFault.{WorldFault}
use Rattle.tp_world.specs.declared.world.World.{World as CodeWorld}
use Rattle.tp_world_members.specs.Told.{puts_by, puts_in}
use Rattle.tp_world_members.specs.Members.{is_there, slot_at, now_driven, HasLeft, Gave}
use Rattle.tp_world_members.specs.Answers.{HaveRun, HaveEnded, IsPlayed, IsEnded}
use Rattle.tp_world_members.specs.Standing.{MembersStand}
use Rattle.tp_world_members.specs.Running.{waits, RunsOut, RunsAll}
use Rattle.tp_world_members.specs.DrivenWorld.{members_of, Stands, PlaysOut, PlaysAfter, PlaysEchoed}
use Rattle.tp_world_members.specs.declared.driven_world.DrivenWorld.{DrivenWorld}
use Rattle.tp_world_members.proofs.Gave.{gave_none}
use Rattle.tp_world_members.proofs.Steady.{IsSteady, line_steady}
use Rattle.tp_world_members.proofs.Standing.{members_kept, members_drive, members_left, gave_left}
use Rattle.tp_world_members.proofs.Running.{puts_are, played_line, ended_line, ended_by_line}
use Rattle.tp_world_members.proofs.Answered.{IsWith, with_members, fault_with}

-- ---- a line that is shown

drop_front : {A : Type 0} (xs ys : List A) → drop (length xs) (xs ++ ys) ≡ ys
drop_front [] ys = refl
drop_front (x ∷ xs) ys = drop_front xs ys

-- what it told waits
told_waits : (w : World) (t : WorldTurn) (before mid : List OutLine) (from : ℕ) → IsSteady w.drives w.dropped t → from ≡ length before → mid ≡ before ++ t.lines → waits t.world mid from ≡ puts_of t.world t.told
told_waits w t before mid from steady at is =
    ap (λ (n : ℕ). puts_in d (drop n mid)) at ∙ ap (λ (l : List OutLine). puts_in d (drop (length before) l)) is ∙ ap (puts_in d) (drop_front before t.lines)
    ∙ ap (puts_by d) (sym steady.told) ∙ sym (puts_are t.world t.told)
  where
    d : ℕ → Option ℕ
    d = driver_of t.world.drives

module _ {M : Type 0} (allowed : M → List Answer → Type 0) (w : World) (l : Line) (old new : DrivenWorld M) where
  -- its answers were run
  module _ (t : WorldTurn) (before mid after : List OutLine) (shown : is_silent l ≡ false) (is : line (length (members_of old)) w l ≡ Ok t) (lines : mid ≡ before ++ t.lines) where
    all_run : puts_of t.world t.told ≡ puts_of t.world t.told → (from : ℕ) → waits t.world mid from ≡ puts_of t.world t.told
        → RunsOut allowed 0 t.world from mid after new.world (members_of old) (members_of new) new.members.drivers.entries → PlaysOut allowed w l before after old new
    all_run same from queue h = record {
      world = h.world;
      shown = t.lines ++ h.more;
      is = h.is ∙ ap (λ (m : List OutLine). m ++ h.more) lines ∙ append_assoc before t.lines h.more;
      played = played_line allowed (members_of old) (members_of new) (length (members_of old)) w l t h.more h.after h.world is
          (subst (λ (q : List Put). HaveRun allowed (members_of old) (members_of new) 0 t.world q h.more h.after h.world []) queue h.run);
      stands = h.stands;
    }

    one_ended : (f : Fault) (from : ℕ) → waits t.world mid from ≡ puts_of t.world t.told → HaveEnded allowed (members_of old) (members_of new) 0 t.world (waits t.world mid from) f
        → IsEnded allowed (members_of old) (members_of new) (length (members_of old)) w l f
    one_ended f from queue h = ended_line allowed (members_of old) (members_of new) (length (members_of old)) w l t f is
        (subst (λ (q : List Put). HaveEnded allowed (members_of old) (members_of new) 0 t.world q f) queue h)

    by_answers : (from : ℕ) (r : Result (Unit {0}) WorldFault) → waits t.world mid from ≡ puts_of t.world t.told
        → RunsAll allowed t.world from mid r after new.world (members_of old) (members_of new) new.members.drivers.entries → PlaysAfter allowed w l before r after old new
    by_answers from (Ok u) queue h = all_run refl from queue h
    by_answers from (Err WorldFault.Name) queue h = one_ended Name from queue h
    by_answers from (Err (WorldFault.Limit what)) queue h = one_ended (Over what) from queue h
    by_answers from (Err WorldFault.NoMemory) queue h = tt

  pub line_answered : (before mid after : List OutLine) (from : ℕ) (r : Result (Unit {0}) WorldFault) (between : CodeWorld) → is_silent l ≡ false → Stands w old → from ≡ length before
      → WorldPlaysAfter (memberless w) l before (Ok tt) mid between
      → ((v : World) → WorldStands (memberless v) between → MembersStand v (members_of old) old.members.drivers.entries
      → RunsAll allowed v from mid r after new.world (members_of old) (members_of new) new.members.drivers.entries)
      → PlaysAfter allowed w l before r after old new
  line_answered before mid after from r between shown stands at plays runs =
      let k : ℕ = length (members_of old) in
      let t : IsWith (line k w l) plays.0 = with_members (line k w l) plays.0 (sym (line_without k w l shown) ∙ plays.1 0) in
      let steady : IsSteady w.drives w.dropped t.turn = line_steady k w l t.turn shown t.is in
      let lines : mid ≡ before ++ t.turn.lines = plays.2 ∙ ap (λ (u : WorldTurn). before ++ u.lines) (sym t.same) in
      let there : WorldStands (memberless t.turn.world) between = subst (λ (v : World). WorldStands v between) (ap (λ (u : WorldTurn). u.world) (sym t.same)) plays.3 in
      by_answers t.turn before mid after shown t.is lines from r (told_waits w t.turn before mid from steady at lines)
      (runs t.turn.world there (members_kept t.turn.world w (members_of old) old.members.drivers.entries steady.drives steady.dropped stands.members))

  -- it ends the run itself
  pub line_failed : (before mid after : List OutLine) (f : WorldFault) (r : Result (Unit {0}) WorldFault) (between : CodeWorld) → r ≡ Err f → is_silent l ≡ false → WorldPlaysAfter (memberless w) l before (Err f) mid between → members_of new ≡ members_of old
      → PlaysAfter allowed w l before r after old new
  line_failed before mid after f r between is shown plays same = subst (λ (q : Result (Unit {0}) WorldFault). PlaysAfter allowed w l before q after old new) (sym is) (go f plays)
    where
      k : ℕ
      k = length (members_of old)

      ended_by : (g : Fault) → line 0 (memberless w) l ≡ Err g → IsEnded allowed (members_of old) (members_of new) k w l g
      ended_by g h = subst (λ (xs : List (Option M)). IsEnded allowed (members_of old) xs k w l g) (sym same)
          (ended_by_line allowed (members_of old) k w l g (fault_with (line k w l) g (sym (line_without k w l shown) ∙ h)))

      go : (f : WorldFault) → WorldPlaysAfter (memberless w) l before (Err f) mid between → PlaysAfter allowed w l before (Err f) after old new
      go WorldFault.Name h = ended_by Name (h 0 (λ _. refl))
      go (WorldFault.Limit what) h = ended_by (Over what) (h 0)
      go WorldFault.NoMemory h = tt

  -- ---- a line that speaks of members

  -- it names what is not there
  line_unnamed : (before after : List OutLine) → line (length (members_of old)) w l ≡ Err Name → members_of new ≡ members_of old → PlaysAfter allowed w l before (Err WorldFault.Name) after old new
  line_unnamed before after is same = subst (λ (xs : List (Option M)). IsEnded allowed (members_of old) xs (length (members_of old)) w l Name) (sym same)
      (ended_by_line allowed (members_of old) (length (members_of old)) w l Name is)

  pub no_node : (n k : ℕ) (before after : List OutLine) → l ≡ Line.Auto n k → is_node w n ≡ false → members_of new ≡ members_of old → PlaysAfter allowed w l before (Err WorldFault.Name) after old new
  no_node n k before after is node same = line_unnamed before after
      (ap (line (length (members_of old)) w) is ∙ ap (λ (b : Bool). if_named (b && is_member_there (length (members_of old)) w k) (Ok (happens w (DriveNode n k)))) node) same

  pub no_member : (n k : ℕ) (before after : List OutLine) → l ≡ Line.Auto n k → Stands w old → is_node w n ≡ true → is_there (slot_at (members_of old) k) ≡ false → members_of new ≡ members_of old
      → PlaysAfter allowed w l before (Err WorldFault.Name) after old new
  no_member n k before after is stands node there same = line_unnamed before after
      (ap (line (length (members_of old)) w) is ∙ ap (λ (b : Bool). if_named (b && is_member_there (length (members_of old)) w k) (Ok (happens w (DriveNode n k)))) node
      ∙ ap (λ (b : Bool). if_named b (Ok (happens w (DriveNode n k)))) (sym (stands.members.there k) ∙ there)) same

  pub none_to_leave : (k : ℕ) (before after : List OutLine) → l ≡ Line.Leave k → Stands w old → is_there (slot_at (members_of old) k) ≡ false → members_of new ≡ members_of old → PlaysAfter allowed w l before (Err WorldFault.Name) after old new
  none_to_leave k before after is stands there same = line_unnamed before after
      (ap (line (length (members_of old)) w) is ∙ ap (λ (b : Bool). if_named b (Ok (happens w (Drop k)))) (sym (stands.members.there k) ∙ there)) same

  quiet : (t : WorldTurn) (before after : List OutLine) → line (length (members_of old)) w l ≡ Ok t → t.lines ≡ [] → t.told ≡ [] → after ≡ before → Gave allowed (members_of old) (members_of new) [] [] → length (members_of new) ≡ length (members_of old) → Stands t.world new
      → PlaysAfter allowed w l before (Ok tt) after old new
  quiet t before after is none silent same gave count stands = record {
    world = t.world;
    shown = [];
    is = same ∙ sym (append-nil before);
    played = subst (λ (ls : List OutLine). IsPlayed allowed (members_of old) (members_of new) (length (members_of old)) w l ls t.world) (append-nil t.lines ∙ none)
        (played_line allowed (members_of old) (members_of new) (length (members_of old)) w l t [] 0 t.world is
        (record { put = []; given = []; each = refl; run = λ later. queue later; gave = gave; count = count }));
    stands = stands;
  }
    where
      queue : (later : List (Option Request)) → answered later 0 t.world (puts_of t.world t.told) ≡ answered later 0 t.world []
      queue later = ap (λ (ts : List Told). answered later 0 t.world (puts_of t.world ts)) silent

  pub has_left : (k : ℕ) (before after : List OutLine) → l ≡ Line.Leave k → Stands w old → is_there (slot_at (members_of old) k) ≡ true → after ≡ before → new.world ≡ old.world → new.members.drivers ≡ old.members.drivers
      → length (members_of new) ≡ length (members_of old) → HasLeft k (members_of old) (members_of new) → PlaysAfter allowed w l before (Ok tt) after old new
  has_left k before after is stands there same world drivers count left =
      quiet (happens w (Drop k)) before after (ap (line (length (members_of old)) w) is ∙ ap (λ (b : Bool). if_named b (Ok (happens w (Drop k)))) (sym (stands.members.there k) ∙ there)) refl refl same
      (gave_left allowed k (members_of old) (members_of new) left) count
      (record {
        world = subst (λ (v : CodeWorld). WorldStands (memberless w) v) (sym world) stands.world;
        members = members_left w (members_of old) (members_of new) old.members.drivers.entries new.members.drivers.entries k count left (ap (λ d. d.entries) drivers) stands.members;
      })

  pub has_driven : (n k : ℕ) (before after : List OutLine) → l ≡ Line.Auto n k → Stands w old → is_node w n ≡ true → is_there (slot_at (members_of old) k) ≡ true → after ≡ before → new.world ≡ old.world → members_of new ≡ members_of old
      → ((m : ℕ) → lookup (nat_eq m) new.members.drivers.entries ≡ now_driven (nat_eq n m) k (lookup (nat_eq m) old.members.drivers.entries)) → PlaysAfter allowed w l before (Ok tt) after old new
  has_driven n k before after is stands node there same world slots noted =
      quiet (happens w (DriveNode n k)) before after
      (ap (line (length (members_of old)) w) is ∙ ap (λ (b : Bool). if_named b (Ok (happens w (DriveNode n k)))) (ap (λ (b : Bool). b && is_member_there (length (members_of old)) w k) node ∙ (sym (stands.members.there k) ∙ there)))
      refl refl same
      (subst (λ (xs : List (Option M)). Gave allowed (members_of old) xs [] []) (sym slots) (gave_none allowed (members_of old)))
      (ap (λ (xs : List (Option M)). length xs) slots)
      (record {
        world = subst (λ (v : CodeWorld). WorldStands (memberless w) v) (sym world) stands.world;
        members = subst (λ (xs : List (Option M)). MembersStand (happens w (DriveNode n k)).world xs new.members.drivers.entries) (sym slots)
            (members_drive w (members_of old) old.members.drivers.entries new.members.drivers.entries n k there noted stands.members);
      })

  -- ---- what does not matter

  -- to a fault, the lines
  pub any_lines : (before after first last : List OutLine) (f : WorldFault) → PlaysAfter allowed w l before (Err f) after old new → PlaysAfter allowed w l first (Err f) last old new
  any_lines before after first last WorldFault.Name h = h
  any_lines before after first last (WorldFault.Limit what) h = h
  any_lines before after first last WorldFault.NoMemory h = tt

  -- the echo stands before
  pub with_echo : (before after : List OutLine) (r : Result (Unit {0}) WorldFault) → before ≡ echo l → PlaysAfter allowed w l before r after old new → PlaysEchoed allowed w l r after old new
  with_echo before after r is h = subst (λ (b : List OutLine). PlaysAfter allowed w l b r after old new) is h

pub echo_shown : (l : Line) → is_silent l ≡ false → OutLine.Echo (line_text l) ∷ [] ≡ echo l
echo_shown l h = sym (ap (λ (b : Bool). elim b as (λ _. List OutLine) [ true ↦ [] | false ↦ OutLine.Echo (line_text l) ∷ [] ]) h)

pub echo_silent : (l : Line) → is_silent l ≡ true → [] ≡ echo l
echo_silent l h = sym (ap (λ (b : Bool). elim b as (λ _. List OutLine) [ true ↦ [] | false ↦ OutLine.Echo (line_text l) ∷ [] ]) h)

-- ---- the closing lines

pub closes_so : {M : Type 0} (v : DrivenWorld M) (r : Result (List OutLine) NoMemory) → IfOk r (λ lines. (w : World) → WorldStands w v.world → lines ≡ closing w) → IfOk r (λ lines. (w : World) → Stands w v → lines ≡ closing w)
closes_so v (Ok lines) h = λ w stands. h (memberless w) stands.world
closes_so v (Err f) h = tt
