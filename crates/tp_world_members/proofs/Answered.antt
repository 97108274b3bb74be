-- The answers that the code runs, and the lines that it plays, are those of the definitions.
use Rattle.std.proofs.Common.{◌≡◌, ◌≤◌, ◌<◌, ◌+◌, ◌++◌, nat_le, ℕ, zero, suc, Bool, true, false, refl, ap, sym, ◌∙◌, subst, arith, append_assoc, Option, Some, None, List, [], ◌∷◌, Result, Ok, Err, length, drop}
use Rattle.std.specs.Result.{IsErrAnd}
use Rattle.std.proofs.lemmas.Bool.Decides.{nat_tests}
use Rattle.std.proofs.lemmas.List.{append-nil}
use Rattle.tp_records.specs.Answers.{Answer}
use Rattle.tp_model.specs.declared.line.Action.{Action}
use Rattle.tp_model.specs.declared.line.Line.{Line}
use Rattle.tp_model.specs.declared.line.LineRequest.{LineRequest}
use Rattle.tp_model.specs.declared.out_line.OutLine.{OutLine}
use Rattle.tp_model.specs.declared.verdict.What.{What}
use Rattle.tp_model.specs.LineText.{line_text}
use Rattle.tp_model.specs.World.{World, Drive, driver_of}
use Rattle.tp_model.specs.Happenings.{Does, happens, WorldTurn}
use Rattle.tp_model.specs.Lines.{Fault, Name, Over, is_named, action_line, if_named, within_limits, line}
use Rattle.tp_model.specs.Transcript.{Put, answer_turn, line_request, puts_of}
use Rattle.tp_members.specs.Expansion.{memberless}
use Rattle.tp_members.proofs.Memberless.{turn_without, result_without, line_without}
use Rattle.tp_world.specs.World.{Stands as WorldStands, PlaysAfter as WorldPlaysAfter}
use Rattle.tp_world_sites.specs.declared.fault.WorldFault.{WorldFault}
use Rattle.tp_world.specs.declared.world.World.{World as CodeWorld}
use Rattle.tp_world_members.specs.Told.{told_in, puts_by, puts_in}
use Rattle.tp_world_members.specs.Members.{AreSame, AsksFor, AsksFrom, Gave, driver_in, silent}
use Rattle.tp_world_members.specs.Answers.{HaveRun, HaveEnded}
use Rattle.tp_world_members.specs.Standing.{MembersStand}
use Rattle.tp_world_members.specs.Running.{RunsAnswer, waits, StandsWith, RunsOn, RunsOut, RunsNext, RunsAll}
use Rattle.tp_world_members.specs.declared.members.Asked.{Asked}
use Rattle.tp_world_members.proofs.Asking.{puts_more, puts_same}
use Rattle.tp_world_members.proofs.Steady.{IsSteady, line_steady}
use Rattle.tp_world_members.proofs.Standing.{members_same, members_kept}
use Rattle.tp_world_members.proofs.Running.{puts_are, run_more, run_none, run_ended, none_asked, run_asked, end_asked}

pub err_is : {A : Type 0} {E : Type 0} (r : Result A E) (f : E) → IsErrAnd r (λ e. e ≡ f) → r ≡ Err f
err_is (Ok a) f h = absurd h
err_is (Err e) f h = ap (λ (x : _). Err x) h

-- ---- one answer as a line

-- an answer that is run is within the limit
within_limit : (b : ℕ) (w : World) (n : ℕ) (r : LineRequest) (t : WorldTurn) → answer_turn b w n r ≡ Ok t → b < 4096
within_limit b w n r t is = go (is_named w (Action.Do n r)) (nat_le 4096 b) refl is
  where
    go : (x y : Bool) → nat_le 4096 b ≡ y → (elim x as (λ _. Result WorldTurn Fault) [ false ↦ Err Name | true ↦ elim y as (λ _. Result WorldTurn Fault) [ true ↦ Err (Over What.Answers) | false ↦ action_line w (Action.Do n r) ] ]) ≡ Ok t → b < 4096
    go false y e h = absurd cc
    go true true e h = absurd cc
    go true false e h = grind (arith, nat_tests, e)

answer_small : (b : ℕ) (w : World) (n : ℕ) (r : LineRequest) → nat_le 4096 b ≡ false → answer_turn b w n r ≡ line 0 w (Line.Do n r)
answer_small b w n r small = go (is_named w (Action.Do n r)) (nat_le 4096 b) small
  where
    event : Result WorldTurn Fault
    event = within_limits (happens w (Does (Action.Do n r)))

    go : (x y : Bool) → y ≡ false → (elim x as (λ _. Result WorldTurn Fault) [ false ↦ Err Name | true ↦ elim y as (λ _. Result WorldTurn Fault) [ true ↦ Err (Over What.Answers) | false ↦ if_named x event ] ]) ≡ if_named x event
    go false y e = refl
    go true true e = absurd cc
    go true false e = refl

pub runs_as_line : (b : ℕ) (w : World) (n : ℕ) (r : LineRequest) (ls mid after : List OutLine) (res : Result (Unit {0}) WorldFault) (new : CodeWorld) → nat_le 4096 b ≡ false → mid ≡ ls ++ OutLine.Echo (line_text (Line.Do n r)) ∷ []
    → WorldPlaysAfter w (Line.Do n r) mid res after new → RunsAnswer b w n r ls res after new
runs_as_line b w n r ls mid after (Ok u) new small is h =
    (h.0, answer_small b w n r small ∙ h.1 0, h.2 ∙ ap (λ (x : List OutLine). x ++ h.0.lines) is ∙ append_assoc ls (OutLine.Echo (line_text (Line.Do n r)) ∷ []) h.0.lines, h.3)
runs_as_line b w n r ls mid after (Err WorldFault.Name) new small is h = answer_small b w n r small ∙ h 0 (λ _. refl)
runs_as_line b w n r ls mid after (Err (WorldFault.Limit what)) new small is h = answer_small b w n r small ∙ h 0
runs_as_line b w n r ls mid after (Err WorldFault.NoMemory) new small is h = tt

-- past the limit
pub runs_no_more : (b : ℕ) (w : World) (n : ℕ) (r : LineRequest) (ls after : List OutLine) (new : CodeWorld) (named : Bool) → nat_le 4096 b ≡ true → named ≡ is_named w (Action.Do n r)
    → (named ≡ true → RunsAnswer b w n r ls (Err (WorldFault.Limit What.Answers)) after new) × (named ≡ false → RunsAnswer b w n r ls (Err WorldFault.Name) after new)
runs_no_more b w n r ls after new named past is = (λ e. go (is_named w (Action.Do n r)) (nat_le 4096 b) (sym is ∙ e) past, λ e. no (is_named w (Action.Do n r)) (nat_le 4096 b) (sym is ∙ e))
  where
    go : (x y : Bool) → x ≡ true → y ≡ true → (elim x as (λ _. Result WorldTurn Fault) [ false ↦ Err Name | true ↦ elim y as (λ _. Result WorldTurn Fault) [ true ↦ Err (Over What.Answers) | false ↦ action_line w (Action.Do n r) ] ]) ≡ Err (Over What.Answers)
    go true true e f = refl
    go true false e f = absurd cc
    go false y e f = absurd cc

    no : (x y : Bool) → x ≡ false → (elim x as (λ _. Result WorldTurn Fault) [ false ↦ Err Name | true ↦ elim y as (λ _. Result WorldTurn Fault) [ true ↦ Err (Over What.Answers) | false ↦ action_line w (Action.Do n r) ] ]) ≡ Err Name
    no true y e = absurd cc
    no false y e = refl

-- ---- without members and with them

answer_without : (b : ℕ) (w : World) (n : ℕ) (r : LineRequest) → answer_turn b (memberless w) n r ≡ result_without (answer_turn b w n r)
answer_without b w n r = go (is_named w (Action.Do n r)) (nat_le 4096 b) (line_without 0 w (Line.Do n r) refl)
  where
    go : (x y : Bool) → action_line (memberless w) (Action.Do n r) ≡ result_without (action_line w (Action.Do n r))
        → (elim x as (λ _. Result WorldTurn Fault) [ false ↦ Err Name | true ↦ elim y as (λ _. Result WorldTurn Fault) [ true ↦ Err (Over What.Answers) | false ↦ action_line (memberless w) (Action.Do n r) ] ])
        ≡ result_without (elim x as (λ _. Result WorldTurn Fault) [ false ↦ Err Name | true ↦ elim y as (λ _. Result WorldTurn Fault) [ true ↦ Err (Over What.Answers) | false ↦ action_line w (Action.Do n r) ] ])
    go false y e = refl
    go true true e = refl
    go true false e = e

-- the turn with members
pub record IsWith (r : Result WorldTurn Fault) (u : WorldTurn) : Type 0 where
  pub turn : WorldTurn
  pub is : r ≡ Ok turn
  pub same : turn_without turn ≡ u

pub with_members : (r : Result WorldTurn Fault) (u : WorldTurn) → result_without r ≡ Ok u → IsWith r u
with_members (Ok t) u h = record { turn = t; is = refl; same = cc }
with_members (Err f) u h = absurd cc

pub fault_with : (r : Result WorldTurn Fault) (f : Fault) → result_without r ≡ Err f → r ≡ Err f
fault_with (Ok t) f h = absurd cc
fault_with (Err g) f h = cc

-- ---- the queue

pub waits_by : {M : Type 0} (w : World) (ls : List OutLine) (from : ℕ) (xs : List (Option M)) (es : List (ℕ × ℕ)) → MembersStand w xs es → puts_in (driver_in xs es) (drop from ls) ≡ waits w ls from
waits_by w ls from xs es s = puts_same (driver_in xs es) (driver_of w.drives) (drop from ls) (λ n. sym (s.drivers n))

drop_more_of : {A : Type 0} (n : ℕ) (xs ys : List A) → n ≤ length xs → drop n (xs ++ ys) ≡ drop n xs ++ ys
drop_more_of zero xs ys h = refl
drop_more_of (suc n) [] ys h = absurd (omega (arith, h))
drop_more_of (suc n) (x ∷ xs) ys h = drop_more_of n xs ys (omega (arith, h))

-- what a line tells waits after the rest
waits_more : (w : World) (t : WorldTurn) (ls shown more : List OutLine) (text : List ℕ) (next : ℕ) → IsSteady w.drives w.dropped t → more ≡ OutLine.Echo text ∷ t.lines → shown ≡ ls ++ more → next ≤ length ls
    → waits w ls next ++ puts_of t.world t.told ≡ waits t.world shown next
waits_more w t ls shown more text next steady new is within =
    ap (λ (ds : List Drive). puts_in (driver_of ds) (drop next ls) ++ puts_of t.world t.told) (sym steady.drives)
    ∙ ap (λ (q : List Put). puts_in d (drop next ls) ++ q) (puts_are t.world t.told ∙ ap (puts_by d) (steady.told ∙ sym (ap told_in new)))
    ∙ sym (puts_more d (drop next ls) more)
    ∙ ap (puts_in d) (sym (drop_more_of next ls more within) ∙ ap (drop next) (sym is))
  where
    d : ℕ → Option ℕ
    d = driver_of t.world.drives

-- ---- what is answered next

module _ {M : Type 0} (allowed : M → List Answer → Type 0) (b : ℕ) (w : World) (from : ℕ) (ls : List OutLine) (old : CodeWorld) (xs ys : List (Option M)) (es fs : List (ℕ × ℕ)) (stands : StandsWith w old xs es) (same : AreSame xs ys) (kept : fs ≡ es) where
  still : MembersStand w ys fs
  still = members_same w xs ys es fs same kept stands.members

  -- however the lines and the request are named
  pub asks_of : (mid : List OutLine) (o p : Option (Asked × ℕ)) → mid ≡ ls → o ≡ p → AsksFrom allowed xs ys (driver_in xs es) mid from o → AsksFrom allowed xs ys (driver_in xs es) ls from p
  asks_of mid o p is now h = subst (λ (z : Option (Asked × ℕ)). AsksFrom allowed xs ys (driver_in xs es) ls from z) now (subst (λ (l : List OutLine). AsksFrom allowed xs ys (driver_in xs es) l from o) is h)

  pub out : (mid : List OutLine) (o : Option (Asked × ℕ)) (shown : List OutLine) → shown ≡ ls → mid ≡ ls → o ≡ None → AsksFrom allowed xs ys (driver_in xs es) mid from o → RunsOut allowed b w from ls shown old xs ys fs
  out mid o shown is lent none asks = all (asks_of mid o None lent none asks)
    where
      all : AsksFrom allowed xs ys (driver_in xs es) ls from None → RunsOut allowed b w from ls shown old xs ys fs
      all gave = record {
        after = b;
        world = w;
        more = [];
        is = is ∙ sym (append-nil ls);
        run = none_asked allowed xs ys b w (waits w ls from) same.count (subst (λ (q : List Put). Gave allowed xs ys q (silent q)) (waits_by w ls from xs es stands.members) gave);
        stands = record { world = stands.world; members = still };
      }

  module _ (x : Asked) (next : ℕ) (asks : AsksFrom allowed xs ys (driver_in xs es) ls from (Some (x, next))) where
    asked : AsksFor allowed xs ys (waits w ls from) x (waits w ls next)
    asked = subst (λ (q : List Put). AsksFor allowed xs ys q x (waits w ls next)) (waits_by w ls from xs es stands.members)
        (subst (λ (q : List Put). AsksFor allowed xs ys (puts_in (driver_in xs es) (drop from ls)) x q) (waits_by w ls next xs es stands.members) asks.1)

    abbrev text : List ℕ
    text = line_text (Line.Do x.node (line_request x.request))

    on_turn : (u : WorldTurn) (shown : List OutLine) (new : CodeWorld) → IsWith (answer_turn b w x.node (line_request x.request)) u → shown ≡ ls ++ OutLine.Echo text ∷ u.lines → WorldStands u.world new
        → RunsOn allowed b w from ls (suc b) next shown new xs ys fs
    on_turn u shown new t is there =
        let more : List OutLine = OutLine.Echo text ∷ t.turn.lines in
        let lines : OutLine.Echo text ∷ u.lines ≡ more = ap (λ (v : WorldTurn). OutLine.Echo text ∷ v.lines) (sym t.same) in
        let shows : shown ≡ ls ++ more = is ∙ ap (λ (m : List OutLine). ls ++ m) lines in
        let steady : IsSteady w.drives w.dropped t.turn = line_steady 0 w (Line.Do x.node (line_request x.request)) t.turn refl (line_of t.turn t.is) in
        record {
          world = t.turn.world;
          more = more;
          is = shows;
          run = subst (λ (q : List Put). HaveRun allowed xs ys b w (waits w ls from) more (suc b) t.turn.world q) (waits_more w t.turn ls shown more text next steady refl shows asks.0)
              (run_asked allowed xs ys b w (waits w ls from) x (waits w ls next) asked t.turn same.count t.is);
          stands = record {
            world = subst (λ (v : World). WorldStands v new) (ap (λ (v : WorldTurn). v.world) (sym t.same)) there;
            members = members_kept t.turn.world w ys fs steady.drives steady.dropped still;
          };
        }
      where
        line_of : (t : WorldTurn) → answer_turn b w x.node (line_request x.request) ≡ Ok t → line 0 w (Line.Do x.node (line_request x.request)) ≡ Ok t
        line_of t h = sym (answer_small b w x.node (line_request x.request) (grind (arith, nat_tests, within_limit b w x.node (line_request x.request) t h))) ∙ h

    on : (shown : List OutLine) (new : CodeWorld) → RunsAnswer b (memberless w) x.node (line_request x.request) ls (Ok tt) shown new → (b < 4096) × RunsOn allowed b w from ls (suc b) next shown new xs ys fs
    on shown new h =
        let t : IsWith (answer_turn b w x.node (line_request x.request)) h.0 = with_members (answer_turn b w x.node (line_request x.request)) h.0 (sym (answer_without b w x.node (line_request x.request)) ∙ h.1) in
        (within_limit b w x.node (line_request x.request) t.turn t.is, on_turn h.0 shown new t h.2 h.3)

    ends : (f : Fault) → answer_turn b (memberless w) x.node (line_request x.request) ≡ Err f → HaveEnded allowed xs ys b w (waits w ls from) f
    ends f h = end_asked allowed xs ys b w (waits w ls from) x (waits w ls next) asked f (fault_with (answer_turn b w x.node (line_request x.request)) f (sym (answer_without b w x.node (line_request x.request)) ∙ h))

    fails : (f : WorldFault) (shown : List OutLine) (new : CodeWorld) → RunsAnswer b (memberless w) x.node (line_request x.request) ls (Err f) shown new → RunsNext allowed b w from ls (Err f) shown new xs ys fs
    fails WorldFault.Name shown new h = ends Name h
    fails (WorldFault.Limit what) shown new h = ends (Over what) h
    fails WorldFault.NoMemory shown new h = tt

    -- however the answer is named
    pub failed : (f : WorldFault) (r : Result (Option ℕ) WorldFault) (n : ℕ) (q : LineRequest) (shown : List OutLine) (new : CodeWorld) → r ≡ Err f → n ≡ x.node → q ≡ line_request x.request
        → RunsAnswer b (memberless w) n q ls (Err f) shown new → RunsNext allowed b w from ls r shown new xs ys fs
    failed f r n q shown new is node request h =
        subst (λ (z : Result (Option ℕ) WorldFault). RunsNext allowed b w from ls z shown new xs ys fs) (sym is)
        (fails f shown new (subst (λ (z : LineRequest). RunsAnswer b (memberless w) x.node z ls (Err f) shown new) request (subst (λ (z : ℕ). RunsAnswer b (memberless w) z q ls (Err f) shown new) node h)))

    pub goes_on : (n : ℕ) (q : LineRequest) (shown : List OutLine) (new : CodeWorld) → n ≡ x.node → q ≡ line_request x.request → RunsAnswer b (memberless w) n q ls (Ok tt) shown new
        → (b < 4096) × RunsOn allowed b w from ls (suc b) next shown new xs ys fs
    goes_on n q shown new node request h =
        on shown new (subst (λ (z : LineRequest). RunsAnswer b (memberless w) x.node z ls (Ok tt) shown new) request (subst (λ (z : ℕ). RunsAnswer b (memberless w) z q ls (Ok tt) shown new) node h))

-- ---- all of them

pub no_more : (b : ℕ) → b ≤ 4096 → 4097 ≤ b → ⊥
no_more b few past = omega (arith, few, past)

pub all_first : {M : Type 0} (allowed : M → List Answer → Type 0) (w : World) (from : ℕ) (ls : List OutLine) (new : CodeWorld) (xs : List (Option M)) (es : List (ℕ × ℕ)) → StandsWith w new xs es → RunsOn allowed 0 w from ls 0 from ls new xs xs es
all_first allowed w from ls new xs es stands = record { world = w; more = []; is = sym (append-nil ls); run = run_none allowed xs 0 w (waits w ls from); stands = stands }

module _ {M : Type 0} (allowed : M → List Answer → Type 0) (w : World) (from : ℕ) (ls : List OutLine) (b i : ℕ) (mid : List OutLine) (between : CodeWorld) (xs ys : List (Option M)) (es : List (ℕ × ℕ)) (so : RunsOn allowed 0 w from ls b i mid between xs ys es) where
  module _ (zs : List (Option M)) (fs : List (ℕ × ℕ)) (shown : List OutLine) (new : CodeWorld) where
    all_more : (c next : ℕ) → c ≡ suc b → RunsOn allowed b so.world i mid (suc b) next shown new ys zs fs → RunsOn allowed 0 w from ls c next shown new xs zs fs
    all_more c next one h = subst (λ (n : ℕ). RunsOn allowed 0 w from ls n next shown new xs zs fs) (sym one) (record {
      world = h.world;
      more = so.more ++ h.more;
      is = h.is ∙ ap (λ (l : List OutLine). l ++ h.more) so.is ∙ append_assoc ls so.more h.more;
      run = run_more allowed xs ys zs 0 b (suc b) w so.world h.world (waits w ls from) (waits so.world mid i) (waits h.world shown next) so.more h.more so.run h.run;
      stands = h.stands;
    })

    all_out : RunsOut allowed b so.world i mid shown new ys zs fs → RunsOut allowed 0 w from ls shown new xs zs fs
    all_out h = record {
      after = h.after;
      world = h.world;
      more = so.more ++ h.more;
      is = h.is ∙ ap (λ (l : List OutLine). l ++ h.more) so.is ∙ append_assoc ls so.more h.more;
      run = run_more allowed xs ys zs 0 b h.after w so.world h.world (waits w ls from) (waits so.world mid i) [] so.more h.more so.run h.run;
      stands = h.stands;
    }

    all_ended : (f : Fault) → HaveEnded allowed ys zs b so.world (waits so.world mid i) f → HaveEnded allowed xs zs 0 w (waits w ls from) f
    all_ended f h = run_ended allowed xs ys zs 0 b w so.world (waits w ls from) (waits so.world mid i) so.more f so.run h

    all_failed : (f : WorldFault) → RunsNext allowed b so.world i mid (Err f) shown new ys zs fs → RunsAll allowed w from ls (Err f) shown new xs zs fs
    all_failed WorldFault.Name h = all_ended Name h
    all_failed (WorldFault.Limit what) h = all_ended (Over what) h
    all_failed WorldFault.NoMemory h = tt

    -- however the last one is named
    pub all_failed_so : (f : WorldFault) (r : Result (Unit {0}) WorldFault) → r ≡ Err f → RunsNext allowed b so.world i mid (Err f) shown new ys zs fs → RunsAll allowed w from ls r shown new xs zs fs
    all_failed_so f r is h = subst (λ (z : Result (Unit {0}) WorldFault). RunsAll allowed w from ls z shown new xs zs fs) (sym is) (all_failed f h)

    pub all_out_so : (o : Option ℕ) → o ≡ None → RunsNext allowed b so.world i mid (Ok o) shown new ys zs fs → RunsOut allowed 0 w from ls shown new xs zs fs
    all_out_so o is h = all_out (subst (λ (z : Option ℕ). RunsNext allowed b so.world i mid (Ok z) shown new ys zs fs) is h)

    pub all_more_so : (o : Option ℕ) (next : ℕ) → o ≡ Some next → RunsNext allowed b so.world i mid (Ok o) shown new ys zs fs → (b + 1 ≤ 4096) × RunsOn allowed 0 w from ls (b + 1) next shown new xs zs fs
    all_more_so o next is h =
        let one : (b < 4096) × RunsOn allowed b so.world i mid (suc b) next shown new ys zs fs = subst (λ (z : Option ℕ). RunsNext allowed b so.world i mid (Ok z) shown new ys zs fs) is h in
        (omega (arith, one.0), all_more (b + 1) next (omega arith) one.1)
