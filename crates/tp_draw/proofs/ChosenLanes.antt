-- A chosen node keeps its lane, and no other node has one.
use Rattle.std.proofs.Common.{◌≡◌, ℕ, ◌+◌, ◌<◌, ◌==◌, ◌&&◌, ◌||◌, Bool, true, false, if◌then◌else◌, Option, Some, None, List, [], ◌∷◌, ◌++◌, length, insert, ap, sym, ◌∙◌, subst, refl, arith, eqb-true}
use Rattle.std.proofs.lemmas.Bool.Decides.{nat_tests}
use Rattle.tp_model.specs.declared.line.Line.{Line}
use Rattle.tp_model.specs.declared.out_line.LogWords.{LogWords}
use Rattle.tp_model.specs.declared.out_line.OutLine.{OutLine}
use Rattle.tp_draw.specs.declared.lane.Lane.{Lane}
use Rattle.tp_draw.specs.Events.{event_of}
use Rattle.tp_draw.specs.Lanes.{declared_by, placed, named, place_in, after_site, with_placed, placed_lanes, with_named, with_all_named, named_lanes, lanes_of}
use Rattle.tp_draw.specs.Subjects.{subject_of, subject_of_event}
use Rattle.tp_draw.specs.Chosen.{is_among, with_frame, is_left, left_of, chosen}
use Rattle.tp_draw.specs.Shapes.{place_of}
use Rattle.tp_draw.specs.Laws.{is_placed_by, is_placed, is_mentioned, lanes_with, HasOneLane}
use Rattle.tp_draw.proofs.OneLane.{more_placed, more_named, lanes_law}

-- ---- a line that tells a chosen node's site is left

same : (ns : List ℕ) (n m : ℕ) → is_among n ns ≡ true → (m == n) ≡ true → is_among m ns ≡ true
same ns n m c is = subst (λ (k : ℕ). is_among k ns ≡ true) (sym (eqb-true m n is)) c

by_event : (ns : List ℕ) (ls : List Lane) (fs : List ℕ) (before : Bool) (n : ℕ) (e : Option Line)
    → is_among n ns ≡ true → is_placed_by n (declared_by e) ≡ true → is_left ns ls fs before (subject_of_event e) ≡ true
by_event ns ls fs before n (Some (Line.Node m s u)) c is = same ns n m c is
by_event ns ls fs before n None c is = absurd (grind arith)
by_event ns ls fs before n (Some (Line.Do m q)) c is = absurd (grind arith)
by_event ns ls fs before n (Some (Line.Pass a b)) c is = absurd (grind arith)
by_event ns ls fs before n (Some (Line.Skip a b)) c is = absurd (grind arith)
by_event ns ls fs before n (Some (Line.Again k)) c is = absurd (grind arith)
by_event ns ls fs before n (Some Line.Drain) c is = absurd (grind arith)
by_event ns ls fs before n (Some (Line.Lose m p)) c is = absurd (grind arith)
by_event ns ls fs before n (Some (Line.Heur m o)) c is = absurd (grind arith)
by_event ns ls fs before n (Some (Line.GiveUp m p)) c is = absurd (grind arith)
by_event ns ls fs before n (Some (Line.Retry m)) c is = absurd (grind arith)
by_event ns ls fs before n (Some (Line.Purge m)) c is = absurd (grind arith)
by_event ns ls fs before n (Some (Line.Crash s)) c is = absurd (grind arith)
by_event ns ls fs before n (Some (Line.CrashIn s at fill action)) c is = absurd (grind arith)
by_event ns ls fs before n (Some (Line.Show m)) c is = absurd (grind arith)
by_event ns ls fs before n (Some (Line.Image s)) c is = absurd (grind arith)
by_event ns ls fs before n (Some (Line.Auto m k)) c is = absurd (grind arith)
by_event ns ls fs before n (Some (Line.Leave k)) c is = absurd (grind arith)

stays : (ns : List ℕ) (ls : List Lane) (fs : List ℕ) (before : Bool) (n : ℕ) (o : OutLine)
    → is_among n ns ≡ true → is_placed_by n (placed o) ≡ true → is_left ns ls fs before (subject_of o) ≡ true
stays ns ls fs before n (OutLine.Echo text) c is = by_event ns ls fs before n (event_of (OutLine.Echo text)) c is
stays ns ls fs before n (OutLine.Log s (LogWords.Boot b)) c is = absurd (grind arith)
stays ns ls fs before n (OutLine.Log s (LogWords.Ready m k)) c is = same ns n m c is
stays ns ls fs before n (OutLine.Log s (LogWords.Heuristic m k o)) c is = same ns n m c is
stays ns ls fs before n (OutLine.Log s (LogWords.Commit m k)) c is = same ns n m c is
stays ns ls fs before n (OutLine.Log s (LogWords.Damage m k o r)) c is = same ns n m c is
stays ns ls fs before n (OutLine.Log s (LogWords.End m k o)) c is = same ns n m c is
stays ns ls fs before n (OutLine.Take k) c is = absurd (grind arith)
stays ns ls fs before n (OutLine.Send k a b r) c is = absurd (grind arith)
stays ns ls fs before n (OutLine.Tell m i) c is = absurd (grind arith)
stays ns ls fs before n (OutLine.Refused r) c is = absurd (grind arith)
stays ns ls fs before n (OutLine.Dropped r) c is = absurd (grind arith)
stays ns ls fs before n OutLine.Nothing c is = absurd (grind arith)
stays ns ls fs before n (OutLine.Lost k) c is = absurd (grind arith)
stays ns ls fs before n (OutLine.Stopped s f) c is = absurd (grind arith)
stays ns ls fs before n (OutLine.State m p k) c is = absurd (grind arith)
stays ns ls fs before n (OutLine.Image s bs) c is = absurd (grind arith)
stays ns ls fs before n (OutLine.Agreed a o) c is = absurd (grind arith)
stays ns ls fs before n (OutLine.Mixed a by) c is = absurd (grind arith)
stays ns ls fs before n (OutLine.Open a) c is = absurd (grind arith)

-- so what is left tells it
still_told : (ns : List ℕ) (ls : List Lane) (fs : List ℕ) (before : Bool) (n : ℕ) (os : List OutLine)
    → is_among n ns ≡ true → is_placed n os ≡ true → is_placed n (left_of ns ls fs before os) ≡ true
still_told ns ls fs before n [] c is = is
still_told ns ls fs before n (o ∷ os) c is =
    either (is_placed_by n (placed o)) (is_left ns ls fs before (subject_of o)) refl refl
    (still_told ns ls (with_frame o fs) true n os c) (still_told ns ls fs false n os c) is
  where
    either : (b k : Bool) → is_placed_by n (placed o) ≡ b → is_left ns ls fs before (subject_of o) ≡ k
        → (is_placed n os ≡ true → is_placed n (left_of ns ls (with_frame o fs) true os) ≡ true)
        → (is_placed n os ≡ true → is_placed n (left_of ns ls fs false os) ≡ true)
        → (b || is_placed n os) ≡ true
        → is_placed n (if k then o ∷ left_of ns ls (with_frame o fs) true os else left_of ns ls fs false os) ≡ true
    either true true here left put without any = ap (λ (x : Bool). x || is_placed n (left_of ns ls (with_frame o fs) true os)) here
    either false true here left put without any = ap (λ (x : Bool). x || is_placed n (left_of ns ls (with_frame o fs) true os)) here ∙ put any
    either true false here left put without any = let wrong : true ≡ false = sym (stays ns ls fs before n o c here) ∙ left in absurd (grind arith)
    either false false here left put without any = without any

told : (ns : List ℕ) (os : List OutLine) (n : ℕ) → is_among n ns ≡ true → is_placed n os ≡ true → is_placed n (chosen ns os) ≡ true
told [] os n c is = is
told (m ∷ ms) os n c is = still_told (m ∷ ms) (lanes_of os) [] true n os c is

pub kept_lane : (ns : List ℕ) (os : List OutLine) (n : ℕ) → is_among n ns ≡ true → is_placed n os ≡ true
    → HasOneLane n (lanes_of (chosen ns os)) (place_of (chosen ns os) n)
kept_lane ns os n c is = lanes_law (chosen ns os) n (ap (λ (x : Bool). x || is_mentioned n (chosen ns os)) (told ns os n c is))

-- ---- a line that is left names no other node

differ : (ns : List ℕ) (m n : ℕ) → is_among m ns ≡ true → is_among n ns ≡ false → (m == n) ≡ false
differ ns m n among out = by (m == n) refl
  where
    by : (b : Bool) → (m == n) ≡ b → b ≡ false
    by true is = let wrong : true ≡ false = sym (subst (λ (k : ℕ). is_among k ns ≡ true) (eqb-true m n is) among) ∙ out in absurd (grind arith)
    by false is = refl

both : (x y : Bool) → (x && y) ≡ true → (x ≡ true) × (y ≡ true)
both true true is = (refl, refl)
both true false is = absurd (grind arith)
both false y is = absurd (grind arith)

event_names : (ns : List ℕ) (ls : List Lane) (fs : List ℕ) (before : Bool) (n : ℕ) (e : Option Line)
    → is_among n ns ≡ false → is_left ns ls fs before (subject_of_event e) ≡ true → is_placed_by n (declared_by e) ≡ false
event_names ns ls fs before n (Some (Line.Node m s u)) out left = differ ns m n left out
event_names ns ls fs before n None out left = refl
event_names ns ls fs before n (Some (Line.Do m q)) out left = refl
event_names ns ls fs before n (Some (Line.Pass a b)) out left = refl
event_names ns ls fs before n (Some (Line.Skip a b)) out left = refl
event_names ns ls fs before n (Some (Line.Again k)) out left = refl
event_names ns ls fs before n (Some Line.Drain) out left = refl
event_names ns ls fs before n (Some (Line.Lose m p)) out left = refl
event_names ns ls fs before n (Some (Line.Heur m o)) out left = refl
event_names ns ls fs before n (Some (Line.GiveUp m p)) out left = refl
event_names ns ls fs before n (Some (Line.Retry m)) out left = refl
event_names ns ls fs before n (Some (Line.Purge m)) out left = refl
event_names ns ls fs before n (Some (Line.Crash s)) out left = refl
event_names ns ls fs before n (Some (Line.CrashIn s at fill action)) out left = refl
event_names ns ls fs before n (Some (Line.Show m)) out left = refl
event_names ns ls fs before n (Some (Line.Image s)) out left = refl
event_names ns ls fs before n (Some (Line.Auto m k)) out left = refl
event_names ns ls fs before n (Some (Line.Leave k)) out left = refl

places_none : (ns : List ℕ) (ls : List Lane) (fs : List ℕ) (before : Bool) (n : ℕ) (o : OutLine)
    → is_among n ns ≡ false → is_left ns ls fs before (subject_of o) ≡ true → is_placed_by n (placed o) ≡ false
places_none ns ls fs before n (OutLine.Echo text) out left = event_names ns ls fs before n (event_of (OutLine.Echo text)) out left
places_none ns ls fs before n (OutLine.Log s (LogWords.Boot b)) out left = refl
places_none ns ls fs before n (OutLine.Log s (LogWords.Ready m k)) out left = differ ns m n left out
places_none ns ls fs before n (OutLine.Log s (LogWords.Heuristic m k o)) out left = differ ns m n left out
places_none ns ls fs before n (OutLine.Log s (LogWords.Commit m k)) out left = differ ns m n left out
places_none ns ls fs before n (OutLine.Log s (LogWords.Damage m k o r)) out left = differ ns m n left out
places_none ns ls fs before n (OutLine.Log s (LogWords.End m k o)) out left = differ ns m n left out
places_none ns ls fs before n (OutLine.Take k) out left = refl
places_none ns ls fs before n (OutLine.Send k a b r) out left = refl
places_none ns ls fs before n (OutLine.Tell m i) out left = refl
places_none ns ls fs before n (OutLine.Refused r) out left = refl
places_none ns ls fs before n (OutLine.Dropped r) out left = refl
places_none ns ls fs before n OutLine.Nothing out left = refl
places_none ns ls fs before n (OutLine.Lost k) out left = refl
places_none ns ls fs before n (OutLine.Stopped s f) out left = refl
places_none ns ls fs before n (OutLine.State m p k) out left = refl
places_none ns ls fs before n (OutLine.Image s bs) out left = refl
places_none ns ls fs before n (OutLine.Agreed a o) out left = refl
places_none ns ls fs before n (OutLine.Mixed a by) out left = refl
places_none ns ls fs before n (OutLine.Open a) out left = refl

one_none : (ns : List ℕ) (m n : ℕ) → is_among n ns ≡ false → is_among m ns ≡ true → is_among n (m ∷ []) ≡ false
one_none ns m n out among = ap (λ (x : Bool). x || false) (differ ns m n among out)

two_none : (ns : List ℕ) (a b n : ℕ) → is_among n ns ≡ false → (is_among a ns && is_among b ns) ≡ true → is_among n (a ∷ b ∷ []) ≡ false
two_none ns a b n out among =
    let two = both (is_among a ns) (is_among b ns) among in
    ap (λ (x : Bool). x || is_among n (b ∷ [])) (differ ns a n two.0 out) ∙ one_none ns b n out two.1

names_none : (ns : List ℕ) (ls : List Lane) (fs : List ℕ) (before : Bool) (n : ℕ) (o : OutLine)
    → is_among n ns ≡ false → is_left ns ls fs before (subject_of o) ≡ true → is_among n (named o) ≡ false
names_none ns ls fs before n (OutLine.Echo text) out left = refl
names_none ns ls fs before n (OutLine.Log s r) out left = refl
names_none ns ls fs before n (OutLine.Take k) out left = refl
names_none ns ls fs before n (OutLine.Send k a b r) out left = two_none ns a b n out left
names_none ns ls fs before n (OutLine.Tell m i) out left = one_none ns m n out left
names_none ns ls fs before n (OutLine.Refused r) out left = refl
names_none ns ls fs before n (OutLine.Dropped r) out left = refl
names_none ns ls fs before n OutLine.Nothing out left = refl
names_none ns ls fs before n (OutLine.Lost k) out left = refl
names_none ns ls fs before n (OutLine.Stopped s f) out left = refl
names_none ns ls fs before n (OutLine.State m p k) out left = one_none ns m n out left
names_none ns ls fs before n (OutLine.Image s bs) out left = refl
names_none ns ls fs before n (OutLine.Agreed a o) out left = refl
names_none ns ls fs before n (OutLine.Mixed a by) out left = refl
names_none ns ls fs before n (OutLine.Open a) out left = refl

none_placed : (ns : List ℕ) (ls : List Lane) (fs : List ℕ) (before : Bool) (n : ℕ) (os : List OutLine)
    → is_among n ns ≡ false → is_placed n (left_of ns ls fs before os) ≡ false
none_placed ns ls fs before n [] out = refl
none_placed ns ls fs before n (o ∷ os) out =
    either (is_left ns ls fs before (subject_of o)) refl (none_placed ns ls (with_frame o fs) true n os out) (none_placed ns ls fs false n os out)
  where
    either : (k : Bool) → is_left ns ls fs before (subject_of o) ≡ k
        → is_placed n (left_of ns ls (with_frame o fs) true os) ≡ false → is_placed n (left_of ns ls fs false os) ≡ false
        → is_placed n (if k then o ∷ left_of ns ls (with_frame o fs) true os else left_of ns ls fs false os) ≡ false
    either true left more without =
        ap (λ (x : Bool). x || is_placed n (left_of ns ls (with_frame o fs) true os)) (places_none ns ls fs before n o out left) ∙ more
    either false left more without = without

none_mentioned : (ns : List ℕ) (ls : List Lane) (fs : List ℕ) (before : Bool) (n : ℕ) (os : List OutLine)
    → is_among n ns ≡ false → is_mentioned n (left_of ns ls fs before os) ≡ false
none_mentioned ns ls fs before n [] out = refl
none_mentioned ns ls fs before n (o ∷ os) out =
    either (is_left ns ls fs before (subject_of o)) refl (none_mentioned ns ls (with_frame o fs) true n os out) (none_mentioned ns ls fs false n os out)
  where
    either : (k : Bool) → is_left ns ls fs before (subject_of o) ≡ k
        → is_mentioned n (left_of ns ls (with_frame o fs) true os) ≡ false → is_mentioned n (left_of ns ls fs false os) ≡ false
        → is_mentioned n (if k then o ∷ left_of ns ls (with_frame o fs) true os else left_of ns ls fs false os) ≡ false
    either true left more without =
        ap (λ (x : Bool). x || is_mentioned n (left_of ns ls (with_frame o fs) true os)) (names_none ns ls fs before n o out left) ∙ more
    either false left more without = without

-- ---- a node that is not named has no lane

parts : (x y : Bool) → (x || y) ≡ false → (x ≡ false) × (y ≡ false)
parts true y is = absurd (grind arith)
parts false y is = (refl, is)

more_by : (b : Bool) (x y : ℕ) → b ≡ false → y ≡ x + (if b then 1 else 0) → y ≡ x
more_by true x y is e = absurd (grind arith)
more_by false x y is e = omega arith

same_placed : (ls : List Lane) (n : ℕ) (p : Option (ℕ × List ℕ)) → is_placed_by n p ≡ false → lanes_with n (with_placed ls p) ≡ lanes_with n ls
same_placed ls n None out = refl
same_placed ls n (Some p) out = by (place_in ls p.0 == length ls)
  where
    by : (b : Bool) → lanes_with n (if b then insert ls (after_site ls p.1) (record { node = p.0; site = Some p.1 }) else ls) ≡ lanes_with n ls
    by true = more_by (p.0 == n) (lanes_with n ls) (lanes_with n (insert ls (after_site ls p.1) (record { node = p.0; site = Some p.1 }))) out (more_placed ls p.0 p.1 n)
    by false = refl

same_all_placed : (ls : List Lane) (n : ℕ) (os : List OutLine) → is_placed n os ≡ false → lanes_with n (placed_lanes ls os) ≡ lanes_with n ls
same_all_placed ls n [] out = refl
same_all_placed ls n (o ∷ os) out =
    let two = parts (is_placed_by n (placed o)) (is_placed n os) out in
    same_all_placed (with_placed ls (placed o)) n os two.1 ∙ same_placed ls n (placed o) two.0

same_named : (ls : List Lane) (n m : ℕ) → (m == n) ≡ false → lanes_with n (with_named ls m) ≡ lanes_with n ls
same_named ls n m out = by (place_in ls m == length ls)
  where
    by : (b : Bool) → lanes_with n (if b then ls ++ record { node = m; site = None } ∷ [] else ls) ≡ lanes_with n ls
    by true = more_by (m == n) (lanes_with n ls) (lanes_with n (ls ++ record { node = m; site = None } ∷ [])) out (more_named ls m n)
    by false = refl

same_all_named : (ls : List Lane) (n : ℕ) (ms : List ℕ) → is_among n ms ≡ false → lanes_with n (with_all_named ls ms) ≡ lanes_with n ls
same_all_named ls n [] out = refl
same_all_named ls n (m ∷ ms) out =
    let two = parts (m == n) (is_among n ms) out in
    same_all_named (with_named ls m) n ms two.1 ∙ same_named ls n m two.0

same_lines : (ls : List Lane) (n : ℕ) (os : List OutLine) → is_mentioned n os ≡ false → lanes_with n (named_lanes ls os) ≡ lanes_with n ls
same_lines ls n [] out = refl
same_lines ls n (o ∷ os) out =
    let two = parts (is_among n (named o)) (is_mentioned n os) out in
    same_lines (with_all_named ls (named o)) n os two.1 ∙ same_all_named ls n (named o) two.0

pub no_other_lane : (ns : List ℕ) (os : List OutLine) (n : ℕ) → 0 < length ns → is_among n ns ≡ false → lanes_with n (lanes_of (chosen ns os)) ≡ 0
no_other_lane [] os n some out = absurd (omega arith)
no_other_lane (m ∷ ms) os n some out =
    let left = left_of (m ∷ ms) (lanes_of os) [] true os in
    same_lines (placed_lanes [] left) n left (none_mentioned (m ∷ ms) (lanes_of os) [] true n os out)
    ∙ same_all_placed [] n left (none_placed (m ∷ ms) (lanes_of os) [] true n os out)
