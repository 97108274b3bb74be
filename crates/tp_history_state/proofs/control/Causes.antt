-- The last cause of control in a history, entry by entry, and what the signs of an entry tell of it.
use Rattle.tp_history_state.proofs.Vocabulary.{Bool, List, None, Option, Some, [], ap, arith, false, if◌then◌else◌, not, refl, sym, true, ℕ, ◌&&◌, ◌||◌, ◌∙◌, ◌∷◌, ◌≡◌, or-false, or-true, DialogueRecord, Holder, Indication, Cause, Nothing_said, Begun_by, Granted_away, Granted_here, Handshake_granted_here, Left_transaction, Completed_below, cause_by, last_cause, holds_by, is_granting_cause, holder_in, has_said, said_to, is_grant_record, is_handshake_grant_record, is_left_record, is_record, acting_from, completes, was_branch, is_up, enters, tells_commit_complete, tells_rollback_complete, logs_ready_or_commit, Side, Out, Entry, Origin, digest, is_live, rolls, is_unchanged, link_with, out_tells, is_response}
use Rattle.tp_model.specs.Questions.{Entered}
use Rattle.tp_history_state.proofs.control.Signs.{Signs, effect}
use Rattle.tp_history_state.proofs.control.Arcs.{is_gift}
use Rattle.tp_history_state.proofs.orders.OverTold.{is_over_told}

-- ---- control by a cause

abbrev pub by_cause : Side → Cause → Bool → Bool × Bool
by_cause s c responded = (holds_by s c responded, is_granting_cause c && not responded)

abbrev pub side_of_end : Bool → Side
side_of_end above = if above then Side.Subordinate else Side.Superior

-- a response that is said
pub by_response : (s : Side) (c : Cause) (r : Bool) → ◌≡◌ {A = Bool × Bool} (holds_by s c r || (is_granting_cause c && not r), false) (by_cause s c true)
by_response s c r = grind arith

-- ---- the cause that the signs of an entry tell

abbrev pub cause_of : (above branch fall left : Bool) → Signs → Option Cause
cause_of above branch fall left x = elim x.begun [
  | Some k ↦ Some (Begun_by k)
  | None ↦
      if x.given then Some Granted_away
      else if x.over && branch && not above then Some Completed_below
      else if (x.logged || fall) && branch then Some Entered
      else if left then Some Left_transaction
      else None
]

abbrev pub Tells : Option Cause → Side → Bool × Bool → Bool × Bool → Type 0
Tells None s old new = new ≡ old
Tells (Some c) s old new = new ≡ by_cause s c false

pub effect_cause : (above branch fall left : Bool) (old : Bool × Bool) (rolling : Bool) (x : Signs) → ((k : Holder) → x.begun ≡ Some k → above ≡ false) → (fall ≡ true → (rolling || x.rolled) ≡ true) → (left ≡ true → old ≡ (false, false))
    → Tells (cause_of above branch fall left x) (side_of_end above) old (effect above branch fall old rolling x)
effect_cause above branch fall left old rolling x below fell leaves = go x.begun refl x.given refl
  where
    flat : (b : Bool) → fall ≡ b → (fall && (rolling || x.rolled)) ≡ fall
    flat true i = rw (i, fell i) refl
    flat false i = rw i refl

    last : (b : Bool) → left ≡ b → Tells (if b then Some Left_transaction else None) (side_of_end above) old old
    last true i = leaves i
    last false i = refl

    enter : (b : Bool) → ((x.logged || fall) && branch) ≡ b → Tells (if (x.logged || fall) && branch then Some Entered else if left then Some Left_transaction else None) (side_of_end above) old (if (x.logged || fall) && branch then (false, false) else old)
    enter true i = rw i refl
    enter false i = rw i (last left refl)

    over : (b : Bool) → (x.over && branch && not above) ≡ b
        → Tells (if x.over && branch && not above then Some Completed_below else if (x.logged || fall) && branch then Some Entered else if left then Some Left_transaction else None) (side_of_end above) old
        (if x.over && branch && not above then (true, false) else if (x.logged || fall && (rolling || x.rolled)) && branch then (false, false) else old)
    over true i = rw i refl
    over false i = rw (i, flat fall refl) (enter ((x.logged || fall) && branch) refl)

    go : (o : Option Holder) → x.begun ≡ o → (g : Bool) → x.given ≡ g → Tells (cause_of above branch fall left x) (side_of_end above) old (effect above branch fall old rolling x)
    go (Some k) i g j = let off : above ≡ false = below k i in rw (i, off) refl
    go None i true j = rw (i, j) refl
    go None i false j = rw (i, j) (over (x.over && branch && not above) refl)

-- ---- the cause of an entry

abbrev pub cause_from : Option DialogueRecord → List DialogueRecord → (over branch above entered : Bool) → Option Cause
cause_from v rs over branch above entered = elim (elim (holder_in rs) as (λ _. Option Holder) [ Some k ↦ Some k | None ↦ elim v as (λ _. Option Holder) [ None ↦ None | Some r ↦ holder_in (r ∷ []) ] ]) [
  | Some k ↦ Some (Begun_by k)
  | None ↦
      if has_said is_grant_record rs || has_said is_handshake_grant_record rs then Some Granted_away
      else if is_record is_grant_record v then Some Granted_here
      else if is_record is_handshake_grant_record v then Some Handshake_granted_here
      else if over && branch && not above then Some Completed_below
      else if entered && branch then Some Entered
      else if has_said is_left_record rs || (branch && is_record is_left_record v) then Some Left_transaction
      else None
]

pub cause_is : (o : Origin) (p : ℕ) (e : Entry) (h : List Entry) → cause_by o p e h ≡ cause_from (acting_from o p e.event h) (said_to p e.outs) (completes e) (was_branch o p h) (is_up o p h) (enters o e h)
cause_is o p e h = refl

-- a record that begins nothing and gives nothing
abbrev pub is_moot : DialogueRecord → Bool
is_moot DialogueRecord.Grant = false
is_moot DialogueRecord.HandshakeGrant = false
is_moot (DialogueRecord.Begin t b h) = false
is_moot _ = true

abbrev pub IsMoot : Option DialogueRecord → Type 0
IsMoot v = (r : DialogueRecord) → v ≡ Some r → is_moot r ≡ true

pub gifts_are : (rs : List DialogueRecord) → (has_said is_grant_record rs || has_said is_handshake_grant_record rs) ≡ has_said is_gift rs
gifts_are [] = refl
gifts_are (r ∷ rs) = join (is_grant_record r) (is_handshake_grant_record r) (has_said is_grant_record rs) (has_said is_handshake_grant_record rs) ∙ rw (one r, gifts_are rs) refl
  where
    join : (a b c d : Bool) → ((a || c) || (b || d)) ≡ ((a || b) || (c || d))
    join true b c d = refl
    join false true true d = refl
    join false true false d = refl
    join false false c d = refl

    one : (r : DialogueRecord) → (is_grant_record r || is_handshake_grant_record r) ≡ is_gift r
    one DialogueRecord.Grant = refl
    one DialogueRecord.HandshakeGrant = refl
    one r = refl

pub over_tells : (outs : List Out) → (tells_commit_complete outs || tells_rollback_complete outs) ≡ out_tells is_over_told outs
over_tells [] = refl
over_tells (Out.Tell (Indication.CommitComplete r) ∷ outs) = refl
over_tells (Out.Tell (Indication.RollbackComplete r) ∷ outs) = or-true (tells_commit_complete outs)
over_tells (o ∷ outs) = let rest = over_tells outs in grind (arith, rest)

-- by what is said there, the completion, the branch and its side, the phase, and a Left
abbrev shown_cause : Option Holder → (given over branch above entered left : Bool) → Option Cause
shown_cause k g c b u n left = elim k [
  | Some j ↦ Some (Begun_by j)
  | None ↦ if g then Some Granted_away else if c && b && not u then Some Completed_below else if n && b then Some Entered else if left then Some Left_transaction else None
]

pub moot_cause : (v : Option DialogueRecord) (rs : List DialogueRecord) (c b u n left : Bool) → IsMoot v → (has_said is_left_record rs || (b && is_record is_left_record v)) ≡ left
    → cause_from v rs c b u n ≡ shown_cause (holder_in rs) (has_said is_gift rs) c b u n left
moot_cause v rs c b u n left moot i = go (holder_in rs) v moot i
  where
    Goal : Option Holder → Option DialogueRecord → Type 0
    Goal k w = elim (elim k as (λ _. Option Holder) [ Some k ↦ Some k | None ↦ elim w as (λ _. Option Holder) [ None ↦ None | Some r ↦ holder_in (r ∷ []) ] ]) as (λ _. Option Cause) [
      | Some k ↦ Some (Begun_by k)
      | None ↦
          if has_said is_grant_record rs || has_said is_handshake_grant_record rs then Some Granted_away
          else if is_record is_grant_record w then Some Granted_here
          else if is_record is_handshake_grant_record w then Some Handshake_granted_here
          else if c && b && not u then Some Completed_below
          else if n && b then Some Entered
          else if has_said is_left_record rs || (b && is_record is_left_record w) then Some Left_transaction
          else None
    ] ≡ shown_cause k (has_said is_gift rs) c b u n left

    plain : (r : DialogueRecord) → is_moot r ≡ true → (holder_in (r ∷ []) ≡ None) × (is_grant_record r ≡ false) × (is_handshake_grant_record r ≡ false)
    plain DialogueRecord.Grant h = absurd (cc (h))
    plain DialogueRecord.HandshakeGrant h = absurd (cc (h))
    plain (DialogueRecord.Begin t b k) h = absurd (cc (h))
    plain _ h = (refl, refl, refl)

    go : (k : Option Holder) (w : Option DialogueRecord) → IsMoot w → (has_said is_left_record rs || (b && is_record is_left_record w)) ≡ left → Goal k w
    go (Some k) w m j = refl
    go None None m j = rw (j, gifts_are rs) refl
    go None (Some r) m j = let k = plain r (m r refl) in rw (k.0, k.1, k.2, j, gifts_are rs) refl

-- what the signs tell of it
pub cause_shown : (o : Origin) (p : ℕ) (e : Entry) (h : List Entry) (above branch fall left : Bool) (x : Signs) → IsMoot (acting_from o p e.event h) → is_unchanged e.event ≡ false
    → x.begun ≡ holder_in (said_to p e.outs) → x.given ≡ has_said is_gift (said_to p e.outs) → x.over ≡ out_tells is_over_told e.outs → x.logged ≡ logs_ready_or_commit e.rec
    → is_up o p h ≡ above → was_branch o p h ≡ branch → rolls o.who (digest o h) e.event ≡ fall → (has_said is_left_record (said_to p e.outs) || (branch && is_record is_left_record (acting_from o p e.event h))) ≡ left
    → cause_by o p e h ≡ cause_of above branch fall left x
cause_shown o p e h above branch fall left x moot stays begun given over logged up at falls leaves =
    moot_cause (acting_from o p e.event h) (said_to p e.outs) (completes e) (was_branch o p h) (is_up o p h) (enters o e h) left moot (ap (λ (b : Bool). has_said is_left_record (said_to p e.outs) || (b && is_record is_left_record (acting_from o p e.event h))) at ∙ leaves)
    ∙ same (holder_in (said_to p e.outs)) x.begun (has_said is_gift (said_to p e.outs)) x.given (completes e) x.over (was_branch o p h) branch (is_up o p h) above (enters o e h) (x.logged || fall) (sym begun) (sym given) all at up (rw (sym logged, falls) refl)
  where
    tell : Option Holder → (given over branch above entered : Bool) → Option Cause
    tell k g c b u n = shown_cause k g c b u n left

    same : (k l : Option Holder) (g w c v b y u z n m : Bool) → k ≡ l → g ≡ w → c ≡ v → b ≡ y → u ≡ z → n ≡ m → tell k g c b u n ≡ tell l w v y z m
    same k l g w c v b y u z n m i1 i2 i3 i4 i5 i6 =
        ap (λ (x : Option Holder). tell x g c b u n) i1 ∙ ap (λ (x : Bool). tell l x c b u n) i2 ∙ ap (λ (x : Bool). tell l w x b u n) i3 ∙ ap (λ (x : Bool). tell l w v x u n) i4 ∙ ap (λ (x : Bool). tell l w v y x n) i5 ∙ ap (λ (x : Bool). tell l w v y z x) i6

    or_none : (b c : Bool) → c ≡ false → (b || c) ≡ b
    or_none true c h = refl
    or_none false c h = h

    all : completes e ≡ x.over
    all = or_none (tells_commit_complete e.outs || tells_rollback_complete e.outs) (is_unchanged e.event) stays ∙ over_tells e.outs ∙ sym over

-- ---- the last cause

pub last_more : (o : Origin) (p : ℕ) (r : Bool) (h : List Entry) → last_cause o p r h ≡ ((last_cause o p false h).0, r || (last_cause o p false h).1)
last_more o p r [] = rw (or-false r) refl
last_more o p r (e ∷ h) = go (cause_by o p e h) (is_live (link_with (digest o h).arcs p)) (has_said is_response (said_to p e.outs)) (last_more o p (r || has_said is_response (said_to p e.outs)) h) (last_more o p (has_said is_response (said_to p e.outs)) h)
  where
    or_or : (a b c : Bool) → ((a || b) || c) ≡ (a || (b || c))
    or_or true b c = refl
    or_or false b c = refl

    Was : Cause × Bool
    Was = last_cause o p false h

    go : (v : Option Cause) (l a : Bool) → last_cause o p (r || a) h ≡ (Was.0, (r || a) || Was.1) → last_cause o p a h ≡ (Was.0, a || Was.1)
        → elim v as (λ _. Cause × Bool) [ Some c ↦ (c, r) | None ↦ if not l then (Nothing_said, r) else last_cause o p (r || a) h ]
        ≡ ((elim v as (λ _. Cause × Bool) [ Some c ↦ (c, false) | None ↦ if not l then (Nothing_said, false) else last_cause o p a h ]).0, r || (elim v as (λ _. Cause × Bool) [ Some c ↦ (c, false) | None ↦ if not l then (Nothing_said, false) else last_cause o p a h ]).1)
    go (Some c) l a one two = rw (or-false r) refl
    go None false a one two = rw (or-false r) refl
    go None true a one two = one ∙ rw (two, or_or r a Was.1) refl

pub last_some : (o : Origin) (p : ℕ) (e : Entry) (h : List Entry) (c : Cause) → cause_by o p e h ≡ Some c → last_cause o p false (e ∷ h) ≡ (c, false)
last_some o p e h c i = ap (λ (v : Option Cause). elim v as (λ _. Cause × Bool) [ Some c ↦ (c, false) | None ↦ if not (is_live (link_with (digest o h).arcs p)) then (Nothing_said, false) else last_cause o p (has_said is_response (said_to p e.outs)) h ]) i

pub last_dead : (o : Origin) (p : ℕ) (e : Entry) (h : List Entry) → cause_by o p e h ≡ None → is_live (link_with (digest o h).arcs p) ≡ false → last_cause o p false (e ∷ h) ≡ (Nothing_said, false)
last_dead o p e h i dead =
    ap (λ (v : Option Cause). elim v as (λ _. Cause × Bool) [ Some c ↦ (c, false) | None ↦ if not (is_live (link_with (digest o h).arcs p)) then (Nothing_said, false) else last_cause o p (has_said is_response (said_to p e.outs)) h ]) i
    ∙ ap (λ (b : Bool). if not b then (Nothing_said, false) else last_cause o p (has_said is_response (said_to p e.outs)) h) dead

pub last_on : (o : Origin) (p : ℕ) (e : Entry) (h : List Entry) (a : Bool) → cause_by o p e h ≡ None → is_live (link_with (digest o h).arcs p) ≡ true → has_said is_response (said_to p e.outs) ≡ a
    → last_cause o p false (e ∷ h) ≡ ((last_cause o p false h).0, a || (last_cause o p false h).1)
last_on o p e h a i live said =
    ap (λ (v : Option Cause). elim v as (λ _. Cause × Bool) [ Some c ↦ (c, false) | None ↦ if not (is_live (link_with (digest o h).arcs p)) then (Nothing_said, false) else last_cause o p (has_said is_response (said_to p e.outs)) h ]) i
    ∙ ap (λ (b : Bool). if not b then (Nothing_said, false) else last_cause o p (has_said is_response (said_to p e.outs)) h) live
    ∙ ap (λ (b : Bool). last_cause o p b h) said ∙ last_more o p a h
