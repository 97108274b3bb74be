-- What an event shows of control on the arc with a peer, by what it says and logs, and what that makes of control.
use Rattle.tp_history_state.proofs.Vocabulary.{Bool, List, None, Option, Some, [], ap, false, if◌then◌else◌, not, refl, true, ℕ, ◌&&◌, ◌++◌, ◌||◌, ◌∙◌, ◌∷◌, ◌≡◌, ◌⊎◌, or-false, Holder, DialogueRecord, holder_in, has_said, said_to, is_left_record, logs_ready_or_commit, is_holder, Side, Digest, Move, followed, out_tells, is_rolled_told, said_append, said_both, tells_rolled, told_append, is_response}
use Rattle.tp_history_state.proofs.control.Arcs.{is_gift}
use Rattle.tp_history_state.proofs.orders.OverTold.{is_over_told}
use Rattle.tp_history_state.proofs.passages.Shown.{logs_joined}

-- ---- the signs

-- the holder that the first Begin names; whether control is given away; an outcome is told as complete, that of a rollback;
-- Ready or Commit is logged; the node leaves; a response is said
pub record Signs : Type 0 where
  pub begun : Option Holder
  pub given : Bool
  pub over : Bool
  pub rolled : Bool
  pub logged : Bool
  pub left : Bool
  pub answered : Bool

abbrev pub no_signs : Signs
no_signs = record { begun = None; given = false; over = false; rolled = false; logged = false; left = false; answered = false }

abbrev pub signs_of : List DialogueRecord → Bool → Bool → Bool → Signs
signs_of rs over rolled logged = record {
  begun = holder_in rs;
  given = has_said is_gift rs;
  over = over;
  rolled = rolled;
  logged = logged;
  left = has_said is_left_record rs;
  answered = has_said is_response rs;
}

abbrev pub signs : ℕ → Move → Signs
signs p m = signs_of (said_to p m.outs) (out_tells is_over_told m.outs) (tells_rolled m) (logs_ready_or_commit m.rec)

abbrev pub plus : Signs → Signs → Signs
plus x y = record {
  begun = elim x.begun [ None ↦ y.begun | Some k ↦ Some k ];
  given = x.given || y.given;
  over = x.over || y.over;
  rolled = x.rolled || y.rolled;
  logged = x.logged || y.logged;
  left = x.left || y.left;
  answered = x.answered || y.answered;
}

or_or : (a b c : Bool) → ((a || b) || c) ≡ (a || (b || c))
or_or true b c = refl
or_or false b c = refl

pub plus_none : (x : Signs) → plus x no_signs ≡ x
plus_none x = rw (first x.begun, or-false x.given, or-false x.over, or-false x.rolled, or-false x.logged, or-false x.left, or-false x.answered) refl
  where
    first : (o : Option Holder) → elim o as (λ _. Option Holder) [ None ↦ None | Some k ↦ Some k ] ≡ o
    first None = refl
    first (Some k) = refl

pub plus_plus : (x y z : Signs) → plus (plus x y) z ≡ plus x (plus y z)
plus_plus x y z = rw (first x.begun, or_or x.given y.given z.given, or_or x.over y.over z.over, or_or x.rolled y.rolled z.rolled, or_or x.logged y.logged z.logged, or_or x.left y.left z.left, or_or x.answered y.answered z.answered) refl
  where
    first : (o : Option Holder) → elim (elim o as (λ _. Option Holder) [ None ↦ y.begun | Some k ↦ Some k ]) as (λ _. Option Holder) [ None ↦ z.begun | Some k ↦ Some k ] ≡ elim o as (λ _. Option Holder) [ None ↦ elim y.begun as (λ _. Option Holder) [ None ↦ z.begun | Some k ↦ Some k ] | Some k ↦ Some k ]
    first None = refl
    first (Some k) = refl

holder_more : (xs ys : List DialogueRecord) → holder_in (xs ++ ys) ≡ elim (holder_in xs) as (λ _. Option Holder) [ None ↦ holder_in ys | Some k ↦ Some k ]
holder_more [] ys = refl
holder_more (DialogueRecord.Begin t b h ∷ xs) ys = refl
holder_more (DialogueRecord.EndDialogue ∷ xs) ys = holder_more xs ys
holder_more (DialogueRecord.UserData o ∷ xs) ys = holder_more xs ys
holder_more (DialogueRecord.UError ∷ xs) ys = holder_more xs ys
holder_more (DialogueRecord.UAbort ∷ xs) ys = holder_more xs ys
holder_more (DialogueRecord.Grant ∷ xs) ys = holder_more xs ys
holder_more (DialogueRecord.AskControl ∷ xs) ys = holder_more xs ys
holder_more (DialogueRecord.Handshake ∷ xs) ys = holder_more xs ys
holder_more (DialogueRecord.HandshakeGrant ∷ xs) ys = holder_more xs ys
holder_more (DialogueRecord.Response ∷ xs) ys = holder_more xs ys
holder_more (DialogueRecord.DeferEnd ∷ xs) ys = holder_more xs ys
holder_more (DialogueRecord.DeferGrant ∷ xs) ys = holder_more xs ys
holder_more (DialogueRecord.Prepare ∷ xs) ys = holder_more xs ys
holder_more (DialogueRecord.Ready ∷ xs) ys = holder_more xs ys
holder_more (DialogueRecord.Commit ∷ xs) ys = holder_more xs ys
holder_more (DialogueRecord.Done r ∷ xs) ys = holder_more xs ys
holder_more (DialogueRecord.Rollback ∷ xs) ys = holder_more xs ys
holder_more (DialogueRecord.RolledBack r ∷ xs) ys = holder_more xs ys
holder_more (DialogueRecord.Left ∷ xs) ys = holder_more xs ys
holder_more (DialogueRecord.LeftEnd ∷ xs) ys = holder_more xs ys

pub signs_then : (p : ℕ) (a : Move) (f : Digest → Move) → (a.rec ≡ None) ⊎ ((f a.next).rec ≡ None) → signs p (followed a f) ≡ plus (signs p a) (signs p (f a.next))
signs_then p a f none =
    let b : Move = f a.next in
    let begun : holder_in (said_to p (a.outs ++ b.outs)) ≡ elim (holder_in (said_to p a.outs)) as (λ _. Option Holder) [ None ↦ holder_in (said_to p b.outs) | Some k ↦ Some k ] =
    ap holder_in (said_append p a.outs b.outs) ∙ holder_more (said_to p a.outs) (said_to p b.outs) in
    rw (begun, said_both is_gift p a.outs b.outs, told_append is_over_told a.outs b.outs, told_append is_rolled_told a.outs b.outs, logs_joined a.rec b.rec none, said_both is_left_record p a.outs b.outs, said_both is_response p a.outs b.outs) refl

-- ---- a record that is a sign

abbrev pub is_sign : DialogueRecord → Bool
is_sign DialogueRecord.Grant = true
is_sign DialogueRecord.HandshakeGrant = true
is_sign DialogueRecord.Response = true
is_sign (DialogueRecord.Begin t b h) = true
is_sign DialogueRecord.Left = true
is_sign DialogueRecord.LeftEnd = true
is_sign _ = false

-- a record that is a sign, but no Grant
abbrev pub is_shift : DialogueRecord → Bool
is_shift DialogueRecord.Response = true
is_shift (DialogueRecord.Begin t b h) = true
is_shift DialogueRecord.Left = true
is_shift DialogueRecord.LeftEnd = true
is_shift _ = false

pub record Unshifted (rs : List DialogueRecord) : Type 0 where
  pub begun : holder_in rs ≡ None
  pub left : has_said is_left_record rs ≡ false
  pub answered : has_said is_response rs ≡ false

pub unshifted : (rs : List DialogueRecord) → has_said is_shift rs ≡ false → Unshifted rs
unshifted [] h = record { begun = refl; left = refl; answered = refl }
unshifted (r ∷ rs) h = go (is_shift r) refl h (unshifted rs)
  where
    one : (r : DialogueRecord) → is_shift r ≡ false → (rest : Unshifted rs) → Unshifted (r ∷ rs)
    one DialogueRecord.Response i rest = absurd (cc (i))
    one (DialogueRecord.Begin t b k) i rest = absurd (cc (i))
    one DialogueRecord.Left i rest = absurd (cc (i))
    one DialogueRecord.LeftEnd i rest = absurd (cc (i))
    one _ i rest = record { begun = rest.begun; left = rest.left; answered = rest.answered }

    go : (b : Bool) → is_shift r ≡ b → (b || has_said is_shift rs) ≡ false → (has_said is_shift rs ≡ false → Unshifted rs) → Unshifted (r ∷ rs)
    go true i k rest = absurd (cc (k))
    go false i k rest = one r i (rest k)

pub weaker : (f g : DialogueRecord → Bool) (rs : List DialogueRecord) → ((r : DialogueRecord) → g r ≡ false → f r ≡ false) → has_said g rs ≡ false → has_said f rs ≡ false
weaker f g [] k h = refl
weaker f g (r ∷ rs) k h = go (g r) refl h (weaker f g rs k)
  where
    go : (b : Bool) → g r ≡ b → (b || has_said g rs) ≡ false → (has_said g rs ≡ false → has_said f rs ≡ false) → (f r || has_said f rs) ≡ false
    go true i j rest = absurd (cc (j))
    go false i j rest = rw (k r i, rest j) refl

pub gift_sign : (r : DialogueRecord) → is_sign r ≡ false → is_gift r ≡ false
gift_sign DialogueRecord.Grant h = absurd (cc (h))
gift_sign DialogueRecord.HandshakeGrant h = absurd (cc (h))
gift_sign r h = refl

pub shift_sign : (r : DialogueRecord) → is_sign r ≡ false → is_shift r ≡ false
shift_sign DialogueRecord.Response h = absurd (cc (h))
shift_sign (DialogueRecord.Begin t b k) h = absurd (cc (h))
shift_sign DialogueRecord.Left h = absurd (cc (h))
shift_sign DialogueRecord.LeftEnd h = absurd (cc (h))
shift_sign r h = refl

-- no sign is said
pub signs_none : (rs : List DialogueRecord) (u v w : Bool) → has_said is_sign rs ≡ false → u ≡ false → v ≡ false → w ≡ false → signs_of rs u v w ≡ no_signs
signs_none rs u v w h i j k =
    let s = unshifted rs (weaker is_shift is_sign rs shift_sign h) in
    rw (s.begun, weaker is_gift is_sign rs gift_sign h, i, j, k, s.left, s.answered) refl

-- ---- what they make of control: whether this end holds it, and whether a response that it owes gives it

abbrev pub effect : (above branch fall : Bool) → Bool × Bool → Bool → Signs → Bool × Bool
effect above branch fall old rolling x = elim x.begun [
  | Some k ↦ (is_holder k Side.Superior, false)
  | None ↦
      if x.given then (false, false)
      else if x.over && branch && not above then (true, false)
      else if (x.logged || fall && (rolling || x.rolled)) && branch then (false, false)
      else old
]
