-- What words make of the rounds that a superior closed and of the control that it gave.
use Rattle.std.proofs.Common.{if◌then◌else◌, ◌≡◌, ◌≤◌, ◌+◌, ℕ, zero, suc, Bool, true, false, refl, ap, sym, ◌∙◌, arith, Option, Some, None, List, [], ◌∷◌, ◌++◌, ◌&&◌, ◌||◌, ◌==◌, not}
use Rattle.std.proofs.lemmas.Bool.Decides.{nat_tests}
use Rattle.tp_records.specs.declared.dialogue.DialogueRecord.{DialogueRecord}
use Rattle.tp_model.specs.declared.transaction.TxOut.{TxOut}
use Rattle.tp_model.specs.Parts.{Arc}
use Rattle.tp_model.specs.Links.{is_live}
use Rattle.tp_model.specs.Arcs.{link_with, find_arc, shut_with, performed_one, performed}
use Rattle.tp_model.specs.Questions.{is_begin, said_to}
use Rattle.tp_steps.specs.Moves.{is_apart, are_apart, is_spoken, are_spoken, gives_to, grants_to, hands_to, is_said, are_said, closes_at}
use Rattle.tp_model.specs.Parts.{Event}
use Rattle.tp_steps.specs.Facts.{none_of, stays}
use Rattle.tp_steps.specs.Passages.{begins_none}
use Rattle.tp_steps.specs.Control.{rounds, flag_from}
use Rattle.tp_histories.specs.Control.{is_closing, closes_down, begun_behind, closed}
use Rattle.tp_control.specs.Control.{behind, count, is_giving, is_returning, given}
use Rattle.tp_control.specs.Holding.{returns_in}
use Rattle.tp_control.specs.Leading.{carried_to, some_closing, begun}
use Rattle.tp_steps.proofs.links.Links.{said_append, shut_silent, recovery_silent}
use Rattle.tp_steps.proofs.links.Wrapped.{agrees_performed, said_carried}
use Rattle.tp_steps.proofs.upward.Answering.{rounds_append, flag_append}
use Rattle.tp_control.proofs.OneHolder.{behind_less}
use Rattle.tp_control.proofs.Counting.{behind_quiet, behind_past}
use Rattle.tp_control.proofs.Leading.{carried_append}
use Rattle.tp_steps.proofs.links.Saying.{no_gift}
use Rattle.tp_steps.proofs.lemmas.Equality.{and_right}

-- ---- words that neither begin nor give

abbrev pub is_opening : DialogueRecord → Bool
is_opening r = is_begin r || is_giving r

-- flags and rounds after them
pub plain_flag : (f : Bool) (ws : List DialogueRecord) → none_of is_opening ws ≡ true → flag_from begun_behind f ws ≡ (f && not (some_closing ws))
plain_flag f [] h = grind arith
plain_flag f (w ∷ ws) h =
    let no : is_begin w ≡ false = grind (arith, h) in
    let rest = plain_flag (begun_behind f w) ws (grind (arith, h)) in
    let one : begun_behind f w ≡ (f && not (is_closing w)) = grind (arith, no) in
    rest ∙ rw one (bools f (is_closing w) (some_closing ws))
  where
    bools : (f c s : Bool) → ((f && not c) && not s) ≡ (f && not (c || s))
    bools f c s = grind arith

pub plain_rounds : (f : Bool) (ws : List DialogueRecord) → none_of is_opening ws ≡ true → rounds closes_down begun_behind f ws ≡ (if f && some_closing ws then 1 else 0)
plain_rounds f [] h = grind arith
plain_rounds f (w ∷ ws) h =
    let no : is_begin w ≡ false = grind (arith, h) in
    let rest = plain_rounds (begun_behind f w) ws (grind (arith, h)) in
    let one : begun_behind f w ≡ (f && not (is_closing w)) = grind (arith, no) in
    numbers f (is_closing w) (some_closing ws) (rounds closes_down begun_behind (begun_behind f w) ws) (rest ∙ rw one refl)
  where
    numbers : (f c s : Bool) (n : ℕ) → n ≡ (if (f && not c) && s then 1 else 0) → (if f && c then 1 else 0) + n ≡ (if f && (c || s) then 1 else 0)
    numbers true true true n h = omega (arith, h)
    numbers true true false n h = omega (arith, h)
    numbers true false true n h = omega (arith, h)
    numbers true false false n h = omega (arith, h)
    numbers false c s n h = omega (arith, h)

gives_none : (ws : List DialogueRecord) → none_of is_opening ws ≡ true → none_of is_giving ws ≡ true
gives_none [] h = refl
gives_none (w ∷ ws) h = grind (arith, h, gives_none ws)

pub begun_plain : (sent ws : List DialogueRecord) → none_of is_opening ws ≡ true → begun (sent ++ ws) ≡ (begun sent && not (some_closing ws))
begun_plain sent ws h = flag_append begun_behind false sent ws ∙ plain_flag (begun sent) ws h

pub closed_plain : (sent ws : List DialogueRecord) → none_of is_opening ws ≡ true → closed (sent ++ ws) ≡ closed sent + (if begun sent && some_closing ws then 1 else 0)
closed_plain sent ws h = rounds_append closes_down begun_behind false sent ws ∙ ap (λ (n : ℕ). closed sent + n) (plain_rounds (begun sent) ws h)

pub given_plain : (c : ℕ) (sent ws : List DialogueRecord) → none_of is_opening ws ≡ true → given c (sent ++ ws) ≡ given c sent
given_plain c sent ws h = behind_quiet is_giving closes_down begun_behind false c sent ws (gives_none ws h)

-- where a round was open, or nothing was given after those that are closed, nothing is given after those that are closed now
pub quiet_plain : (sent ws : List DialogueRecord) → none_of is_opening ws ≡ true → (begun sent ≡ false → given (closed sent) sent ≡ 0) → begun (sent ++ ws) ≡ false → given (closed (sent ++ ws)) (sent ++ ws) ≡ 0
quiet_plain sent ws h quiet over = given_plain (closed (sent ++ ws)) sent ws h ∙ go (begun sent) refl
  where
    go : (b : Bool) → begun sent ≡ b → given (closed (sent ++ ws)) sent ≡ 0
    go false i =
        let same : closed (sent ++ ws) ≡ closed sent = closed_plain sent ws h ∙ ap (λ (f : Bool). closed sent + (if f && some_closing ws then 1 else 0)) i ∙ none_more (closed sent) in
        ap (λ (k : ℕ). given k sent) same ∙ quiet i
      where
        none_more : (n : ℕ) → n + (if false && some_closing ws then 1 else 0) ≡ n
        none_more n = omega arith
    go true i =
        let closing : some_closing ws ≡ true = shut (some_closing ws) (sym (begun_plain sent ws h ∙ ap (λ (f : Bool). f && not (some_closing ws)) i) ∙ over) in
        let more : closed (sent ++ ws) ≡ closed sent + (if true && true then 1 else 0) = closed_plain sent ws h ∙ ap (λ (f : Bool). closed sent + (if f && some_closing ws then 1 else 0)) i ∙ ap (λ (f : Bool). closed sent + (if true && f then 1 else 0)) closing in
        behind_past is_giving closes_down begun_behind false (closed (sent ++ ws)) sent (omega (arith, more))
      where
        shut : (b : Bool) → (true && not b) ≡ false → b ≡ true
        shut true j = refl
        shut false j = absurd (cc (j))

-- after more rounds is given less
pub given_less : (sent : List DialogueRecord) (k n : ℕ) → given k sent ≡ 0 → given (n + k) sent ≡ 0
given_less sent k zero h = let same : 0 + k ≡ k = omega arith in rw same h
given_less sent k (suc n) h =
    let rest = given_less sent k n h in
    let less = behind_less is_giving closes_down begun_behind false (n + k) sent in
    let same : suc n + k ≡ suc (n + k) = omega arith in
    rw same (omega (arith, rest, less))

pub given_later : (sent : List DialogueRecord) (k c : ℕ) → k ≤ c → given k sent ≡ 0 → given c sent ≡ 0
given_later sent k c le h = go c k le h
  where
    split : (a b : ℕ) → a ≤ b → (d : ℕ) × (b ≡ d + a)
    split zero b h = (b, omega arith)
    split (suc a) zero h = absurd (omega (arith, h))
    split (suc a) (suc b) h = let s = split a b (omega (arith, h)) in (s.0, omega (arith, s.1))

    go : (c k : ℕ) → k ≤ c → given k sent ≡ 0 → given c sent ≡ 0
    go c k le h = let s = split k c le in ap (λ (m : ℕ). given m sent) s.1 ∙ given_less sent k s.0 h

-- a Grant among words: it closes nothing, and gives once
grant_flag : (f : Bool) → begun_behind f DialogueRecord.Grant ≡ f
grant_flag f = grind arith

pub insert_flag : (f : Bool) (us vs : List DialogueRecord) → flag_from begun_behind f (us ++ DialogueRecord.Grant ∷ vs) ≡ flag_from begun_behind f (us ++ vs)
insert_flag f [] vs = ap (λ (g : Bool). flag_from begun_behind g vs) (grant_flag f)
insert_flag f (u ∷ us) vs = insert_flag (begun_behind f u) us vs

pub insert_rounds : (f : Bool) (us vs : List DialogueRecord) → rounds closes_down begun_behind f (us ++ DialogueRecord.Grant ∷ vs) ≡ rounds closes_down begun_behind f (us ++ vs)
insert_rounds f [] vs =
    let same : begun_behind f DialogueRecord.Grant ≡ f = grind arith in
    let none : closes_down f DialogueRecord.Grant ≡ false = grind arith in
    let one : rounds closes_down begun_behind (begun_behind f DialogueRecord.Grant) vs ≡ rounds closes_down begun_behind f vs = ap (λ (g : Bool). rounds closes_down begun_behind g vs) same in
    let zeros : ◌≡◌ {A = ℕ} (if closes_down f DialogueRecord.Grant then 1 else 0) 0 = ap (λ (g : Bool). if◌then◌else◌ {A = ℕ} g 1 0) none in
    omega (arith, one, zeros)
insert_rounds f (u ∷ us) vs = let rest = insert_rounds (begun_behind f u) us vs in omega (arith, rest)

pub insert_given : (f : Bool) (k : ℕ) (us vs : List DialogueRecord) → count is_giving (behind closes_down begun_behind f k (us ++ DialogueRecord.Grant ∷ vs)) ≤ suc (count is_giving (behind closes_down begun_behind f k (us ++ vs)))
insert_given f zero [] vs = omega arith
insert_given f zero (u ∷ us) vs = let rest = insert_given (begun_behind f u) zero us vs in omega (arith, rest)
insert_given f (suc k) [] vs =
    let same : begun_behind f DialogueRecord.Grant ≡ f = grind arith in
    let none : closes_down f DialogueRecord.Grant ≡ false = grind arith in
    let step : behind closes_down begun_behind f (suc k) (DialogueRecord.Grant ∷ vs) ≡ behind closes_down begun_behind f (suc k) vs = rw (none, same) refl in
    let eq : count is_giving (behind closes_down begun_behind f (suc k) (DialogueRecord.Grant ∷ vs)) ≡ count is_giving (behind closes_down begun_behind f (suc k) vs) = ap (count is_giving) step in
    omega (arith, eq)
insert_given f (suc k) (u ∷ us) vs = go (closes_down f u) (insert_given (begun_behind f u) k us vs) (insert_given (begun_behind f u) (suc k) us vs)
  where
    go : (c : Bool) → count is_giving (behind closes_down begun_behind (begun_behind f u) k (us ++ DialogueRecord.Grant ∷ vs)) ≤ suc (count is_giving (behind closes_down begun_behind (begun_behind f u) k (us ++ vs)))
        → count is_giving (behind closes_down begun_behind (begun_behind f u) (suc k) (us ++ DialogueRecord.Grant ∷ vs)) ≤ suc (count is_giving (behind closes_down begun_behind (begun_behind f u) (suc k) (us ++ vs)))
        → count is_giving (if c then behind closes_down begun_behind (begun_behind f u) k (us ++ DialogueRecord.Grant ∷ vs) else behind closes_down begun_behind (begun_behind f u) (suc k) (us ++ DialogueRecord.Grant ∷ vs))
        ≤ suc (count is_giving (if c then behind closes_down begun_behind (begun_behind f u) k (us ++ vs) else behind closes_down begun_behind (begun_behind f u) (suc k) (us ++ vs)))
    go true one two = one
    go false one two = two

-- ---- what goes out is what is carried

said_one : (arcs : List Arc) (o : TxOut) (p : ℕ) → is_apart o ≡ true → said_to p (performed_one arcs o).1 ≡ carried_to (is_live (link_with arcs p)) p (o ∷ [])
said_one arcs (TxOut.Tell i) p h = refl
said_one arcs (TxOut.Carry q r) p h = said_carried arcs q r p
said_one arcs (TxOut.Recovery a r) p h = recovery_silent p a r h
said_one arcs (TxOut.Close q) p h = refl
said_one arcs (TxOut.Shut q) p h = go (find_arc arcs q) refl
  where
    go : (o : Option Arc) → find_arc arcs q ≡ o → said_to p (shut_with arcs q).1 ≡ []
    go None i = rw (i, shut_with) refl
    go (Some a) i = rw (i, shut_with) (shut_silent p a.peer a.link)

pub said_performed : (arcs : List Arc) (outs : List TxOut) (p : ℕ) → are_apart outs ≡ true → said_to p (performed arcs outs).1 ≡ carried_to (is_live (link_with arcs p)) p outs
said_performed arcs [] p h = refl
said_performed arcs (o ∷ outs) p h =
    let next : List Arc = (performed_one arcs o).0 in
    let b : Bool = is_live (link_with arcs p) in
    let live : is_live (link_with next p) ≡ stays b p (o ∷ []) = (agrees_performed arcs (o ∷ []) p (one_apart o (grind (arith, h)))).live in
    said_append p (performed_one arcs o).1 (performed next outs).1
    ∙ both (said_to p (performed_one arcs o).1) (carried_to b p (o ∷ [])) (said_to p (performed next outs).1) (carried_to (stays b p (o ∷ [])) p outs) (said_one arcs o p (grind (arith, h))) (said_performed next outs p (grind (arith, h)) ∙ ap (λ (v : Bool). carried_to v p outs) live)
    ∙ sym (carried_append b p (o ∷ []) outs)
  where
    both : (u u' v v' : List DialogueRecord) → u ≡ u' → v ≡ v' → u ++ v ≡ u' ++ v'
    both u u' v v' e f = rw (e, f) refl

    one_apart : (o : TxOut) → is_apart o ≡ true → are_apart (o ∷ []) ≡ true
    one_apart o h = rw h refl

-- what a transaction carries neither begins nor gives
pub plain_carried : (b : Bool) (p : ℕ) (outs : List TxOut) → begins_none outs ≡ true → returns_in p outs ≡ false → none_of is_opening (carried_to b p outs) ≡ true
plain_carried b p [] h i = refl
plain_carried b p (TxOut.Tell t ∷ outs) h i = plain_carried b p outs h i
plain_carried b p (TxOut.Carry q r ∷ outs) h i = go (q == p) b refl (plain_carried b p outs (grind (arith, h)) (grind (arith, i)))
  where
    no : (r : DialogueRecord) → is_begin r ≡ false → is_returning r ≡ false → is_opening r ≡ false
    no (DialogueRecord.Begin t c k) x y = absurd (cc (x))
    no DialogueRecord.Grant x y = absurd (cc (y))
    no DialogueRecord.HandshakeGrant x y = absurd (cc (y))
    no r x y = grind (arith, x, y)

    go : (x v : Bool) → (q == p) ≡ x → none_of is_opening (carried_to v p outs) ≡ true → none_of is_opening (if x && v then r ∷ carried_to v p outs else carried_to v p outs) ≡ true
    go true true j rest =
        let one : is_opening r ≡ false = no r (grind (arith, h)) (grind (arith, i, j)) in
        rw one rest
    go true false j rest = rest
    go false v j rest = rest
plain_carried b p (TxOut.Shut q ∷ outs) h i = plain_carried (b && not (q == p)) p outs h i
plain_carried b p (TxOut.Recovery a r ∷ outs) h i = plain_carried b p outs h (grind (arith, i))
plain_carried b p (TxOut.Close q ∷ outs) h i = plain_carried (b && not (q == p)) p outs h i

-- what is said outside transactions closes nothing, and gives nothing without a request
abbrev pub is_leading_word : DialogueRecord → Bool
is_leading_word r = is_opening r || is_closing r

pub inert_said : (e : Event) (b : Bool) (p : ℕ) (outs : List TxOut) → gives_to e p ≡ false → are_said e outs ≡ true → are_spoken outs ≡ true → none_of is_leading_word (carried_to b p outs) ≡ true
inert_said e b p [] none h i = refl
inert_said e b p (TxOut.Tell t ∷ outs) none h i = inert_said e b p outs none h (grind (arith, i))
inert_said e b p (TxOut.Carry q r ∷ outs) none h i = go (q == p) b refl (inert_said e b p outs none (grind (arith, h)) (grind (arith, i)))
  where
    no : (r : DialogueRecord) → is_said e (TxOut.Carry q r) ≡ true → is_spoken (TxOut.Carry q r) ≡ true → gives_to e q ≡ false → is_leading_word r ≡ false
    no DialogueRecord.Grant x y z = let off : grants_to e q ≡ false = (no_gift e q z).0 in absurd (cc (x, off))
    no DialogueRecord.HandshakeGrant x y z = let off : hands_to e q ≡ false = (no_gift e q z).1 in absurd (cc (x, off))
    no DialogueRecord.Prepare x y z = absurd (cc (x))
    no DialogueRecord.Commit x y z = absurd (cc (y))
    no DialogueRecord.Rollback x y z = absurd (cc (y))
    no (DialogueRecord.Begin t c k) x y z = absurd (cc (y))
    no r x y z = grind arith

    go : (x v : Bool) → (q == p) ≡ x → none_of is_leading_word (carried_to v p outs) ≡ true → none_of is_leading_word (if x && v then r ∷ carried_to v p outs else carried_to v p outs) ≡ true
    go true true j rest =
        let same : q ≡ p = grind (arith, nat_tests, j) in
        let z : gives_to e q ≡ false = ap (gives_to e) same ∙ none in
        let one : is_leading_word r ≡ false = no r (grind (arith, h)) (grind (arith, i)) z in
        rw one rest
    go true false j rest = rest
    go false v j rest = rest
inert_said e b p (TxOut.Shut q ∷ outs) none h i = absurd (cc (h))
inert_said e b p (TxOut.Recovery a r ∷ outs) none h i = inert_said e b p outs none h (grind (arith, i))
inert_said e b p (TxOut.Close q ∷ outs) none h i = inert_said e (b && not (q == p)) p outs none (and_right (closes_at e q) (are_said e outs) h) i

pub inert_plain : (ws : List DialogueRecord) → none_of is_leading_word ws ≡ true → (none_of is_opening ws ≡ true) × (some_closing ws ≡ false)
inert_plain [] h = (refl, refl)
inert_plain (w ∷ ws) h =
    let rest = inert_plain ws (grind (arith, h)) in
    let one : is_opening w ≡ false = grind (arith, h) in
    let two : is_closing w ≡ false = grind (arith, h) in
    (rw one rest.0, rw two rest.1)
