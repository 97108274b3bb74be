-- Every event of a node keeps what was said to a branch, and control towards it, in step: an instance of the steps of a node.
use Rattle.std.proofs.Common.{if◌then◌else◌, ◌≡◌, ◌≤◌, ◌+◌, ℕ, suc, Bool, true, false, refl, ap, sym, subst, ◌∙◌, arith, Option, Some, None, List, [], ◌∷◌, ◌++◌, ◌&&◌, ◌||◌, ◌==◌, not}
use Rattle.std.proofs.lemmas.Bool.Decides.{nat_tests}
use Rattle.std.proofs.lemmas.List.{append-nil, append_assoc}
use Rattle.tp_units.specs.Units.{has_bit}
use Rattle.tp_names.specs.declared.identifiers.Aaid.{Aaid}
use Rattle.tp_names.specs.declared.identifiers.BranchId.{BranchId}
use Rattle.tp_names.specs.declared.identifiers.Addr.{Addr}
use Rattle.tp_names.specs.declared.children.Child.{Child}
use Rattle.tp_records.specs.declared.request.Request.{Request}
use Rattle.tp_records.specs.declared.dialogue.DialogueRecord.{DialogueRecord}
use Rattle.tp_records.specs.declared.dialogue.Holder.{Holder}
use Rattle.tp_records.specs.declared.peer.PeerRecord.{PeerRecord}
use Rattle.tp_model.specs.declared.arc.Phase.{Phase}
use Rattle.tp_model.specs.declared.arc.Side.{Side}
use Rattle.tp_model.specs.declared.transaction.TxEvent.{TxEvent}
use Rattle.tp_model.specs.declared.transaction.TxOut.{TxOut}
use Rattle.tp_model.specs.declared.recovery.Kept.{Kept}
use Rattle.tp_model.specs.declared.recovery.KeptEvent.{KeptEvent}
use Rattle.tp_model.specs.Parts.{Who, Event, Dialogue, Arc, Root, Branch, Current, Digest}
use Rattle.tp_model.specs.Links.{is_live}
use Rattle.tp_model.specs.Dialogues.{is_nil, is_active, is_polarized, is_chained, lacks_control, Asked, Heard, said, heard, woken, begun_by, named_holder}
use Rattle.tp_model.specs.Arcs.{find_arc, link_with, without_arc, with_dialogue}
use Rattle.tp_model.specs.Transactions.{aaid_of, fresh_branch, fresh_rows, is_under_at, row_holds, situation_of, transacted}
use Rattle.tp_model.specs.Recovery.{settled}
use Rattle.tp_model.specs.Node.{Move, followed, perform, next_mark, with_mark_drawn, is_superior, phase_of, seen_rows, seen, branches_of, situation_at, fresh_current, with_begun, may_begin_on, begin_on, keep, remaining, try_start}
use Rattle.tp_model.specs.Questions.{said_to}
use Rattle.tp_model.specs.Events.{refusal, action}
use Rattle.tp_steps.specs.Moves.{IsAsked, IsLate, IsChange, By_waking, By_saying, By_hearing, By_beginning, By_leaving, said_by, heard_by, begun_by_record, left_by, prelude, gives_to, may_begin, some_leads, Moves}
use Rattle.tp_steps.specs.Facts.{none_of, find_branch, IsHeard, Reads}
use Rattle.tp_steps.specs.Ends.{is_there, are_separate}
use Rattle.tp_steps.specs.Control.{rounds}
use Rattle.tp_histories.specs.Control.{closed, closes_down, begun_behind}
use Rattle.tp_control.specs.Control.{given, is_giving}
use Rattle.tp_control.specs.Holding.{is_holding, gains_at}
use Rattle.tp_control.specs.Leading.{carried_to, some_closing, opens, lags, is_sound, answers, of_branch, has_branch, dialogue_at, begun, IsKept, IsLed}
use Rattle.tp_steps.proofs.every.EveryRecord.{find_arc_is}
use Rattle.tp_steps.proofs.every.EveryMove.{every_start}
use Rattle.tp_steps.proofs.every.EveryEvent.{every_move}
use Rattle.tp_steps.proofs.links.Wrapped.{agrees_performed}
use Rattle.tp_steps.proofs.links.Links.{said_append, link_dialogue}
use Rattle.tp_steps.proofs.links.Apart.{apart_spoken}
use Rattle.tp_steps.proofs.words.Heard.{heard_moves, dropped_live}
use Rattle.tp_steps.proofs.words.Hushed.{settled_spoken}
use Rattle.tp_histories.proofs.marks.Separate.{Thins, thins_moves, thins_dialogue, thins_without}
use Rattle.tp_control.proofs.Counting.{behind_quiet, behind_next}
use Rattle.tp_steps.proofs.upward.Answering.{rounds_append, flag_append}
use Rattle.tp_control.proofs.LedWords.{is_opening, is_leading_word, inert_plain, inert_said, begun_plain, closed_plain, given_plain, quiet_plain, said_performed}
use Rattle.tp_control.proofs.LedTurned.{Was, was_performed, found_without, dialogue_is, found_of, one_or_none, led_turned}
use Rattle.tp_steps.proofs.every.BeginCases.{begun_over, begin_cases}

-- ---- moves that say nothing of it

-- a dialogue that holds what it held, and is owed no more
pub record Softens (g g' : Dialogue) : Type 0 where
  pub units : g'.units ≡ g.units
  pub falls : is_holding g' ≡ true → is_holding g ≡ true
  pub holds : g.holds ≡ true → g'.holds ≡ true

pub softens_self : (g g' : Dialogue) → g' ≡ g → Softens g g'
softens_self g g' same = record { units = ap (λ (x : Dialogue). x.units) same; falls = λ h. ap is_holding (sym same) ∙ h; holds = λ h. ap (λ (x : Dialogue). x.holds) same ∙ h }

kept_softens : (row : Bool) (g g' : Dialogue) (n r : ℕ) → Softens g g' → IsKept g row n r → IsKept g' row n r
kept_softens row g g' n r p old = record {
  control = λ pol. one_or_none n r (is_holding g') (is_holding g) p.falls (old.control (ap (λ (u : ℕ). has_bit u 2) (sym p.units) ∙ pol));
  chained = λ none pol ch. p.holds (old.chained none (ap (λ (u : ℕ). has_bit u 2) (sym p.units) ∙ pol) (ap (λ (u : ℕ). has_bit u 16) (sym p.units) ∙ ch));
  whole = λ ch. ap (λ (u : ℕ). has_bit u 32) p.units ∙ old.whole (ap (λ (u : ℕ). has_bit u 16) (sym p.units) ∙ ch);
}

pub led_inert : (p : ℕ) (d u : Digest) (sent ws : List DialogueRecord) (k r : ℕ) → u.current ≡ d.current → none_of is_leading_word ws ≡ true → ((b : Arc) → find_arc u.arcs p ≡ Some b → (a : Arc) × (find_arc d.arcs p ≡ Some a) × Softens a.dialogue b.dialogue)
    → IsLed p d sent k r → IsLed p u (sent ++ ws) k r
led_inert p d u sent ws k r same none arcs old = record {
  sound = branch true is_sound ∙ old.sound;
  open_now = begun_plain sent ws w.0 ∙ still (begun sent) (some_closing ws) w.1 ∙ old.open_now ∙ sym (branch false opens);
  ahead = subst (λ (x : Bool). closed (sent ++ ws) ≤ k + (if x then 1 else 0)) (sym (branch false lags)) (subst (λ (n : ℕ). n ≤ k + (if of_branch false lags d.current p then 1 else 0)) (sym closed_same) old.ahead);
  quiet = λ has over. quiet_plain sent ws w.0 (old.quiet (sym (branch false (λ h b. true)) ∙ has)) over;
  kept = λ g at. keep g at;
}
  where
    w : (none_of is_opening ws ≡ true) × (some_closing ws ≡ false)
    w = inert_plain ws none

    branch : (v : Bool) (f : Phase → Branch → Bool) → of_branch v f u.current p ≡ of_branch v f d.current p
    branch v f = ap (λ (o : Option Current). of_branch v f o p) same

    still : (b c : Bool) → c ≡ false → (b && not c) ≡ b
    still b c h = rw h (grind arith)

    closed_same : closed (sent ++ ws) ≡ closed sent
    closed_same = closed_plain sent ws w.0 ∙ zero_more (begun sent) (some_closing ws) w.1
      where
        zero_more : (b c : Bool) → c ≡ false → closed sent + (if b && c then 1 else 0) ≡ closed sent
        zero_more true c h = rw h (omega arith)
        zero_more false c h = omega arith

    keep : (g : Dialogue) → dialogue_at p u.arcs ≡ Some g → IsKept g (has_branch u.current p) (given k (sent ++ ws)) r
    keep g at =
        let b = found_of u.arcs p g at in
        let a = arcs b.0 b.1 in
        let first = old.kept a.0.dialogue (dialogue_is d.arcs p a.0 a.1) in
        let step : IsKept g (has_branch d.current p) (given k sent) r = kept_softens (has_branch d.current p) a.0.dialogue g (given k sent) r (subst (λ (x : Dialogue). Softens a.0.dialogue x) b.2 a.2) first in
        subst (λ (x : Bool). IsKept g x (given k (sent ++ ws)) r) (sym (branch false (λ h b. true))) (subst (λ (n : ℕ). IsKept g (has_branch d.current p) n r) (sym (given_plain k sent ws w.0)) step)

was_soft : (arcs : List Arc) (p : ℕ) (b : Arc) → Was arcs p b → (a : Arc) × (find_arc arcs p ≡ Some a) × Softens a.dialogue b.dialogue
was_soft arcs p b w = (w.arc, w.found, softens_self w.arc.dialogue b.dialogue w.dialogue)

-- nothing is said, and the arcs change softly
pub led_mute : (p : ℕ) (d u : Digest) (sent : List DialogueRecord) (k r : ℕ) → u.current ≡ d.current → ((b : Arc) → find_arc u.arcs p ≡ Some b → (a : Arc) × (find_arc d.arcs p ≡ Some a) × Softens a.dialogue b.dialogue) → IsLed p d sent k r → IsLed p u sent k r
led_mute p d u sent k r same arcs old = subst (λ (xs : List DialogueRecord). IsLed p u xs k r) (append-nil sent) (led_inert p d u sent [] k r same refl arcs old)

-- ---- changes of a dialogue

pub softens_dialogue : (arcs : List Arc) (q : ℕ) (f : Dialogue → Dialogue) (p : ℕ) → ((q == p) ≡ true → (g : Dialogue) → Softens g (f g)) → (b : Arc) → find_arc (with_dialogue arcs q f) p ≡ Some b → (a : Arc) × (find_arc arcs p ≡ Some a) × Softens a.dialogue b.dialogue
softens_dialogue [] q f p soft b h = absurd (cc (h))
softens_dialogue (a ∷ arcs) q f p soft b h = go (a.peer.node == q) refl (a.peer.node == p) refl (softens_dialogue arcs q f p soft b)
  where
    go : (x : Bool) → (a.peer.node == q) ≡ x → (y : Bool) → (a.peer.node == p) ≡ y → (find_arc (with_dialogue arcs q f) p ≡ Some b → (a : Arc) × (find_arc arcs p ≡ Some a) × Softens a.dialogue b.dialogue) → (c : Arc) × (find_arc (a ∷ arcs) p ≡ Some c) × Softens c.dialogue b.dialogue
    go true i true j rest =
        let is : Some (record a { dialogue = f a.dialogue }) ≡ Some b = grind (arith, h, i, j) in
        let eq : record a { dialogue = f a.dialogue } ≡ b = cc (is) in
        let same : (q == p) ≡ true = grind (arith, nat_tests, i, j) in
        (a, grind (arith, j), subst (λ (x : Dialogue). Softens a.dialogue x) (ap (λ (x : Arc). x.dialogue) eq) (soft same a.dialogue))
    go true i false j rest = (b, grind (arith, h, i, j), softens_self b.dialogue b.dialogue refl)
    go false i true j rest = (b, grind (arith, h, i, j), softens_self b.dialogue b.dialogue refl)
    go false i false j rest = let k = rest (grind (arith, h, i, j)) in (k.0, grind (arith, j, k.1), k.2)

pub softens_woken : (g : Dialogue) → Softens g (woken g)
unfolding woken
softens_woken g = record { units = refl; falls = λ h. h; holds = λ h. h }

softens_said : (e : Event) (q : ℕ) (a : Asked) → said_by e ≡ Some (q, a) → gives_to e q ≡ false → (g : Dialogue) → Softens g (said a g)
unfolding said
softens_said (Event.Do (Request.Grant n)) q a is none g = absurd (grind (arith, nat_tests, is, none))
softens_said (Event.Do (Request.HandshakeGrant n)) q a is none g = absurd (grind (arith, nat_tests, is, none))
softens_said (Event.Do (Request.UserData n xs)) q a is none g = record { units = grind (arith, is); falls = λ h. grind (arith, is, h); holds = λ h. grind (arith, is, h) }
softens_said (Event.Do (Request.UError n)) q a is none g = record { units = grind (arith, is); falls = λ h. grind (arith, is, h); holds = λ h. grind (arith, is, h) }
softens_said (Event.Do (Request.AskControl n)) q a is none g = record { units = grind (arith, is); falls = λ h. grind (arith, is, h); holds = λ h. grind (arith, is, h) }
softens_said (Event.Do (Request.Handshake n)) q a is none g = record { units = grind (arith, is); falls = λ h. grind (arith, is, h); holds = λ h. grind (arith, is, h) }
softens_said (Event.Do (Request.Respond n)) q a is none g = record { units = grind (arith, is); falls = λ h. grind (arith, is, h); holds = λ h. grind (arith, is, h) }
softens_said (Event.Do (Request.DeferEnd n)) q a is none g = record { units = grind (arith, is); falls = λ h. grind (arith, is, h); holds = λ h. grind (arith, is, h) }
softens_said (Event.Do (Request.DeferGrant n)) q a is none g = record { units = grind (arith, is); falls = λ h. grind (arith, is, h); holds = λ h. grind (arith, is, h) }
softens_said e q a is none g = absurd (cc (is))

softens_heard : (e : Event) (q : ℕ) (k : Heard) → heard_by e ≡ Some (q, k) → gains_at e q ≡ false → (g : Dialogue) → Softens g (heard k g)
unfolding heard
softens_heard (Event.Arrive from (PeerRecord.OnAssoc x y n DialogueRecord.Grant)) q k is none g = absurd (grind (arith, nat_tests, is, none))
softens_heard (Event.Arrive from (PeerRecord.OnAssoc x y n DialogueRecord.HandshakeGrant)) q k is none g = absurd (grind (arith, nat_tests, is, none))
softens_heard (Event.Arrive from (PeerRecord.OnAssoc x y n (DialogueRecord.UserData xs))) q k is none g = record { units = grind (arith, is); falls = λ h. grind (arith, is, h); holds = λ h. grind (arith, is, h) }
softens_heard (Event.Arrive from (PeerRecord.OnAssoc x y n DialogueRecord.UError)) q k is none g = record { units = grind (arith, is); falls = λ h. grind (arith, is, h); holds = λ h. grind (arith, is, h) }
softens_heard (Event.Arrive from (PeerRecord.OnAssoc x y n DialogueRecord.AskControl)) q k is none g = record { units = grind (arith, is); falls = λ h. grind (arith, is, h); holds = λ h. grind (arith, is, h) }
softens_heard (Event.Arrive from (PeerRecord.OnAssoc x y n DialogueRecord.Handshake)) q k is none g = record { units = grind (arith, is); falls = λ h. grind (arith, is, h); holds = λ h. grind (arith, is, h) }
softens_heard (Event.Arrive from (PeerRecord.OnAssoc x y n DialogueRecord.Response)) q k is none g = record { units = grind (arith, is); falls = λ h. grind (arith, is, h); holds = λ h. grind (arith, is, h) }
softens_heard (Event.Arrive from (PeerRecord.OnAssoc x y n DialogueRecord.DeferEnd)) q k is none g = record { units = grind (arith, is); falls = λ h. grind (arith, is, h); holds = λ h. grind (arith, is, h) }
softens_heard (Event.Arrive from (PeerRecord.OnAssoc x y n DialogueRecord.DeferGrant)) q k is none g = record { units = grind (arith, is); falls = λ h. grind (arith, is, h); holds = λ h. grind (arith, is, h) }
softens_heard e q k is none g = absurd (cc (is))

-- an event that neither gives control to the peer nor takes it from there, and is no answer
pub record IsCalm (who : Who) (e : Event) (s : Digest) (p : ℕ) : Type 0 where
  pub gives : gives_to e p ≡ false
  pub gains : gains_at e p ≡ false
  pub begins : (h : Holder) → begun_by_record e ≡ Some (p, h) → ⊥
  pub leaves : left_by e ≡ Some p → ⊥
  pub silent : (c : Current) (f : TxEvent) (arcs : List Arc) → s.current ≡ Some c → IsAsked e c f → answers f (seen who arcs c) p ≡ false
  pub below : is_superior s p ≡ false
  pub under : (c : Current) → s.current ≡ Some c → is_under_at c.key p ≡ false

softens_change : (who : Who) (e : Event) (s d : Digest) (q p : ℕ) (f : Dialogue → Dialogue) → IsCalm who e s p → (q == p) ≡ true → IsChange e d q f → (g : Dialogue) → Softens g (f g)
softens_change who e s d q p f calm same by g = go (subst (λ (n : ℕ). IsChange e d n f) eq by)
  where
    eq : q ≡ p
    eq = grind (arith, nat_tests, same)

    go : IsChange e d p f → Softens g (f g)
    go (By_waking w i) = subst (λ (k : Dialogue → Dialogue). Softens g (k g)) (sym i) (softens_woken g)
    go (By_saying a by i off) = subst (λ (k : Dialogue → Dialogue). Softens g (k g)) (sym i) (softens_said e p a by calm.gives g)
    go (By_hearing h by i off) = subst (λ (k : Dialogue → Dialogue). Softens g (k g)) (sym i) (softens_heard e p h by calm.gains g)
    go (By_beginning h by i) = absurd (calm.begins h by)
    go (By_leaving by i) = absurd (calm.leaves by)

-- ---- a transaction begins on an arc

free_found : (arcs : List Arc) (q : ℕ) (a : Arc) → are_separate arcs ≡ true → some_leads may_begin q arcs ≡ true → find_arc arcs q ≡ Some a → may_begin a ≡ true
free_found [] q a sep free h = absurd cc
free_found (b ∷ arcs) q a sep free h = go (b.peer.node == q) refl (free_found arcs q a)
  where
    none : (arcs : List Arc) → is_there q arcs ≡ false → some_leads may_begin q arcs ≡ false
    none [] i = refl
    none (b ∷ arcs) i = grind (arith, i, none arcs)

    go : (x : Bool) → (b.peer.node == q) ≡ x → (are_separate arcs ≡ true → some_leads may_begin q arcs ≡ true → find_arc arcs q ≡ Some a → may_begin a ≡ true) → may_begin a ≡ true
    go true i rest =
        let same : b.peer.node ≡ q = grind (arith, nat_tests, i) in
        let gone : is_there q arcs ≡ false = subst (λ (n : ℕ). is_there n arcs ≡ false) same (grind (arith, sep)) in
        let others : some_leads may_begin q arcs ≡ false = none arcs gone in
        let here : may_begin b ≡ true = grind (arith, free, others) in
        let is : Some b ≡ Some a = grind (arith, h, i) in
        let eq : b ≡ a = cc (is) in
        ap may_begin (sym eq) ∙ here
    go false i rest = rest (grind (arith, sep)) (grind (arith, free, i)) (grind (arith, h, i))

find_begun : (arcs : List Arc) (c : Current) (n : Child) (p : ℕ) → find_branch (branches_of ((seen_rows arcs c.branches) ++ fresh_rows (n ∷ []))) p ≡ elim (find_branch c.branches p) as (λ _. Option Branch) [ None ↦ if n.addr.node == p then Some (fresh_branch n) else None | Some b ↦ Some b ]
find_begun arcs c n p = go c.branches
  where
    go : (bs : List Branch) → find_branch (branches_of (seen_rows arcs bs ++ fresh_rows (n ∷ []))) p ≡ elim (find_branch bs p) as (λ _. Option Branch) [ None ↦ if n.addr.node == p then Some (fresh_branch n) else None | Some b ↦ Some b ]
    go [] = grind arith
    go (b ∷ bs) = grind (arith, go bs)

-- the branch of another peer stays
begun_other : (who : Who) (arcs : List Arc) (c : Current) (n : Child) (p : ℕ) (v : Bool) (f : Phase → Branch → Bool) → is_nil c.phase ≡ false → (n.addr.node == p) ≡ false → of_branch v f (remaining (transacted (TxEvent.Begun (n ∷ [])) (seen who arcs c)).next) p ≡ of_branch v f (Some c) p
begun_other who arcs c n p v f late other = go (find_branch c.branches p) refl
  where
    go : (o : Option Branch) → find_branch c.branches p ≡ o → of_branch v f (remaining (transacted (TxEvent.Begun (n ∷ [])) (seen who arcs c)).next) p ≡ of_branch v f (Some c) p
    go None i = let k : find_branch (branches_of (seen_rows arcs c.branches ++ fresh_rows (n ∷ []))) p ≡ None = find_begun arcs c n p ∙ rw i (rw other refl) in grind (arith, late, i, k)
    go (Some b) i = let k : find_branch (branches_of (seen_rows arcs c.branches ++ fresh_rows (n ∷ []))) p ≡ Some b = find_begun arcs c n p ∙ rw i refl in grind (arith, late, i, k)

begun_here : (who : Who) (arcs : List Arc) (c : Current) (n : Child) (p : ℕ) (v : Bool) (f : Phase → Branch → Bool) → is_nil c.phase ≡ false → (n.addr.node == p) ≡ true → find_branch c.branches p ≡ None
    → of_branch v f (remaining (transacted (TxEvent.Begun (n ∷ [])) (seen who arcs c)).next) p ≡ f c.phase (fresh_branch n)
begun_here who arcs c n p v f late here none = let k : find_branch (branches_of (seen_rows arcs c.branches ++ fresh_rows (n ∷ []))) p ≡ Some (fresh_branch n) = find_begun arcs c n p ∙ rw none (rw here refl) in grind (arith, late, k)

abbrev may_speak : Dialogue → Bool
may_speak g = is_chained g || not (lacks_control g)

no_branch : (who : Who) (d : Digest) (c : Current) (p : ℕ) → d.current ≡ Some c → (situation_at who d p).branch ≡ false → find_branch c.branches p ≡ None
unfolding situation_of
no_branch who d c p now h = go (find_branch c.branches p) refl
  where
    rows : (is_under_at c.key p || row_holds (seen_rows d.arcs c.branches) p (λ b. true)) ≡ false
    rows = rw (now, situation_at) at h

    seen_there : (bs : List Branch) (b : Branch) → find_branch bs p ≡ Some b → row_holds (seen_rows d.arcs bs) p (λ b. true) ≡ true
    seen_there [] b i = absurd (cc (i))
    seen_there (x ∷ bs) b i = grind (arith, i, seen_there bs b)

    go : (o : Option Branch) → find_branch c.branches p ≡ o → find_branch c.branches p ≡ None
    go None i = i
    go (Some b) i = let yes_there = seen_there c.branches b i in absurd (grind (arith, rows, yes_there))

settled_carries : (b : Bool) (p : ℕ) (k : Kept) (f : KeptEvent) → carried_to b p (settled k f).outs ≡ []
unfolding settled
settled_carries b p k (KeptEvent.Done a i r) = grind arith
settled_carries b p k KeptEvent.Forget = refl
settled_carries b p k KeptEvent.Purge = refl

-- the dialogue on which a transaction begins
begun_dialogue : (h : Holder) (arcs : List Arc) (q : ℕ) (a : Arc) (b : Arc) → find_arc arcs q ≡ Some a → find_arc (with_dialogue arcs q (begun_by h Side.Superior)) q ≡ Some b → b.dialogue ≡ begun_by h Side.Superior a.dialogue
begun_dialogue h [] q a b i j = absurd cc
begun_dialogue h (x ∷ arcs) q a b i j = go (x.peer.node == q) refl (begun_dialogue h arcs q a b)
  where
    go : (y : Bool) → (x.peer.node == q) ≡ y → (find_arc arcs q ≡ Some a → find_arc (with_dialogue arcs q (begun_by h Side.Superior)) q ≡ Some b → b.dialogue ≡ begun_by h Side.Superior a.dialogue) → b.dialogue ≡ begun_by h Side.Superior a.dialogue
    go true e rest =
        let one : Some x ≡ Some a = grind (arith, i, e) in
        let two : Some (record x { dialogue = begun_by h Side.Superior x.dialogue }) ≡ Some b = grind (arith, j, e) in
        let is : x ≡ a = cc (one) in
        let eq : record x { dialogue = begun_by h Side.Superior x.dialogue } ≡ b = cc (two) in
        ap (λ (y : Arc). y.dialogue) (sym eq) ∙ ap (λ (y : Arc). begun_by h Side.Superior y.dialogue) is
    go false e rest = rest (grind (arith, i, e)) (grind (arith, j, e))

-- control after a Begin that was sent
kept_begun : (g : Dialogue) (t : Aaid) (i : BranchId) (sent : List DialogueRecord) (k r : ℕ) → may_speak g ≡ true → IsKept g false (given k sent) r → IsKept (begun_by (named_holder g) Side.Superior g) true (given k (sent ++ DialogueRecord.Begin t i (named_holder g) ∷ [])) r
unfolding begun_by
kept_begun g t i sent k r free old = record { control = λ pol. control pol (named_holder g) refl; chained = λ x. absurd (cc (x)); whole = old.whole }
  where
    held : is_polarized g ≡ true → is_holding g ≡ true
    held pol = go (is_chained g) refl
      where
        go : (b : Bool) → is_chained g ≡ b → is_holding g ≡ true
        go true c = let h : g.holds ≡ true = old.chained refl pol c in rw h refl
        go false c = let h : g.holds ≡ true = grind (arith, free, pol, c) in rw h refl

    room : is_polarized g ≡ true → suc (given k sent) ≤ suc r
    room pol = let le : given k sent + 1 ≤ suc r = subst (λ (x : Bool). given k sent + (if x then 1 else 0) ≤ suc r) (held pol) (old.control pol) in omega (arith, le)

    control : is_polarized g ≡ true → (h : Holder) → named_holder g ≡ h
        → given k (sent ++ DialogueRecord.Begin t i (named_holder g) ∷ []) + (if is_holding (begun_by (named_holder g) Side.Superior g) then 1 else 0) ≤ suc r
    control pol h is = subst (λ (x : Holder). given k (sent ++ DialogueRecord.Begin t i x ∷ []) + (if is_holding (begun_by x Side.Superior g) then 1 else 0) ≤ suc r) (sym is) (at h is)
      where
        at : (h : Holder) → named_holder g ≡ h → given k (sent ++ DialogueRecord.Begin t i h ∷ []) + (if is_holding (begun_by h Side.Superior g) then 1 else 0) ≤ suc r
        at Holder.None e = absurd (grind (arith, e, pol))
        at Holder.Superior e =
            let same : given k (sent ++ DialogueRecord.Begin t i Holder.Superior ∷ []) ≡ given k sent = behind_quiet is_giving closes_down begun_behind false k sent (DialogueRecord.Begin t i Holder.Superior ∷ []) refl in
            let le = room pol in
            count (given k (sent ++ DialogueRecord.Begin t i Holder.Superior ∷ [])) (is_holding (begun_by Holder.Superior Side.Superior g)) same le
          where
            count : (n : ℕ) (x : Bool) → n ≡ given k sent → suc (given k sent) ≤ suc r → n + (if x then 1 else 0) ≤ suc r
            count n true e le = omega (arith, e, le)
            count n false e le = omega (arith, e, le)
        at Holder.Subordinate e =
            let more = behind_next is_giving closes_down begun_behind false k sent (DialogueRecord.Begin t i Holder.Subordinate) in
            let none : is_holding (begun_by Holder.Subordinate Side.Superior g) ≡ false = grind arith in
            let le = room pol in
            subst (λ (x : Bool). given k (sent ++ DialogueRecord.Begin t i Holder.Subordinate ∷ []) + (if x then 1 else 0) ≤ suc r) (sym none) (omega (arith, more, le))

begun_word : (sent : List DialogueRecord) (t : Aaid) (i : BranchId) (h : Holder) → (begun (sent ++ DialogueRecord.Begin t i h ∷ []) ≡ true) × (closed (sent ++ DialogueRecord.Begin t i h ∷ []) ≡ closed sent)
begun_word sent t i h =
    let sum = rounds_append closes_down begun_behind false sent (DialogueRecord.Begin t i h ∷ []) in
    let none : rounds closes_down begun_behind (begun sent) (DialogueRecord.Begin t i h ∷ []) ≡ 0 = grind arith in
    (flag_append begun_behind false sent (DialogueRecord.Begin t i h ∷ []) ∙ grind arith, omega (arith, sum, none))

led_begins : (who : Who) (p q : ℕ) (d : Digest) (sent : List DialogueRecord) (k r : ℕ) → some_leads may_begin q d.arcs ≡ true → are_separate d.arcs ≡ true → IsLed p d sent k r → is_live (link_with (begin_on who q d).next.arcs p) ≡ true
    → IsLed p (begin_on who q d).next (sent ++ said_to p (begin_on who q d).outs) k r
led_begins who p q d sent k r free sep old = begin_cases (λ (m : Move). is_live (link_with m.next.arcs p) ≡ true → IsLed p m.next (sent ++ said_to p m.outs) k r) who q d (λ live. still) on
  where
    still : IsLed p d (sent ++ []) k r
    still = subst (λ (xs : List DialogueRecord). IsLed p d xs k r) (sym (append-nil sent)) old

    on : (c : Current) (a : Arc) → d.current ≡ Some c → find_arc d.arcs q ≡ Some a → may_begin_on who d a ≡ true → is_live (link_with (begun_over who q d c a).next.arcs p) ≡ true
        → IsLed p (begun_over who q d c a).next (sent ++ said_to p (begun_over who q d c a).outs) k r
    on c a now found i live = at (q == p) refl
      where
        child : Child
        child = record { addr = a.peer; branch = record { superior = who.site; mark = next_mark who d } }

        word : DialogueRecord
        word = DialogueRecord.Begin (aaid_of c.key) (record { superior = who.site; mark = next_mark who d }) (named_holder a.dialogue)

        outs : List TxOut
        outs = TxOut.Carry q word ∷ []

        arcs : List Arc
        arcs = with_dialogue d.arcs q (begun_by (named_holder a.dialogue) Side.Superior)

        m : Move
        m = perform outs (record (with_begun who (with_mark_drawn d) c child) { arcs = arcs })

        node : a.peer.node ≡ q
        node = find_arc_is d.arcs q a found

        may : may_begin_on who d a ≡ true
        may = grind (arith, i)

        active : is_active c.phase ≡ true
        active = let h : is_active (phase_of d) ≡ true = grind (arith, may) in rw (now, phase_of) at h

        late : is_nil c.phase ≡ false
        late = grind (arith, active)

        said : said_to p m.outs ≡ carried_to (is_live (link_with arcs p)) p outs
        said = said_performed arcs outs p refl

        branches : (v : Bool) (f : Phase → Branch → Bool) → of_branch v f d.current p ≡ of_branch v f (Some c) p
        branches v f = ap (λ (o : Option Current). of_branch v f o p) now

        at : (x : Bool) → (q == p) ≡ x → IsLed p m.next (sent ++ said_to p m.outs) k r
        at false j = record {
          sound = other true is_sound ∙ old.sound;
          open_now = ap begun same ∙ old.open_now ∙ sym (other false opens);
          ahead = subst (λ (x : Bool). closed (sent ++ said_to p m.outs) ≤ k + (if x then 1 else 0)) (sym (other false lags)) (subst (λ (xs : List DialogueRecord). closed xs ≤ k + (if of_branch false lags d.current p then 1 else 0)) (sym same) old.ahead);
          quiet = λ has over. ap (λ (xs : List DialogueRecord). given (closed xs) xs) same ∙ old.quiet (sym (other false (λ h b. true)) ∙ has) (sym (ap begun same) ∙ over);
          kept = λ g there. keep g there;
        }
          where
            none : said_to p m.outs ≡ []
            none = said ∙ quiet (is_live (link_with arcs p))
              where
                quiet : (x : Bool) → carried_to x p outs ≡ []
                quiet x = grind (arith, j)

            same : sent ++ said_to p m.outs ≡ sent
            same = ap (λ (xs : List DialogueRecord). sent ++ xs) none ∙ append-nil sent

            away : (child.addr.node == p) ≡ false
            away = ap (λ (n : ℕ). n == p) node ∙ j

            other : (v : Bool) (f : Phase → Branch → Bool) → of_branch v f m.next.current p ≡ of_branch v f d.current p
            other v f = begun_other who d.arcs c child p v f late away ∙ sym (branches v f)

            keep : (g : Dialogue) → dialogue_at p m.next.arcs ≡ Some g → IsKept g (has_branch m.next.current p) (given k (sent ++ said_to p m.outs)) r
            keep g there =
                let b = found_of m.next.arcs p g there in
                let was = was_performed arcs outs p b.0 b.1 in
                let soft = softens_dialogue d.arcs q (begun_by (named_holder a.dialogue) Side.Superior) p (λ here x. absurd (cc (here, j))) was.arc was.found in
                let before = old.kept soft.0.dialogue (dialogue_is d.arcs p soft.0 soft.1) in
                let step : IsKept g (has_branch d.current p) (given k sent) r = kept_softens (has_branch d.current p) soft.0.dialogue g (given k sent) r (subst (λ (x : Dialogue). Softens soft.0.dialogue x) (sym was.dialogue ∙ b.2) soft.2) before in
                subst (λ (x : Bool). IsKept g x (given k (sent ++ said_to p m.outs)) r) (sym (other false (λ h b. true))) (subst (λ (xs : List DialogueRecord). IsKept g (has_branch d.current p) (given k xs) r) (sym same) step)
        at true j = record {
          sound = here true is_sound ∙ rw active refl;
          open_now = ap begun same ∙ (begun_word sent (aaid_of c.key) child.branch (named_holder a.dialogue)).0 ∙ sym (here false opens ∙ rw active refl);
          ahead = subst (λ (x : Bool). closed (sent ++ said_to p m.outs) ≤ k + (if x then 1 else 0)) (sym (here false lags ∙ fresh_lags c.phase refl)) (subst (λ (xs : List DialogueRecord). closed xs ≤ k + (if false then 1 else 0)) (sym same) room);
          quiet = λ has over. absurd (cc (over, ap begun same ∙ (begun_word sent (aaid_of c.key) child.branch (named_holder a.dialogue)).0));
          kept = λ g there. keep g there;
        }
          where
            eq : q ≡ p
            eq = grind (arith, nat_tests, j)

            bare : find_branch c.branches p ≡ None
            bare = subst (λ (n : ℕ). find_branch c.branches n ≡ None) (node ∙ eq) (no_branch who d c a.peer.node now (grind (arith, may)))

            none_of_it : (f : Phase → Branch → Bool) → of_branch false f d.current p ≡ false
            none_of_it f = branches false f ∙ bare_of f
              where
                bare_of : (f : Phase → Branch → Bool) → of_branch false f (Some c) p ≡ false
                bare_of f = grind (arith, bare)

            live_there : is_live (link_with arcs p) ≡ true
            live_there = back (is_live (link_with arcs p)) (agrees_performed arcs outs p refl).live
              where
                back : (x : Bool) → is_live (link_with m.next.arcs p) ≡ x → x ≡ true
                back x i = sym i ∙ live

            one : said_to p m.outs ≡ word ∷ []
            one = said ∙ ap (λ (x : Bool). carried_to x p outs) live_there ∙ rw (j, carried_to) refl

            same : sent ++ said_to p m.outs ≡ sent ++ word ∷ []
            same = ap (λ (xs : List DialogueRecord). sent ++ xs) one

            here_node : (child.addr.node == p) ≡ true
            here_node = ap (λ (n : ℕ). n == p) node ∙ j

            here : (v : Bool) (f : Phase → Branch → Bool) → of_branch v f m.next.current p ≡ f c.phase (fresh_branch child)
            here v f = begun_here who d.arcs c child p v f late here_node bare

            fresh_lags : (h : Phase) → is_active h ≡ is_active c.phase → lags h (fresh_branch child) ≡ false
            fresh_lags h e = grind (arith, e, active)

            room : closed (sent ++ word ∷ []) ≤ k + (if false then 1 else 0)
            room =
                let le : closed sent ≤ k + (if false then 1 else 0) = subst (λ (x : Bool). closed sent ≤ k + (if x then 1 else 0)) (none_of_it lags) old.ahead in
                let w : closed (sent ++ word ∷ []) ≡ closed sent = (begun_word sent (aaid_of c.key) child.branch (named_holder a.dialogue)).1 in
                omega (arith, le, w)

            keep : (g : Dialogue) → dialogue_at p m.next.arcs ≡ Some g → IsKept g (has_branch m.next.current p) (given k (sent ++ said_to p m.outs)) r
            keep g there =
                let b = found_of m.next.arcs p g there in
                let was = was_performed arcs outs p b.0 b.1 in
                let found_q : find_arc arcs q ≡ Some was.arc = ap (λ (n : ℕ). find_arc arcs n) eq ∙ was.found in
                let is : was.arc.dialogue ≡ begun_by (named_holder a.dialogue) Side.Superior a.dialogue = begun_dialogue (named_holder a.dialogue) d.arcs q a was.arc found found_q in
                let mine : dialogue_at p d.arcs ≡ Some a.dialogue = dialogue_is d.arcs p a (ap (λ (n : ℕ). find_arc d.arcs n) (sym eq) ∙ found) in
                let before : IsKept a.dialogue false (given k sent) r = subst (λ (x : Bool). IsKept a.dialogue x (given k sent) r) (none_of_it (λ h b. true)) (old.kept a.dialogue mine) in
                let speak : may_speak a.dialogue ≡ true = free_found d.arcs q a sep free found in
                let after : IsKept (begun_by (named_holder a.dialogue) Side.Superior a.dialogue) true (given k (sent ++ word ∷ [])) r = kept_begun a.dialogue (aaid_of c.key) child.branch sent k r speak before in
                let to_g : begun_by (named_holder a.dialogue) Side.Superior a.dialogue ≡ g = sym is ∙ sym was.dialogue ∙ b.2 in
                subst (λ (x : Bool). IsKept g x (given k (sent ++ said_to p m.outs)) r) (sym (here false (λ h b. true)))
                (subst (λ (xs : List DialogueRecord). IsKept g true (given k xs) r) (sym same) (subst (λ (x : Dialogue). IsKept x true (given k (sent ++ word ∷ [])) r) to_g after))

-- ---- the steps

abbrev pub Led : ℕ → Digest → Move → Type 0
Led p d m = (sent : List DialogueRecord) (k r : ℕ) → IsLed p d sent k r → is_live (link_with m.next.arcs p) ≡ true → IsLed p m.next (sent ++ said_to p m.outs) k r

-- a transaction of its own: no branch yet
led_root : (p : ℕ) (d : Digest) (t : Aaid) (sent : List DialogueRecord) (k r : ℕ) → is_nil (phase_of d) ≡ true → IsLed p d sent k r → IsLed p (record (with_mark_drawn d) { current = Some (fresh_current (Root t)) }) sent k r
led_root p d t sent k r nil old = record {
  sound = refl;
  open_now = old.open_now ∙ none false opens;
  ahead = subst (λ (x : Bool). closed sent ≤ k + (if x then 1 else 0)) (none false lags) old.ahead;
  quiet = λ has over. absurd (cc (has));
  kept = λ g at. subst (λ (x : Bool). IsKept g x (given k sent) r) (none false (λ h b. true)) (old.kept g at);
}
  where
    none : (v : Bool) (f : Phase → Branch → Bool) → of_branch v f d.current p ≡ v
    none v f = go d.current refl
      where
        go : (o : Option Current) → d.current ≡ o → of_branch v f d.current p ≡ v
        go None i = ap (λ (x : Option Current). of_branch v f x p) i
        go (Some c) i = let z : is_nil c.phase ≡ true = rw (i, phase_of) at nil in ap (λ (x : Option Current). of_branch v f x p) i ∙ rw (z, of_branch) refl

led_moves : (who : Who) (e : Event) (s : Digest) (p : ℕ) (sup fall : Bool) (shut : ℕ) → IsCalm who e s p → Moves who e s (λ d m. Thins d.arcs m.next.arcs)
    → Moves who e s (λ d m. d.superior ≡ s.superior → (is_live (link_with d.arcs p) ≡ true → is_live (link_with s.arcs p) ≡ true) → IsHeard p sup fall shut s d m)
    → Moves who e s (λ d m. d.superior ≡ s.superior → (is_live (link_with d.arcs p) ≡ true → is_live (link_with s.arcs p) ≡ true) → IsHeard p sup fall shut s d m × Thins d.arcs m.next.arcs × (are_separate d.arcs ≡ true → Led p d m))
led_moves who e s p sup fall shut calm th h = record {
  still = λ d up lives. (h.still d up lives, th.still d, λ sep sent k r old live. subst (λ (xs : List DialogueRecord). IsLed p d xs k r) (sym (append-nil sent)) old);
  chain = λ d a f one two quiet up lives.
      let x = one up lives in
      let y = two (x.0.superior ∙ up) (λ l. lives (x.0.back l)) in (
        h.chain d a f (λ u l. x.0) (λ u l. y.0) quiet up lives,
        th.chain d a f x.1 y.1 quiet,
        λ sep sent k r old live.
            let words : said_to p (followed a f).outs ≡ said_to p a.outs ++ said_to p (f a.next).outs = said_append p a.outs (f a.next).outs in
            let first = x.2 sep sent k r old (y.0.back live) in
            let second = y.2 (x.1.apart sep) (sent ++ said_to p a.outs) k r first live in
            subst (λ (xs : List DialogueRecord). IsLed p (f a.next).next xs k r) (append_assoc sent (said_to p a.outs) (said_to p (f a.next).outs) ∙ ap (λ (xs : List DialogueRecord). sent ++ xs) (sym words)) second,
      );
  speaks = λ d outs spoken own said up lives. (
    h.speaks d outs spoken own said up lives,
    th.speaks d outs spoken own said,
    λ sep sent k r old live.
        led_inert p d (perform outs d).next sent (said_to p (perform outs d).outs) k r refl (ap (none_of is_leading_word) (said_performed d.arcs outs p (apart_spoken outs spoken)) ∙ inert_said e (is_live (link_with d.arcs p)) p outs calm.gives said spoken)
        (λ b found. was_soft d.arcs p b (was_performed d.arcs outs p b found)) old,
  );
  changes_dialogue = λ d q f m by one up lives.
      let same : link_with (with_dialogue d.arcs q f) p ≡ link_with d.arcs p = link_dialogue d.arcs q f p in
      let x = one up (λ l. lives (ap is_live (sym same) ∙ l)) in (
        h.changes_dialogue d q f m by (λ u l. x.0) up lives,
        th.changes_dialogue d q f m by x.1,
        λ sep sent k r old live.
            x.2 ((thins_dialogue d.arcs q f).apart sep) sent k r (led_mute p d (record d { arcs = with_dialogue d.arcs q f }) sent k r refl (softens_dialogue d.arcs q f p (λ here g. softens_change who e s d q p f calm here by g)) old) live,
      );
  drops_arc = λ d q m at one up lives.
      let x = one up (λ l. lives (dropped_live d.arcs q p l)) in (
        h.drops_arc d q m at (λ u l. x.0) up lives,
        th.drops_arc d q m at x.1,
        λ sep sent k r old live.
            x.2 ((thins_without d.arcs q).apart sep) sent k r (led_mute p d (record d { arcs = without_arc d.arcs q }) sent k r refl (λ b found. (b, found_without d.arcs q p b found, softens_self b.dialogue b.dialogue refl)) old) live,
      );
  notes_kept = λ d ks m held one up lives.
      let x = one up lives in
      (h.notes_kept d ks m held (λ u l. x.0) up lives, th.notes_kept d ks m held x.1, λ sep sent k r old live. x.2 sep sent k r (led_mute p d (record d { kept = ks }) sent k r refl (λ b found. (b, found, softens_self b.dialogue b.dialogue refl)) old) live);
  keeps = λ d j f held up lives. (
    h.keeps d j f held up lives,
    th.keeps d j f held,
    λ sep sent k r old live.
        led_inert p d (keep (settled j f) d).next sent (said_to p (keep (settled j f) d).outs) k r refl (ap (none_of is_leading_word) (said_performed d.arcs (settled j f).outs p (apart_spoken (settled j f).outs (settled_spoken j f))) ∙ ap (none_of is_leading_word) (settled_carries (is_live (link_with d.arcs p)) p j f))
        (λ b found. was_soft d.arcs p b (was_performed d.arcs (settled j f).outs p b found)) old,
  );
  turns = λ d c f now at asked put gone up lives.
      let x = h.turns d c f now at asked put gone up lives in (
        x,
        th.turns d c f now at asked put gone,
        λ sep sent k r old live.
            led_turned who f d c p sent k r now put (calm.under c at) (below_there d up) sep gone (λ answers_so. absurd (cc (answers_so, calm.silent c f d.arcs at asked))) old live,
      );
  begins = λ d q free up lives. (h.begins d q free up lives, th.begins d q free, λ sep sent k r old live. led_begins who p q d sent k r free sep old live);
  roots = λ d m nil may one up lives.
      let x = one up lives in
      (h.roots d m nil may (λ u l. x.0) up lives, th.roots d m nil may x.1, λ sep sent k r old live. x.2 sep sent k r (led_root p d _ sent k r nil old) live);
}
  where
    below_there : (d : Digest) → d.superior ≡ s.superior → is_superior d p ≡ false
    below_there d up = ap (λ (o : Option Addr). elim o [ None ↦ false | Some a ↦ a.node == p ]) up ∙ calm.below

-- every accepted event that is calm, from its prelude on
pub led_event : (who : Who) (d : Digest) (e : Event) (p : ℕ) (sup fall : Bool) (shut : ℕ) → IsLate d → refusal who d e ≡ None → Reads who e p sup fall shut (prelude who d e) → IsCalm who e (prelude who d e) p → are_separate (prelude who d e).arcs ≡ true
    → Led p (prelude who d e) (action who d e)
led_event who d e p sup fall shut late ok reads calm sep =
    (every_move who d e (λ g m. g.superior ≡ (prelude who d e).superior → (is_live (link_with g.arcs p) ≡ true → is_live (link_with (prelude who d e).arcs p) ≡ true) → IsHeard p sup fall shut (prelude who d e) g m × Thins g.arcs m.next.arcs × (are_separate g.arcs ≡ true → Led p g m))
    (led_moves who e (prelude who d e) p sup fall shut calm (thins_moves who e (prelude who d e)) (heard_moves who e (prelude who d e) p sup fall shut reads)) late ok refl (λ h. h)).2 sep

-- a transaction that starts by itself
pub led_start : (who : Who) (d : Digest) (p : ℕ) (sup fall : Bool) (shut : ℕ) → Reads who Event.Retry p sup fall shut d → IsCalm who Event.Retry d p → are_separate d.arcs ≡ true
    → (is_live (link_with (try_start who d).next.arcs p) ≡ true → is_live (link_with d.arcs p) ≡ true) × Led p d (try_start who d)
led_start who d p sup fall shut reads calm sep =
    let all =
    every_start who Event.Retry d (λ g m. g.superior ≡ d.superior → (is_live (link_with g.arcs p) ≡ true → is_live (link_with d.arcs p) ≡ true) → IsHeard p sup fall shut d g m × Thins g.arcs m.next.arcs × (are_separate g.arcs ≡ true → Led p g m))
    (led_moves who Event.Retry d p sup fall shut calm (thins_moves who Event.Retry d) (heard_moves who Event.Retry d p sup fall shut reads)) d refl (λ h. h) in
    (all.0.back, all.2 sep)
