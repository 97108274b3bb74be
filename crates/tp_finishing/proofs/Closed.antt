-- A world that is over has no open tree: a node whose tree is current no more left it, logged its commitment or rolled back.
use Rattle.std.proofs.Common.{if◌then◌else◌, ◌≡◌, ◌≢◌, inl, inr, Bool, true, false, refl, ap, sym, ◌∙◌, arith, Option, Some, None, List, [], ◌∷◌, ◌&&◌, ◌||◌, not}
use Rattle.std.proofs.lemmas.Bool.{or_left, or_right}
use Rattle.tp_names.specs.declared.identifiers.Aaid.{Aaid}
use Rattle.tp_names.specs.declared.identifiers.Addr.{Addr}
use Rattle.tp_names.specs.declared.outcome.Outcome.{Outcome}
use Rattle.tp_names.specs.Same.{is_aaid}
use Rattle.tp_model.specs.declared.arc.Phase.{Phase}
use Rattle.tp_model.specs.declared.out_line.OutLine.{OutLine}
use Rattle.tp_model.specs.Parts.{Origin, Entry, Current, Digest}
use Rattle.tp_model.specs.Dialogues.{is_nil, is_active, is_ready, is_committing, is_rolling}
use Rattle.tp_model.specs.Transactions.{aaid_of}
use Rattle.tp_model.specs.History.{digest, records}
use Rattle.tp_model.specs.Outcomes.{is_now, is_member, is_unchanged, has_left, decided, decision, rolled, told}
use Rattle.tp_model.specs.Legal.{IsLegal}
use Rattle.tp_model.specs.World.{Node, number_of}
use Rattle.tp_model.specs.Trees.{stays, is_told, some_told, all_told, deciders, members_of, agreed_line, closing_line}
use Rattle.tp_model.specs.Happenings.{Happening, run}
use Rattle.tp_model.specs.Promises.{IsOf, told_of}
use Rattle.tp_steps.proofs.lemmas.Equality.{or_case}
use Rattle.tp_steps.proofs.lemmas.Words.{commit_more}
use Rattle.tp_steps.proofs.words.Treed.{now_some}
use Rattle.tp_steps.proofs.branches.Rolls.{phase_at}
use Rattle.tp_histories.specs.Members.{IsOnce}
use Rattle.tp_histories.specs.Fates.{IsFated}
use Rattle.tp_histories.proofs.trees.Late.{late_law}
use Rattle.tp_histories.proofs.trees.Fated.{fated_law}
use Rattle.tp_histories.proofs.worlds.Good.{good_run}
use Rattle.tp_histories.proofs.worlds.Starts.{all_legal}
use Rattle.tp_histories.proofs.worlds.Unique.{unique_run}
use Rattle.tp_runs.specs.RolledSeen.{is_rolling_at, is_open_at, goes_on, rolls_seen, rolled_seen}
use Rattle.tp_runs.proofs.KnownForgot.{before_it}
use Rattle.tp_runs.proofs.SeenRolled.{rolled_seen_law}
use Rattle.tp_agreement.proofs.Mixed.{Stands, member_of}
use Rattle.tp_finishing.specs.Finishing.{IsOver, OverIsClosed}

-- ---- what became of a tree at one of its nodes

data Fate (o : Origin) (h : List Entry) (t : Aaid) : Type 0 where
  Goes_on : is_now t (digest o h).current ≡ true → Fate o h t
  Was_left : has_left o t h ≡ true → Fate o h t
  Was_committed : decided o t h ≡ true → Fate o h t
  Rolled_back : rolled o t h ≡ true → Fate o h t

goes_off : (t : Aaid) (v n : Option Current) → is_now t n ≡ false → goes_on t v n ≡ false
goes_off t None n h = refl
goes_off t (Some c) None h = refl
goes_off t (Some c) (Some u) h = rw h refl

-- it was active or ready, and is current no more: it left, or rolled back
open_ends : (o : Origin) (up : Option Addr) (e : Entry) (h : List Entry) (t : Aaid) → o.start.records ≡ [] → IsLegal o up (e ∷ h) → is_now t (digest o h).current ≡ true → is_open_at t (digest o h).current ≡ true
    → is_now t (digest o (e ∷ h)).current ≡ false → Fate o (e ∷ h) t
open_ends o up e h t empty legal now opened gone = go (is_unchanged e.event) refl
  where
    next : Option Current
    next = (digest o (e ∷ h)).current

    go : (b : Bool) → is_unchanged e.event ≡ b → Fate o (e ∷ h) t
    go true i = Was_left (rw (now, i) refl)
    go false i =
        let off : goes_on t (digest o h).current next ≡ false = goes_off t (digest o h).current next gone in
        let over : (is_open_at t (digest o h).current && not (goes_on t (digest o h).current next) && not (is_unchanged e.event)) ≡ true = rw (opened, off, i) refl in
        Rolled_back (sym (rolled_seen_law o up t (e ∷ h) legal empty) ∙ or_left (rolls_seen t (digest o h).current (is_unchanged e.event) next) (rolled_seen o t h) (or_right (is_rolling_at t next) _ over))

fate_step : (o : Origin) (up : Option Addr) (e : Entry) (h : List Entry) (t : Aaid) → o.start.records ≡ [] → IsLegal o up (e ∷ h) → IsOnce o (e ∷ h) → Fate o h t → Fate o (e ∷ h) t
fate_step o up e h t empty legal once (Was_left l) = Was_left (rw l (grind arith))
fate_step o up e h t empty legal once (Was_committed c) = Was_committed (commit_more t e.rec (records o h) c)
fate_step o up e h t empty legal once (Rolled_back r) = Rolled_back (rw r (grind arith))
fate_step o up e h t empty legal once (Goes_on n) = go (is_now t (digest o (e ∷ h)).current) refl
  where
    d : Digest
    d = digest o h

    c : (u : Current) × (d.current ≡ Some u) × (is_aaid t (aaid_of u.key) ≡ true)
    c = now_some t d.current n

    fated : IsFated o h t
    fated = fated_law o up h t empty legal.grown.3 once.1

    still_open : (p : Phase) → c.0.phase ≡ p → (is_active p || is_ready p) ≡ true → is_open_at t d.current ≡ true
    still_open p i f = ap (is_open_at t) c.1 ∙ rw (c.2, i) f

    by : (p : Phase) → c.0.phase ≡ p → is_now t (digest o (e ∷ h)).current ≡ false → Fate o (e ∷ h) t
    by Phase.Nil i gone = absurd (let off : is_nil c.0.phase ≡ true = ap is_nil i in let on = late_law o up h legal.grown.3 c.0 c.1 in cc (off, on))
    by Phase.Active i gone = open_ends o up e h t empty legal n (still_open Phase.Active i refl) gone
    by Phase.Ready i gone = open_ends o up e h t empty legal n (still_open Phase.Ready i refl) gone
    by Phase.Committing i gone = Was_committed (commit_more t e.rec (records o h) (fated.committing n (ap is_committing (phase_at d c.0 c.1 ∙ i))))
    by Phase.Rolling i gone = Rolled_back (let r = fated.rolling n (ap is_rolling (phase_at d c.0 c.1 ∙ i)) in rw r (grind arith))

    go : (b : Bool) → is_now t (digest o (e ∷ h)).current ≡ b → Fate o (e ∷ h) t
    go true i = Goes_on i
    go false i = by c.0.phase refl i

fate_law : (o : Origin) (up : Option Addr) (h : List Entry) (t : Aaid) → o.start.records ≡ [] → IsLegal o up h → IsOnce o h → is_member o t h ≡ true → Fate o h t
fate_law o up [] t empty legal once m = Goes_on m
fate_law o up (e ∷ h) t empty legal once m = elim (or_case (is_now t (digest o (e ∷ h)).current) (is_member o t h) m) [
  | inl i ↦ Goes_on i
  | inr i ↦ fate_step o up e h t empty legal once (fate_law o up h t empty (before_it o up e h legal) once.1 i)
]

-- ---- the closing line

abbrev is_outcome : Option Outcome → Bool
is_outcome None = false
is_outcome (Some u) = true

-- it left, or its user was told an outcome
abbrev IsEnded : Aaid → Node → Type 0
IsEnded t x = (not (stays t x) || is_outcome (told_of t x)) ≡ true

told_some : (o : Origin) (h : List Entry) (t : Aaid) → (decided o t h || rolled o t h) ≡ true → is_outcome (told o t h) ≡ true
told_some o h t k = go (decision o t h) (decided o t h) (rolled o t h) k
  where
    go : (v : Option Outcome) (a b : Bool) → (a || b) ≡ true → is_outcome (elim v as (λ _. Option Outcome) [ Some u ↦ Some u | None ↦ if a then Some Outcome.Commit else if b then Some Outcome.Rollback else None ]) ≡ true
    go (Some u) a b i = refl
    go None true b i = refl
    go None false true i = refl
    go None false false i = absurd (cc (i))

all_but : (t : Aaid) (ns : List Node) → ((x : Node) → Stands x ns → IsEnded t x) → some_told Outcome.Rollback t ns ≡ false → all_told Outcome.Commit t ns ≡ true
all_but t [] each none = refl
all_but t (x ∷ ns) each none = go (stays t x) (told_of t x) (each x (inl refl)) none (all_but t ns (λ y s. each y (inr s)))
  where
    go : (v : Bool) (u : Option Outcome) → (not v || is_outcome u) ≡ true → ((v && is_told Outcome.Rollback u) || some_told Outcome.Rollback t ns) ≡ false → (some_told Outcome.Rollback t ns ≡ false → all_told Outcome.Commit t ns ≡ true)
        → ((not v || is_told Outcome.Commit u) && all_told Outcome.Commit t ns) ≡ true
    go false u i j rest = rest j
    go true None i j rest = absurd (cc (i))
    go true (Some Outcome.Commit) i j rest = rest j
    go true (Some Outcome.Rollback) i j rest = absurd (cc (j))

all_rolled : (t : Aaid) (ns : List Node) → ((x : Node) → Stands x ns → IsEnded t x) → some_told Outcome.Commit t ns ≡ false → all_told Outcome.Rollback t ns ≡ true
all_rolled t [] each none = refl
all_rolled t (x ∷ ns) each none = go (stays t x) (told_of t x) (each x (inl refl)) none (all_rolled t ns (λ y s. each y (inr s)))
  where
    go : (v : Bool) (u : Option Outcome) → (not v || is_outcome u) ≡ true → ((v && is_told Outcome.Commit u) || some_told Outcome.Commit t ns) ≡ false → (some_told Outcome.Commit t ns ≡ false → all_told Outcome.Rollback t ns ≡ true)
        → ((not v || is_told Outcome.Rollback u) && all_told Outcome.Rollback t ns) ≡ true
    go false u i j rest = rest j
    go true None i j rest = absurd (cc (i))
    go true (Some Outcome.Commit) i j rest = absurd (cc (j))
    go true (Some Outcome.Rollback) i j rest = rest j

closes : (t : Aaid) (ns : List Node) → ((x : Node) → Stands x ns → IsEnded t x) → closing_line t ns ≢ OutLine.Open t
closes t ns each = go (some_told Outcome.Commit t ns) refl (some_told Outcome.Rollback t ns) refl
  where
    agreed : (a b : Bool) → (a || b) ≡ true → elim a as (λ _. OutLine) [ true ↦ OutLine.Agreed t Outcome.Commit | false ↦ elim b as (λ _. OutLine) [ true ↦ OutLine.Agreed t Outcome.Rollback | false ↦ OutLine.Open t ] ] ≢ OutLine.Open t
    agreed true b i = λ k. cc (k)
    agreed false true i = λ k. cc (k)
    agreed false false i = absurd (cc (i))

    go : (a : Bool) → some_told Outcome.Commit t ns ≡ a → (b : Bool) → some_told Outcome.Rollback t ns ≡ b → elim (a && b) as (λ _. OutLine) [ true ↦ OutLine.Mixed t (deciders t ns) | false ↦ agreed_line t ns ] ≢ OutLine.Open t
    go true i true j = λ k. cc (k)
    go true i false j = let all = all_but t ns each j in agreed (all_told Outcome.Commit t ns) (all_told Outcome.Rollback t ns) (or_left (all_told Outcome.Commit t ns) _ all)
    go false i b j = let all = all_rolled t ns each i in agreed (all_told Outcome.Commit t ns) (all_told Outcome.Rollback t ns) (or_right (all_told Outcome.Commit t ns) _ all)

-- ---- every run

ended : (es : List Happening) (t : Aaid) (x : Node) → IsOver (run es) → IsOf (run es) t x → IsEnded t x
ended es t x over of = by (fate_law x.origin x.superior x.history t ((good_run es).fresh (number_of x) x of.here) legal ((unique_run es).once (number_of x) x of.here) of.of_tree)
  where
    legal : IsLegal x.origin x.superior x.history
    legal = all_legal es x of.here

    by : Fate x.origin x.history t → (not (stays t x) || is_outcome (told_of t x)) ≡ true
    by (Goes_on n) = absurd (let none : is_now t (digest x.origin x.history).current ≡ false = ap (is_now t) (over x of.here).current in cc (n, none))
    by (Was_left l) = rw l (grind arith)
    by (Was_committed c) = or_right (not (stays t x)) (is_outcome (told_of t x)) (told_some x.origin x.history t (or_left (decided x.origin t x.history) (rolled x.origin t x.history) c))
    by (Rolled_back r) = or_right (not (stays t x)) (is_outcome (told_of t x)) (told_some x.origin x.history t (or_right (decided x.origin t x.history) (rolled x.origin t x.history) r))

pub over_is_closed : OverIsClosed
over_is_closed es over t = closes t (members_of t (run es).nodes) (λ x s. ended es t x over (member_of es t x s))
