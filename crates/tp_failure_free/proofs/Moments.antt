-- The moments of a history: an entry with what stood after it; what was known, said and taken by then.
use Rattle.std.proofs.Common.{◌≡◌, ◌⊎◌, inl, inr, ℕ, Bool, true, refl, ap, sym, subst, ◌∙◌, arith, Option, Some, List, [], ◌∷◌, ◌++◌, ◌&&◌, append_assoc, slice_get}
use Rattle.std.proofs.lemmas.List.{append-nil}
use Rattle.tp_names.specs.declared.identifiers.Mark.{Mark}
use Rattle.tp_names.specs.declared.identifiers.Aaid.{Aaid}
use Rattle.tp_names.specs.declared.identifiers.Addr.{Addr}
use Rattle.tp_records.specs.declared.dialogue.DialogueRecord.{DialogueRecord}
use Rattle.tp_records.specs.declared.peer.PeerRecord.{PeerRecord}
use Rattle.tp_model.specs.Parts.{Origin, Event, Out, Entry, Current}
use Rattle.tp_model.specs.History.{digest}
use Rattle.tp_model.specs.Outcomes.{is_now}
use Rattle.tp_model.specs.Questions.{has_said, heard_from, is_record}
use Rattle.tp_model.specs.Promises.{has_told_in}
use Rattle.tp_model.specs.Legal.{IsGrown}
use Rattle.tp_steps.specs.Traces.{sent_of, took_of}
use Rattle.tp_histories.specs.Traces.{sent_on, accepted_on}
use Rattle.tp_steps.specs.Facts.{BranchKey, begun_keys}
use Rattle.tp_histories.specs.Members.{is_known, IsOnce}
use Rattle.tp_failure_free.specs.Drained.{took_in}
use Rattle.tp_steps.proofs.lemmas.Equality.{or_case, and_left, and_right}
use Rattle.tp_steps.proofs.lemmas.Words.{keys_append}
use Rattle.tp_steps.proofs.lemmas.Folds.{key_before}
use Rattle.tp_histories.proofs.trees.Knowing.{known_more}
use Rattle.tp_histories.proofs.worlds.TreeMembers.{now_then}
use Rattle.tp_agreement.proofs.AccountSteps.{took_here, took_case}

-- the entry e came when the history was b
abbrev pub IsMoment : Entry → List Entry → List Entry → Type 0
IsMoment e b [] = ⊥
IsMoment e b (f ∷ h) = (f ≡ e) × (h ≡ b) ⊎ IsMoment e b h

cons_same : (e f : Entry) (b h : List Entry) → f ≡ e → h ≡ b → f ∷ h ≡ e ∷ b
cons_same e f b h i j = rw (i, j) refl

-- what holds of a history and of each that it grew from
pub moment_of : (P : List Entry → Type 0) → ((f : Entry) (h : List Entry) → P (f ∷ h) → P h) → (e : Entry) (b h : List Entry) → IsMoment e b h → P h → P (e ∷ b)
moment_of P tail e b [] m p = absurd m
moment_of P tail e b (f ∷ h) (inl m) p = subst P (cons_same e f b h m.0 m.1) p
moment_of P tail e b (f ∷ h) (inr m) p = moment_of P tail e b h m (tail f h p)

pub moment_legal : (o : Origin) (up : Option Addr) (e : Entry) (b h : List Entry) → IsMoment e b h → IsGrown o up h → IsGrown o up (e ∷ b)
moment_legal o up e b h m legal = moment_of (IsGrown o up) (λ f g p. p.3) e b h m legal

pub moment_once : (o : Origin) (e : Entry) (b h : List Entry) → IsMoment e b h → IsOnce o h → IsOnce o (e ∷ b)
moment_once o e b h m once = moment_of (IsOnce o) (λ f g p. p.1) e b h m once

-- what was known then is known, and a tree that was known then and is current was current then
pub known_since : (o : Origin) (up : Option Addr) (t : Aaid) (e : Entry) (b h : List Entry) → IsGrown o up h → IsMoment e b h → is_known o t b ≡ true → is_known o t h ≡ true
known_since o up t e b [] legal m k = absurd m
known_since o up t e b (f ∷ h) legal (inl m) k = known_more o up f h t legal (subst (λ (l : List Entry). is_known o t l ≡ true) (sym m.1) k)
known_since o up t e b (f ∷ h) legal (inr m) k = known_more o up f h t legal (known_since o up t e b h legal.3 m k)

pub now_since : (o : Origin) (up : Option Addr) (t : Aaid) (e : Entry) (b h : List Entry) → o.start.records ≡ [] → IsGrown o up h → IsOnce o h → IsMoment e b h → is_known o t b ≡ true → is_now t (digest o h).current ≡ true
    → is_now t (digest o b).current ≡ true
now_since o up t e b [] empty legal once m k n = absurd m
now_since o up t e b (f ∷ h) empty legal once (inl m) k n =
    subst (λ (l : List Entry). is_now t (digest o l).current ≡ true) m.1 (now_then o up f h t empty legal once (subst (λ (l : List Entry). is_known o t l ≡ true) (sym m.1) k) n)
now_since o up t e b (f ∷ h) empty legal once (inr m) k n =
    now_since o up t e b h empty legal.3 once.1 m k (now_then o up f h t empty legal once (known_since o up t e b h legal.3 m k) n)

-- ---- what the history grew by

pub grown_since : (g : List Entry → List DialogueRecord) (k : Entry → List DialogueRecord) → ((f : Entry) (h : List Entry) → g (f ∷ h) ≡ g h ++ k f) → (e : Entry) (b h : List Entry) → IsMoment e b h
    → (more : List DialogueRecord) × (g h ≡ g (e ∷ b) ++ more)
grown_since g k step e b [] m = absurd m
grown_since g k step e b (f ∷ h) (inl m) = ([], ap g (cons_same e f b h m.0 m.1) ∙ sym (append-nil (g (e ∷ b))))
grown_since g k step e b (f ∷ h) (inr m) =
    let r = grown_since g k step e b h m in
    (r.0 ++ k f, step f h ∙ ap (λ (xs : List DialogueRecord). xs ++ k f) r.1 ∙ append_assoc (g (e ∷ b)) r.0 (k f))

pub sent_since : (x y : Mark) (p : ℕ) (e : Entry) (b h : List Entry) → IsMoment e b h → (more : List DialogueRecord) × (sent_on x y p h ≡ sent_on x y p (e ∷ b) ++ more)
sent_since x y p e b h m = grown_since (sent_on x y p) (λ f. sent_of x y p f.outs) (λ f g. refl) e b h m

pub taken_since : (x y : Mark) (p : ℕ) (e : Entry) (b h : List Entry) → IsMoment e b h → (more : List DialogueRecord) × (accepted_on x y p h ≡ accepted_on x y p (e ∷ b) ++ more)
taken_since x y p e b h m = grown_since (accepted_on x y p) (λ f. took_of x y p f.event) (λ f g. refl) e b h m

-- a key that stands among the Begins stays there
pub key_stays : (xs ys more : List DialogueRecord) (n : ℕ) (j : BranchKey) → ys ≡ xs ++ more → slice_get (begun_keys xs) n ≡ Some j → slice_get (begun_keys ys) n ≡ Some j
key_stays xs ys more n j is at = ap (λ (ws : List DialogueRecord). slice_get (begun_keys ws) n) is ∙ ap (λ (ks : List BranchKey). slice_get ks n) (keys_append xs more) ∙ key_before (begun_keys xs) (begun_keys more) n j at

-- ---- the moment at which a word was taken

snoc_split : (xs : List DialogueRecord) (r : DialogueRecord) (before : List DialogueRecord) (w : DialogueRecord) (rest : List DialogueRecord) → xs ++ r ∷ [] ≡ before ++ w ∷ rest
    → (xs ≡ before) × (r ≡ w) ⊎ (less : List DialogueRecord) × (xs ≡ before ++ w ∷ less)
snoc_split [] r [] w rest h = inl (refl, cc (h))
snoc_split (x ∷ xs) r [] w rest h = let same : x ≡ w = cc (h) in inr (xs, rw same refl)
snoc_split [] r (c ∷ before) w rest h = absurd (none before (cc (h)))
  where
    none : (ys : List DialogueRecord) → [] ≡ ys ++ w ∷ rest → ⊥
    none [] i = cc (i)
    none (y ∷ ys) i = cc (i)
snoc_split (x ∷ xs) r (c ∷ before) w rest h =
    let same : x ≡ c = cc (h) in
    let tail : xs ++ r ∷ [] ≡ before ++ w ∷ rest = cc (h) in
    elim (snoc_split xs r before w rest tail) [ inl i ↦ inl (rw (same, i.0) refl, i.1) | inr i ↦ inr (i.0, rw (same, i.1) refl) ]

pub record TakenThen (h : List Entry) (x y : Mark) (p : ℕ) (before : List DialogueRecord) (w : DialogueRecord) : Type 0 where
  pub entry : Entry
  pub behind : List Entry
  pub moment : IsMoment entry behind h
  pub from : Addr
  pub seq : ℕ
  pub is : entry.event ≡ Event.Arrive from (PeerRecord.OnAssoc x y seq w)
  pub at : from.node ≡ p
  pub taken : accepted_on x y p behind ≡ before

pub taken_then : (h : List Entry) (x y : Mark) (p : ℕ) (before : List DialogueRecord) (w : DialogueRecord) (rest : List DialogueRecord) → accepted_on x y p h ≡ before ++ w ∷ rest → TakenThen h x y p before w
taken_then [] x y p [] w rest i = absurd (cc (i))
taken_then [] x y p (c ∷ before) w rest i = absurd (cc (i))
taken_then (e ∷ h) x y p before w rest i = go (took_case e.event p x y) (taken_then h x y p before w)
  where
    later : TakenThen h x y p before w → TakenThen (e ∷ h) x y p before w
    later k = record { entry = k.entry; behind = k.behind; moment = inr k.moment; from = k.from; seq = k.seq; is = k.is; at = k.at; taken = k.taken }

    go : (took_of x y p e.event ≡ []) ⊎ (a : Addr) × (q : ℕ) × (r : DialogueRecord) × (e.event ≡ Event.Arrive a (PeerRecord.OnAssoc x y q r)) × (a.node ≡ p)
        → ((less : List DialogueRecord) → accepted_on x y p h ≡ before ++ w ∷ less → TakenThen h x y p before w) → TakenThen (e ∷ h) x y p before w
    go (inl none) old = later (old rest (sym (ap (λ (rs : List DialogueRecord). accepted_on x y p h ++ rs) none ∙ append-nil (accepted_on x y p h)) ∙ i))
    go (inr k) old =
        let one : took_of x y p e.event ≡ k.2 ∷ [] = took_here p e.event k.0 x y k.1 k.2 k.3 k.4 in
        elim (snoc_split (accepted_on x y p h) k.2 before w rest (sym (ap (λ (rs : List DialogueRecord). accepted_on x y p h ++ rs) one) ∙ i)) [
          | inl j ↦
              record {
                entry = e;
                behind = h;
                moment = inl (refl, refl);
                from = k.0;
                seq = k.1;
                is = k.3 ∙ ap (λ (r : DialogueRecord). Event.Arrive k.0 (PeerRecord.OnAssoc x y k.1 r)) j.1;
                at = k.4;
                taken = j.0;
              }
          | inr j ↦ later (old j.0 j.1)
        ]

-- it was taken in such a transaction
pub took_then : (g : Current → Bool) (f : DialogueRecord → Bool) (o : Origin) (p : ℕ) (e : Entry) (b h : List Entry) → IsMoment e b h → (c : Current) → (digest o b).current ≡ Some c → g c ≡ true → is_record f (heard_from p e.event) ≡ true
    → took_in g f o p h ≡ true
took_then g f o p e b [] m c now is kind = absurd m
took_then g f o p e b (v ∷ h) (inl m) c now is kind =
    let at : (digest o h).current ≡ Some c = ap (λ (l : List Entry). (digest o l).current) m.1 ∙ now in
    let word : is_record f (heard_from p v.event) ≡ true = ap (λ (u : Entry). is_record f (heard_from p u.event)) m.0 ∙ kind in
    rw (at, is, word) refl
took_then g f o p e b (v ∷ h) (inr m) c now is kind = let rest = took_then g f o p e b h m c now is kind in rw rest (grind arith)

-- ---- the moment at which something was said

pub record ToldThen (test : List Out → Bool) (o : Origin) (t : Aaid) (h : List Entry) : Type 0 where
  pub entry : Entry
  pub behind : List Entry
  pub moment : IsMoment entry behind h
  pub now : is_now t (digest o behind).current ≡ true
  pub tells : test entry.outs ≡ true

pub told_then : (test : List Out → Bool) (o : Origin) (t : Aaid) (h : List Entry) → has_told_in test o t h ≡ true → ToldThen test o t h
told_then test o t [] k = absurd (cc (k))
told_then test o t (e ∷ h) k = elim (or_case (is_now t (digest o h).current && test e.outs) (has_told_in test o t h) k) [
  | inl i ↦ record { entry = e; behind = h; moment = inl (refl, refl); now = and_left (is_now t (digest o h).current) (test e.outs) i; tells = and_right (is_now t (digest o h).current) (test e.outs) i }
  | inr i ↦ (let r = told_then test o t h i in record { entry = r.entry; behind = r.behind; moment = inr r.moment; now = r.now; tells = r.tells })
]

pub record Said (f : DialogueRecord → Bool) (rs : List DialogueRecord) : Type 0 where
  pub before : List DialogueRecord
  pub word : DialogueRecord
  pub rest : List DialogueRecord
  pub is : rs ≡ before ++ word ∷ rest
  pub kind : f word ≡ true

pub said_word : (f : DialogueRecord → Bool) (rs : List DialogueRecord) → has_said f rs ≡ true → Said f rs
said_word f [] h = absurd (cc (h))
said_word f (r ∷ rs) h = elim (or_case (f r) (has_said f rs) h) [
  | inl i ↦ record { before = []; word = r; rest = rs; is = refl; kind = i }
  | inr i ↦ (let k = said_word f rs i in record { before = r ∷ k.before; word = k.word; rest = k.rest; is = ap (λ (xs : List DialogueRecord). r ∷ xs) k.is; kind = k.kind })
]
