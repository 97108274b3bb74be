-- Members 1 and 2, and a store over a disk that does not fail, have one answer to what they are told.
use Rattle.std.proofs.Common.{◌≡◌, ◌≢◌, ◌⊎◌, inl, inr, ◌<◌, ℕ, zero, suc, Option, Some, None, List, [], ◌∷◌, ◌++◌, get_or, length, map, refl, sym, ap, subst, ◌∙◌, arith}
use Rattle.std.specs.List.{AllByRecursion}
use Rattle.tp_outside.specs.Faults.{HasRisen}
use Rattle.tp_records.specs.declared.indication.Indication.{Indication}
use Rattle.tp_records.specs.declared.request.Request.{Request}
use Rattle.tp_records.specs.Answers.{Answer, AreWith, answer_with}
use Rattle.tp_bound.specs.declared.store.Store.{Store}
use Rattle.tp_bound.specs.declared.body.Body.{Body}
use Rattle.tp_bound.specs.Bodies.{body_bytes}
use Rattle.tp_bound.specs.Bounds.{Standing}
use Rattle.tp_bound.specs.Gathered.{Gathered}
use Rattle.tp_bound.specs.Stores.{with_body}
use Rattle.tp_bound.specs.Told.{Wish, Answers, Adds, wish}
use Rattle.tp_bound.specs.Says.{CanSay, Fails, Goes, IsShutBy, Says, Speaker, Speaks, gathered, speaker}
use Rattle.tp_world_members.specs.Members.{may, slot_at}
use Rattle.tp_replay.specs.declared.participant.Participant.{Participant}
use Rattle.tp_replay.specs.declared.voter.Voter.{Voter}
use Rattle.tp_replay.specs.Certain.{AreCertain, IsWell, NeverFails}
use Rattle.tp_replay.specs.Participants.{may_answer, numbered, unwilling, willing}
use Rattle.tp_replay.specs.Transcribing.{may_of}
use Rattle.tp_replay.specs.Voters.{may_vote}

-- what one member may answer has one answer
abbrev IsCertain : (List Answer → Type 0) → Type 0
IsCertain allowed = (before : List Answer) (a b : Answer) (xs ys : List Answer) → allowed (before ++ a ∷ xs) → allowed (before ++ b ∷ ys) → a.node ≡ b.node → a.indication ≡ b.indication → a.request ≡ b.request

-- ---- a store

-- two stores that say the same, and are open
record IsLike (s t : Speaker) : Type 0 where
  node : s.node ≡ t.node
  store : s.store ≡ t.store
  current : s.current ≡ t.current
  gate : s.gate ≡ t.gate
  unshut : s.shut ≡ None
  unshut_too : t.shut ≡ None

module _ {D : Type 0} (faults : D → ℕ) (never : NeverFails faults) where
  -- the disk has not failed
  not_failed : (old new : Speaker) (c d : D) → old.shut ≡ None → Fails old new → IsShutBy faults old c new d → ⊥
  not_failed old new c d unshut fails shut = never c d (shut unshut fails.shut.0 fails.shut.1)

  same_store : (x y : Store) → Some x ≡ Some y → x ≡ y
  same_store x y same = cc

  goes_alike : (body : Body) (current : Option Gathered) (s t p q : Speaker) → IsLike s t → Goes body current s p → Goes body current t q → IsLike p q
  goes_alike body current s t p q like a b = record {
    node = a.bound_to ∙ like.node ∙ sym b.bound_to;
    store = same_store p.store q.store (sym a.store ∙ ap (λ (n : ℕ). with_body n (length (body_bytes body)) body s.store) like.gate ∙ ap (with_body t.gate (length (body_bytes body)) body) like.store ∙ b.store);
    current = a.current_is ∙ sym b.current_is;
    gate = omega (arith, a.gate, b.gate, like.gate);
    unshut = a.open_after;
    unshut_too = b.open_after;
  }

  speaks_alike : (w : Wish) (s t p q : Speaker) (c d e f : D) (x y : Option Request) → IsLike s t → Speaks w s x p → Speaks w t y q → IsShutBy faults s c p d → IsShutBy faults t e q f → (x ≡ y) × IsLike p q
  speaks_alike (Answers answer current) s t p q c d e f x y like a b shut shut_too = (
    a.0 ∙ sym b.0,
    record {
      node = ap (λ (z : Speaker). z.node) a.1 ∙ like.node ∙ sym (ap (λ (z : Speaker). z.node) b.1);
      store = ap (λ (z : Speaker). z.store) a.1 ∙ like.store ∙ sym (ap (λ (z : Speaker). z.store) b.1);
      current = ap (λ (z : Speaker). z.current) a.1 ∙ sym (ap (λ (z : Speaker). z.current) b.1);
      gate = ap (λ (z : Speaker). z.gate) a.1 ∙ like.gate ∙ sym (ap (λ (z : Speaker). z.gate) b.1);
      unshut = ap (λ (z : Speaker). z.shut) a.1 ∙ like.unshut;
      unshut_too = ap (λ (z : Speaker). z.shut) b.1 ∙ like.unshut_too;
    },
  )
  speaks_alike (Adds body added not_added current) s t p q c d e f x y like (inl a) (inl b) shut shut_too = (a.0 ∙ sym b.0, goes_alike body current s t p q like a.1 b.1)
  speaks_alike (Adds body added not_added current) s t p q c d e f x y like (inr a) b shut shut_too = absurd (not_failed s p c d like.unshut a.1 shut)
  speaks_alike (Adds body added not_added current) s t p q c d e f x y like (inl a) (inr b) shut shut_too = absurd (not_failed t q e f like.unshut_too b.1 shut_too)

  same_wish : (s t : Speaker) (i j : Indication) → IsLike s t → i ≡ j → wish t.store t.current t.gate j ≡ wish s.store s.current s.gate i
  same_wish s t i j like same =
      ap (λ (x : Store). wish x t.current t.gate j) (sym like.store) ∙ ap (λ (x : Option Gathered). wish s.store x t.gate j) (sym like.current) ∙ ap (λ (n : ℕ). wish s.store s.current n j) (sym like.gate) ∙ ap (wish s.store s.current s.gate) (sym same)

  says_alike : (s t p q : Speaker) (c d e f : D) (a b : Answer) → IsLike s t → a.node ≡ b.node → a.indication ≡ b.indication → Says s a p → Says t b q → IsShutBy faults s c p d → IsShutBy faults t e q f → (a.request ≡ b.request) × IsLike p q
  says_alike s t p q c d e f a b like node ind (inl x) (inl y) shut shut_too =
      speaks_alike (wish s.store s.current s.gate a.indication) s t p q c d e f a.request b.request like x.1 (subst (λ (w : Wish). Speaks w t b.request q) (same_wish s t a.indication b.indication like ind) y.1) shut shut_too
  says_alike s t p q c d e f a b like node ind (inl x) (inr y) shut shut_too = absurd (y.0 (sym node ∙ x.0 ∙ like.node))
  says_alike s t p q c d e f a b like node ind (inr x) (inl y) shut shut_too = absurd (x.0 (node ∙ y.0 ∙ sym like.node))
  says_alike s t p q c d e f a b like node ind (inr x) (inr y) shut shut_too =
      (x.1 ∙ sym y.1, subst (λ (z : Speaker). IsLike z q) (sym x.2) (subst (λ (z : Speaker). IsLike s z) (sym y.2) like))

  stores_certain : (before : List Answer) (s t : Speaker) (c d : D) (a b : Answer) (xs ys : List Answer) → IsLike s t → CanSay faults c s (before ++ a ∷ xs) → CanSay faults d t (before ++ b ∷ ys) → a.node ≡ b.node → a.indication ≡ b.indication → a.request ≡ b.request
  stores_certain [] s t c d a b xs ys like (p, e, says, shut, rest) (q, f, says_too, shut_too, rest_too) node ind = (says_alike s t p q c e d f a b like node ind says says_too shut shut_too).0
  stores_certain (x ∷ before) s t c d a b xs ys like (p, e, says, shut, rest) (q, f, says_too, shut_too, rest_too) node ind =
      stores_certain before p q e f a b xs ys (says_alike s t p q c e d f x x like refl refl says says_too shut shut_too).1 rest rest_too node ind

  store_certain : (b : Standing D) → b.shut ≡ None → IsCertain (CanSay faults b.disk (speaker b))
  store_certain b unshut before x y xs ys h k node ind =
      stores_certain before (speaker b) (speaker b) b.disk b.disk x y xs ys (record { node = refl; store = refl; current = refl; gate = refl; unshut = unshut; unshut_too = unshut }) h k node ind

  -- ---- those that always vote alike

  vote_is : (vote : Request) (before : List Answer) (a : Answer) (xs : List Answer) → AreWith vote (before ++ a ∷ xs) → a.request ≡ answer_with vote a.indication
  vote_is vote [] a xs h = h.0
  vote_is vote (x ∷ before) a xs h = vote_is vote before a xs h.1

  vote_certain : (vote : Request) → IsCertain (AreWith vote)
  vote_certain vote before a b xs ys h k node ind = vote_is vote before a xs h ∙ ap (answer_with vote) ind ∙ sym (vote_is vote before b ys k)

  -- ---- all of them

  abbrev Certain : Participant D → Type 0
  Certain m = IsCertain (may_answer faults m)

  none_certain : {A : Type 0} (before : List Answer) (a : Answer) (xs : List Answer) → before ++ a ∷ xs ≡ [] → A
  none_certain [] a xs is = absurd cc
  none_certain (x ∷ before) a xs is = absurd cc

  slots_certain : (ms : List (Participant D)) → AllByRecursion Certain ms → (i : ℕ) → IsCertain (may (may_answer faults) (get_or (map (λ m. Some m) ms) i None))
  slots_certain [] all i before a b xs ys h k node ind = none_certain before a xs h
  slots_certain (m ∷ ms) all zero before a b xs ys (inl h) k node ind = none_certain before a xs h
  slots_certain (m ∷ ms) all zero before a b xs ys (inr h) (inl k) node ind = none_certain before b ys k
  slots_certain (m ∷ ms) all zero before a b xs ys (inr h) (inr k) node ind = all.0 before a b xs ys h k node ind
  slots_certain (m ∷ ms) all (suc i) before a b xs ys h k node ind = slots_certain ms all.1 i before a b xs ys h k node ind

  all_certain : (ms : List (Participant D)) → AllByRecursion Certain ms → AreCertain (may_of (may_answer faults) ms)
  all_certain ms all zero before a b xs ys h k node ind = none_certain before a xs h
  all_certain ms all (suc i) before a b xs ys h k node ind = slots_certain ms all i before a b xs ys h k node ind

  pub numbered_certain : (store : Option (Standing D)) → IsWell store → AreCertain (may_of (may_answer faults) (numbered store))
  numbered_certain None well = all_certain (numbered None) (vote_certain Request.Commit, (vote_certain Request.Rollback, tt))
  numbered_certain (Some b) well = all_certain (numbered (Some b)) (vote_certain Request.Commit, (vote_certain Request.Rollback, (store_certain b well, tt)))
