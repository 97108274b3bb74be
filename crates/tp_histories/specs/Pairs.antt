-- What a legal history says and takes on each pair of marks, counted: to which transaction a record without a key belongs.
use Rattle.std.specs.Prelude.{ℕ, ◌+◌, ◌≡◌, true, Option, None, List, length}
use Rattle.tp_names.specs.declared.identifiers.Mark.{Mark}
use Rattle.tp_names.specs.declared.identifiers.Addr.{Addr}
use Rattle.tp_model.specs.Parts.{Origin, Entry, Opening, Live}
use Rattle.tp_model.specs.Arcs.{link_with}
use Rattle.tp_model.specs.History.{digest, records}
use Rattle.tp_model.specs.Outcomes.{rolled}
use Rattle.tp_model.specs.Questions.{is_at}
use Rattle.tp_histories.specs.Traces.{sent_on, accepted_on}
use Rattle.tp_steps.specs.Facts.{is_order, is_rollback, ends_in, begun_keys, last_from, each_under, each_vote, is_voted, is_ordered, is_rolled, under_at, key_at, HasPlaceAt, KnowsAt}

pub record IsPaired (o : Origin) (up : Option Addr) (h : List Entry) : Type 0 where
  -- as a subordinate: each Begin that was taken but the current one has ended, and the current one stands after those
  pub balance : (p : ℕ) (x y : Mark) (s k : ℕ) → link_with (digest o h).arcs p ≡ Live x y s k
      → length (begun_keys (accepted_on x y p h)) ≡ ends_in (sent_on x y p h) + under_at (digest o h).current p
  pub places : (p : ℕ) (x y : Mark) (s k : ℕ) → link_with (digest o h).arcs p ≡ Live x y s k
      → HasPlaceAt (begun_keys (accepted_on x y p h)) (ends_in (sent_on x y p h)) (digest o h).current p
  -- as a superior: a branch's key is that of the last Begin; a peer that is asked for is no branch
  pub rows : (p : ℕ) (x y : Mark) (s k : ℕ) → link_with (digest o h).arcs p ≡ Live x y s k → KnowsAt (last_from None (sent_on x y p h)) (digest o h).current p
  pub closed : (p : ℕ) (x : Mark) → link_with (digest o h).arcs p ≡ Opening x → key_at (digest o h).current p ≡ None
  pub upward : (p : ℕ) (x y : Mark) → is_at up p ≡ true → last_from None (sent_on x y p h) ≡ None
  -- what was sent, on each pair
  pub orders : (p : ℕ) (x y : Mark) → each_under is_order (is_ordered (records o h)) None (sent_on x y p h) ≡ true
  pub votes : (p : ℕ) (x y : Mark) → each_vote (is_voted (begun_keys (accepted_on x y p h)) (records o h)) 0 (sent_on x y p h) ≡ true
  pub rollbacks : (p : ℕ) (x y : Mark) → each_under is_rollback (is_rolled (λ t. rolled o t h)) None (sent_on x y p h) ≡ true
