-- The kept transactions are what the records of the history give: an instance of the steps of a node.
use Rattle.std.proofs.Common.{◌≡◌, ◌⊎◌, inl, inr, ℕ, Bool, true, false, refl, ap, sym, ◌∙◌, arith, Option, Some, None, List, [], ◌∷◌, ◌++◌, reverse}
use Rattle.std.proofs.lemmas.List.{reverse-append, reverse-reverse}
use Rattle.tp_names.specs.declared.identifiers.NodeKey.{NodeKey}
use Rattle.tp_names.specs.declared.identifiers.Addr.{Addr}
use Rattle.tp_names.specs.Same.{is_key}
use Rattle.tp_records.specs.declared.dialogue.DialogueRecord.{DialogueRecord}
use Rattle.tp_records.specs.declared.peer.PeerRecord.{PeerRecord}
use Rattle.tp_logrec.specs.declared.record.LogRec.{LogRec}
use Rattle.tp_model.specs.declared.recovery.Kept.{Kept}
use Rattle.tp_model.specs.Parts.{Who, Origin, Start, Event, Entry, Arc, Digest}
use Rattle.tp_model.specs.Arcs.{find_arc}
use Rattle.tp_model.specs.Recovery.{settled, put_kept, without_kept, kept_by, kept_after, not_forgotten}
use Rattle.tp_model.specs.Node.{Move, followed, begin_on}
use Rattle.tp_model.specs.Events.{action, after_crash, kept_from, started}
use Rattle.tp_model.specs.History.{digest, with_rec, records, again, crashed}
use Rattle.tp_model.specs.Legal.{IsGrown}
use Rattle.tp_steps.specs.Moves.{Moves, prelude, begun_in, counted_in}
use Rattle.tp_steps.proofs.every.EveryEvent.{every_move}
use Rattle.tp_histories.proofs.trees.Late.{late_law}
use Rattle.tp_steps.proofs.every.BeginCases.{begin_cases}
use Rattle.tp_steps.proofs.lemmas.KeptList.{same_rest}

-- ---- what is noted of a kept transaction is no matter of its records

put_unnoted : (ks : List Kept) (k : Kept) → not_forgotten (put_kept ks (record k { forgot = false })) ≡ put_kept (not_forgotten ks) (record k { forgot = false })
put_unnoted [] k = refl
put_unnoted (x ∷ xs) k = go (is_key x.key k.key) refl (put_unnoted xs k)
  where
    go : (b : Bool) → is_key x.key k.key ≡ b → not_forgotten (put_kept xs (record k { forgot = false })) ≡ put_kept (not_forgotten xs) (record k { forgot = false })
        → not_forgotten (put_kept (x ∷ xs) (record k { forgot = false })) ≡ put_kept (not_forgotten (x ∷ xs)) (record k { forgot = false })
    go true h rest = rw (h, put_kept) refl
    go false h rest = rw (h, put_kept) (same_rest _ _ _ rest)

without_unnoted : (ks : List Kept) (k : NodeKey) → not_forgotten (without_kept ks k) ≡ without_kept (not_forgotten ks) k
without_unnoted [] k = refl
without_unnoted (x ∷ xs) k = go (is_key x.key k) refl (without_unnoted xs k)
  where
    go : (b : Bool) → is_key x.key k ≡ b → not_forgotten (without_kept xs k) ≡ without_kept (not_forgotten xs) k
        → not_forgotten (without_kept (x ∷ xs) k) ≡ without_kept (not_forgotten (x ∷ xs)) k
    go true h rest = rw (h, without_kept) refl
    go false h rest = rw (h, without_kept) (same_rest _ _ _ rest)

pub by_unnoted : (r : LogRec) (ks : List Kept) → not_forgotten (kept_by r ks) ≡ kept_by r (not_forgotten ks)
unfolding kept_by
by_unnoted (LogRec.Damage n k s o r cs) ks = put_unnoted ks (record { node = n; key = k; superior = s; side = o; report = r; owed = cs; forgot = false })
by_unnoted (LogRec.End n k o) ks = without_unnoted ks k
by_unnoted _ ks = refl

pub after_unnoted : (o : Option LogRec) (ks : List Kept) → not_forgotten (kept_after o ks) ≡ kept_after o (not_forgotten ks)
after_unnoted None ks = refl
after_unnoted (Some r) ks = by_unnoted r ks

twice_unnoted : (ks : List Kept) → not_forgotten (not_forgotten ks) ≡ not_forgotten ks
twice_unnoted [] = refl
twice_unnoted (k ∷ ks) = same_rest _ _ _ (twice_unnoted ks)

pub from_unnoted : (ks : List Kept) (rs : List LogRec) → not_forgotten (kept_from ks rs) ≡ kept_from (not_forgotten ks) rs
from_unnoted ks [] = refl
from_unnoted ks (r ∷ rs) = from_unnoted (kept_by r ks) rs ∙ ap (λ (x : List Kept). kept_from x rs) (by_unnoted r ks)

-- ---- folds over records

from_last : (ks : List Kept) (rs : List LogRec) (r : LogRec) → kept_from ks (rs ++ r ∷ []) ≡ kept_by r (kept_from ks rs)
from_last ks [] r = refl
from_last ks (x ∷ rs) r = from_last (kept_by x ks) rs r

pub from_newest : (o : Option LogRec) (rs : List LogRec) → kept_from [] (reverse (with_rec o rs)) ≡ kept_after o (kept_from [] (reverse rs))
from_newest None rs = refl
from_newest (Some r) rs = ap (kept_from []) (reverse-append (r ∷ []) rs) ∙ from_last [] (reverse rs) r

-- ---- one event

abbrev pub IsKeptMove : Digest → Move → Type 0
IsKeptMove d m = (not_forgotten m.next.kept ≡ kept_after m.rec (not_forgotten d.kept)) × (m.next.version ≡ d.version)

kept_then : (d : Digest) (a : Move) (f : Digest → Move) → IsKeptMove d a → IsKeptMove a.next (f a.next) → (a.rec ≡ None) ⊎ ((f a.next).rec ≡ None) → IsKeptMove d (followed a f)
kept_then d a f one two quiet = (two.0 ∙ ap (kept_after (f a.next).rec) one.0 ∙ which a.rec (f a.next).rec quiet, two.1 ∙ one.1)
  where
    which : (x y : Option LogRec) → (x ≡ None) ⊎ (y ≡ None) → kept_after y (kept_after x (not_forgotten d.kept)) ≡ kept_after (elim y as (λ _. Option LogRec) [ None ↦ x | Some r ↦ Some r ]) (not_forgotten d.kept)
    which x None q = refl
    which None (Some r) q = refl
    which (Some s) (Some r) (inl i) = absurd (cc (i))
    which (Some s) (Some r) (inr i) = absurd (cc (i))

kept_begins : (who : Who) (q : ℕ) (d : Digest) → IsKeptMove d (begin_on who q d)
kept_begins who q d = begin_cases (IsKeptMove d) who q d (refl, refl) (λ c a now found may. (refl, refl))

pub kept_moves : (who : Who) (e : Event) (s : Digest) → Moves who e s IsKeptMove
kept_moves who e s = record {
  still = λ d. (refl, refl);
  chain = λ d a f one two quiet. kept_then d a f one two quiet;
  speaks = λ d outs h own said. (refl, refl);
  changes_dialogue = λ d p f m by one. one;
  drops_arc = λ d p m at one. one;
  notes_kept = λ d ks m held one. (one.0 ∙ ap (kept_after m.rec) held.1, one.1);
  keeps = λ d k f held. (after_unnoted (settled k f).rec d.kept, refl);
  turns = λ d c f now at asked put gone. (after_unnoted _ d.kept, refl);
  begins = λ d p free. kept_begins who p d;
  roots = λ d m nil may one. one;
}

pub kept_prelude : (who : Who) (d : Digest) (e : Event) → (not_forgotten (prelude who d e).kept ≡ not_forgotten d.kept) × ((prelude who d e).version ≡ d.version)
unfolding after_crash
kept_prelude who d (Event.Do r) = (grind arith, grind arith)
kept_prelude who d (Event.Arrive from (PeerRecord.OnAssoc x y q (DialogueRecord.Begin t b k))) = go (find_arc d.arcs from.node)
  where
    go : (o : Option Arc) → (not_forgotten (begun_in o t b (counted_in d from)).kept ≡ not_forgotten d.kept) × ((begun_in o t b (counted_in d from)).version ≡ d.version)
    go None = (refl, refl)
    go (Some a) = (refl, refl)
kept_prelude who d (Event.Arrive from r) = (grind arith, grind arith)
kept_prelude who d Event.Crash = (twice_unnoted d.kept, refl)
kept_prelude who d _ = (refl, refl)

-- ---- every legal history

start_kept : (s : Start) → not_forgotten (started s).kept ≡ (started s).kept
unfolding started
start_kept s = from_unnoted [] s.records

first_kept : (s : Start) → ((started s).kept ≡ kept_from [] s.records) × ((started s).version ≡ s.version)
unfolding started
first_kept s = (refl, refl)

pub kept_law : (o : Origin) (up : Option Addr) (h : List Entry) → IsGrown o up h → (kept_from [] (reverse (records o h)) ≡ not_forgotten (digest o h).kept) × ((digest o h).version ≡ o.start.version)
kept_law o up [] legal =
    (ap (kept_from []) (reverse-reverse o.start.records) ∙ sym (first_kept o.start).0 ∙ sym (start_kept o.start), (first_kept o.start).1)
kept_law o up (e ∷ h) legal =
    let d : Digest = digest o h in
    let before = kept_law o up h legal.3 in
    let made : (action o.who d e.event).rec ≡ e.rec = ap (λ (x : Entry). x.rec) legal.1 in
    let moved : IsKeptMove (prelude o.who d e.event) (action o.who d e.event) = every_move o.who d e.event IsKeptMove (kept_moves o.who e.event (prelude o.who d e.event)) (late_law o up h legal.3) legal.0 in
    let first = kept_prelude o.who d e.event in
    (from_newest e.rec (records o h) ∙ ap (kept_after e.rec) (before.0 ∙ sym first.0) ∙ ap (λ (x : Option LogRec). kept_after x (not_forgotten (prelude o.who d e.event).kept)) (sym made) ∙ sym moved.0, moved.1 ∙ first.1 ∙ before.1)

-- a start on the records, and a crash
pub restart_kept : (o : Origin) (up : Option Addr) (h : List Entry) → IsGrown o up h → ((digest (again o h) []).kept ≡ (digest o (crashed h)).kept) × ((digest (again o h) []).version ≡ (digest o (crashed h)).version)
unfolding started after_crash
restart_kept o up h legal = let k = kept_law o up h legal in (k.0, sym k.1)

pub restart_boot : (o : Origin) (h : List Entry) → (digest (again o h) []).boot ≡ (digest o (crashed h)).boot
unfolding started after_crash
restart_boot o h = refl
