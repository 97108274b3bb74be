-- The key of the current transaction, and whose order commits it: an instance of the steps of a node.
use Rattle.std.proofs.Common.{◌≡◌, ◌⊎◌, inl, inr, ℕ, Bool, true, false, refl, ap, sym, ◌∙◌, arith, Option, Some, None, [], ◌∷◌}
use Rattle.tp_logrec.specs.declared.record.LogRec.{LogRec}
use Rattle.tp_model.specs.declared.transaction.TxEvent.{TxEvent}
use Rattle.tp_model.specs.declared.recovery.Kept.{Kept}
use Rattle.tp_model.specs.declared.recovery.KeptEvent.{KeptEvent}
use Rattle.tp_model.specs.Parts.{Who, Event, Arc, Root, Current, Digest}
use Rattle.tp_model.specs.Dialogues.{is_nil}
use Rattle.tp_model.specs.Arcs.{find_arc}
use Rattle.tp_model.specs.Transactions.{Transaction, is_under, transacted}
use Rattle.tp_model.specs.Recovery.{settled}
use Rattle.tp_model.specs.Node.{Move, move, followed, perform, next_mark, with_mark_drawn, seen, remaining, fresh_current, may_begin_on, begin_on, keep}
use Rattle.tp_model.specs.Node.{turned}
use Rattle.tp_steps.specs.Moves.{Moves, IsAsked, IsPut}
use Rattle.tp_steps.specs.Passages.{is_commit_rec, IsPassed}
use Rattle.tp_steps.specs.Keyed.{HasKeyFrom, IsOrdered, IsKeyedMove}
use Rattle.tp_steps.proofs.log.Passed.{passed_turn}
use Rattle.tp_steps.proofs.every.BeginCases.{begun_over, begin_cases}

left_key : (t : Transaction) (u : Current) → remaining t ≡ Some u → u.key ≡ t.key
left_key t u i = go (is_nil t.phase) refl
  where
    go : (b : Bool) → is_nil t.phase ≡ b → u.key ≡ t.key
    go true j = let no : None ≡ Some u = rw (j, remaining) at i in absurd (cc (no))
    go false j = grind (arith, i, j)

-- what is current stays, and nothing is committed
keyed_hush : (who : Who) (e : Event) (s d : Digest) (m : Move) → m.next.current ≡ d.current → is_commit_rec m.rec ≡ false → IsKeyedMove who e s d m
keyed_hush who e s d m same none = record {
  keys = λ u i. inl (u, sym same ∙ i, refl);
  orders = λ h. absurd (cc (none, h));
}

keyed_turned : (who : Who) (e : Event) (f : TxEvent) (s d : Digest) (c : Current) → d.current ≡ Some c → s.current ≡ Some c → IsAsked e c f → IsPut f (seen who d.arcs c) → IsKeyedMove who e s d (turned who f d c)
keyed_turned who e f s d c now at asked put = record {
  keys = λ u i. inl (c, now, left_key (transacted f (seen who d.arcs c)).next u i ∙ passed.key);
  orders = λ h. (c, at, λ u. (f, d.arcs, asked, passed.orders h u));
}
  where
    passed : IsPassed f (seen who d.arcs c) (seen who d.arcs c) (transacted f (seen who d.arcs c))
    passed = passed_turn f (seen who d.arcs c) put

keyed_begins : (who : Who) (e : Event) (s d : Digest) (q : ℕ) → IsKeyedMove who e s d (begin_on who q d)
keyed_begins who e s d q = begin_cases (IsKeyedMove who e s d) who q d (keyed_hush who e s d (move [] d) refl refl) on
  where
    on : (c : Current) (a : Arc) → d.current ≡ Some c → find_arc d.arcs q ≡ Some a → may_begin_on who d a ≡ true → IsKeyedMove who e s d (begun_over who q d c a)
    on c a now found may = record {
      keys = λ u i. inl (c, now, left_key (transacted (TxEvent.Begun (record { addr = a.peer; branch = record { superior = who.site; mark = next_mark who d } } ∷ [])) (seen who d.arcs c)).next u i);
      orders = λ h. absurd (cc (h));
    }

keyed_then : (who : Who) (e : Event) (s d : Digest) (a : Move) (f : Digest → Move) → IsKeyedMove who e s d a → IsKeyedMove who e s a.next (f a.next) → (a.rec ≡ None) ⊎ ((f a.next).rec ≡ None) → IsKeyedMove who e s d (followed a f)
keyed_then who e s d a f one two quiet = record {
  keys = λ u i. elim (two.keys u i) [
    | inl k ↦ elim (one.keys k.0 k.1) [
      | inl j ↦ inl (j.0, j.1, k.2 ∙ j.2)
      | inr j ↦ inr (j.0, k.2 ∙ j.1, j.2, j.3)
    ]
    | inr k ↦ inr k
  ];
  orders = λ h. which a.rec (f a.next).rec refl refl h;
}
  where
    which : (x y : Option LogRec) → a.rec ≡ x → (f a.next).rec ≡ y → is_commit_rec (elim y as (λ _. Option LogRec) [ None ↦ x | Some r ↦ Some r ]) ≡ true → (c : Current) × (s.current ≡ Some c) × ((is_under c.key ≡ true) → IsOrdered who e c)
    which x None i j h = one.orders (ap is_commit_rec i ∙ h)
    which x (Some r) i j h = two.orders (ap is_commit_rec j ∙ h)

settled_quiet : (k : Kept) (f : KeptEvent) → is_commit_rec (settled k f).rec ≡ false
unfolding settled
settled_quiet k KeptEvent.Purge = refl
settled_quiet k _ = grind arith

pub keyed_moves : (who : Who) (e : Event) (s : Digest) → Moves who e s (IsKeyedMove who e s)
keyed_moves who e s = record {
  still = λ d. keyed_hush who e s d (move [] d) refl refl;
  chain = λ d a f one two quiet. keyed_then who e s d a f one two quiet;
  speaks = λ d outs h own said. keyed_hush who e s d (perform outs d) refl refl;
  changes_dialogue = λ d p f m by one. record { keys = one.keys; orders = one.orders };
  drops_arc = λ d p m at one. record { keys = one.keys; orders = one.orders };
  notes_kept = λ d ks m held one. record { keys = one.keys; orders = one.orders };
  keeps = λ d k f held. keyed_hush who e s d (keep (settled k f) d) refl (settled_quiet k f);
  turns = λ d c f now at asked put gone. keyed_turned who e f s d c now at asked put;
  begins = λ d q free. keyed_begins who e s d q;
  roots = λ d m nil may one. record { keys = λ u i. rooted d u (one.keys u i); orders = one.orders };
}
  where
    rooted : (d : Digest) (u : Current) → HasKeyFrom who (record (with_mark_drawn d) { current = Some (fresh_current (Root (record { owner = who.site; mark = next_mark who d }))) }) u → HasKeyFrom who d u
    rooted d u (inl k) =
        let same : fresh_current (Root (record { owner = who.site; mark = next_mark who d })) ≡ k.0 = cc (k.1) in
        inr (record { owner = who.site; mark = next_mark who d }, k.2 ∙ ap (λ (c : Current). c.key) (sym same), refl, refl)
    rooted d u (inr k) = inr k
