-- What an entry shows of a tree, by what is current before and after it.
use Rattle.std.proofs.Common.{◌≡◌, Bool, true, false, refl, ap, sym, ◌∙◌, arith, Option, Some, None, ◌&&◌, ◌||◌, not}
use Rattle.tp_names.specs.declared.identifiers.Aaid.{Aaid}
use Rattle.tp_names.specs.Same.{is_aaid}
use Rattle.tp_model.specs.declared.arc.Phase.{Phase}
use Rattle.tp_model.specs.Parts.{Key, Root, Under, Current}
use Rattle.tp_model.specs.Dialogues.{is_active, is_ready, is_committing, is_rolling}
use Rattle.tp_model.specs.Transactions.{aaid_of}
use Rattle.tp_model.specs.Events.{recovered_current}
use Rattle.tp_model.specs.Outcomes.{is_now}
use Rattle.tp_runs.specs.RolledSeen.{is_rolling_at, is_open_at, is_same_end, goes_on}
use Rattle.tp_steps.proofs.lemmas.Equality.{and_left, and_right}
use Rattle.std.proofs.lemmas.Bool.{or_left, or_right}
use Rattle.tp_steps.proofs.lemmas.Words.{both}

-- ---- what an entry shows: `fall`, that it rolls what is current, and `l`, that the user leaves

pub record IsSeen (fall l : Bool) (t : Aaid) (v n : Option Current) : Type 0 where
  pub rolls : is_rolling_at t n ≡ true → (is_rolling_at t v || (is_now t v && fall)) ≡ true
  pub over : is_open_at t v ≡ true → goes_on t v n ≡ false → l ≡ false → (is_now t v && fall) ≡ true
  pub back : is_now t v ≡ true → fall ≡ true → (is_rolling_at t n || (is_open_at t v && not (goes_on t v n) && not l)) ≡ true

pub and_off : (a b : Bool) → b ≡ false → (a && b) ≡ false
and_off true b h = h
and_off false b h = refl

opened : (a b c : Bool) → a ≡ true → b ≡ false → c ≡ false → (a && not b && not c) ≡ true
opened a b c h i j = rw (h, i, j) refl

pub open_parts : (a b c : Bool) → (a && not b && not c) ≡ true → (a ≡ true) × (b ≡ false) × (c ≡ false)
open_parts true false false h = (refl, refl, refl)
open_parts _ _ _ h = absurd (cc (h))

pub seen_none : (fall l : Bool) (t : Aaid) (n : Option Current) → is_rolling_at t n ≡ false → IsSeen fall l t None n
seen_none fall l t n off = record {
  rolls = λ h. absurd (cc (h, off));
  over = λ h g k. absurd (cc (h));
  back = λ h f. absurd (cc (h));
}

same_end : (k : Key) → is_same_end k k ≡ true
same_end (Root t) = refl
same_end (Under t b a) = refl

-- it stays current
pub seen_held : (fall l : Bool) (t : Aaid) (c u : Current) → u.key ≡ c.key → (is_rolling u.phase ≡ true → (is_rolling c.phase || fall) ≡ true) → (fall ≡ true → is_rolling u.phase ≡ true) → IsSeen fall l t (Some c) (Some u)
seen_held fall l t c u key to back = record {
  rolls = λ h. spread (is_aaid t (aaid_of c.key)) (is_rolling c.phase) fall (sym tree ∙ and_left (is_aaid t (aaid_of u.key)) (is_rolling u.phase) h) (to (and_right (is_aaid t (aaid_of u.key)) (is_rolling u.phase) h));
  over = λ h g k. absurd (let on = goes (and_left (is_aaid t (aaid_of c.key)) (is_active c.phase || is_ready c.phase) h) in cc (on, g));
  back = λ h f. or_left (is_aaid t (aaid_of u.key) && is_rolling u.phase) _ (both (is_aaid t (aaid_of u.key)) (is_rolling u.phase) (tree ∙ h) (back f));
}
  where
    tree : is_aaid t (aaid_of u.key) ≡ is_aaid t (aaid_of c.key)
    tree = ap (λ (k : Key). is_aaid t (aaid_of k)) key

    spread : (n r f : Bool) → n ≡ true → (r || f) ≡ true → ((n && r) || (n && f)) ≡ true
    spread n r f h i = rw h i

    goes : is_aaid t (aaid_of c.key) ≡ true → goes_on t (Some c) (Some u) ≡ true
    goes h = both (is_aaid t (aaid_of u.key)) (is_same_end c.key u.key) (tree ∙ h) (ap (is_same_end c.key) key ∙ same_end c.key)

-- it is over
pub seen_over : (fall l : Bool) (t : Aaid) (c : Current) (n : Option Current) → is_rolling_at t n ≡ false → (is_aaid t (aaid_of c.key) ≡ true → goes_on t (Some c) n ≡ false)
    → ((is_active c.phase || is_ready c.phase) ≡ true → l ≡ false → fall ≡ true) → (fall ≡ true → ((is_active c.phase || is_ready c.phase) ≡ true) × (l ≡ false)) → IsSeen fall l t (Some c) n
seen_over fall l t c n off gone to back = record {
  rolls = λ h. absurd (cc (h, off));
  over = λ h g k.
      both (is_aaid t (aaid_of c.key)) fall (and_left (is_aaid t (aaid_of c.key)) (is_active c.phase || is_ready c.phase) h)
      (to (and_right (is_aaid t (aaid_of c.key)) (is_active c.phase || is_ready c.phase) h) k);
  back = λ h f.
      let k = back f in
      or_right (is_rolling_at t n) _ (opened (is_open_at t (Some c)) (goes_on t (Some c) n) l (both (is_aaid t (aaid_of c.key)) (is_active c.phase || is_ready c.phase) h k.0) (gone h) k.1);
}

-- a crash
pub seen_crash : (t : Aaid) (c : Current) → IsSeen (is_active c.phase) false t (Some c) (recovered_current (Some c))
seen_crash t c = go (is_ready c.phase || is_committing c.phase) refl (recovered_current (Some c)) refl
  where
    stays : (p : Phase) → (is_ready p || is_committing p) ≡ true → (is_rolling p ≡ false) × (is_active p ≡ false)
    stays p h = (grind (arith, h), grind (arith, h))

    falls : (p : Phase) → (is_ready p || is_committing p) ≡ false → (is_active p || is_ready p) ≡ true → is_active p ≡ true
    falls p h i = grind (arith, h, i)

    same : (u : Current) → (is_ready c.phase || is_committing c.phase) ≡ true → recovered_current (Some c) ≡ Some u → (u.key ≡ c.key) × (u.phase ≡ c.phase)
    same u i j = (grind (arith, i, j), grind (arith, i, j))

    go : (b : Bool) → (is_ready c.phase || is_committing c.phase) ≡ b → (n : Option Current) → recovered_current (Some c) ≡ n → IsSeen (is_active c.phase) false t (Some c) n
    go true i None j = absurd (grind (arith, i, j))
    go true i (Some u) j =
        let k = same u i j in
        let off = stays c.phase i in
        seen_held (is_active c.phase) false t c u k.0 (λ h. absurd (let no : is_rolling u.phase ≡ false = ap is_rolling k.1 ∙ off.0 in cc (h, no))) (λ h. absurd (cc (h, off.1)))
    go false i None j = seen_over (is_active c.phase) false t c None refl (λ h. refl) (λ h k. falls c.phase i h) (λ h. (or_left (is_active c.phase) (is_ready c.phase) h, refl))
    go false i (Some u) j = absurd (grind (arith, i, j))
