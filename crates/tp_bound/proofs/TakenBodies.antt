-- Bodies are read back from their texts, and a write that was read has a text.
use Rattle.std.proofs.Common.{◌≡◌, ℕ, ◌<◌, ◌≤◌, ◌^◌, ◌+◌, ◌*◌, IsTrue, Option, Some, None, List, [], ◌∷◌, ◌++◌, length, refl, sym, ap, subst, ◌∙◌, append_assoc, length-append, arith}
use Rattle.std.proofs.lemmas.List.{append-nil}
use Rattle.std.proofs.lemmas.Nat.{from_be_bytes-to_be_bytes_8}
use Rattle.std.specs.Int.{w64, from_be_bytes}
use Rattle.tp_names.specs.declared.identifiers.Mark.{Mark}
use Rattle.tp_names.specs.declared.identifiers.Aaid.{Aaid}
use Rattle.tp_names.specs.Bytes.{short_bytes, long_bytes, site_bytes, mark_bytes, aaid_bytes, is_site_name}
use Rattle.tp_names.specs.Grammar.{HasText}
use Rattle.tp_names.specs.Places.{AreBytes}
use Rattle.tp_names.specs.Reading.{Reader, make, ◌and◌, then_read, chosen_by, mark_of, aaid_of, read_short, read_long, read_many, read_site, read_mark, read_aaid}
use Rattle.tp_names.proofs.Sequences.{both_read, reads_on}
use Rattle.tp_names.proofs.Numbers.{short_back}
use Rattle.tp_names.proofs.Sites.{site_taken}
use Rattle.tp_names.proofs.Texts.{is_written}
use Rattle.tp_bound.specs.declared.write.Write.{Write}
use Rattle.tp_bound.specs.declared.body.Body.{Body}
use Rattle.tp_bound.specs.Bodies.{write_bytes, read_write, each_write_bytes, writes_bytes, read_writes, body_bytes, bind_of, keep_of, drop_of, whole, body_in}
use Rattle.tp_bound.specs.Gathered.{write_grammar, write_in, HaveTexts, Takes}
use Rattle.tp_bound.proofs.BodyScans.{write_scan}
use Rattle.tp_bound.proofs.BodyWritten.{write_written}

-- ---- parts, one after the other

made : {A : Type 0} (a : A) → Takes (make a) [] a
made a = record { reads = λ rest. refl }

both : {A B : Type 0} {f : Reader (A → B)} {r : Reader A} {s t : List ℕ} {g : A → B} {a : A} → Takes f s g → Takes r t a → Takes (f and r) (s ++ t) (g a)
both {f} {r} {s} {t} {g} {a} x y = record {
  reads = λ rest. ap (f and r) (append_assoc s t rest) ∙ both_read f r (s ++ (t ++ rest)) (t ++ rest) rest g a (x.reads (t ++ rest)) (y.reads rest);
}

chosen : {A B : Type 0} (r : Reader A) (f : A → Reader B) (s t : List ℕ) (n : A) (v : B) → Takes r s n → Takes (f n) t v → Takes (chosen_by r f) (s ++ t) v
chosen {A} {B} r f s t n v x y = record {
  reads = λ rest. ap (chosen_by r f) (append_assoc s t rest) ∙ ap (λ (o : Option (A × List ℕ)). then_read o f) (x.reads (t ++ rest)) ∙ y.reads rest;
}

-- ---- identifiers

short_taken : (n : ℕ) → n < 2 ^ 16 → Takes read_short (short_bytes n) n
short_taken n h = record { reads = λ rest. short_back n rest h }

eight : (a b c d e f g i : ℕ) → (((((((0 * 256 + a) * 256 + b) * 256 + c) * 256 + d) * 256 + e) * 256 + f) * 256 + g) * 256 + i ≡ from_be_bytes w64 (a ∷ b ∷ c ∷ d ∷ e ∷ f ∷ g ∷ i ∷ [])
eight a b c d e f g i = omega arith

long_taken : (n : ℕ) → n < 2 ^ 64 → Takes read_long (long_bytes n) n
long_taken n h = record { reads = λ rest. ap (λ (m : ℕ). Some (m, rest)) (eight _ _ _ _ _ _ _ _ ∙ from_be_bytes-to_be_bytes_8 n h) }

pub name_taken : (s : List ℕ) → IsTrue (is_site_name s) → Takes read_site (site_bytes s) s
name_taken s h = record { reads = λ rest. site_taken s rest h }

pub mark_taken : (m : Mark) → m.boot < 2 ^ 64 → m.node < 2 ^ 16 → m.count < 2 ^ 64 → Takes read_mark (mark_bytes m) m
mark_taken m hb hn hc = both (both (both (made mark_of) (long_taken m.boot hb)) (short_taken m.node hn)) (long_taken m.count hc)

pub aaid_taken : (a : Aaid) → Takes read_site (site_bytes a.owner) a.owner → Takes read_mark (mark_bytes a.mark) a.mark → Takes read_aaid (aaid_bytes a) a
aaid_taken a x y = both (both (made aaid_of) x) y

-- ---- writes

write_taken : (w : Write) → HasText write_grammar w → Takes read_write (write_bytes w) w
write_taken w has = record { reads = λ rest. reads_on read_write (write_bytes w) w write_scan.steady has rest }

each_taken : (ws : List Write) → HaveTexts ws → Takes (read_many read_write (length ws)) (each_write_bytes ws) ws
each_taken [] have = record { reads = λ rest. refl }
each_taken (w ∷ ws) have =
    let cons : Write → List Write → List Write = λ a rest. a ∷ rest in
    both (both (made cons) (write_taken w have.0)) (each_taken ws have.1)

writes_taken : (ws : List Write) → HaveTexts ws → length ws < 2 ^ 16 → Takes read_writes (writes_bytes ws) ws
writes_taken ws have few = chosen read_short (read_many read_write) (short_bytes (length ws)) (each_write_bytes ws) (length ws) ws (short_taken (length ws) few) (each_taken ws have)

-- ---- bodies

whole_text : {A : Type 0} (r : Reader A) (text : List ℕ) (v : A) → Takes r text v → whole (r text) ≡ Some v
whole_text {A} r text v x = ap (λ (t : List ℕ). whole (r t)) (sym (append-nil text)) ∙ ap whole (x.reads [])

pub bind_in : (a : Aaid) (ws : List Write) → Takes read_aaid (aaid_bytes a) a → HaveTexts ws → length ws < 2 ^ 16 → body_in (body_bytes (Body.Bind a ws)) ≡ Some (Body.Bind a ws)
bind_in a ws x have few = whole_text (make bind_of and read_aaid and read_writes) (aaid_bytes a ++ writes_bytes ws) (Body.Bind a ws) (both (both (made bind_of) x) (writes_taken ws have few))

pub keep_in : (a : Aaid) → Takes read_aaid (aaid_bytes a) a → body_in (body_bytes (Body.Keep a)) ≡ Some (Body.Keep a)
keep_in a x = whole_text (make keep_of and read_aaid) (aaid_bytes a) (Body.Keep a) (both (made keep_of) x)

pub drop_in : (a : Aaid) → Takes read_aaid (aaid_bytes a) a → body_in (body_bytes (Body.Drop a)) ≡ Some (Body.Drop a)
drop_in a x = whole_text (make drop_of and read_aaid) (aaid_bytes a) (Body.Drop a) (both (made drop_of) x)

-- ---- a write that was read

whole_is : {A : Type 0} (o : Option (A × List ℕ)) (v : A) → whole o ≡ Some v → o ≡ Some (v, [])
whole_is None v is = absurd cc
whole_is {A} (Some p) v is = go p.1 refl is
  where
    go : (rest : List ℕ) → p.1 ≡ rest → (elim rest as (λ _. Option A) [ [] ↦ Some p.0 | b ∷ bytes ↦ None ]) ≡ Some v → Some p ≡ Some (v, [])
    go [] at is = let e : p.0 ≡ v = cc in ap Some (rw (← e, ← at) refl)
    go (b ∷ bytes) at is = absurd cc

pub write_has_text : (bytes : List ℕ) (w : Write) → AreBytes bytes → write_in bytes ≡ Some w → HasText write_grammar w × (bytes ≡ write_bytes w)
write_has_text bytes w fits is =
    let x = is_written write_grammar write_scan.steady write_written w bytes [] fits (whole_is (read_write bytes) w is) in
    (x.0, x.1 ∙ append-nil (write_bytes w))

-- ---- writes one after the other

pub each_more : (ws : List Write) (w : Write) → each_write_bytes (ws ++ w ∷ []) ≡ each_write_bytes ws ++ write_bytes w
each_more [] w = append-nil (write_bytes w)
each_more (v ∷ ws) w = ap (λ (t : List ℕ). write_bytes v ++ t) (each_more ws w) ∙ sym (append_assoc (write_bytes v) (each_write_bytes ws) (write_bytes w))

pub have_more : (ws : List Write) (w : Write) → HaveTexts ws → HasText write_grammar w → HaveTexts (ws ++ w ∷ [])
have_more [] w have has = (has, tt)
have_more (v ∷ ws) w have has = (have.0, have_more ws w have.1 has)

some_bytes : (w : Write) → 1 ≤ length (write_bytes w)
some_bytes (Write.Put key value) = omega arith
some_bytes (Write.Remove key) = omega arith

-- a write has bytes, so there are no more writes than bytes
pub no_more_writes : (ws : List Write) → length ws ≤ length (each_write_bytes ws)
no_more_writes [] = omega arith
no_more_writes (w ∷ ws) = omega (arith, no_more_writes ws, some_bytes w, length-append (write_bytes w) (each_write_bytes ws))

-- what a list of writes with their texts is with one more
pub one_more : (ws new : List Write) (w : Write) (texts after text : List ℕ) → HaveTexts ws → texts ≡ each_write_bytes ws → HasText write_grammar w → text ≡ write_bytes w
    → length (each_write_bytes ws) + length text ≤ 60000 → new ≡ ws ++ w ∷ [] → after ≡ texts ++ text → HaveTexts new × (after ≡ each_write_bytes new) × (length after ≤ 60000)
one_more ws new w texts after text have is has spelled room more longer =
    let written : after ≡ each_write_bytes ws ++ text = longer ∙ ap (λ (t : List ℕ). t ++ text) is in (
      subst HaveTexts (sym more) (have_more ws w have has),
      written ∙ ap (λ (t : List ℕ). each_write_bytes ws ++ t) spelled ∙ sym (each_more ws w) ∙ ap each_write_bytes (sym more),
      omega (arith, ap length written, length-append (each_write_bytes ws) text),
    )
