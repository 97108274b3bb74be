-- The forms of words that were cut out of a line of a transcript.
use Rattle.std.proofs.Common.{◌≡◌, ℕ, Bool, true, false, Option, Some, None, Ok, Err, List, [], ◌∷◌, codes, refl, ap, sym, ◌∙◌}
use Rattle.tp_names.specs.Same.{is_name}
use Rattle.tp_names.specs.declared.identifiers.Aaid.{Aaid}
use Rattle.tp_units.specs.Units.{bad_bit, unless_bad, is_permitted}
use Rattle.tp_units.specs.declared.units.BadUnits.{BadUnits}
use Rattle.tp_model.specs.declared.out_line.PhaseWord.{PhaseWord}
use Rattle.tp_model.specs.declared.out_line.OutLine.{OutLine}
use Rattle.tp_model.specs.LineReading.{Form, Wrong, Outside, Well, with, both, three, one_word, words_in, number, site}
use Rattle.tp_schedule.specs.Answers.{pair, same, read_as, word_alone}
use Rattle.tp_transcript.specs.OutWords.{three_alone}
use Rattle.tp_schedule.specs.declared.line_fault.LineFault.{LineFault}
use Rattle.tp_transcript.specs.OutWords.{cut, at_dot, maybe, three_words, any_short, aaid, key, phase, long, if_permitted}
use Rattle.tp_transcript.specs.OutReading.{trio, keyed, read_state_line, image_of, hex_word, tree_words, tree_of, read_tree}
use Rattle.tp_schedule.proofs.lemmas.Readings.{three_form}

pub at_dot_found : {A B : Type 0} → (r : List ℕ → Form A) (s : List ℕ → Form B) (w v u : List ℕ) → cut 46 w ≡ Some (v, u) → at_dot r s w ≡ both pair (r v) (s u)
at_dot_found {A} {B} r s w v u is = ap (λ (o : Option (List ℕ × List ℕ)). elim o as (λ _. Form (A × B)) [ None ↦ Wrong | Some p ↦ both pair (r p.0) (s p.1) ]) is

pub maybe_found : {A : Type 0} → (r : List ℕ → Form A) (w : List ℕ) → is_name (codes "-") w ≡ false → maybe r w ≡ with (λ (a : A). Some a) (r w)
maybe_found {A} r w other = ap (λ (b : Bool). elim b as (λ _. Form (Option A)) [ true ↦ Well None | false ↦ with (λ (a : A). Some a) (r w) ]) other

with_same : {A : Type 0} → (x : Form A) → with same x ≡ x
with_same Wrong = refl
with_same Outside = refl
with_same (Well a) = refl

pub one_same : {A : Type 0} → (r : List ℕ → Form A) (ws : List (List ℕ)) (w : List ℕ) → word_alone ws ≡ Some w → one_word same r ws ≡ r w
one_same r [] w is = absurd cc
one_same r (v ∷ []) w is = let e : v ≡ w = cc in with_same (r v) ∙ ap r e
one_same r (u ∷ v ∷ ws) w is = absurd cc

abbrev of_three : {A B C D : Type 0} → (A → B → C → D) → (List ℕ → Form A) → (List ℕ → Form B) → (List ℕ → Form C) → Option (List ℕ × List ℕ × List ℕ) → Form D
of_three f r s t None = Wrong
of_three f r s t (Some p) = three f (r p.0) (s p.1) (t p.2)

pub three_found : {A B C D : Type 0} → (f : A → B → C → D) (r : List ℕ → Form A) (s : List ℕ → Form B) (t : List ℕ → Form C) (ws : List (List ℕ)) (u v w : List ℕ)
    → three_alone ws ≡ Some (u, v, w) → three_words f r s t ws ≡ three f (r u) (s v) (t w)
three_found f r s t [] u v w is = absurd cc
three_found f r s t (a ∷ []) u v w is = absurd cc
three_found f r s t (a ∷ b ∷ []) u v w is = absurd cc
three_found f r s t (a ∷ b ∷ c ∷ []) u v w is = ap (λ (o : Option (List ℕ × List ℕ × List ℕ)). of_three f r s t o) is
three_found f r s t (a ∷ b ∷ c ∷ d ∷ ws) u v w is = absurd cc

pub three_trio : {A B C : Type 0} → (x : Form A) (y : Form B) (z : Form C) → three trio x y z ≡ both pair (both pair x y) z
three_trio Wrong y z = refl
three_trio Outside Wrong z = refl
three_trio Outside Outside Wrong = refl
three_trio Outside Outside Outside = refl
three_trio Outside Outside (Well c) = refl
three_trio Outside (Well b) Wrong = refl
three_trio Outside (Well b) Outside = refl
three_trio Outside (Well b) (Well c) = refl
three_trio (Well a) Wrong z = refl
three_trio (Well a) Outside Wrong = refl
three_trio (Well a) Outside Outside = refl
three_trio (Well a) Outside (Well c) = refl
three_trio (Well a) (Well b) Wrong = refl
three_trio (Well a) (Well b) Outside = refl
three_trio (Well a) (Well b) (Well c) = refl

pub three_words_form : {A B C D : Type 0} → (f : A → B → C → D) (r : List ℕ → Form A) (s : List ℕ → Form B) (t : List ℕ → Form C) (ws : List (List ℕ))
    → three_words f r s t ws ≡ with (λ (p : (A × B) × C). f p.0.0 p.0.1 p.1) (three_words trio r s t ws)
three_words_form f r s t [] = refl
three_words_form f r s t (u ∷ []) = refl
three_words_form f r s t (u ∷ v ∷ []) = refl
three_words_form {A} {B} {C} f r s t (u ∷ v ∷ w ∷ []) =
    three_form f (r u) (s v) (t w) ∙ ap (with (λ (p : (A × B) × C). f p.0.0 p.0.1 p.1)) (sym (three_trio (r u) (s v) (t w)))
three_words_form f r s t (u ∷ v ∷ w ∷ x ∷ ws) = refl

pub keyed_found : {B : Type 0} → (more : List (List ℕ) → Form B) (ws : List (List ℕ)) (n a b : List ℕ) (rest : List ℕ) → ws ≡ n ∷ a ∷ b ∷ words_in rest
    → keyed more ws ≡ both pair (both pair (any_short n) (key a b)) (more (words_in rest))
keyed_found more ws n a b rest is = ap (keyed more) is

pub state_found : (ws : List (List ℕ)) (n p k c : List ℕ) (rest : List ℕ) → ws ≡ n ∷ p ∷ k ∷ words_in rest → word_alone (words_in rest) ≡ Some c → is_name (codes "kept") k ≡ true
    → read_state_line ws ≡ both (λ (q : ℕ × PhaseWord) m. OutLine.State q.0 q.1 m) (both pair (number n) (phase p)) (long c)
state_found ws n p k c rest is alone kept = ap read_state_line is ∙ go (words_in rest) alone
  where
    go : (us : List (List ℕ)) → word_alone us ≡ Some c → read_state_line (n ∷ p ∷ k ∷ us) ≡ both (λ (q : ℕ × PhaseWord) m. OutLine.State q.0 q.1 m) (both pair (number n) (phase p)) (long c)
    go [] e = absurd cc
    go (u ∷ []) e =
        let f : u ≡ c = cc in
        ap (λ (b : Bool). elim b as (λ _. Form OutLine) [ true ↦ both (λ (q : ℕ × PhaseWord) m. OutLine.State q.0 q.1 m) (both pair (number n) (phase p)) (long u) | false ↦ Wrong ]) kept
        ∙ ap (λ (t : List ℕ). both (λ (q : ℕ × PhaseWord) m. OutLine.State q.0 q.1 m) (both pair (number n) (phase p)) (long t)) f
    go (u ∷ v ∷ us) e = absurd cc

-- ---- units

pub unless_ok : (o : Option ℕ) (bits u : ℕ) → Ok u ≡ unless_bad o bits → u ≡ bits
unless_ok None bits u is = cc
unless_ok (Some b) bits u is = absurd cc

pub permitted_well : (x : Form ℕ) (bits u : ℕ) → Ok bits ≡ read_as x → Ok u ≡ unless_bad (bad_bit bits) bits → is_permitted bits ≡ true → Ok u ≡ read_as (if_permitted x)
permitted_well Wrong bits u is value good = absurd cc
permitted_well Outside bits u is value good = absurd cc
permitted_well (Well n) bits u is value good =
    let e : bits ≡ n = cc in
    let f : u ≡ n = unless_ok (bad_bit bits) bits u value ∙ e in
    ap Ok f ∙ sym (ap read_as (ap (λ (b : Bool). elim b as (λ _. Form ℕ) [ true ↦ Well n | false ↦ Wrong ]) (ap is_permitted (sym e) ∙ good)))

pub permitted_wrong : (x : Form ℕ) (bits : ℕ) (b : BadUnits) → Ok bits ≡ read_as x → (is_permitted bits ≡ true → ⊥) → Err LineFault.Word ≡ read_as (if_permitted x)
permitted_wrong Wrong bits b is bad = absurd cc
permitted_wrong Outside bits b is bad = absurd cc
permitted_wrong (Well n) bits b is bad =
    let e : bits ≡ n = cc in
    go (is_permitted n) (λ good. bad (ap is_permitted e ∙ good))
  where
    go : (t : Bool) → (t ≡ true → ⊥) → Err LineFault.Word ≡ read_as (elim t as (λ _. Form ℕ) [ true ↦ Well n | false ↦ Wrong ])
    go true not = absurd (not refl)
    go false not = refl

-- ---- images and trees

pub image_some : (s : List ℕ) (us : List (List ℕ)) (w : List ℕ) (ws : List (List ℕ)) → us ≡ w ∷ ws → image_of s us ≡ both OutLine.Image (site s) (one_word same hex_word us)
image_some s us w ws is = rw is refl

pub tree_found : (w : List ℕ) (ws : List (List ℕ)) (a : Aaid) → Ok a ≡ read_as (aaid w) → read_tree (w ∷ ws) ≡ tree_words a ws
tree_found w ws a is = go (aaid w) is
  where
    go : (x : Form Aaid) → Ok a ≡ read_as x → tree_of x ws ≡ tree_words a ws
    go Wrong e = absurd cc
    go Outside e = absurd cc
    go (Well b) e = let f : b ≡ a = cc in ap (λ (t : Aaid). tree_words t ws) f

pub tree_refused : (w : List ℕ) (ws : List (List ℕ)) (e : LineFault) → Err e ≡ read_as (aaid w) → read_tree (w ∷ ws) ≡ Wrong
tree_refused w ws e is = go (aaid w) is
  where
    go : (x : Form Aaid) → Err e ≡ read_as x → tree_of x ws ≡ Wrong
    go Wrong f = refl
    go Outside f = refl
    go (Well b) f = absurd cc
