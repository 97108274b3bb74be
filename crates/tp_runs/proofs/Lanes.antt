-- A lane alone: what a worker that has its events alone writes and forces, against a run of all.
use Rattle.std.proofs.Common.{◌≡◌, ℕ, ◌%◌, ◌==◌, Bool, true, false, refl, ap, sym, ◌∙◌, arith, Option, Some, None, List, [], ◌∷◌, ◌++◌}
use Rattle.std.proofs.lemmas.Bool.Decides.{nat_tests}
use Rattle.tp_names.specs.Same.{is_name}
use Rattle.tp_records.specs.declared.body.Event.{Event as Given}
use Rattle.tp_records.specs.declared.body.Output.{Output}
use Rattle.tp_records.specs.declared.peer.PeerRecord.{PeerRecord}
use Rattle.tp_records.specs.BodyReading.{peer_in}
use Rattle.tp_model.specs.Parts.{Event, Entry, Answer}
use Rattle.tp_model.specs.History.{answer}
use Rattle.tp_model.specs.NodeRun.{Opening, origin_at, Past, history_of, with_history, Refuses, Is, asked, node_of, refusal_of, entry_outputs, NodeRun, entry_record, with_entry, before_run, run_from, AskedEvent}
use Rattle.tp_model.specs.Lanes.{lane, outputs_in}

-- ---- pasts

abbrev pub chosen : {A : Type 0} → Bool → A → A → A
chosen true x y = x
chosen false x y = y

pub past_with : (ps : List Past) (n : ℕ) (h : List Entry) (m : ℕ) → history_of (with_history ps n h) m ≡ chosen (n == m) h (history_of ps m)
past_with [] n h m = grind (arith, nat_tests)
past_with (p ∷ ps) n h m = go (p.node == n) refl (past_with ps n h m)
  where
    go : (b : Bool) → (p.node == n) ≡ b → history_of (with_history ps n h) m ≡ chosen (n == m) h (history_of ps m) → history_of (with_history (p ∷ ps) n h) m ≡ chosen (n == m) h (history_of (p ∷ ps) m)
    go true i rest = grind (arith, nat_tests, i)
    go false i rest = grind (arith, nat_tests, i, rest)

-- the node to which an event is given is that of its lane
pub asked_at : (o : Opening) (g : Given) (n : ℕ) (e : Event) → asked o g ≡ Is n e → node_of g ≡ n
asked_at o (Given.Arrive from to octets) n e h = arrived (peer_in octets) (is_name to.site o.site) refl refl h
  where
    arrived : (r : Option PeerRecord) (b : Bool) → peer_in octets ≡ r → is_name to.site o.site ≡ b
        → (elim r as (λ _. AskedEvent) [ None ↦ Refuses 25 | Some x ↦ elim b as (λ _. AskedEvent) [ true ↦ Is to.node (Event.Arrive from x) | false ↦ Refuses 23 ] ]) ≡ Is n e → to.node ≡ n
    arrived None b i j k = absurd (cc (k))
    arrived (Some x) true i j k = cc (k)
    arrived (Some x) false i j k = absurd (cc (k))
asked_at o _ n e h = cc (h)

-- ---- one event of a run

abbrev pub given : Opening → List Past → ℕ → Event → Answer
given o ps n e = answer (origin_at o n) (history_of ps n) e

abbrev pub run_asked : Opening → List Past → AskedEvent → List Given → NodeRun
run_asked o ps (Refuses n) gs = before_run [] (Output.Refused n ∷ []) (run_from o ps gs)
run_asked o ps (Is n e) gs = before_run (entry_record (given o ps n e).entry) (refusal_of (given o ps n e).number ++ entry_outputs o n (given o ps n e).entry) (run_from o (with_entry ps n (given o ps n e).entry) gs)

pub run_step : (o : Opening) (ps : List Past) (g : Given) (gs : List Given) (a : AskedEvent) → asked o g ≡ a → run_from o ps (g ∷ gs) ≡ run_asked o ps a gs
run_step o ps g gs a h = rw (h, run_from) (same a)
  where
    same : (a : AskedEvent) → (elim a as (λ _. NodeRun) [
      | Refuses n ↦ before_run [] (Output.Refused n ∷ []) (run_from o ps gs)
      | Is n e ↦ before_run (entry_record (given o ps n e).entry) (refusal_of (given o ps n e).number ++ entry_outputs o n (given o ps n e).entry) (run_from o (with_entry ps n (given o ps n e).entry) gs)
    ]) ≡ run_asked o ps a gs
    same (Refuses n) = refl
    same (Is n e) = refl

-- the lane's nodes have the same past in both runs
abbrev pub Agree : ℕ → ℕ → List Past → List Past → Type 0
Agree i w ps qs = (n : ℕ) → (n % w == i) ≡ true → history_of ps n ≡ history_of qs n

pub past_more : (ps : List Past) (n : ℕ) (y : Option Entry) (m : ℕ) → (n == m) ≡ false → history_of (with_entry ps n y) m ≡ history_of ps m
past_more ps n None m h = refl
past_more ps n (Some e) m h = past_with ps n (e ∷ history_of ps n) m ∙ rw h refl

pub past_grown : (ps qs : List Past) (n : ℕ) (y : Option Entry) → history_of ps n ≡ history_of qs n → (m : ℕ) → history_of ps m ≡ history_of qs m → history_of (with_entry ps n y) m ≡ history_of (with_entry qs n y) m
past_grown ps qs n None h m i = i
past_grown ps qs n (Some e) h m i = past_with ps n (e ∷ history_of ps n) m ∙ rw (h, i) (sym (past_with qs n (e ∷ history_of qs n) m))

pub agree_mine : (i w : ℕ) (ps qs : List Past) (n : ℕ) (y z : Option Entry) → (n % w == i) ≡ true → y ≡ z → Agree i w ps qs → Agree i w (with_entry ps n y) (with_entry qs n z)
agree_mine i w ps qs n y z mine same agree m h = past_grown ps qs n y (agree n mine) m (agree m h) ∙ ap (λ (x : Option Entry). history_of (with_entry qs n x) m) same

pub agree_other : (i w : ℕ) (ps qs : List Past) (n : ℕ) (y : Option Entry) → (n % w == i) ≡ false → Agree i w ps qs → Agree i w (with_entry ps n y) qs
agree_other i w ps qs n y other agree m h = past_more ps n y m (apart (n == m) refl) ∙ agree m h
  where
    apart : (b : Bool) → (n == m) ≡ b → (n == m) ≡ false
    apart false j = j
    apart true j =
        let e : n ≡ m = grind (arith, nat_tests, j) in
        let k : (n % w == i) ≡ true = ap (λ (x : ℕ). x % w == i) e ∙ h in
        absurd (cc (k, other))

pub lane_mine : (g : Given) (gs : List Given) (i w : ℕ) → (node_of g % w == i) ≡ true → lane (g ∷ gs) i w ≡ g ∷ lane gs i w
lane_mine g gs i w h = rw (h, lane) refl

pub lane_other : (g : Given) (gs : List Given) (i w : ℕ) → (node_of g % w == i) ≡ false → lane (g ∷ gs) i w ≡ lane gs i w
lane_other g gs i w h = rw (h, lane) refl

-- ---- outputs

more_outs : (x y : List Output) (xs ys : List (List Output)) → x ≡ y → xs ≡ ys → x ∷ xs ≡ y ∷ ys
more_outs x y xs ys h i = rw (h, i) refl

outs_mine : (i w : ℕ) (g : Given) (gs : List Given) (x : List Output) (xs : List (List Output)) → (node_of g % w == i) ≡ true → outputs_in i w (g ∷ gs) (x ∷ xs) ≡ x ∷ outputs_in i w gs xs
outs_mine i w g gs x xs h = rw (h, outputs_in) refl

outs_other : (i w : ℕ) (g : Given) (gs : List Given) (x : List Output) (xs : List (List Output)) → (node_of g % w == i) ≡ false → outputs_in i w (g ∷ gs) (x ∷ xs) ≡ outputs_in i w gs xs
outs_other i w g gs x xs h = rw (h, outputs_in) refl

pub lane_outputs : (o : Opening) (i w : ℕ) (gs : List Given) (ps qs : List Past) → Agree i w ps qs → outputs_in i w gs (run_from o ps gs).outputs ≡ (run_from o qs (lane gs i w)).outputs
lane_outputs o i w [] ps qs agree = refl
lane_outputs o i w (g ∷ gs) ps qs agree = go (node_of g % w == i) refl (asked o g) refl (lane_outputs o i w gs)
  where
    go : (b : Bool) → (node_of g % w == i) ≡ b → (a : AskedEvent) → asked o g ≡ a
        → ((ps qs : List Past) → Agree i w ps qs → outputs_in i w gs (run_from o ps gs).outputs ≡ (run_from o qs (lane gs i w)).outputs)
        → outputs_in i w (g ∷ gs) (run_from o ps (g ∷ gs)).outputs ≡ (run_from o qs (lane (g ∷ gs) i w)).outputs
    go true h (Refuses n) k rest =
        ap (λ (r : NodeRun). outputs_in i w (g ∷ gs) r.outputs) (run_step o ps g gs (Refuses n) k)
        ∙ outs_mine i w g gs (Output.Refused n ∷ []) (run_from o ps gs).outputs h
        ∙ more_outs _ _ _ _ refl (rest ps qs agree)
        ∙ sym (ap (λ (r : NodeRun). r.outputs) (run_step o qs g (lane gs i w) (Refuses n) k))
        ∙ ap (λ (l : List Given). (run_from o qs l).outputs) (sym (lane_mine g gs i w h))
    go false h (Refuses n) k rest =
        ap (λ (r : NodeRun). outputs_in i w (g ∷ gs) r.outputs) (run_step o ps g gs (Refuses n) k)
        ∙ outs_other i w g gs (Output.Refused n ∷ []) (run_from o ps gs).outputs h
        ∙ rest ps qs agree
        ∙ ap (λ (l : List Given). (run_from o qs l).outputs) (sym (lane_other g gs i w h))
    go true h (Is n e) k rest =
        let mine : (n % w == i) ≡ true = ap (λ (m : ℕ). m % w == i) (sym (asked_at o g n e k)) ∙ h in
        let same : given o ps n e ≡ given o qs n e = ap (λ (l : List Entry). answer (origin_at o n) l e) (agree n mine) in
        let entry : (given o ps n e).entry ≡ (given o qs n e).entry = ap (λ (a : Answer). a.entry) same in
        ap (λ (r : NodeRun). outputs_in i w (g ∷ gs) r.outputs) (run_step o ps g gs (Is n e) k)
        ∙ outs_mine i w g gs (refusal_of (given o ps n e).number ++ entry_outputs o n (given o ps n e).entry) (run_from o (with_entry ps n (given o ps n e).entry) gs).outputs h
        ∙ more_outs _ _ _ _ (ap (λ (a : Answer). refusal_of a.number ++ entry_outputs o n a.entry) same) (rest _ _ (agree_mine i w ps qs n _ _ mine entry agree))
        ∙ sym (ap (λ (r : NodeRun). r.outputs) (run_step o qs g (lane gs i w) (Is n e) k))
        ∙ ap (λ (l : List Given). (run_from o qs l).outputs) (sym (lane_mine g gs i w h))
    go false h (Is n e) k rest =
        let other : (n % w == i) ≡ false = ap (λ (m : ℕ). m % w == i) (sym (asked_at o g n e k)) ∙ h in
        ap (λ (r : NodeRun). outputs_in i w (g ∷ gs) r.outputs) (run_step o ps g gs (Is n e) k)
        ∙ outs_other i w g gs (refusal_of (given o ps n e).number ++ entry_outputs o n (given o ps n e).entry) (run_from o (with_entry ps n (given o ps n e).entry) gs).outputs h
        ∙ rest _ _ (agree_other i w ps qs n _ other agree)
        ∙ ap (λ (l : List Given). (run_from o qs l).outputs) (sym (lane_other g gs i w h))
