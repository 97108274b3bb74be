-- A Begin for which nothing can be wanting: what it makes of the node, and what goes out.
use Rattle.std.proofs.Common.{◌≡◌, ◌+◌, ◌<◌, ℕ, suc, Bool, true, false, Option, Some, None, IfSome, Result, Ok, Err, OnOk, OnErr, List, [], ◌∷◌, length, refl, ap, sym, ◌∙◌, arith}
use Rattle.std.specs.Prelude.{◌==◌, ◌&&◌, not, nat_lt}
use Rattle.std.proofs.lemmas.Bool.Decides.{nat_tests}
use Rattle.std.proofs.lemmas.Grind.{common_steps}
use Rattle.std.specs.Cmp.{unsigned_Decides}
use Rattle.tp_names.specs.declared.identifiers.Addr.{Addr}
use Rattle.tp_names.specs.declared.identifiers.Aaid.{Aaid}
use Rattle.tp_logrec.specs.declared.record.LogVersion.{LogVersion}
use Rattle.tp_records.specs.declared.dialogue.DialogueRecord.{DialogueRecord}
use Rattle.tp_model.specs.declared.arc.Side.{Side}
use Rattle.tp_model.specs.Parts.{Who, Link, Idle, Opening, Offered, Live, Arc, Dialogue, Current, Digest, Out}
use Rattle.tp_model.specs.Arcs.{find_arc, with_dialogue, carried}
use Rattle.tp_model.specs.Dialogues.{begun_by, named_holder}
use Rattle.tp_model.specs.Links.{greatest}
use Rattle.tp_model.specs.Requests.{room}
use Rattle.tp_model.specs.Events.{some_past_numbers}
use Rattle.tp_model.specs.Transactions.{Row, Transaction, aaid_of}
use Rattle.tp_model.specs.Node.{branches_of, may_begin_on}
use Rattle.tp_node_state.specs.declared.outs.Out.{Out as CodeOut}
use Rattle.tp_node_state.specs.Outs.{out_of, outs_of_option}
use Rattle.tp_node_state.specs.declared.outs.Next.{Next}
use Rattle.tp_node.specs.declared.node.Node.TheInside.{Inside}
use Rattle.tp_node.specs.Node.{Node, node_of, arcs_in, with_arcs, current_of}
use Rattle.tp_node_state.specs.Arcs.{Arcs, next_on, is_spent, outs_next}
use Rattle.tp_node.specs.Begins.{aaid_in, new_branch, begun_on, begun_sent, has_place_below, can_begin}
use Rattle.tp_node_state.proofs.Sides.{carried_next}
use Rattle.tp_node.proofs.Beginnings.{peer_found, on_found}

-- ---- there is memory for one branch more

pub as_many : (rs : List Row) → length (branches_of rs) ≡ length rs
as_many [] = refl
as_many (r ∷ rs) = ap suc (as_many rs)

pub rows_left : (t : Transaction) → has_place_below (Some (current_of t)) ≡ true → length t.rows < 256
rows_left t h = let many = as_many t.rows in grind (arith, nat_tests, many, h)

-- ---- what goes out

with_found : (arcs : List Arc) (p : ℕ) (a : Arc) (f : Dialogue → Dialogue) → find_arc arcs p ≡ Some a → find_arc (with_dialogue arcs p f) p ≡ Some (record a { dialogue = f a.dialogue })
with_found [] p a f found = absurd (cc (found))
with_found (b ∷ arcs) p a f found = go (b.peer.node == p) refl (with_found arcs p a f)
  where
    go : (t : Bool) → (b.peer.node == p) ≡ t → (find_arc arcs p ≡ Some a → find_arc (with_dialogue arcs p f) p ≡ Some (record a { dialogue = f a.dialogue })) → find_arc (with_dialogue (b ∷ arcs) p f) p ≡ Some (record a { dialogue = f a.dialogue })
    go true e rest = grind (arith, e, found)
    go false e rest = grind (arith, e, found, rest)

abbrev sent_by : ℕ → Digest × Option DialogueRecord → Digest × List Out
sent_by p b = elim b.1 as (λ _. Digest × List Out) [ None ↦ (b.0, []) | Some r ↦ let s = carried b.0.arcs p r in (record b.0 { arcs = s.0 }, s.1) ]

pub said_so : (who : Who) (p : ℕ) (d : Digest) (c : Current) (a : Arc) → d.current ≡ Some c → find_arc d.arcs p ≡ Some a → may_begin_on who d a ≡ true
    → (begun_sent who p d).1 ≡ outs_next a.peer (DialogueRecord.Begin (aaid_of c.key) (new_branch who d) (named_holder a.dialogue)) (next_on a.link)
said_so who p d c a e found may =
    let r : DialogueRecord = DialogueRecord.Begin (aaid_of c.key) (new_branch who d) (named_holder a.dialogue) in
    let at : a.peer.node ≡ p = (unsigned_Decides a.peer.node p).0 (peer_found d.arcs p a found) in
    let begun : Dialogue → Dialogue = begun_by (named_holder a.dialogue) Side.Superior in
    ap (λ (b : Digest × Option DialogueRecord). (sent_by p b).1) (on_found who p d c a e found may)
    ∙ ap (λ (n : ℕ). (carried (with_dialogue d.arcs n begun) p r).1) at
    ∙ ap (λ (s : List Arc × List Out). s.1) (carried_next (with_dialogue d.arcs p begun) p r (record a { dialogue = begun a.dialogue }) (with_found d.arcs p a begun found))

-- of the tree of the current transaction
pub says : (who : Who) (p : ℕ) (d : Digest) (u : Aaid) (a : Arc) → Some u ≡ aaid_in d.current → Some a ≡ find_arc d.arcs p → true ≡ may_begin_on who d a
    → (begun_sent who p d).1 ≡ outs_next a.peer (DialogueRecord.Begin u (new_branch who d) (named_holder a.dialogue)) (next_on a.link)
says who p d u a tree found may = go d.current refl tree
  where
    go : (o : Option Current) → d.current ≡ o → Some u ≡ aaid_in o → (begun_sent who p d).1 ≡ outs_next a.peer (DialogueRecord.Begin u (new_branch who d) (named_holder a.dialogue)) (next_on a.link)
    go None e f = absurd (cc (f))
    go (Some c) e f =
        let same : aaid_of c.key ≡ u = grind (arith, f) in
        said_so who p d c a e (sym found) (sym may) ∙ ap (λ (x : Aaid). outs_next a.peer (DialogueRecord.Begin x (new_branch who d) (named_holder a.dialogue)) (next_on a.link)) same

-- ---- nothing is wanting

abbrev may_by : Who → Digest → Option Arc → Bool
may_by who d o = elim o as (λ _. Bool) [ None ↦ false | Some a ↦ may_begin_on who d a && not (is_spent a.link) ]

all_three : (a b c d : Bool) → a ≡ true → b ≡ true → c ≡ true → d ≡ false → (a && b && (c && not d)) ≡ true
all_three a b c d h i j k = grind (arith, h, i, j, k)

pub sure : (who : Who) (p : ℕ) (d : Digest) (a : Arc) → has_place_below d.current ≡ true → nat_lt d.drawn greatest ≡ true → find_arc d.arcs p ≡ Some a → may_begin_on who d a ≡ true → is_spent a.link ≡ false → can_begin who p d ≡ true
sure who p d a place mark found may number =
    ap (λ (o : Option Arc). has_place_below d.current && nat_lt d.drawn greatest && may_by who d o) found
    ∙ all_three (has_place_below d.current) (nat_lt d.drawn greatest) (may_begin_on who d a) (is_spent a.link) place mark may number

parts : (a b c : Bool) → (a && b && c) ≡ true → (a ≡ true) × (b ≡ true) × (c ≡ true)
parts true true true e = (refl, refl, refl)
parts true true false e = absurd (cc (e))
parts true false c e = absurd (cc (e))
parts false b c e = absurd (cc (e))

both : (a b : Bool) → (a && not b) ≡ true → (a ≡ true) × (b ≡ false)
both true false e = (refl, refl)
both true true e = absurd (cc (e))
both false b e = absurd (cc (e))

-- what is known of such a one
pub record IsSure (who : Who) (p : ℕ) (d : Digest) : Type 0 where
  pub current : Current
  pub arc : Arc
  pub there : d.current ≡ Some current
  pub place : has_place_below d.current ≡ true
  pub mark : nat_lt d.drawn greatest ≡ true
  pub found : find_arc d.arcs p ≡ Some arc
  pub may : may_begin_on who d arc ≡ true
  pub number : is_spent arc.link ≡ false

pub known : (who : Who) (p : ℕ) (d : Digest) → can_begin who p d ≡ true → IsSure who p d
known who p d can = from_current d.current refl
  where
    all : (has_place_below d.current ≡ true) × (nat_lt d.drawn greatest ≡ true) × (may_by who d (find_arc d.arcs p) ≡ true)
    all = parts (has_place_below d.current) (nat_lt d.drawn greatest) (may_by who d (find_arc d.arcs p)) can

    from_arc : (c : Current) (o : Option Arc) → d.current ≡ Some c → find_arc d.arcs p ≡ o → may_by who d o ≡ true → IsSure who p d
    from_arc c None e f may = absurd (cc (may))
    from_arc c (Some a) e f may =
        let b = both (may_begin_on who d a) (is_spent a.link) may in
        record { current = c; arc = a; there = e; place = all.0; mark = all.1; found = f; may = b.0; number = b.1 }

    from_current : (o : Option Current) → d.current ≡ o → IsSure who p d
    from_current None e = absurd (let clash : false ≡ true = sym (ap has_place_below e) ∙ all.0 in cc (clash))
    from_current (Some c) e = from_arc c (find_arc d.arcs p) e refl all.2

-- the mark that is drawn
pub next_count : (n : ℕ) → n + 1 ≡ suc n
next_count n = omega arith

pub begun_drawn : (who : Who) (p : ℕ) (d : Digest) → can_begin who p d ≡ true → (begun_on who p d).0.drawn ≡ suc d.drawn
begun_drawn who p d can =
    let k = known who p d can in
    ap (λ (b : Digest × Option DialogueRecord). b.0.drawn) (on_found who p d k.current k.arc k.there k.found k.may)

unspent_next : (to : Addr) (r : DialogueRecord) (l : Link) → is_spent l ≡ false → some_past_numbers (outs_next to r (next_on l)) ≡ false
unspent_next to r Idle h = refl
unspent_next to r (Opening x) h = refl
unspent_next to r (Offered x) h = refl
unspent_next to r (Live x y s t) h = grind (arith, common_steps, h)

pub numbers_left : (who : Who) (p : ℕ) (d : Digest) → can_begin who p d ≡ true → some_past_numbers (begun_sent who p d).1 ≡ false
numbers_left who p d can =
    let k = known who p d can in
    ap some_past_numbers (said_so who p d k.current k.arc k.there k.found k.may)
    ∙ unspent_next k.arc.peer (DialogueRecord.Begin (aaid_of k.current.key) (new_branch who d) (named_holder k.arc.dialogue)) k.arc.link k.number

-- ---- the record goes out

pub said_once : (o : Option CodeOut) (outs : List Out) → outs_of_option o ≡ outs → IfSome o (λ out. outs ≡ out_of out ∷ [])
said_once None outs e = tt
said_once (Some x) outs e = sym e

sent_some : (p : ℕ) (b : Digest × Option DialogueRecord) (r : DialogueRecord) → b.1 ≡ Some r → sent_by p b ≡ (record b.0 { arcs = (carried b.0.arcs p r).0 }, (carried b.0.arcs p r).1)
sent_some p b r e = ap (λ (o : Option DialogueRecord). elim o as (λ _. Digest × List Out) [ None ↦ (b.0, []) | Some x ↦ let s = carried b.0.arcs p x in (record b.0 { arcs = s.0 }, s.1) ]) e

pub carries : (who : Who) (p : ℕ) (d : Digest) (r : DialogueRecord) → can_begin who p d ≡ true → Some r ≡ (begun_on who p d).1 → some_past_numbers (carried (begun_on who p d).0.arcs p r).1 ≡ false
carries who p d r can e = sym (ap (λ (s : Digest × List Out). some_past_numbers s.1) (sent_some p (begun_on who p d) r (sym e))) ∙ numbers_left who p d can

-- ---- a record is numbered

pub numbered_fits : {E : Type 0} (o : Result (Option Next) E) (version : LogVersion) (a b : Arcs) (p : ℕ) (r : DialogueRecord) → OnOk o (b ≡ record a { arcs = (carried a.arcs p r).0 }) → OnErr o (b ≡ a) → a.room ≡ room version → b.room ≡ room version
numbered_fits (Ok n) version a b p r is same fits = ap (λ (x : Arcs). x.room) is ∙ fits
numbered_fits (Err e) version a b p r is same fits = ap (λ (x : Arcs). x.room) same ∙ fits

pub numbered_node : {E : Type 0} (o : Result (Option Next) E) (v : Inside) (n : Node) (a b : Arcs) (p : ℕ) (r : DialogueRecord) → v.arcs ≡ Some a → node_of v ≡ n → OnOk o (b ≡ record a { arcs = (carried a.arcs p r).0 })
    → OnOk o (node_of (record v { arcs = Some b }) ≡ with_arcs n (carried n.digest.arcs p r).0)
numbered_node (Ok n) v m a b p r at is to =
    ap (λ (x : Arcs). node_of (record v { arcs = Some x })) to
    ∙ ap (λ (s : Option Arcs). with_arcs (node_of (record v { arcs = s })) (carried (arcs_in s) p r).0) (sym at)
    ∙ ap (λ (x : Node). with_arcs x (carried x.digest.arcs p r).0) is
numbered_node (Err e) v m a b p r at is to = tt
