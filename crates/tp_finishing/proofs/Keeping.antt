-- What recovery makes of the transactions that a node keeps for their damage, where it has no other and no associations.
use Rattle.std.proofs.Common.{if◌then◌else◌, ◌≡◌, inl, ℕ, suc, ◌≤◌, ◌+◌, ◌*◌, Bool, true, false, refl, ap, sym, subst, ◌∙◌, arith, Option, Some, None, List, [], ◌∷◌, ◌&&◌, not, length}
use Rattle.tp_names.specs.declared.identifiers.Aaid.{Aaid}
use Rattle.tp_names.specs.declared.identifiers.Addr.{Addr}
use Rattle.tp_names.specs.declared.identifiers.BranchId.{BranchId}
use Rattle.tp_names.specs.declared.identifiers.NodeKey.{NodeKey}
use Rattle.tp_names.specs.declared.children.Child.{Child}
use Rattle.tp_names.specs.declared.outcome.Report.{Report}
use Rattle.tp_names.specs.Same.{is_aaid, is_key}
use Rattle.tp_names.specs.Reports.{join, is_report_none}
use Rattle.tp_names.proofs.Sames.{key_self, key_same, aaid_same}
use Rattle.tp_records.specs.declared.peer.PeerRecord.{PeerRecord}
use Rattle.tp_records.specs.declared.peer.RecState.{RecState}
use Rattle.tp_logrec.specs.declared.record.LogRec.{LogRec}
use Rattle.tp_model.specs.declared.transaction.TxOut.{TxOut}
use Rattle.tp_model.specs.declared.transaction.Step.{Step}
use Rattle.tp_model.specs.declared.recovery.Kept.{Kept}
use Rattle.tp_model.specs.declared.recovery.KeptEvent.{KeptEvent}
use Rattle.tp_model.specs.Parts.{Who, Event, Arc, Current, Digest}
use Rattle.tp_model.specs.Links.{greatest}
use Rattle.tp_model.specs.Dialogues.{is_committing}
use Rattle.tp_model.specs.declared.transaction.TxEvent.{TxEvent}
use Rattle.tp_model.specs.Node.{transact}
use Rattle.tp_model.proofs.Verdicts.{plainly_not, none_if_accepted}
use Rattle.tp_model.specs.Arcs.{performed}
use Rattle.tp_model.specs.Recovery.{is_commit, is_root_key, find_owed, find_kept, without_owed, is_nothing_owed, put_kept, without_kept, with_forget, noted, settled, kept_by, kept_after, forget_to, rec_of_done}
use Rattle.tp_model.specs.Node.{Move, move, keep, perform}
use Rattle.tp_model.specs.Arrivals.{Named, branch_key, kept_owing, kept_of, named_by_key, named_by_branch, child_addr, kept_superior, is_other, refused_arrival, take_done_reply}
use Rattle.tp_model.specs.Events.{refusal, refused_plainly, needs_numbers, some_past_numbers, action, is_no_node, purge}
use Rattle.tp_steps.specs.Moves.{are_apart}
use Rattle.tp_histories.specs.Histories.{IsSentIn}
use Rattle.tp_steps.proofs.lemmas.Options.{some_same}
use Rattle.tp_finishing.specs.Finishing.{lines_to_forget, lines_of_kept, lines_at}
use Rattle.tp_finishing.proofs.Answering.{addr_self}
use Rattle.tp_finishing.proofs.Costs.{lines_of_one, owed_less}
use Rattle.tp_finishing.proofs.Ending.{Lowers}
use Rattle.tp_finishing.proofs.Still.{none_left, none_past, enough}
use Rattle.tp_finishing.proofs.Taking.{Taken, taken_by}

-- a node without associations and without a current transaction, which keeps these
abbrev pub idle : Digest → List Kept → Digest
idle d ks = record d { arcs = []; current = None; kept = ks }

pub idle_is : (d : Digest) (ks : List Kept) → d.arcs ≡ [] → d.current ≡ None → d.kept ≡ ks → d ≡ idle d ks
idle_is d ks i j k =
    let one : ◌≡◌ {A = Digest} d (record d { arcs = [] }) = ap (λ (arcs : List Arc). let x : Digest = record d { arcs = arcs } in x) i in
    let two : ◌≡◌ {A = Digest} (record d { arcs = [] }) (record d { arcs = []; current = None }) = ap (λ (o : Option Current). let x : Digest = record d { arcs = []; current = o } in x) j in
    one ∙ two ∙ ap (λ (l : List Kept). let x : Digest = record d { arcs = []; current = None; kept = l } in x) k

forget_apart : (a : Addr) (k : NodeKey) (b : BranchId) (r : Report) → are_apart (forget_to a k b r) ≡ true
forget_apart a k b r = go (is_report_none r)
  where
    go : (v : Bool) → are_apart (if v then [] else TxOut.Recovery a (PeerRecord.Forget k.aaid b) ∷ []) ≡ true
    go true = refl
    go false = refl

-- what a step of a kept transaction leaves
keep_next : (s : Step) (d : Digest) (ks : List Kept) → (keep s (idle d ks)).next ≡ idle d (kept_after s.rec ks)
keep_next s d ks = ap (λ (arcs : List Arc). let x : Digest = record d { arcs = arcs; current = None; kept = kept_after s.rec ks } in x) (none_left s.outs)

keep_numbers : (s : Step) (d : Digest) (ks : List Kept) → are_apart s.outs ≡ true → d.drawn ≤ greatest → needs_numbers (keep s (idle d ks)) ≡ false
keep_numbers s d ks h n = enough d.drawn (some_past_numbers (performed [] s.outs).1) n (none_past s.outs h)

idle_lowers : (n cost : ℕ) (d : Digest) (ks : List Kept) → lines_of_kept ks + n ≤ cost → Lowers n cost (idle d ks)
idle_lowers n cost d ks h = record { quiet = record { arcs = refl; active = refl; rolling = refl }; less = omega (arith, h) }

head_found : (k : Kept) (ks : List Kept) → find_kept (k ∷ ks) k.key ≡ Some k
head_found k ks = rw (key_self k.key, find_kept) refl

-- ---- a branch that is owed is done

head_gone : (k : Kept) (ks : List Kept) → without_kept (k ∷ ks) k.key ≡ ks
head_gone k ks = rw (key_self k.key, without_kept) refl

-- where a branch is taken out of what is owed
put_fewer : (ks : List Kept) (k x : Kept) → find_kept ks x.key ≡ Some k → (is_commit x.side && not (is_root_key x.key)) ≡ (is_commit k.side && not (is_root_key k.key)) → suc (length x.owed) ≡ length k.owed → lines_of_kept (put_kept ks x) + 3 ≡ lines_of_kept ks
put_fewer [] k x h head less = absurd (cc (h))
put_fewer (y ∷ ks) k x h head less = go (is_key y.key x.key) h (λ i. put_fewer ks k x i head less)
  where
    fewer : (a b m n l : ℕ) → a ≡ b → suc m ≡ n → a + 3 * m + l + 3 ≡ b + 3 * n + l
    fewer a b m n l i j = omega (arith, i, j)

    behind : (a b c : ℕ) → b + 3 ≡ c → a + b + 3 ≡ a + c
    behind a b c i = omega (arith, i)

    go : (v : Bool) → (if v then Some y else find_kept ks x.key) ≡ Some k → (find_kept ks x.key ≡ Some k → lines_of_kept (put_kept ks x) + 3 ≡ lines_of_kept ks)
        → lines_of_kept (if v then record x { forgot = y.forgot } ∷ ks else y ∷ put_kept ks x) + 3 ≡ lines_of_kept (y ∷ ks)
    go true i rest =
        let same : y ≡ k = some_same y k i in
        fewer (lines_to_forget (is_commit x.side && not (is_root_key x.key))) (lines_to_forget (is_commit y.side && not (is_root_key y.key))) (length x.owed) (length y.owed) (lines_of_kept ks)
        (ap lines_to_forget (head ∙ ap (λ (z : Kept). is_commit z.side && not (is_root_key z.key)) (sym same))) (less ∙ ap (λ (z : Kept). length z.owed) (sym same))
    go false i rest = behind (lines_of_one y) (lines_of_kept (put_kept ks x)) (lines_of_kept ks) (rest i)

gone_fewer : (ks : List Kept) (k : Kept) (j : NodeKey) → find_kept ks j ≡ Some k → lines_of_kept (without_kept ks j) + lines_of_one k ≡ lines_of_kept ks
gone_fewer [] k j h = absurd (cc (h))
gone_fewer (y ∷ ks) k j h = go (is_key y.key j) h (gone_fewer ks k j)
  where
    swap : (a b : ℕ) → a + b ≡ b + a
    swap a b = omega arith

    behind : (a b c d : ℕ) → b + c ≡ d → a + b + c ≡ a + d
    behind a b c d i = omega (arith, i)

    go : (v : Bool) → (if v then Some y else find_kept ks j) ≡ Some k → (find_kept ks j ≡ Some k → lines_of_kept (without_kept ks j) + lines_of_one k ≡ lines_of_kept ks) → lines_of_kept (if v then ks else y ∷ without_kept ks j) + lines_of_one k ≡ lines_of_kept (y ∷ ks)
    go true i rest = let same : lines_of_one k ≡ lines_of_one y = ap lines_of_one (sym (some_same y k i)) in ap (λ (n : ℕ). lines_of_kept ks + n) same ∙ swap (lines_of_kept ks) (lines_of_one y)
    go false i rest = behind (lines_of_one y) (lines_of_kept (without_kept ks j)) (lines_of_one k) (lines_of_kept ks) (rest i)

-- what a branch that is done leaves of what is kept
pub done_kept : (k : Kept) (ks : List Kept) (a : Addr) (b : BranchId) (r : Report) (c : Child) → find_kept ks k.key ≡ Some k → find_owed k.owed b ≡ Some c → lines_of_kept (kept_after (settled k (KeptEvent.Done a b r)).rec ks) + 3 ≤ lines_of_kept ks
unfolding settled kept_by
done_kept k ks a b r c there found = subst (λ (o : Option LogRec). lines_of_kept (kept_after o ks) + 3 ≤ lines_of_kept ks) (sym (ap (λ (o : Option Child). elim o as (λ _. Option LogRec) [ None ↦ None | Some x ↦ Some (rec_of_done k b r) ]) found)) (go (is_nothing_owed (without_owed k.owed b) && k.forgot))
  where
    few : (a b m n l : ℕ) → suc m ≡ n → l + (a + 3 * n) ≡ b → l + 3 ≤ b
    few a b m n l i j = omega (arith, i, j)

    same : (a b : ℕ) → a ≡ b → a ≤ b
    same a b i = omega (arith, i)

    go : (v : Bool) → lines_of_kept (kept_after (Some (if v then LogRec.End k.node k.key k.side else LogRec.Damage k.node k.key k.superior k.side (join k.report r) (without_owed k.owed b))) ks) + 3 ≤ lines_of_kept ks
    go true = few (lines_to_forget (is_commit k.side && not (is_root_key k.key))) (lines_of_kept ks) (length (without_owed k.owed b)) (length k.owed) (lines_of_kept (without_kept ks k.key)) (owed_less k.owed b c found) (gone_fewer ks k k.key there)
    go false =
        let x : Kept = record { node = k.node; key = k.key; superior = k.superior; side = k.side; report = join k.report r; owed = without_owed k.owed b; forgot = false } in
        same (lines_of_kept (put_kept ks x) + 3) (lines_of_kept ks) (put_fewer ks k x there refl (owed_less k.owed b c found))

done_apart : (k : Kept) (a : Addr) (b : BranchId) (r : Report) → are_apart (settled k (KeptEvent.Done a b r)).outs ≡ true
unfolding settled
done_apart k a b r = forget_apart a k.key b r

-- what a Done makes of what is named
done_at : Who → Digest → Addr → Aaid → BranchId → Report → Named → Move
done_at who d from t b r n =
    if elim n.current as (λ _. Bool) [ None ↦ false | Some c ↦ is_committing c.phase ] then transact who (TxEvent.Reply b (RecState.Done r)) d
    else elim n.kept as (λ _. Move) [
      | Some k ↦ keep (settled k (KeptEvent.Done from b r)) d
      | None ↦ elim n.current as (λ _. Move) [ Some c ↦ move [] d | None ↦ perform (forget_to from (branch_key t b) b r) d ]
    ]

pub owed_done : (who : Who) (d : Digest) (k : Kept) (ks : List Kept) (from : Addr) (t : Aaid) (b : BranchId) (r : Report) (c : Child) → is_aaid k.key.aaid t ≡ true → find_owed k.owed b ≡ Some c
    → is_other (child_addr (named_by_branch (idle d (k ∷ ks)) t b) b) from ≡ false → d.drawn ≤ greatest
    → Taken who (idle d (k ∷ ks)) (Event.Arrive from (PeerRecord.RecReply t b (RecState.Done r))) (idle d (kept_after (settled k (KeptEvent.Done from b r)).rec (k ∷ ks)))
unfolding refused_arrival done_at
owed_done who d k ks from t b r c tree found own h = taken_by who z f (idle d (kept_after s.rec (k ∷ ks))) plain (ap needs_numbers same ∙ keep_numbers s d (k ∷ ks) apart h) (ap (λ (m : Move). m.next) same ∙ keep_next s d (k ∷ ks))
  where
    z : Digest
    z = idle d (k ∷ ks)

    s : Step
    s = settled k (KeptEvent.Done from b r)

    f : Event
    f = Event.Arrive from (PeerRecord.RecReply t b (RecState.Done r))

    plain : refused_plainly who z f ≡ None
    plain = rw own refl

    apart : are_apart s.outs ≡ true
    apart = done_apart k from b r

    owing : kept_owing (k ∷ ks) t b ≡ Some k.key
    owing = rw (tree, found, kept_owing) refl

    named : named_by_branch z t b ≡ record { current = None; kept = Some k }
    named =
        ap (λ (o : Option NodeKey). elim (elim o as (λ _. Option NodeKey) [ Some j ↦ Some j | None ↦ kept_of (k ∷ ks) t ]) as (λ _. Named) [ None ↦ record { current = None; kept = None } | Some j ↦ named_by_key z j ]) owing
        ∙ ap (λ (o : Option Kept). let n : Named = record { current = None; kept = o } in n) (head_found k ks)

    same : take_done_reply who from t b r z ≡ keep s z
    same = ap (λ (n : Named). done_at who z from t b r n) named

-- ---- a superior hears that a branch is done

owing_tree : (ks : List Kept) (t : Aaid) (b : BranchId) (k : NodeKey) → kept_owing ks t b ≡ Some k → is_aaid k.aaid t ≡ true
owing_tree [] t b k h = absurd (cc (h))
owing_tree (x ∷ ks) t b k h = go (is_aaid x.key.aaid t) refl (elim (find_owed x.owed b) as (λ _. Bool) [ None ↦ false | Some c ↦ true ]) h (owing_tree ks t b k)
  where
    go : (u : Bool) → is_aaid x.key.aaid t ≡ u → (v : Bool) → (if u && v then Some x.key else kept_owing ks t b) ≡ Some k → (kept_owing ks t b ≡ Some k → is_aaid k.aaid t ≡ true) → is_aaid k.aaid t ≡ true
    go true i true j rest = ap (λ (z : NodeKey). is_aaid z.aaid t) (sym (some_same x.key k j)) ∙ i
    go true i false j rest = rest j
    go false i v j rest = rest j

of_tree : (ks : List Kept) (t : Aaid) (k : NodeKey) → kept_of ks t ≡ Some k → is_aaid k.aaid t ≡ true
of_tree [] t k h = absurd (cc (h))
of_tree (x ∷ ks) t k h = go (is_aaid x.key.aaid t) refl h (of_tree ks t k)
  where
    go : (u : Bool) → is_aaid x.key.aaid t ≡ u → (if u then Some x.key else kept_of ks t) ≡ Some k → (kept_of ks t ≡ Some k → is_aaid k.aaid t ≡ true) → is_aaid k.aaid t ≡ true
    go true i j rest = ap (λ (z : NodeKey). is_aaid z.aaid t) (sym (some_same x.key k j)) ∙ i
    go false i j rest = rest j

pub found_key : (ks : List Kept) (k : NodeKey) (x : Kept) → find_kept ks k ≡ Some x → x.key ≡ k
found_key [] k x h = absurd (cc (h))
found_key (y ∷ ks) k x h = go (is_key y.key k) refl h (found_key ks k x)
  where
    go : (v : Bool) → is_key y.key k ≡ v → (if v then Some y else find_kept ks k) ≡ Some x → (find_kept ks k ≡ Some x → x.key ≡ k) → x.key ≡ k
    go true i j rest = ap (λ (z : Kept). z.key) (sym (some_same y x j)) ∙ key_same y.key k i
    go false i j rest = rest j

-- what is named of a branch where nothing is current: a transaction of its tree, or nothing
data NamedIdle (ks : List Kept) (n : Named) (t : Aaid) : Type 0 where
  Nothing_named : n ≡ record { current = None; kept = None } → NamedIdle ks n t
  Kept_named : (k : Kept) → n ≡ record { current = None; kept = Some k } → k.key.aaid ≡ t → find_kept ks k.key ≡ Some k → NamedIdle ks n t

named_idle : (d : Digest) (ks : List Kept) (t : Aaid) (b : BranchId) → NamedIdle ks (named_by_branch (idle d ks) t b) t
named_idle d ks t b = go (kept_owing ks t b) refl (kept_of ks t) refl
  where
    at : (j : NodeKey) → is_aaid j.aaid t ≡ true → (o : Option Kept) → find_kept ks j ≡ o → NamedIdle ks (record { current = None; kept = o }) t
    at j tree None i = Nothing_named refl
    at j tree (Some k) i = Kept_named k refl (ap (λ (z : NodeKey). z.aaid) (found_key ks j k i) ∙ aaid_same j.aaid t tree) (ap (find_kept ks) (found_key ks j k i) ∙ i)

    go : (o : Option NodeKey) → kept_owing ks t b ≡ o → (v : Option NodeKey) → kept_of ks t ≡ v
        → NamedIdle ks (elim (elim o as (λ _. Option NodeKey) [ Some j ↦ Some j | None ↦ v ]) as (λ _. Named) [ None ↦ record { current = None; kept = None } | Some j ↦ named_by_key (idle d ks) j ]) t
    go (Some j) i v m = at j (owing_tree ks t b j i) (find_kept ks j) refl
    go None i (Some j) m = at j (of_tree ks t j m) (find_kept ks j) refl
    go None i None m = Nothing_named refl

-- it lets the branch forget it, and owes no more than before
pub record HearsDone (who : Who) (d : Digest) (from : Addr) (t : Aaid) (b : BranchId) (r : Report) : Type 0 where
  pub ok : refusal who d (Event.Arrive from (PeerRecord.RecReply t b (RecState.Done r))) ≡ None
  pub lowers : Lowers 0 (lines_at d) (action who d (Event.Arrive from (PeerRecord.RecReply t b (RecState.Done r)))).next
  pub says : IsSentIn (action who d (Event.Arrive from (PeerRecord.RecReply t b (RecState.Done r)))).outs from (PeerRecord.Forget t b)
  pub idle_still : (action who d (Event.Arrive from (PeerRecord.RecReply t b (RecState.Done r)))).next.current ≡ None

forgets : (from : Addr) (k : NodeKey) (t : Aaid) (b : BranchId) (r : Report) → k.aaid ≡ t → is_report_none r ≡ false → IsSentIn (performed [] (forget_to from k b r)).1 from (PeerRecord.Forget t b)
forgets from k t b r tree some = rw some (inl (refl, ap (λ (u : Aaid). PeerRecord.Forget u b) tree))

still : (k : Kept) (ks : List Kept) (a : Addr) (b : BranchId) (r : Report) → find_owed k.owed b ≡ None → lines_of_kept (kept_after (settled k (KeptEvent.Done a b r)).rec ks) ≤ lines_of_kept ks
unfolding settled
still k ks a b r i = subst (λ (o : Option Child). lines_of_kept (kept_after (elim o as (λ _. Option LogRec) [ None ↦ None | Some c ↦ Some (rec_of_done k b r) ]) ks) ≤ lines_of_kept ks) (sym i) (omega arith)

settled_less : (k : Kept) (ks : List Kept) (a : Addr) (b : BranchId) (r : Report) → find_kept ks k.key ≡ Some k → lines_of_kept (kept_after (settled k (KeptEvent.Done a b r)).rec ks) ≤ lines_of_kept ks
settled_less k ks a b r there = go (find_owed k.owed b) refl
  where
    go : (o : Option Child) → find_owed k.owed b ≡ o → lines_of_kept (kept_after (settled k (KeptEvent.Done a b r)).rec ks) ≤ lines_of_kept ks
    go None i = still k ks a b r i
    go (Some c) i = let less = done_kept k ks a b r c there i in omega (arith, less)

pub done_heard : (who : Who) (d : Digest) (ks : List Kept) (from : Addr) (t : Aaid) (b : BranchId) (r : Report) → is_report_none r ≡ false → is_other (child_addr (named_by_branch (idle d ks) t b) b) from ≡ false → d.drawn ≤ greatest
    → HearsDone who (idle d ks) from t b r
unfolding refused_arrival done_at settled
done_heard who d ks from t b r some own h = go (named_idle d ks t b)
  where
    z : Digest
    z = idle d ks

    f : Event
    f = Event.Arrive from (PeerRecord.RecReply t b (RecState.Done r))

    plain : refused_plainly who z f ≡ None
    plain = rw own refl

    answered : (m : Move) → action who z f ≡ m → (e : Digest) → m.next ≡ e → needs_numbers m ≡ false → Lowers 0 (lines_at z) e → e.current ≡ None → IsSentIn m.outs from (PeerRecord.Forget t b) → HearsDone who z from t b r
    answered m same e left numbers low none says =
        let took : Taken who z f e = taken_by who z f e plain (ap needs_numbers same ∙ numbers) (ap (λ (x : Move). x.next) same ∙ left) in
        record {
          ok = took.ok;
          lowers = subst (Lowers 0 (lines_at z)) (sym took.next_is) low;
          says = subst (λ (x : Move). IsSentIn x.outs from (PeerRecord.Forget t b)) (sym same) says;
          idle_still = ap (λ (x : Digest). x.current) took.next_is ∙ none;
        }

    go : NamedIdle ks (named_by_branch z t b) t → HearsDone who z from t b r
    go (Nothing_named i) = answered (perform outs z) (ap (done_at who z from t b r) i) (idle d ks) left (enough d.drawn (some_past_numbers (performed [] outs).1) h (none_past outs (forget_apart from (branch_key t b) b r))) (idle_lowers 0 (lines_at z) d ks (omega arith)) refl (forgets from (branch_key t b) t b r refl some)
      where
        outs : List TxOut
        outs = forget_to from (branch_key t b) b r

        left : (perform outs z).next ≡ idle d ks
        left = ap (λ (arcs : List Arc). let x : Digest = record d { arcs = arcs; current = None; kept = ks } in x) (none_left outs)
    go (Kept_named k i tree there) =
        let s : Step = settled k (KeptEvent.Done from b r) in
        let less = settled_less k ks from b r there in
        answered (keep s z) (ap (done_at who z from t b r) i) (idle d (kept_after s.rec ks)) (keep_next s d ks) (keep_numbers s d ks (done_apart k from b r) h) (idle_lowers 0 (lines_at z) d (kept_after s.rec ks) (omega (arith, less))) refl (forgets from k.key t b r tree some)

-- ---- Forget is taken

noted_head : (k : Kept) → (noted k KeptEvent.Forget).key ≡ k.key
noted_head k = go (is_commit k.side)
  where
    go : (b : Bool) → (if b then record k { forgot = true } else k).key ≡ k.key
    go true = refl
    go false = refl

pub forget_taken : (who : Who) (d : Digest) (k : Kept) (ks : List Kept) (from : Addr) (t : Aaid) (b : BranchId) → k.key ≡ branch_key t b → k.superior ≡ Some from → is_commit k.side ≡ true → k.owed ≡ [] → d.drawn ≤ greatest
    → Taken who (idle d (k ∷ ks)) (Event.Arrive from (PeerRecord.Forget t b)) (idle d ks)
unfolding refused_arrival settled kept_by
forget_taken who d k ks from t b key up side none h = taken_by who z f (idle d ks) plain (ap needs_numbers same ∙ keep_numbers (settled k KeptEvent.Forget) d js refl h) (ap (λ (m : Move). m.next) same ∙ keep_next (settled k KeptEvent.Forget) d js ∙ ap (idle d) gone)
  where
    z : Digest
    z = idle d (k ∷ ks)

    js : List Kept
    js = with_forget (k ∷ ks) (branch_key t b) (λ y. noted y KeptEvent.Forget)

    f : Event
    f = Event.Arrive from (PeerRecord.Forget t b)

    found : find_kept (k ∷ ks) (branch_key t b) ≡ Some k
    found = ap (find_kept (k ∷ ks)) (sym key) ∙ head_found k ks

    own : is_other (kept_superior (named_by_key z (branch_key t b))) from ≡ false
    own = rw found (rw up (rw (addr_self from) refl))

    plain : refused_plainly who z f ≡ None
    plain = rw own refl

    same : action who z f ≡ keep (settled k KeptEvent.Forget) (idle d js)
    same = ap (λ (o : Option Kept). elim o as (λ _. Move) [ None ↦ move [] z | Some x ↦ keep (settled x KeptEvent.Forget) (idle d js) ]) found

    put : js ≡ noted k KeptEvent.Forget ∷ ks
    put = ap (λ (j : NodeKey). with_forget (k ∷ ks) j (λ y. noted y KeptEvent.Forget)) (sym key) ∙ rw (key_self k.key, with_forget) refl

    rec : (settled k KeptEvent.Forget).rec ≡ Some (LogRec.End k.node k.key k.side)
    rec = rw (side, none) refl

    gone : kept_after (settled k KeptEvent.Forget).rec js ≡ ks
    gone = ap (λ (o : Option LogRec). kept_after o js) rec ∙ ap (λ (l : List Kept). without_kept l k.key) put ∙ ap (without_kept (noted k KeptEvent.Forget ∷ ks)) (sym (noted_head k)) ∙ head_gone (noted k KeptEvent.Forget) ks

-- ---- the oldest is purged

pub purge_taken : (who : Who) (d : Digest) (k : Kept) (ks : List Kept) → is_no_node d ≡ false → k.owed ≡ [] → (is_commit k.side && not (is_root_key k.key)) ≡ false → Taken who (idle d (k ∷ ks)) Event.Purge (idle d ks)
unfolding purge settled kept_by
purge_taken who d k ks node none free = record { ok = none_if_accepted who z Event.Purge (plainly_not who z Event.Purge plain); next_is = keep_next (settled k KeptEvent.Purge) d (k ∷ ks) ∙ ap (idle d) gone }
  where
    z : Digest
    z = idle d (k ∷ ks)

    plain : refused_plainly who z Event.Purge ≡ None
    plain = rw (node, none, free) refl

    gone : without_kept (k ∷ ks) k.key ≡ ks
    gone = rw (key_self k.key, without_kept) refl
