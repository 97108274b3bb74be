-- Every event of a node leaves what is kept true of it, and what it forces is shaped as a text asks: an instance of the steps of a
-- node.
use Rattle.std.proofs.Common.{if◌then◌else◌, ◌≡◌, ◌≤◌, ◌+◌, ◌==◌, ◌&&◌, ◌||◌, not, nat_le, ℕ, suc, Bool, true, false, refl, ap, sym, subst, ◌∙◌, arith, Option, Some, None, List, [], ◌∷◌, ◌++◌, length}
use Rattle.std.proofs.lemmas.Bool.Decides.{nat_tests}
use Rattle.tp_names.specs.declared.identifiers.Aaid.{Aaid}
use Rattle.tp_names.specs.declared.identifiers.BranchId.{BranchId}
use Rattle.tp_names.specs.declared.identifiers.Mark.{Mark}
use Rattle.tp_names.specs.declared.identifiers.Addr.{Addr}
use Rattle.tp_names.specs.declared.children.Child.{Child}
use Rattle.tp_names.specs.declared.outcome.Report.{Report}
use Rattle.tp_names.specs.Same.{is_addr}
use Rattle.tp_names.specs.Reports.{join, is_report_none}
use Rattle.tp_records.specs.declared.request.Request.{Request}
use Rattle.tp_records.specs.declared.dialogue.DialogueRecord.{DialogueRecord}
use Rattle.tp_records.specs.declared.peer.PeerRecord.{PeerRecord}
use Rattle.tp_logrec.specs.declared.record.LogRec.{LogRec}
use Rattle.tp_logrec.specs.declared.record.LogVersion.{LogVersion}
use Rattle.tp_model.specs.declared.arc.Phase.{Phase}
use Rattle.tp_model.specs.declared.arc.Side.{Side}
use Rattle.tp_model.specs.declared.transaction.TxEvent.{TxEvent}
use Rattle.tp_model.specs.declared.transaction.TxOut.{TxOut}
use Rattle.tp_model.specs.declared.recovery.Kept.{Kept}
use Rattle.tp_model.specs.declared.recovery.KeptEvent.{KeptEvent}
use Rattle.tp_model.specs.Parts.{Who, Event, Link, Idle, Opening, Offered, Live, Dialogue, Arc, Branch, Under, Current, Digest}
use Rattle.tp_model.specs.Links.{with_one_taken}
use Rattle.tp_model.specs.Dialogues.{is_nil, is_active, is_ready, is_committing, first, begun_by, named_holder}
use Rattle.tp_model.specs.Arcs.{find_arc, put_arc, without_arc, with_dialogue, with_link, performed}
use Rattle.tp_model.specs.Transactions.{Transaction, Turn, aaid_of, is_under, row_holds, is_under_at, transacted, situation_of}
use Rattle.tp_model.specs.Recovery.{is_commit, settled, find_owed, without_owed, rec_of_done, is_nothing_owed, kept_after}
use Rattle.tp_model.specs.Node.{Move, move, followed, superior_arc, phase_of, seen, seen_rows, situation_at, remaining, branches_of, Passage, passage, is_leaving, with_mark_drawn, with_begun, may_begin_on, begin_on, turned, keep, is_superior}
use Rattle.tp_model.specs.Requests.{room, count_below, count_gone, count_subordinates, has_branch_at, refused_request}
use Rattle.tp_model.specs.Arrivals.{is_from_superior, refused_arrival}
use Rattle.tp_model.specs.Events.{after_crash, recovered, recovered_current, named_again, is_no_node, unless_missing, refusal, verdict, action}
use Rattle.tp_model.proofs.Verdicts.{plainly_none}
use Rattle.tp_steps.specs.Moves.{IsLate, IsPut, StandsIn, Moves, prelude, accepted_by, accepted_on, linked, begun_in, counted_in}
use Rattle.tp_steps.proofs.every.EveryEvent.{every_move, plain_request, plain_arrival}
use Rattle.tp_steps.proofs.every.EveryMove.{seen_branch}
use Rattle.tp_steps.proofs.every.BeginCases.{next_child, begun_over, begin_cases}
use Rattle.tp_steps.proofs.lemmas.EachKept.{each_after, each_noted, each_unnoted}
use Rattle.tp_steps.proofs.log.KinTurns.{kin, kids, kids_seen, kids_left, kids_more, kin_turn}
use Rattle.tp_histories.proofs.trees.Late.{late_remaining, late_prelude}
use Rattle.tp_texts.specs.Texts.{most_children}
use Rattle.tp_texts.specs.Shapes.{IsShaped}
use Rattle.tp_encodable.proofs.Places.{peers, has, is_up, below, gone, is_at, are_apart, count_is, gone_is, counted, gone_more, apart_more}
use Rattle.tp_encodable.proofs.Turning.{IsShapedOption, IsFit, Logs, logs_turn}
use Rattle.tp_encodable.proofs.Standing.{AreShapedKept, each_kept, kept_in, IsFitCurrent, HasPlaces, Stands, Thins, thins_same, thins_without, thins_performed, thins_played, peers_dialogue, peers_link, peers_put, stands_arcs, stands_drawn, stands_kept, stands_fresh}
use Rattle.tp_model.specs.declared.refusal.Refusal.{Refusal}
use Rattle.tp_encodable.specs.Standing.{IsBare, IsShapedKept}

pub record Keeps (d : Digest) (m : Move) : Type 0 where
  pub version : m.next.version ≡ d.version
  pub stands : Stands d → Stands m.next
  pub rec : Stands d → IsShapedOption d.version m.rec

keeps_still : (d : Digest) → Keeps d (move [] d)
keeps_still d = record { version = refl; stands = λ s. s; rec = λ s. tt }

keeps_chain : (d : Digest) (a : Move) (f : Digest → Move) → Keeps d a → Keeps a.next (f a.next) → Keeps d (followed a f)
keeps_chain d a f one two = record { version = two.version ∙ one.version; stands = λ s. two.stands (one.stands s); rec = λ s. go (f a.next).rec (subst (λ (v : LogVersion). IsShapedOption v (f a.next).rec) one.version (two.rec (one.stands s))) (one.rec s) }
  where
    go : (o : Option LogRec) → IsShapedOption d.version o → IsShapedOption d.version a.rec → IsShapedOption d.version (elim o as (λ _. Option LogRec) [ None ↦ a.rec | Some r ↦ Some r ])
    go None x y = y
    go (Some r) x y = x

-- ---- kept transactions

few_less : (cs : List Child) (b : BranchId) → length (without_owed cs b) ≤ length cs
few_less [] b = omega arith
few_less (c ∷ cs) b = grind (arith, few_less cs b)

at_most : (a b n : ℕ) → a ≤ b → b ≤ n → a ≤ n
at_most a b n h i = omega (arith, h, i)

joined_harm : (a b : Report) → is_report_none a ≡ false → is_report_none (join a b) ≡ false
joined_harm Report.None b h = absurd (cc (h))
joined_harm Report.Hazard Report.None h = refl
joined_harm Report.Hazard Report.Hazard h = refl
joined_harm Report.Hazard Report.Mix h = refl
joined_harm Report.Mix Report.None h = refl
joined_harm Report.Mix Report.Hazard h = refl
joined_harm Report.Mix Report.Mix h = refl

settles : (ver : LogVersion) (k : Kept) (f : KeptEvent) → IsShapedKept ver k → IsShapedOption ver (settled k f).rec
unfolding settled
settles ver k (KeptEvent.Done from b r) h = go (find_owed k.owed b)
  where
    done : (x : Bool) → IsShaped ver (if x then LogRec.End k.node k.key k.side else LogRec.Damage k.node k.key k.superior k.side (join k.report r) (without_owed k.owed b))
    done true = tt
    done false = (h.0, joined_harm k.report r h.1, at_most _ _ _ (few_less k.owed b) h.2)

    go : (o : Option Child) → IsShapedOption ver (elim o as (λ _. Option LogRec) [ None ↦ None | Some c ↦ Some (rec_of_done k b r) ])
    go None = tt
    go (Some c) = done (is_nothing_owed (without_owed k.owed b) && k.forgot)
settles ver k KeptEvent.Forget h = go (is_commit k.side && is_nothing_owed k.owed)
  where
    go : (b : Bool) → IsShapedOption ver (if b then Some (LogRec.End k.node k.key k.side) else None)
    go true = tt
    go false = tt
settles ver k KeptEvent.Purge h = tt

kept_more : (ver : LogVersion) (r : Option LogRec) (ks : List Kept) → IsShapedOption ver r → AreShapedKept ver ks → AreShapedKept ver (kept_after r ks)
kept_more ver r ks h all = each_after (IsShapedKept ver) (AreShapedKept ver) (each_kept ver) r ks all (λ n k s o p cs b is. subst (IsShapedOption ver) is h)

keeps_settled : (d : Digest) (k : Kept) (f : KeptEvent) → StandsIn d.kept k → Keeps d (keep (settled k f) d)
keeps_settled d k f there = record {
  version = refl;
  stands = λ s. stands_arcs (record d { kept = kept_after (settled k f).rec d.kept }) _ (thins_performed d.arcs (settled k f).outs)
      (stands_kept d (kept_after (settled k f).rec d.kept) (kept_more d.version (settled k f).rec d.kept (settles d.version k f (kept_in d.version d.kept k s.kept there)) s.kept) s);
  rec = λ s. settles d.version k f (kept_in d.version d.kept k s.kept there);
}

-- ---- the current transaction

no_branches : (bs : List Branch) → kin bs ≡ [] → bs ≡ []
no_branches [] h = refl
no_branches (b ∷ bs) h = absurd (cc (h))

-- what stays of a transaction has its key, its phase and its branches
record IsOf (t : Transaction) (c : Current) : Type 0 where
  key : c.key ≡ t.key
  phase : c.phase ≡ t.phase
  kin : kin c.branches ≡ kids t.rows

remains : (t : Transaction) (c : Current) → remaining t ≡ Some c → IsOf t c
remains t c h = go (is_nil t.phase) refl
  where
    go : (b : Bool) → is_nil t.phase ≡ b → IsOf t c
    go true i = let none : None ≡ Some c = rw (i, remaining) at h in absurd (cc (none))
    go false i =
        let some = rw (i, remaining) at h in
        record { key = grind (arith, some); phase = grind (arith, some); kin = ap kin (branches some) ∙ kids_left t.rows }
      where
        branches : Some (record {
          key = t.key;
          phase = t.phase;
          branches = branches_of t.rows;
          told_prepare = t.told_prepare;
          asked = t.asked;
          owes = t.owes;
          superior_rolled = t.superior_rolled;
          decision = t.decision;
          own = t.own;
        }) ≡ Some c → c.branches ≡ branches_of t.rows
        branches some = grind (arith, some)

-- a current transaction in the place of another, with as many branches
record IsAfter (ver : LogVersion) (c x : Current) : Type 0 where
  fit : IsFitCurrent ver x
  active : is_active x.phase ≡ true → is_active c.phase ≡ true
  kin : kin x.branches ≡ kin c.branches

stands_after : (d : Digest) (c : Current) (o : Option Current) → d.current ≡ Some c → IsLate (record d { current = o }) → ((x : Current) → o ≡ Some x → IsAfter d.version c x) → Stands d → Stands (record d { current = o })
stands_after d c o now late is s = record {
  late = late;
  kept = s.kept;
  current = λ x at. (is x at).fit;
  room = s.room;
  active = λ x at act.
      let a = is x at in
      let p = s.active c now (a.active act) in
      record {
        apart = ap (are_apart d.superior) a.kin ∙ p.apart;
        room = subst (λ (cs : List Child). below d.superior (peers d.arcs) + gone (peers d.arcs) cs ≤ most_children d.version) (sym a.kin) p.room;
      };
  bare = λ off.
      let b = s.bare off in
      record {
        arcs = b.arcs;
        branches = λ x at act. let a = is x at in no_branches x.branches (a.kin ∙ ap kin (b.branches c now (a.active act)));
      };
}

fit_seen : (who : Who) (ver : LogVersion) (arcs : List Arc) (c : Current) → IsFitCurrent ver c → IsFit ver (seen who arcs c)
fit_seen who ver arcs c f = record { under = f.under; few = subst (λ (cs : List Child). length cs ≤ most_children ver) (sym (kids_seen arcs c.branches)) f.few }

keeps_turn : (who : Who) (d : Digest) (c : Current) (f : TxEvent) → d.current ≡ Some c → IsPut f (seen who d.arcs c) → Keeps d (turned who f d c)
keeps_turn who d c f now put = record {
  version = refl;
  stands = λ s.
      stands_arcs (record d { current = remaining a.next; kept = kept_after a.rec d.kept }) _ (thins_played d t w a d.arcs)
      (stands_kept (record d { current = remaining a.next }) (kept_after a.rec d.kept) (kept_more d.version a.rec d.kept (rec s) s.kept)
      (stands_after d c (remaining a.next) now (late_remaining a.next) (λ x at. after s x at) s));
  rec = λ s. rec s;
}
  where
    t : Transaction
    t = seen who d.arcs c

    a : Turn
    a = transacted f t

    w : Passage
    w = passage (is_leaving f) t.phase a.next.phase

    logs : Logs d.version t a
    logs = logs_turn d.version f t put

    rec : Stands d → IsShapedOption d.version a.rec
    rec s = logs.rec (fit_seen who d.version d.arcs c (s.current c now))

    after : Stands d → (x : Current) → remaining a.next ≡ Some x → IsAfter d.version c x
    after s x at =
        let of : IsOf a.next x = remains a.next x at in
        let fit : IsFit d.version a.next = logs.next (fit_seen who d.version d.arcs c (s.current c now)) in
        record {
          fit = record { under = λ r. ap is_under of.key ∙ fit.under (ap is_ready (sym of.phase) ∙ r); few = subst (λ (cs : List Child). length cs ≤ most_children d.version) (sym of.kin) fit.few };
          active = λ h. logs.active (ap is_active (sym of.phase) ∙ h);
          kin = of.kin ∙ kin_turn f t put ∙ kids_seen d.arcs c.branches;
        }

-- ---- a branch more

pub at_branch : (bs : List Branch) (p : ℕ) → is_at (kin bs) p ≡ has_branch_at bs p
at_branch [] p = refl
at_branch (b ∷ bs) p = rw (at_branch bs p) refl

found_has : (arcs : List Arc) (p : ℕ) (a : Arc) → find_arc arcs p ≡ Some a → has (peers arcs) a.peer.node ≡ true
found_has [] p a h = absurd (cc (h))
found_has (x ∷ arcs) p a h = go (x.peer.node == p) refl (found_has arcs p a)
  where
    go : (b : Bool) → (x.peer.node == p) ≡ b → (find_arc arcs p ≡ Some a → has (peers arcs) a.peer.node ≡ true) → has (peers (x ∷ arcs)) a.peer.node ≡ true
    go true i rest = let one : Some x ≡ Some a = rw (i, find_arc) at h in let same : x ≡ a = cc (one) in grind (arith, nat_tests, ap (λ (y : Arc). y.peer.node) same)
    go false i rest = let more : has (peers arcs) a.peer.node ≡ true = rest (rw (i, find_arc) at h) in grind (arith, more)

not_yet : (who : Who) (d : Digest) (c : Current) (p : ℕ) → d.current ≡ Some c → (situation_at who d p).branch ≡ false → is_at (kin c.branches) p ≡ false
unfolding situation_of
not_yet who d c p now h =
    let one : (is_under_at c.key p || row_holds (seen_rows d.arcs c.branches) p (λ b. true)) ≡ false = rw (now, situation_at) at h in
    at_branch c.branches p ∙ sym (seen_branch d.arcs c.branches p) ∙ second (is_under_at c.key p) _ one
  where
    second : (x y : Bool) → (x || y) ≡ false → y ≡ false
    second x y h = grind (arith, h)

record MayBegin (who : Who) (d : Digest) (a : Arc) : Type 0 where
  below : is_superior d a.peer.node ≡ false
  active : is_active (phase_of d) ≡ true
  free : (situation_at who d a.peer.node).branch ≡ false

may_begin : (who : Who) (d : Digest) (a : Arc) → may_begin_on who d a ≡ true → MayBegin who d a
may_begin who d a h = record { below = grind (arith, h); active = grind (arith, h); free = grind (arith, h) }

within : (a b n : ℕ) → a ≤ b → b ≤ n → a ≤ n
within a b n h i = omega (arith, h, i)

grown : (who : Who) (p : ℕ) (d : Digest) (c : Current) (a : Arc) → d.current ≡ Some c → find_arc d.arcs p ≡ Some a → MayBegin who d a → Stands d → Stands (with_begun who (with_mark_drawn d) c (next_child who d a))
grown who p d c a now found may s = record {
  late = late_remaining t;
  kept = s.kept;
  current = λ x at.
      let of : IsOf t x = remains t x at in
      record {
        under = λ r. ap is_under of.key ∙ (s.current c now).under (ap is_ready (sym of.phase) ∙ r);
        few = subst (λ (cs : List Child). length cs ≤ most_children d.version) (sym (of.kin ∙ kin_is)) (within _ _ _ (counted d.superior more (peers d.arcs) apart) room);
      };
  room = s.room;
  active = λ x at act.
      let of : IsOf t x = remains t x at in
      record {
        apart = ap (are_apart d.superior) (of.kin ∙ kin_is) ∙ apart;
        room = subst (λ (cs : List Child). below d.superior (peers d.arcs) + gone (peers d.arcs) cs ≤ most_children d.version) (sym (of.kin ∙ kin_is)) room;
      };
  bare = λ off. absurd (nothing (s.bare off).arcs);
}
  where
    n : Child
    n = next_child who d a

    t : Transaction
    t = (transacted (TxEvent.Begun (n ∷ [])) (seen who d.arcs c)).next

    more : List Child
    more = kin c.branches ++ n ∷ []

    kin_is : kids t.rows ≡ more
    kin_is = kids_more (seen_rows d.arcs c.branches) n ∙ ap (λ (cs : List Child). cs ++ n ∷ []) (kids_seen d.arcs c.branches)

    places : HasPlaces d c
    places = s.active c now (subst (λ (o : Option Current). is_active (elim o [ None ↦ Phase.Nil | Some y ↦ y.phase ]) ≡ true) now may.active)

    there : has (peers d.arcs) n.addr.node ≡ true
    there = found_has d.arcs p a found

    apart : are_apart d.superior more ≡ true
    apart = apart_more d.superior (kin c.branches) n places.apart may.below (not_yet who d c a.peer.node now may.free)

    room : below d.superior (peers d.arcs) + gone (peers d.arcs) more ≤ most_children d.version
    room = subst (λ (m : ℕ). below d.superior (peers d.arcs) + m ≤ most_children d.version) (sym (gone_more (peers d.arcs) (kin c.branches) n there)) places.room

    nothing : d.arcs ≡ [] → ⊥
    nothing none = let off : find_arc d.arcs p ≡ None = ap (λ (xs : List Arc). find_arc xs p) none in cc (off, found)

keeps_begin : (who : Who) (p : ℕ) (d : Digest) → Keeps d (begin_on who p d)
keeps_begin who p d = begin_cases (λ (m : Move). Keeps d m) who p d (keeps_still d) on
  where
    on : (c : Current) (a : Arc) → d.current ≡ Some c → find_arc d.arcs p ≡ Some a → may_begin_on who d a ≡ true → Keeps d (begun_over who p d c a)
    on c a now found may =
        let g : Digest = with_begun who (with_mark_drawn d) c (next_child who d a) in
        let f : Dialogue → Dialogue = begun_by (named_holder a.dialogue) Side.Superior in
        let arcs : List Arc = with_dialogue d.arcs p f in
        let outs : List TxOut = TxOut.Carry p (DialogueRecord.Begin (aaid_of c.key) (next_child who d a).branch (named_holder a.dialogue)) ∷ [] in
        record {
          version = refl;
          stands = λ s.
              stands_arcs (record g { arcs = arcs }) (performed arcs outs).0 (thins_performed arcs outs)
              (stands_arcs g arcs (thins_same d.arcs arcs (peers_dialogue d.arcs p f)) (grown who p d c a now found (may_begin who d a may) s));
          rec = λ s. tt;
        }

keeps_moves : (who : Who) (e : Event) (s : Digest) → Moves who e s Keeps
keeps_moves who e s = record {
  still = keeps_still;
  chain = λ d a f one two none. keeps_chain d a f one two;
  speaks = λ d outs h own said. record { version = refl; stands = λ t. stands_arcs d _ (thins_performed d.arcs outs) t; rec = λ t. tt };
  changes_dialogue = λ d p f m by one. record {
    version = one.version;
    stands = λ t. one.stands (stands_arcs d (with_dialogue d.arcs p f) (thins_same d.arcs _ (peers_dialogue d.arcs p f)) t);
    rec = λ t. one.rec (stands_arcs d (with_dialogue d.arcs p f) (thins_same d.arcs _ (peers_dialogue d.arcs p f)) t);
  };
  drops_arc = λ d p m at one. record {
    version = one.version;
    stands = λ t. one.stands (stands_arcs d (without_arc d.arcs p) (thins_without d.arcs p) t);
    rec = λ t. one.rec (stands_arcs d (without_arc d.arcs p) (thins_without d.arcs p) t);
  };
  notes_kept = λ d ks m held one.
      let all : AreShapedKept d.version d.kept → AreShapedKept d.version ks = λ h.
      each_unnoted (IsShapedKept d.version) (AreShapedKept d.version) (each_kept d.version) (λ k i. i) ks
      (subst (AreShapedKept d.version) (sym held.1) (each_noted (IsShapedKept d.version) (AreShapedKept d.version) (each_kept d.version) (λ k i. i) d.kept h)) in
      record {
        version = one.version;
        stands = λ t. one.stands (stands_kept d ks (all t.kept) t);
        rec = λ t. one.rec (stands_kept d ks (all t.kept) t);
      };
  keeps = λ d k f held. keeps_settled d k f held.2;
  turns = λ d c f now at asked put gone. keeps_turn who d c f now put;
  begins = λ d p free. keeps_begin who p d;
  roots = λ d m nil may one. record {
    version = one.version;
    stands = λ t. one.stands (stands_fresh (with_mark_drawn d) _ (stands_drawn d _ t));
    rec = λ t. one.rec (stands_fresh (with_mark_drawn d) _ (stands_drawn d _ t));
  };
}

-- ---- what comes first in an event

pub record Begins (d s : Digest) : Type 0 where
  pub version : s.version ≡ d.version
  pub stands : Stands d → Stands s

begins_still : (d : Digest) → Begins d d
begins_still d = record { version = refl; stands = λ s. s }

begins_arcs : (d : Digest) (arcs : List Arc) → Thins d.arcs arcs → Begins d (record d { arcs = arcs })
begins_arcs d arcs t = record { version = refl; stands = stands_arcs d arcs t }

undeclared : (who : Who) (d : Digest) (s : Option Addr) → refusal who d (Event.Declare s) ≡ None → d.declared ≡ false
unfolding refusal verdict
undeclared who d s ok = grind (arith, ok)

nothing_gone : (a n : ℕ) → a ≡ 0 → a ≤ n
nothing_gone a n h = omega (arith, h)

begins_declare : (d : Digest) (s : Option Addr) → d.declared ≡ false → Begins d (record d { declared = true; superior = s })
begins_declare d s off = record { version = refl; stands = λ t. stands t (t.bare off) }
  where
    stands : Stands d → IsBare d → Stands (record d { declared = true; superior = s })
    stands t b = record {
      late = t.late;
      kept = t.kept;
      current = t.current;
      room = nothing_gone _ _ (ap (λ (xs : List Arc). below s (peers xs)) b.arcs);
      active = λ c now act.
          let none = b.branches c now act in
          record {
            apart = ap (λ (bs : List Branch). are_apart s (kin bs)) none;
            room = nothing_gone _ _ (ap (λ (xs : List Arc). below s (peers xs) + gone (peers xs) (kin c.branches)) b.arcs ∙ ap (λ (bs : List Branch). 0 + gone [] (kin bs)) none);
          };
      bare = λ on. absurd (cc (on));
    }

pub room_is : (v : LogVersion) → room v ≡ most_children v
room_is LogVersion.One = refl
room_is LogVersion.Two = refl

below_back : (s : Option Addr) (arcs : List Arc) (a : Arc) → below s (peers (arcs ++ a ∷ [])) ≤ suc (below s (peers arcs))
below_back s [] a = go (is_up s a.peer.node)
  where
    go : (b : Bool) → (if b then 0 else suc 0) ≤ suc 0
    go true = omega arith
    go false = omega arith
below_back s (x ∷ arcs) a = go (is_up s x.peer.node) (below_back s arcs a)
  where
    go : (b : Bool) → below s (peers (arcs ++ a ∷ [])) ≤ suc (below s (peers arcs)) → (if b then below s (peers (arcs ++ a ∷ [])) else suc (below s (peers (arcs ++ a ∷ [])))) ≤ suc (if b then below s (peers arcs) else suc (below s (peers arcs)))
    go true h = h
    go false h = omega (arith, h)

has_back : (arcs : List Arc) (a : Arc) (p : ℕ) → has (peers arcs) p ≡ true → has (peers (arcs ++ a ∷ [])) p ≡ true
has_back [] a p h = absurd (cc (h))
has_back (x ∷ arcs) a p h = grind (arith, h, has_back arcs a p)

gone_wider : (ns ms : List ℕ) (cs : List Child) → ((p : ℕ) → has ns p ≡ true → has ms p ≡ true) → gone ms cs ≤ gone ns cs
gone_wider ns ms [] k = omega arith
gone_wider ns ms (c ∷ cs) k = go (has ns c.addr.node) refl (has ms c.addr.node) refl (gone_wider ns ms cs k)
  where
    go : (u : Bool) → has ns c.addr.node ≡ u → (v : Bool) → has ms c.addr.node ≡ v → gone ms cs ≤ gone ns cs → gone ms (c ∷ cs) ≤ gone ns (c ∷ cs)
    go true i true j h = rw (i, gone) (rw (j, gone) h)
    go true i false j h = absurd (cc (j, k c.addr.node i))
    go false i true j h = rw (i, gone) (rw (j, gone) (omega (arith, h)))
    go false i false j h = rw (i, gone) (rw (j, gone) (omega (arith, h)))

-- there is room for one more dialogue
record MayCall (d : Digest) : Type 0 where
  declared : d.declared ≡ true
  room : suc (count_subordinates d) ≤ room d.version

not_missing : (b : Bool) (n : Option Refusal) → unless_missing b n ≡ None → b ≡ false
not_missing true n h = absurd (cc (h))
not_missing false n h = refl

called_by_declared : (who : Who) (d : Digest) (a : Addr) (u : ℕ) → refusal who d (Event.Do (Request.BeginDialogue a u)) ≡ None → d.declared ≡ true
called_by_declared who d a u ok = on d.declared d.known (not_missing (is_no_node d || (not d.declared && true)) (refused_request who d (Request.BeginDialogue a u)) (plainly_none who d (Event.Do (Request.BeginDialogue a u)) ok))
  where
    on : (x y : Bool) → ((not x && not y) || (not x && true)) ≡ false → x ≡ true
    on true y h = refl
    on false true h = absurd (cc (h))
    on false false h = absurd (cc (h))

last_of : (a b c d : Bool) → first ((a, Refusal.WrongPhase) ∷ (b, Refusal.UnitAbsent) ∷ (c, Refusal.AlreadyAsked) ∷ (d, Refusal.TooMany) ∷ []) ≡ None → d ≡ false
last_of true b c d h = absurd (cc (h))
last_of false true c d h = absurd (cc (h))
last_of false false true d h = absurd (cc (h))
last_of false false false true h = absurd (cc (h))
last_of false false false false h = refl

not_full : (m n : ℕ) → nat_le m n ≡ false → suc n ≤ m
not_full m n h = grind (arith, nat_tests, h)

may_call : (who : Who) (d : Digest) (a : Addr) (u : ℕ) → refusal who d (Event.Do (Request.BeginDialogue a u)) ≡ None → MayCall d
unfolding refused_request
may_call who d a u ok = record {
  declared = called_by_declared who d a u ok;
  room = not_full (room d.version) (count_subordinates d) (last_of _ _ _ (nat_le (room d.version) (count_subordinates d)) (plain_request who d (Request.BeginDialogue a u) ok));
}

sums : (b c g h n k : ℕ) → k ≡ b + g → suc k ≤ n → c ≤ suc b → h ≤ g → c + h ≤ n
sums b c g h n k i j l m = omega (arith, i, j, l, m)

one_sum : (b c g n k : ℕ) → k ≡ b + g → suc k ≤ n → c ≤ suc b → c ≤ n
one_sum b c g n k i j l = omega (arith, i, j, l)

begins_call : (d : Digest) (a : Arc) → MayCall d → Begins d (record (with_mark_drawn d) { arcs = d.arcs ++ a ∷ [] })
begins_call d a may = record { version = refl; stands = stands }
  where
    most : suc (count_subordinates d) ≤ most_children d.version
    most = subst (λ (n : ℕ). suc (count_subordinates d) ≤ n) (room_is d.version) may.room

    more : below d.superior (peers (d.arcs ++ a ∷ [])) ≤ suc (below d.superior (peers d.arcs))
    more = below_back d.superior d.arcs a

    counts : (c : Current) → d.current ≡ Some c → count_subordinates d ≡ below d.superior (peers d.arcs) + gone (peers d.arcs) (kin c.branches)
    counts c now =
        ap (λ (o : Option Current). count_below d d.arcs + elim o [ None ↦ 0 | Some x ↦ count_gone d.arcs x.branches ]) now
        ∙ ap (λ (n : ℕ). n + count_gone d.arcs c.branches) (count_is d d.arcs)
        ∙ ap (λ (n : ℕ). below d.superior (peers d.arcs) + n) (gone_is d.arcs c.branches)

    counted_all : count_subordinates d ≡ below d.superior (peers d.arcs) + elim d.current [ None ↦ 0 | Some x ↦ count_gone d.arcs x.branches ]
    counted_all = ap (λ (n : ℕ). n + elim d.current [ None ↦ 0 | Some x ↦ count_gone d.arcs x.branches ]) (count_is d d.arcs)

    stands : Stands d → Stands (record (with_mark_drawn d) { arcs = d.arcs ++ a ∷ [] })
    stands t = record {
      late = t.late;
      kept = t.kept;
      current = t.current;
      room = one_sum _ _ _ _ _ counted_all most more;
      active = λ c now act.
          let p = t.active c now act in
          record {
            apart = p.apart;
            room = sums _ _ _ _ _ _ (counts c now) most more (gone_wider (peers d.arcs) (peers (d.arcs ++ a ∷ [])) (kin c.branches) (λ q i. has_back d.arcs a q i));
          };
      bare = λ off. absurd (cc (off, may.declared));
    }

-- an offer of the superior
record MayOpen (d : Digest) (from : Addr) : Type 0 where
  declared : d.declared ≡ true
  up : is_up d.superior from.node ≡ true

may_open : (who : Who) (d : Digest) (from : Addr) (x : Mark) (u : ℕ) → refused_arrival who d from (PeerRecord.OpenAssoc x u) ≡ None → MayOpen d from
unfolding refused_arrival
may_open who d from x u ok = record { declared = grind (arith, ok); up = go d.superior (offered ok) }
  where
    offered : refused_arrival who d from (PeerRecord.OpenAssoc x u) ≡ None → is_from_superior d from ≡ true
    offered ok = grind (arith, ok)

    go : (o : Option Addr) → elim o as (λ _. Bool) [ None ↦ false | Some a ↦ is_addr a from ] ≡ true → is_up o from.node ≡ true
    go None h = absurd (cc (h))
    go (Some a) h = grind (arith, h)

has_front : (n : ℕ) (ns : List ℕ) (p : ℕ) → has ns p ≡ true → has (n ∷ ns) p ≡ true
has_front n ns p h = grind (arith, h)

begins_open : (d : Digest) (a : Arc) → d.declared ≡ true → is_up d.superior a.peer.node ≡ true → Begins d (record d { arcs = a ∷ d.arcs })
begins_open d a on up = record { version = refl; stands = stands }
  where
    same : below d.superior (peers (a ∷ d.arcs)) ≡ below d.superior (peers d.arcs)
    same = rw (up, below) refl

    as_many : (b c g h n : ℕ) → c ≡ b → h ≤ g → b + g ≤ n → c + h ≤ n
    as_many b c g h n i j k = omega (arith, i, j, k)

    stands : Stands d → Stands (record d { arcs = a ∷ d.arcs })
    stands t = record {
      late = t.late;
      kept = t.kept;
      current = t.current;
      room = subst (λ (n : ℕ). n ≤ most_children d.version) (sym same) t.room;
      active = λ c now act.
          let p = t.active c now act in
          record { apart = p.apart; room = as_many _ _ _ _ _ same (gone_wider (peers d.arcs) (peers (a ∷ d.arcs)) (kin c.branches) (λ q i. has_front a.peer.node (peers d.arcs) q i)) p.room };
      bare = λ off. absurd (cc (off, on));
    }

begins_accept : (who : Who) (u : ℕ) (o : Option Arc) (d : Digest) → Begins d (accepted_by who u o d)
begins_accept who u None d = begins_still d
begins_accept who u (Some a) d = go a.link
  where
    go : (l : Link) → Begins d (accepted_on who u a l d)
    go Idle = begins_still d
    go (Opening x) = begins_still d
    go (Offered x) = record { version = refl; stands = λ t. stands_arcs (with_mark_drawn d) (put_arc d.arcs _) (thins_same d.arcs _ (peers_put d.arcs _)) (stands_drawn d _ t) }
    go (Live x y s t) = begins_still d

begins_linked : (o : Option Arc) (x y : Mark) (u : ℕ) (d : Digest) → Begins d (linked o x y u d)
begins_linked None x y u d = begins_still d
begins_linked (Some a) x y u d = begins_arcs d (put_arc d.arcs _) (thins_same d.arcs _ (peers_put d.arcs _))

begins_counted : (d : Digest) (from : Addr) → Begins d (counted_in d from)
begins_counted d from = begins_arcs d (with_link d.arcs from.node with_one_taken) (thins_same d.arcs _ (peers_link d.arcs from.node with_one_taken))

begins_begun : (o : Option Arc) (t : Aaid) (b : BranchId) (d s : Digest) → Begins d s → Begins d (begun_in o t b s)
begins_begun None t b d s i = i
begins_begun (Some a) t b d s i = record { version = i.version; stands = λ h. stands_fresh s (Under t b a.peer) (i.stands h) }

-- a crash
few_named : (bs : List Branch) → length (kin (named_again bs)) ≤ length (kin bs)
few_named [] = omega arith
few_named (b ∷ bs) = grind (arith, few_named bs)

crashed_fit : (ver : LogVersion) (o : Option Current) → ((c : Current) → o ≡ Some c → IsFitCurrent ver c) → (c : Current) → recovered_current o ≡ Some c → IsFitCurrent ver c × (is_active c.phase ≡ false)
crashed_fit ver None f c h = absurd (cc (h))
crashed_fit ver (Some x) f c h = go (is_ready x.phase || is_committing x.phase) refl h
  where
    passive : (p : Phase) → (is_ready p || is_committing p) ≡ true → is_active p ≡ false
    passive Phase.Ready i = refl
    passive Phase.Committing i = refl
    passive p i = absurd (grind (arith, i))

    go : (b : Bool) → (is_ready x.phase || is_committing x.phase) ≡ b → (if b then Some (recovered x.key x.phase (named_again x.branches) x.decision) else None) ≡ Some c → IsFitCurrent ver c × (is_active c.phase ≡ false)
    go false i j = absurd (cc (j))
    go true i j =
        let same : recovered x.key x.phase (named_again x.branches) x.decision ≡ c = cc (j) in
        subst (λ (y : Current). IsFitCurrent ver y × (is_active y.phase ≡ false)) same
        (record { under = (f x refl).under; few = within _ _ _ (few_named x.branches) (f x refl).few }, passive x.phase i)

begins_crash : (who : Who) (d : Digest) → Begins d (after_crash d)
unfolding after_crash
begins_crash who d = record { version = refl; stands = stands }
  where
    stands : Stands d → Stands (prelude who d Event.Crash)
    stands t = record {
      late = late_prelude who d Event.Crash t.late;
      kept = each_noted (IsShapedKept d.version) (AreShapedKept d.version) (each_kept d.version) (λ k i. i) d.kept t.kept;
      current = λ c now. (crashed_fit d.version d.current t.current c now).0;
      room = nothing_gone _ _ refl;
      active = λ c now act. absurd (let off = (crashed_fit d.version d.current t.current c now).1 in cc (off, act));
      bare = λ off. record { arcs = refl; branches = λ c now act. absurd (let i = (crashed_fit d.version d.current t.current c now).1 in cc (i, act)) };
    }

begins_request : (who : Who) (d : Digest) (r : Request) → refusal who d (Event.Do r) ≡ None → Begins d (prelude who d (Event.Do r))
begins_request who d (Request.BeginDialogue a u) ok = begins_call d _ (may_call who d a u ok)
begins_request who d (Request.Accept u) ok = begins_accept who u (superior_arc d) d
begins_request who d _ ok = begins_still d

begins_record : (who : Who) (d : Digest) (from : Addr) (r : PeerRecord) → refusal who d (Event.Arrive from r) ≡ None → Begins d (prelude who d (Event.Arrive from r))
begins_record who d from (PeerRecord.OpenAssoc x u) ok = let m = may_open who d from x u (plain_arrival who d from (PeerRecord.OpenAssoc x u) ok) in begins_open d _ m.declared m.up
begins_record who d from (PeerRecord.AcceptAssoc x y u) ok = begins_linked (find_arc d.arcs from.node) x y u d
begins_record who d from (PeerRecord.OnAssoc x y q (DialogueRecord.Begin t b h)) ok = begins_begun (find_arc d.arcs from.node) t b d (counted_in d from) (begins_counted d from)
begins_record who d from (PeerRecord.OnAssoc x y q _) ok = begins_counted d from
begins_record who d from _ ok = begins_still d

begins : (who : Who) (d : Digest) (e : Event) → refusal who d e ≡ None → Begins d (prelude who d e)
begins who d (Event.Declare s) ok = begins_declare d s (undeclared who d s ok)
begins who d (Event.Do r) ok = begins_request who d r ok
begins who d (Event.Arrive from r) ok = begins_record who d from r ok
begins who d Event.Crash ok = begins_crash who d
begins who d _ ok = begins_still d

-- ---- every event

pub record IsNext (d : Digest) (m : Move) : Type 0 where
  pub version : m.next.version ≡ d.version
  pub stands : Stands m.next
  pub rec : IsShapedOption d.version m.rec

pub next_move : (who : Who) (d : Digest) (e : Event) → refusal who d e ≡ None → Stands d → IsNext d (action who d e)
next_move who d e ok s =
    let first : Begins d (prelude who d e) = begins who d e ok in
    let moved : Keeps (prelude who d e) (action who d e) = every_move who d e Keeps (keeps_moves who e (prelude who d e)) s.late ok in
    let now : Stands (prelude who d e) = first.stands s in
    record {
      version = moved.version ∙ first.version;
      stands = moved.stands now;
      rec = subst (λ (v : LogVersion). IsShapedOption v (action who d e).rec) first.version (moved.rec now);
    }
