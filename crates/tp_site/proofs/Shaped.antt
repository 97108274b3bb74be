-- A site whose nodes stand as the texts of its log ask stands so after its start, and after every event.
use Rattle.std.proofs.Common.{◌≡◌, ◌==◌, ◌%◌, ℕ, Bool, true, false, refl, ap, sym, subst, ◌∙◌, cond, Option, Some, None, List, [], ◌∷◌, map, Result, Ok, Err}
use Rattle.std.proofs.lemmas.List.Elements.{recursion_from_All}
use Rattle.std.specs.List.{All, AllByRecursion}
use Rattle.tp_logrec.specs.declared.record.LogRec.{LogRec}
use Rattle.tp_logrec.specs.declared.record.LogVersion.{LogVersion}
use Rattle.tp_logrec.specs.declared.owner.Owner.{Owner}
use Rattle.tp_logrec.specs.Order.{owner_of}
use Rattle.tp_texts.specs.Shapes.{IsShaped, AreShaped}
use Rattle.tp_model.specs.Refusal.{number_of}
use Rattle.tp_model.specs.Parts.{Who, Start, Event, Digest, Verdict}
use Rattle.tp_model.specs.Events.{started, refusal, verdict, action}
use Rattle.tp_model.specs.Lanes.{records_in}
use Rattle.tp_model.specs.Node.{Move}
use Rattle.tp_model.specs.NodeRun.{records_at}
use Rattle.tp_model.proofs.Verdicts.{none_if_accepted, breaks_so}
use Rattle.tp_steps.specs.Histories.{brought}
use Rattle.tp_encodable.specs.Standing.{IsShapedOption, IsShapedMove}
use Rattle.tp_encodable.specs.Sizes.{AreShort, BringsFew, IsShortRecord}
use Rattle.tp_encodable.specs.Texts.{HaveTexts}
use Rattle.tp_encodable.proofs.Kept.{start_stands, move_stands}
use Rattle.tp_encodable.proofs.Running.{shaped_at}
use Rattle.tp_encodable.proofs.Read.{texts_shaped}
use Rattle.tp_encodable.proofs.Short.{outputs_short}
use Rattle.tp_journal.specs.Keeping.{Standing}
use Rattle.tp_journal.specs.Records.{version_of, HasText}
use Rattle.tp_journal.specs.declared.receipts.Receipt.{Receipt}
use Rattle.tp_journal.specs.declared.faults.ForceFault.{ForceFault}
use Rattle.tp_journal.specs.declared.faults.ForceFault.TheVariants as force
use Rattle.tp_node.specs.NodeEvent.{Answer, Refuses, Happens, answer_at}
use Rattle.tp_site.specs.Nodes.{Nodes, who_at, digest_at, IsSameSite, AreFrom}
use Rattle.tp_site.specs.Site.{told_records, Records}
use Rattle.tp_site.specs.Resume.{IsLaneOf}
use Rattle.tp_site.specs.Shaped.{IsShapedNode, AreShapedNodes, IsShapedSite, IsShapedDraft}

-- ---- the start

have_texts : (wide : Bool) (told : List Receipt) → AllByRecursion (λ r. HasText wide r.rec) told → HaveTexts (version_of wide) (map (λ r. r.rec) told)
have_texts wide [] h = tt
have_texts wide (r ∷ told) h = (h.0, have_texts wide told h.1)

-- the records that a keeper tells
told_shaped : (s : Standing) → All (λ r. HasText s.wide r.rec) s.told → AreShaped (version_of s.wide) (told_records s)
told_shaped s h = texts_shaped (version_of s.wide) (told_records s) (have_texts s.wide s.told (recursion_from_All (λ r. HasText s.wide r.rec) s.told h))

node_started : (s : Start) → AreShaped s.version s.records → IsShapedNode s.version (started s)
unfolding started
node_started s h = record { version = refl; stands = start_stands s h }

from_shaped : (rs : List LogRec) (v : Nodes) → AreShaped v.version rs → AreFrom rs v → AreShapedNodes v
from_shaped rs v h from n =
    subst (IsShapedNode v.version) (sym (from n)) (node_started (record { boot = v.boot; version = v.version; records = records_at n rs }) (shaped_at v.version n rs h))

-- those of a lane
lane_shaped : (ver : LogVersion) (i w : ℕ) (rs : List LogRec) → AreShaped ver rs → AreShaped ver (records_in i w rs)
lane_shaped ver i w [] h = tt
lane_shaped ver i w (r ∷ rs) h = go (owner_of r) (lane_shaped ver i w rs h.1)
  where
    go : (o : Option Owner) → AreShaped ver (records_in i w rs)
        → AreShaped ver (elim o as (λ _. List LogRec) [ None ↦ records_in i w rs | Some p ↦ elim (p.node % w == i) as (λ _. List LogRec) [ true ↦ r ∷ records_in i w rs | false ↦ records_in i w rs ] ])
    go None rest = rest
    go (Some p) rest = by (p.node % w == i)
      where
        by : (b : Bool) → AreShaped ver (elim b as (λ _. List LogRec) [ true ↦ r ∷ records_in i w rs | false ↦ records_in i w rs ])
        by true = (h.0, rest)
        by false = rest

pub resumed_shaped : (s : Standing) (name : List ℕ) (boot i w : ℕ) (v : Nodes) → All (λ r. HasText s.wide r.rec) s.told → IsLaneOf s name boot i w v → AreShapedNodes v
resumed_shaped s name boot i w v h is =
    from_shaped (records_in i w (told_records s)) v (subst (λ (x : LogVersion). AreShaped x (records_in i w (told_records s))) (sym is.version) (lane_shaped (version_of s.wide) i w (told_records s) (told_shaped s h))) is.from

-- ---- an event

-- the event that happens: the one that was asked, or the loss that follows it
record HasHappened (who : Who) (d : Digest) (e : Event) (m : Move) : Type 0 where
  event : Event
  ok : refusal who d event ≡ None
  is : action who d event ≡ m
  brings : brought event ≡ brought e

has_happened : (who : Who) (d : Digest) (e : Event) (k : Option ℕ) (m : Move) → answer_at who d e ≡ Happens k m → HasHappened who d e m
has_happened who d e k m is = go (verdict who d e) refl is
  where
    go : (v : Verdict) → verdict who d e ≡ v
        → elim v as (λ _. Answer) [
          | Verdict.Accepted ↦ Happens None (action who d e)
          | Verdict.Refused n ↦ Refuses (number_of n)
          | Verdict.Breaks from r ↦ Happens (Some 24) (action who d (Event.Break from r))
        ] ≡ Happens k m → HasHappened who d e m
    go Verdict.Accepted i h = record { event = e; ok = none_if_accepted who d e i; is = cc (h); brings = refl }
    go (Verdict.Refused n) i h = absurd (cc (h))
    go (Verdict.Breaks from r) i h = let b = breaks_so who d e from r i in record { event = Event.Break from r; ok = b.1; is = cc (h); brings = ap brought (sym b.0) }

pub drawn_shaped : (v : Nodes) (n : ℕ) (e : Event) (k : Option ℕ) (m : Move) → AreShapedNodes v → answer_at (who_at v n) (digest_at v n) e ≡ Happens k m → IsShapedDraft v.version m
drawn_shaped v n e k m all is =
    let a : HasHappened (who_at v n) (digest_at v n) e m = has_happened (who_at v n) (digest_at v n) e k m is in
    let was : IsShapedNode v.version (digest_at v n) = all n in
    let moved : IsShapedMove (digest_at v n) m = subst (IsShapedMove (digest_at v n)) a.is (move_stands (who_at v n) (digest_at v n) a.event a.ok was.stands) in
    record {
      rec = subst (λ (x : LogVersion). IsShapedOption x m.rec) was.version moved.rec;
      next = record { version = moved.version ∙ was.version; stands = moved.next };
    }

pub drawn_short : (v : Nodes) (n : ℕ) (e : Event) (k : Option ℕ) (m : Move) → answer_at (who_at v n) (digest_at v n) e ≡ Happens k m → BringsFew e → AreShort m.outs
drawn_short v n e k m is few =
    let a : HasHappened (who_at v n) (digest_at v n) e m = has_happened (who_at v n) (digest_at v n) e k m is in
    subst (λ (x : Move). AreShort x.outs) a.is (outputs_short (who_at v n) (digest_at v n) a.event a.ok (subst IsShortRecord (sym a.brings) few))

-- ---- the nodes after it

pub same_shaped : (old new : Nodes) → AreShapedNodes old → ((n : ℕ) → digest_at new n ≡ digest_at old n) → IsSameSite old new → AreShapedNodes new
same_shaped old new all same site n = subst (λ (x : LogVersion). IsShapedNode x (digest_at new n)) (sym site.version) (subst (IsShapedNode old.version) (sym (same n)) (all n))

pub put_shaped : (old new : Nodes) (n : ℕ) (d : Digest) → AreShapedNodes old → IsShapedNode old.version d → ((k : ℕ) → digest_at new k ≡ cond (n == k) d (digest_at old k)) → IsSameSite old new → AreShapedNodes new
put_shaped old new n d all one put site k = subst (λ (x : LogVersion). IsShapedNode x (digest_at new k)) (sym site.version) (subst (IsShapedNode old.version) (sym (put k)) (go (n == k)))
  where
    go : (b : Bool) → IsShapedNode old.version (cond b d (digest_at old k))
    go true = one
    go false = all k

-- ---- the keeper after it

wide_recorded : {K : Type 0} (standing : K → Standing) (old new : K) (rec : Option LogRec) (result : Result (Unit {0}) ForceFault) → Records standing old rec result new → (standing new).wide ≡ (standing old).wide
wide_recorded standing old new None (Ok u) h = ap (λ k. (standing k).wide) h
wide_recorded standing old new (Some r) (Ok u) h = h.1.wide
wide_recorded standing old new None (Err (force.Full size)) h = absurd h
wide_recorded standing old new None (Err (force.DiskFault n)) h = absurd h
wide_recorded standing old new None (Err (force.Shut n)) h = absurd h
wide_recorded standing old new (Some r) (Err (force.Full size)) h = h.0.wide
wide_recorded standing old new (Some r) (Err (force.DiskFault n)) h = h.0.wide
wide_recorded standing old new (Some r) (Err (force.Shut n)) h = h.0.wide
wide_recorded standing old new rec (Err force.NoMemory) h = ap (λ (s : Standing). s.wide) h

pub recorded_shaped : {K : Type 0} (standing : K → Standing) (old new : K) (v : Nodes) (rec : Option LogRec) (result : Result (Unit {0}) ForceFault) → IsShapedSite standing old v → Records standing old rec result new → IsShapedSite standing new v
recorded_shaped standing old new v rec result was h = record { wide = ap version_of (wide_recorded standing old new rec result h) ∙ was.wide; nodes = was.nodes }

pub one_shaped : (ver here : LogVersion) (r : LogRec) → here ≡ ver → IsShapedOption ver (Some r) → IsShaped here r
one_shaped ver here r same h = subst (λ (x : LogVersion). IsShaped x r) (sym same) h
