-- A carrier of octets is one of records.
use Rattle.std.proofs.Common.{◌≡◌, ℕ, Bool, true, false, refl, ap, sym, ◌∙◌, subst, Option, Some, None, List, [], ◌∷◌}
use Rattle.tp_names.specs.declared.identifiers.Addr.{Addr}
use Rattle.tp_names.specs.Same.{is_name}
use Rattle.tp_names.proofs.Sames.{name_same}
use Rattle.tp_records.specs.declared.peer.PeerRecord.{PeerRecord}
use Rattle.tp_records.specs.declared.body.Event.{Event as Given}
use Rattle.tp_records.specs.Bodies.{peer_bytes}
use Rattle.tp_records.specs.BodyReading.{peer_in}
use Rattle.tp_model.specs.Parts.{Event}
use Rattle.tp_model.specs.NodeRun.{AskedEvent, Refuses, Is, asked}
use Rattle.tp_histories.specs.Histories.{HasSent}
use Rattle.tp_site_logs.specs.Lives.{Life, opening_after}
use Rattle.tp_deployments.specs.Deployments.{Deed, Starts, Takes, Place, IsCarried, IsFit, IsTaken, life_after, history_at}
use Rattle.tp_processes.specs.Octets.{AreCarried, IsHeededSo, IsFitSo, IsTakenSo, SaidIsReadBack, OctetsCarryRecords}
use Rattle.tp_processes.proofs.Held.{read_back}
use Rattle.tp_processes.proofs.Said.{IsSaidOver, said_over, few_over, site_is}

pub said_is_read_back : SaidIsReadBack
said_is_read_back ds a to r sent held = read_back r (few_over a.site (life_after ds a.site) a.node to r sent) held

-- what arrives is what was said
brought : (qs : List Place) (ds : List Deed) (from to : Addr) (octets : List ℕ) (r : PeerRecord) → AreCarried qs ds (Given.Arrive from to octets) → peer_in octets ≡ Some r → IsCarried qs ds to (Event.Arrive from r)
brought qs ds from to octets r c reads =
    let k : IsSaidOver from.site (life_after ds from.site) from to octets = said_over from.site (life_after ds from.site) from to octets c.1 in
    let back : peer_in (peer_bytes k.rec) ≡ Some k.rec = said_is_read_back ds from to k.rec k.sent (c.2 k.rec k.sent k.is) in
    let both : Some k.rec ≡ Some r = sym back ∙ ap peer_in (sym k.is) ∙ reads in
    let same : k.rec ≡ r = cc (both) in
    (c.0, subst (λ (x : PeerRecord). HasSent (history_at ds from) to x) same k.sent)

-- the event that the octets say is of the node that they are for
carried : (qs : List Place) (ds : List Deed) (s : List ℕ) (life : Life) (g : Given) (n : ℕ) (e : Event) → asked (opening_after s life) g ≡ Is n e → AreCarried qs ds g → IsCarried qs ds (record { site = s; node = n }) e
carried qs ds s life (Given.Arrive from to octets) n e h c = arrived (peer_in octets) (is_name to.site (opening_after s life).site) refl refl h
  where
    arrived : (r : Option PeerRecord) (b : Bool) → peer_in octets ≡ r → is_name to.site (opening_after s life).site ≡ b
        → (elim r as (λ _. AskedEvent) [ None ↦ Refuses 25 | Some x ↦ elim b as (λ _. AskedEvent) [ true ↦ Is to.node (Event.Arrive from x) | false ↦ Refuses 23 ] ]) ≡ Is n e → IsCarried qs ds (record { site = s; node = n }) e
    arrived None b i j k = absurd (cc (k))
    arrived (Some x) false i j k = absurd (cc (k))
    arrived (Some x) true i j k =
        let event : Event.Arrive from x ≡ e = cc (k) in
        let node : to.node ≡ n = cc (k) in
        let site : to.site ≡ s = name_same to.site (opening_after s life).site j ∙ site_is s life in
        let at : ◌≡◌ {A = Addr} to (record { site = s; node = n }) = there to.site s to.node n site node in
        subst (IsCarried qs ds (record { site = s; node = n })) event (subst (λ (a : Addr). IsCarried qs ds a (Event.Arrive from x)) at (brought qs ds from to octets x c i))
      where
        there : (u v : List ℕ) (m l : ℕ) → u ≡ v → m ≡ l → ◌≡◌ {A = Addr} (record { site = u; node = m }) (record { site = v; node = l })
        there u v m l p q = rw (p, q) refl
carried qs ds s life (Given.Declare m u) n e h c = let same : Event.Declare u ≡ e = cc (h) in subst (IsCarried qs ds (record { site = s; node = n })) same tt
carried qs ds s life (Given.Do m r) n e h c = let same : Event.Do r ≡ e = cc (h) in subst (IsCarried qs ds (record { site = s; node = n })) same tt
carried qs ds s life (Given.Lose m p) n e h c = let same : Event.Lose p ≡ e = cc (h) in subst (IsCarried qs ds (record { site = s; node = n })) same tt
carried qs ds s life (Given.Heur m u) n e h c = let same : Event.Heur u ≡ e = cc (h) in subst (IsCarried qs ds (record { site = s; node = n })) same tt
carried qs ds s life (Given.GiveUp m p) n e h c = let same : Event.GiveUp p ≡ e = cc (h) in subst (IsCarried qs ds (record { site = s; node = n })) same tt
carried qs ds s life (Given.Retry m) n e h c = let same : Event.Retry ≡ e = cc (h) in subst (IsCarried qs ds (record { site = s; node = n })) same tt
carried qs ds s life (Given.Purge m) n e h c = let same : Event.Purge ≡ e = cc (h) in subst (IsCarried qs ds (record { site = s; node = n })) same tt

fit : (qs : List Place) (ds : List Deed) (s : List ℕ) (g : Given) (gs : List Given) (life : Life) → (a : AskedEvent) → asked (opening_after s life) g ≡ a → IsFitSo qs ds s g gs life a → IsFit qs ds s gs life a
fit qs ds s g gs life (Refuses k) i f = tt
fit qs ds s g gs life (Is n e) i f = λ y made.
    let h : IsHeededSo qs ds (record { site = s; node = n }) g e = f y made in
    record { place = h.place; among = h.among; here = h.here; placed = h.placed; carried = carried qs ds s life g n e i h.carried }

taken : (qs : List Place) (ds : List Deed) (s : List ℕ) (life : Life) (g : Given) → IsTakenSo qs ds s life g → IsTaken qs ds s life g
taken qs ds s [] g t = t
taken qs ds s (gs ∷ life) g t = fit qs ds s g gs life (asked (opening_after s life) g) refl t

pub octets_carry : OctetsCarryRecords
octets_carry qs [] d = tt
octets_carry qs (Starts s ∷ ds) d = octets_carry qs ds d
octets_carry qs (Takes s g ∷ ds) d = (taken qs ds s (life_after ds s) g d.0, octets_carry qs ds d.1)
