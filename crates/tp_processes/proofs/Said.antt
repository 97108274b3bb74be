-- What a process writes to a node, the node that it is from has said.
use Rattle.std.proofs.Common.{◌≡◌, ◌==◌, ◌⊎◌, inl, inr, ℕ, Bool, true, false, refl, ap, sym, ◌∙◌, subst, arith, Option, Some, None, List, [], ◌∷◌, ◌++◌}
use Rattle.std.proofs.lemmas.Bool.Decides.{nat_tests}
use Rattle.tp_names.specs.declared.identifiers.Addr.{Addr}
use Rattle.tp_records.specs.declared.peer.PeerRecord.{PeerRecord}
use Rattle.tp_records.specs.declared.body.Event.{Event as Given}
use Rattle.tp_records.specs.declared.body.Output.{Output}
use Rattle.tp_records.specs.Bodies.{peer_bytes}
use Rattle.tp_texts.specs.PeerTexts.{CarriesFew}
use Rattle.tp_model.specs.Parts.{Event, Out, Tell, Send, Entry}
use Rattle.tp_model.specs.NodeRun.{Opening, Past, history_of, AskedEvent, Refuses, Is, asked, refusal_of, outputs_of, entry_outputs, NodeRun, with_entry, run_from}
use Rattle.tp_histories.specs.Histories.{IsSentIn, HasSent}
use Rattle.tp_runs.proofs.Lanes.{chosen, past_with, given, run_step}
use Rattle.tp_encodable.specs.Sizes.{AreShort}
use Rattle.tp_encodable.proofs.Read.{entry_short}
use Rattle.tp_site_logs.specs.Lives.{Life, opening_after, history_in, history_over}
use Rattle.tp_deployments.proofs.Given.{before, over_in}
use Rattle.tp_processes.specs.Octets.{IsOneOf, IsPutIn, IsPut}

-- ---- a history that goes on

sent_front : (h k : List Entry) (to : Addr) (r : PeerRecord) → HasSent h to r → HasSent (h ++ k) to r
sent_front [] k to r sent = absurd sent
sent_front (e ∷ h) k to r (inl now) = inl now
sent_front (e ∷ h) k to r (inr old) = inr (sent_front h k to r old)

sent_behind : (h k : List Entry) (to : Addr) (r : PeerRecord) → HasSent k to r → HasSent (h ++ k) to r
sent_behind [] k to r sent = sent
sent_behind (e ∷ h) k to r sent = inr (sent_behind h k to r sent)

either_sent : (h k : List Entry) (to : Addr) (r : PeerRecord) → HasSent (h ++ k) to r → HasSent h to r ⊎ HasSent k to r
either_sent [] k to r sent = inr sent
either_sent (e ∷ h) k to r (inl now) = inl (inl now)
either_sent (e ∷ h) k to r (inr old) = elim (either_sent h k to r old) [ inl one ↦ inl (inr one) | inr other ↦ inr other ]

-- ---- one process

module _ (o : Opening) where
  grown : (ps : List Past) (m : ℕ) (y : Option Entry) (n : ℕ) (to : Addr) (r : PeerRecord) → HasSent (history_of ps n) to r → HasSent (history_of (with_entry ps m y) n) to r
  grown ps m None n to r sent = sent
  grown ps m (Some y) n to r sent = go (m == n) refl (past_with ps m (y ∷ history_of ps m) n)
    where
      go : (b : Bool) → (m == n) ≡ b → history_of (with_entry ps m (Some y)) n ≡ chosen (m == n) (y ∷ history_of ps m) (history_of ps n) → HasSent (history_of (with_entry ps m (Some y)) n) to r
      go false i is = subst (λ (h : List Entry). HasSent h to r) (sym (is ∙ ap (λ (b : Bool). chosen b (y ∷ history_of ps m) (history_of ps n)) i)) sent
      go true i is =
          let same : m ≡ n = grind (arith, nat_tests, i) in
          subst (λ (h : List Entry). HasSent h to r) (sym (is ∙ ap (λ (b : Bool). chosen b (y ∷ history_of ps m) (history_of ps n)) i)) (inr (subst (λ (k : ℕ). HasSent (history_of ps k) to r) (sym same) sent))

  sent_stays : (gs : List Given) (ps : List Past) (n : ℕ) (to : Addr) (r : PeerRecord) → HasSent (history_of ps n) to r → HasSent (history_of (run_from o ps gs).pasts n) to r
  sent_stays [] ps n to r sent = sent
  sent_stays (g ∷ gs) ps n to r sent = go (asked o g) refl (λ qs h. sent_stays gs qs n to r h)
    where
      go : (a : AskedEvent) → asked o g ≡ a → ((qs : List Past) → HasSent (history_of qs n) to r → HasSent (history_of (run_from o qs gs).pasts n) to r) → HasSent (history_of (run_from o ps (g ∷ gs)).pasts n) to r
      go (Refuses k) i rest = subst (λ (x : NodeRun). HasSent (history_of x.pasts n) to r) (sym (run_step o ps g gs (Refuses k) i)) (rest ps sent)
      go (Is m e) i rest =
          let y : Option Entry = (given o ps m e).entry in
          subst (λ (x : NodeRun). HasSent (history_of x.pasts n) to r) (sym (run_step o ps g gs (Is m e) i)) (rest (with_entry ps m y) (grown ps m y n to r sent))

  pub record IsSaid (ps : List Past) (from to : Addr) (octets : List ℕ) : Type 0 where
    pub rec : PeerRecord
    pub site : from.site ≡ o.site
    pub sent : HasSent (history_of ps from.node) to rec
    pub is : octets ≡ peer_bytes rec

  -- an output of an event is of its entry
  abbrev Says : List Out → ℕ → Addr → Addr → List ℕ → Type 0
  Says outs n from to octets = (r : PeerRecord) × IsSentIn outs to r × ◌≡◌ {A = Addr} (record { site = o.site; node = n }) from × (peer_bytes r ≡ octets)

  one_said : (n : ℕ) (from to : Addr) (octets : List ℕ) (outs : List Out) → IsOneOf (Output.Send from to octets) (outputs_of o n outs) → Says outs n from to octets
  one_said n from to octets [] one = absurd one
  one_said n from to octets (Tell i ∷ outs) (inl here) = absurd (cc (here))
  one_said n from to octets (Tell i ∷ outs) (inr more) = one_said n from to octets outs more
  one_said n from to octets (Send b s ∷ outs) (inl here) =
      let where_to : b ≡ to = cc (here) in
      let where_from : ◌≡◌ {A = Addr} (record { site = o.site; node = n }) from = cc (here) in
      let what : peer_bytes s ≡ octets = cc (here) in
      (s, inl (where_to, refl), where_from, what)
  one_said n from to octets (Send b s ∷ outs) (inr more) = let k = one_said n from to octets outs more in (k.0, inr k.1, k.2, k.3)

  entry_said : (n : ℕ) (from to : Addr) (octets : List ℕ) (number : Option ℕ) (y : Option Entry) → IsOneOf (Output.Send from to octets) (refusal_of number ++ entry_outputs o n y) → (e : Entry) × (y ≡ Some e) × Says e.outs n from to octets
  entry_said n from to octets (Some k) None (inl here) = absurd (cc (here))
  entry_said n from to octets (Some k) None (inr more) = absurd more
  entry_said n from to octets (Some k) (Some e) (inl here) = absurd (cc (here))
  entry_said n from to octets (Some k) (Some e) (inr more) = (e, refl, one_said n from to octets e.outs more)
  entry_said n from to octets None None one = absurd one
  entry_said n from to octets None (Some e) one = (e, refl, one_said n from to octets e.outs one)

  newest : (ps : List Past) (n : ℕ) (e : Entry) (to : Addr) (r : PeerRecord) → IsSentIn e.outs to r → HasSent (history_of (with_entry ps n (Some e)) n) to r
  newest ps n e to r sent =
      let itself : (n == n) ≡ true = grind (arith, nat_tests) in
      subst (λ (h : List Entry). HasSent h to r) (sym (past_with ps n (e ∷ history_of ps n) n ∙ ap (λ (b : Bool). chosen b (e ∷ history_of ps n) (history_of ps n)) itself)) (inl sent)

  pub put_is_said : (from to : Addr) (octets : List ℕ) (gs : List Given) (ps : List Past) → IsPutIn (Output.Send from to octets) (run_from o ps gs).outputs → IsSaid (run_from o ps gs).pasts from to octets
  put_is_said from to octets [] ps put = absurd put
  put_is_said from to octets (g ∷ gs) ps put = go (asked o g) refl (λ qs h. put_is_said from to octets gs qs h)
    where
      go : (a : AskedEvent) → asked o g ≡ a → ((qs : List Past) → IsPutIn (Output.Send from to octets) (run_from o qs gs).outputs → IsSaid (run_from o qs gs).pasts from to octets) → IsSaid (run_from o ps (g ∷ gs)).pasts from to octets
      go (Refuses k) i rest = subst (λ (x : NodeRun). IsSaid x.pasts from to octets) (sym (run_step o ps g gs (Refuses k) i)) (by (subst (λ (x : NodeRun). IsPutIn (Output.Send from to octets) x.outputs) (run_step o ps g gs (Refuses k) i) put))
        where
          by : IsOneOf (Output.Send from to octets) (Output.Refused k ∷ []) ⊎ IsPutIn (Output.Send from to octets) (run_from o ps gs).outputs → IsSaid (run_from o ps gs).pasts from to octets
          by (inl (inl here)) = absurd (cc (here))
          by (inl (inr none)) = absurd none
          by (inr more) = rest ps more
      go (Is m e) i rest = subst (λ (x : NodeRun). IsSaid x.pasts from to octets) (sym (run_step o ps g gs (Is m e) i)) (by (subst (λ (x : NodeRun). IsPutIn (Output.Send from to octets) x.outputs) (run_step o ps g gs (Is m e) i) put))
        where
          y : Option Entry
          y = (given o ps m e).entry

          by : IsOneOf (Output.Send from to octets) (refusal_of (given o ps m e).number ++ entry_outputs o m y) ⊎ IsPutIn (Output.Send from to octets) (run_from o (with_entry ps m y) gs).outputs → IsSaid (run_from o (with_entry ps m y) gs).pasts from to octets
          by (inr more) = rest (with_entry ps m y) more
          by (inl one) =
              let k = entry_said m from to octets (given o ps m e).number y one in
              let r : PeerRecord = k.2.0 in
              let node : m ≡ from.node = ap (λ (a : Addr). a.node) k.2.2 in
              record {
                rec = r;
                site = sym (ap (λ (a : Addr). a.site) k.2.2);
                sent = subst (λ (n : ℕ). HasSent (history_of (run_from o (with_entry ps m y) gs).pasts n) to r) node (sent_stays gs (with_entry ps m y) m to r (subst (λ (z : Option Entry). HasSent (history_of (with_entry ps m z) m) to r) (sym k.1) (newest ps m k.0 to r k.2.1)));
                is = sym k.2.3;
              }

  -- ---- and carries few octets of a user's

  abbrev IsFew : List Entry → Type 0
  IsFew h = (to : Addr) (r : PeerRecord) → HasSent h to r → CarriesFew r

  sent_few : (outs : List Out) (to : Addr) (r : PeerRecord) → AreShort outs → IsSentIn outs to r → CarriesFew r
  sent_few [] to r short sent = absurd sent
  sent_few (Tell i ∷ outs) to r short sent = sent_few outs to r short.1 sent
  sent_few (Send b s ∷ outs) to r short (inl here) = subst CarriesFew here.1 short.0
  sent_few (Send b s ∷ outs) to r short (inr more) = sent_few outs to r short.1 more

  entry_few : (g : Given) (m : ℕ) (e : Event) (ps : List Past) (y : Option Entry) → asked o g ≡ Is m e → (given o ps m e).entry ≡ y → ((n : ℕ) → IsFew (history_of ps n)) → (n : ℕ) → IsFew (history_of (with_entry ps m y) n)
  entry_few g m e ps None i made few n to r sent = few n to r sent
  entry_few g m e ps (Some y) i made few n to r sent = go (m == n) refl (subst (λ (h : List Entry). HasSent h to r) (past_with ps m (y ∷ history_of ps m) n) sent)
    where
      go : (b : Bool) → (m == n) ≡ b → HasSent (chosen (m == n) (y ∷ history_of ps m) (history_of ps n)) to r → CarriesFew r
      go false j h = few n to r (subst (λ (b : Bool). HasSent (chosen b (y ∷ history_of ps m) (history_of ps n)) to r) j h)
      go true j h = by (subst (λ (b : Bool). HasSent (chosen b (y ∷ history_of ps m) (history_of ps n)) to r) j h)
        where
          by : IsSentIn y.outs to r ⊎ HasSent (history_of ps m) to r → CarriesFew r
          by (inl now) = sent_few y.outs to r (entry_short o g m e (history_of ps m) y i made) now
          by (inr old) = few m to r old

  pub run_few : (gs : List Given) (ps : List Past) → ((n : ℕ) → IsFew (history_of ps n)) → (n : ℕ) → IsFew (history_of (run_from o ps gs).pasts n)
  run_few [] ps few n = few n
  run_few (g ∷ gs) ps few n = go (asked o g) refl (λ qs h. run_few gs qs h n)
    where
      go : (a : AskedEvent) → asked o g ≡ a → ((qs : List Past) → ((k : ℕ) → IsFew (history_of qs k)) → IsFew (history_of (run_from o qs gs).pasts n)) → IsFew (history_of (run_from o ps (g ∷ gs)).pasts n)
      go (Refuses k) i rest = subst (λ (x : NodeRun). IsFew (history_of x.pasts n)) (sym (run_step o ps g gs (Refuses k) i)) (rest ps few)
      go (Is m e) i rest =
          let y : Option Entry = (given o ps m e).entry in
          subst (λ (x : NodeRun). IsFew (history_of x.pasts n)) (sym (run_step o ps g gs (Is m e) i)) (rest (with_entry ps m y) (entry_few g m e ps y i refl few))

-- ---- all processes of a site

pub site_is : (s : List ℕ) (life : Life) → (opening_after s life).site ≡ s
site_is s [] = refl
site_is s (gs ∷ life) = refl

pub record IsSaidOver (s : List ℕ) (life : Life) (from to : Addr) (octets : List ℕ) : Type 0 where
  pub rec : PeerRecord
  pub sent : HasSent (history_over s life from.node) to rec
  pub is : octets ≡ peer_bytes rec

pub said_over : (s : List ℕ) (life : Life) (from to : Addr) (octets : List ℕ) → IsPut (Output.Send from to octets) s life → IsSaidOver s life from to octets
said_over s [] from to octets put = absurd put
said_over s (gs ∷ life) from to octets (inl now) =
    let k : IsSaid (opening_after s life) (run_from (opening_after s life) [] gs).pasts from to octets = put_is_said (opening_after s life) from to octets gs [] now in
    record {
      rec = k.rec;
      sent = subst (λ (h : List Entry). HasSent h to k.rec) (sym (over_in s gs life from.node)) (sent_front (history_in s life gs from.node) (before s life from.node) to k.rec k.sent);
      is = k.is;
    }
said_over s (gs ∷ []) from to octets (inr old) = absurd old
said_over s (gs ∷ hs ∷ life) from to octets (inr old) =
    let k : IsSaidOver s (hs ∷ life) from to octets = said_over s (hs ∷ life) from to octets old in
    record { rec = k.rec; sent = sent_behind (history_in s (hs ∷ life) gs from.node) (before s (hs ∷ life) from.node) to k.rec (inr k.sent); is = k.is }

none_few : (o : Opening) (n : ℕ) → IsFew o (history_of [] n)
none_few o n to r sent = absurd sent

pub few_over : (s : List ℕ) (life : Life) (n : ℕ) (to : Addr) (r : PeerRecord) → HasSent (history_over s life n) to r → CarriesFew r
few_over s [] n to r sent = absurd sent
few_over s (gs ∷ []) n to r sent = run_few (opening_after s []) gs [] (none_few (opening_after s [])) n to r sent
few_over s (gs ∷ hs ∷ life) n to r sent = elim (either_sent (history_in s (hs ∷ life) gs n) (before s (hs ∷ life) n) to r sent) [
  | inl now ↦ run_few (opening_after s (hs ∷ life)) gs [] (none_few (opening_after s (hs ∷ life))) n to r now
  | inr old ↦ elim old [ inl none ↦ absurd none | inr h ↦ few_over s (hs ∷ life) n to r h ]
]
