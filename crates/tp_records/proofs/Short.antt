-- Octets that are read back are few enough for a count of two bytes.
use Rattle.std.proofs.Common.{◌≡◌, ℕ, ◌<◌, ◌^◌, Option, Some, List, [], ◌∷◌, ◌*◌, ◌+◌, ◌==◌, Bool, true, false, sym, subst, arith}
use Rattle.tp_names.specs.Reading.{Reader, make, ◌and◌, read_long, read_maybe, read_mark, read_aaid, read_branch, read_report, read_octets, read_kind, read_by_code}
use Rattle.tp_names.specs.Grammar.{HasText}
use Rattle.tp_names.proofs.Sequences.{some_pair, Both, both_parts}
use Rattle.tp_names.proofs.Counts.{OctetsParts, octets_parts}
use Rattle.tp_records.specs.declared.dialogue.DialogueRecord.{DialogueRecord}
use Rattle.tp_records.specs.declared.peer.PeerRecord.{PeerRecord}
use Rattle.tp_records.specs.BodyReading.{read_units, read_holder, read_state, dialogue_kinds, read_dialogue, peer_kinds, read_peer, peer_grammar}
use Rattle.tp_records.specs.Bodies.{peer_bytes}
use Rattle.tp_records.specs.Octets.{IsShort, IsShortDialogue, IsShortPeer}

-- what is read always has a property
pub record Makes {A : Type 0} (P : A → Type 0) (r : Reader A) : Type 0 where
  pub each : (bytes : List ℕ) (v : A) (rest : List ℕ) → r bytes ≡ Some (v, rest) → P v

makes_made : {A : Type 0} (P : A → Type 0) (v : A) → P v → Makes P (make v)
makes_made P v p = record { each = λ bytes w rest h. let e = some_pair v w bytes rest h in subst P e.0 p }

makes_any : {A : Type 0} (r : Reader A) → Makes (λ _. Unit {0}) r
makes_any r = record { each = λ bytes v rest h. tt }

makes_both : {A B : Type 0} (P : B → Type 0) (Q : A → Type 0) (f : Reader (A → B)) (r : Reader A) → Makes (λ g. (a : A) → Q a → P (g a)) f → Makes Q r → Makes P (f and r)
makes_both {A} {B} P Q f r x y = record {
  each = λ bytes v rest h.
      let b : Both (f bytes) r v rest = both_parts (f bytes) r v rest h in
      subst P (sym b.value) (x.each bytes b.made b.middle b.first b.part (y.each b.middle b.part rest b.second));
}

octets_short : (most : ℕ) → most < 2 ^ 16 → Makes IsShort (read_octets most)
octets_short most small = record { each = λ bytes v rest h. let x : OctetsParts most bytes v rest = octets_parts most bytes v rest h in omega (arith, x.fits, small) }

makes_1 : {A V : Type 0} (P : V → Type 0) (Qa : A → Type 0) (f : A → V) (ra : Reader A) → ((a : A) → Qa a → P (f a)) → Makes Qa ra → Makes P (make f and ra)
makes_1 {A} P Qa f ra p xa = makes_both P Qa (make f) ra (makes_made (λ g. (a : A) → Qa a → P (g a)) f p) xa

makes_2 : {A B V : Type 0} (P : V → Type 0) (Qa : A → Type 0) (Qb : B → Type 0) (f : A → B → V) (ra : Reader A) (rb : Reader B) → ((a : A) (b : B) → Qa a → Qb b → P (f a b)) → Makes Qa ra → Makes Qb rb → Makes P (make f and ra and rb)
makes_2 {A} {B} P Qa Qb f ra rb p xa xb =
    makes_both P Qb (make f and ra) rb (makes_1 (λ g. (b : B) → Qb b → P (g b)) Qa f ra (λ a qa b qb. p a b qa qb) xa) xb

makes_3 : {A B C V : Type 0} (P : V → Type 0) (Qa : A → Type 0) (Qb : B → Type 0) (Qc : C → Type 0) (f : A → B → C → V) (ra : Reader A) (rb : Reader B) (rc : Reader C)
    → ((a : A) (b : B) (c : C) → Qa a → Qb b → Qc c → P (f a b c)) → Makes Qa ra → Makes Qb rb → Makes Qc rc → Makes P (make f and ra and rb and rc)
makes_3 {A} {B} {C} P Qa Qb Qc f ra rb rc p xa xb xc =
    makes_both P Qc (make f and ra and rb) rc (makes_2 (λ g. (c : C) → Qc c → P (g c)) Qa Qb f ra rb (λ a b qa qb c qc. p a b c qa qb qc) xa xb) xc

makes_4 : {A B C D V : Type 0} (P : V → Type 0) (Qa : A → Type 0) (Qb : B → Type 0) (Qc : C → Type 0) (Qd : D → Type 0) (f : A → B → C → D → V) (ra : Reader A) (rb : Reader B) (rc : Reader C) (rd : Reader D)
    → ((a : A) (b : B) (c : C) (d : D) → Qa a → Qb b → Qc c → Qd d → P (f a b c d)) → Makes Qa ra → Makes Qb rb → Makes Qc rc → Makes Qd rd → Makes P (make f and ra and rb and rc and rd)
makes_4 {A} {B} {C} {D} P Qa Qb Qc Qd f ra rb rc rd p xa xb xc xd =
    makes_both P Qd (make f and ra and rb and rc) rd (makes_3 (λ g. (d : D) → Qd d → P (g d)) Qa Qb Qc f ra rb rc (λ a b c qa qb qc d qd. p a b c d qa qb qc qd) xa xb xc) xd

abbrev EachMakes : {A : Type 0} → (A → Type 0) → List (ℕ × Reader A) → Type 0
EachMakes P [] = Unit {0}
EachMakes P (k ∷ ks) = Makes P k.1 × EachMakes P ks

kind_makes : {A : Type 0} (P : A → Type 0) (ks : List (ℕ × Reader A)) (code : ℕ) (bytes : List ℕ) (v : A) (rest : List ℕ) → EachMakes P ks → read_kind ks code bytes ≡ Some (v, rest) → P v
kind_makes P [] code bytes v rest rows h = absurd cc
kind_makes {A} P (k ∷ ks) code bytes v rest rows h = go (k.0 == code) h (kind_makes P ks code bytes v rest rows.1)
  where
    go : (t : Bool) → elim t as (λ _. Option (A × List ℕ)) [ true ↦ k.1 bytes | false ↦ read_kind ks code bytes ] ≡ Some (v, rest) → (read_kind ks code bytes ≡ Some (v, rest) → P v) → P v
    go true r later = rows.0.each bytes v rest r
    go false r later = later r

makes_code : {A : Type 0} (P : A → Type 0) (ks : List (ℕ × Reader A)) → EachMakes P ks → Makes P (read_by_code ks)
makes_code {A} P ks rows = record { each = each }
  where
    each : (bytes : List ℕ) (v : A) (rest : List ℕ) → read_by_code ks bytes ≡ Some (v, rest) → P v
    each [] v rest h = absurd cc
    each (code ∷ bytes) v rest h = kind_makes P ks (0 * 256 + code) bytes v rest rows h

dialogue_makes : Makes IsShortDialogue read_dialogue
dialogue_makes =
    makes_code IsShortDialogue dialogue_kinds (
      makes_made IsShortDialogue DialogueRecord.EndDialogue tt,
      (
        makes_1 IsShortDialogue IsShort (λ xs. DialogueRecord.UserData xs) (read_octets 1024) (λ a qa. qa) (octets_short 1024 (omega arith)),
        (
          makes_made IsShortDialogue DialogueRecord.UError tt,
          (
            makes_made IsShortDialogue DialogueRecord.UAbort tt,
            (
              makes_made IsShortDialogue DialogueRecord.Grant tt,
              (
                makes_made IsShortDialogue DialogueRecord.AskControl tt,
                (
                  makes_made IsShortDialogue DialogueRecord.Handshake tt,
                  (
                    makes_made IsShortDialogue DialogueRecord.HandshakeGrant tt,
                    (
                      makes_made IsShortDialogue DialogueRecord.Response tt,
                      (
                        makes_made IsShortDialogue DialogueRecord.DeferEnd tt,
                        (
                          makes_made IsShortDialogue DialogueRecord.DeferGrant tt,
                          (
                            makes_3 IsShortDialogue (λ _. Unit {0}) (λ _. Unit {0}) (λ _. Unit {0}) (λ a b h. DialogueRecord.Begin a b h) read_aaid read_branch read_holder (λ a b c qa qb qc. tt) (makes_any read_aaid) (makes_any read_branch) (makes_any read_holder),
                            (
                              makes_made IsShortDialogue DialogueRecord.Prepare tt,
                              (
                                makes_made IsShortDialogue DialogueRecord.Ready tt,
                                (
                                  makes_made IsShortDialogue DialogueRecord.Commit tt,
                                  (
                                    makes_1 IsShortDialogue (λ _. Unit {0}) (λ r. DialogueRecord.Done r) read_report (λ a qa. tt) (makes_any read_report),
                                    (
                                      makes_made IsShortDialogue DialogueRecord.Rollback tt,
                                      (
                                        makes_1 IsShortDialogue (λ _. Unit {0}) (λ r. DialogueRecord.RolledBack r) read_report (λ a qa. tt) (makes_any read_report),
                                        (
                                          makes_made IsShortDialogue DialogueRecord.Left tt,
                                          (makes_made IsShortDialogue DialogueRecord.LeftEnd tt, tt),
                                        ),
                                      ),
                                    ),
                                  ),
                                ),
                              ),
                            ),
                          ),
                        ),
                      ),
                    ),
                  ),
                ),
              ),
            ),
          ),
        ),
      ),
    )

peer_makes : Makes IsShortPeer read_peer
peer_makes =
    makes_code IsShortPeer peer_kinds (
      makes_2 IsShortPeer (λ _. Unit {0}) (λ _. Unit {0}) (λ x u. PeerRecord.OpenAssoc x u) read_mark read_units (λ a b qa qb. tt) (makes_any read_mark) (makes_any read_units),
      (
        makes_3 IsShortPeer (λ _. Unit {0}) (λ _. Unit {0}) (λ _. Unit {0}) (λ x y u. PeerRecord.AcceptAssoc x y u) read_mark read_mark read_units (λ a b c qa qb qc. tt) (makes_any read_mark) (makes_any read_mark) (makes_any read_units),
        (
          makes_2 IsShortPeer (λ _. Unit {0}) (λ _. Unit {0}) (λ x y. PeerRecord.ShutAssoc x y) read_mark (read_maybe read_mark) (λ a b qa qb. tt) (makes_any read_mark) (makes_any (read_maybe read_mark)),
          (
            makes_4 IsShortPeer (λ _. Unit {0}) (λ _. Unit {0}) (λ _. Unit {0}) IsShortDialogue (λ x y s r. PeerRecord.OnAssoc x y s r) read_mark read_mark read_long read_dialogue (λ a b c d qa qb qc qd. qd) (makes_any read_mark) (makes_any read_mark) (makes_any read_long) dialogue_makes,
            (
              makes_2 IsShortPeer (λ _. Unit {0}) (λ _. Unit {0}) (λ a b. PeerRecord.RecReady a b) read_aaid read_branch (λ a b qa qb. tt) (makes_any read_aaid) (makes_any read_branch),
              (
                makes_2 IsShortPeer (λ _. Unit {0}) (λ _. Unit {0}) (λ a b. PeerRecord.RecCommit a b) read_aaid read_branch (λ a b qa qb. tt) (makes_any read_aaid) (makes_any read_branch),
                (
                  makes_3 IsShortPeer (λ _. Unit {0}) (λ _. Unit {0}) (λ _. Unit {0}) (λ a b s. PeerRecord.RecReply a b s) read_aaid read_branch read_state (λ a b c qa qb qc. tt) (makes_any read_aaid) (makes_any read_branch) (makes_any read_state),
                  (makes_2 IsShortPeer (λ _. Unit {0}) (λ _. Unit {0}) (λ a b. PeerRecord.Forget a b) read_aaid read_branch (λ a b qa qb. tt) (makes_any read_aaid) (makes_any read_branch), tt),
                ),
              ),
            ),
          ),
        ),
      ),
    )

pub peer_short : (v : PeerRecord) → HasText peer_grammar v → IsShortPeer v
peer_short v h = peer_makes.each (peer_bytes v) v [] h
