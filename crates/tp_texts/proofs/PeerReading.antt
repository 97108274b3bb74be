-- Octets that are decoded: a peer record's whole text, or none.
use Rattle.std.proofs.Common.{◌≡◌, ◌≢◌, ◌<◌, ℕ, Option, Some, None, List, [], ◌∷◌, ◌++◌, length, drop, refl, sym, ap, ◌∙◌, arith, length-drop, take-append-drop}
use Rattle.std.proofs.lemmas.List.{take_all, append-nil}
use Rattle.tp_names.specs.Places.{AreBytes}
use Rattle.tp_names.specs.Grammar.{Begins, IsBadAt, IsGrammar}
use Rattle.tp_names.proofs.Texts.{is_grammar}
use Rattle.tp_records.specs.declared.peer.PeerRecord.{PeerRecord}
use Rattle.tp_records.specs.Bodies.{peer_bytes}
use Rattle.tp_records.specs.BodyReading.{peer_grammar, peer_in, read_peer, whole}
use Rattle.tp_records.proofs.Scans.{peer_scan}
use Rattle.tp_records.proofs.Spelled.{peer_written}

texts : IsGrammar peer_grammar
texts = is_grammar peer_grammar peer_scan.steady peer_written

not_whole : (rec : PeerRecord) (rest : List ℕ) → 0 < length rest → None ≡ whole (Some (rec, rest))
not_whole rec [] some = absurd (omega arith)
not_whole rec (b ∷ rest) some = refl

-- a text with more after it is no whole text
pub front_text : (octets : List ℕ) (rec : PeerRecord) (n : ℕ) → Begins peer_grammar rec n octets → n ≢ length octets → None ≡ peer_in octets
front_text octets rec n begins differs =
    let parts : peer_bytes rec ++ drop n octets ≡ octets = ap (λ l. l ++ drop n octets) begins.1.1 ∙ take-append-drop n octets in
    let reads : read_peer octets ≡ Some (rec, drop n octets) = ap read_peer (sym parts) ∙ texts.read_back rec (drop n octets) begins.1.0 in
    let some : 0 < length (drop n octets) = omega (arith, length-drop n octets, begins.0, differs) in
    not_whole rec (drop n octets) some ∙ ap whole (sym reads)

whole_is : (o : Option (PeerRecord × List ℕ)) (rec : PeerRecord) → whole o ≡ Some rec → o ≡ Some (rec, [])
whole_is None rec is = absurd cc
whole_is (Some p) rec is = go p.1 refl is
  where
    go : (rest : List ℕ) → p.1 ≡ rest → (elim rest as (λ _. Option PeerRecord) [ [] ↦ Some p.0 | b ∷ bytes ↦ None ]) ≡ Some rec → Some p ≡ Some (rec, [])
    go [] at is = let e : p.0 ≡ rec = cc in ap Some (rw (← e, ← at) refl)
    go (b ∷ bytes) at is = absurd cc

pub no_text : (octets : List ℕ) (at : ℕ) → AreBytes octets → IsBadAt peer_grammar octets at → None ≡ peer_in octets
no_text octets at fits bad = go (peer_in octets) refl
  where
    go : (o : Option PeerRecord) → peer_in octets ≡ o → None ≡ peer_in octets
    go None is = sym is
    go (Some rec) is =
        let reads : read_peer octets ≡ Some (rec, []) = whole_is (read_peer octets) rec is in
        let written = texts.written rec octets [] fits reads in
        absurd (bad.no_text rec (length octets) (omega arith, (written.0, sym (append-nil (peer_bytes rec)) ∙ sym written.1 ∙ sym (take_all (length octets) octets (omega arith)))))
