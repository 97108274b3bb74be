-- Letters among the outputs of a node, and the octets of a record that is read.
use Rattle.std.proofs.Common.{◌≡◌, ◌++◌, refl, ap, sym, ◌∙◌, ℕ, Option, Some, None, List, [], ◌∷◌, append_assoc, append-nil}
use Rattle.tp_names.specs.declared.identifiers.Addr.{Addr}
use Rattle.tp_names.specs.Grammar.{HasText}
use Rattle.tp_names.specs.Places.{AreBytes}
use Rattle.tp_records.specs.declared.peer.PeerRecord.{PeerRecord}
use Rattle.tp_records.specs.Bodies.{peer_bytes}
use Rattle.tp_records.specs.BodyReading.{whole, peer_in, peer_grammar, read_peer}
use Rattle.tp_records.proofs.Spelled.{peer_written}
use Rattle.tp_model.specs.Parts.{Out, Tell, Send}
use Rattle.tp_weaving.specs.declared.letter.Letter.{Letter}
use Rattle.tp_weaving.specs.Letters.{letters_in}
use Rattle.tp_unite.specs.Said.{Spells, IsRecordIn, AddsLetters}

pub spells : (r : PeerRecord) (octets : List ℕ) → HasText peer_grammar r → octets ≡ peer_bytes r → Spells r octets
spells r octets text is = record { spelled = is; reads = ap whole text }

-- ---- octets that are a record are its text

read_whole : (octets : List ℕ) (r : PeerRecord) → peer_in octets ≡ Some r → read_peer octets ≡ Some (r, [])
read_whole octets r is = by (read_peer octets) refl is
  where
    by : (o : Option (PeerRecord × List ℕ)) → read_peer octets ≡ o → whole o ≡ Some r → read_peer octets ≡ Some (r, [])
    by None i h = absurd (cc (h))
    by (Some (q, [])) i h = let same : q ≡ r = cc (h) in i ∙ ap (λ (x : PeerRecord). Some (x, [])) same
    by (Some (q, b ∷ bytes)) i h = absurd (cc (h))

spelled : (octets : List ℕ) (r : PeerRecord) → AreBytes octets → peer_in octets ≡ Some r → octets ≡ peer_bytes r
spelled octets r bytes is = peer_written.spelled octets r [] bytes (read_whole octets r is) ∙ append-nil (peer_bytes r)

pub record_so : (octets : List ℕ) (o : Option PeerRecord) → AreBytes octets → o ≡ peer_in octets → IsRecordIn octets o
record_so octets None bytes is = sym is
record_so octets (Some r) bytes is = (sym is, spelled octets r bytes (sym is))

-- ---- letters

pub tell_adds : (from : Addr) (o : Out) (ls : List Letter) (i : _) → o ≡ Tell i → AddsLetters from (o ∷ []) ls ls
tell_adds from (Tell j) ls i is = record { says = sym (append-nil ls); are_read = tt }
tell_adds from (Send b q) ls i is = absurd (cc (is))

pub send_adds : (from : Addr) (o : Out) (to : Addr) (r : PeerRecord) (old new : List Letter) (octets : List ℕ) → o ≡ Send to r → Spells r octets → new ≡ old ++ (record { from = from; to = to; octets = octets }) ∷ [] → AddsLetters from (o ∷ []) old new
send_adds from (Tell j) to r old new octets is s more = absurd (cc (is))
send_adds from (Send b q) to r old new octets is s more =
    let there : to ≡ b = cc (is) in
    let rec : r ≡ q = cc (is) in
    record {
      says =
          more ∙ ap (λ (xs : List ℕ). let l : Letter = record { from = from; to = to; octets = xs } in old ++ l ∷ []) s.spelled
          ∙ ap (λ (a : Addr). let l : Letter = record { from = from; to = a; octets = peer_bytes r } in old ++ l ∷ []) there
          ∙ ap (λ (p : PeerRecord). let l : Letter = record { from = from; to = b; octets = peer_bytes p } in old ++ l ∷ []) rec;
      are_read = (ap (λ (p : PeerRecord). peer_in (peer_bytes p)) (sym rec) ∙ s.reads ∙ ap (λ (p : PeerRecord). Some p) rec, tt);
    }

pub none_adds : (from : Addr) (ls : List Letter) → AddsLetters from [] ls ls
none_adds from ls = record { says = sym (append-nil ls); are_read = tt }

pub adds_more : (from : Addr) (o : Out) (outs : List Out) (old mid new : List Letter) → AddsLetters from (o ∷ []) old mid → AddsLetters from outs mid new → AddsLetters from (o ∷ outs) old new
adds_more from (Tell i) outs old mid new first rest = record { says = rest.says ∙ ap (λ (l : List Letter). l ++ letters_in from outs) (first.says ∙ append-nil old); are_read = rest.are_read }
adds_more from (Send b q) outs old mid new first rest = record {
  says = rest.says ∙ ap (λ (l : List Letter). l ++ letters_in from outs) first.says ∙ append_assoc old (letters_in from (Send b q ∷ [])) (letters_in from outs);
  are_read = (first.are_read.0, rest.are_read);
}
