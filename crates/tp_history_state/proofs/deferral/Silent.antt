-- Records that no turn says but where its user leaves, or defers something.
use Rattle.tp_history_state.proofs.Vocabulary.{◌≡◌, ℕ, Bool, false, ap, ◌∙◌, arith, Option, Some, None, List, [], Request, DialogueRecord, Phase, TxEvent, TxOut, Who, Current, Digest, performed, Transaction, Turn, transacted, Move, move, passed, transact, turned, seen, is_leaving, Passage, Stays, passage, entered, played, said_to, has_said, IsPut, whole_turn, started_next}
use Rattle.tp_history_state.proofs.lemmas.Rare.{IsRare, silent_turn}
use Rattle.tp_history_state.proofs.rests.Foreign.{said_played}

-- the request defers something on the arc with that peer
abbrev pub defer_peer : TxEvent → Option ℕ
defer_peer (TxEvent.User (Request.DeferEnd q)) = Some q
defer_peer (TxEvent.User (Request.DeferGrant q)) = Some q
defer_peer _ = None

-- a turn that is no leaving, and puts nothing off
pub silent_turned : (g : DialogueRecord → Bool) → IsRare g → g DialogueRecord.Grant ≡ false → (who : Who) (f : TxEvent) (d : Digest) (c : Current) (p : ℕ) → is_leaving f ≡ false → defer_peer f ≡ None → IsPut f (seen who d.arcs c) → has_said g (said_to p (turned who f d c).outs) ≡ false
silent_turned g rare grant who f d c p off plain put =
    let t : Transaction = seen who d.arcs c in
    let a : Turn = transacted f t in
    let w : Passage = passage (is_leaving f) t.phase a.next.phase in
    said_played g grant d t w a (whole_turn f t) (entered t w d.arcs) p (silent_turn g rare f t off (λ q is. absurd (cc (ap defer_peer is, plain))) (λ q is. absurd (cc (ap defer_peer is, plain))) put)

-- ---- turns that change no phase

stays_same : (b : Bool) (p q : Phase) → q ≡ p → passage b p q ≡ Stays
stays_same b p q h1 = grind arith

pub still_turned : (who : Who) (f : TxEvent) (d : Digest) (c : Current) → (transacted f (seen who d.arcs c)).next.phase ≡ c.phase
    → ((turned who f d c).next.arcs ≡ (performed d.arcs (transacted f (seen who d.arcs c)).outs).0) × ((turned who f d c).outs ≡ (performed d.arcs (transacted f (seen who d.arcs c)).outs).1)
unfolding entered played
still_turned who f d c same =
    let t : Transaction = seen who d.arcs c in
    let a : Turn = transacted f t in
    let is : passage (is_leaving f) c.phase a.next.phase ≡ Stays = stays_same (is_leaving f) c.phase a.next.phase same in
    (ap (λ (w : Passage). (played d t w a (entered t w d.arcs)).0) is, ap (λ (w : Passage). (played d t w a (entered t w d.arcs)).1) is)

pub still_transact : (who : Who) (f : TxEvent) (d : Digest) (c : Current) → d.current ≡ Some c → (transacted f (seen who d.arcs c)).next.phase ≡ c.phase
    → ((transact who f d).next.arcs ≡ (performed d.arcs (transacted f (seen who d.arcs c)).outs).0) × ((transact who f d).outs ≡ (performed d.arcs (transacted f (seen who d.arcs c)).outs).1)
unfolding transact
still_transact who f d c now same =
    let outs : List TxOut = (transacted f (seen who d.arcs c)).outs in
    let m : Move = turned who f d c in
    let w : Passage = passage (is_leaving f) c.phase (transacted f (seen who d.arcs c)).next.phase in
    let is : w ≡ Stays = stays_same (is_leaving f) c.phase (transacted f (seen who d.arcs c)).next.phase same in
    let one = still_turned who f d c same in
    let here : elim d.current as (λ _. Move) [ None ↦ move [] d | Some x ↦ started_next who (passed who f d x) (turned who f d x) ] ≡ started_next who w m = ap (λ (v : Option Current). elim v as (λ _. Move) [ None ↦ move [] d | Some x ↦ started_next who (passed who f d x) (turned who f d x) ]) now in
    let stays : started_next who w m ≡ m = ap (λ (v : Passage). started_next who v m) is in
    (ap (λ (n : Move). n.next.arcs) (here ∙ stays) ∙ one.0, ap (λ (n : Move). n.outs) (here ∙ stays) ∙ one.1)
