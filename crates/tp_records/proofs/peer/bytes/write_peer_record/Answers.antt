use Rattle.std.proofs.Common.{◌∙◌, sym, ap, ℕ, List, ◌++◌}
use Rattle.tp_names.specs.Bytes.{byte_bytes, long_bytes, maybe_bytes, mark_bytes}
use Rattle.tp_records.specs.declared.peer.PeerRecord.{PeerRecord}
use Rattle.tp_records.specs.Bodies.{peer_bytes, dialogue_bytes}
use Rattle.tp_records.specs.Openings.{opening, pair}
use Rattle.tp_records.proofs.Joining.{joined, open_text, accept_text, shut_text, on_text}
use Rattle.tp_records.proofs.peer.bytes.write_peer_record.Goals as goal

pub returns-in_ok-write_byte-in-OpenAssoc-clause-ok : goal.returns-in_ok-write_byte-in-OpenAssoc-clause-ok
returns-in_ok-write_byte-in-OpenAssoc-clause-ok c =
    joined _ _ _ (opening 1 c.in-OpenAssoc.x) (byte_bytes c.bits.result) c.in_ok-write_opening-in-OpenAssoc.ensures.ok c.in_ok-write_byte-in-OpenAssoc.ensures.ok
    ∙ ap (λ (u : ℕ). c.args.out.now ++ (opening 1 c.in-OpenAssoc.x ++ byte_bytes u)) c.bits.ensures.value
    ∙ ap (λ (w : List ℕ). c.args.out.now ++ w) (sym (open_text c.in-OpenAssoc.x c.in-OpenAssoc.units)) ∙ ap (λ (r : PeerRecord). c.args.out.now ++ peer_bytes r) (sym c.in-OpenAssoc.is)

pub returns-in_ok-write_byte-in-AcceptAssoc-clause-ok : goal.returns-in_ok-write_byte-in-AcceptAssoc-clause-ok
returns-in_ok-write_byte-in-AcceptAssoc-clause-ok c =
    joined _ _ _ (pair 2 c.in-AcceptAssoc.x c.in-AcceptAssoc.y) (byte_bytes c.bits-in-AcceptAssoc.result) c.in_ok-write_pair-in-AcceptAssoc.ensures.ok c.in_ok-write_byte-in-AcceptAssoc.ensures.ok
    ∙ ap (λ (u : ℕ). c.args.out.now ++ (pair 2 c.in-AcceptAssoc.x c.in-AcceptAssoc.y ++ byte_bytes u)) c.bits-in-AcceptAssoc.ensures.value
    ∙ ap (λ (w : List ℕ). c.args.out.now ++ w) (sym (accept_text c.in-AcceptAssoc.x c.in-AcceptAssoc.y c.in-AcceptAssoc.units)) ∙ ap (λ (r : PeerRecord). c.args.out.now ++ peer_bytes r) (sym c.in-AcceptAssoc.is)

pub returns-in_ok-write_maybe_mark-in-ShutAssoc-clause-ok : goal.returns-in_ok-write_maybe_mark-in-ShutAssoc-clause-ok
returns-in_ok-write_maybe_mark-in-ShutAssoc-clause-ok c =
    joined _ _ _ (opening 3 c.in-ShutAssoc.x) (maybe_bytes mark_bytes c.in-ShutAssoc.y) c.in_ok-write_opening-in-ShutAssoc.ensures.ok c.in_ok-write_maybe_mark-in-ShutAssoc.ensures.ok
    ∙ ap (λ (w : List ℕ). c.args.out.now ++ w) (sym (shut_text c.in-ShutAssoc.x c.in-ShutAssoc.y)) ∙ ap (λ (r : PeerRecord). c.args.out.now ++ peer_bytes r) (sym c.in-ShutAssoc.is)

pub returns-in_ok-write_dialogue-in-OnAssoc-clause-ok : goal.returns-in_ok-write_dialogue-in-OnAssoc-clause-ok
returns-in_ok-write_dialogue-in-OnAssoc-clause-ok c =
    joined _ _ _ (pair 4 c.in-OnAssoc.x c.in-OnAssoc.y ++ long_bytes c.in-OnAssoc.seq) (dialogue_bytes c.in-OnAssoc.rec)
    (joined _ _ _ (pair 4 c.in-OnAssoc.x c.in-OnAssoc.y) (long_bytes c.in-OnAssoc.seq) c.in_ok-write_pair-in-OnAssoc.ensures.ok c.in_ok-write_long-in-OnAssoc.ensures.ok) c.in_ok-write_dialogue-in-OnAssoc.ensures.ok
    ∙ ap (λ (w : List ℕ). c.args.out.now ++ w) (sym (on_text c.in-OnAssoc.x c.in-OnAssoc.y c.in-OnAssoc.seq c.in-OnAssoc.rec)) ∙ ap (λ (r : PeerRecord). c.args.out.now ++ peer_bytes r) (sym c.in-OnAssoc.is)
