-- What is read of requests, indications, records and bodies is written so, row by row.
use Rattle.std.proofs.Common.{[], ◌∷◌, refl}
use Rattle.tp_names.specs.Bytes.{byte_bytes, short_bytes, long_bytes, mark_bytes, aaid_bytes, branch_bytes, maybe_bytes, addr_bytes, outcome_bytes, report_bytes, octets_bytes}
use Rattle.tp_names.specs.Reading.{that, read_byte, read_short, read_long, read_maybe, read_mark, read_aaid, read_branch, read_addr, read_outcome, read_report, read_octets}
use Rattle.tp_names.specs.Places.{IsWrittenBy}
use Rattle.tp_names.proofs.Numbers.{byte_written, short_written, long_written}
use Rattle.tp_names.proofs.Counts.{octets_written}
use Rattle.tp_names.proofs.Values.{mark_written, aaid_written, branch_written, addr_written, outcome_written, report_written}
use Rattle.tp_names.proofs.Written.{row_0, row_1, row_2, row_3, row_4, code_written, maybe_written}
use Rattle.tp_units.specs.Units.{is_permitted}
use Rattle.tp_records.specs.declared.request.Request.{Request}
use Rattle.tp_records.specs.declared.indication.Indication.{Indication}
use Rattle.tp_records.specs.declared.dialogue.DialogueRecord.{DialogueRecord}
use Rattle.tp_records.specs.declared.dialogue.Holder.{Holder}
use Rattle.tp_records.specs.declared.peer.PeerRecord.{PeerRecord}
use Rattle.tp_records.specs.declared.peer.RecState.{RecState}
use Rattle.tp_records.specs.declared.body.Event.{Event}
use Rattle.tp_records.specs.declared.body.Output.{Output}
use Rattle.tp_records.specs.declared.body.Body.{Body}
use Rattle.tp_records.specs.Bodies.{request_bytes, indication_bytes, holder_bytes, dialogue_bytes, state_bytes, peer_bytes, body_bytes}
use Rattle.tp_records.specs.BodyReading.{read_units, request_kinds, read_request, indication_kinds, read_indication, holder_kinds, read_holder, dialogue_kinds, read_dialogue, state_kinds, read_state, peer_kinds, read_peer, body_kinds, read_body, is_refusal, is_peer_text}
use Rattle.tp_names.proofs.Passing.{that_written}

units_written : IsWrittenBy byte_bytes read_units
units_written = that_written byte_bytes is_permitted read_byte byte_written

refusal_written : IsWrittenBy byte_bytes (that is_refusal read_byte)
refusal_written = that_written byte_bytes is_refusal read_byte byte_written

sent_written : IsWrittenBy octets_bytes (that is_peer_text (read_octets 2000))
sent_written = that_written octets_bytes is_peer_text (read_octets 2000) (octets_written 2000)

pub request_written : IsWrittenBy request_bytes read_request
request_written =
    code_written request_bytes request_kinds
    ((
      (row_2 request_bytes (1 ∷ []) (λ a u. Request.BeginDialogue a u) addr_bytes byte_bytes read_addr read_byte (λ a b. refl) addr_written byte_written),
      (
        (row_1 request_bytes (2 ∷ []) (λ u. Request.Accept u) byte_bytes read_byte (λ a. refl) byte_written),
        (
          (row_0 request_bytes (3 ∷ []) Request.Reject refl),
          (
            (row_1 request_bytes (4 ∷ []) (λ p. Request.EndDialogue p) short_bytes read_short (λ a. refl) short_written),
            (
              (row_2 request_bytes (5 ∷ []) (λ p xs. Request.UserData p xs) short_bytes octets_bytes read_short (read_octets 2000) (λ a b. refl) short_written (octets_written 2000)),
              (
                (row_1 request_bytes (6 ∷ []) (λ p. Request.UError p) short_bytes read_short (λ a. refl) short_written),
                (
                  (row_1 request_bytes (7 ∷ []) (λ p. Request.UAbort p) short_bytes read_short (λ a. refl) short_written),
                  (
                    (row_1 request_bytes (8 ∷ []) (λ p. Request.Grant p) short_bytes read_short (λ a. refl) short_written),
                    (
                      (row_1 request_bytes (9 ∷ []) (λ p. Request.AskControl p) short_bytes read_short (λ a. refl) short_written),
                      (
                        (row_1 request_bytes (10 ∷ []) (λ p. Request.Handshake p) short_bytes read_short (λ a. refl) short_written),
                        (
                          (row_1 request_bytes (11 ∷ []) (λ p. Request.Respond p) short_bytes read_short (λ a. refl) short_written),
                          (
                            (row_1 request_bytes (12 ∷ []) (λ p. Request.HandshakeGrant p) short_bytes read_short (λ a. refl) short_written),
                            (
                              (row_1 request_bytes (13 ∷ []) (λ p. Request.BeginTransaction p) short_bytes read_short (λ a. refl) short_written),
                              (
                                (row_1 request_bytes (14 ∷ []) (λ p. Request.DeferEnd p) short_bytes read_short (λ a. refl) short_written),
                                (
                                  (row_1 request_bytes (15 ∷ []) (λ p. Request.DeferGrant p) short_bytes read_short (λ a. refl) short_written),
                                  (
                                    (row_1 request_bytes (16 ∷ []) (λ p. Request.Prepare p) short_bytes read_short (λ a. refl) short_written),
                                    (
                                      (row_0 request_bytes (17 ∷ []) Request.Commit refl),
                                      (
                                        (row_0 request_bytes (18 ∷ []) Request.Done refl),
                                        (
                                          (row_0 request_bytes (19 ∷ []) Request.Rollback refl),
                                          ((row_0 request_bytes (20 ∷ []) Request.Unchanged refl), tt),
                                        ),
                                      ),
                                    ),
                                  ),
                                ),
                              ),
                            ),
                          ),
                        ),
                      ),
                    ),
                  ),
                ),
              ),
            ),
          ),
        ),
      ),
    ))

pub indication_written : IsWrittenBy indication_bytes read_indication
indication_written =
    code_written indication_bytes indication_kinds
    ((
      (row_2 indication_bytes (1 ∷ []) (λ p u. Indication.BeginDialogue p u) short_bytes byte_bytes read_short read_units (λ a b. refl) short_written units_written),
      (
        (row_2 indication_bytes (2 ∷ []) (λ p u. Indication.BegunDialogue p u) short_bytes byte_bytes read_short read_units (λ a b. refl) short_written units_written),
        (
          (row_1 indication_bytes (3 ∷ []) (λ p. Indication.Rejected p) short_bytes read_short (λ a. refl) short_written),
          (
            (row_1 indication_bytes (4 ∷ []) (λ p. Indication.EndDialogue p) short_bytes read_short (λ a. refl) short_written),
            (
              (row_2 indication_bytes (5 ∷ []) (λ p xs. Indication.UserData p xs) short_bytes octets_bytes read_short (read_octets 1024) (λ a b. refl) short_written (octets_written 1024)),
              (
                (row_1 indication_bytes (6 ∷ []) (λ p. Indication.UError p) short_bytes read_short (λ a. refl) short_written),
                (
                  (row_1 indication_bytes (7 ∷ []) (λ p. Indication.UAbort p) short_bytes read_short (λ a. refl) short_written),
                  (
                    (row_1 indication_bytes (8 ∷ []) (λ p. Indication.PAbort p) short_bytes read_short (λ a. refl) short_written),
                    (
                      (row_1 indication_bytes (9 ∷ []) (λ p. Indication.Grant p) short_bytes read_short (λ a. refl) short_written),
                      (
                        (row_1 indication_bytes (10 ∷ []) (λ p. Indication.AskControl p) short_bytes read_short (λ a. refl) short_written),
                        (
                          (row_1 indication_bytes (11 ∷ []) (λ p. Indication.Handshake p) short_bytes read_short (λ a. refl) short_written),
                          (
                            (row_1 indication_bytes (12 ∷ []) (λ p. Indication.HandshakeConfirm p) short_bytes read_short (λ a. refl) short_written),
                            (
                              (row_1 indication_bytes (13 ∷ []) (λ p. Indication.HandshakeGrant p) short_bytes read_short (λ a. refl) short_written),
                              (
                                (row_2 indication_bytes (14 ∷ []) (λ p a. Indication.BeginTransaction p a) short_bytes aaid_bytes read_short read_aaid (λ a b. refl) short_written aaid_written),
                                (
                                  (row_1 indication_bytes (15 ∷ []) (λ p. Indication.DeferEnd p) short_bytes read_short (λ a. refl) short_written),
                                  (
                                    (row_1 indication_bytes (16 ∷ []) (λ p. Indication.DeferGrant p) short_bytes read_short (λ a. refl) short_written),
                                    (
                                      (row_0 indication_bytes (17 ∷ []) Indication.Prepare refl),
                                      (
                                        (row_1 indication_bytes (18 ∷ []) (λ p. Indication.Ready p) short_bytes read_short (λ a. refl) short_written),
                                        (
                                          (row_0 indication_bytes (19 ∷ []) Indication.Commit refl),
                                          (
                                            (row_1 indication_bytes (20 ∷ []) (λ r. Indication.CommitComplete r) report_bytes read_report (λ a. refl) report_written),
                                            (
                                              (row_0 indication_bytes (21 ∷ []) Indication.Rollback refl),
                                              (
                                                (row_1 indication_bytes (22 ∷ []) (λ r. Indication.RollbackComplete r) report_bytes read_report (λ a. refl) report_written),
                                                (
                                                  (row_2 indication_bytes (23 ∷ []) (λ p r. Indication.HeuristicReport p r) short_bytes report_bytes read_short read_report (λ a b. refl) short_written report_written),
                                                  ((row_1 indication_bytes (24 ∷ []) (λ p. Indication.Left p) short_bytes read_short (λ a. refl) short_written), tt),
                                                ),
                                              ),
                                            ),
                                          ),
                                        ),
                                      ),
                                    ),
                                  ),
                                ),
                              ),
                            ),
                          ),
                        ),
                      ),
                    ),
                  ),
                ),
              ),
            ),
          ),
        ),
      ),
    ))

pub holder_written : IsWrittenBy holder_bytes read_holder
holder_written =
    code_written holder_bytes holder_kinds
    ((
      (row_0 holder_bytes (0 ∷ []) Holder.None refl),
      (
        (row_0 holder_bytes (1 ∷ []) Holder.Superior refl),
        ((row_0 holder_bytes (2 ∷ []) Holder.Subordinate refl), tt),
      ),
    ))

pub dialogue_written : IsWrittenBy dialogue_bytes read_dialogue
dialogue_written =
    code_written dialogue_bytes dialogue_kinds
    ((
      (row_0 dialogue_bytes (1 ∷ []) DialogueRecord.EndDialogue refl),
      (
        (row_1 dialogue_bytes (2 ∷ []) (λ xs. DialogueRecord.UserData xs) octets_bytes (read_octets 1024) (λ a. refl) (octets_written 1024)),
        (
          (row_0 dialogue_bytes (3 ∷ []) DialogueRecord.UError refl),
          (
            (row_0 dialogue_bytes (4 ∷ []) DialogueRecord.UAbort refl),
            (
              (row_0 dialogue_bytes (5 ∷ []) DialogueRecord.Grant refl),
              (
                (row_0 dialogue_bytes (6 ∷ []) DialogueRecord.AskControl refl),
                (
                  (row_0 dialogue_bytes (7 ∷ []) DialogueRecord.Handshake refl),
                  (
                    (row_0 dialogue_bytes (8 ∷ []) DialogueRecord.HandshakeGrant refl),
                    (
                      (row_0 dialogue_bytes (9 ∷ []) DialogueRecord.Response refl),
                      (
                        (row_0 dialogue_bytes (10 ∷ []) DialogueRecord.DeferEnd refl),
                        (
                          (row_0 dialogue_bytes (11 ∷ []) DialogueRecord.DeferGrant refl),
                          (
                            (row_3 dialogue_bytes (12 ∷ []) (λ a b h. DialogueRecord.Begin a b h) aaid_bytes branch_bytes holder_bytes read_aaid read_branch read_holder (λ a b c. refl) aaid_written branch_written holder_written),
                            (
                              (row_0 dialogue_bytes (13 ∷ []) DialogueRecord.Prepare refl),
                              (
                                (row_0 dialogue_bytes (14 ∷ []) DialogueRecord.Ready refl),
                                (
                                  (row_0 dialogue_bytes (15 ∷ []) DialogueRecord.Commit refl),
                                  (
                                    (row_1 dialogue_bytes (16 ∷ []) (λ r. DialogueRecord.Done r) report_bytes read_report (λ a. refl) report_written),
                                    (
                                      (row_0 dialogue_bytes (17 ∷ []) DialogueRecord.Rollback refl),
                                      (
                                        (row_1 dialogue_bytes (18 ∷ []) (λ r. DialogueRecord.RolledBack r) report_bytes read_report (λ a. refl) report_written),
                                        (
                                          (row_0 dialogue_bytes (19 ∷ []) DialogueRecord.Left refl),
                                          ((row_0 dialogue_bytes (20 ∷ []) DialogueRecord.LeftEnd refl), tt),
                                        ),
                                      ),
                                    ),
                                  ),
                                ),
                              ),
                            ),
                          ),
                        ),
                      ),
                    ),
                  ),
                ),
              ),
            ),
          ),
        ),
      ),
    ))

pub state_written : IsWrittenBy state_bytes read_state
state_written =
    code_written state_bytes state_kinds
    ((
      (row_0 state_bytes (1 ∷ []) RecState.Commit refl),
      (
        (row_1 state_bytes (2 ∷ []) (λ r. RecState.Done r) report_bytes read_report (λ a. refl) report_written),
        (
          (row_0 state_bytes (3 ∷ []) RecState.Unknown refl),
          ((row_0 state_bytes (4 ∷ []) RecState.RetryLater refl), tt),
        ),
      ),
    ))

pub peer_written : IsWrittenBy peer_bytes read_peer
peer_written =
    code_written peer_bytes peer_kinds
    ((
      (row_2 peer_bytes (1 ∷ []) (λ x u. PeerRecord.OpenAssoc x u) mark_bytes byte_bytes read_mark read_units (λ a b. refl) mark_written units_written),
      (
        (row_3 peer_bytes (2 ∷ []) (λ x y u. PeerRecord.AcceptAssoc x y u) mark_bytes mark_bytes byte_bytes read_mark read_mark read_units (λ a b c. refl) mark_written mark_written units_written),
        (
          (row_2 peer_bytes (3 ∷ []) (λ x y. PeerRecord.ShutAssoc x y) mark_bytes (maybe_bytes mark_bytes) read_mark (read_maybe read_mark) (λ a b. refl) mark_written (maybe_written mark_bytes read_mark mark_written)),
          (
            (row_4 peer_bytes (4 ∷ []) (λ x y s r. PeerRecord.OnAssoc x y s r) mark_bytes mark_bytes long_bytes dialogue_bytes read_mark read_mark read_long read_dialogue (λ a b c d. refl) mark_written mark_written long_written dialogue_written),
            (
              (row_2 peer_bytes (5 ∷ []) (λ a b. PeerRecord.RecReady a b) aaid_bytes branch_bytes read_aaid read_branch (λ a b. refl) aaid_written branch_written),
              (
                (row_2 peer_bytes (6 ∷ []) (λ a b. PeerRecord.RecCommit a b) aaid_bytes branch_bytes read_aaid read_branch (λ a b. refl) aaid_written branch_written),
                (
                  (row_3 peer_bytes (7 ∷ []) (λ a b s. PeerRecord.RecReply a b s) aaid_bytes branch_bytes state_bytes read_aaid read_branch read_state (λ a b c. refl) aaid_written branch_written state_written),
                  ((row_2 peer_bytes (8 ∷ []) (λ a b. PeerRecord.Forget a b) aaid_bytes branch_bytes read_aaid read_branch (λ a b. refl) aaid_written branch_written), tt),
                ),
              ),
            ),
          ),
        ),
      ),
    ))

pub body_written : IsWrittenBy body_bytes read_body
body_written =
    code_written body_bytes body_kinds
    ((
      (row_2 body_bytes (1 ∷ []) (λ n s. Body.Event (Event.Declare n s)) short_bytes (maybe_bytes addr_bytes) read_short (read_maybe read_addr) (λ a b. refl) short_written (maybe_written addr_bytes read_addr addr_written)),
      (
        (row_2 body_bytes (2 ∷ []) (λ n r. Body.Event (Event.Do n r)) short_bytes request_bytes read_short read_request (λ a b. refl) short_written request_written),
        (
          (row_3 body_bytes (3 ∷ []) (λ from to xs. Body.Event (Event.Arrive from to xs)) addr_bytes addr_bytes octets_bytes read_addr read_addr (read_octets 2000) (λ a b c. refl) addr_written addr_written (octets_written 2000)),
          (
            (row_2 body_bytes (4 ∷ []) (λ n p. Body.Event (Event.Lose n p)) short_bytes short_bytes read_short read_short (λ a b. refl) short_written short_written),
            (
              (row_2 body_bytes (5 ∷ []) (λ n o. Body.Event (Event.Heur n o)) short_bytes outcome_bytes read_short read_outcome (λ a b. refl) short_written outcome_written),
              (
                (row_2 body_bytes (6 ∷ []) (λ n p. Body.Event (Event.GiveUp n p)) short_bytes short_bytes read_short read_short (λ a b. refl) short_written short_written),
                (
                  (row_1 body_bytes (7 ∷ []) (λ n. Body.Event (Event.Retry n)) short_bytes read_short (λ a. refl) short_written),
                  (
                    (row_1 body_bytes (8 ∷ []) (λ n. Body.Event (Event.Purge n)) short_bytes read_short (λ a. refl) short_written),
                    (
                      (row_2 body_bytes (16 ∷ []) (λ n i. Body.Output (Output.Tell n i)) short_bytes indication_bytes read_short read_indication (λ a b. refl) short_written indication_written),
                      (
                        (row_3 body_bytes (17 ∷ []) (λ from to xs. Body.Output (Output.Send from to xs)) addr_bytes addr_bytes octets_bytes read_addr read_addr (that is_peer_text (read_octets 2000)) (λ a b c. refl) addr_written addr_written sent_written),
                        (
                          (row_1 body_bytes (18 ∷ []) (λ k. Body.Output (Output.Refused k)) byte_bytes (that is_refusal read_byte) (λ a. refl) refusal_written),
                          ((row_0 body_bytes (19 ∷ []) (Body.Output Output.Over) refl), tt),
                        ),
                      ),
                    ),
                  ),
                ),
              ),
            ),
          ),
        ),
      ),
    ))
