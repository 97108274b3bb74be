-- The scans of requests, indications and records are right, row by row.
use Rattle.std.proofs.Common.{refl, arith}
use Rattle.tp_names.specs.Reading.{make, ◌and◌, read_byte, read_short, read_long, read_maybe, read_mark, read_aaid, read_branch, read_addr, read_report, read_octets}
use Rattle.tp_names.specs.Scanning.{scan_make, ◌with◌, scan_byte, scan_short, scan_long, scan_maybe, scan_mark, scan_aaid, scan_branch, scan_addr, scan_report, scan_octets}
use Rattle.tp_names.specs.Places.{IsScan}
use Rattle.tp_names.proofs.Sequences.{scan_made, scan_both}
use Rattle.tp_names.proofs.Numbers.{byte_scan, short_scan, long_scan}
use Rattle.tp_names.proofs.Codes.{byte_that_scan, code_scan, maybe_scan}
use Rattle.tp_names.proofs.Counts.{octets_scan}
use Rattle.tp_names.proofs.Values.{mark_scan, aaid_scan, branch_scan, addr_scan, report_scan}
use Rattle.tp_units.specs.Units.{is_permitted}
use Rattle.tp_records.specs.declared.request.Request.{Request}
use Rattle.tp_records.specs.declared.indication.Indication.{Indication}
use Rattle.tp_records.specs.declared.dialogue.DialogueRecord.{DialogueRecord}
use Rattle.tp_records.specs.declared.dialogue.Holder.{Holder}
use Rattle.tp_records.specs.declared.peer.PeerRecord.{PeerRecord}
use Rattle.tp_records.specs.declared.peer.RecState.{RecState}
use Rattle.tp_records.specs.BodyReading.{read_units, request_kinds, read_request, indication_kinds, read_indication, holder_kinds, read_holder, dialogue_kinds, read_dialogue, state_kinds, read_state, peer_kinds, read_peer}
use Rattle.tp_records.specs.BodyScanning.{scan_units, request_scans, scan_request, indication_scans, scan_indication, holder_scans, scan_holder, dialogue_scans, scan_dialogue, state_scans, scan_state, peer_scans, scan_peer}

pub units_scan : IsScan read_units scan_units
unfolding scan_units
units_scan = byte_that_scan is_permitted 1 (omega arith) refl

pub request_scan : IsScan read_request scan_request
unfolding scan_request
request_scan =
    code_scan request_kinds request_scans (omega arith)
    ((
      refl,
      (
        (scan_both (make (λ a u. Request.BeginDialogue a u) and read_addr) read_byte (scan_make (λ a u. Request.BeginDialogue a u) with scan_addr) scan_byte (scan_both (make (λ a u. Request.BeginDialogue a u)) read_addr (scan_make (λ a u. Request.BeginDialogue a u)) scan_addr (scan_made (λ a u. Request.BeginDialogue a u)) addr_scan) byte_scan),
        (
          refl,
          (
            (scan_both (make (λ u. Request.Accept u)) read_byte (scan_make (λ u. Request.Accept u)) scan_byte (scan_made (λ u. Request.Accept u)) byte_scan),
            (
              refl,
              (
                (scan_made Request.Reject),
                (
                  refl,
                  (
                    (scan_both (make (λ p. Request.EndDialogue p)) read_short (scan_make (λ p. Request.EndDialogue p)) scan_short (scan_made (λ p. Request.EndDialogue p)) short_scan),
                    (
                      refl,
                      (
                        (scan_both (make (λ p xs. Request.UserData p xs) and read_short) (read_octets 2000) (scan_make (λ p xs. Request.UserData p xs) with scan_short) (scan_octets 2000) (scan_both (make (λ p xs. Request.UserData p xs)) read_short (scan_make (λ p xs. Request.UserData p xs)) scan_short (scan_made (λ p xs. Request.UserData p xs)) short_scan) (octets_scan 2000)),
                        (
                          refl,
                          (
                            (scan_both (make (λ p. Request.UError p)) read_short (scan_make (λ p. Request.UError p)) scan_short (scan_made (λ p. Request.UError p)) short_scan),
                            (
                              refl,
                              (
                                (scan_both (make (λ p. Request.UAbort p)) read_short (scan_make (λ p. Request.UAbort p)) scan_short (scan_made (λ p. Request.UAbort p)) short_scan),
                                (
                                  refl,
                                  (
                                    (scan_both (make (λ p. Request.Grant p)) read_short (scan_make (λ p. Request.Grant p)) scan_short (scan_made (λ p. Request.Grant p)) short_scan),
                                    (
                                      refl,
                                      (
                                        (scan_both (make (λ p. Request.AskControl p)) read_short (scan_make (λ p. Request.AskControl p)) scan_short (scan_made (λ p. Request.AskControl p)) short_scan),
                                        (
                                          refl,
                                          (
                                            (scan_both (make (λ p. Request.Handshake p)) read_short (scan_make (λ p. Request.Handshake p)) scan_short (scan_made (λ p. Request.Handshake p)) short_scan),
                                            (
                                              refl,
                                              (
                                                (scan_both (make (λ p. Request.Respond p)) read_short (scan_make (λ p. Request.Respond p)) scan_short (scan_made (λ p. Request.Respond p)) short_scan),
                                                (
                                                  refl,
                                                  (
                                                    (scan_both (make (λ p. Request.HandshakeGrant p)) read_short (scan_make (λ p. Request.HandshakeGrant p)) scan_short (scan_made (λ p. Request.HandshakeGrant p)) short_scan),
                                                    (
                                                      refl,
                                                      (
                                                        (scan_both (make (λ p. Request.BeginTransaction p)) read_short (scan_make (λ p. Request.BeginTransaction p)) scan_short (scan_made (λ p. Request.BeginTransaction p)) short_scan),
                                                        (
                                                          refl,
                                                          (
                                                            (scan_both (make (λ p. Request.DeferEnd p)) read_short (scan_make (λ p. Request.DeferEnd p)) scan_short (scan_made (λ p. Request.DeferEnd p)) short_scan),
                                                            (
                                                              refl,
                                                              (
                                                                (scan_both (make (λ p. Request.DeferGrant p)) read_short (scan_make (λ p. Request.DeferGrant p)) scan_short (scan_made (λ p. Request.DeferGrant p)) short_scan),
                                                                (
                                                                  refl,
                                                                  (
                                                                    (scan_both (make (λ p. Request.Prepare p)) read_short (scan_make (λ p. Request.Prepare p)) scan_short (scan_made (λ p. Request.Prepare p)) short_scan),
                                                                    (
                                                                      refl,
                                                                      (
                                                                        (scan_made Request.Commit),
                                                                        (
                                                                          refl,
                                                                          (
                                                                            (scan_made Request.Done),
                                                                            (
                                                                              refl,
                                                                              (
                                                                                (scan_made Request.Rollback),
                                                                                (refl, ((scan_made Request.Unchanged), tt)),
                                                                              ),
                                                                            ),
                                                                          ),
                                                                        ),
                                                                      ),
                                                                    ),
                                                                  ),
                                                                ),
                                                              ),
                                                            ),
                                                          ),
                                                        ),
                                                      ),
                                                    ),
                                                  ),
                                                ),
                                              ),
                                            ),
                                          ),
                                        ),
                                      ),
                                    ),
                                  ),
                                ),
                              ),
                            ),
                          ),
                        ),
                      ),
                    ),
                  ),
                ),
              ),
            ),
          ),
        ),
      ),
    ))

pub indication_scan : IsScan read_indication scan_indication
unfolding scan_indication
indication_scan =
    code_scan indication_kinds indication_scans (omega arith)
    ((
      refl,
      (
        (scan_both (make (λ p u. Indication.BeginDialogue p u) and read_short) read_units (scan_make (λ p u. Indication.BeginDialogue p u) with scan_short) scan_units (scan_both (make (λ p u. Indication.BeginDialogue p u)) read_short (scan_make (λ p u. Indication.BeginDialogue p u)) scan_short (scan_made (λ p u. Indication.BeginDialogue p u)) short_scan) units_scan),
        (
          refl,
          (
            (scan_both (make (λ p u. Indication.BegunDialogue p u) and read_short) read_units (scan_make (λ p u. Indication.BegunDialogue p u) with scan_short) scan_units (scan_both (make (λ p u. Indication.BegunDialogue p u)) read_short (scan_make (λ p u. Indication.BegunDialogue p u)) scan_short (scan_made (λ p u. Indication.BegunDialogue p u)) short_scan) units_scan),
            (
              refl,
              (
                (scan_both (make (λ p. Indication.Rejected p)) read_short (scan_make (λ p. Indication.Rejected p)) scan_short (scan_made (λ p. Indication.Rejected p)) short_scan),
                (
                  refl,
                  (
                    (scan_both (make (λ p. Indication.EndDialogue p)) read_short (scan_make (λ p. Indication.EndDialogue p)) scan_short (scan_made (λ p. Indication.EndDialogue p)) short_scan),
                    (
                      refl,
                      (
                        (scan_both (make (λ p xs. Indication.UserData p xs) and read_short) (read_octets 1024) (scan_make (λ p xs. Indication.UserData p xs) with scan_short) (scan_octets 1024) (scan_both (make (λ p xs. Indication.UserData p xs)) read_short (scan_make (λ p xs. Indication.UserData p xs)) scan_short (scan_made (λ p xs. Indication.UserData p xs)) short_scan) (octets_scan 1024)),
                        (
                          refl,
                          (
                            (scan_both (make (λ p. Indication.UError p)) read_short (scan_make (λ p. Indication.UError p)) scan_short (scan_made (λ p. Indication.UError p)) short_scan),
                            (
                              refl,
                              (
                                (scan_both (make (λ p. Indication.UAbort p)) read_short (scan_make (λ p. Indication.UAbort p)) scan_short (scan_made (λ p. Indication.UAbort p)) short_scan),
                                (
                                  refl,
                                  (
                                    (scan_both (make (λ p. Indication.PAbort p)) read_short (scan_make (λ p. Indication.PAbort p)) scan_short (scan_made (λ p. Indication.PAbort p)) short_scan),
                                    (
                                      refl,
                                      (
                                        (scan_both (make (λ p. Indication.Grant p)) read_short (scan_make (λ p. Indication.Grant p)) scan_short (scan_made (λ p. Indication.Grant p)) short_scan),
                                        (
                                          refl,
                                          (
                                            (scan_both (make (λ p. Indication.AskControl p)) read_short (scan_make (λ p. Indication.AskControl p)) scan_short (scan_made (λ p. Indication.AskControl p)) short_scan),
                                            (
                                              refl,
                                              (
                                                (scan_both (make (λ p. Indication.Handshake p)) read_short (scan_make (λ p. Indication.Handshake p)) scan_short (scan_made (λ p. Indication.Handshake p)) short_scan),
                                                (
                                                  refl,
                                                  (
                                                    (scan_both (make (λ p. Indication.HandshakeConfirm p)) read_short (scan_make (λ p. Indication.HandshakeConfirm p)) scan_short (scan_made (λ p. Indication.HandshakeConfirm p)) short_scan),
                                                    (
                                                      refl,
                                                      (
                                                        (scan_both (make (λ p. Indication.HandshakeGrant p)) read_short (scan_make (λ p. Indication.HandshakeGrant p)) scan_short (scan_made (λ p. Indication.HandshakeGrant p)) short_scan),
                                                        (
                                                          refl,
                                                          (
                                                            (scan_both (make (λ p a. Indication.BeginTransaction p a) and read_short) read_aaid (scan_make (λ p a. Indication.BeginTransaction p a) with scan_short) scan_aaid (scan_both (make (λ p a. Indication.BeginTransaction p a)) read_short (scan_make (λ p a. Indication.BeginTransaction p a)) scan_short (scan_made (λ p a. Indication.BeginTransaction p a)) short_scan) aaid_scan),
                                                            (
                                                              refl,
                                                              (
                                                                (scan_both (make (λ p. Indication.DeferEnd p)) read_short (scan_make (λ p. Indication.DeferEnd p)) scan_short (scan_made (λ p. Indication.DeferEnd p)) short_scan),
                                                                (
                                                                  refl,
                                                                  (
                                                                    (scan_both (make (λ p. Indication.DeferGrant p)) read_short (scan_make (λ p. Indication.DeferGrant p)) scan_short (scan_made (λ p. Indication.DeferGrant p)) short_scan),
                                                                    (
                                                                      refl,
                                                                      (
                                                                        (scan_made Indication.Prepare),
                                                                        (
                                                                          refl,
                                                                          (
                                                                            (scan_both (make (λ p. Indication.Ready p)) read_short (scan_make (λ p. Indication.Ready p)) scan_short (scan_made (λ p. Indication.Ready p)) short_scan),
                                                                            (
                                                                              refl,
                                                                              (
                                                                                (scan_made Indication.Commit),
                                                                                (
                                                                                  refl,
                                                                                  (
                                                                                    (scan_both (make (λ r. Indication.CommitComplete r)) read_report (scan_make (λ r. Indication.CommitComplete r)) scan_report (scan_made (λ r. Indication.CommitComplete r)) report_scan),
                                                                                    (
                                                                                      refl,
                                                                                      (
                                                                                        (scan_made Indication.Rollback),
                                                                                        (
                                                                                          refl,
                                                                                          (
                                                                                            (scan_both (make (λ r. Indication.RollbackComplete r)) read_report (scan_make (λ r. Indication.RollbackComplete r)) scan_report (scan_made (λ r. Indication.RollbackComplete r)) report_scan),
                                                                                            (
                                                                                              refl,
                                                                                              (
                                                                                                (scan_both (make (λ p r. Indication.HeuristicReport p r) and read_short) read_report (scan_make (λ p r. Indication.HeuristicReport p r) with scan_short) scan_report (scan_both (make (λ p r. Indication.HeuristicReport p r)) read_short (scan_make (λ p r. Indication.HeuristicReport p r)) scan_short (scan_made (λ p r. Indication.HeuristicReport p r)) short_scan) report_scan),
                                                                                                (refl, ((scan_both (make (λ p. Indication.Left p)) read_short (scan_make (λ p. Indication.Left p)) scan_short (scan_made (λ p. Indication.Left p)) short_scan), tt)),
                                                                                              ),
                                                                                            ),
                                                                                          ),
                                                                                        ),
                                                                                      ),
                                                                                    ),
                                                                                  ),
                                                                                ),
                                                                              ),
                                                                            ),
                                                                          ),
                                                                        ),
                                                                      ),
                                                                    ),
                                                                  ),
                                                                ),
                                                              ),
                                                            ),
                                                          ),
                                                        ),
                                                      ),
                                                    ),
                                                  ),
                                                ),
                                              ),
                                            ),
                                          ),
                                        ),
                                      ),
                                    ),
                                  ),
                                ),
                              ),
                            ),
                          ),
                        ),
                      ),
                    ),
                  ),
                ),
              ),
            ),
          ),
        ),
      ),
    ))

pub holder_scan : IsScan read_holder scan_holder
unfolding scan_holder
holder_scan =
    code_scan holder_kinds holder_scans (omega arith)
    ((
      refl,
      (
        (scan_made Holder.None),
        (
          refl,
          (
            (scan_made Holder.Superior),
            (refl, ((scan_made Holder.Subordinate), tt)),
          ),
        ),
      ),
    ))

pub dialogue_scan : IsScan read_dialogue scan_dialogue
unfolding scan_dialogue
dialogue_scan =
    code_scan dialogue_kinds dialogue_scans (omega arith)
    ((
      refl,
      (
        (scan_made DialogueRecord.EndDialogue),
        (
          refl,
          (
            (scan_both (make (λ xs. DialogueRecord.UserData xs)) (read_octets 1024) (scan_make (λ xs. DialogueRecord.UserData xs)) (scan_octets 1024) (scan_made (λ xs. DialogueRecord.UserData xs)) (octets_scan 1024)),
            (
              refl,
              (
                (scan_made DialogueRecord.UError),
                (
                  refl,
                  (
                    (scan_made DialogueRecord.UAbort),
                    (
                      refl,
                      (
                        (scan_made DialogueRecord.Grant),
                        (
                          refl,
                          (
                            (scan_made DialogueRecord.AskControl),
                            (
                              refl,
                              (
                                (scan_made DialogueRecord.Handshake),
                                (
                                  refl,
                                  (
                                    (scan_made DialogueRecord.HandshakeGrant),
                                    (
                                      refl,
                                      (
                                        (scan_made DialogueRecord.Response),
                                        (
                                          refl,
                                          (
                                            (scan_made DialogueRecord.DeferEnd),
                                            (
                                              refl,
                                              (
                                                (scan_made DialogueRecord.DeferGrant),
                                                (
                                                  refl,
                                                  (
                                                    (scan_both (make (λ a b h. DialogueRecord.Begin a b h) and read_aaid and read_branch) read_holder (scan_make (λ a b h. DialogueRecord.Begin a b h) with scan_aaid with scan_branch) scan_holder (scan_both (make (λ a b h. DialogueRecord.Begin a b h) and read_aaid) read_branch (scan_make (λ a b h. DialogueRecord.Begin a b h) with scan_aaid) scan_branch (scan_both (make (λ a b h. DialogueRecord.Begin a b h)) read_aaid (scan_make (λ a b h. DialogueRecord.Begin a b h)) scan_aaid (scan_made (λ a b h. DialogueRecord.Begin a b h)) aaid_scan) branch_scan) holder_scan),
                                                    (
                                                      refl,
                                                      (
                                                        (scan_made DialogueRecord.Prepare),
                                                        (
                                                          refl,
                                                          (
                                                            (scan_made DialogueRecord.Ready),
                                                            (
                                                              refl,
                                                              (
                                                                (scan_made DialogueRecord.Commit),
                                                                (
                                                                  refl,
                                                                  (
                                                                    (scan_both (make (λ r. DialogueRecord.Done r)) read_report (scan_make (λ r. DialogueRecord.Done r)) scan_report (scan_made (λ r. DialogueRecord.Done r)) report_scan),
                                                                    (
                                                                      refl,
                                                                      (
                                                                        (scan_made DialogueRecord.Rollback),
                                                                        (
                                                                          refl,
                                                                          (
                                                                            (scan_both (make (λ r. DialogueRecord.RolledBack r)) read_report (scan_make (λ r. DialogueRecord.RolledBack r)) scan_report (scan_made (λ r. DialogueRecord.RolledBack r)) report_scan),
                                                                            (
                                                                              refl,
                                                                              (
                                                                                (scan_made DialogueRecord.Left),
                                                                                (refl, ((scan_made DialogueRecord.LeftEnd), tt)),
                                                                              ),
                                                                            ),
                                                                          ),
                                                                        ),
                                                                      ),
                                                                    ),
                                                                  ),
                                                                ),
                                                              ),
                                                            ),
                                                          ),
                                                        ),
                                                      ),
                                                    ),
                                                  ),
                                                ),
                                              ),
                                            ),
                                          ),
                                        ),
                                      ),
                                    ),
                                  ),
                                ),
                              ),
                            ),
                          ),
                        ),
                      ),
                    ),
                  ),
                ),
              ),
            ),
          ),
        ),
      ),
    ))

pub state_scan : IsScan read_state scan_state
unfolding scan_state
state_scan =
    code_scan state_kinds state_scans (omega arith)
    ((
      refl,
      (
        (scan_made RecState.Commit),
        (
          refl,
          (
            (scan_both (make (λ r. RecState.Done r)) read_report (scan_make (λ r. RecState.Done r)) scan_report (scan_made (λ r. RecState.Done r)) report_scan),
            (
              refl,
              (
                (scan_made RecState.Unknown),
                (refl, ((scan_made RecState.RetryLater), tt)),
              ),
            ),
          ),
        ),
      ),
    ))

pub peer_scan : IsScan read_peer scan_peer
unfolding scan_peer
peer_scan =
    code_scan peer_kinds peer_scans (omega arith)
    ((
      refl,
      (
        (scan_both (make (λ x u. PeerRecord.OpenAssoc x u) and read_mark) read_units (scan_make (λ x u. PeerRecord.OpenAssoc x u) with scan_mark) scan_units (scan_both (make (λ x u. PeerRecord.OpenAssoc x u)) read_mark (scan_make (λ x u. PeerRecord.OpenAssoc x u)) scan_mark (scan_made (λ x u. PeerRecord.OpenAssoc x u)) mark_scan) units_scan),
        (
          refl,
          (
            (scan_both (make (λ x y u. PeerRecord.AcceptAssoc x y u) and read_mark and read_mark) read_units (scan_make (λ x y u. PeerRecord.AcceptAssoc x y u) with scan_mark with scan_mark) scan_units (scan_both (make (λ x y u. PeerRecord.AcceptAssoc x y u) and read_mark) read_mark (scan_make (λ x y u. PeerRecord.AcceptAssoc x y u) with scan_mark) scan_mark (scan_both (make (λ x y u. PeerRecord.AcceptAssoc x y u)) read_mark (scan_make (λ x y u. PeerRecord.AcceptAssoc x y u)) scan_mark (scan_made (λ x y u. PeerRecord.AcceptAssoc x y u)) mark_scan) mark_scan) units_scan),
            (
              refl,
              (
                (scan_both (make (λ x y. PeerRecord.ShutAssoc x y) and read_mark) (read_maybe read_mark) (scan_make (λ x y. PeerRecord.ShutAssoc x y) with scan_mark) (scan_maybe scan_mark) (scan_both (make (λ x y. PeerRecord.ShutAssoc x y)) read_mark (scan_make (λ x y. PeerRecord.ShutAssoc x y)) scan_mark (scan_made (λ x y. PeerRecord.ShutAssoc x y)) mark_scan) (maybe_scan read_mark scan_mark mark_scan)),
                (
                  refl,
                  (
                    (scan_both (make (λ x y s r. PeerRecord.OnAssoc x y s r) and read_mark and read_mark and read_long) read_dialogue (scan_make (λ x y s r. PeerRecord.OnAssoc x y s r) with scan_mark with scan_mark with scan_long) scan_dialogue (scan_both (make (λ x y s r. PeerRecord.OnAssoc x y s r) and read_mark and read_mark) read_long (scan_make (λ x y s r. PeerRecord.OnAssoc x y s r) with scan_mark with scan_mark) scan_long (scan_both (make (λ x y s r. PeerRecord.OnAssoc x y s r) and read_mark) read_mark (scan_make (λ x y s r. PeerRecord.OnAssoc x y s r) with scan_mark) scan_mark (scan_both (make (λ x y s r. PeerRecord.OnAssoc x y s r)) read_mark (scan_make (λ x y s r. PeerRecord.OnAssoc x y s r)) scan_mark (scan_made (λ x y s r. PeerRecord.OnAssoc x y s r)) mark_scan) mark_scan) long_scan) dialogue_scan),
                    (
                      refl,
                      (
                        (scan_both (make (λ a b. PeerRecord.RecReady a b) and read_aaid) read_branch (scan_make (λ a b. PeerRecord.RecReady a b) with scan_aaid) scan_branch (scan_both (make (λ a b. PeerRecord.RecReady a b)) read_aaid (scan_make (λ a b. PeerRecord.RecReady a b)) scan_aaid (scan_made (λ a b. PeerRecord.RecReady a b)) aaid_scan) branch_scan),
                        (
                          refl,
                          (
                            (scan_both (make (λ a b. PeerRecord.RecCommit a b) and read_aaid) read_branch (scan_make (λ a b. PeerRecord.RecCommit a b) with scan_aaid) scan_branch (scan_both (make (λ a b. PeerRecord.RecCommit a b)) read_aaid (scan_make (λ a b. PeerRecord.RecCommit a b)) scan_aaid (scan_made (λ a b. PeerRecord.RecCommit a b)) aaid_scan) branch_scan),
                            (
                              refl,
                              (
                                (scan_both (make (λ a b s. PeerRecord.RecReply a b s) and read_aaid and read_branch) read_state (scan_make (λ a b s. PeerRecord.RecReply a b s) with scan_aaid with scan_branch) scan_state (scan_both (make (λ a b s. PeerRecord.RecReply a b s) and read_aaid) read_branch (scan_make (λ a b s. PeerRecord.RecReply a b s) with scan_aaid) scan_branch (scan_both (make (λ a b s. PeerRecord.RecReply a b s)) read_aaid (scan_make (λ a b s. PeerRecord.RecReply a b s)) scan_aaid (scan_made (λ a b s. PeerRecord.RecReply a b s)) aaid_scan) branch_scan) state_scan),
                                (refl, ((scan_both (make (λ a b. PeerRecord.Forget a b) and read_aaid) read_branch (scan_make (λ a b. PeerRecord.Forget a b) with scan_aaid) scan_branch (scan_both (make (λ a b. PeerRecord.Forget a b)) read_aaid (scan_make (λ a b. PeerRecord.Forget a b)) scan_aaid (scan_made (λ a b. PeerRecord.Forget a b)) aaid_scan) branch_scan), tt)),
                              ),
                            ),
                          ),
                        ),
                      ),
                    ),
                  ),
                ),
              ),
            ),
          ),
        ),
      ),
    ))
