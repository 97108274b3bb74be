-- The scan of bodies is right, row by row.
use Rattle.std.proofs.Common.{refl, arith}
use Rattle.tp_names.specs.Reading.{make, ◌and◌, that, read_byte, read_short, read_maybe, read_addr, read_outcome, read_octets}
use Rattle.tp_names.specs.Scanning.{scan_make, ◌with◌, scan_byte_that, scan_short, scan_maybe, scan_addr, scan_outcome, scan_octets}
use Rattle.tp_names.specs.Places.{IsScan}
use Rattle.tp_names.proofs.Sequences.{scan_made, scan_both}
use Rattle.tp_names.proofs.Numbers.{short_scan}
use Rattle.tp_names.proofs.Codes.{byte_that_scan, code_scan, maybe_scan}
use Rattle.tp_names.proofs.Counts.{octets_scan}
use Rattle.tp_names.proofs.Values.{addr_scan, outcome_scan}
use Rattle.tp_records.specs.declared.body.Event.{Event}
use Rattle.tp_records.specs.declared.body.Output.{Output}
use Rattle.tp_records.specs.declared.body.Body.{Body}
use Rattle.tp_records.specs.BodyReading.{read_request, read_indication, body_kinds, read_body, is_refusal, is_peer_text}
use Rattle.tp_records.specs.BodyScanning.{scan_request, scan_indication}
use Rattle.tp_records.specs.SentScanning.{scan_sent}
use Rattle.tp_records.specs.WholeScanning.{body_scans, scan_body}
use Rattle.tp_records.proofs.Scans.{request_scan, indication_scan}
use Rattle.tp_records.proofs.Walking.{sent_scan}

refusal_scan : IsScan (that is_refusal read_byte) (scan_byte_that is_refusal)
refusal_scan = byte_that_scan is_refusal 1 (omega arith) refl

pub body_scan : IsScan read_body scan_body
unfolding scan_body
body_scan =
    code_scan body_kinds body_scans (omega arith)
    ((
      refl,
      (
        (scan_both (make (λ n s. Body.Event (Event.Declare n s)) and read_short) (read_maybe read_addr) (scan_make (λ n s. Body.Event (Event.Declare n s)) with scan_short) (scan_maybe scan_addr) (scan_both (make (λ n s. Body.Event (Event.Declare n s))) read_short (scan_make (λ n s. Body.Event (Event.Declare n s))) scan_short (scan_made (λ n s. Body.Event (Event.Declare n s))) short_scan) (maybe_scan read_addr scan_addr addr_scan)),
        (
          refl,
          (
            (scan_both (make (λ n r. Body.Event (Event.Do n r)) and read_short) read_request (scan_make (λ n r. Body.Event (Event.Do n r)) with scan_short) scan_request (scan_both (make (λ n r. Body.Event (Event.Do n r))) read_short (scan_make (λ n r. Body.Event (Event.Do n r))) scan_short (scan_made (λ n r. Body.Event (Event.Do n r))) short_scan) request_scan),
            (
              refl,
              (
                (scan_both (make (λ from to xs. Body.Event (Event.Arrive from to xs)) and read_addr and read_addr) (read_octets 2000) (scan_make (λ from to xs. Body.Event (Event.Arrive from to xs)) with scan_addr with scan_addr) (scan_octets 2000) (scan_both (make (λ from to xs. Body.Event (Event.Arrive from to xs)) and read_addr) read_addr (scan_make (λ from to xs. Body.Event (Event.Arrive from to xs)) with scan_addr) scan_addr (scan_both (make (λ from to xs. Body.Event (Event.Arrive from to xs))) read_addr (scan_make (λ from to xs. Body.Event (Event.Arrive from to xs))) scan_addr (scan_made (λ from to xs. Body.Event (Event.Arrive from to xs))) addr_scan) addr_scan) (octets_scan 2000)),
                (
                  refl,
                  (
                    (scan_both (make (λ n p. Body.Event (Event.Lose n p)) and read_short) read_short (scan_make (λ n p. Body.Event (Event.Lose n p)) with scan_short) scan_short (scan_both (make (λ n p. Body.Event (Event.Lose n p))) read_short (scan_make (λ n p. Body.Event (Event.Lose n p))) scan_short (scan_made (λ n p. Body.Event (Event.Lose n p))) short_scan) short_scan),
                    (
                      refl,
                      (
                        (scan_both (make (λ n o. Body.Event (Event.Heur n o)) and read_short) read_outcome (scan_make (λ n o. Body.Event (Event.Heur n o)) with scan_short) scan_outcome (scan_both (make (λ n o. Body.Event (Event.Heur n o))) read_short (scan_make (λ n o. Body.Event (Event.Heur n o))) scan_short (scan_made (λ n o. Body.Event (Event.Heur n o))) short_scan) outcome_scan),
                        (
                          refl,
                          (
                            (scan_both (make (λ n p. Body.Event (Event.GiveUp n p)) and read_short) read_short (scan_make (λ n p. Body.Event (Event.GiveUp n p)) with scan_short) scan_short (scan_both (make (λ n p. Body.Event (Event.GiveUp n p))) read_short (scan_make (λ n p. Body.Event (Event.GiveUp n p))) scan_short (scan_made (λ n p. Body.Event (Event.GiveUp n p))) short_scan) short_scan),
                            (
                              refl,
                              (
                                (scan_both (make (λ n. Body.Event (Event.Retry n))) read_short (scan_make (λ n. Body.Event (Event.Retry n))) scan_short (scan_made (λ n. Body.Event (Event.Retry n))) short_scan),
                                (
                                  refl,
                                  (
                                    (scan_both (make (λ n. Body.Event (Event.Purge n))) read_short (scan_make (λ n. Body.Event (Event.Purge n))) scan_short (scan_made (λ n. Body.Event (Event.Purge n))) short_scan),
                                    (
                                      refl,
                                      (
                                        (scan_both (make (λ n i. Body.Output (Output.Tell n i)) and read_short) read_indication (scan_make (λ n i. Body.Output (Output.Tell n i)) with scan_short) scan_indication (scan_both (make (λ n i. Body.Output (Output.Tell n i))) read_short (scan_make (λ n i. Body.Output (Output.Tell n i))) scan_short (scan_made (λ n i. Body.Output (Output.Tell n i))) short_scan) indication_scan),
                                        (
                                          refl,
                                          (
                                            (scan_both (make (λ from to xs. Body.Output (Output.Send from to xs)) and read_addr and read_addr) (that is_peer_text (read_octets 2000)) (scan_make (λ from to xs. Body.Output (Output.Send from to xs)) with scan_addr with scan_addr) scan_sent (scan_both (make (λ from to xs. Body.Output (Output.Send from to xs)) and read_addr) read_addr (scan_make (λ from to xs. Body.Output (Output.Send from to xs)) with scan_addr) scan_addr (scan_both (make (λ from to xs. Body.Output (Output.Send from to xs))) read_addr (scan_make (λ from to xs. Body.Output (Output.Send from to xs))) scan_addr (scan_made (λ from to xs. Body.Output (Output.Send from to xs))) addr_scan) addr_scan) sent_scan),
                                            (
                                              refl,
                                              (
                                                (scan_both (make (λ k. Body.Output (Output.Refused k))) (that is_refusal read_byte) (scan_make (λ k. Body.Output (Output.Refused k))) (scan_byte_that is_refusal) (scan_made (λ k. Body.Output (Output.Refused k))) refusal_scan),
                                                (refl, ((scan_made (Body.Output Output.Over)), tt)),
                                              ),
                                            ),
                                          ),
                                        ),
                                      ),
                                    ),
                                  ),
                                ),
                              ),
                            ),
                          ),
                        ),
                      ),
                    ),
                  ),
                ),
              ),
            ),
          ),
        ),
      ),
    ))
