-- How the code reads bodies: the table of BodyReading with scans in place of readers.
use Rattle.std.specs.Prelude.{ℕ, List, [], ◌∷◌}
use Rattle.tp_names.specs.Scanning.{Scan, scan_make, ◌with◌, scan_byte_that, scan_short, scan_by_code, scan_maybe, scan_addr, scan_outcome, scan_octets}
use Rattle.tp_records.specs.declared.body.Event.{Event}
use Rattle.tp_records.specs.declared.body.Output.{Output}
use Rattle.tp_records.specs.declared.body.Body.{Body}
use Rattle.tp_records.specs.BodyReading.{is_refusal}
use Rattle.tp_records.specs.BodyScanning.{scan_request, scan_indication}
use Rattle.tp_records.specs.SentScanning.{scan_sent}

abbrev pub body_scans : List (ℕ × Scan Body)
body_scans =
    (1, scan_make (λ n s. Body.Event (Event.Declare n s)) with scan_short with scan_maybe scan_addr)
    ∷ (2, scan_make (λ n r. Body.Event (Event.Do n r)) with scan_short with scan_request)
    ∷ (3, scan_make (λ from to xs. Body.Event (Event.Arrive from to xs)) with scan_addr with scan_addr with scan_octets 2000)
    ∷ (4, scan_make (λ n p. Body.Event (Event.Lose n p)) with scan_short with scan_short)
    ∷ (5, scan_make (λ n o. Body.Event (Event.Heur n o)) with scan_short with scan_outcome)
    ∷ (6, scan_make (λ n p. Body.Event (Event.GiveUp n p)) with scan_short with scan_short)
    ∷ (7, scan_make (λ n. Body.Event (Event.Retry n)) with scan_short)
    ∷ (8, scan_make (λ n. Body.Event (Event.Purge n)) with scan_short)
    ∷ (16, scan_make (λ n i. Body.Output (Output.Tell n i)) with scan_short with scan_indication)
    ∷ (17, scan_make (λ from to xs. Body.Output (Output.Send from to xs)) with scan_addr with scan_addr with scan_sent)
    ∷ (18, scan_make (λ k. Body.Output (Output.Refused k)) with scan_byte_that is_refusal)
    ∷ (19, scan_make (Body.Output Output.Over))
    ∷ []

unfoldable pub scan_body : Scan Body
scan_body = scan_by_code body_scans
