-- The scans of bodies are right.
use Rattle.std.proofs.Common.{[], ◌∷◌, refl, arith}
use Rattle.tp_names.specs.Reading.{make, ◌and◌, that, read_byte, read_short, read_many, read_bytes, read_aaid, read_octets}
use Rattle.tp_names.specs.Scanning.{scan_make, ◌with◌, scan_many, scan_short, scan_bytes, scan_aaid, scan_octets}
use Rattle.tp_names.specs.Places.{IsScan}
use Rattle.tp_names.proofs.Sequences.{scan_made, scan_both}
use Rattle.tp_names.proofs.Numbers.{short_scan}
use Rattle.tp_names.proofs.Codes.{code_scan, byte_that_scan}
use Rattle.tp_names.proofs.Choices.{chosen_scan, many_scan, bytes_scan}
use Rattle.tp_names.proofs.Counts.{octets_scan}
use Rattle.tp_names.proofs.Values.{aaid_scan}
use Rattle.tp_bound.specs.Bodies.{is_key_length, read_key, put_of, remove_of, write_kinds, read_write, read_writes, bind_of, keep_of, drop_of, body_kinds, read_body}
use Rattle.tp_bound.specs.BodyScanning.{scan_key_length, scan_key, scan_put, scan_remove, scan_write, scan_writes, scan_bind, scan_keep, scan_drop, scan_body}

pub key_scan : IsScan read_key scan_key
unfolding scan_key
key_scan = chosen_scan (that is_key_length read_byte) read_bytes scan_key_length scan_bytes (byte_that_scan is_key_length 1 (omega arith) refl) bytes_scan

put_scan : IsScan (make put_of and read_key and read_octets 900) scan_put
unfolding scan_put
put_scan =
    scan_both (make put_of and read_key) (read_octets 900) (scan_make put_of with scan_key) (scan_octets 900)
    (scan_both (make put_of) read_key (scan_make put_of) scan_key (scan_made put_of) key_scan) (octets_scan 900)

remove_scan : IsScan (make remove_of and read_key) scan_remove
unfolding scan_remove
remove_scan = scan_both (make remove_of) read_key (scan_make remove_of) scan_key (scan_made remove_of) key_scan

pub write_scan : IsScan read_write scan_write
unfolding scan_write
write_scan = code_scan write_kinds ((1, scan_put) ∷ (2, scan_remove) ∷ []) (omega arith) (refl, (put_scan, (refl, (remove_scan, tt))))

pub writes_scan : IsScan read_writes scan_writes
unfolding scan_writes
writes_scan = chosen_scan read_short (read_many read_write) scan_short (scan_many scan_write) short_scan (many_scan read_write scan_write write_scan)

bind_scan : IsScan (make bind_of and read_aaid and read_writes) scan_bind
unfolding scan_bind
bind_scan =
    scan_both (make bind_of and read_aaid) read_writes (scan_make bind_of with scan_aaid) scan_writes
    (scan_both (make bind_of) read_aaid (scan_make bind_of) scan_aaid (scan_made bind_of) aaid_scan) writes_scan

keep_scan : IsScan (make keep_of and read_aaid) scan_keep
unfolding scan_keep
keep_scan = scan_both (make keep_of) read_aaid (scan_make keep_of) scan_aaid (scan_made keep_of) aaid_scan

drop_scan : IsScan (make drop_of and read_aaid) scan_drop
unfolding scan_drop
drop_scan = scan_both (make drop_of) read_aaid (scan_make drop_of) scan_aaid (scan_made drop_of) aaid_scan

pub body_scan : IsScan read_body scan_body
unfolding scan_body
body_scan =
    code_scan body_kinds ((1, scan_bind) ∷ (2, scan_keep) ∷ (3, scan_drop) ∷ []) (omega arith)
    (refl, (bind_scan, (refl, (keep_scan, (refl, (drop_scan, tt))))))
