-- How the code reads a body from the front of bytes: what its reader gives, or that it gives nothing.
use Rattle.std.specs.Prelude.{ℕ, Result, List, [], ◌∷◌, ◌++◌}
use Rattle.tp_names.specs.Scanning.{Scan, scan_make, ◌with◌, with_value, then_scan, scan_by_code, scan_byte_that, scan_many, scan_short, scan_bytes, scan_aaid, scan_octets}
use Rattle.tp_bound.specs.declared.write.Write.{Write}
use Rattle.tp_bound.specs.declared.body.Body.{Body}
use Rattle.tp_bound.specs.Bodies.{is_key_length, put_of, remove_of, bind_of, keep_of, drop_of}

abbrev pub scan_key_length : Scan ℕ
scan_key_length = scan_byte_that is_key_length

unfoldable pub scan_key : Scan (List ℕ)
scan_key bytes = then_scan (scan_key_length bytes) scan_bytes

unfoldable pub scan_put : Scan Write
scan_put = scan_make put_of with scan_key with scan_octets 900

unfoldable pub scan_remove : Scan Write
scan_remove = scan_make remove_of with scan_key

unfoldable pub scan_write : Scan Write
scan_write = scan_by_code ((1, scan_put) ∷ (2, scan_remove) ∷ [])

unfoldable pub scan_writes : Scan (List Write)
scan_writes bytes = then_scan (scan_short bytes) (scan_many scan_write)

unfoldable pub scan_bind : Scan Body
scan_bind = scan_make bind_of with scan_aaid with scan_writes

unfoldable pub scan_keep : Scan Body
scan_keep = scan_make keep_of with scan_aaid

unfoldable pub scan_drop : Scan Body
scan_drop = scan_make drop_of with scan_aaid

unfoldable pub scan_body : Scan Body
scan_body = scan_by_code ((1, scan_bind) ∷ (2, scan_keep) ∷ (3, scan_drop) ∷ [])

-- writes that were read stand before those that are read next
abbrev pub after : List Write → Result (List Write × List ℕ) ℕ → Result (List Write × List ℕ) ℕ
after front r = with_value (λ rest. front ++ rest) r
