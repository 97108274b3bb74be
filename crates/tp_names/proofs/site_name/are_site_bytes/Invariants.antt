use Rattle.std.proofs.Common.{◌≡◌, drop}
use Rattle.tp_names.specs.Bytes.{is_site_byte, all_bytes}
use Rattle.tp_names.proofs.site_name.are_site_bytes.Given as goal

-- what is left decides
abbrev pub invariant-loop-byte : goal.invariant-loop-byte
invariant-loop-byte l = all_bytes is_site_byte l.bytes ≡ all_bytes is_site_byte (drop l.byte-index l.bytes)
