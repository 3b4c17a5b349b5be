use Rattle.std.proofs.Common.{◌≡◌, ◌++◌, flat_map, take}
use Rattle.flt_explain_parts.specs.Uri.{uri_byte}
use Rattle.flt_explain_parts.proofs.uri.uri.Given as goal

abbrev pub invariant-loop-byte : goal.invariant-loop-byte
invariant-loop-byte l = l.out.items ≡ l.scheme ++ flat_map uri_byte (take l.byte-index l.name)
