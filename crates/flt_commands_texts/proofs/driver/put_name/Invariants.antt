use Rattle.std.proofs.Common.{◌≡◌, ◌++◌, map, take, string_bytes}
use Rattle.flt_commands_texts.specs.Driver as spec
use Rattle.flt_commands_texts.proofs.driver.put_name.Given as goal

-- the bytes so far are written
abbrev pub invariant-loop-byte : goal.invariant-loop-byte
invariant-loop-byte l = string_bytes l.out ≡ string_bytes l.initial.out ++ map spec.letter (take l.byte-index l.name)
