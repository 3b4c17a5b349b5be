use Rattle.std.proofs.Common.{◌≡◌, ◌++◌, drop, encode_utf8_all, string_bytes}
use Rattle.flt_explain_hints.specs.Nearness.{lowered}
use Rattle.flt_explain_hints.proofs.nearness.lowered.Given as goal

abbrev pub invariant-loop-byte : goal.invariant-loop-byte
invariant-loop-byte l =
    string_bytes l.text ++ encode_utf8_all (lowered (drop l.byte-index l.word)) ≡ encode_utf8_all (lowered l.word)
