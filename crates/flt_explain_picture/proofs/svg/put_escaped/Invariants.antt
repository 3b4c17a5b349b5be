use Rattle.std.proofs.Common.{◌≡◌, ◌++◌, IsUtf8, string_bytes}
use Rattle.std.specs.Str.Iter.{chars_rest}
use Rattle.flt_explain_picture.specs.Pictures as spec
use Rattle.flt_explain_picture.proofs.svg.put_escaped.Given as goal

-- what is written, and what will be of the letters that are left, is what is written of all
abbrev pub invariant-loop-letter : goal.invariant-loop-letter
invariant-loop-letter l =
    IsUtf8 (chars_rest l.letter-iterator)
    × (string_bytes l.out ++ spec.escaped (chars_rest l.letter-iterator) ≡ string_bytes l.initial.out ++ spec.escaped l.words)
