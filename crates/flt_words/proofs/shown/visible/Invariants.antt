use Rattle.std.proofs.Common.{◌≡◌, ◌++◌, IsUtf8, string_bytes}
use Rattle.std.specs.Str.Iter.{chars_rest}
use Rattle.flt_words.specs.Shown as spec
use Rattle.flt_words.proofs.shown.visible.Given as goal

abbrev pub invariant-loop-letter : goal.invariant-loop-letter
invariant-loop-letter l =
    IsUtf8 (chars_rest l.letter-iterator)
    × (string_bytes l.shown ++ spec.visible (chars_rest l.letter-iterator) ≡ spec.visible l.fn.words)
