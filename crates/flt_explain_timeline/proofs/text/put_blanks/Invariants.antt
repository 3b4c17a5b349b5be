use Rattle.std.proofs.Common.{◌≡◌, ◌++◌, replicate, string_bytes}
use Rattle.flt_explain_timeline.proofs.text.put_blanks.Given as goal

-- so many blanks so far
abbrev pub invariant-loop-blank : goal.invariant-loop-blank
invariant-loop-blank l = string_bytes l.out ≡ string_bytes l.initial.out ++ replicate l._blank 32
