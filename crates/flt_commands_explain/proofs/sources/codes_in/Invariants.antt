use Rattle.std.proofs.Common.{◌≡◌, ◌≤◌, ◌+◌, length, map}
use Rattle.flt_joined.specs.declared.given.GivenFile.{GivenFile}
use Rattle.flt_commands_explain.proofs.sources.codes_in.Given as goal

abbrev pub invariant-loop-file : goal.invariant-loop-file
invariant-loop-file l = record {
  same : l.all.items ≡ map (λ (f : GivenFile). f.code) l.yielded;
  room : length l.all.items + length l.file-iterator.rest.items ≤ l.all.cap;
}
