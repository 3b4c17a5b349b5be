use Rattle.std.proofs.Common.{◌≡◌, ◌+◌, ◌≤◌, drop}
use Rattle.flt_explain_hints.specs.Trial.{line_feeds}
use Rattle.flt_explain_hints.proofs.trial.line_behind.Given as goal

abbrev pub invariant-loop-byte : goal.invariant-loop-byte
invariant-loop-byte l =
    record {
      same : l.ends + line_feeds (drop l.byte-index l.before) ≡ line_feeds l.before;
      few : l.ends ≤ l.byte-index;
    }
