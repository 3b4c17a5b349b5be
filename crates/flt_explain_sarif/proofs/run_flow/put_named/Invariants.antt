use Rattle.std.proofs.Common.{◌≡◌, ◌++◌, drop}
use Rattle.flt_explain_parts.specs.Counted.{counted}
use Rattle.flt_explain_sarif.specs.RunFlow.{thread_of}
use Rattle.flt_explain_sarif.proofs.run_flow.put_named.Given as goal

-- the threads so far, with those of the other activations
abbrev pub invariant-loop-number : goal.invariant-loop-number
invariant-loop-number l = record {
  before : l.writer.before ≡ l.initial.writer.before;
  tokens :
      l.writer.tokens ++ counted (thread_of l.files l.run) l.number (drop l.number l.activations)
      ≡ l.initial.writer.tokens ++ counted (thread_of l.files l.run) 0 l.activations;
}
