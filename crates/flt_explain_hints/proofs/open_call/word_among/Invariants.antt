use Rattle.std.proofs.Common.{◌≡◌, drop, map}
use Rattle.flt_explain_hints.specs.OpenCall.{word_among}
use Rattle.flt_explain_hints.proofs.open_call.word_among.Given as goal

abbrev pub invariant-loop-entry : goal.invariant-loop-entry
invariant-loop-entry l =
    word_among (map (λ e. (e.0.now, e.1)) (drop l.entry-index l.table)) l.kind ≡ word_among (map (λ e. (e.0.now, e.1)) l.table) l.kind
