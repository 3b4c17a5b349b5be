use Rattle.std.proofs.Common.{◌≡◌, drop}
use Rattle.std.specs.List.{list_any}
use Rattle.flt_syntax.specs.Lex.{same_kind}
use Rattle.flt_explain_hints.proofs.choices.Choices.takes.Given as goal

abbrev pub invariant-loop-one : goal.invariant-loop-one
invariant-loop-one l =
    list_any (λ e. same_kind e.kind l.kind) (drop l.one-index l.self.expected) ≡ list_any (λ e. same_kind e.kind l.kind) l.self.expected
