use Rattle.std.proofs.Common.{◌≡◌, drop, map}
use Rattle.flt_explain_hints.specs.Meant.{without_one}
use Rattle.flt_explain_hints.proofs.meant.without_one.Given as goal

abbrev pub invariant-loop-prefix : goal.invariant-loop-prefix
invariant-loop-prefix l =
    without_one (map (λ p. p.now) (drop l.prefix-index l.prefixes)) l.word ≡ without_one (map (λ p. p.now) l.prefixes) l.word
