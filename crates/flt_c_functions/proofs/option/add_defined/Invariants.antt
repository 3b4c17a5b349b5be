use Rattle.std.proofs.Common.{◌≡◌, ◌++◌, drop, map}
use Rattle.flt_c_functions.specs.Options.{define_line}
use Rattle.flt_c_functions.proofs.option.add_defined.Given as goal

abbrev pub invariant-loop-text : goal.invariant-loop-text
invariant-loop-text l =
    map (λ line. line.items) l.fn.lines.items ++ map define_line (map (λ z. z.now) l.fn.texts)
    ≡ map (λ line. line.items) l.lines.items ++ map define_line (map (λ z. z.now) (drop l.text-index l.fn.texts))
