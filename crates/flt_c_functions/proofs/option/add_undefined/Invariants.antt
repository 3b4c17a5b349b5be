use Rattle.std.proofs.Common.{◌≡◌, ◌++◌, drop, map}
use Rattle.flt_c_functions.specs.Options.{undef_line}
use Rattle.flt_c_functions.proofs.option.add_undefined.Given as goal

abbrev pub invariant-loop-text : goal.invariant-loop-text
invariant-loop-text l =
    map (λ line. line.items) l.fn.lines.items ++ map undef_line (map (λ z. z.now) l.fn.texts)
    ≡ map (λ line. line.items) l.lines.items ++ map undef_line (map (λ z. z.now) (drop l.text-index l.fn.texts))
