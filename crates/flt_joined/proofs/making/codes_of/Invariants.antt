use Rattle.std.proofs.Common.{◌≡◌, ◌++◌, drop, flat_map, map}
use Rattle.flt_joined.specs.Texts.{givens, own_code}
use Rattle.flt_joined.proofs.making.codes_of.Given as goal

abbrev pub invariant-loop-file : goal.invariant-loop-file
invariant-loop-file l =
    map (λ code. code.items) l.all.items ++ flat_map own_code (givens (drop l.file-index l.files))
    ≡ flat_map own_code (givens l.files)
