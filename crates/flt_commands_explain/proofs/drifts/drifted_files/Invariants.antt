use Rattle.std.proofs.Common.{◌≡◌, ◌++◌, drop, flat_map, map}
use Rattle.flt_joined.specs.Texts.{givens}
use Rattle.flt_commands_explain.specs.Drifts.{drifts_in, drifts_of}
use Rattle.flt_commands_explain.proofs.drifts.drifted_files.Given as goal

abbrev pub invariant-loop-file : goal.invariant-loop-file
invariant-loop-file l =
    map drifts_in l.drifted.items ++ flat_map (drifts_of (map (λ name. name.now) l.allowed)) (givens (drop l.file-index l.files))
    ≡ flat_map (drifts_of (map (λ name. name.now) l.allowed)) (givens l.files)
