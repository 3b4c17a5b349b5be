use Rattle.std.proofs.Common.{◌≡◌, map, string_bytes, take}
use Rattle.flt_commands_explain.specs.Explain.{told_name}
use Rattle.flt_commands_explain.proofs.explain.told_names.Given as goal

abbrev pub invariant-loop-file : goal.invariant-loop-file
invariant-loop-file l = map string_bytes l.told.items ≡ map (λ file. told_name l.form file.name.now) (take l.file-index l.files)
