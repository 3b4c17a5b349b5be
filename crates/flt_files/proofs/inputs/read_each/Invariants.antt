use Rattle.std.proofs.Common.{◌≡◌, map, take}
use Rattle.std.specs.List.{list_any}
use Rattle.flt_files.specs.Inputs as spec
use Rattle.flt_files.proofs.inputs.read_each.Given as goal

abbrev pub invariant-loop-name : goal.invariant-loop-name
invariant-loop-name g l = record {
  read : spec.AreReadIn (g.I.Inputs.gives l.inputs) (map (λ name. name.now) (take l.name-index l.names)) l.read;
  used : l.is_used ≡ list_any spec.is_standard (map (λ name. name.now) (take l.name-index l.names));
}
