use Rattle.std.proofs.Common.{◌≡◌, map, take}
use Rattle.std.specs.List.{list_any}
use Rattle.flt_commands_explain.specs.Annotated.{AreFoundIn}
use Rattle.flt_files.specs.Inputs.{is_standard}
use Rattle.flt_commands_explain.proofs.annotated.find_each.Given as goal

abbrev pub invariant-loop-name : goal.invariant-loop-name
invariant-loop-name g l = record {
  found : AreFoundIn l.all (g.I.Inputs.gives l.inputs) (map (λ name. name.now) (take l.name-index l.names)) l.found;
  used : l.is_used ≡ list_any is_standard (map (λ name. name.now) (take l.name-index l.names));
}
