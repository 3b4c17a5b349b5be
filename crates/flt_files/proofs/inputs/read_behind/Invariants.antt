use Rattle.std.proofs.Common.{◌≡◌, ◌||◌, length, map, take}
use Rattle.std.specs.List.{list_any}
use Rattle.flt_files.specs.Inputs as spec
use Rattle.flt_files.proofs.inputs.read_behind.Given as goal

abbrev pub invariant-loop-name : goal.invariant-loop-name
invariant-loop-name g l = record {
  given : spec.AreGivenBehind (g.I.Inputs.gives l.inputs) l.fn.is_used (map (λ name. name.now) (take l.name-index l.names))
      (map (λ text. text.items) l.texts.items);
  many : length l.texts.items ≡ l.name-index;
  used : l.is_used ≡ (l.fn.is_used || list_any spec.is_standard (map (λ name. name.now) (take l.name-index l.names)));
}
