use Rattle.std.proofs.Common.{◌≡◌, ◌++◌, flat_map, take, string_bytes}
use Rattle.flt_explain_picture.specs.Pictures as spec
use Rattle.flt_explain_picture.proofs.svg.put_elements.Given as goal

-- the elements so far are written
abbrev pub invariant-loop-element : goal.invariant-loop-element
invariant-loop-element l =
    string_bytes l.out ≡ string_bytes l.initial.out ++ flat_map spec.written (take l.element-index l.elements)
