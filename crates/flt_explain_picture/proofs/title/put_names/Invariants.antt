use Rattle.std.proofs.Common.{◌≡◌, ◌++◌, codes, flat_map, map, take, string_bytes}
use Rattle.flt_explain_picture.specs.Titles as spec
use Rattle.flt_explain_picture.proofs.title.put_names.Given as goal

-- the names so far are written
abbrev pub invariant-loop-tree : goal.invariant-loop-tree
invariant-loop-tree l =
    string_bytes l.out ≡ string_bytes l.initial.out ++ flat_map spec.another (map (λ t. t.filter) (take l.tree-index l.rest))
