use Rattle.std.proofs.Common.{◌≡◌, ◌++◌, map, take}
use Rattle.flt_c_headers.specs.Candidates.{in_folder}
use Rattle.flt_c_headers.proofs.candidates.add_in_folders.Given as goal

abbrev pub invariant-loop-folder : goal.invariant-loop-folder
invariant-loop-folder l =
    map (λ c. c.items) l.found.items
    ≡ map (λ c. c.items) l.fn.found.items ++ map (λ dir. in_folder dir l.name) (map (λ dir. dir.now) (take l.folder-index l.folders))
