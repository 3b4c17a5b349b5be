use Rattle.std.proofs.Common.{◌≡◌, drop}
use Rattle.flt_c.proofs.FilesOn.{items_of}
use Rattle.flt_c.specs.Files.{with_files, gathered}
use Rattle.flt_c.specs.Texts.{text_in}
use Rattle.flt_c.proofs.files.gather.Given as goal

abbrev pub invariant-loop-number : goal.invariant-loop-number
invariant-loop-number l = with_files l.number (text_in l.found) (items_of (drop l.number l.files)) ≡ gathered (items_of l.files)
