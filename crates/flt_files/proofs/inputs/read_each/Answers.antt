use Rattle.std.proofs.Common.{refl}
use Rattle.flt_files.specs.Inputs.{none}
use Rattle.flt_files.proofs.inputs.read_each.Goals as goal

pub loop-name-init : goal.loop-name-init
loop-name-init g c = record {
  read = rw (c.new.ensures.items, c.new-2.ensures.items, c.new-3.ensures.items) none;
  used = refl;
}
