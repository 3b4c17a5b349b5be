use Rattle.std.proofs.Common.{arith, refl}
use Rattle.flt_files.specs.Inputs.{none}
use Rattle.flt_commands_explain.proofs.annotated.find_each.Goals as goal

pub loop-name-init : goal.loop-name-init
loop-name-init g c = record {
  found = record {
    are = record {
      read = rw (c.new.ensures.items, c.new-2.ensures.items) none;
      found = rw c.new.ensures.items (λ k d within. absurd (omega (arith, within)));
    };
    own = rw c.new.ensures.items (λ k d within. absurd (omega (arith, within)));
  };
  used = refl;
}
