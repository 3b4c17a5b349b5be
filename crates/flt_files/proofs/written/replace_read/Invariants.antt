use Rattle.std.proofs.Common.{◌≡◌, ◌++◌}
use Rattle.flt_files.specs.Deeds.{parts_not_made}
use Rattle.flt_files.proofs.written.replace_read.Given as goal

abbrev pub invariant-loop-tried : goal.invariant-loop-tried
invariant-loop-tried g l = record {
  so_far : g.S.System.done l.system ≡ g.S.System.done l.fn.system ++ parts_not_made l.name l.tried;
  same : g.S.System.disk l.system ≡ g.S.System.disk l.fn.system;
}
