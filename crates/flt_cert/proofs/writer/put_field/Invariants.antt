use Rattle.std.proofs.Common.{◌≡◌, ◌+◌, ◌++◌, drop}
use Rattle.std.specs.Vec.{vec_len, vec_capacity}
use Rattle.flt_cert.specs.Format.{digits}
use Rattle.flt_cert.proofs.writer.put_field.Given as goal

abbrev pub invariant-loop-set : goal.invariant-loop-set
invariant-loop-set l = record {
  items : l.out.items ++ digits (drop l.set-index l.sets) ≡ l.initial.out.items ++ digits l.sets;
  len : vec_len l.out ≡ vec_len l.initial.out + l.set-index;
  capacity : vec_capacity l.out ≡ vec_capacity l.initial.out;
}
