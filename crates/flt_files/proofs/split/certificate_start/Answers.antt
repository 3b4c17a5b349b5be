use Rattle.std.proofs.Common.{◌≡◌, false, below_more, rules}
use Rattle.flt_files.specs.Split as spec
use Rattle.flt_files.proofs.split.certificate_start.Goals as goal

pub loop-start-preserved : goal.loop-start-preserved
loop-start-preserved c = record {
  within = search rules;
  earlier = below_more (λ at. spec.is_header_at c.args.input.now at ≡ false) c.loop-start.start c.loop-start.invariant.earlier
      (search rules);
}
