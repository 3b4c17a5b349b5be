use Rattle.std.proofs.Common.{sym, refl}
use Rattle.flt_commands_explain.proofs.Paged.{found_more, paged_more, unpaged}
use Rattle.flt_commands_explain.proofs.explain.pages_of.Goals as goal

pub returns-in-None : goal.returns-in-None
returns-in-None c =
    unpaged c.args.names.now c.loop-name.name-index _ _ c.loop-name-test.true refl c.loop-name.invariant.found (sym c.in-None.ensures.known)

pub loop-name-preserved : goal.loop-name-preserved
loop-name-preserved c = record {
  paged = paged_more c.args.names.now c.loop-name.name-index _ _ c.loop-name-test.true refl _ _ _ c.loop-name.invariant.paged
      c.in-Some.ensures.begins c.in_ok-push-in-Some.ensures.items;
  found = found_more c.args.names.now c.loop-name.name-index _ _ c.loop-name-test.true refl c.loop-name.invariant.found
      (sym c.in-Some.ensures.known);
}
