use Rattle.std.proofs.Common.{◌≡◌, ◌+◌, length, sym, arith}
use Rattle.std.proofs.Math.Path.{subst}
use Rattle.flt_analyse.proofs.Certificates.{Columns, one_more, made_covers, made_least}
use Rattle.flt_analyse.proofs.Turns.{before_more, after_more}
use Rattle.flt_analyse.proofs.analyser.analyse.Goals as goal

pub walks-preserved : goal.walks-preserved
walks-preserved g c =
    let inv = c.walks.invariant in
    record {
      room = inv.room;
      columns = subst (λ k. Columns c.args.graph.now (c.walks.callback + 1) k) (sym c.in_ok-push.ensures.ok)
          (one_more c.args.graph.now c.walks.callback c.walks.callbacks c.in_ok-walk_callback.field-0 inv.columns
          c.in_ok-walk_callback.ensures.column);
      before = before_more g.row.CALLBACK c.walks.callback c.args.ticks.now c.walks.ticks c.walk_callback.new.ticks inv.before
          c.walk_callback.ensures.other;
      after = after_more g.row.CALLBACK c.walks.callback c.args.ticks.now c.walks.ticks c.walk_callback.new.ticks inv.before
          inv.after c.walk_callback.ensures.count c.walk_callback.ensures.other;
    }

pub returns-clause-covers : goal.returns-clause-covers
returns-clause-covers g c =
    let done : length c.args.graph.now.callbacks ≡ c.walks.callback = omega arith in
    made_covers c.args.graph.now c.walks.callbacks c.unwrap.result c.new.result c.new.ensures.value c.unwrap.ensures
    (subst (λ n. Columns c.args.graph.now n c.walks.callbacks) (sym done) c.walks.invariant.columns)

pub returns-clause-least : goal.returns-clause-least
returns-clause-least g c =
    let done : length c.args.graph.now.callbacks ≡ c.walks.callback = omega arith in
    made_least c.args.graph.now c.walks.callbacks c.unwrap.result c.new.result c.new.ensures.value c.unwrap.ensures
    (subst (λ n. Columns c.args.graph.now n c.walks.callbacks) (sym done) c.walks.invariant.columns)
