use Rattle.std.proofs.Common.{◌≡◌, ◌≤◌, length, sym, arith}
use Rattle.flt_graph.specs.Graph.{points_at}
use Rattle.flt_analyse.specs.declared.walk.Walk.{Walk}
use Rattle.flt_analyse.proofs.Counts.{counted, stopped, other_callback}
use Rattle.flt_analyse.proofs.Order.{Laws}
use Rattle.flt_analyse.proofs.Turns.{proper_at, look_at, stop_of, column_of_end, led_on}
use Rattle.flt_analyse.proofs.Walks.{Stage, begins, goes_on, taken_within, room_falls, opening_due}
use Rattle.flt_analyse.proofs.Stages.{due}
use Rattle.std.proofs.Math.Path.{subst}
use Rattle.flt_analyse.proofs.walk.Walk.go_on.Goals as goal

pub looks-init : goal.looks-init
looks-init g c =
    let laws : Laws = record {
      reflexive = c.joins_are_least.ensures.reflexive;
      transitive = c.joins_are_least.ensures.transitive;
      left = c.joins_are_least.ensures.left;
      right = c.joins_are_least.ensures.right;
      least = c.joins_are_least.ensures.least;
      proper = c.joins_are_least.ensures.proper;
      monotone = c.transfer_is_monotone.ensures;
    } in
    let few = c.requires.few in
    let same = c.requires.opening in
    record {
      stage = subst (λ w. Stage c.args.graph.now c.args.callback w) (sym same)
          (begins laws c.args.graph.now c.args.callback c.requires.some (omega arith));
      led = (0, sym same);
      own = (let d = subst (λ w. due w g.row.POINT ≤ 31) (sym same)
          (opening_due c.args.graph.now c.args.callback g.row.POINT c.requires.some) in omega arith);
      other = λ e. omega arith;
    }

pub look-requires : goal.look-requires
look-requires g c =
    let stage = c.looks.invariant.stage in
    let same = c.in-Some.ensures.some in
    let count = stage.count in
    let few = c.requires.few in
    let long = subst (λ (w : Walk). length w.points ≡ points_at c.args.graph.now c.args.callback) (sym same) count in (
      omega arith,
      (
        c.requires.callback,
        (
          taken_within c.args.graph.now c.args.callback c.looks.self c.in-Some.point stage (sym c.in-Some.ensures.value),
          (long, omega arith),
        ),
      ),
    )

pub returns-in-Err-clause-stop : goal.returns-in-Err-clause-stop
returns-in-Err-clause-stop g c =
    let laws : Laws = record {
      reflexive = c.joins_are_least.ensures.reflexive;
      transitive = c.joins_are_least.ensures.transitive;
      left = c.joins_are_least.ensures.left;
      right = c.joins_are_least.ensures.right;
      least = c.joins_are_least.ensures.least;
      proper = c.joins_are_least.ensures.proper;
      monotone = c.transfer_is_monotone.ensures;
    } in
    stop_of laws c.args.graph.now c.args.callback c.looks.self c.take.new.self c.in-Some.point c.line.result c.in-Err.rule
    c.looks.invariant.stage c.looks.invariant.led c.in-Some.ensures.value c.in-Some.ensures.some
    c.look.ensures.proper c.in-Err.ensures.err c.line.ensures

pub returns-in-Err-clause-count : goal.returns-in-Err-clause-count
returns-in-Err-clause-count g c =
    stopped c.args.graph.now c.args.callback c.looks.self c.in-Some.point c.looks.invariant.stage
    (sym c.in-Some.ensures.value) g.row.CALLBACK g.row.POINT c.looks.ticks c.look.new.ticks c.args.ticks.now
    c.look.ensures.count c.looks.invariant.own

pub looks-smaller : goal.looks-smaller
looks-smaller g c =
    let laws : Laws = record {
      reflexive = c.joins_are_least.ensures.reflexive;
      transitive = c.joins_are_least.ensures.transitive;
      left = c.joins_are_least.ensures.left;
      right = c.joins_are_least.ensures.right;
      least = c.joins_are_least.ensures.least;
      proper = c.joins_are_least.ensures.proper;
      monotone = c.transfer_is_monotone.ensures;
    } in
    room_falls laws c.args.graph.now c.args.callback c.looks.self c.look.new.self c.in-Some.point c.looks.invariant.stage
    (sym c.in-Some.ensures.value)
    (proper_at c.args.graph.now c.args.callback c.in-Some.point c.looks.self c.take.new.self c.in-Some.ensures.some c.look.ensures.proper)
    (look_at c.args.graph.now c.args.callback c.in-Some.point c.looks.self c.take.new.self _ c.in-Some.ensures.some
    c.in_default-look.ensures.ok)

pub looks-preserved : goal.looks-preserved
looks-preserved g c =
    let laws : Laws = record {
      reflexive = c.joins_are_least.ensures.reflexive;
      transitive = c.joins_are_least.ensures.transitive;
      left = c.joins_are_least.ensures.left;
      right = c.joins_are_least.ensures.right;
      least = c.joins_are_least.ensures.least;
      proper = c.joins_are_least.ensures.proper;
      monotone = c.transfer_is_monotone.ensures;
    } in
    let e = sym c.in-Some.ensures.value in
    let ok = proper_at c.args.graph.now c.args.callback c.in-Some.point c.looks.self c.take.new.self c.in-Some.ensures.some
    c.look.ensures.proper in
    let looked = look_at c.args.graph.now c.args.callback c.in-Some.point c.looks.self c.take.new.self _ c.in-Some.ensures.some
    c.in_default-look.ensures.ok in
    record {
      stage = goes_on laws c.args.graph.now c.args.callback c.looks.self c.look.new.self c.in-Some.point c.looks.invariant.stage e
          ok looked;
      led = led_on c.args.graph.now c.args.callback c.looks.self c.take.new.self c.look.new.self c.in-Some.point
          c.looks.invariant.led c.in-Some.ensures.value c.in-Some.ensures.some c.in_default-look.ensures.ok;
      own = counted laws c.args.graph.now c.args.callback c.looks.self c.look.new.self c.in-Some.point c.looks.invariant.stage e
          ok looked g.row.CALLBACK g.row.POINT c.looks.ticks c.look.new.ticks c.args.ticks.now
          c.look.ensures.count c.looks.invariant.own;
      other = λ d.
          let a = other_callback g.row.CALLBACK g.row.POINT c.args.callback c.in-Some.point d in
          let b = c.look.ensures.count in
          let i = c.looks.invariant.other d in omega arith;
    }

pub returns-clause-column : goal.returns-clause-column
returns-clause-column g c =
    column_of_end c.args.graph.now c.args.callback c.looks.self c.take.new.self c.looks.invariant.stage c.looks.invariant.led
    c.in_default.ensures.value c.in_default.ensures.none
