use Rattle.std.proofs.Common.{◌≡◌, ◌<◌, length, get_or, true, false, None, sym, ap, ◌∙◌, arith}
use Rattle.std.specs.Prelude.{nat_lt}
use Rattle.std.proofs.lemmas.List.{get_or_read}
use Rattle.flt_graph.specs.Graph.{instruction_at}
use Rattle.flt_graph.specs.Kept.{edges_of}
use Rattle.flt_cert.specs.Format.{Point}
use Rattle.flt_check.specs.Full.{reached_from}
use Rattle.flt_check.proofs.Thin.Filling.{followed_later, followed_here, followed_none}
use Rattle.flt_check.proofs.filling.followed.Goals as goal

pub loop-from-preserved : goal.loop-from-preserved
loop-from-preserved c =
    let before = c.args.before.now in
    let from = c.loop-from.from in
    let within : from < length before = omega arith in
    let none : nat_lt 0 (edges_of (instruction_at c.args.graph.now c.args.callback from) (length before)) ≡ false =
    cc (c.has_edge.ensures, c.instruction_ref.ensures, c.if-has_edge.false) in
    sym (followed_later c.args.graph.now c.args.callback (length before) from before within none) ∙ c.loop-from.invariant

pub returns-then-has_edge : goal.returns-then-has_edge
returns-then-has_edge c =
    let g = c.args.graph.now in
    let before = c.args.before.now in
    let from = c.loop-from.from in
    let within : from < length before = omega arith in
    let some : nat_lt 0 (edges_of (instruction_at g c.args.callback from) (length before)) ≡ true =
    cc (c.has_edge.ensures, c.instruction_ref.ensures, c.if-has_edge.true) in
    let read : c.index-before-from.result ≡ get_or before from None =
    get_or_read before from c.index-before-from.result within c.index-before-from.is None in
    c.reached_from.ensures
    ∙ (ap (λ (x : Point). reached_from g c.args.callback from (length before) x) read
    ∙ (sym (followed_here g c.args.callback (length before) from before within some) ∙ c.loop-from.invariant))

pub returns : goal.returns
returns c =
    let before = c.args.before.now in
    sym (followed_none c.args.graph.now c.args.callback (length before) c.loop-from.from before (omega arith)) ∙ c.loop-from.invariant
