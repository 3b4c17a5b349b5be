use Rattle.std.proofs.Common.{◌≡◌, sym, subst, ap, ◌∙◌, take}
use Rattle.flt_c.specs.Runs.{add_run, plain_count, plain_in}
use Rattle.flt_c.specs.Texts.{text_in}
use Rattle.flt_c.proofs.OverMarker.{marker_on}
use Rattle.flt_c.proofs.OverRuns.{run_on}
use Rattle.flt_c.proofs.Reading.{IsRead, joined_on, stepped_on}
use Rattle.flt_c.proofs.text.Annotations.read.Goals as goal

pub loop-rest-preserved-then-run-gt0 : goal.loop-rest-preserved-then-run-gt0
loop-rest-preserved-then-run-gt0 c =
    let s = c.loop-rest.s in
    let text = text_in c.loop-rest.self in
    let count : c.plain_count-run.result ≡ plain_count (plain_in s.mode s.front) c.loop-rest.rest.now =
    c.plain_count-run.ensures.value ∙ ap (λ plain. plain_count plain c.loop-rest.rest.now) c.plain_in.ensures in
    let added : text_in c.add_run.new.self ≡ add_run c.args.number text s (take c.plain_count-run.result c.loop-rest.rest.now) =
    c.in_ok-add_run.ensures ∙ ap (add_run c.args.number text s) c.before-then-run-gt0.ensures in
    subst (IsRead c.args.number (text_in c.args.self.now) c.args.file.now (text_in c.add_run.new.self) c.pass.new.s)
    (sym c.after-rest.ensures)
    (run_on c.args.number (text_in c.args.self.now) c.args.file.now text (text_in c.add_run.new.self) s c.pass.new.s c.loop-rest.rest.now
    c.plain_count-run.result c.loop-rest.invariant c.if-run-gt0.true count c.plain_count-run.ensures.within added c.pass.ensures)

pub loop-rest-preserved-then-n-eq0 : goal.loop-rest-preserved-then-n-eq0
loop-rest-preserved-then-n-eq0 c =
    subst (IsRead c.args.number (text_in c.args.self.now) c.args.file.now (text_in c.add.new.self) c.step.new.s)
    (sym c.after-rest-then-n-eq0.ensures)
    (stepped_on c.args.number (text_in c.args.self.now) c.args.file.now (text_in c.loop-rest.self)
    (text_in c.add.new.self) c.loop-rest.s c.step.new.s
    c.loop-rest.rest.now c.loop-rest.invariant (sym c.if-n-eq0.true ∙ c.continuation-n.ensures.value) c.in-len1-up.len_at_least
    c.in_default-step.ensures.value c.in_ok-add.ensures c.in_default-step.ensures.moves c.in_default-step.ensures.deepens)

pub loop-rest-preserved : goal.loop-rest-preserved
loop-rest-preserved c =
    subst (IsRead c.args.number (text_in c.args.self.now) c.args.file.now (text_in c.loop-rest.self) c.join.new.s)
    (sym c.after-rest-else-n-eq0.ensures)
    (joined_on c.args.number (text_in c.args.self.now) c.args.file.now
    (text_in c.loop-rest.self) c.loop-rest.s c.join.new.s c.loop-rest.rest.now
    c.continuation-n.result c.loop-rest.invariant c.continuation-n.ensures.value c.if-n-eq0.false c.continuation-n.ensures.within
    c.in_default-join.ensures.value c.in_default-join.ensures.moves c.in_default-join.ensures.deepens)

pub loop-rest-preserved-then-takes_marker : goal.loop-rest-preserved-then-takes_marker
loop-rest-preserved-then-takes_marker c =
    let text = text_in c.loop-rest.self in
    let s = c.loop-rest.s in
    let rest = c.loop-rest.rest.now in
    subst (IsRead c.args.number (text_in c.args.self.now) c.args.file.now text c.take_marker.new.s)
    (sym c.after-rest-then-takes_marker.ensures)
    (marker_on c.args.number text (text_in c.args.self.now) c.args.file.now s c.take_marker.new.s rest c.loop-rest.invariant
    (sym c.takes_marker.ensures.value ∙ c.if-takes_marker.true)
    (c.takes_marker.ensures.within c.if-takes_marker.true) c.take_marker.ensures)
