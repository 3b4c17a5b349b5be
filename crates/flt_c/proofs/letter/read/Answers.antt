use Rattle.std.proofs.Common.{◌≡◌, ◌++◌, false, map, refl, take, sym, subst, ap, ◌∙◌}
use Rattle.flt_c.proofs.Lettering.{AreLetters, joined_on}
use Rattle.flt_c.proofs.OverMarker.{letters_marker_on}
use Rattle.flt_c.proofs.OverRuns.{letters_run_on}
use Rattle.flt_c.specs.Letters.{other}
use Rattle.flt_c.specs.Runs.{lettered, plain_count, plain_in, run_part}
use Rattle.flt_c.proofs.letter.read.Goals as goal

pub loop-rest-preserved-then-run-gt0 : goal.loop-rest-preserved-then-run-gt0
loop-rest-preserved-then-run-gt0 c =
    let s = c.loop-rest.s in
    let rest = c.loop-rest.rest.now in
    let out = c.loop-rest.out.items in
    let n = c.plain_count-run.result in
    let aside = c.is_run_aside-aside.result in
    let count : n ≡ plain_count (plain_in s.mode s.front) rest =
    c.plain_count-run.ensures.value ∙ ap (λ plain. plain_count plain rest) c.plain_in.ensures in
    let put : c.put_run.new.out.items ≡ out ++ map (lettered (run_part s aside)) (take n rest) =
    c.in_ok-put_run.ensures
    ∙ (ap (λ part. out ++ map (lettered part) c.before-then-run-gt0.result.now) c.run_part.ensures
    ∙ ap (λ z. out ++ map (lettered (run_part s aside)) z) c.before-then-run-gt0.ensures) in
    subst (AreLetters c.args.file.now c.put_run.new.out.items c.pass.new.s aside) (sym c.after-rest.ensures)
    (letters_run_on c.args.file.now out c.put_run.new.out.items s c.pass.new.s c.loop-rest.aside aside rest n
    c.loop-rest.invariant c.if-run-gt0.true count c.plain_count-run.ensures.within c.is_run_aside-aside.ensures put c.pass.ensures)

pub loop-rest-preserved : goal.loop-rest-preserved
loop-rest-preserved c =
    let put : c.put_run-else-n-eq0.new.out.items ≡ c.loop-rest.out.items ++ map other (take c.continuation-n.result c.loop-rest.rest.now) =
    c.in_ok-put_run-3.ensures ∙ ap (λ z. c.loop-rest.out.items ++ map other z) c.before-else-n-eq0.ensures in
    subst (AreLetters c.args.file.now c.put_run-else-n-eq0.new.out.items c.join.new.s c.loop-rest.aside)
    (sym c.after-rest-else-n-eq0.ensures)
    (joined_on c.args.file.now c.loop-rest.out.items c.put_run-else-n-eq0.new.out.items c.loop-rest.s c.join.new.s c.loop-rest.aside
    c.loop-rest.rest.now c.continuation-n.result c.loop-rest.invariant c.continuation-n.ensures.value c.if-n-eq0.false
    c.continuation-n.ensures.within c.in_default-join.ensures.value put c.in_default-join.ensures.moves c.in_default-join.ensures.deepens)

pub loop-rest-preserved-then-takes_marker : goal.loop-rest-preserved-then-takes_marker
loop-rest-preserved-then-takes_marker c =
    let s = c.loop-rest.s in
    let rest = c.loop-rest.rest.now in
    let out = c.loop-rest.out.items in
    let more = c.put_run-then-takes_marker.new.out.items in
    let put : more ≡ out ++ map other (take 6 rest) =
    c.in_ok-put_run-2.ensures ∙ ap (λ z. out ++ map other z) c.before-then-takes_marker.ensures in
    subst (AreLetters c.args.file.now more c.take_marker.new.s false) (sym c.after-rest-then-takes_marker.ensures)
    (letters_marker_on c.args.file.now out more s c.take_marker.new.s c.loop-rest.aside false rest c.loop-rest.invariant
    (sym c.takes_marker.ensures.value ∙ c.if-takes_marker.true) (c.takes_marker.ensures.within c.if-takes_marker.true) refl put
    c.take_marker.ensures)
