use Rattle.std.proofs.Common.{rules, ◌≡◌, Err, IfErr, map, subst, sym}
use Rattle.flt_model.specs.Program.{filters_of}
use Rattle.flt_stack.proofs.Files.{accepted_here, memory_stops, one_more_read, stops_reading}
use Rattle.flt_stack.specs.Loading as spec
use Rattle.flt_stack.specs.declared.fault.LoadFault.TheVariants as fault
use Rattle.flt_stack.proofs.reading.read_all.Goals as goal

pub returns-in-Err-clause-err : goal.returns-in-Err-clause-err
returns-in-Err-clause-err c =
    stops_reading (λ f. spec.file f.0.now f.1.now) c.args.files.now c.loop-file.file _ c.loop-file-test.true
    (filters_of c.loop-file.filters.trees.items) c.loop-file.filters.graphs.items c.loop-file.filters.certificates.items c.in-Err.fault
    c.loop-file.invariant c.in-Err.ensures.err

pub returns-in-Err-clause-reads : goal.returns-in-Err-clause-reads
returns-in-Err-clause-reads c filters all =
    let one = accepted_here (λ f. spec.file f.0.now f.1.now) c.args.files.now c.loop-file.file _ c.loop-file-test.true filters all in
    c.in-Err.ensures.reads one.0 one.1

pub returns-in_err-push-in-Ok-clause-err : goal.returns-in_err-push-in-Ok-clause-err
returns-in_err-push-in-Ok-clause-err c =
    let files = map (λ f. spec.file f.0.now f.1.now) c.args.files.now in
    let before = c.loop-file.filters in
    let later = c.push.new.self in
    let fails : c.from_residual.result ≡ Err fault.OutOfMemory = search rules in
    let same = c.in_err-push-in-Ok.ensures.same in
    let stops : spec.StopsReading files (filters_of before.trees.items) before.graphs.items before.certificates.items fault.OutOfMemory =
    memory_stops (λ f. spec.file f.0.now f.1.now) c.args.files.now c.loop-file.file _ c.loop-file-test.true
    (filters_of before.trees.items) before.graphs.items before.certificates.items c.in-Ok.tree.filter c.in-Ok.graph c.in-Ok.cert
    c.loop-file.invariant c.in-Ok.ensures.ok in
    subst
    (λ r. IfErr r (spec.StopsReading files (filters_of later.trees.items) later.graphs.items later.certificates.items)) (sym fails)
    (rw (same.0, same.1.0, same.1.1) stops)

pub loop-file-preserved : goal.loop-file-preserved
loop-file-preserved c =
    one_more_read (λ f. spec.file f.0.now f.1.now) c.args.files.now c.loop-file.file _ c.loop-file-test.true
    c.loop-file.filters.trees.items _ c.loop-file.filters.graphs.items _ c.loop-file.filters.certificates.items _ c.in-Ok.tree
    c.in-Ok.graph c.in-Ok.cert c.loop-file.invariant c.in-Ok.ensures.ok c.in_ok-push-in-Ok.ensures.trees
    c.in_ok-push-in-Ok.ensures.graphs c.in_ok-push-in-Ok.ensures.certificates
