use Rattle.std.proofs.Common.{map}
use Rattle.flt_c_headers.proofs.Closing.{close_all, close_more, close_none, close_stops, fewer_left}
use Rattle.flt_c_headers.proofs.reading.read_headers.Goals as goal

pub loop-file-init : goal.loop-file-init
loop-file-init g c =
    close_none (g.I.HeaderFiles.gives c.args.inputs.now) (map (λ dir. dir.now) c.args.folders.now) c.args.spellings.now c.args.headers.now

pub returns-in-Err-clause-read : goal.returns-in-Err-clause-read
returns-in-Err-clause-read g c =
    close_stops (g.I.HeaderFiles.gives c.args.inputs.now) (map (λ dir. dir.now) c.args.folders.now) c.args.spellings.now c.args.headers.now
    c.loop-file.spellings c.loop-file.headers c.in-Some.file c.in-Err.excess c.loop-file.invariant (rw c.in-Some.is at c.in_ok-file.ensures)
    (rw c.in-Err.is at c.in_ok-excess.ensures)

pub loop-file-preserved : goal.loop-file-preserved
loop-file-preserved g c =
    close_more (g.I.HeaderFiles.gives c.args.inputs.now) (map (λ dir. dir.now) c.args.folders.now) c.args.spellings.now c.args.headers.now
    c.loop-file.spellings c.read_header.new.spellings c.loop-file.headers c.read_header.new.headers c.loop-file.invariant
    (rw c.in_default-2.is at c.in_ok-excess.ensures)

pub loop-file-smaller : goal.loop-file-smaller
loop-file-smaller g c =
    fewer_left (g.I.HeaderFiles.gives c.args.inputs.now) (map (λ dir. dir.now) c.args.folders.now) c.loop-file.spellings c.loop-file.headers
    c.read_header.new.spellings c.read_header.new.headers c.in-Some.file (rw c.in_default-2.is at c.in_ok-excess.ensures)
    (rw c.in-Some.is at c.in_ok-file.ensures)

pub returns-clause-read : goal.returns-clause-read
returns-clause-read g c =
    close_all (g.I.HeaderFiles.gives c.args.inputs.now) (map (λ dir. dir.now) c.args.folders.now) c.args.spellings.now c.args.headers.now
    c.loop-file.spellings c.loop-file.headers c.loop-file.invariant (rw c.in_default.is at c.in_ok-file.ensures)
