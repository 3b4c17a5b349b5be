use Rattle.std.proofs.Common.{map}
use Rattle.flt_c_functions.proofs.Reading.{counted_step, read_end, read_step, read_stop}
use Rattle.flt_c_functions.proofs.source.read_sources.Goals as goal

pub returns-in-Err : goal.returns-in-Err
returns-in-Err g c =
    read_stop (λ file. file.items) (g.I.HeaderFiles.gives c.args.inputs.now) (map (λ folder. folder.now) c.args.folders.now)
    (map (λ line. line.items) c.args.lines.now) (map (λ name. name.now) c.args.names.now)
    (record { texts = c.args.spellings.now; headers = c.args.headers.now }) (map (λ file. file.items) c.args.files.now)
    (record { texts = c.loop-rest.spellings; headers = c.loop-rest.headers }) c.loop-rest.at
    c.loop-rest.rest.now c.file-item.result c.name_at-name.result.now c.as_slice.result.now c.loop-rest.found.items c.in-Err.excess
    c.loop-rest.invariant.read c.in-len1-up.len_at_least c.file-item.is c.as_slice.ensures.value c.name_at-name.ensures
    (rw c.in-Err.is at c.in_ok-excess.ensures)

pub loop-rest-preserved : goal.loop-rest-preserved
loop-rest-preserved g c =
    record {
      read = read_step (λ file. file.items) (g.I.HeaderFiles.gives c.args.inputs.now) (map (λ folder. folder.now) c.args.folders.now)
          (map (λ line. line.items) c.args.lines.now) (map (λ name. name.now) c.args.names.now)
          (record { texts = c.args.spellings.now; headers = c.args.headers.now }) (map (λ file. file.items) c.args.files.now)
          (record { texts = c.loop-rest.spellings; headers = c.loop-rest.headers }) c.loop-rest.at
          (record { texts = c.add_source.new.spellings; headers = c.add_source.new.headers })
          c.loop-rest.rest.now c.file-item.result c.name_at-name.result.now c.as_slice.result.now c.loop-rest.found.items
          c.add_source.new.found.items c.loop-rest.invariant.read c.in-len1-up.len_at_least c.file-item.is c.name_at-name.ensures
          c.as_slice.ensures.value (rw c.in_default-2.is at c.in_ok-excess.ensures);
      counted = counted_step c.loop-rest.rest.now c.loop-rest.at _ c.in-len1-up.len_at_least c.loop-rest.invariant.counted;
    }

pub returns : goal.returns
returns g c =
    read_end (λ file. file.items) (g.I.HeaderFiles.gives c.args.inputs.now) (map (λ folder. folder.now) c.args.folders.now)
    (map (λ line. line.items) c.args.lines.now) (map (λ name. name.now) c.args.names.now)
    (record { texts = c.args.spellings.now; headers = c.args.headers.now }) (map (λ file. file.items) c.args.files.now)
    (record { texts = c.loop-rest.spellings; headers = c.loop-rest.headers }) c.loop-rest.at c.loop-rest.rest.now
    c.loop-rest.found.items c.loop-rest.invariant.read c.in_default.len_below
