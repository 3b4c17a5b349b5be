use Rattle.std.proofs.Common.{◌≡◌, sym, ◌∙◌}
use Rattle.flt_cert.proofs.Formats.{thin_fault_of, full_fault_of}
use Rattle.flt_cert.proofs.reader.read.Goals as goal

pub returns-in-Err-clause-fault : goal.returns-in-Err-clause-fault
returns-in-Err-clause-fault c =
    thin_fault_of c.args.bytes.now c.in-Err.fault (sym c.begins_thin.ensures ∙ c.if-begins_thin.true) c.in-Err.ensures.fault

pub returns-in-Err-read_full-clause-fault : goal.returns-in-Err-read_full-clause-fault
returns-in-Err-read_full-clause-fault c =
    full_fault_of c.args.bytes.now c.in-Err-read_full.fault (sym c.begins_thin.ensures ∙ c.if-begins_thin.false)
    c.in-Err-read_full.ensures.fault
