use Rattle.std.proofs.Common.{◌≡◌, Ok, ◌∙◌}
use Rattle.flt_cert.specs.Reading as spec
use Rattle.flt_cert.proofs.FirstFault.{is_spelled, is_certified, is_read, is_fault, only_memory}
use Rattle.flt_cert.proofs.full_reader.read_full.Goals as goal

pub unwrap-requires : goal.unwrap-requires
unwrap-requires c =
    let read : spec.certificate (spec.start c.args.bytes.now) ≡ Ok (c.in-Ok.callbacks, c.certificate.new.lines) =
    rw (← c.new-lines.ensures) c.in-Ok.ensures in
    c.new.ensures.known.1 (is_certified c.args.bytes.now c.in-Ok.callbacks c.certificate.new.lines read)

pub returns-in-Ok : goal.returns-in-Ok
returns-in-Ok c =
    let read : spec.certificate (spec.start c.args.bytes.now) ≡ Ok (c.in-Ok.callbacks, c.certificate.new.lines) =
    rw (← c.new-lines.ensures) c.in-Ok.ensures in
    let same : c.unwrap.result ≡ c.in-Ok.callbacks = rw c.unwrap.ensures at c.new.ensures.value in
    record {
      spelled = rw same (is_spelled c.args.bytes.now c.in-Ok.callbacks c.certificate.new.lines read);
      certificate = rw same (is_certified c.args.bytes.now c.in-Ok.callbacks c.certificate.new.lines read);
      read = λ callbacks good spelled. same
          ∙ is_read c.args.bytes.now c.in-Ok.callbacks c.certificate.new.lines read callbacks good spelled;
      fault = tt;
    }

pub returns-in-Err : goal.returns-in-Err
returns-in-Err c =
    let fails : spec.Fails (spec.certificate (spec.start c.args.bytes.now)) c.in-Err.fault = rw (← c.new-lines.ensures) c.in-Err.ensures in
    record {
      spelled = tt;
      certificate = tt;
      read = λ callbacks good spelled. only_memory c.args.bytes.now c.in-Err.fault fails callbacks good spelled;
      fault = is_fault c.args.bytes.now c.in-Err.fault fails;
    }
