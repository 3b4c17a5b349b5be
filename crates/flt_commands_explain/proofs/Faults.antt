-- Why reports for people end early, as the command says it.
use Rattle.std.proofs.Common.{◌≡◌, ◌≢◌, ℕ, ap, refl}
use Rattle.flt_explain_runs.specs.declared.fault.ExplainFault.{ExplainFault}
use Rattle.flt_explain_runs.specs.declared.fault.ExplainFault.TheVariants as notes
use Rattle.flt_commands_explain.specs.Fault.{of_explain}
use Rattle.flt_commands_explain.specs.declared.fault.CommandFault.{CommandFault}
use Rattle.flt_commands_explain.specs.declared.fault.CommandFault.TheVariants.{OutOfMemory, Write}

-- a write failed
pub write_of : (f : ExplainFault) (e : CommandFault) → e ≡ of_explain f → e ≡ Write → f ≡ notes.Write
write_of notes.OutOfMemory e of same = cc
write_of notes.Write e of same = refl

-- memory ran out
pub memory_of : (f : ExplainFault) (e : CommandFault) → e ≡ of_explain f → e ≡ OutOfMemory → f ≡ notes.OutOfMemory
memory_of notes.OutOfMemory e of same = refl
memory_of notes.Write e of same = cc

-- where nothing goes out, no write fails
pub memory_alone : {O : Type 0} (failures : O → ℕ) (old new : O) (f : ExplainFault) (e : CommandFault) → e ≡ of_explain f → new ≡ old →
    (f ≡ notes.Write → failures new ≢ failures old) → e ≡ OutOfMemory
memory_alone failures old new notes.OutOfMemory e of held failed = of
memory_alone failures old new notes.Write e of held failed = absurd (failed refl (ap failures held))
