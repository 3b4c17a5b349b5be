-- What a server's run on a new server comes to, the report on a document, and who asks for a server.
use Rattle.std.proofs.Common.{◌≡◌, ◌≢◌, ℕ, Option, Result, Ok, Err, IfErr, IfOk}
use Rattle.flt_files.specs.Inputs.{Text}
use Rattle.flt_commands_explain.specs.Served.{IsNew, IsReport, IsSaidOf, MayAnswer, Serves, ServesSoFar, as_string}
use Rattle.flt_server_frames.specs.Handling.{IsServed, IsServedSoFar}
use Rattle.flt_server_frames.specs.declared.fault.ServeFault.{ServeFault}
use Rattle.flt_server_frames.specs.declared.fault.ServeFault.TheVariants.{Write}
use Rattle.flt_commands_explain.specs.declared.serving.Explaining.{Explaining}
use Rattle.flt_server.specs.declared.server.Server.{Server}
use Rattle.flt_server_session.specs.declared.document.KeptText.{KeptText}

module _ (first : Server Explaining) (is : IsNew first) where
  -- it ended with a status
  pub serves : (last : Server Explaining) (had left old new : Option Text) (r : Result ℕ ServeFault) →
      IfOk r (IsServed MayAnswer first last had left old new) → IfOk r (Serves had left old new)
  serves last had left old new (Ok status) served = (first, last, is, served)
  serves last had left old new (Err fault) served = served

  -- it stopped
  pub serves_so_far : (had old new : Option Text) (r : Result ℕ ServeFault) →
      IfErr r (λ e. e ≢ Write → IsServedSoFar MayAnswer first had old new) → IfErr r (λ e. e ≢ Write → ServesSoFar had old new)
  serves_so_far had old new (Ok status) served = served
  serves_so_far had old new (Err fault) served = λ other. (first, is, served other)

-- what is said, written as a string, is the report on a document
pub reported : {V : Type 0} {E : Type 0} (items : V → Text) (name : Text) (text : KeptText) (printed : Text) (r : Result V E) →
    IsSaidOf name text printed → IfOk r (λ v. items v ≡ as_string printed) → IfOk r (λ v. IsReport name text (items v))
reported items name text printed (Ok v) is written = (printed, is, written)
reported items name text printed (Err e) is written = written
