-- What went out of the report on what `explain` says.
use Rattle.std.proofs.Common.{◌≡◌, Option, Result, Ok, Err, IfOk, take}
use Rattle.flt_door.specs.Lines.{Shows}
use Rattle.flt_commands.specs.Answer.{of_explain}
use Rattle.flt_commands.specs.Commands.{IsReported}
use Rattle.flt_commands.specs.declared.report.Report.{Report}
use Rattle.flt_commands_explain.specs.Answer.{sent_in}
use Rattle.flt_commands_explain.specs.Explain.{IsSent}
use Rattle.flt_commands_explain.specs.declared.answer.ExplainAnswer.{ExplainAnswer}
use Rattle.flt_commands_explain.specs.declared.fault.CommandFault.{CommandFault}
use Rattle.flt_files.specs.Inputs.{Text}
use Rattle.flt_files.specs.declared.failure.Failure.{Failure}

-- what went out of a report
pub sent_of_report : (old new : Option Text) (said : Result ExplainAnswer Failure) (result : Result Report CommandFault) →
    IsSent old new said → IfOk result (λ report. IsReported (of_explain said) report.output.items report.status) →
    IfOk result (λ report. report.sent ≡ sent_in said) → IfOk result (λ report. Shows old new (take report.sent report.output.items))
sent_of_report old new (Ok answer) (Ok report) sent reported same = rw (same, reported.0) sent
sent_of_report old new (Err f) (Ok report) sent reported same = rw same sent
sent_of_report old new said (Err e) sent reported same = tt
