-- Why a command ended without its answer. This project's own program.
use Rattle.flt_explain_runs.specs.declared.fault.ExplainFault.{ExplainFault}
use Rattle.flt_explain_runs.specs.declared.fault.ExplainFault.TheVariants as notes
use Rattle.flt_commands_explain.specs.declared.fault.CommandFault.{CommandFault}
use Rattle.flt_commands_explain.specs.declared.fault.CommandFault.TheVariants.{OutOfMemory, Write}

-- how it is said of reports that end so
abbrev pub of_explain : ExplainFault → CommandFault
of_explain notes.OutOfMemory = OutOfMemory
of_explain notes.Write = Write
