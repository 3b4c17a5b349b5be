use Rattle.std.proofs.Common.{Ok, ap, map}
use Rattle.flt_files.specs.Deeds.{deed_of, deeds_in}
use Rattle.flt_files.specs.System.{given_by_host, written_by_host}
use Rattle.flt_words.specs.Request.{asked_of}
use Rattle.flt_commands.proofs.Reported.{all_done, answers_as}
use Rattle.flt_commands.proofs.Untouched.{none_done}
use Rattle.flt_commands.proofs.host.execute.Goals as goal

pub returns-in-Ok-result-clause-answered : goal.returns-in-Ok-result-clause-answered
returns-in-Ok-result-clause-answered g c =
    let none = ap (map deed_of) c.new-host.ensures in
    rw c.into_deeds-deeds.ensures (
      c.in-Ok.coloured,
      answers_as written_by_host _ _ (all_done _ _ _ none (λ same. ap (λ files. deeds_in files.system.deeds) same)) c.in-Ok.coloured
          given_by_host (asked_of c.args.request) (Ok c.in-Ok-result.report) c.in-Ok-result.ensures.answers,
    )

pub returns-in-Ok-result-clause-idle : goal.returns-in-Ok-result-clause-idle
returns-in-Ok-result-clause-idle g c =
    λ names. rw c.into_deeds-deeds.ensures
    (none_done _ _ (ap (map deed_of) c.new-host.ensures)
    (λ none. ap (λ files. deeds_in files.system.deeds) (c.command-result.ensures.untouched none)) names)
