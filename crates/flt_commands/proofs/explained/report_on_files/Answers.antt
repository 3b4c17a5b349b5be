use Rattle.std.proofs.Common.{◌≡◌, Err, map, option_map, refl, rules}
use Rattle.flt_commands.specs.Answer.{of_explain}
use Rattle.flt_commands_explain.specs.Explain.{said_of}
use Rattle.flt_commands.proofs.ExplainReports.{sent_of_report}
use Rattle.flt_commands_explain.proofs.Explaining.{cut_named, cut_reported}
use Rattle.flt_commands.proofs.Reported.{answered_of, codes_given, may_have, quiet_for, remarked_after, those_of}
use Rattle.flt_words.specs.Request.{Explain}
use Rattle.flt_commands_explain.specs.declared.fault.CommandFault.TheVariants.{OutOfMemory}
use Rattle.flt_commands.proofs.explained.report_on_files.Goals as goal

pub returns-in_err-said-clause-memory : goal.returns-in_err-said-clause-memory
returns-in_err-said-clause-memory g c =
    let fails : c.from_residual.result ≡ Err c.in_err-said.field-0.0 = search rules in
    rw fails c.in_err-said.ensures.memory

pub returns-in_err-before-clause-memory : goal.returns-in_err-before-clause-memory
returns-in_err-before-clause-memory g c =
    let fails : c.from_residual-in_err-before.result ≡ Err OutOfMemory = search rules in
    rw fails (λ short. cut_named _ _ _ _ _ _ _ g.O.Sink.taken _ _ _ c.in_err-before.ensures.none c.in_ok-said.ensures.held)

pub returns-clause-answered : goal.returns-clause-answered
returns-clause-answered g c =
    λ colour shown warnings look chosen allowed. let request = Explain c.args.asked.form colour c.args.asked.search
    (option_map (λ name. name.now) c.args.asked.journal) warnings c.args.asked.is_c (map (λ name. name.now) c.args.files.now) in
    let said = rw (look, chosen, allowed) at c.in_ok-said.ensures.said in
    let own = said_of c.in_ok-said.said in
    answered_of c.covered_texts_break_nothing.ensures c.driven_texts_break_nothing.ensures
    c.fails_exactly_where_nothing_is_spelled.ensures.nowhere shown _ _ _ request _ _ (of_explain own) _ (own, refl, said)
    (own, refl, c.in_ok-said.ensures.written)
    (those_of _ _ c.report_on_explanation.ensures.texts) (may_have c.report_on_explanation.result)
    (codes_given _ _ c.report_on_explanation.ensures.codes) c.report_on_explanation.ensures.reported
    (remarked_after request _ _ _ (own, refl, c.in_ok-before.ensures.found) c.report_on_explanation.ensures.remarked)

pub returns-clause-quiet : goal.returns-clause-quiet
returns-clause-quiet g c =
    λ colour warnings. quiet_for c.args.asked.form colour c.args.asked.search _ warnings c.args.asked.is_c _ _ _ _
    c.in_ok-before.ensures.found c.report_on_explanation.ensures.reported c.report_on_explanation.ensures.quiet

pub returns-clause-sent : goal.returns-clause-sent
returns-clause-sent g c =
    sent_of_report _ _ _ _ c.in_ok-said.ensures.sent c.report_on_explanation.ensures.reported c.report_on_explanation.ensures.sent

pub returns-clause-memory : goal.returns-clause-memory
returns-clause-memory g c =
    cut_reported _ _ _ _ _ _ _ g.O.Sink.taken _ _ _ _ _ _ _ _ c.report_on_explanation.ensures.err
    c.in_ok-said.ensures.said c.in_ok-said.ensures.held
