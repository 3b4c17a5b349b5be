use Rattle.std.proofs.Common.{◌≡◌, Ok, map, refl}
use Rattle.flt_commands.proofs.LayoutReports.{kept_layouts, quiet_formatted}
use Rattle.flt_commands.proofs.Reported.{answered_without, remarked_after, those_of}
use Rattle.flt_commands.specs.Answer.{of_text}
use Rattle.flt_commands_texts.specs.declared.answer.TextAnswer.TheVariants.{Formatted}
use Rattle.flt_files.specs.Attempts.{Does}
use Rattle.flt_words.specs.Request.{Format}
use Rattle.flt_commands.proofs.layouts.report_on_layouts.Goals as goal

pub returns-clause-answered : goal.returns-clause-answered
returns-clause-answered g c =
    λ shown. let files = map (λ name. name.now) c.args.files.now in
    let request = Format c.args.mode files in
    let own = Ok (Formatted c.args.mode c.in_ok-found.found) in
    let written = g.P.Pictures.written c.format_files.new.pictures in
    let does =
    Does (c.format_files.new.pictures ≡ c.args.pictures.now) (g.P.Pictures.done c.args.pictures.now)
    (g.P.Pictures.done c.format_files.new.pictures) in
    answered_without c.covered_texts_break_nothing.ensures c.driven_texts_break_nothing.ensures
    c.fails_exactly_where_nothing_is_spelled.ensures.nowhere shown _ written does request _ (of_text own) _
    (own, refl, (refl, c.in_ok-found.ensures.said))
    (kept_layouts written does c.args.mode files _ c.in_ok-found.found c.in_ok-found.ensures.kept)
    (those_of _ _ c.report_on.ensures.texts) c.report_on.ensures.codes c.report_on.ensures.reported
    (remarked_after request c.in_ok-before.before.items (of_text own) _ (own, refl, c.in_ok-before.ensures)
    c.report_on.ensures.remarked)

pub returns-clause-quiet : goal.returns-clause-quiet
returns-clause-quiet g c =
    quiet_formatted c.args.mode c.in_ok-found.found _ _ c.in_ok-before.ensures c.report_on.ensures.reported c.report_on.ensures.quiet
