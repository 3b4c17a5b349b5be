use Rattle.std.proofs.Common.{◌≡◌, ap, map, option_map, refl, sym}
use Rattle.flt_commands.proofs.Reported.{answers_asked, answers_of, before_shown, cut_asked, held_asked, kept_shown, never_quiet}
use Rattle.flt_commands.proofs.Reported.{quiet_asked, quiet_shown, remarked_after, says_of_pages, those_after, those_of}
use Rattle.flt_words.specs.Request.{Check, Analyse, Thin, Run, Replay, Show, Extract, Pages, Emit, EmitInto, asked_of, choice_of}
use Rattle.flt_words.specs.Request.{Compare, Functions, Serve}
use Rattle.flt_files.specs.Attempts.{Does}
use Rattle.flt_commands.proofs.Untouched.{by_emit, by_explain, by_format, by_show}
use Rattle.flt_commands.proofs.commands.report_of.Goals as goal

pub returns-in-Check-clause-answers : goal.returns-in-Check-clause-answers
returns-in-Check-clause-answers g c =
    let request = Check c.in-Check.file.now (option_map (λ name. name.now) c.in-Check.cert) in
    let does =
    Does (c.args.pictures.now ≡ c.args.pictures.now) (g.P.Pictures.done c.args.pictures.now)
    (g.P.Pictures.done c.args.pictures.now) in
    answers_of c.covered_texts_break_nothing.ensures c.driven_texts_break_nothing.ensures
    c.fails_exactly_where_nothing_is_spelled.ensures.nowhere _ _ _ does _ request _ _ _
    (ap asked_of (sym c.in-Check.is)) (c.check_files-said.result, c.of_text.ensures, rw c.last_of.ensures at c.check_files-said.ensures) refl
    (those_of _ _ c.report_on.ensures.texts) c.report_on.ensures.codes
    c.report_on.ensures.reported (remarked_after request _ _ _ c.new.ensures.items c.report_on.ensures.remarked)

pub returns-in-Analyse-clause-answers : goal.returns-in-Analyse-clause-answers
returns-in-Analyse-clause-answers g c =
    let request = Analyse c.in-Analyse.file.now in
    let does =
    Does (c.args.pictures.now ≡ c.args.pictures.now) (g.P.Pictures.done c.args.pictures.now)
    (g.P.Pictures.done c.args.pictures.now) in
    answers_of c.covered_texts_break_nothing.ensures c.driven_texts_break_nothing.ensures
    c.fails_exactly_where_nothing_is_spelled.ensures.nowhere _ _ _ does _ request _ _ _
    (ap asked_of (sym c.in-Analyse.is))
    (c.analyse_file-said.result, c.of_text-in-Analyse.ensures, c.analyse_file-said.ensures) refl
    (those_of _ _ c.report_on-in-Analyse.ensures.texts) c.report_on-in-Analyse.ensures.codes
    c.report_on-in-Analyse.ensures.reported
    (remarked_after request _ _ _ c.new-in-Analyse.ensures.items c.report_on-in-Analyse.ensures.remarked)

pub returns-in-Thin-clause-answers : goal.returns-in-Thin-clause-answers
returns-in-Thin-clause-answers g c =
    let request = Thin c.in-Thin.file.now (option_map (λ name. name.now) c.in-Thin.cert) in
    let does =
    Does (c.args.pictures.now ≡ c.args.pictures.now) (g.P.Pictures.done c.args.pictures.now)
    (g.P.Pictures.done c.args.pictures.now) in
    answers_of c.covered_texts_break_nothing.ensures c.driven_texts_break_nothing.ensures
    c.fails_exactly_where_nothing_is_spelled.ensures.nowhere _ _ _ does _ request _ _ _
    (ap asked_of (sym c.in-Thin.is))
    (c.thin_files-said.result, c.of_text-in-Thin.ensures, rw c.last_of-in-Thin.ensures at c.thin_files-said.ensures) refl
    (those_of _ _ c.report_on-in-Thin.ensures.texts) c.report_on-in-Thin.ensures.codes
    c.report_on-in-Thin.ensures.reported (remarked_after request _ _ _ c.new-in-Thin.ensures.items c.report_on-in-Thin.ensures.remarked)

pub returns-in-Run-default-true-default-default-clause-answers : goal.returns-in-Run-default-true-default-default-clause-answers
returns-in-Run-default-true-default-default-clause-answers g c =
    let request = Run c.in-Run-default-true-default-default.workers.count c.in-Run-default-true-default-default.quiet
    c.in-Run-default-true-default-default.script.now (map (λ name. name.now) c.in-Run-default-true-default-default.files.items) in
    let does =
    Does (c.args.pictures.now ≡ c.args.pictures.now) (g.P.Pictures.done c.args.pictures.now)
    (g.P.Pictures.done c.args.pictures.now) in
    answers_of c.covered_texts_break_nothing.ensures c.driven_texts_break_nothing.ensures
    c.fails_exactly_where_nothing_is_spelled.ensures.nowhere _ _ _ does _ request _ _
    _ (ap asked_of (sym c.in-Run-default-true-default-default.is))
    (c.run_files-said.result, c.of_run.ensures, rw c.as_slice-files.ensures.value at c.run_files-said.ensures) refl
    (those_of _ _ c.report_on-in-Run-default-true-default-default.ensures.texts)
    c.report_on-in-Run-default-true-default-default.ensures.codes
    c.report_on-in-Run-default-true-default-default.ensures.reported (remarked_after request _ _ _
    c.new-in-Run-default-true-default-default.ensures.items c.report_on-in-Run-default-true-default-default.ensures.remarked)

pub returns-in_ok-tell_deadlock-in-Run-clause-answers : goal.returns-in_ok-tell_deadlock-in-Run-clause-answers
returns-in_ok-tell_deadlock-in-Run-clause-answers g c =
    let request = Run c.in-Run.workers.count c.in-Run.quiet c.in-Run.script.now (map (λ name. name.now) c.in-Run.files.items) in
    let does =
    Does (c.args.pictures.now ≡ c.args.pictures.now) (g.P.Pictures.done c.args.pictures.now)
    (g.P.Pictures.done c.args.pictures.now) in
    answers_of c.covered_texts_break_nothing.ensures c.driven_texts_break_nothing.ensures
    c.fails_exactly_where_nothing_is_spelled.ensures.nowhere _ _ _ does _ request _ _
    _ (ap asked_of (sym c.in-Run.is))
    (c.run_files-said-in-Run.result, c.of_run-in-Run.ensures, rw c.as_slice.ensures.value at c.run_files-said-in-Run.ensures) refl
    (those_of _ _ c.report_on-in-Run.ensures.texts) c.report_on-in-Run.ensures.codes c.report_on-in-Run.ensures.reported
    (remarked_after request _ _ _ c.new-in-Run.ensures.items c.report_on-in-Run.ensures.remarked)

pub returns-in-Replay-clause-answers : goal.returns-in-Replay-clause-answers
returns-in-Replay-clause-answers g c =
    let request = Replay c.in-Replay.journal.now (map (λ name. name.now) c.in-Replay.files.items) in
    let said = rw c.as_slice-files-in-Replay.ensures.value at c.replay_files-said.ensures in
    let does =
    Does (c.args.pictures.now ≡ c.args.pictures.now) (g.P.Pictures.done c.args.pictures.now)
    (g.P.Pictures.done c.args.pictures.now) in
    answers_of c.covered_texts_break_nothing.ensures c.driven_texts_break_nothing.ensures
    c.fails_exactly_where_nothing_is_spelled.ensures.nowhere _ _ _ does _ request _ _
    _ (ap asked_of (sym c.in-Replay.is)) (c.replay_files-said.result, c.of_run-in-Replay.ensures, said.1) refl
    (those_after _ _ _ c.replay_files-said.result _ _ c.of_run-in-Replay.ensures c.report_on-in-Replay.ensures.texts
    c.report_on-in-Replay.ensures.journal said.2)
    c.report_on-in-Replay.ensures.codes c.report_on-in-Replay.ensures.reported
    (remarked_after request _ _ _ c.new-in-Replay.ensures.items c.report_on-in-Replay.ensures.remarked)

pub returns-in_ok-before-in-Show-clause-answers : goal.returns-in_ok-before-in-Show-clause-answers
returns-in_ok-before-in-Show-clause-answers g c =
    let request = Show c.in-Show.timeline (option_map (λ name. name.now) c.in-Show.picture) c.in-Show.journal.now
    (map (λ name. name.now) c.in-Show.files.items) in
    let said = rw c.as_slice-files-in-Show.ensures.value at c.show_files-said.ensures.said in
    let does =
    Does (c.show_files-said.new.pictures ≡ c.args.pictures.now) (g.P.Pictures.done c.args.pictures.now)
    (g.P.Pictures.done c.show_files-said.new.pictures) in
    answers_of c.covered_texts_break_nothing.ensures c.driven_texts_break_nothing.ensures
    c.fails_exactly_where_nothing_is_spelled.ensures.nowhere _ _ _ does _ request _ _
    _ (ap asked_of (sym c.in-Show.is)) (c.show_files-said.result, c.of_run-in-Show.ensures, said.1)
    (kept_shown (g.P.Pictures.written c.show_files-said.new.pictures) does c.in-Show.timeline
    (option_map (λ name. name.now) c.in-Show.picture) c.in-Show.journal.now (map (λ name. name.now) c.in-Show.files.items) said.0 _
    c.show_files-said.result _ c.of_run-in-Show.ensures c.show_files-said.ensures.drawn)
    (those_after _ _ _ c.show_files-said.result _ _ c.of_run-in-Show.ensures c.report_on-in-Show.ensures.texts
    c.report_on-in-Show.ensures.journal said.2)
    c.report_on-in-Show.ensures.codes c.report_on-in-Show.ensures.reported
    (remarked_after request _ _ _
    (before_shown _ c.show_files-said.result _ c.of_run-in-Show.ensures c.in_ok-before-in-Show.ensures)
    c.report_on-in-Show.ensures.remarked)

pub returns-in_ok-before-in-Show-clause-quiet : goal.returns-in_ok-before-in-Show-clause-quiet
returns-in_ok-before-in-Show-clause-quiet g c =
    quiet_shown _ _ _ _ (before_shown _ c.show_files-said.result _ c.of_run-in-Show.ensures c.in_ok-before-in-Show.ensures)
    c.report_on-in-Show.ensures.reported c.report_on-in-Show.ensures.quiet

pub returns-in-Extract-clause-answers : goal.returns-in-Extract-clause-answers
returns-in-Extract-clause-answers g c =
    let request = Extract c.in-Extract.map (map (λ name. name.now) c.in-Extract.files.items) in
    let does =
    Does (c.args.pictures.now ≡ c.args.pictures.now) (g.P.Pictures.done c.args.pictures.now)
    (g.P.Pictures.done c.args.pictures.now) in
    answers_of c.covered_texts_break_nothing.ensures c.driven_texts_break_nothing.ensures
    c.fails_exactly_where_nothing_is_spelled.ensures.nowhere _ _ _ does _ request _ _ _
    (ap asked_of (sym c.in-Extract.is))
    (c.extract_files-said.result, c.of_text-in-Extract.ensures, rw c.as_slice-in-Extract.ensures.value at c.extract_files-said.ensures) refl
    (those_of _ _ c.report_on-in-Extract.ensures.texts) c.report_on-in-Extract.ensures.codes c.report_on-in-Extract.ensures.reported
    (remarked_after request _ _ _ c.new-in-Extract.ensures.items c.report_on-in-Extract.ensures.remarked)

pub returns-in-Pages-clause-answers : goal.returns-in-Pages-clause-answers
returns-in-Pages-clause-answers g c =
    let request = Pages (map (λ name. name.now) c.in-Pages.names.items) in
    let does =
    Does (c.args.pictures.now ≡ c.args.pictures.now) (g.P.Pictures.done c.args.pictures.now)
    (g.P.Pictures.done c.args.pictures.now) in
    answers_of c.covered_texts_break_nothing.ensures c.driven_texts_break_nothing.ensures
    c.fails_exactly_where_nothing_is_spelled.ensures.nowhere _ _ _ does _ request _ _ _
    (ap asked_of (sym c.in-Pages.is)) (
      c.pages_of-said.result,
      c.of_explain.ensures,
      says_of_pages _ _ _ _ (ap (map (λ t. t.items)) c.new-contents.ensures.texts)
          (rw c.as_slice-in-Pages.ensures.value at c.pages_of-said.ensures),
    ) refl
    (those_of _ _ c.report_on-in-Pages.ensures.texts) c.report_on-in-Pages.ensures.codes c.report_on-in-Pages.ensures.reported
    (remarked_after request _ _ _ c.new-in-Pages.ensures.items c.report_on-in-Pages.ensures.remarked)

pub returns-in-Emit-clause-answers : goal.returns-in-Emit-clause-answers
returns-in-Emit-clause-answers g c =
    let request = Emit c.in-Emit.part c.in-Emit.file.now (option_map (λ name. name.now) c.in-Emit.cert) in
    let does =
    Does (c.args.pictures.now ≡ c.args.pictures.now) (g.P.Pictures.done c.args.pictures.now)
    (g.P.Pictures.done c.args.pictures.now) in
    answers_of c.covered_texts_break_nothing.ensures c.driven_texts_break_nothing.ensures
    c.fails_exactly_where_nothing_is_spelled.ensures.nowhere _ _ _ does _ request _ _ _
    (ap asked_of (sym c.in-Emit.is))
    (c.emit_files-said.result, c.of_text-in-Emit.ensures, c.emit_files-said.ensures) refl (those_of _ _ c.report_on-in-Emit.ensures.texts)
    c.report_on-in-Emit.ensures.codes
    c.report_on-in-Emit.ensures.reported (remarked_after request _ _ _ c.new-in-Emit.ensures.items c.report_on-in-Emit.ensures.remarked)

pub returns-in_ok-before-in-EmitInto-clause-answers : goal.returns-in_ok-before-in-EmitInto-clause-answers
returns-in_ok-before-in-EmitInto-clause-answers g c =
    let request = EmitInto c.in-EmitInto.folder.now c.in-EmitInto.is_forced c.in-EmitInto.file.now (option_map (λ name. name.now) c.in-EmitInto.cert) in
    let does =
    Does (c.emit_files_into-said.new.pictures ≡ c.args.pictures.now) (g.P.Pictures.done c.args.pictures.now)
    (g.P.Pictures.done c.emit_files_into-said.new.pictures) in
    answers_of c.covered_texts_break_nothing.ensures c.driven_texts_break_nothing.ensures
    c.fails_exactly_where_nothing_is_spelled.ensures.nowhere _ _ _ does _ request _ _ _
    (ap asked_of (sym c.in-EmitInto.is))
    (c.emit_files_into-said.result, c.of_text-in-EmitInto.ensures, c.emit_files_into-said.ensures.said)
    (c.emit_files_into-said.result, c.of_text-in-EmitInto.ensures, c.emit_files_into-said.ensures.put)
    (those_of _ _ c.report_on-in-EmitInto.ensures.texts) c.report_on-in-EmitInto.ensures.codes c.report_on-in-EmitInto.ensures.reported
    (remarked_after request _ _ _
    (c.emit_files_into-said.result, c.of_text-in-EmitInto.ensures, c.in_ok-before-in-EmitInto.ensures)
    c.report_on-in-EmitInto.ensures.remarked)

pub returns-in_ok-before-in-EmitInto-clause-quiet : goal.returns-in_ok-before-in-EmitInto-clause-quiet
returns-in_ok-before-in-EmitInto-clause-quiet g c =
    never_quiet _ _ _ _ _ (ap asked_of (sym c.in-EmitInto.is)) _

pub returns-in-Serve-clause-answers : goal.returns-in-Serve-clause-answers
returns-in-Serve-clause-answers g c =
    let does =
    Does (c.args.pictures.now ≡ c.args.pictures.now) (g.P.Pictures.done c.args.pictures.now)
    (g.P.Pictures.done c.args.pictures.now) in
    answers_of c.covered_texts_break_nothing.ensures c.driven_texts_break_nothing.ensures
    c.fails_exactly_where_nothing_is_spelled.ensures.nowhere _ _ _ does _ Serve _ c.unserved.result _
    (ap asked_of (sym c.in-Serve.is)) c.unserved.ensures refl
    (those_of _ _ c.report_on-in-Serve.ensures.texts) c.report_on-in-Serve.ensures.codes c.report_on-in-Serve.ensures.reported
    (remarked_after Serve _ _ _ c.new-in-Serve.ensures.items c.report_on-in-Serve.ensures.remarked)

pub returns-in-Explain-clause-answers : goal.returns-in-Explain-clause-answers
returns-in-Explain-clause-answers g c =
    answers_asked _ _ (ap asked_of (sym c.in-Explain.is)) c.args.coloured _ _ _ _
    (rw c.as_slice-files-in-Explain.ensures.value at (c.report_on_files.ensures.answered c.in-Explain.colour c.args.coloured
    (choice_of c.in-Explain.warnings) c.is_coloured.ensures c.options_of.ensures
    (rw c.as_slice-in-Explain.ensures.value refl)))

pub returns-in-Explain-clause-quiet : goal.returns-in-Explain-clause-quiet
returns-in-Explain-clause-quiet g c =
    quiet_asked _ _ (ap asked_of (sym c.in-Explain.is)) _
    (rw c.as_slice-files-in-Explain.ensures.value at
    (c.report_on_files.ensures.quiet c.in-Explain.colour (choice_of c.in-Explain.warnings)))

pub returns-in-Explain-clause-memory : goal.returns-in-Explain-clause-memory
returns-in-Explain-clause-memory g c =
    cut_asked _ _ (ap asked_of (sym c.in-Explain.is)) _ _ _ _
    (rw (c.as_slice-files-in-Explain.ensures.value, c.as_slice-in-Explain.ensures.value, c.options_of.ensures)
    at c.report_on_files.ensures.memory)

pub returns-in-Explain-clause-held : goal.returns-in-Explain-clause-held
returns-in-Explain-clause-held g c = held_asked _ _ (ap asked_of (sym c.in-Explain.is)) _ _ c.report_on_files.ensures.held

pub returns-in-Format-clause-answers : goal.returns-in-Format-clause-answers
returns-in-Format-clause-answers g c =
    answers_asked _ _ (ap asked_of (sym c.in-Format.is)) c.args.coloured _ _ _ _
    (rw c.as_slice-files-in-Format.ensures.value at (c.report_on_layouts.ensures.answered c.args.coloured))

pub returns-in-Compare-clause-answers : goal.returns-in-Compare-clause-answers
returns-in-Compare-clause-answers g c =
    let request = Compare (map (λ name. name.now) c.in-Compare.files.items) in
    let does =
    Does (c.args.pictures.now ≡ c.args.pictures.now) (g.P.Pictures.done c.args.pictures.now)
    (g.P.Pictures.done c.args.pictures.now) in
    answers_of c.covered_texts_break_nothing.ensures c.driven_texts_break_nothing.ensures
    c.fails_exactly_where_nothing_is_spelled.ensures.nowhere _ _ _ does _ request _ _ _
    (ap asked_of (sym c.in-Compare.is))
    (c.compare_files-said.result, c.of_text-in-Compare.ensures, rw c.as_slice-in-Compare.ensures.value at c.compare_files-said.ensures)
    refl
    (those_of _ _ c.report_on-in-Compare.ensures.texts) c.report_on-in-Compare.ensures.codes c.report_on-in-Compare.ensures.reported
    (remarked_after request _ _ _ c.new-in-Compare.ensures.items c.report_on-in-Compare.ensures.remarked)

pub returns-in-Functions-clause-answers : goal.returns-in-Functions-clause-answers
returns-in-Functions-clause-answers g c =
    let request = Functions (map (λ text. text.now) c.in-Functions.defined.items) (map (λ name. name.now) c.in-Functions.undefined.items)
    (map (λ name. name.now) c.in-Functions.folders.items) (map (λ name. name.now) c.in-Functions.files.items) in
    let does =
    Does (c.args.pictures.now ≡ c.args.pictures.now) (g.P.Pictures.done c.args.pictures.now)
    (g.P.Pictures.done c.args.pictures.now) in
    answers_of c.covered_texts_break_nothing.ensures c.driven_texts_break_nothing.ensures
    c.fails_exactly_where_nothing_is_spelled.ensures.nowhere _ _ _ does _ request _ _ _
    (ap asked_of (sym c.in-Functions.is)) (
      c.list_functions-said.result,
      c.of_text-in-Functions.ensures,
      rw (
        c.as_slice-in-Functions.ensures.value,
        c.as_slice-in-Functions-2.ensures.value,
        c.as_slice-in-Functions-3.ensures.value,
        c.as_slice-in-Functions-4.ensures.value,
      ) at c.list_functions-said.ensures,
    )
    refl
    (those_of _ _ c.report_on-in-Functions.ensures.texts) c.report_on-in-Functions.ensures.codes c.report_on-in-Functions.ensures.reported
    (remarked_after request _ _ _ c.new-in-Functions.ensures.items c.report_on-in-Functions.ensures.remarked)

pub returns-in-Explain-clause-untouched : goal.returns-in-Explain-clause-untouched
returns-in-Explain-clause-untouched g c =
    by_explain _ _ _ c.in-Explain.form c.in-Explain.colour c.in-Explain.search c.in-Explain.journal (choice_of c.in-Explain.warnings)
    c.in-Explain.is_c _ (ap asked_of (sym c.in-Explain.is)) c.report_on_files.ensures.untouched

pub returns-in-Format-clause-untouched : goal.returns-in-Format-clause-untouched
returns-in-Format-clause-untouched g c =
    by_format _ _ _ c.in-Format.mode _ (ap asked_of (sym c.in-Format.is)) c.report_on_layouts.ensures.untouched

pub returns-in_ok-before-in-Show-clause-untouched : goal.returns-in_ok-before-in-Show-clause-untouched
returns-in_ok-before-in-Show-clause-untouched g c =
    by_show _ _ _ (g.P.Pictures.done c.args.pictures.now) (g.P.Pictures.done c.show_files-said.new.pictures)
    (g.P.Pictures.written c.show_files-said.new.pictures) c.in-Show.timeline c.in-Show.picture c.in-Show.journal.now _
    (map (λ text. text.items) c.show_files-said.new.contents.texts.items) c.show_files-said.result
    (ap asked_of (sym c.in-Show.is)) c.show_files-said.ensures.drawn

pub returns-in_err-before-in-Show-clause-untouched : goal.returns-in_err-before-in-Show-clause-untouched
returns-in_err-before-in-Show-clause-untouched g c =
    by_show _ _ _ (g.P.Pictures.done c.args.pictures.now) (g.P.Pictures.done c.show_files-said.new.pictures)
    (g.P.Pictures.written c.show_files-said.new.pictures) c.in-Show.timeline c.in-Show.picture c.in-Show.journal.now _
    (map (λ text. text.items) c.show_files-said.new.contents.texts.items) c.show_files-said.result
    (ap asked_of (sym c.in-Show.is)) c.show_files-said.ensures.drawn

pub returns-in_ok-before-in-EmitInto-clause-untouched : goal.returns-in_ok-before-in-EmitInto-clause-untouched
returns-in_ok-before-in-EmitInto-clause-untouched g c = by_emit _ _ _ _ _ _ _ (ap asked_of (sym c.in-EmitInto.is))

pub returns-in_err-before-in-EmitInto-clause-untouched : goal.returns-in_err-before-in-EmitInto-clause-untouched
returns-in_err-before-in-EmitInto-clause-untouched g c = by_emit _ _ _ _ _ _ _ (ap asked_of (sym c.in-EmitInto.is))
