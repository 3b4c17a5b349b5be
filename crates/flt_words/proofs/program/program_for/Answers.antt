use Rattle.flt_words.proofs.program.program_for.Goals as goal

pub returns-in-check : goal.returns-in-check
returns-in-check c = rw c.in-check.is (c.program_with.ensures _ c.check_command.ensures)

pub returns-in-analyse : goal.returns-in-analyse
returns-in-analyse c = rw c.in-analyse.is (c.program_with-in-analyse.ensures _ c.analyse_command.ensures)

pub returns-in-thin : goal.returns-in-thin
returns-in-thin c = rw c.in-thin.is (c.program_with-in-thin.ensures _ c.thin_command.ensures)

pub returns-in-explain : goal.returns-in-explain
returns-in-explain c = rw c.in-explain.is (c.program_with-in-explain.ensures _ c.explain_command.ensures)

pub returns-in-run : goal.returns-in-run
returns-in-run c = rw c.in-run.is (c.program_with-in-run.ensures _ c.run_command.ensures)

pub returns-in-replay : goal.returns-in-replay
returns-in-replay c = rw c.in-replay.is (c.program_with-in-replay.ensures _ c.replay_command.ensures)

pub returns-in-extract : goal.returns-in-extract
returns-in-extract c = rw c.in-extract.is (c.program_with-in-extract.ensures _ c.extract_command.ensures)

pub returns-in-format : goal.returns-in-format
returns-in-format c = rw c.in-format.is (c.program_with-in-format.ensures _ c.format_command.ensures)

pub returns-in-emit : goal.returns-in-emit
returns-in-emit c = rw c.in-emit.is (c.program_with-in-emit.ensures _ c.emit_command.ensures)

pub returns-in-compare : goal.returns-in-compare
returns-in-compare c = rw c.in-compare.is (c.program_with-in-compare.ensures _ c.compare_command.ensures)

pub returns-in-draft : goal.returns-in-draft
returns-in-draft c = rw c.in-draft.is (c.program_with-in-draft.ensures _ c.draft_command.ensures)

pub returns-in-serve : goal.returns-in-serve
returns-in-serve c = rw c.in-serve.is (c.program_with-in-serve.ensures _ c.serve_command.ensures)
