use Rattle.std.proofs.Common.{◌≡◌}
use Rattle.flt_commands_texts.proofs.Formatting.{formatted_of, kept_formatted}
use Rattle.flt_files.proofs.SomeRead.{read_many}
use Rattle.flt_commands_texts.proofs.format.format_files.Goals as goal
use Rattle.flt_files.specs.Attempts.{Does}

pub file_outcomes-requires : goal.file_outcomes-requires
file_outcomes-requires g c =
    rw (c.as_slice-2.ensures.value, c.as_slice.ensures.value) (read_many _ _ c.in_ok-read.read c.in_ok-read.ensures)

pub returns-clause-said : goal.returns-clause-said
returns-clause-said g c =
    formatted_of _ c.args.mode _ c.in_ok-read.read c.in_ok-files.files c.in_ok-read.ensures
    (rw (c.as_slice.ensures.value, c.as_slice-2.ensures.value) at c.in_ok-files.ensures.are)

pub returns-clause-kept : goal.returns-clause-kept
returns-clause-kept g c =
    kept_formatted (g.P.Pictures.written c.file_outcomes.new.pictures)
    (Does (c.file_outcomes.new.pictures ≡ c.args.pictures.now) (g.P.Pictures.done c.args.pictures.now)
    (g.P.Pictures.done c.file_outcomes.new.pictures))
    c.args.mode (record { files = c.in_ok-files.files; unread = c.in_ok-read.read.unread })
    c.in_ok-files.ensures.done c.in_ok-files.ensures.did
