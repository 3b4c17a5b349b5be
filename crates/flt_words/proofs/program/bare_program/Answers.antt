use Rattle.flt_words.proofs.BuiltCommands.{with_about, with_after_help, with_no_binary_name, with_subcommand_required, with_version}
use Rattle.flt_words.proofs.program.bare_program.Goals as goal

pub returns : goal.returns
returns c =
    let versioned = with_version _ _ _ (c.new.ensures.app, c.new.ensures.local) _ c.version.ensures in
    let told = with_about _ _ _ _ versioned c.about.ensures in
    let helped = with_after_help _ _ _ _ told c.after_help.ensures in
    let required = with_subcommand_required _ _ _ helped c.subcommand_required.ensures in
    with_no_binary_name _ _ _ required c.no_binary_name.ensures
