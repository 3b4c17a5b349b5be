use Rattle.flt_words.proofs.BuiltCommands.{with_last_argument, with_texts}
use Rattle.flt_words.proofs.program.analyse_command.Goals as goal

pub returns : goal.returns
returns c =
    let told = with_texts _ _ _ _ _ _ _ _ (c.new.ensures.app, c.new.ensures.local) c.about.ensures
    c.override_usage.ensures c.after_help.ensures in
    with_last_argument _ _ _ _ told c.text_argument.ensures.rule c.text_argument.ensures.own c.arg.result c.arg.ensures
