use Rattle.flt_words.proofs.BuiltCommands.{with_texts}
use Rattle.flt_words.proofs.program.bare_replay.Goals as goal

pub returns : goal.returns
returns c =
    with_texts _ _ _ _ _ _ _ _ (c.new.ensures.app, c.new.ensures.local) c.about.ensures c.override_usage.ensures c.after_help.ensures
