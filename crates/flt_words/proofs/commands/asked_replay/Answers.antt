use Rattle.std.proofs.Common.{◌≡◌, codes, ◌∙◌, ap, sym, Some, option_map}
use Rattle.clap.specs.Walk.{rows_of}
use Rattle.clap.specs.Matches.{found_of}
use Rattle.flt_words.specs.Commands.{replay_by}
use Rattle.flt_words.specs.Values.{files_of, is_set, text_of, written_of}
use Rattle.flt_words.proofs.commands.asked_replay.Goals as goal

pub returns : goal.returns
returns c =
    let rows = rows_of (found_of c.args.replay.now) in
    let picture : Some (option_map (λ s. s.now) c.in-Some.picture) ≡ written_of (codes "svg") rows =
    sym (ap (option_map (λ file. option_map (λ s. s.now) file)) c.in-Some.is) ∙ c.written_of.ensures in
    rw (c.replay_by.ensures, c.is_set.ensures, c.text_of.ensures, c.in_ok-files.ensures)
    (ap (option_map (λ file. replay_by (is_set (codes "timeline") rows) file (text_of (codes "JOURNAL") rows) (files_of rows))) picture)
