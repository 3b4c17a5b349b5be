use Rattle.std.proofs.Common.{◌≡◌, codes, ◌∙◌, option_map}
use Rattle.clap.proofs.WalkLemmas.{first_value-rows}
use Rattle.clap.specs.Walk.{rows_of, first_of}
use Rattle.clap.specs.Matches.{found_of}
use Rattle.flt_words.proofs.commands.asked_emit.Goals as goal

pub returns : goal.returns
returns c =
    let found = found_of c.args.emit.now in
    let part : option_map (λ s. s.now) c.get_str.result ≡ first_of (codes "part") (rows_of found) = c.get_str.ensures
    ∙ first_value-rows found (codes "part") in
    let folder : option_map (λ s. s.now) c.get_str-2.result ≡ first_of (codes "into") (rows_of found) = c.get_str-2.ensures
    ∙ first_value-rows found (codes "into") in
    rw (part, folder) at c.emit_by.ensures
