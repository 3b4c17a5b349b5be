use Rattle.std.proofs.Common.{◌≡◌, codes, ◌∙◌, refl, option_map}
use Rattle.clap.proofs.WalkLemmas.{first_value-rows}
use Rattle.clap.specs.Walk.{rows_of, first_of}
use Rattle.clap.specs.Matches.{found_of}
use Rattle.flt_words.proofs.commands.emit_with.Goals as goal

pub returns : goal.returns
returns c =
    let found = found_of c.args.emit.now in
    let cert : option_map (λ s. s.now) c.get_str.result ≡ first_of (codes "CERT") (rows_of found) = c.get_str.ensures
    ∙ first_value-rows found (codes "CERT") in
    rw (c.text_of.ensures, cert) refl
