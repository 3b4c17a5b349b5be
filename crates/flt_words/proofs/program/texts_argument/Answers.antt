use Rattle.std.proofs.Common.{◌≡◌, codes, arith}
use Rattle.std.proofs.lemmas.Grind.{common_steps}
use Rattle.clap.specs.Walk.{rule_of}
use Rattle.flt_words.specs.Program.{texts_rule}
use Rattle.flt_words.proofs.Requests.{many}
use Rattle.flt_words.proofs.program.texts_argument.Goals as goal

pub returns-clause-rule : goal.returns-clause-rule
returns-clause-rule c =
    let taken : rule_of c.num_args.result ≡ texts_rule =
    many c.new.result c.required.result c.num_args.result (codes "FILE") _ c.new.ensures.rule c.required.ensures c.num_args.ensures in
    grind (arith, common_steps)
