use Rattle.std.proofs.Common.{◌<◌, ap, subst, ◌∙◌, false, get_or, length}
use Rattle.flt_c_drift.specs.Flags.{count, is_said, noted}
use Rattle.flt_c_drift.proofs.Flagged.{flag_of, length_of}
use Rattle.flt_c_drift.proofs.flags.is_noted.Goals as goal

pub returns-in-Some : goal.returns-in-Some
returns-in-Some c =
    let question = c.args.question in
    let marks = c.args.marks.now in
    let n = noted (count question) (length marks) in
    let number = c.args.number in
    let many = ap length c.requires ∙ length_of (λ number. is_said question number marks) n in
    c.in-Some.ensures.lookup.3.1 false ∙ ap (λ found. get_or found number false) c.requires
    ∙ flag_of (λ number. is_said question number marks) n number (subst (λ k. number < k) many c.in-Some.ensures.lookup.3.0)
