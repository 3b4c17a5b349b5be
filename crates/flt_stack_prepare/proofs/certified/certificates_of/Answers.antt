use Rattle.std.proofs.Common.{◌≡◌, ◌∷◌, ◌++◌, [], rules, refl, subst, sym}
use Rattle.std.proofs.lemmas.Iterator.Adapters.{YieldsList-from_vec}
use Rattle.std.proofs.lemmas.Iterator.Consumers.{YieldsList-so_far, YieldsList-turn}
use Rattle.std.proofs.lemmas.Slice.Zip.{all_zipped_more}
use Rattle.flt_cert.specs.declared.cert.Cert.TheVariants.{Full}
use Rattle.flt_stack_prepare.proofs.Answered.{first_err}
use Rattle.flt_stack_prepare.specs.Certified.{IsGiven}
use Rattle.flt_stack_prepare.proofs.certified.certificates_of.Goals as goal

pub answers-preserved : goal.answers-preserved
answers-preserved c =
    let pushed : c.push.new.self.items ≡ c.answers.certificates.items ++ Full c.in-Ok.certificate ∷ [] = c.in_ok-push-in-Ok.ensures.items in
    rw pushed (all_zipped_more IsGiven c.answers.yielded c.answers.certificates.items c.in-Some.answer (Full c.in-Ok.certificate)
    c.answers.invariant
    (subst (λ a. IsGiven a (Full c.in-Ok.certificate)) (sym c.in-Ok.is) (refl, c.callbacks-points.ensures.certificate)))

pub returns-in-Err-clause-err : goal.returns-in-Err-clause-err
returns-in-Err-clause-err c =
    let road = YieldsList-from_vec {s = c.into_iter-answer-iterator.result} c.args.answers.items (search rules) (search rules) in
    let turn = YieldsList-turn road c.answers.yielded _ c.answers.yielded_by _ c.next.new.self c.in-Some.answer
    c.in-Some.is c.next.ensures.steps in
    first_err c.args.answers.items c.answers.yielded c.answers.certificates.items c.len-file.result c.in-Some.answer c.in-Err.refusal
    c.answers.invariant (search rules) (YieldsList-so_far road c.answers.yielded _ c.answers.yielded_by) turn c.in-Err.is
