use Rattle.flt_c_tokens.proofs.Texts.{found_in, missing_in}
use Rattle.flt_c_tokens.proofs.spellings.Spellings.number_of.Goals as goal

pub returns-in-Some : goal.returns-in-Some
returns-in-Some c =
    found_in (λ t. t.items) c.args.text.now c.self.inside.texts.keys c.args.self.now c.in-Some.number c.self.view_is c.self.invariant.0
    c.in-Some.ensures.index c.in-Some.ensures.found

pub returns-in-None : goal.returns-in-None
returns-in-None c =
    missing_in (λ t. t.items) c.args.text.now c.self.inside.texts.keys c.args.self.now c.self.view_is c.in-None.ensures.found
