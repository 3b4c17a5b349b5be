use Rattle.std.proofs.Common.{ap, ◌∙◌, arith}
use Rattle.std.proofs.lemmas.List.{get_or_read, length-map}
use Rattle.std.specs.Prelude.{None, slice_index_or}
use Rattle.flt_c_headers.specs.World.{World}
use Rattle.flt_c_headers.proofs.Asking.{known_answer, unknown_answer}
use Rattle.flt_c_headers.proofs.headers.Headers.answer.Goals as goal

pub returns-in-Some : goal.returns-in-Some
returns-in-Some c =
    let s = c.self.inside in
    let same = length-map s.asked.keys (λ t. t.items) in
    known_answer (λ t. t.items) s.asked.keys c.args.self.now c.args.name.now c.in-Some.number c.index.result.now
    (ap (λ (h : World). h.asked) c.self.view_is) c.in-Some.ensures.found c.in-Some.ensures.index
    (get_or_read s.answers.items c.in-Some.number c.index.result.now
    (omega (arith, same, c.self.invariant.answered, c.in-Some.ensures.within)) c.index.ensures None
    ∙ ap (λ (h : World). slice_index_or h.answers c.in-Some.number None) c.self.view_is)

pub returns-in-None : goal.returns-in-None
returns-in-None c =
    unknown_answer (λ t. t.items) c.self.inside.asked.keys c.args.self.now c.args.name.now (ap (λ (h : World). h.asked) c.self.view_is)
    c.in-None.ensures.found
