use Rattle.std.proofs.Common.{◌≡◌, ◌∷◌, [], length, ◌∙◌, arith}
use Rattle.flt_explain_origins.specs.Alone.{one_of}
use Rattle.flt_explain_origins.proofs.Nine.{nine}
use Rattle.flt_explain_origins.proofs.situation.contexts_given.Goals as goal

pub returns : goal.returns
returns c =
    let least = c.in-len9.len_at_least in
    let most = c.in-len9.len_below in
    let len : length c.args.sets.now ≡ 9 = omega (arith, least, most) in
    (λ k. c.one_of.ensures k ∷ c.one_of-2.ensures k ∷ c.one_of-3.ensures k ∷ c.one_of-4.ensures k ∷ c.one_of-5.ensures k ∷
    c.one_of-6.ensures k ∷ c.one_of-7.ensures k ∷ c.one_of-8.ensures k ∷ c.one_of-9.ensures k ∷ [])
    ∙ nine (one_of c.args.gives) c.args.sets.now c.a-item.result c.b-item.result c.c-item.result c.d-item.result c.e-item.result
    c.f-item.result c.g-item.result c.h-item.result c.i-item.result len
    c.a-item.is c.b-item.is c.c-item.is c.d-item.is c.e-item.is c.f-item.is c.g-item.is c.h-item.is c.i-item.is
