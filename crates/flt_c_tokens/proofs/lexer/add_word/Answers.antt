use Rattle.std.proofs.Common.{[], ◌∷◌, ◌++◌, ap, ◌∙◌}
use Rattle.flt_c_tokens.specs.Tokens.{token_at}
use Rattle.flt_c_tokens.proofs.Cut.{word_adds}
use Rattle.flt_c_tokens.proofs.lexer.add_word.Goals as goal

pub returns-in-Some-clause-added : goal.returns-in-Some-clause-added
returns-in-Some-clause-added c =
    let i = rw c.in-Some.is at c.in_ok-number.ensures.number in
    word_adds c.args.spellings.now c.number.new.self c.args.found.now.items c.push_reserved.new.self.items c.args.at c.args.kind
    c.args.text.now c.in-Some.number i
    (c.push_reserved.ensures.items ∙ ap (λ ts. ts ++ c.token.result ∷ []) c.in_ok-reserve.ensures.items
    ∙ ap (λ t. c.args.found.now.items ++ t ∷ [])
    (c.token.ensures ∙ ap (λ q. token_at c.args.at q c.in-Some.number) c.spelled_kind.ensures))
