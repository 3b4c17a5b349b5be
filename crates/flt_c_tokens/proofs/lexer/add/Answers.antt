use Rattle.std.proofs.Common.{◌≡◌, [], ◌∷◌, ◌++◌, ap, refl, subst, ◌∙◌}
use Rattle.std.specs.Prelude.{IfOk, MatchResult}
use Rattle.flt_c_tokens.specs.Tokens.{Adds, IsFull, sign_kind, token_at}
use Rattle.flt_c_tokens.specs.declared.piece.Part.TheVariants.{Blank, Feed, Sign}
use Rattle.flt_c_tokens.proofs.Cut.{feed_adds, nothing_adds, part_adds, sign_adds, word_piece}
use Rattle.flt_c_tokens.proofs.lexer.add.Goals as goal

pub returns-in_ok-end_line-in-Feed-clause-added : goal.returns-in_ok-end_line-in-Feed-clause-added
returns-in_ok-end_line-in-Feed-clause-added c =
    part_adds c.args.spellings.now c.args.spellings.now c.args.found.now.items c.end_line.new.found.items c.args.at c.args.piece Feed
    c.args.z.now c.in-Feed.is
    (feed_adds c.args.spellings.now c.args.spellings.now c.args.found.now.items c.end_line.new.found.items c.args.at c.requires.known refl
    c.in_ok-end_line-in-Feed.ensures)

pub returns-in_ok-push-in-Sign-clause-added : goal.returns-in_ok-push-in-Sign-clause-added
returns-in_ok-push-in-Sign-clause-added c =
    part_adds c.args.spellings.now c.args.spellings.now c.args.found.now.items c.push.new.self.items c.args.at c.args.piece
    (Sign c.in-Sign.kind) c.args.z.now c.in-Sign.is
    (sign_adds c.args.spellings.now c.args.spellings.now c.args.found.now.items c.push.new.self.items c.args.at
    (sign_kind c.args.at c.in-Sign.kind) c.requires.known refl
    (c.in_ok-push-in-Sign.ensures.items
    ∙ ap (λ t. c.args.found.now.items ++ t ∷ [])
    (c.token.ensures ∙ ap (λ kind. token_at c.args.at kind 0) c.sign_kind.ensures)))

pub returns-in-Blank-clause-added : goal.returns-in-Blank-clause-added
returns-in-Blank-clause-added c =
    part_adds c.args.spellings.now c.args.spellings.now c.args.found.now.items c.args.found.now.items c.args.at c.args.piece Blank
    c.args.z.now c.in-Blank.is
    (nothing_adds c.args.spellings.now c.args.spellings.now c.args.found.now.items c.args.found.now.items refl refl)

pub returns-in-Word-clause-added : goal.returns-in-Word-clause-added
returns-in-Word-clause-added c =
    let known = c.args.spellings.now in
    let next = c.add_word.new.spellings in
    let ts = c.args.found.now.items in
    let us = c.add_word.new.found.items in
    subst
    (λ xs. IfOk c.add_word.result
    (λ done. MatchResult done (λ _. Adds known next xs ts us) (λ excess. (next ≡ known) × IsFull known xs excess)))
    (word_piece c.args.at c.args.piece c.in-Word.kind c.args.z.now c.in-Word.is) c.add_word.ensures.added
