use Rattle.std.proofs.Common.{map, take, sym, ap, subst, ◌∙◌, ◌≡◌, arith}
use Rattle.std.proofs.lemmas.List.{take-map}
use Rattle.flt_c_tokens.specs.Spelled.{Knows, first_texts}
use Rattle.flt_c_tokens.proofs.Spelling.{first_known}
use Rattle.flt_c_tokens.proofs.spellings.Spellings.truncate.Goals as goal

pub invariant_of-self : goal.invariant_of-self
unfolding first_texts
invariant_of-self c =
    let keys = c.self.inside.texts.keys in
    let view : map (λ t. t.items) c.truncate.new.self.keys ≡ first_texts c.args.count (map (λ t. t.items) keys) =
    ap (map (λ t. t.items)) c.truncate.ensures.keys ∙ sym (take-map (λ t. t.items) c.with_words-kept.result keys)
    ∙ ap (λ n. take n (map (λ t. t.items) keys)) c.with_words-kept.ensures in (
      subst Knows (sym view) (first_known c.args.count (map (λ t. t.items) keys) c.self.invariant.0),
      omega (arith, c.truncate.ensures.len, c.self.invariant.1),
    )

pub returns : goal.returns
unfolding first_texts
returns c =
    let keys = c.self.inside.texts.keys in
    ap (map (λ t. t.items)) c.truncate.ensures.keys ∙ sym (take-map (λ t. t.items) c.with_words-kept.result keys)
    ∙ ap (λ n. take n (map (λ t. t.items) keys)) c.with_words-kept.ensures ∙ ap (first_texts c.args.count) c.self.view_is
