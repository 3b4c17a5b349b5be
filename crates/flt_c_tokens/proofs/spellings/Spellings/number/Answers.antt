use Rattle.std.proofs.Common.{rules, map, length, sym, ap, ◌∙◌, ◌≡◌, ◌<◌, ◌^◌, arith}
use Rattle.std.proofs.lemmas.List.{length-map}
use Rattle.flt_c_tokens.specs.Spelled.{max_spellings}
use Rattle.flt_c_tokens.proofs.Spelling.{number_within}
use Rattle.flt_c_tokens.proofs.Texts.{added_knows, added_length, added_numbered, full_numbered}
use Rattle.flt_c_tokens.proofs.spellings.Spellings.number.Goals as goal

pub returns-then-len-ge-MAX_SPELLINGS-clause-number : goal.returns-then-len-ge-MAX_SPELLINGS-clause-number
returns-then-len-ge-MAX_SPELLINGS-clause-number c =
    let keys = c.self.inside.texts.keys in
    let long : length c.args.self.now ≡ length keys = sym (ap length c.self.view_is) ∙ length-map keys (λ t. t.items) in
    let full : length c.args.self.now ≡ max_spellings =
    omega (arith, c.if-len-ge-MAX_SPELLINGS.true, c.len.ensures.len, c.self.invariant.1) in
    full_numbered c.args.self.now c.args.text.now c.number_of.result full c.number_of.ensures

pub overflow_cast-result : goal.overflow_cast-result
overflow_cast-result c =
    let old = map (λ t. t.items) c.self.inside.texts.keys in
    let long = length-map c.self.inside.texts.keys (λ t. t.items) in
    let within = number_within old c.args.text.now in
    let fits : c.in_ok-number.number < 2 ^ 32 = omega (arith, c.in_ok-number.ensures.place, c.self.invariant.1) in
    search (rules, fits)

pub invariant_of-self-2 : goal.invariant_of-self-2
invariant_of-self-2 c =
    let old = map (λ t. t.items) c.self.inside.texts.keys in
    let next = map (λ t. t.items) c.add.new.texts.keys in
    let long = length-map c.self.inside.texts.keys (λ t. t.items) in
    let longer = length-map c.add.new.texts.keys (λ t. t.items) in
    let one_more = added_length old next c.args.text.now c.in_ok-number.ensures.texts in (
      added_knows old next c.args.text.now c.self.invariant.0 c.in_ok-number.ensures.texts,
      omega (arith, c.if-len-ge-MAX_SPELLINGS.false, c.len.ensures.len),
    )

pub returns-clause-number : goal.returns-clause-number
returns-clause-number c =
    added_numbered c.args.self.now (map (λ t. t.items) c.self.inside.texts.keys) (map (λ t. t.items) c.add.new.texts.keys)
    c.args.text.now c.in_ok-number.number c.self.view_is c.self.invariant.0 c.in_ok-number.ensures.texts c.in_ok-number.ensures.place
