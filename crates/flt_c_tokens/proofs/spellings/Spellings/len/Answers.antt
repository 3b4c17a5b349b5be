use Rattle.std.proofs.Common.{length, sym, ap, subst, ◌∙◌, ◌≤◌}
use Rattle.std.proofs.lemmas.List.{length-map}
use Rattle.std.specs.List.{IsDistinct}
use Rattle.std.specs.Str.{bytes_eq}
use Rattle.flt_c_tokens.specs.Spelled.{Knows, max_spellings}
use Rattle.flt_c_tokens.proofs.Texts.{distinct_of}
use Rattle.flt_c_tokens.proofs.spellings.Spellings.len.Goals as goal

pub returns-clause-len : goal.returns-clause-len
returns-clause-len c =
    c.len.ensures.len ∙ sym (length-map c.self.inside.texts.keys (λ t. t.items)) ∙ ap length c.self.view_is

pub returns-clause-known : goal.returns-clause-known
returns-clause-known c = subst Knows c.self.view_is c.self.invariant.0

pub returns-clause-few : goal.returns-clause-few
returns-clause-few c = subst (λ n. n ≤ max_spellings) (sym c.len.ensures.len) c.self.invariant.1

pub returns-clause-once : goal.returns-clause-once
returns-clause-once c =
    subst (IsDistinct bytes_eq) c.self.view_is (distinct_of (λ t. t.items) bytes_eq c.self.inside.texts.keys c.len.ensures.unique)
