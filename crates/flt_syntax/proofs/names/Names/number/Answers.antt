use Rattle.std.proofs.Common.{position, subst, ap, ◌∙◌}
use Rattle.std.specs.List.{IsDistinct}
use Rattle.std.specs.Str.{bytes_eq}
use Rattle.flt_syntax.proofs.Numbers.{number_of, distinct_of}
use Rattle.flt_syntax.proofs.names.Names.number.Goals as goal

pub returns-clause-number : goal.returns-clause-number
returns-clause-number c =
    c.get_index_of.ensures.index ∙ number_of c.args.name.now c.self.inside.set.keys
    ∙ ap (position (bytes_eq c.args.name.now)) c.self.view_is

pub returns-clause-once : goal.returns-clause-once
returns-clause-once c =
    subst (IsDistinct bytes_eq) c.self.view_is (distinct_of (λ k. k.now) bytes_eq c.self.inside.set.keys c.len-count.ensures.unique)
