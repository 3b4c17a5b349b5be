-- What is made of parts of an expression, of which some may be missing.
use Rattle.std.specs.Prelude.{List, [], ◌∷◌}
use Rattle.flt_c_syntax.specs.declared.tree.Expression.{Expression}
use Rattle.flt_c_syntax.specs.declared.tree.Expression.TheVariants as made
use Rattle.flt_c_syntax.specs.declared.tree.Link.{Link}
use Rattle.flt_c_syntax.specs.declared.tree.Place.{Place}
use Rattle.flt_c_syntax.specs.declared.tree.Prefix.{Prefix}
use Rattle.flt_c_syntax.specs.declared.tree.Suffix.{Suffix}

-- prefixes before an operand
abbrev pub prefixed : Place → List Prefix → Expression → Expression
prefixed at [] e = e
prefixed at (p ∷ ps) e = made.Prefixed at (p ∷ ps) e

-- suffixes behind one
abbrev pub suffixed : Place → Expression → List Suffix → Expression
suffixed at e [] = e
suffixed at e (s ∷ ss) = made.Suffixed at e (s ∷ ss)

-- operators and operands behind one
abbrev pub linked : Place → Expression → List Link → Expression
linked at e [] = e
linked at e (l ∷ ls) = made.Linked at e (l ∷ ls)
