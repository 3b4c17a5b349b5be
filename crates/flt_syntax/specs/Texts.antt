-- Several texts, and the filters that they spell. This project's own definitions.
use Rattle.std.specs.Prelude.{◌≡◌, ℕ, List, ◌∷◌, ◌++◌, length}
use Rattle.std.specs.List.{AllZip}
use Rattle.flt_syntax.specs.Spelling.{Spells}
use Rattle.flt_syntax.specs.TextFails.{Fails}
use Rattle.flt_syntax.specs.declared.fault.SyntaxFault.{SyntaxFault}
use Rattle.flt_syntax.specs.declared.texts.TextsFault.{TextsFault}
use Rattle.flt_syntax.specs.declared.texts.TextsFault.TheVariants.{OutOfMemory, Syntax}
use Rattle.flt_tree.specs.Names.{Text}
use Rattle.flt_tree.specs.declared.filter.Filter.{Filter}

-- each text spells its filter
abbrev pub AreSpelled : List Text → List Filter → Type 0
AreSpelled = AllZip Spells

-- the first text with a fault, by its number, and its fault
pub record IsSyntaxFault (texts : List Text) (number : ℕ) (f : SyntaxFault) : Type 0 where
  pub before : List Text
  pub text : Text
  pub after : List Text
  pub parts : texts ≡ before ++ text ∷ after
  pub filters : List Filter
  pub spelled : AreSpelled before filters
  pub counted : number ≡ length before
  pub fault : Fails text f

-- memory ran out, or the texts have this fault
abbrev pub TextsFail : List Text → TextsFault → Type 0
TextsFail texts OutOfMemory = Unit {0}
TextsFail texts (Syntax number f) = IsSyntaxFault texts number f
