-- The texts that parse, one more at a time.
use Rattle.std.proofs.Common.{List, [], ◌∷◌, ◌++◌, subst, sym}
use Rattle.std.proofs.lemmas.List.{map-append}
use Rattle.flt_syntax.specs.Spelling.{Spells}
use Rattle.flt_syntax.specs.TextFails.{Fails}
use Rattle.flt_syntax.specs.declared.fault.SyntaxFault.{SyntaxFault}
use Rattle.flt_model.specs.Program.{filters_of}
use Rattle.flt_tree.specs.declared.filter.Filter.{Filter}
use Rattle.flt_tree.specs.declared.tree.Tree.{Tree}
use Rattle.flt_explain_outcomes.specs.Parsed.{AreParsed}
use Rattle.flt_explain_outcomes.specs.Parsed.AreParsed.{none, parses, fails}
use Rattle.flt_files.specs.Inputs.{Text}

-- one more text parses
one_parsed : {texts : List Text} {filters : List Filter} {t : Text} {f : Filter} → AreParsed texts filters → Spells t f →
    AreParsed (texts ++ t ∷ []) (filters ++ f ∷ [])
one_parsed none is = parses is none
one_parsed (parses s rest) is = parses s (one_parsed rest is)
one_parsed (fails e rest) is = fails e (one_parsed rest is)

-- the same, with its tree
pub tree_parsed : {texts : List Text} {t : Text} (trees : List Tree) (tree : Tree) →
    AreParsed texts (filters_of trees) → Spells t tree.filter →
    AreParsed (texts ++ t ∷ []) (filters_of (trees ++ tree ∷ []))
tree_parsed {texts} {t} trees tree are is =
    subst (λ fs. AreParsed (texts ++ t ∷ []) fs) (sym (map-append (λ (u : Tree). u.filter) trees (tree ∷ []))) (one_parsed are is)

-- one more text doesn't
pub one_failed : {texts : List Text} {filters : List Filter} {t : Text} {e : SyntaxFault} → AreParsed texts filters → Fails t e →
    AreParsed (texts ++ t ∷ []) filters
one_failed none is = fails is none
one_failed (parses s rest) is = parses s (one_failed rest is)
one_failed (fails e rest) is = fails e (one_failed rest is)
