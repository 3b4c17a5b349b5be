-- What files are: texts that parse, or not. This project's own definitions.
use Rattle.std.specs.Prelude.{◌≡◌, List, [], ◌∷◌, Some, None}
use Rattle.flt_syntax.specs.Spelling.{Spells}
use Rattle.flt_syntax.specs.TextFails.{Fails}
use Rattle.flt_syntax.specs.declared.fault.SyntaxFault.{SyntaxFault}
use Rattle.flt_places.specs.declared.files.Files.{Files}
use Rattle.flt_tree.specs.Names.{Text}
use Rattle.flt_tree.specs.declared.filter.Filter.{Filter}
use Rattle.flt_explain_texts.specs.declared.sources.Source.{Source}
use Rattle.flt_explain_reasons.specs.Notice.{kind_of}
use Rattle.flt_explain_reasons.specs.declared.notice.Kind.{Kind}

-- the filters are those of the texts that parse, in their order
pub data AreParsed : List Text → List Filter → Type 0 where
  none : AreParsed [] []
  parses : {t : Text} {ts : List Text} {f : Filter} {fs : List Filter} → Spells t f → AreParsed ts fs → AreParsed (t ∷ ts) (f ∷ fs)
  fails : {t : Text} {ts : List Text} {e : SyntaxFault} {fs : List Filter} → Fails t e → AreParsed ts fs → AreParsed (t ∷ ts) fs

-- the files are those of the texts that parse, in their order
pub data AreFilesOf : List Source → List Files → Type 0 where
  no_source : AreFilesOf [] []
  with_files : {s : Source} {ss : List Source} {f : Filter} {files : List Files} → Spells s.text.now f → AreFilesOf ss files →
      AreFilesOf (s ∷ ss) (s.files ∷ files)
  without : {s : Source} {ss : List Source} {e : SyntaxFault} {files : List Files} → Fails s.text.now e → AreFilesOf ss files →
      AreFilesOf (s ∷ ss) files

-- a text doesn't parse and is taken for a certificate, a journal or a script
pub record IsOther (text : Text) (kind : Kind) : Type 0 where
  pub fault : SyntaxFault
  pub unread : Fails text fault
  pub taken : kind_of text ≡ Some kind

-- a text doesn't parse, and isn't taken for anything else
pub record IsUnread (text : Text) (f : SyntaxFault) : Type 0 where
  pub fault : Fails text f
  pub plain : kind_of text ≡ None
