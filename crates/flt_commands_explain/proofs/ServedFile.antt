-- What is said of one file.
use Rattle.std.proofs.Common.{◌≡◌, ◌∙◌, inl, inr, ◌∷◌, [], Vec, Global, ℕ, Some, None, Result, Ok, Err, IfOk, List, ap, option_map}
use Rattle.std.specs.declared.alloc.AllocError.{AllocError}
use Rattle.flt_explain_texts.specs.declared.sources.Source.{Source}
use Rattle.flt_joined.specs.Made.{IsOwn}
use Rattle.flt_joined.specs.Texts.{AreAnnotations, file_in, file_of, given_of}
use Rattle.flt_joined.specs.declared.given.GivenFile.{GivenFile}
use Rattle.flt_explain_runs.specs.Whole.{IsPrint}
use Rattle.flt_explain_outcomes.specs.declared.noted.Note.{Note}
use Rattle.flt_places.specs.declared.files.SourceFile.{SourceFile}
use Rattle.flt_commands_explain.specs.Annotated.{AreFlawed}
use Rattle.flt_files.specs.Inputs.{Text}
use Rattle.flt_commands_explain.specs.Served.{IsExplained, IsExplainedWithDrifts, IsSaidInC, IsUnread, look}

-- a C file gives its annotations
pub in_c : (name file : Text) (g : GivenFile) (result : Result (Vec ℕ Global) AllocError) → g.name.now ≡ name →
    AreAnnotations file g.text.items → option_map (λ code. code.items) g.code ≡ Some file →
    IfOk result (λ out. IsExplainedWithDrifts (given_of g) out.items) → IfOk result (λ out. IsSaidInC name file out.items)
in_c name file g (Ok out) named are coded is =
    inl (record {
      text = g.text.items;
      annotations = are;
      explained = rw (named, coded) at is;
    })
in_c name file g (Err e) named are coded is = tt

-- or these make no text
pub unread_in_c : (name file : Text) (result : Result (Vec ℕ Global) AllocError) → AreFlawed file →
    IfOk result (λ out. IsUnread name out.items) → IfOk result (λ out. IsSaidInC name file out.items)
unread_in_c name file (Ok out) are is = inr (are, is)
unread_in_c name file (Err e) are is = tt

-- another file gives itself
pub in_no_c : (name file : Text) (g : GivenFile) (result : Result (Vec ℕ Global) AllocError) → g.name.now ≡ name → g.text.items ≡ file →
    g.code ≡ None → IfOk result (λ out. IsExplained (given_of g) out.items) →
    IfOk result (λ out. IsExplained (record { name = name; text = file; code = None }) out.items)
in_no_c name file g (Ok out) named same coded is = rw (named, same, coded) at is
in_no_c name file g (Err e) named same coded is = tt

-- what is printed of the text of a file
pub printed_of : (g : GivenFile) (source : Source) (own : SourceFile) (notes : List Note) (printed : Text) (status : ℕ) → IsOwn g →
    source.text.now ≡ g.text.items → source.files.all.now ≡ own ∷ [] → source.files.stands.now ≡ g.stands.items →
    file_in own ≡ file_of (λ name. name) (given_of g) → IsPrint look (source ∷ []) notes printed status → IsExplained (given_of g) printed
printed_of g source own notes printed status is text all stands named print = record {
  source = source;
  of = record {
    text = is.text;
    is = is.is;
    same = text ∙ is.same;
    named = rw all (ap (λ f. f ∷ []) named);
    placed = stands ∙ is.placed;
  };
  notes = notes;
  status = status;
  print = print;
}
