-- What is kept of documents, after one more, after another in its place, and after one less.
use Rattle.std.proofs.Common.{◌≡◌, ◌++◌, ◌∷◌, [], ℕ, suc, List, take, drop, slice_set}
use Rattle.std.specs.List.{remove}
use Rattle.std.proofs.lemmas.List.Elements.{All-append, All-drop, All-push, All-set, All-take}
use Rattle.flt_server_session.specs.Kept.{AreKept, IsKept, IsKeptOf}
use Rattle.flt_server_session.specs.declared.document.Document.{Document}
use Rattle.flt_server_session.specs.declared.document.KeptText.{KeptText}
use Rattle.flt_server_session.specs.declared.document.KeptText.TheVariants.{Whole, TooLong}

-- what is kept of a text may be kept
pub may_be_kept : (most : ℕ) (text : List ℕ) (kept : KeptText) → IsKeptOf most text kept → IsKept most kept
may_be_kept most text (Whole bytes) is = rw is.1 is.0
may_be_kept most text (TooLong n) is = rw is.1 is.0

module _ (most : List ℕ → ℕ) (documents : List Document) (document : Document) (uri text : List ℕ) (named : document.uri ≡ uri)
    (is : IsKeptOf (most uri) text document.text) where
  its_own : IsKept (most document.uri) document.text
  its_own = may_be_kept (most document.uri) text document.text (rw named is)

  -- one more
  pub one_more : AreKept most documents → AreKept most (documents ++ document ∷ [])
  one_more are = All-push (λ d. IsKept (most d.uri) d.text) documents document are its_own

  -- another in the place of one
  pub another : (at : ℕ) → AreKept most documents → AreKept most (slice_set documents at document)
  another at are = All-set (λ d. IsKept (most d.uri) d.text) documents at document its_own are

-- one less
pub one_less : (most : List ℕ → ℕ) (documents : List Document) (at : ℕ) → AreKept most documents → AreKept most (remove documents at)
one_less most documents at are =
    All-append (λ d. IsKept (most d.uri) d.text) (take at documents) (drop (suc at) documents)
    (All-take (λ d. IsKept (most d.uri) d.text) at documents are) (All-drop (λ d. IsKept (most d.uri) d.text) (suc at) documents are)
