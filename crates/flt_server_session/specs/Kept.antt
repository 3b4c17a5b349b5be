-- What a session keeps of documents. This project's own rule.
use Rattle.std.specs.List.{All}
use Rattle.std.specs.Prelude.{◌≡◌, ◌<◌, ◌≤◌, ℕ, List, length}
use Rattle.flt_server_session.specs.declared.document.Document.{Document}
use Rattle.flt_server_session.specs.declared.document.KeptText.{KeptText}
use Rattle.flt_server_session.specs.declared.document.KeptText.TheVariants.{Whole, TooLong}

-- this is kept of a text of a document that may have so many bytes: its bytes, or nothing but their number if they are more
abbrev pub IsKeptOf : ℕ → List ℕ → KeptText → Type 0
IsKeptOf most text (Whole bytes) = (length text ≤ most) × (bytes ≡ text)
IsKeptOf most text (TooLong n) = (most < length text) × (n ≡ length text)

-- the same of some text: no more bytes than the document may have, or a number of bytes that is greater
abbrev pub IsKept : ℕ → KeptText → Type 0
IsKept most (Whole bytes) = length bytes ≤ most
IsKept most (TooLong n) = most < n

-- of each document is kept what may be; how many bytes it may have is said by its name
abbrev pub AreKept : (List ℕ → ℕ) → List Document → Type 0
AreKept most documents = All (λ document. IsKept (most document.uri) document.text) documents
