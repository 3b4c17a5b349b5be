-- On some files `compare` has one answer at most.
use Rattle.std.proofs.Common.{◌≡◌, ◌≢◌, ℕ, List, [], Result, Ok, Err, refl, sym, ap, ◌∙◌, length, slice_index_or}
use Rattle.flt_c.specs.declared.files.FileFlaw.{FileFlaw}
use Rattle.flt_c.specs.declared.files.Flaw.{Flaw}
use Rattle.flt_commands_texts.specs.Compare.{ComesTo, Found, IsCompared, compared_from}
use Rattle.flt_commands_texts.specs.Comparison.{compared_status, printed_of}
use Rattle.flt_files.specs.Inputs.{Text}
use Rattle.flt_commands.specs.Answer.{of_text}
use Rattle.flt_commands.specs.Single.{SaysOne, seen}
use Rattle.flt_commands.specs.declared.answer.Answer.TheVariants.{OfText}
use Rattle.flt_commands_texts.specs.declared.answer.TextAnswer.{TextAnswer}
use Rattle.flt_commands_texts.specs.declared.answer.TextAnswer.TheVariants.{Compared}
use Rattle.flt_files.specs.declared.failure.Failure.{Failure}
use Rattle.flt_files.specs.declared.failure.Failure.TheVariants.{Flawed, OutOfMemory}

abbrev flaw_of : Text → Flaw → Result (List ℕ × ℕ) Failure
flaw_of name flaw = Err (Flawed (record { ref_ptr = (0, 0); now = name }) flaw)

-- what is seen of these reports on so many files with so many lines of annotations
abbrev seen_parts : Text → ℕ → ℕ → Result (List ℕ × ℕ) Failure
seen_parts reports lines files = Ok (printed_of reports lines files, compared_status reports)

-- what is seen of what so many files come to
abbrev seen_of : List Text → ℕ → Result Found FileFlaw → Result (List ℕ × ℕ) Failure
seen_of names files (Ok found) = seen_parts found.reports found.lines files
seen_of names files (Err f) = flaw_of (slice_index_or names f.file []) f.flaw

is_seen : (names : List Text) (files : ℕ) (found : Result Found FileFlaw) (result : Result TextAnswer Failure) →
    ComesTo names files found result → of_text result ≢ Err OutOfMemory → seen (of_text result) ≡ seen_of names files found
is_seen names files (Ok found) (Ok (Compared said)) is other =
    ap (λ reports. seen_parts reports said.lines said.files) is.0 ∙ ap (λ lines. seen_parts found.reports lines said.files) is.1 ∙
    ap (seen_parts found.reports found.lines) is.2
is_seen names files (Err f) (Err (Flawed name flaw)) is other =
    ap (λ n. flaw_of n flaw) is.0 ∙ ap (flaw_of (slice_index_or names f.file [])) is.1
is_seen names files found (Err OutOfMemory) is other = absurd (other refl)
is_seen names files (Err f) (Ok (Compared said)) is other = absurd is
is_seen names files (Ok found) (Err (Flawed name flaw)) is other = absurd is
is_seen names files found (Ok _) is other = absurd is
is_seen names files found (Err _) is other = absurd is

-- these reports are printed, or how much was compared, or this flaw is reported
pub compares_once : (names : List Text) → SaysOne OfText (IsCompared names)
compares_once names files a b x y =
    λ first second. is_seen names (length files) (compared_from names 0 files) a x first ∙
    sym (is_seen names (length files) (compared_from names 0 files) b y second)
