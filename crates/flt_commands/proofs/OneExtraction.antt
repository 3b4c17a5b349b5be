-- Of some files `extract` says one thing at most.
use Rattle.std.proofs.Common.{◌≡◌, ◌≢◌, ℕ, Bool, List, [], Result, Ok, Err, refl, sym, ap, ◌∙◌, slice_index_or}
use Rattle.flt_c.specs.Files.{extracted}
use Rattle.flt_c.specs.Texts as c
use Rattle.flt_c.specs.declared.files.FileFlaw.{FileFlaw}
use Rattle.flt_c.specs.declared.files.Flaw.{Flaw}
use Rattle.flt_commands_texts.specs.Extract.{ComesTo, IsExtracted, printed}
use Rattle.flt_files.specs.Inputs.{Text}
use Rattle.flt_commands.specs.Answer.{of_text}
use Rattle.flt_commands.specs.Single.{SaysOne, seen}
use Rattle.flt_commands.specs.declared.answer.Answer.TheVariants.{OfText}
use Rattle.flt_commands_texts.specs.declared.answer.TextAnswer.{TextAnswer}
use Rattle.flt_commands_texts.specs.declared.answer.TextAnswer.TheVariants.{Extracted}
use Rattle.flt_files.specs.declared.failure.Failure.{Failure}
use Rattle.flt_files.specs.declared.failure.Failure.TheVariants.{Flawed, OutOfMemory}

abbrev flaw_of : Text → Flaw → Result (List ℕ × ℕ) Failure
flaw_of name flaw = Err (Flawed (record { ref_ptr = (0, 0); now = name }) flaw)

-- what is seen of what the files come to
abbrev seen_of : Bool → List Text → Result c.Text FileFlaw → Result (List ℕ × ℕ) Failure
seen_of of_map names (Ok text) = Ok (printed of_map names text, 0)
seen_of of_map names (Err f) = flaw_of (slice_index_or names f.file []) f.flaw

abbrev seen_bytes : List ℕ → Result (List ℕ × ℕ) Failure
seen_bytes bytes = Ok (bytes, 0)

is_seen : (of_map : Bool) (names : List Text) (found : Result c.Text FileFlaw) (result : Result TextAnswer Failure) →
    ComesTo of_map names found result →
    of_text result ≢ Err OutOfMemory → seen (of_text result) ≡ seen_of of_map names found
is_seen of_map names (Ok text) (Ok (Extracted bytes)) is other = ap seen_bytes is
is_seen of_map names (Err f) (Err (Flawed name flaw)) is other =
    ap (λ n. flaw_of n flaw) is.0 ∙ ap (flaw_of (slice_index_or names f.file [])) is.1
is_seen of_map names found (Err OutOfMemory) is other = absurd (other refl)
is_seen of_map names (Err f) (Ok (Extracted bytes)) is other = absurd is
is_seen of_map names (Ok text) (Err (Flawed name flaw)) is other = absurd is
is_seen of_map names found (Ok _) is other = absurd is
is_seen of_map names found (Err _) is other = absurd is

-- one thing is printed, or one flaw is told
pub extracts_once : (of_map : Bool) (names : List Text) → SaysOne OfText (IsExtracted of_map names)
extracts_once of_map names texts a b x y =
    λ first second. is_seen of_map names (extracted texts) a x first ∙ sym (is_seen of_map names (extracted texts) b y second)
