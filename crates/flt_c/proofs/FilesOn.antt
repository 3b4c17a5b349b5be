-- What the loop over files keeps: the text so far with the files that are left is the text of all.
use Rattle.std.proofs.Common.{◌≡◌, ℕ, ◌+◌, ◌<◌, List, ◌∷◌, length, drop, get_or, map, sym, ap, ◌∙◌, Vec, Global}
use Rattle.std.proofs.lemmas.List.{at_drop_more}
use Rattle.std.specs.Prelude.{Result}
use Rattle.flt_c.specs.declared.files.FileFlaw.{FileFlaw}
use Rattle.flt_c.specs.Files.{with_file, with_files, ◌>>=◌}
use Rattle.flt_c.specs.Texts.{Text}

abbrev pub items_of : List (Vec ℕ Global) → List (List ℕ)
items_of files = map (λ file. file.items) files

abbrev from : ℕ → Text → List (Vec ℕ Global) → Result Text FileFlaw
from number text files = with_files number text (items_of files)

-- what is made of the files from this one on is made of it and those after it
pub at_file : (files : List (Vec ℕ Global)) (number : ℕ) (text : Text) (file : Vec ℕ Global) (bytes : List ℕ) → number < length files →
    file ≡ get_or files number file → bytes ≡ file.items →
    from number text (drop number files) ≡ (with_file number text bytes >>= (λ more. from (number + 1) more (drop (number + 1) files)))
at_file files number text file bytes lt is e =
    at_drop_more (from number text) files number file lt
    ∙ (ap (λ f. from number text (f ∷ drop (number + 1) files)) (sym is)
    ∙ ap (λ z. with_file number text z >>= (λ more. from (number + 1) more (drop (number + 1) files))) (sym e))

-- one more file that is read leads to the text of all files as before
pub file_on : (files : List (Vec ℕ Global)) (number : ℕ) (text : Text) (file : Vec ℕ Global) (bytes : List ℕ) (r : Result Text FileFlaw) →
    number < length files → file ≡ get_or files number file → bytes ≡ file.items → with_file number text bytes ≡ r →
    from number text (drop number files) ≡ (r >>= (λ more. from (number + 1) more (drop (number + 1) files)))
file_on files number text file bytes r lt is e h =
    at_file files number text file bytes lt is e ∙ ap (λ r. r >>= (λ more. from (number + 1) more (drop (number + 1) files))) h
