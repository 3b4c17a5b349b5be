-- What is one at most, where a name is given one thing at most and the folders, the lines of directives, the names and the files are the
-- same. This project's own rule.
use Rattle.std.specs.Prelude.{◌≡◌, ℕ, List}
use Rattle.flt_c_headers.specs.Reading.{Giving}
use Rattle.flt_c_tokens.specs.Bytes.{Text}
use Rattle.flt_c_tokens.specs.declared.lexer.Excess.{Excess}
use Rattle.flt_c_functions.specs.Listing.{IsListing, IsRefused}
use Rattle.flt_c_functions.specs.declared.listing.Listing.{Listing}

-- files have one listing at most: one text, and all that was found is read or isn't
abbrev pub ListsAtMostOne : Giving → Type 0
ListsAtMostOne gives =
    (folders lines names files : List Text) (l m : Listing) →
    IsListing gives folders lines names files l → IsListing gives folders lines names files m →
    (l.text.items ≡ m.text.items) × (l.is_whole ≡ m.is_whole)

-- one file at most is the first that isn't read, for one reason
abbrev pub RefusesAtMostOne : Giving → Type 0
RefusesAtMostOne gives =
    (folders lines names files : List Text) (number other : ℕ) (excess reason : Excess) →
    IsRefused gives folders lines names files number excess → IsRefused gives folders lines names files other reason →
    (number ≡ other) × (excess ≡ reason)

-- files that have a listing are all read
abbrev pub NeverBoth : Giving → Type 0
NeverBoth gives =
    (folders lines names files : List Text) (l : Listing) (number : ℕ) (excess : Excess) →
    IsListing gives folders lines names files l → IsRefused gives folders lines names files number excess → ⊥
