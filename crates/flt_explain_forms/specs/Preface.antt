-- What each object of the form `lines` begins with. This project's own format.
use Rattle.std.specs.Prelude.{ℕ, List, ◌++◌, codes}
use Rattle.json.specs.Token.{Token}
use Rattle.flt_explain_parts.specs.Members.{number_member, string_member}

-- the number of the form
abbrev pub version : ℕ
version = 2

-- the number of the form, what the line is, and the file's name
abbrev pub preface : List ℕ → List ℕ → List Token
preface kind name =
    number_member (codes "version") version ++ (string_member (codes "kind") kind ++ string_member (codes "file") name)
