-- Where something of a text is, as members of JSON objects. This project's own format.
use Rattle.std.specs.Prelude.{◌==◌, ℕ, ◌-◌, codes, List, [], ◌++◌, if◌then◌else◌, Option, Some, None}
use Rattle.json.specs.Token.{Token}
use Rattle.flt_explain_texts.specs.declared.operands.Marks.{Marks}
use Rattle.flt_places.specs.Files.{file_at, file_name, file_place}
use Rattle.flt_places.specs.declared.files.Files.{Files}
use Rattle.flt_places.specs.declared.places.Region.{Region}
use Rattle.flt_tree.specs.declared.filter.Position.{Position}
use Rattle.flt_explain_parts.specs.Members.{null_member, number_member, object_member, string_member}

-- the name of a file, unless it is that of the whole object
abbrev pub other_file : Files → ℕ → ℕ → List Token
other_file files home file = if file == home then [] else string_member (codes "file") (file_name files file)

-- where something stands in its file: its first byte, and its last, where this is one column behind it
abbrev pub place_members : Position → Position → List Token
place_members first end =
    number_member (codes "line") first.line ++ (number_member (codes "column") first.column
    ++ (number_member (codes "end_line") end.line ++ number_member (codes "end_column") (end.column - 1)))

-- where something of a text stands: the file, if it isn't that of the whole object, and where it is there
abbrev pub region_members : Files → ℕ → Region → List Token
region_members files home r =
    other_file files home (file_at files r.first.line) ++ place_members (file_place files r.first) (file_place files r.end)

-- where that is which a finding names in a statement, or null
abbrev pub operand_member : Files → ℕ → Option Region → List Token
operand_member files home None = null_member (codes "operand")
operand_member files home (Some r) = object_member (codes "operand") (region_members files home r)

-- where a statement stands, and in it what a finding names
abbrev pub marks_members : Files → ℕ → Marks → List Token
marks_members files home m = region_members files home m.statement ++ operand_member files home m.operand
