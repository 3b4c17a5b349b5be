-- How many bytes a document may have. This project's own rule.
use Rattle.std.specs.Prelude.{ℕ, List, if◌then◌else◌}
use Rattle.flt_c.specs.Names.{is_c_file}
use Rattle.flt_rules.specs.Limits.{max_text}

-- a document of this name may have so many bytes: a C file 1,048,576, and a text as many as are read
abbrev pub most_bytes : List ℕ → ℕ
most_bytes uri = if is_c_file uri then 1048576 else max_text
