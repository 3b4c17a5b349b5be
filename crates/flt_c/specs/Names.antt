-- Which files are C, by their names. This project's own rule.
use Rattle.std.specs.Prelude.{ℕ, List, Bool, ◌||◌, codes, eqb}
use Rattle.std.specs.List.{ends_with}

-- a file is one of C alone, or a header, by the ending of its name
abbrev pub is_plain_c_file : List ℕ → Bool
is_plain_c_file name = ends_with eqb name (codes ".c") || ends_with eqb name (codes ".h")

-- it is C++
abbrev pub is_cpp_file : List ℕ → Bool
is_cpp_file name = ends_with eqb name (codes ".cc") || ends_with eqb name (codes ".cpp")

-- it is C or C++
abbrev pub is_c_file : List ℕ → Bool
is_c_file name = is_plain_c_file name || is_cpp_file name
