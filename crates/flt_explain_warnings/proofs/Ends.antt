-- Where a line ends without its blanks, found from its front on.
use Rattle.std.proofs.Common.{◌≡◌, ◌+◌, ◌==◌, ◌≤◌, ℕ, if◌then◌else◌}
use Rattle.flt_tree.specs.Names.{Text}
use Rattle.flt_explain_warnings.specs.Comment.{end_of}

-- the end of a line of which some bytes were read, up to one, and others are left
abbrev pub end_from : ℕ → ℕ → Text → ℕ
end_from end at z = if end_of z == 0 then end else at + end_of z
