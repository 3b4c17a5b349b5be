-- Brackets under lines of an `#if`: each branch begins at the depth of the first one, and what follows stands at the depth of its end. So
-- brackets are those of the first branches. This project's own rule.
use Rattle.std.specs.Prelude.{ℕ, ◌-◌, List, [], ◌∷◌, ◌++◌, length, take, slice_get, Option, Some, None, unwrap_or}
use Rattle.flt_c_tokens.specs.declared.token.Kind.{Kind}
use Rattle.flt_c_tokens.specs.declared.token.Kind.TheVariants as k
use Rattle.flt_c_items.specs.Kinds.{depth_after}
use Rattle.flt_c_items.specs.declared.group.Group.{Group}

-- the innermost group that is open, which is the last one of the list
abbrev pub innermost : List Group → Option Group
innermost groups = slice_get groups (length groups - 1)

-- the others
abbrev pub others : List Group → List Group
others groups = take (length groups - 1) groups

-- the depth behind an `#else`, and the groups that are open there
abbrev pub branch_by : Option Group → ℕ → List Group → ℕ × List Group
branch_by None depth rest = (depth, rest)
branch_by (Some group) depth rest =
    (group.before, rest ++ record { before = group.before; first = Some (unwrap_or group.first depth) } ∷ [])

-- the same behind an `#endif`: an `#if` with one branch counts as if it weren't there
abbrev pub end_by : Option Group → ℕ → List Group → ℕ × List Group
end_by None depth rest = (depth, rest)
end_by (Some group) depth rest = (unwrap_or group.first depth, rest)

-- the depth behind a token of this kind that stands at a depth, and the groups that are open there
abbrev pub turned : Kind → ℕ → List Group → ℕ × List Group
turned k.GroupIf depth groups = (depth, groups ++ record { before = depth; first = None } ∷ [])
turned k.GroupElse depth groups = branch_by (innermost groups) depth (others groups)
turned k.GroupEnd depth groups = end_by (innermost groups) depth (others groups)
turned kind depth groups = (depth_after kind depth, groups)
