-- What the code of a line begins with: a directive, and the groups of lines that `#if 0` has compilers skip. The C standard's conditional
-- inclusion.
use Rattle.std.specs.Prelude.{ℕ, ◌+◌, ◌-◌, Bool, true, false, ◌&&◌, ◌||◌, if◌then◌else◌, ◌==◌, nat_lt}
use Rattle.flt_c.specs.declared.front.Front.{Front}
use Rattle.flt_c.specs.declared.front.Front.TheVariants as f
use Rattle.flt_c.specs.declared.mode.Mode.{Mode}
use Rattle.flt_c.specs.declared.mode.Mode.TheVariants as m
use Rattle.flt_c.specs.Modes.{is_block}

-- blanks within a line: space, tab, carriage return, vertical tab and form feed
abbrev pub is_space : ℕ → Bool
is_space b = b == 32 || b == 9 || b == 13 || b == 11 || b == 12

-- a blank more: it ends a directive's name
abbrev pub front_after_space : Front → Front
front_after_space f.If = f.Condition
front_after_space f.LetterI = f.Directive
front_after_space f.LetterE = f.Directive
front_after_space front = front

-- another byte of code more: `#` begins a directive, if nothing but blanks stands before it. Of C's directives those that begin with `if`
-- open a group, those with `el` go on with another one, and the one with `en` ends it; `if 0` is read to its end
abbrev pub front_after_other : Front → ℕ → Front
front_after_other f.Nothing b = if b == 35 then f.Hash else f.Code
front_after_other f.Code b = f.Code
front_after_other f.Hash b = if b == 105 then f.LetterI else (if b == 101 then f.LetterE else f.Directive)
front_after_other f.LetterI b = if b == 102 then f.If else f.Directive
front_after_other f.Condition b = if b == 48 then f.Zero else f.Directive
front_after_other front b = f.Directive

-- one byte of code more
abbrev pub front_after : Front → ℕ → Front
front_after front b = if is_space b then front_after_space front else front_after_other front b

-- a `/` waits for the next byte, which may make it a comment
abbrev pub front_in_code : Front → ℕ → Front
front_in_code front b = if b == 47 then front else front_after front b

-- a `/` that began no comment is code
abbrev pub settled : Mode → Front → Front
settled m.Slash front = front_after front 47
settled _ front = front

-- a comment is a blank
abbrev pub front_after_slash : Front → ℕ → Front
front_after_slash front b = if b == 47 || b == 42 then front_after front 32 else front_in_code (front_after front 47) b

-- one byte more, within a line
abbrev pub front_within : Mode → Front → ℕ → Front
front_within m.Code front b = front_in_code front b
front_within m.LetterR front b = front_in_code front b
front_within m.Slash front b = front_after_slash front b
front_within _ front b = front

-- one byte more; a line ends at its line feed, unless that is in a block comment
abbrev pub next_front : Mode → Front → ℕ → Front
next_front mode front b = if b == 10 && is_block mode then front else (if b == 10 then f.Nothing else front_within mode front b)

-- how many groups are open from the one on that is skipped, 0 where none is: after `#if 0` one, and others in it are counted
abbrev pub depth_after : ℕ → Front → ℕ → ℕ
depth_after depth f.LetterI b = if b == 102 && nat_lt 0 depth then depth + 1 else depth
depth_after depth f.LetterE b = if b == 110 then depth - 1 else (if b == 108 && depth == 1 then 0 else depth)
depth_after depth f.Zero b = if b == 10 && depth == 0 then 1 else depth
depth_after depth front b = depth

-- bytes of code are read
abbrev pub is_code : Mode → Bool
is_code m.Code = true
is_code m.LetterR = true
is_code m.Slash = true
is_code _ = false

-- one byte more: of code, or the end of a line
abbrev pub next_depth : Mode → Front → ℕ → ℕ → ℕ
next_depth mode front depth b =
    if is_block mode then depth else (if is_code mode || b == 10 then depth_after depth (settled mode front) b else depth)

-- the line is a directive
abbrev pub is_directive : Front → Bool
is_directive f.Nothing = false
is_directive f.Code = false
is_directive front = true

-- a quote may end with its line in a directive, and in a group that is skipped
abbrev pub is_lenient : Front → ℕ → Bool
is_lenient front depth = is_directive front || nat_lt 0 depth

-- a directive begins
abbrev pub begins_directive : Front → Front → Bool
begins_directive f.Nothing f.Hash = true
begins_directive old new = false
