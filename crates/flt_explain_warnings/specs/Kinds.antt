-- The kinds of warnings by name, and those that a caller leaves out. This project's own definitions.
use Rattle.std.specs.Prelude.{Bool, true, false, if◌then◌else◌, List, Option, Some, None, codes}
use Rattle.std.specs.Str.{bytes_eq}
use Rattle.flt_tree.specs.Names.{Text}
use Rattle.flt_explain_warnings.specs.declared.kinds.AllowedKinds.{AllowedKinds}
use Rattle.flt_explain_warnings.specs.declared.warning.Kind.{Kind}
use Rattle.flt_explain_warnings.specs.declared.warning.Kind.TheVariants.{W00, W01, W02, W03, W04, W05, W06, W07}

-- ---- names

-- the name of a kind
abbrev pub kind_name : Kind → Text
kind_name W00 = codes "W00"
kind_name W01 = codes "W01"
kind_name W02 = codes "W02"
kind_name W03 = codes "W03"
kind_name W04 = codes "W04"
kind_name W05 = codes "W05"
kind_name W06 = codes "W06"
kind_name W07 = codes "W07"

-- the kind of a name
abbrev pub kind_named : Text → Option Kind
kind_named name =
    if bytes_eq name (codes "W00") then Some W00
    else (if bytes_eq name (codes "W01") then Some W01
    else (if bytes_eq name (codes "W02") then Some W02
    else (if bytes_eq name (codes "W03") then Some W03
    else (if bytes_eq name (codes "W04") then Some W04
    else (if bytes_eq name (codes "W05") then Some W05
    else (if bytes_eq name (codes "W06") then Some W06
    else (if bytes_eq name (codes "W07") then Some W07 else None)))))))

-- ---- those that are left out

-- none
abbrev pub none_allowed : AllowedKinds
none_allowed =
    record { w00 = false; w01 = false; w02 = false; w03 = false; w04 = false; w05 = false; w06 = false; w07 = false }

-- the same kinds, and this one
abbrev pub with_kind : AllowedKinds → Kind → AllowedKinds
with_kind a W00 = record a { w00 = true }
with_kind a W01 = record a { w01 = true }
with_kind a W02 = record a { w02 = true }
with_kind a W03 = record a { w03 = true }
with_kind a W04 = record a { w04 = true }
with_kind a W05 = record a { w05 = true }
with_kind a W06 = record a { w06 = true }
with_kind a W07 = record a { w07 = true }

-- a kind is left out
abbrev pub allows : AllowedKinds → Kind → Bool
allows a W00 = a.w00
allows a W01 = a.w01
allows a W02 = a.w02
allows a W03 = a.w03
allows a W04 = a.w04
allows a W05 = a.w05
allows a W06 = a.w06
allows a W07 = a.w07
