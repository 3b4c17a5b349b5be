-- W04: a value changed without a lock. One callback reads the value of a context and another writes it before the first has written what
-- it made of it, so that one of the two changes is lost. This project's own check, by the graph and the locks that the certificate has: it
-- is a sign, since two contexts of one kind needn't be one.
use Rattle.std.specs.Prelude.{ℕ, Bool, true, false, not, ◌==◌, ◌&&◌, List, Option, Some, None, option_map, option_and_then, is_some}
use Rattle.std.specs.List.{find, list_any}
use Rattle.flt_rules.specs.Held.{are_compatible, same_lock}
use Rattle.flt_rules.specs.declared.held.HeldLock.{HeldLock}
use Rattle.flt_abs.specs.State.{State}
use Rattle.flt_cert.specs.Format.{Certificate}
use Rattle.flt_check.specs.Covering.{state_at}
use Rattle.flt_explain_warnings.specs.Shared.{same_anchor}
use Rattle.flt_explain_warnings.specs.declared.shared.SharedUse.{SharedUse}
use Rattle.flt_explain_warnings.specs.declared.shared.Usage.{Usage}
use Rattle.flt_explain_warnings.specs.declared.shared.Usage.TheVariants.{Read, Write, HandOver}
use Rattle.flt_explain_warnings.specs.declared.warning.Site.{Site}
use Rattle.flt_explain_warnings.specs.declared.warning.Warning.{Warning}
use Rattle.flt_explain_warnings.specs.declared.warning.Warning.TheVariants.{ChangedUnlocked}

-- ---- locks

-- both are one lock, and not both share it
abbrev pub excludes : HeldLock → HeldLock → Bool
excludes h k = same_lock h.lock k.lock && not (are_compatible h.access k.access)

-- some lock of these is such a one with some of those
abbrev pub keeps_apart : List HeldLock → List HeldLock → Bool
keeps_apart hs ks = list_any (λ (h : HeldLock). list_any (excludes h) ks) hs

-- there are two states, and no lock keeps them apart
abbrev pub meet : Option State → Option State → Bool
meet (Some x) (Some y) = not (keeps_apart x.locks y.locks)
meet (Some x) None = false
meet None y = false

-- two points are reached, and no lock is held at both, unless both share it
abbrev pub may_meet : Certificate → Site → Site → Bool
may_meet k s q = meet (state_at k s.callback s.point) (state_at k q.callback q.point)

-- ---- uses

-- a use reads the value in the callback, or writes it in another one
abbrev pub disturbs_by : Usage → Bool → Bool
disturbs_by Read is_own = is_own
disturbs_by Write is_own = not is_own
disturbs_by HandOver is_own = false

abbrev pub disturbs : ℕ → SharedUse → Bool
disturbs callback u = disturbs_by u.usage (u.site.callback == callback)

abbrev pub is_write : Usage → Bool
is_write Write = true
is_write _ = false

-- a use writes the value, and another disturbs it: both are of contexts of one anchor, and no lock keeps them apart
abbrev pub clashes : Certificate → SharedUse → SharedUse → Bool
clashes k w u = is_write w.usage && (same_anchor w.anchor u.anchor && (disturbs w.site.callback u && may_meet k w.site u.site))

-- a use is at the point
abbrev pub is_at : Site → SharedUse → Bool
is_at s u = (u.site.callback == s.callback) && (u.site.point == s.point)

-- a use is at the point, and one of these disturbs it
abbrev pub is_opposed : Certificate → List SharedUse → Site → SharedUse → Bool
is_opposed k us s w = is_at s w && is_some (find (clashes k w) us)

-- the warning that some use disturbs this write, with the first that does
abbrev pub warned_of : Certificate → List SharedUse → Site → SharedUse → Option Warning
warned_of k us s w = option_map (λ (u : SharedUse). ChangedUnlocked s u.site) (find (clashes k w) us)

-- the warning: the point writes a value that another use disturbs
abbrev pub changed_unlocked : Certificate → List SharedUse → Site → Option Warning
changed_unlocked k us s = option_and_then (warned_of k us s) (find (is_opposed k us s) us)
