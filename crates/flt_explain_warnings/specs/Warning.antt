-- What a warning is about. This project's own definitions.
use Rattle.std.specs.Prelude.{ℕ, List, [], ◌∷◌, Option, Some, None}
use Rattle.flt_order.specs.declared.order.Acquisition.{Acquisition}
use Rattle.flt_explain_warnings.specs.declared.warning.Kind.{Kind}
use Rattle.flt_explain_warnings.specs.declared.warning.Kind.TheVariants.{W01, W02, W03, W04, W05, W06, W07}
use Rattle.flt_explain_warnings.specs.declared.warning.Site.{Site}
use Rattle.flt_explain_warnings.specs.declared.warning.Warning.{Warning}
use Rattle.flt_explain_warnings.specs.declared.warning.Warning.TheVariants as warning

-- a point of a callback
abbrev pub site : ℕ → ℕ → Site
site callback point = record { callback = callback; point = point }

-- the kind of a warning
abbrev pub kind_of : Warning → Kind
kind_of (warning.LockCircle c) = W01
kind_of (warning.CalledLocked s l) = W02
kind_of (warning.NeverRemoved s) = W03
kind_of (warning.LeftPended s q) = W03
kind_of (warning.ChangedUnlocked s q) = W04
kind_of (warning.LostContext s q) = W05
kind_of (warning.UnusedLock l) = W06
kind_of (warning.UnusedCallback n) = W06
kind_of (warning.Unreached s) = W06
kind_of (warning.NeverHolds s) = W06
kind_of (warning.CalledLate s) = W07

-- where the first of some acquisitions is
abbrev pub first_site : List Acquisition → Option Site
first_site [] = None
first_site (a ∷ rest) = Some (site a.callback a.point)

-- the point that a warning is about; none where it is about a declaration
abbrev pub site_of : Warning → Option Site
site_of (warning.LockCircle c) = first_site c
site_of (warning.CalledLocked s l) = Some s
site_of (warning.NeverRemoved s) = Some s
site_of (warning.LeftPended s q) = Some s
site_of (warning.ChangedUnlocked s q) = Some s
site_of (warning.LostContext s q) = Some s
site_of (warning.UnusedLock l) = None
site_of (warning.UnusedCallback n) = None
site_of (warning.Unreached s) = Some s
site_of (warning.NeverHolds s) = Some s
site_of (warning.CalledLate s) = Some s
