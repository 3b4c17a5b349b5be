-- The warnings of a text, by a certificate. No rule speaks of what they say, and a text that has some is accepted. This project's own
-- checks.
use Rattle.std.specs.Prelude.{◌≡◌, ℕ, zero, suc, ◌+◌, ◌≤◌, ◌↔◌, List, [], ◌∷◌, ◌++◌, length}
use Rattle.std.specs.Prelude.{Option, Some, None, option_to_list, IfSome, IsNone}
use Rattle.flt_graph.specs.Graph.{points_at}
use Rattle.flt_graph.specs.declared.graph.Graph.{Graph}
use Rattle.flt_cert.specs.Format.{Certificate}
use Rattle.flt_check.specs.Covering.{Covers}
use Rattle.flt_order.specs.Circle.{IsCircle, TakesOnce}
use Rattle.flt_order.specs.Order.{TakesInOrder}
use Rattle.flt_order.specs.declared.order.Acquisition.{Acquisition}
use Rattle.flt_explain_warnings.specs.Called.{called_locked}
use Rattle.flt_explain_warnings.specs.Changed.{changed_unlocked}
use Rattle.flt_explain_warnings.specs.Late.{called_late}
use Rattle.flt_explain_warnings.specs.Lost.{lost_context}
use Rattle.flt_explain_warnings.specs.Never.{never_holds}
use Rattle.flt_explain_warnings.specs.Pended.{never_removed, left_pended}
use Rattle.flt_explain_warnings.specs.Shared.{shared_uses}
use Rattle.flt_explain_warnings.specs.Unreached.{unreached}
use Rattle.flt_explain_warnings.specs.Unused.{unused_callback, unused_locks}
use Rattle.flt_explain_warnings.specs.Warning.{site}
use Rattle.flt_explain_warnings.specs.declared.shared.SharedUse.{SharedUse}
use Rattle.flt_explain_warnings.specs.declared.warning.Kind.{Kind}
use Rattle.flt_explain_warnings.specs.declared.warning.Kind.TheVariants.{W00, W01, W02, W03, W04, W05, W06, W07}
use Rattle.flt_explain_warnings.specs.declared.warning.Site.{Site}
use Rattle.flt_explain_warnings.specs.declared.warning.Warning.{Warning}
use Rattle.flt_explain_warnings.specs.declared.warning.Warning.TheVariants.{LockCircle}

-- ---- at a point

-- an operation that is left in the queue
abbrev pub pended_at : Graph → Certificate → Site → List Warning
pended_at g k s = option_to_list (never_removed g k s) ++ option_to_list (left_pended g k s)

-- what nothing reaches
abbrev pub unreached_at : Graph → Certificate → Site → List Warning
unreached_at g k s = option_to_list (unused_callback g s) ++ (option_to_list (unreached g k s) ++ option_to_list (never_holds g k s))

-- the warnings of a kind, by the uses of contexts that others may have; no finder makes W00, and W01 isn't about a point
abbrev pub warned_at : Graph → Certificate → List SharedUse → Kind → Site → List Warning
warned_at g k us W00 s = []
warned_at g k us W01 s = []
warned_at g k us W02 s = option_to_list (called_locked g k s)
warned_at g k us W03 s = pended_at g k s
warned_at g k us W04 s = option_to_list (changed_unlocked k us s)
warned_at g k us W05 s = option_to_list (lost_context g k s)
warned_at g k us W06 s = unreached_at g k s
warned_at g k us W07 s = option_to_list (called_late g k s)

-- ---- in a text

-- the warnings of a kind at so many points of a callback, from one on
unfoldable pub warned_from : Graph → Certificate → List SharedUse → Kind → ℕ → ℕ → ℕ → List Warning
warned_from g k us kind callback point zero = []
warned_from g k us kind callback point (suc n) =
    warned_at g k us kind (site callback point) ++ warned_from g k us kind callback (point + 1) n

-- the same at all points of a callback
abbrev pub warned_in : Graph → Certificate → List SharedUse → Kind → ℕ → List Warning
warned_in g k us kind callback = warned_from g k us kind callback 0 (points_at g callback)

-- the same in so many callbacks, from one on
unfoldable pub warned_in_from : Graph → Certificate → List SharedUse → Kind → ℕ → ℕ → List Warning
warned_in_from g k us kind callback zero = []
warned_in_from g k us kind callback (suc n) = warned_in g k us kind callback ++ warned_in_from g k us kind (callback + 1) n

-- the same in all callbacks
abbrev pub warned_in_all : Graph → Certificate → List SharedUse → Kind → List Warning
warned_in_all g k us kind = warned_in_from g k us kind 0 (length g.callbacks)

-- the warnings of a kind that are about declarations of locks
abbrev pub warned_declared : Graph → Kind → List Warning
warned_declared g W06 = unused_locks g
warned_declared g _ = []

-- the warnings of some kinds, kind after kind
abbrev pub warned_by : Graph → Certificate → List SharedUse → List Kind → List Warning
warned_by g k us [] = []
warned_by g k us (kind ∷ kinds) = warned_declared g kind ++ (warned_in_all g k us kind ++ warned_by g k us kinds)

-- the warnings of all kinds but W01
abbrev pub warned : Graph → Certificate → List Warning
warned g k = warned_by g k (shared_uses g) (W02 ∷ W03 ∷ W04 ∷ W05 ∷ W06 ∷ W07 ∷ [])

-- ---- W01: locks that no order allows

-- the warning of a circle, if there is one
abbrev pub circle_warned : Option (List Acquisition) → List Warning
circle_warned (Some c) = LockCircle c ∷ []
circle_warned None = []

-- a circle is shown exactly where locks aren't taken in an order; no lock is taken twice in it, and where the certificate covers the text
-- it has two acquisitions or more
pub record IsShown (g : Graph) (k : Certificate) (shown : Option (List Acquisition)) : Type 0 where
  pub ordered : IsNone shown ↔ TakesInOrder g k
  pub circle : IfSome shown (IsCircle g k)
  pub once : IfSome shown TakesOnce
  pub two : Covers g k → IfSome shown (λ c. 2 ≤ length c)

-- ---- all

-- these are the warnings of a text: that of a circle, if there is one, and those of the other kinds
pub record AreWarnings (g : Graph) (k : Certificate) (ws : List Warning) : Type 0 where
  pub circle : Option (List Acquisition)
  pub shown : IsShown g k circle
  pub all : ws ≡ circle_warned circle ++ warned g k
