-- What is wrong with a thin certificate of a text that it doesn't cover, and where first. This project's own definitions.
use Rattle.std.specs.Prelude.{◌≡◌, ◌≢◌, ℕ, ◌<◌, ◌⊎◌, Bool, not, ◌||◌, ◌==◌, nat_le, [], length, slice_index_or, is_some}
use Rattle.flt_rules.specs.declared.rule.Rule.TheVariants.{R14}
use Rattle.flt_graph.specs.Graph.{points_at, line_at}
use Rattle.flt_graph.specs.declared.graph.Graph.{Graph}
use Rattle.flt_check.specs.Checker.{AgreeOnCounts, NoneIn, IsCountRefusal, IsPointRefusal}
use Rattle.flt_rules.specs.declared.refusal.Refusal.{Refusal}
use Rattle.flt_graph.specs.Kept.{is_kept}
use Rattle.flt_cert.specs.Thin.{Thin, slot_at}
use Rattle.flt_check.specs.Full.{full}
use Rattle.flt_check.specs.ThinCovering.{AgreeBefore, AgreeIn, GivesKept}

-- the first point of a callback that is given and not kept, or kept and not given
pub record IsFirstOther (g : Graph) (t : Thin) (callback point : ℕ) : Type 0 where
  pub within : point < points_at g callback
  pub other : is_some (slot_at t callback point) ≢ is_kept g callback point
  pub earlier : AgreeBefore g t callback point

-- the first such point of the text
pub record IsKeptRefusal (g : Graph) (t : Thin) (f : Refusal) : Type 0 where
  pub counts : AgreeOnCounts g (full g t)
  pub callback : f.callback < length g.callbacks
  pub point : IsFirstOther g t f.callback f.point
  pub line : f.line ≡ line_at g f.callback f.point
  pub rule : f.rule ≡ R14
  pub earlier : AgreeIn g t f.callback

-- the first fault: the counts come before the kept points, and those before what follows
abbrev pub IsThinFault : Graph → Thin → Refusal → Type 0
IsThinFault g t f =
    IsCountRefusal g (full g t) f ⊎ (IsKeptRefusal g t f ⊎ (GivesKept g t × IsPointRefusal g (full g t) f))

-- no fault: the counts agree, the points that are given are exactly the kept ones, and no rule is broken at any point of what follows
pub record IsFaultlessThin (g : Graph) (t : Thin) : Type 0 where
  pub counts : AgreeOnCounts g (full g t)
  pub kept : GivesKept g t
  pub points : NoneIn g (full g t) (length g.callbacks)

-- a certificate lacks a callback, or has not as many points for it
abbrev pub differs_thin : Graph → Thin → ℕ → Bool
differs_thin g t callback = nat_le (length t) callback || not (points_at g callback == length (slice_index_or t callback []))
