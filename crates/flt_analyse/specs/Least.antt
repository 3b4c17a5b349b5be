-- The least certificate, or why there is none. This project's own definitions.
use Rattle.std.specs.Prelude.{◌≡◌, ℕ, ◌<◌, ◌⊎◌, List, length, IsTrue}
use Rattle.flt_rules.specs.declared.rule.Rule.TheVariants.{R14}
use Rattle.flt_graph.specs.Graph.{points_at, line_at}
use Rattle.flt_graph.specs.declared.graph.Graph.{Graph}
use Rattle.flt_cert.specs.Format.{Certificate, Point, is_certificate}
use Rattle.flt_check.specs.Covering.{Covers, IsCertificateBelow, IsCovered}
use Rattle.flt_rules.specs.declared.refusal.Refusal.{Refusal}
use Rattle.flt_analyse.specs.Walk.{IsFirstFault, Stops}
use Rattle.flt_analyse.specs.declared.fault.AnalyseFault.{AnalyseFault}
use Rattle.flt_analyse.specs.declared.fault.AnalyseFault.TheVariants.{Refused, OutOfMemory}

-- ---- certificates

-- below every certificate that covers
abbrev pub IsLeast : Graph → Certificate → Type 0
IsLeast g k = (other : Certificate) → Covers g other → IsCertificateBelow k other

-- no certificate covers
abbrev pub NoneCovers : Graph → Type 0
NoneCovers g = (k : Certificate) → IsTrue (is_certificate k) → Covers g k → ⊥

-- ---- refusals

-- a certificate can have as many callbacks and points
pub record HasRoom (g : Graph) : Type 0 where
  pub some : 0 < length g.callbacks
  pub few : length g.callbacks < 17
  pub points : (callback : ℕ) → callback < length g.callbacks → (0 < points_at g callback) × (points_at g callback < 513)

-- a graph of no text, for which there is no room: reported at the very beginning
pub record LacksRoom (g : Graph) (f : Refusal) : Type 0 where
  pub room : HasRoom g → ⊥
  pub callback : f.callback ≡ 0
  pub point : f.point ≡ 0
  pub line : f.line ≡ 0
  pub rule : f.rule ≡ R14

-- which fault is named: it is the only one
abbrev pub IsNamed : Graph → Refusal → Type 0
IsNamed g f = LacksRoom g f ⊎ (HasRoom g × IsFirstFault g f)

-- what holds of a refusal
abbrev pub IfRefused : AnalyseFault → (Refusal → Type 0) → Type 0
IfRefused (Refused f) P = P f
IfRefused OutOfMemory P = Unit {0}

-- the walk of a callback stops there, and nothing covers the callback's points
pub record IsStop (g : Graph) (callback : ℕ) (f : Refusal) : Type 0 where
  pub here : f.callback ≡ callback
  pub line : f.line ≡ line_at g callback f.point
  pub stops : Stops g callback f.point f.rule
  pub none : (points : List Point) → IsCovered g callback points → ⊥
