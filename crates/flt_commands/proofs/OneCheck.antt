-- Of some bytes `check` says one thing at most: a certificate that covers has no fault, and any other one first fault.
use Rattle.std.proofs.Common.{◌≡◌, Ok, refl, ap}
use Rattle.flt_graph.specs.declared.graph.Graph.{Graph}
use Rattle.flt_cert.specs.declared.cert.Cert.{Cert}
use Rattle.flt_check.specs.Accepting.{CertCovers, IsCertFault}
use Rattle.flt_rules.specs.declared.refusal.Refusal.{Refusal}
use Rattle.flt_commands.proofs.OneDecision.{DecidesOne}
use Rattle.flt_commands_texts.specs.Check.{Decides}
use Rattle.flt_commands.specs.Single.{seen}
use Rattle.flt_commands.specs.declared.answer.Answer.TheVariants.{OfText}
use Rattle.flt_commands_texts.specs.declared.answer.TextAnswer.TheVariants.{Accepted, Refused, Certificate as Written, Extracted, Formatted}
use Rattle.flt_commands_texts.specs.declared.answer.TextAnswer.TheVariants.{Emitted, NotEmitted, EmittedInto, Compared, Listed}

-- the laws' clauses
abbrev pub HasOneFault : Type 0
HasOneFault = (g : Graph) (c : Cert) (f h : Refusal) → IsCertFault g c f → IsCertFault g c h → f ≡ h

abbrev pub CoversWithoutFault : Type 0
CoversWithoutFault = (g : Graph) (c : Cert) (f : Refusal) → CertCovers g c → ¬ IsCertFault g c f

module _ (one : HasOneFault) (none : CoversWithoutFault) where
  -- of a graph and a certificate one answer is decided at most
  pub checks_once : DecidesOne Decides
  checks_once g c Accepted Accepted x y = refl
  checks_once g c Accepted (Refused f) x y = absurd (none g c f x y)
  checks_once g c Accepted (Written d) x y = absurd y
  checks_once g c Accepted (Extracted bytes) x y = absurd y
  checks_once g c Accepted (Formatted mode found) x y = absurd y
  checks_once g c Accepted (Emitted bytes) x y = absurd y
  checks_once g c Accepted (NotEmitted why) x y = absurd y
  checks_once g c Accepted (EmittedInto driver) x y = absurd y
  checks_once g c Accepted (Compared why) x y = absurd y
  checks_once g c Accepted (Listed found) x y = absurd y
  checks_once g c (Refused f) Accepted x y = absurd (none g c f y x)
  checks_once g c (Refused f) (Refused h) x y = ap (λ r. seen (Ok (OfText (Refused r)))) (one g c f h x y)
  checks_once g c (Refused f) (Written d) x y = absurd y
  checks_once g c (Refused f) (Extracted bytes) x y = absurd y
  checks_once g c (Refused f) (Formatted mode found) x y = absurd y
  checks_once g c (Refused f) (Emitted bytes) x y = absurd y
  checks_once g c (Refused f) (NotEmitted why) x y = absurd y
  checks_once g c (Refused f) (EmittedInto driver) x y = absurd y
  checks_once g c (Refused f) (Compared why) x y = absurd y
  checks_once g c (Refused f) (Listed found) x y = absurd y
  checks_once g c (Written d) b x y = absurd x
  checks_once g c (Extracted bytes) b x y = absurd x
  checks_once g c (Formatted mode found) b x y = absurd x
  checks_once g c (Emitted bytes) b x y = absurd x
  checks_once g c (NotEmitted why) b x y = absurd x
  checks_once g c (EmittedInto driver) b x y = absurd x
  checks_once g c (Compared why) b x y = absurd x
  checks_once g c (Listed found) b x y = absurd x
