-- Of some bytes `thin` says one thing at most: a certificate that covers has no fault, and what is left of it one spelling.
use Rattle.std.proofs.Common.{◌≡◌, Ok, sym, ap, ◌∙◌}
use Rattle.flt_commands.proofs.OneCheck.{CoversWithoutFault, HasOneFault}
use Rattle.flt_commands.proofs.OneDecision.{DecidesOne}
use Rattle.flt_commands.specs.Single.{seen}
use Rattle.flt_commands_texts.specs.Thin.{Decides}
use Rattle.flt_commands.specs.declared.answer.Answer.TheVariants.{OfText}
use Rattle.flt_commands_texts.specs.declared.answer.TextAnswer.TheVariants.{Accepted, Refused, Certificate as Written, Extracted, Formatted}
use Rattle.flt_commands_texts.specs.declared.answer.TextAnswer.TheVariants.{Emitted, NotEmitted, EmittedInto, Compared, Listed}

module _ (one : HasOneFault) (none : CoversWithoutFault) where
  -- of a graph and a certificate one answer is decided at most
  pub thins_once : DecidesOne Decides
  thins_once g c (Written d) (Written e) x y = let same : d.items ≡ e.items = x.1 ∙ sym y.1 in cc
  thins_once g c (Written d) (Refused f) x y = absurd (none g c f x.0 y)
  thins_once g c (Written d) Accepted x y = absurd y
  thins_once g c (Written d) (Extracted bytes) x y = absurd y
  thins_once g c (Written d) (Formatted mode found) x y = absurd y
  thins_once g c (Written d) (Emitted bytes) x y = absurd y
  thins_once g c (Written d) (NotEmitted why) x y = absurd y
  thins_once g c (Written d) (EmittedInto driver) x y = absurd y
  thins_once g c (Written d) (Compared why) x y = absurd y
  thins_once g c (Written d) (Listed found) x y = absurd y
  thins_once g c (Refused f) (Written d) x y = absurd (none g c f y.0 x)
  thins_once g c (Refused f) (Refused h) x y = ap (λ r. seen (Ok (OfText (Refused r)))) (one g c f h x y)
  thins_once g c (Refused f) Accepted x y = absurd y
  thins_once g c (Refused f) (Extracted bytes) x y = absurd y
  thins_once g c (Refused f) (Formatted mode found) x y = absurd y
  thins_once g c (Refused f) (Emitted bytes) x y = absurd y
  thins_once g c (Refused f) (NotEmitted why) x y = absurd y
  thins_once g c (Refused f) (EmittedInto driver) x y = absurd y
  thins_once g c (Refused f) (Compared why) x y = absurd y
  thins_once g c (Refused f) (Listed found) x y = absurd y
  thins_once g c Accepted b x y = absurd x
  thins_once g c (Extracted bytes) b x y = absurd x
  thins_once g c (Formatted mode found) b x y = absurd x
  thins_once g c (Emitted bytes) b x y = absurd x
  thins_once g c (NotEmitted why) b x y = absurd x
  thins_once g c (EmittedInto driver) b x y = absurd x
  thins_once g c (Compared why) b x y = absurd x
  thins_once g c (Listed found) b x y = absurd x
