-- Of some bytes `analyse` says one thing at most.
use Rattle.std.proofs.Common.{◌≡◌, ◌≢◌, [], ◌∷◌, Result, Ok, Err, refl, sym, ap, ◌∙◌, subst}
use Rattle.flt_syntax.specs.Spelling.{Spells}
use Rattle.flt_syntax.specs.TextFails.{FailsAtMostOnce, SpelledFailsNowhere}
use Rattle.flt_tree.specs.declared.filter.Filter.{Filter}
use Rattle.flt_graph.specs.declared.graph.Graph.{Graph}
use Rattle.flt_cert.specs.Format.{Certificate}
use Rattle.flt_cert.specs.Spelling.{spelling, thinned}
use Rattle.flt_cert.specs.declared.cert.Cert.TheVariants.{Full}
use Rattle.flt_check.specs.Covering.{Covers}
use Rattle.flt_rules.specs.declared.refusal.Refusal.{Refusal}
use Rattle.flt_analyse.specs.Least.{IsLeast, IsNamed, NoneCovers}
use Rattle.flt_commands_texts.specs.Analyse.{IsAnalysed, IsCertified, IsFailure, IsRefused, Judges}
use Rattle.flt_commands_texts.specs.Check.{HasPoints}
use Rattle.flt_files.specs.Inputs.{Text}
use Rattle.flt_commands.specs.Answer.{of_text}
use Rattle.flt_commands.specs.Single.{AreSame, SaysOne, seen, told}
use Rattle.flt_commands_texts.specs.declared.answer.TextAnswer.{TextAnswer}
use Rattle.flt_commands.specs.declared.answer.Answer.TheVariants.{OfText}
use Rattle.flt_commands_texts.specs.declared.answer.TextAnswer.TheVariants.{Accepted, Refused, Certificate as Written, Extracted, Formatted}
use Rattle.flt_commands_texts.specs.declared.answer.TextAnswer.TheVariants.{Emitted, NotEmitted, EmittedInto, Compared, Listed}
use Rattle.flt_files.specs.declared.failure.Failure.{Failure}
use Rattle.flt_files.specs.declared.failure.Failure.TheVariants.{Syntax, OutOfMemory}

module _ (graph : (text : Text) (g h : Graph) → HasPoints text g → HasPoints text h → g ≡ h)
    (nowhere : SpelledFailsNowhere) (once : FailsAtMostOnce)
    (least : (g : Graph) (k l : Certificate) → Covers g k → IsLeast g k → Covers g l → IsLeast g l → k ≡ l)
    (named : (g : Graph) (f h : Refusal) → IsNamed g f → IsNamed g h → f ≡ h) where
  certified_once : (text bytes others : Text) → IsCertified text bytes → IsCertified text others → bytes ≡ others
  certified_once text bytes others x y =
      let points : y.graph ≡ x.graph = graph text y.graph x.graph y.points x.points in
      let cert = least x.graph x.cert y.cert x.covers x.least (subst (λ g. Covers g y.cert) points y.covers)
      (subst (λ g. IsLeast g y.cert) points y.least) in
      x.written ∙ ap (λ k. spelling (thinned x.graph (Full k))) cert ∙
      ap (λ g. spelling (thinned g (Full y.cert))) (sym points) ∙ sym y.written

  not_refused : (text bytes : Text) (f : Refusal) → IsCertified text bytes → IsRefused text f → ⊥
  not_refused text bytes f x y =
      let points : y.graph ≡ x.graph = graph text y.graph x.graph y.points x.points in
      subst (λ g. NoneCovers g) points y.none x.cert x.certified x.covers

  refused_once : (text : Text) (f h : Refusal) → IsRefused text f → IsRefused text h → f ≡ h
  refused_once text f h x y =
      let points : y.graph ≡ x.graph = graph text y.graph x.graph y.points x.points in
      named x.graph f h x.named (subst (λ g. IsNamed g h) points y.named)

  -- a text of which something is answered spells a filter
  answered : (text : Text) (a : TextAnswer) → Judges text (Ok a) → (f : Filter) × Spells text f
  answered text (Written c) x = (x.points.filter, x.points.spelled)
  answered text (Refused f) x = (x.points.filter, x.points.spelled)
  answered text Accepted x = absurd x
  answered text (Extracted bytes) x = absurd x
  answered text (Formatted mode found) x = absurd x
  answered text (Emitted bytes) x = absurd x
  answered text (NotEmitted why) x = absurd x
  answered text (EmittedInto driver) x = absurd x
  answered text (Compared why) x = absurd x
  answered text (Listed found) x = absurd x

  answers_once : (text : Text) (a b : TextAnswer) → Judges text (Ok a) → Judges text (Ok b) → seen (Ok (OfText a)) ≡ seen (Ok (OfText b))
  answers_once text (Written c) (Written d) x y = let same : c.items ≡ d.items = certified_once text c.items d.items x y in cc
  answers_once text (Written c) (Refused f) x y = absurd (not_refused text c.items f x y)
  answers_once text (Refused f) (Written c) x y = absurd (not_refused text c.items f y x)
  answers_once text (Refused f) (Refused h) x y = ap (λ r. seen (Ok (OfText (Refused r)))) (refused_once text f h x y)
  answers_once text (Written c) Accepted x y = absurd y
  answers_once text (Written c) (Extracted bytes) x y = absurd y
  answers_once text (Written c) (Formatted mode found) x y = absurd y
  answers_once text (Written c) (Emitted bytes) x y = absurd y
  answers_once text (Written c) (NotEmitted why) x y = absurd y
  answers_once text (Written c) (EmittedInto driver) x y = absurd y
  answers_once text (Written c) (Compared why) x y = absurd y
  answers_once text (Written c) (Listed found) x y = absurd y
  answers_once text (Refused f) Accepted x y = absurd y
  answers_once text (Refused f) (Extracted bytes) x y = absurd y
  answers_once text (Refused f) (Formatted mode found) x y = absurd y
  answers_once text (Refused f) (Emitted bytes) x y = absurd y
  answers_once text (Refused f) (NotEmitted why) x y = absurd y
  answers_once text (Refused f) (EmittedInto driver) x y = absurd y
  answers_once text (Refused f) (Compared why) x y = absurd y
  answers_once text (Refused f) (Listed found) x y = absurd y
  answers_once text Accepted b x y = absurd x
  answers_once text (Extracted bytes) b x y = absurd x
  answers_once text (Formatted mode found) b x y = absurd x
  answers_once text (Emitted bytes) b x y = absurd x
  answers_once text (NotEmitted why) b x y = absurd x
  answers_once text (EmittedInto driver) b x y = absurd x
  answers_once text (Compared why) b x y = absurd x
  answers_once text (Listed found) b x y = absurd x

  not_both : (text : Text) (a : TextAnswer) (f : Failure) → Judges text (Ok a) → IsFailure text f → f ≢ OutOfMemory → ⊥
  not_both text a (Syntax e) x y told = let found = answered text a x in nowhere text found.0 e found.1 y
  not_both text a OutOfMemory x y told = told refl
  not_both text a f x y told = y

  failures_once : (text : Text) (f h : Failure) → IsFailure text f → IsFailure text h → f ≢ OutOfMemory → h ≢ OutOfMemory → told f ≡ told h
  failures_once text (Syntax e) (Syntax f) x y p q = ap Syntax (once text e f x y)
  failures_once text OutOfMemory h x y p q = absurd (p refl)
  failures_once text (Syntax e) OutOfMemory x y p q = absurd (q refl)
  failures_once text (Syntax e) h x y p q = absurd y
  failures_once text f h x y p q = absurd x

  judged_once : (text : Text) (a b : Result TextAnswer Failure) → Judges text a → Judges text b → AreSame (of_text a) (of_text b)
  judged_once text (Ok a) (Ok b) x y p q = answers_once text a b x y
  judged_once text (Ok a) (Err f) x y p q = absurd (not_both text a f x y (λ e. q (ap Err e)))
  judged_once text (Err f) (Ok b) x y p q = absurd (not_both text b f y x (λ e. p (ap Err e)))
  judged_once text (Err f) (Err h) x y p q = ap Err (failures_once text f h x y (λ e. p (ap Err e)) (λ e. q (ap Err e)))

  -- of some bytes `analyse` says one thing at most
  pub analysed_once : SaysOne OfText IsAnalysed
  analysed_once [] a b x y = absurd x
  analysed_once (text ∷ []) a b x y = judged_once text a b x y
  analysed_once (text ∷ more ∷ texts) a b x y = absurd x
