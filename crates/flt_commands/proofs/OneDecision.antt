-- A text has one graph at most, and where of a graph and a certificate one answer is decided at most,
-- one thing is said at most of the bytes of both.
use Rattle.std.proofs.Common.{◌≡◌, ◌≢◌, ◌<◌, ℕ, true, [], ◌∷◌, Result, Ok, Err, length, take}
use Rattle.std.proofs.Common.{drop, refl, sym, ap, ◌∙◌, subst, arith, inl, inr, IsTrue}
use Rattle.std.specs.Prelude.{◌⊎◌}
use Rattle.std.proofs.lemmas.Bool.{cases_order, true≢false}
use Rattle.flt_syntax.specs.Spelling.{SpellsAtMostOne, SpelledIsWellFormed}
use Rattle.flt_syntax.specs.TextFails.{FailsAtMostOnce, SpelledFailsNowhere}
use Rattle.flt_tree.specs.WellFormed.{IsWellFormed}
use Rattle.flt_tree.specs.declared.filter.Filter.{Filter}
use Rattle.flt_graph.specs.Lowering.{IsLowered}
use Rattle.flt_graph.specs.declared.graph.Graph.{Graph}
use Rattle.flt_cert.specs.Spelling.{IsFirstFault, is_cert, spelling}
use Rattle.flt_cert.specs.declared.cert.Cert.{Cert}
use Rattle.flt_commands_texts.specs.Check.{Deciding, HasPoints, IsAnswer, IsDecided, IsFailure, Judges, JudgesTogether}
use Rattle.flt_files.specs.Inputs.{Text}
use Rattle.flt_commands.specs.Answer.{of_text}
use Rattle.flt_commands.specs.Single.{AreSame, SaysOne, seen, told}
use Rattle.flt_files.specs.Split.{IsCertificateStart, is_header_at}
use Rattle.flt_commands.specs.declared.answer.Answer.TheVariants.{OfText}
use Rattle.flt_commands_texts.specs.declared.answer.TextAnswer.{TextAnswer}
use Rattle.flt_files.specs.declared.failure.Failure.{Failure}
use Rattle.flt_files.specs.declared.failure.Failure.TheVariants.{Syntax, Certificate as CertificateLine, OutOfMemory}

-- ---- the graph

-- a text has one graph at most
pub graph_once : SpellsAtMostOne → SpelledIsWellFormed →
    ((f : Filter) (g h : Graph) → IsWellFormed f → IsLowered f g → IsLowered f h → g ≡ h) →
    (text : Text) (g h : Graph) → HasPoints text g → HasPoints text h → g ≡ h
graph_once one fine lowered text g h a b =
    let same : b.filter ≡ a.filter = one text b.filter a.filter b.spelled a.spelled in
    lowered a.filter g h (fine text a.filter a.spelled) a.lowered (subst (λ f. IsLowered f h) same b.lowered)

-- ---- where the certificate begins

module _ (bytes : Text) where
  not_before : (m n : ℕ) → m < n → IsCertificateStart bytes m → IsCertificateStart bytes n → ⊥
  not_before m n below a b = by a.begins
    where
      by : ((m ≡ length bytes) ⊎ (is_header_at bytes m ≡ true)) → ⊥
      by (inl last) = let within = b.within in absurd (omega arith)
      by (inr header) = true≢false (sym header ∙ b.earlier m below)

  -- a certificate's start is that of one format at most
  pub start_once : (m n : ℕ) → IsCertificateStart bytes m → IsCertificateStart bytes n → m ≡ n
  start_once m n a b = by_order (cases_order m n)
    where
      by_order : ((m ≡ n) ⊎ ((m < n) ⊎ (n < m))) → m ≡ n
      by_order (inl e) = e
      by_order (inr (inl l)) = absurd (not_before m n l a b)
      by_order (inr (inr l)) = absurd (not_before n m l b a)

-- ---- what is said

-- of a graph and a certificate one answer is decided at most
abbrev pub DecidesOne : Deciding → Type 0
DecidesOne decides = (g : Graph) (c : Cert) (a b : TextAnswer) → decides g c a → decides g c b → seen (Ok (OfText a)) ≡ seen (Ok (OfText b))

module _ (decides : Deciding) (decided_once : DecidesOne decides)
    (graph : (text : Text) (g h : Graph) → HasPoints text g → HasPoints text h → g ≡ h)
    (nowhere : SpelledFailsNowhere) (once : FailsAtMostOnce)
    (spelled : (k l : Cert) → IsTrue (is_cert k) → IsTrue (is_cert l) → spelling k ≡ spelling l → k ≡ l)
    (first : (text : Text) (m n : ℕ) → IsFirstFault text m → IsFirstFault text n → m ≡ n)
    (none : (k : Cert) (n : ℕ) → IsTrue (is_cert k) → ¬ IsFirstFault (spelling k) n) where
  answers_once : (text certificate : Text) (a b : TextAnswer) → IsAnswer decides text certificate a → IsAnswer decides text certificate b →
      seen (Ok (OfText a)) ≡ seen (Ok (OfText b))
  answers_once text certificate a b x y =
      let points : y.graph ≡ x.graph = graph text y.graph x.graph y.points x.points in
      let cert : y.cert ≡ x.cert = spelled y.cert x.cert y.certified x.certified (sym y.written ∙ x.written) in
      decided_once x.graph x.cert a b x.decided (subst (λ g. decides g x.cert b) points (subst (λ k. decides y.graph k b) cert y.decided))

  -- an answer stands beside no failure
  not_both : (text certificate : Text) (a : TextAnswer) (f : Failure) → IsAnswer decides text certificate a → IsFailure text certificate f →
      f ≢ OutOfMemory → ⊥
  not_both text certificate a (Syntax e) x y told = nowhere text x.points.filter e x.points.spelled y
  not_both text certificate a (CertificateLine n) x y told = none x.cert n x.certified (subst (λ c. IsFirstFault c n) x.written y.1)
  not_both text certificate a OutOfMemory x y told = told refl
  not_both text certificate a f x y told = y

  failures_once : (text certificate : Text) (f h : Failure) → IsFailure text certificate f → IsFailure text certificate h →
      f ≢ OutOfMemory → h ≢ OutOfMemory → told f ≡ told h
  failures_once text certificate (Syntax e) (Syntax f) x y p q = ap Syntax (once text e f x y)
  failures_once text certificate (Syntax e) (CertificateLine n) x y p q = absurd (nowhere text y.0.0 e y.0.1 x)
  failures_once text certificate (CertificateLine n) (Syntax e) x y p q = absurd (nowhere text x.0.0 e x.0.1 y)
  failures_once text certificate (CertificateLine m) (CertificateLine n) x y p q = ap CertificateLine (first certificate m n x.1 y.1)
  failures_once text certificate OutOfMemory h x y p q = absurd (p refl)
  failures_once text certificate (Syntax e) OutOfMemory x y p q = absurd (q refl)
  failures_once text certificate (CertificateLine n) OutOfMemory x y p q = absurd (q refl)
  failures_once text certificate (Syntax e) h x y p q = absurd y
  failures_once text certificate (CertificateLine n) h x y p q = absurd y
  failures_once text certificate f h x y p q = absurd x

  judged_once : (text certificate : Text) (a b : Result TextAnswer Failure) → Judges decides text certificate a →
      Judges decides text certificate b → AreSame (of_text a) (of_text b)
  judged_once text certificate (Ok a) (Ok b) x y p q = answers_once text certificate a b x y
  judged_once text certificate (Ok a) (Err f) x y p q = absurd (not_both text certificate a f x y (λ e. q (ap Err e)))
  judged_once text certificate (Err f) (Ok b) x y p q = absurd (not_both text certificate b f y x (λ e. p (ap Err e)))
  judged_once text certificate (Err f) (Err h) x y p q =
      ap Err (failures_once text certificate f h x y (λ e. p (ap Err e)) (λ e. q (ap Err e)))

  together_once : (bytes : Text) (a b : Result TextAnswer Failure) →
      JudgesTogether decides bytes a → JudgesTogether decides bytes b → AreSame (of_text a) (of_text b)
  together_once bytes a b x y =
      let start : y.0 ≡ x.0 = start_once bytes y.0 x.0 y.1 x.1 in
      judged_once (take x.0 bytes) (drop x.0 bytes) a b x.2 (subst (λ n. Judges decides (take n bytes) (drop n bytes) b) start y.2)

  -- of some bytes one thing is said at most
  pub bytes_decided_once : SaysOne OfText (IsDecided decides)
  bytes_decided_once [] a b x y = absurd x
  bytes_decided_once (bytes ∷ []) a b x y = together_once bytes a b x y
  bytes_decided_once (text ∷ certificate ∷ []) a b x y = judged_once text certificate a b x y
  bytes_decided_once (text ∷ certificate ∷ more ∷ texts) a b x y = absurd x
