-- What is kept of a text.
use Rattle.std.proofs.Common.{◌≡◌, ◌<◌, ◌≤◌, ◌∙◌, ◌⊎◌, ◌++◌, ◌+◌, ◌-◌, ℕ, List, Some, None, Option, Result, Ok, Err}
use Rattle.std.proofs.Common.{IfOk, IfSome, IfNone, ap, sym, refl, length, take, min, option_map, arith, inl, inr}
use Rattle.std.proofs.Math.Path.{subst}
use Rattle.std.proofs.lemmas.Bool.{cases_lt}
use Rattle.std.proofs.lemmas.List.{append-nil, length-take, length-take-le, take-append-le, take_all}
use Rattle.std.proofs.Math.Seq.{take-append-add, take-take}
use Rattle.flt_syntax.specs.Spelling.{Spells}
use Rattle.flt_syntax.specs.TextFails.{Fails, FailsAtMostOnce, SpelledFailsNowhere, too_long}
use Rattle.flt_syntax.specs.declared.fault.SyntaxFault.{SyntaxFault}
use Rattle.flt_tree.specs.declared.filter.Filter.{Filter}
use Rattle.std.specs.Io.KnownBytes.{Consumes, IsAtEnd}
use Rattle.flt_files.proofs.Ended.{all_read}
use Rattle.flt_files.specs.Inputs.{Text, gives_text, kept}
use Rattle.flt_files.specs.System.{AreKept, Holding, IsGiven, IsTooLong, failed, too_long as has_more}
use Rattle.flt_rules.specs.Limits.{max_text}

-- ---- of what was read

-- what is kept of what is kept is all of it
kept_again : (bytes : Text) → kept (kept bytes) ≡ kept bytes
kept_again bytes = take_all (max_text + 1) (kept bytes) (rw (length-take (max_text + 1) bytes) (omega arith))

-- where a reader is at its end, what is kept of what was taken is kept of all that there was
pub kept_read : (old new : Option (List ℕ)) (taken found : List ℕ) → Consumes old new taken → IsAtEnd new → found ≡ kept taken →
    AreKept old found
kept_read None new taken found consumed end same = same ∙ sym (ap kept same ∙ kept_again taken)
kept_read (Some xs) new taken found consumed end same =
    let all : xs ≡ taken = all_read (Some xs) new taken consumed end in same ∙ ap kept (sym all)

-- as much of some bytes as there is room for is kept
take_room : (room : ℕ) (bytes : List ℕ) → take (min room (length bytes)) bytes ≡ take room bytes
take_room room bytes =
    elim (cases_lt room (length bytes)) [
      | inl less ↦ ap (λ n. take n bytes) (omega arith)
      | inr few ↦ take_all _ bytes (omega arith) ∙ sym (take_all room bytes few)
    ]

-- as many as some bytes and others have
take_both : (n : ℕ) (xs ys : List ℕ) → take n (xs ++ ys) ≡ take n xs ++ take (n - length xs) ys
take_both n xs ys =
    elim (cases_lt (length xs) n) [
      | inl less ↦
          let parts : n ≡ length xs + (n - length xs) = omega (arith, less) in
          let all : take n xs ≡ xs = take_all n xs (omega (arith, less)) in
          ap (λ k. take k (xs ++ ys)) parts ∙ take-append-add xs ys (n - length xs) ∙ ap (λ zs. zs ++ take (n - length xs) ys) (sym all)
      | inr few ↦
          let none : n - length xs ≡ 0 = omega (arith, few) in
          take-append-le n xs ys few ∙ sym (ap (λ k. take n xs ++ take k ys) none ∙ append-nil (take n xs))
    ]

-- what is kept of more, where so much of it is put behind what was kept
pub kept_more : (taken piece found : List ℕ) → found ≡ kept taken →
    found ++ take (min ((max_text + 1) - length found) (length piece)) piece ≡ kept (taken ++ piece)
kept_more taken piece found same =
    let count : length found ≡ min (max_text + 1) (length taken) = ap length same ∙ length-take (max_text + 1) taken in
    let rest : (max_text + 1) - length found ≡ (max_text + 1) - length taken = omega (arith, count) in
    rw (take_room ((max_text + 1) - length found) piece, rest, same) (sym (take_both (max_text + 1) taken piece))

-- the same of the first bytes of a buffer
pub kept_more_of : (taken buffer found : List ℕ) (n : ℕ) → n ≤ length buffer → found ≡ kept taken →
    found ++ take (min ((max_text + 1) - length found) n) buffer ≡ kept (taken ++ take n buffer)
kept_more_of taken buffer found n within same =
    let count : length (take n buffer) ≡ n = length-take-le n buffer within in
    let parts : take (min ((max_text + 1) - length found) n) (take n buffer) ≡ take (min ((max_text + 1) - length found) n) buffer =
    take-take (min ((max_text + 1) - length found) n) n buffer (omega arith) in
    ap (λ piece. found ++ piece) (sym parts) ∙ rw count at (kept_more taken (take n buffer) found same)

-- what was kept of a name that was opened is given for it, as a text
module _ (holds : Holding) (lacks : Text → Type 0) (fails X : Type 0) (name : Text) (may : X → fails) where
  kept_found : (known : Option Text) → holds name known → (found : Option Text) → IfSome found (AreKept known) →
      IfNone found (X ⊎ IsTooLong known) → gives_text (IsGiven holds lacks fails) name found
  kept_found None opened (Some bytes) all none = (bytes, record { known = None; opened = opened; all = tt }, all)
  kept_found (Some text) opened (Some bytes) all none = (text, record { known = Some text; opened = opened; all = refl }, all)
  kept_found known opened None all (inl x) = failed (may x)
  kept_found known opened None all (inr long) = has_more known opened long

  -- what is kept of a text that was read to its end, or was too long, is given by its name
  pub kept_of : {E V : Type 0} (bytes_of : V → Text) (known : Option Text) → holds name known → (result : Result (Option V) E) →
      IfOk result (λ found. IfSome found (λ v. AreKept known (bytes_of v))) → IfOk result (λ found. IfNone found (X ⊎ IsTooLong known)) →
      IfOk result (λ found. gives_text (IsGiven holds lacks fails) name (option_map bytes_of found))
  kept_of bytes_of known opened (Ok (Some v)) all none = kept_found known opened (Some (bytes_of v)) all none
  kept_of bytes_of known opened (Ok None) all none = kept_found known opened None all none
  kept_of bytes_of known opened (Err e) all none = tt

-- ---- of texts

-- all of a text is kept, or it is too long and so is what is kept
kept_or_long : (text : Text) → (kept text ≡ text) ⊎ ((max_text < length text) × (max_text < length (kept text)))
kept_or_long text =
    elim (cases_lt (max_text + 1) (length text)) [
      | inl long ↦
          let count : length (kept text) ≡ (max_text + 1) = length-take-le (max_text + 1) text (omega (arith, long)) in
          inr (omega (arith, long), omega (arith, count))
      | inr few ↦ inl (take_all (max_text + 1) text few)
    ]

module _ (nowhere : SpelledFailsNowhere) (once : FailsAtMostOnce) where
  -- a filter that a kept text spells is spelled by the whole text
  pub spelled_as_whole : (text : Text) (filter : Filter) → Spells (kept text) filter → Spells text filter
  spelled_as_whole text filter spelled =
      elim (kept_or_long text) [
        | inl same ↦ subst (λ t. Spells t filter) same spelled
        | inr long ↦ absurd (nowhere (kept text) filter _ spelled (too_long long.1))
      ]

  -- a kept text that fails fails as the whole text does
  pub fails_as_whole : (text : Text) (f : SyntaxFault) → Fails (kept text) f → Fails text f
  fails_as_whole text f fails =
      elim (kept_or_long text) [
        | inl same ↦ subst (λ t. Fails t f) same fails
        | inr long ↦ subst (λ g. Fails text g) (once (kept text) _ f (too_long long.1) fails) (too_long long.0)
      ]
