-- Numbers of spellings, and those that are there when more are added.
use Rattle.std.proofs.Common.{◌≡◌, ℕ, ◌≤◌, Bool, true, false, ◌||◌, List, [], ◌∷◌, ◌++◌, length, take, drop, length-append}
use Rattle.std.proofs.Common.{refl, ap, ◌∙◌, sym, subst, arith, append_assoc, Ok, Err, lt-ltb}
use Rattle.std.proofs.lemmas.List.{take-append-drop, take_all}
use Rattle.std.proofs.Math.Nat.{max-eq_left}
use Rattle.std.proofs.Math.Seq.{take-append_seam}
use Rattle.std.specs.Prelude.{Some, None, nat_lt, if◌then◌else◌}
use Rattle.flt_c_tokens.specs.Bytes.{Text}
use Rattle.flt_c_tokens.specs.Spelled.{has_text, with_text, first_texts, number_of, max_spellings, IsNumbered, Knows}
use Rattle.flt_c_tokens.specs.Vocabulary.{known_words}
use Rattle.flt_c_tokens.specs.declared.token.Token.{Token}
use Rattle.flt_c_macros.specs.Texts.{Texts}
use Rattle.flt_c_macros.specs.States.{numbered, Stay}

pub stay_there : (texts : Texts) → Stay texts texts
stay_there texts = take_all (length texts) texts (omega arith)

-- what goes on with some texts, and goes on again
goes_on : (before after : Texts) → Stay before after → after ≡ before ++ drop (length before) after
goes_on before after stay = sym (take-append-drop (length before) after) ∙ ap (λ ts. ts ++ drop (length before) after) stay

pub stay_on : (before between after : Texts) → Stay before between → Stay between after → Stay before after
stay_on before between after first second =
    let more = drop (length before) between in
    let last = drop (length between) after in
    ap (take (length before))
    (goes_on between after second ∙ ap (λ ts. ts ++ last) (goes_on before between first) ∙ append_assoc before more last)
    ∙ take-append_seam before (more ++ last)

-- the spellings that there were are the first of those that there are
pub taken_back : (before after : Texts) (count : ℕ) → Knows before → count ≡ length before → Stay before after →
    first_texts count after ≡ before
unfolding first_texts
taken_back before after count known long stay =
    let words : length known_words ≤ length before =
    subst (λ ts. length known_words ≤ length ts) (sym known.parts) (omega (arith, length-append known_words known.more)) in
    let few : length known_words ≤ count = omega (arith, words, long) in
    ap (λ n. take n after) (max-eq_left few ∙ long) ∙ stay

stay_with : (texts : Texts) (text : Text) → Stay texts (with_text texts text)
unfolding with_text
stay_with texts text = by (has_text texts text) refl
  where
    by : (b : Bool) → has_text texts text ≡ b → Stay texts (if has_text texts text then texts else texts ++ text ∷ [])
    by true e = rw e (stay_there texts)
    by false e = rw e (take-append_seam texts (text ∷ []))

pub stay_some : (texts next : Texts) (text : Text) (n : ℕ) → IsNumbered texts text (Some n) next → Stay texts next
stay_some texts next text n found = subst (Stay texts) (sym found.0) (stay_with texts text)

pub stay_none : (texts next : Texts) (text : Text) → IsNumbered texts text None next → Stay texts next
stay_none texts next text found = subst (Stay texts) (sym found.0) (stay_there texts)

pub stay_same : (texts next : Texts) → next ≡ texts → Stay texts next
stay_same texts next same = subst (Stay texts) (sym same) (stay_there texts)

-- the table has room for a text that it lacks, if it is not too long with it
pub room : (texts : Texts) (text : Text) (b : Bool) → has_text texts text ≡ b → length (with_text texts text) ≤ max_spellings →
    b || nat_lt (length texts) max_spellings ≡ true
unfolding with_text
room texts text true e few = refl
room texts text false e few =
    lt-ltb (length texts) max_spellings
    (let h : length (texts ++ text ∷ []) ≤ max_spellings = rw e at few in omega (arith, length-append texts (text ∷ []), h))

pub numbered_some : (texts next : Texts) (text : Text) (at : Token) (n : ℕ) → IsNumbered texts text (Some n) next →
    length next ≤ max_spellings → numbered text at texts ≡ Ok (next, n)
unfolding numbered
numbered_some texts next text at n found few =
    rw (room texts text (has_text texts text) refl (rw found.0 at few)) (rw (← found.0, ← found.1) refl)

pub numbered_none : (texts next : Texts) (text : Text) (at : Token) → IsNumbered texts text None next →
    numbered text at texts ≡ Err (at.line, at.column)
unfolding numbered
numbered_none texts next text at found = rw (found.2, found.1) refl
