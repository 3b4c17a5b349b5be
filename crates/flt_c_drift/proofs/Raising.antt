-- The flags that marks raise, one after the other, say of each number whether a mark says something of it.
use Rattle.std.proofs.Common.{◌≡◌, ◌+◌, ◌<◌, ◌≤◌, ℕ, Bool, true, false, List, [], ◌∷◌, ◌++◌}
use Rattle.std.proofs.Common.{arith, ap, drop, get_or, length, refl, set, sym, subst, ◌∙◌}
use Rattle.std.proofs.lemmas.Bool.{eqb-false, eqb-true, ltb-false}
use Rattle.std.proofs.lemmas.List.{append-nil, at_drop_more, drop_all, get_or-replicate, get_or-set_other}
use Rattle.std.proofs.lemmas.List.{get_or-set_same, length-replicate, length-set}
use Rattle.std.proofs.lemmas.List.Prefix.{front_from_reads}
use Rattle.std.specs.Prelude.{◌==◌, ◌||◌, if◌then◌else◌, nat_lt, replicate, Option, Some, None}
use Rattle.flt_c_drift.proofs.Flagged.{flag_of, length_of}
use Rattle.flt_c_drift.proofs.GoingOn.{or_false}
use Rattle.flt_c_drift.specs.Flags.{flags, flags_below, is_said, raised, says, subject}
use Rattle.flt_c_drift.specs.declared.flags.Question.{Question}
use Rattle.flt_c_drift.specs.declared.flags.Question.TheVariants as ask
use Rattle.flt_c_drift.specs.declared.mark.Mark.{Mark}
use Rattle.flt_c_drift.specs.declared.mark.MarkKind.{MarkKind}
use Rattle.flt_c_drift.specs.declared.mark.MarkKind.TheVariants as k

-- ---- one mark

abbrev is_of : Option ℕ → ℕ → Bool
is_of None n = false
is_of (Some m) n = m == n

-- a mark says something of its subject alone
says_of : (question : Question) (n : ℕ) (kind : MarkKind) → says question n kind ≡ is_of (subject question kind) n
says_of ask.Called n (k.Calls m) = refl
says_of ask.Called n _ = refl
says_of ask.Named n (k.Names m) = refl
says_of ask.Named n _ = refl
says_of ask.Answered n (k.Answers m) = refl
says_of ask.Answered n _ = refl
says_of ask.PreRegistered n (k.RegistersPre m) = refl
says_of ask.PreRegistered n _ = refl
says_of ask.PostRegistered n (k.RegistersPost m) = refl
says_of ask.PostRegistered n _ = refl
says_of ask.PreHeaded n (k.HeadsPre m) = refl
says_of ask.PreHeaded n _ = refl
says_of ask.PostHeaded n (k.HeadsPost m) = refl
says_of ask.PostHeaded n _ = refl

or_true : (x : Bool) → (x || true) ≡ true
or_true true = refl
or_true false = refl

or_both : (x y z : Bool) → ((x || y) || z) ≡ (x || (y || z))
or_both true y z = refl
or_both false y z = refl

not_below : (n c : ℕ) (found : List Bool) → c < length found → nat_lt n (length found) ≡ false → (x : Bool) → (n == c) ≡ x → x ≡ false
not_below n c found below e true h =
    let is = eqb-true n c h in
    let le = ltb-false n (length found) e in
    absurd (omega (arith, below, is, le))
not_below n c found below e false h = refl

set_by : (n c : ℕ) (found : List Bool) → c < length found → (x : Bool) → (n == c) ≡ x →
    get_or (set found n true) c false ≡ (get_or found c false || x)
set_by n c found below true h =
    let is : n ≡ c = eqb-true n c h in
    let within : n < length found = omega (arith, below, is) in
    ap (λ i. get_or (set found n true) i false) (sym is)
    ∙ (get_or-set_same found n true false within ∙ sym (or_true (get_or found c false)))
set_by n c found below false h =
    get_or-set_other found n c true false (λ e. eqb-false n c h (sym e)) ∙ sym (or_false (get_or found c false))

raised_by : (n c : ℕ) (found : List Bool) → c < length found → (x : Bool) → nat_lt n (length found) ≡ x →
    get_or (if x then set found n true else found) c false ≡ (get_or found c false || n == c)
raised_by n c found below true e = set_by n c found below (n == c) refl
raised_by n c found below false e =
    sym (ap (λ x. get_or found c false || x) (not_below n c found below e (n == c) refl) ∙ or_false (get_or found c false))

-- the flag of a number after a subject's was raised
raised_at : (number : Option ℕ) (found : List Bool) (c : ℕ) → c < length found →
    get_or (raised number found) c false ≡ (get_or found c false || is_of number c)
raised_at None found c below = sym (or_false (get_or found c false))
raised_at (Some n) found c below = raised_by n c found below (nat_lt n (length found)) refl

-- ---- all marks

-- what the loop over marks keeps: a flag that is raised, or will be by the marks that are left, is that of a number of which one speaks
pub record AreFlags (question : Question) (marks : List Mark) (count : ℕ) (found : List Bool) (rest : List Mark) : Type 0 where
  pub long : length found ≡ count
  pub each : (c : ℕ) → c < count → (get_or found c false || is_said question c rest) ≡ is_said question c marks

-- before the first mark none is raised
pub flags_begin : (question : Question) (marks : List Mark) (count : ℕ) (found : List Bool) → found ≡ replicate count false →
    AreFlags question marks count found marks
flags_begin question marks count found e = record {
  long = ap length e ∙ length-replicate count false;
  each = λ c below. ap (λ x. x || is_said question c marks) (ap (λ f. get_or f c false) e ∙ get_or-replicate count c false false below);
}

raised_long : (number : Option ℕ) (found : List Bool) → length (raised number found) ≡ length found
raised_long None found = refl
raised_long (Some n) found = by (nat_lt n (length found))
  where
    by : (x : Bool) → length (if x then set found n true else found) ≡ length found
    by true = length-set found n true
    by false = refl

flags_on : (question : Question) (marks : List Mark) (count : ℕ) (found more : List Bool) (mark : Mark) (rest : List Mark) →
    AreFlags question marks count found (mark ∷ rest) → more ≡ raised (subject question mark.kind) found →
    AreFlags question marks count more rest
flags_on question marks count found more mark rest i e =
    let long = i.long in
    record {
      long = ap length e ∙ (raised_long (subject question mark.kind) found ∙ long);
      each = λ c below.
          let within : c < length found = omega (arith, below, long) in
          ap (λ f. get_or f c false || is_said question c rest) e
          ∙ (ap (λ x. x || is_said question c rest) (raised_at (subject question mark.kind) found c within)
          ∙ (or_both (get_or found c false) (is_of (subject question mark.kind) c) (is_said question c rest)
          ∙ (ap (λ x. get_or found c false || (x || is_said question c rest)) (sym (says_of question c mark.kind)) ∙ i.each c below)));
    }

-- the loop goes on with the next mark
pub flags_next : (question : Question) (marks : List Mark) (count : ℕ) (found more : List Bool) (i : ℕ) (d : Mark) (number : Option ℕ) →
    i < length marks → AreFlags question marks count found (drop i marks) → number ≡ subject question (get_or marks i d).kind →
    more ≡ raised number found → AreFlags question marks count more (drop (i + 1) marks)
flags_next question marks count found more i d number below h s e =
    flags_on question marks count found more (get_or marks i d) (drop (i + 1) marks)
    (subst (AreFlags question marks count found) (at_drop_more (λ (z : List Mark). z) marks i d below) h) (e ∙ ap (λ n. raised n found) s)

-- after all marks the flags are those of all
pub flags_end : (question : Question) (marks : List Mark) (count : ℕ) (found : List Bool) → AreFlags question marks count found [] →
    found ≡ flags question marks count
flags_end question marks count found i =
    let holds = λ (c : ℕ). is_said question c marks in
    let all = flags_below holds count in
    let many = length_of holds count in
    let long = i.long in
    let fits : length all ≤ length found = omega (arith, many, long) in
    let over : length found ≤ length all = omega (arith, many, long) in
    front_from_reads false found all fits
    (λ c below. let within : c < count = omega (arith, below, many) in
    sym (or_false (get_or found c false)) ∙ (i.each c within ∙ sym (flag_of holds count c within)))
    ∙ (ap (λ z. all ++ z) (drop_all (length all) found over) ∙ append-nil all)
