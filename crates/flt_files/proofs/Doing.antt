-- What is done to files: one deed behind the other, and what comes of attempts one behind the other.
use Rattle.std.proofs.Common.{◌≡◌, ◌∙◌, sym, ap, subst, refl, ℕ, ◌+◌, List, [], ◌∷◌, ◌++◌, Some, true, false, Result, Ok, Err, ◌⊎◌, inl, inr}
use Rattle.std.proofs.Common.{append_assoc, append-nil, OnErr}
use native.Mathlib.Numerals.{unary_clauses}
use Rattle.flt_files.specs.Attempts.{Attempt, AreDeedsIn, AreDeedsOf, Grows, none, one_more}
use Rattle.flt_files.specs.Deeds.{Adds, AddsPart, Deed, IsLeft, IsReplacing, made, not_made, parts_not_made, removed, unmade}
use Rattle.flt_files.specs.Inputs.{Text}
use Rattle.flt_files.specs.System.{part_name}
use Rattle.flt_files.specs.declared.deeds.Fate.TheVariants.{Removed, Replaces}
use Rattle.flt_files.specs.declared.unwritten.OutputFault.{OutputFault}

-- ---- attempts

-- the deeds of one attempt alone
pub grows_by : (old new : List Deed) (x : Attempt) → Adds old new (AreDeedsIn x) → Grows old new (x ∷ [])
grows_by old new x adds = record { more = adds.more; added = adds.added; are = one_more x adds.more none adds.are }

-- the deeds of attempts, and of others behind them
deeds_more : (xs ys : List Attempt) (before more : List Deed) → AreDeedsOf xs before → AreDeedsOf ys more →
    AreDeedsOf (xs ++ ys) (before ++ more)
deeds_more xs _ before _ first none = subst (λ zs. AreDeedsOf zs (before ++ [])) (sym (append-nil xs))
    (subst (AreDeedsOf xs) (sym (append-nil before)) first)
deeds_more xs _ before _ first (one_more {attempts} {done} x own are is) =
    subst (λ zs. AreDeedsOf zs (before ++ (done ++ own))) (append_assoc xs attempts (x ∷ []))
    (subst (AreDeedsOf ((xs ++ attempts) ++ x ∷ [])) (append_assoc before done own)
    (one_more x own (deeds_more xs attempts before done first are) is))

-- what was done in attempts, and then in others, was done in all of them
pub grows_more : (a b c : List Deed) (xs ys : List Attempt) → Grows a b xs → Grows b c ys → Grows a c (xs ++ ys)
grows_more a b c xs ys first second = record {
  more = first.more ++ second.more;
  added = second.added ∙ ap (λ (l : List Deed). l ++ second.more) first.added ∙ append_assoc a first.more second.more;
  are = deeds_more xs ys first.more second.more first.are second.are;
}

-- ---- deeds

-- one deed before others
pub adds_behind : (Are AreAll : List Deed → Type 0) (old mid new : List Deed) (d : Deed) → mid ≡ old ++ d ∷ [] →
    ((more : List Deed) → Are more → AreAll (d ∷ more)) → Adds mid new Are → Adds old new AreAll
adds_behind Are AreAll old mid new d first all adds = record {
  more = d ∷ adds.more;
  added = adds.added ∙ ap (λ (l : List Deed). l ++ adds.more) first ∙ append_assoc old (d ∷ []) adds.more;
  are = all adds.more adds.are;
}

-- the same of weaker words for them
pub adds_as : (Are AreToo : List Deed → Type 0) (old new : List Deed) → ((more : List Deed) → Are more → AreToo more) →
    Adds old new Are → Adds old new AreToo
adds_as Are AreToo old new weaker adds = record { more = adds.more; added = adds.added; are = weaker adds.more adds.are }

-- one more of them wasn't made
parts_more : (name : Text) (number : ℕ) →
    parts_not_made name (number + 1) ≡ parts_not_made name number ++ not_made (part_name name (number + 1)) (Some name) ∷ []
parts_more name number = simp unary_clauses refl

module _ (name : Text) (start old new : List Deed) (number : ℕ) (so_far : old ≡ start ++ parts_not_made name number) where
  -- what was done since the start, and one deed more
  behind : (d : Deed) → new ≡ old ++ d ∷ [] → new ≡ start ++ (parts_not_made name number ++ d ∷ [])
  behind d added = added ∙ ap (λ (l : List Deed). l ++ d ∷ []) so_far ∙ append_assoc start (parts_not_made name number) (d ∷ [])

  -- the next file beside a name took its place
  pub replacing : AddsPart old new (part_name name (number + 1)) name (Ok true) → Adds start new (IsReplacing name)
  replacing adds = record {
    more = parts_not_made name number ++ made (part_name name (number + 1)) (Some name) Replaces ∷ [];
    added = behind _ (adds.added ∙ ap (λ (d : Deed). old ++ d ∷ []) adds.is);
    are = record { number = number; are = refl };
  }

  -- it wasn't made, since its name is taken
  pub next : AddsPart old new (part_name name (number + 1)) name (Ok false) → new ≡ start ++ parts_not_made name (number + 1)
  next adds =
      behind _ (adds.added ∙ ap (λ (d : Deed). old ++ d ∷ []) adds.is)
      ∙ ap (λ (l : List Deed). start ++ l) (sym (parts_more name number))

  -- it was removed
  pub taken_away : new ≡ old ++ made (part_name name (number + 1)) (Some name) Removed ∷ [] → Adds start new (IsLeft name)
  taken_away added = record {
    more = parts_not_made name number ++ made (part_name name (number + 1)) (Some name) Removed ∷ [];
    added = behind _ added;
    are = removed number;
  }

  -- it wasn't made, or was removed
  pub leaves : (why : OutputFault) → AddsPart old new (part_name name (number + 1)) name (Err why) → Adds start new (IsLeft name)
  leaves why adds = own adds.is where
    own : (adds.own ≡ not_made (part_name name (number + 1)) (Some name))
        ⊎ (adds.own ≡ made (part_name name (number + 1)) (Some name) Removed) → Adds start new (IsLeft name)
    own (inl is) = record {
      more = parts_not_made name (number + 1);
      added =
          behind _ (adds.added ∙ ap (λ (d : Deed). old ++ d ∷ []) is)
          ∙ ap (λ (l : List Deed). start ++ l) (sym (parts_more name number));
      are = unmade (number + 1);
    }
    own (inr is) = taken_away (adds.added ∙ ap (λ (d : Deed). old ++ d ∷ []) is)

-- so far none was made
pub left_so_far : (name : Text) (start new : List Deed) (number : ℕ) → new ≡ start ++ parts_not_made name number →
    Adds start new (IsLeft name)
left_so_far name start new number is = record { more = parts_not_made name number; added = is; are = unmade number }

-- where a call fails, this holds
pub if_failed : {A E : Type 0} (P : Type 0) (result : Result A E) → P → OnErr result P
if_failed P (Ok x) p = tt
if_failed P (Err e) p = p

-- the next file wasn't tried, or was removed
pub left_either : (name : Text) (start old new : List Deed) (number : ℕ) → old ≡ start ++ parts_not_made name number →
    (new ≡ old) ⊎ (new ≡ old ++ made (part_name name (number + 1)) (Some name) Removed ∷ []) → Adds start new (IsLeft name)
left_either name start old new number so_far (inl same) = left_so_far name start new number (same ∙ so_far)
left_either name start old new number so_far (inr added) = taken_away name start old new number so_far added
