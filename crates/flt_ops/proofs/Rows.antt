-- The numbers of each operation's visits, as visits come.
use Rattle.std.proofs.Common.{◌≡◌, ◌<◌, ◌+◌, ℕ, Bool, true, false, ◌==◌, if◌then◌else◌, List, [], ◌∷◌, ◌++◌, length}
use Rattle.std.proofs.Common.{get_or, set, inl, inr, refl, sym, ap, ◌∙◌, arith, zero, suc, length-append}
use Rattle.std.proofs.lemmas.Bool.{cases_eq, eq-eqb, ne_eqb}
use Rattle.std.proofs.lemmas.List.{append-nil, get_or_default, get_or-set_same, get_or-set_other, length-set}
use Rattle.flt_model.specs.World.{Visit}
use Rattle.flt_ops.specs.Numbered.{numbers_from, numbers_of, AreRows}
use Rattle.flt_ops.proofs.Counts.{counted_more}

-- the number of a visit, where it is of the operation
abbrev number_of : ℕ → ℕ → Visit → List ℕ
number_of n o x = if x.operation == o then n ∷ [] else []

more_by : (n o : ℕ) (y : Visit) (visits : List Visit) (x : Visit) (b : Bool) → (y.operation == o) ≡ b →
    numbers_from (n + 1) o (visits ++ x ∷ []) ≡ numbers_from (n + 1) o visits ++ number_of (n + 1 + length visits) o x →
    numbers_from n o (y ∷ visits ++ x ∷ []) ≡ numbers_from n o (y ∷ visits) ++ number_of (n + 1 + length visits) o x
more_by n o y visits x true is rest = rw is (ap (λ (ns : List ℕ). n ∷ ns) rest)
more_by n o y visits x false is rest = rw is rest

-- one visit more, after so many
numbers_more : (n o : ℕ) (visits : List Visit) (x : Visit) (m : ℕ) → m ≡ n + length visits →
    numbers_from n o (visits ++ x ∷ []) ≡ numbers_from n o visits ++ number_of m o x
numbers_more n o [] x m is = ap (λ (k : ℕ). number_of k o x) (omega (arith, is))
numbers_more n o (y ∷ visits) x m is =
    more_by n o y visits x (y.operation == o) refl (numbers_more (n + 1) o visits x (n + 1 + length visits) refl)
    ∙ ap (λ (k : ℕ). numbers_from n o (y ∷ visits) ++ number_of k o x) (omega (arith, is))

-- an empty row more is what is read where there is none
appended : {X : Type 0} (xs : List X) (d : X) (i : ℕ) → get_or (xs ++ d ∷ []) i d ≡ get_or xs i d
appended [] d zero = refl
appended [] d (suc i) = refl
appended (x ∷ xs) d zero = refl
appended (x ∷ xs) d (suc i) = appended xs d i

-- there is room for one operation more
pub rows_room : (visits : List Visit) (settled : List Bool) (counts : List ℕ) (numbers : List (List ℕ)) →
    AreRows visits settled counts numbers → AreRows visits settled (counts ++ 0 ∷ []) (numbers ++ [] ∷ [])
rows_room visits settled counts numbers was = record {
  counted = record { same = was.counted.same; each = λ o. appended counts 0 o ∙ was.counted.each o };
  as_many = length-append numbers ([] ∷ []) ∙ ap (λ (n : ℕ). n + 1) was.as_many ∙ sym (length-append counts (0 ∷ []));
  each = λ o. appended numbers [] o ∙ was.each o;
}

rows_more : (visits : List Visit) (settled : List Bool) (counts : List ℕ) (numbers : List (List ℕ)) (x : Visit) (old new : List ℕ) →
    AreRows visits settled counts numbers → x.operation < length counts → old ≡ get_or numbers x.operation old →
    new ≡ old ++ length visits ∷ [] →
    AreRows (visits ++ x ∷ []) (settled ++ false ∷ []) (set counts x.operation (get_or counts x.operation 0 + 1))
    (set numbers x.operation new)
rows_more visits settled counts numbers x old new was here read pushed = record {
  counted = counted_more visits settled counts x was.counted here;
  as_many = length-set numbers x.operation new ∙ was.as_many ∙ sym (length-set counts x.operation (get_or counts x.operation 0 + 1));
  each = λ o. elim (cases_eq x.operation o) [
    | inl e ↦
        let is : (x.operation == o) ≡ true = eq-eqb x.operation o e in
        let mine : numbers_of o (visits ++ x ∷ []) ≡ numbers_of o visits ++ length visits ∷ [] =
        numbers_more 0 o visits x (length visits) (omega arith)
        ∙ ap (λ (b : Bool). numbers_of o visits ++ (if b then length visits ∷ [] else [])) is in
        let found : old ≡ numbers_of o visits =
        read ∙ get_or_default numbers x.operation old [] there ∙ ap (λ (k : ℕ). get_or numbers k []) e ∙ was.each o in
        ap (λ (k : ℕ). get_or (set numbers x.operation new) k []) (sym e)
        ∙ get_or-set_same numbers x.operation new [] there
        ∙ pushed
        ∙ ap (λ (ns : List ℕ). ns ++ length visits ∷ []) found
        ∙ sym mine
    | inr d ↦
        let is : (x.operation == o) ≡ false = ne_eqb x.operation o d in
        let others : numbers_of o (visits ++ x ∷ []) ≡ numbers_of o visits =
        numbers_more 0 o visits x (length visits) (omega arith)
        ∙ ap (λ (b : Bool). numbers_of o visits ++ (if b then length visits ∷ [] else [])) is
        ∙ append-nil (numbers_of o visits) in
        get_or-set_other numbers x.operation o new [] (λ e. d (sym e)) ∙ was.each o ∙ sym others
  ];
}
  where
    there : x.operation < length numbers
    there = omega (arith, here, was.as_many)

-- a new visit is the last of its operation, and counts there
pub rows_added : (visits more : List Visit) (settled open_ : List Bool) (counts : List ℕ) (numbers : List (List ℕ)) (x : Visit)
    (o n count : ℕ) (old new : List ℕ) → AreRows visits settled counts numbers → o < length counts → o ≡ x.operation →
    more ≡ visits ++ x ∷ [] → open_ ≡ settled ++ false ∷ [] → n ≡ length visits → count ≡ get_or counts o count →
    old ≡ get_or numbers o old → new ≡ old ++ n ∷ [] → AreRows more open_ (set counts o (count + 1)) (set numbers o new)
rows_added visits more settled open_ counts numbers x o n count old new was here of grown opened is counting read pushed =
    let counting_zero : count ≡ get_or counts x.operation 0 =
    counting ∙ get_or_default counts o count 0 here ∙ ap (λ (k : ℕ). get_or counts k 0) of in
    rw (grown, opened, counting_zero, of)
    (rows_more visits settled counts numbers x old new was (omega (arith, here, of)) (read ∙ ap (λ (k : ℕ). get_or numbers k old) of)
    (pushed ∙ ap (λ (k : ℕ). old ++ k ∷ []) is))
