-- Operations are read byte by byte, while one begins so: what is spelled so is read.
use Rattle.std.proofs.Common.{◌≡◌, ◌≢◌, ◌≤◌, ◌<◌, ◌+◌, ℕ, Bool, true, false, List, [], ◌∷◌, ◌++◌, length, take, drop, get_or}
use Rattle.std.proofs.Common.{refl, sym, ap, arith, subst, ◌∙◌, append_assoc, append-nil, length-append}
use Rattle.std.proofs.lemmas.Bool.{and_parts, eqb-true, eq-eqb, ne_eqb, leb-true}
use Rattle.std.proofs.lemmas.List.{take_at, drop_at, take-append-le}
use Rattle.std.proofs.lemmas.Slice.Eq.{starts_is}
use Rattle.std.specs.List.{starts_with}
use Rattle.std.specs.Prelude.{◌==◌, nat_eq, nat_le, ◌&&◌, not, if◌then◌else◌, find, Option, Some, None, Ok}
use Rattle.flt_rules.proofs.Operations.{of_each, same_is}
use Rattle.flt_rules.specs.Place.{all_operations, operation_name, same_operation}
use Rattle.flt_rules.specs.declared.place.Operation.{Operation}
use Rattle.flt_rules.specs.declared.place.Operation.TheVariants.{Create}
use Rattle.flt_model.specs.Streams.{Text}
use Rattle.flt_model.specs.JournalText.{operation_text, longest_operation}
use Rattle.flt_model.specs.JournalTextReading.{Outcome, byte, begun, operation_from, operation, IsOperationIn}
use Rattle.flt_model.proofs.Online.{Online, Seen, took, stopped, missing}

-- ---- the first that begins so

-- a text that begins so goes on with the rest
pub begins_so : (text front : Text) → starts_with nat_eq text front ≡ true → text ≡ front ++ drop (length front) text
begins_so text front h = (starts_is (λ a b. (eqb-true a b, eq-eqb a b)) text front (starts_with nat_eq text front) refl).0 h

-- what is found passes the test
pub found_passes : (test : Operation → Bool) (xs : List Operation) (o : Operation) → find test xs ≡ Some o → test o ≡ true
found_passes test [] o h = cc
found_passes test (x ∷ xs) o h = go (test x) refl h (found_passes test xs o)
  where
    go : (z : Bool) → test x ≡ z → (if z then Some x else find test xs) ≡ Some o → (find test xs ≡ Some o → test o ≡ true) → test o ≡ true
    go true e h others = let same : x ≡ o = cc in subst (λ y. test y ≡ true) same e
    go false e h others = others h

-- the operation that begins so goes on with the rest
pub begun_so : (front : Text) (o : Operation) → begun front ≡ Some o → operation_text o ≡ front ++ drop (length front) (operation_text o)
begun_so front o h =
    begins_so (operation_text o) front (found_passes (λ kind. starts_with nat_eq (operation_text kind) front) all_operations o h)

-- an operation whose last byte this is, is spelled so
last_so : (front : Text) (b : ℕ) (o : Operation) → begun (front ++ b ∷ []) ≡ Some o →
    (length (operation_text o) == length front + 1) ≡ true → front ++ b ∷ [] ≡ operation_text o
last_so front b o h last =
    let whole = begun_so (front ++ b ∷ []) o h in
    let count = eqb-true (length (operation_text o)) (length front + 1) last in
    sym (whole ∙ ap (λ w. (front ++ b ∷ []) ++ w) (none (drop (length (front ++ b ∷ [])) (operation_text o))
    (omega (
      arith,
      ap length whole,
      length-append (front ++ b ∷ []) (drop (length (front ++ b ∷ [])) (operation_text o)),
      length-append front (b ∷ []),
      count,
    ))) ∙ append-nil (front ++ b ∷ []))
  where
    none : (w : Text) → length w ≡ 0 → w ≡ []
    none [] h = refl
    none (x ∷ w) h = absurd (omega (arith, h))

-- what stands behind the same front decides
behind_front : (front xs ys : Text) → starts_with nat_eq (front ++ xs) (front ++ ys) ≡ starts_with nat_eq xs ys
behind_front [] xs ys = refl
behind_front (b ∷ front) xs ys = rw (eq-eqb b b refl) (behind_front front xs ys)

-- behind the front of an operation's name comes the name's next byte
pub next_byte : (o : Operation) (name front rest : Text) (n : ℕ) → name ≡ operation_name o → name ≡ front ++ rest → 1 ≤ length rest →
    (n == get_or rest 0 0) ≡ starts_with nat_eq (operation_text o) (front ++ n ∷ [])
next_byte o name front [] n is split some = absurd (omega (arith, some))
next_byte o name front (b ∷ rest) n is split some =
    sym (ap (λ t. starts_with nat_eq (t ++ 32 ∷ []) (front ++ n ∷ [])) (sym is ∙ split)
    ∙ ap (λ t. starts_with nat_eq t (front ++ n ∷ [])) (append_assoc front (b ∷ rest) (32 ∷ []))
    ∙ behind_front front (b ∷ (rest ++ 32 ∷ [])) (n ∷ []) ∙ alone (n == b))
  where
    alone : (x : Bool) → (x && true) ≡ x
    alone true = refl
    alone false = refl

-- an operation whose name doesn't begin so doesn't
pub not_begun : (o : Operation) (name front : Text) (n : ℕ) → name ≡ operation_name o → ((rest : Text) → name ≢ front ++ rest) →
    false ≡ starts_with nat_eq (operation_text o) (front ++ n ∷ [])
not_begun o name front n is other = go (starts_with nat_eq (operation_text o) (front ++ n ∷ [])) refl
  where
    within : (name front w : Text) → name ++ 32 ∷ [] ≡ front ++ n ∷ w → ((rest : Text) → name ≢ front ++ rest) → ⊥
    within name [] w e other = other name refl
    within [] (x ∷ front) w e other = absurd (omega (arith, ap length e, length-append front (n ∷ w)))
    within (y ∷ name) (x ∷ front) w e other =
        let same : y ≡ x = cc in
        let others : name ++ 32 ∷ [] ≡ front ++ n ∷ w = cc in
        within name front w others (λ rest h. other rest (rw (same, h) refl))

    go : (z : Bool) → starts_with nat_eq (operation_text o) (front ++ n ∷ []) ≡ z → false ≡ z
    go true e = absurd (within name front (drop (length (front ++ n ∷ [])) (operation_text o)) (ap (λ t. t ++ 32 ∷ []) is
        ∙ begins_so (operation_text o) (front ++ n ∷ []) e
        ∙ append_assoc front (n ∷ []) (drop (length (front ++ n ∷ [])) (operation_text o))) other)
    go false e = refl

-- ---- an operation is read up to the first byte that none goes on with

abbrev Behind : Text → Text → Operation → Type 0
Behind front c o = front ++ c ≡ operation_text o

-- one byte further, as it is seen from the byte before
further : (front : Text) (b : ℕ) (text : Text) (out : Outcome Operation) →
    ((s : Text) → operation_from front (b ∷ s) ≡ operation_from (front ++ b ∷ []) s) →
    Seen (Behind (front ++ b ∷ [])) (operation_from (front ++ b ∷ [])) text out → Seen (Behind front) (operation_from front) (b ∷ text) out
further front b text _ step (took c a left e h l) =
    took (b ∷ c) a left (ap (λ z. b ∷ z) e) (sym (append_assoc front (b ∷ []) c) ∙ h) (λ s. step (c ++ s) ∙ l s)
further front b text _ step (stopped c d left w a e l h) =
    stopped (b ∷ c) d left w a (ap (λ z. b ∷ z) e) (λ s. step (c ++ d ∷ s) ∙ l s) (sym (append_assoc front (b ∷ []) (c ++ w)) ∙ h)
further front b text _ step (missing c w a e h) =
    missing (b ∷ c) w a (ap (λ z. b ∷ z) e) (sym (append_assoc front (b ∷ []) (c ++ w)) ∙ h)

-- from here on, whatever may come: an operation is read up to the first byte that none goes on with
abbrev SeenFrom : Text → Text → Type 0
SeenFrom front text =
    (w : Text) (o : Operation) → Behind front w o → Seen (Behind front) (operation_from front) text (operation_from front text)

seen_from : (front text : Text) → SeenFrom front text
seen_from front [] w o h = missing [] w o refl h
seen_from front (b ∷ text) w o h = by (begun (front ++ b ∷ [])) refl (seen_from (front ++ b ∷ []) text)
  where
    more : (p : Operation) (z : Bool) → begun (front ++ b ∷ []) ≡ Some p → (length (operation_text p) == length front + 1) ≡ z →
        SeenFrom (front ++ b ∷ []) text → Seen (Behind front) (operation_from front) (b ∷ text) (operation_from front (b ∷ text))
    more p true e last later = rw (e, last) (took (b ∷ []) p text refl (last_so front b p e last) (λ s. rw (e, last) refl))
    more p false e last later =
        rw (e, last) (further front b text (operation_from (front ++ b ∷ []) text) (λ s. rw (e, last) refl)
        (later (drop (length (front ++ b ∷ [])) (operation_text p)) p (sym (begun_so (front ++ b ∷ []) p e))))

    by : (found : Option Operation) → begun (front ++ b ∷ []) ≡ found → SeenFrom (front ++ b ∷ []) text →
        Seen (Behind front) (operation_from front) (b ∷ text) (operation_from front (b ∷ text))
    by None e later = rw e (stopped [] b text w o refl (λ s. rw e refl) h)
    by (Some p) e later = more p (length (operation_text p) == length front + 1) e refl later

pub operation_online : Online (λ c o. c ≡ operation_text o) operation
unfolding operation
operation_online = record {
  spelled = operation_text Create;
  value = Create;
  some = refl;
  seen = λ text. seen_from [] text (operation_text Create) Create refl;
}

-- ---- what is spelled so is read

-- behind these bytes an operation is read of others: up to the last of them one begins so, and no shorter one is spelled
abbrev goes : Text → Text → Operation → Bool
goes front [] o = false
goes front (b ∷ rest) o = by (begun (front ++ b ∷ [])) rest (goes (front ++ b ∷ []) rest o)
  where
    by : Option Operation → Text → Bool → Bool
    by None rest more = false
    by (Some p) [] more = (length (operation_text p) == length front + 1) && same_operation p o
    by (Some p) (c ∷ rest) more = not (length (operation_text p) == length front + 1) && more

each_goes : (o : Operation) → goes [] (operation_text o) o ≡ true
each_goes = of_each (λ o. goes [] (operation_text o) o) refl

read_so : (front rest : Text) (o : Operation) (text : Text) → goes front rest o ≡ true → operation_from front (rest ++ text) ≡ Ok (o, text)
read_so front [] o text h = cc
read_so front (b ∷ rest) o text h = by (begun (front ++ b ∷ [])) refl rest h (read_so (front ++ b ∷ []) rest o text)
  where
    unset : (x : Bool) → not x ≡ true → x ≡ false
    unset true h = cc
    unset false h = refl

    by : (found : Option Operation) → begun (front ++ b ∷ []) ≡ found → (rest : Text) → goes front (b ∷ rest) o ≡ true →
        (goes (front ++ b ∷ []) rest o ≡ true → operation_from (front ++ b ∷ []) (rest ++ text) ≡ Ok (o, text)) →
        operation_from front (b ∷ (rest ++ text)) ≡ Ok (o, text)
    by None e rest h more = let no : false ≡ true = rw e at h in cc
    by (Some p) e [] h more =
        let both = and_parts (length (operation_text p) == length front + 1) (same_operation p o) (rw e at h) in
        rw (e, both.0) (ap (λ q. Ok (q, text)) (same_is p o both.1))
    by (Some p) e (c ∷ rest) h more =
        let both = and_parts (not (length (operation_text p) == length front + 1)) (goes (front ++ b ∷ []) (c ∷ rest) o) (rw e at h) in
        rw (e, unset (length (operation_text p) == length front + 1) both.0) (more both.1)

-- an operation's text is read as it
pub operation_again : (o : Operation) (text : Text) → operation (operation_text o ++ text) ≡ Ok (o, text)
unfolding operation
operation_again o text = read_so [] (operation_text o) o text (each_goes o)

-- ---- the loop over bytes, and bytes at hand

-- no operation's text is longer
longest : (o : Operation) → length (operation_text o) ≤ longest_operation
longest o =
    leb-true (length (operation_text o)) longest_operation (of_each (λ o. nat_le (length (operation_text o)) longest_operation) refl o)

-- where the operation that begins so has another byte before the blank, its name has these bytes in front
pub one_further : (o : Operation) (name front : Text) (b : ℕ) → name ≡ operation_name o → begun (front ++ b ∷ []) ≡ Some o →
    length front ≢ length name → (take (length front + 1) name ≡ front ++ b ∷ []) × ((length front + 1 < longest_operation)
    × ((length (operation_text o) == length front + 1) ≡ false))
one_further o name front b is found other =
    let w = drop (length (front ++ b ∷ [])) (operation_text o) in
    let whole : operation_text o ≡ (front ++ b ∷ []) ++ w = begun_so (front ++ b ∷ []) o found in
    let text : length (operation_text o) ≡ length name + 1 = ap length (ap (λ t. t ++ 32 ∷ []) (sym is)) ∙ length-append name (32 ∷ []) in
    let front_length : length (front ++ b ∷ []) ≡ length front + 1 = length-append front (b ∷ []) in
    let both : length (operation_text o) ≡ length (front ++ b ∷ []) + length w = ap length whole ∙ length-append (front ++ b ∷ []) w in (
      sym (take-append-le (length front + 1) name (32 ∷ []) (omega (arith, text, front_length, both, other)))
          ∙ ap (take (length front + 1)) (ap (λ t. t ++ 32 ∷ []) is ∙ whole) ∙ take_at (front ++ b ∷ []) w (length front + 1) front_length,
      (
        omega (arith, text, front_length, both, other, longest o),
        ne_eqb (length (operation_text o)) (length front + 1) (λ e. other (omega (arith, text, e))),
      ),
    )

-- one more byte is read
pub goes_further : (o : Operation) (front text new : Text) (b : ℕ) → byte text ≡ Ok (b, new) → begun (front ++ b ∷ []) ≡ Some o →
    (length (operation_text o) == length front + 1) ≡ false → operation_from front text ≡ operation_from (front ++ b ∷ []) new
goes_further o front [] new b read found more = cc
goes_further o front (a ∷ text) new b read found more =
    let whole : ◌≡◌ {A = ℕ × Text} (a, text) (b, new) = cc in
    rw (ap (λ q. q.0) whole, ap (λ q. q.1) whole, found, more) refl

-- the operation with whose text some bytes begin is read of them
pub operation_at_hand : (bytes : Text) (o : Operation) (n : ℕ) →
    find (λ kind. starts_with nat_eq bytes (operation_text kind)) all_operations ≡ Some o → n ≡ length (operation_name o) →
    IsOperationIn bytes o (n + 1)
operation_at_hand bytes o n found is =
    let w = drop (length (operation_text o)) bytes in
    let split : bytes ≡ operation_text o ++ w =
    begins_so bytes (operation_text o) (found_passes (λ kind. starts_with nat_eq bytes (operation_text kind)) all_operations o found) in
    let text : length (operation_text o) ≡ n + 1 = length-append (operation_name o) (32 ∷ []) ∙ ap (λ k. k + 1) (sym is) in
    let both : length bytes ≡ length (operation_text o) + length w = ap length split ∙ length-append (operation_text o) w in (
      omega (arith, text, both),
      λ left.
          let whole : bytes ++ left ≡ operation_text o ++ (w ++ left) =
          ap (λ t. t ++ left) split ∙ append_assoc (operation_text o) w left in
          ap operation whole ∙ operation_again o (w ++ left)
          ∙ ap (λ t. Ok (o, t)) (sym (ap (drop (n + 1)) whole ∙ drop_at (operation_text o) (w ++ left) (n + 1) text)),
    )
