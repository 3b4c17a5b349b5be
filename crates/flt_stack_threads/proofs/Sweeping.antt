-- Words that were collected by their groups, and marks that are set again.
use Rattle.std.proofs.Common.{◌≡◌, ◌≢◌, ℕ, zero, suc, ◌+◌, ◌-◌, ◌*◌, ◌<◌, ◌≤◌, ◌==◌, eq-eqb, ne_eqb}
use Rattle.std.proofs.Common.{Bool, List, [], ◌∷◌, ◌++◌, refl, sym, ap, ◌∙◌, subst, arith}
use Rattle.std.specs.Prelude.{if◌then◌else◌}
use Rattle.std.specs.Int.{bit_at}
use Rattle.std.proofs.lemmas.Nat.Bits.{bit_at-zero}
use Rattle.std.proofs.lemmas.List.{append-nil, append_assoc}
use Rattle.flt_cancel.specs.Seats.{marks}
use Rattle.flt_cancel.specs.Serials.{serials, serials_below}
use Rattle.flt_cancel.specs.declared.seat.Seat.{Seat}
use Rattle.flt_cancel.specs.declared.step.Step.{Step}
use Rattle.flt_stack_threads.specs.Requests.{AreSetAgain, AreSwept}
use Rattle.flt_stack_threads.specs.Requests.AreSwept.{passed}

-- groups without a bit are passed over
passed_over : (count groups first : ℕ) (before after : List Step) → AreSwept groups first before after
    → ((k : ℕ) → first ≤ k → k < first + count → bit_at groups k ≡ 0) → AreSwept groups (first + count) before after
passed_over zero groups first before after done clear = subst (λ (n : ℕ). AreSwept groups n before after) (omega arith) done
passed_over (suc count) groups first before after done clear =
    subst (λ (n : ℕ). AreSwept groups n before after) (omega arith)
    (passed (first + count) before after
    (passed_over count groups first before after done (λ k from below. clear k from (omega arith)))
    (clear (first + count) (omega arith) (omega arith)))

-- up to a group, where none between has a bit
pub swept_up_to : (groups first end : ℕ) (before after : List Step) → AreSwept groups first before after → first ≤ end
    → ((k : ℕ) → first ≤ k → k < end → bit_at groups k ≡ 0) → AreSwept groups end before after
swept_up_to groups first end before after done order clear =
    subst (λ (n : ℕ). AreSwept groups n before after) (omega arith)
    (passed_over (end - first) groups first before after done (λ k from below. clear k from (omega arith)))

-- the serials of a word's lowest bits are one more, where the next bit is set
pub one_more_mark : (group groups : ℕ) (marks before : List ℕ) → bit_at groups group ≡ 1 → marks ≡ before ++ serials_below group 0 groups
    → marks ++ group ∷ [] ≡ before ++ serials_below (group + 1) 0 groups
one_more_mark group groups marks before set_bit so_far =
    let below : List ℕ = serials_below group 0 groups in
    let next : suc group ≡ group + 1 = omega arith in
    let zeroth : 64 * 0 + group ≡ group = omega arith in
    let piece : (if bit_at groups group == 1 then (64 * 0 + group) ∷ [] else []) ≡ group ∷ [] =
    ap (λ (b : Bool). if b then (64 * 0 + group) ∷ [] else []) (eq-eqb (bit_at groups group) 1 set_bit)
    ∙ ap (λ (n : ℕ). n ∷ []) zeroth in
    ap (λ (l : List ℕ). l ++ group ∷ []) so_far ∙ append_assoc before below (group ∷ [])
    ∙ ap (λ (l : List ℕ). before ++ (below ++ l)) (sym piece)
    ∙ ap (λ (n : ℕ). before ++ serials_below n 0 groups) next

-- and as many as before, where it isn't
pub no_more_mark : (group groups : ℕ) (marks before : List ℕ) → bit_at groups group ≢ 1 → marks ≡ before ++ serials_below group 0 groups
    → marks ≡ before ++ serials_below (group + 1) 0 groups
no_more_mark group groups marks before clear so_far =
    let below : List ℕ = serials_below group 0 groups in
    let next : suc group ≡ group + 1 = omega arith in
    let piece : (if bit_at groups group == 1 then (64 * 0 + group) ∷ [] else []) ≡ [] =
    ap (λ (b : Bool). if b then (64 * 0 + group) ∷ [] else []) (ne_eqb (bit_at groups group) 1 clear) in
    so_far ∙ ap (λ (l : List ℕ). before ++ l) (sym (append-nil below))
    ∙ ap (λ (l : List ℕ). before ++ (below ++ l)) (sym piece)
    ∙ ap (λ (n : ℕ). before ++ serials_below n 0 groups) next

-- a word without a bit has no serial
pub no_serials : (count : ℕ) → serials_below count 0 0 ≡ []
no_serials zero = refl
no_serials (suc count) =
    ap (λ (l : List ℕ). l ++ (if bit_at 0 count == 1 then (64 * 0 + count) ∷ [] else [])) (no_serials count)
    ∙ ap (λ (b : Bool). if b then (64 * 0 + count) ∷ [] else [])
    (ne_eqb (bit_at 0 count) 1 (λ one. let none_set = bit_at-zero count in omega (arith, one, none_set)))

-- where no mark was taken, none is to be set again
pub nothing_taken : (before after : Seat) → after ≡ before → AreSetAgain before after
nothing_taken before after same = (
  0,
  ap (λ (s : Seat). (marks s).collected) same ∙ no_more (marks before).collected,
  ap (λ (s : Seat). (marks s).asked) same ∙ no_more (marks before).asked,
)
  where
    no_more : (l : List ℕ) → l ≡ l ++ serials 0 0
    no_more l = sym (append-nil l) ∙ ap (λ (more : List ℕ). l ++ more) (sym (no_serials 64))
