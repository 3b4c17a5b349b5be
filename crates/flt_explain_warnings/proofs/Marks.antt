-- What is marked once more, and what is left of the passes after one more.
use Rattle.std.proofs.Common.{◌≡◌, ℕ, zero, suc, ◌+◌, ◌-◌, ◌<◌, ◌≤◌, Bool, true, false}
use Rattle.std.proofs.Common.{List, [], ◌∷◌, length, get_or, refl, sym, ap, ◌∙◌, arith}
use Rattle.std.specs.Prelude.{slice_set, Some, None, if◌then◌else◌}
use Rattle.flt_graph.specs.declared.graph.Graph.{Graph}
use Rattle.flt_explain_warnings.specs.Flow.{followed, followed_from, passed, settled, is_end, first_end_from}
use Rattle.flt_explain_warnings.specs.declared.trail.Trail.{Trail}

-- a mark that is set again changes nothing
pub marked_again : (marks : List Bool) (i : ℕ) → get_or marks i false ≡ true → slice_set marks i true ≡ marks
marked_again [] i e = absurd (cc)
marked_again (true ∷ marks) zero e = refl
marked_again (false ∷ marks) zero e = absurd (cc)
marked_again (b ∷ marks) (suc i) e = ap (λ xs. b ∷ xs) (marked_again marks i e)

-- nor does one that isn't there
pub nothing_marked : (marks : List Bool) (i : ℕ) → length marks ≤ i → slice_set marks i true ≡ marks
nothing_marked [] i h = refl
nothing_marked (b ∷ marks) zero h = absurd (omega arith)
nothing_marked (b ∷ marks) (suc i) h = ap (λ xs. b ∷ xs) (nothing_marked marks i (omega arith))

-- a point that is followed leaves one less
pub one_point : (g : Graph) (callback : ℕ) (t : Trail) (i end : ℕ) (marks more : List Bool) → i < end →
    more ≡ followed g callback t i marks →
    followed_from g callback t (i + 1) (end - (i + 1)) more ≡ followed_from g callback t i (end - i) marks
unfolding followed_from
one_point g callback t i end marks more h e =
    let less : end - i ≡ suc (end - (i + 1)) = omega arith in
    ap (λ xs. followed_from g callback t (i + 1) (end - (i + 1)) xs) e ∙ ap (λ n. followed_from g callback t i n marks) (sym less)

-- where no point is left nothing changes
pub no_point : (g : Graph) (callback : ℕ) (t : Trail) (i end : ℕ) (marks : List Bool) → end ≤ i →
    followed_from g callback t i (end - i) marks ≡ marks
unfolding followed_from
no_point g callback t i end marks h =
    let none : end - i ≡ 0 = omega arith in ap (λ n. followed_from g callback t i n marks) none

-- a pass leaves one less
pub one_pass : (g : Graph) (callback : ℕ) (t : Trail) (i end : ℕ) (marks more : List Bool) → i < end →
    more ≡ passed g callback t marks →
    settled g callback t (end - (i + 1)) more ≡ settled g callback t (end - i) marks
unfolding settled
one_pass g callback t i end marks more h e =
    let less : end - i ≡ suc (end - (i + 1)) = omega arith in
    ap (λ xs. settled g callback t (end - (i + 1)) xs) e ∙ ap (λ n. settled g callback t n marks) (sym less)

-- where no pass is left nothing changes
pub no_pass : (g : Graph) (callback : ℕ) (t : Trail) (i end : ℕ) (marks : List Bool) → end ≤ i →
    settled g callback t (end - i) marks ≡ marks
unfolding settled
no_pass g callback t i end marks h =
    let none : end - i ≡ 0 = omega arith in ap (λ n. settled g callback t n marks) none

-- where a pass changes nothing no pass does
pub settled_once : (g : Graph) (callback : ℕ) (t : Trail) (n : ℕ) (marks : List Bool) → passed g callback t marks ≡ marks →
    settled g callback t n marks ≡ marks
unfolding settled
settled_once g callback t zero marks e = refl
settled_once g callback t (suc n) marks e = ap (λ xs. settled g callback t n xs) e ∙ settled_once g callback t n marks e

-- a point that is looked for is the first, where none before is
pub end_at : (g : Graph) (callback : ℕ) (t : Trail) (marks : List Bool) (i end : ℕ) → i < end → is_end g callback t marks i ≡ true →
    first_end_from g callback t marks i (end - i) ≡ Some i
unfolding first_end_from
end_at g callback t marks i end h e =
    let less : end - i ≡ suc (end - (i + 1)) = omega arith in
    ap (λ n. first_end_from g callback t marks i n) less
    ∙ ap (λ (b : Bool). if b then Some i else first_end_from g callback t marks (i + 1) (end - (i + 1))) e

-- one that isn't is passed over
pub no_end_at : (g : Graph) (callback : ℕ) (t : Trail) (marks : List Bool) (i end : ℕ) → i < end → is_end g callback t marks i ≡ false →
    first_end_from g callback t marks (i + 1) (end - (i + 1)) ≡ first_end_from g callback t marks i (end - i)
unfolding first_end_from
no_end_at g callback t marks i end h e =
    let less : end - i ≡ suc (end - (i + 1)) = omega arith in
    sym (ap (λ n. first_end_from g callback t marks i n) less
    ∙ ap (λ (b : Bool). if b then Some i else first_end_from g callback t marks (i + 1) (end - (i + 1))) e)

-- where no point is left there is none
pub no_end : (g : Graph) (callback : ℕ) (t : Trail) (marks : List Bool) (i end : ℕ) → end ≤ i →
    first_end_from g callback t marks i (end - i) ≡ None
unfolding first_end_from
no_end g callback t marks i end h =
    let none : end - i ≡ 0 = omega arith in ap (λ n. first_end_from g callback t marks i n) none
