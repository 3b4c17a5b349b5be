-- Parts of a list by where they begin.
use Rattle.std.proofs.Common.{◌≡◌, ℕ, ◌+◌, List, [], ◌∷◌, ◌++◌, ◌∙◌, length, get_or, append_assoc, ap, refl, arith}
use Rattle.std.proofs.lemmas.List.{length-append, get_or_at}

-- a list has a part at a number
pub record IsAt {A : Type 0} (whole part : List A) (n : ℕ) : Type 0 where
  pub ahead : List A
  pub behind : List A
  pub same : whole ≡ ahead ++ (part ++ behind)
  pub long : length ahead ≡ n

-- the first of two parts begins where both do
pub at_first : {A : Type 0} {whole : List A} {n : ℕ} (a b : List A) → IsAt whole (a ++ b) n → IsAt whole a n
at_first a b h = record {
  ahead = h.ahead;
  behind = b ++ h.behind;
  same = h.same ∙ simp append_assoc;
  long = h.long;
}

-- the second of two parts begins after the first
pub at_second : {A : Type 0} {whole : List A} {n : ℕ} (a b : List A) (k : ℕ) → length a ≡ k → IsAt whole (a ++ b) n → IsAt whole b (n + k)
at_second a b k e h = record {
  ahead = h.ahead ++ a;
  behind = h.behind;
  same = h.same ∙ simp append_assoc;
  long = length-append h.ahead a ∙ omega (arith, h.long, e);
}

-- the rest of a part begins one place on
pub at_tail : {A : Type 0} {whole : List A} {n : ℕ} (x : A) (b : List A) → IsAt whole (x ∷ b) n → IsAt whole b (n + 1)
at_tail x b h = at_second (x ∷ []) b 1 refl h

-- the first element of a part is at its place
pub at_head : {A : Type 0} {whole : List A} {n : ℕ} (x : A) (b : List A) (d : A) → IsAt whole (x ∷ b) n → get_or whole n d ≡ x
at_head {n = n} x b d h = ap (λ (l : List _). get_or l n d) h.same ∙ get_or_at h.ahead x (b ++ h.behind) d n h.long
