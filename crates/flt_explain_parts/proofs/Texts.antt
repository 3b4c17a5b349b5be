-- Several texts, one behind the other: their numbers, and the greatest of their statuses.
use Rattle.std.proofs.Common.{◌≡◌, ℕ, suc, ◌+◌, ◌<◌, List, [], ◌∷◌, ◌++◌, length, take, get_or}
use Rattle.std.proofs.Common.{max, refl, arith}
use Rattle.std.proofs.Math.Seq.{take-suc}
use Rattle.std.proofs.lemmas.Grind.{common_steps}
use Rattle.flt_explain_texts.specs.declared.sources.Source.{Source}

-- the greatest of three numbers
pub max_assoc : (a b c : ℕ) → max (max a b) c ≡ max a (max b c)
max_assoc a b c = omega arith

-- nothing is less than a number
pub none_or : (n a : ℕ) → a ≡ 0 → max a n ≡ max n 0
none_or n a none = omega (arith, none)

-- a number behind so many
pub next_number : (number count at : ℕ) → at ≡ number + suc count → at ≡ number + 1 + count
next_number number count at is = omega (arith, is)

module _ (all : List Source) (i : ℕ) (d : Source) (within : i < length all) where
  -- the texts so far and the next one
  pub one_source_more : take (i + 1) all ≡ take i all ++ get_or all i d ∷ []
  one_source_more =
      let next : take (suc i) all ≡ take i all ++ get_or all i d ∷ [] = take-suc all i d within in
      let same : i + 1 ≡ suc i = omega arith in
      rw (same, next) refl

  -- so many texts are before it
  pub counted_before : i ≡ 0 + length (take i all)
  counted_before = grind (arith, common_steps)
