-- How many digits numbers have.
use Rattle.std.proofs.Common.{◌≡◌, ◌≤◌, ◌<◌, ◌+◌, ◌/◌, ◌^◌, ℕ, length, ap, ◌∙◌, length-append}
use Rattle.std.specs.Fmt.{decimal}
use Rattle.std.proofs.lemmas.Fmt.{decimal_digit, decimal_step}

-- a number below ten has one digit
pub one_digit : (n : ℕ) → n < 10 → length (decimal n) ≡ 1
one_digit n less = ap length (decimal_digit n less)

-- ten times as much has one digit more
pub one_digit_more : (n : ℕ) → 10 ≤ n → n < 2 ^ 64 → length (decimal n) ≡ length (decimal (n / 10)) + 1
one_digit_more n more less = ap length (decimal_step n more less) ∙ length-append (decimal (n / 10)) _
