-- Bits of few columns.
use Rattle.std.proofs.Common.{◌≡◌, ◌≤◌, ◌<◌, ◌+◌, ◌*◌, ◌^◌, ℕ, suc, arith}
use Rattle.std.proofs.Math.Nat.{pow-suc}
use Rattle.std.proofs.Math.Pow.{pow_mono}

-- twice the bits of seven columns, and one more, fit a `u32`
pub few : (n x : ℕ) → n + 1 ≤ 8 → x < 2 ^ n → 2 * x + 1 < 2 ^ 32
few n x h lt =
    let k : n ≤ 7 = omega (arith, h) in
    let a : 2 ^ n ≤ 2 ^ 7 = pow_mono k in
    omega (arith, a, lt)

-- a bit in front of others
pub one_more : (n b x : ℕ) → b ≤ 1 → x < 2 ^ n → b + 2 * x < 2 ^ suc n
one_more n b x h lt = let a : 2 ^ suc n ≡ 2 ^ n * 2 = pow-suc 2 n in omega (arith, a, h, lt)
