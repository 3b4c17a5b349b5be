-- What is said of the comments that are left, after one more.
use Rattle.std.proofs.Common.{◌≡◌, ℕ, suc, ◌+◌, ◌-◌, ◌<◌, ◌≤◌, List, ◌++◌, sym, ap, ◌∙◌, append_assoc, append-nil, arith}
use Rattle.flt_explain_warnings.specs.declared.allowance.Allowance.{Allowance}
use Rattle.flt_explain_warnings.specs.declared.warning.Warning.{Warning}
use Rattle.flt_explain_warning_details.specs.Details.{idle_at, idle_from}
use Rattle.flt_explain_warning_details.specs.Parsed.{Parsed}
use Rattle.flt_explain_warning_details.specs.declared.detail.WarningDetail.{WarningDetail}

-- what is said of a comment goes before what is said of those after it
pub one_comment : (x : Parsed) (comments : List Allowance) (ws : List Warning) (i end : ℕ) (all more : List WarningDetail) → i < end →
    more ≡ all ++ idle_at x comments ws i →
    more ++ idle_from x comments ws (i + 1) (end - (i + 1)) ≡ all ++ idle_from x comments ws i (end - i)
unfolding idle_from
one_comment x comments ws i end all more h e =
    let less : end - i ≡ suc (end - (i + 1)) = omega arith in
    ap (λ ds. ds ++ idle_from x comments ws (i + 1) (end - (i + 1))) e
    ∙ append_assoc all (idle_at x comments ws i) (idle_from x comments ws (i + 1) (end - (i + 1)))
    ∙ ap (λ n. all ++ idle_from x comments ws i n) (sym less)

-- where no comment is left nothing comes
pub no_comment : (x : Parsed) (comments : List Allowance) (ws : List Warning) (i end : ℕ) (all : List WarningDetail) → end ≤ i →
    all ++ idle_from x comments ws i (end - i) ≡ all
unfolding idle_from
no_comment x comments ws i end all h =
    let none : end - i ≡ 0 = omega arith in ap (λ n. all ++ idle_from x comments ws i n) none ∙ append-nil all
