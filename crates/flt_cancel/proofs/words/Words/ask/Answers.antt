use Rattle.std.proofs.Common.{ℕ, arith, ◌%◌, ◌/◌, subst, sym, refl}
use Rattle.std.proofs.lemmas.Nat.{one_shl}
use mathlib.Core.Option.{none}
use Rattle.std.specs.Prelude.{bit_or}
use Rattle.atomic_table.specs.Table.{Allows, step}
use Rattle.flt_cancel.specs.Rule.{Kept, Asked}
use Rattle.flt_cancel.proofs.Steps.{asks, asked_is_present}
use Rattle.flt_cancel.proofs.words.Words.ask.Goals as goal

pub fetch_or-requires : goal.fetch_or-requires
fetch_or-requires c =
    let t = c.args.self.now.table.shared.table_id.slots in let s = c.args.serial in let token = c.args.token.now in (
      c.requires.token,
      omega (arith, c.args.self.now.size, c.requires.serial),
      subst (λ (k : ℕ). Allows Kept t token.id token.me (s / 64) (λ n. bit_or n k) (Asked (step t (s / 64) k 0 none) token.me))
          (sym (one_shl (s % 64) 64 (omega arith)))
          (asks t token.id s token.me c.requires.serial),
    )

pub returns-clause-asked : goal.returns-clause-asked
returns-clause-asked c = (c.fetch_or.ensures.2 c.args.serial refl (one_shl (c.args.serial % 64) 64 (omega arith))).0

pub returns-clause-collected : goal.returns-clause-collected
returns-clause-collected c = (c.fetch_or.ensures.2 c.args.serial refl (one_shl (c.args.serial % 64) 64 (omega arith))).1

pub returns-clause-step : goal.returns-clause-step
returns-clause-step c = (c.fetch_or.ensures.2 c.args.serial refl (one_shl (c.args.serial % 64) 64 (omega arith))).2

pub returns-clause-present : goal.returns-clause-present
returns-clause-present c =
    let asked = c.fetch_or.ensures.2 c.args.serial refl (one_shl (c.args.serial % 64) 64 (omega arith)) in
    asked_is_present asked.2.0 c.args.serial _ _ asked.2.1
