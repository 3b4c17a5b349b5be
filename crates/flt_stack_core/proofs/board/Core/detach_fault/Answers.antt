use Rattle.std.proofs.Common.{◌≡◌, ◌==◌, true, false, length, rules, arith}
use Rattle.flt_stack_core.proofs.Detached.{already, both_pass, detach_disabled, has_none, has_one, is_full, no_such, none_is}
use Rattle.flt_stack_core.proofs.board.Core.detach_fault.Goals as goal
use Rattle.flt_rules.specs.Limits.{max_entries}

pub returns-then-number-filters-clause-fault : goal.returns-then-number-filters-clause-fault
returns-then-number-filters-clause-fault g c =
    let p = g.N.StackName.trees in
    let loaded = c.requires.loaded in
    no_such _ _ _ (has_none p c.args.altitude c.number.result c.filters.result (c.number.ensures p loaded) (c.filters.ensures p loaded)
    (omega arith))

pub returns-then-not-is_enabled-clause-fault : goal.returns-then-not-is_enabled-clause-fault
returns-then-not-is_enabled-clause-fault g c =
    let p = g.N.StackName.trees in
    let l = c.requires.loaded in
    let a = c.args.altitude in
    let has = has_one p a c.number.result c.filters.result (c.number.ensures p l) (c.filters.ensures p l) (omega arith) in
    let same = detach_disabled p c.args.loaded.now c.args.self.now.board a c.number.result l c.board.ensures.own c.number.ensures in
    let off : c.is_enabled.result ≡ false = search rules in
    already _ _ _ has (same.1 (c.is_enabled.ensures.0 off))

pub returns-then-entries-eq-MAX_ENTRIES-clause-fault : goal.returns-then-entries-eq-MAX_ENTRIES-clause-fault
returns-then-entries-eq-MAX_ENTRIES-clause-fault g c =
    let p = g.N.StackName.trees in
    let l = c.requires.loaded in
    let a = c.args.altitude in
    let has = has_one p a c.number.result c.filters.result (c.number.ensures p l) (c.filters.ensures p l) (omega arith) in
    let same = detach_disabled p c.args.loaded.now c.args.self.now.board a c.number.result l c.board.ensures.own c.number.ensures in
    let on : c.is_enabled.result ≡ true = search rules in
    let full : (length c.args.self.now.board.entries == max_entries) ≡ true = search rules in
    is_full _ _ _ has (both_pass _ _ _ c.is_enabled.ensures same on) full

pub returns-clause-fault : goal.returns-clause-fault
returns-clause-fault g c =
    let p = g.N.StackName.trees in
    let l = c.requires.loaded in
    let a = c.args.altitude in
    let has = has_one p a c.number.result c.filters.result (c.number.ensures p l) (c.filters.ensures p l) (omega arith) in
    let same = detach_disabled p c.args.loaded.now c.args.self.now.board a c.number.result l c.board.ensures.own c.number.ensures in
    let on : c.is_enabled.result ≡ true = search rules in
    let room : (length c.args.self.now.board.entries == max_entries) ≡ false = search rules in
    none_is _ _ _ has (both_pass _ _ _ c.is_enabled.ensures same on) room
