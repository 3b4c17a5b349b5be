-- How the records of the machine are told apart where a struct stands for one.
use Rattle.std.specs.Prelude.{ℕ, Bool, List, Option, refl}
use Rattle.std.specs.Coded.{Coded, code_by, coded×, coded_ℕ, coded_bool, coded_list, coded_option}
use Rattle.flt_rules.specs.declared.held.HeldLock.{HeldLock}
use Rattle.flt_rules.specs.contracts.held.HeldLock as held
use Rattle.flt_tree.specs.declared.filter.Statement.{Statement}
use Rattle.flt_tree.specs.contracts.filter.Statement as tree
use Rattle.flt_model.specs.World.{Activation}

abbrev pub activation_code : Coded Activation
activation_code =
    code_by (List Statement × (List ℕ × (List (Option ℕ) × (List (Option ℕ) × (List HeldLock × Bool)))))
    (coded× (coded_list tree.the_row.coded)
    (coded× (coded_list coded_ℕ) (coded× (coded_list (coded_option coded_ℕ))
    (coded× (coded_list (coded_option coded_ℕ)) (coded× (coded_list held.the_row.coded) coded_bool)))))
    (λ a. (a.rest, (a.numbers, (a.contexts, (a.operations, (a.locks, a.ended))))))
    (λ t. record { rest = t.0; numbers = t.1.0; contexts = t.1.1.0; operations = t.1.1.1.0; locks = t.1.1.1.1.0; ended = t.1.1.1.1.1 })
    (λ _. refl)
