-- What an `if` asks is read back.
use Rattle.std.proofs.Common.{◌≡◌, ℕ, Bool, true, false, [], ◌∷◌, ◌++◌, refl, ap, ◌∙◌, append-nil}
use Rattle.std.specs.Prelude.{not, ◌||◌, Option, Some, None, codes}
use Rattle.flt_rules.specs.declared.call.Anchor.{Anchor}
use Rattle.flt_rules.specs.declared.call.Anchor.TheVariants.{Stream, Instance}
use Rattle.flt_rules.specs.declared.place.Place.{Place}
use Rattle.flt_tree.specs.Names.{Text, is_name}
use Rattle.flt_tree.specs.WellFormed.{IsAtom, IsTest, IsFallible, IsCondition}
use Rattle.flt_tree.specs.declared.filter.Condition.{Condition}
use Rattle.flt_tree.specs.declared.filter.Condition.TheVariants as made
use Rattle.flt_tree.specs.declared.filter.FallibleCall.{FallibleCall}
use Rattle.flt_tree.specs.declared.filter.FallibleCall.TheVariants as fallible
use Rattle.flt_tree.specs.declared.filter.Routine.{Routine}
use Rattle.flt_tree.specs.declared.filter.Test.{Test}
use Rattle.flt_tree.specs.declared.filter.Test.TheVariants.{ContextIsSome, OperationIsSome, Equal, Less, IsIrp, IsDraining}
use Rattle.flt_tree.specs.declared.variable.Atom.{Atom}
use Rattle.flt_tree.specs.declared.variable.ContextVariable.{ContextVariable}
use Rattle.flt_tree.specs.declared.variable.ContextVariable.TheVariants as contexts
use Rattle.flt_tree.specs.declared.variable.NumberVariable.{NumberVariable}
use Rattle.flt_tree.specs.declared.variable.NumberVariable.TheVariants as numbers
use Rattle.flt_tree.specs.declared.variable.RemovedVariable.{RemovedVariable}
use Rattle.flt_tree.specs.declared.variable.RemovedVariable.TheVariants as removed
use Rattle.flt_emit.specs.Expressions.{is_variable, is_zero, constant, compared, null_sign, equal_sign, less_sign, negation}
use Rattle.flt_emit.specs.Expressions.{test_text, anchored, address, context_type, fallible_text, condition_text}
use Rattle.flt_emit.specs.Line.{atom_text}
use Rattle.flt_emit.specs.Names.{number_name, context_name, context_or_null, removed_name, instance, own_file, existing_name}
use Rattle.flt_emit.specs.Scope.{Scope, allocates_for_instance}
use Rattle.flt_print.specs.Reprinting.{call_without, condition_without}
use Rattle.flt_emit_read.specs.Front.{Front, after}
use Rattle.flt_emit_read.specs.Lines.{Asked, known_value, comparison_at, if_same, known_at, if_none, unknown_at, null_at, anchor_given}
use Rattle.flt_emit_read.specs.Lines.{get_at, set_at, delete_at, named, queued_at, remove_at, generic_at, allocate_at, fallible_at}
use Rattle.flt_emit_read.specs.Lines.{succeeds_at, condition_at, test_at, test_forms, named_test_at, number_name_at, context_at, removed_at}
use Rattle.flt_emit_read.proofs.Fronts.{then_reads, after_again, name_reads, joined_pieces}
use Rattle.flt_emit_read.proofs.Names.{number_name_reads, context_reads, removed_reads, existing_reads}
use Rattle.flt_emit_read.proofs.Names.{optional_reads, address_reads, atom_reads}

-- ---- tests

equal_reads : (turned : Bool) (n : NumberVariable) (x : Atom) (r : Text) → IsAtom x →
    comparison_at n (equal_sign turned ++ (atom_text x ++ r)) ≡ Some ((turned, Equal n x), r)
unfolding comparison_at
equal_reads true n x r ok = then_reads _ (atom_reads x r ok)
equal_reads false n x r ok = then_reads _ (atom_reads x r ok)

less_reads : (turned : Bool) (n : NumberVariable) (x : Atom) (r : Text) → IsAtom x →
    comparison_at n (less_sign turned ++ (atom_text x ++ r)) ≡ Some ((turned, Less n x), r)
unfolding comparison_at
less_reads true n x r ok = then_reads _ (atom_reads x r ok)
less_reads false n x r ok = then_reads _ (atom_reads x r ok)

module _ (at : Place) where
  number_asks : (n : NumberVariable) (z : Text) → condition_at at (number_name n ++ z) ≡ unknown_at n z
  unfolding condition_at test_at test_forms named_test_at number_name_at context_at removed_at
  number_asks numbers.N0 z = refl
  number_asks numbers.N1 z = refl
  number_asks numbers.N2 z = refl
  number_asks numbers.N3 z = refl
  number_asks numbers.N4 z = refl
  number_asks numbers.N5 z = refl
  number_asks numbers.N6 z = refl
  number_asks numbers.N7 z = refl

  context_asks : (c : ContextVariable) (z : Text) → condition_at at (context_name c ++ z) ≡ null_at (ContextIsSome c) z
  unfolding condition_at test_at test_forms named_test_at number_name_at context_at removed_at
  context_asks contexts.C0 z = refl
  context_asks contexts.C1 z = refl
  context_asks contexts.C2 z = refl
  context_asks contexts.C3 z = refl
  context_asks contexts.C4 z = refl
  context_asks contexts.C5 z = refl
  context_asks contexts.C6 z = refl
  context_asks contexts.C7 z = refl
  context_asks contexts.Arg z = refl

  removed_asks : (o : RemovedVariable) (z : Text) → condition_at at (removed_name o ++ z) ≡ null_at (OperationIsSome o) z
  unfolding condition_at test_at test_forms named_test_at number_name_at context_at removed_at
  removed_asks removed.O0 z = refl
  removed_asks removed.O1 z = refl
  removed_asks removed.O2 z = refl
  removed_asks removed.O3 z = refl

  null_reads : (turned : Bool) (t : Test) (r : Text) → null_at t (null_sign turned ++ r) ≡ Some ((turned, made.Test t), r)
  unfolding null_at
  null_reads true t r = refl
  null_reads false t r = refl

  constant_asks : (value : Bool) (z : Text) → condition_at at (constant value ++ (codes " /* " ++ z)) ≡ known_at value z
  unfolding condition_at test_at test_forms named_test_at number_name_at context_at removed_at
  constant_asks true z = refl
  constant_asks false z = refl

  same_reads : (value : Bool) (x : Front Asked) → if_same value (Some value) x ≡ x
  same_reads true x = refl
  same_reads false x = refl

  -- a comparison, given how it is read
  compared_reads : (known value : Bool) (turned : Bool) (n : NumberVariable) (sign : Text) (x : Atom) (t : Test) (r : Text) →
      ((z : Text) → comparison_at n (sign ++ (atom_text x ++ z)) ≡ Some ((turned, t), z)) →
      (known ≡ true → known_value turned t ≡ Some value) → (known ≡ false → known_value turned t ≡ None) →
      condition_at at (compared known value n sign x ++ r) ≡ Some ((turned, made.Test t), r)
  unfolding known_at unknown_at
  compared_reads true value turned n sign x t r reads e f =
      ap (condition_at at)
      (joined_pieces (constant value ∷ codes " /* " ∷ number_name n ∷ sign ∷ atom_text x ∷ codes " */" ∷ []) r)
      ∙ constant_asks value _ ∙ then_reads _ (number_name_reads n _) ∙ then_reads _ (reads (codes " */" ++ r))
      ∙ ap (λ k. if_same value k (Some ((turned, made.Test t), r))) (e refl)
      ∙ same_reads value (Some ((turned, made.Test t), r))
  compared_reads false value turned n sign x t r reads e f =
      ap (condition_at at) (joined_pieces (number_name n ∷ sign ∷ atom_text x ∷ []) r)
      ∙ number_asks n _ ∙ then_reads _ (reads r) ∙ ap (λ k. if_none k (Some ((turned, made.Test t), r))) (f refl)

  test_reads : (turned : Bool) (t : Test) (r : Text) → IsTest t →
      condition_at at (test_text turned t ++ r) ≡ Some ((turned, made.Test t), r)
  unfolding condition_at test_at test_forms named_test_at number_name_at context_at removed_at
  test_reads turned (ContextIsSome c) r ok =
      ap (condition_at at) (joined_pieces (context_name c ∷ null_sign turned ∷ []) r)
      ∙ context_asks c (null_sign turned ++ r) ∙ null_reads turned (ContextIsSome c) r
  test_reads turned (OperationIsSome o) r ok =
      ap (condition_at at) (joined_pieces (removed_name o ∷ null_sign turned ∷ []) r)
      ∙ removed_asks o (null_sign turned ++ r) ∙ null_reads turned (OperationIsSome o) r
  test_reads turned (Equal n x) r ok =
      compared_reads (is_variable n x) (not turned) turned n (equal_sign turned) x (Equal n x) r (λ z. equal_reads turned n x z ok)
      (λ e. rw e refl) (λ e. rw e refl)
  test_reads turned (Less n x) r ok =
      compared_reads (is_variable n x || is_zero x) turned turned n (less_sign turned) x (Less n x) r (λ z. less_reads turned n x z ok)
      (λ e. rw e refl) (λ e. rw e refl)
  test_reads true IsIrp r ok = refl
  test_reads false IsIrp r ok = refl
  test_reads true IsDraining r ok = refl
  test_reads false IsDraining r ok = refl

  -- ---- calls

  anchored_given : (anchor : Anchor) → anchored at anchor ≡ anchor_given at anchor
  anchored_given Stream = ap (λ z. instance at ++ (codes ", " ++ z)) (append-nil (own_file at))
  anchored_given Instance = refl

  -- what follows what a call is given first
  anchor_reads : (anchor : Anchor) (z : Text) → after (anchor_given at anchor) (anchored at anchor ++ z) ≡ Some z
  anchor_reads anchor z =
      ap (λ x. after (anchor_given at anchor) (x ++ z)) (anchored_given anchor) ∙ after_again (anchor_given at anchor) z

  get_reads : (anchor : Anchor) (c : ContextVariable) (r : Text) →
      get_at at anchor (anchored at anchor ++ (codes ", &" ++ (context_name c ++ r))) ≡ Some (fallible.GetContext anchor c, r)
  unfolding get_at
  get_reads anchor c r = then_reads _ (anchor_reads anchor _) ∙ then_reads _ (context_reads c r)

  delete_reads : (anchor : Anchor) (old : Option ContextVariable) (r : Text) →
      delete_at at anchor (anchored at anchor ++ (codes ", " ++ (address old ++ (context_or_null old ++ r)))) ≡
      Some (fallible.DeleteContextOf anchor old, r)
  unfolding delete_at
  delete_reads anchor old r = then_reads _ (anchor_reads anchor _) ∙ then_reads _ (address_reads old r)

  queued_reads : (made : Routine → Option ContextVariable → FallibleCall Routine) (name : Text) (c : Option ContextVariable) (r : Text) →
      is_name name ≡ true → queued_at made (name ++ (codes ", " ++ (context_or_null c ++ r))) ≡ Some (made (named name) c, r)
  unfolding queued_at
  queued_reads made name c r h =
      then_reads _ (name_reads name (codes ", " ++ (context_or_null c ++ r)) h refl) ∙ then_reads _ (optional_reads c r)

  allocate_reads : (instances : Bool) (c : ContextVariable) (r : Text) →
      allocate_at (context_type instances ++ (codes ", &" ++ (context_name c ++ r))) ≡ Some (fallible.AllocateContext c, r)
  unfolding allocate_at
  allocate_reads true c r = then_reads _ (context_reads c r)
  allocate_reads false c r = then_reads _ (context_reads c r)

module _ (scope : Scope) (queue : Bool) (point : ℕ) where
  fallible_reads : (c : FallibleCall Routine) (r : Text) → IsFallible queue c →
      fallible_at scope.place (fallible_text scope point c ++ r) ≡ Some (call_without c, r)
  unfolding fallible_at set_at remove_at generic_at
  fallible_reads (fallible.AllocateContext c) r ok =
      ap (fallible_at scope.place)
      (joined_pieces (codes "AllocateContext( " ∷ context_type (allocates_for_instance scope point) ∷ codes ", &" ∷ context_name c ∷ []) r)
      ∙ allocate_reads scope.place (allocates_for_instance scope point) c r
  fallible_reads (fallible.GetContext Stream c) r ok =
      ap (fallible_at scope.place)
      (joined_pieces (codes "Get" ∷ codes "StreamContext( " ∷ anchored scope.place Stream ∷ codes ", &" ∷ context_name c ∷ []) r)
      ∙ get_reads scope.place Stream c r
  fallible_reads (fallible.GetContext Instance c) r ok =
      ap (fallible_at scope.place)
      (joined_pieces (codes "Get" ∷ codes "InstanceContext( " ∷ anchored scope.place Instance ∷ codes ", &" ∷ context_name c ∷ []) r)
      ∙ get_reads scope.place Instance c r
  fallible_reads (fallible.SetContext Stream e c old) r ok =
      ap (fallible_at scope.place)
      (joined_pieces (codes "Set" ∷ codes "StreamContext( " ∷ anchored scope.place Stream ∷ codes ", " ∷ existing_name e ∷ codes ", "
      ∷ context_name c ∷ codes ", " ∷ address old ∷ context_or_null old ∷ []) r)
      ∙ then_reads _ (anchor_reads scope.place Stream _) ∙ then_reads _ (existing_reads e _) ∙ then_reads _ (context_reads c _)
      ∙ then_reads _ (address_reads old r)
  fallible_reads (fallible.SetContext Instance e c old) r ok =
      ap (fallible_at scope.place)
      (joined_pieces (codes "Set" ∷ codes "InstanceContext( " ∷ anchored scope.place Instance ∷ codes ", " ∷ existing_name e ∷ codes ", "
      ∷ context_name c ∷ codes ", " ∷ address old ∷ context_or_null old ∷ []) r)
      ∙ then_reads _ (anchor_reads scope.place Instance _) ∙ then_reads _ (existing_reads e _) ∙ then_reads _ (context_reads c _)
      ∙ then_reads _ (address_reads old r)
  fallible_reads (fallible.DeleteContextOf Stream old) r ok =
      ap (fallible_at scope.place)
      (joined_pieces (codes "Delete" ∷ codes "StreamContext( " ∷ anchored scope.place Stream ∷ codes ", " ∷ address old
      ∷ context_or_null old ∷ []) r)
      ∙ delete_reads scope.place Stream old r
  fallible_reads (fallible.DeleteContextOf Instance old) r ok =
      ap (fallible_at scope.place)
      (joined_pieces (codes "Delete" ∷ codes "InstanceContext( " ∷ anchored scope.place Instance ∷ codes ", " ∷ address old
      ∷ context_or_null old ∷ []) r)
      ∙ delete_reads scope.place Instance old r
  fallible_reads (fallible.InsertIo c) r ok =
      ap (fallible_at scope.place) (joined_pieces (codes "InsertIo( Data, " ∷ context_or_null c ∷ []) r) ∙ then_reads _ (optional_reads c r)
  fallible_reads (fallible.RemoveNextIo o c) r ok =
      ap (fallible_at scope.place) (joined_pieces (codes "RemoveNextIo( &" ∷ removed_name o ∷ codes ", &" ∷ context_name c ∷ []) r)
      ∙ then_reads _ (removed_reads o _) ∙ then_reads _ (context_reads c r)
  fallible_reads (fallible.QueueDeferredIoWorkItem routine c) r ok =
      ap (fallible_at scope.place)
      (joined_pieces (codes "QueueDeferredIo( Data, Deferred_" ∷ routine.name ∷ codes ", " ∷ context_or_null c ∷ []) r)
      ∙ queued_reads scope.place fallible.QueueDeferredIoWorkItem routine.name c r ok
  fallible_reads (fallible.QueueGenericWorkItem routine c) r ok =
      ap (fallible_at scope.place)
      (joined_pieces
      (codes "QueueGeneric( " ∷ instance scope.place ∷ codes ", Generic_" ∷ routine.name ∷ codes ", " ∷ context_or_null c ∷ []) r)
      ∙ then_reads _ (then_reads _ (after_again (instance scope.place) _))
      ∙ queued_reads scope.place fallible.QueueGenericWorkItem routine.name c r ok

  succeeds_asks : (turned : Bool) (z : Text) →
      condition_at scope.place (negation turned ++ (codes "NT_SUCCESS( " ++ z)) ≡ succeeds_at scope.place turned z
  unfolding condition_at test_at test_forms named_test_at number_name_at context_at removed_at
  succeeds_asks true z = refl
  succeeds_asks false z = refl

  -- a condition is read back from its text, but for where its call stands
  pub condition_reads : (turned : Bool) (c : Condition) (r : Text) → IsCondition queue c →
      condition_at scope.place (condition_text scope point turned c ++ r) ≡ Some ((turned, condition_without c), r)
  unfolding succeeds_at
  condition_reads turned (made.Test t) r ok = test_reads scope.place turned t r ok
  condition_reads turned (made.Succeeds c) r ok =
      ap (condition_at scope.place)
      (joined_pieces (negation turned ∷ codes "NT_SUCCESS( " ∷ fallible_text scope point c ∷ codes " ) )" ∷ []) r)
      ∙ succeeds_asks turned _ ∙ then_reads _ (fallible_reads c (codes " ) )" ++ r) ok)
