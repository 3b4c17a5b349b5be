-- What a callback declares is passed over.
use Rattle.std.proofs.Common.{◌≡◌, ℕ, ◌+◌, Bool, true, false, List, [], ◌∷◌, ◌++◌, refl, ap, subst, ◌∙◌, append_assoc}
use Rattle.std.proofs.lemmas.Bool.{false≢true, and_parts, ne_eqb}
use Rattle.std.specs.Prelude.{◌==◌, flat_map, codes}
use Rattle.std.specs.List.{list_all}
use Rattle.flt_tree.specs.Names.{Text, is_word, is_name}
use Rattle.flt_tree.specs.declared.filter.Head.{Head}
use Rattle.flt_tree.specs.declared.filter.Head.TheVariants.{Pre, Post, Canceled, DeferredPre, DeferredPost, Generic}
use Rattle.flt_tree.specs.declared.filter.Lock.{Lock}
use Rattle.flt_tree.specs.declared.filter.Statement.{Statement}
use Rattle.flt_tree.specs.declared.variable.ContextVariable.{ContextVariable}
use Rattle.flt_tree.specs.declared.variable.ContextVariable.TheVariants as contexts
use Rattle.flt_tree.specs.declared.variable.NumberVariable.{NumberVariable}
use Rattle.flt_tree.specs.declared.variable.NumberVariable.TheVariants as numbers
use Rattle.flt_tree.specs.declared.variable.RemovedVariable.{RemovedVariable}
use Rattle.flt_tree.specs.declared.variable.RemovedVariable.TheVariants as removed
use Rattle.flt_emit.specs.Callbacks.{where_used, context_declaration, operation_declaration, unread, declared_number, number_declaration}
use Rattle.flt_emit.specs.Callbacks.{context_variables, removed_variables, number_variables, argument_declaration, instance_declaration}
use Rattle.flt_emit.specs.Callbacks.{needs_level, declared_level, level_declaration, level_declarations, declarations}
use Rattle.flt_emit.specs.Line.{joined}
use Rattle.flt_emit.specs.Names.{context_name, removed_name}
use Rattle.flt_emit_read.specs.Sources.{past_empty}
use Rattle.flt_emit_read.proofs.Fronts.{all_words, joined_pieces}

-- whole lines, none of them empty
abbrev pub AreLines : Text → Type 0
AreLines x = (r : Text) → past_empty true (x ++ r) ≡ past_empty true r

both_lines : (x y : Text) → AreLines x → AreLines y → AreLines (x ++ y)
both_lines x y a b r = ap (past_empty true) (append_assoc x y r) ∙ a (y ++ r) ∙ b r

used_lines : (b : Bool) (x : Text) → AreLines x → AreLines (where_used b x)
used_lines true x a = a
used_lines false x a = λ r. refl

mapped_lines : {A : Type 0} (f : A → Text) → ((x : A) → AreLines (f x)) → (xs : List A) → AreLines (flat_map f xs)
mapped_lines f a [] = λ r. refl
mapped_lines f a (x ∷ xs) = both_lines (f x) (flat_map f xs) (a x) (mapped_lines f a xs)

-- ---- words within a line

word_goes_on : (b : ℕ) → is_word b ≡ true → (b == 10) ≡ false
word_goes_on b h = ne_eqb b 10 (λ e. false≢true (subst (λ n. is_word n ≡ true) e h))

words_go_on : (w r : Text) → list_all is_word w ≡ true → past_empty false (w ++ r) ≡ past_empty false r
words_go_on [] r h = refl
words_go_on (b ∷ w) r h =
    let both = and_parts (is_word b) (list_all is_word w) h in rw (word_goes_on b both.0) (words_go_on w r both.1)

-- ---- declarations

context_lines : (body : List Statement) (c : ContextVariable) → AreLines (context_declaration body c)
unfolding context_declaration
context_lines body c =
    used_lines _ (joined (codes "    PFILTER_CONTEXT " ∷ context_name c ∷ codes " = NULL;\n" ∷ [])) (go c)
  where
    go : (c : ContextVariable) → AreLines (joined (codes "    PFILTER_CONTEXT " ∷ context_name c ∷ codes " = NULL;\n" ∷ []))
    go contexts.C0 r = refl
    go contexts.C1 r = refl
    go contexts.C2 r = refl
    go contexts.C3 r = refl
    go contexts.C4 r = refl
    go contexts.C5 r = refl
    go contexts.C6 r = refl
    go contexts.C7 r = refl
    go contexts.Arg r = refl

operation_lines : (body : List Statement) (o : RemovedVariable) → AreLines (operation_declaration body o)
unfolding operation_declaration
operation_lines body o =
    used_lines _
    (joined (codes "    PFLT_CALLBACK_DATA " ∷ removed_name o ∷ codes " = NULL;\n" ∷ [])) (go o)
  where
    go : (o : RemovedVariable) → AreLines (joined (codes "    PFLT_CALLBACK_DATA " ∷ removed_name o ∷ codes " = NULL;\n" ∷ []))
    go removed.O0 r = refl
    go removed.O1 r = refl
    go removed.O2 r = refl
    go removed.O3 r = refl

declared_lines : (read : Bool) (n : NumberVariable) → AreLines (declared_number read n)
unfolding declared_number unread
declared_lines true numbers.N0 r = refl
declared_lines true numbers.N1 r = refl
declared_lines true numbers.N2 r = refl
declared_lines true numbers.N3 r = refl
declared_lines true numbers.N4 r = refl
declared_lines true numbers.N5 r = refl
declared_lines true numbers.N6 r = refl
declared_lines true numbers.N7 r = refl
declared_lines false numbers.N0 r = refl
declared_lines false numbers.N1 r = refl
declared_lines false numbers.N2 r = refl
declared_lines false numbers.N3 r = refl
declared_lines false numbers.N4 r = refl
declared_lines false numbers.N5 r = refl
declared_lines false numbers.N6 r = refl
declared_lines false numbers.N7 r = refl

number_lines : (body : List Statement) (n : NumberVariable) → AreLines (number_declaration body n)
unfolding number_declaration
number_lines body n =
    used_lines _ (declared_number _ n) (declared_lines _ n)

argument_lines : (body : List Statement) (h : Head) → AreLines (argument_declaration body h)
unfolding argument_declaration
argument_lines body (Pre op) = context_lines body contexts.Arg
argument_lines body (Post op) = λ r. refl
argument_lines body Canceled = λ r. refl
argument_lines body (DeferredPre name) = λ r. refl
argument_lines body (DeferredPost name) = λ r. refl
argument_lines body (Generic name) = λ r. refl

instance_lines : (h : Head) → AreLines (instance_declaration h)
unfolding instance_declaration
instance_lines (Pre op) = λ r. refl
instance_lines (Post op) = λ r. refl
instance_lines Canceled = λ r. refl
instance_lines (DeferredPre name) = λ r. refl
instance_lines (DeferredPost name) = λ r. refl
instance_lines (Generic name) = λ r. refl

one_level : (name : Text) → is_name name ≡ true → AreLines (declared_level name)
unfolding declared_level
one_level name h r =
    ap (past_empty true) (joined_pieces (codes "    KIRQL irql_" ∷ name ∷ codes ";\n" ∷ []) r)
    ∙ words_go_on name (codes ";\n" ++ r) (all_words name h)

level_lines : (body : List Statement) (place : ℕ) (locks : List Lock) → list_all (λ l. is_name l.name) locks ≡ true →
    AreLines (level_declarations body place locks)
unfolding level_declaration
level_lines body place [] h = λ r. refl
level_lines body place (l ∷ ls) h =
    let both = and_parts (is_name l.name) (list_all (λ l. is_name l.name) ls) h in
    both_lines (level_declaration body place l) (level_declarations body (place + 1) ls)
    (used_lines (needs_level body place l.kind) (declared_level l.name) (one_level l.name both.0))
    (level_lines body (place + 1) ls both.1)

-- what a callback declares consists of lines
pub declaration_lines : (locks : List Lock) (h : Head) (body : List Statement) → list_all (λ l. is_name l.name) locks ≡ true →
    AreLines (declarations locks h body)
unfolding declarations
declaration_lines locks h body names =
    let numbers = flat_map (number_declaration body) number_variables ++ [] in
    let instances = instance_declaration h ++ numbers in
    let levels = level_declarations body 0 locks ++ instances in
    let operations = flat_map (operation_declaration body) removed_variables ++ levels in
    let contexts = flat_map (context_declaration body) context_variables ++ operations in
    both_lines (argument_declaration body h) contexts (argument_lines body h)
    (both_lines (flat_map (context_declaration body) context_variables) operations
    (mapped_lines (context_declaration body) (context_lines body) context_variables)
    (both_lines (flat_map (operation_declaration body) removed_variables) levels
    (mapped_lines (operation_declaration body) (operation_lines body) removed_variables)
    (both_lines (level_declarations body 0 locks) instances (level_lines body 0 locks names)
    (both_lines (instance_declaration h) numbers (instance_lines h)
    (both_lines (flat_map (number_declaration body) number_variables) []
    (mapped_lines (number_declaration body) (number_lines body) number_variables) (λ r. refl))))))
