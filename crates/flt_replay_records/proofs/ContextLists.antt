-- Contexts are read and changed where their parts stand.
use Rattle.std.proofs.Common.{◌≡◌, ◌≢◌, ◌||◌, ⊎_elim, ◌≤◌, ◌<◌, ◌-◌, ℕ, zero, suc, Bool, List, [], ◌∷◌}
use Rattle.std.proofs.Common.{◌++◌, Option, None, replicate, take, length, get_or, set, refl, sym, ap, ◌∙◌, arith}
use Rattle.std.specs.List.{list_any}
use Rattle.std.proofs.lemmas.Bool.{cases_eq, cases_lt}
use Rattle.std.proofs.lemmas.List.{get_or-set_other, get_or-set_same, get_or_past, length-set, same_lists, set-set, set_past}
use Rattle.flt_model.specs.Moves.{is_linked_by}
use Rattle.flt_model.specs.declared.parts.Link.{Link}
use Rattle.flt_model.specs.World.{Context, no_context}
use Rattle.flt_replay_records.specs.ContextLists.{no_one, context_from, contexts_of}
use Rattle.flt_replay_records.specs.declared.context_list.Allocation.{Allocation}
use Rattle.flt_replay_records.proofs.NumberMaps.{filled}

-- ---- room

-- values read the same where there is room for more of them
pub values_filled : (xs new : List ℕ) (size : ℕ) → length xs < size →
    new ≡ take size xs ++ replicate (size - length xs) 0 → (n : ℕ) → get_or new n 0 ≡ get_or xs n 0
values_filled xs new size l is n = filled 0 xs new size l is n

-- links read the same where there is room for more of them
pub links_filled : (xs new : List (Option Link)) (size : ℕ) → length xs < size →
    new ≡ take size xs ++ replicate (size - length xs) None → (n : ℕ) → get_or new n None ≡ get_or xs n None
links_filled xs new size l is n = filled None xs new size l is n

-- ---- one context

-- as many contexts are there as were allocated
pub length_is : (owners : List Allocation) (vs : List ℕ) (ls : List (Option Link)) → length (contexts_of owners vs ls) ≡ length owners
unfolding contexts_of
length_is [] vs ls = refl
length_is (a ∷ rest) [] [] = ap suc (length_is rest [] [])
length_is (a ∷ rest) [] (l ∷ ls) = ap suc (length_is rest [] ls)
length_is (a ∷ rest) (v ∷ vs) [] = ap suc (length_is rest vs [])
length_is (a ∷ rest) (v ∷ vs) (l ∷ ls) = ap suc (length_is rest vs ls)

pub read_at : (owners : List Allocation) (vs : List ℕ) (ls : List (Option Link)) (x : ℕ) (d : Context) → x < length owners →
    get_or (contexts_of owners vs ls) x d ≡ context_from (get_or owners x no_one) (get_or vs x 0) (get_or ls x None)
unfolding contexts_of
read_at [] vs ls x d h = absurd (omega arith)
read_at (a ∷ rest) [] [] zero d h = refl
read_at (a ∷ rest) [] [] (suc x) d h = read_at rest [] [] x d (omega arith)
read_at (a ∷ rest) [] (l ∷ ls) zero d h = refl
read_at (a ∷ rest) [] (l ∷ ls) (suc x) d h = read_at rest [] ls x d (omega arith)
read_at (a ∷ rest) (v ∷ vs) [] zero d h = refl
read_at (a ∷ rest) (v ∷ vs) [] (suc x) d h = read_at rest vs [] x d (omega arith)
read_at (a ∷ rest) (v ∷ vs) (l ∷ ls) zero d h = refl
read_at (a ∷ rest) (v ∷ vs) (l ∷ ls) (suc x) d h = read_at rest vs ls x d (omega arith)

-- what isn't there is nothing
pub read_past : (owners : List Allocation) (vs : List ℕ) (ls : List (Option Link)) (x : ℕ) (d : Context) → length owners ≤ x →
    get_or (contexts_of owners vs ls) x d ≡ d
read_past owners vs ls x d l = get_or_past (contexts_of owners vs ls) x d (let e = length_is owners vs ls in omega (arith, e))

-- a context's owner is that of its allocation
pub owner_is : (owners : List Allocation) (vs : List ℕ) (ls : List (Option Link)) (x : ℕ) →
    (get_or (contexts_of owners vs ls) x no_context).owner ≡ (get_or owners x no_one).owner
owner_is owners vs ls x =
    ⊎_elim (λ (l : x < length owners). ap (λ (c : Context). c.owner) (read_at owners vs ls x no_context l))
    (λ (l : length owners ≤ x). ap (λ (c : Context). c.owner) (read_past owners vs ls x no_context l)
    ∙ sym (ap (λ (a : Allocation). a.owner) (get_or_past owners x no_one l)))
    (cases_lt x (length owners))

-- a context's references are those of its allocation
pub references_are : (owners : List Allocation) (vs : List ℕ) (ls : List (Option Link)) (x : ℕ) →
    (get_or (contexts_of owners vs ls) x no_context).references ≡ (get_or owners x no_one).references
references_are owners vs ls x =
    ⊎_elim (λ (l : x < length owners). ap (λ (c : Context). c.references) (read_at owners vs ls x no_context l))
    (λ (l : length owners ≤ x). ap (λ (c : Context). c.references) (read_past owners vs ls x no_context l)
    ∙ sym (ap (λ (a : Allocation). a.references) (get_or_past owners x no_one l)))
    (cases_lt x (length owners))

-- a context's value stands in the list of values, and is 0 where none was written
pub value_is : (owners : List Allocation) (vs : List ℕ) (ls : List (Option Link)) (x : ℕ) → length vs ≤ length owners →
    (get_or (contexts_of owners vs ls) x no_context).value ≡ get_or vs x 0
value_is owners vs ls x h =
    ⊎_elim (λ (l : x < length owners). ap (λ (c : Context). c.value) (read_at owners vs ls x no_context l))
    (λ (l : length owners ≤ x). ap (λ (c : Context). c.value) (read_past owners vs ls x no_context l)
    ∙ sym (get_or_past vs x 0 (omega (arith, h, l))))
    (cases_lt x (length owners))

-- a context's link stands in the list of links, and is none where none was made
pub link_is : (owners : List Allocation) (vs : List ℕ) (ls : List (Option Link)) (x : ℕ) → length ls ≤ length owners →
    (get_or (contexts_of owners vs ls) x no_context).link ≡ get_or ls x None
link_is owners vs ls x h =
    ⊎_elim (λ (l : x < length owners). ap (λ (c : Context). c.link) (read_at owners vs ls x no_context l))
    (λ (l : length owners ≤ x). ap (λ (c : Context). c.link) (read_past owners vs ls x no_context l)
    ∙ sym (get_or_past ls x None (omega (arith, h, l))))
    (cases_lt x (length owners))

-- ---- changes

-- one is changed where its parts are, and the others stay
pub changed : (owners new : List Allocation) (vs ws : List ℕ) (ls ms : List (Option Link)) (x : ℕ) (c : Context) →
    length new ≡ length owners → x < length owners →
    context_from (get_or new x no_one) (get_or ws x 0) (get_or ms x None) ≡ c →
    ((n : ℕ) → n ≢ x → (get_or new n no_one ≡ get_or owners n no_one) × (get_or ws n 0 ≡ get_or vs n 0) ×
    (get_or ms n None ≡ get_or ls n None)) →
    contexts_of new ws ms ≡ set (contexts_of owners vs ls) x c
changed owners new vs ws ls ms x c e l is same =
    let old_long = length_is owners vs ls in
    let new_long = length_is new ws ms in
    let set_long = length-set (contexts_of owners vs ls) x c in
    same_lists (contexts_of new ws ms) (set (contexts_of owners vs ls) x c) (omega (arith, e, old_long, new_long, set_long))
    (λ k d b.
    let in_new : k < length new = omega (arith, b, new_long) in
    let in_old : k < length owners = omega (arith, e, in_new) in
    let read = read_at new ws ms k d in_new in
    ⊎_elim (λ (i : k ≡ x).
    let at : x < length (contexts_of owners vs ls) = omega (arith, l, old_long) in
    let set_is = get_or-set_same (contexts_of owners vs ls) x c d at in
    read ∙ ap (λ (j : ℕ). context_from (get_or new j no_one) (get_or ws j 0) (get_or ms j None)) i ∙ is ∙ sym set_is
    ∙ ap (λ (j : ℕ). get_or (set (contexts_of owners vs ls) x c) j d) (sym i))
    (λ (ne : k ≢ x).
    let s = same k ne in
    read ∙ rw (s.0, s.1, s.2) refl ∙ sym (read_at owners vs ls k d in_old)
    ∙ sym (get_or-set_other (contexts_of owners vs ls) x k c d ne))
    (cases_eq k x))

-- nothing is changed of what isn't there
pub changed_past : (owners : List Allocation) (vs : List ℕ) (ls : List (Option Link)) (x : ℕ) (c : Context) → length owners ≤ x →
    contexts_of owners vs ls ≡ set (contexts_of owners vs ls) x c
changed_past owners vs ls x c l =
    sym (set_past (contexts_of owners vs ls) x c (let e = length_is owners vs ls in omega (arith, e, l)))

module _ (owners : List Allocation) (vs : List ℕ) (ls : List (Option Link)) (x : ℕ) where
  -- a count of references that is changed among the allocations is changed in its context
  pub referenced : (r : ℕ) →
      contexts_of (set owners x (record (get_or owners x no_one) { references = r })) vs ls
      ≡ set (contexts_of owners vs ls) x (record (get_or (contexts_of owners vs ls) x no_context) { references = r })
  referenced r =
      let a : Allocation = record (get_or owners x no_one) { references = r } in
      ⊎_elim (λ (l : x < length owners).
      changed owners (set owners x a) vs vs ls ls x (record (get_or (contexts_of owners vs ls) x no_context) { references = r })
      (length-set owners x a) l
      (ap (λ (b : Allocation). context_from b (get_or vs x 0) (get_or ls x None)) (get_or-set_same owners x a no_one l)
      ∙ ap (λ (c : Context). record c { references = r }) (sym (read_at owners vs ls x no_context l)))
      (λ n ne. (get_or-set_other owners x n a no_one ne, refl, refl)))
      (λ (l : length owners ≤ x).
      ap (λ (os : List Allocation). contexts_of os vs ls) (set_past owners x a l)
      ∙ changed_past owners vs ls x (record (get_or (contexts_of owners vs ls) x no_context) { references = r }) l)
      (cases_lt x (length owners))

  -- a value that is written among the values is written in its context
  pub valued : (room : List ℕ) (v : ℕ) → x < length owners → x < length room → ((n : ℕ) → get_or room n 0 ≡ get_or vs n 0) →
      contexts_of owners (set room x v) ls
      ≡ set (contexts_of owners vs ls) x (record (get_or (contexts_of owners vs ls) x no_context) { value = v })
  valued room v l r same =
      changed owners owners vs (set room x v) ls ls x (record (get_or (contexts_of owners vs ls) x no_context) { value = v }) refl l
      (ap (λ (w : ℕ). context_from (get_or owners x no_one) w (get_or ls x None)) (get_or-set_same room x v 0 r)
      ∙ ap (λ (c : Context). record c { value = v }) (sym (read_at owners vs ls x no_context l)))
      (λ n ne. (refl, get_or-set_other room x n v 0 ne ∙ same n, refl))

  -- a link that is put among the links is put in its context
  pub linked : (room : List (Option Link)) (link : Option Link) → x < length owners → x < length room →
      ((n : ℕ) → get_or room n None ≡ get_or ls n None) →
      contexts_of owners vs (set room x link)
      ≡ set (contexts_of owners vs ls) x (record (get_or (contexts_of owners vs ls) x no_context) { link = link })
  linked room link l r same =
      changed owners owners vs vs ls (set room x link) x (record (get_or (contexts_of owners vs ls) x no_context) { link = link }) refl l
      (ap (λ (m : Option Link). context_from (get_or owners x no_one) (get_or vs x 0) m) (get_or-set_same room x link None r)
      ∙ ap (λ (c : Context). record c { link = link }) (sym (read_at owners vs ls x no_context l)))
      (λ n ne. (refl, refl, get_or-set_other room x n link None ne ∙ same n))

  -- one without a link
  pub unlinked : length ls ≤ x →
      contexts_of owners vs ls ≡ set (contexts_of owners vs ls) x (record (get_or (contexts_of owners vs ls) x no_context) { link = None })
  unlinked none =
      ⊎_elim (λ (l : x < length owners).
      changed owners owners vs vs ls ls x (record (get_or (contexts_of owners vs ls) x no_context) { link = None }) refl l
      (ap (λ (m : Option Link). context_from (get_or owners x no_one) (get_or vs x 0) m) (get_or_past ls x None none)
      ∙ ap (λ (c : Context). record c { link = None }) (sym (read_at owners vs ls x no_context l)))
      (λ n ne. (refl, refl, refl)))
      (λ (l : length owners ≤ x).
      changed_past owners vs ls x (record (get_or (contexts_of owners vs ls) x no_context) { link = None }) l)
      (cases_lt x (length owners))

-- one more allocation is one more context, with the value 0 and no link
pub added : (owners : List Allocation) (vs : List ℕ) (ls : List (Option Link)) (a : Allocation) → length vs ≤ length owners →
    length ls ≤ length owners → contexts_of (owners ++ a ∷ []) vs ls ≡ contexts_of owners vs ls ++ context_from a 0 None ∷ []
unfolding contexts_of
added [] [] [] a v l = refl
added [] [] (m ∷ ls) a v l = absurd (omega (arith, l))
added [] (w ∷ vs) ls a v l = absurd (omega (arith, v))
added (o ∷ rest) [] [] a v l = ap (λ (cs : List Context). context_from o 0 None ∷ cs) (added rest [] [] a (omega arith) (omega arith))
added (o ∷ rest) [] (m ∷ ls) a v l =
    ap (λ (cs : List Context). context_from o 0 m ∷ cs) (added rest [] ls a (omega arith) (omega (arith, l)))
added (o ∷ rest) (w ∷ vs) [] a v l =
    ap (λ (cs : List Context). context_from o w None ∷ cs) (added rest vs [] a (omega (arith, v)) (omega arith))
added (o ∷ rest) (w ∷ vs) (m ∷ ls) a v l =
    ap (λ (cs : List Context). context_from o w m ∷ cs) (added rest vs ls a (omega (arith, v)) (omega (arith, l)))

-- ---- whether one is linked by a filter

-- a filter has a link to a context where the list of links has one of it
pub any_linked : (f : ℕ) (owners : List Allocation) (vs : List ℕ) (ls : List (Option Link)) → length ls ≤ length owners →
    list_any (λ (c : Context). is_linked_by f c.link) (contexts_of owners vs ls) ≡ list_any (is_linked_by f) ls
unfolding contexts_of
any_linked f [] vs [] h = refl
any_linked f [] vs (l ∷ ls) h = absurd (omega (arith, h))
any_linked f (o ∷ rest) [] [] h = any_linked f rest [] [] (omega arith)
any_linked f (o ∷ rest) (v ∷ vs) [] h = any_linked f rest vs [] (omega arith)
any_linked f (o ∷ rest) [] (l ∷ ls) h = ap (λ (b : Bool). is_linked_by f l || b) (any_linked f rest [] ls (omega (arith, h)))
any_linked f (o ∷ rest) (v ∷ vs) (l ∷ ls) h = ap (λ (b : Bool). is_linked_by f l || b) (any_linked f rest vs ls (omega (arith, h)))

-- ---- one link after another

-- a link that is emptied and put again is put
pub relinked : (cs : List Context) (x : ℕ) (link : Option Link) →
    set (set cs x (record (get_or cs x no_context) { link = None })) x
    (record (get_or (set cs x (record (get_or cs x no_context) { link = None })) x no_context) { link = link })
    ≡ set cs x (record (get_or cs x no_context) { link = link })
relinked cs x link =
    let c : Context = record (get_or cs x no_context) { link = None } in
    ⊎_elim (λ (l : x < length cs).
    ap (λ (d : Context). set (set cs x c) x (record d { link = link })) (get_or-set_same cs x c no_context l)
    ∙ set-set cs x c (record (get_or cs x no_context) { link = link }))
    (λ (l : length cs ≤ x).
    set_past (set cs x c) x (record (get_or (set cs x c) x no_context) { link = link })
    (let e = length-set cs x c in omega (arith, e, l))
    ∙ set_past cs x c l ∙ sym (set_past cs x (record (get_or cs x no_context) { link = link }) l))
    (cases_lt x (length cs))
