-- What a written row is to the contexts that are as_context, and to the links.
use Rattle.std.proofs.Common.{◌≡◌, ◌≢◌, ℕ, zero, suc, ◌+◌, ◌-◌, ◌<◌, Bool, false, if◌then◌else◌, List, [], ◌∷◌}
use Rattle.std.proofs.Common.{◌++◌, length, map, set, Option, None, Some, refl, sym, ap, ◌∙◌, subst, inl, inr}
use Rattle.std.proofs.lemmas.Bool.{cases_eq, ne_eqb}
use Rattle.std.proofs.lemmas.List.{map-set, set-get_or, get_or-set_same, get_or-set_other}
use Rattle.std.proofs.Math.ListN.{get_or-map}
use Rattle.ilist_core.specs.NodeLists.{Sequences}
use Rattle.flt_ctx.specs.declared.links.Link.{Link}
use Rattle.flt_ctx.specs.declared.links.Row.{Row}
use Rattle.flt_ctx.specs.Contexts.{Context, ContextTable, context_at, is_freed, with_context, add_reference}
use Rattle.flt_ctx.specs.Contexts.{drop_reference, put_value, with_link, no_context}
use Rattle.flt_ctx.specs.Rows.{no_row, row_at, as_context, key_of, AreLinked}

-- ---- links

-- rows with the same links are linked alike
pub AreLinked-kept : (rows new : List Row) (filters : ℕ) (s : Sequences) (contexts : List ℕ) →
    ((x : ℕ) → (row_at new x).link ≡ (row_at rows x).link) → AreLinked rows filters s contexts → AreLinked new filters s contexts
AreLinked-kept rows new filters s contexts same are = record {
  as_many = are.as_many;
  placed = λ x l is. are.placed x l (sym (same x) ∙ is);
  named = λ list node found. let n = are.named list node found in
      record { link = n.link; is = same _ ∙ n.is; filter = n.filter; target = n.target };
  one = λ x y l m is also. are.one x y l m (sym (same x) ∙ is) (sym (same y) ∙ also);
}

-- a row that is written with its own link leaves all links as they were
pub written_links : (rows : List Row) (x : ℕ) (row : Row) → x < length rows → row.link ≡ (row_at rows x).link → (y : ℕ) →
    (row_at (set rows x row) y).link ≡ (row_at rows y).link
written_links rows x row within same y = elim (cases_eq y x) [
  | inl here ↦ subst (λ (z : ℕ). (row_at (set rows x row) z).link ≡ (row_at rows z).link) (sym here)
      (ap (λ (r : Row). r.link) (get_or-set_same rows x row no_row within) ∙ same)
  | inr away ↦ ap (λ (r : Row). r.link) (get_or-set_other rows x y row no_row away)
]

-- a row that is pushed without a link leaves all links as they were
pub pushed_links : (rows : List Row) (row : Row) → row.link ≡ None → (y : ℕ) → (row_at (rows ++ row ∷ []) y).link ≡ (row_at rows y).link
pushed_links [] row none zero = none
pushed_links [] row none (suc y) = refl
pushed_links (r ∷ rows) row none zero = refl
pushed_links (r ∷ rows) row none (suc y) = pushed_links rows row none y

-- ---- contexts

module _ (rows : List Row) (closed : List Bool) (h : ContextTable) (view : record { contexts = map as_context rows; closed = closed } ≡ h)
    (x : ℕ) where
  abbrev viewed : List Row → ContextTable
  viewed rs = record { contexts = map as_context rs; closed = closed }

  -- what contracts see at a number is its row
  pub context_is : context_at h x ≡ as_context (row_at rows x)
  context_is = ap (λ (q : ContextTable). context_at q x) (sym view) ∙ get_or-map as_context rows x no_row

  -- a row that is written changes its context alone
  pub wrote : (row : Row) (c : Context) → as_context row ≡ c → viewed (set rows x row) ≡ with_context h x c
  wrote row c is =
      (λ i. record { contexts = map-set as_context rows x row i; closed = closed })
      ∙ (λ i. record { contexts = set (map as_context rows) x (is i); closed = closed })
      ∙ ap (λ (q : ContextTable). with_context q x c) view

  module _ (row : Row) (is : row ≡ row_at rows x) where
    here : as_context row ≡ context_at h x
    here = ap as_context is ∙ sym context_is

    -- a count that is one less is a dropped reference
    pub dropped : viewed (set rows x (record row { references = row.references - 1 })) ≡ drop_reference h x
    dropped = wrote (record row { references = row.references - 1 }) _
        (ap (λ (c : Context). record c { references = c.references - 1 }) here)

    module _ (alive : row.references ≢ 0) where
      not_freed : is_freed (as_context row) ≡ false
      not_freed = ne_eqb row.references 0 alive

      -- a count that is one more is an added reference, where the context is not freed
      pub counted : viewed (set rows x (record row { references = row.references + 1 })) ≡ add_reference h x
      counted =
          wrote (record row { references = row.references + 1 }) _
          ((λ i. record (as_context row) { references = if (sym not_freed i) then 0 else row.references + 1 })
          ∙ ap (λ (c : Context). record c { references = if is_freed c then 0 else c.references + 1 }) here)

      -- a value that is written is put, where the context is not freed
      pub valued : (value : ℕ) → viewed (set rows x (record row { value = value })) ≡ put_value h x value
      valued value =
          wrote (record row { value = value }) (record (context_at h x) { value = value })
          (ap (λ (c : Context). record c { value = value }) here)
          ∙ (λ i. if (sym (ap is_freed (sym here) ∙ not_freed) i) then h else with_context h x (record (context_at h x) { value = value }))

    -- a link that is written is that of the context
    pub relinked : (link : Option Link) → viewed (set rows x (record row { link = link })) ≡ with_link h x (key_of link)
    relinked link = wrote (record row { link = link }) (record (context_at h x) { link = key_of link })
        (ap (λ (c : Context). record c { link = key_of link }) here)

    -- taking the link away changes nothing where there is none
    pub no_link : ((l : Link) → row.link ≡ Some l → ⊥) → h ≡ with_link h x None
    no_link none =
        let c = context_at h x in
        let gone : c.link ≡ None = ap (λ (d : Context). d.link) (sym here) ∙ ap key_of (none_is row.link none) in
        sym ((λ i. record h { contexts = set h.contexts x (record c { link = sym gone i }) })
        ∙ (λ i. record h { contexts = set-get_or h.contexts x no_context i }))
      where
        none_is : (link : Option Link) → ((l : Link) → link ≡ Some l → ⊥) → link ≡ None
        none_is None none = refl
        none_is (Some l) none = absurd (none l refl)
