-- The columns of operations, and who is on in each. This project's own definitions.
use Rattle.std.specs.Prelude.{ℕ, ◌+◌, ◌-◌, ◌*◌, ◌^◌, ◌==◌, Bool, true, ◌&&◌, nat_lt, if◌then◌else◌, List}
use Rattle.std.specs.Prelude.{[], ◌∷◌, Option, Some, None, get_or, is_none, min, position, replicate, set}
use Rattle.flt_model.specs.Moves.{is_done}
use Rattle.flt_model.specs.World.{Store}
use Rattle.flt_explain_timeline.specs.Rows.{is_same}
use Rattle.flt_explain_timeline.specs.declared.columns.Columns.{Columns}
use Rattle.flt_explain_timeline.specs.declared.columns.Tenant.{Tenant}
use Rattle.flt_explain_timeline.specs.declared.telling.Column.{Column}
use Rattle.flt_explain_timeline.specs.declared.telling.Column.TheVariants as columns

-- what is in a column before the first operation
abbrev pub nothing : Tenant
nothing = record { operation = None; last = None; running = 0 }

-- eight columns before the first entry of a journal in which so many operations arrive; where these are more, columns are given again
abbrev pub opened : ℕ → Columns
opened arrivals = record { tenants = replicate 8 nothing; shared = nat_lt 8 arrivals }

-- ---- which operation is where

-- whether nothing more comes of an operation of which so many callbacks haven't ended
abbrev pub is_past : Store → ℕ → Option ℕ → Bool
is_past s count None = true
is_past s count (Some o) = (count == 0) && is_done s o

-- whether nothing more comes of what is in a column
abbrev pub is_over : Store → Tenant → Bool
is_over s tenant = is_past s tenant.running tenant.operation

-- whether an operation may take a column: one of which nothing more comes where columns are given again, an empty one otherwise
abbrev pub is_free : Bool → Store → Tenant → Bool
is_free again s tenant = if again then is_over s tenant else is_none tenant.operation

-- whether this operation is in a column
abbrev pub is_of : ℕ → Tenant → Bool
is_of o tenant = is_same tenant.operation (Some o)

-- the column of a number; beyond all of them where there is none
abbrev pub column_by : Option ℕ → Column
column_by (Some number) = columns.Own number
column_by None = columns.Beyond

-- the column of an entry that is about this operation, or about none
abbrev pub column_of : List Tenant → Option ℕ → Column
column_of tenants (Some o) = column_by (position (is_of o) tenants)
column_of tenants None = columns.Margin

-- what is in a column
abbrev pub tenant_in : List Tenant → Column → Tenant
tenant_in tenants (columns.Own number) = get_or tenants number nothing
tenant_in tenants _ = nothing

-- this is in a column from now on; the margin and what is beyond the columns keep nothing
abbrev pub with_tenant : Columns → Column → Tenant → Columns
with_tenant all (columns.Own number) tenant = record all { tenants = set all.tenants number tenant }
with_tenant all _ tenant = all

-- ---- what happens there

-- an operation arrives: it takes the first column that it may take, or none
abbrev pub arrived : Store → Columns → ℕ → Columns
arrived s all o =
    with_tenant all (column_by (position (is_free all.shared s) all.tenants)) (record { operation = Some o; last = None; running = 0 })

-- a callback starts, as the activation of this number; a count stays at its largest value
abbrev pub begun : Columns → Column → ℕ → Columns
begun all column a =
    let tenant = tenant_in all.tenants column in
    with_tenant all column (record tenant { last = Some a; running = min (tenant.running + 1) (2 ^ 64 - 1) })

-- a callback goes on, and may have ended with that
abbrev pub gone_on : Columns → Column → ℕ → Bool → Columns
gone_on all column a ends =
    let tenant = tenant_in all.tenants column in
    with_tenant all column (record tenant { last = Some a; running = if ends then tenant.running - 1 else tenant.running })

-- whether a callback was the last that was on in its column
abbrev pub was_on : List Tenant → Column → ℕ → Bool
was_on tenants column a = is_same (tenant_in tenants column).last (Some a)

-- ---- which columns are drawn

-- the bit of a column
abbrev pub bit_of : Bool → ℕ
bit_of over = if over then 0 else 1

-- the columns of which more comes, the first as the lowest bit
unfoldable pub alive_in : Store → List Tenant → ℕ
alive_in s [] = 0
alive_in s (tenant ∷ tenants) = bit_of (is_over s tenant) + 2 * alive_in s tenants
