-- The writer's header and the file for the installation. This project's own form, after the samples of the driver kit.
use Rattle.std.specs.Prelude.{List, [], ◌∷◌, flat_map, codes, decimal}
use Rattle.flt_tree.specs.Names.{Text}
use Rattle.flt_tree.specs.declared.filter.Callback.{Callback}
use Rattle.flt_tree.specs.declared.filter.Filter.{Filter}
use Rattle.flt_tree.specs.declared.filter.Head.{Head}
use Rattle.flt_tree.specs.declared.filter.Head.TheVariants.{Pre, Post, Canceled, DeferredPre, DeferredPost, Generic}
use Rattle.flt_emit.specs.FixedFiles as fixed
use Rattle.flt_emit.specs.Line.{joined}
use Rattle.flt_emit.specs.Names.{major_name}

-- ---- the writer's header

abbrev pub deferred_default : Text → Text → Text
deferred_default stage name =
    joined (codes "#define USER_DEFERRED_" ∷ stage ∷ name
    ∷ codes "( Data, Instance, Context ) ((VOID) (Data), (VOID) (Instance), (VOID) (Context))\n" ∷ [])

abbrev pub generic_default : Text → Text
generic_default name =
    joined (codes "#define USER_GENERIC_" ∷ name ∷ codes "( Instance, Context ) ((VOID) (Instance), (VOID) (Context))\n" ∷ [])

-- a hook that does nothing
abbrev pub hook_default : Head → Text
hook_default (Pre op) =
    joined (codes "#define USER_PRE_" ∷ major_name op ∷ codes "( Data, FltObjects ) ((VOID) (Data), (VOID) (FltObjects))\n" ∷ [])
hook_default (Post op) =
    joined (codes "#define USER_POST_" ∷ major_name op
    ∷ codes "( Data, FltObjects, Flags, Context ) ((VOID) (Data), (VOID) (FltObjects), (VOID) (Flags), (VOID) (Context))\n" ∷ [])
hook_default Canceled =
    codes "#define USER_CANCELED( Data, Instance, Context ) ((VOID) (Data), (VOID) (Instance), (VOID) (Context))\n"
hook_default (DeferredPre name) = deferred_default (codes "PRE_") name
hook_default (DeferredPost name) = deferred_default (codes "POST_") name
hook_default (Generic name) = generic_default name

abbrev pub hook_defaults : List Callback → Text
hook_defaults = flat_map (λ c. hook_default c.head)

-- the header, with a hook for each callback
unfoldable pub user_header : Filter → Text
user_header f =
    joined (codes "/*\n *  " ∷ f.name ∷ fixed.user_title ∷ f.name ∷ codes "`.\n" ∷ fixed.user_written ∷ hook_defaults f.callbacks ∷ [])

-- ---- the file for the installation

-- the files that are copied
unfoldable pub copying : Filter → Text
copying f = joined (fixed.inf_head ∷ f.name ∷ fixed.inf_files ∷ f.name ∷ fixed.inf_copied ∷ f.name ∷ [])

-- the service
unfoldable pub service : Filter → Text
service f = joined (fixed.inf_service ∷ f.name ∷ fixed.inf_shown ∷ f.name ∷ fixed.inf_binary ∷ f.name ∷ [])

-- the instance, which has the filter's name and altitude
unfoldable pub instance_part : Filter → Text
instance_part f =
    joined (fixed.inf_registered ∷ f.name ∷ fixed.inf_instance ∷ f.name ∷ fixed.inf_altitude ∷ decimal f.altitude ∷ [])

-- its flags, and the strings
unfoldable pub strings_part : Filter → Text
strings_part f = joined (fixed.inf_flags ∷ f.name ∷ fixed.inf_strings ∷ f.name ∷ fixed.inf_end ∷ [])

unfoldable pub installation : Filter → Text
installation f = joined (copying f ∷ service f ∷ instance_part f ∷ strings_part f ∷ [])
