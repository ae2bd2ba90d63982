-- The module that items stand for, or the first fault of the stages behind the grammar.
use Rattle.std.specs.Prelude.{List, Result, Ok}
use Rattle.ir_parse_parts.specs.declared.raw.Item.{Item}
use Rattle.ir_tree.specs.declared.module.Module.{Module}
use Rattle.ir_parse_names.specs.declared.fault.Fault.{Fault}
use Rattle.ir_parse_names.specs.Groups.{groups_of}
use Rattle.ir_parse_names.specs.Marks.{marks_of}
use Rattle.ir_parse_names.specs.Resolving.{◌>>=◌}
use Rattle.ir_parse_names.specs.Stages.{marks_within, globals_named}
use Rattle.ir_parse_names.specs.TypeNames.{type_names}
use Rattle.ir_parse_names.specs.Types.{Types}
use Rattle.ir_parse.specs.Targets.{datalayout_of, triple_of}
use Rattle.ir_parse.specs.Values.{values_in}

-- the global values one by one, between the target lines
unfoldable pub module_with : Types → List Item → Result Module Fault
module_with types items =
    values_in types (groups_of items) items >>= λ values.
    Ok (record { datalayout = datalayout_of items; triple = triple_of items; globals = values })

-- the stages behind that of type names
abbrev pub module_behind : Types → List Item → Result Module Fault
module_behind types items =
    marks_within types (marks_of items) >>= λ _.
    globals_named (marks_of items) >>= λ _.
    module_with types items

-- each stage goes over the whole text before the next begins: type names, then shapes within the limits and indices of constant
-- addresses, then names of globals, then the functions one by one
unfoldable pub module_in : List Item → Result Module Fault
module_in items =
    type_names (marks_of items) >>= λ types.
    marks_within types (marks_of items) >>= λ _.
    globals_named (marks_of items) >>= λ _.
    module_with types items
