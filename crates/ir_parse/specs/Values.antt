-- The global values of a module, one for each variable, declaration and definition, in the order of the text (LangRef, "Global
-- Variables" and "Functions").
use Rattle.std.specs.Prelude.{false, List, [], ◌∷◌, Option, None, Some, Result, Ok}
use Rattle.ir_parse_parts.specs.declared.raw.Item.{Item}
use Rattle.ir_parse_parts.specs.declared.raw.Item.TheVariants as item
use Rattle.ir_tree.specs.declared.module.GlobalValue.{GlobalValue}
use Rattle.ir_tree.specs.declared.module.GlobalValue.TheVariants as global
use Rattle.ir_parse_names.specs.declared.fault.Fault.{Fault}
use Rattle.ir_parse_names.specs.declared.groups.Groups.{Groups}
use Rattle.ir_parse_values.specs.Blocks.{function_in}
use Rattle.ir_parse_names.specs.Groups.{is_noinline, is_optnone}
use Rattle.ir_parse_names.specs.Resolving.{◌>>=◌}
use Rattle.ir_parse_names.specs.Types.{Types}
use Rattle.ir_parse_names.specs.Variables.{variable_in}

-- the global value that an item is, where it is one. A definition is `noinline` or `optnone` where its head or one of its groups says
-- so; a declaration keeps no attribute
abbrev pub value_in : Types → Groups → Item → Result (Option GlobalValue) Fault
value_in types groups (item.Variable v) = variable_in types v >>= λ t. Ok (Some (global.Variable t))
value_in types groups (item.Declaration head) = function_in types head [] false false >>= λ f. Ok (Some (global.Function f))
value_in types groups (item.Definition head blocks) =
    function_in types head blocks (is_noinline groups head) (is_optnone groups head) >>= λ f. Ok (Some (global.Function f))
value_in types groups _ = Ok None

abbrev pub put : Option GlobalValue → List GlobalValue → List GlobalValue
put None more = more
put (Some g) more = g ∷ more

-- the first item at fault counts
abbrev pub values_in : Types → Groups → List Item → Result (List GlobalValue) Fault
values_in types groups [] = Ok []
values_in types groups (i ∷ is) = value_in types groups i >>= λ g. values_in types groups is >>= λ gs. Ok (put g gs)
