-- The stages that come before functions: shapes within the limits, indices of constant addresses, and the names of globals. In each
-- the fault is at the first token in the order of the text.
use Rattle.std.specs.Prelude.{ℕ, if◌then◌else◌, List, [], ◌∷◌, Option, None, Some, Result, Ok, Err}
use Rattle.ir_lex.specs.Tok.{Tok}
use Rattle.ir_parse_parts.specs.declared.address.Level.{Level}
use Rattle.ir_parse_parts.specs.declared.address.Steps.{Steps}
use Rattle.ir_parse_parts.specs.declared.shape.Typed.{Typed}
use Rattle.ir_parse_names.specs.declared.fault.Fault.{Fault}
use Rattle.ir_parse_names.specs.Addresses.{offset_behind}
use Rattle.ir_parse_names.specs.Bodies.{allocated}
use Rattle.ir_parse_names.specs.Globals.{Globals, no_globals, has_name, with_global}
use Rattle.ir_parse_names.specs.Groups.{once}
use Rattle.ir_parse_names.specs.Locals.{unknown}
use Rattle.ir_parse_names.specs.Marks.{Mark, type_name, shape, many, global, symbol, address}
use Rattle.ir_parse_names.specs.Resolving.{◌>>=◌}
use Rattle.ir_parse_names.specs.Symbols.{symbol_name}
use Rattle.ir_parse_names.specs.Types.{Types, expanded}

abbrev pub Passes : Type 0
Passes = Result (Unit {0}) Fault

abbrev pub passes : {A : Type 0} → Result A Fault → Passes
passes r = r >>= λ _. Ok tt

-- ---- shapes and indices

-- the shapes of a constant address, whose outermost level begins first
abbrev pub levels_within : Types → List Level → Passes
levels_within types [] = Ok tt
levels_within types (l ∷ ls) = levels_within types ls >>= λ _. passes (expanded types l.typed)

-- its shapes begin before its indices, those of the innermost level first
abbrev pub address_within : Types → Steps → Passes
address_within types steps = levels_within types steps.levels >>= λ _. passes (offset_behind 0 types steps.levels)

abbrev pub typed_within : Types → Option Typed → Passes
typed_within types None = Ok tt
typed_within types (Some typed) = passes (expanded types typed)

abbrev pub mark_within : Types → Mark → Passes
mark_within types (type_name name typed) = typed_within types typed
mark_within types (shape typed) = passes (expanded types typed)
mark_within types (many typed count) = passes (allocated types typed count)
mark_within types (address steps) = address_within types steps
mark_within types _ = Ok tt

-- each shape is within the limits as it is expanded, and each index of a constant address counts a part
abbrev pub marks_within : Types → List Mark → Passes
marks_within types [] = Ok tt
marks_within types (m ∷ ms) = mark_within types m >>= λ _. marks_within types ms

-- ---- names of globals

abbrev pub with_global_name : List (List ℕ) → Mark → List (List ℕ)
with_global_name names (global name) = once names (symbol_name name)
with_global_name names _ = names

-- the names of all globals of a module
abbrev pub global_names : List (List ℕ) → List Mark → List (List ℕ)
global_names names [] = names
global_names names (m ∷ ms) = global_names (with_global_name names m) ms

abbrev pub if_there : List (List ℕ) → Globals → Tok → Result Globals Fault
if_there names g name = if has_name names (symbol_name name) then Ok g else Err (unknown name.line)

-- each is defined or declared once, no number is below the counter, and each that is used is one of these
abbrev pub named : List (List ℕ) → Globals → Mark → Result Globals Fault
named names g (global name) = with_global g name
named names g (symbol name) = if_there names g name
named names g (address steps) = if_there names g steps.name
named names g _ = Ok g

abbrev pub all_named : List (List ℕ) → Globals → List Mark → Result Globals Fault
all_named names g [] = Ok g
all_named names g (m ∷ ms) = named names g m >>= λ h. all_named names h ms

-- the names of globals are right
unfoldable pub globals_named : List Mark → Result Globals Fault
globals_named ms = all_named (global_names [] ms) no_globals ms
