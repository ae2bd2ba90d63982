-- Type names: each is defined once, and each that is used is defined, isn't opaque, and doesn't hold itself (LangRef, "Structure Type"
-- and "Opaque Structure Types").
use Rattle.std.specs.Prelude.{ℕ, Bool, false, if◌then◌else◌, List, [], ◌∷◌, ◌++◌, map, position, is_some, Option, None, Some, Result, Ok, Err}
use Rattle.ir_lex.specs.Tok.{Tok}
use Rattle.ir_parse_parts.specs.Shapes.{Written}
use Rattle.ir_parse_names.specs.declared.fault.Fault.{Fault}
use Rattle.ir_parse_names.specs.Keys.{Key, key_of, same_key}
use Rattle.ir_parse_names.specs.Locals.{unknown}
use Rattle.ir_parse_names.specs.Marks.{Mark, type_name, type_use, uses}
use Rattle.ir_parse_names.specs.Resolving.{◌>>=◌}
use Rattle.ir_parse_names.specs.Stages.{Passes}
use Rattle.ir_parse_names.specs.Types.{Types, entry_of, shape_in, shape_if, with_type}
use Rattle.ir_parse_names.specs.Walks.{Graph, is_on_circle}

-- the first definition of each name, in the order of the text
abbrev pub with_first : Types → Mark → Types
with_first types (type_name name typed) =
    if is_some (entry_of types (key_of name)) then types else types ++ (key_of name, shape_if typed) ∷ []
with_first types _ = types

abbrev pub first_types : Types → List Mark → Types
first_types types [] = types
first_types types (m ∷ ms) = first_types (with_first types m) ms

-- ---- names that hold themselves

abbrev pub place_of : Types → Key → Option ℕ
place_of types key = position (same_key key) (map (λ d. d.0) types)

abbrev pub put : Option ℕ → List ℕ → List ℕ
put None ps = ps
put (Some p) ps = p ∷ ps

-- the places of the definitions of the names that are used and defined
abbrev pub places : Types → List Mark → List ℕ
places types [] = []
places types (type_use name ∷ ms) = put (place_of types (key_of name)) (places types ms)
places types (_ ∷ ms) = places types ms

abbrev pub uses_in : Option Written → List Mark
uses_in None = []
uses_in (Some s) = uses s

-- from each definition an edge to that of each name in its shape
abbrev pub graph_from : Types → Types → Graph
graph_from types [] = []
graph_from types (d ∷ ds) = places types (uses_in d.1) ∷ graph_from types ds

abbrev pub graph_of : Types → Graph
graph_of types = graph_from types types

abbrev pub circle_at : Graph → Option ℕ → Bool
circle_at graph None = false
circle_at graph (Some p) = is_on_circle graph p

abbrev pub holds_itself : Types → Key → Bool
holds_itself types key = circle_at (graph_of types) (place_of types key)

-- ---- the stage

abbrev pub use_in : Types → Tok → Passes
use_in types name = shape_in types name >>= λ _. if holds_itself types (key_of name) then Err (unknown name.line) else Ok tt

-- with all types, and those so far
abbrev pub typed_by : Types → Types → Mark → Result Types Fault
typed_by all types (type_name name typed) = with_type types name (shape_if typed)
typed_by all types (type_use name) = use_in all name >>= λ _. Ok types
typed_by all types _ = Ok types

abbrev pub all_typed : Types → Types → List Mark → Result Types Fault
all_typed all types [] = Ok types
all_typed all types (m ∷ ms) = typed_by all types m >>= λ ts. all_typed all ts ms

-- the type names of a module: a fault is at the first token that defines a name a second time, or uses one that it may not
unfoldable pub type_names : List Mark → Result Types Fault
type_names ms = all_typed (first_types [] ms) [] ms
