-- Type definitions and variables, read as calls read them.
use Rattle.std.proofs.Common.{◌≡◌, ℕ, Bool, Option, List, [], ◌∷◌, ◌++◌, Result, Ok, Err, refl}
use Rattle.ir_lex.specs.declared.token_kind.TokenKind.TheVariants as kinds
use Rattle.ir_lex.specs.Tok.{Tok}
use Rattle.ir_tree.specs.declared.function.Linkage.{Linkage}
use Rattle.ir_parse_parts.specs.declared.fault.Fault.{Fault}
use Rattle.ir_parse_parts.specs.Readers.{Reader, done, follow, ◌>>=◌}
use Rattle.ir_parse_parts.specs.Classes.{one_of_at, the_at}
use Rattle.ir_parse_parts.specs.declared.raw.Item.{Item}
use Rattle.ir_parse_parts.specs.declared.raw.Item.TheVariants as items
use Rattle.ir_parse_parts.specs.declared.raw.Init.{Init}
use Rattle.ir_parse_parts.specs.declared.shape.Typed.{Typed}
use Rattle.ir_parse_parts.specs.OperandsAt.{local_at}
use Rattle.ir_parse_operands.specs.Adding.{pushed_at}
use Rattle.ir_parse_operands.specs.ShapeFormsAt.{memory_shape_at}
use Rattle.ir_parse_globals.specs.declared.variables.Body.{Body}
use Rattle.ir_parse_globals.specs.Initialisers.{scalar_of}
use Rattle.ir_parse_globals.specs.TypeDefinitionsAt.{defined_at, type_line_at, type_name_at}
use Rattle.ir_parse_globals.specs.Variables.{KINDS, is_constant, is_declared, variable}
use Rattle.ir_parse_globals.specs.VariablesAt.{behind_kind_at, headed_at, linked_at, tail_at, value_at, variable_line_at, variable_name_at}

module _ (front : List Item) where
  abbrev pushed_to : Item → Reader Tok (List Item)
  pushed_to x = done (front ++ x ∷ [])

  abbrev behind_name : Tok → Reader Tok (List Item)
  behind_name name = pushed_at front (defined_at >>= λ typed. done (items.Type name typed))

  pub type_line_is : (ts : List Tok) → pushed_at front type_line_at ts ≡ follow (type_name_at ts) behind_name
  unfolding type_line_at
  type_line_is ts = by_name (local_at ts)
    where
      by_type : (name : Tok) (r : Result (Unit {0} × List Tok) Fault) → follow (follow r (λ _. defined_at >>= λ typed. done (items.Type name typed))) pushed_to ≡ follow (follow r (λ _. done name)) behind_name
      by_type name (Ok x) = refl
      by_type name (Err e) = refl

      by_equals : (name : Tok) (r : Result (Unit {0} × List Tok) Fault)
          → follow (follow r (λ _. the_at kinds.Type >>= λ _. defined_at >>= λ typed. done (items.Type name typed))) pushed_to ≡ follow (follow r (λ _. the_at kinds.Type >>= λ _. done name)) behind_name
      by_equals name (Ok x) = by_type name (the_at kinds.Type x.1)
      by_equals name (Err e) = refl

      by_name : (r : Result (Tok × List Tok) Fault)
          → follow (follow r (λ name. the_at kinds.Equals >>= λ _. the_at kinds.Type >>= λ _. defined_at >>= λ typed. done (items.Type name typed))) pushed_to ≡ follow (follow r (λ name. the_at kinds.Equals >>= λ _. the_at kinds.Type >>= λ _. done name)) behind_name
      by_name (Ok x) = by_equals x.0 (the_at kinds.Equals x.1)
      by_name (Err e) = refl

  abbrev behind_headed : Tok × (Option Linkage × Bool) → Reader Tok (List Item)
  behind_headed h = pushed_at front (behind_kind_at h.0 h.1.0 h.1.1)

  pub variable_line_is : (ts : List Tok) → pushed_at front variable_line_at ts ≡ follow (headed_at ts) behind_headed
  unfolding variable_line_at
  variable_line_is ts = by_name (variable_name_at ts)
    where
      by_kind : (name : Tok) (l : Option Linkage) (r : Result (Bool × List Tok) Fault) → follow (follow r (λ constant. behind_kind_at name l constant)) pushed_to ≡ follow (follow r (λ constant. done (name, (l, constant)))) behind_headed
      by_kind name l (Ok x) = refl
      by_kind name l (Err e) = refl

      by_linkage : (name : Tok) (r : Result (Option Linkage × List Tok) Fault)
          → follow (follow r (λ l. one_of_at KINDS is_constant >>= λ constant. behind_kind_at name l constant)) pushed_to ≡ follow (follow r (λ l. one_of_at KINDS is_constant >>= λ constant. done (name, (l, constant)))) behind_headed
      by_linkage name (Ok x) = by_kind name x.0 (one_of_at KINDS is_constant x.1)
      by_linkage name (Err e) = refl

      by_equals : (name : Tok) (r : Result (Unit {0} × List Tok) Fault)
          → follow (follow r (λ _. linked_at >>= λ l. one_of_at KINDS is_constant >>= λ constant. behind_kind_at name l constant)) pushed_to ≡ follow (follow r (λ _. linked_at >>= λ l. one_of_at KINDS is_constant >>= λ constant. done (name, (l, constant)))) behind_headed
      by_equals name (Ok x) = by_linkage name (linked_at x.1)
      by_equals name (Err e) = refl

      by_name : (r : Result (Tok × List Tok) Fault)
          → follow (follow r (λ name. the_at kinds.Equals >>= λ _. linked_at >>= λ l. one_of_at KINDS is_constant >>= λ constant. behind_kind_at name l constant)) pushed_to ≡ follow (follow r (λ name. the_at kinds.Equals >>= λ _. linked_at >>= λ l. one_of_at KINDS is_constant >>= λ constant. done (name, (l, constant)))) behind_headed
      by_name (Ok x) = by_equals x.0 (the_at kinds.Equals x.1)
      by_name (Err e) = refl

-- the variable that stands behind `global` or `constant`, by its parts
module _ (name : Tok) (l : Option Linkage) (constant : Bool) where
  abbrev pub made : Body → Reader Tok Item
  made b = done (variable name l constant b.typed b.init b.align)

  pub behind_kind_is : (ts : List Tok)
      → behind_kind_at name l constant ts ≡ follow (follow {B = Body} (memory_shape_at ts) (λ typed. value_at (is_declared l) (scalar_of typed.shape) >>= λ init. tail_at >>= λ align. done (record { typed = typed; init = init; align = align }))) made
  unfolding behind_kind_at
  behind_kind_is ts = by_shape (memory_shape_at ts)
    where
      by_align : (typed : Typed) (init : Option Init) (r : Result (Option ℕ × List Tok) Fault) → follow r (λ align. done (variable name l constant typed init align)) ≡ follow (follow {B = Body} r (λ align. done (record { typed = typed; init = init; align = align }))) made
      by_align typed init (Ok x) = refl
      by_align typed init (Err e) = refl

      by_init : (typed : Typed) (r : Result (Option Init × List Tok) Fault)
          → follow r (λ init. tail_at >>= λ align. done (variable name l constant typed init align)) ≡ follow (follow {B = Body} r (λ init. tail_at >>= λ align. done (record { typed = typed; init = init; align = align }))) made
      by_init typed (Ok x) = by_align typed x.0 (tail_at x.1)
      by_init typed (Err e) = refl

      by_shape : (r : Result (Typed × List Tok) Fault)
          → follow r (λ typed. value_at (is_declared l) (scalar_of typed.shape) >>= λ init. tail_at >>= λ align. done (variable name l constant typed init align)) ≡ follow (follow {B = Body} r (λ typed. value_at (is_declared l) (scalar_of typed.shape) >>= λ init. tail_at >>= λ align. done (record { typed = typed; init = init; align = align }))) made
      by_shape (Ok x) = by_init x.0 (value_at (is_declared l) (scalar_of x.0.shape) x.1)
      by_shape (Err e) = refl
