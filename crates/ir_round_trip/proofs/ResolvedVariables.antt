-- Printed variables resolve to themselves, with their initialisers.
use Rattle.std.proofs.Common.{◌≡◌, ℕ, Bool, Option, Some, None, Ok, List, [], ◌∷◌, refl, sym, ap, ◌∙◌}
use Rattle.std.specs.List.{AllByRecursion as Each}
use Rattle.ir_parse_globals.specs.Constants.{type_of}
use Rattle.ir_parse_globals.specs.Initialisers.{scalar_of}
use Rattle.ir_lex.specs.Quotes.{content}
use Rattle.ir_lex.specs.Tok.{Tok}
use Rattle.ir_lex.specs.declared.token.TokenForm.TheVariants as forms
use Rattle.ir_parse_names.specs.Bodies.{align_or}
use Rattle.ir_parse_names.specs.Locals.{none_known}
use Rattle.ir_parse_names.specs.Types.{Types}
use Rattle.ir_parse_names.specs.Variables.{constant_for, constant_type, head_in, part_in, init_in, init_if, variable_in}
use Rattle.ir_parse_parts.specs.declared.raw.Init as raw_init
use Rattle.ir_parse_parts.specs.declared.raw.InitHead as raw_head
use Rattle.ir_parse_parts.specs.declared.raw.InitHead.TheVariants as rh
use Rattle.ir_parse_parts.specs.declared.raw.InitPart as raw_part
use Rattle.ir_parse_parts.specs.declared.raw.InitPart.TheVariants as rp
use Rattle.ir_parse_parts.specs.declared.raw.Variable as raw_variable
use Rattle.ir_tree.specs.Forms.{Form, int, pointer, array, structure}
use Rattle.ir_tree.specs.Initials.{Initial, Initials, plain, zeros, bytes, elements, members, no_initials, initial, head_of, parts_of, all_parts, tree_of-flat_of}
use Rattle.ir_tree.specs.Layout.{align}
use Rattle.ir_tree.specs.Names.{AllBytes}
use Rattle.ir_tree.specs.declared.function.Linkage.{Linkage}
use Rattle.ir_tree.specs.declared.function.Linkage.TheVariants.{External}
use Rattle.ir_tree.specs.declared.function.Variable.{Variable}
use Rattle.ir_tree.specs.declared.init_node.InitHead.{InitHead}
use Rattle.ir_tree.specs.declared.init_node.InitHead.TheVariants.{Plain, Zeros, Bytes, Array, Struct}
use Rattle.ir_tree.specs.declared.init_node.InitPart.{InitPart}
use Rattle.ir_tree.specs.declared.init_node.InitPart.TheVariants.{Typed, End}
use Rattle.ir_tree.specs.declared.operand.Operand.{Operand}
use Rattle.ir_tree.specs.declared.operand.Operand.TheVariants.{Local, Poison, Symbol}
use Rattle.ir_tree.specs.declared.operand.Reg.{Reg}
use Rattle.ir_tree.specs.declared.operand.Symbol as tree_symbol
use Rattle.ir_round_trip.specs.Variables.{IsBytes, IsInitHead, IsInitPart, IsInit, IsInitOf, IsVariable, linkage_of}
use Rattle.ir_round_trip.specs.VariablesReadable.{ConstantReadable, InitialReadable, InitialsReadable, InitReadable, VariableReadable}
use Rattle.ir_round_trip.proofs.Binds.{bound, each_of}
use Rattle.ir_round_trip.proofs.PrintedOperands.{operand_again}
use Rattle.ir_round_trip.proofs.Shapes.{shape_again}
use Rattle.ir_round_trip.proofs.Symbols.{symbol_again}
use Rattle.ir_round_trip.specs.PrintedKnown.{OperandKnown, InitialKnown, InitialsKnown, InitKnown, VariableKnown}
use Rattle.ir_round_trip.specs.PartsPrinted.{written_shape}
use Rattle.ir_round_trip.specs.PartsReadable.{OperandReadable, ShapeReadable}
use Rattle.ir_round_trip.proofs.Quoted.{byte_string_content}

-- ---- beginnings

as_operand : (reg : Reg) (x : Operand) → ConstantReadable reg x → OperandReadable reg x
as_operand reg (Local n) h = absurd h
as_operand reg x h = h

string_again : (text : List ℕ) (t : Tok) → AllBytes text → IsBytes text t → content t.form t.text ≡ text
string_again text t a i = ap (λ k. content k t.text) i.form ∙ ap (content forms.CStr) i.text ∙ byte_string_content text a

-- what is asked of a beginning behind this shape
abbrev HeadFits : Form → InitHead → Type 0
HeadFits f (Plain x) = ConstantReadable (type_of (scalar_of (written_shape f))) x × OperandKnown [] x
HeadFits f (Bytes text) = AllBytes text
HeadFits f h = Unit {0}

-- the type of a constant for a shape is that of the scalar that is printed before it
pub type_again : (f : Form) → constant_type f ≡ type_of (scalar_of (written_shape f))
type_again (int w) = refl
type_again pointer = refl
type_again (array n of) = refl
type_again (structure packed parts) = refl

constant_again : (f : Form) (x : Operand) → ConstantReadable (type_of (scalar_of (written_shape f))) x → constant_for f x ≡ x
constant_again f (Poison reg) h = ap Poison (type_again f ∙ sym h)
constant_again f x h = refl

head_again : (types : Types) (f : Form) (h : InitHead) (r : raw_head.InitHead) → HeadFits f h → IsInitHead h r → head_in types none_known f r ≡ Ok h
head_again types f (Plain x) (rh.Plain y) h i =
    bound _ (operand_again types [] (type_of (scalar_of (written_shape f))) x y (as_operand _ x h.0) h.1 i) (ap (λ (o : Operand). Ok (Plain o)) (constant_again f x h.0))
head_again types f Zeros rh.Zeros h i = refl
head_again types f (Bytes text) (rh.Bytes string) h i = ap (λ (cs : List ℕ). Ok (Bytes cs)) (string_again text string h i)
head_again types f Array rh.Array h i = refl
head_again types f (Struct packed) (rh.Struct p) h i = ap (λ (b : Bool). Ok (Struct b)) i
head_again types f h r k i = absurd i

-- ---- parts

abbrev PartFits : InitPart → Type 0
PartFits (Typed f h) = ShapeReadable f × HeadFits f h
PartFits End = Unit {0}

part_again : (types : Types) (p : InitPart) (r : raw_part.InitPart) → PartFits p → IsInitPart p r → part_in types none_known r ≡ Ok p
part_again types (Typed f h) (rp.Typed typed head) k i = bound _ (shape_again types typed f k.0.shape i.0) (bound _ (head_again types f h head k.1 i.1) refl)
part_again types End rp.End k i = refl
part_again types p r k i = absurd i

head_fits : (f : Form) (v : Initial) → InitialReadable f v → InitialKnown v → HeadFits f (head_of v)
head_fits f (plain x) h k = (h, k)
head_fits f zeros h k = tt
head_fits f (bytes text) h k = k
head_fits f (elements vs) h k = tt
head_fits f (members packed vs) h k = tt

mutual
  parts_fit : (f : Form) (v : Initial) → InitialReadable f v → InitialKnown v → (rest : List InitPart) → Each PartFits rest → Each PartFits (parts_of v rest)
  parts_fit f (plain x) h k rest r = r
  parts_fit f zeros h k rest r = r
  parts_fit f (bytes text) h k rest r = r
  parts_fit f (elements vs) h k rest r = all_fit vs h k (End ∷ rest) (tt, r)
  parts_fit f (members packed vs) h k rest r = all_fit vs h k (End ∷ rest) (tt, r)

  all_fit : (vs : Initials) → InitialsReadable vs → InitialsKnown vs → (rest : List InitPart) → Each PartFits rest → Each PartFits (all_parts vs rest)
  all_fit no_initials h k rest r = r
  all_fit (initial f v vs) h k rest r = ((h.0, head_fits f v h.1 k.0), parts_fit f v h.1 k.0 (all_parts vs rest) (all_fit vs h.2 k.1 rest r))

-- ---- initialisers

initial_again : (types : Types) (f : Form) (v : Initial) (i : raw_init.Init) → InitialReadable f v → InitialKnown v → IsInit v i → init_in types f i ≡ Ok v
unfolding init_in
initial_again types f v i h k p =
    bound _ (head_again types f (head_of v) i.root (head_fits f v h k) p.root)
    (bound _ (each_of (part_in types none_known) IsInitPart PartFits (λ a b c d. part_again types a b c d) (parts_of v []) i.parts (parts_fit f v h k [] tt) p.parts) (ap (λ (t : Initial). Ok t) (tree_of-flat_of v)))

init_again : (types : Types) (f : Form) (v : Option Initial) (i : Option raw_init.Init) → InitReadable f v → InitKnown v → IsInitOf v i → init_if types f i ≡ Ok v
init_again types f None None h k p = refl
init_again types f (Some v) (Some i) h k p = bound _ (initial_again types f v i h k p) refl
init_again types f v i h k p = absurd p

-- ---- variables

linkage_again : (init : Option Initial) (l : Linkage) → (init ≡ None → l ≡ External) → linkage_of init l ≡ l
linkage_again None l h = sym (h refl)
linkage_again (Some v) l h = refl

pub variable_again : (types : Types) (v : Variable) (r : raw_variable.Variable) → VariableReadable v → VariableKnown v → IsVariable v r → variable_in types r ≡ Ok v
unfolding variable_in
variable_again types v r h k p =
    bound _ (shape_again types r.typed v.shape h.shape.shape p.shape) (bound _ (init_again types v.shape v.init r.init h.init k.init p.init)
    (ap (λ (x : tree_symbol.Symbol). Ok (record { symbol = x; linkage = r.linkage; constant = r.constant; shape = v.shape; init = v.init; align = align_or (align v.shape) r.align })) (symbol_again v.symbol r.name k.home h.name p.name)
    ∙ ap (λ (x : Linkage). Ok (record { symbol = v.symbol; linkage = x; constant = r.constant; shape = v.shape; init = v.init; align = align_or (align v.shape) r.align })) (p.linkage ∙ linkage_again v.init v.linkage k.declared)
    ∙ ap (λ (x : Bool). Ok (record { symbol = v.symbol; linkage = v.linkage; constant = x; shape = v.shape; init = v.init; align = align_or (align v.shape) r.align })) p.constant
    ∙ ap (λ (x : Option ℕ). Ok (record { symbol = v.symbol; linkage = v.linkage; constant = v.constant; shape = v.shape; init = v.init; align = align_or (align v.shape) x })) p.align))
