-- Variables whose names resolve are formed.
use Rattle.std.proofs.Common.{◌≡◌, ℕ, ◌≤◌, Bool, true, false, if◌then◌else◌, List, [], ◌∷◌, ◌++◌, Option, Some, None, Ok, refl, arith}
use Rattle.std.specs.Prelude.{All}
use Rattle.std.specs.List.{AllByRecursion as Each}
use Rattle.std.proofs.lemmas.List.Elements.{All-from_recursion, All-nil, recursion_from_All}
use Rattle.ir_lex.specs.Quotes.{content}
use Rattle.ir_lex.specs.Tok.{Tok}
use Rattle.ir_parse_parts.specs.Literals.{literal}
use Rattle.ir_parse_parts.proofs.LiteralRange.{literal_fits}
use Rattle.ir_parse_parts.specs.declared.raw.Init as raw_init
use Rattle.ir_parse_parts.specs.declared.raw.InitHead as raw_head
use Rattle.ir_parse_parts.specs.declared.raw.InitHead.TheVariants as rh
use Rattle.ir_parse_parts.specs.declared.raw.InitPart as raw_part
use Rattle.ir_parse_parts.specs.declared.raw.InitPart.TheVariants as rp
use Rattle.ir_parse_parts.specs.declared.raw.Operand as raw_operand
use Rattle.ir_parse_parts.specs.declared.raw.Operand.TheVariants as ro
use Rattle.ir_tree.specs.Formed.{IsReg, IsShape, IsWidth}
use Rattle.ir_tree.specs.Forms.{Form, int, pointer, array, structure}
use Rattle.ir_tree.specs.Initials.{Initial, Initials, Levels, around, begun, headed, levels, read, tree_of}
use Rattle.ir_tree.specs.Layout.{align}
use Rattle.ir_tree.specs.Wholes.{ConstantFormed, VariableFormed, all_operands, init_operands, initial_operands}
use Rattle.ir_tree.specs.declared.init_node.InitHead.{InitHead}
use Rattle.ir_tree.specs.declared.init_node.InitHead.TheVariants as th
use Rattle.ir_tree.specs.declared.init_node.InitPart.{InitPart}
use Rattle.ir_tree.specs.declared.init_node.InitPart.TheVariants as tp
use Rattle.ir_tree.specs.declared.operand.Operand.{Operand}
use Rattle.ir_tree.specs.declared.operand.Operand.TheVariants as to
use Rattle.ir_parse_names.specs.declared.locals.Sort.TheVariants.{Value}
use Rattle.ir_parse_names.specs.Addresses.{offset_behind}
use Rattle.ir_parse_names.specs.Bodies.{align_or, operand_in}
use Rattle.ir_parse_names.specs.Locals.{none_known}
use Rattle.ir_parse_names.specs.Resolving.{◌>>=◌}
use Rattle.ir_parse_names.specs.Symbols.{symbol_of}
use Rattle.ir_parse_names.specs.Types.{Types, is_width, expanded}
use Rattle.ir_parse_names.specs.Variables.{constant_for, constant_type, head_in, init_if, init_in, literal_or, number_for, part_in, variable_in}
use Rattle.ir_parse.specs.Resolved.{VariablesAreFormed}
use Rattle.ir_parse.specs.Written.{HeadWritten, InitWritten, OperandWritten, PartWritten}
use Rattle.ir_parse.proofs.ResolvedAlignments.{aligned, shape_align}
use Rattle.ir_parse.proofs.Gives.{Gives, gives, bind, bind_each, whatever}
use Rattle.ir_parse.proofs.ResolvedShapes.{constant_typed, expands}
use Rattle.ir_parse.proofs.Uses.{IsPlace, used}

-- ---- what stands in an initialiser

-- no local is known
no_place : (n : ℕ) → IsPlace none_known Value n → ⊥
no_place n e = absurd cc

constant_formed : (types : Types) (o : raw_operand.Operand) → OperandWritten o → Gives (operand_in types none_known o) ConstantFormed
constant_formed types (ro.Local name) h = bind (IsPlace none_known Value) ConstantFormed _ _ (used none_known Value name) (λ n e. gives ConstantFormed (to.Local n) (no_place n e))
constant_formed types (ro.Global name) h = gives ConstantFormed (to.Symbol (symbol_of name) 0) tt
constant_formed types (ro.Number width bits) h = gives ConstantFormed (to.Number width bits) h
constant_formed types ro.Null h = gives ConstantFormed to.Null tt
constant_formed types (ro.Poison reg) h = gives ConstantFormed (to.Poison reg) h
constant_formed types (ro.Address steps) h = bind _ ConstantFormed _ _ (whatever (offset_behind 0 types steps.levels)) (λ offset _. gives ConstantFormed (to.Symbol (symbol_of steps.name) offset) tt)

abbrev HeadFormed : InitHead → Type 0
HeadFormed (th.Plain operand) = ConstantFormed operand
HeadFormed _ = Unit {0}

abbrev PartFormed : InitPart → Type 0
PartFormed (tp.Typed shape head) = HeadFormed head
PartFormed tp.End = Unit {0}

-- poison takes the type of the shape
shape_typed : (f : Form) → IsShape f → IsReg (constant_type f)
shape_typed (int w) s = let low : 8 ≤ w = s.sized.0 in (omega (arith, low), s.sized.1)
shape_typed pointer s = tt
shape_typed (array n of) s = (omega arith, omega arith)
shape_typed (structure packed parts) s = (omega arith, omega arith)

for_formed : (f : Form) → IsReg (constant_type f) → (x : Operand) → ConstantFormed x → ConstantFormed (constant_for f x)
for_formed f t (to.Poison reg) h = t
for_formed f t x h = h

-- a literal of an integer that memory holds, or one of i1
number_formed : (f : Form) (t : Tok) → ConstantFormed (number_for f t)
number_formed (int w) t = by_width (is_width w) refl
  where
    one_bit : ConstantFormed (to.Number 1 0)
    one_bit = ((omega arith, omega arith), omega arith)

    wide : (w : ℕ) → is_width w ≡ true → IsWidth w
    wide w h = (grind (arith, h), grind (arith, h))

    by_bits : IsWidth w → (o : Option ℕ) → literal w t.text ≡ o → ConstantFormed (literal_or w o)
    by_bits h None e = one_bit
    by_bits h (Some bits) e = (h, literal_fits w t.text bits e)

    by_width : (b : Bool) → is_width w ≡ b → ConstantFormed (literal_or w (if b then literal w t.text else None))
    by_width true h = by_bits (wide w h) (literal w t.text) refl
    by_width false h = one_bit
number_formed pointer t = ((omega arith, omega arith), omega arith)
number_formed (array n of) t = ((omega arith, omega arith), omega arith)
number_formed (structure packed parts) t = ((omega arith, omega arith), omega arith)

head_formed : (types : Types) (f : Form) → IsReg (constant_type f) → (h : raw_head.InitHead) → HeadWritten h → Gives (head_in types none_known f h) HeadFormed
head_formed types f t (rh.Plain operand) w = bind ConstantFormed HeadFormed _ _ (constant_formed types operand w) (λ o g. gives HeadFormed (th.Plain (constant_for f o)) (for_formed f t o g))
head_formed types f t rh.Zeros w = gives HeadFormed th.Zeros tt
head_formed types f t (rh.Bytes string) w = gives HeadFormed (th.Bytes (content string.form string.text)) tt
head_formed types f t (rh.Number number) w = gives HeadFormed (th.Plain (number_for f number)) (number_formed f number)
head_formed types f t rh.Array w = gives HeadFormed th.Array tt
head_formed types f t (rh.Struct packed) w = gives HeadFormed (th.Struct packed) tt

part_formed : (types : Types) (p : raw_part.InitPart) → PartWritten p → Gives (part_in types none_known p) PartFormed
part_formed types (rp.Typed typed head) w =
    bind (λ f. IsReg (constant_type f)) PartFormed _ _ (constant_typed types typed) (λ f t. bind HeadFormed PartFormed _ _ (head_formed types f t head w) (λ h g. gives PartFormed (tp.Typed f h) g))
part_formed types rp.End w = gives PartFormed tp.End tt

-- ---- the tree of the parts

abbrev AllConstant : Initials → Type 0
AllConstant vs = Each ConstantFormed (all_operands vs)

abbrev LevelsConstant : Levels → Type 0
LevelsConstant l = AllConstant l.0 × Each AllConstant l.1

both : (xs ys : List Operand) → Each ConstantFormed xs → Each ConstantFormed ys → Each ConstantFormed (xs ++ ys)
both [] ys h g = g
both (x ∷ xs) ys h g = (h.0, both xs ys h.1 g)

around_constant : (ls : List Initials) → Each AllConstant ls → LevelsConstant (around ls)
around_constant [] h = (tt, tt)
around_constant (vs ∷ more) h = h

begun_constant : (f : Form) (h : InitHead) (l : Levels) → HeadFormed h → LevelsConstant l → LevelsConstant (begun f h l)
begun_constant f (th.Plain operand) l h g = ((h, g.0), g.1)
begun_constant f th.Zeros l h g = g
begun_constant f (th.Bytes text) l h g = g
begun_constant f th.Array l h g = let out : LevelsConstant (around l.1) = around_constant l.1 g.1 in (both (all_operands l.0) (all_operands (around l.1).0) g.0 out.0, out.1)
begun_constant f (th.Struct packed) l h g = let out : LevelsConstant (around l.1) = around_constant l.1 g.1 in (both (all_operands l.0) (all_operands (around l.1).0) g.0 out.0, out.1)

read_constant : (p : InitPart) (l : Levels) → PartFormed p → LevelsConstant l → LevelsConstant (read p l)
read_constant (tp.Typed f head) l h g = begun_constant f head l h g
read_constant tp.End l h g = (tt, g)

levels_constant : (ps : List InitPart) → Each PartFormed ps → LevelsConstant (levels ps)
levels_constant [] h = (tt, tt)
levels_constant (p ∷ ps) h = read_constant p (levels ps) h.0 (levels_constant ps h.1)

tree_constant : (root : InitHead) (vs : Initials) → HeadFormed root → AllConstant vs → Each ConstantFormed (initial_operands (headed root vs))
tree_constant (th.Plain operand) vs h g = (h, tt)
tree_constant th.Zeros vs h g = tt
tree_constant (th.Bytes text) vs h g = tt
tree_constant th.Array vs h g = g
tree_constant (th.Struct packed) vs h g = g

abbrev InitialFormed : Initial → Type 0
InitialFormed v = Each ConstantFormed (initial_operands v)

initial_formed : (types : Types) (f : Form) → IsReg (constant_type f) → (i : raw_init.Init) → InitWritten (Some i) → Gives (init_in types f i) InitialFormed
unfolding init_in
initial_formed types f t i w =
    bind HeadFormed InitialFormed _ _ (head_formed types f t i.root w.0) (λ root h.
    bind (Each PartFormed) InitialFormed _ _ (bind_each PartWritten PartFormed (part_in types none_known) (part_formed types) i.parts (recursion_from_All PartWritten i.parts w.1)) (λ parts g.
    gives InitialFormed (tree_of (root, parts)) (tree_constant root (levels parts).0 h (levels_constant parts g).0)))

-- ---- variables

-- an initialiser is there where one is written
abbrev InitFormed : Option raw_init.Init → Option Initial → Type 0
InitFormed written i = All ConstantFormed (init_operands i) × (i ≡ None → written ≡ None)

init_formed : (types : Types) (f : Form) → IsReg (constant_type f) → (written : Option raw_init.Init) → InitWritten written → Gives (init_if types f written) (InitFormed written)
init_formed types f t None w = gives (InitFormed None) None (All-nil ConstantFormed, λ e. refl)
init_formed types f t (Some i) w =
    bind InitialFormed (InitFormed (Some i)) _ _ (initial_formed types f t i w) (λ v h. gives (InitFormed (Some i)) (Some v) (All-from_recursion ConstantFormed (initial_operands v) h, λ e. absurd cc))

pub variables_formed : VariablesAreFormed
unfolding variable_in
variables_formed types v resolved are w e =
    (bind IsShape VariableFormed (expanded types v.typed)
    (λ f. init_if types f v.init >>= λ i. Ok (record { symbol = symbol_of v.name; linkage = v.linkage; constant = v.constant; shape = f; init = i; align = align_or (align f) v.align }))
    (expands types are v.typed w.shape) (λ f g.
    bind (InitFormed v.init) VariableFormed (init_if types f v.init)
    (λ i. Ok (record { symbol = symbol_of v.name; linkage = v.linkage; constant = v.constant; shape = f; init = i; align = align_or (align f) v.align }))
    (init_formed types f (shape_typed f g) v.init w.init) (λ i h.
    gives VariableFormed (record { symbol = symbol_of v.name; linkage = v.linkage; constant = v.constant; shape = f; init = i; align = align_or (align f) v.align })
    (record { shape = g; align = aligned (align f) v.align (shape_align f g.stored) w.align; operands = h.0; declared = λ none. w.declared (h.1 none) })))).given resolved e
