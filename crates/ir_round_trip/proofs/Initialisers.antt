-- Marks of printed initialisers.
use Rattle.std.proofs.Common.{Option, Some, None, List, [], ◌∷◌, ◌++◌}
use Rattle.std.specs.List.{AllByRecursion as Each}
use Rattle.ir_parse_globals.specs.Constants.{type_of}
use Rattle.ir_parse_globals.specs.Initialisers.{scalar_of}
use Rattle.ir_parse_names.specs.Marks.{all, typed_marks, head_marks, part_marks, init_marks}
use Rattle.ir_parse_parts.specs.declared.raw.Init as raw_init
use Rattle.ir_parse_parts.specs.declared.raw.InitHead as raw_head
use Rattle.ir_parse_parts.specs.declared.raw.InitHead.TheVariants as rh
use Rattle.ir_parse_parts.specs.declared.raw.InitPart as raw_part
use Rattle.ir_parse_parts.specs.declared.raw.InitPart.TheVariants as rp
use Rattle.ir_tree.specs.Forms.{Form}
use Rattle.ir_tree.specs.Initials.{Initial, Initials, plain, zeros, bytes, elements, members, no_initials, initial, head_of, parts_of, all_parts}
use Rattle.ir_tree.specs.Wholes.{IsKnown, initial_operands, all_operands, init_operands}
use Rattle.ir_tree.specs.declared.init_node.InitHead.{InitHead}
use Rattle.ir_tree.specs.declared.init_node.InitHead.TheVariants.{Plain, Zeros, Bytes, Array, Struct}
use Rattle.ir_tree.specs.declared.init_node.InitPart.{InitPart}
use Rattle.ir_tree.specs.declared.init_node.InitPart.TheVariants.{Typed, End}
use Rattle.ir_tree.specs.declared.operand.Operand.{Operand}
use Rattle.ir_tree.specs.declared.operand.Operand.TheVariants.{Local}
use Rattle.ir_tree.specs.declared.operand.Reg.{Reg}
use Rattle.ir_tree.specs.declared.operand.Symbol as tree_symbol
use Rattle.ir_round_trip.proofs.Each.{front, back, joined, all_marks}
use Rattle.ir_round_trip.proofs.Names.{names_of}
use Rattle.ir_round_trip.proofs.Operands.{Marks, operand_inner, typed_inner}
use Rattle.ir_round_trip.proofs.Passing.{Inner}
use Rattle.ir_round_trip.specs.Variables.{IsInitHead, IsInitPart, IsInit, IsInitOf}
use Rattle.ir_round_trip.specs.VariablesReadable.{ConstantReadable, InitialReadable, InitialsReadable, InitReadable}
use Rattle.ir_round_trip.specs.PartsPrinted.{written_shape}
use Rattle.ir_round_trip.specs.PartsReadable.{OperandReadable, ShapeReadable}

as_operand : (reg : Reg) (x : Operand) → ConstantReadable reg x → OperandReadable reg x
as_operand reg (Local n) h = absurd h
as_operand reg x h = h

module _ (known : List tree_symbol.Symbol) where
  abbrev HeadNamed : Form → InitHead → Type 0
  HeadNamed f (Plain x) = ConstantReadable (type_of (scalar_of (written_shape f))) x × IsKnown known x
  HeadNamed f h = Unit {0}

  abbrev PartNamed : InitPart → Type 0
  PartNamed (Typed f h) = ShapeReadable f × HeadNamed f h
  PartNamed End = Unit {0}

  head_inner : (f : Form) (h : InitHead) (r : raw_head.InitHead) → HeadNamed f h → IsInitHead h r → Marks known (head_marks r)
  head_inner f (Plain x) (rh.Plain y) h i = operand_inner known (type_of (scalar_of (written_shape f))) x y (as_operand _ x h.0) h.1 i
  head_inner f Zeros rh.Zeros h i = tt
  head_inner f (Bytes text) (rh.Bytes string) h i = tt
  head_inner f Array rh.Array h i = tt
  head_inner f (Struct packed) (rh.Struct p) h i = tt
  head_inner f h r k i = absurd i

  part_inner : (p : InitPart) (r : raw_part.InitPart) → PartNamed p → IsInitPart p r → Marks known (part_marks r)
  part_inner (Typed f h) (rp.Typed typed head) k i = joined (Inner (names_of known)) (typed_marks typed) (head_marks head) (typed_inner known typed f k.0 i.0) (head_inner f h head k.1 i.1)
  part_inner End rp.End k i = tt
  part_inner p r k i = absurd i

  -- ---- the flat list of a tree

  abbrev AreNamed : List Operand → Type 0
  AreNamed xs = Each (IsKnown known) xs

  head_named : (f : Form) (v : Initial) → InitialReadable f v → AreNamed (initial_operands v) → HeadNamed f (head_of v)
  head_named f (plain x) h k = (h, k.0)
  head_named f zeros h k = tt
  head_named f (bytes text) h k = tt
  head_named f (elements vs) h k = tt
  head_named f (members packed vs) h k = tt

  mutual
    parts_named : (f : Form) (v : Initial) → InitialReadable f v → AreNamed (initial_operands v) → (rest : List InitPart) → Each PartNamed rest → Each PartNamed (parts_of v rest)
    parts_named f (plain x) h k rest r = r
    parts_named f zeros h k rest r = r
    parts_named f (bytes text) h k rest r = r
    parts_named f (elements vs) h k rest r = all_named vs h k (End ∷ rest) (tt, r)
    parts_named f (members packed vs) h k rest r = all_named vs h k (End ∷ rest) (tt, r)

    all_named : (vs : Initials) → InitialsReadable vs → AreNamed (all_operands vs) → (rest : List InitPart) → Each PartNamed rest → Each PartNamed (all_parts vs rest)
    all_named no_initials h k rest r = r
    all_named (initial f v vs) h k rest r =
        let own = front (IsKnown known) (initial_operands v) (all_operands vs) k in
        let more = back (IsKnown known) (initial_operands v) (all_operands vs) k in
        ((h.0, head_named f v h.1 own), parts_named f v h.1 own (all_parts vs rest) (all_named vs h.2 more rest r))

  initial_inner : (f : Form) (v : Initial) (i : raw_init.Init) → InitialReadable f v → AreNamed (initial_operands v) → IsInit v i → Marks known (head_marks i.root ++ all part_marks i.parts)
  initial_inner f v i h k p =
      joined (Inner (names_of known)) (head_marks i.root) (all part_marks i.parts) (head_inner f (head_of v) i.root (head_named f v h k) p.root)
      (all_marks (Inner (names_of known)) part_marks IsInitPart PartNamed part_inner (parts_of v []) i.parts (parts_named f v h k [] tt) p.parts)

  pub init_inner : (f : Form) (v : Option Initial) (i : Option raw_init.Init) → InitReadable f v → AreNamed (init_operands v) → IsInitOf v i → Marks known (init_marks i)
  init_inner f None None h k p = tt
  init_inner f (Some v) (Some i) h k p = initial_inner f v i h k p
  init_inner f v i h k p = absurd p
