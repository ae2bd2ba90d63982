-- Marks of printed lines and blocks.
use Rattle.std.proofs.Common.{◌≡◌, ℕ, Ok, Some, None, List, [], ◌∷◌, ◌++◌, refl, ap, ◌∙◌}
use Rattle.std.specs.List.{AllByRecursion as Each}
use Rattle.ir_parse_names.specs.Bodies.{allocated}
use Rattle.ir_parse_names.specs.Marks.{many, uses, all, typed_marks, operand_marks, instr_marks, end_marks, block_marks}
use Rattle.ir_parse_names.specs.Stages.{passes}
use Rattle.ir_parse_names.specs.Types.{Types}
use Rattle.ir_parse_parts.specs.declared.raw.Argument as raw_argument
use Rattle.ir_parse_parts.specs.declared.raw.Block as raw_block
use Rattle.ir_parse_parts.specs.declared.raw.Incoming as raw_incoming
use Rattle.ir_parse_parts.specs.declared.raw.Instr as raw_instr
use Rattle.ir_parse_parts.specs.declared.raw.Instr.TheVariants as ri
use Rattle.ir_parse_parts.specs.declared.raw.Operand as raw_operand
use Rattle.ir_parse_parts.specs.declared.raw.Terminator as raw_end
use Rattle.ir_parse_parts.specs.declared.raw.Terminator.TheVariants as re
use Rattle.ir_parse_parts.specs.declared.shape.Typed.{Typed}
use Rattle.ir_tree.specs.Forms.{Form}
use Rattle.ir_tree.specs.Items.{Item, items_from, operands, reads, phi_reads, taken, taken_as, end_reads}
use Rattle.ir_tree.specs.Wholes.{IsKnown}
use Rattle.ir_tree.specs.declared.block.Block as tree_block
use Rattle.ir_tree.specs.declared.block.Terminator.{Terminator}
use Rattle.ir_tree.specs.declared.block.Terminator.TheVariants.{Return, Jump, Branch, Switch, Unreachable}
use Rattle.ir_tree.specs.declared.instr.Incoming.{Incoming}
use Rattle.ir_tree.specs.declared.instr.Instr.{Instr}
use Rattle.ir_tree.specs.declared.instr.Instr.TheVariants.{Binary, Icmp, Cast, Select, Freeze, Alloca, Load, Store, Address, Call, Phi}
use Rattle.ir_tree.specs.declared.instr.Line.{Line}
use Rattle.ir_tree.specs.declared.instr.Phi as tree_phi
use Rattle.ir_tree.specs.declared.operand.Argument.{Argument}
use Rattle.ir_tree.specs.declared.operand.Operand.{Operand}
use Rattle.ir_tree.specs.declared.operand.Reg.{Reg}
use Rattle.ir_tree.specs.declared.operand.Reg.TheVariants.{Int, Ptr}
use Rattle.ir_tree.specs.declared.operand.Symbol.{Symbol}
use Rattle.ir_round_trip.proofs.Each.{front, back, joined, both, all_marks}
use Rattle.ir_round_trip.proofs.Names.{names_of}
use Rattle.ir_round_trip.proofs.Operands.{Marks, alone, operand_inner, typed_inner, uses_none}
use Rattle.ir_round_trip.proofs.Passing.{Inner}
use Rattle.ir_round_trip.proofs.Walk.{BlockHas, blocks_have}
use Rattle.ir_round_trip.specs.Bodies.{phi_as_line, stated}
use Rattle.ir_round_trip.specs.Printed.{IsInstruction, IsLine, IsContent, IsLabelled, AreBlocks}
use Rattle.ir_round_trip.specs.Readable.{InstructionReadable, LineReadable, BlockReadable}
use Rattle.ir_round_trip.proofs.Binds.{bound}
use Rattle.ir_round_trip.proofs.Shapes.{shape_again}
use Rattle.ir_round_trip.specs.PartsPrinted.{Paired, written_shape, IsOperand, IsArgument, IsIncoming, IsTerminator}
use Rattle.ir_round_trip.specs.PartsReadable.{OperandReadable, ArgumentReadable, IncomingReadable, EntriesReadable, ShapeReadable, TerminatorReadable}

module _ (known : List Symbol) where
  -- ---- names that are used

  abbrev pub ArgumentNamed : Argument → Type 0
  ArgumentNamed a = IsKnown known a.operand

  abbrev pub EntryNamed : Incoming → Type 0
  EntryNamed e = IsKnown known e.value

  pub record LineNamed (l : Line) : Type 0 where
    pub operands : Each ArgumentNamed (reads l.instr)
    pub entries : Each EntryNamed (taken l.instr)

  abbrev pub EndNamed : Terminator → Type 0
  EndNamed t = Each ArgumentNamed (end_reads t)

  abbrev pub BlockNamed : tree_block.Block → Type 0
  BlockNamed b = BlockHas LineNamed EndNamed b

  abbrev pub ItemNamed : Item → Type 0
  ItemNamed item = Each ArgumentNamed (operands item)

  taken_named : (reg : Reg) (es : List Incoming) → Each ArgumentNamed (taken_as reg es) → Each EntryNamed es
  taken_named reg [] h = tt
  taken_named reg (e ∷ es) h = (h.0, taken_named reg es h.1)

  instr_named : (i : Instr) → Each ArgumentNamed (phi_reads i) → Each EntryNamed (taken i)
  instr_named (Phi reg edges) h = taken_named reg edges h
  instr_named i h = tt

  line_named : (l : Line) → Each ArgumentNamed (reads l.instr ++ phi_reads l.instr) → LineNamed l
  line_named l h = record { operands = front ArgumentNamed (reads l.instr) (phi_reads l.instr) h; entries = instr_named l.instr (back ArgumentNamed (reads l.instr) (phi_reads l.instr) h) }

  phi_named : (p : tree_phi.Phi) → Each ArgumentNamed (taken_as p.reg p.incoming) → LineNamed (phi_as_line p)
  phi_named p h = record { operands = tt; entries = taken_named p.reg p.incoming h }

  pub blocks_named : (p : ℕ) (bs : List tree_block.Block) → Each ItemNamed (items_from p bs) → Each BlockNamed bs
  blocks_named p bs h = blocks_have ItemNamed LineNamed EndNamed (λ b p h. phi_named p h) (λ b k l h. line_named l h) (λ b t h. h) p bs h

  -- ---- instructions

  two : (r s : Reg) (x y : Operand) (a b : raw_operand.Operand) → OperandReadable r x → OperandReadable s y → IsKnown known x → IsKnown known y → IsOperand x a → IsOperand y b → Marks known (operand_marks a ++ operand_marks b)
  two r s x y a b h k m n i j = joined (Inner (names_of known)) (operand_marks a) (operand_marks b) (operand_inner known r x a h m i) (operand_inner known s y b k n j)

  arguments_inner : (as' : List Argument) (bs : List raw_argument.Argument) → Each ArgumentReadable as' → Each ArgumentNamed as' → Paired IsArgument as' bs → Marks known (all (λ b. operand_marks b.operand) bs)
  arguments_inner as' bs h k p =
      all_marks (Inner (names_of known)) (λ b. operand_marks b.operand) IsArgument (λ a. ArgumentReadable a × ArgumentNamed a) (λ a b c i. operand_inner known a.reg a.operand b.operand c.0.1 c.1 i.1) as' bs
      (both ArgumentReadable ArgumentNamed as' h k) p

  entries_inner : (reg : Reg) (es : List Incoming) (rs : List raw_incoming.Incoming) → Each (IncomingReadable reg) es → Each EntryNamed es → Paired IsIncoming es rs → Marks known (all (λ r. operand_marks r.value) rs)
  entries_inner reg es rs h k p =
      all_marks (Inner (names_of known)) (λ r. operand_marks r.value) IsIncoming (λ e. IncomingReadable reg e × EntryNamed e) (λ e r c i. operand_inner known reg e.value r.value c.0.0 c.1 i.0) es rs
      (both (IncomingReadable reg) EntryNamed es h k) p

  readable_entries : (reg : Reg) (es : List Incoming) → EntriesReadable reg es → Each (IncomingReadable reg) es
  readable_entries reg [] h = absurd h
  readable_entries reg (e ∷ es) h = h

  allocates : (types : Types) (typed : Typed) (f : Form) (count : ℕ) → ShapeReadable f → typed.shape ≡ written_shape f → count ≡ 1 → passes (allocated types typed count) ≡ Ok tt
  allocates types typed f count h e one = bound (λ _. Ok tt) (ap (allocated types typed) one ∙ shape_again types typed f h.shape e) refl

  pub instr_inner : (i : Instr) (j : raw_instr.Instr) → InstructionReadable i → Each ArgumentNamed (reads i) → Each EntryNamed (taken i) → IsInstruction i j → Marks known (instr_marks j)
  instr_inner (Binary op flags w x y) (ri.Binary o f v l r) h k t p = two (Int w) (Int w) x y l r h.2 h.3 k.0 k.1.0 p.3 p.4
  instr_inner (Icmp predicate reg x y) (ri.Icmp q g l r) h k t p = two reg reg x y l r h.1 h.2 k.0 k.1.0 p.2 p.3
  instr_inner (Cast op from x to) (ri.Cast o g v u) h k t p = operand_inner known from x v h.1 k.0 p.2
  instr_inner (Select c x y) (ri.Select d a b) h k t p =
      joined (Inner (names_of known)) (operand_marks d) (operand_marks a.operand ++ operand_marks b.operand) (operand_inner known (Int 1) c d h.0 k.0 p.0)
      (two x.reg y.reg x.operand y.operand a.operand b.operand h.1.1 h.2.1 k.1.0 k.1.1.0 p.1.1 p.2.1)
  instr_inner (Freeze reg x) (ri.Freeze g v) h k t p = operand_inner known reg x v h.1 k.0 p.1
  instr_inner (Alloca f n) (ri.Alloca typed count a) h k t p =
      alone (Inner (names_of known)) (many typed count) (uses typed.shape) (uses_none typed f p.0)
      (record { right = record { untyped = tt; within = λ types. allocates types typed f count h.0 p.0 p.1; there = tt; spelled = tt }; inner = tt })
  instr_inner (Load reg address n) (ri.Load g x a) h k t p = operand_inner known Ptr address x h.1 k.0 p.1
  instr_inner (Store reg x address n) (ri.Store g v y a) h k t p = two reg Ptr x address v y h.1 h.2 k.0 k.1.0 p.1 p.2
  instr_inner (Address inbounds f base is) (ri.Address b typed x js) h k t p =
      let others = all (λ b. operand_marks b.operand) js in
      joined (Inner (names_of known)) (typed_marks typed) (operand_marks x ++ others) (typed_inner known typed f h.0 p.1)
      (joined (Inner (names_of known)) (operand_marks x) others (operand_inner known Ptr base x h.1 k.0 p.2) (arguments_inner is js h.2 k.1 p.3))
  instr_inner (Call result callee arguments) (ri.Call r f as') h k t p =
      joined (Inner (names_of known)) (operand_marks f) (all (λ b. operand_marks b.operand) as') (operand_inner known Ptr callee f h.1 k.0 p.1) (arguments_inner arguments as' h.2 k.1 p.2)
  instr_inner (Phi reg edges) (ri.Phi g rs) h k t p = entries_inner reg edges rs (readable_entries reg edges h.1) t p.1
  instr_inner i j h k t p = absurd p

  -- ---- blocks

  end_inner : (t : Terminator) (r : raw_end.Terminator) → TerminatorReadable t → Each ArgumentNamed (end_reads t) → IsTerminator t r → Marks known (end_marks r)
  end_inner (Return None) (re.Return None) h k p = tt
  end_inner (Return (Some a)) (re.Return (Some b)) h k p = operand_inner known a.reg a.operand b.operand h.1 k.0 p.1
  end_inner (Jump n) (re.Jump name) h k p = tt
  end_inner (Branch c x y) (re.Branch d a b) h k p = operand_inner known (Int 1) c d h.0 k.0 p.0
  end_inner (Switch w x default cs) (re.Switch v y d rs) h k p = operand_inner known (Int w) x y h.1 k.0 p.1
  end_inner Unreachable re.Unreachable h k p = tt
  end_inner t r h k p = absurd p

  block_inner : (b : tree_block.Block) (r : raw_block.Block) → BlockReadable b → BlockNamed b → IsContent b r → Marks known (block_marks r)
  block_inner b r h k c =
      joined (Inner (names_of known)) (all (λ l. instr_marks l.instr) r.lines) (end_marks r.end)
      (all_marks (Inner (names_of known)) (λ l. instr_marks l.instr) IsLine (λ l. LineReadable l × LineNamed l) (λ l s g i. instr_inner l.instr s.instr g.0.0 g.1.operands g.1.entries i.1) (stated b) r.lines
      (both LineReadable LineNamed (stated b) h.lines k.lines) c.lines)
      (end_inner b.end r.end h.end k.end c.end)

  further_inner : (bs : List tree_block.Block) (rs : List raw_block.Block) → Each BlockReadable bs → Each BlockNamed bs → Paired IsLabelled bs rs → Marks known (all block_marks rs)
  further_inner bs rs h k p =
      all_marks (Inner (names_of known)) block_marks IsLabelled (λ b. BlockReadable b × BlockNamed b) (λ b r g i. block_inner b r g.0 g.1 i.1) bs rs (both BlockReadable BlockNamed bs h k) p

  pub blocks_inner : (bs : List tree_block.Block) (rs : List raw_block.Block) → Each BlockReadable bs → Each BlockNamed bs → AreBlocks bs rs → Marks known (all block_marks rs)
  blocks_inner [] [] h k p = tt
  blocks_inner [] (r ∷ rs) h k p = absurd p
  blocks_inner (b ∷ bs) [] h k p = absurd p
  blocks_inner (b ∷ bs) (r ∷ rs) h k p = joined (Inner (names_of known)) (block_marks r) (all block_marks rs) (block_inner b r h.0 k.0 p.0.1) (further_inner bs rs h.1 k.1 p.1)
