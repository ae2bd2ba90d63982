-- What a function uses once its names are resolved is known where what its text uses is.
use Rattle.std.proofs.Common.{◌≡◌, ℕ, suc, ◌+◌, Bool, List, [], ◌∷◌, ◌++◌, length, map, Option, Some, None, Ok, refl}
use Rattle.std.specs.Prelude.{All}
use Rattle.std.specs.List.{AllByRecursion as Each}
use Rattle.std.proofs.lemmas.List.Elements.{All-from_recursion}
use Rattle.ir_parse_parts.specs.declared.raw.Argument as raw_argument
use Rattle.ir_parse_parts.specs.declared.raw.Block as raw_block
use Rattle.ir_parse_parts.specs.declared.raw.FunctionHeader as raw_head
use Rattle.ir_parse_parts.specs.declared.raw.Incoming as raw_incoming
use Rattle.ir_parse_parts.specs.declared.raw.Instr as raw_instr
use Rattle.ir_parse_parts.specs.declared.raw.Instr.TheVariants as ri
use Rattle.ir_parse_parts.specs.declared.raw.WrittenLine as raw_line
use Rattle.ir_parse_parts.specs.declared.raw.Operand as raw_operand
use Rattle.ir_parse_parts.specs.declared.raw.Operand.TheVariants as ro
use Rattle.ir_parse_parts.specs.declared.raw.Terminator as raw_end
use Rattle.ir_parse_parts.specs.declared.raw.Terminator.TheVariants as re
use Rattle.ir_tree.specs.Items.{phi_item, end_item, block_items, items, items_from, lines_from, end_reads, phi_reads, reads, taken_as}
use Rattle.ir_tree.specs.Layout.{align}
use Rattle.ir_tree.specs.Wholes.{IsKnown, ItemKnown}
use Rattle.ir_tree.specs.declared.block.Block as tree_block
use Rattle.ir_tree.specs.declared.block.Terminator.{Terminator}
use Rattle.ir_tree.specs.declared.block.Terminator.TheVariants as te
use Rattle.ir_tree.specs.declared.function.Function.{Function}
use Rattle.ir_tree.specs.declared.instr.Incoming.{Incoming}
use Rattle.ir_tree.specs.declared.instr.Instr.{Instr}
use Rattle.ir_tree.specs.declared.instr.Instr.TheVariants as ti
use Rattle.ir_tree.specs.declared.instr.Line.{Line}
use Rattle.ir_tree.specs.declared.instr.Phi.{Phi}
use Rattle.ir_tree.specs.declared.operand.Argument.{Argument}
use Rattle.ir_tree.specs.declared.operand.Operand.TheVariants as to
use Rattle.ir_tree.specs.declared.operand.Reg.{Reg}
use Rattle.ir_tree.specs.declared.operand.Symbol.{Symbol}
use Rattle.ir_parse_names.specs.declared.locals.Sort.TheVariants.{Value, Block}
use Rattle.ir_parse_names.specs.Addresses.{offset_behind}
use Rattle.ir_parse_values.specs.Blocks.{phi_of, phis_of, rest_of, phi_before, lines_behind, body_of, block_of, block_in, blocks_in, blocks_of, behind_block, function_in, params_from}
use Rattle.ir_parse_names.specs.Bodies.{align_or, allocated, argument_in, behind_line, case_in, end_in, incoming_in, instr_in, lines_in, local_at, operand_in, reg_align}
use Rattle.ir_parse_names.specs.Locals.{LocalTable, number_in}
use Rattle.ir_parse_names.specs.Marks.{all, both, block_marks, end_marks, instr_marks, operand_marks, uses}
use Rattle.ir_parse_names.specs.Numbering.{locals_of}
use Rattle.ir_parse_names.specs.Resolving.{each}
use Rattle.ir_parse_names.specs.Symbols.{symbol_of}
use Rattle.ir_parse_names.specs.Types.{Types, expanded}
use Rattle.ir_parse.proofs.Gives.{Gives, gives, bind, bind_each, whatever}
use Rattle.ir_parse.proofs.Marked.{MarkKnown, MarksKnown, front_of, back_of, each_of}

-- ---- lists

abbrev ArgumentKnown : List Symbol → Argument → Type 0
ArgumentKnown known a = IsKnown known a.operand

abbrev EntryKnown : List Symbol → Incoming → Type 0
EntryKnown known e = IsKnown known e.value

abbrev InstrKnown : List Symbol → Instr → Type 0
InstrKnown known i = Each (ArgumentKnown known) (reads i ++ phi_reads i)

abbrev LineKnown : List Symbol → Line → Type 0
LineKnown known l = InstrKnown known l.instr

abbrev EndKnown : List Symbol → Terminator → Type 0
EndKnown known t = Each (ArgumentKnown known) (end_reads t)

with_end : {X : Type 0} (P : X → Type 0) (xs : List X) → Each P xs → Each P (xs ++ [])
with_end P [] h = tt
with_end P (x ∷ xs) h = (h.0, with_end P xs h.1)

taken_known : (known : List Symbol) (reg : Reg) (es : List Incoming) → Each (EntryKnown known) es → Each (ArgumentKnown known) (taken_as reg es)
taken_known known reg [] h = tt
taken_known known reg (e ∷ es) h = (h.0, taken_known known reg es h.1)

-- ---- operands, lines and terminators

module _ (types : Types) (locals : LocalTable) (known : List Symbol) where
  first_of : (left right : raw_operand.Operand) → MarksKnown known (both left right) → MarksKnown known (operand_marks left)
  first_of left right h = front_of (MarkKnown known) (operand_marks left) (operand_marks right) h

  second_of : (left right : raw_operand.Operand) → MarksKnown known (both left right) → MarksKnown known (operand_marks right)
  second_of left right h = back_of (MarkKnown known) (operand_marks left) (operand_marks right) h

  pub operand_known : (o : raw_operand.Operand) → MarksKnown known (operand_marks o) → Gives (operand_in types locals o) (IsKnown known)
  operand_known (ro.Local name) h = bind _ (IsKnown known) _ _ (whatever (number_in locals Value name)) (λ n _. gives (IsKnown known) (to.Local n) tt)
  operand_known (ro.Global name) h = gives (IsKnown known) (to.Symbol (symbol_of name) 0) h.0
  operand_known (ro.Number width bits) h = gives (IsKnown known) (to.Number width bits) tt
  operand_known ro.Null h = gives (IsKnown known) to.Null tt
  operand_known (ro.Poison reg) h = gives (IsKnown known) (to.Poison reg) tt
  operand_known (ro.Address steps) h = bind _ (IsKnown known) _ _ (whatever (offset_behind 0 types steps.levels)) (λ offset _. gives (IsKnown known) (to.Symbol (symbol_of steps.name) offset) h.0)

  argument_known : (a : raw_argument.Argument) → MarksKnown known (operand_marks a.operand) → Gives (argument_in types locals a) (ArgumentKnown known)
  argument_known a h = bind (IsKnown known) (ArgumentKnown known) _ _ (operand_known a.operand h) (λ o g. gives (ArgumentKnown known) (record { reg = a.reg; operand = o }) g)

  arguments_known : (as' : List raw_argument.Argument) → MarksKnown known (all (λ a. operand_marks a.operand) as') → Gives (each (argument_in types locals) as') (Each (ArgumentKnown known))
  arguments_known as' h = bind_each (λ (a : raw_argument.Argument). MarksKnown known (operand_marks a.operand)) (ArgumentKnown known) (argument_in types locals) argument_known as' (each_of known (λ a. operand_marks a.operand) as' h)

  entry_known : (e : raw_incoming.Incoming) → MarksKnown known (operand_marks e.value) → Gives (incoming_in types locals e) (EntryKnown known)
  entry_known e h =
      bind (IsKnown known) (EntryKnown known) _ _ (operand_known e.value h) (λ o g.
      bind _ (EntryKnown known) _ _ (whatever (number_in locals Block e.from)) (λ b _. gives (EntryKnown known) (record { from = b; value = o }) g))

  entries_known : (es : List raw_incoming.Incoming) → MarksKnown known (all (λ e. operand_marks e.value) es) → Gives (each (incoming_in types locals) es) (Each (EntryKnown known))
  entries_known es h = bind_each (λ (e : raw_incoming.Incoming). MarksKnown known (operand_marks e.value)) (EntryKnown known) (incoming_in types locals) entry_known es (each_of known (λ e. operand_marks e.value) es h)

  instr_known : (i : raw_instr.Instr) → MarksKnown known (instr_marks i) → Gives (instr_in types locals i) (InstrKnown known)
  instr_known (ri.Binary op flags width left right) h =
      bind (IsKnown known) (InstrKnown known) _ _ (operand_known left (first_of left right h)) (λ l hl.
      bind (IsKnown known) (InstrKnown known) _ _ (operand_known right (second_of left right h)) (λ r hr.
      gives (InstrKnown known) (ti.Binary op flags width l r) (hl, (hr, tt))))
  instr_known (ri.Icmp predicate reg left right) h =
      bind (IsKnown known) (InstrKnown known) _ _ (operand_known left (first_of left right h)) (λ l hl.
      bind (IsKnown known) (InstrKnown known) _ _ (operand_known right (second_of left right h)) (λ r hr.
      gives (InstrKnown known) (ti.Icmp predicate reg l r) (hl, (hr, tt))))
  instr_known (ri.Cast op from value to) h =
      bind (IsKnown known) (InstrKnown known) _ _ (operand_known value h) (λ v hv. gives (InstrKnown known) (ti.Cast op from v to) (hv, tt))
  instr_known (ri.Select condition if_true if_false) h =
      let arms : MarksKnown known (both if_true.operand if_false.operand) = back_of (MarkKnown known) (operand_marks condition) (both if_true.operand if_false.operand) h in
      bind (IsKnown known) (InstrKnown known) _ _ (operand_known condition (front_of (MarkKnown known) (operand_marks condition) (both if_true.operand if_false.operand) h)) (λ c hc.
      bind (ArgumentKnown known) (InstrKnown known) _ _ (argument_known if_true (first_of if_true.operand if_false.operand arms)) (λ t ht.
      bind (ArgumentKnown known) (InstrKnown known) _ _ (argument_known if_false (second_of if_true.operand if_false.operand arms)) (λ e he.
      gives (InstrKnown known) (ti.Select c t e) (hc, (ht, (he, tt))))))
  instr_known (ri.Freeze reg value) h =
      bind (IsKnown known) (InstrKnown known) _ _ (operand_known value h) (λ v hv. gives (InstrKnown known) (ti.Freeze reg v) (hv, tt))
  instr_known (ri.Phi reg incoming) h =
      bind (Each (EntryKnown known)) (InstrKnown known) _ _ (entries_known incoming h) (λ es g. gives (InstrKnown known) (ti.Phi reg es) (taken_known known reg es g))
  instr_known (ri.Alloca typed count written) h =
      bind _ (InstrKnown known) _ _ (whatever (allocated types typed count)) (λ s _. gives (InstrKnown known) (ti.Alloca s (align_or (align s) written)) tt)
  instr_known (ri.Load reg address written) h =
      bind (IsKnown known) (InstrKnown known) _ _ (operand_known address h) (λ a ha. gives (InstrKnown known) (ti.Load reg a (align_or (reg_align reg) written)) (ha, tt))
  instr_known (ri.Store reg value address written) h =
      bind (IsKnown known) (InstrKnown known) _ _ (operand_known value (first_of value address h)) (λ v hv.
      bind (IsKnown known) (InstrKnown known) _ _ (operand_known address (second_of value address h)) (λ a ha.
      gives (InstrKnown known) (ti.Store reg v a (align_or (reg_align reg) written)) (hv, (ha, tt))))
  instr_known (ri.Address inbounds typed base indices) h =
      let behind : MarksKnown known (operand_marks base ++ all (λ a. operand_marks a.operand) indices) = back_of (MarkKnown known) (uses typed.shape) (operand_marks base ++ all (λ a. operand_marks a.operand) indices) h.1 in
      bind _ (InstrKnown known) _ _ (whatever (expanded types typed)) (λ s _.
      bind (IsKnown known) (InstrKnown known) _ _ (operand_known base (front_of (MarkKnown known) (operand_marks base) (all (λ a. operand_marks a.operand) indices) behind)) (λ b hb.
      bind (Each (ArgumentKnown known)) (InstrKnown known) _ _ (arguments_known indices (back_of (MarkKnown known) (operand_marks base) (all (λ a. operand_marks a.operand) indices) behind)) (λ is his.
      gives (InstrKnown known) (ti.Address inbounds s b is) (hb, with_end (ArgumentKnown known) is his))))
  instr_known (ri.Call result callee arguments) h =
      bind (IsKnown known) (InstrKnown known) _ _ (operand_known callee (front_of (MarkKnown known) (operand_marks callee) (all (λ a. operand_marks a.operand) arguments) h)) (λ c hc.
      bind (Each (ArgumentKnown known)) (InstrKnown known) _ _ (arguments_known arguments (back_of (MarkKnown known) (operand_marks callee) (all (λ a. operand_marks a.operand) arguments) h)) (λ given hg.
      gives (InstrKnown known) (ti.Call result c given) (hc, with_end (ArgumentKnown known) given hg)))

  end_known : (e : raw_end.Terminator) → MarksKnown known (end_marks e) → Gives (end_in types locals e) (EndKnown known)
  end_known (re.Return None) h = gives (EndKnown known) (te.Return None) tt
  end_known (re.Return (Some a)) h = bind (ArgumentKnown known) (EndKnown known) _ _ (argument_known a h) (λ v hv. gives (EndKnown known) (te.Return (Some v)) (hv, tt))
  end_known (re.Jump target) h = bind _ (EndKnown known) _ _ (whatever (number_in locals Block target)) (λ b _. gives (EndKnown known) (te.Jump b) tt)
  end_known (re.Branch condition if_true if_false) h =
      bind (IsKnown known) (EndKnown known) _ _ (operand_known condition h) (λ c hc.
      bind _ (EndKnown known) _ _ (whatever (number_in locals Block if_true)) (λ t _.
      bind _ (EndKnown known) _ _ (whatever (number_in locals Block if_false)) (λ e _.
      gives (EndKnown known) (te.Branch c t e) (hc, tt))))
  end_known (re.Switch width value default cases) h =
      bind (IsKnown known) (EndKnown known) _ _ (operand_known value h) (λ v hv.
      bind _ (EndKnown known) _ _ (whatever (number_in locals Block default)) (λ d _.
      bind _ (EndKnown known) _ _ (whatever (each (case_in locals) cases)) (λ cs _.
      gives (EndKnown known) (te.Switch width v d cs) (hv, tt))))
  end_known re.Unreachable h = gives (EndKnown known) te.Unreachable tt

  lines_known : (n : ℕ) (ls : List raw_line.WrittenLine) → MarksKnown known (all (λ l. instr_marks l.instr) ls) → Gives (lines_in types locals n ls) (Each (LineKnown known))
  lines_known n [] h = gives (Each (LineKnown known)) [] tt
  lines_known n (l ∷ ls) h =
      bind (InstrKnown known) (Each (LineKnown known)) _ _ (instr_known l.instr (front_of (MarkKnown known) (instr_marks l.instr) (all (λ l. instr_marks l.instr) ls) h)) (λ i g.
      bind (Each (LineKnown known)) (Each (LineKnown known)) _ _ (lines_known (behind_line n l) ls (back_of (MarkKnown known) (instr_marks l.instr) (all (λ l. instr_marks l.instr) ls) h)) (λ more rest.
      gives (Each (LineKnown known)) (record { local = local_at n l; instr = i } ∷ more) (g, rest)))

-- ---- the items of a block

phis_known : (known : List Symbol) (b : ℕ) (ls : List Line) → Each (LineKnown known) ls → Each (ItemKnown known) (map (phi_item b) (phis_of ls))
phis_known known b [] h = tt
phis_known known b (l ∷ ls) h = by l.local l.instr h.0 (phis_known known b ls h.1)
  where
    by : (o : Option ℕ) (i : Instr) → InstrKnown known i → Each (ItemKnown known) (map (phi_item b) (phis_of ls)) → Each (ItemKnown known) (map (phi_item b) (phi_before (phi_of o i) (phis_of ls)))
    by (Some n) (ti.Phi reg incoming) g more = (All-from_recursion (ArgumentKnown known) (taken_as reg incoming) g, more)
    by o i g more = tt

rest_known : (known : List Symbol) (ls : List Line) → Each (LineKnown known) ls → Each (LineKnown known) (rest_of ls)
rest_known known [] h = tt
rest_known known (l ∷ ls) h = by (phi_of l.local l.instr) (rest_known known ls h.1)
  where
    by : (o : Option Phi) → Each (LineKnown known) (rest_of ls) → Each (LineKnown known) (lines_behind o (l ∷ ls) (rest_of ls))
    by None more = h
    by (Some p) more = more

lines_items : (known : List Symbol) (b k : ℕ) (ls : List Line) → Each (LineKnown known) ls → Each (ItemKnown known) (lines_from b k ls)
lines_items known b k [] h = tt
lines_items known b k (l ∷ ls) h = (All-from_recursion (ArgumentKnown known) (reads l.instr ++ phi_reads l.instr) h.0, lines_items known b (suc k) ls h.1)

joined : {X : Type 0} (P : X → Type 0) (xs ys : List X) → Each P xs → Each P ys → Each P (xs ++ ys)
joined P [] ys h g = g
joined P (x ∷ xs) ys h g = (h.0, joined P xs ys h.1 g)

abbrev BlockKnown : List Symbol → tree_block.Block → Type 0
BlockKnown known t = (b : ℕ) → Each (ItemKnown known) (block_items b t)

together : (known : List Symbol) (b : ℕ) (ls : List Line) (t : Terminator) → Each (LineKnown known) ls → EndKnown known t
    → Each (ItemKnown known) (map (phi_item b) (phis_of ls) ++ (lines_from b 0 (rest_of ls) ++ end_item b t ∷ []))
together known b ls t h e =
    joined (ItemKnown known) (map (phi_item b) (phis_of ls)) (lines_from b 0 (rest_of ls) ++ end_item b t ∷ []) (phis_known known b ls h)
    (joined (ItemKnown known) (lines_from b 0 (rest_of ls)) (end_item b t ∷ []) (lines_items known b 0 (rest_of ls) (rest_known known ls h)) (All-from_recursion (ArgumentKnown known) (end_reads t) e, tt))

items_known : (known : List Symbol) (p : ℕ) (bs : List tree_block.Block) → Each (BlockKnown known) bs → Each (ItemKnown known) (items_from p bs)
items_known known p [] h = tt
items_known known p (b ∷ bs) h = joined (ItemKnown known) (block_items p b) (items_from (suc p) bs) (h.0 p) (items_known known (suc p) bs h.1)

module _ (types : Types) (locals : LocalTable) (known : List Symbol) where
  block_known : (n : ℕ) (b : raw_block.Block) → MarksKnown known (block_marks b) → Gives (block_in types locals n b) (BlockKnown known)
  unfolding block_of
  block_known n b h =
      bind (λ body. (t : Terminator) → EndKnown known t → BlockKnown known (record { number = n; phis = body.phis; lines = body.lines; end = t })) (BlockKnown known) _ _
      (bind (Each (LineKnown known)) (λ body. (t : Terminator) → EndKnown known t → BlockKnown known (record { number = n; phis = body.phis; lines = body.lines; end = t })) _ _
      (lines_known types locals known (n + 1) b.lines (front_of (MarkKnown known) (all (λ l. instr_marks l.instr) b.lines) (end_marks b.end) h)) (λ ls g.
      gives (λ body. (t : Terminator) → EndKnown known t → BlockKnown known (record { number = n; phis = body.phis; lines = body.lines; end = t })) (body_of ls) (λ t e p. together known p ls t g e)))
      (λ body made.
      bind (EndKnown known) (BlockKnown known) _ _ (end_known types locals known b.end (back_of (MarkKnown known) (all (λ l. instr_marks l.instr) b.lines) (end_marks b.end) h)) (λ t e.
      gives (BlockKnown known) (record { number = n; phis = body.phis; lines = body.lines; end = t }) (made t e)))

  blocks_known : (n : ℕ) (bs : List raw_block.Block) → MarksKnown known (all block_marks bs) → Gives (blocks_in types locals n bs) (Each (BlockKnown known))
  blocks_known n [] h = gives (Each (BlockKnown known)) [] tt
  blocks_known n (b ∷ bs) h =
      bind (BlockKnown known) (Each (BlockKnown known)) _ _ (block_known n b (front_of (MarkKnown known) (block_marks b) (all block_marks bs) h)) (λ t g.
      bind (Each (BlockKnown known)) (Each (BlockKnown known)) _ _ (blocks_known (behind_block n b) bs (back_of (MarkKnown known) (block_marks b) (all block_marks bs) h)) (λ ts more.
      gives (Each (BlockKnown known)) (t ∷ ts) (g, more)))

-- ---- functions

abbrev pub FunctionKnown : List Symbol → Function → Type 0
FunctionKnown known f = All (ItemKnown known) (items f)

abbrev made : raw_head.FunctionHeader → Bool → Bool → List tree_block.Block → Function
made head noinline optnone bs =
    record { symbol = symbol_of head.name; linkage = head.linkage; result = head.result; params = params_from 0 head.params; noinline = noinline; optnone = optnone; blocks = bs }

pub function_known : (types : Types) (known : List Symbol) (head : raw_head.FunctionHeader) (blocks : List raw_block.Block) (noinline optnone : Bool) → MarksKnown known (all block_marks blocks)
    → Gives (function_in types head blocks noinline optnone) (FunctionKnown known)
unfolding function_in
function_known types known head blocks noinline optnone h =
    bind (Each (BlockKnown known)) (FunctionKnown known) (blocks_of types head.params blocks) (λ bs. Ok (made head noinline optnone bs))
    (bind _ (Each (BlockKnown known)) _ _ (whatever (locals_of head.params blocks)) (λ locals _. blocks_known types locals known (length head.params) blocks h))
    (λ bs g. gives (FunctionKnown known) (made head noinline optnone bs) (All-from_recursion (ItemKnown known) (items_from 0 bs) (items_known known 0 bs g)))

-- its symbol is that of its name
pub function_symbol : (types : Types) (head : raw_head.FunctionHeader) (blocks : List raw_block.Block) (noinline optnone : Bool) → Gives (function_in types head blocks noinline optnone) (λ f. f.symbol ≡ symbol_of head.name)
unfolding function_in
function_symbol types head blocks noinline optnone =
    bind _ (λ (f : Function). f.symbol ≡ symbol_of head.name) (blocks_of types head.params blocks) (λ bs. Ok (made head noinline optnone bs)) (whatever (blocks_of types head.params blocks))
    (λ bs _. gives (λ (f : Function). f.symbol ≡ symbol_of head.name) (made head noinline optnone bs) refl)
