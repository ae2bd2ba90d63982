-- What is resolved of lines and terminators is formed.
use Rattle.std.proofs.Common.{◌≡◌, ℕ, suc, ◌+◌, ◌||◌, true, false, List, [], ◌∷◌, ◌++◌, map, Option, Some, None, is_some, refl, arith, if◌then◌else◌}
use Rattle.std.specs.Prelude.{All, IsSome}
use Rattle.std.specs.List.{AllByRecursion as Each}
use Rattle.std.proofs.lemmas.List.Elements.{All-append, All-cons, All-from_recursion, All-nil, recursion_from_All}
use Rattle.ir_lex.specs.Tok.{Tok}
use Rattle.ir_parse_parts.specs.declared.raw.Argument as raw_argument
use Rattle.ir_parse_parts.specs.declared.raw.Block as raw_block
use Rattle.ir_parse_parts.specs.declared.raw.Case as raw_case
use Rattle.ir_parse_parts.specs.declared.raw.Incoming as raw_incoming
use Rattle.ir_parse_parts.specs.declared.raw.Instr as raw_instr
use Rattle.ir_parse_parts.specs.declared.raw.Instr.TheVariants as ri
use Rattle.ir_parse_parts.specs.declared.raw.WrittenLine as raw_line
use Rattle.ir_parse_parts.specs.declared.raw.Operand as raw_operand
use Rattle.ir_parse_parts.specs.declared.raw.Operand.TheVariants as ro
use Rattle.ir_parse_parts.specs.declared.raw.Terminator as raw_end
use Rattle.ir_parse_parts.specs.declared.raw.Terminator.TheVariants as re
use Rattle.ir_tree.specs.Flow.{successors}
use Rattle.ir_tree.specs.Formed.{ArgumentFormed, CaseFormed, CasesFormed, InstrFormed, IsBlock, IsLocal, IsReg, IsShape, IsWidth, ItemFormed, OperandFormed, ResultFormed}
use Rattle.ir_tree.specs.Items.{phi_item, line_item, end_item, block_items, items_from, lines_from, end_reads, phi_reads, reads, taken, taken_as}
use Rattle.ir_tree.specs.Layout.{align}
use Rattle.ir_tree.specs.declared.block.Block as tree_block
use Rattle.ir_tree.specs.declared.block.Case as tree_case
use Rattle.ir_tree.specs.declared.block.Terminator.{Terminator}
use Rattle.ir_tree.specs.declared.block.Terminator.TheVariants as te
use Rattle.ir_tree.specs.declared.function.Function.{Function}
use Rattle.ir_tree.specs.declared.instr.Incoming.{Incoming}
use Rattle.ir_tree.specs.declared.instr.Instr.{Instr}
use Rattle.ir_tree.specs.declared.instr.Instr.TheVariants as ti
use Rattle.ir_tree.specs.declared.instr.Line.{Line}
use Rattle.ir_tree.specs.declared.instr.Phi.{Phi}
use Rattle.ir_tree.specs.declared.operand.Argument.{Argument}
use Rattle.ir_tree.specs.declared.operand.Operand.{Operand}
use Rattle.ir_tree.specs.declared.operand.Operand.TheVariants as to
use Rattle.ir_tree.specs.declared.operand.Reg.{Reg}
use Rattle.ir_parse_names.specs.declared.locals.Sort.TheVariants.{Value, Block}
use Rattle.ir_parse_names.specs.Addresses.{offset_behind}
use Rattle.ir_parse_values.specs.Blocks.{phi_of, phis_of, rest_of, phi_before, lines_behind, body_of, block_of, block_in, blocks_in, behind_block}
use Rattle.ir_parse_names.specs.Bodies.{align_or, argument_in, behind_line, case_in, end_in, incoming_in, instr_in, lines_in, local_at, operand_in, reg_align}
use Rattle.ir_parse_names.specs.Locals.{LocalTable, number_in}
use Rattle.ir_parse_names.specs.Numbering.{has_result}
use Rattle.ir_parse_names.specs.Resolving.{each}
use Rattle.ir_parse_names.specs.Symbols.{symbol_of}
use Rattle.ir_parse_names.specs.Types.{Types}
use Rattle.ir_parse.specs.Written.{ArgumentWritten, BlockWritten, CaseWritten, EndWritten, InstrWritten, LineWritten, NameWritten, OperandWritten, TypesWritten}
use Rattle.ir_parse.proofs.ResolvedAlignments.{aligned, scalar_align, scalar_reg, shape_align}
use Rattle.ir_parse.proofs.Gives.{Gives, gives, bind, bind_each, whatever}
use Rattle.ir_parse.proofs.ResolvedShapes.{allocates, expands}
use Rattle.ir_parse.proofs.Uses.{IsPlace, used}

-- ---- what is said of the parts

abbrev EntryFormed : Function → Incoming → Type 0
EntryFormed f e = IsBlock f e.from × OperandFormed f e.value

record InstrGood (f : Function) (i : raw_instr.Instr) (t : Instr) : Type 0 where
  operands : Each (ArgumentFormed f) (reads t ++ phi_reads t)
  sources : Each (λ e. IsBlock f e.from) (taken t)
  instr : InstrFormed t
  result : (name : Option Tok) → NameWritten i name → (n : ℕ) → ResultFormed t (if is_some name || has_result i then Some n else None)

record LineFormed (f : Function) (l : Line) : Type 0 where
  operands : All (ArgumentFormed f) (reads l.instr ++ phi_reads l.instr)
  sources : All (λ e. IsBlock f e.from) (taken l.instr)
  instr : InstrFormed l.instr
  result : ResultFormed l.instr l.local

record EndGood (f : Function) (t : Terminator) : Type 0 where
  operands : Each (ArgumentFormed f) (end_reads t)
  cases : CasesFormed t
  targets : Each (IsBlock f) (successors t)

abbrev TargetFormed : Function → tree_case.Case → Type 0
TargetFormed f c = CaseFormed c × IsBlock f c.target

-- ---- lists

with_end : {X : Type 0} (P : X → Type 0) (xs : List X) → Each P xs → Each P (xs ++ [])
with_end P [] h = tt
with_end P (x ∷ xs) h = (h.0, with_end P xs h.1)

taken_formed : (f : Function) (reg : Reg) → IsReg reg → (es : List Incoming) → Each (EntryFormed f) es → Each (ArgumentFormed f) (taken_as reg es)
taken_formed f reg is [] h = tt
taken_formed f reg is (e ∷ es) h = ((is, h.0.1), taken_formed f reg is es h.1)

sources_there : (f : Function) (es : List Incoming) → Each (EntryFormed f) es → Each (λ e. IsBlock f e.from) es
sources_there f [] h = tt
sources_there f (e ∷ es) h = (h.0.0, sources_there f es h.1)

cases_formed : (f : Function) (cs : List tree_case.Case) → Each (TargetFormed f) cs → Each CaseFormed cs
cases_formed f [] h = tt
cases_formed f (c ∷ cs) h = (h.0.0, cases_formed f cs h.1)

cases_there : (f : Function) (cs : List tree_case.Case) → Each (TargetFormed f) cs → Each (IsBlock f) (map (λ c. c.target) cs)
cases_there f [] h = tt
cases_there f (c ∷ cs) h = (h.0.1, cases_there f cs h.1)

-- ---- results

takes_one : (name : Option Tok) (n : ℕ) → IsSome (if is_some name || true then Some n else None)
takes_one None n = refl
takes_one (Some name) n = refl

takes_none : (name : Option Tok) → name ≡ None → (n : ℕ) → (if is_some name || false then Some n else None) ≡ None
takes_none None e n = refl
takes_none (Some name) e n = absurd cc

bit : IsWidth 1
bit = (omega arith, omega arith)

-- ---- operands, lines and terminators, where what resolves to a place is there

module _ (types : Types) (are : TypesWritten types) (known : LocalTable) (f : Function) (values : (n : ℕ) → IsPlace known Value n → IsLocal f n) (blocks : (n : ℕ) → IsPlace known Block n → IsBlock f n) where
  target_there : (name : Tok) → Gives (number_in known Block name) (IsBlock f)
  target_there name = record { given = λ n e. blocks n ((used known Block name).given n e) }

  operand_formed : (o : raw_operand.Operand) → OperandWritten o → Gives (operand_in types known o) (OperandFormed f)
  operand_formed (ro.Local name) h = bind (IsPlace known Value) (OperandFormed f) _ _ (used known Value name) (λ n e. gives (OperandFormed f) (to.Local n) (values n e))
  operand_formed (ro.Global name) h = gives (OperandFormed f) (to.Symbol (symbol_of name) 0) tt
  operand_formed (ro.Number width bits) h = gives (OperandFormed f) (to.Number width bits) h
  operand_formed ro.Null h = gives (OperandFormed f) to.Null tt
  operand_formed (ro.Poison reg) h = gives (OperandFormed f) (to.Poison reg) h
  operand_formed (ro.Address steps) h = bind _ (OperandFormed f) _ _ (whatever (offset_behind 0 types steps.levels)) (λ offset _. gives (OperandFormed f) (to.Symbol (symbol_of steps.name) offset) tt)

  argument_formed : (a : raw_argument.Argument) → ArgumentWritten a → Gives (argument_in types known a) (ArgumentFormed f)
  argument_formed a h = bind (OperandFormed f) (ArgumentFormed f) _ _ (operand_formed a.operand h.1) (λ o g. gives (ArgumentFormed f) (record { reg = a.reg; operand = o }) (h.0, g))

  arguments_formed : (as' : List raw_argument.Argument) → All ArgumentWritten as' → Gives (each (argument_in types known) as') (Each (ArgumentFormed f))
  arguments_formed as' h = bind_each ArgumentWritten (ArgumentFormed f) (argument_in types known) argument_formed as' (recursion_from_All ArgumentWritten as' h)

  entry_formed : (e : raw_incoming.Incoming) → OperandWritten e.value → Gives (incoming_in types known e) (EntryFormed f)
  entry_formed e h =
      bind (OperandFormed f) (EntryFormed f) _ _ (operand_formed e.value h) (λ o g.
      bind (IsBlock f) (EntryFormed f) _ _ (target_there e.from) (λ b there. gives (EntryFormed f) (record { from = b; value = o }) (there, g)))

  entries_formed : (es : List raw_incoming.Incoming) → All (λ e. OperandWritten e.value) es → Gives (each (incoming_in types known) es) (Each (EntryFormed f))
  entries_formed es h = bind_each (λ e. OperandWritten e.value) (EntryFormed f) (incoming_in types known) entry_formed es (recursion_from_All (λ e. OperandWritten e.value) es h)

  instr_formed : (i : raw_instr.Instr) → InstrWritten i → Gives (instr_in types known i) (InstrGood f i)
  instr_formed (ri.Binary op flags width left right) h =
      bind (OperandFormed f) (InstrGood f (ri.Binary op flags width left right)) _ _ (operand_formed left h.2) (λ l hl.
      bind (OperandFormed f) (InstrGood f (ri.Binary op flags width left right)) _ _ (operand_formed right h.3) (λ r hr.
      gives (InstrGood f (ri.Binary op flags width left right)) (ti.Binary op flags width l r)
      (record { operands = ((h.1, hl), ((h.1, hr), tt)); sources = tt; instr = h.0; result = λ name w n. takes_one name n })))
  instr_formed (ri.Icmp predicate reg left right) h =
      bind (OperandFormed f) (InstrGood f (ri.Icmp predicate reg left right)) _ _ (operand_formed left h.1) (λ l hl.
      bind (OperandFormed f) (InstrGood f (ri.Icmp predicate reg left right)) _ _ (operand_formed right h.2) (λ r hr.
      gives (InstrGood f (ri.Icmp predicate reg left right)) (ti.Icmp predicate reg l r)
      (record { operands = ((h.0, hl), ((h.0, hr), tt)); sources = tt; instr = tt; result = λ name w n. takes_one name n })))
  instr_formed (ri.Cast op from value to) h =
      bind (OperandFormed f) (InstrGood f (ri.Cast op from value to)) _ _ (operand_formed value h.1) (λ v hv.
      gives (InstrGood f (ri.Cast op from value to)) (ti.Cast op from v to)
      (record { operands = ((h.0, hv), tt); sources = tt; instr = h.2; result = λ name w n. takes_one name n }))
  instr_formed (ri.Select condition if_true if_false) h =
      bind (OperandFormed f) (InstrGood f (ri.Select condition if_true if_false)) _ _ (operand_formed condition h.0) (λ c hc.
      bind (ArgumentFormed f) (InstrGood f (ri.Select condition if_true if_false)) _ _ (argument_formed if_true h.1) (λ t ht.
      bind (ArgumentFormed f) (InstrGood f (ri.Select condition if_true if_false)) _ _ (argument_formed if_false h.2) (λ e he.
      gives (InstrGood f (ri.Select condition if_true if_false)) (ti.Select c t e)
      (record { operands = ((bit, hc), (ht, (he, tt))); sources = tt; instr = tt; result = λ name w n. takes_one name n }))))
  instr_formed (ri.Freeze reg value) h =
      bind (OperandFormed f) (InstrGood f (ri.Freeze reg value)) _ _ (operand_formed value h.1) (λ v hv.
      gives (InstrGood f (ri.Freeze reg value)) (ti.Freeze reg v)
      (record { operands = ((h.0, hv), tt); sources = tt; instr = tt; result = λ name w n. takes_one name n }))
  instr_formed (ri.Phi reg incoming) h =
      bind (Each (EntryFormed f)) (InstrGood f (ri.Phi reg incoming)) _ _ (entries_formed incoming h.1) (λ es g.
      gives (InstrGood f (ri.Phi reg incoming)) (ti.Phi reg es)
      (record { operands = taken_formed f reg h.0 es g; sources = sources_there f es g; instr = h.0; result = λ name w n. takes_one name n }))
  instr_formed (ri.Alloca typed count written) h =
      bind IsShape (InstrGood f (ri.Alloca typed count written)) _ _ (allocates types are typed count h.0) (λ s g.
      gives (InstrGood f (ri.Alloca typed count written)) (ti.Alloca s (align_or (align s) written))
      (record { operands = tt; sources = tt; instr = (g, aligned (align s) written (shape_align s g.stored) h.1); result = λ name w n. takes_one name n }))
  instr_formed (ri.Load reg address written) h =
      bind (OperandFormed f) (InstrGood f (ri.Load reg address written)) _ _ (operand_formed address h.1) (λ a ha.
      gives (InstrGood f (ri.Load reg address written)) (ti.Load reg a (align_or (reg_align reg) written))
      (record { operands = ((tt, ha), tt); sources = tt; instr = (h.0, aligned (reg_align reg) written (scalar_align reg h.0) h.2); result = λ name w n. takes_one name n }))
  instr_formed (ri.Store reg value address written) h =
      bind (OperandFormed f) (InstrGood f (ri.Store reg value address written)) _ _ (operand_formed value h.1) (λ v hv.
      bind (OperandFormed f) (InstrGood f (ri.Store reg value address written)) _ _ (operand_formed address h.2) (λ a ha.
      gives (InstrGood f (ri.Store reg value address written)) (ti.Store reg v a (align_or (reg_align reg) written))
      (record { operands = ((scalar_reg reg h.0, hv), ((tt, ha), tt)); sources = tt; instr = (h.0, aligned (reg_align reg) written (scalar_align reg h.0) h.3); result = λ name w n. takes_none name w n })))
  instr_formed (ri.Address inbounds typed base indices) h =
      bind IsShape (InstrGood f (ri.Address inbounds typed base indices)) _ _ (expands types are typed h.0) (λ s hs.
      bind (OperandFormed f) (InstrGood f (ri.Address inbounds typed base indices)) _ _ (operand_formed base h.1) (λ b hb.
      bind (Each (ArgumentFormed f)) (InstrGood f (ri.Address inbounds typed base indices)) _ _ (arguments_formed indices h.2) (λ is his.
      gives (InstrGood f (ri.Address inbounds typed base indices)) (ti.Address inbounds s b is)
      (record { operands = ((tt, hb), with_end (ArgumentFormed f) is his); sources = tt; instr = hs; result = λ name w n. takes_one name n }))))
  instr_formed (ri.Call result callee arguments) h =
      bind (OperandFormed f) (InstrGood f (ri.Call result callee arguments)) _ _ (operand_formed callee h.1) (λ c hc.
      bind (Each (ArgumentFormed f)) (InstrGood f (ri.Call result callee arguments)) _ _ (arguments_formed arguments h.2) (λ given hg.
      gives (InstrGood f (ri.Call result callee arguments)) (ti.Call result c given)
      (record { operands = ((tt, hc), with_end (ArgumentFormed f) given hg); sources = tt; instr = h.0; result = called result c given })))
    where
      called : (r : Option Reg) (c : Operand) (given : List Argument) (name : Option Tok) → Unit {0} → (n : ℕ) → ResultFormed (ti.Call r c given) (if is_some name || is_some r then Some n else None)
      called None c given name w n = tt
      called (Some r) c given name w n = takes_one name n

  case_formed : (c : raw_case.Case) → CaseWritten c → Gives (case_in known c) (TargetFormed f)
  case_formed c h = bind (IsBlock f) (TargetFormed f) _ _ (target_there c.target) (λ b there. gives (TargetFormed f) (record { reg = c.reg; width = c.width; bits = c.bits; target = b }) (h, there))

  end_formed : (e : raw_end.Terminator) → EndWritten e → Gives (end_in types known e) (EndGood f)
  end_formed (re.Return None) h = gives (EndGood f) (te.Return None) (record { operands = tt; cases = tt; targets = tt })
  end_formed (re.Return (Some a)) h = bind (ArgumentFormed f) (EndGood f) _ _ (argument_formed a h) (λ v hv. gives (EndGood f) (te.Return (Some v)) (record { operands = (hv, tt); cases = tt; targets = tt }))
  end_formed (re.Jump target) h = bind (IsBlock f) (EndGood f) _ _ (target_there target) (λ b hb. gives (EndGood f) (te.Jump b) (record { operands = tt; cases = tt; targets = (hb, tt) }))
  end_formed (re.Branch condition if_true if_false) h =
      bind (OperandFormed f) (EndGood f) _ _ (operand_formed condition h) (λ c hc.
      bind (IsBlock f) (EndGood f) _ _ (target_there if_true) (λ t ht.
      bind (IsBlock f) (EndGood f) _ _ (target_there if_false) (λ e he.
      gives (EndGood f) (te.Branch c t e) (record { operands = ((bit, hc), tt); cases = tt; targets = (ht, (he, tt)) }))))
  end_formed (re.Switch width value default cases) h =
      bind (OperandFormed f) (EndGood f) _ _ (operand_formed value h.1) (λ v hv.
      bind (IsBlock f) (EndGood f) _ _ (target_there default) (λ d hd.
      bind (Each (TargetFormed f)) (EndGood f) _ _ (bind_each CaseWritten (TargetFormed f) (case_in known) case_formed cases (recursion_from_All CaseWritten cases h.2)) (λ cs hcs.
      gives (EndGood f) (te.Switch width v d cs)
      (record { operands = ((h.0, hv), tt); cases = All-from_recursion CaseFormed cs (cases_formed f cs hcs); targets = (hd, cases_there f cs hcs) }))))
  end_formed re.Unreachable h = gives (EndGood f) te.Unreachable (record { operands = tt; cases = tt; targets = tt })

  lines_formed : (n : ℕ) (ls : List raw_line.WrittenLine) → Each LineWritten ls → Gives (lines_in types known n ls) (Each (LineFormed f))
  lines_formed n [] h = gives (Each (LineFormed f)) [] tt
  lines_formed n (l ∷ ls) h =
      bind (InstrGood f l.instr) (Each (LineFormed f)) _ _ (instr_formed l.instr h.0.0) (λ i g.
      bind (Each (LineFormed f)) (Each (LineFormed f)) _ _ (lines_formed (behind_line n l) ls h.1) (λ more rest.
      gives (Each (LineFormed f)) (record { local = local_at n l; instr = i } ∷ more) (made i g, rest)))
    where
      made : (i : Instr) → InstrGood f l.instr i → LineFormed f (record { local = local_at n l; instr = i })
      made i g = record {
        operands = All-from_recursion (ArgumentFormed f) (reads i ++ phi_reads i) g.operands;
        sources = All-from_recursion (λ e. IsBlock f e.from) (taken i) g.sources;
        instr = g.instr;
        result = g.result l.name h.0.1 n;
      }

-- ---- the items of a block

phis_formed : (f : Function) (b : ℕ) (ls : List Line) → Each (LineFormed f) ls → All (ItemFormed f) (map (phi_item b) (phis_of ls))
phis_formed f b [] h = All-nil (ItemFormed f)
phis_formed f b (l ∷ ls) h = by l.local l.instr h.0 (phis_formed f b ls h.1)
  where
    by : (o : Option ℕ) (i : Instr) → LineFormed f (record { local = o; instr = i }) → All (ItemFormed f) (map (phi_item b) (phis_of ls)) → All (ItemFormed f) (map (phi_item b) (phi_before (phi_of o i) (phis_of ls)))
    by (Some n) (ti.Phi reg incoming) g more =
        All-cons (ItemFormed f) (phi_item b (record { local = n; reg = reg; incoming = incoming })) (map (phi_item b) (phis_of ls)) (record { operands = g.operands; sources = g.sources; kind = g.instr }) more
    by o i g more = All-nil (ItemFormed f)

rest_formed : (f : Function) (ls : List Line) → Each (LineFormed f) ls → Each (LineFormed f) (rest_of ls)
rest_formed f [] h = tt
rest_formed f (l ∷ ls) h = by (phi_of l.local l.instr) (rest_formed f ls h.1)
  where
    by : (o : Option Phi) → Each (LineFormed f) (rest_of ls) → Each (LineFormed f) (lines_behind o (l ∷ ls) (rest_of ls))
    by None more = h
    by (Some p) more = more

lines_items : (f : Function) (b k : ℕ) (ls : List Line) → Each (LineFormed f) ls → All (ItemFormed f) (lines_from b k ls)
lines_items f b k [] h = All-nil (ItemFormed f)
lines_items f b k (l ∷ ls) h =
    All-cons (ItemFormed f) (line_item b k l) (lines_from b (suc k) ls) (record { operands = h.0.operands; sources = h.0.sources; kind = (h.0.instr, h.0.result) }) (lines_items f b (suc k) ls h.1)

end_item_formed : (f : Function) (b : ℕ) (t : Terminator) → EndGood f t → All (ItemFormed f) (end_item b t ∷ [])
end_item_formed f b t h =
    All-cons (ItemFormed f) (end_item b t) []
    (record { operands = All-from_recursion (ArgumentFormed f) (end_reads t) h.operands; sources = All-nil (λ e. IsBlock f e.from); kind = (h.cases, All-from_recursion (IsBlock f) (successors t) h.targets) })
    (All-nil (ItemFormed f))

abbrev BlockFormed : Function → tree_block.Block → Type 0
BlockFormed f t = (b : ℕ) → All (ItemFormed f) (block_items b t)

together : (f : Function) (b : ℕ) (ls : List Line) (t : Terminator) → Each (LineFormed f) ls → EndGood f t
    → All (ItemFormed f) (map (phi_item b) (phis_of ls) ++ (lines_from b 0 (rest_of ls) ++ end_item b t ∷ []))
together f b ls t h e =
    All-append (ItemFormed f) (map (phi_item b) (phis_of ls)) (lines_from b 0 (rest_of ls) ++ end_item b t ∷ []) (phis_formed f b ls h)
    (All-append (ItemFormed f) (lines_from b 0 (rest_of ls)) (end_item b t ∷ []) (lines_items f b 0 (rest_of ls) (rest_formed f ls h)) (end_item_formed f b t e))

module _ (types : Types) (are : TypesWritten types) (known : LocalTable) (f : Function) (values : (n : ℕ) → IsPlace known Value n → IsLocal f n) (blocks : (n : ℕ) → IsPlace known Block n → IsBlock f n) where
  block_formed : (n : ℕ) (b : raw_block.Block) → BlockWritten b → Gives (block_in types known n b) (BlockFormed f)
  unfolding block_of
  block_formed n b h =
      bind (λ body. (t : Terminator) → EndGood f t → BlockFormed f (record { number = n; phis = body.phis; lines = body.lines; end = t })) (BlockFormed f) _ _
      (bind (Each (LineFormed f)) (λ body. (t : Terminator) → EndGood f t → BlockFormed f (record { number = n; phis = body.phis; lines = body.lines; end = t })) _ _
      (lines_formed types are known f values blocks (n + 1) b.lines (recursion_from_All LineWritten b.lines h.0)) (λ ls g.
      gives (λ body. (t : Terminator) → EndGood f t → BlockFormed f (record { number = n; phis = body.phis; lines = body.lines; end = t })) (body_of ls) (λ t e p. together f p ls t g e)))
      (λ body made.
      bind (EndGood f) (BlockFormed f) _ _ (end_formed types are known f values blocks b.end h.1) (λ t e.
      gives (BlockFormed f) (record { number = n; phis = body.phis; lines = body.lines; end = t }) (made t e)))

  pub blocks_formed : (n : ℕ) (bs : List raw_block.Block) → Each BlockWritten bs → Gives (blocks_in types known n bs) (Each (BlockFormed f))
  blocks_formed n [] h = gives (Each (BlockFormed f)) [] tt
  blocks_formed n (b ∷ bs) h =
      bind (BlockFormed f) (Each (BlockFormed f)) _ _ (block_formed n b h.0) (λ t g.
      bind (Each (BlockFormed f)) (Each (BlockFormed f)) _ _ (blocks_formed (behind_block n b) bs h.1) (λ ts more.
      gives (Each (BlockFormed f)) (t ∷ ts) (g, more)))

pub items_formed : (f : Function) (p : ℕ) (bs : List tree_block.Block) → Each (BlockFormed f) bs → All (ItemFormed f) (items_from p bs)
items_formed f p [] h = All-nil (ItemFormed f)
items_formed f p (b ∷ bs) h = All-append (ItemFormed f) (block_items p b) (items_from (suc p) bs) (h.0 p) (items_formed f (suc p) bs h.1)
