-- What resolves of written functions is within the limits, where what is written is: offsets are below 2^64, counts too, and
-- phis keep their entries. Constants keep their types.
use Rattle.std.proofs.Common.{◌≡◌, ℕ, suc, ◌+◌, ◌%◌, ◌<◌, ◌^◌, Bool, true, false, cond, nat_eq, Some, None, Ok, List, [], ◌∷◌, ◌++◌, map, length, sym, subst, arith}
use Rattle.std.specs.List.{AllByRecursion as Each}
use Rattle.std.proofs.lemmas.List.Elements.{All-from_recursion}
use Rattle.ir_parse_names.specs.Addresses.{level_offset, offset_behind}
use Rattle.ir_parse_values.specs.Blocks.{body_of, body_in, block_of, block_in, behind_block, blocks_in, blocks_of, phis_of, rest_of}
use Rattle.ir_parse_names.specs.Bodies.{local_at, operand_in, argument_in, incoming_in, allocated, align_or, reg_align, instr_in, lines_in, behind_line, end_in, case_in}
use Rattle.ir_parse_names.specs.Locals.{LocalTable, number_in}
use Rattle.ir_parse_names.specs.Numbering.{locals_of}
use Rattle.ir_parse_names.specs.Resolving.{◌>>=◌, each}
use Rattle.ir_parse_names.specs.Symbols.{symbol_of}
use Rattle.ir_parse_names.specs.Types.{Types, array_of, expanded, expand, within}
use Rattle.ir_parse_values.specs.declared.block.Body.{Body}
use Rattle.ir_parse_names.specs.declared.locals.Sort.TheVariants as sorts
use Rattle.ir_parse_parts.specs.declared.address.Level.{Level}
use Rattle.ir_parse_parts.specs.declared.raw.Argument as raw_argument
use Rattle.ir_parse_parts.specs.declared.raw.Block as raw_block
use Rattle.ir_parse_parts.specs.declared.raw.Case as raw_case
use Rattle.ir_parse_parts.specs.declared.raw.Incoming as raw_incoming
use Rattle.ir_parse_parts.specs.declared.raw.Instr as raw_instr
use Rattle.ir_parse_parts.specs.declared.raw.Instr.TheVariants as ri
use Rattle.ir_parse_parts.specs.declared.raw.WrittenLine as raw_line
use Rattle.ir_parse_parts.specs.declared.raw.Operand as raw_operand
use Rattle.ir_parse_parts.specs.declared.raw.Operand.TheVariants as ro
use Rattle.ir_parse_parts.specs.declared.raw.Param as raw_param
use Rattle.ir_parse_parts.specs.declared.raw.Terminator as raw_end
use Rattle.ir_parse_parts.specs.declared.raw.Terminator.TheVariants as re
use Rattle.ir_parse_parts.specs.declared.shape.Typed.{Typed}
use Rattle.ir_tree.specs.Forms.{Form, array}
use Rattle.ir_tree.specs.Items.{Item, phi_item, line_item, end_item, items_from, block_items, lines_from, reads, phi_reads, taken_as, end_reads, typed}
use Rattle.ir_tree.specs.Layout.{align}
use Rattle.ir_tree.specs.declared.block.Block.{Block}
use Rattle.ir_tree.specs.declared.block.Case.{Case}
use Rattle.ir_tree.specs.declared.block.Terminator.{Terminator}
use Rattle.ir_tree.specs.declared.block.Terminator.TheVariants as te
use Rattle.ir_tree.specs.declared.instr.Incoming.{Incoming}
use Rattle.ir_tree.specs.declared.instr.Instr.{Instr}
use Rattle.ir_tree.specs.declared.instr.Instr.TheVariants as ti
use Rattle.ir_tree.specs.declared.instr.Line.{Line}
use Rattle.ir_tree.specs.declared.instr.Phi.{Phi}
use Rattle.ir_tree.specs.declared.operand.Argument.{Argument}
use Rattle.ir_tree.specs.declared.operand.Operand.{Operand}
use Rattle.ir_tree.specs.declared.operand.Operand.TheVariants as to
use Rattle.ir_tree.specs.declared.operand.Reg.{Reg}
use Rattle.ir_tree.specs.declared.operand.Reg.TheVariants.{Int, Ptr}
use Rattle.ir_round_trip.specs.Bodies.{phi_as_line}
use Rattle.ir_round_trip.specs.PartsReadable.{CountsReadable}
use Rattle.ir_round_trip.specs.PrintedTyped.{ArgumentTyped, CaseTyped, EndTyped, ItemTyped, OperandTyped}
use Rattle.ir_round_trip.specs.Spelled.{ArgumentSpelled, BlockSpelled, CaseSpelled, Counted, EndSpelled, HasIncoming, IncomingSpelled, InstrSpelled, OperandSpelled}
use Rattle.ir_round_trip.proofs.Means.{joined}
use Rattle.ir_round_trip.specs.Within.{HasEntry, InstrWithin, ItemWithin, OffsetFits}
use Rattle.ir_round_trip.proofs.Counts.{TypesCounted, expanded_counts, expand_counts, within_counts}
use Rattle.ir_round_trip.proofs.Stages.{one, parted, took}

-- ---- what is made of it

abbrev entry_of : ℕ → Operand → Incoming
entry_of b o = record { from = b; value = o }

abbrev case_of : raw_case.Case → ℕ → Case
case_of r b = record { reg = r.reg; width = r.width; bits = r.bits; target = b }

abbrev pub line_of : ℕ → raw_line.WrittenLine → Instr → Line
line_of n r i = record { local = local_at n r; instr = i }

abbrev pub block_with : ℕ → Body → Terminator → Block
block_with n body end = record { number = n; phis = body.phis; lines = body.lines; end = end }

-- ---- operands

rest_small : (n : ℕ) → n % 2 ^ 64 < 2 ^ 64
rest_small n = omega arith

abbrev ArgumentFits : Argument → Type 0
ArgumentFits a = OffsetFits a.operand

abbrev ArgumentRight : Argument → Type 0
ArgumentRight a = ArgumentFits a × ArgumentTyped a

offsets_of : (as' : List Argument) → Each ArgumentRight as' → Each ArgumentFits as'
offsets_of [] h = tt
offsets_of (a ∷ as') h = (h.0.0, offsets_of as' h.1)

types_of : (as' : List Argument) → Each ArgumentRight as' → Each ArgumentTyped as'
types_of [] h = tt
types_of (a ∷ as') h = (h.0.1, types_of as' h.1)

module _ (types : Types) where
  offset_small : (n : ℕ) (ls : List Level) (m : ℕ) → n < 2 ^ 64 → offset_behind n types ls ≡ Ok m → m < 2 ^ 64
  offset_small n [] m h e = subst (λ (k : ℕ). k < 2 ^ 64) (one e) h
  offset_small n (l ∷ ls) m h e =
      let k = took (level_offset types l) (λ k. offset_behind ((n + k) % 2 ^ 64) types ls) m e in offset_small ((n + k.0) % 2 ^ 64) ls m (rest_small (n + k.0)) k.2

  module _ (locals : LocalTable) where
    pub operand_fits : (r : raw_operand.Operand) (x : Operand) → operand_in types locals r ≡ Ok x → OffsetFits x
    operand_fits (ro.Local name) x e = let n = took (number_in locals sorts.Value name) (λ n. Ok (to.Local n)) x e in subst OffsetFits (one n.2) tt
    operand_fits (ro.Global name) x e = subst OffsetFits (one e) (omega arith)
    operand_fits (ro.Number width bits) x e = subst OffsetFits (one e) tt
    operand_fits ro.Null x e = subst OffsetFits (one e) tt
    operand_fits (ro.Poison reg) x e = subst OffsetFits (one e) tt
    operand_fits (ro.Address steps) x e =
        let n = took (offset_behind 0 types steps.levels) (λ n. Ok (to.Symbol (symbol_of steps.name) n)) x e in subst OffsetFits (one n.2) (offset_small 0 steps.levels n.0 (omega arith) n.1)

    pub operand_typed : (reg : Reg) (r : raw_operand.Operand) (x : Operand) → OperandSpelled reg r → operand_in types locals r ≡ Ok x → OperandTyped reg x
    operand_typed reg (ro.Local name) x h e = let n = took (number_in locals sorts.Value name) (λ n. Ok (to.Local n)) x e in subst (OperandTyped reg) (one n.2) tt
    operand_typed reg (ro.Global name) x h e = subst (OperandTyped reg) (one e) tt
    operand_typed reg (ro.Number width bits) x h e = subst (OperandTyped reg) (one e) h
    operand_typed reg ro.Null x h e = subst (OperandTyped reg) (one e) tt
    operand_typed reg (ro.Poison r) x h e = subst (OperandTyped reg) (one e) h
    operand_typed reg (ro.Address steps) x h e =
        let n = took (offset_behind 0 types steps.levels) (λ n. Ok (to.Symbol (symbol_of steps.name) n)) x e in subst (OperandTyped reg) (one n.2) tt

    operand_right : (reg : Reg) (r : raw_operand.Operand) (x : Operand) → OperandSpelled reg r → operand_in types locals r ≡ Ok x → ArgumentRight (typed reg x)
    operand_right reg r x h e = (operand_fits r x e, operand_typed reg r x h e)

    argument_right : (r : raw_argument.Argument) (a : Argument) → ArgumentSpelled r → argument_in types locals r ≡ Ok a → ArgumentRight a
    argument_right r a h e =
        let o = took (operand_in types locals r.operand) (λ o. Ok (typed r.reg o)) a e in subst ArgumentRight (one o.2) (operand_right r.reg r.operand o.0 h o.1)

    arguments_right : (rs : List raw_argument.Argument) (as' : List Argument) → Each ArgumentSpelled rs → each (argument_in types locals) rs ≡ Ok as' → Each ArgumentRight as'
    arguments_right [] as' h e = subst (Each ArgumentRight) (one e) tt
    arguments_right (r ∷ rs) as' h e =
        let a = took (argument_in types locals r) (λ a. each (argument_in types locals) rs >>= λ more. Ok (a ∷ more)) as' e in
        let more = took (each (argument_in types locals) rs) (λ more. Ok (a.0 ∷ more)) as' a.2 in
        subst (Each ArgumentRight) (one more.2) (argument_right r a.0 h.0 a.1, arguments_right rs more.0 h.1 more.1)

    -- as many entries, their offsets and their types
    abbrev EntriesRight : Reg → List raw_incoming.Incoming → List Incoming → Type 0
    EntriesRight reg rs es = Each ArgumentRight (taken_as reg es) × (HasIncoming rs → HasEntry es)

    entry_right : (reg : Reg) (r : raw_incoming.Incoming) (e : Incoming) → IncomingSpelled reg r → incoming_in types locals r ≡ Ok e → ArgumentRight (typed reg e.value)
    entry_right reg r e h d =
        let o = took (operand_in types locals r.value) (λ o. number_in locals sorts.Block r.from >>= λ b. Ok (entry_of b o)) e d in
        let b = took (number_in locals sorts.Block r.from) (λ b. Ok (entry_of b o.0)) e o.2 in
        subst (λ (x : Incoming). ArgumentRight (typed reg x.value)) (one b.2) (operand_right reg r.value o.0 h o.1)

    entries_right : (reg : Reg) (rs : List raw_incoming.Incoming) (es : List Incoming) → Each (IncomingSpelled reg) rs → each (incoming_in types locals) rs ≡ Ok es → EntriesRight reg rs es
    entries_right reg [] es h e = subst (EntriesRight reg []) (one e) (tt, λ k. k)
    entries_right reg (r ∷ rs) es h e =
        let x = took (incoming_in types locals r) (λ x. each (incoming_in types locals) rs >>= λ more. Ok (x ∷ more)) es e in
        let more = took (each (incoming_in types locals) rs) (λ more. Ok (x.0 ∷ more)) es x.2 in
        subst (EntriesRight reg (r ∷ rs)) (one more.2) ((entry_right reg r x.0 h.0 x.1, (entries_right reg rs more.0 h.1 more.1).0), λ k. tt)

    -- ---- instructions

    abbrev InstrRight : Instr → Type 0
    InstrRight i = Each ArgumentRight (reads i ++ phi_reads i) × InstrWithin i

    allocated_counts : TypesCounted types → (typed : Typed) (count : ℕ) (f : Form) → Counted typed.shape → count < 2 ^ 64 → allocated types typed count ≡ Ok f → CountsReadable f
    unfolding array_of
    allocated_counts t typed count f c few e = by (nat_eq count 1) e
      where
        by : (b : Bool) → cond b (expanded types typed) (expand 31 types typed.line typed.shape >>= λ g. within typed.line (array count g)) ≡ Ok f → CountsReadable f
        by true e = expanded_counts types typed f t c e
        by false e =
            let g = took (expand 31 types typed.line typed.shape) (λ g. within typed.line (array count g)) f e in
            within_counts typed.line (array count g.0) f (few, expand_counts 31 types typed.line typed.shape g.0 t c g.1) g.2

    without_end : (as' : List Argument) → Each ArgumentRight as' → Each ArgumentRight (as' ++ [])
    without_end [] h = tt
    without_end (a ∷ as') h = (h.0, without_end as' h.1)

    instr_right : TypesCounted types → (r : raw_instr.Instr) (i : Instr) → InstrSpelled r → instr_in types locals r ≡ Ok i → InstrRight i
    instr_right t (ri.Binary op flags width left right) i h e =
        let l = took (operand_in types locals left) (λ l. operand_in types locals right >>= λ r. Ok (ti.Binary op flags width l r)) i e in
        let r = took (operand_in types locals right) (λ r. Ok (ti.Binary op flags width l.0 r)) i l.2 in
        subst InstrRight (one r.2) ((operand_right (Int width) left l.0 h.0 l.1, (operand_right (Int width) right r.0 h.1 r.1, tt)), tt)
    instr_right t (ri.Icmp predicate reg left right) i h e =
        let l = took (operand_in types locals left) (λ l. operand_in types locals right >>= λ r. Ok (ti.Icmp predicate reg l r)) i e in
        let r = took (operand_in types locals right) (λ r. Ok (ti.Icmp predicate reg l.0 r)) i l.2 in
        subst InstrRight (one r.2) ((operand_right reg left l.0 h.0 l.1, (operand_right reg right r.0 h.1 r.1, tt)), tt)
    instr_right t (ri.Cast op from value to) i h e =
        let v = took (operand_in types locals value) (λ v. Ok (ti.Cast op from v to)) i e in subst InstrRight (one v.2) ((operand_right from value v.0 h v.1, tt), tt)
    instr_right t (ri.Select condition if_true if_false) i h e =
        let c = took (operand_in types locals condition) (λ c. argument_in types locals if_true >>= λ x. argument_in types locals if_false >>= λ y. Ok (ti.Select c x y)) i e in
        let x = took (argument_in types locals if_true) (λ x. argument_in types locals if_false >>= λ y. Ok (ti.Select c.0 x y)) i c.2 in
        let y = took (argument_in types locals if_false) (λ y. Ok (ti.Select c.0 x.0 y)) i x.2 in
        subst InstrRight (one y.2) ((operand_right (Int 1) condition c.0 h.0 c.1, (argument_right if_true x.0 h.1 x.1, (argument_right if_false y.0 h.2 y.1, tt))), tt)
    instr_right t (ri.Freeze reg value) i h e =
        let v = took (operand_in types locals value) (λ v. Ok (ti.Freeze reg v)) i e in subst InstrRight (one v.2) ((operand_right reg value v.0 h v.1, tt), tt)
    instr_right t (ri.Phi reg incoming) i h e =
        let es = took (each (incoming_in types locals) incoming) (λ es. Ok (ti.Phi reg es)) i e in
        let right = entries_right reg incoming es.0 h.1 es.1 in subst InstrRight (one es.2) (right.0, right.1 h.0)
    instr_right t (ri.Alloca typed count written) i h e =
        let f = took (allocated types typed count) (λ f. Ok (ti.Alloca f (align_or (align f) written))) i e in
        subst InstrRight (one f.2) (tt, allocated_counts t typed count f.0 h.0 h.1 f.1)
    instr_right t (ri.Load reg address written) i h e =
        let a = took (operand_in types locals address) (λ a. Ok (ti.Load reg a (align_or (reg_align reg) written))) i e in subst InstrRight (one a.2) ((operand_right Ptr address a.0 h a.1, tt), tt)
    instr_right t (ri.Store reg value address written) i h e =
        let v = took (operand_in types locals value) (λ v. operand_in types locals address >>= λ a. Ok (ti.Store reg v a (align_or (reg_align reg) written))) i e in
        let a = took (operand_in types locals address) (λ a. Ok (ti.Store reg v.0 a (align_or (reg_align reg) written))) i v.2 in
        subst InstrRight (one a.2) ((operand_right reg value v.0 h.0 v.1, (operand_right Ptr address a.0 h.1 a.1, tt)), tt)
    instr_right t (ri.Address inbounds typed base indices) i h e =
        let f = took (expanded types typed) (λ f. operand_in types locals base >>= λ b. each (argument_in types locals) indices >>= λ is. Ok (ti.Address inbounds f b is)) i e in
        let b = took (operand_in types locals base) (λ b. each (argument_in types locals) indices >>= λ is. Ok (ti.Address inbounds f.0 b is)) i f.2 in
        let is = took (each (argument_in types locals) indices) (λ is. Ok (ti.Address inbounds f.0 b.0 is)) i b.2 in
        subst InstrRight (one is.2) ((operand_right Ptr base b.0 h.1 b.1, without_end is.0 (arguments_right indices is.0 h.2 is.1)), expanded_counts types typed f.0 t h.0 f.1)
    instr_right t (ri.Call result callee arguments) i h e =
        let c = took (operand_in types locals callee) (λ c. each (argument_in types locals) arguments >>= λ given. Ok (ti.Call result c given)) i e in
        let given = took (each (argument_in types locals) arguments) (λ given. Ok (ti.Call result c.0 given)) i c.2 in
        subst InstrRight (one given.2) ((operand_right Ptr callee c.0 h.0 c.1, without_end given.0 (arguments_right arguments given.0 h.1 given.1)), tt)

    lines_right : TypesCounted types → (n : ℕ) (rs : List raw_line.WrittenLine) (ls : List Line) → Each (λ (r : raw_line.WrittenLine). InstrSpelled r.instr) rs → lines_in types locals n rs ≡ Ok ls → Each (λ (l : Line). InstrRight l.instr) ls
    lines_right t n [] ls h e = subst (Each (λ (l : Line). InstrRight l.instr)) (one e) tt
    lines_right t n (r ∷ rs) ls h e =
        let i = took (instr_in types locals r.instr) (λ i. lines_in types locals (behind_line n r) rs >>= λ more. Ok (line_of n r i ∷ more)) ls e in
        let more = took (lines_in types locals (behind_line n r) rs) (λ more. Ok (line_of n r i.0 ∷ more)) ls i.2 in
        subst (Each (λ (l : Line). InstrRight l.instr)) (one more.2) (instr_right t r.instr i.0 h.0 i.1, lines_right t (behind_line n r) rs more.0 h.1 more.1)

    -- ---- terminators

    abbrev EndRight : Terminator → Type 0
    EndRight t = Each ArgumentRight (end_reads t) × EndTyped t

    cases_right : (rs : List raw_case.Case) (cs : List Case) → Each CaseSpelled rs → each (case_in locals) rs ≡ Ok cs → Each CaseTyped cs
    cases_right [] cs h e = subst (Each CaseTyped) (one e) tt
    cases_right (r ∷ rs) cs h e =
        let c = took (case_in locals r) (λ c. each (case_in locals) rs >>= λ more. Ok (c ∷ more)) cs e in
        let b = took (number_in locals sorts.Block r.target) (λ b. Ok (case_of r b)) c.0 c.1 in
        let more = took (each (case_in locals) rs) (λ more. Ok (c.0 ∷ more)) cs c.2 in
        subst (Each CaseTyped) (one more.2) (subst CaseTyped (one b.2) h.0, cases_right rs more.0 h.1 more.1)

    end_right : (r : raw_end.Terminator) (t : Terminator) → EndSpelled r → end_in types locals r ≡ Ok t → EndRight t
    end_right (re.Return None) t h e = subst EndRight (one e) (tt, tt)
    end_right (re.Return (Some a)) t h e = let v = took (argument_in types locals a) (λ v. Ok (te.Return (Some v))) t e in subst EndRight (one v.2) ((argument_right a v.0 h v.1, tt), tt)
    end_right (re.Jump target) t h e = let b = took (number_in locals sorts.Block target) (λ b. Ok (te.Jump b)) t e in subst EndRight (one b.2) (tt, tt)
    end_right (re.Branch condition if_true if_false) t h e =
        let c = took (operand_in types locals condition) (λ c. number_in locals sorts.Block if_true >>= λ x. number_in locals sorts.Block if_false >>= λ y. Ok (te.Branch c x y)) t e in
        let x = took (number_in locals sorts.Block if_true) (λ x. number_in locals sorts.Block if_false >>= λ y. Ok (te.Branch c.0 x y)) t c.2 in
        let y = took (number_in locals sorts.Block if_false) (λ y. Ok (te.Branch c.0 x.0 y)) t x.2 in
        subst EndRight (one y.2) ((operand_right (Int 1) condition c.0 h c.1, tt), tt)
    end_right (re.Switch width value default cases) t h e =
        let v = took (operand_in types locals value) (λ v. number_in locals sorts.Block default >>= λ d. each (case_in locals) cases >>= λ cs. Ok (te.Switch width v d cs)) t e in
        let d = took (number_in locals sorts.Block default) (λ d. each (case_in locals) cases >>= λ cs. Ok (te.Switch width v.0 d cs)) t v.2 in
        let cs = took (each (case_in locals) cases) (λ cs. Ok (te.Switch width v.0 d.0 cs)) t d.2 in
        subst EndRight (one cs.2) ((operand_right (Int width) value v.0 h.0 v.1, tt), cases_right cases cs.0 h.1 cs.1)
    end_right re.Unreachable t h e = subst EndRight (one e) (tt, tt)

    -- ---- items of blocks

    abbrev ItemRight : Item → Type 0
    ItemRight item = ItemWithin item × ItemTyped item

    line_right : (b k : ℕ) (l : Line) → InstrRight l.instr → ItemRight (line_item b k l)
    line_right b k l h = (
      record { offsets = All-from_recursion ArgumentFits (reads l.instr ++ phi_reads l.instr) (offsets_of (reads l.instr ++ phi_reads l.instr) h.0); kind = h.1 },
      record { operands = types_of (reads l.instr ++ phi_reads l.instr) h.0; kind = tt },
    )

    phi_right : (b : ℕ) (p : Phi) → InstrRight (phi_as_line p).instr → ItemRight (phi_item b p)
    phi_right b p h = (
      record { offsets = All-from_recursion ArgumentFits (taken_as p.reg p.incoming) (offsets_of (taken_as p.reg p.incoming) h.0); kind = h.1 },
      record { operands = types_of (taken_as p.reg p.incoming) h.0; kind = tt },
    )

    last_right : (b : ℕ) (t : Terminator) → EndRight t → ItemRight (end_item b t)
    last_right b t h = (record { offsets = All-from_recursion ArgumentFits (end_reads t) (offsets_of (end_reads t) h.0); kind = tt }, record { operands = types_of (end_reads t) h.0; kind = h.1 })

    all_right : (b k : ℕ) (ls : List Line) → Each (λ (l : Line). InstrRight l.instr) ls → Each ItemRight (lines_from b k ls)
    all_right b k [] h = tt
    all_right b k (l ∷ ls) h = (line_right b k l h.0, all_right b (suc k) ls h.1)

    stated_right : (b : ℕ) (ps : List Phi) (ls : List Line) (end : Terminator) → Each (λ (l : Line). InstrRight l.instr) (map phi_as_line ps ++ ls) → EndRight end → Each ItemRight (map (phi_item b) ps ++ (lines_from b 0 ls ++ end_item b end ∷ []))
    stated_right b [] ls end h e = joined ItemRight (lines_from b 0 ls) (end_item b end ∷ []) (all_right b 0 ls h) (last_right b end e, tt)
    stated_right b (p ∷ ps) ls end h e = (phi_right b p h.0, stated_right b ps ls end h.1 e)

    block_right : TypesCounted types → (n place : ℕ) (r : raw_block.Block) (b : Block) → BlockSpelled r → block_in types locals n r ≡ Ok b → Each ItemRight (block_items place b)
    unfolding block_of
    block_right t n place r b h e =
        let body = took (body_in types locals (n + 1) r.lines) (λ body. end_in types locals r.end >>= λ end. Ok (block_with n body end)) b e in
        let end = took (end_in types locals r.end) (λ end. Ok (block_with n body.0 end)) b body.2 in
        let ls = took (lines_in types locals (n + 1) r.lines) (λ ls. Ok (body_of ls)) body.0 body.1 in
        let right : Each (λ (l : Line). InstrRight l.instr) (map phi_as_line (phis_of ls.0) ++ rest_of ls.0) = subst (Each (λ (l : Line). InstrRight l.instr)) (sym (parted ls.0)) (lines_right t (n + 1) r.lines ls.0 h.0 ls.1) in
        subst (λ (x : Block). Each ItemRight (block_items place x)) (one end.2)
        (subst (λ (x : Body). Each ItemRight (block_items place (block_with n x end.0))) (one ls.2)
        (stated_right place (phis_of ls.0) (rest_of ls.0) end.0 right (end_right r.end end.0 h.1 end.1)))

    blocks_right : TypesCounted types → (n place : ℕ) (rs : List raw_block.Block) (bs : List Block) → Each BlockSpelled rs → blocks_in types locals n rs ≡ Ok bs → Each ItemRight (items_from place bs)
    blocks_right t n place [] bs h e = subst (λ (x : List Block). Each ItemRight (items_from place x)) (one e) tt
    blocks_right t n place (r ∷ rs) bs h e =
        let b = took (block_in types locals n r) (λ b. blocks_in types locals (behind_block n r) rs >>= λ more. Ok (b ∷ more)) bs e in
        let more = took (blocks_in types locals (behind_block n r) rs) (λ more. Ok (b.0 ∷ more)) bs b.2 in
        subst (λ (x : List Block). Each ItemRight (items_from place x)) (one more.2)
        (joined ItemRight (block_items place b.0) (items_from (suc place) more.0) (block_right t n place r b.0 h.0 b.1) (blocks_right t (behind_block n r) (suc place) rs more.0 h.1 more.1))

  -- ---- functions

  items_right : TypesCounted types → (params : List raw_param.Param) (rs : List raw_block.Block) (bs : List Block) → Each BlockSpelled rs → blocks_of types params rs ≡ Ok bs → Each (λ item. ItemWithin item × ItemTyped item) (items_from 0 bs)
  items_right t params rs bs h e =
      let locals = took (locals_of params rs) (λ locals. blocks_in types locals (length params) rs) bs e in blocks_right locals.0 t (length params) 0 rs bs h locals.2

  within_of : (is : List Item) → Each (λ item. ItemWithin item × ItemTyped item) is → Each ItemWithin is
  within_of [] h = tt
  within_of (i ∷ is) h = (h.0.0, within_of is h.1)

  typed_of : (is : List Item) → Each (λ item. ItemWithin item × ItemTyped item) is → Each ItemTyped is
  typed_of [] h = tt
  typed_of (i ∷ is) h = (h.0.1, typed_of is h.1)

  pub items_within : TypesCounted types → (params : List raw_param.Param) (rs : List raw_block.Block) (bs : List Block) → Each BlockSpelled rs → blocks_of types params rs ≡ Ok bs → Each ItemWithin (items_from 0 bs)
  items_within t params rs bs h e = within_of (items_from 0 bs) (items_right t params rs bs h e)

  pub items_typed : TypesCounted types → (params : List raw_param.Param) (rs : List raw_block.Block) (bs : List Block) → Each BlockSpelled rs → blocks_of types params rs ≡ Ok bs → Each ItemTyped (items_from 0 bs)
  items_typed t params rs bs h e = typed_of (items_from 0 bs) (items_right t params rs bs h e)
