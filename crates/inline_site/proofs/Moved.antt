-- The copy of the law of inlining, under its final numbers, is the copy of the definition.
use Rattle.std.proofs.Common.{◌≡◌, ℕ, ◌+◌, ◌≤◌, ◌==◌, ◌⊎◌, inl, inr, nat_eq, Bool, true, false, List, [], ◌∷◌, Option, Some, None, map, option_map, refl, sym, ◌∙◌, ap, arith, if◌then◌else◌}
use Rattle.std.proofs.lemmas.Bool.{cases_eq, eq-eqb, ne_eqb}
use Rattle.ir_tree.specs.Rules.{IsNoPhi}
use Rattle.ir_tree.specs.declared.block.Block.{Block}
use Rattle.ir_tree.specs.declared.block.Case.{Case}
use Rattle.ir_tree.specs.declared.block.Terminator.{Terminator}
use Rattle.ir_tree.specs.declared.block.Terminator.TheVariants.{Branch, Jump, Return, Switch, Unreachable}
use Rattle.ir_tree.specs.declared.function.Param.{Param}
use Rattle.ir_tree.specs.declared.instr.Incoming.{Incoming}
use Rattle.ir_tree.specs.declared.instr.Instr.{Instr}
use Rattle.ir_tree.specs.declared.instr.Instr.TheVariants.{Address, Alloca, Binary, Call, Cast, Freeze, Icmp, Load, Phi as StrayPhi, Select, Store}
use Rattle.ir_tree.specs.declared.instr.Line.{Line}
use Rattle.ir_tree.specs.declared.instr.Phi.{Phi}
use Rattle.ir_tree.specs.declared.operand.Argument.{Argument}
use Rattle.ir_tree.specs.declared.operand.Operand.{Operand}
use Rattle.ir_tree.specs.declared.operand.Operand.TheVariants.{Local}
use Rattle.ir_tree.specs.Edited.{argument_edited, block_edited, case_edited, end_edited, incoming_edited, instr_edited, line_edited, phi_edited, with_operands}
use Rattle.ir_edit.specs.Numbered.{later_or, param_numbers}
use Rattle.ir_edit.specs.Substituted.{or_local, replacement}
use Rattle.ir_edit.proofs.Tally.{tally, tally_same}
use Rattle.ir_meaning.specs.Inline.{Site, argument_of, blocks_moved, below, cases_moved, edges_moved, end_moved, lines_moved, local_moved, moved, or_moved, phis_moved, return_edge, return_edges}
use Rattle.ir_meaning.specs.Needed.{AllKept, IsKept}
use Rattle.ir_meaning.specs.Renumber.{block_renumbered, case_renumbered, end_renumbered, incoming_renumbered, instr_renumbered, line_renumbered, operand_renumbered, phi_renumbered}
use Rattle.inline_site.specs.Copies.{bound}
use Rattle.inline_site.specs.Inlined.{end_leading, leading_to, return_entries, return_entry}
use Rattle.inline_site.proofs.Fitting.{BlocksFit, LinesFit}

-- ---- parameters

later_none : {A : Type 0} (o : Option A) → later_or o None ≡ o
later_none None = refl
later_none (Some x) = refl

-- a number that no parameter has
pub differs : (p x : ℕ) (rest : ℕ) → (if nat_eq x p then 1 else 0) + rest ≡ 0 → p ≡ x → ⊥
differs p x rest none e = let one : 1 ≤ (if nat_eq x p then 1 else 0) = tally_same x p (sym e) in omega (arith, one, none)

pub no_argument : (ps : List Param) (as' : List Argument) (x : ℕ) → tally x (param_numbers ps) ≡ 0 → argument_of ps as' x ≡ None
no_argument [] as' x none = refl
no_argument (p ∷ ps) [] x none = refl
no_argument (p ∷ ps) (a ∷ more) x none =
    ap (λ (b : Bool). if b then Some a.operand else argument_of ps more x) (ne_eqb p.local x (differs p.local x (tally x (param_numbers ps)) none))
    ∙ no_argument ps more x (omega (arith, none))

no_replacement : (ps : List Param) (as' : List Argument) (x : ℕ) → tally x (param_numbers ps) ≡ 0 → replacement (bound ps as') x ≡ None
no_replacement [] as' x none = refl
no_replacement (p ∷ ps) [] x none = refl
no_replacement (p ∷ ps) (a ∷ more) x none =
    (λ i. later_or (no_replacement ps more x (omega (arith, none)) i) (if ne_eqb p.local x (differs p.local x (tally x (param_numbers ps)) none) i then Some a.operand else None))

-- where no two parameters have one number, the first argument of it is the last
pub same_argument : (ps : List Param) (as' : List Argument) (x : ℕ) → tally x (param_numbers ps) ≤ 1 → argument_of ps as' x ≡ replacement (bound ps as') x
same_argument [] as' x once = refl
same_argument (p ∷ ps) [] x once = refl
same_argument (p ∷ ps) (a ∷ more) x once = by (cases_eq p.local x) (same_argument ps more x)
  where
    by : (p.local ≡ x) ⊎ (p.local ≡ x → ⊥) → (tally x (param_numbers ps) ≤ 1 → argument_of ps more x ≡ replacement (bound ps more) x)
        → (if p.local == x then Some a.operand else argument_of ps more x) ≡ later_or (replacement (bound ps more) x) (if p.local == x then Some a.operand else None)
    by (inl e) rest =
        let one : 1 ≤ (if nat_eq x p.local then 1 else 0) = tally_same x p.local (sym e) in
        let test : (p.local == x) ≡ true = eq-eqb p.local x e in
        ap (λ (b : Bool). if b then Some a.operand else argument_of ps more x) test
        ∙ sym (λ i. later_or (no_replacement ps more x (omega (arith, once, one)) i) (if test i then Some a.operand else None))
    by (inr ne) rest =
        let test : (p.local == x) ≡ false = ne_eqb p.local x ne in
        ap (λ (b : Bool). if b then Some a.operand else argument_of ps more x) test
        ∙ rest (omega (arith, once))
        ∙ sym (later_none (replacement (bound ps more) x))
        ∙ sym (ap (λ (b : Bool). later_or (replacement (bound ps more) x) (if b then Some a.operand else None)) test)

module _ (by n : ℕ) (new number : ℕ → ℕ) (shifts : (x : ℕ) → new (x + by) ≡ number x) (fixed : (o : Operand) → IsKept (below n) o → operand_renumbered new o ≡ o) where
  pub argument_moved : (ps : List Param) (as' : List Argument) (x : ℕ) → AllKept (below n) as' → operand_renumbered new (or_moved by x (argument_of ps as' x)) ≡ or_local (argument_of ps as' x) (number x)
  argument_moved [] as' x kept = ap (λ (y : ℕ). Local y) (shifts x)
  argument_moved (p ∷ ps) [] x kept = ap (λ (y : ℕ). Local y) (shifts x)
  argument_moved (p ∷ ps) (a ∷ more) x kept = at (p.local == x) (argument_moved ps more x kept.1)
    where
      at : (b : Bool) → operand_renumbered new (or_moved by x (argument_of ps more x)) ≡ or_local (argument_of ps more x) (number x)
          → operand_renumbered new (or_moved by x (if b then Some a.operand else argument_of ps more x)) ≡ or_local (if b then Some a.operand else argument_of ps more x) (number x)
      at true rest = fixed a.operand kept.0
      at false rest = rest

-- ---- the copy

module _ (t : Site) (new number : ℕ → ℕ) (operand : Operand → Operand) (behind : ℕ)
    (shifts : (x : ℕ) → new (x + t.by) ≡ number x) (operands : (o : Operand) → operand_renumbered new (moved t o) ≡ operand o) (joins : new t.join ≡ behind) where
  arguments_same : (as' : List Argument) → map (argument_edited (operand_renumbered new)) (map (argument_edited (moved t)) as') ≡ map (argument_edited operand) as'
  arguments_same [] = refl
  arguments_same (a ∷ more) = λ i. record { reg = a.reg; operand = operands a.operand i } ∷ arguments_same more i

  instr_same : (i : Instr) → IsNoPhi i → instr_renumbered new (with_operands (moved t) i) ≡ instr_edited number operand i
  instr_same (Binary op flags width left right) s = λ i. Binary op flags width (operands left i) (operands right i)
  instr_same (Icmp predicate reg left right) s = λ i. Icmp predicate reg (operands left i) (operands right i)
  instr_same (Cast op from value to) s = λ i. Cast op from (operands value i) to
  instr_same (Select condition if_true if_false) s =
      λ i. Select (operands condition i) (record { reg = if_true.reg; operand = operands if_true.operand i }) (record { reg = if_false.reg; operand = operands if_false.operand i })
  instr_same (Freeze reg value) s = λ i. Freeze reg (operands value i)
  instr_same (Alloca shape align) s = refl
  instr_same (Load reg address align) s = λ i. Load reg (operands address i) align
  instr_same (Store reg value address align) s = λ i. Store reg (operands value i) (operands address i) align
  instr_same (Address inbounds shape base indices) s = λ i. Address inbounds shape (operands base i) (arguments_same indices i)
  instr_same (Call result callee arguments) s = λ i. Call result (operands callee i) (arguments_same arguments i)
  instr_same (StrayPhi reg incoming) s = absurd s

  local_same : (o : Option ℕ) → option_map new (local_moved t.by o) ≡ option_map number o
  local_same None = refl
  local_same (Some x) = ap (λ (y : ℕ). Some y) (shifts x)

  lines_same : (n : ℕ) (ls : List Line) → LinesFit n ls → map (line_renumbered new) (lines_moved t ls) ≡ map (line_edited number operand) ls
  lines_same n [] h = refl
  lines_same n (l ∷ ls) h = λ i. record { local = local_same l.local i; instr = instr_same l.instr h.2 i } ∷ lines_same n ls h.3 i

  edges_same : (es : List Incoming) → map (incoming_renumbered new) (edges_moved t es) ≡ map (incoming_edited number operand) es
  edges_same [] = refl
  edges_same (e ∷ es) = λ i. record { from = shifts e.from i; value = operands e.value i } ∷ edges_same es i

  phis_same : (ps : List Phi) → map (phi_renumbered new) (phis_moved t ps) ≡ map (phi_edited number operand) ps
  phis_same [] = refl
  phis_same (p ∷ ps) = λ i. record { local = shifts p.local i; reg = p.reg; incoming = edges_same p.incoming i } ∷ phis_same ps i

  cases_same : (cs : List Case) → map (case_renumbered new) (cases_moved t.by cs) ≡ map (case_edited number) cs
  cases_same [] = refl
  cases_same (c ∷ cs) = λ i. record { reg = c.reg; width = c.width; bits = c.bits; target = shifts c.target i } ∷ cases_same cs i

  end_same : (e : Terminator) → end_renumbered new (end_moved t e) ≡ end_leading behind (end_edited number operand e)
  end_same (Return value) = ap (λ (x : ℕ). Jump x) joins
  end_same (Jump target) = ap (λ (x : ℕ). Jump x) (shifts target)
  end_same (Branch condition if_true if_false) = λ i. Branch (operands condition i) (shifts if_true i) (shifts if_false i)
  end_same (Switch width value default cases) = λ i. Switch width (operands value i) (shifts default i) (cases_same cases i)
  end_same Unreachable = refl

  pub blocks_same : (n : ℕ) (bs : List Block) → BlocksFit n bs → map (block_renumbered new) (blocks_moved t bs) ≡ map (leading_to behind) (map (block_edited number operand) bs)
  blocks_same n [] h = refl
  blocks_same n (b ∷ bs) h =
      λ i. record { number = shifts b.number i; phis = phis_same b.phis i; lines = lines_same n b.lines h.0.lines i; end = end_same b.end i } ∷ blocks_same n bs h.1 i

  pub returns_same : (bs : List Block) → map (incoming_renumbered new) (return_edges t bs) ≡ return_entries (map (block_edited number operand) bs)
  returns_same [] = refl
  returns_same (b ∷ bs) = at b.end (returns_same bs)
    where
      at : (e : Terminator) → map (incoming_renumbered new) (return_edges t bs) ≡ return_entries (map (block_edited number operand) bs)
          → map (incoming_renumbered new) (return_edge t b.number e (return_edges t bs)) ≡ return_entry (number b.number) (end_edited number operand e) (return_entries (map (block_edited number operand) bs))
      at (Return (Some a)) rest = λ i. record { from = shifts b.number i; value = operands a.operand i } ∷ rest i
      at (Return None) rest = rest
      at (Jump target) rest = rest
      at (Branch condition if_true if_false) rest = rest
      at (Switch width value default cases) rest = rest
      at Unreachable rest = rest
