-- Names that stay leave trees and memory as they are, and names that are the same make the same of trees.
use Rattle.std.proofs.Common.{◌≡◌, ℕ, ◌<◌, ◌≤◌, Bool, true, false, List, [], ◌∷◌, map, option_map, Option, Some, None, ◌⊎◌, inl, inr, refl, sym, ap, ap₂, ◌∙◌, arith}
use Rattle.std.proofs.lemmas.Bool.{cases_lt}
use Rattle.ir_tree.specs.declared.block.Block.{Block}
use Rattle.ir_tree.specs.declared.block.Terminator.{Terminator}
use Rattle.ir_tree.specs.declared.block.Terminator.TheVariants.{Return, Jump, Branch, Switch, Unreachable}
use Rattle.ir_tree.specs.declared.function.Function.{Function}
use Rattle.ir_tree.specs.declared.instr.Incoming.{Incoming}
use Rattle.ir_tree.specs.declared.instr.Instr.{Instr}
use Rattle.ir_tree.specs.declared.instr.Instr.TheVariants.{Binary, Icmp, Cast, Select, Freeze, Alloca, Load, Store, Address, Call, Phi as StrayPhi}
use Rattle.ir_tree.specs.declared.instr.Line.{Line}
use Rattle.ir_tree.specs.declared.instr.Phi.{Phi}
use Rattle.ir_tree.specs.declared.operand.Argument.{Argument}
use Rattle.ir_tree.specs.declared.operand.Operand.{Operand}
use Rattle.ir_tree.specs.declared.operand.Operand.TheVariants.{Local, Number as Constant, Null, Poison as PoisonOf, Symbol as Named}
use Rattle.ir_tree.specs.declared.operand.Symbol.{Symbol}
use Rattle.ir_tree.specs.Edited.{argument_edited, incoming_edited, with_operands}
use Rattle.ir_meaning.specs.Frame.{AFunction, AHost, AVariable, SymbolKind, Missing}
use Rattle.ir_meaning.specs.Memory.{MemoryBlock}
use Rattle.ir_meaning.specs.Refine.{Naming, own_names}
use Rattle.ir_meaning.specs.declared.value.Base.TheVariants.{Cell, Code, Nowhere}
use Rattle.ir_meaning.specs.declared.value.Byte.{Byte}
use Rattle.ir_meaning.specs.declared.value.Byte.TheVariants.{Fragment, Plain, Spoilt, Unset}
use Rattle.ir_meaning.specs.Rename.{CodeUnder, block_under, byte_under, bytes_under, cell_under, cells_under, edge_under, end_under, kind_under, line_under, operand_under, phi_under}
use Rattle.ir_meaning.proofs.Names.Moved.{cell_slot, cell_variable}

-- ---- code under names that stay

abbrev pub Stays : Naming → Type 0
Stays t = (s : Symbol) → t.symbol s ≡ s

pub operand_stays : (t : Naming) → Stays t → (o : Operand) → operand_under t o ≡ o
operand_stays t h (Local x) = refl
operand_stays t h (Constant w bits) = refl
operand_stays t h Null = refl
operand_stays t h (PoisonOf reg) = refl
operand_stays t h (Named s offset) = ap (λ (x : Symbol). Named x offset) (h s)

argument_stays : (t : Naming) → Stays t → (a : Argument) → record { reg = a.reg; operand = operand_under t a.operand } ≡ a
argument_stays t h a = ap (λ (o : Operand). record { reg = a.reg; operand = o }) (operand_stays t h a.operand)

arguments_stay : (t : Naming) → Stays t → (args : List Argument) → map (argument_edited (operand_under t)) args ≡ args
arguments_stay t h [] = refl
arguments_stay t h (a ∷ more) =
    ap (λ (x : Argument). x ∷ map (argument_edited (operand_under t)) more) (argument_stays t h a) ∙ ap (λ (l : List Argument). a ∷ l) (arguments_stay t h more)

edges_stay : (t : Naming) → Stays t → (es : List Incoming) → map (edge_under t) es ≡ es
edges_stay t h [] = refl
edges_stay t h (e ∷ es) =
    ap (λ (o : Operand). record { from = e.from; value = o } ∷ map (edge_under t) es) (operand_stays t h e.value)
    ∙ ap (λ (l : List Incoming). e ∷ l) (edges_stay t h es)

instr_stays : (t : Naming) → Stays t → (i : Instr) → with_operands (operand_under t) i ≡ i
instr_stays t h (Binary op f w l r) = ap₂ (λ (x : Operand). λ (y : Operand). Binary op f w x y) (operand_stays t h l) (operand_stays t h r)
instr_stays t h (Icmp p reg l r) = ap₂ (λ (x : Operand). λ (y : Operand). Icmp p reg x y) (operand_stays t h l) (operand_stays t h r)
instr_stays t h (Cast op from o to) = ap (λ (x : Operand). Cast op from x to) (operand_stays t h o)
instr_stays t h (Select c l r) =
    ap (λ (x : Operand). Select x (record { reg = l.reg; operand = operand_under t l.operand }) (record { reg = r.reg; operand = operand_under t r.operand })) (operand_stays t h c)
    ∙ ap₂ (λ (x : Argument). λ (y : Argument). Select c x y) (argument_stays t h l) (argument_stays t h r)
instr_stays t h (Freeze w o) = ap (λ (x : Operand). Freeze w x) (operand_stays t h o)
instr_stays t h (Alloca shape align) = refl
instr_stays t h (Load reg o align) = ap (λ (x : Operand). Load reg x align) (operand_stays t h o)
instr_stays t h (Store reg o d align) = ap₂ (λ (x : Operand). λ (y : Operand). Store reg x y align) (operand_stays t h o) (operand_stays t h d)
instr_stays t h (Address inbounds shape o is) =
    ap₂ (λ (x : Operand). λ (l : List Argument). Address inbounds shape x l) (operand_stays t h o) (arguments_stay t h is)
instr_stays t h (Call result c args) = ap₂ (λ (x : Operand). λ (l : List Argument). Call result x l) (operand_stays t h c) (arguments_stay t h args)
instr_stays t h (StrayPhi reg es) = ap (λ (l : List Incoming). StrayPhi reg l) (edges_stay t h es)

lines_stay : (t : Naming) → Stays t → (ls : List Line) → map (line_under t) ls ≡ ls
lines_stay t h [] = refl
lines_stay t h (line ∷ ls) =
    ap (λ (i : Instr). record { local = line.local; instr = i } ∷ map (line_under t) ls) (instr_stays t h line.instr)
    ∙ ap (λ (l : List Line). line ∷ l) (lines_stay t h ls)

phis_stay : (t : Naming) → Stays t → (ps : List Phi) → map (phi_under t) ps ≡ ps
phis_stay t h [] = refl
phis_stay t h (x ∷ ps) =
    ap (λ (l : List Incoming). record { local = x.local; reg = x.reg; incoming = l } ∷ map (phi_under t) ps) (edges_stay t h x.incoming)
    ∙ ap (λ (l : List Phi). x ∷ l) (phis_stay t h ps)

end_stays : (t : Naming) → Stays t → (e : Terminator) → end_under t e ≡ e
end_stays t h (Return None) = refl
end_stays t h (Return (Some a)) = ap (λ (x : Argument). Return (Some x)) (argument_stays t h a)
end_stays t h (Jump target) = refl
end_stays t h (Branch c yes' no') = ap (λ (x : Operand). Branch x yes' no') (operand_stays t h c)
end_stays t h (Switch w o default cases) = ap (λ (x : Operand). Switch w x default cases) (operand_stays t h o)
end_stays t h Unreachable = refl

pub blocks_stay : (t : Naming) → Stays t → (bs : List Block) → map (block_under t) bs ≡ bs
blocks_stay t h [] = refl
blocks_stay t h (b ∷ bs) =
    ap (λ (l : List Phi). record { number = b.number; phis = l; lines = map (line_under t) b.lines; end = end_under t b.end } ∷ map (block_under t) bs)
    (phis_stay t h b.phis)
    ∙ ap (λ (l : List Line). record { number = b.number; phis = b.phis; lines = l; end = end_under t b.end } ∷ map (block_under t) bs) (lines_stay t h b.lines)
    ∙ ap (λ (e : Terminator). record { number = b.number; phis = b.phis; lines = b.lines; end = e } ∷ map (block_under t) bs) (end_stays t h b.end)
    ∙ ap (λ (l : List Block). b ∷ l) (blocks_stay t h bs)

pub code_stays : (t : Naming) → Stays t → (o : Option Function) → CodeUnder t o o
code_stays t h None = tt
code_stays t h (Some f) = record { params = refl; blocks = sym (blocks_stay t h f.blocks) }

-- ---- memory under names that stay

cell_stays : (n l : ℕ) → cell_under (own_names n) l ≡ l
cell_stays n l = by (cases_lt l n)
  where
    by : (l < n) ⊎ (n ≤ l) → cell_under (own_names n) l ≡ l
    by (inl lt) = cell_variable (own_names n) l lt
    by (inr le) = let x = cell_slot (own_names n) l le in omega (arith, x, le)

pub kind_stays : (n : ℕ) (k : SymbolKind) → kind_under (own_names n) k ≡ k
kind_stays n (AFunction params result) = refl
kind_stays n (AVariable number) = ap (λ (x : ℕ). AVariable x) (cell_stays n number)
kind_stays n (AHost host) = refl
kind_stays n Missing = refl

byte_stays : (n : ℕ) (b : Byte) → byte_under (own_names n) b ≡ b
byte_stays n Unset = refl
byte_stays n Spoilt = refl
byte_stays n (Plain k) = refl
byte_stays n (Fragment i Nowhere o) = refl
byte_stays n (Fragment i (Code s) o) = refl
byte_stays n (Fragment i (Cell l) o) = ap (λ (x : ℕ). Fragment i (Cell x) o) (cell_stays n l)

bytes_stay : (n : ℕ) (bs : List Byte) → bytes_under (own_names n) bs ≡ bs
bytes_stay n [] = refl
bytes_stay n (b ∷ bs) = ap₂ (λ (x : Byte). λ (l : List Byte). x ∷ l) (byte_stays n b) (bytes_stay n bs)

pub maybe_stays : (n : ℕ) (o : Option MemoryBlock) → option_map (cells_under (own_names n)) o ≡ o
maybe_stays n None = refl
maybe_stays n (Some b) =
    ap (λ (l : List Byte). Some (record { size = b.size; align = b.align; bytes = l; live = b.live; writable = b.writable })) (bytes_stay n b.bytes)

-- ---- code under names that are the same

module _ (t u : Naming) (h : (s : Symbol) → t.symbol s ≡ u.symbol s) where
  operand_same : (o : Operand) → operand_under t o ≡ operand_under u o
  operand_same (Local x) = refl
  operand_same (Constant w bits) = refl
  operand_same Null = refl
  operand_same (PoisonOf reg) = refl
  operand_same (Named s offset) = ap (λ (x : Symbol). Named x offset) (h s)

  operands_same : operand_under t ≡ operand_under u
  operands_same = λ i. λ (o : Operand). operand_same o i

  end_same : (e : Terminator) → end_under t e ≡ end_under u e
  end_same (Return None) = refl
  end_same (Return (Some a)) = ap (λ (o : Operand). Return (Some (record { reg = a.reg; operand = o }))) (operand_same a.operand)
  end_same (Jump target) = refl
  end_same (Branch c yes' no') = ap (λ (x : Operand). Branch x yes' no') (operand_same c)
  end_same (Switch w o default cases) = ap (λ (x : Operand). Switch w x default cases) (operand_same o)
  end_same Unreachable = refl

  pub blocks_same : (bs : List Block) → map (block_under t) bs ≡ map (block_under u) bs
  blocks_same bs = λ i. map (λ (b : Block). record {
    number = b.number;
    phis = map (λ (x : Phi). record { local = x.local; reg = x.reg; incoming = map (incoming_edited (λ n. n) (operands_same i)) x.incoming }) b.phis;
    lines = map (λ (l : Line). record { local = l.local; instr = with_operands (operands_same i) l.instr }) b.lines;
    end = end_same b.end i;
  }) bs

-- ---- truth values

pub clash : (b : Bool) → b ≡ false → b ≡ true → ⊥
clash true e f = cc e
clash false e f = cc f

pub not_true : (b : Bool) → (b ≡ true → ⊥) → b ≡ false
not_true true h = absurd (h refl)
not_true false h = refl
