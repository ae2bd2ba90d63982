-- The live part of a program under its final names: what the renaming back makes of it is the program's.
use Rattle.std.proofs.Common.{◌≡◌, ℕ, ◌<◌, Bool, true, false, ◌&&◌, List, [], ◌∷◌, map, option_map, Option, Some, None, slice_get, refl, sym, ap, ◌∙◌, subst, arith}
use Rattle.std.proofs.lemmas.Bool.{and_parts, and_from}
use Rattle.std.proofs.lemmas.Option.{slice_get_within}
use Rattle.ir_tree.specs.declared.block.Block.{Block}
use Rattle.ir_tree.specs.declared.block.Terminator.{Terminator}
use Rattle.ir_tree.specs.declared.block.Terminator.TheVariants.{Return, Jump, Branch, Switch, Unreachable}
use Rattle.ir_tree.specs.declared.function.Function.{Function}
use Rattle.ir_tree.specs.declared.instr.Incoming.{Incoming}
use Rattle.ir_tree.specs.declared.instr.Instr.{Instr}
use Rattle.ir_tree.specs.declared.instr.Instr.TheVariants.{Binary, Icmp, Cast, Select, Freeze, Alloca, Load, Store, Address, Call, Phi as StrayPhi}
use Rattle.ir_tree.specs.declared.instr.Line.{Line}
use Rattle.ir_tree.specs.declared.instr.Phi.{Phi}
use Rattle.ir_tree.specs.declared.operand.Argument.{Argument}
use Rattle.ir_tree.specs.declared.operand.Operand.{Operand}
use Rattle.ir_tree.specs.declared.operand.Operand.TheVariants.{Local, Number as Constant, Null, Poison as PoisonOf, Symbol as Named}
use Rattle.ir_tree.specs.declared.operand.Symbol.{Symbol}
use Rattle.ir_meaning.specs.Frame.{SymbolKind, AFunction, AVariable, AHost, Missing}
use Rattle.ir_meaning.specs.Memory.{MemoryBlock}
use Rattle.ir_meaning.specs.Program.{Program}
use Rattle.ir_meaning.specs.Refine.{Naming}
use Rattle.ir_tree.specs.Symbols.{symbol_eq}
use Rattle.ir_meaning.specs.declared.value.Base.TheVariants.{Nowhere, Code, Cell}
use Rattle.ir_meaning.specs.declared.value.Byte.{Byte}
use Rattle.ir_meaning.specs.declared.value.Byte.TheVariants.{Unset, Spoilt, Plain, Fragment}
use Rattle.ir_meaning.specs.Rename.{operand_under, line_under, edge_under, phi_under, argument_under, end_under, block_under, CodeUnder, cell_under, byte_under, bytes_under, cells_under, kind_under, OperandNames, ArgumentsName, InstrNames, LinesName, EdgesName, PhisName, EndNames, BlocksName, BytesName, IsKeptOf, IsThere, ByteReaches, BytesReach, IsEmitted, EmittedRefines}
use Rattle.ir_meaning.proofs.Names.Kept.{kept_from}
use Rattle.ir_meaning.proofs.Names.Moved.{cell_variable}
use Rattle.ir_tree.proofs.Symbols.{symbol_true, symbol_same}
use Rattle.ir_tree.specs.Edited.{argument_edited, with_operands}

-- ---- there and back

abbrev Back : (Symbol → Bool) → Naming → Naming → Type 0
Back live t u = (s : Symbol) → live s ≡ true → t.symbol (u.symbol s) ≡ s

operand_back : (live : Symbol → Bool) (t u : Naming) → Back live t u → (o : Operand) → OperandNames live o →
    operand_under t (operand_under u o) ≡ o
operand_back live t u h (Local x) k = refl
operand_back live t u h (Constant w bits) k = refl
operand_back live t u h Null k = refl
operand_back live t u h (PoisonOf reg) k = refl
operand_back live t u h (Named s offset) k = ap (λ (x : Symbol). Named x offset) (h s k)

arguments_back : (live : Symbol → Bool) (t u : Naming) → Back live t u → (args : List Argument) → ArgumentsName live args →
    map (argument_edited (operand_under t)) (map (argument_edited (operand_under u)) args) ≡ args
arguments_back live t u h [] k = refl
arguments_back live t u h (a ∷ more) k =
    ap (λ (o : Operand). record { reg = a.reg; operand = o } ∷ map (argument_edited (operand_under t)) (map (argument_edited (operand_under u)) more))
    (operand_back live t u h a.operand k.0) ∙ ap (λ (l : List Argument). a ∷ l) (arguments_back live t u h more k.1)

edges_back : (live : Symbol → Bool) (t u : Naming) → Back live t u → (es : List Incoming) → EdgesName live es →
    map (edge_under t) (map (edge_under u) es) ≡ es
edges_back live t u h [] k = refl
edges_back live t u h (e ∷ es) k =
    ap (λ (o : Operand). record { from = e.from; value = o } ∷ map (edge_under t) (map (edge_under u) es))
    (operand_back live t u h e.value k.0) ∙ ap (λ (l : List Incoming). e ∷ l) (edges_back live t u h es k.1)

instr_back : (live : Symbol → Bool) (t u : Naming) → Back live t u → (i : Instr) → InstrNames live i →
    with_operands (operand_under t) (with_operands (operand_under u) i) ≡ i
instr_back live t u h (Binary op f w l r) k = ap (λ (o : Operand). Binary op f w o (operand_under t (operand_under u r)))
    (operand_back live t u h l k.0) ∙ ap (λ (o : Operand). Binary op f w l o) (operand_back live t u h r k.1)
instr_back live t u h (Icmp p reg l r) k = ap (λ (o : Operand). Icmp p reg o (operand_under t (operand_under u r)))
    (operand_back live t u h l k.0) ∙ ap (λ (o : Operand). Icmp p reg l o) (operand_back live t u h r k.1)
instr_back live t u h (Cast op from o to) k = ap (λ (x : Operand). Cast op from x to) (operand_back live t u h o k)
instr_back live t u h (Select c l r) k =
    ap (λ (o : Operand). Select o (argument_under t (argument_under u l)) (argument_under t (argument_under u r)))
    (operand_back live t u h c k.0) ∙ ap (λ (o : Operand). Select c (record { reg = l.reg; operand = o })
    (argument_under t (argument_under u r))) (operand_back live t u h l.operand k.1)
    ∙ ap (λ (o : Operand). Select c l (record { reg = r.reg; operand = o })) (operand_back live t u h r.operand k.2)
instr_back live t u h (Freeze w o) k = ap (λ (x : Operand). Freeze w x) (operand_back live t u h o k)
instr_back live t u h (Alloca shape align) k = refl
instr_back live t u h (Load reg o align) k = ap (λ (x : Operand). Load reg x align) (operand_back live t u h o k)
instr_back live t u h (Store reg o d align) k = ap (λ (x : Operand). Store reg x (operand_under t (operand_under u d)) align)
    (operand_back live t u h o k.0) ∙ ap (λ (x : Operand). Store reg o x align) (operand_back live t u h d k.1)
instr_back live t u h (Address inbounds shape o is) k =
    ap (λ (x : Operand). Address inbounds shape x (map (argument_edited (operand_under t)) (map (argument_edited (operand_under u)) is)))
    (operand_back live t u h o k.0) ∙ ap (λ (l : List Argument). Address inbounds shape o l) (arguments_back live t u h is k.1)
instr_back live t u h (Call result c args) k =
    ap (λ (x : Operand). Call result x (map (argument_edited (operand_under t)) (map (argument_edited (operand_under u)) args)))
    (operand_back live t u h c k.0) ∙ ap (λ (l : List Argument). Call result c l) (arguments_back live t u h args k.1)
instr_back live t u h (StrayPhi reg es) k = ap (λ (l : List Incoming). StrayPhi reg l) (edges_back live t u h es k)

lines_back : (live : Symbol → Bool) (t u : Naming) → Back live t u → (ls : List Line) → LinesName live ls →
    map (line_under t) (map (line_under u) ls) ≡ ls
lines_back live t u h [] k = refl
lines_back live t u h (line ∷ ls) k =
    ap (λ (i : Instr). record { local = line.local; instr = i } ∷ map (line_under t) (map (line_under u) ls))
    (instr_back live t u h line.instr k.0) ∙ ap (λ (l : List Line). line ∷ l) (lines_back live t u h ls k.1)

phis_back : (live : Symbol → Bool) (t u : Naming) → Back live t u → (ps : List Phi) → PhisName live ps →
    map (phi_under t) (map (phi_under u) ps) ≡ ps
phis_back live t u h [] k = refl
phis_back live t u h (x ∷ ps) k =
    ap (λ (l : List Incoming). record { local = x.local; reg = x.reg; incoming = l } ∷ map (phi_under t) (map (phi_under u) ps))
    (edges_back live t u h x.incoming k.0) ∙ ap (λ (l : List Phi). x ∷ l) (phis_back live t u h ps k.1)

end_back : (live : Symbol → Bool) (t u : Naming) → Back live t u → (e : Terminator) → EndNames live e → end_under t (end_under u e) ≡ e
end_back live t u h (Return None) k = refl
end_back live t u h (Return (Some a)) k = ap (λ (o : Operand). Return (Some (record { reg = a.reg; operand = o })))
    (operand_back live t u h a.operand k)
end_back live t u h (Jump target) k = refl
end_back live t u h (Branch c yes' no') k = ap (λ (o : Operand). Branch o yes' no') (operand_back live t u h c k)
end_back live t u h (Switch w o default cases) k = ap (λ (x : Operand). Switch w x default cases) (operand_back live t u h o k)
end_back live t u h Unreachable k = refl

blocks_back : (live : Symbol → Bool) (t u : Naming) → Back live t u → (bs : List Block) → BlocksName live bs →
    map (block_under t) (map (block_under u) bs) ≡ bs
blocks_back live t u h [] k = refl
blocks_back live t u h (b ∷ bs) k =
    ap (λ (l : List Phi). record {
      number = b.number;
      phis = l;
      lines = map (line_under t) (map (line_under u) b.lines);
      end = end_under t (end_under u b.end);
    } ∷ map (block_under t) (map (block_under u) bs)) (phis_back live t u h b.phis k.0)
    ∙ ap (λ (l : List Line). record { number = b.number; phis = b.phis; lines = l; end = end_under t (end_under u b.end) } ∷ map
    (block_under t) (map (block_under u) bs)) (lines_back live t u h b.lines k.1)
    ∙ ap (λ (e : Terminator). record { number = b.number; phis = b.phis; lines = b.lines; end = e } ∷ map (block_under t)
    (map (block_under u) bs)) (end_back live t u h b.end k.2)
    ∙ ap (λ (l : List Block). b ∷ l) (blocks_back live t u h bs k.3)

-- ---- what names live symbols names kept ones under the final names

abbrev Through : (Symbol → Bool) → (Symbol → Bool) → Naming → Type 0
Through live keeps u = (s : Symbol) → live s ≡ true → keeps (u.symbol s) ≡ true

operand_through : (live keeps : Symbol → Bool) (u : Naming) → Through live keeps u → (o : Operand) → OperandNames live o →
    OperandNames keeps (operand_under u o)
operand_through live keeps u h (Local x) k = tt
operand_through live keeps u h (Constant w bits) k = tt
operand_through live keeps u h Null k = tt
operand_through live keeps u h (PoisonOf reg) k = tt
operand_through live keeps u h (Named s offset) k = h s k

arguments_through : (live keeps : Symbol → Bool) (u : Naming) → Through live keeps u → (args : List Argument) →
    ArgumentsName live args → ArgumentsName keeps (map (argument_edited (operand_under u)) args)
arguments_through live keeps u h [] k = tt
arguments_through live keeps u h (a ∷ more) k = (operand_through live keeps u h a.operand k.0, arguments_through live keeps u h more k.1)

edges_through : (live keeps : Symbol → Bool) (u : Naming) → Through live keeps u → (es : List Incoming) → EdgesName live es →
    EdgesName keeps (map (edge_under u) es)
edges_through live keeps u h [] k = tt
edges_through live keeps u h (e ∷ es) k = (operand_through live keeps u h e.value k.0, edges_through live keeps u h es k.1)

instr_through : (live keeps : Symbol → Bool) (u : Naming) → Through live keeps u → (i : Instr) → InstrNames live i →
    InstrNames keeps (with_operands (operand_under u) i)
instr_through live keeps u h (Binary op f w l r) k = (operand_through live keeps u h l k.0, operand_through live keeps u h r k.1)
instr_through live keeps u h (Icmp p reg l r) k = (operand_through live keeps u h l k.0, operand_through live keeps u h r k.1)
instr_through live keeps u h (Cast op from o to) k = operand_through live keeps u h o k
instr_through live keeps u h (Select c l r) k =
    (operand_through live keeps u h c k.0, operand_through live keeps u h l.operand k.1, operand_through live keeps u h r.operand k.2)
instr_through live keeps u h (Freeze w o) k = operand_through live keeps u h o k
instr_through live keeps u h (Alloca shape align) k = tt
instr_through live keeps u h (Load reg o align) k = operand_through live keeps u h o k
instr_through live keeps u h (Store reg o d align) k = (operand_through live keeps u h o k.0, operand_through live keeps u h d k.1)
instr_through live keeps u h (Address inbounds shape o is) k =
    (operand_through live keeps u h o k.0, arguments_through live keeps u h is k.1)
instr_through live keeps u h (Call result c args) k = (operand_through live keeps u h c k.0, arguments_through live keeps u h args k.1)
instr_through live keeps u h (StrayPhi reg es) k = edges_through live keeps u h es k

lines_through : (live keeps : Symbol → Bool) (u : Naming) → Through live keeps u → (ls : List Line) → LinesName live ls →
    LinesName keeps (map (line_under u) ls)
lines_through live keeps u h [] k = tt
lines_through live keeps u h (line ∷ ls) k = (instr_through live keeps u h line.instr k.0, lines_through live keeps u h ls k.1)

phis_through : (live keeps : Symbol → Bool) (u : Naming) → Through live keeps u → (ps : List Phi) → PhisName live ps →
    PhisName keeps (map (phi_under u) ps)
phis_through live keeps u h [] k = tt
phis_through live keeps u h (x ∷ ps) k = (edges_through live keeps u h x.incoming k.0, phis_through live keeps u h ps k.1)

end_through : (live keeps : Symbol → Bool) (u : Naming) → Through live keeps u → (e : Terminator) → EndNames live e →
    EndNames keeps (end_under u e)
end_through live keeps u h (Return None) k = tt
end_through live keeps u h (Return (Some a)) k = operand_through live keeps u h a.operand k
end_through live keeps u h (Jump target) k = tt
end_through live keeps u h (Branch c yes' no') k = operand_through live keeps u h c k
end_through live keeps u h (Switch w o default cases) k = operand_through live keeps u h o k
end_through live keeps u h Unreachable k = tt

blocks_through : (live keeps : Symbol → Bool) (u : Naming) → Through live keeps u → (bs : List Block) → BlocksName live bs →
    BlocksName keeps (map (block_under u) bs)
blocks_through live keeps u h [] k = tt
blocks_through live keeps u h (b ∷ bs) k = (
  phis_through live keeps u h b.phis k.0,
  lines_through live keeps u h b.lines k.1,
  end_through live keeps u h b.end k.2,
  blocks_through live keeps u h bs k.3,
)

bytes_through : (t u : Naming) (live keeps : Symbol → Bool) → Through live keeps u → (bs : List Byte) → BytesReach t live bs →
    BytesName keeps (bytes_under u bs)
bytes_through t u live keeps h [] k = tt
bytes_through t u live keeps h (Unset ∷ bs) k = (tt, bytes_through t u live keeps h bs k.1)
bytes_through t u live keeps h (Spoilt ∷ bs) k = (tt, bytes_through t u live keeps h bs k.1)
bytes_through t u live keeps h (Plain n ∷ bs) k = (tt, bytes_through t u live keeps h bs k.1)
bytes_through t u live keeps h (Fragment i Nowhere o ∷ bs) k = (tt, bytes_through t u live keeps h bs k.1)
bytes_through t u live keeps h (Fragment i (Cell r) o ∷ bs) k = (tt, bytes_through t u live keeps h bs k.1)
bytes_through t u live keeps h (Fragment i (Code s) o ∷ bs) k = (h s k.0, bytes_through t u live keeps h bs k.1)

-- ---- memory, there and back

cell_back : (t u : Naming) → u.count ≡ t.count' → ((l : ℕ) → l < t.count → t.variable l < t.count') →
    ((l : ℕ) → l < t.count → u.variable (t.variable l) ≡ l) → (r : ℕ) → IsThere t r → cell_under t (cell_under u r) ≡ r
cell_back t u c w b r k =
    let lt = w k.0 k.1 in
    let e : cell_under u r ≡ k.0 = cell_variable u r (omega (arith, lt, c, k.2)) ∙ ap u.variable (sym k.2) ∙ b k.0 k.1 in
    ap (cell_under t) e ∙ cell_variable t k.0 k.1 ∙ k.2

byte_back : (t u : Naming) (live : Symbol → Bool) → Back live t u → u.count ≡ t.count' →
    ((l : ℕ) → l < t.count → t.variable l < t.count') → ((l : ℕ) → l < t.count → u.variable (t.variable l) ≡ l) → (b : Byte) →
    ByteReaches t live b → byte_under t (byte_under u b) ≡ b
byte_back t u live h c w v Unset k = refl
byte_back t u live h c w v Spoilt k = refl
byte_back t u live h c w v (Plain n) k = refl
byte_back t u live h c w v (Fragment i Nowhere o) k = refl
byte_back t u live h c w v (Fragment i (Code s) o) k = ap (λ (x : Symbol). Fragment i (Code x) o) (h s k)
byte_back t u live h c w v (Fragment i (Cell r) o) k = ap (λ (x : ℕ). Fragment i (Cell x) o) (cell_back t u c w v r k)

bytes_back : (t u : Naming) (live : Symbol → Bool) → Back live t u → u.count ≡ t.count' →
    ((l : ℕ) → l < t.count → t.variable l < t.count') → ((l : ℕ) → l < t.count → u.variable (t.variable l) ≡ l) →
    (bs : List Byte) → BytesReach t live bs → bytes_under t (bytes_under u bs) ≡ bs
bytes_back t u live h c w v [] k = refl
bytes_back t u live h c w v (b ∷ bs) k =
    ap (λ (x : Byte). x ∷ bytes_under t (bytes_under u bs)) (byte_back t u live h c w v b k.0)
    ∙ ap (λ (l : List Byte). b ∷ l) (bytes_back t u live h c w v bs k.1)

-- ---- the program with some of the other's symbols

-- the final names of live symbols
abbrev pub finals : Naming → Naming → (Symbol → Bool) → Symbol → Bool
finals t final live u = live (t.symbol u) && symbol_eq (final.symbol (t.symbol u)) u

pub emitted_kept : (t final : Naming) (live : Symbol → Bool) (most : ℕ) (q p : Program) → IsEmitted t final live most q p →
    IsKeptOf t (finals t final live) most q p
emitted_kept t final live most q p r = record {
  count = r.count;
  count' = r.count';
  within = r.within;
  one_to_one = λ l m a b e. sym (r.variable_back l a) ∙ ap final.variable e ∙ r.variable_back m b;
  symbols = λ s u a b e. sym (is_final s a) ∙ ap final.symbol e ∙ is_final u b;
  short = λ s a. r.short (t.symbol s) (is_live s a);
  longer = r.longer;
  kinds = λ s a. kind_at s a;
  code = λ s a. code_at s a;
  gone = gone;
  closed = λ s f e. closed_by s f e (keeps s) refl;
  opening = λ l lt. opening_at l lt (slice_get p.opening (t.variable l)) refl;
  pointers = λ l b e. pointers_at l b e (omega (arith, slice_get_within q.opening l b e, r.count))
      (slice_get p.opening (t.variable l)) refl;
}
  where
    keeps : Symbol → Bool
    keeps = finals t final live

    is_live : (u : Symbol) → keeps u ≡ true → live (t.symbol u) ≡ true
    is_live u k = (and_parts (live (t.symbol u)) (symbol_eq (final.symbol (t.symbol u)) u) k).0

    is_final : (u : Symbol) → keeps u ≡ true → final.symbol (t.symbol u) ≡ u
    is_final u k = symbol_true (final.symbol (t.symbol u)) u (and_parts (live (t.symbol u)) (symbol_eq (final.symbol (t.symbol u)) u) k).1

    through : Through live keeps final
    through s k =
        let e = r.symbol_back s k in
        and_from (live (t.symbol (final.symbol s))) (symbol_eq (final.symbol (t.symbol (final.symbol s))) (final.symbol s))
        (ap live e ∙ k) (symbol_same (final.symbol (t.symbol (final.symbol s))) (final.symbol s) (ap final.symbol e))

    counts : final.count ≡ t.count'
    counts = r.final_count ∙ sym r.count'

    kind_back : (k : SymbolKind) → ((n : ℕ) → k ≡ AVariable n → IsThere t n) → k ≡ kind_under t (kind_under final k)
    kind_back (AFunction params result) h = refl
    kind_back (AVariable n) h = ap (λ (x : ℕ). AVariable x) (sym (cell_back t final counts r.within r.variable_back n (h n refl)))
    kind_back (AHost host) h = refl
    kind_back Missing h = refl

    kind_at : (u : Symbol) → keeps u ≡ true → p.signature.kind (t.symbol u) ≡ kind_under t (q.signature.kind u)
    kind_at u k =
        let s = t.symbol u in
        kind_back (p.signature.kind s) (λ n e. r.numbers s n (is_live u k) e)
        ∙ ap (kind_under t) (sym (r.kinds s (is_live u k)) ∙ ap q.signature.kind (is_final u k))

    code_back : (o o' : Option Function) → ((f : Function) → o ≡ Some f → BlocksName live f.blocks) → CodeUnder final o o' →
        CodeUnder t o' o
    code_back None None h c = tt
    code_back (Some f) (Some g) h c = record {
      params = sym c.params;
      blocks = sym (blocks_back live t final r.symbol_back f.blocks (h f refl)) ∙ sym (ap (map (block_under t)) c.blocks);
    }
    code_back None (Some g) h c = absurd c
    code_back (Some f) None h c = absurd c

    code_at : (u : Symbol) → keeps u ≡ true → CodeUnder t (q.code u) (p.code (t.symbol u))
    code_at u k =
        let s = t.symbol u in
        let x = code_back (p.code s) (q.code (final.symbol s)) (λ f e. r.closed s f (is_live u k) e) (r.code s (is_live u k)) in
        subst (λ (y : Symbol). CodeUnder t (q.code y) (p.code s)) (is_final u k) x

    gone : (u : Symbol) → keeps u ≡ false → (q.signature.kind u ≡ Missing) × (q.code u ≡ None)
    gone u k = r.only u (λ s live' e. not_both (keeps u) k (ap keeps (sym e) ∙ through s live'))
      where
        not_both : (b : Bool) → b ≡ false → b ≡ true → ⊥
        not_both true e f = cc e
        not_both false e f = cc f

    names_of_code : (o o' : Option Function) → ((f : Function) → o ≡ Some f → BlocksName live f.blocks) → CodeUnder final o o' →
        (g : Function) → o' ≡ Some g → BlocksName keeps g.blocks
    names_of_code (Some f) (Some g') h c g e =
        let is : g' ≡ g = cc e in
        let x = subst (λ (bs : List Block). BlocksName keeps bs) (sym c.blocks)
        (blocks_through live keeps final through f.blocks (h f refl)) in
        subst (λ (y : Function). BlocksName keeps y.blocks) is x
    names_of_code None None h c g e = absurd (cc e)
    names_of_code None (Some g') h c g e = absurd c
    names_of_code (Some f) None h c g e = absurd c

    closed_by : (u : Symbol) (g : Function) → q.code u ≡ Some g → (b : Bool) → keeps u ≡ b → BlocksName keeps g.blocks
    closed_by u g e true k =
        let s = t.symbol u in
        names_of_code (p.code s) (q.code (final.symbol s)) (λ f x. r.closed s f (is_live u k) x) (r.code s (is_live u k)) g
        (ap q.code (is_final u k) ∙ e)
    closed_by u g e false k = let x = (gone u k).1 in absurd (cc (e, x))

    block_back : (b : MemoryBlock) → BytesReach t live b.bytes → cells_under t (cells_under final b) ≡ b
    block_back b k = ap (λ (l : List Byte). record {
      size = b.size;
      align = b.align;
      bytes = l;
      live = b.live;
      writable = b.writable;
    }) (bytes_back t final live r.symbol_back counts r.within r.variable_back b.bytes k)

    opening_at : (l : ℕ) → l < t.count → (o : Option MemoryBlock) → slice_get p.opening (t.variable l) ≡ o →
        slice_get p.opening (t.variable l) ≡ option_map (cells_under t) (slice_get q.opening l)
    opening_at l lt None e = e ∙ sym (ap (option_map (cells_under t)) (r.opening l lt ∙ ap (option_map (cells_under final)) e))
    opening_at l lt (Some b) e =
        let back = ap (λ (x : MemoryBlock). Some x) (block_back b (r.pointers l b lt e)) in
        e ∙ sym back ∙ sym (ap (option_map (cells_under t)) (r.opening l lt ∙ ap (option_map (cells_under final)) e))

    pointers_at : (l : ℕ) (b : MemoryBlock) → slice_get q.opening l ≡ Some b → l < t.count → (o : Option MemoryBlock) →
        slice_get p.opening (t.variable l) ≡ o → BytesName keeps b.bytes
    pointers_at l b e lt None x =
        let y : slice_get q.opening l ≡ None = r.opening l lt ∙ ap (option_map (cells_under final)) x in
        absurd (cc (e, y))
    pointers_at l b e lt (Some c) x =
        let y : slice_get q.opening l ≡ Some (cells_under final c) = r.opening l lt ∙ ap (option_map (cells_under final)) x in
        let is : cells_under final c ≡ b = cc (e, y) in
        subst (λ (z : MemoryBlock). BytesName keeps z.bytes) is (bytes_through t final live keeps through c.bytes (r.pointers l c lt x))

pub emitted_all : EmittedRefines
emitted_all t final live most q p r IsRoot roots u is arguments =
    let s = is.0 in
    let k = roots s is.1 in
    let e = r.symbol_back s k in
    let kept : finals t final live (final.symbol s) ≡ true =
    and_from (live (t.symbol (final.symbol s))) (symbol_eq (final.symbol (t.symbol (final.symbol s))) (final.symbol s))
    (ap live e ∙ k) (symbol_same (final.symbol (t.symbol (final.symbol s))) (final.symbol s) (ap final.symbol e)) in
    kept_from t (finals t final live) most q p (emitted_kept t final live most q p r) u
    (ap (finals t final live) (sym is.2) ∙ kept) arguments
