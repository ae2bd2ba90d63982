-- A program with some of another's symbols under other names refines it: the symbols that are not kept get names that the other hasn't.
use Rattle.std.proofs.Common.{◌≡◌, ℕ, zero, suc, ◌≤◌, Bool, true, false, if◌then◌else◌, List, [], ◌∷◌, ◌++◌, length, replicate, map, option_map, Option, Some, None, slice_get, inl, inr, refl, sym, ap, ◌∙◌, subst, arith, append-nil}
use Rattle.ir_tree.specs.declared.block.Block.{Block}
use Rattle.ir_tree.specs.declared.block.Terminator.{Terminator}
use Rattle.ir_tree.specs.declared.block.Terminator.TheVariants.{Return, Jump, Branch, Switch, Unreachable}
use Rattle.ir_tree.specs.declared.function.Function.{Function}
use Rattle.ir_tree.specs.declared.instr.Incoming.{Incoming}
use Rattle.ir_tree.specs.declared.instr.Instr.{Instr}
use Rattle.ir_tree.specs.declared.instr.Instr.TheVariants.{Binary, Icmp, Cast, Select, Freeze, Alloca, Load, Store, Address, Call, Phi as StrayPhi}
use Rattle.ir_tree.specs.declared.instr.Line.{Line}
use Rattle.ir_tree.specs.declared.instr.Phi.{Phi}
use Rattle.ir_tree.specs.declared.operand.Argument.{Argument}
use Rattle.ir_tree.specs.declared.operand.Operand.{Operand}
use Rattle.ir_tree.specs.declared.operand.Operand.TheVariants.{Local, Number as Constant, Null, Poison as PoisonOf, Symbol as Named}
use Rattle.ir_tree.specs.declared.operand.Symbol.{Symbol}
use Rattle.ir_tree.specs.Edited.{argument_edited, with_operands}
use Rattle.ir_meaning.specs.Act.{enter}
use Rattle.ir_meaning.specs.Frame.{Missing}
use Rattle.ir_meaning.specs.Memory.{MemoryBlock}
use Rattle.ir_meaning.specs.Program.{Program, State}
use Rattle.ir_meaning.specs.Refine.{Naming, MayStandFor, AnswerMayStandFor, SameEnding, Matched, RefinesFrom}
use Rattle.ir_meaning.specs.Program.{Failure}
use Rattle.ir_meaning.specs.Run.{Ending, Running, Returned, Failed, Ran, run, start_of, start}
use Rattle.ir_meaning.specs.declared.value.Base.TheVariants.{Nowhere, Code, Cell}
use Rattle.ir_meaning.specs.declared.value.Byte.{Byte}
use Rattle.ir_meaning.specs.declared.value.Byte.TheVariants.{Unset, Spoilt, Plain, Fragment}
use Rattle.ir_meaning.specs.declared.value.Value.{Value}
use Rattle.ir_meaning.specs.declared.value.Value.TheVariants.{Number, Pointer, Poison}
use Rattle.ir_meaning.specs.Rename.{operand_under, line_under, edge_under, phi_under, argument_under, end_under, block_under, FunctionUnder, CodeUnder, byte_under, bytes_under, cells_under, kind_under, IsRenamed, OperandNames, ArgumentsName, InstrNames, LinesName, EdgesName, PhisName, EndNames, BlocksName, ByteNames, BytesName, IsKeptOf, KeptRefines}
use Rattle.ir_meaning.proofs.Names.Moved.{value_under}
use Rattle.ir_meaning.proofs.Names.Renamed.{maybe_value, EndingUnder, RanUnder, cell_stands, ran_from}

-- ---- names that are kept are the same under both

-- the two give kept symbols the same names
abbrev Alike : (Symbol → Bool) → Naming → Naming → Type 0
Alike keeps t u = (s : Symbol) → keeps s ≡ true → u.symbol s ≡ t.symbol s

operand_alike : (keeps : Symbol → Bool) (t u : Naming) → Alike keeps t u → (o : Operand) → OperandNames keeps o →
    operand_under u o ≡ operand_under t o
operand_alike keeps t u h (Local x) k = refl
operand_alike keeps t u h (Constant w bits) k = refl
operand_alike keeps t u h Null k = refl
operand_alike keeps t u h (PoisonOf reg) k = refl
operand_alike keeps t u h (Named s offset) k = ap (λ (x : Symbol). Named x offset) (h s k)

arguments_alike : (keeps : Symbol → Bool) (t u : Naming) → Alike keeps t u → (args : List Argument) → ArgumentsName keeps args →
    map (argument_edited (operand_under u)) args ≡ map (argument_edited (operand_under t)) args
arguments_alike keeps t u h [] k = refl
arguments_alike keeps t u h (a ∷ more) k =
    ap (λ (o : Operand). record { reg = a.reg; operand = o } ∷ map (argument_edited (operand_under u)) more) (operand_alike keeps t u h a.operand k.0)
    ∙ ap (λ (l : List Argument). record { reg = a.reg; operand = operand_under t a.operand } ∷ l) (arguments_alike keeps t u h more k.1)

edges_alike : (keeps : Symbol → Bool) (t u : Naming) → Alike keeps t u → (es : List Incoming) → EdgesName keeps es →
    map (edge_under u) es ≡ map (edge_under t) es
edges_alike keeps t u h [] k = refl
edges_alike keeps t u h (e ∷ es) k =
    ap (λ (o : Operand). record { from = e.from; value = o } ∷ map (edge_under u) es) (operand_alike keeps t u h e.value k.0)
    ∙ ap (λ (l : List Incoming). edge_under t e ∷ l) (edges_alike keeps t u h es k.1)

instr_alike : (keeps : Symbol → Bool) (t u : Naming) → Alike keeps t u → (i : Instr) → InstrNames keeps i →
    with_operands (operand_under u) i ≡ with_operands (operand_under t) i
instr_alike keeps t u h (Binary op f w l r) k =
    ap (λ (o : Operand). Binary op f w o (operand_under u r)) (operand_alike keeps t u h l k.0)
    ∙ ap (λ (o : Operand). Binary op f w (operand_under t l) o) (operand_alike keeps t u h r k.1)
instr_alike keeps t u h (Icmp p reg l r) k = ap (λ (o : Operand). Icmp p reg o (operand_under u r))
    (operand_alike keeps t u h l k.0) ∙ ap (λ (o : Operand). Icmp p reg (operand_under t l) o) (operand_alike keeps t u h r k.1)
instr_alike keeps t u h (Cast op from o to) k = ap (λ (x : Operand). Cast op from x to) (operand_alike keeps t u h o k)
instr_alike keeps t u h (Select c l r) k =
    ap (λ (o : Operand). Select o (argument_under u l) (argument_under u r)) (operand_alike keeps t u h c k.0)
    ∙ ap (λ (o : Operand). Select (operand_under t c) (record { reg = l.reg; operand = o }) (argument_under u r))
    (operand_alike keeps t u h l.operand k.1) ∙ ap (λ (o : Operand). Select (operand_under t c) (argument_under t l)
    (record { reg = r.reg; operand = o })) (operand_alike keeps t u h r.operand k.2)
instr_alike keeps t u h (Freeze w o) k = ap (λ (x : Operand). Freeze w x) (operand_alike keeps t u h o k)
instr_alike keeps t u h (Alloca shape align) k = refl
instr_alike keeps t u h (Load reg o align) k = ap (λ (x : Operand). Load reg x align) (operand_alike keeps t u h o k)
instr_alike keeps t u h (Store reg o d align) k =
    ap (λ (x : Operand). Store reg x (operand_under u d) align) (operand_alike keeps t u h o k.0)
    ∙ ap (λ (x : Operand). Store reg (operand_under t o) x align) (operand_alike keeps t u h d k.1)
instr_alike keeps t u h (Address inbounds shape o is) k =
    ap (λ (x : Operand). Address inbounds shape x (map (argument_edited (operand_under u)) is)) (operand_alike keeps t u h o k.0)
    ∙ ap (λ (l : List Argument). Address inbounds shape (operand_under t o) l) (arguments_alike keeps t u h is k.1)
instr_alike keeps t u h (Call result c args) k =
    ap (λ (x : Operand). Call result x (map (argument_edited (operand_under u)) args)) (operand_alike keeps t u h c k.0)
    ∙ ap (λ (l : List Argument). Call result (operand_under t c) l) (arguments_alike keeps t u h args k.1)
instr_alike keeps t u h (StrayPhi reg es) k = ap (λ (l : List Incoming). StrayPhi reg l) (edges_alike keeps t u h es k)

lines_alike : (keeps : Symbol → Bool) (t u : Naming) → Alike keeps t u → (ls : List Line) → LinesName keeps ls →
    map (line_under u) ls ≡ map (line_under t) ls
lines_alike keeps t u h [] k = refl
lines_alike keeps t u h (line ∷ ls) k =
    ap (λ (i : Instr). record { local = line.local; instr = i } ∷ map (line_under u) ls)
    (instr_alike keeps t u h line.instr k.0) ∙ ap (λ (l : List Line). line_under t line ∷ l) (lines_alike keeps t u h ls k.1)

phis_alike : (keeps : Symbol → Bool) (t u : Naming) → Alike keeps t u → (ps : List Phi) → PhisName keeps ps →
    map (phi_under u) ps ≡ map (phi_under t) ps
phis_alike keeps t u h [] k = refl
phis_alike keeps t u h (x ∷ ps) k =
    ap (λ (l : List Incoming). record { local = x.local; reg = x.reg; incoming = l } ∷ map (phi_under u) ps)
    (edges_alike keeps t u h x.incoming k.0) ∙ ap (λ (l : List Phi). phi_under t x ∷ l) (phis_alike keeps t u h ps k.1)

end_alike : (keeps : Symbol → Bool) (t u : Naming) → Alike keeps t u → (e : Terminator) → EndNames keeps e → end_under u e ≡ end_under t e
end_alike keeps t u h (Return None) k = refl
end_alike keeps t u h (Return (Some a)) k = ap (λ (o : Operand). Return (Some (record { reg = a.reg; operand = o })))
    (operand_alike keeps t u h a.operand k)
end_alike keeps t u h (Jump target) k = refl
end_alike keeps t u h (Branch c yes' no') k = ap (λ (o : Operand). Branch o yes' no') (operand_alike keeps t u h c k)
end_alike keeps t u h (Switch w o default cases) k = ap (λ (x : Operand). Switch w x default cases) (operand_alike keeps t u h o k)
end_alike keeps t u h Unreachable k = refl

blocks_alike : (keeps : Symbol → Bool) (t u : Naming) → Alike keeps t u → (bs : List Block) → BlocksName keeps bs →
    map (block_under u) bs ≡ map (block_under t) bs
blocks_alike keeps t u h [] k = refl
blocks_alike keeps t u h (b ∷ bs) k =
    ap (λ (l : List Phi). record {
      number = b.number;
      phis = l;
      lines = map (line_under u) b.lines;
      end = end_under u b.end;
    } ∷ map (block_under u) bs) (phis_alike keeps t u h b.phis k.0)
    ∙ ap (λ (l : List Line). record {
      number = b.number;
      phis = map (phi_under t) b.phis;
      lines = l;
      end = end_under u b.end;
    } ∷ map (block_under u) bs) (lines_alike keeps t u h b.lines k.1)
    ∙ ap (λ (e : Terminator). record {
      number = b.number;
      phis = map (phi_under t) b.phis;
      lines = map (line_under t) b.lines;
      end = e;
    } ∷ map (block_under u) bs) (end_alike keeps t u h b.end k.2)
    ∙ ap (λ (l : List Block). block_under t b ∷ l) (blocks_alike keeps t u h bs k.3)

-- ---- names for the symbols that are not kept

-- a name that the program hasn't
abbrev spare : ℕ → ℕ → Symbol → Symbol
spare most mark s = record { home = s.home; name = replicate (suc most) mark ++ s.name }

-- kept symbols have their names, others spare ones
abbrev filled : Naming → (Symbol → Bool) → ℕ → ℕ → Naming
filled t keeps most mark = record {
  symbol = λ s. if keeps s then t.symbol s else spare most mark s;
  variable = t.variable;
  count = t.count;
  count' = t.count';
}

front_long : (k mark : ℕ) (n : List ℕ) → k ≤ length (replicate k mark ++ n)
front_long zero mark n = omega arith
front_long (suc k) mark n = let x = front_long k mark n in omega (arith, x)

front_off : (k mark : ℕ) (m n : List ℕ) → replicate k mark ++ m ≡ replicate k mark ++ n → m ≡ n
front_off zero mark m n e = e
front_off (suc k) mark m n e = let x : replicate k mark ++ m ≡ replicate k mark ++ n = cc e in front_off k mark m n x

spare_one : (most mark : ℕ) (s u : Symbol) → spare most mark s ≡ spare most mark u → s ≡ u
spare_one most mark s u e =
    let h : s.home ≡ u.home = ap (λ (x : Symbol). x.home) e in
    let n : s.name ≡ u.name = front_off (suc most) mark s.name u.name (ap (λ (x : Symbol). x.name) e) in
    ap (λ (x : Option ℕ). record { home = x; name = s.name }) h ∙ ap (λ (x : List ℕ). record { home = u.home; name = x }) n

filled_kept : (t : Naming) (keeps : Symbol → Bool) (most mark : ℕ) → Alike keeps t (filled t keeps most mark)
filled_kept t keeps most mark s k = ap (λ (b : Bool). if b then t.symbol s else spare most mark s) k

filled_other : (t : Naming) (keeps : Symbol → Bool) (most mark : ℕ) (s : Symbol) → keeps s ≡ false →
    (filled t keeps most mark).symbol s ≡ spare most mark s
filled_other t keeps most mark s k = ap (λ (b : Bool). if b then t.symbol s else spare most mark s) k

function_alike : (keeps : Symbol → Bool) (t u : Naming) → Alike keeps t u → (f g : Function) → BlocksName keeps f.blocks →
    FunctionUnder t f g → FunctionUnder u f g
function_alike keeps t u h f g k c = record { params = c.params; blocks = c.blocks ∙ sym (blocks_alike keeps t u h f.blocks k) }

code_alike : (keeps : Symbol → Bool) (t u : Naming) → Alike keeps t u → (o o' : Option Function) →
    ((f : Function) → o ≡ Some f → BlocksName keeps f.blocks) → CodeUnder t o o' → CodeUnder u o o'
code_alike keeps t u h None None k c = tt
code_alike keeps t u h (Some f) (Some g) k c = function_alike keeps t u h f g (k f refl) c
code_alike keeps t u h None (Some g) k c = absurd c
code_alike keeps t u h (Some f) None k c = absurd c

byte_alike : (t : Naming) (keeps : Symbol → Bool) (most mark : ℕ) (b : Byte) → ByteNames keeps b →
    byte_under (filled t keeps most mark) b ≡ byte_under t b
byte_alike t keeps most mark Unset k = refl
byte_alike t keeps most mark Spoilt k = refl
byte_alike t keeps most mark (Plain n) k = refl
byte_alike t keeps most mark (Fragment i Nowhere o) k = refl
byte_alike t keeps most mark (Fragment i (Cell l) o) k = refl
byte_alike t keeps most mark (Fragment i (Code s) o) k = ap (λ (x : Symbol). Fragment i (Code x) o) (filled_kept t keeps most mark s k)

bytes_alike : (t : Naming) (keeps : Symbol → Bool) (most mark : ℕ) (bs : List Byte) → BytesName keeps bs →
    bytes_under (filled t keeps most mark) bs ≡ bytes_under t bs
bytes_alike t keeps most mark [] k = refl
bytes_alike t keeps most mark (b ∷ bs) k =
    ap (λ (x : Byte). x ∷ bytes_under (filled t keeps most mark) bs) (byte_alike t keeps most mark b k.0)
    ∙ ap (λ (l : List Byte). byte_under t b ∷ l) (bytes_alike t keeps most mark bs k.1)

maybe_alike : (t : Naming) (keeps : Symbol → Bool) (most mark : ℕ) (o : Option MemoryBlock) →
    ((b : MemoryBlock) → o ≡ Some b → BytesName keeps b.bytes) →
    option_map (cells_under (filled t keeps most mark)) o ≡ option_map (cells_under t) o
maybe_alike t keeps most mark None k = refl
maybe_alike t keeps most mark (Some b) k =
    ap (λ (l : List Byte). Some (record { size = b.size; align = b.align; bytes = l; live = b.live; writable = b.writable }))
    (bytes_alike t keeps most mark b.bytes (k b refl))

-- with spare names it is the whole program under other names
pub filled_right : (t : Naming) (keeps : Symbol → Bool) (most mark : ℕ) (q p : Program) → IsKeptOf t keeps most q p →
    IsRenamed (filled t keeps most mark) q p
filled_right t keeps most mark q p r = record {
  count = r.count;
  count' = r.count';
  symbols = λ s x e. one s x (keeps s) (keeps x) refl refl e;
  within = r.within;
  one_to_one = r.one_to_one;
  kinds = λ s. kind_by s (keeps s) refl;
  code = λ s. code_by s (keeps s) refl;
  opening = λ l lt. r.opening l lt ∙ sym (maybe_alike t keeps most mark (slice_get q.opening l) (λ b e. r.pointers l b e));
}
  where
    u : Naming
    u = filled t keeps most mark

    clash : (s x : Symbol) → keeps s ≡ true → t.symbol s ≡ spare most mark x → ⊥
    clash s x k e =
        let short = r.short s k in
        let long = front_long (suc most) mark x.name in
        let same : length (t.symbol s).name ≡ length (replicate (suc most) mark ++ x.name) = ap (λ (y : Symbol). length y.name) e in
        omega (arith, short, long, same)

    one : (s x : Symbol) (a b : Bool) → keeps s ≡ a → keeps x ≡ b → u.symbol s ≡ u.symbol x → s ≡ x
    one s x true true k j e = r.symbols s x k j (sym (filled_kept t keeps most mark s k) ∙ e ∙ filled_kept t keeps most mark x j)
    one s x true false k j e = absurd (clash s x k (sym (filled_kept t keeps most mark s k) ∙ e ∙ filled_other t keeps most mark x j))
    one s x false true k j e = absurd (clash x s j (sym (filled_kept t keeps most mark x j) ∙ sym e ∙ filled_other t keeps most mark s k))
    one s x false false k j e = spare_one most mark s x (sym (filled_other t keeps most mark s k) ∙ e ∙ filled_other t keeps most mark x j)

    none : (s : Symbol) → keeps s ≡ false → (p.signature.kind (u.symbol s) ≡ Missing) × (p.code (u.symbol s) ≡ None)
    none s k =
        let e = filled_other t keeps most mark s k in
        let long = front_long (suc most) mark s.name in
        let x = r.longer (spare most mark s) (omega (arith, long)) in
        (ap p.signature.kind e ∙ x.0, ap p.code e ∙ x.1)

    kind_by : (s : Symbol) (a : Bool) → keeps s ≡ a → p.signature.kind (u.symbol s) ≡ kind_under u (q.signature.kind s)
    kind_by s true k = ap p.signature.kind (filled_kept t keeps most mark s k) ∙ r.kinds s k
    kind_by s false k = (none s k).0 ∙ sym (ap (kind_under u) (r.gone s k).0)

    code_by : (s : Symbol) (a : Bool) → keeps s ≡ a → CodeUnder u (q.code s) (p.code (u.symbol s))
    code_by s true k =
        let x = code_alike keeps t u (filled_kept t keeps most mark) (q.code s) (p.code (t.symbol s)) (λ f e. r.closed s f e)
        (r.code s k) in
        subst (λ (y : Symbol). CodeUnder u (q.code s) (p.code y)) (sym (filled_kept t keeps most mark s k)) x
    code_by s false k =
        let x : CodeUnder u None None = tt in
        let y = subst (λ (o : Option Function). CodeUnder u o None) (sym (r.gone s k).1) x in
        subst (λ (o : Option Function). CodeUnder u (q.code s) o) (sym (none s k).1) y

-- ---- what is returned names kept symbols: a symbol that isn't kept would have two spare names

marks_apart : (most : ℕ) (s : Symbol) → spare most 0 s ≡ spare most 1 s → ⊥
marks_apart most s e =
    let n : 0 ∷ (replicate most 0 ++ s.name) ≡ 1 ∷ (replicate most 1 ++ s.name) = ap (λ (x : Symbol). x.name) e in
    cc n

value_both : (t : Naming) (keeps : Symbol → Bool) (most : ℕ) (v : Value) →
    value_under (filled t keeps most 0) v ≡ value_under (filled t keeps most 1) v →
    MayStandFor t v (value_under (filled t keeps most 0) v)
value_both t keeps most (Number n) e = refl
value_both t keeps most Poison e = tt
value_both t keeps most (Pointer Nowhere i) e = (tt, refl)
value_both t keeps most (Pointer (Cell l) i) e = (cell_stands t l, refl)
value_both t keeps most (Pointer (Code s) i) e = by (keeps s) refl
  where
    by : (a : Bool) → keeps s ≡ a → MayStandFor t (Pointer (Code s) i) (Pointer (Code ((filled t keeps most 0).symbol s)) i)
    by true k = (sym (filled_kept t keeps most 0 s k), refl)
    by false k =
        let x : (filled t keeps most 0).symbol s ≡ (filled t keeps most 1).symbol s = cc e in
        absurd (marks_apart most s (sym (filled_other t keeps most 0 s k) ∙ x ∙ filled_other t keeps most 1 s k))

answer_both : (t : Naming) (keeps : Symbol → Bool) (most : ℕ) (v : Option Value) →
    maybe_value (filled t keeps most 0) v ≡ maybe_value (filled t keeps most 1) v →
    AnswerMayStandFor t v (maybe_value (filled t keeps most 0) v)
answer_both t keeps most None e = tt
answer_both t keeps most (Some v) e = value_both t keeps most v (cc e)

ending_both : (t : Naming) (keeps : Symbol → Bool) (most : ℕ) (e y : Ending) → EndingUnder (filled t keeps most 0) e y →
    EndingUnder (filled t keeps most 1) e y → ((why : Failure) → e ≡ Failed why → ⊥) → SameEnding t e y
ending_both t keeps most Running y h g no' = subst (λ (z : Ending). SameEnding t Running z) (sym h) tt
ending_both t keeps most (Returned v) y h g no' =
    subst (λ (z : Ending). SameEnding t (Returned v) z) (sym h) (answer_both t keeps most v (cc (h, g)))
ending_both t keeps most (Failed why) y h g no' = absurd (no' why refl)

matched_both : (t : Naming) (keeps : Symbol → Bool) (most : ℕ) (p : Program) (input choices : List ℕ) (s : State) (ran : Ran) →
    RanUnder (filled t keeps most 0) ran (run p input choices s) →
    RanUnder (filled t keeps most 1) ran (run p input choices s) → (e : Ending) → ran.ending ≡ e → Matched t p input s ran
matched_both t keeps most p input choices s ran h g (Failed why) e =
    let x = subst (λ (z : Ending). EndingUnder (filled t keeps most 0) z (run p input choices s).ending) e h.ending in
    inl (record {
      choices = choices;
      failure = x.0;
      ends = x.1;
      later = [];
      front = sym h.trace
          ∙ sym (append-nil (run p input choices s).trace);
    })
matched_both t keeps most p input choices s ran h g Running e =
    inr (record {
      choices = choices;
      steps = omega (arith, h.steps);
      trace = h.trace;
      ending = ending_both t keeps most ran.ending (run p input choices s).ending h.ending g.ending (λ why w. cc (e, w));
    })
matched_both t keeps most p input choices s ran h g (Returned v) e =
    inr (record {
      choices = choices;
      steps = omega (arith, h.steps);
      trace = h.trace;
      ending = ending_both t keeps most ran.ending (run p input choices s).ending h.ending g.ending (λ why w. cc (e, w));
    })

from_both : (t : Naming) (keeps : Symbol → Bool) (most : ℕ) (q p : Program) → IsKeptOf t keeps most q p →
    (ns : List ℕ) (o o' : Option Function) → ((f : Function) → o ≡ Some f → BlocksName keeps f.blocks) → CodeUnder t o o' →
    RefinesFrom t q p (start_of o (map Number ns) q.opening) (start_of o' (map Number ns) p.opening)
from_both t keeps most q p r ns None None k c = tt
from_both t keeps most q p r ns (Some f) (Some g) k c = λ input choices.
    let s : State = record { top = enter f (map Number ns); below = []; memory = q.opening; place = 0 } in
    let s' : State = record { top = enter g (map Number ns); below = []; memory = p.opening; place = 0 } in
    let go = λ (mark : ℕ). ran_from (filled t keeps most mark) q p (filled_right t keeps most mark q p r) ns f g
    (function_alike keeps t (filled t keeps most mark) (filled_kept t keeps most mark) f g (k f refl) c) input choices in
    matched_both t keeps most p input choices s' (run q input choices s) (go 0) (go 1) (run q input choices s).ending refl
from_both t keeps most q p r ns None (Some g) k c = absurd c
from_both t keeps most q p r ns (Some f) None k c = absurd c

pub kept_from : (t : Naming) (keeps : Symbol → Bool) (most : ℕ) (q p : Program) → IsKeptOf t keeps most q p → (root : Symbol) →
    keeps root ≡ true → (arguments : List ℕ) → RefinesFrom t q p (start q root (map Number arguments))
    (start p (t.symbol root) (map Number arguments))
kept_from t keeps most q p r root k arguments = from_both t keeps most q p r arguments (q.code root) (p.code (t.symbol root))
    (λ f e. r.closed root f e) (r.code root k)

pub kept_all : KeptRefines
kept_all t keeps most q p r IsRoot roots root is arguments = kept_from t keeps most q p r root (roots root is) arguments
