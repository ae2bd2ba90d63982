-- A function that names none of some locals is as before with these locals replaced.
use Rattle.std.proofs.Common.{◌≡◌, ℕ, ◌==◌, Bool, false, ◌||◌, List, [], ◌∷◌, Option, Some, None, map, refl, sym, ◌∙◌, ap, if◌then◌else◌}
use Rattle.std.specs.Prelude.{is_some}
use Rattle.std.proofs.lemmas.Bool.{false≢true}
use Rattle.ir_tree.specs.declared.block.Block.{Block}
use Rattle.ir_tree.specs.declared.block.Terminator.{Terminator}
use Rattle.ir_tree.specs.declared.block.Terminator.TheVariants.{Branch, Jump, Return, Switch, Unreachable}
use Rattle.ir_tree.specs.declared.function.Function.{Function}
use Rattle.ir_tree.specs.declared.instr.Incoming.{Incoming}
use Rattle.ir_tree.specs.declared.instr.Instr.{Instr}
use Rattle.ir_tree.specs.declared.instr.Instr.TheVariants.{Address, Alloca, Binary, Call, Cast, Freeze, Icmp, Load, Phi as StrayPhi, Select, Store}
use Rattle.ir_tree.specs.declared.instr.Line.{Line}
use Rattle.ir_tree.specs.declared.instr.Phi.{Phi}
use Rattle.ir_tree.specs.declared.operand.Argument.{Argument}
use Rattle.ir_tree.specs.declared.operand.Operand.{Operand}
use Rattle.ir_tree.specs.declared.operand.Operand.TheVariants.{Local, Null, Number as Constant, Poison as PoisonOf, Symbol as Named}
use Rattle.ir_meaning.specs.Facts.{Facts}
use Rattle.ir_tree.specs.Edited.{argument_edited, block_edited, edited, end_edited, incoming_edited, instr_edited, line_edited, phi_edited}
use Rattle.ir_edit.specs.Numbered.{later_or}
use Rattle.ir_edit.specs.Substituted.{operand_replaced, or_local, replacement}
use Rattle.fact_sources.specs.Membership.{is_member}
use Rattle.fact_sources.specs.Naming.{arguments_name, block_names, blocks_name, end_names, entries_name, instr_names, is_key, lines_name, phis_name}
use Rattle.fact_sources.proofs.Neither.{neither}
use Rattle.fact_sources.proofs.Staying.{cases_stay, local_stays, params_stay}

pub no_key : (fs : Facts) (x : ℕ) → is_key x fs ≡ false → replacement fs x ≡ None
no_key [] x h = refl
no_key ((y, v) ∷ fs) x h =
    let two = neither (y == x) (is_key x fs) h in
    ap (λ (o : Option Operand). later_or o (if y == x then Some v else None)) (no_key fs x two.1) ∙ ap (λ (b : Bool). if b then Some v else None) two.0

pub operand_same : (among : ℕ → Bool) (c : ℕ → Option Operand) → ((x : ℕ) → among x ≡ false → c x ≡ None) → (o : Operand) → is_member among o ≡ false → operand_replaced c o ≡ o
operand_same among c out (Local x) h = ap (λ (o : Option Operand). or_local o x) (out x h)
operand_same among c out (Constant w n) h = refl
operand_same among c out Null h = refl
operand_same among c out (PoisonOf reg) h = refl
operand_same among c out (Named t i) h = refl

module _ (among : ℕ → Bool) (g : Operand → Operand) (operand_stays : (o : Operand) → is_member among o ≡ false → g o ≡ o) where
  argument_same : (a : Argument) → is_member among a.operand ≡ false → argument_edited g a ≡ a
  argument_same a h = λ i. record { reg = a.reg; operand = operand_stays a.operand h i }

  arguments_same : (as' : List Argument) → arguments_name among as' ≡ false → map (argument_edited g) as' ≡ as'
  arguments_same [] h = refl
  arguments_same (a ∷ as') h =
      let two = neither (is_member among a.operand) (arguments_name among as') h in
      λ i. argument_same a two.0 i ∷ arguments_same as' two.1 i

  entries_same : (es : List Incoming) → entries_name among es ≡ false → map (incoming_edited (λ x. x) g) es ≡ es
  entries_same [] h = refl
  entries_same (e ∷ es) h =
      let two = neither (is_member among e.value) (entries_name among es) h in
      λ i. record { from = e.from; value = operand_stays e.value two.0 i } ∷ entries_same es two.1 i

  pub instr_same : (i : Instr) → instr_names among i ≡ false → instr_edited (λ x. x) g i ≡ i
  instr_same (Binary op fl w l r) h = let two = neither (is_member among l) (is_member among r) h in λ i. Binary op fl w (operand_stays l two.0 i) (operand_stays r two.1 i)
  instr_same (Icmp p reg l r) h = let two = neither (is_member among l) (is_member among r) h in λ i. Icmp p reg (operand_stays l two.0 i) (operand_stays r two.1 i)
  instr_same (Cast op from o to) h = ap (λ (v : Operand). Cast op from v to) (operand_stays o h)
  instr_same (Select t a b) h =
      let two = neither (is_member among t) (is_member among a.operand || is_member among b.operand) h in
      let more = neither (is_member among a.operand) (is_member among b.operand) two.1 in
      λ i. Select (operand_stays t two.0 i) (argument_same a more.0 i) (argument_same b more.1 i)
  instr_same (Freeze reg o) h = ap (λ (v : Operand). Freeze reg v) (operand_stays o h)
  instr_same (Alloca shape align) h = refl
  instr_same (Load reg o align) h = ap (λ (v : Operand). Load reg v align) (operand_stays o h)
  instr_same (Store reg o d align) h = let two = neither (is_member among o) (is_member among d) h in λ i. Store reg (operand_stays o two.0 i) (operand_stays d two.1 i) align
  instr_same (Address inbounds shape o is) h = let two = neither (is_member among o) (arguments_name among is) h in λ i. Address inbounds shape (operand_stays o two.0 i) (arguments_same is two.1 i)
  instr_same (Call result o args) h = let two = neither (is_member among o) (arguments_name among args) h in λ i. Call result (operand_stays o two.0 i) (arguments_same args two.1 i)
  instr_same (StrayPhi reg es) h = ap (λ (l : List Incoming). StrayPhi reg l) (entries_same es h)

  lines_same : (ls : List Line) → lines_name among ls ≡ false → map (line_edited (λ x. x) g) ls ≡ ls
  lines_same [] h = refl
  lines_same (l ∷ ls) h =
      let two = neither (instr_names among l.instr) (lines_name among ls) h in
      λ i. record { local = local_stays l.local i; instr = instr_same l.instr two.0 i } ∷ lines_same ls two.1 i

  pub phis_same : (ps : List Phi) → phis_name among ps ≡ false → map (phi_edited (λ x. x) g) ps ≡ ps
  phis_same [] h = refl
  phis_same (p ∷ ps) h =
      let two = neither (entries_name among p.incoming) (phis_name among ps) h in
      λ i. record { local = p.local; reg = p.reg; incoming = entries_same p.incoming two.0 i } ∷ phis_same ps two.1 i

  pub end_same : (t : Terminator) → end_names among t ≡ false → end_edited (λ x. x) g t ≡ t
  end_same (Return None) h = refl
  end_same (Return (Some a)) h = ap (λ (b : Argument). Return (Some b)) (argument_same a h)
  end_same (Jump target) h = refl
  end_same (Branch t yes' no') h = ap (λ (o : Operand). Branch o yes' no') (operand_stays t h)
  end_same (Switch w o default cases) h = λ i. Switch w (operand_stays o h i) default (cases_stay cases i)
  end_same Unreachable h = refl

  pub block_same : (b : Block) → block_names among b ≡ false → block_edited (λ x. x) g b ≡ b
  block_same b h =
      let two = neither (phis_name among b.phis) (lines_name among b.lines || end_names among b.end) h in
      let more = neither (lines_name among b.lines) (end_names among b.end) two.1 in
      λ i. record { number = b.number; phis = phis_same b.phis two.0 i; lines = lines_same b.lines more.0 i; end = end_same b.end more.1 i }

  pub blocks_same : (bs : List Block) → blocks_name among bs ≡ false → map (block_edited (λ x. x) g) bs ≡ bs
  blocks_same [] h = refl
  blocks_same (b ∷ bs) h =
      let two = neither (block_names among b) (blocks_name among bs) h in
      λ i. block_same b two.0 i ∷ blocks_same bs two.1 i

  pub unnamed : (f : Function) → blocks_name among f.blocks ≡ false → edited (λ x. x) g f ≡ f
  unnamed f h = λ i. record f { params = sym (params_stay f.params) i; blocks = blocks_same f.blocks h i }

pub nothing : (o : Option Operand) → is_some o ≡ false → o ≡ None
nothing None h = refl
nothing (Some v) h = absurd (false≢true (sym h))
