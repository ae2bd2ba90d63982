-- The tasks that stand for instructions.
use Rattle.std.proofs.Common.{◌≡◌, ℕ, ◌≤◌, List, refl, sym, ap, ap₂, subst, ◌∙◌}
use Rattle.std.specs.Borrow.{Bor}
use Rattle.std.specs.Global.{Global}
use Rattle.std.specs.Prelude.{Bool, ℤ, All, Option, Vec}
use Rattle.std.specs.List.{AllZip}
use Rattle.ir_tree.specs.Forms.{Form}
use Rattle.ir_tree.specs.Layout.{IsLaidOut, size}
use Rattle.ir_tree.specs.declared.instr.BinaryOp.{BinaryOp}
use Rattle.ir_tree.specs.declared.instr.CastOp.{CastOp}
use Rattle.ir_tree.specs.declared.instr.Flags.{Flags}
use Rattle.ir_tree.specs.declared.instr.Incoming.{Incoming}
use Rattle.ir_tree.specs.declared.instr.Instr.{Instr}
use Rattle.ir_tree.specs.declared.instr.Instr.TheVariants as kind
use Rattle.ir_tree.specs.declared.instr.Predicate.{Predicate}
use Rattle.ir_tree.specs.declared.operand.Argument.{Argument}
use Rattle.ir_tree.specs.declared.operand.Operand.{Operand}
use Rattle.ir_tree.specs.declared.operand.Reg.{Reg}
use Rattle.ir_meaning.specs.Execute as meaning
use Rattle.ir_meaning.specs.Frame.{regs_of, value_of}
use Rattle.ir_meaning.specs.declared.value.Value.{Value as MeantValue}
use Rattle.ir_machine.specs.Marks.{HasWidth}
use Rattle.ir_interp.specs.Locals.{source_meant}
use Rattle.ir_interp.specs.Tasks.{IsSoundCast, indices_meant, values_meant}
use Rattle.ir_interp.specs.declared.source.Source.{Source}
use Rattle.ir_interp.specs.declared.source.Typed.{Typed}
use Rattle.ir_interp.specs.declared.task.Compute.TheVariants as compute
use Rattle.ir_interp.specs.declared.task.Task.{Task}
use Rattle.ir_interp.specs.declared.task.Task.TheVariants as task
use Rattle.machine_code.specs.Sources.{IsTyped, StandsFor}
use Rattle.machine_code.specs.Tasks.{IsSoundInstr, IsTask}
use Rattle.machine_code.specs.declared.addresses.Addresses.{Addresses}
use Rattle.machine_code.proofs.Standing.{typed_indices, typed_known, typed_regs, typed_values, typed_widths}

-- by what an instruction is
pub sound : (i j : Instr) → i ≡ j → IsSoundInstr i → IsSoundInstr j
sound i j e h = subst (λ (x : Instr). IsSoundInstr x) e h

pub by_kind : (t : Addresses) (i j : Instr) (x : Task) → i ≡ j → IsTask t j x → IsTask t i x
by_kind t i j x e h = subst (λ (y : Instr). IsTask t y x) (sym e) h

module _ (t : Addresses) where
  pub binary_task : (op : BinaryOp) (flags : Flags) (w : ℕ) (left right : Operand) (l r : Source) → StandsFor t left l → StandsFor t right r → (1 ≤ w) × (w ≤ 64) →
      IsTask t (kind.Binary op flags w left right) (task.Compute (compute.Binary op flags w l r))
  binary_task op flags w left right l r f g s = record {
    means = λ names sig h locals.
        ap₂ (λ (v u : MeantValue). meaning.ToBinary op flags w v u) (f.means names sig h locals)
        (g.means names sig h locals);
    known = λ names m memory h. (f.known names m memory h, g.known names m memory h);
    can = s;
  }

  pub compare_task : (p : Predicate) (reg : Reg) (left right : Operand) (l r : Source) → StandsFor t left l → StandsFor t right r → HasWidth reg →
      IsTask t (kind.Icmp p reg left right) (task.Compute (compute.Compare p reg l r))
  compare_task p reg left right l r f g s = record {
    means = λ names sig h locals.
        ap₂ (λ (v u : MeantValue). meaning.ToCompare p reg v u) (f.means names sig h locals)
        (g.means names sig h locals);
    known = λ names m memory h. (f.known names m memory h, g.known names m memory h);
    can = s;
  }

  pub cast_task : (op : CastOp) (from to : Reg) (value : Operand) (v : Source) → StandsFor t value v → IsSoundCast op from to → IsTask t (kind.Cast op from value to) (task.Compute (compute.Cast op from to v))
  cast_task op from to value v f s = record {
    means = λ names sig h locals. ap (λ (u : MeantValue). meaning.ToCast op from to u) (f.means names sig h locals);
    known = λ names m memory h. f.known names m memory h;
    can = s;
  }

  pub select_task : (condition : Operand) (a b : Argument) (c x y : Source) → StandsFor t condition c → StandsFor t a.operand x → StandsFor t b.operand y →
      IsTask t (kind.Select condition a b) (task.Compute (compute.Select c x y))
  select_task condition a b c x y f g j = record {
    means = λ names sig h locals.
        ap (λ (v : MeantValue). meaning.ToSelect v (source_meant names locals x) (source_meant names locals y)) (f.means names sig h locals)
        ∙ ap₂ (λ (v u : MeantValue). meaning.ToSelect (value_of sig locals condition) v u) (g.means names sig h locals)
        (j.means names sig h locals);
    known = λ names m memory h. (f.known names m memory h, g.known names m memory h, j.known names m memory h);
    can = tt;
  }

  pub freeze_task : (reg : Reg) (value : Operand) (v : Source) → StandsFor t value v → HasWidth reg → IsTask t (kind.Freeze reg value) (task.Compute (compute.Freeze reg v))
  freeze_task reg value v f s = record {
    means = λ names sig h locals. ap (λ (u : MeantValue). meaning.ToFreeze reg u) (f.means names sig h locals);
    known = λ names m memory h. f.known names m memory h;
    can = s;
  }

  pub load_task : (reg : Reg) (address : Operand) (align : ℕ) (a : Source) → StandsFor t address a → HasWidth reg × (1 ≤ align) → IsTask t (kind.Load reg address align) (task.Compute (compute.Load reg a align))
  load_task reg address align a f s = record {
    means = λ names sig h locals. ap (λ (u : MeantValue). meaning.ToLoad reg u align) (f.means names sig h locals);
    known = λ names m memory h. f.known names m memory h;
    can = s;
  }

  pub phi_task : (reg : Reg) (incoming : List Incoming) → IsTask t (kind.Phi reg incoming) (task.Compute compute.Poison)
  phi_task reg incoming = record { means = λ names sig h locals. refl; known = λ names m memory h. tt; can = tt }

  pub reserve_task : (shape : Form) (align n : ℕ) → n ≡ size shape → IsTask t (kind.Alloca shape align) (task.Reserve n align)
  reserve_task shape align n e = record {
    means = λ names sig h locals. ap (λ (z : ℕ). meaning.ToReserve z align) e;
    known = λ names m memory h. tt;
    can = tt;
  }

  pub store_task : (reg : Reg) (value address : Operand) (align : ℕ) (v a : Source) → StandsFor t value v → StandsFor t address a → HasWidth reg × (1 ≤ align) →
      IsTask t (kind.Store reg value address align) (task.Store reg v a align)
  store_task reg value address align v a f g s = record {
    means = λ names sig h locals.
        ap₂ (λ (x y : MeantValue). meaning.ToStore reg x y align) (f.means names sig h locals)
        (g.means names sig h locals);
    known = λ names m memory h. (f.known names m memory h, g.known names m memory h);
    can = s;
  }

  pub address_task : (inbounds : Bool) (shape : Bor Form) (form : Form) (base : Operand) (indices : List Argument) (b : Source) (is : Vec Typed Global) → shape.now ≡ form → StandsFor t base b →
      AllZip (IsTyped t) indices is.items → IsLaidOut form × All (λ (i : Argument). HasWidth i.reg) indices →
      IsTask t (kind.Address inbounds form base indices) (task.Compute (compute.Address inbounds shape b is))
  address_task inbounds shape form base indices b is e f z s = record {
    means = λ names sig h locals.
        ap (λ (x : Form). meaning.ToAddress inbounds x (source_meant names locals b) (indices_meant names locals is.items)) e
        ∙ ap₂ (λ (v : MeantValue) (x : Option (List ℤ)). meaning.ToAddress inbounds form v x) (f.means names sig h locals)
        (typed_indices t indices is.items z names sig h locals);
    known = λ names m memory h. (f.known names m memory h, typed_known t indices is.items z names m memory h);
    can = (subst (λ (x : Form). IsLaidOut x) (sym e) s.0, typed_widths t indices is.items z s.1);
  }

  pub call_task : (result : Option Reg) (callee : Operand) (arguments : List Argument) (c : Source) (rest : Vec Typed Global) → StandsFor t callee c → AllZip (IsTyped t) arguments rest.items →
      IsTask t (kind.Call result callee arguments) (task.Call result c rest)
  call_task result callee arguments c rest f z = record {
    means = λ names sig h locals.
        ap (λ (rs : List Reg). meaning.ToCall result rs (values_meant names locals rest.items) (source_meant names locals c)) (typed_regs t arguments rest.items z)
        ∙ ap₂ (λ (vs : List MeantValue) (v : MeantValue). meaning.ToCall result (regs_of arguments) vs v) (typed_values t arguments rest.items z names sig h locals)
        (f.means names sig h locals);
    known = λ names m memory h. (f.known names m memory h, typed_known t arguments rest.items z names m memory h);
    can = tt;
  }
