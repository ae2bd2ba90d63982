-- The terminators over sources and positions.
use Rattle.std.proofs.Common.{◌≡◌, ℕ, zero, suc, Bool, true, false, nat_eq, if◌then◌else◌, List, [], ◌∷◌, Option, Some, None, refl, sym, ap, subst, ◌∙◌}
use Rattle.std.specs.Global.{Global}
use Rattle.std.specs.Prelude.{Vec}
use Rattle.std.specs.List.{AllZip}
use Rattle.ir_tree.specs.declared.block.Block.{Block}
use Rattle.ir_tree.specs.declared.block.Case.{Case as MeantCase}
use Rattle.ir_tree.specs.declared.block.Terminator.{Terminator}
use Rattle.ir_tree.specs.declared.block.Terminator.TheVariants as end
use Rattle.ir_tree.specs.declared.operand.Argument.{Argument}
use Rattle.ir_tree.specs.declared.operand.Operand.{Operand}
use Rattle.ir_meaning.specs.Act as act
use Rattle.ir_meaning.specs.Act.{Leads', Leaves, by_bits, by_value, side}
use Rattle.ir_meaning.specs.Frame.{value_of}
use Rattle.ir_meaning.specs.Operate.{bits_of}
use Rattle.ir_meaning.specs.declared.value.Value.{Value as MeantValue}
use Rattle.ir_interp.specs.declared.source.Source.{Source}
use Rattle.ir_interp.specs.Exits.{case_target}
use Rattle.ir_interp.specs.declared.exit.Case.{Case}
use Rattle.ir_interp.specs.declared.exit.Exit.{Exit}
use Rattle.ir_interp.specs.declared.exit.Exit.TheVariants as exit
use Rattle.ir_interp.specs.Code.{at_positions, position}
use Rattle.machine_code.specs.Blocks.{IsCase, IsExit}
use Rattle.machine_code.specs.Sources.{StandsFor}
use Rattle.machine_code.specs.declared.addresses.Addresses.{Addresses}

-- by what a terminator is
pub by_end : (t : Addresses) (blocks : List Block) (e d : Terminator) (x : Exit) → e ≡ d → IsExit t blocks d x → IsExit t blocks e x
by_end t blocks e d x f h = subst (λ (y : Terminator). IsExit t blocks y x) (sym f) h

-- a branch on a value leads to the positions of the blocks to which it leads
value_placed : (blocks : List Block) (w : ℕ) (f g : ℕ → ℕ) → ((n : ℕ) → f n ≡ position blocks (g n)) → (v : MeantValue) → by_value w f v ≡ at_positions blocks (by_value w g v)
value_placed blocks w f g h v = by (bits_of w v)
  where
    by : (o : Option ℕ) → by_bits f o ≡ at_positions blocks (by_bits g o)
    by (Some n) = ap Leads' (h n)
    by None = refl

side_placed : (blocks : List Block) (p q a b : ℕ) → p ≡ position blocks a → q ≡ position blocks b → (n : ℕ) → side p q n ≡ position blocks (side a b n)
side_placed blocks p q a b e f zero = f
side_placed blocks p q a b e f (suc n) = e

target_placed : (blocks : List Block) (cs : List MeantCase) (ds : List Case) (default d : ℕ) → AllZip (IsCase blocks) cs ds → d ≡ position blocks default →
    (n : ℕ) → case_target ds d n ≡ position blocks (act.case_target cs default n)
target_placed blocks [] [] default d z e n = e
target_placed blocks [] (y ∷ ds) default d z e n = absurd z
target_placed blocks (x ∷ cs) [] default d z e n = absurd z
target_placed blocks (x ∷ cs) (y ∷ ds) default d z e n =
    ap (λ (b : ℕ). if nat_eq b n then y.target else case_target ds d n) z.0.bits
    ∙ by (nat_eq x.bits n) (target_placed blocks cs ds default d z.1 e n) where
      by : (v : Bool) → case_target ds d n ≡ position blocks (act.case_target cs default n) →
          (if v then y.target else case_target ds d n) ≡ position blocks (if v then x.target else act.case_target cs default n)
      by true h = z.0.target
      by false h = h

module _ (t : Addresses) (blocks : List Block) where
  pub none_returned : IsExit t blocks (end.Return None) (exit.Return None)
  none_returned = record { means = λ names sig h locals. refl; known = λ names m memory h. tt }

  pub one_returned : (a : Argument) (s : Source) → StandsFor t a.operand s → IsExit t blocks (end.Return (Some a)) (exit.Return (Some s))
  one_returned a s f = record {
    means = λ names sig h locals. ap (λ (v : MeantValue). Leaves (Some v)) (f.means names sig h locals);
    known = λ names m memory h. f.known names m memory h;
  }

  pub jumped : (n q : ℕ) → q ≡ position blocks n → IsExit t blocks (end.Jump n) (exit.Jump q)
  jumped n q e = record { means = λ names sig h locals. ap Leads' e; known = λ names m memory h. tt }

  pub branched : (o : Operand) (a b p q : ℕ) (s : Source) → StandsFor t o s → p ≡ position blocks a → q ≡ position blocks b → IsExit t blocks (end.Branch o a b) (exit.Branch s p q)
  branched o a b p q s f e g = record {
    means = λ names sig h locals.
        ap (λ (v : MeantValue). by_value 1 (side p q) v) (f.means names sig h locals)
        ∙ value_placed blocks 1 (side p q) (side a b) (side_placed blocks p q a b e g) (value_of sig locals o);
    known = λ names m memory h. f.known names m memory h;
  }

  pub switched : (w : ℕ) (o : Operand) (default d : ℕ) (cs : List MeantCase) (ds : Vec Case Global) (s : Source) → StandsFor t o s → d ≡ position blocks default → AllZip (IsCase blocks) cs ds.items →
      IsExit t blocks (end.Switch w o default cs) (exit.Switch w s d ds)
  switched w o default d cs ds s f e z = record {
    means = λ names sig h locals.
        ap (λ (v : MeantValue). by_value w (case_target ds.items d) v) (f.means names sig h locals)
        ∙ value_placed blocks w (case_target ds.items d) (act.case_target cs default) (target_placed blocks cs ds.items default d z e) (value_of sig locals o);
    known = λ names m memory h. f.known names m memory h;
  }

  pub unreached : IsExit t blocks end.Unreachable exit.Unreachable
  unreached = record { means = λ names sig h locals. refl; known = λ names m memory h. tt }
