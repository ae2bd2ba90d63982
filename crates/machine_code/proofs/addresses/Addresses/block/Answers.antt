use Rattle.std.proofs.Common.{ℕ, ◌+◌, ◌<◌, ◌^◌, List, refl, sym, ap, subst, ◌∙◌}
use Rattle.std.specs.Prelude.{All}
use Rattle.std.specs.List.{AllZip}
use Rattle.ir_tree.specs.declared.instr.Line.{Line}
use Rattle.ir_tree.specs.declared.instr.Phi.{Phi}
use Rattle.machine_code.specs.Blocks.{IsLineFor, IsPhi}
use Rattle.machine_code.specs.Tasks.{IsSoundInstr}
use Rattle.machine_code.proofs.addresses.Addresses.block.Goals as goal

pub lines-requires : goal.lines-requires
lines-requires c = subst (λ (ls : List Line). All (λ (l : Line). IsSoundInstr l.instr) ls) (sym c.as_slice-2.ensures) c.requires

pub returns : goal.returns
returns c = λ blocks p. record {
  number = refl;
  before = c.in_ok-first.ensures.place ∙ ap (λ (n : ℕ). c.args.before + n) c.len.ensures;
  short = subst (λ (n : ℕ). c.in_ok-first.first + n + 1 < 2 ^ 64) c.len-2.ensures c.in_ok-first.ensures.short;
  phis = subst (λ (ps : List Phi). AllZip (IsPhi c.args.self.now) ps c.in_ok-phis.phis.items) c.as_slice.ensures c.in_ok-phis.ensures;
  lines = subst (λ (ls : List Line). AllZip (IsLineFor c.args.self.now) ls c.in_ok-lines.lines.items) c.as_slice-2.ensures c.in_ok-lines.ensures;
  exit = c.in_ok-exit.ensures blocks p;
}
