use Rattle.std.proofs.Common.{ℕ, Ok, sym, ap, ◌∙◌}
use Rattle.ir_tree.specs.declared.instr.Instr.TheVariants as ti
use Rattle.ir_parse_names.specs.Bodies.{align_or}
use Rattle.ir_parse_values.proofs.Following.{follows}
use Rattle.ir_parse_values.proofs.instr.store_in.Goals as goal

pub returns : goal.returns
returns c =
    follows _ c.in_ok-value.ensures ∙ follows _ c.in_ok-address.ensures
    ∙ ap (λ (n : ℕ). Ok (ti.Store c.args.reg c.in_ok-value.value c.in_ok-address.address n)) (sym (c.align_or-align.ensures ∙ ap (λ (n : ℕ). align_or n c.args.align) c.reg_align.ensures))
