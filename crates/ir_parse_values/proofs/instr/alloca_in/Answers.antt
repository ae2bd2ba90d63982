use Rattle.std.proofs.Common.{ℕ, Ok, sym, ap, ◌∙◌}
use Rattle.ir_tree.specs.declared.instr.Instr.TheVariants as ti
use Rattle.ir_parse_names.specs.Bodies.{align_or}
use Rattle.ir_parse_values.proofs.Following.{follows}
use Rattle.ir_parse_values.proofs.instr.alloca_in.Goals as goal

pub returns : goal.returns
returns c = follows _ c.in_ok-shape.ensures.given ∙ ap (λ (n : ℕ). Ok (ti.Alloca c.in_ok-shape.shape n)) (sym (c.align_or-align.ensures ∙ ap (λ (n : ℕ). align_or n c.args.align) c.align_of.ensures))
