use Rattle.std.proofs.Common.{List, Ok, ap, refl, sym, ◌∙◌}
use Rattle.ir_parse_parts.specs.declared.raw.Incoming.{Incoming}
use Rattle.ir_parse_parts.specs.declared.raw.Instr.TheVariants as instrs
use Rattle.ir_parse_bodies.proofs.Grouping.{phi_of_is}
use Rattle.ir_parse_bodies.specs.PhisAt.{phi_at}
use Rattle.ir_parse_bodies.proofs.Successions.{reads_behind}
use Rattle.ir_parse_operands.proofs.Additions.{pushed_returns}
use Rattle.ir_parse_bodies.proofs.phis.phi_into.Goals as goal

pub returns : goal.returns
unfolding phi_at
returns c = pushed_returns _ _ _ _ _ _ c.put.ensures.put c.put.ensures.memory (reads_behind (reads_behind c.in_ok-reg.ensures.exact _ (phi_of_is c.in_ok-reg.reg c.reg_at.new.tokens ∙ reads_behind c.in_ok-all_entries_at.ensures _ (ap (λ (all : List Incoming). Ok (instrs.Phi c.in_ok-reg.reg all, c.all_entries_at.new.tokens)) (sym c.of-incoming.ensures)))) _ refl)
