use Rattle.std.proofs.Common.{List, refl, sym, ◌∙◌}
use Rattle.std.proofs.Common.{ℕ, Result, ap₂}
use Rattle.ir_lex.specs.Tok.{Tok}
use Rattle.ir_parse_parts.specs.declared.fault.Fault.{Fault}
use Rattle.ir_parse_parts.specs.Readers.{done, follow}
use Rattle.ir_parse_bodies.specs.Adding.{joined_at}
use Rattle.ir_parse_bodies.specs.BlocksAt.{blocks_at}
use Rattle.ir_parse_bodies.proofs.Grouping.{braced_is}
use Rattle.ir_parse_bodies.proofs.Successions.{fails_as, fails_behind, passed_on, returns_as, returns_behind, returns_through}
use Rattle.ir_parse_operands.proofs.Additions.{first_fails}
use Rattle.ir_parse_bodies.proofs.definitions.braced_into.Goals as goal

pub returns : goal.returns
returns c = returns_as (braced_is c.args.blocks.now.list.items c.args.tokens.now) _ _ (returns_behind c.in_ok-expect.ensures _ _ _ (returns_behind (ap₂ (λ (n m : ℕ). joined_at c.args.blocks.now.list.items (blocks_at n m) c.expect.new.tokens) (sym c.further_blocks.ensures) (sym c.instructions.ensures) ∙ c.in_ok-blocks_into.ensures) _ _ _ (returns_through (λ (r : Result (Unit {0} × List Tok) Fault). follow r (λ _. done c.blocks_into.new.blocks.list.items)) _ _ _ _ (λ f. refl) (refl) c.expect-2.ensures)))

pub returns-in_err-expect : goal.returns-in_err-expect
returns-in_err-expect c = passed_on _ _ _ _ c.from_residual.ensures (fails_as (braced_is c.args.blocks.now.list.items c.args.tokens.now) _ (first_fails _ _ _ c.in_err-expect.ensures))

pub returns-in_err-blocks_into : goal.returns-in_err-blocks_into
returns-in_err-blocks_into c = passed_on _ _ _ _ c.from_residual-in_err-blocks_into.ensures (fails_as (braced_is c.args.blocks.now.list.items c.args.tokens.now) _ (fails_behind c.in_ok-expect.ensures _ _ (first_fails _ _ _ (fails_as (ap₂ (λ (n m : ℕ). joined_at c.args.blocks.now.list.items (blocks_at n m) c.expect.new.tokens) (sym c.further_blocks.ensures) (sym c.instructions.ensures)) _ c.in_err-blocks_into.ensures))))
