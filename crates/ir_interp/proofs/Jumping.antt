-- Jumps by position against jumps by number.
use Rattle.std.proofs.Common.{◌≡◌, ℕ, true, List, slice_get, Option, Some, None, refl, sym, ap, subst, ◌∙◌, arith}
use Rattle.ir_tree.specs.declared.block.Block.{Block as MeantBlock}
use Rattle.ir_meaning.specs.Act as act
use Rattle.ir_meaning.specs.Act.{Leads', Leaves, Stuck, enters_block, find_block, jumps, phis_bound}
use Rattle.ir_meaning.specs.Frame.{Locals}
use Rattle.ir_tree.specs.declared.cause.Cause.{Cause}
use Rattle.ir_meaning.specs.declared.value.Value.{Value}
use Rattle.ir_machine.specs.declared.memory.Memory.{Memory}
use Rattle.ir_interp.specs.Locals.{AreLocals}
use Rattle.ir_interp.specs.Phis.{ArePhisKnown, phis_meant}
use Rattle.ir_interp.specs.declared.registers.Registers.{Registers}
use Rattle.ir_interp.specs.Code.{IsBlock, at_positions, block_of, position}
use Rattle.ir_interp.specs.Scenes.{HasJumped, Plays, Scene}
use Rattle.ir_interp.specs.declared.code.Block.{Block}
use Rattle.ir_interp.specs.declared.code.Code.{Code}
use Rattle.ir_interp.specs.declared.frame.Frame.{Frame}
use Rattle.ir_interp.proofs.Acting.{same_stacked}
use Rattle.ir_interp.proofs.Blocks.{code_block, no_block}
use Rattle.ir_interp.proofs.Positions.{at_position, found_number, none_dropped}

-- the block that a jump leads to is the one at the position
pub jumped : (z : Scene) (code : Code) (m : Memory) (f : Frame) (t target from : ℕ) (c : Block) (r' : Registers) → Plays z code m f → from ≡ z.frame.block → target ≡ position z.frame.function.blocks t →
    block_of code f.function target ≡ Some c →
    ((locals : Locals) → AreLocals z.names m z.memory f.registers locals → ArePhisKnown z.names m z.memory c.phis.items → AreLocals z.names m z.memory r' (phis_meant z.names locals from c.phis.items locals)) →
    HasJumped z m f (record f { registers = r'; block = target; line = 0 }) t true
jumped z code m f t target from c r' s e at here read = by (find_block z.frame.function.blocks t) refl where
  by : (o : Option MeantBlock) → find_block z.frame.function.blocks t ≡ o → HasJumped z m f (record f { registers = r'; block = target; line = 0 }) t true
  by None found =
      let none = ap (λ (q : ℕ). slice_get z.frame.function.blocks q) at ∙ at_position z.frame.function.blocks t ∙ found in
      let no = no_block z.names z.program code f.function target z.frame.function s.code s.frame.named s.frame.called none in
      absurd (cc (sym no ∙ here))
  by (Some b) found =
      let is = ap (λ (q : ℕ). slice_get z.frame.function.blocks q) at ∙ at_position z.frame.function.blocks t ∙ found in
      let got = code_block z.names z.program code f.function target z.frame.function b s.code s.frame.named s.frame.called is in
      let same : got.0 ≡ c = cc (sym got.1.0 ∙ here) in
      let lowered = subst (λ (x : Block). IsBlock z.names z.program.signature z.frame.function.blocks target b x) same got.1.1 in
      let known = (s.knows m z.memory (λ h x. x) f.function target c here).phis in
      let locals' = phis_bound z.program.signature z.frame.locals z.frame.block b.phis z.frame.locals in
      let d' = record z.frame { block = b.number; rest = b.lines; end = b.end; locals = locals' } in (
        d',
        (
          λ place. ap (λ (o : Option MeantBlock). enters_block z.program.signature z.frame z.memory place o) found,
          record {
            holds = s.holds;
            keeps = λ h x. x;
            frame = record {
              named = s.frame.named;
              called = s.frame.called;
              stands = record {
                block = b;
                here = is;
                first = ap (λ (n : ℕ). position z.frame.function.blocks n) (found_number z.frame.function.blocks t b found) ∙ sym at;
                number = refl;
                ends = refl;
                rest = sym (none_dropped b.lines);
                within = omega arith;
              };
              reads = subst (λ (ls : Locals). AreLocals z.names m z.memory r' ls)
                  (sym (lowered.phis z.frame.locals from z.frame.locals) ∙ ap (λ (n : ℕ). phis_bound z.program.signature z.frame.locals n b.phis z.frame.locals) e)
                  (read z.frame.locals s.frame.reads known);
              awaits = s.frame.awaits;
            };
            stacks = same_stacked _ f (record f { registers = r'; block = target; line = 0 }) z.frame d' z.front refl refl s.stacks;
          },
        ),
      )

-- where there is no code at the position, there is no block of the number
pub no_jump : (z : Scene) (code : Code) (m : Memory) (f : Frame) (t target : ℕ) → Plays z code m f → target ≡ position z.frame.function.blocks t → block_of code f.function target ≡ None →
    find_block z.frame.function.blocks t ≡ None
no_jump z code m f t target s at none = by (find_block z.frame.function.blocks t) refl where
  by : (o : Option MeantBlock) → find_block z.frame.function.blocks t ≡ o → find_block z.frame.function.blocks t ≡ None
  by None found = found
  by (Some b) found =
      let is = ap (λ (q : ℕ). slice_get z.frame.function.blocks q) at ∙ at_position z.frame.function.blocks t ∙ found in
      let got = code_block z.names z.program code f.function target z.frame.function b s.code s.frame.named s.frame.called is in
      absurd (cc (sym none ∙ got.1.0))

-- ---- exits

pub exit_leaves : (bs : List MeantBlock) (e : act.Exit) (answer : Option Value) → at_positions bs e ≡ Leaves answer → e ≡ Leaves answer
exit_leaves bs (Leaves a) answer h = h
exit_leaves bs (Leads' t) answer h = absurd (cc h)
exit_leaves bs (Stuck c) answer h = absurd (cc h)

pub exit_leads : (bs : List MeantBlock) (e : act.Exit) (q : ℕ) → at_positions bs e ≡ Leads' q → (t : ℕ) × ((e ≡ Leads' t) × (q ≡ position bs t))
exit_leads bs (Leaves a) q h = absurd (cc h)
exit_leads bs (Leads' t) q h = (t, (refl, sym (cc h)))
exit_leads bs (Stuck c) q h = absurd (cc h)

pub exit_stuck : (bs : List MeantBlock) (e : act.Exit) (cause : Cause) → at_positions bs e ≡ Stuck cause → e ≡ Stuck cause
exit_stuck bs (Leaves a) cause h = absurd (cc h)
exit_stuck bs (Leads' t) cause h = absurd (cc h)
exit_stuck bs (Stuck c) cause h = h
