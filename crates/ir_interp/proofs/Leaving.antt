-- Terminators, against what the definition's frame does at the end of its block.
use Rattle.std.proofs.Common.{◌≡◌, ℕ, ◌+◌, ◌-◌, List, [], ◌∷◌, length, Option, Some, refl, sym, ap, subst, ◌∙◌, arith}
use Rattle.std.specs.Prelude.{vec_len}
use Rattle.std.proofs.lemmas.List.{length-append}
use Rattle.ir_tree.specs.declared.block.Terminator.{Terminator}
use Rattle.ir_tree.specs.declared.instr.Line.{Line as MeantLine}
use Rattle.ir_meaning.specs.Act as act
use Rattle.ir_meaning.specs.Act.{Leads', Leaves, Stuck, exit_of, exits, jumps}
use Rattle.ir_meaning.specs.Fault as fault
use Rattle.ir_meaning.specs.Frame.{value_of}
use Rattle.ir_meaning.specs.Program.{advance}
use Rattle.ir_tree.specs.declared.cause.Cause.{Cause}
use Rattle.ir_machine.specs.Memories.{numbers_of}
use Rattle.ir_machine.specs.declared.block.Block.{Block as MemoryBlock}
use Rattle.ir_machine.specs.declared.memory.Memory.{Memory}
use Rattle.ir_interp.specs.Exits.{exit_meant, left_meant}
use Rattle.ir_interp.specs.Slots.{AreLast}
use Rattle.ir_interp.specs.declared.exit.Left.{Left}
use Rattle.ir_interp.specs.Code.{IsBlock, at_positions, block_of}
use Rattle.ir_interp.specs.Scenes.{Fails, Plays, Scene}
use Rattle.ir_interp.specs.declared.code.Block.{Block}
use Rattle.ir_interp.specs.declared.code.Code.{Code}
use Rattle.ir_interp.specs.declared.frame.Frame.{Frame}
use Rattle.ir_interp.proofs.Blocks.{code_block}

-- the code of the block that a frame is in
pub own_block : (z : Scene) (code : Code) (m : Memory) (f : Frame) (c : Block) → (s : Plays z code m f) → block_of code f.function f.block ≡ Some c →
    IsBlock z.names z.program.signature z.frame.function.blocks f.block s.frame.stands.block c
own_block z code m f c s here =
    let got = code_block z.names z.program code f.function f.block z.frame.function s.frame.stands.block s.code s.frame.named s.frame.called s.frame.stands.here in
    let same : got.0 ≡ c = cc (sym got.1.0 ∙ here) in
    subst (λ (x : Block). IsBlock z.names z.program.signature z.frame.function.blocks f.block s.frame.stands.block x) same got.1.1

-- where the definition's terminator leads, by position
pub leads_so : (z : Scene) (code : Code) (m : Memory) (f : Frame) (c : Block) (left : Left) → Plays z code m f → block_of code f.function f.block ≡ Some c →
    left_meant z.names left ≡ exit_meant z.names z.frame.locals c.exit →
    at_positions z.frame.function.blocks (exit_of (value_of z.program.signature z.frame.locals) z.frame.end) ≡ left_meant z.names left
leads_so z code m f c left s here e =
    ap (λ (t : Terminator). at_positions z.frame.function.blocks (exit_of (value_of z.program.signature z.frame.locals) t)) s.frame.stands.ends
    ∙ sym ((own_block z code m f c s here).exit z.frame.locals) ∙ sym e

-- at the end of its block a frame does what its terminator says
pub exits_so : (z : Scene) (input : List ℕ) (place choice : ℕ) (e : act.Exit) → z.frame.rest ≡ [] → exit_of (value_of z.program.signature z.frame.locals) z.frame.end ≡ e →
    act.act z.program.signature input z.frame z.memory place choice ≡ exits z.program.signature z.frame z.memory place e
unfolding act.act
exits_so z input place choice e none is =
    ap (λ (ls : List MeantLine). act.acts z.program.signature input z.frame ls z.memory place choice) none
    ∙ ap (λ (x : act.Exit). exits z.program.signature z.frame z.memory place x) is

pub exit_fails : (z : Scene) (choice : ℕ) (given : Option (Option ℕ)) (cause : Cause) → ((input : List ℕ) (place : ℕ) → act.act z.program.signature input z.frame z.memory place choice ≡ act.Breaks (fault.Undefined cause)) →
    Fails z choice given (fault.Undefined cause)
exit_fails z choice given cause h = λ input place has at below. ap (λ (a : act.Act). advance z.program at below z.memory place a) (h input place)

last_length : (numbers slots front : List ℕ) → AreLast numbers slots front → length numbers ≡ length slots + length front
last_length numbers [] front h = ap length h ∙ omega arith
last_length numbers (k ∷ ks) front (rest, (e, more)) =
    let inner = last_length rest ks front more in
    omega (arith, ap length e, length-append {A = ℕ}, inner)

numbers_length : (bs : List MemoryBlock) → length (numbers_of bs) ≡ length bs
numbers_length [] = refl
numbers_length (b ∷ bs) = omega (arith, numbers_length bs)

-- how many slots a frame has
pub slot_count : (z : Scene) (code : Code) (m : Memory) (f : Frame) → Plays z code m f → length z.frame.slots ≡ length m.blocks.items - f.base
slot_count z code m f s = omega (arith, last_length (numbers_of m.blocks.items) z.frame.slots z.front s.stacks.last, numbers_length m.blocks.items, s.stacks.base)

-- as many blocks live as have numbers
pub block_count : (m : Memory) → vec_len m.blocks ≡ length (numbers_of m.blocks.items)
block_count m = omega (arith, numbers_length m.blocks.items, m.blocks.ok)
