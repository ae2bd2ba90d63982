-- What a frame did at the end of its block, by where its terminator leads.
use Rattle.std.proofs.Common.{◌≡◌, ℕ, true, false, [], Option, Some, None, refl, subst, ◌∙◌}
use Rattle.ir_meaning.specs.Act as act
use Rattle.ir_meaning.specs.Act.{Leads', Leaves, Stuck, exit_of, jumps}
use Rattle.ir_meaning.specs.Frame.{value_of}
use Rattle.ir_meaning.specs.Memory.{Memory as MeantMemory, kill}
use Rattle.ir_tree.specs.declared.cause.Cause.{Cause}
use Rattle.ir_tree.specs.declared.cause.Cause.TheVariants.{UnreachableReached}
use Rattle.ir_machine.specs.Memories.{KeepsHandles, numbers_of}
use Rattle.ir_machine.specs.declared.memory.Memory.{Memory}
use Rattle.ir_machine.specs.declared.scalar.Scalar.{Scalar}
use Rattle.ir_interp.specs.Locals.{IsMemory}
use Rattle.ir_interp.proofs.SourcesKept.{keep_valid}
use Rattle.ir_interp.specs.Exits.{IsExitKnown, IsLeft, exit_meant, left_meant}
use Rattle.ir_interp.specs.declared.exit.Left.{Left}
use Rattle.ir_interp.specs.declared.exit.Left.TheVariants as left
use Rattle.ir_interp.specs.Code.{at_positions, block_of, position}
use Rattle.ir_interp.specs.Scenes.{HasDone, HasJumped, IsValidAnswer, Plays, Scene, Silent, answer_meant}
use Rattle.ir_interp.specs.declared.code.Block.{Block}
use Rattle.ir_interp.specs.declared.code.Code.{Code}
use Rattle.ir_interp.specs.declared.frame.Did.TheVariants as did
use Rattle.ir_interp.specs.declared.frame.Frame.{Frame}
use Rattle.ir_interp.proofs.Jumping.{exit_leads, exit_leaves, exit_stuck}
use Rattle.ir_interp.proofs.Leaving.{exit_fails, exits_so, leads_so}

-- what `leave` says of its answer
abbrev pub IsLeaving : Scene → Memory → Block → Left → Type 0
IsLeaving z m c answer = IsExitKnown z.names m z.memory c.exit → IsLeft z.names m z.memory (exit_meant z.names z.frame.locals c.exit) answer

-- the terminator leads so, and what it returns is valid
left_so : (z : Scene) (code : Code) (m : Memory) (f : Frame) (c : Block) (answer to : Left) → Plays z code m f → block_of code f.function f.block ≡ Some c → answer ≡ to → IsLeaving z m c answer →
    (at_positions z.frame.function.blocks (exit_of (value_of z.program.signature z.frame.locals) z.frame.end) ≡ left_meant z.names to) × IsLeft z.names m z.memory (exit_meant z.names z.frame.locals c.exit) to
left_so z code m f c answer to s here is h =
    let got = subst (λ (x : Left). IsLeft z.names m z.memory (exit_meant z.names z.frame.locals c.exit) x) is (h (s.knows m z.memory (λ k x. x) f.function f.block c here).exit) in
    (leads_so z code m f c to s here got.0, got)

pub exit_stops : (z : Scene) (code : Code) (m : Memory) (f : Frame) (c : Block) (answer : Left) (cause : Cause) (choice : ℕ) (given : Option (Option ℕ)) → Plays z code m f → block_of code f.function f.block ≡ Some c → z.frame.rest ≡ [] →
    answer ≡ left.Undefined cause → IsLeaving z m c answer → HasDone z choice given m m f f (did.Undefined cause)
exit_stops z code m f c answer cause choice given s here none is h =
    let e = exit_stuck z.frame.function.blocks _ cause (left_so z code m f c answer (left.Undefined cause) s here is h).0 in
    (exit_fails z choice given cause (λ input place. exits_so z input place choice (Stuck cause) none e), record { function = refl; block = refl; line = refl; base = refl })

-- the number of the block that a terminator leads to
pub exit_target : (z : Scene) (code : Code) (m : Memory) (f : Frame) (c : Block) (answer : Left) (target : ℕ) → Plays z code m f → block_of code f.function f.block ≡ Some c → answer ≡ left.To target → IsLeaving z m c answer →
    (t : ℕ) × ((exit_of (value_of z.program.signature z.frame.locals) z.frame.end ≡ Leads' t) × (target ≡ position z.frame.function.blocks t))
exit_target z code m f c answer target s here is h = exit_leads z.frame.function.blocks _ target (left_so z code m f c answer (left.To target) s here is h).0

pub exit_goes : (z : Scene) (m : Memory) (f f' : Frame) (t choice : ℕ) (given : Option (Option ℕ)) → z.frame.rest ≡ [] → exit_of (value_of z.program.signature z.frame.locals) z.frame.end ≡ Leads' t → HasJumped z m f f' t true → HasDone z choice given m m f f' did.Went
exit_goes z m f f' t choice given none e (frame, (goes, on)) =
    (Silent, (z.memory, (frame, (tt, λ input place has. exits_so z input place choice (Leads' t) none e ∙ goes place, on))))

pub exit_nowhere : (z : Scene) (m : Memory) (f f' : Frame) (t choice : ℕ) (given : Option (Option ℕ)) → z.frame.rest ≡ [] → exit_of (value_of z.program.signature z.frame.locals) z.frame.end ≡ Leads' t → HasJumped z m f f' t false →
    HasDone z choice given m m f f' (did.Undefined UnreachableReached)
exit_nowhere z m f f' t choice given none e (stops, stays) =
    (exit_fails z choice given UnreachableReached (λ input place. exits_so z input place choice (Leads' t) none e ∙ stops place), stays)

kept_answer : (z : Scene) (m m' : Memory) (after : MeantMemory) (answer : Option Scalar) → KeepsHandles m z.memory m' after → IsValidAnswer z.names m z.memory answer → IsValidAnswer z.names m' after answer
kept_answer z m m' after None k v = tt
kept_answer z m m' after (Some v) k valid = keep_valid z.names m z.memory m' after v k valid

returned_so : (z : Scene) (m : Memory) (e : act.Exit) (answer : Option Scalar) → IsLeft z.names m z.memory e (left.Returned answer) → (left_meant z.names (left.Returned answer) ≡ Leaves (answer_meant z.names answer)) × IsValidAnswer z.names m z.memory answer
returned_so z m e None h = (refl, tt)
returned_so z m e (Some v) h = (refl, h.1)

pub exit_returns : (z : Scene) (code : Code) (m m' : Memory) (f f' : Frame) (c : Block) (answer : Left) (value : Option Scalar) (choice : ℕ) (given : Option (Option ℕ)) → Plays z code m f → block_of code f.function f.block ≡ Some c → z.frame.rest ≡ [] →
    answer ≡ left.Returned value → IsLeaving z m c answer →
    (IsMemory z.names m' (kill z.frame.slots z.memory) × KeepsHandles m z.memory m' (kill z.frame.slots z.memory) × (numbers_of m'.blocks.items ≡ z.front)) → HasDone z choice given m m' f f' (did.Gives value)
exit_returns z code m m' f f' c answer value choice given s here none is h (holds, keeps, numbers) =
    let got = left_so z code m f c answer (left.Returned value) s here is h in
    let so = returned_so z m _ value got.1 in
    let e = exit_leaves z.frame.function.blocks _ (answer_meant z.names value) (got.0 ∙ so.0) in
    record {
      after = kill z.frame.slots z.memory;
      acts = λ input place has. exits_so z input place choice (Leaves (answer_meant z.names value)) none e;
      holds = holds;
      keeps = keeps;
      numbers = numbers;
      valid = kept_answer z m m' (kill z.frame.slots z.memory) value keeps so.1;
    }
