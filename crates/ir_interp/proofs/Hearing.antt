-- `getchar`, with what is given.
use Rattle.std.proofs.Common.{◌≡◌, ℕ, List, slice_get, Option, Some, None, refl, ap, subst, ◌∙◌}
use Rattle.ir_tree.specs.declared.instr.Line.{Line as MeantLine}
use Rattle.ir_meaning.specs.Act.{Goes, apply}
use Rattle.ir_meaning.specs.Execute.{gets_char}
use Rattle.ir_meaning.specs.Frame.{Frame as MeantFrame}
use Rattle.ir_meaning.specs.Memory.{Memory as MeantMemory}
use Rattle.ir_interp.specs.Scenes.{Acts, Asks, Has, Heard, Hears, Scene, behind, events_of, with_result}

-- the number that `getchar` answers
abbrev pub number_of : Option ℕ → ℕ
number_of None = 4294967295
number_of (Some byte) = byte

gets : (d : MeantFrame) (memory : MeantMemory) (rest : List MeantLine) (local : Option ℕ) (place : ℕ) (byte : Option ℕ) →
    apply (record d { rest = rest }) local (gets_char memory place byte) ≡ Goes (with_result d rest local (number_of byte)) memory (behind (Heard byte) place) (events_of (Heard byte))
gets d memory rest local place None = refl
gets d memory rest local place (Some byte) = refl

pub hears : (z : Scene) (choice : ℕ) (given : Option (Option ℕ)) (local : Option ℕ) (rest : List MeantLine) (byte : Option ℕ) → given ≡ Some byte → Hears z local rest →
    Acts z choice given (λ place. Goes (with_result z.frame rest local (number_of byte)) z.memory (behind (Heard byte) place) (events_of (Heard byte)))
hears z choice given local rest byte is h = λ input place has.
    let at : slice_get input place ≡ byte = subst (λ (o : Option (Option ℕ)). Has input place o) is has in
    h input place choice ∙ ap (λ (o : Option ℕ). apply (record z.frame { rest = rest }) local (gets_char z.memory place o)) at ∙ gets z.frame z.memory rest local place byte

pub asks : (z : Scene) (local : Option ℕ) (rest : List MeantLine) → Hears z local rest → Asks z
asks z local rest h = λ input place choice.
    (with_result z.frame rest local (number_of (slice_get input place)), (z.memory, (behind (Heard (slice_get input place)) place, h input place choice ∙ gets z.frame z.memory rest local place (slice_get input place))))
