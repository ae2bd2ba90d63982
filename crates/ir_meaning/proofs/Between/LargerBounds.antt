-- A larger bound serves as well.
use Rattle.std.proofs.Common.{ℕ, zero, suc, ◌≤◌, [], refl, arith}
use Rattle.ir_meaning.specs.Act.{act, enter}
use Rattle.ir_meaning.specs.Frame.{Frame}
use Rattle.ir_meaning.specs.Memory.{Memory}
use Rattle.ir_meaning.specs.Near.{Setting, Near}
use Rattle.ir_meaning.specs.Program.{State}
use Rattle.ir_meaning.specs.Relate.{Point}
use Rattle.ir_meaning.specs.Laws.{LargerBounds}
use Rattle.ir_meaning.proofs.Alike.Answering.{bounded, answered_after}
use Rattle.ir_meaning.proofs.Runs.Stacks.{answered_map}

near_wider : (z : Setting) (b : ℕ) → b ≤ z.bound → (n : ℕ) (entry : Point) (a : Frame) (m : Memory) (s : State) →
    Near (bounded z b) n entry a m s → Near z n entry a m s
near_wider z b le zero entry a m s h = tt
near_wider z b le (suc n) entry a m s h = λ choice.
    answered_after z 0 b (omega (arith, le)) (Near z n entry) entry m s s (refl, refl) refl
    (act z.program.signature z.input a m s.place choice)
    (answered_map (bounded z b) (Near (bounded z b) n entry) (Near z n entry)
    (λ a' m' s' h'. near_wider z b le n entry a' m' s' h') entry m s (act z.program.signature z.input a m s.place choice)
    (h choice))

pub wider : LargerBounds
wider p b1 b2 le f g better input n entry vs us place rel fix agree =
    near_wider (record { program = p; input = input; bound = b2 }) b1 le n entry (enter f vs) entry.left
    (record { top = enter g us; below = []; memory = entry.right; place = place })
    (better input n entry vs us place rel fix agree)
