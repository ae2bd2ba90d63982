-- What is accepted is accepted as one module, and isn't refused.
use Rattle.std.proofs.Common.{◌≡◌, ◌<◌, ℕ, zero, suc, List, [], ◌∷◌, Option, Some, length, inl, inr, subst, arith}
use Rattle.std.specs.Prelude.{All, slice_get, slice_index_or}
use Rattle.ir_tree.specs.declared.module.Module.{Module}
use Rattle.ir_parse.specs.Laws.{Apart, OneReading}
use Rattle.lto_fault.specs.declared.kind.RefusalKind.{RefusalKind}
use Rattle.link_one.specs.Accepted.{Accepts, Refuses}
use Rattle.ir_tree.specs.Items.{items}
use Rattle.ir_tree.specs.Rules.{Keeps}
use Rattle.ir_tree.specs.Wholes.{GlobalBreaks, GlobalSound}
use Rattle.ir_tree.specs.declared.module.GlobalValue.{GlobalValue}
use Rattle.ir_tree.specs.declared.module.GlobalValue.TheVariants as global
use Rattle.ir_tree.specs.declared.rule.Rule.{Rule}
use Rattle.merge_meaning.proofs.Looked.{some_is}

found : {X : Type 0} (xs : List X) (i : ℕ) (x : X) → slice_get xs i ≡ Some x → (i < length xs) × (slice_index_or xs i x ≡ x)
found [] i x e = absurd (cc e)
found (y ∷ ys) zero x e = (omega arith, some_is y x e)
found (y ∷ ys) (suc i) x e = (omega (arith, (found ys i x e).0), (found ys i x e).1)

at_place : {X : Type 0} (P : X → Type 0) (xs : List X) (i : ℕ) (x : X) → All P xs → slice_get xs i ≡ Some x → P x
at_place P xs i x all e = subst P (found xs i x e).1 (all i x (found xs i x e).0)

-- a sound global value breaks no rule
unbroken : (g : GlobalValue) (lines : List ℕ) (rule : Rule) (line : ℕ) → GlobalSound g → GlobalBreaks g lines rule line → ⊥
unbroken (global.Variable v) lines rule line sound broken = broken.2 sound
unbroken (global.Function f) lines rule line sound (i, item, here, on, broken) = broken (at_place (Keeps f rule) (items f) i item (sound.rules rule) here)

pub accepted_is_one : OneReading → (bytes : List ℕ) (m n : Module) → Accepts bytes m → Accepts bytes n → m ≡ n
accepted_is_one one_reading bytes m n a b = (one_reading bytes m n a.lines b.lines a.reads b.reads).0

pub accepted_not_refused : OneReading → Apart → (bytes : List ℕ) (m : Module) (line : ℕ) (kind : RefusalKind) → Accepts bytes m → Refuses bytes line kind → ⊥
accepted_not_refused one_reading apart bytes m line kind a (inl unread) = apart bytes m a.lines line unread.fault a.reads unread.first
accepted_not_refused one_reading apart bytes m line kind a (inr unsound) =
    unbroken unsound.least.broken.global unsound.least.broken.on unsound.fault.kind unsound.fault.line
    (at_place GlobalSound unsound.m.globals unsound.least.place unsound.least.broken.global
    (subst (λ (n : Module). All GlobalSound n.globals) (one_reading bytes m unsound.m a.lines unsound.lines a.reads unsound.reads).0 a.verified.sound)
    unsound.least.broken.got)
    unsound.least.broken.broken
