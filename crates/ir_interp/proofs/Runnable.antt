-- Code whose lines can run, list by list and place by place.
use Rattle.std.proofs.Common.{◌≡◌, ◌↔◌, ℕ, zero, suc, ◌+◌, ◌<◌, ◌≤◌, Bool, true, false, true≢false, List, [], ◌∷◌, slice_get, length, Option, Some, None, refl, sym, ap, subst, ◌∙◌}
use Rattle.std.specs.Prelude.{All}
use Rattle.std.proofs.lemmas.List.Elements.{All-cons, All-head, All-nil, All-tail}
use Rattle.ir_interp.specs.Tasks.{CanRun}
use Rattle.ir_interp.specs.declared.line.CodeLine.{CodeLine}
use Rattle.ir_interp.specs.Code.{IsRunnable, block_in, function_in, function_of}
use Rattle.ir_interp.specs.Sound.{AreSound, IsBodySound}
use Rattle.ir_interp.specs.Steps.{CanBegin}
use Rattle.ir_interp.specs.declared.code.Block.{Block}
use Rattle.ir_interp.specs.declared.code.Code.{Code}
use Rattle.ir_interp.specs.declared.code.Function.{Function}

-- what holds of each holds of what is there
all_there : {X : Type 0} (P : X → Type 0) (xs : List X) → All P xs → (k : ℕ) (x : X) → slice_get xs k ≡ Some x → P x
all_there P [] h k x e = absurd (cc e)
all_there {X} P (y ∷ xs) h zero x e = let same : y ≡ x = cc e in subst P same (All-head P y xs h)
all_there P (y ∷ xs) h (suc k) x e = all_there P xs (All-tail P y xs h) k x e

all_of : {X : Type 0} (P : X → Type 0) (xs : List X) → ((k : ℕ) (x : X) → slice_get xs k ≡ Some x → P x) → All P xs
all_of P [] h = All-nil P
all_of P (y ∷ xs) h = All-cons P y xs (h 0 y refl) (all_of P xs (λ k x e. h (suc k) x e))

pub runs_where_sound : (code : Code) → All IsBodySound code.functions.items → IsRunnable code
runs_where_sound code h i q c k line at here = by (slice_get code.functions.items i) refl at where
  by : (o : Option (Option Function)) → slice_get code.functions.items i ≡ o → block_in (function_in o) q ≡ Some c → CanRun line.task
  by None e there = absurd (cc there)
  by (Some None) e there = absurd (cc there)
  by (Some (Some f)) e there =
      let body = all_there IsBodySound code.functions.items h i (Some f) e in
      let block = all_there (λ (b : Block). AreSound b.lines.items) f.blocks.items body q c there in
      all_there (λ (l : CodeLine). CanRun l.task) c.lines.items block k line here

pub sound_where_runs : (code : Code) → IsRunnable code → All IsBodySound code.functions.items
sound_where_runs code h = all_of IsBodySound code.functions.items (λ i o e. by i o e) where
  by : (i : ℕ) (o : Option Function) → slice_get code.functions.items i ≡ Some o → IsBodySound o
  by i None e = tt
  by i (Some f) e =
      all_of (λ (b : Block). AreSound b.lines.items) f.blocks.items
      (λ q c at.
      all_of (λ (l : CodeLine). CanRun l.task) c.lines.items
      (λ k line here. h i q c k line (ap (λ (o : Option (Option Function)). block_in (function_in o) q) e ∙ at) here))

-- the function that is there is the one that takes so many arguments
pub begins_there : (code : Code) (root n : ℕ) (f : Function) → function_of code root ≡ Some f → CanBegin code root n → length f.params.items ≡ n
begins_there code root n f is (g, (there, long)) =
    let same : g ≡ f = cc (sym there ∙ is) in
    subst (λ (x : Function). length x.params.items ≡ n) same long

pub begins_nowhere : (code : Code) (root n : ℕ) → function_of code root ≡ None → CanBegin code root n → ⊥
begins_nowhere code root n none (g, (there, long)) = cc (sym none ∙ there)

-- what is equivalent to a claim of a value is so to the claim of an equal one
pub same_claim : {X A : Type 0} (P : X → Type 0) (x y : X) → x ≡ y → (A ↔ P y) → (A ↔ P x)
same_claim P x y is both = (λ a. subst P (sym is) (both.0 a), λ h. both.1 (subst P is h))

-- what is false is equivalent to a claim that it follows from
pub no_claim : {A : Type 0} (b : Bool) → b ≡ false → (A → b ≡ true) → (b ≡ true) ↔ A
no_claim b is claims = (λ e. absurd (true≢false (sym e ∙ is)), claims)

pub false_claim : {A : Type 0} (b : Bool) → b ≡ false → (A → b ≡ true) → (false ≡ true) ↔ A
false_claim b is claims = (λ e. absurd (true≢false (sym e)), λ h. sym is ∙ claims h)
