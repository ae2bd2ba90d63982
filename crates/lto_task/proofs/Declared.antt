-- The declaration of a formed value is formed, and sound: its parameters have the numbers of their places, and it has no items.
use Rattle.std.proofs.Common.{◌≡◌, ◌∙◌, ℕ, zero, suc, ◌+◌, false, List, [], ◌∷◌, ◌++◌, map, Some, append-nil, arith, refl, sym, subst}
use Rattle.std.specs.List.{slice_get}
use Rattle.std.specs.Prelude.{All}
use Rattle.std.proofs.lemmas.List.Elements.{All-cons, All-head, All-nil, All-tail}
use Rattle.ir_tree.specs.Formed.{Distinct, Formed, IsReg}
use Rattle.ir_tree.specs.Rules.{Keeps, Sound}
use Rattle.ir_tree.specs.declared.function.Function.{Function}
use Rattle.ir_tree.specs.declared.function.Linkage.TheVariants.{External}
use Rattle.ir_tree.specs.declared.function.Param.{Param}
use Rattle.ir_tree.specs.declared.module.GlobalValue.TheVariants as global
use Rattle.lto_task.specs.Declarations.{DeclarationsAreSound, numbered_from}

abbrev numbers_of : List Param → List ℕ
numbers_of ps = map (λ p. p.local) ps

at_place : (n : ℕ) (ps : List Param) (i x : ℕ) → slice_get (numbers_of (numbered_from n ps)) i ≡ Some x → x ≡ n + i
at_place n [] i x e = absurd (cc e)
at_place n (p ∷ ps) zero x e = let same : n ≡ x = cc e in omega (arith, same)
at_place n (p ∷ ps) (suc i) x e = let rest : x ≡ n + 1 + i = at_place (n + 1) ps i x e in omega (arith, rest)

once : (ps : List Param) → Distinct (numbers_of (numbered_from 0 ps))
once ps i j x a b =
    let here : x ≡ 0 + i = at_place 0 ps i x a in
    let there : x ≡ 0 + j = at_place 0 ps j x b in
    omega (arith, here, there)

typed : (n : ℕ) (ps : List Param) → All (λ (p : Param). IsReg p.reg) ps → All (λ (p : Param). IsReg p.reg) (numbered_from n ps)
typed n [] h = All-nil _
typed n (p ∷ ps) h =
    All-cons (λ (p : Param). IsReg p.reg) (record { local = n; reg = p.reg }) (numbered_from (n + 1) ps) (All-head (λ (p : Param). IsReg p.reg) p ps h)
    (typed (n + 1) ps (All-tail (λ (p : Param). IsReg p.reg) p ps h))

abbrev declared : Function → Function
declared f = record f { linkage = External; params = numbered_from 0 f.params; noinline = false; optnone = false; blocks = [] }

function_formed : (f : Function) → Formed f → Formed (declared f)
function_formed f h = record {
  result = h.result;
  params = typed 0 f.params h.params;
  once = subst (λ (xs : List ℕ). Distinct xs) (sym (append-nil (numbers_of (numbered_from 0 f.params) ++ []) ∙ append-nil (numbers_of (numbered_from 0 f.params)))) (once f.params);
  items = All-nil _;
  declared = λ none. (refl, refl, refl);
}

function_sound : (f : Function) → Formed f → Sound (declared f)
function_sound f h = record { formed = function_formed f h; rules = λ rule. All-nil (Keeps (declared f) rule) }

pub declarations_sound : DeclarationsAreSound
declarations_sound (global.Variable v) h = (record { shape = h.shape; align = h.align; operands = All-nil _; declared = λ none. refl }, tt)
declarations_sound (global.Function f) h = (function_formed f h, function_sound f h)
