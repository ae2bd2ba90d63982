-- The functions of the outside are formed and sound.
use Rattle.std.proofs.Common.{ℕ, zero, suc, [], ◌∷◌, refl, arith}
use Rattle.std.proofs.lemmas.List.Elements.{All-cons, All-nil}
use Rattle.ir_tree.specs.Formed.{Distinct, IsReg}
use Rattle.ir_tree.specs.Wholes.{GlobalFormed, GlobalSound}
use Rattle.ir_tree.specs.declared.function.Param.{Param}
use Rattle.ir_tree.specs.declared.operand.Reg.TheVariants.{Int}
use Rattle.merge_meaning.specs.Hosts.{getchar, putchar}

one_param : Distinct {X = ℕ} (0 ∷ [])
one_param zero zero x a b = refl
one_param zero (suc j) x a b = absurd (cc b)
one_param (suc i) j x a b = absurd (cc a)

pub getchar_formed : GlobalFormed getchar
getchar_formed = record { result = (omega arith, omega arith); params = All-nil _; once = λ i j x a b. absurd (cc a); items = All-nil _; declared = λ none. (refl, refl, refl) }

pub putchar_formed : GlobalFormed putchar
putchar_formed = record {
  result = (omega arith, omega arith);
  params = All-cons (λ (p : Param). IsReg p.reg) (record { local = 0; reg = Int 32 }) [] (omega arith, omega arith) (All-nil _);
  once = one_param;
  items = All-nil _;
  declared = λ none. (refl, refl, refl);
}

pub getchar_sound : GlobalSound getchar
getchar_sound = record { formed = getchar_formed; rules = λ rule. All-nil _ }

pub putchar_sound : GlobalSound putchar
putchar_sound = record { formed = putchar_formed; rules = λ rule. All-nil _ }
