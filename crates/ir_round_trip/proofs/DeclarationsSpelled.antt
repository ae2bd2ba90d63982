-- The declaration of a value that its text tells is such: its parameters are numbered along its text, and nothing is behind them.
use Rattle.std.proofs.Common.{◌≡◌, ℕ, suc, ◌+◌, ◌≤◌, List, [], ◌∷◌, length, arith, refl, sym, ap, subst}
use Rattle.std.proofs.lemmas.List.Elements.{All-nil}
use Rattle.ir_parse.specs.Modules.{FURTHER_PARAMETERS}
use Rattle.ir_tree.specs.declared.function.Param.{Param}
use Rattle.ir_tree.specs.declared.module.GlobalValue.TheVariants as global
use Rattle.lto_task.specs.Declarations.{numbered_from}
use Rattle.ir_round_trip.specs.Renamed.{DeclarationsAreSpelled}
use Rattle.ir_round_trip.specs.Sorts.{ParamsFollow}

params_follow : (n : ℕ) (ps : List Param) → ParamsFollow n (numbered_from n ps)
params_follow n [] = tt
params_follow n (p ∷ ps) = (refl, params_follow (n + 1) ps)

as_many : (n : ℕ) (ps : List Param) → length (numbered_from n ps) ≡ length ps
as_many n [] = refl
as_many n (p ∷ ps) = ap suc (as_many (n + 1) ps)

pub declarations_spelled : DeclarationsAreSpelled
declarations_spelled (global.Variable v) s = record { name = s.name; within = record { counts = s.within.counts; offsets = All-nil _ }; locals = tt; strings = tt }
declarations_spelled (global.Function f) s = record {
  name = s.name;
  within = record {
    few_parameters = subst (λ (n : ℕ). n ≤ suc FURTHER_PARAMETERS) (sym (as_many 0 f.params)) s.within.few_parameters;
    few_blocks = omega arith;
    few_instructions = omega arith;
    items = All-nil _;
  };
  locals = (params_follow 0 f.params, tt);
  strings = tt;
}
