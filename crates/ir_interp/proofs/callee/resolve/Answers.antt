use Rattle.std.proofs.Common.{◌≡◌, ℕ, ◌<◌, length, sym, ap, subst, ◌∙◌, arith}
use Rattle.ir_meaning.specs.Execute.{calls_value}
use Rattle.ir_meaning.specs.declared.value.Value.TheVariants as value
use Rattle.ir_meaning.specs.declared.value.Value.{Value as MeantValue}
use Rattle.ir_machine.specs.Meant.{base_meant, meant, symbol_at}
use Rattle.ir_machine.specs.declared.scalar.Base.TheVariants.{Function}
use Rattle.ir_interp.proofs.Positions.{past_length, got_none, got_some}
use Rattle.ir_machine.specs.Names.{IsNamed}
use Rattle.ir_machine.specs.declared.scalar.Base.{Base}
use Rattle.ir_machine.specs.declared.scalar.Scalar.{Scalar}
use Rattle.ir_interp.specs.Locals.{IsValid}
use Rattle.ir_interp.specs.Tasks.{regs_of}
use Rattle.ir_interp.proofs.Resolving.{calls_no_function, calls_no_pointer, calls_no_start}
use Rattle.ir_interp.proofs.callee.resolve.Goals as goal

pub returns-in_default : goal.returns-in_default
returns-in_default c = record {
  effect = λ names m memory locals sig input place values kinds a k.
      ap (λ (v : MeantValue). calls_value sig input memory place c.args.result_type (regs_of c.args.arguments.now) values v) (sym (c.value.ensures names m memory locals a k).0)
      ∙ calls_no_pointer names sig input memory place c.args.result_type (regs_of c.args.arguments.now) values c.value.result c.in_default.not-Pointer;
  among = tt;
}

pub returns-in_default-base : goal.returns-in_default-base
returns-in_default-base c = record {
  effect = λ names m memory locals sig input place values kinds a k.
      ap (λ (v : MeantValue). calls_value sig input memory place c.args.result_type (regs_of c.args.arguments.now) values v)
      (sym (c.value.ensures names m memory locals a k).0 ∙ ap (meant names) c.in-Pointer.is)
      ∙ calls_no_function names sig input memory place c.args.result_type (regs_of c.args.arguments.now) values c.in-Pointer.pointer.base c.in-Pointer.pointer.offset c.in_default-base.not-Function;
  among = tt;
}

pub returns-then-pointer-ne0-clause-effect : goal.returns-then-pointer-ne0-clause-effect
returns-then-pointer-ne0-clause-effect c = λ names m memory locals sig input place values kinds a k.
    ap (λ (v : MeantValue). calls_value sig input memory place c.args.result_type (regs_of c.args.arguments.now) values v)
    (sym (c.value.ensures names m memory locals a k).0 ∙ ap (meant names) c.in-Pointer.is)
    ∙ calls_no_start sig input memory place c.args.result_type (regs_of c.args.arguments.now) values (base_meant names c.in-Pointer.pointer.base) c.in-Pointer.pointer.offset c.if-pointer-ne0.true

pub returns-in-None-clause-effect : goal.returns-in-None-clause-effect
returns-in-None-clause-effect c = λ names m memory locals sig input place values kinds a k.
    let past = got_none c.args.entities.now c.in-Function.index c.get.result c.in-None.is c.get.ensures.lookup.3 in
    let valid = subst (λ (v : Scalar). IsValid names m memory v) c.in-Pointer.is (c.value.ensures names m memory locals a k).1 in
    let named : c.in-Function.index < length names = subst (λ (b : Base). IsNamed names b) c.in-Function.is valid.1 in
    absurd (omega (arith, past_length c.args.entities.now c.in-Function.index past, named, kinds.long))

pub returns-in-Some-clause-effect : goal.returns-in-Some-clause-effect
returns-in-Some-clause-effect c = λ names m memory locals sig input place values kinds a k.
    let at = got_some c.args.entities.now c.in-Function.index c.get.result c.in-Some.entity c.in-Some.is c.get.ensures.lookup.1 c.get.ensures.lookup.3 in
    let start : c.in-Pointer.pointer.offset ≡ 0 = omega (arith, c.if-pointer-ne0.false) in
    ap (λ (v : MeantValue). calls_value sig input memory place c.args.result_type (regs_of c.args.arguments.now) values v)
    (sym (c.value.ensures names m memory locals a k).0 ∙ ap (meant names) c.in-Pointer.is ∙ ap (λ (b : Base). value.Pointer (base_meant names b) c.in-Pointer.pointer.offset) c.in-Function.is ∙ ap (λ (n : ℕ). value.Pointer (base_meant names (Function c.in-Function.index)) n) start)
    ∙ c.resolve_entity.ensures.effect names (sig.kind (symbol_at names c.in-Function.index)) input memory place values (kinds.kinds c.in-Function.index c.in-Some.entity.now at)
