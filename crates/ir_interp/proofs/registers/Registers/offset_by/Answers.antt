use Rattle.std.proofs.Common.{◌≡◌, ◌+◌, ℤ, List, ◌∷◌, Option, None, get_or, drop, sym, ap, ◌∙◌, w64, FitsSigned, rules, arith}
use Rattle.std.proofs.lemmas.Int.{to_z-of_z}
use Rattle.std.proofs.lemmas.List.{drop_all}
use Rattle.ir_tree.specs.declared.operand.Reg.TheVariants.{Int}
use Rattle.ir_meaning.specs.Frame.{index_of}
use Rattle.ir_meaning.specs.declared.value.Value.{Value as MeantValue}
use Rattle.ir_machine.specs.Walking.{ends_at}
use Rattle.ir_interp.specs.Locals.{source_meant}
use Rattle.ir_interp.specs.Tasks.{indices_meant}
use Rattle.ir_interp.specs.declared.source.Source.TheVariants.{Register}
use Rattle.ir_interp.specs.declared.source.Typed.{Typed}
use Rattle.ir_interp.proofs.Walking.{indices_split, typed_known, walk_none, walk_steps, walked}
use Rattle.ir_interp.proofs.registers.Registers.offset_by.Goals as goal

none : Typed
none = record { reg = Int 0; source = Register 0 }

pub returns-in_err-number : goal.returns-in_err-number
unfolding none
returns-in_err-number c = λ names m memory locals a k.
    let ts = c.args.indices.now in
    let i = c.loop-index.index-index in
    let t = get_or ts i none in
    let reads = c.value.ensures names m memory locals a (typed_known names m memory ts i none k c.loop-index-test.true) in
    let poison : index_of t.reg (source_meant names locals t.source) ≡ None = ap (λ (v : MeantValue). index_of t.reg v) (sym reads.0) ∙ sym (c.in_err-number.ensures names) in
    c.from_residual.ensures
    ∙ sym (walk_none c.args.inbounds c.loop-index.walk (index_of t.reg (source_meant names locals t.source)) (indices_meant names locals (drop (i + 1) ts)) poison)
    ∙ ap (λ (is : Option (List ℤ)). walked c.args.inbounds c.loop-index.walk is) (indices_split names locals ts i none c.loop-index-test.true)
    ∙ c.loop-index.invariant.rest names m memory locals a k

pub loop-index-preserved : goal.loop-index-preserved
unfolding none
loop-index-preserved c = record {
  sized = c.index-walk.ensures.sized;
  rest = λ names m memory locals a k.
      let ts = c.args.indices.now in
      let i = c.loop-index.index-index in
      let t = get_or ts i none in
      let number = c.in_ok-number.number in
      let fits : FitsSigned w64 c.in_ok-number.number = search rules in
      let reads = c.value.ensures names m memory locals a (typed_known names m memory ts i none k c.loop-index-test.true) in
      let is = ap (λ (v : MeantValue). index_of t.reg v) (sym reads.0) ∙ sym (c.in_ok-number.ensures names) in
      walk_steps c.args.inbounds c.loop-index.walk c.index-walk.result (index_of t.reg (source_meant names locals t.source)) number (indices_meant names locals (drop (i + 1) ts)) is
      (λ js. c.index-walk.ensures.ends c.args.inbounds js ∙ ap (λ (z : ℤ). ends_at c.args.inbounds c.loop-index.walk (z ∷ js)) (to_z-of_z w64 number fits))
      ∙ ap (λ (js : Option (List ℤ)). walked c.args.inbounds c.loop-index.walk js) (indices_split names locals ts i none c.loop-index-test.true)
      ∙ c.loop-index.invariant.rest names m memory locals a k;
}

pub returns : goal.returns
returns c = λ names m memory locals a k.
    let none = drop_all c.loop-index.index-index c.args.indices.now (omega (arith, c.loop-index-test.false)) in
    c.end.ensures
    ∙ sym (ap (λ (ts : List Typed). walked c.args.inbounds c.loop-index.walk (indices_meant names locals ts)) none)
    ∙ c.loop-index.invariant.rest names m memory locals a k
