use Rattle.std.proofs.Common.{◌≡◌, ◌∙◌, ℕ, List, Option, IfSome, length, refl, ap, sym, subst}
use Rattle.std.specs.Prelude.{All}
use Rattle.ir_tree.specs.declared.function.Param.{Param}
use Rattle.lto_words.specs.declared.list.Decimal.{Decimal}
use Rattle.ir_interp.specs.Steps.{CanBegin}
use Rattle.run_program.specs.Arguments.{IsGiven, IsTyped}
use Rattle.run_program.specs.Roots.{IsBegun, IsRoot, NoRoot}
use Rattle.run_program.specs.Starting.{arguments}
use Rattle.run_program.specs.declared.root.Begun.{Begun}
use Rattle.run_program.proofs.Rooting.{begun_gives, can_begin, none_begins, root_begins}
use Rattle.run_program.proofs.root.begin.Goals as goal

pub returns-in_default-clause-found : goal.returns-in_default-clause-found
returns-in_default-clause-found c =
    none_begins c.args.globals.now c.args.options.now.root c.args.options.now.args
    (subst (λ (name : List ℕ). NoRoot c.args.globals.now name) c.as_slice-name.ensures (c.in_default.ensures.none refl))

pub root_function-requires : goal.root_function-requires
root_function-requires c = c.requires

pub arguments-requires : goal.arguments-requires
arguments-requires c = subst (λ (ps : List Param). All (λ (p : Param). IsTyped p.reg) ps) (sym c.as_slice-params.ensures) c.in-Some.ensures.params

pub returns : goal.returns
returns c =
    let gs = c.args.globals.now in
    let options = c.args.options.now in
    let i = c.in-Some.root.index in
    let f = c.in-Some.root.function.now in
    let r : IsRoot gs options.root i f = subst (λ (name : List ℕ). IsRoot gs name i f) c.as_slice-name.ensures c.in-Some.ensures.some in
    let takes : c.in_ok-taken.taken ≡ arguments f.params options.args =
    c.in_ok-taken.ensures ∙ ap (λ (ps : List Param). arguments ps c.as_slice-given.result.now) c.as_slice-params.ensures ∙ ap (λ (ds : List Decimal). arguments f.params ds) c.as_slice-given.ensures in
    record {
      begins =
          subst (λ (o : Option Begun). IfSome o (λ (b : Begun). CanBegin c.args.lowered.now.code b.index (length b.numbers))) (sym c.begun_with.ensures)
          (can_begin c.args.lowered.now.code i f options.args c.in_ok-taken.taken c.in-Some.ensures.begins takes);
      gives = subst (λ (o : Option Begun). IfSome o (λ (b : Begun). IsGiven b.gives)) (sym c.begun_with.ensures) (begun_gives i f c.in_ok-taken.taken c.in-Some.ensures.gives);
      found = subst (λ (o : Option Begun). IsBegun gs options.root options.args o) (sym c.begun_with.ensures) (root_begins gs options.root options.args i f r c.in_ok-taken.taken takes);
    }
