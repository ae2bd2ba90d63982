use Rattle.std.proofs.Common.{◌≡◌, ◌∙◌, Option, Some, None, sym, ap}
use Rattle.std.proofs.lemmas.Bool.{false≢true}
use Rattle.ir_tree.specs.Names.{quoted, unquoted}
use Rattle.ir_tree.proofs.NamesAgain.{quoted_again}
use Rattle.lto_task.proofs.taking_apart.name.Goals as goal

same : {X : Type 0} (o : Option X) (x y : X) → o ≡ Some x → o ≡ Some y → x ≡ y
same o x y is also = let e : Some x ≡ Some y = sym is ∙ also in cc

pub returns-else-branch : goal.returns-else-branch
returns-else-branch c = λ n all is.
    let one : c.in-Some.name ≡ n = same c.in_ok-name.field-0 c.in-Some.name n c.in-Some.is (c.in_ok-name.ensures ∙ ap unquoted is ∙ quoted_again n all) in
    false≢true (sym c.if-branch.false ∙ c.in_ok-is_quoted-in-Some.ensures.1 (is ∙ ap quoted (sym (c.as_slice-in-Some.ensures ∙ one))))

pub returns-in-None : goal.returns-in-None
returns-in-None c = λ n all is.
    let clash : Some n ≡ None = sym (quoted_again n all) ∙ ap unquoted (sym is) ∙ sym c.in_ok-name.ensures ∙ c.in-None.is in
    cc
