-- Inlining changes blocks alone.
use Rattle.std.proofs.Common.{◌≢◌, ◌∙◌, ℕ, List, [], ◌∷◌, ◌++◌, map, Option, Some, None, refl, sym, subst}
use Rattle.ir_tree.specs.declared.function.Function.{Function}
use Rattle.ir_tree.specs.declared.instr.Incoming.{Incoming}
use Rattle.ir_tree.specs.declared.operand.Operand.TheVariants.{Poison}
use Rattle.ir_tree.specs.declared.operand.Reg.{Reg}
use Rattle.ir_tree.specs.Edited.{block_edited}
use Rattle.ir_edit.specs.Substituted.{operand_replaced, replacement}
use Rattle.inline_site.specs.Copies.{behind_call, copied, first_free}
use Rattle.inline_site.specs.Inlined.{result_given, return_entries, spliced}
use Rattle.inline_site.specs.Laws.{InlinedKeepsInterface, IsSameButBlocks}
use Rattle.inline_site.proofs.Lost.{params_same}

-- a list about one of its elements has one
some_about : {X : Type 0} (xs ys : List X) (x : X) → xs ++ x ∷ ys ≢ []
some_about [] ys x e = cc e
some_about (y ∷ xs) ys x e = cc e

some_mapped : {X Y : Type 0} (f : X → Y) (xs : List X) → xs ≢ [] → map f xs ≢ []
some_mapped f [] some e = absurd (some refl)
some_mapped f (x ∷ xs) some e = cc e

-- with poison for a result that no return gives
given_keeps : (l : Option ℕ) (r : Option Reg) (es : List Incoming) (f g : Function) → IsSameButBlocks f g → IsSameButBlocks f (result_given l r es g)
given_keeps None r es f g same = same
given_keeps (Some x) None es f g same = same
given_keeps (Some x) (Some reg) (e ∷ es) f g same = same
given_keeps (Some x) (Some reg) [] f g same = record {
  symbol = same.symbol;
  linkage = same.linkage;
  result = same.result;
  params = params_same g.params ∙ same.params;
  noinline = same.noinline;
  optnone = same.optnone;
  old = same.old;
  new = some_mapped (block_edited (λ n. n) (operand_replaced (replacement ((x, Poison reg) ∷ [])))) g.blocks same.new;
}

pub keeps_interface : InlinedKeepsInterface
keeps_interface f callee g place (some, s, as', stands, call, is) =
    subst (IsSameButBlocks f) (sym is)
    (given_keeps s.call.local callee.result (return_entries (copied (first_free f) callee as')) f
    (spliced s callee.result (behind_call (first_free f) callee) (copied (first_free f) callee as') f)
    (record {
      symbol = refl;
      linkage = refl;
      result = refl;
      params = refl;
      noinline = refl;
      optnone = refl;
      old = λ e. some_about s.front s.back s.block (sym stands.blocks ∙ e);
      new = λ e. some_about _ _ _ e;
    }))
