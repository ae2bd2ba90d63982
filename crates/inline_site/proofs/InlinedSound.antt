-- What inlining gives is laid out block by block, and so it is sound, and uses no other symbols.
use Rattle.std.proofs.Common.{◌≡◌, ℕ, ◌⊎◌, inl, inr, Bool, List, [], ◌∷◌, Option, Some, None, ◌++◌, refl, sym, ◌∙◌, ap, subst, if◌then◌else◌}
use Rattle.std.specs.Prelude.{All}
use Rattle.std.proofs.lemmas.Bool.{cases_eq, eq-eqb, ne_eqb}
use Rattle.ir_tree.specs.Items.{items}
use Rattle.ir_tree.specs.Rules.{LineTypes, Sound}
use Rattle.ir_tree.specs.Wholes.{ItemKnown}
use Rattle.ir_tree.specs.declared.function.Function.{Function}
use Rattle.ir_tree.specs.declared.instr.Incoming.{Incoming}
use Rattle.ir_tree.specs.declared.instr.Instr.TheVariants as kind
use Rattle.ir_tree.specs.declared.operand.Argument.{Argument}
use Rattle.ir_tree.specs.declared.operand.Operand.{Operand}
use Rattle.ir_tree.specs.declared.operand.Operand.TheVariants as operand
use Rattle.ir_tree.specs.declared.operand.Reg.{Reg}
use Rattle.ir_tree.specs.declared.rule.Rule.TheVariants.{TypeMismatch}
use Rattle.ir_edit.specs.Substituted.{operand_replaced, or_local, replacement}
use Rattle.inline_site.specs.Copies.{behind_call, copied, first_free}
use Rattle.inline_site.specs.Inlined.{IsInlined, inlined, result_given, result_phis, return_entries, spliced}
use Rattle.inline_site.specs.Laws.{InlinedIsKnown, InlinedIsSound}
use Rattle.inline_site.specs.Sites.{IsCallOf, Site}
use Rattle.inline_site.proofs.EditedItems.{IsConstant}
use Rattle.inline_site.proofs.Known.{made_known}
use Rattle.inline_site.proofs.Laid.{edited_same, made_is}
use Rattle.inline_site.proofs.Leading.{call_line_right}
use Rattle.inline_site.proofs.MadeSound.{made_sound}
use Rattle.inline_site.proofs.Places.{Goes, Inlining, Stays, made, result_of}

-- ---- poison for a result that no return gives

abbrev poisoned : ℕ → Reg → Operand → Operand
poisoned x reg = operand_replaced (replacement ((x, operand.Poison reg) ∷ []))

poison_fixed : (x : ℕ) (reg : Reg) (o : Operand) → IsConstant o → poisoned x reg o ≡ o
poison_fixed x reg (operand.Local y) c = absurd c
poison_fixed x reg (operand.Number width bits) c = refl
poison_fixed x reg operand.Null c = refl
poison_fixed x reg (operand.Poison r) c = refl
poison_fixed x reg (operand.Symbol symbol offset) c = refl

abbrev replaced_if : ℕ → Reg → Bool → Operand
replaced_if y reg b = or_local (if b then Some (operand.Poison reg) else None) y

poisoned_local : (x : ℕ) (reg : Reg) (y : ℕ) → x ≡ y → poisoned x reg (operand.Local y) ≡ operand.Poison reg
poisoned_local x reg y e = ap (replaced_if y reg) (eq-eqb x y e)

other_local : (x : ℕ) (reg : Reg) (y : ℕ) → (x ≡ y → ⊥) → poisoned x reg (operand.Local y) ≡ operand.Local y
other_local x reg y e = ap (replaced_if y reg) (ne_eqb x y e)

-- the function that is inlined, block by block
pub record IsLaidOut (f callee g : Function) : Type 0 where
  pub z : Inlining
  pub f_is : z.f ≡ f
  pub callee_is : z.callee ≡ callee
  pub is : made z ≡ g

module _ (f callee : Function) (s : Site) (as' : List Argument) (sound : Sound f) (sound' : Sound callee) (blocks : f.blocks ≡ s.front ++ s.block ∷ s.back)
    (lines : s.block.lines ≡ s.before ++ s.call ∷ s.after) (call : IsCallOf callee s.call.instr as') (some : callee.blocks ≡ [] → ⊥) where
  -- with its definition, or without a result
  kept : ((y : ℕ) → s.call.local ≡ Some y → result_of (λ o. o) f callee s as' ≡ [] → ⊥) → IsLaidOut f callee (spliced s callee.result (behind_call (first_free f) callee) (copied (first_free f) callee as') f)
  kept there = record { z = z; f_is = refl; callee_is = refl; is = sym (made_is z) ∙ edited_same (spliced s callee.result (behind_call (first_free f) callee) (copied (first_free f) callee as') f) }
    where
      z : Inlining
      z = record {
        f = f;
        callee = callee;
        s = s;
        arguments = as';
        op = λ o. o;
        sound = sound;
        sound' = sound';
        blocks = blocks;
        lines = lines;
        call = call;
        some = some;
        fixed = λ o c. refl;
        locals = λ y. inl (refl, there y);
      }

  -- without one
  lost : (x : ℕ) (reg : Reg) → s.call.local ≡ Some x → callee.result ≡ Some reg → IsLaidOut f callee (result_given (Some x) (Some reg) [] (spliced s callee.result (behind_call (first_free f) callee) (copied (first_free f) callee as') f))
  lost x reg local result = record { z = z; f_is = refl; callee_is = refl; is = sym (made_is z) }
    where
      side : (y : ℕ) → (x ≡ y) ⊎ (x ≡ y → ⊥) → Stays (poisoned x reg) s.call.local (result_of (poisoned x reg) f callee s as') y ⊎ Goes (poisoned x reg) s.call.local callee.result y
      side y (inl e) = inr (reg, poisoned_local x reg y e, local ∙ ap (λ (n : ℕ). Some n) e, result)
      side y (inr e) = inl (other_local x reg y e, λ is. let same : Some x ≡ Some y = sym local ∙ is in absurd (e (cc same)))

      z : Inlining
      z = record {
        f = f;
        callee = callee;
        s = s;
        arguments = as';
        op = poisoned x reg;
        sound = sound;
        sound' = sound';
        blocks = blocks;
        lines = lines;
        call = call;
        some = some;
        fixed = poison_fixed x reg;
        locals = λ y. side y (cases_eq x y);
      }

  -- a call without a result has no name
  no_name : callee.result ≡ None → s.call.local ≡ None
  no_name none = by (subst (LineTypes s.call.local) (call.direct ∙ ap (λ (r : Option Reg). kind.Call r (operand.Symbol callee.symbol 0) as') none) ((call_line_right f sound s blocks lines).1 TypeMismatch).1)
    where
      by : LineTypes s.call.local (kind.Call None (operand.Symbol callee.symbol 0) as') → s.call.local ≡ None
      by h = h

  laid_out : IsLaidOut f callee (inlined s callee as' f)
  laid_out = by s.call.local refl callee.result refl (return_entries (copied (first_free f) callee as')) refl
    where
      by : (l : Option ℕ) → s.call.local ≡ l → (r : Option Reg) → callee.result ≡ r → (es : List Incoming) → return_entries (copied (first_free f) callee as') ≡ es
          → IsLaidOut f callee (result_given l r es (spliced s callee.result (behind_call (first_free f) callee) (copied (first_free f) callee as') f))
      by None l_is r r_is es e = kept (λ y is. let none : None ≡ Some y = sym l_is ∙ is in absurd (cc none))
      by (Some x) l_is None r_is es e = kept (λ y is. let none : None ≡ Some y = sym (no_name r_is) ∙ is in absurd (cc none))
      by (Some x) l_is (Some reg) r_is [] e = lost x reg l_is r_is
      by (Some x) l_is (Some reg) r_is (a ∷ es) e = kept (λ y is none. let clash : result_phis (Some x) (Some reg) (a ∷ es) ≡ [] = sym (λ i. result_phis (l_is i) (r_is i) (e i)) ∙ none in cc clash)

is_laid_out : (f callee g : Function) (place : ℕ) → IsInlined f place callee (Some g) → Sound f → Sound callee → IsLaidOut f callee g
is_laid_out f callee g place (some, s, as', stands, call, is) sound sound' = subst (λ (h : Function). IsLaidOut f callee h) (sym is) (laid_out f callee s as' sound sound' stands.blocks stands.lines call some)

pub is_sound : InlinedIsSound
is_sound f callee g place inlined sound sound' =
    let laid : IsLaidOut f callee g = is_laid_out f callee g place inlined sound sound' in
    subst Sound laid.is (made_sound laid.z)

pub is_known : InlinedIsKnown
is_known f callee g place known inlined sound sound' old called =
    let laid : IsLaidOut f callee g = is_laid_out f callee g place inlined sound sound' in
    let caller : All (ItemKnown known) (items laid.z.f) = subst (λ (h : Function). All (ItemKnown known) (items h)) (sym laid.f_is) old in
    let copied' : All (ItemKnown known) (items laid.z.callee) = subst (λ (h : Function). All (ItemKnown known) (items h)) (sym laid.callee_is) called in
    subst (λ (h : Function). All (ItemKnown known) (items h)) laid.is (made_known known laid.z caller copied')
