-- Going over the globals of a module, one after another.
use Rattle.std.proofs.Common.{◌≡◌, ℕ, zero, suc, ◌+◌, ◌<◌, List, [], ◌∷◌, ◌++◌, refl, sym, ap, subst, ◌∙◌, arith, inl, inr, ◌⊎◌}
use Rattle.std.specs.Prelude.{slice_get, length, All, IfSome, MatchOption, Option, Some, None}
use Rattle.std.specs.List.{AllZip}
use Rattle.std.proofs.lemmas.Bool.{cases_lt}
use Rattle.std.proofs.lemmas.Option.{same_Some}
use Rattle.ir_tree.specs.declared.function.Function.{Function}
use Rattle.ir_tree.specs.declared.function.Variable.{Variable}
use Rattle.ir_tree.specs.declared.module.GlobalValue.{GlobalValue}
use Rattle.ir_tree.specs.declared.module.GlobalValue.TheVariants as global
use Rattle.ir_flow.specs.OfFunction.{AreFlows, IsValueFlow}
use Rattle.ir_flow.specs.declared.flow.Flow.{Flow}
use Rattle.ir_tree.specs.Wholes.{GlobalSound, GlobalBreaks}
use Rattle.ir_tree.specs.Fits.{FitsShape}
use Rattle.ir_tree.specs.declared.rule.Rule.{Rule}
use Rattle.ir_tree.specs.declared.rule.Rule.TheVariants.{TypeMismatch}
use Rattle.ir_verify.specs.declared.fault.VerifyFault.{VerifyFault}
use Rattle.ir_verify.specs.Modules.{GlobalPast, IsFirst, IsLeastFault, place_of}
use Rattle.ir_verify.specs.Orders.{AtMost, IsPast, IsNoted, fault}
use Rattle.ir_verify.proofs.Alls.{all_from_got}
use Rattle.ir_verify.proofs.Going.{none_before}
use Rattle.ir_verify.proofs.Keys.{got_below}

pub zip_at : {A B : Type 0} (R : A → B → Type 0) (xs : List A) (ys : List B) (i : ℕ) (x : A) (y : B) → AllZip R xs ys → slice_get xs i ≡ Some x → slice_get ys i ≡ Some y → R x y
zip_at R [] ys i x y z e d = absurd (cc e)
zip_at R (a ∷ xs) [] i x y z e d = absurd z
zip_at R (a ∷ xs) (b ∷ ys) zero x y z e d = subst (λ w. R w y) (same_Some a x e) (subst (λ w. R a w) (same_Some b y d) z.0)
zip_at R (a ∷ xs) (b ∷ ys) (suc i) x y z e d = zip_at R xs ys i x y z.1 e d

before_or_at : (k j : ℕ) → k < j + 1 → (k < j) ⊎ (k ≡ j)
before_or_at k j l = elim (cases_lt k j) [ inl p ↦ inl p | inr p ↦ inr (omega arith) ]

pub first_none : (gs : List GlobalValue) (lines : List (List ℕ)) → IsFirst gs lines 0 None
first_none gs lines = record {
  sound = λ e k f l. absurd (omega arith);
  covers = λ k f ls rule line l. absurd (omega arith);
  found = λ e n. absurd (cc n);
}

module _ (gs : List GlobalValue) (lines : List (List ℕ)) (j : ℕ) (old new : Option VerifyFault) (o : IsFirst gs lines j old) where
  pub over_global : (g : GlobalValue) (ls : List ℕ) → slice_get gs j ≡ Some g → slice_get lines j ≡ Some ls → GlobalPast g ls j old new → IsFirst gs lines (j + 1) new
  over_global g ls at on w = record {
    sound = λ n k h l got. elim (before_or_at k j l) [
      | inl p ↦ o.sound (none_before old new w.before n) k h p got
      | inr q ↦ subst GlobalSound (same_Some g h (sym at ∙ ap (slice_get gs) (sym q) ∙ got)) (w.sound n)
    ];
    covers = λ k h ms rule line l got here broken. elim (before_or_at k j l) [
      | inl p ↦ w.before line rule (o.covers k h ms rule line p got here broken)
      | inr q ↦
          (let same = same_Some g h (sym at ∙ ap (slice_get gs) (sym q) ∙ got) in
          let lines_same = same_Some ls ms (sym on ∙ ap (slice_get lines) (sym q) ∙ here) in
          w.covers rule line (subst (λ (z : GlobalValue). GlobalBreaks z ls rule line) (sym same) (subst (λ (m : List ℕ). GlobalBreaks h m rule line) (sym lines_same) broken)))
    ];
    found = λ e n. elim w.origin [
      | inl s ↦ o.found e (sym s ∙ n)
      | inr u ↦
          (let same = same_Some u.0 e (sym u.1 ∙ n) in (
            j,
            g,
            ls,
            subst (λ (z : VerifyFault). z.function ≡ place_of g j) same u.2,
            at,
            on,
            subst (λ (z : VerifyFault). GlobalBreaks g ls z.kind z.line) same u.3,
            λ k h ms l got here broken. subst (λ (z : VerifyFault). AtMost old z.line z.kind → ⊥) same u.4 (o.covers k h ms e.kind e.line l got here broken),
          ))
    ];
  }

-- a function is gone over
pub past_function : (f : Function) (ls : List ℕ) (k : ℕ) (old new : Option VerifyFault) → IsPast f ls k old new → GlobalPast (global.Function f) ls k old new
past_function f ls k old new p = record {
  sound = p.sound;
  covers = p.covers;
  before = p.before;
  origin = p.origin;
}

-- a variable that fits is passed over
pub past_fitting : (v : Variable) (ls : List ℕ) (k : ℕ) (old : Option VerifyFault) → FitsShape v → GlobalPast (global.Variable v) ls k old old
past_fitting v ls k old fit = record {
  sound = λ n. fit;
  covers = λ rule line b. absurd (b.2 fit);
  before = λ line rule a. a;
  origin = inl refl;
}

-- one that doesn't fit breaks the first rule on its line
pub past_other : (v : Variable) (ls : List ℕ) (line : ℕ) (k : ℕ) (old new : Option VerifyFault) → slice_get ls 0 ≡ Some line → (FitsShape v → ⊥) → IsNoted old None line (Some TypeMismatch) new → GlobalPast (global.Variable v) ls k old new
past_other v ls line k old new on never p = record {
  sound = λ n. absurd (subst (λ (w : Option VerifyFault). AtMost w line TypeMismatch) n (p.here TypeMismatch refl));
  covers = λ rule l b.
      let lines_same : line ≡ l = same_Some line l (sym on ∙ b.1) in
      subst (λ (m : ℕ). AtMost new m rule) lines_same (subst (λ (r : Rule). AtMost new line r) (sym b.0) (p.here TypeMismatch refl));
  before = p.before;
  origin = elim p.origin [
    | inl s ↦ inl s
    | inr u ↦ inr (fault None line u.0, u.2, refl, (some_rule u.0 u.1, on, never), u.3)
  ];
}
  where
    some_rule : (r : Rule) → ◌≡◌ {A = Option Rule} (Some TypeMismatch) (Some r) → r ≡ TypeMismatch
    some_rule r e = cc

-- ---- control flow, global by global

-- what stands among these and one more is one of these, or the last one
pushed_at : {A : Type 0} (items : List A) (last : A) (k : ℕ) (x : A) → slice_get (items ++ last ∷ []) k ≡ Some x → (slice_get items k ≡ Some x) ⊎ ((k ≡ length items) × (last ≡ x))
pushed_at [] last zero x e = inr (refl, same_Some last x e)
pushed_at [] last (suc k) x e = absurd (cc e)
pushed_at (i ∷ items) last zero x e = inl e
pushed_at (i ∷ items) last (suc k) x e = elim (pushed_at items last k x e) [ inl a ↦ inl a | inr p ↦ inr (ap suc p.0, p.1) ]

pub counted : (flows : List (Option Flow)) (last : Option Flow) → length (flows ++ last ∷ []) ≡ suc (length flows)
counted [] last = refl
counted (x ∷ flows) last = ap suc (counted flows last)

pub flow_pushed : (gs : List GlobalValue) (flows : List (Option Flow)) (last : Option Flow) (g : GlobalValue) → AreFlows gs flows → slice_get gs (length flows) ≡ Some g → IfSome last (IsValueFlow g) → AreFlows gs (flows ++ last ∷ [])
flow_pushed gs flows last g before at now k h flow got here = elim (pushed_at flows last k (Some flow) here) [
  | inl old ↦ before k h flow got old
  | inr new ↦ subst (λ (h : GlobalValue). IsValueFlow h flow) (same_Some g h (sym at ∙ ap (slice_get gs) (sym new.0) ∙ got)) (subst (λ (o : Option Flow). IfSome o (IsValueFlow g)) new.1 now)
]

-- ---- what was found over all globals

pub least_of : (gs : List GlobalValue) (lines : List (List ℕ)) (new : Option VerifyFault) → IsFirst gs lines (length gs) new → MatchOption new (All GlobalSound gs) (λ e. IsLeastFault gs lines e)
least_of gs lines None o = all_from_got GlobalSound gs (λ k g got. o.sound refl k g (got_below gs k g got) got)
least_of gs lines (Some e) o =
    let w = o.found e refl in
    record {
      place = w.0;
      broken = record { global = w.1; on = w.2; got = w.4; lined = w.5; broken = w.6 };
      named = w.3;
      least = λ k rule line b. o.covers k b.global b.on rule line (got_below gs k b.global b.got) b.got b.lined b.broken;
      first = λ k b. elim (cases_lt k w.0) [ inl l ↦ absurd (w.7 k b.global b.on l b.got b.lined b.broken) | inr p ↦ omega arith ];
    }
