-- Going over items, one after another.
use Rattle.std.proofs.Common.{◌≡◌, ℕ, ◌+◌, ◌≤◌, List, refl, sym, subst, ◌∙◌, arith, inl, inr, ◌⊎◌}
use Rattle.std.specs.Prelude.{slice_get, Option, Some, None}
use Rattle.std.proofs.lemmas.Bool.{cases_lt}
use Rattle.ir_tree.specs.declared.function.Function.{Function}
use Rattle.ir_tree.specs.declared.rule.Rule.{Rule}
use Rattle.ir_tree.specs.Items.{Item, items}
use Rattle.ir_tree.specs.Rules.{Keeps, Breaks}
use Rattle.ir_verify.specs.declared.fault.VerifyFault.{VerifyFault}
use Rattle.ir_verify.specs.Faults.{number, FirstBroken}
use Rattle.ir_verify.specs.Orders.{AtMost, IsNoted, Went, fault}

pub went_nowhere : (f : Function) (lines : List ℕ) (g i : ℕ) (o : Option VerifyFault) → Went f lines g i o i o
went_nowhere f lines g i o = record { covers = λ k item line rule l m. absurd (omega arith); kept = λ e k item rule l m. absurd (omega arith); before = λ line rule a. a; origin = inl refl }

-- nothing is found only where nothing was
pub none_before : (a b : Option VerifyFault) → ((line : ℕ) (rule : Rule) → AtMost a line rule → AtMost b line rule) → b ≡ None → a ≡ None
none_before None b h e = refl
none_before (Some v) b h e = absurd (subst (λ (o : Option VerifyFault). AtMost o v.line v.kind) e (h v.line v.kind (inr (refl, omega arith))))

pub went_on : (f : Function) (lines : List ℕ) (g i j k : ℕ) (a b c : Option VerifyFault) → Went f lines g i a j b → Went f lines g j b k c → Went f lines g i a k c
went_on f lines g i j k a b c v w = record {
  covers = λ n item line rule l m at on broken. elim (cases_lt n j) [
    | inl p ↦ w.before line rule (v.covers n item line rule l p at on broken)
    | inr p ↦ w.covers n item line rule (omega arith) m at on broken
  ];
  kept = λ e n item rule l m at. elim (cases_lt n j) [
    | inl p ↦ v.kept (none_before b c w.before e) n item rule l p at
    | inr p ↦ w.kept e n item rule (omega arith) m at
  ];
  before = λ line rule h. w.before line rule (v.before line rule h);
  origin = elim w.origin [ inr e ↦ inr (e.0, e.1, e.2, e.3, λ h. e.4 (v.before e.0.line e.0.kind h)) | inl s ↦ elim v.origin [ inl t ↦ inl (s ∙ t) | inr e ↦ inr (e.0, s ∙ e.1, e.2, e.3, e.4) ] ];
}

later_rule : (o : Option VerifyFault) (line : ℕ) (rule other : Rule) → number rule ≤ number other → AtMost o line rule → AtMost o line other
later_rule None line rule other l h = absurd h
later_rule (Some e) line rule other l (inl h) = inl h
later_rule (Some e) line rule other l (inr h) = inr (h.0, omega (arith, h.1))

one_got : {X : Type 0} (o : Option X) (a b : X) → o ≡ Some a → o ≡ Some b → a ≡ b
one_got o a b e d = let s = sym e ∙ d in cc

-- one item
pub went_one : (f : Function) (lines : List ℕ) (g i : ℕ) (item : Item) (line : ℕ) (broken : Option Rule) (old new : Option VerifyFault) → slice_get (items f) i ≡ Some item → slice_get lines i ≡ Some line → FirstBroken f item broken → IsNoted old (Some g) line broken new → Went f lines g i old (i + 1) new
went_one f lines g i item line broken old new at on b n = record {
  covers = λ k other l rule p q at' on' h.
      (let same : k ≡ i = omega arith in
      let item_is = one_got (slice_get (items f) i) other item (subst (λ (j : ℕ). slice_get (items f) j ≡ Some other) same at') at in
      let line_is = one_got (slice_get lines i) l line (subst (λ (j : ℕ). slice_get lines j ≡ Some l) same on') on in
      subst (λ (m : ℕ). AtMost new m rule) (sym line_is) (found broken b n rule (λ kept. h (subst (λ (z : Item). Keeps f rule z) (sym item_is) kept))));
  kept = λ e k other rule p q at'.
      (let same : k ≡ i = omega arith in
      let item_is = one_got (slice_get (items f) i) other item (subst (λ (j : ℕ). slice_get (items f) j ≡ Some other) same at') at in
      subst (λ (z : Item). Keeps f rule z) (sym item_is) (all_of broken b n e rule));
  before = n.before;
  origin = origin_of broken b n n.origin;
}
  where
    all_of : (broken : Option Rule) → FirstBroken f item broken → IsNoted old (Some g) line broken new → new ≡ None → (rule : Rule) → Keeps f rule item
    all_of None b n e rule = b rule
    all_of (Some r) b n e rule = absurd (subst (λ (o : Option VerifyFault). AtMost o line r) e (n.here r refl))

    found : (broken : Option Rule) → FirstBroken f item broken → IsNoted old (Some g) line broken new → (rule : Rule) → (Keeps f rule item → ⊥) → AtMost new line rule
    found None b n rule h = absurd (h (b rule))
    found (Some r) b n rule h = elim (cases_lt (number rule) (number r)) [ inl l ↦ absurd (h (b.1 rule l)) | inr l ↦ later_rule new line r rule (omega arith) (n.here r refl) ]

    origin_of : (broken : Option Rule) → FirstBroken f item broken → IsNoted old (Some g) line broken new → ((new ≡ old) ⊎ ((rule : Rule) × (broken ≡ Some rule) × (new ≡ Some (fault (Some g) line rule)) × (AtMost old line rule → ⊥))) → (new ≡ old) ⊎ ((e : VerifyFault) × (new ≡ Some e) × (e.function ≡ Some g) × Breaks f lines e.kind e.line × (AtMost old e.line e.kind → ⊥))
    origin_of broken b n (inl s) = inl s
    origin_of broken b n (inr w) =
        let first = subst (λ (o : Option Rule). FirstBroken f item o) w.1 b in
        inr (fault (Some g) line w.0, w.2, refl, (i, item, at, on, first.0), w.3)
