-- The table of replacements: one more of them.
use Rattle.std.proofs.Common.{◌≡◌, ℕ, suc, ◌+◌, ◌<◌, ◌==◌, Bool, true, false, cond, List, Option, Some, None, length, get_or, drop, option_map, refl, sym, ◌∙◌, ap, add-one, drop-cons}
use Rattle.std.specs.Ordering.{is_eq, nat_cmp}
use Rattle.ir_tree.specs.declared.operand.Operand.{Operand}
use Rattle.ir_edit.specs.Numbered.{later_or}
use Rattle.ir_edit.specs.Substituted.{replacement}
use Rattle.ir_edit.proofs.Comparing.{is_eq-nat_cmp}
use Rattle.ir_edit.proofs.Later.{later_or-assoc, later_or-test}

option_map-cond : {A B : Type 0} (f : A → B) (same : Bool) (v : A) (o : Option A) → option_map f (cond same (Some v) o) ≡ cond same (Some (f v)) (option_map f o)
option_map-cond f true v o = refl
option_map-cond f false v o = refl

pub one_replaced : {A : Type 0} (f : A → Operand) (rs : List (ℕ × Operand)) (i : ℕ) (d : ℕ × Operand) (x y : ℕ) (v : A) (old new : Option A) → i < length rs
    → y ≡ (get_or rs i d).0 → f v ≡ (get_or rs i d).1 → new ≡ cond (is_eq (nat_cmp y x)) (Some v) old
    → later_or (replacement (drop (i + 1) rs) x) (option_map f new) ≡ later_or (replacement (drop i rs) x) (option_map f old)
one_replaced {A} f rs i d x y v old new lt key value is =
    ap (later_or (replacement (drop (i + 1) rs) x)) (ap (option_map f) is ∙ option_map-cond f (is_eq (nat_cmp y x)) v old ∙ ap (λ (b : Bool). cond b (Some (f v)) (option_map f old)) (is_eq-nat_cmp y x) ∙ sym (later_or-test (y == x) (f v) (option_map f old)))
    ∙ sym (later_or-assoc (replacement (drop (i + 1) rs) x) (cond (y == x) (Some (f v)) None) (option_map f old))
    ∙ ap (λ (k : ℕ). later_or (later_or (replacement (drop k rs) x) (cond (y == x) (Some (f v)) None)) (option_map f old)) (add-one i)
    ∙ (λ j. later_or (later_or (replacement (drop (suc i) rs) x) (cond (key j == x) (Some (value j)) None)) (option_map f old))
    ∙ ap (λ (l : List (ℕ × Operand)). later_or (replacement l x) (option_map f old)) (sym (drop-cons rs i d lt))
