-- A table of what stands for locals: one more pair, and one more row.
use Rattle.std.proofs.Common.{◌≡◌, ◌≢◌, ℕ, zero, suc, ◌+◌, ◌<◌, ◌≤◌, ◌==◌, nat_eq, Bool, true, false, List, [], ◌∷◌, ◌++◌, Option, Some, None, length, option_map, get_or, drop, replicate, refl, sym, ◌∙◌, ap, add-one, drop-cons, if◌then◌else◌, arith}
use Rattle.std.specs.Borrow.{Bor}
use Rattle.std.specs.Prelude.{slice_set}
use Rattle.std.proofs.lemmas.Bool.{eqb-false, eqb-true}
use Rattle.std.proofs.lemmas.Option.{slice_get_past, slice_get_read}
use Rattle.ir_tree.specs.declared.operand.Operand.{Operand}
use Rattle.ir_edit.specs.Numbered.{later_or}
use Rattle.ir_edit.specs.Substituted.{replacement}
use Rattle.fact_sources.specs.Tables.{row_of, taken}

-- ---- pairs

-- what the later pairs have, or this one, or the earlier ones
one_of_three : {A : Type 0} (later old : Option A) (same : Bool) (v : A) → later_or later (if same then Some v else old) ≡ later_or (later_or later (if same then Some v else None)) old
one_of_three (Some w) old same v = refl
one_of_three None old true v = refl
one_of_three None old false v = refl

pub one_put : (rs : List (ℕ × Operand)) (i : ℕ) (d : ℕ × Operand) (x y : ℕ) (v : Operand) (old new : Option Operand) → i < length rs → y ≡ (get_or rs i d).0 → v ≡ (get_or rs i d).1
    → new ≡ (if y == x then Some v else old) → later_or (replacement (drop (i + 1) rs) x) new ≡ later_or (replacement (drop i rs) x) old
one_put rs i d x y v old new lt key value is =
    ap (later_or (replacement (drop (i + 1) rs) x)) is
    ∙ one_of_three (replacement (drop (i + 1) rs) x) old (y == x) v
    ∙ ap (λ (k : ℕ). later_or (later_or (replacement (drop k rs) x) (if y == x then Some v else None)) old) (add-one i)
    ∙ (λ j. later_or (later_or (replacement (drop (suc i) rs) x) (if key j == x then Some (value j) else None)) old)
    ∙ ap (λ (l : List (ℕ × Operand)). later_or (replacement l x) old) (sym (drop-cons rs i d lt))

-- ---- rows

taken_is : (o : Option (Bor Operand)) → option_map (λ b. b.now) o ≡ taken (Some o)
taken_is None = refl
taken_is (Some o) = refl

pub row_at : (rows : List (Option (Bor Operand))) (x : ℕ) (o : Option (Bor Operand)) → x < length rows → o ≡ get_or rows x o → option_map (λ b. b.now) o ≡ row_of rows x
row_at rows x o lt is = taken_is o ∙ ap taken (sym (slice_get_read rows (length rows) x o refl lt is))

pub no_row : (rows : List (Option (Bor Operand))) (x : ℕ) → length rows ≤ x → None ≡ row_of rows x
no_row rows x le = ap taken (sym (slice_get_past rows x le))

pub no_rows : (rows : List (Option (Bor Operand))) → length rows ≡ 0 → (x : ℕ) → row_of rows x ≡ None
no_rows [] h x = refl
no_rows (r ∷ rows) h x = absurd (omega (arith, h))

no_more : (k x : ℕ) → row_of (replicate k None) x ≡ None
no_more zero x = refl
no_more (suc k) zero = refl
no_more (suc k) (suc x) = no_more k x

pub rows_filled : (rows : List (Option (Bor Operand))) (k x : ℕ) → row_of (rows ++ replicate k None) x ≡ row_of rows x
rows_filled [] k x = no_more k x
rows_filled (r ∷ rows) k zero = refl
rows_filled (r ∷ rows) k (suc x) = rows_filled rows k x

row_same : (rows : List (Option (Bor Operand))) (place : ℕ) (o : Bor Operand) → place < length rows → row_of (slice_set rows place (Some o)) place ≡ Some o.now
row_same [] place o lt = absurd (omega (arith, lt))
row_same (r ∷ rows) zero o lt = refl
row_same (r ∷ rows) (suc place) o lt = row_same rows place o (omega (arith, lt))

row_other : (rows : List (Option (Bor Operand))) (place x : ℕ) (o : Bor Operand) → place ≢ x → row_of (slice_set rows place (Some o)) x ≡ row_of rows x
row_other [] place x o other = refl
row_other (r ∷ rows) zero zero o other = absurd (other refl)
row_other (r ∷ rows) zero (suc x) o other = refl
row_other (r ∷ rows) (suc place) zero o other = refl
row_other (r ∷ rows) (suc place) (suc x) o other = row_other rows place x o (λ e. other (ap suc e))

pub row_set : (rows : List (Option (Bor Operand))) (place x : ℕ) (o : Bor Operand) → place < length rows → row_of (slice_set rows place (Some o)) x ≡ (if nat_eq place x then Some o.now else row_of rows x)
row_set rows place x o lt = by (nat_eq place x) refl
  where
    by : (b : Bool) → nat_eq place x ≡ b → row_of (slice_set rows place (Some o)) x ≡ (if b then Some o.now else row_of rows x)
    by true e = ap (row_of (slice_set rows place (Some o))) (sym (eqb-true place x e)) ∙ row_same rows place o lt
    by false e = row_other rows place x o (eqb-false place x e)
