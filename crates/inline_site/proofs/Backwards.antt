-- Tables and lists that are made of the last element first.
use Rattle.std.proofs.Common.{◌≡◌, ℕ, ◌-◌, ◌<◌, ◌≤◌, ◌⊎◌, inl, inr, ◌==◌, nat_eq, Bool, List, [], ◌∷◌, ◌++◌, Option, Some, length, get_or, drop, sym, ◌∙◌, ap, if◌then◌else◌}
use Rattle.std.specs.Prelude.{cond}
use Rattle.std.proofs.lemmas.Bool.{cases_eq, eq-eqb, ne_eqb}
use Rattle.ir_tree.specs.declared.operand.Operand.{Operand}
use Rattle.ir_tree.specs.declared.operand.Operand.TheVariants.{Poison}
use Rattle.ir_tree.specs.declared.operand.Reg.{Reg}
use Rattle.inline_site.specs.Callers.{name_or, named_by, poisons}
use Rattle.inline_site.specs.declared.names.Halves.{Halves}
use Rattle.inline_site.proofs.Elements.{read_before}

-- the table with the block of one more call
name_before : (table more : ℕ → Option ℕ) (h : Halves) (hs : List Halves) (last : ℕ) → ((n : ℕ) → name_or (table n) n ≡ named_by hs n) → last ≡ name_or (table h.behind) h.behind
    → ((n : ℕ) → more n ≡ cond (nat_eq h.block n) (Some last) (table n)) → (n : ℕ) → name_or (more n) n ≡ named_by (h ∷ hs) n
name_before table more h hs last is last_is put n = by (cases_eq n h.block)
  where
    by : (n ≡ h.block) ⊎ (n ≡ h.block → ⊥) → name_or (more n) n ≡ named_by hs (if n == h.block then h.behind else n)
    by (inl same) =
        ap (λ (o : Option ℕ). name_or o n) (put n ∙ ap (λ (b : Bool). cond b (Some last) (table n)) (eq-eqb h.block n (sym same)))
        ∙ last_is
        ∙ is h.behind
        ∙ ap (λ (b : Bool). named_by hs (if b then h.behind else n)) (sym (eq-eqb n h.block same))
    by (inr differ) =
        ap (λ (o : Option ℕ). name_or o n) (put n ∙ ap (λ (b : Bool). cond b (Some last) (table n)) (ne_eqb h.block n (λ e. differ (sym e))))
        ∙ is n
        ∙ ap (λ (b : Bool). named_by hs (if b then h.behind else n)) (sym (ne_eqb n h.block differ))

pub names_before : (table more : ℕ → Option ℕ) (hs : List Halves) (place : ℕ) (d : Halves) (last : ℕ) → 0 < place → place ≤ length hs → ((n : ℕ) → name_or (table n) n ≡ named_by (drop place hs) n)
    → last ≡ name_or (table (get_or hs (place - 1) d).behind) (get_or hs (place - 1) d).behind → ((n : ℕ) → more n ≡ cond (nat_eq (get_or hs (place - 1) d).block n) (Some last) (table n))
    → (n : ℕ) → name_or (more n) n ≡ named_by (drop (place - 1) hs) n
names_before table more hs place d last some most is last_is put n =
    name_before table more (get_or hs (place - 1) d) (drop place hs) last is last_is put n ∙ ap (λ (l : List Halves). named_by l n) (sym (read_before hs place d some most))

pub poisons_before : (rs : List (ℕ × Reg)) (place : ℕ) (d : ℕ × Reg) (rows more : List (ℕ × Operand)) → 0 < place → place ≤ length rs → rows ≡ poisons (drop place rs)
    → more ≡ rows ++ ((get_or rs (place - 1) d).0, Poison (get_or rs (place - 1) d).1) ∷ [] → more ≡ poisons (drop (place - 1) rs)
poisons_before rs place d rows more some most is pushed =
    pushed
    ∙ ap (λ (l : List (ℕ × Operand)). l ++ ((get_or rs (place - 1) d).0, Poison (get_or rs (place - 1) d).1) ∷ []) is
    ∙ ap poisons (sym (read_before rs place d some most))
