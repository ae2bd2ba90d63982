-- The table of a resolution says of each name what the definition of what prevails says.
use Rattle.std.proofs.Common.{◌≡◌, ℕ, Bool, true, false, not, ◌&&◌, ◌||◌, cond, if◌then◌else◌, List, [], ◌∷◌, map, filter, Option, None, bytes_eq, refl, sym, ap, ◌∙◌}
use Rattle.std.specs.List.{list_any}
use Rattle.std.proofs.lemmas.Slice.Eq.{bytes_eq-Decides}
use Rattle.symbol_resolve.specs.Mentions.{Mention, is_strong, is_weak, mentions, modules_with, names_of}
use Rattle.symbol_resolve.specs.Prevailing.{first, or_else, prevailing}
use Rattle.symbol_resolve.specs.Resolved.{module_of}
use Rattle.ir_tree.specs.Once.{once, without}
use Rattle.merge_meaning.specs.Laws.{TableNamesPrevailing}
use Rattle.merge_meaning.proofs.Names.{clash}

abbrev has : List (List ℕ) → List ℕ → Bool
has names name = list_any (λ other. bytes_eq name other) names

same_name : (a b : List ℕ) → bytes_eq a b ≡ true → a ≡ b
same_name a b e = (bytes_eq-Decides a b).0 e

is_name : (a b : List ℕ) → a ≡ b → bytes_eq a b ≡ true
is_name a b e = (bytes_eq-Decides a b).1 e

-- ---- what a table says of a name

said : (value : List ℕ → Option ℕ) (names : List (List ℕ)) (name : List ℕ)
    → module_of (map (λ other. (other, value other)) names) name ≡ (if has names name then value name else None)
said value [] name = refl
said value (other ∷ names) name = by (bytes_eq name other) refl (said value names name)
  where
    by : (b : Bool) → bytes_eq name other ≡ b → module_of (map (λ other. (other, value other)) names) name ≡ (if has names name then value name else None)
        → (if b then value other else module_of (map (λ other. (other, value other)) names) name) ≡ (if b || has names name then value name else None)
    by true e rest = ap value (sym (same_name name other e))
    by false e rest = rest

-- ---- each name once

has_without : (other name : List ℕ) (names : List (List ℕ)) → bytes_eq name other ≡ false → has (without other names) name ≡ has names name
has_without other name [] e = refl
has_without other name (x ∷ names) e = by (bytes_eq other x) refl (has_without other name names e)
  where
    apart : bytes_eq other x ≡ true → (b : Bool) → bytes_eq name x ≡ b → b ≡ false
    apart f false g = refl
    apart f true g = absurd (clash (bytes_eq name other) e (is_name name other (same_name name x g ∙ sym (same_name other x f))))

    by : (b : Bool) → bytes_eq other x ≡ b → has (without other names) name ≡ has names name
        → has (cond (not b) (x ∷ without other names) (without other names)) name ≡ (bytes_eq name x || has names name)
    by true f rest = rest ∙ sym (ap (λ (b : Bool). b || has names name) (apart f (bytes_eq name x) refl))
    by false f rest = ap (λ (b : Bool). bytes_eq name x || b) rest

has_once : (names : List (List ℕ)) (name : List ℕ) → has (once names) name ≡ has names name
has_once [] name = refl
has_once (x ∷ names) name = by (bytes_eq name x) refl (has_once names name)
  where
    by : (b : Bool) → bytes_eq name x ≡ b → has (once names) name ≡ has names name → (b || has (without x (once names)) name) ≡ (b || has names name)
    by true e rest = refl
    by false e rest = has_without x name (once names) e ∙ rest

-- ---- names that nobody mentions

unmentioned : (test : Mention → Bool) (ms : List Mention) (name : List ℕ) → has (names_of ms) name ≡ false → modules_with test ms name ≡ []
unmentioned test [] name e = refl
unmentioned test (m ∷ ms) name e = by (bytes_eq name m.name) refl e (unmentioned test ms name)
  where
    by : (b : Bool) → bytes_eq name m.name ≡ b → (b || has (names_of ms) name) ≡ false → (has (names_of ms) name ≡ false → modules_with test ms name ≡ [])
        → map (λ (x : Mention). x.number) (cond (b && test m) (m ∷ filter (λ (x : Mention). bytes_eq name x.name && test x) ms)
        (filter (λ (x : Mention). bytes_eq name x.name && test x) ms)) ≡ []
    by true f e rest = absurd (cc e)
    by false f e rest = rest e

pub table_names : TableNamesPrevailing
table_names ms name = said (prevailing (mentions ms)) (once (names_of (mentions ms))) name ∙ by (has (once (names_of (mentions ms))) name) refl
  where
    by : (b : Bool) → has (once (names_of (mentions ms))) name ≡ b → (if b then prevailing (mentions ms) name else None) ≡ prevailing (mentions ms) name
    by true e = refl
    by false e =
        let none : has (names_of (mentions ms)) name ≡ false = sym (has_once (names_of (mentions ms)) name) ∙ e in
        sym (ap (λ (ks : List ℕ). or_else (first ks) (first (modules_with is_weak (mentions ms) name))) (unmentioned is_strong (mentions ms) name none)
        ∙ ap (λ (ks : List ℕ). first ks) (unmentioned is_weak (mentions ms) name none))
