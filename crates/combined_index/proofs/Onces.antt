-- Symbols that are noted one after another are those that come, each once.
use Rattle.std.proofs.Common.{◌≡◌, ◌∙◌, ◌||◌, sym, ap, refl, Bool, true, false, not, cond, List, [], ◌∷◌, ◌++◌, filter, append-nil, append_assoc}
use Rattle.std.proofs.lemmas.List.Elements.{filter-append}
use Rattle.std.specs.List.{list_any}
use Rattle.ir_tree.specs.declared.operand.Symbol.{Symbol}
use Rattle.combined_index.specs.Entries.{once, without}
use Rattle.ir_tree.specs.Symbols.{symbol_eq}
use Rattle.ir_tree.proofs.Symbols.{symbol_laws}
use Rattle.combined_index.specs.Numbered.{all_noted, noted}

abbrev is_in : List Symbol → Symbol → Bool
is_in ss s = list_any (symbol_eq s) ss

filter_true : {X : Type 0} (p : X → Bool) (x : X) (xs : List X) → p x ≡ true → filter p (x ∷ xs) ≡ x ∷ filter p xs
filter_true p x xs e = ap (λ (b : Bool). cond b (x ∷ filter p xs) (filter p xs)) e

filter_false : {X : Type 0} (p : X → Bool) (x : X) (xs : List X) → p x ≡ false → filter p (x ∷ xs) ≡ filter p xs
filter_false p x xs e = ap (λ (b : Bool). cond b (x ∷ filter p xs) (filter p xs)) e

-- a symbol that isn't left out is found among the others as before
found_without : (n x : Symbol) (ss : List Symbol) → symbol_eq n x ≡ false → is_in (without x ss) n ≡ is_in ss n
found_without n x [] apart = refl
found_without n x (y ∷ ys) apart = by (symbol_eq x y) refl (found_without n x ys apart)
  where
    other : symbol_eq x y ≡ true → symbol_eq n y ≡ false
    other e = symbol_laws.symm n y ∙ sym (symbol_laws.congr x y n e) ∙ symbol_laws.symm x n ∙ apart

    by : (b : Bool) → symbol_eq x y ≡ b → is_in (without x ys) n ≡ is_in ys n → is_in (without x (y ∷ ys)) n ≡ is_in (y ∷ ys) n
    by true e rest =
        ap (λ (z : List Symbol). is_in z n) (filter_false (λ t. not (symbol_eq x t)) y ys (ap not e)) ∙ rest
        ∙ sym (ap (λ (b : Bool). b || is_in ys n) (other e))
    by false e rest =
        ap (λ (z : List Symbol). is_in z n) (filter_true (λ t. not (symbol_eq x t)) y ys (ap not e)) ∙ ap (λ (b : Bool). symbol_eq n y || b) rest

-- the symbol x before what comes of one more symbol n
symbol_before : (x n : Symbol) (ss : List Symbol) → x ∷ without x (noted ss n) ≡ noted (x ∷ without x ss) n
symbol_before x n ss = by (symbol_eq n x) (is_in ss n) refl refl
  where
    here : symbol_eq n x ≡ true → without x (ss ++ n ∷ []) ≡ without x ss
    here e =
        filter-append (λ t. not (symbol_eq x t)) ss (n ∷ [])
        ∙ ap (λ (z : List Symbol). without x ss ++ z) (filter_false (λ t. not (symbol_eq x t)) n [] (ap not (symbol_laws.symm x n ∙ e)))
        ∙ append-nil (without x ss)

    apart : symbol_eq n x ≡ false → without x (ss ++ n ∷ []) ≡ without x ss ++ n ∷ []
    apart e =
        filter-append (λ t. not (symbol_eq x t)) ss (n ∷ [])
        ∙ ap (λ (z : List Symbol). without x ss ++ z) (filter_true (λ t. not (symbol_eq x t)) n [] (ap not (symbol_laws.symm x n ∙ e)))

    by : (same there : Bool) → symbol_eq n x ≡ same → is_in ss n ≡ there → x ∷ without x (noted ss n) ≡ noted (x ∷ without x ss) n
    by true true e f =
        ap (λ (b : Bool). x ∷ without x (cond b ss (ss ++ n ∷ []))) f
        ∙ sym (ap (λ (b : Bool). cond (b || is_in (without x ss) n) (x ∷ without x ss) ((x ∷ without x ss) ++ n ∷ [])) e)
    by true false e f =
        ap (λ (b : Bool). x ∷ without x (cond b ss (ss ++ n ∷ []))) f
        ∙ ap (λ (z : List Symbol). x ∷ z) (here e)
        ∙ sym (ap (λ (b : Bool). cond (b || is_in (without x ss) n) (x ∷ without x ss) ((x ∷ without x ss) ++ n ∷ [])) e)
    by false true e f =
        ap (λ (b : Bool). x ∷ without x (cond b ss (ss ++ n ∷ []))) f
        ∙ sym (ap (λ (b : Bool). cond b (x ∷ without x ss) ((x ∷ without x ss) ++ n ∷ []))
        (ap (λ (b : Bool). b || is_in (without x ss) n) e ∙ found_without n x ss e ∙ f))
    by false false e f =
        ap (λ (b : Bool). x ∷ without x (cond b ss (ss ++ n ∷ []))) f
        ∙ ap (λ (z : List Symbol). x ∷ z) (apart e)
        ∙ sym (ap (λ (b : Bool). cond b (x ∷ without x ss) ((x ∷ without x ss) ++ n ∷ []))
        (ap (λ (b : Bool). b || is_in (without x ss) n) e ∙ found_without n x ss e ∙ f))

-- one more symbol goes behind the others, unless it came before
once_more : (ss : List Symbol) (n : Symbol) → once (ss ++ n ∷ []) ≡ noted (once ss) n
once_more [] n = refl
once_more (x ∷ xs) n = ap (λ (z : List Symbol). x ∷ without x z) (once_more xs n) ∙ symbol_before x n (once xs)

noted_behind : (xs ys : List Symbol) → all_noted (once xs) ys ≡ once (xs ++ ys)
noted_behind xs [] = ap once (sym (append-nil xs))
noted_behind xs (y ∷ ys) =
    ap (λ (z : List Symbol). all_noted z ys) (sym (once_more xs y)) ∙ noted_behind (xs ++ y ∷ []) ys ∙ ap once (append_assoc xs (y ∷ []) ys)

pub noted_once : (ss : List Symbol) → all_noted [] ss ≡ once ss
noted_once ss = noted_behind [] ss
